use Rattle.std.proofs.Common.{◌≡◌, [], true, take}
use Rattle.link_model.specs.Hearing.{is_kept, heard_in, kept_after}
use Rattle.link_frames.proofs.hearing.hear.Given as goal

-- nothing was heard so far, and what the bytes so far leave is kept
abbrev pub invariant-loop-i : goal.invariant-loop-i
invariant-loop-i l = record {
  quiet : heard_in l.end l.fn.kept.items (take l.i l.bytes) ≡ [];
  same : l.kept.items ≡ kept_after l.end l.fn.kept.items (take l.i l.bytes);
  stays : is_kept l.end l.kept.items ≡ true;
}
