use Rattle.std.proofs.Common.{◌≡◌, ◌++◌, List, map, take}
use Rattle.activity_codec.specs.declared.entries.Entry.{Entry}
use Rattle.card_match.specs.Matching.{Against}
use Rattle.card_match.specs.Cases.{case_of, AreRising}
use Rattle.card_match.proofs.cases.tell_uses.Given as goal

-- the uses so far
abbrev pub invariant-loop-u : goal.invariant-loop-u
invariant-loop-u l = record {
  rising : AreRising l.cases;
  told : (a : Against) (entries : List Entry) → l.initial.cases ≡ map (case_of a) entries → l.cases ≡ map (case_of (record { uses = a.uses ++ take l.u-index l.uses; minutes = a.minutes })) entries;
}
