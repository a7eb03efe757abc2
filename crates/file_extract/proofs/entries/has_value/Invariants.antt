use Rattle.std.proofs.Common.{◌≡◌, take, false}
use Rattle.std.specs.List.{list_any}
use Rattle.file_extract.specs.Reading.{is_value_at}
use Rattle.file_extract.proofs.entries.has_value.Given as goal

-- none so far
abbrev pub invariant-loop-entry : goal.invariant-loop-entry
invariant-loop-entry l = list_any (is_value_at l.fid) (take l.entry-index l.entries) ≡ false
