use Rattle.std.proofs.Common.{map, string_bytes}
use Rattle.outside_files.proofs.NameLemmas.{SoFar}
use Rattle.outside_files.proofs.names.words_before_names.Given as goal

-- what is said of all words, of those so far
abbrev pub invariant-loop-i : goal.invariant-loop-i
invariant-loop-i l = SoFar (map string_bytes l.words) l.before l.i
