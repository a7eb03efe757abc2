use Rattle.std.proofs.Common.{◌≡◌, ◌≤◌, ℕ, List, map, take}
use Rattle.activity_codec.specs.declared.entries.Entry.{Entry}
use Rattle.view_model.specs.Lines.{lines_of}
use Rattle.card_match.specs.Matching.{Against}
use Rattle.card_match.specs.Differences.{same_difference, differences, AreCounted}
use Rattle.card_match.specs.Cases.{case_of, begins_by, is_from, total}
use Rattle.card_match.proofs.verdict.find_differences.Given as goal

-- the cases so far
abbrev pub invariant-loop-case : goal.invariant-loop-case
invariant-loop-case l = record {
  few : total l.counts ≤ l.case-index;
  counted : (a : Against) (entries : List Entry) → l.cases ≡ map (case_of a) entries → ((day : ℕ) → begins_by a.minutes day ≡ is_from l.fn.first day) → AreCounted a (take l.case-index entries) l.counts;
  listed : (a : Against) (entries : List Entry) → l.cases ≡ map (case_of a) entries → ((day : ℕ) → begins_by a.minutes day ≡ is_from l.fn.first day) → l.runs.items ≡ lines_of same_difference (differences a (take l.case-index entries));
}
