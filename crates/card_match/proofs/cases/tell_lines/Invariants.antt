use Rattle.std.proofs.Common.{◌≡◌, ◌++◌, List, map, take}
use Rattle.activity_codec.specs.declared.entries.Entry.{Entry}
use Rattle.file_view.specs.Histories.{minute_told, minutes_on}
use Rattle.card_match.specs.Matching.{Against}
use Rattle.card_match.specs.Cases.{case_of, AreRising}
use Rattle.card_match.proofs.cases.tell_lines.Given as goal

-- the lines so far
abbrev pub invariant-loop-line : goal.invariant-loop-line
invariant-loop-line l = record {
  rising : AreRising l.cases;
  told : (a : Against) (entries : List Entry) → l.initial.cases ≡ map (case_of a) entries → l.cases ≡ map (case_of (record { uses = a.uses; minutes = a.minutes ++ map minute_told (minutes_on (take l.line-index l.lines)) })) entries;
}
