-- What lines show of a minute: what the first line that has it shows.
use Rattle.std.proofs.Common.{◌≡◌, ◌∙◌, ℕ, ◌+◌, ◌<◌, Bool, true, false, Option, Some, None, List, [], ◌∷◌, ◌++◌, length, get_or, take, drop, map, ap, sym}
use Rattle.std.specs.Prelude.{◌==◌, if◌then◌else◌}
use Rattle.std.proofs.lemmas.List.{take_more, take-append-drop, map-append}
use Rattle.activity_codec.proofs.ByTest.{by_test}
use Rattle.activity_codec.specs.declared.entries.Entry.{Entry}
use Rattle.activity_codec.specs.declared.values.Activity.TheVariants.{Rest}
use Rattle.activity_codec.specs.declared.values.Slot.TheVariants.{Driver}
use Rattle.view_model.specs.declared.UnitShown.{UnitShown}
use Rattle.view_model.specs.declared.Line.{Line}
use Rattle.unit_model.specs.Days.{UnitMinute}
use Rattle.file_view.specs.Histories.{minute_told, minutes_on}
use Rattle.slot_bars.proofs.Runs.{on_append}
use Rattle.card_match.specs.Matching.{Against, is_within}
use Rattle.card_match.specs.Cases.{case_of, line_use, with_line, first_seen}
use Rattle.card_match.specs.declared.cases.Case.{Case}
use Rattle.card_match.proofs.Empty.{no_unit_line}
use Rattle.card_match.proofs.Lines.{unit_more}
use Rattle.card_match.proofs.Telling.{one_line}
use Rattle.file_calls.specs.Asking.{shown_at}

abbrev pub told : List (Line UnitShown) → List UnitMinute
told lines = map minute_told (minutes_on lines)

abbrev entry_at : ℕ → Entry
entry_at n = record { minute = n; slot = Driver; crew = false; act = Rest }

abbrev by_minutes : List UnitMinute → Against
by_minutes minutes = record { uses = []; minutes = minutes }

-- after one line more it is what a case has seen that was told of that
line_seen : (lines : List (Line UnitShown)) (line : Line UnitShown) (n : ℕ) → shown_at (told (lines ++ line ∷ [])) n ≡ (with_line line (case_of (by_minutes (told lines)) (entry_at n))).seen
line_seen lines line n =
    ap (λ (ms : List UnitMinute). shown_at ms n) (unit_more lines line)
    ∙ sym (ap (λ (c : Case). c.seen) (one_line (by_minutes (told lines)) line (entry_at n)))

seen_within : (within : Bool) (c : Case) (s : UnitShown) → within ≡ true → c.seen ≡ None → (let d : Case = record { entry = c.entry; own = c.own; seen = first_seen c.seen (Some s) } in let e : Case = if within then d else c in e.seen) ≡ Some s
seen_within true c s is none = ap (λ (o : Option UnitShown). first_seen o (Some s)) none
seen_within false c s is none = absurd (cc)

seen_without : (within : Bool) (c : Case) (s : UnitShown) → within ≡ false → c.seen ≡ None → (let d : Case = record { entry = c.entry; own = c.own; seen = first_seen c.seen (Some s) } in let e : Case = if within then d else c in e.seen) ≡ None
seen_without true c s is none = absurd (cc)
seen_without false c s is none = none

-- what a front shows, all of it shows
shown_front : (xs ys : List UnitMinute) (n : ℕ) (s : UnitShown) → shown_at xs n ≡ Some s → shown_at (xs ++ ys) n ≡ Some s
shown_front [] ys n s is = absurd (cc)
shown_front (x ∷ xs) ys n s is =
    by_test (x.minute == n)
    (λ yes. let here = rw yes at is in rw yes here)
    (λ no. let later = rw no at is in rw no (shown_front xs ys n s later))

parts_at : (lines : List (Line UnitShown)) (i : ℕ) → told lines ≡ told (take i lines) ++ told (drop i lines)
parts_at lines i =
    ap (λ (ls : List (Line UnitShown)). told ls) (sym (take-append-drop i lines))
    ∙ ap (map minute_told) (on_append (take i lines) (drop i lines))
    ∙ map-append minute_told (minutes_on (take i lines)) (minutes_on (drop i lines))

module _ (lines : List (Line UnitShown)) (i n : ℕ) (low : i < length lines) (none : shown_at (told (take i lines)) n ≡ None) where
  more : shown_at (told (take (i + 1) lines)) n ≡ (with_line (get_or lines i no_unit_line) (case_of (by_minutes (told (take i lines))) (entry_at n))).seen
  more = ap (λ (ls : List (Line UnitShown)). shown_at (told ls) n) (take_more lines i no_unit_line low) ∙ line_seen (take i lines) (get_or lines i no_unit_line) n

  pub found_at : is_within n (line_use (get_or lines i no_unit_line)) ≡ true → shown_at (told lines) n ≡ Some (get_or lines i no_unit_line).shown
  found_at within =
      ap (λ (ms : List UnitMinute). shown_at ms n) (parts_at lines (i + 1))
      ∙ shown_front (told (take (i + 1) lines)) (told (drop (i + 1) lines)) n (get_or lines i no_unit_line).shown
      (more ∙ seen_within (is_within n (line_use (get_or lines i no_unit_line))) (case_of (by_minutes (told (take i lines))) (entry_at n)) (get_or lines i no_unit_line).shown within none)

  pub passed_at : is_within n (line_use (get_or lines i no_unit_line)) ≡ false → shown_at (told (take (i + 1) lines)) n ≡ None
  passed_at without = more ∙ seen_without (is_within n (line_use (get_or lines i no_unit_line))) (case_of (by_minutes (told (take i lines))) (entry_at n)) (get_or lines i no_unit_line).shown without none
