-- The minutes of lines, one minute and one line more.
use Rattle.std.proofs.Common.{◌≡◌, ◌∙◌, ℕ, ◌+◌, List, [], ◌∷◌, ◌++◌, map, ap, sym, append_assoc, append-nil}
use Rattle.std.specs.List.{range_with_len}
use Rattle.std.proofs.lemmas.List.{map-append}
use Rattle.std.proofs.lemmas.List.FromFn.{map-range_with_len_more}
use Rattle.activity_codec.specs.declared.entries.Entry.{Entry}
use Rattle.view_model.specs.declared.UnitShown.{UnitShown}
use Rattle.view_model.specs.declared.CardShown.{CardShown}
use Rattle.view_model.specs.declared.Viewed.{Viewed}
use Rattle.view_model.specs.declared.Line.{Line}
use Rattle.file_view.specs.Histories.{minute_told, entry_told, line_minutes, minutes_on}
use Rattle.card_match.specs.Cases.{fresh}
use Rattle.card_match.specs.declared.cases.Case.{Case}

abbrev pub viewed : {X : Type 0} → X → ℕ → Viewed X
viewed shown k = record { minute = k; shown = shown }

-- the minutes of lines and of one more
pub on_more : {X : Type 0} → (lines : List (Line X)) (line : Line X) → minutes_on (lines ++ line ∷ []) ≡ minutes_on lines ++ line_minutes line
on_more [] line = append-nil (line_minutes line)
on_more {X} (l ∷ ls) line = ap (λ (ms : List (Viewed X)). line_minutes l ++ ms) (on_more ls line) ∙ sym (append_assoc (line_minutes l) (minutes_on ls) (line_minutes line))

pub unit_more : (lines : List (Line UnitShown)) (line : Line UnitShown) → map minute_told (minutes_on (lines ++ line ∷ [])) ≡ map minute_told (minutes_on lines) ++ map minute_told (line_minutes line)
unit_more lines line = ap (λ (l : List (Viewed UnitShown)). map minute_told l) (on_more lines line) ∙ map-append minute_told (minutes_on lines) (line_minutes line)

-- the cases of minutes
abbrev pub cases_on : List (Viewed CardShown) → List Case
cases_on minutes = map fresh (map entry_told minutes)

cases_append : (xs ys : List (Viewed CardShown)) → cases_on (xs ++ ys) ≡ cases_on xs ++ cases_on ys
cases_append xs ys = ap (λ (l : List Entry). map fresh l) (map-append entry_told xs ys) ∙ map-append fresh (map entry_told xs) (map entry_told ys)

pub cases_more : (lines : List (Line CardShown)) (line : Line CardShown) → cases_on (minutes_on (lines ++ line ∷ [])) ≡ cases_on (minutes_on lines) ++ cases_on (line_minutes line)
cases_more lines line = ap (λ (l : List (Viewed CardShown)). cases_on l) (on_more lines line) ∙ cases_append (minutes_on lines) (line_minutes line)

-- and one minute more
pub range_more : (shown : CardShown) (a n j : ℕ) → a + n ≡ j → cases_on (map (viewed shown) (range_with_len a (n + 1))) ≡ cases_on (map (viewed shown) (range_with_len a n)) ++ fresh (entry_told (viewed shown j)) ∷ []
range_more shown a n j is =
    ap (λ (l : List (Viewed CardShown)). cases_on l) (map-range_with_len_more (viewed shown) a n j is)
    ∙ cases_append (map (viewed shown) (range_with_len a n)) (viewed shown j ∷ [])
