-- The text of lines and of one more, and the days of lines.
use Rattle.std.proofs.Common.{◌≡◌, ◌∙◌, ℕ, suc, zero, ◌<◌, Bool, List, [], ◌∷◌, ◌++◌, length, get_or, refl, ap, sym, arith, append_assoc, append-nil}
use Rattle.std.specs.List.{AllByRecursion}
use Rattle.std.specs.Prelude.{map}
use Rattle.activity_codec.proofs.ByTest.{by_test}
use Rattle.activity_codec.specs.declared.entries.Entry.{Entry}
use Rattle.view_model.specs.declared.Viewed.{Viewed}
use Rattle.view_model.specs.declared.CardShown.{CardShown}
use Rattle.view_model.specs.declared.Line.{Line}
use Rattle.view_model.specs.Lines.{day_of_minute, goes_on, with_minute, lines_of}
use Rattle.view_text.specs.Text.{IsTextOf, line_text}
use Rattle.view_text.specs.Adding.{AddsLine}
use Rattle.view_text.specs.Entries.{entry_shown}

-- one more line
pub text-more : {X : Type 0} → (words : X → List ℕ) (lines : List (Line X)) (line : Line X) (text new : List ℕ) → IsTextOf words lines text → AddsLine words text new line → IsTextOf words (lines ++ line ∷ []) new
text-more words [] line text new is more =
    (more.0, [], more.1, more.2 ∙ ap (λ (t : List ℕ). t ++ more.0 ++ line_text words line) is ∙ sym (append-nil (more.0 ++ line_text words line)), refl)
text-more words (first ∷ lines) line text new is more =
    let e : new ≡ is.0 ++ line_text words first ++ (is.1 ++ more.0 ++ line_text words line) = more.2 ∙ ap (λ (t : List ℕ). t ++ more.0 ++ line_text words line) is.3 ∙ simp append_assoc in
    (is.0, is.1 ++ more.0 ++ line_text words line, is.2, e, text-more words lines line is.1 (is.1 ++ more.0 ++ line_text words line) is.4 (more.0, more.1, refl))

-- the lines of minutes on days below a bound begin on such days
minute-below : {X : Type 0} → (bound : ℕ) (same : X → X → Bool) (m : Viewed X) (lines : List (Line X)) → day_of_minute m.minute < bound → AllByRecursion (λ (l : Line X). day_of_minute l.first < bound) lines → AllByRecursion (λ (l : Line X). day_of_minute l.first < bound) (with_minute same m lines)
minute-below bound same m [] lt all = (lt, tt)
minute-below bound same m (next ∷ lines) lt all =
    by_test (goes_on same m next)
    (λ joined. rw joined (lt, all.1))
    (λ apart. rw apart (lt, all))

pub lines-below : {X : Type 0} → (bound : ℕ) (same : X → X → Bool) (minutes : List (Viewed X)) → AllByRecursion (λ (m : Viewed X). day_of_minute m.minute < bound) minutes → AllByRecursion (λ (l : Line X). day_of_minute l.first < bound) (lines_of same minutes)
lines-below bound same [] all = tt
lines-below bound same (m ∷ minutes) all = minute-below bound same m (lines_of same minutes) all.0 (lines-below bound same minutes all.1)

-- a line at an index
pub below-at : {X : Type 0} → (bound : ℕ) (lines : List (Line X)) (i : ℕ) (d : Line X) → i < length lines → AllByRecursion (λ (l : Line X). day_of_minute l.first < bound) lines → day_of_minute (get_or lines i d).first < bound
below-at bound [] i d lt all = absurd (omega (arith, lt))
below-at bound (x ∷ lines) zero d lt all = all.0
below-at bound (x ∷ lines) (suc i) d lt all = below-at bound lines i d (omega (arith, lt)) all.1

-- entries on days below a bound are shown on such days
pub entries-below : (bound : ℕ) (entries : List Entry) → AllByRecursion (λ (e : Entry). day_of_minute e.minute < bound) entries → AllByRecursion (λ (m : Viewed CardShown). day_of_minute m.minute < bound) (map entry_shown entries)
entries-below bound [] all = tt
entries-below bound (e ∷ entries) all = (all.0, entries-below bound entries all.1)
