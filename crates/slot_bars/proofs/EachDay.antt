-- The pieces of days, one after the other.
use Rattle.std.proofs.Common.{◌≡◌, ◌∙◌, ℕ, ◌+◌, List, [], ◌∷◌, ◌++◌, ◌≤◌, length, take, drop, refl, ap, sym, subst, arith, append_assoc, append-nil}
use Rattle.calendar_days.specs.Calendar.{IsDateText}
use Rattle.view_model.specs.declared.Viewed.{Viewed}
use Rattle.view_model.specs.declared.Line.{Line}
use Rattle.file_view.specs.Histories.{minutes_on}
use Rattle.slot_bars.specs.DaysOf.{day_of, days_of, AreEach}

module _ {X : Type 0} (piece : ℕ → List ℕ → List (Viewed X) → List ℕ) (all : List (Line X)) where
  -- what is written with the pieces of the days behind is the whole
  abbrev pub IsSoFar : (place : ℕ) (rest : List (Line X)) (text : List ℕ) → Type 0
  IsSoFar place rest text = (tail : List ℕ) → AreEach piece place (days_of (minutes_on rest)) tail → AreEach piece 0 (days_of (minutes_on all)) (text ++ tail)

  pub begun : (text : List ℕ) → text ≡ [] → IsSoFar 0 all text
  begun text none = λ tail are. rw none are

  -- one day more
  pub one_more : (place : ℕ) (rest front behind : List (Line X)) (text new date : List ℕ) → days_of (minutes_on rest) ≡ minutes_on front ∷ days_of (minutes_on behind)
      → IsSoFar place rest text → IsDateText (day_of (minutes_on front)) date → new ≡ text ++ piece place date (minutes_on front) → IsSoFar (place + 1) behind new
  one_more place rest front behind text new date split so_far dated is = λ tail are.
      let more : List ℕ = piece place date (minutes_on front) ++ tail in
      let each : AreEach piece place (days_of (minutes_on rest)) (piece place date (minutes_on front) ++ tail) = rw split (date, tail, dated, refl, are) in
      subst (λ (l : List ℕ). AreEach piece 0 (days_of (minutes_on all)) l)
      (sym (append_assoc text (piece place date (minutes_on front)) tail) ∙ ap (λ (l : List ℕ). l ++ tail) (sym is))
      (so_far (piece place date (minutes_on front) ++ tail) each)

  -- no day is left
  pub all_days : (place : ℕ) (rest : List (Line X)) (text : List ℕ) → rest ≡ [] → IsSoFar place rest text → AreEach piece 0 (days_of (minutes_on all)) text
  all_days place rest text none so_far =
      subst (λ (l : List ℕ). AreEach piece 0 (days_of (minutes_on all)) l) (append-nil text) (so_far [] (rw none refl))

-- the first day and those behind it
pub split_days : {X : Type 0} → (rest front behind : List (Line X)) (n : ℕ) → front ≡ take n rest → behind ≡ drop n rest
    → days_of (minutes_on rest) ≡ minutes_on (take n rest) ∷ days_of (minutes_on (drop n rest)) → days_of (minutes_on rest) ≡ minutes_on front ∷ days_of (minutes_on behind)
split_days {X} rest front behind n first more is =
    is ∙ ap (λ (l : List (Line X)). minutes_on l ∷ days_of (minutes_on (drop n rest))) (sym first) ∙ ap (λ (l : List (Line X)). minutes_on front ∷ days_of (minutes_on l)) (sym more)

pub none_left : {X : Type 0} → (rest : List X) → length rest ≤ 0 → rest ≡ []
none_left [] none = refl
none_left (x ∷ rest) none = absurd (omega (arith, none))
