-- The first day of minutes, from what is known of each day: whether one of them lies on it or an earlier one.
use Rattle.std.proofs.Common.{◌≡◌, ◌∙◌, ℕ, ◌<◌, ◌≤◌, ◌||◌, Bool, true, false, Some, None, List, [], ◌∷◌, map, refl, sym, subst, arith}
use Rattle.std.specs.Prelude.{nat_le, ◌==◌}
use Rattle.std.specs.List.{list_any, AllByRecursion}
use Rattle.std.proofs.lemmas.Bool.Decides.{nat_tests}
use Rattle.activity_codec.proofs.ByTest.{by_test}
use Rattle.view_model.specs.declared.UnitShown.{UnitShown}
use Rattle.view_model.specs.declared.Viewed.{Viewed}
use Rattle.view_model.specs.declared.Line.{Line}
use Rattle.view_model.specs.Lines.{same_unit, day_of_minute}
use Rattle.tacho_types.specs.declared.calendar.TheConstants.{DAYS}
use Rattle.unit_model.specs.Days.{UnitMinute}
use Rattle.file_view.specs.Histories.{AreLines, minutes_on, minute_told}
use Rattle.file_view.proofs.Lines.{all_low}
use Rattle.card_match.specs.Cases.{begins_by, is_from}
use Rattle.card_match.proofs.Few.{minutes_low}
use Rattle.file_calls.specs.Asking.{IsLeastDay}

abbrev OnDays : (day : ℕ) → List UnitMinute → Type 0
OnDays day minutes = AllByRecursion (λ (m : UnitMinute). day ≤ day_of_minute m.minute) minutes

abbrev HasOn : (day : ℕ) → List UnitMinute → Bool
HasOn day minutes = list_any (λ (m : UnitMinute). day_of_minute m.minute == day) minutes

true_left : (a b : Bool) → a ≡ true → (a || b) ≡ true
true_left true b is = refl
true_left false b is = absurd (cc)

true_right : (a b : Bool) → b ≡ true → (a || b) ≡ true
true_right true b is = refl
true_right false b is = is

not_left : (a b : Bool) → a ≡ false → (a || b) ≡ true → b ≡ true
not_left true b none is = absurd (cc)
not_left false b none is = is

le_self : (n : ℕ) → nat_le n n ≡ true
le_self n = grind (arith, nat_tests)

le_by : (m n : ℕ) → nat_le m n ≡ true → m ≤ n
le_by m n is = grind (arith, nat_tests)

-- where no day is begun by there is no minute
pub none_begun : (minutes : List UnitMinute) → ((day : ℕ) → begins_by minutes day ≡ is_from None day) → minutes ≡ []
none_begun [] none = refl
none_begun (m ∷ ms) none =
    let yes : begins_by (m ∷ ms) (day_of_minute m.minute) ≡ true = true_left (nat_le (day_of_minute m.minute) (day_of_minute m.minute)) (begins_by ms (day_of_minute m.minute)) (le_self (day_of_minute m.minute)) in
    let not_so : true ≡ false = sym yes ∙ none (day_of_minute m.minute) in
    absurd (cc)

least_all : (minutes : List UnitMinute) (first : ℕ) → ((day : ℕ) → begins_by minutes day ≡ true → first ≤ day) → OnDays first minutes
least_all [] first late = tt
least_all (m ∷ ms) first late = (
  late (day_of_minute m.minute) (true_left (nat_le (day_of_minute m.minute) (day_of_minute m.minute)) (begins_by ms (day_of_minute m.minute)) (le_self (day_of_minute m.minute))),
  least_all ms first (λ day is. late day (true_right (nat_le (day_of_minute m.minute) day) (begins_by ms day) is)),
)

later_not : (day first : ℕ) → first ≤ day → (day == first) ≡ false → nat_le day first ≡ false
later_not day first le apart = grind (arith, nat_tests)

there_is : (minutes : List UnitMinute) (first : ℕ) → begins_by minutes first ≡ true → OnDays first minutes → HasOn first minutes ≡ true
there_is [] first is all = absurd (cc)
there_is (m ∷ ms) first is all =
    by_test (day_of_minute m.minute == first)
    (λ yes. true_left (day_of_minute m.minute == first) (HasOn first ms) yes)
    (λ no.
    let later : nat_le (day_of_minute m.minute) first ≡ false = later_not (day_of_minute m.minute) first all.0 no in
    true_right (day_of_minute m.minute == first) (HasOn first ms) (there_is ms first (not_left (nat_le (day_of_minute m.minute) first) (begins_by ms first) later is) all.1))

-- and the first day is the least one
pub least_begun : (minutes : List UnitMinute) (first : ℕ) → ((day : ℕ) → begins_by minutes day ≡ is_from (Some first) day) → IsLeastDay minutes first
least_begun minutes first is =
    let all = least_all minutes first (λ day begun. le_by first day (sym (is day) ∙ begun)) in
    record { there = there_is minutes first (is first ∙ le_self first) all; least = all }

-- ---- it is one that a time of four bytes can name

told_low : (shown : List (Viewed UnitShown)) → AllByRecursion (λ (v : Viewed UnitShown). day_of_minute v.minute < DAYS) shown → AllByRecursion (λ (m : UnitMinute). day_of_minute m.minute < DAYS) (map minute_told shown)
told_low [] all = tt
told_low (v ∷ vs) all = (all.0, told_low vs all.1)

equal : (a b : ℕ) → (a == b) ≡ true → a ≡ b
equal a b is = grind (arith, nat_tests)

on_low : (minutes : List UnitMinute) (day : ℕ) → HasOn day minutes ≡ true → AllByRecursion (λ (m : UnitMinute). day_of_minute m.minute < DAYS) minutes → day < DAYS
on_low [] day is all = absurd (cc)
on_low (m ∷ ms) day is all =
    by_test (day_of_minute m.minute == day)
    (λ yes. subst (λ (d : ℕ). d < DAYS) (equal (day_of_minute m.minute) day yes) all.0)
    (λ no. on_low ms day (not_left (day_of_minute m.minute == day) (HasOn day ms) no is) all.1)

pub least_low : (lines : List (Line UnitShown)) (day : ℕ) → AreLines same_unit lines → IsLeastDay (map minute_told (minutes_on lines)) day → day < DAYS
least_low lines day are is =
    on_low (map minute_told (minutes_on lines)) day is.there
    (told_low (minutes_on lines) (minutes_low same_unit DAYS (minutes_on lines) (subst (λ (ls : List (Line UnitShown)). AllByRecursion (λ (l : Line UnitShown). day_of_minute l.first < DAYS) ls) are.exact (all_low lines are.days))))
