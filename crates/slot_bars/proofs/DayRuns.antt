-- The first day of lines is the first day of their minutes.
use Rattle.std.proofs.Common.{◌≡◌, ◌∙◌, ℕ, suc, zero, ◌+◌, ◌-◌, ◌/◌, ◌%◌, ◌<◌, ◌≤◌, ◌&&◌, Bool, true, false, List, [], ◌∷◌, ◌++◌, length, get_or, take, drop, refl, ap, sym, arith, append-nil, add-zero, length-append}
use Rattle.std.specs.Prelude.{◌==◌, nat_lt, if◌then◌else◌}
use Rattle.std.specs.List.{list_all}
use Rattle.std.proofs.lemmas.Bool.{ltb-true}
use Rattle.std.proofs.lemmas.Bool.Decides.{nat_tests}
use Rattle.std.proofs.lemmas.List.FromFn.{length-map-range_with_len}
use Rattle.activity_codec.proofs.ByTest.{by_test}
use Rattle.view_model.specs.declared.Viewed.{Viewed}
use Rattle.view_model.specs.declared.Line.{Line}
use Rattle.view_model.specs.Lines.{day_of_minute, goes_on, with_minute, lines_of}
use Rattle.view_text.specs.Exact.{both}
use Rattle.tacho_types.specs.declared.calendar.TheConstants.{DAYS}
use Rattle.file_view.specs.Histories.{line_minutes, minutes_on, AreLines}
use Rattle.slot_bars.specs.DaysOf.{is_before, with_front, day_of, days_of}
use Rattle.file_view.specs.Runs.{is_run}
use Rattle.slot_bars.specs.DayLines.{AreDayLines, day_lines, is_behind, is_behind_at}
use Rattle.file_view.proofs.Growing.{viewed, row, equal, run_parts}

-- each of these lines has minutes, of one day
abbrev AreRuns : {X : Type 0} → List (Line X) → Type 0
AreRuns [] = Unit {0}
AreRuns (line ∷ lines) = (is_run line.first line.last ≡ true) × AreRuns lines

-- the next minute of a day is behind one
next_on_day : (a : ℕ) → a / 1440 ≡ (a + 1) / 1440 → (nat_lt a (a + 1) && a / 1440 == (a + 1) / 1440) ≡ true
next_on_day a day = grind (arith, nat_tests)

-- minutes in a row within a day in front of days
abbrev put_row : {X : Type 0} → X → (first n : ℕ) → List (List (Viewed X)) → List (List (Viewed X))
put_row shown first n [] = row shown first (suc n) ∷ []
put_row shown first n (day ∷ days) =
    if is_before (viewed shown (first + n)) day then (row shown first (suc n) ++ day) ∷ days else row shown first (suc n) ∷ day ∷ days

front_row : {X : Type 0} → (shown : X) (first n : ℕ) (minutes : List (Viewed X)) → first / 1440 ≡ (first + n) / 1440
    → days_of (row shown first (suc n) ++ minutes) ≡ put_row shown first n (days_of minutes)
front_row {X} shown first zero minutes day = alone (days_of minutes)
  where
    alone : (days : List (List (Viewed X))) → with_front (viewed shown first) days ≡ put_row shown first 0 days
    alone [] = refl
    alone (d ∷ days) =
        by_test (is_before (viewed shown first) d)
        (λ on. rw (add-zero first, on) refl)
        (λ off. rw (add-zero first, off) refl)
front_row {X} shown first (suc n) minutes day =
    ap (λ (l : List (List (Viewed X))). with_front (viewed shown first) l) (front_row shown (first + 1) n minutes (omega (arith, day)))
    ∙ more (days_of minutes)
  where
    on_day : (nat_lt first (first + 1) && first / 1440 == (first + 1) / 1440) ≡ true
    on_day = next_on_day first (omega (arith, day))

    place : first + 1 + n ≡ first + suc n
    place = omega arith

    more : (days : List (List (Viewed X))) → with_front (viewed shown first) (put_row shown (first + 1) n days) ≡ put_row shown first (suc n) days
    more [] = rw on_day refl
    more (d ∷ days) =
        by_test (is_before (viewed shown (first + suc n)) d)
        (λ on. rw (place, on, on_day) refl)
        (λ off. rw (place, off, on_day) refl)

-- the minutes of a line are some in a row
line_row : {X : Type 0} → (line : Line X) → line.first ≤ line.last → line_minutes line ≡ row line.shown line.first (suc (line.last - line.first))
line_row line some =
    let long : line.last + 1 - line.first ≡ suc (line.last - line.first) = omega (arith, some) in
    ap (row line.shown line.first) long

front_line : {X : Type 0} → (line : Line X) (minutes : List (Viewed X)) → is_run line.first line.last ≡ true
    → days_of (line_minutes line ++ minutes) ≡ put_row line.shown line.first (line.last - line.first) (days_of minutes)
front_line {X} line minutes run =
    let parts = run_parts line.first line.last run in
    let end : line.first + (line.last - line.first) ≡ line.last = omega (arith, parts.0) in
    ap (λ (l : List (Viewed X)). days_of (l ++ minutes)) (line_row line parts.0)
    ∙ front_row line.shown line.first (line.last - line.first) minutes (parts.1 ∙ ap (λ (k : ℕ). k / 1440) (sym end))

-- a minute is before the minutes of lines where it is before the first of them
before_lines : {X : Type 0} → (m : Viewed X) (line : Line X) (lines : List (Line X)) (k : ℕ) → is_run line.first line.last ≡ true
    → is_before m (minutes_on (take (suc k) (line ∷ lines))) ≡ (nat_lt m.minute line.first && day_of_minute m.minute == day_of_minute line.first)
before_lines {X} m line lines k run =
    ap (λ (l : List (Viewed X)). is_before m (l ++ minutes_on (take k lines))) (line_row line (run_parts line.first line.last run).0)

-- the first day has a line
some_lines : {X : Type 0} → (line : Line X) (lines : List (Line X)) → (k : ℕ) × (day_lines (line ∷ lines) ≡ suc k)
some_lines line [] = (0, refl)
some_lines line (next ∷ lines) =
    by_test (is_behind line next)
    (λ on. (day_lines (next ∷ lines), rw on refl))
    (λ off. (0, rw off refl))

pub day_is : {X : Type 0} → (lines : List (Line X)) → AreDayLines lines → 0 < length lines
    → days_of (minutes_on lines) ≡ minutes_on (take (day_lines lines) lines) ∷ days_of (minutes_on (drop (day_lines lines) lines))
day_is [] runs some = absurd (omega arith)
day_is {X} (line ∷ []) runs some = front_line line [] runs.0 ∙ ap (λ (l : List (Viewed X)). l ∷ []) (sym (line_row line (run_parts line.first line.last runs.0).0) ∙ sym (append-nil (line_minutes line)))
day_is {X} (line ∷ next ∷ lines) runs some =
    let k = (some_lines next lines).0 in
    let long : day_lines (next ∷ lines) ≡ suc (some_lines next lines).0 = (some_lines next lines).1 in
    let first : List (Viewed X) = minutes_on (take (day_lines (next ∷ lines)) (next ∷ lines)) in
    let rest : List (List (Viewed X)) = days_of (minutes_on (drop (day_lines (next ∷ lines)) (next ∷ lines))) in
    let parts = run_parts line.first line.last runs.0 in
    let end : line.first + (line.last - line.first) ≡ line.last = omega (arith, parts.0) in
    let row_is = line_row line parts.0 in
    let behind : is_before (viewed line.shown (line.first + (line.last - line.first))) first ≡ is_behind line next =
    ap (λ (j : ℕ). is_before (viewed line.shown j) first) end
    ∙ ap (λ (j : ℕ). is_before (viewed line.shown line.last) (minutes_on (take j (next ∷ lines)))) long
    ∙ before_lines (viewed line.shown line.last) next lines k runs.2.0 in
    front_line line (minutes_on (next ∷ lines)) runs.0
    ∙ ap (λ (d : List (List (Viewed X))). put_row line.shown line.first (line.last - line.first) d) (day_is (next ∷ lines) runs.2 (omega arith))
    ∙ by_test (is_behind line next)
    (λ on. rw (on, behind ∙ on) (ap (λ (l : List (Viewed X)). (l ++ first) ∷ rest) (sym row_is)))
    (λ off.
    rw (off, behind ∙ off)
    (ap (λ (l : List (Viewed X)). l ∷ first ∷ rest) (sym row_is ∙ sym (append-nil (line_minutes line)))
    ∙ ap (λ (d : List (List (Viewed X))). (line_minutes line ++ []) ∷ d) (sym (day_is (next ∷ lines) runs.2 (omega arith)))))

-- a day has at most 1440 minutes
day_few : {X : Type 0} → (line : Line X) (lines : List (Line X)) → AreDayLines (line ∷ lines)
    → line.first % 1440 + length (minutes_on (take (day_lines (line ∷ lines)) (line ∷ lines))) ≤ 1440
day_few line [] runs =
    let parts = run_parts line.first line.last runs.0 in
    omega (arith, length-append (line_minutes line) [], length-map-range_with_len (viewed line.shown) line.first (line.last + 1 - line.first), parts.0, parts.1)
day_few {X} line (next ∷ lines) runs =
    let parts = run_parts line.first line.last runs.0 in
    let long = length-map-range_with_len (viewed line.shown) line.first (line.last + 1 - line.first) in
    let more = day_few next lines runs.2 in
    by_test (is_behind line next)
    (λ on.
    let rises = both (nat_lt line.last next.first) (day_of_minute line.last == day_of_minute next.first) on in
    let later : line.last < next.first = grind (arith, nat_tests, rises.0) in
    let same : line.last / 1440 ≡ next.first / 1440 = equal (line.last / 1440) (next.first / 1440) rises.1 in
    rw on (omega (arith, length-append (line_minutes line) (minutes_on (take (day_lines (next ∷ lines)) (next ∷ lines))), long, more, later, same, parts.0, parts.1)))
    (λ off. rw off (omega (arith, length-append (line_minutes line) [], long, parts.0, parts.1)))

pub few_minutes : {X : Type 0} → (lines : List (Line X)) → AreDayLines lines → length (minutes_on (take (day_lines lines) lines)) ≤ 1440
few_minutes [] runs = omega arith
few_minutes (line ∷ lines) runs = omega (arith, day_few line lines runs)

-- the lines of the first day, as far as one looked
pub day_goes_on : {X : Type 0} → (lines : List (Line X)) (i : ℕ) → is_behind_at lines i ≡ true → day_lines (drop i lines) ≡ suc (day_lines (drop (i + 1) lines))
day_goes_on [] i on = absurd (cc)
day_goes_on (line ∷ []) i on = absurd (cc)
day_goes_on (line ∷ next ∷ lines) zero on = rw on refl
day_goes_on (line ∷ next ∷ lines) (suc i) on = let more : suc i + 1 ≡ suc (i + 1) = omega arith in rw more (day_goes_on (next ∷ lines) i on)

pub behind_low : {X : Type 0} → (lines : List (Line X)) (i : ℕ) → is_behind_at lines i ≡ true → i + 1 < length lines
behind_low [] i on = absurd (cc)
behind_low (line ∷ []) i on = absurd (cc)
behind_low (line ∷ next ∷ lines) zero on = omega arith
behind_low (line ∷ next ∷ lines) (suc i) on = omega (arith, behind_low (next ∷ lines) i on)

pub day_ends : {X : Type 0} → (lines : List (Line X)) (i : ℕ) → i < length lines → is_behind_at lines i ≡ false → day_lines (drop i lines) ≡ 1
day_ends [] i low off = absurd (omega arith)
day_ends (line ∷ []) zero low off = refl
day_ends (line ∷ []) (suc i) low off = absurd (omega arith)
day_ends (line ∷ next ∷ lines) zero low off = rw off refl
day_ends (line ∷ next ∷ lines) (suc i) low off = day_ends (next ∷ lines) i (omega arith) off

-- what a look at two lines tells
pub looked_behind : {X : Type 0} → (lines : List (Line X)) (i : ℕ) (d e : Line X) → i + 1 < length lines → is_behind (get_or lines i d) (get_or lines (i + 1) e) ≡ is_behind_at lines i
looked_behind [] i d e low = absurd (omega arith)
looked_behind (line ∷ []) i d e low = absurd (omega arith)
looked_behind (line ∷ next ∷ lines) zero d e low = refl
looked_behind (line ∷ next ∷ lines) (suc i) d e low = let more : suc i + 1 ≡ suc (i + 1) = omega arith in rw more (looked_behind (next ∷ lines) i d e (omega arith))

pub none_behind : {X : Type 0} → (lines : List (Line X)) (i : ℕ) → length lines ≤ i + 1 → false ≡ is_behind_at lines i
none_behind [] i high = refl
none_behind (line ∷ []) i high = refl
none_behind (line ∷ next ∷ lines) zero high = absurd (omega arith)
none_behind (line ∷ next ∷ lines) (suc i) high = none_behind (next ∷ lines) i (omega arith)

-- the first lines, and those behind them
pub dated_front : {X : Type 0} → (lines : List (Line X)) (k : ℕ) → AreDayLines lines → AreDayLines (take k lines)
dated_front [] zero dated = tt
dated_front [] (suc k) dated = tt
dated_front (line ∷ lines) zero dated = tt
dated_front (line ∷ lines) (suc k) dated = (dated.0, dated.1, dated_front lines k dated.2)

pub dated_behind : {X : Type 0} → (lines : List (Line X)) (k : ℕ) → AreDayLines lines → AreDayLines (drop k lines)
dated_behind [] zero dated = tt
dated_behind [] (suc k) dated = tt
dated_behind (line ∷ lines) zero dated = dated
dated_behind (line ∷ lines) (suc k) dated = dated_behind lines k dated.2

-- the day of lines is that of the first minute of the first
pub first_of_day : {X : Type 0} → (lines : List (Line X)) (d : Line X) → 0 < length lines → AreDayLines lines
    → (get_or lines 0 d).first / 1440 ≡ day_of (minutes_on lines)
first_of_day [] d some dated = absurd (omega arith)
first_of_day {X} (line ∷ lines) d some dated =
    ap (λ (l : List (Viewed X)). day_of (l ++ minutes_on lines)) (sym (line_row line (run_parts line.first line.last dated.0).0))

pub first_low : {X : Type 0} → (lines : List (Line X)) (d : Line X) → 0 < length lines → AreDayLines lines → (get_or lines 0 d).first / 1440 < DAYS
first_low [] d some dated = absurd (omega arith)
first_low (line ∷ lines) d some dated = dated.1

-- the lines of minutes on such days are such lines
module _ {X : Type 0} (same : X → X → Bool) where
  runs_alone : (k : ℕ) → is_run k k ≡ true
  runs_alone k = grind (arith, nat_tests)

  longer : (k first last : ℕ) → k + 1 ≡ first → k / 1440 ≡ first / 1440 → first ≤ last → first / 1440 ≡ last / 1440 → is_run k last ≡ true
  longer k first last next day some run = grind (arith, nat_tests)

  runs_in_front : (m : Viewed X) (lines : List (Line X)) → AreRuns lines → AreRuns (with_minute same m lines)
  runs_in_front m [] runs = (runs_alone m.minute, tt)
  runs_in_front m (line ∷ lines) runs =
      by_test (goes_on same m line)
      (λ on.
      let parts = both (m.minute + 1 == line.first && day_of_minute m.minute == day_of_minute line.first) (same m.shown line.shown) on in
      let next = both (m.minute + 1 == line.first) (day_of_minute m.minute == day_of_minute line.first) parts.0 in
      let run = run_parts line.first line.last runs.0 in
      rw on (longer m.minute line.first line.last (equal (m.minute + 1) line.first next.0) (equal (m.minute / 1440) (line.first / 1440) next.1) run.0 run.1, runs.1))
      (λ off. rw off (runs_alone m.minute, runs))

  runs_of : (minutes : List (Viewed X)) → AreRuns (lines_of same minutes)
  runs_of [] = tt
  runs_of (m ∷ minutes) = runs_in_front m (lines_of same minutes) (runs_of minutes)

dated : {X : Type 0} → (lines : List (Line X)) → AreRuns lines → list_all (λ (line : Line X). nat_lt (day_of_minute line.first) DAYS) lines ≡ true → AreDayLines lines
dated [] runs low = tt
dated (line ∷ lines) runs low =
    let parts = both (nat_lt (day_of_minute line.first) DAYS) (list_all (λ (l : Line _). nat_lt (day_of_minute l.first) DAYS) lines) low in
    (runs.0, ltb-true (day_of_minute line.first) DAYS parts.0, dated lines runs.1 parts.1)

pub are_dated : {X : Type 0} → (same : X → X → Bool) (lines : List (Line X)) → AreLines same lines → AreDayLines lines
are_dated same lines are = dated lines (rw are.exact (runs_of same (minutes_on lines))) are.days
