-- The lines of a minute of which the same is shown again and again: those of a day stand on one line.
use Rattle.std.proofs.Common.{◌≡◌, ◌∙◌, ℕ, suc, zero, ◌+◌, ◌%◌, ◌<◌, Bool, true, false, ◌&&◌, List, [], ◌∷◌, ◌++◌, length, map, get_or, set, refl, ap, sym, arith, append_assoc, append-nil}
use Rattle.std.specs.Prelude.{◌==◌}
use Rattle.std.proofs.lemmas.Bool.{eq-eqb}
use Rattle.std.proofs.lemmas.List.{map-append}
use Rattle.activity_codec.proofs.ByTest.{by_test}
use Rattle.activity_codec.specs.declared.values.Activity.TheVariants.{Rest}
use Rattle.minute_model.specs.declared.Minute.{Minute}
use Rattle.minute_rules.specs.Alike.{minute_later, repeated}
use Rattle.minute_rules.proofs.Tallies.{same_activity-self}
use Rattle.view_model.specs.declared.State.{State}
use Rattle.view_model.specs.declared.UnitShown.{UnitShown}
use Rattle.view_model.specs.declared.Viewed.{Viewed}
use Rattle.view_model.specs.declared.Line.{Line}
use Rattle.view_model.specs.Lines.{day_of_minute, same_bool, same_state, same_unit, lines_of}
use Rattle.view_text.specs.Exact.{both, unit_exact}
use Rattle.view_text.specs.Growing.{follows, line_at, up_to, with_more}
use Rattle.view_text.proofs.More.{lines_of-more}
use Rattle.tacho.specs.Minutes.{without_card}
use Rattle.tacho.specs.LineRuns.{minute_after, shown_run, to_minute, ended_at}

-- what an index gives where there is nothing
abbrev pub no_minute : Minute
no_minute = record { minute = 0; driver = Rest; codriver = Rest; travelled = 0 }

abbrev pub no_line : Line UnitShown
no_line = record { first = 0; last = 0; shown = record { driver = record { act = Rest; present = false }; codriver = record { act = Rest; present = false }; crew = false } }

-- 1. THE SAME IS SHOWN OF EQUAL VALUES

same_bool-self : (b : Bool) → same_bool b b ≡ true
same_bool-self true = refl
same_bool-self false = refl

same_state-self : (s : State) → same_state s s ≡ true
same_state-self s = rw (same_activity-self s.act, same_bool-self s.present) refl

same_unit-self : (u : UnitShown) → same_unit u u ≡ true
same_unit-self u = rw (same_state-self u.driver, same_state-self u.codriver, same_bool-self u.crew) refl

-- 2. THE LAST LINE

-- lines of which the last one ends with a minute, and shows what it shows
record EndsWith (m : Viewed UnitShown) (lines : List (Line UnitShown)) : Type 0 where
  front : List (Line UnitShown)
  line : Line UnitShown
  are : lines ≡ front ++ line ∷ []
  last : line.last ≡ m.minute
  shown : line.shown ≡ m.shown

ends_more : (lines : List (Line UnitShown)) (m : Viewed UnitShown) → EndsWith m (with_more same_unit lines m)
ends_more [] m = record { front = []; line = line_at m; are = refl; last = refl; shown = refl }
ends_more (line ∷ []) m =
    by_test (follows same_unit line m)
    (λ on. record {
      front = [];
      line = up_to m line;
      are = rw on refl;
      last = refl;
      shown = unit_exact line.shown m.shown (both (line.last + 1 == m.minute && day_of_minute line.last == day_of_minute m.minute) (same_unit line.shown m.shown) on).1;
    })
    (λ off. record { front = line ∷ []; line = line_at m; are = rw off refl; last = refl; shown = refl })
ends_more (line ∷ next ∷ lines) m =
    let rest = ends_more (next ∷ lines) m in
    record { front = line ∷ rest.front; line = rest.line; are = ap (λ (ls : List (Line UnitShown)). line ∷ ls) rest.are; last = rest.last; shown = rest.shown }

-- a minute more goes onto the last line
more_at : (front : List (Line UnitShown)) (line : Line UnitShown) (m : Viewed UnitShown) → follows same_unit line m ≡ true → with_more same_unit (front ++ line ∷ []) m ≡ front ++ up_to m line ∷ []
more_at [] line m on = rw on refl
more_at (first ∷ []) line m on = rw on refl
more_at (first ∷ next ∷ front) line m on = ap (λ (ls : List (Line UnitShown)). first ∷ ls) (more_at (next ∷ front) line m on)

end_of_last : (front : List (Line UnitShown)) (line : Line UnitShown) (minute : ℕ) → ended_at minute (front ++ line ∷ []) ≡ front ++ to_minute minute line ∷ []
end_of_last [] line minute = refl
end_of_last (first ∷ []) line minute = refl
end_of_last (first ∷ next ∷ front) line minute = ap (λ (ls : List (Line UnitShown)). first ∷ ls) (end_of_last (next ∷ front) line minute)

-- as it is written by its index
pub ended-set : (minute : ℕ) (lines : List (Line UnitShown)) (i : ℕ) (d : Line UnitShown) → length lines ≡ i + 1 → ended_at minute lines ≡ set lines i (to_minute minute (get_or lines i d))
ended-set minute [] i d count = absurd (omega (arith, count))
ended-set minute (line ∷ []) zero d count = refl
ended-set minute (line ∷ []) (suc i) d count = absurd (omega (arith, count))
ended-set minute (line ∷ next ∷ lines) zero d count = absurd (omega (arith, count))
ended-set minute (line ∷ next ∷ lines) (suc i) d count = ap (λ (ls : List (Line UnitShown)). line ∷ ls) (ended-set minute (next ∷ lines) i d (omega (arith, count)))

-- 3. MINUTES OF ONE DAY

-- the next minute of the same day, of which the same is shown
follows-next : (line : Line UnitShown) (m : Viewed UnitShown) (n : ℕ) → line.last ≡ m.minute + n → line.shown ≡ m.shown → m.minute % 1440 + suc n < 1440 → follows same_unit line (minute_after (suc n) m) ≡ true
follows-next line m n last shown day =
    let next : line.last + 1 ≡ m.minute + suc n = omega (arith, last) in
    let same : day_of_minute line.last ≡ day_of_minute (m.minute + suc n) = omega (arith, last, day) in
    rw (eq-eqb (line.last + 1) (m.minute + suc n) next, eq-eqb (day_of_minute line.last) (day_of_minute (m.minute + suc n)) same, shown) (same_unit-self m.shown)

-- the lines of a minute and of so many more of its day
run_lines : (front : List (Line UnitShown)) (line : Line UnitShown) (before : List (Viewed UnitShown)) (m : Viewed UnitShown) (n : ℕ) → lines_of same_unit (before ++ m ∷ []) ≡ front ++ line ∷ [] → line.last ≡ m.minute → line.shown ≡ m.shown
    → m.minute % 1440 + n < 1440 → lines_of same_unit (before ++ shown_run m (suc n)) ≡ front ++ to_minute (m.minute + n) line ∷ []
run_lines front line before m zero are last shown day =
    let z : m.minute + 0 ≡ m.minute = omega arith in
    ap (λ (k : ℕ). lines_of same_unit (before ++ record { minute = k; shown = m.shown } ∷ [])) z
    ∙ are
    ∙ ap (λ (k : ℕ). front ++ to_minute k line ∷ []) (last ∙ sym z)
run_lines front line before m (suc n) are last shown day =
    let so_far = run_lines front line before m n are last shown (omega (arith, day)) in
    let end : Line UnitShown = to_minute (m.minute + n) line in
    ap (lines_of same_unit) (sym (append_assoc before (shown_run m (suc n)) (minute_after (suc n) m ∷ [])))
    ∙ lines_of-more same_unit unit_exact (before ++ shown_run m (suc n)) (minute_after (suc n) m)
    ∙ ap (λ (ls : List (Line UnitShown)). with_more same_unit ls (minute_after (suc n) m)) so_far
    ∙ more_at front end (minute_after (suc n) m) (follows-next end m n refl shown day)

pub run_added : (before : List (Viewed UnitShown)) (m : Viewed UnitShown) (n : ℕ) → m.minute % 1440 + n < 1440 → ended_at (m.minute + n) (lines_of same_unit (before ++ m ∷ [])) ≡ lines_of same_unit (before ++ shown_run m (suc n))
run_added before m n day =
    let all : lines_of same_unit (before ++ m ∷ []) ≡ with_more same_unit (lines_of same_unit before) m = lines_of-more same_unit unit_exact before m in
    let ends = ends_more (lines_of same_unit before) m in
    ap (ended_at (m.minute + n)) (all ∙ ends.are)
    ∙ end_of_last ends.front ends.line (m.minute + n)
    ∙ sym (run_lines ends.front ends.line before m n (all ∙ ends.are) ends.last ends.shown day)

-- 4. THE DAYS ONE AFTER ANOTHER

-- a run goes on with a run
pub run_parts : (m : Viewed UnitShown) (done n : ℕ) → shown_run m done ++ shown_run (minute_after done m) n ≡ shown_run m (done + n)
run_parts m done zero = append-nil (shown_run m done) ∙ (let z : done ≡ done + 0 = omega arith in ap (shown_run m) z)
run_parts m done (suc n) =
    let at : m.minute + done + n ≡ m.minute + (done + n) = omega arith in
    let next : suc (done + n) ≡ done + suc n = omega arith in
    sym (append_assoc (shown_run m done) (shown_run (minute_after done m) n) (minute_after n (minute_after done m) ∷ []))
    ∙ ap (λ (ms : List (Viewed UnitShown)). ms ++ minute_after n (minute_after done m) ∷ []) (run_parts m done n)
    ∙ ap (λ (k : ℕ). shown_run m (done + n) ++ record { minute = k; shown = m.shown } ∷ []) at
    ∙ ap (shown_run m) next

-- what a unit without a card shows of a minute so many times
pub shown_alike : (speed : ℕ) (m : Minute) (n : ℕ) → map without_card (repeated speed n (m ∷ [])) ≡ shown_run (without_card m) n
shown_alike speed m zero = refl
shown_alike speed m (suc n) =
    map-append without_card (repeated speed n (m ∷ [])) (minute_later n speed m ∷ [])
    ∙ ap (λ (ms : List (Viewed UnitShown)). ms ++ without_card (minute_later n speed m) ∷ []) (shown_alike speed m n)

-- a list of one
pub one_of : (ms : List Minute) (d : Minute) → length ms ≡ 1 → ms ≡ get_or ms 0 d ∷ []
one_of [] d one = absurd (omega (arith, one))
one_of (m ∷ []) d one = refl
one_of (m ∷ n ∷ ms) d one = absurd (omega (arith, one))
