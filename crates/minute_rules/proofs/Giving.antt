-- What the calls give and leave, for each span that these minutes stand for.
use Rattle.std.proofs.Common.{◌≡◌, ◌∙◌, ℕ, suc, zero, ◌+◌, ◌-◌, ◌*◌, ◌/◌, ◌%◌, ◌<◌, ◌≤◌, ◌≢◌, Bool, true, false, cond, ◌&&◌, List, [], ◌∷◌, ◌++◌, refl, ap, sym, arith}
use Rattle.std.specs.Prelude.{nat_lt, max, map, ◌==◌, Some}
use Rattle.std.proofs.lemmas.Bool.{eqb-true, eqb-false, ltb-true, ltb-false}
use Rattle.activity_codec.proofs.ByTest.{by_test}
use Rattle.activity_codec.specs.Activity.{activity_of}
use Rattle.activity_codec.specs.declared.values.Pick.{Pick}
use Rattle.activity_codec.specs.declared.values.Slot.TheVariants.{Driver, CoDriver}
use Rattle.minute_model.specs.declared.Minute.{Minute}
use Rattle.minute_model.specs.declared.Rule.{Rule}
use Rattle.minute_model.specs.Second.{Second}
use Rattle.minute_model.specs.Minute.{minutes_ahead, class_of}
use Rattle.minute_model.specs.Span.{Span, end_of, fed_many, picked, settled, travelled_of, decided_in, latest, ungiven_of, activity_next, AreSettled, AreNumbered}
use Rattle.minute_model.specs.Stops.{picks_for}
use Rattle.minute_model.proofs.Bridge.{driver-literal, codriver-literal}
use Rattle.minute_model.proofs.Counted.{count_from, ahead-most, ungiven-most, ungiven-settled, settled-more, decided-settled}
use Rattle.minute_model.proofs.Spans.{numbered-fed, fed_many-end, fed_many-rule, fed_many-first_number, fed_many-settlings, fed_many-numbered, fed_many-settled, decided-fed_many}
use Rattle.minute_rules.specs.declared.slots.CodriverSlot.{CodriverSlot}
use Rattle.minute_rules.specs.declared.slots.DriverSlot.{DriverSlot}
use Rattle.minute_rules.specs.Kept.{Kept, early_with, selected, driver_slot, codriver_slot, kept_at, kept_of, CountsSpan, run, turned, class_kept, with_owing, decided_now, minute_ended, owed, owed_from}
use Rattle.minute_rules.proofs.Classing.{turned-kept, class-kept, travelled-all}
use Rattle.minute_rules.proofs.Feeding.{run-many}
use Rattle.minute_rules.proofs.Selecting.{driver-current, codriver-current, driver-activity, codriver-activity, driver_slot-more, codriver_slot-more, picks-mine, picks-other}

-- the first undecided minute, by where the next second is
ungiven-new : (span : Span) (speed n : ℕ) → ungiven_of (fed_many span speed n) ≡ max (span.first / 60) (max ((end_of span + n) / 60 - minutes_ahead span.rule) (latest span.settlings / 60))
ungiven-new span speed n =
    let new : Span = fed_many span speed n in
    ap (λ (k : ℕ). max (k / 60) (max (end_of new / 60 - minutes_ahead new.rule) (latest new.settlings / 60))) (fed_many-first_number span speed n)
    ∙ ap (λ (e : ℕ). max (span.first / 60) (max (e / 60 - minutes_ahead new.rule) (latest new.settlings / 60))) (fed_many-end span speed n)
    ∙ ap (λ (r : Rule). max (span.first / 60) (max ((end_of span + n) / 60 - minutes_ahead r) (latest new.settlings / 60))) (fed_many-rule span speed n)
    ∙ ap (λ (ts : List ℕ). max (span.first / 60) (max ((end_of span + n) / 60 - minutes_ahead span.rule) (latest ts / 60))) (fed_many-settlings span speed n)

-- kept_at, by equal numbers
same_at : (m k o p : ℕ) (span : Span) → m ≡ k → o ≡ p → kept_at m o span ≡ kept_at k p span
same_at m k o p span e f = ap (λ (j : ℕ). kept_at j o span) e ∙ ap (λ (j : ℕ). kept_at k j span) f

-- What one run of seconds of a minute gives and leaves.
pub record Gives (span : Span) (speed n : ℕ) : Type 0 where
  pub kept : minute_ended (run n speed (kept_of span)) ≡ kept_of (fed_many span speed n)
  pub given : decided_in (fed_many span speed n) ≡ decided_in span ++ decided_now (run n speed (kept_of span))

pub gives : (span : Span) (speed n : ℕ) → AreNumbered span.first span.seconds → AreSettled span → end_of span % 60 + n ≤ 60 → 0 < n → Gives span speed n
gives span speed n numbered all within some =
    by_test (end_of new % 60 == 0)
    (λ whole.
    let even : end_of new % 60 ≡ 0 = eqb-true (end_of new % 60) 0 whole in
    let end' : end_of new ≡ 60 * (m + 1) = omega (arith, even, end, within, some) in
    let turn : turned (kept_at m o new) ≡ kept_at (m + 1) o new = turned-kept m o new numbered' (omega (arith, first, begun)) (omega (arith, end')) in
    let minute : m + 1 ≡ end_of new / 60 = omega (arith, end') in
    by_test (nat_lt (minutes_ahead span.rule) (o + 1))
    (λ more.
    let lt : minutes_ahead span.rule < o + 1 = ltb-true (minutes_ahead span.rule) (o + 1) more in
    let one : u' ≡ u + 1 = one_more end' lt in
    let owing : o ≡ end_of new / 60 - u' = omega (arith, one, end', most) in
    let back : o + 1 ≤ 4 = omega (arith, ahead-most span.rule) in
    let class : class_kept (turned (kept_at m o new)) (o + 1) ≡ class_of span.rule new.seconds u =
    ap (λ (k : Kept). class_kept k (o + 1)) turn ∙ class-kept (m + 1) o new (o + 1) u numbered' (omega (arith, end')) (omega (arith, first)) (omega (arith, most)) (omega arith) back ∙ ap (λ (r : Rule). class_of r new.seconds u) rule in
    let now : decided_now (kept_at m o new) ≡ class_of span.rule new.seconds u ∷ [] = decided-yes (kept_at m o new) whole (ap (λ (r : Rule). nat_lt (minutes_ahead r) (o + 1)) rule ∙ more) ∙ ap (λ (c : Minute). c ∷ []) class in
    let count : u' - u ≡ 1 = omega (arith, one) in
    record {
      kept = ap minute_ended ran ∙ ended-yes (kept_at m o new) whole (ap (λ (r : Rule). nat_lt (minutes_ahead r) (o + 1)) rule ∙ more) ∙ ap (with_owing o) turn ∙ same_at (m + 1) (end_of new / 60) o (end_of new / 60 - u') new minute owing;
      given = decided-fed_many span speed n numbered all limit
          ∙ ap (λ (k : ℕ). decided_in span ++ map (class_of span.rule new.seconds) (count_from u k)) count
          ∙ ap (λ (ms : List Minute). decided_in span ++ ms) (sym now ∙ ap decided_now (sym ran));
    })
    (λ few.
    let ge : o + 1 ≤ minutes_ahead span.rule = ltb-false (minutes_ahead span.rule) (o + 1) few in
    let same : u' ≡ u = no_more (λ e. ge) in
    let owing : o + 1 ≡ end_of new / 60 - u' = omega (arith, same, end', most) in
    let now : decided_now (kept_at m o new) ≡ [] = decided-few (kept_at m o new) whole (ap (λ (r : Rule). nat_lt (minutes_ahead r) (o + 1)) rule ∙ few) in
    record {
      kept = ap minute_ended ran ∙ ended-few (kept_at m o new) whole (ap (λ (r : Rule). nat_lt (minutes_ahead r) (o + 1)) rule ∙ few) ∙ ap (with_owing (o + 1)) turn ∙ same_at (m + 1) (end_of new / 60) (o + 1) (end_of new / 60 - u') new minute owing;
      given = nothing same now;
    }))
    (λ broken.
    let odd : end_of new % 60 ≢ 0 = eqb-false (end_of new % 60) 0 broken in
    let minute : m ≡ end_of new / 60 = omega (arith, odd, end, within) in
    let same : u' ≡ u = no_more (λ e. absurd (omega (arith, e, minute))) in
    let owing : o ≡ end_of new / 60 - u' = omega (arith, same, minute) in
    record {
      kept = ap minute_ended ran ∙ ended-no (kept_at m o new) broken ∙ same_at m (end_of new / 60) o (end_of new / 60 - u') new minute owing;
      given = nothing same (decided-no (kept_at m o new) broken);
    })
  where
    new : Span
    new = fed_many span speed n

    m : ℕ
    m = end_of span / 60

    u : ℕ
    u = ungiven_of span

    u' : ℕ
    u' = ungiven_of (fed_many span speed n)

    o : ℕ
    o = end_of span / 60 - ungiven_of span

    end : end_of (fed_many span speed n) ≡ end_of span + n
    end = fed_many-end span speed n

    numbered' : AreNumbered (fed_many span speed n).first (fed_many span speed n).seconds
    numbered' = fed_many-numbered span speed n numbered

    first : (fed_many span speed n).first ≡ span.first
    first = fed_many-first_number span speed n

    rule : (fed_many span speed n).rule ≡ span.rule
    rule = fed_many-rule span speed n

    begun : span.first / 60 ≤ end_of span / 60
    begun = omega arith

    most : ungiven_of span ≤ end_of span / 60
    most = ungiven-most span all

    limit : end_of span + n ≤ 60 * (end_of span / 60) + 60
    limit = omega (arith, within)

    ran : run n speed (kept_of span) ≡ kept_at (end_of span / 60) (end_of span / 60 - ungiven_of span) (fed_many span speed n)
    ran = run-many (end_of span / 60) (end_of span / 60 - ungiven_of span) span speed n numbered (omega arith) (omega (arith, limit)) some

    one_more : end_of (fed_many span speed n) ≡ 60 * (end_of span / 60 + 1) → minutes_ahead span.rule < end_of span / 60 - ungiven_of span + 1 → ungiven_of (fed_many span speed n) ≡ ungiven_of span + 1
    one_more e lt = ungiven-new span speed n ∙ omega (arith, e, end, lt, most)

    no_more : (end_of (fed_many span speed n) ≡ 60 * (end_of span / 60 + 1) → end_of span / 60 - ungiven_of span + 1 ≤ minutes_ahead span.rule) → ungiven_of (fed_many span speed n) ≡ ungiven_of span
    no_more few =
        let e = ungiven-new span speed n in
        by_test (end_of span + n == 60 * (end_of span / 60 + 1))
        (λ whole. let w = eqb-true (end_of span + n) (60 * (end_of span / 60 + 1)) whole in let le = few (end ∙ w) in e ∙ omega (arith, w, le, most))
        (λ broken. let ne = eqb-false (end_of span + n) (60 * (end_of span / 60 + 1)) broken in let same : (end_of span + n) / 60 ≡ end_of span / 60 = omega (arith, ne, limit) in e ∙ ap (λ (k : ℕ). max (span.first / 60) (max (k - minutes_ahead span.rule) (latest span.settlings / 60))) same)

    nothing : ungiven_of (fed_many span speed n) ≡ ungiven_of span → decided_now (kept_at (end_of span / 60) (end_of span / 60 - ungiven_of span) (fed_many span speed n)) ≡ [] → decided_in (fed_many span speed n) ≡ decided_in span ++ decided_now (run n speed (kept_of span))
    nothing same now =
        let count : ungiven_of (fed_many span speed n) - ungiven_of span ≡ 0 = omega (arith, same) in
        decided-fed_many span speed n numbered all limit
        ∙ ap (λ (k : ℕ). decided_in span ++ map (class_of span.rule (fed_many span speed n).seconds) (count_from (ungiven_of span) k)) count
        ∙ ap (λ (ms : List Minute). decided_in span ++ ms) (sym now ∙ ap decided_now (sym ran))

    decided-yes : (k : Kept) → (k.next % 60 == 0) ≡ true → nat_lt (minutes_ahead k.rule) (k.owing + 1) ≡ true → decided_now k ≡ class_kept (turned k) (k.owing + 1) ∷ []
    decided-yes k whole more = ap (λ (b : Bool). cond b (class_kept (turned k) (k.owing + 1) ∷ []) []) (ap (λ (b : Bool). b && nat_lt (minutes_ahead k.rule) (k.owing + 1)) whole ∙ more)

    decided-few : (k : Kept) → (k.next % 60 == 0) ≡ true → nat_lt (minutes_ahead k.rule) (k.owing + 1) ≡ false → decided_now k ≡ []
    decided-few k whole few = ap (λ (b : Bool). cond b (class_kept (turned k) (k.owing + 1) ∷ []) []) (ap (λ (b : Bool). b && nat_lt (minutes_ahead k.rule) (k.owing + 1)) whole ∙ few)

    decided-no : (k : Kept) → (k.next % 60 == 0) ≡ false → decided_now k ≡ []
    decided-no k broken = ap (λ (b : Bool). cond (b && nat_lt (minutes_ahead k.rule) (k.owing + 1)) (class_kept (turned k) (k.owing + 1) ∷ []) []) broken

    ended-yes : (k : Kept) → (k.next % 60 == 0) ≡ true → nat_lt (minutes_ahead k.rule) (k.owing + 1) ≡ true → minute_ended k ≡ with_owing k.owing (turned k)
    ended-yes k whole more = ap (λ (b : Bool). cond b (with_owing (cond (nat_lt (minutes_ahead k.rule) (k.owing + 1)) k.owing (k.owing + 1)) (turned k)) k) whole ∙ ap (λ (b : Bool). with_owing (cond b k.owing (k.owing + 1)) (turned k)) more

    ended-few : (k : Kept) → (k.next % 60 == 0) ≡ true → nat_lt (minutes_ahead k.rule) (k.owing + 1) ≡ false → minute_ended k ≡ with_owing (k.owing + 1) (turned k)
    ended-few k whole few = ap (λ (b : Bool). cond b (with_owing (cond (nat_lt (minutes_ahead k.rule) (k.owing + 1)) k.owing (k.owing + 1)) (turned k)) k) whole ∙ ap (λ (b : Bool). with_owing (cond b k.owing (k.owing + 1)) (turned k)) few

    ended-no : (k : Kept) → (k.next % 60 == 0) ≡ false → minute_ended k ≡ k
    ended-no k broken = ap (λ (b : Bool). cond b (with_owing (cond (nat_lt (minutes_ahead k.rule) (k.owing + 1)) k.owing (k.owing + 1)) (turned k)) k) broken

-- So many seconds of one minute.
pub fed-stands : (span : Span) (k : Kept) (speed n : ℕ) → CountsSpan k span → k.next % 60 + n ≤ 60 → 0 < n → CountsSpan (minute_ended (run n speed k)) (fed_many span speed n)
fed-stands span k speed n h within some =
    let at : end_of span % 60 + n ≤ 60 = rw h.kept at within in
    let g = gives span speed n h.numbered h.settled at some in
    record {
      kept = ap (λ (j : Kept). minute_ended (run n speed j)) h.kept ∙ g.kept;
      numbered = fed_many-numbered span speed n h.numbered;
      settled = fed_many-settled span speed n h.settled;
    }

pub fed-given : (span : Span) (k : Kept) (speed n : ℕ) → CountsSpan k span → k.next % 60 + n ≤ 60 → 0 < n → decided_in (fed_many span speed n) ≡ decided_in span ++ decided_now (run n speed k)
fed-given span k speed n h within some =
    let at : end_of span % 60 + n ≤ 60 = rw h.kept at within in
    let g = gives span speed n h.numbered h.settled at some in
    g.given ∙ ap (λ (j : Kept). decided_in span ++ decided_now (run n speed j)) (sym h.kept)

-- A settling.
pub settled-stands : (span : Span) (k : Kept) → CountsSpan k span → CountsSpan (with_owing 0 k) (settled span)
settled-stands span k h =
    let none : 0 ≡ end_of span / 60 - ungiven_of (settled span) = omega (arith, ungiven-settled span h.settled) in
    record {
      kept = ap (with_owing 0) h.kept ∙ ap (λ (o : ℕ). kept_at (end_of span / 60) o (settled span)) none;
      numbered = h.numbered;
      settled = settled-more span h.settled;
    }

owed-counted : (span : Span) (back : ℕ) → AreNumbered span.first span.seconds → span.first / 60 + back ≤ end_of span / 60 → back ≤ 4 → owed_from (kept_of span) back ≡ map (class_of span.rule span.seconds) (count_from (end_of span / 60 - back) back)
owed-counted span zero numbered le few = refl
owed-counted span (suc back) numbered le few =
    let m : ℕ = end_of span / 60 in
    let class = class-kept m (m - ungiven_of span) span (suc back) (m - suc back) numbered refl (omega (arith, le)) (omega (arith, le)) (omega arith) few in
    let rest = owed-counted span back numbered (omega (arith, le)) (omega (arith, few)) in
    let next : m - back ≡ m - suc back + 1 = omega (arith, le) in
    ap (λ (c : Minute). c ∷ owed_from (kept_of span) back) class ∙ ap (λ (ms : List Minute). class_of span.rule span.seconds (m - suc back) ∷ ms) (rest ∙ ap (λ (a : ℕ). map (class_of span.rule span.seconds) (count_from a back)) next)

pub settled-given : (span : Span) (k : Kept) → CountsSpan k span → decided_in (settled span) ≡ decided_in span ++ owed k
settled-given span k h =
    let m : ℕ = end_of span / 60 in
    let u : ℕ = ungiven_of span in
    let most = ungiven-most span h.settled in
    let ahead = ahead-most span.rule in
    let start : m - (m - u) ≡ u = omega (arith, most) in
    let owed_is : owed (kept_of span) ≡ map (class_of span.rule span.seconds) (count_from u (m - u)) = owed-counted span (m - u) h.numbered (omega (arith, most)) (omega (arith, ahead)) ∙ ap (λ (a : ℕ). map (class_of span.rule span.seconds) (count_from a (m - u))) start in
    decided-settled span h.numbered h.settled ∙ ap (λ (ms : List Minute). decided_in span ++ ms) (sym owed_is ∙ ap owed (sym h.kept))

-- One more selection.
pub select_driver : (span : Span) (p : Pick) (k : Kept) → CountsSpan k span → CountsSpan (record k { driver = record { current = k.driver.current; waiting = k.driver.waiting; early = early_with k.driver.early p; picked = Some p } }) (picked span Driver p)
select_driver span p k h =
    let mine : driver_slot span.seconds (picks_for Driver (picked span Driver p).pending) ≡ record { current = (kept_of span).driver.current; waiting = (kept_of span).driver.waiting; early = early_with (kept_of span).driver.early p; picked = Some p } = ap (driver_slot span.seconds) (picks-mine Driver p span.pending refl) ∙ driver_slot-more span.seconds (picks_for Driver span.pending) p in
    let other : codriver_slot span.seconds (picks_for CoDriver (picked span Driver p).pending) ≡ (kept_of span).codriver = ap (codriver_slot span.seconds) (picks-other CoDriver Driver p span.pending refl) in
    record {
      kept = ap (λ (j : Kept). record j { driver = record { current = j.driver.current; waiting = j.driver.waiting; early = early_with j.driver.early p; picked = Some p } }) h.kept
          ∙ ap (λ (s : DriverSlot). record (kept_of span) { driver = s }) (sym mine)
          ∙ ap (λ (s : CodriverSlot). record (kept_of (picked span Driver p)) { codriver = s }) (sym other);
      numbered = h.numbered;
      settled = h.settled;
    }

pub select_codriver : (span : Span) (p : Pick) (k : Kept) → CountsSpan k span → CountsSpan (record k { codriver = record { current = k.codriver.current; picked = Some p } }) (picked span CoDriver p)
select_codriver span p k h =
    let mine : codriver_slot span.seconds (picks_for CoDriver (picked span CoDriver p).pending) ≡ record { current = (kept_of span).codriver.current; picked = Some p } = ap (codriver_slot span.seconds) (picks-mine CoDriver p span.pending refl) ∙ codriver_slot-more span.seconds (picks_for CoDriver span.pending) p in
    let other : driver_slot span.seconds (picks_for Driver (picked span CoDriver p).pending) ≡ (kept_of span).driver = ap (driver_slot span.seconds) (picks-other Driver CoDriver p span.pending refl) in
    record {
      kept = ap (λ (j : Kept). record j { codriver = record { current = j.codriver.current; picked = Some p } }) h.kept
          ∙ ap (λ (s : CodriverSlot). record (kept_of span) { codriver = s }) (sym mine)
          ∙ ap (λ (s : DriverSlot). record (kept_of (picked span CoDriver p)) { driver = s }) (sym other);
      numbered = h.numbered;
      settled = h.settled;
    }

-- The selection that holds at the next second, if that is at speed 0.
pub selected-driver : (span : Span) (k : Kept) → CountsSpan k span → activity_of (selected k.driver.current k.driver.picked) ≡ activity_next Driver span
selected-driver span k h =
    let x : Second = record { number = end_of span; speed = 0; picks = span.pending } in
    ap (λ (j : Kept). activity_of (selected j.driver.current j.driver.picked)) h.kept
    ∙ ap activity_of (driver-current span.seconds x refl) ∙ driver-activity span.seconds x refl
    ∙ driver-literal span.first span.seconds [] x (numbered-fed span 0 h.numbered)

pub selected-codriver : (span : Span) (k : Kept) → CountsSpan k span → activity_of (selected k.codriver.current k.codriver.picked) ≡ activity_next CoDriver span
selected-codriver span k h =
    let x : Second = record { number = end_of span; speed = 0; picks = span.pending } in
    ap (λ (j : Kept). activity_of (selected j.codriver.current j.codriver.picked)) h.kept
    ∙ ap activity_of (codriver-current span.seconds x refl) ∙ codriver-activity span.seconds x refl
    ∙ codriver-literal span.first span.seconds [] x (numbered-fed span 0 h.numbered)

-- The sum of the speeds.
pub travelled-stands : (span : Span) (k : Kept) → CountsSpan k span → k.here.travelled ≡ travelled_of span
travelled-stands span k h = ap (λ (j : Kept). j.here.travelled) h.kept ∙ travelled-all (end_of span / 60) span.first span.seconds h.numbered (omega arith)
