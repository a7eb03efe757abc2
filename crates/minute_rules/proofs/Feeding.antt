-- What is kept of a span, and of so many more seconds of one minute.
use Rattle.std.proofs.Common.{◌≡◌, ◌∙◌, ℕ, suc, zero, ◌+◌, ◌-◌, ◌*◌, ◌/◌, ◌<◌, ◌≤◌, true, false, List, [], ◌∷◌, ◌++◌, length, refl, ap, sym, arith}
use Rattle.std.specs.Prelude.{nat_le, map, filter, ◌==◌, Option, Some, None}
use Rattle.std.specs.List.{list_any}
use Rattle.std.proofs.lemmas.Bool.{leb-true, leb-false, le-leb}
use Rattle.std.proofs.lemmas.List.{length_push}
use Rattle.activity_codec.proofs.ByTest.{by_test}
use Rattle.activity_codec.specs.Activity.{activity_of, is_rest_or_available}
use Rattle.activity_codec.specs.declared.values.Activity.{Activity}
use Rattle.activity_codec.specs.declared.values.Activity.TheVariants.{Work, Driving}
use Rattle.activity_codec.specs.declared.values.Pick.{Pick}
use Rattle.activity_codec.specs.declared.values.Slot.TheVariants.{Driver}
use Rattle.minute_model.specs.declared.Rule.{Rule}
use Rattle.minute_model.specs.Second.{Second}
use Rattle.minute_model.specs.Span.{Span, end_of, fed, fed_many, AreNumbered}
use Rattle.minute_model.specs.Stops.{last_still, picks_for, waits}
use Rattle.minute_model.proofs.Counted.{count_from}
use Rattle.minute_model.proofs.Each.{settled_to}
use Rattle.minute_model.proofs.EachSecond.{driver_between, codriver_between}
use Rattle.minute_model.proofs.Grown.{Closes, Opens, closes-moving, closes-still, closes-early, opens-still, ends-wait, ends-wait_not, waits-more, waits-early, waits-never, waits-moved, all_still-moved, last_still-more, last_still-moved, open-none}
use Rattle.minute_model.proofs.Next.{EndsTheWait}
use Rattle.minute_model.proofs.Spans.{numbered-fed, end-fed, fed_many-end, fed_many-numbered}
use Rattle.minute_rules.specs.declared.counted.Counted.{Counted}
use Rattle.minute_rules.specs.declared.slots.CodriverSlot.{CodriverSlot}
use Rattle.minute_rules.specs.declared.slots.DriverSlot.{DriverSlot}
use Rattle.minute_rules.specs.Counted.{counted_of, closed, opened, with_driver, with_codriver}
use Rattle.minute_rules.specs.Kept.{Kept, last_for, first_for, selected, driver_slot, oldest, kept_at, heard, passed, driven, run}
use Rattle.minute_rules.proofs.Growing.{closes-past, closes-still_here, closes-moving_here, opens-past, opens-here, closed-idle}
use Rattle.minute_rules.proofs.Iterated.{same_kept, run-still, run-moving, run-more}
use Rattle.minute_rules.proofs.Selecting.{driver-current, codriver-current, driver-activity, codriver-activity, first_early, no_early}

-- what is kept, by its parts
abbrev kept_with : Rule → ℕ → ℕ → List Counted → Counted → Pick → Option ℕ → Option Pick → Option Pick → CodriverSlot → Kept
kept_with rule next owing past here current waiting early picked codriver = record {
  rule = rule;
  next = next;
  owing = owing;
  past = past;
  here = here;
  driver = record { current = current; waiting = waiting; early = early; picked = picked };
  codriver = codriver;
}

-- one second at speed 0, by what waits
one-idle : (rule : Rule) (next owing : ℕ) (past : List Counted) (here : Counted) (current : Pick) (early picked : Option Pick) (codriver : CodriverSlot) → passed 1 (heard (kept_with rule next owing past here current None early picked codriver)) ≡ kept_with rule (next + 1) owing past (with_codriver (activity_of (selected codriver.current codriver.picked)) 1 (with_driver (activity_of (selected current picked)) 1 here)) (selected current picked) None None None (record { current = selected codriver.current codriver.picked; picked = None })
one-idle rule next owing past here current early picked codriver = refl

one-early : (rule : Rule) (next owing : ℕ) (past : List Counted) (here : Counted) (current : Pick) (count : ℕ) (first : Pick) (picked : Option Pick) (codriver : CodriverSlot) → passed 1 (heard (kept_with rule next owing past here current (Some count) (Some first) picked codriver)) ≡ kept_with rule (next + 1) owing (map (closed (activity_of first)) past) (with_codriver (activity_of (selected codriver.current codriver.picked)) 1 (with_driver (activity_of (selected current picked)) 1 (closed (activity_of first) here))) (selected current picked) None None None (record { current = selected codriver.current codriver.picked; picked = None })
one-early rule next owing past here current count first picked codriver = refl

one-waits : (rule : Rule) (next owing : ℕ) (past : List Counted) (here : Counted) (current : Pick) (count : ℕ) (picked : Option Pick) (codriver : CodriverSlot) → count + 1 ≤ 120 → passed 1 (heard (kept_with rule next owing past here current (Some count) None picked codriver)) ≡ kept_with rule (next + 1) owing past (with_codriver (activity_of (selected codriver.current codriver.picked)) 1 (opened 1 here)) (selected current picked) (Some (count + 1)) None None (record { current = selected codriver.current codriver.picked; picked = None })
one-waits rule next owing past here current count picked codriver le =
    let near : 1 ≤ 120 - count = omega (arith, le) in
    rw (le-leb 1 (120 - count) near) refl

one-late : (rule : Rule) (next owing : ℕ) (past : List Counted) (here : Counted) (current : Pick) (count : ℕ) (picked : Option Pick) (codriver : CodriverSlot) → 120 ≤ count → passed 1 (heard (kept_with rule next owing past here current (Some count) None picked codriver)) ≡ kept_with rule (next + 1) owing (map (closed Work) past) (with_codriver (activity_of (selected codriver.current codriver.picked)) 1 (with_driver (activity_of (selected current picked)) 1 (closed Work here))) (selected current picked) None None None (record { current = selected codriver.current codriver.picked; picked = None })
one-late rule next owing past here current count picked codriver ge =
    let none : 120 - count ≡ 0 = omega (arith, ge) in
    let same : here.open_seconds + 0 ≡ here.open_seconds = omega arith in
    rw none (ap (λ (k : ℕ). kept_with rule (next + 1) owing (map (closed Work) past) (with_codriver (activity_of (selected codriver.current codriver.picked)) 1 (with_driver (activity_of (selected current picked)) 1 (closed Work (record { driver = here.driver; open_seconds = k; drives = here.drives; codriver = here.codriver; travelled = here.travelled })))) (selected current picked) None None None (record { current = selected codriver.current codriver.picked; picked = None })) same)

-- the minutes before, each changed alike
past-changed : (f g : ℕ → Counted) (h : Counted → Counted) (a n : ℕ) → ((m : ℕ) → a ≤ m → m < a + n → g m ≡ h (f m)) → map h (map f (count_from a n)) ≡ map g (count_from a n)
past-changed f g h a zero same = refl
past-changed f g h a (suc n) same =
    let first = same a (omega arith) (omega arith) in
    let rest = past-changed f g h (a + 1) n (λ m from to. same m (omega (arith, from)) (omega (arith, to))) in
    rw (← first, rest) refl

past-same : (f g : ℕ → Counted) (a n : ℕ) → ((m : ℕ) → a ≤ m → m < a + n → g m ≡ f m) → map f (count_from a n) ≡ map g (count_from a n)
past-same f g a zero same = refl
past-same f g a (suc n) same =
    let first = same a (omega arith) (omega arith) in
    let rest = past-same f g (a + 1) n (λ m from to. same m (omega (arith, from)) (omega (arith, to))) in
    rw (← first, rest) refl

-- the next second of a span
abbrev next_second : Span → ℕ → Second
next_second span speed = record { number = end_of span; speed = speed; picks = span.pending }

-- one second at speed 0 that closes what is open, if anything
closes-kept : (m owing : ℕ) (span : Span) (speed : ℕ) (act : Activity) → AreNumbered span.first span.seconds → end_of span / 60 ≡ m → (speed == 0) ≡ true → Closes span.seconds (next_second span speed) act (driver_between span.seconds (next_second span speed) []) → waits (span.seconds ++ next_second span speed ∷ []) ≡ false
    → kept_with span.rule (end_of span + 1) owing (map (closed act) (kept_at m owing span).past) (with_codriver (activity_of (selected (kept_at m owing span).codriver.current (kept_at m owing span).codriver.picked)) 1 (with_driver (activity_of (selected (kept_at m owing span).driver.current (kept_at m owing span).driver.picked)) 1 (closed act (kept_at m owing span).here))) (selected (kept_at m owing span).driver.current (kept_at m owing span).driver.picked) None None None (record { current = selected (kept_at m owing span).codriver.current (kept_at m owing span).codriver.picked; picked = None })
    ≡ kept_at m owing (fed span speed)
closes-kept m owing span speed act numbered is still c over =
    let xs : List Second = span.seconds in
    let x : Second = next_second span speed in
    let more = numbered-fed span speed numbered in
    let lo : ℕ = oldest span m in
    let d = driver-current xs x still in
    let k = codriver-current xs x still in
    let da : activity_of (selected (kept_at m owing span).driver.current (kept_at m owing span).driver.picked) ≡ driver_between xs x [] = ap activity_of d ∙ driver-activity xs x still in
    let ka : activity_of (selected (kept_at m owing span).codriver.current (kept_at m owing span).codriver.picked) ≡ codriver_between xs x [] = ap activity_of k ∙ codriver-activity xs x still in
    let here : with_codriver (activity_of (selected (kept_at m owing span).codriver.current (kept_at m owing span).codriver.picked)) 1 (with_driver (activity_of (selected (kept_at m owing span).driver.current (kept_at m owing span).driver.picked)) 1 (closed act (counted_of xs m))) ≡ counted_of (xs ++ x ∷ []) m =
    ap (λ (a : Activity). with_codriver a 1 (with_driver (activity_of (selected (kept_at m owing span).driver.current (kept_at m owing span).driver.picked)) 1 (closed act (counted_of xs m)))) ka
    ∙ ap (λ (a : Activity). with_codriver (codriver_between xs x []) 1 (with_driver a 1 (closed act (counted_of xs m)))) da
    ∙ sym (closes-still_here span.first xs x act (driver_between xs x []) more numbered c still m is) in
    let waiting : None ≡ (driver_slot (xs ++ x ∷ []) []).waiting = rw over refl in
    same_kept span.rule owing _ _ _ _ _ _ _ _ _ _
    (sym (end-fed span speed))
    (past-changed (counted_of xs) (counted_of (xs ++ x ∷ [])) (closed act) lo (m - lo) (λ j from to. closes-past span.first xs x act (driver_between xs x []) more numbered c j (omega (arith, to, is))))
    here
    (ap (λ (p : Pick). record { current = p; waiting = None; early = None; picked = None }) d ∙ ap (λ (w : Option ℕ). record { current = (driver_slot (xs ++ x ∷ []) []).current; waiting = w; early = None; picked = None }) waiting)
    (ap (λ (p : Pick). record { current = p; picked = None }) k)

-- the driver's slot, by what waits
slot-idle : (xs : List Second) (picks : List Pick) → waits xs ≡ false → driver_slot xs picks ≡ record { current = (driver_slot xs picks).current; waiting = None; early = (driver_slot xs picks).early; picked = last_for picks }
slot-idle xs picks h = rw h refl

slot-waits : (xs : List Second) (picks : List Pick) (early : Option Pick) → waits xs ≡ true → first_for (filter is_rest_or_available picks) ≡ early → driver_slot xs picks ≡ record { current = (driver_slot xs picks).current; waiting = Some (length (last_still xs)); early = early; picked = last_for picks }
slot-waits xs picks early h e = rw (h, e) refl

-- One more second at speed 0 of the minute.
still-kept : (m owing : ℕ) (span : Span) (speed : ℕ) → AreNumbered span.first span.seconds → end_of span / 60 ≡ m → (speed == 0) ≡ true → passed 1 (heard (kept_at m owing span)) ≡ kept_at m owing (fed span speed)
still-kept m owing span speed numbered is still =
    by_test (waits xs)
    (λ yes. by_test (list_any is_rest_or_available picks)
    (λ early.
    let f = first_early picks early in
    let ends : EndsTheWait xs x = ends-wait xs x yes still early in
    let act : settled_to x ≡ activity_of f.0 = f.2 in
    let c : Closes xs x (activity_of f.0) (driver_between xs x []) = rw act at (closes-early span.first xs x more numbered ends yes) in
    ap (λ (s : DriverSlot). passed 1 (heard (with_slot s))) (slot-waits xs picks (Some f.0) yes f.1)
    ∙ one-early span.rule (end_of span) owing k.past k.here k.driver.current (length (last_still xs)) f.0 k.driver.picked k.codriver
    ∙ closes-kept m owing span speed (activity_of f.0) numbered is still c (waits-early xs x yes still early))
    (λ late.
    let ends_not : EndsTheWait xs x → ⊥ = λ e. let a = e.early in let b = late in cc in
    let slot = slot-waits xs picks None yes (no_early picks late) in
    let grows = waits-more xs x yes still late in
    by_test (nat_le (length (last_still xs) + 1) 120)
    (λ near.
    let after : waits (xs ++ x ∷ []) ≡ true = grows ∙ near in
    ap (λ (s : DriverSlot). passed 1 (heard (with_slot s))) slot
    ∙ one-waits span.rule (end_of span) owing k.past k.here k.driver.current (length (last_still xs)) k.driver.picked k.codriver (leb-true (length (last_still xs) + 1) 120 near)
    ∙ opens-kept (opens-still span.first xs x more numbered still ends_not yes after) after)
    (λ far.
    let after : waits (xs ++ x ∷ []) ≡ false = grows ∙ far in
    let long : 120 ≤ length (last_still xs) = omega (arith, leb-false (length (last_still xs) + 1) 120 far) in
    ap (λ (s : DriverSlot). passed 1 (heard (with_slot s))) slot
    ∙ one-late span.rule (end_of span) owing k.past k.here k.driver.current (length (last_still xs)) k.driver.picked k.codriver long
    ∙ closes-kept m owing span speed Work numbered is still (closes-still span.first xs x more numbered ends_not after) after)))
    (λ no.
    let ends_not = ends-wait_not xs x no in
    let after = waits-never xs x no still in
    let none = open-none xs no in
    let past : map (closed Work) k.past ≡ k.past = past-changed (counted_of xs) (counted_of xs) (closed Work) lo (m - lo) (λ j from to. sym (closed-idle Work xs j none)) in
    ap (λ (s : DriverSlot). passed 1 (heard (with_slot s))) (slot-idle xs picks no)
    ∙ one-idle span.rule (end_of span) owing k.past k.here k.driver.current k.driver.early k.driver.picked k.codriver
    ∙ ap (λ (cs : List Counted). kept_with span.rule (end_of span + 1) owing cs (with_codriver (activity_of (selected k.codriver.current k.codriver.picked)) 1 (with_driver (activity_of (selected k.driver.current k.driver.picked)) 1 k.here)) (selected k.driver.current k.driver.picked) None None None (record { current = selected k.codriver.current k.codriver.picked; picked = None })) (sym past)
    ∙ ap (λ (c : Counted). kept_with span.rule (end_of span + 1) owing (map (closed Work) k.past) (with_codriver (activity_of (selected k.codriver.current k.codriver.picked)) 1 (with_driver (activity_of (selected k.driver.current k.driver.picked)) 1 c)) (selected k.driver.current k.driver.picked) None None None (record { current = selected k.codriver.current k.codriver.picked; picked = None })) (sym (closed-idle Work xs m none))
    ∙ closes-kept m owing span speed Work numbered is still (closes-still span.first xs x more numbered ends_not after) after)
  where
    xs : List Second
    xs = span.seconds

    x : Second
    x = next_second span speed

    picks : List Pick
    picks = picks_for Driver span.pending

    lo : ℕ
    lo = oldest span m

    k : Kept
    k = kept_at m owing span

    more : AreNumbered span.first (span.seconds ++ next_second span speed ∷ [])
    more = numbered-fed span speed numbered

    with_slot : DriverSlot → Kept
    with_slot s = record { rule = k.rule; next = k.next; owing = k.owing; past = k.past; here = k.here; driver = s; codriver = k.codriver }

    opens-kept : Opens span.seconds (next_second span speed) → waits (span.seconds ++ next_second span speed ∷ []) ≡ true → kept_with span.rule (end_of span + 1) owing k.past (with_codriver (activity_of (selected k.codriver.current k.codriver.picked)) 1 (opened 1 k.here)) (selected k.driver.current k.driver.picked) (Some (length (last_still span.seconds) + 1)) None None (record { current = selected k.codriver.current k.codriver.picked; picked = None }) ≡ kept_at m owing (fed span speed)
    opens-kept o after =
        let d = driver-current span.seconds (next_second span speed) still in
        let co = codriver-current span.seconds (next_second span speed) still in
        let ka : activity_of (selected k.codriver.current k.codriver.picked) ≡ codriver_between span.seconds (next_second span speed) [] = ap activity_of co ∙ codriver-activity span.seconds (next_second span speed) still in
        let waiting : Some (length (last_still span.seconds) + 1) ≡ (driver_slot (span.seconds ++ next_second span speed ∷ []) []).waiting = rw after (ap (λ (n : ℕ). Some n) (sym (ap length (last_still-more span.seconds (next_second span speed) still) ∙ length_push (last_still span.seconds) (next_second span speed)))) in
        same_kept span.rule owing _ _ _ _ _ _ _ _ _ _
        (sym (end-fed span speed))
        (past-same (counted_of span.seconds) (counted_of (span.seconds ++ next_second span speed ∷ [])) lo (m - lo) (λ j from to. opens-past span.first span.seconds (next_second span speed) more numbered o j (omega (arith, to, is))))
        (ap (λ (a : Activity). with_codriver a 1 (opened 1 k.here)) ka ∙ sym (opens-here span.first span.seconds (next_second span speed) more numbered o still m is))
        (ap (λ (p : Pick). record { current = p; waiting = Some (length (last_still span.seconds) + 1); early = None; picked = None }) d ∙ ap (λ (w : Option ℕ). record { current = (driver_slot (span.seconds ++ next_second span speed ∷ []) []).current; waiting = w; early = None; picked = None }) waiting)
        (ap (λ (p : Pick). record { current = p; picked = None }) co)

-- One more moving second of the minute.
moving-kept : (m owing : ℕ) (span : Span) (speed : ℕ) → AreNumbered span.first span.seconds → end_of span / 60 ≡ m → (speed == 0) ≡ false → driven 1 speed (kept_at m owing span) ≡ kept_at m owing (fed span speed)
moving-kept m owing span speed numbered is moving =
    let xs : List Second = span.seconds in
    let x : Second = next_second span speed in
    let more = numbered-fed span speed numbered in
    let lo : ℕ = oldest span m in
    let c = closes-moving span.first xs x more numbered moving in
    same_kept span.rule owing _ _ _ _ _ _ _ _ _ _
    (sym (end-fed span speed))
    (past-changed (counted_of xs) (counted_of (xs ++ x ∷ [])) (closed Work) lo (m - lo) (λ j from to. closes-past span.first xs x Work Driving more numbered c j (omega (arith, to, is))))
    (sym (closes-moving_here span.first xs x Work more numbered c moving m is))
    (rw (waits-moved xs x moving, all_still-moved xs x moving, last_still-moved xs x moving) refl)
    (rw (all_still-moved xs x moving, last_still-moved xs x moving) refl)

-- One more second of the minute.
pub run-one : (m owing : ℕ) (span : Span) (speed : ℕ) → AreNumbered span.first span.seconds → end_of span / 60 ≡ m → run 1 speed (kept_at m owing span) ≡ kept_at m owing (fed span speed)
run-one m owing span speed numbered is =
    by_test (speed == 0)
    (λ still. run-still 1 speed (kept_at m owing span) still ∙ still-kept m owing span speed numbered is still)
    (λ moving. run-moving 1 speed (kept_at m owing span) moving ∙ moving-kept m owing span speed numbered is moving)

-- So many more.
pub run-many : (m owing : ℕ) (span : Span) (speed n : ℕ) → AreNumbered span.first span.seconds → 60 * m ≤ end_of span → end_of span + n ≤ 60 * m + 60 → 0 < n → run n speed (kept_at m owing span) ≡ kept_at m owing (fed_many span speed n)
run-many m owing span speed zero numbered begun within some = absurd (omega (arith, some))
run-many m owing span speed (suc zero) numbered begun within some = run-one m owing span speed numbered (omega (arith, begun, within))
run-many m owing span speed (suc (suc n)) numbered begun within some =
    let before : run (suc n) speed (kept_at m owing span) ≡ kept_at m owing (fed_many span speed (suc n)) = run-many m owing span speed (suc n) numbered begun (omega (arith, within)) (omega arith) in
    let next : suc n + 1 ≡ suc (suc n) = omega arith in
    let end = fed_many-end span speed (suc n) in
    ap (λ (j : ℕ). run j speed (kept_at m owing span)) (sym next)
    ∙ sym (run-more (suc n) speed (kept_at m owing span))
    ∙ ap (run 1 speed) before
    ∙ run-one m owing (fed_many span speed (suc n)) speed (fed_many-numbered span speed (suc n) numbered) (omega (arith, end, begun, within))
