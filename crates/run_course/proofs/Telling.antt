-- What is told at a moment of a second, and how the second ends.
use Rattle.std.proofs.Common.{◌≡◌, ◌⊎◌, inl, inr, ⊎_elim, ℕ, ◌+◌, ◌-◌, ◌^◌, ◌≤◌, Bool, true, false, cond, not, ◌&&◌, ◌||◌, Option, Some, None, List, [], ◌∷◌, ◌++◌, Contains, length, map, filter, nat_eq, is_some, refl, ap, sym, subst, ◌∙◌, arith, append-nil, append_assoc, length-append}
use Rattle.std.specs.Prelude.{flat_map}
use Rattle.std.specs.List.{AllByRecursion}
use Rattle.std.proofs.lemmas.Bool.Decides.{nat_tests}
use Rattle.std.proofs.lemmas.List.{map-append}
use Rattle.std.proofs.lemmas.List.Elements.{filter-append, Contains-append_cases, Contains-push_cases}
use Rattle.activity_codec.specs.declared.values.Slot.{Slot}
use Rattle.activity_codec.specs.declared.values.Slot.TheVariants.{Driver, CoDriver}
use Rattle.activity_codec.specs.Activity.{same_slot}
use Rattle.trace_model.specs.declared.Card.{Card}
use Rattle.trace_model.specs.declared.Card.TheVariants.{A, B}
use Rattle.trace_model.specs.declared.Action.{Action}
use Rattle.trace_model.specs.Trace.{TraceSecond}
use Rattle.run_model.specs.declared.Device.{Device}
use Rattle.run_model.specs.declared.Device.TheVariants.{Unit as Recorder}
use Rattle.minute_model.specs.declared.Rule.{Rule}
use Rattle.log_model.specs.declared.lines.Break.{Break}
use Rattle.log_model.specs.declared.lines.Break.TheVariants.{Cut, Tear}
use Rattle.log_model.specs.declared.lines.Find.{Find}
use Rattle.log_model.specs.declared.lines.Verdict.{Verdict}
use Rattle.log_model.specs.Log.{RunLog, Phase, In, Keeping, same_phase, phase_of, cut_of, cut_in, tears_here, is_torn_in, found_in}
use Rattle.log_model.specs.Slots.{Slots, Sitting, same_card, in_slot}
use Rattle.log_model.specs.Causes.{device_of, is_cut, has_failed, second_of, cuts, failed_cut_in, ComesBehind, AreInTime, tears, places, visit_places, in_the_slot, refusals_at, RoseBy, IsBegun, IsAtPowerOn, CutBy}
use Rattle.log_model.specs.Course.{ToldSecond, Went, Course, Visit, Before, Moved, visits, card_in, slot_told, both_told, unmoved, cut_told, lit_course, has_power, second_told, went}
use Rattle.event_model.specs.Events.{course_by}
use Rattle.history_model.specs.Presence.{Start}
use Rattle.run_unit_course.specs.Lines.{log_of, cut_at}
use Rattle.run_unit_course.specs.Followed.{Lit}
use Rattle.run_unit_course.specs.Turn.{begins_with}
use Rattle.run_course.specs.Moments.{and_break, and_find, finds_here, SameUpTo}
use Rattle.run_course.specs.Followed.{Progress, BookFollowsRun}
use Rattle.run_course.specs.Seconds.{GoesOnBy, next_told}
use Rattle.run_course.specs.Within.{IsFoundOf, not_begun}
use Rattle.run_course.specs.Caused.{StandsBy, AreNewCauses}
use Rattle.run_course.proofs.Lookups.{cut-by, cut-first, found-by, break-more, find-more}
use Rattle.run_course.proofs.Moments.{both-still}
use Rattle.run_course.proofs.Steps.{with-supply, went-same_}
use Rattle.run_course.proofs.Told.{lit-power, lit-starts}
use Rattle.run_course.proofs.Within.{second-ends, cut-ends}
use Rattle.run_course.specs.Reached.{IsBehind, moved_at, course_at, IsUpTo, IsTearAt, IsFindAt}
use Rattle.run_course.specs.Lines.{times_of, IsTornAt}
use Rattle.run_course.specs.Moment.{finds_by, find_as, found_at, found_by, IsJudgedBy, IsWaiting, goes_on}
use Rattle.run_course.specs.Telling.{IsMore, BreakdownsOnly, BrokeDown, ACardIsTorn, WaitBut, ATornCardWaitsNoMore, ACardIsJudged, TheKeepingComes, told_with, TheSecondEnds, begun_by, IsLeft, ACutEnds}
use Rattle.run_course.proofs.Reached.{at-by, push-each, keeping-reached, lines-reached}
use Rattle.run_course.proofs.Lines.{tear-seen, find-seen, who-sits}
use Rattle.run_course.proofs.Moment.{HasCourse, reaches-of, parts-of, moment-by, places-more}

-- COUNTS of breakdowns
rose-more : (n before mid now : ℕ) → RoseBy n before mid → mid ≤ now → RoseBy n before now
rose-more n before mid now (inl low) le = inl (omega (arith, low, le))
rose-more n before mid now (inr top) le = inr (full mid now top le)
  where
    full : (mid now : ℕ) → 2 ^ 64 - 1 ≤ mid → mid ≤ now → 2 ^ 64 - 1 ≤ now
    full mid now top le = omega (arith, top, le)

rose-sum : (n m before mid now : ℕ) → RoseBy n before mid → RoseBy m mid now → RoseBy (n + m) before now
rose-sum n m before mid now (inl low) (inl high) = inl (omega (arith, low, high))
rose-sum n m before mid now (inl low) (inr top) = inr top
rose-sum n m before mid now (inr top) (inl high) = inr (full mid now m top high)
  where
    full : (mid now m : ℕ) → 2 ^ 64 - 1 ≤ mid → mid + m ≤ now → 2 ^ 64 - 1 ≤ now
    full mid now m top high = omega (arith, top, high)
rose-sum n m before mid now (inr top) (inr most) = inr most

stands-sum : (n m before mid now : ℕ) → StandsBy n before mid → StandsBy m mid now → StandsBy (n + m) before now
stands-sum n m before mid now first next = λ none. let a : n ≡ 0 = omega (arith, none) in let b : m ≡ 0 = omega (arith, none) in next b ∙ first a

stands-more : (n before mid now : ℕ) → StandsBy n before mid → now ≡ mid → StandsBy n before now
stands-more n before mid now first same = λ none. same ∙ first none

rests : (mid now : ℕ) → now ≡ mid → mid ≤ now
rests mid now same = omega (arith, same)

pub each-of : {X : Type 0} (P : X → Type 0) (xs : List X) (x : X) → AllByRecursion P xs → Contains xs x → P x
each-of P [] x h at = absurd (omega (arith, at.1))
each-of P (y ∷ xs) x h at = ⊎_elim
    (λ one. ⊎_elim (λ none. absurd (omega (arith, none.1))) (λ (same : y ≡ x). subst P same h.0) (Contains-push_cases [] y x one))
    (λ rest. each-of P xs x h.1 rest)
    (Contains-append_cases (y ∷ []) xs x at)

-- BREAKDOWNS alone
pub breakdowns-only : BreakdownsOnly
breakdowns-only p before s at log waits mid now later m more =
    let h = parts-of p before s at log waits mid now m in
    moment-by p before s at log waits mid later (course_at log before s at) refl (reaches-of p before s at log waits mid now m) m.waits_here
    (record {
      number = h.number;
      given = h.given;
      breaks = h.breaks;
      breaks_are = h.breaks_are;
      breaks_here = h.breaks_here;
      finds = h.finds;
      finds_are = h.finds_are;
      finds_here = h.finds_here;
      refused = h.refused;
      refused_are = h.refused_are;
      refusals = h.refusals;
      uncut = h.uncut;
      unit = let le = h.unit in let on = more.unit in omega (arith, le, on);
      tear_lines = h.tear_lines;
      failed_tears = h.failed_tears;
      torn_cards = λ card. rose-more (times_of card (course_at log before s at).torn) (mid (device_of card)) (now (device_of card)) (later (device_of card)) (h.torn_cards card) (rests (now (device_of card)) (later (device_of card)) (more.cards card));
      calm_cards = λ card. stands-more (times_of card (course_at log before s at).torn) (mid (device_of card)) (now (device_of card)) (later (device_of card)) (h.calm_cards card) (more.cards card);
      begun = h.begun;
      moments = h.moments;
      told_finds = h.told_finds;
      judged = h.judged;
      counted = h.counted;
      found_now = h.found_now;
    })

-- A CARD IS TORN OUT
torn-still : (log : RunLog) (b : Break) (u : ℕ) (p : Phase) (slot : Slot) → is_torn_in log u p slot ≡ true → is_torn_in (and_break log b) u p slot ≡ true
torn-still log b u p slot is = (break-more log b u).torn p slot ∙ ap (λ (t : Bool). t || tears_here u p slot b) is

one-time : (card other : Card) (at : Phase) (slot : Slot) (now later : Device → ℕ) → BrokeDown card now later →
    RoseBy (times_of other (record { phase = at; slot = slot; card = card } ∷ [])) (now (device_of other)) (later (device_of other))
one-time A A at slot now later b = b.broke
one-time B B at slot now later b = b.broke
one-time A B at slot now later b = inl (let same = b.others B (λ is. (cc)) in omega (arith, same))
one-time B A at slot now later b = inl (let same = b.others A (λ is. (cc)) in omega (arith, same))

one-calm : (card other : Card) (at : Phase) (slot : Slot) (now later : Device → ℕ) → BrokeDown card now later →
    StandsBy (times_of other (record { phase = at; slot = slot; card = card } ∷ [])) (now (device_of other)) (later (device_of other))
one-calm A A at slot now later b = λ none. absurd (let one : 1 ≡ 0 = none in omega (arith, one))
one-calm B B at slot now later b = λ none. absurd (let one : 1 ≡ 0 = none in omega (arith, one))
one-calm A B at slot now later b = λ none. b.others B (λ is. (cc))
one-calm B A at slot now later b = λ none. b.others A (λ is. (cc))

only-one : (s y : TraceSecond) (P : TraceSecond → Type 0) → Contains (s ∷ []) y → P s → P y
only-one s y P at h = ⊎_elim (λ none. absurd (omega (arith, none.1))) (λ (same : s ≡ y). subst P same h) (Contains-push_cases [] s y at)

tear-begun_by : (s : TraceSecond) (at : Phase) (slot : Slot) (failed : Bool) (b : Break) → IsTearAt s at slot failed b → IsBegun (s ∷ []) b
tear-begun_by s at slot failed b is = subst (IsBegun (s ∷ [])) (sym is.2)
    (λ y among same. (only-one s y (λ (z : TraceSecond). is.0 ≤ length z.actions) among is.4, λ late. only-one s y (λ (z : TraceSecond). is.0 ≡ length z.actions) among (is.5 late)))

tear-power : (starts : Bool) (s : TraceSecond) (at : Phase) (slot : Slot) (failed : Bool) (b : Break) → IsTearAt s at slot failed b → (at ≡ In 0 → starts ≡ true) → IsAtPowerOn starts b
tear-power starts s at slot failed b is power = subst (IsAtPowerOn starts) (sym is.2) (λ none early. power (sym is.3 ∙ ap (phase_of is.0) early ∙ ap In none))

tear-places : (s : TraceSecond) (at : Phase) (slot : Slot) (b : Break) → IsTearAt s at slot true b →
    (flat_map places (tears true (log_of (b ∷ []))) ≡ (s.number, at, slot) ∷ []) × (flat_map places (tears false (log_of (b ∷ []))) ≡ [])
tear-places s at slot b is = (
  ap (λ (x : Break). flat_map places (tears true (log_of (x ∷ [])))) is.2 ∙ ap (λ (q : Phase). (s.number, q, slot) ∷ []) is.3,
  ap (λ (x : Break). flat_map places (tears false (log_of (x ∷ [])))) is.2,
)

torn-parts : {starts : Bool} (p : Progress) (s : TraceSecond) (at : Phase) (log : RunLog) (waits : List Visit) (mid now later : Device → ℕ) (c d : Course) (slot : Slot) (b : Break) (card : Card) → IsTearAt s at slot true b → (at ≡ In 0 → starts ≡ true) →
    BrokeDown card now later → IsTornAt s.number slot (record { phase = at; slot = slot; card = card } ∷ []) c d → HasCourse starts p s at log waits mid now c → HasCourse starts p s at (and_break log b) waits mid later d
torn-parts {starts = starts} p s at log waits mid now later c d slot b card is power broke t h =
    let one : List Visit = record { phase = at; slot = slot; card = card } ∷ [] in
    let mine = tear-places s at slot b is in
    record {
      number = h.number;
      given = h.given;
      breaks = h.breaks ++ b ∷ [];
      breaks_are = ap (λ (bs : List Break). bs ++ b ∷ []) h.breaks_are ∙ append_assoc p.log.breaks h.breaks (b ∷ []);
      breaks_here = push-each (λ (b : Break). second_of b ≡ p.next) h.breaks b h.breaks_here (ap second_of is.2 ∙ h.number);
      finds = h.finds;
      finds_are = h.finds_are;
      finds_here = h.finds_here;
      refused = h.refused;
      refused_are = h.refused_are;
      refusals = h.refusals ∙ ap (refusals_at s.number) (sym t.is.refused);
      uncut = push-each (λ (b : Break). is_cut b ≡ false) h.breaks b h.uncut (ap is_cut is.2);
      unit = let le = h.unit in let on = broke.unit in omega (arith, le, on);
      tear_lines = places-more false h.breaks b ∙ ap (λ (ps : List (ℕ × Phase × Slot)). flat_map places (tears false (log_of h.breaks)) ++ ps) mine.1
          ∙ append-nil (flat_map places (tears false (log_of h.breaks))) ∙ h.tear_lines ∙ ap (visit_places s.number) (sym t.is.pulled);
      failed_tears = λ other. ap (in_the_slot other) (places-more true h.breaks b ∙ ap (λ (ps : List (ℕ × Phase × Slot)). flat_map places (tears true (log_of h.breaks)) ++ ps) mine.0)
          ∙ filter-append (λ (q : ℕ × Phase × Slot). same_slot q.2 other) (flat_map places (tears true (log_of h.breaks))) ((s.number, at, slot) ∷ [])
          ∙ ap (λ (ps : List (ℕ × Phase × Slot)). ps ++ in_the_slot other ((s.number, at, slot) ∷ [])) (h.failed_tears other)
          ∙ sym (t.torn other);
      torn_cards = λ other. subst (λ (n : ℕ). RoseBy n (mid (device_of other)) (later (device_of other))) (sym (t.times other))
          (rose-sum (times_of other c.torn) (times_of other one) (mid (device_of other)) (now (device_of other)) (later (device_of other)) (h.torn_cards other) (one-time card other at slot now later broke));
      calm_cards = λ other. subst (λ (n : ℕ). StandsBy n (mid (device_of other)) (later (device_of other))) (sym (t.times other))
          (stands-sum (times_of other c.torn) (times_of other one) (mid (device_of other)) (now (device_of other)) (later (device_of other)) (h.calm_cards other) (one-calm card other at slot now later broke));
      begun = push-each (IsBegun (s ∷ [])) h.breaks b h.begun (tear-begun_by s at slot true b is);
      moments = push-each (IsAtPowerOn starts) h.breaks b h.moments (tear-power starts s at slot true b is power);
      told_finds = h.told_finds ∙ ap (map (found_at s.number)) (sym t.is.found);
      judged = λ e among. ⊎_elim
          (λ w. inl (record { among = w.among; none = found-same e ∙ w.none }))
          (λ j. inr (record {
            once = subst (λ (vs : List Verdict). length vs ≤ 1) (sym (found-same e)) j.once;
            missing = λ none. torn-still log b s.number e.phase e.slot (j.missing (sym (found-same e) ∙ none));
          }))
          (h.judged e (subst (λ (vs : List Visit). Contains vs e) t.is.entered among));
      counted = λ other. subst (λ (fs : List (Visit × Verdict)). times_of other waits + finds_by other fs ≤ times_of other d.entered) (sym t.is.found) (subst (λ (vs : List Visit). times_of other waits + finds_by other c.found ≤ times_of other vs) (sym t.is.entered) (h.counted other));
      found_now = subst (AllByRecursion (λ (f : Visit × Verdict). IsBehind at f.0.phase → ⊥)) (sym t.is.found) h.found_now;
    }
  where
    found-same : (e : Visit) → found_by d e ≡ found_by c e
    found-same e = ap (λ (fs : List (Visit × Verdict)). map (λ (f : Visit × Verdict). f.1) (filter (λ (f : Visit × Verdict). same_phase f.0.phase e.phase && same_slot f.0.slot e.slot) fs)) t.is.found

pub card-torn : ACardIsTorn
card-torn p before s at log waits mid now later m slot b is power old card out broke =
    let c : Course = course_at log before s at in
    let d : Course = course_at (and_break log b) before s at in
    let t : IsTornAt s.number slot (record { phase = at; slot = slot; card = card } ∷ []) c d = subst (λ (vs : List Visit). IsTornAt s.number slot vs c d) out (tear-seen log before s at slot true b is m.up_to old) in (
      moment-by p before s at (and_break log b) waits mid later d refl ((lines-reached p s at log (reaches-of p before s at log waits mid now m)).0 slot true b is) m.waits_here
          (torn-parts p s at log waits mid now later c d slot b card is (λ first. ap not (power first)) broke t (parts-of p before s at log waits mid now m)),
      t,
    )

-- WHO WAITS
pub waits-no_more : ATornCardWaitsNoMore
waits-no_more p before s at log waits fewer mid now m slot card torn but here =
    let h = parts-of p before s at log waits mid now m in
    let c : Course = course_at log before s at in
    moment-by p before s at log fewer mid now c refl (reaches-of p before s at log waits mid now m) here
    (record {
      number = h.number;
      given = h.given;
      breaks = h.breaks;
      breaks_are = h.breaks_are;
      breaks_here = h.breaks_here;
      finds = h.finds;
      finds_are = h.finds_are;
      finds_here = h.finds_here;
      refused = h.refused;
      refused_are = h.refused_are;
      refusals = h.refusals;
      uncut = h.uncut;
      unit = h.unit;
      tear_lines = h.tear_lines;
      failed_tears = h.failed_tears;
      torn_cards = h.torn_cards;
      calm_cards = h.calm_cards;
      begun = h.begun;
      moments = h.moments;
      told_finds = h.told_finds;
      judged = λ e among. ⊎_elim
          (λ w. ⊎_elim
          (λ still. inl (record { among = still; none = w.none }))
          (λ there. inr (record {
            once = subst (λ (vs : List Verdict). length vs ≤ 1) (sym w.none) (omega arith);
            missing = λ none.
                ap (λ (q : Phase). is_torn_in log s.number q e.slot) (each-of (λ (e : Visit). e.phase ≡ at) waits e m.waits_here w.among)
                ∙ ap (is_torn_in log s.number at) there ∙ torn;
          }))
          (but.others e w.among))
          (λ j. inr j)
          (h.judged e among);
      counted = λ other. (let le = h.counted other in let few = but.fewer_by other in omega (arith, le, few));
      found_now = h.found_now;
    })

-- A CARD IS JUDGED
same-number : (u : ℕ) → nat_eq u u ≡ true
same-number u = grind (arith, nat_tests)

same-phase : (q : Phase) → same_phase q q ≡ true
same-phase (In n) = same-number n
same-phase Keeping = refl

tears-self : (slot : Slot) → same_slot slot slot ≡ true
tears-self Driver = refl
tears-self CoDriver = refl

not-behind : (at : Phase) → IsBehind at at → ⊥
not-behind (In n) lt = omega (arith, lt)
not-behind Keeping h = h

visits-sit : (at : Phase) (slot : Slot) (slots : Slots) (x : Sitting) → in_slot slots slot ≡ Some x → visits at slot slots ≡ record { phase = at; slot = slot; card = x.card } ∷ []
visits-sit at slot slots x is = ap (λ (o : Option Sitting). map (λ (card : Card). record { phase = at; slot = slot; card = card }) (card_in o)) is

-- what was found of a card, with one find more
found-more : (c d : Course) (v : Visit) (verdict : Verdict) (e : Visit) → d.found ≡ c.found ++ (v, verdict) ∷ [] → (b : Bool) → (same_phase v.phase e.phase && same_slot v.slot e.slot) ≡ b → found_by d e ≡ found_by c e ++ cond b (verdict ∷ []) []
found-more c d v verdict e is b same =
    let test : Visit × Verdict → Bool = λ (f : Visit × Verdict). same_phase f.0.phase e.phase && same_slot f.0.slot e.slot in
    ap (λ (fs : List (Visit × Verdict)). map (λ (f : Visit × Verdict). f.1) (filter test fs)) is
    ∙ ap (map (λ (f : Visit × Verdict). f.1)) (filter-append test c.found ((v, verdict) ∷ []))
    ∙ map-append (λ (f : Visit × Verdict). f.1) (filter test c.found) (filter test ((v, verdict) ∷ []))
    ∙ ap (λ (vs : List Verdict). found_by c e ++ vs) (ap (λ (t : Bool). map (λ (f : Visit × Verdict). f.1) (cond t ((v, verdict) ∷ []) [])) same ∙ one b)
  where
    one : (b : Bool) → map (λ (f : Visit × Verdict). f.1) (cond b ((v, verdict) ∷ []) []) ≡ cond b (verdict ∷ []) []
    one true = refl
    one false = refl

-- how often something was found of a card
finds-append : (card : Card) (xs ys : List (Visit × Verdict)) → finds_by card (xs ++ ys) ≡ finds_by card xs + finds_by card ys
finds-append card xs ys =
    ap length (filter-append (λ (f : Visit × Verdict). same_card card f.0.card) xs ys) ∙ length-append (filter (λ (f : Visit × Verdict). same_card card f.0.card) xs) (filter (λ (f : Visit × Verdict). same_card card f.0.card) ys)

one-find : (card : Card) (v : Visit) (verdict : Verdict) → finds_by card ((v, verdict) ∷ []) ≡ times_of card (v ∷ [])
one-find card v verdict = by (same_card card v.card)
  where
    by : (b : Bool) → length {A = Visit × Verdict} (cond b ((v, verdict) ∷ []) []) ≡ length {A = Card} (cond b (v.card ∷ []) [])
    by true = refl
    by false = refl

-- two visits of one place have the same found
phase-is : (a b : Phase) → same_phase a b ≡ true → a ≡ b
phase-is (In n) (In m) is = let e : n ≡ m = grind (arith, nat_tests) in ap In e
phase-is (In n) Keeping is = absurd (cc)
phase-is Keeping (In n) is = absurd (cc)
phase-is Keeping Keeping is = refl

slot-is : (a b : Slot) → same_slot a b ≡ true → a ≡ b
slot-is Driver Driver h = refl
slot-is CoDriver CoDriver h = refl
slot-is Driver CoDriver h = absurd (cc)
slot-is CoDriver Driver h = absurd (cc)

and-left : (x y : Bool) → (x && y) ≡ true → x ≡ true
and-left true y h = refl
and-left false y h = absurd (cc)

and-right : (x y : Bool) → (x && y) ≡ true → y ≡ true
and-right true y h = h
and-right false y h = absurd (cc)

-- of a card of which nothing is told nothing was found
second-part : {X : Type 0} (xs ys : List X) → xs ++ ys ≡ [] → ys ≡ []
second-part [] ys h = h
second-part (x ∷ xs) ys h = absurd (cc)

map-none : {X Y : Type 0} (g : X → Y) (xs : List X) → map g xs ≡ [] → xs ≡ []
map-none g [] h = refl
map-none g (x ∷ xs) h = absurd (cc)

three-true : (x y z b : Bool) → x ≡ true → (x && y && z) ≡ b → (y && z) ≡ b
three-true true y z b is h = h
three-true false y z b is h = absurd (cc)

one-found : (u : ℕ) (at : Phase) (slot : Slot) (f : Find) (g : Visit × Verdict) (finds : List Find) (found : List (Visit × Verdict)) → find_as f ≡ found_at u g → filter (finds_here u at slot) (f ∷ finds) ≡ [] →
    (filter (finds_here u at slot) finds ≡ [] → filter (λ (g : Visit × Verdict). same_phase g.0.phase at && same_slot g.0.slot slot) found ≡ []) →
    filter (λ (g : Visit × Verdict). same_phase g.0.phase at && same_slot g.0.slot slot) (g ∷ found) ≡ []
one-found u at slot f g finds found head none others = by (finds_here u at slot f) refl
  where
    by : (b : Bool) → finds_here u at slot f ≡ b → filter (λ (g : Visit × Verdict). same_phase g.0.phase at && same_slot g.0.slot slot) (g ∷ found) ≡ []
    by true is = let clash : f ∷ filter (finds_here u at slot) finds ≡ [] = ap (λ (t : Bool). cond t (f ∷ filter (finds_here u at slot) finds) (filter (finds_here u at slot) finds)) (sym is) ∙ none in absurd (cc)
    by false is =
        let rest : filter (finds_here u at slot) finds ≡ [] = ap (λ (t : Bool). cond t (f ∷ filter (finds_here u at slot) finds) (filter (finds_here u at slot) finds)) (sym is) ∙ none in
        let second : f.second ≡ u = ap (λ (q : ℕ × Phase × Slot × Verdict). q.0) head in
        let phase : In f.begun ≡ g.0.phase = ap (λ (q : ℕ × Phase × Slot × Verdict). q.1) head in
        let slot_is : f.slot ≡ g.0.slot = ap (λ (q : ℕ × Phase × Slot × Verdict). q.2) head in
        let not_here : (same_phase (In f.begun) at && same_slot f.slot slot) ≡ false =
        three-true (nat_eq f.second u) (same_phase (In f.begun) at) (same_slot f.slot slot) false (ap (λ (n : ℕ). nat_eq n u) second ∙ same-number u) is in
        let not_there : (same_phase g.0.phase at && same_slot g.0.slot slot) ≡ false =
        ap (λ (q : Phase). same_phase q at && same_slot g.0.slot slot) (sym phase) ∙ ap (λ (q : Slot). same_phase (In f.begun) at && same_slot q slot) (sym slot_is) ∙ not_here in
        ap (λ (t : Bool). cond t (g ∷ filter (λ (g : Visit × Verdict). same_phase g.0.phase at && same_slot g.0.slot slot) found) (filter (λ (g : Visit × Verdict). same_phase g.0.phase at && same_slot g.0.slot slot) found)) not_there
        ∙ others rest

no-found : (u : ℕ) (at : Phase) (slot : Slot) (finds : List Find) (found : List (Visit × Verdict)) → map find_as finds ≡ map (found_at u) found → filter (finds_here u at slot) finds ≡ [] →
    filter (λ (g : Visit × Verdict). same_phase g.0.phase at && same_slot g.0.slot slot) found ≡ []
no-found u at slot [] [] same none = refl
no-found u at slot [] (g ∷ found) same none = absurd (cc)
no-found u at slot (f ∷ finds) [] same none = absurd (cc)
no-found u at slot (f ∷ finds) (g ∷ found) same none = one-found u at slot f g finds found (let head : find_as f ≡ found_at u g = cc in head) none (λ rest. no-found u at slot finds found (let tail : map find_as finds ≡ map (found_at u) found = cc in tail) rest)

untold : {starts : Bool} (p : Progress) (s : TraceSecond) (at : Phase) (log : RunLog) (waits : List Visit) (mid now : Device → ℕ) (c : Course) (slot : Slot) → HasCourse starts p s at log waits mid now c → found_in log s.number at slot ≡ [] →
    filter (λ (g : Visit × Verdict). same_phase g.0.phase at && same_slot g.0.slot slot) c.found ≡ []
untold p s at log waits mid now c slot h none =
    no-found s.number at slot h.finds c.found h.told_finds
    (second-part (filter (finds_here s.number at slot) p.log.finds) (filter (finds_here s.number at slot) h.finds)
    (sym (filter-append (finds_here s.number at slot) p.log.finds h.finds) ∙ ap (filter (finds_here s.number at slot)) (sym h.finds_are)
    ∙ map-none (λ (f : Find). f.verdict) (filter (finds_here s.number at slot) log.finds) (sym (found-by log s.number at slot) ∙ none)))

module _ (p : Progress) (s : TraceSecond) (at : Phase) (log : RunLog) (waits fewer : List Visit) (mid now : Device → ℕ) (c d : Course) (f : Find) (is : IsFindAt s at f) (v : Visit) (place : v.phase ≡ at) (slot : v.slot ≡ f.slot)
    (found : d.found ≡ c.found ++ (v, f.verdict) ∷ []) (fresh_ : found_by c v ≡ []) (entered : d.entered ≡ c.entered) (torn : d.torn ≡ c.torn) (pulled : d.pulled ≡ c.pulled) (refused : d.refused ≡ c.refused)
    (but : WaitBut at f.slot v.card waits fewer) (here : AllByRecursion (λ (e : Visit). e.phase ≡ at) waits) where
  judged-one : (e : Visit) → IsWaiting waits c e ⊎ IsJudgedBy log s.number c e → IsWaiting fewer d e ⊎ IsJudgedBy (and_find log f) s.number d e
  judged-one e h = by (same_phase v.phase e.phase && same_slot v.slot e.slot) refl
    where
      torn-same : is_torn_in (and_find log f) s.number e.phase e.slot ≡ is_torn_in log s.number e.phase e.slot
      torn-same = (find-more log f s.number).torn e.phase e.slot

      by : (b : Bool) → (same_phase v.phase e.phase && same_slot v.slot e.slot) ≡ b → IsWaiting fewer d e ⊎ IsJudgedBy (and_find log f) s.number d e
      by true same =
          let ph : v.phase ≡ e.phase = phase-is v.phase e.phase (and-left (same_phase v.phase e.phase) (same_slot v.slot e.slot) same) in
          let sl : v.slot ≡ e.slot = slot-is v.slot e.slot (and-right (same_phase v.phase e.phase) (same_slot v.slot e.slot) same) in
          let none : found_by c e ≡ [] =
          ap (λ (q : Phase). map (λ (f : Visit × Verdict). f.1) (filter (λ (f : Visit × Verdict). same_phase f.0.phase q && same_slot f.0.slot e.slot) c.found)) (sym ph)
          ∙ ap (λ (q : Slot). map (λ (f : Visit × Verdict). f.1) (filter (λ (f : Visit × Verdict). same_phase f.0.phase v.phase && same_slot f.0.slot q) c.found)) (sym sl) ∙ fresh_ in
          let now_ : found_by d e ≡ f.verdict ∷ [] = found-more c d v f.verdict e found true same ∙ ap (λ (vs : List Verdict). vs ++ f.verdict ∷ []) none in
          inr (record { once = subst (λ (vs : List Verdict). length vs ≤ 1) (sym now_) (omega arith); missing = λ gone. let clash : f.verdict ∷ [] ≡ [] = sym now_ ∙ gone in absurd (cc) })
      by false same =
          let now_ : found_by d e ≡ found_by c e = found-more c d v f.verdict e found false same ∙ append-nil (found_by c e) in
          ⊎_elim
          (λ w. ⊎_elim
          (λ still. inl (record { among = still; none = now_ ∙ w.none }))
          (λ (there : e.slot ≡ f.slot).
          let ph : e.phase ≡ at = each-of (λ (e : Visit). e.phase ≡ at) waits e here w.among in
          let yes_ : (same_phase v.phase e.phase && same_slot v.slot e.slot) ≡ true =
          ap (λ (q : Phase). same_phase q e.phase && same_slot v.slot e.slot) (place ∙ sym ph) ∙ ap (λ (t : Bool). t && same_slot v.slot e.slot) (same-phase e.phase)
          ∙ ap (λ (q : Slot). same_slot q e.slot) (slot ∙ sym there) ∙ tears-self e.slot in
          let clash : true ≡ false = sym yes_ ∙ same in absurd (cc))
          (but.others e w.among))
          (λ j. inr (record {
            once = subst (λ (vs : List Verdict). length vs ≤ 1) (sym now_) j.once;
            missing = λ gone. torn-same ∙ j.missing (sym now_ ∙ gone);
          }))
          h

  judged-parts : {starts : Bool} → HasCourse starts p s at log waits mid now c → HasCourse starts p s at (and_find log f) fewer mid now d
  judged-parts h = record {
    number = h.number;
    given = h.given;
    breaks = h.breaks;
    breaks_are = h.breaks_are;
    breaks_here = h.breaks_here;
    finds = h.finds ++ f ∷ [];
    finds_are = ap (λ (fs : List Find). fs ++ f ∷ []) h.finds_are ∙ append_assoc p.log.finds h.finds (f ∷ []);
    finds_here = push-each (λ (f : Find). f.second ≡ p.next) h.finds f h.finds_here (is.second ∙ h.number);
    refused = h.refused;
    refused_are = h.refused_are;
    refusals = h.refusals ∙ ap (refusals_at s.number) (sym refused);
    uncut = h.uncut;
    unit = h.unit;
    tear_lines = h.tear_lines ∙ ap (visit_places s.number) (sym pulled);
    failed_tears = λ other. h.failed_tears other ∙ ap (λ (vs : List Visit). in_the_slot other (visit_places s.number vs)) (sym torn);
    torn_cards = λ card. subst (λ (vs : List Visit). RoseBy (times_of card vs) (mid (device_of card)) (now (device_of card))) (sym torn) (h.torn_cards card);
    calm_cards = λ card. subst (λ (vs : List Visit). StandsBy (times_of card vs) (mid (device_of card)) (now (device_of card))) (sym torn) (h.calm_cards card);
    begun = h.begun;
    moments = h.moments;
    told_finds = map-append find_as h.finds (f ∷ []) ∙ ap (λ (xs : List (ℕ × Phase × Slot × Verdict)). xs ++ find_as f ∷ []) h.told_finds
        ∙ ap (λ (x : ℕ × Phase × Slot × Verdict). map (found_at s.number) c.found ++ x ∷ []) one-as
        ∙ sym (map-append (found_at s.number) c.found ((v, f.verdict) ∷ []))
        ∙ ap (map (found_at s.number)) (sym found);
    judged = λ e among. judged-one e (h.judged e (subst (λ (vs : List Visit). Contains vs e) entered among));
    counted = λ other. subst (λ (fs : List (Visit × Verdict)). times_of other fewer + finds_by other fs ≤ times_of other d.entered) (sym found)
        (subst (λ (vs : List Visit). times_of other fewer + finds_by other (c.found ++ (v, f.verdict) ∷ []) ≤ times_of other vs) (sym entered)
        (let le = h.counted other in let few = but.fewer_by other in let e = finds-append other c.found ((v, f.verdict) ∷ []) in let one = one-find other v f.verdict in let same = here-as other in omega (arith, le, few, e, one, same)));
    found_now = subst (AllByRecursion (λ (f : Visit × Verdict). IsBehind at f.0.phase → ⊥)) (sym found)
        (push-each (λ (f : Visit × Verdict). IsBehind at f.0.phase → ⊥) c.found (v, f.verdict) h.found_now (λ behind. not-behind at (subst (IsBehind at) place behind)));
  }
    where
      here-as : (other : Card) → times_of other (record { phase = at; slot = f.slot; card = v.card } ∷ []) ≡ times_of other (v ∷ [])
      here-as other = refl

      one-as : find_as f ≡ found_at s.number (v, f.verdict)
      one-as =
          ap (λ (n : ℕ). (n, In f.begun, f.slot, f.verdict)) is.second
          ∙ ap (λ (q : Phase). (s.number, q, f.slot, f.verdict)) (is.begun ∙ sym place)
          ∙ ap (λ (q : Slot). (s.number, v.phase, q, f.verdict)) (sym slot)

pub card-judged : ACardIsJudged
card-judged p before s at log waits fewer mid now m f is x sits none enters order but here =
    let c : Course = course_at log before s at in
    let d : Course = course_at (and_find log f) before s at in
    let v : Visit = record { phase = at; slot = f.slot; card = x.card } in
    let untorn : is_torn_in log s.number at f.slot ≡ false = who-sits log before s at f.slot x sits in
    let seen : IsFoundOf s.number at f.slot f.verdict c d = find-seen log before s at f is m.up_to untorn none enters order in
    let found : d.found ≡ c.found ++ (v, f.verdict) ∷ [] =
    seen.found ∙ ap (λ (vs : List Visit). c.found ++ map (λ (visit : Visit). (visit, f.verdict)) vs) (visits-sit at f.slot c.slots x sits) in
    let fresh_ : found_by c v ≡ [] = ap (map (λ (f : Visit × Verdict). f.1)) (untold p s at log waits mid now c f.slot (parts-of p before s at log waits mid now m) none) in (
      moment-by p before s at (and_find log f) fewer mid now d refl ((lines-reached p s at log (reaches-of p before s at log waits mid now m)).1 f is) here
          (judged-parts p s at log waits fewer mid now c d f is v refl refl found fresh_ (entered-same s at log before f is m.up_to untorn none enters order) seen.torn seen.pulled seen.refused but m.waits_here
          (parts-of p before s at log waits mid now m)),
      seen,
    )
  where
    entered-same : (s : TraceSecond) (at : Phase) (log : RunLog) (before : Before) (f : Find) → IsFindAt s at f → IsUpTo log s.number at → is_torn_in log s.number at f.slot ≡ false → found_in log s.number at f.slot ≡ [] →
        (moved_at log before s at).enters f.slot ≡ true → (f.slot ≡ Driver → ((moved_at log before s at).enters CoDriver ≡ false) ⊎ (found_in log s.number at CoDriver ≡ [])) →
        (course_at (and_find log f) before s at).entered ≡ (course_at log before s at).entered
    entered-same s at log before f is up untorn none enters order = (find-seen log before s at f is up untorn none enters order).entered

-- THE KEEPING
pub keeping-comes : TheKeepingComes
keeping-comes p before s log mid now m =
    let next = keeping-reached p before s log (reaches-of p before s (In (length s.actions)) log [] mid now m) in
    let c : Course = course_at log before s (In (length s.actions)) in
    (moment-by p before s Keeping log [] mid now c next.1 next.0 tt (on (parts-of p before s (In (length s.actions)) log [] mid now m)), next.1)
  where
    on : HasCourse (not before.running) p s (In (length s.actions)) log [] mid now (course_at log before s (In (length s.actions))) → HasCourse (not before.running) p s Keeping log [] mid now (course_at log before s (In (length s.actions)))
    on h = record {
      number = h.number;
      given = h.given;
      breaks = h.breaks;
      breaks_are = h.breaks_are;
      breaks_here = h.breaks_here;
      finds = h.finds;
      finds_are = h.finds_are;
      finds_here = h.finds_here;
      refused = h.refused;
      refused_are = h.refused_are;
      refusals = h.refusals;
      uncut = h.uncut;
      unit = h.unit;
      tear_lines = h.tear_lines;
      failed_tears = h.failed_tears;
      torn_cards = h.torn_cards;
      calm_cards = h.calm_cards;
      begun = h.begun;
      moments = h.moments;
      told_finds = h.told_finds;
      judged = h.judged;
      counted = h.counted;
      found_now = none-behind (course_at log before s (In (length s.actions))).found;
    }
      where
        none-behind : (fs : List (Visit × Verdict)) → AllByRecursion (λ (f : Visit × Verdict). IsBehind Keeping f.0.phase → ⊥) fs
        none-behind [] = tt
        none-behind (f ∷ fs) = ((λ h. h), none-behind fs)

-- HOW A SECOND WENT
pub lit-as : (log : RunLog) (before : Before) (s : TraceSecond) → has_power before s ≡ true → s.has_power ≡ true →
    second_told log before s ≡ told_with (not before.running) (is_some (cut_in log s.number)) s (second_told log before s).course
lit-as log before s power given = rw power (given-as s.has_power given)
  where
    given-as : (b : Bool) → b ≡ true →
        record {
          second = record { number = s.number; speed = s.speed; picks = (lit_course log s (not before.running) before.slots).picks };
          given = b;
          lit = true;
          starts = not before.running;
          cut = is_some (cut_in log s.number);
          course = lit_course log s (not before.running) before.slots;
        }
        ≡ told_with (not before.running) (is_some (cut_in log s.number)) s (lit_course log s (not before.running) before.slots)
    given-as true is = refl
    given-as false is = absurd (cc)

no-cuts : (bs : List Break) → AllByRecursion (λ (b : Break). is_cut b ≡ false) bs → filter is_cut bs ≡ []
no-cuts [] h = refl
no-cuts (b ∷ bs) h = ap (λ (t : Bool). cond t (b ∷ filter is_cut bs) (filter is_cut bs)) h.0 ∙ no-cuts bs h.1

no-cuts_by : (failed : Bool) (bs : List Break) → AllByRecursion (λ (b : Break). is_cut b ≡ false) bs → cuts failed (log_of bs) ≡ []
no-cuts_by failed [] h = refl
no-cuts_by failed (b ∷ bs) h =
    ap (λ (t : Bool). cond (t && cond failed (has_failed b) (not (has_failed b))) (b ∷ cuts failed (log_of bs)) (cuts failed (log_of bs))) h.0 ∙ no-cuts_by failed bs h.1

-- tears of one second are in order, and a cut behind them is
same-second : (n : ℕ) (b : Break) (bs : List Break) → is_cut b ≡ false → second_of b ≡ n → AllByRecursion (λ (c : Break). second_of c ≡ n) bs → AllByRecursion (ComesBehind b) bs
same-second n (Cut s k f i) bs uncut is h = absurd (cc)
same-second n (Tear s slot f i late) [] uncut is h = tt
same-second n (Tear s slot f i late) (c ∷ bs) uncut is h = let here : second_of c ≡ n = h.0 in (omega (arith, is, here), same-second n (Tear s slot f i late) bs uncut is h.1)

tears-in_time : (n : ℕ) (bs : List Break) → AllByRecursion (λ (b : Break). is_cut b ≡ false) bs → AllByRecursion (λ (b : Break). second_of b ≡ n) bs → AreInTime bs
tears-in_time n [] uncut h = tt
tears-in_time n (b ∷ bs) uncut h = (same-second n b bs uncut.0 h.0 h.1, tears-in_time n bs uncut.1 h.1)

cut-in_time : (n : ℕ) (bs : List Break) (b : Break) → AllByRecursion (λ (b : Break). is_cut b ≡ false) bs → AllByRecursion (λ (b : Break). second_of b ≡ n) bs → second_of b ≡ n → AreInTime (bs ++ b ∷ [])
cut-in_time n [] b uncut h is = (tt, tt)
cut-in_time n (x ∷ bs) b uncut h is = (same-second n x (bs ++ b ∷ []) uncut.0 h.0 (push-each (λ (c : Break). second_of c ≡ n) bs b h.1 is), cut-in_time n bs b uncut.1 h.1 is)

-- what a second tells where it went so, by its new lines
told-causes : (p : Progress) (s : TraceSecond) (at : Phase) (log : RunLog) (mid now : Device → ℕ) (c : Course) (starts : Bool) (h : HasCourse starts p s at log [] mid now c) → AreNewCauses mid now h.breaks h.finds h.refused log s (told_with starts false s c)
told-causes p s at log mid now c starts h = record {
  refusals = h.refusals ∙ sym (append-nil (refusals_at s.number c.refused));
  cut_seconds = ap (map second_of) (no-cuts h.breaks h.uncut);
  no_off = no-cuts_by false h.breaks h.uncut;
  failed_cuts = subst (λ (bs : List Break). RoseBy (length bs) (mid Recorder) (now Recorder)) (sym (no-cuts_by true h.breaks h.uncut)) (inl (let le = h.unit in omega (arith, le)));
  tear_lines = h.tear_lines ∙ sym (append-nil (visit_places s.number c.pulled));
  failed_tears = λ slot. h.failed_tears slot ∙ ap (in_the_slot slot) (sym (append-nil (visit_places s.number c.torn)));
  torn_cards = λ card. subst (λ (cs : List Card). RoseBy (length (filter (same_card card) cs)) (mid (device_of card)) (now (device_of card))) (sym (append-nil (map (λ (v : Visit). v.card) c.torn))) (h.torn_cards card);
  calm_cards = λ card. subst (λ (cs : List Card). StandsBy (length (filter (same_card card) cs)) (mid (device_of card)) (now (device_of card))) (sym (append-nil (map (λ (v : Visit). v.card) c.torn))) (h.calm_cards card);
  begun = h.begun;
  moments = h.moments;
  order = tears-in_time p.next h.breaks h.uncut h.breaks_here;
  told_finds = h.told_finds ∙ sym (append-nil (map (found_at s.number) c.found));
  judged = λ e among. ⊎_elim
      (λ w. absurd (let none = w.among in omega (arith, none.1)))
      (λ j. record { once = j.once; missing = λ gone. inl (j.missing gone) })
      (h.judged e among);
}

power-of : (rule : Rule) (start : Start) (from first : ℕ) (done : List TraceSecond) (p : Progress) → BookFollowsRun rule start from first done p → (span : List ToldSecond) → p.supply ≡ Lit span → (s : TraceSecond) → s.number ≡ p.next → s.has_power ≡ true →
    has_power (went p.log done).before s ≡ true
power-of rule start from first done p f span is s number given = lit-power span (went p.log done).before s p.next (with-supply rule start from first done p (Lit span) is f).power number given

starts-of : (rule : Rule) (start : Start) (from first : ℕ) (done : List TraceSecond) (p : Progress) → BookFollowsRun rule start from first done p → (span : List ToldSecond) → p.supply ≡ Lit span → not (went p.log done).before.running ≡ begins_with span
starts-of rule start from first done p f span is = lit-starts span (went p.log done).before p.next (with-supply rule start from first done p (Lit span) is f).power

-- the parts of a course, where power comes with the second just so
abbrev starting : {p : Progress} {s : TraceSecond} {at : Phase} {log : RunLog} {waits : List Visit} {mid now : Device → ℕ} {c : Course} {a b : Bool} → a ≡ b → HasCourse a p s at log waits mid now c → HasCourse b p s at log waits mid now c
starting same h = record {
  number = h.number;
  given = h.given;
  breaks = h.breaks;
  breaks_are = h.breaks_are;
  breaks_here = h.breaks_here;
  finds = h.finds;
  finds_are = h.finds_are;
  finds_here = h.finds_here;
  refused = h.refused;
  refused_are = h.refused_are;
  refusals = h.refusals;
  uncut = h.uncut;
  unit = h.unit;
  tear_lines = h.tear_lines;
  failed_tears = h.failed_tears;
  torn_cards = h.torn_cards;
  calm_cards = h.calm_cards;
  begun = h.begun;
  moments = subst (λ (t : Bool). AllByRecursion (IsAtPowerOn t) h.breaks) same h.moments;
  told_finds = h.told_finds;
  judged = h.judged;
  counted = h.counted;
  found_now = h.found_now;
}

pub second-ends_told : TheSecondEnds
second-ends_told rule start from first done p f span is s log mid now m =
    let before : Before = (went p.log done).before in
    let power = power-of rule start from first done p f span is s m.number m.given in
    let same : went log done ≡ went p.log done = went-same_ rule start from first done p f.order f.next f.unfound s log (goes_on m) in
    let told : next_told log done s ≡ told_with (begins_with span) false s (course_at log before s Keeping) =
    ap (λ (w : Went). second_told log w.before s) same ∙ lit-as log before s power m.given
    ∙ ap (λ (b : Bool). told_with b (is_some (cut_in log s.number)) s (second_told log before s).course) (starts-of rule start from first done p f span is)
    ∙ ap (λ (o : Option ℕ). told_with (begins_with span) (is_some o) s (second_told log before s).course) m.up_to.uncut
    ∙ ap (told_with (begins_with span) false s) (second-ends log before s power m.up_to.uncut) in
    (told, subst (AreNewCauses mid now m.breaks m.finds m.refused log s) (sym told) (told-causes p s Keeping log mid now (course_at log before s Keeping) (begins_with span) (starting (starts-of rule start from first done p f span is) (parts-of p before s Keeping log [] mid now m))))

-- A CUT
slot-same : (log later : RunLog) (u : ℕ) (q : Phase) → ((slot : Slot) → is_torn_in later u q slot ≡ is_torn_in log u q slot) → ((slot : Slot) → found_in later u q slot ≡ found_in log u q slot) → (e : Moved) (slot : Slot) (c : Course) →
    slot_told later u q e slot c ≡ slot_told log u q e slot c
slot-same log later u q torn found e slot c = rw (torn slot) (rw (found slot) refl)

both-same : (log later : RunLog) (u : ℕ) (q : Phase) → ((slot : Slot) → is_torn_in later u q slot ≡ is_torn_in log u q slot) → ((slot : Slot) → found_in later u q slot ≡ found_in log u q slot) → (e : Moved) (c : Course) →
    both_told later u q e c ≡ both_told log u q e c
both-same log later u q torn found e c = slot-same log later u q torn found e CoDriver (slot_told later u q e Driver c) ∙ ap (slot_told log u q e CoDriver) (slot-same log later u q torn found e Driver c)

or-false : (b : Bool) → (b || false) ≡ b
or-false true = refl
or-false false = refl

-- where no cut is told no failed one is
head-none : (o rest : Option ℕ) → cond (is_some o) o rest ≡ None → (o ≡ None) × (rest ≡ None)
head-none None rest is = (refl, is)
head-none (Some n) rest is = absurd (cc)

uncut-failed : (bs : List Break) (u : ℕ) → cut_in (log_of bs) u ≡ None → cut_in (log_of (cuts true (log_of bs))) u ≡ None
uncut-failed [] u none = none
uncut-failed (Cut s k true n ∷ bs) u none =
    let b : Break = Cut s k true n in
    let both = head-none (cut_of u b) (cut_in (log_of bs) u) (sym (cut-first b bs u) ∙ none) in
    cut-first b (cuts true (log_of bs)) u ∙ ap (λ (o : Option ℕ). cond (is_some o) o (cut_in (log_of (cuts true (log_of bs))) u)) both.0 ∙ uncut-failed bs u both.1
uncut-failed (Cut s k false n ∷ bs) u none =
    let b : Break = Cut s k false n in
    uncut-failed bs u (head-none (cut_of u b) (cut_in (log_of bs) u) (sym (cut-first b bs u) ∙ none)).1
uncut-failed (Tear s slot f n late ∷ bs) u none = uncut-failed bs u (sym (cut-first (Tear s slot f n late) bs u) ∙ none)

-- a cut tells of no tear and no find
module _ (log : RunLog) (s : TraceSecond) (k : ℕ) where
  abbrev pub cut_log : RunLog
  cut_log = and_break log (cut_at s.number true k)

  cut-torn : (q : Phase) (slot : Slot) → is_torn_in cut_log s.number q slot ≡ is_torn_in log s.number q slot
  cut-torn q slot = (break-more log (cut_at s.number true k) s.number).torn q slot ∙ or-false (is_torn_in log s.number q slot)

  cut-found : (q : Phase) (slot : Slot) → found_in cut_log s.number q slot ≡ found_in log s.number q slot
  cut-found q slot = (break-more log (cut_at s.number true k) s.number).found q slot

  pub cut-now : cut_in log s.number ≡ None → cut_in cut_log s.number ≡ Some k
  cut-now none =
      (break-more log (cut_at s.number true k) s.number).cut ∙ ap (λ (o : Option ℕ). cond (is_some o) o (cond (nat_eq s.number s.number) (Some k) None)) none
      ∙ ap (λ (t : Bool). cond t (Some k) None) (same-number s.number)

  -- and it is a failed call's
  pub failed-now : cut_in log s.number ≡ None → failed_cut_in cut_log s.number ≡ Some k
  failed-now none =
      cut-by (record cut_log { breaks = cuts true cut_log }) s.number
      ∙ ap (λ (bs : List Break). cut_in (log_of bs) s.number) (filter-append (λ (b : Break). is_cut b && has_failed b) log.breaks (cut_at s.number true k ∷ []))
      ∙ (break-more (log_of (cuts true log)) (cut_at s.number true k) s.number).cut
      ∙ ap (λ (o : Option ℕ). cond (is_some o) o (cond (nat_eq s.number s.number) (Some k) None)) (uncut-failed log.breaks s.number (sym (cut-by log s.number) ∙ none))
      ∙ ap (λ (t : Bool). cond t (Some k) None) (same-number s.number)

  cut-upto : cut_in log s.number ≡ None → (n : ℕ) → n ≤ k → SameUpTo log cut_log s.number n
  cut-upto none n le = record {
    none = none;
    behind = inr (k, cut-now none, le);
    torn = λ m slot low. cut-torn (In m) slot;
    found = λ m slot low. cut-found (In m) slot;
  }

-- the course of a cut's second
pub cut-course : (log : RunLog) (before : Before) (s : TraceSecond) (at : Phase) (rest : List Action) → has_power before s ≡ true → IsUpTo log s.number at → IsLeft s at rest →
    (second_told (and_break log (cut_at s.number true (begun_by s at))) before s).course ≡ cut_told true (not_begun rest (course_at log before s at))
cut-course log before s (In n) rest power up left =
    let front : List Action = left.0 in
    let later : RunLog = and_break log (cut_at s.number true n) in
    let few : n ≤ length s.actions = let total = length-append front rest in let is = ap (λ (as_ : List Action). length as_) left.1 in let count = left.2 in omega (arith, total, is, count) in
    let k : length front ≡ n = left.2 in
    cut-ends log later before s front rest left.1 power (cut-upto log s n up.uncut (length front) (omega (arith, k))) (cut-now log s n up.uncut ∙ ap (λ (m : ℕ). Some m) (sym k))
    ∙ ap (λ (c : Course). cut_told true c)
    (both-still later s.number Keeping (unmoved false) (not_begun rest (course_by log before s (length front)))
    (λ slot. cut-torn log s n Keeping slot ∙ up.torn Keeping slot tt) (λ slot. cut-found log s n Keeping slot ∙ up.found Keeping slot tt)
    ∙ ap (λ (m : ℕ). not_begun rest (course_by log before s m)) k ∙ ap (not_begun rest) (at-by log before s up.uncut n few))
cut-course log before s Keeping rest power up none =
    let n : ℕ = length s.actions in
    let later : RunLog = and_break log (cut_at s.number true n) in
    let c : Course = course_by log before s n in
    cut-ends log later before s s.actions [] (sym (append-nil s.actions)) power (cut-upto log s n up.uncut n (omega arith)) (cut-now log s n up.uncut)
    ∙ ap (λ (d : Course). cut_told true (both_told later s.number Keeping (unmoved false) d)) (nothing-left c)
    ∙ ap (cut_told true) (both-same log later s.number Keeping (cut-torn log s n Keeping) (cut-found log s n Keeping) (unmoved false) c)
    ∙ ap (cut_told true) (sym (nothing-left (course_at log before s Keeping)))
    ∙ ap (λ (as_ : List Action). cut_told true (not_begun as_ (course_at log before s Keeping))) (sym none)
  where
    nothing-left : (c : Course) → not_begun [] c ≡ c
    nothing-left c = ap (λ (b : Bool). record c { settled = b }) (or-false c.settled)

begun-few : (s : TraceSecond) (at : Phase) (rest : List Action) → IsLeft s at rest → begun_by s at ≤ length s.actions
begun-few s (In n) rest left = let total = length-append left.0 rest in let is = ap (λ (as_ : List Action). length as_) left.1 in let count = left.2 in omega (arith, total, is, count)
begun-few s Keeping rest none = omega arith

cut-by_then : (s : TraceSecond) (at : Phase) → CutBy (Some (begun_by s at)) at
cut-by_then s (In n) = omega arith
cut-by_then s Keeping = tt

pub cut-causes : (p : Progress) (s : TraceSecond) (at : Phase) (log : RunLog) (waits : List Visit) (mid now later : Device → ℕ) (c : Course) (starts : Bool) (rest : List Action) → IsUpTo log s.number at → IsLeft s at rest →
    AllByRecursion (λ (e : Visit). e.phase ≡ at) waits → IsMore now later → RoseBy 1 (mid Recorder) (later Recorder) → (h : HasCourse starts p s at log waits mid now c) →
    AreNewCauses mid later (h.breaks ++ cut_at s.number true (begun_by s at) ∷ []) h.finds h.refused (and_break log (cut_at s.number true (begun_by s at))) s (told_with starts true s (cut_told true (not_begun rest c)))
cut-causes p s at log waits mid now later c starts rest up left here more broke h =
    let cut : Break = cut_at s.number true (begun_by s at) in
    record {
      refusals = h.refusals ∙ sym (append-nil (refusals_at s.number c.refused));
      cut_seconds = ap (map second_of) (filter-append is_cut h.breaks (cut ∷ []) ∙ ap (λ (bs : List Break). bs ++ cut ∷ []) (no-cuts h.breaks h.uncut));
      no_off = filter-append (λ (b : Break). is_cut b && not (has_failed b)) h.breaks (cut ∷ []) ∙ append-nil (cuts false (log_of h.breaks)) ∙ no-cuts_by false h.breaks h.uncut;
      failed_cuts = subst (λ (bs : List Break). RoseBy (length bs) (mid Recorder) (later Recorder))
          (sym (filter-append (λ (b : Break). is_cut b && has_failed b) h.breaks (cut ∷ []) ∙ ap (λ (bs : List Break). bs ++ cut ∷ []) (no-cuts_by true h.breaks h.uncut))) broke;
      tear_lines = places-more false h.breaks cut ∙ append-nil (flat_map places (tears false (log_of h.breaks))) ∙ h.tear_lines ∙ sym (append-nil (visit_places s.number c.pulled));
      failed_tears = λ slot. ap (in_the_slot slot) (places-more true h.breaks cut ∙ append-nil (flat_map places (tears true (log_of h.breaks)))) ∙ h.failed_tears slot
          ∙ ap (in_the_slot slot) (sym (append-nil (visit_places s.number c.torn)));
      torn_cards = λ card. subst (λ (cs : List Card). RoseBy (length (filter (same_card card) cs)) (mid (device_of card)) (later (device_of card))) (sym (append-nil (map (λ (v : Visit). v.card) c.torn)))
          (rose-more (times_of card c.torn) (mid (device_of card)) (now (device_of card)) (later (device_of card)) (h.torn_cards card) (rests (now (device_of card)) (later (device_of card)) (more.cards card)));
      calm_cards = λ card. subst (λ (cs : List Card). StandsBy (length (filter (same_card card) cs)) (mid (device_of card)) (later (device_of card))) (sym (append-nil (map (λ (v : Visit). v.card) c.torn)))
          (stands-more (times_of card c.torn) (mid (device_of card)) (now (device_of card)) (later (device_of card)) (h.calm_cards card) (more.cards card));
      begun = push-each (IsBegun (s ∷ [])) h.breaks cut h.begun (λ y among same. (only-one s y (λ (z : TraceSecond). begun_by s at ≤ length z.actions) among (begun-few s at rest left), λ failed. absurd (cc)));
      moments = push-each (IsAtPowerOn starts) h.breaks cut h.moments tt;
      order = cut-in_time p.next h.breaks cut h.uncut h.breaks_here h.number;
      told_finds = h.told_finds ∙ sym (append-nil (map (found_at s.number) c.found));
      judged = λ e among. ⊎_elim
          (λ w. record {
            once = subst (λ (vs : List Verdict). length vs ≤ 1) (sym w.none) (omega arith);
            missing = λ gone. inr (subst (λ (o : Option ℕ). CutBy o e.phase) (sym (failed-now log s (begun_by s at) up.uncut))
                (subst (CutBy (Some (begun_by s at))) (sym (each-of (λ (e : Visit). e.phase ≡ at) waits e here w.among)) (cut-by_then s at)));
          })
          (λ j. record { once = j.once; missing = λ gone. inl (torn-still log cut s.number e.phase e.slot (j.missing gone)) })
          (h.judged e among);
    }

pub cut-ends_told : ACutEnds
cut-ends_told rule start from first done p f span is s at log waits mid now later m more broke rest left =
    let before : Before = (went p.log done).before in
    let cut : Break = cut_at s.number true (begun_by s at) in
    let later_log : RunLog = and_break log cut in
    let power = power-of rule start from first done p f span is s m.number m.given in
    let goes : GoesOnBy p later_log s = record {
      number = m.number;
      given = m.given;
      breaks = (m.breaks ++ cut ∷ [], ap (λ (bs : List Break). bs ++ cut ∷ []) m.breaks_are ∙ append_assoc p.log.breaks m.breaks (cut ∷ []), push-each (λ (b : Break). second_of b ≡ p.next) m.breaks cut m.breaks_here m.number);
      finds = (m.finds, m.finds_are, m.finds_here);
    } in
    let same : went later_log done ≡ went p.log done = went-same_ rule start from first done p f.order f.next f.unfound s later_log goes in
    let told : next_told later_log done s ≡ told_with (begins_with span) true s (cut_told true (not_begun rest (course_at log before s at))) =
    ap (λ (w : Went). second_told later_log w.before s) same ∙ lit-as later_log before s power m.given
    ∙ ap (λ (b : Bool). told_with b (is_some (cut_in later_log s.number)) s (second_told later_log before s).course) (starts-of rule start from first done p f span is)
    ∙ ap (λ (o : Option ℕ). told_with (begins_with span) (is_some o) s (second_told later_log before s).course) (cut-now log s (begun_by s at) m.up_to.uncut)
    ∙ ap (told_with (begins_with span) true s) (cut-course log before s at rest power m.up_to left) in (
      told,
      subst (AreNewCauses mid later (m.breaks ++ cut ∷ []) m.finds m.refused later_log s) (sym told)
          (cut-causes p s at log waits mid now later (course_at log before s at) (begins_with span) rest m.up_to left m.waits_here more broke (starting (starts-of rule start from first done p f span is) (parts-of p before s at log waits mid now m))),
    )
