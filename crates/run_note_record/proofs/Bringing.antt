-- What the tear of a card brings, in an action or in the keeping.
use Rattle.std.proofs.Common.{◌≡◌, ◌⊎◌, inl, inr, ⊎_elim, ℕ, zero, suc, ◌+◌, ◌≤◌, Bool, true, false, cond, not, ◌&&◌, ◌||◌, Option, Some, None, List, [], ◌∷◌, ◌++◌, map, length, nat_eq, refl, ap, sym, subst, ◌∙◌, arith, append-nil}
use Rattle.std.specs.Prelude.{◌==◌, flat_map, option_map, option_to_list, slice_get}
use Rattle.std.specs.List.{AllByRecursion, list_any}
use Rattle.std.proofs.lemmas.Bool.{eqb-true, ne_eqb, eqb-false}
use Rattle.std.proofs.lemmas.Bool.Decides.{nat_tests}
use Rattle.std.proofs.lemmas.List.{map-append}
use Rattle.std.proofs.lemmas.List.Folds.{list_any-append}
use Rattle.run_events.specs.activity_codec.declared.values.Slot.{Slot}
use Rattle.run_events.specs.activity_codec.declared.values.Slot.TheVariants.{Driver, CoDriver}
use Rattle.run_events.specs.activity_codec.Activity.{same_slot}
use Rattle.run_devices.specs.trace_model.declared.Card.{Card}
use Rattle.run_devices.specs.trace_model.declared.Action.{Action}
use Rattle.run_devices.specs.trace_model.declared.Action.TheVariants.{Select, Insert, Withdraw, Tear as Pull, Place, Manual}
use Rattle.run_devices.specs.trace_model.Trace.{TraceSecond}
use Rattle.run_devices.specs.log_model.declared.lines.Break.{Break}
use Rattle.run_devices.specs.log_model.declared.lines.SlotFault.{SlotFault}
use Rattle.run_devices.specs.log_model.declared.lines.Verdict.{Verdict}
use Rattle.run_devices.specs.log_model.Log.{RunLog, Phase, In, Keeping, same_phase, kept_by, kept_after, tears_here, is_torn_in, found_in}
use Rattle.run_devices.specs.log_model.Slots.{Slots, Sitting, in_slot, other_slot, refusal}
use Rattle.run_devices.specs.log_model.Course.{ToldSecond, Visit, Course, Before, Moved, card_in, visits, has_power, answered, moved_by, both_told, went}
use Rattle.run_devices.specs.event_model.declared.kinds.TheConstants.{DRIVING_WITHOUT_CARD, OVER_SPEEDING, POWER_INTERRUPTION, CARD_FAULT}
use Rattle.run_devices.specs.event_model.declared.entries.Span.{Span}
use Rattle.run_devices.specs.event_model.Spans.{gap_of}
use Rattle.run_devices.specs.event_model.Events.{Event, Seen, Tearing, number_of, last_number, noted_with, with_card, accepted_card, crew_of, course_by, moved_by_action, within_by, seen_by, seen_of, seen_spans, torn_at, accepted_at, standing, gap_event, beside_judged, crew_judged, found_events, is_first, beside_torn, fault_of, torn_in_turn}
use Rattle.run_devices.specs.run_unit_course.Followed.{Lit}
use Rattle.run_devices.specs.run_course.Moments.{and_break}
use Rattle.run_devices.specs.run_course.Followed.{Progress, BookFollowsRun}
use Rattle.run_devices.specs.run_course.Seconds.{GoesOnBy}
use Rattle.run_devices.proofs.run_course.Lookups.{break-more}
use Rattle.run_devices.proofs.run_course.Steps.{with-supply, went-same_}
use Rattle.run_devices.proofs.run_course.Told.{lit-power, lit-told}
use Rattle.run_devices.specs.run_course.Reached.{IsBehind, IsMoment, IsUpTo, Reaches, course_with, moved_with, begun_at, moved_at, course_at, IsTearAt}
use Rattle.run_devices.specs.run_course.Moment.{goes_on}
use Rattle.run_devices.specs.run_course.Telling.{IsOneOut}
use Rattle.run_devices.proofs.run_course.Reached.{at-by, lines-reached}
use Rattle.run_events.specs.Shown.{by_kind}
use Rattle.run_events.specs.Seconds.{span_before, bares_by, overs_by, gap_before, gap_by, faults_by, found_by, second_events, seen_next}
use Rattle.run_events.proofs.Later.{told-number, seen-same}
use Rattle.run_devices.specs.run_promise.Origin.{Origin, rule_of, start_at, first_of}
use Rattle.run_note_record.specs.Evented.{limit_in, brought_now}
use Rattle.run_note_record.specs.Noting.{Acting, is_told}
use Rattle.run_note_record.specs.EventsSoFar.{fault_with as fault_left}
use Rattle.run_note_record.specs.Bringing.{ChoiceBefore, TornSecond, NotFound, Brings, ATearIsBrought}
use Rattle.run_note_record.proofs.Lines.{same-before}
use Rattle.run_note_record.proofs.Fronts.{DifferAt, torn-same, accepted-same, stands-same, events-as}
use Rattle.run_note_record.proofs.Parts.{outs, found_now, finds}
use Rattle.run_note_record.proofs.Brought.{SameBefore, begun-same, moved-same, course-until, within-same, differ, faults-then, found-then}
use Rattle.run_note_record.proofs.Tearing.{and-none, phase-self, slot-self, other-twice, told-here, told-beside, told-elsewhere, told_slot, both-slot, cards-kept, IsBeside, FirstBeside, turn-second, turn-few, only-other, few-first, few-alone, map-few, not-torn, few-torn}

or-false : (b : Bool) → (b || false) ≡ b
or-false true = refl
or-false false = refl

-- BY TYPE
pub kinds-then : (a b c d : Bool) (p q r v w p' q' r' v' w' more : List Event) → (not a && not b) ≡ true → (c ≡ true → r' ≡ r ++ more) → (c ≡ false → d ≡ true → v' ≡ v ++ more) → (c ≡ false → d ≡ false → w' ≡ w ++ more) →
    cond a p' (cond b q' (cond c r' (cond d v' w'))) ≡ cond a p (cond b q (cond c r (cond d v w))) ++ more
kinds-then true b c d p q r v w p' q' r' v' w' more is er ev ew = absurd (cc)
kinds-then false true c d p q r v w p' q' r' v' w' more is er ev ew = absurd (cc)
kinds-then false false true d p q r v w p' q' r' v' w' more is er ev ew = er refl
kinds-then false false false true p q r v w p' q' r' v' w' more is er ev ew = ev refl refl
kinds-then false false false false p q r v w p' q' r' v' w' more is er ev ew = ew refl refl

pub one-of : (e : Event) (kind : ℕ) → e.kind ≡ CARD_FAULT → (kind == CARD_FAULT) ≡ true → by_kind (e ∷ []) kind ≡ e ∷ []
one-of e kind is here = ap (λ (b : Bool). cond b (e ∷ []) []) (ap (λ (k : ℕ). nat_eq k kind) (is ∙ sym (eqb-true kind CARD_FAULT here)) ∙ self kind)
  where
    self : (n : ℕ) → nat_eq n n ≡ true
    self n = phase-self (In n)

pub none-of : (e : Event) (kind : ℕ) → e.kind ≡ CARD_FAULT → (kind == CARD_FAULT) ≡ false → by_kind (e ∷ []) kind ≡ []
none-of e kind is apart = ap (λ (b : Bool). cond b (e ∷ []) []) (ne_eqb e.kind kind (λ same. eqb-false kind CARD_FAULT apart (sym same ∙ is)))

-- who leaves a slot at a moment is one at most
abbrev pub IsFew : Phase → Slot → List Visit → Type 0
IsFew at slot vs = (vs ≡ []) ⊎ IsBeside at slot vs

pub few-visits : (at : Phase) (slot : Slot) (o : Option Sitting) → IsFew at slot (map (λ (card : Card). record { phase = at; slot = slot; card = card }) (card_in o))
few-visits at slot None = inl refl
few-visits at slot (Some x) = inr (record { w = record { phase = at; slot = slot; card = x.card }; are = refl; slot_is = refl; phase_is = refl })

few-by : (n : ℕ) (o : Option SlotFault) (a : Action) (c : Course) (slot : Slot) → IsFew (In (n + 1)) slot ((moved_by n o a c.slots).leaving slot ++ visits (In (n + 1)) slot (answered n o a c).slots)
few-by n (Some r) a c slot = few-visits (In (n + 1)) slot (in_slot c.slots slot)
few-by n None (Select at pick) c slot = few-visits (In (n + 1)) slot (in_slot c.slots slot)
few-by n None (Insert at card) c slot = few-visits (In (n + 1)) slot (in_slot (answered n None (Insert at card) c).slots slot)
few-by n None (Withdraw Driver) c Driver =
    subst (IsFew (In (n + 1)) Driver) (sym (append-nil (visits (In (n + 1)) Driver c.slots))) (few-visits (In (n + 1)) Driver c.slots.driver)
few-by n None (Withdraw Driver) c CoDriver = few-visits (In (n + 1)) CoDriver c.slots.codriver
few-by n None (Withdraw CoDriver) c Driver = few-visits (In (n + 1)) Driver c.slots.driver
few-by n None (Withdraw CoDriver) c CoDriver =
    subst (IsFew (In (n + 1)) CoDriver) (sym (append-nil (visits (In (n + 1)) CoDriver c.slots))) (few-visits (In (n + 1)) CoDriver c.slots.codriver)
few-by n None (Pull at) c slot = few-visits (In (n + 1)) slot (in_slot (answered n None (Pull at) c).slots slot)
few-by n None (Place at ending country region) c slot = few-visits (In (n + 1)) slot (in_slot c.slots slot)
few-by n None (Manual at pick minute) c slot = few-visits (In (n + 1)) slot (in_slot c.slots slot)

few-with : (n : ℕ) (o : Option Action) (speed : ℕ) (c : Course) (slot : Slot) → IsFew (In (n + 1)) slot ((moved_with n o speed c).leaving slot ++ visits (In (n + 1)) slot (course_with n o speed c).slots)
few-with n None speed c slot = few-visits (In (n + 1)) slot (in_slot c.slots slot)
few-with n (Some a) speed c slot = few-by n (refusal c.slots speed a) a c slot

pub few-at : (log : RunLog) (before : Before) (s : TraceSecond) (at : Phase) (slot : Slot) → IsFew at slot ((moved_at log before s at).leaving slot ++ visits at slot (begun_at log before s at).slots)
few-at log before s (In zero) slot = few-visits (In 0) slot (in_slot (begun_at log before s (In zero)).slots slot)
few-at log before s (In (suc n)) slot =
    let e : n + 1 ≡ suc n = omega arith in
    subst (λ (k : ℕ). IsFew (In k) slot ((moved_at log before s (In (suc n))).leaving slot ++ visits (In k) slot (begun_at log before s (In (suc n))).slots)) e
    (few-with n (slice_get s.actions n) s.speed (course_by log before s n) slot)
few-at log before s Keeping slot = few-visits Keeping slot (in_slot (begun_at log before s Keeping).slots slot)

-- a cut's minute stays as it is known
pub gap-as : (t t' : Tearing) (log later : RunLog) (x y : Seen) → ((u : ℕ) → kept_after later u ≡ kept_after log u) → number_of y ≡ number_of x → ((slot : Slot) → standing t' y slot ≡ standing t x slot) → (span : List Seen) →
    gap_event t' later span (y ∷ []) ≡ gap_event t log span (x ∷ [])
gap-as t t' log later x y kept number stands span = λ i.
    option_to_list
    (option_map {T = Span} {U = Event} (λ gap. noted_with POWER_INTERRUPTION gap.begin gap.end (record { driver = stands Driver i; codriver = stands CoDriver i }))
    (gap_of (kept (last_number span) i) (number i)))

pub before-as : (t t' : Tearing) (log later : RunLog) (x y : Seen) → ((u : ℕ) → kept_after later u ≡ kept_after log u) → number_of y ≡ number_of x → ((slot : Slot) → standing t' y slot ≡ standing t x slot) → (spans : List (List Seen)) →
    gap_before t' later spans y ≡ gap_before t log spans x
before-as t t' log later x y kept number stands [] = refl
before-as t t' log later x y kept number stands (span ∷ []) = gap-as t t' log later x y kept number stands span
before-as t t' log later x y kept number stands (span ∷ next ∷ spans) = before-as t t' log later x y kept number stands (next ∷ spans)

-- who was beside a card that was torn out before stays so
beside-stays : (t t' : Tearing) (log later : RunLog) (x y : Seen) (u : ℕ) → number_of y ≡ u → (p : Phase) (sl : Slot) → same_phase p (In 0) ≡ false → TornSecond p sl log u t' → is_torn_in log u p (other_slot sl) ≡ true → torn_at x p sl ≡ false →
    ((n : ℕ) → p ≡ In (suc n) → y.within (suc n) ≡ x.within (suc n)) → (p ≡ Keeping → y.itself ≡ x.itself) → beside_torn t' later y p (other_slot sl) ≡ beside_torn t log x p (other_slot sl)
beside-stays t t' log later x y u number (In zero) sl apart second torn un within itself = absurd (let wrong : true ≡ false = apart in cc)
beside-stays t t' log later x y u number (In (suc n)) sl apart second torn un within itself =
    let first : is_first t' (number_of y) (suc n) (other_slot sl) ≡ true = ap (λ (k : ℕ). is_first t' k (suc n) (other_slot sl)) number ∙ second torn in
    let none : torn_at x (In (suc n)) (other_slot (other_slot sl)) ≡ false = ap (λ (q : Slot). torn_at x (In (suc n)) q) (other-twice sl) ∙ un in
    let own : Option Card = accepted_card (in_slot (x.within (suc n)) (other_slot (other_slot sl))) in
    (λ i. cond (torn_at y (In (suc n)) (other_slot (other_slot sl)) && not (first i)) None (accepted_card (in_slot (within n refl i) (other_slot (other_slot sl)))))
    ∙ ap (λ (c : Bool). cond c None own) (and-none (torn_at y (In (suc n)) (other_slot (other_slot sl))))
    ∙ sym (ap (λ (c : Bool). cond (c && not (is_first t (number_of x) (suc n) (other_slot sl))) None own) none)
beside-stays t t' log later x y u number Keeping Driver apart second torn un within itself = absurd (let wrong : true ≡ false = sym torn ∙ second in cc)
beside-stays t t' log later x y u number Keeping CoDriver apart second torn un within itself = ap (λ (slots : Slots). accepted_card slots.codriver) (itself refl)

judged-stays : (t t' : Tearing) (x y : Seen) (p : Phase) (sl : Slot) → same_phase p (In 0) ≡ false → ((n : ℕ) → p ≡ In (suc n) → in_slot (y.after (suc n)) (other_slot sl) ≡ in_slot (x.after (suc n)) (other_slot sl)) →
    beside_judged t' y p sl ≡ beside_judged t x p sl
judged-stays t t' x y (In zero) sl apart after = absurd (let wrong : true ≡ false = apart in cc)
judged-stays t t' x y (In (suc n)) sl apart after = ap accepted_card (after n refl)
judged-stays t t' x y Keeping sl apart after = refl

-- finds of a slot, and none
abbrev pub IsOf : Phase → Slot → Visit × Verdict → Type 0
IsOf p slot f = (f.0.phase ≡ p) × (f.0.slot ≡ slot)

pairs-of : (p : Phase) (slot : Slot) (visit : Visit) → visit.phase ≡ p → visit.slot ≡ slot → (vs : List Verdict) → AllByRecursion (IsOf p slot) (map (λ (verdict : Verdict). (visit, verdict)) vs)
pairs-of p slot visit is_p is_s [] = tt
pairs-of p slot visit is_p is_s (verdict ∷ vs) = ((is_p, is_s), pairs-of p slot visit is_p is_s vs)

all-both : {X : Type 0} (P : X → Type 0) (xs ys : List X) → AllByRecursion P xs → AllByRecursion P ys → AllByRecursion P (xs ++ ys)
all-both P [] ys hx hy = hy
all-both P (x ∷ xs) ys hx hy = (hx.0, all-both P xs ys hx.1 hy)

pub finds-of : (p : Phase) (slot : Slot) (vs : List Verdict) (o : Option Sitting) →
    AllByRecursion (IsOf p slot) (flat_map (λ (visit : Visit). map (λ (verdict : Verdict). (visit, verdict)) vs) (map (λ (card : Card). record { phase = p; slot = slot; card = card }) (card_in o)))
finds-of p slot vs None = tt
finds-of p slot vs (Some x) =
    all-both (IsOf p slot) (map (λ (verdict : Verdict). (record { phase = p; slot = slot; card = x.card }, verdict)) vs) [] (pairs-of p slot (record { phase = p; slot = slot; card = x.card }) refl refl vs) tt

abbrev pub paired : Visit → List Verdict → List (Visit × Verdict)
paired visit vs = map (λ (verdict : Verdict). (visit, verdict)) vs

abbrev pair : Visit → Verdict → Visit × Verdict
pair visit verdict = (visit, verdict)

pub no-pairs : (vs : List Visit) → flat_map (λ (visit : Visit). map (pair visit) []) vs ≡ []
no-pairs [] = refl
no-pairs (visit ∷ vs) = no-pairs vs

pub flat-stays : (f g : Visit × Verdict → List Event) (P : Visit × Verdict → Type 0) (es : List (Visit × Verdict)) → AllByRecursion P es → ((e : Visit × Verdict) → P e → f e ≡ g e) → flat_map f es ≡ flat_map g es
flat-stays f g P [] all same = refl
flat-stays f g P (e ∷ es) all same = λ i. same e all.0 i ++ flat-stays f g P es all.1 same i

only-finds : (slot : Slot) (out : Slot → List (Visit × Verdict)) (P : Visit × Verdict → Type 0) → AllByRecursion P (out slot) → out (other_slot slot) ≡ [] → AllByRecursion P (out Driver ++ out CoDriver)
only-finds Driver out P all none = all-both P (out Driver) (out CoDriver) all (subst (AllByRecursion P) (sym none) tt)
only-finds CoDriver out P all none = all-both P (out Driver) (out CoDriver) (subst (AllByRecursion P) (sym none) tt) all

pub apart-of : (at : Phase) (slot : Slot) (log : RunLog) (u : ℕ) (t : Tearing) → TornSecond at slot log u t → same_phase at (In 0) ≡ false
apart-of (In zero) slot log u t h = absurd h
apart-of (In (suc n)) slot log u t h = grind (arith, nat_tests)
apart-of Keeping slot log u t h = refl

pub not-fault : (kind : ℕ) → (kind == POWER_INTERRUPTION) ≡ true → (kind == CARD_FAULT) ≡ false
not-fault kind is = ap (λ (k : ℕ). k == CARD_FAULT) (eqb-true kind POWER_INTERRUPTION is)

cond-none : (b : Bool) → cond {A = List Verdict} b [] [] ≡ []
cond-none true = refl
cond-none false = refl

pub found-none : (log : RunLog) (u : ℕ) (p : Phase) (moved : Moved) (sl : Slot) → NotFound p sl log u → (p ≡ Keeping → moved.enters sl ≡ false) → found_now log u p moved sl ≡ []
found-none log u (In n) moved sl h enters = ap (λ (vs : List Verdict). cond (moved.enters sl) vs []) h ∙ cond-none (moved.enters sl)
found-none log u Keeping moved sl h enters = ap (λ (b : Bool). cond b (found_in log u Keeping sl) []) (enters refl)

-- ---- who is beside a card that is torn out, by the slots as the moment began
accepted-cond : (t : Bool) (o : Option Sitting) → accepted_card (cond t None o) ≡ cond t None (accepted_card o)
accepted-cond true o = refl
accepted-cond false o = refl

pub crew-beside : (slot : Slot) (own : Option Card) (slots : Slots) →
    with_card slot own (with_card (other_slot slot) (accepted_card (in_slot slots (other_slot slot))) (record { driver = None; codriver = None })) ≡ with_card slot own (crew_of slots)
crew-beside Driver own slots = refl
crew-beside CoDriver own slots = refl

pub crew-left : (slot : Slot) (slots : Slots) → with_card (other_slot slot) (accepted_card (in_slot slots (other_slot slot))) (record { driver = None; codriver = None }) ≡ with_card slot None (crew_of slots)
crew-left Driver slots = refl
crew-left CoDriver slots = refl

pub none-there : (at : Phase) (slot : Slot) (slots : Slots) (leaving : List Visit) → leaving ++ visits at slot slots ≡ [] → accepted_card (in_slot slots slot) ≡ None
none-there at slot slots leaving gone = by (in_slot slots slot) leaving gone
  where
    by : (o : Option Sitting) (vs : List Visit) → vs ++ map (λ (card : Card). record { phase = at; slot = slot; card = card }) (card_in o) ≡ [] → accepted_card o ≡ None
    by None vs gone = refl
    by (Some x) [] gone = absurd (cc)
    by (Some x) (v ∷ vs) gone = absurd (cc)

or-right : (a : Bool) → (a || true) ≡ true
or-right true = refl
or-right false = refl

pub torn-there : (at : Phase) (slot : Slot) (x : Seen) (front : List Visit) (out : Slot → List Visit) (w : Visit) → x.told.course.torn ≡ front ++ (out Driver ++ out CoDriver) → out slot ≡ w ∷ [] → w.phase ≡ at → w.slot ≡ slot → torn_at x at slot ≡ true
torn-there at slot x front out w are one phase_is slot_is =
    let test : Visit → Bool = λ (v : Visit). same_phase v.phase at && same_slot v.slot slot in
    let this : test w ≡ true = (λ i. same_phase (phase_is i) at && same_slot (slot_is i) slot) ∙ (λ i. phase-self at i && slot-self slot i) in
    ap (list_any test) are ∙ list_any-append test front (out Driver ++ out CoDriver) ∙ ap (λ (b : Bool). list_any test front || b) (list_any-append test (out Driver) (out CoDriver) ∙ among test slot out w one this) ∙ or-right (list_any test front)
  where
    here : (test : Visit → Bool) (vs : List Visit) (w : Visit) → vs ≡ w ∷ [] → test w ≡ true → list_any test vs ≡ true
    here test vs w one this = ap (list_any test) one ∙ ap (λ (b : Bool). b || false) this

    among : (test : Visit → Bool) (slot : Slot) (out : Slot → List Visit) (w : Visit) → out slot ≡ w ∷ [] → test w ≡ true → (list_any test (out Driver) || list_any test (out CoDriver)) ≡ true
    among test Driver out w one this = ap (λ (b : Bool). b || list_any test (out CoDriver)) (here test (out Driver) w one this)
    among test CoDriver out w one this = ap (λ (b : Bool). list_any test (out Driver) || b) (here test (out CoDriver) w one this) ∙ or-right (list_any test (out Driver))

pick-beside : (here torn first : Bool) (own : Option Card) → (torn ≡ false → here ≡ false) → (torn ≡ true → first ≡ false) → (torn ≡ true → (here ≡ true) ⊎ (own ≡ None)) → cond (here && not first) None own ≡ cond torn None own
pick-beside here false first own off second on = ap (λ (b : Bool). cond (b && not first) None own) (off refl)
pick-beside here true first own off second on =
    ap (λ (b : Bool). cond (here && not b) None own) (second refl)
    ∙ ⊎_elim (λ (is : here ≡ true). ap (λ (b : Bool). cond (b && true) None own) is) (λ (gone : own ≡ None). ap (λ (o : Option Card). cond (here && true) None o) gone ∙ same-none (here && true)) (on refl)
  where
    same-none : (b : Bool) → cond {A = Option Card} b None None ≡ None
    same-none true = refl
    same-none false = refl

second-of : (t : Tearing) (u n : ℕ) (slot : Slot) → is_first t u n (other_slot slot) ≡ true → is_first t u n slot ≡ false
second-of t u n Driver first = by (t.driver_first u n) first
  where
    by : (b : Bool) → not b ≡ true → b ≡ false
    by true is = sym is
    by false is = refl
second-of t u n CoDriver first = ap not first

pub within-begun : (log : RunLog) (before : Before) (s : TraceSecond) (n : ℕ) → within_by log before s (suc n) ≡ (begun_at log before s (In (suc n))).slots
within-begun log before s n = by (slice_get s.actions n)
  where
    by : (a : Option Action) → moved_by_action log before s n a ≡ (course_with n a s.speed (course_by log before s n)).slots
    by None = refl
    by (Some a) = refl

pub beside-plain : (t : Tearing) (log later : RunLog) (z : Seen) (u : ℕ) → number_of z ≡ u → (p : Phase) (sl : Slot) (slots : Slots) → TornSecond p sl log u t →
    (is_torn_in log u p (other_slot sl) ≡ false → torn_at z p (other_slot sl) ≡ false) →
    (is_torn_in log u p (other_slot sl) ≡ true → (torn_at z p (other_slot sl) ≡ true) ⊎ (accepted_card (in_slot slots (other_slot sl)) ≡ None)) →
    ((n : ℕ) → p ≡ In (suc n) → z.within (suc n) ≡ slots) → (p ≡ Keeping → z.itself ≡ slots) → is_torn_in later u p (other_slot sl) ≡ is_torn_in log u p (other_slot sl) →
    beside_torn t later z p sl ≡ cond (is_torn_in log u p (other_slot sl)) None (accepted_card (in_slot slots (other_slot sl)))
beside-plain t log later z u number (In zero) sl slots second off on within itself same = absurd second
beside-plain t log later z u number (In (suc n)) sl slots second off on within itself same =
    ap (λ (ss : Slots). cond (torn_at z (In (suc n)) (other_slot sl) && not (is_first t (number_of z) (suc n) sl)) None (accepted_card (in_slot ss (other_slot sl)))) (within n refl)
    ∙ pick-beside (torn_at z (In (suc n)) (other_slot sl)) (is_torn_in log u (In (suc n)) (other_slot sl)) (is_first t (number_of z) (suc n) sl) (accepted_card (in_slot slots (other_slot sl))) off
    (λ torn. ap (λ (k : ℕ). is_first t k (suc n) sl) number ∙ second-of t u (suc n) sl (second torn)) on
beside-plain t log later z u number Keeping Driver slots second off on within itself same =
    ap (λ (ss : Slots). accepted_card ss.codriver) (itself refl) ∙ sym (ap (λ (b : Bool). cond b None (accepted_card slots.codriver)) second)
beside-plain t log later z u number Keeping CoDriver slots second off on within itself same =
    ap (λ (k : ℕ). cond (is_torn_in later k Keeping Driver) None (accepted_card z.itself.driver)) number
    ∙ (λ i. cond (same i) None (accepted_card (itself refl i).driver))

-- A TEAR, by the second's course
module _ (log : RunLog) (before : Before) (s : TraceSecond) (at : Phase) (power : has_power before s ≡ true) (is : IsMoment s at) (up : IsUpTo log s.number at)
    (slot : Slot) (card : Card) (failed : Bool) (b : Break) (tear : IsTearAt s at slot failed b) (up_later : IsUpTo (and_break log b) s.number at) (untorn : is_torn_in log s.number at slot ≡ false) where
  abbrev pub later : RunLog
  later = and_break log b

  here-now : tears_here s.number at slot b ≡ true
  here-now = ap (tears_here s.number at slot) tear.2 ∙ told-here s.number tear.0 tear.1 slot failed at tear.3

  beside-not : (p : Phase) → tears_here s.number p (other_slot slot) b ≡ false
  beside-not p = ap (tears_here s.number p (other_slot slot)) tear.2 ∙ told-beside s.number tear.0 tear.1 slot failed p

  elsewhere-not : (p : Phase) (other : Slot) → same_phase at p ≡ false → tears_here s.number p other b ≡ false
  elsewhere-not p other far = ap (tears_here s.number p other) tear.2 ∙ told-elsewhere s.number tear.0 tear.1 slot failed at p other tear.3 far

  pub torn-here : is_torn_in later s.number at slot ≡ true
  torn-here = (break-more log b s.number).torn at slot ∙ (λ i. untorn i || here-now i)

  pub torn-beside : is_torn_in later s.number at (other_slot slot) ≡ is_torn_in log s.number at (other_slot slot)
  torn-beside = (break-more log b s.number).torn at (other_slot slot) ∙ ap (λ (t : Bool). is_torn_in log s.number at (other_slot slot) || t) (beside-not at) ∙ or-false (is_torn_in log s.number at (other_slot slot))

  pub found-same : (p : Phase) (other : Slot) → found_in later s.number p other ≡ found_in log s.number p other
  found-same p other = (break-more log b s.number).found p other

  far-off : (p : Phase) (m : ℕ) → IsBehind (In m) p → same_phase p (In m) ≡ false
  far-off (In n) m lt = grind (arith, nat_tests)
  far-off Keeping m h = refl

  pub same : SameBefore log later s.number at
  same = record {
    up = up;
    up_later = up_later;
    torn = λ m other behind. (break-more log b s.number).torn (In m) other
        ∙ ap (λ (t : Bool). is_torn_in log s.number (In m) other || t) (elsewhere-not (In m) other (far-off at m behind)) ∙ or-false (is_torn_in log s.number (In m) other);
    found = λ m other behind. found-same (In m) other;
  }

  abbrev pub start : Course
  start = begun_at log before s at

  abbrev pub moves : Moved
  moves = moved_at log before s at

  abbrev x : Seen
  x = seen_by log before s

  abbrev y : Seen
  y = seen_by later before s

  abbrev pub v : Visit
  v = record { phase = at; slot = slot; card = card }

  -- those of the other slot
  abbrev pub ws : List Visit
  ws = outs log s.number at moves (other_slot slot) start

  pub outs-own : moves.leaving slot ++ visits at slot (course_at log before s at).slots ≡ v ∷ [] → outs later s.number at moves slot start ≡ v ∷ []
  outs-own out =
      ap (λ (t : Bool). cond t (moves.leaving slot ++ visits at slot start.slots) []) torn-here
      ∙ ap (λ (cards : List Card). moves.leaving slot ++ map (λ (c : Card). record { phase = at; slot = slot; card = c }) cards)
      (sym (ap card_in (both-slot log s.number at moves slot start) ∙ cards-kept (is_torn_in log s.number at slot) (found_now log s.number at moves slot) s.number (in_slot start.slots slot) untorn))
      ∙ out

  pub outs-none : outs log s.number at moves slot start ≡ []
  outs-none = ap (λ (t : Bool). cond t (moves.leaving slot ++ visits at slot start.slots) []) untorn

  pub outs-other : outs later s.number at moves (other_slot slot) start ≡ ws
  outs-other = ap (λ (t : Bool). cond t (moves.leaving (other_slot slot) ++ visits at (other_slot slot) start.slots) []) torn-beside

  pub few-others : (ws ≡ []) ⊎ (IsBeside at (other_slot slot) ws × (is_torn_in log s.number at (other_slot slot) ≡ true))
  few-others = few-torn log s.number at moves (other_slot slot) start (few-at log before s at (other_slot slot))

  pub finds-same : (other : Slot) → finds later s.number at moves other start ≡ finds log s.number at moves other start
  finds-same other = ap (λ (vs : List Verdict). flat_map (λ (visit : Visit). map (λ (verdict : Verdict). (visit, verdict)) (cond (moves.enters other) vs [])) (visits at other start.slots)) (found-same at other)

  -- a choice at this moment
  module _ (apart : same_phase at (In 0) ≡ false) (t t' : Tearing) (choice : ChoiceBefore t t' s.number at) (second : TornSecond at slot log s.number t') (none : NotFound at (other_slot slot) log s.number)
      (out : moves.leaving slot ++ visits at slot (course_at log before s at).slots ≡ v ∷ []) where
    abbrev front : List Visit
    front = start.torn

    abbrev xs : List Visit
    xs = outs log s.number at moves Driver start ++ outs log s.number at moves CoDriver start

    abbrev ys : List Visit
    ys = outs later s.number at moves Driver start ++ outs later s.number at moves CoDriver start

    abbrev fs : List (Visit × Verdict)
    fs = finds log s.number at moves Driver start ++ finds log s.number at moves CoDriver start

    abbrev gs : List (Visit × Verdict)
    gs = finds later s.number at moves Driver start ++ finds later s.number at moves CoDriver start

    d : DifferAt at start.torn start.found xs ys fs gs t t' x y
    d = differ log later before s at power is same t t' choice

    number-y : number_of y ≡ s.number
    number-y = told-number later before s

    -- the other's tear came first
    first-beside : is_torn_in log s.number at (other_slot slot) ≡ true → FirstBeside at slot t' y
    first-beside torn = by at slot second torn
      where
        by : (p : Phase) (sl : Slot) → TornSecond p sl log s.number t' → is_torn_in log s.number p (other_slot sl) ≡ true → FirstBeside p sl t' y
        by (In zero) sl h torn = absurd h
        by (In (suc n)) Driver h torn = ap (λ (k : ℕ). not (t'.driver_first k (suc n))) number-y ∙ h torn
        by (In (suc n)) CoDriver h torn = ap (λ (k : ℕ). not (t'.driver_first k (suc n))) number-y ∙ ap not (h torn)
        by Keeping Driver h torn = absurd (let wrong : true ≡ false = sym torn ∙ h in cc)
        by Keeping CoDriver h torn = refl

    turned : torn_in_turn t' y ys ≡ ws ++ v ∷ []
    turned =
        turn-second slot t' y at card ws (λ (sl : Slot). outs later s.number at moves sl start) (outs-own out) outs-other
        (few-first at (other_slot slot) ws (is_torn_in log s.number at (other_slot slot)) (FirstBeside at slot t' y) first-beside few-others)

    few-ws : (ws ≡ []) ⊎ IsBeside at (other_slot slot) ws
    few-ws = few-alone at (other_slot slot) ws (is_torn_in log s.number at (other_slot slot) ≡ true) few-others

    xs-are : xs ≡ ws
    xs-are = only-other slot (λ (sl : Slot). outs log s.number at moves sl start) outs-none

    turned-before : torn_in_turn t x xs ≡ ws
    turned-before = ap (torn_in_turn t x) xs-are ∙ turn-few t x at (other_slot slot) ws few-ws

    -- the fault of the other's tear stays
    untorn-by : torn_at x at slot ≡ false
    untorn-by = not-torn at slot x start.torn ws (d.torn_x ∙ ap (λ (vs : List Visit). start.torn ++ vs) xs-are) d.torn_before few-ws

    within-now : (n : ℕ) → at ≡ In (suc n) → y.within (suc n) ≡ x.within (suc n)
    within-now n is_at = within-same log later before s at power is same (suc n) (λ k lt. subst (IsBehind (In k)) (sym is_at) (omega (arith, lt)))

    itself-now : at ≡ Keeping → y.itself ≡ x.itself
    itself-now is_at = ap (λ (c : Course). c.slots) (course-until log later before s at power is same (length s.actions) (subst (IsBehind (In (length s.actions))) (sym is_at) tt))

    abbrev fault_with : ℕ → Visit → Option Card → Event
    fault_with n w o = noted_with CARD_FAULT n n (with_card (other_slot w.slot) o (record { driver = None; codriver = None }))

    fault-stays : (w : Visit) → w.phase ≡ at → w.slot ≡ other_slot slot → is_torn_in log s.number at (other_slot slot) ≡ true → fault_of t' later y w ≡ fault_of t log x w
    fault-stays w phase_is slot_is torn =
        let beside : beside_torn t' later y w.phase w.slot ≡ beside_torn t log x w.phase w.slot =
        (λ i. beside_torn t' later y (phase_is i) (slot_is i))
        ∙ beside-stays t t' log later x y s.number number-y at slot apart second torn untorn-by within-now itself-now
        ∙ sym (λ i. beside_torn t log x (phase_is i) (slot_is i)) in
        λ i. fault_with (d.number i) w (beside i)

    map-stays : map (fault_of t' later y) ws ≡ map (fault_of t log x) ws
    map-stays = map-few (fault_of t' later y) (fault_of t log x) at (other_slot slot) ws (is_torn_in log s.number at (other_slot slot) ≡ true) few-others fault-stays

    pub faults-more : faults_by t' later y ≡ faults_by t log x ++ fault_of t' later y v ∷ []
    faults-more = faults-then at start.torn start.found xs ys fs gs t t' x y d log later (fault_of t' later y v ∷ [])
        (ap (map (fault_of t' later y)) turned ∙ map-append (fault_of t' later y) ws (v ∷ []) ∙ ap (λ (es : List Event). es ++ fault_of t' later y v ∷ []) (map-stays ∙ sym (ap (map (fault_of t log x)) turned-before)))

    slots-other : in_slot (course_at later before s at).slots (other_slot slot) ≡ in_slot (course_at log before s at).slots (other_slot slot)
    slots-other =
        (λ i. in_slot (both_told later s.number at (moved-same log later before s at power is same i) (begun-same log later before s at power is same i)).slots (other_slot slot))
        ∙ both-slot later s.number at moves (other_slot slot) start
        ∙ (λ i. told_slot (torn-beside i) (cond (moves.enters (other_slot slot)) (found-same at (other_slot slot) i) []) s.number (in_slot start.slots (other_slot slot)))
        ∙ sym (both-slot log s.number at moves (other_slot slot) start)

    after-other : (n : ℕ) → at ≡ In (suc n) → in_slot (y.after (suc n)) (other_slot slot) ≡ in_slot (x.after (suc n)) (other_slot slot)
    after-other n is_at =
        let le : suc n ≤ length s.actions = subst (IsMoment s) is_at is in
        ap (λ (c : Course). in_slot c.slots (other_slot slot)) (at-by later before s up_later.uncut (suc n) le)
        ∙ subst (λ (p : Phase). in_slot (course_at later before s p).slots (other_slot slot) ≡ in_slot (course_at log before s p).slots (other_slot slot)) is_at slots-other
        ∙ sym (ap (λ (c : Course). in_slot c.slots (other_slot slot)) (at-by log before s up.uncut (suc n) le))

    crew-now : (f : Visit × Verdict) → IsOf at slot f → (own : Option Card) → crew_judged t' y f.0 own ≡ crew_judged t x f.0 own
    crew-now f here own =
        let beside : beside_judged t' y f.0.phase f.0.slot ≡ beside_judged t x f.0.phase f.0.slot =
        (λ i. beside_judged t' y (here.0 i) (here.1 i)) ∙ judged-stays t t' x y at slot apart after-other ∙ sym (λ i. beside_judged t x (here.0 i) (here.1 i)) in
        ap (λ (o : Option Card). with_card f.0.slot own (with_card (other_slot f.0.slot) o (record { driver = None; codriver = None }))) beside

    enters-not : at ≡ Keeping → moves.enters (other_slot slot) ≡ false
    enters-not is_at = subst (λ (p : Phase). (moved_at log before s p).enters (other_slot slot) ≡ false) (sym is_at) refl

    -- of the power-on nothing more is told
    pub torn-first : (sl : Slot) → torn_at y (In 0) sl ≡ torn_at x (In 0) sl
    torn-first sl = torn-same at start.torn start.found xs ys fs gs t t' x y d (In 0) sl apart

    pub accepted-first : (sl : Slot) → accepted_at y (In 0) sl ≡ accepted_at x (In 0) sl
    accepted-first sl = accepted-same at start.torn start.found xs ys fs gs t t' x y d (In 0) sl apart

    pub found-alike : y.told.course.found ≡ x.told.course.found
    found-alike = d.found_y ∙ (λ i. start.found ++ (finds-same Driver i ++ finds-same CoDriver i)) ∙ sym d.found_x

    -- with the cards that are left
    left-slot : in_slot (course_at log before s at).slots (other_slot slot) ≡ cond (is_torn_in log s.number at (other_slot slot)) None (in_slot start.slots (other_slot slot))
    left-slot =
        both-slot log s.number at moves (other_slot slot) start
        ∙ ap (λ (vs : List Verdict). told_slot (is_torn_in log s.number at (other_slot slot)) vs s.number (in_slot start.slots (other_slot slot))) (found-none log s.number at moves (other_slot slot) none enters-not)

    started : (n : ℕ) → at ≡ In (suc n) → y.within (suc n) ≡ start.slots
    started n is_at = within-now n is_at ∙ within-begun log before s n ∙ ap (λ (p : Phase). (begun_at log before s p).slots) (sym is_at)

    itself-begun : at ≡ Keeping → y.itself ≡ start.slots
    itself-begun is_at = itself-now is_at ∙ ap (λ (p : Phase). (begun_at log before s p).slots) (sym is_at)

    untorn-other : is_torn_in log s.number at (other_slot slot) ≡ false → torn_at y at (other_slot slot) ≡ false
    untorn-other off =
        let ws_none : outs later s.number at moves (other_slot slot) start ≡ [] = outs-other ∙ ap (λ (t : Bool). cond t (moves.leaving (other_slot slot) ++ visits at (other_slot slot) start.slots) []) off in
        let only : ys ≡ outs later s.number at moves (other_slot (other_slot slot)) start = only-other (other_slot slot) (λ (sl : Slot). outs later s.number at moves sl start) ws_none in
        let one : ys ≡ v ∷ [] = only ∙ ap (λ (sl : Slot). outs later s.number at moves sl start) (other-twice slot) ∙ outs-own out in
        not-torn at (other_slot slot) y start.torn (v ∷ []) (d.torn_y ∙ ap (λ (vs : List Visit). start.torn ++ vs) one) d.torn_before (inr (record { w = v; are = refl; slot_is = sym (other-twice slot); phase_is = refl }))

    torn-other : is_torn_in log s.number at (other_slot slot) ≡ true → (torn_at y at (other_slot slot) ≡ true) ⊎ (accepted_card (in_slot start.slots (other_slot slot)) ≡ None)
    torn-other on = ⊎_elim
        (λ (gone : ws ≡ []). inr (none-there at (other_slot slot) start.slots (moves.leaving (other_slot slot)) (sym (ap (λ (t : Bool). cond t (moves.leaving (other_slot slot) ++ visits at (other_slot slot) start.slots) []) on) ∙ gone)))
        (λ one. inl (torn-there at (other_slot slot) y start.torn (λ (sl : Slot). outs later s.number at moves sl start) one.0.w d.torn_y (outs-other ∙ one.0.are) one.0.phase_is one.0.slot_is))
        few-others

    beside-left : beside_torn t' later y at slot ≡ accepted_card (in_slot (course_at log before s at).slots (other_slot slot))
    beside-left =
        beside-plain t' log later y s.number number-y at slot start.slots second untorn-other torn-other started itself-begun torn-beside
        ∙ sym (ap accepted_card left-slot ∙ accepted-cond (is_torn_in log s.number at (other_slot slot)) (in_slot start.slots (other_slot slot)))

    pub fault-left : fault_of t' later y v ≡ fault_left s.number slot (crew_of (course_at log before s at).slots)
    fault-left = (λ i. noted_with CARD_FAULT (number-y i) (number-y i) (with_card (other_slot slot) (beside-left i) (record { driver = None; codriver = None }))) ∙ ap (noted_with CARD_FAULT s.number s.number) (crew-left slot (course_at log before s at).slots)

    finds-none : finds log s.number at moves (other_slot slot) start ≡ []
    finds-none =
        ap (λ (vs : List Verdict). flat_map (λ (visit : Visit). map (pair visit) vs) (visits at (other_slot slot) start.slots)) (found-none log s.number at moves (other_slot slot) none enters-not)
        ∙ no-pairs (visits at (other_slot slot) start.slots)

    fs-here : AllByRecursion (IsOf at slot) fs
    fs-here = only-finds slot (λ (sl : Slot). finds log s.number at moves sl start) (IsOf at slot) (finds-of at slot (found_now log s.number at moves slot) (in_slot start.slots slot)) finds-none

    abbrev found_y : (kind : ℕ) (own : ℕ → Visit → ℕ) → Visit × Verdict → List Event
    found_y kind own f = found_events kind (own (number_of y) f.0) t' y f.0 f.1

    abbrev found_x : (kind : ℕ) (own : ℕ → Visit → ℕ) → Visit × Verdict → List Event
    found_x kind own f = found_events kind (own (number_of x) f.0) t x f.0 f.1

    find-stays : (kind : ℕ) (own : ℕ → Visit → ℕ) (f : Visit × Verdict) → IsOf at slot f → found_y kind own f ≡ found_x kind own f
    find-stays kind own f here =
        ap (λ (n : ℕ). found_events kind (own n f.0) t' y f.0 f.1) d.number
        ∙ events-as at start.torn start.found xs ys fs gs t t' x y d kind (own (number_of x) f.0) f.0 f.1 (crew-now f here)

    found-more : (kind : ℕ) (own : ℕ → Visit → ℕ) → found_by kind own t' y ≡ found_by kind own t x ++ []
    found-more kind own = found-then at start.torn start.found xs ys fs gs t t' x y d log later kind own own (λ w former. ap (λ (n : ℕ). own n w) d.number) []
        ((λ i. flat_map (found_y kind own) (finds-same Driver i ++ finds-same CoDriver i))
        ∙ flat-stays (found_y kind own) (found_x kind own) (IsOf at slot) fs fs-here (find-stays kind own)
        ∙ sym (append-nil (flat_map (found_x kind own) fs)))

    kept-same : (u : ℕ) → kept_after later u ≡ kept_after log u
    kept-same u = (break-more log b u).kept (ap (kept_by u) tear.2)

    lit-same : y.told.lit ≡ x.told.lit
    lit-same = (lit-told later before s power).lit ∙ sym (lit-told log before s power).lit

    starts-same : y.told.starts ≡ x.told.starts
    starts-same = (lit-told later before s power).starts ∙ sym (lit-told log before s power).starts

    stands : (sl : Slot) → standing t' y sl ≡ standing t x sl
    stands sl = stands-same at start.torn start.found xs ys fs gs t t' x y d sl apart

    gap-more : (spans : List (List Seen)) → gap_by t' later spans y ≡ gap_by t log spans x ++ []
    gap-more spans = (λ i. cond (lit-same i) (cond (starts-same i) (before-as t t' log later x y kept-same d.number stands spans i) []) []) ∙ sym (append-nil (gap_by t log spans x))

    pub brings-by : (kind limit : ℕ) (own : ℕ → Visit → ℕ) (spans : List (List Seen)) → is_told Acting kind ≡ true → second_events kind limit own t' later spans y ≡ second_events kind limit own t log spans x ++ by_kind (fault_of t' later y v ∷ []) kind
    brings-by kind limit own spans told =
        let e : Event = fault_of t' later y v in
        kinds-then (kind == DRIVING_WITHOUT_CARD) (kind == OVER_SPEEDING) (kind == POWER_INTERRUPTION) (kind == CARD_FAULT)
        (cond x.told.lit (bares_by (span_before spans x) (x ∷ [])) []) (cond x.told.lit (overs_by limit (span_before spans x) (x ∷ [])) []) (gap_by t log spans x) (faults_by t log x) (found_by kind own t x)
        (cond y.told.lit (bares_by (span_before spans y) (y ∷ [])) []) (cond y.told.lit (overs_by limit (span_before spans y) (y ∷ [])) []) (gap_by t' later spans y) (faults_by t' later y) (found_by kind own t' y)
        (by_kind (e ∷ []) kind) told
        (λ is_gap. gap-more spans ∙ ap (λ (es : List Event). gap_by t log spans x ++ es) (sym (none-of e kind refl (not-fault kind is_gap))))
        (λ no_gap is_fault. faults-more ∙ ap (λ (es : List Event). faults_by t log x ++ es) (sym (one-of e kind refl is_fault)))
        (λ no_gap no_fault. found-more kind own ∙ ap (λ (es : List Event). found_by kind own t x ++ es) (sym (none-of e kind refl no_fault)))

-- THE LAW
pub brought-as : (o : Origin) (done : List TraceSecond) (p : Progress) (f : BookFollowsRun (rule_of o) (start_at o) o.from (first_of o) done p) (s : TraceSecond) (l : RunLog) (g : GoesOnBy p l s) (h : Tearing) (own : ℕ → Visit → ℕ) (kind : ℕ) →
    brought_now o l done s h own kind ≡ second_events kind (limit_in o) own h l (seen_spans (seen_of p.log done)) (seen_by l (went p.log done).before s)
brought-as o done p f s l g h own kind = λ i.
    second_events kind (limit_in o) own h l (seen_spans (seen-same p.log l done (same-before o done p f s l g) i))
    (seen_by l (went-same_ (rule_of o) (start_at o) o.from (first_of o) done p f.order f.next f.unfound s l g i).before s)

-- by what is reached
pub tear-brings : (o : Origin) (done : List TraceSecond) (p : Progress) (f : BookFollowsRun (rule_of o) (start_at o) o.from (first_of o) done p) (span : List ToldSecond) → p.supply ≡ Lit span → (s : TraceSecond) (at : Phase) (log : RunLog) → Reaches p s at log →
    (slot : Slot) (card : Card) (b : Break) → IsTearAt s at slot true b → is_torn_in log s.number at slot ≡ false →
    IsOneOut at slot card ((moved_at log (went p.log done).before s at).leaving slot ++ visits at slot (course_at log (went p.log done).before s at).slots) →
    (here here_then : Tearing) (own : ℕ → Visit → ℕ) → ChoiceBefore here here_then s.number at → TornSecond at slot log s.number here_then → NotFound at (other_slot slot) log s.number →
    Brings o done s Acting log here own (and_break log b) here_then own (fault_of here_then (and_break log b) (seen_next (and_break log b) done s) (record { phase = at; slot = slot; card = card }) ∷ [])
tear-brings o done p f span is s at log r slot card b tear untorn out here here_then own choice second none kind there told =
    let before : Before = (went p.log done).before in
    let r_later : Reaches p s at (and_break log b) = (lines-reached p s at log r).0 slot true b tear in
    let supplied = (with-supply (rule_of o) (start_at o) o.from (first_of o) done p (Lit span) is f).power in
    let power : has_power before s ≡ true = lit-power span before s p.next supplied r.goes.number r.goes.given in
    let v : Visit = record { phase = at; slot = slot; card = card } in
    let went_same : went (and_break log b) done ≡ went p.log done = went-same_ (rule_of o) (start_at o) o.from (first_of o) done p f.order f.next f.unfound s (and_break log b) r_later.goes in
    brought-as o done p f s (and_break log b) r_later.goes here_then own kind
    ∙ brings-by log before s at power r.is r.up_to slot card true b tear r_later.up_to untorn (apart-of at slot log s.number here_then second) here here_then choice second none out kind (limit_in o) own (seen_spans (seen_of p.log done)) told
    ∙ (λ i. sym (brought-as o done p f s log r.goes here own kind) i ++ by_kind (fault_of here_then (and_break log b) (seen_by (and_break log b) (sym went_same i).before s) v ∷ []) kind)

pub tear-brought : ATearIsBrought
tear-brought o done p f span is s at log waits mid now m slot card b tear untorn out here here_then own choice second none =
    tear-brings o done p f span is s at log (record { goes = goes_on m; up_to = m.up_to; is = m.is }) slot card b tear untorn out here here_then own choice second none
