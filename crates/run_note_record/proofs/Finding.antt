-- A card is judged: what that adds.
use Rattle.std.proofs.Common.{◌≡◌, ◌⊎◌, inl, inr, ⊎_elim, ℕ, zero, suc, ◌<◌, ◌≤◌, Bool, true, false, cond, not, ◌&&◌, Option, Some, None, List, [], ◌∷◌, ◌++◌, Contains, map, filter, length, nat_eq, nat_lt, is_some, refl, ap, sym, subst, ◌∙◌, arith, append-nil, append_assoc}
use Rattle.std.specs.Prelude.{◌==◌, flat_map, slice_get}
use Rattle.std.specs.List.{AllByRecursion, list_any}
use Rattle.std.proofs.lemmas.Bool.{eqb-true}
use Rattle.std.proofs.lemmas.Bool.Decides.{nat_tests}
use Rattle.std.proofs.lemmas.List.Elements.{filter-append, Contains-push_cases}
use Rattle.std.proofs.lemmas.Grind.{flat_map-append}
use Rattle.run_events.specs.activity_codec.declared.values.Slot.{Slot}
use Rattle.run_events.specs.activity_codec.declared.values.Slot.TheVariants.{Driver, CoDriver}
use Rattle.run_events.specs.activity_codec.Activity.{same_slot}
use Rattle.run_devices.specs.trace_model.declared.Card.{Card}
use Rattle.run_devices.specs.trace_model.declared.Action.{Action}
use Rattle.run_devices.specs.trace_model.declared.Action.TheVariants.{Select, Insert, Withdraw, Tear as Pull, Place, Manual}
use Rattle.run_devices.specs.trace_model.Trace.{TraceSecond}
use Rattle.run_devices.specs.log_model.declared.lines.SlotFault.{SlotFault}
use Rattle.run_devices.specs.log_model.declared.lines.Find.{Find}
use Rattle.run_devices.specs.log_model.declared.lines.Verdict.{Verdict}
use Rattle.run_devices.specs.log_model.declared.lines.Verdict.TheVariants.{Accepted, NotValid, TimeOverlap}
use Rattle.run_devices.specs.log_model.Log.{RunLog, Phase, In, same_phase, is_torn_in, found_in, is_accepting}
use Rattle.run_devices.specs.log_model.Slots.{Slots, Sitting, same_card, in_slot, other_slot, refusal}
use Rattle.run_devices.specs.log_model.Course.{Visit, Course, Before, Moved, card_in, visits, has_power, moved_by, both_told, second_told, went}
use Rattle.run_devices.specs.event_model.declared.kinds.TheConstants.{CARD_NOT_VALID, TIME_OVERLAP, DRIVING_WITHOUT_CARD, INSERTION_WHILE_DRIVING, SESSION_NOT_CLOSED, OVER_SPEEDING, POWER_INTERRUPTION, CARD_FAULT}
use Rattle.run_devices.specs.event_model.Events.{Event, Crew, Seen, Tearing, number_of, noted_with, crew_of, with_card, accepted_card, course_by, seen_by, seen_of, seen_spans, torn_at, accepted_at, first_card, standing, beside_judged, crew_judged, found_events, is_first, beside_torn, fault_of, torn_in_turn}
use Rattle.run_devices.specs.safety_model.Safe.{Devices}
use Rattle.run_events.specs.unit_events.Shown.{all_kinds}
use Rattle.run_devices.specs.run_course.Moments.{and_find, finds_here}
use Rattle.run_devices.proofs.run_course.Lookups.{find-more}
use Rattle.run_devices.proofs.run_course.Told.{lit-told}
use Rattle.run_devices.specs.run_course.Reached.{IsBehind, IsMoment, IsUpTo, Reaches, moved_with, begun_at, moved_at, course_at, IsFindAt}
use Rattle.run_devices.proofs.run_course.Reached.{at-by, lines-reached}
use Rattle.run_devices.proofs.run_course.Lines.{who-sits}
use Rattle.run_devices.proofs.run_course.Telling.{each-of}
use Rattle.run_events.specs.Shown.{by_kind}
use Rattle.run_events.specs.Seconds.{span_before, bares_by, overs_by, gap_by, faults_by, found_by, second_events}
use Rattle.run_events.specs.Running.{judged_notes}
use Rattle.run_events.proofs.Later.{told-number}
use Rattle.run_events.proofs.Notes.{one-judged}
use Rattle.run_note_record.specs.Opened.{IsOpenSo}
use Rattle.run_note_record.specs.Uses.{times_of, opened_in, notes_in, notes_now, uses_in, told_so_far, NoneFailedOn}
use Rattle.run_note_record.specs.Evented.{limit_in}
use Rattle.run_note_record.specs.Noting.{Acting, is_told}
use Rattle.run_note_record.specs.EventsSoFar.{FitsSoFar, stage_in, AreBare, ComesInTurn, judged_with, crew_at, AFindAdds}
use Rattle.run_note_record.proofs.Fronts.{IsFormer, former-other, DifferAt, accepted-same, stands-same, events-as}
use Rattle.run_note_record.proofs.Parts.{outs, found_now, finds}
use Rattle.run_note_record.proofs.Brought.{SameBefore, told-speed, begun-same, moved-same, within-same, differ, faults-then, found-then}
use Rattle.run_note_record.proofs.Bringing.{kinds-then, few-at, before-as, crew-beside, paired}
use Rattle.run_note_record.proofs.Tearing.{and-none, same-self, phase-self, slot-self, slot-apart, slot-beside, told_slot, both-slot, cards-kept, IsBeside, turn-few, only-other, few-alone, map-few, not-torn, few-torn}
use Rattle.run_note_record.proofs.Stood.{accepted_here, bare-card, stands-as}
use Rattle.run_note_record.proofs.Uses.{card-turned}
use Rattle.run_note_record.proofs.Exact.{stay-alike, torn-next, failed-fewer}
use Rattle.run_note_record.proofs.Adding.{power-now, fits-now, open-now, exact-by, added, aside-acting, aside-waking}

-- ---- what is found open
abbrev with_session : (own : ℕ → Visit → ℕ) → Phase → Slot → (session : ℕ) → ℕ → Visit → ℕ
with_session own at slot session u w = cond (same_phase w.phase at && same_slot w.slot slot) session (own u w)

-- ---- one slot alone is entered in an action
put-apart : (s slot : Slot) → same_slot s slot ≡ true → same_slot s (other_slot slot) ≡ false
put-apart Driver Driver is = refl
put-apart Driver CoDriver is = absurd (let wrong : false ≡ true = is in cc)
put-apart CoDriver Driver is = absurd (let wrong : false ≡ true = is in cc)
put-apart CoDriver CoDriver is = refl

none-enters : (n : ℕ) (o : Option SlotFault) (a : Action) (slots : Slots) (slot : Slot) → (moved_by n o a slots).enters slot ≡ true → (moved_by n o a slots).enters (other_slot slot) ≡ false
none-enters n (Some r) a slots slot is = absurd (let wrong : false ≡ true = is in cc)
none-enters n None (Select s pick) slots slot is = absurd (let wrong : false ≡ true = is in cc)
none-enters n None (Insert s card) slots slot is = put-apart s slot is
none-enters n None (Withdraw s) slots slot is = absurd (let wrong : false ≡ true = is in cc)
none-enters n None (Pull s) slots slot is = absurd (let wrong : false ≡ true = is in cc)
none-enters n None (Place s ending country region) slots slot is = absurd (let wrong : false ≡ true = is in cc)
none-enters n None (Manual s pick minute) slots slot is = absurd (let wrong : false ≡ true = is in cc)

one-enters : (n : ℕ) (o : Option Action) (speed : ℕ) (c : Course) (slot : Slot) → (moved_with n o speed c).enters slot ≡ true → (moved_with n o speed c).enters (other_slot slot) ≡ false
one-enters n None speed c slot is = absurd (let wrong : false ≡ true = is in cc)
one-enters n (Some a) speed c slot is = none-enters n (refusal c.slots speed a) a c.slots slot is

-- ---- of both slots
no-pairs : (vs : List Visit) → flat_map (λ (visit : Visit). paired visit []) vs ≡ []
no-pairs [] = refl
no-pairs (visit ∷ vs) = no-pairs vs

cond-none : (b : Bool) → cond {A = List Verdict} b [] [] ≡ []
cond-none true = refl
cond-none false = refl

only-more : (slot : Slot) (out new : Slot → List (Visit × Verdict)) (e : Visit × Verdict) → out slot ≡ [] → new slot ≡ e ∷ [] → new (other_slot slot) ≡ out (other_slot slot) → (slot ≡ Driver → out CoDriver ≡ []) →
    new Driver ++ new CoDriver ≡ (out Driver ++ out CoDriver) ++ e ∷ []
only-more Driver out new e none one other first =
    (λ i. one i ++ (other ∙ first refl) i) ∙ sym (λ i. (none i ++ first refl i) ++ e ∷ [])
only-more CoDriver out new e none one other first =
    (λ i. other i ++ one i) ∙ sym (ap (λ (xs : List (Visit × Verdict)). (out Driver ++ xs) ++ e ∷ []) none ∙ ap (λ (xs : List (Visit × Verdict)). xs ++ e ∷ []) (append-nil (out Driver)))

slot-cases : (sl slot : Slot) → (sl ≡ slot) ⊎ (sl ≡ other_slot slot)
slot-cases Driver Driver = inl refl
slot-cases Driver CoDriver = inr refl
slot-cases CoDriver Driver = inr refl
slot-cases CoDriver CoDriver = inl refl

all-both : {X : Type 0} (P : X → Type 0) (xs ys : List X) → AllByRecursion P xs → AllByRecursion P ys → AllByRecursion P (xs ++ ys)
all-both P [] ys hx hy = hy
all-both P (x ∷ xs) ys hx hy = (hx.0, all-both P xs ys hx.1 hy)

-- what is found of one slot is none of the other
abbrev IsApart : Phase → Slot → Visit × Verdict → Type 0
IsApart at slot f = (same_phase f.0.phase at && same_slot f.0.slot slot) ≡ false

pairs-apart : (at : Phase) (slot : Slot) (card : Card) (vs : List Verdict) → AllByRecursion (IsApart at slot) (map (λ (v : Verdict). (record { phase = at; slot = other_slot slot; card = card }, v)) vs)
pairs-apart at slot card [] = tt
pairs-apart at slot card (v ∷ vs) = (ap (λ (b : Bool). same_phase at at && b) (slot-beside slot) ∙ and-none (same_phase at at), pairs-apart at slot card vs)

beside-apart : (at : Phase) (slot : Slot) (vs : List Verdict) (o : Option Sitting) →
    AllByRecursion (IsApart at slot) (flat_map (λ (visit : Visit). map (λ (v : Verdict). (visit, v)) vs) (map (λ (card : Card). record { phase = at; slot = other_slot slot; card = card }) (card_in o)))
beside-apart at slot vs None = tt
beside-apart at slot vs (Some x) = all-both (IsApart at slot) (map (λ (v : Verdict). (record { phase = at; slot = other_slot slot; card = x.card }, v)) vs) [] (pairs-apart at slot x.card vs) tt

formers-apart : (at : Phase) (slot : Slot) (fs : List (Visit × Verdict)) → AllByRecursion (λ (f : Visit × Verdict). IsFormer at f.0) fs → AllByRecursion (IsApart at slot) fs
formers-apart at slot [] all = tt
formers-apart at slot (f ∷ fs) all = (ap (λ (b : Bool). b && same_slot f.0.slot slot) (former-other at f.0 all.0), formers-apart at slot fs all.1)

only-apart : (at : Phase) (slot : Slot) (out : Slot → List (Visit × Verdict)) → out slot ≡ [] → AllByRecursion (IsApart at slot) (out (other_slot slot)) → AllByRecursion (IsApart at slot) (out Driver ++ out CoDriver)
only-apart at Driver out none all = all-both (IsApart at Driver) (out Driver) (out CoDriver) (subst (AllByRecursion (IsApart at Driver)) (sym none) tt) all
only-apart at CoDriver out none all = all-both (IsApart at CoDriver) (out Driver) (out CoDriver) all (subst (AllByRecursion (IsApart at CoDriver)) (sym none) tt)

-- ---- of which types
judged-none : (session u speed : ℕ) (slot : Slot) (card : Card) (crew : Crew) (verdict : Verdict) (kind : ℕ) → nat_eq CARD_NOT_VALID kind ≡ false → nat_eq TIME_OVERLAP kind ≡ false → nat_eq INSERTION_WHILE_DRIVING kind ≡ false → nat_eq SESSION_NOT_CLOSED kind ≡ false →
    by_kind (judged_with session u speed slot card crew verdict) kind ≡ []
judged-none session u speed slot card crew (NotValid fid place) kind a b c d = ap (λ (t : Bool). cond t (noted_with CARD_NOT_VALID u u (with_card slot None crew) ∷ []) []) a
judged-none session u speed slot card crew (TimeOverlap stored now) kind a b c d = ap (λ (t : Bool). cond t (noted_with TIME_OVERLAP u stored (with_card slot None crew) ∷ []) []) b
judged-none session u speed slot card crew (Accepted replayed) kind a b c d =
    by (nat_lt 0 speed) (nat_lt 0 session) (noted_with INSERTION_WHILE_DRIVING u u (with_card slot (Some card) crew)) (noted_with SESSION_NOT_CLOSED session u (with_card slot (Some card) crew)) c d
  where
    drop : (e : Event) (es : List Event) → nat_eq e.kind kind ≡ false → by_kind (e ∷ es) kind ≡ by_kind es kind
    drop e es off = ap (λ (t : Bool). cond t (e ∷ by_kind es kind) (by_kind es kind)) off

    by : (m s : Bool) (e g : Event) → nat_eq e.kind kind ≡ false → nat_eq g.kind kind ≡ false → by_kind (cond m (e ∷ []) [] ++ cond s (g ∷ []) []) kind ≡ []
    by true true e g first second = drop e (g ∷ []) first ∙ drop g [] second
    by true false e g first second = drop e [] first
    by false true e g first second = drop g [] second
    by false false e g first second = refl

judged-kinds : (session u speed : ℕ) (slot : Slot) (card : Card) (crew : Crew) (verdict : Verdict) → AllByRecursion (λ (e : Event). Contains all_kinds e.kind) (judged_with session u speed slot card crew verdict)
judged-kinds session u speed slot card crew (NotValid fid place) = ((0, omega arith, refl), tt)
judged-kinds session u speed slot card crew (TimeOverlap stored now) = ((1, omega arith, refl), tt)
judged-kinds session u speed slot card crew (Accepted replayed) =
    by (nat_lt 0 speed) (nat_lt 0 session) (noted_with INSERTION_WHILE_DRIVING u u (with_card slot (Some card) crew)) (noted_with SESSION_NOT_CLOSED session u (with_card slot (Some card) crew)) (3, omega arith, refl) (4, omega arith, refl)
  where
    by : (m s : Bool) (e g : Event) → Contains all_kinds e.kind → Contains all_kinds g.kind → AllByRecursion (λ (e : Event). Contains all_kinds e.kind) (cond m (e ∷ []) [] ++ cond s (g ∷ []) [])
    by true true e g first second = (first, (second, tt))
    by true false e g first second = (first, tt)
    by false true e g first second = (second, tt)
    by false false e g first second = tt

waking-told : (a b c : Bool) → (not a && not b && not c) ≡ true → ((not a && not b) ≡ true) × (c ≡ false)
waking-told true b c is = absurd (let wrong : false ≡ true = is in cc)
waking-told false true c is = absurd (let wrong : false ≡ true = is in cc)
waking-told false false true is = absurd (let wrong : false ≡ true = is in cc)
waking-told false false false is = (refl, refl)

-- what is told at a power-on is told in an action, and no interruption
told-of : (n kind : ℕ) → is_told (stage_in n) kind ≡ true → (is_told Acting kind ≡ true) × (n ≡ 0 → (kind == POWER_INTERRUPTION) ≡ false)
told-of zero kind is = let both = waking-told (kind == DRIVING_WITHOUT_CARD) (kind == OVER_SPEEDING) (kind == POWER_INTERRUPTION) is in (both.0, λ here. both.1)
told-of (suc n) kind is = (is, λ here. absurd (omega (arith, here)))

-- A FIND, by the second's course
module _ (log : RunLog) (before : Before) (s : TraceSecond) (n : ℕ) (power : has_power before s ≡ true) (is : IsMoment s (In n)) (up : IsUpTo log s.number (In n)) (f : Find) (here : IsFindAt s (In n) f) (up_later : IsUpTo (and_find log f) s.number (In n)) where
  abbrev later : RunLog
  later = and_find log f

  abbrev at : Phase
  at = In n

  torn-alike : (p : Phase) (sl : Slot) → is_torn_in later s.number p sl ≡ is_torn_in log s.number p sl
  torn-alike p sl = (find-more log f s.number).torn p sl

  found-unless : (p : Phase) (sl : Slot) → finds_here s.number p sl f ≡ false → found_in later s.number p sl ≡ found_in log s.number p sl
  found-unless p sl off = (find-more log f s.number).found p sl ∙ ap (λ (b : Bool). found_in log s.number p sl ++ cond b (f.verdict ∷ []) []) off ∙ append-nil (found_in log s.number p sl)

  found-elsewhere : (p : Phase) (sl : Slot) → same_phase at p ≡ false → found_in later s.number p sl ≡ found_in log s.number p sl
  found-elsewhere p sl far = found-unless p sl
      ((λ i. nat_eq (here.second i) s.number && same_phase (here.begun i) p && same_slot f.slot sl) ∙ (λ i. same-self s.number i && far i && same_slot f.slot sl))

  found-beside : found_in later s.number at (other_slot f.slot) ≡ found_in log s.number at (other_slot f.slot)
  found-beside = found-unless at (other_slot f.slot)
      ((λ i. nat_eq f.second s.number && same_phase (In f.begun) at && slot-apart f.slot i) ∙ and-none (nat_eq f.second s.number && same_phase (In f.begun) at))

  found-own : found_in later s.number at f.slot ≡ found_in log s.number at f.slot ++ f.verdict ∷ []
  found-own = (find-more log f s.number).found at f.slot ∙ ap (λ (b : Bool). found_in log s.number at f.slot ++ cond b (f.verdict ∷ []) [])
      ((λ i. nat_eq (here.second i) s.number && same_phase (here.begun i) at && slot-self f.slot i) ∙ (λ i. same-self s.number i && phase-self at i && true))

  far-off : (m : ℕ) → IsBehind (In m) at → same_phase at (In m) ≡ false
  far-off m lt = not-same n m lt
    where
      not-same : (n m : ℕ) → m < n → nat_eq n m ≡ false
      not-same n m lt = grind (arith, nat_tests)

  same : SameBefore log later s.number at
  same = record { up = up; up_later = up_later; torn = λ m sl behind. torn-alike (In m) sl; found = λ m sl behind. found-elsewhere (In m) sl (far-off m behind) }

  abbrev start : Course
  start = begun_at log before s at

  abbrev moves : Moved
  moves = moved_at log before s at

  abbrev x : Seen
  x = seen_by log before s

  abbrev y : Seen
  y = seen_by later before s

  outs-alike : (sl : Slot) → outs later s.number at moves sl start ≡ outs log s.number at moves sl start
  outs-alike sl = ap (λ (t : Bool). cond t (moves.leaving sl ++ visits at sl start.slots) []) (torn-alike at sl)

  -- of a card that sits there and enters now, of which nothing was found yet
  module _ (sits : Sitting) (there : in_slot (course_at log before s at).slots f.slot ≡ Some sits) (none : found_in log s.number at f.slot ≡ []) (enters : moves.enters f.slot ≡ true) where
    abbrev v : Visit
    v = record { phase = at; slot = f.slot; card = sits.card }

    abbrev e : Visit × Verdict
    e = (v, f.verdict)

    untorn : is_torn_in log s.number at f.slot ≡ false
    untorn = who-sits log before s at f.slot sits there

    visits-are : visits at f.slot start.slots ≡ v ∷ []
    visits-are = ap (map (λ (card : Card). record { phase = at; slot = f.slot; card = card }))
        (sym (cards-kept (is_torn_in log s.number at f.slot) (found_now log s.number at moves f.slot) s.number (in_slot start.slots f.slot) untorn)
        ∙ sym (ap card_in (both-slot log s.number at moves f.slot start)) ∙ ap card_in there)

    own-after : finds later s.number at moves f.slot start ≡ e ∷ []
    own-after =
        ap (flat_map (λ (visit : Visit). map (λ (verdict : Verdict). (visit, verdict)) (found_now later s.number at moves f.slot))) visits-are
        ∙ ap (λ (vs : List Verdict). map (λ (verdict : Verdict). (v, verdict)) vs ++ [])
        (ap (λ (b : Bool). cond b (found_in later s.number at f.slot) []) enters ∙ found-own ∙ ap (λ (vs : List Verdict). vs ++ f.verdict ∷ []) none)

    own-before : finds log s.number at moves f.slot start ≡ []
    own-before =
        ap (λ (vs : List Verdict). flat_map (λ (visit : Visit). map (λ (verdict : Verdict). (visit, verdict)) vs) (visits at f.slot start.slots))
        (ap (λ (vs : List Verdict). cond (moves.enters f.slot) vs []) none ∙ cond-none (moves.enters f.slot))
        ∙ no-pairs (visits at f.slot start.slots)

    other-alike : finds later s.number at moves (other_slot f.slot) start ≡ finds log s.number at moves (other_slot f.slot) start
    other-alike = ap (λ (vs : List Verdict). flat_map (λ (visit : Visit). map (λ (verdict : Verdict). (visit, verdict)) (cond (moves.enters (other_slot f.slot)) vs [])) (visits at (other_slot f.slot) start.slots)) found-beside

    -- at a power-on it comes in its turn
    module _ (t : Tearing) (plain : n ≡ 0 → (sl : Slot) → t.by_gap s.number sl ≡ false) (begun : n ≡ 0 → before.running ≡ false) (bare : n ≡ 0 → AreBare before.slots) (turn : n ≡ 0 → ComesInTurn f.slot log s.number) where
      abbrev xs : List Visit
      xs = outs log s.number at moves Driver start ++ outs log s.number at moves CoDriver start

      abbrev ys : List Visit
      ys = outs later s.number at moves Driver start ++ outs later s.number at moves CoDriver start

      abbrev fs : List (Visit × Verdict)
      fs = finds log s.number at moves Driver start ++ finds log s.number at moves CoDriver start

      abbrev gs : List (Visit × Verdict)
      gs = finds later s.number at moves Driver start ++ finds later s.number at moves CoDriver start

      d : DifferAt at start.torn start.found xs ys fs gs t t x y
      d = differ log later before s at power is same t t (record { by_gap = λ other sl. refl; driver_first = λ m other. refl })

      number-y : number_of y ≡ s.number
      number-y = told-number later before s

      number-x : number_of x ≡ s.number
      number-x = told-number log before s

      -- the other slot's finds: none, but the driver's at a power-on
      beside-none : (m : ℕ) → n ≡ suc m → finds log s.number at moves (other_slot f.slot) start ≡ []
      beside-none m is_n =
          let off : moves.enters (other_slot f.slot) ≡ false =
          subst (λ (k : ℕ). (moved_at log before s (In k)).enters f.slot ≡ true → (moved_at log before s (In k)).enters (other_slot f.slot) ≡ false) (sym is_n)
          (λ enters_now. one-enters m (slice_get s.actions m) s.speed (course_by log before s m) f.slot enters_now) enters in
          ap (λ (b : Bool). flat_map (λ (visit : Visit). map (λ (verdict : Verdict). (visit, verdict)) (cond b (found_in log s.number at (other_slot f.slot)) [])) (visits at (other_slot f.slot) start.slots)) off
          ∙ no-pairs (visits at (other_slot f.slot) start.slots)

      unfound-none : found_in log s.number at (other_slot f.slot) ≡ [] → finds log s.number at moves (other_slot f.slot) start ≡ []
      unfound-none off =
          ap (λ (vs : List Verdict). flat_map (λ (visit : Visit). map (λ (verdict : Verdict). (visit, verdict)) vs) (visits at (other_slot f.slot) start.slots))
          (ap (λ (vs : List Verdict). cond (moves.enters (other_slot f.slot)) vs []) off ∙ cond-none (moves.enters (other_slot f.slot)))
          ∙ no-pairs (visits at (other_slot f.slot) start.slots)

      alone : (finds log s.number at moves (other_slot f.slot) start ≡ []) ⊎ ((n ≡ 0) × (f.slot ≡ CoDriver))
      alone = by n f.slot refl refl
        where
          by : (k : ℕ) (sl : Slot) → n ≡ k → f.slot ≡ sl → (finds log s.number at moves (other_slot f.slot) start ≡ []) ⊎ ((n ≡ 0) × (f.slot ≡ CoDriver))
          by (suc m) sl is_n is_slot = inl (beside-none m is_n)
          by zero CoDriver is_n is_slot = inr (is_n, is_slot)
          by zero Driver is_n is_slot =
              let now : ComesInTurn Driver log s.number = subst (λ (q : Slot). ComesInTurn q log s.number) is_slot (turn is_n) in
              inl (unfound-none ((λ i. found_in log s.number (In (is_n i)) (other_slot (is_slot i))) ∙ now.1))

      first-alone : f.slot ≡ Driver → finds log s.number at moves CoDriver start ≡ []
      first-alone is_slot = ⊎_elim
          (λ gone. ap (λ (q : Slot). finds log s.number at moves (other_slot q) start) (sym is_slot) ∙ gone)
          (λ both. absurd (never (sym is_slot ∙ both.1)))
          alone
        where
          never : Driver ≡ CoDriver → ⊥
          never wrong = absurd (cc)

      found-one : gs ≡ fs ++ e ∷ []
      found-one = only-more f.slot (λ (sl : Slot). finds log s.number at moves sl start) (λ (sl : Slot). finds later s.number at moves sl start) e own-before own-after other-alike first-alone

      found-pushed : y.told.course.found ≡ x.told.course.found ++ e ∷ []
      found-pushed = d.found_y ∙ ap (λ (l : List (Visit × Verdict)). start.found ++ l) found-one ∙ sym (append_assoc start.found fs (e ∷ [])) ∙ ap (λ (l : List (Visit × Verdict)). l ++ e ∷ []) (sym d.found_x)

      pub torn-kept : y.told.course.torn ≡ x.told.course.torn
      torn-kept = d.torn_y ∙ (λ i. start.torn ++ (outs-alike Driver i ++ outs-alike CoDriver i)) ∙ sym d.torn_x

      torn-at : (p : Phase) (sl : Slot) → torn_at y p sl ≡ torn_at x p sl
      torn-at p sl = ap (list_any (λ (w : Visit). same_phase w.phase p && same_slot w.slot sl)) torn-kept

      accepted-beside : (p : Phase) → accepted_at y p (other_slot f.slot) ≡ accepted_at x p (other_slot f.slot)
      accepted-beside p =
          let test : Visit × Verdict → Bool = accepted_here p (other_slot f.slot) in
          let drops : filter test (e ∷ []) ≡ [] = ap (λ (b : Bool). cond (same_phase at p && (b && is_accepting f.verdict)) (e ∷ []) []) (slot-apart f.slot) ∙ ap (λ (b : Bool). cond b (e ∷ []) []) (and-none (same_phase at p)) in
          ap first_card (ap (filter test) found-pushed ∙ filter-append test x.told.course.found (e ∷ []) ∙ ap (λ (l : List (Visit × Verdict)). filter test x.told.course.found ++ l) drops ∙ append-nil (filter test x.told.course.found))

      -- ---- tears: those of the other slot
      abbrev ws : List Visit
      ws = outs log s.number at moves (other_slot f.slot) start

      few-ws : (ws ≡ []) ⊎ (IsBeside at (other_slot f.slot) ws × (is_torn_in log s.number at (other_slot f.slot) ≡ true))
      few-ws = few-torn log s.number at moves (other_slot f.slot) start (few-at log before s at (other_slot f.slot))

      own-out : outs log s.number at moves f.slot start ≡ []
      own-out = ap (λ (b : Bool). cond b (moves.leaving f.slot ++ visits at f.slot start.slots) []) untorn

      xs-are : xs ≡ ws
      xs-are = only-other f.slot (λ (sl : Slot). outs log s.number at moves sl start) own-out

      ys-are : ys ≡ ws
      ys-are = (λ i. outs-alike Driver i ++ outs-alike CoDriver i) ∙ xs-are

      few-alike : (ws ≡ []) ⊎ IsBeside at (other_slot f.slot) ws
      few-alike = few-alone at (other_slot f.slot) ws (is_torn_in log s.number at (other_slot f.slot) ≡ true) few-ws

      untorn-at : torn_at x at f.slot ≡ false
      untorn-at = not-torn at f.slot x start.torn ws (d.torn_x ∙ ap (λ (vs : List Visit). start.torn ++ vs) xs-are) d.torn_before few-alike

      within-alike : (m : ℕ) → n ≡ suc m → y.within (suc m) ≡ x.within (suc m)
      within-alike m is_n = within-same log later before s at power is same (suc m) (λ k lt. subst (λ (q : ℕ). k < q) (sym is_n) lt)

      beside-kept : is_torn_in log s.number at (other_slot f.slot) ≡ true → beside_torn t later y at (other_slot f.slot) ≡ beside_torn t log x at (other_slot f.slot)
      beside-kept torn = by n f.slot refl refl
        where
          by : (k : ℕ) (sl : Slot) → n ≡ k → f.slot ≡ sl → beside_torn t later y at (other_slot f.slot) ≡ beside_torn t log x at (other_slot f.slot)
          by (suc m) sl is_n is_slot =
              (λ i. beside_torn t later y (In (is_n i)) (other_slot f.slot))
              ∙ (λ i. cond (torn-at (In (suc m)) (other_slot (other_slot f.slot)) i && not (is_first t (d.number i) (suc m) (other_slot f.slot))) None (accepted_card (in_slot (within-alike m is_n i) (other_slot (other_slot f.slot)))))
              ∙ sym (λ i. beside_torn t log x (In (is_n i)) (other_slot f.slot))
          by zero Driver is_n is_slot =
              let now : ComesInTurn Driver log s.number = subst (λ (q : Slot). ComesInTurn q log s.number) is_slot (turn is_n) in
              absurd (let wrong : true ≡ false = sym torn ∙ (λ i. is_torn_in log s.number (In (is_n i)) (other_slot (is_slot i))) ∙ now.0 in cc)
          by zero CoDriver is_n is_slot =
              (λ i. beside_torn t later y (In (is_n i)) (other_slot (is_slot i)))
              ∙ ap (λ (b : Bool). cond b (standing t y CoDriver) None) (ap (λ (u : ℕ). t.by_gap u Driver) number-y ∙ plain is_n Driver)
              ∙ sym (ap (λ (b : Bool). cond b (standing t x CoDriver) None) (ap (λ (u : ℕ). t.by_gap u Driver) number-x ∙ plain is_n Driver))
              ∙ sym (λ i. beside_torn t log x (In (is_n i)) (other_slot (is_slot i)))

      abbrev fault_beside : ℕ → Slot → Option Card → Event
      fault_beside u sl o = noted_with CARD_FAULT u u (with_card (other_slot sl) o (record { driver = None; codriver = None }))

      fault-kept : (w : Visit) → w.phase ≡ at → w.slot ≡ other_slot f.slot → is_torn_in log s.number at (other_slot f.slot) ≡ true → fault_of t later y w ≡ fault_of t log x w
      fault-kept w phase_is slot_is torn =
          let beside : beside_torn t later y w.phase w.slot ≡ beside_torn t log x w.phase w.slot =
          (λ i. beside_torn t later y (phase_is i) (slot_is i)) ∙ beside-kept torn ∙ sym (λ i. beside_torn t log x (phase_is i) (slot_is i)) in
          λ i. fault_beside (d.number i) w.slot (beside i)

      faults-kept : faults_by t later y ≡ faults_by t log x ++ []
      faults-kept = faults-then at start.torn start.found xs ys fs gs t t x y d log later []
          (ap (λ (vs : List Visit). map (fault_of t later y) (torn_in_turn t y vs)) ys-are
          ∙ ap (map (fault_of t later y)) (turn-few t y at (other_slot f.slot) ws few-alike)
          ∙ map-few (fault_of t later y) (fault_of t log x) at (other_slot f.slot) ws (is_torn_in log s.number at (other_slot f.slot) ≡ true) few-ws fault-kept
          ∙ sym (ap (map (fault_of t log x)) (turn-few t x at (other_slot f.slot) ws few-alike))
          ∙ sym (ap (λ (vs : List Visit). map (fault_of t log x) (torn_in_turn t x vs)) xs-are)
          ∙ sym (append-nil (map (fault_of t log x) (torn_in_turn t x xs))))

      -- ---- the cards beside it
      pub slots-beside : in_slot (course_at later before s at).slots (other_slot f.slot) ≡ in_slot (course_at log before s at).slots (other_slot f.slot)
      slots-beside =
          (λ i. in_slot (both_told later s.number at (moved-same log later before s at power is same i) (begun-same log later before s at power is same i)).slots (other_slot f.slot))
          ∙ both-slot later s.number at moves (other_slot f.slot) start
          ∙ (λ i. told_slot (torn-alike at (other_slot f.slot) i) (cond (moves.enters (other_slot f.slot)) (found-beside i) []) s.number (in_slot start.slots (other_slot f.slot)))
          ∙ sym (both-slot log s.number at moves (other_slot f.slot) start)

      beside-is : beside_judged t y at f.slot ≡ accepted_card (in_slot (course_at log before s at).slots (other_slot f.slot))
      beside-is = by n f.slot refl refl
        where
          by : (k : ℕ) (sl : Slot) → n ≡ k → f.slot ≡ sl → beside_judged t y at f.slot ≡ accepted_card (in_slot (course_at log before s at).slots (other_slot f.slot))
          by (suc m) sl is_n is_slot =
              let le : suc m ≤ length s.actions = subst (λ (k : ℕ). k ≤ length s.actions) is_n is in
              (λ i. beside_judged t y (In (is_n i)) f.slot)
              ∙ ap (λ (c : Course). accepted_card (in_slot c.slots (other_slot f.slot))) (at-by later before s up_later.uncut (suc m) le)
              ∙ (λ i. accepted_card (in_slot (course_at later before s (In (sym is_n i))).slots (other_slot f.slot)))
              ∙ ap accepted_card slots-beside
          by zero Driver is_n is_slot =
              let now : ComesInTurn Driver log s.number = subst (λ (q : Slot). ComesInTurn q log s.number) is_slot (turn is_n) in
              let slot_is : in_slot (course_at log before s at).slots (other_slot f.slot) ≡ told_slot (is_torn_in log s.number at (other_slot f.slot)) (found_now log s.number at moves (other_slot f.slot)) s.number (in_slot start.slots (other_slot f.slot)) =
              both-slot log s.number at moves (other_slot f.slot) start in
              let off : is_torn_in log s.number at (other_slot f.slot) ≡ false = (λ i. is_torn_in log s.number (In (is_n i)) (other_slot (is_slot i))) ∙ now.0 in
              let unfound : found_now log s.number at moves (other_slot f.slot) ≡ [] =
              ap (λ (vs : List Verdict). cond (moves.enters (other_slot f.slot)) vs []) ((λ i. found_in log s.number (In (is_n i)) (other_slot (is_slot i))) ∙ now.1) ∙ cond-none (moves.enters (other_slot f.slot)) in
              let sat : in_slot start.slots (other_slot f.slot) ≡ before.slots.codriver = λ i. in_slot (begun_at log before s (In (is_n i))).slots (other_slot (is_slot i)) in
              (λ i. beside_judged t y (In (is_n i)) (is_slot i))
              ∙ sym (ap accepted_card (slot_is ∙ (λ i. told_slot (off i) (unfound i) s.number (sat i))) ∙ bare-card before.slots.codriver (bare is_n).codriver)
          by zero CoDriver is_n is_slot =
              (λ i. beside_judged t y (In (is_n i)) (is_slot i))
              ∙ stands-as later before s power (subst (λ (k : ℕ). IsUpTo later s.number (In k)) is_n up_later) (begun is_n) (bare is_n) t Driver (plain is_n Driver)
              ∙ (λ i. accepted_card (in_slot (course_at later before s (In (sym is_n i))).slots (other_slot (sym is_slot i))))
              ∙ ap accepted_card slots-beside

      crew-is : (own : Option Card) → crew_judged t y v own ≡ with_card f.slot own (crew_of (course_at log before s at).slots)
      crew-is own =
          ap (λ (o : Option Card). with_card f.slot own (with_card (other_slot f.slot) o (record { driver = None; codriver = None }))) beside-is
          ∙ crew-beside f.slot own (course_at log before s at).slots

      -- ---- finds
      judged-are : (session : ℕ) (verdict : Verdict) → judged_notes session t y v verdict ≡ judged_with session s.number s.speed f.slot sits.card (crew_of (course_at log before s at).slots) verdict
      judged-are session (NotValid fid place) = λ i. noted_with CARD_NOT_VALID (number-y i) (number-y i) (crew-is None i) ∷ []
      judged-are session (TimeOverlap stored now) = λ i. noted_with TIME_OVERLAP (number-y i) stored (crew-is None i) ∷ []
      judged-are session (Accepted replayed) = λ i.
          cond (nat_lt 0 (told-speed later before s power i)) (noted_with INSERTION_WHILE_DRIVING (number-y i) (number-y i) (crew-is (Some sits.card) i) ∷ []) []
          ++ cond (nat_lt 0 session) (noted_with SESSION_NOT_CLOSED session (number-y i) (crew-is (Some sits.card) i) ∷ []) []

      module _ (own : ℕ → Visit → ℕ) (session : ℕ) where
        abbrev own_then : ℕ → Visit → ℕ
        own_then = with_session own at f.slot session

        abbrev es : List Event
        es = judged_with session s.number s.speed f.slot sits.card (crew_of (course_at log before s at).slots) f.verdict

        own-now : (u : ℕ) → own_then u v ≡ session
        own-now u = (λ i. cond (phase-self at i && slot-self f.slot i) session (own u v))

        own-kept : (u : ℕ) (w : Visit) → (same_phase w.phase at && same_slot w.slot f.slot) ≡ false → own_then u w ≡ own u w
        own-kept u w off = ap (λ (b : Bool). cond b session (own u w)) off

        abbrev found_y : (kind : ℕ) → Visit × Verdict → List Event
        found_y kind g = found_events kind (own_then (number_of y) g.0) t y g.0 g.1

        abbrev found_x : (kind : ℕ) → Visit × Verdict → List Event
        found_x kind g = found_events kind (own (number_of x) g.0) t x g.0 g.1

        -- the driver's at a power-on, if there was one
        abbrev IsDriverOn : Visit × Verdict → Type 0
        IsDriverOn g = (g.0.phase ≡ In 0) × (g.0.slot ≡ Driver) × IsApart at f.slot g

        driver-on : (k : Phase) (vs : List Verdict) (o : Option Sitting) → k ≡ In 0 → f.slot ≡ CoDriver → AllByRecursion IsDriverOn (flat_map (λ (visit : Visit). map (λ (verdict : Verdict). (visit, verdict)) vs) (map (λ (card : Card). record { phase = k; slot = other_slot f.slot; card = card }) (card_in o)))
        driver-on k vs None is_k is_slot = tt
        driver-on k vs (Some c) is_k is_slot = all-both IsDriverOn (map (λ (verdict : Verdict). (record { phase = k; slot = other_slot f.slot; card = c.card }, verdict)) vs) [] (by vs) tt
          where
            by : (vs : List Verdict) → AllByRecursion IsDriverOn (map (λ (verdict : Verdict). (record { phase = k; slot = other_slot f.slot; card = c.card }, verdict)) vs)
            by [] = tt
            by (verdict ∷ vs) = ((is_k, ap other_slot is_slot, ap (λ (b : Bool). same_phase k at && b) (slot-beside f.slot) ∙ and-none (same_phase k at)), by vs)

        stays-flat : (kind : ℕ) (l : List (Visit × Verdict)) → AllByRecursion IsDriverOn l → flat_map (found_y kind) l ≡ flat_map (found_x kind) l
        stays-flat kind [] all = refl
        stays-flat kind (g ∷ l) all = λ i. one i ++ stays-flat kind l all.1 i
          where
            crew-kept : (o : Option Card) → crew_judged t y g.0 o ≡ crew_judged t x g.0 o
            crew-kept o = ap (λ (c : Option Card). with_card g.0.slot o (with_card (other_slot g.0.slot) c (record { driver = None; codriver = None })))
                ((λ i. beside_judged t y (all.0.0 i) (all.0.1 i)) ∙ sym (λ i. beside_judged t x (all.0.0 i) (all.0.1 i)))

            one : found_y kind g ≡ found_x kind g
            one =
                ap (λ (k : ℕ). found_events kind k t y g.0 g.1) (own-kept (number_of y) g.0 all.0.2 ∙ ap (λ (u : ℕ). own u g.0) d.number)
                ∙ events-as at start.torn start.found xs ys fs gs t t x y d kind (own (number_of x) g.0) g.0 g.1 crew-kept

        fs-stay : (kind : ℕ) → flat_map (found_y kind) fs ≡ flat_map (found_x kind) fs
        fs-stay kind = ⊎_elim
            (λ (gone : finds log s.number at moves (other_slot f.slot) start ≡ []).
            let none_at_all : fs ≡ [] = only-pairs f.slot (λ (sl : Slot). finds log s.number at moves sl start) own-before gone in
            ap (flat_map (found_y kind)) none_at_all ∙ sym (ap (flat_map (found_x kind)) none_at_all))
            (λ both.
            let are : fs ≡ finds log s.number at moves (other_slot f.slot) start = only-one f.slot (λ (sl : Slot). finds log s.number at moves sl start) own-before in
            let all : AllByRecursion IsDriverOn fs = subst (AllByRecursion IsDriverOn) (sym are) (driver-on at (found_now log s.number at moves (other_slot f.slot)) (in_slot start.slots (other_slot f.slot)) (ap In both.0) both.1) in
            stays-flat kind fs all)
            alone
          where
            only-pairs : (slot : Slot) (out : Slot → List (Visit × Verdict)) → out slot ≡ [] → out (other_slot slot) ≡ [] → out Driver ++ out CoDriver ≡ []
            only-pairs Driver out a b = λ i. a i ++ b i
            only-pairs CoDriver out a b = λ i. b i ++ a i

            only-one : (slot : Slot) (out : Slot → List (Visit × Verdict)) → out slot ≡ [] → out Driver ++ out CoDriver ≡ out (other_slot slot)
            only-one Driver out none_own = ap (λ (l : List (Visit × Verdict)). l ++ out CoDriver) none_own
            only-one CoDriver out none_own = ap (λ (l : List (Visit × Verdict)). out Driver ++ l) none_own ∙ append-nil (out Driver)

        one-brings : (kind : ℕ) → found_y kind e ≡ by_kind es kind
        one-brings kind =
            ap (λ (k : ℕ). found_events kind k t y v f.verdict) (own-now (number_of y))
            ∙ sym (one-judged 0 (λ u w. 0) t later [] y kind session v f.verdict)
            ∙ ap (λ (l : List Event). by_kind l kind) (judged-are session f.verdict)

        found-more : (kind : ℕ) → found_by kind own_then t y ≡ found_by kind own t x ++ by_kind es kind
        found-more kind = found-then at start.torn start.found xs ys fs gs t t x y d log later kind own own_then
            (λ w former. own-kept (number_of y) w (ap (λ (b : Bool). b && same_slot w.slot f.slot) (former-other at w former)) ∙ ap (λ (u : ℕ). own u w) d.number)
            (by_kind es kind)
            (ap (flat_map (found_y kind)) found-one ∙ flat_map-append (found_y kind) fs (e ∷ [])
            ∙ (λ i. fs-stay kind i ++ append-nil (found_y kind e) i)
            ∙ ap (λ (l : List Event). flat_map (found_x kind) fs ++ l) (one-brings kind))

        -- ---- the interruption
        gap-kept : (n ≡ 0 → ⊥) → (spans : List (List Seen)) → gap_by t later spans y ≡ gap_by t log spans x
        gap-kept acts spans =
            let apart : same_phase at (In 0) ≡ false = not-zero n acts in
            let stands : (sl : Slot) → standing t y sl ≡ standing t x sl = λ sl. stands-same at start.torn start.found xs ys fs gs t t x y d sl apart in
            let lit : y.told.lit ≡ x.told.lit = (lit-told later before s power).lit ∙ sym (lit-told log before s power).lit in
            let starts : y.told.starts ≡ x.told.starts = (lit-told later before s power).starts ∙ sym (lit-told log before s power).starts in
            λ i. cond (lit i) (cond (starts i) (before-as t t log later x y (λ u. (find-more log f u).kept) d.number stands spans i) []) []
          where
            not-zero : (n : ℕ) → (n ≡ 0 → ⊥) → nat_eq n 0 ≡ false
            not-zero zero acts = absurd (acts refl)
            not-zero (suc n) acts = grind (arith, nat_tests)

        pub brings : (kind limit : ℕ) (spans : List (List Seen)) → is_told (stage_in n) kind ≡ true → second_events kind limit own_then t later spans y ≡ second_events kind limit own t log spans x ++ by_kind es kind
        brings kind limit spans told =
            let both = told-of n kind told in
            kinds-then (kind == DRIVING_WITHOUT_CARD) (kind == OVER_SPEEDING) (kind == POWER_INTERRUPTION) (kind == CARD_FAULT)
            (cond x.told.lit (bares_by (span_before spans x) (x ∷ [])) []) (cond x.told.lit (overs_by limit (span_before spans x) (x ∷ [])) []) (gap_by t log spans x) (faults_by t log x) (found_by kind own t x)
            (cond y.told.lit (bares_by (span_before spans y) (y ∷ [])) []) (cond y.told.lit (overs_by limit (span_before spans y) (y ∷ [])) []) (gap_by t later spans y) (faults_by t later y) (found_by kind own_then t y)
            (by_kind es kind) both.0
            (λ is_gap. gap-kept (λ zero_is. absurd (let wrong : true ≡ false = sym is_gap ∙ both.1 zero_is in cc)) spans ∙ sym (append-nil (gap_by t log spans x))
            ∙ ap (λ (l : List Event). gap_by t log spans x ++ l) (sym (ap (by_kind es) (eqb-true kind POWER_INTERRUPTION is_gap) ∙ none-of-them 0x08 refl refl refl refl)))
            (λ no_gap is_fault. faults-kept ∙ ap (λ (l : List Event). faults_by t log x ++ l) (sym (ap (by_kind es) (eqb-true kind CARD_FAULT is_fault) ∙ none-of-them 0x40 refl refl refl refl)))
            (λ no_gap no_fault. found-more kind)
          where
            none-of-them : (k : ℕ) → nat_eq CARD_NOT_VALID k ≡ false → nat_eq TIME_OVERLAP k ≡ false → nat_eq INSERTION_WHILE_DRIVING k ≡ false → nat_eq SESSION_NOT_CLOSED k ≡ false → by_kind es k ≡ []
            none-of-them = judged-none session s.number s.speed f.slot sits.card (crew_of (course_at log before s at).slots) f.verdict

        -- what was found before is of other cards
        pub apart-all : AllByRecursion (IsApart at f.slot) x.told.course.found
        apart-all = subst (AllByRecursion (IsApart at f.slot)) (sym d.found_x)
            (all-both (IsApart at f.slot) start.found fs (formers-apart at f.slot start.found d.found_before)
            (only-apart at f.slot (λ (sl : Slot). finds log s.number at moves sl start) own-before
            (beside-apart at f.slot (found_now log s.number at moves (other_slot f.slot)) (in_slot start.slots (other_slot f.slot)))))

        -- the session times so far, and this one where it is accepted
        pub opens-in : (c : Card) → opened_in c own_then y.told ≡ opened_in c own x.told ++ cond (same_card sits.card c) (cond (is_accepting f.verdict) (session ∷ []) []) []
        opens-in c =
            ap (λ (u : ℕ). flat_map (λ (g : Visit × Verdict). cond (same_card c g.0.card && is_accepting g.1) (own_then u g.0 ∷ []) []) y.told.course.found) number-y
            ∙ ap (flat_map (λ (g : Visit × Verdict). cond (same_card c g.0.card && is_accepting g.1) (own_then s.number g.0 ∷ []) [])) found-pushed
            ∙ flat_map-append (λ (g : Visit × Verdict). cond (same_card c g.0.card && is_accepting g.1) (own_then s.number g.0 ∷ []) []) x.told.course.found (e ∷ [])
            ∙ (λ i. former x.told.course.found apart-all i ++ (append-nil (cond (same_card c sits.card && is_accepting f.verdict) (own_then s.number v ∷ []) []) ∙ last) i)
            ∙ ap (λ (u : ℕ). flat_map (λ (g : Visit × Verdict). cond (same_card c g.0.card && is_accepting g.1) (own u g.0 ∷ []) []) x.told.course.found ++ cond (same_card sits.card c) (cond (is_accepting f.verdict) (session ∷ []) []) []) (sym number-x)
          where
            former : (fs : List (Visit × Verdict)) → AllByRecursion (IsApart at f.slot) fs →
                flat_map (λ (g : Visit × Verdict). cond (same_card c g.0.card && is_accepting g.1) (own_then s.number g.0 ∷ []) []) fs ≡ flat_map (λ (g : Visit × Verdict). cond (same_card c g.0.card && is_accepting g.1) (own s.number g.0 ∷ []) []) fs
            former [] all = refl
            former (g ∷ fs) all = λ i. cond (same_card c g.0.card && is_accepting g.1) (own-kept s.number g.0 all.0 i ∷ []) [] ++ former fs all.1 i

            split : (a b : Bool) → cond (a && b) (session ∷ []) [] ≡ cond a (cond b (session ∷ []) []) []
            split true b = refl
            split false b = refl

            last : cond (same_card c sits.card && is_accepting f.verdict) (own_then s.number v ∷ []) [] ≡ cond (same_card sits.card c) (cond (is_accepting f.verdict) (session ∷ []) []) []
            last =
                ap (λ (k : ℕ). cond (same_card c sits.card && is_accepting f.verdict) (k ∷ []) []) (own-now s.number)
                ∙ split (same_card c sits.card) (is_accepting f.verdict)
                ∙ ap (λ (b : Bool). cond b (cond (is_accepting f.verdict) (session ∷ []) []) []) (card-turned c sits.card)

        pub opens : (P : Visit × Verdict → ℕ → Type 0) → ((g : Visit × Verdict) → Contains x.told.course.found g → is_accepting g.1 ≡ true → P g (own s.number g.0)) → (is_accepting f.verdict ≡ true → P e session) →
            (g : Visit × Verdict) → Contains y.told.course.found g → is_accepting g.1 ≡ true → P g (own_then s.number g.0)
        opens P old new g among accepts = ⊎_elim
            (λ (was : Contains x.told.course.found g). subst (P g) (sym (own-kept s.number g.0 (each-of (IsApart at f.slot) x.told.course.found g apart-all was))) (old g was accepts))
            (λ (one : e ≡ g). subst (λ (h : Visit × Verdict). P h (own_then s.number h.0)) one (subst (P e) (sym (own-now s.number)) (new (subst (λ (h : Visit × Verdict). is_accepting h.1 ≡ true) (sym one) accepts))))
            (Contains-push_cases x.told.course.found e g (subst (λ (l : List (Visit × Verdict)). Contains l g) found-pushed among))

      -- ---- the choice fits
      pub fits : FitsSoFar (stage_in n) s t x → FitsSoFar (stage_in n) s t y
      fits was = by n refl
        where
          by : (k : ℕ) → n ≡ k → FitsSoFar (stage_in n) s t y
          by (suc m) is_n =
              let apart : same_phase at (In 0) ≡ false = subst (λ (k : ℕ). nat_eq k 0 ≡ false) (sym is_n) (suc-apart m) in
              record {
                put_in = was.put_in;
                still = λ sl rest torn accepted. was.still sl rest (sym (torn-at (In 0) sl) ∙ torn) (sym (ap is_some (accepted-same at start.torn start.found xs ys fs gs t t x y d (In 0) sl apart)) ∙ accepted);
                before = λ sl nobody. was.before sl (sym (accepted-same at start.torn start.found xs ys fs gs t t x y d (In 0) sl apart) ∙ nobody);
                waking = was.waking;
              }
            where
              suc-apart : (m : ℕ) → nat_eq (suc m) 0 ≡ false
              suc-apart m = grind (arith, nat_tests)
          by zero is_n = record {
            put_in = was.put_in;
            still = λ sl rest torn accepted. ⊎_elim
                (λ (own_slot : sl ≡ f.slot). absurd (let wrong : true ≡ false = sym torn ∙ torn-at (In 0) sl ∙ (λ i. torn_at x (In (sym is_n i)) (own_slot i)) ∙ untorn-at in cc))
                (λ (beside : sl ≡ other_slot f.slot). was.still sl rest (sym (torn-at (In 0) sl) ∙ torn)
                (ap is_some (ap (accepted_at x (In 0)) beside ∙ sym (accepted-beside (In 0)) ∙ sym (ap (accepted_at y (In 0)) beside)) ∙ accepted))
                (slot-cases sl f.slot);
            before = λ sl nobody. plain is_n sl;
            waking = was.waking;
          }

-- THE LAW
pub find-adds : (dev : Devices) → AFindAdds dev
find-adds dev o done p span s b n log r f here first sits there none enters session found_open finds = record {
  kinds = judged-kinds session s.number s.speed f.slot sits.card (crew_at p done s (In n) log) f.verdict;
  on = λ more v.
      let before : Before = (went p.log done).before in
      let later : RunLog = and_find log f in
      let r_later : Reaches p s (In n) later = (lines-reached p s (In n) log r).1 f here in
      let power : has_power before s ≡ true = power-now o done p span s b in
      let es : List Event = judged_with session s.number s.speed f.slot sits.card (crew_at p done s (In n) log) f.verdict in
      let was : FitsSoFar (stage_in n) s v.here (seen_by log before s) = fits-now o done p span s b (stage_in n) log later r.goes r_later.goes dev more es v in
      let plain : n ≡ 0 → (sl : Slot) → v.here.by_gap s.number sl ≡ false = λ is_n. was.waking (ap stage_in is_n) in
      let begun : n ≡ 0 → before.running ≡ false = λ is_n. comes before.running (subst (λ (k : ℕ). (moved_at log before s (In k)).enters f.slot ≡ true) is_n enters) in
      let bare : n ≡ 0 → AreBare before.slots = λ is_n. (first is_n).0 in
      let turn : n ≡ 0 → ComesInTurn f.slot log s.number = λ is_n. (first is_n).1 in
      added o done p span s b (stage_in n) log later r.goes r_later.goes dev more es v v.here (with_session v.own (In n) f.slot session)
      (λ kind among told. brings log before s n power r.is r.up_to f here r_later.up_to sits there none enters v.here plain begun bare turn v.own session kind (limit_in o) (seen_spans (seen_of p.log done)) told)
      (aside n es (judged-none session s.number s.speed f.slot sits.card (crew_at p done s (In n) log) f.verdict))
      (fits log before s n power r.is r.up_to f here r_later.up_to sits there none enters v.here plain begun bare turn was)
      (opens log before s n power r.is r.up_to f here r_later.up_to sits there none enters v.here plain begun bare turn v.own session
      (λ g k. IsOpenSo o (went p.log done).told (done ++ s ∷ []) dev g.0.card s.number k) (open-now o done p span s b (stage_in n) log later r.goes r_later.goes dev more es v) found_open)
      (λ c none_failed valid.
      let same_torn = torn-kept log before s n power r.is r.up_to f here r_later.up_to sits there none enters v.here plain begun bare turn in
      let none_before : NoneFailedOn o log (told_so_far p.log done log s) c = failed-fewer o c log later [] (told_so_far p.log done log s) (told_so_far p.log done later s) (sym (append-nil log.breaks))
      (torn-next c (went p.log done).told (second_told log before s) (second_told later before s) (stay-alike (second_told log before s).course.torn (second_told later before s).course.torn same_torn)) none_failed in
      let now : List ℕ = cond (same_card sits.card c) (cond (is_accepting f.verdict) (session ∷ []) []) [] in
      ap (λ (us : List ℕ). times_of (uses_in o c (notes_in p.log done)) ++ us)
      (opens-in log before s n power r.is r.up_to f here r_later.up_to sits there none enters v.here plain begun bare turn v.own session c)
      ∙ sym (append_assoc (times_of (uses_in o c (notes_in p.log done))) (opened_in c v.own (seen_by log before s).told) now)
      ∙ ap (λ (us : List ℕ). us ++ now) (exact-by o done p span s b log r.goes v.own v.exact_now c none_before valid)
      ∙ ap (λ (b : Bool). times_of (uses_in o c (notes_now p.log done log s)) ++ cond b (cond (is_accepting f.verdict) (session ∷ []) []) []) (sym (card-turned c sits.card))
      ∙ sym (finds c none_before valid));
}
  where
    comes : (running : Bool) → not running ≡ true → running ≡ false
    comes true is = absurd (let wrong : false ≡ true = is in cc)
    comes false is = refl

    aside : (n : ℕ) (es : List Event) → ((k : ℕ) → nat_eq CARD_NOT_VALID k ≡ false → nat_eq TIME_OVERLAP k ≡ false → nat_eq INSERTION_WHILE_DRIVING k ≡ false → nat_eq SESSION_NOT_CLOSED k ≡ false → by_kind es k ≡ []) →
        (kind : ℕ) → Contains all_kinds kind → is_told (stage_in n) kind ≡ false → by_kind es kind ≡ []
    aside zero es none_of = aside-waking es (none_of 0x04 refl refl refl refl) (none_of 0x07 refl refl refl refl) (none_of 0x08 refl refl refl refl)
    aside (suc n) es none_of = aside-acting es (none_of 0x04 refl refl refl refl) (none_of 0x07 refl refl refl refl)
