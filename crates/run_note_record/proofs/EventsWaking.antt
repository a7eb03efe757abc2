-- At a power-on: a card is torn out as it is judged, and the interruption is noted.
use Rattle.std.proofs.Common.{◌≡◌, ◌⊎◌, inl, inr, ⊎_elim, ℕ, suc, ◌≤◌, Bool, true, false, cond, not, ◌&&◌, ◌||◌, Option, Some, None, List, [], ◌∷◌, ◌++◌, Contains, map, filter, length, nat_eq, is_some, refl, ap, sym, subst, ◌∙◌, arith, append-nil, append_assoc}
use Rattle.std.specs.Prelude.{◌==◌, flat_map, option_map, option_to_list}
use Rattle.std.specs.List.{AllByRecursion, list_any}
use Rattle.std.proofs.lemmas.Bool.{eqb-true, eqb-false}
use Rattle.std.proofs.lemmas.List.{map-append}
use Rattle.std.proofs.lemmas.List.Folds.{list_any-append}
use Rattle.std.proofs.lemmas.Grind.{flat_map-append}
use Rattle.run_events.specs.activity_codec.declared.values.Slot.{Slot}
use Rattle.run_events.specs.activity_codec.declared.values.Slot.TheVariants.{Driver, CoDriver}
use Rattle.run_events.specs.activity_codec.Activity.{same_slot}
use Rattle.run_devices.specs.trace_model.declared.Card.{Card}
use Rattle.run_devices.specs.trace_model.Trace.{TraceSecond}
use Rattle.run_devices.specs.log_model.declared.lines.Break.{Break}
use Rattle.run_devices.specs.log_model.declared.lines.Verdict.{Verdict}
use Rattle.run_devices.specs.log_model.Log.{RunLog, Phase, In, same_phase, kept_by, kept_after, is_torn_in, found_in, is_accepting}
use Rattle.run_devices.specs.log_model.Slots.{Slots, Sitting, in_slot, other_slot}
use Rattle.run_devices.specs.log_model.Course.{Visit, Course, Before, Moved, card_in, visits, has_power, went}
use Rattle.run_devices.specs.event_model.declared.kinds.TheConstants.{DRIVING_WITHOUT_CARD, OVER_SPEEDING, POWER_INTERRUPTION, CARD_FAULT}
use Rattle.run_devices.specs.event_model.declared.entries.Span.{Span}
use Rattle.run_devices.specs.event_model.Spans.{gap_of}
use Rattle.run_devices.specs.event_model.Events.{Event, Crew, Seen, Tearing, number_of, last_number, noted_with, crew_of, with_card, accepted_card, seen_by, seen_of, seen_spans, torn_at, first_card, accepted_at, standing, beside_judged, found_events, beside_torn, fault_of, is_codriver_first, torn_in_turn}
use Rattle.run_devices.specs.safety_model.Safe.{Devices}
use Rattle.run_events.specs.unit_events.Shown.{all_kinds}
use Rattle.run_devices.specs.run_course.Moments.{and_break}
use Rattle.run_devices.specs.run_course.Followed.{Progress}
use Rattle.run_devices.proofs.run_course.Lookups.{break-more}
use Rattle.run_devices.proofs.run_course.Told.{lit-told}
use Rattle.run_devices.specs.run_course.Reached.{IsUpTo, Reaches, begun_at, moved_at, course_at, IsTearAt}
use Rattle.run_devices.proofs.run_course.Reached.{lines-reached}
use Rattle.run_devices.proofs.run_course.Lines.{who-sits}
use Rattle.run_events.specs.Shown.{by_kind}
use Rattle.run_events.specs.Seconds.{last_of, span_before, bares_by, overs_by, gap_before, gap_by, faults_by, found_by, second_events}
use Rattle.run_events.proofs.Later.{told-number}
use Rattle.run_events.proofs.Notes.{OfKind, of-itself, of-other}
use Rattle.run_devices.specs.run_promise.Origin.{Origin}
use Rattle.run_note_record.specs.Evented.{limit_in, brought_now}
use Rattle.run_note_record.specs.Noting.{Stage, Waking, Acting, is_told}
use Rattle.run_note_record.specs.EventsSoFar.{FitsSoFar, SoFar, BeginsNow, AreBare, ComesInTurn, fault_with, crew_at, interruption, AWakingTearAdds, FallsAt, AnInterruptionAdds}
use Rattle.run_note_record.proofs.Fronts.{DifferAt, events-as}
use Rattle.run_note_record.proofs.Parts.{outs, found_now, finds}
use Rattle.run_note_record.proofs.Brought.{differ, faults-then, found-then}
use Rattle.run_note_record.proofs.Bringing.{kinds-then, one-of, none-of, not-fault, before-as, brought-as, crew-left, paired, IsOf, finds-of, flat-stays, torn-beside, found-same, same, outs-own, outs-none, outs-other, few-others, finds-same}
use Rattle.run_note_record.proofs.Tearing.{and-none, same-self, slot-self, slot-apart, told_slot, both-slot, IsBeside, FirstBeside, turn-second, turn-few, only-other, few-alone, few-first, map-few}
use Rattle.run_note_record.proofs.Stood.{untorn-slot, stands-as, accepted-as, bare-as}
use Rattle.run_note_record.proofs.Noting.{by-more, bool-or}
use Rattle.run_note_record.proofs.UsesSoFar.{tear-uses, tear-stays}
use Rattle.run_note_record.proofs.Adding.{power-now, starts-now, fits-now, open-now, exact-still, added, aside-acting, aside-waking}

slot-cases : (sl slot : Slot) → (sl ≡ slot) ⊎ (sl ≡ other_slot slot)
slot-cases Driver Driver = inl refl
slot-cases Driver CoDriver = inr refl
slot-cases CoDriver Driver = inr refl
slot-cases CoDriver CoDriver = inl refl

-- a slot's own are among those of both
any-of : (test : Visit → Bool) (slot : Slot) (out : Slot → List Visit) → list_any test (out slot) ≡ false → list_any test (out Driver ++ out CoDriver) ≡ list_any test (out (other_slot slot))
any-of test Driver out none = list_any-append test (out Driver) (out CoDriver) ∙ ap (λ (b : Bool). b || list_any test (out CoDriver)) none
any-of test CoDriver out none = list_any-append test (out Driver) (out CoDriver) ∙ ap (λ (b : Bool). list_any test (out Driver) || b) none ∙ or-none (list_any test (out Driver))
  where
    or-none : (b : Bool) → (b || false) ≡ b
    or-none true = refl
    or-none false = refl

-- A TEAR AT A POWER-ON, by the second's course
module _ (log : RunLog) (before : Before) (s : TraceSecond) (power : has_power before s ≡ true) (up : IsUpTo log s.number (In 0)) (slot : Slot) (card : Card) (b : Break) (tear : IsTearAt s (In 0) slot true b) (up_later : IsUpTo (and_break log b) s.number (In 0))
    (untorn : is_torn_in log s.number (In 0) slot ≡ false) where
  zero-low : 0 ≤ length s.actions
  zero-low = omega arith

  abbrev later : RunLog
  later = and_break log b

  abbrev x : Seen
  x = seen_by log before s

  abbrev y : Seen
  y = seen_by later before s

  abbrev start : Course
  start = begun_at log before s (In 0)

  abbrev moves : Moved
  moves = moved_at log before s (In 0)

  abbrev v : Visit
  v = record { phase = In 0; slot = slot; card = card }

  abbrev ws : List Visit
  ws = outs log s.number (In 0) moves (other_slot slot) start

  number-x : number_of x ≡ s.number
  number-x = told-number log before s

  number-y : number_of y ≡ s.number
  number-y = told-number later before s

  abbrev xs : List Visit
  xs = outs log s.number (In 0) moves Driver start ++ outs log s.number (In 0) moves CoDriver start

  abbrev ys : List Visit
  ys = outs later s.number (In 0) moves Driver start ++ outs later s.number (In 0) moves CoDriver start

  abbrev fs : List (Visit × Verdict)
  fs = finds log s.number (In 0) moves Driver start ++ finds log s.number (In 0) moves CoDriver start

  abbrev gs : List (Visit × Verdict)
  gs = finds later s.number (In 0) moves Driver start ++ finds later s.number (In 0) moves CoDriver start

  few : (ws ≡ []) ⊎ (IsBeside (In 0) (other_slot slot) ws × (is_torn_in log s.number (In 0) (other_slot slot) ≡ true))
  few = few-others log before s (In 0) power zero-low up slot card true b tear up_later untorn

  slots-beside : in_slot (course_at later before s (In 0)).slots (other_slot slot) ≡ in_slot (course_at log before s (In 0)).slots (other_slot slot)
  slots-beside =
      both-slot later s.number (In 0) moves (other_slot slot) start
      ∙ (λ i. told_slot (torn-beside log before s (In 0) power zero-low up slot card true b tear up_later untorn i)
      (cond (moves.enters (other_slot slot)) (found-same log before s (In 0) power zero-low up slot card true b tear up_later untorn (In 0) (other_slot slot) i) []) s.number (in_slot start.slots (other_slot slot)))
      ∙ sym (both-slot log s.number (In 0) moves (other_slot slot) start)

  module _ (t t' : Tearing) (first : (m : ℕ) → t'.driver_first s.number (suc m) ≡ t.driver_first s.number (suc m)) (out : visits (In 0) slot (course_at log before s (In 0)).slots ≡ v ∷ []) where
    d : DifferAt (In 0) start.torn start.found xs ys fs gs t t' x y
    d = differ log later before s (In 0) power zero-low (same log before s (In 0) power zero-low up slot card true b tear up_later untorn) t t' (record { by_gap = λ other sl. absurd (never other); driver_first = λ m other. first m })
      where
        never : true ≡ false → ⊥
        never wrong = absurd (cc)

    -- of the other slot the same is told, and all finds are the same
    own-out : outs later s.number (In 0) moves slot start ≡ v ∷ []
    own-out = outs-own log before s (In 0) power zero-low up slot card true b tear up_later untorn out

    beside-out : outs later s.number (In 0) moves (other_slot slot) start ≡ ws
    beside-out = outs-other log before s (In 0) power zero-low up slot card true b tear up_later untorn

    none-out : outs log s.number (In 0) moves slot start ≡ []
    none-out = outs-none log before s (In 0) power zero-low up slot card true b tear up_later untorn

    finds-alike : gs ≡ fs
    finds-alike = λ i. finds-same log before s (In 0) power zero-low up slot card true b tear up_later untorn Driver i ++ finds-same log before s (In 0) power zero-low up slot card true b tear up_later untorn CoDriver i

    pub found-kept : y.told.course.found ≡ x.told.course.found
    found-kept = d.found_y ∙ ap (λ (l : List (Visit × Verdict)). start.found ++ l) finds-alike ∙ sym d.found_x

    pub accepted-kept : (sl : Slot) → accepted_at y (In 0) sl ≡ accepted_at x (In 0) sl
    accepted-kept sl = ap (λ (l : List (Visit × Verdict)). first_card (filter (λ (f : Visit × Verdict). same_phase f.0.phase (In 0) && (same_slot f.0.slot sl && is_accepting f.1)) l)) found-kept

    pub torn-kept : torn_at y (In 0) (other_slot slot) ≡ torn_at x (In 0) (other_slot slot)
    torn-kept =
        let test : Visit → Bool = λ (w : Visit). same_phase w.phase (In 0) && same_slot w.slot (other_slot slot) in
        let of_own : list_any test (v ∷ []) ≡ false = ap (λ (c : Bool). (true && c) || false) (slot-apart slot) in
        ap (list_any test) d.torn_y
        ∙ any-of test slot (λ (sl : Slot). outs later s.number (In 0) moves sl start) (ap (list_any test) own-out ∙ of_own)
        ∙ ap (list_any test) beside-out
        ∙ sym (any-of test slot (λ (sl : Slot). outs log s.number (In 0) moves sl start) (ap (list_any test) none-out))
        ∙ sym (ap (list_any test) d.torn_x)

    -- who stands
    pub stands-beside : t'.by_gap s.number (other_slot slot) ≡ t.by_gap s.number (other_slot slot) → standing t' y (other_slot slot) ≡ standing t x (other_slot slot)
    stands-beside alike = λ i. cond (torn-kept i && not ((ap (λ (u : ℕ). t'.by_gap u (other_slot slot)) number-y ∙ alike ∙ sym (ap (λ (u : ℕ). t.by_gap u (other_slot slot)) number-x)) i)) None (accepted-kept (other_slot slot) i)

    pub stands-own : t'.by_gap s.number slot ≡ true → torn_at x (In 0) slot ≡ false → standing t' y slot ≡ standing t x slot
    stands-own fell off =
        ap (λ (c : Bool). cond (torn_at y (In 0) slot && not c) None (accepted_at y (In 0) slot)) (ap (λ (u : ℕ). t'.by_gap u slot) number-y ∙ fell)
        ∙ ap (λ (c : Bool). cond c None (accepted_at y (In 0) slot)) (and-none (torn_at y (In 0) slot))
        ∙ accepted-kept slot
        ∙ sym (ap (λ (c : Bool). cond (c && not (t.by_gap (number_of x) slot)) None (accepted_at x (In 0) slot)) off)

    -- as it goes in its turn
    module _ (order : is_torn_in log s.number (In 0) (other_slot slot) ≡ true → FirstBeside (In 0) slot t' y) (stay : is_torn_in log s.number (In 0) (other_slot slot) ≡ true → beside_torn t' later y (In 0) (other_slot slot) ≡ beside_torn t log x (In 0) (other_slot slot))
        (left : beside_torn t' later y (In 0) slot ≡ accepted_card (in_slot (course_at log before s (In 0)).slots (other_slot slot)))
        (judged : (standing t' y Driver ≡ standing t x Driver) ⊎ (finds log s.number (In 0) moves CoDriver start ≡ [])) where
      few-alike : (ws ≡ []) ⊎ IsBeside (In 0) (other_slot slot) ws
      few-alike = few-alone (In 0) (other_slot slot) ws (is_torn_in log s.number (In 0) (other_slot slot) ≡ true) few

      turned : torn_in_turn t' y ys ≡ ws ++ v ∷ []
      turned =
          turn-second slot t' y (In 0) card ws (λ (sl : Slot). outs later s.number (In 0) moves sl start) own-out beside-out
          (few-first (In 0) (other_slot slot) ws (is_torn_in log s.number (In 0) (other_slot slot)) (FirstBeside (In 0) slot t' y) order few)

      xs-are : xs ≡ ws
      xs-are = only-other slot (λ (sl : Slot). outs log s.number (In 0) moves sl start) none-out

      fault-kept : (w : Visit) → w.phase ≡ In 0 → w.slot ≡ other_slot slot → is_torn_in log s.number (In 0) (other_slot slot) ≡ true → fault_of t' later y w ≡ fault_of t log x w
      fault-kept w phase_is slot_is torn =
          let beside : beside_torn t' later y w.phase w.slot ≡ beside_torn t log x w.phase w.slot =
          (λ i. beside_torn t' later y (phase_is i) (slot_is i)) ∙ stay torn ∙ sym (λ i. beside_torn t log x (phase_is i) (slot_is i)) in
          λ i. noted_with CARD_FAULT (d.number i) (d.number i) (with_card (other_slot w.slot) (beside i) (record { driver = None; codriver = None }))

      fault-is : fault_of t' later y v ≡ fault_with s.number slot (crew_of (course_at log before s (In 0)).slots)
      fault-is =
          (λ i. noted_with CARD_FAULT (number-y i) (number-y i) (with_card (other_slot slot) (left i) (record { driver = None; codriver = None })))
          ∙ ap (noted_with CARD_FAULT s.number s.number) (crew-left slot (course_at log before s (In 0)).slots)

      faults-more : faults_by t' later y ≡ faults_by t log x ++ fault_with s.number slot (crew_of (course_at log before s (In 0)).slots) ∷ []
      faults-more = faults-then (In 0) start.torn start.found xs ys fs gs t t' x y d log later (fault_with s.number slot (crew_of (course_at log before s (In 0)).slots) ∷ [])
          (ap (map (fault_of t' later y)) turned ∙ map-append (fault_of t' later y) ws (v ∷ [])
          ∙ (λ i. map-few (fault_of t' later y) (fault_of t log x) (In 0) (other_slot slot) ws (is_torn_in log s.number (In 0) (other_slot slot) ≡ true) few fault-kept i ++ fault-is i ∷ [])
          ∙ ap (λ (l : List Event). l ++ fault_with s.number slot (crew_of (course_at log before s (In 0)).slots) ∷ [])
          (sym (ap (λ (vs : List Visit). map (fault_of t log x) (torn_in_turn t x vs)) xs-are ∙ ap (map (fault_of t log x)) (turn-few t x (In 0) (other_slot slot) ws few-alike))))

      module _ (kind : ℕ) (own : ℕ → Visit → ℕ) where
        abbrev found_y : Visit × Verdict → List Event
        found_y f = found_events kind (own (number_of y) f.0) t' y f.0 f.1

        abbrev found_x : Visit × Verdict → List Event
        found_x f = found_events kind (own (number_of x) f.0) t x f.0 f.1

        one-stays : (sl : Slot) → beside_judged t' y (In 0) sl ≡ beside_judged t x (In 0) sl → (f : Visit × Verdict) → IsOf (In 0) sl f → found_y f ≡ found_x f
        one-stays sl beside f of =
            ap (λ (u : ℕ). found_events kind (own u f.0) t' y f.0 f.1) d.number
            ∙ events-as (In 0) start.torn start.found xs ys fs gs t t' x y d kind (own (number_of x) f.0) f.0 f.1
            (λ o. ap (λ (c : Option Card). with_card f.0.slot o (with_card (other_slot f.0.slot) c (record { driver = None; codriver = None })))
            ((λ i. beside_judged t' y (of.0 i) (of.1 i)) ∙ beside ∙ sym (λ i. beside_judged t x (of.0 i) (of.1 i))))

        driver-stays : flat_map found_y (finds log s.number (In 0) moves Driver start) ≡ flat_map found_x (finds log s.number (In 0) moves Driver start)
        driver-stays = flat-stays found_y found_x (IsOf (In 0) Driver) (finds log s.number (In 0) moves Driver start) (finds-of (In 0) Driver (found_now log s.number (In 0) moves Driver) start.slots.driver) (one-stays Driver refl)

        codriver-stays : flat_map found_y (finds log s.number (In 0) moves CoDriver start) ≡ flat_map found_x (finds log s.number (In 0) moves CoDriver start)
        codriver-stays = ⊎_elim
            (λ (alike : standing t' y Driver ≡ standing t x Driver).
            flat-stays found_y found_x (IsOf (In 0) CoDriver) (finds log s.number (In 0) moves CoDriver start) (finds-of (In 0) CoDriver (found_now log s.number (In 0) moves CoDriver) start.slots.codriver) (one-stays CoDriver alike))
            (λ gone. ap (flat_map found_y) gone ∙ sym (ap (flat_map found_x) gone)) judged

        found-more : found_by kind own t' y ≡ found_by kind own t x ++ []
        found-more = found-then (In 0) start.torn start.found xs ys fs gs t t' x y d log later kind own own (λ w former. ap (λ (u : ℕ). own u w) d.number) []
            (ap (flat_map found_y) finds-alike
            ∙ flat_map-append found_y (finds log s.number (In 0) moves Driver start) (finds log s.number (In 0) moves CoDriver start)
            ∙ (λ i. driver-stays i ++ codriver-stays i)
            ∙ sym (flat_map-append found_x (finds log s.number (In 0) moves Driver start) (finds log s.number (In 0) moves CoDriver start))
            ∙ sym (append-nil (flat_map found_x fs)))

      kept-alike : (u : ℕ) → kept_after later u ≡ kept_after log u
      kept-alike u = (break-more log b u).kept (ap (kept_by u) tear.2)

      pub gap-alike : ((sl : Slot) → standing t' y sl ≡ standing t x sl) → (spans : List (List Seen)) → gap_by t' later spans y ≡ gap_by t log spans x
      gap-alike stands spans =
          let lit : y.told.lit ≡ x.told.lit = (lit-told later before s power).lit ∙ sym (lit-told log before s power).lit in
          let starts : y.told.starts ≡ x.told.starts = (lit-told later before s power).starts ∙ sym (lit-told log before s power).starts in
          λ i. cond (lit i) (cond (starts i) (before-as t t' log later x y kept-alike d.number stands spans i) []) []

      pub brings : (kind limit : ℕ) (own : ℕ → Visit → ℕ) (spans : List (List Seen)) → is_told Acting kind ≡ true → ((kind == POWER_INTERRUPTION) ≡ true → gap_by t' later spans y ≡ gap_by t log spans x) →
          second_events kind limit own t' later spans y ≡ second_events kind limit own t log spans x ++ by_kind (fault_with s.number slot (crew_of (course_at log before s (In 0)).slots) ∷ []) kind
      brings kind limit own spans told gaps =
          let e : Event = fault_with s.number slot (crew_of (course_at log before s (In 0)).slots) in
          kinds-then (kind == DRIVING_WITHOUT_CARD) (kind == OVER_SPEEDING) (kind == POWER_INTERRUPTION) (kind == CARD_FAULT)
          (cond x.told.lit (bares_by (span_before spans x) (x ∷ [])) []) (cond x.told.lit (overs_by limit (span_before spans x) (x ∷ [])) []) (gap_by t log spans x) (faults_by t log x) (found_by kind own t x)
          (cond y.told.lit (bares_by (span_before spans y) (y ∷ [])) []) (cond y.told.lit (overs_by limit (span_before spans y) (y ∷ [])) []) (gap_by t' later spans y) (faults_by t' later y) (found_by kind own t' y)
          (by_kind (e ∷ []) kind) told
          (λ is_gap. gaps is_gap ∙ sym (append-nil (gap_by t log spans x)) ∙ ap (λ (l : List Event). gap_by t log spans x ++ l) (sym (none-of e kind refl (not-fault kind is_gap))))
          (λ no_gap is_fault. faults-more ∙ ap (λ (l : List Event). faults_by t log x ++ l) (sym (one-of e kind refl is_fault)))
          (λ no_gap no_fault. found-more kind own ∙ ap (λ (l : List Event). found_by kind own t x ++ l) (sym (none-of e kind refl no_fault)))

-- ---- a card in a slot
one-visit : (at : Phase) (slot : Slot) (slots : Slots) (x : Sitting) → in_slot slots slot ≡ Some x → visits at slot slots ≡ record { phase = at; slot = slot; card = x.card } ∷ []
one-visit at slot slots x sits = ap (λ (o : Option Sitting). map (λ (card : Card). record { phase = at; slot = slot; card = card }) (card_in o)) sits

record IsThere (o : Option Sitting) : Type 0 where
  sitting : Sitting
  is : o ≡ Some sitting

is-there : (o : Option Sitting) → is_some (accepted_card o) ≡ true → IsThere o
is-there None accepted = absurd (let wrong : false ≡ true = accepted in cc)
is-there (Some x) accepted = record { sitting = x; is = refl }

runs-not : (running : Bool) → not running ≡ true → running ≡ false
runs-not true is = absurd (let wrong : false ≡ true = is in cc)
runs-not false is = refl

waking-told : (a b c : Bool) → (not a && not b && not c) ≡ true → ((not a && not b) ≡ true) × (c ≡ false)
waking-told true b c is = absurd (let wrong : false ≡ true = is in cc)
waking-told false true c is = absurd (let wrong : false ≡ true = is in cc)
waking-told false false true is = absurd (let wrong : false ≡ true = is in cc)
waking-told false false false is = (refl, refl)

-- A CARD IS TORN OUT AS IT IS JUDGED
pub waking-tear_adds : (dev : Devices) → AWakingTearAdds dev
waking-tear_adds dev o done p s b log r bare slot sits line tear there turn rest = record {
  kinds = ((7, omega arith, refl), tt);
  on = λ more v.
      let before : Before = (went p.log done).before in
      let later : RunLog = and_break log line in
      let r_later : Reaches p s (In 0) later = (lines-reached p s (In 0) log r).0 slot true line tear in
      let power : has_power before s ≡ true = power-now o done p [] s b in
      let begun : before.running ≡ false = runs-not before.running (starts-now o done p [] s b) in
      let es : List Event = fault_with s.number slot (crew_at p done s (In 0) log) ∷ [] in
      let untorn : is_torn_in log s.number (In 0) slot ≡ false = who-sits log before s (In 0) slot sits there in
      let out = one-visit (In 0) slot (course_at log before s (In 0)).slots sits there in
      let was : FitsSoFar Waking s v.here (seen_by log before s) = fits-now o done p [] s b Waking log later r.goes r_later.goes dev more es v in
      let plain : (sl : Slot) → v.here.by_gap s.number sl ≡ false = was.waking refl in
      let x : Seen = seen_by log before s in
      let y : Seen = seen_by later before s in
      let t : Tearing = v.here in
      let number_y : number_of y ≡ s.number = told-number later before s in
      let number_x : number_of x ≡ s.number = told-number log before s in
      let gap_y : (sl : Slot) → t.by_gap (number_of y) sl ≡ false = λ sl. ap (λ (u : ℕ). t.by_gap u sl) number_y ∙ plain sl in
      let gap_x : (sl : Slot) → t.by_gap (number_of x) sl ≡ false = λ sl. ap (λ (u : ℕ). t.by_gap u sl) number_x ∙ plain sl in
      let beside : standing t y (other_slot slot) ≡ standing t x (other_slot slot) = stands-beside log before s power r.up_to slot sits.card line tear r_later.up_to untorn t t (λ m. refl) out refl in
      let first_is : is_codriver_first t y (In 0) ≡ false = ap (λ (c : Bool). c && not (t.by_gap (number_of y) CoDriver)) (gap_y Driver) in
      let found = found-kept log before s power r.up_to slot sits.card line tear r_later.up_to untorn t t (λ m. refl) out in
      let accepted = accepted-kept log before s power r.up_to slot sits.card line tear r_later.up_to untorn t t (λ m. refl) out in
      let torn = torn-kept log before s power r.up_to slot sits.card line tear r_later.up_to untorn t t (λ m. refl) out in
      added o done p [] s b Waking log later r.goes r_later.goes dev more es v t v.own
      (λ kind among told.
      let both = waking-told (kind == DRIVING_WITHOUT_CARD) (kind == OVER_SPEEDING) (kind == POWER_INTERRUPTION) told in
      brings log before s power r.up_to slot sits.card line tear r_later.up_to untorn t t (λ m. refl) out
      (order-in slot log s t y turn first_is) (stay-in slot log later s t x y turn gap_y gap_x) (left-in slot log later before s t x y turn gap_y beside
      (λ off unfound. bare-as log before s power r.up_to begun bare CoDriver off unfound) (stands-as log before s power r.up_to begun bare t Driver (plain Driver)))
      (judged-in slot log before s t x y turn beside)
      kind (limit_in o) v.own (seen_spans (seen_of p.log done)) both.0 (λ is_gap. absurd (let wrong : true ≡ false = sym is_gap ∙ both.1 in cc)))
      (aside-waking es refl refl refl)
      (record {
        put_in = was.put_in;
        still = λ sl stands_still is_torn is_accepted. ⊎_elim
            (λ (own : sl ≡ slot). absurd (let wrong : false ≡ true = sym (ap is_some
            (ap (accepted_at y (In 0)) own ∙ accepted slot ∙ accepted-as log before s power r.up_to begun bare slot untorn ∙ ap accepted_card there ∙ ap (option_map {T = ℕ} {U = Card} (λ u. sits.card)) (rest stands_still))) ∙ is_accepted in cc))
            (λ (other : sl ≡ other_slot slot). was.still sl stands_still
            (ap (torn_at x (In 0)) other ∙ sym torn ∙ sym (ap (torn_at y (In 0)) other) ∙ is_torn) (sym (ap is_some (accepted sl)) ∙ is_accepted))
            (slot-cases sl slot);
        before = λ sl nobody. was.before sl (sym (accepted sl) ∙ nobody);
        waking = was.waking;
      })
      (λ e among accepts. open-now o done p [] s b Waking log later r.goes r_later.goes dev more es v e (subst (λ (l : List (Visit × Verdict)). Contains l e) found among) accepts)
      (exact-still o done p [] s b log later r.goes v.own (line ∷ []) refl (tear-stays log before s (In 0) power r.is r.up_to slot true line tear r_later.up_to untorn)
      (tear-uses o p.log done s power log (In 0) r.is r.up_to slot true line tear r_later.up_to untorn) found v.exact_now);
}
  where
    order-in : (slot : Slot) (log : RunLog) (s : TraceSecond) (t : Tearing) (y : Seen) → ComesInTurn slot log s.number → is_codriver_first t y (In 0) ≡ false → is_torn_in log s.number (In 0) (other_slot slot) ≡ true → FirstBeside (In 0) slot t y
    order-in Driver log s t y turn first torn = absurd (let wrong : true ≡ false = sym torn ∙ turn.0 in cc)
    order-in CoDriver log s t y turn first torn = first

    stay-in : (slot : Slot) (log later : RunLog) (s : TraceSecond) (t : Tearing) (x y : Seen) → ComesInTurn slot log s.number → ((sl : Slot) → t.by_gap (number_of y) sl ≡ false) → ((sl : Slot) → t.by_gap (number_of x) sl ≡ false) →
        is_torn_in log s.number (In 0) (other_slot slot) ≡ true → beside_torn t later y (In 0) (other_slot slot) ≡ beside_torn t log x (In 0) (other_slot slot)
    stay-in Driver log later s t x y turn gap_y gap_x torn = absurd (let wrong : true ≡ false = sym torn ∙ turn.0 in cc)
    stay-in CoDriver log later s t x y turn gap_y gap_x torn = ap (λ (c : Bool). cond c (standing t y CoDriver) None) (gap_y Driver) ∙ sym (ap (λ (c : Bool). cond c (standing t x CoDriver) None) (gap_x Driver))

    left-in : (slot : Slot) (log later : RunLog) (before : Before) (s : TraceSecond) (t : Tearing) (x y : Seen) → ComesInTurn slot log s.number → ((sl : Slot) → t.by_gap (number_of y) sl ≡ false) → standing t y (other_slot slot) ≡ standing t x (other_slot slot) →
        (is_torn_in log s.number (In 0) CoDriver ≡ false → found_in log s.number (In 0) CoDriver ≡ [] → accepted_card (course_at log before s (In 0)).slots.codriver ≡ None) →
        standing t x Driver ≡ accepted_card (course_at log before s (In 0)).slots.driver →
        beside_torn t later y (In 0) slot ≡ accepted_card (in_slot (course_at log before s (In 0)).slots (other_slot slot))
    left-in Driver log later before s t x y turn gap_y beside bare stands = ap (λ (c : Bool). cond c (standing t y CoDriver) None) (gap_y Driver) ∙ sym (bare turn.0 turn.1)
    left-in CoDriver log later before s t x y turn gap_y beside bare stands = ap (λ (c : Bool). cond c (accepted_card (y.after 0).driver) (standing t y Driver)) (gap_y CoDriver) ∙ beside ∙ stands

    none-found : (log : RunLog) (before : Before) (s : TraceSecond) → found_in log s.number (In 0) CoDriver ≡ [] → finds log s.number (In 0) (moved_at log before s (In 0)) CoDriver (begun_at log before s (In 0)) ≡ []
    none-found log before s none =
        ap (λ (vs : List Verdict). flat_map (λ (visit : Visit). map (λ (verdict : Verdict). (visit, verdict)) vs) (visits (In 0) CoDriver (begun_at log before s (In 0)).slots))
        (ap (λ (vs : List Verdict). cond ((moved_at log before s (In 0)).enters CoDriver) vs []) none ∙ cond-nil ((moved_at log before s (In 0)).enters CoDriver)) ∙ no-pairs (visits (In 0) CoDriver (begun_at log before s (In 0)).slots)
      where
        cond-nil : (b : Bool) → cond {A = List Verdict} b [] [] ≡ []
        cond-nil true = refl
        cond-nil false = refl

        no-pairs : (vs : List Visit) → flat_map (λ (visit : Visit). paired visit []) vs ≡ []
        no-pairs [] = refl
        no-pairs (visit ∷ vs) = no-pairs vs

    judged-in : (slot : Slot) (log : RunLog) (before : Before) (s : TraceSecond) (t : Tearing) (x y : Seen) → ComesInTurn slot log s.number → standing t y (other_slot slot) ≡ standing t x (other_slot slot) →
        (standing t y Driver ≡ standing t x Driver) ⊎ (finds log s.number (In 0) (moved_at log before s (In 0)) CoDriver (begun_at log before s (In 0)) ≡ [])
    judged-in Driver log before s t x y turn beside = inr (none-found log before s turn.1)
    judged-in CoDriver log before s t x y turn beside = inl beside

-- ---- THE INTERRUPTION
intr-kind : (log : RunLog) (spans : List (List Seen)) (u : ℕ) (crew : Crew) → OfKind POWER_INTERRUPTION (interruption log spans u crew)
intr-kind log [] u crew = tt
intr-kind log (span ∷ spans) u crew = by (gap_of (kept_after log (last_number (last_of (span ∷ spans)))) u)
  where
    by : (o : Option Span) → OfKind POWER_INTERRUPTION (option_to_list (option_map {T = Span} {U = Event} (λ gap. noted_with POWER_INTERRUPTION gap.begin gap.end crew) o))
    by None = tt
    by (Some gap) = (refl, tt)

there-all : (es : List Event) → OfKind POWER_INTERRUPTION es → AllByRecursion (λ (e : Event). Contains all_kinds e.kind) es
there-all [] all = tt
there-all (e ∷ es) all = (subst (Contains all_kinds) (sym all.0) (6, omega arith, refl), there-all es all.1)

gap-is : (t : Tearing) (log : RunLog) (x : Seen) (u : ℕ) (slots : Slots) → number_of x ≡ u → ((sl : Slot) → standing t x sl ≡ accepted_card (in_slot slots sl)) → (spans : List (List Seen)) → gap_before t log spans x ≡ interruption log spans u (crew_of slots)
gap-is t log x u slots number stands [] = refl
gap-is t log x u slots number stands (span ∷ []) = λ i.
    option_to_list (option_map {T = Span} {U = Event} (λ gap. noted_with POWER_INTERRUPTION gap.begin gap.end (record { driver = stands Driver i; codriver = stands CoDriver i })) (gap_of (kept_after log (last_number span)) (number i)))
gap-is t log x u slots number stands (span ∷ next ∷ spans) = gap-is t log x u slots number stands (next ∷ spans)

-- its events so far, whatever they are called
with-more : (dev : Devices) (o : Origin) (done : List TraceSecond) (s : TraceSecond) (stage : Stage) (log : RunLog) (more : List Event) (v : SoFar o done s stage log more dev) (u : ℕ) (sl : Slot) → (w : SoFar o done s stage log (more ++ []) dev) × (w.here.by_gap u sl ≡ v.here.by_gap u sl)
with-more dev o done s stage log more v u sl = (
  record {
    here = v.here;
    own = v.own;
    told = λ kind among told. ap (λ (l : List Event). by_kind l kind) (append-nil more) ∙ v.told kind among told;
    untold = λ kind among off. ap (λ (l : List Event). by_kind l kind) (append-nil more) ∙ v.untold kind among off;
    fits = v.fits;
    open_now = v.open_now;
    exact_now = v.exact_now;
  },
  refl,
)

-- a choice by which a card fell
abbrev with_gap : ℕ → Slot → Tearing → Tearing
with_gap u slot t = record t { by_gap = λ w sl. cond (nat_eq w u && same_slot slot sl) true (t.by_gap w sl) }

module _ (dev : Devices) (o : Origin) (done : List TraceSecond) (p : Progress) (s : TraceSecond) (b : BeginsNow o done p [] s) (bare : AreBare (went p.log done).before.slots) where
  abbrev before_it : Before
  before_it = (went p.log done).before

  has : has_power before_it s ≡ true
  has = power-now o done p [] s b

  begins : before_it.running ≡ false
  begins = runs-not before_it.running (starts-now o done p [] s b)

  -- the power-on is done
  awake : Acting ≡ Waking → ⊥
  awake is = absurd (cc)

  stage-told : (a b c : Bool) → (not a && not b) ≡ true → (not a && not b && not c) ≡ false → c ≡ true
  stage-told true b c is off = absurd (let wrong : false ≡ true = is in cc)
  stage-told false true c is off = absurd (let wrong : false ≡ true = is in cc)
  stage-told false false true is off = refl
  stage-told false false false is off = absurd (let wrong : true ≡ false = off in cc)

  module _ (log : RunLog) (r : Reaches p s (In 0) log) (more : List Event) (v : SoFar o done s Waking log more dev) where
    abbrev intr : List Event
    intr = interruption log (seen_spans (seen_of p.log done)) s.number (crew_at p done s (In 0) log)

    fits-waking : FitsSoFar Waking s v.here (seen_by log before_it s)
    fits-waking = fits-now o done p [] s b Waking log log r.goes r.goes dev more [] v

    intr-brought : intr ≡ brought_now o log done s v.here v.own 0x08
    intr-brought =
        let x : Seen = seen_by log before_it s in
        let spans : List (List Seen) = seen_spans (seen_of p.log done) in
        sym (brought-as o done p b.followed s log r.goes v.here v.own 0x08
        ∙ ap (λ (c : Bool). cond c (cond x.told.starts (gap_before v.here log spans x) []) []) (lit-told log before_it s has).lit
        ∙ ap (λ (c : Bool). cond c (gap_before v.here log spans x) []) ((lit-told log before_it s has).starts ∙ starts-now o done p [] s b)
        ∙ gap-is v.here log x s.number (course_at log before_it s (In 0)).slots (told-number log before_it s)
        (λ sl. stands-as log before_it s has r.up_to begins bare v.here sl (fits-waking.waking refl sl)) spans)

    intr-other : (kind : ℕ) → (kind == POWER_INTERRUPTION) ≡ false → by_kind intr kind ≡ []
    intr-other kind off = of-other POWER_INTERRUPTION kind intr (λ is. eqb-false kind POWER_INTERRUPTION off (sym is)) (intr-kind log (seen_spans (seen_of p.log done)) s.number (crew_at p done s (In 0) log))

    told-then : (kind : ℕ) → Contains all_kinds kind → is_told Acting kind ≡ true → by_kind (more ++ intr) kind ≡ brought_now o log done s v.here v.own kind
    told-then kind among told = ⊎_elim
        (λ (was : is_told Waking kind ≡ true).
        let both = waking-told (kind == DRIVING_WITHOUT_CARD) (kind == OVER_SPEEDING) (kind == POWER_INTERRUPTION) was in
        by-more more intr kind ∙ ap (λ (l : List Event). by_kind more kind ++ l) (intr-other kind both.1) ∙ append-nil (by_kind more kind) ∙ v.told kind among was)
        (λ (off : is_told Waking kind ≡ false).
        let gap : (kind == POWER_INTERRUPTION) ≡ true = stage-told (kind == DRIVING_WITHOUT_CARD) (kind == OVER_SPEEDING) (kind == POWER_INTERRUPTION) told off in
        let one : kind ≡ 0x08 = eqb-true kind POWER_INTERRUPTION gap in
        by-more more intr kind ∙ ap (λ (l : List Event). l ++ by_kind intr kind) (v.untold kind among off)
        ∙ ap (by_kind intr) one ∙ of-itself POWER_INTERRUPTION intr (intr-kind log (seen_spans (seen_of p.log done)) s.number (crew_at p done s (In 0) log))
        ∙ intr-brought ∙ ap (brought_now o log done s v.here v.own) (sym one))
        (bool-or (is_told Waking kind))

    acting-off : (a b c : Bool) → (not a && not b) ≡ false → (not a && not b && not c) ≡ false
    acting-off true b c is = refl
    acting-off false true c is = refl
    acting-off false false c is = absurd (let wrong : true ≡ false = is in cc)

    gap-off : (kind : ℕ) → is_told Acting kind ≡ false → (kind == POWER_INTERRUPTION) ≡ false
    gap-off kind off = ⊎_elim
        (λ (gap : (kind == POWER_INTERRUPTION) ≡ true). absurd (let wrong : true ≡ false = sym (ap (is_told Acting) (eqb-true kind POWER_INTERRUPTION gap)) ∙ off in cc))
        (λ no. no) (bool-or (kind == POWER_INTERRUPTION))

    -- with the choice as it was
    done-so : (w : SoFar o done s Acting log (more ++ intr) dev) × ((sl : Slot) → w.here.by_gap s.number sl ≡ false)
    done-so = (
      record {
        here = v.here;
        own = v.own;
        told = told-then;
        untold = λ kind among off. by-more more intr kind
            ∙ ap (λ (l : List Event). l ++ by_kind intr kind) (v.untold kind among (acting-off (kind == DRIVING_WITHOUT_CARD) (kind == OVER_SPEEDING) (kind == POWER_INTERRUPTION) off)) ∙ intr-other kind (gap-off kind off);
        fits = record { put_in = v.fits.put_in; still = v.fits.still; before = v.fits.before; waking = λ is. absurd (awake is) };
        open_now = v.open_now;
        exact_now = v.exact_now;
      },
      fits-waking.waking refl,
    )

  -- A CARD FALLS by it
  abbrev Fallen : Slot → (gap : Bool) → List Event → RunLog → List Event → Type 0
  Fallen slot gap more later es = (w : SoFar o done s Acting later (more ++ es) dev) × (w.here.by_gap s.number (other_slot slot) ≡ gap) × Reaches p s (In 0) later

  abbrev IsInOrder : Slot → Tearing → Type 0
  IsInOrder slot t = (t.by_gap s.number slot ≡ false) × (slot ≡ Driver → t.by_gap s.number CoDriver ≡ false)

  set-own : (t : Tearing) (slot : Slot) → (with_gap s.number slot t).by_gap s.number slot ≡ true
  set-own t slot = (λ i. cond (same-self s.number i && slot-self slot i) true (t.by_gap s.number slot))

  set-other : (t : Tearing) (slot : Slot) → (with_gap s.number slot t).by_gap s.number (other_slot slot) ≡ t.by_gap s.number (other_slot slot)
  set-other t slot = ap (λ (c : Bool). cond (nat_eq s.number s.number && c) true (t.by_gap s.number (other_slot slot))) (slot-apart slot) ∙ ap (λ (c : Bool). cond c true (t.by_gap s.number (other_slot slot))) (and-none (nat_eq s.number s.number))

  order-gap : (slot : Slot) (t' : Tearing) (y : Seen) → t'.by_gap (number_of y) slot ≡ true → (slot ≡ Driver → t'.by_gap (number_of y) CoDriver ≡ false) → FirstBeside (In 0) slot t' y
  order-gap Driver t' y own other = λ i. own i && not (other refl i)
  order-gap CoDriver t' y own other = ap (λ (c : Bool). t'.by_gap (number_of y) Driver && not c) own ∙ and-none (t'.by_gap (number_of y) Driver)

  stay-gap : (slot : Slot) (t t' : Tearing) (log more_log : RunLog) (x y : Seen) → (slot ≡ Driver → (t'.by_gap (number_of y) CoDriver ≡ false) × (t.by_gap (number_of x) CoDriver ≡ false)) →
      t'.by_gap (number_of y) (other_slot slot) ≡ t.by_gap (number_of x) (other_slot slot) → standing t' y slot ≡ standing t x slot → beside_torn t' more_log y (In 0) (other_slot slot) ≡ beside_torn t log x (In 0) (other_slot slot)
  stay-gap Driver t t' log more_log x y off alike stands =
      ap (λ (c : Bool). cond c (accepted_card (y.after 0).driver) (standing t' y Driver)) (off refl).0 ∙ stands ∙ sym (ap (λ (c : Bool). cond c (accepted_card (x.after 0).driver) (standing t x Driver)) (off refl).1)
  stay-gap CoDriver t t' log more_log x y off alike stands = λ i. cond (alike i) (stands i) None

  left-gap : (slot : Slot) (t t' : Tearing) (log more_log : RunLog) (x y : Seen) → t'.by_gap (number_of y) slot ≡ true → standing t' y (other_slot slot) ≡ standing t x (other_slot slot) →
      (slot ≡ Driver → standing t x CoDriver ≡ accepted_card (course_at log before_it s (In 0)).slots.codriver) → (slot ≡ CoDriver → accepted_card (y.after 0).driver ≡ accepted_card (course_at log before_it s (In 0)).slots.driver) →
      beside_torn t' more_log y (In 0) slot ≡ accepted_card (in_slot (course_at log before_it s (In 0)).slots (other_slot slot))
  left-gap Driver t t' log more_log x y own beside stands after = ap (λ (c : Bool). cond c (standing t' y CoDriver) None) own ∙ beside ∙ stands refl
  left-gap CoDriver t t' log more_log x y own beside stands after = ap (λ (c : Bool). cond c (accepted_card (y.after 0).driver) (standing t' y Driver)) own ∙ after refl

  driver-gap : (slot : Slot) (t t' : Tearing) (x y : Seen) → standing t' y slot ≡ standing t x slot → standing t' y (other_slot slot) ≡ standing t x (other_slot slot) → (sl : Slot) → standing t' y sl ≡ standing t x sl
  driver-gap Driver t t' x y own other Driver = own
  driver-gap Driver t t' x y own other CoDriver = other
  driver-gap CoDriver t t' x y own other Driver = other
  driver-gap CoDriver t t' x y own other CoDriver = own

  fall-so : (slot : Slot) (log : RunLog) (r : Reaches p s (In 0) log) (more : List Event) (v : SoFar o done s Acting log more dev) → IsInOrder slot v.here → (line : Break) (tear : IsTearAt s (In 0) slot true line) →
      is_some (accepted_card (in_slot (course_at log before_it s (In 0)).slots slot)) ≡ true → Fallen slot (v.here.by_gap s.number (other_slot slot)) more (and_break log line) (fault_with s.number slot (crew_at p done s (In 0) log) ∷ [])
  fall-so slot log r more v order line tear accepted =
      let later : RunLog = and_break log line in
      let r_later : Reaches p s (In 0) later = (lines-reached p s (In 0) log r).0 slot true line tear in
      let there = is-there (in_slot (course_at log before_it s (In 0)).slots slot) accepted in
      let untorn : is_torn_in log s.number (In 0) slot ≡ false = who-sits log before_it s (In 0) slot there.sitting there.is in
      let out = one-visit (In 0) slot (course_at log before_it s (In 0)).slots there.sitting there.is in
      let es : List Event = fault_with s.number slot (crew_at p done s (In 0) log) ∷ [] in
      let x : Seen = seen_by log before_it s in
      let y : Seen = seen_by later before_it s in
      let t : Tearing = v.here in
      let t' : Tearing = with_gap s.number slot v.here in
      let number_y : number_of y ≡ s.number = told-number later before_it s in
      let number_x : number_of x ≡ s.number = told-number log before_it s in
      let own_y : t'.by_gap (number_of y) slot ≡ true = ap (λ (u : ℕ). t'.by_gap u slot) number_y ∙ set-own t slot in
      let off_y : slot ≡ Driver → t'.by_gap (number_of y) CoDriver ≡ false = λ is. ap (λ (u : ℕ). t'.by_gap u CoDriver) number_y ∙ (λ i. t'.by_gap s.number (other_slot (sym is i))) ∙ set-other t slot ∙ (λ i. t.by_gap s.number (other_slot (is i))) ∙ order.1 is in
      let off_x : slot ≡ Driver → t.by_gap (number_of x) CoDriver ≡ false = λ is. ap (λ (u : ℕ). t.by_gap u CoDriver) number_x ∙ order.1 is in
      let alike : t'.by_gap (number_of y) (other_slot slot) ≡ t.by_gap (number_of x) (other_slot slot) = ap (λ (u : ℕ). t'.by_gap u (other_slot slot)) number_y ∙ set-other t slot ∙ sym (ap (λ (u : ℕ). t.by_gap u (other_slot slot)) number_x) in
      let was : FitsSoFar Acting s v.here x = fits-now o done p [] s b Acting log later r.goes r_later.goes dev more es v in
      let own_stands : standing t' y slot ≡ standing t x slot = stands-own log before_it s has r.up_to slot there.sitting.card line tear r_later.up_to untorn t t' (λ m. refl) out (set-own t slot) (untorn-slot log before_it s has r.up_to begins bare slot untorn) in
      let other_stands : standing t' y (other_slot slot) ≡ standing t x (other_slot slot) = stands-beside log before_it s has r.up_to slot there.sitting.card line tear r_later.up_to untorn t t' (λ m. refl) out (set-other t slot) in
      let all_stand : (sl : Slot) → standing t' y sl ≡ standing t x sl = driver-gap slot t t' x y own_stands other_stands in
      let found = found-kept log before_it s has r.up_to slot there.sitting.card line tear r_later.up_to untorn t t' (λ m. refl) out in
      let accepted_are = accepted-kept log before_it s has r.up_to slot there.sitting.card line tear r_later.up_to untorn t t' (λ m. refl) out in
      let torn = torn-kept log before_it s has r.up_to slot there.sitting.card line tear r_later.up_to untorn t t' (λ m. refl) out in
      let beside_slot = slots-beside log before_it s has r.up_to slot there.sitting.card line tear r_later.up_to untorn in
      let order_now : is_torn_in log s.number (In 0) (other_slot slot) ≡ true → FirstBeside (In 0) slot t' y = λ is. order-gap slot t' y own_y off_y in
      let stay_now : is_torn_in log s.number (In 0) (other_slot slot) ≡ true → beside_torn t' later y (In 0) (other_slot slot) ≡ beside_torn t log x (In 0) (other_slot slot) = λ is. stay-gap slot t t' log later x y (λ at. (off_y at, off_x at)) alike own_stands in
      let left_now : beside_torn t' later y (In 0) slot ≡ accepted_card (in_slot (course_at log before_it s (In 0)).slots (other_slot slot)) = left-gap slot t t' log later x y own_y other_stands
      (λ is. stands-as log before_it s has r.up_to begins bare t CoDriver (order.1 is)) (λ is. (λ i. accepted_card (in_slot (course_at later before_it s (In 0)).slots (other_slot (sym is i)))) ∙ ap accepted_card beside_slot ∙ (λ i. accepted_card (in_slot (course_at log before_it s (In 0)).slots (other_slot (is i))))) in
      let accepted_x : is_some (accepted_at x (In 0) slot) ≡ true = ap is_some (accepted-as log before_it s has r.up_to begins bare slot untorn) ∙ accepted in (
        added o done p [] s b Acting log later r.goes r_later.goes dev more es v t' v.own
            (λ kind among told. brings log before_it s has r.up_to slot there.sitting.card line tear r_later.up_to untorn t t' (λ m. refl) out order_now stay_now left_now (inl (all_stand Driver)) kind (limit_in o) v.own (seen_spans (seen_of p.log done)) told
            (λ is_gap. gap-alike log before_it s has r.up_to slot there.sitting.card line tear r_later.up_to untorn t t' (λ m. refl) out order_now stay_now left_now (inl (all_stand Driver)) all_stand (seen_spans (seen_of p.log done))))
            (aside-acting es refl refl)
            (record {
              put_in = was.put_in;
              still = λ sl rest is_torn is_accepted. ⊎_elim
                  (λ (own : sl ≡ slot). ap (t'.by_gap s.number) own ∙ set-own t slot)
                  (λ (other : sl ≡ other_slot slot). ap (t'.by_gap s.number) other ∙ set-other t slot ∙ sym (ap (t.by_gap s.number) other)
                  ∙ was.still sl rest (ap (torn_at x (In 0)) other ∙ sym torn ∙ sym (ap (torn_at y (In 0)) other) ∙ is_torn) (sym (ap is_some (accepted_are sl)) ∙ is_accepted))
                  (slot-cases sl slot);
              before = λ sl nobody. ⊎_elim
                  (λ (own : sl ≡ slot). absurd (let wrong : true ≡ false = sym accepted_x ∙ ap is_some (sym (accepted_are slot) ∙ ap (accepted_at y (In 0)) (sym own) ∙ nobody) in cc))
                  (λ (other : sl ≡ other_slot slot). ap (t'.by_gap s.number) other ∙ set-other t slot ∙ sym (ap (t.by_gap s.number) other) ∙ was.before sl (sym (accepted_are sl) ∙ nobody))
                  (slot-cases sl slot);
              waking = λ is. absurd (awake is);
            })
            (λ e among accepts. open-now o done p [] s b Acting log later r.goes r_later.goes dev more es v e (subst (λ (l : List (Visit × Verdict)). Contains l e) found among) accepts)
            (exact-still o done p [] s b log later r.goes v.own (line ∷ []) refl (tear-stays log before_it s (In 0) has r.is r.up_to slot true line tear r_later.up_to untorn)
            (tear-uses o p.log done s has log (In 0) r.is r.up_to slot true line tear r_later.up_to untorn) found v.exact_now),
        set-other t slot,
        r_later,
      )

  -- or none does
  falls-or : (fell : Bool) (slot : Slot) (log after_log : RunLog) (es : List Event) → FallsAt fell done p s slot log after_log es → (r : Reaches p s (In 0) log) (more : List Event) (v : SoFar o done s Acting log more dev) → IsInOrder slot v.here →
      Fallen slot (v.here.by_gap s.number (other_slot slot)) more after_log es
  falls-or false slot log after_log es falls r more v order =
      let gap : Bool = v.here.by_gap s.number (other_slot slot) in
      let base = with-more dev o done s Acting log more v s.number (other_slot slot) in
      subst (λ (l : RunLog). Fallen slot gap more l es) (sym falls.0) (subst (λ (l : List Event). Fallen slot gap more log l) (sym falls.1) (base.0, base.1, r))
  falls-or true slot log after_log es falls r more v order =
      let gap : Bool = v.here.by_gap s.number (other_slot slot) in
      subst (λ (l : RunLog). Fallen slot gap more l es) (sym falls.3) (subst (λ (l : List Event). Fallen slot gap more (and_break log falls.0) l) (sym falls.4) (fall-so slot log r more v order falls.0 falls.1 falls.2))

  falls-there : (fell : Bool) (slot : Slot) (log later : RunLog) (es : List Event) → FallsAt fell done p s slot log later es → AllByRecursion (λ (e : Event). Contains all_kinds e.kind) es
  falls-there false slot log later es falls = subst (AllByRecursion (λ (e : Event). Contains all_kinds e.kind)) (sym falls.1) tt
  falls-there true slot log later es falls = subst (AllByRecursion (λ (e : Event). Contains all_kinds e.kind)) (sym falls.4) ((7, omega arith, refl), tt)

all-both : {X : Type 0} (P : X → Type 0) (xs zs : List X) → AllByRecursion P xs → AllByRecursion P zs → AllByRecursion P (xs ++ zs)
all-both P [] zs hx hy = hy
all-both P (x ∷ xs) zs hx hy = (hx.0, all-both P xs zs hx.1 hy)

-- THE POWER-ON IS DONE
pub interruption-adds : (dev : Devices) → AnInterruptionAdds dev
interruption-adds dev o done p s b log mid later r bare driver codriver es more_es first second = record {
  kinds = all-both (λ (e : Event). Contains all_kinds e.kind) (interruption log (seen_spans (seen_of p.log done)) s.number (crew_at p done s (In 0) log)) (es ++ more_es) (there-all (interruption log (seen_spans (seen_of p.log done)) s.number (crew_at p done s (In 0) log)) (intr-kind log (seen_spans (seen_of p.log done)) s.number (crew_at p done s (In 0) log)))
      (all-both (λ (e : Event). Contains all_kinds e.kind) es more_es (falls-there dev o done p s b bare driver Driver log mid es first) (falls-there dev o done p s b bare codriver CoDriver mid later more_es second));
  on = λ more v.
      let intr : List Event = interruption log (seen_spans (seen_of p.log done)) s.number (crew_at p done s (In 0) log) in
      let one = done-so dev o done p s b bare log r more v in
      let two = falls-or dev o done p s b bare driver Driver log mid es first r (more ++ intr) one.0 (one.1 Driver, λ is. one.1 CoDriver) in
      let three = falls-or dev o done p s b bare codriver CoDriver mid later more_es second two.2 ((more ++ intr) ++ es) two.0 (two.1 ∙ one.1 CoDriver, λ is. absurd (never is)) in
      subst (λ (l : List Event). SoFar o done s Acting later l dev) (append_assoc (more ++ intr) es more_es ∙ append_assoc more intr (es ++ more_es)) three.0;
}
  where
    never : CoDriver ≡ Driver → ⊥
    never wrong = absurd (cc)
