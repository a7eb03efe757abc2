-- Choices that fit a second: as it begins, and where a second card is torn out at a moment.
use Rattle.std.proofs.Common.{◌≡◌, ◌⊎◌, inl, inr, ⊎_elim, ℕ, zero, suc, ◌+◌, Bool, true, false, cond, not, ◌&&◌, ◌||◌, Option, Some, None, List, [], ◌∷◌, ◌++◌, map, nat_eq, is_some, refl, ap, sym, subst, ◌∙◌, arith}
use Rattle.std.specs.Prelude.{slice_get}
use Rattle.std.specs.List.{AllByRecursion, list_any}
use Rattle.std.proofs.lemmas.Bool.{eqb-true}
use Rattle.run_events.specs.activity_codec.declared.values.Slot.{Slot}
use Rattle.run_events.specs.activity_codec.declared.values.Slot.TheVariants.{Driver, CoDriver}
use Rattle.run_events.specs.activity_codec.Activity.{same_slot}
use Rattle.run_devices.specs.trace_model.declared.Card.{Card}
use Rattle.run_devices.specs.trace_model.declared.Action.{Action}
use Rattle.run_devices.specs.trace_model.declared.Action.TheVariants.{Select, Insert, Withdraw, Tear as Pull, Place, Manual}
use Rattle.run_devices.specs.trace_model.Trace.{TraceSecond}
use Rattle.run_devices.specs.log_model.declared.lines.SlotFault.{SlotFault}
use Rattle.run_devices.specs.log_model.Log.{RunLog, Phase, In, Keeping, same_phase, cut_in, is_torn_in, is_accepting}
use Rattle.run_devices.specs.log_model.Slots.{Slots, Sitting, other_slot, refusal}
use Rattle.run_devices.specs.log_model.Course.{Visit, Course, Before, Moved, card_in, visits, has_power, second_told, lit_course, slot_told, both_told, moved_by, unmoved, begins, is_settling, fresh, acted, all_acted, answered, cut_told}
use Rattle.run_devices.specs.event_model.Events.{Seen, Tearing, number_of, seen_by, is_first}
use Rattle.run_events.specs.Choice.{IsTornIn}
use Rattle.run_events.proofs.Later.{told-number}
use Rattle.run_note_record.specs.Noting.{Stage}
use Rattle.run_note_record.specs.EventsSoFar.{puts_into, planned, FitsSoFar, MayFollow}
use Rattle.run_note_record.specs.Bringing.{ChoiceBefore, TornSecond}
use Rattle.run_note_record.proofs.Brought.{lit-course, told-speed}
use Rattle.run_note_record.proofs.Parts.{found_now, torn_so, accepted_so, judged}
use Rattle.run_note_record.proofs.Tearing.{and-none, same-self}

bool-or : (b : Bool) → (b ≡ true) ⊎ (b ≡ false)
bool-or true = inl refl
bool-or false = inr refl

-- ---- OF TWO CARDS the other one is the first
abbrev pub first_of_two : Phase → Slot → (torn : Bool) → ℕ → Tearing → Tearing
first_of_two (In zero) slot torn u t = t
first_of_two (In (suc n)) slot false u t = t
first_of_two (In (suc n)) slot true u t = record t { driver_first = λ w k. cond (nat_eq w u && nat_eq (suc n) k) (same_slot (other_slot slot) Driver) (t.driver_first w k) }
first_of_two Keeping slot torn u t = t

pub by-gap-kept : (at : Phase) (slot : Slot) (torn : Bool) (u : ℕ) (t : Tearing) (w : ℕ) (sl : Slot) → (first_of_two at slot torn u t).by_gap w sl ≡ t.by_gap w sl
by-gap-kept (In zero) slot torn u t w sl = refl
by-gap-kept (In (suc n)) slot false u t w sl = refl
by-gap-kept (In (suc n)) slot true u t w sl = refl
by-gap-kept Keeping slot torn u t w sl = refl

pub choice-first : (at : Phase) (slot : Slot) (torn : Bool) (u : ℕ) (t : Tearing) → ChoiceBefore t (first_of_two at slot torn u t) u at
choice-first (In zero) slot torn u t = record { by_gap = λ other sl. refl; driver_first = λ m other. refl }
choice-first (In (suc n)) slot false u t = record { by_gap = λ other sl. refl; driver_first = λ m other. refl }
choice-first (In (suc n)) slot true u t = record {
  by_gap = λ other sl. refl;
  driver_first = λ m other. ap (λ (b : Bool). cond (nat_eq u u && b) (same_slot (other_slot slot) Driver) (t.driver_first u (suc m))) other
      ∙ ap (λ (b : Bool). cond b (same_slot (other_slot slot) Driver) (t.driver_first u (suc m))) (and-none (nat_eq u u));
}
choice-first Keeping slot torn u t = record { by_gap = λ other sl. refl; driver_first = λ m other. refl }

both-tests : (u n : ℕ) → (nat_eq u u && nat_eq (suc n) (suc n)) ≡ true
both-tests u n = λ i. same-self u i && same-self (suc n) i

first-set : (n : ℕ) (slot : Slot) (torn : Bool) (u : ℕ) (t : Tearing) → torn ≡ true → is_first (first_of_two (In (suc n)) slot torn u t) u (suc n) (other_slot slot) ≡ true
first-set n slot false u t is = absurd (cc)
first-set n Driver true u t is = ap (λ (b : Bool). not (cond b false (t.driver_first u (suc n)))) (both-tests u n)
first-set n CoDriver true u t is = ap (λ (b : Bool). cond b true (t.driver_first u (suc n))) (both-tests u n)

pub torn-second : (at : Phase) (slot : Slot) (log : RunLog) (s : TraceSecond) (t : Tearing) → MayFollow at slot log s → TornSecond at slot log s.number (first_of_two at slot (is_torn_in log s.number at (other_slot slot)) s.number t)
torn-second (In zero) slot log s t follow = absurd follow
torn-second (In (suc n)) slot log s t follow = λ torn. first-set n slot (is_torn_in log s.number (In (suc n)) (other_slot slot)) s.number t torn
torn-second Keeping Driver log s t follow = follow
torn-second Keeping CoDriver log s t follow = tt

-- and every insertion's card is the second
put-here : (actions : List Action) (n u : ℕ) (slot sl : Slot) (t : Tearing) → puts_into (other_slot slot) (slice_get actions n) ≡ false → puts_into sl (slice_get actions n) ≡ true → is_first (first_of_two (In (suc n)) slot true u t) u (suc n) sl ≡ false
put-here actions n u Driver Driver t other puts = ap (λ (b : Bool). cond b false (t.driver_first u (suc n))) (both-tests u n)
put-here actions n u CoDriver CoDriver t other puts = ap (λ (b : Bool). not (cond b true (t.driver_first u (suc n)))) (both-tests u n)
put-here actions n u Driver CoDriver t other puts = absurd (let wrong : true ≡ false = sym puts ∙ other in cc)
put-here actions n u CoDriver Driver t other puts = absurd (let wrong : true ≡ false = sym puts ∙ other in cc)

put-there : (n m u : ℕ) (slot sl : Slot) (t : Tearing) → nat_eq (suc n) (suc m) ≡ false → is_first (first_of_two (In (suc n)) slot true u t) u (suc m) sl ≡ is_first t u (suc m) sl
put-there n m u slot Driver t apart = (choice-first (In (suc n)) slot true u t).driver_first m apart
put-there n m u slot CoDriver t apart = ap not ((choice-first (In (suc n)) slot true u t).driver_first m apart)

put-second : (actions : List Action) (n u : ℕ) (slot : Slot) (torn : Bool) (t : Tearing) → (torn ≡ true → puts_into (other_slot slot) (slice_get actions n) ≡ false) →
    ((m : ℕ) (sl : Slot) → puts_into sl (slice_get actions m) ≡ true → is_first t u (suc m) sl ≡ false) → (m : ℕ) (sl : Slot) → puts_into sl (slice_get actions m) ≡ true → is_first (first_of_two (In (suc n)) slot torn u t) u (suc m) sl ≡ false
put-second actions n u slot false t follow put m sl puts = put m sl puts
put-second actions n u slot true t follow put m sl puts = ⊎_elim
    (λ (is : nat_eq (suc n) (suc m) ≡ true).
    let same : suc n ≡ suc m = eqb-true (suc n) (suc m) is in
    let one : n ≡ m = cc in
    subst (λ (k : ℕ). is_first (first_of_two (In (suc n)) slot true u t) u (suc k) sl ≡ false) one
    (put-here actions n u slot sl t (follow refl) (subst (λ (k : ℕ). puts_into sl (slice_get actions k) ≡ true) (sym one) puts)))
    (λ (apart : nat_eq (suc n) (suc m) ≡ false). put-there n m u slot sl t apart ∙ put m sl puts)
    (bool-or (nat_eq (suc n) (suc m)))

pub put-kept : (at : Phase) (slot : Slot) (log : RunLog) (s : TraceSecond) (t : Tearing) → MayFollow at slot log s → ((m : ℕ) (sl : Slot) → puts_into sl (slice_get s.actions m) ≡ true → is_first t s.number (suc m) sl ≡ false) →
    (m : ℕ) (sl : Slot) → puts_into sl (slice_get s.actions m) ≡ true → is_first (first_of_two at slot (is_torn_in log s.number at (other_slot slot)) s.number t) s.number (suc m) sl ≡ false
put-kept (In zero) slot log s t follow put = absurd follow
put-kept (In (suc n)) slot log s t follow put = put-second s.actions n s.number slot (is_torn_in log s.number (In (suc n)) (other_slot slot)) t follow put
put-kept Keeping slot log s t follow put = put

-- ---- AS A SECOND BEGINS
puts-apart : (a : Option Action) → puts_into CoDriver a ≡ true → puts_into Driver a ≡ false
puts-apart None is = absurd (let wrong : false ≡ true = is in cc)
puts-apart (Some (Select at pick)) is = absurd (let wrong : false ≡ true = is in cc)
puts-apart (Some (Insert Driver card)) is = absurd (let wrong : false ≡ true = is in cc)
puts-apart (Some (Insert CoDriver card)) is = refl
puts-apart (Some (Withdraw at)) is = absurd (let wrong : false ≡ true = is in cc)
puts-apart (Some (Pull at)) is = absurd (let wrong : false ≡ true = is in cc)
puts-apart (Some (Place at ending country region)) is = absurd (let wrong : false ≡ true = is in cc)
puts-apart (Some (Manual at pick minute)) is = absurd (let wrong : false ≡ true = is in cc)

pub planned-put : (s : TraceSecond) (n : ℕ) (slot : Slot) → puts_into slot (slice_get s.actions n) ≡ true → is_first (planned s) s.number (suc n) slot ≡ false
planned-put s n Driver puts = ap not puts
planned-put s n CoDriver puts = ap (λ (b : Bool). not (not b)) (puts-apart (slice_get s.actions n) puts)

-- ---- WHO ENTERS with an action was put in by it
abbrev IsPutBy : List Action → Visit → Type 0
IsPutBy actions e = (m : ℕ) → e.phase ≡ In (suc m) → puts_into e.slot (slice_get actions m) ≡ true

pick-entered : (t a : Bool) (x y z : Course) (base : List Visit) → x.entered ≡ base → y.entered ≡ base → z.entered ≡ base → (cond t x (cond a y z)).entered ≡ base
pick-entered true a x y z base ex ey ez = ex
pick-entered false true x y z base ex ey ez = ey
pick-entered false false x y z base ex ey ez = ez

slot-entered : (log : RunLog) (u : ℕ) (p : Phase) (moved : Moved) (slot : Slot) (c : Course) → (slot_told log u p moved slot c).entered ≡ c.entered
slot-entered log u p moved slot c =
    pick-entered (is_torn_in log u p slot) (list_any is_accepting (found_now log u p moved slot)) (torn_so log u p moved slot c) (accepted_so log u p moved slot c) (judged log u p moved slot c) c.entered refl refl refl

both-entered : (log : RunLog) (u : ℕ) (p : Phase) (moved : Moved) (c : Course) → (both_told log u p moved c).entered ≡ c.entered
both-entered log u p moved c = slot-entered log u p moved CoDriver (slot_told log u p moved Driver c) ∙ slot-entered log u p moved Driver c

visits-put : (actions : List Action) (slot : Slot) (o : Option Sitting) → AllByRecursion (IsPutBy actions) (map (λ (card : Card). record { phase = In 0; slot = slot; card = card }) (card_in o))
visits-put actions slot None = tt
visits-put actions slot (Some x) = ((λ m is. absurd (never m is)), tt)
  where
    never : (m : ℕ) → In 0 ≡ In (suc m) → ⊥
    never m is = absurd (let same : 0 ≡ suc m = cc in omega (arith, same))

all-both : {X : Type 0} (P : X → Type 0) (xs ys : List X) → AllByRecursion P xs → AllByRecursion P ys → AllByRecursion P (xs ++ ys)
all-both P [] ys hx hy = hy
all-both P (x ∷ xs) ys hx hy = (hx.0, all-both P xs ys hx.1 hy)

fresh-put : (actions : List Action) (starts : Bool) (slots : Slots) → AllByRecursion (IsPutBy actions) (fresh starts slots).entered
fresh-put actions false slots = tt
fresh-put actions true slots =
    all-both (IsPutBy actions) (visits (In 0) Driver slots) (visits (In 0) CoDriver slots) (visits-put actions Driver slots.driver) (visits-put actions CoDriver slots.codriver)

slot-same : (slot : Slot) → same_slot slot slot ≡ true
slot-same Driver = refl
slot-same CoDriver = refl

answered-put : (actions : List Action) (n : ℕ) (o : Option SlotFault) (a : Action) (c : Course) → slice_get actions n ≡ Some a → AllByRecursion (IsPutBy actions) c.entered → AllByRecursion (IsPutBy actions) (answered n o a c).entered
answered-put actions n (Some r) a c got all = all
answered-put actions n None (Select slot pick) c got all = all
answered-put actions n None (Insert slot card) c got all = all-both (IsPutBy actions) c.entered (record { phase = In (n + 1); slot = slot; card = card } ∷ []) all (one, tt)
  where
    one : (m : ℕ) → In (n + 1) ≡ In (suc m) → puts_into slot (slice_get actions m) ≡ true
    one m is =
        let same : n + 1 ≡ suc m = cc in
        let at : n ≡ m = omega (arith, same) in
        ap (λ (k : ℕ). puts_into slot (slice_get actions k)) (sym at) ∙ ap (puts_into slot) got ∙ slot-same slot
answered-put actions n None (Withdraw slot) c got all = all
answered-put actions n None (Pull slot) c got all = all
answered-put actions n None (Place slot ending country region) c got all = all
answered-put actions n None (Manual slot pick minute) c got all = all

module _ (log : RunLog) (s : TraceSecond) where
  pick-put : (b : Bool) (x y : Course) → AllByRecursion (IsPutBy s.actions) x.entered → AllByRecursion (IsPutBy s.actions) y.entered → AllByRecursion (IsPutBy s.actions) (cond b x y).entered
  pick-put true x y hx hy = hx
  pick-put false x y hx hy = hy

  acted-put : (n : ℕ) (a : Action) (c : Course) → slice_get s.actions n ≡ Some a → AllByRecursion (IsPutBy s.actions) c.entered → AllByRecursion (IsPutBy s.actions) (acted log s n a c).entered
  acted-put n a c got all =
      let d : Course = answered n (refusal c.slots s.speed a) a c in
      let moved : Moved = moved_by n (refusal c.slots s.speed a) a c.slots in
      pick-put (begins (cut_in log s.number) n) (both_told log s.number (In (n + 1)) moved d) (record c { settled = c.settled || is_settling a })
      (subst (AllByRecursion (IsPutBy s.actions)) (sym (both-entered log s.number (In (n + 1)) moved d)) (answered-put s.actions n (refusal c.slots s.speed a) a c got all)) all

  all-put : (n : ℕ) (rest : List Action) (c : Course) → ((k : ℕ) → slice_get rest k ≡ slice_get s.actions (n + k)) → AllByRecursion (IsPutBy s.actions) c.entered → AllByRecursion (IsPutBy s.actions) (all_acted log s n rest c).entered
  all-put n [] c are all = all
  all-put n (a ∷ rest) c are all =
      let here : n + 0 ≡ n = omega arith in
      all-put (n + 1) rest (acted log s n a c) (λ k. (let there : n + suc k ≡ n + 1 + k = omega arith in are (suc k) ∙ ap (slice_get s.actions) there)) (acted-put n a c (sym (are 0 ∙ ap (slice_get s.actions) here)) all)

  cut-put : (b : Bool) (c : Course) → AllByRecursion (IsPutBy s.actions) c.entered → AllByRecursion (IsPutBy s.actions) (cut_told b c).entered
  cut-put true c all = all
  cut-put false c all = all

  lit-put : (starts : Bool) (slots : Slots) → AllByRecursion (IsPutBy s.actions) (lit_course log s starts slots).entered
  lit-put starts slots =
      let first : Course = both_told log s.number (In 0) (unmoved starts) (fresh starts slots) in
      let acts : Course = all_acted log s 0 s.actions first in
      cut-put (is_some (cut_in log s.number)) (both_told log s.number Keeping (unmoved false) acts)
      (subst (AllByRecursion (IsPutBy s.actions)) (sym (both-entered log s.number Keeping (unmoved false) acts))
      (all-put 0 s.actions first (λ k. (let there : k ≡ 0 + k = omega arith in ap (slice_get s.actions) there))
      (subst (AllByRecursion (IsPutBy s.actions)) (sym (both-entered log s.number (In 0) (unmoved starts) (fresh starts slots))) (fresh-put s.actions starts slots))))

same-phase : (p : Phase) (n : ℕ) → same_phase p (In n) ≡ true → p ≡ In n
same-phase (In m) n is = ap In (eqb-true m n is)
same-phase Keeping n is = absurd (let wrong : false ≡ true = is in cc)

same-slot : (a b : Slot) → same_slot a b ≡ true → a ≡ b
same-slot Driver Driver is = refl
same-slot Driver CoDriver is = absurd (let wrong : false ≡ true = is in cc)
same-slot CoDriver Driver is = absurd (let wrong : false ≡ true = is in cc)
same-slot CoDriver CoDriver is = refl

entered-puts : (actions : List Action) (n : ℕ) (slot : Slot) (es : List Visit) → AllByRecursion (IsPutBy actions) es → list_any (λ (v : Visit). same_phase v.phase (In (suc n)) && same_slot v.slot slot) es ≡ true → puts_into slot (slice_get actions n) ≡ true
entered-puts actions n slot [] all is = absurd (let wrong : false ≡ true = is in cc)
entered-puts actions n slot (e ∷ es) all is = ⊎_elim
    (λ (here : same_phase e.phase (In (suc n)) ≡ true). ⊎_elim
    (λ (there : same_slot e.slot slot ≡ true). ap (λ (sl : Slot). puts_into sl (slice_get actions n)) (sym (same-slot e.slot slot there)) ∙ all.0 n (same-phase e.phase (suc n) here))
    (λ (apart : same_slot e.slot slot ≡ false). entered-puts actions n slot es all.1 (sym (ap (λ (b : Bool). (same_phase e.phase (In (suc n)) && b) || rest) apart ∙ ap (λ (b : Bool). b || rest) (and-none (same_phase e.phase (In (suc n))))) ∙ is))
    (bool-or (same_slot e.slot slot)))
    (λ (apart : same_phase e.phase (In (suc n)) ≡ false). entered-puts actions n slot es all.1 (sym (ap (λ (b : Bool). (b && same_slot e.slot slot) || rest) apart) ∙ is))
    (bool-or (same_phase e.phase (In (suc n))))
  where
    rest : Bool
    rest = list_any (λ (v : Visit). same_phase v.phase (In (suc n)) && same_slot v.slot slot) es

-- A CHOICE THAT FITS what is told so far fits the second
pub fits-in : (log : RunLog) (before : Before) (s : TraceSecond) → has_power before s ≡ true → (stage : Stage) (t : Tearing) → FitsSoFar stage s t (seen_by log before s) → IsTornIn t (seen_by log before s)
fits-in log before s power stage t f =
    let x : Seen = seen_by log before s in
    let number : number_of x ≡ s.number = told-number log before s in
    let entered : AllByRecursion (IsPutBy s.actions) (second_told log before s).course.entered =
    subst (AllByRecursion (IsPutBy s.actions)) (sym (ap (λ (c : Course). c.entered) (lit-course log before s power))) (lit-put log s (not before.running) before.slots) in
    record {
      still = λ slot rest torn accepted. ap (λ (u : ℕ). t.by_gap u slot) number ∙ f.still slot (sym (told-speed log before s power) ∙ rest) torn accepted;
      before = λ slot none. ap (λ (u : ℕ). t.by_gap u slot) number ∙ f.before slot none;
      put_in = λ n slot is. ap (λ (u : ℕ). is_first t u (suc n) slot) number ∙ f.put_in n slot (entered-puts s.actions n slot (second_told log before s).course.entered entered is);
    }
