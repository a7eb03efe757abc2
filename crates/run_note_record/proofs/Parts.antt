-- The tears and finds of a moment, behind those of the moments before.
use Rattle.std.proofs.Common.{◌≡◌, ℕ, zero, suc, ◌+◌, ◌≤◌, Bool, true, false, cond, not, ◌||◌, Option, Some, None, List, [], ◌∷◌, ◌++◌, map, length, take, refl, ap, sym, subst, ◌∙◌, arith, append-nil, append_assoc}
use Rattle.std.specs.Prelude.{flat_map, option_map, slice_get}
use Rattle.std.specs.List.{AllByRecursion, list_any}
use Rattle.run_events.specs.activity_codec.declared.values.Slot.{Slot}
use Rattle.run_events.specs.activity_codec.declared.values.Slot.TheVariants.{Driver, CoDriver}
use Rattle.run_events.specs.activity_codec.Activity.{same_slot}
use Rattle.run_devices.specs.trace_model.declared.Card.{Card}
use Rattle.run_devices.specs.trace_model.declared.Action.{Action}
use Rattle.run_devices.specs.trace_model.declared.Action.TheVariants.{Select, Insert, Withdraw, Tear as Pull, Place, Manual}
use Rattle.run_devices.specs.trace_model.Trace.{TraceSecond}
use Rattle.run_devices.specs.log_model.declared.lines.SlotFault.{SlotFault}
use Rattle.run_devices.specs.log_model.declared.lines.Verdict.{Verdict}
use Rattle.run_devices.specs.log_model.Log.{RunLog, Phase, In, Keeping, cut_in, is_torn_in, found_in, is_accepting}
use Rattle.run_devices.specs.log_model.Slots.{Slots, Sitting, in_slot, refusal}
use Rattle.run_devices.specs.log_model.Course.{Visit, Course, Before, Moved, card_in, visits, with_slot, leaves, answered, unmoved, moved_by, slot_told, both_told, begins, is_settling, acted, all_acted, fresh}
use Rattle.run_devices.specs.event_model.Events.{course_by}
use Rattle.run_devices.specs.run_course.Reached.{IsBehind, course_with, moved_with, begun_at, moved_at}
use Rattle.run_note_record.proofs.Whole.{IsTold, answered-told}
use Rattle.run_note_record.proofs.Fronts.{IsFormer}

-- WHAT A MOMENT TELLS of a slot: who was torn out, and what was found
abbrev pub outs : RunLog → ℕ → Phase → Moved → Slot → Course → List Visit
outs log u p moved slot c = cond (is_torn_in log u p slot) (moved.leaving slot ++ visits p slot c.slots) []

abbrev pub found_now : RunLog → ℕ → Phase → Moved → Slot → List Verdict
found_now log u p moved slot = cond (moved.enters slot) (found_in log u p slot) []

abbrev pub finds : RunLog → ℕ → Phase → Moved → Slot → Course → List (Visit × Verdict)
finds log u p moved slot c = flat_map (λ (visit : Visit). map (λ (v : Verdict). (visit, v)) (found_now log u p moved slot)) (visits p slot c.slots)

pick-torn : (t a : Bool) (x y z : Course) (base out : List Visit) → x.torn ≡ base ++ out → y.torn ≡ base → z.torn ≡ base → (cond t x (cond a y z)).torn ≡ base ++ cond t out []
pick-torn true a x y z base out ex ey ez = ex
pick-torn false true x y z base out ex ey ez = ey ∙ sym (append-nil base)
pick-torn false false x y z base out ex ey ez = ez ∙ sym (append-nil base)

pick-found : (t a : Bool) (x y z : Course) (base : List (Visit × Verdict)) → x.found ≡ base → y.found ≡ base → z.found ≡ base → (cond t x (cond a y z)).found ≡ base
pick-found true a x y z base ex ey ez = ex
pick-found false true x y z base ex ey ez = ey
pick-found false false x y z base ex ey ez = ez

pick-slot : (t a : Bool) (x y z : Course) (base : Option Sitting) → x.slots.codriver ≡ base → y.slots.codriver ≡ base → z.slots.codriver ≡ base → (cond t x (cond a y z)).slots.codriver ≡ base
pick-slot true a x y z base ex ey ez = ex
pick-slot false true x y z base ex ey ez = ey
pick-slot false false x y z base ex ey ez = ez

module _ (log : RunLog) (u : ℕ) (p : Phase) (moved : Moved) where
  abbrev pub judged : Slot → Course → Course
  judged slot c = record c { found = c.found ++ finds log u p moved slot c }

  abbrev pub torn_so : Slot → Course → Course
  torn_so slot c = record (leaves slot (judged slot c)) { torn = c.torn ++ (moved.leaving slot ++ visits p slot c.slots) }

  abbrev pub accepted_so : Slot → Course → Course
  accepted_so slot c = record (judged slot c) {
    slots = with_slot c.slots slot (option_map {T = Sitting} {U = Sitting} (λ x. record x { accepted = Some u }) (in_slot c.slots slot));
  }

  slot-torn : (slot : Slot) (c : Course) → (slot_told log u p moved slot c).torn ≡ c.torn ++ outs log u p moved slot c
  slot-torn slot c =
      pick-torn (is_torn_in log u p slot) (list_any is_accepting (found_now log u p moved slot)) (torn_so slot c) (accepted_so slot c) (judged slot c) c.torn (moved.leaving slot ++ visits p slot c.slots) refl refl refl

  slot-found : (slot : Slot) (c : Course) → (slot_told log u p moved slot c).found ≡ c.found ++ finds log u p moved slot c
  slot-found slot c =
      pick-found (is_torn_in log u p slot) (list_any is_accepting (found_now log u p moved slot)) (torn_so slot c) (accepted_so slot c) (judged slot c) (c.found ++ finds log u p moved slot c) refl refl refl

  pub slot-other : (c : Course) → (slot_told log u p moved Driver c).slots.codriver ≡ c.slots.codriver
  slot-other c =
      pick-slot (is_torn_in log u p Driver) (list_any is_accepting (found_now log u p moved Driver)) (torn_so Driver c) (accepted_so Driver c) (judged Driver c) c.slots.codriver refl refl refl

  abbrev visit_of : Slot → Card → Visit
  visit_of slot card = record { phase = p; slot = slot; card = card }

  -- both slots
  pub both-torn : (c : Course) → (both_told log u p moved c).torn ≡ c.torn ++ (outs log u p moved Driver c ++ outs log u p moved CoDriver c)
  both-torn c =
      let d : Course = slot_told log u p moved Driver c in
      slot-torn CoDriver d
      ∙ ap (λ (o : Option Sitting). d.torn ++ cond (is_torn_in log u p CoDriver) (moved.leaving CoDriver ++ map (visit_of CoDriver) (card_in o)) []) (slot-other c)
      ∙ ap (λ (vs : List Visit). vs ++ outs log u p moved CoDriver c) (slot-torn Driver c)
      ∙ append_assoc c.torn (outs log u p moved Driver c) (outs log u p moved CoDriver c)

  pub both-found : (c : Course) → (both_told log u p moved c).found ≡ c.found ++ (finds log u p moved Driver c ++ finds log u p moved CoDriver c)
  both-found c =
      let d : Course = slot_told log u p moved Driver c in
      slot-found CoDriver d
      ∙ ap (λ (o : Option Sitting). d.found ++ flat_map (λ (visit : Visit). map (λ (v : Verdict). (visit, v)) (found_now log u p moved CoDriver)) (map (visit_of CoDriver) (card_in o))) (slot-other c)
      ∙ ap (λ (fs : List (Visit × Verdict)). fs ++ finds log u p moved CoDriver c) (slot-found Driver c)
      ∙ append_assoc c.found (finds log u p moved Driver c) (finds log u p moved CoDriver c)

-- ---- of this moment
all-both : {X : Type 0} (P : X → Type 0) (xs ys : List X) → AllByRecursion P xs → AllByRecursion P ys → AllByRecursion P (xs ++ ys)
all-both P [] ys hx hy = hy
all-both P (x ∷ xs) ys hx hy = (hx.0, all-both P xs ys hx.1 hy)

visits-here : (p : Phase) (slot : Slot) (o : Option Sitting) → AllByRecursion (λ (v : Visit). v.phase ≡ p) (map (λ (card : Card). record { phase = p; slot = slot; card = card }) (card_in o))
visits-here p slot None = tt
visits-here p slot (Some x) = (refl, tt)

pairs-here : (p : Phase) (visit : Visit) → visit.phase ≡ p → (vs : List Verdict) → AllByRecursion (λ (f : Visit × Verdict). f.0.phase ≡ p) (map (λ (v : Verdict). (visit, v)) vs)
pairs-here p visit is [] = tt
pairs-here p visit is (v ∷ vs) = (is, pairs-here p visit is vs)

found-here : (p : Phase) (slot : Slot) (vs : List Verdict) (o : Option Sitting) →
    AllByRecursion (λ (f : Visit × Verdict). f.0.phase ≡ p) (flat_map (λ (visit : Visit). map (λ (v : Verdict). (visit, v)) vs) (map (λ (card : Card). record { phase = p; slot = slot; card = card }) (card_in o)))
found-here p slot vs None = tt
found-here p slot vs (Some x) =
    all-both (λ (f : Visit × Verdict). f.0.phase ≡ p) (map (λ (v : Verdict). (record { phase = p; slot = slot; card = x.card }, v)) vs) [] (pairs-here p (record { phase = p; slot = slot; card = x.card }) refl vs) tt

if-here : (P : Visit → Type 0) (t : Bool) (vs : List Visit) → AllByRecursion P vs → AllByRecursion P (cond t vs [])
if-here P true vs all = all
if-here P false vs all = tt

-- what leaves at a moment leaves at it
abbrev pub AreLeavingAt : Phase → Moved → Type 0
AreLeavingAt p moved = (slot : Slot) → AllByRecursion (λ (v : Visit). v.phase ≡ p) (moved.leaving slot)

pub outs-here : (log : RunLog) (u : ℕ) (p : Phase) (moved : Moved) → AreLeavingAt p moved → (slot : Slot) (c : Course) → AllByRecursion (λ (v : Visit). v.phase ≡ p) (outs log u p moved slot c)
outs-here log u p moved leaving slot c =
    if-here (λ (v : Visit). v.phase ≡ p) (is_torn_in log u p slot) (moved.leaving slot ++ visits p slot c.slots)
    (all-both (λ (v : Visit). v.phase ≡ p) (moved.leaving slot) (visits p slot c.slots) (leaving slot) (visits-here p slot (in_slot c.slots slot)))

pub finds-here : (log : RunLog) (u : ℕ) (p : Phase) (moved : Moved) (slot : Slot) (c : Course) → AllByRecursion (λ (f : Visit × Verdict). f.0.phase ≡ p) (finds log u p moved slot c)
finds-here log u p moved slot c = found-here p slot (found_now log u p moved slot) (in_slot c.slots slot)

pub all-outs : (log : RunLog) (u : ℕ) (p : Phase) (moved : Moved) → AreLeavingAt p moved → (c : Course) → AllByRecursion (λ (v : Visit). v.phase ≡ p) (outs log u p moved Driver c ++ outs log u p moved CoDriver c)
all-outs log u p moved leaving c =
    all-both (λ (v : Visit). v.phase ≡ p) (outs log u p moved Driver c) (outs log u p moved CoDriver c) (outs-here log u p moved leaving Driver c) (outs-here log u p moved leaving CoDriver c)

pub all-finds : (log : RunLog) (u : ℕ) (p : Phase) (moved : Moved) (c : Course) → AllByRecursion (λ (f : Visit × Verdict). f.0.phase ≡ p) (finds log u p moved Driver c ++ finds log u p moved CoDriver c)
all-finds log u p moved c =
    all-both (λ (f : Visit × Verdict). f.0.phase ≡ p) (finds log u p moved Driver c) (finds log u p moved CoDriver c) (finds-here log u p moved Driver c) (finds-here log u p moved CoDriver c)

leaving-by : (n : ℕ) (o : Option SlotFault) (a : Action) (slots : Slots) → AreLeavingAt (In (n + 1)) (moved_by n o a slots)
leaving-by n (Some r) a slots slot = tt
leaving-by n None (Select at pick) slots slot = tt
leaving-by n None (Insert at card) slots slot = tt
leaving-by n None (Withdraw at) slots slot = if-here (λ (v : Visit). v.phase ≡ In (n + 1)) (same_slot at slot) (visits (In (n + 1)) slot slots) (visits-here (In (n + 1)) slot (in_slot slots slot))
leaving-by n None (Pull at) slots slot = tt
leaving-by n None (Place at ending country region) slots slot = tt
leaving-by n None (Manual at pick minute) slots slot = tt

leaving-with : (n : ℕ) (o : Option Action) (speed : ℕ) (c : Course) → AreLeavingAt (In (n + 1)) (moved_with n o speed c)
leaving-with n None speed c slot = tt
leaving-with n (Some a) speed c slot = leaving-by n (refusal c.slots speed a) a c.slots slot

pub leaving-at : (log : RunLog) (before : Before) (s : TraceSecond) (at : Phase) → AreLeavingAt at (moved_at log before s at)
leaving-at log before s (In zero) slot = tt
leaving-at log before s (In (suc n)) slot =
    let e : n + 1 ≡ suc n = omega arith in
    subst (λ (k : ℕ). AllByRecursion (λ (v : Visit). v.phase ≡ In k) ((moved_at log before s (In (suc n))).leaving slot)) e (leaving-with n (slice_get s.actions n) s.speed (course_by log before s n) slot)
leaving-at log before s Keeping slot = tt

-- ---- of the moments before
pub record IsUntil (n : ℕ) (v : Visit) : Type 0 where
  pub m : ℕ
  pub phase : v.phase ≡ In m
  pub low : m ≤ n

pub record AreUntil (n : ℕ) (c : Course) : Type 0 where
  pub torn : AllByRecursion (IsUntil n) c.torn
  pub found : AllByRecursion (λ (f : Visit × Verdict). IsUntil n f.0) c.found

until-more : (n m : ℕ) → n ≤ m → (vs : List Visit) → AllByRecursion (IsUntil n) vs → AllByRecursion (IsUntil m) vs
until-more n m le [] all = tt
until-more n m le (v ∷ vs) all = (let low = all.0.low in record { m = all.0.m; phase = all.0.phase; low = omega (arith, le, low) }, until-more n m le vs all.1)

finds-more : (n m : ℕ) → n ≤ m → (fs : List (Visit × Verdict)) → AllByRecursion (λ (f : Visit × Verdict). IsUntil n f.0) fs → AllByRecursion (λ (f : Visit × Verdict). IsUntil m f.0) fs
finds-more n m le [] all = tt
finds-more n m le (f ∷ fs) all = (let low = all.0.low in record { m = all.0.m; phase = all.0.phase; low = omega (arith, le, low) }, finds-more n m le fs all.1)

until-here : (n : ℕ) (vs : List Visit) → AllByRecursion (λ (v : Visit). v.phase ≡ In n) vs → AllByRecursion (IsUntil n) vs
until-here n [] all = tt
until-here n (v ∷ vs) all = (record { m = n; phase = all.0; low = omega arith }, until-here n vs all.1)

finds-until : (n : ℕ) (fs : List (Visit × Verdict)) → AllByRecursion (λ (f : Visit × Verdict). f.0.phase ≡ In n) fs → AllByRecursion (λ (f : Visit × Verdict). IsUntil n f.0) fs
finds-until n [] all = tt
finds-until n (f ∷ fs) all = (record { m = n; phase = all.0; low = omega arith }, finds-until n fs all.1)

both-until : (log : RunLog) (u k n : ℕ) (moved : Moved) (c : Course) → k ≤ n → AreUntil k c → AreLeavingAt (In n) moved → AreUntil n (both_told log u (In n) moved c)
both-until log u k n moved c le h leaving = record {
  torn = subst (AllByRecursion (IsUntil n)) (sym (both-torn log u (In n) moved c))
      (all-both (IsUntil n) c.torn (outs log u (In n) moved Driver c ++ outs log u (In n) moved CoDriver c) (until-more k n le c.torn h.torn)
      (until-here n (outs log u (In n) moved Driver c ++ outs log u (In n) moved CoDriver c) (all-outs log u (In n) moved leaving c)));
  found = subst (AllByRecursion (λ (f : Visit × Verdict). IsUntil n f.0)) (sym (both-found log u (In n) moved c))
      (all-both (λ (f : Visit × Verdict). IsUntil n f.0) c.found (finds log u (In n) moved Driver c ++ finds log u (In n) moved CoDriver c) (finds-more k n le c.found h.found)
      (finds-until n (finds log u (In n) moved Driver c ++ finds log u (In n) moved CoDriver c) (all-finds log u (In n) moved c)));
}

until-told : (n : ℕ) (c d : Course) → IsTold c d → AreUntil n c → AreUntil n d
until-told n c d is h = record {
  torn = subst (AllByRecursion (IsUntil n)) (sym is.torn) h.torn;
  found = subst (AllByRecursion (λ (f : Visit × Verdict). IsUntil n f.0)) (sym is.found) h.found;
}

module _ (log : RunLog) (s : TraceSecond) (uncut : cut_in log s.number ≡ None) where
  acted-until : (n : ℕ) (a : Action) (c : Course) → AreUntil n c → AreUntil (n + 1) (acted log s n a c)
  acted-until n a c h =
      let d : Course = answered n (refusal c.slots s.speed a) a c in
      let moved : Moved = moved_by n (refusal c.slots s.speed a) a c.slots in
      let is : acted log s n a c ≡ both_told log s.number (In (n + 1)) moved d =
      ap (λ (o : Option ℕ). cond (begins o n) (both_told log s.number (In (n + 1)) moved d) (record c { settled = c.settled || is_settling a })) uncut in
      subst (AreUntil (n + 1)) (sym is)
      (both-until log s.number n (n + 1) moved d (omega arith) (until-told n c d (answered-told n (refusal c.slots s.speed a) a c) h) (leaving-by n (refusal c.slots s.speed a) a c.slots))

  all-until : (n top : ℕ) (acts : List Action) (c : Course) → n + length acts ≤ top → AreUntil n c → AreUntil top (all_acted log s n acts c)
  all-until n top [] c le h = record { torn = until-more n top (omega (arith, le)) c.torn h.torn; found = finds-more n top (omega (arith, le)) c.found h.found }
  all-until n top (a ∷ acts) c le h = all-until (n + 1) top acts (acted log s n a c) (omega (arith, le)) (acted-until n a c h)

  few-taken : (n : ℕ) (acts : List Action) → length (take n acts) ≤ n
  few-taken zero acts = omega arith
  few-taken (suc n) [] = omega arith
  few-taken (suc n) (a ∷ acts) = let le = few-taken n acts in omega (arith, le)

  pub by-until : (before : Before) (n : ℕ) → AreUntil n (course_by log before s n)
  by-until before n =
      let first : Course = fresh (not before.running) before.slots in
      all-until 0 n (take n s.actions) (both_told log s.number (In 0) (unmoved (not before.running)) first) (let le = few-taken n s.actions in omega (arith, le))
      (both-until log s.number 0 0 (unmoved (not before.running)) first (omega arith) (record { torn = tt; found = tt }) (λ slot. tt))

-- AS A MOMENT BEGINS, all tears and finds came before it
pub formers : (n : ℕ) (at : Phase) → ((m : ℕ) → m ≤ n → IsBehind (In m) at) → (vs : List Visit) → AllByRecursion (IsUntil n) vs → AllByRecursion (IsFormer at) vs
formers n at low [] all = tt
formers n at low (v ∷ vs) all = (record { m = all.0.m; phase = all.0.phase; before = low all.0.m all.0.low }, formers n at low vs all.1)

pub found-formers : (n : ℕ) (at : Phase) → ((m : ℕ) → m ≤ n → IsBehind (In m) at) → (fs : List (Visit × Verdict)) → AllByRecursion (λ (f : Visit × Verdict). IsUntil n f.0) fs → AllByRecursion (λ (f : Visit × Verdict). IsFormer at f.0) fs
found-formers n at low [] all = tt
found-formers n at low (f ∷ fs) all = (record { m = all.0.m; phase = all.0.phase; before = low all.0.m all.0.low }, found-formers n at low fs all.1)

pub record AreFormer (at : Phase) (c : Course) : Type 0 where
  pub torn : AllByRecursion (IsFormer at) c.torn
  pub found : AllByRecursion (λ (f : Visit × Verdict). IsFormer at f.0) c.found

with-told : (n : ℕ) (o : Option Action) (speed : ℕ) (c : Course) → IsTold c (course_with n o speed c)
with-told n None speed c = record { torn = refl; found = refl }
with-told n (Some a) speed c = answered-told n (refusal c.slots speed a) a c

pub begun-former : (log : RunLog) (before : Before) (s : TraceSecond) (at : Phase) → cut_in log s.number ≡ None → AreFormer at (begun_at log before s at)
begun-former log before s (In zero) uncut = record { torn = tt; found = tt }
begun-former log before s (In (suc n)) uncut =
    let c : Course = course_by log before s n in
    let d : Course = course_with n (slice_get s.actions n) s.speed c in
    let h : AreUntil n d = until-told n c d (with-told n (slice_get s.actions n) s.speed c) (by-until log s uncut before n) in
    record { torn = formers n (In (suc n)) (λ m le. omega (arith, le)) d.torn h.torn; found = found-formers n (In (suc n)) (λ m le. omega (arith, le)) d.found h.found }
begun-former log before s Keeping uncut =
    let n : ℕ = length s.actions in
    let c : Course = course_by log before s n in
    let h : AreUntil n c = by-until log s uncut before n in
    record { torn = formers n Keeping (λ m le. tt) c.torn h.torn; found = found-formers n Keeping (λ m le. tt) c.found h.found }
