-- What the tear of a card brings: its fault alone.
use Rattle.std.proofs.Common.{◌≡◌, ◌⊎◌, inl, inr, ⊎_elim, ℕ, Bool, true, false, cond, ◌&&◌, ◌||◌, Option, Some, None, List, [], ◌∷◌, ◌++◌, map, nat_eq, refl, ap, sym, ◌∙◌, arith, append-nil}
use Rattle.std.specs.Prelude.{option_map}
use Rattle.std.specs.List.{AllByRecursion, list_any}
use Rattle.std.proofs.lemmas.Bool.Decides.{nat_tests}
use Rattle.std.proofs.lemmas.List.Folds.{list_any-append}
use Rattle.run_events.specs.activity_codec.declared.values.Slot.{Slot}
use Rattle.run_events.specs.activity_codec.declared.values.Slot.TheVariants.{Driver, CoDriver}
use Rattle.run_events.specs.activity_codec.Activity.{same_slot}
use Rattle.run_devices.specs.trace_model.declared.Card.{Card}
use Rattle.run_devices.specs.log_model.declared.lines.Break.TheVariants.{Tear}
use Rattle.run_devices.specs.log_model.declared.lines.Verdict.{Verdict}
use Rattle.run_devices.specs.log_model.Log.{RunLog, Phase, In, Keeping, same_phase, phase_of, tears_here, is_torn_in, is_accepting}
use Rattle.run_devices.specs.log_model.Slots.{Sitting, in_slot, other_slot}
use Rattle.run_devices.specs.log_model.Course.{Visit, Course, Moved, card_in, visits, slot_told, both_told}
use Rattle.run_devices.specs.event_model.Events.{Event, Seen, Tearing, torn_at, torn_in_turn, is_codriver_first}
use Rattle.run_note_record.proofs.Fronts.{IsFormer, former-other}
use Rattle.run_note_record.proofs.Parts.{outs, found_now, judged, torn_so, accepted_so, slot-other}

-- ---- tests
pub and-none : (b : Bool) → (b && false) ≡ false
and-none true = refl
and-none false = refl

pub same-self : (n : ℕ) → nat_eq n n ≡ true
same-self n = grind (arith, nat_tests)

pub phase-self : (p : Phase) → same_phase p p ≡ true
phase-self (In n) = same-self n
phase-self Keeping = refl

pub slot-self : (slot : Slot) → same_slot slot slot ≡ true
slot-self Driver = refl
slot-self CoDriver = refl

pub slot-apart : (slot : Slot) → same_slot slot (other_slot slot) ≡ false
slot-apart Driver = refl
slot-apart CoDriver = refl

pub slot-beside : (slot : Slot) → same_slot (other_slot slot) slot ≡ false
slot-beside Driver = refl
slot-beside CoDriver = refl

pub other-twice : (slot : Slot) → other_slot (other_slot slot) ≡ slot
other-twice Driver = refl
other-twice CoDriver = refl

-- ---- what a tear line tells
module _ (u : ℕ) (begun : ℕ) (late : Bool) (slot : Slot) (failed : Bool) where
  pub told-here : (at : Phase) → phase_of begun late ≡ at → tears_here u at slot (Tear u slot failed begun late) ≡ true
  told-here at is =
      (λ i. same-self u i && same_phase (is i) at && slot-self slot i) ∙ (λ i. true && phase-self at i && true)

  pub told-beside : (p : Phase) → tears_here u p (other_slot slot) (Tear u slot failed begun late) ≡ false
  told-beside p = (λ i. nat_eq u u && same_phase (phase_of begun late) p && slot-apart slot i) ∙ and-none (nat_eq u u && same_phase (phase_of begun late) p)

  pub told-elsewhere : (at p : Phase) (other : Slot) → phase_of begun late ≡ at → same_phase at p ≡ false → tears_here u p other (Tear u slot failed begun late) ≡ false
  told-elsewhere at p other is apart =
      (λ i. same-self u i && same_phase (is i) p && same_slot slot other) ∙ (λ i. true && apart i && same_slot slot other)

-- ---- the slots behind a moment
abbrev pub told_slot : Bool → List Verdict → ℕ → Option Sitting → Option Sitting
told_slot t vs u o = cond t None (cond (list_any is_accepting vs) (option_map {T = Sitting} {U = Sitting} (λ x. record x { accepted = Some u }) o) o)

pick-in : (slot : Slot) (t a : Bool) (x y z : Course) (o1 o2 o3 : Option Sitting) → in_slot x.slots slot ≡ o1 → in_slot y.slots slot ≡ o2 → in_slot z.slots slot ≡ o3 → in_slot (cond t x (cond a y z)).slots slot ≡ cond t o1 (cond a o2 o3)
pick-in slot true a x y z o1 o2 o3 e1 e2 e3 = e1
pick-in slot false true x y z o1 o2 o3 e1 e2 e3 = e2
pick-in slot false false x y z o1 o2 o3 e1 e2 e3 = e3

pick-kept : (slot : Slot) (t a : Bool) (x y z : Course) (o : Option Sitting) → in_slot x.slots slot ≡ o → in_slot y.slots slot ≡ o → in_slot z.slots slot ≡ o → in_slot (cond t x (cond a y z)).slots slot ≡ o
pick-kept slot true a x y z o e1 e2 e3 = e1
pick-kept slot false true x y z o e1 e2 e3 = e2
pick-kept slot false false x y z o e1 e2 e3 = e3

module _ (log : RunLog) (u : ℕ) (p : Phase) (moved : Moved) where
  own-driver : (c : Course) → in_slot (slot_told log u p moved Driver c).slots Driver ≡ told_slot (is_torn_in log u p Driver) (found_now log u p moved Driver) u c.slots.driver
  own-driver c =
      pick-in Driver (is_torn_in log u p Driver) (list_any is_accepting (found_now log u p moved Driver)) (torn_so log u p moved Driver c) (accepted_so log u p moved Driver c) (judged log u p moved Driver c)
      None (option_map {T = Sitting} {U = Sitting} (λ x. record x { accepted = Some u }) c.slots.driver) c.slots.driver refl refl refl

  own-codriver : (c : Course) → in_slot (slot_told log u p moved CoDriver c).slots CoDriver ≡ told_slot (is_torn_in log u p CoDriver) (found_now log u p moved CoDriver) u c.slots.codriver
  own-codriver c =
      pick-in CoDriver (is_torn_in log u p CoDriver) (list_any is_accepting (found_now log u p moved CoDriver)) (torn_so log u p moved CoDriver c) (accepted_so log u p moved CoDriver c) (judged log u p moved CoDriver c)
      None (option_map {T = Sitting} {U = Sitting} (λ x. record x { accepted = Some u }) c.slots.codriver) c.slots.codriver refl refl refl

  kept-driver : (c : Course) → in_slot (slot_told log u p moved CoDriver c).slots Driver ≡ c.slots.driver
  kept-driver c =
      pick-kept Driver (is_torn_in log u p CoDriver) (list_any is_accepting (found_now log u p moved CoDriver)) (torn_so log u p moved CoDriver c) (accepted_so log u p moved CoDriver c) (judged log u p moved CoDriver c)
      c.slots.driver refl refl refl

  pub both-slot : (slot : Slot) (c : Course) → in_slot (both_told log u p moved c).slots slot ≡ told_slot (is_torn_in log u p slot) (found_now log u p moved slot) u (in_slot c.slots slot)
  both-slot Driver c = kept-driver (slot_told log u p moved Driver c) ∙ own-driver c
  both-slot CoDriver c =
      own-codriver (slot_told log u p moved Driver c) ∙ ap (told_slot (is_torn_in log u p CoDriver) (found_now log u p moved CoDriver) u) (slot-other log u p moved c)

pub cards-kept : (t : Bool) (vs : List Verdict) (u : ℕ) (o : Option Sitting) → t ≡ false → card_in (told_slot t vs u o) ≡ card_in o
cards-kept true vs u o is = absurd (cc)
cards-kept false vs u o is = by (list_any is_accepting vs) o
  where
    by : (a : Bool) (o : Option Sitting) → card_in (cond a (option_map {T = Sitting} {U = Sitting} (λ x. record x { accepted = Some u }) o) o) ≡ card_in o
    by true None = refl
    by true (Some x) = refl
    by false o = refl

-- ---- the tears of this moment in their turn, with one more
pub record IsBeside (at : Phase) (slot : Slot) (ws : List Visit) : Type 0 where
  pub w : Visit
  pub are : ws ≡ w ∷ []
  pub slot_is : w.slot ≡ slot
  pub phase_is : w.phase ≡ at

turn-two : (t : Tearing) (y : Seen) (v w : Visit) → (same_phase v.phase w.phase && is_codriver_first t y v.phase) ≡ true → torn_in_turn t y (v ∷ w ∷ []) ≡ w ∷ v ∷ []
turn-two t y v w is = ap (λ (b : Bool). cond b (w ∷ v ∷ []) (v ∷ w ∷ [])) is

turn-kept : (t : Tearing) (y : Seen) (w v : Visit) → is_codriver_first t y w.phase ≡ false → torn_in_turn t y (w ∷ v ∷ []) ≡ w ∷ v ∷ []
turn-kept t y w v is = ap (λ (b : Bool). cond (same_phase w.phase v.phase && b) (v ∷ w ∷ []) (w ∷ v ∷ [])) is ∙ ap (λ (b : Bool). cond b (v ∷ w ∷ []) (w ∷ v ∷ [])) (and-none (same_phase w.phase v.phase))

-- the tear of the other card came first
abbrev pub FirstBeside : Phase → Slot → Tearing → Seen → Type 0
FirstBeside at Driver t y = is_codriver_first t y at ≡ true
FirstBeside at CoDriver t y = is_codriver_first t y at ≡ false

pub turn-second : (slot : Slot) (t : Tearing) (y : Seen) (at : Phase) (card : Card) (ws : List Visit) (out : Slot → List Visit) → out slot ≡ record { phase = at; slot = slot; card = card } ∷ [] → out (other_slot slot) ≡ ws →
    (ws ≡ []) ⊎ (IsBeside at (other_slot slot) ws × FirstBeside at slot t y) → torn_in_turn t y (out Driver ++ out CoDriver) ≡ ws ++ record { phase = at; slot = slot; card = card } ∷ []
turn-second Driver t y at card ws out own other (inl none) =
    let v : Visit = record { phase = at; slot = Driver; card = card } in
    (λ i. torn_in_turn t y (own i ++ other i)) ∙ ap (λ (xs : List Visit). torn_in_turn t y (v ∷ xs)) none ∙ sym (ap (λ (xs : List Visit). xs ++ v ∷ []) none)
turn-second Driver t y at card ws out own other (inr some) =
    let v : Visit = record { phase = at; slot = Driver; card = card } in
    let both : (same_phase at some.0.w.phase && is_codriver_first t y at) ≡ true = (λ i. same_phase at (some.0.phase_is i) && some.1 i) ∙ ap (λ (b : Bool). b && true) (phase-self at) in
    (λ i. torn_in_turn t y (own i ++ other i)) ∙ ap (λ (xs : List Visit). torn_in_turn t y (v ∷ xs)) some.0.are ∙ turn-two t y v some.0.w both ∙ sym (ap (λ (xs : List Visit). xs ++ v ∷ []) some.0.are)
turn-second CoDriver t y at card ws out own other (inl none) =
    let v : Visit = record { phase = at; slot = CoDriver; card = card } in
    (λ i. torn_in_turn t y (other i ++ own i)) ∙ ap (λ (xs : List Visit). torn_in_turn t y (xs ++ v ∷ [])) none ∙ sym (ap (λ (xs : List Visit). xs ++ v ∷ []) none)
turn-second CoDriver t y at card ws out own other (inr some) =
    let v : Visit = record { phase = at; slot = CoDriver; card = card } in
    (λ i. torn_in_turn t y (other i ++ own i))
    ∙ ap (λ (xs : List Visit). torn_in_turn t y (xs ++ v ∷ [])) some.0.are
    ∙ turn-kept t y some.0.w v (ap (is_codriver_first t y) some.0.phase_is ∙ some.1) ∙ sym (ap (λ (xs : List Visit). xs ++ v ∷ []) some.0.are)

-- where nothing of a slot came out, only the other's is left
pub only-other : (slot : Slot) (out : Slot → List Visit) → out slot ≡ [] → out Driver ++ out CoDriver ≡ out (other_slot slot)
only-other Driver out none = ap (λ (xs : List Visit). xs ++ out CoDriver) none
only-other CoDriver out none = ap (λ (xs : List Visit). out Driver ++ xs) none ∙ append-nil (out Driver)

pub few-first : (at : Phase) (slot : Slot) (ws : List Visit) (b : Bool) (P : Type 0) → (b ≡ true → P) → (ws ≡ []) ⊎ (IsBeside at slot ws × (b ≡ true)) → (ws ≡ []) ⊎ (IsBeside at slot ws × P)
few-first at slot ws b P f (inl none) = inl none
few-first at slot ws b P f (inr one) = inr (one.0, f one.1)

pub few-alone : (at : Phase) (slot : Slot) (ws : List Visit) (P : Type 0) → (ws ≡ []) ⊎ (IsBeside at slot ws × P) → (ws ≡ []) ⊎ IsBeside at slot ws
few-alone at slot ws P (inl none) = inl none
few-alone at slot ws P (inr one) = inr one.0

pub map-few : (f g : Visit → Event) (at : Phase) (slot : Slot) (ws : List Visit) (P : Type 0) → (ws ≡ []) ⊎ (IsBeside at slot ws × P) → ((w : Visit) → w.phase ≡ at → w.slot ≡ slot → P → f w ≡ g w) → map f ws ≡ map g ws
map-few f g at slot ws P (inl none) same = ap (map f) none ∙ sym (ap (map g) none)
map-few f g at slot ws P (inr one) same = ap (map f) one.0.are ∙ ap (λ (e : Event). e ∷ []) (same one.0.w one.0.phase_is one.0.slot_is one.1) ∙ sym (ap (map g) one.0.are)

pub turn-few : (t : Tearing) (x : Seen) (at : Phase) (slot : Slot) (ws : List Visit) → (ws ≡ []) ⊎ IsBeside at slot ws → torn_in_turn t x ws ≡ ws
turn-few t x at slot ws few = ⊎_elim (λ none. ap (torn_in_turn t x) none ∙ sym none) (λ one. ap (torn_in_turn t x) one.are ∙ sym one.are) few

-- ---- a slot's card was not torn out at this moment, by the lists
former-none : (at : Phase) (slot : Slot) (vs : List Visit) → AllByRecursion (IsFormer at) vs → list_any (λ (v : Visit). same_phase v.phase at && same_slot v.slot slot) vs ≡ false
former-none at slot [] all = refl
former-none at slot (v ∷ vs) all =
    ap (λ (b : Bool). (b && same_slot v.slot slot) || list_any (λ (v : Visit). same_phase v.phase at && same_slot v.slot slot) vs) (former-other at v all.0) ∙ former-none at slot vs all.1

pub not-torn : (at : Phase) (slot : Slot) (x : Seen) (front ws : List Visit) → x.told.course.torn ≡ front ++ ws → AllByRecursion (IsFormer at) front → (ws ≡ []) ⊎ IsBeside at (other_slot slot) ws → torn_at x at slot ≡ false
not-torn at slot x front ws are former few =
    let test : Visit → Bool = λ (v : Visit). same_phase v.phase at && same_slot v.slot slot in
    ap (list_any test) are ∙ list_any-append test front ws ∙ ap (λ (b : Bool). b || list_any test ws) (former-none at slot front former)
    ∙ ⊎_elim (λ none. ap (list_any test) none)
    (λ one. ap (list_any test) one.are ∙ (λ i. (same_phase one.w.phase at && same_slot (one.slot_is i) slot) || false) ∙ (λ i. (same_phase one.w.phase at && slot-beside slot i) || false) ∙ ap (λ (b : Bool). b || false) (and-none (same_phase one.w.phase at)))
    few

-- ---- who leaves a slot at a moment is one at most
pub few-torn : (log : RunLog) (u : ℕ) (at : Phase) (moved : Moved) (slot : Slot) (c : Course) → ((moved.leaving slot ++ visits at slot c.slots ≡ []) ⊎ IsBeside at slot (moved.leaving slot ++ visits at slot c.slots)) →
    (outs log u at moved slot c ≡ []) ⊎ (IsBeside at slot (outs log u at moved slot c) × (is_torn_in log u at slot ≡ true))
few-torn log u at moved slot c few = by (is_torn_in log u at slot) few
  where
    by : (t : Bool) → ((moved.leaving slot ++ visits at slot c.slots ≡ []) ⊎ IsBeside at slot (moved.leaving slot ++ visits at slot c.slots)) →
        (cond t (moved.leaving slot ++ visits at slot c.slots) [] ≡ []) ⊎ (IsBeside at slot (cond t (moved.leaving slot ++ visits at slot c.slots) []) × (t ≡ true))
    by true (inl none) = inl none
    by true (inr one) = inr (one, refl)
    by false few = inl refl
