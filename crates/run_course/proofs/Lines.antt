-- What a line that is told now makes of the moment that a second has reached.
use Rattle.std.proofs.Common.{◌≡◌, inl, ⊎_elim, ℕ, zero, suc, ◌+◌, ◌≤◌, Bool, true, false, cond, ◌&&◌, ◌||◌, Option, Some, None, List, [], ◌∷◌, ◌++◌, Contains, length, map, filter, nat_eq, refl, ap, sym, subst, ◌∙◌, arith, append-nil, length-append}
use Rattle.std.specs.Prelude.{option_map, slice_get, flat_map}
use Rattle.std.specs.List.{list_any}
use Rattle.std.proofs.lemmas.Bool.Decides.{nat_tests}
use Rattle.std.proofs.lemmas.List.{map-append}
use Rattle.std.proofs.lemmas.List.Elements.{filter-append, Contains-append_left, Contains-append_right, Contains-append_cases}
use Rattle.activity_codec.specs.declared.values.Slot.{Slot}
use Rattle.activity_codec.specs.declared.values.Slot.TheVariants.{Driver, CoDriver}
use Rattle.activity_codec.specs.Activity.{same_slot}
use Rattle.trace_model.specs.declared.Card.{Card}
use Rattle.trace_model.specs.declared.Action.{Action}
use Rattle.trace_model.specs.declared.Action.TheVariants.{Select, Insert, Withdraw, Tear, Place, Manual}
use Rattle.trace_model.specs.Trace.{TraceSecond}
use Rattle.log_model.specs.declared.lines.Break.{Break}
use Rattle.log_model.specs.declared.lines.Find.{Find}
use Rattle.log_model.specs.declared.lines.SlotFault.{SlotFault}
use Rattle.log_model.specs.declared.lines.Verdict.{Verdict}
use Rattle.log_model.specs.Log.{RunLog, Phase, In, Keeping, same_phase, phase_of, cut_in, tears_here, is_torn_in, found_in, is_accepting}
use Rattle.log_model.specs.Slots.{Slots, Sitting, same_card, in_slot, other_slot, refusal}
use Rattle.log_model.specs.Causes.{visit_places, in_the_slot}
use Rattle.log_model.specs.Course.{Course, Visit, Before, Moved, visits, card_in, leaves, with_slot, slot_told, both_told, moved_by}
use Rattle.event_model.specs.Events.{course_by}
use Rattle.run_course.specs.Moments.{and_break, and_find, finds_here, SameUpTo}
use Rattle.run_course.specs.Within.{IsTornFrom, TearsAt, IsFoundOf, FindsAt}
use Rattle.run_course.proofs.Lookups.{break-more, find-more}
use Rattle.run_course.proofs.Moments.{course-same}
use Rattle.run_course.proofs.Within.{tear-told, find-told}
use Rattle.run_course.specs.Reached.{IsBehind, course_with, moved_with, begun_at, moved_at, course_at, IsUpTo, IsTearAt, IsFindAt}
use Rattle.run_course.specs.Lines.{WhoSitsIsNotTorn, times_of, IsTornAt, ATearIsSeen, AFindIsSeen, ARefusalIsSeen}
use Rattle.run_course.proofs.Reached.{tear-up_to, find-up_to}

-- EARLIER MOMENTS stay
earlier-phase : (p at : Phase) → IsBehind p at → same_phase at p ≡ false
earlier-phase (In n) (In m) lt = grind (arith, nat_tests)
earlier-phase (In n) Keeping h = refl
earlier-phase Keeping p h = absurd h

and-false : (t b : Bool) → t ≡ false → (t && b) ≡ false
and-false true b is = absurd (cc)
and-false false b is = refl

false-and : (t b : Bool) → b ≡ false → (t && b) ≡ false
false-and true b is = is
false-and false b is = refl

or-nothing : (x y : Bool) → y ≡ false → (x || y) ≡ x
or-nothing true y is = refl
or-nothing false y is = is

-- two logs tell the same of each moment before one
record SameBefore (log later : RunLog) (u : ℕ) (at : Phase) : Type 0 where
  old : cut_in log u ≡ None
  new : cut_in later u ≡ None
  torn : (p : Phase) (slot : Slot) → IsBehind p at → is_torn_in later u p slot ≡ is_torn_in log u p slot
  found : (p : Phase) (slot : Slot) → IsBehind p at → found_in later u p slot ≡ found_in log u p slot

upto : (log later : RunLog) (u : ℕ) (at : Phase) (n : ℕ) → ((m : ℕ) → m ≤ n → IsBehind (In m) at) → SameBefore log later u at → SameUpTo log later u n
upto log later u at n behind same =
    record { none = same.old; behind = inl same.new; torn = λ m slot le. same.torn (In m) slot (behind m le); found = λ m slot le. same.found (In m) slot (behind m le) }

begun-same : (log later : RunLog) (before : Before) (s : TraceSecond) (at : Phase) → SameBefore log later s.number at →
    (begun_at later before s at ≡ begun_at log before s at) × (moved_at later before s at ≡ moved_at log before s at)
begun-same log later before s (In zero) same = (refl, refl)
begun-same log later before s (In (suc n)) same =
    let is : course_by later before s n ≡ course_by log before s n = course-same log later s n (upto log later s.number (In (suc n)) n (λ m le. omega (arith, le)) same) before in
    (ap (course_with n (slice_get s.actions n) s.speed) is, ap (moved_with n (slice_get s.actions n) s.speed) is)
begun-same log later before s Keeping same =
    (course-same log later s (length s.actions) (upto log later s.number Keeping (length s.actions) (λ m le. tt) same) before, refl)

same-number : (u : ℕ) → nat_eq u u ≡ true
same-number u = grind (arith, nat_tests)

same-phase : (p : Phase) → same_phase p p ≡ true
same-phase (In n) = same-number n
same-phase Keeping = refl

tears-elsewhere : (s : TraceSecond) (at p : Phase) (slot other : Slot) (failed : Bool) (b : Break) → IsTearAt s at slot failed b → same_phase at p ≡ false → tears_here s.number p other b ≡ false
tears-elsewhere s at p slot other failed b is not_here =
    ap (tears_here s.number p other) is.2
    ∙ and-false (nat_eq s.number s.number && same_phase (phase_of is.0 is.1) p) (same_slot slot other)
    (false-and (nat_eq s.number s.number) (same_phase (phase_of is.0 is.1) p) (ap (λ (q : Phase). same_phase q p) is.3 ∙ not_here))

tear-before : (log : RunLog) (s : TraceSecond) (at : Phase) (slot : Slot) (failed : Bool) (b : Break) → IsTearAt s at slot failed b → IsUpTo log s.number at → SameBefore log (and_break log b) s.number at
tear-before log s at slot failed b is up = record {
  old = up.uncut;
  new = (tear-up_to log s at slot failed b is up).uncut;
  torn = λ p other behind. (break-more log b s.number).torn p other
      ∙ or-nothing (is_torn_in log s.number p other) (tears_here s.number p other b) (tears-elsewhere s at p slot other failed b is (earlier-phase p at behind));
  found = λ p other behind. (break-more log b s.number).found p other;
}

-- a tear leaves all before its moment as it was, and the other slot
pub tear-begun : (later log : RunLog) (before : Before) (s : TraceSecond) (at : Phase) (slot : Slot) (failed : Bool) (b : Break) → IsTearAt s at slot failed b → IsUpTo log s.number at → later ≡ and_break log b →
    (begun_at later before s at ≡ begun_at log before s at) × (moved_at later before s at ≡ moved_at log before s at)
tear-begun later log before s at slot failed b is up same =
    subst (λ (l : RunLog). (begun_at l before s at ≡ begun_at log before s at) × (moved_at l before s at ≡ moved_at log before s at)) (sym same) (begun-same log (and_break log b) before s at (tear-before log s at slot failed b is up))

append-none : {X : Type 0} (xs : List X) (x : X) (b : Bool) → b ≡ false → xs ++ cond b (x ∷ []) [] ≡ xs
append-none xs x true is = absurd (cc)
append-none xs x false is = append-nil xs

finds-elsewhere : (s : TraceSecond) (at p : Phase) (other : Slot) (f : Find) → IsFindAt s at f → same_phase at p ≡ false → finds_here s.number p other f ≡ false
finds-elsewhere s at p other f is not_here =
    and-false (nat_eq f.second s.number && same_phase (In f.begun) p) (same_slot f.slot other)
    (false-and (nat_eq f.second s.number) (same_phase (In f.begun) p) (ap (λ (q : Phase). same_phase q p) is.begun ∙ not_here))

find-before : (log : RunLog) (s : TraceSecond) (at : Phase) (f : Find) → IsFindAt s at f → IsUpTo log s.number at → SameBefore log (and_find log f) s.number at
find-before log s at f is up = record {
  old = up.uncut;
  new = (find-up_to log s at f is up).uncut;
  torn = λ p other behind. (find-more log f s.number).torn p other;
  found = λ p other behind. (find-more log f s.number).found p other
      ∙ append-none (found_in log s.number p other) f.verdict (finds_here s.number p other f) (finds-elsewhere s at p other f is (earlier-phase p at behind));
}

-- ONE SLOT at a moment
abbrev judged : Phase → Slot → Course → List Verdict → Course
judged p slot c verdicts = record c { found = c.found ++ flat_map (λ (visit : Visit). map (λ (v : Verdict). (visit, v)) verdicts) (visits p slot c.slots) }

abbrev entering : RunLog → ℕ → Phase → Moved → Slot → List Verdict
entering log u p moved slot = cond (moved.enters slot) (found_in log u p slot) []

abbrev accepting : ℕ → Slots → Slot → Slots
accepting u slots slot = with_slot slots slot (option_map {T = Sitting} (λ x. record x { accepted = Some u }) (in_slot slots slot))

pick-torn : (t acc : Bool) (x y z : Course) → (cond t x (cond acc y z)).torn ≡ cond t x.torn (cond acc y.torn z.torn)
pick-torn true acc x y z = refl
pick-torn false true x y z = refl
pick-torn false false x y z = refl

pick-slots : (t acc : Bool) (x y z : Course) → (cond t x (cond acc y z)).slots ≡ cond t x.slots (cond acc y.slots z.slots)
pick-slots true acc x y z = refl
pick-slots false true x y z = refl
pick-slots false false x y z = refl

same-both : {X : Type 0} (b : Bool) (x : X) → cond b x x ≡ x
same-both true x = refl
same-both false x = refl

slot-torn : (log : RunLog) (u : ℕ) (p : Phase) (moved : Moved) (slot : Slot) (c : Course) →
    (slot_told log u p moved slot c).torn ≡ cond (is_torn_in log u p slot) (c.torn ++ (moved.leaving slot ++ visits p slot c.slots)) c.torn
slot-torn log u p moved slot c =
    let vs : List Verdict = entering log u p moved slot in
    pick-torn (is_torn_in log u p slot) (list_any is_accepting vs)
    (record (leaves slot (judged p slot c vs)) { torn = c.torn ++ (moved.leaving slot ++ visits p slot c.slots) }) (record (judged p slot c vs) { slots = accepting u c.slots slot }) (judged p slot c vs)
    ∙ ap (λ (ws : List Visit). cond (is_torn_in log u p slot) (c.torn ++ (moved.leaving slot ++ visits p slot c.slots)) ws) (same-both (list_any is_accepting vs) c.torn)

slot-slots : (log : RunLog) (u : ℕ) (p : Phase) (moved : Moved) (slot : Slot) (c : Course) →
    (slot_told log u p moved slot c).slots
    ≡ cond (is_torn_in log u p slot) (with_slot c.slots slot None) (cond (list_any is_accepting (entering log u p moved slot)) (accepting u c.slots slot) c.slots)
slot-slots log u p moved slot c =
    let vs : List Verdict = entering log u p moved slot in
    pick-slots (is_torn_in log u p slot) (list_any is_accepting vs)
    (record (leaves slot (judged p slot c vs)) { torn = c.torn ++ (moved.leaving slot ++ visits p slot c.slots) }) (record (judged p slot c vs) { slots = accepting u c.slots slot }) (judged p slot c vs)

card-accepted : (u : ℕ) (o : Option Sitting) → card_in (option_map {T = Sitting} (λ x. record x { accepted = Some u }) o) ≡ card_in o
card-accepted u None = refl
card-accepted u (Some sitting) = refl

-- the card of the slot stays where it is not torn out; that of the other slot anyway
here-stays : (u : ℕ) (p : Phase) (slot : Slot) (slots : Slots) (t acc : Bool) → t ≡ false → visits p slot (cond t (with_slot slots slot None) (cond acc (accepting u slots slot) slots)) ≡ visits p slot slots
here-stays u p slot slots true acc is = absurd (cc)
here-stays u p Driver slots false true is = ap (map (λ (card : Card). record { phase = p; slot = Driver; card = card })) (card-accepted u slots.driver)
here-stays u p CoDriver slots false true is = ap (map (λ (card : Card). record { phase = p; slot = CoDriver; card = card })) (card-accepted u slots.codriver)
here-stays u p slot slots false false is = refl

there-stays : (u : ℕ) (p : Phase) (slot : Slot) (slots : Slots) (t acc : Bool) → in_slot (cond t (with_slot slots slot None) (cond acc (accepting u slots slot) slots)) (other_slot slot) ≡ in_slot slots (other_slot slot)
there-stays u p Driver slots true acc = refl
there-stays u p Driver slots false true = refl
there-stays u p Driver slots false false = refl
there-stays u p CoDriver slots true acc = refl
there-stays u p CoDriver slots false true = refl
there-stays u p CoDriver slots false false = refl

-- WHO SITS
torn-empty : (u : ℕ) (slot : Slot) (slots : Slots) (t acc : Bool) (x : Sitting) → in_slot (cond t (with_slot slots slot None) (cond acc (accepting u slots slot) slots)) slot ≡ Some x → t ≡ false
torn-empty u Driver slots true acc x is = absurd (cc)
torn-empty u CoDriver slots true acc x is = absurd (cc)
torn-empty u slot slots false acc x is = refl

module _ (log : RunLog) (u : ℕ) (p : Phase) (moved : Moved) (c : Course) where
  abbrev d : Course
  d = slot_told log u p moved Driver c

  abbrev torn_d : Bool
  torn_d = is_torn_in log u p Driver

  abbrev torn_c : Bool
  torn_c = is_torn_in log u p CoDriver

  abbrev accepts_d : Bool
  accepts_d = list_any is_accepting (entering log u p moved Driver)

  abbrev accepts_c : Bool
  accepts_c = list_any is_accepting (entering log u p moved CoDriver)

  slots-now : (both_told log u p moved c).slots ≡ cond torn_c (with_slot d.slots CoDriver None) (cond accepts_c (accepting u d.slots CoDriver) d.slots)
  slots-now = slot-slots log u p moved CoDriver d

  slots-first : d.slots ≡ cond torn_d (with_slot c.slots Driver None) (cond accepts_d (accepting u c.slots Driver) c.slots)
  slots-first = slot-slots log u p moved Driver c

  driver-now : (both_told log u p moved c).slots.driver ≡ d.slots.driver
  driver-now = ap (λ (s : Slots). s.driver) slots-now ∙ there-stays u p CoDriver d.slots torn_c accepts_c

  codriver-first : d.slots.codriver ≡ c.slots.codriver
  codriver-first = ap (λ (s : Slots). s.codriver) slots-first ∙ there-stays u p Driver c.slots torn_d accepts_d

  pub sits-untorn : (slot : Slot) (x : Sitting) → in_slot (both_told log u p moved c).slots slot ≡ Some x → is_torn_in log u p slot ≡ false
  sits-untorn Driver x is = torn-empty u Driver c.slots torn_d accepts_d x (ap (λ (s : Slots). s.driver) (sym slots-first) ∙ sym driver-now ∙ is)
  sits-untorn CoDriver x is = torn-empty u CoDriver d.slots torn_c accepts_c x (ap (λ (s : Slots). s.codriver) (sym slots-now) ∙ is)

  abbrev out_d : List Visit
  out_d = moved.leaving Driver ++ visits p Driver c.slots

  abbrev out_c : List Visit
  out_c = moved.leaving CoDriver ++ visits p CoDriver c.slots

  -- what was torn out of both slots
  torn-now : (both_told log u p moved c).torn ≡ cond torn_c (cond torn_d (c.torn ++ out_d) c.torn ++ out_c) (cond torn_d (c.torn ++ out_d) c.torn)
  torn-now =
      slot-torn log u p moved CoDriver d
      ∙ ap (λ (o : Option Sitting). cond torn_c (d.torn ++ (moved.leaving CoDriver ++ map (λ (card : Card). record { phase = p; slot = CoDriver; card = card }) (card_in o))) d.torn) codriver-first
      ∙ ap (λ (vs : List Visit). cond torn_c (vs ++ out_c) vs) (slot-torn log u p moved Driver c)

  -- what a tear now takes out of a slot
  out-driver : torn_d ≡ false → visits p Driver (both_told log u p moved c).slots ≡ visits p Driver c.slots
  out-driver is =
      ap (λ (o : Option Sitting). map (λ (card : Card). record { phase = p; slot = Driver; card = card }) (card_in o)) driver-now
      ∙ ap (visits p Driver) slots-first ∙ here-stays u p Driver c.slots torn_d accepts_d is

  out-codriver : torn_c ≡ false → visits p CoDriver (both_told log u p moved c).slots ≡ visits p CoDriver c.slots
  out-codriver is =
      ap (visits p CoDriver) slots-now ∙ here-stays u p CoDriver d.slots torn_c accepts_c is
      ∙ ap (λ (o : Option Sitting). map (λ (card : Card). record { phase = p; slot = CoDriver; card = card }) (card_in o)) codriver-first

pub who-sits : WhoSitsIsNotTorn
who-sits log before s at slot x is = sits-untorn log s.number at (moved_at log before s at) (begun_at log before s at) slot x is

-- PLACES of some visits
places-append : (at : Slot) (u : ℕ) (xs ys : List Visit) → in_the_slot at (visit_places u (xs ++ ys)) ≡ in_the_slot at (visit_places u xs) ++ in_the_slot at (visit_places u ys)
places-append at u xs ys =
    ap (in_the_slot at) (map-append (λ (v : Visit). (u, v.phase, v.slot)) xs ys) ∙ filter-append (λ (q : ℕ × Phase × Slot). same_slot q.2 at) (visit_places u xs) (visit_places u ys)

pub times-append : (card : Card) (xs ys : List Visit) → times_of card (xs ++ ys) ≡ times_of card xs + times_of card ys
times-append card xs ys =
    ap (λ (cs : List Card). length (filter (same_card card) cs)) (map-append (λ (v : Visit). v.card) xs ys)
    ∙ ap length (filter-append (same_card card) (map (λ (v : Visit). v.card) xs) (map (λ (v : Visit). v.card) ys))
    ∙ length-append (filter (same_card card) (map (λ (v : Visit). v.card) xs)) (filter (same_card card) (map (λ (v : Visit). v.card) ys))

-- all of these are of a slot
AllOf : Slot → List Visit → Type 0
AllOf slot vs = (at : Slot) (u : ℕ) → same_slot slot at ≡ false → in_the_slot at (visit_places u vs) ≡ []

of-visits : (p : Phase) (slot : Slot) (slots : Slots) → AllOf slot (visits p slot slots)
unfolding AllOf
of-visits p slot slots at u other = go (card_in (in_slot slots slot))
  where
    go : (cs : List Card) → in_the_slot at (visit_places u (map (λ (card : Card). record { phase = p; slot = slot; card = card }) cs)) ≡ []
    go [] = refl
    go (card ∷ cs) = ap (λ (t : Bool). cond t ((u, p, slot) ∷ in_the_slot at (visit_places u (map (λ (card : Card). record { phase = p; slot = slot; card = card }) cs))) (in_the_slot at (visit_places u (map (λ (card : Card). record { phase = p; slot = slot; card = card }) cs)))) other ∙ go cs

of-none : (slot : Slot) → AllOf slot []
unfolding AllOf
of-none slot at u other = refl

of-both : (slot : Slot) (xs ys : List Visit) → AllOf slot xs → AllOf slot ys → AllOf slot (xs ++ ys)
unfolding AllOf
of-both slot xs ys hx hy at u other = places-append at u xs ys ∙ ap (λ (ps : List (ℕ × Phase × Slot)). ps ++ in_the_slot at (visit_places u ys)) (hx at u other) ∙ hy at u other

of-where : (b : Bool) (slot : Slot) (vs : List Visit) → AllOf slot vs → AllOf slot (cond b vs [])
of-where true slot vs h = h
of-where false slot vs h = of-none slot

leaving-of : (n : ℕ) (r : Option SlotFault) (a : Action) (slots : Slots) (slot : Slot) → AllOf slot ((moved_by n r a slots).leaving slot)
leaving-of n (Some fault) a slots slot = of-none slot
leaving-of n None (Select at pick) slots slot = of-none slot
leaving-of n None (Insert at card) slots slot = of-none slot
leaving-of n None (Withdraw at) slots slot = of-where (same_slot at slot) slot (visits (In (n + 1)) slot slots) (of-visits (In (n + 1)) slot slots)
leaving-of n None (Tear at) slots slot = of-none slot
leaving-of n None (Place at ending country region) slots slot = of-none slot
leaving-of n None (Manual at pick minute) slots slot = of-none slot

leaving-with : (n : ℕ) (o : Option Action) (speed : ℕ) (c : Course) (slot : Slot) → AllOf slot ((moved_with n o speed c).leaving slot)
leaving-with n None speed c slot = of-none slot
leaving-with n (Some a) speed c slot = leaving-of n (refusal c.slots speed a) a c.slots slot

leaving-at : (log : RunLog) (before : Before) (s : TraceSecond) (at : Phase) (slot : Slot) → AllOf slot ((moved_at log before s at).leaving slot)
leaving-at log before s (In zero) slot = of-none slot
leaving-at log before s (In (suc n)) slot = leaving-with n (slice_get s.actions n) s.speed (course_by log before s n) slot
leaving-at log before s Keeping slot = of-none slot

-- A TEAR, by what two moments tell that differ in it alone
torn-parts : (u : ℕ) (a x y : List Visit) (b : Bool) → AllOf Driver x → AllOf CoDriver y → (at : Slot) →
    in_the_slot at (visit_places u (cond b ((a ++ x) ++ y) (a ++ x))) ≡ in_the_slot at (visit_places u (cond b (a ++ y) a)) ++ in_the_slot at (visit_places u x)
unfolding AllOf
torn-parts u a x y false hx hy at = places-append at u a x
torn-parts u a x y true hx hy Driver =
    let f : List Visit → List (ℕ × Phase × Slot) = λ vs. in_the_slot Driver (visit_places u vs) in
    places-append Driver u (a ++ x) y ∙ ap (λ (ps : List (ℕ × Phase × Slot)). f (a ++ x) ++ ps) (hy Driver u refl) ∙ append-nil (f (a ++ x)) ∙ places-append Driver u a x
    ∙ ap (λ (ps : List (ℕ × Phase × Slot)). ps ++ f x) (sym (places-append Driver u a y ∙ ap (λ (ps : List (ℕ × Phase × Slot)). f a ++ ps) (hy Driver u refl) ∙ append-nil (f a)))
torn-parts u a x y true hx hy CoDriver =
    let f : List Visit → List (ℕ × Phase × Slot) = λ vs. in_the_slot CoDriver (visit_places u vs) in
    places-append CoDriver u (a ++ x) y
    ∙ ap (λ (ps : List (ℕ × Phase × Slot)). ps ++ f y) (places-append CoDriver u a x ∙ ap (λ (ps : List (ℕ × Phase × Slot)). f a ++ ps) (hx CoDriver u refl) ∙ append-nil (f a))
    ∙ sym (places-append CoDriver u a y)
    ∙ sym (ap (λ (ps : List (ℕ × Phase × Slot)). f (a ++ y) ++ ps) (hx CoDriver u refl) ∙ append-nil (f (a ++ y)))

times-parts : (card : Card) (a x y : List Visit) (b : Bool) → times_of card (cond b ((a ++ x) ++ y) (a ++ x)) ≡ times_of card (cond b (a ++ y) a) + times_of card x
times-parts card a x y false = times-append card a x
times-parts card a x y true = let e = times-append card (a ++ x) y in let f = times-append card a x in let g = times-append card a y in omega (arith, e, f, g)

stays-parts : (v : Visit) (a x y : List Visit) (b : Bool) → Contains (cond b (a ++ y) a) v → Contains (cond b ((a ++ x) ++ y) (a ++ x)) v
stays-parts v a x y false h = Contains-append_left a x v h
stays-parts v a x y true h = ⊎_elim (λ old. Contains-append_left (a ++ x) y v (Contains-append_left a x v old)) (λ one. Contains-append_right (a ++ x) y v one) (Contains-append_cases a y v h)

new-parts : (v : Visit) (a x y : List Visit) (b : Bool) → Contains x v → Contains (cond b ((a ++ x) ++ y) (a ++ x)) v
new-parts v a x y false h = Contains-append_right a x v h
new-parts v a x y true h = Contains-append_left (a ++ x) y v (Contains-append_right a x v h)

torn-driver : (u : ℕ) (p : Phase) (c : Course) (x y : List Visit) (b : Bool) (old new : Course) → IsTornFrom Driver old new → AllOf Driver x → AllOf CoDriver y →
    old.torn ≡ cond b (c.torn ++ y) c.torn → new.torn ≡ cond b ((c.torn ++ x) ++ y) (c.torn ++ x) → IsTornAt u Driver x old new
torn-driver u p c x y b old new is hx hy was now = record {
  is = is;
  torn = λ at. ap (λ (vs : List Visit). in_the_slot at (visit_places u vs)) now ∙ torn-parts u c.torn x y b hx hy at
      ∙ ap (λ (vs : List Visit). in_the_slot at (visit_places u vs) ++ in_the_slot at (visit_places u x)) (sym was);
  times = λ card. ap (times_of card) now ∙ times-parts card c.torn x y b ∙ ap (λ (vs : List Visit). times_of card vs + times_of card x) (sym was);
  stays = λ v h. subst (λ (vs : List Visit). Contains vs v) (sym now) (stays-parts v c.torn x y b (subst (λ (vs : List Visit). Contains vs v) was h));
  new_ones = λ v h. subst (λ (vs : List Visit). Contains vs v) (sym now) (new-parts v c.torn x y b h);
}

torn-codriver : (u : ℕ) (y : List Visit) (old new : Course) → IsTornFrom CoDriver old new → new.torn ≡ old.torn ++ y → IsTornAt u CoDriver y old new
torn-codriver u y old new is now = record {
  is = is;
  torn = λ at. ap (λ (vs : List Visit). in_the_slot at (visit_places u vs)) now ∙ places-append at u old.torn y;
  times = λ card. ap (times_of card) now ∙ times-append card old.torn y;
  stays = λ v h. subst (λ (vs : List Visit). Contains vs v) (sym now) (Contains-append_left old.torn y v h);
  new_ones = λ v h. subst (λ (vs : List Visit). Contains vs v) (sym now) (Contains-append_right old.torn y v h);
}

tears-self : (slot : Slot) → same_slot slot slot ≡ true
tears-self Driver = refl
tears-self CoDriver = refl

other-slot : (slot : Slot) → same_slot slot (other_slot slot) ≡ false
other-slot Driver = refl
other-slot CoDriver = refl

or-true : (b : Bool) → (b || true) ≡ true
or-true true = refl
or-true false = refl

all-true : (x y z : Bool) → x ≡ true → y ≡ true → z ≡ true → (x && y && z) ≡ true
all-true true true true a b c = refl
all-true false y z a b c = absurd (cc)
all-true true false z a b c = absurd (cc)
all-true true true false a b c = absurd (cc)

tears-at : (log : RunLog) (s : TraceSecond) (at : Phase) (slot : Slot) (failed : Bool) (b : Break) → IsTearAt s at slot failed b → is_torn_in log s.number at slot ≡ false → TearsAt log (and_break log b) s.number at slot
tears-at log s at slot failed b is old = record {
  old = old;
  new = (break-more log b s.number).torn at slot
      ∙ ap (λ (t : Bool). is_torn_in log s.number at slot || t)
      (ap (tears_here s.number at slot) is.2
      ∙ all-true (nat_eq s.number s.number) (same_phase (phase_of is.0 is.1) at) (same_slot slot slot) (same-number s.number) (ap (λ (q : Phase). same_phase q at) is.3 ∙ same-phase at) (tears-self slot))
      ∙ or-true (is_torn_in log s.number at slot);
  other = (break-more log b s.number).torn at (other_slot slot)
      ∙ or-nothing (is_torn_in log s.number at (other_slot slot)) (tears_here s.number at (other_slot slot) b)
      (ap (tears_here s.number at (other_slot slot)) is.2 ∙ false-and (nat_eq s.number s.number && same_phase (phase_of is.0 is.1) at) (same_slot slot (other_slot slot)) (other-slot slot));
  found = λ other. (break-more log b s.number).found at other;
}

pub tear-other : (log : RunLog) (s : TraceSecond) (at : Phase) (slot : Slot) (failed : Bool) (b : Break) → IsTearAt s at slot failed b → is_torn_in (and_break log b) s.number at (other_slot slot) ≡ is_torn_in log s.number at (other_slot slot)
tear-other log s at slot failed b is =
    (break-more log b s.number).torn at (other_slot slot)
    ∙ or-nothing (is_torn_in log s.number at (other_slot slot)) (tears_here s.number at (other_slot slot) b)
    (ap (tears_here s.number at (other_slot slot)) is.2 ∙ false-and (nat_eq s.number s.number && same_phase (phase_of is.0 is.1) at) (same_slot slot (other_slot slot)) (other-slot slot))

-- of both logs what is torn
tear-seen-by : (log later : RunLog) (u : ℕ) (p : Phase) (slot : Slot) (moved : Moved) (c : Course) → ((at : Slot) → AllOf at (moved.leaving at)) → TearsAt log later u p slot →
    IsTornAt u slot (moved.leaving slot ++ visits p slot (both_told log u p moved c).slots) (both_told log u p moved c) (both_told later u p moved c)
tear-seen-by log later u p Driver moved c own t =
    let x : List Visit = moved.leaving Driver ++ visits p Driver c.slots in
    let y : List Visit = moved.leaving CoDriver ++ visits p CoDriver c.slots in
    let b : Bool = is_torn_in log u p CoDriver in
    subst (λ (vs : List Visit). IsTornAt u Driver (moved.leaving Driver ++ vs) (both_told log u p moved c) (both_told later u p moved c)) (sym (out-driver log u p moved c t.old))
    (torn-driver u p c x y b (both_told log u p moved c) (both_told later u p moved c) (tear-told log later u p Driver moved c t)
    (of-both Driver (moved.leaving Driver) (visits p Driver c.slots) (own Driver) (of-visits p Driver c.slots))
    (of-both CoDriver (moved.leaving CoDriver) (visits p CoDriver c.slots) (own CoDriver) (of-visits p CoDriver c.slots))
    (torn-now log u p moved c ∙ ap (λ (h : Bool). cond b (cond h (c.torn ++ x) c.torn ++ y) (cond h (c.torn ++ x) c.torn)) t.old)
    (torn-now later u p moved c
    ∙ ap (λ (h : Bool). cond (is_torn_in later u p CoDriver) (cond h (c.torn ++ x) c.torn ++ y) (cond h (c.torn ++ x) c.torn)) t.new
    ∙ ap (λ (h : Bool). cond h ((c.torn ++ x) ++ y) (c.torn ++ x)) t.other))
tear-seen-by log later u p CoDriver moved c own t =
    let x : List Visit = moved.leaving Driver ++ visits p Driver c.slots in
    let y : List Visit = moved.leaving CoDriver ++ visits p CoDriver c.slots in
    let a : Bool → List Visit = λ (h : Bool). cond h (c.torn ++ x) c.torn in
    subst (λ (vs : List Visit). IsTornAt u CoDriver (moved.leaving CoDriver ++ vs) (both_told log u p moved c) (both_told later u p moved c)) (sym (out-codriver log u p moved c t.old))
    (torn-codriver u y (both_told log u p moved c) (both_told later u p moved c) (tear-told log later u p CoDriver moved c t)
    (torn-now later u p moved c
    ∙ ap (λ (h : Bool). cond h (a (is_torn_in later u p Driver) ++ y) (a (is_torn_in later u p Driver))) t.new
    ∙ ap (λ (h : Bool). a h ++ y) t.other
    ∙ ap (λ (vs : List Visit). vs ++ y) (sym (torn-now log u p moved c ∙ ap (λ (h : Bool). cond h (a (is_torn_in log u p Driver) ++ y) (a (is_torn_in log u p Driver))) t.old))))

pub tear-seen : ATearIsSeen
tear-seen log before s at slot failed b is up old =
    let later : RunLog = and_break log b in
    let same = begun-same log later before s at (tear-before log s at slot failed b is up) in
    subst (λ (new : Course). IsTornAt s.number slot ((moved_at log before s at).leaving slot ++ visits at slot (course_at log before s at).slots) (course_at log before s at) new)
    (ap (λ (m : Moved). both_told later s.number at m (begun_at log before s at)) (sym same.1) ∙ ap (both_told later s.number at (moved_at later before s at)) (sym same.0))
    (tear-seen-by log later s.number at slot (moved_at log before s at) (begun_at log before s at) (leaving-at log before s at) (tears-at log s at slot failed b is old))

-- A FIND
find-here : (s : TraceSecond) (at : Phase) (f : Find) → IsFindAt s at f → finds_here s.number at f.slot f ≡ true
find-here s at f is =
    all-true (nat_eq f.second s.number) (same_phase (In f.begun) at) (same_slot f.slot f.slot) (ap (λ (n : ℕ). nat_eq n s.number) is.second ∙ same-number s.number) (ap (λ (q : Phase). same_phase q at) is.begun ∙ same-phase at) (tears-self f.slot)

find-there : (s : TraceSecond) (at : Phase) (f : Find) → finds_here s.number at (other_slot f.slot) f ≡ false
find-there s at f = false-and (nat_eq f.second s.number && same_phase (In f.begun) at) (same_slot f.slot (other_slot f.slot)) (other-slot f.slot)

finds-at : (log : RunLog) (s : TraceSecond) (at : Phase) (f : Find) → IsFindAt s at f → is_torn_in log s.number at f.slot ≡ false → found_in log s.number at f.slot ≡ [] → FindsAt log (and_find log f) s.number at f.slot f.verdict
finds-at log s at f is here none = record {
  old = none;
  new = (find-more log f s.number).found at f.slot
      ∙ ap (λ (vs : List Verdict). vs ++ cond (finds_here s.number at f.slot f) (f.verdict ∷ []) []) none
      ∙ ap (λ (t : Bool). cond t (f.verdict ∷ []) []) (find-here s at f is);
  here = here;
  now = (find-more log f s.number).torn at f.slot ∙ here;
  other = (find-more log f s.number).torn at (other_slot f.slot);
  beside = (find-more log f s.number).found at (other_slot f.slot) ∙ append-none (found_in log s.number at (other_slot f.slot)) f.verdict (finds_here s.number at (other_slot f.slot) f) (find-there s at f);
}

pub find-seen : AFindIsSeen
find-seen log before s at f is up here none enters order =
    let later : RunLog = and_find log f in
    let same = begun-same log later before s at (find-before log s at f is up) in
    subst (λ (new : Course). IsFoundOf s.number at f.slot f.verdict (course_at log before s at) new)
    (ap (λ (m : Moved). both_told later s.number at m (begun_at log before s at)) (sym same.1) ∙ ap (both_told later s.number at (moved_at later before s at)) (sym same.0))
    (find-told log later s.number at f.slot f.verdict (moved_at log before s at) (begun_at log before s at) (finds-at log s at f is here none) enters order)

pub refusal-seen : ARefusalIsSeen
unfolding is_torn_in found_in cut_in
refusal-seen log before s at r = refl
