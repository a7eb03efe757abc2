-- Since when a card sits in a slot: from before a second; or an insertion of the second put it in, of whose acceptance the log tells, as the last one that
-- it tells of that slot. Since then no action has withdrawn from the slot.
use Rattle.std.proofs.Common.{◌≡◌, ◌⊎◌, ◌∙◌, inl, inr, ⊎_elim, ℕ, zero, suc, ◌+◌, ◌<◌, ◌≤◌, Bool, true, false, cond, ◌&&◌, ◌||◌, Option, Some, None, is_some, List, [], ◌∷◌, ◌++◌, length, map, filter, take, refl, ap, sym, subst, arith, append-nil, append_assoc}
use Rattle.std.specs.Prelude.{not, nat_eq, nat_lt, option_map, flat_map, slice_get}
use Rattle.std.specs.List.{list_any, AllByRecursion}
use Rattle.std.proofs.lemmas.Bool.Decides.{nat_tests}
use Rattle.std.proofs.lemmas.List.{length-append, length-take-le}
use Rattle.activity_codec.specs.declared.values.Slot.{Slot}
use Rattle.activity_codec.specs.declared.values.Slot.TheVariants.{Driver, CoDriver}
use Rattle.activity_codec.specs.Activity.{same_slot}
use Rattle.trace_model.specs.declared.Action.{Action}
use Rattle.trace_model.specs.declared.Action.TheVariants.{Select, Insert, Withdraw, Tear, Place, Manual}
use Rattle.trace_model.specs.declared.Card.{Card}
use Rattle.trace_model.specs.Trace.{TraceSecond}
use Rattle.log_model.specs.declared.lines.Find.{Find}
use Rattle.log_model.specs.declared.lines.SlotFault.{SlotFault}
use Rattle.log_model.specs.declared.lines.SlotFault.TheVariants.{Moving, Empty}
use Rattle.log_model.specs.declared.lines.Verdict.{Verdict}
use Rattle.log_model.specs.Log.{RunLog, Phase, In, same_phase, cut_in, is_torn_in, found_in, is_accepting}
use Rattle.log_model.specs.Slots.{Slots, Sitting, in_slot, refusal}
use Rattle.log_model.specs.Course.{Course, Visit, Moved, Before, card_in, visits, with_slot, leaves, answered, moved_by, slot_told, both_told, begins, is_settling, acted, all_acted}
use Rattle.unit_notes.specs.note_model.Done.{course_powered}
use Rattle.unit_notes.specs.event_model.Events.{course_by}
use Rattle.run_events.specs.run_course.Moment.{find_as, found_at}
use Rattle.run_events.specs.run_course.Reached.{course_at, course_with, moved_at, moved_with}
use Rattle.run_events.proofs.run_rings.Notes.{Finding, seen_of, answered-found}
use Rattle.run_acts.specs.Words.{withdraws, begun_in}
use Rattle.run_acts.specs.Truths.{PutsIn}
use Rattle.run_acts.proofs.Stays.{all-both}
use Rattle.run_acts.proofs.NotesThen.{Parts, split, get-at}

-- ---- tests of lists

none-both : {X : Type 0} (p : X → Bool) (xs ys : List X) → list_any p xs ≡ false → list_any p ys ≡ false → list_any p (xs ++ ys) ≡ false
none-both p [] ys one other = other
none-both p (x ∷ xs) ys one other = by (p x) one (λ rest. none-both p xs ys rest other)
  where
    by : (b : Bool) → (b || list_any p xs) ≡ false → (list_any p xs ≡ false → list_any p (xs ++ ys) ≡ false) → (b || list_any p (xs ++ ys)) ≡ false
    by true wrong rest = absurd (cc)
    by false none rest = rest none

none-only : {X : Type 0} (p : X → Bool) (x : X) → p x ≡ false → list_any p (x ∷ []) ≡ false
none-only p x is = ap (λ (b : Bool). b || false) is

neither-one : (a b : Bool) → a ≡ false → (a && b) ≡ false
neither-one true b is = absurd (cc)
neither-one false b is = refl

neither-other : (a b : Bool) → b ≡ false → (a && b) ≡ false
neither-other true b is = is
neither-other false b is = refl

-- the last that passes a test
record LastOf {X : Type 0} (p : X → Bool) (xs : List X) : Type 0 where
  front : List X
  x : X
  rest : List X
  are : xs ≡ front ++ x ∷ rest
  is : p x ≡ true
  none : list_any p rest ≡ false

last-of : {X : Type 0} (p : X → Bool) (xs : List X) → list_any p xs ≡ true → LastOf p xs
last-of p [] some = absurd (cc)
last-of {X} p (x ∷ xs) some = by (list_any p xs) refl (p x) refl some (λ is. last-of p xs is)
  where
    by : (later : Bool) → list_any p xs ≡ later → (b : Bool) → p x ≡ b → (b || list_any p xs) ≡ true → (list_any p xs ≡ true → LastOf p xs) → LastOf p (x ∷ xs)
    by true is b here any rest =
        let l = rest is in
        record { front = x ∷ l.front; x = l.x; rest = l.rest; are = ap (λ (zs : List X). x ∷ zs) l.are; is = l.is; none = l.none }
    by false is true here any rest = record { front = []; x = x; rest = xs; are = refl; is = here; none = is }
    by false is false here any rest = absurd (let wrong : false ≡ true = sym is ∙ any in cc)

-- ---- slots

pub slot-itself : (slot : Slot) → same_slot slot slot ≡ true
slot-itself Driver = refl
slot-itself CoDriver = refl

own-slot : (slot : Slot) (slots : Slots) (z : Option Sitting) → in_slot (with_slot slots slot z) slot ≡ z
own-slot Driver slots z = refl
own-slot CoDriver slots z = refl

other-slot : (y slot : Slot) → same_slot y slot ≡ false → (slots : Slots) (z : Option Sitting) → in_slot (with_slot slots y z) slot ≡ in_slot slots slot
other-slot Driver Driver out slots z = absurd (let wrong : true ≡ false = out in cc)
other-slot CoDriver CoDriver out slots z = absurd (let wrong : true ≡ false = out in cc)
other-slot Driver CoDriver out slots z = refl
other-slot CoDriver Driver out slots z = refl

nobody : {P : Type 0} (x : Sitting) → None ≡ Some x → P
nobody x wrong = absurd (let clash : None ≡ Some x = wrong in cc)

emptied : (y slot : Slot) (slots : Slots) (x : Sitting) → in_slot (with_slot slots y None) slot ≡ Some x → in_slot slots slot ≡ Some x
emptied Driver Driver slots x is = nobody x is
emptied CoDriver CoDriver slots x is = nobody x is
emptied Driver CoDriver slots x is = is
emptied CoDriver Driver slots x is = is

-- ---- a course goes on

-- what was found tells of no acceptance in a slot
abbrev IsApart : Slot → Finding → Type 0
IsApart slot f = (same_slot f.0.slot slot && is_accepting f.1) ≡ false

-- WHO SITS IN A SLOT sat there before, and of what was found more, nothing is of an acceptance in it
record Keeps (slot : Slot) (c now : Course) : Type 0 where
  sits : (x : Sitting) → in_slot now.slots slot ≡ Some x → in_slot c.slots slot ≡ Some x
  more : List Finding
  found : now.found ≡ c.found ++ more
  apart : AllByRecursion (IsApart slot) more

keeps-same : (slot : Slot) (c now : Course) → ((x : Sitting) → in_slot now.slots slot ≡ Some x → in_slot c.slots slot ≡ Some x) → now.found ≡ c.found → Keeps slot c now
keeps-same slot c now sits same = record { sits = sits; more = []; found = same ∙ sym (append-nil c.found); apart = tt }

keeps-then : (slot : Slot) (a b c : Course) → Keeps slot a b → Keeps slot b c → Keeps slot a c
keeps-then slot a b c p q = record {
  sits = λ x is. p.sits x (q.sits x is);
  more = p.more ++ q.more;
  found = q.found ∙ ap (λ (fs : List Finding). fs ++ q.more) p.found ∙ append_assoc a.found p.more q.more;
  apart = all-both (IsApart slot) p.more q.more p.apart q.apart;
}

either-keeps : (slot : Slot) (c : Course) (b : Bool) (x y : Course) → Keeps slot c x → Keeps slot c y → Keeps slot c (cond b x y)
either-keeps slot c true x y one other = one
either-keeps slot c false x y one other = other

-- ---- what the log tells

-- of a slot, where this was found
abbrev seen_by : Phase → Slot → Course → List Verdict → List Finding
seen_by p y c vs = flat_map (λ (visit : Visit). map (λ (v : Verdict). (visit, v)) vs) (visits p y c.slots)

abbrev judged_by : Phase → Slot → Course → List Verdict → Course
judged_by p y c vs = record c { found = c.found ++ seen_by p y c vs }

abbrev taken_by : ℕ → Phase → Slot → Course → List Verdict → Course
taken_by u p y c vs = record (judged_by p y c vs) { slots = with_slot c.slots y (option_map {T = Sitting} (λ (x : Sitting). record x { accepted = Some u }) (in_slot c.slots y)) }

abbrev told_by : RunLog → ℕ → Phase → Moved → Slot → Course → List Verdict → Course
told_by log u p moved y c vs =
    cond (is_torn_in log u p y) (record (leaves y (judged_by p y c vs)) { torn = c.torn ++ (moved.leaving y ++ visits p y c.slots) }) (cond (list_any is_accepting vs) (taken_by u p y c vs) (judged_by p y c vs))

-- where no card enters it
none-seen : (p : Phase) (y slot : Slot) (q : Option Sitting) → AllByRecursion (IsApart slot) (flat_map (λ (visit : Visit). map (λ (v : Verdict). (visit, v)) []) (map (λ (card : Card). record { phase = p; slot = y; card = card }) (card_in q)))
none-seen p y slot None = tt
none-seen p y slot (Some x) = tt

quiet-told : (log : RunLog) (u : ℕ) (p : Phase) (moved : Moved) (y slot : Slot) (c : Course) → moved.enters y ≡ false → Keeps slot c (slot_told log u p moved y c)
quiet-told log u p moved y slot c out =
    subst (λ (vs : List Verdict). Keeps slot c (told_by log u p moved y c vs)) (sym (ap (λ (b : Bool). cond b (found_in log u p y) []) out))
    (either-keeps slot c (is_torn_in log u p y) (record (leaves y (judged_by p y c [])) { torn = c.torn ++ (moved.leaving y ++ visits p y c.slots) }) (judged_by p y c [])
    (record { sits = λ x is. emptied y slot c.slots x is; more = seen_by p y c []; found = refl; apart = none-seen p y slot (in_slot c.slots y) })
    (record { sits = λ x is. is; more = seen_by p y c []; found = refl; apart = none-seen p y slot (in_slot c.slots y) }))

-- of the other slot
pairs-apart : (visit : Visit) (slot : Slot) → same_slot visit.slot slot ≡ false → (vs : List Verdict) → AllByRecursion (IsApart slot) (map (λ (v : Verdict). (visit, v)) vs ++ [])
pairs-apart visit slot out [] = tt
pairs-apart visit slot out (v ∷ vs) = (neither-one (same_slot visit.slot slot) (is_accepting v) out, pairs-apart visit slot out vs)

other-seen : (p : Phase) (y slot : Slot) → same_slot y slot ≡ false → (vs : List Verdict) (q : Option Sitting) →
    AllByRecursion (IsApart slot) (flat_map (λ (visit : Visit). map (λ (v : Verdict). (visit, v)) vs) (map (λ (card : Card). record { phase = p; slot = y; card = card }) (card_in q)))
other-seen p y slot out vs None = tt
other-seen p y slot out vs (Some x) = pairs-apart (record { phase = p; slot = y; card = x.card }) slot out vs

other-sits : (log : RunLog) (u : ℕ) (p : Phase) (moved : Moved) (y slot : Slot) (c : Course) → same_slot y slot ≡ false → in_slot (slot_told log u p moved y c).slots slot ≡ in_slot c.slots slot
other-sits log u p moved y slot c out = by (cond (moved.enters y) (found_in log u p y) []) (is_torn_in log u p y) (list_any is_accepting (cond (moved.enters y) (found_in log u p y) []))
  where
    by : (vs : List Verdict) (torn takes : Bool) → in_slot (cond torn (record (leaves y (judged_by p y c vs)) { torn = c.torn ++ (moved.leaving y ++ visits p y c.slots) }) (cond takes (taken_by u p y c vs) (judged_by p y c vs))).slots slot ≡ in_slot c.slots slot
    by vs true takes = other-slot y slot out c.slots None
    by vs false true = other-slot y slot out c.slots (option_map {T = Sitting} (λ (x : Sitting). record x { accepted = Some u }) (in_slot c.slots y))
    by vs false false = refl

other-told : (log : RunLog) (u : ℕ) (p : Phase) (moved : Moved) (y slot : Slot) (c : Course) → same_slot y slot ≡ false → Keeps slot c (slot_told log u p moved y c)
other-told log u p moved y slot c out = record {
  sits = λ x is. sym (other-sits log u p moved y slot c out) ∙ is;
  more = seen_by p y c (cond (moved.enters y) (found_in log u p y) []);
  found = by (cond (moved.enters y) (found_in log u p y) []) (is_torn_in log u p y) (list_any is_accepting (cond (moved.enters y) (found_in log u p y) []));
  apart = other-seen p y slot out (cond (moved.enters y) (found_in log u p y) []) (in_slot c.slots y);
}
  where
    by : (vs : List Verdict) (torn takes : Bool) → (cond torn (record (leaves y (judged_by p y c vs)) { torn = c.torn ++ (moved.leaving y ++ visits p y c.slots) }) (cond takes (taken_by u p y c vs) (judged_by p y c vs))).found ≡ c.found ++ seen_by p y c vs
    by vs true takes = refl
    by vs false true = refl
    by vs false false = refl

-- of both, where no card enters
both-quiet : (log : RunLog) (u : ℕ) (p : Phase) (moved : Moved) (slot : Slot) (c : Course) → ((y : Slot) → moved.enters y ≡ false) → Keeps slot c (both_told log u p moved c)
both-quiet log u p moved slot c out =
    keeps-then slot c (slot_told log u p moved Driver c) (both_told log u p moved c) (quiet-told log u p moved Driver slot c (out Driver)) (quiet-told log u p moved CoDriver slot (slot_told log u p moved Driver c) (out CoDriver))

-- or none enters this slot
both-keeps : (log : RunLog) (u : ℕ) (p : Phase) (moved : Moved) (slot : Slot) (c : Course) → moved.enters slot ≡ false → Keeps slot c (both_told log u p moved c)
both-keeps log u p moved Driver c out =
    keeps-then Driver c (slot_told log u p moved Driver c) (both_told log u p moved c) (quiet-told log u p moved Driver Driver c out) (other-told log u p moved CoDriver Driver (slot_told log u p moved Driver c) refl)
both-keeps log u p moved CoDriver c out =
    keeps-then CoDriver c (slot_told log u p moved Driver c) (both_told log u p moved c) (other-told log u p moved Driver CoDriver c refl) (quiet-told log u p moved CoDriver CoDriver (slot_told log u p moved Driver c) out)

-- ---- a card enters

-- IT WAS FOUND to be accepted in its slot at an action, and no other is since
record AcceptedAt (slot : Slot) (card : Card) (n : ℕ) (found : List Finding) : Type 0 where
  earlier : List Finding
  verdict : Verdict
  later : List Finding
  are : found ≡ earlier ++ (record { phase = In n; slot = slot; card = card }, verdict) ∷ later
  accepts : is_accepting verdict ≡ true
  apart : AllByRecursion (IsApart slot) later

accepted-keeps : (slot : Slot) (card : Card) (n : ℕ) (c now : Course) → Keeps slot c now → AcceptedAt slot card n c.found → AcceptedAt slot card n now.found
accepted-keeps slot card n c now k h = record {
  earlier = h.earlier;
  verdict = h.verdict;
  later = h.later ++ k.more;
  are = k.found ∙ ap (λ (fs : List Finding). fs ++ k.more) h.are ∙ append_assoc h.earlier ((record { phase = In n; slot = slot; card = card }, h.verdict) ∷ h.later) k.more;
  accepts = h.accepts;
  apart = all-both (IsApart slot) h.later k.more h.apart k.apart;
}

refused-apart : (visit : Visit) (slot : Slot) (vs : List Verdict) → list_any is_accepting vs ≡ false → AllByRecursion (IsApart slot) (seen_of visit vs)
refused-apart visit slot [] none = tt
refused-apart visit slot (v ∷ vs) none = by (is_accepting v) refl none (λ rest. refused-apart visit slot vs rest)
  where
    by : (b : Bool) → is_accepting v ≡ b → (b || list_any is_accepting vs) ≡ false → (list_any is_accepting vs ≡ false → AllByRecursion (IsApart slot) (seen_of visit vs)) → AllByRecursion (IsApart slot) (seen_of visit (v ∷ vs))
    by true is wrong rest = absurd (cc)
    by false is others rest = (neither-other (same_slot visit.slot slot) (is_accepting v) is, rest others)

pairs-append : (visit : Visit) (vs ws : List Verdict) → seen_of visit (vs ++ ws) ≡ seen_of visit vs ++ seen_of visit ws
pairs-append visit [] ws = refl
pairs-append visit (v ∷ vs) ws = ap (λ (fs : List Finding). (visit, v) ∷ fs) (pairs-append visit vs ws)

-- of whoever sits in a slot
abbrev visits_of : ℕ → Slot → Option Sitting → List Visit
visits_of n slot q = map (λ (card : Card). record { phase = In n; slot = slot; card = card }) (card_in q)

abbrev seen_in : ℕ → Slot → List Verdict → Option Sitting → List Finding
seen_in n slot vs q = flat_map (λ (visit : Visit). seen_of visit vs) (visits_of n slot q)

one-seen : (n : ℕ) (slot : Slot) (card : Card) (vs : List Verdict) (q : Option Sitting) → q ≡ Some (record { card = card; accepted = None }) → seen_in n slot vs q ≡ seen_of (record { phase = In n; slot = slot; card = card }) vs
one-seen n slot card vs None is = absurd (let wrong : None ≡ Some (record { card = card; accepted = None }) = is in cc)
one-seen n slot card vs (Some x) is =
    append-nil (seen_of (record { phase = In n; slot = slot; card = x.card }) vs)
    ∙ ap (λ (d : Card). seen_of (record { phase = In n; slot = slot; card = d }) vs) (let same : x ≡ record { card = card; accepted = None } = cc in ap (λ (s : Sitting). s.card) same)

-- WHO SITS IN THE SLOT behind it is this card, of whose acceptance is told, if it is accepted
abbrev OwnBehind : Slot → Card → ℕ → Course → Type 0
OwnBehind slot card n c = (x : Sitting) → in_slot c.slots slot ≡ Some x → (x.card ≡ card) × (is_some x.accepted ≡ true → AcceptedAt slot card n c.found)

module _ (u n : ℕ) (slot : Slot) (card : Card) (c : Course) (here : in_slot c.slots slot ≡ Some (record { card = card; accepted = None })) where
  abbrev visit : Visit
  visit = record { phase = In n; slot = slot; card = card }

  own-taken : (vs : List Verdict) → list_any is_accepting vs ≡ true → OwnBehind slot card n (taken_by u (In n) slot c vs)
  own-taken vs some = λ x is.
      let sits : Some (record { card = card; accepted = Some u }) ≡ Some x =
      sym (own-slot slot c.slots (option_map {T = Sitting} (λ (y : Sitting). record y { accepted = Some u }) (in_slot c.slots slot)) ∙ ap (λ (q : Option Sitting). option_map {T = Sitting} (λ (y : Sitting). record y { accepted = Some u }) q) here) ∙ is in
      let same : record { card = card; accepted = Some u } ≡ x = cc in
      let l = last-of is_accepting vs some in (
        sym (ap (λ (y : Sitting). y.card) same),
        λ yes. record {
          earlier = c.found ++ seen_of visit l.front;
          verdict = l.x;
          later = seen_of visit l.rest;
          are = ap (λ (fs : List Finding). c.found ++ fs) (one-seen n slot card vs (in_slot c.slots slot) here ∙ ap (λ (ws : List Verdict). seen_of visit ws) l.are ∙ pairs-append visit l.front (l.x ∷ l.rest))
              ∙ sym (append_assoc c.found (seen_of visit l.front) (seen_of visit (l.x ∷ l.rest)));
          accepts = l.is;
          apart = refused-apart visit slot l.rest l.none;
        },
      )

  own-waits : (vs : List Verdict) → OwnBehind slot card n (judged_by (In n) slot c vs)
  own-waits vs = λ x is.
      let sits : Some (record { card = card; accepted = None }) ≡ Some x = sym here ∙ is in
      let same : record { card = card; accepted = None } ≡ x = cc in (
        sym (ap (λ (y : Sitting). y.card) same),
        λ yes. absurd (let wrong : false ≡ true = ap (λ (y : Sitting). is_some y.accepted) same ∙ yes in cc),
      )

  own-by : (log : RunLog) (moved : Moved) (vs : List Verdict) → OwnBehind slot card n (told_by log u (In n) moved slot c vs)
  own-by log moved vs = by (is_torn_in log u (In n) slot) (list_any is_accepting vs) refl
    where
      by : (torn takes : Bool) → list_any is_accepting vs ≡ takes → OwnBehind slot card n (cond torn (record (leaves slot (judged_by (In n) slot c vs)) { torn = c.torn ++ (moved.leaving slot ++ visits (In n) slot c.slots) }) (cond takes (taken_by u (In n) slot c vs) (judged_by (In n) slot c vs)))
      by true takes some = λ x is. nobody x (sym (own-slot slot c.slots None) ∙ is)
      by false true some = own-taken vs some
      by false false none = own-waits vs

  own-told : (log : RunLog) (moved : Moved) → OwnBehind slot card n (slot_told log u (In n) moved slot c)
  own-told log moved = own-by log moved (cond (moved.enters slot) (found_in log u (In n) slot) [])

both-own : (log : RunLog) (u n : ℕ) (moved : Moved) (slot : Slot) (card : Card) (c : Course) → in_slot c.slots slot ≡ Some (record { card = card; accepted = None }) → OwnBehind slot card n (both_told log u (In n) moved c)
both-own log u n moved Driver card c here = λ x is.
    let own : Course = slot_told log u (In n) moved Driver c in
    let k : Keeps Driver own (both_told log u (In n) moved c) = other-told log u (In n) moved CoDriver Driver own refl in
    let h = own-told u n Driver card c here log moved x (k.sits x is) in (h.0, λ yes. accepted-keeps Driver card n own (both_told log u (In n) moved c) k (h.1 yes))
both-own log u n moved CoDriver card c here =
    own-told u n CoDriver card (slot_told log u (In n) moved Driver c) (other-sits log u (In n) moved Driver CoDriver c refl ∙ here) log moved

-- ---- an action

slots-same : (y slot : Slot) → same_slot y slot ≡ true → y ≡ slot
slots-same Driver Driver is = refl
slots-same CoDriver CoDriver is = refl
slots-same Driver CoDriver is = absurd (let wrong : false ≡ true = is in cc)
slots-same CoDriver Driver is = absurd (let wrong : false ≡ true = is in cc)

-- a card that is put in the other slot
put-beside : (y slot : Slot) (card : Card) (slots : Slots) (z : Option Sitting) (x : Sitting) (b : Bool) → same_slot y slot ≡ b → (y ≡ slot → ⊥) → in_slot (with_slot slots y z) slot ≡ Some x → in_slot slots slot ≡ Some x
put-beside y slot card slots z x false beside out is = sym (other-slot y slot beside slots z) ∙ is
put-beside y slot card slots z x true same out is = absurd (out (slots-same y slot same))

-- one that puts none in the slot keeps what was
puts-none : (n : ℕ) (r : Option SlotFault) (slot : Slot) (a : Action) (c : Course) → ((card : Card) → a ≡ Insert slot card → r ≡ None → ⊥) → (x : Sitting) → in_slot (answered n r a c).slots slot ≡ Some x → in_slot c.slots slot ≡ Some x
puts-none n (Some fault) slot a c out x is = is
puts-none n None slot (Select y pick) c out x is = is
puts-none n None slot (Insert y card) c out x is = put-beside y slot card c.slots (Some (record { card = card; accepted = None })) x (same_slot y slot) refl (λ same. out card (ap (λ (z : Slot). Insert z card) same) refl) is
puts-none n None slot (Withdraw y) c out x is = emptied y slot c.slots x is
puts-none n None slot (Tear y) c out x is = emptied y slot c.slots x is
puts-none n None slot (Place y ending country region) c out x is = is
puts-none n None slot (Manual y pick minute) c out x is = is

answered-keeps : (n : ℕ) (r : Option SlotFault) (slot : Slot) (a : Action) (c : Course) → ((card : Card) → a ≡ Insert slot card → r ≡ None → ⊥) → Keeps slot c (answered n r a c)
answered-keeps n r slot a c out = keeps-same slot c (answered n r a c) (puts-none n r slot a c out) (answered-found n r a c)

enters-none : (n : ℕ) (r : Option SlotFault) (slot : Slot) (a : Action) (slots : Slots) → ((card : Card) → a ≡ Insert slot card → r ≡ None → ⊥) → (moved_by n r a slots).enters slot ≡ false
enters-none n (Some fault) slot a slots out = refl
enters-none n None slot (Select y pick) slots out = refl
enters-none n None slot (Insert y card) slots out = by (same_slot y slot) refl
  where
    by : (b : Bool) → same_slot y slot ≡ b → same_slot y slot ≡ false
    by false is = is
    by true is = absurd (out card (ap (λ (z : Slot). Insert z card) (slots-same y slot is)) refl)
enters-none n None slot (Withdraw y) slots out = refl
enters-none n None slot (Tear y) slots out = refl
enters-none n None slot (Place y ending country region) slots out = refl
enters-none n None slot (Manual y pick minute) slots out = refl

-- ---- SINCE WHEN

-- A CARD WAS PUT IN a slot by one of these actions, and no later one withdraws from it; if it is accepted, then the finds tell so last of the slot
record IsPut (slot : Slot) (card : Card) (accepted : Bool) (actions : List Action) (found : List Finding) : Type 0 where
  before : List Action
  behind : List Action
  are : actions ≡ before ++ Insert slot card ∷ behind
  first : list_any (withdraws slot) behind ≡ false
  tells : accepted ≡ true → AcceptedAt slot card (suc (length before)) found

-- WHO SITS IN A SLOT behind these actions of a second sat there before them, and none withdraws from it; or was put in by one of them
abbrev Sat : Slot → List Action → Course → Type 0
Sat slot actions c = (x : Sitting) → in_slot c.slots slot ≡ Some x → (list_any (withdraws slot) actions ≡ false) ⊎ IsPut slot x.card (is_some x.accepted) actions c.found

sat-keeps : (slot : Slot) (actions : List Action) (a : Action) (c now : Course) → withdraws slot a ≡ false → Keeps slot c now → Sat slot actions c → Sat slot (actions ++ a ∷ []) now
sat-keeps slot actions a c now none k sat = λ x is. ⊎_elim
    (λ (stayed : list_any (withdraws slot) actions ≡ false). inl (none-both (withdraws slot) actions (a ∷ []) stayed (none-only (withdraws slot) a none)))
    (λ (p : IsPut slot x.card (is_some x.accepted) actions c.found). inr (record {
      before = p.before;
      behind = p.behind ++ a ∷ [];
      are = ap (λ (as_ : List Action). as_ ++ a ∷ []) p.are ∙ append_assoc p.before (Insert slot x.card ∷ p.behind) (a ∷ []);
      first = none-both (withdraws slot) p.behind (a ∷ []) p.first (none-only (withdraws slot) a none);
      tells = λ yes. accepted-keeps slot x.card (suc (length p.before)) c now k (p.tells yes);
    }))
    (sat x (k.sits x is))

-- one that withdraws from it leaves it empty
withdrawn-empty : (n : ℕ) (slot : Slot) (e m : Bool) (sp : ℕ) (c : Course) → is_some (in_slot c.slots slot) ≡ e → m ≡ false → (x : Sitting) → in_slot (answered n (cond (not e) (Some (Empty slot)) (cond m (Some (Moving sp)) None)) (Withdraw slot) c).slots slot ≡ Some x → ⊥
withdrawn-empty n slot false m sp c empty still x is = let wrong : false ≡ true = sym empty ∙ ap is_some is in absurd (cc)
withdrawn-empty n slot true true sp c some still x is = absurd (let wrong : true ≡ false = still in cc)
withdrawn-empty n slot true false sp c some still x is = nobody x (sym (own-slot slot c.slots None) ∙ is)

-- AN ACTION MORE
module _ (log : RunLog) (s : TraceSecond) (n : ℕ) (slot : Slot) (actions : List Action) (c : Course) (count : length actions ≡ n) (begun : begins (cut_in log s.number) n ≡ true) (still : nat_lt 0 s.speed ≡ false) (sat : Sat slot actions c) where
  abbrev answer : Action → Option SlotFault
  answer a = refusal c.slots s.speed a

  abbrev begun_with : Action → Course
  begun_with a = answered n (answer a) a c

  abbrev goes_with : Action → Course
  goes_with a = both_told log s.number (In (n + 1)) (moved_by n (answer a) a c.slots) (begun_with a)

  acted-is : (a : Action) → goes_with a ≡ acted log s n a c
  acted-is a = sym (ap (λ (b : Bool). cond b (goes_with a) (record c { settled = c.settled || is_settling a })) begun)

  -- it puts no card in the slot, and withdraws none from it
  acted-beside : (a : Action) → withdraws slot a ≡ false → ((card : Card) → a ≡ Insert slot card → answer a ≡ None → ⊥) → Sat slot (actions ++ a ∷ []) (goes_with a)
  acted-beside a none out =
      sat-keeps slot actions a c (goes_with a) none
      (keeps-then slot c (begun_with a) (goes_with a) (answered-keeps n (answer a) slot a c out) (both-keeps log s.number (In (n + 1)) (moved_by n (answer a) a c.slots) slot (begun_with a) (enters-none n (answer a) slot a c.slots out)))
      sat

  -- it puts one in;
  acted-put : (card : Card) → answer (Insert slot card) ≡ None → Sat slot (actions ++ Insert slot card ∷ []) (goes_with (Insert slot card))
  acted-put card fine = λ x is.
      let told : Course = both_told log s.number (In (n + 1)) (moved_by n None (Insert slot card) c.slots) (answered n None (Insert slot card) c) in
      let same : goes_with (Insert slot card) ≡ told = ap (λ (r : Option SlotFault). both_told log s.number (In (n + 1)) (moved_by n r (Insert slot card) c.slots) (answered n r (Insert slot card) c)) fine in
      let own = both-own log s.number (n + 1) (moved_by n None (Insert slot card) c.slots) slot card (answered n None (Insert slot card) c) (own-slot slot c.slots (Some (record { card = card; accepted = None }))) x
      (sym (ap (λ (k : Course). in_slot k.slots slot) same) ∙ is) in
      inr (subst (λ (d : Card). IsPut slot d (is_some x.accepted) (actions ++ Insert slot card ∷ []) (goes_with (Insert slot card)).found) (sym own.0) (record {
        before = actions;
        behind = [];
        are = refl;
        first = refl;
        tells = λ yes.
            subst (λ (k : ℕ). AcceptedAt slot card k (goes_with (Insert slot card)).found) (omega (arith, count))
            (subst (λ (k : Course). AcceptedAt slot card (n + 1) k.found) (sym same) (own.1 yes));
      }))

  acted-insert : (y : Slot) (card : Card) (b : Bool) → same_slot y slot ≡ b → (r : Option SlotFault) → answer (Insert y card) ≡ r → Sat slot (actions ++ Insert y card ∷ []) (goes_with (Insert y card))
  acted-insert y card true same None fine =
      subst (λ (z : Slot). Sat slot (actions ++ Insert z card ∷ []) (goes_with (Insert z card))) (sym (slots-same y slot same)) (acted-put card (subst (λ (z : Slot). answer (Insert z card) ≡ None) (slots-same y slot same) fine))
  acted-insert y card true same (Some fault) is = acted-beside (Insert y card) refl (λ d e none. let wrong : Some fault ≡ None = sym is ∙ none in absurd (cc))
  acted-insert y card false beside r is =
      acted-beside (Insert y card) refl (λ d e none. let slots : y ≡ slot = cc in let wrong : false ≡ true = sym beside ∙ ap (λ (z : Slot). same_slot z slot) slots ∙ slot-itself slot in absurd (cc))

  -- or withdraws from it
  acted-own : Sat slot (actions ++ Withdraw slot ∷ []) (goes_with (Withdraw slot))
  acted-own = λ x is. absurd (withdrawn-empty n slot (is_some (in_slot c.slots slot)) (nat_lt 0 s.speed) s.speed c refl still x
      ((both-quiet log s.number (In (n + 1)) (moved_by n (answer (Withdraw slot)) (Withdraw slot) c.slots) slot (begun_with (Withdraw slot)) (none-enter (answer (Withdraw slot)))).sits x is))
    where
      none-enter : (r : Option SlotFault) (y : Slot) → (moved_by n r (Withdraw slot) c.slots).enters y ≡ false
      none-enter None y = refl
      none-enter (Some fault) y = refl

  acted-withdraw : (y : Slot) (b : Bool) → same_slot y slot ≡ b → Sat slot (actions ++ Withdraw y ∷ []) (goes_with (Withdraw y))
  acted-withdraw y true same = subst (λ (z : Slot). Sat slot (actions ++ Withdraw z ∷ []) (goes_with (Withdraw z))) (sym (slots-same y slot same)) acted-own
  acted-withdraw y false beside = acted-beside (Withdraw y) beside (λ d e none. absurd (cc))

  goes-sat : (a : Action) → Sat slot (actions ++ a ∷ []) (goes_with a)
  goes-sat (Select y pick) = acted-beside (Select y pick) refl (λ d e none. absurd (cc))
  goes-sat (Insert y card) = acted-insert y card (same_slot y slot) refl (answer (Insert y card)) refl
  goes-sat (Withdraw y) = acted-withdraw y (same_slot y slot) refl
  goes-sat (Tear y) = acted-beside (Tear y) refl (λ d e none. absurd (cc))
  goes-sat (Place y ending country region) = acted-beside (Place y ending country region) refl (λ d e none. absurd (cc))
  goes-sat (Manual y pick minute) = acted-beside (Manual y pick minute) refl (λ d e none. absurd (cc))

  acted-sat : (a : Action) → Sat slot (actions ++ a ∷ []) (acted log s n a c)
  acted-sat a = subst (λ (k : Course). Sat slot (actions ++ a ∷ []) k) (acted-is a) (goes-sat a)

-- some more
all-sat : (log : RunLog) (s : TraceSecond) → cut_in log s.number ≡ None → nat_lt 0 s.speed ≡ false → (slot : Slot) (front actions : List Action) (n : ℕ) (c : Course) → length front ≡ n → Sat slot front c → Sat slot (front ++ actions) (all_acted log s n actions c)
all-sat log s uncut still slot front [] n c count sat = subst (λ (as_ : List Action). Sat slot as_ c) (sym (append-nil front)) sat
all-sat log s uncut still slot front (a ∷ actions) n c count sat =
    subst (λ (as_ : List Action). Sat slot as_ (all_acted log s (n + 1) actions (acted log s n a c))) (append_assoc front (a ∷ []) actions)
    (all-sat log s uncut still slot (front ++ a ∷ []) actions (n + 1) (acted log s n a c) (let more = length-append front (a ∷ []) in omega (arith, more, count))
    (acted-sat log s n slot front c count (ap (λ (q : Option ℕ). begins q n) uncut) still sat a))

-- so behind some of its actions, of a second in which the vehicle stands
by-sat : (log : RunLog) (before : Before) (s : TraceSecond) → cut_in log s.number ≡ None → nat_lt 0 s.speed ≡ false → (slot : Slot) (n : ℕ) → Sat slot (take n s.actions) (course_by log before s n)
by-sat log before s uncut still slot n = all-sat log s uncut still slot [] (take n s.actions) 0 (course_powered log before s) refl (λ x is. inl refl)

-- ---- A CARD THAT ENTERS A SLOT: power comes with it there, or an action puts it in

enters-by : (m : ℕ) (r : Option SlotFault) (a : Action) (slots : Slots) (slot : Slot) → (moved_by m r a slots).enters slot ≡ true → (card : Card) × (a ≡ Insert slot card) × (r ≡ None)
enters-by m (Some fault) a slots slot is = absurd (let wrong : false ≡ true = is in cc)
enters-by m None (Select y pick) slots slot is = absurd (let wrong : false ≡ true = is in cc)
enters-by m None (Insert y card) slots slot is = (card, ap (λ (z : Slot). Insert z card) (slots-same y slot is), refl)
enters-by m None (Withdraw y) slots slot is = absurd (let wrong : false ≡ true = is in cc)
enters-by m None (Tear y) slots slot is = absurd (let wrong : false ≡ true = is in cc)
enters-by m None (Place y ending country region) slots slot is = absurd (let wrong : false ≡ true = is in cc)
enters-by m None (Manual y pick minute) slots slot is = absurd (let wrong : false ≡ true = is in cc)

put-by : (log : RunLog) (s : TraceSecond) (m : ℕ) (slot : Slot) (c : Course) (x : Sitting) (q : Option Action) (p : Parts s.actions m) → q ≡ Some p.a → (moved_with m q s.speed c).enters slot ≡ true →
    in_slot (both_told log s.number (In (suc m)) (moved_with m q s.speed c) (course_with m q s.speed c)).slots slot ≡ Some x → PutsIn s.actions (suc m) slot x.card
put-by log s m slot c x q p got enters there =
    let r : Option SlotFault = refusal c.slots s.speed p.a in
    let e = enters-by m r p.a c.slots slot (sym (ap (λ (w : Option Action). (moved_with m w s.speed c).enters slot) got) ∙ enters) in
    let told : in_slot (both_told log s.number (In (suc m)) (moved_by m r p.a c.slots) (answered m r p.a c)).slots slot ≡ Some x =
    sym (ap (λ (w : Option Action). in_slot (both_told log s.number (In (suc m)) (moved_with m w s.speed c) (course_with m w s.speed c)).slots slot) got) ∙ there in
    let plain : in_slot (both_told log s.number (In (suc m)) (moved_by m None p.a c.slots) (answered m None p.a c)).slots slot ≡ Some x =
    sym (ap (λ (w : Option SlotFault). in_slot (both_told log s.number (In (suc m)) (moved_by m w p.a c.slots) (answered m w p.a c)).slots slot) e.2) ∙ told in
    let put : in_slot (both_told log s.number (In (suc m)) (moved_by m None (Insert slot e.0) c.slots) (answered m None (Insert slot e.0) c)).slots slot ≡ Some x =
    sym (ap (λ (b : Action). in_slot (both_told log s.number (In (suc m)) (moved_by m None b c.slots) (answered m None b c)).slots slot) e.1) ∙ plain in
    let own = both-own log s.number (suc m) (moved_by m None (Insert slot e.0) c.slots) slot e.0 (answered m None (Insert slot e.0) c) (own-slot slot c.slots (Some (record { card = e.0; accepted = None }))) x put in
    record {
      front = p.front;
      rest = p.rest;
      are = p.are ∙ ap (λ (b : Action). p.front ++ b ∷ p.rest) e.1 ∙ ap (λ (d : Card). p.front ++ Insert slot d ∷ p.rest) (sym own.0);
      count = ap suc (sym p.count);
    }

pub line-own : (log : RunLog) (before : Before) (s : TraceSecond) (n : ℕ) → n ≤ length s.actions → (slot : Slot) → (moved_at log before s (In n)).enters slot ≡ true → (x : Sitting) → in_slot (course_at log before s (In n)).slots slot ≡ Some x → (n ≡ 0) ⊎ PutsIn s.actions n slot x.card
line-own log before s zero few slot enters x there = inl refl
line-own log before s (suc m) few slot enters x there =
    let p : Parts s.actions m = split s.actions m few in
    let got : slice_get s.actions m ≡ Some p.a = ap (λ (as_ : List Action). slice_get as_ m) p.are ∙ ap (λ (k : ℕ). slice_get (p.front ++ p.a ∷ p.rest) k) (sym p.count) ∙ get-at p.front p.a p.rest in
    inr (put-by log s m slot (course_by log before s m) x (slice_get s.actions m) p got enters there)

-- ---- by the lines of the log

-- a line tells of no acceptance in a slot
abbrev IsElsewhere : Slot → Find → Type 0
IsElsewhere slot f = (same_slot f.slot slot && is_accepting f.verdict) ≡ false

-- A LINE TELLS OF AN ACCEPTANCE in a slot at an action of a second, and none behind it does of another in that slot
pub record IsToldLast (slot : Slot) (u n : ℕ) (finds : List Find) : Type 0 where
  pub earlier : List Find
  pub line : Find
  pub later : List Find
  pub are : finds ≡ earlier ++ line ∷ later
  pub accepts : is_accepting line.verdict ≡ true
  pub second : line.second ≡ u
  pub begun : line.begun ≡ n
  pub there : line.slot ≡ slot
  pub apart : AllByRecursion (λ (f : Find). (same_slot f.slot slot && is_accepting f.verdict) ≡ false) later

elsewhere-by : (slot : Slot) (u : ℕ) (lines : List Find) (found : List Finding) → map find_as lines ≡ map (found_at u) found → AllByRecursion (IsApart slot) found → AllByRecursion (IsElsewhere slot) lines
elsewhere-by slot u [] found same all = tt
elsewhere-by slot u (f ∷ lines) [] same all = absurd (let wrong : find_as f ∷ map find_as lines ≡ [] = same in cc)
elsewhere-by slot u (f ∷ lines) (x ∷ found) same all =
    let both : find_as f ∷ map find_as lines ≡ found_at u x ∷ map (found_at u) found = same in
    let one : find_as f ≡ found_at u x = cc in
    let rest : map find_as lines ≡ map (found_at u) found = cc in
    let there : f.slot ≡ x.0.slot = ap (λ (q : ℕ × Phase × Slot × Verdict). q.2) one in
    let verdict : f.verdict ≡ x.1 = ap (λ (q : ℕ × Phase × Slot × Verdict). q.3) one in (
      (λ i. same_slot (there i) slot && is_accepting (verdict i)) ∙ all.0,
      elsewhere-by slot u lines found rest all.1,
    )

told-last : (slot : Slot) (card : Card) (u n : ℕ) (lines : List Find) (earlier : List Finding) (v : Verdict) (later : List Finding) → map find_as lines ≡ map (found_at u) (earlier ++ (record { phase = In n; slot = slot; card = card }, v) ∷ later) → is_accepting v ≡ true →
    AllByRecursion (IsApart slot) later → IsToldLast slot u n lines
told-last slot card u n [] [] v later same accepts apart = absurd (let wrong : [] ≡ found_at u (record { phase = In n; slot = slot; card = card }, v) ∷ map (found_at u) later = same in cc)
told-last slot card u n [] (x ∷ earlier) v later same accepts apart = absurd (let wrong : [] ≡ found_at u x ∷ map (found_at u) (earlier ++ (record { phase = In n; slot = slot; card = card }, v) ∷ later) = same in cc)
told-last slot card u n (f ∷ lines) [] v later same accepts apart =
    let both : find_as f ∷ map find_as lines ≡ found_at u (record { phase = In n; slot = slot; card = card }, v) ∷ map (found_at u) later = same in
    let one : find_as f ≡ found_at u (record { phase = In n; slot = slot; card = card }, v) = cc in
    let rest : map find_as lines ≡ map (found_at u) later = cc in
    let phase : In f.begun ≡ In n = ap (λ (q : ℕ × Phase × Slot × Verdict). q.1) one in
    record {
      earlier = [];
      line = f;
      later = lines;
      are = refl;
      accepts = ap (λ (q : ℕ × Phase × Slot × Verdict). is_accepting q.3) one ∙ accepts;
      second = ap (λ (q : ℕ × Phase × Slot × Verdict). q.0) one;
      begun = cc;
      there = ap (λ (q : ℕ × Phase × Slot × Verdict). q.2) one;
      apart = elsewhere-by slot u lines later rest apart;
    }
told-last slot card u n (f ∷ lines) (x ∷ earlier) v later same accepts apart =
    let both : find_as f ∷ map find_as lines ≡ found_at u x ∷ map (found_at u) (earlier ++ (record { phase = In n; slot = slot; card = card }, v) ∷ later) = same in
    let rest : map find_as lines ≡ map (found_at u) (earlier ++ (record { phase = In n; slot = slot; card = card }, v) ∷ later) = cc in
    let l = told-last slot card u n lines earlier v later rest accepts apart in
    record {
      earlier = f ∷ l.earlier;
      line = l.line;
      later = l.later;
      are = ap (λ (fs : List Find). f ∷ fs) l.are;
      accepts = l.accepts;
      second = l.second;
      begun = l.begun;
      there = l.there;
      apart = l.apart;
    }

-- with lines of other seconds before
told-behind : (slot : Slot) (u n : ℕ) (old lines : List Find) → IsToldLast slot u n lines → IsToldLast slot u n (old ++ lines)
told-behind slot u n old lines l = record {
  earlier = old ++ l.earlier;
  line = l.line;
  later = l.later;
  are = ap (λ (fs : List Find). old ++ fs) l.are ∙ sym (append_assoc old l.earlier (l.line ∷ l.later));
  accepts = l.accepts;
  second = l.second;
  begun = l.begun;
  there = l.there;
  apart = l.apart;
}

-- A CARD WAS PUT IN by one of these actions, and a line tells last of the slot that it was accepted
pub record IsPutAndTold (slot : Slot) (card : Card) (u : ℕ) (actions : List Action) (finds : List Find) : Type 0 where
  pub before : List Action
  pub behind : List Action
  pub are : actions ≡ before ++ Insert slot card ∷ behind
  pub first : list_any (withdraws slot) behind ≡ false
  pub told : IsToldLast slot u (suc (length before)) finds

-- AN ACCEPTED CARD HAS SAT in a slot since: no line of the second tells of a later action
pub record HasSat (slot : Slot) (card : Card) (u : ℕ) (actions : List Action) (finds : List Find) : Type 0 where
  pub low : AllByRecursion (λ (f : Find). begun_in u f ≤ length actions) finds
  pub since : (list_any (withdraws slot) actions ≡ false) ⊎ IsPutAndTold slot card u actions finds

-- ---- no line of a later action

abbrev here_at : ℕ → ℕ → Slot → Find → Bool
here_at u k slot f = nat_eq f.second u && same_phase (In f.begun) (In k) && same_slot f.slot slot

none-mapped : (fs : List Find) → map (λ (f : Find). f.verdict) fs ≡ [] → fs ≡ []
none-mapped [] is = refl
none-mapped (f ∷ fs) is = absurd (let wrong : f.verdict ∷ map (λ (g : Find). g.verdict) fs ≡ [] = is in cc)

pub nat-itself : (n : ℕ) → nat_eq n n ≡ true
nat-itself n = grind (arith, nat_tests)

all-low : (u m : ℕ) (fs : List Find) → ((k : ℕ) (slot : Slot) → m < k → filter (here_at u k slot) fs ≡ []) → AllByRecursion (λ (f : Find). begun_in u f ≤ m) fs
all-low u m [] none = tt
all-low u m (f ∷ fs) none = (one (nat_eq f.second u) refl (nat_lt m f.begun) refl, all-low u m fs (λ k slot late. rest (here_at u k slot f) k slot (none k slot late)))
  where
    rest : (b : Bool) (k : ℕ) (slot : Slot) → cond b (f ∷ filter (here_at u k slot) fs) (filter (here_at u k slot) fs) ≡ [] → filter (here_at u k slot) fs ≡ []
    rest true k slot wrong = absurd (cc)
    rest false k slot is = is

    taken : (b : Bool) → b ≡ true → cond b (f ∷ filter (here_at u f.begun f.slot) fs) (filter (here_at u f.begun f.slot) fs) ≡ [] → ⊥
    taken true is wrong = absurd (cc)
    taken false is wrong = absurd (cc)

    one : (here : Bool) → nat_eq f.second u ≡ here → (late : Bool) → nat_lt m f.begun ≡ late → cond here f.begun 0 ≤ m
    one false out late is = omega arith
    one true own false is = grind (arith, nat_tests, is)
    one true own true is =
        let lt : m < f.begun = grind (arith, nat_tests, is) in
        let same : here_at u f.begun f.slot f ≡ true =
        ap (λ (b : Bool). b && same_phase (In f.begun) (In f.begun) && same_slot f.slot f.slot) own ∙ ap (λ (b : Bool). b && same_slot f.slot f.slot) (nat-itself f.begun) ∙ slot-itself f.slot in
        absurd (taken (here_at u f.begun f.slot f) same (none f.begun f.slot lt))

lines-low : (log : RunLog) (u m : ℕ) → ((k : ℕ) (slot : Slot) → m < k → found_in log u (In k) slot ≡ []) → AllByRecursion (λ (f : Find). begun_in u f ≤ m) log.finds
unfolding found_in
lines-low log u m none = all-low u m log.finds (λ k slot late. none-mapped (filter (here_at u k slot) log.finds) (none k slot late))

-- ---- a withdrawal that is not refused

pub allowed-still : (slots : Slots) (speed : ℕ) (slot : Slot) → refusal slots speed (Withdraw slot) ≡ None → nat_lt 0 speed ≡ false
allowed-still slots speed slot = by (is_some (in_slot slots slot)) (nat_lt 0 speed)
  where
    by : (e m : Bool) → cond (not e) (Some (Empty slot)) (cond m (Some (Moving speed)) None) ≡ None → m ≡ false
    by e false is = refl
    by false true is = absurd (let wrong : Some (Empty slot) ≡ None = is in cc)
    by true true is = absurd (let wrong : Some (Moving speed) ≡ None = is in cc)

-- ---- THE CARD OF A SLOT, as its second has come so far
pub has-sat : (log : RunLog) (before : Before) (s : TraceSecond) (n : ℕ) → n ≤ length s.actions → cut_in log s.number ≡ None → nat_lt 0 s.speed ≡ false → ((k : ℕ) (slot : Slot) → n < k → found_in log s.number (In k) slot ≡ []) →
    (old lines : List Find) → log.finds ≡ old ++ lines → map find_as lines ≡ map (found_at s.number) (course_by log before s n).found →
    (slot : Slot) (card : Card) (since : ℕ) → in_slot (course_by log before s n).slots slot ≡ Some (record { card = card; accepted = Some since }) → HasSat slot card s.number (take n s.actions) log.finds
has-sat log before s n few uncut still none old lines are told slot card since there = record {
  low = subst (λ (k : ℕ). AllByRecursion (λ (f : Find). begun_in s.number f ≤ k) log.finds) (sym (length-take-le n s.actions few)) (lines-low log s.number n none);
  since = ⊎_elim
      (λ (stayed : list_any (withdraws slot) (take n s.actions) ≡ false). inl stayed)
      (λ (p : IsPut slot card true (take n s.actions) (course_by log before s n).found). inr (record {
        before = p.before;
        behind = p.behind;
        are = p.are;
        first = p.first;
        told =
            let a = p.tells refl in
            subst (λ (fs : List Find). IsToldLast slot s.number (suc (length p.before)) fs) (sym are)
            (told-behind slot s.number (suc (length p.before)) old lines
            (told-last slot card s.number (suc (length p.before)) lines a.earlier a.verdict a.later (told ∙ ap (λ (fs : List Finding). map (found_at s.number) fs) a.are) a.accepts a.apart));
      }))
      (by-sat log before s uncut still slot n (record { card = card; accepted = Some since }) there);
}
