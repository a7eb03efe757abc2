-- A card that was pulled out in a second was so by its actions alone; and where no call has failed none was torn out.
use Rattle.std.proofs.Common.{◌≡◌, ◌∙◌, ⊎_elim, ℕ, ◌+◌, ◌≤◌, Bool, true, false, cond, not, ◌&&◌, ◌||◌, Option, Some, None, is_some, List, [], ◌∷◌, ◌++◌, Contains, filter, length, map, take, refl, ap, sym, subst, arith}
use Rattle.std.specs.Prelude.{flat_map, nat_lt, option_map}
use Rattle.std.specs.List.{list_any}
use Rattle.std.proofs.lemmas.List.Elements.{filter-append, Contains-append_left, Contains-append_right, Contains-append_cases, Contains-push, Contains-push_cases}
use Rattle.activity_codec.specs.declared.values.Slot.{Slot}
use Rattle.activity_codec.specs.declared.values.Slot.TheVariants.{Driver, CoDriver}
use Rattle.activity_codec.specs.declared.values.Pick.{Pick}
use Rattle.activity_codec.specs.Activity.{same_slot}
use Rattle.trace_model.specs.declared.Action.{Action}
use Rattle.trace_model.specs.declared.Action.TheVariants.{Select, Insert, Withdraw, Tear, Place, Manual}
use Rattle.trace_model.specs.declared.Card.{Card}
use Rattle.trace_model.specs.Trace.{TraceSecond}
use Rattle.log_model.specs.declared.lines.Break.{Break}
use Rattle.log_model.specs.declared.lines.SlotFault.{SlotFault}
use Rattle.log_model.specs.declared.lines.SlotFault.TheVariants.{Moving, Empty, Occupied, Elsewhere}
use Rattle.log_model.specs.declared.lines.Verdict.{Verdict}
use Rattle.log_model.specs.Log.{RunLog, Phase, In, cut_in, is_torn_in, found_in, is_accepting}
use Rattle.log_model.specs.Causes.{is_cut, has_failed, tears, places, visit_places, in_the_slot, torn_of}
use Rattle.log_model.specs.Slots.{Slots, Sitting, in_slot, other_slot, same_card, holds, refusal}
use Rattle.log_model.specs.Course.{ToldSecond, Course, Visit, Moved, Before, card_in, visits, with_slot, leaves, answered, moved_by, slot_told, both_told, begins, is_settling, acted, all_acted, unmoved, fresh}
use Rattle.unit_notes.specs.event_model.Events.{course_by}
use Rattle.unit_notes.specs.note_model.Done.{course_powered}
use Rattle.device_calls.specs.run_unit_course.Lines.{log_of}
use Rattle.run_events.specs.run_course.Reached.{course_at}
use Rattle.run_events.proofs.run_course.Reached.{at-by}
use Rattle.run_minutes.specs.run_promise.Whole.{NothingFailed}
use Rattle.run_acts.specs.Owed.{unlogged}

-- ---- LINES pull none out

either-pulled : (b : Bool) (x y : Course) (vs : List Visit) → x.pulled ≡ vs → y.pulled ≡ vs → (cond b x y).pulled ≡ vs
either-pulled true x y vs one other = one
either-pulled false x y vs one other = other

told-pulled : (log : RunLog) (u : ℕ) (p : Phase) (moved : Moved) (slot : Slot) (c : Course) → (slot_told log u p moved slot c).pulled ≡ c.pulled
told-pulled log u p moved slot c =
    let verdicts : List Verdict = cond (moved.enters slot) (found_in log u p slot) [] in
    let seen : List (Visit × Verdict) = flat_map (λ (visit : Visit). map (λ (v : Verdict). (visit, v)) verdicts) (visits p slot c.slots) in
    let judged : Course = record c { found = c.found ++ seen } in
    let taken : Course = record judged { slots = with_slot c.slots slot (option_map {T = Sitting} (λ (x : Sitting). record x { accepted = Some u }) (in_slot c.slots slot)) } in
    either-pulled (is_torn_in log u p slot) (record (leaves slot judged) { torn = c.torn ++ (moved.leaving slot ++ visits p slot c.slots) }) (cond (list_any is_accepting verdicts) taken judged) c.pulled refl
    (either-pulled (list_any is_accepting verdicts) taken judged c.pulled refl refl)

both-pulled : (log : RunLog) (u : ℕ) (p : Phase) (moved : Moved) (c : Course) → (both_told log u p moved c).pulled ≡ c.pulled
both-pulled log u p moved c = told-pulled log u p moved CoDriver (slot_told log u p moved Driver c) ∙ told-pulled log u p moved Driver c

-- ---- WHERE NONE IS TORN OUT the lines of a second take no card out of a slot: it goes as by its actions alone

-- the same cards sit in the slots, and the same were pulled out
record IsAlike (c quiet : Course) : Type 0 where
  sits : (slot : Slot) → card_in (in_slot quiet.slots slot) ≡ card_in (in_slot c.slots slot)
  pulled : quiet.pulled ≡ c.pulled
  calm : quiet.torn ≡ []

some-none : {X : Type 0} (x : X) (xs : List X) → x ∷ xs ≡ [] → ⊥
some-none x xs is = absurd (let wrong : x ∷ xs ≡ [] = is in cc)

none-front : {X : Type 0} (xs ys : List X) → xs ++ ys ≡ [] → xs ≡ []
none-front [] ys is = refl
none-front (x ∷ xs) ys is = absurd (some-none x (xs ++ ys) is)

none-behind : {X : Type 0} (xs ys : List X) → xs ++ ys ≡ [] → ys ≡ []
none-behind [] ys is = is
none-behind (x ∷ xs) ys is = absurd (some-none x (xs ++ ys) is)

-- a slot in which nobody is visited is empty
abbrev visits_by : Phase → Slot → Option Sitting → List Visit
visits_by p slot q = map (λ (card : Card). record { phase = p; slot = slot; card = card }) (card_in q)

visits-none : (p : Phase) (slot : Slot) (slots : Slots) → visits p slot slots ≡ [] → card_in (in_slot slots slot) ≡ []
visits-none p slot slots = by (in_slot slots slot)
  where
    by : (q : Option Sitting) → visits_by p slot q ≡ [] → card_in q ≡ []
    by None is = refl
    by (Some x) is = absurd (some-none {X = Visit} (record { phase = p; slot = slot; card = x.card }) [] is)

-- whoever sits in a slot, if another one changes
sits-with : (y slot : Slot) (slots : Slots) (q : Option Sitting) → card_in q ≡ card_in (in_slot slots y) → card_in (in_slot (with_slot slots y q) slot) ≡ card_in (in_slot slots slot)
sits-with Driver Driver slots q same = same
sits-with CoDriver CoDriver slots q same = same
sits-with Driver CoDriver slots q same = refl
sits-with CoDriver Driver slots q same = refl

marked-card : (u : ℕ) (q : Option Sitting) → card_in (option_map {T = Sitting} (λ (x : Sitting). record x { accepted = Some u }) q) ≡ card_in q
marked-card u None = refl
marked-card u (Some x) = refl

-- A SLOT IS TOLD OF, and none is torn out: the same cards sit there
told-alike : (log : RunLog) (u : ℕ) (p : Phase) (moved : Moved) (y : Slot) (c : Course) → (slot_told log u p moved y c).torn ≡ [] → (c.torn ≡ []) × ((slot : Slot) → card_in (in_slot (slot_told log u p moved y c).slots slot) ≡ card_in (in_slot c.slots slot))
told-alike log u p moved y c = by (cond (moved.enters y) (found_in log u p y) []) (is_torn_in log u p y) (list_any is_accepting (cond (moved.enters y) (found_in log u p y) []))
  where
    by : (vs : List Verdict) (torn takes : Bool) →
        let judged : Course = record c { found = c.found ++ flat_map (λ (visit : Visit). map (λ (v : Verdict). (visit, v)) vs) (visits p y c.slots) } in
        let taken : Course = record judged { slots = with_slot c.slots y (option_map {T = Sitting} (λ (x : Sitting). record x { accepted = Some u }) (in_slot c.slots y)) } in
        let now : Course = cond torn (record (leaves y judged) { torn = c.torn ++ (moved.leaving y ++ visits p y c.slots) }) (cond takes taken judged) in
        now.torn ≡ [] → (c.torn ≡ []) × ((slot : Slot) → card_in (in_slot now.slots slot) ≡ card_in (in_slot c.slots slot))
    by vs true takes none = (
      none-front c.torn (moved.leaving y ++ visits p y c.slots) none,
      λ slot. sits-with y slot c.slots None (sym (visits-none p y c.slots (none-behind (moved.leaving y) (visits p y c.slots) (none-behind c.torn (moved.leaving y ++ visits p y c.slots) none)))),
    )
    by vs false true none = (none, λ slot. sits-with y slot c.slots (option_map {T = Sitting} (λ (x : Sitting). record x { accepted = Some u }) (in_slot c.slots y)) (marked-card u (in_slot c.slots y)))
    by vs false false none = (none, λ slot. refl)

both-alike : (log : RunLog) (u : ℕ) (p : Phase) (moved : Moved) (c : Course) → (both_told log u p moved c).torn ≡ [] → (c.torn ≡ []) × ((slot : Slot) → card_in (in_slot (both_told log u p moved c).slots slot) ≡ card_in (in_slot c.slots slot))
both-alike log u p moved c none =
    let second = told-alike log u p moved CoDriver (slot_told log u p moved Driver c) none in
    let first = told-alike log u p moved Driver c second.0 in
    (first.0, λ slot. second.1 slot ∙ first.1 slot)

-- where none is torn out of a slot
either-torn : (b : Bool) (x y : Course) (vs : List Visit) → x.torn ≡ vs → y.torn ≡ vs → (cond b x y).torn ≡ vs
either-torn true x y vs one other = one
either-torn false x y vs one other = other

untorn-told : (log : RunLog) (u : ℕ) (p : Phase) (moved : Moved) (slot : Slot) (c : Course) → is_torn_in log u p slot ≡ false → (slot_told log u p moved slot c).torn ≡ c.torn
untorn-told log u p moved slot c out =
    let verdicts : List Verdict = cond (moved.enters slot) (found_in log u p slot) [] in
    let seen : List (Visit × Verdict) = flat_map (λ (visit : Visit). map (λ (v : Verdict). (visit, v)) verdicts) (visits p slot c.slots) in
    let judged : Course = record c { found = c.found ++ seen } in
    let taken : Course = record judged { slots = with_slot c.slots slot (option_map {T = Sitting} (λ (x : Sitting). record x { accepted = Some u }) (in_slot c.slots slot)) } in
    ap (λ (b : Bool). (cond b (record (leaves slot judged) { torn = c.torn ++ (moved.leaving slot ++ visits p slot c.slots) }) (cond (list_any is_accepting verdicts) taken judged)).torn) out
    ∙ either-torn (list_any is_accepting verdicts) taken judged c.torn refl refl

-- by a log without a line
none-torn-by : (u : ℕ) (p : Phase) (slot : Slot) → is_torn_in unlogged u p slot ≡ false
unfolding is_torn_in
none-torn-by u p slot = refl

none-cut-by : (u : ℕ) → cut_in unlogged u ≡ None
unfolding cut_in
none-cut-by u = refl

both-calm : (u : ℕ) (p : Phase) (moved : Moved) (c : Course) → (both_told unlogged u p moved c).torn ≡ c.torn
both-calm u p moved c = untorn-told unlogged u p moved CoDriver (slot_told unlogged u p moved Driver c) (none-torn-by u p CoDriver) ∙ untorn-told unlogged u p moved Driver c (none-torn-by u p Driver)

lines-alike : (log : RunLog) (u : ℕ) (p : Phase) (moved quiet_moved : Moved) (c quiet : Course) → IsAlike c quiet → (both_told log u p moved c).torn ≡ [] → IsAlike (both_told log u p moved c) (both_told unlogged u p quiet_moved quiet)
lines-alike log u p moved quiet_moved c quiet h none =
    let calm : (both_told unlogged u p quiet_moved quiet).torn ≡ [] = both-calm u p quiet_moved quiet ∙ h.calm in
    record {
      sits = λ slot. (both-alike unlogged u p quiet_moved quiet calm).1 slot ∙ h.sits slot ∙ sym ((both-alike log u p moved c none).1 slot);
      pulled = both-pulled unlogged u p quiet_moved quiet ∙ h.pulled ∙ sym (both-pulled log u p moved c);
      calm = calm;
    }

-- AN ACTION is refused or carried out alike; but for a place and an entry by hand, which ask for an accepted card and take none out
abbrev asks_accepted : Action → Bool
asks_accepted (Select slot pick) = false
asks_accepted (Insert slot card) = false
asks_accepted (Withdraw slot) = false
asks_accepted (Tear slot) = false
asks_accepted (Place slot ending country region) = true
asks_accepted (Manual slot pick minute) = true

any_card : List Card → Bool
any_card [] = false
any_card (x ∷ cards) = true

some-card : (q : Option Sitting) → is_some q ≡ any_card (card_in q)
unfolding any_card
some-card None = refl
some-card (Some x) = refl

holds_card : Card → List Card → Bool
holds_card card [] = false
holds_card card (x ∷ cards) = same_card x card

holds-card : (q : Option Sitting) (card : Card) → holds q card ≡ holds_card card (card_in q)
unfolding holds_card
holds-card None card = refl
holds-card (Some x) card = refl

module _ (c quiet : Course) (h : IsAlike c quiet) where
  some-alike : (slot : Slot) → is_some (in_slot quiet.slots slot) ≡ is_some (in_slot c.slots slot)
  some-alike slot = some-card (in_slot quiet.slots slot) ∙ ap any_card (h.sits slot) ∙ sym (some-card (in_slot c.slots slot))

  holds-alike : (slot : Slot) (card : Card) → holds (in_slot quiet.slots slot) card ≡ holds (in_slot c.slots slot) card
  holds-alike slot card = holds-card (in_slot quiet.slots slot) card ∙ ap (holds_card card) (h.sits slot) ∙ sym (holds-card (in_slot c.slots slot) card)

  same-alike : (x y : Course) → x.slots ≡ c.slots → x.pulled ≡ c.pulled → y.slots ≡ quiet.slots → y.pulled ≡ quiet.pulled → y.torn ≡ quiet.torn → IsAlike x y
  same-alike x y slots pulled quiet_slots quiet_pulled torn = record {
    sits = λ slot. ap (λ (s : Slots). card_in (in_slot s slot)) quiet_slots ∙ h.sits slot ∙ sym (ap (λ (s : Slots). card_in (in_slot s slot)) slots);
    pulled = quiet_pulled ∙ h.pulled ∙ sym pulled;
    calm = torn ∙ h.calm;
  }

  with-alike : (y slot : Slot) (q : Option Sitting) → card_in (in_slot (with_slot quiet.slots y q) slot) ≡ card_in (in_slot (with_slot c.slots y q) slot)
  with-alike Driver Driver q = refl
  with-alike CoDriver CoDriver q = refl
  with-alike Driver CoDriver q = h.sits CoDriver
  with-alike CoDriver Driver q = h.sits Driver

  refusal-alike : (speed : ℕ) (a : Action) → asks_accepted a ≡ false → refusal quiet.slots speed a ≡ refusal c.slots speed a
  refusal-alike speed (Select slot pick) other = refl
  refusal-alike speed (Insert slot card) other =
      ap (λ (b : Bool). cond b (Some (Occupied slot)) (cond (holds (in_slot quiet.slots (other_slot slot)) card) (Some (Elsewhere card)) None)) (some-alike slot)
      ∙ ap (λ (b : Bool). cond (is_some (in_slot c.slots slot)) (Some (Occupied slot)) (cond b (Some (Elsewhere card)) None)) (holds-alike (other_slot slot) card)
  refusal-alike speed (Withdraw slot) other = ap (λ (b : Bool). cond (not b) (Some (Empty slot)) (cond (nat_lt 0 speed) (Some (Moving speed)) None)) (some-alike slot)
  refusal-alike speed (Tear slot) other = ap (λ (b : Bool). cond b None (Some (Empty slot))) (some-alike slot)
  refusal-alike speed (Place slot ending country region) other = absurd (let wrong : true ≡ false = other in cc)
  refusal-alike speed (Manual slot pick minute) other = absurd (let wrong : true ≡ false = other in cc)

  answered-alike : (n : ℕ) (r : Option SlotFault) (a : Action) → IsAlike (answered n r a c) (answered n r a quiet)
  answered-alike n (Some fault) a = same-alike (answered n (Some fault) a c) (answered n (Some fault) a quiet) refl refl refl refl refl
  answered-alike n None (Select slot pick) = same-alike (answered n None (Select slot pick) c) (answered n None (Select slot pick) quiet) refl refl refl refl refl
  answered-alike n None (Insert y card) = record { sits = λ slot. with-alike y slot (Some (record { card = card; accepted = None })); pulled = h.pulled; calm = h.calm }
  answered-alike n None (Withdraw y) = record { sits = λ slot. with-alike y slot None; pulled = h.pulled; calm = h.calm }
  answered-alike n None (Tear y) = record {
    sits = λ slot. with-alike y slot None;
    pulled = ap (λ (vs : List Visit). vs ++ visits (In (n + 1)) y quiet.slots) h.pulled ∙ ap (λ (cards : List Card). c.pulled ++ map (λ (card : Card). record { phase = In (n + 1); slot = y; card = card }) cards) (h.sits y);
    calm = h.calm;
  }
  answered-alike n None (Place slot ending country region) = same-alike c quiet refl refl refl refl refl
  answered-alike n None (Manual slot pick minute) = same-alike c quiet refl refl refl refl refl

  placed-alike : (n : ℕ) (r q : Option SlotFault) (slot : Slot) (ending : Bool) (country region : ℕ) → IsAlike (answered n r (Place slot ending country region) c) (answered n q (Place slot ending country region) quiet)
  placed-alike n None None slot ending country region = same-alike c quiet refl refl refl refl refl
  placed-alike n None (Some fault) slot ending country region = same-alike c (answered n (Some fault) (Place slot ending country region) quiet) refl refl refl refl refl
  placed-alike n (Some fault) None slot ending country region = same-alike (answered n (Some fault) (Place slot ending country region) c) quiet refl refl refl refl refl
  placed-alike n (Some fault) (Some other) slot ending country region =
      same-alike (answered n (Some fault) (Place slot ending country region) c) (answered n (Some other) (Place slot ending country region) quiet) refl refl refl refl refl

  by-hand-alike : (n : ℕ) (r q : Option SlotFault) (slot : Slot) (pick : Pick) (minute : ℕ) → IsAlike (answered n r (Manual slot pick minute) c) (answered n q (Manual slot pick minute) quiet)
  by-hand-alike n None None slot pick minute = same-alike c quiet refl refl refl refl refl
  by-hand-alike n None (Some fault) slot pick minute = same-alike c (answered n (Some fault) (Manual slot pick minute) quiet) refl refl refl refl refl
  by-hand-alike n (Some fault) None slot pick minute = same-alike (answered n (Some fault) (Manual slot pick minute) c) quiet refl refl refl refl refl
  by-hand-alike n (Some fault) (Some other) slot pick minute =
      same-alike (answered n (Some fault) (Manual slot pick minute) c) (answered n (Some other) (Manual slot pick minute) quiet) refl refl refl refl refl

  by-refusals : (n speed : ℕ) (a : Action) → asks_accepted a ≡ false → IsAlike (answered n (refusal c.slots speed a) a c) (answered n (refusal quiet.slots speed a) a quiet)
  by-refusals n speed a other = subst (λ (r : Option SlotFault). IsAlike (answered n (refusal c.slots speed a) a c) (answered n r a quiet)) (sym (refusal-alike speed a other)) (answered-alike n (refusal c.slots speed a) a)

  begun-alike : (n speed : ℕ) (a : Action) → IsAlike (answered n (refusal c.slots speed a) a c) (answered n (refusal quiet.slots speed a) a quiet)
  begun-alike n speed (Select slot pick) = by-refusals n speed (Select slot pick) refl
  begun-alike n speed (Insert slot card) = by-refusals n speed (Insert slot card) refl
  begun-alike n speed (Withdraw slot) = by-refusals n speed (Withdraw slot) refl
  begun-alike n speed (Tear slot) = by-refusals n speed (Tear slot) refl
  begun-alike n speed (Place slot ending country region) =
      placed-alike n (refusal c.slots speed (Place slot ending country region)) (refusal quiet.slots speed (Place slot ending country region)) slot ending country region
  begun-alike n speed (Manual slot pick minute) =
      by-hand-alike n (refusal c.slots speed (Manual slot pick minute)) (refusal quiet.slots speed (Manual slot pick minute)) slot pick minute

answered-torn : (n : ℕ) (r : Option SlotFault) (a : Action) (c : Course) → (answered n r a c).torn ≡ c.torn
answered-torn n (Some fault) a c = refl
answered-torn n None (Select slot pick) c = refl
answered-torn n None (Insert slot card) c = refl
answered-torn n None (Withdraw slot) c = refl
answered-torn n None (Tear slot) c = refl
answered-torn n None (Place slot ending country region) c = refl
answered-torn n None (Manual slot pick minute) c = refl

-- one that has begun, by either log
begun-as : (log : RunLog) (s : TraceSecond) (n : ℕ) (a : Action) (c : Course) → cut_in log s.number ≡ None → acted log s n a c ≡ both_told log s.number (In (n + 1)) (moved_by n (refusal c.slots s.speed a) a c.slots) (answered n (refusal c.slots s.speed a) a c)
begun-as log s n a c uncut =
    ap (λ (q : Option ℕ). cond (begins q n) (both_told log s.number (In (n + 1)) (moved_by n (refusal c.slots s.speed a) a c.slots) (answered n (refusal c.slots s.speed a) a c)) (record c { settled = c.settled || is_settling a })) uncut

acted-untorn : (log : RunLog) (s : TraceSecond) (n : ℕ) (a : Action) (c : Course) → cut_in log s.number ≡ None → (acted log s n a c).torn ≡ [] → c.torn ≡ []
acted-untorn log s n a c uncut none =
    let r : Option SlotFault = refusal c.slots s.speed a in
    sym (answered-torn n r a c) ∙ (both-alike log s.number (In (n + 1)) (moved_by n r a c.slots) (answered n r a c) (sym (ap (λ (k : Course). k.torn) (begun-as log s n a c uncut)) ∙ none)).0

all-untorn : (log : RunLog) (s : TraceSecond) (actions : List Action) (n : ℕ) (c : Course) → cut_in log s.number ≡ None → (all_acted log s n actions c).torn ≡ [] → c.torn ≡ []
all-untorn log s [] n c uncut none = none
all-untorn log s (a ∷ actions) n c uncut none = acted-untorn log s n a c uncut (all-untorn log s actions (n + 1) (acted log s n a c) uncut none)

acted-alike : (log : RunLog) (s : TraceSecond) (n : ℕ) (a : Action) (c quiet : Course) → cut_in log s.number ≡ None → IsAlike c quiet → (acted log s n a c).torn ≡ [] → IsAlike (acted log s n a c) (acted unlogged s n a quiet)
acted-alike log s n a c quiet uncut h none =
    let r : Option SlotFault = refusal c.slots s.speed a in
    let q : Option SlotFault = refusal quiet.slots s.speed a in
    let now : Course = both_told log s.number (In (n + 1)) (moved_by n r a c.slots) (answered n r a c) in
    subst (λ (k : Course). IsAlike k (acted unlogged s n a quiet)) (sym (begun-as log s n a c uncut))
    (subst (λ (k : Course). IsAlike now k) (sym (begun-as unlogged s n a quiet (none-cut-by s.number)))
    (lines-alike log s.number (In (n + 1)) (moved_by n r a c.slots) (moved_by n q a quiet.slots) (answered n r a c) (answered n q a quiet) (begun-alike c quiet h n s.speed a)
    (sym (ap (λ (k : Course). k.torn) (begun-as log s n a c uncut)) ∙ none)))

all-alike : (log : RunLog) (s : TraceSecond) (actions : List Action) (n : ℕ) (c quiet : Course) → cut_in log s.number ≡ None → IsAlike c quiet → (all_acted log s n actions c).torn ≡ [] → IsAlike (all_acted log s n actions c) (all_acted unlogged s n actions quiet)
all-alike log s [] n c quiet uncut h none = h
all-alike log s (a ∷ actions) n c quiet uncut h none =
    all-alike log s actions (n + 1) (acted log s n a c) (acted unlogged s n a quiet) uncut
    (acted-alike log s n a c quiet uncut h (all-untorn log s actions (n + 1) (acted log s n a c) uncut none)) none

by-alike : (log : RunLog) (before : Before) (s : TraceSecond) (n : ℕ) → cut_in log s.number ≡ None → (course_by log before s n).torn ≡ [] → IsAlike (course_by log before s n) (course_by unlogged before s n)
by-alike log before s n uncut none =
    let begun : Course = fresh (not before.running) before.slots in
    all-alike log s (take n s.actions) 0 (course_powered log before s) (course_powered unlogged before s) uncut
    (lines-alike log s.number (In 0) (unmoved (not before.running)) (unmoved (not before.running)) begun begun (record { sits = λ slot. refl; pulled = refl; calm = refl })
    (all-untorn log s (take n s.actions) 0 (course_powered log before s) uncut none))
    none

none-among : (vs : List Visit) → ((v : Visit) → Contains vs v → ⊥) → vs ≡ []
none-among [] none = refl
none-among (v ∷ vs) none = absurd (none v (Contains-append_left (v ∷ []) vs v (Contains-push [] v)))

-- AT A MOMENT OF AN ACTION
pub pulled-alone : (log : RunLog) (before : Before) (s : TraceSecond) (n : ℕ) → n ≤ length s.actions → cut_in log s.number ≡ None → ((v : Visit) → Contains (course_at log before s (In n)).torn v → ⊥) → (v : Visit) → Contains (course_at log before s (In n)).pulled v →
    Contains (course_by unlogged before s n).pulled v
pulled-alone log before s n few uncut none v at =
    let by : course_by log before s n ≡ course_at log before s (In n) = at-by log before s uncut n few in
    let h = by-alike log before s n uncut (ap (λ (k : Course). k.torn) by ∙ none-among (course_at log before s (In n)).torn none) in
    subst (λ (vs : List Visit). Contains vs v) (sym (ap (λ (k : Course). k.pulled) by) ∙ sym h.pulled) at

-- ---- WHERE NO CALL HAS FAILED none was torn out

slot-itself : (s : Slot) → same_slot s s ≡ true
slot-itself Driver = refl
slot-itself CoDriver = refl

stands-at : (u : ℕ) (vs : List Visit) (v : Visit) → Contains vs v → Contains (visit_places u vs) (u, v.phase, v.slot)
stands-at u [] v at = absurd (omega (arith, at.1))
stands-at u (x ∷ vs) v at = ⊎_elim
    (λ here. ⊎_elim
    (λ none. absurd (omega (arith, none.1)))
    (λ (is : x ≡ v). Contains-append_left (visit_places u (x ∷ [])) (visit_places u vs) (u, v.phase, v.slot) (0, omega arith, ap (λ (y : Visit). (u, y.phase, y.slot)) is))
    (Contains-push_cases [] x v here))
    (λ there. Contains-append_right (visit_places u (x ∷ [])) (visit_places u vs) (u, v.phase, v.slot) (stands-at u vs v there))
    (Contains-append_cases (x ∷ []) vs v at)

torn-stands : (told : List ToldSecond) (t : ToldSecond) (v : Visit) → Contains told t → Contains t.course.torn v → Contains (torn_of told) (t.second.number, v.phase, v.slot)
torn-stands [] t v at torn = absurd (omega (arith, at.1))
torn-stands (x ∷ told) t v at torn = ⊎_elim
    (λ here. ⊎_elim
    (λ none. absurd (omega (arith, none.1)))
    (λ (is : x ≡ t). Contains-append_left (visit_places x.second.number x.course.torn) (torn_of told) (t.second.number, v.phase, v.slot)
    (subst (λ (y : ToldSecond). Contains (visit_places y.second.number y.course.torn) (t.second.number, v.phase, v.slot)) (sym is) (stands-at t.second.number t.course.torn v torn)))
    (Contains-push_cases [] x t here))
    (λ there. Contains-append_right (visit_places x.second.number x.course.torn) (torn_of told) (t.second.number, v.phase, v.slot) (torn-stands told t v there torn))
    (Contains-append_cases (x ∷ []) told t at)

in-slot : (slot : Slot) (ps : List (ℕ × Phase × Slot)) (p : ℕ × Phase × Slot) → same_slot p.2 slot ≡ true → Contains ps p → Contains (in_the_slot slot ps) p
in-slot slot [] p is at = absurd (omega (arith, at.1))
in-slot slot (x ∷ ps) p is at = ⊎_elim
    (λ first. ⊎_elim (λ none. absurd (omega (arith, none.1))) (λ (same : x ≡ p). here same (same_slot x.2 slot) refl) (Contains-push_cases [] x p first))
    (λ rest. there (same_slot x.2 slot) (in-slot slot ps p is rest))
    (Contains-append_cases (x ∷ []) ps p at)
  where
    there : (b : Bool) → Contains (in_the_slot slot ps) p → Contains (cond b (x ∷ in_the_slot slot ps) (in_the_slot slot ps)) p
    there true rest = Contains-append_right (x ∷ []) (in_the_slot slot ps) p rest
    there false rest = rest

    here : x ≡ p → (b : Bool) → same_slot x.2 slot ≡ b → Contains (cond b (x ∷ in_the_slot slot ps) (in_the_slot slot ps)) p
    here same true e = Contains-append_left (x ∷ []) (in_the_slot slot ps) p (0, omega arith, same)
    here same false e = absurd (let clash : false ≡ true = sym e ∙ ap (λ (y : ℕ × Phase × Slot). same_slot y.2 slot) same ∙ is in cc)

-- of places of which the log tells
none-there : (bs : List Break) (ps : List (ℕ × Phase × Slot)) (p : ℕ × Phase × Slot) → bs ≡ [] → in_the_slot p.2 (flat_map places bs) ≡ in_the_slot p.2 ps → Contains ps p → ⊥
none-there bs ps p none same at =
    let there : Contains (in_the_slot p.2 (flat_map places bs)) p = subst (λ (l : List (ℕ × Phase × Slot)). Contains l p) (sym same) (in-slot p.2 ps p (slot-itself p.2) at) in
    let gone : Contains {X = ℕ × Phase × Slot} [] p = subst (λ (l : List Break). Contains (in_the_slot p.2 (flat_map places l)) p) none there in
    omega (arith, gone.1)

-- before,
pub none-torn : (log : RunLog) (told : List ToldSecond) → tears true log ≡ [] → ((slot : Slot) → in_the_slot slot (flat_map places (tears true log)) ≡ in_the_slot slot (torn_of told)) → (t : ToldSecond) (v : Visit) → Contains told t → Contains t.course.torn v → ⊥
none-torn log told none same t v at torn = none-there (tears true log) (torn_of told) (t.second.number, v.phase, v.slot) none (same v.slot) (torn-stands told t v at torn)

-- and in a second
pub none-torn-in : (u : ℕ) (breaks : List Break) (vs : List Visit) → tears true (log_of breaks) ≡ [] → ((slot : Slot) → in_the_slot slot (flat_map places (tears true (log_of breaks))) ≡ in_the_slot slot (visit_places u vs)) → (v : Visit) → Contains vs v → ⊥
none-torn-in u breaks vs none same v at = none-there (tears true (log_of breaks)) (visit_places u vs) (u, v.phase, v.slot) none (same v.slot) (stands-at u vs v at)

abbrev failed_tear : Break → Bool
failed_tear b = not (is_cut b) && has_failed b

-- the lines of a second tell of none, where none at all do
pub tears-none : (log : RunLog) (more : List Break) → NothingFailed (record log { breaks = log.breaks ++ more }) → tears true (log_of more) ≡ []
tears-none log more none = by (filter failed_tear log.breaks) (sym (filter-append failed_tear log.breaks more) ∙ none.1)
  where
    by : (zs : List Break) → zs ++ filter failed_tear more ≡ [] → filter failed_tear more ≡ []
    by [] is = is
    by (z ∷ zs) is = absurd (cc)
