-- A trace without a card's line uses no card: in no second is one in a slot, and none enters, leaves, is pulled or torn out.
use Rattle.std.proofs.Common.{◌≡◌, ◌∙◌, ℕ, ◌+◌, Bool, true, false, cond, not, None, List, [], ◌∷◌, ◌++◌, Contains, fold, map, refl, ap, subst, arith, is_some}
use Rattle.std.specs.Prelude.{flat_map}
use Rattle.std.specs.List.{AllByRecursion}
use Rattle.activity_codec.specs.declared.values.Slot.{Slot}
use Rattle.activity_codec.specs.declared.values.Slot.TheVariants.{Driver, CoDriver}
use Rattle.activity_codec.specs.declared.values.Pick.{Pick}
use Rattle.trace_model.specs.declared.Action.{Action}
use Rattle.trace_model.specs.declared.Action.TheVariants.{Select, Insert, Withdraw, Tear, Place, Manual}
use Rattle.trace_model.specs.Trace.{TraceSecond}
use Rattle.log_model.specs.declared.lines.SlotFault.{SlotFault}
use Rattle.log_model.specs.declared.lines.Verdict.{Verdict}
use Rattle.log_model.specs.Log.{RunLog, Phase, In, Keeping, cut_in, is_torn_in}
use Rattle.log_model.specs.Slots.{Slots}
use Rattle.log_model.specs.Course.{Course, Visit, ToldSecond, Went, Before, Moved, moved_by, unmoved, slot_told, both_told, begins, acted, all_acted, fresh, cut_told, lit_course, dark_course, without_power, has_power, second_told, went_on, went, not_begun}
use Rattle.log_model.specs.Causes.{pulled_of, torn_of, cards_torn, finds_of, visit_places}
use Rattle.run_unit_course.specs.Turn.{IsSelection, empty_slots, plain_course, ArePlain}
use Rattle.unit_events.specs.Plain.{OnlySelect}
use Rattle.unit_events.proofs.Bridge.{each-push}

-- SECONDS WITHOUT CARDS: such actions alone are carried out, and the slots stay empty, whatever the log tells
pub record IsCardless (t : ToldSecond) : Type 0 where
  pub picks : List (Slot × Pick)
  pub refused : List (ℕ × SlotFault)
  pub is : t.course ≡ plain_course picks refused

either : {X : Type 0} (b : Bool) (x y z : X) → x ≡ z → y ≡ z → cond b x y ≡ z
either true x y z a c = a
either false x y z a c = c

slot-plain : (log : RunLog) (u : ℕ) (p : Phase) (moved : Moved) (slot : Slot) (picks : List (Slot × Pick)) (refused : List (ℕ × SlotFault)) → moved.leaving slot ≡ [] →
    slot_told log u p moved slot (plain_course picks refused) ≡ plain_course picks refused
slot-plain log u p moved Driver picks refused none =
    either (is_torn_in log u p Driver) _ _ (plain_course picks refused)
    (ap (λ (vs : List Visit). record (plain_course picks refused) { torn = vs ++ [] }) none)
    (either _ _ _ (plain_course picks refused) refl refl)
slot-plain log u p moved CoDriver picks refused none =
    either (is_torn_in log u p CoDriver) _ _ (plain_course picks refused)
    (ap (λ (vs : List Visit). record (plain_course picks refused) { torn = vs ++ [] }) none)
    (either _ _ _ (plain_course picks refused) refl refl)

both-plain : (log : RunLog) (u : ℕ) (p : Phase) (moved : Moved) (picks : List (Slot × Pick)) (refused : List (ℕ × SlotFault)) → ((slot : Slot) → moved.leaving slot ≡ []) →
    both_told log u p moved (plain_course picks refused) ≡ plain_course picks refused
both-plain log u p moved picks refused none =
    ap (slot_told log u p moved CoDriver) (slot-plain log u p moved Driver picks refused (none Driver)) ∙ slot-plain log u p moved CoDriver picks refused (none CoDriver)

fresh-plain : (starts : Bool) → fresh starts empty_slots ≡ plain_course [] []
fresh-plain true = refl
fresh-plain false = refl

cut-plain : (b : Bool) (picks : List (Slot × Pick)) → cut_told b (plain_course picks []) ≡ plain_course picks []
cut-plain true picks = refl
cut-plain false picks = refl

one-acted : (log : RunLog) (s : TraceSecond) (n : ℕ) (slot : Slot) (pick : Pick) (picks : List (Slot × Pick)) →
    (ps : List (Slot × Pick)) × (acted log s n (Select slot pick) (plain_course picks []) ≡ plain_course ps [])
one-acted log s n slot pick picks = by (begins (cut_in log s.number) n) refl
  where
    by : (b : Bool) → begins (cut_in log s.number) n ≡ b → (ps : List (Slot × Pick)) × (acted log s n (Select slot pick) (plain_course picks []) ≡ plain_course ps [])
    by true is = (picks ++ (slot, pick) ∷ [], rw is (both-plain log s.number (In (n + 1)) (moved_by n None (Select slot pick) empty_slots) (picks ++ (slot, pick) ∷ []) [] (λ other. refl)))
    by false is = (picks, rw is refl)

all-picked : (log : RunLog) (s : TraceSecond) (n : ℕ) (actions : List Action) (picks : List (Slot × Pick)) → AllByRecursion IsSelection actions →
    (ps : List (Slot × Pick)) × (all_acted log s n actions (plain_course picks []) ≡ plain_course ps [])
all-picked log s n [] picks each = (picks, refl)
all-picked log s n (Select slot pick ∷ actions) picks each =
    let one = one-acted log s n slot pick picks in
    let rest = all-picked log s (n + 1) actions one.0 each.1 in
    (rest.0, ap (all_acted log s (n + 1) actions) one.1 ∙ rest.1)
all-picked log s n (Insert slot card ∷ actions) picks each = absurd each.0
all-picked log s n (Withdraw slot ∷ actions) picks each = absurd each.0
all-picked log s n (Tear slot ∷ actions) picks each = absurd each.0
all-picked log s n (Place slot ending country region ∷ actions) picks each = absurd each.0
all-picked log s n (Manual slot pick minute ∷ actions) picks each = absurd each.0

pub powered-plain : (log : RunLog) (u : ℕ) (starts : Bool) (slots : Slots) → slots ≡ empty_slots → both_told log u (In 0) (unmoved starts) (fresh starts slots) ≡ plain_course [] []
powered-plain log u starts slots empty =
    ap (λ (l : Slots). both_told log u (In 0) (unmoved starts) (fresh starts l)) empty
    ∙ ap (both_told log u (In 0) (unmoved starts)) (fresh-plain starts)
    ∙ both-plain log u (In 0) (unmoved starts) [] [] (λ slot. refl)

lit-plain : (log : RunLog) (s : TraceSecond) (starts : Bool) (slots : Slots) → slots ≡ empty_slots → AllByRecursion IsSelection s.actions →
    (ps : List (Slot × Pick)) × (lit_course log s starts slots ≡ plain_course ps [])
lit-plain log s starts slots empty each =
    let all = all-picked log s 0 s.actions [] each in (
      all.0,
      ap (λ (c : Course). cut_told (is_some (cut_in log s.number)) (both_told log s.number Keeping (unmoved false) (all_acted log s 0 s.actions c))) (powered-plain log s.number starts slots empty)
          ∙ ap (λ (c : Course). cut_told (is_some (cut_in log s.number)) (both_told log s.number Keeping (unmoved false) c)) all.1
          ∙ ap (cut_told (is_some (cut_in log s.number))) (both-plain log s.number Keeping (unmoved false) all.0 [] (λ slot. refl))
          ∙ cut-plain (is_some (cut_in log s.number)) all.0,
    )

pub second-cardless : (log : RunLog) (before : Before) (s : TraceSecond) → before.slots ≡ empty_slots → AllByRecursion IsSelection s.actions → IsCardless (second_told log before s)
second-cardless log before s slots each = by (has_power before s) refl
  where
    by : (b : Bool) → has_power before s ≡ b → IsCardless (second_told log before s)
    by true is = let lit = lit-plain log s (not before.running) before.slots slots each in rw is (record { picks = lit.0; refused = []; is = lit.1 })
    by false is = rw is (record { picks = []; refused = without_power 0 s.actions; is = ap (dark_course s) slots })

abbrev pub AreCardless : List ToldSecond → Type 0
AreCardless told = AllByRecursion IsCardless told

all-cardless : (log : RunLog) (ss : List TraceSecond) → OnlySelect ss → (w : Went) → AreCardless w.told → w.before.slots ≡ empty_slots → AreCardless (fold (went_on log) w ss).told
all-cardless log [] each w all slots = all
all-cardless log (s ∷ ss) each w all slots =
    let t = second-cardless log w.before s slots each.0 in
    all-cardless log ss each.1 (went_on log w s) (each-push IsCardless w.told (second_told log w.before s) all t) (ap (λ (c : Course). c.slots) t.is)

-- NO CARD is in a slot in a second of a trace that selects alone, whatever its log tells
pub cardless : (log : RunLog) (ss : List TraceSecond) → OnlySelect ss → AreCardless (went log ss).told
unfolding went
cardless log ss each = all-cardless log ss each not_begun tt refl

pub plain-told : (told : List ToldSecond) → AreCardless told → ArePlain told
plain-told [] h = tt
plain-told (t ∷ told) h = ((ap (λ (c : Course). c.slots) h.0.is, ap (λ (c : Course). c.settled) h.0.is), plain-told told h.1)

-- so nothing is told of one
none-of : {X : Type 0} (f : ToldSecond → List X) → ((t : ToldSecond) → IsCardless t → f t ≡ []) → (told : List ToldSecond) → AreCardless told → flat_map f told ≡ []
none-of f each [] h = refl
none-of {X} f each (t ∷ told) h = ap (λ (xs : List X). xs ++ flat_map f told) (each t h.0) ∙ none-of f each told h.1

pub none-found : (told : List ToldSecond) → AreCardless told → finds_of told ≡ []
none-found told h = none-of _ (λ t is. ap (λ (c : Course). map (λ f. (t.second.number, f.0.phase, f.0.slot, f.1)) c.found) is.is) told h

pub none-torn-out : (told : List ToldSecond) → AreCardless told → torn_of told ≡ []
none-torn-out told h = none-of _ (λ t is. ap (λ (c : Course). visit_places t.second.number c.torn) is.is) told h

pub none-pulled : (told : List ToldSecond) → AreCardless told → pulled_of told ≡ []
none-pulled told h = none-of _ (λ t is. ap (λ (c : Course). visit_places t.second.number c.pulled) is.is) told h

pub no-card-torn : (told : List ToldSecond) → AreCardless told → cards_torn told ≡ []
no-card-torn told h = none-of _ (λ t is. ap (λ (c : Course). map (λ v. v.card) c.torn) is.is) told h

pub nothing-found : (t : ToldSecond) (e : Visit) (v : Verdict) → IsCardless t → Contains t.course.found (e, v) → ⊥
nothing-found t e v is at =
    let none : Contains {X = Visit × Verdict} [] (e, v) = subst (λ (fs : List (Visit × Verdict)). Contains fs (e, v)) (ap (λ (c : Course). c.found) is.is) at in
    omega (arith, none.1)
