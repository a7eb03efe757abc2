-- What a second notes in the rings, action by action.
use Rattle.std.proofs.Common.{◌≡◌, ℕ, suc, ◌+◌, ◌≤◌, Bool, true, false, cond, not, ◌&&◌, ◌||◌, Option, Some, None, List, [], ◌∷◌, ◌++◌, map, filter, length, nat_eq, is_some, refl, ap, sym, ◌∙◌, arith, append-nil, append_assoc}
use Rattle.std.specs.Prelude.{flat_map, nat_lt, option_map}
use Rattle.std.specs.List.{list_any}
use Rattle.std.proofs.lemmas.Grind.{flat_map-append}
use Rattle.std.proofs.lemmas.List.{map-append}
use Rattle.std.proofs.lemmas.List.Elements.{filter-append}
use Rattle.std.proofs.lemmas.Bool.Decides.{nat_tests}
use Rattle.activity_codec.specs.declared.values.Slot.{Slot}
use Rattle.activity_codec.specs.declared.values.Slot.TheVariants.{Driver, CoDriver}
use Rattle.trace_model.specs.declared.Action.{Action}
use Rattle.trace_model.specs.declared.Action.TheVariants.{Select, Insert, Withdraw, Tear, Place, Manual}
use Rattle.trace_model.specs.Trace.{TraceSecond}
use Rattle.log_model.specs.declared.lines.SlotFault.{SlotFault}
use Rattle.log_model.specs.declared.lines.Verdict.{Verdict}
use Rattle.log_model.specs.Log.{RunLog, Phase, In, Keeping, same_phase, cut_in, is_torn_in, found_in, is_accepting}
use Rattle.log_model.specs.Slots.{Sitting, in_slot, refusal}
use Rattle.log_model.specs.Course.{Course, Visit, Before, Moved, card_in, visits, leaves, with_slot, answered, unmoved, moved_by, fresh, slot_told, both_told, begins, is_settling, acted, all_acted, cut_told, lit_course}
use Rattle.note_model.specs.Done.{CarriedOut, carried_from, course_powered}
use Rattle.note_model.specs.Noted.{Note, Accepts, noted_by}
use Rattle.run_rings.specs.Notes.{accepted_in, noted_if, action_notes, notes_from, notes_to, TellSameTo, LaterLinesChangeNoNote, AnActionNotes, ASecondHasNoted, ACutNotesNoMore}

-- ---- what was found at a moment

abbrev pub Finding : Type 0
Finding = Visit × Verdict

abbrev pub is_at : Phase → Finding → Bool
is_at p f = same_phase f.0.phase p && is_accepting f.1

pub accepted-append : (u : ℕ) (p : Phase) (xs ys : List Finding) → accepted_in u p (xs ++ ys) ≡ accepted_in u p xs ++ accepted_in u p ys
accepted-append u p xs ys =
    ap (map (λ (f : Finding). Accepts (record { second = u; slot = f.0.slot; card = f.0.card }))) (filter-append (is_at p) xs ys)
    ∙ map-append (λ (f : Finding). Accepts (record { second = u; slot = f.0.slot; card = f.0.card })) (filter (is_at p) xs) (filter (is_at p) ys)

-- these were found at one moment
abbrev pub seen_of : Visit → List Verdict → List Finding
seen_of visit verdicts = map (λ (v : Verdict). (visit, v)) verdicts

pub none-other : (u : ℕ) (p q : Phase) (visit : Visit) (verdicts : List Verdict) → visit.phase ≡ p → same_phase p q ≡ false → accepted_in u q (seen_of visit verdicts) ≡ []
none-other u p q visit [] is ne = refl
none-other u p q visit (v ∷ verdicts) is ne =
    let off : same_phase visit.phase q ≡ false = ap (λ (r : Phase). same_phase r q) is ∙ ne in
    let test : is_at q (visit, v) ≡ false = ap (λ (b : Bool). b && is_accepting v) off in
    ap (λ (b : Bool). map (λ (f : Finding). Accepts (record { second = u; slot = f.0.slot; card = f.0.card })) (cond b ((visit, v) ∷ filter (is_at q) (seen_of visit verdicts)) (filter (is_at q) (seen_of visit verdicts)))) test
    ∙ none-other u p q visit verdicts is ne

-- ---- a slot is told of

abbrev pub verdicts_at : RunLog → ℕ → Phase → Moved → Slot → List Verdict
verdicts_at log u p moved slot = cond (moved.enters slot) (found_in log u p slot) []

abbrev pub seen_at : RunLog → ℕ → Phase → Moved → Slot → Course → List Finding
seen_at log u p moved slot c = flat_map (λ visit. map (λ v. (visit, v)) (verdicts_at log u p moved slot)) (visits p slot c.slots)

abbrev pub judged_at : RunLog → ℕ → Phase → Moved → Slot → Course → Course
judged_at log u p moved slot c = record c { found = c.found ++ seen_at log u p moved slot c }

pub slot-found : (log : RunLog) (u : ℕ) (p : Phase) (moved : Moved) (slot : Slot) (c : Course) → (slot_told log u p moved slot c).found ≡ c.found ++ seen_at log u p moved slot c
slot-found log u p moved slot c = by (is_torn_in log u p slot) (list_any is_accepting (verdicts_at log u p moved slot))
  where
    by : (b d : Bool) → (cond b (record (leaves slot (judged_at log u p moved slot c)) { torn = c.torn ++ (moved.leaving slot ++ visits p slot c.slots) })
        (cond d (record (judged_at log u p moved slot c) { slots = with_slot c.slots slot (option_map {T = Sitting} (λ x. record x { accepted = Some u }) (in_slot c.slots slot)) }) (judged_at log u p moved slot c))).found ≡ c.found ++ seen_at log u p moved slot c
    by true d = refl
    by false true = refl
    by false false = refl

pub seen-other : (log : RunLog) (u : ℕ) (p q : Phase) (moved : Moved) (slot : Slot) (c : Course) → same_phase p q ≡ false → accepted_in u q (seen_at log u p moved slot c) ≡ []
seen-other log u p q moved slot c ne = by (in_slot c.slots slot)
  where
    by : (o : Option Sitting) → accepted_in u q (flat_map (λ (visit : Visit). map (λ (v : Verdict). (visit, v)) (verdicts_at log u p moved slot)) (map (λ card. record { phase = p; slot = slot; card = card }) (card_in o))) ≡ []
    by None = refl
    by (Some sitting) =
        let visit : Visit = record { phase = p; slot = slot; card = sitting.card } in
        ap (λ (l : List Finding). accepted_in u q l) (append-nil (seen_of visit (verdicts_at log u p moved slot))) ∙ none-other u p q visit (verdicts_at log u p moved slot) refl ne

slot-accepted : (log : RunLog) (u : ℕ) (p q : Phase) (moved : Moved) (slot : Slot) (c : Course) → same_phase p q ≡ false → accepted_in u q (slot_told log u p moved slot c).found ≡ accepted_in u q c.found
slot-accepted log u p q moved slot c ne =
    ap (λ (l : List Finding). accepted_in u q l) (slot-found log u p moved slot c) ∙ accepted-append u q c.found (seen_at log u p moved slot c)
    ∙ ap (λ (l : List Note). accepted_in u q c.found ++ l) (seen-other log u p q moved slot c ne) ∙ append-nil (accepted_in u q c.found)

both-accepted : (log : RunLog) (u : ℕ) (p q : Phase) (moved : Moved) (c : Course) → same_phase p q ≡ false → accepted_in u q (both_told log u p moved c).found ≡ accepted_in u q c.found
both-accepted log u p q moved c ne = slot-accepted log u p q moved CoDriver (slot_told log u p moved Driver c) ne ∙ slot-accepted log u p q moved Driver c ne

-- ---- an action

pub answered-found : (n : ℕ) (r : Option SlotFault) (a : Action) (c : Course) → (answered n r a c).found ≡ c.found
answered-found n (Some fault) a c = refl
answered-found n None (Select slot pick) c = refl
answered-found n None (Insert slot card) c = refl
answered-found n None (Withdraw slot) c = refl
answered-found n None (Tear slot) c = refl
answered-found n None (Place slot ending country region) c = refl
answered-found n None (Manual slot pick minute) c = refl

acted-accepted : (log : RunLog) (s : TraceSecond) (n m : ℕ) (a : Action) (c : Course) → m ≤ n → accepted_in s.number (In m) (acted log s n a c).found ≡ accepted_in s.number (In m) c.found
acted-accepted log s n m a c le = by (begins (cut_in log s.number) n)
  where
    other : nat_eq (n + 1) m ≡ false
    other = grind (arith, nat_tests)

    by : (b : Bool) → accepted_in s.number (In m) (cond b (both_told log s.number (In (n + 1)) (moved_by n (refusal c.slots s.speed a) a c.slots) (answered n (refusal c.slots s.speed a) a c)) (record c { settled = c.settled || is_settling a })).found
        ≡ accepted_in s.number (In m) c.found
    by true = both-accepted log s.number (In (n + 1)) (In m) (moved_by n (refusal c.slots s.speed a) a c.slots) (answered n (refusal c.slots s.speed a) a c) other ∙ ap (λ (l : List Finding). accepted_in s.number (In m) l) (answered-found n (refusal c.slots s.speed a) a c)
    by false = refl

all-accepted : (log : RunLog) (s : TraceSecond) (n m : ℕ) (as_ : List Action) (c : Course) → m ≤ n → accepted_in s.number (In m) (all_acted log s n as_ c).found ≡ accepted_in s.number (In m) c.found
all-accepted log s n m [] c le = refl
all-accepted log s n m (a ∷ as_) c le = all-accepted log s (n + 1) m as_ (acted log s n a c) (omega (arith, le)) ∙ acted-accepted log s n m a c le

-- ---- the actions of a second

pub from-append : (log : RunLog) (s : TraceSecond) (n : ℕ) (xs ys : List Action) (c : Course) → notes_from log s n (xs ++ ys) c ≡ notes_from log s n xs c ++ notes_from log s (n + length xs) ys (all_acted log s n xs c)
from-append log s n [] ys c = let same : n ≡ n + 0 = omega arith in ap (λ (k : ℕ). notes_from log s k ys c) same
from-append log s n (x ∷ xs) ys c =
    let first : List Note = cond (begins (cut_in log s.number) n) (action_notes log s n x c) [] in
    let next : Course = acted log s n x c in
    let same : n + 1 + length xs ≡ n + suc (length xs) = omega arith in
    ap (λ (l : List Note). first ++ l) (from-append log s (n + 1) xs ys next ∙ ap (λ (k : ℕ). notes_from log s (n + 1) xs next ++ notes_from log s k ys (all_acted log s (n + 1) xs next)) same)
    ∙ sym (append_assoc first (notes_from log s (n + 1) xs next) (notes_from log s (n + suc (length xs)) ys (all_acted log s (n + 1) xs next)))

-- ONE ACTION MORE
pub action-notes : AnActionNotes
action-notes log before s front a =
    let c : Course = course_powered log before s in
    let first : List Note = accepted_in s.number (In 0) c.found in
    let zero_more : 0 + length front ≡ length front = omega arith in
    ap (λ (l : List Note). first ++ l) (from-append log s 0 front (a ∷ []) c ∙ ap (λ (k : ℕ). notes_from log s 0 front c ++ notes_from log s k (a ∷ []) (all_acted log s 0 front c)) zero_more)
    ∙ sym (append_assoc first (notes_from log s 0 front c) (notes_from log s (length front) (a ∷ []) (all_acted log s 0 front c)))

-- ---- later lines

module _ (log later : RunLog) (s : TraceSecond) where
  abbrev u : ℕ
  u = s.number

  slot-same : (p : Phase) (moved : Moved) (slot : Slot) (c : Course) → is_torn_in later u p slot ≡ is_torn_in log u p slot → found_in later u p slot ≡ found_in log u p slot → slot_told later u p moved slot c ≡ slot_told log u p moved slot c
  slot-same p moved slot c torn found = rw torn (rw found refl)

  both-same : (p : Phase) (moved : Moved) (c : Course) → ((slot : Slot) → is_torn_in later u p slot ≡ is_torn_in log u p slot) → ((slot : Slot) → found_in later u p slot ≡ found_in log u p slot) → both_told later u p moved c ≡ both_told log u p moved c
  both-same p moved c torn found =
      slot-same p moved CoDriver (slot_told later u p moved Driver c) (torn CoDriver) (found CoDriver) ∙ ap (slot_told log u p moved CoDriver) (slot-same p moved Driver c (torn Driver) (found Driver))

  acted-same : (n : ℕ) (a : Action) (c : Course) → begins (cut_in log u) n ≡ true → begins (cut_in later u) n ≡ true → ((slot : Slot) → is_torn_in later u (In (n + 1)) slot ≡ is_torn_in log u (In (n + 1)) slot) →
      ((slot : Slot) → found_in later u (In (n + 1)) slot ≡ found_in log u (In (n + 1)) slot) → acted later s n a c ≡ acted log s n a c
  acted-same n a c begun begun_later torn found =
      let moved : Moved = moved_by n (refusal c.slots s.speed a) a c.slots in
      let next : Course = answered n (refusal c.slots s.speed a) a c in
      ap (λ (b : Bool). cond b (both_told later u (In (n + 1)) moved next) (record c { settled = c.settled || is_settling a })) begun_later
      ∙ both-same (In (n + 1)) moved next torn found
      ∙ sym (ap (λ (b : Bool). cond b (both_told log u (In (n + 1)) moved next) (record c { settled = c.settled || is_settling a })) begun)

  by-same : (a : CarriedOut) (act : Action) → ((slot : Slot) → is_torn_in later u (In (a.before + 1)) slot ≡ is_torn_in log u (In (a.before + 1)) slot) → noted_by later u a act ≡ noted_by log u a act
  by-same a (Select slot pick) torn = refl
  by-same a (Insert slot card) torn = refl
  by-same a (Withdraw slot) torn = rw (torn slot) refl
  by-same a (Tear slot) torn = refl
  by-same a (Place slot ending country region) torn = refl
  by-same a (Manual slot pick minute) torn = refl

  if-same : (r : Option SlotFault) (a : CarriedOut) (found : List Finding) → ((slot : Slot) → is_torn_in later u (In (a.before + 1)) slot ≡ is_torn_in log u (In (a.before + 1)) slot) → noted_if r later u a found ≡ noted_if r log u a found
  if-same (Some fault) a found torn = refl
  if-same None a found torn = ap (λ (l : List Note). l ++ accepted_in u (In (a.before + 1)) found) (by-same a a.action torn)

  from-same : (m n : ℕ) (as_ : List Action) (c : Course) → TellSameTo log later u m → n + length as_ ≤ m → notes_from later s n as_ c ≡ notes_from log s n as_ c
  from-same m n [] c same le = refl
  from-same m n (a ∷ as_) c same le =
      let begun = same.begun n (omega (arith, le)) in
      let begun_later = same.begun_later n (omega (arith, le)) in
      let torn : (slot : Slot) → is_torn_in later u (In (n + 1)) slot ≡ is_torn_in log u (In (n + 1)) slot = λ slot. same.torn (n + 1) slot (omega (arith, le)) in
      let next = acted-same n a c begun begun_later torn (λ slot. same.found (n + 1) slot (omega (arith, le))) in
      let here : action_notes later s n a c ≡ action_notes log s n a c =
      ap (λ (d : Course). noted_if (refusal c.slots s.speed a) later u (record { before = n; action = a; slots = c.slots; after = d.slots }) d.found) next
      ∙ if-same (refusal c.slots s.speed a) (record { before = n; action = a; slots = c.slots; after = (acted log s n a c).slots }) (acted log s n a c).found torn in
      let first : cond (begins (cut_in later u) n) (action_notes later s n a c) [] ≡ cond (begins (cut_in log u) n) (action_notes log s n a c) [] =
      ap (λ (b : Bool). cond b (action_notes later s n a c) []) begun_later ∙ here ∙ sym (ap (λ (b : Bool). cond b (action_notes log s n a c) []) begun) in
      let rest : notes_from later s (n + 1) as_ (acted later s n a c) ≡ notes_from log s (n + 1) as_ (acted log s n a c) =
      ap (λ (d : Course). notes_from later s (n + 1) as_ d) next ∙ from-same m (n + 1) as_ (acted log s n a c) same (omega (arith, le)) in
      λ i. first i ++ rest i

  powered-same : (before : Before) (m : ℕ) → TellSameTo log later u m → course_powered later before s ≡ course_powered log before s
  powered-same before m same = both-same (In 0) (unmoved (not before.running)) (fresh (not before.running) before.slots) (λ slot. same.torn 0 slot (omega arith)) (λ slot. same.found 0 slot (omega arith))

  pub to-same : (before : Before) (front : List Action) → TellSameTo log later u (length front) → notes_to later before s front ≡ notes_to log before s front
  to-same before front same =
      let powered = powered-same before (length front) same in
      ap (λ (c : Course). accepted_in u (In 0) c.found ++ notes_from later s 0 front c) powered
      ∙ ap (λ (l : List Note). accepted_in u (In 0) (course_powered log before s).found ++ l) (from-same (length front) 0 front (course_powered log before s) same (omega arith))

pub later-lines : LaterLinesChangeNoNote
later-lines log later before s front same = to-same log later s before front same

-- ---- a cut

from-cut : (log : RunLog) (s : TraceSecond) (k n : ℕ) (as_ : List Action) (c : Course) → cut_in log s.number ≡ Some k → k ≤ n → notes_from log s n as_ c ≡ []
from-cut log s k n [] c cut le = refl
from-cut log s k n (a ∷ as_) c cut le =
    let late : begins (cut_in log s.number) n ≡ false = ap (λ (o : Option ℕ). begins o n) cut ∙ not-below n k le in
    ap (λ (b : Bool). cond b (action_notes log s n a c) [] ++ notes_from log s (n + 1) as_ (acted log s n a c)) late ∙ from-cut log s k (n + 1) as_ (acted log s n a c) cut (omega (arith, le))
  where
    not-below : (n k : ℕ) → k ≤ n → nat_lt n k ≡ false
    not-below n k le = grind (arith, nat_tests)

pub cut-notes : ACutNotesNoMore
cut-notes log before s front rest cut =
    let c : Course = course_powered log before s in
    let first : List Note = accepted_in s.number (In 0) c.found in
    ap (λ (l : List Note). first ++ l)
    (from-append log s 0 front rest c
    ∙ ap (λ (l : List Note). notes_from log s 0 front c ++ l) (from-cut log s (length front) (0 + length front) rest (all_acted log s 0 front c) cut (omega arith))
    ∙ append-nil (notes_from log s 0 front c))

-- ---- the whole second

carried-notes : (log : RunLog) (s : TraceSecond) (n : ℕ) (as_ : List Action) (c : Course) (found : List Finding) → ((m : ℕ) → accepted_in s.number (In m) found ≡ accepted_in s.number (In m) (all_acted log s n as_ c).found) →
    flat_map (λ (a : CarriedOut). noted_by log s.number a a.action ++ accepted_in s.number (In (a.before + 1)) found) (carried_from log s n as_ c) ≡ notes_from log s n as_ c
carried-notes log s n [] c found same = refl
carried-notes log s n (a ∷ as_) c found same =
    let next : Course = acted log s n a c in
    let one : CarriedOut = record { before = n; action = a; slots = c.slots; after = next.slots } in
    let G : CarriedOut → List Note = λ (x : CarriedOut). noted_by log s.number x x.action ++ accepted_in s.number (In (x.before + 1)) found in
    let here : accepted_in s.number (In (n + 1)) found ≡ accepted_in s.number (In (n + 1)) next.found = same (n + 1) ∙ all-accepted log s (n + 1) (n + 1) as_ next (omega arith) in
    flat_map-append G (cond (begins (cut_in log s.number) n && not (is_some (refusal c.slots s.speed a))) (one ∷ []) []) (carried_from log s (n + 1) as_ next)
    ∙ (λ i. first here (begins (cut_in log s.number) n) (refusal c.slots s.speed a) i ++ carried-notes log s (n + 1) as_ next found same i)
  where
    first : accepted_in s.number (In (n + 1)) found ≡ accepted_in s.number (In (n + 1)) (acted log s n a c).found → (b : Bool) (r : Option SlotFault) →
        flat_map (λ (x : CarriedOut). noted_by log s.number x x.action ++ accepted_in s.number (In (x.before + 1)) found) (cond (b && not (is_some r)) (record { before = n; action = a; slots = c.slots; after = (acted log s n a c).slots } ∷ []) [])
        ≡ cond b (noted_if r log s.number (record { before = n; action = a; slots = c.slots; after = (acted log s n a c).slots }) (acted log s n a c).found) []
    first here false r = refl
    first here true (Some fault) = refl
    first here true None =
        let one : CarriedOut = record { before = n; action = a; slots = c.slots; after = (acted log s n a c).slots } in
        append-nil (noted_by log s.number one a ++ accepted_in s.number (In (n + 1)) found) ∙ ap (λ (l : List Note). noted_by log s.number one a ++ l) here

cut-found : (b : Bool) (c : Course) → (cut_told b c).found ≡ c.found
cut-found true c = refl
cut-found false c = refl

pub second-noted : ASecondHasNoted
second-noted log before s power =
    let c : Course = course_powered log before s in
    let acts : Course = all_acted log s 0 s.actions c in
    let last : Course = lit_course log s (not before.running) before.slots in
    let each : (m : ℕ) → accepted_in s.number (In m) last.found ≡ accepted_in s.number (In m) acts.found =
    λ m. ap (λ (l : List Finding). accepted_in s.number (In m) l) (cut-found (is_some (cut_in log s.number)) (both_told log s.number Keeping (unmoved false) acts)) ∙ both-accepted log s.number Keeping (In m) (unmoved false) acts refl in
    let first : accepted_in s.number (In 0) last.found ≡ accepted_in s.number (In 0) c.found = each 0 ∙ all-accepted log s 0 0 s.actions c (omega arith) in
    rw power (λ i. first i ++ carried-notes log s 0 s.actions c last.found each i)
