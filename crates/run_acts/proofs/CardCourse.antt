-- What the course of a second tells of the cards that entered, were judged and were torn out in it, action by action.
use Rattle.std.proofs.Common.{◌≡◌, ◌∙◌, ◌⊎◌, inl, inr, ℕ, suc, ◌+◌, ◌≤◌, Bool, true, false, cond, not, ◌||◌, Option, Some, None, option_map, List, [], ◌∷◌, ◌++◌, length, map, refl, ap, sym, subst, arith, append_assoc, append-nil}
use Rattle.std.specs.Prelude.{flat_map}
use Rattle.std.specs.List.{list_any}
use Rattle.activity_codec.specs.declared.values.Slot.{Slot}
use Rattle.activity_codec.specs.declared.values.Slot.TheVariants.{Driver, CoDriver}
use Rattle.trace_model.specs.declared.Card.{Card}
use Rattle.trace_model.specs.declared.Action.{Action}
use Rattle.trace_model.specs.declared.Action.TheVariants.{Select, Insert, Withdraw, Tear, Place, Manual}
use Rattle.trace_model.specs.Trace.{TraceSecond}
use Rattle.log_model.specs.declared.lines.SlotFault.{SlotFault}
use Rattle.log_model.specs.declared.lines.Verdict.{Verdict}
use Rattle.log_model.specs.Log.{RunLog, Phase, In, cut_in, is_torn_in, found_in, is_accepting}
use Rattle.log_model.specs.Slots.{Slots, Sitting, in_slot, refusal}
use Rattle.log_model.specs.Course.{Course, Visit, Before, Moved, card_in, visits, leaves, with_slot, carried_out, answered, unmoved, moved_by, fresh, slot_told, both_told, begins, is_settling, acted, all_acted}
use Rattle.unit_notes.specs.note_model.Done.{course_powered}
use Rattle.run_events.specs.run_rings.Notes.{TellSameTo, course_behind}
use Rattle.run_note_record.proofs.Moved.{both-to, acted-to}

abbrev pub Finding : Type 0
Finding = Visit × Verdict

-- NOTHING IS FOUND OF A CARD and none enters; cards may be torn out
pub record IsQuiet (c d : Course) : Type 0 where
  pub found : d.found ≡ c.found
  pub entered : d.entered ≡ c.entered
  pub more : List Visit
  pub torn : d.torn ≡ c.torn ++ more

pub quiet-same : (c d : Course) → d.found ≡ c.found → d.entered ≡ c.entered → d.torn ≡ c.torn → IsQuiet c d
quiet-same c d found entered torn = record { found = found; entered = entered; more = []; torn = torn ∙ sym (append-nil c.torn) }

pub quiet-then : (a b c : Course) → IsQuiet a b → IsQuiet b c → IsQuiet a c
quiet-then a b c p q = record {
  found = q.found ∙ p.found;
  entered = q.entered ∙ p.entered;
  more = p.more ++ q.more;
  torn = q.torn ∙ ap (λ (vs : List Visit). vs ++ q.more) p.torn ∙ append_assoc a.torn p.more q.more;
}

-- A CARD IS JUDGED: so it is found, in this order
pub record IsJudged (v : Visit) (verdicts : List Verdict) (c d : Course) : Type 0 where
  pub found : d.found ≡ c.found ++ map (λ (w : Verdict). (v, w)) verdicts
  pub entered : d.entered ≡ c.entered
  pub more : List Visit
  pub torn : d.torn ≡ c.torn ++ more

-- ---- a slot is told of

abbrev pub findings : List Verdict → List Visit → List Finding
findings verdicts vs = flat_map (λ visit. map (λ v. (visit, v)) verdicts) vs

pub no-verdicts : (vs : List Visit) → findings [] vs ≡ []
no-verdicts [] = refl
no-verdicts (v ∷ vs) = no-verdicts vs

module _ (log : RunLog) (u : ℕ) (p : Phase) (moved : Moved) (slot : Slot) (c : Course) where
  abbrev verdicts : List Verdict
  verdicts = cond (moved.enters slot) (found_in log u p slot) []

  abbrev judged : Course
  judged = record c { found = c.found ++ findings (cond (moved.enters slot) (found_in log u p slot) []) (visits p slot c.slots) }

  abbrev torn_out : Course
  torn_out = record (leaves slot judged) { torn = c.torn ++ (moved.leaving slot ++ visits p slot c.slots) }

  abbrev taken : Course
  taken = record judged { slots = with_slot c.slots slot (option_map {T = Sitting} (λ x. record x { accepted = Some u }) (in_slot c.slots slot)) }

  pub slot-found : (slot_told log u p moved slot c).found ≡ c.found ++ findings (cond (moved.enters slot) (found_in log u p slot) []) (visits p slot c.slots)
  slot-found = by (is_torn_in log u p slot) (list_any is_accepting verdicts)
    where
      by : (b e : Bool) → (cond b torn_out (cond e taken judged)).found ≡ c.found ++ findings (cond (moved.enters slot) (found_in log u p slot) []) (visits p slot c.slots)
      by true e = refl
      by false true = refl
      by false false = refl

  pub slot-entered : (slot_told log u p moved slot c).entered ≡ c.entered
  slot-entered = by (is_torn_in log u p slot) (list_any is_accepting verdicts)
    where
      by : (b e : Bool) → (cond b torn_out (cond e taken judged)).entered ≡ c.entered
      by true e = refl
      by false true = refl
      by false false = refl

  slot-torn : (more : List Visit) × ((slot_told log u p moved slot c).torn ≡ c.torn ++ more)
  slot-torn = by (is_torn_in log u p slot) (list_any is_accepting verdicts)
    where
      by : (b e : Bool) → (more : List Visit) × ((cond b torn_out (cond e taken judged)).torn ≡ c.torn ++ more)
      by true e = (moved.leaving slot ++ visits p slot c.slots, refl)
      by false true = ([], sym (append-nil c.torn))
      by false false = ([], sym (append-nil c.torn))

  pub slot-quiet : moved.enters slot ≡ false → IsQuiet c (slot_told log u p moved slot c)
  slot-quiet none = record {
    found = slot-found ∙ ap (λ (b : Bool). c.found ++ findings (cond b (found_in log u p slot) []) (visits p slot c.slots)) none ∙ ap (λ (fs : List Finding). c.found ++ fs) (no-verdicts (visits p slot c.slots)) ∙ append-nil c.found;
    entered = slot-entered;
    more = slot-torn.0;
    torn = slot-torn.1;
  }

  pub slot-judged : (card : Card) → moved.enters slot ≡ true → visits p slot c.slots ≡ record { phase = p; slot = slot; card = card } ∷ [] → IsJudged (record { phase = p; slot = slot; card = card }) (found_in log u p slot) c (slot_told log u p moved slot c)
  slot-judged card enters sits = record {
    found = slot-found ∙ ap (λ (b : Bool). c.found ++ findings (cond b (found_in log u p slot) []) (visits p slot c.slots)) enters ∙ ap (λ (vs : List Visit). c.found ++ findings (found_in log u p slot) vs) sits
        ∙ ap (λ (fs : List Finding). c.found ++ fs) (append-nil (map (λ (w : Verdict). (record { phase = p; slot = slot; card = card }, w)) (found_in log u p slot)));
    entered = slot-entered;
    more = slot-torn.0;
    torn = slot-torn.1;
  }

-- what sits in the other slot is as it was
beside-driver : (log : RunLog) (u : ℕ) (p : Phase) (moved : Moved) (c : Course) → (slot_told log u p moved Driver c).slots.codriver ≡ c.slots.codriver
beside-driver log u p moved c = by (is_torn_in log u p Driver) (list_any is_accepting (verdicts log u p moved Driver c))
  where
    by : (b e : Bool) → (cond b (torn_out log u p moved Driver c) (cond e (taken log u p moved Driver c) (judged log u p moved Driver c))).slots.codriver ≡ c.slots.codriver
    by true e = refl
    by false true = refl
    by false false = refl

pub both-quiet : (log : RunLog) (u : ℕ) (p : Phase) (moved : Moved) (c : Course) → moved.enters Driver ≡ false → moved.enters CoDriver ≡ false → IsQuiet c (both_told log u p moved c)
both-quiet log u p moved c driver codriver =
    quiet-then c (slot_told log u p moved Driver c) (both_told log u p moved c) (slot-quiet log u p moved Driver c driver) (slot-quiet log u p moved CoDriver (slot_told log u p moved Driver c) codriver)

-- one is judged and then the other is quiet, or the other way round
judged-quiet : (v : Visit) (verdicts : List Verdict) (a b c : Course) → IsJudged v verdicts a b → IsQuiet b c → IsJudged v verdicts a c
judged-quiet v _ a b c p q = record {
  found = q.found ∙ p.found;
  entered = q.entered ∙ p.entered;
  more = p.more ++ q.more;
  torn = q.torn ∙ ap (λ (vs : List Visit). vs ++ q.more) p.torn ∙ append_assoc a.torn p.more q.more;
}

quiet-judged : (v : Visit) (verdicts : List Verdict) (a b c : Course) → IsQuiet a b → IsJudged v verdicts b c → IsJudged v verdicts a c
quiet-judged v verdicts a b c p q = record {
  found = q.found ∙ ap (λ (fs : List Finding). fs ++ map (λ (w : Verdict). (v, w)) verdicts) p.found;
  entered = q.entered ∙ p.entered;
  more = p.more ++ q.more;
  torn = q.torn ∙ ap (λ (vs : List Visit). vs ++ q.more) p.torn ∙ append_assoc a.torn p.more q.more;
}

-- ---- an action

-- an action that puts no card into a slot
abbrev pub PutsNone : Action → Type 0
PutsNone (Select slot pick) = Unit {0}
PutsNone (Insert slot card) = ⊥
PutsNone (Withdraw slot) = Unit {0}
PutsNone (Tear slot) = Unit {0}
PutsNone (Place slot ending country region) = Unit {0}
PutsNone (Manual slot pick minute) = Unit {0}

answered-quiet : (n : ℕ) (r : Option SlotFault) (a : Action) (c : Course) → ((f : SlotFault) × (r ≡ Some f)) ⊎ PutsNone a → IsQuiet c (answered n r a c)
answered-quiet n (Some fault) a c h = quiet-same c (answered n (Some fault) a c) refl refl refl
answered-quiet n None (Select slot pick) c h = quiet-same c (answered n None (Select slot pick) c) refl refl refl
answered-quiet n None (Insert slot card) c (inl h) = absurd (let wrong : None ≡ Some h.0 = h.1 in cc)
answered-quiet n None (Insert slot card) c (inr h) = absurd h
answered-quiet n None (Withdraw slot) c h = quiet-same c (answered n None (Withdraw slot) c) refl refl refl
answered-quiet n None (Tear slot) c h = quiet-same c (answered n None (Tear slot) c) refl refl refl
answered-quiet n None (Place slot ending country region) c h = quiet-same c (answered n None (Place slot ending country region) c) refl refl refl
answered-quiet n None (Manual slot pick minute) c h = quiet-same c (answered n None (Manual slot pick minute) c) refl refl refl

moved-none : (n : ℕ) (r : Option SlotFault) (a : Action) (slots : Slots) → ((f : SlotFault) × (r ≡ Some f)) ⊎ PutsNone a → (slot : Slot) → (moved_by n r a slots).enters slot ≡ false
moved-none n (Some fault) a slots h slot = refl
moved-none n None (Select s pick) slots h slot = refl
moved-none n None (Insert s card) slots (inl h) slot = absurd (let wrong : None ≡ Some h.0 = h.1 in cc)
moved-none n None (Insert s card) slots (inr h) slot = absurd h
moved-none n None (Withdraw s) slots h slot = refl
moved-none n None (Tear s) slots h slot = refl
moved-none n None (Place s ending country region) slots h slot = refl
moved-none n None (Manual s pick minute) slots h slot = refl

pub acted-quiet : (log : RunLog) (s : TraceSecond) (n : ℕ) (a : Action) (c : Course) → (begins (cut_in log s.number) n ≡ false) ⊎ (((f : SlotFault) × (refusal c.slots s.speed a ≡ Some f)) ⊎ PutsNone a) → IsQuiet c (acted log s n a c)
acted-quiet log s n a c h = by (begins (cut_in log s.number) n) refl
  where
    r : Option SlotFault
    r = refusal c.slots s.speed a

    begun : Course
    begun = both_told log s.number (In (n + 1)) (moved_by n (refusal c.slots s.speed a) a c.slots) (answered n (refusal c.slots s.speed a) a c)

    quiet : ((f : SlotFault) × (refusal c.slots s.speed a ≡ Some f)) ⊎ PutsNone a → IsQuiet c (both_told log s.number (In (n + 1)) (moved_by n (refusal c.slots s.speed a) a c.slots) (answered n (refusal c.slots s.speed a) a c))
    quiet none =
        quiet-then c (answered n (refusal c.slots s.speed a) a c) (both_told log s.number (In (n + 1)) (moved_by n (refusal c.slots s.speed a) a c.slots) (answered n (refusal c.slots s.speed a) a c))
        (answered-quiet n (refusal c.slots s.speed a) a c none)
        (both-quiet log s.number (In (n + 1)) (moved_by n (refusal c.slots s.speed a) a c.slots) (answered n (refusal c.slots s.speed a) a c)
        (moved-none n (refusal c.slots s.speed a) a c.slots none Driver) (moved-none n (refusal c.slots s.speed a) a c.slots none CoDriver))

    by : (b : Bool) → begins (cut_in log s.number) n ≡ b → IsQuiet c (cond b (both_told log s.number (In (n + 1)) (moved_by n (refusal c.slots s.speed a) a c.slots) (answered n (refusal c.slots s.speed a) a c)) (record c { settled = c.settled || is_settling a }))
    by false is = quiet-same c (record c { settled = c.settled || is_settling a }) refl refl refl
    by true is = from h
      where
        from : (begins (cut_in log s.number) n ≡ false) ⊎ (((f : SlotFault) × (refusal c.slots s.speed a ≡ Some f)) ⊎ PutsNone a) → IsQuiet c (both_told log s.number (In (n + 1)) (moved_by n (refusal c.slots s.speed a) a c.slots) (answered n (refusal c.slots s.speed a) a c))
        from (inl off) = absurd (let wrong : true ≡ false = sym is ∙ off in cc)
        from (inr none) = quiet none

-- A CARD IS PUT IN, and judged
pub record IsPutIn (v : Visit) (verdicts : List Verdict) (c d : Course) : Type 0 where
  pub found : d.found ≡ c.found ++ map (λ (w : Verdict). (v, w)) verdicts
  pub entered : d.entered ≡ c.entered ++ v ∷ []
  pub more : List Visit
  pub torn : d.torn ≡ c.torn ++ more

pub acted-puts : (log : RunLog) (s : TraceSecond) (n : ℕ) (slot : Slot) (card : Card) (c : Course) → begins (cut_in log s.number) n ≡ true → refusal c.slots s.speed (Insert slot card) ≡ None →
    IsPutIn (record { phase = In (n + 1); slot = slot; card = card }) (found_in log s.number (In (n + 1)) slot) c (acted log s n (Insert slot card) c)
acted-puts log s n slot card c begun allowed =
    subst (λ (b : Bool). IsPutIn v (found_in log s.number (In (n + 1)) slot) c (cond b (both_told log s.number (In (n + 1)) (moved_by n (refusal c.slots s.speed (Insert slot card)) (Insert slot card) c.slots) (answered n (refusal c.slots s.speed (Insert slot card)) (Insert slot card) c))
    (record c { settled = c.settled || true }))) (sym begun)
    (subst (λ (r : Option SlotFault). IsPutIn v (found_in log s.number (In (n + 1)) slot) c (both_told log s.number (In (n + 1)) (moved_by n r (Insert slot card) c.slots) (answered n r (Insert slot card) c))) (sym allowed) (put slot))
  where
    v : Visit
    v = record { phase = In (n + 1); slot = slot; card = card }

    started : (sl : Slot) → Course
    started sl = carried_out n (Insert sl card) c

    -- by the judging behind it
    as-put : (sl : Slot) (e : Course) → IsJudged (record { phase = In (n + 1); slot = sl; card = card }) (found_in log s.number (In (n + 1)) sl) (carried_out n (Insert sl card) c) e → IsPutIn (record { phase = In (n + 1); slot = sl; card = card }) (found_in log s.number (In (n + 1)) sl) c e
    as-put sl e j = record { found = j.found; entered = j.entered; more = j.more; torn = j.torn }

    put : (sl : Slot) → IsPutIn (record { phase = In (n + 1); slot = sl; card = card }) (found_in log s.number (In (n + 1)) sl) c (both_told log s.number (In (n + 1)) (moved_by n None (Insert sl card) c.slots) (answered n None (Insert sl card) c))
    put Driver =
        let moves : Moved = moved_by n None (Insert Driver card) c.slots in
        let begun_ : Course = carried_out n (Insert Driver card) c in
        as-put Driver (both_told log s.number (In (n + 1)) moves begun_)
        (judged-quiet (record { phase = In (n + 1); slot = Driver; card = card }) (found_in log s.number (In (n + 1)) Driver) begun_ (slot_told log s.number (In (n + 1)) moves Driver begun_) (both_told log s.number (In (n + 1)) moves begun_)
        (slot-judged log s.number (In (n + 1)) moves Driver begun_ card refl refl) (slot-quiet log s.number (In (n + 1)) moves CoDriver (slot_told log s.number (In (n + 1)) moves Driver begun_) refl))
    put CoDriver =
        let moves : Moved = moved_by n None (Insert CoDriver card) c.slots in
        let begun_ : Course = carried_out n (Insert CoDriver card) c in
        let mid : Course = slot_told log s.number (In (n + 1)) moves Driver begun_ in
        as-put CoDriver (both_told log s.number (In (n + 1)) moves begun_)
        (quiet-judged (record { phase = In (n + 1); slot = CoDriver; card = card }) (found_in log s.number (In (n + 1)) CoDriver) begun_ mid (both_told log s.number (In (n + 1)) moves begun_)
        (slot-quiet log s.number (In (n + 1)) moves Driver begun_ refl)
        (slot-judged log s.number (In (n + 1)) moves CoDriver mid card refl (ap (λ (o : Option Sitting). map (λ (x : Card). record { phase = In (n + 1); slot = CoDriver; card = x }) (card_in o)) (beside-driver log s.number (In (n + 1)) moves begun_))))

-- ---- actions one after another

pub acted-append : (log : RunLog) (s : TraceSecond) (n : ℕ) (xs ys : List Action) (c : Course) → all_acted log s n (xs ++ ys) c ≡ all_acted log s (n + length xs) ys (all_acted log s n xs c)
acted-append log s n [] ys c = ap (λ (k : ℕ). all_acted log s k ys c) (let same : n ≡ n + 0 = omega arith in same)
acted-append log s n (x ∷ xs) ys c =
    acted-append log s (n + 1) xs ys (acted log s n x c) ∙ ap (λ (k : ℕ). all_acted log s k ys (all_acted log s (n + 1) xs (acted log s n x c))) (let same : n + 1 + length xs ≡ n + suc (length xs) = omega arith in same)

pub behind-more : (log : RunLog) (was : Before) (s : TraceSecond) (front : List Action) (a : Action) → course_behind log was s (front ++ a ∷ []) ≡ acted log s (length front) a (course_behind log was s front)
behind-more log was s front a =
    acted-append log s 0 front (a ∷ []) (course_powered log was s)
    ∙ ap (λ (k : ℕ). acted log s k a (course_behind log was s front)) (let same : 0 + length front ≡ length front = omega arith in same)

-- actions behind a cut are quiet
pub cut-quiet : (log : RunLog) (s : TraceSecond) (n : ℕ) (xs : List Action) (c : Course) → ((k : ℕ) → n ≤ k → begins (cut_in log s.number) k ≡ false) → IsQuiet c (all_acted log s n xs c)
cut-quiet log s n [] c off = quiet-same c c refl refl refl
cut-quiet log s n (x ∷ xs) c off =
    quiet-then c (acted log s n x c) (all_acted log s (n + 1) xs (acted log s n x c)) (acted-quiet log s n x c (inl (off n (omega arith)))) (cut-quiet log s (n + 1) xs (acted log s n x c) (λ k le. off k (omega (arith, le))))

-- ---- a power-on

abbrev pub sitting_at : Slot → Option Sitting → List Visit
sitting_at slot o = map (λ (card : Card). record { phase = In 0; slot = slot; card = card }) (card_in o)

-- in a span that goes on nothing is found before the actions
pub powered-quiet : (log : RunLog) (was : Before) (s : TraceSecond) → was.running ≡ true → IsQuiet (fresh false was.slots) (course_powered log was s)
powered-quiet log was s on =
    subst (λ (b : Bool). IsQuiet (fresh false was.slots) (both_told log s.number (In 0) (unmoved (not b)) (fresh (not b) was.slots))) (sym on) (both-quiet log s.number (In 0) (unmoved false) (fresh false was.slots) refl refl)

-- else the cards in the slots enter, and what was found of each is told
pub record IsPowered (log : RunLog) (was : Before) (s : TraceSecond) (c : Course) : Type 0 where
  pub found : c.found ≡ findings (found_in log s.number (In 0) Driver) (sitting_at Driver was.slots.driver) ++ findings (found_in log s.number (In 0) CoDriver) (sitting_at CoDriver was.slots.codriver)
  pub entered : c.entered ≡ sitting_at Driver was.slots.driver ++ sitting_at CoDriver was.slots.codriver
  pub torn : c.torn ≡ cond (is_torn_in log s.number (In 0) Driver) (sitting_at Driver was.slots.driver) [] ++ cond (is_torn_in log s.number (In 0) CoDriver) (sitting_at CoDriver was.slots.codriver) []

powered-torn : (log : RunLog) (u : ℕ) (slot : Slot) (c : Course) → (slot_told log u (In 0) (unmoved true) slot c).torn ≡ c.torn ++ cond (is_torn_in log u (In 0) slot) (visits (In 0) slot c.slots) []
powered-torn log u slot c = by (is_torn_in log u (In 0) slot) (list_any is_accepting (verdicts log u (In 0) (unmoved true) slot c))
  where
    by : (b e : Bool) → (cond b (torn_out log u (In 0) (unmoved true) slot c) (cond e (taken log u (In 0) (unmoved true) slot c) (judged log u (In 0) (unmoved true) slot c))).torn ≡ c.torn ++ cond b (visits (In 0) slot c.slots) []
    by true e = refl
    by false true = sym (append-nil c.torn)
    by false false = sym (append-nil c.torn)

pub powered-as : (log : RunLog) (was : Before) (s : TraceSecond) → was.running ≡ false → IsPowered log was s (course_powered log was s)
powered-as log was s off = subst (λ (b : Bool). IsPowered log was s (both_told log s.number (In 0) (unmoved (not b)) (fresh (not b) was.slots))) (sym off) so
  where
    first : Course
    first = fresh true was.slots

    mid : Course
    mid = slot_told log s.number (In 0) (unmoved true) Driver (fresh true was.slots)

    beside : visits (In 0) CoDriver (slot_told log s.number (In 0) (unmoved true) Driver (fresh true was.slots)).slots ≡ sitting_at CoDriver was.slots.codriver
    beside = ap (λ (o : Option Sitting). sitting_at CoDriver o) (beside-driver log s.number (In 0) (unmoved true) (fresh true was.slots))

    so : IsPowered log was s (both_told log s.number (In 0) (unmoved true) (fresh true was.slots))
    so = record {
      found = slot-found log s.number (In 0) (unmoved true) CoDriver (slot_told log s.number (In 0) (unmoved true) Driver (fresh true was.slots))
          ∙ (λ i. slot-found log s.number (In 0) (unmoved true) Driver (fresh true was.slots) i ++ findings (found_in log s.number (In 0) CoDriver) (beside i));
      entered = slot-entered log s.number (In 0) (unmoved true) CoDriver (slot_told log s.number (In 0) (unmoved true) Driver (fresh true was.slots)) ∙ slot-entered log s.number (In 0) (unmoved true) Driver (fresh true was.slots);
      torn = powered-torn log s.number CoDriver (slot_told log s.number (In 0) (unmoved true) Driver (fresh true was.slots))
          ∙ (λ i. powered-torn log s.number Driver (fresh true was.slots) i ++ cond (is_torn_in log s.number (In 0) CoDriver) (beside i) []);
    }

-- ---- later lines

-- a log that tells the same up to a moment: the course up to it is the same
module _ (log later : RunLog) (s : TraceSecond) where
  abbrev u : ℕ
  u = s.number

  all-same : (n m : ℕ) (xs : List Action) (c : Course) → TellSameTo log later s.number m → n + length xs ≤ m → all_acted later s n xs c ≡ all_acted log s n xs c
  all-same n m [] c t le = refl
  all-same n m (x ∷ xs) c t le =
      ap (λ (d : Course). all_acted later s (n + 1) xs d) (acted-to log later s n m x c t (omega (arith, le))) ∙ all-same (n + 1) m xs (acted log s n x c) t (omega (arith, le))

  pub behind-same : (was : Before) (front : List Action) → TellSameTo log later s.number (length front) → course_behind later was s front ≡ course_behind log was s front
  behind-same was front t =
      ap (λ (d : Course). all_acted later s 0 front d) (both-to log later s (In 0) (unmoved (not was.running)) (fresh (not was.running) was.slots) (λ slot. t.torn 0 slot (omega arith)) (λ slot. t.found 0 slot (omega arith)))
      ∙ all-same 0 (length front) front (course_powered log was s) t (omega arith)
