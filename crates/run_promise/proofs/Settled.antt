-- A card is judged where power comes, or in a second with a settling.
use Rattle.std.proofs.Common.{◌≡◌, ◌⊎◌, inl, inr, ⊎_elim, ℕ, ◌+◌, Bool, true, false, not, cond, ◌||◌, Option, Some, None, List, [], ◌∷◌, ◌++◌, map, refl, ap, sym, subst, ◌∙◌}
use Rattle.std.specs.Prelude.{flat_map, option_map, is_some}
use Rattle.std.specs.List.{list_any}
use Rattle.run_course.specs.activity_codec.declared.values.Slot.{Slot}
use Rattle.run_course.specs.activity_codec.declared.values.Slot.TheVariants.{Driver, CoDriver}
use Rattle.run_course.specs.trace_model.declared.Action.{Action}
use Rattle.run_course.specs.trace_model.declared.Action.TheVariants.{Select, Insert, Withdraw, Tear, Place, Manual}
use Rattle.run_course.specs.trace_model.Trace.{TraceSecond}
use Rattle.run_course.specs.log_model.declared.lines.SlotFault.{SlotFault}
use Rattle.run_course.specs.log_model.declared.lines.Verdict.{Verdict}
use Rattle.run_course.specs.log_model.Log.{RunLog, Phase, In, Keeping, cut_in, is_torn_in, found_in, is_accepting}
use Rattle.run_course.specs.log_model.Slots.{Slots, Sitting, in_slot, refusal}
use Rattle.run_course.specs.log_model.Course.{Visit, Course, Before, Moved, visits, with_slot, leaves, answered, unmoved, moved_by, slot_told, both_told, begins, is_settling, acted, all_acted, cut_told, fresh, lit_course, has_power, second_told}

-- nothing was found yet, or there was a settling
abbrev IsFine : Course → Type 0
IsFine c = (c.found ≡ []) ⊎ (c.settled ≡ true)

-- ONE SLOT of a moment, by what the log tells of it
abbrev seen_as : List Verdict → Visit → List (Visit × Verdict)
seen_as verdicts visit = map (λ (v : Verdict). (visit, v)) verdicts

abbrev judged : Phase → Slot → Course → List Verdict → Course
judged p slot c verdicts = record c { found = c.found ++ flat_map (seen_as verdicts) (visits p slot c.slots) }

abbrev told_with : ℕ → Phase → Moved → Slot → Course → (torn : Bool) → List Verdict → (accepts : Bool) → Course
told_with u p moved slot c torn verdicts accepts =
    cond torn (record (leaves slot (judged p slot c verdicts)) { torn = c.torn ++ (moved.leaving slot ++ visits p slot c.slots) })
    (cond accepts (record (judged p slot c verdicts) { slots = with_slot c.slots slot (option_map {T = Sitting} (λ x. record x { accepted = Some u }) (in_slot c.slots slot)) }) (judged p slot c verdicts))

abbrev entering : RunLog → ℕ → Phase → Moved → Slot → List Verdict
entering log u p moved slot = cond (moved.enters slot) (found_in log u p slot) []

nothing-seen : (vs : List Visit) → flat_map (seen_as []) vs ≡ []
nothing-seen [] = refl
nothing-seen (v ∷ vs) = nothing-seen vs

judged-fine : (p : Phase) (slot : Slot) (c : Course) (enters : Bool) (verdicts : List Verdict) → (enters ≡ false) ⊎ (c.settled ≡ true) → IsFine c → IsFine (judged p slot c (cond enters verdicts []))
judged-fine p slot c enters verdicts (inr is) fine = inr is
judged-fine p slot c enters verdicts (inl still) (inr is) = inr is
judged-fine p slot c enters verdicts (inl still) (inl none) = inl (
    ap (λ (fs : List (Visit × Verdict)). fs ++ flat_map (seen_as (cond enters verdicts [])) (visits p slot c.slots)) none
    ∙ ap (λ (b : Bool). flat_map (seen_as (cond b verdicts [])) (visits p slot c.slots)) still
    ∙ nothing-seen (visits p slot c.slots))

slot-fine : (log : RunLog) (u : ℕ) (p : Phase) (moved : Moved) (slot : Slot) (c : Course) → (moved.enters slot ≡ false) ⊎ (c.settled ≡ true) → IsFine c → IsFine (slot_told log u p moved slot c)
slot-fine log u p moved slot c may fine = by (is_torn_in log u p slot) (list_any is_accepting (entering log u p moved slot))
  where
    by : (torn accepts : Bool) → IsFine (told_with u p moved slot c torn (entering log u p moved slot) accepts)
    by true accepts = judged-fine p slot c (moved.enters slot) (found_in log u p slot) may fine
    by false true = judged-fine p slot c (moved.enters slot) (found_in log u p slot) may fine
    by false false = judged-fine p slot c (moved.enters slot) (found_in log u p slot) may fine

slot-settled : (log : RunLog) (u : ℕ) (p : Phase) (moved : Moved) (slot : Slot) (c : Course) → (slot_told log u p moved slot c).settled ≡ c.settled
slot-settled log u p moved slot c = by (is_torn_in log u p slot) (list_any is_accepting (entering log u p moved slot))
  where
    by : (torn accepts : Bool) → (told_with u p moved slot c torn (entering log u p moved slot) accepts).settled ≡ c.settled
    by true accepts = refl
    by false true = refl
    by false false = refl

-- BOTH SLOTS
both-fine : (log : RunLog) (u : ℕ) (p : Phase) (moved : Moved) (c : Course) → ((slot : Slot) → moved.enters slot ≡ false) ⊎ (c.settled ≡ true) → IsFine c → IsFine (both_told log u p moved c)
both-fine log u p moved c may fine =
    slot-fine log u p moved CoDriver (slot_told log u p moved Driver c)
    (⊎_elim (λ still. inl (still CoDriver)) (λ is. inr (slot-settled log u p moved Driver c ∙ is)) may)
    (slot-fine log u p moved Driver c (⊎_elim (λ still. inl (still Driver)) (λ is. inr is) may) fine)

-- AN ACTION
answered-fine : (n : ℕ) (o : Option SlotFault) (a : Action) (c : Course) → IsFine c → IsFine (answered n o a c)
answered-fine n (Some r) a c fine = fine
answered-fine n None (Select slot pick) c fine = fine
answered-fine n None (Insert slot card) c fine = inr refl
answered-fine n None (Withdraw slot) c fine = inr refl
answered-fine n None (Tear slot) c fine = fine
answered-fine n None (Place slot ending country region) c fine = fine
answered-fine n None (Manual slot pick minute) c fine = fine

enters-settled : (n : ℕ) (o : Option SlotFault) (a : Action) (slots : Slots) (c : Course) → ((slot : Slot) → (moved_by n o a slots).enters slot ≡ false) ⊎ ((answered n o a c).settled ≡ true)
enters-settled n (Some r) a slots c = inl (λ slot. refl)
enters-settled n None (Select slot pick) slots c = inl (λ slot. refl)
enters-settled n None (Insert slot card) slots c = inr refl
enters-settled n None (Withdraw slot) slots c = inr refl
enters-settled n None (Tear slot) slots c = inl (λ slot. refl)
enters-settled n None (Place slot ending country region) slots c = inl (λ slot. refl)
enters-settled n None (Manual slot pick minute) slots c = inl (λ slot. refl)

acted-fine : (log : RunLog) (s : TraceSecond) (n : ℕ) (a : Action) (c : Course) → IsFine c → IsFine (acted log s n a c)
acted-fine log s n a c fine = by (begins (cut_in log s.number) n)
  where
    by : (b : Bool) → IsFine (cond b (both_told log s.number (In (n + 1)) (moved_by n (refusal c.slots s.speed a) a c.slots) (answered n (refusal c.slots s.speed a) a c)) (record c { settled = c.settled || is_settling a }))
    by true = both-fine log s.number (In (n + 1)) (moved_by n (refusal c.slots s.speed a) a c.slots) (answered n (refusal c.slots s.speed a) a c)
        (enters-settled n (refusal c.slots s.speed a) a c.slots c) (answered-fine n (refusal c.slots s.speed a) a c fine)
    by false = ⊎_elim (λ none. inl none) (λ is. inr (ap (λ (b : Bool). b || is_settling a) is)) fine

all-fine : (log : RunLog) (s : TraceSecond) (n : ℕ) (actions : List Action) (c : Course) → IsFine c → IsFine (all_acted log s n actions c)
all-fine log s n [] c fine = fine
all-fine log s n (a ∷ actions) c fine = all-fine log s (n + 1) actions (acted log s n a c) (acted-fine log s n a c fine)

-- THE SECOND
cut-fine : (b : Bool) (c : Course) → IsFine c → IsFine (cut_told b c)
cut-fine true c fine = fine
cut-fine false c fine = fine

lit-fine : (log : RunLog) (s : TraceSecond) (slots : Slots) → IsFine (lit_course log s false slots)
lit-fine log s slots =
    let begun : Course = both_told log s.number (In 0) (unmoved false) (fresh false slots) in
    cut-fine (is_some (cut_in log s.number)) (both_told log s.number Keeping (unmoved false) (all_acted log s 0 s.actions begun))
    (both-fine log s.number Keeping (unmoved false) (all_acted log s 0 s.actions begun) (inl (λ slot. refl))
    (all-fine log s 0 s.actions begun (both-fine log s.number (In 0) (unmoved false) (fresh false slots) (inl (λ slot. refl)) (inl refl))))

pub found-settled : (log : RunLog) (before : Before) (s : TraceSecond) → has_power before s ≡ true → before.running ≡ true →
    ((second_told log before s).course.found ≡ []) ⊎ ((second_told log before s).course.settled ≡ true)
found-settled log before s power running = rw power (subst (λ (b : Bool). IsFine (lit_course log s (not b) before.slots)) (sym running) (lit-fine log s before.slots))
