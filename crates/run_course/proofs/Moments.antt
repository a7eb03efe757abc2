-- The moments of a second: lines of the log that come later change no earlier one, and an action more is one step more.
use Rattle.std.proofs.Common.{◌≡◌, ⊎_elim, ℕ, suc, ◌+◌, ◌<◌, ◌≤◌, Bool, true, false, cond, not, Option, Some, None, List, [], ◌∷◌, ◌++◌, refl, ap, ◌∙◌, sym, arith, nat_lt, length, take, map, append-nil}
use Rattle.std.specs.Prelude.{option_map, flat_map}
use Rattle.std.specs.List.{list_any}
use Rattle.std.proofs.lemmas.Bool.Decides.{nat_tests}
use Rattle.std.proofs.lemmas.List.{length-take}
use Rattle.activity_codec.specs.declared.values.Slot.{Slot}
use Rattle.activity_codec.specs.declared.values.Slot.TheVariants.{Driver, CoDriver}
use Rattle.trace_model.specs.declared.Action.{Action}
use Rattle.trace_model.specs.Trace.{TraceSecond}
use Rattle.log_model.specs.declared.lines.Verdict.{Verdict}
use Rattle.log_model.specs.Log.{RunLog, Phase, In, cut_in, is_torn_in, found_in, is_accepting}
use Rattle.log_model.specs.Slots.{Sitting, in_slot, refusal}
use Rattle.log_model.specs.Course.{Course, Visit, Before, Moved, begins, visits, leaves, with_slot, slot_told, both_told, acted, all_acted, moved_by, unmoved, answered, fresh}
use Rattle.event_model.specs.Events.{course_by}
use Rattle.run_course.specs.Moments.{SameUpTo, IsStill, LaterLinesChangeNoMoment, AnActionMoreIsActed, OneActionMore}

begins-none : (o : Option ℕ) (k : ℕ) → o ≡ None → begins o k ≡ true
begins-none o k is = ap (λ (c : Option ℕ). begins c k) is

begins-some : (o : Option ℕ) (k begun : ℕ) → o ≡ Some begun → k < begun → begins o k ≡ true
begins-some o k begun is lt = ap (λ (c : Option ℕ). begins c k) is ∙ below k begun lt
  where
    below : (k begun : ℕ) → k < begun → nat_lt k begun ≡ true
    below k begun lt = grind (arith, nat_tests)

-- LATER LINES
module _ (log later : RunLog) (s : TraceSecond) (n : ℕ) (same : SameUpTo log later s.number n) where
  slot-same : (m : ℕ) → m ≤ n → (e : Moved) (slot : Slot) (c : Course) → slot_told later s.number (In m) e slot c ≡ slot_told log s.number (In m) e slot c
  slot-same m le e slot c = rw (same.torn m slot le) (rw (same.found m slot le) refl)

  both-same : (m : ℕ) → m ≤ n → (e : Moved) (c : Course) → both_told later s.number (In m) e c ≡ both_told log s.number (In m) e c
  both-same m le e c =
      slot-same m le e CoDriver (slot_told later s.number (In m) e Driver c) ∙ ap (slot_told log s.number (In m) e CoDriver) (slot-same m le e Driver c)

  before-begins : (k : ℕ) → begins (cut_in log s.number) k ≡ true
  before-begins k = begins-none (cut_in log s.number) k same.none

  later-begins : (k : ℕ) → k < n → begins (cut_in later s.number) k ≡ true
  later-begins k lt = ⊎_elim
      (λ none. begins-none (cut_in later s.number) k none)
      (λ some. begins-some (cut_in later s.number) k some.0 some.1 (let le = some.2 in omega (arith, lt, le))) same.behind

  acted-same : (k : ℕ) → k < n → (a : Action) (c : Course) → acted later s k a c ≡ acted log s k a c
  acted-same k lt a c =
      rw (later-begins k lt) (rw (before-begins k) (both-same (k + 1) (omega (arith, lt)) (moved_by k (refusal c.slots s.speed a) a c.slots) (answered k (refusal c.slots s.speed a) a c)))

  all-same : (acts : List Action) (k : ℕ) (c : Course) → k + length acts ≤ n → all_acted later s k acts c ≡ all_acted log s k acts c
  all-same [] k c le = refl
  all-same (a ∷ acts) k c le =
      ap (λ (d : Course). all_acted later s (k + 1) acts d) (acted-same k (omega (arith, le)) a c) ∙ all-same acts (k + 1) (acted log s k a c) (omega (arith, le))

  pub course-same : (before : Before) → course_by later before s n ≡ course_by log before s n
  course-same before =
      ap (λ (d : Course). all_acted later s 0 (take n s.actions) d) (both-same 0 (omega arith) (unmoved (not before.running)) (fresh (not before.running) before.slots))
      ∙ all-same (take n s.actions) 0 (both_told log s.number (In 0) (unmoved (not before.running)) (fresh (not before.running) before.slots)) (let l = length-take n s.actions in omega (arith, l))

pub later-lines : LaterLinesChangeNoMoment
later-lines log later before s n same = course-same log later s n same before

-- AN ACTION MORE
pub all-acted_parts : (log : RunLog) (s : TraceSecond) (k : ℕ) (xs ys : List Action) (c : Course) → all_acted log s k (xs ++ ys) c ≡ all_acted log s (k + length xs) ys (all_acted log s k xs c)
all-acted_parts log s k [] ys c = let e : k ≡ k + 0 = omega arith in ap (λ (m : ℕ). all_acted log s m ys c) e
all-acted_parts log s k (x ∷ xs) ys c =
    let e : k + 1 + length xs ≡ k + suc (length xs) = omega arith in
    all-acted_parts log s (k + 1) xs ys (acted log s k x c) ∙ ap (λ (m : ℕ). all_acted log s m ys (all_acted log s (k + 1) xs (acted log s k x c))) e

taken-front : (front : List Action) (a : Action) (rest : List Action) → take (length front + 1) (front ++ a ∷ rest) ≡ front ++ a ∷ []
taken-front [] a rest = refl
taken-front (x ∷ front) a rest =
    let e : suc (length front) + 1 ≡ suc (length front + 1) = omega arith in
    ap (λ (m : ℕ). take m (x ∷ (front ++ a ∷ rest))) e ∙ ap (λ (as_ : List Action). x ∷ as_) (taken-front front a rest)

taken-whole : (front rest : List Action) → take (length front) (front ++ rest) ≡ front
taken-whole [] rest = refl
taken-whole (x ∷ front) rest = ap (λ (as_ : List Action). x ∷ as_) (taken-whole front rest)

pub action-more : AnActionMoreIsActed
action-more log before s front a rest are =
    let begun : Course = both_told log s.number (In 0) (unmoved (not before.running)) (fresh (not before.running) before.slots) in
    ap (λ (as_ : List Action). all_acted log s 0 (take (length front + 1) as_) begun) are
    ∙ ap (λ (as_ : List Action). all_acted log s 0 as_ begun) (taken-front front a rest)
    ∙ all-acted_parts log s 0 front (a ∷ []) begun
    ∙ ap (λ (m : ℕ). acted log s m a (all_acted log s 0 front begun)) (zero-plus (length front))
    ∙ ap (λ (as_ : List Action). acted log s (length front) a (all_acted log s 0 as_ begun)) (sym (ap (take (length front)) are ∙ taken-whole front (a ∷ rest)))
  where
    zero-plus : (n : ℕ) → 0 + n ≡ n
    zero-plus n = omega arith

-- NOTHING IS TOLD of a moment: it leaves all as it was
nothing-found : (b : Bool) (vs : List Verdict) → vs ≡ [] → cond b vs [] ≡ []
nothing-found true vs is = is
nothing-found false vs is = refl

-- what is found of each of these cards
abbrev seen_as : List Verdict → Visit → List (Visit × Verdict)
seen_as verdicts visit = map (λ (v : Verdict). (visit, v)) verdicts

nothing-seen : (vs : List Visit) → flat_map (seen_as []) vs ≡ []
nothing-seen [] = refl
nothing-seen (v ∷ vs) = nothing-seen vs

told_by : ℕ → Phase → Moved → Slot → Course → (torn : Bool) → List Verdict → Course
told_by u p moved slot c torn verdicts =
    let judged : Course = record c { found = c.found ++ flat_map (seen_as verdicts) (visits p slot c.slots) } in
    cond torn (record (leaves slot judged) { torn = c.torn ++ (moved.leaving slot ++ visits p slot c.slots) })
    (cond (list_any is_accepting verdicts) (record judged { slots = with_slot c.slots slot (option_map {T = Sitting} (λ x. record x { accepted = Some u }) (in_slot c.slots slot)) }) judged)

slot-by : (log : RunLog) (u : ℕ) (p : Phase) (moved : Moved) (slot : Slot) (c : Course) →
    slot_told log u p moved slot c ≡ told_by u p moved slot c (is_torn_in log u p slot) (cond (moved.enters slot) (found_in log u p slot) [])
unfolding told_by
slot-by log u p moved slot c = refl

by-nothing : (u : ℕ) (p : Phase) (moved : Moved) (slot : Slot) (c : Course) → told_by u p moved slot c false [] ≡ c
unfolding told_by
by-nothing u p moved slot c =
    ap (λ (seen : List (Visit × Verdict)). record c { found = c.found ++ seen }) (nothing-seen (visits p slot c.slots)) ∙ ap (λ (found : List (Visit × Verdict)). record c { found = found }) (append-nil c.found)

pub slot-still : (log : RunLog) (u : ℕ) (p : Phase) (moved : Moved) (slot : Slot) (c : Course) → is_torn_in log u p slot ≡ false → found_in log u p slot ≡ [] → slot_told log u p moved slot c ≡ c
slot-still log u p moved slot c torn found =
    slot-by log u p moved slot c
    ∙ ap (λ (t : Bool). told_by u p moved slot c t (cond (moved.enters slot) (found_in log u p slot) [])) torn
    ∙ ap (told_by u p moved slot c false) (nothing-found (moved.enters slot) (found_in log u p slot) found)
    ∙ by-nothing u p moved slot c

pub both-still : (log : RunLog) (u : ℕ) (p : Phase) (moved : Moved) (c : Course) → ((slot : Slot) → is_torn_in log u p slot ≡ false) → ((slot : Slot) → found_in log u p slot ≡ []) → both_told log u p moved c ≡ c
both-still log u p moved c torn found =
    ap (slot_told log u p moved CoDriver) (slot-still log u p moved Driver c (torn Driver) (found Driver)) ∙ slot-still log u p moved CoDriver c (torn CoDriver) (found CoDriver)

acted-still : (log : RunLog) (s : TraceSecond) (n : ℕ) (a : Action) (c : Course) → cut_in log s.number ≡ None → IsStill log s.number (n + 1) → acted log s n a c ≡ answered n (refusal c.slots s.speed a) a c
acted-still log s n a c none still =
    rw (begins-none (cut_in log s.number) n none) (both-still log s.number (In (n + 1)) (moved_by n (refusal c.slots s.speed a) a c.slots) (answered n (refusal c.slots s.speed a) a c) still.torn still.found)

pub one-more : OneActionMore
one-more log before s front a rest are none still =
    action-more log before s front a rest are ∙ acted-still log s (length front) a (course_by log before s (length front)) none still
