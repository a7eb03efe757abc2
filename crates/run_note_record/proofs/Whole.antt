-- The course of a whole second by a log that tells of it up to a moment.
use Rattle.std.proofs.Common.{◌≡◌, ℕ, zero, suc, ◌+◌, ◌<◌, false, cond, not, ◌||◌, Option, Some, None, List, [], ◌∷◌, length, take, is_some, refl, ap, sym, ◌∙◌, arith}
use Rattle.run_events.specs.activity_codec.declared.values.Slot.{Slot}
use Rattle.run_devices.specs.trace_model.declared.Action.{Action}
use Rattle.run_devices.specs.trace_model.declared.Action.TheVariants.{Select, Insert, Withdraw, Tear as Pull, Place, Manual}
use Rattle.run_devices.specs.trace_model.Trace.{TraceSecond}
use Rattle.run_devices.specs.log_model.declared.lines.SlotFault.{SlotFault}
use Rattle.run_devices.specs.log_model.Log.{RunLog, Phase, In, Keeping, cut_in, is_torn_in, found_in}
use Rattle.run_devices.specs.log_model.Slots.{refusal}
use Rattle.run_devices.specs.log_model.Course.{Course, Before, begins, is_settling, both_told, unmoved, moved_by, fresh, acted, all_acted, answered, cut_told, lit_course}
use Rattle.run_devices.specs.event_model.Events.{course_by}
use Rattle.run_devices.proofs.run_course.Moments.{both-still}
use Rattle.run_devices.specs.run_course.Reached.{IsMoment, IsUpTo, course_at}
use Rattle.run_devices.proofs.run_course.Reached.{at-by}

-- two courses have the same tears and finds
pub record IsTold (c d : Course) : Type 0 where
  pub torn : d.torn ≡ c.torn
  pub found : d.found ≡ c.found

then : (a b c : Course) → IsTold a b → IsTold b c → IsTold a c
then a b c x y = record { torn = y.torn ∙ x.torn; found = y.found ∙ x.found }

told-acts_ : (c d : Course) → d ≡ c → IsTold c d
told-acts_ c d is = record { torn = ap (λ (x : Course). x.torn) is; found = ap (λ (x : Course). x.found) is }

pub answered-told : (n : ℕ) (o : Option SlotFault) (a : Action) (c : Course) → IsTold c (answered n o a c)
answered-told n (Some r) a c = record { torn = refl; found = refl }
answered-told n None (Select slot pick) c = record { torn = refl; found = refl }
answered-told n None (Insert slot card) c = record { torn = refl; found = refl }
answered-told n None (Withdraw slot) c = record { torn = refl; found = refl }
answered-told n None (Pull slot) c = record { torn = refl; found = refl }
answered-told n None (Place slot ending country region) c = record { torn = refl; found = refl }
answered-told n None (Manual slot pick minute) c = record { torn = refl; found = refl }

-- behind so many actions a log tells nothing
pub record IsSilent (log : RunLog) (u n : ℕ) : Type 0 where
  pub torn : (m : ℕ) (slot : Slot) → n < m → is_torn_in log u (In m) slot ≡ false
  pub found : (m : ℕ) (slot : Slot) → n < m → found_in log u (In m) slot ≡ []

module _ (log : RunLog) (s : TraceSecond) (uncut : cut_in log s.number ≡ None) where
  acted-silent : (n : ℕ) (a : Action) (c : Course) → IsSilent log s.number n → IsTold c (acted log s n a c)
  acted-silent n a c none =
      then c (answered n (refusal c.slots s.speed a) a c) (acted log s n a c) (answered-told n (refusal c.slots s.speed a) a c)
      (told-acts_ (answered n (refusal c.slots s.speed a) a c) (acted log s n a c)
      (ap (λ (o : Option ℕ). cond (begins o n) (both_told log s.number (In (n + 1)) (moved_by n (refusal c.slots s.speed a) a c.slots) (answered n (refusal c.slots s.speed a) a c)) (record c { settled = c.settled || is_settling a })) uncut
      ∙ both-still log s.number (In (n + 1)) (moved_by n (refusal c.slots s.speed a) a c.slots) (answered n (refusal c.slots s.speed a) a c) (λ slot. none.torn (n + 1) slot (omega arith)) (λ slot. none.found (n + 1) slot (omega arith))))

  all-silent : (n : ℕ) (acts_ : List Action) (c : Course) → IsSilent log s.number n → IsTold c (all_acted log s n acts_ c)
  all-silent n [] c none = record { torn = refl; found = refl }
  all-silent n (a ∷ acts_) c none =
      then c (acted log s n a c) (all_acted log s (n + 1) acts_ (acted log s n a c)) (acted-silent n a c none)
      (all-silent (n + 1) acts_ (acted log s n a c) (record { torn = λ m slot lt. none.torn m slot (omega (arith, lt)); found = λ m slot lt. none.found m slot (omega (arith, lt)) }))

  rest-silent : (k n : ℕ) (acts_ : List Action) (c : Course) → IsSilent log s.number (k + n) → IsTold (all_acted log s k (take n acts_) c) (all_acted log s k acts_ c)
  rest-silent k zero acts_ c none =
      all-silent k acts_ c (record { torn = λ m slot lt. none.torn m slot (omega (arith, lt)); found = λ m slot lt. none.found m slot (omega (arith, lt)) })
  rest-silent k (suc n) [] c none = record { torn = refl; found = refl }
  rest-silent k (suc n) (a ∷ acts_) c none =
      rest-silent (k + 1) n acts_ (acted log s k a c) (record { torn = λ m slot lt. none.torn m slot (omega (arith, lt)); found = λ m slot lt. none.found m slot (omega (arith, lt)) })

take-all : (acts_ : List Action) → take (length acts_) acts_ ≡ acts_
take-all [] = refl
take-all (a ∷ acts_) = ap (λ (xs : List Action). a ∷ xs) (take-all acts_)

uncut-told : (o : Option ℕ) (c : Course) → o ≡ None → cut_told (is_some o) c ≡ c
uncut-told o c is = ap (λ (x : Option ℕ). cut_told (is_some x) c) is

-- A WHOLE SECOND has the tears and finds of the moment up to which a log tells of it
pub whole-told : (log : RunLog) (before : Before) (s : TraceSecond) (at : Phase) → IsUpTo log s.number at → IsMoment s at → IsTold (course_at log before s at) (lit_course log s (not before.running) before.slots)
whole-told log before s (In n) up is =
    let all : Course = course_by log before s (length s.actions) in
    let last : Course = both_told log s.number Keeping (unmoved false) (all_acted log s 0 s.actions (both_told log s.number (In 0) (unmoved (not before.running)) (fresh (not before.running) before.slots))) in
    let whole : Course = lit_course log s (not before.running) before.slots in
    let first : Course = both_told log s.number (In 0) (unmoved (not before.running)) (fresh (not before.running) before.slots) in
    let acts : Course = all_acted log s 0 s.actions first in
    then (course_at log before s (In n)) (course_by log before s n) whole (told-acts_ (course_at log before s (In n)) (course_by log before s n) (at-by log before s up.uncut n is))
    (then (course_by log before s n) acts whole
    (rest-silent log s up.uncut 0 n s.actions first (record { torn = λ m slot lt. up.torn (In m) slot (omega (arith, lt)); found = λ m slot lt. up.found (In m) slot (omega (arith, lt)) }))
    (told-acts_ acts whole (uncut-told (cut_in log s.number) last up.uncut ∙ both-still log s.number Keeping (unmoved false) acts (λ slot. up.torn Keeping slot tt) (λ slot. up.found Keeping slot tt))))
whole-told log before s Keeping up is =
    let first : Course = both_told log s.number (In 0) (unmoved (not before.running)) (fresh (not before.running) before.slots) in
    let last : Course = both_told log s.number Keeping (unmoved false) (all_acted log s 0 s.actions first) in
    told-acts_ (course_at log before s Keeping) (lit_course log s (not before.running) before.slots)
    (uncut-told (cut_in log s.number) last up.uncut ∙ ap (λ (acts_ : List Action). both_told log s.number Keeping (unmoved false) (all_acted log s 0 acts_ first)) (sym (take-all s.actions)))
