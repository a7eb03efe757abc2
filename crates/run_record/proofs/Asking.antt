-- What the actions of a second ask of entries by hand, one after another; one second more; and that later lines change nothing of it.
use Rattle.std.proofs.Common.{◌≡◌, ℕ, suc, ◌+◌, ◌≤◌, Bool, true, false, cond, not, Option, Some, List, [], ◌∷◌, ◌++◌, All, fold, length, is_some, refl, ap, sym, ◌∙◌, arith, append-nil, append_assoc}
use Rattle.std.specs.Prelude.{nat_lt}
use Rattle.std.proofs.lemmas.Bool.Decides.{nat_tests}
use Rattle.std.proofs.lemmas.List.Elements.{All-head, All-tail}
use Rattle.minute_rules.specs.activity_codec.declared.values.Slot.{Slot}
use Rattle.minute_rules.specs.activity_codec.declared.values.Slot.TheVariants.{Driver, CoDriver}
use Rattle.run_devices.specs.trace_model.declared.Action.{Action}
use Rattle.run_devices.specs.trace_model.Trace.{TraceSecond}
use Rattle.run_devices.specs.log_model.Log.{RunLog, Phase, In, Keeping, cut_in, is_torn_in, found_in}
use Rattle.run_devices.specs.log_model.Slots.{Slots, refusal}
use Rattle.run_devices.specs.log_model.Same.{SameAt}
use Rattle.run_devices.specs.log_model.Course.{Course, Before, Moved, Went, slot_told, both_told, begins, moved_by, unmoved, answered, fresh, acted, all_acted, cut_told, lit_course, has_power, second_told, before_next, not_begun, went, went_on}
use Rattle.run_devices.specs.log_model.ByHand.{Asked, asks, asked_by, asked_in, asked_from, asked_of}
use Rattle.run_devices.proofs.log_model.Growth.{went-same}
use Rattle.run_devices.specs.note_model.Done.{course_powered}
use Rattle.run_record.specs.Handed.{asked_to, asked_so_far}

-- ---- one after another

by-append : (log : RunLog) (s : TraceSecond) (n : ℕ) (xs ys : List Action) (c : Course) → asked_by log s n (xs ++ ys) c ≡ asked_by log s n xs c ++ asked_by log s (n + length xs) ys (all_acted log s n xs c)
by-append log s n [] ys c = let same : n ≡ n + 0 = omega arith in ap (λ (k : ℕ). asked_by log s k ys c) same
by-append log s n (x ∷ xs) ys c =
    let first : List Asked = cond (begins (cut_in log s.number) n) (asks s.number n (refusal c.slots s.speed x) x c.slots) [] in
    let next : Course = acted log s n x c in
    let same : n + 1 + length xs ≡ n + suc (length xs) = omega arith in
    ap (λ (l : List Asked). first ++ l) (by-append log s (n + 1) xs ys next ∙ ap (λ (k : ℕ). asked_by log s (n + 1) xs next ++ asked_by log s k ys (all_acted log s (n + 1) xs next)) same)
    ∙ sym (append_assoc first (asked_by log s (n + 1) xs next) (asked_by log s (n + suc (length xs)) ys (all_acted log s (n + 1) xs next)))

-- ONE ACTION MORE, which has begun
pub asked-one : (log : RunLog) (before : Before) (s : TraceSecond) (front : List Action) (a : Action) → begins (cut_in log s.number) (length front) ≡ true
    → asked_to log before s (front ++ a ∷ []) ≡ asked_to log before s front
    ++ asks s.number (length front) (refusal (all_acted log s 0 front (course_powered log before s)).slots s.speed a) a (all_acted log s 0 front (course_powered log before s)).slots
asked-one log before s front a begun =
    let c : Course = course_powered log before s in
    let last : Course = all_acted log s 0 front c in
    let zero_more : 0 + length front ≡ length front = omega arith in
    by-append log s 0 front (a ∷ []) c
    ∙ ap (λ (k : ℕ). asked_by log s 0 front c ++ asked_by log s k (a ∷ []) last) zero_more
    ∙ ap (λ (b : Bool). asked_by log s 0 front c ++ (cond b (asks s.number (length front) (refusal last.slots s.speed a) a last.slots) [] ++ [])) begun
    ∙ ap (λ (l : List Asked). asked_by log s 0 front c ++ l) (append-nil (asks s.number (length front) (refusal last.slots s.speed a) a last.slots))

-- ---- later lines

module _ (log later : RunLog) (s : TraceSecond) where
  abbrev u : ℕ
  u = s.number

  slot-same : (p : Phase) (moved : Moved) (slot : Slot) (c : Course) → is_torn_in later u p slot ≡ is_torn_in log u p slot → found_in later u p slot ≡ found_in log u p slot → slot_told later u p moved slot c ≡ slot_told log u p moved slot c
  slot-same p moved slot c torn found = rw torn (rw found refl)

  pub both-same : (p : Phase) (moved : Moved) (c : Course) → ((slot : Slot) → is_torn_in later u p slot ≡ is_torn_in log u p slot) → ((slot : Slot) → found_in later u p slot ≡ found_in log u p slot) → both_told later u p moved c ≡ both_told log u p moved c
  both-same p moved c torn found =
      slot-same p moved CoDriver (slot_told later u p moved Driver c) (torn CoDriver) (found CoDriver) ∙ ap (slot_told log u p moved CoDriver) (slot-same p moved Driver c (torn Driver) (found Driver))

-- ---- a cut

by-cut : (log : RunLog) (s : TraceSecond) (k n : ℕ) (as_ : List Action) (c : Course) → cut_in log s.number ≡ Some k → k ≤ n → asked_by log s n as_ c ≡ []
by-cut log s k n [] c cut le = refl
by-cut log s k n (a ∷ as_) c cut le =
    let late : begins (cut_in log s.number) n ≡ false = ap (λ (o : Option ℕ). begins o n) cut ∙ not-below n k le in
    ap (λ (b : Bool). cond b (asks s.number n (refusal c.slots s.speed a) a c.slots) [] ++ asked_by log s (n + 1) as_ (acted log s n a c)) late ∙ by-cut log s k (n + 1) as_ (acted log s n a c) cut (omega (arith, le))
  where
    not-below : (n k : ℕ) → k ≤ n → nat_lt n k ≡ false
    not-below n k le = grind (arith, nat_tests)

pub asked-cut : (log : RunLog) (before : Before) (s : TraceSecond) (front rest : List Action) → cut_in log s.number ≡ Some (length front) → asked_to log before s (front ++ rest) ≡ asked_to log before s front
asked-cut log before s front rest cut =
    let c : Course = course_powered log before s in
    by-append log s 0 front rest c
    ∙ ap (λ (l : List Asked). asked_by log s 0 front c ++ l) (by-cut log s (length front) (0 + length front) rest (all_acted log s 0 front c) cut (omega arith))
    ∙ append-nil (asked_by log s 0 front c)

-- ---- whole seconds

pub second-asked : (log : RunLog) (before : Before) (s : TraceSecond) → has_power before s ≡ true → asked_in log before s ≡ asked_to log before s s.actions
second-asked log before s power = rw power refl

pub second-asks_none : (log : RunLog) (before : Before) (s : TraceSecond) → has_power before s ≡ false → asked_in log before s ≡ []
second-asks_none log before s dark = rw dark refl

-- one second more
from-on : (log : RunLog) (ss : List TraceSecond) (s : TraceSecond) (before : Before) (v : Went) → v.before ≡ before → asked_from log before (ss ++ s ∷ []) ≡ asked_from log before ss ++ asked_in log (fold (went_on log) v ss).before s
from-on log [] s before v is = append-nil (asked_in log before s) ∙ ap (λ (b : Before). asked_in log b s) (sym is)
from-on log (x ∷ ss) s before v is =
    let next : Before = before_next before (second_told log before x) in
    ap (λ (l : List Asked). asked_in log before x ++ l) (from-on log ss s next (went_on log v x) (ap (λ (b : Before). before_next b (second_told log b x)) is))
    ∙ sym (append_assoc (asked_in log before x) (asked_from log next ss) (asked_in log (fold (went_on log) (went_on log v x) ss).before s))

pub asked-more : (log : RunLog) (ss : List TraceSecond) (s : TraceSecond) → asked_of log (ss ++ s ∷ []) ≡ asked_of log ss ++ asked_in log (went log ss).before s
unfolding asked_of went
asked-more log ss s = from-on log ss s not_begun.before not_begun refl

-- logs that tell the same of these seconds
module _ (log later : RunLog) where
  slot-alike : (u : ℕ) → SameAt log later u → (p : Phase) (e : Moved) (slot : Slot) (c : Course) → slot_told later u p e slot c ≡ slot_told log u p e slot c
  slot-alike u same p e slot c = rw (same.torn p slot) (rw (same.found p slot) refl)

  both-alike : (u : ℕ) → SameAt log later u → (p : Phase) (e : Moved) (c : Course) → both_told later u p e c ≡ both_told log u p e c
  both-alike u same p e c =
      slot-alike u same p e CoDriver (slot_told later u p e Driver c) ∙ ap (slot_told log u p e CoDriver) (slot-alike u same p e Driver c)

  acted-alike : (s : TraceSecond) → SameAt log later s.number → (n : ℕ) (a : Action) (c : Course) → acted later s n a c ≡ acted log s n a c
  acted-alike s same n a c =
      rw same.cut (rw (both-alike s.number same (In (n + 1)) (moved_by n (refusal c.slots s.speed a) a c.slots) (answered n (refusal c.slots s.speed a) a c)) refl)

  by-alike : (s : TraceSecond) → SameAt log later s.number → (n : ℕ) (acts : List Action) (c : Course) → asked_by later s n acts c ≡ asked_by log s n acts c
  by-alike s same n [] c = refl
  by-alike s same n (a ∷ acts) c =
      let one : List Asked = asks s.number n (refusal c.slots s.speed a) a c.slots in
      ap (λ (o : Option ℕ). cond (begins o n) one [] ++ asked_by later s (n + 1) acts (acted later s n a c)) same.cut
      ∙ ap (λ (l : List Asked). cond (begins (cut_in log s.number) n) one [] ++ l) (ap (λ (d : Course). asked_by later s (n + 1) acts d) (acted-alike s same n a c) ∙ by-alike s same (n + 1) acts (acted log s n a c))

  pub in-alike : (before : Before) (s : TraceSecond) → SameAt log later s.number → asked_in later before s ≡ asked_in log before s
  in-alike before s same =
      ap (λ (l : List Asked). cond (has_power before s) l [])
      (ap (λ (c : Course). asked_by later s 0 s.actions c) (both-alike s.number same (In 0) (unmoved (not before.running)) (fresh (not before.running) before.slots))
      ∙ by-alike s same 0 s.actions (course_powered log before s))

  all-alike : (s : TraceSecond) → SameAt log later s.number → (n : ℕ) (acts : List Action) (c : Course) → all_acted later s n acts c ≡ all_acted log s n acts c
  all-alike s same n [] c = refl
  all-alike s same n (a ∷ acts) c = all-alike s same (n + 1) acts (acted later s n a c) ∙ ap (all_acted log s (n + 1) acts) (acted-alike s same n a c)

  lit-alike : (s : TraceSecond) → SameAt log later s.number → (starts : Bool) (slots : Slots) → lit_course later s starts slots ≡ lit_course log s starts slots
  lit-alike s same starts slots =
      let begun = both-alike s.number same (In 0) (unmoved starts) (fresh starts slots) in
      let done = all-alike s same 0 s.actions (both_told later s.number (In 0) (unmoved starts) (fresh starts slots)) ∙ ap (all_acted log s 0 s.actions) begun in
      let kept = both-alike s.number same Keeping (unmoved false) (all_acted later s 0 s.actions (both_told later s.number (In 0) (unmoved starts) (fresh starts slots))) ∙ ap (both_told log s.number Keeping (unmoved false)) done in
      rw same.cut (ap (cut_told (is_some (cut_in log s.number))) kept)

  second-alike : (before : Before) (s : TraceSecond) → SameAt log later s.number → second_told later before s ≡ second_told log before s
  second-alike before s same = rw (lit-alike s same (not before.running) before.slots) (rw same.cut refl)

  from-alike : (before : Before) (ss : List TraceSecond) → All (λ (x : TraceSecond). SameAt log later x.number) ss → asked_from later before ss ≡ asked_from log before ss
  from-alike before [] all = refl
  from-alike before (s ∷ ss) all =
      let same = All-head (λ (x : TraceSecond). SameAt log later x.number) s ss all in
      let next : Before = before_next before (second_told log before s) in
      (λ i. in-alike before s same i ++ asked_from later (before_next before (second-alike before s same i)) ss)
      ∙ ap (λ (l : List Asked). asked_in log before s ++ l) (from-alike next ss (All-tail (λ (x : TraceSecond). SameAt log later x.number) s ss all))

  -- SECONDS THAT BOTH TELL ALIKE ask the same
  pub asked-alike : (ss : List TraceSecond) → All (λ (x : TraceSecond). SameAt log later x.number) ss → asked_of later ss ≡ asked_of log ss
  unfolding asked_of
  asked-alike ss all = from-alike not_begun.before ss all

  -- A SECOND MORE, which has power, behind all of its actions
  pub asked-over : (ss : List TraceSecond) (s : TraceSecond) → All (λ (x : TraceSecond). SameAt log later x.number) ss → has_power (went log ss).before s ≡ true → asked_of later (ss ++ s ∷ []) ≡ asked_so_far log ss later s s.actions
  asked-over ss s all power =
      let went_is = ap (λ (w : Went). w.before) (went-same log later ss all) in
      asked-more later ss s
      ∙ (λ i. asked-alike ss all i ++ asked_in later (went_is i) s)
      ∙ ap (λ (l : List Asked). asked_of log ss ++ l) (second-asked later (went log ss).before s power)
