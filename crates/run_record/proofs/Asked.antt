-- What is asked of entries by hand, from moment to moment of a run: lines of a moment bear on none that was asked before it, and an action asks for itself alone.
use Rattle.std.proofs.Common.{◌≡◌, ◌⊎◌, inl, inr, ℕ, zero, suc, ◌+◌, ◌<◌, ◌≤◌, Bool, true, false, cond, not, ◌||◌, Option, Some, None, is_some, List, [], ◌∷◌, ◌++◌, All, fold, length, map, filter, refl, ap, sym, ◌∙◌, arith, append-nil, append_assoc, subst, length-append, ◌-◌}
use Rattle.std.specs.Prelude.{◌&&◌, nat_eq, nat_lt, take}
use Rattle.std.proofs.lemmas.Bool.Decides.{nat_tests}
use Rattle.std.proofs.lemmas.List.{take_at, length-take}
use Rattle.std.proofs.lemmas.List.Elements.{All-nil, All-cons, All-head, All-tail, All-append, All-weaker, All-filter}
use Rattle.minute_rules.specs.activity_codec.declared.values.Slot.{Slot}
use Rattle.minute_rules.specs.activity_codec.Activity.{same_slot}
use Rattle.run_devices.specs.trace_model.declared.Action.{Action}
use Rattle.run_devices.specs.trace_model.declared.Action.TheVariants.{Select, Insert, Withdraw, Tear as Pull, Place, Manual}
use Rattle.run_devices.specs.trace_model.declared.Card.{Card}
use Rattle.run_devices.specs.trace_model.Trace.{TraceSecond, driven, dark}
use Rattle.run_devices.specs.log_model.declared.lines.Break.{Break}
use Rattle.run_devices.specs.log_model.declared.lines.Find.{Find}
use Rattle.run_devices.specs.log_model.declared.lines.Refused.{Refused}
use Rattle.run_devices.specs.log_model.declared.lines.SlotFault.{SlotFault}
use Rattle.run_devices.specs.log_model.Log.{RunLog, Phase, In, Keeping, same_phase, phase_of, cut_in, cut_of, tears_here, is_torn_in, found_in}
use Rattle.run_devices.specs.log_model.Slots.{Slots, Sitting, in_slot, same_card, refusal}
use Rattle.run_devices.specs.log_model.Same.{SameAt}
use Rattle.run_devices.specs.log_model.Course.{Course, Before, Moved, Went, both_told, begins, is_settling, moved_by, unmoved, answered, fresh, acted, all_acted, has_power, second_told, before_next, not_begun, went, went_on}
use Rattle.run_devices.specs.log_model.ByHand.{Asked, asks, sitting_in, minute_on, is_stopped, stops as stops_of, asked_by, asked_in, asked_from, asked_of}
use Rattle.run_devices.proofs.log_model.Growth.{went-same}
use Rattle.run_devices.proofs.history_model.Filters.{all-one}
use Rattle.run_devices.specs.note_model.Done.{course_powered}
use Rattle.run_devices.specs.run_unit_course.Lines.{cut_at, tells_cut}
use Rattle.run_devices.specs.run_course.Moments.{and_break, and_find, and_refused, BreakSeen, FindSeen}
use Rattle.run_devices.specs.run_course.Reached.{course_at, IsTearAt, IsFindAt}
use Rattle.run_devices.specs.run_course.Telling.{begun_by, IsLeft}
use Rattle.run_devices.proofs.run_course.Lookups.{break-more, find-more, refusal-more, cut-by}
use Rattle.run_devices.proofs.run_course.Reached.{at-by}
use Rattle.run_devices.proofs.run_course.Telling.{cut-now}
use Rattle.run_record.specs.Handed.{actions_to, asked_to, asked_so_far, done_for}
use Rattle.run_record.proofs.Asking.{both-same, asked-one, asked-cut, asked-alike, asked-over, second-asks_none}
use Rattle.run_devices.specs.log_model.Spans.{AreInOrder}
use Rattle.run_devices.specs.run_course.Followed.{Progress, HadActions}
use Rattle.run_devices.specs.run_course.Seconds.{GoesOnBy, next_told}
use Rattle.run_devices.proofs.run_course.Logs.{other-number, all-before, same-at, refused-at, found_log, same-found, BreaksBefore, tells-none, tells-cut}
use Rattle.run_devices.proofs.log_model.Spanning.{order-parts}

-- ---- lines of a moment

not_below : (n k : ℕ) → k < n → nat_eq n k ≡ false
not_below n k lt = grind (arith, nat_tests)

is_below : (k n : ℕ) → k < n → nat_lt k n ≡ true
is_below k n lt = grind (arith, nat_tests)

-- no moment before this one is it
pub earlier : (s : TraceSecond) (at : Phase) (k : ℕ) → k < length (actions_to at s.actions) → same_phase at (In k) ≡ false
earlier s (In n) k lt = let len = length-take n s.actions in not_below n k (omega (arith, lt, len))
earlier s Keeping k lt = refl

-- TWO LOGS TELL THE SAME of a second before one of its moments
record TellAlikeBefore (log later : RunLog) (u n : ℕ) : Type 0 where
  begun : (k : ℕ) → k < n → begins (cut_in later u) k ≡ begins (cut_in log u) k
  torn : (k : ℕ) (slot : Slot) → k < n → is_torn_in later u (In k) slot ≡ is_torn_in log u (In k) slot
  found : (k : ℕ) (slot : Slot) → k < n → found_in later u (In k) slot ≡ found_in log u (In k) slot

module _ (log later : RunLog) (s : TraceSecond) where
  abbrev u : ℕ
  u = s.number

  acted-before : (n k : ℕ) (a : Action) (c : Course) → TellAlikeBefore log later u n → k + 1 < n → acted later s k a c ≡ acted log s k a c
  acted-before n k a c same lt =
      let moved : Moved = moved_by k (refusal c.slots s.speed a) a c.slots in
      let next : Course = answered k (refusal c.slots s.speed a) a c in
      let still : Course = record c { settled = c.settled || is_settling a } in
      ap (λ (b : Bool). cond b (both_told later u (In (k + 1)) moved next) still) (same.begun k (omega (arith, lt)))
      ∙ ap (λ (d : Course). cond (begins (cut_in log u) k) d still) (both-same log later s (In (k + 1)) moved next (λ slot. same.torn (k + 1) slot lt) (λ slot. same.found (k + 1) slot lt))

  by-before : (n k : ℕ) (acts : List Action) (c : Course) → TellAlikeBefore log later u n → k + length acts ≤ n → asked_by later s k acts c ≡ asked_by log s k acts c
  by-before n k [] c same le = refl
  by-before n k (a ∷ []) c same le = ap (λ (b : Bool). cond b (asks u k (refusal c.slots s.speed a) a c.slots) [] ++ []) (same.begun k (omega (arith, le)))
  by-before n k (a ∷ b ∷ rest) c same le =
      let one : List Asked = asks u k (refusal c.slots s.speed a) a c.slots in
      let lt : k + 1 < n = omega (arith, le) in
      ap (λ (t : Bool). cond t one [] ++ asked_by later s (k + 1) (b ∷ rest) (acted later s k a c)) (same.begun k (omega (arith, le)))
      ∙ ap (λ (d : Course). cond (begins (cut_in log u) k) one [] ++ asked_by later s (k + 1) (b ∷ rest) d) (acted-before n k a c same lt)
      ∙ ap (λ (l : List Asked). cond (begins (cut_in log u) k) one [] ++ l) (by-before n (k + 1) (b ∷ rest) (acted log s k a c) same (omega (arith, le)))

  powered-before : (before : Before) (n : ℕ) → TellAlikeBefore log later u n → 0 < n → course_powered later before s ≡ course_powered log before s
  powered-before before n same some = both-same log later s (In 0) (unmoved (not before.running)) (fresh (not before.running) before.slots) (λ slot. same.torn 0 slot some) (λ slot. same.found 0 slot some)

  asked-before : (before : Before) (front : List Action) → TellAlikeBefore log later u (length front) → asked_to later before s front ≡ asked_to log before s front
  asked-before before [] same = refl
  asked-before before (a ∷ front) same =
      ap (λ (c : Course). asked_by later s 0 (a ∷ front) c) (powered-before before (length (a ∷ front)) same (omega arith))
      ∙ by-before (length (a ∷ front)) 0 (a ∷ front) (course_powered log before s) same (omega arith)

-- a tear, a find, a refusal and a cut
no-cut : (o : Option ℕ) → cond (is_some o) o None ≡ o
no-cut None = refl
no-cut (Some n) = refl

or-none : (b : Bool) → (b || false) ≡ b
or-none true = refl
or-none false = refl

amid : (x y z : Bool) → y ≡ false → (x && y && z) ≡ false
amid true false z is = refl
amid false false z is = refl
amid true true z is = absurd (cc)
amid false true z is = absurd (cc)

torn-alike : (log : RunLog) (s : TraceSecond) (at : Phase) (slot : Slot) (failed : Bool) (b : Break) (n : ℕ) → IsTearAt s at slot failed b → ((k : ℕ) → k < n → same_phase at (In k) ≡ false) → TellAlikeBefore log (and_break log b) s.number n
torn-alike log s at slot failed b n is apart = record {
  begun = λ k lt. ap (λ (o : Option ℕ). begins o k) (seen.cut ∙ ap (λ (c : Break). cond (is_some (cut_in log s.number)) (cut_in log s.number) (cut_of s.number c)) is.2 ∙ no-cut (cut_in log s.number));
  torn = λ k other lt. seen.torn (In k) other ∙ ap (λ (t : Bool). is_torn_in log s.number (In k) other || t) (not-here k other lt) ∙ or-none (is_torn_in log s.number (In k) other);
  found = λ k other lt. seen.found (In k) other;
}
  where
    seen : BreakSeen log b s.number
    seen = break-more log b s.number

    not-here : (k : ℕ) (other : Slot) → k < n → tears_here s.number (In k) other b ≡ false
    not-here k other lt =
        ap (tears_here s.number (In k) other) is.2
        ∙ amid (nat_eq s.number s.number) (same_phase (phase_of is.0 is.1) (In k)) (same_slot slot other) (ap (λ (p : Phase). same_phase p (In k)) is.3 ∙ apart k lt)

found-alike : (log : RunLog) (s : TraceSecond) (at : Phase) (f : Find) (n : ℕ) → IsFindAt s at f → ((k : ℕ) → k < n → same_phase at (In k) ≡ false) → TellAlikeBefore log (and_find log f) s.number n
found-alike log s at f n is apart = record {
  begun = λ k lt. ap (λ (o : Option ℕ). begins o k) seen.cut;
  torn = λ k other lt. seen.torn (In k) other;
  found = λ k other lt.
      seen.found (In k) other
      ∙ ap (λ (t : Bool). found_in log s.number (In k) other ++ cond t (f.verdict ∷ []) []) (amid (nat_eq f.second s.number) (same_phase (In f.begun) (In k)) (same_slot f.slot other) (ap (λ (p : Phase). same_phase p (In k)) is.begun ∙ apart k lt))
      ∙ append-nil (found_in log s.number (In k) other);
}
  where
    seen : FindSeen log f s.number
    seen = find-more log f s.number

refused-alike : (log : RunLog) (r : Refused) (u n : ℕ) → TellAlikeBefore log (and_refused log r) u n
refused-alike log r u n =
    let seen = refusal-more log (log.refused ++ r ∷ []) u in
    record {
      begun = λ k lt. ap (λ (o : Option ℕ). begins o k) seen.cut;
      torn = λ k slot lt. seen.torn (In k) slot;
      found = λ k slot lt. seen.found (In k) slot;
    }

-- a cut behind so many actions
cut-alike : (log : RunLog) (u v k : ℕ) (failed : Bool) (n : ℕ) → cut_in log u ≡ None → n ≤ k → TellAlikeBefore log (and_break log (cut_at v failed k)) u n
cut-alike log u v k failed n none le = record {
  begun = λ i lt. ap (λ (o : Option ℕ). begins o i) (seen.cut ∙ ap (λ (o : Option ℕ). cond (is_some o) o (cut_of u (cut_at v failed k))) none) ∙ by i (nat_eq v u) (omega (arith, lt, le)) ∙ sym (ap (λ (o : Option ℕ). begins o i) none);
  torn = λ i slot lt. seen.torn (In i) slot ∙ or-none (is_torn_in log u (In i) slot);
  found = λ i slot lt. seen.found (In i) slot;
}
  where
    seen : BreakSeen log (cut_at v failed k) u
    seen = break-more log (cut_at v failed k) u

    by : (i : ℕ) (b : Bool) → i < k → begins (cond b (Some k) None) i ≡ true
    by i true lt = is_below i k lt
    by i false lt = refl

-- LINES OF A MOMENT bear on nothing that was asked before it: a tear,
module _ (began : RunLog) (done : List TraceSecond) (log : RunLog) (s : TraceSecond) where
  abbrev before : Before
  before = (went began done).before

  pub asked-torn : (at : Phase) (slot : Slot) (failed : Bool) (b : Break) → IsTearAt s at slot failed b → asked_so_far began done (and_break log b) s (actions_to at s.actions) ≡ asked_so_far began done log s (actions_to at s.actions)
  asked-torn at slot failed b is =
      ap (λ (l : List Asked). asked_of began done ++ l) (asked-before log (and_break log b) s before (actions_to at s.actions) (torn-alike log s at slot failed b (length (actions_to at s.actions)) is (earlier s at)))

  -- a find,
  pub asked-find : (at : Phase) (f : Find) → IsFindAt s at f → asked_so_far began done (and_find log f) s (actions_to at s.actions) ≡ asked_so_far began done log s (actions_to at s.actions)
  asked-find at f is =
      ap (λ (l : List Asked). asked_of began done ++ l) (asked-before log (and_find log f) s before (actions_to at s.actions) (found-alike log s at f (length (actions_to at s.actions)) is (earlier s at)))

  -- and a refusal
  pub asked-refusal : (r : Refused) (front : List Action) → asked_so_far began done (and_refused log r) s front ≡ asked_so_far began done log s front
  asked-refusal r front = ap (λ (l : List Asked). asked_of began done ++ l) (asked-before log (and_refused log r) s before front (refused-alike log r s.number (length front)))

  -- ONE ACTION MORE, by the course before it
  pub asked-next : cut_in log s.number ≡ None → (front : List Action) (a : Action) (rest : List Action) → s.actions ≡ front ++ a ∷ rest →
      asked_so_far began done log s (actions_to (In (suc (length front))) s.actions) ≡ asked_so_far began done log s (actions_to (In (length front)) s.actions)
      ++ asks s.number (length front) (refusal (course_at log before s (In (length front))).slots s.speed a) a (course_at log before s (In (length front))).slots
  asked-next none front a rest are =
      let n : ℕ = length front in
      let c : Course = course_at log before s (In n) in
      let these : take n s.actions ≡ front = ap (take n) are ∙ take_at front (a ∷ rest) n refl in
      let more : take (suc n) s.actions ≡ front ++ a ∷ [] =
      ap (take (suc n)) (are ∙ sym (append_assoc front (a ∷ []) rest)) ∙ take_at (front ++ a ∷ []) rest (suc n) (length-push front a) in
      let le : n ≤ length s.actions = (let count = ap (λ (l : List Action). length l) are ∙ length-append front (a ∷ rest) in omega (arith, count)) in
      let course : all_acted log s 0 front (course_powered log before s) ≡ c = ap (λ (l : List Action). all_acted log s 0 l (course_powered log before s)) (sym these) ∙ at-by log before s none n le in
      ap (λ (l : List Action). asked_so_far began done log s l) more
      ∙ ap (λ (l : List Asked). asked_of began done ++ l) (asked-one log before s front a (ap (λ (o : Option ℕ). begins o n) none))
      ∙ sym (append_assoc (asked_of began done) (asked_to log before s front) (asks s.number n (refusal (all_acted log s 0 front (course_powered log before s)).slots s.speed a) a (all_acted log s 0 front (course_powered log before s)).slots))
      ∙ ap (λ (d : Course). asked_so_far began done log s front ++ asks s.number n (refusal d.slots s.speed a) a d.slots) course
      ∙ ap (λ (l : List Action). asked_so_far began done log s l ++ asks s.number n (refusal c.slots s.speed a) a c.slots) (sym these)
    where
      length-push : (xs : List Action) (x : Action) → length (xs ++ x ∷ []) ≡ suc (length xs)
      length-push [] x = refl
      length-push (y ∷ xs) x = ap suc (length-push xs x)

  -- that asks nothing
  pub asked-quiet : cut_in log s.number ≡ None → (front : List Action) (a : Action) (rest : List Action) → s.actions ≡ front ++ a ∷ rest →
      asks s.number (length front) (refusal (course_at log before s (In (length front))).slots s.speed a) a (course_at log before s (In (length front))).slots ≡ [] →
      asked_so_far began done log s (actions_to (In (suc (length front))) s.actions) ≡ asked_so_far began done log s (actions_to (In (length front)) s.actions)
  asked-quiet none front a rest are nothing =
      asked-next none front a rest are
      ∙ ap (λ (l : List Asked). asked_so_far began done log s (actions_to (In (length front)) s.actions) ++ l) nothing
      ∙ append-nil (asked_so_far began done log s (actions_to (In (length front)) s.actions))

  -- THE SECOND IS OVER, behind all of its actions
  pub asked-whole : All (λ (x : TraceSecond). SameAt began log x.number) done → has_power before s ≡ true → asked_of log (done ++ s ∷ []) ≡ asked_so_far began done log s (actions_to Keeping s.actions)
  asked-whole all power = asked-over began log done s all power

  -- OR A CUT ENDS IT at a moment
  pub asked-broken : (at : Phase) (rest : List Action) → cut_in log s.number ≡ None → IsLeft s at rest → All (λ (x : TraceSecond). SameAt began (and_break log (cut_at s.number true (begun_by s at))) x.number) done → has_power before s ≡ true →
      asked_of (and_break log (cut_at s.number true (begun_by s at))) (done ++ s ∷ []) ≡ asked_so_far began done log s (actions_to at s.actions)
  asked-broken (In n) rest none left all power =
      let later : RunLog = and_break log (cut_at s.number true n) in
      let front : List Action = left.0 in
      let cut : cut_in later s.number ≡ Some (length front) = cut-now log s n none ∙ ap (λ (k : ℕ). Some k) (sym left.2) in
      let these : take n s.actions ≡ front = ap (take n) left.1 ∙ take_at front rest n left.2 in
      asked-over began later done s all power
      ∙ ap (λ (l : List Action). asked_so_far began done later s l) left.1
      ∙ ap (λ (l : List Asked). asked_of began done ++ l) (asked-cut later before s front rest cut ∙ asked-before log later s before front (cut-alike log s.number s.number n true (length front) none (let is = left.2 in omega (arith, is))))
      ∙ ap (λ (l : List Action). asked_so_far began done log s l) (sym these)
  asked-broken Keeping rest none left all power =
      asked-over began (and_break log (cut_at s.number true (length s.actions))) done s all power
      ∙ ap (λ (l : List Asked). asked_of began done ++ l)
      (asked-before log (and_break log (cut_at s.number true (length s.actions))) s before s.actions (cut-alike log s.number s.number (length s.actions) true (length s.actions) none (omega arith)))

-- ---- seconds that ask nothing

-- one more second, and some
from-append : (log : RunLog) (xs ys : List TraceSecond) (before : Before) (w : Went) → w.before ≡ before → asked_from log before (xs ++ ys) ≡ asked_from log before xs ++ asked_from log (fold (went_on log) w xs).before ys
from-append log [] ys _ w is = ap (λ (b : Before). asked_from log b ys) (sym is)
from-append log (x ∷ xs) ys before w is =
    let next : Before = before_next before (second_told log before x) in
    ap (λ (l : List Asked). asked_in log before x ++ l) (from-append log xs ys next (went_on log w x) (ap (λ (b : Before). before_next b (second_told log b x)) is))
    ∙ sym (append_assoc (asked_in log before x) (asked_from log next xs) (asked_from log (fold (went_on log) (went_on log w x) xs).before ys))

pub asked-append : (log : RunLog) (xs ys : List TraceSecond) → asked_of log (xs ++ ys) ≡ asked_of log xs ++ asked_from log (went log xs).before ys
unfolding asked_of went
asked-append log xs ys = from-append log xs ys not_begun.before not_begun refl

-- without actions
pub asks-nothing : (log : RunLog) (before : Before) (s : TraceSecond) → s.actions ≡ [] → asked_in log before s ≡ []
asks-nothing log before s none = by (has_power before s)
  where
    by : (b : Bool) → cond b (asked_by log s 0 s.actions (course_powered log before s)) [] ≡ []
    by true = ap (λ (l : List Action). asked_by log s 0 l (course_powered log before s)) none
    by false = refl

pub idle-asked : (log : RunLog) (before : Before) (ss : List TraceSecond) → All (λ (s : TraceSecond). s.actions ≡ []) ss → asked_from log before ss ≡ []
idle-asked log _ [] all = refl
idle-asked log before (s ∷ ss) all =
    ap (λ (l : List Asked). l ++ asked_from log (before_next before (second_told log before s)) ss) (asks-nothing log before s (All-head (λ (x : TraceSecond). x.actions ≡ []) s ss all))
    ∙ idle-asked log (before_next before (second_told log before s)) ss (All-tail (λ (x : TraceSecond). x.actions ≡ []) s ss all)

driven-idle : (n number speed : ℕ) → All (λ (s : TraceSecond). s.actions ≡ []) (driven n number speed [])
driven-idle zero number speed = All-nil (λ (s : TraceSecond). s.actions ≡ [])
driven-idle (suc n) number speed =
    All-cons (λ (s : TraceSecond). s.actions ≡ []) (record { number = number; has_power = true; speed = speed; actions = [] }) (driven n (number + 1) speed []) refl (driven-idle n (number + 1) speed)

dark-idle : (n number : ℕ) → All (λ (s : TraceSecond). s.actions ≡ []) (dark n number)
dark-idle zero number = All-nil (λ (s : TraceSecond). s.actions ≡ [])
dark-idle (suc n) number = All-cons (λ (s : TraceSecond). s.actions ≡ []) (record { number = number; has_power = false; speed = 0; actions = [] }) (dark n (number + 1)) refl (dark-idle n (number + 1))

-- QUIET SECONDS, and those of an `off` line
pub asked-driven : (log : RunLog) (done : List TraceSecond) (n number speed : ℕ) → asked_of log (done ++ driven n number speed []) ≡ asked_of log done
asked-driven log done n number speed =
    asked-append log done (driven n number speed []) ∙ ap (λ (l : List Asked). asked_of log done ++ l) (idle-asked log (went log done).before (driven n number speed []) (driven-idle n number speed)) ∙ append-nil (asked_of log done)

pub asked-off : (log : RunLog) (done : List TraceSecond) (n number : ℕ) → asked_of log (done ++ dark n number) ≡ asked_of log done
asked-off log done n number =
    asked-append log done (dark n number) ∙ ap (λ (l : List Asked). asked_of log done ++ l) (idle-asked log (went log done).before (dark n number) (dark-idle n number)) ∙ append-nil (asked_of log done)

-- SECONDS WITHOUT POWER, of which the first has actions
pub asked-unlit : (log : RunLog) (done : List TraceSecond) (n number speed : ℕ) (actions : List Action) → has_power (went log done).before (record { number = number; has_power = true; speed = speed; actions = actions }) ≡ false →
    asked_of log (done ++ driven (suc n) number speed actions) ≡ asked_of log done
asked-unlit log done n number speed actions unlit =
    let s : TraceSecond = record { number = number; has_power = true; speed = speed; actions = actions } in
    let before : Before = (went log done).before in
    asked-append log done (driven (suc n) number speed actions)
    ∙ ap (λ (l : List Asked). asked_of log done ++ (l ++ asked_from log (before_next before (second_told log before s)) (driven n (number + 1) speed []))) (second-asks_none log before s unlit)
    ∙ ap (λ (l : List Asked). asked_of log done ++ l) (idle-asked log (before_next before (second_told log before s)) (driven n (number + 1) speed []) (driven-idle n (number + 1) speed))
    ∙ append-nil (asked_of log done)

-- THE LAST SECOND IS CUT OFF behind all of its actions
pub asked-off_cut : (log : RunLog) (front : List TraceSecond) (s : TraceSecond) → cut_in log s.number ≡ None → All (λ (x : TraceSecond). SameAt log (and_break log (cut_at s.number false (length s.actions))) x.number) front →
    asked_of (and_break log (cut_at s.number false (length s.actions))) (front ++ s ∷ []) ≡ asked_of log (front ++ s ∷ [])
asked-off_cut log front s none all =
    let later : RunLog = and_break log (cut_at s.number false (length s.actions)) in
    let before : Before = (went log front).before in
    let same : (went later front).before ≡ before = ap (λ (w : Went). w.before) (went-same log later front all) in
    let alike : TellAlikeBefore log later s.number (length s.actions) = cut-alike log s.number s.number (length s.actions) false (length s.actions) none (omega arith) in
    asked-append later front (s ∷ [])
    ∙ (λ i. asked-alike log later front all i ++ asked_from later (same i) (s ∷ []))
    ∙ ap (λ (l : List Asked). asked_of log front ++ (cond (has_power before s) l [] ++ [])) (asked-before log later s before s.actions alike)
    ∙ sym (asked-append log front (s ∷ []))

-- ---- actions that ask nothing

-- one that is refused, and a card that is pulled out
pub asks-pull : (u n : ℕ) (r : Option SlotFault) (slot : Slot) (slots : Slots) → asks u n r (Pull slot) slots ≡ []
asks-pull u n None slot slots = refl
asks-pull u n (Some fault) slot slots = refl

-- ---- when they were asked

-- those of an action
asks-here : (u n : ℕ) (r : Option SlotFault) (a : Action) (slots : Slots) → All (λ (x : Asked). (x.second ≡ u) × (x.begun ≡ n + 1)) (asks u n r a slots)
asks-here u n (Some r) a slots = All-nil (λ (x : Asked). (x.second ≡ u) × (x.begun ≡ n + 1))
asks-here u n None (Select slot pick) slots = All-nil (λ (x : Asked). (x.second ≡ u) × (x.begun ≡ n + 1))
asks-here u n None (Insert slot card) slots = All-nil (λ (x : Asked). (x.second ≡ u) × (x.begun ≡ n + 1))
asks-here u n None (Withdraw slot) slots = All-nil (λ (x : Asked). (x.second ≡ u) × (x.begun ≡ n + 1))
asks-here u n None (Pull slot) slots = All-nil (λ (x : Asked). (x.second ≡ u) × (x.begun ≡ n + 1))
asks-here u n None (Place slot ending country region) slots = All-nil (λ (x : Asked). (x.second ≡ u) × (x.begun ≡ n + 1))
asks-here u n None (Manual slot pick minute) slots = by (in_slot slots slot)
  where
    by : (q : Option Sitting) → All (λ (x : Asked). (x.second ≡ u) × (x.begun ≡ n + 1)) (map (λ x. record { second = u; begun = n + 1; slot = slot; sitting = x; pick = pick; minute = minute_on u minute }) (sitting_in q))
    by None = All-nil (λ (x : Asked). (x.second ≡ u) × (x.begun ≡ n + 1))
    by (Some x) = all-one (λ (y : Asked). (y.second ≡ u) × (y.begun ≡ n + 1)) (record { second = u; begun = n + 1; slot = slot; sitting = x; pick = pick; minute = minute_on u minute }) (refl, refl)

-- those of some actions
by-here : (log : RunLog) (s : TraceSecond) (n : ℕ) (acts : List Action) (c : Course) → All (λ (x : Asked). (x.second ≡ s.number) × (x.begun ≤ n + length acts)) (asked_by log s n acts c)
by-here log s n [] c = All-nil (λ (x : Asked). (x.second ≡ s.number) × (x.begun ≤ n + 0))
by-here log s n (a ∷ acts) c =
    All-append (λ (x : Asked). (x.second ≡ s.number) × (x.begun ≤ n + length (a ∷ acts))) (cond (begins (cut_in log s.number) n) (asks s.number n (refusal c.slots s.speed a) a c.slots) []) (asked_by log s (n + 1) acts (acted log s n a c))
    (first (begins (cut_in log s.number) n))
    (All-weaker (λ (x : Asked). (x.second ≡ s.number) × (x.begun ≤ n + 1 + length acts)) (λ (x : Asked). (x.second ≡ s.number) × (x.begun ≤ n + length (a ∷ acts))) (λ x h. (h.0, let le = h.1 in omega (arith, le)))
    (asked_by log s (n + 1) acts (acted log s n a c)) (by-here log s (n + 1) acts (acted log s n a c)))
  where
    first : (b : Bool) → All (λ (x : Asked). (x.second ≡ s.number) × (x.begun ≤ n + length (a ∷ acts))) (cond b (asks s.number n (refusal c.slots s.speed a) a c.slots) [])
    first true = All-weaker (λ (x : Asked). (x.second ≡ s.number) × (x.begun ≡ n + 1)) (λ (x : Asked). (x.second ≡ s.number) × (x.begun ≤ n + length (a ∷ acts))) (λ x h. (h.0, let is = h.1 in omega (arith, is)))
        (asks s.number n (refusal c.slots s.speed a) a c.slots) (asks-here s.number n (refusal c.slots s.speed a) a c.slots)
    first false = All-nil (λ (x : Asked). (x.second ≡ s.number) × (x.begun ≤ n + length (a ∷ acts)))

in-here : (log : RunLog) (before : Before) (s : TraceSecond) → All (λ (x : Asked). x.second ≡ s.number) (asked_in log before s)
in-here log before s = by (has_power before s)
  where
    by : (b : Bool) → All (λ (x : Asked). x.second ≡ s.number) (cond b (asked_by log s 0 s.actions (course_powered log before s)) [])
    by true = All-weaker (λ (x : Asked). (x.second ≡ s.number) × (x.begun ≤ 0 + length s.actions)) (λ (x : Asked). x.second ≡ s.number) (λ x h. h.0) (asked_by log s 0 s.actions (course_powered log before s)) (by-here log s 0 s.actions (course_powered log before s))
    by false = All-nil (λ (x : Asked). x.second ≡ s.number)

from-early : (log : RunLog) (before : Before) (ss : List TraceSecond) (n : ℕ) → All (λ (s : TraceSecond). s.number < n) ss → All (λ (x : Asked). x.second < n) (asked_from log before ss)
from-early log before [] n all = All-nil (λ (x : Asked). x.second < n)
from-early log before (s ∷ ss) n all =
    let here = All-head (λ (x : TraceSecond). x.number < n) s ss all in
    All-append (λ (x : Asked). x.second < n) (asked_in log before s) (asked_from log (before_next before (second_told log before s)) ss)
    (All-weaker (λ (x : Asked). x.second ≡ s.number) (λ (x : Asked). x.second < n) (λ x is. omega (arith, is, here)) (asked_in log before s) (in-here log before s))
    (from-early log (before_next before (second_told log before s)) ss n (All-tail (λ (x : TraceSecond). x.number < n) s ss all))

-- in an earlier second, or in this one, behind no more of its actions
abbrev pub IsAskedBy : (second begun : ℕ) → Asked → Type 0
IsAskedBy u n x = (x.second < u) ⊎ ((x.second ≡ u) × (x.begun ≤ n))

pub asked-by_now : (began : RunLog) (done : List TraceSecond) (log : RunLog) (s : TraceSecond) (front : List Action) → All (λ (x : TraceSecond). x.number < s.number) done → All (IsAskedBy s.number (length front)) (asked_so_far began done log s front)
unfolding asked_of
asked-by_now began done log s front all =
    All-append (IsAskedBy s.number (length front)) (asked_from began not_begun.before done) (asked_to log (went began done).before s front)
    (All-weaker (λ (x : Asked). x.second < s.number) (IsAskedBy s.number (length front)) (λ x lt. inl lt) (asked_from began not_begun.before done) (from-early began not_begun.before done s.number all))
    (All-weaker (λ (x : Asked). (x.second ≡ s.number) × (x.begun ≤ 0 + length front)) (IsAskedBy s.number (length front)) (λ x h. inr (h.0, let le = h.1 in omega (arith, le))) (asked_to log (went began done).before s front)
    (by-here log s 0 front (course_powered log (went began done).before s)))

-- so were those of them that were done for a card
pub done-by_now : (c : Card) (stops : List Refused) (asked : List Asked) (u n : ℕ) → All (IsAskedBy u n) asked → All (IsAskedBy u n) (done_for c stops asked)
done-by_now c stops asked u n all =
    All-filter (λ (a : Asked). not (is_stopped (stops_of stops) a)) (IsAskedBy u n) (filter (λ (a : Asked). same_card c a.sitting.card) asked) (All-filter (λ (a : Asked). same_card c a.sitting.card) (IsAskedBy u n) asked all)

-- ---- whole seconds of a run

-- THE SECONDS BEFORE ONE are told alike by its lines
pub same-seconds : (from : ℕ) (done : List TraceSecond) (p : Progress) (later : RunLog) (s : TraceSecond) → AreInOrder from done → p.next ≡ from + length done → GoesOnBy p later s → All (λ (x : TraceSecond). SameAt p.log later x.number) done
same-seconds from done p later s order next g =
    all-before (λ (u : ℕ). SameAt p.log later u) from done order
    (λ u lt. same-at p.log later p.next g.breaks.0 g.breaks.1 g.breaks.2 g.finds.0 g.finds.1 g.finds.2 u (other-number p.next u (omega (arith, lt, next))))

-- one that is told with power has it
pub lit-powers : (log : RunLog) (before : Before) (s : TraceSecond) → (second_told log before s).lit ≡ true → has_power before s ≡ true
lit-powers log before s lit = by (has_power before s) refl
  where
    by : (b : Bool) → has_power before s ≡ b → has_power before s ≡ true
    by true is = is
    by false is =
        let dark_ : (second_told log before s).lit ≡ false = rw is refl in
        let clash : true ≡ false = sym lit ∙ dark_ in
        absurd (cc)

pub next-powers : (began later : RunLog) (done : List TraceSecond) (s : TraceSecond) → All (λ (x : TraceSecond). SameAt began later x.number) done → (next_told later done s).lit ≡ true → has_power (went began done).before s ≡ true
next-powers began later done s all lit = subst (λ (w : Went). has_power w.before s ≡ true) (went-same began later done all) (lit-powers later (went later done).before s lit)

-- WHAT WAS FOUND KEPT changes nothing of it
pub asked-known : (log : RunLog) (i k from : ℕ) (done : List TraceSecond) → AreInOrder from done → asked_of (found_log i k log) done ≡ asked_of log done
asked-known log i k from done order = asked-alike log (found_log i k log) done (all-before (λ (u : ℕ). SameAt log (found_log i k log) u) from done order (λ u lt. same-found log i k u))

-- nor do refusals
pub asked-refused : (log later : RunLog) (from : ℕ) (done : List TraceSecond) → AreInOrder from done → later.breaks ≡ log.breaks → later.finds ≡ log.finds → asked_of later done ≡ asked_of log done
asked-refused log later from done order breaks finds = asked-alike log later done (all-before (λ (u : ℕ). SameAt log later u) from done order (λ u lt. refused-at log later breaks finds u))

-- an earlier cut is none of a second
none-cut : (log : RunLog) (cuts next u : ℕ) → BreaksBefore cuts next log.breaks → cuts ≤ u → cut_in log u ≡ None
none-cut log cuts next u before le = by (cut_in log u) refl
  where
    by : (q : Option ℕ) → cut_in log u ≡ q → cut_in log u ≡ None
    by None is = is
    by (Some n) is =
        let told : tells_cut u log.breaks ≡ true = tells-cut log.breaks u n (sym (cut-by log u) ∙ is) in
        let clash : true ≡ false = sym told ∙ tells-none cuts next log.breaks u before le in
        absurd (cc)

-- THE LAST SECOND OF A RUN WITH POWER is cut off
pub asked-cut_off : (log : RunLog) (from : ℕ) (done : List TraceSecond) (begun next : ℕ) → HadActions done begun → AreInOrder from done → next ≡ from + length done → BreaksBefore (next - 1) next log.breaks →
    asked_of (and_break log (cut_at (next - 1) false begun)) done ≡ asked_of log done
asked-cut_off log from done begun next had order is before =
    subst (λ (b : ℕ). asked_of (and_break log (cut_at (next - 1) false b)) done ≡ asked_of log done) had.count
    (subst (λ (u : ℕ). asked_of (and_break log (cut_at u false (length had.actions))) done ≡ asked_of log done) number
    (subst (λ (ss : List TraceSecond). asked_of (and_break log (cut_at had.number false (length had.actions))) ss ≡ asked_of log ss) (sym had.are)
    (asked-off_cut log had.before last_one none all)))
  where
    last_one : TraceSecond
    last_one = record { number = had.number; has_power = true; speed = had.speed; actions = had.actions }

    parts : AreInOrder from had.before × (had.number ≡ from + length had.before)
    parts = order-parts from had.before last_one (subst (AreInOrder from) had.are order)

    number : had.number ≡ next - 1
    number =
        let count = ap (λ (ss : List TraceSecond). length ss) had.are in
        let more = length-append had.before (last_one ∷ []) in
        let place = parts.1 in
        omega (arith, is, count, more, place)

    none : cut_in log had.number ≡ None
    none = none-cut log (next - 1) next had.number before (omega (arith, number))

    all : All (λ (x : TraceSecond). SameAt log (and_break log (cut_at had.number false (length had.actions))) x.number) had.before
    all = all-before (λ (u : ℕ). SameAt log (and_break log (cut_at had.number false (length had.actions))) u) from had.before parts.0
        (λ u lt. same-at log (and_break log (cut_at had.number false (length had.actions))) had.number (cut_at had.number false (length had.actions) ∷ []) refl (refl, tt) [] (sym (append-nil log.finds)) tt u (other-number had.number u (let place = parts.1 in omega (arith, lt, place))))
