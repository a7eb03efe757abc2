-- How a second begins, goes on with an action, and reaches its keeping.
use Rattle.std.proofs.Common.{◌≡◌, ℕ, zero, suc, ◌+◌, ◌<◌, ◌≤◌, Bool, true, false, cond, not, ◌&&◌, ◌||◌, Option, Some, None, List, [], ◌∷◌, ◌++◌, length, map, filter, nat_eq, is_some, refl, ap, sym, subst, ◌∙◌, arith, append-nil, append_assoc, length-append}
use Rattle.std.specs.Prelude.{slice_get}
use Rattle.std.specs.List.{AllByRecursion, list_any}
use Rattle.std.proofs.lemmas.Bool.Decides.{nat_tests}
use Rattle.activity_codec.specs.declared.values.Slot.{Slot}
use Rattle.activity_codec.specs.Activity.{same_slot}
use Rattle.trace_model.specs.declared.Action.{Action}
use Rattle.trace_model.specs.Trace.{TraceSecond}
use Rattle.minute_model.specs.declared.Rule.{Rule}
use Rattle.log_model.specs.declared.lines.Break.{Break}
use Rattle.log_model.specs.declared.lines.Break.TheVariants.{Cut, Tear}
use Rattle.log_model.specs.declared.lines.Find.{Find}
use Rattle.log_model.specs.declared.lines.Refused.{Refused}
use Rattle.log_model.specs.Log.{RunLog, Phase, In, Keeping, same_phase, phase_of, cut_of, cut_in, tears_here, is_torn_in, found_in}
use Rattle.log_model.specs.Slots.{refusal}
use Rattle.log_model.specs.Causes.{second_of}
use Rattle.log_model.specs.Course.{Course, Visit, Before, both_told, unmoved, moved_by, answered, fresh, went}
use Rattle.event_model.specs.Events.{course_by}
use Rattle.history_model.specs.Presence.{Start}
use Rattle.run_unit_course.specs.Lines.{log_of}
use Rattle.run_unit_course.specs.Followed.{Lit, cuts_from}
use Rattle.run_unit_course.specs.Turn.{begins_with}
use Rattle.run_course.specs.Moments.{and_break, and_find, and_refused, finds_here}
use Rattle.run_course.specs.Followed.{Progress, IsBreakBefore, BookFollowsRun}
use Rattle.run_course.specs.Seconds.{GoesOnBy}
use Rattle.run_course.proofs.Lookups.{cut-by, torn-by, found-by, cut-first, cut-nothing, break-more, find-more, refusal-more}
use Rattle.run_course.proofs.Moments.{both-still}
use Rattle.run_course.proofs.Steps.{cuts-bound, with-supply}
use Rattle.run_course.proofs.Told.{lit-starts}
use Rattle.run_course.proofs.Within.{action-moment}
use Rattle.run_course.specs.Reached.{IsBehind, course_with, moved_with, begun_at, moved_at, course_at, IsUpTo, IsTearAt, IsFindAt}
use Rattle.run_course.specs.Lines.{ASecondIsReached, AnActionIsReached, TheKeepingIsReached, LinesOfTheMoment}

-- ACTIONS of a second
get-front : (front : List Action) (a : Action) (rest : List Action) → slice_get (front ++ a ∷ rest) (length front) ≡ Some a
get-front [] a rest = refl
get-front (x ∷ front) a rest = get-front front a rest

record IsSplit (xs : List Action) (m : ℕ) : Type 0 where
  front : List Action
  a : Action
  rest : List Action
  are : xs ≡ front ++ a ∷ rest
  count : length front ≡ m

split : (xs : List Action) (m : ℕ) → m < length xs → IsSplit xs m
split [] m lt = absurd (omega (arith, lt))
split (x ∷ xs) zero lt = record { front = []; a = x; rest = xs; are = refl; count = refl }
split (x ∷ xs) (suc m) lt =
    let s = split xs m (omega (arith, lt)) in
    record { front = x ∷ s.front; a = s.a; rest = s.rest; are = ap (λ (as_ : List Action). x ∷ as_) s.are; count = ap (λ (n : ℕ). suc n) s.count }

-- the course behind so many actions, as a moment
by-front : (log : RunLog) (before : Before) (s : TraceSecond) → cut_in log s.number ≡ None → (front : List Action) (a : Action) (rest : List Action) → s.actions ≡ front ++ a ∷ rest →
    course_by log before s (suc (length front)) ≡ course_at log before s (In (suc (length front)))
by-front log before s none front a rest are =
    let n : ℕ = length front in
    let c : Course = course_by log before s n in
    let more : n + 1 ≡ suc n = omega arith in
    let got : slice_get s.actions n ≡ Some a = ap (λ (as_ : List Action). slice_get as_ n) are ∙ get-front front a rest in
    ap (λ (k : ℕ). course_by log before s k) (sym more)
    ∙ action-moment log before s front a rest are none
    ∙ ap (λ (k : ℕ). both_told log s.number (In k) (moved_by n (refusal c.slots s.speed a) a c.slots) (answered n (refusal c.slots s.speed a) a c)) more
    ∙ ap (λ (o : Option Action). both_told log s.number (In (suc n)) (moved_with n o s.speed c) (course_with n o s.speed c)) (sym got)

pub at-by : (log : RunLog) (before : Before) (s : TraceSecond) → cut_in log s.number ≡ None → (n : ℕ) → n ≤ length s.actions → course_by log before s n ≡ course_at log before s (In n)
at-by log before s none zero le = refl
at-by log before s none (suc m) le =
    let parts = split s.actions m (omega (arith, le)) in
    subst (λ (k : ℕ). course_by log before s (suc k) ≡ course_at log before s (In (suc k))) parts.count (by-front log before s none parts.front parts.a parts.rest parts.are)

-- NOTHING IS TOLD of a later second
not-there : (v u : ℕ) → v < u → nat_eq v u ≡ false
not-there v u lt = grind (arith, nat_tests)

no-cut : (cuts next u : ℕ) (bs : List Break) → AllByRecursion (IsBreakBefore cuts next) bs → cuts ≤ u → cut_in (log_of bs) u ≡ None
no-cut cuts next u [] h le = cut-nothing u
no-cut cuts next u (Cut second kept failed begun ∷ bs) h le =
    cut-first (Cut second kept failed begun) bs u
    ∙ ap (λ (t : Bool). cond (is_some (cond t (Some begun) None)) (cond t (Some begun) None) (cut_in (log_of bs) u)) (not-there second u (let lt = h.0 in omega (arith, lt, le)))
    ∙ no-cut cuts next u bs h.1 le
no-cut cuts next u (Tear second slot failed begun late ∷ bs) h le = cut-first (Tear second slot failed begun late) bs u ∙ no-cut cuts next u bs h.1 le

no-tear : (cuts next u : ℕ) (p : Phase) (slot : Slot) (bs : List Break) → AllByRecursion (IsBreakBefore cuts next) bs → next ≤ u → list_any (tears_here u p slot) bs ≡ false
no-tear cuts next u p slot [] h le = refl
no-tear cuts next u p slot (Cut second kept failed begun ∷ bs) h le = no-tear cuts next u p slot bs h.1 le
no-tear cuts next u p slot (Tear second at failed begun late ∷ bs) h le =
    ap (λ (t : Bool). (t && same_phase (phase_of begun late) p && same_slot at slot) || list_any (tears_here u p slot) bs) (not-there second u (let lt = h.0 in omega (arith, lt, le)))
    ∙ no-tear cuts next u p slot bs h.1 le

no-find : (next u : ℕ) (p : Phase) (slot : Slot) (fs : List Find) → AllByRecursion (λ (f : Find). f.second < next) fs → next ≤ u → filter (finds_here u p slot) fs ≡ []
no-find next u p slot [] h le = refl
no-find next u p slot (f ∷ fs) h le =
    ap (λ (t : Bool). cond (t && same_phase (In f.begun) p && same_slot f.slot slot) (f ∷ filter (finds_here u p slot) fs) (filter (finds_here u p slot) fs)) (not-there f.second u (let lt = h.0 in omega (arith, lt, le)))
    ∙ no-find next u p slot fs h.1 le

-- of the second that comes next a log tells nothing
pub record TellsNothing (log : RunLog) (u : ℕ) : Type 0 where
  pub cut : cut_in log u ≡ None
  pub torn : (p : Phase) (slot : Slot) → is_torn_in log u p slot ≡ false
  pub found : (p : Phase) (slot : Slot) → found_in log u p slot ≡ []

pub nothing-told : (rule : Rule) (start : Start) (from first : ℕ) (done : List TraceSecond) (p : Progress) → BookFollowsRun rule start from first done p → (u : ℕ) → p.next ≤ u → TellsNothing p.log u
nothing-told rule start from first done p f u le = record {
  cut = cut-by p.log u ∙ no-cut (cuts_from p.supply p.next) p.next u p.log.breaks f.lines.breaks (let b = cuts-bound p.supply p.next in omega (arith, b, le));
  torn = λ ph slot. torn-by p.log u ph slot ∙ no-tear (cuts_from p.supply p.next) p.next u ph slot p.log.breaks f.lines.breaks le;
  found = λ ph slot. found-by p.log u ph slot ∙ ap (map (λ (f : Find). f.verdict)) (no-find p.next u ph slot p.log.finds f.lines.finds le);
}

abbrev pub goes-itself : (p : Progress) (s : TraceSecond) → s.number ≡ p.next → s.has_power ≡ true → GoesOnBy p p.log s
goes-itself p s is power = record { number = is; given = power; breaks = ([], sym (append-nil p.log.breaks), tt); finds = ([], sym (append-nil p.log.finds), tt) }

-- THE SECOND BEGINS
pub second-reached : ASecondIsReached
second-reached rule start from first done p f span is s number power =
    let before : Before = (went p.log done).before in
    let none : TellsNothing p.log s.number = nothing-told rule start from first done p f s.number (omega (arith, number)) in
    let starts : not before.running ≡ begins_with span = lit-starts span before p.next (with-supply rule start from first done p (Lit span) is f).power in (
      record {
        goes = goes-itself p s number power;
        up_to = record { uncut = none.cut; torn = λ ph slot behind. none.torn ph slot; found = λ ph slot behind. none.found ph slot };
        is = omega arith;
      },
      both-still p.log s.number (In 0) (unmoved (not before.running)) (fresh (not before.running) before.slots) (none.torn (In 0)) (none.found (In 0))
          ∙ ap (λ (b : Bool). fresh b before.slots) starts,
    )

-- AN ACTION
behind-more : (n : ℕ) (p : Phase) → IsBehind (In (suc n)) p → IsBehind (In n) p
behind-more n (In m) lt = omega (arith, lt)
behind-more n Keeping h = tt

longer : (front : List Action) (a : Action) (rest : List Action) → suc (length front) ≤ length (front ++ a ∷ rest)
longer front a rest = let n = length-append front (a ∷ rest) in omega (arith, n)

pub action-reached : AnActionIsReached
action-reached p before s log front a rest are r =
    let n : ℕ = length front in
    let c : Course = course_by log before s n in
    let got : slice_get s.actions n ≡ Some a = ap (λ (as_ : List Action). slice_get as_ n) are ∙ get-front front a rest in
    let at : c ≡ course_at log before s (In n) = at-by log before s r.up_to.uncut n r.is in (
      record {
        goes = r.goes;
        up_to = record {
          uncut = r.up_to.uncut;
          torn = λ ph slot behind. r.up_to.torn ph slot (behind-more n ph behind);
          found = λ ph slot behind. r.up_to.found ph slot (behind-more n ph behind);
        };
        is = subst (λ (as_ : List Action). suc n ≤ length as_) (sym are) (longer front a rest);
      },
      both-still log s.number (In (suc n)) (moved_at log before s (In (suc n))) (begun_at log before s (In (suc n))) (λ slot. r.up_to.torn (In (suc n)) slot (omega arith)) (λ slot. r.up_to.found (In (suc n)) slot (omega arith))
          ∙ ap (λ (o : Option Action). course_with n o s.speed c) got
          ∙ ap (λ (d : Course). answered n (refusal d.slots s.speed a) a d) at,
      ap (λ (o : Option Action). moved_with n o s.speed c) got ∙ ap (λ (d : Course). moved_by n (refusal d.slots s.speed a) a d.slots) at,
    )

-- THE KEEPING
pub keeping-reached : TheKeepingIsReached
keeping-reached p before s log r = (
  record {
    goes = r.goes;
    up_to = record { uncut = r.up_to.uncut; torn = λ ph slot behind. absurd behind; found = λ ph slot behind. absurd behind };
    is = tt;
  },
  both-still log s.number Keeping (unmoved false) (course_by log before s (length s.actions)) (λ slot. r.up_to.torn Keeping slot tt) (λ slot. r.up_to.found Keeping slot tt)
      ∙ at-by log before s r.up_to.uncut (length s.actions) r.is,
)

-- LINES OF A MOMENT
pub other-phase : (at p : Phase) → IsBehind at p → same_phase at p ≡ false
other-phase (In n) (In m) lt = grind (arith, nat_tests)
other-phase (In n) Keeping h = refl
other-phase Keeping p h = absurd h

pub push-each : {X : Type 0} (P : X → Type 0) (xs : List X) (x : X) → AllByRecursion P xs → P x → AllByRecursion P (xs ++ x ∷ [])
push-each P [] x h here = (here, tt)
push-each P (y ∷ xs) x h here = (h.0, push-each P xs x h.1 here)

more-break : (p : Progress) (s : TraceSecond) (log : RunLog) (b : Break) → GoesOnBy p log s → second_of b ≡ s.number → GoesOnBy p (and_break log b) s
more-break p s log b g is = record {
  number = g.number;
  given = g.given;
  breaks = (
    g.breaks.0 ++ b ∷ [],
    ap (λ (bs : List Break). bs ++ b ∷ []) g.breaks.1 ∙ append_assoc p.log.breaks g.breaks.0 (b ∷ []),
    push-each (λ (b : Break). second_of b ≡ p.next) g.breaks.0 b g.breaks.2 (is ∙ g.number),
  );
  finds = g.finds;
}

more-find : (p : Progress) (s : TraceSecond) (log : RunLog) (f : Find) → GoesOnBy p log s → f.second ≡ s.number → GoesOnBy p (and_find log f) s
more-find p s log f g is = record {
  number = g.number;
  given = g.given;
  breaks = g.breaks;
  finds = (
    g.finds.0 ++ f ∷ [],
    ap (λ (fs : List Find). fs ++ f ∷ []) g.finds.1 ∙ append_assoc p.log.finds g.finds.0 (f ∷ []),
    push-each (λ (f : Find). f.second ≡ p.next) g.finds.0 f g.finds.2 (is ∙ g.number),
  );
}

no-others : (t b : Bool) → b ≡ false → (t && b) ≡ false
no-others true b is = is
no-others false b is = refl

and-false : (t b : Bool) → t ≡ false → (t && b) ≡ false
and-false true b is = absurd (cc)
and-false false b is = refl

either-false : (x y : Bool) → x ≡ false → y ≡ false → (x || y) ≡ false
either-false x y a b = ap (λ (t : Bool). t || y) a ∙ b

pub tear-up_to : (log : RunLog) (s : TraceSecond) (at : Phase) (slot : Slot) (failed : Bool) (b : Break) → IsTearAt s at slot failed b → IsUpTo log s.number at → IsUpTo (and_break log b) s.number at
tear-up_to log s at slot failed b is up = record {
  uncut = (break-more log b s.number).cut
      ∙ ap (λ (o : Option ℕ). cond (is_some o) o (cut_of s.number b)) up.uncut
      ∙ ap (cut_of s.number) is.2;
  torn = λ ph other behind. (break-more log b s.number).torn ph other
      ∙ either-false (is_torn_in log s.number ph other) (tears_here s.number ph other b) (up.torn ph other behind)
      (ap (tears_here s.number ph other) is.2
      ∙ and-false (nat_eq s.number s.number && same_phase (phase_of is.0 is.1) ph) (same_slot slot other)
      (no-others (nat_eq s.number s.number) (same_phase (phase_of is.0 is.1) ph) (ap (λ (q : Phase). same_phase q ph) is.3 ∙ other-phase at ph behind)));
  found = λ ph other behind. (break-more log b s.number).found ph other ∙ up.found ph other behind;
}

pub find-up_to : (log : RunLog) (s : TraceSecond) (at : Phase) (f : Find) → IsFindAt s at f → IsUpTo log s.number at → IsUpTo (and_find log f) s.number at
find-up_to log s at f is up = record {
  uncut = (find-more log f s.number).cut ∙ up.uncut;
  torn = λ ph other behind. (find-more log f s.number).torn ph other ∙ up.torn ph other behind;
  found = λ ph other behind. (find-more log f s.number).found ph other
      ∙ ap (λ (vs : List _). vs ++ cond (finds_here s.number ph other f) (f.verdict ∷ []) []) (up.found ph other behind)
      ∙ ap (λ (t : Bool). cond t (f.verdict ∷ []) [])
      (and-false (nat_eq f.second s.number && same_phase (In f.begun) ph) (same_slot f.slot other)
      (no-others (nat_eq f.second s.number) (same_phase (In f.begun) ph) (ap (λ (q : Phase). same_phase q ph) is.begun ∙ other-phase at ph behind)));
}

pub refusal-up_to : (log : RunLog) (u : ℕ) (at : Phase) (r : Refused) → IsUpTo log u at → IsUpTo (and_refused log r) u at
refusal-up_to log u at r up = record {
  uncut = (refusal-more log (log.refused ++ r ∷ []) u).cut ∙ up.uncut;
  torn = λ ph other behind. (refusal-more log (log.refused ++ r ∷ []) u).torn ph other ∙ up.torn ph other behind;
  found = λ ph other behind. (refusal-more log (log.refused ++ r ∷ []) u).found ph other ∙ up.found ph other behind;
}

pub lines-reached : LinesOfTheMoment
lines-reached p s at log r = (
  (λ slot failed b is. record { goes = more-break p s log b r.goes (ap second_of is.2); up_to = tear-up_to log s at slot failed b is r.up_to; is = r.is }),
  (λ f is. record { goes = more-find p s log f r.goes is.second; up_to = find-up_to log s at f is r.up_to; is = r.is }),
  (λ x. record {
    goes = record { number = r.goes.number; given = r.goes.given; breaks = r.goes.breaks; finds = r.goes.finds };
    up_to = refusal-up_to log s.number at x r.up_to;
    is = r.is;
  }),
)

-- BEFORE ANY ACTION a card enters only where power comes with the second, and none leaves
not-true : (b : Bool) → not b ≡ true → b ≡ false
not-true true h = absurd (cc)
not-true false h = refl

pub enters-first : (log : RunLog) (before : Before) (s : TraceSecond) (at : Phase) (slot : Slot) → (moved_at log before s at).enters slot ≡ true → at ≡ In 0 → before.running ≡ false
enters-first log before s at slot enters first = not-true before.running (ap (λ (q : Phase). (moved_at log before s q).enters slot) (sym first) ∙ enters)

pub leaves-first : (log : RunLog) (before : Before) (s : TraceSecond) (at : Phase) (slot : Slot) (v : Visit) (vs : List Visit) → (moved_at log before s at).leaving slot ≡ v ∷ vs → at ≡ In 0 → before.running ≡ false
leaves-first log before s at slot v vs leaves first = absurd (let some : [] ≡ v ∷ vs = ap (λ (q : Phase). (moved_at log before s q).leaving slot) (sym first) ∙ leaves in cc)
