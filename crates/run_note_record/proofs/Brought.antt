-- What a line of a moment brings of events.
use Rattle.std.proofs.Common.{◌≡◌, inl, ℕ, zero, suc, ◌<◌, ◌≤◌, true, not, Option, Some, None, List, ◌++◌, map, length, refl, ap, sym, ◌∙◌, arith, append_assoc}
use Rattle.std.specs.Prelude.{flat_map, slice_get}
use Rattle.std.specs.List.{AllByRecursion}
use Rattle.std.proofs.lemmas.List.{map-append}
use Rattle.std.proofs.lemmas.Grind.{flat_map-append}
use Rattle.run_events.specs.activity_codec.declared.values.Slot.{Slot}
use Rattle.run_events.specs.activity_codec.declared.values.Slot.TheVariants.{Driver, CoDriver}
use Rattle.run_devices.specs.trace_model.declared.Action.{Action}
use Rattle.run_devices.specs.trace_model.Trace.{TraceSecond}
use Rattle.run_devices.specs.log_model.declared.lines.Verdict.{Verdict}
use Rattle.run_devices.specs.log_model.Log.{RunLog, Phase, In, Keeping, is_torn_in, found_in}
use Rattle.run_devices.specs.log_model.Slots.{refusal}
use Rattle.run_devices.specs.log_model.Course.{Visit, Course, Before, Moved, has_power, second_told, answered, lit_course}
use Rattle.run_devices.specs.event_model.Events.{Event, Seen, Tearing, course_by, moved_by_action, within_by, seen_by, number_of, found_events, fault_of, torn_in_turn}
use Rattle.run_devices.specs.run_course.Moments.{SameUpTo}
use Rattle.run_devices.proofs.run_course.Moments.{later-lines}
use Rattle.run_devices.specs.run_course.Reached.{IsBehind, IsMoment, IsUpTo, course_with, moved_with, begun_at, moved_at}
use Rattle.run_events.specs.Seconds.{faults_by, found_by}
use Rattle.run_events.proofs.Later.{told-number}
use Rattle.run_note_record.specs.Bringing.{ChoiceBefore}
use Rattle.run_note_record.proofs.Whole.{whole-told}
use Rattle.run_note_record.proofs.Fronts.{IsFormer, turn-front, DifferAt, old-faults, old-found}
use Rattle.run_note_record.proofs.Parts.{outs, finds, both-torn, both-found, all-outs, all-finds, leaving-at, begun-former}

pub lit-course : (log : RunLog) (before : Before) (s : TraceSecond) → has_power before s ≡ true → (second_told log before s).course ≡ lit_course log s (not before.running) before.slots
lit-course log before s power = rw power refl

pub told-speed : (log : RunLog) (before : Before) (s : TraceSecond) → has_power before s ≡ true → (second_told log before s).second.speed ≡ s.speed
told-speed log before s power = rw power refl

behind-low : (k m : ℕ) (at : Phase) → k ≤ m → IsBehind (In m) at → IsBehind (In k) at
behind-low k m (In n) le lt = omega (arith, le, lt)
behind-low k m Keeping le lt = tt

-- TWO LOGS that tell the same of the moments before this one, and nothing of those behind it
pub record SameBefore (log later : RunLog) (u : ℕ) (at : Phase) : Type 0 where
  pub up : IsUpTo log u at
  pub up_later : IsUpTo later u at
  pub torn : (m : ℕ) (slot : Slot) → IsBehind (In m) at → is_torn_in later u (In m) slot ≡ is_torn_in log u (In m) slot
  pub found : (m : ℕ) (slot : Slot) → IsBehind (In m) at → found_in later u (In m) slot ≡ found_in log u (In m) slot

module _ (log later : RunLog) (before : Before) (s : TraceSecond) (at : Phase) (power : has_power before s ≡ true) (is : IsMoment s at) (b : SameBefore log later s.number at) where
  abbrev x : Seen
  x = seen_by log before s

  abbrev y : Seen
  y = seen_by later before s

  same-until : (m : ℕ) → IsBehind (In m) at → SameUpTo log later s.number m
  same-until m behind = record {
    none = b.up.uncut;
    behind = inl b.up_later.uncut;
    torn = λ k slot le. b.torn k slot (behind-low k m at le behind);
    found = λ k slot le. b.found k slot (behind-low k m at le behind);
  }

  pub course-until : (m : ℕ) → IsBehind (In m) at → course_by later before s m ≡ course_by log before s m
  course-until m behind = later-lines log later before s m (same-until m behind)

  begun-as : (p : Phase) → ((m : ℕ) → IsBehind (In m) p → course_by later before s m ≡ course_by log before s m) → begun_at later before s p ≡ begun_at log before s p
  begun-as (In zero) same = refl
  begun-as (In (suc n)) same = ap (course_with n (slice_get s.actions n) s.speed) (same n (omega arith))
  begun-as Keeping same = same (length s.actions) tt

  moved-as : (p : Phase) → ((m : ℕ) → IsBehind (In m) p → course_by later before s m ≡ course_by log before s m) → moved_at later before s p ≡ moved_at log before s p
  moved-as (In zero) same = refl
  moved-as (In (suc n)) same = ap (moved_with n (slice_get s.actions n) s.speed) (same n (omega arith))
  moved-as Keeping same = refl

  pub begun-same : begun_at later before s at ≡ begun_at log before s at
  begun-same = begun-as at course-until

  pub moved-same : moved_at later before s at ≡ moved_at log before s at
  moved-same = moved-as at course-until

  action-same : (n : ℕ) (o : Option Action) → course_by later before s n ≡ course_by log before s n → moved_by_action later before s n o ≡ moved_by_action log before s n o
  action-same n None same = ap (λ (c : Course). c.slots) same
  action-same n (Some a) same = ap (λ (c : Course). (answered n (refusal c.slots s.speed a) a c).slots) same

  -- the slots as an action has moved the cards, up to this moment
  pub within-same : (m : ℕ) → ((k : ℕ) → k < m → IsBehind (In k) at) → within_by later before s m ≡ within_by log before s m
  within-same zero behind = refl
  within-same (suc n) behind = action-same n (slice_get s.actions n) (course-until n (behind n (omega arith)))

  abbrev start : Course
  start = begun_at log before s at

  abbrev moves : Moved
  moves = moved_at log before s at

  -- all tears and finds so far
  pub torn-now : (second_told log before s).course.torn ≡ start.torn ++ (outs log s.number at moves Driver start ++ outs log s.number at moves CoDriver start)
  torn-now = ap (λ (c : Course). c.torn) (lit-course log before s power) ∙ (whole-told log before s at b.up is).torn ∙ both-torn log s.number at moves start

  pub found-now : (second_told log before s).course.found ≡ start.found ++ (finds log s.number at moves Driver start ++ finds log s.number at moves CoDriver start)
  found-now = ap (λ (c : Course). c.found) (lit-course log before s power) ∙ (whole-told log before s at b.up is).found ∙ both-found log s.number at moves start

  pub torn-later : (second_told later before s).course.torn ≡ start.torn ++ (outs later s.number at moves Driver start ++ outs later s.number at moves CoDriver start)
  torn-later =
      ap (λ (c : Course). c.torn) (lit-course later before s power) ∙ (whole-told later before s at b.up_later is).torn ∙ both-torn later s.number at (moved_at later before s at) (begun_at later before s at)
      ∙ (λ i. (begun-same i).torn ++ (outs later s.number at (moved-same i) Driver (begun-same i) ++ outs later s.number at (moved-same i) CoDriver (begun-same i)))

  pub found-later : (second_told later before s).course.found ≡ start.found ++ (finds later s.number at moves Driver start ++ finds later s.number at moves CoDriver start)
  found-later =
      ap (λ (c : Course). c.found) (lit-course later before s power) ∙ (whole-told later before s at b.up_later is).found ∙ both-found later s.number at (moved_at later before s at) (begun_at later before s at)
      ∙ (λ i. (begun-same i).found ++ (finds later s.number at (moved-same i) Driver (begun-same i) ++ finds later s.number at (moved-same i) CoDriver (begun-same i)))

  module _ (t t' : Tearing) (choice : ChoiceBefore t t' s.number at) where
    number-x : number_of x ≡ s.number
    number-x = told-number log before s

    number-y : number_of y ≡ s.number
    number-y = told-number later before s

    pub differ : DifferAt at start.torn start.found (outs log s.number at moves Driver start ++ outs log s.number at moves CoDriver start) (outs later s.number at moves Driver start ++ outs later s.number at moves CoDriver start)
        (finds log s.number at moves Driver start ++ finds log s.number at moves CoDriver start) (finds later s.number at moves Driver start ++ finds later s.number at moves CoDriver start) t t' x y
    differ = record {
      number = number-y ∙ sym number-x;
      speed = told-speed later before s power ∙ sym (told-speed log before s power);
      torn_x = torn-now;
      torn_y = torn-later;
      found_x = found-now;
      found_y = found-later;
      xs_here = all-outs log s.number at moves (leaving-at log before s at) start;
      ys_here = all-outs later s.number at moves (leaving-at log before s at) start;
      fs_here = all-finds log s.number at moves start;
      gs_here = all-finds later s.number at moves start;
      torn_before = (begun-former log before s at b.up.uncut).torn;
      found_before = (begun-former log before s at b.up.uncut).found;
      after = λ m behind. ap (λ (c : Course). c.slots) (course-until m behind);
      within = λ m behind. within-same m (λ k lt. behind-low k m at (omega (arith, lt)) behind);
      by_gap = λ other slot. ap (λ (n : ℕ). t'.by_gap n slot) number-y ∙ choice.by_gap other slot ∙ sym (ap (λ (n : ℕ). t.by_gap n slot) number-x);
      driver_first = λ m other. ap (λ (n : ℕ). t'.driver_first n (suc m)) number-y ∙ choice.driver_first m other ∙ sym (ap (λ (n : ℕ). t.driver_first n (suc m)) number-x);
    }

-- ---- MORE OF A TYPE, by what this moment tells
module _ (at : Phase) (front : List Visit) (found : List (Visit × Verdict)) (xs ys : List Visit) (fs gs : List (Visit × Verdict)) (t t' : Tearing) (x y : Seen) (d : DifferAt at front found xs ys fs gs t t' x y) (log later : RunLog) where
  faults-parts : (u : Tearing) (l : RunLog) (z : Seen) (vs : List Visit) → z.told.course.torn ≡ front ++ vs → AllByRecursion (λ (v : Visit). v.phase ≡ at) vs →
      faults_by u l z ≡ map (fault_of u l z) (torn_in_turn u z front) ++ map (fault_of u l z) (torn_in_turn u z vs)
  faults-parts u l z vs are here =
      ap (λ (ws : List Visit). map (fault_of u l z) (torn_in_turn u z ws)) are
      ∙ ap (map (fault_of u l z)) (turn-front u z at front vs d.torn_before here)
      ∙ map-append (fault_of u l z) (torn_in_turn u z front) (torn_in_turn u z vs)

  pub faults-then : (more : List Event) → map (fault_of t' later y) (torn_in_turn t' y ys) ≡ map (fault_of t log x) (torn_in_turn t x xs) ++ more → faults_by t' later y ≡ faults_by t log x ++ more
  faults-then more are =
      let old : List Event = map (fault_of t log x) (torn_in_turn t x front) in
      faults-parts t' later y ys d.torn_y d.ys_here
      ∙ (λ i. old-faults at front found xs ys fs gs t t' x y d log later i ++ are i)
      ∙ sym (append_assoc old (map (fault_of t log x) (torn_in_turn t x xs)) more)
      ∙ ap (λ (es : List Event). es ++ more) (sym (faults-parts t log x xs d.torn_x d.xs_here))

  abbrev events_in : (kind : ℕ) (own : ℕ → Visit → ℕ) (u : Tearing) (z : Seen) → Visit × Verdict → List Event
  events_in kind own u z f = found_events kind (own (number_of z) f.0) u z f.0 f.1

  pub found-then : (kind : ℕ) (own own' : ℕ → Visit → ℕ) → ((v : Visit) → IsFormer at v → own' (number_of y) v ≡ own (number_of x) v) → (more : List Event) →
      flat_map (events_in kind own' t' y) gs ≡ flat_map (events_in kind own t x) fs ++ more → found_by kind own' t' y ≡ found_by kind own t x ++ more
  found-then kind own own' same more are =
      let old : List Event = flat_map (events_in kind own t x) found in
      ap (flat_map (events_in kind own' t' y)) d.found_y
      ∙ flat_map-append (events_in kind own' t' y) found gs
      ∙ (λ i. old-found at front found xs ys fs gs t t' x y d kind own own' same found d.found_before i ++ are i)
      ∙ sym (append_assoc old (flat_map (events_in kind own t x) fs) more)
      ∙ ap (λ (es : List Event). es ++ more) (sym (ap (flat_map (events_in kind own t x)) d.found_x ∙ flat_map-append (events_in kind own t x) found fs))
