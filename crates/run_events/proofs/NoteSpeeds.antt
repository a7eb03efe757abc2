-- What is noted of events leaves the ring of detailed speed.
use Rattle.std.proofs.Common.{◌≡◌, ◌∙◌, inl, inr, ℕ, ◌+◌, ◌<◌, ◌≤◌, Bool, true, false, cond, Option, Some, None, List, length, refl, ap, sym, subst, arith}
use Rattle.std.specs.Prelude.{◌==◌, nat_lt}
use Rattle.std.specs.Int.{to_be_bytes, w32}
use Rattle.card_layout.specs.Images.{bytes_at, number_at, put}
use Rattle.card_layout.proofs.Images.{put_outside}
use Rattle.tach_media.specs.Medium.{State, IsCoherent, LeavesOnly}
use Rattle.tach_media.proofs.Runs.{weaken}
use Rattle.gated_ring.specs.Ring.{size_of, place_of}
use Rattle.gated_ring.specs.Change.{IsAdding}
use Rattle.event_model.specs.declared.kinds.TheConstants.{OVER_SPEEDING, DRIVING_WITHOUT_CARD}
use Rattle.message_model.specs.Records.{insertion_ring, unit_place_ring}
use Rattle.note_model.specs.Tables.{table_of}
use Rattle.tacho_types.specs.declared.numbers.TimeReal.{TimeReal}
use Rattle.tacho_types.specs.declared.numbers.Odometer.{Odometer}
use Rattle.unit_model.specs.Image.{IsUnit}
use Rattle.unit_model.proofs.Sized.{unit_sized}
use Rattle.unit_notes.specs.Entries.{fault_bytes, over_bytes}
use Rattle.unit_notes.specs.Noting.{IsNotingEvent, IsEventNoted, IsNotingOver, IsWithdrawing, with_first, with_one_more}
use Rattle.unit_notes.proofs.Types.{table_inside}
use Rattle.run_speeds.specs.Speeds.{HasSameSpeeds, LeavesSpeeds}
use Rattle.run_speeds.proofs.Leaving.{leaves-moments, same-before}
use Rattle.run_events.specs.declared.watch.Ended.{Ended}
use Rattle.run_events.specs.Entries.{entry_of, number_or_no_card}
use Rattle.run_events.specs.Noting.{IsBareNoted, IsNotingBare, IsNotingFast, AreBeingNoted}
use Rattle.run_events.specs.Watching.{BareWith, OverWith, bare_ended, over_ended}

pub same-speeds : (x c : List ℕ) → c ≡ x → HasSameSpeeds x c
same-speeds x c is = ap (λ (l : List ℕ). bytes_at l 2393644 92164) is

pub speeds-then : (x y c : List ℕ) → HasSameSpeeds x y → HasSameSpeeds y c → HasSameSpeeds x c
speeds-then x y c first next = next ∙ first

-- ---- an event or a fault, and an over speeding

table-below : (kind : ℕ) → (table_of kind).base + size_of (table_of kind) ≤ 2393644
table-below kind = let inside = (table_inside kind).1 in omega (arith, inside)

pub event-speeds : (kind : ℕ) (front x c : List ℕ) → IsNotingEvent kind front x c → HasSameSpeeds x c
event-speeds kind front x c moment = same-before x c (table_of kind).base (size_of (table_of kind)) (table-below kind) moment.outside

pub noted-speeds : (kind : ℕ) (front x y : List ℕ) → IsEventNoted kind front x y → HasSameSpeeds x y
noted-speeds kind front x y noted = same-before x y (table_of kind).base (size_of (table_of kind)) (table-below kind) noted.outside

number-speeds : (place : ℕ) (bytes y : List ℕ) → place + length bytes ≤ 580 → 580 ≤ length y → HasSameSpeeds y (put place bytes y)
number-speeds place bytes y low long = same-before y (put place bytes y) place (length bytes) (omega (arith, low)) (put_outside place bytes y (omega (arith, low, long)))

first-speeds : (begin : ℕ) (y : List ℕ) → 580 ≤ length y → HasSameSpeeds y (with_first begin y)
first-speeds begin y long = by (number_at y 572 4 == 0)
  where
    by : (b : Bool) → HasSameSpeeds y (cond b (put 572 (to_be_bytes w32 begin) y) y)
    by true = number-speeds 572 (to_be_bytes w32 begin) y (omega arith) long
    by false = refl

more-speeds : (y : List ℕ) → 580 ≤ length y → HasSameSpeeds y (with_one_more y)
more-speeds y long = by (nat_lt (number_at y 576 4) 255)
  where
    by : (b : Bool) → HasSameSpeeds y (cond b (put 576 (to_be_bytes w32 (number_at y 576 4 + 1)) y) y)
    by true = number-speeds 576 (to_be_bytes w32 (number_at y 576 4 + 1)) y (omega arith) long
    by false = refl

first-long : (begin : ℕ) (y : List ℕ) → 580 ≤ length y → 580 ≤ length (with_first begin y)
first-long begin y long = by (number_at y 572 4 == 0)
  where
    by : (b : Bool) → 580 ≤ length (cond b (put 572 (to_be_bytes w32 begin) y) y)
    by true = let same = (put_outside 572 (to_be_bytes w32 begin) y (omega (arith, long))).same_length in omega (arith, long, same)
    by false = long

noted-long : (kind : ℕ) (front x y : List ℕ) → length x ≡ 2485808 → IsEventNoted kind front x y → 580 ≤ length y
noted-long kind front x y long noted = let same = noted.outside.same_length in omega (arith, long, same)

pub over-speeds : (begin : ℕ) (front x c : List ℕ) → length x ≡ 2485808 → IsNotingOver begin front x c → HasSameSpeeds x c
over-speeds begin front x c long (inl entry) = event-speeds OVER_SPEEDING front x c entry
over-speeds begin front x c long (inr (y, noted, inl is)) =
    subst (λ (l : List ℕ). HasSameSpeeds x l) (sym is)
    (speeds-then x y (with_first begin y) (noted-speeds OVER_SPEEDING front x y noted) (first-speeds begin y (noted-long OVER_SPEEDING front x y long noted)))
over-speeds begin front x c long (inr (y, noted, inr is)) =
    let high : 580 ≤ length y = noted-long OVER_SPEEDING front x y long noted in
    subst (λ (l : List ℕ). HasSameSpeeds x l) (sym is)
    (speeds-then x (with_first begin y) (with_one_more (with_first begin y))
    (speeds-then x y (with_first begin y) (noted-speeds OVER_SPEEDING front x y noted) (first-speeds begin y high))
    (more-speeds (with_first begin y) (first-long begin y high)))

-- ---- insertions, withdrawals and places

pub place-speeds : (head x c : List ℕ) → IsAdding unit_place_ring head x c → HasSameSpeeds x c
place-speeds head x c adding = same-before x c 2379240 7144 (omega arith) adding.outside

entry-below : (i : ℕ) → i < 2048 → place_of insertion_ring i + 129 ≤ 2393644
entry-below i below = omega (arith, below)

pub withdrawal-speeds : (i : ℕ) (time : TimeReal) (odometer : Odometer) (x c : List ℕ) → i < 2048 → IsWithdrawing i time odometer x c → HasSameSpeeds x c
withdrawal-speeds i time odometer x c below (inl same) = same-speeds x c same
withdrawal-speeds i time odometer x c below (inr (inl set)) = same-before x c (place_of insertion_ring i) 129 (entry-below i below) set.outside
withdrawal-speeds i time odometer x c below (inr (inr withdrawn)) = same-before x c (place_of insertion_ring i) 129 (entry-below i below) withdrawn.outside

-- ---- what has ended of a span's events

bare-coming : (bare : Option BareWith) (x c : List ℕ) → IsNotingBare bare x c → HasSameSpeeds x c
bare-coming None x c same = same-speeds x c same
bare-coming (Some b) x c moment = event-speeds DRIVING_WITHOUT_CARD (fault_bytes (entry_of DRIVING_WITHOUT_CARD b.span.begin b.span.end b.begin b.end)) x c moment

bare-noted : (bare : Option BareWith) (x y : List ℕ) → IsBareNoted bare x y → HasSameSpeeds x y
bare-noted None x y same = same-speeds x y same
bare-noted (Some b) x y noted = noted-speeds DRIVING_WITHOUT_CARD (fault_bytes (entry_of DRIVING_WITHOUT_CARD b.span.begin b.span.end b.begin b.end)) x y noted

bare-long : (bare : Option BareWith) (x y : List ℕ) → length x ≡ 2485808 → IsBareNoted bare x y → length y ≡ 2485808
bare-long None x y long same = ap length same ∙ long
bare-long (Some b) x y long noted = noted.outside.same_length ∙ long

fast-coming : (fast : Option OverWith) (x c : List ℕ) → length x ≡ 2485808 → IsNotingFast fast x c → HasSameSpeeds x c
fast-coming None x c long same = same-speeds x c same
fast-coming (Some o) x c long moment = over-speeds o.over.begin (over_bytes o.over (number_or_no_card o.begin.driver)) x c long moment

ended-coming : (ended : Ended) (x c : List ℕ) → length x ≡ 2485808 → AreBeingNoted ended x c → HasSameSpeeds x c
ended-coming ended x c long (inl bare) = bare-coming (bare_ended ended) x c bare
ended-coming ended x c long (inr after) =
    speeds-then x after.between c (bare-noted (bare_ended ended) x after.between after.bare)
    (fast-coming (over_ended ended) after.between c (bare-long (bare_ended ended) x after.between long after.bare) after.over)

pub ended-leaves : (ended : Ended) (U V : State) → IsCoherent U → IsUnit U → LeavesOnly U V (AreBeingNoted ended) → LeavesSpeeds U V
ended-leaves ended U V whole unit run =
    leaves-moments U V HasSameSpeeds whole (weaken run (λ x c was moment. ended-coming ended x c (unit_sized whole unit x was) moment)) (λ x c same. same)

-- ---- each by its own call

pub event-leaves-speeds : (kind : ℕ) (front : List ℕ) (U V : State) → IsCoherent U → LeavesOnly U V (IsNotingEvent kind front) → LeavesSpeeds U V
event-leaves-speeds kind front U V whole run = leaves-moments U V (IsNotingEvent kind front) whole run (event-speeds kind front)

pub place-leaves : (head : List ℕ) (U V : State) → IsCoherent U → LeavesOnly U V (IsAdding unit_place_ring head) → LeavesSpeeds U V
place-leaves head U V whole run = leaves-moments U V (IsAdding unit_place_ring head) whole run (place-speeds head)

pub withdrawal-leaves : (i : ℕ) (time : TimeReal) (odometer : Odometer) (U V : State) → i < 2048 → IsCoherent U → LeavesOnly U V (IsWithdrawing i time odometer) → LeavesSpeeds U V
withdrawal-leaves i time odometer U V below whole run = leaves-moments U V (IsWithdrawing i time odometer) whole run (λ x c moment. withdrawal-speeds i time odometer x c below moment)
