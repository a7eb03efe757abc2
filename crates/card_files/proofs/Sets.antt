-- Where the rings lie in their files, and the events of a set by the set's bytes.
use Rattle.std.proofs.Common.{◌≡◌, ℕ, ◌+◌, ◌*◌, ◌<◌, ◌≤◌, Bool, true, false, cond, Option, Some, IfSome, List, sym, ◌∙◌, ap, subst, arith, lit≤}
use Rattle.std.specs.Prelude.{◌↔◌, ◌==◌, IsTrue}
use Rattle.std.proofs.Math.Nat.{mul-le-mul_left}
use Rattle.card_layout.specs.Images.{bytes_at, number_at}
use Rattle.card_layout.proofs.Images.{part_in}
use Rattle.card_layout.proofs.Spelled.{number_within}
use Rattle.card_layout.specs.declared.files.Application.{Application}
use Rattle.card_layout.specs.Files.{files_of, place_of as place_of_file, size_of, image_size_of}
use Rattle.tach_media.specs.Medium.{State, LeavesOnly, LiesInside}
use Rattle.tach_media.proofs.Runs.{if_told, at_image}
use Rattle.tach_media.proofs.Ranges.{lies_still}
use Rattle.tacho_types.specs.declared.places.PlaceEntry.{PlaceEntry}
use Rattle.tacho_types.specs.Places.{place_bytes}
use Rattle.gated_ring.specs.Ring.{Shape, entry_at, gate_of, place_of, size_of as ring_size}
use Rattle.gated_ring.specs.Earliest.{IsEarliest}
use Rattle.gated_ring.specs.Change.{IsReplacingEntry, IsAdding}
use Rattle.gated_ring.proofs.Places.{place_high}
use Rattle.card_files.specs.declared.card_event.CardEvent.{CardEvent}
use Rattle.card_files.specs.Events.{event_bytes, event_of}
use Rattle.card_files.specs.Rings.{file, event_ring, place_ring, set_of}
use Rattle.card_files.specs.Noting.{IsEvent, HoldsEvent, TakesPlace, IsNotingPlace}

pub event_file : (app : Application) → size_of app (file 0x0502) ≡ 144 * app.events
unfolding files_of
event_file app = omega arith

pub vehicle_file : (app : Application) → size_of app (file 0x0505) ≡ 2 + 31 * app.vehicles
unfolding files_of
vehicle_file app = omega arith

pub place_file : (app : Application) → size_of app (file 0x0506) ≡ 1 + 10 * app.places
unfolding files_of
place_file app = omega arith

module _ (app : Application) (kind : ℕ) (x : List ℕ) where
  abbrev pub set_bytes : List ℕ
  set_bytes = bytes_at x (event_ring app kind).base (24 * app.events)

  pub entry_in : (i : ℕ) → i < app.events → bytes_at set_bytes (24 * i) 24 ≡ entry_at (event_ring app kind) x i
  entry_in i below =
      let fits : 24 * i + 24 ≤ 24 * app.events = omega (arith, below) in
      let same : (event_ring app kind).base + 24 * i ≡ place_of (event_ring app kind) i = omega arith in
      part_in x (event_ring app kind).base (24 * app.events) (24 * i) 24 fits ∙ ap (λ (p : ℕ). bytes_at x p 24) same

  pub gate_in : (i : ℕ) → i < app.events → number_at set_bytes (24 * i + 1) 4 ≡ number_at x (gate_of (event_ring app kind) i) 4
  gate_in i below =
      let fits : 24 * i + 1 + 4 ≤ 24 * app.events = omega (arith, below) in
      let same : (event_ring app kind).base + (24 * i + 1) ≡ gate_of (event_ring app kind) i = omega arith in
      number_within x (event_ring app kind).base (24 * app.events) (24 * i + 1) 4 fits ∙ ap (λ (p : ℕ). number_at x p 4) same

  pub takes_in : (i : ℕ) → IsEarliest app.events (λ j. number_at set_bytes (24 * j + 1) 4) i → TakesPlace (event_ring app kind) x i
  takes_in i is = record {
    below = is.below;
    least = λ j below. subst (λ (n : ℕ). n ≤ number_at x (gate_of (event_ring app kind) j) 4) (gate_in i is.below) (subst (λ (n : ℕ). number_at set_bytes (24 * i + 1) 4 ≤ n) (gate_in j below) (is.least j below));
    first = λ j before.
        let below : j < app.events = omega (arith, before, is.below) in
        subst (λ (n : ℕ). n < number_at x (gate_of (event_ring app kind) j) 4) (gate_in i is.below) (subst (λ (n : ℕ). number_at set_bytes (24 * i + 1) 4 < n) (gate_in j below) (is.first j before));
  }

  pub held_in : (b : Bool) (begin : ℕ) → IsTrue b ↔ ((i : ℕ) × (i < app.events) × IsEvent kind begin (bytes_at set_bytes (24 * i) 24)) → IsTrue b ↔ HoldsEvent app kind begin x
  held_in b begin both = (
    λ yes. let (i, below, is) = both.0 yes in (i, below, subst (λ (bytes : List ℕ). IsEvent kind begin bytes) (entry_in i below) is),
    λ (i, below, is). both.1 (i, below, subst (λ (bytes : List ℕ). IsEvent kind begin bytes) (sym (entry_in i below)) is),
  )

-- ---- of what a read has told

module _ (app : Application) (kind : ℕ) (o : Option (List ℕ)) (set : List ℕ) (place len count : ℕ) (at : place ≡ (event_ring app kind).base) (long : len ≡ 24 * app.events) (all : count ≡ app.events) (read : IfSome o (λ y. set ≡ bytes_at y place len)) where
  set_read : (y : List ℕ) → o ≡ Some y → set ≡ set_bytes app kind y
  set_read y is = at_image (λ (z : List ℕ). set ≡ bytes_at z place len) is read ∙ ap (λ (p : ℕ). bytes_at y p len) at ∙ ap (λ (n : ℕ). bytes_at y (event_ring app kind).base n) long

  pub told_takes : (i : ℕ) → IsEarliest count (λ j. number_at set (24 * j + 1) 4) i → IfSome o (λ y. TakesPlace (event_ring app kind) y i)
  told_takes i is = if_told o _ (λ y was. takes_in app kind y i (subst (λ (l : List ℕ). IsEarliest app.events (λ j. number_at l (24 * j + 1) 4) i) (set_read y was) (subst (λ (n : ℕ). IsEarliest n (λ j. number_at set (24 * j + 1) 4) i) all is)))

  pub told_held : (b : Bool) (begin : ℕ) → IsTrue b ↔ ((i : ℕ) × (i < count) × IsEvent kind begin (bytes_at set (24 * i) 24)) → IfSome o (λ y. IsTrue b ↔ HoldsEvent app kind begin y)
  told_held b begin both = if_told o _ (λ y was. held_in app kind y b begin (subst (λ (l : List ℕ). IsTrue b ↔ ((i : ℕ) × (i < app.events) × IsEvent kind begin (bytes_at l (24 * i) 24))) (set_read y was) (subst (λ (n : ℕ). IsTrue b ↔ ((i : ℕ) × (i < n) × IsEvent kind begin (bytes_at set (24 * i) 24))) all both)))

-- ---- the rings inside their files

set_most : (kind : ℕ) → set_of kind ≤ 5
set_most kind = by (kind == 3) (kind == 5) (kind == 6) (kind == 8) (kind == 9)
  where
    by : (a b c d e : Bool) → cond a 0 (cond b 1 (cond c 2 (cond d 3 (cond e 4 5)))) ≤ 5
    by true b c d e = lit≤ tt
    by false true c d e = lit≤ tt
    by false false true d e = lit≤ tt
    by false false false true e = lit≤ tt
    by false false false false true = lit≤ tt
    by false false false false false = lit≤ tt

pub set_inside : (app : Application) (kind : ℕ) → (event_ring app kind).base + ring_size (event_ring app kind) ≤ place_of_file app (file 0x0502) + size_of app (file 0x0502)
set_inside app kind = omega (arith, event_file app, mul-le-mul_left (app.events * 24) (set_most kind))

pub events_inside : (app : Application) → place_of_file app (file 0x0502) + size_of app (file 0x0502) ≤ image_size_of app
unfolding files_of
events_inside app = omega arith

pub places_inside : (app : Application) → (place_ring app).base + ring_size (place_ring app) ≤ image_size_of app
unfolding files_of
places_inside app = omega arith

-- a place of a set may be written where the file may
module _ (app : Application) (kind : ℕ) (r : Shape) (is : r ≡ event_ring app kind) where
  pub set_fits : (n : ℕ) → image_size_of app ≤ n → r.base + ring_size r ≤ n
  set_fits n fits = subst (λ (s : Shape). s.base + ring_size s ≤ n) (sym is) (omega (arith, set_inside app kind, events_inside app, fits))

  pub set_writable : (old new : List (ℕ × ℕ)) (i n : ℕ) → new ≡ old → i < app.events → n ≤ 24 → LiesInside old (place_of_file app (file 0x0502)) (size_of app (file 0x0502)) → LiesInside new (place_of r i) n
  set_writable old new i n same below few writable =
      subst (λ (s : Shape). LiesInside new (place_of s i) n) (sym is)
      (lies_still old new (place_of_file app (file 0x0502)) (size_of app (file 0x0502)) (place_of (event_ring app kind) i) n same (omega arith) (omega (arith, few, set_inside app kind, place_high (event_ring app kind) i below)) writable)

module _ (app : Application) (r : Shape) (is : r ≡ place_ring app) where
  pub places_fit : (n : ℕ) → image_size_of app ≤ n → r.base + ring_size r ≤ n
  places_fit n fits = subst (λ (s : Shape). s.base + ring_size s ≤ n) (sym is) (omega (arith, places_inside app, fits))

  pub places_writable : (old new : List (ℕ × ℕ)) → new ≡ old → LiesInside old (place_of_file app (file 0x0506)) (size_of app (file 0x0506)) → LiesInside new r.base (ring_size r)
  places_writable old new same writable =
      subst (λ (s : Shape). LiesInside new s.base (ring_size s)) (sym is)
      (lies_still old new (place_of_file app (file 0x0506)) (size_of app (file 0x0506)) (place_ring app).base (ring_size (place_ring app)) same (omega arith) (omega (arith, place_file app)) writable)

-- ---- what is written

-- the gate of an event's bytes is its begin
pub event_opens : (e : CardEvent) (bytes : List ℕ) → event_of bytes ≡ e → number_at bytes 1 4 ≡ e.begin.0
unfolding event_of
event_opens e bytes is = ap (λ (v : CardEvent). v.begin.0) is

pub as_event : (app : Application) (e : CardEvent) (r : Shape) (head : List ℕ) (i : ℕ) (x c : List ℕ) → r ≡ event_ring app e.kind → head ≡ event_bytes e → IsReplacingEntry r i head x c → IsReplacingEntry (event_ring app e.kind) i (event_bytes e) x c
as_event app e r head i x c ring bytes is = subst (λ (h : List ℕ). IsReplacingEntry (event_ring app e.kind) i h x c) bytes (subst (λ (s : Shape). IsReplacingEntry s i head x c) ring is)

pub as_place : {old new : State} (app : Application) (e : PlaceEntry) (r : Shape) (head : List ℕ) → r ≡ place_ring app → head ≡ place_bytes e → LeavesOnly old new (IsAdding r head) → LeavesOnly old new (IsNotingPlace app e)
as_place {old = old} {new = new} app e r head ring bytes is = subst (λ (h : List ℕ). LeavesOnly old new (IsAdding (place_ring app) h)) bytes (subst (λ (s : Shape). LeavesOnly old new (IsAdding s head)) ring is)
