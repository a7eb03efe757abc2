-- What calls make of the vehicles before that the insertions of a unit tell.
use Rattle.std.proofs.Common.{◌≡◌, ◌≢◌, ◌⊎◌, inl, inr, ⊎_elim, ℕ, ◌+◌, ◌<◌, ◌≤◌, min, Bool, true, false, cond, Option, Some, None, List, [], ◌∷◌, ◌++◌, length, map, drop, refl, ap, sym, subst, ◌∙◌, arith, append_assoc, append-nil, length-append}
use Rattle.std.specs.Prelude.{◌==◌}
use Rattle.std.proofs.lemmas.Bool.{cases_eq}
use Rattle.std.proofs.lemmas.Bool.Decides.{nat_tests}
use Rattle.std.proofs.lemmas.List.{map-append, length-map, length-take, length-drop}
use Rattle.card_files.specs.card_layout.Images.{bytes_at, put, big_number}
use Rattle.card_files.specs.card_layout.Fields.{field_at}
use Rattle.card_files.proofs.card_layout.Images.{put_outside}
use Rattle.card_files.proofs.card_layout.Fields.{field_stays}
use Rattle.tach_media.specs.Medium.{State, IsCoherent, LeavesOnly}
use Rattle.tacho_types.specs.declared.numbers.TimeReal.{TimeReal}
use Rattle.tacho_types.specs.declared.numbers.Odometer.{Odometer}
use Rattle.tacho_types.specs.Numbers.{time_bytes, odometer_bytes}
use Rattle.unit_model.specs.minute_model.Span.{Span}
use Rattle.minute_rules.specs.Kept.{CountsSpan}
use Rattle.run_events.specs.gated_ring.Ring.{PointsInside, IsDense, size_of, place_of, indices, ring_list, entry_at, taken}
use Rattle.run_events.specs.gated_ring.Change.{IsAdded, IsAdding}
use Rattle.run_events.proofs.gated_ring.Elsewhere.{ring_outside}
use Rattle.run_events.proofs.gated_ring.Orders.{Each}
use Rattle.run_events.proofs.gated_ring.Listing.{indices_below}
use Rattle.run_events.specs.message_model.Records.{insertion_widths, insertion_ring, unit_place_ring}
use Rattle.unit_notes.specs.Noting.{out_place, with_withdrawal, IsWithdrawn}
use Rattle.unit_model.specs.Image.{IsUnit}
use Rattle.run_crew.specs.declared.cards.Accepted.{Accepted}
use Rattle.run_events.specs.run_rings.Carried.{RingKeeps}
use Rattle.run_events.proofs.run_rings.Carried.{carries-none, carries-more, carries-same}
use Rattle.run_events.proofs.run_rings.Few.{as-many, added-long}
use Rattle.run_note_record.specs.Ringed.{HasSameRings, LeavesRings, WritesImages, Seating, IsAddedAt}
use Rattle.run_note_record.proofs.OnCards.{whole-head}
use Rattle.run_note_record.proofs.Rings.{insertion_shape}
use Rattle.run_minutes.specs.declared.keeper.Moment.{Moment}
use Rattle.run_acts.specs.declared.run.Run.{Run}
use Rattle.run_acts.specs.Acting.{Closing, Bare, Closed, Fell}
use Rattle.run_acts.specs.Ringing.{WithdrawalStands, ClosesRings, seating_of, odometer_of}
use Rattle.run_acts.specs.Comings.{VehicleTold, told_in, vehicles_in, TellsMore, TellMore}
use Rattle.run_acts.proofs.KeptEvents.{as-long}

-- ---- one image behind another

-- by the entries
tells-carried : (x y : List ℕ) (more : List (List ℕ)) → RingKeeps insertion_ring x y more → length (ring_list insertion_ring x) ≤ length (ring_list insertion_ring y) → TellsMore (map told_in more) x y
tells-carried x y more h few = record {
  points = h.points;
  dense = h.dense;
  gone = map told_in h.gone;
  shown = sym (map-append told_in (ring_list insertion_ring x) more) ∙ ap (map told_in) h.shown ∙ map-append told_in h.gone (ring_list insertion_ring y);
  full = λ d. ⊎_elim (λ none. inl (ap (map told_in) none)) (λ lacks. inr lacks) (h.full d);
  few = (let was : length (vehicles_in x) ≡ length (ring_list insertion_ring x) = length-map (ring_list insertion_ring x) told_in in let now : length (vehicles_in y) ≡ length (ring_list insertion_ring y) = length-map (ring_list insertion_ring y) told_in in omega (arith, was, now, few));
}

-- nothing is added
pub tells-none : (x : List ℕ) → PointsInside insertion_ring x → TellsMore [] x x
tells-none x points = tells-carried x x [] (carries-none insertion_ring x points) (omega arith)

-- the same bytes of the ring
tells-bytes : (x y : List ℕ) → bytes_at y insertion_ring.base (size_of insertion_ring) ≡ bytes_at x insertion_ring.base (size_of insertion_ring) → PointsInside insertion_ring x → TellsMore [] x y
tells-bytes x y same points = tells-carried x y [] (carries-same insertion_ring x x [] (carries-none insertion_ring x points) insertion_shape y same) (as-many insertion_ring insertion_shape x y same points)

-- an entry is added
tells-added : (head x y : List ℕ) → IsAdded insertion_ring head x y → length head ≡ insertion_ring.width → PointsInside insertion_ring x → TellsMore (told_in head ∷ []) x y
tells-added head x y added full points =
    tells-carried x y (head ∷ [])
    (subst (λ (l : List ℕ). RingKeeps insertion_ring x y (l ∷ [])) (whole-head insertion_ring x (taken insertion_ring x) head full)
    (carries-more insertion_ring x x [] (carries-none insertion_ring x points) head y added)) (added-long insertion_ring head x y points added)

-- one after another
pub tells-then : (vs ws : List VehicleTold) (a b c : List ℕ) → TellsMore vs a b → TellsMore ws b c → TellsMore (vs ++ ws) a c
tells-then vs ws a b c s t = record {
  points = t.points;
  dense = λ d. t.dense (s.dense d);
  gone = s.gone ++ t.gone;
  shown = sym (append_assoc (vehicles_in a) vs ws) ∙ ap (λ (l : List VehicleTold). l ++ ws) s.shown ∙ append_assoc s.gone (vehicles_in b) ws
      ∙ ap (λ (l : List VehicleTold). s.gone ++ l) t.shown ∙ sym (append_assoc s.gone t.gone (vehicles_in c));
  full = λ d. ⊎_elim (λ none. by none (s.full d)) (λ lacks. inr lacks) (t.full (s.dense d));
  few = (let first = s.few in let then_ = t.few in omega (arith, first, then_));
}
  where
    by : t.gone ≡ [] → (s.gone ≡ []) ⊎ (insertion_ring.count ≤ length (ring_list insertion_ring b) + 1) → (s.gone ++ t.gone ≡ []) ⊎ (insertion_ring.count ≤ length (ring_list insertion_ring c) + 1)
    by none (inl first) = inl (λ i. first i ++ none i)
    by none (inr lacks) =
        let all : length (vehicles_in b ++ ws) ≡ length (vehicles_in c) = ap (λ (l : List VehicleTold). length l) (t.shown ∙ ap (λ (g : List VehicleTold). g ++ vehicles_in c) none) in
        let parts = length-append (vehicles_in b) ws in
        let before : length (vehicles_in b) ≡ length (ring_list insertion_ring b) = length-map (ring_list insertion_ring b) told_in in
        let behind : length (vehicles_in c) ≡ length (ring_list insertion_ring c) = length-map (ring_list insertion_ring c) told_in in
        inr (omega (arith, lacks, all, parts, before, behind))

-- ---- a withdrawal

-- the bytes of one are not those of the vehicle before
told-still : (time : TimeReal) (odometer : Odometer) (e : List ℕ) → 129 ≤ length e → told_in (with_withdrawal time odometer e) ≡ told_in e
told-still time odometer e long = λ i. record { registration = field 9 (omega arith) (λ never. absurd (omega (arith, never))) (λ never. absurd (omega (arith, never))) i; time = big_number 4 (field 10 (omega arith) (λ never. absurd (omega (arith, never))) (λ never. absurd (omega (arith, never))) i) }
  where
    as-long-still : 129 ≤ length (put out_place (time_bytes time) e)
    as-long-still = let same = (put_outside out_place (time_bytes time) e (omega (arith, long))).same_length in omega (arith, same, long)

    field : (j : ℕ) → j < 12 → j ≢ 7 → j ≢ 8 → field_at insertion_widths j (with_withdrawal time odometer e) ≡ field_at insertion_widths j e
    field j below one two =
        field_stays insertion_widths 8 (odometer_bytes odometer) (put out_place (time_bytes time) e) (omega arith) refl as-long-still j below two
        ∙ field_stays insertion_widths 7 (time_bytes time) e (omega arith) refl long j below one

-- where the ring has its bytes an entry has its own
entry-long : (x : List ℕ) (i : ℕ) → insertion_ring.base + size_of insertion_ring ≤ length x → i < insertion_ring.count → 129 ≤ length (entry_at insertion_ring x i)
entry-long x i long below =
    let rest = length-drop (place_of insertion_ring i) x in
    let cut : length (entry_at insertion_ring x i) ≡ min insertion_ring.width (length (drop (place_of insertion_ring i) x)) = length-take insertion_ring.width (drop (place_of insertion_ring i) x) in
    omega (arith, long, below, rest, cut)

tells-withdrawn : (i : ℕ) (time : TimeReal) (odometer : Odometer) (x y : List ℕ) → IsWithdrawn i time odometer x y → insertion_ring.base + size_of insertion_ring ≤ length y → PointsInside insertion_ring x → TellsMore [] x y
tells-withdrawn i time odometer x y w long points = record {
  points = subst (λ (n : ℕ). n < insertion_ring.count) (sym w.pointer_is) points;
  dense = stays-dense;
  gone = [];
  shown = append-nil (vehicles_in x) ∙ sym same;
  full = λ d. inl refl;
  few = (let is : length (vehicles_in y) ≡ length (vehicles_in x) = ap (λ (l : List VehicleTold). length l) same in omega (arith, is));
}
  where
    was-long : insertion_ring.base + size_of insertion_ring ≤ length x
    was-long = let as_ = w.outside.same_length in omega (arith, long, as_)

    one : (j : ℕ) → j < insertion_ring.count → (j ≡ i) ⊎ (j ≢ i) → told_in (cond (j == i) (with_withdrawal time odometer (entry_at insertion_ring x i)) (entry_at insertion_ring x j)) ≡ told_in (entry_at insertion_ring x j)
    one j below (inl at) =
        let same_one : (j == i) ≡ true = grind (arith, nat_tests, at) in
        ap (λ (b : Bool). told_in (cond b (with_withdrawal time odometer (entry_at insertion_ring x i)) (entry_at insertion_ring x j))) same_one
        ∙ told-still time odometer (entry_at insertion_ring x i) (entry-long x i was-long (subst (λ (n : ℕ). n < insertion_ring.count) at below))
        ∙ ap (λ (n : ℕ). told_in (entry_at insertion_ring x n)) (sym at)
    one j below (inr other) =
        let apart : (j == i) ≡ false = grind (arith, nat_tests, other) in
        ap (λ (b : Bool). told_in (cond b (with_withdrawal time odometer (entry_at insertion_ring x i)) (entry_at insertion_ring x j))) apart

    each : (js : List ℕ) → Each (λ j. j < insertion_ring.count) js →
        map told_in (map (λ (j : ℕ). cond (j == i) (with_withdrawal time odometer (entry_at insertion_ring x i)) (entry_at insertion_ring x j)) js) ≡ map told_in (map (entry_at insertion_ring x) js)
    each [] all = refl
    each (j ∷ js) all = λ k. one j all.0 (cases_eq j i) k ∷ each js all.1 k

    same : vehicles_in y ≡ vehicles_in x
    same = ap (map told_in) (w.list_is points) ∙ each (indices insertion_ring x) (indices_below insertion_ring x points)

    stays-dense : IsDense insertion_ring x → IsDense insertion_ring y
    stays-dense (inl none) = inl (w.indices_are points ∙ none)
    stays-dense (inr (last, run)) =
        inr (
          last,
          record {
            below = run.below;
            at_pointer = ⊎_elim (λ at. inl (at ∙ sym w.pointer_is)) (λ before. inr (before ∙ sym w.pointer_is)) run.at_pointer;
            len = run.len;
            few = run.few;
            indices_are = w.indices_are points ∙ run.indices_are;
          },
        )

-- an image with the ring of a whole one has it whole
ring-long : (x y : List ℕ) → HasSameRings x y → 2485808 ≤ length y → insertion_ring.base + size_of insertion_ring ≤ length x
ring-long x y same long =
    let rest = length-drop insertion_ring.base x in
    let cut : length (bytes_at x insertion_ring.base (size_of insertion_ring)) ≡ min (size_of insertion_ring) (length (drop insertion_ring.base x)) = length-take (size_of insertion_ring) (drop insertion_ring.base x) in
    let rest_y = length-drop insertion_ring.base y in
    let cut_y : length (bytes_at y insertion_ring.base (size_of insertion_ring)) ≡ min (size_of insertion_ring) (length (drop insertion_ring.base y)) = length-take (size_of insertion_ring) (drop insertion_ring.base y) in
    let as_ : length (bytes_at y insertion_ring.base (size_of insertion_ring)) ≡ length (bytes_at x insertion_ring.base (size_of insertion_ring)) = ap (λ (l : List ℕ). length l) same.insertions in
    omega (arith, rest, cut, rest_y, cut_y, as_, long)

-- ---- calls

-- they leave both rings
pub leaves-more : (U V : State) → LeavesRings U V → TellMore [] U V
leaves-more U V leaves = λ y left.
    let l = leaves y left in
    (l.0, l.1, λ points. tells-bytes l.0 y l.2.insertions points)

-- a place is noted on the unit, or the unit failed in that
pub place-more : (head : List ℕ) (U V : State) → IsCoherent U → LeavesOnly U V (IsAdding unit_place_ring head) → TellMore [] U V
place-more head U V whole moments = λ y left. ⊎_elim
    (λ old. (y, old, λ points. tells-none y points))
    (λ new. (new.0, whole.is_left new.0 new.1, λ points. tells-bytes new.0 y (ring_outside insertion_ring unit_place_ring.base (size_of unit_place_ring) new.0 y (inr (omega arith)) new.2.outside) points))
    (moments.now y left)

-- an insertion is noted
pub insertion-more : (index : ℕ) (head : List ℕ) (U V : State) → length head ≡ insertion_ring.width → WritesImages (IsAddedAt index head) U V → TellMore (told_in head ∷ []) U V
insertion-more index head U V full writes = λ y left.
    let w = writes y left in (
      w.0,
      w.1,
      λ points.
          let first = tells-bytes w.0 w.2.0 w.2.2.insertions points in
          let second = tells-added head w.2.0 w.2.1 w.2.3.0 full first.points in
          let third = tells-bytes w.2.1 y w.2.4.insertions second.points in
          tells-then (told_in head ∷ []) [] w.0 w.2.1 y (tells-then [] (told_in head ∷ []) w.0 w.2.0 w.2.1 first second) third,
    )

-- a withdrawal is noted, or its insertion is gone
withdrawal-more : (s : Seating) (second : ℕ) (odometer : Odometer) (U V : State) → IsCoherent V → IsUnit V → WithdrawalStands false s second odometer U V → TellMore [] U V
withdrawal-more s second odometer U V whole unit writes = λ y left.
    let w = writes y left in
    let long = as-long V whole unit y left in
    let has : insertion_ring.base + size_of insertion_ring ≤ length w.2.1 = ring-long w.2.1 y w.2.4 (omega (arith, long)) in (
      w.0,
      w.1,
      λ points.
          let first = tells-bytes w.0 w.2.0 w.2.2.insertions points in
          let second_ : TellsMore [] w.2.0 w.2.1 = ⊎_elim
          (λ is. tells-withdrawn s.index (record { 0 = second }) odometer w.2.0 w.2.1 is.0 has first.points)
          (λ gone. tells-bytes w.2.0 w.2.1 gone.0.insertions first.points)
          w.2.3 in
          let third = tells-bytes w.2.1 y w.2.4.insertions second_.points in
          tells-then [] [] w.0 w.2.1 y (tells-then [] [] w.0 w.2.0 w.2.1 first second_) third,
    )

-- a session is closed
pub closes-more : (closing : Closing) (session : Option Accepted) (at : Moment) (failed : Bool) (run : Run) (U V : State) → IsCoherent V → IsUnit V → (span : Span) → CountsSpan run.minutes span → ClosesRings closing session at failed run U V → failed ≡ false → TellMore [] U V
closes-more Bare session at failed run U V whole unit span stands rings fine = leaves-more U V rings
closes-more Closed None at failed run U V whole unit span stands rings fine = absurd rings
closes-more Closed (Some a) at failed run U V whole unit span stands rings fine =
    withdrawal-more (seating_of run.noted a) at.second (odometer_of run span) U V whole unit
    (subst (λ (b : Bool). WithdrawalStands b (seating_of run.noted a) at.second (odometer_of run span) U V) fine (rings span stands))
closes-more Fell session at failed run U V whole unit span stands rings fine = leaves-more U V rings
