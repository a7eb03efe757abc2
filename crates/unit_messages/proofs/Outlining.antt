-- What is found of a request.
use Rattle.std.proofs.Common.{◌≡◌, ℕ, ◌+◌, ◌*◌, ◌≤◌, Option, Some, None, List, [], ◌∷◌, length, map, filter, refl, sym, ◌∙◌, ap, arith}
use Rattle.std.specs.Prelude.{slice_get, option_map, All, ◌≢◌}
use Rattle.gated_ring.specs.Ring.{ring_list, PointsInside}
use Rattle.unit_model.specs.declared.layout.TheConstants.{OVER_COUNT}
use Rattle.unit_model.specs.Days.{StoredDay}
use Rattle.unit_model.specs.Image.{number_of as number_in, last_kept, recorded_indices, slot_date, slot_place, words_at}
use Rattle.unit_model.specs.Decoding.{Decodes}
use Rattle.unit_model.proofs.Checks.{good_of, front_split, rings_split}
use Rattle.unit_model.proofs.WholeDays.{decoded_of}
use Rattle.unit_minutes.specs.declared.notes.Notes.{Notes}
use Rattle.unit_minutes.specs.Image.{IsNotes}
use Rattle.unit_minutes.specs.Reading.{AreRight, IsOfDate, IsRecordedDay}
use Rattle.unit_minutes.specs.declared.journal.reading.UnitDay.{UnitDay}
use Rattle.unit_minutes.proofs.Shown.{shown}
use Rattle.link_model.specs.declared.request.Request.TheVariants.{Day as AskDay}
use Rattle.message_model.specs.Records.{insertion_ring, unit_place_ring, speed_ring}
use Rattle.message_model.specs.Messages.{ADay}
use Rattle.message_model.specs.Sending.{sent_days, message_of, day_message_of, period_of, day_at, touches_day, place_in_day}
use Rattle.unit_messages.specs.declared.outline.Times.{Times}
use Rattle.unit_messages.specs.declared.outline.DayOutline.{DayOutline}
use Rattle.unit_messages.specs.Counts.{AreCounted}
use Rattle.unit_messages.specs.Outlines.{AreTimes, IsDayOf}
use Rattle.unit_messages.proofs.SentDays.{sent_at, sent_are, counts_few, found_none, day_sent}

-- the pointers of insertions and places are indices in an image that decodes
pub pointers_inside : (x : List ℕ) → Decodes x → PointsInside insertion_ring x × PointsInside unit_place_ring x
pointers_inside x decodes =
    let rings = rings_split x (good_of x decodes).rings in
    (rings.insertions, rings.places)

pub speeds_inside : (x : List ℕ) → Decodes x → PointsInside speed_ring x
speeds_inside x decodes = (rings_split x (good_of x decodes).rings).speeds

-- and there are at most 255 over speedings
pub overs_few : (x : List ℕ) → Decodes x → number_in x OVER_COUNT ≤ 255
overs_few x decodes = (front_split x (good_of x decodes).front).overs

-- of a date that no recorded day has there is no message
pub none_sent : (x : List ℕ) (date : ℕ) → Decodes x → All (λ i. slot_date x i ≢ date) (recorded_indices x) → message_of x (AskDay date) ≡ None
unfolding message_of
none_sent x date decodes none =
    ap (λ (days : List StoredDay). option_map (λ d. ADay (day_message_of x d)) (day_at date days)) (sent_are x (counts_few x (decoded_of x decodes)))
    ∙ ap (λ (found : Option StoredDay). option_map (λ d. ADay (day_message_of x d)) found) (found_none (sent_at x) (recorded_indices x) date none)

-- the outline of a day that was found
pub day_outlined : (j : Notes) (ok : IsNotes j) (x : List ℕ) (date : ℕ) (d : UnitDay) (o : DayOutline) → Decodes x → AreRight j x → IsOfDate x date (Some d)
    → (o.date ≡ date) × (o.odometer ≡ d.odometer.0) × (o.words_place ≡ d.place + 16) × (o.words ≡ d.words)
    → PointsInside insertion_ring x × PointsInside unit_place_ring x
    → (o.insertions ≡ length (filter (touches_day date) (ring_list insertion_ring x))) × (o.places ≡ length (filter (place_in_day date) (ring_list unit_place_ring x)))
    → AreCounted o.counts x → IsDayOf x o
day_outlined j ok x date d o decodes right is same inside counts counted =
    let sent = day_sent j ok x decodes right date d is in
    let date_is : o.date ≡ date = same.0 in
    let place_is : slot_place sent.index + 16 ≡ o.words_place = omega (arith, sent.place, same.2) in
    record {
      day = sent_at x sent.index;
      found = ap (λ (n : ℕ). day_at n (sent_days x)) date_is ∙ sent.found;
      date = sent.dated ∙ sym date_is;
      odometer = sym (same.1 ∙ sent.odometer);
      words = sent.words ∙ (λ t. words_at x (place_is t) (sym same.3 t));
      insertions = counts.0 ∙ ap (λ (n : ℕ). length (filter (touches_day n) (ring_list insertion_ring x))) (sym date_is);
      places = counts.1 ∙ ap (λ (n : ℕ). length (filter (place_in_day n) (ring_list unit_place_ring x))) (sym date_is);
      insertion_pointer = inside.0;
      place_pointer = inside.1;
      counted = counted;
    }

-- the times of an overview where no day is recorded, and by the oldest day
pub times_none : (j : Notes) (ok : IsNotes j) (x : List ℕ) (t : Times) → Decodes x → AreRight j x → j.day_count ≡ 0 → t.now ≡ 60 * j.kept → t.begin ≡ 0 → t.end ≡ 0 → AreTimes x t
times_none j ok x t decodes right none now begin end =
    let s = shown j ok x right in
    let days : sent_days x ≡ [] = sent_are x (counts_few x (decoded_of x decodes)) ∙ ap (map (sent_at x)) (nothing (recorded_indices x) (s.len ∙ none)) in
    record {
      now = now ∙ ap (λ (k : ℕ). 60 * k) (sym s.kept);
      begin = begin ∙ sym (ap (λ (l : List StoredDay). (period_of (60 * last_kept x) l).0) days);
      end = end ∙ sym (ap (λ (l : List StoredDay). (period_of (60 * last_kept x) l).1) days);
    }
  where
    nothing : (l : List ℕ) → length l ≡ 0 → l ≡ []
    nothing [] none = refl
    nothing (a ∷ l) none = absurd (omega (arith, none))

pub times_some : (j : Notes) (ok : IsNotes j) (x : List ℕ) (t : Times) (d : UnitDay) → Decodes x → AreRight j x → ((i : ℕ) × IsRecordedDay x 0 i d) → t.now ≡ 60 * j.kept → t.begin ≡ d.date.0 → t.end ≡ 60 * j.kept → AreTimes x t
times_some j ok x t d decodes right oldest now begin end =
    let s = shown j ok x right in
    let i = oldest.0 in
    let now_is : 60 * j.kept ≡ 60 * last_kept x = ap (λ (k : ℕ). 60 * k) (sym s.kept) in
    let days = sent_are x (counts_few x (decoded_of x decodes)) in
    let period : period_of (60 * last_kept x) (sent_days x) ≡ (slot_date x i, 60 * last_kept x) =
    ap (period_of (60 * last_kept x)) days ∙ first_of (60 * last_kept x) (recorded_indices x) i oldest.1.nth in
    record {
      now = now ∙ now_is;
      begin = begin ∙ oldest.1.day.date ∙ sym (ap (λ (p : ℕ × ℕ). p.0) period);
      end = end ∙ now_is ∙ sym (ap (λ (p : ℕ × ℕ). p.1) period);
    }
  where
    first_of : (k : ℕ) (l : List ℕ) (i : ℕ) → slice_get l 0 ≡ Some i → period_of k (map (sent_at x) l) ≡ (slot_date x i, k)
    first_of k [] i is = absurd (cc)
    first_of k (a ∷ l) i is = let same : a ≡ i = cc in ap (λ (n : ℕ). (slot_date x n, k)) same
