-- THE PLACES OF A RUN ON ITS CARDS (profile): what the ring of places of a card shows of them, and calls that leave it.
-- Of which odometer values its vehicle entries tell, and calls that measure them. And calls that let its session go on.
use Rattle.std.specs.Prelude.{◌≡◌, ◌⊎◌, ℕ, suc, ◌+◌, ◌*◌, ◌/◌, ◌<◌, Bool, true, false, not, List, [], ◌∷◌, ◌++◌}
use Rattle.std.specs.Prelude.{filter, nat_eq, sum_by}
use Rattle.std.specs.List.{list_any}
use Rattle.run_devices.specs.trace_model.declared.Card.{Card}
use Rattle.run_devices.specs.tacho_types.declared.places.PlaceEntry.{PlaceEntry}
use Rattle.tach_media.specs.card_layout.Fields.{total_width}
use Rattle.run_devices.specs.tacho_types.Places.{place_widths, place_bytes}
use Rattle.tach_media.specs.Medium.{State, bytes_at}
use Rattle.run_events.specs.gated_ring.Ring.{Shape, IsShape, PointsInside, size_of}
use Rattle.run_events.specs.gated_ring.Change.{IsAdded, IsAdding}
use Rattle.run_events.specs.card_files.Rings.{place_ring}
use Rattle.run_devices.specs.card_image.Own.{own_sizes, IsOwnValid}
use Rattle.run_devices.specs.minute_model.Second.{Second}
use Rattle.run_devices.specs.log_model.Log.{RunLog}
use Rattle.run_devices.specs.log_model.Causes.{has_failed, second_of}
use Rattle.run_devices.specs.log_model.Slots.{same_card}
use Rattle.run_devices.specs.log_model.Course.{ToldSecond}
use Rattle.run_devices.specs.log_model.Spans.{seconds_in}
use Rattle.run_devices.specs.unit_rule.Odometer.{odometer_by}
use Rattle.run_devices.specs.note_model.Odometer.{SpanFrom, odometer_at}
use Rattle.run_devices.specs.note_model.Noted.{PlaceNote, Note, places_of}
use Rattle.run_devices.specs.note_model.Rings.{Stand, AreNoFewer, kind_of}
use Rattle.run_devices.specs.safety_model.Recording.{card_image}
use Rattle.run_devices.specs.safety_model.Safe.{Devices, card_of}
use Rattle.run_events.specs.run_rings.Carried.{RingKeeps}
use Rattle.run_devices.specs.Measured.{Reading, GoesMeasured}
use Rattle.run_devices.specs.Sessions.{SessionGoes}
use Rattle.run_note_record.specs.Origin.{Origin}

-- ---- rings

-- a ring whose pointer was an index at the start
abbrev pub HasRing : Shape → (start : List ℕ) → Type 0
HasRing r start = PointsInside r start

-- A RING of which entries stand for these notes, behind what it showed at the start
pub record ShowsNotes {N : Type 0} (r : Shape) (is_sure : N → Bool) (Is : N → List ℕ → Type 0) (notes : List N)
    (start x : List ℕ) : Type 0 where
  pub more : List (List ℕ)
  pub carries : RingKeeps r start x more
  pub stand : Stand is_sure Is notes more
  pub few : AreNoFewer r is_sure notes start x

-- ---- the places of a card

-- a call on a device failed in a second
abbrev pub has_call_failed_in : RunLog → ℕ → Bool
has_call_failed_in log u = list_any (λ b. nat_eq (second_of b) u) (filter has_failed log.breaks)

-- the ring of places of a card, by the sizes that its image at the start tells
abbrev pub places_in : (start : List ℕ) → Shape
places_in start = place_ring (own_sizes start)

-- the width of an entry of a place on a card, in bytes
abbrev pub place_width : ℕ
place_width = total_width place_widths

-- of places those that were entered by this card
abbrev pub places_on : Card → List PlaceNote → List PlaceNote
places_on c places = filter (λ p. same_card p.card c) places

-- the entry of a place on a card: begin or end of the day, entered with its second and the odometer of then
pub record IsPlaceOn (spans : List SpanFrom) (p : PlaceNote) (e : List ℕ) : Type 0 where
  pub entry : PlaceEntry
  pub bytes : e ≡ place_bytes entry
  pub time : entry.time.0 ≡ p.second
  pub kind : entry.kind ≡ kind_of p.ending
  pub country : entry.country.0 ≡ p.country
  pub region : entry.region ≡ p.region
  pub odometer : entry.odometer.0 ≡ odometer_at p.second spans

-- a place is sure on a card where no call failed in its second
abbrev pub is_sure_on : RunLog → PlaceNote → Bool
is_sure_on log p = not (has_call_failed_in log p.second)

-- a card that was valid at the start, with its ring of places
pub record HasPlaces (start : List ℕ) : Type 0 where
  pub valid : IsOwnValid start
  pub shape : IsShape (places_in start)
  pub ring : HasRing (places_in start) start

-- THE CARDS SHOW THESE PLACES: each image that a stop may leave of such a card, those of it in their order
abbrev pub PlacesOnCards : Origin → RunLog → List SpanFrom → List Note → Devices → Type 0
PlacesOnCards o log spans notes d = (c : Card) → HasPlaces (card_image o.recording c) → (x : List ℕ)
    → (card_of d c).may_leave x →
    ShowsNotes (places_in (card_image o.recording c)) (is_sure_on log) (IsPlaceOn spans) (places_on c (places_of notes))
    (card_image o.recording c) x

-- ---- calls

-- two images have the same ring of places
abbrev pub HasSamePlaces : (start x y : List ℕ) → Type 0
HasSamePlaces start x y = bytes_at y (places_in start).base (size_of (places_in start))
    ≡ bytes_at x (places_in start).base (size_of (places_in start))

-- CALLS LEAVE THE PLACES of a card: each image that it may leave behind them has those of one before
abbrev pub LeavesPlaces : (start : List ℕ) → (old new : State) → Type 0
LeavesPlaces start old new = (y : List ℕ) → new.may_leave y → (x : List ℕ) × old.may_leave x × HasSamePlaces start x y

-- calls leave the places of each card that was valid
abbrev pub PlacesStay : Origin → (d e : Devices) → Type 0
PlacesStay o d e = (c : Card) → IsOwnValid (card_image o.recording c)
    → LeavesPlaces (card_image o.recording c) (card_of d c) (card_of e c)

-- ---- the vehicle entries of a card

-- the last of some seconds is the one before this
abbrev pub EndBefore : (second : ℕ) → List Second → Type 0
EndBefore u ss = (front : List Second) × (x : Second) × (ss ≡ front ++ x ∷ []) × (suc x.number ≡ u)

-- the first of some seconds is this one
abbrev pub BeginWith : (second : ℕ) → List Second → Type 0
BeginWith u ss = (x : Second) × (behind : List Second) × (ss ≡ x ∷ behind) × (x.number ≡ u)

-- THE ODOMETER STOOD SO before a second, in one of these power spans: from what it began with, by the speeds of its
-- seconds from the front, up to the one before that second, or where that one is the next
pub record IsReading (spans : List SpanFrom) (second n : ℕ) : Type 0 where
  pub earlier : List SpanFrom
  pub s : SpanFrom
  pub later : List SpanFrom
  pub are : spans ≡ earlier ++ s ∷ later
  pub front : List ToldSecond
  pub behind : List ToldSecond
  pub parts : s.span ≡ front ++ behind
  pub is : n ≡ odometer_by s.base (sum_by (λ (x : Second). x.speed) (seconds_in front))
  pub when : EndBefore second (seconds_in front) ⊎ BeginWith second (seconds_in behind)

-- A READING IS OF THE END OF ITS MINUTE: the odometer stood so as that ended
abbrev pub IsReadingAtEnd : List SpanFrom → Reading → Type 0
IsReadingAtEnd spans r = IsReading spans (60 * (r.minute + 1)) r.odometer

-- A READING IS THAT OF ITS MINUTE: the odometer stood so as that ended, or before a second of a later minute that is
-- one of these
abbrev pub IsReadingOf : List SpanFrom → (May : ℕ → Type 0) → Reading → Type 0
IsReadingOf spans May r = IsReadingAtEnd spans r
    ⊎ ((second : ℕ) × May second × (r.minute < second / 60) × IsReading spans second r.odometer)

-- its vehicle entries go on, by the sizes that the card's image at the start tells, measured with readings of these
-- spans and no other values
abbrev pub GoesByReadings : List SpanFrom → (May : ℕ → Type 0) → (start x y : List ℕ) → Type 0
GoesByReadings spans May start x y = GoesMeasured (own_sizes start) (IsReadingOf spans May) x y

-- EACH IMAGE that a stop may leave of a card that was valid goes on from that at the start so
abbrev pub VehiclesOnCards : Origin → List SpanFrom → (May : Card → ℕ → Type 0) → Devices → Type 0
VehiclesOnCards o spans May d = (c : Card) → IsOwnValid (card_image o.recording c) → (x : List ℕ)
    → (card_of d c).may_leave x → GoesByReadings spans (May c) (card_image o.recording c) (card_image o.recording c) x

-- CALLS MEASURE THEM SO: behind them each image goes on from one before
abbrev pub VehiclesGo : Origin → List SpanFrom → (May : Card → ℕ → Type 0) → (d e : Devices) → Type 0
VehiclesGo o spans May d e = (c : Card) → IsOwnValid (card_image o.recording c) → (y : List ℕ)
    → (card_of e c).may_leave y
    → (x : List ℕ) × (card_of d c).may_leave x × GoesByReadings spans (May c) (card_image o.recording c) x y

-- ---- the session of a card

-- CALLS LET THE SESSIONS GO ON, with these that may come: behind them each image tells of that of one before, or of one
-- of these
abbrev pub SessionsGo : Origin → (May : Card → ℕ → Type 0) → (d e : Devices) → Type 0
SessionsGo o May d e = (c : Card) → IsOwnValid (card_image o.recording c) → (y : List ℕ) → (card_of e c).may_leave y
    → (x : List ℕ) × (card_of d c).may_leave x × SessionGoes (own_sizes (card_image o.recording c)) (May c) x y

-- no other session comes
abbrev pub NoOtherComes : Card → ℕ → Type 0
NoOtherComes c t = ⊥

-- CALLS leave the places of the cards, measure their vehicle entries so, and let their sessions go on, with these that
-- may come: a session is told by the second in which its card was put in
pub record CardsGo (o : Origin) (spans : List SpanFrom) (May : Card → ℕ → Type 0) (d e : Devices) : Type 0 where
  pub places : PlacesStay o d e
  pub vehicles : VehiclesGo o spans May d e
  pub sessions : SessionsGo o May d e

-- calls leave the places of the cards and let no session come; their vehicle entries go on
abbrev pub CardsStay : Origin → List SpanFrom → (d e : Devices) → Type 0
CardsStay o spans d e = CardsGo o spans NoOtherComes d e

-- ---- a place is noted

-- A PLACE IS NOTED in the ring of a card, by the bytes of its entry; or a call failed in its second, and it may be
abbrev pub TakesPlace : RunLog → PlaceNote → (head start x y : List ℕ) → Type 0
TakesPlace log p head start x y = IsAdded (places_in start) head x y
    ⊎ ((has_call_failed_in log p.second ≡ true) × ((y ≡ x) ⊎ IsAdding (places_in start) head x y))

-- so it is of the card that entered it, and the places of the other stay
abbrev pub PlaceIsTaken : Origin → RunLog → PlaceNote → (head : List ℕ) → (d e : Devices) → Type 0
PlaceIsTaken o log p head d e = (c : Card) → IsOwnValid (card_image o.recording c) →
    ((same_card p.card c ≡ false) × LeavesPlaces (card_image o.recording c) (card_of d c) (card_of e c))
    ⊎ ((same_card p.card c ≡ true)
    × ((y : List ℕ) → (card_of e c).may_leave y
    → (x : List ℕ) × (card_of d c).may_leave x
    × (PointsInside (places_in (card_image o.recording c)) x
    → TakesPlace log p head (card_image o.recording c) x y)))
