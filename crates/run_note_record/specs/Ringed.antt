-- What the rings of insertions and places of a unit carry of a run with cards (profile), from note to note.
use Rattle.std.specs.Prelude.{◌≡◌, ◌⊎◌, ℕ, suc, ◌<◌, ◌≤◌, ◌^◌, Bool, true, false, Option, Some, None, IfSome}
use Rattle.std.specs.Prelude.{option_map, List, [], ◌∷◌, ◌++◌, length}
use Rattle.std.specs.List.{AllByRecursion, list_any}
use Rattle.run_devices.specs.trace_model.declared.Action.{Action}
use Rattle.run_devices.specs.trace_model.declared.Card.{Card}
use Rattle.run_devices.specs.trace_model.Trace.{TraceSecond}
use Rattle.run_devices.specs.tacho_types.declared.numbers.TimeReal.{TimeReal}
use Rattle.run_devices.specs.tacho_types.declared.numbers.Odometer.{Odometer}
use Rattle.tach_media.specs.Medium.{State}
use Rattle.run_events.specs.gated_ring.Ring.{Shape, PointsInside, indices, taken}
use Rattle.run_events.specs.gated_ring.Change.{IsAdded, IsAdding}
use Rattle.run_events.specs.message_model.Records.{insertion_ring, unit_place_ring}
use Rattle.run_events.specs.unit_notes.Noting.{IsWithdrawn, IsWithdrawing}
use Rattle.run_devices.specs.log_model.Log.{RunLog}
use Rattle.run_devices.specs.log_model.Slots.{same_card}
use Rattle.run_devices.specs.log_model.Course.{went, ToldSecond}
use Rattle.run_devices.specs.note_model.Done.{has_failed_in}
use Rattle.run_devices.specs.note_model.Odometer.{SpanFrom, odometer_at}
use Rattle.run_devices.specs.note_model.Noted.{Acceptance, Withdrawal, InsertionNote, PlaceNote, Note, Accepts}
use Rattle.run_devices.specs.note_model.Noted.{Withdraws, Enters}
use Rattle.run_devices.specs.note_model.Noted.{insertions_of, places_of}
use Rattle.run_devices.specs.note_model.Rings.{Holder, Stand, RingShows, LiesAhead, IsInsertion, IsPlace}
use Rattle.run_devices.specs.note_model.Rings.{is_sure_insertion}
use Rattle.run_devices.specs.note_model.Rings.{is_sure_place}
use Rattle.run_devices.specs.safety_model.Recording.{Recording, card_image, told_of}
use Rattle.run_devices.specs.safety_model.Safe.{Devices, card_of}
use Rattle.run_devices.specs.safety_model.Side.{holder_of, IsPrevious, TellsVehicle}
use Rattle.run_devices.specs.card_image.Fields.{newest_vehicle}
use Rattle.run_devices.specs.card_image.Own.{own_sizes}
use Rattle.run_note_record.specs.Opened.{HasComeBefore}
pub use Rattle.run_note_record.specs.Uses.{notes_in, noted_next}
use Rattle.run_devices.specs.run_promise.Found.{found_of}
pub use Rattle.run_events.specs.run_rings.Same.{HasSameRings, LeavesRings}
pub use Rattle.run_note_record.specs.OnCards.{HasRing, ShowsNotes}
use Rattle.run_note_record.specs.OnCards.{has_call_failed_in, place_width, IsPlaceOn, PlacesOnCards, IsReading}
use Rattle.run_note_record.specs.OnCards.{VehiclesOnCards, VehiclesGo, SessionsGo, NoOtherComes, CardsGo}
use Rattle.run_note_record.specs.OnCards.{PlaceIsTaken, HasPlaces, places_in, places_on, is_sure_on}
use Rattle.run_note_record.specs.Moved.{Move, IsPutIn, moves_in, moves_so_far}
use Rattle.run_note_record.specs.Sessions.{IsBrokenSince, SessionsOnCards, OpensIn, Ends, Opens, Shuts}
use Rattle.run_note_record.specs.Origin.{Origin}
use Rattle.run_note_record.specs.Beside.{HaveLeftMore}

-- ---- how rings show it

-- what a run began with, and how far it has gone, as far as it tells which cards have come before, and which it has put
-- in and taken out
pub record Since : Type 0 where
  pub origin : Origin
  pub told : List ToldSecond
  pub trace : List TraceSecond
  pub moves : List Move

-- so far a run has gone behind these seconds,
abbrev pub since_behind : Origin → RunLog → List TraceSecond → Since
since_behind o log done = record { origin = o; told = (went log done).told; trace = done; moves = moves_in log done }

-- within one more, where the log was this as it began,
abbrev pub since_in : Origin → RunLog → List TraceSecond → TraceSecond → Since
since_in o began done s = record {
  origin = o;
  told = (went began done).told;
  trace = done ++ s ∷ [];
  moves = moves_in began done;
}

-- and behind these of its actions
abbrev pub since_at : Origin → (began : RunLog) → List TraceSecond → (log : RunLog) → TraceSecond
    → (front : List Action) → Since
since_at o began done log s front = record {
  origin = o;
  told = (went began done).told;
  trace = done ++ s ∷ [];
  moves = moves_so_far began done log s front;
}

-- the holder of a card by its image at the start
abbrev pub holder_in : Origin → Card → Holder
holder_in o = holder_of o.recording

-- the newest vehicle of a card, by its image at the start
abbrev pub TellsAtStart : Recording → Card → List ℕ → ℕ → Type 0
TellsAtStart r c registration time = TellsVehicle r (newest_vehicle (own_sizes (card_image r c)) (card_image r c))
    registration time

-- WHAT A CARD TELLS of its last vehicle in a second: an image of it does, which it might have left since the start;
-- where the card comes for the first time, that of the start
abbrev pub TellsIn : Since → Devices → (second : ℕ) → Card → List ℕ → ℕ → Type 0
TellsIn o d u c registration time =
    IsPrevious o.origin.recording (found_of o.origin.found c).began (card_of d c) registration time
    × (TellsAtStart o.origin.recording c registration time ⊎ HasComeBefore o.told o.trace c u)

-- an entry stands for an insertion, by what the card told of its last vehicle
abbrev pub IsInsertionIn : Since → RunLog → List SpanFrom → Devices → InsertionNote → List ℕ → Type 0
IsInsertionIn o log spans d n e = IsInsertion log spans (holder_in o.origin) (TellsIn o d n.accepted.second) n e

-- an entry stands for a place
abbrev pub IsPlaceIn : Origin → RunLog → List SpanFrom → PlaceNote → List ℕ → Type 0
IsPlaceIn o log spans = IsPlace log spans (holder_in o)

-- an insertion is sure: no call on the unit failed in its second
abbrev pub sure_insertion : Origin → RunLog → List SpanFrom → InsertionNote → Bool
sure_insertion o log spans = is_sure_insertion log spans (holder_in o)

-- a place is sure: no call on the unit failed in its second
abbrev pub sure_place : Origin → RunLog → List SpanFrom → PlaceNote → Bool
sure_place o log spans = is_sure_place log spans (holder_in o)

-- where the insertion of an accepted card is: its index, and how many were added since
pub record Seating : Type 0 where
  pub index : ℕ
  pub behind : ℕ

-- the same with one insertion more added since
abbrev pub one_behind : Seating → Seating
one_behind s = record s { behind = suc s.behind }

-- an entry for each note
abbrev pub Each : {N : Type 0} → (N → List ℕ → Type 0) → List N → List (List ℕ) → Type 0
Each Is [] [] = Unit {0}
Each Is [] (e ∷ entries) = ⊥
Each Is (n ∷ notes) [] = ⊥
Each Is (n ∷ notes) (e ∷ entries) = Is n e × Each Is notes entries

-- an index lies so many places behind another, round a ring
abbrev pub LiesBehind : Shape → (index places at : ℕ) → Type 0
LiesBehind r index places at = LiesAhead r index places at

-- an entry stands at its index, with so many behind it, and the next one comes behind these
abbrev pub StandsAt : Seating → List ℕ → Type 0
StandsAt s x = (front : List ℕ) × (back : List ℕ) × (indices insertion_ring x ≡ front ++ s.index ∷ back)
    × (length back ≡ s.behind) × (s.index < insertion_ring.count)
    × LiesBehind insertion_ring s.index (suc s.behind) (taken insertion_ring x)

-- AN ACCEPTED CARD: the last insertion of it is not withdrawn; its entry stands at its index, with so many behind it,
-- or as many came as the ring has places.
pub record IsSeated (is_sure : InsertionNote → Bool) (Is : InsertionNote → List ℕ → Type 0) (card : Card) (s : Seating)
    (notes : List InsertionNote) (more : List (List ℕ)) (x : List ℕ) : Type 0 where
  pub older : List InsertionNote
  pub own : InsertionNote
  pub newer : List InsertionNote
  pub notes_are : notes ≡ older ++ own ∷ newer
  pub card_is : same_card own.accepted.card card ≡ true
  pub last : list_any (λ j. same_card j.accepted.card card) newer ≡ false
  pub stays : own.withdrawn ≡ None
  pub olders : List (List ℕ)
  pub entry : List ℕ
  pub newers : List (List ℕ)
  pub more_are : more ≡ olders ++ entry ∷ newers
  pub stand_before : Stand is_sure Is older olders
  pub is : Is own entry
  pub each_behind : Each Is newer newers
  pub behind : length newers ≡ s.behind
  pub there : StandsAt s x ⊎ (insertion_ring.count ≤ s.behind)

-- the insertions of an image, with the cards that are accepted
pub record ShowsInsertions (o : Since) (log : RunLog) (spans : List SpanFrom) (notes : List Note)
    (seats : Card → Option Seating) (d : Devices) (x : List ℕ) : Type 0 where
  pub shows : ShowsNotes insertion_ring (sure_insertion o.origin log spans) (IsInsertionIn o log spans d)
      (insertions_of notes) o.origin.recording.unit x
  pub seated : (c : Card) → IfSome (seats c)
      (λ s. IsSeated (sure_insertion o.origin log spans) (IsInsertionIn o log spans d) c s (insertions_of notes)
      shows.more x)

-- WHAT IS CARRIED OF THE RINGS, of these notes: each image that a stop may leave of the unit shows them, and each of a
-- card its places, readings of the odometer by their minutes alone, and a session that may be open
pub record Ringed (o : Since) (log : RunLog) (spans : List SpanFrom) (notes : List Note) (seats : Card → Option Seating)
    (d : Devices) : Type 0 where
  pub insertions : HasRing insertion_ring o.origin.recording.unit → (x : List ℕ) → d.unit.may_leave x
      → ShowsInsertions o log spans notes seats d x
  pub places : HasRing unit_place_ring o.origin.recording.unit → (x : List ℕ) → d.unit.may_leave x →
      ShowsNotes unit_place_ring (sure_place o.origin log spans) (IsPlaceIn o.origin log spans) (places_of notes)
      o.origin.recording.unit x
  pub on_cards : PlacesOnCards o.origin log spans notes d
  pub vehicles : VehiclesOnCards o.origin spans (IsPutIn o.moves) d
  pub sessions : SessionsOnCards o.origin o.moves log notes d

-- ---- steps

-- calls leave both rings of the unit as they are
abbrev pub StaysInRings : (d e : Devices) → Type 0
StaysInRings d e = LeavesRings d.unit e.unit

-- a call writes a ring so, and before and behind that what lies outside both
abbrev pub Around : (List ℕ → List ℕ → Type 0) → List ℕ → List ℕ → Type 0
Around R x y = (p : List ℕ) × (q : List ℕ) × HasSameRings x p × R p q × HasSameRings q y

-- each image behind it was written so
abbrev pub WritesImages : (R : List ℕ → List ℕ → Type 0) → (old new : State) → Type 0
WritesImages R old new = (y : List ℕ) → new.may_leave y → (x : List ℕ) × old.may_leave x × Around R x y

-- each image of the unit behind a call was written so
abbrev pub WritesRing : (R : List ℕ → List ℕ → Type 0) → (d e : Devices) → Type 0
WritesRing R d e = WritesImages R d.unit e.unit

-- an entry is added to the ring of insertions, and takes this index
abbrev pub IsAddedAt : (index : ℕ) → (head : List ℕ) → List ℕ → List ℕ → Type 0
IsAddedAt index head p q = IsAdded insertion_ring head p q
    × (PointsInside insertion_ring p → index ≡ taken insertion_ring p)

-- the unit failed as an entry was added: nothing was written, or a moment of adding it
abbrev pub MayBeAdded : Shape → (head : List ℕ) → List ℕ → List ℕ → Type 0
MayBeAdded r head p q = (q ≡ p) ⊎ IsAdding r head p q

-- a withdrawal stands in the entry at an index; or so many were added since that it is gone, and nothing is written
abbrev pub IsWithdrawnAt : Seating → TimeReal → Odometer → List ℕ → List ℕ → Type 0
IsWithdrawnAt s time odometer p q = (IsWithdrawn s.index time odometer p q × (s.behind < insertion_ring.count))
    ⊎ (HasSameRings p q × (insertion_ring.count ≤ s.behind))

-- the unit failed as it was written: a moment of that; or so many were added since that it is gone
abbrev pub MayBeWithdrawn : Seating → TimeReal → Odometer → List ℕ → List ℕ → Type 0
MayBeWithdrawn s time odometer p q = (IsWithdrawing s.index time odometer p q × (s.behind < insertion_ring.count))
    ⊎ (HasSameRings p q × (insertion_ring.count ≤ s.behind))

-- A LOG AND SPANS THAT GO ON: what failed has failed, on the unit and on a card, the odometers of what was noted are
-- the same, and each reading is one still
pub record GoOn (log later : RunLog) (spans now : List SpanFrom) (notes : List Note) : Type 0 where
  pub failed : (u : ℕ) → has_failed_in log u ≡ true → has_failed_in later u ≡ true
  pub fell : (u : ℕ) → has_call_failed_in log u ≡ true → has_call_failed_in later u ≡ true
  pub insertions : AllByRecursion (λ (i : InsertionNote).
      (odometer_at i.accepted.second now ≡ odometer_at i.accepted.second spans)
      × IfSome i.withdrawn (λ u. odometer_at u now ≡ odometer_at u spans)) (insertions_of notes)
  pub places : AllByRecursion (λ (p : PlaceNote). odometer_at p.second now ≡ odometer_at p.second spans)
      (places_of notes)
  pub reads : (u n : ℕ) → IsReading spans u n → IsReading now u n

-- NOTHING IS NOTED at the start.
abbrev pub NoRingIsWritten : Devices → Type 0
NoRingIsWritten d = (o : Since) (log : RunLog) (spans : List SpanFrom)
    → ((x : List ℕ) → d.unit.may_leave x → x ≡ o.origin.recording.unit)
    → ((c : Card) (x : List ℕ) → (card_of d c).may_leave x → x ≡ card_image o.origin.recording c)
    → Ringed o log spans [] (λ c. None) d

-- CALLS that write no ring leave them so, as the log and the spans go on.
abbrev pub RingsStay : (d e : Devices) → Type 0
RingsStay d e = (o : Since) (log later : RunLog) (spans now : List SpanFrom) (notes : List Note)
    (seats : Card → Option Seating) → Ringed o log spans notes seats d → StaysInRings d e → HaveLeftMore o.origin d e
    → CardsGo o.origin now (λ c t. IsBrokenSince o.moves later c notes t) d e → GoOn log later spans now notes →
    Ringed o later now notes seats e

-- CARDS leave their slots, or power is lost: fewer are accepted.
abbrev pub FewerSit : Devices → Type 0
FewerSit d = (o : Since) (log : RunLog) (spans : List SpanFrom) (notes : List Note)
    (seats fewer : Card → Option Seating) → Ringed o log spans notes seats d
    → ((c : Card) → (fewer c ≡ seats c) ⊎ (fewer c ≡ None)) → Ringed o log spans notes fewer d

-- AN INSERTION IS NOTED, of a card that was put in and is not accepted yet, at this index
abbrev pub AnInsertionIsNoted : (d e : Devices) → Type 0
AnInsertionIsNoted d e = (o : Since) (log : RunLog) (spans : List SpanFrom) (notes : List Note)
    (seats now : Card → Option Seating) → Ringed o log spans notes seats d → HaveLeftMore o.origin d e
    → (a : Acceptance) → IsPutIn o.moves a.card a.second → CardsGo o.origin spans (OpensIn log a) d e
    → Opens o.origin log a e
    → (head : List ℕ) (index : ℕ) → WritesRing (IsAddedAt index head) d e →
    length head ≡ insertion_ring.width → IsInsertionIn o log spans e (record { accepted = a; withdrawn = None }) head →
    ((c : Card) → ((same_card a.card c ≡ false) × (now c ≡ option_map one_behind (seats c)))
    ⊎ ((same_card a.card c ≡ true) × (now c ≡ Some (record { index = index; behind = 0 })))) →
    Ringed o log spans (notes ++ Accepts a ∷ []) now e

-- A PLACE IS NOTED
abbrev pub APlaceIsNoted : (d e : Devices) → Type 0
APlaceIsNoted d e = (o : Since) (log : RunLog) (spans : List SpanFrom) (notes : List Note)
    (seats : Card → Option Seating) → Ringed o log spans notes seats d → HaveLeftMore o.origin d e
    → (p : PlaceNote) (head : List ℕ) →
    WritesRing (IsAdded unit_place_ring head) d e → length head ≡ unit_place_ring.width
    → IsPlaceIn o.origin log spans p head → (own : List ℕ) → length own ≡ place_width → IsPlaceOn spans p own
    → PlaceIsTaken o.origin log p own d e → VehiclesGo o.origin spans NoOtherComes d e
    → SessionsGo o.origin NoOtherComes d e →
    Ringed o log spans (notes ++ Enters p ∷ []) seats e

-- A WITHDRAWAL IS NOTED, in the entry of the card's last insertion; or as many were added since as the ring has places,
-- and nothing is written
abbrev pub AWithdrawalIsNoted : (d e : Devices) → Type 0
AWithdrawalIsNoted d e = (o : Since) (log : RunLog) (spans : List SpanFrom) (notes : List Note)
    (seats now : Card → Option Seating) → Ringed o log spans notes seats d → HaveLeftMore o.origin d e
    → (w : Withdrawal) → CardsGo o.origin spans (Ends w.card) d e → (s : Seating) → seats w.card ≡ Some s
    → s.index < insertion_ring.count →
    (time : TimeReal) (odometer : Odometer) → time.0 ≡ w.second → odometer.0 ≡ odometer_at w.second spans
    → time.0 < 256 ^ 4 → odometer.0 < 256 ^ 3 →
    WritesRing (IsWithdrawnAt s time odometer) d e →
    ((c : Card) → ((same_card w.card c ≡ false) × (now c ≡ seats c)) ⊎ ((same_card w.card c ≡ true) × (now c ≡ None)))
    → Shuts o.origin log w e → Ringed o log spans (notes ++ Withdraws w ∷ []) now e

-- OR THE UNIT FAILED IN IT: an insertion stands, or does not,
abbrev pub AnInsertionIsBroken : (d e : Devices) → Type 0
AnInsertionIsBroken d e = (o : Since) (log : RunLog) (spans : List SpanFrom) (notes : List Note)
    (seats : Card → Option Seating) → Ringed o log spans notes seats d → HaveLeftMore o.origin d e
    → (a : Acceptance) → IsPutIn o.moves a.card a.second → CardsGo o.origin spans (OpensIn log a) d e
    → (head : List ℕ) → WritesRing (MayBeAdded insertion_ring head) d e → length head ≡ insertion_ring.width →
    IsInsertionIn o log spans e (record { accepted = a; withdrawn = None }) head → has_failed_in log a.second ≡ true
    → Ringed o log spans (notes ++ Accepts a ∷ []) (λ c. None) e

-- so does a withdrawal,
abbrev pub AWithdrawalIsBroken : (d e : Devices) → Type 0
AWithdrawalIsBroken d e = (o : Since) (log : RunLog) (spans : List SpanFrom) (notes : List Note)
    (seats : Card → Option Seating) → Ringed o log spans notes seats d → HaveLeftMore o.origin d e
    → (w : Withdrawal) → CardsGo o.origin spans (Ends w.card) d e → (s : Seating) → seats w.card ≡ Some s
    → s.index < insertion_ring.count →
    (time : TimeReal) (odometer : Odometer) → time.0 ≡ w.second → odometer.0 ≡ odometer_at w.second spans
    → time.0 < 256 ^ 4 → odometer.0 < 256 ^ 3 → WritesRing (MayBeWithdrawn s time odometer) d e
    → has_failed_in log w.second ≡ true →
    Ringed o log spans (notes ++ Withdraws w ∷ []) (λ c. None) e

-- and so does a place.
abbrev pub APlaceIsBroken : (d e : Devices) → Type 0
APlaceIsBroken d e = (o : Since) (log : RunLog) (spans : List SpanFrom) (notes : List Note)
    (seats : Card → Option Seating) → Ringed o log spans notes seats d → HaveLeftMore o.origin d e
    → (p : PlaceNote) (head : List ℕ) →
    WritesRing (MayBeAdded unit_place_ring head) d e → length head ≡ unit_place_ring.width
    → IsPlaceIn o.origin log spans p head → has_failed_in log p.second ≡ true → (own : List ℕ)
    → length own ≡ place_width → IsPlaceOn spans p own → PlaceIsTaken o.origin log p own d e
    → VehiclesGo o.origin spans NoOtherComes d e → SessionsGo o.origin NoOtherComes d e →
    Ringed o log spans (notes ++ Enters p ∷ []) (λ c. None) e

-- ---- at the end

-- what a card tells of its last vehicle in a second of a recording
abbrev pub TellsOf : Recording → (began now : Devices) → (second : ℕ) → Card → List ℕ → ℕ → Type 0
TellsOf r began now u c registration time =
    IsPrevious r (card_of began c).clock (card_of now c) registration time
    × (TellsAtStart r c registration time ⊎ HasComeBefore (told_of r) r.trace c u)

-- an entry stands for an insertion of it
abbrev pub IsInsertionOf : Recording → List SpanFrom → (began now : Devices) → InsertionNote → List ℕ → Type 0
IsInsertionOf r spans began now n e = IsInsertion r.log spans (holder_of r) (TellsOf r began now n.accepted.second) n e

-- AN IMAGE SHOWS THE RINGS of a recording, as its auxiliary records are to show them.
pub record ShowsRingsOf (r : Recording) (spans : List SpanFrom) (began now : Devices) (x : List ℕ) : Type 0 where
  pub insertions : HasRing insertion_ring r.unit
      → RingShows insertion_ring (is_sure_insertion r.log spans (holder_of r)) (IsInsertionOf r spans began now)
      (insertions_of (notes_in r.log r.trace)) r.unit x
  pub places : HasRing unit_place_ring r.unit
      → RingShows unit_place_ring (is_sure_place r.log spans (holder_of r)) (IsPlace r.log spans (holder_of r))
      (places_of (notes_in r.log r.trace)) r.unit x

-- AT THE END of a run every image of the unit shows them, where a recording has its images at the start and its log,
-- and these are its notes.
abbrev pub RingsAreShown : (began now : Devices) → Type 0
RingsAreShown began now = (o : Since) (log : RunLog) (spans : List SpanFrom) (notes : List Note)
    (seats : Card → Option Seating) → Ringed o log spans notes seats now → (r : Recording)
    → r.unit ≡ o.origin.recording.unit → ((c : Card) → card_image r c ≡ card_image o.origin.recording c) →
    r.log ≡ log → r.trace ≡ o.trace → told_of r ≡ o.told → notes ≡ notes_in r.log r.trace
    → ((c : Card) → (found_of o.origin.found c).began ≡ (card_of began c).clock) → (x : List ℕ)
    → now.unit.may_leave x → ShowsRingsOf r spans began now x

-- and every image of a card shows its places
abbrev pub PlacesAreShown : (began now : Devices) → Type 0
PlacesAreShown began now = (o : Since) (log : RunLog) (spans : List SpanFrom) (notes : List Note)
    (seats : Card → Option Seating) → Ringed o log spans notes seats now → (r : Recording)
    → ((c : Card) → card_image r c ≡ card_image o.origin.recording c) →
    r.log ≡ log → notes ≡ notes_in r.log r.trace → (c : Card) → HasPlaces (card_image r c) → (x : List ℕ)
    → (card_of now c).may_leave x →
    RingShows (places_in (card_image r c)) (is_sure_on r.log) (IsPlaceOn spans)
    (places_on c (places_of (notes_in r.log r.trace))) (card_image r c) x
