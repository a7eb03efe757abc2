-- A call that writes a ring, and other bytes before and behind that.
use Rattle.std.proofs.Common.{◌≡◌, inl, ℕ, Option, Some, None, IfSome, List, [], ◌∷◌, ◌++◌, refl}
use Rattle.run_devices.specs.trace_model.declared.Card.{Card}
use Rattle.run_devices.specs.trace_model.declared.Card.TheVariants.{A, B}
use Rattle.run_events.specs.gated_ring.Change.{IsAdded}
use Rattle.run_events.specs.message_model.Records.{insertion_ring, unit_place_ring}
use Rattle.run_devices.specs.log_model.Log.{RunLog}
use Rattle.run_devices.specs.note_model.Odometer.{SpanFrom, odometer_at}
use Rattle.run_devices.specs.note_model.Noted.{Acceptance, Withdrawal, InsertionNote, PlaceNote, Note, Accepts, Withdraws, Enters}
use Rattle.run_devices.specs.safety_model.Recording.{card_image}
use Rattle.run_devices.specs.safety_model.Safe.{Devices, card_of}
use Rattle.run_devices.specs.run_promise.Found.{found_of}
use Rattle.run_note_record.specs.Beside.{HaveLeftMore}
use Rattle.run_note_record.specs.Ringed.{holder_in, TellsIn, IsInsertionIn, Seating, Ringed, HasSameRings, WritesRing, IsAddedAt, MayBeAdded, IsWithdrawnAt, MayBeWithdrawn, AnInsertionIsNoted, APlaceIsNoted, AWithdrawalIsNoted, AWithdrawalIsBroken, AnInsertionIsBroken, APlaceIsBroken, Since}
use Rattle.run_devices.specs.card_image.Own.{own_sizes}
use Rattle.run_devices.proofs.Measured.{goes-itself}
use Rattle.run_note_record.specs.OnCards.{PlacesStay, IsReadingOf, VehiclesGo, SessionsGo, NoOtherComes, CardsGo, CardsStay, PlaceIsTaken}
use Rattle.run_note_record.specs.Sessions.{IsBrokenSince, OpensIn, Ends, Opens, Shuts}
use Rattle.run_note_record.proofs.Sessions.{stay-may}
use Rattle.run_note_record.proofs.Stands.{insertion-as}
use Rattle.run_note_record.proofs.Rings.{rings-stay, go-on, tells-more, insertion-noted, insertion-broken, place-noted, place-broken}
use Rattle.run_note_record.proofs.Withdrawn.{withdrawal-noted, withdrawal-broken}

-- devices whose unit may have left these images
abbrev with-images : Devices → (List ℕ → Type 0) → Devices
with-images d images = record d { unit = record d.unit { may_leave = images } }

module _ (R : List ℕ → List ℕ → Type 0) (d e : Devices) where
  -- before it was written, and behind that
  abbrev pub before-it : Devices
  before-it = with-images d (λ p. (x : List ℕ) × d.unit.may_leave x × HasSameRings x p)

  abbrev pub behind-it : Devices
  behind-it = with-images e (λ q. (p : List ℕ) × before-it.unit.may_leave p × R p q)

  module _ (o : Since) where
    pub to-before : HaveLeftMore o.origin d before-it
    to-before = record { unit = λ x h. h; card = card }
      where
        card : (c : Card) (x : List ℕ) → (card_of d c).left_since (found_of o.origin.found c).began x → (card_of before-it c).left_since (found_of o.origin.found c).began x
        card A x h = h
        card B x h = h

    pub to-behind : HaveLeftMore o.origin d e → HaveLeftMore o.origin before-it behind-it
    to-behind more = record { unit = more.unit; card = card }
      where
        card : (c : Card) (x : List ℕ) → (card_of before-it c).left_since (found_of o.origin.found c).began x → (card_of behind-it c).left_since (found_of o.origin.found c).began x
        card A x h = more.card A x h
        card B x h = more.card B x h

    pub from-behind : HaveLeftMore o.origin behind-it e
    from-behind = record { unit = λ x h. h; card = card }
      where
        card : (c : Card) (x : List ℕ) → (card_of behind-it c).left_since (found_of o.origin.found c).began x → (card_of e c).left_since (found_of o.origin.found c).began x
        card A x h = h
        card B x h = h

    pub back-behind : HaveLeftMore o.origin e behind-it
    back-behind = record { unit = λ x h. h; card = card }
      where
        card : (c : Card) (x : List ℕ) → (card_of e c).left_since (found_of o.origin.found c).began x → (card_of behind-it c).left_since (found_of o.origin.found c).began x
        card A x h = h
        card B x h = h

    -- the cards
    pub stay-before : (spans : List SpanFrom) → CardsStay o.origin spans d before-it
    stay-before spans = record { places = places; vehicles = vehicles; sessions = sessions }
      where
        places : PlacesStay o.origin d before-it
        places A valid y left = (y, left, refl)
        places B valid y left = (y, left, refl)

        vehicles : VehiclesGo o.origin spans NoOtherComes d before-it
        vehicles A valid y left = (y, left, goes-itself (own_sizes (card_image o.origin.recording A)) (IsReadingOf spans (NoOtherComes A)) y)
        vehicles B valid y left = (y, left, goes-itself (own_sizes (card_image o.origin.recording B)) (IsReadingOf spans (NoOtherComes B)) y)

        sessions : SessionsGo o.origin NoOtherComes d before-it
        sessions A valid y left = (y, left, inl refl)
        sessions B valid y left = (y, left, inl refl)

    pub stay-from : (spans : List SpanFrom) → CardsStay o.origin spans behind-it e
    stay-from spans = record { places = places; vehicles = vehicles; sessions = sessions }
      where
        places : PlacesStay o.origin behind-it e
        places A valid y left = (y, left, refl)
        places B valid y left = (y, left, refl)

        vehicles : VehiclesGo o.origin spans NoOtherComes behind-it e
        vehicles A valid y left = (y, left, goes-itself (own_sizes (card_image o.origin.recording A)) (IsReadingOf spans (NoOtherComes A)) y)
        vehicles B valid y left = (y, left, goes-itself (own_sizes (card_image o.origin.recording B)) (IsReadingOf spans (NoOtherComes B)) y)

        sessions : SessionsGo o.origin NoOtherComes behind-it e
        sessions A valid y left = (y, left, inl refl)
        sessions B valid y left = (y, left, inl refl)

    pub go-between : (spans : List SpanFrom) (May : Card → ℕ → Type 0) → VehiclesGo o.origin spans May d e → VehiclesGo o.origin spans May before-it behind-it
    go-between spans May goes A = goes A
    go-between spans May goes B = goes B

    pub sessions-between : (May : Card → ℕ → Type 0) → SessionsGo o.origin May d e → SessionsGo o.origin May before-it behind-it
    sessions-between May goes A = goes A
    sessions-between May goes B = goes B

    pub cards-between : (spans : List SpanFrom) (May : Card → ℕ → Type 0) → CardsGo o.origin spans May d e → CardsGo o.origin spans May before-it behind-it
    cards-between spans May cards = record { places = places; vehicles = go-between spans May cards.vehicles; sessions = sessions-between May cards.sessions }
      where
        places : PlacesStay o.origin before-it behind-it
        places A = cards.places A
        places B = cards.places B

    pub opens-between : (log : RunLog) (a : Acceptance) → Opens o.origin log a e → Opens o.origin log a behind-it
    opens-between log a opens A = opens A
    opens-between log a opens B = opens B

    pub shuts-between : (log : RunLog) (w : Withdrawal) → Shuts o.origin log w e → Shuts o.origin log w behind-it
    shuts-between log w shuts A = shuts A
    shuts-between log w shuts B = shuts B

    pub taken-between : (log : RunLog) (p : PlaceNote) (own : List ℕ) → PlaceIsTaken o.origin log p own d e → PlaceIsTaken o.origin log p own before-it behind-it
    taken-between log p own is A = is A
    taken-between log p own is B = is B

    -- what is carried before it, and so behind all
    module _ (log : RunLog) (spans : List SpanFrom) (notes : List Note) (seats : Card → Option Seating) where
      pub ringed-before : Ringed o log spans notes seats d → Ringed o log spans notes seats before-it
      ringed-before v = rings-stay d before-it o log log spans spans notes seats v (λ p left. left) to-before (stay-may o.origin spans (λ c t. IsBrokenSince o.moves log c notes t) d before-it (stay-before spans)) (go-on log spans notes)

      pub ringed-behind : WritesRing R d e → Ringed o log spans notes seats behind-it → Ringed o log spans notes seats e
      ringed-behind writes v = rings-stay behind-it e o log log spans spans notes seats v
          (λ y left. let w = writes y left in (w.2.1, (w.2.0, (w.0, w.1, w.2.2), w.2.3), w.2.4)) from-behind (stay-may o.origin spans (λ c t. IsBrokenSince o.moves log c notes t) behind-it e (stay-from spans)) (go-on log spans notes)

      -- an entry tells of a card what its images do
      pub insertion-behind : (n : InsertionNote) (head : List ℕ) → IsInsertionIn o log spans e n head → IsInsertionIn o log spans behind-it n head
      insertion-behind n head is = (insertion-as log log spans spans (holder_in o.origin) (λ u has. has) (TellsIn o e n.accepted.second) (TellsIn o behind-it n.accepted.second) (tells-more o log log spans spans notes e behind-it back-behind (go-on log spans notes) n.accepted.second) n (refl, by n.withdrawn)).1 head is
        where
          by : (w : Option ℕ) → IfSome w (λ u. odometer_at u spans ≡ odometer_at u spans)
          by None = tt
          by (Some u) = refl

pub insertion-around : (d e : Devices) → AnInsertionIsNoted d e
insertion-around d e o log spans notes seats now v more a put cards opens head index writes full is each =
    ringed-behind (IsAddedAt index head) d e o log spans (notes ++ Accepts a ∷ []) now writes
    (insertion-noted (before-it (IsAddedAt index head) d e) (behind-it (IsAddedAt index head) d e) o log spans notes seats now (ringed-before (IsAddedAt index head) d e o log spans notes seats v) (to-behind (IsAddedAt index head) d e o more) a put (cards-between (IsAddedAt index head) d e o spans (OpensIn log a) cards) (opens-between (IsAddedAt index head) d e o log a opens) head index (λ q left. left) full
    (insertion-behind (IsAddedAt index head) d e o log spans notes seats (record { accepted = a; withdrawn = None }) head is) each)

pub place-around : (d e : Devices) → APlaceIsNoted d e
place-around d e o log spans notes seats v more p head writes full is own long on taken_ goes sessions_ =
    ringed-behind (IsAdded unit_place_ring head) d e o log spans (notes ++ Enters p ∷ []) seats writes
    (place-noted (before-it (IsAdded unit_place_ring head) d e) (behind-it (IsAdded unit_place_ring head) d e) o log spans notes seats (ringed-before (IsAdded unit_place_ring head) d e o log spans notes seats v) (to-behind (IsAdded unit_place_ring head) d e o more) p head (λ q left. left) full is own long on (taken-between (IsAdded unit_place_ring head) d e o log p own taken_) (go-between (IsAdded unit_place_ring head) d e o spans NoOtherComes goes) (sessions-between (IsAdded unit_place_ring head) d e o NoOtherComes sessions_))

pub withdrawal-around : (d e : Devices) → AWithdrawalIsNoted d e
withdrawal-around d e o log spans notes seats now v more w cards s at below time odometer second stood time_fits odometer_fits writes each shuts =
    ringed-behind (IsWithdrawnAt s time odometer) d e o log spans (notes ++ Withdraws w ∷ []) now writes
    (withdrawal-noted (before-it (IsWithdrawnAt s time odometer) d e) (behind-it (IsWithdrawnAt s time odometer) d e) o log spans notes seats now (ringed-before (IsWithdrawnAt s time odometer) d e o log spans notes seats v) (to-behind (IsWithdrawnAt s time odometer) d e o more) w (cards-between (IsWithdrawnAt s time odometer) d e o spans (Ends w.card) cards) s at below time odometer second stood time_fits odometer_fits (λ q left. left) each (shuts-between (IsWithdrawnAt s time odometer) d e o log w shuts))

pub insertion-cut : (d e : Devices) → AnInsertionIsBroken d e
insertion-cut d e o log spans notes seats v more a put cards head writes full is has =
    ringed-behind (MayBeAdded insertion_ring head) d e o log spans (notes ++ Accepts a ∷ []) (λ c. None) writes
    (insertion-broken (before-it (MayBeAdded insertion_ring head) d e) (behind-it (MayBeAdded insertion_ring head) d e) o log spans notes seats (ringed-before (MayBeAdded insertion_ring head) d e o log spans notes seats v) (to-behind (MayBeAdded insertion_ring head) d e o more) a put (cards-between (MayBeAdded insertion_ring head) d e o spans (OpensIn log a) cards) head (λ q left. left) full
    (insertion-behind (MayBeAdded insertion_ring head) d e o log spans notes seats (record { accepted = a; withdrawn = None }) head is) has)

pub place-cut : (d e : Devices) → APlaceIsBroken d e
place-cut d e o log spans notes seats v more p head writes full is has own long on taken_ goes sessions_ =
    ringed-behind (MayBeAdded unit_place_ring head) d e o log spans (notes ++ Enters p ∷ []) (λ c. None) writes
    (place-broken (before-it (MayBeAdded unit_place_ring head) d e) (behind-it (MayBeAdded unit_place_ring head) d e) o log spans notes seats (ringed-before (MayBeAdded unit_place_ring head) d e o log spans notes seats v) (to-behind (MayBeAdded unit_place_ring head) d e o more) p head (λ q left. left) full is has own long on (taken-between (MayBeAdded unit_place_ring head) d e o log p own taken_) (go-between (MayBeAdded unit_place_ring head) d e o spans NoOtherComes goes) (sessions-between (MayBeAdded unit_place_ring head) d e o NoOtherComes sessions_))

pub withdrawal-cut : (d e : Devices) → AWithdrawalIsBroken d e
withdrawal-cut d e o log spans notes seats v more w cards s at below time odometer second stood time_fits odometer_fits writes has =
    ringed-behind (MayBeWithdrawn s time odometer) d e o log spans (notes ++ Withdraws w ∷ []) (λ c. None) writes
    (withdrawal-broken (before-it (MayBeWithdrawn s time odometer) d e) (behind-it (MayBeWithdrawn s time odometer) d e) o log spans notes seats (ringed-before (MayBeWithdrawn s time odometer) d e o log spans notes seats v) (to-behind (MayBeWithdrawn s time odometer) d e o more) w (cards-between (MayBeWithdrawn s time odometer) d e o spans (Ends w.card) cards) s at below time odometer second stood time_fits odometer_fits (λ q left. left) has)
