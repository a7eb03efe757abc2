-- What the calls on the two slots so far say of the cards: where each sits, when it left, and in which minutes it was
-- present (profile).
use Rattle.std.specs.Prelude.{◌≡◌, ℕ, ◌+◌, ◌/◌, Bool, false, not, ◌&&◌, Option, Some, None, List, [], ◌∷◌, ◌++◌, find}
use Rattle.std.specs.Prelude.{fold, nat_eq, nat_lt, is_some, option_map, if◌then◌else◌}
use Rattle.std.specs.List.{list_any}
use Rattle.activity_codec.specs.declared.values.Slot.{Slot}
use Rattle.activity_codec.specs.declared.values.Slot.TheVariants.{Driver, CoDriver}
use Rattle.trace_model.specs.declared.Card.{Card}
use Rattle.log_model.specs.Slots.{Sitting, same_card}
use Rattle.log_model.specs.Slots as log
use Rattle.card_slots.specs.declared.seats.Seat.{Seat}
use Rattle.card_slots.specs.declared.seats.Present.{Present}
use Rattle.card_slots.specs.declared.seats.Ended.{Ended}

-- a card is put into a slot, accepted where its newest minute is told; the card of a slot is taken out in a second;
-- power is lost in a second; a minute ends
pub data SlotCall : Type 0 where
  Put : Slot → Card → Option ℕ → SlotCall
  Take : Slot → ℕ → SlotCall
  CutAt : ℕ → SlotCall
  EndMinute : ℕ → SlotCall

-- what sits in the two slots
pub record Seats : Type 0 where
  pub driver : Option Seat
  pub codriver : Option Seat

-- what sits in one of the slots
abbrev pub seat_in : Seats → Slot → Option Seat
seat_in seats Driver = seats.driver
seat_in seats CoDriver = seats.codriver

-- the slots, of which one has this
abbrev pub with_seat : Seats → Slot → Option Seat → Seats
with_seat seats Driver seat = record seats { driver = seat }
with_seat seats CoDriver seat = record seats { codriver = seat }

-- the card of a slot
abbrev pub card_in : Option Seat → Option Card
card_in None = None
card_in (Some seat) = Some seat.card

-- this card is in the slot
abbrev pub is_card : Option Seat → Card → Bool
is_card None card = false
is_card (Some seat) card = same_card seat.card card

-- an accepted card is in the slot
abbrev pub has_accepted : Option Seat → Bool
has_accepted None = false
has_accepted (Some seat) = is_some seat.newest

-- its card is not accepted any more
abbrev pub powerless : Option Seat → Option Seat
powerless None = None
powerless (Some seat) = Some (record { card = seat.card; newest = None })

-- the slots as a run log has them, with the newest minute in the place of the second of acceptance, which no refusal
-- looks at
abbrev pub sitting_of : Option Seat → Option Sitting
sitting_of None = None
sitting_of (Some seat) = Some (record { card = seat.card; accepted = seat.newest })

-- both slots so
abbrev pub logged : Seats → log.Slots
logged seats = record { driver = sitting_of seats.driver; codriver = sitting_of seats.codriver }

-- a slot of a run log has the same card, accepted alike
abbrev pub SitsAlike : Option Seat → Option Sitting → Type 0
SitsAlike None None = Unit {0}
SitsAlike None (Some sitting) = ⊥
SitsAlike (Some seat) None = ⊥
SitsAlike (Some seat) (Some sitting) = (seat.card ≡ sitting.card) × (is_some seat.newest ≡ is_some sitting.accepted)

-- the slots of a run log have the same cards, accepted alike
pub record Agrees (seats : Seats) (slots : log.Slots) : Type 0 where
  pub driver : SitsAlike seats.driver slots.driver
  pub codriver : SitsAlike seats.codriver slots.codriver

-- the slots now, every leaving or loss of power with its minute, and every minute that has ended, the newest first
pub record Table : Type 0 where
  pub minute : ℕ
  pub seats : Seats
  pub left : List (Card × ℕ)
  pub ended : List Ended

-- the card of a slot leaves in a minute
abbrev pub leaving : ℕ → Option Seat → List (Card × ℕ)
leaving minute None = []
leaving minute (Some seat) = (seat.card, minute) ∷ []

-- a card left in a minute
abbrev pub has_left : List (Card × ℕ) → Card → ℕ → Bool
has_left left card minute = list_any (λ l. same_card l.0 card && nat_eq l.1 minute) left

-- it was accepted, and its newest minute was earlier
abbrev pub is_earlier : Option ℕ → ℕ → Bool
is_earlier None minute = false
is_earlier (Some newest) minute = nat_lt newest minute

-- the card that sits in a slot at the end of a minute, where it is present in it
abbrev pub present_of : (Card → ℕ → Bool) → ℕ → Option Seat → Option Card
present_of left minute None = None
present_of left minute (Some seat) = if is_earlier seat.newest minute && not (left seat.card minute) then Some seat.card
    else None

-- a minute ends with these cards present
abbrev pub ending : (Card → ℕ → Bool) → ℕ → Seats → Ended
ending left minute seats = record {
  minute = minute;
  present = record { driver = present_of left minute seats.driver; codriver = present_of left minute seats.codriver };
}

-- what a call makes of them
abbrev pub after_call : Table → SlotCall → Table
after_call t (Put slot card newest) = record
    t { seats = with_seat t.seats slot (Some (record { card = card; newest = newest })) }
after_call t (Take slot second) = record {
  minute = second / 60;
  seats = with_seat t.seats slot None;
  left = t.left ++ leaving (second / 60) (seat_in t.seats slot);
  ended = t.ended;
}
after_call t (CutAt second) = record {
  minute = second / 60;
  seats = record { driver = powerless t.seats.driver; codriver = powerless t.seats.codriver };
  left = t.left ++ leaving (second / 60) t.seats.driver ++ leaving (second / 60) t.seats.codriver;
  ended = t.ended;
}
after_call t (EndMinute minute) = record {
  minute = minute + 1;
  seats = t.seats;
  left = t.left;
  ended = ending (has_left t.left) minute t.seats ∷ t.ended;
}

-- before the first call
abbrev pub no_call : Table
no_call = record { minute = 0; seats = record { driver = None; codriver = None }; left = []; ended = [] }

-- what all calls so far leave
unfoldable pub table_of : List SlotCall → Table
table_of calls = fold after_call no_call calls

-- the ended minute of this number
abbrev pub ended_in : List Ended → ℕ → Option Ended
ended_in ended minute = find (λ e. nat_eq e.minute minute) ended

-- the cards that were present in it
abbrev pub present_in : List Ended → ℕ → Option Present
present_in ended minute = option_map {T = Ended} (λ e. e.present) (ended_in ended minute)

-- the cards that were present in a minute, by the calls so far, where it has ended
abbrev pub present_by : List SlotCall → ℕ → Option Present
present_by calls minute = present_in (table_of calls).ended minute
