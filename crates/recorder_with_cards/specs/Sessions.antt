-- Which session the cards tell in Current_Usage behind a run with cards, whatever calls failed (profile).
use Rattle.std.specs.Prelude.{List, ℕ}
use Rattle.trace_model.specs.declared.Card.{Card}
use Rattle.tach_media.specs.Medium.{State}
use Rattle.device_calls.specs.card_image.Own.{IsOwnValid}
use Rattle.device_calls.specs.safety_model.Recording.{Recording, card_image}
use Rattle.device_calls.specs.safety_model.Safe.{Devices, card_of}
use Rattle.device_calls.specs.safety_model.Side.{notes_in}
use Rattle.run_acts.specs.run_note_record.Moved.{moves_in}
use Rattle.run_acts.specs.run_note_record.Sessions.{MayTell, session_told}

-- an image of a card tells of the session that it is sure to have behind what the run has noted: that of its last
-- acceptance in a second in which no call failed, none where it was withdrawn since in a second in which no call on the
-- unit failed, or that of its image at the start; or a call failed in a second no earlier than these, and it tells of
-- none, or of that second, where it was put in then, and of none, where it was withdrawn then
abbrev pub TellsSession : Recording → Card → (x : List ℕ) → Type 0
TellsSession r c x = MayTell (moves_in r.log r.trace) r.log c (session_told (card_image r c) (card_image r c))
    (notes_in r) (session_told (card_image r c) x)

-- so does each that a stop may leave of a card that was valid at the start
abbrev pub KeepsSession : Recording → Card → State → Type 0
KeepsSession r c card = IsOwnValid (card_image r c) → (x : List ℕ) → card.may_leave x → TellsSession r c x

-- NO CARD TELLS OF A SESSION that was closed, nor of one that was not begun, whatever calls failed; and one that was
-- pulled out tells of its own still.
abbrev pub TellTheirSessions : Recording → (now : Devices) → Type 0
TellTheirSessions r now = (c : Card) → KeepsSession r c (card_of now c)
