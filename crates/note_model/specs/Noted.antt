-- The insertions, withdrawals and places that a run notes on the unit (profile).
use Rattle.std.specs.Prelude.{ℕ, ◌+◌, Bool, not, ◌&&◌, Option, Some, None, List, [], ◌∷◌, ◌++◌, map, filter, flat_map}
use Rattle.std.specs.Prelude.{fold, is_some, if◌then◌else◌}
use Rattle.std.specs.List.{list_any}
use Rattle.event_model.specs.activity_codec.declared.values.Slot.{Slot}
use Rattle.event_model.specs.trace_model.declared.Card.{Card}
use Rattle.event_model.specs.trace_model.declared.Action.{Action}
use Rattle.event_model.specs.trace_model.declared.Action.TheVariants.{Select, Insert, Withdraw, Tear, Place, Manual}
use Rattle.history_model.specs.log_model.Log.{RunLog, Phase, In, same_phase, is_torn_in, is_accepting}
use Rattle.history_model.specs.log_model.Slots.{Sitting, in_slot, same_card}
use Rattle.note_model.specs.Done.{CarriedOut, Done}

-- a card that was accepted
pub record Acceptance : Type 0 where
  pub second : ℕ
  pub slot : Slot
  pub card : Card

-- an accepted card that was withdrawn in order
pub record Withdrawal : Type 0 where
  pub second : ℕ
  pub card : Card

-- a place that the driver of a slot entered
pub record PlaceNote : Type 0 where
  pub second : ℕ
  pub card : Card
  pub ending : Bool
  pub country : ℕ
  pub region : ℕ

-- what a run notes, in its order
pub data Note : Type 0 where
  Accepts : Acceptance → Note
  Withdraws : Withdrawal → Note
  Enters : PlaceNote → Note

-- the cards that were accepted at a moment of a second
abbrev pub accepted_at : Done → Phase → List Note
accepted_at d p =
    map (λ f. Accepts (record { second = d.told.second.number; slot = f.0.slot; card = f.0.card }))
    (filter (λ f. same_phase f.0.phase p && is_accepting f.1) d.told.course.found)

-- the card of a sitting, where it is accepted
abbrev pub accepted_card : Option Sitting → List Card
accepted_card None = []
accepted_card (Some sitting) = if is_some sitting.accepted then sitting.card ∷ [] else []

-- what an action notes: an accepted card is withdrawn, if its own settling does not tear it; a place is entered
abbrev pub noted_by : RunLog → (second : ℕ) → CarriedOut → Action → List Note
noted_by log u a (Select slot pick) = []
noted_by log u a (Insert slot card) = []
noted_by log u a (Withdraw slot) =
    if is_torn_in log u (In (a.before + 1)) slot then []
    else map (λ card. Withdraws (record { second = u; card = card })) (accepted_card (in_slot a.slots slot))
noted_by log u a (Tear slot) = []
noted_by log u a (Place slot ending country region) =
    map (λ card. Enters (record { second = u; card = card; ending = ending; country = country; region = region }))
    (accepted_card (in_slot a.slots slot))
noted_by log u a (Manual slot pick minute) = []

-- what a second notes: the cards that its power-on accepted, then what each action notes and which cards it accepted
abbrev pub noted_in : RunLog → Done → List Note
noted_in log d = accepted_at d (In 0)
    ++ flat_map (λ a. noted_by log d.told.second.number a a.action ++ accepted_at d (In (a.before + 1))) d.carried

-- what the seconds of a run note, in order
unfoldable pub notes_of : RunLog → List Done → List Note
notes_of log done = flat_map (noted_in log) done

-- an insertion as the unit is to hold it: its acceptance, and the orderly withdrawal that followed, if one did
pub record InsertionNote : Type 0 where
  pub accepted : Acceptance
  pub withdrawn : Option ℕ

-- the last of these insertions of a card gets the second of its withdrawal
abbrev pub with_withdrawal : Withdrawal → List InsertionNote → List InsertionNote
with_withdrawal w [] = []
with_withdrawal w (i ∷ later) =
    if same_card i.accepted.card w.card && not (list_any (λ j. same_card j.accepted.card w.card) later)
    then record i { withdrawn = Some w.second } ∷ later
    else i ∷ with_withdrawal w later

-- the insertions with one note more
abbrev pub with_note : List InsertionNote → Note → List InsertionNote
with_note is (Accepts a) = is ++ record { accepted = a; withdrawn = None } ∷ []
with_note is (Withdraws w) = with_withdrawal w is
with_note is (Enters p) = is

-- the insertions of a run, in order
abbrev pub insertions_of : List Note → List InsertionNote
insertions_of notes = fold with_note [] notes

-- a note as a list of places: one where it is a place, else none
abbrev pub place_in : Note → List PlaceNote
place_in (Accepts a) = []
place_in (Withdraws w) = []
place_in (Enters p) = p ∷ []

-- the places among these notes, in order
abbrev pub places_of : List Note → List PlaceNote
places_of notes = flat_map place_in notes
