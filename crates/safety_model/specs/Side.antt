-- What a run notes beside the minutes (profile): its notes and events, by its log and trace, and what an image of a
-- card tells of the vehicle before.
use Rattle.std.specs.Prelude.{◌≡◌, ℕ, Option, Some, None, List, [], ◌∷◌, replicate}
use Rattle.tach_media.specs.card_layout.Fields.{field_at}
use Rattle.device_rule.specs.trace_model.declared.Card.{Card}
use Rattle.tach_media.specs.Medium.{State}
use Rattle.device_rule.specs.unit_model.declared.layout.TheConstants.{SPEED_LIMIT}
use Rattle.device_rule.specs.unit_model.Image.{number_of}
use Rattle.device_rule.specs.card_files.declared.vehicle.Vehicle.{Vehicle}
use Rattle.device_rule.specs.Fields.{file_bytes, newest_vehicle}
use Rattle.device_rule.specs.Own.{own_sizes, own_number}
use Rattle.device_rule.specs.log_model.Course.{Visit}
use Rattle.note_model.specs.Done.{Done, done_of}
use Rattle.note_model.specs.Noted.{Note, notes_of}
use Rattle.note_model.specs.Rings.{Holder}
use Rattle.note_model.specs.event_model.Events.{Event, Tearing, events_of}
use Rattle.safety_model.specs.Recording.{Recording, card_image}

-- Identification (Appendix 2): issuing state, number, authority, issue, begin of validity, expiry, surname, first
-- names, birth date, language
abbrev pub identification_widths : List ℕ
identification_widths = 1 ∷ 16 ∷ 36 ∷ 4 ∷ 4 ∷ 4 ∷ 36 ∷ 36 ∷ 4 ∷ 2 ∷ []

module _ (r : Recording) where
  -- the bytes of a card's file Identification, by its image at the start
  abbrev pub identification : Card → List ℕ
  identification c = file_bytes (own_sizes (card_image r c)) 0x0520 (card_image r c)

  -- the holder of a card, by its image at the start
  abbrev pub holder_of : Card → Holder
  holder_of c = record {
    surname = field_at identification_widths 6 (identification c);
    first_names = field_at identification_widths 7 (identification c);
    number = own_number (card_image r c);
    expiry = field_at identification_widths 5 (identification c);
  }

  -- what was done in each second of the run
  abbrev pub done_in : List Done
  done_in = done_of r.log r.trace

  -- what the run notes
  abbrev pub notes_in : List Note
  notes_in = notes_of r.log done_in

  -- the events of a type that a run brings, where these session times were found open on the cards that were accepted,
  -- by second and visit, and the cards were torn out so
  abbrev pub events_in : (sessions : ℕ → Visit → ℕ) → Tearing → (kind : ℕ) → List Event
  events_in sessions t kind = events_of kind (number_of r.unit SPEED_LIMIT) sessions t r.log r.trace

  -- the vehicle and the time of the newest vehicle entry; zeros without one
  abbrev pub TellsVehicle : Option Vehicle → List ℕ → ℕ → Type 0
  TellsVehicle None registration time = (registration ≡ replicate 15 0) × (time ≡ 0)
  TellsVehicle (Some v) registration time = (registration ≡ v.registration.0) × (time ≡ v.last_use.0)

  -- the newest vehicle of a card that some image of it tells which it might have left since a clock
  abbrev pub IsPrevious : (since : ℕ) → State → List ℕ → ℕ → Type 0
  IsPrevious since card registration time =
      (y : List ℕ) × card.left_since since y × TellsVehicle (newest_vehicle (own_sizes y) y) registration time
