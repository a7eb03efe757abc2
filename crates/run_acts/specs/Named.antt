-- Events name valid cards alone, by numbers of 18 bytes (Appendix 1, FullCardNumber).
use Rattle.std.specs.Prelude.{Option, Some, None, IfSome, List, ℕ, replicate}
use Rattle.std.specs.List.{AllByRecursion}
use Rattle.trace_model.specs.declared.Card.{Card}
use Rattle.card_files.specs.card_layout.declared.files.Fid.{Fid}
use Rattle.hand_model.specs.card_image.Own.{own_bad_file, IsOwnValid}
use Rattle.unit_notes.specs.event_model.Events.{Event, Crew}
use Rattle.device_calls.specs.safety_model.Recording.{card_image}
use Rattle.tacho_types.specs.declared.card_number.FullCardNumber.{FullCardNumber}
use Rattle.tacho_types.specs.CardNumber.{card_number_of}
use Rattle.run_minutes.specs.run_promise.Origin.{Origin}
use Rattle.run_note_record.specs.Evented.{number_in}

-- a card is valid at the start
abbrev pub ValidHere : Origin → Card → Type 0
ValidHere o c = IsOwnValid (card_image o.recording c)

-- cards of a moment are
pub record CrewValid (o : Origin) (crew : Crew) : Type 0 where
  pub driver : IfSome crew.driver (ValidHere o)
  pub codriver : IfSome crew.codriver (ValidHere o)

-- these events name valid cards alone
abbrev pub NamesValid : Origin → List Event → Type 0
NamesValid o es = AllByRecursion (λ e. CrewValid o e.at_begin × CrewValid o e.at_end) es

-- an image in place of one that is not valid, whose number has 18 bytes
abbrev pub spare : List ℕ
spare = replicate 400 0

-- an image, or that one in its place where a file of it is bad
abbrev pub by_fault : Option (Fid × ℕ) → List ℕ → List ℕ
by_fault None x = x
by_fault (Some bad) x = spare

-- by its first bad file, if it has one
abbrev pub image_or : List ℕ → List ℕ
image_or x = by_fault (own_bad_file x) x

-- a run with such cards in place of this one
abbrev pub named_as : Origin → Origin
named_as o = record o {
  recording = record
      o.recording { card_a = image_or o.recording.card_a; card_b = image_or o.recording.card_b };
}

-- the number by which a card is watched
abbrev pub watched_as : Origin → Card → FullCardNumber
watched_as o c = card_number_of (number_in (named_as o) c)
