-- Images that a run might have left (profile).
use Rattle.std.specs.Prelude.{◌≢◌, ◌<◌, ◌/◌, ◌≡◌, Some}
use Rattle.card_layout.specs.Fields.{IsBytes}
use Rattle.trace_model.specs.Trace.{TraceSecond}
use Rattle.card_image.specs.Own.{own_number, IsOwnValid}
use Rattle.unit_model.specs.Image.{last_kept}
use Rattle.safety_model.specs.Recording.{Recording}
use Rattle.safety_model.specs.Safe.{Devices, first_of}

-- a recording begins with images that a stop might have left of the devices since a run began, each at a moment of its
-- own
pub record BeginsWithLeft (began now : Devices) (next : Recording) : Type 0 where
  pub of_unit : now.unit.left_since began.unit.clock next.unit
  pub of_a : now.card_a.left_since began.card_a.clock next.card_a
  pub of_b : now.card_b.left_since began.card_b.clock next.card_b

-- it begins with images of bytes
abbrev pub BeginsWithBytes : Recording → Type 0
BeginsWithBytes next = IsBytes next.unit × IsBytes next.card_a × IsBytes next.card_b

-- its first second is in a later minute than the last-kept one of the unit that it begins with
abbrev pub IsLaterRun : Recording → Type 0
IsLaterRun next = (s : TraceSecond) → first_of next.trace ≡ Some s → last_kept next.unit < s.number / 60

-- two valid cards have two numbers
abbrev pub HasTwoNumbers : Recording → Type 0
HasTwoNumbers r = IsOwnValid r.card_a → IsOwnValid r.card_b → own_number r.card_a ≢ own_number r.card_b
