-- An insertion of a card that a stop has broken off, and that is begun again (profile).
use Rattle.std.specs.Prelude.{◌≡◌, ℕ, List}
use Rattle.activity_codec.specs.declared.entries.Entry.{Entry}
use Rattle.tacho_types.specs.declared.texts.Registration.{Registration}
use Rattle.card_retention.specs.Shown.{AllUpTo}
use Rattle.card_image.specs.Fields.{end_mark}
use Rattle.card_image.specs.Own.{own_sizes}
use Rattle.card_session.specs.Sessions.{Session, IsSession}
use Rattle.card_session.specs.Inserting.{IsCardInserted, IsCardInserting}
use Rattle.card_session.specs.Repairs.{lacked_by}
use Rattle.safety_laws.specs.Whole.{MayBegin, brought_in, IsShown}

-- of the owed entries an insertion brings all that the card lacks: so it is where a session was left open, and where
-- the card lacks none
abbrev pub BringsAll : (image : List ℕ) → (owed : List Entry) → Type 0
BringsAll image owed = lacked_by (own_sizes image) image owed ≡ brought_in image owed

-- A STOP in an insertion of a card with this image has left that one.
pub record IsBrokenOff (image : List ℕ) (owed : List Entry) (left : List ℕ) : Type 0 where
  pub registration : Registration
  pub odometer : ℕ
  pub now : ℕ
  pub may : MayBegin registration now owed
  pub moment : IsCardInserting (own_sizes image) registration odometer owed now image left

-- ANOTHER INSERTION of the card that was left, which is handed the same owed entries, in whatever second and vehicle,
-- has ended so.
pub record IsBegunAgain (image : List ℕ) (owed : List Entry) (left ended : List ℕ) : Type 0 where
  pub registration : Registration
  pub odometer : ℕ
  pub now : ℕ
  pub may : MayBegin registration now owed
  pub done : IsCardInserted (own_sizes image) registration odometer owed now left ended
  pub session : Session
  pub same : session.application ≡ own_sizes image
  pub knows : IsSession session ended

-- What an insertion ends with that is not stopped: the card shows its own entries and all that were brought, but for
-- what the stated overwriting took.
abbrev pub EndsWith : (image : List ℕ) → (brought : List Entry) → List ℕ → Type 0
EndsWith image brought x = IsShown image brought x × AllUpTo (end_mark (own_sizes image) x) brought
