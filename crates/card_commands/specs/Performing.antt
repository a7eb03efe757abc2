-- A card over a medium: what is so at every moment between two commands, and what a command does once it reads well.
use Rattle.std.specs.Prelude.{◌≡◌, ℕ, ◌+◌, ◌≤◌, ◌&&◌, ◌||◌, nat_le, Bool, true, false, Option, Result, List, [], ◌∷◌}
use Rattle.std.specs.Prelude.{length}
use Rattle.std.specs.Option.{ForSome}
use Rattle.card_layout.specs.declared.files.TheConstants.{APPLICATION_RANGE, LARGEST_IMAGE}
use Rattle.card_layout.specs.Application.{application_in}
use Rattle.card_layout.specs.declared.command.Command.{Command}
use Rattle.card_layout.specs.declared.command.CardState.{CardState}
use Rattle.card_layout.specs.declared.command.ElementaryFile.{ElementaryFile}
use Rattle.tach_media.specs.Medium.{State}
use Rattle.card_layout.specs.Outcomes.{outcome_from, result_needs_sizes, is_application, Fixes, IsData}

-- whether a range lies inside one of these: `LiesInside` as a test, since a fact that a struct keeps may have one proof
-- only
abbrev pub covers : List (ℕ × ℕ) → ℕ → ℕ → Bool
covers [] place len = false
covers (range ∷ ranges) place len = (nat_le range.0 place && nat_le (place + len) (range.0 + range.1))
    || covers ranges place len

-- A file of a card, inside the largest image. One that is updated stands behind Application_Identification.
pub record IsFile (file : ElementaryFile) : Type 0 where
  pub inside : file.range.base + file.range.len ≤ LARGEST_IMAGE
  pub behind : file.updated ≡ true → APPLICATION_RANGE.base + APPLICATION_RANGE.len ≤ file.range.base
  pub base : is_application file ≡ true → file.range.base ≡ APPLICATION_RANGE.base
  pub len : is_application file ≡ true → file.range.len ≡ APPLICATION_RANGE.len

-- A card's state, whether its medium is known to work, and what the medium tells.
pub record IsSound (card : CardState) (works : Bool) (s : State) : Type 0 where
  pub size : LARGEST_IMAGE ≤ s.size
  pub writable : covers s.writable 0 s.size ≡ true
  pub known : works ≡ true → s.works ≡ true
  pub selected : ForSome card.selected IsFile
  pub ten : ForSome card.application (λ bytes. length bytes ≡ APPLICATION_RANGE.len)
  -- the card goes by the bytes that each image has which a stop may leave
  pub agrees : ForSome card.application (λ bytes. (x : List ℕ) → s.may_leave x → application_in x ≡ bytes)

-- What comes of bytes that read as a command, or fail a check: the data, the status word and the state that follows.
pub record IsPerformed (read : Result Command ℕ) (image : Option (List ℕ)) (before after : CardState) (given : List ℕ)
    (status : ℕ) : Type 0 where
  pub sizes : Fixes (result_needs_sizes before read) image before.application after.application
  pub state : after ≡ (outcome_from (record before { application = after.application }) read).card
  pub given_is : IsData (outcome_from before read).effect image after.application given
  pub status_is : status ≡ (outcome_from (record before { application = after.application }) read).status
