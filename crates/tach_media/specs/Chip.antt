-- What a command does to what a card tells of its flat image.
use Rattle.std.specs.Prelude.{◌≡◌, ℕ, ◌+◌, ◌<◌, ◌≤◌, Bool, false, option_map, List, length}
use Rattle.card_layout.specs.Outcomes.{Effect, nothing, gives, puts}
use Rattle.tach_media.specs.Medium.{State, LeavesOnly, Reads, IsSettled, HasCause, IsPartlyWritten, put, Rose}
use Rattle.tach_media.specs.Medium.{last_count, most_writes}

-- What a call does that writes these bytes at a place.
pub record WritesAt (place : ℕ) (bytes : List ℕ) (old new : State) (failed : Bool) : Type 0 where
  pub written : failed ≡ false → new.image ≡ option_map (put place bytes) old.image
  pub leaves : LeavesOnly old new (IsPartlyWritten place bytes)
  pub settled : failed ≡ false → new.clock < last_count → IsSettled new
  pub clock : failed ≡ false → Rose old.clock new.clock
  pub few : new.clock ≤ old.clock + most_writes (length bytes)
  pub cause : HasCause old new failed

-- what a command does to the image: each but an UPDATE BINARY that is done is a read
abbrev pub Does : Effect → State → State → Bool → Type 0
Does nothing old new failed = Reads old new failed
Does (gives file offset len) old new failed = Reads old new failed
Does (puts place bytes) old new failed = WritesAt place bytes old new failed
