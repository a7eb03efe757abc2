-- What the keeping of minutes asks of a keeper and its devices, and what it does (profile).
use Rattle.std.specs.Prelude.{◌≡◌, ◌≢◌, ℕ, ◌+◌, ◌*◌, ◌/◌, ◌<◌, ◌≤◌, Bool, true, false, Option, None, IfSome, List, All}
use Rattle.std.specs.Prelude.{length, is_some}
use Rattle.trace_model.specs.declared.Card.{Card}
use Rattle.card_session.specs.declared.words.TheConstants.{LATEST_MINUTE}
use Rattle.unit_model.specs.minute_model.declared.Minute.{Minute}
use Rattle.unit_model.specs.declared.layout.TheConstants.{HIGHEST_ODOMETER}
use Rattle.unit_minutes.specs.declared.kept.KeptMinute.{KeptMinute}
use Rattle.card_slots.specs.declared.seats.Present.{Present}
use Rattle.card_slots.specs.Calls.{present_in}
use Rattle.run_crew.specs.Cabin.{CabinIsSound, MayBeKept}
use Rattle.run_minutes.specs.declared.keeper.Moment.{Moment}
use Rattle.run_minutes.specs.Keeping.{HaveRows, TellsPresent, is_this, most_tears}
use Rattle.run_minutes.specs.Minutes.{Round, Reach, IsMinute, IsReach, AreDue, AreKeptUpTo, kept_after}
use Rattle.run_minutes.specs.Books.{BooksMinute}
use Rattle.run_minutes.specs.Decided.{BooksAll}
use Rattle.run_minutes.specs.Faults.{NotesFaults, last_faults, faults_to}
use Rattle.run_minutes.specs.Stand.{Stand, told, cards_of}

-- a card is not the one that was present in a slot
abbrev pub IsAnother : Option Card → Card → Type 0
IsAnother present card = is_this present card ≡ false

-- a card was in no slot of a minute
abbrev pub IsAbsent : Present → Card → Type 0
IsAbsent present card = IsAnother present.driver card × IsAnother present.codriver card

-- A MINUTE MAY BE KEPT at a moment
pub record MayKeep (minute : KeptMinute) (present : Present) (at : Moment) (s : Stand) : Type 0 where
  pub rows : HaveRows (cards_of s) s.devices.unit present
  pub kept : MayBeKept (cards_of s) minute.minute present
  pub low : 1440 ≤ minute.minute
  pub later : s.keeper.journal.kept < minute.minute
  pub small : minute.minute ≤ LATEST_MINUTE
  pub odometer : minute.odometer.0 ≤ HIGHEST_ODOMETER
  pub early : s.keeper.cabin.slots.minute ≤ at.second / 60
  pub second : at.second ≢ 0
  pub marks : length s.marks.items + 3 ≤ s.marks.room
  pub breaks : length s.breaks.items + most_tears (cards_of s) ≤ s.breaks.room

-- IT WAS TO BE KEPT, and this came of it: by value, and in the book over devices that tell. The unit's mark is of a
-- moment in the call; where the unit failed before it had the minute, no write was begun on a card.
pub record Keeps (minute : KeptMinute) (present : Present) (at : Moment) (failed : Bool) (s t : Stand) : Type 0 where
  pub round : Option Round
  pub is : IsMinute present minute at failed (told s) (told t) s.devices.card_a t.devices.card_a s.devices.card_b
      t.devices.card_b round
  pub books : TellsPresent minute present
      → BooksMinute present minute failed round (told s) (told t) s.devices t.devices
  pub noted : NotesFaults failed (last_faults present at round s.keeper.cabin) s.devices.unit t.devices.unit
  pub last : failed ≡ false → t.keeper.journal.kept ≡ minute.minute
  pub clock : IfSome round (λ r. (s.devices.unit.clock ≤ r.clock) × (r.clock ≤ t.devices.unit.clock))
  pub spared : round ≡ None → (t.devices.card_a.clock ≡ s.devices.card_a.clock)
      × (t.devices.card_b.clock ≡ s.devices.card_b.clock)
  pub marks : length t.marks.items ≤ length s.marks.items + 3
  pub stands : (from : ℕ) (leaving : Option Card) → from ≤ minute.minute + 1 → CabinIsSound from leaving s.keeper.cabin
      → CabinIsSound (minute.minute + 1) leaving t.keeper.cabin

-- DECIDED MINUTES MAY BE KEPT, one after another
pub record MayKeepAll (decided : List Minute) (at : Moment) (s : Stand) : Type 0 where
  pub due : AreDue s.keeper.journal.kept decided
  pub ended : All (λ m. is_some (present_in s.keeper.cabin.slots.past m.minute) ≡ true) decided
  pub rows : All (λ m. IfSome (present_in s.keeper.cabin.slots.past m.minute) (HaveRows (cards_of s) s.devices.unit))
      decided
  pub from : ℕ
  pub leaving : Option Card
  pub late : All (λ m. from ≤ m.minute) decided
  pub stands : CabinIsSound from leaving s.keeper.cabin
  pub odometer : s.keeper.odometer ≤ HIGHEST_ODOMETER
  pub minute : s.keeper.cabin.slots.minute ≤ at.second / 60
  pub second : at.second ≢ 0
  pub marks : length s.marks.items + 3 * length decided ≤ s.marks.room
  pub breaks : length s.breaks.items + most_tears (cards_of s) ≤ s.breaks.room

-- THEY WERE TO BE KEPT, and it came so far
pub record KeepsAll (decided : List Minute) (at : Moment) (failed : Bool) (s t : Stand) : Type 0 where
  pub kept : AreKeptUpTo decided at failed (told s) (told t)
  pub reach : Reach
  pub is : IsReach decided at failed (told s) (told t) reach
  pub books : BooksAll decided failed reach (told s) (told t) s.devices t.devices
  pub noted : NotesFaults failed (faults_to s.keeper at reach (told s)) s.devices.unit t.devices.unit
  pub last : failed ≡ false → t.keeper.journal.kept ≡ kept_after s.keeper.journal.kept decided
  pub marks : length t.marks.items ≤ length s.marks.items + 3 * length decided
  pub stands : (from : ℕ) (leaving : Option Card) → All (λ m. from ≤ m.minute) decided
      → CabinIsSound from leaving s.keeper.cabin
      → (next : ℕ) → from ≤ next → kept_after s.keeper.journal.kept decided < next
      → CabinIsSound next leaving t.keeper.cabin
