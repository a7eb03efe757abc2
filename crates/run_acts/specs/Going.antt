-- What is known of a run between two calls, whatever its devices tell (profile).
use Rattle.std.specs.Prelude.{◌≡◌, ℕ, ◌-◌, ◌/◌, ◌<◌, ◌≤◌, ◌^◌, true, false, Option, None, Ok, IfSome, is_some, ◌+◌, ◌%◌}
use Rattle.trace_model.specs.declared.Card.{Card}
use Rattle.tach_media.specs.Medium.{State}
use Rattle.card_files.specs.card_layout.declared.command.CardState.{CardState}
use Rattle.card_files.specs.card_layout.declared.files.Application.{Application}
use Rattle.card_files.specs.card_layout.declared.files.TheConstants.{LARGEST_IMAGE}
use Rattle.device_calls.specs.card_commands.Ports.{IsPort}
use Rattle.run_events.specs.message_model.Records.{insertion_ring}
use Rattle.unit_model.specs.minute_model.Span.{Span, end_of, ungiven_of}
use Rattle.minute_rules.specs.Kept.{CountsSpan}
use Rattle.unit_model.specs.declared.layout.TheConstants.{HIGHEST_ODOMETER}
use Rattle.unit_model.specs.Image.{IsUnit}
use Rattle.run_crew.specs.card_slots.Calls.{present_in}
use Rattle.run_crew.specs.declared.cards.Known.{Known}
use Rattle.run_crew.specs.declared.cabin.Cabin.{Cabin}
use Rattle.run_crew.specs.Cards.{session_of}
use Rattle.run_crew.specs.Cabin.{CabinIsSound, KnowsEnded}
use Rattle.run_events.specs.Watching.{Watches}
use Rattle.run_events.specs.Blocks.{KnowsNewest}
use Rattle.run_minutes.specs.Keeping.{DevicesMayBeCalled, HasItsRow, HaveRows}
use Rattle.run_opening.specs.declared.fault.RunFault.{RunFault}
use Rattle.run_opening.specs.declared.fault.RunFault.TheVariants.{MediumFault, BadUnit, ClockBack, SameCard}
use Rattle.run_acts.specs.declared.run.Power.TheVariants.{Lit}
use Rattle.run_acts.specs.declared.run.Run.{Run}
use Rattle.run_acts.specs.Power.{is_lit}

-- the largest number of four bytes
abbrev pub largest_number : ℕ
largest_number = 2 ^ 32 - 1

-- the seconds that a trace can have: from this one, that of the second day's begin, on
abbrev pub first_second : ℕ
first_second = 86400

-- and before this one: a day after each of them is told in four bytes still
abbrev pub end_of_seconds : ℕ
end_of_seconds = 2 ^ 32 - 86400

-- a card: it can be read anew, and a port may be made over it by the sizes that are known of it
pub record CardAt (known : Known) (chip : CardState) (card : State) : Type 0 where
  pub port : (app : Application) → known.sizes ≡ Ok app → IsPort app None chip card
  pub size : LARGEST_IMAGE ≤ card.size

-- slots and sessions go together, by some minute; a card may be leaving
abbrev pub StandSomehow : Cabin → Type 0
StandSomehow cabin = (from : ℕ) × (leaving : Option Card) × CabinIsSound from leaving cabin

-- WHATEVER HAS FAILED: power can be lost now. No second's minute before this one is spoken of any more.
pub record CanBeCut (to : ℕ) (run : Run) (unit : State) (chip_a chip_b : CardState) (a b : State) : Type 0 where
  pub is_unit : IsUnit unit
  pub odometer : run.keeper.odometer ≤ HIGHEST_ODOMETER
  pub minute : run.keeper.cabin.slots.minute ≤ to
  pub card_a : CardAt run.keeper.cabin.cards.a chip_a a
  pub card_b : CardAt run.keeper.cabin.cards.b chip_b b
  pub stand : StandSomehow run.keeper.cabin

-- without power: no card is accepted
pub record IsDark (cabin : Cabin) : Type 0 where
  pub stands : (from : ℕ) → CabinIsSound from None cabin
  pub bare : (card : Card) → session_of cabin.cards card ≡ None

-- WITH POWER: unit and cards may be called; the minutes stand for the seconds of a span up to the next one, and none
-- that they have not given yet is kept, or is one that may not be known. A card may be leaving.
pub record RunHasPower (leaving : Option Card) (to : ℕ) (run : Run) (unit : State) (chip_a chip_b : CardState)
    (a b : State) : Type 0 where
  pub ready : DevicesMayBeCalled run.keeper unit chip_a chip_b a b
  pub span : Span
  pub stands : CountsSpan run.minutes span
  pub next : end_of span ≡ run.next
  pub low : first_second ≤ span.first
  pub due : ungiven_of span ≤ to
  pub later : run.keeper.journal.kept < ungiven_of span
  pub cabin : CabinIsSound (ungiven_of span) leaving run.keeper.cabin
  pub ended : KnowsEnded (ungiven_of span) to run.keeper.cabin.slots
  -- each accepted card, and each that was present in a minute that is to be kept, has its row in the unit
  pub rows : (card : Card) → is_some (session_of run.keeper.cabin.cards card) ≡ true
      → HasItsRow run.keeper.cabin.cards unit card
  pub present : (m : ℕ) → ungiven_of span ≤ m
      → IfSome (present_in run.keeper.cabin.slots.past m) (HaveRows run.keeper.cabin.cards unit)
  -- the entry of each insertion is one of the ring
  pub entries : (card : Card) → IfSome (session_of run.keeper.cabin.cards card)
      (λ s. (s.entry < insertion_ring.count) × (s.noted ≤ run.noted))
  -- its events are watched up to the next second
  pub watches : Watches run.watch run.next
  pub limit : run.watch.limit ≡ run.watch.over.limit
  -- the newest block of detailed speed that it has added stands at the pointer of the unit's ring
  pub newest : KnowsNewest run.watch.newest unit

-- with power, and no card is leaving
abbrev pub RunHasPowerAllSeated : (to : ℕ) → Run → (unit : State) → (chip_a chip_b : CardState) → (a b : State) → Type 0
RunHasPowerAllSeated to run unit chip_a chip_b a b = RunHasPower None to run unit chip_a chip_b a b

-- WITH POWER, IN A SECOND: unit and cards may be called, and whatever fails, power can be lost
pub record IsActing (run : Run) (unit : State) (chip_a chip_b : CardState) (a b : State) : Type 0 where
  pub lit : run.power ≡ Lit
  pub low : first_second ≤ run.next
  pub small : run.next ≤ end_of_seconds
  pub held : CanBeCut (run.next / 60) run unit chip_a chip_b a b
  pub going : RunHasPowerAllSeated (run.next / 60) run unit chip_a chip_b a b

-- a run, where the minutes before this one may be over
pub record IsAt (to : ℕ) (run : Run) (unit : State) (chip_a chip_b : CardState) (a b : State) : Type 0 where
  pub low : first_second ≤ run.next
  pub small : run.next ≤ end_of_seconds
  pub held : CanBeCut to run unit chip_a chip_b a b
  pub dark : is_lit run.power ≡ false → IsDark run.keeper.cabin
  pub lit : is_lit run.power ≡ true → RunHasPowerAllSeated to run unit chip_a chip_b a b

-- BETWEEN TWO SECONDS
abbrev pub IsBetweenSeconds : Run → (unit : State) → (chip_a chip_b : CardState) → (a b : State) → Type 0
IsBetweenSeconds run unit chip_a chip_b a b = IsAt ((run.next - 1) / 60) run unit chip_a chip_b a b

-- WITHIN A SECOND, once it has begun
abbrev pub IsInsideSecond : Run → (unit : State) → (chip_a chip_b : CardState) → (a b : State) → Type 0
IsInsideSecond run unit chip_a chip_b a b = IsAt (run.next / 60) run unit chip_a chip_b a b

-- Behind the opening no failed call refuses a run, since that is a cut; a unit that is read anew may: its image does
-- not decode, or the minute of the second is not later than its last-kept one.
abbrev pub IsFoundLater : RunFault → Type 0
IsFoundLater (MediumFault device) = ⊥
IsFoundLater (BadUnit place) = Unit {0}
IsFoundLater (ClockBack kept second) = second / 60 ≤ kept
IsFoundLater (SameCard number) = ⊥

-- WITH POWER, IN A SECOND, whatever is noted in it: it is no earlier than the first one, and whatever fails power can
-- be lost
pub record HasPowerInSecond (run : Run) (unit : State) (chip_a chip_b : CardState) (a b : State) : Type 0 where
  pub lit : run.power ≡ Lit
  pub low : first_second ≤ run.next
  pub held : CanBeCut (run.next / 60) run unit chip_a chip_b a b
  pub going : RunHasPowerAllSeated (run.next / 60) run unit chip_a chip_b a b

-- THE MINUTES BEFORE ITS OWN MAY BE SETTLED in a second with power, whatever card is leaving its slot
pub record MaySettle (run : Run) (unit : State) (chip_a chip_b : CardState) (a b : State) : Type 0 where
  pub lit : run.power ≡ Lit
  pub low : first_second ≤ run.next
  pub small : run.next ≤ end_of_seconds
  pub held : CanBeCut (run.next / 60) run unit chip_a chip_b a b
  pub going : (leaving : Option Card) × RunHasPower leaving (run.next / 60) run unit chip_a chip_b a b

-- SO MANY SECONDS MAY BE TURNED at once, from this one on: there are some, all of one minute, and the formats can tell
-- each
pub record IsStretch (n next : ℕ) : Type 0 where
  pub some : 0 < n
  pub minute : next % 60 + n ≤ 60
  pub small : next + n ≤ end_of_seconds
