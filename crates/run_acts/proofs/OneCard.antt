-- One of the two cards with its device, and the other one's state.
use Rattle.std.proofs.Common.{◌≡◌, ◌≤◌, ℕ, Bool, true, false, List, [], None, Some, refl, sym, subst, ◌+◌, ◌/◌, Option, ap, arith, is_some, length, ◌∙◌}
use Rattle.run_minutes.specs.Later.{AreCalm, AreLater, IsCalm, IsLater}
use Rattle.run_acts.specs.Devices.{AreLeftMore}
use Rattle.log_model.specs.declared.lines.Break.{Break}
use Rattle.trace_model.specs.declared.Card.{Card}
use Rattle.card_files.specs.card_layout.declared.command.CardState.{CardState}
use Rattle.run_crew.specs.declared.cards.Cards.{Cards}
use Rattle.device_calls.specs.safety_model.Safe.{Devices, card_of}
use Rattle.tach_media.specs.declared.fault.Failed.{Failed}
use Rattle.run_minutes.specs.Keeping.{HasLeftMore, CardMayBeCalled, HasItsRow, UnitMayBeCalled, SessionsGoOn}
use Rattle.tach_media.specs.Medium.{IsCoherent, State, HasCause, HasBroken}
use Rattle.trace_model.specs.declared.Card.TheVariants.{A, B}
use Rattle.run_crew.specs.declared.cards.Known.{Known}
use Rattle.card_files.specs.card_layout.declared.files.TheConstants.{LARGEST_IMAGE}
use Rattle.run_outcome.specs.Lines.{Listed}
use Rattle.run_acts.specs.CardNotes.{NotesOn, NotesOnCards}
use Rattle.std.specs.Prelude.{Result}
use Rattle.run_acts.specs.declared.run.Run.{Run}
use Rattle.run_minutes.specs.run_devices.Told.{arranged}
use Rattle.run_acts.proofs.CardNotes.{both-cards, on-none}
use Rattle.run_minutes.proofs.Calm.{calm-of-a, calm-of-b, card-by}
use Rattle.run_minutes.specs.run_promise.Between.{devices}
use Rattle.run_crew.specs.Cards.{known_of, session_of}
use Rattle.run_events.specs.run_speeds.Speeds.{LeavesSpeeds}
use Rattle.run_events.specs.Blocks.{KnowsNewest}
use Rattle.run_minutes.proofs.Later.{later-of-a, later-of-b}
use Rattle.run_acts.proofs.RingedSecond.{left-after}
use Rattle.run_acts.proofs.Cabins.{noted-a, noted-b, noted_cabin, at-same, cabin-going, cabin-held, keeper-only, noted-falls, noted-is, noted-minute, noted-past, noted-sessions, ready-same}
use Rattle.device_calls.specs.device_rule.Views.{other}
use Rattle.log_model.specs.Slots.{same_card}
use Rattle.run_acts.specs.Going.{CanBeCut, RunHasPowerAllSeated, RunHasPower, StandSomehow}
use Rattle.run_acts.specs.Acting.{IsNotedOn, noted_breaks, Closing, IsClosed, closed_cabin}
use Rattle.unit_model.specs.Image.{IsUnit}
use Rattle.run_minutes.specs.declared.keeper.Moment.{Moment}
use Rattle.activity_codec.specs.declared.values.Slot.{Slot}
use Rattle.run_crew.specs.Cabin.{CabinIsSound}
use Rattle.run_acts.specs.Room.{falls_of}
use Rattle.run_minutes.proofs.Counts.{lines-length}
use Rattle.unit_model.specs.minute_model.Span.{ungiven_of}
use Rattle.run_acts.specs.Power.{with_cabin}
use Rattle.run_crew.specs.declared.cabin.Cabin.{Cabin}
use Rattle.run_acts.proofs.Leaving.{closed-a, closed-b, closed-minute, closed-past, closed-sessions}

-- a call on one card: how its device stood before and behind it, and what it did to unit, run and breaks
pub record OneCard (card : Card) (a b : State) : Type 1 where
  pub which : Card
  pub is : card ≡ which
  pub S : Type 0
  pub state : S → State
  pub chip : S → CardState
  pub before : S
  pub after : S
  pub whole : IsCoherent (state before)
  pub whole_after : IsCoherent (state after)
  pub size : LARGEST_IMAGE ≤ (state before).size
  pub beside : State
  pub beside_it : (unit : State) → devices unit a b ≡ arranged which unit (state before) beside
  pub unit : State
  pub unit_whole : IsCoherent unit
  pub new : Run
  pub breaks : Listed Break
  pub result : Result (Unit {0}) Failed

-- the call is on card a, or on card b
module _ {S : Type 0} (state : S → State) (chip : S → CardState) (whole : (s : S) → IsCoherent (state s)) (before after : S) (size : LARGEST_IMAGE ≤ (state before).size) (beside unit : State) (unit_whole : IsCoherent unit) (new : Run) (breaks : Listed Break) (result : Result (Unit {0}) Failed) where
  abbrev pub on_a : (card : Card) → card ≡ A → OneCard card (state before) beside
  on_a card is = record {
    which = A;
    is = is;
    S = S;
    state = state;
    chip = chip;
    before = before;
    after = after;
    whole = whole before;
    whole_after = whole after;
    size = size;
    beside = beside;
    beside_it = λ unit_. refl;
    unit = unit;
    unit_whole = unit_whole;
    new = new;
    breaks = breaks;
    result = result;
  }

  abbrev pub on_b : (card : Card) → card ≡ B → OneCard card beside (state before)
  on_b card is = record {
    which = B;
    is = is;
    S = S;
    state = state;
    chip = chip;
    before = before;
    after = after;
    whole = whole before;
    whole_after = whole after;
    size = size;
    beside = beside;
    beside_it = λ unit_. refl;
    unit = unit;
    unit_whole = unit_whole;
    new = new;
    breaks = breaks;
    result = result;
  }

-- ---- the three devices, whichever card it is

pub unit-is : (card : Card) (U X Z : State) → U ≡ (arranged card U X Z).unit
unit-is A U X Z = refl
unit-is B U X Z = refl

pub card-is : (card : Card) (U X Z : State) → X ≡ card_of (arranged card U X Z) card
card-is A U X Z = refl
card-is B U X Z = refl

pub later-by : (card : Card) (U V X Y Z : State) → IsLater U V → IsLater X Y → LeavesSpeeds U V → AreLater (arranged card U X Z) (arranged card V Y Z)
later-by A U V X Y Z unit mine speeds = later-of-a U V X Y Z unit mine speeds
later-by B U V X Y Z unit mine speeds = later-of-b U V Z X Y unit mine speeds

pub calm-by : (card : Card) {before after : List Break} (U V X Y Z : State) → IsCalm before after X Y → AreCalm before after (arranged card U X Z) (arranged card V Y Z)
calm-by A U V X Y Z mine = calm-of-a U V X Y Z mine
calm-by B U V X Y Z mine = calm-of-b U V Z X Y mine

-- what was left before stays, where the unit and this card leave no less
pub keeps-by : (card : Card) (d : Devices) (U V X Y Z : State) → AreLeftMore d (arranged card U X Z) → AreLater d (arranged card U X Z) → HasLeftMore U V → HasLeftMore X Y → AreLeftMore d (arranged card V Y Z)
keeps-by A d U V X Y Z keeps later unit mine = record { unit = left-after d.unit U V keeps.unit later.unit.clock unit; card_a = left-after d.card_a X Y keeps.card_a later.card_a.clock mine; card_b = keeps.card_b }
keeps-by B d U V X Y Z keeps later unit mine = record { unit = left-after d.unit U V keeps.unit later.unit.clock unit; card_a = keeps.card_a; card_b = left-after d.card_b X Y keeps.card_b later.card_b.clock mine }

-- this card broke down so often behind all, where it did in the last call
broken-behind : (old mid new : State) (times : ℕ) → IsLater old mid → HasBroken mid new times → HasBroken old new times
broken-behind old mid new times later broke = record { faults = omega (arith, later.faults, broke.faults); breakdowns = omega (arith, later.breakdowns, broke.breakdowns) }

pub fell-by : (card : Card) (d : Devices) (U V X Y Z : State) {times : ℕ} → AreLater d (arranged card U X Z) → HasBroken X Y times → HasBroken (card_of d card) (card_of (arranged card V Y Z) card) times
fell-by A d U V X Y Z {times} later broke = broken-behind d.card_a X Y times later.card_a broke
fell-by B d U V X Y Z {times} later broke = broken-behind d.card_b X Y times later.card_b broke

-- the other card is left as it was
pub apart-by : (card : Card) (U V X Y Z : State) (other_ : Card) → same_card card other_ ≡ false → (y : List ℕ) → (card_of (arranged card V Y Z) other_).may_leave y → (card_of (arranged card U X Z) other_).may_leave y
apart-by A U V X Y Z A apart = absurd (let wrong : true ≡ false = apart in cc)
apart-by A U V X Y Z B apart = λ y left. left
apart-by B U V X Y Z A apart = λ y left. left
apart-by B U V X Y Z B apart = absurd (let wrong : true ≡ false = apart in cc)

-- and so are its notes
pub notes-by : (card : Card) (old new : Cards) (U V X Y Z : State) → NotesOn false (session_of old card) (session_of new card) [] X Y → known_of new (other card) ≡ known_of old (other card)
    → NotesOnCards false old new (λ k. []) (arranged card U X Z) (arranged card V Y Z)
notes-by A old new U V X Y Z mine known =
    both-cards (λ k. NotesOn false (session_of old k) (session_of new k) [] (card_of (devices U X Z) k) (card_of (devices V Y Z) k))
    mine (subst (λ (k : Known). NotesOn false (session_of old B) k.accepted [] Z Z) (sym known) (on-none false (session_of old B) Z))
notes-by B old new U V X Y Z mine known =
    both-cards (λ k. NotesOn false (session_of old k) (session_of new k) [] (card_of (devices U Z X) k) (card_of (devices V Z Y) k))
    (subst (λ (k : Known). NotesOn false (session_of old A) k.accepted [] Z Z) (sym known) (on-none false (session_of old A) Z)) mine

pub noted-beside : (card : Card) (fell : Bool) (second : ℕ) (run : Run) → known_of (noted_cabin fell card second run).cards (other card) ≡ known_of run.keeper.cabin.cards (other card)
noted-beside A fell second run = noted-b fell second run
noted-beside B fell second run = noted-a fell second run

closed-beside : (card : Card) (closing : Closing) (second : ℕ) (cabin : Cabin) → known_of (closed_cabin closing card second cabin).cards (other card) ≡ known_of cabin.cards (other card)
closed-beside A closing second cabin = closed-b closing second cabin
closed-beside B closing second cabin = closed-a closing second cabin

-- ---- the run behind a note on it

module _ (card : Card) (slot : Slot) (at : Moment) (run new : Run) (breaks after : Listed Break) (fell : Bool) (noted : IsNotedOn card slot at run new breaks after fell) where
  pub cabin-noted : new ≡ with_cabin (noted_cabin fell card at.second run) run
  cabin-noted = noted.run ∙ noted-is fell card at.second run

  -- of the other card the same is known
  pub known-noted : known_of new.keeper.cabin.cards (other card) ≡ known_of run.keeper.cabin.cards (other card)
  known-noted = ap (λ (r : Run). known_of r.keeper.cabin.cards (other card)) cabin-noted ∙ noted-beside card fell at.second run

  pub only-noted : new ≡ record run { keeper = new.keeper }
  only-noted = keeper-only run new (noted_cabin fell card at.second run) cabin-noted

  pub lines-noted : length after.items ≡ length breaks.items + length (noted_breaks fell slot at)
  lines-noted = ap (λ (l : Listed Break). length l.items) noted.told ∙ lines-length (noted_breaks fell slot at) breaks

  pub more-noted : length breaks.items ≤ length after.items
  more-noted = let length_is = lines-noted in omega (arith, length_is)

  pub room-noted : is_some (session_of run.keeper.cabin.cards card) ≡ true → (after.room ≡ breaks.room) × (length after.items + falls_of new.keeper.cabin ≤ length breaks.items + falls_of run.keeper.cabin)
  room-noted some =
      let falls = noted-falls card at.second run fell slot at some in
      let same : falls_of new.keeper.cabin ≡ falls_of (noted_cabin fell card at.second run) = ap (λ (r : Run). falls_of r.keeper.cabin) cabin-noted in
      let length_is = lines-noted in
      (ap (λ (l : Listed Break). l.room) noted.told, omega (arith, falls, same, length_is))

  pub calm-noted : (X Y : State) → HasCause X Y fell → IsCalm breaks.items after.items X Y
  calm-noted X Y cause = card-by fell slot at (λ (b : Bool). noted_breaks b slot at) refl refl (ap (λ (l : Listed Break). l.items) noted.told) cause

  minute-noted : at.second ≡ run.next → run.keeper.cabin.slots.minute ≤ run.next / 60 → (noted_cabin fell card at.second run).slots.minute ≤ run.next / 60
  minute-noted here le = noted-minute card at.second run fell (run.next / 60) le (omega (arith, here))

-- of two things that the cards have, the one of card a, and of card b
abbrev pub of_a {ℓ} : {T : Type ℓ} → Card → (mine others : T) → T
of_a A mine others = mine
of_a B mine others = others

abbrev pub of_b {ℓ} : {T : Type ℓ} → Card → (mine others : T) → T
of_b A mine others = others
of_b B mine others = mine

-- WHATEVER FAILED, A RUN IS HELD whose cabin alone has changed, with what is known of this card
pub held-by : (card : Card) (run new : Run) (cabin : Cabin) → new ≡ with_cabin cabin run → known_of new.keeper.cabin.cards (other card) ≡ known_of run.keeper.cabin.cards (other card) → cabin.slots.minute ≤ run.next / 60 → (U V X Y Z : State) (chip next chip_beside : CardState) →
    CanBeCut (run.next / 60) run U (of_a card chip chip_beside) (of_b card chip chip_beside) (of_a card X Z) (of_b card X Z) → IsUnit V → CardMayBeCalled (known_of new.keeper.cabin.cards card) next Y → Y.size ≡ X.size → StandSomehow new.keeper.cabin →
    CanBeCut (new.next / 60) new V (of_a card next chip_beside) (of_b card next chip_beside) (of_a card Y Z) (of_b card Y Z)
held-by A run new cabin is known minute U V X Y Z chip next chip_beside held unit mine same stand =
    subst (λ (m : ℕ). CanBeCut (m / 60) new V next chip_beside Y Z) (sym (ap (λ (r : Run). r.next) is))
    (cabin-held (run.next / 60) run new cabin is held unit minute (record { port = mine.port; size = let size = held.card_a.size in omega (arith, same, size) }) (at-same run.keeper.cabin.cards new.keeper.cabin.cards B known held.card_b) stand)
held-by B run new cabin is known minute U V X Y Z chip next chip_beside held unit mine same stand =
    subst (λ (m : ℕ). CanBeCut (m / 60) new V chip_beside next Z Y) (sym (ap (λ (r : Run). r.next) is))
    (cabin-held (run.next / 60) run new cabin is held unit minute (at-same run.keeper.cabin.cards new.keeper.cabin.cards A known held.card_a) (record { port = mine.port; size = let size = held.card_b.size in omega (arith, same, size) }) stand)

-- and where nothing failed it goes on
pub going-by : (card : Card) (run new : Run) (cabin : Cabin) → new ≡ with_cabin cabin run → known_of new.keeper.cabin.cards (other card) ≡ known_of run.keeper.cabin.cards (other card) → (U V X Y Z : State) (chip next chip_beside : CardState) (leaving stays : Option Card) →
    (lit : RunHasPower leaving (run.next / 60) run U (of_a card chip chip_beside) (of_b card chip chip_beside) (of_a card X Z) (of_b card X Z)) → UnitMayBeCalled new.keeper V → CardMayBeCalled (known_of new.keeper.cabin.cards card) next Y →
    ((c : Card) → HasItsRow run.keeper.cabin.cards U c → HasItsRow new.keeper.cabin.cards V c) → cabin.slots.past ≡ run.keeper.cabin.slots.past → CabinIsSound (ungiven_of lit.span) stays new.keeper.cabin → SessionsGoOn run.keeper.cabin.cards cabin.cards →
    (KnowsNewest run.watch.newest U → KnowsNewest run.watch.newest V) →
    RunHasPower stays (new.next / 60) new V (of_a card next chip_beside) (of_b card next chip_beside) (of_a card Y Z) (of_b card Y Z)
going-by A run new cabin is known U V X Y Z chip next chip_beside leaving stays lit unit mine rows past stands sessions knows =
    subst (λ (m : ℕ). RunHasPower stays (m / 60) new V next chip_beside Y Z) (sym (ap (λ (r : Run). r.next) is))
    (cabin-going (run.next / 60) run new cabin is leaving stays lit unit mine (ready-same run.keeper.cabin.cards new.keeper.cabin.cards B known lit.ready.card_b) rows past stands sessions knows)
going-by B run new cabin is known U V X Y Z chip next chip_beside leaving stays lit unit mine rows past stands sessions knows =
    subst (λ (m : ℕ). RunHasPower stays (m / 60) new V chip_beside next Z Y) (sym (ap (λ (r : Run). r.next) is))
    (cabin-going (run.next / 60) run new cabin is leaving stays lit unit (ready-same run.keeper.cabin.cards new.keeper.cabin.cards A known lit.ready.card_a) mine rows past stands sessions knows)

-- so behind a note
module _ (card : Card) (slot : Slot) (at : Moment) (run new : Run) (breaks after : Listed Break) (fell : Bool) (noted : IsNotedOn card slot at run new breaks after fell) (U V X Y Z : State) (chip next chip_beside : CardState) where
  pub held-noted : at.second ≡ run.next → CanBeCut (run.next / 60) run U (of_a card chip chip_beside) (of_b card chip chip_beside) (of_a card X Z) (of_b card X Z) → IsUnit V → CardMayBeCalled (known_of new.keeper.cabin.cards card) next Y → Y.size ≡ X.size →
      ((from : ℕ) (leaving : Option Card) → CabinIsSound from leaving run.keeper.cabin → CabinIsSound from leaving new.keeper.cabin) → CanBeCut (new.next / 60) new V (of_a card next chip_beside) (of_b card next chip_beside) (of_a card Y Z) (of_b card Y Z)
  held-noted here held unit mine same stands =
      let stand = held.stand in
      held-by card run new (noted_cabin fell card at.second run) (cabin-noted card slot at run new breaks after fell noted) (known-noted card slot at run new breaks after fell noted) (minute-noted card slot at run new breaks after fell noted here held.minute)
      U V X Y Z chip next chip_beside held unit mine same (stand.0, stand.1, stands stand.0 stand.1 stand.2)

  pub going-noted : RunHasPowerAllSeated (run.next / 60) run U (of_a card chip chip_beside) (of_b card chip chip_beside) (of_a card X Z) (of_b card X Z) → UnitMayBeCalled new.keeper V → CardMayBeCalled (known_of new.keeper.cabin.cards card) next Y →
      ((c : Card) → HasItsRow run.keeper.cabin.cards U c → HasItsRow new.keeper.cabin.cards V c) → ((from : ℕ) (leaving : Option Card) → CabinIsSound from leaving run.keeper.cabin → CabinIsSound from leaving new.keeper.cabin) →
      (KnowsNewest run.watch.newest U → KnowsNewest run.watch.newest V) → RunHasPowerAllSeated (new.next / 60) new V (of_a card next chip_beside) (of_b card next chip_beside) (of_a card Y Z) (of_b card Y Z)
  going-noted lit unit mine rows stands knows =
      going-by card run new (noted_cabin fell card at.second run) (cabin-noted card slot at run new breaks after fell noted) (known-noted card slot at run new breaks after fell noted) U V X Y Z chip next chip_beside None None lit unit mine rows
      (noted-past card at.second run fell) (stands (ungiven_of lit.span) None lit.cabin) (noted-sessions card at.second run fell) knows

-- and behind the closing of its session
module _ (card : Card) (slot : Slot) (at : Moment) (run new : Run) (breaks after : Listed Break) (closing : Closing) (closed : IsClosed card slot at run new breaks after closing) (U V X Y Z : State) (chip next chip_beside : CardState) where
  known-closed : known_of new.keeper.cabin.cards (other card) ≡ known_of run.keeper.cabin.cards (other card)
  known-closed = ap (λ (r : Run). known_of r.keeper.cabin.cards (other card)) closed.run ∙ closed-beside card closing at.second run.keeper.cabin

  pub held-closed : at.second ≡ run.next → CanBeCut (run.next / 60) run U (of_a card chip chip_beside) (of_b card chip chip_beside) (of_a card X Z) (of_b card X Z) → IsUnit V → CardMayBeCalled (known_of new.keeper.cabin.cards card) next Y → Y.size ≡ X.size → StandSomehow new.keeper.cabin →
      CanBeCut (new.next / 60) new V (of_a card next chip_beside) (of_b card next chip_beside) (of_a card Y Z) (of_b card Y Z)
  held-closed here held unit mine same stand =
      held-by card run new (closed_cabin closing card at.second run.keeper.cabin) closed.run known-closed (closed-minute card at.second run.keeper.cabin closing (run.next / 60) held.minute (omega (arith, here)))
      U V X Y Z chip next chip_beside held unit mine same stand

  pub going-closed : (g : RunHasPower (Some card) (run.next / 60) run U (of_a card chip chip_beside) (of_b card chip chip_beside) (of_a card X Z) (of_b card X Z)) → UnitMayBeCalled new.keeper V → CardMayBeCalled (known_of new.keeper.cabin.cards card) next Y →
      ((c : Card) → HasItsRow run.keeper.cabin.cards U c → HasItsRow new.keeper.cabin.cards V c) → CabinIsSound (ungiven_of g.span) None new.keeper.cabin →
      (KnowsNewest run.watch.newest U → KnowsNewest run.watch.newest V) → RunHasPowerAllSeated (new.next / 60) new V (of_a card next chip_beside) (of_b card next chip_beside) (of_a card Y Z) (of_b card Y Z)
  going-closed g unit mine rows stands knows =
      going-by card run new (closed_cabin closing card at.second run.keeper.cabin) closed.run known-closed U V X Y Z chip next chip_beside (Some card) None g unit mine rows
      (closed-past card at.second run.keeper.cabin closing) stands (closed-sessions card at.second run.keeper.cabin closing) knows

-- ---- what it may not know

pub none-there : {T : Type 0} (o : Option T) → ((x : T) → o ≡ Some x → ⊥) → o ≡ None
none-there None never = refl
none-there (Some x) never = absurd (never x refl)
