-- How a minute is kept by the unit and the cards that were present, and some minutes, by value (profile).
use Rattle.std.specs.Prelude.{◌≡◌, ◌⊎◌, ℕ, ◌<◌, ◌≤◌, Bool, true, false, Option, Some, None, List, [], ◌∷◌, ◌++◌, map}
use Rattle.std.specs.Prelude.{is_some}
use Rattle.activity_codec.specs.declared.values.Slot.TheVariants.{Driver, CoDriver}
use Rattle.tach_media.specs.Medium.{State}
use Rattle.unit_model.specs.minute_model.declared.Minute.{Minute}
use Rattle.run_model.specs.declared.Device.TheVariants.{Unit as Recorder}
use Rattle.card_session.specs.declared.words.TheConstants.{LATEST_MINUTE}
use Rattle.unit_minutes.specs.declared.kept.KeptMinute.{KeptMinute}
pub use Rattle.device_calls.specs.unit_rule.Odometer.{odometer_by}
use Rattle.unit_minutes.specs.declared.notes.Notes.{Notes}
use Rattle.hand_model.specs.Holding.{Holding}
use Rattle.log_model.specs.declared.lines.Break.{Break}
use Rattle.log_model.specs.declared.lines.Mark.{Mark}
use Rattle.card_slots.specs.declared.seats.Present.{Present}
use Rattle.card_slots.specs.Calls.{present_in}
use Rattle.run_crew.specs.declared.cabin.Cabin.{Cabin}
use Rattle.run_outcome.specs.Lines.{Listed}
use Rattle.run_minutes.specs.declared.keeper.Keeper.{Keeper}
use Rattle.run_minutes.specs.declared.keeper.Moment.{Moment}
use Rattle.run_minutes.specs.Keeping.{Fate, Still, has_fallen, cabin_by, marks_by, breaks_by, with_lines, session_at}
use Rattle.run_minutes.specs.Keeping.{state_at, held_in, IsFateOf, IsOnCard, kept_in}

-- ---- one minute

-- The unit has kept a minute: what the journal notes of it, the clock of its mark, and what became of the entries on
-- the cards of the driver slot and of the co-driver slot; and what their sessions held of entries by hand before.
pub record Round : Type 0 where
  pub journal : Notes
  pub clock : ℕ
  pub driver : Fate
  pub codriver : Fate
  pub driver_held : Holding
  pub codriver_held : Holding

-- the unit's mark of it
abbrev pub unit_mark : (minute clock : ℕ) → Mark
unit_mark minute clock = record { device = Recorder; minute = minute; clock = clock }

-- the slots and the sessions behind it
abbrev pub cabin_after : Present → (second : ℕ) → Round → Cabin → Cabin
cabin_after present second round cabin = cabin_by round.codriver present.codriver second
    (cabin_by round.driver present.driver second cabin)

-- what the keeper has behind it
abbrev pub keeper_after : Present → (second : ℕ) → Round → Keeper → Keeper
keeper_after present second round k = record
    k { journal = round.journal; cabin = cabin_after present second round k.cabin }

-- its marks: of the unit, of the card of the driver slot, of that of the co-driver slot
abbrev pub marks_after : Present → (minute : ℕ) → Round → Listed Mark → Listed Mark
marks_after present minute round marks = with_lines (marks_by round.codriver present.codriver minute)
    (with_lines (marks_by round.driver present.driver minute) (with_lines (unit_mark minute round.clock ∷ []) marks))

-- its breaks
abbrev pub breaks_after : Moment → Round → Listed Break → Listed Break
breaks_after at round breaks = with_lines (breaks_by round.codriver CoDriver at)
    (with_lines (breaks_by round.driver Driver at) breaks)

-- The unit failed as it noted the fault of the driver's card, which was torn out: the co-driver's was not asked.
pub record IsBrokenOff (failed : Bool) (round : Round) : Type 0 where
  pub unit_failed : failed ≡ true
  pub driver_fell : has_fallen round.driver ≡ true
  pub not_asked : round.codriver ≡ Still

-- A MINUTE IS KEPT by the unit, and on the cards that were present in it: what the journal notes, and what became of
-- each entry. Where the unit failed since, it was the note of a fault.
pub record IsRound (present : Present) (minute : KeptMinute) (at : Moment) (failed : Bool) (k : Keeper)
    (round : Round) : Type 0 where
  pub kept : round.journal.kept ≡ minute.minute
  pub odometer : round.journal.odometer ≡ minute.odometer.0
  pub driver : IsFateOf (session_at k.cabin.cards present.driver) (kept_in minute Driver) round.driver
  pub codriver : IsBrokenOff failed round
      ⊎ IsFateOf (session_at (cabin_by round.driver present.driver at.second k.cabin).cards present.codriver)
      (kept_in minute CoDriver) round.codriver
  pub only : failed ≡ true → (has_fallen round.driver ≡ true) ⊎ (has_fallen round.codriver ≡ true)
  pub driver_holds : round.driver_held ≡ held_in (session_at k.cabin.cards present.driver)
  pub codriver_holds : round.codriver_held
      ≡ held_in (session_at (cabin_by round.driver present.driver at.second k.cabin).cards present.codriver)

-- so it went with the cards
pub record AreOnCards (present : Present) (round : Round) (a a_new b b_new : State) : Type 0 where
  pub driver : IsOnCard round.driver (state_at present.driver a b) (state_at present.driver a_new b_new)
  pub codriver : IsOnCard round.codriver (state_at present.codriver a b) (state_at present.codriver a_new b_new)

-- keeper, marks and breaks
pub record KeepingState : Type 0 where
  pub keeper : Keeper
  pub marks : Listed Mark
  pub breaks : Listed Break

-- what they are behind a round
abbrev pub told_after : Present → (minute : ℕ) → Moment → Round → KeepingState → KeepingState
told_after present minute at round t = record {
  keeper = keeper_after present at.second round t.keeper;
  marks = marks_after present minute round t.marks;
  breaks = breaks_after at round t.breaks;
}

-- A minute was to be kept: nothing has changed but the unit, which failed; or the minute is kept.
abbrev pub IsMinute : Present → KeptMinute → Moment → (failed : Bool) → (t u : KeepingState) → (a a_new b b_new : State)
    → Option Round → Type 0
IsMinute present minute at failed t u a a_new b b_new None = (failed ≡ true) × (u ≡ t)
IsMinute present minute at failed t u a a_new b b_new (Some round) =
    IsRound present minute at failed t.keeper round × AreOnCards present round a a_new b b_new
    × (u ≡ told_after present minute.minute at round t)

-- ---- some minutes

-- a decided minute as it is kept, where these cards were present
abbrev pub kept_of : (stored : ℕ) → Minute → Present → KeptMinute
kept_of stored minute present = record {
  minute = minute.minute;
  driver = record { act = minute.driver; present = is_some present.driver };
  codriver = record { act = minute.codriver; present = is_some present.codriver };
  odometer = record { 0 = odometer_by stored minute.travelled };
}

-- each is later than the one before, and may be kept
abbrev pub AreDue : (kept : ℕ) → List Minute → Type 0
AreDue kept [] = Unit {0}
AreDue kept (m ∷ ms) = (kept < m.minute) × (1440 ≤ m.minute) × (m.minute ≤ LATEST_MINUTE) × AreDue m.minute ms

-- the last one
abbrev pub kept_after : (kept : ℕ) → List Minute → ℕ
kept_after kept [] = kept
kept_after kept (m ∷ ms) = kept_after m.minute ms

-- the cards that were present in a minute: nobody in one that has not ended, or is not known any more
abbrev pub or_nobody : Option Present → Present
or_nobody None = record { driver = None; codriver = None }
or_nobody (Some present) = present

-- so it is by what the slots remember of the minute
abbrev pub present_at : Cabin → (minute : ℕ) → Present
present_at cabin minute = or_nobody (present_in cabin.slots.past minute)

-- a decided minute, with the cards that were present in it
abbrev pub minute_of : Minute → Keeper → KeptMinute
minute_of m k = kept_of k.odometer m (present_at k.cabin m.minute)

-- THESE MINUTES ARE KEPT, one after another
pub data AreKept (at : Moment) : List Minute → KeepingState → KeepingState → Type 0 where
  none : (t : KeepingState) → AreKept at [] t t
  more : (m : Minute) (ms : List Minute) (round : Round) (t u : KeepingState) → AreKept at ms t u
      → IsRound (present_at u.keeper.cabin m.minute) (minute_of m u.keeper) at false u.keeper round
      → AreKept at (ms ++ m ∷ []) t (told_after (present_at u.keeper.cabin m.minute) m.minute at round u)

-- Minutes were to be kept, the first that failed the last of them: those before it are kept; of it nothing has changed,
-- or it is kept.
pub record IsCutShort (decided : List Minute) (at : Moment) (t u : KeepingState) : Type 0 where
  pub front : List Minute
  pub here : Minute
  pub rest : List Minute
  pub are : decided ≡ front ++ here ∷ rest
  pub between : KeepingState
  pub kept : AreKept at front t between
  pub last : (u ≡ between) ⊎ ((round : Round)
      × IsRound (present_at between.keeper.cabin here.minute) (minute_of here between.keeper) at true between.keeper
      round
      × (u ≡ told_after (present_at between.keeper.cabin here.minute) here.minute at round between))

-- all of them are kept, or it was cut short
abbrev pub AreKeptUpTo : List Minute → Moment → (failed : Bool) → (t u : KeepingState) → Type 0
AreKeptUpTo decided at false t u = AreKept at decided t u
AreKeptUpTo decided at true t u = IsCutShort decided at t u

-- a decided minute that is kept, and its round
pub record Done : Type 0 where
  pub minute : Minute
  pub round : Round

-- keeper, marks and breaks behind some, where this was the keeper before all
abbrev pub told_by : Keeper → Moment → List Done → KeepingState → KeepingState
told_by k at [] t = t
told_by k at (x ∷ xs) t = told_by k at xs (told_after (present_at k.cabin x.minute.minute) x.minute.minute at x.round t)

-- each has the round of a minute that the unit kept without failing
abbrev pub AreRounds : Keeper → Moment → List Done → KeepingState → Type 0
AreRounds k at [] t = Unit {0}
AreRounds k at (x ∷ xs) t = IsRound (present_at k.cabin x.minute.minute) (minute_of x.minute k) at false t.keeper
    x.round
    × AreRounds k at xs (told_after (present_at k.cabin x.minute.minute) x.minute.minute at x.round t)

-- HOW FAR IT CAME: these are kept; and, where the unit failed, in which minute behind them, and the round of that, if
-- it is kept
pub data Reach : Type 0 where
  Whole : List Done → Reach
  Short : List Done → Minute → Option Round → Reach

-- the last one, in which the unit failed: nothing has changed, or it is kept
abbrev pub IsLast : Keeper → Minute → Moment → (t u : KeepingState) → Option Round → Type 0
IsLast k m at t u None = u ≡ t
IsLast k m at t u (Some round) = IsRound (present_at k.cabin m.minute) (minute_of m k) at true t.keeper round
    × (u ≡ told_after (present_at k.cabin m.minute) m.minute at round t)

-- DECIDED MINUTES WERE TO BE KEPT, and it came so far: all are kept; or those before the first one in which the unit
-- failed.
abbrev pub IsReach : List Minute → Moment → (failed : Bool) → (t u : KeepingState) → Reach → Type 0
IsReach decided at false t u (Whole xs) = (decided ≡ map (λ x. x.minute) xs) × AreRounds t.keeper at xs t
    × (u ≡ told_by t.keeper at xs t)
IsReach decided at false t u (Short xs m round) = ⊥
IsReach decided at true t u (Whole xs) = ⊥
IsReach decided at true t u (Short xs m round) = ((rest : List Minute) × (decided ≡ map (λ x. x.minute) xs ++ m ∷ rest))
    × AreRounds t.keeper at xs t × IsLast t.keeper m at (told_by t.keeper at xs t) u round
