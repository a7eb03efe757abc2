-- What the rounds of a keeping make of the record at a moment of a second (profile): of its values, told or not, and of
-- unit and cards.
use Rattle.std.specs.Prelude.{◌≡◌, All, map, ◌⊎◌, ℕ, ◌+◌, ◌/◌, ◌<◌, ◌≤◌, Bool, true, false, Option, Some, None, IfSome}
use Rattle.std.specs.Prelude.{List, [], ◌∷◌, ◌++◌, Contains, length, is_some, if◌then◌else◌}
use Rattle.activity_codec.specs.declared.values.Slot.{Slot}
use Rattle.trace_model.specs.declared.Card.{Card}
use Rattle.trace_model.specs.Trace.{TraceSecond}
use Rattle.log_model.specs.run_model.declared.Device.{Device}
use Rattle.log_model.specs.run_model.declared.Device.TheVariants.{Unit as Recorder}
use Rattle.unit_model.specs.minute_model.declared.Minute.{Minute}
use Rattle.unit_model.specs.minute_model.Span.{Span, count_from, ungiven_of}
use Rattle.log_model.specs.declared.lines.Break.{Break}
use Rattle.log_model.specs.declared.lines.Mark.{Mark}
use Rattle.log_model.specs.Log.{RunLog, Phase, In, Keeping, phase_of}
use Rattle.log_model.specs.Causes.{device_of, RoseBy}
use Rattle.log_model.specs.Course.{Course, Visit, went}
use Rattle.device_calls.specs.history_model.Minutes.{HistoryMinute}
use Rattle.device_calls.specs.device_rule.Rules.{Standing}
use Rattle.device_calls.specs.run_unit_course.Turn.{span_at}
use Rattle.run_crew.specs.declared.cabin.Cabin.{Cabin}
use Rattle.run_crew.specs.declared.cards.Cards.{Cards}
use Rattle.run_crew.specs.Cards.{session_of}
use Rattle.run_minutes.specs.run_promise.Between.{RunLedger}
use Rattle.run_events.specs.run_course.Presence.{SlotsTell}
use Rattle.run_events.specs.run_course.Seconds.{kept_all}
use Rattle.run_events.specs.run_course.Moment.{Moment}
use Rattle.run_events.specs.run_course.Kept.{StaysOut, HasDecided}
use Rattle.run_minutes.specs.run_devices.Presence.{PresentStand, SessionsStand}
use Rattle.run_minutes.specs.run_promise.Origin.{Origin, rule_of, start_at}
use Rattle.run_minutes.specs.run_devices.Told.{AreFoundCards, AreEarly}
use Rattle.run_minutes.specs.declared.keeper.Moment.{Moment as KeepingAt}
use Rattle.run_minutes.specs.Keeping.{Fate, Fell, is_this, tears_of}
use Rattle.run_minutes.specs.declared.keeper.Keeper.{Keeper}
use Rattle.run_minutes.specs.Minutes.{KeepingState, Done, present_at}
use Rattle.run_minutes.specs.Books.{standing_by}
use Rattle.run_record.specs.Recorded.{Values, GoesOnIn}
use Rattle.run_record.specs.Within.{Beginning, told_before, course_in, IsLeaving, AreBackAt, AreOld}

-- what a run has by value, where keeper, marks and breaks are these
abbrev pub told_values : KeepingState → Values → Values
told_values t v = record v {
  log = record v.log { breaks = t.breaks.items };
  marks = t.marks.items;
  cabin = t.keeper.cabin;
}

-- Where in a second minutes are kept: at this moment, with these cards waiting to be judged; the second is fed, or not;
-- and so are tears told.
pub record Point : Type 0 where
  pub at : Phase
  pub waits : List Visit
  pub speed : Option ℕ
  pub begun : ℕ
  pub late : Bool

-- the moment of their keeping
abbrev pub moment_of : TraceSecond → Point → KeepingAt
moment_of s q = record { second = s.number; begun = q.begun; late = q.late }

-- Tears are told of that moment, with an action or in the keeping, and a second is fed in its keeping alone.
pub record IsPoint (s : TraceSecond) (q : Point) : Type 0 where
  pub phase : phase_of q.begun q.late ≡ q.at
  pub acted : q.at ≡ In 0 → ⊥
  pub few : q.begun ≤ length s.actions
  pub all : q.late ≡ true → q.begun ≡ length s.actions
  pub unfed : (q.at ≡ Keeping → ⊥) → q.speed ≡ None
  pub feeds : q.at ≡ Keeping → q.speed ≡ Some s.speed

-- the keeping of a second, behind all of its actions
abbrev pub keeping_of : TraceSecond → Point
keeping_of s = record { at = Keeping; waits = []; speed = Some s.speed; begun = length s.actions; late = true }

-- a settling in its n-th action
abbrev pub settling_at : ℕ → List Visit → Point
settling_at n waits = record { at = In n; waits = waits; speed = None; begun = n; late = false }

-- how the cards stand behind what became of the entry of the one that was present
abbrev pub standing_card : Fate → Option Card → (minute : ℕ) → (Card → Standing) → Card → Standing
standing_card fate present minute standing c = if is_this present c then standing_by fate minute (standing c)
    else standing c

-- a log with these breaks more
abbrev pub and_breaks : RunLog → List Break → RunLog
and_breaks log more = record log { breaks = log.breaks ++ more }

-- what the slots and the log were before all rounds, and from which minute up to which minutes are to be kept
pub record Outset : Type 0 where
  pub log : RunLog
  pub cabin : Cabin
  pub low : ℕ
  pub high : ℕ

-- a card has broken down as often as it will have; or as often as at first, and has not lost a session since
abbrev pub StandsOrFell : (old cards : Cards) → (first last now : Device → ℕ) → Card → Type 0
StandsOrFell old cards first last now card =
    (now (device_of card) ≡ last (device_of card))
    ⊎ ((now (device_of card) ≡ first (device_of card))
    × (tears_of (session_of old card) ≤ tears_of (session_of cards card)))

-- SLOTS AND LOG at a point of a second, where the minutes before `from` are kept and the breakdowns will have risen
-- from `first` to `last`: the log tells of each card that was torn out, and so the slots have those that sit, and tell
-- who was present and stands so.
pub record Slate (o : Origin) (done : List TraceSecond) (s : TraceSecond) (q : Point) (b : Beginning) (os : Outset)
    (from : ℕ) (past : List HistoryMinute) (log : RunLog) (standing : Card → Standing) (cabin : Cabin)
    (first last : Device → ℕ) : Type 0 where
  pub point : IsPoint s q
  pub now : Device → ℕ
  pub moment : Moment b.run (went b.run.log done).before s q.at log q.waits b.broken now
  pub rise : now Recorder ≤ last Recorder
  pub fell : (card : Card) → StandsOrFell os.cabin.cards cabin.cards first last now card
  pub rests : (card : Card) → is_some (session_of cabin.cards card) ≡ true
      → now (device_of card) ≡ first (device_of card)
  pub tells : SlotsTell (start_at o) (told_before b done) past (course_in b done s q.at log).left s.number from
      (course_in b done s q.at log).slots cabin.slots
  pub present : PresentStand o.found standing (told_before b done) (course_in b done s q.at log) s.number from cabin
  pub sessions : SessionsStand o.found standing cabin.cards
  pub back : AreBackAt log (went b.run.log done).before s q.at os.low os.high cabin
  pub leave : (slot : Slot) (card : Card)
      → IsLeaving os.log (went b.run.log done).before s q.at os.low os.high os.cabin slot card
      → is_some (session_of cabin.cards card) ≡ true →
      IsLeaving log (went b.run.log done).before s q.at os.low os.high cabin slot card
  pub had : AreOld os.cabin.cards cabin.cards
  pub stays : (card : Card) → GoesOnIn s.number os.cabin.slots cabin.slots card

-- of a second's course nothing has changed but its slots, leavings and tears
pub record OnlyTears (old new : Course) : Type 0 where
  pub picks : new.picks ≡ old.picks
  pub settled : new.settled ≡ old.settled
  pub found : new.found ≡ old.found
  pub entered : new.entered ≡ old.entered
  pub out : StaysOut old new

-- a card that was torn out broke down
abbrev pub HasBrokenDown : Fate → Option Card → (first last : Device → ℕ) → Type 0
HasBrokenDown fate present first last = fate ≡ Fell
    → IfSome present (λ card. RoseBy 1 (first (device_of card)) (last (device_of card)))

-- so did each that was torn out in some rounds
abbrev pub HaveBroken : Keeper → List Done → (first last : Device → ℕ) → Type 0
HaveBroken k [] first last = Unit {0}
HaveBroken k (x ∷ xs) first last =
    HasBrokenDown x.round.driver (present_at k.cabin x.minute.minute).driver first last
    × HasBrokenDown x.round.codriver (present_at k.cabin x.minute.minute).codriver first last
    × HaveBroken k xs first last

-- HOW FAR A KEEPING HAS GONE, by value, where this was the keeper before it, these its marks and this the course: these
-- minutes are kept, and these, each over as the second begins, are still to be kept; and so much is carried of unit and
-- cards.
pub record SoFar (o : Origin) (done : List TraceSecond) (s : TraceSecond) (q : Point) (b : Beginning) (os : Outset)
    (first last : Device → ℕ) (k : Keeper) (sp : Span) (v : Values) (marks : List Mark) (old : Course)
    (brought : Card → List ℕ)
    (t : KeepingState) (w : RunLedger) (ds rest : List Minute) (new : List HistoryMinute) (from : ℕ) : Type 0 where
  pub slate : Slate o done s q b os from (b.run.book.sure ++ new) (told_values t v).log w.standing t.keeper.cabin first
      last
  pub past : t.keeper.cabin.slots.past ≡ k.cabin.slots.past
  pub decided : HasDecided (rule_of o) (start_at o) (told_before b done) b.run b.span
      (course_in b done s q.at (told_values t v).log) q.speed sp ds rest new
  pub numbers : map (λ (m : Minute). m.minute) rest ≡ count_from from (length rest)
  pub over : All (λ (m : Minute). m.minute < s.number / 60) rest
  pub ends : from + length rest ≡ os.high
  pub high : os.low ≤ from
  pub to : from ≡ ungiven_of (span_at (rule_of o) b.run.next b.span) + length ds
  pub until : from + length rest ≡ ungiven_of sp
  pub stay : (mark : Mark) → Contains marks mark → Contains t.marks.items mark
  pub same : OnlyTears old (course_in b done s q.at (told_values t v).log)
  pub due : w.due ≤ from
  pub book : w.book ≡ kept_all new b.run.book
  pub brought_is : w.brought ≡ brought
  pub early : AreEarly w
  pub found : AreFoundCards o.found t.keeper.cabin.cards
