-- What the keeping of decided minutes makes of the record at a moment of a second, with cards that are torn out, and
-- where the unit fails (profile).
use Rattle.std.specs.Prelude.{◌≡◌, ℕ, ◌+◌, ◌-◌, ◌/◌, ◌<◌, ◌≤◌, Bool, false, Option, Some, None, List, [], ◌∷◌, ◌++◌}
use Rattle.std.specs.Prelude.{All, length, map, true, is_some}
use Rattle.activity_codec.specs.declared.values.Slot.{Slot}
use Rattle.trace_model.specs.declared.Card.{Card}
use Rattle.trace_model.specs.Trace.{TraceSecond}
use Rattle.tach_media.specs.Medium.{HasBroken}
use Rattle.log_model.specs.run_model.declared.Device.{Device}
use Rattle.log_model.specs.run_model.declared.Device.TheVariants.{Unit as Recorder}
use Rattle.unit_model.specs.minute_model.declared.Minute.{Minute}
use Rattle.log_model.specs.Causes.{device_of, RoseBy}
use Rattle.log_model.specs.Course.{went}
use Rattle.device_calls.specs.run_unit_course.Legs.{Travel, all_travelled}
use Rattle.unit_model.specs.Image.{odometer_at}
use Rattle.device_calls.specs.unit_rule.Odometer.{HasTravelled}
use Rattle.device_calls.specs.safety_model.Safe.{Devices, breakdowns_of}
use Rattle.run_crew.specs.declared.cards.Cards.{Cards}
use Rattle.run_crew.specs.Cards.{session_of}
use Rattle.run_crew.specs.Cabin.{AreTwo}
use Rattle.run_minutes.specs.run_promise.Between.{RunLedger}
use Rattle.run_events.specs.run_course.Seconds.{kept_all}
use Rattle.run_minutes.specs.run_devices.Told.{DevicesUnpowered}
use Rattle.run_minutes.specs.run_promise.Origin.{Origin}
use Rattle.run_minutes.specs.declared.keeper.Keeper.{Keeper}
use Rattle.run_minutes.specs.Minutes.{Round, KeepingState, Done, Reach, Whole, AreRounds, IsLast, IsReach, told_by}
use Rattle.run_minutes.specs.Minutes.{present_at}
use Rattle.run_minutes.specs.Keeping.{tears_of}
use Rattle.run_minutes.specs.Books.{AreBooked}
use Rattle.run_minutes.specs.Decided.{MayBookAll, IsCutSo, EndsAll, carried_by}
use Rattle.run_record.specs.Recorded.{Values, carried}
use Rattle.run_record.specs.Within.{Beginning, IsLeaving, RecordInSecond, SecondGoesOn, GoesOnSo, RecordAtFailure}
use Rattle.run_minutes.specs.Later.{RestBy}
use Rattle.run_acts.specs.Rounds.{Point, IsPoint, told_values, moment_of, keeping_of, HasBrokenDown, HaveBroken}

-- the record at a point of a second, where keeper, marks and breaks are these and these minutes are still to be kept
abbrev pub InRounds : Origin → List TraceSecond → TraceSecond → Point → List Minute → KeepingState → Values → Devices
    → Type 0
InRounds o done s q rest t v d = RecordInSecond o done s q.at q.waits q.speed rest (told_values t v) d

-- the same, where the second began so and this is the first of them
abbrev pub GoOn : Origin → List TraceSecond → TraceSecond → Point → List Minute → KeepingState → Values → Devices
    → Beginning → (first : ℕ) → Type 0
GoOn o done s q rest t v d b first = SecondGoesOn o done s q.at q.waits q.speed rest (told_values t v) d b first

-- what is carried of unit and cards
abbrev pub carried_at : (o : Origin) (done : List TraceSecond) (s : TraceSecond) (q : Point) (rest : List Minute)
    (t : KeepingState) (v : Values) (d : Devices) → InRounds o done s q rest t v d → RunLedger
carried_at o done s q rest t v d w = carried (told_values t v) w.due (kept_all w.new w.b.run.book) w.standing w.brought
    w.hands w.firsts

-- WHAT IS KNOWN of a keeping beside its rounds: at most four minutes are over, and those that are to be kept are; two
-- cards were present at most; and behind it devices have left more, the unit broke down no less, and a card that is not
-- as it was has a session.
pub record KeepsSo (o : Origin) (done : List TraceSecond) (s : TraceSecond) (q : Point) (all : List Minute)
    (t : KeepingState) (v : Values) (d e : Devices) (w : InRounds o done s q all t v d) : Type 0 where
  pub point : IsPoint s q
  pub few : s.number / 60 ≤ w.from + 4
  pub over : All (λ (m : Minute). m.minute < s.number / 60) all
  pub two : (m : ℕ) → AreTwo (present_at t.keeper.cabin m).driver (present_at t.keeper.cabin m).codriver
  pub goes : GoesOnSo o t.keeper.cabin.cards d e
  pub unit : breakdowns_of d Recorder ≤ breakdowns_of e Recorder

-- what was travelled, behind these
abbrev pub travelled_at : (o : Origin) (done : List TraceSecond) (s : TraceSecond) (q : Point) (rest : List Minute)
    (t : KeepingState) (v : Values) (d : Devices) → InRounds o done s q rest t v d → List Done → Travel
travelled_at o done s q rest t v d w xs = all_travelled (map (λ (x : Done). x.minute) xs)
    (all_travelled w.ds w.b.travel)

-- THE MINUTES MAY BE BOOKED that are still to be kept: at most four are over, and they are.
abbrev pub TheMinutesMayBeBooked : Devices → Type 0
TheMinutesMayBeBooked d = (o : Origin) (done : List TraceSecond) (s : TraceSecond) (q : Point) (all : List Minute)
    (t : KeepingState) (v : Values) → (w : InRounds o done s q all t v d) → s.number / 60 ≤ w.from + 4
    → All (λ (m : Minute). m.minute < s.number / 60) all →
    MayBookAll o.found (carried_at o done s q all t v d w) all t d

-- IN THE KEEPING they are over.
abbrev pub TheMinutesAreOver : Devices → Type 0
TheMinutesAreOver d = (o : Origin) (done : List TraceSecond) (s : TraceSecond) (all : List Minute) (t : KeepingState)
    (v : Values) → (w : InRounds o done s (keeping_of s) all t v d) → All (λ (m : Minute). m.minute < s.number / 60) all

-- SOME OF THEM ARE KEPT, and cards may be torn out: the others are still to be kept.
abbrev pub TheMinutesAreKept : (d e : Devices) → Type 0
TheMinutesAreKept d e = (o : Origin) (done : List TraceSecond) (s : TraceSecond) (q : Point) (all : List Minute)
    (t : KeepingState) (v : Values) → (w : InRounds o done s q all t v d) → KeepsSo o done s q all t v d e w →
    (xs : List Done) (rest : List Minute) → all ≡ map (λ (x : Done). x.minute) xs ++ rest
    → AreRounds t.keeper (moment_of s q) xs t → HaveBroken t.keeper xs (breakdowns_of d) (breakdowns_of e) →
    RestBy t.keeper.cabin.cards (told_by t.keeper (moment_of s q) xs t).keeper.cabin.cards d e →
    AreBooked o.found (carried_by t.keeper xs (carried_at o done s q all t v d w))
    (told_by t.keeper (moment_of s q) xs t).keeper.cabin.cards (told_by t.keeper (moment_of s q) xs t).marks.items e
    →
    HasTravelled (odometer_at o.recording.unit) (carried_by t.keeper xs (carried_at o done s q all t v d w)).book
    (travelled_at o done s q all t v d w xs) e.unit →
    GoOn o done s q rest (told_by t.keeper (moment_of s q) xs t) v e w.b (w.from + length xs)

-- a card that leaves its slot leaves it still, if it has its session
abbrev pub LeaveStill : (o : Origin) (done : List TraceSecond) (s : TraceSecond) (q : Point) (all : List Minute)
    (t u : KeepingState) (v : Values) (d : Devices) → InRounds o done s q all t v d → Type 0
LeaveStill o done s q all t u v d w = (slot : Slot) (card : Card) →
    IsLeaving (told_values t v).log (went w.b.run.log done).before s q.at w.from (w.from + length all) t.keeper.cabin
    slot card → is_some (session_of u.keeper.cabin.cards card) ≡ true →
    IsLeaving (told_values u v).log (went w.b.run.log done).before s q.at w.from (w.from + length all) u.keeper.cabin
    slot card

-- SO IT DOES behind some of them.
abbrev pub TheyLeaveStill : (d e : Devices) → Type 0
TheyLeaveStill d e = (o : Origin) (done : List TraceSecond) (s : TraceSecond) (q : Point) (all : List Minute)
    (t : KeepingState) (v : Values) → (w : InRounds o done s q all t v d) → KeepsSo o done s q all t v d e w →
    (xs : List Done) (rest : List Minute) → all ≡ map (λ (x : Done). x.minute) xs ++ rest
    → AreRounds t.keeper (moment_of s q) xs t → HaveBroken t.keeper xs (breakdowns_of d) (breakdowns_of e) →
    LeaveStill o done s q all t (told_by t.keeper (moment_of s q) xs t) v d w

-- the cards of the last round
abbrev pub HasBrokenLast : Keeper → Minute → Option Round → (first last : Device → ℕ) → Type 0
HasBrokenLast k m None first last = Unit {0}
HasBrokenLast k m (Some round) first last =
    HasBrokenDown round.driver (present_at k.cabin m.minute).driver first last
    × HasBrokenDown round.codriver (present_at k.cabin m.minute).codriver first last

-- each card that has lost its session broke down
abbrev pub AreGone : (old new : Cards) → (first last : Device → ℕ) → Type 0
AreGone old new first last = (card : Card) → is_some (session_of old card) ≡ true → session_of new card ≡ None
    → RoseBy 1 (first (device_of card)) (last (device_of card))

-- OR THE UNIT FAILS in one, behind these: the power is about to be cut.
abbrev pub TheKeepingFails : (d e : Devices) → Type 0
TheKeepingFails d e = (o : Origin) (done : List TraceSecond) (s : TraceSecond) (q : Point) (all : List Minute)
    (t u : KeepingState) (v : Values) → (w : InRounds o done s q all t v d) → KeepsSo o done s q all t v d e w →
    (xs : List Done) (m : Minute) (rest : List Minute) (round : Option Round)
    → all ≡ map (λ (x : Done). x.minute) xs ++ m ∷ rest → AreRounds t.keeper (moment_of s q) xs t
    → HaveBroken t.keeper xs (breakdowns_of d) (breakdowns_of e) →
    IsLast t.keeper m (moment_of s q) (told_by t.keeper (moment_of s q) xs t) u round
    → HasBrokenLast t.keeper m round (breakdowns_of d) (breakdowns_of e)
    → RoseBy 1 (breakdowns_of d Recorder) (breakdowns_of e Recorder) →
    RestBy t.keeper.cabin.cards u.keeper.cabin.cards d e
    → IsCutSo o.found (odometer_at o.recording.unit) t.keeper m round
    (carried_by t.keeper xs (carried_at o done s q all t v d w)) (travelled_at o done s q all t v d w xs) e →
    RecordAtFailure o done s q.at q.waits q.speed (told_values u v) e

-- ---- by how far it came

-- each card broke down as often as it was torn out, and else not at all
pub record HaveBrokenOff (t u : KeepingState) (d e : Devices) : Type 0 where
  pub a : HasBroken d.card_a e.card_a (tears_of t.keeper.cabin.cards.a.accepted - tears_of
      u.keeper.cabin.cards.a.accepted)
  pub b : HasBroken d.card_b e.card_b (tears_of t.keeper.cabin.cards.b.accepted - tears_of
      u.keeper.cabin.cards.b.accepted)
  pub rests : RestBy t.keeper.cabin.cards u.keeper.cabin.cards d e

-- the record behind a keeping: nothing is still to be kept, or the power is about to be cut
abbrev pub IsKeptTo : (failed : Bool)
    → (o : Origin) (done : List TraceSecond) (s : TraceSecond) (q : Point) (all : List Minute) (t u : KeepingState)
    (v : Values) (d e : Devices) → InRounds o done s q all t v d → Type 0
IsKeptTo false o done s q all t u v d e w = GoOn o done s q [] u v e w.b (w.from + length all)
    × LeaveStill o done s q all t u v d w
IsKeptTo true o done s q all t u v d e w = RecordAtFailure o done s q.at q.waits q.speed (told_values u v) e

-- A KEEPING IS RECORDED, as far as it came.
abbrev pub TheKeepingIsRecorded : (d e : Devices) → Type 0
TheKeepingIsRecorded d e = (o : Origin) (done : List TraceSecond) (s : TraceSecond) (q : Point) (all : List Minute)
    (t u : KeepingState) (v : Values) → (w : InRounds o done s q all t v d) → KeepsSo o done s q all t v d e w →
    (failed : Bool) (reach : Reach) → IsReach all (moment_of s q) failed t u reach → HaveBrokenOff t u d e
    → (failed ≡ true → RoseBy 1 (breakdowns_of d Recorder) (breakdowns_of e Recorder)) →
    EndsAll o.found (odometer_at o.recording.unit) (carried_at o done s q all t v d w) t.keeper failed reach
    (all_travelled w.ds w.b.travel) u e → IsKeptTo failed o done s q all t u v d e w

-- OR IT FAILS BEHIND ALL OF THEM, as in the note of an event.
abbrev pub TheNoteFails : (d e : Devices) → Type 0
TheNoteFails d e = (o : Origin) (done : List TraceSecond) (s : TraceSecond) (q : Point) (all : List Minute)
    (t u : KeepingState) (v : Values) → (w : InRounds o done s q all t v d) → KeepsSo o done s q all t v d e w →
    w.from + length all ≤ s.number / 60 → (xs : List Done) → IsReach all (moment_of s q) false t u (Whole xs)
    → HaveBrokenOff t u d e → RoseBy 1 (breakdowns_of d Recorder) (breakdowns_of e Recorder) →
    DevicesUnpowered o.found (carried_by t.keeper xs (carried_at o done s q all t v d w)) e →
    HasTravelled (odometer_at o.recording.unit) (carried_by t.keeper xs (carried_at o done s q all t v d w)).book
    (travelled_at o done s q all t v d w xs) e.unit
    → RecordAtFailure o done s q.at q.waits q.speed (told_values u v) e
