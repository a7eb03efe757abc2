-- A card that waits is accepted and torn out in one call (profile): both are told, and it has left its slot.
use Rattle.std.specs.Prelude.{◌≡◌, ℕ, true, None, List, []}
use Rattle.run_devices.specs.trace_model.declared.Card.{Card}
use Rattle.run_devices.specs.trace_model.Trace.{TraceSecond}
use Rattle.run_devices.specs.run_model.declared.Device.TheVariants.{Unit as Recorder}
use Rattle.run_devices.specs.log_model.declared.lines.Break.{Break}
use Rattle.run_devices.specs.log_model.declared.lines.Find.{Find}
use Rattle.run_devices.specs.log_model.declared.lines.Mark.{Mark}
use Rattle.run_devices.specs.log_model.Log.{Phase, Keeping, is_accepting}
use Rattle.run_devices.specs.log_model.Causes.{RoseBy}
use Rattle.run_devices.specs.log_model.Course.{Visit}
use Rattle.run_devices.specs.device_rule.Rules.{Standing}
use Rattle.run_devices.specs.safety_model.Safe.{Devices, breakdowns_of}
use Rattle.run_devices.specs.card_slots.Kept.{taken}
use Rattle.run_devices.specs.run_crew.declared.cabin.Cabin.{Cabin}
use Rattle.run_devices.specs.run_course.Seconds.{kept_all}
use Rattle.run_devices.specs.run_course.Reached.{IsTearAt}
use Rattle.run_devices.specs.run_course.Telling.{BrokeDown}
use Rattle.run_devices.specs.Told.{AreFoundCards, DevicesPowered, DevicesUnpowered}
use Rattle.run_devices.specs.run_promise.Origin.{Origin}
use Rattle.run_record.specs.Recorded.{Values, carried}
use Rattle.run_record.specs.Handed.{StayOrEnd}
use Rattle.run_record.specs.Within.{AreOld, RecordInSecond, RecordAtFailure}
use Rattle.run_devices.specs.run_crew.Cards.{session_of}
use Rattle.run_record.specs.Judging.{Behind, judged_values, torn_values, IsJudged}

-- what a run has by value behind find and tear
abbrev pub lost_values : Find → Break → List Mark → (cabin after : Cabin) → Values → Values
lost_values f b marks cabin after v = torn_values b after (judged_values f marks cabin v)

-- THE CARD WAS ACCEPTED, and a later call on it failed: behind that it is in no slot. `cabin` is the one in which it is
-- accepted.
pub record IsLostSo (o : Origin) (done : List TraceSecond) (s : TraceSecond) (at : Phase) (waits fewer : List Visit)
    (v : Values) (d e : Devices) (w : RecordInSecond o done s at waits None [] v d) (card : Card) (f : Find)
    (cabin after : Cabin) (b : Break) : Type 0 where
  pub accepts : is_accepting f.verdict ≡ true
  pub torn_here : IsTearAt s at f.slot true b
  pub broke : BrokeDown card (breakdowns_of d) (breakdowns_of e)
  pub slots_are : after.slots ≡ taken f.slot s.number cabin.slots
  pub found : AreFoundCards o.found after.cards
  pub sessions : AreOld v.cabin.cards after.cards
  pub lasts : StayOrEnd (session_of cabin.cards) (session_of after.cards)

-- unit and cards are as the book says behind it
pub record StandLost (o : Origin) (done : List TraceSecond) (s : TraceSecond) (at : Phase) (waits : List Visit)
    (v : Values) (d e : Devices) (w : RecordInSecond o done s at waits None [] v d) (card : Card) (f : Find)
    (marks : List Mark) (cabin after : Cabin) (brought : Card → List ℕ) (b : Break) (standing : Card → Standing) : Type
    0 where
  pub powered : DevicesPowered o.found (carried (lost_values f b marks cabin after v) w.due
      (kept_all w.new w.b.run.book) standing brought w.hands w.firsts) after.cards e
  pub others : (x : Card) → (x ≡ card → ⊥) → standing x ≡ w.standing x

-- SO THE SECOND GOES ON behind find and tear;
abbrev pub ACardIsLost : (d e : Devices) → Type 0
ACardIsLost d e = (o : Origin) (done : List TraceSecond) (s : TraceSecond) (at : Phase) (waits fewer : List Visit)
    (v : Values) → (w : RecordInSecond o done s at waits None [] v d) →
    (card : Card) (f : Find) (marks : List Mark) (cabin after : Cabin) (brought : Card → List ℕ) (b : Break)
    (standing : Card → Standing) → IsJudged o done s at waits fewer v d e w card f marks cabin brought →
    IsLostSo o done s at waits fewer v d e w card f cabin after b
    → StandLost o done s at waits v d e w card f marks cabin after brought b standing
    → Behind o done s at waits fewer v (lost_values f b marks cabin after v) d e w

-- the unit failed behind find and tear, and power is about to be cut
pub record FailedLosing (o : Origin) (done : List TraceSecond) (s : TraceSecond) (at : Phase) (waits : List Visit)
    (v : Values) (d e : Devices) (w : RecordInSecond o done s at waits None [] v d) (f : Find) (marks : List Mark)
    (cabin after : Cabin) (brought : Card → List ℕ) (b : Break) : Type 0 where
  pub standing : Card → Standing
  pub powerless : DevicesUnpowered o.found
      (carried (lost_values f b marks cabin after v) w.due (kept_all w.new w.b.run.book) standing brought w.hands
      w.firsts) e
  pub broke : RoseBy 1 (w.b.broken Recorder) (breakdowns_of e Recorder)
  pub no_keeping : at ≡ Keeping → ⊥

-- and so the record is where the unit failed.
abbrev pub ALosingFails : (d e : Devices) → Type 0
ALosingFails d e = (o : Origin) (done : List TraceSecond) (s : TraceSecond) (at : Phase) (waits fewer : List Visit)
    (v : Values) → (w : RecordInSecond o done s at waits None [] v d) →
    (card : Card) (f : Find) (marks : List Mark) (cabin after : Cabin) (brought : Card → List ℕ) (b : Break)
    → IsJudged o done s at waits fewer v d e w card f marks cabin brought →
    IsLostSo o done s at waits fewer v d e w card f cabin after b
    → FailedLosing o done s at waits v d e w f marks cabin after brought b
    → RecordAtFailure o done s at fewer None (lost_values f b marks cabin after v) e
