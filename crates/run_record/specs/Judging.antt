-- A card that waits in a slot is judged in a run with cards (profile): what is found of it is told, and it is accepted
-- or not; or it is torn out.
use Rattle.std.specs.Prelude.{◌≡◌, ◌⊎◌, ℕ, ◌/◌, ◌<◌, ◌≤◌, Bool, true, false, Some, None, List, [], ◌++◌, Contains}
use Rattle.std.specs.Prelude.{is_some, Option}
use Rattle.std.specs.List.{AllByRecursion}
use Rattle.minute_rules.specs.activity_codec.declared.values.Slot.{Slot}
use Rattle.minute_rules.specs.activity_codec.declared.values.Slot.TheVariants.{Driver, CoDriver}
use Rattle.run_devices.specs.trace_model.declared.Card.{Card}
use Rattle.run_devices.specs.trace_model.Trace.{TraceSecond}
use Rattle.run_devices.specs.run_model.declared.Device.TheVariants.{Unit as Recorder}
use Rattle.run_devices.specs.log_model.declared.lines.Break.{Break}
use Rattle.run_devices.specs.log_model.declared.lines.Find.{Find}
use Rattle.run_devices.specs.log_model.declared.lines.Mark.{Mark}
use Rattle.run_devices.specs.log_model.Log.{Phase, Keeping, is_accepting, found_in}
use Rattle.run_devices.specs.log_model.Slots.{in_slot, same_card}
use Rattle.run_devices.specs.log_model.Causes.{RoseBy}
use Rattle.run_devices.specs.log_model.Course.{Visit, went}
use Rattle.run_devices.specs.device_rule.Rules.{Standing}
use Rattle.run_devices.specs.run_unit_course.Legs.{all_travelled}
use Rattle.run_devices.specs.unit_model.Image.{odometer_at}
use Rattle.run_devices.specs.unit_rule.Odometer.{HasTravelled}
use Rattle.run_devices.specs.card_image.Own.{own_view, IsOwnValid}
use Rattle.run_devices.specs.safety_model.Recording.{card_image, brought as brought_at}
use Rattle.run_devices.specs.safety_model.Safe.{Devices, card_of, breakdowns_of}
use Rattle.run_devices.specs.card_slots.Kept.{IsFree, put_in, taken}
use Rattle.run_devices.specs.run_crew.declared.cabin.Cabin.{Cabin}
use Rattle.run_devices.specs.run_crew.Cards.{session_of}
use Rattle.run_devices.specs.run_promise.Found.{found_of}
use Rattle.run_devices.specs.run_promise.Cards.{IsUntouched, brought_by as entries_brought}
use Rattle.run_devices.specs.run_course.Moments.{and_break, and_find}
use Rattle.run_devices.specs.run_course.Presence.{IsNewestAt}
use Rattle.run_devices.specs.run_course.Seconds.{kept_all}
use Rattle.run_devices.specs.run_promise.Going.{IsTakenAt}
use Rattle.run_devices.specs.run_course.Reached.{moved_at, IsTearAt, IsFindAt}
use Rattle.run_devices.specs.run_course.Telling.{IsMore, BrokeDown, WaitBut}
use Rattle.run_devices.specs.Told.{AreFoundCards, DevicesPowered, DevicesUnpowered, card_marks, HasFoundSo}
use Rattle.run_devices.specs.Presence.{IsSeated}
use Rattle.run_devices.specs.run_promise.Origin.{Origin, start_at, first_of}
use Rattle.run_devices.specs.run_promise.Beside.{HaveLeftMore}
use Rattle.run_record.specs.Recorded.{Values, carried, AreThere}
use Rattle.run_record.specs.Handed.{StayOrEnd}
use Rattle.run_record.specs.Within.{course_in, VerdictBy, often, AreOld, RecordInSecond, SecondGoesOn, RecordAtFailure}
use Rattle.minute_rules.specs.activity_codec.declared.entries.Entry.{Entry}
use Rattle.run_devices.specs.log_model.declared.lines.Verdict.{Verdict}
use Rattle.run_devices.specs.safety_model.Hands.{brought_by as many_brought}
use Rattle.run_devices.specs.hand_model.Holding.{none_held}
use Rattle.run_devices.specs.run_crew.declared.cards.Accepted.{Accepted}
use Rattle.run_devices.specs.history_model.Presence.{trimmed_by, newest_minute}

-- A CARD WAITS in a slot at a moment: it sits there and is not accepted, and has entered with this moment; all minutes
-- before this second's are kept. Behind it these cards wait.
pub record IsNext (o : Origin) (done : List TraceSecond) (s : TraceSecond) (at : Phase) (waits fewer : List Visit)
    (v : Values) (d : Devices) (w : RecordInSecond o done s at waits None [] v d) (slot : Slot) (card : Card) : Type
    0 where
  pub sits_ : in_slot (course_in w.b done s at v.log).slots slot ≡ Some (record { card = card; accepted = None })
  pub enters : (moved_at v.log (went w.b.run.log done).before s at).enters slot ≡ true
  pub stays_in : (moved_at v.log (went w.b.run.log done).before s at).leaving slot ≡ []
  pub but : WaitBut at slot card waits fewer
  pub behind : AllByRecursion (λ (x : Visit). x.phase ≡ at) fewer
  pub is_now : w.from ≡ s.number / 60

-- THE SECOND GOES ON at that moment: it began as before, and no minute was kept.
abbrev pub Behind : (o : Origin) (done : List TraceSecond) (s : TraceSecond) (at : Phase) (waits fewer : List Visit)
    (v later : Values) (d e : Devices) → RecordInSecond o done s at waits None [] v d → Type 0
Behind o done s at waits fewer v later d e w = SecondGoesOn o done s at fewer None [] later e w.b w.from

-- what a run has by value behind a find, with these marks, slots and sessions
abbrev pub judged_values : Find → List Mark → Cabin → Values → Values
judged_values f marks cabin v = record v { log = and_find v.log f; marks = marks; cabin = cabin }

-- THE CARD IS ACCEPTED: it answered this newest minute, and the unit had kept this minute last.
pub record IsAcceptedSo (o : Origin) (done : List TraceSecond) (s : TraceSecond) (at : Phase) (waits : List Visit)
    (v : Values) (d : Devices) (w : RecordInSecond o done s at waits None [] v d) (slot : Slot) (card : Card)
    (cabin : Cabin) (brought : Card → List ℕ) : Type 0 where
  pub newest : ℕ
  pub slots_are : cabin.slots ≡ put_in slot card (Some newest) v.cabin.slots
  pub free : IsFree v.cabin.slots.seats slot card
  pub answered : IsNewestAt (start_at o) (w.b.run.book.sure ++ w.new) v.cabin.slots card newest s.number
  pub kept : ℕ
  pub brings : Contains (brought card) kept
  pub taken_at : IsTakenAt (first_of o) w.b.run.book (kept_all w.new w.b.run.book) w.new kept

-- the card is accepted so, or it is not and sits there as before
abbrev pub IsSeatedBy : (accepts : Bool)
    → (o : Origin) (done : List TraceSecond) (s : TraceSecond) (at : Phase) (waits : List Visit) (v : Values)
    (d : Devices) (w : RecordInSecond o done s at waits None [] v d) (slot : Slot) (card : Card) (cabin : Cabin)
    (brought : Card → List ℕ) → Type 0
IsSeatedBy true o done s at waits v d w slot card cabin brought = IsAcceptedSo o done s at waits v d w slot card cabin
    brought
IsSeatedBy false o done s at waits v d w slot card cabin brought = cabin.slots ≡ v.cabin.slots

-- a card is this one, and was accepted by this find
abbrev pub IsAccepted : Card → (accepts : Bool) → Card → Type 0
IsAccepted card accepts x = (x ≡ card) × (accepts ≡ true)

-- A CARD THAT IS ACCEPTED has a new session, if it has one, which holds no entry by hand; and what was owed to it was
-- brought, with a mark each
pub record IsOpened (o : Origin) (d : Devices) (card : Card) (u : ℕ) (v : Verdict) (old now : List Mark)
    (session : Option Accepted) : Type 0 where
  pub clock : ℕ
  pub owed : List Entry
  pub marks : now ≡ old ++ card_marks card clock owed
  pub told : HasFoundSo o.found card d.unit (card_of d card) u owed (many_brought v)
  pub fresh : (a : Accepted) → session ≡ Some a → a.held ≡ none_held (u / 60)

-- an accepted card has a new session and what was brought; one that is not has the marks and the session that it had
abbrev pub OpensBy : (accepts : Bool) → Origin → Devices → Card → ℕ → Verdict → (old now : List Mark)
    → (was session : Option Accepted) → Type 0
OpensBy true o d card u v old now was session = IsOpened o d card u v old now session
OpensBy false o d card u v old now was session = (now ≡ old) × ((session ≡ was) ⊎ (session ≡ None))

-- A CARD WAS JUDGED, and so was found of it: that may be found of it; what was acknowledged is so still; each device
-- goes on; and no card has a session, or was written, but for those that had one and this one where it is accepted.
pub record IsJudged (o : Origin) (done : List TraceSecond) (s : TraceSecond) (at : Phase) (waits fewer : List Visit)
    (v : Values) (d e : Devices) (w : RecordInSecond o done s at waits None [] v d) (card : Card) (f : Find)
    (marks : List Mark) (cabin : Cabin) (brought : Card → List ℕ) : Type 0 where
  pub next : IsNext o done s at waits fewer v d w f.slot card
  pub here : IsFindAt s at f
  pub none : found_in v.log s.number at f.slot ≡ []
  pub order : f.slot ≡ Driver → ((moved_at v.log (went w.b.run.log done).before s at).enters CoDriver ≡ false)
      ⊎ (found_in v.log s.number at CoDriver ≡ [])
  pub seats : IsSeatedBy (is_accepting f.verdict) o done s at waits v d w f.slot card cabin brought
  pub may : (n : ℕ) × (n ≤ often o w.b done (course_in w.b done s at v.log) s.number card)
      × VerdictBy o w.b done n marks (e.unit.left_since o.found.unit.began)
      ((card_of e card).left_since (found_of o.found card).began) card s.number f.verdict
  pub stay : (mark : Mark) → Contains v.marks mark → Contains marks mark
  pub found : AreFoundCards o.found cabin.cards
  pub more : (c : Card) (k : ℕ) → Contains (w.brought c) k → Contains (brought c) k
  pub early : (c : Card) (k : ℕ) → Contains (brought c) k → k < w.due
  pub left : HaveLeftMore o d e
  pub there : AreThere o.found d → AreThere o.found e
  pub sessions : (x : Card) → is_some (session_of cabin.cards x) ≡ true
      → (is_some (session_of v.cabin.cards x) ≡ true) ⊎ IsAccepted card (is_accepting f.verdict) x
  pub untouched : (x : Card) → IsUntouched (found_of o.found x) (card_of d x)
      → IsUntouched (found_of o.found x) (card_of e x)
      ⊎ ((is_some (session_of v.cabin.cards x) ≡ true) ⊎ IsAccepted card (is_accepting f.verdict) x)
  -- entries by hand: the other card has the session that it had; its own is new, or was found to be none
  pub first : o.found.unit.first ≡ first_of o
  pub start : (found_of o.found card).start ≡ brought_at o.recording card
  pub opens : OpensBy (is_accepting f.verdict) o d card s.number f.verdict v.marks marks
      (session_of v.cabin.cards card) (session_of cabin.cards card)
  pub others : (x : Card) → same_card card x ≡ false → session_of cabin.cards x ≡ session_of v.cabin.cards x
  pub above : is_accepting f.verdict ≡ true → (a : Accepted) → session_of cabin.cards card ≡ Some a
      → trimmed_by (found_of o.found card).start ((found_of o.found card).start.entries
      ++ entries_brought card (found_of o.found card).start (kept_all w.new w.b.run.book)) ≤ a.session.minute
  pub under : is_accepting f.verdict ≡ true → (a : Accepted) → session_of cabin.cards card ≡ Some a
      → a.session.minute ≤ newest_minute (start_at o) (kept_all w.new w.b.run.book).sure card s.number
  pub travels : HasTravelled (odometer_at o.recording.unit) (kept_all w.new w.b.run.book)
      (all_travelled w.ds w.b.travel) e.unit

-- unit and cards are as the book says, and the card stands as it was judged
pub record StandJudged (o : Origin) (done : List TraceSecond) (s : TraceSecond) (at : Phase) (waits : List Visit)
    (v : Values) (d e : Devices) (w : RecordInSecond o done s at waits None [] v d) (card : Card) (f : Find)
    (marks : List Mark) (cabin : Cabin) (brought : Card → List ℕ) (standing : Card → Standing) : Type 0 where
  pub powered : DevicesPowered o.found (carried (judged_values f marks cabin v) w.due (kept_all w.new w.b.run.book)
      standing brought w.hands w.firsts) cabin.cards e
  pub others : (x : Card) → (x ≡ card → ⊥) → standing x ≡ w.standing x
  pub stands : is_accepting f.verdict ≡ true → IsSeated o.found standing card s.number

-- SO THE SECOND GOES ON behind a find, where unit and cards are as the book says.
abbrev pub ACardIsJudged : (d e : Devices) → Type 0
ACardIsJudged d e = (o : Origin) (done : List TraceSecond) (s : TraceSecond) (at : Phase) (waits fewer : List Visit)
    (v : Values) → (w : RecordInSecond o done s at waits None [] v d) →
    (card : Card) (f : Find) (marks : List Mark) (cabin : Cabin) (brought : Card → List ℕ) (standing : Card → Standing)
    → IsJudged o done s at waits fewer v d e w card f marks cabin brought →
    IsMore (breakdowns_of d) (breakdowns_of e)
    → StandJudged o done s at waits v d e w card f marks cabin brought standing
    → Behind o done s at waits fewer v (judged_values f marks cabin v) d e w

-- OR THE UNIT FAILED behind the find: power is about to be cut. `cabin` is then the one in which the card is accepted,
-- if it was found so.
pub record FailedJudging (o : Origin) (done : List TraceSecond) (s : TraceSecond) (at : Phase) (waits : List Visit)
    (v : Values) (d e : Devices) (w : RecordInSecond o done s at waits None [] v d) (f : Find) (marks : List Mark)
    (cabin : Cabin) (brought : Card → List ℕ) : Type 0 where
  pub standing : Card → Standing
  pub powerless : DevicesUnpowered o.found
      (carried (judged_values f marks cabin v) w.due (kept_all w.new w.b.run.book) standing brought w.hands w.firsts) e
  pub broke : RoseBy 1 (w.b.broken Recorder) (breakdowns_of e Recorder)
  pub no_keeping : at ≡ Keeping → ⊥

-- So the record is where the unit failed: power is to be cut.
abbrev pub AJudgingFails : (d e : Devices) → Type 0
AJudgingFails d e = (o : Origin) (done : List TraceSecond) (s : TraceSecond) (at : Phase) (waits fewer : List Visit)
    (v : Values) → (w : RecordInSecond o done s at waits None [] v d) →
    (card : Card) (f : Find) (marks : List Mark) (cabin : Cabin) (brought : Card → List ℕ)
    → IsJudged o done s at waits fewer v d e w card f marks cabin brought →
    IsMore (breakdowns_of d) (breakdowns_of e) → FailedJudging o done s at waits v d e w f marks cabin brought
    → RecordAtFailure o done s at fewer None (judged_values f marks cabin v) e

-- ---- a card that is torn out before it is judged

-- a card is this one, which was valid and told of no later time
abbrev pub MayBeWrittenBy : Origin → ℕ → Card → Card → Type 0
MayBeWrittenBy o u card x = (x ≡ card) × IsOwnValid (card_image o.recording card)
    × ((own_view (card_image o.recording card)).stored ≤ u)

-- what a run has by value behind the tear of a card that was not judged
abbrev pub torn_values : Break → Cabin → Values → Values
torn_values b cabin v = record v { log = and_break v.log b; cabin = cabin }

-- A CARD THAT WAITS IS TORN OUT, since a call on it failed before it was judged: no session is new, each device goes
-- on, and no card was written but for one that had a session, and this one where it may be.
pub record IsTornNext (o : Origin) (done : List TraceSecond) (s : TraceSecond) (at : Phase) (waits fewer : List Visit)
    (v : Values) (d e : Devices) (w : RecordInSecond o done s at waits None [] v d) (slot : Slot) (card : Card)
    (b : Break) (cabin : Cabin) : Type 0 where
  pub next : IsNext o done s at waits fewer v d w slot card
  pub here : IsTearAt s at slot true b
  pub broke : BrokeDown card (breakdowns_of d) (breakdowns_of e)
  pub slots_are : cabin.slots ≡ taken slot s.number v.cabin.slots
  pub found : AreFoundCards o.found cabin.cards
  pub sessions : AreOld v.cabin.cards cabin.cards
  pub lasts : StayOrEnd (session_of v.cabin.cards) (session_of cabin.cards)
  pub left : HaveLeftMore o d e
  pub there : AreThere o.found d → AreThere o.found e
  pub untouched : (x : Card) → IsUntouched (found_of o.found x) (card_of d x)
      → IsUntouched (found_of o.found x) (card_of e x)
      ⊎ ((is_some (session_of v.cabin.cards x) ≡ true) ⊎ MayBeWrittenBy o s.number card x)
  pub travels : HasTravelled (odometer_at o.recording.unit) (kept_all w.new w.b.run.book)
      (all_travelled w.ds w.b.travel) e.unit

-- unit and cards are as the book says behind it
pub record StandTorn (o : Origin) (done : List TraceSecond) (s : TraceSecond) (at : Phase) (waits : List Visit)
    (v : Values) (d e : Devices) (w : RecordInSecond o done s at waits None [] v d) (card : Card) (b : Break)
    (cabin : Cabin) (standing : Card → Standing) : Type 0 where
  pub powered : DevicesPowered o.found (carried (torn_values b cabin v) w.due (kept_all w.new w.b.run.book) standing
      w.brought w.hands w.firsts) cabin.cards e
  pub others : (x : Card) → (x ≡ card → ⊥) → standing x ≡ w.standing x

-- SO THE SECOND GOES ON behind the tear;
abbrev pub AWaitingCardIsTorn : (d e : Devices) → Type 0
AWaitingCardIsTorn d e = (o : Origin) (done : List TraceSecond) (s : TraceSecond) (at : Phase)
    (waits fewer : List Visit) (v : Values) → (w : RecordInSecond o done s at waits None [] v d) →
    (slot : Slot) (card : Card) (b : Break) (cabin : Cabin) (standing : Card → Standing)
    → IsTornNext o done s at waits fewer v d e w slot card b cabin →
    StandTorn o done s at waits v d e w card b cabin standing
    → Behind o done s at waits fewer v (torn_values b cabin v) d e w

-- the unit failed behind the tear, and power is about to be cut
pub record FailedTearing (o : Origin) (done : List TraceSecond) (s : TraceSecond) (at : Phase) (waits : List Visit)
    (v : Values) (d e : Devices) (w : RecordInSecond o done s at waits None [] v d) (b : Break) (cabin : Cabin) : Type
    0 where
  pub standing : Card → Standing
  pub powerless : DevicesUnpowered o.found
      (carried (torn_values b cabin v) w.due (kept_all w.new w.b.run.book) standing w.brought w.hands w.firsts) e
  pub broke : RoseBy 1 (w.b.broken Recorder) (breakdowns_of e Recorder)
  pub no_keeping : at ≡ Keeping → ⊥

-- and so the record is where the unit failed.
abbrev pub ATearingFails : (d e : Devices) → Type 0
ATearingFails d e = (o : Origin) (done : List TraceSecond) (s : TraceSecond) (at : Phase) (waits fewer : List Visit)
    (v : Values) → (w : RecordInSecond o done s at waits None [] v d) →
    (slot : Slot) (card : Card) (b : Break) (cabin : Cabin)
    → IsTornNext o done s at waits fewer v d e w slot card b cabin →
    FailedTearing o done s at waits v d e w b cabin → RecordAtFailure o done s at fewer None (torn_values b cabin v) e
