-- What is carried beside the rules of unit and cards from second to second, and what a run promises at its end
-- (profile).
use Rattle.std.specs.Prelude.{◌≡◌, ◌⊎◌, ℕ, zero, suc, ◌<◌, true, List, [], ◌∷◌, All, Contains, filter, length}
use Rattle.run_course.specs.activity_codec.declared.entries.Entry.{Entry}
use Rattle.run_course.specs.trace_model.declared.Card.{Card}
use Rattle.run_course.specs.trace_model.Trace.{TraceSecond}
use Rattle.run_course.specs.log_model.declared.lines.Break.{Break}
use Rattle.run_course.specs.log_model.declared.lines.Mark.{Mark}
use Rattle.run_course.specs.log_model.declared.lines.Verdict.{Verdict}
use Rattle.run_course.specs.log_model.declared.lines.Verdict.TheVariants.{Accepted, NotValid, TimeOverlap}
use Rattle.run_course.specs.log_model.Causes.{device_of, cuts, cards_torn}
use Rattle.run_course.specs.log_model.Log.{RunLog}
use Rattle.run_course.specs.log_model.Slots.{same_card}
use Rattle.run_course.specs.log_model.Course.{ToldSecond, Visit}
use Rattle.run_course.specs.history_model.Completeness.{IsMarked}
use Rattle.unit_rule.specs.unit_model.Image.{odometer_at}
use Rattle.unit_rule.specs.unit_minutes.DayOdometers.{RecordsDay}
use Rattle.unit_rule.specs.run_unit_course.Legs.{Travel}
use Rattle.unit_rule.specs.Odometer.{OdometerSafe, HasTravelled}
use Rattle.unit_rule.specs.card_image.Own.{IsOwnValid}
use Rattle.unit_rule.specs.safety_model.Recording.{Recording, card_image, told_of, brought}
use Rattle.unit_rule.specs.safety_model.Cards.{entered, overlaps}
use Rattle.unit_rule.specs.safety_model.Safe.{Devices, card_of, breakdowns_of, entered_by, WasFound, IsUnfound}
use Rattle.unit_rule.specs.safety_model.Safe.{IsVerdict, IsSafe}
use Rattle.unit_rule.specs.safety_model.Safe.{IsCaused}
use Rattle.unit_rule.specs.safety_model.ByHand.{StopsHands}
use Rattle.unit_rule.specs.safety_model.Stops.{TellsEachStop}
use Rattle.run_course.specs.log_model.declared.lines.Refused.{Refused}
use Rattle.run_promise.specs.Found.{found_of}
use Rattle.run_promise.specs.Cards.{IsUntouched}
use Rattle.run_promise.specs.Between.{RunLedger, HandsFollowed}
use Rattle.run_course.specs.Followed.{Progress}
use Rattle.run_promise.specs.Accounts.{so_far}
use Rattle.run_promise.specs.Origin.{Origin}
use Rattle.run_promise.specs.Days.{HasWords, IsBegunIn}
use Rattle.run_promise.specs.Whole.{IsWhole}

-- the recording of a run so far
abbrev pub recording_by : Origin → List TraceSecond → RunLog → Recording
recording_by o done log = so_far o.recording done log

-- the same with what sessions refused of entries by hand
abbrev pub recording_with : Origin → List TraceSecond → RunLog → (stops : List Refused) → Recording
recording_with o done log stops = record (recording_by o done log) { stops = stops }

-- a card has entered before: in an earlier second, or more than once in the minute of this one, up to it
abbrev pub HasEnteredBefore : Recording → Card → (second : ℕ) → Type 0
HasEnteredBefore r c u = (1 < entered_by r c u) ⊎ ((t : ℕ) × (t < u) × (0 < entered_by r c t))

-- so many entries as the unit owed to a card at the start were brought, and each of them is acknowledged
abbrev pub IsAllOwed : Recording → List Mark → Card → (replayed : ℕ) → Type 0
IsAllOwed r marks c replayed = (replayed ≡ length (brought r c).owed)
    × All (λ (e : Entry). IsMarked marks (device_of c) e.minute) (brought r c).owed

-- WHAT AN ACCEPTANCE BRINGS: where the card enters for the first time, all that the unit owed to it at the start.
abbrev pub BringsAll : Recording → List Mark → Card → (second : ℕ) → Verdict → Type 0
BringsAll r marks c u (Accepted replayed) = IsAllOwed r marks c replayed ⊎ HasEnteredBefore r c u
BringsAll r marks c u (NotValid fid place) = Unit {0}
BringsAll r marks c u (TimeOverlap stored now) = Unit {0}

-- of breaks it was found what was kept after the first so many of them, and after no other
abbrev pub AreFound : (unit : List ℕ → Type 0) → ℕ → List Break → Type 0
AreFound unit n [] = Unit {0}
AreFound unit zero (b ∷ breaks) = IsUnfound b × AreFound unit zero breaks
AreFound unit (suc n) (b ∷ breaks) = WasFound unit b × AreFound unit n breaks

-- WHAT WAS FOUND OF CARDS so far may be found of them, and what was found kept after the first so many breaks was kept,
-- by the images that the devices have left since the start; and so many entries were brought, and acknowledged.
pub record AreVerdicts (o : Origin) (done : List TraceSecond) (log : RunLog) (unfound : ℕ) (marks : List Mark)
    (d : Devices) : Type 0 where
  pub each : (t : ToldSecond) (e : Visit) (v : Verdict) → Contains (told_of (recording_by o done log)) t
      → Contains t.course.found (e, v) →
      IsVerdict (recording_by o done log) (d.unit.left_since o.found.unit.began)
      ((card_of d e.card).left_since (found_of o.found e.card).began) e.card t.second.number v
      × BringsAll (recording_by o done log) marks e.card t.second.number v
  pub kept : AreFound (d.unit.left_since o.found.unit.began) unfound log.breaks

-- a card may be written: it was valid, and it entered more often than it was found to tell of a later time
abbrev pub MayBeWritten : Recording → Card → Type 0
MayBeWritten r c = IsOwnValid (card_image r c) × (overlaps r c < entered r c)

-- any other is as it was
abbrev pub AreSpared : Origin → List TraceSecond → RunLog → Devices → Type 0
AreSpared o done log d = (c : Card)
    → IsUntouched (found_of o.found c) (card_of d c) ⊎ MayBeWritten (recording_by o done log) c

-- OF THE ENTRIES BY HAND of each card that was valid: those of the run's record, and which of them a session stopped;
-- and each of these has its line
pub record HandsBeside (r : Recording) (w : RunLedger) (marks : List Mark) : Type 0 where
  pub followed : (c : Card) → IsOwnValid (card_image r c) → HandsFollowed r c (w.hands c) (w.firsts c) w.marks
  pub stops : (c : Card) → IsOwnValid (card_image r c) → StopsHands r c marks
  pub each_stop : TellsEachStop r

-- BESIDE WHAT IS RECORDED: what was found of cards, which cards may be written, and the odometer of the unit's images
pub record IsBeside (o : Origin) (done : List TraceSecond) (p : Progress) (g : Travel) (marks : List Mark)
    (d : Devices) : Type 0 where
  pub verdicts : AreVerdicts o done p.log p.unfound marks d
  pub spared : AreSpared o done p.log d
  pub travels : HasTravelled (odometer_at o.recording.unit) p.book g d.unit

-- WHAT A RUN PROMISES, where its devices began as a recording has them: `began` are they at the opening, `now` at the
-- end.
pub record EndsRun (r : Recording) (marks : List Mark) (began now : Devices) : Type 0 where
  -- The crash-safety theorem: every image that a stop may leave of unit or card shows what it held at the start
  -- followed by a part of the run's history from its front, with every acknowledged minute; and what a card lacks is
  -- owed to it.
  pub safe : IsSafe r marks began now
  -- Each line of the log has its cause, and what happened has its line; each decided minute is acknowledged but where a
  -- call failed in the second that decided it, and each entry of a card but there or where it was torn out or pulled
  -- out.
  pub caused : IsCaused r marks began now
  -- And a card that no failed call has torn out has not broken down.
  pub still : (c : Card) → filter (same_card c) (cards_torn (told_of r)) ≡ []
      → breakdowns_of now (device_of c) ≡ breakdowns_of began (device_of c)
  -- What an acceptance brings of a card that enters for the first time: so many entries as the unit owed to it at the
  -- start, and each of them is acknowledged.
  pub brings : (t : ToldSecond) (e : Visit) (v : Verdict) → Contains (told_of r) t → Contains t.course.found (e, v)
      → BringsAll r marks e.card t.second.number v
  -- The odometer of each image that a stop may leave is the start's and the whole kilometres of each span, up to its
  -- last-kept minute or one of which the keeping was broken off.
  pub odometer : (x : List ℕ) → now.unit.may_leave x → OdometerSafe r.rule r.log (told_of r) (odometer_at r.unit) x
  -- So is that of each day that it records: as at the start, or that at the end of the first minute with which the run
  -- began the day.
  pub days : (x : List ℕ) → now.unit.may_leave x → (day odometer : ℕ) → RecordsDay x day odometer
      → RecordsDay r.unit day odometer ⊎ IsBegunIn r x day odometer
  -- And the words of its days, up to its last-kept minute, are those of the start with just the new ones of the minutes
  -- that it has.
  pub words : (x : List ℕ) → now.unit.may_leave x → HasWords r x
  -- Where no failed call has cut the power every minute is there: each decided one stands in the history, the unit has
  -- all of it, and a card that was accepted, and that no failed call has torn out, all of its entries.
  pub whole : cuts true r.log ≡ [] → IsWhole r now
