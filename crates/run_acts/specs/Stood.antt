-- What a card showed exactly of its stays, and what stands of that, whatever calls failed later (profile).
use Rattle.std.specs.Prelude.{◌≡◌, ◌⊎◌, ◌+◌, ◌*◌, ◌/◌, ◌<◌, ◌≤◌, ℕ, suc, Bool, true, false, IfSome, None, List, []}
use Rattle.std.specs.Prelude.{◌&&◌, ◌∷◌, ◌++◌, All, length, nat_eq}
use Rattle.std.specs.List.{AllByRecursion, list_any}
use Rattle.activity_codec.specs.declared.values.Slot.{Slot}
use Rattle.trace_model.specs.declared.Action.{Action}
use Rattle.trace_model.specs.declared.Action.TheVariants.{Withdraw, Place}
use Rattle.trace_model.specs.declared.Card.{Card}
use Rattle.trace_model.specs.Trace.{TraceSecond}
use Rattle.unit_model.specs.minute_model.declared.Minute.{Minute}
use Rattle.unit_model.specs.Image.{odometer_at}
use Rattle.tach_media.specs.Medium.{State, last_count}
use Rattle.run_events.specs.gated_ring.Ring.{PointsInside}
use Rattle.log_model.specs.Log.{RunLog, In}
use Rattle.log_model.specs.Causes.{device_of}
use Rattle.log_model.specs.Course.{Visit, ToldSecond, went}
use Rattle.log_model.specs.Same.{SameAt}
use Rattle.log_model.specs.Slots.{refusal, same_card}
use Rattle.log_model.specs.declared.lines.Break.{Break}
use Rattle.log_model.specs.declared.lines.Find.{Find}
use Rattle.hand_model.specs.card_image.Own.{own_sizes, IsOwnValid}
use Rattle.hand_model.specs.card_image.Fields.{current_use, vehicle_ring}
use Rattle.device_calls.specs.card_session.declared.session.Kept.{Kept}
use Rattle.device_calls.specs.card_session.Books.{mark_of}
use Rattle.device_calls.specs.card_session.Sessions.{book_of}
use Rattle.device_calls.specs.card_string.Deeds.{IsMadeSince}
use Rattle.device_calls.specs.device_rule.Views.{other}
use Rattle.device_calls.specs.safety_model.Recording.{Recording, card_image}
use Rattle.device_calls.specs.safety_model.Safe.{Devices, card_of}
use Rattle.run_crew.specs.card_slots.Calls.{logged}
use Rattle.run_outcome.specs.Lines.{Listed}
use Rattle.run_outcome.specs.declared.outcome.Outcome.{Outcome}
use Rattle.run_minutes.specs.run_promise.Beside.{HaveLeftMore}
use Rattle.run_minutes.specs.run_promise.Ends.{recording_by}
use Rattle.run_minutes.specs.run_promise.Found.{found_of}
use Rattle.run_minutes.specs.run_promise.Origin.{Origin}
use Rattle.run_minutes.specs.run_promise.Whole.{NothingFailed}
use Rattle.run_minutes.specs.run_devices.Measured.{MakesOn}
use Rattle.run_minutes.specs.declared.keeper.Moment.{Moment}
use Rattle.run_minutes.specs.Books.{HaveTime}
use Rattle.unit_notes.specs.note_model.Done.{has_failed_in}
use Rattle.run_note_record.specs.OnCards.{has_call_failed_in}
use Rattle.run_note_record.specs.Ringed.{notes_in}
use Rattle.run_note_record.specs.Uses.{vehicle_of}
use Rattle.run_acts.specs.declared.run.Run.{Run}
use Rattle.run_acts.specs.Closings.{spells_of}
use Rattle.run_acts.specs.Truths.{past_of, IsOdometerBefore, IsOdometerBehind, IsWordIn, IsLineOf}
use Rattle.run_acts.specs.Stays.{Stay, after_stays, start_shown, spells, AreMerged, judged_told, judged_in, AreJudged}
use Rattle.run_acts.specs.Stays.{IsUnhurt}
use Rattle.run_acts.specs.Settling.{settled_run}
use Rattle.run_acts.specs.Recording.{log_of, RunWithin, InSecond, IsNow}
use Rattle.run_acts.specs.RunCards.{sizes_in}

-- A STAY WAS CLOSED with the word of its slot, where it was, in the second of its withdrawal
abbrev pub IsClosedSo : Recording → Stay → Type 0
IsClosedSo r s = IfSome s.closed (λ x. IsWordIn r.rule (past_of r.log r.trace) s.found x.second x.word)

-- ITS ODOMETER is that of the run as its second begins; and of each minute that it kept, as that ends
abbrev pub IsCountedSo : Recording → Stay → Type 0
IsCountedSo r s =
    IsOdometerBefore r.rule (odometer_at r.unit) (past_of r.log r.trace).spans s.found.second s.odometer
    × AllByRecursion (λ (k : Kept). IsOdometerBehind r.rule (odometer_at r.unit) (past_of r.log r.trace).spans
    (60 * k.entry.minute + 59) k.odometer.0) s.kepts

-- AN IMAGE SHOWS exactly what these stays in the vehicle of the run make of that at the start: its days, with their
-- words and distances, its vehicle entries, all of them, and its current use
abbrev pub ShowsItsStays : Recording → Card → List Stay → (x : List ℕ) → Type 0
ShowsItsStays r c stays x =
    (book_of (own_sizes (card_image r c)) x
    ≡ (after_stays (vehicle_of r.unit) (own_sizes (card_image r c)).activity stays (start_shown (card_image r c))).book)
    × (current_use (own_sizes (card_image r c)) x
    ≡ (after_stays (vehicle_of r.unit) (own_sizes (card_image r c)).activity stays (start_shown (card_image r c))).held)

-- THE STAYS OF A CARD ARE EXACT, as each of these images shows them, in the vehicle that the unit's image says. EACH
-- LINE of the log that accepts a card, or tells that it stores a later time, is, in its order, the next of this card's,
-- or of the others (`judged`): of its stays, each with the lines before it, and of those since the last. Each of its
-- own is of the action that puts the card in the slot, or of a power-on (`entered`), and each of the others so of the
-- other card (`theirs`). Only a card that was valid has any (`only`). By each line of a stay it was accepted, in a
-- second that is not earlier than the stored time of what it showed by then, with as many entries owed as the line
-- tells; and by each of those before it was turned away, in a second that is earlier than that time, which the line
-- tells (`verdicts`). EACH IMAGE of these has exactly those days, with their words and distances, and those vehicle
-- entries, all of them, that its stays make of its image at the start: in each it was inserted, kept its minutes, each
-- with so many km as the odometer has grown since the one before, and was withdrawn with an activity, or was not; and a
-- session that was left open was cut at its end mark, and got the entries that the card lacked, as the next stay began
-- (`shows`). THEY ARE EXACTLY THE INSERTIONS of the card that the run notes, each of that second and slot, in their
-- order; and those were withdrawn of which the run notes a withdrawal, in its second, and no other (`closed`). The card
-- was withdrawn with the activity that the slot has as the first action behind its acceptance withdraws from it: by the
-- seconds of the power span before its second and what the actions before it select (`words`). THE ODOMETERS are those
-- of the run: what the unit's image says at the start, with the whole kilometres of each power span before, and of the
-- span so far.
pub record HasExactStays (r : Recording) (c : Card) (shown : List ℕ → Type 0) : Type 0 where
  pub stays : List Stay
  pub since : List Find
  pub others : List Find
  pub only : ((stays ≡ []) × (since ≡ [])) ⊎ IsOwnValid (card_image r c)
  pub judged : AreMerged (judged_told r.log) (judged_in stays since) others
  pub entered : AllByRecursion (IsLineOf r.trace c) (judged_in stays since)
  pub theirs : AllByRecursion (IsLineOf r.trace (other c)) others
  pub verdicts : IsOwnValid (card_image r c)
      → AreJudged (vehicle_of r.unit) (own_sizes (card_image r c)).activity stays since (start_shown (card_image r c))
  pub shows : IsOwnValid (card_image r c) → (x : List ℕ) → shown x → ShowsItsStays r c stays x
  pub closed : IsOwnValid (card_image r c) → spells stays ≡ spells_of c (notes_in r.log r.trace)
  pub words : AllByRecursion (IsClosedSo r) stays
  pub odometers : AllByRecursion (IsCountedSo r) stays

-- ---- of a run of which a call fails later

-- a recording of these of its seconds, by another log
abbrev pub recording_to : Recording → (front : List TraceSecond) → (told : RunLog) → Recording
recording_to r front told = record r { trace = front; log = told; stops = [] }

-- a failed call tore a card out in a second, as these seconds tell
abbrev pub is_torn_out_in : List ToldSecond → Card → ℕ → Bool
is_torn_out_in told c u = list_any (λ (t : ToldSecond). nat_eq t.second.number u
    && list_any (λ (v : Visit). same_card c v.card) t.course.torn) told

-- A CALL FAILED ON A CARD, or on the unit, in a second: the log tells of a cut in it that a failed call made; or, by
-- the log, one tore the card out in it; or one on any device failed in it, and the card's count of breakdowns stood at
-- its last value as the run began.
abbrev pub HasFailedOnIn : Recording → Card → (count : ℕ) → ℕ → Type 0
HasFailedOnIn r c count u = (has_failed_in r.log u ≡ true)
    ⊎ ((is_torn_out_in (went r.log r.trace).told c u ≡ true)
    ⊎ ((last_count ≤ count) × (has_call_failed_in r.log u ≡ true)))

-- so one has in the minute of the first of these seconds, or before
abbrev pub HasFailedOnBy : Recording → Card → (count : ℕ) → List TraceSecond → Type 0
HasFailedOnBy r c count [] = ⊥
HasFailedOnBy r c count (s ∷ ss) = (u : ℕ) × HasFailedOnIn r c count u × (u / 60 ≤ s.number / 60)

-- WHAT A CARD SHOWED BEFORE THE FIRST CALL THAT FAILED ON IT, or on the unit, STANDS. Behind these first seconds of the
-- run (`front`), of each of which the log tells the same as another (`tells`), it showed an image, which it might have
-- left since the run began (`was`), and which had exactly the stays of these seconds by that log (`exact`). Each image
-- that a stop may leave of it now is made of that one, by keeps of minutes that it did not count yet, entries by hand,
-- closings and cuts, each done or broken off (`stands`). And these seconds are all; or a call on the card or on the
-- unit has failed in the minute of the first second behind them, or before (`until`): calls on the other card count for
-- nothing, but where the card's count of breakdowns stood at its last value as the run began.
pub record StoodExactly (r : Recording) (c : Card) (began count : ℕ) (card : State) : Type 0 where
  pub front : List TraceSecond
  pub rest : List TraceSecond
  pub are : r.trace ≡ front ++ rest
  pub told : RunLog
  pub tells : All (λ (s : TraceSecond). SameAt told r.log s.number) front
  pub image : List ℕ
  pub exact : HasExactStays (recording_to r front told) c (λ x. x ≡ image)
  pub was : card.left_since began image
  pub stands : (x : List ℕ) → card.may_leave x
      → IsMadeSince (own_sizes (card_image r c)) (mark_of (book_of (own_sizes (card_image r c)) image)) image x
  pub until : (rest ≡ []) ⊎ HasFailedOnBy r c count rest

-- and in each image that it may leave the pointer of the vehicle entries is an index
abbrev pub StandsStill : (r : Recording) → (c : Card) → (began count : ℕ) → (card : State) → Type 0
StandsStill r c began count card = StoodExactly r c began count card
    × ((x : List ℕ) → card.may_leave x → PointsInside (vehicle_ring (own_sizes (card_image r c))) x)

-- so it is of each card that was valid, in a second behind these, by the log of then
abbrev pub HaveStood : Origin → List TraceSecond → RunLog → Devices → Type 0
HaveStood o done log d = (c : Card) → IsOwnValid (card_image o.recording c)
    → StandsStill (recording_by o done log) c (found_of o.found c).began (o.breakdowns (device_of c)) (card_of d c)

-- no call has failed; or none on a card, nor on the unit
abbrev pub IsCalm : Origin → RunLog → Card → Devices → Type 0
IsCalm o log c d = NothingFailed log ⊎ IsUnhurt o log c d

-- and between two seconds, once one has failed
abbrev pub HasStood : Origin → List TraceSecond → RunLog → Card → Devices → Type 0
HasStood o done log c d = (s : StandsStill (recording_by o done log) c (found_of o.found c).began
    (o.breakdowns (device_of c)) (card_of d c))
    × HasFailedOnBy (recording_by o done log) c (o.breakdowns (device_of c)) s.0.rest

-- so each card that was valid at the start has stood; or no call has failed, or none on it and on the unit
abbrev pub HaveStoodBehind : Origin → List TraceSecond → RunLog → Devices → Type 0
HaveStoodBehind o done log d = (c : Card) → IsOwnValid (card_image o.recording c)
    → IsCalm o log c d ⊎ HasStood o done log c d

-- ---- what calls say of it

-- CALLS LET IT STAND: what a device might have left it might have left still; and each image that a card may leave
-- which was valid goes on from one before
pub record LetStand (o : Origin) (d e : Devices) : Type 0 where
  pub left : HaveLeftMore o d e
  pub made : (c : Card) → IsOwnValid (card_image o.recording c) → MakesOn (sizes_in o c) (card_of d c) (card_of e c)

-- A LOG TELLS MORE: of these seconds the same; and what had failed has failed, each call and each of the unit
pub record TellsOn (log later : RunLog) (done : List TraceSecond) : Type 0 where
  pub same : All (λ (s : TraceSecond). SameAt log later s.number) done
  pub still : (u : ℕ) → has_call_failed_in log u ≡ true → has_call_failed_in later u ≡ true
  pub cut : (u : ℕ) → has_failed_in log u ≡ true → has_failed_in later u ≡ true

-- THE MINUTES THAT A SETTLING DECIDES were to be kept in an action
abbrev pub StandsSettling : (decided : List Minute) → Moment → (old new : Run) → (before : Outcome) → (d e : Devices)
    → Type 0
StandsSettling decided at old new before d e = (o : Origin) (done : List TraceSecond) (s : TraceSecond) (n : ℕ)
    (waits : List Visit) → at ≡ record { second = s.number; begun = suc n; late = false } →
    (w : RunWithin o done s (In (suc n)) waits decided (settled_run new.minutes old) before d) → HaveTime e
    → LetStand o d e

-- AN ACTION of a second is carried out, which slots and speed do not refuse.
abbrev pub StandsAction : Action → (begun speed : ℕ) → (old : Run) → (before : Outcome) → (d e : Devices) → Type 0
StandsAction action begun speed old before d e = (o : Origin) (done : List TraceSecond) (s : TraceSecond)
    → IsNow s speed old → (front rest : List Action) → s.actions ≡ front ++ action ∷ rest → begun ≡ suc (length front) →
    refusal (logged old.keeper.cabin.slots.seats) speed action ≡ None
    → (w : RunWithin o done s (In (length front)) [] [] old before d) → HaveTime e → LetStand o d e

-- A CARD IS WITHDRAWN
abbrev pub StandsWithdrawal : Slot → Moment → (old : Run) → (before : Outcome) → (d e : Devices) → Type 0
StandsWithdrawal slot at old before d e = at.late ≡ false → (speed : ℕ)
    → StandsAction (Withdraw slot) at.begun speed old before d e

-- A PLACE IS NOTED
abbrev pub StandsPlace : Slot → Moment → (old : Run) → (breaks : Listed Break) → (d e : Devices) → Type 0
StandsPlace slot at old breaks d e = at.late ≡ false → (ending : Bool) (country region speed : ℕ) (before : Outcome)
    → before.breaks ≡ breaks → StandsAction (Place slot ending country region) at.begun speed old before d e

-- SECONDS OF ONE MINUTE: the first has had all of its actions
abbrev pub StandsTurn : (n speed begun : ℕ) → (old : Run) → (before after : Outcome) → (d e : Devices) → Type 0
StandsTurn n speed begun old before after d e = (o : Origin) (done : List TraceSecond) (s : TraceSecond)
    → IsNow s speed old → length s.actions ≡ begun → (1 < n → s.actions ≡ []) →
    InSecond o done s begun old before d → HaveTime e
    → LetStand o d e × TellsOn (log_of before) (log_of after) done
