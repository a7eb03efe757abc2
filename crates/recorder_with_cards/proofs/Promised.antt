-- What a run promises, from what was recorded of it; and that nothing is recorded as it begins.
use Rattle.std.proofs.Common.{◌≡◌, ◌∙◌, ◌⊎◌, inl, inr, ℕ, ◌/◌, ◌<◌, ◌≤◌, true, false, Option, Some, None, IfSome, option_map, is_some, List, [], length, All, refl, ap, sym, subst, arith, ◌||◌}
use Rattle.trace_model.specs.declared.Card.{Card}
use Rattle.trace_model.specs.declared.Card.TheVariants.{A, B}
use Rattle.tacho_types.specs.declared.texts.Registration.{Registration}
use Rattle.trace_model.specs.declared.Item.{Item}
use Rattle.trace_model.specs.Trace.{TraceSecond, seconds_of}
use Rattle.tach_media.specs.Medium.{State, IsCoherent, last_count}
use Rattle.tach_media.specs.card_layout.declared.files.Fid.{Fid}
use Rattle.tach_media.specs.card_layout.Application.{IsApplication}
use Rattle.tach_media.proofs.card_layout.Sizes.{largest_image}
use Rattle.device_calls.specs.card_model.Days.{AreDays}
use Rattle.device_calls.specs.card_image.Fields.{card_days}
use Rattle.device_calls.specs.card_image.Own.{own_view, own_sizes, own_number, own_covered, own_bad_file, IsOwnValid}
use Rattle.device_calls.proofs.card_validity.Copies.{place_shape}
use Rattle.unit_minutes.specs.gated_ring.Ring.{PointsInside}
use Rattle.device_calls.proofs.Passed.{valid-passes, pointer-passes}
use Rattle.device_calls.specs.Times.{IsTimed}
use Rattle.tach_media.specs.card_layout.declared.command.CardState.{CardState}
use Rattle.tacho_types.specs.declared.card_number.FullCardNumber.{FullCardNumber}
use Rattle.tacho_types.specs.CardNumber.{card_number_bytes, card_number_of}
use Rattle.log_model.specs.declared.lines.Break.{Break}
use Rattle.log_model.specs.Log.{RunLog, is_accepting}
use Rattle.log_model.specs.Course.{went}
use Rattle.log_model.specs.Spans.{spans_of}
use Rattle.device_calls.specs.note_model.Done.{done_of}
use Rattle.device_calls.specs.note_model.Noted.{Note, notes_of}
use Rattle.device_calls.specs.note_model.Odometer.{MayStore, HaveBases}
use Rattle.device_calls.specs.history_model.Book.{not_begun}
use Rattle.run_acts.proofs.run_record.Stopped.{stopped-weaker}
use Rattle.run_acts.specs.run_record.HeldHands.{IsKnown}
use Rattle.recorder_with_cards.proofs.NewestGrows.{known-grows}
use Rattle.device_calls.specs.device_rule.Rules.{Out}
use Rattle.device_calls.specs.run_unit_course.Followed.{UnitPower, Lit as IsLit, Due as IsDue, Lost as IsLost}
use Rattle.device_calls.specs.run_unit_course.Legs.{not_travelled}
use Rattle.unit_minutes.specs.unit_model.declared.layout.TheConstants.{HIGHEST_ODOMETER}
use Rattle.unit_minutes.specs.unit_model.Image.{IsUnit, recorded, last_kept, odometer_at}
use Rattle.unit_minutes.specs.unit_model.Decoding.{Decodes}
use Rattle.unit_minutes.proofs.unit_model.Sized.{unit_sized}
use Rattle.device_calls.specs.unit_rule.Odometer.{HasTravelled}
use Rattle.device_calls.specs.unit_rule.Rule.{started, IsCards}
use Rattle.device_calls.specs.unit_rule.OtherRows.{valid_number}
use Rattle.device_calls.proofs.unit_rule.OtherRows.{valid-number, keeps-rows}
use Rattle.device_calls.proofs.unit_rule.Travelling.{travelled-opened}
use Rattle.unit_minutes.proofs.Beside.{passes_beside}
use Rattle.run_minutes.specs.unit_memory.declared.memory.UnitFacts.{UnitFacts}
use Rattle.device_calls.specs.safety_model.Recording.{Recording, card_image, brought, history_of, lost_of, start_of}
use Rattle.device_calls.specs.safety_model.Unit.{UnitSafe, marks_of}
use Rattle.device_calls.specs.safety_model.Safe.{Devices, card_of, breakdowns_of}
use Rattle.run_minutes.specs.card_slots.Kept.{nothing_yet}
use Rattle.run_acts.specs.run_crew.declared.cards.Accepted.{Accepted}
use Rattle.run_acts.specs.run_crew.declared.cards.Known.{Known}
use Rattle.run_acts.specs.run_crew.declared.cards.Cards.{Cards}
use Rattle.run_acts.specs.run_crew.Cards.{known_of as known_in, session_of}
use Rattle.run_minutes.specs.run_promise.Found.{Found, found_of}
use Rattle.run_minutes.specs.run_promise.Between.{RunLedger, LedgerStands, IsFound, devices}
use Rattle.run_minutes.specs.run_promise.Opening.{BeginsAs, carried_first}
use Rattle.run_minutes.specs.run_promise.Cards.{IsCardHeld}
use Rattle.run_minutes.proofs.run_promise.End.{lit-carried}
use Rattle.run_minutes.specs.run_promise.Accounts.{so_far}
use Rattle.run_acts.specs.run_course.Telling.{IsMore}
use Rattle.run_minutes.specs.run_devices.Told.{AreFoundCards, CardHoldsStringUnpowered, DevicesUnpowered}
use Rattle.run_minutes.proofs.run_devices.Known.{word-covered}
use Rattle.run_minutes.proofs.run_devices.Opened.{opened-wait, opened-powerless}
use Rattle.run_minutes.specs.run_promise.Origin.{Origin, rule_of, start_at}
use Rattle.run_minutes.specs.run_promise.Ends.{HandsBeside, EndsRun, recording_by}
use Rattle.run_minutes.specs.run_promise.Seconds.{empty_log}
use Rattle.run_minutes.proofs.run_promise.RecordEnds.{ends-run}
use Rattle.device_calls.specs.event_model.Events.{Seen, seen_of}
use Rattle.run_acts.specs.run_note_record.Evented.{images_in, Evented}
use Rattle.run_acts.specs.run_note_record.Uses.{uses_from, vehicle_of, use_in, insertions_on, uses_in}
use Rattle.run_acts.proofs.run_note_record.Ends.{nothing-noted, events-shown}
use Rattle.run_acts.specs.run_note_record.OnCards.{places_in, HasPlaces, GoesByReadings}
use Rattle.run_acts.specs.run_note_record.Ringed.{Seating, Ringed, notes_in, since_behind}
use Rattle.run_acts.specs.run_note_record.RingsSoFar.{AreEarlier, RingedBehind}
use Rattle.run_acts.specs.run_note_record.Stored.{StoresOff, Stores}
use Rattle.run_acts.proofs.run_note_record.Rings.{none-noted, fewer-sit}
use Rattle.run_acts.proofs.run_note_record.Shown.{rings-shown, places-shown}
use Rattle.run_acts.proofs.run_note_record.Bases.{stored-start}
use Rattle.run_acts.specs.run_record.Recorded.{Values, progress, carried, AreThere, IsHeldBy, RecordBetweenSeconds}
use Rattle.run_acts.proofs.run_record.Going.{begun-recorded}
use Rattle.run_opening.specs.Begun.{Begin, found_in, known_of, RunIsOpened}
use Rattle.run_opening.specs.Cards.{IsFoundOn, number_by}
use Rattle.run_opening.specs.declared.opening.Opened.{Opened}
use Rattle.run_opening.proofs.Told.{valid-known}
use Rattle.run_outcome.specs.declared.outcome.Outcome.{Outcome}
use Rattle.run_acts.specs.speed_model.declared.block.Block.{Block}
use Rattle.run_acts.specs.run_speeds.Speeds.{HasSpeeds}
use Rattle.run_acts.specs.run_speeds.Spans.{is_sure_block}
use Rattle.run_acts.proofs.run_speeds.Speeds.{speeds-begin}
use Rattle.run_acts.proofs.run_speeds.Spans.{no-blocks}
use Rattle.run_acts.specs.declared.run.Run.{Run}
use Rattle.run_acts.specs.declared.run.Power.{Power}
use Rattle.run_acts.specs.declared.run.Power.TheVariants.{Lit, Due}
use Rattle.run_acts.specs.Power.{is_lit}
use Rattle.run_acts.specs.Recording.{log_of, values_of, IsOrigin, Supplies, RunRecorded}
use Rattle.run_acts.proofs.StoredRun.{end-stores}
use Rattle.run_acts.specs.Evented.{RunEvented}
use Rattle.run_acts.specs.Ringing.{seating_of}
use Rattle.run_acts.specs.RunRinged.{seats_of, RunRinged}
use Rattle.run_acts.specs.OnCards.{accepted_on, met_behind, met_seconds, met_accepted, ShowsOn, AreUses}
use Rattle.run_acts.specs.RunCards.{vehicle_in}
use Rattle.run_acts.proofs.StayUses.{shown-use}
use Rattle.run_acts.proofs.CardSeconds.{accepted-met}
use Rattle.run_acts.proofs.CardSure.{start-shown}
use Rattle.run_acts.proofs.Numbers.{own-long, vehicle-long}
use Rattle.recorder_with_cards.specs.Carded.{RunCarded, RunMoments}
use Rattle.recorder_with_cards.specs.Ends.{BeginAs, recorded_with, recording_of, opened_with, origin_of, MayRecord, EndsTrace}
use Rattle.recorder_with_cards.specs.Side.{ShowTheSide}
use Rattle.recorder_with_cards.proofs.Again.{begins-anew}
use Rattle.recorder_with_cards.proofs.SideShown.{insertions-inside, places-inside, side-shown}
use Rattle.recorder_with_cards.proofs.Written.{are-written, keep-holders, keep-vehicles}
use Rattle.recorder_with_cards.specs.Placed.{ShowsPlaces}
use Rattle.recorder_with_cards.specs.Measured.{MeasuresVehicles}
use Rattle.recorder_with_cards.specs.Sessions.{TellsSession}
use Rattle.run_acts.specs.run_note_record.Moved.{IsPutIn, moves_in}
use Rattle.run_acts.specs.run_note_record.Sessions.{MayTell, session_told}
use Rattle.recorder_with_cards.proofs.KeptAfter.{end-kept}
use Rattle.recorder_with_cards.specs.LastKept.{TellsLast}
use Rattle.recorder_with_cards.proofs.LastKept.{safe-last}
use Rattle.run_acts.specs.Closings.{spells_of}
use Rattle.run_acts.specs.Comings.{TellsMore}
use Rattle.run_acts.proofs.Comings.{tells-none}
use Rattle.run_acts.specs.Stays.{Stay, Coming, comings_on, registration_in, AreMerged, spells, sits_in, HasStays, ShowsStays, start_shown, AreOwed, AreJudged, is_late, acceptances_told, judged_told, judged_in, TellsBefores, Whose, Both, Only, covers, AreKnown, AreTold, AreToldBefore, AllStay}
use Rattle.run_acts.specs.Truths.{Truths, truths_of, marked}
use Rattle.run_acts.proofs.ToldLines.{OfOne, told-of}
use Rattle.run_acts.proofs.SeatsThen.{same-itself}
use Rattle.recorder_with_cards.specs.Stays.{NothingFailedOn}
use Rattle.run_acts.proofs.run_note_record.Exact.{failed_cut, failed_tear}
use Rattle.run_acts.specs.Stood.{StoodExactly}
use Rattle.recorder_with_cards.proofs.FreshStood.{own-vehicles, only-both, begins-stood}
use Rattle.recorder_with_cards.proofs.AtEnd.{noted-at-end, sits-at-end, words-so, odometers-so, owes-so, acknowledged-so}
use Rattle.run_minutes.specs.run_promise.Whole.{IsUntorn}
use Rattle.run_acts.specs.run_crew.Cabin.{CabinIsSound}
use Rattle.std.specs.Prelude.{filter, option_to_list, ◌++◌}
use Rattle.std.proofs.Common.{append_assoc}
use Rattle.log_model.specs.Causes.{tears, device_of}
use Rattle.log_model.specs.declared.lines.Find.{Find}
use Rattle.log_model.specs.ByHand.{by_slots, stops, asked_of}
use Rattle.log_model.specs.declared.lines.Refused.{Refused}
use Rattle.run_acts.proofs.Stays.{stays-start}
use Rattle.run_acts.proofs.AllStay.{placed-bare, all-of}
use Rattle.run_acts.specs.Owed.{IsOwed}
use Rattle.run_acts.proofs.run_record.HandsFold.{hands-end}
use Rattle.device_calls.specs.safety_model.ByHand.{IsStoppedBy, IsNoLater}
use Rattle.device_calls.specs.safety_model.Hands.{sessions_in}
use Rattle.run_acts.specs.run_record.Handed.{done_for, asked_for}
use Rattle.std.proofs.lemmas.List.Elements.{All-contains}
use Rattle.device_calls.specs.hand_model.Written.{no_hands}

-- what holds of either card
pub both : (P : Card → Type 0) → P A → P B → (c : Card) → P c
both P first second A = first
both P first second B = second

-- no card has broken down
pub more-devices : (U V X Y Z W : State) → U.breakdowns ≤ V.breakdowns → Y.breakdowns ≡ X.breakdowns → W.breakdowns ≡ Z.breakdowns → IsMore (breakdowns_of (devices U X Z)) (breakdowns_of (devices V Y W))
more-devices U V X Y Z W unit a b = record { unit = unit; cards = both (λ c. breakdowns_of (devices V Y W) (device_of c) ≡ breakdowns_of (devices U X Z) (device_of c)) a b }

-- of two chips that of a card
abbrev pub chip_of : CardState → CardState → Card → CardState
chip_of a b A = a
chip_of a b B = b

-- ---- the images

-- each device begins with its image, by whatever is told of the run
pub begins-with : (x a b : List ℕ) (trace : List TraceSecond) (log : RunLog) (stops : List Refused) (began : Devices) → BeginAs x a b began → Begin (recorded_with x a b trace log stops) began
begins-with x a b trace log stops began h = record { unit = h.of_unit; card = each }
  where
    each : (c : Card) → BeginsAs (card_image (recorded_with x a b trace log stops) c) (card_of began c)
    each A = h.of_a
    each B = h.of_b

-- what was found is so whatever the run told since
found-by : (r : Recording) (done : List TraceSecond) (log : RunLog) (f : Found) (began : Devices) → IsFound r f began → IsFound (so_far r done log) f began
found-by r done log f began h = record { unit = h.unit; image = image; start = start; clock = h.clock; number = number; vehicle = h.vehicle; days = days }
  where
    image : (c : Card) → (found_of f c).image ≡ card_image (so_far r done log) c
    image A = h.image A
    image B = h.image B

    start : (c : Card) → (found_of f c).start ≡ brought (so_far r done log) c
    start A = h.start A
    start B = h.start B

    number : (c : Card) → IsOwnValid (card_image (so_far r done log) c) → (found_of f c).number ≡ own_number (card_image (so_far r done log) c)
    number A valid = h.number A valid
    number B valid = h.number B valid

    days : (c : Card) → IsOwnValid (card_image (so_far r done log) c) → AreDays 0 (card_days (own_sizes (card_image (so_far r done log) c)) (card_image (so_far r done log) c))
    days A valid = h.days A valid
    days B valid = h.days B valid

-- ---- at the end

-- the pointer of the places of a valid card is an index
own-points : (x : List ℕ) → IsOwnValid x → PointsInside (places_in x) x
unfolding own_bad_file
own-points x valid = pointer-passes (places_in x) x (valid-passes (own_sizes x) x valid).places

-- the comings of cards with these images are those with images that are the same
merged-by : (comings : List Coming) (vehicle : Registration) (one other : List Stay) (a b now_a now_b : List ℕ) → a ≡ now_a → b ≡ now_b → AreMerged comings (comings_on vehicle a one) (comings_on vehicle b other) → AreMerged comings (comings_on vehicle now_a one) (comings_on vehicle now_b other)
merged-by comings vehicle one other a b now_a now_b first second h =
    subst (λ (i : List ℕ). AreMerged comings (comings_on vehicle now_a one) (comings_on vehicle i other)) second
    (subst (λ (i : List ℕ). AreMerged comings (comings_on vehicle i one) (comings_on vehicle b other)) first h)

module _ (x a b : List ℕ) (start : ℕ) (items : List Item) (began now : Devices) where
  abbrev r0 : Recording
  r0 = opened_with x a b

  abbrev o : Origin
  o = origin_of x a b start began

  is-carried : (done : List TraceSecond) (v : Values) (w : RunLedger) (supply : UnitPower) → IsHeldBy o done supply v w now → LedgerStands o.found w now
  is-carried done v w (IsLit span) held = lit-carried o.found w now held.powered.lit
  is-carried done v w IsDue held = held.powerless.carried
  is-carried done v w IsLost held = held.powerless.carried

  -- a card's image is that which was found
  image-found : (done : List TraceSecond) (log : RunLog) (lines : List Refused) → IsFound r0 (found_in r0 began) began → (c : Card) → (found_of (found_in r0 began) c).image ≡ card_image (recorded_with x a b done log lines) c
  image-found done log lines found A = found.image A
  image-found done log lines found B = found.image B

  -- a newest minute that was known when a card was accepted is no later than that of the history
  known-then : (done : List TraceSecond) (supply : UnitPower) (v : Values) → (h : RecordBetweenSeconds o done supply v now) → (c : Card) (second newest : ℕ) → IsKnown (start_at o) h.book.sure c second newest
      → IsNoLater (recorded_with x a b done v.log v.stops) c second newest
  known-then done supply v h c second newest k =
      let f = h.recorded.followed in
      let whole : history_of (recorded_with x a b done v.log v.stops) ≡ h.book.sure ++ (option_to_list h.book.maybe ++ f.follows.front.0) = f.follows.front.1 ∙ append_assoc h.book.sure (option_to_list h.book.maybe) f.follows.front.0 in
      known-grows (recorded_with x a b done v.log v.stops) c o.from h.book.sure (option_to_list h.book.maybe ++ f.follows.front.0) second newest f.order f.early whole k

  -- ITS ENTRIES BY HAND, by what is recorded of them
  hands-beside : (done : List TraceSecond) (supply : UnitPower) (v : Values) → (h : RecordBetweenSeconds o done supply v now) → IsFound r0 (found_in r0 began) began
      → HandsBeside (recorded_with x a b done v.log v.stops) (carried v h.due h.book h.standing h.brought h.hands h.firsts) v.marks
  hands-beside done supply v h found = record {
    followed = λ c valid. hands-end (recorded_with x a b done v.log v.stops) c v.marks (h.hands c) (h.firsts c) (session_of v.cabin.cards c) (h.handed.each c (subst IsOwnValid (sym (image-found done v.log v.stops found c)) valid));
    stops = λ c valid q at.
        stopped-weaker (IsKnown (start_at o) h.book.sure c) (IsNoLater (recorded_with x a b done v.log v.stops) c) (known-then done supply v h c) (sessions_in c (went v.log done).told) (done_for c v.stops (asked_of v.log done)) (marks_of (device_of c) v.marks) v.stops q
        (All-contains (IsStoppedBy (IsKnown (start_at o) h.book.sure c) (sessions_in c (went v.log done).told) (done_for c v.stops (asked_of v.log done)) (marks_of (device_of c) v.marks) v.stops) (asked_for c (asked_of v.log done)) q
        (h.handed.stopped c (subst IsOwnValid (sym (image-found done v.log v.stops found c)) valid)) at);
    each_stop = h.handed.told.each;
  }

  ends-so : (done : List TraceSecond) (supply : UnitPower) (v : Values) → (h : RecordBetweenSeconds o done supply v now) → IsCoherent now.unit → ((c : Card) → IsCoherent (card_of now c)) → IsFound r0 (found_in r0 began) began → Decodes x →
      EndsRun (recorded_with x a b done v.log v.stops) v.marks began now
  ends-so done supply v h unit_whole card_whole found decodes =
      ends-run o done (progress v supply h.book) h.travel v.marks v.stops (carried v h.due h.book h.standing h.brought h.hands h.firsts) began now h.recorded (found-by r0 done v.log (found_in r0 began) began found)
      (is-carried done v (carried v h.due h.book h.standing h.brought h.hands h.firsts) supply h.held) refl refl h.beside (hands-beside done supply v h found) unit_whole card_whole decodes refl

  pub promised : (run : Run) (out : Outcome) (carded : RunCarded o (seconds_of start items) run out now) → RunMoments o (seconds_of start items) out now → (run.power ≡ Lit → (low : ℕ) × CabinIsSound low None run.keeper.cabin) → IsCoherent now.unit → ((c : Card) → IsCoherent (card_of now c)) → MayRecord x a b start → IsFound r0 (found_in r0 began) began →
      EndsTrace x a b start items out began now
  promised run out carded timely sits unit_whole card_whole may found = record {
    may = may;
    ends = let safe = run-ends.safe in record run-ends { safe = record safe { unit = unit-last.0 } };
    side = shows;
    written = are-written o (seconds_of start items) h.evented.recorded.supply (values_of run out) began now h.evented.recorded.recorded (found-by r0 (seconds_of start items) (log_of out) (found_in r0 began) began found);
    stays = λ c on.
        let k = known-of c on in
        let all = stays-at k.0 k.1 in
        let told = told-own k.0 k.1 c k.2 in
        record {
          exact = record {
            stays = all.stays c;
            since = all.since c;
            others = told.others;
            only = own-only k.0 k.1 c k.2;
            judged = told.merged;
            entered = all.entered c k.2;
            theirs = told.theirs;
            verdicts = own-verdicts k.0 k.1 c k.2;
            shows = own-shows k.0 k.1 c k.2;
            closed = own-closed k.0 k.1 c k.2;
            words = words-so r (all.stays c) (all.hold c k.2).0;
            odometers = odometers-so r (all.stays c) (all.hold c k.2).0;
          };
          acknowledged = acknowledged-so k.0 (truths_of o (log_of out) (seconds_of start items)) out.marks.items c (vehicle_of x) (own_sizes (found_of o.found c).image).activity (all.stays c) (start_shown (found_of o.found c).image) (all.hold c k.2).1;
        };
    both = λ none.
        let all = stays-at Both none in
        record {
          own = λ c. record {
            exact = record {
              stays = all.stays c;
              since = all.since c;
              others = (told-own Both none c refl).others;
              only = own-only Both none c refl;
              judged = (told-own Both none c refl).merged;
              entered = all.entered c refl;
              theirs = (told-own Both none c refl).theirs;
              verdicts = own-verdicts Both none c refl;
              shows = own-shows Both none c refl;
              closed = own-closed Both none c refl;
              words = words-so r (all.stays c) (all.hold c refl).0;
              odometers = odometers-so r (all.stays c) (all.hold c refl).0;
            };
            acknowledged = acknowledged-so Both (truths_of o (log_of out) (seconds_of start items)) out.marks.items c (vehicle_of x) (own_sizes (found_of o.found c).image).activity (all.stays c) (start_shown (found_of o.found c).image) (all.hold c refl).1;
          };
          judged = all.judged;
          owes = λ c. owes-as c (all.stays c)
              (subst (λ (i : List ℕ). AreOwed (IsOwed (rule_of o) (start_at o) (log_of out) (seconds_of start items) c (brought r0 c).owed) (vehicle_of x) (own_sizes i).activity (all.stays c) (start_shown i)) (of_image c)
              (owes-so (truths_of o (log_of out) (seconds_of start items)) out.marks.items c (vehicle_of x) (own_sizes (found_of o.found c).image).activity (all.stays c) (start_shown (found_of o.found c).image) (all.hold c refl).1));
          befores = record {
            comings = all.befores.comings;
            lines = all.befores.lines;
            merged = merged-by all.befores.comings (vehicle_of x) (all.stays A) (all.stays B) (found_of o.found A).image (found_of o.found B).image (card_image r A) (card_image r B) (of_image A) (of_image B) all.befores.merged;
            tells = all.befores.tells;
          };
        };
    stood = λ c valid. stood-as c (begins-stood o (seconds_of start items) run out now h sits card_whole carded.past c (subst IsOwnValid (images c) valid)).0;
    rows = λ y left.
        let hr = h.evented.recorded.recorded in
        keeps-rows x a b y ((is-carried (seconds_of start items) (values_of run out) (carried (values_of run out) hr.due hr.book hr.standing hr.brought hr.hands hr.firsts) h.evented.recorded.supply hr.held).unit.rows y left);
    kept = end-kept o ss run out now h.evented.recorded h.spans h.ringed.spans_are h.stored;
    speeds = carded.speeds.blocks;
    again = begins-anew r out.marks.items began now run-ends.safe may.numbers;
    timely = timely.moments;
    since = λ c m at.
        let hr = h.evented.recorded.recorded in
        let w = carried (values_of run out) hr.due hr.book hr.standing hr.brought hr.hands hr.firsts in
        let is = All-contains (IsCardHeld (found_of o.found c) c hr.book (card_of now c)) (marks_of (device_of c) out.marks.items) m ((is-carried (seconds_of start items) (values_of run out) w h.evented.recorded.supply hr.held).marks c).held at in
        subst (λ (n : ℕ). n ≤ m.clock) (clocks c) is.began;
    last = unit-last.1;
    dense = record {
      insertions = λ dense y left. (h.ringed.ringed.insertions (insertions-inside x may.decodes) y left).shows.carries.dense dense;
      places = λ dense y left. (h.ringed.ringed.places (places-inside x may.decodes) y left).carries.dense dense;
    };
    holders = keep-holders o (seconds_of start items) h.evented.recorded.supply (values_of run out) began now h.evented.recorded.recorded (found-by r0 (seconds_of start items) (log_of out) (found_in r0 began) began found);
    vehicles = keep-vehicles o (seconds_of start items) h.evented.recorded.supply (values_of run out) began now h.evented.recorded.recorded (found-by r0 (seconds_of start items) (log_of out) (found_in r0 began) began found);
    measures = record { spans = h.spans; are_spans = record { spans_are = h.ringed.spans_are; bases = stores.0 }; measures = measures-vehicles };
    sessions = tells-session;
    places = record { spans = h.spans; are_spans = record { spans_are = h.ringed.spans_are; bases = stores.0 }; shows = shows-places };
    cards = λ c valid.
        let one = carded.cards c (subst IsOwnValid (images c) valid) in
        record {
          uses = one.uses;
          are = subst (λ (n : ℕ). AreUses ((card_of now c).left_since n) one.uses (accepted_on c (seen_of r.log r.trace))) (clocks c)
              (subst (AreUses ((card_of now c).left_since (found_of o.found c).began) one.uses) (accepted-met c r.log [] (seen_of r.log r.trace)) one.are);
          exact = λ on. let k = known-of c on in one.exact k.0 k.2 k.1 ∙ ap (λ (i : List ℕ). uses_from (vehicle_of x) (use_in i) (insertions_on c (notes_in (log_of out) (seconds_of start items)))) (sym (images c));
          left = λ on y there.
              let k = known-of c on in
              shown-use (vehicle_of x) (card_image r c) ((stays-at k.0 k.1).stays c) (insertions_on c (notes_in (log_of out) (seconds_of start items))) (card_of now c) (own-closed k.0 k.1 c k.2 valid) (own-shows k.0 k.1 c k.2 valid) y there;
          shows = subst (λ (n : ℕ). ShowsOn c (vehicle_of x) ((card_of now c).left_since n) one.uses (card_image r c) r.log (met_seconds r.log r.trace) (card_of now c)) (clocks c)
              (subst (λ (i : List ℕ). ShowsOn c (vehicle_of x) ((card_of now c).left_since (found_of o.found c).began) one.uses i r.log (met_seconds r.log r.trace) (card_of now c)) (sym (images c)) one.shows);
        };
  }
    where
      h : RunRinged o (seconds_of start items) run out now
      h = carded.ringed

      r : Recording
      r = recording_of x a b start items out

      images : (c : Card) → card_image r c ≡ card_image o.recording c
      images = both (λ c. card_image r c ≡ card_image o.recording c) refl refl

      -- what stands hangs on the image of the card at the start, and on seconds and log
      stood-as : (c : Card) → StoodExactly (recording_by o (seconds_of start items) (log_of out)) c (found_of o.found c).began (o.breakdowns (device_of c)) (card_of now c) → StoodExactly r c (card_of began c).clock (breakdowns_of began (device_of c)) (card_of now c)
      stood-as A s = record { front = s.front; rest = s.rest; are = s.are; told = s.told; tells = s.tells; image = s.image; exact = s.exact; was = s.was; stands = s.stands; until = s.until }
      stood-as B s = record { front = s.front; rest = s.rest; are = s.are; told = s.told; tells = s.tells; image = s.image; exact = s.exact; was = s.was; stands = s.stands; until = s.until }

      of_image : (c : Card) → (found_of o.found c).image ≡ card_image r c
      of_image c = found.image c ∙ sym (images c)

      run-ends : EndsRun r out.marks.items began now
      run-ends = ends-so (seconds_of start items) h.evented.recorded.supply (values_of run out) h.evented.recorded.recorded unit_whole card_whole found may.decodes

      -- the unit's part of the theorem, with the last-kept minutes
      unit-last : (s : UnitSafe (recorded x) (history_of r) (lost_of r) out.marks.items began.unit.clock now.unit) × TellsLast (last_kept x) s
      unit-last =
          let hr = h.evented.recorded.recorded in
          safe-last (started x (valid_number a) (valid_number b) began.unit.clock) (history_of r) (lost_of r) hr.due hr.book out.marks.items now.unit hr.recorded.followed.follows
          (is-carried (seconds_of start items) (values_of run out) (carried (values_of run out) hr.due hr.book hr.standing hr.brought hr.hands hr.firsts) h.evented.recorded.supply hr.held).unit run-ends.safe.unit

      -- what was owed to it at the start does not hang on the seconds
      owes-as : (c : Card) (stays : List Stay) → AreOwed (IsOwed (rule_of o) (start_at o) (log_of out) (seconds_of start items) c (brought r0 c).owed) (vehicle_of x) (own_sizes (card_image r c)).activity stays (start_shown (card_image r c)) →
          AreOwed (IsOwed r.rule (start_of r) r.log r.trace c (brought r c).owed) (vehicle_of x) (own_sizes (card_image r c)).activity stays (start_shown (card_image r c))
      owes-as A stays h = h
      owes-as B stays h = h

      -- whose stays are known
      known-of : (c : Card) → NothingFailedOn r c began → (whose : Whose) × AreKnown whose o (log_of out) now × (covers whose c ≡ true)
      known-of c on = by on.untorn on.low
        where
          by : IsUntorn r c → (tears true r.log ≡ []) ⊎ (breakdowns_of began (device_of c) < last_count) → (whose : Whose) × AreKnown whose o (log_of out) now × (covers whose c ≡ true)
          by (inl none) low = (Both, (on.uncut, none), refl)
          by (inr mine) (inl none) = (Both, (on.uncut, none), refl)
          by (inr mine) (inr low) = (Only c, record { uncut = on.uncut; low = low; stands = run-ends.still c mine }, same-itself c)

      -- in the vehicle that the unit's image says
      stays-at : AllStay o (marked out.marks.items (truths_of o (log_of out) (seconds_of start items))) 0 (log_of out) (notes_in (log_of out) (seconds_of start items)) (vehicle_of x) run.keeper.cabin now
      stays-at = all-of o (marked out.marks.items (truths_of o (log_of out) (seconds_of start items))) 0 (log_of out) (notes_in (log_of out) (seconds_of start items)) run.keeper.memory.registration (vehicle_of x) run.keeper.cabin now (sym h.evented.recorded.vehicle) h.evented.recorded.stay

      told-own : (whose : Whose) (known : AreKnown whose o (log_of out) now) (c : Card) → covers whose c ≡ true →
          OfOne (marked out.marks.items (truths_of o (log_of out) (seconds_of start items))) c (judged_told (log_of out)) (judged_in ((stays-at whose known).stays c) ((stays-at whose known).since c))
      told-own whose known c in_ =
          let all = stays-at whose known in
          told-of whose (marked out.marks.items (truths_of o (log_of out) (seconds_of start items))) c (judged_told (log_of out)) (λ (k : Card). judged_in (all.stays k) (all.since k)) all.entered in_ all.judged

      own-only : (whose : Whose) (known : AreKnown whose o (log_of out) now) (c : Card) → covers whose c ≡ true → (((stays-at whose known).stays c ≡ []) × ((stays-at whose known).since c ≡ [])) ⊎ IsOwnValid (card_image r c)
      own-only whose known c in_ = let all = stays-at whose known in only-both (all.only c in_) (all.lone c in_) (λ valid. subst IsOwnValid (of_image c) valid)

      own-verdicts : (whose : Whose) (known : AreKnown whose o (log_of out) now) (c : Card) → covers whose c ≡ true → IsOwnValid (card_image r c) →
          AreJudged (vehicle_of x) (own_sizes (card_image r c)).activity ((stays-at whose known).stays c) ((stays-at whose known).since c) (start_shown (card_image r c))
      own-verdicts whose known c in_ valid =
          subst (λ (i : List ℕ). AreJudged (vehicle_of x) (own_sizes i).activity ((stays-at whose known).stays c) ((stays-at whose known).since c) (start_shown i)) (of_image c)
          ((stays-at whose known).verdicts c in_ (subst IsOwnValid (sym (of_image c)) valid))

      own : (whose : Whose) (known : AreKnown whose o (log_of out) now) (c : Card) → covers whose c ≡ true → IsOwnValid (card_image r c) →
          HasStays 0 (found_of o.found c) (vehicle_of x) (spells_of c (notes_in (log_of out) (seconds_of start items))) (sits_in run.keeper.cabin.slots.seats c) ((stays-at whose known).stays c) (session_of run.keeper.cabin.cards c) (card_of now c)
      own whose known c in_ valid = (stays-at whose known).each c in_ (subst IsOwnValid (sym (of_image c)) valid)

      -- each card shows its stays, which are as they are noted
      own-shows : (whose : Whose) (known : AreKnown whose o (log_of out) now) (c : Card) → covers whose c ≡ true → IsOwnValid (card_image r c) → ShowsStays (vehicle_of x) (card_image r c) ((stays-at whose known).stays c) (card_of now c)
      own-shows whose known c in_ valid = subst (λ (i : List ℕ). ShowsStays (vehicle_of x) i ((stays-at whose known).stays c) (card_of now c)) (of_image c) (own whose known c in_ valid).shows

      own-closed : (whose : Whose) (known : AreKnown whose o (log_of out) now) (c : Card) → covers whose c ≡ true → IsOwnValid (card_image r c) → spells ((stays-at whose known).stays c) ≡ spells_of c (notes_in (log_of out) (seconds_of start items))
      own-closed whose known c in_ valid =
          sym (noted-at-end 0 (session_of run.keeper.cabin.cards c) (sits_in run.keeper.cabin.slots.seats c) (spells ((stays-at whose known).stays c)) (sits-at-end o (seconds_of start items) run out now h.evented.recorded sits c))
          ∙ (own whose known c in_ valid).spell

      clocks : (c : Card) → (found_of o.found c).began ≡ (card_of began c).clock
      clocks = both (λ c. (found_of o.found c).began ≡ (card_of began c).clock) refl refl

      ss : List TraceSecond
      ss = seconds_of start items

      -- with which odometer each span began, and what each image has stored
      stores : HaveBases (rule_of o) (log_of out) (odometer_at x) (last_kept x) [] h.spans × ((y : List ℕ) → now.unit.may_leave y → MayStore (rule_of o) (odometer_at x) (last_kept x) h.spans (last_kept y) (odometer_at y))
      stores = end-stores o ss run out now h.evented.recorded h.spans h.ringed.spans_are h.stored

      shows : ShowTheSide r began now
      shows y left =
          side-shown r began now y may.decodes
          (events-shown began now o (seconds_of start items) (log_of out) run.unfound run.next h.evented.recorded.supply h.evented.evented r refl images refl refl clocks (λ c. refl) y left)
          h.spans (record { spans_are = h.ringed.spans_are; bases = stores.0 }) (stores.1 y left)
          (rings-shown began now (since_behind o (log_of out) (seconds_of start items)) (log_of out) h.spans (notes_in (log_of out) (seconds_of start items)) (seats_of run) h.ringed.ringed r refl images refl refl refl refl clocks y left)

      -- of a card, the pointer of its vehicle entries is an index where it was valid
      measures-vehicles : (c : Card) → IsOwnValid (card_image r c) → (y : List ℕ) → (card_of now c).may_leave y → MeasuresVehicles r h.spans c y
      measures-vehicles c valid y left =
          let goes : GoesByReadings h.spans (IsPutIn (moves_in (log_of out) (seconds_of start items)) c) (card_image r c) (card_image r c) y = subst (λ (i : List ℕ). GoesByReadings h.spans (IsPutIn (moves_in (log_of out) (seconds_of start items)) c) i i y) (sym (images c)) (h.ringed.ringed.vehicles c (subst IsOwnValid (images c) valid) y left) in
          (goes (own-vehicles (card_image r c) valid)).1

      -- it tells of the session that is carried with the rings
      tells-session : (c : Card) → IsOwnValid (card_image r c) → (y : List ℕ) → (card_of now c).may_leave y → TellsSession r c y
      tells-session c valid y left =
          subst (λ (i : List ℕ). MayTell (moves_in (log_of out) (seconds_of start items)) (log_of out) c (session_told i i) (notes_in (log_of out) (seconds_of start items)) (session_told i y)) (sym (images c))
          (h.ringed.ringed.sessions c (subst IsOwnValid (images c) valid) y left)

      -- and that of its places
      shows-places : (c : Card) → IsOwnValid (card_image r c) → (y : List ℕ) → (card_of now c).may_leave y → ShowsPlaces r h.spans c y
      shows-places c valid y left =
          let good : IsApplication (own_sizes (card_image r c)) = subst (λ (i : List ℕ). IsApplication (own_sizes i)) (of_image c) (h.evented.recorded.recorded.found.sizes c (subst IsOwnValid (sym (of_image c)) valid)) in
          let has : HasPlaces (card_image r c) = record { valid = valid; shape = place_shape (own_sizes (card_image r c)) good; ring = own-points (card_image r c) valid } in
          record {
            shows = places-shown began now (since_behind o (log_of out) (seconds_of start items)) (log_of out) h.spans (notes_in (log_of out) (seconds_of start items)) (seats_of run) h.ringed.ringed r images refl refl c has y left;
            dense = (h.ringed.ringed.on_cards c (subst HasPlaces (images c) has) y left).carries.dense;
          }

-- ---- as the run begins

-- no line is told yet, and no vehicle
no-lines : (whose : Whose) (t : Truths) (lines : List Find) → lines ≡ [] → AreTold whose t lines (λ (c : Card). [])
no-lines Both t lines none = subst (λ (fs : List Find). AreMerged fs [] []) (sym none) (refl, refl)
no-lines (Only c) t lines none = ([], subst (λ (fs : List Find). AreMerged fs [] []) (sym none) (refl, refl), tt)

no-befores : (whose : Whose) (unit : List ℕ) (acceptances : List Find) (vehicle : Registration) (image : Card → List ℕ) (now : State) → TellsBefores unit acceptances vehicle image (λ (c : Card). []) now → AreToldBefore whose unit acceptances vehicle image (λ (c : Card). []) now
no-befores Both unit acceptances vehicle image now h = h
no-befores (Only k) unit acceptances vehicle image now h = tt

no-spans : (log : RunLog) → spans_of (went log []).told ≡ []
unfolding went spans_of
no-spans log = refl

no-seen : (log : RunLog) → seen_of log [] ≡ []
unfolding seen_of went
no-seen log = refl

no-notes : (log : RunLog) → notes_in log [] ≡ []
unfolding done_of notes_of
no-notes log = refl

due-supply : (supply : UnitPower) → Supplies Due supply → supply ≡ IsDue
due-supply (IsLit span) h = absurd h
due-supply IsDue h = refl
due-supply IsLost h = absurd h

module _ (x a b : List ℕ) (start : ℕ) (began now : Devices) (opened : Opened) (ready : RunIsOpened (opened_with x a b) start opened began now) where
  abbrev first-o : Origin
  first-o = origin_of x a b start began

  abbrev f : Found
  f = found_in (opened_with x a b) began

  pub may-record : MayRecord x a b start
  may-record = record { decodes = ready.decodes; later = ready.later; numbers = (ready.may (λ s is. absurd (let none : None ≡ Some s = is in cc))).numbers }

  pub is-found : IsFound (opened_with x a b) (found_in (opened_with x a b) began) began
  is-found = ready.found

  module _ (whole : (c : Card) → IsCoherent (card_of now c)) (unit_whole : IsCoherent now.unit) (on : Card → CardState) (found_on : (c : Card) → IsFoundOn (known_of opened c) (on c) (card_of now c)) (bytes : (c : Card) → All (λ n. n < 256) (card_image (opened_with x a b) c))
      (clock : (c : Card) → (card_of now c).clock ≡ (card_of began c).clock) (more : IsMore (breakdowns_of began) (breakdowns_of now)) (low : opened.unit.journal.odometer ≤ HIGHEST_ODOMETER) (is_unit : IsUnit now.unit) where
    sizes : (c : Card) → IsOwnValid (card_image (opened_with x a b) c) → IsApplication (own_sizes (card_image (opened_with x a b) c))
    sizes c valid = ((found_on c).port (own_sizes (card_image (opened_with x a b) c)) (valid-known (card_image (opened_with x a b) c) (known_of opened c) (ready.told c) valid)).good

    -- the number of a valid card has all its bytes
    long : (c : Card) → IsOwnValid (card_image (opened_with x a b) c) → length (own_number (card_image (opened_with x a b) c)) ≡ 18
    long c valid =
        let image : List ℕ = card_image (opened_with x a b) c in
        let port = (found_on c).port (own_sizes image) (valid-known image (known_of opened c) (ready.told c) valid) in
        let fits = largest_image (own_sizes image) port.good in
        let all = (whole c).sized image (ready.begins.card c).tells in
        let size = port.size in
        own-long image (omega (arith, fits, all, size))

    is-origin : IsOrigin first-o
    is-origin = record {
      rule = refl;
      decodes = ready.decodes;
      unit = refl;
      image = ready.found.image;
      start = ready.found.start;
      number = ready.found.number;
      long = long;
      bytes = bytes;
      vehicle = ready.found.vehicle;
      named = vehicle-long x (unit_sized unit_whole is_unit x ready.begins.unit.tells);
    }

    told : (c : Card) → IsOwnValid (card_image (opened_with x a b) c) → is_some (known_of opened c).number ≡ true
    told c valid = ap (λ (o : Option FullCardNumber). is_some o) ((ready.told c).number ∙ ap (λ o. number_by o (card_number_of (own_number (card_image (opened_with x a b) c)))) valid)

    valid-as : (c : Card) → IsOwnValid (found_of f c).image → IsOwnValid (card_image (opened_with x a b) c)
    valid-as c valid = subst IsOwnValid (ready.found.image c) valid

    valid-is : (c : Card) → IsOwnValid (card_image (opened_with x a b) c) → IsOwnValid (found_of f c).image
    valid-is c valid = subst IsOwnValid (sym (ready.found.image c)) valid

    -- a card that is not valid has told none
    is-told : (c : Card) → is_some (known_of opened c).number ≡ true → IsOwnValid (card_image (opened_with x a b) c)
    is-told c has = by (own_bad_file (card_image (opened_with x a b) c)) refl
      where
        never : true ≡ false → ⊥
        never is = cc

        by : (o : Option (Fid × ℕ)) → own_bad_file (card_image (opened_with x a b) c) ≡ o → IsOwnValid (card_image (opened_with x a b) c)
        by None sound = sound
        by (Some place) bad = absurd (never (sym has ∙ ap (λ (o : Option FullCardNumber). is_some o) ((ready.told c).number ∙ ap (λ o. number_by o (card_number_of (own_number (card_image (opened_with x a b) c)))) bad)))

    -- cards as they were opened
    module _ (cards : Cards) (same : (c : Card) → known_in cards c ≡ known_of opened c) where
      found-cards : AreFoundCards f cards
      found-cards = record {
        two = ready.two;
        named = λ c valid. subst (λ (k : Known). IfSome k.number (λ n. card_number_bytes n ≡ (found_of f c).number)) (sym (same c)) (ready.named c);
        told = λ c valid. ap (λ (k : Known). is_some k.number) (same c) ∙ told c (valid-as c valid);
        only = λ c has. valid-is c (is-told c (ap (λ (k : Known). is_some k.number) (sym (same c)) ∙ has));
        own = own;
        sizes = λ c valid. subst (λ (i : List ℕ). IsApplication (own_sizes i)) (sym (ready.found.image c)) (sizes c (valid-as c valid));
        entries = λ c valid. entries c;
        word = λ c valid. word c;
      }
        where
          own : (c : Card) → IsOwnValid (found_of f c).image → IsCards f.unit (found_of f c).number
          own A valid = inl (valid-number a valid ∙ ap (λ (n : List ℕ). Some n) (sym (ready.found.number A valid)))
          own B valid = inr (valid-number b valid ∙ ap (λ (n : List ℕ). Some n) (sym (ready.found.number B valid)))

          entries : (c : Card) → (found_of f c).start.entries ≡ (own_view (found_of f c).image).held.entries
          entries A = refl
          entries B = refl

          word : (c : Card) → (found_of f c).start.word ≤ own_covered (found_of f c).image
          word A = word-covered (found_of f A).image
          word B = word-covered (found_of f B).image

    only : (c : Card) (y : List ℕ) → (card_of now c).left_since (found_of f c).began y → y ≡ card_image (opened_with x a b) c
    only c y left = (ready.begins.card c).only y (subst (λ (n : ℕ). (card_of now c).left_since n y) (ready.found.clock c ∙ sym (clock c)) left)

    untouched : (c : Card) (y : List ℕ) → (card_of now c).left_since (found_of f c).began y → y ≡ (found_of f c).image
    untouched c y left = only c y left ∙ sym (ready.found.image c)

    there : AreThere f now
    there = record {
      unit = ap is_some ready.begins.unit.tells;
      cards = λ c. ap is_some (ready.begins.card c).tells;
      clocks = λ c. let one = ready.found.clock c in let two = clock c in omega (arith, one, two);
      timed = λ c valid y left. subst (λ (z : List ℕ). IsTimed (found_of f c).image z) (sym (untouched c y left)) (inl refl);
    }

    waits : (c : Card) → IsOwnValid (found_of f c).image → CardHoldsStringUnpowered (found_of f c) no_hands c not_begun Out (card_of now c)
    waits c valid =
        let v = valid-as c valid in
        opened-wait f c x (card_image (opened_with x a b) c) (card_of now c) (whole c) (ready.begins.card c) (ready.looked c v) v (sizes c v) (ready.found.number c v) (bytes c)

    first-powerless : DevicesUnpowered f (carried_first (start / 60)) now
    first-powerless = opened-powerless f (start / 60) now (ready.carried (start / 60) ready.later) waits

    travels : HasTravelled (odometer_at x) not_begun (not_travelled x) now.unit
    travels =
        let is = ready.journal.odometer in
        travelled-opened (odometer_at x) now.unit x refl (let le : odometer_at x ≤ HIGHEST_ODOMETER = omega (arith, is, low) in le) ready.journal.pointer
        (λ y left. ready.begins.unit.only y (unit_whole.counts_now now.unit.clock y (omega arith) left))

    -- its unit has one image
    only_unit : (y : List ℕ) → now.unit.may_leave y → y ≡ x
    only_unit y left = ready.begins.unit.only y (unit_whole.counts_now now.unit.clock y (omega arith) left)

    starts-recorded : (run : Run) (out : Outcome) → run.power ≡ Due → run.next ≡ start → run.begun ≡ 0 → run.unfound ≡ 0 → run.keeper.cabin.slots ≡ nothing_yet → ((c : Card) → known_in run.keeper.cabin.cards c ≡ known_of opened c) →
        ((c : Card) → session_of run.keeper.cabin.cards c ≡ None) → out.breaks.items ≡ [] → out.refused.items ≡ [] → out.finds.items ≡ [] → out.marks.items ≡ [] → run.keeper.memory.registration.0 ≡ registration_in x →
        RunRecorded first-o [] run out now
    starts-recorded run out due next begun unfound slots same bare breaks refused finds marks registered = record {
      origin = is-origin;
      vehicle = ap (λ (bs : List ℕ). record { 0 = bs }) registered;
      supply = IsDue;
      powers = subst (λ (p : Power). Supplies p IsDue) (sym due) tt;
      recorded = begun-recorded now first-o (values_of run out) (record {
        early = ready.later;
        log = ap (λ bs. record { breaks = bs; refused = by_slots out.refused.items; finds = out.finds.items }) breaks ∙ ap (λ rs. record { breaks = []; refused = by_slots rs; finds = out.finds.items }) refused ∙ ap (λ fs. record { breaks = []; refused = []; finds = fs }) finds;
        marks = marks;
        stops = ap stops refused;
        slots = slots;
        bare = bare;
        unfound = unfound;
        next = next;
        begun = begun;
        breakdowns = more;
        powerless = first-powerless;
        found = found-cards run.keeper.cabin.cards same;
        there = there;
        untouched = untouched;
        travels = travels;
      });
      odometer = λ lit. absurd (let bad : Due ≡ Lit = sym due ∙ lit in cc);
      stay = λ whose known. record {
        says = registered;
        stays = λ c. [];
        befores = no-befores whose x (acceptances_told (log_of out)) run.keeper.memory.registration (λ (c : Card). (found_of f c).image) now.unit (record {
          comings = [];
          lines = ap (λ (fs : List Find). filter (λ (g : Find). is_accepting g.verdict) fs) (sym finds);
          merged = (refl, refl);
          tells = λ stood y left. subst (TellsMore [] x) (sym (only_unit y left)) (tells-none x stood);
        });
        only = λ c in_. inl refl;
        hold = λ c in_. (tt, tt);
        placed = λ c in_ valid. placed-bare (notes_in (log_of out) []) run.keeper.cabin c (bare c);
        since = λ c. [];
        lone = λ c in_. inl refl;
        entered = λ c in_. tt;
        judged = no-lines whose (marked out.marks.items (truths_of first-o (log_of out) [])) (judged_told (log_of out)) (ap (λ (fs : List Find). filter (λ (g : Find). is_accepting g.verdict || is_late g.verdict) fs) finds);
        verdicts = λ c in_ valid. tt;
        waits = λ c in_ valid some. refl;
        each = λ c in_ valid.
            subst (λ (ns : List Note). HasStays 0 (found_of f c) run.keeper.memory.registration (spells_of c ns) (sits_in run.keeper.cabin.slots.seats c) [] (session_of run.keeper.cabin.cards c) (card_of now c)) (sym (no-notes (log_of out)))
            (subst (λ (s : Option Accepted). HasStays 0 (found_of f c) run.keeper.memory.registration [] (sits_in run.keeper.cabin.slots.seats c) [] s (card_of now c)) (sym (bare c))
            (stays-start 0 (found_of f c) run.keeper.memory.registration (sits_in run.keeper.cabin.slots.seats c) (card_of now c) (λ y left. untouched c y ((whole c).counts_now (found_of f c).began y (there.clocks c) left))));
      };
    }

    -- and no event of it
    pub starts-evented : (run : Run) (out : Outcome) → run.power ≡ Due → run.next ≡ start → run.begun ≡ 0 → run.unfound ≡ 0 → run.keeper.memory ≡ opened.unit.memory → run.keeper.cabin.slots ≡ nothing_yet →
        ((c : Card) → known_in run.keeper.cabin.cards c ≡ known_of opened c) → ((c : Card) → session_of run.keeper.cabin.cards c ≡ None) → out.breaks.items ≡ [] → out.refused.items ≡ [] → out.finds.items ≡ [] → out.marks.items ≡ [] →
        RunEvented first-o [] run out now
    starts-evented run out due next begun unfound memory slots same bare breaks refused finds marks = record {
      recorded = r;
      evented = subst (λ (l : RunLog). Evented first-o [] l run.unfound run.next r.supply now) (sym log)
          (subst (λ (n : ℕ). Evented first-o [] empty_log n run.next r.supply now) (sym unfound)
          (subst (λ (n : ℕ). Evented first-o [] empty_log 0 n r.supply now) (sym next)
          (subst (λ (p : UnitPower). Evented first-o [] empty_log 0 start p now) (sym (due-supply r.supply (subst (λ (p : Power). Supplies p r.supply) due r.powers)))
          (nothing-noted now first-o only_unit (passes_beside x ready.decodes).overs))));
      limit = let is = ready.memory.limit in let same : run.keeper.memory.limit ≡ opened.unit.memory.limit = ap (λ (i : UnitFacts). i.limit) memory in omega (arith, is, same);
      watched = λ lit. absurd (let bad : Due ≡ Lit = sym due ∙ lit in cc);
    }
      where
        r : RunRecorded first-o [] run out now
        r = starts-recorded run out due next begun unfound slots same bare breaks refused finds marks (ap (λ (i : UnitFacts). i.registration.0) memory ∙ ready.memory.registration)

        log : log_of out ≡ empty_log
        log = ap (λ bs. record { breaks = bs; refused = by_slots out.refused.items; finds = out.finds.items }) breaks ∙ ap (λ rs. record { breaks = []; refused = by_slots rs; finds = out.finds.items }) refused ∙ ap (λ fs. record { breaks = []; refused = []; finds = fs }) finds

    -- and nothing of its rings
    pub starts-ringed : (run : Run) (out : Outcome) → run.power ≡ Due → run.next ≡ start → run.begun ≡ 0 → run.unfound ≡ 0 → run.keeper.memory ≡ opened.unit.memory → run.keeper.cabin.slots ≡ nothing_yet →
        ((c : Card) → known_in run.keeper.cabin.cards c ≡ known_of opened c) → ((c : Card) → session_of run.keeper.cabin.cards c ≡ None) → out.breaks.items ≡ [] → out.refused.items ≡ [] → out.finds.items ≡ [] → out.marks.items ≡ [] →
        run.noted ≡ 0 → RunRinged first-o [] run out now
    starts-ringed run out due next begun unfound memory slots same bare breaks refused finds marks noted = record {
      evented = starts-evented run out due next begun unfound memory slots same bare breaks refused finds marks;
      spans = [];
      base = λ lit. absurd (let bad : Due ≡ Lit = sym due ∙ lit in cc);
      counted = omega (arith, noted);
      ringed = rings-behind (log_of out) run.next (seats_of run) (λ c. ap (λ (session : Option Accepted). option_map (seating_of run.noted) session) (bare c));
      stored = subst (λ (p : Power). Stores (is_lit p) first-o (log_of out) run.unfound run.keeper.odometer [] now) (sym due) (subst (λ (n : ℕ). StoresOff first-o (log_of out) n [] now) (sym unfound) (stored-start first-o (log_of out) now only_unit));
    }
      where
        rings-behind : (log : RunLog) (n : ℕ) (seats : Card → Option Seating) → ((c : Card) → seats c ≡ None) → RingedBehind first-o [] log n [] seats now
        rings-behind log n seats none = record {
          spans_are = sym (no-spans log);
          before = tt;
          early = subst (AreEarlier n) (sym (no-notes log)) tt;
          ringed = subst (λ (notes : List Note). Ringed (since_behind first-o log []) log [] notes seats now) (sym (no-notes log)) (fewer-sit now (since_behind first-o log []) log [] [] (λ c. None) seats (none-noted now (since_behind first-o log []) log [] only_unit (λ c y left. only c y ((whole c).counts_now (found_of f c).began y (there.clocks c) left))) (λ c. inl (none c)));
        }

    -- and its cards show what they held
    pub starts-carded : (run : Run) (out : Outcome) → run.power ≡ Due → run.next ≡ start → run.begun ≡ 0 → run.unfound ≡ 0 → run.keeper.memory ≡ opened.unit.memory → run.keeper.cabin.slots ≡ nothing_yet →
        ((c : Card) → known_in run.keeper.cabin.cards c ≡ known_of opened c) → ((c : Card) → session_of run.keeper.cabin.cards c ≡ None) → out.breaks.items ≡ [] → out.refused.items ≡ [] → out.finds.items ≡ [] → out.marks.items ≡ [] →
        run.noted ≡ 0 → now.unit.clock ≡ began.unit.clock → RunCarded first-o [] run out now
    starts-carded run out due next begun unfound memory slots same bare breaks refused finds marks noted clock_unit = record {
      ringed = starts-ringed run out due next begun unfound memory slots same bare breaks refused finds marks noted;
      vehicle = ap (λ (bs : List ℕ). record { 0 = bs }) (ap (λ (i : UnitFacts). i.registration.0) memory ∙ ready.memory.registration);
      cards = λ c valid. record {
        uses = [];
        exact = λ whose in_ known. ap (uses_in first-o c) (sym (no-notes (log_of out)));
        are = subst (λ (seen : List Seen). AreUses (images_in first-o now c) [] (met_accepted c (met_behind (log_of out) [] seen))) (sym (no-seen (log_of out))) tt;
        shows = subst (λ (seen : List Seen). ShowsOn c (vehicle_in first-o) (images_in first-o now c) [] (card_image first-o.recording c) (log_of out) (met_behind (log_of out) [] seen) (card_of now c)) (sym (no-seen (log_of out)))
            (start-shown c (vehicle_in first-o) (images_in first-o now c) (card_image first-o.recording c) (log_of out) (card_of now c) (λ y left. only c y ((whole c).counts_now (found_of f c).began y (there.clocks c) left)));
      };
      past = λ c valid. inl (inl (ap (λ (bs : List Break). filter failed_cut bs) breaks, ap (λ (bs : List Break). filter failed_tear bs) breaks));
      speeds = record {
        watched = λ on. absurd (let bad : Due ≡ Lit = sym due ∙ on in cc);
        blocks = λ ring.
            subst (λ (bs : List Block). HasSpeeds (is_sure_block (log_of out)) x began.unit.clock bs now.unit) (sym (no-blocks (log_of out)))
            (speeds-begin (is_sure_block (log_of out)) x began.unit.clock now.unit ring (omega (arith, clock_unit)) only_unit
            (λ y left. ready.begins.unit.only y (subst (λ (n : ℕ). now.unit.left_since n y) (sym clock_unit) left)));
      };
    }
