-- The stays of a card that enters: a new one where it is accepted.
use Rattle.std.proofs.Common.{◌≡◌, ◌∙◌, ◌⊎◌, inl, inr, ℕ, ◌+◌, ◌≤◌, Bool, true, false, List, [], ◌∷◌, ◌++◌, All, length, Option, Some, None, refl, ap, sym, subst, arith, ◌||◌, ◌<◌, append-nil, ◌/◌}
use Rattle.std.specs.Prelude.{filter}
use Rattle.std.proofs.lemmas.List.{append-nil}
use Rattle.std.proofs.lemmas.List.Elements.{filter-append}
use Rattle.activity_codec.specs.declared.values.Slot.{Slot}
use Rattle.activity_codec.specs.declared.entries.Entry.{Entry}
use Rattle.activity_codec.specs.declared.values.Slot.TheVariants.{Driver, CoDriver}
use Rattle.trace_model.specs.declared.Card.{Card}
use Rattle.trace_model.specs.declared.Card.TheVariants.{A, B}
use Rattle.trace_model.specs.Trace.{TraceSecond}
use Rattle.tach_media.specs.Medium.{State, HasBroken, last_count}
use Rattle.log_model.specs.Log.{RunLog, In, found_in, is_accepting}
use Rattle.log_model.specs.Slots.{same_card, other_slot}
use Rattle.log_model.specs.Course.{Visit, went}
use Rattle.log_model.specs.declared.lines.Break.{Break}
use Rattle.log_model.specs.declared.lines.Mark.{Mark}
use Rattle.log_model.specs.Causes.{cuts, device_of}
use Rattle.device_calls.specs.history_model.Completeness.{IsMarked}
use Rattle.log_model.specs.declared.lines.Verdict.{Verdict}
use Rattle.log_model.specs.declared.lines.Find.{Find}
use Rattle.log_model.specs.declared.lines.Verdict.TheVariants.{Accepted as AcceptedWith, NotValid, TimeOverlap}
use Rattle.log_model.specs.ByHand.{by_slots}
use Rattle.hand_model.specs.card_image.View.{CardView, card_view}
use Rattle.hand_model.specs.card_image.Own.{own_sizes, IsOwnValid}
use Rattle.device_calls.proofs.OnCard.{own-is}
use Rattle.tacho_types.specs.declared.texts.Registration.{Registration}
use Rattle.run_minutes.specs.CardDeeds.{DoesOn}
use Rattle.card_files.specs.card_layout.declared.files.Application.{Application}
use Rattle.device_calls.specs.device_rule.Views.{other}
use Rattle.unit_notes.specs.note_model.Noted.{Note}
use Rattle.device_calls.specs.safety_model.Safe.{Devices, breakdowns_of}
use Rattle.run_crew.specs.card_slots.declared.seats.Seat.{Seat}
use Rattle.run_crew.specs.card_slots.Calls.{seat_in, card_in, is_card}
use Rattle.run_crew.specs.card_slots.Kept.{Kept as SlotsKept}
use Rattle.run_events.specs.run_course.Moments.{and_break, and_find}
use Rattle.run_events.specs.run_course.Reached.{IsTearAt, IsFindAt, moved_at}
use Rattle.run_record.specs.Recorded.{Values}
use Rattle.run_record.specs.Within.{RecordInSecond}
use Rattle.run_record.specs.Judging.{IsNext}
use Rattle.run_minutes.specs.declared.keeper.Moment.{Moment}
use Rattle.hand_model.specs.Holding.{none_held}
use Rattle.run_crew.specs.declared.cards.Accepted.{Accepted}
use Rattle.run_crew.specs.declared.cabin.Cabin.{Cabin}
use Rattle.run_crew.specs.Cards.{session_of}
use Rattle.run_minutes.specs.run_promise.Found.{CardFound, found_of}
use Rattle.run_minutes.specs.run_promise.Between.{RunLedger}
use Rattle.run_minutes.specs.run_devices.Told.{arranged, card_marks}
use Rattle.run_minutes.proofs.run_devices.Known.{session-sized}
use Rattle.run_minutes.specs.run_promise.Origin.{Origin}
use Rattle.run_minutes.specs.run_promise.Whole.{NothingFailed}
use Rattle.run_outcome.specs.declared.outcome.Outcome.{Outcome}
use Rattle.run_minutes.specs.declared.keeper.Keeper.{Keeper}
use Rattle.run_insertion.specs.declared.lines.Entering.{Entering}
use Rattle.run_insertion.specs.Entering.{Ending, Unfit, Ahead, Fell, Unasked, Unnoted, Seated, Lost, Way, Unread, Unsized, Judged, ending_of, sizes_by, measured, cabin_by, breaks_by, outcome_by, falls_of, find_of, and_one, most_owed}
use Rattle.run_minutes.specs.Keeping.{tear_of}
use Rattle.device_calls.specs.declared.entering.Entered.{Entered}
use Rattle.run_insertion.specs.Entered.{HasEntered, IsEnding, IsWay}
use Rattle.run_insertion.specs.Told.{IsEnteredOn, IsToldOf, OpensSo, IsToldSo}
use Rattle.run_insertion.proofs.Carried.{has-session}
use Rattle.run_acts.proofs.EnteredLines.{own-marks, marks-are}
use Rattle.run_acts.specs.Recording.{log_of}
use Rattle.run_acts.specs.Closings.{spells_of, last_slot, notes_within}
use Rattle.run_acts.specs.Truths.{Truths}
use Rattle.card_files.specs.declared.vehicle.Vehicle.{Vehicle}
use Rattle.device_calls.specs.card_session.Books.{Book, mark_of}
use Rattle.device_calls.specs.card_session.Sessions.{book_of}
use Rattle.run_acts.specs.Comings.{told_of, TellMore}
use Rattle.run_acts.specs.Stays.{Stay, Shown, Whose, Both, Only, covers, AreKnown, owed_by, after_stays, start_shown, acceptances_told, sits_in, IsPlaced, AllStay, is_late, judged_told, judged_in, AreJudged, stored_by, HasStays}
use Rattle.run_acts.proofs.Stays.{coming_behind, one-coming, true-more, last-slot-more, stays-still, stays-moved, stays-open, owes-more, judged-more, judged-late, verdicts-more, verdicts-late, stored-shown, in-time}
use Rattle.run_acts.proofs.AllStay.{Turns, placed-bare, all-of, all-one, known-uncut, known-as, known-before, stood-broken, no-fall, mine-left, JudgesOne, TellsAside}
use Rattle.run_acts.proofs.SeatsThen.{torn-other, put-own, put-again, torn-slot, filled-slot, filled-own}
use Rattle.run_acts.proofs.NotesThen.{accepted-now, rejected-now, elsewhere-now, fallen-now, lost-elsewhere}

-- its session behind
abbrev session_by : (second : ℕ) → Ending → (noted : ℕ) → Option Accepted
session_by second (Unfit fid place) noted = None
session_by second (Ahead stored) noted = None
session_by second Fell noted = None
session_by second Unasked noted = None
session_by second (Unnoted entered clock) noted = None
session_by second (Seated entered clock entry) noted = Some (record { session = entered.session; held = none_held (second / 60); entry = entry; noted = and_one noted })
session_by second (Lost entered clock entry) noted = None

sessions-by : (ending : Ending) (e : Entering) (noted : ℕ) (cabin : Cabin) → session_of cabin.cards e.which ≡ None → session_of (cabin_by ending e noted cabin).cards e.which ≡ session_by e.at.second ending noted
sessions-by (Unfit fid place) e noted cabin bare = bare
sessions-by (Ahead stored) e noted cabin bare = bare
sessions-by Fell e noted cabin bare = mine-left e.which cabin.cards
sessions-by Unasked e noted cabin bare = bare
sessions-by (Unnoted entered clock) e noted cabin bare = bare
sessions-by (Seated entered clock entry) e noted cabin bare = has-session e.slot e.which entered.look.number entered.row (record { session = entered.session; held = none_held (e.at.second / 60); entry = entry; noted = and_one noted }) cabin
sessions-by (Lost entered clock entry) e noted cabin bare =
    mine-left e.which (cabin_by (Seated entered clock entry) e noted cabin).cards

-- ---- what is noted of a card that enters

apart : (c : Card) → same_card c (other c) ≡ false
apart A = refl
apart B = refl

apart-turned : (c : Card) → same_card (other c) c ≡ false
apart-turned A = refl
apart-turned B = refl

-- WHAT IS NOTED as this is found of it: another spell of it begins where it is accepted, and none of the other card
pub record NotesFind (e : Entering) (log : RunLog) (notes : RunLog → List Note) (verdict : Verdict) : Type 0 where
  pub accepts : is_accepting verdict ≡ true → spells_of e.which (notes (and_find log (find_of e verdict))) ≡ spells_of e.which (notes log) ++ record { second = e.at.second; slot = e.slot; withdrawn = None } ∷ []
  pub rejects : is_accepting verdict ≡ false → spells_of e.which (notes (and_find log (find_of e verdict))) ≡ spells_of e.which (notes log)
  pub others : spells_of (other e.which) (notes (and_find log (find_of e verdict))) ≡ spells_of (other e.which) (notes log)
  -- nor is anything of the other one where it falls then
  pub lost : spells_of (other e.which) (notes (and_break (and_find log (find_of e verdict)) (tear_of e.slot e.at))) ≡ spells_of (other e.which) (notes log)

-- its tear is one of the moment
pub tear-at : (s : TraceSecond) (n : ℕ) (slot : Slot) (m : Moment) → n ≤ length s.actions → m ≡ record { second = s.number; begun = n; late = false } → IsTearAt s (In n) slot true (tear_of slot m)
tear-at s n slot m few at = (n, false, ap (λ (x : Moment). tear_of slot x) at, refl, few, λ late. absurd (cc))

-- so it is within a second
pub finds-noted : (o : Origin) (done : List TraceSecond) (s : TraceSecond) (n : ℕ) (waits fewer : List Visit) (v : Values) (d : Devices) (w : RecordInSecond o done s (In n) waits None [] v d) (e : Entering) → e.at ≡ record { second = s.number; begun = n; late = false } →
    IsNext o done s (In n) waits fewer v d w e.slot e.which → found_in v.log s.number (In n) e.slot ≡ [] →
    (e.slot ≡ Driver → ((moved_at v.log (went w.b.run.log done).before s (In n)).enters CoDriver ≡ false) ⊎ (found_in v.log s.number (In n) CoDriver ≡ [])) → (verdict : Verdict) →
    NotesFind e v.log (λ log. notes_within w.b done s (In n) log) verdict
finds-noted o done s n waits fewer v d w e at next none order verdict =
    let second : e.at.second ≡ s.number = ap (λ (m : Moment). m.second) at in
    let begun : In e.at.begun ≡ In n = ap (λ (m : Moment). In m.begun) at in
    let here : IsFindAt s (In n) (find_of e verdict) = record { second = second; begun = begun } in
    record {
      accepts = λ yes.
          accepted-now o done s n waits fewer v d w e.slot e.which next none order (find_of e verdict) here refl yes
          ∙ ap (λ (u : ℕ). spells_of e.which (notes_within w.b done s (In n) v.log) ++ record { second = u; slot = e.slot; withdrawn = None } ∷ []) (sym second);
      rejects = λ no. rejected-now o done s n waits fewer v d w e.slot e.which next none order (find_of e verdict) here refl no e.which;
      others = elsewhere-now o done s n waits fewer v d w e.slot e.which next none order (find_of e verdict) here refl (other e.which) (apart-turned e.which);
      lost = lost-elsewhere o done s n waits fewer v d w e.slot e.which next (tear_of e.slot e.at) (tear-at s n e.slot e.at w.moment.is at) none order (find_of e verdict) here refl (other e.which) (apart-turned e.which);
    }

pub falls-noted : (o : Origin) (done : List TraceSecond) (s : TraceSecond) (n : ℕ) (waits fewer : List Visit) (v : Values) (d : Devices) (w : RecordInSecond o done s (In n) waits None [] v d) (e : Entering) → e.at ≡ record { second = s.number; begun = n; late = false } →
    IsNext o done s (In n) waits fewer v d w e.slot e.which → spells_of (other e.which) (notes_within w.b done s (In n) (and_break v.log (tear_of e.slot e.at))) ≡ spells_of (other e.which) (notes_within w.b done s (In n) v.log)
falls-noted o done s n waits fewer v d w e at next = fallen-now o done s n waits fewer v d w e.slot e.which next (tear_of e.slot e.at) (tear-at s n e.slot e.at w.moment.is at) (other e.which)

-- WHAT IT TELLS OF THE VEHICLE BEFORE, where the card has not fallen: that which an image of the card tells as its newest, where it is accepted; else nothing, and where it
-- tells of a later time, that is what an image of it stored
abbrev pub TellsBy : (second : ℕ) → Ending → CardFound → (unit unit_after card : State) → Type 0
TellsBy u (Unfit fid place) f U W X = TellMore [] U W
TellsBy u (Ahead stored) f U W X = TellMore [] U W × ((y : List ℕ) × X.may_leave y × IsOwnValid y × (IsOwnValid f.image → stored ≡ (card_view (own_sizes f.image) y).stored) × (u < stored))
TellsBy u Fell f U W X = Unit {0}
TellsBy u Unasked f U W X = Unit {0}
TellsBy u (Unnoted entered clock) f U W X = Unit {0}
TellsBy u (Seated entered clock entry) f U W X =
    TellMore (told_of entered.look.previous ∷ []) U W
    × (IsOwnValid f.image → (y : List ℕ) × X.may_leave y × (entered.look.previous ≡ (book_of (own_sizes f.image) y).vehicles.newest))
TellsBy u (Lost entered clock entry) f U W X = Unit {0}

module _ (o : Origin) (e : Entering) (failed : Bool) (well : failed ≡ false) (k v : Keeper) (noted noted_after : ℕ) (out after : Outcome) (U W X Y Z : State) (notes : RunLog → List Note) (judges : (verdict : Verdict) → NotesFind e (log_of out) notes verdict)
    (seat : seat_in k.cabin.slots.seats e.slot ≡ Some (record { card = e.which; newest = None })) (elsewhere : is_card (seat_in k.cabin.slots.seats (other_slot e.slot)) e.which ≡ false) (t : Truths) (u : ℕ) (room : length out.marks.items + most_owed ≤ out.marks.room)
    (sound : (y : List ℕ) → X.may_leave y → IsOwnValid y → IsOwnValid (found_of o.found e.which).image)
    (tells_odometer : cuts true (log_of out) ≡ [] → (verdict : Verdict) → t.accepted (find_of e verdict) e.odometer.0 × t.entered e.which (find_of e verdict))
    (brings : (es : List Entry) → All (λ (d : Entry). IsMarked after.marks.items (device_of e.which) d.minute) es → t.got e.which es)
    (floor : (c : Card) → o.breakdowns (device_of c) < last_count → o.breakdowns (device_of c) ≤ breakdowns_of (arranged e.which U X Z) (device_of c))
    (falls : spells_of (other e.which) (notes (and_break (log_of out) (tear_of e.slot e.at))) ≡ spells_of (other e.which) (notes (log_of out))) where
  abbrev f : CardFound
  f = found_of o.found e.which

  fails : {T : Type 0} → failed ≡ true → T
  fails bad = let no : true ≡ false = sym bad ∙ well in absurd (cc)

  -- the log behind it
  abbrev log_by : Ending → RunLog
  log_by ending = log_of (outcome_by ending e out)

  -- where a verdict is told alone
  one-find : (verdict : Verdict) → record { breaks = out.breaks.items ++ []; refused = by_slots out.refused.items; finds = out.finds.items ++ find_of e verdict ∷ [] } ≡ and_find (log_of out) (find_of e verdict)
  one-find verdict = ap (λ (bs : List Break). record (and_find (log_of out) (find_of e verdict)) { breaks = bs }) (append-nil out.breaks.items)

  -- its stay begins
  abbrev new_stay : Entered → List Find → Stay
  new_stay entered since = record { found = find_of e (AcceptedWith entered.replayed); odometer = e.odometer.0; owed = entered.owed.items; by_hand = []; kepts = []; closed = None; turned = since }

  abbrev vehicle : Registration
  vehicle = k.memory.registration

  abbrev accepting : Find → Bool
  accepting g = is_accepting g.verdict

  abbrev judging : Find → Bool
  judging g = is_accepting g.verdict || is_late g.verdict

  -- with the other finds of it the same acceptances are told
  none-more : (g : Find) → filter accepting (g ∷ []) ≡ [] → acceptances_told (record (log_of out) { finds = (log_of out).finds ++ g ∷ [] }) ≡ acceptances_told (log_of out)
  none-more g rejected = filter-append accepting (log_of out).finds (g ∷ []) ∙ ap (λ (l : List Find). acceptances_told (log_of out) ++ l) rejected ∙ append-nil (acceptances_told (log_of out))

  -- what was owed to it as it was looked at, by an image that it may have left, where each entry of it has its mark by now
  abbrev OwesIn : RunLedger → Type 0
  OwesIn w = NothingFailed (log_of out) → (entered : Entered) → IsToldSo o.found w e entered U X → All (λ (d : Entry). IsMarked after.marks.items (device_of e.which) d.minute) entered.owed.items → (y : List ℕ) × X.may_leave y × t.owed e.which (find_of e (AcceptedWith entered.replayed)) (mark_of (book_of (own_sizes f.image) y)) entered.owed.items

  -- what becomes of its stays, as it sits in this cabin behind it
  abbrev TurnsBy : Whose → Ending → Cabin → Option Accepted → List Stay → List Find → Type 0
  TurnsBy whose ending cabin session ss since = Turns whose t e.which u f (log_of out) (log_by ending) vehicle (spells_of e.which (notes (log_of out))) (spells_of e.which (notes (log_by ending))) (sits_in k.cabin.slots.seats e.which) (sits_in cabin.slots.seats e.which) None session U W X Y ss since

  -- a card that is turned away
  turned-away : (whose : Whose) (ending : Ending) (cabin : Cabin) → acceptances_told (log_by ending) ≡ acceptances_told (log_of out) → spells_of e.which (notes (log_by ending)) ≡ spells_of e.which (notes (log_of out)) → (IsOwnValid f.image → DoesOn (own_sizes f.image) [] X Y) → TellMore [] U W → (ss : List Stay) (since left : List Find) →
      JudgesOne (t.entered e.which) (judged_told (log_of out)) (judged_told (log_by ending)) (judged_in ss since) (judged_in ss left) →
      (IsOwnValid f.image → HasStays u f vehicle (spells_of e.which (notes (log_of out))) (sits_in k.cabin.slots.seats e.which) ss None X → AreJudged vehicle (own_sizes f.image).activity ss since (start_shown f.image) → AreJudged vehicle (own_sizes f.image).activity ss left (start_shown f.image)) → ((since ≡ []) ⊎ IsOwnValid f.image → (left ≡ []) ⊎ IsOwnValid f.image) → TurnsBy whose ending cabin None ss since
  turned-away whose ending cabin same spell does go ss since left judged verdicts lone = record {
    now = ss;
    left = left;
    lone = lone;
    judged = judged;
    verdicts = λ valid h waits was. verdicts valid h was;
    waits = λ valid waits some. absurd (let wrong : false ≡ true = some in cc);
    only = λ only. only;
    shows = λ valid h.
        stays-moved u f vehicle (spells_of e.which (notes (log_of out))) (spells_of e.which (notes (log_by ending))) (sits_in k.cabin.slots.seats e.which) (sits_in cabin.slots.seats e.which) ss None None Y (λ goes. goes) (λ was. was ∙ sym spell)
        (stays-still u f vehicle (spells_of e.which (notes (log_of out))) (sits_in k.cabin.slots.seats e.which) ss None X Y (does valid) h);
    hold = λ only shown all. all;
    comes = λ shown. inl (same, refl, go);
  }

  -- ---- what is known behind it

  -- it was known before
  known-then : (ending : Ending) → HasBroken X Y (falls_of ending) → (whose : Whose) → AreKnown whose o (log_by ending) (arranged e.which W Y Z) → AreKnown whose o (log_of out) (arranged e.which U X Z)
  known-then ending broken whose known =
      known-before whose o (log_of out) (breaks_by ending e) (arranged e.which U X Z) (arranged e.which W Y Z) (stood-broken o (falls_of ending) e.which U W X Y Z floor broken)
      (known-as whose o (record (log_of out) { breaks = (log_of out).breaks ++ breaks_by ending e }) (log_by ending) (arranged e.which W Y Z) refl known)

  uncut-then : (ending : Ending) → HasBroken X Y (falls_of ending) → (whose : Whose) → AreKnown whose o (log_by ending) (arranged e.which W Y Z) → cuts true (log_of out) ≡ []
  uncut-then ending broken whose known = known-uncut whose o (log_of out) (arranged e.which U X Z) (known-then ending broken whose known)

  -- what was owed to it, where no call failed; of one card alone what it got
  owed-so : (whose : Whose) (w : RunLedger) → OwesIn w → AreKnown whose o (log_of out) (arranged e.which U X Z) → (entered : Entered) → IsToldSo o.found w e entered U X → All (λ (d : Entry). IsMarked after.marks.items (device_of e.which) d.minute) entered.owed.items → (p : Shown) → ((y : List ℕ) → X.may_leave y → book_of (own_sizes f.image) y ≡ p.book) →
      owed_by whose t e.which (find_of e (AcceptedWith entered.replayed)) (mark_of p.book) entered.owed.items
  owed-so Both w owes known entered told marked_ p shows =
      let x = owes known entered told marked_ in
      subst (λ (b : Book). t.owed e.which (find_of e (AcceptedWith entered.replayed)) (mark_of b) entered.owed.items) (shows x.0 x.1) x.2
  owed-so (Only k) w owes known entered told marked_ p shows = brings entered.owed.items marked_

  -- of a card that was judged
  own-judged : (whose : Whose) → covers whose e.which ≡ true → (ending : Ending) → after ≡ outcome_by ending e out → (app : Application) (w : RunLedger) → OwesIn w → (cabin : Cabin) → IsEnding ending app k.memory.registration e failed U.image X Y → IsToldOf ending o.found w e U X → (IsOwnValid f.image → OpensSo ending k.memory.registration e f X Y) → TellsBy e.at.second ending f U W X → HasBroken X Y (falls_of ending) → AreKnown whose o (log_by ending) (arranged e.which W Y Z)
      → (ss : List Stay) (since : List Find) → TurnsBy whose ending (cabin_by ending e noted cabin) (session_by e.at.second ending noted) ss since
  own-judged whose in_ (Unfit fid place) behind app w owes cabin is told opens tells broken known ss since =
      turned-away whose (Unfit fid place) cabin (none-more (find_of e (NotValid fid place)) refl) (ap (λ (l : RunLog). spells_of e.which (notes l)) (one-find (NotValid fid place)) ∙ (judges (NotValid fid place)).rejects refl) opens tells ss since since
      (inl (filter-append judging (log_of out).finds (find_of e (NotValid fid place) ∷ []) ∙ append-nil (judged_told (log_of out)), refl)) (λ valid h was. was) (λ was. was)
  own-judged whose in_ (Ahead stored) behind app w owes cabin is told opens tells broken known ss since =
      turned-away whose (Ahead stored) cabin (none-more (find_of e (TimeOverlap stored e.at.second)) refl) (ap (λ (l : RunLog). spells_of e.which (notes l)) (one-find (TimeOverlap stored e.at.second)) ∙ (judges (TimeOverlap stored e.at.second)).rejects refl) opens tells.0 ss since (since ++ find_of e (TimeOverlap stored e.at.second) ∷ [])
      (inr (find_of e (TimeOverlap stored e.at.second), filter-append judging (log_of out).finds (find_of e (TimeOverlap stored e.at.second) ∷ []), judged-late ss since (find_of e (TimeOverlap stored e.at.second)), (tells_odometer (uncut-then (Ahead stored) broken whose known) (TimeOverlap stored e.at.second)).1))
      (λ valid h was.
      let y = tells.1 in
      let shown = h.shows y.0 y.1 in
      let same : stored ≡ stored_by (after_stays vehicle (own_sizes f.image).activity ss (start_shown f.image)) =
      y.3 valid ∙ stored-shown (own_sizes f.image) y.0 (after_stays vehicle (own_sizes f.image).activity ss (start_shown f.image)) shown.0 shown.1 in
      verdicts-late vehicle (own_sizes f.image).activity ss since (find_of e (TimeOverlap stored e.at.second)) (start_shown f.image) was
      (ap (λ (n : ℕ). TimeOverlap n e.at.second) same, subst (λ (n : ℕ). e.at.second < n) same y.4)) (λ was. inr (sound tells.1.0 tells.1.1 tells.1.2))
  own-judged whose in_ Fell behind app w owes cabin is told opens tells broken known ss since = no-fall whose o (log_of out) (log_by Fell) e.slot e.at e.which U W X Y Z refl floor broken in_ known
  own-judged whose in_ Unasked behind app w owes cabin is told opens tells broken known ss since = fails is
  own-judged whose in_ (Unnoted entered clock) behind app w owes cabin is told opens tells broken known ss since = fails is.0
  own-judged whose in_ (Seated entered clock entry) behind app w owes cabin is told opens tells broken known ss since = record {
    now = ss ++ new_stay entered since ∷ [];
    left = [];
    lone = λ was. inl refl;
    judged = inr (find_of e (AcceptedWith entered.replayed), filter-append judging (log_of out).finds (find_of e (AcceptedWith entered.replayed) ∷ []), judged-more ss (new_stay entered since), (tells_odometer (uncut-then (Seated entered clock entry) broken whose known) (AcceptedWith entered.replayed)).1);
    verdicts = λ valid h waits was.
        let x = told.found.card_image in
        let shown = h.shows x told.found.there in
        let seen = ap (λ (v : CardView). v.stored) (own-is (own_sizes f.image) x told.found.sizes) in
        let le = told.found.early in
        verdicts-more vehicle (own_sizes f.image).activity ss (new_stay entered since) (start_shown f.image) was (ap AcceptedWith told.whole)
        (in-time (own_sizes f.image) x (after_stays vehicle (own_sizes f.image).activity ss (start_shown f.image)) e.at.second shown.0 shown.1 (omega (arith, seen, le)));
    waits = λ valid waits some. refl;
    only = λ only. inr told.valid;
    shows = λ valid h.
        stays-open u f vehicle (spells_of e.which (notes (log_of out))) (spells_of e.which (notes (log_by (Seated entered clock entry)))) (sits_in k.cabin.slots.seats e.which) (sits_in (cabin_by (Seated entered clock entry) e noted cabin).slots.seats e.which) ss
        (find_of e (AcceptedWith entered.replayed)) e.odometer.0 entered.owed.items since (record { session = entered.session; held = none_held (e.at.second / 60); entry = entry; noted = and_one noted }) X Y is.1.vehicle is.1.fresh refl (opens valid)
        (put-own cabin.slots.seats e.slot e.which (Some entered.session.minute))
        (ap (λ (l : RunLog). spells_of e.which (notes l)) (one-find (AcceptedWith entered.replayed)) ∙ (judges (AcceptedWith entered.replayed)).accepts refl) h;
    hold = λ only shown all.
        let most = told.most in
        let marks : after.marks.items ≡ out.marks.items ++ card_marks e.which clock entered.owed.items =
        ap (λ (p : Outcome). p.marks.items) behind ∙ marks-are e.which clock entered.owed.items entered.replayed out.marks told.whole (omega (arith, room, most)) in
        let marked_ = subst (λ (ms : List Mark). All (λ (d : Entry). IsMarked ms (device_of e.which) d.minute) entered.owed.items) (sym marks) (own-marks e.which clock out.marks.items entered.owed.items) in (
          true-more t ss (new_stay entered since) all.0 ((tells_odometer (uncut-then (Seated entered clock entry) broken whose known) (AcceptedWith entered.replayed)).0, tt, tt),
          owes-more (owed_by whose t e.which) vehicle (own_sizes f.image).activity ss (new_stay entered since) (start_shown f.image) all.1
              (owed-so whose w owes (known-then (Seated entered clock entry) broken whose known) entered told marked_ (after_stays vehicle (own_sizes f.image).activity ss (start_shown f.image)) (λ y left. ((shown told.valid).shows y left).0)),
        );
    comes = λ shown.
        let seen = tells.1 told.valid in
        let newest : entered.look.previous ≡ (after_stays vehicle (own_sizes f.image).activity ss (start_shown f.image)).book.vehicles.newest =
        seen.2 ∙ ap (λ (b : Book). b.vehicles.newest) ((shown told.valid).shows seen.0 seen.1).0 in
        inr (
          coming_behind vehicle f.image ss (find_of e (AcceptedWith entered.replayed)),
          filter-append accepting (log_of out).finds (find_of e (AcceptedWith entered.replayed) ∷ []),
          one-coming vehicle f.image ss (new_stay entered since),
          subst (λ (q : Option Vehicle). TellMore (told_of q ∷ []) U W) newest tells.0,
        );
  }
  own-judged whose in_ (Lost entered clock entry) behind app w owes cabin is told opens tells broken known ss since =
      no-fall whose o (log_of out) (log_by (Lost entered clock entry)) e.slot e.at e.which U W X Y Z refl floor broken in_ known

  own : (whose : Whose) → covers whose e.which ≡ true → (way : Way) → after ≡ outcome_by (ending_of way) e out → (w : RunLedger) → OwesIn w → (cabin : Cabin) → IsWay way k.memory.registration e failed U.image X Y → IsToldOf (ending_of way) o.found w e U X → (IsOwnValid f.image → OpensSo (ending_of way) k.memory.registration e f X Y) → TellsBy e.at.second (ending_of way) f U W X → HasBroken X Y (falls_of (ending_of way)) → AreKnown whose o (log_by (ending_of way)) (arranged e.which W Y Z)
      → (ss : List Stay) (since : List Find) → TurnsBy whose (ending_of way) (cabin_by (ending_of way) e noted cabin) (session_by e.at.second (ending_of way) noted) ss since
  own whose in_ Unread behind w owes cabin is told opens tells broken known ss since = no-fall whose o (log_of out) (log_by Fell) e.slot e.at e.which U W X Y Z refl floor broken in_ known
  own whose in_ (Unsized field) behind w owes cabin is told opens tells broken known ss since = own-judged whose in_ (ending_of (Unsized field)) behind (own_sizes f.image) w owes cabin tt tt opens tells broken known ss since
  own whose in_ (Judged app ending) behind w owes cabin is told opens tells broken known ss since = own-judged whose in_ ending behind app w owes cabin is told opens tells broken known ss since

  -- ---- of the other card

  others-noted : (ending : Ending) → spells_of (other e.which) (notes (log_by ending)) ≡ spells_of (other e.which) (notes (log_of out))
  others-noted (Unfit fid place) = ap (λ (l : RunLog). spells_of (other e.which) (notes l)) (one-find (NotValid fid place)) ∙ (judges (NotValid fid place)).others
  others-noted (Ahead stored) = ap (λ (l : RunLog). spells_of (other e.which) (notes l)) (one-find (TimeOverlap stored e.at.second)) ∙ (judges (TimeOverlap stored e.at.second)).others
  others-noted Fell =
      ap (λ (fs : List Find). spells_of (other e.which) (notes (record { breaks = out.breaks.items ++ tear_of e.slot e.at ∷ []; refused = by_slots out.refused.items; finds = fs }))) (append-nil out.finds.items) ∙ falls
  others-noted Unasked =
      ap (λ (bs : List Break). spells_of (other e.which) (notes (record { breaks = bs; refused = by_slots out.refused.items; finds = out.finds.items ++ [] }))) (append-nil out.breaks.items)
      ∙ ap (λ (fs : List Find). spells_of (other e.which) (notes (record { breaks = out.breaks.items; refused = by_slots out.refused.items; finds = fs }))) (append-nil out.finds.items)
  others-noted (Unnoted entered clock) = ap (λ (l : RunLog). spells_of (other e.which) (notes l)) (one-find (AcceptedWith entered.replayed)) ∙ (judges (AcceptedWith entered.replayed)).others
  others-noted (Seated entered clock entry) = ap (λ (l : RunLog). spells_of (other e.which) (notes l)) (one-find (AcceptedWith entered.replayed)) ∙ (judges (AcceptedWith entered.replayed)).others
  others-noted (Lost entered clock entry) = (judges (AcceptedWith entered.replayed)).lost

  -- and the log may tell that it was judged
  one-aside : (ending : Ending) → HasBroken X Y (falls_of ending) → (whose : Whose) → AreKnown whose o (log_by ending) (arranged e.which W Y Z) → (entered : Entered) → (log_by ending).finds ≡ (log_of out).finds ++ find_of e (AcceptedWith entered.replayed) ∷ [] → TellsAside (t.entered e.which) (judged_told (log_of out)) (judged_told (log_by ending))
  one-aside ending broken whose known entered finds = inr (
    find_of e (AcceptedWith entered.replayed),
    ap (λ (fs : List Find). filter judging fs) finds ∙ filter-append judging (log_of out).finds (find_of e (AcceptedWith entered.replayed) ∷ []),
    (tells_odometer (uncut-then ending broken whose known) (AcceptedWith entered.replayed)).1,
  )

  judged-aside : (ending : Ending) → HasBroken X Y (falls_of ending) → (whose : Whose) → AreKnown whose o (log_by ending) (arranged e.which W Y Z) → TellsAside (t.entered e.which) (judged_told (log_of out)) (judged_told (log_by ending))
  judged-aside (Unfit fid place) broken whose known = inl (filter-append judging (log_of out).finds (find_of e (NotValid fid place) ∷ []) ∙ append-nil (judged_told (log_of out)))
  judged-aside (Ahead stored) broken whose known = inr (find_of e (TimeOverlap stored e.at.second), filter-append judging (log_of out).finds (find_of e (TimeOverlap stored e.at.second) ∷ []), (tells_odometer (uncut-then (Ahead stored) broken whose known) (TimeOverlap stored e.at.second)).1)
  judged-aside Fell broken whose known = inl (ap (λ (fs : List Find). filter judging fs) (append-nil out.finds.items))
  judged-aside Unasked broken whose known = inl (ap (λ (fs : List Find). filter judging fs) (append-nil out.finds.items))
  judged-aside (Unnoted entered clock) broken whose known = one-aside (Unnoted entered clock) broken whose known entered refl
  judged-aside (Seated entered clock entry) broken whose known = one-aside (Seated entered clock entry) broken whose known entered refl
  judged-aside (Lost entered clock entry) broken whose known = one-aside (Lost entered clock entry) broken whose known entered refl

  -- it sits as it did
  others-sit : (ending : Ending) (cabin : Cabin) → card_in (seat_in cabin.slots.seats e.slot) ≡ Some e.which → sits_in (cabin_by ending e noted cabin).slots.seats (other e.which) ≡ sits_in cabin.slots.seats (other e.which)
  others-sit (Unfit fid place) cabin there = refl
  others-sit (Ahead stored) cabin there = refl
  others-sit Fell cabin there = torn-other e.which (other e.which) e.at.second cabin (apart e.which)
  others-sit Unasked cabin there = refl
  others-sit (Unnoted entered clock) cabin there = refl
  others-sit (Seated entered clock entry) cabin there = put-again cabin.slots.seats e.slot e.which (other e.which) (Some entered.session.minute) there (apart e.which)
  others-sit (Lost entered clock entry) cabin there =
      torn-other e.which (other e.which) e.at.second (cabin_by (Seated entered clock entry) e noted cabin) (apart e.which)
      ∙ put-again cabin.slots.seats e.slot e.which (other e.which) (Some entered.session.minute) there (apart e.which)

  -- and in the slot where it sat
  others-slot : (ending : Ending) (cabin : Cabin) (at : Slot) → card_in (seat_in (cabin_by ending e noted cabin).slots.seats at) ≡ Some (other e.which) → card_in (seat_in cabin.slots.seats at) ≡ Some (other e.which)
  others-slot (Unfit fid place) cabin at there = there
  others-slot (Ahead stored) cabin at there = there
  others-slot Fell cabin at there = torn-slot e.which (other e.which) e.at.second cabin at there
  others-slot Unasked cabin at there = there
  others-slot (Unnoted entered clock) cabin at there = there
  others-slot (Seated entered clock entry) cabin at there = filled-slot cabin.slots.seats e.slot at e.which (other e.which) (Some entered.session.minute) (apart e.which) there
  others-slot (Lost entered clock entry) cabin at there =
      filled-slot cabin.slots.seats e.slot at e.which (other e.which) (Some entered.session.minute) (apart e.which) (torn-slot e.which (other e.which) e.at.second (cabin_by (Seated entered clock entry) e noted cabin) at there)

  -- its own slot is the one in which it is accepted
  own-slot : (ending : Ending) (cabin after : Cabin) → cabin.slots ≡ k.cabin.slots → after ≡ cabin_by ending e noted cabin → session_of after.cards e.which ≡ session_by e.at.second ending noted → IsPlaced (notes (log_by ending)) after e.which
  own-slot (Unfit fid place) cabin after slots is session = placed-bare (notes (log_by (Unfit fid place))) after e.which session
  own-slot (Ahead stored) cabin after slots is session = placed-bare (notes (log_by (Ahead stored))) after e.which session
  own-slot Fell cabin after slots is session = placed-bare (notes (log_by Fell)) after e.which session
  own-slot Unasked cabin after slots is session = placed-bare (notes (log_by Unasked)) after e.which session
  own-slot (Unnoted entered clock) cabin after slots is session = placed-bare (notes (log_by (Unnoted entered clock))) after e.which session
  own-slot (Seated entered clock entry) cabin after slots is session = λ at some there.
      let out_ : is_card (seat_in cabin.slots.seats (other_slot e.slot)) e.which ≡ false = ap (λ (q : SlotsKept). is_card (seat_in q.seats (other_slot e.slot)) e.which) slots ∙ elsewhere in
      let same : at ≡ e.slot = filled-own cabin.slots.seats e.slot at e.which (Some entered.session.minute) out_ (sym (ap (λ (q : Cabin). card_in (seat_in q.slots.seats at)) is) ∙ there) in
      ap (λ (l : RunLog). last_slot (spells_of e.which (notes l))) (one-find (AcceptedWith entered.replayed)) ∙ ap last_slot ((judges (AcceptedWith entered.replayed)).accepts refl)
      ∙ last-slot-more (spells_of e.which (notes (log_of out))) (record { second = e.at.second; slot = e.slot; withdrawn = None }) ∙ ap (λ (x : Slot). Some x) (sym same)
  own-slot (Lost entered clock entry) cabin after slots is session = placed-bare (notes (log_by (Lost entered clock entry))) after e.which session

  registered : (way : Way) → HasEntered e failed k v noted noted_after out after U W X Y way → v.memory.registration ≡ k.memory.registration
  registered way entered = ap (λ (q : Keeper). q.memory.registration) entered.left.keeper

  -- what it told leaves the slots
  sized-slots : (way : Way) → (measured way e k).cabin.slots ≡ k.cabin.slots
  sized-slots Unread = refl
  sized-slots (Unsized field) = refl
  sized-slots (Judged app ending) = refl

  pub entered-stays : (way : Way) (w : RunLedger) → HasEntered e failed k v noted noted_after out after U W X Y way → IsEnteredOn (ending_of way) e failed k v U W X Y Z o.found w → OwesIn w → TellsBy e.at.second (ending_of way) f U W X → session_of k.cabin.cards e.which ≡ None
      → session_of v.cabin.cards (other e.which) ≡ session_of k.cabin.cards (other e.which) → AllStay o t u (log_of out) (notes (log_of out)) k.memory.registration k.cabin (arranged e.which U X Z) →
      AllStay o t u (log_of after) (notes (log_of after)) v.memory.registration v.cabin (arranged e.which W Y Z)
  entered-stays way w entered known owes tells bare others all =
      let ending : Ending = ending_of way in
      let behind : Cabin = cabin_by (ending_of way) e noted (measured way e k).cabin in
      let cabin : v.cabin ≡ cabin_by (ending_of way) e noted (measured way e k).cabin = ap (λ (q : Keeper). q.cabin) entered.left.keeper in
      let session : session_of v.cabin.cards e.which ≡ session_by e.at.second (ending_of way) noted =
      ap (λ (q : Keeper). session_of q.cabin.cards e.which) entered.left.keeper
      ∙ sessions-by (ending_of way) e noted (measured way e k).cabin (session-sized e.which e.which (sizes_by way) k.cabin.cards ∙ bare) in
      let there : card_in (seat_in (measured way e k).cabin.slots.seats e.slot) ≡ Some e.which =
      ap (λ (q : SlotsKept). card_in (seat_in q.seats e.slot)) (sized-slots way) ∙ ap (λ (q : Option Seat). card_in q) seat in
      let sits : sits_in v.cabin.slots.seats (other e.which) ≡ sits_in k.cabin.slots.seats (other e.which) =
      ap (λ (q : Cabin). sits_in q.slots.seats (other e.which)) cabin ∙ others-sit (ending_of way) (measured way e k).cabin there ∙ ap (λ (q : SlotsKept). sits_in q.seats (other e.which)) (sized-slots way) in
      all-of o t u (log_of after) (notes (log_of after)) vehicle v.memory.registration v.cabin (arranged e.which W Y Z) (registered way entered)
      (subst (λ (p : Outcome). AllStay o t u (log_of p) (notes (log_of p)) vehicle v.cabin (arranged e.which W Y Z)) (sym entered.left.outcome)
      (all-one o t u e.which (log_of out) (log_by (ending_of way)) (notes (log_of out)) (notes (log_by (ending_of way))) vehicle k.cabin v.cabin U W X Y Z (λ whose known_. known-then (ending_of way) entered.broken whose known_) others sits
      (λ at there.
      ap (λ (q : SlotsKept). card_in (seat_in q.seats at)) (sym (sized-slots way))
      ∙ others-slot (ending_of way) (measured way e k).cabin at (sym (ap (λ (q : Cabin). card_in (seat_in q.slots.seats at)) cabin) ∙ there))
      (λ whose known_ in_. others-noted (ending_of way))
      (λ whose known_ in_ was. own-slot (ending_of way) (measured way e k).cabin v.cabin (sized-slots way) cabin session)
      (λ whose known_ in_ h. turned whose in_ way w entered known owes tells known_ (h.stays e.which) (h.since e.which) bare cabin session)
      (λ whose known_ out_. judged-aside (ending_of way) entered.broken whose known_) all))
    where
      turned : (whose : Whose) → covers whose e.which ≡ true → (way : Way) (w : RunLedger) (entered : HasEntered e failed k v noted noted_after out after U W X Y way) → IsEnteredOn (ending_of way) e failed k v U W X Y Z o.found w → OwesIn w → TellsBy e.at.second (ending_of way) f U W X → AreKnown whose o (log_by (ending_of way)) (arranged e.which W Y Z) → (ss : List Stay) (since : List Find) → session_of k.cabin.cards e.which ≡ None →
          v.cabin ≡ cabin_by (ending_of way) e noted (measured way e k).cabin → session_of v.cabin.cards e.which ≡ session_by e.at.second (ending_of way) noted →
          Turns whose t e.which u f (log_of out) (log_by (ending_of way)) vehicle (spells_of e.which (notes (log_of out))) (spells_of e.which (notes (log_by (ending_of way)))) (sits_in k.cabin.slots.seats e.which) (sits_in v.cabin.slots.seats e.which) (session_of k.cabin.cards e.which) (session_of v.cabin.cards e.which) U W X Y ss since
      turned whose in_ way w entered known owes tells known_ ss since bare cabin session =
          subst (λ (s : Option Accepted). Turns whose t e.which u f (log_of out) (log_by (ending_of way)) vehicle (spells_of e.which (notes (log_of out))) (spells_of e.which (notes (log_by (ending_of way)))) (sits_in k.cabin.slots.seats e.which) (sits_in v.cabin.slots.seats e.which) s (session_of v.cabin.cards e.which) U W X Y ss since) (sym bare)
          (subst (λ (s : Option Accepted). TurnsBy whose (ending_of way) v.cabin s ss since) (sym session)
          (subst (λ (q : Cabin). TurnsBy whose (ending_of way) q (session_by e.at.second (ending_of way) noted) ss since) (sym cabin) (own whose in_ way entered.left.outcome w owes (measured way e k).cabin entered.is known.told known.opens tells entered.broken known_ ss since)))
