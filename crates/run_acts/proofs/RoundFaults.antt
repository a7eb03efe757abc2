-- What the tears of a keeping add to the events of its second: the faults of the cards.
use Rattle.std.proofs.Common.{◌≡◌, ◌∙◌, ◌⊎◌, inl, inr, ⊎_elim, ℕ, zero, suc, ◌+◌, ◌/◌, ◌^◌, ◌≤◌, ◌<◌, Bool, true, false, Option, Some, None, IfSome, List, [], ◌∷◌, ◌++◌, length, map, refl, ap, sym, subst, arith, append-nil}
use Rattle.std.specs.Prelude.{slice_get, take, drop}
use Rattle.std.proofs.lemmas.List.Elements.{All-head}
use Rattle.activity_codec.specs.declared.values.Slot.{Slot}
use Rattle.activity_codec.specs.declared.values.Slot.TheVariants.{Driver, CoDriver}
use Rattle.trace_model.specs.declared.Card.{Card}
use Rattle.trace_model.specs.declared.Action.{Action}
use Rattle.trace_model.specs.declared.Action.TheVariants.{Select, Insert, Withdraw, Tear as Pull, Place, Manual}
use Rattle.trace_model.specs.Trace.{TraceSecond}
use Rattle.log_model.specs.run_model.declared.Device.{Device}
use Rattle.hand_model.specs.card_image.Own.{IsOwnValid}
use Rattle.device_calls.specs.card_session.declared.session.Kept.{Kept}
use Rattle.unit_model.specs.minute_model.declared.Minute.{Minute}
use Rattle.unit_model.specs.minute_model.Span.{Span}
use Rattle.log_model.specs.declared.lines.Break.{Break}
use Rattle.log_model.specs.declared.lines.Mark.{Mark}
use Rattle.log_model.specs.declared.lines.SlotFault.{SlotFault}
use Rattle.log_model.specs.Log.{RunLog, Phase, In, Keeping, is_torn_in, found_in}
use Rattle.log_model.specs.Slots.{Slots, other_slot}
use Rattle.log_model.specs.Course.{Course, Before, moved_by, went}
use Rattle.device_calls.specs.history_model.Minutes.{HistoryMinute}
use Rattle.device_calls.specs.device_rule.Rules.{Standing}
use Rattle.run_crew.specs.card_slots.declared.seats.Present.{Present}
use Rattle.run_crew.specs.card_slots.declared.seats.Seat.{Seat}
use Rattle.run_crew.specs.card_slots.Calls.{seat_in, is_card, present_in}
use Rattle.unit_notes.specs.event_model.Events.{Event, course_by, with_card, crew_of as events_crew_of}
use Rattle.device_calls.specs.safety_model.Safe.{Devices, breakdowns_of}
use Rattle.unit_notes.specs.declared.unit_event.UnitEvent.{UnitEvent}
use Rattle.run_minutes.specs.run_promise.Found.{found_of}
use Rattle.run_minutes.specs.run_promise.Between.{RunLedger}
use Rattle.run_crew.specs.declared.cards.Accepted.{Accepted}
use Rattle.run_crew.specs.declared.cards.Cards.{Cards}
use Rattle.run_crew.specs.declared.cabin.Cabin.{Cabin}
use Rattle.run_crew.specs.Cards.{session_of}
use Rattle.run_crew.specs.Cabin.{AreTwo, torn_out, crew_of}
use Rattle.run_events.specs.run_course.Moment.{goes_on, Moment}
use Rattle.run_events.specs.run_course.Reached.{moved_at, moved_with, Reaches, IsTearAt, IsMoment}
use Rattle.run_events.specs.run_course.Moments.{and_break}
use Rattle.run_events.proofs.run_course.Lookups.{break-more}
use Rattle.run_minutes.specs.run_promise.Origin.{Origin, start_at}
use Rattle.run_record.specs.Recorded.{Values}
use Rattle.run_record.specs.Within.{Beginning, told_before, course_in, IsLeaving}
use Rattle.run_record.proofs.Seats.{no-both}
use Rattle.run_note_record.specs.Evented.{number_in, Evented}
use Rattle.run_note_record.specs.Noting.{Acting, Stage, Ended}
use Rattle.run_note_record.specs.Bringing.{NotFound}
use Rattle.run_note_record.specs.EventsSoFar.{Adds, BeginsNow, MayFollow, puts_into, fault_with, crew_at, EventedNow}
use Rattle.run_note_record.proofs.Adding.{steps-follow, adds-nothing}
use Rattle.run_note_record.proofs.Falling.{tear-adds}
use Rattle.run_minutes.specs.declared.keeper.Keeper.{Keeper}
use Rattle.run_minutes.specs.Keeping.{Fate, Still, Has, Fell, IsFateOf, cabin_by, breaks_by, tear_of, session_at, kept_in, card_in as present_of}
use Rattle.run_minutes.specs.Minutes.{Round, IsRound, KeepingState, Done, Reach, Whole, Short, AreRounds, IsReach, told_after, told_by, cabin_after, present_at, minute_of}
use Rattle.run_minutes.specs.Faults.{faults_by, round_faults, faults_of, faults_to, NotesFaults}
use Rattle.activity_codec.specs.Activity.{same_slot}
use Rattle.tacho_types.specs.declared.card_number.FullCardNumber.{FullCardNumber}
use Rattle.tacho_types.specs.CardNumber.{card_number_bytes}
use Rattle.log_model.specs.Causes.{device_of, RoseBy}
use Rattle.device_calls.specs.history_model.History.{seated}
use Rattle.run_events.specs.Entries.{number_or_no_card, IsCrewOf}
use Rattle.run_crew.proofs.Sessions.{same_is}
use Rattle.run_minutes.specs.run_devices.Presence.{IsIn}
use Rattle.run_minutes.specs.declared.keeper.Moment.{Moment as KeepingAt}
use Rattle.run_minutes.specs.Books.{carried_after}
use Rattle.run_minutes.specs.Decided.{decided_minute, carried_by}
use Rattle.run_acts.specs.Rounds.{standing_card, Point, Outset, told_values, moment_of, and_breaks, StandsOrFell, Slate, HasBrokenDown, HaveBroken, SoFar}
use Rattle.std.proofs.lemmas.List.{take-append-drop, length-take-le}
use Rattle.log_model.specs.run_model.declared.Device.TheVariants.{Unit as Recorder}
use Rattle.tach_media.specs.Medium.{IsCoherent}
use Rattle.unit_model.specs.Image.{IsUnit}
use Rattle.device_calls.specs.run_unit_course.Lines.{cut_at}
use Rattle.device_calls.specs.run_unit_course.Followed.{Lost as IsLost}
use Rattle.run_events.specs.run_course.Telling.{IsMore, begun_by, IsLeft}
use Rattle.run_note_record.proofs.Cutting.{failure-cuts}
use Rattle.run_acts.specs.NotedEvents.{NotesSo, AreTold}
use Rattle.run_acts.specs.KeptEvents.{AreFaults}
use Rattle.run_acts.proofs.KeptEvents.{faults-noted}
use Rattle.run_acts.proofs.Numbers.{notes-at}
use Rattle.run_acts.specs.Acting.{IsBareIn}
use Rattle.run_acts.specs.EventCrews.{AreKnownBy}
use Rattle.run_acts.specs.Evented.{IsUntold}
use Rattle.run_acts.specs.Recording.{IsOrigin}
use Rattle.run_acts.specs.RoundLaws.{InRounds, KeepsSo, HaveBrokenOff, AreGone, carried_at}
use Rattle.run_acts.proofs.Bare.{fate-bare}
use Rattle.run_acts.proofs.EventCrews.{AllSitWell, torn-sits, torn-leaves, sessions-known, faults-told}
use Rattle.run_acts.specs.Named.{CrewValid, NamesValid}
use Rattle.run_acts.proofs.Named.{both-valid, crew-valid, without-valid}
use Rattle.run_acts.proofs.Sitting.{SameNumbers, fate-well, fate-numbers}
use Rattle.run_acts.proofs.RoundLeaving.{slots-or, torn-apart}
use Rattle.run_acts.proofs.RoundFates.{IsOut, out-is}
use Rattle.run_acts.proofs.Round.{unit-slate, there, stands, first-fate, second-is, there1}
use Rattle.run_minutes.specs.Later.{RestBy}
use Rattle.run_acts.proofs.Rising.{fell-more}
use Rattle.run_acts.proofs.RoundReached.{first-number, one-on}
use Rattle.run_acts.proofs.RoundBegun.{outset, begun-so}
use Rattle.run_acts.proofs.RoundBroken.{cards-broken, cards-broken_last}
use Rattle.run_acts.proofs.RoundKept.{gone-cards}

-- ---- faults that are told, one after another
pub told-both : (number : Card → List ℕ) (vs ws : List UnitEvent) (es fs : List Event) → AreTold number vs es → AreTold number ws fs → AreTold number (vs ++ ws) (es ++ fs)
told-both number [] ws [] fs h k = k
told-both number [] ws (e ∷ es) fs h k = absurd h
told-both number (v ∷ vs) ws [] fs h k = absurd h
told-both number (v ∷ vs) ws (e ∷ es) fs h k = (h.0, told-both number vs ws es fs h.1 k)

-- LINES ADD these faults
pub record AddsFaults (o : Origin) (done : List TraceSecond) (s : TraceSecond) (log later : RunLog) (vs : List UnitEvent) (e : Devices) : Type 0 where
  pub events : List Event
  pub told : AreTold (number_in o) vs events
  pub valid : NamesValid o events
  pub adds : Adds o done s Acting log Acting later events e

pub none-added : (o : Origin) (done : List TraceSecond) (s : TraceSecond) (log later : RunLog) (e : Devices) → later ≡ log → AddsFaults o done s log later [] e
none-added o done s log later e same = record {
  events = [];
  told = tt;
  valid = tt;
  adds = subst (λ (l : RunLog). Adds o done s Acting log Acting l [] e) (sym same) (adds-nothing e o done s Acting log);
}

pub both-added : (o : Origin) (done : List TraceSecond) (s : TraceSecond) (log mid later : RunLog) (vs ws : List UnitEvent) (e : Devices) → AddsFaults o done s log mid vs e → AddsFaults o done s mid later ws e → AddsFaults o done s log later (vs ++ ws) e
both-added o done s log mid later vs ws e x y = record {
  events = x.events ++ y.events;
  told = told-both (number_in o) vs ws x.events y.events x.told y.told;
  valid = both-valid o x.events y.events x.valid y.valid;
  adds = steps-follow e o done s Acting Acting Acting log mid later x.events y.events x.adds y.adds;
}

-- ---- an action that puts a card into a slot takes none out of it
puts-stay : (slot : Slot) (n : ℕ) (r : Option SlotFault) (a : Action) (slots : Slots) → puts_into slot (Some a) ≡ true → (moved_by n r a slots).leaving slot ≡ []
puts-stay slot n r (Select at pick) slots is = no-both true refl (sym is)
puts-stay slot n (Some f) (Insert at card) slots is = refl
puts-stay slot n None (Insert at card) slots is = refl
puts-stay slot n r (Withdraw at) slots is = no-both true refl (sym is)
puts-stay slot n r (Pull at) slots is = no-both true refl (sym is)
puts-stay slot n r (Place at ending country region) slots is = no-both true refl (sym is)
puts-stay slot n r (Manual at pick minute) slots is = no-both true refl (sym is)

none-leaves : (slot : Slot) (n : ℕ) (a : Option Action) (speed : ℕ) (c : Course) → puts_into slot a ≡ true → (moved_with n a speed c).leaving slot ≡ []
none-leaves slot n None speed c is = no-both true refl (sym is)
none-leaves slot n (Some a) speed c is = puts-stay slot n _ a c.slots is

-- who sits there has a session
sits-bare : (seat : Option Seat) (card : Card) (cards : Cards) → is_card seat card ≡ true → IfSome seat (λ x. session_of cards x.card ≡ None) → session_of cards card ≡ None
sits-bare None card cards is bare = no-both true refl (sym is)
sits-bare (Some x) card cards is bare = subst (λ (c : Card). session_of cards c ≡ None) (same_is x.card card is) bare

-- ---- WHAT IS KNOWN OF A MOMENT as its tears are told
abbrev pub Follows : TraceSecond → Phase → RunLog → Cabin → Type 0
Follows s (In zero) log cabin = ⊥
Follows s (In (suc n)) log cabin = ((slot : Slot) → is_torn_in log s.number (In (suc n)) slot ≡ true → puts_into slot (slice_get s.actions n) ≡ false) × ((slot : Slot) → found_in log s.number (In (suc n)) slot ≡ [])
    × ((slot : Slot) → puts_into slot (slice_get s.actions n) ≡ true → IsBareIn cabin slot)
Follows s Keeping log cabin = Unit {0}

-- the driver's card comes first in the keeping
abbrev pub DriverFirst : TraceSecond → Phase → Slot → RunLog → Type 0
DriverFirst s (In n) slot log = Unit {0}
DriverFirst s Keeping Driver log = is_torn_in log s.number Keeping CoDriver ≡ false
DriverFirst s Keeping CoDriver log = Unit {0}

may-follow : (s : TraceSecond) (at : Phase) (slot : Slot) (log : RunLog) (cabin : Cabin) → Follows s at log cabin → DriverFirst s at slot log → MayFollow at slot log s
may-follow s (In zero) slot log cabin h first = absurd h
may-follow s (In (suc n)) slot log cabin h first = h.0 (other_slot slot)
may-follow s Keeping Driver log cabin h first = first
may-follow s Keeping CoDriver log cabin h first = tt

not-found : (s : TraceSecond) (at : Phase) (slot : Slot) (log : RunLog) (cabin : Cabin) → Follows s at log cabin → NotFound at slot log s.number
not-found s (In zero) slot log cabin h = absurd h
not-found s (In (suc n)) slot log cabin h = h.1 slot
not-found s Keeping slot log cabin h = tt

codriver-last : (s : TraceSecond) (at : Phase) (log : RunLog) → DriverFirst s at CoDriver log
codriver-last s (In n) log = tt
codriver-last s Keeping log = tt

never-beside : (slot : Slot) → slot ≡ other_slot slot → ⊥
never-beside Driver is = absurd (let wrong : true ≡ false = ap (same_slot Driver) is in cc)
never-beside CoDriver is = absurd (let wrong : false ≡ true = ap (same_slot Driver) is in cc)

bool-or : (b : Bool) → (b ≡ true) ⊎ (b ≡ false)
bool-or true = inl refl
bool-or false = inr refl

some-none : {T : Type 0} (q : Option Accepted) (x : Accepted) → q ≡ Some x → q ≡ None → T
some-none q x some none = let clash : None ≡ Some x = sym none ∙ some in absurd (cc)

-- ---- WHAT BECAME OF ONE ENTRY
module _ (o : Origin) (done : List TraceSecond) (s : TraceSecond) (q : Point) (b : Beginning) (os : Outset) (m from : ℕ) (past : List HistoryMinute) (first last : Device → ℕ) (slot : Slot) (log : RunLog) (z : Card → Standing) (cabin : Cabin)
    (h : Slate o done s q b os from past log z cabin first last) (next : from ≡ suc m) (le : os.low ≤ m) (few : s.number / 60 ≤ m + 4)
    (origin : IsOrigin o) (begins : BeginsNow o done b.run b.span s) (small : s.number < 2 ^ 32) (e : Devices) (known : AreKnownBy (number_in o) os.cabin.cards) (well : AllSitWell cabin) (numbers : SameNumbers os.cabin.cards cabin.cards) where
  abbrev c : Course
  c = course_in b done s q.at log

  abbrev bef : Before
  bef = (went b.run.log done).before

  abbrev log_by : Fate → RunLog
  log_by fate = and_breaks log (breaks_by fate slot (moment_of s q))

  log-same : and_breaks log [] ≡ log
  log-same = ap (λ (bs : List Break). record log { breaks = bs }) (append-nil log.breaks)

  known-now : AreKnownBy (number_in o) cabin.cards
  known-now card some = ap (λ (n : Option FullCardNumber). card_number_bytes (number_or_no_card n)) (numbers card) ∙ known card (h.had card some)

  reaches : Reaches b.run s q.at log
  reaches = record { goes = goes_on h.moment; up_to = h.moment.up_to; is = h.moment.is }

  abbrev tear : Break
  tear = tear_of slot (moment_of s q)

  tear-at : IsTearAt s q.at slot true tear
  tear-at = (q.begun, q.late, refl, h.point.phase, h.point.few, h.point.all)

  -- it is torn out
  module _ (card : Card) (valid : IsOwnValid (found_of o.found card).image) (old : Accepted) (is : session_of cabin.cards card ≡ Some old) (rose : RoseBy 1 (first (device_of card)) (last (device_of card)))
      (p : Present) (there_ : present_in cabin.slots.past m ≡ Some p) (at : present_of p slot ≡ Some card) where
    out : IsOut o done s q b os m from past first last slot log z cabin h next le few card valid old is rose
        × ((is_card (seat_in cabin.slots.seats slot) card ≡ true) ⊎ IsLeaving log bef s q.at os.low os.high cabin slot card)
    out = out-is o done s q b os m from past first last slot log z cabin h next le few card valid old is rose p there_ at

    named : IsCrewOf (number_in o) (with_card slot None (events_crew_of c.slots)) (crew_of (torn_out card s.number cabin))
    named = ⊎_elim
        (λ sits. torn-sits (number_in o) (start_at o) (told_before b done) past c.left s.number from c.slots cabin well h.tells known-now slot card sits s.number)
        (λ leaves. torn-leaves (number_in o) (start_at o) (told_before b done) past c.left s.number from c.slots cabin well h.tells known-now slot card leaves.empty leaves.nowhere s.number)
        out.1

    crew_valid : CrewValid o (with_card slot None (events_crew_of c.slots))
    crew_valid = without-valid o slot (events_crew_of c.slots) (crew-valid o origin z (told_before b done) c s.number from cabin h.present)

    fell-adds : Follows s q.at log cabin → DriverFirst s q.at slot log → AddsFaults o done s log (and_break log tear) (faults_by Fell s.number (torn_out card s.number cabin)) e
    fell-adds follows first_ = record {
      events = fault_with s.number slot (crew_at b.run done s q.at log) ∷ [];
      told = faults-told (number_in o) Fell s.number (torn_out card s.number cabin) (with_card slot None (events_crew_of c.slots)) small named;
      valid = ((crew_valid, crew_valid), tt);
      adds = tear-adds e o done b.run b.span s begins q.at log reaches slot card tear tear-at out.0.untorn out.0.out (not-found s q.at (other_slot slot) log cabin follows) (may-follow s q.at slot log cabin follows first_);
    }

    -- it was in no slot into which the action puts a card
    not-put : (n : ℕ) → q.at ≡ In (suc n) → IsBareIn cabin slot → puts_into slot (slice_get s.actions n) ≡ true → ⊥
    not-put n is_at bare puts = ⊎_elim
        (λ sits. some-none (session_of cabin.cards card) old is (sits-bare (seat_in cabin.slots.seats slot) card cabin.cards sits bare))
        (λ leaves.
        let here : (moved_at log bef s (In (suc n))).leaving slot ≡ record { phase = q.at; slot = slot; card = card } ∷ [] = subst (λ (p_ : Phase). (moved_at log bef s p_).leaving slot ≡ record { phase = q.at; slot = slot; card = card } ∷ []) is_at leaves.leaves in
        let none : (moved_at log bef s (In (suc n))).leaving slot ≡ [] = none-leaves slot n (slice_get s.actions n) s.speed (course_by log bef s n) puts in
        let clash : [] ≡ record { phase = q.at; slot = slot; card = card } ∷ [] = sym none ∙ here in absurd (cc))
        out.1

    fell-follows : (kept : Kept) → IsFateOf (session_of cabin.cards card) kept Fell → (at_ : Phase) → q.at ≡ at_ → Follows s at_ log cabin → Follows s at_ (and_break log tear) (torn_out card s.number cabin)
    fell-follows kept fate (In zero) is_at f = absurd f
    fell-follows kept fate Keeping is_at f = tt
    fell-follows kept fate (In (suc n)) is_at f = (
      λ sl torn. ⊎_elim
          (λ same. subst (λ (x : Slot). puts_into x (slice_get s.actions n) ≡ false) same
          (⊎_elim (λ puts. absurd (not-put n is_at (f.2 slot puts) puts)) (λ none. none) (bool-or (puts_into slot (slice_get s.actions n)))))
          (λ other. f.0 sl (⊎_elim
          (λ was. was)
          (λ was_not. no-both (is_torn_in (and_break log tear) s.number (In (suc n)) sl) torn
          (torn-apart log s (In (suc n)) slot sl tear (subst (λ (p_ : Phase). IsTearAt s p_ slot true tear) is_at tear-at) (λ same. never-beside slot (same ∙ other)) was_not))
          (bool-or (is_torn_in log s.number (In (suc n)) sl))))
          (slots-or slot sl),
      λ sl. (break-more log tear s.number).found (In (suc n)) sl ∙ f.1 sl,
      λ sl puts. (fate-bare Fell (Some card) kept s.number sl cabin fate (f.2 sl puts)).bare,
    )

  -- EACH FATE
  still-adds : (vs : List UnitEvent) → vs ≡ [] → AddsFaults o done s log (and_breaks log []) vs e
  still-adds vs none = subst (λ (ws : List UnitEvent). AddsFaults o done s log (and_breaks log []) ws e) (sym none) (none-added o done s log (and_breaks log []) e log-same)

  pub fate-adds : (fate : Fate) (present : Option Card) (kept : Kept) → (fate ≡ Still) ⊎ IsFateOf (session_at cabin.cards present) kept fate → (p : Present) → present_in cabin.slots.past m ≡ Some p →
      present_of p slot ≡ present → ((card : Card) → present ≡ Some card → IsOwnValid (found_of o.found card).image) → HasBrokenDown fate present first last → Follows s q.at log cabin → DriverFirst s q.at slot log →
      AddsFaults o done s log (log_by fate) (faults_by fate s.number (cabin_by fate present s.number cabin)) e
  fate-adds Still present kept is p there_ at valid broken follows first_ = still-adds (faults_by Still s.number (cabin_by Still present s.number cabin)) refl
  fate-adds (Has a clock) present kept is p there_ at valid broken follows first_ = still-adds (faults_by (Has a clock) s.number (cabin_by (Has a clock) present s.number cabin)) refl
  fate-adds Fell None kept (inl is) p there_ at valid broken follows first_ = absurd (cc)
  fate-adds Fell None kept (inr is) p there_ at valid broken follows first_ = absurd is
  fate-adds Fell (Some card) kept (inl is) p there_ at valid broken follows first_ = absurd (cc)
  fate-adds Fell (Some card) kept (inr is) p there_ at valid broken follows first_ = by (session_of cabin.cards card) refl is
    where
      by : (x : Option Accepted) → session_of cabin.cards card ≡ x → IsFateOf x kept Fell → AddsFaults o done s log (and_break log tear) (faults_by Fell s.number (torn_out card s.number cabin)) e
      by None none h_ = absurd h_
      by (Some old) some h_ = fell-adds card (valid card refl) old some (broken refl) p there_ at follows first_

  -- and what is known of the moment goes on
  same-follows : (at_ : Phase) (after : Cabin) → ((slot : Slot) → IsBareIn cabin slot → IsBareIn after slot) → Follows s at_ log cabin → Follows s at_ (and_breaks log []) after
  same-follows (In zero) after stays f = absurd f
  same-follows Keeping after stays f = tt
  same-follows (In (suc n)) after stays f = subst (λ (l : RunLog). Follows s (In (suc n)) l after) (sym log-same) (f.0, f.1, λ sl puts. stays sl (f.2 sl puts))

  pub follows-on : (fate : Fate) (present : Option Card) (kept : Kept) → (fate ≡ Still) ⊎ IsFateOf (session_at cabin.cards present) kept fate → (p : Present) → present_in cabin.slots.past m ≡ Some p →
      present_of p slot ≡ present → ((card : Card) → present ≡ Some card → IsOwnValid (found_of o.found card).image) → HasBrokenDown fate present first last → Follows s q.at log cabin →
      Follows s q.at (log_by fate) (cabin_by fate present s.number cabin)
  follows-on Still None kept is p there_ at valid broken f = same-follows q.at cabin (λ sl bare. bare) f
  follows-on Still (Some card) kept is p there_ at valid broken f = same-follows q.at cabin (λ sl bare. bare) f
  follows-on (Has a clock) None kept is p there_ at valid broken f = same-follows q.at cabin (λ sl bare. bare) f
  follows-on (Has a clock) (Some card) kept (inl is) p there_ at valid broken f = absurd (cc)
  follows-on (Has a clock) (Some card) kept (inr is) p there_ at valid broken f =
      same-follows q.at (cabin_by (Has a clock) (Some card) s.number cabin) (λ sl bare. (fate-bare (Has a clock) (Some card) kept s.number sl cabin is bare).bare) f
  follows-on Fell None kept (inl is) p there_ at valid broken f = absurd (cc)
  follows-on Fell None kept (inr is) p there_ at valid broken f = absurd is
  follows-on Fell (Some card) kept (inl is) p there_ at valid broken f = absurd (cc)
  follows-on Fell (Some card) kept (inr is) p there_ at valid broken f = by (session_of cabin.cards card) refl is
    where
      by : (x : Option Accepted) → session_of cabin.cards card ≡ x → IsFateOf x kept Fell → Follows s q.at (and_break log tear) (torn_out card s.number cabin)
      by None none h_ = absurd h_
      by (Some old) some h_ = fell-follows card (valid card refl) old some (broken refl) p there_ at kept is q.at refl f

-- ---- ONE ROUND
module _ (o : Origin) (done : List TraceSecond) (s : TraceSecond) (q : Point) (b : Beginning) (os : Outset) (first last : Device → ℕ) (k : Keeper) (m : Minute) (t : KeepingState) (log : RunLog) (z : Card → Standing) (new : List HistoryMinute)
    (h : Slate o done s q b os m.minute (b.run.book.sure ++ new) log z t.keeper.cabin first last) (same_past : t.keeper.cabin.slots.past ≡ k.cabin.slots.past) (over : m.minute < s.number / 60)
    (round : Round) (failed : Bool) (le : os.low ≤ m.minute) (few : s.number / 60 ≤ m.minute + 4) (is : IsRound (present_at k.cabin m.minute) (minute_of m k) (moment_of s q) failed t.keeper round)
    (two : AreTwo (present_at k.cabin m.minute).driver (present_at k.cabin m.minute).codriver) (driver_broken : HasBrokenDown round.driver (present_at k.cabin m.minute).driver first last)
    (codriver_broken : HasBrokenDown round.codriver (present_at k.cabin m.minute).codriver first last)
    (origin : IsOrigin o) (begins : BeginsNow o done b.run b.span s) (small : s.number < 2 ^ 32) (e : Devices) (known : AreKnownBy (number_in o) os.cabin.cards) (well : AllSitWell t.keeper.cabin) (numbers : SameNumbers os.cabin.cards t.keeper.cabin.cards)
    (follows : Follows s q.at log t.keeper.cabin) where
  abbrev i : HistoryMinute
  i = seated (start_at o) (told_before b done) (b.run.book.sure ++ new) m

  abbrev all_past : List HistoryMinute
  all_past = (b.run.book.sure ++ new) ++ i ∷ []

  abbrev p : Present
  p = present_at k.cabin m.minute

  abbrev cabin : Cabin
  cabin = t.keeper.cabin

  abbrev cabin1 : Cabin
  cabin1 = cabin_by round.driver p.driver s.number cabin

  abbrev z1 : Card → Standing
  z1 = standing_card round.driver p.driver m.minute z

  abbrev log1 : RunLog
  log1 = and_breaks log (breaks_by round.driver Driver (moment_of s q))

  abbrev pub log2 : RunLog
  log2 = and_breaks log1 (breaks_by round.codriver CoDriver (moment_of s q))

  slate0 : Slate o done s q b os (suc m.minute) all_past log z cabin first last
  slate0 = unit-slate o done s q b os first last k m t log z new h same_past over

  slate1 : Slate o done s q b os (suc m.minute) all_past log1 z1 cabin1 first last
  slate1 = (first-fate o done s q b os first last k m t log z new h same_past over round failed le few is two driver_broken codriver_broken).slate

  there0 : present_in cabin.slots.past m.minute ≡ Some p
  there0 = there o done s q b os first last k m t log z new h same_past over

  there1_ : present_in cabin1.slots.past m.minute ≡ Some p
  there1_ = there1 o done s q b os first last k m t log z new h same_past over round failed le few is two driver_broken codriver_broken

  codriver-is : (round.codriver ≡ Still) ⊎ IsFateOf (session_at cabin1.cards p.codriver) (kept_in (minute_of m k) CoDriver) round.codriver
  codriver-is = second-is o done s q b os first last k m t log z new h same_past over round failed le few is two driver_broken codriver_broken

  valid-in : (card : Card) → IsIn p card → IsOwnValid (found_of o.found card).image
  valid-in card in_ = (stands o done s q b os first last k m t log z new h same_past over card in_).valid

  well1 : AllSitWell cabin1
  well1 = fate-well round.driver p.driver (kept_in (minute_of m k) Driver) s.number cabin (inr is.driver) slate0.tells.apart well

  numbers1 : SameNumbers os.cabin.cards cabin1.cards
  numbers1 c = fate-numbers round.driver p.driver s.number cabin c ∙ numbers c

  follows1 : Follows s q.at log1 cabin1
  follows1 = follows-on o done s q b os m.minute (suc m.minute) all_past first last Driver log z cabin slate0 refl le few origin begins small e known well numbers round.driver p.driver (kept_in (minute_of m k) Driver) (inr is.driver) p there0 refl
      (λ card in_. valid-in card (inl in_)) driver_broken follows

  pub round-adds : DriverFirst s q.at Driver log → AddsFaults o done s log log2 (round_faults p (moment_of s q) round cabin) e
  round-adds first_ =
      both-added o done s log log1 log2 (faults_by round.driver s.number cabin1) (faults_by round.codriver s.number (cabin_after p s.number round cabin)) e
      (fate-adds o done s q b os m.minute (suc m.minute) all_past first last Driver log z cabin slate0 refl le few origin begins small e known well numbers round.driver p.driver (kept_in (minute_of m k) Driver) (inr is.driver) p there0 refl
      (λ card in_. valid-in card (inl in_)) driver_broken follows first_)
      (fate-adds o done s q b os m.minute (suc m.minute) all_past first last CoDriver log1 z1 cabin1 slate1 refl le few origin begins small e known well1 numbers1 round.codriver p.codriver (kept_in (minute_of m k) CoDriver) codriver-is p there1_ refl
      (λ card in_. valid-in card (inr in_)) codriver_broken follows1 (codriver-last s q.at log1))

  pub well-after : AllSitWell (cabin_after p s.number round cabin)
  well-after = fate-well round.codriver p.codriver (kept_in (minute_of m k) CoDriver) s.number cabin1 codriver-is slate1.tells.apart well1

  pub numbers-after : SameNumbers os.cabin.cards (cabin_after p s.number round cabin).cards
  numbers-after c = fate-numbers round.codriver p.codriver s.number cabin1 c ∙ numbers1 c

  pub follows-after : Follows s q.at log2 (cabin_after p s.number round cabin)
  follows-after = follows-on o done s q b os m.minute (suc m.minute) all_past first last CoDriver log1 z1 cabin1 slate1 refl le few origin begins small e known well1 numbers1 round.codriver p.codriver (kept_in (minute_of m k) CoDriver) codriver-is p there1_ refl
      (λ card in_. valid-in card (inr in_)) codriver_broken follows1

-- ---- SOME ROUNDS

-- in the keeping there is one at most, and nothing was torn before it
abbrev pub IsOnce : TraceSecond → Phase → RunLog → (left : ℕ) → Type 0
IsOnce s (In n) log left = Unit {0}
IsOnce s Keeping log left = (left ≤ 1) × (0 < left → is_torn_in log s.number Keeping CoDriver ≡ false)

once-first : (s : TraceSecond) (at : Phase) (log : RunLog) (left : ℕ) → IsOnce s at log (suc left) → DriverFirst s at Driver log
once-first s (In n) log left once = tt
once-first s Keeping log left once = once.1 (omega arith)

once-then : (s : TraceSecond) (at : Phase) (log later : RunLog) (left : ℕ) → IsOnce s at log (suc left) → IsOnce s at later left
once-then s (In n) log later left once = tt
once-then s Keeping log later left once = let few = once.0 in (omega (arith, few), λ more. absurd (omega (arith, few, more)))

module _ (o : Origin) (done : List TraceSecond) (s : TraceSecond) (q : Point) (b : Beginning) (os : Outset) (first last : Device → ℕ) (k : Keeper) (sp : Span) (v : Values) (marks0 : List Mark) (c0 : Course) (brought : Card → List ℕ)
    (few : s.number / 60 ≤ os.low + 4) (two : (m : ℕ) → AreTwo (present_at k.cabin m).driver (present_at k.cabin m).codriver)
    (origin : IsOrigin o) (begins : BeginsNow o done b.run b.span s) (small : s.number < 2 ^ 32) (e : Devices) (known : AreKnownBy (number_in o) os.cabin.cards) where
  -- what is known between rounds
  pub record Known (t : KeepingState) : Type 0 where
    pub well : AllSitWell t.keeper.cabin
    pub numbers : SameNumbers os.cabin.cards t.keeper.cabin.cards
    pub follows : Follows s q.at (told_values t v).log t.keeper.cabin

  module _ (m : Minute) (rest : List Minute) (round : Round) (failed : Bool) (t : KeepingState) (w : RunLedger) (ds : List Minute) (new : List HistoryMinute) (from : ℕ)
      (h : SoFar o done s q b os first last k sp v marks0 c0 brought t w ds (m ∷ rest) new from) (is : IsRound (present_at k.cabin m.minute) (minute_of m k) (moment_of s q) failed t.keeper round)
      (broken : HasBrokenDown round.driver (present_at k.cabin m.minute).driver first last) (more : HasBrokenDown round.codriver (present_at k.cabin m.minute).codriver first last) (g : Known t) where
    here : m.minute ≡ from
    here = (first-number m rest from h.numbers).0

    over : m.minute < s.number / 60
    over = All-head (λ (d : Minute). d.minute < s.number / 60) m rest h.over

    abbrev log : RunLog
    log = (told_values t v).log

    slate : Slate o done s q b os m.minute (b.run.book.sure ++ new) log w.standing t.keeper.cabin first last
    slate = subst (λ (n : ℕ). Slate o done s q b os n (b.run.book.sure ++ new) log w.standing t.keeper.cabin first last) (sym here) h.slate

    low-here : os.low ≤ m.minute
    low-here = let high = h.high in omega (arith, high, here)

    few-here : s.number / 60 ≤ m.minute + 4
    few-here = let high = h.high in omega (arith, high, here, few)

    abbrev u : KeepingState
    u = told_after (present_at k.cabin m.minute) m.minute (moment_of s q) round t

    pub one-adds : DriverFirst s q.at Driver log → AddsFaults o done s log (told_values u v).log (round_faults (present_at k.cabin m.minute) (moment_of s q) round t.keeper.cabin) e
    one-adds first_ = round-adds o done s q b os first last k m t log w.standing new slate h.past over round failed low-here few-here is (two m.minute) broken more origin begins small e known g.well g.numbers g.follows first_

    pub known-after : Known u
    known-after = record {
      well = well-after o done s q b os first last k m t log w.standing new slate h.past over round failed low-here few-here is (two m.minute) broken more origin begins small e known g.well g.numbers g.follows;
      numbers = numbers-after o done s q b os first last k m t log w.standing new slate h.past over round failed low-here few-here is (two m.minute) broken more origin begins small e known g.well g.numbers g.follows;
      follows = follows-after o done s q b os first last k m t log w.standing new slate h.past over round failed low-here few-here is (two m.minute) broken more origin begins small e known g.well g.numbers g.follows;
    }

  pub record Added (xs : List Done) (tail : List Minute) (t : KeepingState) (w : RunLedger) : Type 0 where
    pub faults : AddsFaults o done s (told_values t v).log (told_values (told_by k (moment_of s q) xs t) v).log (faults_of k (moment_of s q) xs t) e
    pub ds_now : List Minute
    pub new_now : List HistoryMinute
    pub from_now : ℕ
    pub so : SoFar o done s q b os first last k sp v marks0 c0 brought (told_by k (moment_of s q) xs t) (carried_by k xs w) ds_now tail new_now from_now
    pub known_ : Known (told_by k (moment_of s q) xs t)
    pub once : IsOnce s q.at (told_values (told_by k (moment_of s q) xs t) v).log (length tail)

  pub all-adds : (xs : List Done) (tail : List Minute) (t : KeepingState) (w : RunLedger) (ds : List Minute) (new : List HistoryMinute) (from : ℕ) → SoFar o done s q b os first last k sp v marks0 c0 brought t w ds (map (λ (x : Done). x.minute) xs ++ tail) new from →
      AreRounds k (moment_of s q) xs t → HaveBroken k xs first last → Known t → IsOnce s q.at (told_values t v).log (length (map (λ (x : Done). x.minute) xs ++ tail)) → Added xs tail t w
  all-adds [] tail t w ds new from h rounds broken g once = record {
    faults = none-added o done s (told_values t v).log (told_values t v).log e refl;
    ds_now = ds;
    new_now = new;
    from_now = from;
    so = h;
    known_ = g;
    once = once;
  }
  all-adds (x ∷ xs) tail t w ds new from h rounds broken g once =
      let m = x.minute in
      let rest : List Minute = map (λ (y : Done). y.minute) xs ++ tail in
      let u : KeepingState = told_after (present_at k.cabin m.minute) m.minute (moment_of s q) x.round t in
      let one = one-on o done s q b os first last k sp v marks0 c0 brought few two m rest x.round false t w ds new from h rounds.0 broken.0 broken.1 in
      let adds = one-adds m rest x.round false t w ds new from h rounds.0 broken.0 broken.1 g (once-first s q.at (told_values t v).log (length rest) once) in
      let end = all-adds xs tail u (carried_after (present_at k.cabin m.minute) (decided_minute k m) x.round w) (ds ++ m ∷ []) (new ++ decided_minute k m ∷ []) (suc from) one rounds.1 broken.2
      (known-after m rest x.round false t w ds new from h rounds.0 broken.0 broken.1 g) (once-then s q.at (told_values t v).log (told_values u v).log (length rest) once) in
      record {
        faults = both-added o done s (told_values t v).log (told_values u v).log (told_values (told_by k (moment_of s q) xs u) v).log (round_faults (present_at k.cabin m.minute) (moment_of s q) x.round t.keeper.cabin) (faults_of k (moment_of s q) xs u) e adds end.faults;
        ds_now = end.ds_now;
        new_now = end.new_now;
        from_now = end.from_now;
        so = end.so;
        known_ = end.known_;
        once = end.once;
      }

-- ---- A KEEPING, as far as it came

-- nothing is told of the moment yet
abbrev pub IsUntoldAt : TraceSecond → Phase → RunLog → Cabin → List Minute → Type 0
IsUntoldAt s (In zero) _ _ all = ⊥
IsUntoldAt s (In (suc n)) log cabin all = IsUntold s n log cabin
IsUntoldAt s Keeping log _ all = (length all ≤ 1) × (is_torn_in log s.number Keeping CoDriver ≡ false)

untold-follows : (s : TraceSecond) (at : Phase) (log : RunLog) (cabin : Cabin) (all : List Minute) → IsUntoldAt s at log cabin all → Follows s at log cabin
untold-follows s (In zero) _ _ all h = absurd h
untold-follows s (In (suc n)) log _ all h = (λ slot torn. no-both (is_torn_in log s.number (In (suc n)) slot) torn (h.torn slot), h.found, h.bare)
untold-follows s Keeping _ _ all h = tt

untold-once : (s : TraceSecond) (at : Phase) (log : RunLog) (cabin : Cabin) (all : List Minute) → IsUntoldAt s at log cabin all → IsOnce s at log (length all)
untold-once s (In n) _ _ all h = tt
untold-once s Keeping _ _ all h = (h.0, λ more. h.1)

-- it came so far
abbrev pub HasCome : List Minute → KeepingAt → (t u : KeepingState) → Reach → Type 0
HasCome all at t u (Whole xs) = IsReach all at false t u (Whole xs)
HasCome all at t u (Short xs m round) = IsReach all at true t u (Short xs m round)

module _ (d e : Devices) (o : Origin) (origin : IsOrigin o) (done : List TraceSecond) (s : TraceSecond) (q : Point) (all : List Minute) (t u : KeepingState) (v : Values) (w : InRounds o done s q all t v d) (keeps : KeepsSo o done s q all t v d e w) (small : s.number < 2 ^ 32)
    (well : AllSitWell t.keeper.cabin) (untold : IsUntoldAt s q.at (told_values t v).log t.keeper.cabin all) (off : HaveBrokenOff t u d e) where
  abbrev os : Outset
  os = outset o done s q all t v d w

  begins : BeginsNow o done w.b.run w.b.span s
  begins = record { followed = w.began.followed; lit = w.lit; number = w.moment.number; given = w.moment.given }

  known : AreKnownBy (number_in o) t.keeper.cabin.cards
  known = sessions-known o.found (number_in o) t.keeper.cabin.cards w.found (λ card some. subst IsOwnValid (sym (origin.image card)) (w.written card some).valid) (λ card valid. origin.number card (subst IsOwnValid (origin.image card) valid))

  abbrev at_now : RunLog
  at_now = (told_values t v).log

  start-known : Known o done s q w.b os (breakdowns_of d) (breakdowns_of e) t.keeper w.sp v t.marks.items (course_in w.b done s q.at at_now) w.brought keeps.few keeps.two origin begins small e known t
  start-known = record { well = well; numbers = λ c. refl; follows = untold-follows s q.at at_now t.keeper.cabin all untold }

  added : (xs : List Done) (tail : List Minute) → all ≡ map (λ (x : Done). x.minute) xs ++ tail → AreRounds t.keeper (moment_of s q) xs t → HaveBroken t.keeper xs (breakdowns_of d) (breakdowns_of e) →
      Added o done s q w.b os (breakdowns_of d) (breakdowns_of e) t.keeper w.sp v t.marks.items (course_in w.b done s q.at at_now) w.brought keeps.few keeps.two origin begins small e known xs tail t (carried_at o done s q all t v d w)
  added xs tail split rounds broken =
      all-adds o done s q w.b os (breakdowns_of d) (breakdowns_of e) t.keeper w.sp v t.marks.items (course_in w.b done s q.at at_now) w.brought keeps.few keeps.two origin begins small e known xs tail t (carried_at o done s q all t v d w) w.ds w.new w.from
      (subst (λ (ms : List Minute). SoFar o done s q w.b os (breakdowns_of d) (breakdowns_of e) t.keeper w.sp v t.marks.items (course_in w.b done s q.at at_now) w.brought t (carried_at o done s q all t v d w) w.ds ms w.new w.from) split (begun-so o done s q all t v d w e keeps))
      rounds broken start-known (subst (λ (ms : List Minute). IsOnce s q.at at_now (length ms)) split (untold-once s q.at at_now t.keeper.cabin all untold))

  gone-to : (y : KeepingState) → u ≡ y → AreGone t.keeper.cabin.cards y.keeper.cabin.cards (breakdowns_of d) (breakdowns_of e)
  gone-to y is = subst (λ (x : KeepingState). AreGone t.keeper.cabin.cards x.keeper.cabin.cards (breakdowns_of d) (breakdowns_of e)) is (gone-cards t u d e off)

  at-end : (y : KeepingState) (vs : List UnitEvent) → u ≡ y → AddsFaults o done s at_now (told_values y v).log vs e → AddsFaults o done s at_now (told_values u v).log vs e
  at-end y vs is = subst (λ (x : KeepingState). AddsFaults o done s at_now (told_values x v).log vs e) (sym is)

  pub keeping-adds : (reach : Reach) → HasCome all (moment_of s q) t u reach → AddsFaults o done s at_now (told_values u v).log (faults_to t.keeper (moment_of s q) reach t) e
  keeping-adds (Whole xs) is =
      let end : KeepingState = told_by t.keeper (moment_of s q) xs t in
      at-end end (faults_of t.keeper (moment_of s q) xs t) is.2
      (added xs [] (is.0 ∙ sym (append-nil (map (λ (x : Done). x.minute) xs))) is.1 (cards-broken t.keeper (moment_of s q) xs t (breakdowns_of d) (breakdowns_of e) is.1 (gone-to end is.2))).faults
  keeping-adds (Short xs m None) is =
      let end : KeepingState = told_by t.keeper (moment_of s q) xs t in
      let vs : List UnitEvent = faults_of t.keeper (moment_of s q) xs t in
      at-end end (vs ++ []) is.2
      (both-added o done s at_now (told_values end v).log (told_values end v).log vs [] e
      (added xs (m ∷ is.0.0) is.0.1 is.1 (cards-broken t.keeper (moment_of s q) xs t (breakdowns_of d) (breakdowns_of e) is.1 (gone-to end is.2))).faults
      (none-added o done s (told_values end v).log (told_values end v).log e refl))
  keeping-adds (Short xs m (Some round)) is =
      let mid : KeepingState = told_by t.keeper (moment_of s q) xs t in
      let end : KeepingState = told_after (present_at t.keeper.cabin m.minute) m.minute (moment_of s q) round mid in
      let both = cards-broken_last t.keeper (moment_of s q) xs m round t (breakdowns_of d) (breakdowns_of e) is.1 is.2.0 (gone-to end is.2.1) in
      let a = added xs (m ∷ is.0.0) is.0.1 is.1 both.0 in
      at-end end (faults_of t.keeper (moment_of s q) xs t ++ round_faults (present_at t.keeper.cabin m.minute) (moment_of s q) round mid.keeper.cabin) is.2.1
      (both-added o done s at_now (told_values mid v).log (told_values end v).log (faults_of t.keeper (moment_of s q) xs t) (round_faults (present_at t.keeper.cabin m.minute) (moment_of s q) round mid.keeper.cabin) e a.faults
      (one-adds o done s q w.b os (breakdowns_of d) (breakdowns_of e) t.keeper w.sp v t.marks.items (course_in w.b done s q.at at_now) w.brought keeps.few keeps.two origin begins small e known m is.0.0 round true mid (carried_by t.keeper xs (carried_at o done s q all t v d w)) a.ds_now a.new_now a.from_now
      a.so is.2.0 both.1.0 both.1.1 a.known_ (once-first s q.at (told_values mid v).log (length is.0.0) a.once)))

  -- THE MOMENT that it has reached by then
  pub record MomentThen (y : KeepingState) : Type 0 where
    pub now : Device → ℕ
    pub moment : Moment w.b.run (went w.b.run.log done).before s q.at (told_values y v).log q.waits w.b.broken now
    pub rise : IsMore now (breakdowns_of e)

  -- how often each device has broken down by then
  rise-at : (y : KeepingState) (now : Device → ℕ) → u ≡ y → now Recorder ≤ breakdowns_of e Recorder → ((c : Card) → StandsOrFell t.keeper.cabin.cards y.keeper.cabin.cards (breakdowns_of d) (breakdowns_of e) now c) → IsMore now (breakdowns_of e)
  rise-at y now is rise fell = fell-more t.keeper.cabin.cards y.keeper.cabin.cards d e now rise fell (subst (λ (x : KeepingState). RestBy t.keeper.cabin.cards x.keeper.cabin.cards d e) is off.rests)

  moment-at : (y : KeepingState) → u ≡ y → MomentThen y → MomentThen u
  moment-at y is = subst MomentThen (sym is)

  pub keeping-moment : (reach : Reach) → HasCome all (moment_of s q) t u reach → MomentThen u
  keeping-moment (Whole xs) is =
      let a = (added xs [] (is.0 ∙ sym (append-nil (map (λ (x : Done). x.minute) xs))) is.1 (cards-broken t.keeper (moment_of s q) xs t (breakdowns_of d) (breakdowns_of e) is.1 (gone-to (told_by t.keeper (moment_of s q) xs t) is.2))).so.slate in
      moment-at (told_by t.keeper (moment_of s q) xs t) is.2 (record { now = a.now; moment = a.moment; rise = rise-at (told_by t.keeper (moment_of s q) xs t) a.now is.2 a.rise a.fell })
  keeping-moment (Short xs m None) is =
      let a = (added xs (m ∷ is.0.0) is.0.1 is.1 (cards-broken t.keeper (moment_of s q) xs t (breakdowns_of d) (breakdowns_of e) is.1 (gone-to (told_by t.keeper (moment_of s q) xs t) is.2))).so.slate in
      moment-at (told_by t.keeper (moment_of s q) xs t) is.2 (record { now = a.now; moment = a.moment; rise = rise-at (told_by t.keeper (moment_of s q) xs t) a.now is.2 a.rise a.fell })
  keeping-moment (Short xs m (Some round)) is =
      let mid : KeepingState = told_by t.keeper (moment_of s q) xs t in
      let end : KeepingState = told_after (present_at t.keeper.cabin m.minute) m.minute (moment_of s q) round mid in
      let both = cards-broken_last t.keeper (moment_of s q) xs m round t (breakdowns_of d) (breakdowns_of e) is.1 is.2.0 (gone-to end is.2.1) in
      let a = added xs (m ∷ is.0.0) is.0.1 is.1 both.0 in
      let one = (one-on o done s q w.b os (breakdowns_of d) (breakdowns_of e) t.keeper w.sp v t.marks.items (course_in w.b done s q.at at_now) w.brought keeps.few keeps.two m is.0.0 round true mid (carried_by t.keeper xs (carried_at o done s q all t v d w)) a.ds_now a.new_now a.from_now
      a.so is.2.0 both.1.0 both.1.1).slate in
      moment-at end is.2.1 (record { now = one.now; moment = one.moment; rise = rise-at end one.now is.2.1 one.rise one.fell })

  -- which the unit failed to pass
  rose-since : (before mid now : ℕ) → before ≤ mid → RoseBy 1 mid now → RoseBy 1 before now
  rose-since before mid now le = ⊎_elim (λ more. inl (omega (arith, le, more))) (λ all_. inr all_)

  left-at : (at : Phase) → IsMoment s at → (rest : List Action) × IsLeft s at rest
  left-at (In n) is = (drop n s.actions, (take n s.actions, sym (take-append-drop n s.actions), length-take-le n s.actions is))
  left-at Keeping is = ([], refl)

  -- THE CUT that is told next leaves the events so
  pub keeping-cuts : (reach : Reach) → HasCome all (moment_of s q) t u reach → (next : Stage) (es : List Event) → Adds o done s Acting at_now next (told_values u v).log es e → NotesSo true o es d e → RoseBy 1 (breakdowns_of d Recorder) (breakdowns_of e Recorder) → (next ≡ Ended → q.at ≡ Keeping) →
      EventedNow o done s w.b.run Acting at_now d → Evented o (done ++ s ∷ []) (and_break (told_values u v).log (cut_at s.number true (begun_by s q.at))) w.b.run.unfound (suc w.b.run.next) IsLost e
  keeping-cuts reach is next es adds notes rose ends evented =
      let m = keeping-moment reach is in
      let here = left-at q.at m.moment.is in
      failure-cuts d e o done w.b.run w.b.span s begins Acting next at_now (told_values u v).log es evented adds notes keeps.goes.left q.at q.waits w.b.broken m.now (breakdowns_of e) m.moment m.rise
      (rose-since (w.b.broken Recorder) (breakdowns_of d Recorder) (breakdowns_of e Recorder) w.moment.unit rose) here.0 here.1 ends

-- ---- what it notes
pub keeping-notes : (vs : List UnitEvent) (failed : Bool) (d e : Devices) → IsCoherent d.unit → IsUnit d.unit → AreFaults vs → NotesFaults failed vs d.unit e.unit → (o : Origin) → IsOrigin o → (es : List Event) → AreTold (number_in o) vs es → NamesValid o es → NotesSo failed o es d e
keeping-notes vs failed d e whole unit are faults o origin es told valid = notes-at vs failed d e (faults-noted vs failed d.unit e.unit d.card_a d.card_b e.card_a e.card_b whole unit are faults) o origin.long es told valid
