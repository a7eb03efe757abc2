-- A card is judged in its turn: what that brings is noted, or the unit fails in that, and the cut that is told ends it.
use Rattle.std.proofs.Common.{◌≡◌, ◌⊎◌, inl, inr, ⊎_elim, ◌∙◌, ℕ, ◌^◌, ◌<◌, Bool, true, false, cond, nat_lt, nat_eq, Option, Some, None, List, [], ◌∷◌, ◌++◌, take, drop, refl, ap, sym, subst}
use Rattle.std.specs.Prelude.{Result}
use Rattle.std.proofs.lemmas.List.{take-append-drop, length-take-le}
use Rattle.activity_codec.specs.declared.values.Slot.{Slot}
use Rattle.activity_codec.specs.declared.values.Slot.TheVariants.{Driver, CoDriver}
use Rattle.trace_model.specs.declared.Card.{Card}
use Rattle.trace_model.specs.declared.Card.TheVariants.{A, B}
use Rattle.trace_model.specs.Trace.{TraceSecond}
use Rattle.tach_media.specs.Medium.{State, HasBroken}
use Rattle.tacho_types.specs.declared.card_number.FullCardNumber.{FullCardNumber}
use Rattle.tacho_types.specs.declared.texts.Registration.{Registration}
use Rattle.tacho_types.specs.CardNumber.{card_number_bytes}
use Rattle.minute_rules.specs.Kept.{Kept}
use Rattle.tach_media.specs.card_layout.declared.files.Application.{Application}
use Rattle.device_calls.specs.card_image.Own.{IsOwnValid}
use Rattle.log_model.specs.Log.{RunLog, In}
use Rattle.device_calls.specs.device_rule.Rules.{Out}
use Rattle.log_model.specs.Slots.{Slots, in_slot}
use Rattle.log_model.specs.Course.{ToldSecond, Visit, Course, went}
use Rattle.device_calls.specs.event_model.declared.kinds.TheConstants.{CARD_FAULT, INSERTION_WHILE_DRIVING, SESSION_NOT_CLOSED}
use Rattle.device_calls.specs.event_model.Events.{Event, Crew, accepted_card, with_card, noted_with}
use Rattle.device_calls.specs.event_model.Events as events
use Rattle.run_minutes.specs.card_slots.declared.seats.Seat.{Seat}
use Rattle.run_minutes.specs.card_slots.Calls.{is_card}
use Rattle.device_calls.specs.safety_model.Recording.{card_image}
use Rattle.device_calls.specs.safety_model.Safe.{Devices, card_of, breakdowns_of}
use Rattle.run_acts.specs.run_crew.declared.cabin.Cabin.{Cabin}
use Rattle.run_acts.specs.run_crew.declared.cards.Cards.{Cards}
use Rattle.run_acts.specs.run_crew.Cards.{known_of, with_sizes, accepted_number}
use Rattle.run_acts.specs.run_crew.Cabin.{CabinIsSound, with_sizes_of, number_of_seat, crew_of}
use Rattle.run_acts.specs.run_events.Entries.{number_or_no_card, IsCrewOf}
use Rattle.run_minutes.specs.run_promise.Found.{Found, found_of}
use Rattle.run_minutes.specs.run_promise.Between.{RunLedger}
use Rattle.run_acts.specs.run_course.Reached.{Reaches}
use Rattle.run_acts.specs.run_course.Telling.{BrokeDown, IsLeft}
use Rattle.run_acts.proofs.run_course.Moment.{reaches-of}
use Rattle.run_minutes.specs.run_devices.Told.{arranged, with_standing}
use Rattle.run_outcome.specs.declared.outcome.Outcome.{Outcome}
use Rattle.run_minutes.specs.run_promise.Origin.{Origin, start_at}
use Rattle.run_minutes.specs.run_promise.Beside.{HaveLeftMore}
use Rattle.run_minutes.specs.declared.keeper.Keeper.{Keeper}
use Rattle.run_minutes.specs.declared.keeper.Moment.{Moment as KeepingAt}
use Rattle.run_insertion.specs.declared.lines.Entering.{Entering}
use Rattle.run_insertion.specs.Entering.{Ending, Unfit, Ahead, Fell, Unasked, Unnoted, Seated, Lost, Way, Unread, Unsized, Judged, ending_of, sizes_by, measured, falls_of}
use Rattle.run_insertion.specs.Entered.{IsFoundIn, IsWay}
use Rattle.run_insertion.specs.Noted.{notes_by}
use Rattle.run_insertion.specs.Told.{IsToldOf}
use Rattle.run_acts.specs.run_record.Recorded.{Values}
use Rattle.run_acts.specs.run_record.Within.{RecordInSecond, course_in, told_before}
use Rattle.run_acts.specs.run_note_record.Opened.{HasComeBefore}
use Rattle.run_acts.specs.run_note_record.Evented.{number_in}
use Rattle.run_acts.specs.run_note_record.EventsSoFar.{EventedNow, BeginsNow, stage_in}
use Rattle.run_acts.specs.Closings.{notes_within}
use Rattle.run_acts.specs.Entered.{values_with, MayJudge, HasGone, AreSound}
use Rattle.run_acts.specs.EventCrews.{AreKnownBy}
use Rattle.run_acts.specs.Evented.{EventsGoOn}
use Rattle.run_acts.specs.Named.{ValidHere, CrewValid, NamesValid}
use Rattle.run_acts.specs.NotedEvents.{AreTold, NotesSo, NotesEvents}
use Rattle.run_acts.specs.Recording.{IsOrigin, log_of}
use Rattle.run_acts.specs.Truths.{truths_within, marked}
use Rattle.run_acts.specs.Stays.{AllStay}
use Rattle.run_acts.proofs.EnteredFacts.{before, mine-back, now-is, card-began, known as known-behind, left, breakdowns, broke-once, unit-broke}
use Rattle.run_acts.proofs.EnteredTurned.{own-card}
use Rattle.run_acts.proofs.EnteredWhole.{found-in}
use Rattle.run_acts.proofs.EventCrews.{all-well, sitting-named, sessions-known}
use Rattle.run_acts.specs.ActsEvented.{IsFailing}
use Rattle.run_acts.proofs.Named.{both-valid, crew-valid, without-valid}
use Rattle.run_acts.proofs.Numbers.{notes-at}
use Rattle.recorder_with_cards.specs.EnteredEvents.{events_in}
use Rattle.recorder_with_cards.specs.EnteredTold.{moving_events, unclosed_events, events_by, IsLow}
use Rattle.recorder_with_cards.specs.Judged.{IsInTurn}
use Rattle.recorder_with_cards.proofs.CameFirst.{came-first}
use Rattle.recorder_with_cards.proofs.EnteredAdds.{IsOpened, AreFound, FallsMoving, log_with, added_by, ending-opened, ending-fails, judged-goes, judged-cut}
use Rattle.recorder_with_cards.proofs.EnteredNamed.{IsNumbered, ending-tells}
use Rattle.recorder_with_cards.proofs.EnteredUses.{way-found}

-- ---- what is known of a card's sizes changes no number

sized-number : (c x : Card) (sizes : Result Application ℕ) (cards : Cards) → accepted_number (known_of (with_sizes c sizes cards) x) ≡ accepted_number (known_of cards x)
sized-number A A sizes cards = refl
sized-number A B sizes cards = refl
sized-number B A sizes cards = refl
sized-number B B sizes cards = refl

sized-seat : (c : Card) (sizes : Result Application ℕ) (cards : Cards) (seat : Option Seat) → number_of_seat (with_sizes c sizes cards) seat ≡ number_of_seat cards seat
sized-seat c sizes cards None = refl
sized-seat c sizes cards (Some seat) = sized-number c seat.card sizes cards

sized-named : (number : Card → List ℕ) (crew : Crew) (c : Card) (sizes : Result Application ℕ) (cabin : Cabin) → IsCrewOf number crew (crew_of cabin) → IsCrewOf number crew (crew_of (with_sizes_of c sizes cabin))
sized-named number crew c sizes cabin h = record {
  driver = ap (λ (q : Option FullCardNumber). card_number_bytes (number_or_no_card q)) (sized-seat c sizes cabin.cards cabin.slots.seats.driver) ∙ h.driver;
  codriver = ap (λ (q : Option FullCardNumber). card_number_bytes (number_or_no_card q)) (sized-seat c sizes cabin.cards cabin.slots.seats.codriver) ∙ h.codriver;
}

-- a card that waits is none of the accepted ones
waits-bare : (slot : Slot) (slots : Slots) (card : Card) → in_slot slots slot ≡ Some (record { card = card; accepted = None }) → with_card slot None (events.crew_of slots) ≡ events.crew_of slots
waits-bare Driver slots card sits = ap (λ (q : Option Card). record { driver = q; codriver = accepted_card slots.codriver }) (sym (ap accepted_card sits))
waits-bare CoDriver slots card sits = ap (λ (q : Option Card). record { driver = accepted_card slots.driver; codriver = q }) (sym (ap accepted_card sits))

-- ---- events name valid cards alone

with-valid : (o : Origin) (slot : Slot) (card : Card) (crew : Crew) → ValidHere o card → CrewValid o crew → CrewValid o (with_card slot (Some card) crew)
with-valid o Driver card crew valid h = record { driver = valid; codriver = h.codriver }
with-valid o CoDriver card crew valid h = record { driver = h.driver; codriver = valid }

moving-valid : (o : Origin) (speed u : ℕ) (crew : Crew) → CrewValid o crew → NamesValid o (moving_events speed u crew)
moving-valid o speed u crew h = by (nat_lt 0 speed)
  where
    by : (b : Bool) → NamesValid o (cond b (noted_with INSERTION_WHILE_DRIVING u u crew ∷ []) [])
    by true = ((h, h), tt)
    by false = tt

unclosed-valid : (o : Origin) (session u : ℕ) (crew : Crew) → CrewValid o crew → NamesValid o (unclosed_events session u crew)
unclosed-valid o session u crew h = by (nat_eq session 0)
  where
    by : (b : Bool) → NamesValid o (cond b [] (noted_with SESSION_NOT_CLOSED session u crew ∷ []))
    by true = tt
    by false = ((h, h), tt)

-- of an accepted card a find told that it was valid at the start
events-valid : (o : Origin) (ending : Ending) (f : Found) (w : RunLedger) (e : Entering) (unit card : State) → IsToldOf ending f w e unit card → (IsOwnValid (found_of f e.which).image → ValidHere o e.which) → (crew : Crew) → CrewValid o crew → (speed u : ℕ) →
    NamesValid o (events_by ending speed u (with_card e.slot None crew) (with_card e.slot (Some e.which) crew) (with_card e.slot None crew))
events-valid o (Unfit fid place) f w e unit card told valid crew h speed u = let bare = without-valid o e.slot crew h in ((bare, bare), tt)
events-valid o (Ahead stored) f w e unit card told valid crew h speed u = let bare = without-valid o e.slot crew h in ((bare, bare), tt)
events-valid o Fell f w e unit card told valid crew h speed u = let bare = without-valid o e.slot crew h in ((bare, bare), tt)
events-valid o Unasked f w e unit card told valid crew h speed u = tt
events-valid o (Unnoted entered clock) f w e unit card told valid crew h speed u = tt
events-valid o (Seated entered clock entry) f w e unit card told valid crew h speed u =
    let own = with-valid o e.slot e.which crew (valid told.valid) h in
    let with_it : Crew = with_card e.slot (Some e.which) crew in
    both-valid o (moving_events speed u with_it) (unclosed_events entered.look.session u with_it) (moving-valid o speed u with_it own) (unclosed-valid o entered.look.session u with_it own)
events-valid o (Lost entered clock entry) f w e unit card told valid crew h speed u =
    let own = with-valid o e.slot e.which crew (valid told.valid) h in
    let bare = without-valid o e.slot crew h in
    let with_it : Crew = with_card e.slot (Some e.which) crew in
    both-valid o (moving_events speed u with_it) (noted_with CARD_FAULT u u (with_card e.slot None crew) ∷ unclosed_events entered.look.session u with_it) (moving-valid o speed u with_it own) ((bare, bare), unclosed-valid o entered.look.session u with_it own)

-- ---- by the way that it entered

-- where the unit goes on all that it brings is noted
noted-all : (way : Way) (registration : Registration) (e : Entering) (unit : Option (List ℕ)) (card after : State) → IsWay way registration e false unit card after → (speed u : ℕ) (beforehand accepted gone : Crew) →
    events_by (ending_of way) speed u beforehand accepted gone ≡ added_by (ending_of way) speed u beforehand accepted gone
noted-all Unread registration e unit card after is speed u beforehand accepted gone = refl
noted-all (Unsized field) registration e unit card after is speed u beforehand accepted gone = refl
noted-all (Judged app (Unfit fid place)) registration e unit card after is speed u beforehand accepted gone = refl
noted-all (Judged app (Ahead stored)) registration e unit card after is speed u beforehand accepted gone = refl
noted-all (Judged app Fell) registration e unit card after is speed u beforehand accepted gone = refl
noted-all (Judged app Unasked) registration e unit card after is speed u beforehand accepted gone = refl
noted-all (Judged app (Unnoted entered clock)) registration e unit card after is speed u beforehand accepted gone = absurd (let wrong : false ≡ true = is.0 in cc)
noted-all (Judged app (Seated entered clock entry)) registration e unit card after is speed u beforehand accepted gone = refl
noted-all (Judged app (Lost entered clock entry)) registration e unit card after is speed u beforehand accepted gone = refl

way-opened : (o : Origin) (told : List ToldSecond) (done : List TraceSecond) (s : TraceSecond) (card : Card) (d : Devices) (second : ℕ) (unit : Option (List ℕ)) (x : List ℕ) → (card_of d card).left_since (found_of o.found card).began x →
    (x ≡ card_image o.recording card) ⊎ HasComeBefore told (done ++ s ∷ []) card s.number → (way : Way) → IsFoundIn second unit way x → IsOpened (ending_of way) o told done s card d
way-opened o told done s card d second unit x left_ first Unread found = tt
way-opened o told done s card d second unit x left_ first (Unsized field) found = tt
way-opened o told done s card d second unit x left_ first (Judged app ending) found = ending-opened o told done s card d app x left_ first found.0 second unit ending found.1

-- its time fits its field
way-low : (way : Way) (registration : Registration) (e : Entering) (failed : Bool) (unit : Option (List ℕ)) (card after : State) → IsWay way registration e failed unit card after → IsLow (ending_of way)
way-low Unread registration e failed unit card after is = tt
way-low (Unsized field) registration e failed unit card after is = tt
way-low (Judged app (Unfit fid place)) registration e failed unit card after is = tt
way-low (Judged app (Ahead stored)) registration e failed unit card after is = is
way-low (Judged app Fell) registration e failed unit card after is = tt
way-low (Judged app Unasked) registration e failed unit card after is = tt
way-low (Judged app (Unnoted entered clock)) registration e failed unit card after is = tt
way-low (Judged app (Seated entered clock entry)) registration e failed unit card after is = is.1.low
way-low (Judged app (Lost entered clock entry)) registration e failed unit card after is = is.1.low

-- it fell, once it was accepted, where the vehicle moves
way-moves : (way : Way) (registration : Registration) (e : Entering) (failed : Bool) (unit : Option (List ℕ)) (card after : State) → IsWay way registration e failed unit card after → FallsMoving (ending_of way) e.speed
way-moves Unread registration e failed unit card after is = tt
way-moves (Unsized field) registration e failed unit card after is = tt
way-moves (Judged app (Unfit fid place)) registration e failed unit card after is = tt
way-moves (Judged app (Ahead stored)) registration e failed unit card after is = tt
way-moves (Judged app Fell) registration e failed unit card after is = tt
way-moves (Judged app Unasked) registration e failed unit card after is = tt
way-moves (Judged app (Unnoted entered clock)) registration e failed unit card after is = tt
way-moves (Judged app (Seated entered clock entry)) registration e failed unit card after is = tt
way-moves (Judged app (Lost entered clock entry)) registration e failed unit card after is = is.3

-- and an accepted one told its number
ending-numbered : (ending : Ending) (f : Found) (w : RunLedger) (e : Entering) (unit card : State) → IsToldOf ending f w e unit card → (number : List ℕ) → (IsOwnValid (found_of f e.which).image → (found_of f e.which).number ≡ number) → IsNumbered ending number
ending-numbered (Unfit fid place) f w e unit card told number same = tt
ending-numbered (Ahead stored) f w e unit card told number same = tt
ending-numbered Fell f w e unit card told number same = tt
ending-numbered Unasked f w e unit card told number same = tt
ending-numbered (Unnoted entered clock) f w e unit card told number same = tt
ending-numbered (Seated entered clock entry) f w e unit card told number same = told.named ∙ same told.valid
ending-numbered (Lost entered clock entry) f w e unit card told number same = told.named ∙ same told.valid

-- ---- IT IS JUDGED

module _ (o : Origin) (done : List TraceSecond) (s : TraceSecond) (n : ℕ) (waits fewer : List Visit) (e : Entering) (k : Keeper) (out : Outcome) (unfound next_ begun : ℕ) (minutes : Kept) (U X Z : State) (w : RecordInSecond o done s (In n) waits None [] (values_with k out unfound next_ begun minutes) (arranged e.which U X Z)) (m : MayJudge o done s n waits fewer e k out unfound next_ begun minutes U X Z w)
    (origin : IsOrigin o) (turn : IsInTurn w.b done s n (values_with k out unfound next_ begun minutes).log e.slot) (speed : s.speed ≡ e.speed) (small : s.number < 2 ^ 32) (low : ℕ) (stands : CabinIsSound low None k.cabin) where
  abbrev v : Values
  v = values_with k out unfound next_ begun minutes

  abbrev d : Devices
  d = arranged e.which U X Z

  abbrev c : Course
  c = course_in w.b done s (In n) v.log

  abbrev crew : Crew
  crew = events.crew_of c.slots

  abbrev bare : Crew
  bare = with_card e.slot None crew

  abbrev with_it : Crew
  with_it = with_card e.slot (Some e.which) crew

  begins : BeginsNow o done w.b.run w.b.span s
  begins = record { followed = w.began.followed; lit = w.lit; number = w.moment.number; given = w.moment.given }

  reaches : Reaches w.b.run s (In n) v.log
  reaches = reaches-of w.b.run (went w.b.run.log done).before s (In n) v.log waits w.b.broken (breakdowns_of d) w.moment

  known : AreKnownBy (number_in o) k.cabin.cards
  known = sessions-known o.found (number_in o) k.cabin.cards w.found
      (λ card has. subst IsOwnValid (sym (origin.image card)) (w.written card has).valid)
      (λ card valid. origin.number card (subst IsOwnValid (origin.image card) valid))

  named : IsCrewOf (number_in o) crew (crew_of k.cabin)
  named = sitting-named (start_at o) (told_before w.b done) (w.b.run.book.sure ++ w.new) c.left s.number w.from c.slots k.cabin (all-well low None k.cabin stands) w.tells (number_in o) known

  crew-good : CrewValid o crew
  crew-good = crew-valid o origin w.standing (told_before w.b done) c s.number w.from k.cabin w.present

  second : e.at.second ≡ s.number
  second = now-is o done s n waits fewer e k out unfound next_ begun minutes U X Z w m

  begun-is : e.at.begun ≡ n
  begun-is = ap (λ (a : KeepingAt). a.begun) m.moment

  early : e.at.late ≡ false
  early = ap (λ (a : KeepingAt). a.late) m.moment

  -- the actions behind it
  rest-left : IsLeft s (In n) (drop n s.actions)
  rest-left = (take n s.actions, sym (take-append-drop n s.actions), length-take-le n s.actions w.moment.is)

  module _ (failed : Bool) (k' : Keeper) (noted noted' : ℕ) (out' : Outcome) (W Y : State) (way : Way) (g : HasGone e failed k k' noted noted' out out' U W X Y Z way) (sound : AreSound U W X Y)
      (stay : AllStay o (marked v.marks (truths_within o w.b.run.log done s)) s.number v.log (notes_within w.b done s (In n) v.log) k.memory.registration k.cabin (arranged e.which U X Z)) where
    abbrev cabin : Cabin
    cabin = (measured way e k).cabin

    abbrev brings : List Event
    brings = events_by (ending_of way) s.speed s.number bare with_it bare

    told : IsToldOf (ending_of way) o.found (with_standing e.which Out (before o done s n waits fewer e k out unfound next_ begun minutes U X Z w m)) e U X
    told = (known-behind o done s n waits fewer e k out unfound next_ begun minutes U X Z w m failed k' noted noted' out' W Y way g sound).told

    is_low : IsLow (ending_of way)
    is_low = way-low way k.memory.registration e failed U.image X Y g.entered.is

    moves : n ≡ 0 → FallsMoving (ending_of way) s.speed
    moves is = subst (FallsMoving (ending_of way)) (sym speed) (way-moves way k.memory.registration e failed U.image X Y g.entered.is)

    numbered : IsNumbered (ending_of way) (number_in o e.which)
    numbered = ending-numbered (ending_of way) o.found (with_standing e.which Out (before o done s n waits fewer e k out unfound next_ begun minutes U X Z w m)) e U X told (number_in o e.which)
        (λ valid. origin.number e.which (subst IsOwnValid (origin.image e.which) valid))

    more : HaveLeftMore o (arranged e.which U X Z) (arranged e.which W Y Z)
    more = left o done s n waits fewer e k out unfound next_ begun minutes U X Z w m failed k' noted noted' out' W Y way g sound

    opened : IsOpened (ending_of way) o (went w.b.run.log done).told done s e.which (arranged e.which W Y Z)
    opened =
        let y = found-in o done s n waits fewer e k out unfound next_ begun minutes U X Z w m failed k' noted noted' out' W Y way g sound in
        let began = card-began o done s n waits fewer e k out unfound next_ begun minutes U X Z w m in
        way-opened o (went w.b.run.log done).told done s e.which (arranged e.which W Y Z) e.at.second U.image y.0
        (more.card e.which y.0 (mine-back e.which U X Z (λ (a : State). a.left_since (found_of o.found e.which).began y.0) (sound.card_before.counts_now (found_of o.found e.which).began y.0 began y.1)))
        (⊎_elim (λ whole. inl (whole y.0 y.1)) (λ come. inr come) (came-first o done s n waits fewer e k out unfound next_ begun minutes U X Z w m sound.card_before)) way y.2

    -- and where no call failed its session is the one that the notes before it have left
    found_so : AreFound (ending_of way) o w.b.run.log done s v.log e
    found_so =
        let y = found-in o done s n waits fewer e k out unfound next_ begun minutes U X Z w m failed k' noted noted' out' W Y way g sound in
        way-found o done s n waits fewer v d w e m.next_ m.none m.order m.moment origin k.memory.registration stay m.bare y.0 (mine-back e.which U X Z (λ (a : State). a.may_leave y.0) y.1) e.at.second U.image way y.2

    tells : AreTold (number_in o) (events_in (notes_by (ending_of way) e noted cabin)) brings
    tells = subst (λ (x : ℕ). AreTold (number_in o) (events_in (notes_by (ending_of way) e noted cabin)) (events_by (ending_of way) x s.number bare with_it bare)) (sym speed)
        (ending-tells (number_in o) s.number small e second noted cabin crew (sized-named (number_in o) crew e.which (sizes_by way) k.cabin named) (waits-bare e.slot c.slots e.which m.next_.sits_)
        (ap (λ (q : Option Seat). is_card q e.which) m.seat ∙ own-card e.which None) m.elsewhere (ending_of way) is_low numbered)

    names : NamesValid o brings
    names = events-valid o (ending_of way) o.found (with_standing e.which Out (before o done s n waits fewer e k out unfound next_ begun minutes U X Z w m)) e U X told (λ valid. subst IsOwnValid (origin.image e.which) valid) crew crew-good s.speed s.number

    -- the lines
    lines : log_of out' ≡ log_with (ending_of way) e v.log
    lines = ap log_of g.entered.left.outcome

    broke : falls_of (ending_of way) ≡ 1 → BrokeDown e.which (breakdowns_of (arranged e.which U X Z)) (breakdowns_of (arranged e.which W Y Z))
    broke is = broke-once o done s n waits fewer e k out unfound next_ begun minutes U X Z w m failed k' noted noted' out' W Y way g sound (subst (HasBroken X Y) is g.entered.broken)

    fails : failed ≡ true → IsFailing o done s w.b.run (In n) (log_with (ending_of way) e v.log) (breakdowns_of (arranged e.which W Y Z))
    fails bad = ending-fails (arranged e.which W Y Z) o done w.b.run w.b.span s begins n v.log reaches e second begun-is early m.next_.sits_ m.none m.next_.enters m.next_.stays_in turn.first turn.other_unfound turn.apart turn.starts
        w.b.broken (breakdowns_of (arranged e.which U X Z)) (breakdowns_of (arranged e.which W Y Z)) waits fewer w.moment m.next_.but m.next_.behind
        (unit-broke o done s n waits fewer e k out unfound next_ begun minutes U X Z w m failed k' noted noted' out' W Y way g sound bad) (drop n s.actions) rest-left (ending_of way)
        (breakdowns o done s n waits fewer e k out unfound next_ begun minutes U X Z w m failed k' noted noted' out' W Y way g sound) broke

    module _ (now : EventedNow o done s w.b.run (stage_in n) v.log (arranged e.which U X Z)) (notes : NotesEvents (events_in (notes_by (ending_of way) e noted cabin)) failed (arranged e.which U X Z) (arranged e.which W Y Z)) where
      by : (b : Bool) → failed ≡ b → NotesSo b o brings (arranged e.which U X Z) (arranged e.which W Y Z) → EventsGoOn b o done s w.b.run (In n) (stage_in n) (log_with (ending_of way) e v.log) (arranged e.which W Y Z)
      by false is so = judged-goes (arranged e.which W Y Z) o done w.b.run w.b.span s begins n v.log reaches e second begun-is early m.next_.sits_ m.none m.next_.enters m.next_.stays_in turn.first turn.other_unfound turn.apart turn.starts
          (arranged e.which U X Z) (ending_of way) opened found_so moves now so (noted-all way k.memory.registration e U.image X Y (subst (λ (b : Bool). IsWay way k.memory.registration e b U.image X Y) is g.entered.is) s.speed s.number bare with_it bare) more
      by true is so =
          let f = fails is in
          judged-cut (arranged e.which W Y Z) o done w.b.run w.b.span s begins n v.log reaches e second begun-is early m.next_.sits_ m.none m.next_.enters m.next_.stays_in turn.first turn.other_unfound turn.apart turn.starts
          (arranged e.which U X Z) (ending_of way) opened found_so moves now so more f.waits f.mid f.now (breakdowns_of (arranged e.which W Y Z)) f.moment f.more f.rose f.rest f.left

      -- ITS EVENTS ARE NOTED, or the cut ends them
      pub judged-evented : EventsGoOn failed o done s w.b.run (In n) (stage_in n) (log_of out') (arranged e.which W Y Z)
      judged-evented = subst (λ (l : RunLog). EventsGoOn failed o done s w.b.run (In n) (stage_in n) l (arranged e.which W Y Z)) (sym lines)
          (by failed refl (notes-at (events_in (notes_by (ending_of way) e noted cabin)) failed (arranged e.which U X Z) (arranged e.which W Y Z) notes o origin.long brings tells names))
