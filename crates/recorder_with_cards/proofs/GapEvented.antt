-- The interruption that ends with a power-on, as events of the run: what it adds with the cards that fell in its note, and how the second goes on.
use Rattle.std.proofs.Common.{◌≡◌, ◌∙◌, ℕ, ◌+◌, ◌*◌, ◌/◌, ◌^◌, ◌<◌, Bool, true, false, cond, Option, Some, None, IfSome, is_some, List, [], ◌∷◌, ◌++◌, refl, ap, sym, subst, arith}
use Rattle.std.specs.Prelude.{◌==◌, option_map, option_to_list}
use Rattle.activity_codec.specs.declared.values.Slot.{Slot}
use Rattle.activity_codec.specs.declared.values.Slot.TheVariants.{Driver, CoDriver}
use Rattle.trace_model.specs.declared.Card.{Card}
use Rattle.trace_model.specs.declared.Card.TheVariants.{A, B}
use Rattle.trace_model.specs.Trace.{TraceSecond}
use Rattle.device_calls.specs.card_image.Own.{IsOwnValid}
use Rattle.log_model.specs.declared.lines.Break.{Break}
use Rattle.log_model.specs.declared.lines.Break.TheVariants.{Tear}
use Rattle.log_model.specs.Log.{RunLog, In}
use Rattle.log_model.specs.Slots.{Slots, Sitting, in_slot}
use Rattle.log_model.specs.Course.{Before, Course, ToldSecond, went}
use Rattle.device_calls.specs.event_model.declared.kinds.TheConstants.{POWER_INTERRUPTION, CARD_FAULT}
use Rattle.device_calls.specs.event_model.declared.entries.Span.{Span}
use Rattle.device_calls.specs.event_model.Spans.{gap_of}
use Rattle.device_calls.specs.event_model.Events.{Event, Crew, Seen, crew_of as sitting_crew, accepted_card, noted_with, with_card, seen_of, seen_spans}
use Rattle.run_acts.specs.unit_notes.declared.unit_event.UnitEvent.{UnitEvent}
use Rattle.device_calls.specs.safety_model.Safe.{Devices, breakdowns_of}
use Rattle.run_minutes.specs.card_slots.Calls.{Seats, seat_in, card_in, is_card}
use Rattle.run_acts.specs.run_crew.declared.cabin.Cabin.{Cabin}
use Rattle.run_acts.specs.run_crew.declared.cards.Cards.{Cards}
use Rattle.run_acts.specs.run_crew.Cards.{session_of, with_session}
use Rattle.run_acts.specs.run_crew.Cabin.{CabinIsSound, left_from, torn_out, crew_of}
use Rattle.run_acts.specs.run_events.Entries.{IsCrewOf}
use Rattle.run_acts.specs.run_course.Followed.{Progress}
use Rattle.run_acts.specs.run_course.Moments.{and_break}
use Rattle.run_acts.specs.run_course.Reached.{course_at, Reaches, IsTearAt}
use Rattle.run_acts.proofs.run_course.Lines.{who-sits, tear-seen}
use Rattle.run_acts.proofs.run_course.Moment.{reaches-of}
use Rattle.run_outcome.specs.Lines.{Listed}
use Rattle.run_outcome.specs.declared.outcome.Outcome.{Outcome}
use Rattle.run_minutes.specs.run_promise.Origin.{Origin, start_at}
use Rattle.run_minutes.specs.run_promise.Beside.{HaveLeftMore}
use Rattle.run_minutes.specs.Keeping.{Fell, tear_of}
use Rattle.run_minutes.proofs.Fates.{no-lines}
use Rattle.run_acts.specs.run_record.Within.{told_before}
use Rattle.run_acts.proofs.run_record.Pulling.{sitting-now}
use Rattle.run_acts.proofs.run_record.Seats.{card-seated}
use Rattle.run_acts.specs.run_note_record.Evented.{number_in}
use Rattle.run_acts.specs.run_note_record.Noting.{Waking, Acting}
use Rattle.run_acts.specs.run_note_record.EventsSoFar.{Adds, EventedNow, BeginsNow, AreBare, FallsAt, crew_at, fault_with, interruption}
use Rattle.run_acts.specs.run_note_record.Kept.{interruption_of}
use Rattle.run_acts.proofs.run_note_record.Adding.{call-notes}
use Rattle.run_acts.proofs.run_note_record.Cutting.{failure-cuts}
use Rattle.run_acts.proofs.run_note_record.EventsWaking.{interruption-adds}
use Rattle.run_acts.specs.declared.run.Run.{Run}
use Rattle.run_acts.specs.Acting.{IsNotedOn, IsNotedIn, now_moment}
use Rattle.run_acts.specs.Noting.{GapReach, NoGap, UnitFailed, DriverFell, BothSlots, AreGapEvents, fall_events, gap_event}
use Rattle.run_acts.specs.NotedEvents.{AreTold, NotesEvents}
use Rattle.run_acts.specs.EventCrews.{AreKnownBy}
use Rattle.run_acts.specs.Named.{CrewValid, NamesValid}
use Rattle.run_acts.specs.Recording.{IsOrigin, log_of, values_of, RunWithin}
use Rattle.run_acts.specs.Evented.{EventsGoOn}
use Rattle.run_acts.proofs.EventCrews.{all-well, sitting-named, sessions-known, faults-told}
use Rattle.run_acts.specs.ActsEvented.{IsFailing}
use Rattle.run_acts.proofs.Named.{crew-valid, without-valid, both-valid}
use Rattle.run_acts.proofs.Numbers.{notes-at}
use Rattle.run_acts.proofs.RoundFaults.{told-both}
use Rattle.recorder_with_cards.proofs.EnteredNamed.{gone-named}

-- ---- the list of an interruption

abbrev pub gap_events : Option Span → Crew → List Event
gap_events q crew = option_to_list (option_map {T = Span} {U = Event} (λ gap. noted_with POWER_INTERRUPTION gap.begin gap.end crew) q)

-- where a power span was before
pub gap-is : (kept : ℕ) (spans : List (List Seen)) (u : ℕ) (crew : Crew) → (spans ≡ [] → ⊥) → interruption_of kept spans u crew ≡ gap_events (gap_of kept u) crew
gap-is kept [] u crew some = absurd (some refl)
gap-is kept (span ∷ spans) u crew some = refl

-- its times fit their fields
abbrev pub IsSmallGap : Option Span → Type 0
IsSmallGap q = IfSome q (λ gap. (gap.begin < 2 ^ 32) × (gap.end < 2 ^ 32))

pub gap-small : (kept u : ℕ) → u < 2 ^ 32 → kept < u / 60 → IsSmallGap (gap_of kept u)
gap-small kept u low early = by (kept == 0)
  where
    begins : 60 * (kept + 1) < 2 ^ 32
    begins = omega (arith, low, early)

    by : (b : Bool) → IsSmallGap (cond {A = Option Span} b None (Some (record { begin = 60 * (kept + 1); end = u })))
    by true = tt
    by false = (begins, low)

gap-told : (number : Card → List ℕ) (gap : Span) (run : Run) (crew : Crew) → (gap.begin < 2 ^ 32) × (gap.end < 2 ^ 32) → IsCrewOf number crew (crew_of run.keeper.cabin) → AreTold number (gap_event gap run ∷ []) (gap_events (Some gap) crew)
gap-told number gap run crew low named = (
  record {
    is = record {
      kind = refl;
      purpose = refl;
      begin = refl;
      end = refl;
      driver_begin = named.driver;
      codriver_begin = named.codriver;
      driver_end = named.driver;
      codriver_end = named.codriver;
      average = refl;
    };
    there = (6, omega arith, refl);
    other = λ is. absurd (omega (arith, is));
    begin = low.0;
    end = low.1;
  },
  tt,
)

-- ---- sessions and seats behind a tear of the driver slot's card

session-was : (gone card : Card) (cards : Cards) → is_some (session_of (with_session gone None cards) card) ≡ true → is_some (session_of cards card) ≡ true
session-was A A cards some = absurd (let bad : false ≡ true = some in cc)
session-was A B cards some = some
session-was B A cards some = some
session-was B B cards some = absurd (let bad : false ≡ true = some in cc)

-- it leaves the driver slot alone
pub driver-gone : (card : Card) (second : ℕ) (cabin : Cabin) → is_card cabin.slots.seats.driver card ≡ true → torn_out card second cabin ≡ record { slots = left_from (Some Driver) second cabin.slots; cards = with_session card None cabin.cards }
driver-gone card second cabin there =
    ap (λ (q : Option Slot). record { slots = left_from q second cabin.slots; cards = with_session card None cabin.cards })
    (ap (λ (b : Bool). cond b (Some Driver) (cond (is_card cabin.slots.seats.codriver card) (Some CoDriver) None)) there)

-- a card that sits in the co-driver slot does not sit in the other one
beside-it : (seats : Seats) → ((c : Card) → is_card seats.driver c ≡ true → is_card seats.codriver c ≡ false) → (card : Card) → is_card seats.codriver card ≡ true → is_card seats.driver card ≡ false
beside-it seats apart card there = by (is_card seats.driver card) refl
  where
    by : (b : Bool) → is_card seats.driver card ≡ b → is_card seats.driver card ≡ false
    by false is = is
    by true is = absurd (let clash : true ≡ false = sym there ∙ apart card is in cc)

-- ---- what it adds

-- the events of these notes, which the lines up to a log add as the power-on is done
pub record GapAdds (o : Origin) (done : List TraceSecond) (s : TraceSecond) (log later : RunLog) (vs : List UnitEvent) (e : Devices) : Type 0 where
  pub events : List Event
  pub told : AreTold (number_in o) vs events
  pub valid : NamesValid o events
  pub adds : Adds o done s Waking log Acting later events e

module _ (o : Origin) (origin : IsOrigin o) (done : List TraceSecond) (s : TraceSecond) (run : Run) (out : Outcome) (d : Devices) (w : RunWithin o done s (In 0) [] [] run out d) (low : ℕ) (stands : CabinIsSound low None run.keeper.cabin) (small : s.number < 2 ^ 32) where
  abbrev p : Progress
  p = w.within.b.run

  abbrev was : Before
  was = (went p.log done).before

  abbrev log : RunLog
  log = log_of out

  abbrev c : Course
  c = course_at log was s (In 0)

  abbrev cabin : Cabin
  cabin = run.keeper.cabin

  abbrev crew : Crew
  crew = sitting_crew c.slots

  abbrev log_behind : Listed Break → RunLog
  log_behind told = log_of (record out { breaks = told })

  here : run.next ≡ s.number
  here = w.within.next ∙ sym w.within.moment.number

  reaches : Reaches p s (In 0) log
  reaches = reaches-of p was s (In 0) log [] w.within.b.broken (breakdowns_of d) w.within.moment

  known : AreKnownBy (number_in o) cabin.cards
  known = sessions-known o.found (number_in o) cabin.cards w.within.found (λ card has. subst IsOwnValid (sym (origin.image card)) (w.within.written card has).valid) (λ card valid. origin.number card (subst IsOwnValid (origin.image card) valid))

  named : IsCrewOf (number_in o) crew (crew_of cabin)
  named = sitting-named (start_at o) (told_before w.within.b done) (p.book.sure ++ w.within.new) c.left s.number w.within.from c.slots cabin (all-well low None cabin stands) w.within.tells (number_in o) known

  valid : CrewValid o crew
  valid = crew-valid o origin w.within.standing (told_before w.within.b done) c s.number w.within.from cabin w.within.present

  tear-at : (slot : Slot) → IsTearAt s (In 0) slot true (tear_of slot (now_moment run))
  tear-at slot = (0, false, (λ i. Tear (here i) slot true 0 false), refl, omega arith, λ late. absurd (let bad : false ≡ true = late in cc))

  -- who sits accepted
  sits-now : (slot : Slot) (card : Card) → card_in (seat_in cabin.slots.seats slot) ≡ Some card → is_some (session_of cabin.cards card) ≡ true → (u : ℕ) × (in_slot c.slots slot ≡ Some (record { card = card; accepted = Some u }))
  sits-now slot card seated some = sitting-now o done s (In 0) (values_of run out) d w.within slot card seated low stands some

  is-accepted : (slot : Slot) (card : Card) → card_in (seat_in cabin.slots.seats slot) ≡ Some card → is_some (session_of cabin.cards card) ≡ true → is_some (accepted_card (in_slot c.slots slot)) ≡ true
  is-accepted slot card seated some = ap (λ (q : Option Sitting). is_some (accepted_card q)) (sits-now slot card seated some).1

  -- a fault is told with these cards
  fault-so : (second : ℕ) → second ≡ s.number → (left : Run) (slot : Slot) (own : Crew) → IsCrewOf (number_in o) (with_card slot None own) (crew_of left.keeper.cabin) → AreTold (number_in o) (fall_events true second left) (noted_with CARD_FAULT s.number s.number (with_card slot None own) ∷ [])
  fault-so second is left slot own behind =
      subst (λ (u : ℕ). AreTold (number_in o) (fall_events true u left) (noted_with CARD_FAULT s.number s.number (with_card slot None own) ∷ [])) (sym is)
      (faults-told (number_in o) Fell s.number left.keeper.cabin (with_card slot None own) small behind)

  -- BEHIND THE NOTE ON THE DRIVER SLOT'S CARD
  record Behind (driver : Bool) (mid : Run) (told : Listed Break) : Type 0 where
    events : List Event
    falls : FallsAt driver done p s Driver log (log_behind told) events
    are_told : AreTold (number_in o) (fall_events driver run.next mid) events
    names : NamesValid o events
    left : Crew
    crew_is : sitting_crew (course_at (log_behind told) was s (In 0)).slots ≡ left
    left_named : IsCrewOf (number_in o) left (crew_of mid.keeper.cabin)
    left_valid : CrewValid o left
    sessions : (card : Card) → is_some (session_of mid.keeper.cabin.cards card) ≡ true → is_some (session_of cabin.cards card) ≡ true
    seat : mid.keeper.cabin.slots.seats.codriver ≡ cabin.slots.seats.codriver
    sits : (course_at (log_behind told) was s (In 0)).slots.codriver ≡ c.slots.codriver
    apart : (card : Card) → is_card mid.keeper.cabin.slots.seats.codriver card ≡ true → is_card mid.keeper.cabin.slots.seats.driver card ≡ false

  unfallen : (driver : Bool) (mid : Run) (told : Listed Break) → driver ≡ false → mid ≡ run → told ≡ out.breaks → Behind driver mid told
  unfallen driver mid told still same lines =
      subst (λ (b : Bool). Behind b mid told) (sym still)
      (subst (λ (r : Run). Behind false r told) (sym same)
      (subst (λ (l : Listed Break). Behind false run l) (sym lines)
      (record {
        events = [];
        falls = (refl, refl);
        are_told = tt;
        names = tt;
        left = crew;
        crew_is = refl;
        left_named = named;
        left_valid = valid;
        sessions = λ card some. some;
        seat = refl;
        sits = refl;
        apart = beside-it cabin.slots.seats w.within.tells.apart;
      })))

  fallen-driver : (card : Card) → card_in cabin.slots.seats.driver ≡ Some card → is_some (session_of cabin.cards card) ≡ true → (mid : Run) (told : Listed Break) → IsNotedOn card Driver (now_moment run) run mid out.breaks told true → Behind true mid told
  fallen-driver card seated some mid told noted =
      let b : Break = tear_of Driver (now_moment run) in
      let seat-is : is_card cabin.slots.seats.driver card ≡ true = card-seated card cabin.slots.seats.driver seated in
      let gone : Cabin = record { slots = left_from (Some Driver) run.next cabin.slots; cards = with_session card None cabin.cards } in
      let cabin_is : mid.keeper.cabin ≡ gone = ap (λ (r : Run). r.keeper.cabin) noted.run ∙ driver-gone card run.next cabin seat-is in
      let log_is : log_behind told ≡ and_break log b = ap log_behind noted.told in
      let seen = tear-seen log was s (In 0) Driver true b (tear-at Driver) reaches.up_to (who-sits log was s (In 0) Driver (record { card = card; accepted = Some (sits-now Driver card seated some).0 }) (sits-now Driver card seated some).1) in
      let slots_are : (course_at (log_behind told) was s (In 0)).slots ≡ record c.slots { driver = None } = ap (λ (l : RunLog). (course_at l was s (In 0)).slots) log_is ∙ seen.is.slots in
      let behind : IsCrewOf (number_in o) (with_card Driver None crew) (crew_of mid.keeper.cabin) =
      subst (λ (k : Cabin). IsCrewOf (number_in o) (with_card Driver None crew) (crew_of k)) (sym (ap (λ (r : Run). r.keeper.cabin) noted.run))
      (gone-named (number_in o) cabin crew named Driver card run.next seat-is (w.within.tells.apart card seat-is)) in
      record {
        events = fault_with s.number Driver (crew_at p done s (In 0) log) ∷ [];
        falls = (b, tear-at Driver, is-accepted Driver card seated some, log_is, refl);
        are_told = fault-so run.next here mid Driver crew behind;
        names = ((without-valid o Driver crew valid, without-valid o Driver crew valid), tt);
        left = with_card Driver None crew;
        crew_is = ap sitting_crew slots_are;
        left_named = behind;
        left_valid = without-valid o Driver crew valid;
        sessions = λ x has. session-was card x cabin.cards (subst (λ (k : Cabin). is_some (session_of k.cards x) ≡ true) cabin_is has);
        seat = ap (λ (k : Cabin). k.slots.seats.codriver) cabin_is;
        sits = ap (λ (x : Slots). x.codriver) slots_are;
        apart = λ x there. ap (λ (k : Cabin). is_card k.slots.seats.driver x) cabin_is;
      }

  first-note : (driver : Bool) (mid : Run) (told : Listed Break) → IsNotedIn (card_in cabin.slots.seats.driver) Driver (now_moment run) run mid out.breaks told driver → Behind driver mid told
  first-note driver mid told noted = by (card_in cabin.slots.seats.driver) refl driver noted
    where
      by : (who : Option Card) → card_in cabin.slots.seats.driver ≡ who → (fell : Bool) → IsNotedIn who Driver (now_moment run) run mid out.breaks told fell → Behind fell mid told
      by None is fell h = unfallen fell mid told h.2 h.0 h.1
      by (Some card) is false h = unfallen false mid told refl h.0.run (h.0.told ∙ sym (no-lines out.breaks))
      by (Some card) is true h = fallen-driver card is (h.1 refl) mid told h.0

  -- AND BEHIND THAT ON THE CO-DRIVER SLOT'S
  record BehindBoth (driver codriver : Bool) (mid new : Run) (told after : Listed Break) (first : Behind driver mid told) : Type 0 where
    events : List Event
    falls : FallsAt codriver done p s CoDriver (log_behind told) (log_behind after) events
    are_told : AreTold (number_in o) (fall_events codriver run.next new) events
    names : NamesValid o events

  second-still : (driver codriver : Bool) (mid new : Run) (told after : Listed Break) (first : Behind driver mid told) → codriver ≡ false → after ≡ told → BehindBoth driver codriver mid new told after first
  second-still driver codriver mid new told after first still lines =
      subst (λ (b : Bool). BehindBoth driver b mid new told after first) (sym still) (record { events = []; falls = (ap log_behind lines, refl); are_told = tt; names = tt })

  second-note : (driver codriver : Bool) (mid new : Run) (told after : Listed Break) (first : Behind driver mid told) → IsNotedIn (card_in mid.keeper.cabin.slots.seats.codriver) CoDriver (now_moment run) mid new told after codriver → BehindBoth driver codriver mid new told after first
  second-note driver codriver mid new told after first noted = by (card_in mid.keeper.cabin.slots.seats.codriver) refl codriver noted
    where
      by : (who : Option Card) → card_in mid.keeper.cabin.slots.seats.codriver ≡ who → (fell : Bool) → IsNotedIn who CoDriver (now_moment run) mid new told after fell → BehindBoth driver fell mid new told after first
      by None is fell h = second-still driver fell mid new told after first h.2 h.1
      by (Some card) is false h = second-still driver false mid new told after first refl (h.0.told ∙ sym (no-lines told))
      by (Some card) is true h =
          let b : Break = tear_of CoDriver (now_moment run) in
          let later : Course = course_at (log_behind told) was s (In 0) in
          let own : Crew = sitting_crew later.slots in
          let seat-is : is_card mid.keeper.cabin.slots.seats.codriver card ≡ true = card-seated card mid.keeper.cabin.slots.seats.codriver is in
          let seated : card_in cabin.slots.seats.codriver ≡ Some card = sym (ap card_in first.seat) ∙ is in
          let accepted : is_some (accepted_card later.slots.codriver) ≡ true = ap (λ (q : Option Sitting). is_some (accepted_card q)) first.sits ∙ is-accepted CoDriver card seated (first.sessions card (h.1 refl)) in
          let base : IsCrewOf (number_in o) own (crew_of mid.keeper.cabin) = subst (λ (k : Crew). IsCrewOf (number_in o) k (crew_of mid.keeper.cabin)) (sym first.crew_is) first.left_named in
          let ours : CrewValid o own = subst (CrewValid o) (sym first.crew_is) first.left_valid in
          let behind : IsCrewOf (number_in o) (with_card CoDriver None own) (crew_of new.keeper.cabin) =
          subst (λ (r : Run). IsCrewOf (number_in o) (with_card CoDriver None own) (crew_of r.keeper.cabin)) (sym h.0.run)
          (gone-named (number_in o) mid.keeper.cabin own base CoDriver card run.next seat-is (first.apart card seat-is)) in
          record {
            events = fault_with s.number CoDriver (crew_at p done s (In 0) (log_behind told)) ∷ [];
            falls = (b, tear-at CoDriver, accepted, ap log_behind h.0.told, refl);
            are_told = fault-so run.next here new CoDriver own behind;
            names = ((without-valid o CoDriver own ours, without-valid o CoDriver own ours), tt);
          }

  -- THE POWER-ON IS DONE
  module _ (empty : w.within.b.span ≡ []) (bare : AreBare was.slots) (q : Option Span) (low_gap : IsSmallGap q) (list : interruption log (seen_spans (seen_of p.log done)) s.number crew ≡ gap_events q crew) (e : Devices) where
    abbrev begins : List ToldSecond → Type 0
    begins span = BeginsNow o done p span s

    begins-now : BeginsNow o done p [] s
    begins-now = subst begins empty (record { followed = w.within.began.followed; lit = w.within.lit; number = w.within.moment.number; given = w.within.moment.given })

    gap-valid : (x : Option Span) → NamesValid o (gap_events x crew)
    gap-valid None = tt
    gap-valid (Some gap) = ((valid, valid), tt)

    both-added : (driver codriver : Bool) (mid new : Run) (told after : Listed Break) (first : Behind driver mid told) (second : BehindBoth driver codriver mid new told after first) (vs : List UnitEvent) → AreTold (number_in o) vs (gap_events q crew) →
        GapAdds o done s log (log_behind after) (vs ++ (fall_events driver run.next mid ++ fall_events codriver run.next new)) e
    both-added driver codriver mid new told after first second vs are_told = record {
      events = gap_events q crew ++ (first.events ++ second.events);
      told = told-both (number_in o) vs (fall_events driver run.next mid ++ fall_events codriver run.next new) (gap_events q crew) (first.events ++ second.events) are_told
          (told-both (number_in o) (fall_events driver run.next mid) (fall_events codriver run.next new) first.events second.events first.are_told second.are_told);
      valid = both-valid o (gap_events q crew) (first.events ++ second.events) (gap-valid q) (both-valid o first.events second.events first.names second.names);
      adds = subst (λ (es : List Event). Adds o done s Waking log Acting (log_behind after) (es ++ (first.events ++ second.events)) e) list
          (interruption-adds e o done p s begins-now log (log_behind told) (log_behind after) reaches bare driver codriver first.events second.events first.falls second.falls);
    }

    -- where nothing more is told
    gap-alone : (vs : List UnitEvent) → AreTold (number_in o) vs (gap_events q crew) → (after : Listed Break) → after ≡ out.breaks → GapAdds o done s log (log_behind after) (vs ++ []) e
    gap-alone vs are_told after lines =
        let first : Behind false run out.breaks = unfallen false run out.breaks refl refl refl in
        both-added false false run run out.breaks after first (second-still false false run run out.breaks after first refl lines) vs are_told

  pub gap-adds : (empty : w.within.b.span ≡ []) (bare : AreBare was.slots) (q : Option Span) (low_gap : IsSmallGap q) (list : interruption log (seen_spans (seen_of p.log done)) s.number crew ≡ gap_events q crew) (e : Devices) →
      (failed : Bool) (new : Run) (after : Listed Break) (reach : GapReach) (vs : List UnitEvent) → AreGapEvents q (now_moment run) failed run new out.breaks after reach vs → GapAdds o done s log (log_behind after) vs e
  gap-adds empty bare None low_gap list e failed new after NoGap vs h = subst (λ (us : List UnitEvent). GapAdds o done s log (log_behind after) us e) (sym h.1) (gap-alone empty bare None low_gap list e [] tt after h.0.2)
  gap-adds empty bare None low_gap list e failed new after UnitFailed vs h = absurd h.0
  gap-adds empty bare None low_gap list e failed new after DriverFell vs h = absurd h.0
  gap-adds empty bare None low_gap list e failed new after (BothSlots driver codriver) vs h = absurd h.0
  gap-adds empty bare (Some gap) low_gap list e failed new after NoGap vs h = absurd h
  gap-adds empty bare (Some gap) low_gap list e failed new after UnitFailed vs h =
      subst (λ (us : List UnitEvent). GapAdds o done s log (log_behind after) us e) (sym h.1)
      (gap-alone empty bare (Some gap) low_gap list e (gap_event gap run ∷ []) (gap-told (number_in o) gap run crew low_gap named) after h.0.2)
  gap-adds empty bare (Some gap) low_gap list e failed new after DriverFell vs h =
      let first : Behind true new after = first-note true new after h.0.1 in
      subst (λ (us : List UnitEvent). GapAdds o done s log (log_behind after) us e) (sym h.1)
      (both-added empty bare (Some gap) low_gap list e true false new new after after first (second-still true false new new after after first refl refl) (gap_event gap run ∷ []) (gap-told (number_in o) gap run crew low_gap named))
  gap-adds empty bare (Some gap) low_gap list e failed new after (BothSlots driver codriver) vs h =
      let first : Behind driver h.0.between h.0.told = first-note driver h.0.between h.0.told h.0.first in
      subst (λ (us : List UnitEvent). GapAdds o done s log (log_behind after) us e) (sym h.2)
      (both-added empty bare (Some gap) low_gap list e driver codriver h.0.between new h.0.told after first (second-note driver codriver h.0.between new h.0.told after first h.0.second) (gap_event gap run ∷ []) (gap-told (number_in o) gap run crew low_gap named))

  -- IT IS NOTED, or the unit has failed in that
  pub gap-evented : (empty : w.within.b.span ≡ []) (bare : AreBare was.slots) (q : Option Span) (low_gap : IsSmallGap q) (list : interruption log (seen_spans (seen_of p.log done)) s.number crew ≡ gap_events q crew) (e : Devices) →
      (failed : Bool) (new : Run) (after : Listed Break) (reach : GapReach) (vs : List UnitEvent) → AreGapEvents q (now_moment run) failed run new out.breaks after reach vs → NotesEvents vs failed d e → HaveLeftMore o d e →
      (failed ≡ true → IsFailing o done s p (In 0) (log_behind after) (breakdowns_of e)) → EventedNow o done s p Waking log d → EventsGoOn failed o done s p (In 0) Acting (log_behind after) e
  gap-evented empty bare q low_gap list e failed new after reach vs are notes left fails now =
      by failed notes fails
    where
      g : GapAdds o done s log (log_behind after) vs e
      g = gap-adds empty bare q low_gap list e failed new after reach vs are

      by : (b : Bool) → NotesEvents vs b d e → (b ≡ true → IsFailing o done s p (In 0) (log_behind after) (breakdowns_of e)) → EventsGoOn b o done s p (In 0) Acting (log_behind after) e
      by false notes fails = call-notes d e o done s p Waking Acting log (log_behind after) g.events now g.adds (notes-at vs false d e notes o origin.long g.events g.told g.valid) left
      by true notes fails =
          let f = fails refl in
          failure-cuts d e o done p w.within.b.span s (record { followed = w.within.began.followed; lit = w.within.lit; number = w.within.moment.number; given = w.within.moment.given }) Waking Acting log (log_behind after) g.events now g.adds
          (notes-at vs true d e notes o origin.long g.events g.told g.valid) left (In 0) f.waits f.mid f.now (breakdowns_of e) f.moment f.more f.rose f.rest f.left (λ ended. absurd (cc))

  -- NOTHING IS NOTED where no power span was before
  pub none-evented : (empty : w.within.b.span ≡ []) (bare : AreBare was.slots) → interruption log (seen_spans (seen_of p.log done)) s.number crew ≡ [] → NotesEvents [] false d d → EventedNow o done s p Waking log d → EventedNow o done s p Acting log d
  none-evented empty bare none notes now =
      gap-evented empty bare None tt none d false run out.breaks NoGap [] ((refl, refl, refl), refl) notes (record { unit = λ x h. h; card = λ card x h. h }) (λ bad. absurd (let wrong : false ≡ true = bad in cc)) now
