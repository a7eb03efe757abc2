-- A card falls in an action: what its tear adds to the events of the second, and how a call goes on that notes what its lines add.
use Rattle.std.proofs.Common.{◌≡◌, ◌∙◌, ℕ, suc, ◌^◌, ◌<◌, Bool, true, false, Option, Some, None, List, [], ◌∷◌, ◌++◌, is_some, length, map, refl, ap, sym, subst, arith, append_assoc, length-append}
use Rattle.activity_codec.specs.declared.values.Slot.{Slot}
use Rattle.trace_model.specs.declared.Card.{Card}
use Rattle.trace_model.specs.declared.Card.TheVariants.{A, B}
use Rattle.trace_model.specs.declared.Action.{Action}
use Rattle.trace_model.specs.Trace.{TraceSecond}
use Rattle.hand_model.specs.card_image.Own.{IsOwnValid}
use Rattle.log_model.specs.declared.lines.Break.{Break}
use Rattle.log_model.specs.Log.{RunLog, Phase, In, is_torn_in}
use Rattle.log_model.specs.Slots.{Sitting, in_slot, other_slot}
use Rattle.log_model.specs.Course.{Visit, Before, ToldSecond, Course, visits, card_in as card_of_sitting, went}
use Rattle.unit_notes.specs.event_model.declared.kinds.TheConstants.{CARD_FAULT}
use Rattle.unit_notes.specs.event_model.Events.{with_card}
use Rattle.unit_notes.specs.event_model.Events as events
use Rattle.unit_notes.specs.declared.unit_event.UnitEvent.{UnitEvent}
use Rattle.device_calls.specs.safety_model.Safe.{Devices, breakdowns_of}
use Rattle.run_crew.specs.card_slots.Calls.{seat_in, card_in}
use Rattle.run_crew.specs.declared.cabin.Cabin.{Cabin}
use Rattle.run_crew.specs.Cards.{session_of}
use Rattle.run_crew.specs.Cabin.{CabinIsSound, torn_out, with_session_of, crew_of}
use Rattle.run_events.specs.Entries.{IsCrewOf, entry_of}
use Rattle.run_events.specs.run_course.Moments.{and_break}
use Rattle.run_events.specs.run_course.Followed.{Progress}
use Rattle.run_events.specs.run_course.Reached.{moved_at, Reaches, IsTearAt}
use Rattle.run_events.specs.run_course.Telling.{IsOneOut, IsLeft}
use Rattle.run_events.proofs.run_course.Lines.{who-sits}
use Rattle.run_events.proofs.run_course.Moment.{reaches-of}
use Rattle.run_minutes.specs.Keeping.{Fell}
use Rattle.run_minutes.specs.run_promise.Origin.{Origin, start_at}
use Rattle.run_minutes.specs.run_promise.Beside.{HaveLeftMore}
use Rattle.run_record.specs.Recorded.{Values}
use Rattle.run_record.specs.Within.{RecordInSecond, course_in, told_before, IsLeaving}
use Rattle.run_record.proofs.Moved.{not-leaving}
use Rattle.run_record.proofs.Pulling.{sitting-now}
use Rattle.run_record.proofs.Seats.{card-seated, none-sits, seat-tells}
use Rattle.run_note_record.specs.Evented.{number_in}
use Rattle.run_note_record.specs.Noting.{Acting}
use Rattle.run_note_record.specs.Bringing.{NotFound}
use Rattle.run_note_record.specs.EventsSoFar.{EventedNow, Adds, BeginsNow, MayFollow, crew_at, fault_with, ACallNotes, AFailureCuts, ATearAdds}
use Rattle.run_acts.specs.Recording.{IsOrigin}
use Rattle.run_acts.specs.NotedEvents.{NotesEvents}
use Rattle.run_acts.specs.EventCrews.{AreKnownBy}
use Rattle.run_acts.specs.Evented.{EventsGoOn}
use Rattle.run_acts.specs.ActsEvented.{IsFailing}
use Rattle.run_acts.proofs.EventCrews.{all-well, torn-sits, torn-leaves, sessions-known, faults-told}
use Rattle.run_acts.proofs.Named.{crew-valid, without-valid}
use Rattle.run_acts.proofs.Numbers.{AreLong, notes-at}
use Rattle.run_acts.proofs.RoundFaults.{AddsFaults}

-- ---- a call

-- IT NOTES WHAT ITS LINES ADD, or has failed in that
pub call-evented : (d e : Devices) → ACallNotes d e → AFailureCuts d e → (o : Origin) → AreLong o → (done : List TraceSecond) (s : TraceSecond) (p : Progress) (span : List ToldSecond) → BeginsNow o done p span s → (at : Phase) (log later : RunLog) (vs : List UnitEvent) →
    EventedNow o done s p Acting log d → AddsFaults o done s log later vs e → HaveLeftMore o d e → (failed : Bool) → NotesEvents vs failed d e → (failed ≡ true → IsFailing o done s p at later (breakdowns_of e)) → EventsGoOn failed o done s p at Acting later e
call-evented d e notes cuts o long done s p span begins at log later vs now adds more false noted fails =
    notes o done s p Acting Acting log later adds.events now adds.adds (notes-at vs false d e noted o long adds.events adds.told adds.valid) more
call-evented d e notes cuts o long done s p span begins at log later vs now adds more true noted fails =
    let f = fails refl in
    cuts o done p span s begins Acting Acting log later adds.events now adds.adds (notes-at vs true d e noted o long adds.events adds.told adds.valid) more at f.waits f.mid f.now (breakdowns_of e) f.moment f.more f.rose f.rest f.left
    (λ ended. absurd (cc))

-- a session is taken away once
taken-twice : (card : Card) (second : ℕ) (cabin : Cabin) → torn_out card second (with_session_of card None cabin) ≡ torn_out card second cabin
taken-twice A second cabin = refl
taken-twice B second cabin = refl

-- ---- within a second

module _ (o : Origin) (origin : IsOrigin o) (done : List TraceSecond) (s : TraceSecond) (at : Phase) (v : Values) (d : Devices) (w : RecordInSecond o done s at [] None [] v d) where
  abbrev p : Progress
  p = w.b.run

  abbrev was : Before
  was = (went p.log done).before

  abbrev told0 : List ToldSecond
  told0 = told_before w.b done

  abbrev c : Course
  c = course_in w.b done s at v.log

  pub begins-now : BeginsNow o done w.b.run w.b.span s
  begins-now = record { followed = w.began.followed; lit = w.lit; number = w.moment.number; given = w.moment.given }

  pub reaches-now : Reaches w.b.run s at v.log
  reaches-now = reaches-of p was s at v.log [] w.b.broken (breakdowns_of d) w.moment

  pub known : AreKnownBy (number_in o) v.cabin.cards
  known = sessions-known o.found (number_in o) v.cabin.cards w.found
      (λ card has. subst IsOwnValid (sym (origin.image card)) (w.written card has).valid)
      (λ card valid. origin.number card (subst IsOwnValid (origin.image card) valid))

  -- the fault of a card that fell is told with the cards that are left, which are valid
  falls-so : (slot : Slot) (b : Break) (e : Devices) (cabin : Cabin) → s.number < 2 ^ 32 → IsCrewOf (number_in o) (with_card slot None (events.crew_of c.slots)) (crew_of cabin) →
      Adds o done s Acting v.log Acting (and_break v.log b) (fault_with s.number slot (crew_at p done s at v.log) ∷ []) e →
      AddsFaults o done s v.log (and_break v.log b) (entry_of CARD_FAULT s.number s.number (crew_of cabin) (crew_of cabin) ∷ []) e
  falls-so slot b e cabin small named adds =
      let ours = without-valid o slot (events.crew_of c.slots) (crew-valid o origin w.standing told0 c s.number w.from v.cabin w.present) in
      record {
        events = fault_with s.number slot (crew_at p done s at v.log) ∷ [];
        told = faults-told (number_in o) Fell s.number cabin (with_card slot None (events.crew_of c.slots)) small named;
        valid = ((ours, ours), tt);
        adds = adds;
      }

  -- A CARD FALLS that sits accepted in a slot
  module _ (slot : Slot) (card : Card) (seated : card_in (seat_in v.cabin.slots.seats slot) ≡ Some card) (some : is_some (session_of v.cabin.cards card) ≡ true) (low : ℕ) (stands : CabinIsSound low None v.cabin) where
    sitting : (u : ℕ) × (in_slot c.slots slot ≡ Some (record { card = card; accepted = Some u }))
    sitting = sitting-now o done s at v d w slot card seated low stands some

    pub seated-untorn : is_torn_in v.log s.number at slot ≡ false
    seated-untorn = who-sits v.log was s at slot (record { card = card; accepted = Some sitting.0 }) sitting.1

    pub seated-out : IsOneOut at slot card ((moved_at v.log was s at).leaving slot ++ visits at slot c.slots)
    seated-out = ap (λ (vs : List Visit). vs ++ visits at slot c.slots) (not-leaving v.log was s at slot (record { card = card; accepted = Some sitting.0 }) sitting.1)
        ∙ ap (λ (q : Option Sitting). map {B = Visit} (λ (y : Card). record { phase = at; slot = slot; card = y }) (card_of_sitting q)) sitting.1

    pub seated-falls : (e : Devices) → ATearAdds e → (b : Break) → IsTearAt s at slot true b → NotFound at (other_slot slot) v.log s.number → MayFollow at slot v.log s → s.number < 2 ^ 32 →
        AddsFaults o done s v.log (and_break v.log b) (entry_of CARD_FAULT s.number s.number (crew_of (torn_out card s.number v.cabin)) (crew_of (torn_out card s.number v.cabin)) ∷ []) e
    seated-falls e tears b here none follows small = falls-so slot b e (torn_out card s.number v.cabin) small
        (torn-sits (number_in o) (start_at o) told0 (p.book.sure ++ w.new) c.left s.number w.from c.slots v.cabin (all-well low None v.cabin stands) w.tells known slot card (card-seated card (seat_in v.cabin.slots.seats slot) seated) s.number)
        (tears o done p w.b.span s begins-now at v.log reaches-now slot card b here seated-untorn seated-out none follows)

  -- A CARD FALLS that is leaving its slot
  module _ (slot : Slot) (card : Card) (low high : ℕ) (leaving : IsLeaving v.log was s at low high v.cabin slot card) (stand : ℕ) (who : Option Card) (stands : CabinIsSound stand who v.cabin) where
    empty : in_slot c.slots slot ≡ None
    empty = none-sits (start_at o) (p.book.sure ++ w.new) w.from v.cabin.slots (seat_in v.cabin.slots.seats slot) (in_slot c.slots slot)
        (seat-tells (start_at o) told0 (p.book.sure ++ w.new) c.left s.number w.from c.slots v.cabin.slots w.tells slot) leaving.empty

    pub leaving-out : IsOneOut at slot card ((moved_at v.log was s at).leaving slot ++ visits at slot c.slots)
    leaving-out = ap (λ (vs : List Visit). vs ++ visits at slot c.slots) leaving.leaves
        ∙ ap (λ (q : Option Sitting). record { phase = at; slot = slot; card = card } ∷ map {B = Visit} (λ (y : Card). record { phase = at; slot = slot; card = y }) (card_of_sitting q)) empty

    pub leaving-falls : (e : Devices) → ATearAdds e → (b : Break) → IsTearAt s at slot true b → NotFound at (other_slot slot) v.log s.number → MayFollow at slot v.log s → s.number < 2 ^ 32 →
        AddsFaults o done s v.log (and_break v.log b) (entry_of CARD_FAULT s.number s.number (crew_of (torn_out card s.number (with_session_of card None v.cabin))) (crew_of (torn_out card s.number (with_session_of card None v.cabin))) ∷ []) e
    leaving-falls e tears b here none follows small = falls-so slot b e (torn_out card s.number (with_session_of card None v.cabin)) small
        (subst (λ (cabin : Cabin). IsCrewOf (number_in o) (with_card slot None (events.crew_of c.slots)) (crew_of cabin)) (sym (taken-twice card s.number v.cabin))
        (torn-leaves (number_in o) (start_at o) told0 (p.book.sure ++ w.new) c.left s.number w.from c.slots v.cabin (all-well stand who v.cabin stands) w.tells known slot card leaving.empty leaving.nowhere s.number))
        (tears o done p w.b.span s begins-now at v.log reaches-now slot card b here leaving.untorn leaving-out none follows)

-- ---- an action is reached

-- the actions behind this one are left
pub left-over : (front rest : List Action) (a : Action) (s : TraceSecond) (begun : ℕ) → begun ≡ suc (length front) → s.actions ≡ front ++ a ∷ rest → IsLeft s (In begun) rest
left-over front rest a s begun here are = (front ++ a ∷ [], are ∙ sym (append_assoc front (a ∷ []) rest), let long = length-append front (a ∷ []) in omega (arith, long, here))

-- nothing is told of it yet: of no card something was found, and none was torn out
pub none-yet : (o : Origin) (done : List TraceSecond) (s : TraceSecond) (n begun : ℕ) (v : Values) (d : Devices) → RecordInSecond o done s (In n) [] None [] v d → begun ≡ suc n → (slot : Slot) → NotFound (In begun) slot v.log s.number × MayFollow (In begun) slot v.log s
none-yet o done s n begun v d w is slot =
    subst (λ (k : ℕ). NotFound (In k) slot v.log s.number × MayFollow (In k) slot v.log s) (sym is) (
      w.moment.up_to.found (In (suc n)) slot (omega arith),
      λ torn. absurd (let no : false ≡ true = sym (w.moment.up_to.torn (In (suc n)) (other_slot slot) (omega arith)) ∙ torn in cc),
    )
