-- The interruption of power that ends now, on the cards: who is accepted as it is noted was accepted at the power-on; and who was, and is not, fell.
use Rattle.std.proofs.Common.{◌≡◌, ◌∙◌, ⊎_elim, ℕ, Bool, true, false, cond, not, ◌||◌, ◌&&◌, Option, Some, None, IfSome, is_some, List, [], ◌∷◌, ◌++◌, map, refl, ap, sym, subst, arith}
use Rattle.std.specs.Prelude.{filter, flat_map, option_map}
use Rattle.std.specs.List.{list_any}
use Rattle.activity_codec.specs.declared.values.Slot.{Slot}
use Rattle.activity_codec.specs.declared.values.Slot.TheVariants.{Driver, CoDriver}
use Rattle.trace_model.specs.declared.Card.{Card}
use Rattle.trace_model.specs.declared.Card.TheVariants.{A, B}
use Rattle.trace_model.specs.Trace.{TraceSecond}
use Rattle.device_calls.specs.event_model.Events.{Crew, Seen, Tearing, seen_by, seen_of, seen_spans, noted_with, accepted_card, accepted_at, first_card, standing, torn_at}
use Rattle.log_model.specs.declared.lines.Verdict.{Verdict}
use Rattle.log_model.specs.Log.{RunLog, In, is_torn_in, found_in, is_accepting}
use Rattle.log_model.specs.Slots.{Sitting, in_slot, same_card}
use Rattle.log_model.specs.Course.{Course, Visit, has_power, went}
use Rattle.device_calls.specs.note_model.Done.{course_powered, has_failed_in}
use Rattle.run_minutes.specs.card_slots.declared.seats.Seat.{Seat}
use Rattle.run_minutes.specs.card_slots.Calls.{seat_in, card_in, is_card as sits_card}
use Rattle.device_calls.specs.safety_model.Safe.{Devices, card_of}
use Rattle.run_acts.specs.run_crew.declared.cards.Cards.{Cards}
use Rattle.run_acts.specs.run_crew.declared.cards.Accepted.{Accepted}
use Rattle.run_acts.specs.run_crew.Cards.{session_of}
use Rattle.run_acts.specs.run_crew.Cabin.{CabinIsSound, SeatAnswers, AnswersTo}
use Rattle.run_acts.specs.run_course.Presence.{SitsAs, IsNewest}
use Rattle.device_calls.specs.history_model.Minutes.{HistoryMinute}
use Rattle.device_calls.specs.history_model.Presence.{Start}
use Rattle.run_minutes.specs.card_slots.Kept.{Kept}
use Rattle.run_acts.specs.run_course.Reached.{IsUpTo}
use Rattle.run_outcome.specs.declared.outcome.Outcome.{Outcome}
use Rattle.run_minutes.specs.run_promise.Origin.{Origin, start_at}
use Rattle.run_acts.specs.run_record.Within.{told_before, course_in}
use Rattle.run_acts.proofs.run_record.Pulling.{sitting-now}
use Rattle.run_acts.proofs.run_record.Seats.{seat-tells}
use Rattle.run_acts.specs.run_note_record.Evented.{images_in}
use Rattle.run_acts.specs.run_note_record.EventsSoFar.{AreBare, interruption}
use Rattle.run_acts.specs.run_note_record.Uses.{notes_now, uses_in}
use Rattle.run_acts.proofs.run_note_record.Brought.{found-now}
use Rattle.run_acts.proofs.run_note_record.Stood.{acceptance, stands-as, accepted-as, accepted-are}
use Rattle.run_acts.specs.declared.run.Run.{Run}
use Rattle.run_acts.specs.Recording.{log_of, values_of, RunWithin}
use Rattle.tacho_types.specs.declared.texts.Registration.{Registration}
use Rattle.device_calls.specs.card_image.Own.{IsOwnValid}
use Rattle.device_calls.specs.card_files.declared.card_event.CardEvent.{CardEvent}
use Rattle.device_calls.specs.event_model.declared.entries.Span.{Span}
use Rattle.device_calls.specs.event_model.declared.kinds.TheConstants.{POWER_INTERRUPTION}
use Rattle.device_calls.specs.safety_model.Recording.{card_image}
use Rattle.run_acts.specs.run_events.Seconds.{gap_before}
use Rattle.run_minutes.specs.run_promise.Beside.{HaveLeftMore}
use Rattle.run_acts.specs.CardNotes.{NotesOn, NotesOnCards, gap_on}
use Rattle.run_acts.specs.OnCards.{is_card, has_card, as_accepted, enters, falls, gap_entry, gaps_on}
use Rattle.run_acts.specs.RunCards.{vehicle_in, sizes_in, so_far, seen_behind, gap_behind, CardsIn, CardsWaking}
use Rattle.run_acts.proofs.CardCourse.{Finding, findings, sitting_at, powered-as}
use Rattle.run_acts.proofs.CardSecond.{is_now, standing-is}
use Rattle.run_acts.proofs.CardShown.{FindsStill, KeepsFailed}
use Rattle.run_acts.proofs.CardStays.{session-sizes}
use Rattle.run_acts.proofs.CardWaking.{follows-powered, found-same as found-still, sits-enters, gap-noted}
use Rattle.run_acts.proofs.RingedSecond.{power-here}
use Rattle.recorder_with_cards.proofs.GapEvented.{gap_events as gap_list}
use Rattle.recorder_with_cards.proofs.GapOnCard.{gap-noted-on}
use Rattle.recorder_with_cards.proofs.InsertedCards.{mine}
use Rattle.recorder_with_cards.proofs.WokenCards.{torn-sitting}

-- nothing was torn by it
abbrev plain : Tearing
plain = record { by_gap = λ u slot. false; driver_first = λ u n. true }

pub seated-card : (seat : Option Seat) (c : Card) → sits_card seat c ≡ true → card_in seat ≡ Some c
seated-card None c is = absurd (let wrong : false ≡ true = is in cc)
seated-card (Some seat) c is = ap (λ (k : Card). Some k) (by seat.card c is)
  where
    by : (x y : Card) → same_card x y ≡ true → x ≡ y
    by A A is = refl
    by A B is = absurd (let wrong : false ≡ true = is in cc)
    by B A is = absurd (let wrong : false ≡ true = is in cc)
    by B B is = refl

pub same-self : (c : Card) → same_card c c ≡ true
same-self A = refl
same-self B = refl

stood : (torn : Bool) (found : Option Card) (c : Card) → cond (torn && true) None found ≡ Some c → found ≡ Some c
stood true found c is = absurd (let wrong : None ≡ Some c = is in cc)
stood false found c is = is

-- who sits accepted has a session
sits-session : (start : Start) (past : List HistoryMinute) (from low : ℕ) (kept : Kept) (cards : Cards) (seat : Option Seat) (o : Option Sitting) (c : Card) → SitsAs start past from kept seat o → SeatAnswers low cards seat → is_card (accepted_card o) c ≡ true → session_of cards c ≡ None → ⊥
sits-session start past from low kept cards seat None c tells answers is none = absurd (let wrong : false ≡ true = is in cc)
sits-session start past from low kept cards None (Some q) c tells answers is none = tells
sits-session start past from low kept cards (Some seat) (Some q) c tells answers is none = by seat.newest q.accepted tells.1 answers is
  where
    same : (x y : Card) → same_card x y ≡ true → x ≡ y
    same A A is = refl
    same A B is = absurd (let wrong : false ≡ true = is in cc)
    same B A is = absurd (let wrong : false ≡ true = is in cc)
    same B B is = refl

    gone : (n : ℕ) (s : Option Accepted) → s ≡ None → AnswersTo low (Some n) s → ⊥
    gone n None is answers = answers
    gone n (Some a) is answers = absurd (let wrong : Some a ≡ None = is in cc)

    by : (newest accepted : Option ℕ) → IsNewest start past from kept seat.card newest accepted → AnswersTo low newest (session_of cards seat.card) → is_card (option_map {T = ℕ} {U = Card} (λ u. q.card) accepted) c ≡ true → ⊥
    by None None newest answers is = absurd (let wrong : false ≡ true = is in cc)
    by (Some n) None newest answers is = absurd (let wrong : false ≡ true = is in cc)
    by None (Some u) newest answers is = newest
    by (Some n) (Some u) newest answers is = gone n (session_of cards seat.card) (ap (session_of cards) (tells.0 ∙ same q.card c is) ∙ none) answers

module _ (o : Origin) (done : List TraceSecond) (s : TraceSecond) (run : Run) (out : Outcome) (d : Devices) (w : RunWithin o done s (In 0) [] [] run out d) (low : ℕ) (stands : CabinIsSound low None run.keeper.cabin)
    (off : (went w.within.b.run.log done).before.running ≡ false) (bare : AreBare (went w.within.b.run.log done).before.slots) where
  abbrev log : RunLog
  log = log_of out

  abbrev x : Seen
  x = seen_by (log_of out) (went w.within.b.run.log done).before s

  abbrev y : Seen
  y = seen_behind w.within.b.run.log done s [] (log_of out)

  power : has_power (went w.within.b.run.log done).before s ≡ true
  power = power-here o done s (In 0) [] None [] (values_of run out) d w.within

  up : IsUpTo (log_of out) s.number (In 0)
  up = w.within.moment.up_to

  part : (slot : Slot) → flat_map (λ (visit : Visit). map (λ (v : Verdict). (visit, v)) (cond (not (went w.within.b.run.log done).before.running) (found_in (log_of out) s.number (In 0) slot) [])) (sitting_at slot (in_slot (went w.within.b.run.log done).before.slots slot))
      ≡ findings (found_in (log_of out) s.number (In 0) slot) (sitting_at slot (in_slot (went w.within.b.run.log done).before.slots slot))
  part slot = ap (λ (r : Bool). flat_map (λ (visit : Visit). map (λ (v : Verdict). (visit, v)) (cond (not r) (found_in (log_of out) s.number (In 0) slot) [])) (sitting_at slot (in_slot (went w.within.b.run.log done).before.slots slot))) off

  found-same : (course_powered (log_of out) (went w.within.b.run.log done).before s).found ≡ (seen_by (log_of out) (went w.within.b.run.log done).before s).told.course.found
  found-same =
      (powered-as (log_of out) (went w.within.b.run.log done).before s off).found
      ∙ (λ i. sym (part Driver) i ++ sym (part CoDriver) i)
      ∙ sym (found-now (log_of out) (log_of out) (went w.within.b.run.log done).before s (In 0) power (omega arith) (record { up = up; up_later = up; torn = λ m slot behind. refl; found = λ m slot behind. refl }))

  accepted-same : (slot : Slot) → standing as_accepted (seen_behind w.within.b.run.log done s [] (log_of out)) slot ≡ accepted_at (seen_by (log_of out) (went w.within.b.run.log done).before s) (In 0) slot
  accepted-same slot = standing-is (seen_behind w.within.b.run.log done s [] (log_of out)) slot ∙ ap (λ (fs : List Finding). first_card (filter (is_now slot) fs)) found-same

  -- WHO HAS A SESSION was accepted at the power-on
  pub session-met : (c : Card) → is_some (session_of run.keeper.cabin.cards c) ≡ true
      → has_card (record { driver = standing as_accepted (seen_behind w.within.b.run.log done s [] (log_of out)) Driver; codriver = standing as_accepted (seen_behind w.within.b.run.log done s [] (log_of out)) CoDriver }) c ≡ true
  session-met c some = ⊎_elim (λ there. ⊎_elim (λ driver. first (at Driver driver)) (λ codriver. second (at CoDriver codriver)) there) (λ leaving. absurd (let wrong : None ≡ Some c = leaving in cc)) (stands.only c some)
    where
      at : (slot : Slot) → sits_card (seat_in run.keeper.cabin.slots.seats slot) c ≡ true → is_card (standing as_accepted (seen_behind w.within.b.run.log done s [] (log_of out)) slot) c ≡ true
      at slot seated =
          let sits = sitting-now o done s (In 0) (values_of run out) d w.within slot c (seated-card (seat_in run.keeper.cabin.slots.seats slot) c seated) low stands some in
          let found = stood (torn_at (seen_by (log_of out) (went w.within.b.run.log done).before s) (In 0) slot) (accepted_at (seen_by (log_of out) (went w.within.b.run.log done).before s) (In 0) slot) c
          (stands-as (log_of out) (went w.within.b.run.log done).before s power up off bare plain slot refl ∙ ap accepted_card sits.1) in
          ap (λ (q : Option Card). is_card q c) (accepted-same slot ∙ found) ∙ same-self c

      first : is_card (standing as_accepted (seen_behind w.within.b.run.log done s [] (log_of out)) Driver) c ≡ true
          → has_card (record { driver = standing as_accepted (seen_behind w.within.b.run.log done s [] (log_of out)) Driver; codriver = standing as_accepted (seen_behind w.within.b.run.log done s [] (log_of out)) CoDriver }) c ≡ true
      first is = ap (λ (b : Bool). b || is_card (standing as_accepted (seen_behind w.within.b.run.log done s [] (log_of out)) CoDriver) c) is

      or-last : (b c : Bool) → c ≡ true → (b || c) ≡ true
      or-last true c is = refl
      or-last false c is = is

      second : is_card (standing as_accepted (seen_behind w.within.b.run.log done s [] (log_of out)) CoDriver) c ≡ true
          → has_card (record { driver = standing as_accepted (seen_behind w.within.b.run.log done s [] (log_of out)) Driver; codriver = standing as_accepted (seen_behind w.within.b.run.log done s [] (log_of out)) CoDriver }) c ≡ true
      second is = or-last (is_card (standing as_accepted (seen_behind w.within.b.run.log done s [] (log_of out)) Driver) c) (is_card (standing as_accepted (seen_behind w.within.b.run.log done s [] (log_of out)) CoDriver) c) is

  -- WHO WAS ACCEPTED THEN, and has none, was torn out
  pub lost-torn : (c : Card) → session_of run.keeper.cabin.cards c ≡ None
      → has_card (record { driver = standing as_accepted (seen_behind w.within.b.run.log done s [] (log_of out)) Driver; codriver = standing as_accepted (seen_behind w.within.b.run.log done s [] (log_of out)) CoDriver }) c ≡ true
      → mine c (course_powered (log_of out) (went w.within.b.run.log done).before s).torn ≡ true
  lost-torn c none is = either (is_card (standing as_accepted (seen_behind w.within.b.run.log done s [] (log_of out)) Driver) c) refl
    where
      at : (slot : Slot) → is_card (standing as_accepted (seen_behind w.within.b.run.log done s [] (log_of out)) slot) c ≡ true → mine c (course_powered (log_of out) (went w.within.b.run.log done).before s).torn ≡ true
      at slot met = by (is_torn_in (log_of out) s.number (In 0) slot) refl
        where
          accepted : is_card (accepted_at (seen_by (log_of out) (went w.within.b.run.log done).before s) (In 0) slot) c ≡ true
          accepted = sym (ap (λ (q : Option Card). is_card q c) (accepted-same slot)) ∙ met

          answers : (sl : Slot) → SeatAnswers low run.keeper.cabin.cards (seat_in run.keeper.cabin.slots.seats sl)
          answers Driver = stands.driver
          answers CoDriver = stands.codriver

          sitter : (b : Bool) (q : Option Sitting) → is_card (acceptance b q) c ≡ true → (z : Sitting) × (q ≡ Some z) × (same_card z.card c ≡ true)
          sitter b None is = absurd (let wrong : false ≡ true = is in cc)
          sitter true (Some z) is = (z, refl, is)
          sitter false (Some z) is = absurd (let wrong : false ≡ true = is in cc)

          by : (b : Bool) → is_torn_in (log_of out) s.number (In 0) slot ≡ b → mine c (course_powered (log_of out) (went w.within.b.run.log done).before s).torn ≡ true
          by true torn =
              let are = accepted-are (log_of out) (went w.within.b.run.log done).before s power up off bare slot in
              let z = sitter (list_any is_accepting (cond (not (went w.within.b.run.log done).before.running) (found_in (log_of out) s.number (In 0) slot) [])) (in_slot (went w.within.b.run.log done).before.slots slot) (sym (ap (λ (q : Option Card). is_card q c) are) ∙ accepted) in
              torn-sitting (log_of out) (went w.within.b.run.log done).before s c slot z.0 off z.1 z.2 torn
          by false whole =
              let as_ = accepted-as (log_of out) (went w.within.b.run.log done).before s power up off bare slot whole in
              let course : Course = course_in w.within.b done s (In 0) (log_of out) in
              absurd (sits-session (start_at o) (w.within.b.run.book.sure ++ w.within.new) w.within.from low run.keeper.cabin.slots run.keeper.cabin.cards (seat_in run.keeper.cabin.slots.seats slot) (in_slot course.slots slot) c
              (seat-tells (start_at o) (told_before w.within.b done) (w.within.b.run.book.sure ++ w.within.new) course.left s.number w.within.from course.slots run.keeper.cabin.slots w.within.tells slot) (answers slot)
              (sym (ap (λ (q : Option Card). is_card q c) as_) ∙ accepted) none)

      either : (b : Bool) → is_card (standing as_accepted (seen_behind w.within.b.run.log done s [] (log_of out)) Driver) c ≡ b → mine c (course_powered (log_of out) (went w.within.b.run.log done).before s).torn ≡ true
      either true driver = at Driver driver
      either false driver = at CoDriver (sym (ap (λ (b : Bool). b || is_card (standing as_accepted (seen_behind w.within.b.run.log done s [] (log_of out)) CoDriver) c) driver) ∙ is)

  -- who was accepted entered
  met-enters : (c : Card) → has_card (record { driver = standing as_accepted (seen_behind w.within.b.run.log done s [] (log_of out)) Driver; codriver = standing as_accepted (seen_behind w.within.b.run.log done s [] (log_of out)) CoDriver }) c ≡ true
      → enters c (so_far (went w.within.b.run.log done).before s (course_powered (log_of out) (went w.within.b.run.log done).before s)) ≡ true
  met-enters c is = either (is_card (standing as_accepted (seen_behind w.within.b.run.log done s [] (log_of out)) Driver) c) refl
    where
      sitter : (b : Bool) (q : Option Sitting) → is_card (acceptance b q) c ≡ true → (z : Sitting) × (q ≡ Some z) × (same_card z.card c ≡ true)
      sitter b None is = absurd (let wrong : false ≡ true = is in cc)
      sitter true (Some z) is = (z, refl, is)
      sitter false (Some z) is = absurd (let wrong : false ≡ true = is in cc)

      at : (slot : Slot) → is_card (standing as_accepted (seen_behind w.within.b.run.log done s [] (log_of out)) slot) c ≡ true → enters c (so_far (went w.within.b.run.log done).before s (course_powered (log_of out) (went w.within.b.run.log done).before s)) ≡ true
      at slot met =
          let are = accepted-are (log_of out) (went w.within.b.run.log done).before s power up off bare slot in
          let z = sitter (list_any is_accepting (cond (not (went w.within.b.run.log done).before.running) (found_in (log_of out) s.number (In 0) slot) [])) (in_slot (went w.within.b.run.log done).before.slots slot)
          (sym (ap (λ (q : Option Card). is_card q c) are) ∙ sym (ap (λ (q : Option Card). is_card q c) (accepted-same slot)) ∙ met) in
          sits-enters (log_of out) (log_of out) (went w.within.b.run.log done).before s off (λ sl told. told) c slot z.0 z.1 z.2

      either : (b : Bool) → is_card (standing as_accepted (seen_behind w.within.b.run.log done s [] (log_of out)) Driver) c ≡ b → enters c (so_far (went w.within.b.run.log done).before s (course_powered (log_of out) (went w.within.b.run.log done).before s)) ≡ true
      either true driver = at Driver driver
      either false driver = at CoDriver (sym (ap (λ (b : Bool). b || is_card (standing as_accepted (seen_behind w.within.b.run.log done s [] (log_of out)) CoDriver) c) driver) ∙ is)

  sized : (c : Card) → IsOwnValid (card_image o.recording c) → (q : Option Accepted) → session_of run.keeper.cabin.cards c ≡ q → IfSome q (λ a. a.session.application ≡ sizes_in o c)
  sized c valid None is = tt
  sized c valid (Some a) is = session-sizes o done s (In 0) [] [] run out d w c valid a is

  -- THE INTERRUPTION IS NOTED on the cards
  module _ (later : RunLog) (same : (slot : Slot) → found_in later s.number (In 0) slot ≡ found_in (log_of out) s.number (In 0) slot) (torn : (slot : Slot) → is_torn_in (log_of out) s.number (In 0) slot ≡ true → is_torn_in later s.number (In 0) slot ≡ true) where
    abbrev z : Seen
    z = seen_behind w.within.b.run.log done s [] later

    abbrev crew : Crew
    crew = record { driver = standing as_accepted (seen_behind w.within.b.run.log done s [] later) Driver; codriver = standing as_accepted (seen_behind w.within.b.run.log done s [] later) CoDriver }

    stand : (slot : Slot) → standing as_accepted (seen_behind w.within.b.run.log done s [] later) slot ≡ standing as_accepted (seen_behind w.within.b.run.log done s [] (log_of out)) slot
    stand slot =
        standing-is (seen_behind w.within.b.run.log done s [] later) slot
        ∙ ap (λ (fs : List Finding). first_card (filter (is_now slot) fs)) (found-still (log_of out) later (went w.within.b.run.log done).before s off torn same)
        ∙ sym (standing-is (seen_behind w.within.b.run.log done s [] (log_of out)) slot)

    crew-same : (c : Card) → has_card crew c ≡ has_card (record { driver = standing as_accepted (seen_behind w.within.b.run.log done s [] (log_of out)) Driver; codriver = standing as_accepted (seen_behind w.within.b.run.log done s [] (log_of out)) CoDriver }) c
    crew-same c = λ i. is_card (stand Driver i) c || is_card (stand CoDriver i) c

    before-list : (spans : List (List Seen)) → gap_before as_accepted w.within.b.run.log spans (seen_behind w.within.b.run.log done s [] later) ≡ interruption w.within.b.run.log spans s.number crew
    before-list [] = refl
    before-list (span ∷ []) = refl
    before-list (span ∷ next ∷ spans) = before-list (next ∷ spans)

    of-list : (c : Card) (own : Registration) (gap : Option Span) → gaps_on c own (gap_list gap crew) ≡ cond (has_card crew c) (gap_on gap own) []
    of-list c own None = by (has_card crew c)
      where
        by : (b : Bool) → [] ≡ cond {A = List CardEvent} b [] []
        by true = refl
        by false = refl
    of-list c own (Some gap) = by (has_card crew c)
      where
        by : (b : Bool) → map (gap_entry c own) (cond b (noted_with POWER_INTERRUPTION gap.begin gap.end crew ∷ []) []) ≡ cond b (gap_on (Some gap) own) []
        by true = refl
        by false = refl

    pub gap-cards : (e : Devices) → HaveLeftMore o d e → KeepsFailed (log_of out) later → CardsWaking o done s w.within.b.run.log (log_of out) d → (failed : Bool) (after : Cards) (own : Registration) → own ≡ vehicle_in o → (gap : Option Span) →
        interruption w.within.b.run.log (seen_spans (seen_of w.within.b.run.log done)) s.number crew ≡ gap_list gap crew → (failed ≡ true → has_failed_in later s.number ≡ true) →
        ((c : Card) → is_some (session_of run.keeper.cabin.cards c) ≡ true → is_some (session_of after c) ≡ false → falls c (seen_behind w.within.b.run.log done s [] later) ≡ true) →
        NotesOnCards failed run.keeper.cabin.cards after (λ card. gap_on gap own) d e →
        ((c : Card) → FindsStill o c (log_of out) later d e (uses_in o c (notes_now w.within.b.run.log done (log_of out) s)) (uses_in o c (notes_now w.within.b.run.log done later s))) → CardsIn o done s w.within.b.run.log [] later e
    gap-cards e left keeps cards failed after own vehicle gap list fails fell notes finds =
        gap-noted o done s w.within.b.run.log (log_of out) later d e off torn keeps left cards same finds
        (λ c valid.
        let follows = follows-powered (log_of out) later (went w.within.b.run.log done).before s off torn c in
        let are : gaps_on c (vehicle_in o) (gap_behind w.within.b.run.log done s [] later) ≡ cond (has_card crew c) (gap_on gap (vehicle_in o)) [] =
        ap (λ (r : Bool). gaps_on c (vehicle_in o) (cond (not r) (gap_before as_accepted w.within.b.run.log (seen_spans (seen_of w.within.b.run.log done)) (seen_behind w.within.b.run.log done s [] later)) [])) off
        ∙ ap (gaps_on c (vehicle_in o)) (before-list (seen_spans (seen_of w.within.b.run.log done)) ∙ list) ∙ of-list c (vehicle_in o) gap in
        gap-noted-on (sizes_in o c) c (vehicle_in o) later (seen_behind w.within.b.run.log done s [] later) (gap_behind w.within.b.run.log done s [] later) gap failed (card_of d c) (card_of e c) (ap not off) (has_card crew c)
        (λ has. follows.entered (met-enters c (sym (crew-same c) ∙ has))) are fails (images_in o e c) (session_of run.keeper.cabin.cards c) (session_of after c)
        (λ some. crew-same c ∙ session-met c some) (λ none has. follows.torn (lost-torn c none (sym (crew-same c) ∙ has))) (fell c) (sized c valid (session_of run.keeper.cabin.cards c) refl)
        (subst (λ (r : Registration). NotesOn failed (session_of run.keeper.cabin.cards c) (session_of after c) (gap_on gap r) (card_of d c) (card_of e c)) vehicle (notes c)))
