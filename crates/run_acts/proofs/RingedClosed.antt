-- A card is withdrawn: what the minutes that this settles, and the closing of its session, make of the rings.
use Rattle.std.proofs.Common.{◌≡◌, ◌∙◌, ◌⊎◌, ℕ, suc, ◌-◌, ◌^◌, ◌<◌, ◌≤◌, Bool, true, false, Option, Some, None, IfSome, is_some, option_map, List, [], ◌∷◌, ◌++◌, All, length, refl, ap, sym, subst, append_assoc, append-nil}
use Rattle.activity_codec.specs.declared.values.Slot.{Slot}
use Rattle.trace_model.specs.declared.Action.{Action}
use Rattle.trace_model.specs.declared.Action.TheVariants.{Withdraw}
use Rattle.trace_model.specs.declared.Card.{Card}
use Rattle.trace_model.specs.declared.Card.TheVariants.{A, B}
use Rattle.trace_model.specs.Trace.{TraceSecond}
use Rattle.unit_model.specs.minute_model.declared.Minute.{Minute}
use Rattle.unit_model.specs.minute_model.Span.{settled, travelled_of}
use Rattle.minute_rules.specs.Kept.{CountsSpan}
use Rattle.run_events.specs.message_model.Records.{insertion_ring}
use Rattle.device_calls.specs.unit_rule.Odometer.{odometer_by}
use Rattle.log_model.specs.declared.lines.Break.{Break}
use Rattle.log_model.specs.Log.{RunLog, In, is_torn_in}
use Rattle.log_model.specs.Slots.{refusal}
use Rattle.log_model.specs.Course.{ToldSecond}
use Rattle.unit_notes.specs.note_model.Odometer.{SpanFrom}
use Rattle.device_calls.specs.safety_model.Safe.{Devices}
use Rattle.run_crew.specs.card_slots.Calls.{seat_in, card_in, logged}
use Rattle.run_crew.specs.declared.cabin.Cabin.{Cabin}
use Rattle.run_crew.specs.declared.cards.Accepted.{Accepted}
use Rattle.run_crew.specs.declared.cards.Cards.{Cards}
use Rattle.run_crew.specs.Cards.{session_of, with_session}
use Rattle.run_crew.specs.Cabin.{CabinIsSound}
use Rattle.run_crew.proofs.Sessions.{session_set}
use Rattle.run_outcome.specs.Lines.{Listed}
use Rattle.run_outcome.specs.declared.outcome.Outcome.{Outcome}
use Rattle.run_minutes.specs.declared.keeper.Moment.{Moment}
use Rattle.run_minutes.specs.Keeping.{GoesOnFrom, SessionsGoOn, tear_of}
use Rattle.run_minutes.specs.Minutes.{AreKept}
use Rattle.run_minutes.proofs.Seats.{sessions-then}
use Rattle.run_minutes.specs.run_promise.Origin.{Origin}
use Rattle.run_minutes.specs.run_promise.Beside.{HaveLeftMore}
use Rattle.run_events.specs.run_rings.Spans.{with_second}
use Rattle.run_note_record.specs.OnCards.{has_call_failed_in, CardsGo, CardsStay}
use Rattle.run_note_record.specs.Sessions.{EndsIf, Shuts}
use Rattle.run_note_record.proofs.Sessions.{stay-may}
use Rattle.run_note_record.specs.Ringed.{Seating, LeavesRings}
use Rattle.run_note_record.specs.RingsSoFar.{RingedBehind, AreFewer}
use Rattle.run_note_record.specs.Steps.{nobody, spans_cut}
use Rattle.run_acts.specs.declared.run.Run.{Run}
use Rattle.run_acts.specs.Acting.{Closing, Bare, Closed, Fell, IsClosingOf, IsClosed, IsSettled, closed_cabin, closed_breaks, left_run, told_of}
use Rattle.run_acts.specs.Recording.{log_of, values_of, RunWithin}
use Rattle.run_acts.specs.RunRinged.{seats_of, RingsWithin, with_cut, RingsGoOn}
use Rattle.run_acts.specs.Ringing.{seating_of, odometer_of, WithdrawalStands, ClosesRings}
use Rattle.run_acts.proofs.CardPlaces.{tear-failed}
use Rattle.run_acts.proofs.Leaving.{closed-sessions}
use Rattle.run_acts.proofs.WithdrawnRecorded.{acting_at}
use Rattle.run_acts.proofs.RingedLines.{AreTears, TellsTears, SatIn, TellsTear, tears-both, up-to-tells, tear-told, tear-behind, gone-torn, seats-go}
use Rattle.run_acts.proofs.RingedSecond.{is-cut, since-begun}
use Rattle.run_acts.proofs.RingedWithdrawn.{counted-on, quiet-torn, quiet-bare, withdrawn, cut-leaves, cut-writes}

-- ---- sessions and lines

closed-none : (closing : Closing) (c : Card) (second : ℕ) (cabin : Cabin) → session_of (closed_cabin closing c second cabin).cards c ≡ None
closed-none Bare c second cabin = session_set c None cabin.cards
closed-none Closed c second cabin = session_set c None cabin.cards
closed-none Fell c second cabin = session_set c None (with_session c None cabin.cards)

pub closed-tears : (closing : Closing) (slot : Slot) (at : Moment) → AreTears at (closed_breaks closing slot at)
closed-tears Bare slot at = tt
closed-tears Closed slot at = tt
closed-tears Fell slot at = ((slot, refl), tt)

-- fewer cards are accepted, or the same
pub fewer-seats : (run new : Run) → new.noted ≡ run.noted → SessionsGoOn run.keeper.cabin.cards new.keeper.cabin.cards → AreFewer (seats_of run) (seats_of new)
fewer-seats run new noted goes c =
    subst (λ (n : ℕ). (option_map (seating_of n) (session_of new.keeper.cabin.cards c) ≡ seats_of run c) ⊎ (option_map (seating_of n) (session_of new.keeper.cabin.cards c) ≡ None)) (sym noted)
    (seats-go run.noted run.keeper.cabin.cards new.keeper.cabin.cards goes c)

-- a session that went on had one before, of the same insertion
record WentOn (old : Option Accepted) (new : Accepted) : Type 0 where
  pub was : Accepted
  pub is : old ≡ Some was
  pub entry : new.entry ≡ was.entry
  pub noted : new.noted ≡ was.noted

went-on_ : (old : Option Accepted) (new : Accepted) → GoesOnFrom old (Some new) → WentOn old new
went-on_ None new h = absurd h
went-on_ (Some old) new h = record { was = old; is = refl; entry = h.0; noted = h.1 }

went-of : (x y : Cards) (c : Card) (new : Accepted) → SessionsGoOn x y → session_of y c ≡ Some new → WentOn (session_of x c) new
went-of x y A new h is = went-on_ x.a.accepted new (subst (GoesOnFrom x.a.accepted) is h.a)
went-of x y B new h is = went-on_ x.b.accepted new (subst (GoesOnFrom x.b.accepted) is h.b)

-- ---- IN A SECOND, at its action

module _ (o : Origin) (done : List TraceSecond) (s : TraceSecond) (front rest : List Action) (slot : Slot) (are : s.actions ≡ front ++ Withdraw slot ∷ rest) (speed : ℕ) (now : s.speed ≡ speed) (c : Card) (run between : Run) (before told : Outcome) (d e : Devices)
    (w : RunWithin o done s (In (length front)) [] [] run before d) (seat : card_in (seat_in run.keeper.cabin.slots.seats slot) ≡ Some c) (allowed : refusal (logged run.keeper.cabin.slots.seats) speed (Withdraw slot) ≡ None)
    (failed : Bool) (kept : IsSettled (acting_at s.number (suc (length front))) failed (left_run slot s.number run) between before told) (left : HaveLeftMore o d e) (spans : List SpanFrom) (t : ToldSecond)
    (rings : RingsWithin o done s w.within.b.run.log front run (log_of before) spans t d) (low : ℕ) (stands : CabinIsSound low None run.keeper.cabin) (small : s.number < 2 ^ 32)
    (entries : IfSome (session_of run.keeper.cabin.cards c) (λ q. q.entry < insertion_ring.count)) where
  abbrev at : Moment
  at = acting_at s.number (suc (length front))

  abbrev a : Action
  a = Withdraw slot

  told-tears : TellsTears at (told_of (left_run slot s.number run) before) (told_of between told)
  told-tears = up-to-tells at kept.decided failed (told_of (left_run slot s.number run) before) (told_of between told) kept.kept

  told-is : log_of told ≡ record (log_of before) { breaks = (log_of before).breaks ++ told-tears.lines }
  told-is = ap log_of kept.outcome ∙ ap (λ (bs : List Break). record (log_of before) { breaks = bs }) told-tears.are

  noted-is : between.noted ≡ run.noted
  noted-is = ap (λ (r : Run). r.noted) kept.only

  bare-false : false ≡ true → is_some (session_of run.keeper.cabin.cards c) ≡ true
  bare-false none = absurd (let wrong : false ≡ true = none in cc)

  -- THE UNIT FAILED as the minutes were kept
  pub settling-ringed : CardsStay o (with_second spans run.keeper.odometer t) d e → LeavesRings d.unit e.unit → RingsGoOn true o done s w.within.b (front ++ a ∷ []) between (log_of told) spans t e
  settling-ringed stays leaves = record {
    counted = counted-on o done s front rest slot are run before d e w told-tears.lines (log_of told) told-is told-tears.tears left spans t c false (stay-may o (with_second spans run.keeper.odometer t) (EndsIf false c) d e stays) bare-false rings seat low stands speed now allowed small between noted-is;
    lines = since-begun o done s (In (length front)) [] None [] (values_of run before) d w.within (log_of told) (told-tears.lines, ap (λ (l : RunLog). l.breaks) told-is);
    behind = (is-cut o done s front rest a are (values_of run before) d w.within told-tears.lines (log_of told) told-is told-tears.tears).behind;
    odometer = told-tears.odometer ∙ w.odometer;
    ringed = subst (λ (b : ℕ). RingedBehind o (done ++ s ∷ []) (with_cut (log_of told) s (front ++ a ∷ [])) (suc s.number) (spans_cut spans b (with_cut (log_of told) s (front ++ a ∷ [])) done s) nobody e) (sym told-tears.odometer)
        (cut-leaves o done s front rest slot are run before d e w told-tears.lines (log_of told) told-is told-tears.tears left spans t c false (stay-may o (with_second spans run.keeper.odometer t) (EndsIf false c) d e stays) bare-false rings seat low stands speed now allowed small entries leaves);
  }

  -- THEY ARE KEPT, and its session is closed
  module _ (places : CardsGo o (with_second spans run.keeper.odometer t) (EndsIf (is_some (session_of between.keeper.cabin.cards c)) c) d e) (new : Run) (after : Listed Break) (closing : Closing) (closed : IsClosed c slot at between new told.breaks after closing) where
    abbrev later : RunLog
    later = log_of (record told { breaks = after })

    abbrev had_session : Bool
    had_session = is_some (session_of between.keeper.cabin.cards c)

    -- one that has a session behind the minutes had one before
    sat-then : is_some (session_of between.keeper.cabin.cards c) ≡ true → is_some (session_of run.keeper.cabin.cards c) ≡ true
    sat-then some = by (session_of between.keeper.cabin.cards c) refl some
      where
        by : (q : Option Accepted) → session_of between.keeper.cabin.cards c ≡ q → is_some q ≡ true → is_some (session_of run.keeper.cabin.cards c) ≡ true
        by None is sat = absurd (let wrong : false ≡ true = sat in cc)
        by (Some x) is sat = let went = went-of run.keeper.cabin.cards between.keeper.cabin.cards c x told-tears.sessions is in ap (λ (q : Option Accepted). is_some q) went.is

    abbrev lines : List Break
    lines = told-tears.lines ++ closed_breaks closing slot at

    later-is : later ≡ record (log_of before) { breaks = (log_of before).breaks ++ lines }
    later-is =
        ap (λ (l : Listed Break). log_of (record told { breaks = l })) closed.told
        ∙ ap (λ (l : RunLog). record l { breaks = l.breaks ++ closed_breaks closing slot at }) told-is
        ∙ ap (λ (bs : List Break). record (log_of before) { breaks = bs }) (append_assoc (log_of before).breaks told-tears.lines (closed_breaks closing slot at))

    tears : AreTears at lines
    tears = tears-both at told-tears.lines (closed_breaks closing slot at) told-tears.tears (closed-tears closing slot at)

    new-noted : new.noted ≡ run.noted
    new-noted = ap (λ (r : Run). r.noted) closed.run ∙ noted-is

    new-odometer : new.keeper.odometer ≡ run.keeper.odometer
    new-odometer = ap (λ (r : Run). r.keeper.odometer) closed.run ∙ told-tears.odometer

    new-sessions : SessionsGoOn run.keeper.cabin.cards new.keeper.cabin.cards
    new-sessions = subst (λ (r : Run). SessionsGoOn run.keeper.cabin.cards r.keeper.cabin.cards) (sym closed.run)
        (sessions-then run.keeper.cabin.cards between.keeper.cabin.cards (closed_cabin closing c s.number between.keeper.cabin).cards told-tears.sessions (closed-sessions c s.number between.keeper.cabin closing))

    fewer : AreFewer (seats_of run) (seats_of new)
    fewer = fewer-seats run new new-noted new-sessions

    gone : seats_of new c ≡ None
    gone = ap (λ (q : Option Accepted). option_map (seating_of new.noted) q)
        (subst (λ (r : Run). session_of r.keeper.cabin.cards c ≡ None) (sym closed.run) (closed-none closing c s.number between.keeper.cabin))

    -- where the closing tells nothing more
    same-log : closed_breaks closing slot at ≡ [] → log_of told ≡ later
    same-log nothing =
        ap (λ (bs : List Break). record (log_of told) { breaks = bs }) (sym (append-nil told.breaks.items))
        ∙ ap (λ (bs : List Break). record (log_of told) { breaks = told.breaks.items ++ bs }) (sym nothing)
        ∙ sym (ap (λ (l : Listed Break). log_of (record told { breaks = l })) closed.told)

    -- the insertion stands where it stood, and the odometer is that of now
    same-writes : (f : Bool) (x : Accepted) (went : WentOn (session_of run.keeper.cabin.cards c) x) → WithdrawalStands f (seating_of between.noted x) s.number (odometer_of between (settled w.within.sp)) d.unit e.unit →
        WithdrawalStands f (seating_of run.noted went.was) s.number (record { 0 = odometer_by run.keeper.odometer (travelled_of w.within.sp) }) d.unit e.unit
    same-writes f x went h =
        subst (λ (q : Seating). WithdrawalStands f q s.number (record { 0 = odometer_by run.keeper.odometer (travelled_of w.within.sp) }) d.unit e.unit)
        (λ i. record { index = went.entry i; behind = noted-is i - went.noted i })
        (subst (λ (b : ℕ). WithdrawalStands f (seating_of between.noted x) s.number (record { 0 = odometer_by b (travelled_of w.within.sp) }) d.unit e.unit) told-tears.odometer h)

    -- whether a tear of its slot was told, by its session before and behind the minutes
    module _ (stands_ : CountsSpan between.minutes (settled w.within.sp))
        (untorn : is_some (session_of run.keeper.cabin.cards c) ≡ true → is_some (session_of between.keeper.cabin.cards c) ≡ true → is_torn_in (log_of told) s.number (In (suc (length front))) slot ≡ false)
        (torn : is_some (session_of run.keeper.cabin.cards c) ≡ true → session_of between.keeper.cabin.cards c ≡ None → is_torn_in (log_of told) s.number (In (suc (length front))) slot ≡ true)
        (shuts : closing ≡ Closed → Shuts o later (record { second = s.number; card = c }) e) where
      broken : (k : Closing) → closing ≡ k → (q : Option Accepted) → session_of between.keeper.cabin.cards c ≡ q → ClosesRings k q at true between d.unit e.unit →
          RingedBehind o (done ++ s ∷ []) (with_cut later s (front ++ a ∷ [])) (suc s.number) (spans_cut spans run.keeper.odometer (with_cut later s (front ++ a ∷ [])) done s) nobody e
      broken Bare k q is h = cut-leaves o done s front rest slot are run before d e w lines later later-is tears left spans t c had_session places sat-then rings seat low stands speed now allowed small entries h
      broken Fell k q is h = cut-leaves o done s front rest slot are run before d e w lines later later-is tears left spans t c had_session places sat-then rings seat low stands speed now allowed small entries h
      broken Closed k None is h = absurd h
      broken Closed k (Some x) is h =
          let went = went-of run.keeper.cabin.cards between.keeper.cabin.cards c x told-tears.sessions is in
          cut-writes o done s front rest slot are run before d e w lines later later-is tears left spans t c had_session places sat-then rings seat low stands speed now allowed small went.was went.is
          (subst (λ (q : Option Accepted). IfSome q (λ r. r.entry < insertion_ring.count)) went.is entries)
          (subst (λ (l : RunLog). is_torn_in l s.number (In (suc (length front))) slot ≡ false) (same-log (ap (λ (j : Closing). closed_breaks j slot at) k)) (untorn (ap (λ (q : Option Accepted). is_some q) went.is) (ap (λ (q : Option Accepted). is_some q) is)))
          (same-writes true x went (h (settled w.within.sp) stands_))

      -- its card had no session in the closing
      closed-bare : closing ≡ Bare → session_of between.keeper.cabin.cards c ≡ None → LeavesRings d.unit e.unit → RingsWithin o done s w.within.b.run.log (front ++ a ∷ []) new later spans t e
      closed-bare k none h = by (session_of run.keeper.cabin.cards c) refl
        where
          bare-sat : is_some (session_of between.keeper.cabin.cards c) ≡ true → ⊥
          bare-sat sat = let clash : false ≡ true = sym (ap (λ (q : Option Accepted). is_some q) none) ∙ sat in cc

          by : (q : Option Accepted) → session_of run.keeper.cabin.cards c ≡ q → RingsWithin o done s w.within.b.run.log (front ++ a ∷ []) new later spans t e
          by None is = quiet-bare o done s front rest slot are run before d e w lines later later-is tears left spans t c had_session places sat-then rings seat low stands speed now allowed small new fewer new-odometer new-noted h (λ sat. absurd (bare-sat sat)) is
          by (Some x) is =
              let some : is_some (session_of run.keeper.cabin.cards c) ≡ true = ap (λ (q : Option Accepted). is_some q) is in
              quiet-torn o done s front rest slot are run before d e w lines later later-is tears left spans t c had_session places sat-then rings seat low stands speed now allowed small new fewer new-odometer new-noted h (λ sat. absurd (bare-sat sat)) some
              (subst (λ (l : RunLog). is_torn_in l s.number (In (suc (length front))) slot ≡ true) (same-log (ap (λ (j : Closing). closed_breaks j slot at) k)) (torn some none))

      -- it fell in the closing: a call failed
      fell-told : closing ≡ Fell → has_call_failed_in later s.number ≡ true
      fell-told k =
          ap (λ (l : Listed Break). has_call_failed_in (log_of (record told { breaks = l })) s.number) closed.told
          ∙ subst (λ (j : Closing). has_call_failed_in (record (log_of told) { breaks = (log_of told).breaks ++ closed_breaks j slot at }) s.number ≡ true) (sym k) (tear-failed (log_of told) slot at)

      noted : (k : Closing) → closing ≡ k → (q : Option Accepted) → session_of between.keeper.cabin.cards c ≡ q → IsClosingOf q k → ClosesRings k q at false between d.unit e.unit →
          RingsWithin o done s w.within.b.run.log (front ++ a ∷ []) new later spans t e
      noted Bare k None is of h = closed-bare k is h
      noted Bare k (Some x) is of h = absurd of
      noted Fell k None is of h = absurd of
      noted Fell k (Some x) is of h =
          let went = went-of run.keeper.cabin.cards between.keeper.cabin.cards c x told-tears.sessions is in
          quiet-torn o done s front rest slot are run before d e w lines later later-is tears left spans t c had_session places sat-then rings seat low stands speed now allowed small new fewer new-odometer new-noted h (λ sat. fell-told k) (ap (λ (q : Option Accepted). is_some q) went.is)
          (tear-told slot at lines (log_of before) later later-is
          (subst (λ (j : Closing). TellsTear slot at (told-tears.lines ++ closed_breaks j slot at)) (sym k) (tear-behind slot at told-tears.lines (tear_of slot at ∷ []) ([], [], refl))))
      noted Closed k None is of h = absurd of
      noted Closed k (Some x) is of h =
          let went = went-of run.keeper.cabin.cards between.keeper.cabin.cards c x told-tears.sessions is in
          withdrawn o done s front rest slot are run before d e w lines later later-is tears left spans t c had_session places sat-then rings seat low stands speed now allowed small went.was went.is
          (subst (λ (q : Option Accepted). IfSome q (λ r. r.entry < insertion_ring.count)) went.is entries) new fewer gone new-odometer new-noted
          (subst (λ (l : RunLog). is_torn_in l s.number (In (suc (length front))) slot ≡ false) (same-log (ap (λ (j : Closing). closed_breaks j slot at) k)) (untorn (ap (λ (q : Option Accepted). is_some q) went.is) (ap (λ (q : Option Accepted). is_some q) is)))
          (same-writes false x went (h (settled w.within.sp) stands_)) (shuts k)

      pub closing-ringed : (fails : Bool) → ClosesRings closing (session_of between.keeper.cabin.cards c) at fails between d.unit e.unit → RingsGoOn fails o done s w.within.b (front ++ a ∷ []) new later spans t e
      closing-ringed false h = noted closing refl (session_of between.keeper.cabin.cards c) refl closed.is h
      closing-ringed true h = record {
        counted = counted-on o done s front rest slot are run before d e w lines later later-is tears left spans t c had_session places sat-then rings seat low stands speed now allowed small new new-noted;
        lines = since-begun o done s (In (length front)) [] None [] (values_of run before) d w.within later (lines, ap (λ (l : RunLog). l.breaks) later-is);
        behind = (is-cut o done s front rest a are (values_of run before) d w.within lines later later-is tears).behind;
        odometer = new-odometer ∙ w.odometer;
        ringed = subst (λ (b : ℕ). RingedBehind o (done ++ s ∷ []) (with_cut later s (front ++ a ∷ [])) (suc s.number) (spans_cut spans b (with_cut later s (front ++ a ∷ [])) done s) nobody e) (sym new-odometer)
            (broken closing refl (session_of between.keeper.cabin.cards c) refl h);
      }

  -- A CARD THAT HAD A SESSION and has none behind the minutes was torn out of its slot.
  pub gone-told : AreKept at kept.decided (told_of (left_run slot s.number run) before) (told_of between told) → (from : ℕ) → SatIn c slot from (left_run slot s.number run).keeper.cabin.slots.past → All (λ (m : Minute). from ≤ m.minute) kept.decided →
      is_some (session_of run.keeper.cabin.cards c) ≡ true → session_of between.keeper.cabin.cards c ≡ None → is_torn_in (log_of told) s.number (In (suc (length front))) slot ≡ true
  gone-told are_ from sat later_ some none =
      let tear = gone-torn c slot from at kept.decided (told_of (left_run slot s.number run) before) (told_of between told) are_ sat later_ some none in
      tear-told slot at tear.0 (log_of before) (log_of told) (ap log_of kept.outcome ∙ ap (λ (bs : List Break). record (log_of before) { breaks = bs }) tear.1) tear.2
