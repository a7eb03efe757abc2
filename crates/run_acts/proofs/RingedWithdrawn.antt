-- A card is withdrawn, and so the rings go on.
use Rattle.std.proofs.Common.{◌≡◌, ◌∙◌, ◌⊎◌, inl, inr, ⊎_elim, ℕ, suc, ◌+◌, ◌^◌, ◌<◌, ◌≤◌, Bool, true, false, not, cond, Option, Some, None, IfSome, is_some, option_map, List, [], ◌∷◌, ◌++◌, Contains, length, refl, ap, sym, subst, arith}
use Rattle.std.specs.Prelude.{nat_lt}
use Rattle.std.proofs.lemmas.Bool.{cases_lt}
use Rattle.activity_codec.specs.declared.values.Slot.{Slot}
use Rattle.trace_model.specs.declared.Action.{Action}
use Rattle.trace_model.specs.declared.Action.TheVariants.{Withdraw}
use Rattle.trace_model.specs.declared.Card.{Card}
use Rattle.trace_model.specs.declared.Card.TheVariants.{A, B}
use Rattle.trace_model.specs.Trace.{TraceSecond}
use Rattle.tacho_types.specs.declared.numbers.Odometer.{Odometer}
use Rattle.tacho_types.specs.declared.numbers.TimeReal.{TimeReal}
use Rattle.unit_model.specs.minute_model.Span.{travelled_of}
use Rattle.run_events.specs.message_model.Records.{insertion_ring}
use Rattle.device_calls.specs.unit_rule.Odometer.{odometer_by}
use Rattle.log_model.specs.declared.lines.Break.{Break}
use Rattle.log_model.specs.declared.lines.SlotFault.{SlotFault}
use Rattle.log_model.specs.declared.lines.SlotFault.TheVariants.{Moving, Empty}
use Rattle.log_model.specs.Log.{RunLog, In, cut_in, is_torn_in}
use Rattle.log_model.specs.Slots.{Sitting, same_card, in_slot, refusal}
use Rattle.log_model.specs.Course.{ToldSecond, Before, begins, went}
use Rattle.unit_notes.specs.note_model.Odometer.{SpanFrom, odometer_at}
use Rattle.device_calls.specs.safety_model.Safe.{Devices}
use Rattle.run_crew.specs.card_slots.Calls.{seat_in, card_in, logged}
use Rattle.run_crew.specs.declared.cards.Accepted.{Accepted}
use Rattle.run_crew.specs.Cards.{session_of}
use Rattle.run_crew.specs.Cabin.{CabinIsSound}
use Rattle.run_outcome.specs.declared.outcome.Outcome.{Outcome}
use Rattle.run_events.specs.run_rings.Notes.{NotesMore, course_behind}
use Rattle.run_events.specs.run_rings.Spans.{with_second}
use Rattle.run_events.proofs.run_rings.Actions.{withdrawals}
use Rattle.run_events.proofs.run_rings.Same.{same-rings}
use Rattle.run_minutes.specs.run_promise.Origin.{Origin, start_at}
use Rattle.run_minutes.specs.run_promise.Beside.{HaveLeftMore}
use Rattle.run_note_record.specs.Ringed.{Seating, LeavesRings, WritesRing, MayBeWithdrawn}
use Rattle.run_note_record.specs.RingsSoFar.{RingedBehind, RingedIn, AreFewer}
use Rattle.run_note_record.specs.Steps.{GoesOnTo, IsCutIn, nobody, spans_cut}
use Rattle.run_note_record.specs.OnCards.{has_call_failed_in, CardsGo}
use Rattle.run_note_record.specs.Moved.{goes_out, moves_to}
use Rattle.run_note_record.specs.Sessions.{EndsIf, Shuts}
use Rattle.run_note_record.proofs.OnCards.{call-failed}
use Rattle.run_note_record.proofs.Moved.{taken-moves}
use Rattle.run_note_record.proofs.Sessions.{ends-all, ends-fail}
use Rattle.run_note_record.proofs.RingSteps.{passes, action-cut, card-withdrawn, withdrawal-is-cut}
use Rattle.run_record.specs.Recorded.{Values}
use Rattle.run_record.specs.Within.{told_before, course_in}
use Rattle.run_record.proofs.Pulling.{sitting-now}
use Rattle.run_record.proofs.Seats.{this-or, seat-tells, answers-in}
use Rattle.run_acts.specs.declared.run.Run.{Run}
use Rattle.run_acts.specs.Recording.{log_of, values_of, RunWithin}
use Rattle.run_acts.specs.RunRinged.{seats_of, IsLastFrom, RingsWithin, with_cut}
use Rattle.run_acts.specs.Ringing.{seating_of, WithdrawalStands}
use Rattle.run_acts.proofs.RingedLines.{AreTears}
use Rattle.run_acts.proofs.RingedSecond.{odometer-here, goes-to, sits-then, is-cut, sits-cut, torn-cut, bare-there}

-- a withdrawal is not refused where the vehicle stands
pub stands-still : (a b : Bool) (f g : SlotFault) → cond {A = Option SlotFault} a (Some f) (cond b (Some g) None) ≡ None → b ≡ false
stands-still true b f g is = absurd (cc)
stands-still false true f g is = absurd (cc)
stands-still false false f g is = refl

-- what writes no ring may have left a withdrawal out
none-written : (q : Seating) (time : TimeReal) (odometer : Odometer) (d e : Devices) → LeavesRings d.unit e.unit → WritesRing (MayBeWithdrawn q time odometer) d e
none-written q time odometer d e leaves = λ y at.
    let m = leaves y at in
    (m.0, m.1, (m.0, m.0, same-rings m.0, by m.0, m.2))
  where
    by : (x : List ℕ) → MayBeWithdrawn q time odometer x x
    by x = ⊎_elim (λ low. inl (inl refl, low)) (λ high. inr (same-rings x, high)) (low-or q.behind insertion_ring.count)
      where
        low-or : (n m : ℕ) → (n < m) ⊎ (m ≤ n)
        low-or n m = ⊎_elim (λ lt. inl lt) (λ le. inr le) (cases_lt n m)

-- ---- AN ACTION that withdraws

module _ (o : Origin) (done : List TraceSecond) (s : TraceSecond) (front rest : List Action) (slot : Slot) (are : s.actions ≡ front ++ Withdraw slot ∷ rest) (run : Run) (before : Outcome) (d e : Devices)
    (w : RunWithin o done s (In (length front)) [] [] run before d) (lines : List Break) (later : RunLog) (is : later ≡ record (log_of before) { breaks = (log_of before).breaks ++ lines })
    (tears : AreTears (record { second = s.number; begun = suc (length front); late = false }) lines) (left : HaveLeftMore o d e) (spans : List SpanFrom) (t : ToldSecond) (card : Card) (had : Bool) (places : CardsGo o (with_second spans run.keeper.odometer t) (EndsIf had card) d e) (sat : had ≡ true → is_some (session_of run.keeper.cabin.cards card) ≡ true) (rings : RingsWithin o done s w.within.b.run.log front run (log_of before) spans t d)
    (seat : card_in (seat_in run.keeper.cabin.slots.seats slot) ≡ Some card) (low : ℕ) (stands : CabinIsSound low None run.keeper.cabin) (speed : ℕ) (now : s.speed ≡ speed)
    (allowed : refusal (logged run.keeper.cabin.slots.seats) speed (Withdraw slot) ≡ None) (small : s.number < 2 ^ 32) where
  abbrev v : Values
  v = values_of run before

  abbrev a : Action
  a = Withdraw slot

  abbrev was : Before
  was = (went w.within.b.run.log done).before

  abbrev log_cut : RunLog
  log_cut = with_cut later s (front ++ Withdraw slot ∷ [])

  still : nat_lt 0 s.speed ≡ false
  still = ap (λ (n : ℕ). nat_lt 0 n) now ∙ stands-still (not (is_some (in_slot (logged run.keeper.cabin.slots.seats) slot))) (nat_lt 0 speed) (Empty slot) (Moving speed) allowed

  longer : length front + 1 ≡ suc (length front)
  longer = omega arith

  -- what it notes, by a log: nothing where its card is torn out in that, or was not accepted
  none-torn : (log : RunLog) (x : Sitting) → in_slot (course_behind log was s front).slots slot ≡ Some x → begins (cut_in log s.number) (length front) ≡ true → is_torn_in log s.number (In (suc (length front))) slot ≡ true → NotesMore log was s front a []
  none-torn log x sits begun torn = (withdrawals log was s front begun slot x sits still).0 (ap (λ (n : ℕ). is_torn_in log s.number (In n) slot) longer ∙ torn)

  none-bare : (log : RunLog) (x : Sitting) → in_slot (course_behind log was s front).slots slot ≡ Some x → begins (cut_in log s.number) (length front) ≡ true → x.accepted ≡ None → NotesMore log was s front a []
  none-bare log x sits begun bare = (withdrawals log was s front begun slot x sits still).1 bare

  -- who sits there
  sits-bare : session_of run.keeper.cabin.cards card ≡ None → (x : Sitting) × (in_slot (course_in w.within.b done s (In (length front)) (log_of before)).slots slot ≡ Some x) × (x.card ≡ card) × (x.accepted ≡ None)
  sits-bare none = bare-there (start_at o) (w.within.b.run.book.sure ++ w.within.new) w.within.from run.keeper.cabin.slots low run.keeper.cabin.cards card (seat_in run.keeper.cabin.slots.seats slot)
      (in_slot (course_in w.within.b done s (In (length front)) (log_of before)).slots slot)
      (seat-tells (start_at o) (told_before w.within.b done) (w.within.b.run.book.sure ++ w.within.new) (course_in w.within.b done s (In (length front)) (log_of before)).left s.number w.within.from
      (course_in w.within.b done s (In (length front)) (log_of before)).slots run.keeper.cabin.slots w.within.tells slot)
      (answers-in low run.keeper.cabin stands slot) seat none

  sits-some : is_some (session_of run.keeper.cabin.cards card) ≡ true → (u : ℕ) × (in_slot (course_in w.within.b done s (In (length front)) (log_of before)).slots slot ≡ Some (record { card = card; accepted = Some u }))
  sits-some some = sitting-now o done s (In (length front)) v d w.within slot card seat low stands some

  goes : GoesOnTo (log_of before) later s front
  goes = goes-to o done s front rest a are v d w.within lines later is tears

  cuts : IsCutIn w.within.b.run.log (log_of before) log_cut done s front a rest
  cuts = is-cut o done s front rest a are v d w.within lines later is tears

  then_ : (x : Sitting) → in_slot (course_in w.within.b done s (In (length front)) (log_of before)).slots slot ≡ Some x → in_slot (course_behind later was s front).slots slot ≡ Some x
  then_ x there = sits-then o done s front rest a are v d w.within lines later is tears slot x there

  then-cut : (x : Sitting) → in_slot (course_in w.within.b done s (In (length front)) (log_of before)).slots slot ≡ Some x → in_slot (course_behind log_cut was s front).slots slot ≡ Some x
  then-cut x there = sits-cut o done s front rest a are v d w.within lines later is tears slot x there

  -- it is withdrawn, by either log
  out-then : had ≡ true → Contains (moves_to later was s (front ++ a ∷ [])) (goes_out s.number card)
  out-then some = let x = sits-some (sat some) in taken-moves later was s front goes.begun slot (record { card = card; accepted = Some x.0 }) (then_ (record { card = card; accepted = Some x.0 }) x.1) still refl

  out-cut : had ≡ true → Contains (moves_to log_cut was s (front ++ a ∷ [])) (goes_out s.number card)
  out-cut some = let x = sits-some (sat some) in taken-moves log_cut was s front cuts.goes.begun slot (record { card = card; accepted = Some x.0 }) (then-cut (record { card = card; accepted = Some x.0 }) x.1) still refl

  torn-alike : is_torn_in log_cut s.number (In (suc (length front))) slot ≡ is_torn_in later s.number (In (suc (length front))) slot
  torn-alike = torn-cut o done s front rest a are v d w.within lines later is tears (In (suc (length front))) slot

  abbrev now_spans : List SpanFrom
  now_spans = with_second spans run.keeper.odometer t

  abbrev time : TimeReal
  time = record { 0 = s.number }

  abbrev odometer : Odometer
  odometer = record { 0 = odometer_by run.keeper.odometer (travelled_of w.within.sp) }

  odometer-is : odometer_by run.keeper.odometer (travelled_of w.within.sp) ≡ odometer_at s.number now_spans
  odometer-is = sym (odometer-here o done s (In (length front)) [] [] v d w.within front (log_of before) spans run.keeper.odometer t (seats_of run) rings.ringed rings.base)

  few-kilometres : odometer_by run.keeper.odometer (travelled_of w.within.sp) < 256 ^ 3
  few-kilometres = omega arith

  pub counted-on : (new : Run) → new.noted ≡ run.noted → new.noted ≤ length later.finds
  counted-on new same = subst (λ (k : ℕ). k ≤ length later.finds) (sym same) (subst (λ (l : RunLog). run.noted ≤ length l.finds) (sym is) rings.counted)

  -- IT NOTES NOTHING
  goes-quiet : (new : Run) → AreFewer (seats_of run) (seats_of new) → new.keeper.odometer ≡ run.keeper.odometer → new.noted ≡ run.noted → LeavesRings d.unit e.unit → (had ≡ true → has_call_failed_in later s.number ≡ true) → NotesMore later was s front a [] →
      RingsWithin o done s w.within.b.run.log (front ++ a ∷ []) new later spans t e
  goes-quiet new fewer same noted leaves fails none = record {
    base = subst (λ (b : ℕ). IsLastFrom b (with_second spans b t)) (sym same) rings.base;
    counted = counted-on new noted;
    ringed = subst (λ (b : ℕ). RingedIn o done s w.within.b.run.log (front ++ a ∷ []) later spans b t (seats_of new) e) (sym same)
        (passes d e o done s w.within.b.run.log (log_of before) later front a spans run.keeper.odometer t (seats_of run) (seats_of new) rings.ringed goes none leaves left (ends-fail o (with_second spans run.keeper.odometer t) had card later (moves_to later was s (front ++ a ∷ [])) s.number d e out-then fails places) fewer);
  }

  pub quiet-torn : (new : Run) → AreFewer (seats_of run) (seats_of new) → new.keeper.odometer ≡ run.keeper.odometer → new.noted ≡ run.noted → LeavesRings d.unit e.unit → (had ≡ true → has_call_failed_in later s.number ≡ true) → is_some (session_of run.keeper.cabin.cards card) ≡ true →
      is_torn_in later s.number (In (suc (length front))) slot ≡ true → RingsWithin o done s w.within.b.run.log (front ++ a ∷ []) new later spans t e
  quiet-torn new fewer same noted leaves fails some torn =
      let x = sits-some some in
      goes-quiet new fewer same noted leaves fails (none-torn later (record { card = card; accepted = Some x.0 }) (then_ (record { card = card; accepted = Some x.0 }) x.1) goes.begun torn)

  pub quiet-bare : (new : Run) → AreFewer (seats_of run) (seats_of new) → new.keeper.odometer ≡ run.keeper.odometer → new.noted ≡ run.noted → LeavesRings d.unit e.unit → (had ≡ true → has_call_failed_in later s.number ≡ true) → session_of run.keeper.cabin.cards card ≡ None →
      RingsWithin o done s w.within.b.run.log (front ++ a ∷ []) new later spans t e
  quiet-bare new fewer same noted leaves fails none =
      let x = sits-bare none in
      goes-quiet new fewer same noted leaves fails (none-bare later x.0 (then_ x.0 x.1) goes.begun x.3)

  -- THE WITHDRAWAL IS NOTED
  abbrev seats-then : Run → Card → Option Seating
  seats-then r c = cond {A = Option Seating} (same_card card c) None (seats_of r c)

  others-stay : (c : Card) → ((same_card card c ≡ false) × (seats-then run c ≡ seats_of run c)) ⊎ ((same_card card c ≡ true) × (seats-then run c ≡ None))
  others-stay c = ⊎_elim
      (λ same. inr (same, ap (λ (b : Bool). cond {A = Option Seating} b None (seats_of run c)) same))
      (λ other. inl (other, ap (λ (b : Bool). cond {A = Option Seating} b None (seats_of run c)) other))
      (this-or card c)

  then-fewer : (new : Run) → AreFewer (seats_of run) (seats_of new) → seats_of new card ≡ None → AreFewer (seats-then run) (seats_of new)
  then-fewer new fewer gone c = ⊎_elim
      (λ same. inl (mine c same ∙ sym (ap (λ (b : Bool). cond {A = Option Seating} b None (seats_of run c)) same)))
      (λ other. ⊎_elim (λ stays. inl (stays ∙ sym (ap (λ (b : Bool). cond {A = Option Seating} b None (seats_of run c)) other))) (λ none. inr none) (fewer c))
      (this-or card c)
    where
      same-is : (x y : Card) → same_card x y ≡ true → x ≡ y
      same-is A A h = refl
      same-is B B h = refl
      same-is A B h = absurd (cc)
      same-is B A h = absurd (cc)

      mine : (c : Card) → same_card card c ≡ true → seats_of new c ≡ None
      mine c same = subst (λ (y : Card). seats_of new y ≡ None) (same-is card c same) gone

  module _ (session : Accepted) (has : session_of run.keeper.cabin.cards card ≡ Some session) (entry : session.entry < insertion_ring.count) where
    some-session : is_some (session_of run.keeper.cabin.cards card) ≡ true
    some-session = ap (λ (q : Option Accepted). is_some q) has

    seat-is : seats_of run card ≡ Some (seating_of run.noted session)
    seat-is = ap (λ (q : Option Accepted). option_map (seating_of run.noted) q) has

    abbrev x : Sitting
    x = record { card = card; accepted = Some (sits-some some-session).0 }

    pub withdrawn : (new : Run) → AreFewer (seats_of run) (seats_of new) → seats_of new card ≡ None → new.keeper.odometer ≡ run.keeper.odometer → new.noted ≡ run.noted → is_torn_in later s.number (In (suc (length front))) slot ≡ false →
        WithdrawalStands false (seating_of run.noted session) s.number odometer d.unit e.unit → Shuts o later (record { second = s.number; card = card }) e → RingsWithin o done s w.within.b.run.log (front ++ a ∷ []) new later spans t e
    withdrawn new fewer gone same noted untorn writes shuts = record {
      base = subst (λ (b : ℕ). IsLastFrom b (with_second spans b t)) (sym same) rings.base;
      counted = counted-on new noted;
      ringed = subst (λ (b : ℕ). RingedIn o done s w.within.b.run.log (front ++ a ∷ []) later spans b t (seats_of new) e) (sym same)
          (card-withdrawn d e o done s w.within.b.run.log (log_of before) later front spans run.keeper.odometer t (seats_of run) (seats-then run) (seats_of new) rings.ringed goes slot x (then_ x (sits-some some-session).1) still
          (ap (λ (n : ℕ). is_torn_in later s.number (In n) slot) longer ∙ untorn) refl (seating_of run.noted session) seat-is entry time odometer refl odometer-is small few-kilometres writes others-stay left (ends-all o (with_second spans run.keeper.odometer t) had card d e places) shuts (then-fewer new fewer gone));
    }

    -- or the unit failed in it: it stands, or does not
    broken-noted : is_torn_in log_cut s.number (In (suc (length front))) slot ≡ false → WritesRing (MayBeWithdrawn (seating_of run.noted session) time odometer) d e →
        RingedBehind o (done ++ s ∷ []) log_cut (suc s.number) (spans_cut spans run.keeper.odometer log_cut done s) nobody e
    broken-noted untorn writes =
        withdrawal-is-cut d e o done s w.within.b.run.log (log_of before) log_cut front rest spans run.keeper.odometer t (seats_of run) rings.ringed slot cuts x (then-cut x (sits-some some-session).1) still
        (ap (λ (n : ℕ). is_torn_in log_cut s.number (In n) slot) longer ∙ untorn) refl (seating_of run.noted session) seat-is entry time odometer refl odometer-is small few-kilometres writes left (ends-all o (with_second spans run.keeper.odometer t) had card d e places)

  -- THE UNIT FAILED, and no withdrawal is written, or this one may be
  cut-quiet : LeavesRings d.unit e.unit → NotesMore log_cut was s front a [] → RingedBehind o (done ++ s ∷ []) log_cut (suc s.number) (spans_cut spans run.keeper.odometer log_cut done s) nobody e
  cut-quiet leaves none = action-cut d e o done s w.within.b.run.log (log_of before) log_cut front a rest spans run.keeper.odometer t (seats_of run) rings.ringed cuts none leaves left (ends-fail o (with_second spans run.keeper.odometer t) had card log_cut (moves_to log_cut was s (front ++ a ∷ [])) s.number d e out-cut (λ some. call-failed log_cut s.number cuts.failed) places)

  pub cut-leaves : IfSome (session_of run.keeper.cabin.cards card) (λ q. q.entry < insertion_ring.count) → LeavesRings d.unit e.unit →
      RingedBehind o (done ++ s ∷ []) log_cut (suc s.number) (spans_cut spans run.keeper.odometer log_cut done s) nobody e
  cut-leaves entries leaves = by (session_of run.keeper.cabin.cards card) refl
    where
      by : (q : Option Accepted) → session_of run.keeper.cabin.cards card ≡ q → RingedBehind o (done ++ s ∷ []) log_cut (suc s.number) (spans_cut spans run.keeper.odometer log_cut done s) nobody e
      by None none = let x = sits-bare none in cut-quiet leaves (none-bare log_cut x.0 (then-cut x.0 x.1) cuts.goes.begun x.3)
      by (Some session) has = torn (is_torn_in log_cut s.number (In (suc (length front))) slot) refl
        where
          torn : (b : Bool) → is_torn_in log_cut s.number (In (suc (length front))) slot ≡ b → RingedBehind o (done ++ s ∷ []) log_cut (suc s.number) (spans_cut spans run.keeper.odometer log_cut done s) nobody e
          torn true fell =
              let x = sits-some (ap (λ (q : Option Accepted). is_some q) has) in
              cut-quiet leaves (none-torn log_cut (record { card = card; accepted = Some x.0 }) (then-cut (record { card = card; accepted = Some x.0 }) x.1) cuts.goes.begun fell)
          torn false stays =
              broken-noted session has (subst (λ (q : Option Accepted). IfSome q (λ r. r.entry < insertion_ring.count)) has entries) stays (none-written (seating_of run.noted session) time odometer d e leaves)

  pub cut-writes : (session : Accepted) → session_of run.keeper.cabin.cards card ≡ Some session → session.entry < insertion_ring.count → is_torn_in later s.number (In (suc (length front))) slot ≡ false →
      WithdrawalStands true (seating_of run.noted session) s.number odometer d.unit e.unit → RingedBehind o (done ++ s ∷ []) log_cut (suc s.number) (spans_cut spans run.keeper.odometer log_cut done s) nobody e
  cut-writes session has entry untorn writes = broken-noted session has entry (torn-alike ∙ untorn) writes
