-- A card is put into a slot, and so the rings go on: the minutes before write no ring, and its insertion is noted where it is accepted.
use Rattle.std.proofs.Common.{◌≡◌, ◌∙◌, ⊎_elim, ℕ, suc, ◌+◌, ◌≤◌, Bool, true, false, None, List, [], ◌∷◌, ◌++◌, Contains, length, map, refl, ap, sym, subst, arith, append-nil}
use Rattle.std.specs.Prelude.{filter}
use Rattle.activity_codec.specs.declared.values.Slot.{Slot}
use Rattle.trace_model.specs.declared.Action.{Action}
use Rattle.trace_model.specs.declared.Action.TheVariants.{Insert}
use Rattle.trace_model.specs.declared.Card.{Card}
use Rattle.trace_model.specs.Trace.{TraceSecond}
use Rattle.minute_rules.specs.minute_model.Span.{travelled_of}
use Rattle.log_model.specs.declared.lines.Break.{Break}
use Rattle.log_model.specs.declared.lines.Verdict.{Verdict}
use Rattle.log_model.specs.Log.{RunLog, In, cut_in, found_in, is_accepting}
use Rattle.log_model.specs.Slots.{refusal}
use Rattle.log_model.specs.Course.{ToldSecond, Before, Visit, begins, went}
use Rattle.device_calls.specs.note_model.Odometer.{SpanFrom}
use Rattle.device_calls.specs.note_model.Noted.{Acceptance, Note, Accepts}
use Rattle.device_calls.specs.safety_model.Safe.{Devices}
use Rattle.device_calls.specs.unit_rule.Odometer.{odometer_by}
use Rattle.run_outcome.specs.declared.outcome.Outcome.{Outcome}
use Rattle.device_calls.specs.run_unit_course.Lines.{cut_at}
use Rattle.run_minutes.specs.run_promise.Origin.{Origin}
use Rattle.run_minutes.specs.run_promise.Beside.{HaveLeftMore}
use Rattle.run_acts.specs.run_rings.Notes.{TellSameTo, NotesMore, accepts_by, course_behind}
use Rattle.run_acts.specs.run_rings.Spans.{with_second}
use Rattle.run_acts.proofs.run_rings.Actions.{insertions}
use Rattle.run_acts.specs.run_note_record.Ringed.{StaysInRings, since_in}
use Rattle.run_acts.specs.run_note_record.OnCards.{has_call_failed_in, CardsStay}
use Rattle.run_acts.proofs.run_note_record.OnCards.{call-failed}
use Rattle.run_acts.specs.run_note_record.Moved.{goes_in, moves_to}
use Rattle.run_acts.proofs.run_note_record.Sessions.{stay-may}
use Rattle.run_acts.proofs.run_note_record.Moved.{put-moves}
use Rattle.run_acts.specs.run_note_record.RingsSoFar.{RingedBehind, RingedIn, AreFewer, HasMoreBreaks}
use Rattle.run_acts.specs.run_note_record.Steps.{GoesOnTo, IsCutIn, FailsBy, nobody, spans_cut}
use Rattle.run_acts.proofs.run_note_record.SoFar.{go-on-in}
use Rattle.run_acts.proofs.run_note_record.RingSteps.{passes, action-cut, card-accepted, acceptance-is-cut}
use Rattle.run_acts.specs.run_record.Within.{Beginning, course_in}
use Rattle.run_acts.specs.declared.run.Run.{Run}
use Rattle.run_acts.specs.Recording.{log_of, values_of, RunWithin}
use Rattle.run_acts.specs.RunRinged.{seats_of, IsLastFrom, AreSpansNow, RingsWithin, with_cut, RingsGoOn}
use Rattle.run_acts.proofs.Readings.{spans-here, insertion-reads}
use Rattle.run_acts.proofs.RingedLines.{AreTears}
use Rattle.run_acts.proofs.RingedSecond.{odometer-here, cut-found, since-begun}
use Rattle.recorder_with_cards.specs.JudgedRings.{JudgedInRings, IsJudgedInRings, IsOdometerOf}
use Rattle.recorder_with_cards.proofs.JudgedSessions.{cards-fail, cards-open}
use Rattle.recorder_with_cards.proofs.SettledLines.{TellsOn, tears-on}
use Rattle.recorder_with_cards.proofs.RingsHere.{here-then, here-more, goes-to, course-then, course-cut, is-cut}

-- nothing is noted of a card that is not accepted
none-noted : (u : ℕ) (slot : Slot) (card : Card) (vs : List Verdict) → filter is_accepting vs ≡ [] → accepts_by u slot card vs ≡ []
none-noted u slot card vs none = ap (λ (l : List Verdict). map (λ (v : Verdict). Accepts (record { second = u; slot = slot; card = card })) l) none

module _ (o : Origin) (done : List TraceSecond) (s : TraceSecond) (front rest : List Action) (slot : Slot) (card : Card) (are : s.actions ≡ front ++ Insert slot card ∷ rest) (old : Run) (before : Outcome) (d : Devices) (w : RunWithin o done s (In (length front)) [] [] old before d)
    (spans : List SpanFrom) (t : ToldSecond) (rings : RingsWithin o done s w.within.b.run.log front old (log_of before) spans t d) (allowed : refusal (course_in w.within.b done s (In (length front)) (log_of before)).slots s.speed (Insert slot card) ≡ None)
    (mid : Run) (told : Outcome) (e : Devices) (lines : List Break) (log_is : log_of told ≡ record (log_of before) { breaks = before.breaks.items ++ lines }) (tears : AreTears (record { second = s.number; begun = suc (length front); late = false }) lines)
    (leaves : StaysInRings d e) (left : HaveLeftMore o d e) (places : CardsStay o (with_second spans old.keeper.odometer t) d e) (fewer : AreFewer (seats_of old) (seats_of mid)) (same_odometer : mid.keeper.odometer ≡ old.keeper.odometer) (same_noted : mid.noted ≡ old.noted) where
  abbrev was : Before
  was = (went w.within.b.run.log done).before

  abbrev base : ℕ
  base = old.keeper.odometer

  abbrev n : ℕ
  n = length front

  uncut : cut_in (log_of before) s.number ≡ None
  uncut = w.within.moment.up_to.uncut

  -- ---- the minutes before
  told-on : TellsOn (log_of before) (log_of told) s.number (length front)
  told-on = tears-on (log_of before) (log_of told) s.number (length front) lines log_is tears uncut

  -- the rings as the card is to be judged
  settled-in : RingedIn o done s w.within.b.run.log front (log_of told) spans old.keeper.odometer t (seats_of mid) e
  settled-in = go-on-in d e o done s w.within.b.run.log front (log_of before) (log_of told) spans old.keeper.odometer t (seats_of old) (seats_of mid) rings.ringed told-on.more told-on.same leaves left places fewer

  -- and so it is as the card is judged
  pub odometer-mid : (waits : List Visit) (x : RunWithin o done s (In (suc (length front))) waits [] mid told e) → x.within.b ≡ w.within.b →
      IsOdometerOf (with_second spans old.keeper.odometer t) s.number (odometer_by mid.keeper.odometer (travelled_of x.within.sp))
  odometer-mid waits x same = record {
    at = ap (λ (b : ℕ). odometer_by b (travelled_of x.within.sp)) same_odometer
        ∙ sym (odometer-here o done s (In (suc (length front))) waits [] (values_of mid told) e x.within front (log_of told) spans old.keeper.odometer t (seats_of mid)
        (subst (λ (b : Beginning). RingedIn o done s b.run.log front (log_of told) spans old.keeper.odometer t (seats_of mid) e) (sym same) settled-in) rings.base);
    reads = insertion-reads o done s (In (suc (length front))) waits [] (values_of mid told) e x.within spans old.keeper.odometer t
        (subst (λ (b : Beginning). AreSpansNow done s b.run.log spans old.keeper.odometer t) (sym same) (spans-here o done s w.within.b.run.log front old (log_of before) spans t d rings))
        (odometer_by mid.keeper.odometer (travelled_of x.within.sp)) (ap (λ (b : ℕ). odometer_by b (travelled_of x.within.sp)) same_odometer);
  }

  -- no card was found in it yet
  none-told : found_in (log_of told) s.number (In (suc (length front))) slot ≡ []
  none-told = told-on.beside.found (In (suc (length front))) slot ∙ w.within.moment.up_to.found (In (suc (length front))) slot (omega arith)

  longer : length front + 1 ≡ suc (length front)
  longer = omega arith

  -- WHAT IT NOTES, by a log in which it begins, and in which it was allowed
  notes-none : (log : RunLog) → begins (cut_in log s.number) (length front) ≡ true → refusal (course_behind log (went w.within.b.run.log done).before s front).slots s.speed (Insert slot card) ≡ None →
      filter is_accepting (found_in log s.number (In (suc (length front))) slot) ≡ [] → NotesMore log (went w.within.b.run.log done).before s front (Insert slot card) []
  notes-none log begun fine none =
      subst (λ (l : List Note). NotesMore log (went w.within.b.run.log done).before s front (Insert slot card) l)
      (none-noted s.number slot card (found_in log s.number (In (length front + 1)) slot) (ap (λ (k : ℕ). filter is_accepting (found_in log s.number (In k) slot)) longer ∙ none))
      (insertions log (went w.within.b.run.log done).before s front begun slot card fine)

  -- no more insertions were noted than finds were told
  pub counted-told : mid.noted ≤ length (log_of told).finds
  counted-told =
      let few : old.noted ≤ length (log_of before).finds = rings.counted in
      let finds : length (log_of told).finds ≡ length (log_of before).finds = ap (λ (l : RunLog). length l.finds) log_is in
      omega (arith, few, finds, same_noted)

  -- ---- THE UNIT FAILED in the minutes before
  told-cut : IsCutIn w.within.b.run.log (log_of before) (with_cut (log_of told) s (front ++ Insert slot card ∷ [])) done s front (Insert slot card) rest
  told-cut = is-cut (log_of before) (log_of told) s front rest (Insert slot card) are uncut told-on.more told-on.same told-on.uncut o done (In (length front)) [] None [] (values_of old before) d w.within told-on.here

  pub unsettled-ringed : RingsGoOn true o done s w.within.b (front ++ Insert slot card ∷ []) mid (log_of told) spans t e
  unsettled-ringed =
      let cut : RunLog = with_cut (log_of told) s (front ++ Insert slot card ∷ []) in
      record {
        counted = counted-told;
        lines = since-begun o done s (In (length front)) [] None [] (values_of old before) d w.within (log_of told) told-on.more;
        behind = told-cut.behind;
        odometer = same_odometer ∙ w.odometer;
        ringed = subst (λ (b : ℕ). RingedBehind o (done ++ s ∷ []) cut (suc s.number) (spans_cut spans b cut done s) nobody e) (sym same_odometer)
            (action-cut d e o done s w.within.b.run.log (log_of before) cut front (Insert slot card) rest spans old.keeper.odometer t (seats_of old) rings.ringed told-cut
            (notes-none cut told-cut.goes.begun
            (ap (λ c. refusal c.slots s.speed (Insert slot card)) (course-cut (log_of before) (log_of told) s front rest (Insert slot card) are uncut told-on.more told-on.same told-on.uncut was) ∙ allowed)
            (ap (filter is_accepting) (cut-found_ (log_of told) told-on.uncut) ∙ ap (filter is_accepting) none-told)) leaves left (stay-may o (with_second spans old.keeper.odometer t) (FailsBy w.within.b.run.log done cut s (front ++ Insert slot card ∷ [])) d e places));
      }
    where
      cut-found_ : (later : RunLog) → cut_in later s.number ≡ None → found_in (with_cut later s (front ++ Insert slot card ∷ [])) s.number (In (suc (length front))) slot ≡ found_in later s.number (In (suc (length front))) slot
      cut-found_ later none = cut-found later s.number (length (front ++ Insert slot card ∷ [])) none (In (suc (length front))) slot

  -- ---- or the card is judged
  module _ (failed : Bool) (new : Run) (after : Outcome) (f : Devices) (j : IsJudgedInRings failed (since_in o w.within.b.run.log done s) s (suc (length front)) slot card (with_second spans old.keeper.odometer t) mid new told after e f) where
    uncut-after : cut_in (log_of after) s.number ≡ None
    uncut-after = j.cut ∙ told-on.uncut

    more-after : HasMoreBreaks (log_of told) (log_of after)
    more-after = here-more (log_of told) (log_of after) s.number j.here

    same-after : TellSameTo (log_of told) (log_of after) s.number (length front)
    same-after = j.same (length front) refl

    goes : GoesOnTo (log_of told) (log_of after) s front
    goes = goes-to (log_of told) (log_of after) s front rest (Insert slot card) are told-on.uncut more-after same-after uncut-after

    told-course : (course_in w.within.b done s (In (length front)) (log_of told)) ≡ (course_in w.within.b done s (In (length front)) (log_of before))
    told-course = sym (behind-told (log_of told) told-on.same told-on.uncut) ∙ course-then (log_of before) (log_of told) s front rest (Insert slot card) are uncut told-on.more told-on.same told-on.uncut was
      where
        behind-told : (later : RunLog) → TellSameTo (log_of before) later s.number (length front) → cut_in later s.number ≡ None → course_behind later was s front ≡ course_in w.within.b done s (In (length front)) later
        behind-told later same none = course-then later later s front rest (Insert slot card) are none ([], sym (append-nil later.breaks)) (record { begun = same.begun_later; begun_later = same.begun_later; torn = λ k x le. refl; found = λ k x le. refl }) none was

    fine : refusal (course_in w.within.b done s (In (length front)) (log_of told)).slots s.speed (Insert slot card) ≡ None
    fine = ap (λ c. refusal c.slots s.speed (Insert slot card)) told-course ∙ allowed

    fine-after : refusal (course_behind (log_of after) (went w.within.b.run.log done).before s front).slots s.speed (Insert slot card) ≡ None
    fine-after = ap (λ c. refusal c.slots s.speed (Insert slot card)) (course-then (log_of told) (log_of after) s front rest (Insert slot card) are told-on.uncut more-after same-after uncut-after was) ∙ fine

    cuts : IsCutIn w.within.b.run.log (log_of told) (with_cut (log_of after) s (front ++ Insert slot card ∷ [])) done s front (Insert slot card) rest
    cuts = is-cut (log_of told) (log_of after) s front rest (Insert slot card) are told-on.uncut more-after same-after uncut-after o done (In (length front)) [] None [] (values_of old before) d w.within
        (here-then (log_of before) (log_of told) (log_of after) s.number told-on.here j.here)

    fine-cut : refusal (course_behind (with_cut (log_of after) s (front ++ Insert slot card ∷ [])) (went w.within.b.run.log done).before s front).slots s.speed (Insert slot card) ≡ None
    fine-cut = ap (λ c. refusal c.slots s.speed (Insert slot card)) (course-cut (log_of told) (log_of after) s front rest (Insert slot card) are told-on.uncut more-after same-after uncut-after was) ∙ fine

    found-cut : found_in (with_cut (log_of after) s (front ++ Insert slot card ∷ [])) s.number (In (suc (length front))) slot ≡ found_in (log_of after) s.number (In (suc (length front))) slot
    found-cut = cut-found (log_of after) s.number (length (front ++ Insert slot card ∷ [])) uncut-after (In (suc (length front))) slot

    -- which session the card may tell, by the log behind it, or by one with a cut more
    abbrev acceptance : Acceptance
    acceptance = record { second = s.number; slot = slot; card = card }

    abbrev verdicts : List Verdict
    verdicts = found_in (log_of after) s.number (In (suc (length front))) slot

    cut-more : HasMoreBreaks (log_of after) (with_cut (log_of after) s (front ++ Insert slot card ∷ []))
    cut-more = (cut_at s.number true (length (front ++ Insert slot card ∷ [])) ∷ [], refl)

    none-more : HasMoreBreaks (log_of after) (log_of after)
    none-more = ([], sym (append-nil (log_of after).breaks))

    -- the unit did not fail, or did as the cut tells
    not-failed : failed ≡ false → failed ≡ true → has_call_failed_in (log_of after) s.number ≡ true
    not-failed well is = absurd (let wrong : false ≡ true = sym well ∙ is in cc)

    cut-fails : failed ≡ true → has_call_failed_in (with_cut (log_of after) s (front ++ Insert slot card ∷ [])) s.number ≡ true
    cut-fails is = call-failed (with_cut (log_of after) s (front ++ Insert slot card ∷ [])) s.number cuts.failed

    -- it was put in, by either log
    put-after : Contains (moves_to (log_of after) was s (front ++ Insert slot card ∷ [])) (goes_in s.number card)
    put-after = put-moves (log_of after) was s front goes.begun slot card fine-after

    put-cut : Contains (moves_to (with_cut (log_of after) s (front ++ Insert slot card ∷ [])) was s (front ++ Insert slot card ∷ [])) (goes_in s.number card)
    put-cut = put-moves (with_cut (log_of after) s (front ++ Insert slot card ∷ [])) was s front cuts.goes.begun slot card fine-cut

    by : (b : Bool) → failed ≡ b → JudgedInRings b (since_in o w.within.b.run.log done s) (record { second = s.number; slot = slot; card = card }) (found_in (log_of after) s.number (In (suc (length front))) slot) (with_second spans old.keeper.odometer t) (seats_of mid) (seats_of new) e f →
        RingsGoOn b o done s w.within.b (front ++ Insert slot card ∷ []) new (log_of after) spans t f
    by false well h = record {
      base = subst (λ (b : ℕ). IsLastFrom b (with_second spans b t)) (sym (j.odometer ∙ same_odometer)) rings.base;
      counted = j.counted;
      ringed = subst (λ (b : ℕ). RingedIn o done s w.within.b.run.log (front ++ Insert slot card ∷ []) (log_of after) spans b t (seats_of new) f) (sym (j.odometer ∙ same_odometer)) (⊎_elim
          (λ p. passes e f o done s w.within.b.run.log (log_of told) (log_of after) front (Insert slot card) spans old.keeper.odometer t (seats_of mid) (seats_of new) settled-in goes (notes-none (log_of after) goes.begun fine-after p.none) p.stays j.left (cards-fail o (with_second spans old.keeper.odometer t) e f failed (log_of after) (log_of after) none-more acceptance verdicts j.places (not-failed well) (moves_to (log_of after) was s (front ++ Insert slot card ∷ [])) put-after p.none) p.fewer_sit)
          (λ i. card-accepted e f o done s w.within.b.run.log (log_of told) (log_of after) front spans old.keeper.odometer t (seats_of mid) i.now (seats_of new) settled-in goes slot card fine-after i.verdict
          (ap (λ (k : ℕ). found_in (log_of after) s.number (In k) slot) longer ∙ i.found) i.accepting i.head i.index i.writes i.inserts.long (i.inserts.is (log_of after)) i.seated j.left (cards-open o (with_second spans old.keeper.odometer t) e f failed (log_of after) (log_of after) none-more acceptance verdicts j.places (not-failed well)) (j.opens well i.verdict i.found i.accepting) i.fewer_sit)
          h);
    }
    by true ill h =
        let cut : RunLog = with_cut (log_of after) s (front ++ Insert slot card ∷ []) in
        record {
          counted = j.counted;
          lines = since-begun o done s (In (length front)) [] None [] (values_of old before) d w.within (log_of after) (here-more (log_of before) (log_of after) s.number (here-then (log_of before) (log_of told) (log_of after) s.number told-on.here j.here));
          behind = cuts.behind;
          odometer = j.odometer ∙ same_odometer ∙ w.odometer;
          ringed = subst (λ (b : ℕ). RingedBehind o (done ++ s ∷ []) cut (suc s.number) (spans_cut spans b cut done s) nobody f) (sym (j.odometer ∙ same_odometer)) (⊎_elim
              (λ p. action-cut e f o done s w.within.b.run.log (log_of told) cut front (Insert slot card) rest spans old.keeper.odometer t (seats_of mid) settled-in cuts (notes-none cut cuts.goes.begun fine-cut (ap (filter is_accepting) found-cut ∙ p.0)) p.1 j.left (cards-fail o (with_second spans old.keeper.odometer t) e f failed (log_of after) cut cut-more acceptance verdicts j.places cut-fails (moves_to cut was s (front ++ Insert slot card ∷ [])) put-cut p.0))
              (λ i. acceptance-is-cut e f o done s w.within.b.run.log (log_of told) cut front rest spans old.keeper.odometer t (seats_of mid) settled-in slot card cuts fine-cut i.verdict
              (ap (λ (k : ℕ). found_in cut s.number (In k) slot) longer ∙ found-cut ∙ i.found) i.accepting i.head i.writes i.inserts.long (i.inserts.is cut) j.left (cards-open o (with_second spans old.keeper.odometer t) e f failed (log_of after) cut cut-more acceptance verdicts j.places cut-fails))
              h);
        }

    -- SO THE RINGS GO ON
    pub inserted-ringed : RingsGoOn failed o done s w.within.b (front ++ Insert slot card ∷ []) new (log_of after) spans t f
    inserted-ringed = by failed refl j.rings
