-- The uses that are found on the cards of a second, by its log so far.
use Rattle.std.proofs.Common.{◌≡◌, ◌∙◌, ℕ, ◌≤◌, true, false, Option, Some, None, List, [], ◌++◌, length, refl, sym, ap}
use Rattle.activity_codec.specs.declared.values.Slot.{Slot}
use Rattle.activity_codec.specs.declared.values.Slot.TheVariants.{Driver, CoDriver}
use Rattle.trace_model.specs.declared.Card.{Card}
use Rattle.trace_model.specs.declared.Action.{Action}
use Rattle.trace_model.specs.Trace.{TraceSecond}
use Rattle.card_files.specs.declared.current_use.CurrentUse.{CurrentUse}
use Rattle.log_model.specs.declared.lines.Break.{Break}
use Rattle.log_model.specs.declared.lines.Verdict.{Verdict}
use Rattle.log_model.specs.Log.{RunLog, In, found_in}
use Rattle.log_model.specs.Slots.{Sitting, same_card}
use Rattle.log_model.specs.Course.{has_power, went}
use Rattle.unit_notes.specs.note_model.Noted.{Note}
use Rattle.device_calls.specs.safety_model.Recording.{card_image}
use Rattle.device_calls.specs.safety_model.Safe.{Devices}
use Rattle.device_calls.specs.run_unit_course.Lines.{cut_at}
use Rattle.run_events.specs.run_course.Moments.{and_break}
use Rattle.run_events.specs.run_rings.Notes.{notes_to, TellSameTo, accepts_by, sits_accepted}
use Rattle.run_events.proofs.run_rings.Notes.{later-lines}
use Rattle.run_events.proofs.run_rings.Actions.{power-notes}
use Rattle.run_minutes.specs.run_promise.Origin.{Origin, rule_of, start_at, first_of}
use Rattle.run_events.specs.run_course.Followed.{Progress, BookFollowsRun}
use Rattle.run_events.proofs.run_course.Reached.{nothing-told}
use Rattle.run_note_record.specs.Uses.{uses_from, insertions_on, insertions_at, notes_in, notes_now, vehicle_in, use_in, uses_in, use_now}
use Rattle.run_note_record.proofs.Uses.{uses-append, uses-quiet, accepted-insertions, accepts-other, card-is, card-turned}
use Rattle.run_note_record.proofs.UsesSoFar.{FoundTo, uses-to}
use Rattle.run_acts.proofs.CardShown.{FindsUses, FindsStill}
use Rattle.run_acts.proofs.AllStay.{StoodBefore, known-fewer, known-uncut, no-cut}

-- where nothing was found no card is accepted
pub none-sits : (u : ℕ) (slot : Slot) (x : Option Sitting) → sits_accepted u slot x [] ≡ []
none-sits u slot None = refl
none-sits u slot (Some x) = refl

-- ---- A SECOND, by its log so far

module _ (o : Origin) (began : RunLog) (done : List TraceSecond) (s : TraceSecond) (power : has_power (went began done).before s ≡ true) where
  abbrev early : List Note
  early = notes_in began done

  -- ---- A CARD IS JUDGED: it is noted where it is accepted
  module _ (log later : RunLog) (front rest : List Action) (are : s.actions ≡ front ++ rest) (to : FoundTo log s.number (length front)) (to_later : FoundTo later s.number (length front))
      (slot : Slot) (card : Card) (verdicts : List Verdict) (noted : early ++ notes_to later (went began done).before s front ≡ (early ++ notes_to log (went began done).before s front) ++ accepts_by s.number slot card verdicts) where
    abbrev so_far : List Note
    so_far = early ++ notes_to log (went began done).before s front

    -- of another card the same uses were found
    pub others-found : (c : Card) → same_card card c ≡ false → uses_in o c (notes_now began done later s) ≡ uses_in o c (notes_now began done log s)
    others-found c other =
        uses-to o began done s power c later front rest are to_later ∙ ap (uses_in o c) noted
        ∙ uses-quiet (vehicle_in o) c (use_in (card_image o.recording c)) so_far (accepts_by s.number slot card verdicts) (accepts-other c s.number slot card verdicts (card-turned c card ∙ other))
        ∙ sym (uses-to o began done s power c log front rest are to)

    -- and of this card the use that it has now, more
    pub mine-found : (c : Card) → same_card card c ≡ true → uses_in o c (notes_now began done later s) ≡ uses_in o c (notes_now began done log s) ++ uses_from (vehicle_in o) (use_now o c so_far) (insertions_at s.number slot c verdicts)
    mine-found c own =
        uses-to o began done s power c later front rest are to_later ∙ ap (uses_in o c) noted
        ∙ ap (λ (q : Card). uses_in o c (so_far ++ accepts_by s.number slot q verdicts)) (card-is card c own)
        ∙ ap (uses_from (vehicle_in o) (use_in (card_image o.recording c))) (accepted-insertions c so_far s.number slot verdicts)
        ∙ uses-append (vehicle_in o) (use_in (card_image o.recording c)) (insertions_on c so_far) (insertions_at s.number slot c verdicts)
        ∙ ap (λ (l : List CurrentUse). l ++ uses_from (vehicle_in o) (use_now o c so_far) (insertions_at s.number slot c verdicts)) (sym (uses-to o began done s power c log front rest are to))

  -- LINES behind these of its actions, of which none tells of a find
  pub still-found : (c : Card) (log later : RunLog) (front rest : List Action) → s.actions ≡ front ++ rest → TellSameTo log later s.number (length front) → FoundTo log s.number (length front) → FoundTo later s.number (length front) →
      uses_in o c (notes_now began done later s) ≡ uses_in o c (notes_now began done log s)
  still-found c log later front rest are same to to_later =
      uses-to o began done s power c later front rest are to_later
      ∙ ap (λ (l : List Note). uses_in o c (early ++ l)) (later-lines log later (went began done).before s front same)
      ∙ sym (uses-to o began done s power c log front rest are to)

  -- lines at a power-on that tell of no find
  pub woken-found : (went began done).before.running ≡ false → (c : Card) (log later : RunLog) → ((k : ℕ) (slot : Slot) → found_in later s.number (In k) slot ≡ found_in log s.number (In k) slot) → FoundTo log s.number 0 →
      uses_in o c (notes_now began done later s) ≡ uses_in o c (notes_now began done log s)
  woken-found off c log later same to =
      uses-to o began done s power c later [] s.actions refl (λ k slot lt. same k slot ∙ to k slot lt)
      ∙ ap (λ (l : List Note). uses_in o c (early ++ l))
      ((power-notes later (went began done).before s).0 off
      ∙ (λ i. sits_accepted s.number Driver (went began done).before.slots.driver (same 0 Driver i) ++ sits_accepted s.number CoDriver (went began done).before.slots.codriver (same 0 CoDriver i))
      ∙ sym ((power-notes log (went began done).before s).0 off))
      ∙ sym (uses-to o began done s power c log [] s.actions refl to)

-- ---- lines that are told behind what was found so far, over calls: no use is found more
pub lines-still : (o : Origin) (began : RunLog) (done : List TraceSecond) (s : TraceSecond) → has_power (went began done).before s ≡ true → (log later : RunLog) (front rest : List Action) → s.actions ≡ front ++ rest → TellSameTo log later s.number (length front) → FoundTo log s.number (length front) → FoundTo later s.number (length front) →
    (lines : List Break) → later.breaks ≡ log.breaks ++ lines → (d e : Devices) → StoodBefore o d e → (c : Card) → FindsStill o c log later d e (uses_in o c (notes_now began done log s)) (uses_in o c (notes_now began done later s))
lines-still o began done s power log later front rest are same to to_later lines more d e stood c whose in_ known = (
  known-fewer whose o log later lines d e more stood known,
  still-found o began done s power c log later front rest are same to to_later,
)

-- the unit failed: of no card anything is known then
pub cut-unknown : (o : Origin) (c : Card) (log first : RunLog) (u begun : ℕ) (d e : Devices) (was more found : List CurrentUse) → FindsUses o c first (and_break log (cut_at u true begun)) d e was more found
cut-unknown o c log first u begun d e was more found whose in_ known = no-cut log u begun (known-uncut whose o (and_break log (cut_at u true begun)) e known)

pub cut-still : (o : Origin) (c : Card) (log first : RunLog) (u begun : ℕ) (d e : Devices) (was found : List CurrentUse) → FindsStill o c first (and_break log (cut_at u true begun)) d e was found
cut-still o c log first u begun d e was found whose in_ known = no-cut log u begun (known-uncut whose o (and_break log (cut_at u true begun)) e known)

-- a run has told of no find in a later second
pub untold-to : (o : Origin) (done : List TraceSecond) (p : Progress) → BookFollowsRun (rule_of o) (start_at o) o.from (first_of o) done p → (u : ℕ) → p.next ≤ u → (n : ℕ) → FoundTo p.log u n
untold-to o done p f u le n k slot lt = (nothing-told (rule_of o) (start_at o) o.from (first_of o) done p f u le).found (In k) slot
