-- The rings over a power-on.
use Rattle.std.proofs.Common.{◌≡◌, ◌⊎◌, inl, inr, ℕ, zero, suc, ◌&&◌, ◌||◌, Bool, true, false, cond, Option, Some, None, List, [], ◌∷◌, ◌++◌, map, refl, ap, sym, subst, ◌∙◌, arith, append-nil, append_assoc}
use Rattle.std.specs.Prelude.{filter, nat_eq}
use Rattle.std.specs.List.{list_any}
use Rattle.std.proofs.lemmas.List.Elements.{Contains-append_right}
use Rattle.run_events.specs.activity_codec.declared.values.Slot.{Slot}
use Rattle.run_events.specs.activity_codec.declared.values.Slot.TheVariants.{Driver, CoDriver}
use Rattle.run_devices.specs.trace_model.declared.Card.{Card}
use Rattle.run_devices.specs.trace_model.Trace.{TraceSecond}
use Rattle.run_devices.specs.log_model.declared.lines.Break.{Break}
use Rattle.run_devices.specs.log_model.declared.lines.Break.TheVariants.{Cut, Tear}
use Rattle.run_devices.specs.log_model.declared.lines.Verdict.{Verdict}
use Rattle.run_devices.specs.log_model.Causes.{is_cut, has_failed, second_of}
use Rattle.run_devices.specs.log_model.Log.{RunLog, In, found_in, is_accepting}
use Rattle.run_devices.specs.log_model.Slots.{Sitting, in_slot}
use Rattle.run_devices.specs.log_model.Course.{ToldSecond, Before, Went, went}
use Rattle.run_devices.specs.log_model.Spans.{spans_of}
use Rattle.run_devices.specs.run_unit_course.Lines.{found_from}
use Rattle.run_devices.specs.note_model.Done.{has_failed_in}
use Rattle.run_devices.specs.note_model.Odometer.{SpanFrom}
use Rattle.run_devices.specs.note_model.Noted.{Acceptance, Note, Accepts}
use Rattle.run_devices.specs.safety_model.Safe.{Devices}
use Rattle.run_events.specs.run_rings.Notes.{notes_to, sits_accepted}
use Rattle.run_events.specs.run_rings.Spans.{with_second}
use Rattle.run_events.proofs.run_rings.Same.{rings-left}
use Rattle.run_events.proofs.run_rings.Actions.{power-notes}
use Rattle.run_events.proofs.run_rings.Spans.{earlier-stay}
use Rattle.run_note_record.specs.Origin.{Origin}
use Rattle.run_note_record.specs.Beside.{HaveLeftMore}
use Rattle.run_note_record.specs.Moved.{Move, goes_in, IsPutIn, moves_to, moves_in, moves_so_far}
use Rattle.run_note_record.specs.Ringed.{Seating, Ringed, StaysInRings, notes_in, since_behind, since_at}
use Rattle.run_note_record.specs.RingsSoFar.{AreEarlier, RingedBehind, notes_so_far, RingedIn, HasMoreBreaks, GoesBehind}
use Rattle.run_note_record.specs.Steps.{FailsBy, nobody}
use Rattle.run_note_record.specs.Waking.{NoneFound, PowerBeginsInRings, IsFoundAnew, ASlotIsPassedAnew, ACardIsAcceptedAnew, AnAcceptanceIsCutAnew}
use Rattle.run_note_record.specs.OnCards.{has_call_failed_in, CardsStay}
use Rattle.run_note_record.proofs.OnCards.{call-failed-more, stay-itself}
use Rattle.run_note_record.proofs.Readings.{reads-with}
use Rattle.run_note_record.proofs.Noted.{notes-alike}
use Rattle.run_note_record.proofs.Moved.{moves-alike, woken-moves}
use Rattle.run_note_record.proofs.Rings.{fewer-sit, rings-stay}
use Rattle.run_note_record.proofs.Around.{insertion-around, insertion-cut}
use Rattle.run_note_record.specs.Sessions.{IsBrokenSince}
use Rattle.run_note_record.proofs.Sessions.{go-more, stay-may, fails-since}
use Rattle.run_note_record.proofs.SoFar.{left-itself, early-so-far, failed-more, goes-alike, goes-earlier, cut-ends, come-in}

-- nothing was found of it
none-sits : (u : ℕ) (slot : Slot) (o : Option Sitting) → sits_accepted u slot o [] ≡ []
none-sits u slot None = refl
none-sits u slot (Some x) = refl

-- no card that is accepted
none-accepted : (u : ℕ) (slot : Slot) (o : Option Sitting) (found : List Verdict) → (o ≡ None) ⊎ (filter is_accepting found ≡ []) → sits_accepted u slot o found ≡ []
none-accepted u slot o found (inl empty) = ap (λ (x : Option Sitting). sits_accepted u slot x found) empty
none-accepted u slot None found (inr none) = refl
none-accepted u slot (Some x) found (inr none) = ap (λ (vs : List Verdict). map (λ (v : Verdict). Accepts (record { second = u; slot = slot; card = x.card })) vs) none

-- WHAT A POWER-ON NOTES, slot by slot
nothing-noted : (log : RunLog) (before : Before) (s : TraceSecond) → before.running ≡ false → NoneFound log s.number → notes_to log before s [] ≡ []
nothing-noted log before s off none =
    (power-notes log before s).0 off
    ∙ ap (λ (vs : List Verdict). sits_accepted s.number Driver before.slots.driver vs ++ sits_accepted s.number CoDriver before.slots.codriver (found_in log s.number (In 0) CoDriver)) (none Driver)
    ∙ ap (λ (l : List Note). l ++ sits_accepted s.number CoDriver before.slots.codriver (found_in log s.number (In 0) CoDriver)) (none-sits s.number Driver before.slots.driver)
    ∙ ap (sits_accepted s.number CoDriver before.slots.codriver) (none CoDriver)
    ∙ none-sits s.number CoDriver before.slots.codriver

slot-notes : (log later : RunLog) (before : Before) (s : TraceSecond) → before.running ≡ false → (slot : Slot) (found : List Verdict) → IsFoundAnew log later s.number slot found →
    notes_to later before s [] ≡ notes_to log before s [] ++ sits_accepted s.number slot (in_slot before.slots slot) found
slot-notes log later before s off Driver found (none, driver, codriver) =
    (power-notes later before s).0 off
    ∙ ap (λ (vs : List Verdict). sits_accepted s.number Driver before.slots.driver vs ++ sits_accepted s.number CoDriver before.slots.codriver (found_in later s.number (In 0) CoDriver)) driver
    ∙ ap (λ (vs : List Verdict). sits_accepted s.number Driver before.slots.driver found ++ sits_accepted s.number CoDriver before.slots.codriver vs) codriver
    ∙ ap (λ (l : List Note). sits_accepted s.number Driver before.slots.driver found ++ l) (none-sits s.number CoDriver before.slots.codriver)
    ∙ append-nil (sits_accepted s.number Driver before.slots.driver found)
    ∙ ap (λ (l : List Note). l ++ sits_accepted s.number Driver before.slots.driver found) (sym (nothing-noted log before s off none))
slot-notes log later before s off CoDriver found (driver, none, codriver) =
    let own : List Note = sits_accepted s.number Driver before.slots.driver (found_in log s.number (In 0) Driver) in
    let other : List Note = sits_accepted s.number CoDriver before.slots.codriver found in
    let log_is : notes_to log before s [] ≡ own =
    (power-notes log before s).0 off
    ∙ ap (λ (vs : List Verdict). own ++ sits_accepted s.number CoDriver before.slots.codriver vs) none
    ∙ ap (λ (l : List Note). own ++ l) (none-sits s.number CoDriver before.slots.codriver)
    ∙ append-nil own in
    (power-notes later before s).0 off
    ∙ ap (λ (vs : List Verdict). sits_accepted s.number Driver before.slots.driver vs ++ sits_accepted s.number CoDriver before.slots.codriver (found_in later s.number (In 0) CoDriver)) driver
    ∙ ap (λ (vs : List Verdict). own ++ sits_accepted s.number CoDriver before.slots.codriver vs) codriver
    ∙ ap (λ (l : List Note). l ++ other) (sym log_is)

-- POWER BEGINS
pub power-begins : (d : Devices) → PowerBeginsInRings d
power-begins d o done s began spans base t seats fewer v off none second few =
    let now : List SpanFrom = with_second spans base t in
    let notes : List Note = notes_in began done in
    let are : notes ++ notes_to began (went began done).before s [] ≡ notes = ap (λ (l : List Note). notes ++ l) (nothing-noted began (went began done).before s off none) ∙ append-nil notes in
    let earlier = goes-earlier began spans now s.number notes v.early (λ u lt. earlier-stay spans base t u (let is = second.number in omega (arith, lt, is))) (reads-with spans base t) in
    let ringed : Ringed (since_at o began done began s []) began now notes seats d = rings-stay d d (since_at o began done began s []) began began spans now notes seats (come-in d o began done s spans notes seats v.ringed) (rings-left d.unit) (left-itself o d)
    (stay-may o now (λ c t. IsBrokenSince (moves_so_far began done began s []) began c notes t) d d (stay-itself o now d)) earlier in
    record {
      spans_are = v.spans_are;
      before = v.before;
      early = v.early;
      second = second;
      ringed = subst (λ (l : List Note). Ringed (since_at o began done began s []) began now l fewer d) (sym are) (fewer-sit d (since_at o began done began s []) began now notes seats fewer ringed few);
    }

module _ (d e : Devices) (o : Origin) (done : List TraceSecond) (s : TraceSecond) (began log later : RunLog) (spans : List SpanFrom) (base : ℕ) (t : ToldSecond) (seats : Card → Option Seating) (v : RingedIn o done s began [] log spans base t seats d) (more : HasMoreBreaks log later) where
  -- the lines alone, before any call: what power moves that begins goes by no line
  lines-anew : Ringed (since_at o began done later s []) later (with_second spans base t) (notes_so_far began done log s []) seats d
  lines-anew =
      let now : List SpanFrom = with_second spans base t in
      let notes : List Note = notes_so_far began done log s [] in
      rings-stay d d (since_at o began done later s []) log later now now notes seats v.ringed (rings-left d.unit) (left-itself o d) (stay-may o now (λ c t. IsBrokenSince (moves_so_far began done later s []) later c notes t) d d (stay-itself o now d)) (goes-alike log later now now notes (failed-more log later more) (call-failed-more log later more) (λ u. refl) (λ u n is. is))

  -- this is noted
  noted-anew : (fewer : Card → Option Seating) (noted : List Note) → notes_to later (went began done).before s [] ≡ notes_to log (went began done).before s [] ++ noted →
      Ringed (since_at o began done later s []) later (with_second spans base t) (notes_so_far began done log s [] ++ noted) fewer e → RingedIn o done s began [] later spans base t fewer e
  noted-anew fewer noted is ringed = record {
    spans_are = v.spans_are;
    before = v.before;
    early = v.early;
    second = v.second;
    ringed = subst (λ (l : List Note). Ringed (since_at o began done later s []) later (with_second spans base t) l fewer e)
        (append_assoc (notes_in began done) (notes_to log (went began done).before s []) noted ∙ ap (λ (l : List Note). notes_in began done ++ l) (sym is)) ringed;
  }

-- A SLOT IS LEFT
pub passed-anew : (d e : Devices) → ASlotIsPassedAnew d e
passed-anew d e o done s began log later spans base t seats fewer v off more slot found is none stays left cards few =
    let now : List SpanFrom = with_second spans base t in
    let notes : List Note = notes_so_far began done log s [] in
    let before : Before = (went began done).before in
    let moves : List Move = moves_so_far began done later s [] in
    let broken = go-more o now (FailsBy began done later s []) (λ c t. IsBrokenSince moves later c notes t) d e
    (fails-since later s.number (moves_to later before s []) moves (λ m at. Contains-append_right (moves_in began done) (moves_to later before s []) m at) notes (early-so-far done s began log [] v.early)) cards in
    let ringed : Ringed (since_at o began done later s []) later now notes seats e = rings-stay d e (since_at o began done later s []) log later now now notes seats v.ringed stays left broken (goes-alike log later now now notes (failed-more log later more) (call-failed-more log later more) (λ u. refl) (λ u n is. is)) in
    let noted = slot-notes log later before s off slot found is ∙ ap (λ (l : List Note). notes_to log before s [] ++ l) (none-accepted s.number slot (in_slot before.slots slot) found none) in
    noted-anew d e o done s began log later spans base t seats v more fewer [] noted
    (subst (λ (l : List Note). Ringed (since_at o began done later s []) later now l fewer e) (sym (append-nil notes)) (fewer-sit e (since_at o began done later s []) later now notes seats fewer ringed few))

-- A CARD IS ACCEPTED
one-anew : (log later : RunLog) (before : Before) (s : TraceSecond) → before.running ≡ false → (slot : Slot) (x : Sitting) → in_slot before.slots slot ≡ Some x → (v : Verdict) → IsFoundAnew log later s.number slot (v ∷ []) → is_accepting v ≡ true →
    notes_to later before s [] ≡ notes_to log before s [] ++ Accepts (record { second = s.number; slot = slot; card = x.card }) ∷ []
one-anew log later before s off slot x sits v found accepting =
    let front : List Note = notes_to log before s [] in
    slot-notes log later before s off slot (v ∷ []) found
    ∙ ap (λ (y : Option Sitting). front ++ sits_accepted s.number slot y (v ∷ [])) sits
    ∙ ap (λ (b : Bool). front ++ map (λ (w : Verdict). Accepts (record { second = s.number; slot = slot; card = x.card })) (cond b (v ∷ []) [])) accepting

pub accepted-anew : (d e : Devices) → ACardIsAcceptedAnew d e
accepted-anew d e o done s began log later spans base t seats now_ fewer v off more slot x sits verdict found accepting head index writes long is each left cards opens few =
    let now : List SpanFrom = with_second spans base t in
    let notes : List Note = notes_so_far began done log s [] in
    let n : Acceptance = record { second = s.number; slot = slot; card = x.card } in
    let put : IsPutIn (moves_so_far began done later s []) x.card s.number = Contains-append_right (moves_in began done) (moves_to later (went began done).before s []) (goes_in s.number x.card) (woken-moves later (went began done).before s off slot x sits) in
    let r : Ringed (since_at o began done later s []) later now (notes ++ Accepts n ∷ []) now_ e = insertion-around d e (since_at o began done later s []) later now notes seats now_ (lines-anew d e o done s began log later spans base t seats v more) left n put cards opens head index writes long is each in
    noted-anew d e o done s began log later spans base t seats v more fewer (Accepts n ∷ []) (one-anew log later (went began done).before s off slot x sits verdict found accepting)
    (fewer-sit e (since_at o began done later s []) later now (notes ++ Accepts n ∷ []) now_ fewer r few)

pub cut-anew : (d e : Devices) → AnAcceptanceIsCutAnew d e
cut-anew d e o done s began log cut spans base t seats v off more slot x sits verdict found accepting behind power is_cut failed head writes long is left cards =
    let now : List SpanFrom = with_second spans base t in
    let notes : List Note = notes_so_far began done log s [] in
    let n : Acceptance = record { second = s.number; slot = slot; card = x.card } in
    let put : IsPutIn (moves_so_far began done cut s []) x.card s.number = Contains-append_right (moves_in began done) (moves_to cut (went began done).before s []) (goes_in s.number x.card) (woken-moves cut (went began done).before s off slot x sits) in
    let r : Ringed (since_at o began done cut s []) cut now (notes ++ Accepts n ∷ []) nobody e = insertion-cut d e (since_at o began done cut s []) cut now notes seats (lines-anew d e o done s began log cut spans base t seats v more) left n put cards head writes long is failed in
    let w : RingedIn o done s began [] cut spans base t nobody e = noted-anew d e o done s began log cut spans base t seats v more nobody (Accepts n ∷ []) (one-anew log cut (went began done).before s off slot x sits verdict found accepting) r in
    cut-ends e o done s began cut [] s.actions spans base t nobody nobody w behind power refl is_cut (λ c. inl refl)

-- ---- BETWEEN TWO SECONDS

-- calls that write no ring leave it
pub behind-stays : (d e : Devices) (o : Origin) (done : List TraceSecond) (log : RunLog) (next : ℕ) (spans : List SpanFrom) (seats : Card → Option Seating) → RingedBehind o done log next spans seats d → StaysInRings d e → HaveLeftMore o d e → CardsStay o spans d e → RingedBehind o done log next spans seats e
behind-stays d e o done log next spans seats v stays left cards = record {
  spans_are = v.spans_are;
  before = v.before;
  early = v.early;
  ringed = rings-stay d e (since_behind o log done) log log spans spans (notes_in log done) seats v.ringed stays left (stay-may o spans (λ c t. IsBrokenSince (moves_in log done) log c (notes_in log done) t) d e cards) (goes-alike log log spans spans (notes_in log done) (λ u has. has) (λ u has. has) (λ u. refl) (λ u n is. is));
}

-- and so does another log that tells the same of these seconds
pub behind-alike : (d : Devices) (o : Origin) (done : List TraceSecond) (log later : RunLog) (next : ℕ) (spans : List SpanFrom) (seats : Card → Option Seating) → RingedBehind o done log next spans seats d → GoesBehind log later done →
    ((u : ℕ) → has_failed_in log u ≡ true → has_failed_in later u ≡ true) → ((u : ℕ) → has_call_failed_in log u ≡ true → has_call_failed_in later u ≡ true) → RingedBehind o done later next spans seats d
behind-alike d o done log later next spans seats v behind failed fell =
    let same : notes_in later done ≡ notes_in log done = notes-alike log later done behind.same in
    let ringed : Ringed (since_behind o log done) later spans (notes_in log done) seats d = rings-stay d d (since_behind o log done) log later spans spans (notes_in log done) seats v.ringed (rings-left d.unit) (left-itself o d) (stay-may o spans (λ c t. IsBrokenSince (moves_in log done) later c (notes_in log done) t) d d (stay-itself o spans d)) (goes-alike log later spans spans (notes_in log done) failed fell (λ u. refl) (λ u n is. is)) in
    record {
      spans_are = v.spans_are ∙ ap (λ (w : Went). spans_of w.told) (sym behind.went_is);
      before = v.before;
      early = subst (λ (l : List Note). AreEarlier next l) (sym same) v.early;
      ringed = subst (λ (l : List Note). Ringed (since_behind o later done) later spans l seats d) (sym same)
          (subst (λ (w : Went). Ringed (record { origin = o; told = w.told; trace = done; moves = moves_in later done }) later spans (notes_in log done) seats d) (sym behind.went_is)
          (subst (λ (ms : List Move). Ringed (record { origin = o; told = (went log done).told; trace = done; moves = ms }) later spans (notes_in log done) seats d) (sym (moves-alike log later done behind.same)) ringed));
    }

-- what is found kept after the cuts tells of the same failures
failed-found : (i k u : ℕ) (bs : List Break) →
    list_any (λ (b : Break). nat_eq (second_of b) u) (filter (λ (b : Break). is_cut b && has_failed b) (found_from i k bs)) ≡ list_any (λ (b : Break). nat_eq (second_of b) u) (filter (λ (b : Break). is_cut b && has_failed b) bs)
failed-found zero k u [] = refl
failed-found zero k u (Cut s old true n ∷ bs) = ap (λ (x : Bool). nat_eq s u || x) (failed-found zero k u bs)
failed-found zero k u (Cut s old false n ∷ bs) = failed-found zero k u bs
failed-found zero k u (Tear s slot f n late ∷ bs) = failed-found zero k u bs
failed-found (suc i) k u [] = refl
failed-found (suc i) k u (Cut s old true n ∷ bs) = ap (λ (x : Bool). nat_eq s u || x) (failed-found i k u bs)
failed-found (suc i) k u (Cut s old false n ∷ bs) = failed-found i k u bs
failed-found (suc i) k u (Tear s slot f n late ∷ bs) = failed-found i k u bs

pub still-failed : (log : RunLog) (i k u : ℕ) → has_failed_in log u ≡ true → has_failed_in (record log { breaks = found_from i k log.breaks }) u ≡ true
still-failed log i k u has = failed-found i k u log.breaks ∙ has

calls-found : (i k u : ℕ) (bs : List Break) → list_any (λ (b : Break). nat_eq (second_of b) u) (filter has_failed (found_from i k bs)) ≡ list_any (λ (b : Break). nat_eq (second_of b) u) (filter has_failed bs)
calls-found zero k u [] = refl
calls-found zero k u (Cut s old true n ∷ bs) = ap (λ (x : Bool). nat_eq s u || x) (calls-found zero k u bs)
calls-found zero k u (Cut s old false n ∷ bs) = calls-found zero k u bs
calls-found zero k u (Tear s slot true n late ∷ bs) = ap (λ (x : Bool). nat_eq s u || x) (calls-found zero k u bs)
calls-found zero k u (Tear s slot false n late ∷ bs) = calls-found zero k u bs
calls-found (suc i) k u [] = refl
calls-found (suc i) k u (Cut s old true n ∷ bs) = ap (λ (x : Bool). nat_eq s u || x) (calls-found i k u bs)
calls-found (suc i) k u (Cut s old false n ∷ bs) = calls-found i k u bs
calls-found (suc i) k u (Tear s slot true n late ∷ bs) = ap (λ (x : Bool). nat_eq s u || x) (calls-found i k u bs)
calls-found (suc i) k u (Tear s slot false n late ∷ bs) = calls-found i k u bs

pub still-call-failed : (log : RunLog) (i k u : ℕ) → has_call_failed_in log u ≡ true → has_call_failed_in (record log { breaks = found_from i k log.breaks }) u ≡ true
still-call-failed log i k u has = calls-found i k u log.breaks ∙ has
