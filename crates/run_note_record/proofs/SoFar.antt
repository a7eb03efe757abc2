-- The rings within a second: how it begins, goes on and ends.
use Rattle.std.proofs.Common.{◌≡◌, inl, ℕ, suc, ◌+◌, ◌<◌, ◌≤◌, Bool, true, false, cond, not, ◌&&◌, Option, Some, None, IfSome, List, [], ◌∷◌, ◌++◌, Contains, map, filter, fold, nat_eq, refl, ap, sym, subst, ◌∙◌, arith, append-nil, append_assoc}
use Rattle.std.specs.List.{AllByRecursion, list_any}
use Rattle.std.proofs.lemmas.List.Elements.{filter-append, Contains-append_left, Contains-append_right}
use Rattle.run_devices.specs.trace_model.declared.Action.{Action}
use Rattle.run_devices.specs.trace_model.declared.Action.TheVariants.{Select, Insert, Withdraw, Tear, Place, Manual}
use Rattle.run_devices.specs.trace_model.declared.Card.{Card}
use Rattle.run_devices.specs.trace_model.Trace.{TraceSecond}
use Rattle.run_devices.specs.minute_model.Second.{Second}
use Rattle.run_devices.specs.log_model.declared.lines.Break.{Break}
use Rattle.run_devices.specs.log_model.declared.lines.SlotFault.{SlotFault}
use Rattle.run_devices.specs.log_model.Log.{RunLog, Phase, In, cut_in, is_torn_in}
use Rattle.run_devices.specs.log_model.Causes.{is_cut, has_failed, second_of}
use Rattle.run_devices.specs.log_model.Slots.{same_card, in_slot, refusal}
use Rattle.run_devices.specs.log_model.Spans.{go_on, spans_with, spans_of, seconds_in}
use Rattle.run_devices.specs.log_model.Course.{Course, ToldSecond, Before, Went, begins, acted, has_power, went, went_on, not_begun, second_told}
use Rattle.run_devices.specs.note_model.Done.{CarriedOut, course_powered, done_by, has_failed_in}
use Rattle.run_devices.specs.note_model.Odometer.{SpanFrom, odometer_at}
use Rattle.run_devices.specs.note_model.Noted.{Withdrawal, InsertionNote, PlaceNote, Note, Accepts, Withdraws, Enters, accepted_card, noted_by, noted_in, with_withdrawal, with_note, insertions_of, places_of}
use Rattle.run_devices.specs.safety_model.Safe.{Devices}
use Rattle.run_note_record.specs.Opened.{HasComeBefore}
use Rattle.run_note_record.proofs.Opened.{come-told, come-trace}
use Rattle.run_events.specs.run_rings.Notes.{accepted_in, noted_if, action_notes, notes_from, notes_to, NotesMore}
use Rattle.run_events.specs.run_rings.Spans.{go_on_from, with_second, AreBefore, AreAllBefore, AreAlike}
use Rattle.run_events.proofs.run_rings.Same.{rings-left}
use Rattle.run_events.proofs.run_rings.Notes.{Finding, is_at, later-lines, second-noted, cut-notes}
use Rattle.run_events.proofs.run_rings.Actions.{power-notes}
use Rattle.run_events.proofs.run_rings.Spans.{are-spans, earlier-stay, alike}
use Rattle.run_events.proofs.Later.{told-number}
use Rattle.run_note_record.specs.Origin.{Origin}
use Rattle.run_note_record.specs.Beside.{HaveLeftMore}
use Rattle.run_note_record.specs.Moved.{Move, moves_to, moves_in, moves_so_far}
use Rattle.run_note_record.specs.Ringed.{Seating, Ringed, StaysInRings, GoOn, notes_in, Since, since_behind, since_at}
use Rattle.run_note_record.specs.RingsSoFar.{noted_at, AreEarlier, RingedBehind, IsSecond, notes_so_far, RingedIn, AreFewer, HasMoreBreaks, ASecondBeginsInRings, RingsGoOn, AnActionNotesNothing, AnActionIsNoted, GoesBehind, TheSecondEndsInRings, ACutEndsInRings, DarkSecondsNoteNothing}
use Rattle.run_note_record.proofs.Stands.{all-of, all-push, all-each}
use Rattle.run_note_record.proofs.Noted.{second-notes}
use Rattle.run_note_record.proofs.Moved.{moves-front, moves-later, moves-before, moves-ended, moves-more}
use Rattle.run_note_record.specs.OnCards.{has_call_failed_in, IsReading, CardsGo}
use Rattle.run_note_record.proofs.OnCards.{any-front, call-failed-more, stay-itself}
use Rattle.run_note_record.specs.Sessions.{IsBrokenSince}
use Rattle.run_note_record.specs.Steps.{FailsBy}
use Rattle.run_note_record.proofs.Sessions.{go-more, stay-may, fails-since}
use Rattle.run_note_record.proofs.Readings.{reads-with, reads-alike}
use Rattle.run_note_record.proofs.Rings.{fewer-sit, rings-stay, come-before, go-on}

-- ---- more breaks

pub failed-more : (log later : RunLog) → HasMoreBreaks log later → (u : ℕ) → has_failed_in log u ≡ true → has_failed_in later u ≡ true
failed-more log later more u has =
    let is_failed : Break → Bool = λ (b : Break). is_cut b && has_failed b in
    ap (λ (bs : List Break). list_any (λ (b : Break). nat_eq (second_of b) u) (filter is_failed bs)) more.1
    ∙ ap (list_any (λ (b : Break). nat_eq (second_of b) u)) (filter-append is_failed log.breaks more.0)
    ∙ any-front (λ (b : Break). nat_eq (second_of b) u) (filter is_failed log.breaks) (filter is_failed more.0) has

-- ---- odometers of notes

both-same : (w : Option ℕ) (f g : ℕ → ℕ) → ((u : ℕ) → f u ≡ g u) → IfSome w (λ u. f u ≡ g u)
both-same None f g same = tt
both-same (Some u) f g same = same u

-- where all odometers are the same
pub goes-alike : (log later : RunLog) (spans now : List SpanFrom) (notes : List Note) → ((u : ℕ) → has_failed_in log u ≡ true → has_failed_in later u ≡ true) → ((u : ℕ) → has_call_failed_in log u ≡ true → has_call_failed_in later u ≡ true) → ((u : ℕ) → odometer_at u now ≡ odometer_at u spans) → ((u n : ℕ) → IsReading spans u n → IsReading now u n) → GoOn log later spans now notes
goes-alike log later spans now notes failed fell same reads = record {
  failed = failed;
  fell = fell;
  insertions = all-each (λ (i : InsertionNote). (odometer_at i.accepted.second now ≡ odometer_at i.accepted.second spans) × IfSome i.withdrawn (λ u. odometer_at u now ≡ odometer_at u spans))
      (λ i. (same i.accepted.second, both-same i.withdrawn (λ u. odometer_at u now) (λ u. odometer_at u spans) same)) (insertions_of notes);
  places = all-each (λ (p : PlaceNote). odometer_at p.second now ≡ odometer_at p.second spans) (λ p. same p.second) (places_of notes);
  reads = reads;
}

-- insertions and places of earlier notes are earlier
abbrev IsEarly : ℕ → InsertionNote → Type 0
IsEarly u i = (i.accepted.second < u) × IfSome i.withdrawn (λ w. w < u)

early-withdrawal : (u : ℕ) (w : Withdrawal) (is : List InsertionNote) → w.second < u → AllByRecursion (IsEarly u) is → AllByRecursion (IsEarly u) (with_withdrawal w is)
early-withdrawal u w [] lt all = tt
early-withdrawal u w (i ∷ later) lt all = by (same_card i.accepted.card w.card && not (list_any (λ (j : InsertionNote). same_card j.accepted.card w.card) later)) (early-withdrawal u w later lt all.1)
  where
    by : (b : Bool) → AllByRecursion (IsEarly u) (with_withdrawal w later) → AllByRecursion (IsEarly u) (cond b (record i { withdrawn = Some w.second } ∷ later) (i ∷ with_withdrawal w later))
    by true rest = ((all.0.0, lt), all.1)
    by false rest = (all.0, rest)

early-fold : (u : ℕ) (notes : List Note) (is : List InsertionNote) → AreEarlier u notes → AllByRecursion (IsEarly u) is → AllByRecursion (IsEarly u) (fold with_note is notes)
early-fold u [] is all have = have
early-fold u (Accepts a ∷ notes) is all have = early-fold u notes (is ++ record { accepted = a; withdrawn = None } ∷ []) all.1 (all-push (IsEarly u) is (record { accepted = a; withdrawn = None }) have (all.0, tt))
early-fold u (Withdraws w ∷ notes) is all have = early-fold u notes (with_withdrawal w is) all.1 (early-withdrawal u w is all.0 have)
early-fold u (Enters p ∷ notes) is all have = early-fold u notes is all.1 have

early-places : (u : ℕ) (notes : List Note) → AreEarlier u notes → AllByRecursion (λ (p : PlaceNote). p.second < u) (places_of notes)
early-places u [] all = tt
early-places u (Accepts a ∷ notes) all = early-places u notes all.1
early-places u (Withdraws w ∷ notes) all = early-places u notes all.1
early-places u (Enters p ∷ notes) all = (all.0, early-places u notes all.1)

-- where those of earlier seconds are
pub goes-earlier : (log : RunLog) (spans now : List SpanFrom) (u : ℕ) (notes : List Note) → AreEarlier u notes → ((v : ℕ) → v < u → odometer_at v now ≡ odometer_at v spans) → ((u n : ℕ) → IsReading spans u n → IsReading now u n) → GoOn log log spans now notes
goes-earlier log spans now u notes early same reads = record {
  failed = λ v has. has;
  fell = λ v has. has;
  insertions = all-of (IsEarly u) (λ (i : InsertionNote). (odometer_at i.accepted.second now ≡ odometer_at i.accepted.second spans) × IfSome i.withdrawn (λ v. odometer_at v now ≡ odometer_at v spans))
      (λ i is. (same i.accepted.second is.0, by i.withdrawn is.1)) (insertions_of notes) (early-fold u notes [] early tt);
  places = all-of (λ (p : PlaceNote). p.second < u) (λ (p : PlaceNote). odometer_at p.second now ≡ odometer_at p.second spans) (λ p lt. same p.second lt) (places_of notes) (early-places u notes early);
  reads = reads;
}
  where
    by : (w : Option ℕ) → IfSome w (λ v. v < u) → IfSome w (λ v. odometer_at v now ≡ odometer_at v spans)
    by None is = tt
    by (Some v) lt = same v lt

-- ---- nothing is called

pub left-itself : (o : Origin) (d : Devices) → HaveLeftMore o d d
left-itself o d = record { unit = λ x left. left; card = λ c x left. left }

along : (o : Since) (d : Devices) (log later : RunLog) (spans now : List SpanFrom) (notes : List Note) (seats : Card → Option Seating) → Ringed o log spans notes seats d → GoOn log later spans now notes → Ringed o later now notes seats d
along o d log later spans now notes seats v on = rings-stay d d o log later spans now notes seats v (rings-left d.unit) (left-itself o.origin d) (stay-may o.origin now (λ c t. IsBrokenSince o.moves later c notes t) d d (stay-itself o.origin now d)) on

-- a second more of the trace, and of what is told
pub come-in : (d : Devices) (o : Origin) (log : RunLog) (done : List TraceSecond) (s : TraceSecond) (spans : List SpanFrom) (notes : List Note) (seats : Card → Option Seating) →
    Ringed (since_behind o log done) log spans notes seats d → Ringed (since_at o log done log s []) log spans notes seats d
come-in d o log done s spans notes seats v =
    come-before d o (went log done).told (went log done).told done (done ++ s ∷ []) (moves_in log done) (moves_so_far log done log s []) (λ c u h. come-trace (went log done).told done (s ∷ []) c u h)
    (λ m at. Contains-append_left (moves_in log done) (moves_to log (went log done).before s []) m at) log spans notes seats v

-- by a later log, and with actions more
pub moved-on : (d : Devices) (o : Origin) (began log later : RunLog) (done : List TraceSecond) (s : TraceSecond) (front back : List Action) → ((m : Move) → Contains (moves_to log (went began done).before s front) m → Contains (moves_to later (went began done).before s back) m) →
    (told : RunLog) (spans : List SpanFrom) (notes : List Note) (seats : Card → Option Seating) → Ringed (since_at o began done log s front) told spans notes seats d → Ringed (since_at o began done later s back) told spans notes seats d
moved-on d o began log later done s front back more told spans notes seats v =
    come-before d o (went began done).told (went began done).told (done ++ s ∷ []) (done ++ s ∷ []) (moves_so_far began done log s front) (moves_so_far began done later s back) (λ c u h. h) (moves-more began log later done s front back more) told spans notes seats v

-- ---- the notes of a second are of that second

abbrev AreOf : ℕ → List Note → Type 0
AreOf u notes = AllByRecursion (λ (n : Note). noted_at n ≡ u) notes

of-append : (u : ℕ) (xs ys : List Note) → AreOf u xs → AreOf u ys → AreOf u (xs ++ ys)
of-append u [] ys one two = two
of-append u (x ∷ xs) ys one two = (one.0, of-append u xs ys one.1 two)

of-accepted : (u : ℕ) (p : Phase) (found : List Finding) → AreOf u (accepted_in u p found)
of-accepted u p [] = tt
of-accepted u p (f ∷ found) = by (is_at p f) (of-accepted u p found)
  where
    by : (b : Bool) → AreOf u (accepted_in u p found) → AreOf u (map (λ (g : Finding). Accepts (record { second = u; slot = g.0.slot; card = g.0.card })) (cond b (f ∷ filter (is_at p) found) (filter (is_at p) found)))
    by true rest = (refl, rest)
    by false rest = rest

of-withdrawn : (u : ℕ) (cards : List Card) → AreOf u (map (λ (card : Card). Withdraws (record { second = u; card = card })) cards)
of-withdrawn u [] = tt
of-withdrawn u (c ∷ cards) = (refl, of-withdrawn u cards)

of-places : (u : ℕ) (ending : Bool) (country region : ℕ) (cards : List Card) → AreOf u (map (λ (card : Card). Enters (record { second = u; card = card; ending = ending; country = country; region = region })) cards)
of-places u ending country region [] = tt
of-places u ending country region (c ∷ cards) = (refl, of-places u ending country region cards)

of-by : (log : RunLog) (u : ℕ) (a : CarriedOut) (act : Action) → AreOf u (noted_by log u a act)
of-by log u a (Select slot pick) = tt
of-by log u a (Insert slot card) = tt
of-by log u a (Withdraw slot) = by (is_torn_in log u (In (a.before + 1)) slot)
  where
    by : (b : Bool) → AreOf u (cond b [] (map (λ (card : Card). Withdraws (record { second = u; card = card })) (accepted_card (in_slot a.slots slot))))
    by true = tt
    by false = of-withdrawn u (accepted_card (in_slot a.slots slot))
of-by log u a (Tear slot) = tt
of-by log u a (Place slot ending country region) = of-places u ending country region (accepted_card (in_slot a.slots slot))
of-by log u a (Manual slot pick minute) = tt

of-if : (r : Option SlotFault) (log : RunLog) (u : ℕ) (a : CarriedOut) (found : List Finding) → AreOf u (noted_if r log u a found)
of-if (Some fault) log u a found = tt
of-if None log u a found = of-append u (noted_by log u a a.action) (accepted_in u (In (a.before + 1)) found) (of-by log u a a.action) (of-accepted u (In (a.before + 1)) found)

of-from : (log : RunLog) (s : TraceSecond) (n : ℕ) (as_ : List Action) (c : Course) → AreOf s.number (notes_from log s n as_ c)
of-from log s n [] c = tt
of-from log s n (a ∷ as_) c = of-append s.number (cond (begins (cut_in log s.number) n) (action_notes log s n a c) []) (notes_from log s (n + 1) as_ (acted log s n a c)) (by (begins (cut_in log s.number) n)) (of-from log s (n + 1) as_ (acted log s n a c))
  where
    by : (b : Bool) → AreOf s.number (cond b (action_notes log s n a c) [])
    by true = of-if (refusal c.slots s.speed a) log s.number (record { before = n; action = a; slots = c.slots; after = (acted log s n a c).slots }) (acted log s n a c).found
    by false = tt

of-second : (log : RunLog) (before : Before) (s : TraceSecond) (front : List Action) → AreOf s.number (notes_to log before s front)
of-second log before s front =
    of-append s.number (accepted_in s.number (In 0) (course_powered log before s).found) (notes_from log s 0 front (course_powered log before s)) (of-accepted s.number (In 0) (course_powered log before s).found) (of-from log s 0 front (course_powered log before s))

earlier-then : (u : ℕ) (xs ys : List Note) → AreEarlier u xs → AreOf u ys → AreEarlier (suc u) (xs ++ ys)
earlier-then u [] [] early are = tt
earlier-then u [] (y ∷ ys) early are = ((let is = are.0 in omega (arith, is)), earlier-then u [] ys tt are.1)
earlier-then u (x ∷ xs) ys early are = ((let lt = early.0 in omega (arith, lt)), earlier-then u xs ys early.1 are)

earlier-later : (u : ℕ) (xs : List Note) → AreEarlier u xs → AreEarlier (suc u) xs
earlier-later u [] early = tt
earlier-later u (x ∷ xs) early = ((let lt = early.0 in omega (arith, lt)), earlier-later u xs early.1)

-- those so far are not later than it
pub early-so-far : (done : List TraceSecond) (s : TraceSecond) (began log : RunLog) (front : List Action) → AreEarlier s.number (notes_in began done) → AreEarlier (suc s.number) (notes_so_far began done log s front)
early-so-far done s began log front early = earlier-then s.number (notes_in began done) (notes_to log (went began done).before s front) early (of-second log (went began done).before s front)

-- ---- the steps

pub second-begins : (d : Devices) → ASecondBeginsInRings d
second-begins d o done s log spans base t seats v runs second =
    let none : notes_in log done ++ notes_to log (went log done).before s [] ≡ notes_in log done = ap (λ (l : List Note). notes_in log done ++ l) ((power-notes log (went log done).before s).1 runs) ∙ append-nil (notes_in log done) in
    record {
      spans_are = v.spans_are;
      before = v.before;
      early = v.early;
      second = second;
      ringed = subst (λ (l : List Note). Ringed (since_at o log done log s []) log (with_second spans base t) l seats d) (sym none)
          (along (since_at o log done log s []) d log log spans (with_second spans base t) (notes_in log done) seats (come-in d o log done s spans (notes_in log done) seats v.ringed)
          (goes-earlier log spans (with_second spans base t) s.number (notes_in log done) v.early (λ u lt. earlier-stay spans base t u (let is = second.number in omega (arith, lt, is))) (reads-with spans base t)));
    }

pub go-on-in : (d e : Devices) → RingsGoOn d e
go-on-in d e o done s began front log later spans base t seats fewer v more same stays left cards fewer_sit =
    let now : List SpanFrom = with_second spans base t in
    let notes : List Note = notes_so_far began done log s front in
    let on : GoOn log later now now notes = goes-alike log later now now notes (failed-more log later more) (call-failed-more log later more) (λ u. refl) (λ u n is. is) in
    let ringed : Ringed (since_at o began done log s front) later now notes seats e = rings-stay d e (since_at o began done log s front) log later now now notes seats v.ringed stays left (stay-may o now (λ c t. IsBrokenSince (moves_so_far began done log s front) later c notes t) d e cards) on in
    let moves_are : moves_to later (went began done).before s front ≡ moves_to log (went began done).before s front = moves-later log later s (went began done).before front same in
    let moved : Ringed (since_at o began done later s front) later now notes seats e = moved-on e o began log later done s front front (λ m at. subst (λ (l : List Move). Contains l m) (sym moves_are) at) later now notes seats ringed in
    let as_ : notes ≡ notes_so_far began done later s front = ap (λ (l : List Note). notes_in began done ++ l) (sym (later-lines log later (went began done).before s front same)) in
    record {
      spans_are = v.spans_are;
      before = v.before;
      early = v.early;
      second = v.second;
      ringed = subst (λ (l : List Note). Ringed (since_at o began done later s front) later now l fewer e) as_ (fewer-sit e (since_at o began done later s front) later now notes seats fewer moved fewer_sit);
    }

-- calls that write no ring, behind the last of these actions
pub calls-in : (d e : Devices) (o : Origin) (done : List TraceSecond) (s : TraceSecond) (began log : RunLog) (front : List Action) (spans : List SpanFrom) (base : ℕ) (t : ToldSecond) (seats fewer : Card → Option Seating) →
    RingedIn o done s began front log spans base t seats d → StaysInRings d e → HaveLeftMore o d e → CardsGo o (with_second spans base t) (FailsBy began done log s front) d e → AreFewer seats fewer → RingedIn o done s began front log spans base t fewer e
calls-in d e o done s began log front spans base t seats fewer v stays left cards fewer_sit =
    let now : List SpanFrom = with_second spans base t in
    let notes : List Note = notes_so_far began done log s front in
    let o_at : Since = since_at o began done log s front in
    let broken = go-more o now (FailsBy began done log s front) (λ c t. IsBrokenSince (moves_so_far began done log s front) log c notes t) d e
    (fails-since log s.number (moves_to log (went began done).before s front) (moves_so_far began done log s front)
    (λ m at. Contains-append_right (moves_in began done) (moves_to log (went began done).before s front) m at) notes (early-so-far done s began log front v.early)) cards in
    record {
      spans_are = v.spans_are;
      before = v.before;
      early = v.early;
      second = v.second;
      ringed = fewer-sit e o_at log now notes seats fewer (rings-stay d e o_at log log now now notes seats v.ringed stays left broken (go-on log now notes)) fewer_sit;
    }

-- these notes more
noted-more : (began : RunLog) (done : List TraceSecond) (log : RunLog) (s : TraceSecond) (front : List Action) (a : Action) (more : List Note) → NotesMore log (went began done).before s front a more →
    notes_so_far began done log s front ++ more ≡ notes_so_far began done log s (front ++ a ∷ [])
noted-more began done log s front a more is =
    append_assoc (notes_in began done) (notes_to log (went began done).before s front) more ∙ ap (λ (l : List Note). notes_in began done ++ l) (sym is)

pub notes-nothing : (d : Devices) → AnActionNotesNothing d
notes-nothing d o done s began front a log spans base t seats v is = record {
  spans_are = v.spans_are;
  before = v.before;
  early = v.early;
  second = v.second;
  ringed = subst (λ (l : List Note). Ringed (since_at o began done log s (front ++ a ∷ [])) log (with_second spans base t) l seats d) (sym (append-nil (notes_so_far began done log s front)) ∙ noted-more began done log s front a [] is)
      (moved-on d o began log log done s front (front ++ a ∷ []) (moves-front log (went began done).before s front (a ∷ [])) log (with_second spans base t) (notes_so_far began done log s front) seats v.ringed);
}

pub action-noted : (d e : Devices) → AnActionIsNoted d e
action-noted d e o done s began front a log spans base t seats now n v is ringed = record {
  spans_are = v.spans_are;
  before = v.before;
  early = v.early;
  second = v.second;
  ringed = subst (λ (l : List Note). Ringed (since_at o began done log s (front ++ a ∷ [])) log (with_second spans base t) l now e) (noted-more began done log s front a (n ∷ []) is) ringed;
}

-- ---- the second ends

went-more : (log : RunLog) (done : List TraceSecond) (s : TraceSecond) → (went log (done ++ s ∷ [])).told ≡ (went log done).told ++ second_told log (went log done).before s ∷ []
unfolding went
went-more log done s = by done not_begun
  where
    by : (xs : List TraceSecond) (w : Went) → (fold (went_on log) w (xs ++ s ∷ [])).told ≡ (fold (went_on log) w xs).told ++ second_told log (fold (went_on log) w xs).before s ∷ []
    by [] w = refl
    by (x ∷ xs) w = by xs (went_on log w x)

-- who has come before has come before behind a second more
come-told_now : (began later : RunLog) (done trace : List TraceSecond) (s : TraceSecond) → went later done ≡ went began done → (c : Card) (u : ℕ) → HasComeBefore (went began done).told trace c u → HasComeBefore (went later (done ++ s ∷ [])).told trace c u
come-told_now began later done trace s same c u h =
    subst (λ (ts : List ToldSecond). HasComeBefore ts trace c u) (sym (went-more later done s))
    (come-told (went later done).told (second_told later (went later done).before s ∷ []) trace c u (subst (λ (w : Went). HasComeBefore w.told trace c u) (sym same) h))

spans-more : (told : List ToldSecond) (t : ToldSecond) → spans_of (told ++ t ∷ []) ≡ spans_with (spans_of told) t
unfolding spans_of
spans-more told t = by told []
  where
    by : (ts : List ToldSecond) (spans : List (List ToldSecond)) → fold spans_with spans (ts ++ t ∷ []) ≡ spans_with (fold spans_with spans ts) t
    by [] spans = refl
    by (x ∷ ts) spans = by ts (spans_with spans x)

-- a second with power, as its log tells it
told-alike : (log : RunLog) (before : Before) (s : TraceSecond) (t : ToldSecond) → has_power before s ≡ true → IsSecond s before t → AreAlike t (second_told log before s)
told-alike log before s t power is = record {
  number = told-number log before s ∙ sym is.number;
  speed = speed_ ∙ sym is.speed;
  lit = lit_ ∙ sym is.lit;
  starts = starts_ ∙ sym is.starts;
}
  where
    speed_ : (second_told log before s).second.speed ≡ s.speed
    speed_ = rw power refl

    lit_ : (second_told log before s).lit ≡ true
    lit_ = rw power refl

    starts_ : (second_told log before s).starts ≡ not before.running
    starts_ = rw power refl

-- ---- earlier seconds

before-later : (u v : ℕ) (seconds : List Second) → u ≤ v → AreBefore u seconds → AreBefore v seconds
before-later u v [] le all = tt
before-later u v (x ∷ seconds) le all = ((let lt = all.0 in omega (arith, lt, le)), before-later u v seconds le all.1)

all-before-later : (u v : ℕ) (spans : List SpanFrom) → u ≤ v → AreAllBefore u spans → AreAllBefore v spans
all-before-later u v [] le all = tt
all-before-later u v (x ∷ spans) le all = (before-later u v (seconds_in x.span) le all.0, all-before-later u v spans le all.1)

before-push : (v : ℕ) (span : List ToldSecond) (t : ToldSecond) → AreBefore v (seconds_in span) → t.second.number < v → AreBefore v (seconds_in (span ++ t ∷ []))
before-push v [] t all lt = (lt, tt)
before-push v (x ∷ span) t all lt = (all.0, before-push v span t all.1 lt)

before-go_on : (v : ℕ) (spans : List SpanFrom) (base : ℕ) (t : ToldSecond) → AreAllBefore v spans → t.second.number < v → AreAllBefore v (go_on_from spans base t)
before-go_on v [] base t all lt = ((lt, tt), tt)
before-go_on v (x ∷ []) base t all lt = (before-push v x.span t all.0 lt, tt)
before-go_on v (x ∷ y ∷ spans) base t all lt = (all.0, before-go_on v (y ∷ spans) base t all.1 lt)

before-with : (v : ℕ) (spans : List SpanFrom) (base : ℕ) (t : ToldSecond) → AreAllBefore v spans → t.second.number < v → AreAllBefore v (with_second spans base t)
before-with v spans base t all lt = by t.lit t.starts
  where
    by : (lit starts : Bool) → AreAllBefore v (cond lit (cond starts (spans ++ record { base = base; span = t ∷ [] } ∷ []) (go_on_from spans base t)) spans)
    by false starts = all
    by true true = all-push (λ (x : SpanFrom). AreBefore v (seconds_in x.span)) spans (record { base = base; span = t ∷ [] }) all (lt, tt)
    by true false = before-go_on v spans base t all lt

-- ---- THE SECOND ENDS

module _ (d : Devices) (o : Origin) (done : List TraceSecond) (s : TraceSecond) (began later : RunLog) (front : List Action) (spans : List SpanFrom) (base : ℕ) (t : ToldSecond) (seats : Card → Option Seating) (v : RingedIn o done s began front later spans base t seats d)
    (behind : GoesBehind began later done) (power : has_power (went began done).before s ≡ true) (rest : List Action) (are : s.actions ≡ front ++ rest) (notes : notes_to later (went began done).before s s.actions ≡ notes_to later (went began done).before s front) where
  before-is : (went later done).before ≡ (went began done).before
  before-is = ap (λ (w : Went). w.before) behind.went_is

  there : has_power (went later done).before s ≡ true
  there = ap (λ (b : Before). has_power b s) before-is ∙ power

  all-notes : notes_in later (done ++ s ∷ []) ≡ notes_so_far began done later s front
  all-notes =
      second-notes began later done s behind.same
      ∙ ap (λ (l : List Note). notes_in began done ++ l)
      (second-noted later (went later done).before s there ∙ ap (λ (b : Before). notes_to later b s s.actions) before-is ∙ notes)

  told-spans : map (λ (x : SpanFrom). x.span) (with_second spans base (second_told later (went later done).before s)) ≡ spans_of (went later (done ++ s ∷ [])).told
  told-spans =
      let one : ToldSecond = second_told later (went later done).before s in
      are-spans spans base one
      ∙ ap (λ (l : List (List ToldSecond)). spans_with l one) (v.spans_are ∙ ap (λ (w : Went). spans_of w.told) (sym behind.went_is))
      ∙ sym (spans-more (went later done).told one)
      ∙ ap spans_of (sym (went-more later done s))

  pub ends-in : (fewer : Card → Option Seating) → AreFewer seats fewer → RingedBehind o (done ++ s ∷ []) later (suc s.number) (with_second spans base (second_told later (went later done).before s)) fewer d
  ends-in fewer fewer_sit =
      let one : ToldSecond = second_told later (went later done).before s in
      let second : IsSecond s (went later done).before t = record { number = v.second.number; speed = v.second.speed; lit = v.second.lit; starts = v.second.starts ∙ ap (λ (b : Before). not b.running) (sym before-is) } in
      let same : AreAlike t one = told-alike later (went later done).before s t there second in
      let number : one.second.number ≡ s.number = told-number later (went later done).before s in
      let so_far : List Note = notes_so_far began done later s front in
      let ringed : Ringed (since_at o began done later s front) later (with_second spans base one) so_far seats d =
      along (since_at o began done later s front) d later later (with_second spans base t) (with_second spans base one) so_far seats v.ringed (goes-alike later later (with_second spans base t) (with_second spans base one) so_far (λ u has. has) (λ u has. has) (alike spans base t one same) (reads-alike spans base t one same)) in
      let now : Ringed (since_behind o later (done ++ s ∷ [])) later (with_second spans base one) so_far seats d =
      come-before d o (went began done).told (went later (done ++ s ∷ [])).told (done ++ s ∷ []) (done ++ s ∷ []) (moves_so_far began done later s front) (moves_in later (done ++ s ∷ [])) (come-told_now began later done (done ++ s ∷ []) s behind.went_is)
      (moves-ended began later done s front rest behind.same before-is power are) later (with_second spans base one) so_far seats ringed in
      record {
        spans_are = told-spans;
        before = before-with (suc s.number) spans base one (all-before-later s.number (suc s.number) spans (omega arith) v.before) (omega (arith, number));
        early = subst (AreEarlier (suc s.number)) (sym all-notes) (earlier-then s.number (notes_in began done) (notes_to later (went began done).before s front) v.early (of-second later (went began done).before s front));
        ringed = subst (λ (l : List Note). Ringed (since_behind o later (done ++ s ∷ [])) later (with_second spans base one) l fewer d) (sym all-notes)
            (fewer-sit d (since_behind o later (done ++ s ∷ [])) later (with_second spans base one) so_far seats fewer now fewer_sit);
      }

pub second-ends : (d : Devices) → TheSecondEndsInRings d
second-ends d o done s began later spans base t seats v behind power = ends-in d o done s began later s.actions spans base t seats v behind power [] (sym (append-nil s.actions)) refl seats (λ c. inl refl)

pub cut-ends : (d : Devices) → ACutEndsInRings d
cut-ends d o done s began cut front rest spans base t seats fewer v behind power are is fewer_sit =
    ends-in d o done s began cut front spans base t seats v behind power rest are
    (ap (λ (l : List Action). notes_to cut (went began done).before s l) are ∙ cut-notes cut (went began done).before s front rest is) fewer fewer_sit

-- ---- without power

dark-notes : (later : RunLog) (before : Before) (s : TraceSecond) → has_power before s ≡ false → noted_in later (done_by later before s) ≡ []
dark-notes later before s off = rw off refl

dark-lit : (later : RunLog) (before : Before) (s : TraceSecond) → has_power before s ≡ false → (second_told later before s).lit ≡ false
dark-lit later before s off = rw off refl

pub dark-ends : (d : Devices) → DarkSecondsNoteNothing d
dark-ends d o done s log later spans base seats fewer v behind more off fewer_sit =
    let before_is : (went later done).before ≡ (went log done).before = ap (λ (w : Went). w.before) behind.went_is in
    let there : has_power (went later done).before s ≡ false = ap (λ (b : Before). has_power b s) before_is ∙ off in
    let one : ToldSecond = second_told later (went later done).before s in
    let none : notes_in later (done ++ s ∷ []) ≡ notes_in log done =
    second-notes log later done s behind.same ∙ ap (λ (l : List Note). notes_in log done ++ l) (dark-notes later (went later done).before s there) ∙ append-nil (notes_in log done) in
    let unlit : one.lit ≡ false = dark-lit later (went later done).before s there in
    let ringed : Ringed (since_behind o log done) later spans (notes_in log done) seats d = along (since_behind o log done) d log later spans spans (notes_in log done) seats v.ringed (goes-alike log later spans spans (notes_in log done) (failed-more log later more) (call-failed-more log later more) (λ u. refl) (λ u n is. is)) in
    let now : Ringed (since_behind o later (done ++ s ∷ [])) later spans (notes_in log done) seats d =
    come-before d o (went log done).told (went later (done ++ s ∷ [])).told (done ++ s ∷ []) (done ++ s ∷ []) (moves_in log done) (moves_in later (done ++ s ∷ [])) (come-told_now log later done (done ++ s ∷ []) s behind.went_is) (moves-before log later done s behind.same) later spans (notes_in log done) seats
    (come-before d o (went log done).told (went log done).told done (done ++ s ∷ []) (moves_in log done) (moves_in log done) (λ c u h. come-trace (went log done).told done (s ∷ []) c u h) (λ m at. at) later spans (notes_in log done) seats ringed) in
    record {
      spans_are = v.spans_are
          ∙ ap (λ (b : Bool). cond b (cond one.starts (spans_of (went log done).told ++ (one ∷ []) ∷ []) (go_on (spans_of (went log done).told) one)) (spans_of (went log done).told)) (sym unlit)
          ∙ ap (λ (w : Went). spans_with (spans_of w.told) one) (sym behind.went_is)
          ∙ sym (spans-more (went later done).told one)
          ∙ ap spans_of (sym (went-more later done s));
      before = all-before-later s.number (suc s.number) spans (omega arith) v.before;
      early = subst (AreEarlier (suc s.number)) (sym none) (earlier-later s.number (notes_in log done) v.early);
      ringed = subst (λ (l : List Note). Ringed (since_behind o later (done ++ s ∷ [])) later spans l fewer d) (sym none)
          (fewer-sit d (since_behind o later (done ++ s ∷ [])) later spans (notes_in log done) seats fewer now fewer_sit);
    }
