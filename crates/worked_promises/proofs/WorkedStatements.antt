-- Propositions that the theorem stands on: of each an example that holds, and one that is refuted.
use Rattle.std.proofs.Common.{◌≡◌, ◌⊎◌, inl, inr, ⊎_elim, ℕ, zero, suc, ◌+◌, ◌*◌, ◌<◌, ◌≤◌, Bool, true, false, Option, Some, None, List, [], ◌∷◌, ◌++◌, Contains, map, length, replicate, refl, ap, sym, ◌∙◌, arith}
use Rattle.std.proofs.lemmas.List.Elements.{Contains-push_cases}
use Rattle.activity_codec.specs.declared.values.Slot.TheVariants.{Driver, CoDriver}
use Rattle.activity_codec.specs.declared.values.Activity.TheVariants.{Rest, Available, Work, Driving}
use Rattle.activity_codec.specs.declared.entries.Entry.{Entry}
use Rattle.trace_model.specs.declared.Card.{Card}
use Rattle.trace_model.specs.declared.Card.TheVariants.{A, B}
use Rattle.trace_model.specs.declared.Action.TheVariants.{Insert, Withdraw, Tear}
use Rattle.trace_model.specs.declared.Item.TheVariants.{Run, Off, Act}
use Rattle.trace_model.specs.Trace.{TraceSecond, seconds_of}
use Rattle.run_model.specs.declared.Device.TheVariants.{Unit as Recorder, CardA}
use Rattle.minute_model.specs.declared.Rule.TheVariants.{Original}
use Rattle.log_model.specs.declared.lines.Break.TheVariants as break
use Rattle.log_model.specs.declared.lines.Mark.{Mark}
use Rattle.log_model.specs.declared.lines.Find.{Find}
use Rattle.log_model.specs.declared.lines.Verdict.TheVariants.{Accepted, TimeOverlap}
use Rattle.log_model.specs.Log.{RunLog, In, Keeping, cut_in, is_torn_in, found_in}
use Rattle.log_model.specs.Course.{ToldSecond, Visit, went}
use Rattle.log_model.specs.Spans.{spans_of}
use Rattle.log_model.specs.Causes.{AreInTime, RoseBy, CutBy}
use Rattle.history_model.specs.Completeness.{IsMarked, FailedCutIn, TornIn}
use Rattle.note_model.specs.Noted.{Accepts, PlaceNote, InsertionNote}
use Rattle.note_model.specs.Odometer.{SpanFrom, IsBeingKept}
use Rattle.note_model.specs.Rings.{Holder, TellsWithdrawal, IsInsertion, IsPlace}
use Rattle.safety_model.specs.Unit.{Increase}
use Rattle.safety_model.specs.Safe.{IsUnfound}
use Rattle.trace_text.specs.Trace.{HasRuns, IsWithinLimits}
use Rattle.unit_model.specs.Days.{StoredDay}
use Rattle.unit_rule.specs.Written.{AreNewest}
use Rattle.run_note_record.specs.Moved.{Move, IsPutIn}
use Rattle.run_note_record.specs.Sessions.{MayLeave, HasFailedSince, MayTell}
use Rattle.run_acts.specs.Stays.{AreMerged, IsTurnedAway, IsJudged}
use Rattle.run_acts.specs.Truths.{PutsIn, IsLineOf}
use Rattle.worked_promises.proofs.Scenario.{at, log, told, finds}
use Rattle.worked_promises.proofs.WorkedStays.{at_start, first}

-- what a list of one contains is that one
one_alone : (x y : ℕ) → Contains (x ∷ []) y → x ≡ y
one_alone x y there = ⊎_elim (λ none. absurd (omega (arith, none.1))) (λ same. same) (Contains-push_cases [] x y there)

-- ---- THE ORDER OF BREAKS: a tear may stand in the second of a cut, but before it

breaks-in-time : AreInTime log.breaks
breaks-in-time = ((omega arith, (omega arith, (omega arith, tt))), ((omega arith, (omega arith, tt)), ((omega arith, tt), (tt, tt))))

two-cuts-in-a-second : AreInTime (break.Cut 7 0 true 0 ∷ break.Cut 7 0 true 0 ∷ []) → ⊥
two-cuts-in-a-second times = omega (arith, times.0.0)

-- ---- A COUNT ROSE by so many, or stands at its last value

rose-by-two : RoseBy 2 5 7
rose-by-two = inl (omega arith)

rose-by-one : RoseBy 2 5 6 → ⊥
rose-by-one rose = ⊎_elim (λ few. omega (arith, few)) (λ high. omega (arith, high)) rose

-- ---- A CUT BY A MOMENT

cut-before-an-action : CutBy (Some 1) (In 2)
cut-before-an-action = omega arith

cut-behind-an-action : CutBy (Some 3) (In 2) → ⊥
cut-behind-an-action cut = omega (arith, cut)

-- ---- A MINUTE IS ACKNOWLEDGED

abbrev mark : Mark
mark = record { device = Recorder; minute = 21123840; clock = 12 }

acknowledged : IsMarked (mark ∷ []) Recorder 21123840
acknowledged = (mark, (0, omega arith, refl), refl, refl)

not-acknowledged : IsMarked [] Recorder 21123840 → ⊥
not-acknowledged marked = let none = marked.1 in omega (arith, none.1)

-- ---- A CALL TOOK THE POWER in a second

taken-by-a-call : FailedCutIn log (at 350)
taken-by-a-call = (0, omega arith, refl)

taken-by-a-line : FailedCutIn log (at 239) → ⊥
taken-by-a-line failed = let same = one_alone (at 350) (at 239) failed in omega (arith, same)

-- ---- A CARD IS TORN OUT in a second

abbrev visit : Visit
visit = record { phase = Keeping; slot = Driver; card = B }

abbrev torn : ToldSecond
torn = record {
  second = record { number = 7; speed = 0; picks = [] };
  given = true;
  lit = true;
  starts = false;
  cut = false;
  course = record {
    picks = [];
    left = B ∷ [];
    pulled = [];
    torn = visit ∷ [];
    entered = [];
    found = [];
    refused = [];
    settled = false;
    slots = record { driver = None; codriver = None };
  };
}

torn-out : TornIn B torn
torn-out = (visit, refl, inl (0, omega arith, refl))

another-is-not : TornIn A torn → ⊥
another-is-not is = ⊎_elim
    (λ by_call. ⊎_elim
    (λ none. absurd (omega (arith, none.1)))
    (λ (same : visit ≡ is.0). let clash : B ≡ A = ap (λ (v : Visit). v.card) same ∙ is.1 in cc)
    (Contains-push_cases [] visit is.0 by_call))
    (λ pulled. absurd (omega (arith, pulled.1)))
    is.2

-- ---- MARKS INCREASE

increasing : Increase (mark ∷ record mark { minute = 21123841 } ∷ [])
increasing = (omega arith, tt)

twice-the-same : Increase (mark ∷ mark ∷ []) → ⊥
twice-the-same up = omega (arith, up.0)

-- ---- NOTHING WAS FOUND behind a break

nothing-found : IsUnfound (break.Cut 7 0 true 0)
nothing-found = refl

something-found : IsUnfound (break.Cut 7 9 true 0) → ⊥
something-found none = omega (arith, none)

-- ---- A MINUTE WAS BEING KEPT as power was lost: in the last second of the first power span, behind 08:03, that was 08:01

abbrev first_span : List (List ToldSecond) → List ToldSecond
first_span [] = []
first_span (span ∷ spans) = span

kept-then : IsBeingKept Original (first_span (spans_of told)) 21123841
unfolding spans_of seconds_of went cut_in is_torn_in found_in
kept-then = refl

not-kept-then : IsBeingKept Original (torn ∷ []) 21123840 → ⊥
not-kept-then cut = let no : None ≡ Some (at 179) = cut in cc

-- ---- ENTRIES OF THE UNIT

abbrev holder : Card → Holder
holder c = record { surname = replicate 36 51; first_names = replicate 36 52; number = replicate 18 49; expiry = 84 ∷ 0 ∷ 0 ∷ 3 ∷ [] }

-- 2010-03-01 08:00:00, in a power span with 1000 km
abbrev spans : List SpanFrom
spans = record { base = 1000; span = record torn { second = record { number = at 0; speed = 0; picks = [] } } ∷ [] } ∷ []

abbrev place : PlaceNote
place = record { second = at 0; card = A; ending = true; country = 13; region = 7 }

abbrev place_bytes : (kind : ℕ) → List ℕ
place_bytes kind = replicate 18 49 ++ 75 ∷ 139 ∷ 116 ∷ 0 ∷ kind ∷ 13 ∷ 7 ∷ 0 ∷ 3 ∷ 232 ∷ []

place-entered : IsPlace log spans holder place (place_bytes 1)
place-entered = record { size = refl; number = refl; time = refl; kind = refl; country = refl; region = refl; odometer = refl }

place-of-another-type : IsPlace log spans holder place (place_bytes 0) → ⊥
place-of-another-type is = let same : 0 ≡ 1 = is.kind in omega (arith, same)

abbrev insertion : InsertionNote
insertion = record { accepted = record { second = at 0; slot = CoDriver; card = A }; withdrawn = None }

-- the card told of no vehicle before
abbrev NoVehicle : Card → List ℕ → ℕ → Type 0
NoVehicle c registration time = (registration ≡ replicate 15 0) × (time ≡ 0)

abbrev insertion_bytes : (slot : ℕ) → List ℕ
insertion_bytes slot =
    replicate 36 51 ++ replicate 36 52 ++ replicate 18 49 ++ (84 ∷ 0 ∷ 0 ∷ 3 ∷ []) ++ (75 ∷ 139 ∷ 116 ∷ 0 ∷ []) ++ (0 ∷ 3 ∷ 232 ∷ []) ++ slot ∷ []
    ++ replicate 7 0 ++ replicate 15 0 ++ replicate 5 0

card-inserted : IsInsertion log spans holder NoVehicle insertion (insertion_bytes 1)
card-inserted = record {
  size = refl;
  surname = refl;
  first_names = refl;
  number = refl;
  expiry = refl;
  time = refl;
  odometer = refl;
  slot = refl;
  withdrawal = (refl, refl);
  previous = (refl, refl);
  by_hand = refl;
}

in-the-other-slot : IsInsertion log spans holder NoVehicle insertion (insertion_bytes 0) → ⊥
in-the-other-slot is = let same : 0 ≡ 1 = is.slot in omega (arith, same)

not-withdrawn : TellsWithdrawal log spans holder None 0 0
not-withdrawn = (refl, refl)

withdrawn-at-some-time : TellsWithdrawal log spans holder None 7 0 → ⊥
withdrawn-at-some-time tells = omega (arith, tells.0)

-- ---- MOVES AND SESSIONS

abbrev put : Move
put = record { second = 7; card = A; out = false }

put-in : IsPutIn (put ∷ []) A 7
put-in = (0, omega arith, refl)

never-put-in : IsPutIn [] A 7 → ⊥
never-put-in there = omega (arith, there.1)

-- a call that failed as a card was put in may have left none or its own session, and no other where it was not
left-none : MayLeave (put ∷ []) A 7 0
left-none = inl ((0, omega arith, refl), inl refl)

left-where-it-was-not-put-in : MayLeave [] A 7 7 → ⊥
left-where-it-was-not-put-in may = ⊎_elim (λ put_in. absurd (let there = put_in.0 in omega (arith, there.1))) (λ taken. absurd (let there = taken.0 in omega (arith, there.1))) may

-- a call failed since the card was accepted at 08:00:00; none did in that second
failed-since : HasFailedSince log A (Accepts (record { second = at 0; slot = Driver; card = A }) ∷ []) (at 350)
failed-since = (refl, (λ opened. omega arith, tt))

failed-before : HasFailedSince log A [] (at 0) → ⊥
failed-before failed = let no : false ≡ true = failed.0 in cc

-- where nothing moved, a card may tell of the session of the start, and of no other
tells-its-own : MayTell [] log A 7 [] 7
tells-its-own = inl (0, omega arith, refl)

tells-another : MayTell [] log A 7 [] 8 → ⊥
tells-another may = ⊎_elim
    (λ there. let same = one_alone 7 8 there in absurd (omega (arith, same)))
    (λ broken. absurd (left-of-none broken.0 8 broken.2))
    may
  where
    left-of-none : (u t : ℕ) → MayLeave [] A u t → ⊥
    left-of-none u t left = ⊎_elim (λ put_in. absurd (let there = put_in.0 in omega (arith, there.1))) (λ taken. absurd (let there = taken.0 in omega (arith, there.1))) left

-- ---- LINES OF A CARD

-- of three lines two are the next of one list, and one is of the other
merged : AreMerged {L = ℕ} (7 ∷ 8 ∷ 9 ∷ []) (7 ∷ 9 ∷ []) (8 ∷ [])
merged = inl (9 ∷ [], refl, inr ([], refl, inl ([], refl, (refl, refl))))

left-over : AreMerged {L = ℕ} [] (7 ∷ []) [] → ⊥
left-over both = let no : 7 ∷ [] ≡ [] = both.0 in cc

-- a card that stores 00:10 is turned away at 00:09, and no more at 08:00
turned-away : IsTurnedAway at_start (finds 1267402140 1 Driver (TimeOverlap 1267402200 1267402140))
turned-away = let less : 1267402140 < 1267402200 = omega arith in (refl, less)

not-turned-away : IsTurnedAway at_start (finds (at 0) 1 Driver (TimeOverlap 1267402200 (at 0))) → ⊥
not-turned-away away = let less : at 0 < 1267402200 = away.1 in omega (arith, less)

accepted-then : IsJudged at_start first
accepted-then = let less : 1267402200 ≤ at 0 = omega arith in (tt, refl, less)

accepted-too-early : IsJudged at_start (record first { found = finds 1267402140 1 Driver (Accepted 0) }) → ⊥
accepted-too-early judged = let less : 1267402200 ≤ 1267402140 = judged.2 in omega (arith, less)

-- the line of an insertion that is the second action of its second
abbrev second : TraceSecond
second = record { number = 7; has_power = true; speed = 0; actions = Tear Driver ∷ Insert Driver A ∷ [] }

its-own-line : IsLineOf (second ∷ []) A (finds 7 2 Driver (Accepted 0))
its-own-line = record {
  s = second;
  among = (0, omega arith, refl);
  number = refl;
  puts = inr (record { front = Tear Driver ∷ []; rest = []; are = refl; count = refl });
}

of-no-second : IsLineOf [] A (finds 7 2 Driver (Accepted 0)) → ⊥
of-no-second line = let among = line.among in omega (arith, among.1)

-- ---- A TRACE

runs-behind-each-action : HasRuns (Act (Tear Driver) ∷ Act (Insert Driver A) ∷ Run 9 0 ∷ Off 9 ∷ [])
runs-behind-each-action = (tt, (tt, tt))

off-behind-an-action : HasRuns (Act (Tear Driver) ∷ Off 9 ∷ []) → ⊥
off-behind-an-action runs = runs.0

within-limits : IsWithinLimits 86400 34560000
within-limits = (omega arith, omega arith)

a-second-too-long : IsWithinLimits 86400 34560001 → ⊥
a-second-too-long within = omega (arith, within.0)

-- ---- THE NEWEST OF SOME DAYS

abbrev day : StoredDay
day = record { date = 86400; odometer = 7; words = [] }

all-are-there : AreNewest (day ∷ []) (day ∷ [])
all-are-there = record { gone = []; are = refl; few = inl refl }

one-is-gone : AreNewest (day ∷ []) [] → ⊥
one-is-gone newest = ⊎_elim
    (λ (none : newest.gone ≡ []). let same : day ∷ [] ≡ [] = newest.are ∙ ap (λ (g : List StoredDay). g ++ []) none in cc)
    (λ few. omega (arith, few))
    newest.few
