-- What a run has noted so far, from moment to moment.
use Rattle.std.proofs.Common.{◌≡◌, ◌∙◌, ◌⊎◌, inl, ℕ, zero, suc, ◌+◌, ◌%◌, ◌<◌, ◌≤◌, Bool, true, false, cond, not, ◌&&◌, ◌||◌, nat_eq, Option, Some, None, is_some, List, [], ◌∷◌, ◌++◌, All, length, map, take, refl, ap, sym, subst, arith, append-nil, append_assoc, length-append}
use Rattle.std.specs.Prelude.{nat_lt, slice_get}
use Rattle.std.proofs.Math.Seq.{take-append_seam}
use Rattle.std.proofs.lemmas.Bool.Decides.{nat_tests}
use Rattle.std.proofs.lemmas.List.Elements.{All-nil, All-cons}
use Rattle.activity_codec.specs.declared.values.Pick.{Pick}
use Rattle.activity_codec.specs.declared.values.Slot.{Slot}
use Rattle.activity_codec.specs.declared.values.Slot.TheVariants.{Driver, CoDriver}
use Rattle.activity_codec.specs.Activity.{same_slot}
use Rattle.trace_model.specs.declared.Card.{Card}
use Rattle.trace_model.specs.declared.Action.{Action}
use Rattle.trace_model.specs.declared.Action.TheVariants.{Select, Insert, Withdraw, Tear, Place, Manual}
use Rattle.trace_model.specs.Trace.{TraceSecond, driven, dark}
use Rattle.log_model.specs.declared.lines.Break.{Break}
use Rattle.log_model.specs.declared.lines.Break.TheVariants.{Tear as Torn}
use Rattle.log_model.specs.declared.lines.Find.{Find}
use Rattle.log_model.specs.declared.lines.Refused.{Refused}
use Rattle.log_model.specs.declared.lines.SlotFault.{SlotFault}
use Rattle.log_model.specs.declared.lines.SlotFault.TheVariants.{Moving, Empty, NoCard}
use Rattle.log_model.specs.declared.lines.Verdict.{Verdict}
use Rattle.log_model.specs.Log.{RunLog, Phase, In, Keeping, same_phase, phase_of, cut_of, cut_in, tears_here, is_torn_in, found_in, is_accepting}
use Rattle.log_model.specs.Same.{SameAt}
use Rattle.log_model.proofs.Growth.{went-more, went-same}
use Rattle.log_model.specs.Slots.{Sitting, same_card, in_slot, is_accepted, refusal}
use Rattle.log_model.specs.Course.{Course, Visit, Before, Went, card_in as card_of_sitting, answered, moved_by, both_told, begins, is_settling, acted, all_acted, has_power, went, second_told}
use Rattle.unit_notes.specs.note_model.Done.{course_powered, done_by}
use Rattle.unit_notes.specs.note_model.Noted.{PlaceNote, Withdrawal, Note, Accepts, Withdraws, Enters, noted_in}
use Rattle.run_crew.specs.card_slots.Calls.{seat_in, card_in, logged}
use Rattle.device_calls.specs.safety_model.Safe.{Devices, breakdowns_of}
use Rattle.run_crew.specs.declared.cards.Accepted.{Accepted}
use Rattle.run_crew.specs.Cards.{session_of}
use Rattle.run_crew.specs.Cabin.{CabinIsSound}
use Rattle.run_events.specs.run_course.Moments.{and_break, and_find, and_refused}
use Rattle.run_events.specs.run_course.Followed.{Progress, PowerGoesOn, IsLost}
use Rattle.run_events.proofs.run_course.Logs.{found_log, same-found}
use Rattle.run_events.proofs.run_course.Quiet.{quiet-are-told}
use Rattle.run_events.proofs.run_course.Lookups.{break-more, find-more, refusal-more}
use Rattle.run_events.proofs.run_course.Moments.{later-lines as same-course-by}
use Rattle.run_events.proofs.run_course.Told.{lit-power, lost-dark, dark-told, next-dark}
use Rattle.run_events.specs.run_course.Telling.{WaitBut}
use Rattle.run_events.specs.run_course.Reached.{IsBehind, IsUpTo, IsTearAt, IsFindAt, course_at, course_with, moved_at, moved_with}
use Rattle.run_events.proofs.run_course.Lines.{tear-seen, who-sits}
use Rattle.run_events.proofs.run_course.Telling.{card-judged}
use Rattle.run_events.specs.run_rings.Notes.{accepted_in, noted_if, accepts_by, sits_accepted, notes_to, TellSameTo, NotesMore, course_behind}
use Rattle.run_events.proofs.run_rings.Notes.{Finding, is_at, accepted-append, action-notes, later-lines, second-noted}
use Rattle.run_events.proofs.run_rings.Actions.{power-notes, selections, pulls, entries, refusals, places, withdrawals, insertions}
use Rattle.run_minutes.specs.run_promise.Origin.{Origin, rule_of, start_at, first_of}
use Rattle.run_note_record.specs.Ringed.{notes_in}
use Rattle.run_note_record.specs.RingsSoFar.{GoesBehind, notes_so_far}
use Rattle.run_note_record.proofs.Noted.{notes-alike, second-notes}
use Rattle.run_record.specs.Recorded.{Values, progress}
use Rattle.run_record.specs.Turning.{last_of, before_last, BehindFirst}
use Rattle.device_calls.specs.run_unit_course.Followed.{Lit as IsLit}
use Rattle.run_record.specs.Within.{Beginning, RecordInSecond, told_before, course_in}
use Rattle.run_record.specs.Judging.{IsNext}
use Rattle.run_record.proofs.Pulling.{sitting-now}
use Rattle.run_record.proofs.Seats.{seat-tells, answers-in}
use Rattle.run_acts.specs.Closings.{spells_of, with_last_shut, notes_within}
use Rattle.run_acts.proofs.Closings.{accepts-more, accepts-others, withdraws-last, withdraws-others, enters-same}
use Rattle.run_acts.proofs.RingedLines.{phase-same}
use Rattle.run_acts.proofs.RingedSecond.{course-then, bare-there}
use Rattle.run_acts.proofs.RingedWithdrawn.{stands-still}
use Rattle.run_acts.proofs.SeatsThen.{same-itself}

-- ---- the actions so far

-- the first of some actions
pub actions-at : (front rest actions : List Action) → actions ≡ front ++ rest → take (length front) actions ≡ front
actions-at front rest actions are = ap (take (length front)) are ∙ take-append_seam front rest

longer : (front : List Action) (a : Action) → length (front ++ a ∷ []) ≡ suc (length front)
longer front a = let n = length-append front (a ∷ []) in omega (arith, n)

-- and one more
pub actions-behind : (front rest : List Action) (a : Action) (actions : List Action) → actions ≡ front ++ a ∷ rest → take (suc (length front)) actions ≡ front ++ a ∷ []
actions-behind front rest a actions are =
    ap (λ (n : ℕ). take n actions) (sym (longer front a)) ∙ actions-at (front ++ a ∷ []) rest actions (are ∙ sym (append_assoc front (a ∷ []) rest))

pub actions-all : (actions : List Action) → take (length actions) actions ≡ actions
actions-all actions = actions-at actions [] actions (sym (append-nil actions))

-- ---- an action more, and lines more

-- AN ACTION MORE notes these
pub notes-then : (b : Beginning) (done : List TraceSecond) (s : TraceSecond) (front rest : List Action) (a : Action) (log : RunLog) (more : List Note) → s.actions ≡ front ++ a ∷ rest → NotesMore log (went b.run.log done).before s front a more →
    notes_within b done s (In (suc (length front))) log ≡ notes_within b done s (In (length front)) log ++ more
notes-then b done s front rest a log more are is =
    let was : Before = (went b.run.log done).before in
    ap (λ (as_ : List Action). notes_so_far b.run.log done log s as_) (actions-behind front rest a s.actions are)
    ∙ ap (λ (l : List Note). notes_in b.run.log done ++ l) is
    ∙ sym (append_assoc (notes_in b.run.log done) (notes_to log was s front) more)
    ∙ ap (λ (as_ : List Action). notes_so_far b.run.log done log s as_ ++ more) (sym (actions-at front (a ∷ rest) s.actions are))

-- LATER LINES change no note that was made
pub notes-later : (b : Beginning) (done : List TraceSecond) (s : TraceSecond) (front rest : List Action) (log later : RunLog) → s.actions ≡ front ++ rest → TellSameTo log later s.number (length front) →
    notes_within b done s (In (length front)) later ≡ notes_within b done s (In (length front)) log
notes-later b done s front rest log later are same =
    ap (λ (as_ : List Action). notes_so_far b.run.log done later s as_) (actions-at front rest s.actions are)
    ∙ ap (λ (l : List Note). notes_in b.run.log done ++ l) (later-lines log later (went b.run.log done).before s front same)
    ∙ ap (λ (as_ : List Action). notes_so_far b.run.log done log s as_) (sym (actions-at front rest s.actions are))

-- an action more that notes nothing, of which lines may be told
pub none-then : (b : Beginning) (done : List TraceSecond) (s : TraceSecond) (front rest : List Action) (a : Action) (log later : RunLog) → s.actions ≡ front ++ a ∷ rest → TellSameTo log later s.number (length front) → NotesMore later (went b.run.log done).before s front a [] →
    notes_within b done s (In (suc (length front))) later ≡ notes_within b done s (In (length front)) log
none-then b done s front rest a log later are same none =
    notes-then b done s front rest a later [] are none ∙ append-nil (notes_within b done s (In (length front)) later) ∙ notes-later b done s front (a ∷ rest) log later are same

-- ---- a log that tells the same

same-all : (log : RunLog) (ss : List TraceSecond) → All (λ (x : TraceSecond). SameAt log log x.number) ss
same-all log [] = All-nil (λ (x : TraceSecond). SameAt log log x.number)
same-all log (s ∷ ss) = All-cons (λ (x : TraceSecond). SameAt log log x.number) s ss (record { cut = refl; torn = λ p slot. refl; found = λ p slot. refl }) (same-all log ss)

pub tells-itself : (log : RunLog) (u n : ℕ) → cut_in log u ≡ None → TellSameTo log log u n
tells-itself log u n uncut = record {
  begun = λ k lt. ap (λ (q : Option ℕ). begins q k) uncut;
  begun_later = λ k lt. ap (λ (q : Option ℕ). begins q k) uncut;
  torn = λ k slot le. refl;
  found = λ k slot le. refl;
}

other-moment : (n k : ℕ) → k ≤ n → nat_eq (suc n) k ≡ false
other-moment n k le = grind (arith, nat_tests)

neither : (a b c : Bool) → b ≡ false → (a && b && c) ≡ false
neither true true c is = absurd (cc)
neither true false c is = refl
neither false b c is = refl

or-nothing : (a b : Bool) → b ≡ false → (a || b) ≡ a
or-nothing true b is = refl
or-nothing false b is = is

-- with a card torn out in the next action
pub torn-same : (log : RunLog) (s : TraceSecond) (front : List Action) (slot : Slot) (failed : Bool) → cut_in log s.number ≡ None → TellSameTo log (and_break log (Torn s.number slot failed (suc (length front)) false)) s.number (length front)
torn-same log s front slot failed uncut =
    let b : Break = Torn s.number slot failed (suc (length front)) false in
    let seen = break-more log b s.number in
    let uncut_later : cut_in (and_break log b) s.number ≡ None = seen.cut ∙ ap (λ (c : Option ℕ). cond (is_some c) c None) uncut in
    record {
      begun = λ k lt. ap (λ (c : Option ℕ). begins c k) uncut;
      begun_later = λ k lt. ap (λ (c : Option ℕ). begins c k) uncut_later;
      torn = λ k at le. seen.torn (In k) at ∙ or-nothing (is_torn_in log s.number (In k) at) (tears_here s.number (In k) at b) (neither (nat_eq s.number s.number) (nat_eq (suc (length front)) k) (same_slot slot at) (other-moment (length front) k le));
      found = λ k at le. seen.found (In k) at;
    }

-- ---- seconds begin and end

-- A SECOND BEGINS in which power goes on: nothing is noted yet
pub notes-begin : (b : Beginning) (done : List TraceSecond) (s : TraceSecond) → (went b.run.log done).before.running ≡ true → notes_within b done s (In 0) b.run.log ≡ notes_in b.run.log done
notes-begin b done s runs =
    ap (λ (as_ : List Action). notes_so_far b.run.log done b.run.log s as_) (actions-at [] s.actions s.actions refl)
    ∙ ap (λ (l : List Note). notes_in b.run.log done ++ l) ((power-notes b.run.log (went b.run.log done).before s).1 runs) ∙ append-nil (notes_in b.run.log done)

-- nor is it at a power-on, before a card was looked at
pub notes-wake : (b : Beginning) (done : List TraceSecond) (s : TraceSecond) → (went b.run.log done).before.running ≡ false → ((slot : Slot) → found_in b.run.log s.number (In 0) slot ≡ []) → notes_within b done s (In 0) b.run.log ≡ notes_in b.run.log done
notes-wake b done s rests none =
    let was : Before = (went b.run.log done).before in
    ap (λ (as_ : List Action). notes_so_far b.run.log done b.run.log s as_) (actions-at [] s.actions s.actions refl)
    ∙ ap (λ (l : List Note). notes_in b.run.log done ++ l)
    ((power-notes b.run.log was s).0 rests ∙ (λ i. sits_accepted s.number Driver was.slots.driver (none Driver i) ++ sits_accepted s.number CoDriver was.slots.codriver (none CoDriver i)) ∙ both-none was.slots.driver was.slots.codriver)
    ∙ append-nil (notes_in b.run.log done)
  where
    sits-none : (slot : Slot) (x : Option Sitting) → sits_accepted s.number slot x [] ≡ []
    sits-none slot None = refl
    sits-none slot (Some x) = refl

    both-none : (x y : Option Sitting) → sits_accepted s.number Driver x [] ++ sits_accepted s.number CoDriver y [] ≡ []
    both-none x y = (λ i. sits-none Driver x i ++ sits-none CoDriver y i)

-- A SECOND WITH POWER ENDS behind all of its actions
pub notes-end : (began later : RunLog) (done : List TraceSecond) (s : TraceSecond) → GoesBehind began later done → has_power (went began done).before s ≡ true → notes_in later (done ++ s ∷ []) ≡ notes_so_far began done later s s.actions
notes-end began later done s behind power =
    let before_is : (went later done).before ≡ (went began done).before = ap (λ (w : Went). w.before) behind.went_is in
    let there : has_power (went later done).before s ≡ true = ap (λ (b : Before). has_power b s) before_is ∙ power in
    second-notes began later done s behind.same
    ∙ ap (λ (l : List Note). notes_in began done ++ l) (second-noted later (went later done).before s there ∙ ap (λ (b : Before). notes_to later b s s.actions) before_is)

dark-notes : (later : RunLog) (before : Before) (s : TraceSecond) → has_power before s ≡ false → noted_in later (done_by later before s) ≡ []
dark-notes later before s off = rw off refl

-- one without power notes nothing
pub notes-dark : (log : RunLog) (done : List TraceSecond) (s : TraceSecond) → has_power (went log done).before s ≡ false → notes_in log (done ++ s ∷ []) ≡ notes_in log done
notes-dark log done s off =
    second-notes log log done s (same-all log done) ∙ ap (λ (l : List Note). notes_in log done ++ l) (dark-notes log (went log done).before s off) ∙ append-nil (notes_in log done)

-- nor do several, as an `off` line has them,
pub notes-off : (n : ℕ) (log : RunLog) (done : List TraceSecond) (u : ℕ) → notes_in log (done ++ dark n u) ≡ notes_in log done
notes-off zero log done u = ap (λ (ss : List TraceSecond). notes_in log ss) (append-nil done)
notes-off (suc n) log done u =
    let x : TraceSecond = record { number = u; has_power = false; speed = 0; actions = [] } in
    ap (λ (ss : List TraceSecond). notes_in log ss) (sym (append_assoc done (x ∷ []) (dark n (u + 1)))) ∙ notes-off n log (done ++ x ∷ []) (u + 1) ∙ notes-dark log done x refl

-- or behind a cut, before the next minute
lost-one : (log : RunLog) (done : List TraceSecond) (u speed : ℕ) (actions : List Action) → IsLost (went log done).before → 0 < u % 60 →
    IsLost (went log (done ++ record { number = u; has_power = true; speed = speed; actions = actions } ∷ [])).before × (notes_in log (done ++ record { number = u; has_power = true; speed = speed; actions = actions } ∷ []) ≡ notes_in log done)
lost-one log done u speed actions lost some =
    let x : TraceSecond = record { number = u; has_power = true; speed = speed; actions = actions } in
    let before : Before = (went log done).before in
    let off : has_power before x ≡ false = lost-dark before x lost some in
    let t = dark-told log before x off in
    (subst (λ (g : Went). IsLost g.before) (sym (went-more log done x)) (next-dark before (second_told log before x) lost t.lit t.cut t.given), notes-dark log done x off)

pub notes-lost : (j : ℕ) (log : RunLog) (done : List TraceSecond) (u speed : ℕ) (actions : List Action) → IsLost (went log done).before → 0 < u % 60 → u % 60 + j ≤ 60 → notes_in log (done ++ driven j u speed actions) ≡ notes_in log done
notes-lost zero log done u speed actions lost some few = ap (λ (ss : List TraceSecond). notes_in log ss) (append-nil done)
notes-lost (suc zero) log done u speed actions lost some few = (lost-one log done u speed actions lost some).1
notes-lost (suc (suc j)) log done u speed actions lost some few =
    let x : TraceSecond = record { number = u; has_power = true; speed = speed; actions = actions } in
    let one = lost-one log done u speed actions lost some in
    ap (λ (ss : List TraceSecond). notes_in log ss) (sym (append_assoc done (x ∷ []) (driven (suc j) (u + 1) speed [])))
    ∙ notes-lost (suc j) log (done ++ x ∷ []) (u + 1) speed [] one.0 (omega (arith, some, few)) (omega (arith, some, few)) ∙ one.1

-- lines of refused actions change no note
all-refused : (log : RunLog) (refused : List Refused) (ss : List TraceSecond) → All (λ (x : TraceSecond). SameAt log (record log { refused = refused }) x.number) ss
all-refused log refused [] = All-nil (λ (x : TraceSecond). SameAt log (record log { refused = refused }) x.number)
all-refused log refused (s ∷ ss) =
    let seen = refusal-more log refused s.number in
    All-cons (λ (x : TraceSecond). SameAt log (record log { refused = refused }) x.number) s ss (record { cut = seen.cut; torn = λ p slot. seen.torn p slot; found = λ p slot. seen.found p slot }) (all-refused log refused ss)

pub went-refused : (log : RunLog) (refused : List Refused) (ss : List TraceSecond) → went (record log { refused = refused }) ss ≡ went log ss
went-refused log refused ss = went-same log (record log { refused = refused }) ss (all-refused log refused ss)

pub notes-refused : (log : RunLog) (refused : List Refused) (ss : List TraceSecond) → notes_in (record log { refused = refused }) ss ≡ notes_in log ss
notes-refused log refused ss = notes-alike log (record log { refused = refused }) ss (all-refused log refused ss)

-- nor does what was kept, as it is found
all-found : (log : RunLog) (i k : ℕ) (ss : List TraceSecond) → All (λ (x : TraceSecond). SameAt log (found_log i k log) x.number) ss
all-found log i k [] = All-nil (λ (x : TraceSecond). SameAt log (found_log i k log) x.number)
all-found log i k (s ∷ ss) = All-cons (λ (x : TraceSecond). SameAt log (found_log i k log) x.number) s ss (same-found log i k s.number) (all-found log i k ss)

pub went-found : (log : RunLog) (i k : ℕ) (ss : List TraceSecond) → went (found_log i k log) ss ≡ went log ss
went-found log i k ss = went-same log (found_log i k log) ss (all-found log i k ss)

pub notes-found : (log : RunLog) (i k : ℕ) (ss : List TraceSecond) → notes_in (found_log i k log) ss ≡ notes_in log ss
notes-found log i k ss = notes-alike log (found_log i k log) ss (all-found log i k ss)

-- nor does one with power that has no actions, where power goes on
pub notes-quiet : (log : RunLog) (done : List TraceSecond) (u speed : ℕ) → PowerGoesOn (went log done).before → notes_in log (done ++ record { number = u; has_power = true; speed = speed; actions = [] } ∷ []) ≡ notes_in log done
notes-quiet log done u speed goes =
    let x : TraceSecond = record { number = u; has_power = true; speed = speed; actions = [] } in
    let before : Before = (went log done).before in
    let power : has_power before x ≡ true = lit-power (second_told log before x ∷ []) before x u goes refl refl in
    notes-end log log done x (record { same = same-all log done; went_is = refl }) power
    ∙ ap (λ (l : List Note). notes_in log done ++ l) ((power-notes log before x).1 goes.running) ∙ append-nil (notes_in log done)

-- nor do several
pub notes-driven : (j : ℕ) (log : RunLog) (done : List TraceSecond) (u speed : ℕ) → ((i : ℕ) → PowerGoesOn (went log (done ++ driven i u speed [])).before) → notes_in log (done ++ driven j u speed []) ≡ notes_in log done
notes-driven zero log done u speed goes = ap (λ (ss : List TraceSecond). notes_in log ss) (append-nil done)
notes-driven (suc j) log done u speed goes =
    let x : TraceSecond = record { number = u; has_power = true; speed = speed; actions = [] } in
    ap (λ (ss : List TraceSecond). notes_in log ss) (sym (append_assoc done (x ∷ []) (driven j (u + 1) speed [])))
    ∙ notes-driven j log (done ++ x ∷ []) (u + 1) speed (λ i. subst (λ (ss : List TraceSecond). PowerGoesOn (went log ss).before) (sym (append_assoc done (x ∷ []) (driven i (u + 1) speed []))) (goes (suc i)))
    ∙ notes-quiet log done u speed (subst (λ (ss : List TraceSecond). PowerGoesOn (went log ss).before) (append-nil done) (goes zero))

-- power goes on behind the first of several seconds
pub behind-goes : (o : Origin) (done : List TraceSecond) (s : TraceSecond) (v : Values) (d : Devices) (q : BehindFirst o done s v d) → s.number ≡ v.next → (i : ℕ) → PowerGoesOn (went v.log ((done ++ s ∷ []) ++ driven i (s.number + 1) s.speed [])).before
behind-goes o done s v d q number i =
    let followed = q.recorded.recorded.followed in
    let p : Progress = progress q.values (IsLit (q.told ∷ q.span)) q.recorded.book in
    let next : q.values.next ≡ s.number + 1 = (let at_ = q.next in omega (arith, at_, number)) in
    let told = quiet-are-told (rule_of o) (start_at o) o.from (first_of o) (done ++ s ∷ []) p followed q.told q.span refl i s.speed in
    subst (λ (l : RunLog). PowerGoesOn (went l ((done ++ s ∷ []) ++ driven i (s.number + 1) s.speed [])).before) q.log
    (subst (λ (u : ℕ). PowerGoesOn (went q.values.log ((done ++ s ∷ []) ++ driven i u s.speed [])).before) next
    (subst (λ (g : Went). PowerGoesOn g.before) (sym told) followed.power))

-- IN THE LAST of several seconds what the first has noted is noted
pub notes-last : (began log : RunLog) (done : List TraceSecond) (s : TraceSecond) (c : ℕ) → GoesBehind began log done → has_power (went began done).before s ≡ true → ((i : ℕ) → PowerGoesOn (went log ((done ++ s ∷ []) ++ driven i (s.number + 1) s.speed [])).before) →
    (b : Beginning) → b.run.log ≡ log → notes_within b (before_last (suc c) s done) (last_of (suc c) s) Keeping log ≡ notes_so_far began done log s s.actions
notes-last began log done s c behind power goes b is =
    let D : List TraceSecond = done ++ s ∷ driven c (s.number + 1) s.speed [] in
    let L : TraceSecond = record { number = s.number + suc c; has_power = true; speed = s.speed; actions = [] } in
    let done_is : (done ++ s ∷ []) ++ driven c (s.number + 1) s.speed [] ≡ done ++ s ∷ driven c (s.number + 1) s.speed [] = append_assoc done (s ∷ []) (driven c (s.number + 1) s.speed []) in
    ap (λ (l : RunLog). notes_so_far l D log L []) is
    ∙ ap (λ (l : List Note). notes_in log D ++ l) ((power-notes log (went log D).before L).1 (subst (λ (ss : List TraceSecond). (went log ss).before.running ≡ true) done_is (goes c).running))
    ∙ append-nil (notes_in log D)
    ∙ ap (λ (ss : List TraceSecond). notes_in log ss) (sym done_is)
    ∙ notes-driven c log (done ++ s ∷ []) (s.number + 1) s.speed goes
    ∙ notes-end began log done s behind power

-- ---- at an action of a second

module _ (o : Origin) (done : List TraceSecond) (s : TraceSecond) (front rest : List Action) (a : Action) (are : s.actions ≡ front ++ a ∷ rest) (v : Values) (d : Devices) (w : RecordInSecond o done s (In (length front)) [] None [] v d) where
  abbrev was : Before
  was = (went w.b.run.log done).before

  abbrev course : Course
  course = course_in w.b done s (In (length front)) v.log

  -- as it begins, and behind it
  abbrev notes : List Note
  notes = notes_within w.b done s (In (length front)) v.log

  abbrev notes_now : List Note
  notes_now = notes_within w.b done s (In (suc (length front))) v.log

  pub uncut-here : cut_in v.log s.number ≡ None
  uncut-here = w.moment.up_to.uncut

  begun : begins (cut_in v.log s.number) (length front) ≡ true
  begun = ap (λ (q : Option ℕ). begins q (length front)) uncut-here

  pub behind-here : course_behind v.log was s front ≡ course
  behind-here = course-then o done s front rest a are v d w [] v.log (ap (λ (bs : List Break). record v.log { breaks = bs }) (sym (append-nil v.log.breaks))) tt

  pub nothing-now : NotesMore v.log was s front a [] → (c : Card) → spells_of c notes_now ≡ spells_of c notes
  nothing-now none c = ap (λ (l : List Note). spells_of c l) (none-then w.b done s front rest a v.log v.log are (tells-itself v.log s.number (length front) uncut-here) none)

  one-now : (n : Note) → NotesMore v.log was s front a (n ∷ []) → (c : Card) → spells_of c notes_now ≡ spells_of c (notes ++ n ∷ [])
  one-now n is c = ap (λ (l : List Note). spells_of c l) (notes-then w.b done s front rest a v.log (n ∷ []) are is)

-- A PLACE changes no spell
accepted-some : (b : Bool) (fault : SlotFault) → cond {A = Option SlotFault} b None (Some fault) ≡ None → b ≡ true
accepted-some true fault is = refl
accepted-some false fault is = absurd (cc)

pub place-now : (o : Origin) (done : List TraceSecond) (s : TraceSecond) (front rest : List Action) (slot : Slot) (ending : Bool) (country region : ℕ) (are : s.actions ≡ front ++ Place slot ending country region ∷ rest) (v : Values) (d : Devices) (w : RecordInSecond o done s (In (length front)) [] None [] v d) →
    refusal (course_in w.b done s (In (length front)) v.log).slots s.speed (Place slot ending country region) ≡ None → (c : Card) →
    spells_of c (notes_within w.b done s (In (suc (length front))) v.log) ≡ spells_of c (notes_within w.b done s (In (length front)) v.log)
place-now o done s front rest slot ending country region are v d w fine c =
    by (in_slot (course_in w.b done s (In (length front)) v.log).slots slot) refl (accepted-some (is_accepted (in_slot (course_in w.b done s (In (length front)) v.log).slots slot)) (NoCard slot) fine)
  where
    by : (q : Option Sitting) → in_slot (course_in w.b done s (In (length front)) v.log).slots slot ≡ q → is_accepted q ≡ true →
        spells_of c (notes_within w.b done s (In (suc (length front))) v.log) ≡ spells_of c (notes_within w.b done s (In (length front)) v.log)
    by None is accepted = absurd (let wrong : false ≡ true = accepted in cc)
    by (Some x) is accepted =
        let p : PlaceNote = record { second = s.number; card = x.card; ending = ending; country = country; region = region } in
        one-now o done s front rest (Place slot ending country region) are v d w (Enters p)
        (places v.log (went w.b.run.log done).before s front (begun o done s front rest (Place slot ending country region) are v d w) slot ending country region x
        (ap (λ (k : Course). in_slot k.slots slot) (behind-here o done s front rest (Place slot ending country region) are v d w) ∙ is) accepted) c
        ∙ enters-same c (notes_within w.b done s (In (length front)) v.log) p

-- nor does a selection
pub select-now : (o : Origin) (done : List TraceSecond) (s : TraceSecond) (front rest : List Action) (slot : Slot) (pick : Pick) (are : s.actions ≡ front ++ Select slot pick ∷ rest) (v : Values) (d : Devices) (w : RecordInSecond o done s (In (length front)) [] None [] v d) → (c : Card) →
    spells_of c (notes_within w.b done s (In (suc (length front))) v.log) ≡ spells_of c (notes_within w.b done s (In (length front)) v.log)
select-now o done s front rest slot pick are v d w c = nothing-now o done s front rest (Select slot pick) are v d w (selections v.log (went w.b.run.log done).before s front slot pick) c

-- nor an entry by hand
pub hand-now : (o : Origin) (done : List TraceSecond) (s : TraceSecond) (front rest : List Action) (slot : Slot) (pick : Pick) (minute : ℕ) (are : s.actions ≡ front ++ Manual slot pick minute ∷ rest) (v : Values) (d : Devices) (w : RecordInSecond o done s (In (length front)) [] None [] v d) → (c : Card) →
    spells_of c (notes_within w.b done s (In (suc (length front))) v.log) ≡ spells_of c (notes_within w.b done s (In (length front)) v.log)
hand-now o done s front rest slot pick minute are v d w c =
    nothing-now o done s front rest (Manual slot pick minute) are v d w (entries v.log (went w.b.run.log done).before s front slot pick minute) c

-- nor a card that is pulled out, of which a line is told
pub pull-now : (o : Origin) (done : List TraceSecond) (s : TraceSecond) (front rest : List Action) (slot : Slot) (are : s.actions ≡ front ++ Tear slot ∷ rest) (v : Values) (d : Devices) (w : RecordInSecond o done s (In (length front)) [] None [] v d) → (c : Card) →
    spells_of c (notes_within w.b done s (In (suc (length front))) (and_break v.log (Torn s.number slot false (suc (length front)) false))) ≡ spells_of c (notes_within w.b done s (In (length front)) v.log)
pull-now o done s front rest slot are v d w c =
    let later : RunLog = and_break v.log (Torn s.number slot false (suc (length front)) false) in
    ap (λ (l : List Note). spells_of c l)
    (none-then w.b done s front rest (Tear slot) v.log later are (torn-same v.log s front slot false w.moment.up_to.uncut) (pulls later (went w.b.run.log done).before s front slot))

-- nor an action that is refused, of which a line is told
pub behind-refused : (log : RunLog) (before : Before) (s : TraceSecond) (front : List Action) (line : Refused) → course_behind (and_refused log line) before s front ≡ course_behind log before s front
unfolding is_torn_in found_in cut_in
behind-refused log before s front line = refl

pub refuse-now : (o : Origin) (done : List TraceSecond) (s : TraceSecond) (front rest : List Action) (a : Action) (are : s.actions ≡ front ++ a ∷ rest) (v : Values) (d : Devices) (w : RecordInSecond o done s (In (length front)) [] None [] v d) →
    (fault : SlotFault) → refusal (course_in w.b done s (In (length front)) v.log).slots s.speed a ≡ Some fault → (line : Refused) → (c : Card) →
    spells_of c (notes_within w.b done s (In (suc (length front))) (and_refused v.log line)) ≡ spells_of c (notes_within w.b done s (In (length front)) v.log)
refuse-now o done s front rest a are v d w fault is line c =
    let before : Before = (went w.b.run.log done).before in
    let now : RunLog = and_refused v.log line in
    let seen = refusal-more v.log (v.log.refused ++ line ∷ []) s.number in
    let same : TellSameTo v.log now s.number (length front) = record {
      begun = λ k lt. ap (λ (q : Option ℕ). begins q k) w.moment.up_to.uncut;
      begun_later = λ k lt. ap (λ (q : Option ℕ). begins q k) (seen.cut ∙ w.moment.up_to.uncut);
      torn = λ k slot le. seen.torn (In k) slot;
      found = λ k slot le. seen.found (In k) slot;
    } in
    ap (λ (l : List Note). spells_of c l)
    (none-then w.b done s front rest a v.log now are same
    (refusals now before s front a fault (ap (λ (k : Course). refusal k.slots s.speed a) (behind-refused v.log before s front line ∙ behind-here o done s front rest a are v d w) ∙ is)))

-- nor does a card that is put in, before it is judged
pub put-now : (o : Origin) (done : List TraceSecond) (s : TraceSecond) (front rest : List Action) (slot : Slot) (card : Card) (are : s.actions ≡ front ++ Insert slot card ∷ rest) (v : Values) (d : Devices) (w : RecordInSecond o done s (In (length front)) [] None [] v d) →
    refusal (course_in w.b done s (In (length front)) v.log).slots s.speed (Insert slot card) ≡ None → (c : Card) →
    spells_of c (notes_within w.b done s (In (suc (length front))) v.log) ≡ spells_of c (notes_within w.b done s (In (length front)) v.log)
put-now o done s front rest slot card are v d w fine c =
    let a : Action = Insert slot card in
    let more : length front + 1 ≡ suc (length front) = omega arith in
    let none : found_in v.log s.number (In (length front + 1)) slot ≡ [] = ap (λ (n : ℕ). found_in v.log s.number (In n) slot) more ∙ w.moment.up_to.found (In (suc (length front))) slot (omega arith) in
    nothing-now o done s front rest a are v d w
    (subst (λ (l : List Verdict). NotesMore v.log (went w.b.run.log done).before s front (Insert slot card) (accepts_by s.number slot card l)) none
    (insertions v.log (went w.b.run.log done).before s front (begun o done s front rest a are v d w) slot card (ap (λ (k : Course). refusal k.slots s.speed a) (behind-here o done s front rest a are v d w) ∙ fine))) c

-- A CARD IS WITHDRAWN: the last of its spells is shut, where it has a session; and none of another card
module _ (o : Origin) (done : List TraceSecond) (s : TraceSecond) (front rest : List Action) (slot : Slot) (are : s.actions ≡ front ++ Withdraw slot ∷ rest) (speed : ℕ) (now : s.speed ≡ speed) (card : Card) (v : Values) (d : Devices) (w : RecordInSecond o done s (In (length front)) [] None [] v d)
    (seat : card_in (seat_in v.cabin.slots.seats slot) ≡ Some card) (allowed : refusal (logged v.cabin.slots.seats) speed (Withdraw slot) ≡ None) (low : ℕ) (stands : CabinIsSound low None v.cabin) where
  still : nat_lt 0 s.speed ≡ false
  still = ap (λ (n : ℕ). nat_lt 0 n) now ∙ stands-still (not (is_some (in_slot (logged v.cabin.slots.seats) slot))) (nat_lt 0 speed) (Empty slot) (Moving speed) allowed

  sits-behind : (x : Sitting) → in_slot (course_in w.b done s (In (length front)) v.log).slots slot ≡ Some x → in_slot (course_behind v.log (went w.b.run.log done).before s front).slots slot ≡ Some x
  sits-behind x is = ap (λ (k : Course). in_slot k.slots slot) (behind-here o done s front rest (Withdraw slot) are v d w) ∙ is

  abbrev withdrawal : Withdrawal
  withdrawal = record { second = s.number; card = card }

  noted-so : is_some (session_of v.cabin.cards card) ≡ true → NotesMore v.log (went w.b.run.log done).before s front (Withdraw slot) (Withdraws (record { second = s.number; card = card }) ∷ [])
  noted-so some =
      let sits = sitting-now o done s (In (length front)) v d w slot card seat low stands some in
      let more : length front + 1 ≡ suc (length front) = omega arith in
      let untorn : is_torn_in v.log s.number (In (length front + 1)) slot ≡ false = ap (λ (n : ℕ). is_torn_in v.log s.number (In n) slot) more ∙ w.moment.up_to.torn (In (suc (length front))) slot (omega arith) in
      (withdrawals v.log (went w.b.run.log done).before s front (begun o done s front rest (Withdraw slot) are v d w) slot (record { card = card; accepted = Some sits.0 }) (sits-behind (record { card = card; accepted = Some sits.0 }) sits.1) still).2 untorn refl

  pub withdrawn-now : is_some (session_of v.cabin.cards card) ≡ true → spells_of card (notes_within w.b done s (In (suc (length front))) v.log) ≡ with_last_shut s.number (spells_of card (notes_within w.b done s (In (length front)) v.log))
  withdrawn-now some = one-now o done s front rest (Withdraw slot) are v d w (Withdraws withdrawal) (noted-so some) card ∙ withdraws-last (notes_within w.b done s (In (length front)) v.log) withdrawal

  bare-none : session_of v.cabin.cards card ≡ None → NotesMore v.log (went w.b.run.log done).before s front (Withdraw slot) []
  bare-none none =
      let sits = bare-there (start_at o) (w.b.run.book.sure ++ w.new) w.from v.cabin.slots low v.cabin.cards card (seat_in v.cabin.slots.seats slot) (in_slot (course_in w.b done s (In (length front)) v.log).slots slot)
      (seat-tells (start_at o) (told_before w.b done) (w.b.run.book.sure ++ w.new) (course_in w.b done s (In (length front)) v.log).left s.number w.from (course_in w.b done s (In (length front)) v.log).slots v.cabin.slots w.tells slot) (answers-in low v.cabin stands slot) seat none in
      (withdrawals v.log (went w.b.run.log done).before s front (begun o done s front rest (Withdraw slot) are v d w) slot sits.0 (sits-behind sits.0 sits.1) still).1 sits.3

  pub bare-now : session_of v.cabin.cards card ≡ None → (c : Card) → spells_of c (notes_within w.b done s (In (suc (length front))) v.log) ≡ spells_of c (notes_within w.b done s (In (length front)) v.log)
  bare-now none c = nothing-now o done s front rest (Withdraw slot) are v d w (bare-none none) c

  pub others-now : (c : Card) → same_card c card ≡ false → spells_of c (notes_within w.b done s (In (suc (length front))) v.log) ≡ spells_of c (notes_within w.b done s (In (length front)) v.log)
  others-now c other = by (session_of v.cabin.cards card) refl
    where
      by : (q : Option Accepted) → session_of v.cabin.cards card ≡ q → spells_of c (notes_within w.b done s (In (suc (length front))) v.log) ≡ spells_of c (notes_within w.b done s (In (length front)) v.log)
      by None is = bare-now is c
      by (Some x) is =
          one-now o done s front rest (Withdraw slot) are v d w (Withdraws withdrawal) (noted-so (ap (λ (q : Option Accepted). is_some q) is)) c
          ∙ withdraws-others c (notes_within w.b done s (In (length front)) v.log) withdrawal other

-- ---- A CARD IS JUDGED

-- what was found of it is noted where it is accepted
one-accepted : (u : ℕ) (p : Phase) (slot : Slot) (card : Card) (v : Verdict) → accepted_in u p ((record { phase = p; slot = slot; card = card }, v) ∷ []) ≡ accepts_by u slot card (v ∷ [])
one-accepted u p slot card v =
    let f : Finding = (record { phase = p; slot = slot; card = card }, v) in
    let test : is_at p f ≡ is_accepting v = ap (λ (b : Bool). b && is_accepting v) (phase-same p) in
    ap (λ (b : Bool). map (λ (g : Finding). Accepts (record { second = u; slot = g.0.slot; card = g.0.card })) (cond b (f ∷ []) [])) test ∙ by (is_accepting v)
  where
    by : (b : Bool) → map (λ (g : Finding). Accepts (record { second = u; slot = g.0.slot; card = g.0.card })) (cond b ((record { phase = p; slot = slot; card = card }, v) ∷ []) [])
        ≡ map (λ (x : Verdict). Accepts (record { second = u; slot = slot; card = card })) (cond b (v ∷ []) [])
    by true = refl
    by false = refl

-- where a list of actions is cut, and the one behind
pub record Parts (actions : List Action) (m : ℕ) : Type 0 where
  pub front : List Action
  pub a : Action
  pub rest : List Action
  pub are : actions ≡ front ++ a ∷ rest
  pub count : length front ≡ m

pub split : (actions : List Action) (m : ℕ) → suc m ≤ length actions → Parts actions m
split [] m le = absurd (omega (arith, le))
split (x ∷ actions) zero le = record { front = []; a = x; rest = actions; are = refl; count = refl }
split (x ∷ actions) (suc m) le =
    let p = split actions m (omega (arith, le)) in
    record { front = x ∷ p.front; a = p.a; rest = p.rest; are = ap (λ (l : List Action). x ∷ l) p.are; count = let n = p.count in omega (arith, n) }

pub get-at : (front : List Action) (a : Action) (rest : List Action) → slice_get (front ++ a ∷ rest) (length front) ≡ Some a
get-at [] a rest = refl
get-at (x ∷ front) a rest = get-at front a rest

-- an action with which a card enters puts it in, and is not refused
record PutsOne (a : Action) (r : Option SlotFault) : Type 0 where
  slot : Slot
  card : Card
  is : a ≡ Insert slot card
  fine : r ≡ None

puts-one : (n : ℕ) (a : Action) (r : Option SlotFault) (c : Course) (slot : Slot) → (moved_by n r a c.slots).enters slot ≡ true → PutsOne a r
puts-one n a (Some fault) c slot enters = absurd (let wrong : false ≡ true = enters in cc)
puts-one n (Select x pick) None c slot enters = absurd (let wrong : false ≡ true = enters in cc)
puts-one n (Insert x card) None c slot enters = record { slot = x; card = card; is = refl; fine = refl }
puts-one n (Withdraw x) None c slot enters = absurd (let wrong : false ≡ true = enters in cc)
puts-one n (Tear x) None c slot enters = absurd (let wrong : false ≡ true = enters in cc)
puts-one n (Place x ending country region) None c slot enters = absurd (let wrong : false ≡ true = enters in cc)
puts-one n (Manual x pick minute) None c slot enters = absurd (let wrong : false ≡ true = enters in cc)

-- what it notes by a log in which it has begun: what was found with it
module _ (log : RunLog) (was : Before) (s : TraceSecond) (front rest : List Action) (slot : Slot) (card : Card) (are : s.actions ≡ front ++ Insert slot card ∷ rest) (uncut : cut_in log s.number ≡ None) (fine : refusal (course_behind log was s front).slots s.speed (Insert slot card) ≡ None) where
  abbrev act : Action
  act = Insert slot card

  abbrev c0 : Course
  c0 = course_behind log was s front

  abbrev c1 : Course
  c1 = acted log s (length front) (Insert slot card) (course_behind log was s front)

  has_begun : begins (cut_in log s.number) (length front) ≡ true
  has_begun = ap (λ (q : Option ℕ). begins q (length front)) uncut

  -- the course with it is that of its moment
  acted-at : c1 ≡ course_at log was s (In (suc (length front)))
  acted-at =
      let n : ℕ = length front in
      let r : Option SlotFault = refusal c0.slots s.speed act in
      let more : n + 1 ≡ suc n = omega arith in
      let got : slice_get s.actions n ≡ Some act = ap (λ (as_ : List Action). slice_get as_ n) are ∙ get-at front act rest in
      ap (λ (b : Bool). cond b (both_told log s.number (In (n + 1)) (moved_by n r act c0.slots) (answered n r act c0)) (record c0 { settled = c0.settled || is_settling act })) has_begun
      ∙ ap (λ (k : ℕ). both_told log s.number (In k) (moved_by n r act c0.slots) (answered n r act c0)) more
      ∙ ap (λ (q : Option Action). both_told log s.number (In (suc n)) (moved_with n q s.speed c0) (course_with n q s.speed c0)) (sym got)
      ∙ ap (λ (as_ : List Action). both_told log s.number (In (suc n)) (moved_with n (slice_get s.actions n) s.speed (all_acted log s 0 as_ (course_powered log was s))) (course_with n (slice_get s.actions n) s.speed (all_acted log s 0 as_ (course_powered log was s))))
      (sym (actions-at front (act ∷ rest) s.actions are))

  put-notes : NotesMore log was s front (Insert slot card) (accepted_in s.number (In (suc (length front))) (course_at log was s (In (suc (length front)))).found)
  put-notes =
      let n : ℕ = length front in
      let more : n + 1 ≡ suc n = omega arith in
      action-notes log was s front act
      ∙ ap (λ (l : List Note). notes_to log was s front ++ l)
      (append-nil (cond (begins (cut_in log s.number) n) (noted_if (refusal c0.slots s.speed act) log s.number (record { before = n; action = act; slots = c0.slots; after = c1.slots }) c1.found) [])
      ∙ ap (λ (b : Bool). cond b (noted_if (refusal c0.slots s.speed act) log s.number (record { before = n; action = act; slots = c0.slots; after = c1.slots }) c1.found) []) has_begun
      ∙ ap (λ (r : Option SlotFault). noted_if r log s.number (record { before = n; action = act; slots = c0.slots; after = c1.slots }) c1.found) fine
      ∙ ap (λ (k : ℕ). accepted_in s.number (In k) c1.found) more
      ∙ ap (λ (k : Course). accepted_in s.number (In (suc n)) k.found) acted-at)

module _ (o : Origin) (done : List TraceSecond) (s : TraceSecond) (n : ℕ) (waits fewer : List Visit) (v : Values) (d : Devices) (w : RecordInSecond o done s (In n) waits None [] v d) (slot : Slot) (card : Card) (next : IsNext o done s (In n) waits fewer v d w slot card)
    (later : RunLog) (uncut-later : cut_in later s.number ≡ None)
    (earlier : (k m : ℕ) (x : Slot) → n ≡ suc m → k ≤ m → (is_torn_in later s.number (In k) x ≡ is_torn_in v.log s.number (In k) x) × (found_in later s.number (In k) x ≡ found_in v.log s.number (In k) x)) (accepts : List Note)
    (noted-more : accepted_in s.number (In n) (course_at later (went w.b.run.log done).before s (In n)).found ≡ accepted_in s.number (In n) (course_at v.log (went w.b.run.log done).before s (In n)).found ++ accepts) where
  abbrev began_ : Before
  began_ = (went w.b.run.log done).before

  -- at a power-on
  at-once : n ≡ 0 → notes_within w.b done s (In n) later ≡ notes_within w.b done s (In n) v.log ++ accepts
  at-once is =
      let first : (log : RunLog) → notes_within w.b done s (In n) log ≡ notes_in w.b.run.log done ++ accepted_in s.number (In n) (course_at log began_ s (In n)).found =
      λ log.
      ap (λ (k : ℕ). notes_within w.b done s (In k) log) is
      ∙ ap (λ (as_ : List Action). notes_so_far w.b.run.log done log s as_) (actions-at [] s.actions s.actions refl)
      ∙ ap (λ (l : List Note). notes_in w.b.run.log done ++ l) (append-nil (accepted_in s.number (In 0) (course_powered log began_ s).found))
      ∙ ap (λ (k : ℕ). notes_in w.b.run.log done ++ accepted_in s.number (In k) (course_at log began_ s (In k)).found) (sym is) in
      first later ∙ ap (λ (l : List Note). notes_in w.b.run.log done ++ l) noted-more
      ∙ sym (append_assoc (notes_in w.b.run.log done) (accepted_in s.number (In n) (course_at v.log began_ s (In n)).found) accepts) ∙ ap (λ (l : List Note). l ++ accepts) (sym (first v.log))

  -- in an action
  module _ (m : ℕ) (is : n ≡ suc m) (p : Parts s.actions m) where
    same-to : TellSameTo v.log later s.number (length p.front)
    same-to = record {
      begun = λ k lt. ap (λ (q : Option ℕ). begins q k) w.moment.up_to.uncut;
      begun_later = λ k lt. ap (λ (q : Option ℕ). begins q k) uncut-later;
      torn = λ k x le. (earlier k m x is (let c = p.count in omega (arith, c, le))).0;
      found = λ k x le. (earlier k m x is (let c = p.count in omega (arith, c, le))).1;
    }

    alike : course_behind later began_ s p.front ≡ course_behind v.log began_ s p.front
    alike =
        ap (λ (as_ : List Action). all_acted later s 0 as_ (course_powered later began_ s)) (sym (actions-at p.front (p.a ∷ p.rest) s.actions p.are))
        ∙ same-course-by v.log later began_ s (length p.front) (record { none = w.moment.up_to.uncut; behind = inl uncut-later; torn = same-to.torn; found = same-to.found })
        ∙ ap (λ (as_ : List Action). all_acted v.log s 0 as_ (course_powered v.log began_ s)) (actions-at p.front (p.a ∷ p.rest) s.actions p.are)

    n-is : n ≡ suc (length p.front)
    n-is = let c = p.count in omega (arith, c, is)

    puts : PutsOne p.a (refusal (course_behind v.log began_ s p.front).slots s.speed p.a)
    puts =
        let got : slice_get s.actions (length p.front) ≡ Some p.a = ap (λ (as_ : List Action). slice_get as_ (length p.front)) p.are ∙ get-at p.front p.a p.rest in
        puts-one (length p.front) p.a (refusal (course_behind v.log began_ s p.front).slots s.speed p.a) (course_behind v.log began_ s p.front) slot
        (sym (ap (λ (q : Option Action). (moved_with (length p.front) q s.speed (course_behind v.log began_ s p.front)).enters slot) got)
        ∙ sym (ap (λ (as_ : List Action). (moved_with (length p.front) (slice_get s.actions (length p.front)) s.speed (all_acted v.log s 0 as_ (course_powered v.log began_ s))).enters slot) (actions-at p.front (p.a ∷ p.rest) s.actions p.are))
        ∙ ap (λ (k : ℕ). (moved_at v.log began_ s (In k)).enters slot) (sym n-is) ∙ next.enters)

    are-put : s.actions ≡ p.front ++ Insert puts.slot puts.card ∷ p.rest
    are-put = p.are ∙ ap (λ (x : Action). p.front ++ x ∷ p.rest) puts.is

    fine-then : refusal (course_behind v.log began_ s p.front).slots s.speed (Insert puts.slot puts.card) ≡ None
    fine-then = ap (λ (x : Action). refusal (course_behind v.log began_ s p.front).slots s.speed x) (sym puts.is) ∙ puts.fine

    in-action : notes_within w.b done s (In n) later ≡ notes_within w.b done s (In n) v.log ++ accepts
    in-action =
        let l : ℕ = length p.front in
        let by_log : (log : RunLog) → NotesMore log began_ s p.front (Insert puts.slot puts.card) (accepted_in s.number (In (suc l)) (course_at log began_ s (In (suc l))).found) →
        notes_within w.b done s (In n) log ≡ notes_within w.b done s (In l) log ++ accepted_in s.number (In n) (course_at log began_ s (In n)).found =
        λ log more.
        ap (λ (k : ℕ). notes_within w.b done s (In k) log) n-is
        ∙ notes-then w.b done s p.front p.rest (Insert puts.slot puts.card) log (accepted_in s.number (In (suc l)) (course_at log began_ s (In (suc l))).found) are-put more
        ∙ ap (λ (k : ℕ). notes_within w.b done s (In l) log ++ accepted_in s.number (In k) (course_at log began_ s (In k)).found) (sym n-is) in
        let first = by_log v.log (put-notes v.log began_ s p.front p.rest puts.slot puts.card are-put w.moment.up_to.uncut fine-then) in
        let now = by_log later (put-notes later began_ s p.front p.rest puts.slot puts.card are-put uncut-later (ap (λ (k : Course). refusal k.slots s.speed (Insert puts.slot puts.card)) alike ∙ fine-then)) in
        now ∙ (λ i. notes-later w.b done s p.front (p.a ∷ p.rest) v.log later p.are same-to i ++ noted-more i)
        ∙ sym (append_assoc (notes_within w.b done s (In l) v.log) (accepted_in s.number (In n) (course_at v.log began_ s (In n)).found) accepts) ∙ ap (λ (q : List Note). q ++ accepts) (sym first)

  -- SO MUCH IS NOTED of it
  pub noted-then : notes_within w.b done s (In n) later ≡ notes_within w.b done s (In n) v.log ++ accepts
  noted-then = by n refl
    where
      by : (k : ℕ) → n ≡ k → notes_within w.b done s (In n) later ≡ notes_within w.b done s (In n) v.log ++ accepts
      by zero is = at-once is
      by (suc m) is = in-action m is (split s.actions m (let few : n ≤ length s.actions = w.moment.is in omega (arith, few, is)))

module _ (o : Origin) (done : List TraceSecond) (s : TraceSecond) (n : ℕ) (waits fewer : List Visit) (v : Values) (d : Devices) (w : RecordInSecond o done s (In n) waits None [] v d) (slot : Slot) (card : Card) (next : IsNext o done s (In n) waits fewer v d w slot card) (none : found_in v.log s.number (In n) slot ≡ [])
    (order : slot ≡ Driver → ((moved_at v.log (went w.b.run.log done).before s (In n)).enters CoDriver ≡ false) ⊎ (found_in v.log s.number (In n) CoDriver ≡ [])) (f : Find) (here : IsFindAt s (In n) f) (slot_is : f.slot ≡ slot) where
  abbrev before_ : Before
  before_ = (went w.b.run.log done).before

  abbrev later : RunLog
  later = and_find v.log f

  abbrev accepts : List Note
  accepts = accepts_by s.number slot card (f.verdict ∷ [])

  -- the course has one finding more
  found-more : (course_at later before_ s (In n)).found ≡ (course_at v.log before_ s (In n)).found ++ (record { phase = In n; slot = slot; card = card }, f.verdict) ∷ []
  found-more =
      let at : (x : Slot) → x ≡ slot → (in_slot (course_at v.log before_ s (In n)).slots x ≡ Some (record { card = card; accepted = None })) × (found_in v.log s.number (In n) x ≡ []) × ((moved_at v.log before_ s (In n)).enters x ≡ true)
      × (x ≡ Driver → ((moved_at v.log before_ s (In n)).enters CoDriver ≡ false) ⊎ (found_in v.log s.number (In n) CoDriver ≡ [])) =
      λ x is. subst (λ (y : Slot). (in_slot (course_at v.log before_ s (In n)).slots y ≡ Some (record { card = card; accepted = None })) × (found_in v.log s.number (In n) y ≡ []) × ((moved_at v.log before_ s (In n)).enters y ≡ true)
      × (y ≡ Driver → ((moved_at v.log before_ s (In n)).enters CoDriver ≡ false) ⊎ (found_in v.log s.number (In n) CoDriver ≡ []))) (sym is) (next.sits_, none, next.enters, order) in
      let q = at f.slot slot_is in
      let but = subst (λ (y : Slot). WaitBut (In n) y card waits fewer) (sym slot_is) next.but in
      let judged = card-judged w.b.run before_ s (In n) v.log waits fewer w.b.broken (breakdowns_of d) w.moment f here (record { card = card; accepted = None }) q.0 q.1 q.2 q.3 but next.behind in
      judged.1.found
      ∙ ap (λ (x : Option Sitting). (course_at v.log before_ s (In n)).found ++ map (λ (y : Visit). (y, f.verdict)) (map (λ (k : Card). record { phase = In n; slot = f.slot; card = k }) (card_of_sitting x))) q.0
      ∙ ap (λ (y : Slot). (course_at v.log before_ s (In n)).found ++ (record { phase = In n; slot = y; card = card }, f.verdict) ∷ []) slot_is

  noted-more : accepted_in s.number (In n) (course_at later before_ s (In n)).found ≡ accepted_in s.number (In n) (course_at v.log before_ s (In n)).found ++ accepts
  noted-more =
      ap (λ (l : List Finding). accepted_in s.number (In n) l) found-more
      ∙ accepted-append s.number (In n) (course_at v.log before_ s (In n)).found ((record { phase = In n; slot = slot; card = card }, f.verdict) ∷ [])
      ∙ ap (λ (l : List Note). accepted_in s.number (In n) (course_at v.log before_ s (In n)).found ++ l) (one-accepted s.number (In n) slot card f.verdict)

  uncut-later : cut_in later s.number ≡ None
  uncut-later = (find-more v.log f s.number).cut ∙ w.moment.up_to.uncut

  -- the moments before are as they were
  not-found : (k m : ℕ) (x : Slot) → n ≡ suc m → k ≤ m → found_in later s.number (In k) x ≡ found_in v.log s.number (In k) x
  not-found k m x is le =
      let seen = find-more v.log f s.number in
      let other : same_phase (In f.begun) (In k) ≡ false = ap (λ (p : Phase). same_phase p (In k)) (here.begun ∙ ap (λ (j : ℕ). In j) is) ∙ other-moment m k le in
      seen.found (In k) x ∙ ap (λ (b : Bool). found_in v.log s.number (In k) x ++ cond b (f.verdict ∷ []) []) (neither (nat_eq f.second s.number) (same_phase (In f.begun) (In k)) (same_slot f.slot x) other)
      ∙ append-nil (found_in v.log s.number (In k) x)

  earlier-found : (k m : ℕ) (x : Slot) → n ≡ suc m → k ≤ m → (is_torn_in later s.number (In k) x ≡ is_torn_in v.log s.number (In k) x) × (found_in later s.number (In k) x ≡ found_in v.log s.number (In k) x)
  earlier-found k m x is le = ((find-more v.log f s.number).torn (In k) x, not-found k m x is le)

  -- IT IS NOTED where it is accepted
  pub judged-notes : notes_within w.b done s (In n) later ≡ notes_within w.b done s (In n) v.log ++ accepts
  judged-notes = noted-then o done s n waits fewer v d w slot card next later uncut-later earlier-found accepts noted-more

  -- so another spell of it begins, and none of another card
  pub accepted-now : is_accepting f.verdict ≡ true → spells_of card (notes_within w.b done s (In n) later) ≡ spells_of card (notes_within w.b done s (In n) v.log) ++ record { second = s.number; slot = slot; withdrawn = None } ∷ []
  accepted-now is =
      ap (λ (l : List Note). spells_of card l) (judged-notes ∙ ap (λ (b : Bool). notes_within w.b done s (In n) v.log ++ map (λ (x : Verdict). Accepts (record { second = s.number; slot = slot; card = card })) (cond b (f.verdict ∷ []) [])) is)
      ∙ accepts-more card (notes_within w.b done s (In n) v.log) (record { second = s.number; slot = slot; card = card }) (same-itself card)

  pub rejected-now : is_accepting f.verdict ≡ false → (c : Card) → spells_of c (notes_within w.b done s (In n) later) ≡ spells_of c (notes_within w.b done s (In n) v.log)
  rejected-now is c =
      ap (λ (l : List Note). spells_of c l)
      (judged-notes ∙ ap (λ (b : Bool). notes_within w.b done s (In n) v.log ++ map (λ (x : Verdict). Accepts (record { second = s.number; slot = slot; card = card })) (cond b (f.verdict ∷ []) [])) is ∙ append-nil (notes_within w.b done s (In n) v.log))

  pub elsewhere-now : (c : Card) → same_card c card ≡ false → spells_of c (notes_within w.b done s (In n) later) ≡ spells_of c (notes_within w.b done s (In n) v.log)
  elsewhere-now c other = by (is_accepting f.verdict) refl
    where
      by : (b : Bool) → is_accepting f.verdict ≡ b → spells_of c (notes_within w.b done s (In n) later) ≡ spells_of c (notes_within w.b done s (In n) v.log)
      by false is = rejected-now is c
      by true is =
          ap (λ (l : List Note). spells_of c l) (judged-notes ∙ ap (λ (b : Bool). notes_within w.b done s (In n) v.log ++ map (λ (x : Verdict). Accepts (record { second = s.number; slot = slot; card = card })) (cond b (f.verdict ∷ []) [])) is)
          ∙ accepts-others c (notes_within w.b done s (In n) v.log) (record { second = s.number; slot = slot; card = card }) other

-- ---- A CARD FALLS as it is judged

behind-other : (n : ℕ) (p : Phase) → IsBehind (In n) p → same_phase (In n) p ≡ false
behind-other n (In k) lt = grind (arith, nat_tests)
behind-other n Keeping lt = refl

-- a tear of its slot is told at the moment
module _ (o : Origin) (done : List TraceSecond) (s : TraceSecond) (n : ℕ) (waits fewer : List Visit) (v : Values) (d : Devices) (w : RecordInSecond o done s (In n) waits None [] v d) (slot : Slot) (card : Card) (next : IsNext o done s (In n) waits fewer v d w slot card) (b : Break) (here : IsTearAt s (In n) slot true b) where
  abbrev was_ : Before
  was_ = (went w.b.run.log done).before

  untorn : is_torn_in v.log s.number (In n) slot ≡ false
  untorn = who-sits v.log was_ s (In n) slot (record { card = card; accepted = None }) next.sits_

  -- of the moments before it tells nothing
  earlier-torn : (log : RunLog) (k m : ℕ) (x : Slot) → n ≡ suc m → k ≤ m → is_torn_in (and_break log b) s.number (In k) x ≡ is_torn_in log s.number (In k) x
  earlier-torn log k m x is le =
      let seen = break-more log b s.number in
      let away : tears_here s.number (In k) x b ≡ false =
      ap (λ (c : Break). tears_here s.number (In k) x c) here.2
      ∙ neither (nat_eq s.number s.number) (same_phase (phase_of here.0 here.1) (In k)) (same_slot slot x) (ap (λ (p : Phase). same_phase p (In k)) (here.3 ∙ ap (λ (j : ℕ). In j) is) ∙ other-moment m k le) in
      seen.torn (In k) x ∙ or-nothing (is_torn_in log s.number (In k) x) (tears_here s.number (In k) x b) away

  uncut-torn : (log : RunLog) → cut_in log s.number ≡ None → cut_in (and_break log b) s.number ≡ None
  uncut-torn log uncut =
      (break-more log b s.number).cut ∙ ap (λ (q : Option ℕ). cond (is_some q) q (cut_of s.number b)) uncut ∙ ap (λ (c : Break). cut_of s.number c) here.2

  -- alone: nothing is noted
  pub fallen-notes : notes_within w.b done s (In n) (and_break v.log b) ≡ notes_within w.b done s (In n) v.log ++ []
  fallen-notes =
      let torn = tear-seen v.log was_ s (In n) slot true b here w.moment.up_to untorn in
      noted-then o done s n waits fewer v d w slot card next (and_break v.log b) (uncut-torn v.log w.moment.up_to.uncut) (λ k m x is le. (earlier-torn v.log k m x is le, (break-more v.log b s.number).found (In k) x)) []
      (ap (λ (l : List Finding). accepted_in s.number (In n) l) torn.is.found ∙ sym (append-nil (accepted_in s.number (In n) (course_at v.log was_ s (In n)).found)))

  pub fallen-now : (c : Card) → spells_of c (notes_within w.b done s (In n) (and_break v.log b)) ≡ spells_of c (notes_within w.b done s (In n) v.log)
  fallen-now c = ap (λ (l : List Note). spells_of c l) (fallen-notes ∙ append-nil (notes_within w.b done s (In n) v.log))

  -- behind what was found of it: of another card nothing is
  module _ (none : found_in v.log s.number (In n) slot ≡ [])
      (order : slot ≡ Driver → ((moved_at v.log (went w.b.run.log done).before s (In n)).enters CoDriver ≡ false) ⊎ (found_in v.log s.number (In n) CoDriver ≡ [])) (f : Find) (found_here : IsFindAt s (In n) f) (slot_is : f.slot ≡ slot) where
    abbrev with_find : RunLog
    with_find = and_find v.log f

    found-up : IsUpTo with_find s.number (In n)
    found-up =
        let seen = find-more v.log f s.number in
        record {
          uncut = seen.cut ∙ w.moment.up_to.uncut;
          torn = λ p x behind. seen.torn p x ∙ w.moment.up_to.torn p x behind;
          found = λ p x behind.
              seen.found p x
              ∙ ap (λ (t : Bool). found_in v.log s.number p x ++ cond t (f.verdict ∷ []) []) (neither (nat_eq f.second s.number) (same_phase (In f.begun) p) (same_slot f.slot x) (ap (λ (q : Phase). same_phase q p) found_here.begun ∙ behind-other n p behind))
              ∙ append-nil (found_in v.log s.number p x) ∙ w.moment.up_to.found p x behind;
        }

    noted-lost : accepted_in s.number (In n) (course_at (and_break with_find b) was_ s (In n)).found ≡ accepted_in s.number (In n) (course_at v.log was_ s (In n)).found ++ accepts_by s.number slot card (f.verdict ∷ [])
    noted-lost =
        let torn = tear-seen with_find was_ s (In n) slot true b here found-up ((find-more v.log f s.number).torn (In n) slot ∙ untorn) in
        ap (λ (l : List Finding). accepted_in s.number (In n) l) torn.is.found ∙ noted-more o done s n waits fewer v d w slot card next none order f found_here slot_is

    pub lost-notes : notes_within w.b done s (In n) (and_break with_find b) ≡ notes_within w.b done s (In n) v.log ++ accepts_by s.number slot card (f.verdict ∷ [])
    lost-notes =
        noted-then o done s n waits fewer v d w slot card next (and_break with_find b) (uncut-torn with_find ((find-more v.log f s.number).cut ∙ w.moment.up_to.uncut))
        (λ k m x is le. (earlier-torn with_find k m x is le ∙ (find-more v.log f s.number).torn (In k) x, (break-more with_find b s.number).found (In k) x ∙ not-found o done s n waits fewer v d w slot card next none order f found_here slot_is k m x is le)) (accepts_by s.number slot card (f.verdict ∷ [])) noted-lost

    pub lost-elsewhere : (c : Card) → same_card c card ≡ false → spells_of c (notes_within w.b done s (In n) (and_break with_find b)) ≡ spells_of c (notes_within w.b done s (In n) v.log)
    lost-elsewhere c other = ap (λ (l : List Note). spells_of c l) lost-notes ∙ by (is_accepting f.verdict)
      where
        by : (t : Bool) → spells_of c (notes_within w.b done s (In n) v.log ++ map (λ (x : Verdict). Accepts (record { second = s.number; slot = slot; card = card })) (cond t (f.verdict ∷ []) [])) ≡ spells_of c (notes_within w.b done s (In n) v.log)
        by false = ap (λ (l : List Note). spells_of c l) (append-nil (notes_within w.b done s (In n) v.log))
        by true = accepts-others c (notes_within w.b done s (In n) v.log) (record { second = s.number; slot = slot; card = card }) other
