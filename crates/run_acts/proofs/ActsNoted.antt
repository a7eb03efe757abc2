-- What the actions that need no card to be judged note on the unit: of rings nothing, and the faults of cards that fell.
use Rattle.std.proofs.Common.{◌≡◌, ◌∙◌, inl, inr, ⊎_elim, ℕ, ◌+◌, ◌<◌, Bool, true, false, Option, Some, None, List, [], ◌∷◌, ◌++◌, length, refl, ap, sym, subst, arith, length-append}
use Rattle.activity_codec.specs.declared.values.Slot.{Slot}
use Rattle.trace_model.specs.declared.Card.{Card}
use Rattle.tacho_types.specs.declared.numbers.TimeReal.{TimeReal}
use Rattle.tacho_types.specs.declared.numbers.Odometer.{Odometer}
use Rattle.tach_media.specs.Medium.{State, IsCoherent, LeavesOnly}
use Rattle.run_events.specs.gated_ring.Ring.{place_of}
use Rattle.run_events.specs.gated_ring.Change.{IsAdding}
use Rattle.run_events.specs.message_model.Records.{insertion_ring, unit_place_ring}
use Rattle.unit_model.specs.Image.{IsUnit}
use Rattle.unit_notes.specs.declared.unit_event.UnitEvent.{UnitEvent}
use Rattle.unit_notes.specs.Noting.{IsWithdrawing}
use Rattle.device_calls.specs.safety_model.Safe.{Devices}
use Rattle.run_minutes.specs.run_promise.Between.{devices}
use Rattle.run_events.specs.Shown.{none_sure, SaysNothing}
use Rattle.run_events.proofs.Shows.{nothing-more}
use Rattle.run_events.proofs.Frames.{between-nothing}
use Rattle.run_outcome.specs.Lines.{Listed}
use Rattle.run_outcome.specs.declared.outcome.Outcome.{Outcome}
use Rattle.log_model.specs.declared.lines.Break.{Break}
use Rattle.run_minutes.specs.declared.keeper.Moment.{Moment}
use Rattle.run_minutes.specs.Faults.{faults_to}
use Rattle.run_minutes.proofs.Fates.{no-lines}
use Rattle.run_note_record.specs.Evented.{number_in}
use Rattle.run_acts.specs.declared.run.Run.{Run}
use Rattle.run_acts.specs.Acting.{IsNotedOn, IsPlaced, Closing, Bare, Closed, Fell, IsClosed, closed_breaks, closed_falls, told_of, left_run}
use Rattle.run_minutes.specs.Keeping.{tear_of, with_lines}
use Rattle.run_acts.specs.Faults.{NotesSettling}
use Rattle.run_acts.specs.NotedEvents.{NotesEvents}
use Rattle.run_acts.specs.Noting.{SaysNoMore, NotesPlace, SettlesThese, closed_events, NotesClosing, NotesWithdrawing}
use Rattle.run_acts.proofs.NotedEvents.{quiet-noted, same-says, then-noted, noted-any}
use Rattle.run_acts.proofs.KeptEvents.{faults-are, faults-noted}

-- ---- calls that tell of no event

pub says-of : (U V : State) → IsCoherent U → (R : List ℕ → List ℕ → Type 0) → ((x c : List ℕ) → R x c → SaysNothing x c) → LeavesOnly U V R → SaysNoMore U V
says-of U V whole R says moments = λ c there. ⊎_elim (λ was. (c, was, same-says c)) (λ moment. (moment.0, whole.is_left moment.0 moment.1, says moment.0 c moment.2)) (moments.now c there)

-- nothing was called
pub says-still : (U : State) → SaysNoMore U U
says-still U = λ c there. (c, there, same-says c)

quiet-cut : (U V A B C D : State) → SaysNoMore U V → NotesEvents [] true (devices U A B) (devices V C D)
quiet-cut U V A B C D same o long [] told = λ c there. let one = same c there in (one.0, one.1, nothing-more (number_in o) none_sure one.0 c one.2)
quiet-cut U V A B C D same o long (e ∷ es) told = absurd told

pub quiet-any : (U V A B C D : State) (failed : Bool) → SaysNoMore U V → NotesEvents [] failed (devices U A B) (devices V C D)
quiet-any U V A B C D false same = quiet-noted U V A B C D same
quiet-any U V A B C D true same = quiet-cut U V A B C D same

-- a place is added to its ring
pub adding-nothing : (head x c : List ℕ) → IsAdding unit_place_ring head x c → SaysNothing x c
adding-nothing head x c moment = between-nothing 2379240 7144 x c moment.outside (omega arith) (omega arith)

-- a withdrawal is noted in an entry of its ring
pub withdrawing-nothing : (i : ℕ) (time : TimeReal) (odometer : Odometer) → i < 2048 → (x c : List ℕ) → IsWithdrawing i time odometer x c → SaysNothing x c
withdrawing-nothing i time odometer below x c (inl same) = subst (λ (y : List ℕ). SaysNothing x y) (sym same) (same-says x)
withdrawing-nothing i time odometer below x c (inr (inl set)) = between-nothing (place_of insertion_ring i) insertion_ring.width x c set.outside (omega (arith, below)) (omega (arith, below))
withdrawing-nothing i time odometer below x c (inr (inr done)) = between-nothing (place_of insertion_ring i) insertion_ring.width x c done.outside (omega (arith, below)) (omega (arith, below))

-- ---- minutes are settled

pub settles-these : (at : Moment) (failed : Bool) (old new : Run) (before after : Outcome) (U V A B C D : State) → IsCoherent U → IsUnit U → NotesSettling at failed old new before after U V →
    (vs : List UnitEvent) × SettlesThese at failed old new before after vs × NotesEvents vs failed (devices U A B) (devices V C D)
settles-these at failed old new before after U V A B C D whole unit n =
    let vs = faults_to old.keeper at n.2 (told_of old before) in
    (vs, (n.0, n.1, n.2, n.3, refl), faults-noted vs failed U V A B C D whole unit (faults-are old.keeper at n.2 (told_of old before)) n.4)

-- ---- a place is noted

-- there is no card, or none that is accepted
pub none-placed : (q : Option Card) (slot : Slot) (at : Moment) (run : Run) (breaks : Listed Break) → IsPlaced q slot at run run breaks breaks false
none-placed None slot at run breaks = (refl, refl)
none-placed (Some card) slot at run breaks = record { run = refl; told = no-lines breaks }

pub no-place : (q : Option Card) (slot : Slot) (at : Moment) (run : Run) (breaks : Listed Break) (d : Devices) → NotesEvents [] false d d → NotesPlace q slot at false run run breaks breaks d d
no-place None slot at run breaks d notes = (refl, refl, refl, notes)
no-place (Some card) slot at run breaks d notes = inr (record { fell = false; noted = record { run = refl; told = no-lines breaks }; failing = λ bad. bad; notes = notes })

-- whether a card fell is told
more-lines : (breaks : Listed Break) (x : Break) → with_lines [] breaks ≡ with_lines (x ∷ []) breaks → ⊥
more-lines breaks x is =
    let long = ap (λ (l : Listed Break). length l.items) is in
    let none = length-append breaks.items [] in
    let one = length-append breaks.items (x ∷ []) in
    omega (arith, long, none, one)

pub same-fell : (card : Card) (slot : Slot) (at : Moment) (old new : Run) (breaks after : Listed Break) (x y : Bool) → IsNotedOn card slot at old new breaks after x → IsNotedOn card slot at old new breaks after y → x ≡ y
same-fell card slot at old new breaks after true true h k = refl
same-fell card slot at old new breaks after false false h k = refl
same-fell card slot at old new breaks after true false h k = absurd (more-lines breaks (tear_of slot at) (sym k.told ∙ h.told))
same-fell card slot at old new breaks after false true h k = absurd (more-lines breaks (tear_of slot at) (sym h.told ∙ k.told))

-- ---- a card is withdrawn

-- the unit failed in the keeping of the minutes before
pub withdrawal-cut : (q : Option Card) (card : Card) → q ≡ Some card → (slot : Slot) (at : Moment) (old new : Run) (before after : Outcome) (d e : Devices) (vs : List UnitEvent) → SettlesThese at true (left_run slot at.second old) new before after vs →
    NotesEvents vs true d e → NotesWithdrawing q slot at true old new before after d e
withdrawal-cut q card is slot at old new before after d e vs settles notes =
    subst (λ (o : Option Card). NotesWithdrawing o slot at true old new before after d e) (sym is) (vs, inl (refl, settles), notes)

-- or its session is closed behind that
pub withdrawal-noted : (q : Option Card) (card : Card) → q ≡ Some card → (slot : Slot) (at : Moment) (failed : Bool) (old between new : Run) (before told : Outcome) (after : Listed Break) (d e f : Devices) (vs : List UnitEvent) →
    SettlesThese at false (left_run slot at.second old) between before told vs → NotesEvents vs false d e → NotesClosing card slot at failed between new told.breaks after e f → NotesWithdrawing q slot at failed old new before (record told { breaks = after }) d f
withdrawal-noted q card is slot at failed old between new before told after d e f vs settles notes n =
    let fault : List UnitEvent = closed_events n.closing at.second new in
    subst (λ (o : Option Card). NotesWithdrawing o slot at failed old new before (record told { breaks = after }) d f) (sym is)
    (vs ++ fault, inr (record { between = between; told = told; faults = vs; closing = n.closing; settles = settles; closed = n.closed; rest = refl; are = refl }), then-noted vs fault failed d e f notes n.notes)

-- so often the card has failed in it, whichever way is told
lines-of : (slot : Slot) (at : Moment) (breaks after : Listed Break) (closing : Closing) → after ≡ with_lines (closed_breaks closing slot at) breaks → length after.items ≡ length breaks.items + closed_falls closing
lines-of slot at breaks after Bare is = let long = ap (λ (l : Listed Break). length l.items) is in let all = length-append breaks.items [] in omega (arith, long, all)
lines-of slot at breaks after Closed is = let long = ap (λ (l : Listed Break). length l.items) is in let all = length-append breaks.items [] in omega (arith, long, all)
lines-of slot at breaks after Fell is = let long = ap (λ (l : Listed Break). length l.items) is in let all = length-append breaks.items (tear_of slot at ∷ []) in omega (arith, long, all)

pub same-closing : (card : Card) (slot : Slot) (at : Moment) (old new : Run) (breaks after : Listed Break) (x y : Closing) → IsClosed card slot at old new breaks after x → IsClosed card slot at old new breaks after y → closed_falls x ≡ closed_falls y
same-closing card slot at old new breaks after x y h k = let first = lines-of slot at breaks after x h.told in let other = lines-of slot at breaks after y k.told in omega (arith, first, other)

-- the other card does not matter
pub closing-any : (card : Card) (slot : Slot) (at : Moment) (failed : Bool) (old new : Run) (breaks after : Listed Break) (d e f g : Devices) → d.unit ≡ f.unit → e.unit ≡ g.unit → NotesClosing card slot at failed old new breaks after d e → NotesClosing card slot at failed old new breaks after f g
closing-any card slot at failed old new breaks after d e f g first later n = record { closing = n.closing; closed = n.closed; notes = noted-any (closed_events n.closing at.second new) failed d e f g first later n.notes }
