-- As power is back, what the mending of the unit and the judging of its cards note, one behind the other.
use Rattle.std.proofs.Common.{⊎_elim, arith, ◌==◌, ◌<◌, ◌≢◌, ◌≡◌, ℕ, Bool, true, false, Option, Some, None, List, [], ◌∷◌, ◌++◌, ◌∙◌, refl, ap, subst}
use Rattle.std.proofs.lemmas.Bool.Decides.{nat_tests}
use Rattle.activity_codec.specs.declared.values.Slot.{Slot}
use Rattle.activity_codec.specs.declared.values.Slot.TheVariants.{Driver, CoDriver}
use Rattle.trace_model.specs.declared.Card.{Card}
use Rattle.tach_media.specs.Medium.{State, LeavesOnly, IsCoherent, Unchanged}
use Rattle.unit_minutes.specs.declared.notes.Notes.{Notes}
use Rattle.unit_minutes.specs.Mends.{IsMending}
use Rattle.run_acts.specs.unit_notes.declared.unit_event.UnitEvent.{UnitEvent}
use Rattle.device_calls.specs.safety_model.Safe.{Devices}
use Rattle.run_minutes.specs.card_slots.Calls.{seat_in, card_in}
use Rattle.run_minutes.specs.run_promise.Between.{devices}
use Rattle.run_acts.proofs.unit_events.EventFrames.{slots-keeps}
use Rattle.run_acts.specs.run_events.Shown.{none_sure, SaysNothing}
use Rattle.run_acts.proofs.run_events.Frames.{keeps-nothing}
use Rattle.run_acts.proofs.run_events.Shows.{nothing-more}
use Rattle.run_acts.specs.run_note_record.Evented.{number_in}
use Rattle.run_acts.specs.NotedEvents.{NotesEvents}
use Rattle.run_acts.proofs.NotedEvents.{quiet-noted, then-noted}
use Rattle.run_minutes.specs.declared.keeper.Moment.{Moment}
use Rattle.log_model.specs.declared.lines.Break.{Break}
use Rattle.device_calls.specs.run_unit_course.Lines.{found_from}
use Rattle.run_outcome.specs.Lines.{Listed}
use Rattle.run_outcome.specs.declared.outcome.Outcome.{Outcome}
use Rattle.run_acts.specs.declared.run.Run.{Run}
use Rattle.run_acts.specs.Acting.{now_moment}
use Rattle.recorder_with_cards.specs.Noting.{judged_events, NotesAnew, JudgesThese, JudgesDriver, JudgesBoth, NotesWaking, NotesFound, read_run, read_outcome}

-- images that say the same are cut
quiet-cut : (U V A B : State) → ((c : List ℕ) → V.may_leave c → (x : List ℕ) × U.may_leave x × SaysNothing x c) → NotesEvents [] true (devices U A B) (devices V A B)
quiet-cut U V A B same o long [] told = λ c there. let one = same c there in (one.0, one.1, nothing-more (number_in o) none_sure one.0 c one.2)
quiet-cut U V A B same o long (e ∷ es) told = absurd told

-- a mending tells of no event
module _ (j : Notes) (U W A B : State) (whole : IsCoherent U) (moments : LeavesOnly U W (IsMending j)) where
  pub says : (c : List ℕ) → W.may_leave c → (x : List ℕ) × U.may_leave x × SaysNothing x c
  says c there = ⊎_elim
      (λ was. (c, was, record { tables = λ kind at. refl; first_over = refl; over_count = refl }))
      (λ moment. (moment.0, whole.is_left moment.0 moment.1, keeps-nothing moment.0 c (slots-keeps moment.0 c moment.2.outside)))
      (moments.now c there)

  pub mended-noted : (failed : Bool) → NotesEvents [] failed (devices U A B) (devices W A B)
  mended-noted false = quiet-noted U W A B A B says
  mended-noted true = quiet-cut U W A B says

-- the card of a slot
pub anew-these : (q : Option Card) (slot : Slot) (at now : Moment) (speed : ℕ) (failed : Bool) (old new : Run) (before after : Outcome) (d e : Devices) → at ≡ now → NotesAnew q slot at speed failed old new before after d e →
    (vs : List UnitEvent) × JudgesThese q slot now speed old new before after vs × NotesEvents vs failed d e
anew-these q slot at now speed failed old new before after d e is n = by q (subst (λ (m : Moment). NotesAnew q slot m speed failed old new before after d e) is n)
  where
    by : (q : Option Card) → NotesAnew q slot now speed failed old new before after d e → (vs : List UnitEvent) × JudgesThese q slot now speed old new before after vs × NotesEvents vs failed d e
    by None h = ([], (h.0, h.1, refl), h.2)
    by (Some card) h = (judged_events h.2.accepted.way h.0 old, (h.0, h.1, h.2.accepted, refl), h.2.notes)

-- that of the driver slot, behind the mending
pub driver-these : (at : Moment) (speed : ℕ) (failed : Bool) (mid one : Run) (before told : Outcome) (d w e : Devices) → at ≡ now_moment mid → NotesEvents [] false d w →
    NotesAnew (card_in (seat_in mid.keeper.cabin.slots.seats Driver)) Driver at speed failed mid one before told w e → (vs : List UnitEvent) × JudgesDriver speed mid one before told vs × NotesEvents vs failed d e
driver-these at speed failed mid one before told d w e is mended n =
    let these = anew-these (card_in (seat_in mid.keeper.cabin.slots.seats Driver)) Driver at (now_moment mid) speed failed mid one before told w e is n in
    (these.0, these.1, then-noted [] these.0 failed d w e mended these.2)

-- and that of the co-driver slot
pub both-these : (at : Moment) (speed : ℕ) (failed : Bool) (mid one two : Run) (before told after : Outcome) (d e f : Devices) → at ≡ now_moment mid → (vs : List UnitEvent) → JudgesDriver speed mid one before told vs → NotesEvents vs false d e →
    NotesAnew (card_in (seat_in one.keeper.cabin.slots.seats CoDriver)) CoDriver at speed failed one two told after e f → (ws : List UnitEvent) × JudgesBoth speed mid two before after ws × NotesEvents ws failed d f
both-these at speed failed mid one two before told after d e f is vs driver notes n =
    let these = anew-these (card_in (seat_in one.keeper.cabin.slots.seats CoDriver)) CoDriver at (now_moment mid) speed failed one two told after e f is n in
    (vs ++ these.0, record { one = one; told = told; first = vs; second = these.0; driver = driver; codriver = these.1; are = refl }, then-noted vs these.0 failed d e f notes these.2)

-- ---- the unit is read

pub read-says : (U V : State) → LeavesOnly U V Unchanged → (c : List ℕ) → V.may_leave c → (x : List ℕ) × U.may_leave x × SaysNothing x c
read-says U V leaves c there = ⊎_elim
    (λ was. (c, was, record { tables = λ kind at. refl; first_over = refl; over_count = refl }))
    (λ moment. absurd moment.2)
    (leaves.now c there)

pub read-noted : (U V A B : State) → LeavesOnly U V Unchanged → (failed : Bool) → NotesEvents [] failed (devices U A B) (devices V A B)
read-noted U V A B leaves false = quiet-noted U V A B A B (read-says U V leaves)
read-noted U V A B leaves true = quiet-cut U V A B (read-says U V leaves)

pub read-then : (kept speed : ℕ) (old new : Run) (before after : Outcome) (d e f : Devices) → NotesEvents [] false d e → NotesFound kept speed old new before after e f → NotesFound kept speed old new before after d f
read-then kept speed old new before after d e f read n = record {
  failed = n.failed;
  woken = n.woken;
  out = n.out;
  waking = record { reach = n.waking.reach; events = n.waking.events; are = n.waking.are; notes = then-noted [] n.waking.events n.failed d e f read n.waking.notes };
  ends = n.ends;
}

-- what was learned of it
pub as-read : (kept found speed : ℕ) (failed : Bool) (run learnt woken : Run) (before : Outcome) (told : Listed Break) (out : Outcome) (d e : Devices) → learnt ≡ read_run run before → told ≡ record { items = found_from run.unfound found before.breaks.items; room = before.breaks.room } → found ≡ kept →
    NotesWaking kept speed failed learnt woken (record before { breaks = told }) out d e → NotesWaking kept speed failed (read_run run before) woken (read_outcome kept run before) out d e
as-read kept found speed failed run learnt woken before told out d e is lines same n =
    let told_is : told ≡ record { items = found_from run.unfound kept before.breaks.items; room = before.breaks.room } = lines ∙ ap (λ (k : ℕ). record { items = found_from run.unfound k before.breaks.items; room = before.breaks.room }) same in
    subst (λ (r : Run). NotesWaking kept speed failed r woken (read_outcome kept run before) out d e) is
    (subst (λ (l : Listed Break). NotesWaking kept speed failed learnt woken (record before { breaks = l }) out d e) told_is n)

-- ---- whether a power-on came before

pub is-none : (n : ℕ) → (n == 0) ≡ true → n ≡ 0
is-none n is = grind (arith, nat_tests, is)

not-none : (n : ℕ) → (n == 0) ≡ false → n ≢ 0
not-none n is = grind (arith, nat_tests, is)

pub is-some : (n : ℕ) → (n == 0) ≡ false → 0 < n
is-some n is = let some = not-none n is in omega (arith, some)
