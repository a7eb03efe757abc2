-- A call on the unit alone that notes no event, from call to call.
use Rattle.std.proofs.Common.{◌≡◌, ◌∙◌, ℕ, Bool, true, false, not, IfSome, List, [], refl, ap, subst, arith}
use Rattle.tacho_types.specs.CardNumber.{card_number_bytes}
use Rattle.tach_media.specs.Medium.{State, IsCoherent, LeavesOnly, HasCause}
use Rattle.tach_media.proofs.Runs.{cause_after, no_reads}
use Rattle.unit_model.specs.Image.{IsUnit}
use Rattle.unit_minutes.specs.unit_owed.Rows.{IsRowAt}
use Rattle.unit_minutes.specs.Image.{Agrees}
use Rattle.unit_minutes.specs.declared.notes.Notes.{Notes}
use Rattle.run_crew.specs.Cards.{known_of}
use Rattle.run_events.specs.Shown.{SaysNothing}
use Rattle.run_events.specs.run_rings.Same.{HasSameRings}
use Rattle.run_events.specs.run_speeds.Speeds.{HasSameSpeeds}
use Rattle.run_events.proofs.run_speeds.Leaving.{leaves-none, leaves-then, leaves-moments}
use Rattle.run_minutes.specs.declared.keeper.Keeper.{Keeper}
use Rattle.run_minutes.specs.Keeping.{UnitMayBeCalled}
use Rattle.run_minutes.specs.Stand.{UnitGoes, UnitStands}
use Rattle.run_minutes.proofs.Faults.{notes-none, notes-then, notes-nothing}
use Rattle.run_minutes.proofs.Units.{left-then}

-- ---- it goes on

pub unit-none : (U : State) → U.works ≡ true → UnitGoes false U U
unit-none U works = record {
  clock = omega arith;
  keeps = λ t x le left. left;
  tells = refl;
  speeds = leaves-none U;
  quiet = notes-none false U;
  cause = (no_reads U works).cause;
}

pub unit-then : {U V W : State} {failed : Bool} → UnitGoes false U V → UnitGoes failed V W → UnitGoes failed U W
unit-then {U} {V} {W} {failed} first next = record {
  clock = let a = first.clock in let b = next.clock in omega (arith, a, b);
  keeps = left-then U V W first.keeps first.clock next.keeps;
  tells = next.tells ∙ first.tells;
  speeds = leaves-then U V W first.speeds next.speeds;
  quiet = notes-then [] [] failed U V W first.quiet next.quiet;
  cause = cause_after first.cause next.cause;
}

-- by its moments, each of which leaves the detailed speed, the events and the rings as they were
pub unit-moments : (failed : Bool) (U V : State) (R : List ℕ → List ℕ → Type 0) → IsCoherent U → IsCoherent V → LeavesOnly U V R → ((x c : List ℕ) → R x c → HasSameSpeeds x c) → ((x c : List ℕ) → R x c → SaysNothing x c × HasSameRings x c) → HasCause U V failed → UnitGoes failed U V
unit-moments failed U V R whole behind run speeds says cause = record {
  clock = run.later;
  keeps = run.keeps;
  tells = run.tells;
  speeds = leaves-moments U V R whole run speeds;
  quiet = notes-nothing failed U V R whole behind run says;
  cause = cause;
}

-- whatever the answer is called
pub unit-by : {f g : Bool} {U V : State} → f ≡ g → UnitGoes f U V → UnitGoes g U V
unit-by {U = U} {V = V} is h = subst (λ (failed : Bool). UnitGoes failed U V) is h

-- ---- how it stands

pub unit-stands-none : (k : Keeper) (U : State) → UnitMayBeCalled k U → UnitStands false k k U U
unit-stands-none k U ready = record { unit = ready.is_unit; ready = λ well. ready; rows = λ well card h. h }

pub unit-stands-then : {k v w : Keeper} {U V W : State} {failed : Bool} → UnitStands false k v U V → UnitStands failed v w V W → UnitStands failed k w U W
unit-stands-then first next = record { unit = next.unit; ready = next.ready; rows = λ well card h. next.rows well card (first.rows refl card h) }

pub unit-stands-by : {f g : Bool} {k v : Keeper} {U V : State} → f ≡ g → UnitStands f k v U V → UnitStands g k v U V
unit-stands-by {k = k} {v = v} {U = U} {V = V} is h = subst (λ (failed : Bool). UnitStands failed k v U V) is h

-- it failed
pub unit-stands-cut : (k v : Keeper) (U V : State) → IsUnit V → UnitStands true k v U V
unit-stands-cut k v U V unit = record { unit = unit; ready = λ well. absurd (cc); rows = λ well card h. absurd (cc) }

-- by what the call says of the journal and of the rows
pub journal-stands : (k : Keeper) (j : Notes) (U V : State) (failed : Bool) → IsUnit V → HasCause U V failed → (failed ≡ false → IfSome V.image (Agrees j))
    → (failed ≡ false → (r : ℕ) (n : List ℕ) → IfSome U.image (IsRowAt r n) → IfSome V.image (IsRowAt r n)) → UnitStands failed k (record k { journal = j }) U V
journal-stands k j U V failed unit cause agrees rows = record {
  unit = unit;
  ready = λ well. record { is_unit = unit; works = cause.works ∙ ap not well; agrees = agrees well };
  rows = λ well card h. record {
    number = h.number;
    told = h.told;
    low = h.low;
    row = rows well (known_of k.cabin.cards card).row (card_number_bytes h.number) h.row;
  };
}
