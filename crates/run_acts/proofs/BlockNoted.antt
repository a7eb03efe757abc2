-- What is told of events and rings does not hang on a block of detailed speed that is added.
use Rattle.std.proofs.Common.{◌∙◌, inl, inr, ℕ, Option, None, Some, List, [], ◌∷◌, refl, sym, subst, arith}
use Rattle.card_files.specs.card_layout.Images.{SameOutside}
use Rattle.card_files.proofs.card_layout.Spelled.{number_before}
use Rattle.run_events.proofs.gated_ring.Elsewhere.{ring_outside}
use Rattle.run_events.specs.message_model.Records.{insertion_ring, unit_place_ring}
use Rattle.unit_notes.proofs.Types.{table_inside}
use Rattle.unit_notes.specs.declared.unit_event.UnitEvent.{UnitEvent}
use Rattle.run_events.proofs.unit_events.EventFrames.{table-apart}
use Rattle.run_events.proofs.run_rings.Same.{same-rings, then-same}
use Rattle.run_events.specs.speed_model.declared.block.Block.{Block}
use Rattle.run_events.specs.Blocks.{IsBlockPut, IsPuttingBlock}
use Rattle.run_minutes.specs.Faults.{SaysTheSame, TellsFaults}

outside-says : (x c : List ℕ) → SameOutside 2393644 92164 x c → SaysTheSame x c
outside-says x c same = (
  record {
    tables = λ kind there. let inside = table_inside kind in table-apart kind 2393644 92164 x c same (inl (omega (arith, inside.1)));
    first_over = number_before 2393644 92164 572 4 x c same (omega arith);
    over_count = number_before 2393644 92164 576 4 x c same (omega arith);
  },
  same.same_length,
  record {
    insertions = ring_outside insertion_ring 2393644 92164 x c (inr (omega arith)) same;
    places = ring_outside unit_place_ring 2393644 92164 x c (inr (omega arith)) same;
  },
)

pub says-itself : (x : List ℕ) → SaysTheSame x x
says-itself x = (record { tables = λ kind there. refl; first_over = refl; over_count = refl }, refl, same-rings x)

pub putting-says : (block : Option Block) (x c : List ℕ) → IsPuttingBlock block x c → SaysTheSame x c
putting-says None x c is = subst (SaysTheSame x) (sym is) (says-itself x)
putting-says (Some b) x c moment = outside-says x c moment.outside

pub put-says : (block : Option Block) (x y : List ℕ) → IsBlockPut block x y → SaysTheSame x y
put-says None x y is = subst (SaysTheSame x) (sym is) (says-itself x)
put-says (Some b) x y done = outside-says x y done.outside

-- behind an image that tells of some faults, one that says the same
pub faults-then : (vs : List UnitEvent) (x y c : List ℕ) → TellsFaults vs x y → SaysTheSame y c → TellsFaults vs x c
faults-then [] x y c a b = (
  record { tables = λ kind there. b.0.tables kind there ∙ a.0.tables kind there; first_over = b.0.first_over ∙ a.0.first_over; over_count = b.0.over_count ∙ a.0.over_count },
  b.1 ∙ a.1,
  then-same x y c a.2 b.2,
)
faults-then (v ∷ vs) x y c a b = (a.0, a.1, a.2, a.3, faults-then vs a.1 y c a.4 b)
