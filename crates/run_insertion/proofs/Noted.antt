-- A run whose unit was noted on.
use Rattle.std.proofs.Common.{◌≡◌, true, refl}
use Rattle.tach_media.specs.Medium.{State, IsCoherent, LeavesOnly}
use Rattle.trace_model.specs.declared.Card.{Card}
use Rattle.unit_notes.specs.Journal.{LeavesJournal}
use Rattle.run_crew.specs.declared.cards.Cards.{Cards}
use Rattle.run_minutes.specs.declared.keeper.Keeper.{Keeper}
use Rattle.run_minutes.specs.Keeping.{UnitMayBeCalled, HasItsRow}
use Rattle.run_minutes.proofs.Units.{unit-stays, agrees-noted, has-row, row-noted}

module _ {U V : State} (before : IsCoherent U) (after : IsCoherent V) (run : LeavesOnly U V LeavesJournal) (k : Keeper) (ready : UnitMayBeCalled k U) where
  pub noted-ready : V.works ≡ true → UnitMayBeCalled k V
  noted-ready works = record { is_unit = unit-stays run ready.is_unit; works = works; agrees = agrees-noted before after ready.works run k.journal ready.agrees }

  pub noted-row : (cards : Cards) (card : Card) → HasItsRow cards U card → HasItsRow cards V card
  noted-row cards card h = has-row cards cards U V card refl refl (row-noted before after ready.works run) h
