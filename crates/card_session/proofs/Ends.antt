-- The end of an insertion is a moment of it.
use Rattle.std.proofs.Common.{inl, inr, ⊎_elim, ℕ, List}
use Rattle.activity_codec.specs.declared.entries.Entry.{Entry}
use Rattle.tacho_types.specs.declared.texts.Registration.{Registration}
use Rattle.card_layout.specs.declared.files.Application.{Application}
use Rattle.card_session.specs.Inserting.{InsertsClosed, InsertingClosed, InsertsOpen, InsertingOpen, IsCardInserted, IsCardInserting}

module _ (app : Application) (registration : Registration) (odometer now : ℕ) (owed : List Entry) (x y : List ℕ) where
  pub closed_end : InsertsClosed app registration now x y → InsertingClosed app registration now x y
  closed_end (x1, still, (x2, shut, opened)) = inr (x1, still, inr (x2, shut, inr (inr opened)))

  pub open_end : InsertsOpen app registration odometer owed now x y → InsertingOpen app registration odometer owed now x y
  open_end (x1, still, (x2, mended, (x3, noted, (x4, shut, (x5, ended, opened))))) =
      inr (x1, still, inr (x2, mended, inr (x3, noted, inr (x4, shut, inr (x5, ended, inr (inr opened))))))

  pub inserted_moment : IsCardInserted app registration odometer owed now x y → IsCardInserting app registration odometer owed now x y
  inserted_moment inserted = ⊎_elim (λ none. inl (none.0, closed_end none.1)) (λ some. inr (some.0, open_end some.1)) inserted
