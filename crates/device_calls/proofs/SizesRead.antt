-- The sizes that were read of a card are those that it tells.
use Rattle.std.proofs.Common.{◌≡◌, ℕ, List, Option, Some, None, IfSome, Ok, sym, subst}
use Rattle.card_layout.specs.declared.files.Application.{Application}
use Rattle.card_layout.specs.Application.{application_in}
use Rattle.card_layout.specs.Files.{files_of}
use Rattle.card_commands.specs.Ports.{IsJudged}
use Rattle.card_validity.specs.Judged.{TellsSizes}

module _ (app : Application) where
  tells : (x : List ℕ) → IsJudged (application_in x) (Ok app) → TellsSizes app x
  unfolding files_of
  tells x judged = judged.0

  by_told : (o : Option (List ℕ)) → IfSome o (λ x. IsJudged (application_in x) (Ok app)) → IfSome o (TellsSizes app)
  by_told None judged = tt
  by_told (Some x) judged = tells x judged

  pub sizes-read : (o p : Option (List ℕ)) → p ≡ o → IfSome o (λ x. IsJudged (application_in x) (Ok app)) → IfSome p (TellsSizes app)
  sizes-read o p same judged = subst (λ (q : Option (List ℕ)). IfSome q (TellsSizes app)) (sym same) (by_told o judged)
