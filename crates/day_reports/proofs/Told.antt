-- The heads of the days of a card tell what its days tell.
use Rattle.std.proofs.Common.{◌≡◌, ℕ, ◌+◌, List, [], ◌∷◌, map, refl, ap}
use Rattle.card_days.specs.Heads.{heads_from}
use Rattle.card_model.specs.Days.{Day, len_of}
use Rattle.card_model.specs.Image.{StringShape}
use Rattle.view_model.specs.declared.marks.Distance.{Distance}
use Rattle.day_reports.specs.Heads.{distance_by}
use Rattle.day_reports.specs.Printing.{distance_of}

pub heads_tell : (r : StringShape) (x : List ℕ) (so_far : ℕ) (days : List Day) → map distance_by (heads_from r x so_far days) ≡ map distance_of days
heads_tell r x so_far [] = refl
heads_tell r x so_far (d ∷ days) = ap (λ (l : List Distance). distance_of d ∷ l) (heads_tell r x (so_far + len_of d) days)
