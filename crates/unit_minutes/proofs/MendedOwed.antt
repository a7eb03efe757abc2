-- A mend keeps the owed rows up to the last-kept minute, and what is owed, at each moment.
use Rattle.std.proofs.Common.{inl, ⊎_elim, ℕ, List}
use Rattle.unit_model.specs.Image.{last_kept}
use Rattle.unit_model.specs.Decoding.{cell_minute}
use Rattle.unit_owed.proofs.Mending.{HasRowsKept, kept_or_gone}
use Rattle.unit_minutes.specs.Image.{Notes}
use Rattle.unit_minutes.specs.Mends.{IsMending, IsMended}

pub rows_mending : (j : Notes) (x c : List ℕ) → IsMending j x c → HasRowsKept x c
rows_mending j x c is = record { heads = is.rows.heads; words = is.rows.words; minutes = λ n below. ⊎_elim inl (λ cut. kept_or_gone (last_kept x) (cell_minute x n) (cell_minute c n) cut) (is.cells n below) }

pub rows_mended : (x c : List ℕ) → IsMended x c → HasRowsKept x c
rows_mended x c is = record { heads = is.rows.heads; words = is.rows.words; minutes = λ n below. kept_or_gone (last_kept x) (cell_minute x n) (cell_minute c n) (is.cells n below) }
