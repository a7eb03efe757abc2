-- A row of each definition.
use Rattle.std.proofs.Common.{◌≡◌, ◌∷◌, [], ℕ, Bool, true, false, refl, arith}
use Rattle.std.specs.Prelude.{codes}
use Rattle.outside_files.specs.Names.{is_name}
use Rattle.outside_files.specs.Pieces.{LiesAt}
use Rattle.outside_files.specs.Lines.{lines_begun, begins_behind}

pub a_name_with_a_dot : is_name (codes "unit.ddd") ≡ true
a_name_with_a_dot = refl

pub a_name_with_a_slash : is_name (codes "./hour") ≡ true
a_name_with_a_slash = refl

pub no_name : is_name (codes "hour") ≡ false
no_name = refl

-- place 310 of two files of 300 and 200 bytes
pub in_the_second_file : LiesAt (300 ∷ 200 ∷ []) 310 1 10
in_the_second_file = record { there = omega arith; behind = refl; before = λ more. absurd (omega (arith, more)) }

-- what is missing at the end of them
pub at_the_end : LiesAt (300 ∷ 200 ∷ []) 500 1 200
at_the_end = record { there = omega arith; behind = refl; before = λ more. absurd (omega (arith, more)) }

-- the end of a line, and all of the next one
pub one_line_begins : lines_begun false (codes "0\nrun 1 0\n") ≡ 1
one_line_begins = refl

pub a_line_is_to_begin : begins_behind false (codes "0\n") ≡ true
a_line_is_to_begin = refl
