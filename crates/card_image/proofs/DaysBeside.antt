-- Images with the same file of days hold the same days, and are judged alike.
use Rattle.std.proofs.Common.{◌≡◌, ℕ, ◌+◌, ◌-◌, ◌%◌, ◌≤◌, Bool, true, false, List, [], ◌∷◌, sym, ◌∙◌, ap, arith}
use Rattle.std.specs.Prelude.{nat_eq, ◌&&◌}
use Rattle.card_files.specs.tach_media.Medium.{bytes_at}
use Rattle.card_files.proofs.tach_media.Images.{part_in}
use Rattle.card_retention.specs.card_model.Bytes.{number}
use Rattle.card_retention.specs.card_model.Image.{StringShape, turned, oldest_pointer, newest_pointer, string_of, circle_of}
use Rattle.card_retention.specs.card_model.Walk.{days_in, days_of}
use Rattle.card_retention.specs.card_model.Checks.{Check, check, first_failing, is_pointer, day_checks, distance_of, is_empty, checks_of, first_bad}

-- the checks of a string, by what they are made of
abbrev checks_in : StringShape → (empty : Bool) → (oldest newest : ℕ) → List ℕ → List Check
checks_in r empty o n circle =
    check (is_pointer r.size o) 0 ∷ check (is_pointer r.size n) 2
    ∷ (elim empty as (λ _. List Check) [ true ↦ [] | false ↦ day_checks 984 r.size o (distance_of r.size o n) 0 0 0 circle ])

module _ (r : StringShape) (x c : List ℕ) (same : bytes_at c r.base (4 + r.size) ≡ bytes_at x r.base (4 + r.size)) where
  part_same : (k n : ℕ) → k + n ≤ 4 + r.size → bytes_at c (r.base + k) n ≡ bytes_at x (r.base + k) n
  part_same k n fits = sym (part_in c r.base (4 + r.size) k n fits) ∙ ap (λ (l : List ℕ). bytes_at l k n) same ∙ part_in x r.base (4 + r.size) k n fits

  pub oldest_elsewhere : oldest_pointer r c ≡ oldest_pointer r x
  oldest_elsewhere =
      let none : r.base + 0 ≡ r.base = omega arith in
      ap (λ (p : ℕ). number (bytes_at c p 2)) (sym none) ∙ ap number (part_same 0 2 (omega arith)) ∙ ap (λ (p : ℕ). number (bytes_at x p 2)) none

  newest_elsewhere : newest_pointer r c ≡ newest_pointer r x
  newest_elsewhere = ap number (part_same 2 2 (omega arith))

  circle_elsewhere : circle_of r c ≡ circle_of r x
  circle_elsewhere = ap (λ (n : ℕ). turned n (string_of r c)) oldest_elsewhere ∙ ap (λ (l : List ℕ). turned (oldest_pointer r x) l) (part_same 4 r.size (omega arith))

  pub days_elsewhere : days_of r c ≡ days_of r x
  unfolding days_of
  days_elsewhere = ap (λ (o : ℕ). days_in 984 ((newest_pointer r c + r.size - o) % r.size) (circle_of r c)) oldest_elsewhere
      ∙ ap (λ (n : ℕ). days_in 984 ((n + r.size - oldest_pointer r x) % r.size) (circle_of r c)) newest_elsewhere
      ∙ ap (λ (l : List ℕ). days_in 984 ((newest_pointer r x + r.size - oldest_pointer r x) % r.size) l) circle_elsewhere

  empty_elsewhere : is_empty r c ≡ is_empty r x
  empty_elsewhere = ap (λ (o : ℕ). nat_eq o (newest_pointer r c) && nat_eq (number (bytes_at (circle_of r c) 2 2)) 0) oldest_elsewhere
      ∙ ap (λ (n : ℕ). nat_eq (oldest_pointer r x) n && nat_eq (number (bytes_at (circle_of r c) 2 2)) 0) newest_elsewhere
      ∙ ap (λ (l : List ℕ). nat_eq (oldest_pointer r x) (newest_pointer r x) && nat_eq (number (bytes_at l 2 2)) 0) circle_elsewhere

  -- what is checked of the string, and where it first fails
  checks_elsewhere : checks_of r c ≡ checks_of r x
  checks_elsewhere =
      ap (λ (e : Bool). checks_in r e (oldest_pointer r c) (newest_pointer r c) (circle_of r c)) empty_elsewhere
      ∙ ap (λ (o : ℕ). checks_in r (is_empty r x) o (newest_pointer r c) (circle_of r c)) oldest_elsewhere
      ∙ ap (λ (n : ℕ). checks_in r (is_empty r x) (oldest_pointer r x) n (circle_of r c)) newest_elsewhere
      ∙ ap (λ (l : List ℕ). checks_in r (is_empty r x) (oldest_pointer r x) (newest_pointer r x) l) circle_elsewhere

  pub bad_elsewhere : first_bad r c ≡ first_bad r x
  unfolding first_bad
  bad_elsewhere = ap first_failing checks_elsewhere
