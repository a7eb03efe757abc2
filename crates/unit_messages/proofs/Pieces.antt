-- Where a piece stands.
use Rattle.std.proofs.Common.{◌≡◌, ℕ, ◌-◌, ◌*◌, min, List, length, take, drop, ◌∙◌, ap, arith}
use Rattle.std.proofs.lemmas.List.{length-take, length-drop, take_min}
use Rattle.card_layout.specs.Images.{bytes_at}
use Rattle.link_model.specs.Answers.{cut}

pub cut_at : (content : List ℕ) (len counter n : ℕ) → length content ≡ len → n ≡ min (len - 251 * (counter - 1)) 251 → bytes_at content (251 * (counter - 1)) n ≡ cut content counter
cut_at content len counter n long is =
    let p = 251 * (counter - 1) in
    ap (λ (m : ℕ). take m (drop p content)) (let e : n ≡ min 251 (length (drop p content)) = omega (arith, is, long, length-drop p content) in e) ∙ take_min 251 (drop p content)

pub cut_long : (content : List ℕ) (len counter n : ℕ) → length content ≡ len → n ≡ min (len - 251 * (counter - 1)) 251 → n ≡ length (cut content counter)
cut_long content len counter n long is =
    let p = 251 * (counter - 1) in
    omega (arith, is, long, length-drop p content, length-take 251 (drop p content))
