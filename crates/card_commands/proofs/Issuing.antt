-- The images that a stop leaves of an issue, and the last of them.
use Rattle.std.proofs.Common.{◌≡◌, ◌⊎◌, inl, inr, ⊎_elim, ℕ, ◌+◌, ◌-◌, ◌≤◌, List, [], ◌∷◌, ◌++◌, length, take, drop, sym, ◌∙◌, ap, subst, arith, append_assoc, length-drop}
use Rattle.std.proofs.lemmas.List.{length-take-le, drop-drop, take_all, take-append-drop}
use Rattle.tach_media.specs.Medium.{State, IsCoherent, LeavesOnly, SameOutside, IsPartlyWritten, bytes_at, put}
use Rattle.card_layout.specs.Issue.{IsPartlyIssued, IsIssued}
use Rattle.tach_media.proofs.Images.{put_outside, part_before, part_after, part_put, outside_wider, outside_then}

-- the bytes before the card type, the card type, and the bytes behind it
abbrev pub front_of : List ℕ → List ℕ
front_of image = take 33 image

abbrev pub type_of : List ℕ → List ℕ
type_of image = take 1 (drop 33 image)

abbrev pub back_of : List ℕ → List ℕ
back_of image = take (length image - 34) (drop 34 image)

-- the image after one, two and three writes
abbrev pub typeless : List ℕ → List ℕ
typeless x = put 33 (0 ∷ []) x

abbrev pub with_front : List ℕ → List ℕ → List ℕ
with_front image x = put 0 (front_of image) (typeless x)

abbrev pub with_back : List ℕ → List ℕ → List ℕ
with_back image x = put 34 (back_of image) (with_front image x)

module _ (image x : List ℕ) (least : 34 ≤ length image) (fits : length image ≤ length x) where
  -- a write that leaves the card type alone
  typeless_then : (place len : ℕ) (y c : List ℕ) → IsPartlyIssued image x y → SameOutside place len y c → place + len ≤ length image → (34 ≤ place) ⊎ (place + len ≤ 33) → IsPartlyIssued image x c
  typeless_then place len y c so same inside beside = record {
    outside = outside_then 0 (length image) x y c so.outside (outside_wider 0 (length image) place len y c same (omega arith) (omega (arith, inside)));
    typeless = ⊎_elim (λ behind. part_before place len 33 1 y c same behind) (λ before. part_after place len 33 1 y c same before) beside ∙ so.typeless;
  }

  length_front : length (front_of image) ≡ 33
  length_front = length-take-le 33 image (omega (arith, least))

  length_type : length (type_of image) ≡ 1
  length_type = length-take-le 1 (drop 33 image) (omega (arith, least, length-drop 33 image))

  back_is : back_of image ≡ drop 34 image
  back_is = take_all (length image - 34) (drop 34 image) (omega (arith, length-drop 34 image))

  length_back : length (back_of image) ≡ length image - 34
  length_back = ap length back_is ∙ length-drop 34 image

  same_1 : SameOutside 33 1 x (typeless x)
  same_1 = put_outside 33 (0 ∷ []) x (omega (arith, least, fits))

  so_1 : IsPartlyIssued image x (typeless x)
  so_1 = record { outside = outside_wider 0 (length image) 33 1 x (typeless x) same_1 (omega arith) (omega (arith, least)); typeless = part_put 33 (0 ∷ []) x (omega (arith, least, fits)) }

  fits_2 : 0 + length (front_of image) ≤ length (typeless x)
  fits_2 = omega (arith, least, fits, same_1.same_length, length_front)

  so_2 : IsPartlyIssued image x (with_front image x)
  so_2 = typeless_then 0 (length (front_of image)) (typeless x) (with_front image x) so_1 (put_outside 0 (front_of image) (typeless x) fits_2) (omega (arith, least, length_front)) (inr (omega (arith, length_front)))

  fits_3 : 34 + length (back_of image) ≤ length (with_front image x)
  fits_3 = omega (arith, least, fits, so_2.outside.same_length, length_back)

  same_3 : SameOutside 34 (length (back_of image)) (with_front image x) (with_back image x)
  same_3 = put_outside 34 (back_of image) (with_front image x) fits_3

  so_3 : IsPartlyIssued image x (with_back image x)
  so_3 = typeless_then 34 (length (back_of image)) (with_front image x) (with_back image x) so_2 same_3 (omega (arith, least, length_back)) (inl (omega arith))

  -- all four writes done
  pub issued : put 33 (type_of image) (with_back image x) ≡ put 0 image x
  issued =
      let y = with_back image x in
      let rest = drop (length image) x in
      let k = length (back_of image) in
      let front : take 33 y ≡ front_of image =
      part_before 34 k 0 33 (with_front image x) y same_3 (omega arith) ∙ ap (λ (m : ℕ). bytes_at (with_front image x) 0 m) (sym length_front) ∙ part_put 0 (front_of image) (typeless x) fits_2 in
      let behind : drop k (drop 34 y) ≡ rest =
      drop-drop k 34 y ∙ ap (λ (m : ℕ). drop m y) (omega (arith, length_back, least)) ∙ so_3.outside.after ∙ ap (λ (m : ℕ). drop m x) (omega arith) in
      let back : drop 34 y ≡ drop 34 image ++ rest =
      sym (take-append-drop k (drop 34 y)) ∙ ap (λ (l : List ℕ). l ++ drop k (drop 34 y)) (part_put 34 (back_of image) (with_front image x) fits_3 ∙ back_is)
      ∙ ap (λ (l : List ℕ). drop 34 image ++ l) behind in
      let tail : type_of image ++ drop 34 image ≡ drop 33 image = ap (λ (l : List ℕ). type_of image ++ l) (sym (drop-drop 1 33 image)) ∙ take-append-drop 1 (drop 33 image) in
      let whole : front_of image ++ (type_of image ++ drop 34 image) ≡ image = ap (λ (l : List ℕ). front_of image ++ l) tail ∙ take-append-drop 33 image in
      ap (λ (m : ℕ). take 33 y ++ (type_of image ++ drop (33 + m) y)) length_type
      ∙ ap (λ (l : List ℕ). l ++ (type_of image ++ drop 34 y)) front
      ∙ ap (λ (l : List ℕ). front_of image ++ (type_of image ++ l)) back
      ∙ ap (λ (l : List ℕ). front_of image ++ l) (sym (append_assoc (type_of image) (drop 34 image) rest))
      ∙ sym (append_assoc (front_of image) (type_of image ++ drop 34 image) rest)
      ∙ ap (λ (l : List ℕ). l ++ rest) whole
      ∙ ap (λ (m : ℕ). image ++ drop m x) (omega arith)

  -- the four writes, each cut short
  pub first_write : (c : List ℕ) → IsPartlyWritten 33 (0 ∷ []) x c → (c ≡ x) ⊎ IsIssued image x c
  first_write c part = ⊎_elim inl (λ all. inr (inl (subst (λ (l : List ℕ). IsPartlyIssued image x l) (sym all) so_1))) (part.whole (omega arith))

  pub second_write : (c : List ℕ) → IsPartlyWritten 0 (front_of image) (typeless x) c → IsIssued image x c
  second_write c part = inl (typeless_then 0 (length (front_of image)) (typeless x) c so_1 part.outside (omega (arith, least, length_front)) (inr (omega (arith, length_front))))

  pub third_write : (c : List ℕ) → IsPartlyWritten 34 (back_of image) (with_front image x) c → IsIssued image x c
  third_write c part = inl (typeless_then 34 (length (back_of image)) (with_front image x) c so_2 part.outside (omega (arith, least, length_back)) (inl (omega arith)))

  pub fourth_write : (c : List ℕ) → IsPartlyWritten 33 (type_of image) (with_back image x) c → IsIssued image x c
  fourth_write c part = ⊎_elim (λ none. inl (subst (λ (l : List ℕ). IsPartlyIssued image x l) (sym none) so_3)) (λ all. inr (all ∙ issued)) (part.whole (omega (arith, length_type)))

-- the old image needs no word of its own: a stop may leave it before the call
pub old_aside : {old new : State} {R : List ℕ → List ℕ → Type 0} → IsCoherent old → LeavesOnly old new (λ x c. (c ≡ x) ⊎ R x c) → LeavesOnly old new R
old_aside {old} {new} {R} whole run = record {
  size = run.size;
  behind = run.behind;
  writable = run.writable;
  layers = run.layers;
  tells = run.tells;
  later = run.later;
  since = λ t c le left. ⊎_elim inl (λ here. ⊎_elim (λ same. inl (subst (λ (y : List ℕ). old.left_since t y) (sym same) (whole.counts_now t here.0 le (whole.is_left here.0 here.1)))) (λ so. inr (here.0, here.1, so)) here.2) (run.since t c le left);
  now = λ c left. ⊎_elim inl (λ here. ⊎_elim (λ same. inl (subst (λ (y : List ℕ). old.may_leave y) (sym same) (whole.is_left here.0 here.1))) (λ so. inr (here.0, here.1, so)) here.2) (run.now c left);
  keeps = run.keeps;
}
