-- What stands at the front of bytes is told by the members and items that it makes, whatever follows.
use Rattle.std.proofs.Common.{◌≡◌, ◌∙◌, ℕ, zero, suc, ◌+◌, ◌*◌, ◌≤◌, List, [], ◌∷◌, ◌++◌, length, take, drop, refl, ap, sym, subst, arith, length-drop}
use Rattle.std.proofs.lemmas.List.{length-take-le, take-append-drop, take-take, drop-take}
use Rattle.card_layout.specs.Fields.{IsBytes}
use Rattle.card_layout.proofs.Cuts.{IsBytes-take, IsBytes-drop}
use Rattle.json.specs.Json.{Members}
use Rattle.json.specs.Tree.{MembersHaveNumbers, members_depth}
use Rattle.json_fields.specs.declared.fields.Field.{Field}
use Rattle.json_fields.specs.Shown.{members_then, value_shown, items_shown, width_of_record, CanShow, AreFields}
use Rattle.json_fields.proofs.Taking.{first_in, behind_in, first_item, behind_item}
use Rattle.json_fields.proofs.Telling.{value_tells, entry_tells, value_depth, value_numbers}

-- a front of two parts
pub take-both : (n m : ℕ) (xs : List ℕ) → take (n + m) xs ≡ take n xs ++ take m (drop n xs)
take-both n m xs =
    let le : n ≤ n + m = omega arith in
    sym (take-append-drop n (take (n + m) xs)) ∙ rw (take-take n (n + m) xs le, drop-take n m xs) refl

pub two_parts : (n m : ℕ) (xs ys : List ℕ) → take n xs ≡ take n ys → take m (drop n xs) ≡ take m (drop n ys) → take (n + m) xs ≡ take (n + m) ys
two_parts n m xs ys front behind =
    take-both n m xs ∙ ap (λ (l : List ℕ). l ++ take m (drop n xs)) front ∙ ap (λ (l : List ℕ). take n ys ++ l) behind ∙ sym (take-both n m ys)

-- the fields of a record in front of other members
pub members_front : (fields : List Field) (xs ys : List ℕ) (more others : Members) → AreFields fields → width_of_record fields ≤ length xs → width_of_record fields ≤ length ys → IsBytes xs → IsBytes ys
    → members_then value_shown fields xs more ≡ members_then value_shown fields ys others → (take (width_of_record fields) xs ≡ take (width_of_record fields) ys) × (more ≡ others)
members_front [] xs ys more others table lx ly bx by e = (refl, e)
members_front (f ∷ fs) xs ys more others table lx ly bx by e =
    let wx : length (take f.width xs) ≡ f.width = length-take-le f.width xs (omega (arith, lx)) in
    let wy : length (take f.width ys) ≡ f.width = length-take-le f.width ys (omega (arith, ly)) in
    let front = value_tells f.form (take f.width xs) (take f.width ys) (wx ∙ sym wy) (subst (λ (n : ℕ). CanShow f.form n) (sym wx) table.0) (IsBytes-take f.width xs bx) (IsBytes-take f.width ys by) (ap first_in e) in
    let behind = members_front fs (drop f.width xs) (drop f.width ys) more others table.1 (omega (arith, length-drop f.width xs, lx)) (omega (arith, length-drop f.width ys, ly)) (IsBytes-drop f.width xs bx) (IsBytes-drop f.width ys by) (ap behind_in e) in
    (two_parts f.width (width_of_record fs) xs ys front behind.0, behind.1)

-- so many records
pub items_front : (n : ℕ) (fields : List Field) (xs ys : List ℕ) → AreFields fields → n * width_of_record fields ≤ length xs → n * width_of_record fields ≤ length ys → IsBytes xs → IsBytes ys
    → items_shown n fields xs ≡ items_shown n fields ys → take (n * width_of_record fields) xs ≡ take (n * width_of_record fields) ys
unfolding items_shown
items_front zero fields xs ys table lx ly bx by e = let none : zero * width_of_record fields ≡ 0 = grind arith in rw none refl
items_front (suc n) fields xs ys table lx ly bx by e =
    let w : ℕ = width_of_record fields in
    let more : suc n * width_of_record fields ≡ width_of_record fields + n * width_of_record fields = grind arith in
    let wx : length (take (width_of_record fields) xs) ≡ width_of_record fields = length-take-le (width_of_record fields) xs (omega (arith, lx, more)) in
    let wy : length (take (width_of_record fields) ys) ≡ width_of_record fields = length-take-le (width_of_record fields) ys (omega (arith, ly, more)) in
    let front = entry_tells fields (take (width_of_record fields) xs) (take (width_of_record fields) ys) table wx wy (IsBytes-take (width_of_record fields) xs bx) (IsBytes-take (width_of_record fields) ys by) (ap first_item e) in
    let behind = items_front n fields (drop (width_of_record fields) xs) (drop (width_of_record fields) ys) table (omega (arith, length-drop (width_of_record fields) xs, lx, more)) (omega (arith, length-drop (width_of_record fields) ys, ly, more)) (IsBytes-drop (width_of_record fields) xs bx) (IsBytes-drop (width_of_record fields) ys by) (ap behind_item e) in
    rw more (two_parts (width_of_record fields) (n * width_of_record fields) xs ys front behind)

-- the numbers and the depth of fields in front of other members
pub fields_numbers : (fields : List Field) (bytes : List ℕ) (more : Members) → AreFields fields → width_of_record fields ≤ length bytes → IsBytes bytes → MembersHaveNumbers more → MembersHaveNumbers (members_then value_shown fields bytes more)
fields_numbers [] bytes more table sized fits has = has
fields_numbers (f ∷ fs) bytes more table sized fits has =
    let width : length (take f.width bytes) ≡ f.width = length-take-le f.width bytes (omega (arith, sized)) in (
      value_numbers f.form (take f.width bytes) (subst (λ (n : ℕ). CanShow f.form n) (sym width) table.0) (IsBytes-take f.width bytes fits),
      fields_numbers fs (drop f.width bytes) more table.1 (omega (arith, length-drop f.width bytes, sized)) (IsBytes-drop f.width bytes fits) has,
    )

pub fields_depth : (fields : List Field) (bytes : List ℕ) (more : Members) (k : ℕ) → 3 ≤ k → members_depth more ≤ k → members_depth (members_then value_shown fields bytes more) ≤ k
fields_depth [] bytes more k room le = le
fields_depth (f ∷ fs) bytes more k room le = omega (arith, value_depth f.form (take f.width bytes), fields_depth fs (drop f.width bytes) more k room le)
