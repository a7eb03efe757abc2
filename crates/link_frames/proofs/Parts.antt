-- Whatever bytes are read, of whatever length, they are a part of some message.
use Rattle.std.proofs.Common.{◌≡◌, ℕ, ◌+◌, ◌-◌, ◌≤◌, ◌<◌, ◌⊎◌, inl, inr, min, List, [], ◌∷◌, ◌++◌, length, take, drop, Option, Some, refl, sym, ◌∙◌, ap, append-nil, length-append, arith}
use Rattle.std.specs.Prelude.{replicate}
use Rattle.std.proofs.lemmas.Bool.{cases_lt}
use Rattle.std.proofs.lemmas.List.{take_all, drop_all, length-replicate}
use Rattle.std.proofs.Math.Seq.{drop-append_seam, take-append_seam}
use Rattle.link_frames.specs.Sending.{IsPart}

no_items : (l : List ℕ) → length l ≡ 0 → l ≡ []
no_items [] is = refl
no_items (x ∷ l) is = absurd (omega arith)

-- zeros before the bytes, and behind them
abbrev front : (from len : ℕ) → List ℕ
front from len = replicate (min (from - 2) (len - 2)) 0

abbrev back : (from len : ℕ) → List ℕ → List ℕ
back from len items = replicate (len - from - length items) 0

abbrev whole : (from len : ℕ) → List ℕ → List ℕ
whole from len items = front from len ++ (items ++ back from len items)

whole_length : (from len : ℕ) (items : List ℕ) → 2 ≤ from → 2 ≤ len → length items ≡ min 252 (len - from) → len ≡ 2 + length (whole from len items)
whole_length from len items behind some fits =
    omega (arith, length-append (front from len) (items ++ back from len items), length-append items (back from len items), length-replicate {A = ℕ} (min (from - 2) (len - 2)) 0, length-replicate {A = ℕ} (len - from - length items) 0)

front_taken : (from len : ℕ) (items : List ℕ) → length items ≡ min 252 (len - from) → (len - from < 252) ⊎ (252 ≤ len - from) → take 252 (items ++ back from len items) ≡ items
front_taken from len items fits (inl few) =
    let none : len - from - length items ≡ 0 = omega arith in
    let short : length items ≤ 252 = omega arith in
    ap (λ (n : ℕ). take 252 (items ++ replicate n 0)) none ∙ ap (λ (l : List ℕ). take 252 l) (append-nil items) ∙ take_all 252 items short
front_taken from len items fits (inr many) =
    let size : length items ≡ 252 = omega arith in
    ap (λ (n : ℕ). take n (items ++ back from len items)) (sym size) ∙ take-append_seam items (back from len items)

read_there : (from len : ℕ) (items : List ℕ) → 2 ≤ from → 2 ≤ len → length items ≡ min 252 (len - from) → (len < from) ⊎ (from ≤ len) → items ≡ take 252 (drop (from - 2) (whole from len items))
read_there from len items behind some fits (inl past) =
    let size : length items ≡ 0 = omega arith in
    let whole_size = whole_length from len items behind some fits in
    let short : length (whole from len items) ≤ from - 2 = omega (arith, whole_size) in
    no_items items size ∙ sym (ap (λ (l : List ℕ). take 252 l) (drop_all (from - 2) (whole from len items) short))
read_there from len items behind some fits (inr inside) =
    let least : min (from - 2) (len - 2) ≡ from - 2 = omega arith in
    let size : length (front from len) ≡ from - 2 = length-replicate {A = ℕ} (min (from - 2) (len - 2)) 0 ∙ least in
    sym (front_taken from len items fits (cases_lt (len - from) 252)) ∙ ap (λ (l : List ℕ). take 252 l) (sym (drop-append_seam (front from len) (items ++ back from len items)))
    ∙ ap (λ (n : ℕ). take 252 (drop n (whole from len items))) size

pub some_message : (from len : ℕ) (items : List ℕ) → 2 ≤ from → 2 ≤ len → length items ≡ min 252 (len - from) → (content : Option (List ℕ)) × IsPart content from (Some len) items
some_message from len items behind some fits =
    (Some (whole from len items), record { len = ap (λ (n : ℕ). Some n) (whole_length from len items behind some fits); bytes_are = read_there from len items behind some fits (cases_lt len from) })
