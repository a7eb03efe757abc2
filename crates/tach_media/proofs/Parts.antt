-- Parts of a list, one after another.
use Rattle.std.proofs.Common.{◌≡◌, ◌∙◌, ℕ, ◌+◌, ◌-◌, ◌≤◌, List, ◌++◌, length, take, drop, refl, sym, arith}
use Rattle.std.proofs.lemmas.List.{take-append-drop, take-take, drop-take}
use Rattle.std.specs.declared.option.Option.{Option}
use Rattle.std.specs.Io.KnownBytes.{Appends}
use Rattle.std.proofs.KnownBytes.{Appends-trans}

-- the first n, and the next m
pub take-add : {T : Type 0} → (n m : ℕ) (xs : List T) → take (n + m) xs ≡ take n xs ++ take m (drop n xs)
take-add n m xs =
    let le : n ≤ n + m = omega arith in
    sym (take-append-drop n (take (n + m) xs)) ∙ rw (take-take n (n + m) xs le, drop-take n m xs) refl

-- the next m bytes were appended behind the first n
pub Appends-next : (a b c : Option (List ℕ)) (bytes : List ℕ) (n m : ℕ) → Appends a b (take n bytes) → Appends b c (take m (take (length bytes - n) (drop n bytes))) → n + m ≤ length bytes → Appends a c (take (n + m) bytes)
Appends-next a b c bytes n m first next fits =
    let le : m ≤ length bytes - n = omega arith in
    rw (take-add n m bytes) (Appends-trans a b c _ _ first (rw (take-take m (length bytes - n) (drop n bytes) le) at next))
