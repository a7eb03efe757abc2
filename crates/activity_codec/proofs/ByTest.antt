-- Cases of a test, with what it gave.
use Rattle.std.proofs.Common.{◌≡◌, Bool, true, false, refl}

pub by_test : {P : Type 0} → (b : Bool) → (b ≡ true → P) → (b ≡ false → P) → P
by_test true on_true on_false = on_true refl
by_test false on_true on_false = on_false refl
