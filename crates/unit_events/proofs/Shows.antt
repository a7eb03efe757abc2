-- A fact of each type of events, and the begin of the first over speeding as more come.
use Rattle.std.proofs.Common.{◌≡◌, ℕ, zero, suc, ◌<◌, Bool, true, false, cond, List, [], ◌∷◌, ◌++◌, Contains, refl, ap, sym, subst, arith, nat_eq}
use Rattle.std.specs.Prelude.{slice_index_or}
use Rattle.std.proofs.lemmas.Bool.Decides.{nat_tests}
use Rattle.event_model.specs.Events.{Event}
use Rattle.unit_events.specs.Shown.{all_kinds, first_on, HaveBegins}

-- each type
pub each-kind : (P : ℕ → Type 0) → P 0x01 → P 0x03 → P 0x04 → P 0x05 → P 0x06 → P 0x07 → P 0x08 → P 0x40 → (kind : ℕ) → Contains all_kinds kind → P kind
each-kind P p1 p3 p4 p5 p6 p7 p8 p64 kind (k, below, is) = by k below is
  where
    by : (k : ℕ) → k < 8 → slice_index_or all_kinds k kind ≡ kind → P kind
    by zero below is = subst P is p1
    by (suc zero) below is = subst P is p3
    by (suc (suc zero)) below is = subst P is p4
    by (suc (suc (suc zero))) below is = subst P is p5
    by (suc (suc (suc (suc zero)))) below is = subst P is p6
    by (suc (suc (suc (suc (suc zero))))) below is = subst P is p7
    by (suc (suc (suc (suc (suc (suc zero)))))) below is = subst P is p8
    by (suc (suc (suc (suc (suc (suc (suc zero))))))) below is = subst P is p64
    by (suc (suc (suc (suc (suc (suc (suc (suc k)))))))) below is = absurd (omega (arith, below))

-- the begin of the first over speeding
some-begin : (n : ℕ) → 0 < n → nat_eq n 0 ≡ false
some-begin n some = grind (arith, nat_tests)

pub first-none : (held : ℕ) → first_on held [] ≡ held
first-none held = by (nat_eq held 0) refl
  where
    by : (b : Bool) → nat_eq held 0 ≡ b → cond b 0 held ≡ held
    by true is = let zero_ : held ≡ 0 = grind (arith, nat_tests) in sym zero_
    by false is = refl

pub first-parts : (held : ℕ) (es fs : List Event) → HaveBegins es → first_on held (es ++ fs) ≡ first_on (first_on held es) fs
first-parts held [] fs all = ap (λ (n : ℕ). first_on n fs) (sym (first-none held))
first-parts held (e ∷ es) fs all = by (nat_eq held 0) refl
  where
    by : (b : Bool) → nat_eq held 0 ≡ b → cond b e.begin held ≡ first_on (cond b e.begin held) fs
    by true is = let some : nat_eq e.begin 0 ≡ false = some-begin e.begin all.0 in rw some refl
    by false is = rw is refl
