-- What is owed is in order, whatever the bytes are.
use Rattle.std.proofs.Common.{◌≡◌, ⊎_elim, ℕ, suc, ◌+◌, ◌/◌, ◌%◌, ◌<◌, ◌≤◌, Bool, true, false, cond, List, [], ◌∷◌, refl, sym, ◌∙◌, ap, subst, arith}
use Rattle.std.specs.Prelude.{◌&&◌, ◌==◌, nat_lt, nat_le}
use Rattle.std.specs.List.{insert, prefix_len}
use Rattle.std.proofs.lemmas.Bool.{cases_lt}
use Rattle.std.proofs.lemmas.Bool.Decides.{nat_tests}
use Rattle.activity_codec.specs.declared.entries.Entry.{Entry}
use Rattle.unit_owed.specs.Owed.{Cell, entry_of, holds, counts, placed}
use Rattle.unit_owed.specs.Searching.{with_owed, IsSane, AreBelow}

lt_true : (a b : ℕ) → a < b → nat_lt a b ≡ true
lt_true a b is = grind (arith, nat_tests)

lt_false : (a b : ℕ) → b ≤ a → nat_lt a b ≡ false
lt_false a b is = grind (arith, nat_tests)

placed_more : (f : Entry) (es : List Entry) (e : Entry) → f.minute < e.minute → placed (f ∷ es) e ≡ f ∷ placed es e
placed_more f es e less =
    let n : ℕ = prefix_len (λ g. nat_lt g.minute e.minute) es in
    let next : 1 + n ≡ suc n = omega arith in
    (λ t. insert (f ∷ es) (cond (lt_true f.minute e.minute less t) (1 + n) 0) e) ∙ ap (λ (m : ℕ). insert (f ∷ es) m e) next

placed_here : (f : Entry) (es : List Entry) (e : Entry) → e.minute ≤ f.minute → placed (f ∷ es) e ≡ e ∷ f ∷ es
placed_here f es e more = λ t. insert (f ∷ es) (cond (lt_false f.minute e.minute more t) (1 + prefix_len (λ g. nat_lt g.minute e.minute) es) 0) e

sane_placed : (es : List Entry) (e : Entry) (after kept : ℕ) → IsSane after kept es → after < e.minute → 1440 ≤ e.minute → e.minute ≤ kept → AreBelow (e.minute % 4) es → IsSane after kept (placed es e)
sane_placed [] e after kept sane a b d below = (a, b, d, tt)
sane_placed (f ∷ es) e after kept sane a b d below = ⊎_elim
    (λ less. subst (IsSane after kept) (sym (placed_more f es e less)) (sane.0, sane.1, sane.2, sane_placed es e f.minute kept sane.3 less b d below.1))
    (λ more. let before : e.minute < f.minute = omega (arith, more, below.0) in subst (IsSane after kept) (sym (placed_here f es e more)) (a, b, d, (before, sane.1, sane.2, sane.3)))
    (cases_lt f.minute e.minute)

below_placed : (es : List Entry) (e : Entry) (i : ℕ) → AreBelow i es → e.minute % 4 < i → AreBelow i (placed es e)
below_placed [] e i below is = (is, tt)
below_placed (f ∷ es) e i below is = ⊎_elim
    (λ less. subst (AreBelow i) (sym (placed_more f es e less)) (below.0, below_placed es e i below.1 is))
    (λ more. subst (AreBelow i) (sym (placed_here f es e more)) (is, (below.0, below.1)))
    (cases_lt f.minute e.minute)

below_more : (es : List Entry) (i : ℕ) → AreBelow i es → AreBelow (i + 1) es
below_more [] i below = tt
below_more (f ∷ es) i below = (omega (arith, below.0), below_more es i below.1)

both : (a b : Bool) → (a && b) ≡ true → (a ≡ true) × (b ≡ true)
both true b is = (refl, is)
both false b is = absurd (cc)

eq_of : (a b : ℕ) → (a == b) ≡ true → a ≡ b
eq_of a b is = grind (arith, nat_tests)

le_of : (a b : ℕ) → nat_le a b ≡ true → a ≤ b
le_of a b is = grind (arith, nat_tests)

lt_of : (a b : ℕ) → nat_lt a b ≡ true → a < b
lt_of a b is = grind (arith, nat_tests)

-- one cell more
pub sane_more : (session after kept : ℕ) (es : List Entry) (i : ℕ) (c : Cell) → IsSane after kept es → AreBelow i es
    → IsSane after kept (with_owed session after kept es i c) × AreBelow (i + 1) (with_owed session after kept es i c)
sane_more session after kept es i c sane below = by (holds i c && counts session after kept c.minute) refl
  where
    by : (b : Bool) → (holds i c && counts session after kept c.minute) ≡ b → IsSane after kept (cond b (placed es (entry_of c)) es) × AreBelow (i + 1) (cond b (placed es (entry_of c)) es)
    by true is =
        let parts = both (holds i c) (counts session after kept c.minute) is in
        let held = both (c.minute % 4 == i) (nat_le 1440 c.minute) parts.0 in
        let counted = both (nat_le (session / 60) c.minute) (nat_lt after c.minute && nat_le c.minute kept) parts.1 in
        let last = both (nat_lt after c.minute) (nat_le c.minute kept) counted.1 in
        let place : c.minute % 4 ≡ i = eq_of (c.minute % 4) i held.0 in (
          sane_placed es (entry_of c) after kept sane (lt_of after c.minute last.0) (le_of 1440 c.minute held.1) (le_of c.minute kept last.1) (subst (λ (k : ℕ). AreBelow k es) (sym place) below),
          below_placed es (entry_of c) (i + 1) (below_more es i below) (omega (arith, place)),
        )
    by false is = (sane, below_more es i below)
