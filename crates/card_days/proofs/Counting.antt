-- How many writes the drops take.
use Rattle.std.proofs.Common.{◌≡◌, ⊎_elim, ℕ, ◌+◌, ◌*◌, ◌<◌, ◌≤◌, Bool, true, false, cond, [], ◌∷◌, length, ◌∙◌, ap, arith}
use Rattle.std.specs.Prelude.{◌==◌, nat_le}
use Rattle.std.proofs.lemmas.Bool.Decides.{nat_tests}
use Rattle.std.proofs.lemmas.Bool.{cases_lt, le-leb, lt-leb}
use Rattle.tach_media.specs.Plan.{piece}
use Rattle.card_model.specs.Bytes.{two_bytes}
use Rattle.card_model.specs.Image.{at}
use Rattle.card_days.specs.Held.{Held, oldest_at}
use Rattle.card_days.specs.Plans.{most_drops, drop_pieces}

-- how many days go at most, by cases
none_go : (size used new : ℕ) → used + new ≤ size → most_drops size used new ≡ 0
none_go size used new le = ap (λ (b : Bool). cond b 0 (cond (nat_le (used + new) (size + 14)) 1 2)) (le-leb (used + new) size le)

some_go : (size used new : ℕ) → size < used + new → most_drops size used new ≡ cond (nat_le (used + new) (size + 14)) 1 2
some_go size used new lt = ap (λ (b : Bool). cond b 0 (cond (nat_le (used + new) (size + 14)) 1 2)) (lt-leb (used + new) size lt)

one_goes : (size used new : ℕ) → size < used + new → used + new ≤ size + 14 → most_drops size used new ≡ 1
one_goes size used new lt le = some_go size used new lt ∙ ap (λ (b : Bool). cond b 1 2) (le-leb (used + new) (size + 14) le)

two_go : (size used new : ℕ) → size + 14 < used + new → most_drops size used new ≡ 2
two_go size used new lt = some_go size used new (omega (arith, lt)) ∙ ap (λ (b : Bool). cond b 1 2) (lt-leb (used + new) (size + 14) lt)

drop_none : (v : Held) (used left : ℕ) → left ≡ used → length (drop_pieces v used left) ≡ 0
drop_none v used left same =
    let test : (used == left) ≡ true = grind (arith, nat_tests) in
    ap (λ (b : Bool). length (cond b [] (piece v.shape.base (two_bytes (oldest_at v left)) ∷ piece (at v.shape (oldest_at v left)) (two_bytes 0) ∷ []))) test

drop_two : (v : Held) (used left : ℕ) → length (drop_pieces v used left) ≤ 2
drop_two v used left = by (used == left)
  where
    by : (b : Bool) → length (cond b [] (piece v.shape.base (two_bytes (oldest_at v left)) ∷ piece (at v.shape (oldest_at v left)) (two_bytes 0) ∷ [])) ≤ 2
    by true = omega arith
    by false = omega arith

pub drop_most : (v : Held) (size used left new : ℕ) → used ≤ size → new ≤ 14 → (used + new ≤ size → left ≡ used) → length (drop_pieces v used left) ≤ 2 * most_drops size used new
drop_most v size used left new low few kept = ⊎_elim
    (λ lt. omega (arith, drop_two v used left, one_goes size used new lt (omega (arith, low, few))))
    (λ le. omega (arith, drop_none v used left (kept le)))
    (cases_lt size (used + new))

pub drops_most : (v : Held) (size used once twice new : ℕ) → (used + new ≤ size → once ≡ used) → (size < used + new → once + 14 ≤ used) → (once + new ≤ size → twice ≡ once)
    → length (drop_pieces v used once) + length (drop_pieces v once twice) ≤ 2 * most_drops size used new
drops_most v size used once twice new kept gone still = ⊎_elim
    (λ lt. ⊎_elim
    (λ more. omega (arith, drop_two v used once, drop_two v once twice, two_go size used new more))
    (λ le. omega (arith, drop_two v used once, drop_none v once twice (still (omega (arith, gone lt, le))), one_goes size used new lt le))
    (cases_lt (size + 14) (used + new)))
    (λ le. let same = kept le in omega (arith, drop_none v used once same, drop_none v once twice (still (omega (arith, same, le)))))
    (cases_lt size (used + new))

-- A closing word and then a new day take eleven writes at most.
pub keep_writes : (size used then new : ℕ) → used ≤ size → then + 14 * most_drops size used 2 ≤ used + 2 → new ≤ 16 → (2 + 2 * most_drops size used 2) + (5 + 2 * most_drops size then new) ≤ 11
keep_writes size used then new low less few = ⊎_elim
    (λ lt. let first = one_goes size used 2 lt (omega (arith, low)) in
    ⊎_elim
    (λ over. omega (arith, first, one_goes size then new over (omega (arith, first, less, low, few))))
    (λ fits. omega (arith, first, none_go size then new fits)) (cases_lt size (then + new)))
    (λ le. let first = none_go size used 2 le in
    ⊎_elim
    (λ more. omega (arith, first, two_go size then new more))
    (λ less. ⊎_elim (λ over. omega (arith, first, one_goes size then new over less)) (λ fits. omega (arith, first, none_go size then new fits)) (cases_lt size (then + new)))
    (cases_lt (size + 14) (then + new)))
    (cases_lt size (used + 2))
