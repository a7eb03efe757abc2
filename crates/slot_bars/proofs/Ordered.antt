-- Gaps in order: the one that a minute lies in, and how they come to be so.
use Rattle.std.proofs.Common.{◌≡◌, ◌∙◌, ℕ, zero, suc, ◌+◌, ◌-◌, ◌<◌, ◌≤◌, ◌&&◌, ◌⊎◌, inl, inr, max, Bool, true, false, List, [], ◌∷◌, length, get_or, refl, ap, sym, arith}
use Rattle.std.specs.Prelude.{nat_le, nat_lt}
use Rattle.std.specs.List.Sorted.{IsNonDecreasingBy}
use Rattle.std.proofs.lemmas.Bool.Decides.{nat_tests}
use Rattle.std.proofs.lemmas.List.{get_or_default}
use Rattle.std.proofs.lemmas.List.Folds.{list_any_at}
use Rattle.activity_codec.proofs.ByTest.{by_test}
use Rattle.view_model.specs.declared.marks.Gap.{Gap}
use Rattle.slot_bars.specs.Seeing.{is_in_gap}
use Rattle.slot_bars.specs.Gaps.{AreInOrder, prolonged}

-- what stands for a gap past the end
abbrev pub no_gap : Gap
no_gap = record { first = 0; behind = 0 }

-- a minute lies in a gap
abbrev lies : ℕ → Gap → Bool
lies m gap = nat_le gap.first m && nat_lt m gap.behind

lies_so : (first behind m : ℕ) → first ≤ m → m < behind → (nat_le first m && nat_lt m behind) ≡ true
lies_so first behind m begun on = grind (arith, nat_tests)

apart : (first behind m : ℕ) → (m < first) ⊎ (behind ≤ m) → (nat_le first m && nat_lt m behind) ≡ false
apart first behind m (inl early) = grind (arith, nat_tests)
apart first behind m (inr late) = grind (arith, nat_tests)

pub inside : (gaps : List Gap) (m k : ℕ) (d : Gap) → k < length gaps → (get_or gaps k d).first ≤ m → m < (get_or gaps k d).behind → is_in_gap gaps m ≡ true
inside gaps m k d low begun on =
    list_any_at (lies m) gaps k d low (lies_so (get_or gaps k d).first (get_or gaps k d).behind m begun on)

outside : (gaps : List Gap) (m : ℕ) → ((k : ℕ) (d : Gap) → k < length gaps → (m < (get_or gaps k d).first) ⊎ ((get_or gaps k d).behind ≤ m)) → is_in_gap gaps m ≡ false
outside [] m none = refl
outside (gap ∷ gaps) m none =
    let off : (nat_le gap.first m && nat_lt m gap.behind) ≡ false = apart gap.first gap.behind m (none 0 gap (omega arith)) in
    rw off (outside gaps m (λ k d low. none (suc k) d (omega (arith, low))))

below : (a b : ℕ) → nat_lt a b ≡ true → a < b
below a b is = grind (arith, nat_tests)

not_below : (a b : ℕ) → nat_lt a b ≡ false → b ≤ a
not_below a b is = grind (arith, nat_tests)

-- a minute lies in none where the last of those that begin in time has ended, since it ends last of them
pub clear : (gaps : List Gap) → AreInOrder gaps → (n m : ℕ) → n ≤ length gaps → ((k : ℕ) (d : Gap) → n ≤ k → k < length gaps → m < (get_or gaps k d).first)
    → (0 < n → (d : Gap) → (get_or gaps (n - 1) d).behind ≤ m) → is_in_gap gaps m ≡ false
clear gaps order n m most later ended =
    outside gaps m
    (λ k d low.
    by_test (nat_lt k n)
    (λ early. let lt = below k n early in let far = ended (omega arith) d in let rise = order.ends k (n - 1) d (omega arith) (omega arith) in inr (omega (arith, far, rise)))
    (λ late. inl (later k d (not_below k n late) low)))

positive : (n m end : ℕ) → (n ≡ 0 → end ≡ 0) → m < end → 0 < n
positive zero m end none lt = absurd (omega (arith, none refl, lt))
positive (suc n) m end none lt = omega arith

-- so the end of the last of those that begin in time decides
pub in_last : (gaps : List Gap) → AreInOrder gaps → (n m end : ℕ) → n ≤ length gaps → ((k : ℕ) (d : Gap) → k < n → (get_or gaps k d).first ≤ m)
    → ((k : ℕ) (d : Gap) → n ≤ k → k < length gaps → m < (get_or gaps k d).first) → ((d : Gap) → 0 < n → end ≡ (get_or gaps (n - 1) d).behind) → (n ≡ 0 → end ≡ 0)
    → nat_lt m end ≡ is_in_gap gaps m
in_last gaps order n m end most begun later last none =
    by_test (nat_lt m end)
    (λ on.
    let lt = below m end on in
    let some = positive n m end none lt in
    on ∙ sym (inside gaps m (n - 1) no_gap (omega arith) (begun (n - 1) no_gap (omega arith)) (omega (arith, lt, last no_gap some))))
    (λ off. let ended = not_below m end off in off ∙ sym (clear gaps order n m most later (λ some d. omega (arith, ended, last d some))))

-- each begins where it did
length_prolonged : (behind : ℕ) (gaps : List Gap) → length (prolonged behind gaps) ≡ length gaps
length_prolonged behind [] = refl
length_prolonged behind (gap ∷ gaps) = omega (arith, length_prolonged (max gap.behind behind) gaps)

begin_kept : (behind : ℕ) (gaps : List Gap) (k : ℕ) (d : Gap) → (get_or (prolonged behind gaps) k d).first ≡ (get_or gaps k d).first
begin_kept behind [] k d = refl
begin_kept behind (gap ∷ gaps) zero d = refl
begin_kept behind (gap ∷ gaps) (suc k) d = begin_kept (max gap.behind behind) gaps k d

no_earlier : (behind : ℕ) (gaps : List Gap) (k : ℕ) (d : Gap) → k < length gaps → behind ≤ (get_or (prolonged behind gaps) k d).behind
no_earlier behind [] k d low = absurd (omega (arith, low))
no_earlier behind (gap ∷ gaps) zero d low = omega arith
no_earlier behind (gap ∷ gaps) (suc k) d low = omega (arith, no_earlier (max gap.behind behind) gaps k d (omega (arith, low)))

ends_rise : (behind : ℕ) (gaps : List Gap) (i j : ℕ) (d : Gap) → i ≤ j → j < length gaps → (get_or (prolonged behind gaps) i d).behind ≤ (get_or (prolonged behind gaps) j d).behind
ends_rise behind [] i j d le low = absurd (omega (arith, low))
ends_rise behind (gap ∷ gaps) zero zero d le low = omega arith
ends_rise behind (gap ∷ gaps) zero (suc j) d le low = no_earlier (max gap.behind behind) gaps j d (omega (arith, low))
ends_rise behind (gap ∷ gaps) (suc i) zero d le low = absurd (omega (arith, le))
ends_rise behind (gap ∷ gaps) (suc i) (suc j) d le low = ends_rise (max gap.behind behind) gaps i j d (omega (arith, le)) (omega (arith, low))

pub prolonged_order : (gaps : List Gap) → IsNonDecreasingBy (λ (g : Gap). g.first) gaps → AreInOrder (prolonged 0 gaps)
prolonged_order gaps rise = record {
  begins = λ i j d le low. rw (begin_kept 0 gaps i d, begin_kept 0 gaps j d) (rise i j d le (omega (arith, low, length_prolonged 0 gaps)));
  ends = λ i j d le low. ends_rise 0 gaps i j d le (omega (arith, low, length_prolonged 0 gaps));
}

-- and the same minutes lie in them: one that lies in the longer gap alone lies in an earlier one
longer_same : (m first last behind end : ℕ) → first ≤ last → (first ≤ m → behind ≤ m) → (nat_le last m && nat_lt m (max end behind)) ≡ (nat_le last m && nat_lt m end)
longer_same m first last behind end le ended = grind (arith, nat_tests)

ended_too : (m first last behind end : ℕ) → first ≤ last → (first ≤ m → behind ≤ m) → (nat_le last m && nat_lt m end) ≡ false → last ≤ m → max end behind ≤ m
ended_too m first last behind end le ended off begun = grind (arith, nat_tests)

longer_lie : (m first behind : ℕ) (gaps : List Gap) → ((k : ℕ) (d : Gap) → k < length gaps → first ≤ (get_or gaps k d).first) → IsNonDecreasingBy (λ (g : Gap). g.first) gaps → (first ≤ m → behind ≤ m)
    → is_in_gap (prolonged behind gaps) m ≡ is_in_gap gaps m
longer_lie m first behind [] least rise ended = refl
longer_lie m first behind (gap ∷ gaps) least rise ended =
    let le = least 0 gap (omega arith) in
    let front = longer_same m first gap.first behind gap.behind le ended in
    by_test (nat_le gap.first m && nat_lt m gap.behind)
    (λ on. rw (front, on) refl)
    (λ off.
    rw (front, off)
    (longer_lie m gap.first (max gap.behind behind) gaps (λ k d low. rise 0 (suc k) d (omega arith) (omega (arith, low))) (λ i j d up low. rise (suc i) (suc j) d (omega (arith, up)) (omega (arith, low)))
    (ended_too m first gap.first behind gap.behind le ended off)))

pub prolonged_same : (m : ℕ) (gaps : List Gap) → IsNonDecreasingBy (λ (g : Gap). g.first) gaps → is_in_gap (prolonged 0 gaps) m ≡ is_in_gap gaps m
prolonged_same m gaps rise = longer_lie m 0 0 gaps (λ k d low. omega arith) rise (λ begun. omega arith)

-- those behind a minute that lies in a gap lie there, up to its end
pub alike_inside : (gaps : List Gap) (n minute end m : ℕ) → n ≤ length gaps → ((k : ℕ) (d : Gap) → k < n → (get_or gaps k d).first ≤ minute)
    → ((d : Gap) → 0 < n → end ≡ (get_or gaps (n - 1) d).behind) → (n ≡ 0 → end ≡ 0) → minute ≤ m → m < end → is_in_gap gaps m ≡ is_in_gap gaps minute
alike_inside gaps n minute end m most begun last none le on =
    let some = positive n m end none on in
    let first = begun (n - 1) no_gap (omega arith) in
    let ends = last no_gap some in
    inside gaps m (n - 1) no_gap (omega arith) (omega (arith, first, le)) (omega (arith, ends, on)) ∙ sym (inside gaps minute (n - 1) no_gap (omega arith) first (omega (arith, ends, le, on)))

-- and those behind one that lies in none lie in none, up to the next that begins
pub alike_outside : (gaps : List Gap) → AreInOrder gaps → (n minute end m : ℕ) → n ≤ length gaps → ((k : ℕ) (d : Gap) → n ≤ k → k < length gaps → minute < (get_or gaps k d).first)
    → ((d : Gap) → 0 < n → end ≡ (get_or gaps (n - 1) d).behind) → end ≤ minute → minute ≤ m → (n < length gaps → m < (get_or gaps n no_gap).first) → is_in_gap gaps m ≡ is_in_gap gaps minute
alike_outside gaps order n minute end m most later last ended le next =
    clear gaps order n m most
    (λ k d least low.
    let far = next (omega arith) in
    let rise = order.begins n k d least low in
    let same = get_or_default gaps n no_gap d (omega arith) in
    omega (arith, far, rise, ap (λ (g : Gap). g.first) same))
    (λ some d. let ends = last d some in omega (arith, ends, ended, le))
    ∙ sym (clear gaps order n minute most later (λ some d. let ends = last d some in omega (arith, ends, ended)))
