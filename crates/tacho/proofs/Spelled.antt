-- The number that a word spells.
use Rattle.std.proofs.Common.{◌≡◌, ◌∙◌, ℕ, ◌^◌, ◌<◌, ◌≤◌, ◌&&◌, true, false, Bool, List, refl, ap, sym, arith}
use Rattle.std.specs.Prelude.{nat_le, decimal, bytes_eq, Option, Some, None, IfSome, IfNone}
use Rattle.std.specs.Str.Parse.{digits_value}
use Rattle.std.proofs.lemmas.Bool.Decides.{nat_tests}
use Rattle.std.proofs.lemmas.Fmt.{decimal_is_IsNumeral}
use Rattle.activity_codec.proofs.ByTest.{by_test}
use Rattle.tacho.specs.Texts.{number_in}
use lib.Pointwise.{bytes_decides}

same-text : (text other : List ℕ) → bytes_eq text other ≡ true → text ≡ other
same-text text other is = (bytes_decides text other).0 is

text-same : (text other : List ℕ) → text ≡ other → bytes_eq text other ≡ true
text-same text other is = (bytes_decides text other).1 is

-- a text spells one number
value-of : (n : ℕ) (text : List ℕ) → n < 2 ^ 32 → text ≡ decimal n → digits_value 10 text ≡ n
value-of n text small is = ap (digits_value 10) is ∙ (decimal_is_IsNumeral n (omega (arith, small))).1

all-three : {a b c : Bool} → a ≡ true → b ≡ true → c ≡ true → (a && b && c) ≡ true
all-three one two three = rw (one, two, three) refl

of-three : (a b c : Bool) → (a && b && c) ≡ true → (a ≡ true) × (b ≡ true) × (c ≡ true)
of-three true true true is = (refl, refl, refl)
of-three true true false is = absurd (cc)
of-three true false c is = absurd (cc)
of-three false b c is = absurd (cc)

le-true : (m n : ℕ) → m ≤ n → nat_le m n ≡ true
le-true m n le = grind (arith, nat_tests)

true-le : (m n : ℕ) → nat_le m n ≡ true → m ≤ n
true-le m n is = grind (arith, nat_tests)

-- a number in the range
pub in-range : (least most n : ℕ) (text : List ℕ) → n < 2 ^ 32 → text ≡ decimal n → least ≤ n → n ≤ most → number_in least most text ≡ Some n
unfolding number_in
in-range least most n text small is low high =
    let e = value-of n text small is in
    let spelled : bytes_eq (decimal n) text ≡ true = text-same (decimal n) text (sym is) in
    let all : (nat_le least n && nat_le n most && bytes_eq (decimal n) text) ≡ true = all-three (le-true least n low) (le-true n most high) spelled in
    rw (e, all) refl

-- a text that spells no number in the range
not-in-range : (least most : ℕ) (text : List ℕ) → ((n : ℕ) → text ≡ decimal n → least ≤ n → n ≤ most → ⊥) → number_in least most text ≡ None
unfolding number_in
not-in-range least most text none =
    let n : ℕ = digits_value 10 text in
    by_test (nat_le least n && nat_le n most && bytes_eq (decimal n) text)
    (λ all. let parts = of-three (nat_le least n) (nat_le n most) (bytes_eq (decimal n) text) all in
    absurd (none n (sym (same-text (decimal n) text parts.2)) (true-le least n parts.0) (true-le n most parts.1)))
    (λ not_all. rw not_all refl)

-- so what reading a number answers is the number that the word spells
pub number-is : (least most : ℕ) (digits text : List ℕ) (r : Option ℕ) → most < 2 ^ 32 → digits ≡ text
    → IfSome r (λ n. (digits ≡ decimal n) × (least ≤ n) × (n ≤ most)) → IfNone r ((n : ℕ) → digits ≡ decimal n → least ≤ n → n ≤ most → ⊥)
    → r ≡ number_in least most text
number-is least most digits text (Some n) small same found none =
    sym (in-range least most n text (omega (arith, small, found.2)) (sym same ∙ found.0) found.1 found.2)
number-is least most digits text None small same found none =
    sym (not-in-range least most text (λ n is low high. none n (same ∙ is) low high))
