-- The turns of a trace: second by second, and line by line.
use Rattle.std.proofs.Common.{◌≡◌, ◌∙◌, ◌⊎◌, ⊎_elim, ℕ, zero, suc, ◌+◌, ◌-◌, ◌*◌, ◌/◌, ◌%◌, ◌<◌, ◌≤◌, Bool, true, cond, nat_le, Some, List, [], ◌∷◌, ◌++◌, length, take, drop, refl, ap, sym, subst, arith, length-append}
use Rattle.std.specs.Prelude.{count_by}
use Rattle.std.specs.List.{slice_get}
use Rattle.std.proofs.lemmas.Bool.{cases_lt, le-leb, lt-leb}
use Rattle.std.proofs.lemmas.List.{take-append-drop}
use Rattle.std.proofs.lemmas.List.Sums.{sum_by-cons, count_by-le-length}
use Rattle.trace_model.specs.declared.Item.{Item}
use Rattle.trace_model.specs.declared.Item.TheVariants.{Run as Driven, Off, Act}
use Rattle.trace_model.specs.Trace.{TraceSecond, driven, item_seconds, total_seconds, number_after}
use Rattle.device_calls.proofs.run_unit_course.Parts.{driven-length}
use Rattle.recorder_with_cards.specs.Writes.{opens, turns_among, turns_at, turns_from, turns_of}
use Rattle.recorder_with_cards.proofs.Waiting.{taken-more}

-- ---- how many seconds before a number begin a minute, or come behind one that does

unfoldable pub opened : ℕ → ℕ
opened k = (k + 59) / 60 + (k + 58) / 60

opened-one : (k : ℕ) → cond (nat_le (k % 60) 1) 1 0 + opened k ≡ opened (k + 1)
unfolding opened
opened-one k =
    let same : (k + 1 + 58) / 60 ≡ (k + 59) / 60 = omega arith in
    ⊎_elim
    (λ late.
    let none : (k + 1 + 59) / 60 ≡ (k + 58) / 60 = omega (arith, late) in
    ap (λ (b : Bool). cond b 1 0 + ((k + 59) / 60 + (k + 58) / 60)) (lt-leb (k % 60) 1 late) ∙ omega (arith, same, none))
    (λ early.
    let one : (k + 1 + 59) / 60 ≡ (k + 58) / 60 + 1 = omega (arith, early) in
    ap (λ (b : Bool). cond b 1 0 + ((k + 59) / 60 + (k + 58) / 60)) (le-leb (k % 60) 1 early) ∙ omega (arith, same, one))
    (cases_lt 1 (k % 60))

opened-here : (k : ℕ) → k % 60 ≤ 1 → 1 + opened k ≡ opened (k + 1)
opened-here k early = ap (λ (b : Bool). cond b 1 0 + opened k) (sym (le-leb (k % 60) 1 early)) ∙ opened-one k

opened-on : (k n : ℕ) → opened k ≤ opened (k + n)
unfolding opened
opened-on k n =
    let begins : (k + 59) / 60 ≤ (k + n + 59) / 60 = omega arith in
    let behind : (k + 58) / 60 ≤ (k + n + 58) / 60 = omega arith in
    omega (arith, begins, behind)

-- each minute has two, and so many seconds touch one minute more than they fill at most
pub opened-few : (k n : ℕ) → opened (k + n) ≤ opened k + (2 * (n / 60) + 2)
unfolding opened
opened-few k n =
    let begins : (k + n + 59) / 60 ≤ (k + 59) / 60 + n / 60 + 1 = omega arith in
    let behind : (k + n + 58) / 60 ≤ (k + 58) / 60 + n / 60 + 1 = omega arith in
    omega (arith, begins, behind)

-- ---- the turns of a `run` line

count-opened : (n number speed : ℕ) → count_by opens (driven n number speed []) + opened number ≡ opened (number + n)
count-opened zero number speed =
    let none : 0 + opened number ≡ opened number = omega arith in
    none ∙ ap opened (let e : number ≡ number + 0 = omega arith in e)
count-opened (suc n) number speed =
    let s : TraceSecond = record { number = number; has_power = true; speed = speed; actions = [] } in
    let rest : List TraceSecond = driven n (number + 1) speed [] in
    let first : count_by opens (s ∷ rest) ≡ cond (nat_le (number % 60) 1) 1 0 + count_by opens rest = sum_by-cons (λ (x : TraceSecond). cond (opens x) 1 0) s rest in
    let one = opened-one number in
    let others = count-opened n (number + 1) speed in
    let last : opened (number + 1 + n) ≡ opened (number + suc n) = ap opened (let e : number + 1 + n ≡ number + suc n = omega arith in e) in
    ap (λ (m : ℕ). m + opened number) first ∙ omega (arith, one, others, last)

-- behind its first second: the next one is a turn, and of the others each that opens
behind-is : (n number speed : ℕ) → 0 < n → turns_among 1 (driven n number speed []) + opened (number + 1) ≡ 1 + opened (number + n)
behind-is zero number speed some = absurd (omega (arith, some))
behind-is (suc n) number speed some =
    let shape : turns_among 1 (driven (suc n) number speed []) ≡ 1 + count_by opens (driven n (number + 1) speed []) = refl in
    let others = count-opened n (number + 1) speed in
    let last : opened (number + 1 + n) ≡ opened (number + suc n) = ap opened (let e : number + 1 + n ≡ number + suc n = omega arith in e) in
    ap (λ (m : ℕ). m + opened (number + 1)) shape ∙ omega (arith, others, last)

none-behind : (n number speed : ℕ) → n ≡ 0 → turns_among 1 (driven n number speed []) ≡ 0
none-behind n number speed none = ap (λ (m : ℕ). turns_among 1 (driven m number speed [])) none

-- where a turn begins behind so many of them, some more have one more
pub behind-more : (m n number speed : ℕ) → 0 < n → (m ≡ 0) ⊎ ((number + m) % 60 ≤ 1) → turns_among 1 (driven m number speed []) + 1 ≤ turns_among 1 (driven (m + n) number speed [])
behind-more m n number speed some at = ⊎_elim first (λ opens_here. ⊎_elim (λ begun. later begun opens_here) (λ none. first (omega (arith, none))) (cases_lt 0 m)) at
  where
    all : turns_among 1 (driven (m + n) number speed []) + opened (number + 1) ≡ 1 + opened (number + (m + n))
    all = behind-is (m + n) number speed (omega (arith, some))

    first : m ≡ 0 → turns_among 1 (driven m number speed []) + 1 ≤ turns_among 1 (driven (m + n) number speed [])
    first none =
        let was = none-behind m number speed none in
        let is = all in
        let on : opened (number + 1) ≤ opened (number + (m + n)) = subst (λ (j : ℕ). opened (number + 1) ≤ opened j) (let e : number + 1 + (m + n - 1) ≡ number + (m + n) = omega (arith, some) in e) (opened-on (number + 1) (m + n - 1)) in
        omega (arith, was, is, on)

    later : 0 < m → (number + m) % 60 ≤ 1 → turns_among 1 (driven m number speed []) + 1 ≤ turns_among 1 (driven (m + n) number speed [])
    later begun early =
        let was = behind-is m number speed begun in
        let is = all in
        let one = opened-here (number + m) early in
        let on : opened (number + m + 1) ≤ opened (number + (m + n)) = subst (λ (j : ℕ). opened (number + m + 1) ≤ opened j) (let e : number + m + 1 + (n - 1) ≡ number + (m + n) = omega (arith, some) in e) (opened-on (number + m + 1) (n - 1)) in
        omega (arith, was, is, one, on)

-- the first second of a line is one turn more
pub all-turns : (n number speed : ℕ) → 0 < n → turns_among 2 (driven n number speed []) ≡ 1 + turns_among 1 (driven (n - 1) (number + 1) speed [])
all-turns zero number speed some = absurd (omega (arith, some))
all-turns (suc n) number speed some =
    let rest : List TraceSecond = driven n (number + 1) speed [] in
    let shape : turns_among 2 (driven (suc n) number speed []) ≡ suc (length (take 1 rest)) + count_by opens (drop 1 rest) = refl in
    let one : suc (length (take 1 rest)) + count_by opens (drop 1 rest) ≡ 1 + (length (take 1 rest) + count_by opens (drop 1 rest)) = omega arith in
    shape ∙ one ∙ ap (λ (m : ℕ). 1 + turns_among 1 (driven m (number + 1) speed [])) (let e : n ≡ suc n - 1 = omega arith in e)

-- so a line of two seconds or more has those two, and the others that open
pub line-turns : (n number speed : ℕ) → 1 < n → turns_at number (Driven n speed) + opened (number + 2) ≡ 2 + opened (number + n)
line-turns n number speed long =
    let all = all-turns n number speed (omega (arith, long)) in
    let behind = behind-is (n - 1) (number + 1) speed (omega (arith, long)) in
    let two : opened (number + 1 + 1) ≡ opened (number + 2) = ap opened (let e : number + 1 + 1 ≡ number + 2 = omega arith in e) in
    let last : opened (number + 1 + (n - 1)) ≡ opened (number + n) = ap opened (let e : number + 1 + (n - 1) ≡ number + n = omega (arith, long) in e) in
    omega (arith, all, behind, two, last)

-- ---- the lines of a trace, one after another

turns-parts : (number : ℕ) (xs ys : List Item) → turns_from number (xs ++ ys) ≡ turns_from number xs + turns_from (number + total_seconds xs) ys
turns-parts number [] ys =
    let none : turns_from number ys ≡ 0 + turns_from number ys = omega arith in
    none ∙ ap (λ (n : ℕ). 0 + turns_from n ys) (let e : number ≡ number + 0 = omega arith in e)
turns-parts number (x ∷ xs) ys =
    let behind : number + item_seconds x + total_seconds xs ≡ number + total_seconds (x ∷ xs) = (let all = sum_by-cons item_seconds x xs in omega (arith, all)) in
    ap (λ (n : ℕ). turns_at number x + n) (turns-parts (number + item_seconds x) xs ys)
    ∙ sum-of-three (turns_at number x) (turns_from (number + item_seconds x) xs) (turns_from (number + item_seconds x + total_seconds xs) ys)
    ∙ ap (λ (n : ℕ). turns_at number x + turns_from (number + item_seconds x) xs + turns_from n ys) behind
  where
    sum-of-three : (a b c : ℕ) → a + (b + c) ≡ a + b + c
    sum-of-three a b c = omega arith

-- one line more
pub turns-more : (start : ℕ) (items : List Item) (i : ℕ) (item : Item) (next : ℕ) → slice_get items i ≡ Some item → number_after start (take i items) ≡ next → turns_of start (take (i + 1) items) ≡ turns_of start (take i items) + turns_at next item
unfolding turns_of
turns-more start items i item next here at =
    let none : turns_at next item + 0 ≡ turns_at next item = omega arith in
    ap (turns_from start) (taken-more items i item here) ∙ turns-parts start (take i items) (item ∷ [])
    ∙ ap (λ (n : ℕ). turns_from start (take i items) + turns_from n (item ∷ [])) at
    ∙ ap (λ (n : ℕ). turns_from start (take i items) + n) none

-- those of the lines so far are of all
pub turns-within : (start : ℕ) (items : List Item) (i : ℕ) → turns_of start (take i items) ≤ turns_of start items
unfolding turns_of
turns-within start items i =
    let all : turns_from start items ≡ turns_from start (take i items) + turns_from (start + total_seconds (take i items)) (drop i items) = ap (turns_from start) (sym (take-append-drop i items)) ∙ turns-parts start (take i items) (drop i items) in
    omega (arith, all)

-- ---- no more turns than seconds, and two for each minute with some for each line

few-among : (first : ℕ) (seconds : List TraceSecond) → turns_among first seconds ≤ length seconds
few-among first seconds =
    let most = count_by-le-length opens (drop first seconds) in
    let all : length (take first seconds) + length (drop first seconds) ≡ length seconds = sym (length-append (take first seconds) (drop first seconds)) ∙ ap length (take-append-drop first seconds) in
    omega (arith, most, all)

few-at : (number : ℕ) (item : Item) → turns_at number item ≤ item_seconds item
few-at number (Driven seconds speed) = let few = few-among 2 (driven seconds number speed []) in let long = driven-length seconds number speed [] in omega (arith, few, long)
few-at number (Off seconds) = omega arith
few-at number (Act action) = omega arith

few-from : (number : ℕ) (items : List Item) → turns_from number items ≤ total_seconds items
few-from number [] = omega arith
few-from number (item ∷ items) = omega (arith, few-at number item, few-from (number + item_seconds item) items, sum_by-cons item_seconds item items)

pub turns-few : (start : ℕ) (items : List Item) → turns_of start items ≤ total_seconds items
unfolding turns_of
turns-few start items = few-from start items

minutes-at : (number : ℕ) (item : Item) → turns_at number item ≤ 2 * (item_seconds item / 60) + 4
minutes-at number (Driven seconds speed) =
    ⊎_elim
    (λ long.
    let is = line-turns seconds number speed long in
    let most = opened-few (number + 2) (seconds - 2) in
    let last : opened (number + 2 + (seconds - 2)) ≡ opened (number + seconds) = ap opened (let e : number + 2 + (seconds - 2) ≡ number + seconds = omega (arith, long) in e) in
    let minutes : (seconds - 2) / 60 ≤ seconds / 60 = omega arith in
    omega (arith, is, most, last, minutes))
    (λ short. let few = few-at number (Driven seconds speed) in omega (arith, few, short))
    (cases_lt 1 seconds)
minutes-at number (Off seconds) = omega arith
minutes-at number (Act action) = omega arith

minutes-from : (number : ℕ) (items : List Item) → turns_from number items ≤ 2 * (total_seconds items / 60) + 4 * length items
minutes-from number [] = omega arith
minutes-from number (item ∷ items) =
    let first = minutes-at number item in
    let rest = minutes-from (number + item_seconds item) items in
    let all = sum_by-cons item_seconds item items in
    let minutes : item_seconds item / 60 + total_seconds items / 60 ≤ (item_seconds item + total_seconds items) / 60 = omega arith in
    omega (arith, first, rest, all, minutes)

pub turns-by-minutes : (start : ℕ) (items : List Item) → turns_of start items ≤ 2 * (total_seconds items / 60) + 4 * length items
unfolding turns_of
turns-by-minutes start items = minutes-from start items
