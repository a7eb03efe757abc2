-- The records of a string that are still to be written.
use Rattle.std.proofs.Common.{◌≡◌, ◌≢◌, ◌∙◌, ℕ, zero, suc, ◌+◌, ◌-◌, ◌<◌, ◌≤◌, Bool, true, false, List, [], ◌∷◌, ◌++◌, length, take, drop, refl, ap, sym, subst, arith, append_assoc, length-drop}
use Rattle.std.specs.Prelude.{Some, None, ◌==◌, ◌&&◌, not, nat_le, nat_lt, if◌then◌else◌}
use Rattle.std.proofs.lemmas.Bool.Decides.{nat_tests}
use Rattle.std.proofs.lemmas.List.{drop-drop}
use Rattle.json.specs.Json.{Json, array, object, Items, no_items, item, Members, no_members, member}
use Rattle.json.specs.Token.{Token}
use Rattle.json.specs.Tree.{json_tokens, items_tokens, members_tokens}
use Rattle.json_fields.specs.Shown.{AddsMembers}
use Rattle.json_fields.proofs.Cutting.{by_test}
use Rattle.file_json.specs.declared.days.DaysAt.{DaysAt}
use Rattle.file_json.specs.Days.{AreBehind, day_len, is_day, day_shown, days_from, days_shown, items_behind, items_count, newest_items, records_of, stands_at, string_shown}
use Rattle.file_json.proofs.Left.{one_item_more}

-- where a record stands, so many are what it makes in front of the others
day_first : (most far : ℕ) (rest : List ℕ) → is_day rest ≡ true
    → days_shown (suc most) far rest ≡ item (day_shown (take (day_len rest) rest)) (if nat_lt far (day_len rest) then no_items else days_shown most (far - day_len rest) (drop (day_len rest) rest))
unfolding days_shown
day_first most far rest is = rw is refl

-- how many are left behind a record
abbrev pub left_after : (left far len : ℕ) → ℕ
left_after left far len = if nat_lt far len then 0 else left - 1

pub no_days : (far : ℕ) (rest : List ℕ) → days_shown 0 far rest ≡ no_items
unfolding days_shown
no_days far rest = refl

behind_day : (most far len : ℕ) (behind : List ℕ) → days_shown (left_after (suc most) far len) (far - len) behind ≡ (if nat_lt far len then no_items else days_shown most (far - len) behind)
behind_day most far len behind =
    let less : suc most - 1 ≡ most = omega arith in
    by_test (nat_lt far len) (λ is. rw is (no_days (far - len) behind)) (λ is. rw (is, less) refl)

pub one_day_more : (left far : ℕ) (rest day behind : List ℕ) (tokens after whole : List Token) → left ≢ 0 → is_day rest ≡ true → tokens ++ items_tokens (days_shown left far rest) ≡ whole
    → day ≡ take (day_len rest) rest → behind ≡ drop (day_len rest) rest → after ≡ tokens ++ json_tokens (day_shown day)
    → after ++ items_tokens (days_shown (left_after left far (day_len rest)) (far - day_len rest) behind) ≡ whole
one_day_more zero far rest day behind tokens after whole some is so_far d b made = absurd (some refl)
one_day_more (suc most) far rest day behind tokens after whole some is so_far d b made =
    let others : Items = if nat_lt far (day_len rest) then no_items else days_shown most (far - day_len rest) (drop (day_len rest) rest) in
    let first : tokens ++ items_tokens (item (day_shown (take (day_len rest) rest)) (if nat_lt far (day_len rest) then no_items else days_shown most (far - day_len rest) (drop (day_len rest) rest))) ≡ whole =
    ap (λ (js : Items). tokens ++ items_tokens js) (sym (day_first most far rest is)) ∙ so_far in
    let shown : after ≡ tokens ++ json_tokens (day_shown (take (day_len rest) rest)) = made ∙ ap (λ (l : List ℕ). tokens ++ json_tokens (day_shown l)) d in
    ap (λ (l : List ℕ). after ++ items_tokens (days_shown (left_after (suc most) far (day_len rest)) (far - day_len rest) l)) b
    ∙ ap (λ (js : Items). after ++ items_tokens js) (behind_day most far (day_len rest) (drop (day_len rest) rest))
    ∙ one_item_more (day_shown (take (day_len rest) rest)) (if nat_lt far (day_len rest) then no_items else days_shown most (far - day_len rest) (drop (day_len rest) rest)) tokens after whole first shown

-- the test of a record that is left
never : true ≡ false → ⊥
never is = cc

always : (most : ℕ) → (not (suc most == 0) && true) ≡ false → ⊥
always most is = let some : (suc most == 0) ≡ false = grind (arith, nat_tests) in never (rw some at is)

-- two tests that hold
pub two_of : (left : ℕ) (t : Bool) → (not (left == 0) && t) ≡ true → (left ≢ 0) × (t ≡ true)
two_of zero t is = absurd (let wrong : false ≡ true = is in cc)
two_of (suc most) true is = (λ none. absurd (omega (arith, none)), refl)
two_of (suc most) false is = absurd (nowhere (suc most == 0) is)
  where
    nowhere : (t : Bool) → (not t && false) ≡ true → ⊥
    nowhere true wrong = cc
    nowhere false wrong = cc

-- no record is left
pub none_there : (left far : ℕ) (rest : List ℕ) → (not (left == 0) && is_day rest) ≡ false → days_shown left far rest ≡ no_items
unfolding days_shown
none_there zero far rest is = refl
none_there (suc most) far rest is = by_test (is_day rest) (λ x. absurd (always most (rw x at is))) (λ x. rw x refl)

pub no_day_left : (left far : ℕ) (rest : List ℕ) (tokens whole : List Token) → (not (left == 0) && is_day rest) ≡ false → tokens ++ items_tokens (days_shown left far rest) ≡ whole → tokens ++ Token.end_array ∷ [] ≡ whole
no_day_left left far rest tokens whole is so_far = ap (λ (js : Items). tokens ++ items_tokens js) (sym (none_there left far rest is)) ∙ so_far

-- ---- records from a place on

-- a record that is there has its length
pub day_is : (bytes : List ℕ) → is_day bytes ≡ true → (14 ≤ day_len bytes) × (day_len bytes ≤ length bytes)
day_is bytes is =
    by_test (nat_le 14 (length bytes))
    (λ x. by_test (nat_le 14 (day_len bytes)) (λ y. (grind (arith, nat_tests, y), grind (arith, nat_tests, rw (x, y) at is))) (λ y. absurd (wrong (rw (x, y) at is))))
    (λ x. absurd (wrong (rw x at is)))
  where
    wrong : false ≡ true → ⊥
    wrong is = cc

pub day_there : (at : DaysAt) (circle : List ℕ) → stands_at at circle ≡ true
    → (at.most ≢ 0) × (14 ≤ day_len (drop at.place circle)) × (day_len (drop at.place circle) ≤ length (drop at.place circle))
day_there at circle there =
    let both = two_of at.most (is_day (drop at.place circle)) there in
    let long = day_is (drop at.place circle) both.1 in
    (both.0, long.0, long.1)

-- where none is there none are told
pub none_from : (at : DaysAt) (circle : List ℕ) → stands_at at circle ≡ false → days_from at circle ≡ no_items
none_from at circle none = none_there at.most at.far (drop at.place circle) none

-- one of them, and those behind it
pub first_day : (left far : ℕ) (rest : List ℕ) → left ≢ 0 → is_day rest ≡ true
    → days_shown left far rest ≡ item (day_shown (take (day_len rest) rest)) (days_shown (left_after left far (day_len rest)) (far - day_len rest) (drop (day_len rest) rest))
first_day zero far rest some is = absurd (some refl)
first_day (suc most) far rest some is =
    day_first most far rest is ∙ ap (λ (js : Items). item (day_shown (take (day_len rest) rest)) js) (sym (behind_day most far (day_len rest) (drop (day_len rest) rest)))

fewer_left : (left far len : ℕ) → left ≢ 0 → left_after left far len < left
fewer_left left far len some = by_test (nat_lt far len) (λ is. rw is (omega (arith, some))) (λ is. rw is (omega (arith, some)))

pub days_behind : (at next : DaysAt) (circle : List ℕ) (len : ℕ) → at.place ≤ length circle → stands_at at circle ≡ true → len ≡ day_len (drop at.place circle)
    → next.place ≡ at.place + len → next.far ≡ at.far - len → next.most ≡ left_after at.most at.far len → AreBehind circle at next
days_behind at next circle len inside there len_is place_is far_is most_is =
    let is = day_there at circle there in
    let both = two_of at.most (is_day (drop at.place circle)) there in
    let long : len ≤ length (drop at.place circle) = omega (arith, is.2, len_is) in
    let some : 14 ≤ len = omega (arith, is.1, len_is) in
    let place : drop (day_len (drop at.place circle)) (drop at.place circle) ≡ drop next.place circle =
    ap (λ (n : ℕ). drop n (drop at.place circle)) (sym len_is) ∙ drop-drop len at.place circle ∙ ap (λ (n : ℕ). drop n circle) (sym place_is) in
    let far : at.far - day_len (drop at.place circle) ≡ next.far = ap (λ (n : ℕ). at.far - n) (sym len_is) ∙ sym far_is in
    let most : left_after at.most at.far (day_len (drop at.place circle)) ≡ next.most = ap (λ (n : ℕ). left_after at.most at.far n) (sym len_is) ∙ sym most_is in
    let others : days_shown (left_after at.most at.far (day_len (drop at.place circle))) (at.far - day_len (drop at.place circle)) (drop (day_len (drop at.place circle)) (drop at.place circle)) ≡ days_shown next.most next.far (drop next.place circle) =
    ap (λ (n : ℕ). days_shown n (at.far - day_len (drop at.place circle)) (drop (day_len (drop at.place circle)) (drop at.place circle))) most
    ∙ ap (λ (n : ℕ). days_shown next.most n (drop (day_len (drop at.place circle)) (drop at.place circle))) far
    ∙ ap (λ (l : List ℕ). days_shown next.most next.far l) place in
    record {
      shown = first_day at.most at.far (drop at.place circle) both.0 both.1
          ∙ ap (λ (js : Items). item (day_shown (take (day_len (drop at.place circle)) (drop at.place circle))) js) others;
      within = omega (arith, inside, place_is, long, length-drop at.place circle);
      later = omega (arith, place_is, some);
      fewer = subst (λ (n : ℕ). n < at.most) most (fewer_left at.most at.far (day_len (drop at.place circle)) both.0);
    }

-- ---- items that are passed over

pub one_passed : (left : ℕ) (j : Json) (js : Items) → left ≢ 0 → items_behind (left - 1) js ≡ items_behind left (item j js)
one_passed zero j js some = absurd (some refl)
one_passed (suc n) j js some = let e : suc n - 1 ≡ n = omega arith in ap (λ (k : ℕ). items_behind k js) e

-- none is left to be passed over, or there is none
pub stopped : (left : ℕ) (t : Bool) (js : Items) → (not (left == 0) && t) ≡ false → (t ≡ false → js ≡ no_items) → items_behind left js ≡ js
stopped zero t js is none = refl
stopped (suc n) true js is none = absurd (always n is)
stopped (suc n) false js is none = ap (λ (k : Items). items_behind (suc n) k) (none refl) ∙ sym (none refl)

-- how many are left
count_behind : (n : ℕ) (js : Items) → items_count (items_behind n js) ≡ items_count js - n
count_behind zero js = omega arith
count_behind (suc n) no_items = omega arith
count_behind (suc n) (item j js) = omega (arith, count_behind n js)

pub all_told : (last oldest newest : ℕ) (string : List ℕ) → items_count (records_of oldest newest string) ≤ last → string_shown (Some last) oldest newest string ≡ string_shown None oldest newest string
all_told last oldest newest string few =
    let none : items_count (records_of oldest newest string) - last ≡ 0 = omega (arith, few) in
    ap (λ (n : ℕ). array (items_behind n (records_of oldest newest string))) none

pub many_told : (last oldest newest : ℕ) (string : List ℕ) → last ≤ items_count (records_of oldest newest string) → items_count (newest_items (Some last) (records_of oldest newest string)) ≡ last
many_told last oldest newest string many =
    omega (arith, count_behind (items_count (records_of oldest newest string) - last) (records_of oldest newest string), many)

-- a member behind others ends an object
pub last_member : (old a b c d e : List Token) (all : Members → Members) (name : List ℕ) (j : Json)
    → a ≡ old ++ Token.begin_object ∷ [] → AddsMembers a b all → c ≡ b ++ Token.key name ∷ [] → d ≡ c ++ json_tokens j → e ≡ d ++ Token.end_object ∷ []
    → e ≡ old ++ json_tokens (object (all (member name j no_members)))
last_member old a b c d e all name j ea adds ec ed ee =
    let own : e ≡ b ++ members_tokens (member name j no_members) = rw (ee, ed, ec) (simp append_assoc) in
    own
    ∙ adds (member name j no_members)
    ∙ ap (λ (ts : List Token). ts ++ members_tokens (all (member name j no_members))) ea
    ∙ append_assoc old (Token.begin_object ∷ []) (members_tokens (all (member name j no_members)))
