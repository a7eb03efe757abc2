-- The speeds of a minute as its seconds come.
use Rattle.std.proofs.Common.{◌≡◌, IfSome, ℕ, zero, suc, ◌+◌, ◌-◌, ◌/◌, ◌%◌, ◌<◌, ◌≤◌, ◌==◌, ◌&&◌, Bool, true, false, cond, Option, Some, None, List, [], ◌∷◌, ◌++◌, length, replicate, filter_map, option_to_list, refl, sym, ◌∙◌, ap, subst, arith, append_assoc, append-nil, length-append, nat_lt}
use Rattle.std.proofs.lemmas.Bool.{eqb-true, ltb-true, ltb-false}
use Rattle.std.proofs.lemmas.Bool.Decides.{nat_tests}
use Rattle.std.proofs.lemmas.List.{length-map, map-append}
use Rattle.std.proofs.lemmas.List.Elements.{filter_map-append}
use Rattle.std.proofs.lemmas.List.Sums.{fold_push}
use Rattle.std.specs.List.{AllByRecursion}
use Rattle.event_model.specs.Spans.{SpeedSecond, InARow, first_of, numbers, speeds, at_speed}
use Rattle.speed_model.specs.declared.block.Block.{Block}
use Rattle.speed_model.specs.Blocks.{minute_of, lies_in, with_second, minutes_of, is_moving, block_of, blocks_of}
use Rattle.speed_store.specs.Feeding.{with_going, IsEarlier, KeepsSpeedsOf, block_in, block_at}

abbrev second_at : (number speed : ℕ) → SpeedSecond
second_at number speed = record { number = number; speed = speed }

all-append : {T : Type 0} (P : T → Type 0) (xs ys : List T) → AllByRecursion P xs → AllByRecursion P ys → AllByRecursion P (xs ++ ys)
all-append {T} P [] ys front back = back
all-append {T} P (x ∷ xs) ys front back = (front.0, all-append P xs ys front.1 back)

all-weaker : {T : Type 0} (P Q : T → Type 0) → ((x : T) → P x → Q x) → (xs : List T) → AllByRecursion P xs → AllByRecursion Q xs
all-weaker {T} P Q weaker [] all = tt
all-weaker {T} P Q weaker (x ∷ xs) all = (weaker x all.0, all-weaker P Q weaker xs all.1)

-- ---- the minutes of seconds, one second more

-- it is no second of an earlier minute
not-earlier : (minute : List SpeedSecond) (s : SpeedSecond) → IsEarlier (minute_of s) minute → lies_in minute s ≡ false
not-earlier [] s earlier = refl
not-earlier (t ∷ ts) s earlier = grind (arith, nat_tests, earlier)

begins : (over : List (List SpeedSecond)) (s : SpeedSecond) → AllByRecursion (IsEarlier (minute_of s)) over → with_second over s ≡ over ++ (s ∷ []) ∷ []
begins [] s earlier = refl
begins (minute ∷ []) s earlier = ap (λ (b : Bool). cond b ((minute ++ s ∷ []) ∷ []) (minute ∷ (s ∷ []) ∷ [])) (not-earlier minute s earlier.0)
begins (minute ∷ next ∷ minutes) s earlier = ap (λ (l : List (List SpeedSecond)). minute ∷ l) (begins (next ∷ minutes) s earlier.1)

at-last : (over : List (List SpeedSecond)) (minute : List SpeedSecond) (s : SpeedSecond) → with_second (over ++ minute ∷ []) s ≡ over ++ with_second (minute ∷ []) s
at-last [] minute s = refl
at-last (first ∷ []) minute s = refl
at-last (first ∷ next ∷ over) minute s = ap (λ (l : List (List SpeedSecond)). first ∷ l) (at-last (next ∷ over) minute s)

goes-on : (t : SpeedSecond) (ts : List SpeedSecond) (s : SpeedSecond) → minute_of t ≡ minute_of s → with_second ((t ∷ ts) ∷ []) s ≡ (t ∷ ts ++ s ∷ []) ∷ []
goes-on t ts s same =
    let is : (minute_of t == minute_of s) ≡ true = grind (arith, nat_tests, same) in
    ap (λ (b : Bool). cond b (((t ∷ ts) ++ s ∷ []) ∷ []) ((t ∷ ts) ∷ (s ∷ []) ∷ [])) is

one-more : (over : List (List SpeedSecond)) (going : List SpeedSecond) (s : SpeedSecond) (minute : ℕ) → minute_of s ≡ minute → AllByRecursion (IsEarlier minute) over
    → AllByRecursion (λ (t : SpeedSecond). minute_of t ≡ minute) going → with_second (with_going over going) s ≡ with_going over (going ++ s ∷ [])
one-more over [] s minute is earlier here = begins over s (subst (λ (m : ℕ). AllByRecursion (IsEarlier m) over) (sym is) earlier)
one-more over (t ∷ going) s minute is earlier here = at-last over (t ∷ going) s ∙ ap (λ (l : List (List SpeedSecond)). over ++ l) (goes-on t going s (here.0 ∙ sym is))

-- ---- the numbers of seconds one after another

row-more : (from next : ℕ) (going : List SpeedSecond) (s : SpeedSecond) → InARow from (numbers going) → from + length going ≡ next → s.number ≡ next → InARow from (numbers (going ++ s ∷ []))
row-more from next [] s row end is = (is ∙ sym (omega (arith, end)), tt)
row-more from next (t ∷ going) s row end is = (row.0, row-more (from + 1) next going s row.1 (omega (arith, end)) is)

first-is : (from : ℕ) (going : List SpeedSecond) → 0 < length going → InARow from (numbers going) → first_of (numbers going) ≡ from
first-is from [] some row = absurd (omega (arith, some))
first-is from (t ∷ going) some row = row.0

-- ---- the blocks of minutes

going-blocks : (over : List (List SpeedSecond)) (going : List SpeedSecond) → filter_map block_of (with_going over going) ≡ filter_map block_of over ++ option_to_list (block_of going)
going-blocks over [] = sym (append-nil (filter_map block_of over))
going-blocks over (s ∷ going) = filter_map-append block_of over ((s ∷ going) ∷ []) ∙ ap (λ (l : List Block). filter_map block_of over ++ l) (one (block_of (s ∷ going)) (block_of (s ∷ going)) refl)
  where
    one : (o p : Option Block) → o ≡ p → filter_map block_of ((s ∷ going) ∷ []) ≡ option_to_list (block_of (s ∷ going))
    one o p is = by (block_of (s ∷ going)) refl
      where
        by : (q : Option Block) → block_of (s ∷ going) ≡ q → filter_map block_of ((s ∷ going) ∷ []) ≡ option_to_list (block_of (s ∷ going))
        by None none = grind (arith, none)
        by (Some b) some = grind (arith, some)

-- a minute that lacks a second has none
none-of : (going : List SpeedSecond) → length going < 60 → block_of going ≡ None
none-of going few =
    let is : (length going == 60) ≡ false = grind (arith, nat_tests, few) in
    ap (λ (b : Bool). cond (b && is_moving (speeds going)) (Some (record { time = first_of (numbers going); speeds = speeds going })) None) is

-- and that of one which has all
block-is : (going : List SpeedSecond) (kept : List ℕ) (time : ℕ) → speeds going ≡ kept → (length going ≡ 60 → first_of (numbers going) ≡ time) → block_of going ≡ block_in time kept
block-is going kept time are begun = by (length going == 60) refl ∙ ap (λ (n : ℕ). cond (n == 60 && is_moving (speeds going)) (Some (record { time = time; speeds = speeds going })) None) (sym (length-map going (λ (s : SpeedSecond). s.speed))) ∙ ap (block_in time) are
  where
    by : (b : Bool) → (length going == 60) ≡ b → block_of going ≡ cond (length going == 60 && is_moving (speeds going)) (Some (record { time = time; speeds = speeds going })) None
    by false is = ap (λ (b : Bool). cond (b && is_moving (speeds going)) (Some (record { time = first_of (numbers going); speeds = speeds going })) None) is
        ∙ sym (ap (λ (b : Bool). cond (b && is_moving (speeds going)) (Some (record { time = time; speeds = speeds going })) None) is)
    by true is =
        let whole : length going ≡ 60 = grind (arith, nat_tests, is) in
        ap (λ (t : ℕ). cond (length going == 60 && is_moving (speeds going)) (Some (record { time = t; speeds = speeds going })) None) (begun whole)

-- ---- one second more

module _ (kept : List ℕ) (seconds : List SpeedSecond) (next speed : ℕ) (h : KeepsSpeedsOf kept seconds next) where
  abbrev s : SpeedSecond
  s = second_at next speed

  more-minutes : minutes_of (seconds ++ s ∷ []) ≡ with_going h.over (h.going ++ s ∷ [])
  more-minutes =
      fold_push with_second [] seconds s ∙ ap (λ (l : List (List SpeedSecond)). with_second l s) h.minutes_are
      ∙ one-more h.over h.going s (next / 60) refl h.earlier h.here

  more-here : AllByRecursion (λ (t : SpeedSecond). minute_of t ≡ next / 60) (h.going ++ s ∷ [])
  more-here = all-append (λ (t : SpeedSecond). minute_of t ≡ next / 60) h.going (s ∷ []) h.here (refl, tt)

  more-long : length (h.going ++ s ∷ []) ≡ length h.going + 1
  more-long = length-append h.going (s ∷ [])

  low : length h.going ≤ next
  low = omega (arith, h.few)

  more-row : InARow (next - length h.going) (numbers (h.going ++ s ∷ []))
  more-row = row-more (next - length h.going) next h.going s h.row (omega (arith, low)) refl

  more-kept : speeds (h.going ++ s ∷ []) ≡ kept ++ speed ∷ []
  more-kept = map-append (λ (t : SpeedSecond). t.speed) h.going (s ∷ []) ∙ ap (λ (l : List ℕ). l ++ speed ∷ []) h.kept_are

  -- the minute goes on
  module _ (inside : next % 60 + 1 < 60) where
    grown : KeepsSpeedsOf (kept ++ speed ∷ []) (seconds ++ s ∷ []) (next + 1)
    grown =
        let same : (next + 1) / 60 ≡ next / 60 = omega (arith, inside) in
        let from : next + 1 - length (h.going ++ s ∷ []) ≡ next - length h.going = omega (arith, more-long, low) in
        record {
          over = h.over;
          going = h.going ++ s ∷ [];
          minutes_are = more-minutes;
          earlier = subst (λ (m : ℕ). AllByRecursion (IsEarlier m) h.over) (sym same) h.earlier;
          here = subst (λ (m : ℕ). AllByRecursion (λ (t : SpeedSecond). minute_of t ≡ m) (h.going ++ s ∷ [])) (sym same) more-here;
          row = subst (λ (n : ℕ). InARow n (numbers (h.going ++ s ∷ []))) (sym from) more-row;
          few = omega (arith, h.few, inside, more-long);
          kept_are = more-kept;
        }

    no-block : blocks_of (seconds ++ s ∷ []) ≡ blocks_of seconds
    unfolding blocks_of
    no-block =
        ap (filter_map block_of) more-minutes ∙ going-blocks h.over (h.going ++ s ∷ [])
        ∙ ap (λ (o : Option Block). filter_map block_of h.over ++ option_to_list o) (none-of (h.going ++ s ∷ []) (omega (arith, h.few, inside, more-long)) ∙ sym (none-of h.going (omega (arith, h.few, inside))))
        ∙ sym (going-blocks h.over h.going) ∙ sym (ap (filter_map block_of) h.minutes_are)

  -- or it ends
  module _ (last : next % 60 + 1 ≡ 60) where
    all-over : (going : List SpeedSecond) → with_going h.over (going ++ s ∷ []) ≡ h.over ++ (going ++ s ∷ []) ∷ []
    all-over [] = refl
    all-over (t ∷ going) = refl

    earlier-last : (going : List SpeedSecond) → AllByRecursion (λ (t : SpeedSecond). minute_of t ≡ next / 60) going → IsEarlier ((next + 1) / 60) (going ++ s ∷ [])
    earlier-last [] all = omega (arith, last)
    earlier-last (t ∷ going) all = omega (arith, last, all.0)

    ended : KeepsSpeedsOf [] (seconds ++ s ∷ []) (next + 1)
    ended =
        let later : next / 60 ≤ (next + 1) / 60 = omega arith in
        record {
          over = h.over ++ (h.going ++ s ∷ []) ∷ [];
          going = [];
          minutes_are = more-minutes ∙ all-over h.going;
          earlier = all-append (IsEarlier ((next + 1) / 60)) h.over ((h.going ++ s ∷ []) ∷ []) (all-weaker (IsEarlier (next / 60)) (IsEarlier ((next + 1) / 60)) (still later) h.over h.earlier) (earlier-last h.going h.here, tt);
          here = tt;
          row = tt;
          few = omega arith;
          kept_are = refl;
        }
      where
        still : next / 60 ≤ (next + 1) / 60 → (minute : List SpeedSecond) → IsEarlier (next / 60) minute → IsEarlier ((next + 1) / 60) minute
        still later [] earlier = tt
        still later (t ∷ ts) earlier = omega (arith, later, earlier)

    begun-at : length (h.going ++ s ∷ []) ≡ 60 → first_of (numbers (h.going ++ s ∷ [])) ≡ next + 1 - 60
    begun-at whole = first-is (next - length h.going) (h.going ++ s ∷ []) (omega (arith, whole)) more-row ∙ omega (arith, whole, more-long, low)

    its-block : blocks_of (seconds ++ s ∷ []) ≡ blocks_of seconds ++ option_to_list (block_in (next + 1 - 60) (kept ++ speed ∷ []))
    unfolding blocks_of
    its-block =
        ap (filter_map block_of) more-minutes ∙ going-blocks h.over (h.going ++ s ∷ [])
        ∙ ap (λ (o : Option Block). filter_map block_of h.over ++ option_to_list o) (block-is (h.going ++ s ∷ []) (kept ++ speed ∷ []) (next + 1 - 60) more-kept begun-at)
        ∙ ap (λ (l : List Block). l ++ option_to_list (block_in (next + 1 - 60) (kept ++ speed ∷ [])))
        (sym (append-nil (filter_map block_of h.over)) ∙ ap (λ (o : Option Block). filter_map block_of h.over ++ option_to_list o) (sym (none-of h.going (omega (arith, h.few, last)))) ∙ sym (going-blocks h.over h.going) ∙ sym (ap (filter_map block_of) h.minutes_are))

-- ---- so many seconds more

-- within a minute
abbrev pub Grows : (kept : List ℕ) (seconds : List SpeedSecond) (next n speed : ℕ) → Type 0
Grows kept seconds next n speed = KeepsSpeedsOf (kept ++ replicate n speed) (seconds ++ at_speed next n speed) (next + n) × (blocks_of (seconds ++ at_speed next n speed) ≡ blocks_of seconds)

pub grows : (n : ℕ) (kept : List ℕ) (seconds : List SpeedSecond) (next speed : ℕ) → KeepsSpeedsOf kept seconds next → next % 60 + n < 60 → Grows kept seconds next n speed
grows zero kept seconds next speed h inside =
    let end : next ≡ next + 0 = omega arith in (
      subst (λ (l : List ℕ). KeepsSpeedsOf l (seconds ++ []) (next + 0)) (sym (append-nil kept))
          (subst (λ (l : List SpeedSecond). KeepsSpeedsOf kept l (next + 0)) (sym (append-nil seconds)) (subst (KeepsSpeedsOf kept seconds) end h)),
      ap blocks_of (append-nil seconds),
    )
grows (suc n) kept seconds next speed h inside =
    let s : SpeedSecond = second_at next speed in
    let rest = at_speed (next + 1) n speed in
    let first : next % 60 + 1 < 60 = omega (arith, inside) in
    let more = grows n (kept ++ speed ∷ []) (seconds ++ s ∷ []) (next + 1) speed (grown kept seconds next speed h first) (omega (arith, inside)) in
    let end : next + 1 + n ≡ next + suc n = omega arith in
    let kept_is : (kept ++ speed ∷ []) ++ replicate n speed ≡ kept ++ speed ∷ replicate n speed = append_assoc kept (speed ∷ []) (replicate n speed) in
    let seconds_are : (seconds ++ s ∷ []) ++ rest ≡ seconds ++ s ∷ rest = append_assoc seconds (s ∷ []) rest in (
      subst (KeepsSpeedsOf (kept ++ speed ∷ replicate n speed) (seconds ++ s ∷ rest)) end
          (subst (λ (l : List SpeedSecond). KeepsSpeedsOf (kept ++ speed ∷ replicate n speed) l (next + 1 + n)) seconds_are
          (subst (λ (l : List ℕ). KeepsSpeedsOf l ((seconds ++ s ∷ []) ++ rest) (next + 1 + n)) kept_is more.0)),
      ap blocks_of (sym seconds_are) ∙ more.1 ∙ no-block kept seconds next speed h first,
    )

-- up to its end
abbrev pub Ends : (kept : List ℕ) (seconds : List SpeedSecond) (next n speed : ℕ) → Type 0
Ends kept seconds next n speed = KeepsSpeedsOf [] (seconds ++ at_speed next n speed) (next + n)
    × (blocks_of (seconds ++ at_speed next n speed) ≡ blocks_of seconds ++ option_to_list (block_in (next + n - 60) (kept ++ replicate n speed)))

pub ends : (n : ℕ) (kept : List ℕ) (seconds : List SpeedSecond) (next speed : ℕ) → KeepsSpeedsOf kept seconds next → next % 60 + suc n ≡ 60 → Ends kept seconds next (suc n) speed
ends zero kept seconds next speed h last =
    let end : next + 1 ≡ next + suc zero = omega arith in
    let here : next % 60 + 1 ≡ 60 = omega (arith, last) in (
      subst (KeepsSpeedsOf [] (seconds ++ at_speed next 1 speed)) end (ended kept seconds next speed h here),
      its-block kept seconds next speed h here ∙ ap (λ (k : ℕ). blocks_of seconds ++ option_to_list (block_in (k - 60) (kept ++ speed ∷ []))) end,
    )
ends (suc n) kept seconds next speed h last =
    let s : SpeedSecond = second_at next speed in
    let rest = at_speed (next + 1) (suc n) speed in
    let first : next % 60 + 1 < 60 = omega (arith, last) in
    let more = ends n (kept ++ speed ∷ []) (seconds ++ s ∷ []) (next + 1) speed (grown kept seconds next speed h first) (omega (arith, last)) in
    let end : next + 1 + suc n ≡ next + suc (suc n) = omega arith in
    let kept_is : (kept ++ speed ∷ []) ++ replicate (suc n) speed ≡ kept ++ speed ∷ replicate (suc n) speed = append_assoc kept (speed ∷ []) (replicate (suc n) speed) in
    let seconds_are : (seconds ++ s ∷ []) ++ rest ≡ seconds ++ s ∷ rest = append_assoc seconds (s ∷ []) rest in (
      subst (KeepsSpeedsOf [] (seconds ++ s ∷ rest)) end (subst (λ (l : List SpeedSecond). KeepsSpeedsOf [] l (next + 1 + suc n)) seconds_are more.0),
      ap blocks_of (sym seconds_are) ∙ more.1
          ∙ ap (λ (l : List Block). l ++ option_to_list (block_in (next + 1 + suc n - 60) ((kept ++ speed ∷ []) ++ replicate (suc n) speed))) (no-block kept seconds next speed h first)
          ∙ ap (λ (k : ℕ). blocks_of seconds ++ option_to_list (block_in (k - 60) ((kept ++ speed ∷ []) ++ replicate (suc n) speed))) end
          ∙ ap (λ (l : List ℕ). blocks_of seconds ++ option_to_list (block_in (next + suc (suc n) - 60) l)) kept_is,
    )

-- ---- when a block begins

pub time-behind : (o : Option Block) (time end : ℕ) → IfSome o (λ b. b.time ≡ time) → time + 60 ≡ end → IfSome o (λ b. b.time + 60 ≡ end)
time-behind None time end is at = tt
time-behind (Some b) time end is at = ap (λ (k : ℕ). k + 60) is ∙ at

-- ---- the speeds of a block are sixty

pub sixty-in : (o : Option Block) (time : ℕ) (kept : List ℕ) → o ≡ block_in time kept → IfSome o (λ b. length b.speeds ≡ 60)
sixty-in o time kept is = subst (λ (p : Option Block). IfSome p (λ b. length b.speeds ≡ 60)) (sym is) (by (length kept == 60) (is_moving kept) refl)
  where
    by : (whole moving : Bool) → (length kept == 60) ≡ whole → IfSome {T = Block} (cond (whole && moving) (Some (record { time = time; speeds = kept })) None) (λ b. length b.speeds ≡ 60)
    by true true sixty = eqb-true (length kept) 60 sixty
    by true false sixty = tt
    by false moving sixty = tt

-- ---- THE BLOCK OF A MINUTE, by what is kept of it

pub given-at : (n : ℕ) (kept : List ℕ) (seconds : List SpeedSecond) (next speed : ℕ) → 0 < n → next % 60 + n ≤ 60 → KeepsSpeedsOf kept seconds next →
    blocks_of (seconds ++ at_speed next n speed) ≡ blocks_of seconds ++ option_to_list (block_at kept next n speed)
given-at zero kept seconds next speed some le h = absurd (omega (arith, some))
given-at (suc n) kept seconds next speed some le h = by (nat_lt (next % 60 + suc n) 60) refl
  where
    by : (b : Bool) → nat_lt (next % 60 + suc n) 60 ≡ b →
        blocks_of (seconds ++ at_speed next (suc n) speed) ≡ blocks_of seconds ++ option_to_list (cond b None (block_in (next + suc n - 60) (kept ++ replicate (suc n) speed)))
    by true less = (grows (suc n) kept seconds next speed h (ltb-true (next % 60 + suc n) 60 less)).1 ∙ sym (append-nil (blocks_of seconds))
    by false more =
        let high = ltb-false (next % 60 + suc n) 60 more in
        (ends n kept seconds next speed h (omega (arith, le, high))).1

pub time-at : (n : ℕ) (kept : List ℕ) (next speed : ℕ) → next % 60 + n ≤ 60 → IfSome (block_at kept next n speed) (λ b. b.time + 60 ≡ next + n)
time-at n kept next speed le = by (nat_lt (next % 60 + n) 60) refl
  where
    at : 60 ≤ next % 60 + n → (whole moving : Bool) → IfSome {T = Block} (cond (whole && moving) (Some (record { time = next + n - 60; speeds = kept ++ replicate n speed })) None) (λ b. b.time + 60 ≡ next + n)
    at high true true = omega (arith, high)
    at high true false = tt
    at high false moving = tt

    by : (b : Bool) → nat_lt (next % 60 + n) 60 ≡ b → IfSome {T = Block} (cond b None (block_in (next + n - 60) (kept ++ replicate n speed))) (λ b. b.time + 60 ≡ next + n)
    by true less = tt
    by false more = at (ltb-false (next % 60 + n) 60 more) (length (kept ++ replicate n speed) == 60) (is_moving (kept ++ replicate n speed))
