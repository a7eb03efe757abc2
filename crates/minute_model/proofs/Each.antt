-- The driver's activity in each second, as one more second comes.
use Rattle.std.proofs.Common.{◌≡◌, ◌∙◌, ℕ, suc, ◌+◌, ◌-◌, ◌≤◌, Bool, true, false, cond, ◌&&◌, List, [], ◌∷◌, ◌++◌, length, take, replicate, refl, ap, sym, arith, append_assoc, length-append, append-nil, inl, inr}
use Rattle.std.specs.Prelude.{filter, ◌⊎◌, nat_le}
use Rattle.std.proofs.lemmas.Bool.{leb-true, leb-false}
use Rattle.std.specs.List.{list_any}
use Rattle.std.proofs.lemmas.List.Folds.{list_any-append}
use Rattle.std.proofs.Math.Seq.{take-nil}
use Rattle.activity_codec.proofs.ByTest.{by_test}
use Rattle.activity_codec.specs.Activity.{is_rest_or_available}
use Rattle.activity_codec.specs.declared.values.Activity.{Activity}
use Rattle.activity_codec.specs.declared.values.Activity.TheVariants.{Rest, Work}
use Rattle.minute_model.specs.Second.{Second}
use Rattle.minute_model.specs.Stops.{picks_for}
use Rattle.activity_codec.specs.declared.values.Slot.TheVariants.{Driver}
use Rattle.minute_model.specs.Stops.{is_still, all_still, last_still, driver_picks}
use Rattle.minute_model.specs.Stops.{last_pick}
use Rattle.minute_model.proofs.EachSecond.{first_pick, driver_after_stop, driver_between, codriver_between, each_second, drivers, codrivers}
use Rattle.minute_model.proofs.Still.{all_still-append, last_still-all, last_still-append}
use Rattle.minute_model.proofs.Picked.{last_pick-work}
use Rattle.minute_model.proofs.Next.{EndsTheWait, after_stop-later, after_stop-cut, picks-append, or-false, and-true, early-first, early-second, early-none, waits-over, waits-same, waits-over_not, waits-moving}

near_or_far : (n : ℕ) → (n ≤ 120) ⊎ (121 ≤ n)
near_or_far n = by_test (nat_le n 120) (λ near. inl (leb-true n 120 near)) (λ far. inr (leb-false n 120 far))

-- a second that waits, and what comes behind it: only a second that settles the stop changes it
waiting-same : (before after : List Second) (now x : Second) → is_still now ≡ true → all_still before ≡ false → list_any is_rest_or_available (driver_picks (last_still (before ++ now ∷ []))) ≡ false → all_still after ≡ true → is_still x ≡ true → (EndsTheWait (before ++ now ∷ after) x → ⊥) → driver_after_stop (last_still (before ++ now ∷ [])) (after ++ x ∷ []) ≡ driver_after_stop (last_still (before ++ now ∷ [])) after
waiting-same before after now x now_still moved none after_still x_still settles_not =
    let since : List Second = last_still (before ++ now ∷ []) in
    elim (near_or_far (length since + length after)) [
      | inl near ↦
          by_test (list_any is_rest_or_available (driver_picks after))
          (λ some. waits-over since after x after_still x_still near none ∙ early-first (driver_picks after) (driver_picks (x ∷ [])) some ∙ sym (waits-same since after after_still near none))
          (λ none_after.
          waits-over since after x after_still x_still near none ∙ early-second (driver_picks after) (driver_picks (x ∷ [])) none_after ∙ by_test (list_any is_rest_or_available (driver_picks (x ∷ [])))
          (λ early. absurd (settles_not (settles near none_after early)))
          (λ none_now. early-none (driver_picks (x ∷ [])) none_now) ∙ sym (early-none (driver_picks after) none_after) ∙ sym (waits-same since after after_still near none))
      | inr far ↦ waits-over_not since after x after_still far
    ]
  where
    settles : length (last_still (before ++ now ∷ [])) + length after ≤ 120 → list_any is_rest_or_available (driver_picks after) ≡ false → list_any is_rest_or_available (driver_picks (x ∷ [])) ≡ true → EndsTheWait (before ++ now ∷ after) x
    settles near none_after early =
        let split : before ++ now ∷ after ≡ (before ++ now ∷ []) ++ after = sym (append_assoc before (now ∷ []) after) in
        let end : last_still (before ++ now ∷ after) ≡ last_still (before ++ now ∷ []) ++ after = ap last_still split ∙ last_still-append (before ++ now ∷ []) after after_still in
        record {
          still = x_still;
          moved = all_still-append before (now ∷ after) ∙ rw moved refl;
          near = rw (end, length-append (last_still (before ++ now ∷ [])) after) near;
          open_ = rw (end, picks-append (last_still (before ++ now ∷ [])) after, list_any-append is_rest_or_available (driver_picks (last_still (before ++ now ∷ []))) (driver_picks after), none) none_after;
          early = rw (append-nil (picks_for Driver x.picks)) at early;
        }

-- a second's activity stays, unless the next second settles the stop
pub driver_between-same : (before after : List Second) (now x : Second) → (EndsTheWait (before ++ now ∷ after) x → ⊥) → driver_between before now (after ++ x ∷ []) ≡ driver_between before now after
driver_between-same before after now x settles_not =
    by_test (is_still now)
    (λ now_still. rw now_still (
    by_test (all_still before)
    (λ unmoved. rw unmoved refl)
    (λ moved. rw moved (
    by_test (list_any is_rest_or_available (driver_picks (last_still (before ++ now ∷ []))))
    (λ some. after_stop-later (last_still (before ++ now ∷ [])) after x some)
    (λ none. by_test (all_still after)
    (λ after_still. by_test (is_still x)
    (λ x_still. waiting-same before after now x now_still moved none after_still x_still settles_not)
    (λ x_moving. waits-moving (last_still (before ++ now ∷ [])) after x after_still x_moving))
    (λ after_moves. after_stop-cut (last_still (before ++ now ∷ [])) after x after_moves))))))
    (λ now_moving. rw now_moving refl)

-- the driver's activity in the last second
pub driver_between-last : (before : List Second) (now : Second) → is_still now ≡ true → driver_between before now [] ≡ last_pick (cond (all_still before) Rest Work) (driver_picks (last_still before ++ now ∷ []))
driver_between-last before now still =
    rw still (
    by_test (all_still before)
    (λ unmoved. rw (unmoved, last_still-all before unmoved) refl)
    (λ moved. rw (moved, last_still-append before (now ∷ []) (rw still refl)) (
    by_test (list_any is_rest_or_available (driver_picks (last_still before ++ now ∷ [])))
    (λ some. rw some refl)
    (λ none. rw (none, take-nil {A = Second} (121 - length (last_still before ++ now ∷ []))) (sym (last_pick-work (driver_picks (last_still before ++ now ∷ [])) none))))))

-- what the stop is settled to
abbrev pub settled_to : Second → Activity
settled_to x = first_pick Work (filter is_rest_or_available (picks_for Driver x.picks))

-- Where the next second settles the stop, a second since the stop gets its selection.
pub driver_between-settled : (before after : List Second) (now x : Second) → EndsTheWait (before ++ now ∷ after) x → all_still (now ∷ after) ≡ true → driver_between before now (after ++ x ∷ []) ≡ settled_to x
driver_between-settled before after now x s still =
    let split : before ++ now ∷ after ≡ (before ++ now ∷ []) ++ after = sym (append_assoc before (now ∷ []) after) in
    let both = and-true (is_still now) (all_still after) still in
    let moved : all_still before ≡ false = no-front (all_still before) (all_still (now ∷ after)) (sym (all_still-append before (now ∷ after)) ∙ s.moved) still in
    let end : last_still (before ++ now ∷ after) ≡ last_still (before ++ now ∷ []) ++ after = ap last_still split ∙ last_still-append (before ++ now ∷ []) after both.1 in
    let picks : driver_picks (last_still (before ++ now ∷ after)) ≡ driver_picks (last_still (before ++ now ∷ [])) ++ driver_picks after = ap driver_picks end ∙ picks-append (last_still (before ++ now ∷ [])) after in
    let none = or-false (list_any is_rest_or_available (driver_picks (last_still (before ++ now ∷ [])))) (list_any is_rest_or_available (driver_picks after)) (sym (ap (list_any is_rest_or_available) picks ∙ list_any-append is_rest_or_available (driver_picks (last_still (before ++ now ∷ []))) (driver_picks after)) ∙ s.open_) in
    let near : length (last_still (before ++ now ∷ [])) + length after ≤ 120 = rw (end, length-append (last_still (before ++ now ∷ [])) after) at s.near in
    rw (both.0, moved) (waits-over (last_still (before ++ now ∷ [])) after x both.1 s.still near none.0 ∙ early-second (driver_picks after) (driver_picks (x ∷ [])) none.1 ∙ rw (append-nil (picks_for Driver x.picks)) refl)
  where
    no-front : (a b : Bool) → (a && b) ≡ false → b ≡ true → a ≡ false
    no-front false b h e = refl
    no-front true b h e = cc

-- A second before the stop keeps its activity.
pub driver_between-before : (before after : List Second) (now x : Second) → all_still (now ∷ after) ≡ false → driver_between before now (after ++ x ∷ []) ≡ driver_between before now after
driver_between-before before after now x moves =
    by_test (is_still now)
    (λ now_still. rw now_still (
    by_test (all_still before)
    (λ unmoved. rw unmoved refl)
    (λ moved. rw moved (after_stop-cut (last_still (before ++ now ∷ [])) after x (rw now_still at moves)))))
    (λ now_moving. rw now_moving refl)

-- One more second that doesn't settle a stop: the activities so far stay.
pub each-same : (xs : List Second) (x : Second) → (EndsTheWait xs x → ⊥) → (before after : List Second) → before ++ after ≡ xs → each_second driver_between before (after ++ x ∷ []) ≡ each_second driver_between before after ++ driver_between xs x [] ∷ []
each-same xs x settles_not before [] is = let e : before ≡ xs = sym (append-nil before) ∙ is in rw e refl
each-same xs x settles_not before (now ∷ after) is =
    let head : driver_between before now (after ++ x ∷ []) ≡ driver_between before now after = driver_between-same before after now x (rw (← is) at settles_not) in
    let tail = each-same xs x settles_not (before ++ now ∷ []) after (append_assoc before (now ∷ []) after ∙ is) in
    rw (head, tail) refl

pub length-each : (at : List Second → Second → List Second → Activity) (before after : List Second) → length (each_second at before after) ≡ length after
length-each at before [] = refl
length-each at before (now ∷ after) = ap suc (length-each at (before ++ now ∷ []) after)

pub length-last_still : (xs : List Second) → length (last_still xs) ≤ length xs
length-last_still [] = omega arith
length-last_still (x ∷ xs) =
    by_test (all_still (x ∷ xs))
    (λ still. rw still (omega arith))
    (λ moved. rw moved (omega (arith, length-last_still xs)))

-- the activities with this one in the last n seconds
abbrev pub settled_last : ℕ → Activity → List Activity → List Activity
settled_last n act acts = take (length acts - n) acts ++ replicate n act

settled_last-more : (n : ℕ) (act first : Activity) (acts : List Activity) → n ≤ length acts → settled_last n act (first ∷ acts) ≡ first ∷ settled_last n act acts
settled_last-more n act first acts le =
    let m : suc (length acts) - n ≡ suc (length acts - n) = omega arith in
    rw m refl

settled_last-all : (n : ℕ) (act : Activity) (acts : List Activity) → n ≡ length acts → settled_last n act acts ≡ replicate n act
settled_last-all n act acts e =
    let zero_left : length acts - n ≡ 0 = omega arith in
    rw zero_left refl

-- One more second that settles a stop: the seconds since the stop get its selection.
pub each-settled : (xs : List Second) (x : Second) → EndsTheWait xs x → (before after : List Second) → before ++ after ≡ xs → each_second driver_between before (after ++ x ∷ []) ≡ settled_last (length (last_still after)) (settled_to x) (each_second driver_between before after) ++ driver_between xs x [] ∷ []
each-settled xs x settles before [] is = let e : before ≡ xs = sym (append-nil before) ∙ is in rw e refl
each-settled xs x settles before (now ∷ after) is =
    let tail = each-settled xs x settles (before ++ now ∷ []) after (append_assoc before (now ∷ []) after ∙ is) in
    let here : EndsTheWait (before ++ now ∷ after) x = rw is settles in
    by_test (all_still (now ∷ after))
    (λ still.
    let head : driver_between before now (after ++ x ∷ []) ≡ settled_to x = driver_between-settled before after now x here still in
    let rest : last_still after ≡ after = last_still-all after (and-true (is_still now) (all_still after) still).1 in
    let tail' : each_second driver_between (before ++ now ∷ []) (after ++ x ∷ []) ≡ replicate (length after) (settled_to x) ++ driver_between xs x [] ∷ [] = tail ∙ rw (rest, settled_last-all (length after) (settled_to x) (each_second driver_between (before ++ now ∷ []) after) (sym (length-each driver_between (before ++ now ∷ []) after))) refl in
    rw (head, tail', still, settled_last-all (suc (length after)) (settled_to x) (each_second driver_between before (now ∷ after)) (sym (length-each driver_between before (now ∷ after)))) refl)
    (λ moves.
    let head : driver_between before now (after ++ x ∷ []) ≡ driver_between before now after = driver_between-before before after now x moves in
    let le : length (last_still after) ≤ length (each_second driver_between (before ++ now ∷ []) after) = rw (length-each driver_between (before ++ now ∷ []) after) (length-last_still after) in
    rw (head, tail, moves, settled_last-more (length (last_still after)) (settled_to x) (driver_between before now after) (each_second driver_between (before ++ now ∷ []) after) le) refl)

pub drivers-same : (xs : List Second) (x : Second) → (EndsTheWait xs x → ⊥) → drivers (xs ++ x ∷ []) ≡ drivers xs ++ driver_between xs x [] ∷ []
drivers-same xs x settles_not = each-same xs x settles_not [] xs refl

pub drivers-settled : (xs : List Second) (x : Second) → EndsTheWait xs x → drivers (xs ++ x ∷ []) ≡ settled_last (length (last_still xs)) (settled_to x) (drivers xs) ++ driver_between xs x [] ∷ []
drivers-settled xs x settles = each-settled xs x settles [] xs refl

-- the co-driver's activities only grow
each_codriver-more : (before after : List Second) (x : Second) → each_second codriver_between before (after ++ x ∷ []) ≡ each_second codriver_between before after ++ codriver_between (before ++ after) x [] ∷ []
each_codriver-more before [] x = rw (append-nil before) refl
each_codriver-more before (now ∷ after) x =
    rw (each_codriver-more (before ++ now ∷ []) after x, append_assoc before (now ∷ []) after) refl

pub codrivers-more : (xs : List Second) (x : Second) → codrivers (xs ++ x ∷ []) ≡ codrivers xs ++ codriver_between xs x [] ∷ []
codrivers-more xs x = each_codriver-more [] xs x
