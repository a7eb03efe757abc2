-- The driver's activities as one more second comes: which seconds keep theirs, and which get another.
use Rattle.std.proofs.Common.{◌≡◌, ◌∙◌, ℕ, ◌+◌, ◌-◌, ◌≤◌, Bool, true, false, ◌&&◌, ◌||◌, List, [], ◌∷◌, ◌++◌, length, take, replicate, refl, ap, sym, subst, arith, append_assoc, append-nil, length-append}
use Rattle.std.specs.Prelude.{nat_le, map, not}
use Rattle.std.specs.List.{list_any, AllByRecursion}
use Rattle.std.proofs.Math.Seq.{take-append-add}
use Rattle.std.proofs.lemmas.Bool.{leb-true, le-leb}
use Rattle.std.proofs.lemmas.List.{take_all, map-append, length-map}
use Rattle.std.proofs.lemmas.List.Folds.{list_any-append}
use Rattle.activity_codec.proofs.ByTest.{by_test}
use Rattle.activity_codec.specs.Activity.{is_rest_or_available}
use Rattle.activity_codec.specs.declared.values.Activity.{Activity}
use Rattle.activity_codec.specs.declared.values.Activity.TheVariants.{Work, Driving}
use Rattle.activity_codec.specs.declared.values.Slot.TheVariants.{Driver}
use Rattle.minute_model.specs.Second.{Second}
use Rattle.minute_model.specs.Activity.{driver_at, codriver_at}
use Rattle.minute_model.specs.Span.{AreNumbered}
use Rattle.minute_model.specs.Stops.{is_still, all_still, last_still, picks_for, driver_picks, waits, open_of, fixed_of}
use Rattle.minute_model.proofs.Bridge.{drivers-literal, codrivers-literal, driver-literal, each-literal, split-moved, last_still-still}
use Rattle.minute_model.proofs.Each.{settled_to, settled_last, drivers-same, drivers-settled, codrivers-more}
use Rattle.minute_model.proofs.EachSecond.{driver_between, codriver_between, each_second}
use Rattle.minute_model.proofs.Next.{EndsTheWait, and-true, or-false, picks-append, early-none, waits-same}
use Rattle.minute_model.proofs.Still.{all_still-append, last_still-append, last_still-cut}

-- the ends of one more second
pub all_still-more : (xs : List Second) (x : Second) → is_still x ≡ true → all_still (xs ++ x ∷ []) ≡ all_still xs
all_still-more xs x still = all_still-append xs (x ∷ []) ∙ rw still (and-one (all_still xs))
  where
    and-one : (b : Bool) → (b && true) ≡ b
    and-one true = refl
    and-one false = refl

pub all_still-moved : (xs : List Second) (x : Second) → is_still x ≡ false → all_still (xs ++ x ∷ []) ≡ false
all_still-moved xs x moving = all_still-append xs (x ∷ []) ∙ rw moving (and-none (all_still xs))
  where
    and-none : (b : Bool) → (b && false) ≡ false
    and-none true = refl
    and-none false = refl

pub last_still-more : (xs : List Second) (x : Second) → is_still x ≡ true → last_still (xs ++ x ∷ []) ≡ last_still xs ++ x ∷ []
last_still-more xs x still = last_still-append xs (x ∷ []) (rw still refl)

pub last_still-moved : (xs : List Second) (x : Second) → is_still x ≡ false → last_still (xs ++ x ∷ []) ≡ []
last_still-moved xs x moving = last_still-cut xs (x ∷ []) (rw moving refl) ∙ rw moving refl

early-more : (xs : List Second) (x : Second) → is_still x ≡ true → list_any is_rest_or_available (driver_picks (last_still (xs ++ x ∷ []))) ≡ (list_any is_rest_or_available (driver_picks (last_still xs)) || list_any is_rest_or_available (picks_for Driver x.picks))
early-more xs x still =
    rw (last_still-more xs x still, picks-append (last_still xs) (x ∷ []), append-nil (picks_for Driver x.picks)) (list_any-append is_rest_or_available (driver_picks (last_still xs)) (picks_for Driver x.picks))

length-more : (xs : List Second) (x : Second) → is_still x ≡ true → length (last_still (xs ++ x ∷ [])) ≡ length (last_still xs) + 1
length-more xs x still = rw (last_still-more xs x still) (length-append (last_still xs) (x ∷ []))

-- what waiting means
pub record Waiting (xs : List Second) : Type 0 where
  pub moved : all_still xs ≡ false
  pub open_ : list_any is_rest_or_available (driver_picks (last_still xs)) ≡ false
  pub near : length (last_still xs) ≤ 120

pub waits-is : (xs : List Second) → waits xs ≡ true → Waiting xs
waits-is xs h =
    let outer = and-true (not (all_still xs) && not (list_any is_rest_or_available (driver_picks (last_still xs)))) (nat_le (length (last_still xs)) 120) h in
    let inner = and-true (not (all_still xs)) (not (list_any is_rest_or_available (driver_picks (last_still xs)))) outer.0 in
    record {
      moved = not-true (all_still xs) inner.0;
      open_ = not-true (list_any is_rest_or_available (driver_picks (last_still xs))) inner.1;
      near = leb-true (length (last_still xs)) 120 outer.1;
    }
  where
    not-true : (b : Bool) → not b ≡ true → b ≡ false
    not-true true h = cc
    not-true false h = refl

pub waits-from : (xs : List Second) → Waiting xs → waits xs ≡ true
waits-from xs w = rw (w.moved, w.open_, le-leb (length (last_still xs)) 120 w.near) refl

-- the next second at speed 0 ends the wait exactly where rest or availability is selected in it
pub ends-wait : (xs : List Second) (x : Second) → waits xs ≡ true → is_still x ≡ true → list_any is_rest_or_available (picks_for Driver x.picks) ≡ true → EndsTheWait xs x
ends-wait xs x h still early = let w = waits-is xs h in record { still = still; moved = w.moved; near = w.near; open_ = w.open_; early = early }

pub ends-wait_not : (xs : List Second) (x : Second) → waits xs ≡ false → EndsTheWait xs x → ⊥
ends-wait_not xs x h e = let yes : waits xs ≡ true = waits-from xs (record { moved = e.moved; open_ = e.open_; near = e.near }) in cc

-- one more second at speed 0
pub waits-more : (xs : List Second) (x : Second) → waits xs ≡ true → is_still x ≡ true → list_any is_rest_or_available (picks_for Driver x.picks) ≡ false → waits (xs ++ x ∷ []) ≡ nat_le (length (last_still xs) + 1) 120
waits-more xs x h still late = let w = waits-is xs h in rw (all_still-more xs x still, w.moved, early-more xs x still, w.open_, late, length-more xs x still) refl

pub waits-early : (xs : List Second) (x : Second) → waits xs ≡ true → is_still x ≡ true → list_any is_rest_or_available (picks_for Driver x.picks) ≡ true → waits (xs ++ x ∷ []) ≡ false
waits-early xs x h still early = let w = waits-is xs h in rw (all_still-more xs x still, w.moved, early-more xs x still, w.open_, early) refl

pub waits-never : (xs : List Second) (x : Second) → waits xs ≡ false → is_still x ≡ true → waits (xs ++ x ∷ []) ≡ false
waits-never xs x h still =
    by_test (waits (xs ++ x ∷ []))
    (λ yes.
    let w = waits-is (xs ++ x ∷ []) yes in
    let none = or-false (list_any is_rest_or_available (driver_picks (last_still xs))) (list_any is_rest_or_available (picks_for Driver x.picks)) (sym (early-more xs x still) ∙ w.open_) in
    let near : length (last_still xs) ≤ 120 = omega (arith, w.near, length-more xs x still) in
    let before : waits xs ≡ true = waits-from xs (record { moved = sym (all_still-more xs x still) ∙ w.moved; open_ = none.0; near = near }) in
    cc)
    (λ no. no)

pub waits-moved : (xs : List Second) (x : Second) → is_still x ≡ false → waits (xs ++ x ∷ []) ≡ true
waits-moved xs x moving = rw (all_still-moved xs x moving, last_still-moved xs x moving) refl

-- the seconds up to the stop, and the open ones
pub waits-parts : (xs : List Second) → waits xs ≡ true → xs ≡ fixed_of xs ++ last_still xs
waits-parts xs h =
    let w = waits-is xs h in
    let s = split-moved xs w.moved in
    let front : List Second = s.0 ++ s.1 ∷ [] in
    let whole : xs ≡ front ++ last_still xs = s.3 ∙ sym (append_assoc s.0 (s.1 ∷ []) (last_still xs)) in
    let open_is : open_of xs ≡ last_still xs = rw h refl in
    let long : length xs - length (open_of xs) ≡ length front + 0 = omega (arith, ap length whole, length-append front (last_still xs), ap length open_is) in
    let fixed : fixed_of xs ≡ front = ap (λ (k : ℕ). take k xs) long ∙ ap (take (length front + 0)) whole ∙ take-append-add front (last_still xs) 0 ∙ append-nil front in
    whole ∙ ap (λ (ys : List Second). ys ++ last_still xs) (sym fixed)

pub open-none : (xs : List Second) → waits xs ≡ false → open_of xs ≡ []
open-none xs h = rw h refl

pub open-all : (xs : List Second) → waits xs ≡ true → open_of xs ≡ last_still xs
open-all xs h = rw h refl

pub fixed-all : (xs : List Second) → open_of xs ≡ [] → fixed_of xs ≡ xs
fixed-all xs none = let long : length xs ≤ length xs - length (open_of xs) = omega (arith, ap length none) in take_all (length xs - length (open_of xs)) xs long

pub parts : (xs : List Second) → xs ≡ fixed_of xs ++ open_of xs
parts xs =
    by_test (waits xs)
    (λ yes. waits-parts xs yes ∙ ap (λ (ys : List Second). fixed_of xs ++ ys) (sym (open-all xs yes)))
    (λ no. let none = open-none xs no in sym (ap (λ (ys : List Second). fixed_of xs ++ ys) none ∙ append-nil (fixed_of xs) ∙ fixed-all xs none))

-- two functions say the same of some seconds, or one says the same of all
abbrev pub Agree : (f g : Second → Activity) → List Second → Type 0
Agree f g xs = AllByRecursion (λ s. f s ≡ g s) xs

abbrev pub Constant : (f : Second → Activity) → Activity → List Second → Type 0
Constant f act xs = AllByRecursion (λ s. f s ≡ act) xs

agree-push : (f g : Second → Activity) (a b : Activity) (xs : List Second) → map f xs ++ a ∷ [] ≡ map g xs ++ b ∷ [] → Agree f g xs × (a ≡ b)
agree-push f g a b [] h = let e : a ≡ b = cc in (tt, e)
agree-push f g a b (x ∷ xs) h =
    let head : f x ≡ g x = cc in
    let tail : map f xs ++ a ∷ [] ≡ map g xs ++ b ∷ [] = cc in
    let rest = agree-push f g a b xs tail in
    ((head, rest.0), rest.1)

constant-push : (f : Second → Activity) (act a b : Activity) (xs : List Second) → map f xs ++ a ∷ [] ≡ replicate (length xs) act ++ b ∷ [] → Constant f act xs × (a ≡ b)
constant-push f act a b [] h = let e : a ≡ b = cc in (tt, e)
constant-push f act a b (x ∷ xs) h =
    let head : f x ≡ act = cc in
    let tail : map f xs ++ a ∷ [] ≡ replicate (length xs) act ++ b ∷ [] = cc in
    let rest = constant-push f act a b xs tail in
    ((head, rest.0), rest.1)

agree-parts : (f g : Second → Activity) (act a b : Activity) (xs ys : List Second) → map f (xs ++ ys) ++ a ∷ [] ≡ map g xs ++ (replicate (length ys) act ++ b ∷ []) → Agree f g xs × Constant f act ys × (a ≡ b)
agree-parts f g act a b [] ys h = let rest = constant-push f act a b ys h in (tt, rest.0, rest.1)
agree-parts f g act a b (x ∷ xs) ys h =
    let head : f x ≡ g x = cc in
    let tail : map f (xs ++ ys) ++ a ∷ [] ≡ map g xs ++ (replicate (length ys) act ++ b ∷ []) = cc in
    let rest = agree-parts f g act a b xs ys tail in
    ((head, rest.0), rest.1, rest.2)

constant-is : (f : Second → Activity) (act : Activity) (xs : List Second) → map f xs ≡ replicate (length xs) act → Constant f act xs
constant-is f act [] h = tt
constant-is f act (x ∷ xs) h =
    let head : f x ≡ act = cc in
    let tail : map f xs ≡ replicate (length xs) act = cc in
    (head, constant-is f act xs tail)

pub agree-front : (f g : Second → Activity) (xs ys : List Second) → Agree f g (xs ++ ys) → Agree f g xs × Agree f g ys
agree-front f g [] ys h = (tt, h)
agree-front f g (x ∷ xs) ys h = let rest = agree-front f g xs ys h.1 in ((h.0, rest.0), rest.1)

agree-constant : (f g : Second → Activity) (act : Activity) (xs : List Second) → Agree f g xs → Constant g act xs → Constant f act xs
agree-constant f g act [] h k = tt
agree-constant f g act (x ∷ xs) h k = (h.0 ∙ k.0, agree-constant f g act xs h.1 k.1)

-- the open seconds are WORK as long as nothing more is known
pub open-work : (n : ℕ) (xs : List Second) → AreNumbered n xs → waits xs ≡ true → Constant (driver_at xs) Work (last_still xs)
open-work n xs numbered h =
    let whole = waits-parts xs h in
    constant-is (driver_at xs) Work (last_still xs) (sym (each-literal driver_between driver_at n xs (driver-literal n) numbered (fixed_of xs) (last_still xs) (sym whole)) ∙ each-open (fixed_of xs) (last_still xs) (sym whole) (last_still-still xs))
  where
    w : Waiting xs
    w = waits-is xs h

    no-front : (a b : Bool) → (a && b) ≡ false → b ≡ true → a ≡ false
    no-front false b h e = refl
    no-front true b h e = cc

    one : (before after : List Second) (now : Second) → before ++ (now ∷ after) ≡ xs → all_still (now ∷ after) ≡ true → driver_between before now after ≡ Work
    one before after now is still =
        let both = and-true (is_still now) (all_still after) still in
        let moved : all_still before ≡ false = no-front (all_still before) (all_still (now ∷ after)) (sym (all_still-append before (now ∷ after)) ∙ ap all_still is ∙ w.moved) still in
        let split : xs ≡ (before ++ now ∷ []) ++ after = sym is ∙ sym (append_assoc before (now ∷ []) after) in
        let end : last_still xs ≡ last_still (before ++ now ∷ []) ++ after = ap last_still split ∙ last_still-append (before ++ now ∷ []) after both.1 in
        let none = or-false (list_any is_rest_or_available (driver_picks (last_still (before ++ now ∷ [])))) (list_any is_rest_or_available (driver_picks after)) (sym (ap (λ (ys : List Second). list_any is_rest_or_available (driver_picks ys)) end ∙ ap (list_any is_rest_or_available) (picks-append (last_still (before ++ now ∷ [])) after) ∙ list_any-append is_rest_or_available (driver_picks (last_still (before ++ now ∷ []))) (driver_picks after)) ∙ w.open_) in
        let near : length (last_still (before ++ now ∷ [])) + length after ≤ 120 = omega (arith, ap length end, length-append (last_still (before ++ now ∷ [])) after, w.near) in
        rw (both.0, moved) (waits-same (last_still (before ++ now ∷ [])) after both.1 near none.0 ∙ early-none (driver_picks after) none.1)

    each-open : (before after : List Second) → before ++ after ≡ xs → all_still after ≡ true → each_second driver_between before after ≡ replicate (length after) Work
    each-open before [] is still = refl
    each-open before (now ∷ after) is still =
        let both = and-true (is_still now) (all_still after) still in
        rw (one before after now is still, each-open (before ++ now ∷ []) after (append_assoc before (now ∷ []) after ∙ is) both.1) refl

-- One more second closes the open ones: the others keep their activity, these get one, and it has one.
pub record Closes (xs : List Second) (x : Second) (act last : Activity) : Type 0 where
  pub none_open : open_of (xs ++ x ∷ []) ≡ []
  pub same : Agree (driver_at (xs ++ x ∷ [])) (driver_at xs) (fixed_of xs)
  pub now : Constant (driver_at (xs ++ x ∷ [])) act (open_of xs)
  pub here : driver_at (xs ++ x ∷ []) x ≡ last

-- One more second is open too.
pub record Opens (xs : List Second) (x : Second) : Type 0 where
  pub more_open : open_of (xs ++ x ∷ []) ≡ open_of xs ++ x ∷ []
  pub same : Agree (driver_at (xs ++ x ∷ [])) (driver_at xs) (fixed_of xs)

-- a second that does not end the wait
kept-all : (n : ℕ) (xs : List Second) (x : Second) → AreNumbered n (xs ++ x ∷ []) → AreNumbered n xs → (EndsTheWait xs x → ⊥) → Agree (driver_at (xs ++ x ∷ [])) (driver_at xs) xs × (driver_at (xs ++ x ∷ []) x ≡ driver_between xs x [])
kept-all n xs x more numbered ends_not =
    agree-push (driver_at (xs ++ x ∷ [])) (driver_at xs) (driver_at (xs ++ x ∷ []) x) (driver_between xs x []) xs
    (sym (map-append (driver_at (xs ++ x ∷ [])) xs (x ∷ [])) ∙ sym (drivers-literal n (xs ++ x ∷ []) more) ∙ drivers-same xs x ends_not ∙ ap (λ (acts : List Activity). acts ++ driver_between xs x [] ∷ []) (drivers-literal n xs numbered))

kept-open : (n : ℕ) (xs : List Second) (x : Second) → AreNumbered n xs → Agree (driver_at (xs ++ x ∷ [])) (driver_at xs) xs → Agree (driver_at (xs ++ x ∷ [])) (driver_at xs) (fixed_of xs) × Constant (driver_at (xs ++ x ∷ [])) Work (open_of xs)
kept-open n xs x numbered agree =
    let split = agree-front (driver_at (xs ++ x ∷ [])) (driver_at xs) (fixed_of xs) (open_of xs) (subst (Agree (driver_at (xs ++ x ∷ [])) (driver_at xs)) (parts xs) agree) in (
      split.0,
      by_test (waits xs)
          (λ yes. agree-constant (driver_at (xs ++ x ∷ [])) (driver_at xs) Work (open_of xs) split.1 (rw (open-all xs yes) (open-work n xs numbered yes)))
          (λ no. rw (open-none xs no) tt),
    )

pub closes-moving : (n : ℕ) (xs : List Second) (x : Second) → AreNumbered n (xs ++ x ∷ []) → AreNumbered n xs → is_still x ≡ false → Closes xs x Work Driving
closes-moving n xs x more numbered moving =
    let k = kept-all n xs x more numbered (λ e. let a = e.still in let b = moving in cc) in
    let o = kept-open n xs x numbered k.0 in
    record { none_open = open-all (xs ++ x ∷ []) (waits-moved xs x moving) ∙ last_still-moved xs x moving; same = o.0; now = o.1; here = k.1 ∙ rw moving refl }

-- a second at speed 0 that nothing waits for, or behind the 120th second after the stop
pub closes-still : (n : ℕ) (xs : List Second) (x : Second) → AreNumbered n (xs ++ x ∷ []) → AreNumbered n xs → (EndsTheWait xs x → ⊥) → waits (xs ++ x ∷ []) ≡ false → Closes xs x Work (driver_between xs x [])
closes-still n xs x more numbered ends_not over =
    let k = kept-all n xs x more numbered ends_not in
    let o = kept-open n xs x numbered k.0 in
    record { none_open = open-none (xs ++ x ∷ []) over; same = o.0; now = o.1; here = k.1 }

pub opens-still : (n : ℕ) (xs : List Second) (x : Second) → AreNumbered n (xs ++ x ∷ []) → AreNumbered n xs → is_still x ≡ true → (EndsTheWait xs x → ⊥) → waits xs ≡ true → waits (xs ++ x ∷ []) ≡ true → Opens xs x
opens-still n xs x more numbered still ends_not before after =
    let k = kept-all n xs x more numbered ends_not in
    let o = kept-open n xs x numbered k.0 in
    record { more_open = open-all (xs ++ x ∷ []) after ∙ last_still-more xs x still ∙ ap (λ (ys : List Second). ys ++ x ∷ []) (sym (open-all xs before)); same = o.0 }

-- the first rest or availability closes them with its activity
pub closes-early : (n : ℕ) (xs : List Second) (x : Second) → AreNumbered n (xs ++ x ∷ []) → AreNumbered n xs → EndsTheWait xs x → waits xs ≡ true → Closes xs x (settled_to x) (driver_between xs x [])
closes-early n xs x more numbered ends before =
    let d' = driver_at (xs ++ x ∷ []) in
    let d = driver_at xs in
    let whole = waits-parts xs before in
    let l : List Second = last_still xs in
    let f : List Second = fixed_of xs in
    let p : Activity = settled_to x in
    let now : Activity = driver_between xs x [] in
    let long : length (map d xs) - length l ≡ length (map d f) + 0 = omega (arith, length-map xs d, length-map f d, ap length whole, length-append f l) in
    let front : take (length (map d xs) - length l) (map d xs) ≡ map d f =
    ap (λ (k : ℕ). take k (map d xs)) long ∙ ap (take (length (map d f) + 0)) (ap (map d) whole ∙ map-append d f l) ∙ take-append-add (map d f) (map d l) 0 ∙ append-nil (map d f) in
    let list : map d' (f ++ l) ++ d' x ∷ [] ≡ map d f ++ (replicate (length l) p ++ now ∷ []) =
    ap (λ (ys : List Second). map d' ys ++ d' x ∷ []) (sym whole) ∙ sym (map-append d' xs (x ∷ [])) ∙ sym (drivers-literal n (xs ++ x ∷ []) more) ∙ drivers-settled xs x ends
    ∙ ap (λ (acts : List Activity). settled_last (length l) p acts ++ now ∷ []) (drivers-literal n xs numbered)
    ∙ ap (λ (acts : List Activity). (acts ++ replicate (length l) p) ++ now ∷ []) front
    ∙ append_assoc (map d f) (replicate (length l) p) (now ∷ []) in
    let all = agree-parts d' d p (d' x) now f l list in
    record {
      none_open = open-none (xs ++ x ∷ []) (waits-early xs x before ends.still ends.early);
      same = all.0;
      now = rw (open-all xs before) all.1;
      here = all.2;
    }

-- the co-driver's activities only grow
pub codriver-grown : (n : ℕ) (xs : List Second) (x : Second) → AreNumbered n (xs ++ x ∷ []) → AreNumbered n xs → Agree (codriver_at (xs ++ x ∷ [])) (codriver_at xs) xs × (codriver_at (xs ++ x ∷ []) x ≡ codriver_between xs x [])
codriver-grown n xs x more numbered =
    agree-push (codriver_at (xs ++ x ∷ [])) (codriver_at xs) (codriver_at (xs ++ x ∷ []) x) (codriver_between xs x []) xs
    (sym (map-append (codriver_at (xs ++ x ∷ [])) xs (x ∷ [])) ∙ sym (codrivers-literal n (xs ++ x ∷ []) more) ∙ codrivers-more xs x ∙ ap (λ (acts : List Activity). acts ++ codriver_between xs x [] ∷ []) (codrivers-literal n xs numbered))
