-- What is counted of a minute as one more second comes.
use Rattle.std.proofs.Common.{◌≡◌, ◌∙◌, ℕ, ◌+◌, ◌-◌, ◌*◌, ◌<◌, ◌≤◌, Bool, true, false, ◌||◌, List, [], ◌∷◌, ◌++◌, length, take, replicate, refl, ap, sym, arith, append-nil, length-append}
use Rattle.std.specs.Prelude.{nat_eq, nat_le, map, filter, sum_by}
use Rattle.std.specs.List.{list_any, AllByRecursion}
use Rattle.std.proofs.lemmas.Bool.{eqb-true, eq-eqb, ne_eqb, le-leb, lt-leb}
use Rattle.std.proofs.lemmas.List.{take-append-le, map-append}
use Rattle.std.proofs.lemmas.List.Elements.{filter-append}
use Rattle.std.proofs.lemmas.List.Folds.{list_any-append}
use Rattle.std.proofs.lemmas.List.Sums.{sum_by_push}
use Rattle.activity_codec.proofs.ByTest.{by_test}
use Rattle.activity_codec.specs.declared.values.Activity.{Activity}
use Rattle.activity_codec.specs.declared.values.Activity.TheVariants.{Available, Driving}
use Rattle.minute_model.specs.Second.{Second, is_moving, minute_of}
use Rattle.minute_model.specs.Activity.{driver_at, codriver_at}
use Rattle.minute_model.specs.Minute.{in_minute, drives_in, travelled_to}
use Rattle.minute_model.specs.Span.{AreNumbered}
use Rattle.minute_model.specs.Stops.{is_still, open_of, fixed_of}
use Rattle.minute_model.proofs.EachSecond.{codriver_between}
use Rattle.minute_model.proofs.Grown.{Agree, Constant, Closes, Opens, parts, fixed-all, codriver-grown}
use Rattle.minute_model.proofs.Ranges.{still-moves_not, moves-still_not}
use Rattle.minute_rules.specs.declared.counted.Counted.{Counted}
use Rattle.minute_rules.specs.declared.tally.Tally.{Tally}
use Rattle.minute_rules.specs.Tally.{with_run, tally_from, tally_of}
use Rattle.minute_rules.specs.Counted.{counted_of, closed, opened, with_driver, with_codriver, moved}
use Rattle.minute_rules.proofs.Tallies.{tally-append, tally-replicate}

-- the parts of a minute's counts
pub whole_counted : (a b : Tally) (m n : ℕ) (d e : Bool) (f g : Tally) (p q : ℕ) → a ≡ b → m ≡ n → d ≡ e → f ≡ g → p ≡ q → ◌≡◌ {A = Counted} (record { driver = a; open_seconds = m; drives = d; codriver = f; travelled = p }) (record { driver = b; open_seconds = n; drives = e; codriver = g; travelled = q })
whole_counted a b m n d e f g p q h i j k l = rw (h, i, j, k, l) refl

pub all-filtered : {X : Type 0} (P : X → Type 0) (q : X → Bool) (xs : List X) → AllByRecursion P xs → AllByRecursion P (filter q xs)
all-filtered P q [] h = tt
all-filtered P q (x ∷ xs) h =
    let rest = all-filtered P q xs h.1 in
    by_test (q x) (λ yes. rw yes (h.0, rest)) (λ no. rw no rest)

map-agree : (f g : Second → Activity) (xs : List Second) → Agree f g xs → map f xs ≡ map g xs
map-agree f g [] h = refl
map-agree f g (x ∷ xs) h = rw (h.0, map-agree f g xs h.1) refl

pub map-constant : (f : Second → Activity) (act : Activity) (xs : List Second) → Constant f act xs → map f xs ≡ replicate (length xs) act
map-constant f act [] h = refl
map-constant f act (x ∷ xs) h = rw (h.0, map-constant f act xs h.1) refl

-- a second in its own minute, and in one before it
mine : (x : Second) (k : ℕ) → minute_of x ≡ k → in_minute k (x ∷ []) ≡ x ∷ []
mine x k is = rw (eq-eqb (minute_of x) k is) refl

earlier : (x : Second) (k : ℕ) → k < minute_of x → in_minute k (x ∷ []) ≡ []
earlier x k lt = rw (ne_eqb (minute_of x) k (λ e. omega (arith, e, lt))) refl

-- the seconds of a minute among some and one more
pub minute-parts : (k : ℕ) (xs ys : List Second) → in_minute k (xs ++ ys) ≡ in_minute k xs ++ in_minute k ys
minute-parts k xs ys = filter-append (λ (s : Second). nat_eq (minute_of s) k) xs ys

minute-earlier : (k : ℕ) (xs : List Second) (x : Second) → k < minute_of x → in_minute k (xs ++ x ∷ []) ≡ in_minute k xs
minute-earlier k xs x lt = minute-parts k xs (x ∷ []) ∙ ap (λ (ys : List Second). in_minute k xs ++ ys) (earlier x k lt) ∙ append-nil (in_minute k xs)

minute-mine : (k : ℕ) (xs : List Second) (x : Second) → minute_of x ≡ k → in_minute k (xs ++ x ∷ []) ≡ in_minute k xs ++ x ∷ []
minute-mine k xs x is = minute-parts k xs (x ∷ []) ∙ ap (λ (ys : List Second). in_minute k xs ++ ys) (mine x k is)

-- the driver's tally, where the open seconds are closed
closes-driver : (xs : List Second) (x : Second) (act last : Activity) → Closes xs x act last → (k : ℕ) → tally_of (map (driver_at (xs ++ x ∷ [])) (in_minute k (fixed_of (xs ++ x ∷ [])))) ≡ tally_from (with_run (counted_of xs k).driver act (counted_of xs k).open_seconds) (map (driver_at (xs ++ x ∷ [])) (in_minute k (x ∷ [])))
closes-driver xs x act last c k =
    let d' = driver_at (xs ++ x ∷ []) in
    let d = driver_at xs in
    let f : List Second = in_minute k (fixed_of xs) in
    let o : List Second = in_minute k (open_of xs) in
    let whole : in_minute k (fixed_of (xs ++ x ∷ [])) ≡ (f ++ o) ++ in_minute k (x ∷ []) =
    ap (in_minute k) (fixed-all (xs ++ x ∷ []) c.none_open) ∙ minute-parts k xs (x ∷ []) ∙ ap (λ (ys : List Second). ys ++ in_minute k (x ∷ [])) (ap (in_minute k) (parts xs) ∙ minute-parts k (fixed_of xs) (open_of xs)) in
    let same : map d' f ≡ map d f = map-agree d' d f (all-filtered (λ (s : Second). d' s ≡ d s) (λ (s : Second). nat_eq (minute_of s) k) (fixed_of xs) c.same) in
    let now : map d' o ≡ replicate (length o) act = map-constant d' act o (all-filtered (λ (s : Second). d' s ≡ act) (λ (s : Second). nat_eq (minute_of s) k) (open_of xs) c.now) in
    ap (λ (ys : List Second). tally_of (map d' ys)) whole
    ∙ ap tally_of (map-append d' (f ++ o) (in_minute k (x ∷ [])) ∙ ap (λ (acts : List Activity). acts ++ map d' (in_minute k (x ∷ []))) (map-append d' f o ∙ ap (λ (acts : List Activity). acts ++ map d' o) same ∙ ap (λ (acts : List Activity). map d f ++ acts) now))
    ∙ tally-append _ (map d f ++ replicate (length o) act) (map d' (in_minute k (x ∷ [])))
    ∙ ap (λ (t : Tally). tally_from t (map d' (in_minute k (x ∷ [])))) (tally-append _ (map d f) (replicate (length o) act) ∙ tally-replicate (tally_of (map d f)) act (length o))

-- the co-driver's
codriver-past : (n : ℕ) (xs : List Second) (x : Second) → AreNumbered n (xs ++ x ∷ []) → AreNumbered n xs → (k : ℕ) → tally_of (map (codriver_at (xs ++ x ∷ [])) (in_minute k xs)) ≡ tally_of (map (codriver_at xs) (in_minute k xs))
codriver-past n xs x more numbered k =
    ap tally_of (map-agree (codriver_at (xs ++ x ∷ [])) (codriver_at xs) (in_minute k xs) (all-filtered (λ (s : Second). codriver_at (xs ++ x ∷ []) s ≡ codriver_at xs s) (λ (s : Second). nat_eq (minute_of s) k) xs (codriver-grown n xs x more numbered).0))

codriver-earlier : (n : ℕ) (xs : List Second) (x : Second) → AreNumbered n (xs ++ x ∷ []) → AreNumbered n xs → (k : ℕ) → k < minute_of x → (counted_of (xs ++ x ∷ []) k).codriver ≡ (counted_of xs k).codriver
codriver-earlier n xs x more numbered k lt = ap (λ (ys : List Second). tally_of (map (codriver_at (xs ++ x ∷ [])) ys)) (minute-earlier k xs x lt) ∙ codriver-past n xs x more numbered k

codriver-mine : (n : ℕ) (xs : List Second) (x : Second) → AreNumbered n (xs ++ x ∷ []) → AreNumbered n xs → (k : ℕ) → minute_of x ≡ k → (counted_of (xs ++ x ∷ []) k).codriver ≡ with_run (counted_of xs k).codriver (codriver_between xs x []) 1
codriver-mine n xs x more numbered k is =
    let c' = codriver_at (xs ++ x ∷ []) in
    ap (λ (ys : List Second). tally_of (map c' ys)) (minute-mine k xs x is)
    ∙ ap tally_of (map-append c' (in_minute k xs) (x ∷ []))
    ∙ tally-append _ (map c' (in_minute k xs)) (c' x ∷ [])
    ∙ ap (λ (t : Tally). with_run t (c' x) 1) (codriver-past n xs x more numbered k)
    ∙ ap (λ (a : Activity). with_run (counted_of xs k).codriver a 1) (codriver-grown n xs x more numbered).1

-- motion
drives-earlier : (xs : List Second) (x : Second) (k : ℕ) → k < minute_of x → drives_in (xs ++ x ∷ []) k ≡ drives_in xs k
drives-earlier xs x k lt = ap (list_any is_moving) (minute-earlier k xs x lt)

drives-still : (xs : List Second) (x : Second) (k : ℕ) → minute_of x ≡ k → is_still x ≡ true → drives_in (xs ++ x ∷ []) k ≡ drives_in xs k
drives-still xs x k is still = ap (list_any is_moving) (minute-mine k xs x is) ∙ list_any-append is_moving (in_minute k xs) (x ∷ []) ∙ rw (still-moves_not x still) (or-none (drives_in xs k))
  where
    or-none : (b : Bool) → (b || false) ≡ b
    or-none true = refl
    or-none false = refl

drives-moving : (xs : List Second) (x : Second) (k : ℕ) → minute_of x ≡ k → is_still x ≡ false → drives_in (xs ++ x ∷ []) k ≡ true
drives-moving xs x k is moving = ap (list_any is_moving) (minute-mine k xs x is) ∙ list_any-append is_moving (in_minute k xs) (x ∷ []) ∙ rw (moves-still_not x moving) (or-one (drives_in xs k))
  where
    or-one : (b : Bool) → (b || true) ≡ true
    or-one true = refl
    or-one false = refl

-- the sum of the speeds
travelled-earlier : (xs : List Second) (x : Second) (k : ℕ) → k < minute_of x → travelled_to (xs ++ x ∷ []) k ≡ travelled_to xs k
travelled-earlier xs x k lt =
    let none : filter (λ (s : Second). nat_le (minute_of s) k) (x ∷ []) ≡ [] = rw (lt-leb (minute_of x) k lt) refl in
    ap (sum_by (λ (s : Second). s.speed)) (filter-append (λ (s : Second). nat_le (minute_of s) k) xs (x ∷ []) ∙ ap (λ (ys : List Second). filter (λ (s : Second). nat_le (minute_of s) k) xs ++ ys) none ∙ append-nil (filter (λ (s : Second). nat_le (minute_of s) k) xs))

travelled-mine : (xs : List Second) (x : Second) (k : ℕ) → minute_of x ≡ k → travelled_to (xs ++ x ∷ []) k ≡ travelled_to xs k + x.speed
travelled-mine xs x k is =
    let le : minute_of x ≤ k = omega (arith, is) in
    let one : filter (λ (s : Second). nat_le (minute_of s) k) (x ∷ []) ≡ x ∷ [] = rw (le-leb (minute_of x) k le) refl in
    ap (sum_by (λ (s : Second). s.speed)) (filter-append (λ (s : Second). nat_le (minute_of s) k) xs (x ∷ []) ∙ ap (λ (ys : List Second). filter (λ (s : Second). nat_le (minute_of s) k) xs ++ ys) one)
    ∙ sum_by_push (λ (s : Second). s.speed) (filter (λ (s : Second). nat_le (minute_of s) k) xs) x

still-speed : (x : Second) → is_still x ≡ true → x.speed ≡ 0
still-speed x still = eqb-true x.speed 0 still

none-open : (xs : List Second) (x : Second) (act last : Activity) → Closes xs x act last → (k : ℕ) → (counted_of (xs ++ x ∷ []) k).open_seconds ≡ 0
none-open xs x act last c k = ap (λ (ys : List Second). length (in_minute k ys)) c.none_open

-- A second that closes the open ones: a minute before its own, and its own.
pub closes-past : (n : ℕ) (xs : List Second) (x : Second) (act last : Activity) → AreNumbered n (xs ++ x ∷ []) → AreNumbered n xs → Closes xs x act last → (k : ℕ) → k < minute_of x → counted_of (xs ++ x ∷ []) k ≡ closed act (counted_of xs k)
closes-past n xs x act last more numbered c k lt =
    whole_counted _ _ _ _ _ _ _ _ _ _
    (closes-driver xs x act last c k ∙ ap (λ (ys : List Second). tally_from (with_run (counted_of xs k).driver act (counted_of xs k).open_seconds) (map (driver_at (xs ++ x ∷ [])) ys)) (earlier x k lt))
    (none-open xs x act last c k)
    (drives-earlier xs x k lt)
    (codriver-earlier n xs x more numbered k lt)
    (travelled-earlier xs x k lt)

closes-mine : (xs : List Second) (x : Second) (act last : Activity) → Closes xs x act last → (k : ℕ) → minute_of x ≡ k → (counted_of (xs ++ x ∷ []) k).driver ≡ with_run (with_run (counted_of xs k).driver act (counted_of xs k).open_seconds) last 1
closes-mine xs x act last c k is =
    let t : Tally = with_run (counted_of xs k).driver act (counted_of xs k).open_seconds in
    closes-driver xs x act last c k ∙ ap (λ (ys : List Second). tally_from t (map (driver_at (xs ++ x ∷ [])) ys)) (mine x k is) ∙ ap (λ (a : Activity). with_run t a 1) c.here

pub closes-still_here : (n : ℕ) (xs : List Second) (x : Second) (act last : Activity) → AreNumbered n (xs ++ x ∷ []) → AreNumbered n xs → Closes xs x act last → is_still x ≡ true → (k : ℕ) → minute_of x ≡ k → counted_of (xs ++ x ∷ []) k ≡ with_codriver (codriver_between xs x []) 1 (with_driver last 1 (closed act (counted_of xs k)))
closes-still_here n xs x act last more numbered c still k is =
    whole_counted _ _ _ _ _ _ _ _ _ _
    (closes-mine xs x act last c k is)
    (none-open xs x act last c k)
    (drives-still xs x k is still)
    (codriver-mine n xs x more numbered k is)
    (travelled-mine xs x k is ∙ omega (arith, still-speed x still))

pub closes-moving_here : (n : ℕ) (xs : List Second) (x : Second) (act : Activity) → AreNumbered n (xs ++ x ∷ []) → AreNumbered n xs → Closes xs x act Driving → is_still x ≡ false → (k : ℕ) → minute_of x ≡ k → counted_of (xs ++ x ∷ []) k ≡ moved 1 x.speed (closed act (counted_of xs k))
closes-moving_here n xs x act more numbered c moving k is =
    let co : codriver_between xs x [] ≡ Available = rw moving refl in
    let one : x.speed ≡ 1 * x.speed = omega arith in
    whole_counted _ _ _ _ _ _ _ _ _ _
    (closes-mine xs x act Driving c k is)
    (none-open xs x act Driving c k)
    (drives-moving xs x k is moving)
    (codriver-mine n xs x more numbered k is ∙ ap (λ (a : Activity). with_run (counted_of xs k).codriver a 1) co)
    (travelled-mine xs x k is ∙ ap (λ (v : ℕ). travelled_to xs k + v) one)

-- A second that is open too.
fixed-more : (xs : List Second) (x : Second) → Opens xs x → fixed_of (xs ++ x ∷ []) ≡ fixed_of xs
fixed-more xs x o =
    let long : length (xs ++ x ∷ []) - length (open_of (xs ++ x ∷ [])) ≡ length xs - length (open_of xs) = omega (arith, length-append xs (x ∷ []), ap length o.more_open, length-append (open_of xs) (x ∷ [])) in
    let le : length xs - length (open_of xs) ≤ length xs = omega arith in
    ap (λ (m : ℕ). take m (xs ++ x ∷ [])) long ∙ take-append-le (length xs - length (open_of xs)) xs (x ∷ []) le

opens-driver : (xs : List Second) (x : Second) → Opens xs x → (k : ℕ) → (counted_of (xs ++ x ∷ []) k).driver ≡ (counted_of xs k).driver
opens-driver xs x o k =
    let d' = driver_at (xs ++ x ∷ []) in
    ap (λ (ys : List Second). tally_of (map d' (in_minute k ys))) (fixed-more xs x o)
    ∙ ap tally_of (map-agree d' (driver_at xs) (in_minute k (fixed_of xs)) (all-filtered (λ (s : Second). d' s ≡ driver_at xs s) (λ (s : Second). nat_eq (minute_of s) k) (fixed_of xs) o.same))

pub opens-past : (n : ℕ) (xs : List Second) (x : Second) → AreNumbered n (xs ++ x ∷ []) → AreNumbered n xs → Opens xs x → (k : ℕ) → k < minute_of x → counted_of (xs ++ x ∷ []) k ≡ counted_of xs k
opens-past n xs x more numbered o k lt =
    whole_counted _ _ _ _ _ _ _ _ _ _
    (opens-driver xs x o k)
    (ap (λ (ys : List Second). length (in_minute k ys)) o.more_open ∙ ap length (minute-earlier k (open_of xs) x lt))
    (drives-earlier xs x k lt)
    (codriver-earlier n xs x more numbered k lt)
    (travelled-earlier xs x k lt)

pub opens-here : (n : ℕ) (xs : List Second) (x : Second) → AreNumbered n (xs ++ x ∷ []) → AreNumbered n xs → Opens xs x → is_still x ≡ true → (k : ℕ) → minute_of x ≡ k → counted_of (xs ++ x ∷ []) k ≡ with_codriver (codriver_between xs x []) 1 (opened 1 (counted_of xs k))
opens-here n xs x more numbered o still k is =
    whole_counted _ _ _ _ _ _ _ _ _ _
    (opens-driver xs x o k)
    (ap (λ (ys : List Second). length (in_minute k ys)) o.more_open ∙ ap length (minute-mine k (open_of xs) x is) ∙ length-append (in_minute k (open_of xs)) (x ∷ []))
    (drives-still xs x k is still)
    (codriver-mine n xs x more numbered k is)
    (travelled-mine xs x k is ∙ omega (arith, still-speed x still))

-- with nothing open, closing changes nothing
pub closed-idle : (act : Activity) (xs : List Second) (k : ℕ) → open_of xs ≡ [] → closed act (counted_of xs k) ≡ counted_of xs k
closed-idle act xs k none =
    let e : (counted_of xs k).open_seconds ≡ 0 = ap (λ (ys : List Second). length (in_minute k ys)) none in
    whole_counted _ _ _ _ _ _ _ _ _ _ (ap (with_run (counted_of xs k).driver act) e) (sym e) refl refl refl
