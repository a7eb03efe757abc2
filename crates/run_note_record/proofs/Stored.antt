-- What the images of a unit have stored, by the power spans, where their last-kept minute and the leg since power came last are known.
use Rattle.std.proofs.Common.{◌≡◌, ◌⊎◌, inl, inr, ⊎_elim, ℕ, ◌+◌, ◌*◌, ◌/◌, ◌<◌, ◌≤◌, min, Bool, true, false, cond, nat_lt, nat_le, Option, Some, None, List, [], ◌∷◌, ◌++◌, All, Contains, map, filter, sum, sum_by, refl, ap, sym, subst, ◌∙◌, arith, append_assoc, append-nil}
use Rattle.std.specs.Prelude.{find, option_to_list}
use Rattle.std.proofs.lemmas.Bool.{ltb-true}
use Rattle.std.proofs.lemmas.Bool.Decides.{nat_tests}
use Rattle.std.proofs.lemmas.List.{map-append}
use Rattle.std.proofs.lemmas.List.Elements.{All-nil, All-cons, All-contains, All-map, Contains-push, Contains-push_cases, Contains-append_left, Contains-append_right, Contains-append_cases}
use Rattle.std.proofs.lemmas.List.Sums.{sum_by-cons}
use Rattle.run_events.proofs.activity_codec.ByTest.{by_test}
use Rattle.run_devices.specs.minute_model.declared.Minute.{Minute}
use Rattle.run_devices.specs.minute_model.declared.Rule.{Rule}
use Rattle.run_devices.specs.minute_model.Second.{Second, minute_of}
use Rattle.run_devices.specs.minute_model.Minute.{horizon_of, known_at, class_of, travelled_to, minutes_in, is_decided, decided}
use Rattle.run_devices.proofs.minute_model.Counted.{next_settling, horizon-open, horizon-settled}
use Rattle.run_devices.specs.unit_model.declared.layout.TheConstants.{HIGHEST_ODOMETER}
use Rattle.run_devices.specs.log_model.Course.{ToldSecond}
use Rattle.run_devices.specs.log_model.Spans.{seconds_in}
use Rattle.run_devices.specs.history_model.Minutes.{HistoryMinute}
use Rattle.run_devices.specs.history_model.History.{settlings_of, decided_of}
use Rattle.run_devices.specs.history_model.Book.{Book, all, Rising, IsMark}
use Rattle.run_devices.proofs.history_model.Filters.{filter-and}
use Rattle.run_devices.specs.run_unit_course.Legs.{Travel, travelled_by}
use Rattle.run_devices.specs.run_unit_course.Travelled.{MayShow}
use Rattle.run_devices.proofs.run_unit_course.Legs.{travelled_by-push}
use Rattle.run_devices.specs.unit_rule.Odometer.{odometer_by}
use Rattle.run_devices.specs.note_model.Odometer.{SpanFrom, odometer_at_end, IsBeingKept, MayStore, OfStart, OfKept, OfCut}
use Rattle.run_note_record.specs.Stored.{IsNewest}

-- ---- elements

in-cons : {X : Type 0} (x : X) (xs : List X) (y : X) → Contains (x ∷ xs) y → (x ≡ y) ⊎ Contains xs y
in-cons x xs y at = ⊎_elim
    (λ (here : Contains (x ∷ []) y). ⊎_elim (λ (none : Contains [] y). absurd (omega (arith, none.1))) (λ (same : x ≡ y). inl same) (Contains-push_cases [] x y here))
    (λ (there : Contains xs y). inr there)
    (Contains-append_cases (x ∷ []) xs y at)

pub head-in : {X : Type 0} (x : X) (xs : List X) → Contains (x ∷ xs) x
head-in x xs = Contains-append_left (x ∷ []) xs x (Contains-push [] x)

pub tail-in : {X : Type 0} (x : X) (xs : List X) (y : X) → Contains xs y → Contains (x ∷ xs) y
tail-in x xs y at = Contains-append_right (x ∷ []) xs y at

pub mapped : {X Y : Type 0} (f : X → Y) (xs : List X) (x : X) → Contains xs x → Contains (map f xs) (f x)
mapped f [] x at = absurd (omega (arith, at.1))
mapped f (y ∷ xs) x at = ⊎_elim
    (λ (same : y ≡ x). subst (λ z. Contains (f y ∷ map f xs) (f z)) same (head-in (f y) (map f xs)))
    (λ (there : Contains xs x). tail-in (f y) (map f xs) (f x) (mapped f xs x there))
    (in-cons y xs x at)

pub mapped-from : {X Y : Type 0} (f : X → Y) (xs : List X) (y : Y) → Contains (map f xs) y → (x : X) × Contains xs x × (f x ≡ y)
mapped-from f [] y at = absurd (omega (arith, at.1))
mapped-from f (x ∷ xs) y at = ⊎_elim
    (λ (same : f x ≡ y). (x, head-in x xs, same))
    (λ (there : Contains (map f xs) y). let rest = mapped-from f xs y there in (rest.0, tail-in x xs rest.0 rest.1, rest.2))
    (in-cons (f x) (map f xs) y at)

-- the last of a list
pub data AtEnd {X : Type 0} : List X → Type 0 where
  nothing : AtEnd []
  push : (xs : List X) (x : X) → AtEnd (xs ++ x ∷ [])

pub at-end : {X : Type 0} (xs : List X) → AtEnd xs
at-end [] = nothing
at-end {X = X} (x ∷ xs) = by xs (at-end xs)
  where
    by : (ys : List X) → AtEnd ys → AtEnd (x ∷ ys)
    by _ nothing = push [] x
    by _ (push ys y) = push (x ∷ ys) y

-- ---- numbers that rise

abbrev pub RisesFrom : ℕ → List ℕ → Type 0
RisesFrom first [] = Unit {0}
RisesFrom first (m ∷ ms) = (first < m) × RisesFrom m ms

abbrev pub numbers : List HistoryMinute → List ℕ
numbers past = map (λ (i : HistoryMinute). i.minute) past

pub rises-numbers : (first : ℕ) (past : List HistoryMinute) → Rising first past → RisesFrom first (numbers past)
rises-numbers first [] h = tt
rises-numbers first (i ∷ past) h = (h.0, rises-numbers i.minute past h.1)

rises-above : (first : ℕ) (ms : List ℕ) (m : ℕ) → RisesFrom first ms → Contains ms m → first < m
rises-above first [] m h at = absurd (omega (arith, at.1))
rises-above first (x ∷ ms) m h at = ⊎_elim
    (λ (same : x ≡ m). let lt = h.0 in omega (arith, lt, same))
    (λ (there : Contains ms m). let lt = h.0 in let rest = rises-above x ms m h.1 there in omega (arith, lt, rest))
    (in-cons x ms m at)

rises-low : (first : ℕ) (xs : List ℕ) (m : ℕ) → RisesFrom first (xs ++ m ∷ []) → All (λ n. n ≤ m) (xs ++ m ∷ [])
rises-low first [] m h = All-cons (λ (n : ℕ). n ≤ m) m [] (omega arith) (All-nil (λ (n : ℕ). n ≤ m))
rises-low first (x ∷ xs) m h =
    let lt : x < m = rises-above x (xs ++ m ∷ []) m h.1 (Contains-push xs m) in
    All-cons (λ (n : ℕ). n ≤ m) x (xs ++ m ∷ []) (omega (arith, lt)) (rises-low x xs m h.1)

pub one-newest : (first : ℕ) (ms : List ℕ) (a b : ℕ) → RisesFrom first ms → IsNewest first ms a → IsNewest first ms b → a ≡ b
one-newest first ms a b h x y = ⊎_elim
    (λ (a_first : a ≡ first). ⊎_elim
    (λ (b_first : b ≡ first). a_first ∙ sym b_first)
    (λ (b_in : Contains ms b). absurd (let low : b ≤ a = All-contains (λ (m : ℕ). m ≤ a) ms b x.highest b_in in let lt = rises-above first ms b h b_in in omega (arith, low, lt, a_first)))
    y.among)
    (λ (a_in : Contains ms a).
    let low : a ≤ b = All-contains (λ (m : ℕ). m ≤ b) ms a y.highest a_in in
    ⊎_elim
    (λ (b_first : b ≡ first). absurd (let lt = rises-above first ms a h a_in in omega (arith, low, lt, b_first)))
    (λ (b_in : Contains ms b). let high : b ≤ a = All-contains (λ (m : ℕ). m ≤ a) ms b x.highest b_in in let e : a ≡ b = omega (arith, low, high) in e)
    y.among)
    x.among

pub last-newest : (first : ℕ) (xs : List ℕ) (m : ℕ) → RisesFrom first (xs ++ m ∷ []) → IsNewest first (xs ++ m ∷ []) m
last-newest first xs m h = record { among = inr (Contains-push xs m); highest = rises-low first xs m h }

-- ---- the odometer of a decided minute

found-by : (p : ℕ → Bool) (xs : List ℕ) (t : ℕ) → find p xs ≡ Some t → p t ≡ true
found-by p [] t is = absurd (cc)
found-by p (x ∷ xs) t is = by_test (p x)
    (λ here. let e : Some x ≡ Some t = rw here at is in let same : x ≡ t = cc in subst (λ n. p n ≡ true) same here)
    (λ other. let e : find p xs ≡ Some t = rw other at is in found-by p xs t e)

-- a minute is decided behind its end
horizon-late : (rule : Rule) (settlings : List ℕ) (m : ℕ) → 60 * m + 59 ≤ horizon_of rule settlings m
horizon-late rule settlings m = by (next_settling m settlings) refl
  where
    by : (o : Option ℕ) → next_settling m settlings ≡ o → 60 * m + 59 ≤ horizon_of rule settlings m
    by None is = let e = horizon-open rule settlings m is in omega (arith, e)
    by (Some t) is =
        let late : m < t / 60 = ltb-true m (t / 60) (found-by (λ u. nat_lt m (u / 60)) settlings t is) in
        let e = horizon-settled rule settlings m t is in
        omega (arith, e, late)

-- what counts for it are the seconds up to its end
within-end : (m horizon : ℕ) → 60 * m + 59 ≤ horizon → (s : Second) → nat_lt s.number (60 * (m + 1)) ≡ cond (nat_le (minute_of s) m) (nat_le s.number horizon) false
within-end m horizon le s = by_test (nat_le (minute_of s) m)
    (λ yes. let low : s.number / 60 ≤ m = grind (arith, nat_tests) in rw yes (let a : nat_lt s.number (60 * (m + 1)) ≡ true = below s.number (60 * (m + 1)) (omega (arith, low)) in let b : nat_le s.number horizon ≡ true = under s.number horizon (omega (arith, low, le)) in a ∙ sym b))
    (λ no_. let high : m < s.number / 60 = grind (arith, nat_tests) in rw no_ (above s.number (60 * (m + 1)) (omega (arith, high))))
  where
    below : (a b : ℕ) → a < b → nat_lt a b ≡ true
    below a b lt = grind (arith, nat_tests)

    under : (a b : ℕ) → a ≤ b → nat_le a b ≡ true
    under a b lt = grind (arith, nat_tests)

    above : (a b : ℕ) → b ≤ a → nat_lt a b ≡ false
    above a b le_ = grind (arith, nat_tests)

sum-speeds : (xs : List Second) → sum (map (λ (s : Second). s.speed) xs) ≡ sum_by (λ (s : Second). s.speed) xs
sum-speeds [] = refl
sum-speeds (s ∷ xs) = sum_by-cons (λ (n : ℕ). n) s.speed (map (λ (x : Second). x.speed) xs) ∙ ap (λ (n : ℕ). s.speed + n) (sum-speeds xs) ∙ sym (sum_by-cons (λ (x : Second). x.speed) s xs)

speeds-to : (rule : Rule) (seconds : List Second) (settlings : List ℕ) (m : ℕ) →
    sum (map (λ (s : Second). s.speed) (filter (λ (s : Second). nat_lt s.number (60 * (m + 1))) seconds)) ≡ travelled_to (known_at (horizon_of rule settlings m) seconds) m
speeds-to rule seconds settlings m =
    ap (λ (xs : List Second). sum (map (λ (s : Second). s.speed) xs))
    (filter-and (λ (s : Second). nat_le (minute_of s) m) (λ (s : Second). nat_le s.number (horizon_of rule settlings m)) (λ (s : Second). nat_lt s.number (60 * (m + 1)))
    (within-end m (horizon_of rule settlings m) (horizon-late rule settlings m)) seconds)
    ∙ sum-speeds (filter (λ (s : Second). nat_le (minute_of s) m) (known_at (horizon_of rule settlings m) seconds))

-- what was travelled up to a decided minute is the speeds up to its end
pub travelled-is : (rule : Rule) (seconds : List Second) (settlings : List ℕ) (d : Minute) → Contains (decided rule seconds settlings) d →
    sum (map (λ (s : Second). s.speed) (filter (λ (s : Second). nat_lt s.number (60 * (d.minute + 1))) seconds)) ≡ d.travelled
unfolding decided
travelled-is rule seconds settlings d at =
    let from = mapped-from (λ (m : ℕ). class_of rule (known_at (horizon_of rule settlings m) seconds) m) (filter (is_decided rule seconds settlings) (minutes_in seconds)) d at in
    subst (λ (x : Minute). sum (map (λ (s : Second). s.speed) (filter (λ (s : Second). nat_lt s.number (60 * (x.minute + 1))) seconds)) ≡ x.travelled) from.2 (speeds-to rule seconds settlings from.0)

pub odometer-of : (rule : Rule) (base : ℕ) (span : List ToldSecond) (d : Minute) → Contains (decided_of rule span) d → odometer_by base d.travelled ≡ odometer_at_end d.minute (record { base = base; span = span })
odometer-of rule base span d at =
    let is = travelled-is rule (seconds_in span) (settlings_of span) d at in
    swap base d.travelled (sum (map (λ (s : Second). s.speed) (filter (λ (s : Second). nat_lt s.number (60 * (d.minute + 1))) (seconds_in span)))) is
  where
    swap : (b t u : ℕ) → u ≡ t → min (b + t / 3600) HIGHEST_ODOMETER ≡ min HIGHEST_ODOMETER (b + u / 3600)
    swap b t u same = omega (arith, ap (λ (n : ℕ). n / 3600) same)

-- ---- what may be stored

-- more spans
pub may-more : (rule : Rule) (start first : ℕ) (xs ys : List SpanFrom) (kept odometer : ℕ) → ((s : SpanFrom) → Contains xs s → Contains ys s) → MayStore rule start first xs kept odometer → MayStore rule start first ys kept odometer
may-more rule start first xs ys kept _ goes (OfStart is) = OfStart is
may-more rule start first xs ys kept _ goes (OfKept s d at among is) = OfKept s d (goes s at) among is
may-more rule start first xs ys kept _ goes (OfCut s d at among cut late) = OfCut s d (goes s at) among cut late

-- WHAT AN IMAGE HAS STORED: `parts` are the minutes of the last span that are kept, `lost` the one of which the keeping was broken off.
module _ (rule : Rule) (start first : ℕ) (earlier : List SpanFrom) (base : ℕ) (span : List ToldSecond) (low : base ≤ HIGHEST_ODOMETER) (parts : List Minute) (lost : Option Minute) (rest : List Minute)
    (are : decided_of rule span ≡ parts ++ (option_to_list lost ++ rest)) (cut : (d : Minute) → lost ≡ Some d → IsBeingKept rule span d.minute)
    (before : List ℕ) (newest : ℕ) (last_one : IsNewest first before newest) (begins : MayStore rule start first earlier newest base)
    (b : Book) (g : Travel) (sure : numbers b.sure ≡ before ++ map (λ (d : Minute). d.minute) parts) (rises : Rising first b.sure)
    (later : (d : Minute) → lost ≡ Some d → (first < d.minute) × All (λ (i : HistoryMinute). i.minute < d.minute) b.sure)
    (maybe : (i : HistoryMinute) → b.maybe ≡ Some i → (d : Minute) × (lost ≡ Some d) × (d.minute ≡ i.minute))
    (leg_sure : g.sure ≡ travelled_by parts) (leg_maybe : (leg : ℕ) → g.maybe ≡ Some leg → (d : Minute) × (lost ≡ Some d) × (leg ≡ d.travelled)) where
  abbrev here : SpanFrom
  here = record { base = base; span = span }

  abbrev spans : List SpanFrom
  spans = earlier ++ here ∷ []

  here-in : Contains spans here
  here-in = Contains-push earlier here

  part-in : (ps : List Minute) (d : Minute) → parts ≡ ps ++ d ∷ [] → Contains (decided_of rule span) d
  part-in ps d is = subst (λ (ds : List Minute). Contains ds d) (sym are) (Contains-append_left parts (option_to_list lost ++ rest) d (subst (λ (ds : List Minute). Contains ds d) (sym is) (Contains-push ps d)))

  lost-in : (d : Minute) → lost ≡ Some d → Contains (decided_of rule span) d
  lost-in d is =
      subst (λ (ds : List Minute). Contains ds d) (sym are)
      (Contains-append_right parts (option_to_list lost ++ rest) d (Contains-append_left (option_to_list lost) rest d (subst (λ (l : Option Minute). Contains (option_to_list l) d) (sym is) (Contains-push [] d))))

  -- that of a minute that is kept
  of-kept : (kept leg : ℕ) (d : Minute) → Contains (decided_of rule span) d → d.minute ≡ kept → leg ≡ d.travelled → MayStore rule start first spans kept (odometer_by base leg)
  of-kept kept leg d at is same =
      subst (λ (n : ℕ). MayStore rule start first spans kept n) (sym (ap (odometer_by base) same ∙ odometer-of rule base span d at)) (OfKept here d here-in at is)

  -- or of the one of which the keeping was broken off
  of-lost : (kept leg : ℕ) (d : Minute) → lost ≡ Some d → kept < d.minute → leg ≡ d.travelled → MayStore rule start first spans kept (odometer_by base leg)
  of-lost kept leg d is late same =
      subst (λ (n : ℕ). MayStore rule start first spans kept n) (sym (ap (odometer_by base) same ∙ odometer-of rule base span d (lost-in d is))) (OfCut here d here-in (lost-in d is) (cut d is) late)

  -- or the one with which the span began
  of-begin : (kept leg : ℕ) → newest ≡ kept → leg ≡ 0 → MayStore rule start first spans kept (odometer_by base leg)
  of-begin kept leg same none =
      subst (λ (n : ℕ). MayStore rule start first spans kept n) (rests base low ∙ ap (odometer_by base) (sym none))
      (subst (λ (k : ℕ). MayStore rule start first spans k base) same (may-more rule start first earlier spans newest base (λ s at. Contains-append_left earlier (here ∷ []) s at) begins))
    where
      rests : (n : ℕ) → n ≤ HIGHEST_ODOMETER → n ≡ odometer_by n 0
      rests n le = omega (arith, le)

  -- the last-kept minute is one of the sure ones: it is the last of them
  module _ (kept leg : ℕ) (shown : MayShow first b g kept leg) (mark : IsMark first b.sure kept) where
    is-newest : IsNewest first (numbers b.sure) kept
    is-newest = record {
      among = ⊎_elim (λ (is : kept ≡ first). inl is) (λ (m : (i : HistoryMinute) × Contains b.sure i × (i.minute ≡ kept)). inr (subst (Contains (numbers b.sure)) m.2 (mapped (λ (i : HistoryMinute). i.minute) b.sure m.0 m.1))) mark;
      highest = All-map (λ (n : ℕ). n ≤ kept) (λ (i : HistoryMinute). i.minute) b.sure shown.low;
    }

    rising : RisesFrom first (numbers b.sure)
    rising = rises-numbers first b.sure rises

    of-sure : (ps : List Minute) → AtEnd ps → parts ≡ ps → leg ≡ travelled_by ps → MayStore rule start first spans kept (odometer_by base leg)
    of-sure _ nothing is leg_is =
        let same : numbers b.sure ≡ before = sure ∙ ap (λ (ds : List Minute). before ++ map (λ (d : Minute). d.minute) ds) is ∙ append-nil before in
        of-begin kept leg (one-newest first before newest kept (subst (RisesFrom first) same rising) last_one (subst (λ (ms : List ℕ). IsNewest first ms kept) same is-newest)) leg_is
    of-sure _ (push ps d) is leg_is =
        let same : numbers b.sure ≡ (before ++ map (λ (d : Minute). d.minute) ps) ++ d.minute ∷ [] =
        sure ∙ ap (λ (ds : List Minute). before ++ map (λ (d : Minute). d.minute) ds) is ∙ ap (λ (ms : List ℕ). before ++ ms) (map-append (λ (d : Minute). d.minute) ps (d ∷ []))
        ∙ sym (append_assoc before (map (λ (d : Minute). d.minute) ps) (d.minute ∷ [])) in
        let up : RisesFrom first ((before ++ map (λ (d : Minute). d.minute) ps) ++ d.minute ∷ []) = subst (RisesFrom first) same rising in
        of-kept kept leg d (part-in ps d is)
        (one-newest first ((before ++ map (λ (d : Minute). d.minute) ps) ++ d.minute ∷ []) d.minute kept up (last-newest first (before ++ map (λ (d : Minute). d.minute) ps) d.minute up) (subst (λ (ms : List ℕ). IsNewest first ms kept) same is-newest))
        (leg_is ∙ travelled_by-push ps d)

    -- the one of which the keeping was broken off is later
    below : (d : Minute) → lost ≡ Some d → kept < d.minute
    below d is =
        let late = later d is in
        let low = late.0 in
        ⊎_elim (λ (same : kept ≡ first). omega (arith, same, low))
        (λ (m : (i : HistoryMinute) × Contains b.sure i × (i.minute ≡ kept)).
        let at = All-contains (λ (i : HistoryMinute). i.minute < d.minute) b.sure m.0 late.1 m.1 in
        let same = m.2 in
        omega (arith, at, same)) mark

    by-sure : MayStore rule start first spans kept (odometer_by base leg)
    by-sure = ⊎_elim
        (λ (is : leg ≡ g.sure). of-sure parts (at-end parts) refl (is ∙ leg_sure))
        (λ (is : g.maybe ≡ Some leg). let l = leg_maybe leg is in of-lost kept leg l.0 l.1 (below l.0 l.1) l.2)
        shown.side

  -- or it is the one of which the keeping was broken off, and its mark is there
  by-maybe : (kept leg : ℕ) (shown : MayShow first b g kept leg) (i : HistoryMinute) → b.maybe ≡ Some i → i.minute ≡ kept → MayStore rule start first spans kept (odometer_by base leg)
  by-maybe kept leg shown i is same =
      let l = leg_maybe leg (shown.behind i is (sym same)) in
      let m = maybe i is in
      let one : Some m.0 ≡ Some l.0 = sym m.1 ∙ l.1 in
      let d_is : m.0 ≡ l.0 = cc in
      of-kept kept leg l.0 (lost-in l.0 l.1) (sym (ap (λ (d : Minute). d.minute) d_is) ∙ m.2 ∙ same) l.2

  pub may-store : (kept leg : ℕ) → MayShow first b g kept leg → MayStore rule start first spans kept (odometer_by base leg)
  may-store kept leg shown = ⊎_elim
      (λ (is : kept ≡ first). by-sure kept leg shown (inl is))
      (λ (m : (i : HistoryMinute) × Contains (all b) i × (i.minute ≡ kept)). ⊎_elim
      (λ (at : Contains b.sure m.0). by-sure kept leg shown (inr (m.0, at, m.2)))
      (λ (at : Contains (option_to_list b.maybe) m.0). at-maybe m.0 m.2 b.maybe refl at)
      (Contains-append_cases b.sure (option_to_list b.maybe) m.0 m.1))
      shown.mark
    where
      at-maybe : (i : HistoryMinute) → i.minute ≡ kept → (o : Option HistoryMinute) → b.maybe ≡ o → Contains (option_to_list o) i → MayStore rule start first spans kept (odometer_by base leg)
      at-maybe i same None is at = absurd (omega (arith, at.1))
      at-maybe i same (Some j) is at = ⊎_elim
          (λ (none : Contains [] i). absurd (omega (arith, none.1)))
          (λ (one : j ≡ i). by-maybe kept leg shown i (is ∙ ap (λ (x : HistoryMinute). Some x) one) same)
          (Contains-push_cases [] j i at)
