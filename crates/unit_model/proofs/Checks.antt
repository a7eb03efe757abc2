-- An image decodes where each of its parts does.
use Rattle.std.proofs.Common.{◌≡◌, ⊎_elim, ℕ, zero, suc, ◌+◌, ◌/◌, ◌<◌, ◌≤◌, Bool, true, false, List, ◌∷◌, ◌++◌, map, refl, sym, subst, ◌∙◌, ap, arith}
use Rattle.std.specs.Prelude.{◌==◌, ◌&&◌, ◌||◌, nat_le, nat_lt, flat_map}
use Rattle.std.specs.List.{list_all, range_with_len}
use Rattle.std.proofs.lemmas.Bool.{cases_lt}
use Rattle.std.proofs.lemmas.Bool.Decides.{nat_tests}
use Rattle.std.proofs.lemmas.List.Folds.{list_all-append}
use Rattle.gated_ring.specs.Ring.{number_at}
use Rattle.unit_model.specs.declared.layout.TheConstants.{DAYS, DAY_SLOTS, HIGHEST_ODOMETER, INSERTIONS, INSERTION_SLOTS, LAST_MINUTE, MOST_OVERS, OVER_COUNT, PLACES, PLACE_SLOTS, RULE_BYTE, SPEEDS, SPEED_SLOTS, VERSION}
use Rattle.unit_model.specs.Image.{number_of, last_kept, odometer_at}
use Rattle.unit_model.specs.Decoding.{Check, check, is_version_good, is_rule_good, front_checks, cell_check, cell_checks, ring_checks, slot_checks, is_pointer_good, has_day, checks, Decodes}

abbrev pub passes : Check → Bool
passes c = c.passes

pub and_split : (a b : Bool) → (a && b) ≡ true → (a ≡ true) × (b ≡ true)
and_split true b is = (refl, is)
and_split false b is = absurd (cc)

pub and_join : (a b : Bool) → a ≡ true → b ≡ true → (a && b) ≡ true
and_join a b first next = ap (λ (v : Bool). v && b) first ∙ next

pub le_true : (a b : ℕ) → a ≤ b → nat_le a b ≡ true
le_true a b is = grind (arith, nat_tests)

pub le_of : (a b : ℕ) → nat_le a b ≡ true → a ≤ b
le_of a b is = grind (arith, nat_tests)

or_more : (a b b' : Bool) → (b ≡ true → b' ≡ true) → (a || b) ≡ true → (a || b') ≡ true
or_more true b b' more is = refl
or_more false b b' more is = more is

pub append_split : (a b : List Check) → list_all passes (a ++ b) ≡ true → (list_all passes a ≡ true) × (list_all passes b ≡ true)
append_split a b all = and_split (list_all passes a) (list_all passes b) (sym (list_all-append passes a b) ∙ all)

append_join : (a b : List Check) → list_all passes a ≡ true → list_all passes b ≡ true → list_all passes (a ++ b) ≡ true
append_join a b first next = list_all-append passes a b ∙ and_join (list_all passes a) (list_all passes b) first next

-- each of a range
flat_each : (f : ℕ → List Check) (a n : ℕ) → list_all passes (flat_map f (range_with_len a n)) ≡ true → (i : ℕ) → a ≤ i → i < a + n → list_all passes (f i) ≡ true
flat_each f a zero all i low high = absurd (omega (arith, low, high))
flat_each f a (suc n) all i low high =
    let both = append_split (f a) (flat_map f (range_with_len (a + 1) n)) all in
    ⊎_elim
    (λ later. flat_each f (a + 1) n both.1 i (omega (arith, later)) (omega (arith, high)))
    (λ here. let at : i ≡ a = omega (arith, here, low) in ap (λ (k : ℕ). list_all passes (f k)) at ∙ both.0)
    (cases_lt a i)

flat_all : (f : ℕ → List Check) (a n : ℕ) → ((i : ℕ) → a ≤ i → i < a + n → list_all passes (f i) ≡ true) → list_all passes (flat_map f (range_with_len a n)) ≡ true
flat_all f a zero each = refl
flat_all f a (suc n) each =
    append_join (f a) (flat_map f (range_with_len (a + 1) n)) (each a (omega arith) (omega arith)) (flat_all f (a + 1) n (λ i low high. each i (omega (arith, low)) (omega (arith, high))))

map_each : (f : ℕ → Check) (a n : ℕ) → list_all passes (map f (range_with_len a n)) ≡ true → (i : ℕ) → a ≤ i → i < a + n → (f i).passes ≡ true
map_each f a zero all i low high = absurd (omega (arith, low, high))
map_each f a (suc n) all i low high =
    let both = and_split (f a).passes (list_all passes (map f (range_with_len (a + 1) n))) all in
    ⊎_elim
    (λ later. map_each f (a + 1) n both.1 i (omega (arith, later)) (omega (arith, high)))
    (λ here. let at : i ≡ a = omega (arith, here, low) in ap (λ (k : ℕ). (f k).passes) at ∙ both.0)
    (cases_lt a i)

map_all : (f : ℕ → Check) (a n : ℕ) → ((i : ℕ) → a ≤ i → i < a + n → (f i).passes ≡ true) → list_all passes (map f (range_with_len a n)) ≡ true
map_all f a zero each = refl
map_all f a (suc n) each =
    and_join (f a).passes (list_all passes (map f (range_with_len (a + 1) n))) (each a (omega arith) (omega arith)) (map_all f (a + 1) n (λ i low high. each i (omega (arith, low)) (omega (arith, high))))

pub record IsGood (x : List ℕ) : Type 0 where
  pub front : list_all passes (front_checks x) ≡ true
  pub cells : (n : ℕ) → n < 32 → (cell_check x n).passes ≡ true
  pub point : is_pointer_good x ≡ true
  pub slots : (i : ℕ) → i < DAY_SLOTS → list_all passes (slot_checks x i) ≡ true
  pub rings : list_all passes (ring_checks x) ≡ true

module _ (x : List ℕ) where
  abbrev S : List Check
  S = flat_map (slot_checks x) (range_with_len 0 DAY_SLOTS)

  abbrev P : Check
  P = check DAYS.place (is_pointer_good x)

  pub good_of : Decodes x → IsGood x
  unfolding checks Decodes
  good_of decodes =
      let front = append_split (front_checks x) (cell_checks x ++ (P ∷ (S ++ ring_checks x))) decodes in
      let cells = append_split (cell_checks x) (P ∷ (S ++ ring_checks x)) front.1 in
      let point = and_split (is_pointer_good x) (list_all passes (S ++ ring_checks x)) cells.1 in
      let slots = append_split S (ring_checks x) point.1 in
      record {
        front = front.0;
        cells = λ n below. map_each (cell_check x) 0 32 cells.0 n (omega arith) (omega (arith, below));
        point = point.0;
        slots = λ i below. flat_each (slot_checks x) 0 DAY_SLOTS slots.0 i (omega arith) (omega (arith, below));
        rings = slots.1;
      }

  pub good_decodes : IsGood x → Decodes x
  unfolding checks Decodes
  good_decodes good =
      append_join (front_checks x) (cell_checks x ++ (P ∷ (S ++ ring_checks x))) good.front
      (append_join (cell_checks x) (P ∷ (S ++ ring_checks x)) (map_all (cell_check x) 0 32 (λ n low high. good.cells n (omega (arith, high))))
      (and_join (is_pointer_good x) (list_all passes (S ++ ring_checks x)) good.point
      (append_join S (ring_checks x) (flat_all (slot_checks x) 0 DAY_SLOTS (λ i low high. good.slots i (omega (arith, high)))) good.rings)))

-- what the first fields of an image pass
pub record FrontPasses (x : List ℕ) : Type 0 where
  pub version : is_version_good (number_of x VERSION) ≡ true
  pub rule : is_rule_good (number_of x VERSION) (number_of x RULE_BYTE) ≡ true
  pub kept : last_kept x ≤ LAST_MINUTE
  pub today : (last_kept x == 0 || has_day x (last_kept x / 1440)) ≡ true
  pub odometer : odometer_at x ≤ HIGHEST_ODOMETER
  pub overs : number_of x OVER_COUNT ≤ MOST_OVERS

module _ (x : List ℕ) where
  abbrev version_is : Bool
  version_is = is_version_good (number_of x VERSION)

  abbrev rule_is : Bool
  rule_is = is_rule_good (number_of x VERSION) (number_of x RULE_BYTE)

  abbrev day_is : Bool
  day_is = last_kept x == 0 || has_day x (last_kept x / 1440)

  abbrev kept_is : Bool
  kept_is = nat_le (last_kept x) LAST_MINUTE && day_is

  abbrev overs_are : Bool
  overs_are = nat_le (number_of x OVER_COUNT) MOST_OVERS && true

  abbrev counts_are : Bool
  counts_are = nat_le (odometer_at x) HIGHEST_ODOMETER && overs_are

  pub front_split : list_all passes (front_checks x) ≡ true → FrontPasses x
  front_split all =
      let version = and_split version_is (rule_is && (kept_is && counts_are)) all in
      let rule = and_split rule_is (kept_is && counts_are) version.1 in
      let kept = and_split kept_is counts_are rule.1 in
      let day = and_split (nat_le (last_kept x) LAST_MINUTE) day_is kept.0 in
      let counts = and_split (nat_le (odometer_at x) HIGHEST_ODOMETER) overs_are kept.1 in
      record {
        version = version.0;
        rule = rule.0;
        kept = le_of (last_kept x) LAST_MINUTE day.0;
        today = day.1;
        odometer = le_of (odometer_at x) HIGHEST_ODOMETER counts.0;
        overs = le_of (number_of x OVER_COUNT) MOST_OVERS (and_split (nat_le (number_of x OVER_COUNT) MOST_OVERS) true counts.1).0;
      }

  pub front_join : FrontPasses x → list_all passes (front_checks x) ≡ true
  front_join ok =
      and_join version_is (rule_is && (kept_is && counts_are)) ok.version
      (and_join rule_is (kept_is && counts_are) ok.rule
      (and_join kept_is counts_are (and_join (nat_le (last_kept x) LAST_MINUTE) day_is (le_true (last_kept x) LAST_MINUTE ok.kept) ok.today)
      (and_join (nat_le (odometer_at x) HIGHEST_ODOMETER) overs_are (le_true (odometer_at x) HIGHEST_ODOMETER ok.odometer)
      (and_join (nat_le (number_of x OVER_COUNT) MOST_OVERS) true (le_true (number_of x OVER_COUNT) MOST_OVERS ok.overs) refl))))

-- images with one version and one rule byte
abbrev pub SameVersion : List ℕ → List ℕ → Type 0
SameVersion x c = (number_of c VERSION ≡ number_of x VERSION) × (number_of c RULE_BYTE ≡ number_of x RULE_BYTE)

-- the first fields, where no number of them has changed and the last-kept minute's day is there as before
pub front_still : (x c : List ℕ) → SameVersion x c → last_kept c ≡ last_kept x → odometer_at c ≡ odometer_at x → number_of c OVER_COUNT ≡ number_of x OVER_COUNT
    → (has_day x (last_kept x / 1440) ≡ true → has_day c (last_kept x / 1440) ≡ true) → list_all passes (front_checks x) ≡ true → list_all passes (front_checks c) ≡ true
front_still x c version kept odometer overs today all =
    let ok = front_split x all in
    front_join c (record {
      version = ap is_version_good version.0 ∙ ok.version;
      rule = (λ t. is_rule_good (version.0 t) (version.1 t)) ∙ ok.rule;
      kept = omega (arith, kept, ok.kept);
      today = (λ t. kept t == 0 || has_day c (kept t / 1440)) ∙ or_more (last_kept x == 0) (has_day x (last_kept x / 1440)) (has_day c (last_kept x / 1440)) today ok.today;
      odometer = omega (arith, odometer, ok.odometer);
      overs = omega (arith, overs, ok.overs);
    })

-- the last-kept minute's day is there, and what is said of the first fields where these have changed
pub front_today : (x : List ℕ) → list_all passes (front_checks x) ≡ true → (last_kept x == 0 || has_day x (last_kept x / 1440)) ≡ true
front_today x all = (front_split x all).today

pub front_by : (x c : List ℕ) → SameVersion x c → number_of c OVER_COUNT ≡ number_of x OVER_COUNT → last_kept c ≤ LAST_MINUTE → odometer_at c ≤ HIGHEST_ODOMETER
    → (last_kept c == 0 || has_day c (last_kept c / 1440)) ≡ true → list_all passes (front_checks x) ≡ true → list_all passes (front_checks c) ≡ true
front_by x c version overs kept odometer today all =
    let ok = front_split x all in
    front_join c (record {
      version = ap is_version_good version.0 ∙ ok.version;
      rule = (λ t. is_rule_good (version.0 t) (version.1 t)) ∙ ok.rule;
      kept = kept;
      today = today;
      odometer = odometer;
      overs = omega (arith, overs, ok.overs);
    })

pub front_kept : (x : List ℕ) → list_all passes (front_checks x) ≡ true → last_kept x ≤ LAST_MINUTE
front_kept x all = (front_split x all).kept

pub front_odometer : (x : List ℕ) → list_all passes (front_checks x) ≡ true → odometer_at x ≤ HIGHEST_ODOMETER
front_odometer x all = (front_split x all).odometer

-- the pointers of the rings that pass
pub record RingsPass (x : List ℕ) : Type 0 where
  pub insertions : number_at x INSERTIONS.place 4 < INSERTION_SLOTS
  pub places : number_at x PLACES.place 4 < PLACE_SLOTS
  pub speeds : number_at x SPEEDS.place 4 < SPEED_SLOTS

lt_true : (a b : ℕ) → a < b → nat_lt a b ≡ true
lt_true a b is = grind (arith, nat_tests)

lt_of : (a b : ℕ) → nat_lt a b ≡ true → a < b
lt_of a b is = grind (arith, nat_tests)

module _ (x : List ℕ) where
  abbrev insertions_are : Bool
  insertions_are = nat_lt (number_at x INSERTIONS.place 4) INSERTION_SLOTS

  abbrev places_are : Bool
  places_are = nat_lt (number_at x PLACES.place 4) PLACE_SLOTS

  abbrev speeds_are : Bool
  speeds_are = nat_lt (number_at x SPEEDS.place 4) SPEED_SLOTS

  pub rings_split : list_all passes (ring_checks x) ≡ true → RingsPass x
  rings_split all =
      let insertions = and_split insertions_are (places_are && (speeds_are && true)) all in
      let places = and_split places_are (speeds_are && true) insertions.1 in
      record {
        insertions = lt_of (number_at x INSERTIONS.place 4) INSERTION_SLOTS insertions.0;
        places = lt_of (number_at x PLACES.place 4) PLACE_SLOTS places.0;
        speeds = lt_of (number_at x SPEEDS.place 4) SPEED_SLOTS (and_split speeds_are true places.1).0;
      }

  pub rings_join : RingsPass x → list_all passes (ring_checks x) ≡ true
  rings_join ok =
      and_join insertions_are (places_are && (speeds_are && true)) (lt_true (number_at x INSERTIONS.place 4) INSERTION_SLOTS ok.insertions)
      (and_join places_are (speeds_are && true) (lt_true (number_at x PLACES.place 4) PLACE_SLOTS ok.places)
      (and_join speeds_are true (lt_true (number_at x SPEEDS.place 4) SPEED_SLOTS ok.speeds) refl))

-- the pointers of the rings, where none of them has changed
pub rings_still : (x c : List ℕ) → number_at c INSERTIONS.place 4 ≡ number_at x INSERTIONS.place 4 → number_at c PLACES.place 4 ≡ number_at x PLACES.place 4
    → number_at c SPEEDS.place 4 ≡ number_at x SPEEDS.place 4 → list_all passes (ring_checks x) ≡ true → list_all passes (ring_checks c) ≡ true
rings_still x c insertions places speeds all =
    let ok = rings_split x all in
    rings_join c (record {
      insertions = subst (λ (n : ℕ). n < INSERTION_SLOTS) (sym insertions) ok.insertions;
      places = subst (λ (n : ℕ). n < PLACE_SLOTS) (sym places) ok.places;
      speeds = subst (λ (n : ℕ). n < SPEED_SLOTS) (sym speeds) ok.speeds;
    })

-- what decodes still does where its parts do
pub still : (x c : List ℕ) → (IsGood x → IsGood c) → Decodes x → Decodes c
still x c good decodes = good_decodes c (good (good_of x decodes))
