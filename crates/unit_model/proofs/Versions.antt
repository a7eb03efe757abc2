-- Images that differ in the version and the rule byte alone record the same, and decode alike.
use Rattle.std.proofs.Common.{◌≡◌, inl, inr, ℕ, ◌+◌, ◌/◌, ◌≤◌, true, List, [], ◌∷◌, map, length, take, filter, not, refl, sym, ◌∙◌, ap, arith}
use Rattle.std.specs.Prelude.{◌==◌, ◌||◌, nat_lt}
use Rattle.std.specs.List.{list_all}
use Rattle.gated_ring.specs.card_layout.Images.{big_number}
use Rattle.gated_ring.specs.tach_media.Medium.{SameOutside, bytes_at}
use Rattle.gated_ring.proofs.tach_media.Images.{part_before, part_after, part_put, put_outside, outside_wider, outside_then}
use Rattle.gated_ring.specs.Ring.{Shape, number_at, pointer, is_there, place_of, gate_of, entry_at, next, order, ring_list, indices as ring_indices}
use Rattle.unit_model.specs.declared.layout.TheConstants.{DAY_SLOT_SIZE, IMAGE_SIZE, INSERTIONS, LAST_KEPT, ODOMETER, OVER_COUNT, OWED, PLACES, RULE_BYTE, SPARE, SPEEDS, VERSION, VIN}
use Rattle.unit_model.specs.Days.{days_shown, word_minute}
use Rattle.unit_model.specs.Image.{number_of, last_kept, odometer_at, slot_place, unit_day, unit_days, recorded, slot_count}
use Rattle.unit_model.specs.Decoding.{Decodes, cell_place, is_version_good, is_rule_good}
use Rattle.unit_model.specs.Versions.{version_of, rule_byte_by, rule_by, rule_of, ruled, upgraded, IsSameButRule}
use Rattle.unit_model.proofs.Numbers.{number_same, number_after, number_before, words_after, part_in}
use Rattle.unit_model.proofs.Slots.{SameButOne, day_at, in_front, same_indices, all_days}
use Rattle.unit_model.proofs.Recorded.{recorded_is}
use Rattle.unit_model.proofs.Checks.{passes, IsGood, good_of, good_decodes, front_split, front_join, rings_still}
use Rattle.unit_model.proofs.StillDecodes.{SameDates, same_day, same_point, date_good, slot_same}

-- images that are the same behind the rule byte
module _ (x c : List ℕ) (same : SameOutside VERSION.place SPARE.place x c) where
  abbrev behind : (a n : ℕ) → SPARE.place ≤ a → number_at c a n ≡ number_at x a n
  behind a n low = number_after VERSION.place SPARE.place a n x c same (omega (arith, low))

  pub kept_same : last_kept c ≡ last_kept x
  unfolding last_kept
  kept_same = behind LAST_KEPT.place LAST_KEPT.size (omega arith)

  pub odometer_same : odometer_at c ≡ odometer_at x
  unfolding odometer_at
  odometer_same = behind ODOMETER.place ODOMETER.size (omega arith)

  but : SameButOne 0 x c
  but = in_front 0 VERSION.place SPARE.place x c (omega arith) same

  day_same : (j : ℕ) → day_at c j ≡ day_at x j
  day_same j = ap unit_day (part_after VERSION.place SPARE.place (slot_place j) DAY_SLOT_SIZE x c same (omega arith))

  pub days_same : unit_days c ≡ unit_days x
  days_same = all_days c ∙ (λ t. map (λ j. day_same j t) (same_indices 0 x c but t)) ∙ sym (all_days x)

  -- no minute is another
  pub recorded_same : recorded c ≡ recorded x
  recorded_same = recorded_is c (last_kept x) kept_same ∙ ap (days_shown (last_kept x)) days_same ∙ sym (recorded_is x (last_kept x) refl)

  -- no owed entry, and no ring behind the days
  pub rows_same : bytes_at c OWED.place OWED.size ≡ bytes_at x OWED.place OWED.size
  rows_same = part_after VERSION.place SPARE.place OWED.place OWED.size x c same (omega arith)

  pub rings_same : (r : Shape) → SPARE.place ≤ r.base → ring_list r c ≡ ring_list r x
  unfolding ring_indices
  rings_same r low =
      let place : (j : ℕ) → SPARE.place ≤ place_of r j = λ j. omega (arith, low) in
      let point : pointer r c ≡ pointer r x = behind r.base r.pointer_width low in
      let there : (j : ℕ) → is_there r c j ≡ is_there r x j = λ j. ap (λ (n : ℕ). not (n == 0)) (behind (gate_of r j) 4 (omega (arith, place j))) in
      let entry : (j : ℕ) → entry_at r c j ≡ entry_at r x j = λ j. part_after VERSION.place SPARE.place (place_of r j) r.width x c same (omega (arith, place j)) in
      λ t. map (λ j. entry j t) (filter (λ j. there j t) (order r (next r (point t))))

  dates : SameDates x c
  dates = record {
    kept = kept_same;
    pointer_is = but.pointer_is;
    there = but.there;
    date = λ i. behind (slot_place i) 4 (omega arith);
  }

  -- and it decodes where the version and the rule byte are good
  pub version_good : is_version_good (number_of c VERSION) ≡ true → is_rule_good (number_of c VERSION) (number_of c RULE_BYTE) ≡ true → IsGood x → IsGood c
  version_good version rule good =
      let ok = front_split x good.front in
      record {
        front = front_join c (record {
          version = version;
          rule = rule;
          kept = omega (arith, kept_same, ok.kept);
          today = (λ t. kept_same t == 0 || same_day x c dates (kept_same t / 1440) t) ∙ ok.today;
          odometer = omega (arith, odometer_same, ok.odometer);
          overs = omega (arith, behind OVER_COUNT.place OVER_COUNT.size (omega arith), ok.overs);
        });
        cells = λ n below. (λ t. behind (cell_place n) 4 (omega arith) t == 0 || nat_lt (word_minute (behind (cell_place n + 4) 2 (omega arith) t)) 1440) ∙ good.cells n below;
        point = same_point x c dates ∙ good.point;
        slots = λ i below.
            let p : ℕ = slot_place i in
            ap (list_all passes) (slot_same x c i (but.there i) (date_good x c dates i) (behind (p + 4) 4 (omega arith)) (behind (p + 8) 2 (omega arith)) (words_after VERSION.place SPARE.place (p + 16) (slot_count x i) x c same (omega arith))) ∙ good.slots i below;
        rings = rings_still x c (behind INSERTIONS.place 4 (omega arith)) (behind PLACES.place 4 (omega arith)) (behind SPEEDS.place 4 (omega arith)) good.rings;
      }

-- an image of version 1 that is upgraded
module _ (x : List ℕ) (sized : length x ≡ IMAGE_SIZE) where
  first : SameOutside RULE_BYTE.place 1 x (ruled x)
  first = put_outside RULE_BYTE.place (1 ∷ []) x (omega (arith, sized))

  then_version : SameOutside VERSION.place 4 (ruled x) (upgraded x)
  then_version = put_outside VERSION.place (0 ∷ 0 ∷ 0 ∷ 2 ∷ []) (ruled x) (omega (arith, sized, first.same_length))

  ruled_same : SameOutside VERSION.place SPARE.place x (ruled x)
  ruled_same = outside_wider VERSION.place SPARE.place RULE_BYTE.place 1 x (ruled x) first (omega arith) (omega arith)

  upgraded_same : SameOutside VERSION.place SPARE.place x (upgraded x)
  upgraded_same = outside_then VERSION.place SPARE.place x (ruled x) (upgraded x) ruled_same (outside_wider VERSION.place SPARE.place VERSION.place 4 (ruled x) (upgraded x) then_version (omega arith) (omega arith))

  ruled_version : version_of (ruled x) ≡ version_of x
  ruled_version = number_before RULE_BYTE.place 1 VERSION.place VERSION.size x (ruled x) first (omega arith)

  ruled_byte : number_of (ruled x) RULE_BYTE ≡ 1
  ruled_byte = ap (big_number 1) (part_put RULE_BYTE.place (1 ∷ []) x (omega (arith, sized)))

  pub upgraded_version : version_of (upgraded x) ≡ 2
  upgraded_version = ap (big_number 4) (part_put VERSION.place (0 ∷ 0 ∷ 0 ∷ 2 ∷ []) (ruled x) (omega (arith, sized, first.same_length)))

  pub upgraded_byte : number_of (upgraded x) RULE_BYTE ≡ 1
  upgraded_byte = number_after VERSION.place 4 RULE_BYTE.place RULE_BYTE.size (ruled x) (upgraded x) then_version (omega arith) ∙ ruled_byte

  pub ruled_is : IsSameButRule x (ruled x)
  ruled_is = record {
    between = part_before RULE_BYTE.place 1 VIN.place 557 x (ruled x) first (omega arith);
    behind = ruled_same;
    version = inl ruled_version;
  }

  pub upgraded_is : IsSameButRule x (upgraded x)
  upgraded_is = record {
    between = part_after VERSION.place 4 VIN.place 557 (ruled x) (upgraded x) then_version (omega arith) ∙ part_before RULE_BYTE.place 1 VIN.place 557 x (ruled x) first (omega arith);
    behind = upgraded_same;
    version = inr (upgraded_version, upgraded_byte);
  }

  pub ruled_decodes : version_of x ≡ 1 → Decodes x → Decodes (ruled x)
  ruled_decodes plain decodes =
      let v : version_of (ruled x) ≡ 1 = ruled_version ∙ plain in
      good_decodes (ruled x) (version_good x (ruled x) ruled_same (ap is_version_good v) (λ t. is_rule_good (v t) (ruled_byte t)) (good_of x decodes))

  pub upgraded_decodes : Decodes x → Decodes (upgraded x)
  upgraded_decodes decodes =
      good_decodes (upgraded x) (version_good x (upgraded x) upgraded_same (ap is_version_good upgraded_version) (λ t. is_rule_good (upgraded_version t) (upgraded_byte t)) (good_of x decodes))

-- images with the same bytes in front of the last-kept minute have one rule
pub front_rule : (x c : List ℕ) → take LAST_KEPT.place c ≡ take LAST_KEPT.place x → rule_of c ≡ rule_of x
unfolding rule_of
front_rule x c same =
    let part : (q n : ℕ) → q + n ≤ LAST_KEPT.place → number_at c q n ≡ number_at x q n = λ q n inside.
    let at : 0 + q ≡ q = omega arith in
    ap (λ (p : ℕ). number_at c p n) (sym at)
    ∙ number_same x c (0 + q) n (sym (part_in c 0 LAST_KEPT.place q n inside) ∙ ap (λ (l : List ℕ). bytes_at l q n) same ∙ part_in x 0 LAST_KEPT.place q n inside)
    ∙ ap (λ (p : ℕ). number_at x p n) at in
    λ t. rule_by (rule_byte_by (part VERSION.place VERSION.size (omega arith) t) (part RULE_BYTE.place RULE_BYTE.size (omega arith) t))
