-- Drops where there is no room, and then a day.
use Rattle.std.proofs.Common.{◌≡◌, ◌≢◌, ◌⊎◌, inl, inr, ⊎_elim, ℕ, ◌+◌, ◌-◌, ◌*◌, ◌%◌, ◌<◌, ◌≤◌, Bool, true, false, cond, IfSome, List, [], ◌∷◌, ◌++◌, length, take, refl, sym, ◌∙◌, ap, subst, arith, length-append, append_assoc}
use Rattle.std.specs.Prelude.{◌==◌}
use Rattle.std.proofs.lemmas.Bool.Decides.{nat_tests}
use Rattle.std.proofs.lemmas.Bool.{cases_lt}
use Rattle.tach_media.specs.Medium.{State}
use Rattle.tach_media.proofs.Runs.{both_told}
use Rattle.tach_media.specs.Plan.{Piece, put_all, IsPartway, PutsAll, PutsBy}
use Rattle.tach_media.proofs.Plans.{put_all-append, partway_either, partway_outside, puts_outside}
use Rattle.card_model.specs.Bytes.{two_bytes}
use Rattle.card_model.specs.Days.{Day, total, body, AreDays, last_word}
use Rattle.card_model.specs.Changes.{Remain, fitting, counter_after, next_counter, new_day, IsNext}
use Rattle.card_model.specs.Image.{StringShape, HoldsDays, circle_of, oldest_pointer, newest_pointer}
use Rattle.card_model.proofs.Lists.{total-append, len_least, days_after}
use Rattle.card_model.proofs.Reading.{fills}
use Rattle.card_model.proofs.Walking.{one_list}
use Rattle.card_days.specs.declared.head.DayHead.{DayHead}
use Rattle.card_days.specs.Heads.{day_head}
use Rattle.card_days.specs.Held.{Held, IsInBounds, Knows, IsNewestHead, newest_len, end_of, oldest_at}
use Rattle.card_days.specs.Moments.{IfKnown, IsDayBeginning, IsDayBegun, KnowsBegun, ClearsBegun, BeginsAgain}
use Rattle.card_days.specs.Plans.{most_drops, left_in, drop_pieces, day_pieces, count_of, day_by, beginning_pieces, tail_begun}
use Rattle.card_days.specs.Steps.{roomier, begun, Looks}
use Rattle.card_days.proofs.Beginning.{placed, newest_placed, placing, front_first, front_same, again}
use Rattle.card_days.proofs.Counting.{drops_most}
use Rattle.card_days.proofs.DayPlan.{day_put, day_part, day_most, day_least}
use Rattle.card_days.proofs.Inside.{AreInside, all_then, put_length, left_low, drop_inside, day_inside}
use Rattle.card_days.proofs.Lists.{body_long}
use Rattle.card_days.proofs.Matching.{front_cleared, begins, dropped_cleared, Matches, matches, end_is, left_is, dropped, dropping, dropped_count}
use Rattle.card_days.proofs.Putting.{puts_told, looks_clock}
use Rattle.card_model.proofs.Retention.{fitting_all, newest_gone, remain_then}
use Rattle.card_days.proofs.Roomier.{fitting_twice, next_left, remain_once, roomier_all, roomier_less}
use Rattle.card_days.proofs.Tails.{newest_last}
use Rattle.card_days.proofs.Told.{from_told}

-- the counter that is kept is that of the days
count_is : (v : Held) (x : List ℕ) (days : List Day) → Knows v x days → count_of v ≡ next_counter days
count_is v x [] k = let test : (v.tail.used == 0) ≡ true = let none = k.used in grind (arith, nat_tests) in ap (λ (b : Bool). cond b 1 (counter_after v.tail.head.counter.0)) test
count_is v x (d ∷ ds) k =
    let some : 0 < v.tail.used = omega (arith, k.used, len_least d k.holds.ordered.1) in
    let test : (v.tail.used == 0) ≡ false = grind (arith, nat_tests) in
    ap (λ (b : Bool). cond b 1 (counter_after v.tail.head.counter.0)) test ∙ by d ds k.newest
  where
    by : (d : Day) (ds : List Day) → IsNewestHead v.tail.head v.tail.latest (d ∷ ds) → counter_after v.tail.head.counter.0 ≡ next_counter (d ∷ ds)
    by d [] is = ap (λ (h : DayHead). counter_after h.counter.0) is.0
    by d (f ∷ ds) is = by f ds is

module _ (v : Held) (is : IsInBounds v) (date : ℕ) (words : List ℕ) (some : 1 ≤ length words) (few : length words ≤ 2) (x : List ℕ) (inside : v.shape.base + (4 + v.shape.size) ≤ length x) where
  abbrev r : StringShape
  r = v.shape

  abbrev new : ℕ
  new = 12 + 2 * length words

  abbrev room : ℕ
  room = r.size - new

  low : new ≤ 16
  low = omega (arith, few)

  big : 2892 ≤ room
  big = omega (arith, is.shape.low, few)

  abbrev bytes : List ℕ
  bytes = body (day_by v date words)

  bytes_long : length bytes ≡ 8 + 2 * length words
  bytes_long = body_long (day_by v date words)

  abbrev u1 : ℕ
  u1 = left_in v new x v.tail.used

  abbrev u2 : ℕ
  u2 = left_in v new x u1

  u1_low : (u1 ≤ r.size) × (u1 % 2 ≡ 0)
  u1_low = let l = left_low v is new x v.tail.used low is.most is.even in (omega (arith, l.0, is.most), l.1)

  u2_low : (u2 ≤ r.size) × (u2 % 2 ≡ 0)
  u2_low = let l = left_low v is new x u1 low u1_low.0 u1_low.1 in (omega (arith, l.0, u1_low.0), l.1)

  abbrev first : List Piece
  first = drop_pieces v v.tail.used u1

  abbrev second : List Piece
  second = drop_pieces v u1 u2

  pub beginning_inside : AreInside r (beginning_pieces v date words x)
  beginning_inside = all_then r first (second ++ day_pieces v bytes) (drop_inside v is v.tail.used u1 u1_low.0 u1_low.1)
      (all_then r second (day_pieces v bytes) (drop_inside v is u1 u2 u2_low.0 u2_low.1) (day_inside v is bytes (omega (arith, bytes_long)) (omega (arith, bytes_long, few))))

  abbrev y : List ℕ
  y = put_all first x

  y_inside : r.base + (4 + r.size) ≤ length y
  y_inside = put_length r first x inside (drop_inside v is v.tail.used u1 u1_low.0 u1_low.1)

  abbrev z : List ℕ
  z = put_all second y

  z_inside : r.base + (4 + r.size) ≤ length z
  z_inside = put_length r second y y_inside (drop_inside v is u1 u2 u2_low.0 u2_low.1)

  whole : put_all (beginning_pieces v date words x) x ≡ begun r v.tail.head.place (end_of v) (newest_len v) bytes z
  whole = put_all-append first (second ++ day_pieces v bytes) x ∙ put_all-append second (day_pieces v bytes) y ∙ day_put v bytes z

  module _ (days : List Day) (k : Knows v x days) where
    abbrev once : List Day
    once = roomier room days

    abbrev twice : List Day
    twice = roomier room once

    m0 : Matches v x days
    m0 = matches v x days k

    u1_is : u1 ≡ total once
    u1_is = left_is v is x inside new low [] days v.tail.used m0 k.holds.ordered k.used

    m1 : Matches v y once
    m1 = dropped v is x inside room big days m0 v.tail.used u1 k.used u1_is

    -- the days that are left are the newest of those in the image before
    u2_is : u2 ≡ total twice
    u2_is = ⊎_elim
        (λ lt. by_some days refl lt)
        (λ fits. let same = roomier_all room days fits in
        ap (λ (u : ℕ). left_in v new x u) (u1_is ∙ ap total same) ∙ left_is v is x inside new low [] days (total days) m0 k.holds.ordered refl ∙ sym (ap (λ (l : List Day). total (roomier room l)) same))
        (cases_lt room (total days))
      where
        by_some : (ds : List Day) → days ≡ ds → room < total days → u2 ≡ total twice
        by_some [] is_days lt = absurd (omega (arith, lt, ap total is_days))
        by_some (d ∷ ds) is_days lt =
            let m : Matches v x ((d ∷ []) ++ ds) = subst (λ (l : List Day). Matches v x l) is_days m0 in
            let less : once ≡ ds = ap (λ (l : List Day). roomier room l) is_days ∙ roomier_less room d ds (omega (arith, lt, ap total is_days)) in
            left_is v is x inside new low (d ∷ []) ds u1 m (days_after 0 d ds (subst (λ (l : List Day). AreDays 0 l) is_days k.holds.ordered)) (u1_is ∙ ap total less) ∙ sym (ap (λ (l : List Day). total (roomier room l)) less)

    m2 : Matches v z twice
    m2 = dropped v is y y_inside room big once m1 u1 u2 u1_is u2_is

    fits : (fitting room days ≡ twice) × (total twice ≤ room)
    fits = fitting_twice room 0 days k.holds.ordered (omega (arith, fills r is.shape x inside days k.holds, few))

    -- two writes for each day that goes, and at most five for the new one
    pub beginning_count : length (beginning_pieces v date words x) + 2 * length (fitting room days) ≤ 5 + 2 * length days
    beginning_count = omega (
      arith,
      length-append first (second ++ day_pieces v bytes),
      length-append second (day_pieces v bytes),
      ap length fits.0,
      day_most v bytes,
      dropped_count v is x inside room big days m0 v.tail.used u1 k.used u1_is,
      dropped_count v is y y_inside room big once m1 u1 u2 u1_is u2_is,
    )

    module _ (next : IsNext days date words) where
      left : (IsNext twice date words) × (new_day twice date words ≡ new_day days date words)
      left =
          let one = next_left room 0 days date words big k.holds.ordered next in
          let two = next_left room 0 once date words big m1.holds.ordered one.0 in
          (two.0, two.1 ∙ one.1)

      same_day : day_by v date words ≡ new_day twice date words
      same_day = ap (λ (n : ℕ). record { date = date; counter = n; km = 0; words = words }) (count_is v x days k) ∙ sym left.1

      free : total twice + new ≤ r.size
      free = omega (arith, fits.1, is.shape.low, few)

      new_list : twice ++ new_day twice date words ∷ [] ≡ fitting room days ++ new_day days date words ∷ []
      new_list = ap (λ (l : List Day). l ++ new_day twice date words ∷ []) (sym fits.0) ∙ ap (λ (d : Day). fitting room days ++ d ∷ []) left.1

      held : HoldsDays r (begun r v.tail.head.place (end_of v) (newest_len v) bytes z) (twice ++ new_day twice date words ∷ [])
      held = placed r is.shape z z_inside v.tail.head.place (end_of v) (newest_len v) date words bytes few is.pointer (end_is v is).0 (end_is v is).1 bytes_long twice m2.holds left.0 free m2.place m2.len (ap body same_day)

      pub begun_list : HoldsDays r (put_all (beginning_pieces v date words x) x) (fitting room days ++ new_day days date words ∷ [])
      begun_list = subst (λ (l : List Day). HoldsDays r (put_all (beginning_pieces v date words x) x) l) new_list (subst (λ (y : List ℕ). HoldsDays r y (twice ++ new_day twice date words ∷ [])) (sym whole) held)

      pub beginning_list : (c : List ℕ) → IsPartway (beginning_pieces v date words x) x c
          → ((kept : List Day) × Remain room days kept × HoldsDays r c kept) ⊎ HoldsDays r c (fitting room days ++ new_day days date words ∷ [])
      beginning_list c part = ⊎_elim
          (λ one. inl (dropping v is x inside room big days m0 v.tail.used u1 k.used u1_is c one))
          (λ rest. ⊎_elim
          (λ two. let held = dropping v is y y_inside room big once m1 u1 u2 u1_is u2_is c two in inl (held.0, remain_then room days once held.0 (remain_once room days) held.1, held.2))
          (λ day. ⊎_elim
          (λ still. inl (twice, remain_then room days once twice (remain_once room days) (remain_once room once), still))
          (λ more. inr (subst (λ (l : List Day). HoldsDays r c l) new_list more))
          (placing r is.shape z z_inside v.tail.head.place (end_of v) (newest_len v) date words bytes few is.pointer (end_is v is).0 (end_is v is).1 bytes_long twice m2.holds left.0 free m2.place m2.len (ap body same_day) c (day_part v bytes z c day)))
          (partway_either second (day_pieces v bytes) y c rest))
          (partway_either first (second ++ day_pieces v bytes) x c part)

      -- where a day goes, or there was none, there is no length before the oldest
      pub begun_cleared : (fitting room days ≢ days) ⊎ (days ≡ []) → take 2 (circle_of r (put_all (beginning_pieces v date words x) x)) ≡ two_bytes 0
      begun_cleared (inl other) = subst (λ (y : List ℕ). take 2 (circle_of r y) ≡ two_bytes 0) (sym whole)
          (front_same r is.shape z z_inside v.tail.head.place (end_of v) (newest_len v) date words bytes few is.pointer (end_is v is).0 (end_is v is).1 bytes_long twice m2.holds left.0 free m2.place m2.len (ap body same_day) (several twice m2.holds some_left)
          ∙ dropped_cleared v is y y_inside room big once m1 u1 u2 u1_is u2_is (inr (dropped_cleared v is x inside room big days m0 v.tail.used u1 k.used u1_is (inl goes))))
        where
          goes : room < total days
          goes = ⊎_elim (λ lt. lt) (λ le. absurd (other (fitting_all room days le))) (cases_lt room (total days))

          -- the newest day is left
          some_left : twice ≢ []
          some_left none = newest_gone room 0 days big k.holds.ordered goes (fits.0 ∙ none)

          several : (ds : List Day) → HoldsDays r z ds → ds ≢ [] → 2 ≤ total ds
          several [] g some = absurd (some refl)
          several (d ∷ ds) g some = omega (arith, len_least d g.ordered.1)
      begun_cleared (inr none) = subst (λ (y : List ℕ). take 2 (circle_of r y) ≡ two_bytes 0) (sym whole)
          (front_first r is.shape z z_inside v.tail.head.place (end_of v) (newest_len v) date words bytes few is.pointer (end_is v is).0 (end_is v is).1 bytes_long twice m2.holds left.0 free m2.place m2.len (ap body same_day) (ap (λ (l : List Day). roomier room (roomier room l)) none))

      pub begun_again : days ≡ [] → (oldest_pointer r (put_all (beginning_pieces v date words x) x) ≡ oldest_pointer r x) × (newest_pointer r (put_all (beginning_pieces v date words x) x) ≡ oldest_pointer r x)
      begun_again none =
          let same = again r is.shape z z_inside v.tail.head.place (end_of v) (newest_len v) date words bytes few is.pointer (end_is v is).0 (end_is v is).1 bytes_long twice m2.holds left.0 free m2.place m2.len (ap body same_day) (ap (λ (l : List Day). roomier room (roomier room l)) none) in
          (ap (λ (y : List ℕ). oldest_pointer r y) whole ∙ same.0 ∙ still, ap (λ (y : List ℕ). newest_pointer r y) whole ∙ same.1 ∙ still)
        where
          -- no day goes
          still : oldest_pointer r z ≡ oldest_pointer r x
          still =
              let a = (begins v is z z_inside [] twice m2).0 in
              let b = (begins v is x inside [] days m0).0 in
              let none_2 : total twice ≡ total days = ap (λ (l : List Day). total (roomier room (roomier room l))) none ∙ sym (ap total none) in
              let a' : oldest_at v (total twice) ≡ oldest_pointer r z = ⊎_elim (λ e. omega (arith, e)) (λ e. absurd (omega (arith, e, m2.holds.oldest.below))) a in
              let b' : oldest_at v (total days) ≡ oldest_pointer r x = ⊎_elim (λ e. omega (arith, e)) (λ e. absurd (omega (arith, e, k.holds.oldest.below))) b in
              sym a' ∙ ap (λ (u : ℕ). oldest_at v u) none_2 ∙ b'

      -- what is kept then
      abbrev next_held : Held
      next_held = record { shape = r; tail = tail_begun v date words (u2 + new) }

      pub begun_known : Knows next_held (put_all (beginning_pieces v date words x) x) (fitting room days ++ new_day days date words ∷ [])
      begun_known = subst (λ (l : List Day). Knows next_held (put_all (beginning_pieces v date words x) x) l) new_list (subst (λ (y : List ℕ). Knows next_held y (twice ++ new_day twice date words ∷ [])) (sym whole) (record {
        holds = held;
        place = sym (newest_placed r is.shape z z_inside v.tail.head.place (end_of v) (newest_len v) date words bytes few is.pointer (end_is v is).0 (end_is v is).1 bytes_long twice m2.holds left.0 free m2.place m2.len (ap body same_day));
        used = omega (arith, u2_is, total-append twice (new_day twice date words ∷ []));
        newest = newest_last next_held.tail.head (last_word words) twice (new_day twice date words) (ap (λ (d : Day). day_head (end_of v) d) same_day) refl;
      }))

  -- the same of an image that is told
  same_days : (days others : List Day) → Knows v x days → HoldsDays r x others → Knows v x others
  same_days days others k h = subst (λ (l : List Day). Knows v x l) (one_list r is.shape x inside days others k.holds h) k

  pub beginning_known : (c : List ℕ) → IsPartway (beginning_pieces v date words x) x c → IfKnown v (IsDayBeginning r date words) x c
  beginning_known c part =
      let outside = partway_outside r.base (4 + r.size) (beginning_pieces v date words x) beginning_inside x c inside part in
      record { outside = outside; told = λ days k. record { outside = outside; list = λ others h next. beginning_list others (same_days days others k h) next c part } }

  pub begun_told : IfKnown v (IsDayBegun r date words) x (put_all (beginning_pieces v date words x) x)
  begun_told =
      let outside = puts_outside r.base (4 + r.size) (beginning_pieces v date words x) beginning_inside x inside in
      record { outside = outside; told = λ days k. record { outside = outside; list = λ others h next. begun_list others (same_days days others k h) next } }

  pub begun_clears : ClearsBegun v date words x (put_all (beginning_pieces v date words x) x)
  begun_clears days k next which =
      front_cleared r is.shape (put_all (beginning_pieces v date words x) x) (put_length r (beginning_pieces v date words x) x inside beginning_inside) (begun_list days k next).oldest (begun_cleared days k next which)

  pub begins_again : BeginsAgain v date words x (put_all (beginning_pieces v date words x) x)
  begins_again k next = begun_again [] k next refl

  pub begun_knows : (next : Held) (used : ℕ) → next ≡ record { shape = r; tail = tail_begun v date words used } → used ≡ u2 + new → KnowsBegun v next date words x (put_all (beginning_pieces v date words x) x)
  begun_knows next used next_is used_is days k later =
      subst (λ (h : Held). Knows h (put_all (beginning_pieces v date words x) x) (fitting room days ++ new_day days date words ∷ [])) (sym (next_is ∙ ap (λ (u : ℕ). record { shape = r; tail = tail_begun v date words u }) used_is)) (begun_known days k later)

-- what the code read is what the plan tells
module _ {old mid new : State} {failed : Bool} (v : Held) (date : ℕ) (words : List ℕ) (used once twice : ℕ) (bytes : List ℕ) (used_is : used ≡ v.tail.used) (bytes_is : bytes ≡ body (day_by v date words))
    (looks : Looks old mid) (one : IfSome old.image (λ x. once ≡ left_in v (12 + 2 * length words) x used)) (two : IfSome old.image (λ x. twice ≡ left_in v (12 + 2 * length words) x once))
    (puts : PutsAll mid new failed ((drop_pieces v used once ++ drop_pieces v once twice) ++ day_pieces v bytes)) where
  abbrev ps : List Piece
  ps = (drop_pieces v used once ++ drop_pieces v once twice) ++ day_pieces v bytes

  planned : List ℕ → ℕ → List Piece
  planned x u = drop_pieces v u (left_in v (12 + 2 * length words) x u)
      ++ (drop_pieces v (left_in v (12 + 2 * length words) x u) (left_in v (12 + 2 * length words) x (left_in v (12 + 2 * length words) x u)) ++ day_pieces v (body (day_by v date words)))

  begun_plan : IfSome old.image (λ x. beginning_pieces v date words x ≡ ps)
  unfolding planned
  begun_plan = both_told old.image (λ x. beginning_pieces v date words x ≡ ps) one two (λ x was a b.
      ap (λ (u : ℕ). planned x u) (sym used_is)
      ∙ ap (λ (l : ℕ). drop_pieces v used l ++ (drop_pieces v l (left_in v (12 + 2 * length words) x l) ++ day_pieces v (body (day_by v date words)))) (sym a)
      ∙ ap (λ (l : ℕ). drop_pieces v used once ++ (drop_pieces v once l ++ day_pieces v (body (day_by v date words)))) (sym b)
      ∙ ap (λ (l : List ℕ). drop_pieces v used once ++ (drop_pieces v once twice ++ day_pieces v l)) (sym bytes_is)
      ∙ sym (append_assoc (drop_pieces v used once) (drop_pieces v once twice) (day_pieces v bytes)))

  count : length ps ≡ length (drop_pieces v used once) + length (drop_pieces v once twice) + length (day_pieces v bytes)
  count = omega (arith, length-append (drop_pieces v used once ++ drop_pieces v once twice) (day_pieces v bytes), length-append (drop_pieces v used once) (drop_pieces v once twice))

  pub begun_puts : (used + (12 + 2 * length words) ≤ v.shape.size → once ≡ used) → (v.shape.size < used + (12 + 2 * length words) → once + 14 ≤ used) → (once + (12 + 2 * length words) ≤ v.shape.size → twice ≡ once)
      → PutsBy old new failed 3 (5 + 2 * most_drops v.shape.size v.tail.used (12 + 2 * length words)) (beginning_pieces v date words)
  begun_puts kept gone still =
      puts_told ps (beginning_pieces v date words) looks begun_plan puts (omega (arith, count, day_least v bytes))
      (omega (
        arith,
        count,
        day_most v bytes,
        subst (λ (u : ℕ). length (drop_pieces v used once) + length (drop_pieces v once twice) ≤ 2 * most_drops v.shape.size u (12 + 2 * length words)) used_is
            (drops_most v v.shape.size used once twice (12 + 2 * length words) kept gone still),
      ))

  pub begun_exact : IfSome old.image (λ x. new.clock ≤ old.clock + length (beginning_pieces v date words x))
  begun_exact = from_told old.image _ (λ x. new.clock ≤ old.clock + length (beginning_pieces v date words x)) begun_plan (λ x was is. omega (arith, looks_clock looks, puts.clock, ap length is))
