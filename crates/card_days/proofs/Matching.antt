-- Where the days of an image stand, by what is kept of the newest one, and the drops of the oldest.
use Rattle.std.proofs.Common.{◌≡◌, ◌⊎◌, inl, inr, ⊎_elim, ℕ, ◌+◌, ◌-◌, ◌*◌, ◌%◌, ◌<◌, ◌≤◌, Bool, true, cond, List, [], ◌∷◌, ◌++◌, length, take, refl, sym, ◌∙◌, ap, subst, arith}
use Rattle.std.specs.Prelude.{nat_le, nat_eq, ◌&&◌}
use Rattle.std.proofs.lemmas.Bool.Decides.{nat_tests}
use Rattle.std.proofs.lemmas.Bool.{cases_lt, eq-eqb, le-leb, lt-leb, ne_eqb}
use Rattle.tach_media.specs.Medium.{bytes_at}
use Rattle.tach_media.specs.Plan.{Piece, piece, put_all, IsPartway}
use Rattle.card_model.specs.Bytes.{number, two_bytes}
use Rattle.card_model.specs.Changes.{Remain}
use Rattle.card_model.specs.Days.{Day, len_of, total, far, last_len, AreDays}
use Rattle.card_model.specs.Image.{StringShape, IsStringShape, circle_of, oldest_pointer, newest_pointer, IsPointer, IsPlace, spot, HoldsDays, at}
use Rattle.card_model.proofs.Lists.{total-append, last_len_is, len_least, len_most, len_even}
use Rattle.card_model.proofs.Reading.{place_then, fills, len_read, round_part}
use Rattle.card_days.specs.declared.head.DayHead.{DayHead}
use Rattle.card_days.specs.Held.{Held, IsInBounds, Knows, IsNewestHead, newest_len, end_of, oldest_at}
use Rattle.card_days.specs.Moments.{IsCleared}
use Rattle.card_days.specs.Plans.{dropped_len, left_in, drop_pieces}
use Rattle.card_days.specs.Steps.{roomier}
use Rattle.card_days.proofs.Dropping.{cleared, first_finished, newest_same, while_dropping}
use Rattle.card_days.proofs.HeadWalks.{total_even}
use Rattle.card_model.proofs.Retention.{remain_all}
use Rattle.card_days.proofs.Roomier.{remain_once, roomier_all, roomier_less}
use Rattle.card_days.proofs.Rounds.{spot_is}

-- the image holds these days, the newest of them where it is kept, and as long
pub record Matches (v : Held) (y : List ℕ) (days : List Day) : Type 0 where
  pub holds : HoldsDays v.shape y days
  pub place : v.tail.head.place ≡ newest_pointer v.shape y
  pub len : newest_len v ≡ last_len days

-- back from a place that lies so far behind both
back_from : (size o k p j n : ℕ) → p < size → IsPlace size o (k + j) n → IsPlace size p j n → IsPlace size o k p
back_from size o k p j n p_below whole last =
    ⊎_elim
    (λ a. ⊎_elim (λ b. inl (omega (arith, a, b))) (λ b. absurd (omega (arith, a, b, p_below))) last)
    (λ a. ⊎_elim (λ b. inr (omega (arith, a, b))) (λ b. inl (omega (arith, a, b))) last) whole

-- the way round
around : (size e u q : ℕ) → u ≤ size → IsPlace size e (size - u) q → IsPlace size q u e
around size e u q le place = ⊎_elim (λ a. inr (omega (arith, a, le))) (λ a. inl (omega (arith, a, le))) place

pub len_none : (v : Held) → v.tail.used ≡ 0 → newest_len v ≡ 0
len_none v none = ap (λ (b : Bool). cond b 0 (12 + 2 * v.tail.head.words)) (eq-eqb v.tail.used 0 none)

pub len_some : (v : Held) → 0 < v.tail.used → newest_len v ≡ 12 + 2 * v.tail.head.words
len_some v some = ap (λ (b : Bool). cond b 0 (12 + 2 * v.tail.head.words)) (ne_eqb v.tail.used 0 (λ is. omega (arith, some, is)))

-- what is kept tells the newest day's length
newest_words : (v : Held) (d : Day) (ds : List Day) → IsNewestHead v.tail.head v.tail.latest (d ∷ ds) → 12 + 2 * v.tail.head.words ≡ last_len (d ∷ ds)
newest_words v d [] is = let words = ap (λ (h : DayHead). h.words) is.0 in omega (arith, words)
newest_words v d (e ∷ ds) is = newest_words v e ds is

pub matches : (v : Held) (x : List ℕ) (days : List Day) → Knows v x days → Matches v x days
matches v x days k = record { holds = k.holds; place = k.place; len = by days k }
  where
    by : (days : List Day) → Knows v x days → newest_len v ≡ last_len days
    by [] k = len_none v k.used
    by (d ∷ ds) k = len_some v (omega (arith, k.used, len_least d k.holds.ordered.1)) ∙ newest_words v d ds k.newest

-- the length before the oldest day stands first on the circle
pub front_cleared : (r : StringShape) (shape : IsStringShape r) (y : List ℕ) → r.base + (4 + r.size) ≤ length y → IsPointer r.size (oldest_pointer r y) → take 2 (circle_of r y) ≡ two_bytes 0 → IsCleared r y
front_cleared r shape y inside pointer front = sym (round_part r shape y inside (oldest_pointer r y) 2 pointer.below (omega (arith, pointer.below, pointer.even, shape.even))) ∙ front

module _ (v : Held) (is : IsInBounds v) where
  abbrev r : StringShape
  r = v.shape

  len_low : (newest_len v % 2 ≡ 0) × (newest_len v ≤ 2892)
  len_low = ⊎_elim
      (λ some. let l = len_some v some in (omega (arith, l), omega (arith, l, is.few)))
      (λ none. let l = len_none v (omega (arith, none)) in (omega (arith, l), omega (arith, l)))
      (cases_lt 0 v.tail.used)

  pub end_is : IsPlace r.size v.tail.head.place (newest_len v) (end_of v) × IsPointer r.size (end_of v)
  end_is = spot_is r.size v.tail.head.place (newest_len v) is.shape.even is.pointer len_low.0 (omega (arith, len_low.1, is.shape.low))

  pub oldest_is : (u : ℕ) → u ≤ r.size → u % 2 ≡ 0 → IsPlace r.size (oldest_at v u) u (end_of v) × IsPointer r.size (oldest_at v u)
  oldest_is u le even =
      let s = spot_is r.size (end_of v) (r.size - u) is.shape.even end_is.1 (omega (arith, is.shape.even, even, le)) (omega arith) in
      (around r.size (end_of v) u (oldest_at v u) le s.0, s.1)

  module _ (y : List ℕ) (inside : r.base + (4 + r.size) ≤ length y) where
    -- the oldest of some of the newest days begins behind the others
    pub begins : (gone kept : List Day) → Matches v y (gone ++ kept) → IsPlace r.size (oldest_pointer r y) (total gone) (oldest_at v (total kept)) × IsPointer r.size (oldest_at v (total kept))
    begins gone kept m =
        let days = gone ++ kept in
        let h = m.holds in
        let all : total days + length h.rest ≡ r.size = fills r is.shape y inside days h in
        let whole : total days ≡ total gone + total kept = total-append gone kept in
        let q = oldest_is (total kept) (omega (arith, all, whole)) (total_even kept) in
        let newest : IsPlace r.size (oldest_pointer r y) (far days) v.tail.head.place = subst (λ (n : ℕ). IsPlace r.size (oldest_pointer r y) (far days) n) (sym m.place) h.distance in
        let sum : far days + newest_len v ≡ total gone + total kept = omega (arith, m.len, last_len_is days, whole) in
        let end : IsPlace r.size (oldest_pointer r y) (total gone + total kept) (end_of v) = subst (λ (n : ℕ). IsPlace r.size (oldest_pointer r y) n (end_of v)) sum
        (place_then r.size (oldest_pointer r y) (far days) v.tail.head.place (newest_len v) (end_of v) h.oldest.below is.pointer.below end_is.1.below (omega (arith, sum, whole, all)) newest end_is.0) in
        (back_from r.size (oldest_pointer r y) (total gone) (oldest_at v (total kept)) (total kept) (end_of v) q.1.below end q.0, q.1)

    -- the length that is read of a day that goes
    len_there : (gone : List Day) (d : Day) (later : List Day) → Matches v y (gone ++ d ∷ later) → number (bytes_at y (at r (spot r.size (oldest_at v (total (d ∷ later))) 2)) 2) ≡ len_of d
    len_there gone d later m =
        let o = oldest_at v (total (d ∷ later)) in
        let b = begins gone (d ∷ later) m in
        let s = spot_is r.size o 2 is.shape.even b.1 refl (omega (arith, is.shape.low)) in
        let all = fills r is.shape y inside (gone ++ d ∷ later) m.holds in
        len_read r is.shape y inside gone d later m.holds (spot r.size o 2)
        (place_then r.size (oldest_pointer r y) (total gone) o 2 (spot r.size o 2) m.holds.oldest.below b.1.below s.1.below (omega (arith, all, total-append gone (d ∷ later))) b.0 s.0)
        (omega (arith, s.1.below, s.1.even, is.shape.even))

    module _ (new : ℕ) (few : new ≤ 16) where
      abbrev room : ℕ
      room = r.size - new

      -- how many bytes are in use without the day that goes
      pub left_is : (gone kept : List Day) (u : ℕ) → Matches v y (gone ++ kept) → AreDays 0 kept → u ≡ total kept → left_in v new y u ≡ total (roomier room kept)
      left_is gone [] u m days u_is =
          ap (λ (b : Bool). cond b u (u - dropped_len (number (bytes_at y (at r (spot r.size (oldest_at v u) 2)) 2)))) (le-leb (u + new) r.size (omega (arith, u_is, few, is.shape.low))) ∙ u_is
      left_is gone (d ∷ ds) u m days u_is = ⊎_elim
          (λ lt. let read : number (bytes_at y (at r (spot r.size (oldest_at v u) 2)) 2) ≡ len_of d =
          ap (λ (k : ℕ). number (bytes_at y (at r (spot r.size (oldest_at v k) 2)) 2)) u_is ∙ len_there gone d ds m in
          let kept : dropped_len (len_of d) ≡ len_of d = takes (len_of d) (len_even d) (len_least d days.1) (len_most d days.1) in
          ap (λ (b : Bool). cond b u (u - dropped_len (number (bytes_at y (at r (spot r.size (oldest_at v u) 2)) 2)))) (lt-leb (u + new) r.size (omega (arith, u_is, lt, few, is.shape.low)))
          ∙ ap (λ (k : ℕ). u - dropped_len k) read ∙ omega (arith, kept, u_is) ∙ sym (ap total (roomier_less room d ds lt)))
          (λ fits. ap (λ (b : Bool). cond b u (u - dropped_len (number (bytes_at y (at r (spot r.size (oldest_at v u) 2)) 2)))) (le-leb (u + new) r.size (omega (arith, u_is, fits, few, is.shape.low)))
          ∙ u_is ∙ sym (ap total (roomier_all room (d ∷ ds) fits)))
          (cases_lt room (total (d ∷ ds)))
        where
          takes : (n : ℕ) → n % 2 ≡ 0 → 14 ≤ n → n ≤ 2892 → dropped_len n ≡ n
          takes n even low high = ap (λ (b : Bool). cond b n 14) (test n even low high)
            where
              test : (n : ℕ) → n % 2 ≡ 0 → 14 ≤ n → n ≤ 2892 → (nat_eq (n % 2) 0 && (nat_le 14 n && nat_le n 2892)) ≡ true
              test n even low high = let a : nat_eq (n % 2) 0 ≡ true = grind (arith, nat_tests) in
                  let b : nat_le 14 n ≡ true = grind (arith, nat_tests) in
                  let c : nat_le n 2892 ≡ true = grind (arith, nat_tests) in
                  ap (λ (t : Bool). t && (nat_le 14 n && nat_le n 2892)) a ∙ ap (λ (t : Bool). t && nat_le n 2892) b ∙ c

  -- A drop where days do not fit into the room.
  module _ (y : List ℕ) (inside : r.base + (4 + r.size) ≤ length y) (room : ℕ) (big : 2892 ≤ room) (days : List Day) (m : Matches v y days) (u left : ℕ) (u_is : u ≡ total days) (left_known : left ≡ total (roomier room days)) where
    none_pieces : total days ≤ room → drop_pieces v u left ≡ []
    none_pieces fits = ap (λ (b : Bool). cond b [] (piece r.base (two_bytes (oldest_at v left)) ∷ piece (at r (oldest_at v left)) (two_bytes 0) ∷ [])) (eq-eqb u left (omega (arith, u_is, left_known, ap total (roomier_all room days fits))))

    abbrev both : List Piece
    both = piece r.base (two_bytes (oldest_at v left)) ∷ piece (at r (oldest_at v left)) (two_bytes 0) ∷ []

    some_pieces : left < u → drop_pieces v u left ≡ both
    some_pieces lt = ap (λ (b : Bool). cond b [] both) (ne_eqb u left (λ is. omega (arith, lt, is)))

    -- there are two days at least where they do not fit
    several : {T : Type 0} → room < total days
        → ((d e : Day) (ds : List Day) → days ≡ d ∷ e ∷ ds → HoldsDays r y (d ∷ e ∷ ds) → room < total (d ∷ e ∷ ds) → IsPointer r.size (oldest_at v left) → IsPlace r.size (oldest_pointer r y) (len_of d) (oldest_at v left) → left < u → T) → T
    several {T} lt then_so = by days refl
      where
        by : (ds : List Day) → days ≡ ds → T
        by [] is_days = absurd (omega (arith, lt, ap total is_days))
        by (d ∷ []) is_days = let h = subst (λ (l : List Day). HoldsDays r y l) is_days m.holds in absurd (omega (arith, lt, ap total is_days, big, len_most d h.ordered.1))
        by (d ∷ e ∷ ds) is_days =
            let g : Matches v y (d ∷ e ∷ ds) = subst (λ (l : List Day). Matches v y l) is_days m in
            let over : room < total (d ∷ e ∷ ds) = omega (arith, lt, ap total is_days) in
            let left_is : left ≡ total (e ∷ ds) = left_known ∙ ap (λ (l : List Day). total (roomier room l)) is_days ∙ ap total (roomier_less room d (e ∷ ds) over) in
            let b = subst (λ (k : ℕ). IsPlace r.size (oldest_pointer r y) (total (d ∷ [])) (oldest_at v k) × IsPointer r.size (oldest_at v k)) (sym left_is) (begins y inside (d ∷ []) (e ∷ ds) g) in
            let one : total (d ∷ []) ≡ len_of d = omega arith in
            then_so d e ds is_days g.holds over b.1 (subst (λ (k : ℕ). IsPlace r.size (oldest_pointer r y) k (oldest_at v left)) one b.0) (omega (arith, left_is, u_is, ap total is_days))

    less_is : (d e : Day) (ds : List Day) → days ≡ d ∷ e ∷ ds → room < total (d ∷ e ∷ ds) → roomier room days ≡ e ∷ ds
    less_is d e ds is_days over = ap (λ (l : List Day). roomier room l) is_days ∙ roomier_less room d (e ∷ ds) over

    pub dropped : Matches v (put_all (drop_pieces v u left) y) (roomier room days)
    dropped = ⊎_elim
        (λ lt. several lt (λ d e ds is_days h over pointer place less.
        let same = less_is d e ds is_days over in
        subst (λ (ps : List Piece). Matches v (put_all ps y) (roomier room days)) (sym (some_pieces less)) (record {
          holds = subst (λ (l : List Day). HoldsDays r (put_all both y) l) (sym same) (first_finished r is.shape y inside d e ds h (oldest_at v left) pointer place);
          place = m.place ∙ sym (newest_same r is.shape y inside d e ds h (oldest_at v left) pointer place);
          len = m.len ∙ ap last_len is_days ∙ sym (ap last_len same);
        })))
        (λ fits. subst (λ (ps : List Piece). Matches v (put_all ps y) (roomier room days)) (sym (none_pieces fits)) (subst (λ (l : List Day). Matches v y l) (sym (roomier_all room days fits)) m))
        (cases_lt room (total days))

    pub dropping : (c : List ℕ) → IsPartway (drop_pieces v u left) y c → (kept : List Day) × Remain room days kept × HoldsDays r c kept
    dropping c part = ⊎_elim
        (λ lt. several lt (λ d e ds is_days h over pointer place less.
        ⊎_elim
        (λ held. (d ∷ e ∷ ds, subst (λ (l : List Day). Remain room days l) is_days (remain_all room days), held))
        (λ held. (e ∷ ds, subst (λ (l : List Day). Remain room days l) (less_is d e ds is_days over) (remain_once room days), held))
        (while_dropping r is.shape y inside d e ds h (oldest_at v left) pointer place c (subst (λ (ps : List Piece). IsPartway ps y c) (some_pieces less) part))))
        (λ fits. absurd (subst (λ (ps : List Piece). IsPartway ps y c) (none_pieces fits) part))
        (cases_lt room (total days))

    -- the length before the oldest day is cleared where a day goes, and stays so
    pub dropped_cleared : (room < total days) ⊎ (take 2 (circle_of r y) ≡ two_bytes 0) → take 2 (circle_of r (put_all (drop_pieces v u left) y)) ≡ two_bytes 0
    dropped_cleared before = ⊎_elim
        (λ lt. several lt (λ d e ds is_days h over pointer place less.
        subst (λ (ps : List Piece). take 2 (circle_of r (put_all ps y)) ≡ two_bytes 0) (sym (some_pieces less)) (cleared r is.shape y inside d e ds h (oldest_at v left) pointer place)))
        (λ fits. subst (λ (ps : List Piece). take 2 (circle_of r (put_all ps y)) ≡ two_bytes 0) (sym (none_pieces fits)) (⊎_elim (λ lt. absurd (omega (arith, lt, fits))) (λ c. c) before))
        (cases_lt room (total days))

    -- two writes for each day that goes
    pub dropped_count : length (drop_pieces v u left) + 2 * length (roomier room days) ≡ 2 * length days
    dropped_count = ⊎_elim
        (λ lt. several lt (λ d e ds is_days h over pointer place less. omega (arith, ap length (some_pieces less), ap length (less_is d e ds is_days over), ap length is_days)))
        (λ fits. omega (arith, ap length (none_pieces fits), ap length (roomier_all room days fits)))
        (cases_lt room (total days))
