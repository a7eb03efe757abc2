-- The heads of days in order, and the places of neighbours.
use Rattle.std.proofs.Common.{◌≡◌, ◌≢◌, inl, ⊎_elim, ℕ, ◌+◌, ◌%◌, ◌<◌, ◌≤◌, Option, Some, None, List, [], ◌∷◌, ◌++◌, length, take, refl, sym, ◌∙◌, ap, subst, arith, append_assoc}
use Rattle.std.specs.Prelude.{slice_get}
use Rattle.std.specs.List.{last_or}
use Rattle.tach_media.specs.Medium.{bytes_at}
use Rattle.card_model.specs.Bytes.{number}
use Rattle.card_model.specs.Days.{Day, len_of, total, far, IsDay, AreDays}
use Rattle.card_model.specs.Image.{StringShape, IsStringShape, oldest_pointer, newest_pointer, IsPointer, IsPlace, spot, HoldsDays, IsAt, at}
use Rattle.card_model.proofs.Lists.{total-append, far_last, previous_of, previous_last, len_even, len_most, len_least}
use Rattle.card_model.proofs.Numbers.{number_two}
use Rattle.card_model.proofs.Walking.{far_below}
use Rattle.card_model.proofs.Reading.{place_then, place_back, same_distance, same_place, field_place, fills, len_read, from_day, round_part, day_is}
use Rattle.card_days.specs.declared.head.DayHead.{DayHead}
use Rattle.card_days.specs.Heads.{day_head, heads_from, heads_of, older_heads, later_heads}
use Rattle.card_days.proofs.Rounds.{spot_is}

pub heads-append : (r : StringShape) (x : List ℕ) (k : ℕ) (ds es : List Day) → heads_from r x k (ds ++ es) ≡ heads_from r x k ds ++ heads_from r x (k + total ds) es
heads-append r x k [] es = ap (λ (n : ℕ). heads_from r x n es) (omega arith)
heads-append r x k (d ∷ ds) es = ap (λ (l : List DayHead). day_head (spot r.size (oldest_pointer r x) k) d ∷ l)
    (heads-append r x (k + len_of d) ds es ∙ ap (λ (n : ℕ). heads_from r x (k + len_of d) ds ++ heads_from r x n es) (omega arith))

pub last_of : (o : Option DayHead) (hs : List DayHead) (h : DayHead) → last_or o (hs ++ h ∷ []) ≡ Some h
last_of o [] h = refl
last_of o (g ∷ hs) h = last_of (Some g) hs h

pub total_even : (ds : List Day) → total ds % 2 ≡ 0
total_even [] = refl
total_even (d ∷ ds) = omega (arith, total_even ds)

-- some days are the older ones and a last one
abbrev pub Ended : List Day → Type 0
Ended ds = (front : List Day) × (last : Day) × (ds ≡ front ++ last ∷ [])

pub ended : (e : Day) (es : List Day) → Ended (e ∷ es)
ended e [] = ([], e, refl)
ended e (f ∷ es) = let s = ended f es in (e ∷ s.0, s.1, ap (λ (l : List Day). e ∷ l) s.2)

module _ (r : StringShape) (shape : IsStringShape r) (x : List ℕ) (inside : r.base + (4 + r.size) ≤ length x) where
  -- the place of a day among the days
  pub day_spot : (older : List Day) (d : Day) (later : List Day) → HoldsDays r x (older ++ d ∷ later) → (p : ℕ) → IsPointer r.size p → IsPlace r.size (oldest_pointer r x) (total older) p → spot r.size (oldest_pointer r x) (total older) ≡ p
  day_spot older d later h p pointer place =
      let all : total (older ++ d ∷ later) + length h.rest ≡ r.size = fills r shape x inside (older ++ d ∷ later) h in
      let s = spot_is r.size (oldest_pointer r x) (total older) shape.even h.oldest (total_even older) (omega (arith, all, total-append older (d ∷ later))) in
      same_place r.size (oldest_pointer r x) (total older) (spot r.size (oldest_pointer r x) (total older)) p s.1.below pointer.below s.0 place

  -- the oldest day, where the oldest pointer was read
  abbrev pub oldest_here : (d : Day) (later : List Day) → HoldsDays r x (d ∷ later) → (o : ℕ) → (IsPointer r.size (oldest_pointer r x) → o ≡ oldest_pointer r x) → IsAt r x o d
  oldest_here d later h o o_is = record { older = []; later = later; holds = h; pointer = subst (λ (n : ℕ). IsPointer r.size n) (sym (o_is h.oldest)) h.oldest; place = inl (omega (arith, o_is h.oldest)) }

  abbrev pub newest_here : (older : List Day) (d : Day) → HoldsDays r x (older ++ d ∷ []) → (n : ℕ) → (IsPointer r.size (newest_pointer r x) → n ≡ newest_pointer r x) → IsAt r x n d
  newest_here older d h n n_is = record {
    older = older;
    later = [];
    holds = h;
    pointer = subst (λ (m : ℕ). IsPointer r.size m) (sym (n_is h.newest)) h.newest;
    place = subst (λ (m : ℕ). IsPlace r.size (oldest_pointer r x) (total older) m) (sym (n_is h.newest)) (subst (λ (m : ℕ). IsPlace r.size (oldest_pointer r x) m (newest_pointer r x)) (far_last older d) h.distance);
  }

  -- what `first` answers
  pub first_is : (days : List Day) → HoldsDays r x days → (o : ℕ) (answer : Option DayHead) → (IsPointer r.size (oldest_pointer r x) → o ≡ oldest_pointer r x)
      → ((d : Day) → IsAt r x o d → answer ≡ Some (day_head o d)) → (HoldsDays r x [] → oldest_pointer r x ≡ o → answer ≡ None) → answer ≡ slice_get (heads_of r x days) 0
  first_is [] h o answer o_is there empty = empty h (sym (o_is h.oldest))
  first_is (d ∷ ds) h o answer o_is there empty =
      let here = oldest_here d ds h o o_is in
      there d here ∙ ap (λ (p : ℕ). Some (day_head p d)) (sym (day_spot [] d ds h o here.pointer here.place))

  -- what `last` answers
  pub last_is : (days : List Day) → HoldsDays r x days → (n : ℕ) (answer : Option DayHead) → (IsPointer r.size (newest_pointer r x) → n ≡ newest_pointer r x)
      → ((d : Day) → IsAt r x n d → answer ≡ Some (day_head n d)) → (HoldsDays r x [] → oldest_pointer r x ≡ n → answer ≡ None) → answer ≡ last_or None (heads_of r x days)
  last_is [] h n answer n_is there empty = empty h (⊎_elim (λ is. omega (arith, is, n_is h.newest)) (λ is. absurd (omega (arith, is, h.oldest.below))) h.distance)
  last_is (e ∷ es) h n answer n_is there empty = by_last (ended e es) h
    where
      by_last : Ended (e ∷ es) → HoldsDays r x (e ∷ es) → answer ≡ last_or None (heads_of r x (e ∷ es))
      by_last (older, d, is) h =
          let g : HoldsDays r x (older ++ d ∷ []) = subst (λ (l : List Day). HoldsDays r x l) is h in
          let here = newest_here older d g n n_is in
          there d here ∙ ap (λ (p : ℕ). Some (day_head p d)) (sym (day_spot older d [] g n here.pointer here.place))
          ∙ sym (ap (λ (l : List Day). last_or None (heads_of r x l)) is ∙ ap (λ (l : List DayHead). last_or None l) (heads-append r x 0 older (d ∷ []))
          ∙ last_of None (heads_from r x 0 older) (day_head (spot r.size (oldest_pointer r x) (0 + total older)) d)
          ∙ ap (λ (k : ℕ). Some (day_head (spot r.size (oldest_pointer r x) k) d)) (omega arith))

far_past : (older : List Day) (d e : Day) (es : List Day) → total older + len_of d ≤ far (older ++ d ∷ e ∷ es)
far_past [] d e es = omega arith
far_past (f ∷ []) d e es = omega (arith, far_past [] d e es)
far_past (f ∷ g ∷ older) d e es = omega (arith, far_past (g ∷ older) d e es)

module _ (r : StringShape) (shape : IsStringShape r) (x : List ℕ) (inside : r.base + (4 + r.size) ≤ length x) (p : ℕ) (d : Day) (here : IsAt r x p d) where
  pub room : total here.older + len_of d + total here.later ≤ r.size
  room = omega (arith, fills r shape x inside (here.older ++ d ∷ here.later) here.holds, total-append here.older (d ∷ here.later))

  pub day : IsDay d
  day = day_is 0 here.older d here.later here.holds.ordered

  -- the length that was read is the day's
  pub length_known : (len : ℕ) → ((q : ℕ) → IsPlace r.size p 2 q → q < r.size → number (bytes_at x (at r q) 2) % 2 ≡ 0 → number (bytes_at x (at r q) 2) ≤ 2892 → len ≡ number (bytes_at x (at r q) 2)) → len ≡ len_of d
  length_known len len_is =
      let f = field_place r.size p shape.even shape.low here.pointer in
      let far_field : IsPlace r.size (oldest_pointer r x) (total here.older + 2) f.0 = place_then r.size (oldest_pointer r x) (total here.older) p 2 f.0 here.holds.oldest.below here.pointer.below f.2.below (omega (arith, room, len_least d day)) here.place f.1 in
      let read : number (bytes_at x (at r f.0) 2) ≡ len_of d = len_read r shape x inside here.older d here.later here.holds f.0 far_field (omega (arith, f.2.below, f.2.even, shape.even)) in
      len_is f.0 f.1 f.2.below (ap (λ (m : ℕ). m % 2) read ∙ len_even d) (omega (arith, read, len_most d day)) ∙ read

  -- the length before it that was read
  pub previous_known : (len : ℕ) → (number (bytes_at x (at r p) 2) % 2 ≡ 0 → number (bytes_at x (at r p) 2) ≤ 2892 → len ≡ number (bytes_at x (at r p) 2)) → (front : List Day) (e : Day) → here.older ≡ front ++ e ∷ [] → len ≡ len_of e
  previous_known len len_is front e older_is =
      let before : previous_of here.holds.previous here.older ≡ len_of e = ap (λ (l : List Day). previous_of here.holds.previous l) older_is ∙ previous_last here.holds.previous front e in
      let e_day : IsDay e = day_is 0 front e (d ∷ here.later) (subst (λ (l : List Day). AreDays 0 l) (ap (λ (l : List Day). l ++ d ∷ here.later) older_is ∙ append_assoc front (e ∷ []) (d ∷ here.later)) here.holds.ordered) in
      let read : number (bytes_at x (at r p) 2) ≡ len_of e =
      ap number (sym (round_part r shape x inside p 2 here.pointer.below (omega (arith, here.pointer.below, here.pointer.even, shape.even))) ∙ ap (λ (l : List ℕ). take 2 l) (from_day r shape x inside p d here))
      ∙ number_two (previous_of here.holds.previous here.older) ∙ before in
      len_is (ap (λ (m : ℕ). m % 2) read ∙ len_even e) (omega (arith, read, len_most e e_day)) ∙ read

  -- nothing is later where the newest pointer is here
  pub at_newest : (n : ℕ) → (IsPointer r.size (newest_pointer r x) → n ≡ newest_pointer r x) → n ≡ p → here.later ≡ []
  at_newest n n_is same = by here.later here.holds room
    where
      by : (later : List Day) → HoldsDays r x (here.older ++ d ∷ later) → total here.older + len_of d + total later ≤ r.size → later ≡ []
      by [] h fits = refl
      by (e ∷ es) h fits =
          let newest : newest_pointer r x ≡ p = sym (n_is h.newest) ∙ same in
          let all : far (here.older ++ d ∷ e ∷ es) < r.size = far_below r shape x inside (here.older ++ d ∷ e ∷ es) h in
          let is : total here.older ≡ far (here.older ++ d ∷ e ∷ es) = same_distance r.size (oldest_pointer r x) (total here.older) (far (here.older ++ d ∷ e ∷ es)) p (omega (arith, fits, len_least d day)) all here.place (subst (λ (m : ℕ). IsPlace r.size (oldest_pointer r x) (far (here.older ++ d ∷ e ∷ es)) m) newest h.distance) in
          absurd (omega (arith, is, far_past here.older d e es, len_least d day))

  -- and something is where it is elsewhere
  pub before_newest : (n : ℕ) → (IsPointer r.size (newest_pointer r x) → n ≡ newest_pointer r x) → n ≢ p → here.later ≢ []
  before_newest n n_is other none =
      let h : HoldsDays r x (here.older ++ d ∷ []) = subst (λ (l : List Day). HoldsDays r x (here.older ++ d ∷ l)) none here.holds in
      let place : IsPlace r.size (oldest_pointer r x) (total here.older) (newest_pointer r x) = subst (λ (k : ℕ). IsPlace r.size (oldest_pointer r x) k (newest_pointer r x)) (far_last here.older d) h.distance in
      other (n_is h.newest ∙ same_place r.size (oldest_pointer r x) (total here.older) (newest_pointer r x) p h.newest.below here.pointer.below place here.place)

  -- the day after it
  abbrev pub next_here : (e : Day) (es : List Day) → here.later ≡ e ∷ es → (q : ℕ) → IsPlace r.size p (len_of d) q → IsPointer r.size q → IsAt r x q e
  next_here e es later_is q q_place q_pointer = record {
    older = here.older ++ d ∷ [];
    later = es;
    holds = subst (λ (l : List Day). HoldsDays r x l) (ap (λ (l : List Day). here.older ++ d ∷ l) later_is ∙ sym (append_assoc here.older (d ∷ []) (e ∷ es))) here.holds;
    pointer = q_pointer;
    place = subst (λ (k : ℕ). IsPlace r.size (oldest_pointer r x) k q) (omega (arith, total-append here.older (d ∷ [])))
        (place_then r.size (oldest_pointer r x) (total here.older) p (len_of d) q here.holds.oldest.below here.pointer.below q_pointer.below (omega (arith, room)) here.place q_place);
  }

  -- the day before it
  abbrev pub previous_here : (front : List Day) (e : Day) → here.older ≡ front ++ e ∷ [] → (q : ℕ) → IsPlace r.size q (len_of e) p → IsPointer r.size q → IsAt r x q e
  previous_here front e older_is q q_place q_pointer =
      let whole : total here.older ≡ total front + len_of e = ap total older_is ∙ total-append front (e ∷ []) ∙ omega arith in
      record {
        older = front;
        later = d ∷ here.later;
        holds = subst (λ (l : List Day). HoldsDays r x l) (ap (λ (l : List Day). l ++ d ∷ here.later) older_is ∙ append_assoc front (e ∷ []) (d ∷ here.later)) here.holds;
        pointer = q_pointer;
        place = place_back r.size (oldest_pointer r x) (total front) (len_of e) q p here.holds.oldest.below q_pointer.below here.pointer.below (omega (arith, whole, room, len_least d day))
            (subst (λ (k : ℕ). IsPlace r.size (oldest_pointer r x) k p) whole here.place) q_place;
      }

  -- what `after` answers
  pub after_none : (n : ℕ) → (IsPointer r.size (newest_pointer r x) → n ≡ newest_pointer r x) → n ≡ p → None ≡ slice_get (later_heads r x p d here) 0
  after_none n n_is same = sym (ap (λ (l : List Day). slice_get (heads_from r x (total here.older + len_of d) l) 0) (at_newest n n_is same))

  pub after_some : (n : ℕ) → (IsPointer r.size (newest_pointer r x) → n ≡ newest_pointer r x) → n ≢ p → (len q : ℕ) (answer : Option DayHead)
      → ((j : ℕ) → IsPlace r.size p 2 j → j < r.size → number (bytes_at x (at r j) 2) % 2 ≡ 0 → number (bytes_at x (at r j) 2) ≤ 2892 → len ≡ number (bytes_at x (at r j) 2))
      → IsPlace r.size p len q → IsPointer r.size q → ((e : Day) → IsAt r x q e → answer ≡ Some (day_head q e)) → answer ≡ slice_get (later_heads r x p d here) 0
  after_some n n_is other len q answer len_is q_place q_pointer there = by here.later refl
    where
      by : (later : List Day) → here.later ≡ later → answer ≡ slice_get (later_heads r x p d here) 0
      by [] later_is = absurd (before_newest n n_is other later_is)
      by (e ∷ es) later_is =
          let next = next_here e es later_is q (subst (λ (k : ℕ). IsPlace r.size p k q) (length_known len len_is) q_place) q_pointer in
          let spotted : spot r.size (oldest_pointer r x) (total (here.older ++ d ∷ [])) ≡ q = day_spot r shape x inside (here.older ++ d ∷ []) e es next.holds q q_pointer next.place in
          there e next ∙ ap (λ (k : ℕ). Some (day_head k e)) (sym spotted) ∙ ap (λ (k : ℕ). Some (day_head (spot r.size (oldest_pointer r x) k) e)) (omega (arith, total-append here.older (d ∷ [])))
          ∙ sym (ap (λ (l : List Day). slice_get (heads_from r x (total here.older + len_of d) l) 0) later_is)

  -- nothing is older where the oldest pointer is here
  pub at_oldest : (o : ℕ) → (IsPointer r.size (oldest_pointer r x) → o ≡ oldest_pointer r x) → o ≡ p → here.older ≡ []
  at_oldest o o_is same = by here.older refl
    where
      by : (older : List Day) → here.older ≡ older → here.older ≡ []
      by [] older_is = older_is
      by (f ∷ fs) older_is =
          let start : IsPlace r.size (oldest_pointer r x) 0 p = inl (omega (arith, o_is here.holds.oldest, same)) in
          let none : total here.older ≡ 0 = same_distance r.size (oldest_pointer r x) (total here.older) 0 p (omega (arith, room, len_least d day)) (omega (arith, shape.low)) here.place start in
          absurd (omega (arith, none, ap total older_is))

  pub after_oldest : (o : ℕ) → (IsPointer r.size (oldest_pointer r x) → o ≡ oldest_pointer r x) → o ≢ p → here.older ≢ []
  after_oldest o o_is other none =
      let place : IsPlace r.size (oldest_pointer r x) 0 p = subst (λ (k : ℕ). IsPlace r.size (oldest_pointer r x) k p) (ap total none) here.place in
      other (o_is here.holds.oldest ∙ same_place r.size (oldest_pointer r x) 0 (oldest_pointer r x) p here.holds.oldest.below here.pointer.below (inl (omega arith)) place)

  -- what `before` answers
  pub before_none : (o : ℕ) → (IsPointer r.size (oldest_pointer r x) → o ≡ oldest_pointer r x) → o ≡ p → None ≡ last_or None (older_heads r x p d here)
  before_none o o_is same = sym (ap (λ (l : List Day). last_or None (heads_from r x 0 l)) (at_oldest o o_is same))

  pub before_some : (o : ℕ) → (IsPointer r.size (oldest_pointer r x) → o ≡ oldest_pointer r x) → o ≢ p → (len q : ℕ) (answer : Option DayHead)
      → (number (bytes_at x (at r p) 2) % 2 ≡ 0 → number (bytes_at x (at r p) 2) ≤ 2892 → len ≡ number (bytes_at x (at r p) 2))
      → IsPlace r.size q len p → IsPointer r.size q → ((e : Day) → IsAt r x q e → answer ≡ Some (day_head q e)) → answer ≡ last_or None (older_heads r x p d here)
  before_some o o_is other len q answer len_is q_place q_pointer there = by here.older refl
    where
      with_end : Ended here.older → answer ≡ last_or None (older_heads r x p d here)
      with_end (front, e, older_is) =
          let previous = previous_here front e older_is q (subst (λ (k : ℕ). IsPlace r.size q k p) (previous_known len len_is front e older_is) q_place) q_pointer in
          let spotted : spot r.size (oldest_pointer r x) (total front) ≡ q = day_spot r shape x inside front e (d ∷ here.later) previous.holds q q_pointer previous.place in
          there e previous ∙ ap (λ (k : ℕ). Some (day_head k e)) (sym spotted)
          ∙ sym (ap (λ (l : List Day). last_or None (heads_from r x 0 l)) older_is ∙ ap (λ (l : List DayHead). last_or None l) (heads-append r x 0 front (e ∷ []))
          ∙ last_of None (heads_from r x 0 front) (day_head (spot r.size (oldest_pointer r x) (0 + total front)) e)
          ∙ ap (λ (k : ℕ). Some (day_head (spot r.size (oldest_pointer r x) k) e)) (omega arith))

      by : (older : List Day) → here.older ≡ older → answer ≡ last_or None (older_heads r x p d here)
      by [] older_is = absurd (after_oldest o o_is other older_is)
      by (f ∷ fs) older_is = with_end (subst Ended (sym older_is) (ended f fs))
