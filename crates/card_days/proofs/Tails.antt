-- What is kept of the newest day.
use Rattle.std.proofs.Common.{◌≡◌, ℕ, suc, ◌+◌, ◌-◌, ◌%◌, ◌<◌, ◌≤◌, Option, Some, None, List, [], ◌∷◌, ◌++◌, length, take, get_or, refl, sym, ◌∙◌, ap, subst, arith}
use Rattle.card_model.specs.Days.{Day, len_of, far, records, IsDay, last_word}
use Rattle.card_model.specs.Image.{StringShape, IsStringShape, turned, oldest_pointer, newest_pointer, string_of, IsPointer, IsPlace, HoldsDays, IsAt}
use Rattle.card_model.proofs.Lists.{len_least, last_len_is, previous_of, last_len_last, some_words}
use Rattle.card_model.proofs.Reading.{fills, same_distance, from_day, day_is}
use Rattle.card_days.specs.declared.head.DayHead.{DayHead}
use Rattle.card_days.specs.declared.head.RecordHead.{RecordHead}
use Rattle.card_days.specs.declared.head.Tail.{Tail}
use Rattle.card_days.specs.Heads.{head_bytes, day_head_of, day_head}
use Rattle.card_days.specs.Held.{Held, Knows, IsNewestHead, tail_by, tail_in}
use Rattle.card_days.proofs.CutLast.{none_there, none_where_short, newest_read}
use Rattle.card_days.proofs.HeadLemmas.{head_is}
use Rattle.card_model.proofs.Walking.{far_below}
use Rattle.card_days.proofs.HeadWalks.{newest_here}
use Rattle.card_days.proofs.Lists.{split, some_newest}

-- what is told of the last of some days
pub newest_last : (h : DayHead) (w : ℕ) (older : List Day) (d : Day) → h ≡ day_head h.place d → w ≡ last_word d.words → IsNewestHead h w (older ++ d ∷ [])
newest_last h w [] d head word = (head, word)
newest_last h w (e ∷ []) d head word = (head, word)
newest_last h w (e ∷ f ∷ older) d head word = newest_last h w (f ∷ older) d head word

pub last_at : (ws : List ℕ) → 0 < length ws → last_word ws ≡ get_or ws (length ws - 1) 0
last_at [] some = absurd (omega (arith, some))
last_at (w ∷ []) some = refl
last_at (w ∷ v ∷ ws) some =
    let next : suc (length (v ∷ ws) - 1) ≡ length (w ∷ v ∷ ws) - 1 = omega arith in
    last_at (v ∷ ws) (omega arith) ∙ ap (λ (i : ℕ). get_or (w ∷ v ∷ ws) i 0) next

-- the tail is the one that the image tells
kept_tail : (t : Tail) (d : Day) (ds : List Day) → IsNewestHead t.head t.latest (d ∷ ds) → tail_by t.head.place t.used (d ∷ ds) ≡ Some t
kept_tail t d [] is = sym (ap (λ (h : DayHead). told h t.latest) is.0 ∙ ap (λ (w : ℕ). told (day_head t.head.place d) w) is.1)
  where
    told : DayHead → ℕ → Option Tail
    told h w = Some (record { head = h; latest = w; used = t.used })
kept_tail t d (e ∷ ds) is = kept_tail t e ds is

pub told_none : (v : Held) (x : List ℕ) (days : List Day) → Knows v x days → v.tail.used ≡ 0 → None ≡ tail_in v.shape x days
told_none v x [] k none = refl
told_none v x (d ∷ ds) k none = absurd (omega (arith, none, k.used, len_least d k.holds.ordered.1))

pub told_some : (v : Held) (x : List ℕ) (days : List Day) → Knows v x days → 0 < v.tail.used → Some v.tail ≡ tail_in v.shape x days
told_some v x [] k some = absurd (omega (arith, some, k.used))
told_some v x (d ∷ ds) k some = sym (kept_tail v.tail d ds k.newest) ∙ ap (λ (p : ℕ). tail_by p v.tail.used (d ∷ ds)) k.place ∙ ap (λ (u : ℕ). tail_by (newest_pointer v.shape x) u (d ∷ ds)) k.used

-- What the code read: the newest day's place, its head and its length.
module _ (r : StringShape) (shape : IsStringShape r) (x : List ℕ) (inside : r.base + (4 + r.size) ≤ length x) (n : ℕ) (n_is : IsPointer r.size (newest_pointer r x) → n ≡ newest_pointer r x)
    (h : RecordHead) (head : head_bytes h ≡ take 12 (turned n (string_of r x))) (len : ℕ) (len_known : h.len % 2 ≡ 0 → h.len ≤ 2892 → len ≡ h.len) where
  pub knows_none : len < 14 → (t : Tail) → t.used ≡ 0 → t.head.place ≡ n → (days : List Day) → HoldsDays r x days → Knows (record { shape = r; tail = t }) x days
  knows_none short t used place days g =
      let none : days ≡ [] = none_where_short r shape x inside 0 n n_is h head len len_known short days g in
      subst (λ (l : List Day). Knows (record { shape = r; tail = t }) x l) (sym none)
      (record { holds = subst (λ (l : List Day). HoldsDays r x l) none g; place = place ∙ n_is g.newest; used = used; newest = tt })

  module _ (some : 14 ≤ len) (o k w u : ℕ) (o_is : IsPointer r.size (oldest_pointer r x) → o ≡ oldest_pointer r x) (k_place : IsPlace r.size o k n) (k_below : k < r.size) (u_is : k + len ≤ r.size → u ≡ k + len)
      (w_is : (d : Day) → IsAt r x n d → (day_head_of h n).words - 1 < length d.words → w ≡ get_or d.words ((day_head_of h n).words - 1) 0) where
    abbrev tail : Tail
    tail = record { head = day_head_of h n; latest = w; used = u }

    knows_last : (older : List Day) (d : Day) → HoldsDays r x (older ++ d ∷ []) → Knows (record { shape = r; tail = tail }) x (older ++ d ∷ [])
    knows_last older d g =
        let here = newest_here r shape x inside older d g n n_is in
        let is : IsDay d = day_is 0 older d [] g.ordered in
        let read = newest_read r shape x inside 0 n n_is h head len len_known older d g in
        let told : day_head_of h n ≡ day_head n d = head_is h (previous_of g.previous older) d ((records (len_of d) [] ++ g.rest) ++ records g.previous older) (head ∙ ap (take 12) (from_day r shape x inside n d here)) n is in
        let words : (day_head_of h n).words ≡ length d.words = ap (λ (e : DayHead). e.words) told in
        let several : 0 < length d.words = some_words d.words is.ordered in
        let latest : w ≡ last_word d.words = w_is d here (omega (arith, words, several)) ∙ ap (λ (i : ℕ). get_or d.words (i - 1) 0) words ∙ sym (last_at d.words several) in
        let far_is : k ≡ far (older ++ d ∷ []) =
        same_distance r.size o k (far (older ++ d ∷ [])) n k_below (far_below r shape x inside (older ++ d ∷ []) g) k_place
        (subst (λ (m : ℕ). IsPlace r.size o (far (older ++ d ∷ [])) m) (sym (n_is g.newest)) (subst (λ (m : ℕ). IsPlace r.size m (far (older ++ d ∷ [])) (newest_pointer r x)) (sym (o_is g.oldest)) g.distance)) in
        record {
          holds = g;
          place = n_is g.newest;
          used = u_is (omega (arith, far_is, read.0, last_len_is (older ++ d ∷ []), last_len_last older d, fills r shape x inside (older ++ d ∷ []) g)) ∙ omega (arith, far_is, read.0, last_len_is (older ++ d ∷ []), last_len_last older d);
          newest = newest_last (day_head_of h n) w older d told latest;
        }

    pub knows_some : (days : List Day) → HoldsDays r x days → Knows (record { shape = r; tail = tail }) x days
    knows_some [] g = absurd (omega (arith, some, none_there r shape x inside 0 n n_is h head len len_known g))
    knows_some (e ∷ es) g =
        let s = split (λ e. Unit {0}) (e ∷ es) (some_newest (e ∷ es) (λ none. cc)) in
        subst (λ (l : List Day). Knows (record { shape = r; tail = tail }) x l) (sym s.is) (knows_last s.older s.newest (subst (λ (l : List Day). HoldsDays r x l) s.is g))
