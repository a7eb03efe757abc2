-- The newest day is cut behind a minute.
use Rattle.std.proofs.Common.{◌≡◌, inl, inr, ⊎_elim, ℕ, ◌+◌, ◌-◌, ◌*◌, ◌/◌, ◌%◌, ◌<◌, ◌≤◌, Bool, true, false, cond, List, [], ◌∷◌, ◌++◌, length, take, refl, sym, ◌∙◌, ap, subst, arith, lit≤}
use Rattle.std.specs.Prelude.{nat_eq, nat_le}
use Rattle.std.proofs.lemmas.Bool.Decides.{nat_tests}
use Rattle.tach_media.specs.Medium.{put, bytes_at, SameOutside, IsPartlyWritten}
use Rattle.tach_media.proofs.Images.{put_outside, outside_same, outside_then, outside_wider}
use Rattle.card_model.specs.Bytes.{number, two_bytes}
use Rattle.card_model.specs.Days.{Day, len_of, total, IsDay, AreDays, record_of, records}
use Rattle.card_model.specs.Image.{StringShape, IsStringShape, turned, oldest_pointer, newest_pointer, string_of, IsPointer, IsPlace, HoldsDays, IsAt, at}
use Rattle.card_model.specs.Changes.{with_newest, until, early, with_early, date_of, cut, AllLater, Shorter}
use Rattle.card_model.proofs.Ascending.{words_below, early_words_all}
use Rattle.card_model.proofs.Lists.{total-append, previous_of, len_even, len_least, len_most}
use Rattle.card_model.proofs.Numbers.{number_two}
use Rattle.card_model.proofs.Reading.{place_then, fills, from_day, day_is}
use Rattle.card_days.specs.declared.head.RecordHead.{RecordHead}
use Rattle.card_days.specs.Heads.{head_bytes}
use Rattle.card_days.specs.Trim.{IsTrimming, IsTrimmed, IsCutLast, IsCuttingLast, IsTrim, IsTrimMoment}
use Rattle.card_days.proofs.Cutting.{cut_last}
use Rattle.card_days.proofs.HeadLemmas.{len_is, date_is}
use Rattle.card_days.proofs.HeadWalks.{newest_here}
use Rattle.card_model.proofs.Trims.{with_last}
use Rattle.card_days.proofs.Lists.{split, some_newest}
use Rattle.card_days.proofs.LoadLemmas.{in_twelve}
use Rattle.card_days.proofs.Places.{Stands, stands}

-- a day cut is the day up to some minute of the day
cut_is : (minute : ℕ) (d : Day) → IsDay d → (m : ℕ) × (cut minute d ≡ with_early m d)
cut_is minute d is = by (nat_eq d.date (date_of minute)) refl
  where
    by : (b : Bool) → nat_eq d.date (date_of minute) ≡ b → (m : ℕ) × (cut minute d ≡ with_early m d)
    by true test = (minute % 1440, ap (λ (b : Bool). cond b (with_early (minute % 1440) d) d) test)
    by false test = (1439, ap (λ (b : Bool). cond b (with_early (minute % 1440) d) d) test ∙ ap (λ (ws : List ℕ). record d { words = ws }) (sym (early_words_all 1439 d.words is.ordered (omega (arith, words_below d.words is.ordered)))))

pub cut_early : (minute : ℕ) (d : Day) → d.date ≡ date_of minute → length (cut minute d).words ≡ length (early (minute % 1440) d.words)
cut_early minute d same =
    let test : nat_eq d.date (date_of minute) ≡ true = grind (arith, nat_tests) in
    ap (λ (b : Bool). length (cond b (with_early (minute % 1440) d) d).words) test

module _ (r : StringShape) (shape : IsStringShape r) (x : List ℕ) (inside : r.base + (4 + r.size) ≤ length x) (minute n : ℕ) (n_is : IsPointer r.size (newest_pointer r x) → n ≡ newest_pointer r x)
    (h : RecordHead) (head : head_bytes h ≡ take 12 (turned n (string_of r x))) (len : ℕ) (len_known : h.len % 2 ≡ 0 → h.len ≤ 2892 → len ≡ h.len) where
  -- there is no day where the length is short
  pub none_there : HoldsDays r x [] → len ≡ 0
  none_there g =
      let start : n ≡ oldest_pointer r x = n_is g.newest ∙ ⊎_elim (λ is. omega (arith, is)) (λ is. absurd (omega (arith, is, g.oldest.below))) g.distance in
      let zero_len : h.len ≡ 0 = sym (number_two h.len) ∙ ap (λ (l : List ℕ). number (bytes_at l 2 2)) head ∙ ap number (in_twelve (turned n (string_of r x)) 2 2 8 refl) ∙ ap (λ (k : ℕ). number (bytes_at (turned k (string_of r x)) 2 2)) start ∙ g.empty refl in
      len_known (ap (λ (k : ℕ). k % 2) zero_len) (omega (arith, zero_len)) ∙ zero_len

  -- the newest day's length and date
  pub newest_read : (older : List Day) (d : Day) → HoldsDays r x (older ++ d ∷ []) → (len ≡ len_of d) × (h.date ≡ d.date)
  newest_read older d g =
      let here = newest_here r shape x inside older d g n n_is in
      let q = previous_of g.previous older in
      let rest = (records (len_of d) [] ++ g.rest) ++ records g.previous older in
      let same : head_bytes h ≡ take 12 (record_of (previous_of g.previous older) d ++ ((records (len_of d) [] ++ g.rest) ++ records g.previous older)) = head ∙ ap (take 12) (from_day r shape x inside n d here) in
      let is : IsDay d = day_is 0 older d [] g.ordered in
      let read : h.len ≡ len_of d = len_is h q d rest same in
      (len_known (ap (λ (k : ℕ). k % 2) read ∙ len_even d) (omega (arith, read, len_most d is)) ∙ read, date_is h q d rest same)

  -- where the length is short there is no day
  pub none_where_short : len < 14 → (days : List Day) → HoldsDays r x days → days ≡ []
  none_where_short short [] g = refl
  none_where_short short (e ∷ es) g =
      let s = split (λ e. Unit {0}) (e ∷ es) (some_newest (e ∷ es) (λ none. cc)) in
      let h = subst (λ (l : List Day). HoldsDays r x l) s.is g in
      absurd (omega (arith, short, (newest_read s.older s.newest h).0, len_least s.newest (day_is 0 s.older s.newest [] h.ordered)))

  -- nothing is cut
  pub cut_none : len < 14 → IsCutLast r minute x x
  cut_none short = record { outside = outside_same r.base (4 + r.size) x; list = by }
    where
      by : (days : List Day) → HoldsDays r x days → HoldsDays r x (with_newest (cut minute) days)
      by [] g = g
      by (e ∷ es) g =
          let s = split (λ e. Unit {0}) (e ∷ es) (some_newest (e ∷ es) (λ none. cc)) in
          let h = subst (λ (l : List Day). HoldsDays r x l) s.is g in
          absurd (omega (arith, short, (newest_read s.older s.newest h).0, len_least s.newest (day_is 0 s.older s.newest [] h.ordered)))

  module _ (some : 14 ≤ len) (n_pointer : IsPointer r.size n) (q : ℕ) (q_place : IsPlace r.size n 2 q) (q_pointer : IsPointer r.size q) (k : ℕ)
      (k_is : (d : Day) → IsAt r x n d → (len - 12) / 2 ≡ length d.words → h.date ≡ d.date → k ≡ length (cut minute d).words) where
    abbrev y : List ℕ
    y = put (at r q) (two_bytes (12 + 2 * k)) x

    q_fits : q + 2 ≤ r.size
    q_fits = omega (arith, q_pointer.below, q_pointer.even, shape.even)

    y_outside : SameOutside r.base (4 + r.size) x y
    y_outside = outside_wider r.base (4 + r.size) (at r q) 2 x y (put_outside (at r q) (two_bytes (12 + 2 * k)) x (omega (arith, q_fits, inside))) (omega arith) (omega (arith, q_fits))

    of_last : (older : List Day) (d : Day) → HoldsDays r x (older ++ d ∷ []) → HoldsDays r y (older ++ cut minute d ∷ [])
    of_last older d g =
        let here = newest_here r shape x inside older d g n n_is in
        let is : IsDay d = day_is 0 older d [] g.ordered in
        let read = newest_read older d g in
        let count : (len - 12) / 2 ≡ length d.words = omega (arith, read.0) in
        let kept : k ≡ length (cut minute d).words = k_is d here count read.1 in
        let all : total (older ++ d ∷ []) + length g.rest ≡ r.size = fills r shape x inside (older ++ d ∷ []) g in
        let free : total older + 4 ≤ r.size = omega (arith, all, total-append older (d ∷ []), len_least d is) in
        let far_q : IsPlace r.size (oldest_pointer r x) (total older + 2) q = place_then r.size (oldest_pointer r x) (total older) n 2 q g.oldest.below n_pointer.below q_pointer.below (omega (arith, free)) here.place q_place in
        let early_is = cut_is minute d is in
        let len_new : 12 + 2 * k ≡ len_of (with_early early_is.0 d) = omega (arith, kept, ap (λ (e : Day). length e.words) early_is.1) in
        let s : Stands r (total older + 2) (two_bytes (len_of (with_early early_is.0 d))) x y = subst (λ (m : ℕ). Stands r (total older + 2) (two_bytes m) x y) len_new (stands r x inside (total older + 2) q (two_bytes (12 + 2 * k)) g.oldest.below far_q q_fits (omega (arith, free))) in
        subst (λ (e : Day). HoldsDays r y (older ++ e ∷ [])) (sym early_is.1) (cut_last r x y older d early_is.0 g s)

    pub cut_made : IsCutLast r minute x y
    cut_made = record { outside = y_outside; list = by }
      where
        by : (days : List Day) → HoldsDays r x days → HoldsDays r y (with_newest (cut minute) days)
        by [] g = absurd (omega (arith, some, none_there g))
        by (e ∷ es) g =
            let s = split (λ e. Unit {0}) (e ∷ es) (some_newest (e ∷ es) (λ none. cc)) in
            subst (λ (l : List Day). HoldsDays r y l) (sym (ap (λ (l : List Day). with_newest (cut minute) l) s.is ∙ with_last (cut minute) s.older s.newest))
            (of_last s.older s.newest (subst (λ (l : List Day). HoldsDays r x l) s.is g))

    pub while_cut : (c : List ℕ) → IsPartlyWritten (at r q) (two_bytes (12 + 2 * k)) x c → IsCuttingLast r minute x c
    while_cut c part = ⊎_elim
        (λ is. subst (λ (l : List ℕ). IsCuttingLast r minute x l) (sym is) (record { outside = outside_same r.base (4 + r.size) x; list = λ days g. inl g }))
        (λ is. subst (λ (l : List ℕ). IsCuttingLast r minute x l) (sym is) (record { outside = y_outside; list = λ days g. inr (cut_made.list days g) })) (part.whole (lit≤ tt))

-- the days up to a date are some of the days, of which only later ones are gone
later_all : (date prev : ℕ) (ds : List Day) → date ≤ prev → AreDays prev ds → AllLater date ds
later_all date prev [] le are = tt
later_all date prev (d ∷ ds) le are = (omega (arith, le, are.0), later_all date d.date ds (omega (arith, le, are.0)) are.2)

shorter_until : (date prev : ℕ) (days : List Day) → AreDays prev days → Shorter date days (until date days)
shorter_until date prev [] are = record { gone = []; is = refl; later = tt }
shorter_until date prev (d ∷ ds) are = by (shorter_until date d.date ds are.2) (nat_le d.date date) refl
  where
    by : Shorter date ds (until date ds) → (b : Bool) → nat_le d.date date ≡ b → Shorter date (d ∷ ds) (cond b (d ∷ until date ds) [])
    by so true test = record { gone = so.gone; is = ap (λ (l : List Day). d ∷ l) so.is; later = so.later }
    by so false test =
        let past : date < d.date = grind (arith, nat_tests, test) in
        record { gone = d ∷ ds; is = refl; later = (past, later_all date d.date ds (omega (arith, past)) are.2) }

module _ (r : StringShape) (minute : ℕ) (x : List ℕ) where
  pub while_dropping : (c : List ℕ) → IsTrimming r (date_of minute) 0 x c → IsTrimMoment r minute x c
  while_dropping c step = record { outside = step.outside; list = λ days h. let s = step.list days h in inl (s.0, s.1.less, s.2) }

  module _ (y : List ℕ) (made : IsTrimmed r (date_of minute) x y) where
    pub while_cutting : (c : List ℕ) → IsCuttingLast r minute y c → IsTrimMoment r minute x c
    while_cutting c step = record {
      outside = outside_then r.base (4 + r.size) x y c made.outside step.outside;
      list = λ days h. ⊎_elim (λ held. inl (until (date_of minute) days, shorter_until (date_of minute) 0 days h.ordered, held)) (λ held. inr held) (step.list (until (date_of minute) days) (made.list days h));
    }

    pub trim_made : (z : List ℕ) → IsCutLast r minute y z → IsTrim r minute x z
    trim_made z step = record {
      outside = outside_then r.base (4 + r.size) x y z made.outside step.outside;
      list = λ days h. step.list (until (date_of minute) days) (made.list days h);
    }
