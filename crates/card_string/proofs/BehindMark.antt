-- What the judging of a card without a session makes sure of behind its end mark: no minute there tells an entry, and what a repair would
-- cut closes it.
use Rattle.std.proofs.Common.{◌≡◌, ◌⊎◌, inl, inr, ⊎_elim, ℕ, suc, ◌+◌, ◌/◌, ◌%◌, ◌<◌, ◌≤◌, Bool, true, false, cond, not, ◌&&◌, Option, Some, None, List, [], ◌∷◌, ◌++◌, length, map, filter, refl, sym, ◌∙◌, ap, subst, arith, length-append}
use Rattle.std.specs.Prelude.{nat_eq, nat_le, nat_lt}
use Rattle.std.specs.List.{AllByRecursion}
use Rattle.std.proofs.lemmas.Bool.{cases_lt, and_parts, not-true}
use Rattle.std.proofs.lemmas.Bool.Decides.{nat_tests}
use Rattle.std.proofs.lemmas.List.Elements.{filter-append}
use Rattle.card_by_hand.specs.activity_codec.declared.entries.Entry.{Entry}
use Rattle.card_by_hand.specs.activity_codec.Words.{word_minute, word_absent, word_slot, word_crew, word_act}
use Rattle.card_by_hand.specs.card_model.Days.{Day, AreDays, AreWords, Ascend, last_word, len_of}
use Rattle.card_by_hand.specs.card_model.Changes.{early, date_of}
use Rattle.card_by_hand.specs.card_model.Checks.{check, first_failing, file_place}
use Rattle.card_by_hand.proofs.card_model.Judging.{first_passes}
use Rattle.card_by_hand.proofs.card_model.Trims.{early_front}
use Rattle.card_by_hand.specs.card_retention.Entries.{IsChecked, latest, told_by}
use Rattle.card_by_hand.specs.card_retention.Shown.{is_open}
use Rattle.card_by_hand.specs.card_image.Fields.{last_of}
use Rattle.card_by_hand.specs.card_image.Judging.{PlacedWord, minute_at, words_placed, days_placed, tells_none, leaves_gap, closing_checks, words_behind_mark}
use Rattle.card_by_hand.specs.card_session.Overwriting.{IsSilentBehind}

-- ---- the words in their order: those up to the mark, and those behind it

module _ (mark : ℕ) where
  abbrev up : PlacedWord → Bool
  up p = nat_le (minute_at p) mark

  abbrev late : PlacedWord → Bool
  late p = nat_lt mark (minute_at p)

  -- None of those behind it is an entry's, and the first of them stands at the minute after it, where the latest up to it is an entry's of
  -- the mark's day.
  record Closes (before behind : List PlacedWord) : Type 0 where
    pub absent : AllByRecursion (λ (v : PlacedWord). tells_none v ≡ true) behind
    pub gap : (p : PlacedWord) → last_of before ≡ Some p → p.date ≡ date_of mark → tells_none p ≡ false → (w : PlacedWord) (ws : List PlacedWord) → behind ≡ w ∷ ws → minute_at w ≡ suc mark

  all_none : (ws : List PlacedWord) → first_failing (map (λ (v : PlacedWord). check (tells_none v) v.place) ws) ≡ None → AllByRecursion (λ (v : PlacedWord). tells_none v ≡ true) ws
  all_none [] is = tt
  all_none (w ∷ ws) is = let one = first_passes (tells_none w) w.place (map (λ (v : PlacedWord). check (tells_none v) v.place) ws) is in (one.0, all_none ws one.1)

  closing_none : (latest : Option PlacedWord) (ws : List PlacedWord) → first_failing (closing_checks mark latest ws) ≡ None → AllByRecursion (λ (v : PlacedWord). tells_none v ≡ true) ws
  closing_none latest [] is = tt
  closing_none latest (w ∷ ws) is =
      let one = first_passes (tells_none w && not (leaves_gap mark latest w)) w.place (map (λ (v : PlacedWord). check (tells_none v) v.place) ws) is in
      ((and_parts (tells_none w) (not (leaves_gap mark latest w)) one.0).0, all_none ws one.1)

  same_is : (m n : ℕ) → m ≡ n → nat_eq m n ≡ true
  same_is m n is = grind (arith, nat_tests)

  is_same : (m n : ℕ) → nat_eq m n ≡ true → m ≡ n
  is_same m n is = grind (arith, nat_tests)

  no_gap : (p w : PlacedWord) → p.date ≡ date_of mark → tells_none p ≡ false → leaves_gap mark (Some p) w ≡ false → minute_at w ≡ suc mark
  no_gap p w date present is = by (nat_eq p.date (date_of mark)) (tells_none p) (nat_eq (minute_at w) (suc mark)) refl (same_is p.date (date_of mark) date) present is
    where
      by : (a b c : Bool) → nat_eq (minute_at w) (suc mark) ≡ c → a ≡ true → b ≡ false → a && (not b && not c) ≡ false → minute_at w ≡ suc mark
      by true false true told here there none = is_same (minute_at w) (suc mark) told
      by true false false told here there none = absurd (cc)
      by true true c told here there none = absurd (cc)
      by false b c told here there none = absurd (cc)

  closes_of : (before behind : List PlacedWord) → first_failing (closing_checks mark (last_of before) behind) ≡ None → Closes before behind
  closes_of before behind is = record { absent = closing_none (last_of before) behind is; gap = gap }
    where
      gap : (p : PlacedWord) → last_of before ≡ Some p → p.date ≡ date_of mark → tells_none p ≡ false → (w : PlacedWord) (ws : List PlacedWord) → behind ≡ w ∷ ws → minute_at w ≡ suc mark
      gap p last date present w ws first =
          let passes : first_failing (closing_checks mark (Some p) (w ∷ ws)) ≡ None =
          subst (λ (o : Option PlacedWord). first_failing (closing_checks mark o (w ∷ ws)) ≡ None) last (subst (λ (l : List PlacedWord). first_failing (closing_checks mark (last_of before) l) ≡ None) first is) in
          let one = first_passes (tells_none w && not (leaves_gap mark (Some p) w)) w.place (map (λ (v : PlacedWord). check (tells_none v) v.place) ws) passes in
          no_gap p w date present (not-true (leaves_gap mark (Some p) w) (and_parts (tells_none w) (not (leaves_gap mark (Some p) w)) one.0).1)

  -- ---- of a day's words

  module _ (size oldest : ℕ) where
    abbrev placed : (k date : ℕ) → List ℕ → List PlacedWord
    placed k date ws = words_placed size oldest k date ws

    le_is : (m n : ℕ) → m ≤ n → nat_le m n ≡ true
    le_is m n le = grind (arith, nat_tests)

    le_not : (m n : ℕ) → n < m → nat_le m n ≡ false
    le_not m n lt = grind (arith, nat_tests)

    lt_is : (m n : ℕ) → m < n → nat_lt m n ≡ true
    lt_is m n lt = grind (arith, nat_tests)

    lt_not : (m n : ℕ) → n ≤ m → nat_lt m n ≡ false
    lt_not m n le = grind (arith, nat_tests)

    abbrev one : (k date w : ℕ) → PlacedWord
    one k date w = record { date = date; word = w; place = file_place size oldest k }

    -- none of them is behind the mark, or none up to it
    none_late : (k date low : ℕ) (ws : List ℕ) → Ascend low ws → date / 60 + 1439 ≤ mark → filter late (placed k date ws) ≡ []
    none_late k date low [] asc le = refl
    none_late k date low (w ∷ ws) asc le =
        ap (λ (b : Bool). cond b (one k date w ∷ filter late (placed (k + 2) date ws)) (filter late (placed (k + 2) date ws))) (lt_not mark (date / 60 + word_minute w) (omega (arith, le, asc.1)))
        ∙ none_late (k + 2) date (word_minute w) ws asc.2 le

    none_up : (k date : ℕ) (ws : List ℕ) → mark < date / 60 → filter up (placed k date ws) ≡ []
    none_up k date [] lt = refl
    none_up k date (w ∷ ws) lt =
        ap (λ (b : Bool). cond b (one k date w ∷ filter up (placed (k + 2) date ws)) (filter up (placed (k + 2) date ws))) (le_not (date / 60 + word_minute w) mark (omega (arith, lt)))
        ∙ none_up (k + 2) date ws lt

    -- the word that tells a minute, where it stands behind the mark, is no entry's
    absent_late : (k date t : ℕ) (ws : List ℕ) (v : ℕ) → AllByRecursion (λ (p : PlacedWord). tells_none p ≡ true) (filter late (placed k date ws)) → latest ws t ≡ Some v → mark < date / 60 + word_minute v → word_absent v ≡ true
    absent_late k date t [] v all is behind = absurd (cc)
    absent_late k date t (w ∷ ws) v all is behind = by (latest ws t) is (λ tail. absent_late (k + 2) date t ws v (rest (nat_lt mark (date / 60 + word_minute w)) all) tail behind)
      where
        rest : (b : Bool) → AllByRecursion (λ (p : PlacedWord). tells_none p ≡ true) (cond b (one k date w ∷ filter late (placed (k + 2) date ws)) (filter late (placed (k + 2) date ws)))
            → AllByRecursion (λ (p : PlacedWord). tells_none p ≡ true) (filter late (placed (k + 2) date ws))
        rest true each = each.1
        rest false each = each

        first : w ≡ v → word_absent v ≡ true
        first same =
            let here : mark < date / 60 + word_minute w = subst (λ (x : ℕ). mark < date / 60 + word_minute x) (sym same) behind in
            ap word_absent (sym same)
            ∙ (subst (λ (b : Bool). AllByRecursion (λ (p : PlacedWord). tells_none p ≡ true) (cond b (one k date w ∷ filter late (placed (k + 2) date ws)) (filter late (placed (k + 2) date ws)))) (lt_is mark (date / 60 + word_minute w) here) all).0

        by : (o : Option ℕ) → elim o as (λ _. Option ℕ) [ Some x ↦ Some x | None ↦ cond (nat_le (word_minute w) t) (Some w) None ] ≡ Some v → (o ≡ Some v → word_absent v ≡ true) → word_absent v ≡ true
        by (Some u) told later = later told
        by None told later = go (nat_le (word_minute w) t) told
          where
            go : (b : Bool) → cond b (Some w) None ≡ Some v → word_absent v ≡ true
            go true there = first (cc)
            go false there = absurd (cc)

    -- the words of the mark's day
    module _ (date m : ℕ) (at : mark ≡ date / 60 + m) where
      -- those that a cut leaves end with the one that tells a minute, where that is up to the mark; and the first behind it comes later
      record IsLast (k t : ℕ) (ws : List ℕ) (v : ℕ) : Type 0 where
        pub front : ℕ
        pub fronts : List ℕ
        pub some : early m ws ≡ front ∷ fronts
        pub last : last_word (early m ws) ≡ v
        pub later : (w : PlacedWord) (rest : List PlacedWord) → filter late (placed k date ws) ≡ w ∷ rest → (t < word_minute w.word) × (w.date ≡ date)

      latest_high : (low t : ℕ) (ws : List ℕ) (v : ℕ) → Ascend low ws → latest ws t ≡ Some v → low ≤ word_minute v
      latest_high low t [] v asc is = absurd (cc)
      latest_high low t (w ∷ ws) v asc is = by (latest ws t) is (λ tail. let high = latest_high (word_minute w) t ws v asc.2 tail in omega (arith, asc.0, high))
        where
          by : (o : Option ℕ) → elim o as (λ _. Option ℕ) [ Some x ↦ Some x | None ↦ cond (nat_le (word_minute w) t) (Some w) None ] ≡ Some v → (o ≡ Some v → low ≤ word_minute v) → low ≤ word_minute v
          by (Some u) told later = later told
          by None told later = go (nat_le (word_minute w) t) told
            where
              same : Some w ≡ Some v → w ≡ v
              same there = cc

              go : (b : Bool) → cond b (Some w) None ≡ Some v → low ≤ word_minute v
              go true there = subst (λ (x : ℕ). low ≤ word_minute x) (same there) asc.0
              go false there = absurd (cc)

      -- a word at a minute of the day is late, or not
      is_late : (k w : ℕ) (rest : List PlacedWord) → m < word_minute w → filter late (one k date w ∷ rest) ≡ one k date w ∷ filter late rest
      is_late k w rest lt = ap (λ (b : Bool). cond b (one k date w ∷ filter late rest) (filter late rest)) (lt_is mark (date / 60 + word_minute w) (omega (arith, at, lt)))

      not_late : (k w : ℕ) (rest : List PlacedWord) → word_minute w ≤ m → filter late (one k date w ∷ rest) ≡ filter late rest
      not_late k w rest le = ap (λ (b : Bool). cond b (one k date w ∷ filter late rest) (filter late rest)) (lt_not mark (date / 60 + word_minute w) (omega (arith, at, le)))

      is_up : (k w : ℕ) (rest : List PlacedWord) → word_minute w ≤ m → filter up (one k date w ∷ rest) ≡ one k date w ∷ filter up rest
      is_up k w rest le = ap (λ (b : Bool). cond b (one k date w ∷ filter up rest) (filter up rest)) (le_is (date / 60 + word_minute w) mark (omega (arith, at, le)))

      not_up : (k w : ℕ) (rest : List PlacedWord) → m < word_minute w → filter up (one k date w ∷ rest) ≡ filter up rest
      not_up k w rest lt = ap (λ (b : Bool). cond b (one k date w ∷ filter up rest) (filter up rest)) (le_not (date / 60 + word_minute w) mark (omega (arith, at, lt)))

      early_in : (w : ℕ) (ws : List ℕ) → word_minute w ≤ m → early m (w ∷ ws) ≡ w ∷ early m ws
      early_in w ws le = ap (λ (b : Bool). cond b (w ∷ early m ws) []) (le_is (word_minute w) m le)

      early_out : (w : ℕ) (ws : List ℕ) → m < word_minute w → early m (w ∷ ws) ≡ []
      early_out w ws lt = ap (λ (b : Bool). cond b (w ∷ early m ws) []) (le_not (word_minute w) m lt)

      -- no word tells a minute: all are behind it
      first_behind : (t x : ℕ) (xs : List ℕ) → latest (x ∷ xs) t ≡ None → t < word_minute x
      first_behind t x xs is = by (latest xs t) is
        where
          lt_of : (m n : ℕ) → nat_le m n ≡ false → n < m
          lt_of m n is = grind (arith, nat_tests)

          by : (o : Option ℕ) → elim o as (λ _. Option ℕ) [ Some y ↦ Some y | None ↦ cond (nat_le (word_minute x) t) (Some x) None ] ≡ None → t < word_minute x
          by (Some u) none = absurd (cc)
          by None none = go (nat_le (word_minute x) t) refl none
            where
              go : (b : Bool) → nat_le (word_minute x) t ≡ b → cond b (Some x) None ≡ None → t < word_minute x
              go true so there = absurd (cc)
              go false so there = lt_of (word_minute x) t so

      behind_all : (k t : ℕ) (ws : List ℕ) → m ≤ t → latest ws t ≡ None → (early m ws ≡ []) × ((w : PlacedWord) (rest : List PlacedWord) → filter late (placed k date ws) ≡ w ∷ rest → (t < word_minute w.word) × (w.date ≡ date))
      behind_all k t [] le none = (refl, λ w rest is. absurd (cc))
      behind_all k t (x ∷ xs) le none =
          let lt = first_behind t x xs none in (
            early_out x xs (omega (arith, lt, le)),
            λ w rest is. let same : one k date x ≡ w = heads (one k date x) w (filter late (placed (k + 2) date xs)) rest (sym (is_late k x (placed (k + 2) date xs) (omega (arith, lt, le))) ∙ is) in
                (subst (λ (p : PlacedWord). t < word_minute p.word) same lt, ap (λ (p : PlacedWord). p.date) (sym same)),
          )
        where
          heads : (a b : PlacedWord) (as_ bs : List PlacedWord) → a ∷ as_ ≡ b ∷ bs → a ≡ b
          heads a b as_ bs is = cc

      last_in : (k low t : ℕ) (ws : List ℕ) (v : ℕ) → Ascend low ws → m ≤ t → latest ws t ≡ Some v → word_minute v ≤ m → IsLast k t ws v
      last_in k low t [] v asc le is up_ = absurd (cc)
      last_in k low t (w ∷ ws) v asc le is up_ = by (latest ws t) refl is (λ tail. last_in (k + 2) (word_minute w) t ws v asc.2 le tail up_)
        where
          cons_last : (w : ℕ) (es : List ℕ) (f : ℕ) (fs : List ℕ) → es ≡ f ∷ fs → last_word (w ∷ es) ≡ last_word es
          cons_last w es f fs is = ap (λ (l : List ℕ). last_word (w ∷ l)) is ∙ sym (ap last_word is)

          by : (o : Option ℕ) → latest ws t ≡ o → elim o as (λ _. Option ℕ) [ Some x ↦ Some x | None ↦ cond (nat_le (word_minute w) t) (Some w) None ] ≡ Some v → (latest ws t ≡ Some v → IsLast (k + 2) t ws v) → IsLast k t (w ∷ ws) v
          by (Some u) so told later =
              let tail : latest ws t ≡ Some v = so ∙ told in
              let rest = later tail in
              let low_w : word_minute w ≤ m = omega (arith, latest_high (word_minute w) t ws v asc.2 tail, up_) in
              record {
                front = w;
                fronts = early m ws;
                some = early_in w ws low_w;
                last = ap last_word (early_in w ws low_w) ∙ cons_last w (early m ws) rest.front rest.fronts rest.some ∙ rest.last;
                later = λ p ps first. rest.later p ps (sym (not_late k w (placed (k + 2) date ws) low_w) ∙ first);
              }
          by None so told later = go (nat_le (word_minute w) t) told
            where
              same_of : Some w ≡ Some v → w ≡ v
              same_of there = cc

              go : (b : Bool) → cond b (Some w) None ≡ Some v → IsLast k t (w ∷ ws) v
              go true there =
                  let same : w ≡ v = same_of there in
                  let low_w : word_minute w ≤ m = subst (λ (x : ℕ). word_minute x ≤ m) (sym same) up_ in
                  let none = behind_all (k + 2) t ws le so in
                  record {
                    front = w;
                    fronts = early m ws;
                    some = early_in w ws low_w;
                    last = ap last_word (early_in w ws low_w) ∙ ap (λ (l : List ℕ). last_word (w ∷ l)) none.0 ∙ same;
                    later = λ p ps first. none.1 p ps (sym (not_late k w (placed (k + 2) date ws) low_w) ∙ first);
                  }
              go false there = absurd (cc)

      -- of those up to the mark the last is the last that a cut leaves
      record LastUp (k : ℕ) (ws : List ℕ) : Type 0 where
        pub p : PlacedWord
        pub is : last_of (filter up (placed k date ws)) ≡ Some p
        pub word : p.word ≡ last_word (early m ws)
        pub date_is : p.date ≡ date

      up_none : (k low : ℕ) (ws : List ℕ) → Ascend low ws → m < low → filter up (placed k date ws) ≡ []
      up_none k low [] asc lt = refl
      up_none k low (w ∷ ws) asc lt = not_up k w (placed (k + 2) date ws) (omega (arith, asc.0, lt)) ∙ up_none (k + 2) (word_minute w) ws asc.2 (omega (arith, asc.0, lt))

      last_cons : (x p : PlacedWord) (xs : List PlacedWord) → last_of xs ≡ Some p → last_of (x ∷ xs) ≡ Some p
      last_cons x p [] is = absurd (cc)
      last_cons x p (y ∷ ys) is = is

      last_up : (k low w : ℕ) (ws : List ℕ) → Ascend low (w ∷ ws) → word_minute w ≤ m → LastUp k (w ∷ ws)
      last_up k low w [] asc le = record {
        p = one k date w;
        is = ap last_of (is_up k w [] le);
        word = sym (ap last_word (early_in w [] le));
        date_is = refl;
      }
      last_up k low w (v ∷ ws) asc le = ⊎_elim
          (λ lt. record {
            p = one k date w;
            is = ap last_of (is_up k w (placed (k + 2) date (v ∷ ws)) le ∙ ap (λ (l : List PlacedWord). one k date w ∷ l) (not_up (k + 2) v (placed (k + 2 + 2) date ws) lt ∙ up_none (k + 2 + 2) (word_minute v) ws asc.2.2 lt));
            word = sym (ap last_word (early_in w (v ∷ ws) le ∙ ap (λ (l : List ℕ). w ∷ l) (early_out v ws lt)));
            date_is = refl;
          })
          (λ low_v.
          let rest = last_up (k + 2) (word_minute w) v ws asc.2 low_v in
          record {
            p = rest.p;
            is = ap last_of (is_up k w (placed (k + 2) date (v ∷ ws)) le) ∙ last_cons (one k date w) rest.p (filter up (placed (k + 2) date (v ∷ ws))) rest.is;
            word = rest.word ∙ sym (ap last_word (early_in w (v ∷ ws) le) ∙ step w v ws low_v);
            date_is = rest.date_is;
          })
          (cases_lt m (word_minute v))
        where
          step : (w v : ℕ) (ws : List ℕ) → word_minute v ≤ m → last_word (w ∷ early m (v ∷ ws)) ≡ last_word (early m (v ∷ ws))
          step w v ws le = ap (λ (l : List ℕ). last_word (w ∷ l)) (early_in v ws le) ∙ sym (ap last_word (early_in v ws le))

      -- a cut leaves all words where none is behind the mark, and the other way round
      early_all : (k : ℕ) (ws : List ℕ) → filter late (placed k date ws) ≡ [] → early m ws ≡ ws
      early_all k [] none = refl
      early_all k (w ∷ ws) none = ⊎_elim
          (λ lt. absurd (some (one k date w) (filter late (placed (k + 2) date ws)) (sym (is_late k w (placed (k + 2) date ws) lt) ∙ none)))
          (λ le. early_in w ws le ∙ ap (λ (l : List ℕ). w ∷ l) (early_all (k + 2) ws (sym (not_late k w (placed (k + 2) date ws) le) ∙ none)))
          (cases_lt m (word_minute w))
        where
          some : (p : PlacedWord) (ps : List PlacedWord) → p ∷ ps ≡ [] → ⊥
          some p ps is = cc

      all_early : (k : ℕ) (ws : List ℕ) → early m ws ≡ ws → filter late (placed k date ws) ≡ []
      all_early k [] is = refl
      all_early k (w ∷ ws) is = ⊎_elim
          (λ lt. absurd (some w ws (sym is ∙ early_out w ws lt)))
          (λ le. not_late k w (placed (k + 2) date ws) le ∙ all_early (k + 2) ws (tail (early m ws) ws (sym (early_in w ws le) ∙ is)))
          (cases_lt m (word_minute w))
        where
          some : (w : ℕ) (ws : List ℕ) → w ∷ ws ≡ [] → ⊥
          some w ws is = cc

          tail : (a b : List ℕ) → w ∷ a ≡ w ∷ b → a ≡ b
          tail a b is = cc

    -- ---- of days

    abbrev days : (k : ℕ) → List Day → List PlacedWord
    days k ds = days_placed size oldest k ds

    all_front : (a b : List PlacedWord) → AllByRecursion (λ (v : PlacedWord). tells_none v ≡ true) (a ++ b) → AllByRecursion (λ (v : PlacedWord). tells_none v ≡ true) a
    all_front [] b all = tt
    all_front (p ∷ a) b all = (all.0, all_front a b all.1)

    all_behind : (a b : List PlacedWord) → AllByRecursion (λ (v : PlacedWord). tells_none v ≡ true) (a ++ b) → AllByRecursion (λ (v : PlacedWord). tells_none v ≡ true) b
    all_behind [] b all = all
    all_behind (p ∷ a) b all = all_behind a b all.1

    -- a minute that the words behind the mark tell
    tells_no : (m t : ℕ) (ws : List ℕ) → ((v : ℕ) → latest ws t ≡ Some v → word_absent v ≡ true) → told_by m (latest ws t) ≡ None
    tells_no m t ws absent = by (latest ws t) (λ v is. absent v is)
      where
        by : (o : Option ℕ) → ((v : ℕ) → o ≡ Some v → word_absent v ≡ true) → told_by m o ≡ None
        by None none = refl
        by (Some v) none = ap (λ (b : Bool). cond b None (Some (let e : Entry = record { minute = m; slot = word_slot v; crew = word_crew v; act = word_act v } in e))) (none v refl)

    -- days behind the mark's
    silent_later : (k date : ℕ) (ds : List Day) → AreDays date ds → date_of mark ≤ date → date % 86400 ≡ 0 → AllByRecursion (λ (v : PlacedWord). tells_none v ≡ true) (filter late (days k ds)) → IsSilentBehind mark ds
    silent_later k date [] are low midnight all = tt
    silent_later k date (d ∷ ds) are low midnight all =
        let parts : AllByRecursion (λ (v : PlacedWord). tells_none v ≡ true) (filter late (placed (k + 12) d.date d.words) ++ filter late (days (k + len_of d) ds)) =
        subst (AllByRecursion (λ (v : PlacedWord). tells_none v ≡ true)) (filter-append late (placed (k + 12) d.date d.words) (days (k + len_of d) ds)) all in (
          λ t few behind. tells_no (d.date / 60 + t) t d.words
              (λ v is. absent_late (k + 12) d.date t d.words v (all_front (filter late (placed (k + 12) d.date d.words)) (filter late (days (k + len_of d) ds)) parts) is (omega (arith, are.0, are.1.midnight, low, midnight))),
          silent_later (k + len_of d) d.date ds are.2 (omega (arith, are.0, low)) are.1.midnight (all_behind (filter late (placed (k + 12) d.date d.words)) (filter late (days (k + len_of d) ds)) parts),
        )

    checked_later : (date : ℕ) (ds : List Day) → AreDays date ds → date_of mark ≤ date → IsChecked mark ds
    checked_later date [] are low = tt
    checked_later date (d ∷ ds) are low = (λ here present. absurd (omega (arith, here, are.0, low)), checked_later d.date ds are.2 (omega (arith, are.0, low)))

    up_later : (k date : ℕ) (ds : List Day) → AreDays date ds → date_of mark ≤ date → date % 86400 ≡ 0 → filter up (days k ds) ≡ []
    up_later k date [] are low midnight = refl
    up_later k date (d ∷ ds) are low midnight =
        filter-append up (placed (k + 12) d.date d.words) (days (k + len_of d) ds)
        ∙ ap (λ (l : List PlacedWord). l ++ filter up (days (k + len_of d) ds)) (none_up (k + 12) d.date d.words (omega (arith, are.0, are.1.midnight, low, midnight)))
        ∙ up_later (k + len_of d) d.date ds are.2 (omega (arith, are.0, low)) are.1.midnight

    -- the first word of a later day
    record FirstLater (k : ℕ) (d : Day) (ds : List Day) : Type 0 where
      pub w : PlacedWord
      pub rest : List PlacedWord
      pub is : filter late (days k (d ∷ ds)) ≡ w ∷ rest
      pub minute : minute_at w ≡ d.date / 60

    first_later : (k : ℕ) (d : Day) (ds : List Day) → mark < d.date / 60 → AreWords d.words → FirstLater k d ds
    first_later k d ds lt words = by d.words refl words
      where
        by : (ws : List ℕ) → d.words ≡ ws → AreWords ws → FirstLater k d ds
        by [] is are = absurd are
        by (w ∷ ws) is are = record {
          w = one (k + 12) d.date w;
          rest = filter late (placed (k + 12 + 2) d.date ws ++ days (k + len_of d) ds);
          is = ap (λ (l : List ℕ). filter late (placed (k + 12) d.date l ++ days (k + len_of d) ds)) is
              ∙ ap (λ (b : Bool). cond b (one (k + 12) d.date w ∷ filter late (placed (k + 12 + 2) d.date ws ++ days (k + len_of d) ds)) (filter late (placed (k + 12 + 2) d.date ws ++ days (k + len_of d) ds)))
              (lt_is mark (d.date / 60 + word_minute w) (omega (arith, lt)));
          minute = omega (arith, are.0);
        }

    -- THE MARK'S DAY
    module _ (k : ℕ) (d : Day) (ds : List Day) (here : d.date ≡ date_of mark) (midnight : d.date % 86400 ≡ 0) (words : AreWords d.words) (are : AreDays d.date ds)
        (closes : Closes (filter up (placed (k + 12) d.date d.words ++ days (k + len_of d) ds)) (filter late (placed (k + 12) d.date d.words ++ days (k + len_of d) ds))) where
      abbrev m : ℕ
      m = mark % 1440

      at_mark : mark ≡ d.date / 60 + mark % 1440
      at_mark = omega (arith, here)

      late_is : filter late (placed (k + 12) d.date d.words ++ days (k + len_of d) ds) ≡ filter late (placed (k + 12) d.date d.words) ++ filter late (days (k + len_of d) ds)
      late_is = filter-append late (placed (k + 12) d.date d.words) (days (k + len_of d) ds)

      append_none : (l : List PlacedWord) → l ++ [] ≡ l
      append_none [] = refl
      append_none (p ∷ l) = ap (λ (r : List PlacedWord). p ∷ r) (append_none l)

      up_is : filter up (placed (k + 12) d.date d.words ++ days (k + len_of d) ds) ≡ filter up (placed (k + 12) d.date d.words)
      up_is =
          filter-append up (placed (k + 12) d.date d.words) (days (k + len_of d) ds)
          ∙ ap (λ (l : List PlacedWord). filter up (placed (k + 12) d.date d.words) ++ l) (up_later (k + len_of d) d.date ds are (omega (arith, here)) midnight) ∙ append_none (filter up (placed (k + 12) d.date d.words))

      last_here : LastUp d.date (mark % 1440) at_mark (k + 12) d.words
      last_here = by d.words words
        where
          by : (ws : List ℕ) → AreWords ws → LastUp d.date (mark % 1440) at_mark (k + 12) ws
          by [] none = absurd none
          by (w ∷ ws) some = last_up d.date (mark % 1440) at_mark (k + 12) 0 w ws (omega arith, omega (arith, some.0), subst (λ (n : ℕ). Ascend n ws) (sym some.0) some.1) (omega (arith, some.0))

      -- where an entry's word is open at the mark, the first behind it closes it
      closed_next : word_absent (last_word (early (mark % 1440) d.words)) ≡ false → (w : PlacedWord) (ws : List PlacedWord) → filter late (placed (k + 12) d.date d.words) ++ filter late (days (k + len_of d) ds) ≡ w ∷ ws → minute_at w ≡ suc mark
      closed_next present w ws first =
          closes.gap last_here.p (ap last_of up_is ∙ last_here.is) (last_here.date_is ∙ here) (ap word_absent last_here.word ∙ present) w ws (late_is ∙ first)

      -- or the first of the next day, where none of its own is behind it
      closed_after : word_absent (last_word (early (mark % 1440) d.words)) ≡ false → filter late (placed (k + 12) d.date d.words) ≡ [] → (f : Day) (fs : List Day) → ds ≡ f ∷ fs → AreDays d.date (f ∷ fs) → f.date / 60 ≡ suc mark
      closed_after present none f fs some days_are = by (first_later (k + len_of d) f fs (omega (arith, here, days_are.0, midnight, days_are.1.midnight)) days_are.1.ordered)
        where
          by : FirstLater (k + len_of d) f fs → f.date / 60 ≡ suc mark
          by l = omega (arith, l.minute, closed_next present l.w l.rest (ap (λ (l : List PlacedWord). l ++ filter late (days (k + len_of d) ds)) none ∙ (ap (λ (l : List Day). filter late (days (k + len_of d) l)) some ∙ l.is)))

      -- what a repair would cut closes it
      checked_here : word_absent (last_word (early (mark % 1440) d.words)) ≡ false → (ds ≡ [] × (early (mark % 1440) d.words ≡ d.words)) ⊎ ((length (early (mark % 1440) d.words) < length d.words) ⊎ (suc mark % 1440 ≡ 0))
      checked_here present = by (early_front (mark % 1440) d.words).0 (early_front (mark % 1440) d.words).1
        where
          nil : (l : List ℕ) → l ++ [] ≡ l
          nil [] = refl
          nil (x ∷ l) = ap (λ (r : List ℕ). x ∷ r) (nil l)

          whole : early (mark % 1440) d.words ≡ d.words → (fs : List Day) → ds ≡ fs → (ds ≡ [] × (early (mark % 1440) d.words ≡ d.words)) ⊎ ((length (early (mark % 1440) d.words) < length d.words) ⊎ (suc mark % 1440 ≡ 0))
          whole same [] none = inl (none, same)
          whole same (f ∷ fs) some =
              let days_are : AreDays d.date (f ∷ fs) = subst (AreDays d.date) some are in
              let none : filter late (placed (k + 12) d.date d.words) ≡ [] = all_early d.date (mark % 1440) at_mark (k + 12) d.words same in
              inr (inr (omega (arith, closed_after present none f fs some days_are, days_are.1.midnight)))

          by : (rest : List ℕ) → d.words ≡ early (mark % 1440) d.words ++ rest → (ds ≡ [] × (early (mark % 1440) d.words ≡ d.words)) ⊎ ((length (early (mark % 1440) d.words) < length d.words) ⊎ (suc mark % 1440 ≡ 0))
          by [] split = whole (sym (split ∙ nil (early (mark % 1440) d.words))) ds refl
          by (r ∷ rs) split = inr (inl (omega (arith, ap length split, length-append (early (mark % 1440) d.words) (r ∷ rs))))

      -- and no minute behind it tells an entry
      silent_here : is_open mark (d ∷ ds) ≡ false → (t : ℕ) → t < 1440 → mark < d.date / 60 + t → told_by (d.date / 60 + t) (latest d.words t) ≡ None
      silent_here shut t few behind = tells_no (d.date / 60 + t) t d.words (λ v is. absent v is (word_absent v) refl)
        where
          own_absent : AllByRecursion (λ (p : PlacedWord). tells_none p ≡ true) (filter late (placed (k + 12) d.date d.words))
          own_absent = all_front (filter late (placed (k + 12) d.date d.words)) (filter late (days (k + len_of d) ds)) (subst (AllByRecursion (λ (p : PlacedWord). tells_none p ≡ true)) late_is closes.absent)

          apart : true ≡ false → ⊥
          apart never = cc

          ascends : Ascend 0 d.words
          ascends = go d.words words
            where
              go : (ws : List ℕ) → AreWords ws → Ascend 0 ws
              go [] none = absurd none
              go (w ∷ ws) some = (omega arith, omega (arith, some.0), subst (λ (n : ℕ). Ascend n ws) (sym some.0) some.1)

          -- no word behind the mark, no day behind it: it would be open
          open_still : (v : ℕ) → last_word d.words ≡ v → word_absent v ≡ false → ds ≡ [] → ⊥
          open_still v last present none = apart (sym opened ∙ shut)
            where
              same_date : d.date ≡ date_of (suc mark)
              same_date = omega (arith, here, behind, few)

              eq : (a b : ℕ) → a ≡ b → nat_eq a b ≡ true
              eq a b is = grind (arith, nat_tests)

              opened : is_open mark (d ∷ ds) ≡ true
              opened = ap (λ (l : List Day). is_open mark (d ∷ l)) none
                  ∙ ap (λ (b : Bool). b && not (word_absent (last_word d.words))) (eq d.date (date_of (suc mark)) same_date) ∙ ap (λ (b : Bool). not b) (ap word_absent last ∙ present)

          refuted : (v : ℕ) → latest d.words t ≡ Some v → word_minute v ≤ mark % 1440 → word_absent v ≡ false → ⊥
          refuted v is low present =
              let here_last = last_in d.date (mark % 1440) at_mark (k + 12) 0 t d.words v ascends (omega (arith, at_mark, behind)) is low in
              by here_last.later (ap word_absent here_last.last ∙ present) here_last.last (filter late (placed (k + 12) d.date d.words)) refl ds refl
            where
              by : ((w : PlacedWord) (rest : List PlacedWord) → filter late (placed (k + 12) d.date d.words) ≡ w ∷ rest → (t < word_minute w.word) × (w.date ≡ d.date)) → word_absent (last_word (early (mark % 1440) d.words)) ≡ false
                  → last_word (early (mark % 1440) d.words) ≡ v → (own : List PlacedWord) → filter late (placed (k + 12) d.date d.words) ≡ own → (fs : List Day) → ds ≡ fs → ⊥
              by later open_ last (w ∷ rest) first fs some =
                  let next = closed_next open_ w (rest ++ filter late (days (k + len_of d) ds)) (ap (λ (l : List PlacedWord). l ++ filter late (days (k + len_of d) ds)) first) in
                  let place = later w rest first in
                  omega (arith, next, place.0, ap (λ (n : ℕ). n / 60) place.1, behind)
              by later open_ last [] first [] none = open_still v (ap last_word (sym (early_all d.date (mark % 1440) at_mark (k + 12) d.words first)) ∙ last) present none
              by later open_ last [] first (f ∷ fs) some =
                  let days_are : AreDays d.date (f ∷ fs) = subst (AreDays d.date) some are in
                  omega (arith, closed_after open_ first f fs some days_are, days_are.0, midnight, days_are.1.midnight, behind, few)

          absent : (v : ℕ) → latest d.words t ≡ Some v → (b : Bool) → word_absent v ≡ b → word_absent v ≡ true
          absent v is true told = told
          absent v is false told = ⊎_elim
              (λ lt. absent_late (k + 12) d.date t d.words v own_absent is (omega (arith, at_mark, lt)))
              (λ le. absurd (refuted v is le told))
              (cases_lt (mark % 1440) (word_minute v))

    -- ---- ALL DAYS

    open_tail : (d : Day) (ds : List Day) → is_open mark (d ∷ ds) ≡ false → is_open mark ds ≡ false
    open_tail d [] shut = refl
    open_tail d (e ∷ ds) shut = shut

    last_append : (p : PlacedWord) (a b : List PlacedWord) → last_of b ≡ Some p → last_of (a ++ b) ≡ Some p
    last_append p [] b is = is
    last_append p (x ∷ a) b is = cons_any x (a ++ b) (last_append p a b is)
      where
        cons_any : (x : PlacedWord) (l : List PlacedWord) → last_of l ≡ Some p → last_of (x ∷ l) ≡ Some p
        cons_any x [] none = absurd (cc)
        cons_any x (y ∷ l) some = some

    older : (k : ℕ) (d : Day) (ds : List Day) → d.date < date_of mark → d.date % 86400 ≡ 0 → AreWords d.words → Closes (filter up (days k (d ∷ ds))) (filter late (days k (d ∷ ds))) → Closes (filter up (days (k + len_of d) ds)) (filter late (days (k + len_of d) ds))
    older k d ds before midnight words closes = record {
      absent = subst (AllByRecursion (λ (v : PlacedWord). tells_none v ≡ true)) late_same closes.absent;
      gap = λ p last date present w ws first. closes.gap p
          (ap last_of (filter-append up (placed (k + 12) d.date d.words) (days (k + len_of d) ds)) ∙ last_append p (filter up (placed (k + 12) d.date d.words)) (filter up (days (k + len_of d) ds)) last) date present w ws (late_same ∙ first);
    }
      where
        ascends : (ws : List ℕ) → AreWords ws → Ascend 0 ws
        ascends [] none = absurd none
        ascends (w ∷ ws) some = (omega arith, omega (arith, some.0), subst (λ (n : ℕ). Ascend n ws) (sym some.0) some.1)

        late_same : filter late (days k (d ∷ ds)) ≡ filter late (days (k + len_of d) ds)
        late_same =
            filter-append late (placed (k + 12) d.date d.words) (days (k + len_of d) ds)
            ∙ ap (λ (l : List PlacedWord). l ++ filter late (days (k + len_of d) ds)) (none_late (k + 12) d.date 0 d.words (ascends d.words words) (omega (arith, before, midnight)))

    quiet_behind : (k date : ℕ) (ds : List Day) → AreDays date ds → Closes (filter up (days k ds)) (filter late (days k ds)) → IsChecked mark ds × (is_open mark ds ≡ false → IsSilentBehind mark ds)
    quiet_behind k date [] are closes = (tt, λ shut. tt)
    quiet_behind k date (d ∷ ds) are closes = ⊎_elim
        (λ before.
        let rest = quiet_behind (k + len_of d) d.date ds are.2 (older k d ds before are.1.midnight are.1.ordered closes) in (
          (λ here present. absurd (omega (arith, here, before)), rest.0),
          λ shut. (λ t few behind. absurd (omega (arith, few, behind, before, are.1.midnight)), rest.1 (open_tail d ds shut)),
        ))
        (λ from. ⊎_elim
        (λ after. (
          (λ here present. absurd (omega (arith, here, after)), checked_later d.date ds are.2 (omega (arith, after))),
          λ shut. whole_later after,
        ))
        (λ upto.
        let here : d.date ≡ date_of mark = omega (arith, from, upto) in
        let parts : AllByRecursion (λ (v : PlacedWord). tells_none v ≡ true) (filter late (placed (k + 12) d.date d.words) ++ filter late (days (k + len_of d) ds)) =
        subst (AllByRecursion (λ (v : PlacedWord). tells_none v ≡ true)) (filter-append late (placed (k + 12) d.date d.words) (days (k + len_of d) ds)) closes.absent in (
          (λ same present. checked_here k d ds here are.1.midnight are.1.ordered are.2 closes present, checked_later d.date ds are.2 (omega (arith, here))),
          λ shut. (
            silent_here k d ds here are.1.midnight are.1.ordered are.2 closes shut,
            silent_later (k + len_of d) d.date ds are.2 (omega (arith, here)) are.1.midnight (all_behind (filter late (placed (k + 12) d.date d.words)) (filter late (days (k + len_of d) ds)) parts),
          ),
        ))
        (cases_lt (date_of mark) d.date))
        (cases_lt d.date (date_of mark))
      where
        whole_later : date_of mark < d.date → IsSilentBehind mark (d ∷ ds)
        whole_later after = silent_later k (date_of mark) (d ∷ ds) (after, are.1, are.2) (omega arith) (omega arith) closes.absent

    -- of all days whose words pass
    pub quiet_all : (ds : List Day) → AreDays 0 ds → first_failing (words_behind_mark mark (days_placed size oldest 0 ds)) ≡ None → IsChecked mark ds × (is_open mark ds ≡ false → IsSilentBehind mark ds)
    quiet_all ds are pass = quiet_behind 0 0 ds are (closes_of (filter up (days 0 ds)) (filter late (days 0 ds)) pass)
