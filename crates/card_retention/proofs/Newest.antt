-- The newest minute that an insertion ends with, by the entries of the card.
use Rattle.std.proofs.Common.{◌≡◌, ◌⊎◌, inl, inr, ⊎_elim, ℕ, zero, suc, ◌+◌, ◌/◌, ◌%◌, ◌<◌, ◌≤◌, max, Bool, true, false, cond, not, ◌&&◌, Option, Some, None, List, [], ◌∷◌, ◌++◌, refl, sym, ◌∙◌, ap, subst, arith}
use Rattle.std.specs.Prelude.{nat_eq, nat_le}
use Rattle.std.proofs.Math.Nat.{le-max_left, le-max_right, max-le, max-eq_left, max-eq_right}
use Rattle.std.proofs.lemmas.Bool.Decides.{nat_tests}
use Rattle.std.proofs.lemmas.Bool.{cases_lt, le-leb, leb-true, lt-leb}
use Rattle.activity_codec.specs.declared.entries.Entry.{Entry}
use Rattle.activity_codec.specs.Words.{word_absent, word_slot, word_crew, word_act, word_minute}
use Rattle.card_model.specs.Days.{Day, AreDays, AreWords, Ascend, last_word}
use Rattle.card_model.specs.Changes.{date_of}
use Rattle.card_model.proofs.Ascending.{words_ascend}
use Rattle.card_retention.specs.Shown.{is_open}
use Rattle.card_retention.specs.Entries.{latest, told_by, entry_at, minutes_from, day_entries, entries_up_to, last_entry, newest_word, closed_at, newest_minute, EndsBy}

-- THE LIST OF MINUTES
last_back : (es fs : List Entry) (f : Entry) → last_entry (es ++ f ∷ fs) ≡ last_entry (f ∷ fs)
last_back [] fs f = refl
last_back (e ∷ []) fs f = refl
last_back (e ∷ g ∷ es) fs f = last_back (g ∷ es) fs f

pub minutes_none : (f : ℕ → Option Entry) (n t : ℕ) → ((s : ℕ) → t ≤ s → f s ≡ None) → minutes_from f n t ≡ []
minutes_none f zero t none = refl
minutes_none f (suc n) t none = ap (λ (o : Option Entry). elim o as (λ _. List Entry) [ Some e ↦ e ∷ minutes_from f n (t + 1) | None ↦ minutes_from f n (t + 1) ]) (none t (omega arith)) ∙ minutes_none f n (t + 1) (λ s le. none s (omega (arith, le)))

-- the last minute that tells an entry
minutes_last : (f : ℕ → Option Entry) (e : Entry) (u : ℕ) → f u ≡ Some e → ((s : ℕ) → u < s → f s ≡ None) → (n t : ℕ) → t ≤ u → u < t + n → last_entry (minutes_from f n t) ≡ Some e
minutes_last f e u is none zero t le lt = absurd (omega (arith, le, lt))
minutes_last f e u is none (suc n) t le lt = ⊎_elim
    (λ below. by (f t) (minutes_last f e u is none n (t + 1) (omega (arith, below)) (omega (arith, lt))))
    (λ not_below. here (omega (arith, le, not_below)))
    (cases_lt t u)
  where
    by : (o : Option Entry) → last_entry (minutes_from f n (t + 1)) ≡ Some e → last_entry (elim o as (λ _. List Entry) [ Some x ↦ x ∷ minutes_from f n (t + 1) | None ↦ minutes_from f n (t + 1) ]) ≡ Some e
    by None rest = rest
    by (Some x) rest = behind x (minutes_from f n (t + 1)) rest
      where
        behind : (x : Entry) (es : List Entry) → last_entry es ≡ Some e → last_entry (x ∷ es) ≡ Some e
        behind x [] r = absurd (cc)
        behind x (y ∷ es) r = r

    here : t ≡ u → last_entry (minutes_from f (suc n) t) ≡ Some e
    here same =
        ap (λ (o : Option Entry). last_entry (elim o as (λ _. List Entry) [ Some x ↦ x ∷ minutes_from f n (t + 1) | None ↦ minutes_from f n (t + 1) ])) (ap f same ∙ is)
        ∙ ap (λ (es : List Entry). last_entry (e ∷ es)) (minutes_none f n (t + 1) (λ s le. none s (omega (arith, same, le))))

-- of what is told each has its minute
pub record Has (f : ℕ → Option Entry) (below : ℕ) (e : Entry) : Type 0 where
  pub t : ℕ
  pub low : t < below
  pub is : f t ≡ Some e

minutes_has : (f : ℕ → Option Entry) (n t : ℕ) (e : Entry) → last_entry (minutes_from f n t) ≡ Some e → Has f (t + n) e
minutes_has f zero t e is = absurd (none is)
  where
    none : last_entry [] ≡ Some e → ⊥
    none is = cc
minutes_has f (suc n) t e is = by (f t) refl is (λ l. let h = minutes_has f n (t + 1) e l in record { t = h.t; low = omega (arith, h.low); is = h.is })
  where
    by : (o : Option Entry) → f t ≡ o → last_entry (elim o as (λ _. List Entry) [ Some x ↦ x ∷ minutes_from f n (t + 1) | None ↦ minutes_from f n (t + 1) ]) ≡ Some e → (last_entry (minutes_from f n (t + 1)) ≡ Some e → Has f (t + suc n) e) → Has f (t + suc n) e
    by None here l rest = rest l
    by (Some x) here l rest = behind (minutes_from f n (t + 1)) l rest
      where
        behind : (es : List Entry) → last_entry (x ∷ es) ≡ Some e → (last_entry es ≡ Some e → Has f (t + suc n) e) → Has f (t + suc n) e
        behind [] l rest = record { t = t; low = omega arith; is = here ∙ l }
        behind (y ∷ es) l rest = rest l

-- THE LATEST WORD
pub latest_low : (low t : ℕ) (ws : List ℕ) (w : ℕ) → Ascend low (w ∷ ws) → word_minute (last_word (w ∷ ws)) ≤ t → latest (w ∷ ws) t ≡ Some (last_word (w ∷ ws))
latest_low low t [] w a le = ap (λ (b : Bool). cond b (Some w) None) (le-leb (word_minute w) t le)
latest_low low t (v ∷ ws) w a le = ap (λ (o : Option ℕ). elim o as (λ _. Option ℕ) [ Some x ↦ Some x | None ↦ cond (nat_le (word_minute w) t) (Some w) None ]) (latest_low (word_minute w) t ws v a.2 le)

pub latest_last : (t : ℕ) (ws : List ℕ) → AreWords ws → word_minute (last_word ws) ≤ t → latest ws t ≡ Some (last_word ws)
latest_last t [] are le = absurd are
latest_last t (w ∷ ws) are le = latest_low 0 t ws w (words_ascend (w ∷ ws) are) le

-- AN ENTRY of a minute of a day
pub record IsEntry (mark : ℕ) (d : Day) (t : ℕ) (e : Entry) : Type 0 where
  pub minute : e.minute ≡ d.date / 60 + t
  pub low : e.minute ≤ mark
  pub word : ℕ
  pub latest : latest d.words t ≡ Some word
  pub present : word_absent word ≡ false
  pub is : e ≡ record { minute = d.date / 60 + t; slot = word_slot word; crew = word_crew word; act = word_act word }

pub entry_is : (mark : ℕ) (d : Day) (t : ℕ) (e : Entry) → entry_at mark d t ≡ Some e → IsEntry mark d t e
entry_is mark d t e is = by (nat_le (d.date / 60 + t) mark) refl (latest d.words t) refl is
  where
    by : (b : Bool) → nat_le (d.date / 60 + t) mark ≡ b → (o : Option ℕ) → latest d.words t ≡ o → cond b (told_by (d.date / 60 + t) o) None ≡ Some e → IsEntry mark d t e
    by false test o here is = absurd (cc)
    by true test None here is = absurd (cc)
    by true test (Some w) here is = go (word_absent w) refl is
      where
        go : (a : Bool) → word_absent w ≡ a → cond a None (Some (record { minute = d.date / 60 + t; slot = word_slot w; crew = word_crew w; act = word_act w })) ≡ Some e → IsEntry mark d t e
        go true absent is = absurd (cc)
        go false absent is = record { minute = minute same; low = omega (arith, minute same, leb-true (d.date / 60 + t) mark test); word = w; latest = here; present = absent; is = sym same }
          where
            same : record { minute = d.date / 60 + t; slot = word_slot w; crew = word_crew w; act = word_act w } ≡ e
            same = cc

            minute : (let x : Entry = record { minute = d.date / 60 + t; slot = word_slot w; crew = word_crew w; act = word_act w } in x) ≡ e → e.minute ≡ d.date / 60 + t
            minute s = sym (ap (λ (x : Entry). x.minute) s)

pub late_none : (mark : ℕ) (d : Day) (s : ℕ) → mark < d.date / 60 + s → entry_at mark d s ≡ None
late_none mark d s lt = ap (λ (b : Bool). cond b (told_by (d.date / 60 + s) (latest d.words s)) None) (lt-leb (d.date / 60 + s) mark lt)

pub day_has : (mark : ℕ) (d : Day) (e : Entry) → last_entry (day_entries mark d) ≡ Some e → Has (entry_at mark d) 1440 e
unfolding day_entries
day_has mark d e is = minutes_has (entry_at mark d) 1440 0 e is

day_last : (mark : ℕ) (d : Day) (e : Entry) (t : ℕ) → t < 1440 → entry_at mark d t ≡ Some e → ((s : ℕ) → t < s → entry_at mark d s ≡ None) → last_entry (day_entries mark d) ≡ Some e
unfolding day_entries
day_last mark d e t lt is none = minutes_last (entry_at mark d) e t is none 1440 0 (omega arith) (omega (arith, lt))

last_more : (es fs : List Entry) (e : Entry) → last_entry fs ≡ Some e → last_entry (es ++ fs) ≡ Some e
last_more es [] e is = absurd (none is)
  where
    none : last_entry [] ≡ Some e → ⊥
    none is = cc
last_more es (f ∷ fs) e is = last_back es fs f ∙ is

pub last_split : (es fs : List Entry) (e : Entry) → last_entry (es ++ fs) ≡ Some e → (last_entry fs ≡ Some e) ⊎ (last_entry es ≡ Some e)
last_split es [] e is = inr (subst (λ (l : List Entry). last_entry l ≡ Some e) (nil es) is)
  where
    nil : (es : List Entry) → es ++ [] ≡ es
    nil [] = refl
    nil (x ∷ es) = ap (λ (l : List Entry). x ∷ l) (nil es)
last_split es (f ∷ fs) e is = inl (sym (last_back es fs f) ∙ is)

-- the newest word is not before the day of the oldest
pub word_late : (date : ℕ) (d : Day) (ds : List Day) → AreDays date (d ∷ ds) → d.date / 60 ≤ newest_word (d ∷ ds)
word_late date d [] are = omega arith
word_late date d (e ∷ ds) are = omega (arith, are.2.0, word_late d.date e ds are.2)

pub entries_low : (mark : ℕ) (ds : List Day) (p : Entry) → last_entry (entries_up_to mark ds) ≡ Some p → p.minute ≤ mark
entries_low mark [] p is = absurd (none is)
  where
    none : last_entry [] ≡ Some p → ⊥
    none is = cc
entries_low mark (d ∷ ds) p is = ⊎_elim
    (λ rest. entries_low mark ds p rest)
    (λ here. let h = day_has mark d p here in (entry_is mark d h.t p h.is).low) (last_split (day_entries mark d) (entries_up_to mark ds) p is)

-- an entry at the mark, where the day has room behind it and no closing word is wanting: a word stands behind the mark
word_behind : (mark date : ℕ) (ds : List Day) (p : Entry) → AreDays date ds → last_entry (entries_up_to mark ds) ≡ Some p → p.minute ≡ mark → 0 < suc mark % 1440 → is_open mark ds ≡ false → mark < newest_word ds
word_behind mark date [] p are is at room shut = absurd (none is)
  where
    none : last_entry [] ≡ Some p → ⊥
    none is = cc
word_behind mark date (d ∷ []) p are is at room shut = ⊎_elim
    (λ rest. absurd (none rest))
    (λ here. let h = day_has mark d p here in by h (entry_is mark d h.t p h.is)) (last_split (day_entries mark d) [] p is)
  where
    none : last_entry [] ≡ Some p → ⊥
    none is = cc

    by : (h : Has (entry_at mark d) 1440 p) → IsEntry mark d h.t p → mark < d.date / 60 + word_minute (last_word d.words)
    by h e = ⊎_elim
        (λ lt. omega (arith, lt, e.minute, at))
        (λ le. absurd (open_not (nat_eq d.date (date_of (suc mark))) (word_absent (last_word d.words))
        (same d.date (date_of (suc mark)) (omega (arith, are.1.midnight, e.minute, at, room, h.low)))
        (ap word_absent (some_same (last_word d.words) e.word (sym (latest_last h.t d.words are.1.ordered le) ∙ e.latest)) ∙ e.present) shut))
        (cases_lt h.t (word_minute (last_word d.words)))
      where
        same : (m n : ℕ) → m ≡ n → nat_eq m n ≡ true
        same m n is = grind (arith, nat_tests)

        some_same : (a b : ℕ) → Some a ≡ Some b → a ≡ b
        some_same a b is = cc

        open_not : (a b : Bool) → a ≡ true → b ≡ false → a && not b ≡ false → ⊥
        open_not true false x y z = cc
        open_not true true x y z = cc
        open_not false b x y z = cc
word_behind mark date (d ∷ e ∷ ds) p are is at room shut = ⊎_elim
    (λ rest. word_behind mark d.date (e ∷ ds) p are.2 rest at room shut)
    (λ here. let h = day_has mark d p here in let i = entry_is mark d h.t p h.is in
    omega (arith, h.low, i.minute, at, are.1.midnight, are.2.1.midnight, are.2.0, word_late d.date e ds are.2)) (last_split (day_entries mark d) (entries_up_to mark (e ∷ ds)) p is)

-- where a closing word is wanting the last entry stands at the mark
pub record AtMark (mark : ℕ) (ds : List Day) : Type 0 where
  pub p : Entry
  pub last : last_entry (entries_up_to mark ds) ≡ Some p
  pub minute : p.minute ≡ mark
  pub room : 0 < suc mark % 1440
  pub word : newest_word ds ≤ mark

pub at_mark : (mark date : ℕ) (ds : List Day) → AreDays date ds → EndsBy mark ds → is_open mark ds ≡ true → AtMark mark ds
at_mark mark date [] are ends is = absurd (cc)
at_mark mark date (d ∷ []) are ends is = by (nat_eq d.date (date_of (suc mark))) (word_absent (last_word d.words)) refl refl is
  where
    same : (m n : ℕ) → nat_eq m n ≡ true → m ≡ n
    same m n is = grind (arith, nat_tests)

    by : (a b : Bool) → nat_eq d.date (date_of (suc mark)) ≡ a → word_absent (last_word d.words) ≡ b → a && not b ≡ true → AtMark mark (d ∷ [])
    by false b x y z = absurd (cc)
    by true true x y z = absurd (cc)
    by true false x y z =
        let date : d.date ≡ date_of (suc mark) = same d.date (date_of (suc mark)) x in
        let low : d.date / 60 + word_minute (last_word d.words) ≤ mark = ends y in
        let t : ℕ = mark % 1440 in
        let here : d.date / 60 + mark % 1440 ≡ mark = omega (arith, date, low) in
        let e : Entry = record { minute = d.date / 60 + mark % 1440; slot = word_slot (last_word d.words); crew = word_crew (last_word d.words); act = word_act (last_word d.words) } in
        let told : entry_at mark d (mark % 1440) ≡ Some (record { minute = d.date / 60 + mark % 1440; slot = word_slot (last_word d.words); crew = word_crew (last_word d.words); act = word_act (last_word d.words) }) =
        ap (λ (b : Bool). cond b (told_by (d.date / 60 + mark % 1440) (latest d.words (mark % 1440))) None) (le-leb (d.date / 60 + mark % 1440) mark (omega (arith, here)))
        ∙ ap (λ (o : Option ℕ). told_by (d.date / 60 + mark % 1440) o) (latest_last (mark % 1440) d.words are.1.ordered (omega (arith, low, here)))
        ∙ ap (λ (a : Bool). cond a None (Some (record { minute = d.date / 60 + mark % 1440; slot = word_slot (last_word d.words); crew = word_crew (last_word d.words); act = word_act (last_word d.words) }))) y in
        record {
          p = record { minute = d.date / 60 + mark % 1440; slot = word_slot (last_word d.words); crew = word_crew (last_word d.words); act = word_act (last_word d.words) };
          last = last_front (day_entries mark d) (record { minute = d.date / 60 + mark % 1440; slot = word_slot (last_word d.words); crew = word_crew (last_word d.words); act = word_act (last_word d.words) })
              (day_last mark d (record { minute = d.date / 60 + mark % 1440; slot = word_slot (last_word d.words); crew = word_crew (last_word d.words); act = word_act (last_word d.words) }) (mark % 1440) (omega arith) told (λ s lt. late_none mark d s (omega (arith, here, lt))));
          minute = here;
          room = omega (arith, date, low);
          word = low;
        }
      where
        last_front : (es : List Entry) (e : Entry) → last_entry es ≡ Some e → last_entry (es ++ []) ≡ Some e
        last_front es e is = subst (λ (l : List Entry). last_entry l ≡ Some e) (sym (nil es)) is
          where
            nil : (es : List Entry) → es ++ [] ≡ es
            nil [] = refl
            nil (x ∷ es) = ap (λ (l : List Entry). x ∷ l) (nil es)
at_mark mark date (d ∷ e ∷ ds) are ends is =
    let a = at_mark mark d.date (e ∷ ds) are.2 ends is in
    record { p = a.p; last = last_more (day_entries mark d) (entries_up_to mark (e ∷ ds)) a.p a.last; minute = a.minute; room = a.room; word = a.word }

-- THE LAW: the newest minute is the latest of the mark, the newest word and the minute behind the last entry
pub newest_law : (mark : ℕ) (ds : List Day) → AreDays 0 ds → EndsBy mark ds → newest_minute mark ds ≡ max (max mark (newest_word ds)) (closed_at (last_entry (entries_up_to mark ds)))
newest_law mark ds are ends = by (is_open mark ds) refl
  where
    by : (o : Bool) → is_open mark ds ≡ o → cond o (suc mark) (max mark (newest_word ds)) ≡ max (max mark (newest_word ds)) (closed_at (last_entry (entries_up_to mark ds)))
    by true is =
        let a = at_mark mark 0 ds are ends is in
        let closed : closed_at (last_entry (entries_up_to mark ds)) ≡ suc mark = ap closed_at a.last ∙ room a.p.minute (omega (arith, a.room, a.minute)) ∙ ap suc a.minute in
        sym (ap (λ (n : ℕ). max (max mark (newest_word ds)) n) closed ∙ max-eq_right (max-le (omega arith) (omega (arith, a.word))))
      where
        room : (m : ℕ) → 0 < suc m % 1440 → cond (nat_eq (suc m % 1440) 0) m (suc m) ≡ suc m
        room m lt = ap (λ (b : Bool). cond b m (suc m)) (no (suc m % 1440) lt)
          where
            no : (k : ℕ) → 0 < k → nat_eq k 0 ≡ false
            no k lt = grind (arith, nat_tests)
    by false is = sym (max-eq_left (low (last_entry (entries_up_to mark ds)) refl))
      where
        low : (o : Option Entry) → last_entry (entries_up_to mark ds) ≡ o → closed_at o ≤ max mark (newest_word ds)
        low None e = omega arith
        low (Some p) e = go (nat_eq (suc p.minute % 1440) 0) refl
          where
            at_most_mark : p.minute ≤ mark
            at_most_mark = entries_low mark ds p e

            go : (b : Bool) → nat_eq (suc p.minute % 1440) 0 ≡ b → cond b p.minute (suc p.minute) ≤ max mark (newest_word ds)
            go true _ = omega (arith, at_most_mark, le-max_left mark (newest_word ds))
            go false test = ⊎_elim
                (λ lt. omega (arith, lt, le-max_left mark (newest_word ds)))
                (λ ge. omega (arith, at_most_mark, le-max_right mark (newest_word ds), word_behind mark 0 ds p are e (omega (arith, ge, at_most_mark)) (some (suc p.minute % 1440) (suc mark % 1440) (ap (λ (k : ℕ). suc k % 1440) (exact ge)) test) is))
                (cases_lt p.minute mark)
              where
                exact : mark ≤ p.minute → p.minute ≡ mark
                exact ge = omega (arith, ge, at_most_mark)

                some : (a b : ℕ) → a ≡ b → nat_eq a 0 ≡ false → 0 < b
                some a b e t = grind (arith, nat_tests)
