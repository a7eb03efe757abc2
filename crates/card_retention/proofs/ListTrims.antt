-- The entries over a trim to the mark.
use Rattle.std.proofs.Common.{◌≡◌, ◌⊎◌, inl, inr, ⊎_elim, ℕ, suc, ◌+◌, ◌*◌, ◌/◌, ◌%◌, ◌<◌, ◌≤◌, Bool, true, false, cond, ◌||◌, Option, Some, None, List, [], ◌∷◌, ◌++◌, refl, sym, ◌∙◌, ap, arith}
use Rattle.std.specs.Prelude.{nat_eq, nat_le}
use Rattle.std.proofs.lemmas.Bool.{eqb-true, leb-false, leb-true, lt-leb}
use Rattle.std.proofs.lemmas.Bool.Decides.{nat_tests}
use Rattle.activity_codec.specs.declared.entries.Entry.{Entry}
use Rattle.activity_codec.specs.Words.{word_absent, word_slot, word_crew, word_act, word_minute}
use Rattle.card_model.specs.Days.{Day, AreDays, IsDay, Ascend, last_word}
use Rattle.card_model.specs.Changes.{with_newest, until, early, with_early, OnNewest, date_of, cut, trimmed}
use Rattle.card_retention.specs.Expected.{WordDay}
use Rattle.card_retention.specs.Shown.{InDays, AllUpTo, sizes}
use Rattle.card_retention.specs.Entries.{latest, told_by, entry_at, day_entries, entries_up_to, EndsBy}
use Rattle.card_retention.specs.Retains.{is_day, entries_in}
use Rattle.card_retention.proofs.Retaining.{day_in}
use Rattle.card_model.proofs.Ascending.{words_ascend, words_below}
use Rattle.card_model.proofs.Trims.{cut_date}
use Rattle.card_retention.proofs.Flat.{UpTo, newest_flat}
use Rattle.card_retention.proofs.Stops.{trimmed_in}
use Rattle.card_retention.proofs.Checked.{early_last}
use Rattle.card_retention.proofs.Newest.{latest_last}
use Rattle.card_retention.proofs.Committing.{QuietDay, Quiet}
use Rattle.card_retention.proofs.Listing.{Lists, day_none, minutes_same}

-- WORDS behind a minute tell nothing of it
latest_none : (low t : ℕ) (ws : List ℕ) → Ascend low ws → t < low → latest ws t ≡ None
latest_none low t [] a lt = refl
latest_none low t (w ∷ ws) a lt =
    ap (λ (o : Option ℕ). elim o as (λ _. Option ℕ) [ Some x ↦ Some x | None ↦ cond (nat_le (word_minute w) t) (Some w) None ]) (latest_none (word_minute w) t ws a.2 (omega (arith, lt, a.0)))
    ∙ ap (λ (b : Bool). cond b (Some w) None) (lt-leb (word_minute w) t (omega (arith, lt, a.0)))

latest_early : (low m t : ℕ) (ws : List ℕ) → Ascend low ws → t ≤ m → latest (early m ws) t ≡ latest ws t
latest_early low m t [] a le = refl
latest_early low m t (w ∷ ws) a le = by (nat_le (word_minute w) m) refl (latest_early (word_minute w) m t ws a.2 le) (latest_none (word_minute w) t ws a.2)
  where
    by : (b : Bool) → nat_le (word_minute w) m ≡ b → latest (early m ws) t ≡ latest ws t → (t < word_minute w → latest ws t ≡ None) → latest (cond b (w ∷ early m ws) []) t ≡ latest (w ∷ ws) t
    by true is rest none = ap (λ (o : Option ℕ). elim o as (λ _. Option ℕ) [ Some x ↦ Some x | None ↦ cond (nat_le (word_minute w) t) (Some w) None ]) rest
    by false is rest none =
        let lt : t < word_minute w = omega (arith, leb-false (word_minute w) m is, le) in
        sym (ap (λ (o : Option ℕ). elim o as (λ _. Option ℕ) [ Some x ↦ Some x | None ↦ cond (nat_le (word_minute w) t) (Some w) None ]) (none lt) ∙ ap (λ (b : Bool). cond b (Some w) None) (lt-leb (word_minute w) t lt))

cut_at : (mark : ℕ) (d : Day) → IsDay d → (t : ℕ) → entry_at mark (cut mark d) t ≡ entry_at mark d t
cut_at mark d is t = by (nat_eq d.date (date_of mark)) refl
  where
    by : (b : Bool) → nat_eq d.date (date_of mark) ≡ b → entry_at mark (cond b (with_early (mark % 1440) d) d) t ≡ entry_at mark d t
    by false _ = refl
    by true here = go (nat_le (d.date / 60 + t) mark) refl
      where
        go : (c : Bool) → nat_le (d.date / 60 + t) mark ≡ c → cond c (told_by (d.date / 60 + t) (latest (early (mark % 1440) d.words) t)) None ≡ cond c (told_by (d.date / 60 + t) (latest d.words t)) None
        go false _ = refl
        go true le = ap (λ (o : Option ℕ). told_by (d.date / 60 + t) o) (latest_early 0 (mark % 1440) t d.words (words_ascend d.words is.ordered) (omega (arith, leb-true (d.date / 60 + t) mark le, eqb-true d.date (date_of mark) here)))

pub cut_entries : (mark : ℕ) (d : Day) → IsDay d → day_entries mark (cut mark d) ≡ day_entries mark d
unfolding day_entries
cut_entries mark d is = minutes_same (entry_at mark (cut mark d)) (entry_at mark d) (cut_at mark d is) 1440 0

late_entries : (mark date : ℕ) (ds : List Day) → AreDays date ds → date_of mark ≤ date → entries_up_to mark ds ≡ []
late_entries mark date [] are le = refl
late_entries mark date (d ∷ ds) are le = ap (λ (l : List Entry). l ++ entries_up_to mark ds) (day_none mark d are.1.midnight (omega (arith, are.0, le))) ∙ late_entries mark d.date ds are.2 (omega (arith, are.0, le))

pub entries_trimmed : (mark date : ℕ) (ds : List Day) → AreDays date ds → entries_up_to mark (trimmed mark ds) ≡ entries_up_to mark ds
entries_trimmed mark date [] are = refl
entries_trimmed mark date (d ∷ ds) are = by (nat_le d.date (date_of mark)) refl (until (date_of mark) ds) (entries_trimmed mark d.date ds are.2)
  where
    by : (b : Bool) → nat_le d.date (date_of mark) ≡ b → (us : List Day) → entries_up_to mark (with_newest (cut mark) us) ≡ entries_up_to mark ds → entries_up_to mark (with_newest (cut mark) (cond b (d ∷ us) [])) ≡ entries_up_to mark (d ∷ ds)
    by false is us rest = sym (ap (λ (l : List Entry). l ++ entries_up_to mark ds) (day_none mark d are.1.midnight (leb-false d.date (date_of mark) is)) ∙ late_entries mark d.date ds are.2 (omega (arith, leb-false d.date (date_of mark) is)))
    by true is [] rest = ap (λ (l : List Entry). l ++ []) (cut_entries mark d are.1) ∙ ap (λ (l : List Entry). day_entries mark d ++ l) rest
    by true is (u ∷ us) rest = ap (λ (l : List Entry). day_entries mark d ++ l) rest

in_day : (k : ℕ) (ws : List WordDay) → is_day k ws ≡ true → InDays k ws
in_day k [] is = absurd (cc)
in_day k (w ∷ ws) is = by (nat_eq w.day k) refl is (in_day k ws)
  where
    by : (a : Bool) → nat_eq w.day k ≡ a → a || is_day k ws ≡ true → (is_day k ws ≡ true → InDays k ws) → InDays k (w ∷ ws)
    by true same is rest = inl (eqb-true w.day k same)
    by false same is rest = inr (rest is)

trimmed_sub : (mark k : ℕ) (ds : List Day) → InDays k (sizes (trimmed mark ds)) → InDays k (sizes ds)
trimmed_sub mark k [] i = i
trimmed_sub mark k (d ∷ ds) i = by (nat_le d.date (date_of mark)) (until (date_of mark) ds) i (trimmed_sub mark k ds)
  where
    by : (b : Bool) (us : List Day) → InDays k (sizes (with_newest (cut mark) (cond b (d ∷ us) []))) → (InDays k (sizes (with_newest (cut mark) us)) → InDays k (sizes ds)) → InDays k (sizes (d ∷ ds))
    by false us i rest = absurd i
    by true [] i rest = ⊎_elim (λ same. inl (sym (ap (λ (n : ℕ). n / 86400) (cut_date mark d)) ∙ same)) (λ none. absurd none) i
    by true (u ∷ us) i rest = ⊎_elim (λ same. inl same) (λ later. inr (rest later)) i

same_test : (a b : Bool) → (a ≡ true → b ≡ true) → (b ≡ true → a ≡ true) → a ≡ b
same_test true b f g = sym (f refl)
same_test false true f g = absurd (no (g refl))
  where
    no : false ≡ true → ⊥
    no e = cc
same_test false false f g = refl

-- the days up to the mark's are there as before
pub day_trimmed : (mark k : ℕ) (ds : List Day) → AreDays 0 ds → k ≤ mark / 1440 → is_day k (sizes (trimmed mark ds)) ≡ is_day k (sizes ds)
day_trimmed mark k ds are le =
    same_test (is_day k (sizes (trimmed mark ds))) (is_day k (sizes ds))
    (λ a. day_in k (sizes ds) (trimmed_sub mark k ds (in_day k (sizes (trimmed mark ds)) a)))
    (λ b. day_in k (sizes (trimmed mark ds)) (trimmed_in mark 0 k ds are le (in_day k (sizes ds) b)))

pub lists_trimmed : (mark : ℕ) (all : List Entry) (ds : List Day) → AreDays 0 ds → AllUpTo mark all → Lists mark all ds → Lists mark all (trimmed mark ds)
lists_trimmed mark all ds are up is = entries_trimmed mark 0 ds are ∙ is ∙ sym (by all up)
  where
    by : (es : List Entry) → AllUpTo mark es → entries_in (sizes (trimmed mark ds)) es ≡ entries_in (sizes ds) es
    by [] up = refl
    by (e ∷ es) up =
        ap (λ (b : Bool). cond b (e ∷ entries_in (sizes (trimmed mark ds)) es) (entries_in (sizes (trimmed mark ds)) es)) (day_trimmed mark (e.minute / 1440) ds are (omega (arith, up.0)))
        ∙ ap (λ (l : List Entry). cond (is_day (e.minute / 1440) (sizes ds)) (e ∷ l) l) (by es up.1)

-- A STRING WITH NOTHING BEHIND THE MARK ends by it
pub ends_flat : (mark : ℕ) (ds : List Day) → AreDays 0 ds → trimmed mark ds ≡ ds → EndsBy mark ds
ends_flat mark [] are is = tt
ends_flat mark (d ∷ ds) are is = by 0 d ds are (newest_flat mark d ds is)
  where
    by : (date : ℕ) (d : Day) (ds : List Day) → AreDays date (d ∷ ds) → OnNewest (UpTo mark) (d ∷ ds) → EndsBy mark (d ∷ ds)
    by date d [] are on = λ present. go (nat_eq d.date (date_of mark)) refl
      where
        apart : (m n : ℕ) → m ≤ n → nat_eq m n ≡ false → m < n
        apart m n le is = grind (arith, nat_tests)

        go : (b : Bool) → nat_eq d.date (date_of mark) ≡ b → d.date / 60 + word_minute (last_word d.words) ≤ mark
        go true here = let at : d.date ≡ date_of mark = eqb-true d.date (date_of mark) here in omega (arith, at, early_last (mark % 1440) d.words are.1.ordered (on.last at))
        go false here = omega (arith, apart d.date (date_of mark) on.day here, words_below d.words are.1.ordered, are.1.midnight)
    by date d (e ∷ ds) are on = by d.date e ds are.2 on

-- BETWEEN THE MARK AND THE NEXT ENTRY no minute tells one, where the newest day begins by the minute behind the mark, has no word behind that
-- minute, and: its latest word is absent, or the next entry stands at that minute, or the day ends by the mark.
pub record QuietEnd (mark next : ℕ) (d : Day) : Type 0 where
  pub begins : d.date / 60 ≤ suc mark
  pub last : d.date / 60 + word_minute (last_word d.words) ≤ suc mark
  pub ends : (word_absent (last_word d.words) ≡ true) ⊎ ((next ≤ suc mark) ⊎ (d.date / 60 + 1439 ≤ mark))

told : ℕ → ℕ → Entry
told m w = record { minute = m; slot = word_slot w; crew = word_crew w; act = word_act w }

newest_quiet : (mark next : ℕ) (d : Day) → IsDay d → QuietEnd mark next d → QuietDay mark next d
unfolding told
newest_quiet mark next d is q t low behind before = ⊎_elim
    (λ absent. ap (λ (o : Option ℕ). told_by (d.date / 60 + t) o) (latest_last t d.words is.ordered (omega (arith, q.last, behind)))
    ∙ ap (λ (b : Bool). cond b None (Some (told (d.date / 60 + t) (last_word d.words)))) absent)
    (λ rest. ⊎_elim (λ soon. absurd (omega (arith, soon, behind, before))) (λ over. absurd (omega (arith, over, behind, low))) rest) q.ends

pub quiet : (mark next date : ℕ) (ds : List Day) → AreDays date ds → OnNewest (QuietEnd mark next) ds → Quiet mark next ds
quiet mark next date [] are on = tt
quiet mark next date (d ∷ []) are on = (newest_quiet mark next d are.1 on, tt)
quiet mark next date (d ∷ e ∷ ds) are on = (λ t low behind before. absurd (omega (arith, begin d.date (e ∷ ds) are.2 on, low, behind, are.1.midnight)), quiet mark next d.date (e ∷ ds) are.2 on)
  where
    begin : (date : ℕ) (ds : List Day) → AreDays date ds → OnNewest (QuietEnd mark next) ds → date / 86400 * 1440 + 1440 ≤ suc mark
    begin date [] are on = absurd on
    begin date (f ∷ []) are on = omega (arith, on.begins, are.0, are.1.midnight)
    begin date (f ∷ g ∷ ds) are on = omega (arith, are.0, begin f.date (g ∷ ds) are.2 on)
