-- A day that is begun on the day of the end mark, where each day before it is earlier: up to that mark it has its first word alone.
use Rattle.std.proofs.Common.{◌≡◌, ⊎_elim, ℕ, suc, ◌+◌, ◌/◌, ◌%◌, ◌<◌, ◌≤◌, max, Bool, true, false, cond, ◌&&◌, ◌||◌, not, Some, None, List, [], ◌∷◌, ◌++◌, refl, sym, ◌∙◌, ap, subst, arith}
use Rattle.std.specs.Prelude.{nat_eq, nat_le}
use Rattle.std.proofs.lemmas.Bool.Decides.{nat_tests}
use Rattle.std.proofs.lemmas.Bool.{eqb-false}
use Rattle.activity_codec.specs.declared.entries.Entry.{Entry}
use Rattle.activity_codec.specs.Words.{word_minute, word_absent}
use Rattle.card_days.specs.card_model.Days.{Day, AreDays, last_word}
use Rattle.card_days.specs.card_model.Changes.{OnNewest, Remain, AreStrict, with_early, early, cut, date_of, trimmed}
use Rattle.card_days.proofs.card_model.Ascending.{words_below}
use Rattle.card_validity.specs.card_retention.Expected.{WordDay, is_newest}
use Rattle.card_validity.specs.card_retention.Shown.{AllBefore, sizes, is_open}
use Rattle.card_validity.specs.card_retention.Entries.{latest, told_by, entry_at, day_entries, entries_up_to, newest_word, newest_minute}
use Rattle.card_validity.specs.card_retention.Retains.{is_day, entries_in, begun_on}
use Rattle.card_validity.proofs.card_retention.Newest.{minutes_none}
use Rattle.card_validity.proofs.card_retention.Stub.{trimmed_before, trimmed_stub}
use Rattle.card_session.specs.Books.{bare_word, entry_word, day_words}
use Rattle.card_session.specs.Sessions.{EndsStrictly}
use Rattle.card_session.proofs.Following.{entry_minute}
use Rattle.card_session.proofs.Preparing.{open_date}

-- ---- days that are all before one

-- where the newest day is another, and no word is as late
pub all_before : (day minute date : ℕ) (ds : List Day) → AreDays date ds → newest_word ds < minute → minute / 1440 ≡ day → is_newest day (sizes ds) ≡ false → AllBefore day (sizes ds)
all_before day minute date [] are low at other = tt
all_before day minute date (d ∷ []) are low at other = let another = eqb-false (d.date / 86400) day other in (omega (arith, another, low, at), tt)
all_before day minute date (d ∷ f ∷ ds) are low at other = let rest = all_before day minute d.date (f ∷ ds) are.2 low at other in (omega (arith, are.2.0, rest.0), rest)

pub before_left : (k room : ℕ) (ds kept : List Day) → Remain room ds kept → AllBefore k (sizes ds) → AllBefore k (sizes kept)
before_left k room [] kept left b = subst (λ (l : List Day). AllBefore k (sizes l)) (sym left) tt
before_left k room (d ∷ ds) kept left b = ⊎_elim (λ whole. subst (λ (l : List Day). AllBefore k (sizes l)) (sym whole) b) (λ gone. before_left k room ds kept gone.1 b.1) left

not_open : (mark : ℕ) (ds : List Day) → AllBefore (mark / 1440) (sizes ds) → OnNewest (λ d. d.date ≡ date_of (suc mark)) ds → ⊥
not_open mark [] b on = on
not_open mark (d ∷ []) b on = omega (arith, b.0, on)
not_open mark (d ∷ e ∷ ds) b on = not_open mark (e ∷ ds) b.1 on

pub shut_of : (mark : ℕ) (ds : List Day) → AllBefore (mark / 1440) (sizes ds) → is_open mark ds ≡ false
shut_of mark ds b = by (is_open mark ds) refl
  where
    by : (o : Bool) → is_open mark ds ≡ o → is_open mark ds ≡ false
    by false is = is
    by true is = absurd (not_open mark ds b (open_date mark ds is))

pub word_before : (mark date : ℕ) (ds : List Day) → AreDays date ds → AllBefore (mark / 1440) (sizes ds) → newest_word ds ≤ mark
word_before mark date [] are b = omega arith
word_before mark date (d ∷ []) are b = let below = words_below d.words are.1.ordered in omega (arith, below, are.1.midnight, b.0)
word_before mark date (d ∷ e ∷ ds) are b = word_before mark d.date (e ∷ ds) are.2 b.1

highest : (mark n : ℕ) → n ≤ mark → max mark n ≡ mark
highest mark n le = omega (arith, le)

-- the newest minute is the mark
pub newest_of_before : (mark : ℕ) (ds : List Day) → AreDays 0 ds → AllBefore (mark / 1440) (sizes ds) → newest_minute mark (trimmed mark ds) ≡ mark
newest_of_before mark ds are b =
    ap (newest_minute mark) (trimmed_before mark ds are b) ∙ ap (λ (o : Bool). cond o (suc mark) (max mark (newest_word ds))) (shut_of mark ds b)
    ∙ highest mark (newest_word ds) (word_before mark 0 ds are b)

-- ---- a day more

pub shut_first : (mark : ℕ) (ds : List Day) (y : Day) → y.words ≡ bare_word ∷ [] → is_open mark (ds ++ y ∷ []) ≡ false
shut_first mark [] y words = ap (λ (ws : List ℕ). nat_eq y.date (date_of (suc mark)) && not (word_absent (last_word ws))) words ∙ none (nat_eq y.date (date_of (suc mark)))
  where
    none : (b : Bool) → b && false ≡ false
    none true = refl
    none false = refl
shut_first mark (d ∷ []) y words = shut_first mark [] y words
shut_first mark (d ∷ e ∷ ds) y words = shut_first mark (e ∷ ds) y words

pub word_first : (ds : List Day) (y : Day) → y.words ≡ bare_word ∷ [] → newest_word (ds ++ y ∷ []) ≡ y.date / 60
word_first [] y words = ap (λ (ws : List ℕ). y.date / 60 + word_minute (last_word ws)) words ∙ zero (y.date / 60) (word_minute bare_word) refl
  where
    zero : (n m : ℕ) → m ≡ 0 → n + m ≡ n
    zero n m is = omega (arith, is)
word_first (d ∷ []) y words = word_first [] y words
word_first (d ∷ e ∷ ds) y words = word_first (e ∷ ds) y words

strict_first : (ds : List Day) (y : Day) → y.words ≡ bare_word ∷ [] → EndsStrictly (ds ++ y ∷ [])
strict_first [] y words = subst AreStrict (sym words) (refl, tt)
strict_first (d ∷ []) y words = strict_first [] y words
strict_first (d ∷ e ∷ ds) y words = strict_first (e ∷ ds) y words

cut_dated : (mark : ℕ) (d : Day) → (cut mark d).date ≡ d.date
cut_dated mark d = by (nat_eq d.date (date_of mark))
  where
    by : (b : Bool) → (cond b (with_early (mark % 1440) d) d).date ≡ d.date
    by true = refl
    by false = refl

-- it is cut to its first word
pub record IsBegunOn (mark : ℕ) (days : List Day) (d : Day) : Type 0 where
  pub are : AreDays 0 days
  pub before : AllBefore (mark / 1440) (sizes days)
  pub date : d.date ≡ date_of mark
  pub first : (cut mark d).words ≡ bare_word ∷ []

module _ (mark : ℕ) (days : List Day) (d : Day) (begun : IsBegunOn mark days d) where
  cut_is : trimmed mark (days ++ d ∷ []) ≡ days ++ cut mark d ∷ []
  cut_is = trimmed_stub mark days d begun.are begun.before begun.date

  -- the newest minute is the mark still
  pub begun_newest : newest_minute mark (trimmed mark (days ++ d ∷ [])) ≡ mark
  begun_newest =
      ap (newest_minute mark) cut_is
      ∙ ap (λ (o : Bool). cond o (suc mark) (max mark (newest_word (days ++ cut mark d ∷ [])))) (shut_first mark days (cut mark d) begun.first)
      ∙ highest mark (newest_word (days ++ cut mark d ∷ [])) (omega (arith, word_first days (cut mark d) begun.first, cut_dated mark d, begun.date))

  -- and the words of the newest day rise
  pub begun_strict : EndsStrictly (trimmed mark (days ++ d ∷ []))
  begun_strict = subst EndsStrictly (sym cut_is) (strict_first days (cut mark d) begun.first)

-- ---- words of a day of the mark, the second of them behind it

above : (m n : ℕ) → n < m → nat_le m n ≡ false
above m n lt = grind (arith, nat_tests)

at_most : (m n : ℕ) → m ≤ n → nat_le m n ≡ true
at_most m n le = grind (arith, nat_tests)

same : (m n : ℕ) → m ≡ n → nat_eq m n ≡ true
same m n is = grind (arith, nat_tests)

apart : (m n : ℕ) → n < m → nat_eq m n ≡ false
apart m n lt = grind (arith, nat_tests)

pub cut_first : (mark : ℕ) (d : Day) (w v : ℕ) → d.date ≡ date_of mark → d.words ≡ w ∷ v ∷ [] → word_minute w ≡ 0 → mark % 1440 < word_minute v → (cut mark d).words ≡ w ∷ []
cut_first mark d w v at words first lt =
    ap (λ (c : Bool). (cond c (with_early (mark % 1440) d) d).words) (same d.date (date_of mark) at)
    ∙ ap (λ (ws : List ℕ). early (mark % 1440) ws) words
    ∙ ap (λ (c : Bool). cond c (w ∷ cond (nat_le (word_minute v) (mark % 1440)) (v ∷ []) []) []) (at_most (word_minute w) (mark % 1440) (omega (arith, first)))
    ∙ ap (λ (c : Bool). w ∷ cond c (v ∷ []) []) (above (word_minute v) (mark % 1440) lt)

-- those that begin the day of an entry
pub cut_entry : (mark : ℕ) (d : Day) (e : Entry) → d.date ≡ date_of mark → d.words ≡ day_words e → mark % 1440 < e.minute % 1440 → (cut mark d).words ≡ bare_word ∷ []
cut_entry mark d e at words lt =
    cut_first mark d bare_word (entry_word e) at (words ∙ ap (λ (c : Bool). cond c (entry_word e ∷ []) (bare_word ∷ entry_word e ∷ [])) (apart (e.minute % 1440) 0 (omega (arith, lt)))) refl (omega (arith, lt, entry_minute e))

-- ---- a day of which no minute up to the mark tells an entry

pub bare_tells : (m t : ℕ) → told_by m (latest (bare_word ∷ []) t) ≡ None
bare_tells m t = by (nat_le (word_minute bare_word) t)
  where
    by : (b : Bool) → told_by m (cond b (Some bare_word) None) ≡ None
    by true = refl
    by false = refl

pub none_day : (mark : ℕ) (d : Day) → ((t : ℕ) → d.date / 60 + t ≤ mark → told_by (d.date / 60 + t) (latest d.words t) ≡ None) → day_entries mark d ≡ []
unfolding day_entries
none_day mark d none = minutes_none (entry_at mark d) 1440 0 (λ s le. at s (nat_le (d.date / 60 + s) mark) refl)
  where
    le_of : (m n : ℕ) → nat_le m n ≡ true → m ≤ n
    le_of m n is = grind (arith, nat_tests)

    at : (s : ℕ) (b : Bool) → nat_le (d.date / 60 + s) mark ≡ b → entry_at mark d s ≡ None
    at s true is = ap (λ (b : Bool). cond b (told_by (d.date / 60 + s) (latest d.words s)) None) is ∙ none s (le_of (d.date / 60 + s) mark is)
    at s false is = ap (λ (b : Bool). cond b (told_by (d.date / 60 + s) (latest d.words s)) None) is

pub entries_more : (mark : ℕ) (ds : List Day) (d : Day) → day_entries mark d ≡ [] → entries_up_to mark (ds ++ d ∷ []) ≡ entries_up_to mark ds
entries_more mark [] d none = ap (λ (l : List Entry). l ++ []) none
entries_more mark (e ∷ ds) d none = ap (λ (l : List Entry). day_entries mark e ++ l) (entries_more mark ds d none)

-- ---- the entries of all, with a day on which none is

head_not : (b : Bool) (x : Entry) (xs : List Entry) → cond (b || false) (x ∷ xs) xs ≡ [] → (b ≡ false) × (xs ≡ [])
head_not false x xs is = (refl, is)
head_not true x xs is = absurd (cc)

day_more : (k : ℕ) (ws : List WordDay) (v : WordDay) → nat_eq v.day k ≡ false → is_day k (ws ++ v ∷ []) ≡ is_day k ws
day_more k [] v is = ap (λ (b : Bool). b || false) is
day_more k (w ∷ ws) v is = ap (λ (b : Bool). nat_eq w.day k || b) (day_more k ws v is)

pub day_last : (k : ℕ) (ws : List WordDay) (v : WordDay) → nat_eq v.day k ≡ true → is_day k (ws ++ v ∷ []) ≡ true
day_last k [] v is = ap (λ (b : Bool). b || false) is
day_last k (w ∷ ws) v is = ap (λ (b : Bool). nat_eq w.day k || b) (day_last k ws v is) ∙ either (nat_eq w.day k)
  where
    either : (b : Bool) → b || true ≡ true
    either true = refl
    either false = refl

pub entries_same : (k : ℕ) (ws : List WordDay) (v : WordDay) → v.day ≡ k → (es : List Entry) → entries_in (begun_on k ∷ []) es ≡ [] → entries_in (ws ++ v ∷ []) es ≡ entries_in ws es
entries_same k ws v at [] none = refl
entries_same k ws v at (x ∷ es) none =
    let parts = head_not (nat_eq k (x.minute / 1440)) x (entries_in (begun_on k ∷ []) es) none in
    ap (λ (b : Bool). cond b (x ∷ entries_in (ws ++ v ∷ []) es) (entries_in (ws ++ v ∷ []) es)) (day_more (x.minute / 1440) ws v (ap (λ (m : ℕ). nat_eq m (x.minute / 1440)) at ∙ parts.0))
    ∙ ap (λ (l : List Entry). cond (is_day (x.minute / 1440) ws) (x ∷ l) l) (entries_same k ws v at es parts.1)
