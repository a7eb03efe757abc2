-- The entries that a string shows are those of all whose day it has: over drops, words and days behind the mark, and a trim.
use Rattle.std.proofs.Common.{◌≡◌, ⊎_elim, ℕ, zero, suc, ◌+◌, ◌/◌, ◌%◌, ◌<◌, ◌≤◌, Bool, true, false, cond, ◌||◌, Option, Some, None, List, [], ◌∷◌, ◌++◌, refl, sym, ◌∙◌, ap, subst, arith}
use Rattle.std.specs.Prelude.{nat_eq, nat_le}
use Rattle.std.proofs.lemmas.Bool.Decides.{nat_tests}
use Rattle.activity_codec.specs.declared.entries.Entry.{Entry}
use Rattle.activity_codec.specs.Words.{word_minute}
use Rattle.card_model.specs.Days.{Day, AreDays}
use Rattle.card_model.specs.Changes.{Remain, with_newest, with_word, OnNewest, date_of}
use Rattle.card_retention.specs.Expected.{WordDay}
use Rattle.card_retention.specs.Shown.{AllIn, AllUpTo, sizes, size_day}
use Rattle.card_retention.specs.Entries.{latest, told_by, entry_at, minutes_from, day_entries, entries_up_to}
use Rattle.card_retention.specs.Retains.{is_day, entries_in}
use Rattle.card_retention.proofs.Newest.{IsEntry, entry_is, late_none, minutes_none}
use Rattle.card_retention.proofs.Starting.{entries_there}
use Rattle.card_retention.proofs.Retaining.{day_in}
use Rattle.card_model.proofs.Trims.{Behind}

-- the string shows the entries of all whose day it has
abbrev pub Lists : (mark : ℕ) → List Entry → List Day → Type 0
Lists mark all days = entries_up_to mark days ≡ entries_in (sizes days) all

pub append_in : (ws : List WordDay) (es fs : List Entry) → entries_in ws (es ++ fs) ≡ entries_in ws es ++ entries_in ws fs
append_in ws [] fs = refl
append_in ws (e ∷ es) fs = by (is_day (e.minute / 1440) ws) (append_in ws es fs)
  where
    by : (b : Bool) → entries_in ws (es ++ fs) ≡ entries_in ws es ++ entries_in ws fs → cond b (e ∷ entries_in ws (es ++ fs)) (entries_in ws (es ++ fs)) ≡ cond b (e ∷ entries_in ws es) (entries_in ws es) ++ entries_in ws fs
    by true rest = ap (λ (l : List Entry). e ∷ l) rest
    by false rest = rest

-- some of some
less_in : (w : WordDay) (ws : List WordDay) (es : List Entry) → entries_in ws (entries_in (w ∷ ws) es) ≡ entries_in ws es
less_in w ws [] = refl
less_in w ws (e ∷ es) = by (nat_eq w.day (e.minute / 1440)) (is_day (e.minute / 1440) ws) refl (less_in w ws es)
  where
    by : (a b : Bool) → is_day (e.minute / 1440) ws ≡ b → entries_in ws (entries_in (w ∷ ws) es) ≡ entries_in ws es
        → entries_in ws (cond (a || b) (e ∷ entries_in (w ∷ ws) es) (entries_in (w ∷ ws) es)) ≡ cond b (e ∷ entries_in ws es) (entries_in ws es)
    by true true is rest = ap (λ (c : Bool). cond c (e ∷ entries_in ws (entries_in (w ∷ ws) es)) (entries_in ws (entries_in (w ∷ ws) es))) is ∙ ap (λ (l : List Entry). e ∷ l) rest
    by false true is rest = ap (λ (c : Bool). cond c (e ∷ entries_in ws (entries_in (w ∷ ws) es)) (entries_in ws (entries_in (w ∷ ws) es))) is ∙ ap (λ (l : List Entry). e ∷ l) rest
    by true false is rest = ap (λ (c : Bool). cond c (e ∷ entries_in ws (entries_in (w ∷ ws) es)) (entries_in ws (entries_in (w ∷ ws) es))) is ∙ rest
    by false false is rest = rest

abbrev AllDay : ℕ → List Entry → Type 0
AllDay k [] = Unit {0}
AllDay k (e ∷ es) = (e.minute / 1440 ≡ k) × AllDay k es

minutes_day : (mark : ℕ) (d : Day) → d.date % 86400 ≡ 0 → (n t : ℕ) → t + n ≤ 1440 → AllDay (d.date / 86400) (minutes_from (entry_at mark d) n t)
minutes_day mark d midnight zero t le = tt
minutes_day mark d midnight (suc n) t le = by (entry_at mark d t) refl (minutes_day mark d midnight n (t + 1) (omega (arith, le)))
  where
    by : (o : Option Entry) → entry_at mark d t ≡ o → AllDay (d.date / 86400) (minutes_from (entry_at mark d) n (t + 1)) → AllDay (d.date / 86400) (elim o as (λ _. List Entry) [ Some x ↦ x ∷ minutes_from (entry_at mark d) n (t + 1) | None ↦ minutes_from (entry_at mark d) n (t + 1) ])
    by None is rest = rest
    by (Some x) is rest = (day x (entry_is mark d t x is), rest)
      where
        day : (x : Entry) → IsEntry mark d t x → x.minute / 1440 ≡ d.date / 86400
        day x i = omega (arith, i.minute, midnight, le)

day_day : (mark : ℕ) (d : Day) → d.date % 86400 ≡ 0 → AllDay (d.date / 86400) (day_entries mark d)
unfolding day_entries
day_day mark d midnight = minutes_day mark d midnight 1440 0 (omega arith)

none_in : (k : ℕ) (ws : List WordDay) (es : List Entry) → is_day k ws ≡ false → AllDay k es → entries_in ws es ≡ []
none_in k ws [] is a = refl
none_in k ws (e ∷ es) is a = ap (λ (b : Bool). cond b (e ∷ entries_in ws es) (entries_in ws es)) (ap (λ (m : ℕ). is_day m ws) a.0 ∙ is) ∙ none_in k ws es is a.1

all_in : (ws : List WordDay) (es : List Entry) → AllIn 0 es ws → entries_in ws es ≡ es
all_in ws [] a = refl
all_in ws (e ∷ es) a = ap (λ (b : Bool). cond b (e ∷ entries_in ws es) (entries_in ws es)) (day_in (e.minute / 1440) ws (a.0 (omega arith))) ∙ ap (λ (l : List Entry). e ∷ l) (all_in ws es a.1)

pub day_not : (k date : ℕ) (ds : List Day) → AreDays date ds → k ≤ date / 86400 → date % 86400 ≡ 0 → is_day k (sizes ds) ≡ false
day_not k date [] are le midnight = refl
day_not k date (d ∷ ds) are le midnight = by (nat_eq (d.date / 86400) k) (apart (d.date / 86400) k (omega (arith, are.0, are.1.midnight, midnight, le))) (day_not k d.date ds are.2 (omega (arith, are.0, le)) are.1.midnight)
  where
    apart : (m k : ℕ) → k < m → nat_eq m k ≡ false
    apart m k lt = grind (arith, nat_tests)

    by : (a : Bool) → a ≡ false → is_day k (sizes ds) ≡ false → a || is_day k (sizes ds) ≡ false
    by false is rest = rest
    by true is rest = absurd (cc)

-- A DROP
pub lists_less : (mark date : ℕ) (all : List Entry) (d : Day) (ds : List Day) → AreDays date (d ∷ ds) → Lists mark all (d ∷ ds) → Lists mark all ds
lists_less mark date all d ds are is =
    sym (all_in (sizes ds) (entries_up_to mark ds) (entries_there mark d.date ds are.2))
    ∙ ap (λ (l : List Entry). l ++ entries_in (sizes ds) (entries_up_to mark ds)) (sym (none_in (d.date / 86400) (sizes ds) (day_entries mark d) (day_not (d.date / 86400) d.date ds are.2 (omega arith) are.1.midnight) (day_day mark d are.1.midnight)))
    ∙ sym (append_in (sizes ds) (day_entries mark d) (entries_up_to mark ds))
    ∙ ap (λ (l : List Entry). entries_in (sizes ds) l) is
    ∙ less_in (size_day d) (sizes ds) all

pub lists_left : (mark room date : ℕ) (all : List Entry) (days kept : List Day) → AreDays date days → Remain room days kept → Lists mark all days → Lists mark all kept
lists_left mark room date all [] kept are left is = subst (λ (l : List Day). Lists mark all l) (sym left) is
lists_left mark room date all (d ∷ ds) kept are left is = ⊎_elim
    (λ same. subst (λ (l : List Day). Lists mark all l) (sym same) is)
    (λ gone. lists_left mark room d.date all ds kept are.2 gone.1 (lists_less mark date all d ds are is)) left

-- A WORD behind the mark
latest_skip : (t : ℕ) (ws : List ℕ) (w : ℕ) → t < word_minute w → latest (ws ++ w ∷ []) t ≡ latest ws t
latest_skip t [] w lt = ap (λ (b : Bool). cond b (Some w) None) (above (word_minute w) t lt)
  where
    above : (m n : ℕ) → n < m → nat_le m n ≡ false
    above m n lt = grind (arith, nat_tests)
latest_skip t (v ∷ ws) w lt = ap (λ (o : Option ℕ). elim o as (λ _. Option ℕ) [ Some x ↦ Some x | None ↦ cond (nat_le (word_minute v) t) (Some v) None ]) (latest_skip t ws w lt)

pub minutes_same : (f g : ℕ → Option Entry) → ((t : ℕ) → f t ≡ g t) → (n t : ℕ) → minutes_from f n t ≡ minutes_from g n t
minutes_same f g same zero t = refl
minutes_same f g same (suc n) t =
    ap (λ (o : Option Entry). elim o as (λ _. List Entry) [ Some x ↦ x ∷ minutes_from f n (t + 1) | None ↦ minutes_from f n (t + 1) ]) (same t)
    ∙ ap (λ (l : List Entry). elim (g t) as (λ _. List Entry) [ Some x ↦ x ∷ l | None ↦ l ]) (minutes_same f g same n (t + 1))

at_same : (mark w : ℕ) (d : Day) → d.date % 86400 ≡ 0 → Behind mark w d → (t : ℕ) → entry_at mark (with_word w d) t ≡ entry_at mark d t
at_same mark w d midnight b t = by (nat_le (d.date / 60 + t) mark) refl
  where
    le_of : (m n : ℕ) → nat_le m n ≡ true → m ≤ n
    le_of m n is = grind (arith, nat_tests)

    by : (c : Bool) → nat_le (d.date / 60 + t) mark ≡ c → cond c (told_by (d.date / 60 + t) (latest (d.words ++ w ∷ []) t)) None ≡ cond c (told_by (d.date / 60 + t) (latest d.words t)) None
    by false is = refl
    by true is =
        let le : d.date / 60 + t ≤ mark = le_of (d.date / 60 + t) mark is in
        let here : d.date ≡ date_of mark = omega (arith, le, b.day, midnight) in
        ap (λ (o : Option ℕ). told_by (d.date / 60 + t) o) (latest_skip t d.words w (omega (arith, b.minute here, le, here)))

day_same : (mark w : ℕ) (d : Day) → d.date % 86400 ≡ 0 → Behind mark w d → day_entries mark (with_word w d) ≡ day_entries mark d
unfolding day_entries
day_same mark w d midnight b = minutes_same (entry_at mark (with_word w d)) (entry_at mark d) (at_same mark w d midnight b) 1440 0

pub entries_word : (mark w date : ℕ) (ds : List Day) → AreDays date ds → OnNewest (Behind mark w) ds → entries_up_to mark (with_newest (with_word w) ds) ≡ entries_up_to mark ds
entries_word mark w date [] are on = absurd on
entries_word mark w date (d ∷ []) are on = ap (λ (l : List Entry). l ++ []) (day_same mark w d are.1.midnight on)
entries_word mark w date (d ∷ e ∷ ds) are on = ap (λ (l : List Entry). day_entries mark d ++ l) (entries_word mark w d.date (e ∷ ds) are.2 on)

pub days_word : (w k : ℕ) (ds : List Day) → is_day k (sizes (with_newest (with_word w) ds)) ≡ is_day k (sizes ds)
days_word w k [] = refl
days_word w k (d ∷ []) = refl
days_word w k (d ∷ e ∷ ds) = ap (λ (b : Bool). nat_eq (d.date / 86400) k || b) (days_word w k (e ∷ ds))

in_same : (vs ws : List WordDay) → ((k : ℕ) → is_day k vs ≡ is_day k ws) → (es : List Entry) → entries_in vs es ≡ entries_in ws es
in_same vs ws same [] = refl
in_same vs ws same (e ∷ es) = ap (λ (b : Bool). cond b (e ∷ entries_in vs es) (entries_in vs es)) (same (e.minute / 1440)) ∙ ap (λ (l : List Entry). cond (is_day (e.minute / 1440) ws) (e ∷ l) l) (in_same vs ws same es)

pub lists_word : (mark w date : ℕ) (all : List Entry) (ds : List Day) → AreDays date ds → OnNewest (Behind mark w) ds → Lists mark all ds → Lists mark all (with_newest (with_word w) ds)
lists_word mark w date all ds are on is = entries_word mark w date ds are on ∙ is ∙ sym (in_same (sizes (with_newest (with_word w) ds)) (sizes ds) (λ k. days_word w k ds) all)

-- A DAY behind the mark
pub day_none : (mark : ℕ) (d : Day) → d.date % 86400 ≡ 0 → date_of mark < d.date → day_entries mark d ≡ []
unfolding day_entries
day_none mark d midnight lt = minutes_none (entry_at mark d) 1440 0 (λ s le. late_none mark d s (omega (arith, lt, midnight)))

pub entries_day : (mark : ℕ) (ds : List Day) (d : Day) → d.date % 86400 ≡ 0 → date_of mark < d.date → entries_up_to mark (ds ++ d ∷ []) ≡ entries_up_to mark ds
entries_day mark [] d midnight lt = ap (λ (l : List Entry). l ++ []) (day_none mark d midnight lt)
entries_day mark (e ∷ ds) d midnight lt = ap (λ (l : List Entry). day_entries mark e ++ l) (entries_day mark ds d midnight lt)

pub is_day_append : (k : ℕ) (ds : List Day) (d : Day) → nat_eq (d.date / 86400) k ≡ false → is_day k (sizes (ds ++ d ∷ [])) ≡ is_day k (sizes ds)
is_day_append k [] d is = ap (λ (b : Bool). b || false) is
is_day_append k (e ∷ ds) d is = ap (λ (b : Bool). nat_eq (e.date / 86400) k || b) (is_day_append k ds d is)

pub lists_day : (mark : ℕ) (all : List Entry) (ds : List Day) (d : Day) → d.date % 86400 ≡ 0 → date_of mark < d.date → AllUpTo mark all → Lists mark all ds → Lists mark all (ds ++ d ∷ [])
lists_day mark all ds d midnight lt up is = entries_day mark ds d midnight lt ∙ is ∙ sym (by all up)
  where
    apart : (m k : ℕ) → k < m → nat_eq m k ≡ false
    apart m k lt = grind (arith, nat_tests)

    by : (es : List Entry) → AllUpTo mark es → entries_in (sizes (ds ++ d ∷ [])) es ≡ entries_in (sizes ds) es
    by [] up = refl
    by (e ∷ es) up =
        ap (λ (b : Bool). cond b (e ∷ entries_in (sizes (ds ++ d ∷ [])) es) (entries_in (sizes (ds ++ d ∷ [])) es)) (is_day_append (e.minute / 1440) ds d (apart (d.date / 86400) (e.minute / 1440) (omega (arith, up.0, lt, midnight))))
        ∙ ap (λ (l : List Entry). cond (is_day (e.minute / 1440) (sizes ds)) (e ∷ l) l) (by es up.1)
