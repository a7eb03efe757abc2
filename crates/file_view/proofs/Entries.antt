-- The entries of days, one minute and one day more.
use Rattle.std.proofs.Common.{◌≡◌, ◌∙◌, ℕ, zero, suc, ◌+◌, ◌/◌, ◌<◌, ◌≤◌, true, false, Option, Some, None, option_map, List, [], ◌∷◌, ◌++◌, ◌-◌, min, map, flat_map, refl, ap, sym, subst, arith, append_assoc, append-nil}
use Rattle.std.specs.Prelude.{option_to_list, nat_le}
use Rattle.std.specs.List.{range_with_len}
use Rattle.activity_codec.specs.declared.entries.Entry.{Entry}
use Rattle.activity_codec.specs.declared.words.Change.{Change}
use Rattle.activity_codec.specs.Words.{change_of, word_absent}
use Rattle.card_model.specs.Days.{Day}
use Rattle.card_retention.specs.Entries.{latest, told_by, entry_at, minutes_from, day_entries, entries_up_to}
use Rattle.std.specs.List.{AllByRecursion}
use Rattle.std.proofs.lemmas.Bool.{le-leb, lt-leb, leb-true}
use Rattle.activity_codec.proofs.ByTest.{by_test}
use Rattle.view_model.specs.declared.CardShown.{CardShown}
use Rattle.view_model.specs.declared.Viewed.{Viewed}
use Rattle.view_model.specs.Lines.{day_of_minute}
use Rattle.tacho_types.specs.declared.calendar.TheConstants.{DAYS}
use Rattle.view_text.specs.Entries.{entry_shown}
use Rattle.card_image.specs.Fields.{last_of}
use Rattle.file_view.specs.Histories.{line_minutes}
use Rattle.file_view.specs.Showing.{entry_of, entry_up_to, entries_in}
use Rattle.file_view.proofs.Growing.{viewed, row}

-- what a minute's change tells is what its word tells
pub entry_by : (m : ℕ) (o : Option ℕ) → entry_of m (option_map change_of o) ≡ option_to_list (told_by m o)
entry_by m None = refl
entry_by m (Some w) = by_test (word_absent w) (λ yes. rw yes refl) (λ no. rw no refl)

-- the first minute, and one minute more
first_minute : (f : ℕ → Option Entry) (n t : ℕ) → minutes_from f (suc n) t ≡ option_to_list (f t) ++ minutes_from f n (t + 1)
first_minute f n t = by (f t)
  where
    by : (o : Option Entry) → (elim o as (λ _. List Entry) [ Some e ↦ e ∷ minutes_from f n (t + 1) | None ↦ minutes_from f n (t + 1) ]) ≡ option_to_list o ++ minutes_from f n (t + 1)
    by None = refl
    by (Some e) = refl

-- some minutes, and more
pub minutes_more : (f : ℕ → Option Entry) (n more t : ℕ) → minutes_from f (n + more) t ≡ minutes_from f n t ++ minutes_from f more (t + n)
minutes_more f zero more t = ap (λ (k : ℕ). minutes_from f k t) (omega arith) ∙ ap (λ (k : ℕ). minutes_from f more k) (omega arith)
minutes_more f (suc n) more t =
    let long : suc n + more ≡ suc (n + more) = omega arith in
    ap (λ (k : ℕ). minutes_from f k t) long
    ∙ first_minute f (n + more) t
    ∙ ap (λ (l : List Entry). option_to_list (f t) ++ l) (minutes_more f n more (t + 1) ∙ ap (λ (k : ℕ). minutes_from f n (t + 1) ++ minutes_from f more k) (omega arith))
    ∙ sym (append_assoc (option_to_list (f t)) (minutes_from f n (t + 1)) (minutes_from f more (t + suc n)))
    ∙ ap (λ (l : List Entry). l ++ minutes_from f more (t + suc n)) (sym (first_minute f n t))

-- one day more
pub days_more : (mark : ℕ) (ds : List Day) (d : Day) → entries_up_to mark (ds ++ d ∷ []) ≡ entries_up_to mark ds ++ day_entries mark d
days_more mark [] d = append-nil (day_entries mark d)
days_more mark (x ∷ ds) d = ap (λ (l : List Entry). day_entries mark x ++ l) (days_more mark ds d) ∙ sym (append_assoc (day_entries mark x) (entries_up_to mark ds) (day_entries mark d))

-- the last of a list that ends so
pub last_is : (l : List ℕ) (i : ℕ) → last_of (l ++ i ∷ []) ≡ Some i
last_is [] i = refl
last_is (x ∷ []) i = refl
last_is (x ∷ y ∷ l) i = last_is (y ∷ l) i

-- what a minute tells, up to the mark
pub entry_there : (mark : ℕ) (d : Day) (t minute : ℕ) → minute ≡ d.date / 60 + t → entry_up_to mark minute (option_map change_of (latest d.words t)) ≡ option_to_list (entry_at mark d t)
entry_there mark d t minute is =
    ap (λ (m : ℕ). entry_up_to mark m (option_map change_of (latest d.words t))) is
    ∙ by_test (nat_le (d.date / 60 + t) mark)
    (λ yes. rw yes (entry_by (d.date / 60 + t) (latest d.words t)))
    (λ no. rw no refl)

-- what minutes in a row tell that one change decides
pub run_told : (mark : ℕ) (d : Day) (change : Option Change) (n t minute : ℕ) → minute ≡ d.date / 60 + t → ((k : ℕ) → t ≤ k → k < t + n → option_map change_of (latest d.words k) ≡ change)
    → flat_map (λ (m : ℕ). entry_up_to mark m change) (range_with_len minute n) ≡ minutes_from (entry_at mark d) n t
run_told mark d change zero t minute is decides = refl
run_told mark d change (suc n) t minute is decides =
    let here : entry_up_to mark minute change ≡ option_to_list (entry_at mark d t) =
    ap (λ (o : Option Change). entry_up_to mark minute o) (sym (decides t (omega arith) (omega arith))) ∙ entry_there mark d t minute is in
    ap (λ (l : List Entry). l ++ flat_map (λ (m : ℕ). entry_up_to mark m change) (range_with_len (minute + 1) n)) here
    ∙ ap (λ (l : List Entry). option_to_list (entry_at mark d t) ++ l) (run_told mark d change n (t + 1) (minute + 1) (omega (arith, is)) (λ k le lt. decides k (omega (arith, le)) (omega (arith, lt))))
    ∙ sym (first_minute (entry_at mark d) n t)

-- none where no word decides, or the word tells of no card, or the minute is behind the mark
none_told : (mark minute : ℕ) → entry_up_to mark minute None ≡ []
none_told mark minute = by_test (nat_le minute mark) (λ yes. rw yes refl) (λ no. rw no refl)

behind_told : (mark minute : ℕ) (o : Option Change) → mark < minute → entry_up_to mark minute o ≡ []
behind_told mark minute o lt = let no : nat_le minute mark ≡ false = lt-leb minute mark lt in rw no refl

absent_told : (mark minute : ℕ) (c : Change) → c.absent ≡ true → entry_up_to mark minute (Some c) ≡ []
absent_told mark minute c absent = by_test (nat_le minute mark) (λ yes. rw (yes, absent) refl) (λ no. rw no refl)

one_told : (mark minute : ℕ) (c : Change) → minute ≤ mark → c.absent ≡ false → entry_up_to mark minute (Some c) ≡ record { minute = minute; slot = c.slot; crew = c.crew_or_known; act = c.act } ∷ []
one_told mark minute c le present = let yes : nat_le minute mark ≡ true = le-leb minute mark le in rw (yes, present) refl

nothing_told : (mark : ℕ) (o : Option Change) (first n : ℕ) → ((m : ℕ) → first ≤ m → entry_up_to mark m o ≡ []) → flat_map (λ (m : ℕ). entry_up_to mark m o) (range_with_len first n) ≡ []
nothing_told mark o first zero none = refl
nothing_told mark o first (suc n) none =
    ap (λ (l : List Entry). l ++ flat_map (λ (m : ℕ). entry_up_to mark m o) (range_with_len (first + 1) n)) (none first (omega arith))
    ∙ nothing_told mark o (first + 1) n (λ m le. none m (omega (arith, le)))

pub none_in : (mark first last : ℕ) → entries_in mark first last None ≡ []
none_in mark first last = nothing_told mark None first (last + 1 - first) (λ m le. none_told mark m)

pub behind_in : (mark first last : ℕ) (o : Option Change) → mark < first → entries_in mark first last o ≡ []
behind_in mark first last o lt = nothing_told mark o first (last + 1 - first) (λ m le. behind_told mark m o (omega (arith, le, lt)))

pub absent_in : (mark first last : ℕ) (c : Change) → c.absent ≡ true → entries_in mark first last (Some c) ≡ []
absent_in mark first last c absent = nothing_told mark (Some c) first (last + 1 - first) (λ m le. absent_told mark m c absent)

-- else one for each minute up to the mark
abbrev pub shown_of : Change → CardShown
shown_of c = record { slot = c.slot; act = c.act; crew = c.crew_or_known }

rows_told : (mark : ℕ) (c : Change) → c.absent ≡ false → (first n k : ℕ) → k ≤ n → first + k ≤ mark + 1 → (k < n → mark < first + k)
    → map entry_shown (flat_map (λ (m : ℕ). entry_up_to mark m (Some c)) (range_with_len first n)) ≡ row (shown_of c) first k
rows_told mark c present first n zero le inside behind =
    ap (λ (l : List Entry). map entry_shown l) (by n behind)
  where
    by : (n : ℕ) → (0 < n → mark < first + 0) → flat_map (λ (m : ℕ). entry_up_to mark m (Some c)) (range_with_len first n) ≡ []
    by zero behind = refl
    by (suc n) behind = let past = behind (omega arith) in nothing_told mark (Some c) first (suc n) (λ m le. behind_told mark m (Some c) (omega (arith, le, past)))
rows_told mark c present first zero (suc k) le inside behind = absurd (omega (arith, le))
rows_told mark c present first (suc n) (suc k) le inside behind =
    ap (λ (l : List Entry). map entry_shown (l ++ flat_map (λ (m : ℕ). entry_up_to mark m (Some c)) (range_with_len (first + 1) n))) (one_told mark first c (omega (arith, inside)) present)
    ∙ ap (λ (l : List (Viewed CardShown)). viewed (shown_of c) first ∷ l) (rows_told mark c present (first + 1) n k (omega (arith, le)) (omega (arith, inside)) (λ lt. let past = behind (omega (arith, lt)) in omega (arith, past)))

pub run_in : (mark first last end : ℕ) (c : Change) → c.absent ≡ false → first ≤ mark → first ≤ last → end ≡ min last mark
    → map entry_shown (entries_in mark first last (Some c)) ≡ line_minutes (record { first = first; last = end; shown = shown_of c })
run_in mark first last end c present le some is = rows_told mark c present first (last + 1 - first) (end + 1 - first) (omega (arith, is, some, le)) (omega (arith, is, some, le)) (λ lt. omega (arith, is, some, le, lt))

-- no entry is behind the mark
abbrev pub AreLow : ℕ → List Entry → Type 0
AreLow mark es = AllByRecursion (λ (e : Entry). e.minute ≤ mark) es

low_append : (mark : ℕ) (es fs : List Entry) → AreLow mark es → AreLow mark fs → AreLow mark (es ++ fs)
low_append mark [] fs low more = more
low_append mark (e ∷ es) fs low more = (low.0, low_append mark es fs low.1 more)

told_low : (mark m : ℕ) (o : Option ℕ) → m ≤ mark → AreLow mark (option_to_list (told_by m o))
told_low mark m None le = tt
told_low mark m (Some w) le = by_test (word_absent w) (λ yes. rw yes tt) (λ no. rw no (le, tt))

entry_low : (mark : ℕ) (d : Day) (t : ℕ) → AreLow mark (option_to_list (entry_at mark d t))
entry_low mark d t =
    by_test (nat_le (d.date / 60 + t) mark)
    (λ yes. rw yes (told_low mark (d.date / 60 + t) (latest d.words t) (leb-true (d.date / 60 + t) mark yes)))
    (λ no. rw no tt)

minutes_low : (mark : ℕ) (f : ℕ → Option Entry) → ((t : ℕ) → AreLow mark (option_to_list (f t))) → (n t : ℕ) → AreLow mark (minutes_from f n t)
minutes_low mark f low zero t = tt
minutes_low mark f low (suc n) t = subst (AreLow mark) (sym (first_minute f n t)) (low_append mark (option_to_list (f t)) (minutes_from f n (t + 1)) (low t) (minutes_low mark f low n (t + 1)))

pub entries_low : (mark : ℕ) (days : List Day) → AreLow mark (entries_up_to mark days)
unfolding day_entries
entries_low mark [] = tt
entries_low mark (d ∷ ds) = low_append mark (day_entries mark d) (entries_up_to mark ds) (minutes_low mark (entry_at mark d) (entry_low mark d) 1440 0) (entries_low mark ds)

-- so they lie on days that a time of four bytes can name
pub shown_low : (mark : ℕ) (es : List Entry) → mark < 71582789 → AreLow mark es → AllByRecursion (λ (m : Viewed CardShown). day_of_minute m.minute < DAYS) (map entry_shown es)
shown_low mark [] high low = tt
shown_low mark (e ∷ es) high low = (omega (arith, low.0, high), shown_low mark es high low.1)

-- the minutes of a day
pub day_minutes : (mark : ℕ) (d : Day) → minutes_from (entry_at mark d) 1440 0 ≡ day_entries mark d
unfolding day_entries
day_minutes mark d = refl
