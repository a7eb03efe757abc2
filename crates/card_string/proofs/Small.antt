-- The words of an image's days are numbers of two bytes.
use Rattle.std.proofs.Common.{◌≡◌, ℕ, zero, suc, ◌+◌, ◌-◌, ◌/◌, ◌%◌, ◌<◌, ◌≤◌, Bool, true, false, cond, List, [], ◌∷◌, length, take, drop, All, sym, subst, arith, length-take}
use Rattle.std.specs.Prelude.{nat_eq, nat_lt, nat_le}
use Rattle.std.specs.List.{AllByRecursion}
use Rattle.std.proofs.lemmas.List.Elements.{All-append, All-take, All-drop, recursion_from_All}
use Rattle.tach_media.specs.card_layout.declared.files.Application.{Application}
use Rattle.card_by_hand.specs.card_model.declared.lengths.TheConstants.{DAYS_MOST}
use Rattle.card_by_hand.specs.card_model.Bytes.{number}
use Rattle.card_by_hand.specs.card_model.Days.{Day, last_word}
use Rattle.card_by_hand.specs.card_model.Changes.{OnNewest, with_newest, until, early, cut, with_early, date_of, trimmed}
use Rattle.card_by_hand.specs.card_model.Image.{oldest_pointer, string_of, circle_of}
use Rattle.card_by_hand.specs.card_model.Walk.{words_of, day_told, days_in, days_of}
use Rattle.card_by_hand.specs.card_image.Fields.{day_string, card_days}
use Rattle.tach_media.specs.Medium.{bytes_at}

abbrev pub AreBytes : List ℕ → Type 0
AreBytes xs = All (λ b. b < 256) xs

abbrev SmallWords : List ℕ → Type 0
SmallWords ws = AllByRecursion (λ w. w < 65536) ws

abbrev pub SmallDays : List Day → Type 0
SmallDays ds = AllByRecursion (λ d. SmallWords d.words) ds

two_small : (l : List ℕ) → length l ≤ 2 → AllByRecursion (λ b. b < 256) l → number l < 65536
two_small [] few all = omega arith
two_small (b ∷ []) few all = omega (arith, all.0)
two_small (b ∷ c ∷ []) few all = omega (arith, all.0, all.1.0)
two_small (b ∷ c ∷ d ∷ l) few all = absurd (omega (arith, few))

words_small : (count : ℕ) (bytes : List ℕ) → AreBytes bytes → SmallWords (words_of count bytes)
words_small zero bytes all = tt
words_small (suc count) bytes all = (
  two_small (take 2 bytes) (few bytes) (recursion_from_All (λ b. b < 256) (take 2 bytes) (All-take (λ b. b < 256) 2 bytes all)),
  words_small count (drop 2 bytes) (All-drop (λ b. b < 256) 2 bytes all),
)
  where
    few : (bytes : List ℕ) → length (take 2 bytes) ≤ 2
    few bytes = grind (arith, length-take)

days_small : (most far_ : ℕ) (bytes : List ℕ) → AreBytes bytes → SmallDays (days_in most far_ bytes)
days_small zero far_ bytes all = tt
days_small (suc most) far_ bytes all =
    by (nat_lt (number (bytes_at bytes 2 2)) 14) (nat_lt far_ (number (bytes_at bytes 2 2)))
    (words_small ((length (take (number (bytes_at bytes 2 2)) bytes) - 12) / 2) (drop 12 (take (number (bytes_at bytes 2 2)) bytes)) (All-drop (λ b. b < 256) 12 (take (number (bytes_at bytes 2 2)) bytes) (All-take (λ b. b < 256) (number (bytes_at bytes 2 2)) bytes all)))
    (days_small most (far_ - number (bytes_at bytes 2 2)) (drop (number (bytes_at bytes 2 2)) bytes) (All-drop (λ b. b < 256) (number (bytes_at bytes 2 2)) bytes all))
  where
    by : (a b : Bool) → SmallWords (day_told (take (number (bytes_at bytes 2 2)) bytes)).words → SmallDays (days_in most (far_ - number (bytes_at bytes 2 2)) (drop (number (bytes_at bytes 2 2)) bytes))
        → SmallDays (cond a [] (cond b (day_told (take (number (bytes_at bytes 2 2)) bytes) ∷ []) (day_told (take (number (bytes_at bytes 2 2)) bytes) ∷ days_in most (far_ - number (bytes_at bytes 2 2)) (drop (number (bytes_at bytes 2 2)) bytes))))
    by true b one rest = tt
    by false true one rest = (one, tt)
    by false false one rest = (one, rest)

pub card_small : (app : Application) (x : List ℕ) → AreBytes x → SmallDays (card_days app x)
unfolding card_days days_of
card_small app x all =
    days_small DAYS_MOST _ (circle_of (day_string app) x)
    (All-append (λ b. b < 256) (drop (oldest_pointer (day_string app) x) (string_of (day_string app) x)) (take (oldest_pointer (day_string app) x) (string_of (day_string app) x))
    (All-drop (λ b. b < 256) (oldest_pointer (day_string app) x) (string_of (day_string app) x) string_all) (All-take (λ b. b < 256) (oldest_pointer (day_string app) x) (string_of (day_string app) x) string_all))
  where
    string_all : AreBytes (string_of (day_string app) x)
    string_all = All-take (λ b. b < 256) (day_string app).size (drop ((day_string app).base + 4) x) (All-drop (λ b. b < 256) ((day_string app).base + 4) x all)

-- ---- those that a cut leaves

early_small : (m : ℕ) (ws : List ℕ) → SmallWords ws → SmallWords (early m ws)
early_small m [] small = tt
early_small m (w ∷ ws) small = by (nat_le _ m) (early_small m ws small.1)
  where
    by : (b : Bool) → SmallWords (early m ws) → SmallWords (cond b (w ∷ early m ws) [])
    by true rest = (small.0, rest)
    by false rest = tt

cut_small : (m : ℕ) (d : Day) → SmallWords d.words → SmallWords (cut m d).words
cut_small m d small = by (nat_eq d.date (date_of m))
  where
    by : (b : Bool) → SmallWords (cond b (with_early (m % 1440) d) d).words
    by true = early_small (m % 1440) d.words small
    by false = small

newest_small : (m : ℕ) (ds : List Day) → SmallDays ds → SmallDays (with_newest (cut m) ds)
newest_small m [] small = tt
newest_small m (d ∷ []) small = (cut_small m d small.0, tt)
newest_small m (d ∷ e ∷ ds) small = (small.0, newest_small m (e ∷ ds) small.1)

until_small : (date : ℕ) (ds : List Day) → SmallDays ds → SmallDays (until date ds)
until_small date [] small = tt
until_small date (d ∷ ds) small = by (nat_le d.date date) (until_small date ds small.1)
  where
    by : (b : Bool) → SmallDays (until date ds) → SmallDays (cond b (d ∷ until date ds) [])
    by true rest = (small.0, rest)
    by false rest = tt

pub trimmed_small : (m : ℕ) (ds : List Day) → SmallDays ds → SmallDays (trimmed m ds)
trimmed_small m ds small = newest_small m (until (date_of m) ds) (until_small (date_of m) ds small)

last_small : (ws : List ℕ) → SmallWords ws → last_word ws < 65536
last_small [] small = omega arith
last_small (w ∷ []) small = small.0
last_small (w ∷ v ∷ ws) small = last_small (v ∷ ws) small.1

pub last_of_small : (ds : List Day) → SmallDays ds → (d : Day) (es : List Day) → ds ≡ d ∷ es → OnNewest (λ d. last_word d.words < 65536) ds
last_of_small ds small d es is = subst (λ (l : List Day). OnNewest (λ d. last_word d.words < 65536) l) (sym is) (on d es (subst SmallDays is small))
  where
    on : (d : Day) (es : List Day) → SmallDays (d ∷ es) → OnNewest (λ d. last_word d.words < 65536) (d ∷ es)
    on d [] small = last_small d.words small.0
    on d (e ∷ es) small = on e es small.1
