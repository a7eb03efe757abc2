-- Days of the same dates and words: what is said of these is the same, whatever their counters and distances are.
use Rattle.std.proofs.Common.{◌≡◌, ℕ, suc, ◌+◌, ◌/◌, ◌%◌, ◌≤◌, Bool, true, false, cond, ◌&&◌, not, Option, None, List, [], ◌∷◌, ◌++◌, length, refl, sym, ◌∙◌, ap, subst}
use Rattle.std.specs.Prelude.{nat_eq, nat_lt, nat_le}
use Rattle.activity_codec.specs.declared.entries.Entry.{Entry}
use Rattle.activity_codec.specs.Words.{word_minute, word_absent}
use Rattle.card_days.specs.card_model.Days.{Day, AreDays, last_word}
use Rattle.card_days.specs.card_model.Changes.{OnNewest, AreStrict, with_newest, with_early, early, until, cut, trimmed, date_of}
use Rattle.card_days.proofs.card_model.Trims.{cut_date}
use Rattle.card_validity.specs.card_retention.Expected.{WordDay, more, Counted, expected_days}
use Rattle.card_validity.specs.card_retention.Shown.{Bound, Shows, Grows, sizes, size_day, is_open, owing, Tells, TellsIn, Rests, Sound, Sound.Flat, Sound.Tail, Lives}
use Rattle.card_validity.specs.card_retention.Entries.{latest, told_by, entry_at, day_entries, entries_up_to, newest_word}
use Rattle.card_validity.proofs.card_retention.Flat.{UpTo, newest_flat, flat_newest}
use Rattle.card_validity.proofs.card_retention.Listing.{minutes_same}
use Rattle.card_session.specs.Books.{travelled}
use Rattle.card_session.specs.Sessions.{EndsStrictly}

abbrev pub Alike : List Day → List Day → Type 0
Alike [] [] = Unit {0}
Alike [] (f ∷ fs) = ⊥
Alike (d ∷ ds) [] = ⊥
Alike (d ∷ ds) (f ∷ fs) = (f.date ≡ d.date) × (f.words ≡ d.words) × Alike ds fs

-- another distance
pub alike_km : (more : ℕ) (ds : List Day) → Alike ds (travelled more ds)
alike_km more [] = tt
alike_km more (d ∷ []) = (refl, refl, tt)
alike_km more (d ∷ e ∷ ds) = (refl, refl, alike_km more (e ∷ ds))

pub are_bare : (more date : ℕ) (ds : List Day) → AreDays date (travelled more ds) → AreDays date ds
are_bare more date [] are = tt
are_bare more date (d ∷ []) are = (are.0, record { midnight = are.1.midnight; decimal = are.1.decimal; most = are.1.most; ordered = are.1.ordered }, tt)
are_bare more date (d ∷ e ∷ ds) are = (are.0, are.1, are_bare more d.date (e ∷ ds) are.2)

-- what is said of the newest day
pub on_alike : (P : Day → Type 0) → ((d f : Day) → f.date ≡ d.date → f.words ≡ d.words → P d → P f) → (ds fs : List Day) → Alike ds fs → OnNewest P ds → OnNewest P fs
on_alike P same [] fs a on = absurd on
on_alike P same (d ∷ ds) [] a on = absurd a
on_alike P same (d ∷ []) (f ∷ []) a on = same d f a.0 a.1 on
on_alike P same (d ∷ []) (f ∷ g ∷ fs) a on = absurd a.2
on_alike P same (d ∷ e ∷ ds) (f ∷ []) a on = absurd a.2
on_alike P same (d ∷ e ∷ ds) (f ∷ g ∷ fs) a on = on_alike P same (e ∷ ds) (g ∷ fs) a.2 on

pub sizes_alike : (ds fs : List Day) → Alike ds fs → sizes fs ≡ sizes ds
sizes_alike [] [] a = refl
sizes_alike [] (f ∷ fs) a = absurd a
sizes_alike (d ∷ ds) [] a = absurd a
sizes_alike (d ∷ ds) (f ∷ fs) a =
    ap (λ (n : ℕ). (let w : WordDay = record { day = n / 86400; words = length f.words } in w) ∷ sizes fs) a.0
    ∙ ap (λ (l : List ℕ). (let w : WordDay = record { day = d.date / 86400; words = length l } in w) ∷ sizes fs) a.1
    ∙ ap (λ (l : List WordDay). size_day d ∷ l) (sizes_alike ds fs a.2)

pub open_alike : (mark : ℕ) (ds fs : List Day) → Alike ds fs → is_open mark fs ≡ is_open mark ds
open_alike mark [] [] a = refl
open_alike mark [] (f ∷ fs) a = absurd a
open_alike mark (d ∷ ds) [] a = absurd a
open_alike mark (d ∷ []) (f ∷ []) a =
    ap (λ (n : ℕ). nat_eq n (date_of (suc mark)) && not (word_absent (last_word f.words))) a.0
    ∙ ap (λ (l : List ℕ). nat_eq d.date (date_of (suc mark)) && not (word_absent (last_word l))) a.1
open_alike mark (d ∷ []) (f ∷ g ∷ fs) a = absurd a.2
open_alike mark (d ∷ e ∷ ds) (f ∷ []) a = absurd a.2
open_alike mark (d ∷ e ∷ ds) (f ∷ g ∷ fs) a = open_alike mark (e ∷ ds) (g ∷ fs) a.2

pub word_alike : (ds fs : List Day) → Alike ds fs → newest_word fs ≡ newest_word ds
word_alike [] [] a = refl
word_alike [] (f ∷ fs) a = absurd a
word_alike (d ∷ ds) [] a = absurd a
word_alike (d ∷ []) (f ∷ []) a =
    ap (λ (n : ℕ). n / 60 + word_minute (last_word f.words)) a.0 ∙ ap (λ (l : List ℕ). d.date / 60 + word_minute (last_word l)) a.1
word_alike (d ∷ []) (f ∷ g ∷ fs) a = absurd a.2
word_alike (d ∷ e ∷ ds) (f ∷ []) a = absurd a.2
word_alike (d ∷ e ∷ ds) (f ∷ g ∷ fs) a = word_alike (e ∷ ds) (g ∷ fs) a.2

pub strict_alike : (ds fs : List Day) → Alike ds fs → EndsStrictly ds → EndsStrictly fs
strict_alike [] [] a strict = tt
strict_alike [] (f ∷ fs) a strict = absurd a
strict_alike (d ∷ ds) [] a strict = absurd a
strict_alike (d ∷ []) (f ∷ []) a strict = subst AreStrict (sym a.1) strict
strict_alike (d ∷ []) (f ∷ g ∷ fs) a strict = absurd a.2
strict_alike (d ∷ e ∷ ds) (f ∷ []) a strict = absurd a.2
strict_alike (d ∷ e ∷ ds) (f ∷ g ∷ fs) a strict = strict_alike (e ∷ ds) (g ∷ fs) a.2 strict

-- the entries
day_alike : (mark : ℕ) (d f : Day) → f.date ≡ d.date → f.words ≡ d.words → day_entries mark f ≡ day_entries mark d
unfolding day_entries
day_alike mark d f date words = minutes_same (entry_at mark f) (entry_at mark d) at 1440 0
  where
    at : (t : ℕ) → entry_at mark f t ≡ entry_at mark d t
    at t =
        ap (λ (n : ℕ). cond (nat_le (n / 60 + t) mark) (told_by (n / 60 + t) (latest f.words t)) None) date
        ∙ ap (λ (l : List ℕ). cond (nat_le (d.date / 60 + t) mark) (told_by (d.date / 60 + t) (latest l t)) None) words

pub entries_alike : (mark : ℕ) (ds fs : List Day) → Alike ds fs → entries_up_to mark fs ≡ entries_up_to mark ds
entries_alike mark [] [] a = refl
entries_alike mark [] (f ∷ fs) a = absurd a
entries_alike mark (d ∷ ds) [] a = absurd a
entries_alike mark (d ∷ ds) (f ∷ fs) a =
    ap (λ (l : List Entry). l ++ entries_up_to mark fs) (day_alike mark d f a.0 a.1) ∙ ap (λ (l : List Entry). day_entries mark d ++ l) (entries_alike mark ds fs a.2)

-- a trim leaves such days of them
until_alike : (date : ℕ) (ds fs : List Day) → Alike ds fs → Alike (until date ds) (until date fs)
until_alike date [] [] a = tt
until_alike date [] (f ∷ fs) a = absurd a
until_alike date (d ∷ ds) [] a = absurd a
until_alike date (d ∷ ds) (f ∷ fs) a =
    subst (λ (n : ℕ). Alike (cond (nat_le d.date date) (d ∷ until date ds) []) (cond (nat_le n date) (f ∷ until date fs) [])) (sym a.0) (by (nat_le d.date date) (until_alike date ds fs a.2))
  where
    by : (b : Bool) → Alike (until date ds) (until date fs) → Alike (cond b (d ∷ until date ds) []) (cond b (f ∷ until date fs) [])
    by true rest = (a.0, a.1, rest)
    by false rest = tt

cut_words : (m : ℕ) (d f : Day) → f.date ≡ d.date → f.words ≡ d.words → (cut m f).words ≡ (cut m d).words
cut_words m d f date words = ap (λ (n : ℕ). (cond (nat_eq n (date_of m)) (with_early (m % 1440) f) f).words) date ∙ by (nat_eq d.date (date_of m))
  where
    by : (b : Bool) → (cond b (with_early (m % 1440) f) f).words ≡ (cond b (with_early (m % 1440) d) d).words
    by true = ap (early (m % 1440)) words
    by false = words

newest_cut : (m : ℕ) (ds fs : List Day) → Alike ds fs → Alike (with_newest (cut m) ds) (with_newest (cut m) fs)
newest_cut m [] [] a = tt
newest_cut m [] (f ∷ fs) a = absurd a
newest_cut m (d ∷ ds) [] a = absurd a
newest_cut m (d ∷ []) (f ∷ []) a = (cut_date m f ∙ a.0 ∙ sym (cut_date m d), cut_words m d f a.0 a.1, tt)
newest_cut m (d ∷ []) (f ∷ g ∷ fs) a = absurd a.2
newest_cut m (d ∷ e ∷ ds) (f ∷ []) a = absurd a.2
newest_cut m (d ∷ e ∷ ds) (f ∷ g ∷ fs) a = (a.0, a.1, newest_cut m (e ∷ ds) (g ∷ fs) a.2)

pub trimmed_alike : (m : ℕ) (ds fs : List Day) → Alike ds fs → Alike (trimmed m ds) (trimmed m fs)
trimmed_alike m ds fs a = newest_cut m (until (date_of m) ds) (until (date_of m) fs) (until_alike (date_of m) ds fs a)

pub flat_alike : (mark : ℕ) (ds fs : List Day) → Alike ds fs → AreDays 0 fs → trimmed mark ds ≡ ds → trimmed mark fs ≡ fs
flat_alike mark [] [] a are is = refl
flat_alike mark [] (f ∷ fs) a are is = absurd a
flat_alike mark (d ∷ ds) [] a are is = absurd a
flat_alike mark (d ∷ ds) (f ∷ fs) a are is = flat_newest mark 0 (f ∷ fs) are (on_alike (UpTo mark) up_to (d ∷ ds) (f ∷ fs) a (newest_flat mark d ds is))
  where
    up_to : (d f : Day) → f.date ≡ d.date → f.words ≡ d.words → UpTo mark d → UpTo mark f
    up_to d f date words u = record {
      day = subst (λ (n : ℕ). n ≤ date_of mark) (sym date) u.day;
      last = λ at. subst (λ (l : List ℕ). early (mark % 1440) l ≡ l) (sym words) (u.last (sym date ∙ at));
    }

-- what the overwriting rule asks
pub owing_alike : (n mark : ℕ) (ds fs : List Day) → Alike ds fs → owing n mark fs ≡ owing n mark ds
owing_alike n mark ds fs a =
    ap (λ (o : Bool). cond (o && nat_lt (suc mark) n) (more (sizes fs)) (sizes fs)) (open_alike mark ds fs a)
    ∙ ap (λ (l : List WordDay). cond (is_open mark ds && nat_lt (suc mark) n) (more l) l) (sizes_alike ds fs a)

pub tells_alike : (p : Entry) (ds fs : List Day) → Alike ds fs → Tells p ds → Tells p fs
tells_alike p ds fs a tells = on_alike (TellsIn p) tells_in ds fs a tells
  where
    tells_in : (d f : Day) → f.date ≡ d.date → f.words ≡ d.words → TellsIn p d → TellsIn p f
    tells_in d f date words t = record { date = date ∙ t.date; state = ap (λ (l : List ℕ). last_word l / 2048) words ∙ t.state }

abbrev pub rests_alike : (size : ℕ) (slack : Bound) (covered from mark : ℕ) (c : Counted) (ds fs : List Day) → Alike ds fs → AreDays 0 fs → Rests size slack covered from mark c ds → Rests size slack covered from mark c fs
rests_alike size slack covered from mark c ds fs a are r = record {
  ordered = are;
  rising = r.rising;
  filled = r.filled;
  top = r.top;
  words = r.words;
  entry = r.entry;
  low = r.low;
  next = r.next;
  later = r.later;
  by_mark = r.by_mark;
  tells = λ p is at. tells_alike p ds fs a (r.tells p is at);
  shows = λ n le. subst (λ (l : List WordDay). Shows size slack (expected_days covered n c) l) (sym (owing_alike n mark ds fs a)) (r.shows n le);
}

sound_alike : (mark top : ℕ) (before : Option Entry) (ds fs : List Day) → Alike ds fs → AreDays 0 fs → Sound mark top before ds → Sound mark top before fs
sound_alike mark top before ds fs a are (Flat is) = Flat (flat_alike mark ds fs a are is)
sound_alike mark top before ds fs a are (Tail ends fewer apart) =
    Tail (on_alike (λ d. word_absent (last_word d.words) ≡ true) absent ds fs a ends)
    (λ n. subst (λ (l : List WordDay). Grows l (sizes fs)) (sym (owing_alike n mark (trimmed mark ds) (trimmed mark fs) (trimmed_alike mark ds fs a)))
    (subst (λ (l : List WordDay). Grows (owing n mark (trimmed mark ds)) l) (sym (sizes_alike ds fs a)) (fewer n)))
    apart
  where
    absent : (d f : Day) → f.date ≡ d.date → f.words ≡ d.words → word_absent (last_word d.words) ≡ true → word_absent (last_word f.words) ≡ true
    absent d f date words is = ap (λ (l : List ℕ). word_absent (last_word l)) words ∙ is

pub lives_alike : (size : ℕ) (slack : Bound) (covered from mark : ℕ) (c : Counted) (ds fs : List Day) → Alike ds fs → AreDays 0 fs → Lives size slack covered from mark c ds → Lives size slack covered from mark c fs
lives_alike size slack covered from mark c ds fs a are l = record {
  rests = rests_alike size slack covered from mark c ds fs a are l.rests;
  sound = sound_alike mark l.rests.top c.before ds fs a are l.sound;
}
