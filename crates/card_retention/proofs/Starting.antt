-- A card as it is found: its own days are those that are expected.
use Rattle.std.proofs.Common.{◌≡◌, inl, inr, ⊎_elim, ℕ, zero, suc, ◌+◌, ◌-◌, ◌*◌, ◌/◌, ◌%◌, ◌<◌, ◌≤◌, max, Bool, true, false, cond, not, ◌&&◌, ◌==◌, Option, Some, None, List, [], ◌∷◌, ◌++◌, refl, sym, ◌∙◌, ap, subst, arith}
use Rattle.std.specs.Prelude.{nat_eq, nat_lt}
use Rattle.std.proofs.lemmas.Bool.{lt-ltb}
use Rattle.std.proofs.lemmas.Bool.Decides.{nat_tests}
use Rattle.std.proofs.Math.Nat.{le-max_left, le-max_right, max-le}
use Rattle.activity_codec.specs.declared.entries.Entry.{Entry}
use Rattle.activity_codec.specs.Words.{slot_number, slot_numbered, activity_number, activity_numbered, bit, word_absent, word_slot, word_crew, word_act}
use Rattle.card_model.specs.Days.{Day, AreDays, last_word}
use Rattle.card_model.specs.Changes.{OnNewest}
use Rattle.card_model.proofs.Lists.{some_words}
use Rattle.card_retention.specs.Expected.{WordDay, more, is_closed, closes, Counted}
use Rattle.card_retention.specs.Shown.{Covers, Bound, InDays, AllFrom, AllBefore, AllIn, AllUpTo, Shows, Filled, sizes, entry_state, is_open, owing, TellsIn, Tells, Rests}
use Rattle.card_retention.specs.Entries.{entry_at, minutes_from, day_entries, entries_up_to, last_entry, newest_word, EndsBy}
use Rattle.card_retention.proofs.Growing.{in_more, shows_more, still_in}
use Rattle.card_retention.proofs.Entering.{closes_is, rising_sizes, before_later}
use Rattle.card_retention.proofs.Newest.{Has, IsEntry, entry_is, entries_low, day_has, last_split, word_late, latest_last, at_mark}

covers_same : (ws : List WordDay) → Covers ws ws
covers_same [] = tt
covers_same (w ∷ ws) = inl (record { day = refl; words = omega arith }, covers_same ws)

from_zero : (ws : List WordDay) → AllFrom 0 ws
from_zero [] = tt
from_zero (w ∷ ws) = (omega arith, from_zero ws)

shows_same : (size : ℕ) (b : Bound) (ws : List WordDay) → AllIn 0 b.all ws → Shows size b ws ws
shows_same size b ws whole = record { gone = []; there = ws; split = refl; covers = covers_same ws; full = tt; some = λ _. refl; oldest = 0; low = tt; high = from_zero ws; none = λ _. refl; whole = whole }

filled_sizes : (date : ℕ) (ds : List Day) → AreDays date ds → Filled (sizes ds)
filled_sizes date [] are = tt
filled_sizes date (d ∷ ds) are = (some_words d.words are.1.ordered, filled_sizes d.date ds are.2)

pub sizes_low : (date : ℕ) (ds : List Day) → AreDays date ds → AllBefore (suc (newest_word ds / 1440)) (sizes ds)
sizes_low date [] are = tt
sizes_low date (d ∷ []) are = (omega (arith, are.1.midnight), tt)
sizes_low date (d ∷ e ∷ ds) are = (omega (arith, word_late d.date e ds are.2, are.2.0), sizes_low d.date (e ∷ ds) are.2)

-- THE ENTRIES lie up to the mark, each in a day of the string
all_append : (mark : ℕ) (es fs : List Entry) → AllUpTo mark es → AllUpTo mark fs → AllUpTo mark (es ++ fs)
all_append mark [] fs a b = b
all_append mark (e ∷ es) fs a b = (a.0, all_append mark es fs a.1 b)

in_append : (o : ℕ) (ws : List WordDay) (es fs : List Entry) → AllIn o es ws → AllIn o fs ws → AllIn o (es ++ fs) ws
in_append o ws [] fs a b = b
in_append o ws (e ∷ es) fs a b = (a.0, in_append o ws es fs a.1 b)

minutes_low : (mark : ℕ) (d : Day) (n t : ℕ) → AllUpTo mark (minutes_from (entry_at mark d) n t)
minutes_low mark d zero t = tt
minutes_low mark d (suc n) t = by (entry_at mark d t) refl (minutes_low mark d n (t + 1))
  where
    by : (o : Option Entry) → entry_at mark d t ≡ o → AllUpTo mark (minutes_from (entry_at mark d) n (t + 1)) → AllUpTo mark (elim o as (λ _. List Entry) [ Some x ↦ x ∷ minutes_from (entry_at mark d) n (t + 1) | None ↦ minutes_from (entry_at mark d) n (t + 1) ])
    by None is rest = rest
    by (Some x) is rest = ((entry_is mark d t x is).low, rest)

minutes_in : (mark : ℕ) (d : Day) (ws : List WordDay) → InDays (d.date / 86400) ws → d.date % 86400 ≡ 0 → (n t : ℕ) → t + n ≤ 1440 → AllIn 0 (minutes_from (entry_at mark d) n t) ws
minutes_in mark d ws here midnight zero t le = tt
minutes_in mark d ws here midnight (suc n) t le = by (entry_at mark d t) refl (minutes_in mark d ws here midnight n (t + 1) (omega (arith, le)))
  where
    by : (o : Option Entry) → entry_at mark d t ≡ o → AllIn 0 (minutes_from (entry_at mark d) n (t + 1)) ws → AllIn 0 (elim o as (λ _. List Entry) [ Some x ↦ x ∷ minutes_from (entry_at mark d) n (t + 1) | None ↦ minutes_from (entry_at mark d) n (t + 1) ]) ws
    by None is rest = rest
    by (Some x) is rest = (λ _. subst (λ (k : ℕ). InDays k ws) (sym (day x (entry_is mark d t x is))) here, rest)
      where
        day : (x : Entry) → IsEntry mark d t x → x.minute / 1440 ≡ d.date / 86400
        day x i = omega (arith, i.minute, midnight, le)

day_low : (mark : ℕ) (d : Day) → AllUpTo mark (day_entries mark d)
unfolding day_entries
day_low mark d = minutes_low mark d 1440 0

day_in : (mark : ℕ) (d : Day) (ws : List WordDay) → InDays (d.date / 86400) ws → d.date % 86400 ≡ 0 → AllIn 0 (day_entries mark d) ws
unfolding day_entries
day_in mark d ws here midnight = minutes_in mark d ws here midnight 1440 0 (omega arith)

pub entries_by : (mark : ℕ) (ds : List Day) → AllUpTo mark (entries_up_to mark ds)
entries_by mark [] = tt
entries_by mark (d ∷ ds) = all_append mark (day_entries mark d) (entries_up_to mark ds) (day_low mark d) (entries_by mark ds)

pub entries_there : (mark date : ℕ) (ds : List Day) → AreDays date ds → AllIn 0 (entries_up_to mark ds) (sizes ds)
entries_there mark date [] are = tt
entries_there mark date (d ∷ ds) are = in_append 0 (sizes (d ∷ ds)) (day_entries mark d) (entries_up_to mark ds) (day_in mark d (sizes (d ∷ ds)) (inl refl) are.1.midnight)
    (still_in (sizes ds) (sizes (d ∷ ds)) (λ k i. inr i) 0 (entries_up_to mark ds) (entries_there mark d.date ds are.2))

-- THE STATE that a word of two bytes tells
slot_same : (k : ℕ) → k ≤ 1 → slot_number (slot_numbered k) ≡ k
slot_same zero le = refl
slot_same (suc n) le = omega (arith, le)

act_same : (k : ℕ) → k ≤ 3 → activity_number (activity_numbered k) ≡ k
act_same zero le = refl
act_same (suc zero) le = refl
act_same (suc (suc zero)) le = refl
act_same (suc (suc (suc n))) le = omega (arith, le)

bit_same : (k : ℕ) → k ≤ 1 → bit (k == 1) ≡ k
bit_same zero le = refl
bit_same (suc zero) le = refl
bit_same (suc (suc n)) le = absurd (omega (arith, le))

absent_bit : (k : ℕ) → k ≤ 1 → (k == 1) ≡ false → k ≡ 0
absent_bit zero le is = refl
absent_bit (suc zero) le is = absurd (cc)
absent_bit (suc (suc n)) le is = absurd (omega (arith, le))

state_is : (w : ℕ) → w < 65536 → word_absent w ≡ false → w / 2048 ≡ slot_number (word_slot w) * 16 + bit (word_crew w) * 8 + activity_number (word_act w)
state_is w lt present =
    let a : slot_number (slot_numbered (w / 32768)) ≡ w / 32768 = slot_same (w / 32768) (omega (arith, lt)) in
    let b : bit (w / 16384 % 2 == 1) ≡ w / 16384 % 2 = bit_same (w / 16384 % 2) (omega arith) in
    let c : activity_number (activity_numbered (w / 2048 % 4)) ≡ w / 2048 % 4 = act_same (w / 2048 % 4) (omega arith) in
    let d : w / 8192 % 2 ≡ 0 = absent_bit (w / 8192 % 2) (omega arith) present in
    omega (arith, a, b, c, d, lt)

-- where the last entry is not before the newest word, the newest day tells its state
last_tells : (mark date : ℕ) (ds : List Day) (p : Entry) → AreDays date ds → OnNewest (λ d. last_word d.words < 65536) ds → last_entry (entries_up_to mark ds) ≡ Some p → newest_word ds ≤ p.minute → Tells p ds
last_tells mark date [] p are small is le = small
last_tells mark date (d ∷ []) p are small is le = ⊎_elim
    (λ rest. absurd (none rest))
    (λ here. let h = day_has mark d p here in by h (entry_is mark d h.t p h.is)) (last_split (day_entries mark d) [] p is)
  where
    none : last_entry [] ≡ Some p → ⊥
    none is = cc

    by : (h : Has (entry_at mark d) 1440 p) → IsEntry mark d h.t p → TellsIn p d
    by h i = record {
      date = omega (arith, i.minute, h.low, are.1.midnight);
      state = state_is (last_word d.words) small (ap word_absent word ∙ i.present) ∙ ap entry_state (sym (i.is ∙ ap (λ (w : ℕ). record { minute = d.date / 60 + h.t; slot = word_slot w; crew = word_crew w; act = word_act w }) (sym word)));
    }
      where
        some_same : (a b : ℕ) → Some a ≡ Some b → a ≡ b
        some_same a b is = cc

        word : last_word d.words ≡ i.word
        word = some_same (last_word d.words) i.word (sym (latest_last h.t d.words are.1.ordered (omega (arith, le, i.minute))) ∙ i.latest)
last_tells mark date (d ∷ e ∷ ds) p are small is le = ⊎_elim
    (λ rest. last_tells mark d.date (e ∷ ds) p are.2 small rest le)
    (λ here. let h = day_has mark d p here in let i = entry_is mark d h.t p h.is in
    absurd (omega (arith, i.minute, h.low, le, word_late d.date e ds are.2, are.2.0, are.1.midnight, are.2.1.midnight))) (last_split (day_entries mark d) (entries_up_to mark (e ∷ ds)) p is)

-- A CARD AT THE START. These are its days; where its session is open, as trimmed to the mark.
abbrev pub start_of : (mark : ℕ) → List Day → Counted
start_of mark ds = record { days = sizes ds; before = last_entry (entries_up_to mark ds) }

abbrev pub start_bound : (bytes mark : ℕ) → List Day → Bound
start_bound bytes mark ds = record { bytes = bytes; all = entries_up_to mark ds }

below : (a b n : ℕ) → a < n → b < n → max a b < n
below a b n x y = let z : max a b ≤ n - 1 = max-le (omega (arith, x)) (omega (arith, y)) in omega (arith, z, x)

minute_or : Option Entry → ℕ
minute_or None = 0
minute_or (Some p) = p.minute

pub starts : (size bytes from mark : ℕ) (ds : List Day) → AreDays 0 ds → EndsBy mark ds → ((d : Day) (es : List Day) → ds ≡ d ∷ es → OnNewest (λ d. last_word d.words < 65536) ds) → mark < from → newest_word ds < from
    → Rests size (start_bound bytes mark ds) (newest_word ds) from mark (start_of mark ds) ds
unfolding minute_or
starts size bytes from mark ds are ends small later next = record {
  ordered = are;
  rising = rising_sizes 0 ds are;
  filled = filled_sizes 0 ds are;
  top = max (newest_word ds) (minute_or (last_entry (entries_up_to mark ds)));
  words = le-max_left (newest_word ds) (minute_or (last_entry (entries_up_to mark ds)));
  entry = λ p is. (omega (arith, ap minute_or is, le-max_right (newest_word ds) (minute_or (last_entry (entries_up_to mark ds)))), entries_low mark ds p is);
  low = before_later (suc (newest_word ds / 1440)) (suc (max (newest_word ds) (minute_or (last_entry (entries_up_to mark ds))) / 1440)) (sizes ds) (omega (arith, le-max_left (newest_word ds) (minute_or (last_entry (entries_up_to mark ds))))) (sizes_low 0 ds are);
  next = top_low (last_entry (entries_up_to mark ds)) refl;
  later = later;
  by_mark = entries_by mark ds;
  tells = λ p is at. tells ds refl p is (omega (arith, at, le-max_left (newest_word ds) (minute_or (last_entry (entries_up_to mark ds)))));
  shows = λ n le. shown n;
}
  where
    top_low : (o : Option Entry) → last_entry (entries_up_to mark ds) ≡ o → max (newest_word ds) (minute_or o) < from
    top_low None is = below (newest_word ds) 0 from next (omega (arith, later))
    top_low (Some p) is = below (newest_word ds) p.minute from next (omega (arith, later, entries_low mark ds p is))

    tells : (es : List Day) → ds ≡ es → (p : Entry) → last_entry (entries_up_to mark ds) ≡ Some p → newest_word ds ≤ p.minute → Tells p ds
    tells [] is p last le = absurd (none (sym (ap (λ (l : List Day). last_entry (entries_up_to mark l)) is) ∙ last))
      where
        none : last_entry [] ≡ Some p → ⊥
        none x = cc
    tells (d ∷ es) is p last le = last_tells mark 0 ds p are (small d es is) last le

    there : AllIn 0 (entries_up_to mark ds) (sizes ds)
    there = entries_there mark 0 ds are

    same : Shows size (start_bound bytes mark ds) (sizes ds) (sizes ds)
    same = shows_same size (start_bound bytes mark ds) (sizes ds) there

    both : Shows size (start_bound bytes mark ds) (more (sizes ds)) (more (sizes ds))
    both = shows_same size (start_bound bytes mark ds) (more (sizes ds)) (still_in (sizes ds) (more (sizes ds)) (λ k i. in_more k (sizes ds) i) 0 (entries_up_to mark ds) there)

    shown : (n : ℕ) → Shows size (start_bound bytes mark ds) (closes (newest_word ds) (last_entry (entries_up_to mark ds)) n (sizes ds)) (owing n mark ds)
    shown n = by (is_open mark ds) refl
      where
        by : (o : Bool) → is_open mark ds ≡ o → Shows size (start_bound bytes mark ds) (closes (newest_word ds) (last_entry (entries_up_to mark ds)) n (sizes ds)) (cond (o && nat_lt (suc mark) n) (more (sizes ds)) (sizes ds))
        by false is = closes_is (λ l. Shows size (start_bound bytes mark ds) l (sizes ds)) (newest_word ds) (last_entry (entries_up_to mark ds)) n (sizes ds) same (shows_more size (start_bound bytes mark ds) (sizes ds) (sizes ds) same)
        by true is =
            let a = at_mark mark 0 ds are ends is in
            subst (λ (o : Option Entry). Shows size (start_bound bytes mark ds) (closes (newest_word ds) o n (sizes ds)) (cond (nat_lt (suc mark) n) (more (sizes ds)) (sizes ds))) (sym a.last)
            (subst (λ (b : Bool). Shows size (start_bound bytes mark ds) (cond b (more (sizes ds)) (sizes ds)) (cond (nat_lt (suc mark) n) (more (sizes ds)) (sizes ds))) (sym (closed a.p a.minute a.room a.word)) (each (nat_lt (suc mark) n)))
          where
            closed : (p : Entry) → p.minute ≡ mark → 0 < suc mark % 1440 → newest_word ds ≤ mark → is_closed (newest_word ds) p n ≡ nat_lt (suc mark) n
            closed p at room word = three (nat_eq (suc p.minute % 1440) 0) (nat_lt (newest_word ds) (suc p.minute)) (nat_lt (suc p.minute) n) (no (suc p.minute % 1440) (subst (λ (k : ℕ). 0 < suc k % 1440) (sym at) room)) (lt-ltb (newest_word ds) (suc p.minute) (omega (arith, at, word))) ∙ ap (λ (k : ℕ). nat_lt (suc k) n) at
              where
                no : (k : ℕ) → 0 < k → nat_eq k 0 ≡ false
                no k lt = grind (arith, nat_tests)

                three : (a b c : Bool) → a ≡ false → b ≡ true → not a && (b && c) ≡ c
                three false true c x y = refl
                three true b c x y = absurd (cc)
                three false false c x y = absurd (cc)

            each : (b : Bool) → Shows size (start_bound bytes mark ds) (cond b (more (sizes ds)) (sizes ds)) (cond b (more (sizes ds)) (sizes ds))
            each true = both
            each false = same
