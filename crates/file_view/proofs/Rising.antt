-- The entries of days rise by their minutes.
use Rattle.std.proofs.Common.{◌≡◌, Bool, ℕ, zero, suc, ◌+◌, ◌/◌, ◌%◌, ◌<◌, ◌≤◌, true, false, Option, Some, None, List, [], ◌∷◌, ◌++◌, take, drop, refl, ap, arith}
use Rattle.std.specs.Prelude.{nat_le, if◌then◌else◌}
use Rattle.std.specs.List.{AllByRecursion}
use Rattle.activity_codec.proofs.ByTest.{by_test}
use Rattle.activity_codec.specs.declared.entries.Entry.{Entry}
use Rattle.activity_codec.specs.Words.{word_absent, word_slot, word_crew, word_act}
use Rattle.card_model.specs.Days.{Day, AreDays}
use Rattle.card_retention.specs.Entries.{latest, told_by, entry_at, minutes_from, day_entries, entries_up_to}
use Rattle.card_retention.specs.Retains.{Rise}

-- entries from a minute on, each later than the one before it
abbrev RiseFrom : ℕ → List Entry → Type 0
RiseFrom low [] = Unit {0}
RiseFrom low (e ∷ es) = (low ≤ e.minute) × RiseFrom (suc e.minute) es

abbrev AreBelow : ℕ → List Entry → Type 0
AreBelow high es = AllByRecursion (λ (e : Entry). e.minute < high) es

from_lower : (low lower : ℕ) (es : List Entry) → lower ≤ low → RiseFrom low es → RiseFrom lower es
from_lower low lower [] le rise = tt
from_lower low lower (e ∷ es) le rise = (omega (arith, le, rise.0), rise.1)

joined_rise : (low mid : ℕ) (es fs : List Entry) → low ≤ mid → RiseFrom low es → AreBelow mid es → RiseFrom mid fs → RiseFrom low (es ++ fs)
joined_rise low mid [] fs le rise below more = from_lower mid low fs le more
joined_rise low mid (e ∷ es) fs le rise below more = (rise.0, joined_rise (suc e.minute) mid es fs (omega (arith, below.0)) rise.1 below.1 more)

rises : (low : ℕ) (es : List Entry) → RiseFrom low es → Rise es
rises low [] rise = tt
rises low (e ∷ []) rise = tt
rises low (e ∷ f ∷ es) rise = (omega (arith, rise.1.0), rises (suc e.minute) (f ∷ es) rise.1)

-- an entry that a word tells of a minute is of that minute
told_minute : (m : ℕ) (o : Option ℕ) (e : Entry) → told_by m o ≡ Some e → e.minute ≡ m
told_minute m None e is = cc
told_minute m (Some w) e is = by (word_absent w) is
  where
    one : (d : Entry) → Some d ≡ Some e → e ≡ d
    one d eq = cc

    by : (absent : Bool) → (if absent then None else Some (record { minute = m; slot = word_slot w; crew = word_crew w; act = word_act w })) ≡ Some e → e.minute ≡ m
    by true is = cc
    by false is = ap (λ (x : Entry). x.minute) (one (record { minute = m; slot = word_slot w; crew = word_crew w; act = word_act w }) is)

entry_minute : (mark : ℕ) (d : Day) (t : ℕ) (e : Entry) → entry_at mark d t ≡ Some e → e.minute ≡ d.date / 60 + t
entry_minute mark d t e is =
    by_test (nat_le (d.date / 60 + t) mark)
    (λ yes. told_minute (d.date / 60 + t) (latest d.words t) e (rw yes at is))
    (λ no. let none : entry_at mark d t ≡ None = rw no refl in cc)

-- the entries of minutes in a row
module _ (base : ℕ) (f : ℕ → Option Entry) (at : (t : ℕ) (e : Entry) → f t ≡ Some e → e.minute ≡ base + t) where
  minutes_rise : (n t : ℕ) → RiseFrom (base + t) (minutes_from f n t)
  minutes_rise zero t = tt
  minutes_rise (suc n) t = by (f t) (at t) (minutes_rise n (t + 1))
    where
      by : (o : Option Entry) → ((e : Entry) → o ≡ Some e → e.minute ≡ base + t) → RiseFrom (base + (t + 1)) (minutes_from f n (t + 1)) → RiseFrom (base + t) (elim o as (λ _. List Entry) [ Some e ↦ e ∷ minutes_from f n (t + 1) | None ↦ minutes_from f n (t + 1) ])
      by None is rest = from_lower (base + (t + 1)) (base + t) (minutes_from f n (t + 1)) (omega arith) rest
      by (Some e) is rest = let here : e.minute ≡ base + t = is e refl in (omega (arith, here), from_lower (base + (t + 1)) (suc e.minute) (minutes_from f n (t + 1)) (omega (arith, here)) rest)

  minutes_below : (n t high : ℕ) → base + t + n ≤ high → AreBelow high (minutes_from f n t)
  minutes_below zero t high le = tt
  minutes_below (suc n) t high le = by (f t) (at t) (minutes_below n (t + 1) high (omega (arith, le)))
    where
      by : (o : Option Entry) → ((e : Entry) → o ≡ Some e → e.minute ≡ base + t) → AreBelow high (minutes_from f n (t + 1)) → AreBelow high (elim o as (λ _. List Entry) [ Some e ↦ e ∷ minutes_from f n (t + 1) | None ↦ minutes_from f n (t + 1) ])
      by None is rest = rest
      by (Some e) is rest = let here : e.minute ≡ base + t = is e refl in (omega (arith, here, le), rest)

day_rises : (mark : ℕ) (d : Day) → RiseFrom (d.date / 60) (day_entries mark d) × AreBelow (d.date / 60 + 1440) (day_entries mark d)
unfolding day_entries
day_rises mark d = (
  from_lower (d.date / 60 + 0) (d.date / 60) (minutes_from (entry_at mark d) 1440 0) (omega arith) (minutes_rise (d.date / 60) (entry_at mark d) (entry_minute mark d) 1440 0),
  minutes_below (d.date / 60) (entry_at mark d) (entry_minute mark d) 1440 0 (d.date / 60 + 1440) (omega arith),
)

-- a later midnight is a day later, or more
a_day_later : (date next : ℕ) → date % 86400 ≡ 0 → next % 86400 ≡ 0 → date < next → date / 60 + 1440 ≤ next / 60
a_day_later date next here there later = omega arith

days_rise : (mark low date : ℕ) (ds : List Day) → date % 86400 ≡ 0 → low ≤ date / 60 + 1440 → AreDays date ds → RiseFrom low (entries_up_to mark ds)
days_rise mark low date [] midnight le are = tt
days_rise mark low date (d ∷ ds) midnight le are =
    let day = day_rises mark d in
    let next = are.1.midnight in
    let later = a_day_later date d.date midnight next are.0 in
    joined_rise low (d.date / 60 + 1440) (day_entries mark d) (entries_up_to mark ds) (omega (arith, later, le))
    (from_lower (d.date / 60) low (day_entries mark d) (omega (arith, later, le)) day.0) day.1
    (days_rise mark (d.date / 60 + 1440) d.date ds next (omega arith) are.2)

-- some of the days
days_lower : (date lower : ℕ) (ds : List Day) → lower ≤ date → AreDays date ds → AreDays lower ds
days_lower date lower [] le are = tt
days_lower date lower (d ∷ ds) le are = (omega (arith, le, are.0), are.1, are.2)

days_dropped : (j date : ℕ) (ds : List Day) → AreDays date ds → AreDays date (drop j ds)
days_dropped zero date ds are = are
days_dropped (suc j) date [] are = tt
days_dropped (suc j) date (d ∷ ds) are = days_lower d.date date (drop j ds) (omega (arith, are.0)) (days_dropped j d.date ds are.2)

days_taken : (k date : ℕ) (ds : List Day) → AreDays date ds → AreDays date (take k ds)
days_taken zero date ds are = tt
days_taken (suc k) date [] are = tt
days_taken (suc k) date (d ∷ ds) are = (are.0, are.1, days_taken k d.date ds are.2)

-- so do those of the days that are shown
pub shown_rise : (mark k j : ℕ) (ds : List Day) → AreDays 0 ds → Rise (entries_up_to mark (take k (drop j ds)))
shown_rise mark k j ds are = rises 0 (entries_up_to mark (take k (drop j ds))) (days_rise mark 0 0 (take k (drop j ds)) refl (omega arith) (days_taken k 0 (drop j ds) (days_dropped j 0 ds are)))
