-- The words that a session writes go on with the words of a day, or begin one.
use Rattle.std.proofs.Common.{◌≡◌, ◌≢◌, ℕ, suc, ◌+◌, ◌/◌, ◌%◌, ◌<◌, ◌≤◌, Bool, true, false, cond, not, Option, Some, None, List, [], ◌∷◌, ◌++◌, refl, sym, ◌∙◌, ap, arith}
use Rattle.std.specs.Prelude.{nat_eq, nat_lt, ◌&&◌}
use Rattle.std.proofs.lemmas.Bool.Decides.{nat_tests}
use Rattle.std.proofs.lemmas.Bool.{eqb-true, eqb-false, and_parts, not-true}
use Rattle.activity_codec.specs.declared.values.Activity.{Activity}
use Rattle.activity_codec.specs.declared.values.Activity.TheVariants.{Rest, Available, Work, Driving}
use Rattle.activity_codec.specs.declared.entries.Entry.{Entry}
use Rattle.activity_codec.specs.Words.{activity_number, word_minute, word_absent}
use Rattle.card_days.specs.card_model.Days.{Day, AreDays, last_word}
use Rattle.card_days.specs.card_model.Changes.{AreStrict, Increase, OnNewest, TakesWord, IsLater, IsNext, date_of, with_newest, with_km}
use Rattle.card_days.proofs.card_model.Ascending.{words_below}
use Rattle.card_validity.specs.card_retention.Expected.{is_newest}
use Rattle.card_validity.specs.card_retention.Shown.{sizes, is_open, entry_state}
use Rattle.card_validity.specs.card_retention.Entries.{EndsBy, newest_word}
use Rattle.card_days.specs.Held.{tail_by}
use Rattle.card_session.specs.Books.{closing_word, entry_word, bare_word, day_words, latest_of, tells_state, km_after, travelled}
use Rattle.card_session.specs.Telling.{closing_at, gap_word, is_newest_day, entry_change, km_told}
use Rattle.card_session.specs.Sessions.{EndsStrictly}

-- ---- a word more

increase_more : (m : ℕ) (ws : List ℕ) (v w : ℕ) → Increase m (v ∷ ws) → word_minute (last_word (v ∷ ws)) < word_minute w → word_minute w < 1440 → Increase m ((v ∷ ws) ++ w ∷ [])
increase_more m [] v w inc late lt = (inc.0, inc.1, (late, lt, tt))
increase_more m (u ∷ ws) v w inc late lt = (inc.0, inc.1, increase_more (word_minute v) ws u w inc.2 late lt)

pub strict_more : (ws : List ℕ) (w : ℕ) → AreStrict ws → word_minute (last_word ws) < word_minute w → word_minute w < 1440 → AreStrict (ws ++ w ∷ [])
strict_more [] w strict late lt = absurd strict
strict_more (v ∷ []) w strict late lt = (strict.0, (omega (arith, strict.0, late), lt, tt))
strict_more (v ∷ u ∷ ws) w strict late lt = (strict.0, increase_more 0 ws u w strict.1 late lt)

-- ---- the minutes of the words

pub closing_minute : (m : ℕ) (act : Activity) (latest : ℕ) → word_minute (closing_word m act latest) ≡ m % 1440
closing_minute m act latest = omega arith

pub entry_minute : (e : Entry) → word_minute (entry_word e) ≡ e.minute % 1440
entry_minute e = omega arith

bare_minute : word_minute bare_word ≡ 0
bare_minute = refl

-- the closing word goes on with the newest day
pub takes_closing : (mark : ℕ) (act : Activity) (days : List Day) → EndsBy mark days → EndsStrictly days → is_open mark days ≡ true → OnNewest (TakesWord (closing_word (suc mark) act (latest_of days))) days
takes_closing mark act [] ends strict is = absurd cc
takes_closing mark act (d ∷ []) ends strict is =
    let both = and_parts (nat_eq d.date (date_of (suc mark))) (not (word_absent (last_word d.words))) is in
    let date : d.date ≡ date_of (suc mark) = eqb-true d.date (date_of (suc mark)) both.0 in
    let low : d.date / 60 + word_minute (last_word d.words) ≤ mark = ends (not-true (word_absent (last_word d.words)) both.1) in
    let minute = closing_minute (suc mark) act (last_word d.words) in
    strict_more d.words (closing_word (suc mark) act (last_word d.words)) strict (omega (arith, date, low, minute)) (omega (arith, minute))
takes_closing mark act (d ∷ e ∷ ds) ends strict is = takes_closing mark act (e ∷ ds) ends strict is

-- an entry's word goes on with the newest day
pub takes_entry : (date : ℕ) (e : Entry) (days : List Day) → AreDays date days → EndsStrictly days → is_newest (e.minute / 1440) (sizes days) ≡ true → newest_word days < e.minute → OnNewest (TakesWord (entry_word e)) days
takes_entry date e [] are strict is late = absurd cc
takes_entry date e (d ∷ []) are strict is late =
    let day : d.date / 86400 ≡ e.minute / 1440 = eqb-true _ _ is in
    let minute = entry_minute e in
    strict_more d.words (entry_word e) strict (omega (arith, day, late, minute, are.1.midnight)) (omega (arith, minute))
takes_entry date e (d ∷ f ∷ ds) are strict is late = takes_entry d.date e (f ∷ ds) are.2 strict is late

-- or begins a day
later_day : (date : ℕ) (e : Entry) (d : Day) (ds : List Day) → AreDays date (d ∷ ds) → is_newest (e.minute / 1440) (sizes (d ∷ ds)) ≡ false → newest_word (d ∷ ds) < e.minute → IsLater (date_of e.minute) (d ∷ ds)
later_day date e d [] are is late =
    let day : d.date / 86400 ≢ e.minute / 1440 = eqb-false _ _ is in
    omega (arith, day, late, are.1.midnight)
later_day date e d (f ∷ ds) are is late = later_day d.date e f ds are.2 is late

pub words_strict : (e : Entry) → AreStrict (day_words e)
words_strict e = by (nat_eq (e.minute % 1440) 0) refl
  where
    by : (b : Bool) → nat_eq (e.minute % 1440) 0 ≡ b → AreStrict (cond b (entry_word e ∷ []) (bare_word ∷ entry_word e ∷ []))
    by true is = (entry_minute e ∙ eqb-true (e.minute % 1440) 0 is, tt)
    by false is =
        let some : e.minute % 1440 ≢ 0 = eqb-false (e.minute % 1440) 0 is in
        (bare_minute, (omega (arith, entry_minute e, some), omega (arith, entry_minute e), tt))

-- the words of a day by whether its first entry stands at midnight
pub words_alone : (e : Entry) (w : ℕ) → w ≡ entry_word e → e.minute % 1440 ≡ 0 → w ∷ [] ≡ day_words e
words_alone e w is zero = ap (λ (n : ℕ). n ∷ []) is ∙ by (nat_eq (e.minute % 1440) 0) refl
  where
    by : (b : Bool) → nat_eq (e.minute % 1440) 0 ≡ b → entry_word e ∷ [] ≡ cond b (entry_word e ∷ []) (bare_word ∷ entry_word e ∷ [])
    by true at = refl
    by false at = absurd (eqb-false (e.minute % 1440) 0 at zero)

pub words_behind : (e : Entry) (v w : ℕ) → v ≡ bare_word → w ≡ entry_word e → e.minute % 1440 ≢ 0 → v ∷ w ∷ [] ≡ day_words e
words_behind e v w first is some = ap (λ (n : ℕ). n ∷ w ∷ []) first ∙ ap (λ (n : ℕ). bare_word ∷ n ∷ []) is ∙ by (nat_eq (e.minute % 1440) 0) refl
  where
    by : (b : Bool) → nat_eq (e.minute % 1440) 0 ≡ b → bare_word ∷ entry_word e ∷ [] ≡ cond b (entry_word e ∷ []) (bare_word ∷ entry_word e ∷ [])
    by true at = absurd (some (eqb-true (e.minute % 1440) 0 at))
    by false at = refl

pub begins_day : (e : Entry) (days : List Day) → 1440 ≤ e.minute → AreDays 0 days → is_newest (e.minute / 1440) (sizes days) ≡ false → newest_word days < e.minute → IsNext days (date_of e.minute) (day_words e)
begins_day e [] some are is late = record { later = omega (arith, some); midnight = omega arith; ordered = words_strict e }
begins_day e (d ∷ ds) some are is late = record { later = later_day 0 e d ds are is late; midnight = omega arith; ordered = words_strict e }

-- slot, crew and activity of an entry's word
pub entry_top : (e : Entry) → entry_word e / 2048 ≡ entry_state e
entry_top e = omega (arith, act_few e.act)
  where
    act_few : (a : Activity) → activity_number a < 4
    act_few Rest = omega arith
    act_few Available = omega arith
    act_few Work = omega arith
    act_few Driving = omega arith

-- ---- what the tail tells

-- the closing word, of a string whose days are known
pub closing_told : (date mark : ℕ) (act : Activity) (place used : ℕ) (days : List Day) → AreDays date days
    → closing_at mark act (tail_by place used days) ≡ cond (is_open mark days) (Some (closing_word (suc mark) act (latest_of days))) None
closing_told date mark act place used [] are = refl
closing_told date mark act place used (d ∷ []) are =
    let below : nat_lt (word_minute (last_word d.words)) 1440 ≡ true = is_below (words_below d.words are.1.ordered) in
    ap (λ (t : Bool). cond (t && (nat_eq d.date (date_of (suc mark)) && not (word_absent (last_word d.words)))) (Some (closing_word (suc mark) act (last_word d.words))) None) below
  where
    is_below : {m : ℕ} → m < 1440 → nat_lt m 1440 ≡ true
    is_below {m = m} lt = grind (arith, nat_tests)
closing_told date mark act place used (d ∷ e ∷ ds) are = closing_told d.date mark act place used (e ∷ ds) are.2

-- the closing word before an entry
pub gap_told : (mark next place used : ℕ) (days : List Day) → AreDays 0 days → mark < next
    → gap_word mark next (tail_by place used days) ≡ cond (is_open mark days && nat_lt (suc mark) next) (Some (closing_word (suc mark) Rest (latest_of days))) None
gap_told mark next place used days are later =
    ap (λ (o : Option ℕ). cond (nat_eq next (suc mark)) None o) (closing_told 0 mark Rest place used days are)
    ∙ by (nat_eq next (suc mark)) (is_open mark days)
    ∙ ap (λ (g : Bool). cond (is_open mark days && g) (Some (closing_word (suc mark) Rest (latest_of days))) None) (sym not_next)
  where
    not_next : nat_lt (suc mark) next ≡ not (nat_eq next (suc mark))
    not_next = grind (arith, nat_tests, later)

    by : (e o : Bool) → cond e None (cond o (Some (closing_word (suc mark) Rest (latest_of days))) None) ≡ cond (o && not e) (Some (closing_word (suc mark) Rest (latest_of days))) None
    by true true = refl
    by true false = refl
    by false true = refl
    by false false = refl

-- whether a minute lies in the newest day
pub day_told : (date minute place used : ℕ) (days : List Day) → AreDays date days → is_newest_day minute (tail_by place used days) ≡ is_newest (minute / 1440) (sizes days)
day_told date minute place used [] are = refl
day_told date minute place used (d ∷ []) are =
    let midnight = are.1.midnight in
    same (nat_eq d.date (date_of minute)) (nat_eq (d.date / 86400) (minute / 1440)) refl refl midnight
  where
    same : (a b : Bool) → nat_eq d.date (date_of minute) ≡ a → nat_eq (d.date / 86400) (minute / 1440) ≡ b → d.date % 86400 ≡ 0 → nat_eq d.date (date_of minute) ≡ nat_eq (d.date / 86400) (minute / 1440)
    same true true a b whole = a ∙ sym b
    same false false a b whole = a ∙ sym b
    same true false a b whole = absurd (eqb-false _ _ b (let is = eqb-true d.date (date_of minute) a in omega (arith, is)))
    same false true a b whole = absurd (eqb-false _ _ a (let is = eqb-true (d.date / 86400) (minute / 1440) b in omega (arith, is, whole)))
day_told date minute place used (d ∷ e ∷ ds) are = day_told d.date minute place used (e ∷ ds) are.2

-- the word of an entry, of a string that has a day
pub change_told : (e : Entry) (place used k : ℕ) (days : List Day) → is_newest k (sizes days) ≡ true → entry_change e (tail_by place used days) ≡ cond (tells_state e days) None (Some (entry_word e))
change_told e place used k [] is = absurd (cc)
change_told e place used k (d ∷ []) is =
    let state : entry_word e / 2048 ≡ entry_state e = entry_top e in
    ap (λ (n : ℕ). cond (nat_eq (last_word d.words / 2048) n) None (Some (entry_word e))) state
change_told e place used k (d ∷ f ∷ ds) is = change_told e place used k (f ∷ ds) is

-- the distance
pub km_is : (more place used : ℕ) (days : List Day) → with_newest (with_km (km_after more (km_told (tail_by place used days)))) days ≡ travelled more days
km_is more place used [] = refl
km_is more place used (d ∷ []) = refl
km_is more place used (d ∷ e ∷ ds) = ap (λ (l : List Day). d ∷ l) (km_is more place used (e ∷ ds))
