-- What a repair and a closing word make of a book: a word may follow, and the lacked entries.
use Rattle.std.proofs.Common.{◌≡◌, ℕ, suc, ◌+◌, ◌-◌, ◌*◌, ◌/◌, ◌%◌, ◌<◌, ◌≤◌, Bool, true, false, cond, List, [], ◌∷◌, ◌++◌, length, refl, sym, ◌∙◌, ap, subst, arith}
use Rattle.std.specs.Prelude.{nat_eq, nat_lt, All}
use Rattle.std.specs.List.{AllByRecursion}
use Rattle.std.proofs.lemmas.Bool.Decides.{nat_tests}
use Rattle.std.proofs.lemmas.List.Elements.{recursion_from_All, All-from_recursion}
use Rattle.std.proofs.lemmas.Bool.{eqb-true, ltb-true}
use Rattle.activity_codec.specs.declared.values.Activity.{Activity}
use Rattle.activity_codec.specs.declared.entries.Entry.{Entry}
use Rattle.activity_codec.specs.Words.{word_minute, word_absent}
use Rattle.card_days.proofs.card_model.Ascending.{words_below}
use Rattle.card_days.specs.card_model.Days.{Day, AreDays, last_word}
use Rattle.card_days.specs.card_model.Changes.{OnNewest, TakesWord, date_of, trimmed, fitting, with_newest, with_word}
use Rattle.card_days.proofs.card_model.Retention.{remain_some, remain_fitting}
use Rattle.card_validity.specs.card_retention.Shown.{is_open}
use Rattle.card_validity.proofs.card_retention.Entering.{last_append}
use Rattle.card_days.proofs.card_model.Trims.{are_trimmed, trimmed_twice}
use Rattle.card_validity.specs.card_retention.Entries.{newest_word, EndsBy}
use Rattle.card_validity.proofs.card_retention.Flat.{UpTo, newest_flat}
use Rattle.card_validity.proofs.card_retention.Checked.{early_last}
use Rattle.card_validity.proofs.card_retention.ListTrims.{ends_flat}
use Rattle.card_session.specs.declared.words.TheConstants.{LATEST_MINUTE}
use Rattle.card_session.specs.Vehicles.{last_use_in}
use Rattle.card_session.specs.Books.{Book, mark_of, latest_of, closing_word, with_change, closed, last_used}
use Rattle.card_session.specs.Sessions.{EndsStrictly, IsOpenBook, newest_in}
use Rattle.card_session.proofs.Following.{takes_closing}
use Rattle.card_session.proofs.Preparing.{strict_with}
use Rattle.card_session.proofs.Stopping.{closing_absent}
use Rattle.card_session.specs.Inserting.{AreOwed, Follow, lacked, with_cut, IsBeforeAll}

-- where a trim cuts nothing the newest word is not behind the mark
low : (mark date : ℕ) (d : Day) (ds : List Day) → AreDays date (d ∷ ds) → OnNewest (UpTo mark) (d ∷ ds) → newest_word (d ∷ ds) ≤ mark
low mark date d [] are on = by (nat_eq d.date (date_of mark)) refl
  where
    apart : (m n : ℕ) → m ≤ n → nat_eq m n ≡ false → m < n
    apart m n le is = grind (arith, nat_tests)

    by : (b : Bool) → nat_eq d.date (date_of mark) ≡ b → d.date / 60 + word_minute (last_word d.words) ≤ mark
    by true here = let at : d.date ≡ date_of mark = eqb-true d.date (date_of mark) here in omega (arith, at, early_last (mark % 1440) d.words are.1.ordered (on.last at))
    by false here = omega (arith, apart d.date (date_of mark) on.day here, words_below d.words are.1.ordered, are.1.midnight)
low mark date d (e ∷ ds) are on = low mark d.date e ds are.2 on

flat_low : (mark : ℕ) (ds : List Day) → AreDays 0 ds → trimmed mark ds ≡ ds → newest_word ds ≤ mark
flat_low mark [] are is = omega arith
flat_low mark (d ∷ ds) are is = low mark 0 d ds are (newest_flat mark d ds is)

pub trimmed_low : (mark : ℕ) (ds : List Day) → AreDays 0 ds → newest_word (trimmed mark ds) ≤ mark
trimmed_low mark ds are = flat_low mark (trimmed mark ds) (are_trimmed mark 0 ds are) (trimmed_twice mark ds)

-- ---- the lacked entries

pub lacked_follow : (m mark : ℕ) (es : List Entry) → Follow m es → Follow mark (lacked mark es)
lacked_follow m mark [] follow = tt
lacked_follow m mark (e ∷ es) follow = by (nat_lt mark e.minute) refl (lacked_follow e.minute mark es follow.1)
  where
    by : (b : Bool) → nat_lt mark e.minute ≡ b → Follow mark (lacked mark es) → Follow mark (cond b (e ∷ es) (lacked mark es))
    by true late rest = (ltb-true mark e.minute late, follow.1)
    by false early rest = rest

-- each of them is one of the owed entries
pub lacked_each : (P : Entry → Type 0) (mark : ℕ) (es : List Entry) → All P es → All P (lacked mark es)
lacked_each P mark [] all = all
lacked_each P mark (e ∷ es) all = by (nat_lt mark e.minute) (lacked_each P mark es (All-from_recursion P es (recursion_from_All P (e ∷ es) all).1))
  where
    by : (b : Bool) → All P (lacked mark es) → All P (cond b (e ∷ es) (lacked mark es))
    by true rest = all
    by false rest = rest

-- what is said of each of some entries, said more weakly
pub each_as : (P Q : Entry → Type 0) (es : List Entry) → ((e : Entry) → P e → Q e) → All P es → All Q es
each_as P Q es weaker all = All-from_recursion Q es (by es (recursion_from_All P es all))
  where
    by : (es : List Entry) → AllByRecursion P es → AllByRecursion Q es
    by [] each = tt
    by (e ∷ es) each = (weaker e each.0, by es each.1)

-- owed entries, by what is handed over
pub follow_from : (m n : ℕ) (es : List Entry) → m ≤ n → Follow n es → AllByRecursion (λ e. m < e.minute) es
follow_from m n [] low follow = tt
follow_from m n (e ∷ es) low follow = (omega (arith, low, follow.0), follow_from m e.minute es (omega (arith, low, follow.0)) follow.1)

both_each : (P Q R : Entry → Type 0) (es : List Entry) → ((e : Entry) → P e → Q e → R e) → AllByRecursion P es → AllByRecursion Q es → AllByRecursion R es
both_each P Q R [] join p q = tt
both_each P Q R (e ∷ es) join p q = (join e p.0 q.0, both_each P Q R es join p.1 q.1)

pub owed_minutes : (now : ℕ) (es : List Entry) → now / 60 < LATEST_MINUTE → AreOwed now es → All (λ e. (1440 ≤ e.minute) × (e.minute < LATEST_MINUTE)) es
owed_minutes now es last owed = All-from_recursion (λ e. (1440 ≤ e.minute) × (e.minute < LATEST_MINUTE)) es
    (both_each (λ e. 1439 < e.minute) (λ e. e.minute < now / 60) (λ e. (1440 ≤ e.minute) × (e.minute < LATEST_MINUTE)) es (λ e low high. (omega (arith, low), omega (arith, high, last)))
    (follow_from 1439 1439 es (omega arith) owed.0) (recursion_from_All (λ e. e.minute < now / 60) es owed.1))

-- no more than these
pub lacked_few : (mark : ℕ) (es : List Entry) → length (lacked mark es) ≤ length es
lacked_few mark [] = omega arith
lacked_few mark (e ∷ es) = by (nat_lt mark e.minute) (lacked_few mark es)
  where
    by : (b : Bool) → length (lacked mark es) ≤ length es → length (cond b (e ∷ es) (lacked mark es)) ≤ length (e ∷ es)
    by true few = omega arith
    by false few = omega (arith, few)

pub lacked_minutes : (mark : ℕ) (es : List Entry) → All (λ e. (1440 ≤ e.minute) × (e.minute ≤ LATEST_MINUTE)) es → All (λ e. (1440 ≤ e.minute) × (e.minute ≤ LATEST_MINUTE)) (lacked mark es)
lacked_minutes mark es all = lacked_each (λ e. (1440 ≤ e.minute) × (e.minute ≤ LATEST_MINUTE)) mark es all

-- THE CUT: then they may follow
pub cut_ready : (m mark : ℕ) (es : List Entry) (b : Book) → AreDays 0 b.days → mark ≡ mark_of b → EndsStrictly (trimmed mark b.days) → Follow m es → IsBeforeAll (lacked mark es) (with_cut mark b)
cut_ready m mark es b are is strict follow =
    let at : newest_in (with_cut mark b) ≡ mark = omega (arith, is, trimmed_low mark b.days are) in (
      record { ends = subst (λ (n : ℕ). EndsBy n (trimmed mark b.days)) is (ends_flat mark (trimmed mark b.days) (are_trimmed mark 0 b.days are) (trimmed_twice mark b.days)); strict = strict },
      subst (λ (n : ℕ). Follow n (lacked mark es)) (sym at) (lacked_follow m mark es follow),
    )

-- ---- the closing word

ends_absent : (m w : ℕ) (ds : List Day) → word_absent w ≡ true → EndsBy m (with_newest (with_word w) ds)
ends_absent m w [] absent = tt
ends_absent m w (d ∷ []) absent = λ present. let same : word_absent (last_word (d.words ++ w ∷ [])) ≡ true = ap word_absent (last_append d.words w) ∙ absent in absurd (cc)
ends_absent m w (d ∷ e ∷ []) absent = λ present. let same : word_absent (last_word (e.words ++ w ∷ [])) ≡ true = ap word_absent (last_append e.words w) ∙ absent in absurd (cc)
ends_absent m w (d ∷ e ∷ f ∷ ds) absent = ends_absent m w (e ∷ f ∷ ds) absent

-- behind it a word may follow
pub closed_ready : (size : ℕ) → 5544 ≤ size → (act : Activity) (b : Book) → AreDays 0 b.days → IsOpenBook b → IsOpenBook (closed size act b)
closed_ready size long act b are ready = by (is_open (mark_of b) b.days) refl
  where
    word : ℕ
    word = closing_word (suc (mark_of b)) act (latest_of b.days)

    by : (o : Bool) → is_open (mark_of b) b.days ≡ o
        → IsOpenBook (cond o (let c : Book = record { days = cond o (with_change size word b.days) b.days; vehicles = last_used (60 * suc (mark_of b)) b.vehicles } in c) b)
    by true is =
        let takes : OnNewest (TakesWord word) (fitting (size - 2) b.days) = remain_some (TakesWord word) (size - 2) 0 b.days (fitting (size - 2) b.days) (omega (arith, long)) are (remain_fitting (size - 2) b.days) (takes_closing (mark_of b) act b.days ready.ends ready.strict is) in
        record { ends = ends_absent (last_use_in (last_used (60 * suc (mark_of b)) b.vehicles) / 60) word (fitting (size - 2) b.days) (closing_absent (suc (mark_of b)) act (latest_of b.days)); strict = strict_with word (fitting (size - 2) b.days) takes }
    by false is = ready
