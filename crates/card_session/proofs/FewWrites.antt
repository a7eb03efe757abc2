-- How few writes a call makes where the newest day is that of its minute and ends with a word that tells no card.
use Rattle.std.proofs.Common.{◌≡◌, ◌∙◌, ℕ, suc, ◌+◌, ◌<◌, ◌≤◌, Bool, true, false, cond, Option, Some, None, refl, sym, ap, subst, arith}
use Rattle.std.specs.Prelude.{◌==◌, ◌&&◌, not, nat_le, nat_eq, nat_lt}
use Rattle.std.proofs.lemmas.Bool.{eq-eqb, eqb-true}
use Rattle.std.proofs.lemmas.Bool.Decides.{nat_tests}
use Rattle.activity_codec.proofs.ByTest.{by_test}
use Rattle.activity_codec.specs.declared.values.Activity.TheVariants.{Rest}
use Rattle.activity_codec.specs.Words.{word_minute, word_absent}
use Rattle.card_days.specs.card_model.Changes.{date_of}
use Rattle.card_days.specs.declared.head.Tail.{Tail}
use Rattle.card_days.specs.Held.{Held, EndsWith, tail_of}
use Rattle.card_days.specs.Plans.{most_drops}
use Rattle.card_session.specs.Books.{closing_word}
use Rattle.card_session.specs.Telling.{closing_at, gap_word, is_newest_day}
use Rattle.card_session.specs.Sessions.{Session}
use Rattle.card_session.specs.ByHand.{EndsByHand}

pub none_some : {X : Type 0} {w : X} → None ≡ Some w → ⊥
none_some e = cc

-- one word makes one drop at most
pub one_drop : (size used : ℕ) → used ≤ size → most_drops size used 2 ≤ 1
one_drop size used most = subst (λ (b : Bool). cond (nat_le (used + 2) size) 0 (cond b 1 2) ≤ 1) (sym (fits (used + 2) (size + 14) (omega (arith, most)))) (by (nat_le (used + 2) size))
  where
    fits : (m n : ℕ) → m ≤ n → nat_le m n ≡ true
    fits m n le = grind (arith, nat_tests)

    by : (a : Bool) → cond a 0 1 ≤ 1
    by true = omega arith
    by false = omega arith

-- the tail is the newest day's
pub tail_some : (v : Held) → 0 < v.tail.used → tail_of v ≡ Some v.tail
tail_some v some = ap (λ (b : Bool). let o : Option Tail = cond b None (Some v.tail) in o) (above v.tail.used some)
  where
    above : (n : ℕ) → 0 < n → (n == 0) ≡ false
    above n lt = grind (arith, nat_tests)

-- of three tests the last one is not passed
not_third : (a b c : Bool) → c ≡ true → (a && (b && not c)) ≡ false
not_third true true c is = ap not is
not_third true false c is = refl
not_third false b c is = refl

-- no gap is closed behind a word that tells no card
pub no_closing : (mark : ℕ) (t : Tail) → word_absent t.latest ≡ true → closing_at mark Rest (Some t) ≡ None
no_closing mark t absent =
    ap (λ (b : Bool). cond b (Some (closing_word (suc mark) Rest t.latest)) None) (not_third (nat_lt (word_minute t.latest) 1440) (nat_eq t.head.date.0 (date_of (suc mark))) (word_absent t.latest) absent)

pub no_gap : (s : Session) (minute mark : ℕ) (tail : Option Tail) → EndsByHand s minute → tail ≡ tail_of s.days → gap_word mark minute tail ≡ None
no_gap s minute mark tail ends is =
    let told : tail ≡ Some s.days.tail = is ∙ tail_some s.days ends.some in
    ap (gap_word mark minute) told
    ∙ by_test (nat_eq minute (suc mark))
    (λ yes. ap (λ (b : Bool). cond b None (closing_at mark Rest (Some s.days.tail))) yes)
    (λ no. ap (λ (b : Bool). cond b None (closing_at mark Rest (Some s.days.tail))) no ∙ no_closing mark s.days.tail ends.absent)

-- the minute lies in the newest day
pub in_day : (s : Session) (minute : ℕ) (tail : Option Tail) → EndsByHand s minute → tail ≡ tail_of s.days → is_newest_day minute tail ≡ true
in_day s minute tail ends is =
    ap (is_newest_day minute) (is ∙ tail_some s.days ends.some) ∙ eq-eqb s.days.tail.head.date.0 (date_of minute) ends.day

-- and a minute in the newest day has its date
pub day_is : (s : Session) (minute : ℕ) (tail : Option Tail) → tail ≡ tail_of s.days → is_newest_day minute tail ≡ true → s.days.tail.head.date.0 ≡ date_of minute
day_is s minute tail is in_it =
    by_test (s.days.tail.used == 0)
    (λ none. absurd (differ (sym (ap (is_newest_day minute) (is ∙ empty none)) ∙ in_it)))
    (λ some. eqb-true s.days.tail.head.date.0 (date_of minute) (sym (ap (is_newest_day minute) (is ∙ there some)) ∙ in_it))
  where
    differ : false ≡ true → ⊥
    differ e = cc

    empty : (s.days.tail.used == 0) ≡ true → tail_of s.days ≡ None
    empty none = ap (λ (b : Bool). let o : Option Tail = cond b None (Some s.days.tail) in o) none

    there : (s.days.tail.used == 0) ≡ false → tail_of s.days ≡ Some s.days.tail
    there some = ap (λ (b : Bool). let o : Option Tail = cond b None (Some s.days.tail) in o) some

-- not in the newest day, against what is known of it
pub elsewhere : (s : Session) (minute : ℕ) (tail : Option Tail) → EndsByHand s minute → tail ≡ tail_of s.days → is_newest_day minute tail ≡ false → ⊥
elsewhere s minute tail ends is other = differ (sym (in_day s minute tail ends is) ∙ other)
  where
    differ : true ≡ false → ⊥
    differ e = cc

-- ---- what is said of the end of a string, said otherwise

pub ends_as : (v : Held) (date other word next : ℕ) → date ≡ other → word ≡ next → EndsWith v date word → EndsWith v other next
ends_as v date other word next day same e = record { some = e.some; date_is = e.date_is ∙ day; word_is = e.word_is ∙ same }

pub ends_by_hand : (s : Session) (minute date word : ℕ) → date ≡ date_of minute → word_absent word ≡ true → EndsWith s.days date word → EndsByHand s minute
ends_by_hand s minute date word day absent e = record { some = e.some; day = e.date_is ∙ day; absent = ap word_absent e.word_is ∙ absent }

pub ends_days : (s t : Session) (minute : ℕ) → t.days ≡ s.days → EndsByHand s minute → EndsByHand t minute
ends_days s t minute same e = record {
  some = subst (λ (v : Held). 0 < v.tail.used) (sym same) e.some;
  day = ap (λ (v : Held). v.tail.head.date.0) same ∙ e.day;
  absent = ap (λ (v : Held). word_absent v.tail.latest) same ∙ e.absent;
}
