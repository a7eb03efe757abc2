-- What is known of the cards, as their sessions, their sizes and their numbers change; and the minutes of acceptances.
use Rattle.std.proofs.Common.{◌≡◌, ℕ, zero, suc, ◌<◌, ◌≤◌, List, ◌∷◌, Bool, true, cond, Option, IfSome, is_some, [], Contains, refl, ap, subst, ◌∙◌, sym, arith, ⊎_elim}
use Rattle.std.specs.Prelude.{Result, nat_eq, nat_lt}
use Rattle.std.proofs.lemmas.Bool.Decides.{nat_tests}
use Rattle.std.proofs.lemmas.List.Elements.{Contains-push_cases, Contains-append_cases}
use Rattle.device_calls.specs.trace_model.declared.Card.{Card}
use Rattle.device_calls.specs.trace_model.declared.Card.TheVariants.{A, B}
use Rattle.device_calls.specs.tacho_types.CardNumber.{card_number_bytes}
use Rattle.device_calls.specs.tacho_types.declared.card_number.FullCardNumber.{FullCardNumber}
use Rattle.tach_media.specs.card_layout.declared.files.Application.{Application}
use Rattle.device_calls.specs.card_model.Days.{Day}
use Rattle.device_calls.specs.card_model.Changes.{trimmed}
use Rattle.device_calls.specs.card_retention.Entries.{newest_word}
use Rattle.device_calls.specs.card_image.Fields.{card_days, end_mark, session_time}
use Rattle.device_calls.specs.card_image.View.{card_view}
use Rattle.device_calls.specs.card_image.Own.{own_view, own_sizes, own_covered}
use Rattle.device_calls.specs.device_rule.Views.{beyond}
use Rattle.run_crew.specs.declared.cards.Accepted.{Accepted}
use Rattle.run_crew.specs.declared.cards.Cards.{Cards}
use Rattle.run_crew.specs.Cards.{known_of, session_of, with_session, with_sizes}
use Rattle.run_promise.specs.Found.{Found, found_of}
use Rattle.run_promise.specs.Between.{RunLedger}
use Rattle.run_devices.specs.Told.{AreFoundCards, AreEarly, for_card, with_acceptance}

-- ---- the sessions

pub session-sized : (c d : Card) (sizes : Result Application ℕ) (cards : Cards) → session_of (with_sizes c sizes cards) d ≡ session_of cards d
session-sized A A sizes cards = refl
session-sized A B sizes cards = refl
session-sized B A sizes cards = refl
session-sized B B sizes cards = refl

-- ---- the words at the start behind an end mark, of a card without a session, count

word-low : (n : ℕ) (days cut : List Day) → cond (nat_lt 0 n) 0 (newest_word days) ≤ newest_word (cond (nat_eq n 0) days cut)
word-low zero days cut = omega arith
word-low (suc n) days cut = subst (λ (b : Bool). cond b 0 (newest_word days) ≤ newest_word (cond (nat_eq (suc n) 0) days cut)) (sym (above n)) (omega arith)
  where
    above : (n : ℕ) → nat_lt 0 (suc n) ≡ true
    above n = grind (arith, nat_tests)

pub word-covered : (x : List ℕ) → beyond (own_view x) ≤ own_covered x
unfolding own_view card_view
word-covered x = word-low (session_time (own_sizes x) x) (card_days (own_sizes x) x) (trimmed (end_mark (own_sizes x) x) (card_days (own_sizes x) x))

-- ---- what was found of the cards is so still

-- where their numbers are the same
pub found-still : (f : Found) (cards after : Cards) → ((c : Card) → (known_of after c).number ≡ (known_of cards c).number) → AreFoundCards f cards → AreFoundCards f after
found-still f cards after same found = record {
  two = found.two;
  named = λ c valid. subst (λ (o : Option FullCardNumber). IfSome o (λ n. card_number_bytes n ≡ (found_of f c).number)) (sym (same c)) (found.named c valid);
  told = λ c valid. ap is_some (same c) ∙ found.told c valid;
  only = λ c has. found.only c (sym (ap is_some (same c)) ∙ has);
  own = found.own;
  sizes = found.sizes;
  entries = found.entries;
  word = found.word;
}

pub found-session : (f : Found) (c : Card) (s : Option Accepted) (cards : Cards) → AreFoundCards f cards → AreFoundCards f (with_session c s cards)
found-session f c s cards = found-still f cards (with_session c s cards) (same c)
  where
    same : (c d : Card) → (known_of (with_session c s cards) d).number ≡ (known_of cards d).number
    same A A = refl
    same A B = refl
    same B A = refl
    same B B = refl

pub found-sizes : (f : Found) (c : Card) (sizes : Result Application ℕ) (cards : Cards) → AreFoundCards f cards → AreFoundCards f (with_sizes c sizes cards)
found-sizes f c sizes cards = found-still f cards (with_sizes c sizes cards) (same c)
  where
    same : (c d : Card) → (known_of (with_sizes c sizes cards) d).number ≡ (known_of cards d).number
    same A A = refl
    same A B = refl
    same B A = refl
    same B B = refl

-- ---- the minutes of acceptances are earlier than what may come

pub early-accepted : (w : RunLedger) (c : Card) (now newest kept : ℕ) → kept < w.due → AreEarly w → AreEarly (with_acceptance c now newest kept w)
early-accepted w c now newest kept late early = by c
  where
    either : (d : Card) (k : ℕ) → Contains (kept ∷ w.brought d) k → k < w.due
    either d k in_ = ⊎_elim
        (λ first. ⊎_elim (λ none. absurd (omega (arith, none.1))) (λ is. subst (λ (n : ℕ). n < w.due) is late) (Contains-push_cases [] kept k first))
        (λ rest. early d k rest)
        (Contains-append_cases (kept ∷ []) (w.brought d) k in_)

    by : (c d : Card) (k : ℕ) → Contains (for_card c (kept ∷ w.brought c) w.brought d) k → k < w.due
    by A A k in_ = either A k in_
    by A B k in_ = early B k in_
    by B A k in_ = early A k in_
    by B B k in_ = either B k in_
