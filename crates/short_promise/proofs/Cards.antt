-- What the images of a card show, in short.
use Rattle.std.proofs.Common.{◌≡◌, ◌⊎◌, inl, inr, ⊎_elim, ℕ, ◌+◌, ◌/◌, ◌<◌, ◌≤◌, Bool, true, false, cond, List, [], ◌∷◌, ◌++◌, Contains, filter, length, nat_le, refl, subst, sym, arith}
use Rattle.std.proofs.lemmas.Bool.Decides.{nat_tests}
use Rattle.std.proofs.lemmas.List.Elements.{Contains-append_left, Contains-append_right, Contains-push_cases, Contains-append_cases}
use Rattle.safety_model.specs.device_rule.activity_codec.declared.entries.Entry.{Entry}
use Rattle.safety_model.specs.device_rule.trace_model.declared.Card.{Card}
use Rattle.safety_model.specs.device_rule.log_model.declared.lines.Mark.{Mark}
use Rattle.safety_model.specs.device_rule.log_model.Causes.{device_of, cards_torn}
use Rattle.safety_model.specs.device_rule.log_model.Slots.{same_card}
use Rattle.safety_model.specs.device_rule.history_model.Completeness.{IsComplete}
use Rattle.safety_model.specs.device_rule.Own.{own_view}
use Rattle.safety_model.specs.card_retention.Retains.{entries_from}
use Rattle.tach_media.specs.Medium.{State, last_count}
use Rattle.safety_model.specs.Recording.{Recording, brought, start_of, told_of}
use Rattle.safety_model.specs.Unit.{marks_of}
use Rattle.safety_model.specs.Cards.{CardShows, CardMarkHolds, CardSafe}
use Rattle.safety_model.specs.Safe.{Devices, card_of}
use Rattle.short_promise.specs.InShort.{ShowsFirst, IsGivenUp, StandsOn, CardKeeps}

either : (a b : ℕ) → (a ≤ b) ⊎ (b < a)
either a b = go (nat_le a b) refl
  where
    go : (t : Bool) → nat_le a b ≡ t → (a ≤ b) ⊎ (b < a)
    go true is = inl (grind (arith, nat_tests))
    go false is = inr (grind (arith, nat_tests))

passes : (a b : ℕ) → a ≤ b → nat_le a b ≡ true
passes a b le = grind (arith, nat_tests)

-- an entry from a day on is among those from it
pub from-has : (day : ℕ) (es : List Entry) (e : Entry) → day ≤ e.minute / 1440 → Contains es e → Contains (entries_from day es) e
from-has day [] e le at = absurd (omega (arith, at.1))
from-has day (d ∷ es) e le at = ⊎_elim
    (λ here. ⊎_elim
    (λ none. absurd (omega (arith, none.1)))
    (λ (is : d ≡ e). first is (nat_le day (d.minute / 1440)) refl)
    (Contains-push_cases [] d e here))
    (λ there. behind (nat_le day (d.minute / 1440)) (from-has day es e le there))
    (Contains-append_cases (d ∷ []) es e at)
  where
    behind : (b : Bool) → Contains (entries_from day es) e → Contains (cond b (d ∷ entries_from day es) (entries_from day es)) e
    behind true rest = Contains-append_right (d ∷ []) (entries_from day es) e rest
    behind false rest = rest

    first : d ≡ e → (b : Bool) → nat_le day (d.minute / 1440) ≡ b → Contains (cond b (d ∷ entries_from day es) (entries_from day es)) e
    first is true test = Contains-append_left (d ∷ []) (entries_from day es) e (0, omega arith, is)
    first is false test = absurd (let true_ : nat_le day (d.minute / 1440) ≡ true = passes day (d.minute / 1440) (subst (λ (f : Entry). day ≤ f.minute / 1440) (sym is) le) in cc)

module _ (r : Recording) (c : Card) where
  abbrev pub first-of : (x : List ℕ) → CardShows r c x → ShowsFirst r c x
  first-of x s =
      let kept = (s.kept.1.keeps s.kept.0 (omega arith)).0 in
      record { more = s.more; rest = s.rest; whole = s.whole; oldest = kept.oldest; says = kept.entries; full = s.kept }

  -- an entry that is to be there is, or its day was given up
  has-entry : (x : List ℕ) (f : ShowsFirst r c x) (e : Entry) → Contains ((brought r c).entries ++ f.more) e → Contains (own_view x).held.entries e ⊎ IsGivenUp r c x e
  has-entry x f e at = ⊎_elim
      (λ there. inl (subst (λ (es : List Entry). Contains es e) (sym f.says) (from-has f.oldest ((brought r c).entries ++ f.more) e there at)))
      (λ gone. inr (record { first = f; among = at; older = gone }))
      (either f.oldest (e.minute / 1440))

  stands-on : (since : ℕ) (card : State) (m : Mark) → CardMarkHolds r c card m → since ≤ m.clock → StandsOn r c since card m
  stands-on since card m h began = record {
    e = h.e;
    of = h.stands;
    minute = h.minute;
    began = began;
    clock = h.clock;
    prompt = h.prompt;
    says = λ x left. let s = h.shown x left in has-entry x (first-of x s.0) h.e s.1;
  }

  -- CARD
  pub card-keeps : (marks : List Mark) (began now : Devices) → CardSafe r c marks (card_of began c).clock (card_of now c) → IsComplete r.rule (start_of r) r.log (told_of r) marks →
      ((m : Mark) → Contains (marks_of (device_of c) marks) m → (card_of began c).clock ≤ m.clock) →
      (now.card_a.breakdowns < last_count → now.card_b.breakdowns < last_count → (card_of now c).breakdowns ≡ (card_of began c).breakdowns + length (filter (same_card c) (cards_torn (told_of r)))) →
      CardKeeps r c marks began now
  card-keeps marks began now safe complete since counted = record {
    valid = λ was x left. (safe.valid was x left, safe.number was x left);
    first = λ was x left. first-of x (safe.entries was x left);
    acknowledged = λ m at. stands-on (card_of began c).clock (card_of now c) m (safe.marked m at) (since m at);
    complete = λ span d i e among within at same said. complete.card span d i c e among within at same said;
    counted = counted;
    spared = λ not_ x left. safe.untouched (inl not_) x left;
  }
