-- A card between two minutes: out of its slot, and sitting in it.
use Rattle.std.proofs.Common.{◌≡◌, inl, ℕ, suc, ◌≤◌, Option, Some, None, is_some, IfSome, List, [], ◌∷◌, subst, sym, arith}
use Rattle.activity_codec.specs.declared.entries.Entry.{Entry}
use Rattle.activity_codec.specs.declared.entries.Manual.{Manual}
use Rattle.trace_model.specs.declared.Card.{Card}
use Rattle.tach_media.specs.Medium.{State}
use Rattle.tach_media.proofs.Runs.{at_image, both_told}
use Rattle.card_layout.specs.declared.files.Application.{Application}
use Rattle.card_session.specs.Sessions.{Session}
use Rattle.card_session.specs.Overwriting.{BeginsBehind}
use Rattle.unit_rule.specs.card_string.Shows.{IsDone}
use Rattle.unit_rule.specs.history_model.Book.{Book}
use Rattle.unit_rule.specs.device_rule.Rules.{Standing, Out, In, Torn}
use Rattle.device_calls.specs.Rule.{Both, CardHolds}
use Rattle.device_calls.specs.OnCard.{SessionKnowsCard, CardMayTake}
use Rattle.hand_model.specs.Holding.{LieBetween}
use Rattle.hand_model.proofs.OfDay.{spans}
use Rattle.card_by_hand.specs.First.{IsShutAt, first_written}
use Rattle.card_by_hand.specs.Wider.{with_hands}
use Rattle.device_calls.specs.Minute.{Carry, and_kept, IsClear, IsSitting, MayWriteBefore, IsNotIn}

-- what is owed to a card that is not in its slot is owed to it whatever the minute says
pub not_in : (r : Both) (c : Card) (b : Book) (z : Standing) (d : List Entry) (U X : State) → IsNotIn z → CardHolds r c b z [] d U X → CardHolds r c b z [] [] U X
not_in r c b Out d U X out rule = record { dark = rule.dark; cells = rule.cells; stands = tt }
not_in r c b (In s n) d U X out rule = absurd out
not_in r c b (Torn s n f) d U X out rule = record { dark = rule.dark; cells = rule.cells; stands = rule.stands }

-- ---- a card that sits in its slot

-- the first of them comes no earlier than behind the newest minute
pub first_comes : (from newest : ℕ) (hands : List Manual) (e : Entry) → from ≤ suc newest → LieBetween newest e.minute hands → from ≤ first_written hands e
first_comes from newest [] e le lie = omega (arith, le, lie)
first_comes from newest (h ∷ hs) e le lie = omega (arith, le, lie.0)

-- it is ready for an entry that is later than its session's newest minute, with these entries by hand before it
pub ready_sitting : (t : Session) (w : Carry) (hands : List Manual) (e : Entry) (X : State) → IsSitting t w X → MayWriteBefore t hands e X → IfSome X.image (CardMayTake t w.slack w.covered w.from w.counted w.all hands e)
ready_sitting t w hands e X a may = both_told X.image (CardMayTake t w.slack w.covered w.from w.counted w.all hands e) a.carried a.clear
    (λ x told carried clear. record {
      carried = carried;
      clear = clear e (spans t.minute e.minute hands may.are.lie);
      before = inl (first_comes w.from t.minute hands e a.from may.are.lie);
      few = may.few;
      shut = λ some. at_image (IsShutAt t.application) told (may.shut some);
    })

-- what a keep that did not fail leaves
abbrev pub Did : (s t : Session) → Carry → List Manual → Entry → List ℕ → List ℕ → Type 0
Did s t w hands e x y = IsDone s.application w.slack w.covered (with_hands w.covered w.counted hands) w.all e x y × SessionKnowsCard t (and_kept w hands e).slack w.covered (suc e.minute) (and_kept w hands e).counted (and_kept w hands e).all y

did : (s t : Session) (w : Carry) (hands : List Manual) (e : Entry) (o p : Option (List ℕ)) → is_some p ≡ is_some o → IfSome o (CardMayTake s w.slack w.covered w.from w.counted w.all hands e)
    → IfSome o (λ x. IfSome p (λ y. CardMayTake s w.slack w.covered w.from w.counted w.all hands e x → Did s t w hands e x y)) → IfSome p (λ y. (x : List ℕ) × Did s t w hands e x y)
did s t w hands e (Some x) (Some y) same ready said = (x, said ready)
did s t w hands e None (Some y) same ready said = absurd (cc)
did s t w hands e o None same ready said = tt

-- what is carried of it goes on with an entry that it kept
pub sitting_on : (s t : Session) (w : Carry) (hands : List Manual) (e : Entry) (X Y : State) → is_some Y.image ≡ is_some X.image → t.application ≡ s.application → t.minute ≡ e.minute → IfSome X.image (CardMayTake s w.slack w.covered w.from w.counted w.all hands e)
    → IfSome X.image (λ x. IfSome Y.image (λ y. CardMayTake s w.slack w.covered w.from w.counted w.all hands e x → Did s t w hands e x y)) → IsSitting t (and_kept w hands e) Y
sitting_on s t w hands e X Y same sizes at ready said = record {
  from = omega (arith, at);
  carried = both_told Y.image (SessionKnowsCard t (and_kept w hands e).slack w.covered (suc e.minute) (and_kept w hands e).counted (and_kept w hands e).all) now now (λ y told one two. one.1.1);
  clear = both_told Y.image (IsClear t (and_kept w hands e)) now now (λ y told one two. λ f lt. inl (subst (λ (p : Application). BeginsBehind p f y) (sym sizes) (one.1.0.clear f (omega (arith, at, lt)))));
}
  where
    now : IfSome Y.image (λ y. (x : List ℕ) × Did s t w hands e x y)
    now = did s t w hands e X.image Y.image same ready said
