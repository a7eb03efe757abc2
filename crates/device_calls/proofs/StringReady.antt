-- A card whose string goes on since the start of a run may keep its next entry, with entries by hand before it.
use Rattle.std.proofs.Common.{◌⊎◌, inl, inr, ⊎_elim, ℕ, ◌<◌, ◌≤◌, Option, Some, None, IfSome, List, [], ◌∷◌, length, subst, arith}
use Rattle.activity_codec.specs.declared.entries.Entry.{Entry}
use Rattle.activity_codec.specs.declared.entries.Manual.{Manual}
use Rattle.card_layout.specs.Application.{IsApplication}
use Rattle.card_validity.specs.card_image.Fields.{end_mark}
use Rattle.card_validity.specs.card_image.Own.{own_covered}
use Rattle.hand_model.specs.Holding.{LieBetween}
use Rattle.hand_model.proofs.OfDay.{spans}
use Rattle.hand_model.specs.Written.{Written, Hands}
use Rattle.card_session.specs.Sessions.{Session}
use Rattle.card_by_hand.specs.First.{first_written, ComeFrom}
use Rattle.unit_rule.specs.card_string.Carried.{StringFollowsEntries, IsFresh}
use Rattle.card_session.specs.Overwriting.{BeginsBehind}
use Rattle.unit_rule.specs.card_string.Since.{all_since, bound_since, counted_since}
use Rattle.unit_rule.proofs.card_string.Since.{may_come}
use Rattle.device_calls.specs.OnCard.{CardMayTake, IsSittingSince}

-- the first of them comes no later than the minute that they lie before
first_low : (after : ℕ) (hands : List Manual) (e : Entry) → LieBetween after e.minute hands → first_written hands e ≤ e.minute
first_low after [] e lie = omega arith
first_low after (g ∷ gs) e lie = let low : g.minute < e.minute = spans g.minute e.minute gs lie.1 in omega (arith, low)

-- so none may come later than it
pub come_low : (mark covered from after : ℕ) (hands : List Manual) (e : Entry) → LieBetween after e.minute hands → ComeFrom mark covered from hands e → from ≤ e.minute
come_low mark covered from after hands e lie comes = ⊎_elim (λ le. omega (arith, le, first_low after hands e lie)) (λ cut. cut.1) comes

pub since-ready : (t : Session) (image : List ℕ) (h : Hands) (done : List Entry) (n : ℕ) (hands : List Manual) (e : Entry) → IsApplication t.application → LieBetween t.minute e.minute hands → length hands ≤ 8
    → (o : Option (List ℕ)) → IfSome o (IsSittingSince t image h done n hands e)
    → (ws : List Written) × (from : ℕ) × IfSome o (CardMayTake t (bound_since image done) (own_covered image) from (counted_since image ws) (all_since image done) hands e)
since-ready t image h done n hands e sound lie few None known = ([], 0, tt)
since-ready t image h done n hands e sound lie few (Some x) known = (
  known.sits.written,
  known.sits.goes.from,
  record {
    carried = record {
      application = known.application;
      sizes = sound;
      session = known.knows;
      bytes = omega arith;
      goes = subst (λ (es : List Entry). StringFollowsEntries t.application (bound_since image es) (own_covered image) known.sits.goes.from (counted_since image known.sits.written) (all_since image es) x) known.sits.has_all known.sits.goes.goes;
    };
    clear = subst (λ (es : List Entry). BeginsBehind t.application e x ⊎ IsFresh t.application (counted_since image known.sits.written) (all_since image es) x) known.sits.has_all
        (may_come t.application image known.sits.written n x known.sits.goes e (come_low (end_mark t.application x) (own_covered image) n t.minute hands e lie known.before));
    before = ⊎_elim (λ le. inl (omega (arith, known.sits.goes.later, le))) (λ cut. inr (cut.0, omega (arith, known.sits.goes.later, cut.1))) known.before;
    few = few;
    shut = known.shut;
  },
)
