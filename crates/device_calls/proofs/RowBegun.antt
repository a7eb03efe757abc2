-- A card's row is begun: the rules of the unit and of the other card.
use Rattle.std.proofs.Common.{◌≡◌, ℕ, Bool, Option, Some, None, is_some, List, IfSome, subst}
use Rattle.std.specs.Prelude.{OnOk, Result, Ok, Err}
use Rattle.activity_codec.specs.declared.entries.Entry.{Entry}
use Rattle.trace_model.specs.declared.Card.{Card}
use Rattle.trace_model.specs.declared.Card.TheVariants.{A, B}
use Rattle.tach_media.specs.Medium.{State, IsCoherent, LeavesOnly}
use Rattle.tach_media.proofs.Runs.{at_image, weaken}
use Rattle.card_session.specs.gated_ring.Ring.{PointsInside}
use Rattle.unit_minutes.specs.unit_model.Image.{day_ring}
use Rattle.unit_minutes.specs.unit_owed.Rows.{IsRowBeginning, IsRowBegun, IsRowAt}
use Rattle.unit_minutes.proofs.unit_owed.Known.{index_spared}
use Rattle.unit_minutes.specs.declared.notes.Notes.{Notes}
use Rattle.unit_minutes.specs.Image.{Agrees}
use Rattle.unit_rule.specs.log_model.declared.lines.Mark.{Mark}
use Rattle.unit_rule.specs.history_model.Book.{Book}
use Rattle.unit_rule.specs.device_rule.Views.{unit_view, other}
use Rattle.unit_rule.specs.device_rule.Device.{LeavesViews}
use Rattle.unit_rule.specs.device_rule.Steps.{IsBeginning}
use Rattle.unit_rule.specs.device_rule.Rules.{Standing}
use Rattle.unit_rule.proofs.device_rule.Viewed.{seen-run}
use Rattle.unit_rule.proofs.device_rule.EnterLaws.{begin-other, begin-other_dark}
use Rattle.unit_rule.proofs.Beginning.{first_beginning, second_beginning}
use Rattle.unit_rule.specs.Rule.{Started, IsCards}
use Rattle.unit_rule.specs.Marks.{UnitFollowsBook}
use Rattle.unit_minutes.proofs.Beside.{last_beside}
use Rattle.unit_rule.proofs.Elsewhere.{rows-elsewhere, rows-issued, holds-elsewhere}
use Rattle.unit_rule.proofs.RowsOn.{rows-begun}
use Rattle.device_calls.specs.Rule.{Both, opened, number_of, unit_seen, AnyString, CardHolds, IsKeptUp}

-- the unit's rule, whatever the cards
pub begun-holds : (s : Started) {U V : State} (due : ℕ) (b : Book) (marks : List Mark) (number : List ℕ) (session : ℕ) (spared : Option (List ℕ)) → IsCards s number → ((n : List ℕ) → spared ≡ Some n → IsCards s n) → IsCoherent U → LeavesOnly U V (IsRowBeginning number session spared) → UnitFollowsBook s due b marks U → UnitFollowsBook s due b marks V
begun-holds s {U} {V} due b marks number session spared whose spare whole run h = holds-elsewhere s due b marks h whole (IsRowBeginning number session spared) run (λ x c is. (rows-elsewhere x c is.outside, rows-issued x c is.outside, is.decodes))
    (λ x c is. rows-begun s number whose x c (last_beside x c (rows-elsewhere x c is.outside)) session spared spare is)

-- the spared number's row is where it was
pub row-spared : {T E : Type 0} (result : Result T E) (o p : Option (List ℕ)) (number : List ℕ) (session : ℕ) (spared : Option (List ℕ)) → is_some p ≡ is_some o → OnOk result (IfSome o (λ x. IfSome p (IsRowBegun number session spared x)))
    → (r : ℕ) (n : List ℕ) → spared ≡ Some n → IfSome o (IsRowAt r n) → OnOk result (IfSome p (IsRowAt r n))
row-spared (Ok t) (Some x) (Some y) number session spared same said r n is at = index_spared number n session x y (subst (λ (s : Option (List ℕ)). IsRowBegun number session s x y) is said) r at
row-spared (Ok t) None (Some y) number session spared same said r n is at = absurd (cc)
row-spared (Ok t) o None number session spared same said r n is at = tt
row-spared (Err f) o p number session spared same said r n is at = tt

module _ (r : Both) (c : Card) (number : List ℕ) (named : number ≡ number_of r c) (spared : Option (List ℕ)) (others : spared ≡ Some (number_of r (other c))) (session : ℕ) {U V : State} (whole : IsCoherent U) (j : Notes) (agrees : IfSome U.image (Agrees j)) (run : LeavesOnly U V (IsRowBeginning number session spared)) where
  known : (x : List ℕ) → U.image ≡ Some x → PointsInside day_ring x
  known x told = (at_image (Agrees j) told agrees).pointer

  beginning : (c' : Card) (x d : List ℕ) → U.image ≡ Some x → IsRowBeginning (number_of r c') session (Some (number_of r (other c'))) x d → IsBeginning c' (unit_view (number_of r A) (number_of r B) x) (unit_view (number_of r A) (number_of r B) d)
  beginning A x d told k = first_beginning (number_of r A) (number_of r B) session x d r.two (known x told) k
  beginning B x d told k = second_beginning (number_of r A) (number_of r B) session x d r.two (known x told) k

  pub begins : LeavesViews (unit_seen r U) (unit_seen r V) (IsBeginning c)
  begins = seen-run (unit_view (number_of r A) (number_of r B)) (λ x d. IsBeginning c (unit_view (number_of r A) (number_of r B) x) (unit_view (number_of r A) (number_of r B) d)) (IsBeginning c) U V whole
      (weaken run (λ x d told k. beginning c x d told (subst (λ (o : Option (List ℕ)). IsRowBeginning (number_of r c) session o x d) others (subst (λ (n : List ℕ). IsRowBeginning n session spared x d) named k)))) (λ x d k. k)

  -- and the other card's
  pub taken-other : (Z : State) (b : Book) (z : Standing) (m d : List Entry) (failed : Bool) → CardHolds r (other c) b z m d U Z → IsKeptUp r (other c) b z m d failed V Z
  taken-other Z b z m d failed rule = record {
    lit = λ well. begin-other c (opened r (other c)).start AnyString (opened r (other c)).began b z m d begins rule;
    dark = begin-other_dark c (opened r (other c)).start AnyString (opened r (other c)).began b z begins rule.dark;
  }
