-- Power is back: the cards, as the unit is found and mended; and a card that was torn out, or read.
use Rattle.std.proofs.Common.{◌≡◌, ℕ, ◌≤◌, Bool, true, false, not, Some, List, [], All, IfSome, refl, ap, subst, ◌∙◌, sym}
use Rattle.trace_model.specs.declared.Card.{Card}
use Rattle.trace_model.specs.declared.Card.TheVariants.{A, B}
use Rattle.tach_media.specs.Medium.{State, IsCoherent, LeavesOnly, Unchanged}
use Rattle.unit_minutes.specs.unit_model.Image.{last_kept}
use Rattle.unit_minutes.specs.declared.notes.Notes.{Notes}
use Rattle.unit_minutes.specs.Mends.{IsMending as IsMendingImage, IsMended as IsMendedImage}
use Rattle.unit_rule.specs.log_model.declared.lines.Mark.{Mark}
use Rattle.unit_rule.specs.history_model.Minutes.{HistoryMinute}
use Rattle.unit_rule.specs.history_model.Book.{Book, found}
use Rattle.card_validity.specs.card_image.Own.{own_view}
use Rattle.unit_rule.specs.device_rule.Views.{UnitView, unit_view}
use Rattle.unit_rule.specs.device_rule.Device.{LeavesViews, Nothing}
use Rattle.unit_rule.specs.device_rule.Steps.{IsMending, IsMended}
use Rattle.unit_rule.specs.device_rule.Marked.{of_unit}
use Rattle.unit_rule.specs.device_rule.Rules.{Standing, In, Torn}
use Rattle.unit_rule.specs.device_rule.Filling.{FillsDays}
use Rattle.unit_rule.proofs.device_rule.Viewed.{seen-run}
use Rattle.unit_rule.proofs.device_rule.CardLaws.{look-dark}
use Rattle.unit_rule.proofs.device_rule.UnitLaws.{sure-found}
use Rattle.unit_rule.proofs.device_rule.EnterLaws.{tear-card, found-dark, mend-dark, mend-card}
use Rattle.unit_rule.proofs.Mended.{mending_view, mended_view}
use Rattle.unit_rule.specs.Rule.{Started, seen_unit, HasRowsMended}
use Rattle.unit_rule.specs.Marks.{UnitFollowsBook}
use Rattle.unit_rule.proofs.Moves.{ended, shown-last}
use Rattle.unit_rule.proofs.Found.{one-image}
use Rattle.unit_rule.proofs.Marking.{holds-aside, holds-mended}
use Rattle.unit_rule.proofs.Mending.{mending-aside}
use Rattle.unit_rule.proofs.RowsOn.{rows-mends, rows-low}
use Rattle.device_calls.specs.Rule.{Both, opened, number_of, unit_seen, card_seen, AnyString, CardHolds, CardRests, IsHeldMended, IsTakenUp}
use Rattle.device_calls.proofs.MinuteKept.{any-later}

pub mended-holds : (s : Started) {U V : State} (due : ℕ) (b : Book) (marks : List Mark) (j : Notes) → IsCoherent U → LeavesOnly U V (IsMendingImage j) → UnitFollowsBook s due b marks U →
    (failed : Bool) → IsCoherent V → V.works ≡ not failed → (failed ≡ false → IfSome U.image (λ x. IfSome V.image (IsMendedImage x))) → IsHeldMended s due b marks V
mended-holds s {U} {V} due b marks j whole run h failed after works said = record { lit = λ well. holds-mended s due b marks V dark (low well); dark = dark }
  where
    dark : UnitFollowsBook s due b marks V
    dark = holds-aside s due b marks h whole (IsMendingImage j) run (λ x c is. mending-aside j x c is) (λ x c is. rows-mends s j x c is)

    no : true ≡ false → ⊥
    no e = cc

    ended-well : (b : Bool) → V.works ≡ not b → V.works ≡ true → b ≡ false
    ended-well false is well = refl
    ended-well true is well = absurd (no (sym well ∙ is))

    low : V.works ≡ true → (c : List ℕ) → V.may_leave c → HasRowsMended s c
    low well c left =
        let was = ended IsMendedImage whole after well run (said (ended-well failed works well)) c left in
        rows-low s was.0 c was.2 (h.rows was.0 (whole.counts_now s.began was.0 (h.unit_holds [] []).later was.1))

pub mends-views : {U V : State} (j : Notes) → IsCoherent U → LeavesOnly U V (IsMendingImage j) → (a b : List ℕ) → LeavesViews (of_unit a b U) (of_unit a b V) IsMending
mends-views {U} {V} j whole run a b = seen-run (unit_view a b) (IsMendingImage j) IsMending U V whole run (λ x d k. mending_view a b x d j k)

module _ (r : Both) (c : Card) (b : Book) (z : Standing) {U V : State} (X : State) (j : Notes) (whole : IsCoherent U) (run : LeavesOnly U V (IsMendingImage j)) (rests : CardRests r c b z U X) where
  mends : LeavesViews (unit_seen r U) (unit_seen r V) IsMending
  mends = mends-views j whole run (number_of r A) (number_of r B)

  pub taken-up : (failed : Bool) → IsCoherent V → (failed ≡ false → V.works ≡ true) → (failed ≡ false → IfSome U.image (λ x. IfSome V.image (IsMendedImage x))) → IsTakenUp r c b z failed V X
  taken-up failed after works said = record {
    lit = λ well. mend-card c (opened r c).start AnyString (opened r c).began b any-later z mends
        (record {
          works = works well;
          now = λ v on. let was = ended IsMendedImage whole after (works well) run (said well) on.0 on.1 in
              (unit_view (number_of r A) (number_of r B) was.0, (was.0, was.1, refl), subst (IsMended (unit_view (number_of r A) (number_of r B) was.0)) on.2 (mended_view (number_of r A) (number_of r B) was.0 on.0 was.2));
        }) rests;
    dark = mend-dark c (opened r c).start AnyString (opened r c).began b z mends rests;
  }

pub torn : (r : Both) (c : Card) (b : Book) (U X : State) (time newest floor : ℕ) → CardHolds r c b (In time newest) [] [] U X → CardHolds r c b (Torn time newest floor) [] [] U X
torn r c b U X time newest floor rule = tear-card c (opened r c).start AnyString (opened r c).began b time newest floor rule

pub read-rests : (r : Both) (c : Card) (b : Book) (z : Standing) (U X Y : State) → IsCoherent X → LeavesOnly X Y Unchanged → CardRests r c b z U X → CardRests r c b z U Y
read-rests r c b z U X Y whole run rests = look-dark c (opened r c).start AnyString {U = unit_seen r U} {X = card_seen X} {Y = card_seen Y} (opened r c).began b z (seen-run own_view Unchanged Nothing X Y whole run (λ x y never. absurd never)) rests

module _ (r : Both) (c : Card) (s : Started) (due : ℕ) (b : Book) (marks : List Mark) (z : Standing) (U V X : State) (before : IsCoherent U) (after : IsCoherent V) (h : UnitFollowsBook s due b marks U) (run : LeavesOnly U V Unchanged) (works : V.works ≡ true) (x : List ℕ) (is : V.image ≡ Some x) where
  seen-same : LeavesViews (unit_seen r U) (unit_seen r V) Nothing
  seen-same = seen-run (unit_view (number_of r A) (number_of r B)) Unchanged Nothing U V before run (λ y d never. absurd never)

  sure : All (λ (i : HistoryMinute). i.minute ≤ last_kept x) b.sure
  sure = sure-found (FillsDays s.days) s.first {U = seen_unit [] [] U} {V = seen_unit [] [] V} s.began due (last_kept x) b (unit_view [] [] x) (h.unit_holds [] [])
      (seen-run (unit_view [] []) Unchanged Nothing U V before run (λ y d never. absurd never)) (x, after.is_left x is, refl) (shown-last [] [] x)

  pub found-rests : CardRests r c b z U X → CardRests r c (found (last_kept x) b) z V X
  found-rests rests = found-dark c (opened r c).start AnyString (opened r c).began b (last_kept x) z seen-same
      (λ v on. ap (λ (u : UnitView). u.last) (sym on.2) ∙ shown-last (number_of r A) (number_of r B) on.0 ∙ ap last_kept (one-image V x after works is on.0 on.1)) sure rests
