-- The unit keeps a minute: its own rule, and that of each card.
use Rattle.std.proofs.Common.{◌≡◌, ℕ, suc, ◌+◌, ◌<◌, ◌≤◌, Bool, true, false, Option, Some, None, is_some, List, [], All, IfSome, refl, ap, subst, ◌∙◌, arith}
use Rattle.std.specs.Prelude.{OnOk, Result, Ok, Err, ◌/◌, ◌==◌, if◌then◌else◌}
use Rattle.activity_codec.specs.declared.entries.Entry.{Entry}
use Rattle.trace_model.specs.declared.Card.{Card}
use Rattle.trace_model.specs.declared.Card.TheVariants.{A, B}
use Rattle.unit_rule.specs.run_model.declared.Device.TheVariants.{Unit as Recorder}
use Rattle.tach_media.specs.Medium.{State, IsCoherent, IsSettled, LeavesOnly, last_count}
use Rattle.unit_minutes.specs.unit_model.Days.{UnitMinute}
use Rattle.unit_minutes.specs.unit_owed.Owed.{row_index}
use Rattle.unit_minutes.specs.unit_owed.Rows.{IsRowAt}
use Rattle.unit_minutes.specs.declared.kept.KeptMinute.{KeptMinute}
use Rattle.unit_minutes.specs.Kept.{kept_minute}
use Rattle.unit_minutes.specs.Plans.{most_kept}
use Rattle.unit_minutes.specs.Image as journal
use Rattle.unit_rule.specs.log_model.declared.lines.Mark.{Mark}
use Rattle.unit_rule.specs.history_model.Minutes.{HistoryMinute, on_card}
use Rattle.unit_rule.specs.history_model.Book.{Book, broken}
use Rattle.unit_rule.proofs.history_model.Books.{mark-earlier}
use Rattle.card_validity.specs.card_image.View.{Held}
use Rattle.unit_rule.specs.device_rule.Views.{UnitView, unit_view}
use Rattle.unit_rule.specs.device_rule.Device.{LeavesViews}
use Rattle.unit_rule.specs.device_rule.Steps.{IsKeeping, IsKept}
use Rattle.unit_rule.specs.device_rule.Filling.{seen_by_unit, KeepsMinute, GivesUpDay}
use Rattle.unit_rule.specs.device_rule.Marked.{of_unit}
use Rattle.unit_rule.specs.device_rule.Rules.{Standing, Fits}
use Rattle.unit_rule.proofs.device_rule.Viewed.{seen-run}
use Rattle.unit_rule.proofs.device_rule.KeepLaws.{keep-card, keep-dark}
use Rattle.unit_rule.proofs.Keeping.{keeping_view, kept_view}
use Rattle.unit_rule.specs.Rule.{Started, once_mended}
use Rattle.unit_rule.specs.Marks.{UnitFollowsBook}
use Rattle.unit_rule.proofs.Moves.{ended}
use Rattle.unit_rule.proofs.Marking.{holds-dark, holds-kept, holds-broken}
use Rattle.unit_rule.proofs.RowsOn.{rows-besides}
use Rattle.device_calls.specs.Rule.{Both, opened, number_of, unit_seen, AnyString, CardHolds, IsCommitted, IsHeldUp}

-- each row is whose it was
pub rows-kept : {T E : Type 0} (result : Result T E) (o p : Option (List ℕ)) (k : UnitMinute) → is_some p ≡ is_some o → OnOk result (IfSome o (λ x. IfSome p (journal.IsKept k x))) → (r : ℕ) (n : List ℕ) → IfSome o (IsRowAt r n) → OnOk result (IfSome p (IsRowAt r n))
rows-kept (Ok t) (Some x) (Some y) k same said r n at = ap (λ (rows : List ℕ). row_index n rows) (rows-besides x y said.outside) ∙ at
rows-kept (Ok t) None (Some y) k same said r n at = absurd (cc)
rows-kept (Ok t) o None k same said r n at = tt
rows-kept (Err f) o p k same said r n at = tt

pub same_minute : (k : KeptMinute) (i : HistoryMinute) → kept_minute k ≡ seen_by_unit i → 1440 ≤ k.minute → 1440 ≤ i.minute
same_minute k i is low = let same : k.minute ≡ i.minute = ap (λ (m : UnitMinute). m.minute) is in omega (arith, low, same)

pub any-later : (next n : ℕ) (full : List Entry) (h : Held) → next ≤ n → AnyString next full h → AnyString n full h
any-later next n full h le is = tt

-- it begins twelve writes at most
pub most-begun : (old new kept minute : ℕ) → new ≤ old + most_kept kept minute → new ≤ old + 12
most-begun old new kept minute most = omega (arith, most, few (minute / 1440 == kept / 1440))
  where
    few : (same : Bool) → (if same then 7 else 12) ≤ 12
    few true = omega arith
    few false = omega arith

-- each view that it leaves
pub keeps-views : {U V : State} (k : UnitMinute) (odometer : ℕ) (i : HistoryMinute) → k ≡ seen_by_unit i → IsCoherent U → LeavesOnly U V (journal.IsKeeping k odometer) → (a b : List ℕ)
    → LeavesViews (of_unit a b U) (of_unit a b V) (IsKeeping KeepsMinute GivesUpDay i)
keeps-views {U} {V} k odometer i is whole run a b =
    seen-run (unit_view a b) (journal.IsKeeping (seen_by_unit i) odometer) (IsKeeping KeepsMinute GivesUpDay i) U V whole (subst (λ (m : UnitMinute). LeavesOnly U V (journal.IsKeeping m odometer)) is run) (keeping_view a b i odometer)

module _ {U V : State} (k : UnitMinute) (odometer : ℕ) (i : HistoryMinute) (is : k ≡ seen_by_unit i) (whole : IsCoherent U) (run : LeavesOnly U V (journal.IsKeeping k odometer)) where
  keeping : LeavesOnly U V (journal.IsKeeping (seen_by_unit i) odometer)
  keeping = subst (λ (m : UnitMinute). LeavesOnly U V (journal.IsKeeping m odometer)) is run

  -- what ends well ends with the minute
  ends-with : IsCoherent V → V.works ≡ true → IfSome U.image (λ x. IfSome V.image (journal.IsKept k x)) → (c : List ℕ) → V.may_leave c → (x : List ℕ) × U.may_leave x × journal.IsKept (seen_by_unit i) x c
  ends-with after works said c left = subst (λ (m : UnitMinute). (x : List ℕ) × U.may_leave x × journal.IsKept m x c) is (ended (journal.IsKept k) whole after works run said c left)

  pub committed-unit : (s : Started) (due : ℕ) (b : Book) (marks : List Mark) → UnitFollowsBook (once_mended s) due b marks U → b.maybe ≡ None → due ≤ i.minute → (failed : Bool) → V.clock ≤ U.clock + 12 → IsCoherent V → (failed ≡ false → V.works ≡ true) → (failed ≡ false → IfSome U.image (λ x. IfSome V.image (journal.IsKept k x))) → (failed ≡ false → V.clock < last_count → IsSettled V) → IsHeldUp s b marks i failed V
  committed-unit s due b marks h none late failed most after works said settled = record {
    lit = λ well below. holds-kept (once_mended s) due b marks h whole refl i odometer none late keeping (record { device = Recorder; minute = i.minute; clock = V.clock }) refl refl refl most after (settled well below) (ends-with after (works well) (said well));
    dark = holds-dark s (suc i.minute) (broken i b) marks V (holds-broken (once_mended s) due b marks h whole refl i odometer none late keeping);
  }

  module _ (s : Started) (due : ℕ) (b : Book) (marks : List Mark) (h : UnitFollowsBook s due b marks U) (none : b.maybe ≡ None) (late : due ≤ i.minute) (r : Both) (c : Card) (X : State) (z : Standing) (day : 1440 ≤ i.minute) (rule : CardHolds r c b z (on_card c i) [] U X) (fits : Fits c (opened r c).start z i) where
    keeps : LeavesViews (unit_seen r U) (unit_seen r V) (IsKeeping KeepsMinute GivesUpDay i)
    keeps = seen-run (unit_view (number_of r A) (number_of r B)) (journal.IsKeeping (seen_by_unit i) odometer) (IsKeeping KeepsMinute GivesUpDay i) U V whole keeping (keeping_view (number_of r A) (number_of r B) i odometer)

    sure : (u : UnitView) → (unit_seen r U).may_leave u → All (λ j. j.minute ≤ u.last) b.sure
    sure u on = ((h.unit_holds (number_of r A) (number_of r B)).now u on).sure

    early : (u : UnitView) → (unit_seen r U).may_leave u → u.last < i.minute
    early u on = let held = h.unit_holds (number_of r A) (number_of r B) in omega (arith, late, mark-earlier s.first due b u.last held.order (held.now u on).mark)

    pub committed-card : (failed : Bool) → IsCoherent V → (failed ≡ false → V.works ≡ true) → (failed ≡ false → IfSome U.image (λ x. IfSome V.image (journal.IsKept k x))) → IsCommitted r c b i z failed V X
    committed-card failed after works said = record {
      lit = λ well. keep-card c (opened r c).start AnyString (opened r c).began b KeepsMinute GivesUpDay any-later z i none sure early day rule fits keeps
          (record {
            works = works well;
            now = λ v on. let was = ends-with after (works well) (said well) on.0 on.1 in
                (unit_view (number_of r A) (number_of r B) was.0, (was.0, was.1, refl), subst (IsKept KeepsMinute i (unit_view (number_of r A) (number_of r B) was.0)) on.2 (kept_view (number_of r A) (number_of r B) i was.0 on.0 was.2));
          });
      dark = keep-dark c (opened r c).start AnyString (opened r c).began b KeepsMinute GivesUpDay any-later z i none sure early day rule fits keeps;
    }
