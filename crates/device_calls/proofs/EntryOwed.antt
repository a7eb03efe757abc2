-- An entry is put among those owed to a card: the rules of the unit and of both cards.
use Rattle.std.proofs.Common.{◌≡◌, ℕ, ◌%◌, ◌<◌, ◌≤◌, Bool, true, false, not, Option, Some, None, is_some, List, [], ◌∷◌, All, IfSome, refl, ap, subst, ◌∙◌, sym, arith}
use Rattle.std.specs.Prelude.{nat_eq, OnOk, Result, Ok, Err}
use Rattle.std.proofs.lemmas.List.{append-nil}
use Rattle.std.proofs.lemmas.List.Elements.{All-weaker, All-filter}
use Rattle.activity_codec.specs.declared.entries.Entry.{Entry}
use Rattle.trace_model.specs.declared.Card.{Card}
use Rattle.trace_model.specs.declared.Card.TheVariants.{A, B}
use Rattle.tach_media.specs.Medium.{State, IsCoherent, LeavesOnly, HasCause}
use Rattle.tach_media.proofs.Runs.{at_image, weaken}
use Rattle.card_session.specs.gated_ring.Ring.{PointsInside}
use Rattle.unit_minutes.specs.unit_model.Image.{day_ring}
use Rattle.unit_minutes.specs.unit_owed.Owed.{Row, row_view}
use Rattle.unit_minutes.specs.unit_owed.Rows.{IsPutting as IsPuttingRow, OwedRowHas as IsPutRow, HasRow, IsRowAt}
use Rattle.unit_minutes.specs.declared.notes.Notes.{Notes}
use Rattle.unit_minutes.specs.Image.{Agrees}
use Rattle.unit_rule.specs.log_model.declared.lines.Mark.{Mark}
use Rattle.unit_rule.specs.history_model.Book.{Book}
use Rattle.unit_rule.proofs.history_model.Books.{mark-earlier}
use Rattle.unit_rule.specs.device_rule.Views.{UnitView, unit_view, row, other}
use Rattle.unit_rule.specs.device_rule.Device.{LeavesViews, EndsWith}
use Rattle.unit_rule.specs.device_rule.Steps.{IsPutting, UnitOwes, cleared}
use Rattle.unit_rule.specs.device_rule.Rules.{Standing, IsPresent, Cells}
use Rattle.unit_rule.proofs.device_rule.Viewed.{seen-run}
use Rattle.unit_rule.proofs.device_rule.KeepLaws.{owe-card, owe-dark, owe-other, owe-other_dark}
use Rattle.unit_rule.proofs.Putting.{first_putting, second_putting, first_put, second_put}
use Rattle.unit_rule.specs.Rule.{Started, IsCards}
use Rattle.unit_rule.specs.Marks.{UnitFollowsBook}
use Rattle.unit_rule.proofs.Moves.{ended}
use Rattle.unit_minutes.proofs.Beside.{last_beside}
use Rattle.unit_rule.proofs.Elsewhere.{rows-elsewhere, rows-issued, holds-elsewhere}
use Rattle.unit_rule.proofs.RowsOn.{rows-put}
use Rattle.device_calls.specs.Rule.{Both, opened, number_of, unit_seen, AnyString, CardHolds, IsKeptUp}

-- the row of a card is that of its number
row-is : (r : Both) (c : Card) (x : List ℕ) → row c (unit_view (number_of r A) (number_of r B) x) ≡ row_view (number_of r c) x
unfolding unit_view
row-is r A x = refl
row-is r B x = refl

-- a call that did not fail found a device that works, and left it so
pub worked : {old new : State} {failed : Bool} → failed ≡ false → HasCause old new failed → (new.works ≡ true) × (old.works ≡ true)
worked {old} {new} {failed} well cause = (cause.works ∙ ap not well, by old.works refl)
  where
    by : (w : Bool) → old.works ≡ w → old.works ≡ true
    by true is = is
    by false is = absurd (let bad = cause.broken is in cc)

-- a row that is known by its index is one
pub row-there : (o : Option (List ℕ)) (r : ℕ) (n : List ℕ) → IfSome o (IsRowAt r n) → IfSome o (HasRow n)
row-there None r n at = tt
row-there (Some x) r n at = (r, at)

-- each row is whose it was
pub row-still : {T E : Type 0} (result : Result T E) (o p : Option (List ℕ)) (number : List ℕ) (e : Entry) → is_some p ≡ is_some o → OnOk result (IfSome o (λ x. IfSome p (IsPutRow number e x))) → (r : ℕ) (n : List ℕ) → IfSome o (IsRowAt r n) → OnOk result (IfSome p (IsRowAt r n))
row-still (Ok t) (Some x) (Some y) number e same said r n at = said.putting.indices n ∙ at
row-still (Ok t) None (Some y) number e same said r n at = absurd (cc)
row-still (Ok t) o None number e same said r n at = tt
row-still (Err f) o p number e same said r n at = tt

-- the unit's rule, whatever the cards
pub owed-holds : (s : Started) {U V : State} (due : ℕ) (b : Book) (marks : List Mark) (number : List ℕ) (e : Entry) → IsCards s number → IsCoherent U → LeavesOnly U V (IsPuttingRow number e) → UnitFollowsBook s due b marks U → UnitFollowsBook s due b marks V
owed-holds s {U} {V} due b marks number e whose whole run h = holds-elsewhere s due b marks h whole (IsPuttingRow number e) run (λ x c is. (rows-elsewhere x c is.outside, rows-issued x c is.outside, is.decodes))
    (λ x c is. rows-put s number whose x c (last_beside x c (rows-elsewhere x c is.outside)) e is)

module _ (r : Both) (c : Card) (number : List ℕ) (named : number ≡ number_of r c) {U V : State} (e : Entry) (some : 1440 ≤ e.minute) (whole : IsCoherent U) (j : Notes) (agrees : IfSome U.image (Agrees j))
    (s : Started) (due : ℕ) (b : Book) (marks : List Mark) (h : UnitFollowsBook s due b marks U) (late : due ≤ e.minute) (run : LeavesOnly U V (IsPuttingRow number e)) where
  earlier : (u : UnitView) → (unit_seen r U).may_leave u → u.last < e.minute
  earlier u on = let rule = h.unit_holds (number_of r A) (number_of r B) in omega (arith, late, mark-earlier s.first due b u.last rule.order (rule.now u on).mark)

  known : (x : List ℕ) → U.image ≡ Some x → PointsInside day_ring x
  known x told = (at_image (Agrees j) told agrees).pointer

  module _ (X : State) (y : Standing) (rule : CardHolds r c b y [] [] U X) where
    -- no other entry of the row is as late
    cells-low : (x : List ℕ) → U.image ≡ Some x → All (λ d. d.minute < e.minute) (cleared e (row_view (number_of r c) x)).cells
    cells-low x told =
        let u : UnitView = unit_view (number_of r A) (number_of r B) x in
        let on : (unit_seen r U).may_leave u = (x, whole.is_left x told, refl) in
        let k : Cells c [] u = rule.cells u on in
        All-filter (λ (d : Entry). not (nat_eq (d.minute % 4) (e.minute % 4))) (λ (d : Entry). d.minute < e.minute) (row_view (number_of r c) x).cells
        (subst (λ (t : Row). All (λ d. d.minute < e.minute) t.cells) (row-is r c x)
        (subst (All (λ (d : Entry). d.minute < e.minute)) (sym (k.cells ∙ append-nil k.olds))
        (All-weaker (λ (d : Entry). d.minute ≤ u.last) (λ d. d.minute < e.minute) (λ d low. let lt = earlier u on in omega (arith, low, lt)) k.olds k.kept)))

    putting : (c' : Card) → c ≡ c' → (x d : List ℕ) → U.image ≡ Some x → IsPuttingRow (number_of r c') e x d → All (λ d. d.minute < e.minute) (cleared e (row_view (number_of r c') x)).cells
        → IsPutting c' e (unit_view (number_of r A) (number_of r B) x) (unit_view (number_of r A) (number_of r B) d)
    putting A is x d told k low = first_putting (number_of r A) (number_of r B) e x d r.two (known x told) some low k
    putting B is x d told k low = second_putting (number_of r A) (number_of r B) e x d r.two (known x told) some low k

    pub puts : LeavesViews (unit_seen r U) (unit_seen r V) (IsPutting c e)
    puts = seen-run (unit_view (number_of r A) (number_of r B)) (λ x d. IsPutting c e (unit_view (number_of r A) (number_of r B) x) (unit_view (number_of r A) (number_of r B) d)) (IsPutting c e) U V whole
        (weaken run (λ x d told k. putting c refl x d told (subst (λ (n : List ℕ). IsPuttingRow n e x d) named k) (cells-low x told))) (λ x d k. k)

    ended-put : (c' : Card) → (x d : List ℕ) → U.image ≡ Some x → HasRow (number_of r c') x → IsPutRow (number_of r c') e x d → All (λ d. d.minute < e.minute) (cleared e (row_view (number_of r c') x)).cells
        → UnitOwes c' e (unit_view (number_of r A) (number_of r B) x) (unit_view (number_of r A) (number_of r B) d)
    ended-put A x d told has k low = first_put (number_of r A) (number_of r B) e x d r.two (known x told) some low has k
    ended-put B x d told has k low = second_put (number_of r A) (number_of r B) e x d r.two (known x told) some low has k

    pub put : IsCoherent V → V.works ≡ true → IfSome U.image (HasRow number) → IfSome U.image (λ x. IfSome V.image (IsPutRow number e x)) → U.works ≡ true → EndsWith (unit_seen r U) (unit_seen r V) (UnitOwes c e)
    put after works has said before = record {
      works = works;
      now = λ v on.
          let was = ended (IsPutRow number e) whole after works run said on.0 on.1 in
          let told : U.image ≡ Some was.0 = whole.only was.0 before was.1 in (
            unit_view (number_of r A) (number_of r B) was.0,
            (was.0, was.1, refl),
            subst (UnitOwes c e (unit_view (number_of r A) (number_of r B) was.0)) on.2
                (ended-put c was.0 on.0 told (subst (λ (n : List ℕ). HasRow n was.0) named (at_image (HasRow number) told has)) (subst (λ (n : List ℕ). IsPutRow n e was.0 on.0) named was.2) (cells-low was.0 told)),
          );
    }

    -- the card's own rule
    pub owed-mine : (failed : Bool) → IsPresent (opened r c).start y e.minute → (failed ≡ false → EndsWith (unit_seen r U) (unit_seen r V) (UnitOwes c e)) → IsKeptUp r c b y (e ∷ []) [] failed V X
    owed-mine failed present ends = record {
      lit = λ well. owe-card c (opened r c).start AnyString (opened r c).began b y e rule puts (ends well) earlier present;
      dark = owe-dark c (opened r c).start AnyString (opened r c).began b y e rule puts earlier present;
    }

    -- and the other card's
    pub owed-other : (Z : State) (failed : Bool) (z : Standing) (m d : List Entry) → CardHolds r (other c) b z m d U Z → IsKeptUp r (other c) b z m d failed V Z
    owed-other Z failed z m d other_rule = record {
      lit = λ well. owe-other c (opened r (other c)).start AnyString (opened r (other c)).began b e z m d puts other_rule;
      dark = owe-other_dark c (opened r (other c)).start AnyString (opened r (other c)).began b e z puts other_rule.dark;
    }
