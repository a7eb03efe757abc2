-- What a card has acknowledged, and what its acceptances brought, stays so over each kind of step.
use Rattle.std.proofs.Common.{◌≡◌, inl, inr, ⊎_elim, ℕ, ◌/◌, ◌<◌, ◌≤◌, List, [], ◌∷◌, ◌++◌, All, Contains, refl, ap, subst, ◌∙◌, sym, arith, take, drop}
use Rattle.std.proofs.lemmas.List.{append-nil}
use Rattle.std.proofs.lemmas.List.Elements.{All-weaker, All-contains}
use Rattle.activity_codec.specs.declared.entries.Entry.{Entry}
use Rattle.trace_model.specs.declared.Card.{Card}
use Rattle.tach_media.specs.Medium.{State, IsCoherent, IsSettled}
use Rattle.history_model.specs.Minutes.{HistoryMinute, on_card}
use Rattle.history_model.specs.Presence.{CardStart}
use Rattle.history_model.proofs.Filters.{take-drop}
use Rattle.card_image.specs.View.{CardView, Held}
use Rattle.card_image.specs.Own.{own_view}
use Rattle.device_rule.specs.Views.{UnitView, unit_view, row, other, owed, owed_in}
use Rattle.device_rule.specs.Device.{Seen, LeavesViews, EndsWith, Nothing, SettledViews}
use Rattle.device_rule.specs.Filling.{KeepsMinute, GivesUpDay}
use Rattle.device_rule.specs.Steps.{IsKeeping, IsKept, IsUnkept, IsPutting, IsBeginning, IsMending, IsInserting, IsInserted, IsOnCard, IsNowOnCard, IsClosing}
use Rattle.device_rule.specs.Rules.{Standing, In, Torn, MeetsStanding, Cells, Fits, IsPresent, IsEntered, IsRepaired, EntriesGoOn}
use Rattle.device_rule.specs.Marked.{of_unit, of_card, AnyAdded, HasMarked, IsOwing, IsBeside}
use Rattle.device_rule.proofs.Viewed.{seen-coherent}
use Rattle.device_rule.proofs.Holding.{acknowledged, acknowledges-on}
use Rattle.device_rule.proofs.Owing.{owed-put, owed-beside, owed-mend, owed-new, owed-insert, owed-close, replayed-owed, row-same}
use Rattle.device_rule.proofs.Pairs.{owed-on_card, owed-unmoved}
use Rattle.device_rule.proofs.KeepLaws.{near, owed-grown, putting-beside}
use Rattle.device_rule.proofs.Repairing.{repaired-unit, repaired-card, inserting-rises, on_card-rises, closing-rises}

abbrev AnyKept : ℕ → List Entry → Held → Type 0
AnyKept next all held = Unit {0}

any-goes : EntriesGoOn AnyKept AnyAdded
any-goes = record { later = λ next n full x le is. tt; added = λ next full taken x y is step. tt }

-- MARKS
settled-views : (s : State) → IsCoherent s → IsSettled s → SettledViews (of_card s)
settled-views s whole settled v left = (left.0, whole.is_left left.0 (settled left.0 left.1), left.2)

pub kept-marked : (X Y : State) (e : Entry) → IsCoherent Y → IsSettled Y → EndsWith (of_card X) (of_card Y) (IsNowOnCard AnyAdded e) → HasMarked e.minute Y.clock Y
kept-marked X Y e whole settled ends = acknowledged (λ (x : CardView). x.mark) e.minute (of_card Y) (settled-views Y whole settled) (λ y there. omega (arith, (ends.now y there).2.mark))

-- at the end of an insertion all that was owed is on the card
all-brought : (c : Card) (now newest : ℕ) (u : UnitView) (x y : CardView) → IsInserted AnyAdded (owed c u x) now newest x y → u.last < now / 60 → All (λ e. e.minute ≤ y.mark) (owed c u x)
all-brought c now newest u x y k late =
    let i : IsInserting AnyAdded (owed c u x) now x y = k.inserting in
    let left : owed c u y ≡ drop i.count (owed c u x) = owed-insert AnyAdded c now u x y i late in
    let none : owed c u y ≡ [] = ap (λ (s : ℕ). owed_in (row c u) u.last s y.mark) k.session ∙ owed-new (row c u) u.last now y.mark late in
    let whole : take i.count (owed c u x) ≡ owed c u x =
    sym (append-nil (take i.count (owed c u x))) ∙ ap (λ (zs : List Entry). take i.count (owed c u x) ++ zs) (sym none ∙ left) ∙ take-drop i.count (owed c u x) in
    subst (All (λ (e : Entry). e.minute ≤ y.mark)) whole (subst (λ (zs : List Entry). All (λ e. e.minute ≤ y.mark) (take i.count zs)) (replayed-owed c u x) i.reached)

pub brought-marked : (a b : List ℕ) (c : Card) (given : List Entry) (now newest : ℕ) (U X Y : State) → IsCoherent Y → IsSettled Y → IsOwing a b c given now U X → EndsWith (of_card X) (of_card Y) (IsInserted AnyAdded given now newest) →
    (e : Entry) → Contains given e → HasMarked e.minute Y.clock Y
brought-marked a b c given now newest U X Y whole settled owing ends e at = acknowledged (λ (x : CardView). x.mark) e.minute (of_card Y) (settled-views Y whole settled) (λ y there.
    let was = ends.now y there in
    let u : UnitView = unit_view a b owing.some.0 in
    let on : (of_unit a b U).may_leave u = (owing.some.0, owing.some.1, refl) in
    let is : given ≡ owed c u was.0 = owing.owes u was.0 on was.1 in
    let each : All (λ e. e.minute ≤ y.mark) (owed c u was.0) = all-brought c now newest u was.0 y (subst (λ (zs : List Entry). IsInserted AnyAdded zs now newest was.0 y) is was.2) (owing.late u on) in
    All-contains (λ (d : Entry). d.minute ≤ y.mark) given e (subst (All (λ (d : Entry). d.minute ≤ y.mark)) (sym is) each) at)

-- no step takes one back
pub marks-stay : (R : CardView → CardView → Type 0) (X Y : State) → IsCoherent X → LeavesViews (of_card X) (of_card Y) R → ((x y : CardView) → (of_card X).may_leave x → R x y → x.mark ≤ y.mark) → (minute clock : ℕ) → HasMarked minute clock X → HasMarked minute clock Y
marks-stay R X Y whole run rises minute clock = acknowledges-on (λ (x : CardView). x.mark) minute clock (of_card X) (of_card Y) R (seen-coherent own_view X whole) run rises

pub inserted-marks : (given : List Entry) (now : ℕ) (X Y : State) → IsCoherent X → LeavesViews (of_card X) (of_card Y) (IsInserting AnyAdded given now) → (minute clock : ℕ) → HasMarked minute clock X → HasMarked minute clock Y
inserted-marks given now X Y whole run = marks-stay (IsInserting AnyAdded given now) X Y whole run (λ x y on i. inserting-rises AnyAdded given now x y i)

pub kept-marks : (e : Entry) (X Y : State) → IsCoherent X → ((x : CardView) → (of_card X).may_leave x → x.mark ≤ e.minute) → LeavesViews (of_card X) (of_card Y) (IsOnCard AnyAdded e) → (minute clock : ℕ) → HasMarked minute clock X → HasMarked minute clock Y
kept-marks e X Y whole late run = marks-stay (IsOnCard AnyAdded e) X Y whole run (λ x y on k. on_card-rises AnyAdded e x y (late x on) k)

pub closed-marks : (X Y : State) → IsCoherent X → LeavesViews (of_card X) (of_card Y) (IsClosing AnyAdded) → (minute clock : ℕ) → HasMarked minute clock X → HasMarked minute clock Y
closed-marks X Y whole run = marks-stay (IsClosing AnyAdded) X Y whole run (λ x y on k. closing-rises AnyAdded x y k)

pub read-marks : (X Y : State) → IsCoherent X → LeavesViews (of_card X) (of_card Y) Nothing → (minute clock : ℕ) → HasMarked minute clock X → HasMarked minute clock Y
read-marks X Y whole run = marks-stay Nothing X Y whole run (λ x y on never. absurd never)

-- WHAT WAS BROUGHT
pub torn-brought : (c : Card) (start : CardStart) (began session newest floor k : ℕ) (U : Seen UnitView) (X : Seen CardView) → k < floor → MeetsStanding c start began (Torn session newest floor) [] U X → IsRepaired c k U X
torn-brought c start began session newest floor k U X early stands u x on there =
    All-weaker (λ (e : Entry). floor ≤ e.minute) (λ e. k < e.minute) (λ e h. omega (arith, h, early)) (owed c u x) (stands.1 u x on there).recent

module _ (c : Card) (U V : Seen UnitView) (X : Seen CardView) where
  pub put-stays : (start : CardStart) (began : ℕ) (s : Standing) (e : Entry) → IsPresent start s e.minute → ((u : UnitView) → U.may_leave u → u.last < e.minute) → MeetsStanding c start began s [] U X → LeavesViews U V (IsPutting c e) → (k : ℕ) → IsRepaired c k U X → IsRepaired c k V X
  put-stays start began s e present late stands run k =
      repaired-unit c k U V X (IsPutting c e) run (λ u v x on there p. inl (owed-put c e u v x p (late u on) (near c start began s e.minute U X stands present u x on there)))

  pub put-beside_stays : (e : Entry) → LeavesViews U V (IsPutting c e) → (k : ℕ) → IsRepaired (other c) k U X → IsRepaired (other c) k V X
  put-beside_stays e run k = repaired-unit (other c) k U V X (IsPutting c e) run (λ u v x on there p. inl (owed-beside (other c) u v x (putting-beside c e u v p).0 (putting-beside c e u v p).1))

  pub commit-stays : (start : CardStart) (began : ℕ) (s : Standing) (i : HistoryMinute) (k : ℕ) → k < i.minute → 1440 ≤ i.minute → ((u : UnitView) → U.may_leave u → u.last < i.minute) → MeetsStanding c start began s [] U X → ((u : UnitView) → U.may_leave u → Cells c (on_card c i) u) → Fits c start s i →
      LeavesViews U V (IsKeeping KeepsMinute GivesUpDay i) → IsRepaired c k U X → IsRepaired c k V X
  commit-stays start began s i k behind day late stands cells fits run = repaired-unit c k U V X (IsKeeping KeepsMinute GivesUpDay i) run (λ u v x on there. ⊎_elim
      (λ (n : IsUnkept GivesUpDay i u v). inl (owed-beside c u v x n.last (row-same c u v n.rows)))
      (λ (n : IsKept KeepsMinute i u v). inr (i, behind, owed-grown KeepsMinute c start began s i U X stands cells fits day u v x on there (late u on) n)))

  pub begin-stays : (start : CardStart) (began session newest : ℕ) → IsEntered start began session newest X → ((u : UnitView) → U.may_leave u → u.last < session / 60) → LeavesViews U V (IsBeginning c) → (k : ℕ) → IsRepaired c k U X → IsRepaired c k V X
  begin-stays start began session newest entered late run k = repaired-unit c k U V X (IsBeginning c) run (λ u v x on there n. inl (none v x (subst (λ (m : ℕ). m < session / 60) (sym n.last) (late u on)) there ∙ sym (none u x (late u on) there)))
    where
      none : (w : UnitView) (x : CardView) → w.last < session / 60 → X.may_leave x → owed c w x ≡ []
      none w x early there = ap (λ (s : ℕ). owed_in (row c w) w.last s x.mark) (entered.session x there) ∙ owed-new (row c w) w.last session x.mark early

  pub begin-beside_stays : LeavesViews U V (IsBeginning c) → (k : ℕ) → IsRepaired (other c) k U X → IsRepaired (other c) k V X
  begin-beside_stays run k = repaired-unit (other c) k U V X (IsBeginning c) run (λ u v x on there n. inl (owed-beside (other c) u v x n.last n.other))

  pub mend-stays : LeavesViews U V IsMending → (k : ℕ) → IsRepaired c k U X → IsRepaired c k V X
  mend-stays run k = repaired-unit c k U V X IsMending run (λ u v x on there n. inl (owed-mend c u v x n))

  pub note-stays : LeavesViews U V IsBeside → (k : ℕ) → IsRepaired c k U X → IsRepaired c k V X
  note-stays run k = repaired-unit c k U V X IsBeside run (λ u v x on there n. inl (owed-beside c u v x n.last (row-same c u v n.rows)))

module _ (c : Card) (U : Seen UnitView) (X Y : Seen CardView) where
  pub insert-stays : (given : List Entry) (now : ℕ) → ((u : UnitView) (x : CardView) → U.may_leave u → X.may_leave x → given ≡ owed c u x) → ((u : UnitView) → U.may_leave u → u.last < now / 60) → LeavesViews X Y (IsInserting AnyAdded given now) →
      (k : ℕ) → IsRepaired c k U X → IsRepaired c k U Y
  insert-stays given now owes late run k = repaired-card c k U X Y (IsInserting AnyAdded given now) run (λ u x y on there n.
      let i : IsInserting AnyAdded (owed c u x) now x y = subst (λ (zs : List Entry). IsInserting AnyAdded zs now x y) (owes u x on there) n in
      (i.count, owed-insert AnyAdded c now u x y i (late u on)))

  pub keep-stays : (start : CardStart) (began session newest : ℕ) (e : Entry) → newest ≤ e.minute → MeetsStanding c start began (In session newest) (e ∷ []) U X → LeavesViews X Y (IsOnCard AnyAdded e) → (k : ℕ) → IsRepaired c k U X → IsRepaired c k U Y
  keep-stays start began session newest e late stands run k = repaired-card c k U X Y (IsOnCard AnyAdded e) run (λ u x y on there n.
      let i = stands.2 u x on there in ⊎_elim
      (λ old. (0, owed-unmoved c start AnyKept AnyAdded any-goes u x y n.session old.0))
      (λ new. (1, owed-on_card c start AnyKept AnyAdded any-goes e u x y n.session new.0 (omega (arith, i.open_.mark, late)) i.due_ ∙ sym (ap (drop 1) i.due_))) n.side)

  pub close-stays : (start : CardStart) (began session newest : ℕ) → MeetsStanding c start began (In session newest) [] U X → LeavesViews X Y (IsClosing AnyAdded) → (k : ℕ) → IsRepaired c k U X → IsRepaired c k U Y
  close-stays start began session newest stands run k = repaired-card c k U X Y (IsClosing AnyAdded) run (λ u x y on there n.
      let none = (stands.2 u x on there).due_ in (0, owed-close AnyAdded c u x y n none ∙ sym none))

  pub read-stays : LeavesViews X Y Nothing → (k : ℕ) → IsRepaired c k U X → IsRepaired c k U Y
  read-stays run k = repaired-card c k U X Y Nothing run (λ u x y on there never. absurd never)
