-- What an acceptance has brought is owed no more, and no step takes a mark back.
use Rattle.std.proofs.Common.{◌≡◌, ◌⊎◌, ⊎_elim, ℕ, ◌<◌, ◌≤◌, List, [], ◌++◌, All, Contains, subst, sym, arith, drop}
use Rattle.std.proofs.lemmas.List.Elements.{All-append, All-nil, All-drop, All-weaker, All-contains, Contains-append_cases}
use Rattle.activity_codec.specs.declared.entries.Entry.{Entry}
use Rattle.trace_model.specs.declared.Card.{Card}
use Rattle.history_model.specs.Minutes.{HistoryMinute, up_to, on_card, card_history}
use Rattle.history_model.specs.Presence.{CardStart}
use Rattle.card_image.specs.View.{CardView, Held}
use Rattle.device_rule.specs.Views.{UnitView, owed}
use Rattle.device_rule.specs.Device.{Seen, LeavesViews}
use Rattle.device_rule.specs.Steps.{IsInserting, IsOnCard, IsClosing}
use Rattle.device_rule.specs.Rules.{Meets, Standing, MeetsStanding, In, IsRepaired}
use Rattle.history_model.proofs.Books.{on_card-minute}

-- REPAIR
-- an accepted card is owed nothing
pub repaired-in : (c : Card) (start : CardStart) (began s newest k : ℕ) (U : Seen UnitView) (X : Seen CardView) → MeetsStanding c start began (In s newest) [] U X → IsRepaired c k U X
repaired-in c start began s newest k U X stands u x on there = subst (All (λ (e : Entry). k < e.minute)) (sym (stands.2 u x on there).due_) (All-nil (λ (e : Entry). k < e.minute))

-- the unit goes on: what is owed stays, or is joined by a later minute's entry
pub repaired-unit : (c : Card) (k : ℕ) (U V : Seen UnitView) (X : Seen CardView) (R : UnitView → UnitView → Type 0) → LeavesViews U V R →
    ((u v : UnitView) (x : CardView) → U.may_leave u → X.may_leave x → R u v → (owed c v x ≡ owed c u x) ⊎ ((i : HistoryMinute) × (k < i.minute) × (owed c v x ≡ owed c u x ++ on_card c i))) → IsRepaired c k U X → IsRepaired c k V X
repaired-unit c k U V X R run step r v x on there = ⊎_elim (λ was. r v x was there) (λ here. ⊎_elim
    (λ same. subst (All (λ (e : Entry). k < e.minute)) (sym same) (r here.0 x here.1 there))
    (λ more. subst (All (λ (e : Entry). k < e.minute)) (sym more.2) (All-append (λ (e : Entry). k < e.minute) (owed c here.0 x) (on_card c more.0) (r here.0 x here.1 there)
    (All-weaker (λ (e : Entry). e.minute ≡ more.0.minute) (λ e. k < e.minute) (λ e is. omega (arith, is, more.1)) (on_card c more.0) (on_card-minute c more.0))))
    (step here.0 v x here.1 there here.2)) (run.now v on)

-- the card goes on: what is owed stays, but for a front of it
pub repaired-card : (c : Card) (k : ℕ) (U : Seen UnitView) (X Y : Seen CardView) (R : CardView → CardView → Type 0) → LeavesViews X Y R →
    ((u : UnitView) (x y : CardView) → U.may_leave u → X.may_leave x → R x y → (n : ℕ) × (owed c u y ≡ drop n (owed c u x))) → IsRepaired c k U X → IsRepaired c k U Y
repaired-card c k U X Y R run step r u y on there = ⊎_elim (λ was. r u y on was) (λ here.
    let left = step u here.0 y on here.1 here.2 in
    subst (All (λ (e : Entry). k < e.minute)) (sym left.1) (All-drop (λ (e : Entry). k < e.minute) left.0 (owed c u here.0) (r u here.0 on here.1))) (run.now y there)

-- at the end, the expected entries up to that minute have been on the card
pub repaired-holds : (c : Card) (start : CardStart) (Keeps : ℕ → List Entry → Held → Type 0) (k : ℕ) (past : List HistoryMinute) (s : Standing) (U : Seen UnitView) (X : Seen CardView) (e : Entry) → IsRepaired c k U X → (u : UnitView) (x : CardView) → U.may_leave u → X.may_leave x →
    (m : Meets c start Keeps past s u x) → Contains (start.owed ++ card_history c (up_to u.last past)) e → e.minute ≤ k → Contains m.more e
repaired-holds c start Keeps k past s U X e r u x on there m at le = ⊎_elim (λ in_. in_)
    (λ lacked. absurd (omega (arith, le, All-contains (λ (d : Entry). k < d.minute) (owed c u x) e (r u x on there) lacked)))
    (Contains-append_cases m.more (owed c u x) e (subst (λ (zs : List Entry). Contains zs e) (sym m.whole) at))

pub inserting-rises : (Adds : ℕ → Held → List Entry → Held → Type 0) (given : List Entry) (now : ℕ) (x y : CardView) → IsInserting Adds given now x y → x.mark ≤ y.mark
inserting-rises Adds given now x y i = i.mark

pub on_card-rises : (Adds : ℕ → Held → List Entry → Held → Type 0) (e : Entry) (x y : CardView) → x.mark ≤ e.minute → IsOnCard Adds e x y → x.mark ≤ y.mark
on_card-rises Adds e x y late k = ⊎_elim (λ old. omega (arith, old.0)) (λ new. omega (arith, new.0, late)) k.side

pub closing-rises : (Adds : ℕ → Held → List Entry → Held → Type 0) (x y : CardView) → IsClosing Adds x y → x.mark ≤ y.mark
closing-rises Adds x y k = k.mark
