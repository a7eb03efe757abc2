-- The unit's rule, kept by each kind of step on the unit.
use Rattle.std.proofs.Common.{◌≡◌, inl, inr, ⊎_elim, ℕ, suc, ◌<◌, ◌≤◌, true, Option, Some, None, List, [], ◌∷◌, ◌++◌, All, refl, ap, subst, ◌∙◌, sym, arith}
use Rattle.std.proofs.lemmas.List.Elements.{All-weaker, All-append}
use Rattle.std.proofs.lemmas.List.{append-nil}
use Rattle.activity_codec.specs.declared.entries.Entry.{Entry}
use Rattle.trace_model.specs.declared.Card.{Card}
use Rattle.history_model.specs.Minutes.{up_to, HistoryMinute}
use Rattle.device_rule.specs.Views.{UnitView, row}
use Rattle.device_rule.specs.Device.{Seen, LeavesViews, EndsWith, Nothing}
use Rattle.device_rule.specs.Steps.{IsKept, IsUnkept, IsKeeping, IsPutting, cleared, owing, IsBeginning, IsMending}
use Rattle.history_model.specs.Book.{IsMark, Book, all, kept, broken, found, IsReached, IsNext, Ordered}
use Rattle.device_rule.specs.Rules.{Shows, Showed, UnitHolds, UnitRule, DaysGoOn, IsBefore}
use Rattle.history_model.proofs.Filters.{all-one}
use Rattle.device_rule.proofs.Owing.{days-with, last-with}
use Rattle.history_model.proofs.Books.{all-none, all-kept, all-found, up_to-whole, up_to-twice, up_to-before, up_to-within, reached-shown, reached-kept, reached-broken, reached-done, reached-found, next-goes, ordered-kept, ordered-broken, ordered-found, next-earlier, mark-earlier, mark-more, mark-last, mark-up_to}
use Rattle.unit_model.specs.Days.{ShownDay}

module _ (Fills : Option HistoryMinute → List HistoryMinute → List ShownDay → Type 0) (first : ℕ) where
  pub showed-shown : (b : Book) (u : UnitView) → Shows Fills first b u → Showed Fills first b u
  showed-shown b u s = record {
    past = up_to u.last (all b);
    next = s.next;
    reached = reached-shown b u.last s.sure;
    comes = s.comes;
    days = s.days;
    mark = mark-up_to first (all b) u.last s.mark;
    until = up_to-within u.last (all b);
  }

  pub showed-goes : (b d : Book) (u : UnitView) → ((past : List HistoryMinute) → IsReached b past → IsReached d past) → Showed Fills first b u → Showed Fills first d u
  showed-goes b d u goes s = record {
    past = s.past;
    next = s.next;
    reached = goes s.past s.reached;
    comes = next-goes b d goes s.past s.next s.comes;
    days = s.days;
    mark = s.mark;
    until = s.until;
  }

  -- a step beside the minutes
  pub shows-aside : (b : Book) (u v : UnitView) → v.days ≡ u.days → v.last ≡ u.last → Shows Fills first b u → Shows Fills first b v
  shows-aside b u v days last s = record {
    next = s.next;
    comes = subst (λ (k : ℕ). IsNext b (up_to k (all b)) s.next) (sym last) s.comes;
    days = subst (λ (k : ℕ). Fills s.next (up_to k (all b)) v.days) (sym last) (subst (Fills s.next (up_to u.last (all b))) (sym days) s.days);
    sure = subst (λ (k : ℕ). All (λ (i : HistoryMinute). i.minute ≤ k) b.sure) (sym last) s.sure;
    mark = subst (IsMark first (all b)) (sym last) s.mark;
  }

  -- the unit goes on, to a history that goes on
  pub unit-goes : {U V : Seen UnitView} (R : UnitView → UnitView → Type 0) (began due later : ℕ) (b d : Book) → UnitHolds Fills first began due b U → LeavesViews U V R → Ordered first later d →
      ((v : UnitView) → V.may_leave v → Shows Fills first d v) → ((u v : UnitView) → U.may_leave u → R u v → Showed Fills first d v) → ((past : List HistoryMinute) → IsReached b past → IsReached d past) →
      UnitHolds Fills first began later d V
  unit-goes {U} {V} R began due later b d holds run order now new reached = record {
    later = omega (arith, holds.later, run.later);
    order = order;
    now = now;
    since = λ v on. ⊎_elim (λ was. showed-goes b d v reached (holds.since v was)) (λ here. new here.0 v here.1 here.2) (run.since began v holds.later on);
  }

  -- a step beside the minutes, at each moment
  pub unit-aside : {U V : Seen UnitView} (R : UnitView → UnitView → Type 0) (began due : ℕ) (b : Book) → UnitHolds Fills first began due b U → LeavesViews U V R →
      ((u v : UnitView) → R u v → (v.days ≡ u.days) × (v.last ≡ u.last)) → UnitHolds Fills first began due b V
  unit-aside {U} {V} R began due b holds run aside = unit-goes R began due due b b holds run holds.order
      (λ v on. ⊎_elim (λ was. holds.now v was) (λ here. shows here.0 v here.1 here.2) (run.now v on))
      (λ u v on here. showed-shown b v (shows u v on here)) (λ past was. was)
    where
      shows : (u v : UnitView) → U.may_leave u → R u v → Shows Fills first b v
      shows u v on here = shows-aside b u v (aside u v here).0 (aside u v here).1 (holds.now u on)

  -- CALLS THAT ONLY READ
  pub read-unit : {U V : Seen UnitView} (began due : ℕ) (b : Book) → UnitHolds Fills first began due b U → LeavesViews U V Nothing → UnitHolds Fills first began due b V
  read-unit {U} {V} began due b holds run = unit-aside Nothing began due b holds run (λ u v none. absurd none)

  -- PUT_OWED, BEGIN_OWED, MEND
  pub putting-aside : (c : Card) (e : Entry) (u v : UnitView) → IsPutting c e u v → (v.days ≡ u.days) × (v.last ≡ u.last)
  putting-aside c e u v (inl is) = (ap (λ (w : UnitView). w.days) is, ap (λ (w : UnitView). w.last) is)
  putting-aside c e u v (inr (inl is)) = (ap (λ (w : UnitView). w.days) is ∙ days-with c (cleared e (row c u)) u, ap (λ (w : UnitView). w.last) is ∙ last-with c (cleared e (row c u)) u)
  putting-aside c e u v (inr (inr is)) = (ap (λ (w : UnitView). w.days) is ∙ days-with c (owing e (row c u)) u, ap (λ (w : UnitView). w.last) is ∙ last-with c (owing e (row c u)) u)

  pub putting-unit : {U V : Seen UnitView} (began due : ℕ) (b : Book) (c : Card) (e : Entry) → UnitHolds Fills first began due b U → LeavesViews U V (IsPutting c e) → UnitHolds Fills first began due b V
  putting-unit {U} {V} began due b c e holds run = unit-aside (IsPutting c e) began due b holds run (putting-aside c e)

  pub beginning-unit : {U V : Seen UnitView} (began due : ℕ) (b : Book) (c : Card) → UnitHolds Fills first began due b U → LeavesViews U V (IsBeginning c) → UnitHolds Fills first began due b V
  beginning-unit {U} {V} began due b c holds run = unit-aside (IsBeginning c) began due b holds run (λ u v here. (here.days, here.last))

  pub mending-unit : {U V : Seen UnitView} (began due : ℕ) (b : Book) → UnitHolds Fills first began due b U → LeavesViews U V IsMending → UnitHolds Fills first began due b V
  mending-unit {U} {V} began due b holds run = unit-aside IsMending began due b holds run (λ u v here. (here.days, here.last))

  -- KEEP of the unit
  module _ (Adds Gives : HistoryMinute → List ShownDay → List ShownDay → Type 0) (law : DaysGoOn Fills Adds Gives) where
    module _ (due : ℕ) (b : Book) (i : HistoryMinute) (none : b.maybe ≡ None) (order : Ordered first due b) (late : due ≤ i.minute) where
      before-it : (past : List HistoryMinute) (next : Option HistoryMinute) → IsNext b past next → IsBefore next i
      before-it past None next = tt
      before-it past (Some j) next = omega (arith, next-earlier first due b past j order next, late)

      pub last-earlier : (u : UnitView) → Shows Fills first b u → u.last < i.minute
      last-earlier u s = omega (arith, mark-earlier first due b u.last order s.mark, late)

      -- all minutes, without the new one
      olds : (u : UnitView) → Shows Fills first b u → up_to u.last (all b) ≡ b.sure
      olds u s = ap (up_to u.last) (all-none b none) ∙ up_to-whole u.last b.sure s.sure

      pub shows-unkept : (u v : UnitView) → IsUnkept Gives i u v → Shows Fills first b u → Shows Fills first (broken i b) v
      shows-unkept u v k s = ⊎_elim
          (λ same. shows s.next (next-goes b (broken i b) (λ past was. reached-broken b i past none was) b.sure s.next comes) (subst (Fills s.next b.sure) (sym same) days))
          (λ gives. shows (Some i) (inl ([], sym (append-nil (b.sure ++ i ∷ [])))) (law.given s.next b.sure i u.days v.days days (before-it b.sure s.next comes) gives)) k.days
        where
          comes : IsNext b b.sure s.next
          comes = subst (λ (zs : List HistoryMinute). IsNext b zs s.next) (olds u s) s.comes

          days : Fills s.next b.sure u.days
          days = subst (λ (zs : List HistoryMinute). Fills s.next zs u.days) (olds u s) s.days

          still : b.sure ≡ up_to v.last (all (broken i b))
          still = sym (up_to-before v.last b.sure i (omega (arith, k.last, last-earlier u s)) ∙ up_to-whole v.last b.sure (subst (λ (n : ℕ). All (λ (j : HistoryMinute). j.minute ≤ n) b.sure) (sym k.last) s.sure))

          shows : (next : Option HistoryMinute) → IsNext (broken i b) b.sure next → Fills next b.sure v.days → Shows Fills first (broken i b) v
          shows next comes days = record {
            next = next;
            comes = subst (λ (zs : List HistoryMinute). IsNext (broken i b) zs next) still comes;
            days = subst (λ (zs : List HistoryMinute). Fills next zs v.days) still days;
            sure = subst (λ (n : ℕ). All (λ (j : HistoryMinute). j.minute ≤ n) b.sure) (sym k.last) s.sure;
            mark = subst (IsMark first (b.sure ++ i ∷ [])) (sym k.last) (mark-more first b.sure (i ∷ []) u.last (subst (λ (zs : List HistoryMinute). IsMark first zs u.last) (all-none b none) s.mark));
          }

      -- all minutes are up to the new one
      all-with : (u : UnitView) → Shows Fills first b u → All (λ (j : HistoryMinute). j.minute ≤ i.minute) (b.sure ++ i ∷ [])
      all-with u s = All-append (λ (j : HistoryMinute). j.minute ≤ i.minute) b.sure (i ∷ []) (All-weaker (λ (j : HistoryMinute). j.minute ≤ u.last) (λ j. j.minute ≤ i.minute) (λ j h. omega (arith, h, last-earlier u s)) b.sure s.sure)
          (all-one (λ (j : HistoryMinute). j.minute ≤ i.minute) i (omega arith))

      pub up_to-with : (u v : UnitView) → v.last ≡ i.minute → Shows Fills first b u → up_to v.last (b.sure ++ i ∷ []) ≡ b.sure ++ i ∷ []
      up_to-with u v last s = up_to-whole v.last (b.sure ++ i ∷ []) (subst (λ (n : ℕ). All (λ (j : HistoryMinute). j.minute ≤ n) (b.sure ++ i ∷ [])) (sym last) (all-with u s))

      added : (u v : UnitView) → IsKept Adds i u v → Shows Fills first b u → Fills None (up_to v.last (b.sure ++ i ∷ [])) v.days
      added u v k s = subst (λ (zs : List HistoryMinute). Fills None zs v.days) (sym (up_to-with u v k.last s))
          (law.added s.next b.sure i u.days v.days (subst (λ (zs : List HistoryMinute). Fills s.next zs u.days) (olds u s) s.days) (before-it (up_to u.last (all b)) s.next s.comes) k.days)

      pub shows-kept : (u v : UnitView) → IsKept Adds i u v → Shows Fills first b u → Shows Fills first (kept i b) v
      shows-kept u v k s = record {
        next = None;
        comes = tt;
        days = subst (λ (zs : List HistoryMinute). Fills None (up_to v.last zs) v.days) (sym (all-kept i b)) (added u v k s);
        sure = subst (λ (n : ℕ). All (λ (j : HistoryMinute). j.minute ≤ n) (b.sure ++ i ∷ [])) (sym k.last) (all-with u s);
        mark = subst (λ (zs : List HistoryMinute). IsMark first zs v.last) (sym (all-kept i b)) (mark-last first b.sure i v.last k.last);
      }

      pub shows-begun : (u v : UnitView) → IsKept Adds i u v → Shows Fills first b u → Shows Fills first (broken i b) v
      shows-begun u v k s = record {
        next = None;
        comes = tt;
        days = added u v k s;
        sure = All-weaker (λ (j : HistoryMinute). j.minute ≤ u.last) (λ j. j.minute ≤ v.last) (λ j h. omega (arith, h, last-earlier u s, k.last)) b.sure s.sure;
        mark = mark-last first b.sure i v.last k.last;
      }

      pub shows-still : (u : UnitView) → Shows Fills first b u → Shows Fills first (broken i b) u
      shows-still u s = shows-unkept u u (record { rows = record { row_a = refl; row_b = refl }; last = refl; days = inl refl }) s

      pub shows-keeping : (u v : UnitView) → IsKeeping Adds Gives i u v → Shows Fills first b u → Shows Fills first (broken i b) v
      shows-keeping u v (inl k) s = shows-unkept u v k s
      shows-keeping u v (inr k) s = shows-begun u v k s

    -- at its end
    pub keep-unit : {U V : Seen UnitView} (began due : ℕ) (b : Book) (i : HistoryMinute) → UnitRule Fills first began due b U → due ≤ i.minute → LeavesViews U V (IsKeeping Adds Gives i) → EndsWith U V (IsKept Adds i) →
        UnitRule Fills first began (suc i.minute) (kept i b) V
    keep-unit {U} {V} began due b i rule late run ends = record {
      works = ends.works;
      none = refl;
      holds = unit-goes (IsKeeping Adds Gives i) began due (suc i.minute) b (kept i b) rule.holds run (ordered-kept first due b i rule.none late rule.holds.order)
          (λ v on. let was = ends.now v on in shows-kept due b i rule.none rule.holds.order late was.0 v was.2 (rule.holds.now was.0 was.1))
          (λ u v on here. showed-goes (broken i b) (kept i b) v (λ past was. reached-done b i past was) (showed-shown (broken i b) v (shows-keeping due b i rule.none rule.holds.order late u v here (rule.holds.now u on))))
          (λ past was. reached-kept b i past rule.none was);
    }

    -- where power was lost in it
    pub keep-unit_dark : {U V : Seen UnitView} (began due : ℕ) (b : Book) (i : HistoryMinute) → UnitRule Fills first began due b U → due ≤ i.minute → LeavesViews U V (IsKeeping Adds Gives i) →
        UnitHolds Fills first began (suc i.minute) (broken i b) V
    keep-unit_dark {U} {V} began due b i rule late run =
        unit-goes (IsKeeping Adds Gives i) began due (suc i.minute) b (broken i b) rule.holds run (ordered-broken first due b i rule.none late rule.holds.order)
        (λ v on. ⊎_elim (λ was. shows-still due b i rule.none rule.holds.order late v (rule.holds.now v was)) (λ here. shows-keeping due b i rule.none rule.holds.order late here.0 v here.2 (rule.holds.now here.0 here.1)) (run.now v on))
        (λ u v on here. showed-shown (broken i b) v (shows-keeping due b i rule.none rule.holds.order late u v here (rule.holds.now u on)))
        (λ past was. reached-broken b i past rule.none was)

  -- POWER IS BACK: the mark tells which side of the keep it is
  pub found-unit : {U V : Seen UnitView} (began due k : ℕ) (b : Book) → UnitHolds Fills first began due b U → LeavesViews U V Nothing → V.works ≡ true → ((v : UnitView) → V.may_leave v → v.last ≡ k) → All (λ i. i.minute ≤ k) b.sure →
      UnitRule Fills first began due (found k b) V
  found-unit {U} {V} began due k b holds run works is sure = record {
    works = works;
    none = refl;
    holds = unit-goes Nothing began due due b (found k b) holds run (ordered-found first due k b sure holds.order)
        (λ v on. shows v (is v on) (⊎_elim (λ was. holds.now v was) (λ never. absurd never.2) (run.now v on)))
        (λ u v on never. absurd never) (λ past was. reached-found b k past sure was);
  }
    where
      shows : (v : UnitView) → v.last ≡ k → Shows Fills first b v → Shows Fills first (found k b) v
      shows v last s = record {
        next = s.next;
        comes = next-goes b (found k b) (λ past was. reached-found b k past sure was) (up_to v.last (all (found k b))) s.next (subst (λ (zs : List HistoryMinute). IsNext b zs s.next) (sym same) s.comes);
        days = subst (λ (zs : List HistoryMinute). Fills s.next zs v.days) (sym same) s.days;
        sure = subst (λ (n : ℕ). All (λ (i : HistoryMinute). i.minute ≤ n) (up_to k (all b))) (sym last) (up_to-within k (all b));
        mark = subst (λ (zs : List HistoryMinute). IsMark first zs v.last) (sym (all-found k b)) (subst (λ (n : ℕ). IsMark first (up_to n (all b)) v.last) last (mark-up_to first (all b) v.last s.mark));
      }
        where
          same : up_to v.last (all (found k b)) ≡ up_to v.last (all b)
          same = ap (up_to v.last) (all-found k b) ∙ ap (λ (n : ℕ). up_to v.last (up_to n (all b))) (sym last) ∙ up_to-twice v.last (all b)

  -- the sure minutes are there
  pub sure-found : {U V : Seen UnitView} (began due k : ℕ) (b : Book) (v : UnitView) → UnitHolds Fills first began due b U → LeavesViews U V Nothing → V.may_leave v → v.last ≡ k → All (λ i. i.minute ≤ k) b.sure
  sure-found {U} {V} began due k b v holds run on is = subst (λ (n : ℕ). All (λ (i : HistoryMinute). i.minute ≤ n) b.sure) is (⊎_elim (λ was. (holds.now v was).sure) (λ never. absurd never.2) (run.now v on))
