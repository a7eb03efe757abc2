-- A card is inserted, its row is begun, it is closed or torn out; power comes back.
use Rattle.std.proofs.Common.{◌≡◌, inl, inr, ⊎_elim, ℕ, ◌/◌, ◌<◌, ◌≤◌, max, true, None, List, [], ◌++◌, All, refl, ap, subst, ◌∙◌, sym, arith, filter, nat_le}
use Rattle.std.proofs.lemmas.Bool.Decides.{nat_tests}
use Rattle.std.proofs.lemmas.List.Elements.{All-weaker, All-nil, filter_passes}
use Rattle.std.proofs.lemmas.List.{append-nil}
use Rattle.activity_codec.specs.declared.entries.Entry.{Entry}
use Rattle.trace_model.specs.declared.Card.{Card}
use Rattle.history_model.specs.Minutes.{up_to, HistoryMinute, card_history}
use Rattle.history_model.specs.Presence.{CardStart, trimmed_by}
use Rattle.card_image.specs.View.{CardView, Held}
use Rattle.device_rule.specs.Views.{UnitView, row, other, owed, owed_in, newest_with, beyond}
use Rattle.device_rule.specs.Device.{Seen, LeavesViews, EndsWith, Nothing}
use Rattle.device_rule.specs.Steps.{IsBeginning, IsBegun, IsMending, IsMended, settled_cells, IsInserting, IsInserted, IsClosing, replayed}
use Rattle.history_model.specs.Book.{Book, all, found}
use Rattle.device_rule.specs.Rules.{Meets, Standing, Out, In, Torn, CardDark, CardRule, IsEntered, EntriesGoOn}
use Rattle.device_rule.proofs.Owing.{owed-new, owed-mend, replayed-owed}
use Rattle.history_model.proofs.Books.{all-none, all-found, up_to-whole, up_to-all, up_to-one, up_to-twice}
use Rattle.device_rule.proofs.Pairs.{meets-owed, meets-insert, meets-close, meets-out, meets-accepted, meets-torn, mark-newest, beyond-low}
use Rattle.device_rule.proofs.CardLaws.{had-settled, dark-unit, dark-card, dark-beside, rule-beside}
use Rattle.unit_owed.specs.Owed.{Row}

module _ (c : Card) (start : CardStart) (Keeps : ℕ → List Entry → Held → Type 0) (began : ℕ) (b : Book) where
  -- INSERT
  module _ (Adds : ℕ → Held → List Entry → Held → Type 0) (law : EntriesGoOn Keeps Adds) {U : Seen UnitView} {X : Seen CardView} (given : List Entry) (now newest : ℕ) (none : b.maybe ≡ None)
      (sure : (u : UnitView) → U.may_leave u → All (λ j. j.minute ≤ u.last) b.sure) (late : (u : UnitView) → U.may_leave u → u.last < now / 60)
      (asked : (u : UnitView) (x : CardView) → U.may_leave u → X.may_leave x → given ≡ owed c u x) (rule : CardRule c start Keeps began b Out [] [] U X) where
    step : (u : UnitView) (x y : CardView) → U.may_leave u → X.may_leave x → IsInserting Adds given now x y → Meets c start Keeps (all b) Out u x → Meets c start Keeps (all b) Out u y
    step u x y on there i m = meets-insert c start Keeps Adds law (all b) now u x y (subst (λ (zs : List Entry). IsInserting Adds zs now x y) (asked u x on there) i) (late u on) m

    -- at each moment
    pub insert-dark : {Y : Seen CardView} (u : UnitView) → U.may_leave u → LeavesViews X Y (IsInserting Adds given now) → CardDark c start Keeps began b Out U Y
    insert-dark {Y} u on run = dark-card c start Keeps (IsInserting Adds given now) began b Out Out u on none (sure u on) rule.dark run (λ u x on there m. m) step

    pub insert-card : {Y : Seen CardView} (u : UnitView) → U.may_leave u → LeavesViews X Y (IsInserting Adds given now) → CardRule c start Keeps began b Out [] [] U Y
    insert-card {Y} u on run = record { dark = insert-dark u on run; cells = rule.cells; stands = tt }

    -- the newest minute of what is expected of the card
    of-pair : (u : UnitView) (x : CardView) → U.may_leave u → Meets c start Keeps (all b) Out u x → newest_with x (owed c u x) ≡ trimmed_by start (start.entries ++ (start.owed ++ card_history c b.sure))
    of-pair u x on m = m.newest ∙ ap (λ (zs : List Entry). trimmed_by start (start.entries ++ zs))
        (m.whole ∙ ap (λ (zs : List HistoryMinute). start.owed ++ card_history c zs) (ap (up_to u.last) (all-none b none) ∙ up_to-whole u.last b.sure (sure u on)))

    answered : (u : UnitView) (x y : CardView) → U.may_leave u → X.may_leave x → IsInserted Adds given now newest x y → trimmed_by start (start.entries ++ (start.owed ++ card_history c b.sure)) ≤ newest
    answered u x y on there k =
        let whole : newest_with x (replayed given x) ≡ trimmed_by start (start.entries ++ (start.owed ++ card_history c b.sure)) =
        ap (λ (zs : List Entry). newest_with x (replayed zs x)) (asked u x on there) ∙ ap (newest_with x) (replayed-owed c u x) ∙ of-pair u x on (rule.dark.meets u x on there) in
        above (beyond x) (newest_with x (replayed given x)) _ newest k.answered whole
      where
        above : (p q t n : ℕ) → n ≡ max p q → q ≡ t → t ≤ n
        above p q t n is same = omega (arith, is, same)

    -- at its end
    pub insert-entered : {Y : Seen CardView} (u : UnitView) (z : CardView) → U.may_leave u → Y.may_leave z → LeavesViews X Y (IsInserting Adds given now) → EndsWith X Y (IsInserted Adds given now newest) → IsEntered start began now newest Y
    insert-entered {Y} u z on left run ends = record {
      works = ends.works;
      no_later = λ y there. let bound = ((insert-dark u on run).since y there).bound in omega (arith, bound, top);
      session = λ y there. (ends.now y there).2.session;
      mark = λ y there. let was = ends.now y there in let m = step u was.0 y on was.1 was.2.inserting (rule.dark.meets u was.0 on was.1) in omega (arith, mark-newest c u y m.bound, of-pair u y on m, top);
      words = λ y there. let was = ends.now y there in ⊎_elim
          (λ cut. omega (arith, cut))
          (λ three. omega (arith, (rule.dark.meets u was.0 on was.1).words three.0, three.1, three.2)) was.2.words;
      answered = λ y there. let was = ends.now y there in let m = rule.dark.meets u was.0 on was.1 in let k = was.2 in
          let after = step u was.0 y on was.1 k.inserting m in
          let none : owed c u y ≡ [] = ap (λ (s : ℕ). owed_in (row c u) u.last s y.mark) k.session ∙ owed-new (row c u) u.last now y.mark (late u on) in
          let expected : y.newest ≡ trimmed_by start (start.entries ++ (start.owed ++ card_history c b.sure)) = ap (newest_with y) (sym none) ∙ of-pair u y on after in
          let same : newest_with was.0 (replayed given was.0) ≡ newest_with was.0 (owed c u was.0) = ap (λ (zs : List Entry). newest_with was.0 (replayed zs was.0)) (asked u was.0 on was.1) ∙ ap (newest_with was.0) (replayed-owed c u was.0) in
          let both : newest_with was.0 (owed c u was.0) ≡ y.newest = of-pair u was.0 on m ∙ sym expected in
          within (beyond was.0) (newest_with was.0 (replayed given was.0)) newest start.word y.newest k.answered (same ∙ both) (subst (λ (n : ℕ). beyond was.0 ≤ max start.word n) both (beyond-low c start u was.0 m.words));
    }
      where
        within : (p q n w t : ℕ) → n ≡ max p q → q ≡ t → p ≤ max w t → (t ≤ n) × (n ≤ max w t)
        within p q n w t is same low = (omega (arith, is, same), omega (arith, is, same, low))

        top : trimmed_by start (start.entries ++ (start.owed ++ card_history c b.sure)) ≤ newest
        top = let was = ends.now z left in answered u was.0 z on was.1 was.2

  -- BEGIN_OWED: nothing is owed to a session that began after the last-kept minute
  module _ {U V : Seen UnitView} {X : Seen CardView} (session newest : ℕ) (late : (u : UnitView) → U.may_leave u → u.last < session / 60) (entered : IsEntered start began session newest X) (run : LeavesViews U V (IsBeginning c)) where
    owes-none : (u v : UnitView) (x : CardView) → U.may_leave u → v.last ≡ u.last → X.may_leave x → owed c v x ≡ []
    owes-none u v x on last there = ap (λ (s : ℕ). owed_in (row c v) v.last s x.mark) (entered.session x there) ∙ owed-new (row c v) v.last session x.mark (subst (λ (n : ℕ). n < session / 60) (sym last) (late u on))

    pub begin-dark : CardDark c start Keeps began b Out U X → CardDark c start Keeps began b Out V X
    begin-dark dark = dark-unit c start Keeps (IsBeginning c) began b Out dark run (λ u v x on here there m.
        meets-owed c start Keeps (all b) (all b) Out u v x (owes-none u v x on here.last there ∙ sym (owes-none u u x on refl there)) (ap (λ (k : ℕ). up_to k (all b)) here.last) m)

    pub begin-card : ((next n : ℕ) (full : List Entry) (h : Held) → next ≤ n → Keeps next full h → Keeps n full h) → EndsWith U V (IsBegun c session) → 0 < session → CardRule c start Keeps began b Out [] [] U X → CardRule c start Keeps began b (In session newest) [] [] V X
    begin-card later ends positive rule = record {
      dark = record {
        meets = λ v x on there. let was = ends.now v on in
            meets-accepted c start Keeps (all b) session newest v x (λ full next n. later next n full x.held) (owes-none was.0 v x was.1 was.2.beginning.last there) (entered.answered x there).0 (entered.answered x there).1
            ((begin-dark rule.dark).meets v x on there);
        later = rule.dark.later;
        since = rule.dark.since;
      };
      cells = λ v on. let was = ends.now v on in record { olds = []; cells = ap (λ (r : Row). r.cells) was.2.taken; kept = All-nil (λ (e : Entry). e.minute ≤ v.last) };
      stands = (
        entered.works,
        entered.no_later,
        λ v x on there. let was = ends.now v on in
            record {
              open_ = record { opened = positive; same = entered.session x there; taken = ap (λ (r : Row). r.session) was.2.taken; mark = entered.mark x there; recent = λ k d lt. omega arith };
              due_ = owes-none was.0 v x was.1 was.2.beginning.last there;
              words = entered.words x there;
            },
      );
    }

  pub begin-other : {U V : Seen UnitView} {Z : Seen CardView} (z : Standing) (m d : List Entry) → LeavesViews U V (IsBeginning c) → CardRule (other c) start Keeps began b z m d U Z → CardRule (other c) start Keeps began b z m d V Z
  begin-other {U} {V} {Z} z m d run rule = rule-beside (other c) start Keeps (IsBeginning c) began b z m d run (λ u v here. (here.last, here.other)) rule

  pub begin-other_dark : {U V : Seen UnitView} {Z : Seen CardView} (z : Standing) → LeavesViews U V (IsBeginning c) → CardDark (other c) start Keeps began b z U Z → CardDark (other c) start Keeps began b z V Z
  begin-other_dark {U} {V} {Z} z run dark = dark-beside (other c) start Keeps (IsBeginning c) began b z run (λ u v here. (here.last, here.other)) dark

  -- CLOSE
  pub close-card : (Adds : ℕ → Held → List Entry → Held → Type 0) → EntriesGoOn Keeps Adds → {U : Seen UnitView} {X Y : Seen CardView} (s newest : ℕ) (u : UnitView) → U.may_leave u → b.maybe ≡ None → ((u : UnitView) → U.may_leave u → All (λ j. j.minute ≤ u.last) b.sure) →
      LeavesViews X Y (IsClosing Adds) → CardRule c start Keeps began b (In s newest) [] [] U X → CardRule c start Keeps began b Out [] [] U Y
  close-card Adds law {U} {X} {Y} s newest u on none sure run rule = record {
    dark = dark-card c start Keeps (IsClosing Adds) began b (In s newest) Out u on none (sure u on) rule.dark run (λ u x on there m. meets-out c start Keeps (all b) (In s newest) u x (λ full next n. law.later next n full x.held) m)
        (λ u x y on there k m. let i = rule.stands.2 u x on there in meets-close c start Keeps Adds law (all b) (In s newest) u x y k i.due_ i.words m);
    cells = rule.cells;
    stands = tt;
  }

  -- A TEAR, between two calls
  pub tear-card : {U : Seen UnitView} {X : Seen CardView} (s newest floor : ℕ) → CardRule c start Keeps began b (In s newest) [] [] U X → CardRule c start Keeps began b (Torn s newest floor) [] [] U X
  tear-card {U} {X} s newest floor rule = record {
    dark = record { meets = λ u x on there. meets-torn c start Keeps (all b) s newest floor u x (rule.dark.meets u x on there); later = rule.dark.later; since = rule.dark.since };
    cells = rule.cells;
    stands = (
      rule.stands.1,
      λ u x on there. let i = rule.stands.2 u x on there in let o = i.open_ in
          record { opened = o.opened; same = o.same; taken = o.taken; mark = o.mark; recent = subst (All (λ (d : Entry). floor ≤ d.minute)) (sym i.due_) (All-nil (λ (d : Entry). floor ≤ d.minute)) },
    );
  }

  -- POWER IS LOST: of a card the rule without power is left
  pub rests : {U : Seen UnitView} {X : Seen CardView} (s : Standing) (m d : List Entry) → CardRule c start Keeps began b s m d U X → CardDark c start Keeps began b s U X
  rests {U} {X} s m d rule = rule.dark

  -- POWER IS BACK
  pub found-dark : {U V : Seen UnitView} {X : Seen CardView} (k : ℕ) (s : Standing) → LeavesViews U V Nothing → ((v : UnitView) → V.may_leave v → v.last ≡ k) → All (λ i. i.minute ≤ k) b.sure → CardDark c start Keeps began b s U X → CardDark c start Keeps began (found k b) s V X
  found-dark {U} {V} {X} k s run is sure dark = record {
    meets = λ v x on there. meets-owed c start Keeps (all b) (all (found k b)) s v v x refl
        (ap (up_to v.last) (all-found k b) ∙ ap (λ (n : ℕ). up_to v.last (up_to n (all b))) (sym (is v on)) ∙ up_to-twice v.last (all b))
        (dark.meets v x (⊎_elim (λ was. was) (λ never. absurd never.2) (run.now v on)) there);
    later = dark.later;
    since = λ x there. had-settled c start Keeps b (found k b) x refl
        (⊎_elim (λ none. inl (up_to-all b k sure ∙ ap (λ (zs : List HistoryMinute). b.sure ++ zs) none ∙ append-nil b.sure)) (λ one. inr (up_to-all b k sure ∙ ap (λ (zs : List HistoryMinute). b.sure ++ zs) one)) (up_to-one k b.maybe))
        (dark.since x there);
  }

  -- MEND
  pub mend-dark : {U V : Seen UnitView} {X : Seen CardView} (s : Standing) → LeavesViews U V IsMending → CardDark c start Keeps began b s U X → CardDark c start Keeps began b s V X
  mend-dark {U} {V} {X} s run dark = dark-unit c start Keeps IsMending began b s dark run (λ u v x on here there m.
      meets-owed c start Keeps (all b) (all b) s u v x (owed-mend c u v x here) (ap (λ (k : ℕ). up_to k (all b)) here.last) m)

  pub mend-card : ((next n : ℕ) (full : List Entry) (h : Held) → next ≤ n → Keeps next full h → Keeps n full h) → {U V : Seen UnitView} {X : Seen CardView} (s : Standing) → LeavesViews U V IsMending → EndsWith U V IsMended →
      CardDark c start Keeps began b s U X → CardRule c start Keeps began b Out [] [] V X
  mend-card later {U} {V} {X} s run ends dark = record {
    dark = record {
      meets = λ v x on there. meets-out c start Keeps (all b) s v x (λ full next n. later next n full x.held) ((mend-dark s run dark).meets v x on there);
      later = dark.later;
      since = dark.since;
    };
    cells = λ v on. let was = ends.now v on in
        record { olds = settled_cells was.0.last (row c was.0); cells = was.2.only c ∙ sym (append-nil (settled_cells was.0.last (row c was.0))); kept = below was.0.last v.last (row c was.0).cells was.2.mending.last };
    stands = tt;
  }
    where
      within : (m k : ℕ) → nat_le m k ≡ true → m ≤ k
      within m k is = grind (arith, nat_tests)

      below : (k n : ℕ) (zs : List Entry) → n ≡ k → All (λ e. e.minute ≤ n) (filter (λ e. nat_le e.minute k) zs)
      below k n zs is = All-weaker (λ (e : Entry). nat_le e.minute k ≡ true) (λ e. e.minute ≤ n) (λ e h. omega (arith, within e.minute k h, is)) (filter (λ e. nat_le e.minute k) zs) (filter_passes (λ (e : Entry). nat_le e.minute k) zs)
