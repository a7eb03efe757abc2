-- A minute is kept: the entry owed to its card, the unit's minute, the card's entry.
use Rattle.std.proofs.Common.{◌≡◌, ◌⊎◌, inl, inr, ⊎_elim, ℕ, ◌+◌, ◌/◌, ◌%◌, ◌<◌, ◌≤◌, true, not, None, List, [], ◌∷◌, ◌++◌, All, refl, ap, subst, ◌∙◌, sym, arith, filter, nat_eq}
use Rattle.std.proofs.lemmas.Bool.Decides.{nat_tests}
use Rattle.std.proofs.lemmas.List.Elements.{All-weaker, All-append, All-nil, All-filter}
use Rattle.std.proofs.lemmas.List.{append-nil}
use Rattle.activity_codec.specs.declared.entries.Entry.{Entry}
use Rattle.trace_model.specs.declared.Card.{Card}
use Rattle.history_model.specs.Minutes.{up_to, HistoryMinute, on_card}
use Rattle.history_model.specs.Presence.{CardStart}
use Rattle.card_image.specs.View.{CardView, Held}
use Rattle.device_rule.specs.Views.{UnitView, row, other, owed, owed_in, is_session}
use Rattle.device_rule.specs.Device.{Seen, LeavesViews, EndsWith}
use Rattle.device_rule.specs.Steps.{IsKept, IsUnkept, IsKeeping, IsPutting, UnitOwes, cleared, owing, IsOnCard, IsNowOnCard}
use Rattle.history_model.specs.Book.{Book, all, kept, broken}
use Rattle.device_rule.specs.Rules.{Meets, IsOpen, NoLater, Cells, Standing, Out, In, Torn, since, MeetsStanding, CardDark, CardRule, IsPresent, Fits, EntriesGoOn}
use Rattle.history_model.proofs.Filters.{all-one}
use Rattle.device_rule.proofs.Owing.{owed-put, owed-kept, owed-beside, row-with, row-other, row-same, last-with}
use Rattle.history_model.proofs.Books.{all-none, all-kept, up_to-whole, up_to-before, on_card-minute}
use Rattle.device_rule.proofs.Pairs.{meets-owed, meets-keep, meets-moved, meets-on_card, owed-on_card, owed-unmoved}
use Rattle.device_rule.proofs.CardLaws.{had-broken, had-settled, dark-unit, dark-card, dark-beside, rule-beside, stands-unit}
use Rattle.unit_model.specs.Days.{ShownDay}
use Rattle.unit_owed.specs.Owed.{Row}

-- a minute is later than every end mark of its card since the start
fits-since : (c : Card) (start : CardStart) (began : ℕ) (s : Standing) (due : List Entry) (i : HistoryMinute) (U : Seen UnitView) (X : Seen CardView) → MeetsStanding c start began s due U X → Fits c start s i →
    (x : CardView) → X.left_since began x → (on_card c i ≡ []) ⊎ (x.mark < i.minute)
fits-since c start began s due i U X stands (inl none) x there = inl none
fits-since c start began Out due i U X stands (inr present) x there = absurd present
fits-since c start began (In s newest) due i U X stands (inr present) x there = inr (omega (arith, stands.1 x there, present.1))
fits-since c start began (Torn s newest floor) due i U X stands (inr present) x there = inr (omega (arith, stands.0 x there, present.1))

opened-session : (s t r : ℕ) → 0 < s → r ≡ s → t ≡ s → is_session r t ≡ true
opened-session s t r h is same = let pos : 0 < r = omega (arith, h, is) in let eq : r ≡ t = omega (arith, is, same) in grind (arith, nat_tests, pos, eq)

-- where a card is present, its row is that of its session
fits-row : (c : Card) (start : CardStart) (began : ℕ) (s : Standing) (due : List Entry) (i : HistoryMinute) (U : Seen UnitView) (X : Seen CardView) → MeetsStanding c start began s due U X → Fits c start s i →
    (u : UnitView) (x : CardView) → U.may_leave u → X.may_leave x → (on_card c i ≡ []) ⊎ ((is_session (row c u).session x.session ≡ true) × (x.session / 60 ≤ i.minute) × (x.mark < i.minute))
fits-row c start began s due i U X stands (inl none) u x on there = inl none
fits-row c start began Out due i U X stands (inr present) u x on there = absurd present
fits-row c start began (In s newest) due i U X stands (inr present) u x on there =
    let o = (stands.2 u x on there).open_ in
    inr (opened-session s x.session (row c u).session o.opened o.taken o.same, subst (λ (n : ℕ). n / 60 ≤ i.minute) (sym o.same) present.2, omega (arith, o.mark, present.1))
fits-row c start began (Torn s newest floor) due i U X stands (inr present) u x on there =
    let o = stands.1 u x on there in
    inr (opened-session s x.session (row c u).session o.opened o.taken o.same, subst (λ (n : ℕ). n / 60 ≤ i.minute) (sym o.same) present.2, omega (arith, o.mark, present.1))

-- no entry that is owed stands in the cell of a minute that is to come
pub near : (c : Card) (start : CardStart) (began : ℕ) (s : Standing) (m : ℕ) (U : Seen UnitView) (X : Seen CardView) → MeetsStanding c start began s [] U X → IsPresent start s m →
    (u : UnitView) (x : CardView) → U.may_leave u → X.may_leave x → All (λ d. m < d.minute + 4) (owed c u x)
near c start began Out m U X stands present u x on there = absurd present
near c start began (In s newest) m U X stands present u x on there = subst (All (λ (d : Entry). m < d.minute + 4)) (sym (stands.2 u x on there).due_) (All-nil (λ (d : Entry). m < d.minute + 4))
near c start began (Torn s newest floor) m U X stands present u x on there =
    All-weaker (λ (d : Entry). floor ≤ d.minute) (λ d. m < d.minute + 4) (λ d h. omega (arith, h, present.4)) (owed c u x) (stands.1 u x on there).recent

-- the entry of a minute that the unit keeps is owed to its card from its keeping on
pub owed-grown : (Adds : HistoryMinute → List ShownDay → List ShownDay → Type 0) (c : Card) (start : CardStart) (began : ℕ) (s : Standing) (i : HistoryMinute) (U : Seen UnitView) (X : Seen CardView) → MeetsStanding c start began s [] U X → ((u : UnitView) → U.may_leave u → Cells c (on_card c i) u) → Fits c start s i → 1440 ≤ i.minute →
    (u v : UnitView) (x : CardView) → U.may_leave u → X.may_leave x → u.last < i.minute → IsKept Adds i u v → owed c v x ≡ owed c u x ++ on_card c i
owed-grown Adds c start began s i U X stands cells fits day u v x on there late k =
    let mine = cells u on in
    ap (λ (r : Row). owed_in r v.last x.session x.mark) (row-same c u v k.rows) ∙ ap (λ (n : ℕ). owed_in (row c u) n x.session x.mark) k.last
    ∙ owed-kept (row c u) u.last i.minute x.session x.mark mine.olds (on_card c i) mine.cells mine.kept late (on_card-minute c i)
    (⊎_elim inl (λ f. inr (f.0, day, f.1, f.2)) (fits-row c start began s [] i U X stands fits u x on there))

-- PUT_OWED beside another card
pub putting-beside : (c : Card) (e : Entry) (u v : UnitView) → IsPutting c e u v → (v.last ≡ u.last) × (row (other c) v ≡ row (other c) u)
putting-beside c e u v (inl is) = (ap (λ (w : UnitView). w.last) is, ap (row (other c)) is)
putting-beside c e u v (inr (inl is)) = (ap (λ (w : UnitView). w.last) is ∙ last-with c (cleared e (row c u)) u, ap (row (other c)) is ∙ row-other c (cleared e (row c u)) u)
putting-beside c e u v (inr (inr is)) = (ap (λ (w : UnitView). w.last) is ∙ last-with c (owing e (row c u)) u, ap (row (other c)) is ∙ row-other c (owing e (row c u)) u)

putting-last : (c : Card) (e : Entry) (u v : UnitView) → IsPutting c e u v → v.last ≡ u.last
putting-last c e u v p = (putting-beside c e u v p).0

module _ (c : Card) (start : CardStart) (Keeps : ℕ → List Entry → Held → Type 0) (began : ℕ) (b : Book) where
  pub owe-other : {U V : Seen UnitView} {Z : Seen CardView} (e : Entry) (z : Standing) (m d : List Entry) → LeavesViews U V (IsPutting c e) → CardRule (other c) start Keeps began b z m d U Z → CardRule (other c) start Keeps began b z m d V Z
  owe-other {U} {V} {Z} e z m d run rule = rule-beside (other c) start Keeps (IsPutting c e) began b z m d run (putting-beside c e) rule

  pub owe-other_dark : {U V : Seen UnitView} {Z : Seen CardView} (e : Entry) (z : Standing) → LeavesViews U V (IsPutting c e) → CardDark (other c) start Keeps began b z U Z → CardDark (other c) start Keeps began b z V Z
  owe-other_dark {U} {V} {Z} e z run dark = dark-beside (other c) start Keeps (IsPutting c e) began b z run (putting-beside c e) dark

  -- PUT_OWED, at each moment
  pub owe-dark : {U V : Seen UnitView} {X : Seen CardView} (s : Standing) (e : Entry) → CardRule c start Keeps began b s [] [] U X → LeavesViews U V (IsPutting c e) → ((u : UnitView) → U.may_leave u → u.last < e.minute) → IsPresent start s e.minute →
      CardDark c start Keeps began b s V X
  owe-dark {U} {V} {X} s e rule run late present = dark-unit c start Keeps (IsPutting c e) began b s rule.dark run (λ u v x on here there m.
      meets-owed c start Keeps (all b) (all b) s u v x (owed-put c e u v x here (late u on) (near c start began s e.minute U X rule.stands present u x on there)) (ap (λ (k : ℕ). up_to k (all b)) (putting-last c e u v here)) m)

  -- and at its end
  pub owe-card : {U V : Seen UnitView} {X : Seen CardView} (s : Standing) (e : Entry) → CardRule c start Keeps began b s [] [] U X → LeavesViews U V (IsPutting c e) → EndsWith U V (UnitOwes c e) → ((u : UnitView) → U.may_leave u → u.last < e.minute) → IsPresent start s e.minute →
      CardRule c start Keeps began b s (e ∷ []) [] V X
  owe-card {U} {V} {X} s e rule run ends late present = record {
    dark = owe-dark s e rule run late present;
    cells = λ v on. let was = ends.now v on in let k = rule.cells was.0 was.1 in
        record {
          olds = filter (λ d. not (nat_eq (d.minute % 4) (e.minute % 4))) (row c was.0).cells;
          cells = ap (λ (r : Row). r.cells) (taken was.0 v was.2);
          kept = subst (λ (n : ℕ). All (λ (d : Entry). d.minute ≤ n) (filter (λ d. not (nat_eq (d.minute % 4) (e.minute % 4))) (row c was.0).cells)) (sym (putting-last c e was.0 v (inr (inr was.2))))
              (All-filter (λ (d : Entry). not (nat_eq (d.minute % 4) (e.minute % 4))) (λ (d : Entry). d.minute ≤ was.0.last) (row c was.0).cells
              (subst (All (λ (d : Entry). d.minute ≤ was.0.last)) (sym (k.cells ∙ append-nil k.olds)) k.kept));
        };
    stands = stands-unit c start Keeps U V X began s [] (λ v on. let was = ends.now v on in
        (was.0, was.1, ap (λ (r : Row). r.session) (taken was.0 v was.2), λ x there. owed-put c e was.0 v x (inr (inr was.2)) (late was.0 was.1) (near c start began s e.minute U X rule.stands present was.0 x was.1 there))) rule.stands;
  }
    where
      taken : (u v : UnitView) → UnitOwes c e u v → row c v ≡ owing e (row c u)
      taken u v is = ap (row c) is ∙ row-with c (owing e (row c u)) u

  -- KEEP of the unit
  module _ (Adds Gives : HistoryMinute → List ShownDay → List ShownDay → Type 0) where
    grown : (s : Standing) (i : HistoryMinute) (U : Seen UnitView) (X : Seen CardView) → CardRule c start Keeps began b s (on_card c i) [] U X → Fits c start s i → 1440 ≤ i.minute →
        (u v : UnitView) (x : CardView) → U.may_leave u → X.may_leave x → u.last < i.minute → IsKept Adds i u v → owed c v x ≡ owed c u x ++ on_card c i
    grown s i U X rule fits day = owed-grown Adds c start began s i U X rule.stands rule.cells fits day

    mark-of : (s : Standing) (i : HistoryMinute) (U : Seen UnitView) (X : Seen CardView) → CardRule c start Keeps began b s (on_card c i) [] U X → Fits c start s i →
        (u : UnitView) (x : CardView) → U.may_leave u → X.may_leave x → (on_card c i ≡ []) ⊎ (x.mark < i.minute)
    mark-of s i U X rule fits u x on there = ⊎_elim inl (λ f. inr f.2) (fits-row c start began s [] i U X rule.stands fits u x on there)

    -- all minutes up to the new one
    with-new : (i : HistoryMinute) (u v : UnitView) → b.maybe ≡ None → All (λ j. j.minute ≤ u.last) b.sure → u.last < i.minute → v.last ≡ i.minute → up_to v.last (b.sure ++ i ∷ []) ≡ up_to u.last (all b) ++ i ∷ []
    with-new i u v none sure late last =
        up_to-whole v.last (b.sure ++ i ∷ []) (All-append (λ (j : HistoryMinute). j.minute ≤ v.last) b.sure (i ∷ []) (All-weaker (λ (j : HistoryMinute). j.minute ≤ u.last) (λ j. j.minute ≤ v.last) (λ j h. omega (arith, h, late, last)) b.sure sure)
        (all-one (λ (j : HistoryMinute). j.minute ≤ v.last) i (omega (arith, last))))
        ∙ ap (λ (zs : List HistoryMinute). zs ++ i ∷ []) (sym (ap (up_to u.last) (all-none b none) ∙ up_to-whole u.last b.sure sure))

    without-new : (i : HistoryMinute) (k : ℕ) → b.maybe ≡ None → k < i.minute → up_to k (b.sure ++ i ∷ []) ≡ up_to k (all b)
    without-new i k none late = up_to-before k b.sure i late ∙ ap (up_to k) (sym (all-none b none))

    -- and its entry comes where one may come
    comes-when : (s : Standing) (i : HistoryMinute) → Fits c start s i → (on_card c i ≡ []) ⊎ ((start.word < i.minute) × ((n : ℕ) → since s n < i.minute))
    comes-when s i (inl none) = inl none
    comes-when Out i (inr present) = absurd present
    comes-when (In session newest) i (inr present) = inr (present.0, λ n. present.1)
    comes-when (Torn session newest floor) i (inr present) = inr (present.0, λ n. present.1)

    module _ {U : Seen UnitView} {X : Seen CardView} (comes : (next n : ℕ) (full : List Entry) (h : Held) → next ≤ n → Keeps next full h → Keeps n full h) (s : Standing) (i : HistoryMinute) (none : b.maybe ≡ None) (sure : (u : UnitView) → U.may_leave u → All (λ j. j.minute ≤ u.last) b.sure) (late : (u : UnitView) → U.may_leave u → u.last < i.minute)
        (day : 1440 ≤ i.minute) (rule : CardRule c start Keeps began b s (on_card c i) [] U X) (fits : Fits c start s i) where
      meets-new : (u v : UnitView) (x : CardView) → U.may_leave u → X.may_leave x → IsKept Adds i u v → Meets c start Keeps (b.sure ++ i ∷ []) s v x
      meets-new u v x on there k = meets-keep c start Keeps (all b) (b.sure ++ i ∷ []) s i u v x (λ full next n. comes next n full x.held) (grown s i U X rule fits day u v x on there (late u on) k) (with-new i u v none (sure u on) (late u on) k.last)
          (mark-of s i U X rule fits u x on there) (comes-when s i fits) (rule.dark.meets u x on there)

      meets-still : (u v : UnitView) (x : CardView) → U.may_leave u → X.may_leave x → IsUnkept Gives i u v → Meets c start Keeps (b.sure ++ i ∷ []) s v x
      meets-still u v x on there k = meets-owed c start Keeps (all b) (b.sure ++ i ∷ []) s u v x (owed-beside c u v x k.last (row-same c u v k.rows))
          (without-new i v.last none (omega (arith, k.last, late u on)) ∙ ap (λ (n : ℕ). up_to n (all b)) k.last) (rule.dark.meets u x on there)

      -- at each moment
      pub keep-dark : {V : Seen UnitView} → LeavesViews U V (IsKeeping Adds Gives i) → CardDark c start Keeps began (broken i b) s V X
      keep-dark {V} run = record {
        meets = λ v x on there. ⊎_elim
            (λ was. meets-still v v x was there (record { rows = record { row_a = refl; row_b = refl }; last = refl; days = inl refl }))
            (λ here. ⊎_elim (λ k. meets-still here.0 v x here.1 there k) (λ k. meets-new here.0 v x here.1 there k) here.2) (run.now v on);
        later = rule.dark.later;
        since = λ x there. had-broken c start Keeps b i x none (fits-since c start began s [] i U X rule.stands fits x there) (rule.dark.since x there);
      }

      -- and at its end
      pub keep-card : {V : Seen UnitView} → LeavesViews U V (IsKeeping Adds Gives i) → EndsWith U V (IsKept Adds i) → CardRule c start Keeps began (kept i b) s [] (on_card c i) V X
      keep-card {V} run ends = record {
        dark = record {
          meets = λ v x on there. let was = ends.now v on in subst (λ (zs : List HistoryMinute). Meets c start Keeps zs s v x) (sym (all-kept i b)) (meets-new was.0 v x was.1 there was.2);
          later = rule.dark.later;
          since = λ x there. had-settled c start Keeps (broken i b) (kept i b) x refl (inr refl) ((keep-dark run).since x there);
        };
        cells = λ v on. let was = ends.now v on in let k = rule.cells was.0 was.1 in
            record {
              olds = k.olds ++ on_card c i;
              cells = ap (λ (r : Row). r.cells) (row-same c was.0 v was.2.rows) ∙ k.cells ∙ sym (append-nil (k.olds ++ on_card c i));
              kept = All-append (λ (e : Entry). e.minute ≤ v.last) k.olds (on_card c i)
                  (All-weaker (λ (e : Entry). e.minute ≤ was.0.last) (λ e. e.minute ≤ v.last) (λ e h. omega (arith, h, late was.0 was.1, was.2.last)) k.olds k.kept)
                  (All-weaker (λ (e : Entry). e.minute ≡ i.minute) (λ e. e.minute ≤ v.last) (λ e h. omega (arith, h, was.2.last)) (on_card c i) (on_card-minute c i));
            };
        stands = stand s rule.stands fits (λ u v x on there k. grown s i U X rule fits day u v x on there (late u on) k);
      }
        where
          stand : (s : Standing) → MeetsStanding c start began s [] U X → Fits c start s i → ((u v : UnitView) (x : CardView) → U.may_leave u → X.may_leave x → IsKept Adds i u v → owed c v x ≡ owed c u x ++ on_card c i) → MeetsStanding c start began s (on_card c i) V X
          stand Out stands fits more = tt
          stand (In s newest) stands fits more = (
            stands.0,
            stands.1,
            λ v x on there.
                let was = ends.now v on in let i_ = stands.2 was.0 x was.1 there in let o = i_.open_ in
                record {
                  open_ = record { opened = o.opened; same = o.same; taken = ap (λ (r : Row). r.session) (row-same c was.0 v was.2.rows) ∙ o.taken; mark = o.mark; recent = λ k d lt. omega arith };
                  due_ = more was.0 v x was.1 there was.2 ∙ ap (λ (zs : List Entry). zs ++ on_card c i) i_.due_;
                  words = i_.words;
                },
          )
          stand (Torn s newest floor) stands fits more = (
            stands.0,
            λ v x on there.
                let was = ends.now v on in let o = stands.1 was.0 x was.1 there in
                record {
                  opened = o.opened;
                  same = o.same;
                  taken = ap (λ (r : Row). r.session) (row-same c was.0 v was.2.rows) ∙ o.taken;
                  mark = o.mark;
                  recent = subst (All (λ (e : Entry). floor ≤ e.minute)) (sym (more was.0 v x was.1 there was.2))
                      (All-append (λ (e : Entry). floor ≤ e.minute) (owed c was.0 x) (on_card c i) o.recent
                      (⊎_elim (λ none. subst (All (λ (e : Entry). floor ≤ e.minute)) (sym none) (All-nil (λ (e : Entry). floor ≤ e.minute)))
                      (λ present. All-weaker (λ (e : Entry). e.minute ≡ i.minute) (λ e. floor ≤ e.minute) (λ e h. omega (arith, h, present.3)) (on_card c i) (on_card-minute c i)) fits));
                },
          )

  -- KEEP of a card
  module _ (Adds : ℕ → Held → List Entry → Held → Type 0) (law : EntriesGoOn Keeps Adds) {U : Seen UnitView} {X Y : Seen CardView} (s newest : ℕ) (e : Entry) (none : b.maybe ≡ None)
      (sure : (u : UnitView) → U.may_leave u → All (λ j. j.minute ≤ u.last) b.sure) (rule : CardRule c start Keeps began b (In s newest) [] (e ∷ []) U X) (late : newest < e.minute) (fresh : start.word < e.minute) (run : LeavesViews X Y (IsOnCard Adds e)) where
    step : (t : Standing) → ((n : ℕ) → since t n ≡ e.minute) → (u : UnitView) (x y : CardView) → U.may_leave u → X.may_leave x → IsOnCard Adds e x y → Meets c start Keeps (all b) (In s newest) u x → Meets c start Keeps (all b) t u y
    step t at u x y on there k m =
        let i = rule.stands.2 u x on there in
        let le : newest ≤ e.minute = omega (arith, late) in
        meets-on_card c start Keeps Adds law (all b) (In s newest) t e u x y (λ n. le) at fresh k (omega (arith, i.open_.opened, i.open_.same)) (omega (arith, i.open_.mark, late)) i.due_ m

    -- as it stands still
    still : (t : Standing) → ((n : ℕ) → since t n ≡ e.minute) → (u : UnitView) (x : CardView) → U.may_leave u → X.may_leave x → Meets c start Keeps (all b) (In s newest) u x → Meets c start Keeps (all b) t u x
    still t at u x on there m = meets-moved c start Keeps (all b) (In s newest) t e u x at (rule.stands.2 u x on there).due_ m

    pub on_card-dark : (t : Standing) → ((n : ℕ) → since t n ≡ e.minute) → (u : UnitView) → U.may_leave u → CardDark c start Keeps began b t U Y
    on_card-dark t at u on = dark-card c start Keeps (IsOnCard Adds e) began b (In s newest) t u on none (sure u on) rule.dark run (still t at) (step t at)

    -- no image has a later end mark than the minute
    no-later : (u : UnitView) → U.may_leave u → NoLater began e.minute Y
    no-later u on y there = ⊎_elim
        (λ was. omega (arith, rule.stands.1 y was, late))
        (λ here. ⊎_elim (λ old. omega (arith, old.0, (rule.stands.2 u here.0 on here.1).open_.mark, late)) (λ new. omega (arith, new.0)) here.2.side)
        (run.since began y rule.dark.later there)

    -- at its end nothing is owed
    pub on_card-card : (u : UnitView) → U.may_leave u → EndsWith X Y (IsNowOnCard Adds e) → CardRule c start Keeps began b (In s e.minute) [] [] U Y
    on_card-card u on ends = record {
      dark = on_card-dark (In s e.minute) (λ n. refl) u on;
      cells = rule.cells;
      stands = (
        ends.works,
        no-later u on,
        λ v y left there.
            let was = ends.now y there in let i = rule.stands.2 v was.0 left was.1 in let k = was.2 in
            let gone = owed-on_card c start Keeps Adds law e v was.0 y k.session k.mark (omega (arith, i.open_.mark, late)) i.due_ in
            record {
              open_ = record { opened = i.open_.opened; same = k.session ∙ i.open_.same; taken = i.open_.taken; mark = omega (arith, k.mark); recent = λ k d lt. omega arith };
              due_ = gone;
              words = omega (arith, k.words);
            },
      );
    }

    -- where it was torn out
    pub on_card-torn : (u : UnitView) → U.may_leave u → CardRule c start Keeps began b (Torn s e.minute e.minute) [] [] U Y
    on_card-torn u on = record {
      dark = on_card-dark (Torn s e.minute e.minute) (λ n. refl) u on;
      cells = rule.cells;
      stands = (no-later u on, λ v y left there. ⊎_elim (λ was. old v y left was) (λ here. new v here.0 y left here.1 here.2) (run.now y there));
    }
      where
        itself : All (λ (d : Entry). e.minute ≤ d.minute) (e ∷ [])
        itself = all-one (λ (d : Entry). e.minute ≤ d.minute) e (omega arith)

        old : (v : UnitView) (x : CardView) → U.may_leave v → X.may_leave x → IsOpen c s e.minute e.minute v x
        old v x left there =
            let i = rule.stands.2 v x left there in let o = i.open_ in
            record { opened = o.opened; same = o.same; taken = o.taken; mark = omega (arith, o.mark, late); recent = subst (All (λ (d : Entry). e.minute ≤ d.minute)) (sym i.due_) itself }

        new : (v : UnitView) (x y : CardView) → U.may_leave v → X.may_leave x → IsOnCard Adds e x y → IsOpen c s e.minute e.minute v y
        new v x y left there k =
            let i = rule.stands.2 v x left there in let o = i.open_ in
            record {
              opened = o.opened;
              same = k.session ∙ o.same;
              taken = o.taken;
              mark = ⊎_elim (λ was. omega (arith, was.0, o.mark, late)) (λ now. omega (arith, now.0)) k.side;
              recent = ⊎_elim
                  (λ was. subst (All (λ (d : Entry). e.minute ≤ d.minute)) (sym (owed-unmoved c start Keeps Adds law v x y k.session was.0 ∙ i.due_)) itself)
                  (λ now. subst (All (λ (d : Entry). e.minute ≤ d.minute)) (sym (owed-on_card c start Keeps Adds law e v x y k.session now.0 (omega (arith, o.mark, late)) i.due_)) (All-nil (λ (d : Entry). e.minute ≤ d.minute))) k.side;
            }
