-- What is carried of a card's string stays as the unit goes on: a minute is kept or broken off, power is back, a row is begun, a card is
-- torn out.
use Rattle.std.proofs.Common.{◌≡◌, ◌⊎◌, inl, inr, ⊎_elim, ℕ, max, ◌/◌, ◌<◌, ◌≤◌, false, Option, Some, None, List, [], ◌∷◌, ◌++◌, All, refl, ap, subst, ◌∙◌, sym, arith, nat_le, append_assoc}
use Rattle.std.specs.Prelude.{option_to_list}
use Rattle.std.proofs.lemmas.Bool.Decides.{nat_tests}
use Rattle.std.proofs.lemmas.List.{append-nil}
use Rattle.std.proofs.lemmas.List.Elements.{All-nil, All-head, All-tail, All-weaker, filter-append}
use Rattle.run_course.specs.activity_codec.declared.entries.Entry.{Entry}
use Rattle.run_course.specs.activity_codec.declared.entries.Manual.{Manual}
use Rattle.run_course.specs.trace_model.declared.Card.{Card}
use Rattle.tach_media.specs.Medium.{State, IsCoherent}
use Rattle.unit_rule.specs.card_retention.Retains.{Rise}
use Rattle.unit_rule.specs.device_rule.View.{CardView}
use Rattle.unit_rule.specs.device_rule.Own.{own_view, KeepsFrom, KeepsOf}
use Rattle.unit_rule.specs.hand_model.Written.{Hands}
use Rattle.run_course.specs.history_model.Minutes.{HistoryMinute, card_history, on_card}
use Rattle.run_course.specs.history_model.Presence.{CardStart}
use Rattle.run_course.specs.history_model.Book.{Book, all, kept, broken, found}
use Rattle.run_course.proofs.history_model.Books.{history-append, history-one, all-none, all-kept, all-found, up_to-all, up_to-one, on_card-minute}
use Rattle.run_course.proofs.history_model.Filters.{filter-none, all-back}
use Rattle.unit_rule.specs.device_rule.Views.{UnitView, unit_view, row, owed, owed_in, newest_with}
use Rattle.unit_rule.specs.device_rule.Device.{Seen, LeavesViews, Nothing}
use Rattle.unit_rule.specs.device_rule.Filling.{KeepsMinute, GivesUpDay}
use Rattle.unit_rule.specs.device_rule.Steps.{IsKeeping, IsKept, IsUnkept, IsPutting, IsMending, IsBeginning}
use Rattle.unit_rule.specs.device_rule.Rules.{Standing, Out, In, Torn, since, comes_from, MeetsStanding, Fits, IsPresent, CardDark, CardRule, IsEntered, Had}
use Rattle.unit_rule.specs.device_rule.Marked.{of_card}
use Rattle.unit_rule.proofs.device_rule.Owing.{owed-put, owed-beside, owed-mend, owed-new, row-same}
use Rattle.unit_rule.proofs.device_rule.KeepLaws.{near, owed-grown}
use Rattle.run_promise.specs.Found.{CardFound, Found, found_of, unit_seen, AnyKept}
use Rattle.run_promise.specs.Cards.{brought_by, counted_to, StringHolds, StringGoesOn, MayBeBrought, MayKeep, IsStrung}
use Rattle.run_promise.proofs.Entries.{rise-front, keeps-later}

late : (k m : ℕ) → k < m → nat_le m k ≡ false
late k m h = grind (arith, nat_tests)

-- entries behind an end mark count nothing more
pub counted-more : (k : ℕ) (es later : List Entry) → All (λ e. k < e.minute) later → counted_to k (es ++ later) ≡ counted_to k es
counted-more k es later each = filter-append (λ (e : Entry). nat_le e.minute k) es later
    ∙ ap (λ (zs : List Entry). counted_to k es ++ zs) (filter-none (λ (e : Entry). nat_le e.minute k) later (All-weaker (λ (e : Entry). k < e.minute) (λ e. nat_le e.minute k ≡ false) (λ e h. late k e.minute h) later each))
    ∙ append-nil (counted_to k es)

-- one entry more, later than all
rise-one : (es : List Entry) (e : Entry) → Rise es → All (λ d. d.minute < e.minute) es → Rise (es ++ e ∷ [])
rise-one [] e rise each = tt
rise-one (d ∷ []) e rise each = (All-head (λ (g : Entry). g.minute < e.minute) d [] each, tt)
rise-one (d ∷ f ∷ es) e rise each = (rise.0, rise-one (f ∷ es) e rise.1 (All-tail (λ (g : Entry). g.minute < e.minute) d (f ∷ es) each))

rise-more : (es : List Entry) (o : Option Entry) (m : ℕ) → Rise es → All (λ d. d.minute < m) es → All (λ e. e.minute ≡ m) (option_to_list o) → Rise (es ++ option_to_list o)
rise-more es None m rise each is = subst Rise (sym (append-nil es)) rise
rise-more es (Some e) m rise each is = rise-one es e rise (All-weaker (λ (d : Entry). d.minute < m) (λ d. d.minute < e.minute) (λ d h. omega (arith, h, All-head (λ (g : Entry). g.minute ≡ m) e [] is)) es each)

-- where the next entry may come
comes-grown : (c : Card) (start : CardStart) (z : Standing) (i : HistoryMinute) (due : List Entry) (x : CardView) → Fits c start z i → comes_from start z due x ≤ comes_from start z (due ++ on_card c i) x
comes-grown c start z i (d ∷ due) x fits = omega arith
comes-grown c start z i [] x fits = ⊎_elim (λ none. go (on_card c i) (inl none) (on_card-minute c i)) (λ present. go (on_card c i) (inr (bounds z present)) (on_card-minute c i)) fits
  where
    bounds : (z : Standing) → IsPresent start z i.minute → (start.word < i.minute) × ((n : ℕ) → since z n < i.minute)
    bounds Out present = absurd present
    bounds (In session newest) present = (present.0, λ n. present.1)
    bounds (Torn session newest floor) present = (present.0, λ n. present.1)

    go : (es : List Entry) → (es ≡ []) ⊎ ((start.word < i.minute) × ((n : ℕ) → since z n < i.minute)) → All (λ e. e.minute ≡ i.minute) es → comes_from start z [] x ≤ comes_from start z es x
    go [] fit is = omega arith
    go (e ∷ es) (inl none) is = absurd (cc)
    go (e ∷ es) (inr fit) is = omega (arith, fit.0, fit.1 x.newest, All-head (λ (d : Entry). d.minute ≡ i.minute) e es is)

comes-out : (start : CardStart) (z : Standing) (due : List Entry) (x : CardView) → since z (newest_with x due) ≤ max start.word (newest_with x due) → comes_from start z due x ≤ comes_from start Out due x
comes-out start z [] x low = omega (arith, low)
comes-out start z (e ∷ due) x low = omega arith

-- A STRING GOES ON where the counted entries stay and the next one comes no earlier
goes-later : (g : CardFound) (given : List Manual) (c : Card) (b d : Book) (z y : Standing) (due next : List Entry) (x : List ℕ) → counted_to (own_view x).mark (brought_by c g.start d) ≡ counted_to (own_view x).mark (brought_by c g.start b) →
    comes_from g.start z due (own_view x) ≤ comes_from g.start y next (own_view x) → StringGoesOn g given c b z due x → StringGoesOn g given c d y next x
goes-later g given c b d z y due next x same le keeps =
    subst (λ (es : List Entry). KeepsFrom g.image given (comes_from g.start y next (own_view x)) (g.start.entries ++ es) (own_view x).held) (sym same)
    (keeps-later g.image given (comes_from g.start z due (own_view x)) (comes_from g.start y next (own_view x)) (g.start.entries ++ counted_to (own_view x).mark (brought_by c g.start b)) (own_view x).held le keeps)

module _ (f : Found) (h : Hands) (c : Card) where
  abbrev g : CardFound
  g = found_of f c

  -- by views of the unit
  by-view : (b : Book) (z : Standing) (unit card : State) → MayBeBrought f h.given c b z unit card → (v : UnitView) (x : List ℕ) → (unit_seen f unit).may_leave v → card.may_leave x → StringGoesOn g h.given c b z (owed c v (own_view x)) x
  by-view b z unit card comes v x on there = subst (λ (w : UnitView). StringGoesOn g h.given c b z (owed c w (own_view x)) x) on.2 (comes on.0 x on.1 there)

  -- THE BOOK with a minute more
  all-more : (b : Book) (i : HistoryMinute) → b.maybe ≡ None → brought_by c g.start (broken i b) ≡ brought_by c g.start b ++ on_card c i
  all-more b i none = ap (λ (es : List Entry). g.start.owed ++ es) (history-append c b.sure (i ∷ []) ∙ ap (λ (es : List Entry). card_history c b.sure ++ es) (history-one c i) ∙ ap (λ (is : List HistoryMinute). card_history c is ++ on_card c i) (sym (all-none b none)))
      ∙ sym (append_assoc g.start.owed (card_history c (all b)) (on_card c i))

  kept-more : (b : Book) (i : HistoryMinute) → brought_by c g.start (kept i b) ≡ brought_by c g.start (broken i b)
  kept-more b i = ap (λ (is : List HistoryMinute). g.start.owed ++ card_history c is) (all-kept i b)

  -- what a minute says is behind each end mark
  behind : (i : HistoryMinute) (x : CardView) → (on_card c i ≡ []) ⊎ (x.mark < i.minute) → All (λ e. x.mark < e.minute) (on_card c i)
  behind i x (inl none) = subst (All (λ (e : Entry). x.mark < e.minute)) (sym none) (All-nil (λ (e : Entry). x.mark < e.minute))
  behind i x (inr lt) = All-weaker (λ (e : Entry). e.minute ≡ i.minute) (λ e. x.mark < e.minute) (λ e is. omega (arith, is, lt)) (on_card c i) (on_card-minute c i)

  counted-still : (b : Book) (i : HistoryMinute) (x : List ℕ) → b.maybe ≡ None → (on_card c i ≡ []) ⊎ ((own_view x).mark < i.minute) →
      counted_to (own_view x).mark (brought_by c g.start (broken i b)) ≡ counted_to (own_view x).mark (brought_by c g.start b)
  counted-still b i x none ahead = ap (counted_to (own_view x).mark) (all-more b i none) ∙ counted-more (own_view x).mark (brought_by c g.start b) (on_card c i) (behind i (own_view x) ahead)

  string-of : (b d : Book) (card : State) → ((x : List ℕ) → card.left_since g.began x → counted_to (own_view x).mark (brought_by c g.start d) ≡ counted_to (own_view x).mark (brought_by c g.start b)) → Rise (brought_by c g.start d) → StringHolds g h c b card → StringHolds g h c d card
  string-of b d card same rises s = record {
    kept = λ x left. subst (λ (es : List Entry). KeepsOf g.image h.given (g.start.entries ++ es) (own_view x).held) (sym (same x left)) (s.kept x left);
    told = s.told;
    behind = s.behind;
    stay = s.stay;
    valid = s.valid;
    sizes = s.sizes;
    number = s.number;
    rises = rises;
  }

  pub string-broken : (b : Book) (i : HistoryMinute) (o : Option Entry) (card : State) → b.maybe ≡ None → on_card c i ≡ option_to_list o → All (λ e. e.minute < i.minute) (brought_by c g.start b) →
      ((x : List ℕ) → card.left_since g.began x → (on_card c i ≡ []) ⊎ ((own_view x).mark < i.minute)) → StringHolds g h c b card → StringHolds g h c (broken i b) card
  string-broken b i o card none says early ahead s = string-of b (broken i b) card (λ x left. counted-still b i x none (ahead x left))
      (subst Rise (sym (all-more b i none ∙ ap (λ (es : List Entry). brought_by c g.start b ++ es) says)) (rise-more (brought_by c g.start b) o i.minute s.rises early (subst (All (λ (e : Entry). e.minute ≡ i.minute)) says (on_card-minute c i)))) s

  pub string-kept : (b : Book) (i : HistoryMinute) (card : State) → StringHolds g h c (broken i b) card → StringHolds g h c (kept i b) card
  string-kept b i card s = string-of (broken i b) (kept i b) card (λ x left. ap (counted_to (own_view x).mark) (kept-more b i)) (subst Rise (sym (kept-more b i)) s.rises) s

  -- FOUND: what is lost is behind each end mark
  found-parts : (b : Book) (k : ℕ) → All (λ i. i.minute ≤ k) b.sure → (brought_by c g.start (found k b) ≡ brought_by c g.start b) ⊎ (brought_by c g.start (found k b) ≡ g.start.owed ++ card_history c b.sure)
  found-parts b k sure = ⊎_elim
      (λ none. inr (ap (λ (is : List HistoryMinute). g.start.owed ++ card_history c is) (all-found k b ∙ up_to-all b k sure ∙ ap (λ (is : List HistoryMinute). b.sure ++ is) none ∙ append-nil b.sure)))
      (λ same. inl (ap (λ (is : List HistoryMinute). g.start.owed ++ card_history c is) (all-found k b ∙ up_to-all b k sure ∙ ap (λ (is : List HistoryMinute). b.sure ++ is) same)))
      (up_to-one k b.maybe)

  sure-front : (b : Book) → brought_by c g.start b ≡ (g.start.owed ++ card_history c b.sure) ++ card_history c (option_to_list b.maybe)
  sure-front b = ap (λ (es : List Entry). g.start.owed ++ es) (history-append c b.sure (option_to_list b.maybe)) ∙ sym (append_assoc g.start.owed (card_history c b.sure) (card_history c (option_to_list b.maybe)))

  counted-found : (b : Book) (k : ℕ) (x : CardView) → All (λ i. i.minute ≤ k) b.sure → Had c g.start AnyKept b x → counted_to x.mark (brought_by c g.start (found k b)) ≡ counted_to x.mark (brought_by c g.start b)
  counted-found b k x sure had = ⊎_elim
      (λ same. ap (counted_to x.mark) same)
      (λ front. ap (counted_to x.mark) front ∙ sym (ap (counted_to x.mark) (sure-front b) ∙ counted-more x.mark (g.start.owed ++ card_history c b.sure) (card_history c (option_to_list b.maybe))
      (all-back (λ (e : Entry). x.mark < e.minute) had.rest (card_history c (option_to_list b.maybe)) had.lacks)))
      (found-parts b k sure)

  pub string-found : (b : Book) (k : ℕ) (card : State) → All (λ i. i.minute ≤ k) b.sure → ((x : List ℕ) → card.left_since g.began x → Had c g.start AnyKept b (own_view x)) → StringHolds g h c b card → StringHolds g h c (found k b) card
  string-found b k card sure had s = string-of b (found k b) card (λ x left. counted-found b k (own_view x) sure (had x left))
      (⊎_elim (λ same. subst Rise (sym same) s.rises) (λ front. subst Rise (sym front) (rise-front (g.start.owed ++ card_history c b.sure) (card_history c (option_to_list b.maybe)) (subst Rise (sure-front b) s.rises))) (found-parts b k sure)) s

  -- WHAT IS OWED MAY COME, as the unit keeps a minute
  module _ (b : Book) (z : Standing) (i : HistoryMinute) (U V card : State) (none : b.maybe ≡ None) (day : 1440 ≤ i.minute) (early : (u : UnitView) → (unit_seen f U).may_leave u → u.last < i.minute)
      (rule : CardRule c g.start AnyKept g.began b z (on_card c i) [] (unit_seen f U) (of_card card)) (fits : Fits c g.start z i) (ahead : (x : List ℕ) → card.may_leave x → (on_card c i ≡ []) ⊎ ((own_view x).mark < i.minute)) (comes : MayBeBrought f h.given c b z U card) where
    still : (v : UnitView) (x : List ℕ) → (unit_seen f U).may_leave v → card.may_leave x → StringGoesOn g h.given c (broken i b) z (owed c v (own_view x)) x
    still v x on there = goes-later g h.given c b (broken i b) z z (owed c v (own_view x)) (owed c v (own_view x)) x (counted-still b i x none (ahead x there)) (omega arith) (by-view b z U card comes v x on there)

    pub comes-broken : LeavesViews (unit_seen f U) (unit_seen f V) (IsKeeping KeepsMinute GivesUpDay i) → MayBeBrought f h.given c (broken i b) z V card
    comes-broken run u x on there =
        let w : UnitView = unit_view f.card_a.number f.card_b.number u in
        ⊎_elim
        (λ was. still w x was there)
        (λ here. ⊎_elim
        (λ (n : IsUnkept GivesUpDay i here.0 w). subst (λ (es : List Entry). StringGoesOn g h.given c (broken i b) z es x) (sym (owed-beside c here.0 w (own_view x) n.last (row-same c here.0 w n.rows))) (still here.0 x here.1 there))
        (λ (n : IsKept KeepsMinute i here.0 w). subst (λ (es : List Entry). StringGoesOn g h.given c (broken i b) z es x)
        (sym (owed-grown KeepsMinute c g.start g.began z i (unit_seen f U) (of_card card) rule.stands rule.cells fits day here.0 w (own_view x) here.1 (x, there, refl) (early here.0 here.1) n))
        (goes-later g h.given c (broken i b) (broken i b) z z (owed c here.0 (own_view x)) (owed c here.0 (own_view x) ++ on_card c i) x refl (comes-grown c g.start z i (owed c here.0 (own_view x)) (own_view x) fits) (still here.0 x here.1 there)))
        here.2)
        (run.now w (u, on, refl))

  pub comes-kept : (b : Book) (i : HistoryMinute) (z : Standing) (unit card : State) → MayBeBrought f h.given c (broken i b) z unit card → MayBeBrought f h.given c (kept i b) z unit card
  comes-kept b i z unit card comes u x on there =
      let due : List Entry = owed c (unit_view f.card_a.number f.card_b.number u) (own_view x) in
      goes-later g h.given c (broken i b) (kept i b) z z due due x (ap (counted_to (own_view x).mark) (kept-more b i)) (omega arith) (comes u x on there)

  -- POWER IS BACK: the unit was only read, its last-kept minute is found, and what is owed stays
  pub comes-found : (b : Book) (k : ℕ) (z : Standing) (U V card : State) → All (λ i. i.minute ≤ k) b.sure → ((x : List ℕ) → card.may_leave x → Had c g.start AnyKept b (own_view x)) → LeavesViews (unit_seen f U) (unit_seen f V) Nothing →
      MayBeBrought f h.given c b z U card → MayBeBrought f h.given c (found k b) z V card
  comes-found b k z U V card sure had run comes u x on there =
      let w : UnitView = unit_view f.card_a.number f.card_b.number u in
      goes-later g h.given c b (found k b) z z (owed c w (own_view x)) (owed c w (own_view x)) x (counted-found b k (own_view x) sure (had x there)) (omega arith)
      (⊎_elim (λ was. by-view b z U card comes w x was there) (λ never. absurd never.2) (run.now w (u, on, refl)))

  -- a step of the unit after which the same is owed
  comes-same : (R : UnitView → UnitView → Type 0) (b : Book) (z : Standing) (U V card : State) → ((u v : UnitView) (x : List ℕ) → (unit_seen f U).may_leave u → card.may_leave x → R u v → owed c v (own_view x) ≡ owed c u (own_view x)) → LeavesViews (unit_seen f U) (unit_seen f V) R →
      MayBeBrought f h.given c b z U card → MayBeBrought f h.given c b z V card
  comes-same R b z U V card same run comes u x on there =
      let w : UnitView = unit_view f.card_a.number f.card_b.number u in
      ⊎_elim (λ was. by-view b z U card comes w x was there)
      (λ here. subst (λ (es : List Entry). StringGoesOn g h.given c b z es x) (sym (same here.0 w x here.1 there here.2)) (by-view b z U card comes here.0 x here.1 there)) (run.now w (u, on, refl))

  -- an entry is put for the card, or for the other one
  pub comes-put : (b : Book) (z : Standing) (e : Entry) (U V card : State) → IsPresent g.start z e.minute → ((u : UnitView) → (unit_seen f U).may_leave u → u.last < e.minute) → MeetsStanding c g.start g.began z [] (unit_seen f U) (of_card card) → LeavesViews (unit_seen f U) (unit_seen f V) (IsPutting c e) →
      MayBeBrought f h.given c b z U card → MayBeBrought f h.given c b z V card
  comes-put b z e U V card present early stands run = comes-same (IsPutting c e) b z U V card
      (λ u v x on there p. owed-put c e u v (own_view x) p (early u on) (near c g.start g.began z e.minute (unit_seen f U) (of_card card) stands present u (own_view x) on (x, there, refl))) run

  -- a step that leaves the card's row and the last-kept minute
  pub comes-beside : (R : UnitView → UnitView → Type 0) (b : Book) (z : Standing) (U V card : State) → ((u v : UnitView) → R u v → (v.last ≡ u.last) × (row c v ≡ row c u)) → LeavesViews (unit_seen f U) (unit_seen f V) R → MayBeBrought f h.given c b z U card → MayBeBrought f h.given c b z V card
  comes-beside R b z U V card beside run = comes-same R b z U V card (λ u v x on there n. owed-beside c u v (own_view x) (beside u v n).0 (beside u v n).1) run

  -- a mend
  pub comes-mended : (b : Book) (z : Standing) (U V card : State) → LeavesViews (unit_seen f U) (unit_seen f V) IsMending → MayBeBrought f h.given c b z U card → MayBeBrought f h.given c b z V card
  comes-mended b z U V card run = comes-same IsMending b z U V card (λ u v x on there n. owed-mend c u v (own_view x) n) run

  -- THE STANDING. Out of its slot, the card's newest minute is that of its image
  pub comes-let_out : (b : Book) (z : Standing) (unit card : State) → CardDark c g.start AnyKept g.began b z (unit_seen f unit) (of_card card) → MayBeBrought f h.given c b z unit card → MayBeBrought f h.given c b Out unit card
  comes-let_out b z unit card dark comes u x on there =
      let w : UnitView = unit_view f.card_a.number f.card_b.number u in
      goes-later g h.given c b b z Out (owed c w (own_view x)) (owed c w (own_view x)) x refl
      (comes-out g.start z (owed c w (own_view x)) (own_view x) (dark.meets w (own_view x) (u, on, refl) (x, there, refl)).accepted) (comes u x on there)

  -- its row is begun: nothing is owed to it, and its newest minute is that of its insertion
  pub comes-begun : (b : Book) (session newest : ℕ) (U V card : State) → IsEntered g.start g.began session newest (of_card card) → ((u : UnitView) → (unit_seen f U).may_leave u → u.last < session / 60) → LeavesViews (unit_seen f U) (unit_seen f V) (IsBeginning c) →
      MayBeBrought f h.given c b Out U card → MayBeBrought f h.given c b (In session newest) V card
  comes-begun b session newest U V card entered early run comes u x on there =
      let w : UnitView = unit_view f.card_a.number f.card_b.number u in
      ⊎_elim
      (λ was. begun w x (early w was) there (by-view b Out U card comes w x was there))
      (λ here. begun w x (subst (λ (m : ℕ). m < session / 60) (sym here.2.last) (early here.0 here.1)) there
      (subst (λ (es : List Entry). StringGoesOn g h.given c b Out es x) (none here.0 x (early here.0 here.1) there ∙ sym (none w x (subst (λ (m : ℕ). m < session / 60) (sym here.2.last) (early here.0 here.1)) there)) (by-view b Out U card comes here.0 x here.1 there)))
      (run.now w (u, on, refl))
    where
      none : (v : UnitView) (x : List ℕ) → v.last < session / 60 → card.may_leave x → owed c v (own_view x) ≡ []
      none v x low there = ap (λ (s : ℕ). owed_in (row c v) v.last s (own_view x).mark) (entered.session (own_view x) (x, there, refl)) ∙ owed-new (row c v) v.last session (own_view x).mark low

      begun : (v : UnitView) (x : List ℕ) → v.last < session / 60 → card.may_leave x → StringGoesOn g h.given c b Out (owed c v (own_view x)) x → StringGoesOn g h.given c b (In session newest) (owed c v (own_view x)) x
      begun v x low there goes = subst (λ (es : List Entry). StringGoesOn g h.given c b (In session newest) es x) (sym (none v x low there))
          (goes-later g h.given c b b Out (In session newest) [] [] x refl (let high = (entered.answered (own_view x) (x, there, refl)).0 in omega (arith, high)) (subst (λ (es : List Entry). StringGoesOn g h.given c b Out es x) (none v x low there) goes))

  -- it is torn out between two calls
  pub comes-torn : (b : Book) (session newest floor : ℕ) (unit card : State) → MayBeBrought f h.given c b (In session newest) unit card → MayBeBrought f h.given c b (Torn session newest floor) unit card
  comes-torn b session newest floor unit card comes u x on there = comes u x on there

  -- ALL OF IT
  ahead-by : (z : Standing) (i : HistoryMinute) (U : Seen UnitView) (X : Seen CardView) → MeetsStanding c g.start g.began z [] U X → Fits c g.start z i → (x : CardView) → X.left_since g.began x → (on_card c i ≡ []) ⊎ (x.mark < i.minute)
  ahead-by z i U X stands (inl none) x left = inl none
  ahead-by Out i U X stands (inr present) x left = absurd present
  ahead-by (In session newest) i U X stands (inr present) x left = inr (omega (arith, stands.1 x left, present.1))
  ahead-by (Torn session newest floor) i U X stands (inr present) x left = inr (omega (arith, stands.0 x left, present.1))

  pub strung-broken : (b : Book) (z : Standing) (i : HistoryMinute) (U V card : State) → IsCoherent card → MayKeep f c b z i U card → LeavesViews (unit_seen f U) (unit_seen f V) (IsKeeping KeepsMinute GivesUpDay i) → IsStrung f h c b z U card → IsStrung f h c (broken i b) z V card
  strung-broken b z i U V card whole may run s =
      let ahead : (x : List ℕ) → card.left_since g.began x → (on_card c i ≡ []) ⊎ ((own_view x).mark < i.minute) = λ x left. ahead-by z i (unit_seen f U) (of_card card) may.rule.stands may.fits (own_view x) (x, left, refl) in
      record {
        string = string-broken b i may.one.0 card may.none may.one.1 may.later ahead s.string;
        comes = comes-broken b z i U V card may.none may.day may.early may.rule may.fits (λ x there. ahead x (whole.counts_now g.began x may.rule.dark.later there)) s.comes run;
      }

  pub strung-kept : (b : Book) (z : Standing) (i : HistoryMinute) (unit card : State) → IsStrung f h c (broken i b) z unit card → IsStrung f h c (kept i b) z unit card
  strung-kept b z i unit card s = record { string = string-kept b i card s.string; comes = comes-kept b i z unit card s.comes }

  pub strung-found : (b : Book) (k : ℕ) (z : Standing) (U V card : State) → IsCoherent card → All (λ i. i.minute ≤ k) b.sure → CardDark c g.start AnyKept g.began b z (unit_seen f U) (of_card card) → LeavesViews (unit_seen f U) (unit_seen f V) Nothing →
      IsStrung f h c b z U card → IsStrung f h c (found k b) z V card
  strung-found b k z U V card whole sure dark run s = record {
    string = string-found b k card sure (λ x left. dark.since (own_view x) (x, left, refl)) s.string;
    comes = comes-found b k z U V card sure (λ x there. dark.since (own_view x) (x, whole.counts_now g.began x dark.later there, refl)) run s.comes;
  }
