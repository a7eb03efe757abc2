-- The unit keeps a minute, and owes its entries to the cards: all that is carried goes on.
use Rattle.std.proofs.Common.{◌≡◌, ◌∙◌, ◌⊎◌, inl, inr, ⊎_elim, ℕ, suc, max, ◌<◌, ◌≤◌, Bool, true, false, Option, Some, None, is_some, List, [], ◌∷◌, ◌++◌, All, Contains, refl, ap, subst, sym, arith, append_assoc}
use Rattle.std.specs.Prelude.{option_to_list}
use Rattle.std.proofs.lemmas.List.{append-nil}
use Rattle.std.proofs.lemmas.List.Elements.{All-nil, All-head, All-weaker, All-append, Contains-append_left, filter-append}
use Rattle.activity_codec.specs.declared.entries.Entry.{Entry}
use Rattle.trace_model.specs.declared.Card.{Card}
use Rattle.trace_model.specs.declared.Card.TheVariants.{A, B}
use Rattle.tach_media.specs.Medium.{State, IsCoherent, HasCause, last_count}
use Rattle.log_model.specs.declared.lines.Mark.{Mark}
use Rattle.log_model.specs.Causes.{device_of}
use Rattle.run_devices.specs.card_retention.Retains.{Rise}
use Rattle.hand_model.specs.card_image.Own.{own_view, IsOwnValid, KeepsOf}
use Rattle.card_session.specs.Inserting.{Follow}
use Rattle.card_session.specs.Repairs.{first_minute}
use Rattle.hand_model.specs.Written.{Hands}
use Rattle.run_devices.specs.history_model.Minutes.{HistoryMinute, card_history, on_card, up_to}
use Rattle.run_devices.specs.history_model.Presence.{CardStart}
use Rattle.run_devices.specs.history_model.Book.{Book, all, kept, broken}
use Rattle.run_devices.proofs.history_model.Books.{history-append, history-one, all-none, all-kept, up_to-whole, on_card-minute, mark-earlier}
use Rattle.run_devices.proofs.history_model.Filters.{all-back}
use Rattle.run_devices.specs.device_rule.Views.{UnitView, unit_view, owed}
use Rattle.run_devices.specs.device_rule.Device.{Seen, LeavesViews}
use Rattle.run_devices.specs.device_rule.Filling.{KeepsMinute, GivesUpDay}
use Rattle.run_devices.specs.device_rule.Steps.{IsKeeping}
use Rattle.run_devices.specs.device_rule.Rules.{Standing, Out, In, Torn, since, IsPresent, MeetsStanding, Fits, CardRule, Meets}
use Rattle.run_devices.specs.device_rule.Marked.{of_card, HasBrought}
use Rattle.run_devices.proofs.device_rule.Staying.{commit-stays}
use Rattle.hand_model.specs.card_image.View.{CardView}
use Rattle.run_devices.specs.safety_model.Unit.{marks_of, Increase}
use Rattle.run_devices.specs.safety_model.Safe.{card_of}
use Rattle.run_devices.specs.run_unit_course.Legs.{Travel}
use Rattle.device_calls.specs.Rule.{IsCommitted, IsHeldUp}
use Rattle.device_calls.specs.Travel.{HasGone}
use Rattle.device_calls.proofs.EntryOwed.{worked}
use Rattle.run_crew.specs.declared.cards.Cards.{Cards}
use Rattle.run_devices.specs.run_promise.Found.{CardFound, Found, found_of, unit_seen, AnyKept}
use Rattle.run_devices.specs.run_promise.Cards.{brought_by, counted_to, StringHolds, IsStrung, IsCardHeld, CardMarksHold}
use Rattle.run_devices.specs.run_promise.Between.{RunLedger, devices}
use Rattle.run_devices.proofs.run_promise.Behind.{owed-until}
use Rattle.run_devices.proofs.run_promise.Waiting.{string-broken, comes-broken, strung-kept}
use Rattle.run_devices.specs.Strung.{CardHoldsString}
use Rattle.run_devices.specs.Told.{AreFoundCards, sure_of, CardHoldsStringUnpowered, owes_nothing, AllGo, IsLitWith, IsLitOwing, DevicesUnpowered, AreEarly}
use Rattle.run_devices.proofs.Parts.{both_of, of-steps, of-rests, told-one, held-same, sure-same, strung-with}
use Rattle.run_minutes.specs.Minutes.{unit_mark}
use Rattle.run_minutes.specs.Books.{MayCome, carried_broken}
use Rattle.run_minutes.specs.Owing.{owes_minute, carried_kept, IsOwedOrCut}
use Rattle.run_devices.proofs.StringMore.{held-more}

-- ---- what a card is to have, with a minute more

pub brought-broken : (c : Card) (start : CardStart) (b : Book) (i : HistoryMinute) → b.maybe ≡ None → brought_by c start (broken i b) ≡ brought_by c start b ++ on_card c i
brought-broken c start b i none =
    ap (λ (es : List Entry). start.owed ++ es) (history-append c b.sure (i ∷ []) ∙ ap (λ (es : List Entry). card_history c b.sure ++ es) (history-one c i) ∙ ap (λ (is : List HistoryMinute). card_history c is ++ on_card c i) (sym (all-none b none)))
    ∙ sym (append_assoc start.owed (card_history c (all b)) (on_card c i))

pub brought-kept : (c : Card) (start : CardStart) (b : Book) (i : HistoryMinute) → b.maybe ≡ None → brought_by c start (kept i b) ≡ brought_by c start b ++ on_card c i
brought-kept c start b i none = ap (λ (is : List HistoryMinute). start.owed ++ card_history c is) (all-kept i b) ∙ brought-broken c start b i none

-- the string where nothing is said
string-same : (f : CardFound) (hd : Hands) (c : Card) (b d : Book) (X : State) → brought_by c f.start b ≡ brought_by c f.start d → StringHolds f hd c b X → StringHolds f hd c d X
string-same f hd c b d X same s = record {
  kept = λ x left. subst (λ (es : List Entry). KeepsOf f.image hd.given (f.start.entries ++ counted_to (own_view x).mark es) (own_view x).held) same (s.kept x left);
  told = s.told;
  behind = s.behind;
  stay = s.stay;
  valid = s.valid;
  sizes = s.sizes;
  number = s.number;
  rises = subst Rise same s.rises;
}

-- a minute in which a card is present is later than its newest one as it stands
present-late : (start : CardStart) (z : Standing) (m n : ℕ) → IsPresent start z m → suc (max start.word (since z n)) ≤ m
present-late start Out m n present = absurd present
present-late start (In session newest) m n present = omega (arith, present.0, present.1)
present-late start (Torn session newest floor) m n present = omega (arith, present.0, present.1)

-- and than the end mark of each image
present-ahead : (c : Card) (start : CardStart) (began : ℕ) (z : Standing) (due : List Entry) (m : ℕ) (U : Seen UnitView) (X : Seen CardView) → MeetsStanding c start began z due U X → IsPresent start z m → (x : CardView) → X.left_since began x → x.mark < m
present-ahead c start began Out due m U X stands present x left = absurd present
present-ahead c start began (In session newest) due m U X stands present x left = omega (arith, stands.1 x left, present.1)
present-ahead c start began (Torn session newest floor) due m U X stands present x left = omega (arith, stands.0 x left, present.1)

-- ---- marks

-- the unit's mark is none of a card
marks-beside : (c : Card) (marks : List Mark) (minute clock : ℕ) → marks_of (device_of c) (marks ++ unit_mark minute clock ∷ []) ≡ marks_of (device_of c) marks
marks-beside A marks minute clock = filter-append _ marks (unit_mark minute clock ∷ []) ∙ append-nil (marks_of (device_of A) marks)
marks-beside B marks minute clock = filter-append _ marks (unit_mark minute clock ∷ []) ∙ append-nil (marks_of (device_of B) marks)

marks-broken : (f : CardFound) (c : Card) (b : Book) (i : HistoryMinute) (marks : List Mark) (X : State) → CardMarksHold f c b marks X → CardMarksHold f c (broken i b) marks X
marks-broken f c b i marks X h = record {
  held = All-weaker (IsCardHeld f c b X) (IsCardHeld f c (broken i b) X) (λ m is. record { began = is.began; holds = is.holds; prompt = is.prompt; stood = is.stood; sure = is.sure }) (marks_of (device_of c) marks) h.held;
  rise = h.rise;
  none = h.none;
}

marks-kept : (f : CardFound) (c : Card) (b : Book) (i : HistoryMinute) (clock : ℕ) (marks : List Mark) (X : State) → CardMarksHold f c b marks X → CardMarksHold f c (kept i b) (marks ++ unit_mark i.minute clock ∷ []) X
marks-kept f c b i clock marks X h =
    let same = sym (marks-beside c marks i.minute clock) in
    record {
      held = subst (All (IsCardHeld f c (kept i b) X)) same (All-weaker (IsCardHeld f c b X) (IsCardHeld f c (kept i b) X) more (marks_of (device_of c) marks) h.held);
      rise = subst Increase same h.rise;
      none = λ bad. sym same ∙ h.none bad;
    }
  where
    longer : f.start.owed ++ card_history c (b.sure ++ i ∷ []) ≡ (f.start.owed ++ card_history c b.sure) ++ card_history c (i ∷ [])
    longer = ap (λ (es : List Entry). f.start.owed ++ es) (history-append c b.sure (i ∷ [])) ∙ sym (append_assoc f.start.owed (card_history c b.sure) (card_history c (i ∷ [])))

    more : (m : Mark) → IsCardHeld f c b X m → IsCardHeld f c (kept i b) X m
    more m is = record {
      began = is.began;
      holds = is.holds;
      prompt = is.prompt;
      stood = is.stood;
      sure = (
        is.sure.0,
        subst (λ (es : List Entry). Contains es is.sure.0) (sym longer) (Contains-append_left (f.start.owed ++ card_history c b.sure) (card_history c (i ∷ [])) is.sure.0 is.sure.1),
        is.sure.2,
      );
    }

-- ---- all of it

module _ (f : Found) (cards : Cards) (found : AreFoundCards f cards) (w : RunLedger) (i : HistoryMinute) (U V X Y : State) (whole : IsCoherent U) (wholes : (c : Card) → IsCoherent (card_of (devices U X Y) c))
    (h : IsLitWith f w (owes_minute i) owes_nothing (devices U X Y)) (go : AllGo f w owes_nothing cards (devices U X Y)) (comes : MayCome f w i) (one : (c : Card) → (o : Option Entry) × (on_card c i ≡ option_to_list o)) (early : AreEarly w) (failed : Bool)
    (tells : is_some V.image ≡ is_some U.image) (cause : HasCause U V failed) (unit : IsHeldUp f.unit w.book w.marks i failed V)
    (committed : (c : Card) → IsOwnValid (found_of f c).image → IsCommitted (both_of f found.two) c w.book i (w.standing c) failed V (card_of (devices U X Y) c))
    (views : LeavesViews (unit_seen f U) (unit_seen f V) (IsKeeping KeepsMinute GivesUpDay i)) where
  last : (u : UnitView) → (unit_seen f U).may_leave u → u.last < i.minute
  last u on =
      let rule = h.unit.unit_holds f.card_a.number f.card_b.number in
      omega (arith, comes.late, mark-earlier f.unit.first w.due w.book u.last rule.order (rule.now u on).mark)

  module _ (c : Card) (valid : IsOwnValid (found_of f c).image) where
    abbrev g : CardFound
    g = found_of f c

    abbrev z : Standing
    z = w.standing c

    abbrev card : State
    card = card_of (devices U X Y) c

    rule : CardRule c g.start AnyKept g.began w.book z (on_card c i) [] (unit_seen f U) (of_card card)
    rule = h.rules c valid

    fits : Fits c g.start z i
    fits = ⊎_elim (λ none. inl none) (λ present. inr present.1) (comes.fits c)

    since-now : (x : List ℕ) → card.may_leave x → card.left_since g.began x
    since-now x there = (wholes c).counts_now g.began x rule.dark.later there

    ahead : (x : List ℕ) → card.left_since g.began x → (on_card c i ≡ []) ⊎ ((own_view x).mark < i.minute)
    ahead x left = ⊎_elim (λ none. inl none) (λ present. inr (present-ahead c g.start g.began z [] i.minute (unit_seen f U) (of_card card) rule.stands present (own_view x) (x, left, refl))) fits

    -- all that the card is to have so far is earlier, where it is present
    later : IsPresent g.start z i.minute → All (λ e. e.minute < i.minute) (brought_by c g.start w.book)
    later present =
        let u = told-one U.image h.tells in
        let x = told-one card.image (go.held c valid).tells in
        let v : UnitView = unit_view f.card_a.number f.card_b.number u.0 in
        let on : (unit_seen f U).may_leave v = (u.0, whole.is_left u.0 u.1, refl) in
        let there = (wholes c).is_left x.0 x.1 in
        let m : Meets c g.start AnyKept (all w.book) z v (own_view x.0) = rule.dark.meets v (own_view x.0) on (x.0, there, refl) in
        let mark : (own_view x.0).mark < i.minute = present-ahead c g.start g.began z [] i.minute (unit_seen f U) (of_card card) rule.stands present (own_view x.0) (x.0, since-now x.0 there, refl) in
        let sure = ((h.unit.unit_holds f.card_a.number f.card_b.number).now v on).sure in
        let is : m.more ++ owed c v (own_view x.0) ≡ brought_by c g.start w.book =
        m.whole ∙ ap (λ (is : List HistoryMinute). g.start.owed ++ card_history c is) (ap (up_to v.last) (all-none w.book h.none) ∙ up_to-whole v.last w.book.sure sure ∙ sym (all-none w.book h.none)) in
        let low : v.last < i.minute = last v on in
        subst (All (λ (e : Entry). e.minute < i.minute)) is (All-append (λ (e : Entry). e.minute < i.minute) m.more (owed c v (own_view x.0))
        (All-weaker (λ (e : Entry). e.minute ≤ (own_view x.0).mark) (λ e. e.minute < i.minute) (λ e le. omega (arith, le, mark)) m.more (all-back (λ (e : Entry). e.minute ≤ (own_view x.0).mark) g.start.entries m.more m.had))
        (All-weaker (λ (e : Entry). e.minute ≤ v.last) (λ e. e.minute < i.minute) (λ e le. omega (arith, le, low)) (owed c v (own_view x.0)) (owed-until c v (own_view x.0))))

    abbrev hd : Hands
    hd = w.hands c

    strung : IsStrung f hd c w.book z U card
    strung = strung-with f w cards (devices U X Y) found (owes_minute i) owes_nothing h c valid (go.held c valid)

    strung-cut : IsStrung f hd c (broken i w.book) z V card
    strung-cut = record {
      string = ⊎_elim
          (λ none. string-same g hd c w.book (broken i w.book) card (sym (brought-broken c g.start w.book i h.none ∙ ap (λ (es : List Entry). brought_by c g.start w.book ++ es) none ∙ append-nil (brought_by c g.start w.book))) strung.string)
          (λ present. string-broken f hd c w.book i (one c).0 card h.none (one c).1 (later present) ahead strung.string) fits;
      comes = comes-broken f hd c w.book z i U V card h.none comes.day last rule fits (λ x there. ahead x (since-now x there)) strung.comes views;
    }

    done : IsStrung f hd c (kept i w.book) z V card
    done = strung-kept f hd c w.book z i V card strung-cut

    brought : (k : ℕ) → Contains (w.brought c) k → HasBrought f.card_a.number f.card_b.number c k V card
    brought k in_ = commit-stays c (unit_seen f U) (unit_seen f V) (of_card card) g.start g.began z i k (omega (arith, early c k in_, comes.late)) comes.day last rule.stands rule.cells fits views (h.brought c valid k in_)

    -- what the minute says is behind the bound of each image
    behind : (n : ℕ) → All (λ e. suc (max g.start.word (since z n)) ≤ e.minute) (on_card c i)
    behind n = ⊎_elim
        (λ none. subst (All (λ (e : Entry). suc (max g.start.word (since z n)) ≤ e.minute)) (sym none) (All-nil (λ (e : Entry). suc (max g.start.word (since z n)) ≤ e.minute)))
        (λ present. All-weaker (λ (e : Entry). e.minute ≡ i.minute) (λ e. suc (max g.start.word (since z n)) ≤ e.minute) (λ e is. omega (arith, is, present-late g.start z i.minute n present)) (on_card c i) (on_card-minute c i)) fits

    wait : CardHoldsStringUnpowered g hd c (broken i w.book) z card
    wait = record {
      held = held-same g hd c w.book (sure_of (broken i w.book)) z card (sure-same c g.start w.book h.none) (go.held c valid);
      comes = λ x there. subst (All (λ (e : Entry). suc (max g.start.word (since z (own_view x).newest)) ≤ e.minute)) (sym (history-one c i)) (behind (own_view x).newest);
    }

    -- an entry, or none, that is later
    follow-one : (m : ℕ) (o : Option Entry) → on_card c i ≡ option_to_list o → (on_card c i ≡ []) ⊎ (m < i.minute) → Follow m (on_card c i)
    follow-one m None is ahead = subst (Follow m) (sym is) tt
    follow-one m (Some e) is (inl none) = absurd (empty (sym is ∙ none))
      where
        empty : e ∷ [] ≡ [] → ⊥
        empty e = cc
    follow-one m (Some e) is (inr lt) =
        let at : e.minute ≡ i.minute = All-head (λ (d : Entry). d.minute ≡ i.minute) e [] (subst (All (λ (d : Entry). d.minute ≡ i.minute)) is (on_card-minute c i)) in
        subst (Follow m) (sym is) (omega (arith, at, lt), tt)

    first-behind : (n : ℕ) (es : List Entry) → All (λ e. n ≤ e.minute) es → n ≤ first_minute n es
    first-behind n [] each = omega arith
    first-behind n (e ∷ es) each = All-head (λ (d : Entry). n ≤ d.minute) e es each

    held : CardHoldsString g hd c (kept i w.book) z card
    held = held-more g hd c w.book (kept i w.book) z card (on_card c i) (brought-kept c g.start w.book i h.none) (subst Rise (brought-kept c g.start w.book i h.none) done.string.rises)
        (λ x left. follow-one (own_view x).mark (one c).0 (one c).1 (ahead x left))
        (λ x there. (follow-one (own_view x).mark (one c).0 (one c).1 (ahead x (since-now x there)), first-behind (suc (max g.start.word (since z (own_view x).newest))) (on_card c i) (behind (own_view x).newest)))
        (go.held c valid)

  -- ---- the unit has it

  owing : failed ≡ false → V.clock < last_count → IsLitOwing f (carried_kept i V.clock w) (owes_minute i) (devices V X Y)
  owing well time = record {
    tells = tells ∙ h.tells;
    works = (worked well cause).0;
    unit = unit.lit well time;
    none = refl;
    rules = λ c valid. of-steps f found.two c (kept i w.book) (w.standing c) [] (on_card c i) V (card_of (devices U X Y) c) ((committed c valid).lit well);
    valid = h.valid;
    rises = λ c valid. (done c valid).string.rises;
    brought = brought;
    marks = λ c. marks-kept (found_of f c) c w.book i V.clock w.marks (card_of (devices U X Y) c) (h.marks c);
    hands = h.hands;
  }

  goes : AllGo f (carried_kept i V.clock w) (owes_minute i) cards (devices V X Y)
  goes = record {
    held = held;
    goes = λ c valid.
        let o = go.goes c valid in
        record { has = o.has; all = ap (λ (es : List Entry). es ++ on_card c i) (sym (append-nil o.has) ∙ o.all) ∙ sym (brought-kept c (found_of f c).start w.book i h.none); goes = o.goes };
  }

  -- ---- or failed

  cut : DevicesUnpowered f (carried_broken i w) (devices V X Y)
  cut = record {
    carried = record {
      tells = tells ∙ h.tells;
      unit = unit.dark;
      cards = λ c valid. record {
        rests = of-rests f found.two c (broken i w.book) (w.standing c) V (card_of (devices U X Y) c) (committed c valid).dark;
        string = (strung-cut c valid).string;
        comes = (strung-cut c valid).comes;
        brought = brought c valid;
      };
      marks = λ c. marks-broken (found_of f c) c w.book i w.marks (card_of (devices U X Y) c) (h.marks c);
      hands = h.hands;
    };
    wait = wait;
  }

  pub owed-or-cut : (start : ℕ) (travel : Travel) (leg : ℕ) → HasGone start w.book travel i leg failed V → V.clock < last_count → IsOwedOrCut failed f start w i travel leg cards (devices V X Y)
  owed-or-cut start travel leg gone time = by failed refl
    where
      by : (b : Bool) → failed ≡ b → IsOwedOrCut b f start w i travel leg cards (devices V X Y)
      by false well = (owing well time, goes, gone.lit well)
      by true bad = inr (cut, gone.dark)
