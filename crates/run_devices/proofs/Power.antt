-- Power is back: the unit is read, and its last-kept minute found; then it is mended.
use Rattle.std.proofs.Common.{◌≡◌, ◌≢◌, inl, ⊎_elim, ℕ, ◌<◌, ◌≤◌, Bool, true, false, Option, Some, None, is_some, List, [], ◌∷◌, ◌++◌, All, Contains, refl, ap, subst, ◌∙◌, sym, arith, append_assoc}
use Rattle.std.specs.Prelude.{option_to_list}
use Rattle.std.proofs.lemmas.List.{append-nil}
use Rattle.std.proofs.lemmas.List.Elements.{All-weaker, All-head, Contains-append_left}
use Rattle.device_calls.specs.activity_codec.declared.entries.Entry.{Entry}
use Rattle.device_calls.specs.trace_model.declared.Card.{Card}
use Rattle.device_calls.specs.trace_model.declared.Card.TheVariants.{A, B}
use Rattle.tach_media.specs.Medium.{State, IsCoherent, LeavesOnly, Unchanged}
use Rattle.run_crew.specs.log_model.declared.lines.Mark.{Mark}
use Rattle.run_crew.specs.log_model.Causes.{device_of}
use Rattle.device_calls.specs.card_retention.Retains.{Rise}
use Rattle.device_calls.specs.card_image.Own.{own_view, IsOwnValid}
use Rattle.device_calls.specs.card_session.Inserting.{Follow}
use Rattle.device_calls.specs.card_session.Repairs.{first_minute}
use Rattle.device_calls.specs.unit_model.Image.{last_kept}
use Rattle.device_calls.specs.history_model.Minutes.{HistoryMinute, card_history, up_to}
use Rattle.device_calls.specs.history_model.Book.{Book, found}
use Rattle.device_calls.proofs.history_model.Books.{history-append, all-found, up_to-all, up_to-one}
use Rattle.device_calls.proofs.history_model.Filters.{all-back}
use Rattle.device_calls.specs.hand_model.Written.{Hands}
use Rattle.device_calls.specs.device_rule.Views.{unit_view}
use Rattle.device_calls.specs.device_rule.Device.{LeavesViews, Nothing}
use Rattle.device_calls.specs.device_rule.Rules.{Standing, Out}
use Rattle.device_calls.specs.device_rule.Marked.{of_card, IsBeside}
use Rattle.device_calls.specs.device_rule.Filling.{FillsDays}
use Rattle.device_calls.proofs.device_rule.CardLaws.{dark-beside}
use Rattle.device_calls.proofs.device_rule.Holding.{rise-back}
use Rattle.device_calls.proofs.device_rule.Staying.{note-stays}
use Rattle.device_calls.proofs.device_rule.UnitLaws.{sure-found}
use Rattle.device_calls.proofs.device_rule.Viewed.{seen-run}
use Rattle.device_calls.specs.unit_rule.Safe.{Devices, card_of}
use Rattle.device_calls.specs.unit_rule.Unit.{marks_of}
use Rattle.device_calls.specs.unit_rule.Rule.{Started, seen_unit}
use Rattle.device_calls.specs.unit_rule.Marks.{UnitFollowsBook}
use Rattle.device_calls.proofs.unit_rule.Found.{one-image}
use Rattle.device_calls.proofs.unit_rule.Marking.{holds-found, holds-read}
use Rattle.device_calls.proofs.unit_rule.Moves.{shown-last}
use Rattle.device_calls.specs.Rule.{Both, CardRests, IsTakenUp, IsHeldMended}
use Rattle.device_calls.proofs.PowerBack.{found-rests}
use Rattle.run_crew.specs.declared.cards.Accepted.{Accepted}
use Rattle.run_crew.specs.declared.cards.Cards.{Cards}
use Rattle.run_crew.specs.Cards.{session_of}
use Rattle.run_promise.specs.Found.{CardFound, Found, found_of, unit_seen, AnyKept}
use Rattle.run_promise.specs.Cards.{brought_by, CardWaits, IsCardHeld, CardMarksHold, HandMarksHold}
use Rattle.run_promise.specs.Between.{RunLedger, devices}
use Rattle.run_promise.proofs.Waiting.{comes-beside, strung-found}
use Rattle.run_devices.specs.Strung.{CardHoldsString}
use Rattle.run_devices.proofs.Strung.{held-out}
use Rattle.run_devices.specs.Told.{carried_found, all_out, AreFoundCards, sure_of, CardHoldsStringUnpowered, AllWait, DevicesPowered, DevicesUnpowered}
use Rattle.run_devices.proofs.Parts.{both_of, as-rests, of-rests, of-steps, left-one, held-same, held-dark, held-lit, CardLit, CardOff, powered-of, powerless-of, brought-on}
use Rattle.run_devices.proofs.OnCards.{bound_of}
use Rattle.run_devices.proofs.StringMore.{rise-follow, held-more}

-- ---- the string, as the book is settled

pub follow-of : (m : ℕ) (es : List Entry) → Rise es → All (λ e. m < e.minute) es → Follow m es
follow-of m [] rise late = tt
follow-of m (e ∷ es) rise late = rise-follow m e es (All-head (λ (d : Entry). m < d.minute) e es late) rise

first-late : (n : ℕ) (es : List Entry) → All (λ e. n ≤ e.minute) es → n ≤ first_minute n es
first-late n [] each = omega arith
first-late n (e ∷ es) each = All-head (λ (d : Entry). n ≤ d.minute) e es each

module _ (f : CardFound) (hd : Hands) (c : Card) (b : Book) (k : ℕ) (z : Standing) (X : State) (whole : IsCoherent X) (sure : All (λ i. i.minute ≤ k) b.sure) (began : f.began ≤ X.clock) (rises : Rise (brought_by c f.start b)) (lacks : (x : List ℕ) → X.left_since f.began x → All (λ e. (own_view x).mark < e.minute) (card_history c (option_to_list b.maybe)))
    (dark : CardHoldsStringUnpowered f hd c b z X) where
  with-more : brought_by c f.start b ≡ brought_by c f.start (sure_of b) ++ card_history c (option_to_list b.maybe)
  with-more =
      ap (λ (es : List Entry). f.start.owed ++ es) (history-append c b.sure (option_to_list b.maybe) ∙ ap (λ (is : List HistoryMinute). card_history c is ++ card_history c (option_to_list b.maybe)) (sym (append-nil b.sure)))
      ∙ sym (append_assoc f.start.owed (card_history c (b.sure ++ [])) (card_history c (option_to_list b.maybe)))

  rises-more : Rise (brought_by c f.start (sure_of b) ++ card_history c (option_to_list b.maybe))
  rises-more = subst Rise with-more rises

  follows : (x : List ℕ) → X.left_since f.began x → Follow (own_view x).mark (card_history c (option_to_list b.maybe))
  follows x left = follow-of (own_view x).mark (card_history c (option_to_list b.maybe)) (rise-back (brought_by c f.start (sure_of b)) (card_history c (option_to_list b.maybe)) rises-more) (lacks x left)

  settled : brought_by c f.start (found k b) ≡ f.start.owed ++ card_history c (b.sure ++ up_to k (option_to_list b.maybe))
  settled = ap (λ (is : List HistoryMinute). f.start.owed ++ card_history c is) (all-found k b ∙ up_to-all b k sure)

  pub held-found : CardHoldsString f hd c (found k b) z X
  held-found = ⊎_elim
      (λ none. held-same f hd c (sure_of b) (found k b) z X (sym (settled ∙ ap (λ (is : List HistoryMinute). f.start.owed ++ card_history c (b.sure ++ is)) none)) dark.held)
      (λ same. held-more f hd c (sure_of b) (found k b) z X (card_history c (option_to_list b.maybe)) (settled ∙ ap (λ (is : List HistoryMinute). f.start.owed ++ card_history c (b.sure ++ is)) same ∙ with-more) rises-more
      (λ x left. follows x left)
      (λ x there. (follows x (whole.counts_now f.began x began there), first-late (bound_of f z x) (card_history c (option_to_list b.maybe)) (dark.comes x there))) dark.held)
      (up_to-one k b.maybe)

-- ---- marks

marks-found : (f : CardFound) (c : Card) (b : Book) (k : ℕ) (marks : List Mark) (X : State) → All (λ i. i.minute ≤ k) b.sure → CardMarksHold f c b marks X → CardMarksHold f c (found k b) marks X
marks-found f c b k marks X sure h = record {
  held = All-weaker (IsCardHeld f c b X) (IsCardHeld f c (found k b) X) (λ m one. record { began = one.began; holds = one.holds; prompt = one.prompt; stood = one.stood; sure = (one.sure.0, there one.sure.0 one.sure.1, one.sure.2) }) (marks_of (device_of c) marks) h.held;
  rise = h.rise;
  none = h.none;
}
  where
    there : (e : Entry) → Contains (f.start.owed ++ card_history c b.sure) e → Contains (f.start.owed ++ card_history c (found k b).sure) e
    there e at = subst (λ (es : List Entry). Contains es e)
        (append_assoc f.start.owed (card_history c b.sure) (card_history c (up_to k (option_to_list b.maybe)))
        ∙ ap (λ (es : List Entry). f.start.owed ++ es) (sym (history-append c b.sure (up_to k (option_to_list b.maybe))) ∙ ap (card_history c) (sym (up_to-all b k sure))))
        (Contains-append_left (f.start.owed ++ card_history c b.sure) (card_history c (up_to k (option_to_list b.maybe))) e at)

-- ---- THE UNIT IS READ, and its last-kept minute found

beside-nothing : (U V : State) (a b : List ℕ) → LeavesViews (seen_unit a b U) (seen_unit a b V) Nothing → LeavesViews (seen_unit a b U) (seen_unit a b V) IsBeside
beside-nothing U V a b run = record {
  later = run.later;
  since = λ t w le on. ⊎_elim (λ was. inl was) (λ one. absurd one.2) (run.since t w le on);
  now = λ w on. ⊎_elim (λ was. inl was) (λ one. absurd one.2) (run.now w on);
}

module _ (f : Found) (w : RunLedger) (d : Devices) (V : State) (two : f.card_a.number ≢ f.card_b.number) (before : IsCoherent d.unit) (after : IsCoherent V) (wholes : (c : Card) → IsCoherent (card_of d c)) (p : DevicesUnpowered f w d) (run : LeavesOnly d.unit V Unchanged) (works : V.works ≡ true) (x : List ℕ) (is : V.image ≡ Some x) where
  abbrev k : ℕ
  k = last_kept x

  seen-same : (a b : List ℕ) → LeavesViews (seen_unit a b d.unit) (seen_unit a b V) Nothing
  seen-same a b = seen-run (unit_view a b) Unchanged Nothing d.unit V before run (λ y e never. absurd never)

  sure : All (λ (i : HistoryMinute). i.minute ≤ last_kept x) w.book.sure
  sure = sure-found (FillsDays f.unit.days) f.unit.first {U = seen_unit [] [] d.unit} {V = seen_unit [] [] V} f.unit.began w.due (last_kept x) w.book (unit_view [] [] x) (p.carried.unit.unit_holds [] [])
      (seen-same [] []) (x, after.is_left x is, refl) (shown-last [] [] x)

  one : (c : Card) → IsOwnValid (found_of f c).image → CardWaits f (w.hands c) c (found (last_kept x) w.book) (w.standing c) (w.brought c) V (card_of d c)
  one c valid =
      let was = p.carried.cards c valid in
      let string = strung-found f (w.hands c) c w.book (last_kept x) (w.standing c) d.unit V (card_of d c) (wholes c) sure was.rests (seen-same f.card_a.number f.card_b.number) (record { string = was.string; comes = was.comes }) in
      record {
        rests = of-rests f two c (found (last_kept x) w.book) (w.standing c) V (card_of d c) (found-rests (both_of f two) c f.unit w.due w.book w.marks (w.standing c) d.unit V (card_of d c) before after p.carried.unit run works x is
            (as-rests f two c w.book (w.standing c) d.unit (card_of d c) was.rests));
        string = string.string;
        comes = string.comes;
        brought = λ n in_. note-stays c (unit_seen f d.unit) (unit_seen f V) (of_card (card_of d c)) (beside-nothing d.unit V f.card_a.number f.card_b.number (seen-same f.card_a.number f.card_b.number)) n (was.brought n in_);
      }

  held-one : (c : Card) → IsOwnValid (found_of f c).image → CardHoldsString (found_of f c) (w.hands c) c (found (last_kept x) w.book) (w.standing c) (card_of d c)
  held-one c valid =
      let was = p.carried.cards c valid in
      held-found (found_of f c) (w.hands c) c w.book (last_kept x) (w.standing c) (card_of d c) (wholes c) sure was.rests.later was.string.rises
      (λ y left. let had = was.rests.since (own_view y) (y, left, refl) in all-back (λ (e : Entry). (own_view y).mark < e.minute) had.rest (card_history c (option_to_list w.book.maybe)) had.lacks) (p.wait c valid)

  pub found-powerless : DevicesUnpowered f (carried_found (last_kept x) w) (devices V d.card_a d.card_b)
  found-powerless = record {
    carried = record {
      tells = ap is_some is;
      unit = holds-found f.unit w.due w.book w.marks p.carried.unit before (last_kept x) run (λ y left. ap last_kept (one-image V x after works is y left)) sure;
      cards = cards;
      marks = marks;
      hands = hands;
    };
    wait = wait;
  }
    where
      hands : (c : Card) → IsOwnValid (found_of f c).image → HandMarksHold (found_of f c) (w.hands c) (w.firsts c) (card_of (devices V d.card_a d.card_b) c)
      hands A valid = p.carried.hands A valid
      hands B valid = p.carried.hands B valid

      cards : (c : Card) → IsOwnValid (found_of f c).image → CardWaits f (w.hands c) c (found (last_kept x) w.book) (w.standing c) (w.brought c) V (card_of (devices V d.card_a d.card_b) c)
      cards A valid = one A valid
      cards B valid = one B valid

      marks : (c : Card) → CardMarksHold (found_of f c) c (found (last_kept x) w.book) w.marks (card_of (devices V d.card_a d.card_b) c)
      marks A = marks-found f.card_a A w.book (last_kept x) w.marks d.card_a sure (p.carried.marks A)
      marks B = marks-found f.card_b B w.book (last_kept x) w.marks d.card_b sure (p.carried.marks B)

      wait : AllWait f (carried_found (last_kept x) w) (devices V d.card_a d.card_b)
      wait A valid = held-dark f.card_a (w.hands A) A (found (last_kept x) w.book) (w.standing A) d.card_a refl (held-one A valid)
      wait B valid = held-dark f.card_b (w.hands B) B (found (last_kept x) w.book) (w.standing B) d.card_b refl (held-one B valid)

-- ---- THE UNIT IS READ, and that failed: nothing is found

module _ (f : Found) (w : RunLedger) (d : Devices) (V : State) (two : f.card_a.number ≢ f.card_b.number) (before : IsCoherent d.unit) (p : DevicesUnpowered f w d) (run : LeavesOnly d.unit V Unchanged) where
  unread : LeavesViews (unit_seen f d.unit) (unit_seen f V) Nothing
  unread = seen-run (unit_view f.card_a.number f.card_b.number) Unchanged Nothing d.unit V before run (λ y e never. absurd never)

  waits : (c : Card) → IsOwnValid (found_of f c).image → CardWaits f (w.hands c) c w.book (w.standing c) (w.brought c) V (card_of d c)
  waits c valid =
      let was = p.carried.cards c valid in
      record {
        rests = dark-beside c (found_of f c).start AnyKept {U = unit_seen f d.unit} {V = unit_seen f V} {X = of_card (card_of d c)} Nothing (found_of f c).began w.book (w.standing c) unread (λ u v never. absurd never) was.rests;
        string = was.string;
        comes = comes-beside f (w.hands c) c Nothing w.book (w.standing c) d.unit V (card_of d c) (λ u v never. absurd never) unread was.comes;
        brought = λ n in_. note-stays c (unit_seen f d.unit) (unit_seen f V) (of_card (card_of d c)) (beside-nothing d.unit V f.card_a.number f.card_b.number unread) n (was.brought n in_);
      }

  pub unread-powerless : DevicesUnpowered f w (devices V d.card_a d.card_b)
  unread-powerless = record {
    carried = record { tells = run.tells ∙ p.carried.tells; unit = holds-read f.unit w.due w.book w.marks p.carried.unit before run; cards = cards; marks = marks; hands = hands };
    wait = wait;
  }
    where
      hands : (c : Card) → IsOwnValid (found_of f c).image → HandMarksHold (found_of f c) (w.hands c) (w.firsts c) (card_of (devices V d.card_a d.card_b) c)
      hands A valid = p.carried.hands A valid
      hands B valid = p.carried.hands B valid

      cards : (c : Card) → IsOwnValid (found_of f c).image → CardWaits f (w.hands c) c w.book (w.standing c) (w.brought c) V (card_of (devices V d.card_a d.card_b) c)
      cards A valid = waits A valid
      cards B valid = waits B valid

      marks : (c : Card) → CardMarksHold (found_of f c) c w.book w.marks (card_of (devices V d.card_a d.card_b) c)
      marks A = p.carried.marks A
      marks B = p.carried.marks B

      wait : AllWait f w (devices V d.card_a d.card_b)
      wait A valid = p.wait A valid
      wait B valid = p.wait B valid

-- ---- THE UNIT IS MENDED, where the calls say this: no card is accepted any more

module _ (f : Found) (w : RunLedger) (cards : Cards) (U V X Y : State) (found_cards : AreFoundCards f cards) (whole : IsCoherent U) (none : w.book.maybe ≡ None) (p : DevicesUnpowered f w (devices U X Y)) (failed : Bool)
    (holds : (s : Started) (due : ℕ) (b : Book) (marks : List Mark) → UnitFollowsBook s due b marks U → IsHeldMended s due b marks V)
    (first : (r : Both) (c : Card) (b : Book) (z : Standing) → CardRests r c b z U X → IsTakenUp r c b z failed V X)
    (second : (r : Both) (c : Card) (b : Book) (z : Standing) → CardRests r c b z U Y → IsTakenUp r c b z failed V Y) (tells : is_some V.image ≡ is_some U.image) where
  mended-unit : IsHeldMended f.unit w.due w.book w.marks V
  mended-unit = holds f.unit w.due w.book w.marks p.carried.unit

  -- a card behind it, as the call says of it
  module _ (c : Card) (Z : State) (valid : IsOwnValid (found_of f c).image) (was : CardWaits f (w.hands c) c w.book (w.standing c) (w.brought c) U Z) (wait : CardHoldsStringUnpowered (found_of f c) (w.hands c) c w.book (w.standing c) Z) (hands : HandMarksHold (found_of f c) (w.hands c) (w.firsts c) Z) (taken : IsTakenUp (both_of f found_cards.two) c w.book (w.standing c) failed V Z) where
    still : CardHoldsString (found_of f c) (w.hands c) c w.book (w.standing c) Z
    still = held-lit (found_of f c) (w.hands c) c w.book (w.standing c) Z none wait

    mended-off : CardOff f w.book (w.standing c) (w.hands c) (w.firsts c) (w.brought c) c V Z
    mended-off =
        let rests = of-rests f found_cards.two c w.book (w.standing c) V Z taken.dark in
        record {
          rests = rests;
          valid = was.string.valid;
          rises = was.string.rises;
          brought = λ n in_. brought-on f c n w.book (w.standing c) (w.standing c) f.unit w.due w.marks U V Z whole p.carried.tells p.carried.unit none was.rests rests (was.brought n in_);
          held = still;
          hands = hands;
        }

    mended-lit : failed ≡ false → CardLit f w.book Out (w.hands c) (w.firsts c) (w.brought c) None c V Z
    mended-lit well =
        let rule = of-steps f found_cards.two c w.book Out [] [] V Z (taken.lit well) in
        let u = left-one U whole p.carried.tells in
        record {
          rule = rule;
          valid = was.string.valid;
          rises = was.string.rises;
          brought = λ n in_. brought-on f c n w.book (w.standing c) Out f.unit w.due w.marks U V Z whole p.carried.tells p.carried.unit none was.rests rule.dark (was.brought n in_);
          held = held-out f (w.hands c) c w.book (w.standing c) U Z (record {
            sizes = found_cards.sizes c valid;
            entries = found_cards.entries c valid;
            held = still;
            valid = was.string.valid;
            rises = was.string.rises;
            none = none;
            sure = λ v on. ((p.carried.unit.unit_holds f.card_a.number f.card_b.number).now v on).sure;
            rests = was.rests;
          }) u.0 u.1;
          hands = hands;
          goes = record { has = brought_by c (found_of f c).start w.book; all = append-nil (brought_by c (found_of f c).start w.book); goes = tt };
        }

  taken_a : (valid : IsOwnValid f.card_a.image) → IsTakenUp (both_of f found_cards.two) A w.book (w.standing A) failed V X
  taken_a valid = first (both_of f found_cards.two) A w.book (w.standing A) (as-rests f found_cards.two A w.book (w.standing A) U X (p.carried.cards A valid).rests)

  taken_b : (valid : IsOwnValid f.card_b.image) → IsTakenUp (both_of f found_cards.two) B w.book (w.standing B) failed V Y
  taken_b valid = second (both_of f found_cards.two) B w.book (w.standing B) (as-rests f found_cards.two B w.book (w.standing B) U Y (p.carried.cards B valid).rests)

  pub mended-powered : failed ≡ false → V.works ≡ true → ((c : Card) → session_of cards c ≡ None) → DevicesPowered f (all_out w) cards (devices V X Y)
  mended-powered well works bare = powered-of f (all_out w) cards A V X Y found_cards (record {
    unit = record { tells = tells ∙ p.carried.tells; works = works; unit = mended-unit.lit works; none = none };
    mine = λ valid. subst (λ (o : Option Accepted). CardLit f w.book Out (w.hands A) (w.firsts A) (w.brought A) o A V X) (sym (bare A)) (mended-lit A X valid (p.carried.cards A valid) (p.wait A valid) (p.carried.hands A valid) (taken_a valid) well);
    others = λ valid. subst (λ (o : Option Accepted). CardLit f w.book Out (w.hands B) (w.firsts B) (w.brought B) o B V Y) (sym (bare B)) (mended-lit B Y valid (p.carried.cards B valid) (p.wait B valid) (p.carried.hands B valid) (taken_b valid) well);
    marks_mine = p.carried.marks A;
    marks_others = p.carried.marks B;
  })

  -- or it failed, and the cards stand as they did
  pub mended-powerless : DevicesUnpowered f w (devices V X Y)
  mended-powerless = powerless-of f w cards A V X Y found_cards (record {
    tells = tells ∙ p.carried.tells;
    unit = mended-unit.dark;
    none = none;
    mine = λ valid. mended-off A X valid (p.carried.cards A valid) (p.wait A valid) (p.carried.hands A valid) (taken_a valid);
    others = λ valid. mended-off B Y valid (p.carried.cards B valid) (p.wait B valid) (p.carried.hands B valid) (taken_b valid);
    marks_mine = p.carried.marks A;
    marks_others = p.carried.marks B;
  })
