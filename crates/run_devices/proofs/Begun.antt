-- The row of a card is begun that was put in: it is accepted. And a card is torn out, or taken as one that is not accepted.
use Rattle.std.proofs.Common.{◌≡◌, ◌≢◌, ℕ, max, ◌/◌, ◌≤◌, Bool, true, false, Option, Some, None, is_some, List, [], ◌∷◌, Contains, refl, ap, subst, ◌∙◌, sym, arith}
use Rattle.std.proofs.lemmas.List.{append-nil}
use Rattle.device_calls.specs.activity_codec.declared.entries.Entry.{Entry}
use Rattle.device_calls.specs.trace_model.declared.Card.{Card}
use Rattle.device_calls.specs.trace_model.declared.Card.TheVariants.{A, B}
use Rattle.tach_media.specs.Medium.{State, IsCoherent}
use Rattle.run_crew.specs.log_model.declared.lines.Mark.{Mark}
use Rattle.device_calls.specs.card_image.Own.{own_view, own_sizes, IsOwnValid}
use Rattle.device_calls.specs.hand_model.Written.{Hands}
use Rattle.device_calls.proofs.card_string.Since.{later_holds}
use Rattle.device_calls.specs.history_model.Book.{Book}
use Rattle.device_calls.specs.device_rule.Views.{other}
use Rattle.device_calls.specs.device_rule.Rules.{Standing, In, Out, Torn, since, CardRule, IsEntered}
use Rattle.device_calls.specs.device_rule.Marked.{of_card, HasBrought}
use Rattle.device_calls.proofs.device_rule.Repairing.{repaired-in}
use Rattle.device_calls.specs.unit_rule.Rule.{Started, once_mended, IsCards}
use Rattle.device_calls.specs.unit_rule.Marks.{UnitFollowsBook}
use Rattle.device_calls.specs.Rule.{Both, opened, number_of, card_seen, CardHolds, IsKeptUp, IsRowTaken}
use Rattle.device_calls.proofs.PowerBack.{torn}
use Rattle.device_calls.proofs.TornOut.{torn-out}
use Rattle.run_crew.specs.declared.cards.Accepted.{Accepted}
use Rattle.run_crew.specs.declared.cards.Cards.{Cards}
use Rattle.run_crew.specs.Cards.{session_of}
use Rattle.device_calls.proofs.unit_rule.Marking.{holds-dark}
use Rattle.run_promise.specs.Found.{CardFound, Found, found_of, unit_seen, AnyKept}
use Rattle.run_promise.specs.Cards.{brought_by}
use Rattle.run_promise.specs.Between.{RunLedger}
use Rattle.run_devices.specs.Strung.{CardHoldsString}
use Rattle.run_devices.proofs.Strung.{held-out}
use Rattle.run_devices.specs.Told.{AreFoundCards, IsPutIn, DevicesPowered, DevicesUnpowered, for_card, arranged, with_standing, with_acceptance}
use Rattle.run_devices.proofs.Parts.{both_of, as-steps, of-steps, of-rests, left-one, CardLit, CardOff, AreParts, parts-of, powered-of, powerless-of, brought-on, at-card, at-other}
use Rattle.run_devices.proofs.OnCards.{bound_of}

-- the steps' card is the run's
pub entered-as : (f : Found) (two : f.card_a.number ≢ f.card_b.number) (c : Card) (session newest : ℕ) (X : State) → IsEntered (found_of f c).start (found_of f c).began session newest (of_card X) → IsEntered (opened (both_of f two) c).start (opened (both_of f two) c).began session newest (card_seen X)
entered-as f two A session newest X e = e
entered-as f two B session newest X e = e

pub number-as : (f : Found) (two : f.card_a.number ≢ f.card_b.number) (c : Card) → (found_of f c).number ≡ number_of (both_of f two) c
number-as f two A = refl
number-as f two B = refl

-- a string that may go on from here may go on from later
pub held-later : (f : CardFound) (hd : Hands) (c : Card) (b : Book) (y z : Standing) (X : State) → ((x : List ℕ) → X.may_leave x → max f.start.word (since y (own_view x).newest) ≤ max f.start.word (since z (own_view x).newest)) → CardHoldsString f hd c b y X → CardHoldsString f hd c b z X
held-later f hd c b y z X later h = record {
  tells = h.tells;
  now = λ x there. let was = h.now x there in let le = later x there in (was.0, later_holds (own_sizes f.image) f.image hd (brought_by c f.start b) (bound_of f y x) (bound_of f z x) x (omega (arith, le)) was.1);
  since = h.since;
  told = h.told;
  behind = h.behind;
  stay = h.stay;
  number = h.number;
  still = h.still;
  registered = h.registered;
}

-- ---- THE ROW IS BEGUN of a card that was put in, where the calls say this

module _ (f : Found) (w : RunLedger) (cards : Cards) (c : Card) (U V X Y : State) (found : AreFoundCards f cards) (whole : IsCoherent U) (now : ℕ) (a : Accepted) (valid : IsOwnValid (found_of f c).image) (out : w.standing c ≡ Out) (put : IsPutIn (found_of f c) (w.hands c) c w.book now a.session X)
    (p : DevicesPowered f w cards (arranged c U X Y)) (late : w.due ≤ now / 60) (number : List ℕ) (spared : Option (List ℕ)) (failed : Bool)
    (holds : (s : Started) (due : ℕ) (b : Book) (marks : List Mark) → IsCards s number → ((n : List ℕ) → spared ≡ Some n → IsCards s n) → UnitFollowsBook s due b marks U → UnitFollowsBook s due b marks V)
    (mine : (r : Both) (s : Started) (due : ℕ) (b : Book) (marks : List Mark) (newest : ℕ) → number ≡ number_of r c → UnitFollowsBook s due b marks U → due ≤ now / 60 → CardHolds r c b Out [] [] U X → IsEntered (opened r c).start (opened r c).began now newest (card_seen X) → IsRowTaken r c b now newest failed V X)
    (others : (r : Both) (s : Started) (due : ℕ) (b : Book) (marks : List Mark) (z : Standing) (m d : List Entry) → number ≡ number_of r c → spared ≡ Some (number_of r (other c)) → CardHolds r (other c) b z m d U Y → IsKeptUp r (other c) b z m d failed V Y)
    (tells : is_some V.image ≡ is_some U.image) (named : number ≡ (found_of f c).number) (spares : IsOwnValid (found_of f (other c)).image → spared ≡ Some (found_of f (other c)).number) (spare : (n : List ℕ) → spared ≡ Some n → IsCards f.unit n) where
  parts : AreParts f w cards c U X Y
  parts = parts-of f w cards c U X Y p

  one : CardLit f w.book Out (w.hands c) (w.firsts c) (w.brought c) (session_of cards c) c U X
  one = subst (λ (z : Standing). CardLit f w.book z (w.hands c) (w.firsts c) (w.brought c) (session_of cards c) c U X) out (parts.mine valid)

  unit-after : UnitFollowsBook (once_mended f.unit) w.due w.book w.marks V
  unit-after = holds (once_mended f.unit) w.due w.book w.marks (subst (IsCards f.unit) (sym named) (found.own c valid)) spare parts.unit.unit

  taken : IsRowTaken (both_of f found.two) c w.book now a.session.minute failed V X
  taken = mine (both_of f found.two) (once_mended f.unit) w.due w.book w.marks a.session.minute (named ∙ number-as f found.two c) parts.unit.unit late (as-steps f found.two c w.book Out [] [] U X one.rule) (entered-as f found.two c now a.session.minute X put.entered)

  kept-up : IsOwnValid (found_of f (other c)).image → IsKeptUp (both_of f found.two) (other c) w.book (w.standing (other c)) [] [] failed V Y
  kept-up there = others (both_of f found.two) (once_mended f.unit) w.due w.book w.marks (w.standing (other c)) [] [] (named ∙ number-as f found.two c) (spares there ∙ ap (λ (n : List ℕ). Some n) (number-as f found.two (other c)))
      (as-steps f found.two (other c) w.book (w.standing (other c)) [] [] U Y (parts.others there).rule)

  other-brought : (there : IsOwnValid (found_of f (other c)).image) → (k : ℕ) → Contains (w.brought (other c)) k → HasBrought f.card_a.number f.card_b.number (other c) k V Y
  other-brought there k in_ = brought-on f (other c) k w.book (w.standing (other c)) (w.standing (other c)) (once_mended f.unit) w.due w.marks U V Y whole parts.unit.tells parts.unit.unit parts.unit.none (parts.others there).rule.dark
      (of-rests f found.two (other c) w.book (w.standing (other c)) V Y (kept-up there).dark) ((parts.others there).brought k in_)

  -- the card is accepted
  module _ (well : failed ≡ false) (works : V.works ≡ true) (kept : ℕ) (after : Cards) (found_after : AreFoundCards f after) (has : session_of after c ≡ Some a) (same : session_of after (other c) ≡ session_of cards (other c)) where
    rule : CardRule c (found_of f c).start AnyKept (found_of f c).began w.book (In now a.session.minute) [] [] (unit_seen f V) (of_card X)
    rule = of-steps f found.two c w.book (In now a.session.minute) [] [] V X (taken.lit well)

    mine-lit : (ks : List ℕ) → CardLit f w.book (In now a.session.minute) (w.hands c) (w.firsts c) ks (Some a) c V X
    mine-lit ks = record {
      rule = rule;
      valid = one.valid;
      rises = one.rises;
      brought = λ k in_. repaired-in c (found_of f c).start (found_of f c).began now a.session.minute k (unit_seen f V) (of_card X) rule.stands;
      held = held-later (found_of f c) (w.hands c) c w.book Out (In now a.session.minute) X (λ x there. let low = (put.entered.answered (own_view x) (x, there, refl)).0 in omega (arith, low)) one.held;
      hands = one.hands;
      goes = record {
        has = brought_by c (found_of f c).start w.book;
        all = append-nil (brought_by c (found_of f c).start w.book);
        goes = (record { time = now; stands = refl; sizes = put.sizes; vehicle = put.vehicle; session = put.session; ends = put.ends; goes = put.goes }, λ none. put.shut);
      };
    }

    others-lit : IsOwnValid (found_of f (other c)).image → CardLit f w.book (w.standing (other c)) (w.hands (other c)) (w.firsts (other c)) (w.brought (other c)) (session_of cards (other c)) (other c) V Y
    others-lit there = record {
      rule = of-steps f found.two (other c) w.book (w.standing (other c)) [] [] V Y ((kept-up there).lit well);
      valid = (parts.others there).valid;
      rises = (parts.others there).rises;
      brought = other-brought there;
      held = (parts.others there).held;
      hands = (parts.others there).hands;
      goes = (parts.others there).goes;
    }

    pub begun-powered : DevicesPowered f (with_acceptance c now a.session.minute kept w) after (arranged c V X Y)
    begun-powered = powered-of f (with_acceptance c now a.session.minute kept w) after c V X Y found_after (record {
      unit = record { tells = tells ∙ parts.unit.tells; works = works; unit = unit-after; none = parts.unit.none };
      mine = λ there. subst (λ (o : Option Accepted). CardLit f w.book (for_card c (In now a.session.minute) w.standing c) (w.hands c) (w.firsts c) (for_card c (kept ∷ w.brought c) w.brought c) o c V X) (sym has)
          (at-card c (In now a.session.minute) w.standing (λ (z : Standing). CardLit f w.book z (w.hands c) (w.firsts c) (for_card c (kept ∷ w.brought c) w.brought c) (Some a) c V X)
          (mine-lit (for_card c (kept ∷ w.brought c) w.brought c)));
      others = λ there. subst (λ (o : Option Accepted). CardLit f w.book (for_card c (In now a.session.minute) w.standing (other c)) (w.hands (other c)) (w.firsts (other c)) (for_card c (kept ∷ w.brought c) w.brought (other c)) o (other c) V Y) (sym same)
          (at-other c (In now a.session.minute) w.standing (λ (z : Standing). CardLit f w.book z (w.hands (other c)) (w.firsts (other c)) (for_card c (kept ∷ w.brought c) w.brought (other c)) (session_of cards (other c)) (other c) V Y)
          (at-other c (kept ∷ w.brought c) w.brought (λ (ks : List ℕ). CardLit f w.book (w.standing (other c)) (w.hands (other c)) (w.firsts (other c)) ks (session_of cards (other c)) (other c) V Y) (others-lit there)));
      marks_mine = parts.marks_mine;
      marks_others = parts.marks_others;
    })

  -- or the unit failed: it is not accepted yet
  pub begun-powerless : DevicesUnpowered f w (arranged c V X Y)
  begun-powerless = powerless-of f w cards c V X Y found (record {
    tells = tells ∙ parts.unit.tells;
    unit = holds-dark f.unit w.due w.book w.marks V unit-after;
    none = parts.unit.none;
    mine = λ there. subst (λ (z : Standing). CardOff f w.book z (w.hands c) (w.firsts c) (w.brought c) c V X) (sym out)
        (let rests = of-rests f found.two c w.book Out V X taken.dark in
        record {
          rests = rests;
          valid = one.valid;
          rises = one.rises;
          brought = λ k in_. brought-on f c k w.book Out Out (once_mended f.unit) w.due w.marks U V X whole parts.unit.tells parts.unit.unit parts.unit.none one.rule.dark rests (one.brought k in_);
          held = one.held;
          hands = one.hands;
        });
    others = λ there. record {
      rests = of-rests f found.two (other c) w.book (w.standing (other c)) V Y (kept-up there).dark;
      valid = (parts.others there).valid;
      rises = (parts.others there).rises;
      brought = other-brought there;
      held = (parts.others there).held;
      hands = (parts.others there).hands;
    };
    marks_mine = parts.marks_mine;
    marks_others = parts.marks_others;
  })

-- ---- A CARD STANDS OTHERWISE, and no device was called

module _ (f : Found) (w : RunLedger) (cards after : Cards) (c : Card) (U X Y : State) (found_after : AreFoundCards f after) (none : session_of after c ≡ None) (same : session_of after (other c) ≡ session_of cards (other c)) (p : DevicesPowered f w cards (arranged c U X Y)) where
  before : AreParts f w cards c U X Y
  before = parts-of f w cards c U X Y p

  pub stood-powered : (z : Standing) → (IsOwnValid (found_of f c).image → CardLit f w.book z (w.hands c) (w.firsts c) (w.brought c) None c U X) → DevicesPowered f (with_standing c z w) after (arranged c U X Y)
  stood-powered z lit = powered-of f (with_standing c z w) after c U X Y found_after (record {
    unit = record { tells = before.unit.tells; works = before.unit.works; unit = before.unit.unit; none = before.unit.none };
    mine = λ valid. subst (λ (o : Option Accepted). CardLit f w.book (for_card c z w.standing c) (w.hands c) (w.firsts c) (w.brought c) o c U X) (sym none)
        (at-card c z w.standing (λ (y : Standing). CardLit f w.book y (w.hands c) (w.firsts c) (w.brought c) None c U X) (lit valid));
    others = λ valid. subst (λ (o : Option Accepted). CardLit f w.book (for_card c z w.standing (other c)) (w.hands (other c)) (w.firsts (other c)) (w.brought (other c)) o (other c) U Y) (sym same)
        (at-other c z w.standing (λ (y : Standing). CardLit f w.book y (w.hands (other c)) (w.firsts (other c)) (w.brought (other c)) (session_of cards (other c)) (other c) U Y) (before.others valid));
    marks_mine = before.marks_mine;
    marks_others = before.marks_others;
  })

  -- TORN OUT between two calls: one that was accepted in this second
  pub tear-powered : (a : Accepted) → session_of cards c ≡ Some a → (time floor : ℕ) → (IsOwnValid (found_of f c).image → w.standing c ≡ In time a.session.minute) → AreFoundCards f cards → DevicesPowered f (with_standing c (Torn time a.session.minute floor) w) after (arranged c U X Y)
  tear-powered a has time floor stands found = stood-powered (Torn time a.session.minute floor) lit
    where
      lit : IsOwnValid (found_of f c).image → CardLit f w.book (Torn time a.session.minute floor) (w.hands c) (w.firsts c) (w.brought c) None c U X
      lit valid =
          let one : CardLit f w.book (In time a.session.minute) (w.hands c) (w.firsts c) (w.brought c) (session_of cards c) c U X = subst (λ (z : Standing). CardLit f w.book z (w.hands c) (w.firsts c) (w.brought c) (session_of cards c) c U X) (stands valid) (before.mine valid) in
          record {
            rule = of-steps f found.two c w.book (Torn time a.session.minute floor) [] [] U X (torn (both_of f found.two) c w.book U X time a.session.minute floor (as-steps f found.two c w.book (In time a.session.minute) [] [] U X one.rule));
            valid = one.valid;
            rises = one.rises;
            brought = one.brought;
            held = held-later (found_of f c) (w.hands c) c w.book (In time a.session.minute) (Torn time a.session.minute floor) X (λ x there. omega arith) one.held;
            hands = one.hands;
            goes = record { has = brought_by c (found_of f c).start w.book; all = append-nil (brought_by c (found_of f c).start w.book); goes = tt };
          }

  -- TAKEN AS ONE THAT IS NOT ACCEPTED, as before it is put in again
  pub out-powered : AreFoundCards f cards → IsCoherent U → DevicesPowered f (with_standing c Out w) after (arranged c U X Y)
  out-powered found whole = stood-powered Out lit
    where
      lit : IsOwnValid (found_of f c).image → CardLit f w.book Out (w.hands c) (w.firsts c) (w.brought c) None c U X
      lit valid =
          let one = before.mine valid in
          let u = left-one U whole before.unit.tells in
          record {
            rule = of-steps f found.two c w.book Out [] [] U X (torn-out (both_of f found.two) c w.book (w.standing c) [] U X (as-steps f found.two c w.book (w.standing c) [] [] U X one.rule));
            valid = one.valid;
            rises = one.rises;
            brought = one.brought;
            held = held-out f (w.hands c) c w.book (w.standing c) U X (record {
              sizes = found.sizes c valid;
              entries = found.entries c valid;
              held = one.held;
              valid = one.valid;
              rises = one.rises;
              none = before.unit.none;
              sure = λ v on. ((before.unit.unit.unit_holds f.card_a.number f.card_b.number).now v on).sure;
              rests = one.rule.dark;
            }) u.0 u.1;
            hands = one.hands;
            goes = record { has = brought_by c (found_of f c).start w.book; all = append-nil (brought_by c (found_of f c).start w.book); goes = tt };
          }
