-- Calls that only read: on a card that is not accepted, as one that is revived, and on the unit. And what is known of a card that was judged.
use Rattle.std.proofs.Common.{◌≡◌, ◌⊎◌, inl, inr, ⊎_elim, ℕ, ◌≤◌, true, false, Option, Some, None, is_some, List, [], subst, ◌∙◌, sym}
use Rattle.std.specs.Prelude.{Result, Ok, Err}
use Rattle.std.proofs.lemmas.List.{append-nil}
use Rattle.device_calls.specs.tacho_types.declared.texts.Registration.{Registration}
use Rattle.device_calls.specs.trace_model.declared.Card.{Card}
use Rattle.tach_media.specs.Medium.{State, IsCoherent, LeavesOnly, Unchanged, Reads}
use Rattle.tach_media.specs.card_layout.declared.files.Application.{Application}
use Rattle.device_calls.specs.card_image.Own.{own_sizes, IsOwnValid}
use Rattle.device_calls.specs.device_rule.Views.{other}
use Rattle.device_calls.specs.device_rule.Rules.{Standing, Out}
use Rattle.device_calls.specs.unit_rule.Marks.{UnitFollowsBook}
use Rattle.device_calls.proofs.unit_rule.Marking.{holds-read, holds-dark}
use Rattle.device_calls.specs.declared.entering.Entered.{Entered}
use Rattle.device_calls.specs.declared.entering.NotEntered.{NotEntered}
use Rattle.device_calls.specs.declared.entering.NotEntered.TheVariants.{UnitFailed, CardFailed, NotValid, TimeOverlap}
use Rattle.device_calls.specs.Entering.{IsEntering}
use Rattle.device_calls.proofs.Enters.{unit-read, card-read, entering-moments}
use Rattle.run_crew.specs.declared.cards.Accepted.{Accepted}
use Rattle.run_crew.specs.declared.cards.Cards.{Cards}
use Rattle.run_crew.specs.Cards.{session_of}
use Rattle.device_calls.specs.unit_rule.Rule.{once_mended}
use Rattle.run_promise.specs.Found.{CardFound, Found, found_of}
use Rattle.run_promise.specs.Cards.{brought_by, IsUntouched}
use Rattle.run_promise.specs.Between.{RunLedger}
use Rattle.run_devices.specs.Told.{AreFoundCards, DevicesPowered, DevicesUnpowered, arranged}
use Rattle.run_devices.proofs.Parts.{both_of, as-steps, of-steps, told-one, CardLit, off-of, AreParts, MarksLit, parts-of, powered-of, powerless-of, brought-on}
use Rattle.run_devices.proofs.OnCards.{valid-own, rises-run, none-falls, marks-on, brought-card, held-read, hands-read, valid-on}

-- ---- A CARD THAT IS NOT ACCEPTED was only read, or revived

module _ (f : Found) (w : RunLedger) (cards : Cards) (c : Card) (U X Y Z : State) (found : AreFoundCards f cards) (unit_whole : IsCoherent U) (whole : IsCoherent X) (out : w.standing c ≡ Out) (bare : session_of cards c ≡ None) (p : DevicesPowered f w cards (arranged c U X Z)) (run : LeavesOnly X Y Unchanged) where
  parts : AreParts f w cards c U X Z
  parts = parts-of f w cards c U X Z p

  lit : IsOwnValid (found_of f c).image → CardLit f w.book Out (w.hands c) (w.firsts c) (w.brought c) None c U Y
  lit valid =
      let one : CardLit f w.book Out (w.hands c) (w.firsts c) (w.brought c) None c U X = subst (λ (o : Option Accepted). CardLit f w.book Out (w.hands c) (w.firsts c) (w.brought c) o c U X) bare (subst (λ (z : Standing). CardLit f w.book z (w.hands c) (w.firsts c) (w.brought c) (session_of cards c) c U X) out (parts.mine valid)) in
      let rule = of-steps f found.two c w.book Out [] [] U Y (card-read (both_of f found.two) c w.book [] U X Y whole run (as-steps f found.two c w.book Out [] [] U X one.rule)) in
      record {
        rule = rule;
        valid = valid-on (found_of f c).began Unchanged X Y one.rule.dark.later run (λ a b t never. absurd never) one.valid;
        rises = one.rises;
        brought = λ k in_. brought-card f c k w.book Out Out (once_mended f.unit) w.due w.marks U U X Y unit_whole parts.unit.tells parts.unit.unit parts.unit.none one.rule.dark rule.dark
            (none-falls X Y (rises-run Unchanged X Y whole run (λ a b t never. absurd never))) (one.brought k in_);
        held = held-read (found_of f c) (w.hands c) c w.book Out X Y one.rule.dark.later run one.held;
        hands = hands-read (found_of f c) (w.hands c) (w.firsts c) X Y run one.hands;
        goes = record { has = brought_by c (found_of f c).start w.book; all = append-nil (brought_by c (found_of f c).start w.book); goes = tt };
      }

  marks : MarksLit f w c Y
  marks = marks-on (found_of f c) c w.book w.marks Unchanged X Y whole run (λ n x y is le never. absurd never) (rises-run Unchanged X Y whole run (λ a b t never. absurd never)) parts.marks_mine

  pub read-powered : DevicesPowered f w cards (arranged c U Y Z)
  read-powered = powered-of f w cards c U Y Z found (record {
    unit = parts.unit;
    mine = λ valid. subst (λ (z : Standing). CardLit f w.book z (w.hands c) (w.firsts c) (w.brought c) (session_of cards c) c U Y) (sym out) (subst (λ (o : Option Accepted). CardLit f w.book Out (w.hands c) (w.firsts c) (w.brought c) o c U Y) (sym bare) (lit valid));
    others = parts.others;
    marks_mine = marks;
    marks_others = parts.marks_others;
  })

-- ---- THE UNIT was only read

module _ (f : Found) (w : RunLedger) (cards : Cards) (c : Card) (U V X Z : State) (found : AreFoundCards f cards) (unit_whole : IsCoherent U) (p : DevicesPowered f w cards (arranged c U X Z)) (run : LeavesOnly U V Unchanged) where
  before : AreParts f w cards c U X Z
  before = parts-of f w cards c U X Z p

  card-lit : (d : Card) (session : Option Accepted) (Y : State) → CardLit f w.book (w.standing d) (w.hands d) (w.firsts d) (w.brought d) session d U Y → CardLit f w.book (w.standing d) (w.hands d) (w.firsts d) (w.brought d) session d V Y
  card-lit d session Y one =
      let rule = of-steps f found.two d w.book (w.standing d) [] [] V Y (unit-read (both_of f found.two) d w.book (w.standing d) [] [] U V Y unit_whole run (as-steps f found.two d w.book (w.standing d) [] [] U Y one.rule)) in
      record {
        rule = rule;
        valid = one.valid;
        rises = one.rises;
        brought = λ k in_. brought-on f d k w.book (w.standing d) (w.standing d) (once_mended f.unit) w.due w.marks U V Y unit_whole before.unit.tells before.unit.unit before.unit.none one.rule.dark rule.dark (one.brought k in_);
        held = one.held;
        hands = one.hands;
        goes = one.goes;
      }

  unit-after : UnitFollowsBook (once_mended f.unit) w.due w.book w.marks V
  unit-after = holds-read (once_mended f.unit) w.due w.book w.marks before.unit.unit unit_whole run

  pub unit-read-powered : V.works ≡ true → DevicesPowered f w cards (arranged c V X Z)
  unit-read-powered works = powered-of f w cards c V X Z found (record {
    unit = record { tells = run.tells ∙ before.unit.tells; works = works; unit = unit-after; none = before.unit.none };
    mine = λ valid. card-lit c (session_of cards c) X (before.mine valid);
    others = λ valid. card-lit (other c) (session_of cards (other c)) Z (before.others valid);
    marks_mine = before.marks_mine;
    marks_others = before.marks_others;
  })

  pub unit-read-powerless : DevicesUnpowered f w (arranged c V X Z)
  unit-read-powerless = powerless-of f w cards c V X Z found (record {
    tells = run.tells ∙ before.unit.tells;
    unit = holds-dark f.unit w.due w.book w.marks V unit-after;
    none = before.unit.none;
    mine = λ valid. off-of f w.book (w.standing c) (w.hands c) (w.firsts c) (w.brought c) (session_of cards c) c V X (card-lit c (session_of cards c) X (before.mine valid));
    others = λ valid. off-of f w.book (w.standing (other c)) (w.hands (other c)) (w.firsts (other c)) (w.brought (other c)) (session_of cards (other c)) (other c) V Z (card-lit (other c) (session_of cards (other c)) Z (before.others valid));
    marks_mine = before.marks_mine;
    marks_others = before.marks_others;
  })

-- ---- A CARD THAT NO CALL WROTE is as it was

pub untouched-read : (f : CardFound) (X Y : State) → f.began ≤ X.clock → LeavesOnly X Y Unchanged → IsUntouched f X → IsUntouched f Y
untouched-read f X Y began run same n left = ⊎_elim (same n) (λ one. absurd one.2) (run.since f.began n began left)

-- an answer behind which the card may have been written
abbrev pub MayHaveWritten : Result Entered NotEntered → Type 0
MayHaveWritten (Ok e) = Unit {0}
MayHaveWritten (Err UnitFailed) = ⊥
MayHaveWritten (Err CardFailed) = Unit {0}
MayHaveWritten (Err (NotValid fid place)) = ⊥
MayHaveWritten (Err (TimeOverlap stored now)) = ⊥

-- An insertion leaves it so; or it was valid at the start, and it is accepted, or a call on it failed.
pub untouched-entered : (f : CardFound) (registration : Registration) (odometer now : ℕ) (U V X Y : State) (answer : Result Entered NotEntered) → IsCoherent X → f.began ≤ X.clock → is_some U.image ≡ true → is_some X.image ≡ true → (app : Application) → ((x : List ℕ) → X.image ≡ Some x → own_sizes x ≡ app)
    → IsEntering app registration odometer now U V X Y answer → IsUntouched f X → IsUntouched f Y ⊎ (IsOwnValid f.image × MayHaveWritten answer)
untouched-entered f registration odometer now U V X Y answer whole began tells tells_card app sizes enters same = by answer enters
  where
    u : (u : List ℕ) × (U.image ≡ Some u)
    u = told-one U.image tells

    x : (x : List ℕ) × (X.image ≡ Some x)
    x = told-one X.image tells_card

    first : x.0 ≡ f.image
    first = same x.0 (whole.counts_now f.began x.0 began (whole.is_left x.0 x.1))

    begun : (r : Result Entered NotEntered) → IsEntering app registration odometer now U V X Y r → MayHaveWritten r → IsUntouched f Y ⊎ (IsOwnValid f.image × MayHaveWritten r)
    begun r e may = ⊎_elim
        (λ only. inl (untouched-read f X Y began only same))
        (λ put. inr (subst IsOwnValid first (valid-own app x.0 (sizes x.0 x.1) put.0), may))
        (entering-moments app registration odometer now U V X Y r u.0 x.0 e u.1 x.1)

    by : (r : Result Entered NotEntered) → IsEntering app registration odometer now U V X Y r → IsUntouched f Y ⊎ (IsOwnValid f.image × MayHaveWritten r)
    by (Ok v) e = begun (Ok v) e tt
    by (Err UnitFailed) e = let reads : Reads X Y false = e.refused in inl (untouched-read f X Y began reads.leaves same)
    by (Err CardFailed) e = begun (Err CardFailed) e tt
    by (Err (NotValid fid place)) e = let reads : Reads X Y false = e.refused.0 in inl (untouched-read f X Y began reads.leaves same)
    by (Err (TimeOverlap stored at)) e = let reads : Reads X Y false = e.refused.0 in inl (untouched-read f X Y began reads.leaves same)
