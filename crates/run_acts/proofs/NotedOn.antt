-- A note on the card of a slot, and where that failed its tear, which is noted on the unit: what is carried of unit and cards.
use Rattle.std.proofs.Common.{◌≡◌, ◌⊎◌, inl, inr, ℕ, ◌≤◌, Bool, true, false, not, Option, Some, None, List, [], refl, ap, sym, subst, arith}
use Rattle.trace_model.specs.declared.Card.{Card}
use Rattle.trace_model.specs.declared.Card.TheVariants.{A, B}
use Rattle.tach_media.specs.Medium.{State, IsCoherent, LeavesOnly, HasCause}
use Rattle.tach_media.proofs.Runs.{if_told}
use Rattle.card_files.specs.card_layout.declared.files.Application.{Application}
use Rattle.card_files.specs.card_layout.declared.files.TheConstants.{LARGEST_IMAGE}
use Rattle.card_files.specs.card_layout.Files.{image_size_of}
use Rattle.card_files.proofs.card_layout.Sizes.{largest_image}
use Rattle.hand_model.specs.card_image.Judging.{IsValid}
use Rattle.hand_model.specs.card_image.Own.{own_sizes, IsOwnValid}
use Rattle.device_calls.specs.Times.{AreTimedSince}
use Rattle.device_calls.proofs.TimedCalls.{noting-timed}
use Rattle.device_calls.specs.card_session.Sessions.{IsValue}
use Rattle.unit_notes.specs.Journal.{LeavesJournal}
use Rattle.device_calls.specs.device_rule.Views.{other}
use Rattle.device_calls.specs.device_rule.Rules.{Standing, Torn}
use Rattle.device_calls.specs.CardNotes.{IsNote}
use Rattle.run_crew.specs.declared.cards.Accepted.{Accepted}
use Rattle.run_crew.specs.declared.cards.Cards.{Cards}
use Rattle.run_crew.specs.Cards.{session_of, with_session}
use Rattle.run_minutes.specs.run_promise.Found.{Found, found_of}
use Rattle.run_minutes.specs.run_promise.Between.{RunLedger}
use Rattle.run_minutes.specs.run_devices.Told.{AreFoundCards, SessionIsOnCard, DevicesPowered, arranged, with_standing, for_card}
use Rattle.run_minutes.proofs.run_devices.OnCards.{valid-or, no-marks, own-valid}
use Rattle.run_minutes.proofs.run_devices.Parts.{CardLit, AreParts, parts-of, powered-of, at-other}
use Rattle.run_minutes.proofs.run_devices.Noted.{noted-on, noted-off}
use Rattle.run_minutes.proofs.Brought.{found-session}
use Rattle.run_record.specs.Taking.{fallen}
use Rattle.run_acts.specs.declared.run.Run.{Run}
use Rattle.run_acts.specs.Behind.{IsPoweredOrOff}
use Rattle.run_acts.specs.Noting.{carried_noted, BooksNoted}
use Rattle.run_acts.proofs.Cabins.{noted_cabin}
use Rattle.run_acts.proofs.Withdrawn.{noted-here, noted-cut}
use Rattle.run_minutes.specs.CardDeeds.{DoesOn}
use Rattle.run_insertion.proofs.Opening.{does-note}

-- a call that went well was made on what works
worked : (b : Bool) → (b ≡ false → false ≡ true) → b ≡ true
worked true broken = refl
worked false broken = absurd (none (broken refl))
  where
    none : false ≡ true → ⊥
    none e = cc

module _ (f : Found) (w : RunLedger) (cards after : Cards) (c : Card) (U X Y Z : State) (found : AreFoundCards f cards) (unit_whole : IsCoherent U) (whole : IsCoherent X) (later : IsCoherent Y) (size : LARGEST_IMAGE ≤ X.size)
    (a : Accepted) (value : IsValue a.session) (has : session_of cards c ≡ Some a) (p : DevicesPowered f w cards (arranged c U X Z)) (run : LeavesOnly X Y (IsNote a.session.application)) where
  parts : AreParts f w cards c U X Z
  parts = parts-of f w cards c U X Z p

  mine : IsOwnValid (found_of f c).image → CardLit f w.book (w.standing c) (w.hands c) (w.firsts c) (w.brought c) (Some a) c U X
  mine valid = subst (λ (s : Option Accepted). CardLit f w.book (w.standing c) (w.hands c) (w.firsts c) (w.brought c) s c U X) has (parts.mine valid)

  by-own : IsOwnValid (found_of f c).image → LeavesOnly X Y (IsNote (own_sizes (found_of f c).image))
  by-own valid = subst (λ (app : Application). LeavesOnly X Y (IsNote app)) (mine valid).goes.goes.0.sizes run

  room : IsOwnValid (found_of f c).image → image_size_of (own_sizes (found_of f c).image) ≤ X.size
  room valid = let fits = largest_image (own_sizes (found_of f c).image) (found.sizes c valid) in omega (arith, fits, size)

  -- when it was last used has not changed
  pub noted-timed : IsOwnValid (found_of f c).image → AreTimedSince (found_of f c).image (found_of f c).began X → AreTimedSince (found_of f c).image (found_of f c).began Y
  noted-timed valid h =
      let one = mine valid in
      noting-timed (found_of f c).image (found_of f c).began X Y one.rule.dark.later whole h (own_sizes (found_of f c).image) (found.sizes c valid)
      (if_told X.image (λ (x : List ℕ). own_sizes x ≡ own_sizes (found_of f c).image) (λ x is. (one.held.now x (whole.is_left x is)).0))
      (if_told X.image (IsValid (own_sizes (found_of f c).image)) (λ x is.
      let there = whole.is_left x is in
      own-valid (own_sizes (found_of f c).image) x (one.held.now x there).0 (one.valid x (whole.counts_now (found_of f c).began x one.rule.dark.later there)))) (by-own valid)

  -- and what it shows beside has not
  pub noted-does : IsOwnValid (found_of f c).image → DoesOn (own_sizes (found_of f c).image) [] X Y
  noted-does valid =
      let one = mine valid in
      does-note (own_sizes (found_of f c).image) (found.sizes c valid) X Y whole (λ x is.
      let there = whole.is_left x is in
      own-valid (own_sizes (found_of f c).image) x (one.held.now x there).0 (one.valid x (whole.counts_now (found_of f c).began x one.rule.dark.later there))) (by-own valid)

  -- it is noted
  stays : HasCause X Y false → DevicesPowered f w cards (arranged c U Y Z)
  stays cause = by (valid-or (found_of f c).image)
    where
      by : IsOwnValid (found_of f c).image ⊎ (IsOwnValid (found_of f c).image → ⊥) → DevicesPowered f w cards (arranged c U Y Z)
      by (inl valid) = noted-on f w cards c U X Y Z found unit_whole whole later a value has p (by-own valid) (worked X.works cause.broken) cause.works (room valid)
      by (inr bad) = powered-of f w cards c U Y Z found (record {
        unit = parts.unit;
        mine = λ valid. absurd (bad valid);
        others = parts.others;
        marks_mine = no-marks f c w.book w.marks X Y bad parts.marks_mine;
        marks_others = parts.marks_others;
      })

  -- or the call failed, and it is torn out
  falls : (floor : ℕ) → AreFoundCards f after → session_of after c ≡ None → session_of after (other c) ≡ session_of cards (other c) → DevicesPowered f (with_standing c (fallen floor (w.standing c)) w) after (arranged c U Y Z)
  falls floor found_after none same = by (valid-or (found_of f c).image)
    where
      by : IsOwnValid (found_of f c).image ⊎ (IsOwnValid (found_of f c).image → ⊥) → DevicesPowered f (with_standing c (fallen floor (w.standing c)) w) after (arranged c U Y Z)
      by (inl valid) =
          let on : SessionIsOnCard (found_of f c) (w.hands c) (mine valid).goes.has (w.standing c) a.session X = (mine valid).goes.goes.0 in
          let is : Torn on.time a.session.minute floor ≡ fallen floor (w.standing c) = ap (fallen floor) (sym on.stands) in
          subst (λ (z : Standing). DevicesPowered f (with_standing c z w) after (arranged c U Y Z)) is
          (noted-off f w cards c U X Y Z found unit_whole whole later a value has p (by-own valid) on.time floor after found_after none same (λ _. on.stands))
      by (inr bad) = powered-of f (with_standing c (fallen floor (w.standing c)) w) after c U Y Z found_after (record {
        unit = record { tells = parts.unit.tells; works = parts.unit.works; unit = parts.unit.unit; none = parts.unit.none };
        mine = λ valid. absurd (bad valid);
        others = λ valid. subst (λ (s : Option Accepted). CardLit f w.book (for_card c (fallen floor (w.standing c)) w.standing (other c)) (w.hands (other c)) (w.firsts (other c)) (w.brought (other c)) s (other c) U Z) (sym same)
            (at-other c (fallen floor (w.standing c)) w.standing (λ (z : Standing). CardLit f w.book z (w.hands (other c)) (w.firsts (other c)) (w.brought (other c)) (session_of cards (other c)) (other c) U Z) (parts.others valid));
        marks_mine = no-marks f c w.book w.marks X Y bad parts.marks_mine;
        marks_others = parts.marks_others;
      })

-- a note on the unit behind it, which may have failed
pub noted-any : (c : Card) (f : Found) (w : RunLedger) (cards : Cards) (U V X Y : State) → AreFoundCards f cards → IsCoherent U → DevicesPowered f w cards (arranged c U X Y) → LeavesOnly U V LeavesJournal → (failed : Bool) → V.works ≡ not failed → IsPoweredOrOff failed f w cards (arranged c V X Y)
noted-any c f w cards U V X Y found whole p run false works = noted-here c f w cards U V X Y found whole p run works
noted-any c f w cards U V X Y found whole p run true works = noted-cut c f w cards U V X Y found whole p run

own-none : (c : Card) (cards : Cards) → session_of (with_session c None cards) c ≡ None
own-none A cards = refl
own-none B cards = refl

others-same : (c : Card) (cards : Cards) → session_of (with_session c None cards) (other c) ≡ session_of cards (other c)
others-same A cards = refl
others-same B cards = refl

-- IT IS NOTED, or the card is torn out, and that is noted on the unit
module _ (c : Card) (second : ℕ) (run : Run) (U V X Y Z : State) (unit_whole : IsCoherent U) (whole : IsCoherent X) (later : IsCoherent Y) (size : LARGEST_IMAGE ≤ X.size) (a : Accepted) (value : IsValue a.session) (has : session_of run.keeper.cabin.cards c ≡ Some a)
    (card : LeavesOnly X Y (IsNote a.session.application)) (unit : LeavesOnly U V LeavesJournal) (failed : Bool) (works : V.works ≡ not failed) where
  pub noted-books : (fell : Bool) → HasCause X Y fell → BooksNoted c failed fell run.keeper.cabin.cards (noted_cabin fell c second run).cards (arranged c U X Z) (arranged c V Y Z)
  noted-books false cause = λ f w floor found p.
      noted-any c f w run.keeper.cabin.cards U V Y Z found unit_whole (stays f w run.keeper.cabin.cards run.keeper.cabin.cards c U X Y Z found unit_whole whole later size a value has p card cause) unit failed works
  noted-books true cause = λ f w floor found p.
      let found_after = found-session f c None run.keeper.cabin.cards found in
      noted-any c f (carried_noted true c floor w) (with_session c None run.keeper.cabin.cards) U V Y Z found_after unit_whole
      (falls f w run.keeper.cabin.cards (with_session c None run.keeper.cabin.cards) c U X Y Z found unit_whole whole later size a value has p card floor found_after (own-none c run.keeper.cabin.cards) (others-same c run.keeper.cabin.cards)) unit failed works
