-- The session of a card that has left its slot is closed, and that is noted on the unit: what is carried of unit and cards.
use Rattle.std.proofs.Common.{◌≡◌, ◌∙◌, ◌⊎◌, inl, inr, ℕ, ◌≤◌, Bool, true, false, not, Option, Some, None, IfSome, List, refl, sym, subst, arith}
use Rattle.std.specs.Prelude.{map}
use Rattle.activity_codec.specs.declared.values.Activity.{Activity}
use Rattle.trace_model.specs.declared.Card.{Card}
use Rattle.trace_model.specs.declared.Card.TheVariants.{A, B}
use Rattle.tach_media.specs.Medium.{State, IsCoherent, LeavesOnly}
use Rattle.card_files.specs.card_layout.declared.files.TheConstants.{LARGEST_IMAGE}
use Rattle.card_files.specs.card_layout.Files.{image_size_of}
use Rattle.card_files.proofs.card_layout.Sizes.{largest_image}
use Rattle.hand_model.specs.card_image.Own.{own_sizes, IsOwnValid}
use Rattle.device_calls.specs.card_session.Sessions.{IsSession}
use Rattle.device_calls.specs.card_session.Cards.{IsCardClosing}
use Rattle.unit_notes.specs.Journal.{LeavesJournal}
use Rattle.device_calls.specs.device_rule.Views.{other}
use Rattle.device_calls.specs.device_rule.Rules.{Standing, Out}
use Rattle.run_crew.specs.declared.cards.Accepted.{Accepted}
use Rattle.run_crew.specs.declared.cards.Cards.{Cards}
use Rattle.run_crew.specs.declared.cabin.Cabin.{Cabin}
use Rattle.run_crew.specs.Cards.{session_of, with_session}
use Rattle.run_minutes.specs.run_promise.Found.{Found, found_of}
use Rattle.run_minutes.specs.run_promise.Between.{RunLedger}
use Rattle.run_minutes.specs.run_devices.Told.{AreFoundCards, DevicesPowered, DevicesUnpowered, AreEarly, for_card, arranged, with_standing}
use Rattle.run_minutes.proofs.run_devices.OnCards.{valid-or, no-marks}
use Rattle.run_minutes.proofs.run_devices.Parts.{CardLit, AreParts, parts-of, powered-of, at-other}
use Rattle.run_minutes.proofs.run_devices.Noted.{noted-powered, noted-powerless}
use Rattle.run_minutes.proofs.run_devices.Left.{left-powered}
use Rattle.run_minutes.proofs.run_devices.Travelled.{travelled-noted}
use Rattle.device_calls.specs.run_unit_course.Legs.{Travel, all_travelled}
use Rattle.device_calls.specs.unit_rule.Odometer.{HasTravelled}
use Rattle.unit_model.specs.minute_model.declared.Minute.{Minute}
use Rattle.device_calls.specs.safety_model.Safe.{Devices}
use Rattle.run_minutes.specs.declared.keeper.Moment.{Moment}
use Rattle.run_minutes.specs.Minutes.{KeepingState, Done, Reach, Whole, Short, IsReach}
use Rattle.run_minutes.specs.Books.{AreBooked, HaveTime}
use Rattle.run_minutes.specs.Decided.{BooksAll, carried_by}
use Rattle.run_minutes.proofs.Brought.{found-session}
use Rattle.run_minutes.proofs.CardBooked.{session-unset}
use Rattle.run_acts.specs.Acting.{Closing, Bare, Closed, Fell, closed_cabin, IsClosingOf}
use Rattle.run_acts.specs.Behind.{carried_closed, IsPoweredOrOff, IsWithdrawnTo, BooksWithdrawn}

-- a note on the unit, whichever card a call is about
pub noted-here : (c : Card) (f : Found) (w : RunLedger) (cards : Cards) (U V X Y : State) → AreFoundCards f cards → IsCoherent U → DevicesPowered f w cards (arranged c U X Y) → LeavesOnly U V LeavesJournal → V.works ≡ true → DevicesPowered f w cards (arranged c V X Y)
noted-here A f w cards U V X Y found whole p run works = noted-powered f w cards U V X Y found whole p run works
noted-here B f w cards U V X Y found whole p run works = noted-powered f w cards U V Y X found whole p run works

pub noted-cut : (c : Card) (f : Found) (w : RunLedger) (cards : Cards) (U V X Y : State) → AreFoundCards f cards → IsCoherent U → DevicesPowered f w cards (arranged c U X Y) → LeavesOnly U V LeavesJournal → DevicesUnpowered f w (arranged c V X Y)
noted-cut A f w cards U V X Y found whole p run = noted-powerless f w cards U V X Y found whole p run
noted-cut B f w cards U V X Y found whole p run = noted-powerless f w cards U V Y X found whole p run

module _ (f : Found) (w : RunLedger) (cards after : Cards) (c : Card) (U V X Y Z : State) (found : AreFoundCards f cards) (unit_whole : IsCoherent U) (whole : IsCoherent X) (a : Accepted) (act : Activity) (has : session_of cards c ≡ Some a)
    (room : image_size_of (own_sizes (found_of f c).image) ≤ X.size) (p : DevicesPowered f w cards (arranged c U X Z)) (card : LeavesOnly X Y (λ x n. IsSession a.session x → IsCardClosing a.session act x n))
    (found_after : AreFoundCards f after) (none : session_of after c ≡ None) (same : session_of after (other c) ≡ session_of cards (other c)) (unit : LeavesOnly U V LeavesJournal) where
  left : DevicesPowered f (with_standing c Out w) after (arranged c U Y Z)
  left = left-powered f w cards c U X Y Z found unit_whole whole a act has room p card after found_after none same

-- ---- a card of any image, which has room for the largest

module _ (f : Found) (w : RunLedger) (cards after : Cards) (c : Card) (U V X Y Z : State) (found : AreFoundCards f cards) (unit_whole : IsCoherent U) (whole : IsCoherent X) (size : LARGEST_IMAGE ≤ X.size) (a : Accepted) (act : Activity) (has : session_of cards c ≡ Some a)
    (p : DevicesPowered f w cards (arranged c U X Z)) (card : LeavesOnly X Y (λ x n. IsSession a.session x → IsCardClosing a.session act x n))
    (found_after : AreFoundCards f after) (none : session_of after c ≡ None) (same : session_of after (other c) ≡ session_of cards (other c)) where
  parts : AreParts f w cards c U X Z
  parts = parts-of f w cards c U X Z p

  left-any : DevicesPowered f (with_standing c Out w) after (arranged c U Y Z)
  left-any = by (valid-or (found_of f c).image)
    where
      by : IsOwnValid (found_of f c).image ⊎ (IsOwnValid (found_of f c).image → ⊥) → DevicesPowered f (with_standing c Out w) after (arranged c U Y Z)
      by (inl valid) = left-powered f w cards c U X Y Z found unit_whole whole a act has (let fits = largest_image (own_sizes (found_of f c).image) (found.sizes c valid) in omega (arith, fits, size)) p card after found_after none same
      by (inr bad) = powered-of f (with_standing c Out w) after c U Y Z found_after (record {
        unit = record { tells = parts.unit.tells; works = parts.unit.works; unit = parts.unit.unit; none = parts.unit.none };
        mine = λ valid. absurd (bad valid);
        others = λ valid. subst (λ (o : Option Accepted). CardLit f w.book (for_card c Out w.standing (other c)) (w.hands (other c)) (w.firsts (other c)) (w.brought (other c)) o (other c) U Z) (sym same)
            (at-other c Out w.standing (λ (z : Standing). CardLit f w.book z (w.hands (other c)) (w.firsts (other c)) (w.brought (other c)) (session_of cards (other c)) (other c) U Z) (parts.others valid));
        marks_mine = no-marks f c w.book w.marks X Y bad parts.marks_mine;
        marks_others = parts.marks_others;
      })

-- ---- the slots and sessions behind it

closed-own : (closing : Closing) (c : Card) (second : ℕ) (cabin : Cabin) → session_of (closed_cabin closing c second cabin).cards c ≡ None
closed-own Bare A second cabin = refl
closed-own Bare B second cabin = refl
closed-own Closed A second cabin = refl
closed-own Closed B second cabin = refl
closed-own Fell A second cabin = refl
closed-own Fell B second cabin = refl

closed-other : (closing : Closing) (c : Card) (second : ℕ) (cabin : Cabin) → session_of (closed_cabin closing c second cabin).cards (other c) ≡ session_of cabin.cards (other c)
closed-other Bare A second cabin = refl
closed-other Bare B second cabin = refl
closed-other Closed A second cabin = refl
closed-other Closed B second cabin = refl
closed-other Fell A second cabin = refl
closed-other Fell B second cabin = refl

pub found-closed : (f : Found) (closing : Closing) (c : Card) (second : ℕ) (cabin : Cabin) → AreFoundCards f cabin.cards → AreFoundCards f (closed_cabin closing c second cabin).cards
found-closed f Bare c second cabin found = found-session f c None cabin.cards found
found-closed f Closed c second cabin found = found-session f c None cabin.cards found
found-closed f Fell c second cabin found = found-session f c None (with_session c None cabin.cards) (found-session f c None cabin.cards found)

pub early-closed : (closing : Closing) (c : Card) (w : RunLedger) → AreEarly w → AreEarly (carried_closed closing c w)
early-closed Bare c w early = early
early-closed Closed c w early = early
early-closed Fell c w early = early

pub marks-closed : (closing : Closing) (c : Card) (w : RunLedger) → (carried_closed closing c w).marks ≡ w.marks
marks-closed Bare c w = refl
marks-closed Closed c w = refl
marks-closed Fell c w = refl

-- ---- ALL OF IT, from what is said of the call

module _ {C : Type 0} (state : C → State) (f : Found) (w : RunLedger) (c : Card) (second : ℕ) (cabin : Cabin) (U V Z : State) (x y : C) (found : AreFoundCards f cabin.cards) (unit_whole : IsCoherent U) (whole : IsCoherent (state x)) (size : LARGEST_IMAGE ≤ (state x).size)
    (p : DevicesPowered f w cabin.cards (arranged c U (state x) Z)) (left : IfSome (session_of cabin.cards c) (λ s. (act : Activity) × LeavesOnly (state x) (state y) (λ i n. IsSession s.session i → IsCardClosing s.session act i n)))
    (still : session_of cabin.cards c ≡ None → y ≡ x) (unit : LeavesOnly U V LeavesJournal) (failed : Bool) (works : V.works ≡ not failed) where
  noted-any : (v : RunLedger) (after : Cards) (Y : State) → AreFoundCards f after → DevicesPowered f v after (arranged c U Y Z) → (b : Bool) → V.works ≡ not b → IsPoweredOrOff b f v after (arranged c V Y Z)
  noted-any v after Y found_after q false on = noted-here c f v after U V Y Z found_after unit_whole q unit on
  noted-any v after Y found_after q true on = noted-cut c f v after U V Y Z found_after unit_whole q unit

  out : (closing : Closing) (a : Accepted) → session_of cabin.cards c ≡ Some a → IsPoweredOrOff failed f (with_standing c Out w) (closed_cabin closing c second cabin).cards (arranged c V (state y) Z)
  out closing a is =
      let here = subst (λ (o : Option Accepted). IfSome o (λ s. (act : Activity) × LeavesOnly (state x) (state y) (λ i n. IsSession s.session i → IsCardClosing s.session act i n))) is left in
      noted-any (with_standing c Out w) (closed_cabin closing c second cabin).cards (state y) (found-closed f closing c second cabin found)
      (left-any f w cabin.cards (closed_cabin closing c second cabin).cards c U V (state x) (state y) Z found unit_whole whole size a here.0 is p here.1 (found-closed f closing c second cabin found) (closed-own closing c second cabin) (closed-other closing c second cabin))
      failed works

  pub closed-any : (closing : Closing) → IsClosingOf (session_of cabin.cards c) closing → IsPoweredOrOff failed f (carried_closed closing c w) (closed_cabin closing c second cabin).cards (arranged c V (state y) Z)
  closed-any closing how = by (session_of cabin.cards c) refl closing how
    where
      by : (o : Option Accepted) → session_of cabin.cards c ≡ o → (closing : Closing) → IsClosingOf o closing → IsPoweredOrOff failed f (carried_closed closing c w) (closed_cabin closing c second cabin).cards (arranged c V (state y) Z)
      by None is Bare how = subst (λ (z : C). IsPoweredOrOff failed f w (with_session c None cabin.cards) (arranged c V (state z) Z)) (sym (still is))
          (noted-any w (with_session c None cabin.cards) (state x) (found-session f c None cabin.cards found) (subst (λ (q : Cards). DevicesPowered f w q (arranged c U (state x) Z)) (sym (session-unset c cabin.cards is)) p) failed works)
      by None is Closed how = absurd how
      by None is Fell how = absurd how
      by (Some a) is Bare how = absurd how
      by (Some a) is Closed how = out Closed a is
      by (Some a) is Fell how = out Fell a is

-- ---- behind the minutes that were kept first

pub time-before : (c : Card) (U V X Y Z : State) → U.clock ≤ V.clock → X.clock ≤ Y.clock → HaveTime (arranged c V Y Z) → HaveTime (arranged c U X Z)
time-before A U V X Y Z unit card time = let u = time.unit in let a = time.card_a in record { unit = omega (arith, unit, u); card_a = omega (arith, card, a); card_b = time.card_b }
time-before B U V X Y Z unit card time = let u = time.unit in let b = time.card_b in record { unit = omega (arith, unit, u); card_a = time.card_a; card_b = omega (arith, card, b) }

-- the unit is the same, whichever card a call is about
unit-at : (c : Card) (P : State → Type 0) (U X Z : State) → P U → P (arranged c U X Z).unit
unit-at A P U X Z p = p
unit-at B P U X Z p = p

unit-from : (c : Card) (P : State → Type 0) (U X Z : State) → P (arranged c U X Z).unit → P U
unit-from A P U X Z p = p
unit-from B P U X Z p = p

-- the unit failed in one of them
pub withdrawn-cut : (card : Card) (decided : List Minute) (at : Moment) (t u : KeepingState) (d e : Devices) (reach : Reach) → IsReach decided at true t u reach → BooksAll decided true reach t u d e → BooksWithdrawn card decided true reach None t u d e
withdrawn-cut card decided at t u d e (Whole xs) is books = absurd is
withdrawn-cut card decided at t u d e (Short xs m round) is books = λ f w start g may gone stored time. (books f w start g may gone stored time).0

abbrev IsEnd : (failed : Bool) → Found → RunLedger → KeepingState → Devices → Type 0
IsEnd false f w u e = AreBooked f w u.keeper.cabin.cards u.marks.items e
IsEnd true f w u e = DevicesUnpowered f w e

module _ {C : Type 0} (state : C → State) (c : Card) (second : ℕ) (U V Z : State) (x y : C) (unit_whole : IsCoherent U) (whole : IsCoherent (state x)) (size : LARGEST_IMAGE ≤ (state x).size) (unit : LeavesOnly U V LeavesJournal) (failed : Bool) (works : V.works ≡ not failed) (closing : Closing)
    (decided : List Minute) (at : Moment) (t v u : KeepingState) (d : Devices) (left : IfSome (session_of v.keeper.cabin.cards c) (λ s. (act : Activity) × LeavesOnly (state x) (state y) (λ i n. IsSession s.session i → IsCardClosing s.session act i n)))
    (still : session_of v.keeper.cabin.cards c ≡ None → y ≡ x) (how : IsClosingOf (session_of v.keeper.cabin.cards c) closing) (cards : u.keeper.cabin.cards ≡ (closed_cabin closing c second v.keeper.cabin).cards) (marks : u.marks.items ≡ v.marks.items) where
  later : (o : Option Accepted) → session_of v.keeper.cabin.cards c ≡ o → (state x).clock ≤ (state y).clock
  later None is = subst (λ (z : C). (state x).clock ≤ (state z).clock) (sym (still is)) (omega arith)
  later (Some a) is = (subst (λ (o : Option Accepted). IfSome o (λ s. (act : Activity) × LeavesOnly (state x) (state y) (λ i n. IsSession s.session i → IsCardClosing s.session act i n))) is left).1.later

  pub withdrawn-closed : (reach : Reach) → IsReach decided at false t v reach → BooksAll decided false reach t v d (arranged c U (state x) Z) → BooksWithdrawn c decided failed reach (Some closing) t u d (arranged c V (state y) Z)
  withdrawn-closed (Short xs m round) is books = absurd is
  withdrawn-closed (Whole xs) is books = λ f w start g may gone stored time.
      let behind = (books f w start g may gone stored (time-before c U V (state x) (state y) Z unit.later (later (session_of v.keeper.cabin.cards c) refl) time)).0 in
      let b = behind.0 in
      let far : Travel = all_travelled (map (λ (x : Done). x.minute) xs) g in
      let before = unit-from c (HasTravelled start (carried_by t.keeper xs w).book far) U (state x) Z behind.1 in
      cast f start w xs g failed
      (end f w (carried_by t.keeper xs w) b failed (closed-any state f (carried_by t.keeper xs w) c second v.keeper.cabin U V Z x y b.found unit_whole whole size b.powered left still unit failed works closing how))
      (unit-at c (HasTravelled start (carried_by t.keeper xs w).book far) V (state y) Z (travelled-noted start (carried_by t.keeper xs w).book far before unit_whole unit))
    where
      cast : (f : Found) (start : ℕ) (w : RunLedger) (xs : List Done) (g : Travel) (b : Bool) → IsEnd b f (carried_closed closing c (carried_by t.keeper xs w)) u (arranged c V (state y) Z)
          → HasTravelled start (carried_by t.keeper xs w).book (all_travelled (map (λ (x : Done). x.minute) xs) g) (arranged c V (state y) Z).unit → IsWithdrawnTo f start w t.keeper c b (Whole xs) (Some closing) g u (arranged c V (state y) Z)
      cast f start w xs g false q on = (q, on)
      cast f start w xs g true q on = (q, on)

      end : (f : Found) (w q : RunLedger) → AreBooked f q v.keeper.cabin.cards v.marks.items (arranged c U (state x) Z) → (b : Bool) → IsPoweredOrOff b f (carried_closed closing c q) (closed_cabin closing c second v.keeper.cabin).cards (arranged c V (state y) Z)
          → IsEnd b f (carried_closed closing c q) u (arranged c V (state y) Z)
      end f w q b false powered = record {
        found = subst (AreFoundCards f) (sym cards) (found-closed f closing c second v.keeper.cabin b.found);
        powered = subst (λ (k : Cards). DevicesPowered f (carried_closed closing c q) k (arranged c V (state y) Z)) (sym cards) powered;
        told = marks-closed closing c q ∙ b.told ∙ sym marks;
        early = early-closed closing c q b.early;
      }
      end f w q b true powerless = powerless
