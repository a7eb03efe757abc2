-- A card is taken out in order.
use Rattle.std.proofs.Common.{◌≡◌, ◌≢◌, ◌⊎◌, inl, inr, ⊎_elim, ℕ, suc, max, ◌<◌, ◌≤◌, Bool, true, false, cond, Option, Some, None, List, [], length, refl, ap, subst, ◌∙◌, sym, arith}
use Rattle.std.proofs.lemmas.List.{append-nil}
use Rattle.device_calls.specs.activity_codec.declared.entries.Entry.{Entry}
use Rattle.device_calls.specs.activity_codec.declared.values.Activity.{Activity}
use Rattle.device_calls.specs.trace_model.declared.Card.{Card}
use Rattle.tach_media.specs.Medium.{State, IsCoherent, LeavesOnly}
use Rattle.tach_media.proofs.Runs.{at_image, if_told, weaken}
use Rattle.tach_media.specs.card_layout.declared.files.Application.{Application}
use Rattle.tach_media.specs.card_layout.Application.{application_of, IsApplication}
use Rattle.tach_media.specs.card_layout.Files.{files_of, image_size_of}
use Rattle.device_calls.specs.card_model.Days.{AreDays}
use Rattle.device_calls.specs.card_model.Changes.{trimmed}
use Rattle.device_calls.specs.card_retention.Entries.{newest_minute, newest_word, EndsBy}
use Rattle.device_calls.proofs.card_retention.Newest.{at_mark}
use Rattle.device_calls.specs.card_retention.Shown.{is_open}
use Rattle.device_calls.specs.card_image.Fields.{card_days, end_mark, session_time, card_number}
use Rattle.device_calls.specs.card_image.Judging.{IsValid}
use Rattle.device_calls.specs.card_image.View.{CardView, card_view}
use Rattle.device_calls.specs.card_image.Own.{own_view, own_sizes, IsOwnValid}
use Rattle.device_calls.specs.card_session.Books.{closed}
use Rattle.device_calls.specs.card_session.Moments.{IsBook, IsCloseMoment}
use Rattle.device_calls.specs.card_session.Sessions.{IsSession, IsOpenBook, book_of}
use Rattle.device_calls.specs.card_session.Cards.{IsCardClosing, IsCardClosed, MayEnd}
use Rattle.device_calls.specs.card_image.Beside.{HaveSameSizes, HaveSameIdentification}
use Rattle.device_calls.proofs.card_session.InsertingAgain.{ended_keeps}
use Rattle.device_calls.proofs.card_session.InsertingUse.{use_inside}
use Rattle.device_calls.proofs.card_session.Marks.{number_still}
use Rattle.device_calls.proofs.card_session.Ended.{closed_ends}
use Rattle.device_calls.proofs.card_session.Valid.{flat_of, close_valid, above_zero}
use Rattle.device_calls.proofs.card_session.Stopping.{days_there}
use Rattle.device_calls.proofs.card_image.Beside.{number_same}
use Rattle.device_calls.specs.card_string.Since.{SitsSince, HoldsSince}
use Rattle.device_calls.proofs.card_string.Since.{later_holds}
use Rattle.device_calls.proofs.card_string.OfCards.{card_close_holds}
use Rattle.device_calls.specs.device_rule.Views.{UnitView, unit_view, other, newest_with}
use Rattle.device_calls.specs.device_rule.Steps.{IsClosing}
use Rattle.device_calls.specs.device_rule.Device.{LeavesViews}
use Rattle.device_calls.specs.device_rule.Rules.{Standing, In, Out, since, CardRule, IsIn}
use Rattle.device_calls.specs.device_rule.Marked.{of_card}
use Rattle.device_calls.proofs.OnCard.{AnyStep, own-is, session-is, sizes-same}
use Rattle.device_calls.proofs.Inserted.{bound_of}
use Rattle.device_calls.proofs.Enters.{take-out, closing-step}
use Rattle.run_crew.specs.declared.cards.Accepted.{Accepted}
use Rattle.run_crew.specs.declared.cards.Cards.{Cards}
use Rattle.run_crew.specs.Cards.{session_of}
use Rattle.device_calls.specs.unit_rule.Rule.{once_mended}
use Rattle.run_promise.specs.Found.{Found, found_of, unit_seen, AnyKept}
use Rattle.run_promise.specs.Cards.{brought_by}
use Rattle.run_promise.specs.Between.{RunLedger}
use Rattle.run_devices.specs.Told.{AreFoundCards, SessionIsOnCard, DevicesPowered, for_card, arranged, with_standing}
use Rattle.run_devices.proofs.Parts.{both_of, as-steps, of-steps, left-one, CardLit, UnitLit, AreParts, MarksLit, parts-of, powered-of, at-card, at-other}
use Rattle.run_devices.proofs.Holders.{HaveSameRest, closing-rest}
use Rattle.run_devices.specs.Registered.{VehiclesBefore, vehicles_before, StandAsBefore, NewestIsOf, HasNoMinuteElsewhere, IsUsedSo, TellsOfTwo}
use Rattle.run_devices.proofs.Registered.{bounded-by, close-stands, close-newest}
use Rattle.run_devices.proofs.Used.{close-used}
use Rattle.run_devices.proofs.OnCards.{own-valid, valid-own, valid-or, no-marks, own-holder-still, Rises, rises-run, none-falls, marks-on, brought-card, held-on, hands-on, valid-on, bound_of as place_on}
use Rattle.device_calls.specs.card_string.Deeds.{IsMadeSince}
use Rattle.device_calls.proofs.card_string.MadeSince.{close_since}

pub own-sizes-same : (app : Application) (x y : List ℕ) → HaveSameSizes app x y → own_sizes y ≡ own_sizes x
unfolding own_sizes files_of
own-sizes-same app x y same = ap application_of same

-- ---- a card's newest minute, where its words are not later

ends-told : (app : Application) (x : List ℕ) → IsOpenBook (book_of app x) → EndsBy (end_mark app x) (card_days app x)
unfolding book_of
ends-told app x may = may.ends

days-told : (app : Application) (x : List ℕ) → AreDays 0 (book_of app x).days → AreDays 0 (card_days app x)
unfolding book_of
days-told app x are = are

mark_low : (app : Application) (x : List ℕ) → end_mark app x ≤ newest_minute (end_mark app x) (trimmed (end_mark app x) (card_days app x))
unfolding card_view
mark_low app x = bound_of app x

pub newest-low : (app : Application) (x : List ℕ) (word : ℕ) → AreDays 0 (card_days app x) → EndsBy (end_mark app x) (card_days app x) → (card_view app x).word ≤ max word (card_view app x).newest → newest_minute (end_mark app x) (card_days app x) ≤ max word (card_view app x).newest
unfolding card_view
newest-low app x word are ends low = by (is_open (end_mark app x) (card_days app x)) refl
  where
    by : (o : Bool) → is_open (end_mark app x) (card_days app x) ≡ o → newest_minute (end_mark app x) (card_days app x) ≤ max word (newest_minute (end_mark app x) (trimmed (end_mark app x) (card_days app x)))
    by true is =
        let flat : trimmed (end_mark app x) (card_days app x) ≡ card_days app x = flat_of (end_mark app x) 0 (card_days app x) are (at_mark (end_mark app x) 0 (card_days app x) are ends is).word in
        omega (arith, ap (newest_minute (end_mark app x)) flat)
    by false is =
        let last : newest_minute (end_mark app x) (card_days app x) ≡ max (end_mark app x) (newest_word (card_days app x)) = ap (λ (o : Bool). cond o (suc (end_mark app x)) (max (end_mark app x) (newest_word (card_days app x)))) is in
        omega (arith, last, low, mark_low app x)

-- ---- A CARD IN ITS SLOT is taken out

module _ (f : Found) (w : RunLedger) (c : Card) (U X Y : State) (two : f.card_a.number ≢ f.card_b.number) (unit_whole : IsCoherent U) (whole : IsCoherent X) (unit : UnitLit f w U) (sound : IsApplication (own_sizes (found_of f c).image)) (a : Accepted) (act : Activity)
    (room : image_size_of (own_sizes (found_of f c).image) ≤ X.size) (one : CardLit f w.book (w.standing c) (w.hands c) (w.firsts c) (w.brought c) (Some a) c U X) (run : LeavesOnly X Y (λ x n. IsSession a.session x → IsCardClosing a.session act x n)) where
  abbrev on : SessionIsOnCard (found_of f c) (w.hands c) one.goes.has (w.standing c) a.session X
  on = one.goes.goes.0

  sound-s : IsApplication a.session.application
  sound-s = subst IsApplication (sym on.sizes) sound

  room-s : image_size_of a.session.application ≤ X.size
  room-s = subst (λ (p : Application). image_size_of p ≤ X.size) (sym on.sizes) room

  rule : CardRule c (found_of f c).start AnyKept (found_of f c).began w.book (In on.time a.session.minute) [] [] (unit_seen f U) (of_card X)
  rule = subst (λ (z : Standing). CardRule c (found_of f c).start AnyKept (found_of f c).began w.book z [] [] (unit_seen f U) (of_card X)) on.stands one.rule

  left-u : (u : List ℕ) × U.may_leave u
  left-u = left-one U unit_whole unit.tells

  abbrev v : UnitView
  v = unit_view f.card_a.number f.card_b.number left-u.0

  on-v : (unit_seen f U).may_leave v
  on-v = (left-u.0, left-u.1, refl)

  is-in : (x : List ℕ) (there : X.may_leave x) → IsIn c (found_of f c).start on.time a.session.minute [] v (own_view x)
  is-in x there = rule.stands.2 v (own_view x) on-v (x, there, refl)

  -- its newest minute is not earlier than that of its acceptance and of its keeps
  minute-low : (x : List ℕ) → X.may_leave x → a.session.minute ≤ max (found_of f c).start.word (own_view x).newest
  minute-low x there = subst (λ (es : List Entry). a.session.minute ≤ max (found_of f c).start.word (newest_with (own_view x) es)) (is-in x there).due_ (rule.dark.meets v (own_view x) on-v (x, there, refl)).accepted

  module _ (x : List ℕ) (is : X.image ≡ Some x) where
    there : X.may_leave x
    there = whole.is_left x is

    own : own_sizes x ≡ a.session.application
    own = (one.held.now x there).0 ∙ sym on.sizes

    knows : IsSession a.session x
    knows = at_image (IsSession a.session) is on.session

    long : image_size_of a.session.application ≤ length x
    long = omega (arith, room-s, whole.sized x is)

    opened : 0 < session_time a.session.application x
    opened =
        let open_ = (is-in x there).open_ in
        omega (arith, open_.opened, open_.same, ap (λ (k : CardView). k.session) (own-is a.session.application x own), session-is a.session.application x)

    was-valid : IsValid a.session.application x
    was-valid = own-valid a.session.application x own (one.valid x (whole.counts_now (found_of f c).began x one.rule.dark.later there))

    -- its newest minute with all its words
    newest-here : newest_minute (end_mark a.session.application x) (card_days a.session.application x) ≤ max (found_of f c).start.word (own_view x).newest
    newest-here = subst (λ (k : CardView). newest_minute (end_mark a.session.application x) (card_days a.session.application x) ≤ max (found_of f c).start.word k.newest) (sym (own-is a.session.application x own))
        (newest-low a.session.application x (found_of f c).start.word (days-told a.session.application x (days_there a.session x knows)) (ends-told a.session.application x knows.book)
        (subst (λ (k : CardView). k.word ≤ max (found_of f c).start.word k.newest) (own-is a.session.application x own) (is-in x there).words))

    module _ (y : List ℕ) (closing : IsCardClosing a.session act x y) where
      step : IsClosing AnyStep (own_view x) (own_view y)
      step = closing-step a.session act x sound-s long own knows y closing

      before-keeps : (done : IsCardClosed a.session act x y) → HaveSameSizes a.session.application done.before y × HaveSameIdentification a.session.application done.before y
      before-keeps done =
          let k = ended_keeps a.session.application done.before y (omega (arith, use_inside a.session.application, long, done.card.outside.same_length)) done.session in
          (k.0, k.2)

      same-sizes : own_sizes y ≡ own_sizes x
      same-sizes = ⊎_elim
          (λ card. sizes-same a.session.application (IsCloseMoment a.session.application.activity act (book_of a.session.application x)) x y card)
          (λ done. own-sizes-same a.session.application done.before y (before-keeps done).0
          ∙ sizes-same a.session.application (IsBook (closed a.session.application.activity act (book_of a.session.application x))) x done.before done.card) closing

      same-number : card_number a.session.application y ≡ card_number a.session.application x
      same-number = ⊎_elim
          (λ card. number_still a.session.application (IsCloseMoment a.session.application.activity act (book_of a.session.application x)) x y card)
          (λ done. number_same a.session.application done.before y (before-keeps done).0 (before-keeps done).1
          ∙ number_still a.session.application (IsBook (closed a.session.application.activity act (book_of a.session.application x))) x done.before done.card) closing

      same-rest : HaveSameRest a.session.application x y
      same-rest = closing-rest a.session act x y (omega (arith, use_inside a.session.application, long)) closing

      is-valid : IsValid a.session.application y
      is-valid = ⊎_elim
          (λ card. close_valid a.session.application sound-s x long was-valid opened (days_there a.session x knows) act y knows.book card)
          (λ done. closed_ends a.session.application sound-s x long was-valid (above_zero (session_time a.session.application x) opened) (days_there a.session x knows) act done.before y knows.card.points knows.book
          (at_image (MayEnd a.session.application) is on.ends) done.card done.session) closing

      string : HoldsSince (own_sizes (found_of f c).image) (found_of f c).image (w.hands c) (brought_by c (found_of f c).start w.book) (place_on (found_of f c) Out y) y
      string =
          subst (λ (p : Application). HoldsSince p (found_of f c).image (w.hands c) (brought_by c (found_of f c).start w.book) (place_on (found_of f c) Out y) y) on.sizes
          (subst (λ (es : List Entry). HoldsSince a.session.application (found_of f c).image (w.hands c) es (place_on (found_of f c) Out y) y) (sym (append-nil one.goes.has) ∙ one.goes.all)
          (card_close_holds a.session act (found_of f c).image (w.hands c) one.goes.has (suc (max (found_of f c).start.word a.session.minute)) (place_on (found_of f c) Out y) x y sound-s long knows opened
          (omega (arith, minute-low x there, step.newest)) (omega (arith, newest-here, step.newest))
          (at_image (SitsSince a.session.application (found_of f c).image (w.hands c) one.goes.has (suc (max (found_of f c).start.word a.session.minute))) is on.goes) closing))

  -- and no minute comes in another vehicle
  closed-minutes : (x : List ℕ) (is : X.image ≡ Some x) (y : List ℕ) → IsCardClosing a.session act x y → HasNoMinuteElsewhere (vehicles_before (own_sizes (found_of f c).image) (found_of f c).vehicle (found_of f c).image) (own_sizes (found_of f c).image) x
      → HasNoMinuteElsewhere (vehicles_before (own_sizes (found_of f c).image) (found_of f c).vehicle (found_of f c).image) (own_sizes (found_of f c).image) y
  closed-minutes x is y k told = ⊎_elim
      (λ its. inl (subst (λ (p : Application). NewestIsOf (found_of f c).vehicle (book_of p y).vehicles) on.sizes
      (close-newest (found_of f c).vehicle a.session act x y sound-s (long x is) (subst (λ (p : Application). NewestIsOf (found_of f c).vehicle (book_of p x).vehicles) (sym on.sizes) its) k)))
      (λ low. inr (omega (arith, low, (step x is y k).newest)))
      told

  -- and it tells of no other vehicle
  closed-named : (x : List ℕ) (is : X.image ≡ Some x) (y : List ℕ) → IsCardClosing a.session act x y → TellsOfTwo (own_sizes (found_of f c).image) (found_of f c).vehicle (found_of f c).image x → TellsOfTwo (own_sizes (found_of f c).image) (found_of f c).vehicle (found_of f c).image y
  closed-named x is y k told =
      let b : VehiclesBefore = vehicles_before (own_sizes (found_of f c).image) (found_of f c).vehicle (found_of f c).image in
      record {
        entries = subst (λ (p : Application). StandAsBefore b (book_of p y).vehicles) on.sizes
            (close-stands b a.session act x y sound-s (long x is) (knows x is).card.points (subst (λ (p : Application). StandAsBefore b (book_of p x).vehicles) (sym on.sizes) told.entries) k
            (bounded-by b a.session.application y (same-sizes x is y k ∙ own x is) (subst (λ (p : Application). HasNoMinuteElsewhere b p y) (sym on.sizes) (closed-minutes x is y k told.minutes))));
        minutes = closed-minutes x is y k told.minutes;
        session = subst (λ (p : Application). IsUsedSo p (found_of f c).vehicle (found_of f c).image y) on.sizes
            (close-used a.session (found_of f c).vehicle (found_of f c).image act x y (long x is) (subst (λ (p : Application). IsUsedSo p (found_of f c).vehicle (found_of f c).image x) (sym on.sizes) told.session) k);
      }

  closes : LeavesOnly X Y (IsCardClosing a.session act)
  closes = weaken run (λ x y is k. k (knows x is))

  views : LeavesViews (of_card X) (of_card Y) Rises
  views = rises-run (IsCardClosing a.session act) X Y whole closes (λ x y is k. (step x is y k).mark)

  rule-after : CardRule c (found_of f c).start AnyKept (found_of f c).began w.book Out [] [] (unit_seen f U) (of_card Y)
  rule-after = of-steps f two c w.book Out [] [] U Y (take-out (both_of f two) c (once_mended f.unit) w.due w.book w.marks a.session act on.time a.session.minute sound-s unit_whole unit.tells unit.unit unit.none whole room-s
      (if_told X.image (λ x. (own_sizes x ≡ a.session.application) × IsSession a.session x) (λ x is. (own x is, knows x is))) run
      (as-steps f two c w.book (In on.time a.session.minute) [] [] U X rule))

  pub left-lit : CardLit f w.book Out (w.hands c) (w.firsts c) (w.brought c) None c U Y
  left-lit = record {
    rule = rule-after;
    valid = valid-on (found_of f c).began (IsCardClosing a.session act) X Y one.rule.dark.later closes (λ x y is k. valid-own a.session.application y (same-sizes x is y k ∙ own x is) (is-valid x is y k)) one.valid;
    rises = one.rises;
    brought = λ k in_. brought-card f c k w.book (w.standing c) Out (once_mended f.unit) w.due w.marks U U X Y unit_whole unit.tells unit.unit unit.none one.rule.dark rule-after.dark (none-falls X Y views) (one.brought k in_);
    held = held-on (found_of f c) (w.hands c) c w.book sound (w.standing c) Out (IsCardClosing a.session act) X Y one.rule.dark.later closes
        (λ x there h. (
          h.0,
          later_holds (own_sizes (found_of f c).image) (found_of f c).image (w.hands c) (brought_by c (found_of f c).start w.book) (place_on (found_of f c) (w.standing c) x) (place_on (found_of f c) Out x) x
              (omega (arith, minute-low x there, ap (λ (z : Standing). since z (own_view x).newest) on.stands)) h.1,
        ))
        (λ x y is k h. (same-sizes x is y k ∙ h.0, string x is y k))
        (λ x y is k. own-holder-still a.session.application x y (own x is) (same-sizes x is y k ∙ own x is) (same-number x is y k) (same-rest x is y k))
        (λ x y is k own told. closed-named x is y k told) whole one.held;
    hands = hands-on (found_of f c) (w.hands c) c w.book sound (w.firsts c) (w.standing c) Out (IsCardClosing a.session act) X Y closes (λ x y is k h. (same-sizes x is y k ∙ h.0, string x is y k)) whole one.held one.hands;
    goes = record { has = brought_by c (found_of f c).start w.book; all = append-nil (brought_by c (found_of f c).start w.book); goes = tt };
  }

  pub left-marks : MarksLit f w c X → MarksLit f w c Y
  left-marks h =
      marks-on (found_of f c) c w.book w.marks (IsCardClosing a.session act) X Y whole closes
      (λ n x y is le k. subst (λ (p : Application). IsMadeSince p n x y) on.sizes (close_since n a.session act x y sound-s (long x is) k)) views h

-- so all of it stands, however the call ended: the card is not accepted any more
module _ (f : Found) (w : RunLedger) (cards : Cards) (c : Card) (U X Y Z : State) (found : AreFoundCards f cards) (unit_whole : IsCoherent U) (whole : IsCoherent X) (a : Accepted) (act : Activity) (has : session_of cards c ≡ Some a) (room : image_size_of (own_sizes (found_of f c).image) ≤ X.size)
    (p : DevicesPowered f w cards (arranged c U X Z)) (run : LeavesOnly X Y (λ x n. IsSession a.session x → IsCardClosing a.session act x n)) where
  parts : AreParts f w cards c U X Z
  parts = parts-of f w cards c U X Z p

  mine : IsOwnValid (found_of f c).image → CardLit f w.book (w.standing c) (w.hands c) (w.firsts c) (w.brought c) (Some a) c U X
  mine valid = subst (λ (o : Option Accepted). CardLit f w.book (w.standing c) (w.hands c) (w.firsts c) (w.brought c) o c U X) has (parts.mine valid)

  marks : MarksLit f w c Y
  marks = by (valid-or (found_of f c).image)
    where
      by : IsOwnValid (found_of f c).image ⊎ (IsOwnValid (found_of f c).image → ⊥) → MarksLit f w c Y
      by (inl valid) = left-marks f w c U X Y found.two unit_whole whole parts.unit (found.sizes c valid) a act room (mine valid) run parts.marks_mine
      by (inr bad) = no-marks f c w.book w.marks X Y bad parts.marks_mine

  pub left-powered : (after : Cards) → AreFoundCards f after → session_of after c ≡ None → session_of after (other c) ≡ session_of cards (other c) → DevicesPowered f (with_standing c Out w) after (arranged c U Y Z)
  left-powered after found_after none same = powered-of f (with_standing c Out w) after c U Y Z found_after (record {
    unit = record { tells = parts.unit.tells; works = parts.unit.works; unit = parts.unit.unit; none = parts.unit.none };
    mine = λ valid. subst (λ (o : Option Accepted). CardLit f w.book (for_card c Out w.standing c) (w.hands c) (w.firsts c) (w.brought c) o c U Y) (sym none)
        (at-card c Out w.standing (λ (z : Standing). CardLit f w.book z (w.hands c) (w.firsts c) (w.brought c) None c U Y)
        (left-lit f w c U X Y found.two unit_whole whole parts.unit (found.sizes c valid) a act room (mine valid) run));
    others = λ valid. subst (λ (o : Option Accepted). CardLit f w.book (for_card c Out w.standing (other c)) (w.hands (other c)) (w.firsts (other c)) (w.brought (other c)) o (other c) U Z) (sym same)
        (at-other c Out w.standing (λ (z : Standing). CardLit f w.book z (w.hands (other c)) (w.firsts (other c)) (w.brought (other c)) (session_of cards (other c)) (other c) U Z) (parts.others valid));
    marks_mine = marks;
    marks_others = parts.marks_others;
  })
