-- A card is put in: what is carried stands at each exit, and of a card that is accepted its session and its string are known.
use Rattle.std.proofs.Common.{◌≡◌, ◌-◌, ◌+◌, ◌≢◌, ◌⊎◌, inl, inr, ⊎_elim, ℕ, zero, suc, max, ◌/◌, ◌^◌, ◌<◌, ◌≤◌, Bool, true, false, cond, Option, Some, None, IfSome, List, [], ◌∷◌, ◌++◌, length, All, Contains, refl, ap, subst, ◌∙◌, sym, arith}
use Rattle.std.specs.Prelude.{nat_eq, not, IfOk, Result, Ok}
use Rattle.std.proofs.lemmas.Bool.Decides.{nat_tests}
use Rattle.std.proofs.lemmas.List.{append-nil}
use Rattle.std.proofs.lemmas.List.Elements.{All-head, All-tail, All-contains, Contains-append_right}
use Rattle.device_calls.specs.activity_codec.declared.entries.Entry.{Entry}
use Rattle.device_calls.specs.tacho_types.declared.texts.Registration.{Registration}
use Rattle.device_calls.specs.trace_model.declared.Card.{Card}
use Rattle.device_calls.specs.trace_model.declared.Card.TheVariants.{A, B}
use Rattle.tach_media.specs.Medium.{State, IsCoherent, IsSettled, LeavesOnly, Unchanged}
use Rattle.run_crew.specs.log_model.declared.lines.Mark.{Mark}
use Rattle.run_crew.specs.log_model.Causes.{device_of}
use Rattle.tach_media.proofs.Runs.{at_image, if_told}
use Rattle.tach_media.specs.card_layout.declared.files.Application.{Application}
use Rattle.tach_media.specs.card_layout.Application.{IsApplication}
use Rattle.tach_media.specs.card_layout.Files.{image_size_of}
use Rattle.device_calls.specs.card_model.Days.{AreDays}
use Rattle.device_calls.specs.card_retention.Entries.{newest_minute}
use Rattle.device_calls.specs.card_retention.Retains.{Rise}
use Rattle.device_calls.specs.card_retention.Shown.{AllUpTo}
use Rattle.device_calls.specs.card_image.Fields.{card_days, end_mark, session_time, vehicle_ring}
use Rattle.device_calls.specs.card_image.Judging.{IsValid}
use Rattle.device_calls.specs.card_image.View.{CardView, card_view}
use Rattle.device_calls.specs.card_image.Own.{own_view, own_sizes, own_number, IsOwnValid}
use Rattle.device_calls.specs.card_session.Sessions.{Session, IsSession}
use Rattle.device_calls.specs.card_session.Cards.{MayEnd}
use Rattle.device_calls.specs.card_session.Inserting.{AreOwed, Follow, lacked, replayed_count, InsertingOpen, InsertingClosed, InsertsOpen, InsertsClosed, IsCardInserting, IsCardInserted}
use Rattle.device_calls.specs.card_session.Repairs.{newest_behind, lacked_by, mark_behind, NewestSoFar}
use Rattle.device_calls.proofs.card_session.Ended.{open_ends, none_ends}
use Rattle.device_calls.proofs.card_session.Ends.{closed_end, inserted_moment}
use Rattle.device_calls.proofs.card_session.InsertingAgain.{inserting_keeps, number_again}
use Rattle.device_calls.proofs.card_session.InsertingUse.{use_inside}
use Rattle.device_calls.proofs.card_session.Renewing.{newest_first, closed_renews, ends_shut, closed_shut}
use Rattle.device_calls.proofs.card_session.Revalid.{again_valid}
use Rattle.device_calls.proofs.card_session.Unclosed.{none_valid}
use Rattle.device_calls.proofs.card_session.Valid.{above_zero}
use Rattle.device_calls.specs.card_by_hand.First.{IsShutAt}
use Rattle.device_calls.specs.card_string.Since.{HoldsSince, SitsSince}
use Rattle.device_calls.proofs.card_string.Lists.{up_back, follow_behind}
use Rattle.device_calls.proofs.card_string.Since.{holds_up, goes_up}
use Rattle.device_calls.proofs.card_string.Start.{ends_card}
use Rattle.device_calls.specs.hand_model.Written.{Hands, entries_of}
use Rattle.device_calls.specs.unit_owed.Owed.{Row, owed_to, row_view}
use Rattle.device_calls.specs.unit_model.Image.{last_kept}
use Rattle.device_calls.specs.history_model.Minutes.{HistoryMinute, card_history, up_to}
use Rattle.device_calls.specs.history_model.Book.{Book, all}
use Rattle.device_calls.proofs.history_model.Books.{all-none, up_to-whole}
use Rattle.device_calls.proofs.history_model.Filters.{all-back}
use Rattle.device_calls.specs.device_rule.Views.{UnitView, unit_view, row, other, owed, owed_in}
use Rattle.device_calls.specs.device_rule.Device.{LeavesViews}
use Rattle.device_calls.specs.device_rule.Steps.{IsInserting}
use Rattle.device_calls.specs.device_rule.Rules.{Standing, Out, CardRule, IsEntered, Meets}
use Rattle.device_calls.specs.device_rule.Marked.{of_card}
use Rattle.device_calls.proofs.device_rule.OwedView.{owed-seen}
use Rattle.device_calls.proofs.device_rule.Pairs.{owed-above}
use Rattle.device_calls.proofs.device_rule.Brought.{all-up_to}
use Rattle.device_calls.specs.unit_rule.Unit.{marks_of}
use Rattle.device_calls.specs.unit_rule.Marks.{UnitFollowsBook}
use Rattle.device_calls.proofs.unit_rule.Marking.{holds-read, holds-dark}
use Rattle.device_calls.proofs.unit_rule.Moves.{shown-last}
use Rattle.device_calls.specs.declared.entering.Entered.{Entered}
use Rattle.device_calls.specs.declared.entering.NotEntered.{NotEntered}
use Rattle.device_calls.specs.Entering.{owed_on, card_failed, IsEntering, IsAccepted, IsAsked}
use Rattle.device_calls.specs.Rule.{opened, card_seen}
use Rattle.device_calls.proofs.Enters.{unit-read, entering-rule, entered-answer, entering-moments}
use Rattle.device_calls.proofs.Inserted.{inserting_open, inserting_shut}
use Rattle.device_calls.proofs.OnCard.{AnyStep, own-is, session-is, mark-is}
use Rattle.device_calls.proofs.Passed.{valid-days, valid-passes, pointer-passes}
use Rattle.device_calls.proofs.PutIn.{number_told}
use Rattle.device_calls.specs.card_validity.Judged.{IsLook}
use Rattle.device_calls.specs.tacho_types.CardNumber.{card_number_bytes}
use Rattle.run_crew.specs.declared.cards.Accepted.{Accepted}
use Rattle.run_crew.specs.declared.cards.Cards.{Cards}
use Rattle.run_crew.specs.Cards.{session_of}
use Rattle.device_calls.specs.unit_rule.Rule.{once_mended}
use Rattle.run_promise.specs.Found.{CardFound, Found, found_of, unit_seen, AnyKept}
use Rattle.device_calls.specs.unit_rule.Cards.{mark_writes, IsPromptOn}
use Rattle.run_promise.specs.Cards.{brought_by, IsCardHeld, HandMarksHold}
use Rattle.run_promise.specs.Between.{RunLedger}
use Rattle.run_promise.proofs.OwedRises.{owed-rises}
use Rattle.run_devices.specs.Strung.{CardHoldsString, HasSameHolder}
use Rattle.run_devices.specs.Told.{HasFoundSo, AreFoundCards, IsPutIn, DevicesPowered, DevicesUnpowered, arranged, card_marks, with_marks}
use Rattle.run_devices.proofs.Parts.{both_of, as-steps, of-steps, told-one, CardLit, off-of, UnitLit, AreParts, MarksLit, parts-of, powered-of, powerless-of, brought-on}
use Rattle.run_devices.proofs.Holders.{inserting-rest}
use Rattle.run_devices.specs.Registered.{VehiclesBefore, vehicles_before, StandAsBefore, HasNoMinuteElsewhere, IsUsedSo}
use Rattle.run_devices.proofs.Registered.{bounded-by, inserting-stands, inserting-minutes}
use Rattle.run_devices.proofs.Used.{inserting-used}
use Rattle.device_calls.specs.card_session.Sessions.{book_of}
use Rattle.run_devices.proofs.OnCards.{valid-own, valid-or, no-marks, number-own, own-holder-still, Rises, rises-run, none-falls, marks-on, brought-card, bound_of, held-on, held-read, hands-on, hands-read, valid-on}
use Rattle.run_devices.proofs.StringMore.{mark-own}
use Rattle.run_devices.proofs.Power.{follow-of}
use Rattle.run_devices.proofs.Opened.{owed-none}
use Rattle.run_devices.proofs.Begun.{number-as}
use Rattle.run_devices.proofs.Left.{own-sizes-same, newest-low}
use Rattle.run_devices.proofs.Marked.{marked-powered}
use Rattle.run_devices.proofs.Replayed.{lacks-all, holds-any, replays, replayed-goes, replayed-minute, shut-holds, shut-goes}
use Rattle.device_calls.proofs.card_string.MadeSince.{insert_since}

-- ---- small facts

row-shown : (f : Found) (c : Card) (u : List ℕ) → row c (unit_view f.card_a.number f.card_b.number u) ≡ row_view (found_of f c).number u
unfolding unit_view
row-shown f A u = refl
row-shown f B u = refl

up-of : (m : ℕ) (es : List Entry) → All (λ e. e.minute ≤ m) es → AllUpTo m es
up-of m [] each = tt
up-of m (e ∷ es) each = (All-head (λ (d : Entry). d.minute ≤ m) e es each, up-of m es (All-tail (λ (d : Entry). d.minute ≤ m) e es each))

some-session : (s n : ℕ) → s ≡ suc n → nat_eq s 0 ≡ false
some-session s n is = grind (arith, nat_tests)

up-contains : (m : ℕ) (es : List Entry) (d : Entry) → AllUpTo m es → Contains es d → d.minute ≤ m
up-contains m es d up in_ = All-contains (λ (e : Entry). e.minute ≤ m) es d (all-up_to m es up) in_

entered-back : (f : Found) (two : f.card_a.number ≢ f.card_b.number) (c : Card) (session newest : ℕ) (X : State) → IsEntered (opened (both_of f two) c).start (opened (both_of f two) c).began session newest (card_seen X) → IsEntered (found_of f c).start (found_of f c).began session newest (of_card X)
entered-back f two A session newest X e = e
entered-back f two B session newest X e = e

-- where an image has all that it lacked, its newest minute is the one behind them
newest-all : (mark newest : ℕ) (lack : List Entry) (now is : ℕ) → Follow mark lack → NewestSoFar mark newest lack now is → AllUpTo now lack → is ≡ newest_behind newest lack
newest-all mark newest lack now is follow first up = by first.rest refl
  where
    by : (es : List Entry) → first.rest ≡ es → is ≡ newest_behind newest lack
    by [] none = first.newest ∙ ap (newest_behind newest) (sym (first.split ∙ ap (λ (l : List Entry). first.done ++ l) none ∙ append-nil first.done))
    by (e ∷ es) some = absurd (⊎_elim
        (λ at.
        let later : Follow (mark_behind mark first.done) (e ∷ es) = subst (Follow (mark_behind mark first.done)) some (follow_behind mark first.done first.rest (subst (Follow mark) first.split follow)) in
        let low : AllUpTo now (e ∷ es) = subst (AllUpTo now) some (up_back now first.done first.rest (subst (AllUpTo now) first.split up)) in
        omega (arith, at, later.0, low.0))
        (λ full. clash e es (sym some ∙ full.0)) first.behind)
      where
        clash : (e : Entry) (es : List Entry) → e ∷ es ≡ [] → ⊥
        clash e es is = cc

-- ---- AN INSERTION OF A CARD that was valid, by the images of unit and card that were told before

module _ (f : Found) (hd : Hands) (b : Book) (c : Card) (u x : List ℕ) (sound : IsApplication (own_sizes (found_of f c).image)) (registration : Registration) (long : length registration.0 ≡ 15) (odometer now : ℕ) (few : now < 2 ^ 32) (fits : image_size_of (own_sizes (found_of f c).image) ≤ length x)
    (is-sizes : own_sizes x ≡ own_sizes (found_of f c).image) (numbered : own_number x ≡ (found_of f c).number) (valid : IsValid (own_sizes (found_of f c).image) x) (none-book : b.maybe ≡ None)
    (sure : All (λ i. i.minute ≤ (unit_view f.card_a.number f.card_b.number u).last) b.sure)
    (meets : Meets c (found_of f c).start AnyKept (all b) Out (unit_view f.card_a.number f.card_b.number u) (own_view x))
    (holds : HoldsSince (own_sizes (found_of f c).image) (found_of f c).image hd (brought_by c (found_of f c).start b) (bound_of (found_of f c) Out x) x) where
  abbrev app : Application
  app = own_sizes (found_of f c).image

  abbrev g : CardFound
  g = found_of f c

  abbrev given : List Entry
  given = owed_on (own_sizes (found_of f c).image) u x

  abbrev v : UnitView
  v = unit_view f.card_a.number f.card_b.number u

  abbrev lies : List Entry
  lies = brought_by c (found_of f c).start b

  old-view : own_view x ≡ card_view app x
  old-view = own-is app x is-sizes

  -- what is put on it is what is owed to it
  owes : given ≡ owed c v (own_view x)
  owes =
      ap (λ (n : List ℕ). owed_to u n (session_time app x) (end_mark app x)) (sym (number-own app x is-sizes) ∙ numbered)
      ∙ owed-seen u g.number (session_time app x) (end_mark app x)
      ∙ ap (λ (w : Row). owed_in w (last_kept u) (session_time app x) (end_mark app x)) (sym (row-shown f c u))
      ∙ ap (λ (n : ℕ). owed_in (row c v) n (session_time app x) (end_mark app x)) (sym (shown-last f.card_a.number f.card_b.number u))
      ∙ ap (λ (n : ℕ). owed_in (row c v) v.last n (end_mark app x)) (sym (ap (λ (k : CardView). k.session) old-view ∙ session-is app x))
      ∙ ap (λ (n : ℕ). owed_in (row c v) v.last (own_view x).session n) (sym (mark-own app x is-sizes))

  whole-entries : meets.more ++ given ≡ lies
  whole-entries =
      ap (λ (es : List Entry). meets.more ++ es) owes ∙ meets.whole
      ∙ ap (λ (is : List HistoryMinute). g.start.owed ++ card_history c is) (ap (up_to v.last) (all-none b none-book) ∙ up_to-whole v.last b.sure sure ∙ sym (all-none b none-book))

  up-more : AllUpTo (end_mark app x) meets.more
  up-more = subst (λ (m : ℕ). AllUpTo m meets.more) (mark-own app x is-sizes) (up-of (own_view x).mark meets.more (all-back (λ (e : Entry). e.minute ≤ (own_view x).mark) g.start.entries meets.more meets.had))

  follows : Follow (end_mark app x) given
  follows = subst (Follow (end_mark app x)) (sym owes) (subst (λ (m : ℕ). Follow m (owed c v (own_view x))) (mark-own app x is-sizes)
      (follow-of (own_view x).mark (owed c v (own_view x)) (owed-rises c f.card_a.number f.card_b.number u (own_view x)) (owed-above c v (own_view x))))

  lack : lacked_by app x given ≡ given
  lack = lacks-all (end_mark app x) given follows

  lies-lacked : meets.more ++ lacked_by app x given ≡ lies
  lies-lacked = ap (λ (es : List Entry). meets.more ++ es) lack ∙ whole-entries

  same-sizes : (y : List ℕ) → IsCardInserting app registration odometer given now x y → own_sizes y ≡ own_sizes x
  same-sizes y moment = own-sizes-same app x y (inserting_keeps app registration odometer now given long x y (omega (arith, use_inside app, fits)) moment).0

  same-holder : (y : List ℕ) → IsCardInserting app registration odometer given now x y → HasSameHolder x y
  same-holder y moment = own-holder-still app x y is-sizes (same-sizes y moment ∙ is-sizes) (number_again app registration odometer now given long x y (omega (arith, use_inside app, fits)) moment)
      (inserting-rest app x y registration odometer now given long (omega (arith, use_inside app, fits)) moment)

  new-view : (y : List ℕ) → IsCardInserting app registration odometer given now x y → own_view y ≡ card_view app y
  new-view y moment = own-is app y (same-sizes y moment ∙ is-sizes)

  positive : (n : ℕ) → n ≢ 0 → 0 < n
  positive n apart = by n apart
    where
      by : (n : ℕ) → (n ≡ 0 → ⊥) → 0 < n
      by n apart = omega (arith, apart)

  -- where the session was left open
  module _ (are : AreOwed now given) (session : 0 < session_time app x) where
    abbrev behind : ℕ
    behind = newest_behind (card_view app x).newest (lacked_by app x given)

    abbrev next : ℕ
    next = suc (max g.start.word (newest_behind (card_view app x).newest (lacked_by app x given)))

    before : HoldsSince app g.image hd (meets.more ++ lacked_by app x given) (bound_of g Out x) x
    before = subst (λ (es : List Entry). HoldsSince app g.image hd es (bound_of g Out x) x) (sym lies-lacked) holds

    low : lacked_by app x given ≡ [] → bound_of g Out x ≤ next
    low none = omega (arith, ap (λ (k : CardView). k.newest) old-view, ap (newest_behind (card_view app x).newest) none)

    moment-open : (y : List ℕ) → InsertingOpen app registration odometer given now x y → HoldsSince app g.image hd lies next y
    moment-open y inserting = subst (λ (es : List Entry). HoldsSince app g.image hd es next y) lies-lacked
        (replays app registration odometer now given g.image hd meets.more (bound_of g Out x) x sound fits long are valid session up-more before next low (omega arith) y inserting)

    pub open-holds : (y : List ℕ) → own_view y ≡ card_view app y → InsertingOpen app registration odometer given now x y → HoldsSince app g.image hd lies (bound_of g Out y) y
    open-holds y view inserting =
        let k = moment-open y inserting in
        holds-any app g.image hd lies next (bound_of g Out y) y k (λ none.
        let up : AllUpTo (end_mark app y) lies = subst (AllUpTo (end_mark app y)) (sym (k.split ∙ ap (λ (es : List Entry). entries_of k.written ++ es) none ∙ append-nil (entries_of k.written))) (holds_up app g.image hd lies next y k) in
        let up-lack : AllUpTo (end_mark app y) (lacked_by app x given) = up_back (end_mark app y) meets.more (lacked_by app x given) (subst (AllUpTo (end_mark app y)) (sym lies-lacked) up) in
        let first = (newest_first app sound x fits registration long odometer now given are valid (above_zero (session_time app x) session) y inserting).0 in
        let at : (card_view app y).newest ≡ newest_behind (card_view app x).newest (lacked_by app x given) =
        newest-all (end_mark app x) (card_view app x).newest (lacked_by app x given) (end_mark app y) (card_view app y).newest (subst (Follow (end_mark app x)) (sym lack) follows) first up-lack in
        omega (arith, at, ap (λ (k : CardView). k.newest) view))

    pub open-goes : (y : List ℕ) (t : Session) → InsertsOpen app registration odometer given now x y → t.application ≡ app → IsSession t y → SitsSince app g.image hd lies (suc (max g.start.word t.minute)) y
    open-goes y t inserts same knows =
        let at = replayed-minute app registration odometer now given g.image hd meets.more (bound_of g Out x) x sound fits long are valid session up-more before next low (omega arith) y t inserts same knows in
        subst (λ (m : ℕ). SitsSince app g.image hd lies (suc (max g.start.word m)) y) (sym at)
        (subst (λ (es : List Entry). SitsSince app g.image hd es next y) lies-lacked
        (replayed-goes app registration odometer now given g.image hd meets.more (bound_of g Out x) x sound fits long are valid session up-more before next low (omega arith) y inserts))

  -- where it has none
  module _ (none : session_time app x ≡ 0) where
    shut : (own_view x).session ≡ 0
    shut = ap (λ (k : CardView). k.session) old-view ∙ session-is app x ∙ none

    up-lies : AllUpTo (end_mark app x) lies
    up-lies = subst (AllUpTo (end_mark app x)) (sym (append-nil meets.more) ∙ ap (λ (es : List Entry). meets.more ++ es) (sym (owes ∙ owed-none c v (own_view x) shut)) ∙ whole-entries) up-more

    days : AreDays 0 (card_days app x)
    days = valid-days app sound x fits valid

    low-words : newest_minute (end_mark app x) (card_days app x) ≤ max g.start.word (card_view app x).newest
    low-words = newest-low app x g.start.word days (ends_card app x days valid none) (subst (λ (k : CardView). k.word ≤ max g.start.word k.newest) old-view (meets.words shut))

    pub closed-holds : (y : List ℕ) → own_view y ≡ card_view app y → InsertingClosed app registration now x y → HoldsSince app g.image hd lies (bound_of g Out y) y
    closed-holds y view inserting =
        let same = (closed_renews app sound x fits registration long now valid none y inserting).newest in
        shut-holds app registration now g.image hd lies (bound_of g Out x) x sound fits long valid none up-lies holds (bound_of g Out y) (omega (arith, same, ap (λ (k : CardView). k.newest) view, ap (λ (k : CardView). k.newest) old-view))
        (omega (arith, low-words, same, ap (λ (k : CardView). k.newest) view)) y inserting

    pub closed-goes : (y : List ℕ) (m : ℕ) → (card_view app x).newest ≤ m → InsertsClosed app registration now x y → SitsSince app g.image hd lies (suc (max g.start.word m)) y
    closed-goes y m le inserts =
        shut-goes app registration now g.image hd lies (bound_of g Out x) x sound fits long valid none up-lies holds (suc (max g.start.word m)) (omega (arith, le, ap (λ (k : CardView). k.newest) old-view)) (omega (arith, low-words, le)) y inserts

  -- AT EACH MOMENT
  module _ (are : AreOwed now given) (y : List ℕ) (moment : IsCardInserting app registration odometer given now x y) where
    pub put-holds : HoldsSince app g.image hd lies (bound_of g Out y) y
    put-holds = ⊎_elim (λ closed. closed-holds closed.0 y (new-view y moment) closed.1) (λ open_. open-holds are (positive (session_time app x) open_.0) y (new-view y moment) open_.1) moment

    pub put-valid : IsValid app y
    put-valid = ⊎_elim
        (λ closed. none_valid app sound x fits registration long odometer now given valid closed.0 y closed.1)
        (λ open_. again_valid app sound x fits registration long odometer now given are.0 valid (above_zero (session_time app x) (positive (session_time app x) open_.0)) y open_.0 open_.1) moment

    pub put-rises : (own_view x).mark ≤ (own_view y).mark
    put-rises =
        let step : IsInserting AnyStep given now (card_view app x) (card_view app y) = ⊎_elim
        (λ closed. inserting_shut app sound x fits registration long odometer now few given are valid closed.0 y closed.1)
        (λ open_. inserting_open app sound x fits registration long odometer now few given are valid (positive (session_time app x) open_.0) y open_.1) moment in
        omega (arith, step.mark, ap (λ (k : CardView). k.mark) old-view, ap (λ (k : CardView). k.mark) (new-view y moment))

  -- AT ITS END
  module _ (are : AreOwed now given) (y : List ℕ) (done : IsCardInserted app registration odometer given now x y) where
    pub put-goes : (t : Session) → (card_view app x).newest ≤ t.minute ⊎ (session_time app x ≢ 0) → t.application ≡ app → IsSession t y → SitsSince app g.image hd lies (suc (max g.start.word t.minute)) y
    put-goes t newest same knows = ⊎_elim
        (λ closed. closed-goes closed.0 y t.minute (⊎_elim (λ le. le) (λ some. absurd (some closed.0)) newest) closed.1)
        (λ open_. open-goes are (positive (session_time app x) open_.0) y t open_.1 same knows) done

    -- and no entry is open at its end mark
    pub put-shut : IsShutAt app y
    put-shut = ⊎_elim
        (λ closed. closed_shut app sound x fits registration long now valid closed.0 y closed.1)
        (λ open_. ends_shut app sound x fits registration long odometer now given are valid (above_zero (session_time app x) (positive (session_time app x) open_.0)) y open_.1) done

    pub put-ends : MayEnd app y
    put-ends = ⊎_elim
        (λ closed. none_ends app sound x fits registration long odometer now given valid closed.0 y closed.1)
        (λ open_. open_ends app sound x fits registration long odometer now given valid are (above_zero (session_time app x) (positive (session_time app x) open_.0)) open_.0 y open_.1) done

-- ---- A CARD IS PUT IN, over the devices: what is carried of it stands at each exit

module _ (f : Found) (w : RunLedger) (c : Card) (U V X Y : State) (two : f.card_a.number ≢ f.card_b.number) (sound : IsApplication (own_sizes (found_of f c).image)) (unit_whole : IsCoherent U) (unit_after : IsCoherent V) (whole : IsCoherent X) (after : IsCoherent Y)
    (registration : Registration) (long : length registration.0 ≡ 15) (vehicle : registration ≡ (found_of f c).vehicle) (odometer now : ℕ) (few : now < 2 ^ 32) (answer : Result Entered NotEntered) (unit : UnitLit f w U) (ks : List ℕ) (one : CardLit f w.book Out (w.hands c) (w.firsts c) ks None c U X) (late : w.due ≤ now / 60)
    (room : image_size_of (own_sizes (found_of f c).image) ≤ X.size) (enters : IsEntering (own_sizes (found_of f c).image) registration odometer now U V X Y answer) where
  is-asked : IfSome X.image (IsAsked (both_of f two) c (own_sizes (found_of f c).image))
  is-asked = if_told X.image (IsAsked (both_of f two) c (own_sizes (found_of f c).image)) (λ x is. record { sizes = (one.held.now x (whole.is_left x is)).0; number = one.held.number x (whole.is_left x is) ∙ number-as f two c })

  rule-after : CardRule c (found_of f c).start AnyKept (found_of f c).began w.book Out [] [] (unit_seen f V) (of_card Y)
  rule-after = of-steps f two c w.book Out [] [] V Y (entering-rule (both_of f two) c (once_mended f.unit) w.due w.book w.marks (own_sizes (found_of f c).image) sound registration long odometer now few unit.unit unit.none late unit_whole unit_after whole room unit.tells one.held.tells
      is-asked (as-steps f two c w.book Out [] [] U X one.rule) answer enters)

  module _ (u x : List ℕ) (told : U.image ≡ Some u) (is : X.image ≡ Some x) where
    abbrev there : X.may_leave x
    there = whole.is_left x is

    abbrev sizes : own_sizes x ≡ own_sizes (found_of f c).image
    sizes = (one.held.now x (whole.is_left x is)).0

    abbrev meets : Meets c (found_of f c).start AnyKept (all w.book) Out (unit_view f.card_a.number f.card_b.number u) (own_view x)
    meets = one.rule.dark.meets (unit_view f.card_a.number f.card_b.number u) (own_view x) (u, unit_whole.is_left u told, refl) (x, whole.is_left x is, refl)

    abbrev sure : All (λ (i : HistoryMinute). i.minute ≤ (unit_view f.card_a.number f.card_b.number u).last) w.book.sure
    sure = ((unit.unit.unit_holds f.card_a.number f.card_b.number).now (unit_view f.card_a.number f.card_b.number u) (u, unit_whole.is_left u told, refl)).sure

    abbrev fits : image_size_of (own_sizes (found_of f c).image) ≤ length x
    fits = omega (arith, room, whole.sized x is)

    -- the card was read, or an insertion began
    pub record IsPutSo : Type 0 where
      pub views : LeavesViews (of_card X) (of_card Y) Rises
      pub held : CardHoldsString (found_of f c) (w.hands c) c w.book Out Y
      pub valid : (y : List ℕ) → Y.left_since (found_of f c).began y → IsOwnValid y
      pub hands : HandMarksHold (found_of f c) (w.hands c) (w.firsts c) Y

    only-read : LeavesOnly X Y Unchanged → IsPutSo
    only-read run = record {
      views = rises-run Unchanged X Y whole run (λ a b t never. absurd never);
      held = held-read (found_of f c) (w.hands c) c w.book Out X Y one.rule.dark.later run one.held;
      valid = valid-on (found_of f c).began Unchanged X Y one.rule.dark.later run (λ a b t never. absurd never) one.valid;
      hands = hands-read (found_of f c) (w.hands c) (w.firsts c) X Y run one.hands;
    }

    module _ (valid : IsValid (own_sizes (found_of f c).image) x) (are : AreOwed now (owed_on (own_sizes (found_of f c).image) u x)) (run : LeavesOnly X Y (IsCardInserting (own_sizes (found_of f c).image) registration odometer (owed_on (own_sizes (found_of f c).image) u x) now)) where
      this : (a : List ℕ) → X.image ≡ Some a → x ≡ a
      this a t = one-image x a (sym is ∙ t)
        where
          one-image : (p q : List ℕ) → Some p ≡ Some q → p ≡ q
          one-image p q e = cc

      moment-at : (a y : List ℕ) → X.image ≡ Some a → IsCardInserting (own_sizes (found_of f c).image) registration odometer (owed_on (own_sizes (found_of f c).image) u x) now a y → IsCardInserting (own_sizes (found_of f c).image) registration odometer (owed_on (own_sizes (found_of f c).image) u x) now x y
      moment-at a y t m = subst (λ (l : List ℕ). IsCardInserting (own_sizes (found_of f c).image) registration odometer (owed_on (own_sizes (found_of f c).image) u x) now l y) (sym (this a t)) m

      sizes-at : (y : List ℕ) → IsCardInserting (own_sizes (found_of f c).image) registration odometer (owed_on (own_sizes (found_of f c).image) u x) now x y → own_sizes y ≡ own_sizes x
      sizes-at y m = same-sizes f (w.hands c) w.book c u x sound registration long odometer now few fits sizes (one.held.number x there) valid unit.none sure meets (one.held.now x there).1 y m

      abbrev at_start : VehiclesBefore
      at_start = vehicles_before (own_sizes (found_of f c).image) (found_of f c).vehicle (found_of f c).image

      -- no minute comes in another vehicle
      minutes-at : (a y : List ℕ) → X.image ≡ Some a → IsCardInserting (own_sizes (found_of f c).image) registration odometer (owed_on (own_sizes (found_of f c).image) u x) now a y → HasNoMinuteElsewhere at_start (own_sizes (found_of f c).image) a → HasNoMinuteElsewhere at_start (own_sizes (found_of f c).image) y
      minutes-at a y t m told = inserting-minutes (own_sizes (found_of f c).image) sound registration long odometer now (owed_on (own_sizes (found_of f c).image) u x) x fits at_start vehicle are valid sizes y (sizes-at y (moment-at a y t m) ∙ sizes)
          (subst (λ (l : List ℕ). HasNoMinuteElsewhere at_start (own_sizes (found_of f c).image) l) (sym (this a t)) told) (moment-at a y t m)

      inserted-so : IsPutSo
      inserted-so = record {
        views = rises-run (IsCardInserting (own_sizes (found_of f c).image) registration odometer (owed_on (own_sizes (found_of f c).image) u x) now) X Y whole run
            (λ a y t m. subst (λ (l : List ℕ). (own_view l).mark ≤ (own_view y).mark) (this a t)
            (put-rises f (w.hands c) w.book c u x sound registration long odometer now few fits sizes (one.held.number x there) valid unit.none sure meets (one.held.now x there).1 are y (moment-at a y t m)));
        held = held-on (found_of f c) (w.hands c) c w.book sound Out Out (IsCardInserting (own_sizes (found_of f c).image) registration odometer (owed_on (own_sizes (found_of f c).image) u x) now) X Y one.rule.dark.later run
            (λ a left h. h)
            (λ a y t m h. (
              sizes-at y (moment-at a y t m) ∙ sizes,
              put-holds f (w.hands c) w.book c u x sound registration long odometer now few fits sizes (one.held.number x there) valid unit.none sure meets (one.held.now x there).1 are y (moment-at a y t m),
            ))
            (λ a y t m. subst (λ (l : List ℕ). HasSameHolder l y) (this a t) (same-holder f (w.hands c) w.book c u x sound registration long odometer now few fits sizes (one.held.number x there) valid unit.none sure meets (one.held.now x there).1 y (moment-at a y t m)))
            (λ a y t m own told. record {
              entries = inserting-stands (own_sizes (found_of f c).image) sound registration long odometer now (owed_on (own_sizes (found_of f c).image) u x) x fits at_start vehicle (pointer-passes (vehicle_ring (own_sizes (found_of f c).image)) x (valid-passes (own_sizes (found_of f c).image) x valid).vehicles)
                  (subst (λ (l : List ℕ). StandAsBefore at_start (book_of (own_sizes (found_of f c).image) l).vehicles) (sym (this a t)) told.entries) y (moment-at a y t m)
                  (bounded-by at_start (own_sizes (found_of f c).image) y (sizes-at y (moment-at a y t m) ∙ sizes) (minutes-at a y t m told.minutes));
              minutes = minutes-at a y t m told.minutes;
              session = subst (λ (v : Registration). IsUsedSo (own_sizes (found_of f c).image) v (found_of f c).image y) vehicle
                  (inserting-used (own_sizes (found_of f c).image) registration (found_of f c).image now long few x fits
                  (subst (λ (v : Registration). IsUsedSo (own_sizes (found_of f c).image) v (found_of f c).image x) (sym vehicle) (subst (IsUsedSo (own_sizes (found_of f c).image) (found_of f c).vehicle (found_of f c).image) (sym (this a t)) told.session))
                  odometer (owed_on (own_sizes (found_of f c).image) u x) y (moment-at a y t m));
            }) whole one.held;
        valid = valid-on (found_of f c).began (IsCardInserting (own_sizes (found_of f c).image) registration odometer (owed_on (own_sizes (found_of f c).image) u x) now) X Y one.rule.dark.later run
            (λ a y t m. valid-own (own_sizes (found_of f c).image) y (sizes-at y (moment-at a y t m) ∙ sizes)
            (put-valid f (w.hands c) w.book c u x sound registration long odometer now few fits sizes (one.held.number x there) valid unit.none sure meets (one.held.now x there).1 are y (moment-at a y t m))) one.valid;
        hands = hands-on (found_of f c) (w.hands c) c w.book sound (w.firsts c) Out Out (IsCardInserting (own_sizes (found_of f c).image) registration odometer (owed_on (own_sizes (found_of f c).image) u x) now) X Y run
            (λ a y t m h. (
              sizes-at y (moment-at a y t m) ∙ sizes,
              put-holds f (w.hands c) w.book c u x sound registration long odometer now few fits sizes (one.held.number x there) valid unit.none sure meets (one.held.now x there).1 are y (moment-at a y t m),
            )) whole one.held one.hands;
      }

    put-so : IsPutSo
    put-so = ⊎_elim only-read (λ put. inserted-so put.0 put.1 put.2) (entering-moments (own_sizes (found_of f c).image) registration odometer now U V X Y answer u x enters told is)

    -- where it is accepted, with this image behind
    module _ (e : Entered) (y : List ℕ) (ok : answer ≡ Ok e) (now_is : Y.image ≡ Some y) where
      took : IsAccepted (own_sizes (found_of f c).image) registration odometer now U.image X.image Y.image e.look e.owed.items e.session e.replayed
      took = subst (λ (r : Result Entered NotEntered). IfOk r (λ e. IsAccepted (own_sizes (found_of f c).image) registration odometer now U.image X.image Y.image e.look e.owed.items e.session e.replayed)) ok enters.accepted

      was-valid : IsValid (own_sizes (found_of f c).image) x
      was-valid = (at_image (λ x. IsValid (own_sizes (found_of f c).image) x × ((card_view (own_sizes (found_of f c).image) x).stored ≤ now)) is took.valid).0

      owed-are : e.owed.items ≡ owed_on (own_sizes (found_of f c).image) u x
      owed-are = at_image (λ y. e.owed.items ≡ owed_on (own_sizes (found_of f c).image) u x) now_is
          (at_image (λ x. IfSome Y.image (λ y. e.owed.items ≡ owed_on (own_sizes (found_of f c).image) u x)) is
          (at_image (λ u. IfSome X.image (λ x. IfSome Y.image (λ y. e.owed.items ≡ owed_on (own_sizes (found_of f c).image) u x))) told took.owes))

      are-owed : AreOwed now (owed_on (own_sizes (found_of f c).image) u x)
      are-owed = subst (AreOwed now) owed-are took.fit

      done-at : IsCardInserted (own_sizes (found_of f c).image) registration odometer (owed_on (own_sizes (found_of f c).image) u x) now x y
      done-at = subst (λ (es : List Entry). IsCardInserted (own_sizes (found_of f c).image) registration odometer es now x y) owed-are
          (at_image (IsCardInserted (own_sizes (found_of f c).image) registration odometer e.owed.items now x) now_is (at_image (λ x. IfSome Y.image (IsCardInserted (own_sizes (found_of f c).image) registration odometer e.owed.items now x)) is took.inserted))

      knows-at : IsSession e.session y
      knows-at = at_image (IsSession e.session) now_is (at_image (λ x. IfSome Y.image (IsSession e.session)) is took.knows)

      entered-now : IsEntered (found_of f c).start (found_of f c).began now e.session.minute (of_card Y)
      entered-now = entered-back f two c now e.session.minute Y
          (subst (λ (r : Result Entered NotEntered). IfOk r (λ e. IsEntered (opened (both_of f two) c).start (opened (both_of f two) c).began now e.session.minute (card_seen Y))) ok
          (entered-answer (both_of f two) c (once_mended f.unit) w.due w.book w.marks (own_sizes (found_of f c).image) sound registration long odometer now few unit.unit unit.none late unit_whole unit_after whole after room unit.tells one.held.tells
          is-asked (as-steps f two c w.book Out [] [] U X one.rule) answer enters))

      -- a card without a session kept its newest minute
      newest-kept : (card_view (own_sizes (found_of f c).image) x).newest ≤ e.session.minute ⊎ (session_time (own_sizes (found_of f c).image) x ≢ 0)
      newest-kept = ⊎_elim
          (λ closed.
          let moment = closed_end (own_sizes (found_of f c).image) registration odometer now (owed_on (own_sizes (found_of f c).image) u x) x y closed.1 in
          let same = (closed_renews (own_sizes (found_of f c).image) sound x fits registration long now was-valid closed.0 y moment).newest in
          let answered = (entered-now.answered (own_view y) (y, after.is_left y now_is, refl)).0 in
          let view = new-view f (w.hands c) w.book c u x sound registration long odometer now few fits sizes (one.held.number x there) was-valid unit.none sure meets (one.held.now x there).1 y (inl (closed.0, moment)) in
          inl (omega (arith, same, answered, ap (λ (k : CardView). k.newest) view)))
          (λ open_. inr open_.0) done-at

      put-at : (IsSession e.session y) × MayEnd e.session.application y × SitsSince e.session.application (found_of f c).image (w.hands c) (brought_by c (found_of f c).start w.book) (suc (max (found_of f c).start.word e.session.minute)) y
      put-at = (
        knows-at,
        subst (λ (p : Application). MayEnd p y) (sym took.sizes) (put-ends f (w.hands c) w.book c u x sound registration long odometer now few fits sizes (one.held.number x there) was-valid unit.none sure meets (one.held.now x there).1 are-owed y done-at),
        subst (λ (p : Application). SitsSince p (found_of f c).image (w.hands c) (brought_by c (found_of f c).start w.book) (suc (max (found_of f c).start.word e.session.minute)) y) (sym took.sizes)
            (put-goes f (w.hands c) w.book c u x sound registration long odometer now few fits sizes (one.held.number x there) was-valid unit.none sure meets (one.held.now x there).1 are-owed y done-at e.session newest-kept took.sizes knows-at),
      )

      shut-at : IsShutAt e.session.application y
      shut-at = subst (λ (p : Application). IsShutAt p y) (sym took.sizes)
          (put-shut f (w.hands c) w.book c u x sound registration long odometer now few fits sizes (one.held.number x there) was-valid unit.none sure meets (one.held.now x there).1 are-owed y done-at)

      -- of what was owed: it is sure, and the card has it
      put-sure : (d : Entry) → Contains e.owed.items d → Contains ((found_of f c).start.owed ++ card_history c w.book.sure) d
      put-sure d in_ = subst (λ (es : List Entry). Contains es d)
          (whole-entries f (w.hands c) w.book c u x sound registration long odometer now few fits sizes (one.held.number x there) was-valid unit.none sure meets (one.held.now x there).1 ∙ ap (λ (is : List HistoryMinute). (found_of f c).start.owed ++ card_history c is) (all-none w.book unit.none))
          (Contains-append_right meets.more (owed_on (own_sizes (found_of f c).image) u x) d (subst (λ (es : List Entry). Contains es d) owed-are in_))

      owed-view : e.owed.items ≡ owed c (unit_view f.card_a.number f.card_b.number u) (own_view x)
      owed-view = owed-are ∙ owes f (w.hands c) w.book c u x sound registration long odometer now few fits sizes (one.held.number x there) was-valid unit.none sure meets (one.held.now x there).1

      -- each was later than the end mark
      put-later : (m : ℕ) → m ≤ (own_view x).mark → (d : Entry) → Contains e.owed.items d → m < d.minute
      put-later m le d in_ =
          let later = All-contains (λ (d : Entry). (own_view x).mark < d.minute) (owed c (unit_view f.card_a.number f.card_b.number u) (own_view x)) d (owed-above c (unit_view f.card_a.number f.card_b.number u) (own_view x))
          (subst (λ (es : List Entry). Contains es d) owed-view in_) in
          omega (arith, later, le)

      put-marked : (d : Entry) → Contains e.owed.items d → d.minute ≤ (own_view y).mark
      put-marked d in_ =
          let goes = put-at.2 in
          let up : AllUpTo (end_mark e.session.application y) (brought_by c (found_of f c).start w.book) = subst (AllUpTo (end_mark e.session.application y)) goes.has_all (goes_up e.session.application (found_of f c).image goes.written (suc (max (found_of f c).start.word e.session.minute)) y goes.goes) in
          let among = subst (λ (es : List Entry). Contains es d) (whole-entries f (w.hands c) w.book c u x sound registration long odometer now few fits sizes (one.held.number x there) was-valid unit.none sure meets (one.held.now x there).1)
          (Contains-append_right meets.more (owed_on (own_sizes (found_of f c).image) u x) d (subst (λ (es : List Entry). Contains es d) owed-are in_)) in
          let low = up-contains (end_mark e.session.application y) (brought_by c (found_of f c).start w.book) d up among in
          omega (arith, low, mark-own e.session.application y (own-y ∙ sym took.sizes))
        where
          own-y : own_sizes y ≡ own_sizes (found_of f c).image
          own-y = same-sizes f (w.hands c) w.book c u x sound registration long odometer now few fits sizes (one.held.number x there) was-valid unit.none sure meets (one.held.now x there).1 y (inserted_moment (own_sizes (found_of f c).image) registration odometer now (owed_on (own_sizes (found_of f c).image) u x) x y done-at) ∙ sizes

      -- so many entries were put on it: all that was owed to it
      put-number : e.replayed ≡ length (owed c (unit_view f.card_a.number f.card_b.number u) (own_view x))
      put-number = told-number ∙ by (session_time (own_sizes (found_of f c).image) x) refl
        where
          told-number : e.replayed ≡ replayed_count (session_time (own_sizes (found_of f c).image) x) (end_mark (own_sizes (found_of f c).image) x) e.owed.items
          told-number = at_image (λ x. e.replayed ≡ replayed_count (session_time (own_sizes (found_of f c).image) x) (end_mark (own_sizes (found_of f c).image) x) e.owed.items) is took.number

          session : (own_view x).session ≡ session_time (own_sizes (found_of f c).image) x
          session = ap (λ (k : CardView). k.session) (own-is (own_sizes (found_of f c).image) x sizes) ∙ session-is (own_sizes (found_of f c).image) x

          lacks : lacked (end_mark (own_sizes (found_of f c).image) x) e.owed.items ≡ e.owed.items
          lacks = lacks-all (end_mark (own_sizes (found_of f c).image) x) e.owed.items
              (subst (Follow (end_mark (own_sizes (found_of f c).image) x)) (sym owed-are) (follows f (w.hands c) w.book c u x sound registration long odometer now few fits sizes (one.held.number x there) was-valid unit.none sure meets (one.held.now x there).1))

          by : (n : ℕ) → session_time (own_sizes (found_of f c).image) x ≡ n → replayed_count (session_time (own_sizes (found_of f c).image) x) (end_mark (own_sizes (found_of f c).image) x) e.owed.items ≡ length (owed c (unit_view f.card_a.number f.card_b.number u) (own_view x))
          by zero none = ap (λ (s : ℕ). replayed_count s (end_mark (own_sizes (found_of f c).image) x) e.owed.items) none
              ∙ ap (λ (es : List Entry). length es) (sym (owed-none c (unit_view f.card_a.number f.card_b.number u) (own_view x) (session ∙ none)))
          by (suc n) some = ap (λ (b : Bool). cond b 0 (length (lacked (end_mark (own_sizes (found_of f c).image) x) e.owed.items))) (some-session (session_time (own_sizes (found_of f c).image) x) n some)
              ∙ ap (λ (es : List Entry). length es) (lacks ∙ owed-view)

  told-u : (u : List ℕ) × (U.image ≡ Some u)
  told-u = told-one U.image unit.tells

  told-x : (x : List ℕ) × (X.image ≡ Some x)
  told-x = told-one X.image one.held.tells

  so : IsPutSo told-u.0 told-x.0 told-u.1 told-x.1
  so = put-so told-u.0 told-x.0 told-u.1 told-x.1

  inserts : LeavesOnly X Y (λ x y. IsCardInserting (own_sizes (found_of f c).image) registration odometer (owed_on (own_sizes (found_of f c).image) told-u.0 x) now x y)
  inserts = at_image (λ u. LeavesOnly X Y (λ x y. IsCardInserting (own_sizes (found_of f c).image) registration odometer (owed_on (own_sizes (found_of f c).image) u x) now x y)) told-u.1 enters.moments

  pub entered-lit : CardLit f w.book Out (w.hands c) (w.firsts c) ks None c V Y
  entered-lit = record {
    rule = rule-after;
    valid = so.valid;
    rises = one.rises;
    brought = λ k in_. brought-card f c k w.book Out Out (once_mended f.unit) w.due w.marks U V X Y unit_whole unit.tells unit.unit unit.none one.rule.dark rule-after.dark (none-falls X Y so.views) (one.brought k in_);
    held = so.held;
    hands = so.hands;
    goes = record { has = brought_by c (found_of f c).start w.book; all = append-nil (brought_by c (found_of f c).start w.book); goes = tt };
  }

  pub entered-marks : MarksLit f w c X → MarksLit f w c Y
  entered-marks h =
      let app : Application = own_sizes (found_of f c).image in
      let u = told-u.0 in
      let x = told-x.0 in
      ⊎_elim
      (λ read. marks-on (found_of f c) c w.book w.marks Unchanged X Y whole read (λ n a y t le never. absurd never) so.views h)
      (λ put. marks-on (found_of f c) c w.book w.marks (IsCardInserting app registration odometer (owed_on app u x) now) X Y whole put.2
      (λ n a y t le k. insert_since n app sound registration long odometer now (owed_on app u x) put.1.0 a y (omega (arith, room, whole.sized a t)) (omega (arith, le, mark-at a t)) k) so.views h)
      (entering-moments app registration odometer now U V X Y answer u x enters told-u.1 told-x.1)
    where
      mark-at : (a : List ℕ) → X.image ≡ Some a → (own_view a).mark ≡ end_mark (own_sizes (found_of f c).image) a
      mark-at a t = ap (λ (v : CardView). v.mark) (own-is (own_sizes (found_of f c).image) a (one.held.now a (whole.is_left a t)).0) ∙ mark-is (own_sizes (found_of f c).image) a

  -- it is accepted: its session and its string are known
  pub entered-put : (e : Entered) → answer ≡ Ok e → IsPutIn (found_of f c) (w.hands c) c w.book now e.session Y
  entered-put e ok =
      let y = told-one Y.image so.held.tells in
      record {
        entered = entered-now told-u.0 told-x.0 told-u.1 told-x.1 e y.0 ok y.1;
        sizes = (took told-u.0 told-x.0 told-u.1 told-x.1 e y.0 ok y.1).sizes;
        vehicle = (took told-u.0 told-x.0 told-u.1 told-x.1 e y.0 ok y.1).vehicle ∙ vehicle;
        session = if_told Y.image (IsSession e.session) (λ n is. (put-at told-u.0 told-x.0 told-u.1 told-x.1 e n ok is).0);
        ends = if_told Y.image (MayEnd e.session.application) (λ n is. (put-at told-u.0 told-x.0 told-u.1 told-x.1 e n ok is).1);
        goes = if_told Y.image (SitsSince e.session.application (found_of f c).image (w.hands c) (brought_by c (found_of f c).start w.book) (suc (max (found_of f c).start.word e.session.minute))) (λ n is. (put-at told-u.0 told-x.0 told-u.1 told-x.1 e n ok is).2);
        shut = if_told Y.image (IsShutAt e.session.application) (λ n is. shut-at told-u.0 told-x.0 told-u.1 told-x.1 e n ok is);
      }

  -- what was owed to it
  pub record AreMarkable (es : List Entry) : Type 0 where
    pub began : (found_of f c).began ≤ Y.clock
    pub rises : Rise es
    pub sure : (d : Entry) → Contains es d → Contains ((found_of f c).start.owed ++ card_history c w.book.sure) d
    pub there : (y : List ℕ) → Y.may_leave y → (d : Entry) → Contains es d → d.minute ≤ (own_view y).mark
    pub prompt : (d : Entry) → Contains es d → IsPromptOn Y (record { device = device_of c; minute = d.minute; clock = Y.clock })
    pub older : (m : Mark) → IsCardHeld (found_of f c) c w.book X m → (d : Entry) → Contains es d → m.minute < d.minute

  pub entered-owed : (e : Entered) → answer ≡ Ok e → AreMarkable e.owed.items
  entered-owed e ok =
      let y = told-one Y.image so.held.tells in
      let works : Y.works ≡ true = subst (λ (r : Result Entered NotEntered). Y.works ≡ not (card_failed r)) ok enters.cause.works in
      record {
        began = omega (arith, one.rule.dark.later, so.views.later);
        rises = subst Rise (sym (owed-view told-u.0 told-x.0 told-u.1 told-x.1 e y.0 ok y.1)) (owed-rises c f.card_a.number f.card_b.number told-u.0 (own_view told-x.0));
        sure = put-sure told-u.0 told-x.0 told-u.1 told-x.1 e y.0 ok y.1;
        there = λ n left. put-marked told-u.0 told-x.0 told-u.1 told-x.1 e n ok (after.only n works left);
        prompt = λ d in_.
            let most : Y.clock ≤ X.clock + mark_writes = enters.most in
            let before : Y.clock - mark_writes ≤ X.clock = omega (arith, most) in (
              told-x.0,
              inserts.keeps (Y.clock - mark_writes) told-x.0 before (whole.counts_now (Y.clock - mark_writes) told-x.0 before (whole.is_left told-x.0 told-x.1)),
              put-later told-u.0 told-x.0 told-u.1 told-x.1 e y.0 ok y.1 (own_view told-x.0).mark (omega arith) d in_,
            );
        older = λ m held. put-later told-u.0 told-x.0 told-u.1 told-x.1 e y.0 ok y.1 m.minute
            (held.holds.1 (own_view told-x.0) (told-x.0, whole.counts_now m.clock told-x.0 held.holds.0 (whole.is_left told-x.0 told-x.1), refl));
      }

  -- what its find is to tell
  pub verdict-found : (e : Entered) → answer ≡ Ok e → HasFoundSo f c U X now e.owed.items e.replayed
  verdict-found e ok =
      let y = told-one Y.image so.held.tells in
      let took-now = took told-u.0 told-x.0 told-u.1 told-x.1 e y.0 ok y.1 in
      let was = at_image (λ x. IsValid (own_sizes (found_of f c).image) x × ((card_view (own_sizes (found_of f c).image) x).stored ≤ now)) told-x.1 took-now.valid in
      let is-own = (one.held.now told-x.0 (whole.is_left told-x.0 told-x.1)).0 in
      record {
        unit_image = told-u.0;
        card_image = told-x.0;
        on = unit_whole.is_left told-u.0 told-u.1;
        there = whole.is_left told-x.0 told-x.1;
        valid = valid-own (own_sizes (found_of f c).image) told-x.0 is-own was.0;
        sizes = is-own;
        early = subst (λ (k : CardView). k.stored ≤ now) (sym (own-is (own_sizes (found_of f c).image) told-x.0 is-own)) was.1;
        owes = sym (owed-view told-u.0 told-x.0 told-u.1 told-x.1 e y.0 ok y.1);
        number = sym (put-number told-u.0 told-x.0 told-u.1 told-x.1 e y.0 ok y.1);
      }

  -- the number that it told is the card's
  pub told-own : (e : Entered) → answer ≡ Ok e → card_number_bytes e.look.number ≡ (found_of f c).number
  told-own e ok =
      let y = told-one Y.image so.held.tells in
      let looked = at_image (λ x. IsLook (own_sizes (found_of f c).image) x e.look) told-x.1 (took told-u.0 told-x.0 told-u.1 told-x.1 e y.0 ok y.1).looked in
      let there = whole.is_left told-x.0 told-x.1 in
      number_told (own_sizes (found_of f c).image) told-x.0 e.look (omega (arith, room, whole.sized told-x.0 told-x.1)) looked
      ∙ sym (number-own (own_sizes (found_of f c).image) told-x.0 (one.held.now told-x.0 there).0) ∙ one.held.number told-x.0 there

  -- all the entries that were owed were put on it
  pub told-whole : (e : Entered) → answer ≡ Ok e → e.replayed ≡ length e.owed.items
  told-whole e ok =
      let y = told-one Y.image so.held.tells in
      put-number told-u.0 told-x.0 told-u.1 told-x.1 e y.0 ok y.1 ∙ ap (λ (es : List Entry). length es) (sym (owed-view told-u.0 told-x.0 told-u.1 told-x.1 e y.0 ok y.1))

-- ---- so all of it stands, where nothing more is written on the unit

module _ (f : Found) (w : RunLedger) (cards : Cards) (c : Card) (U V X Y Z : State) (found : AreFoundCards f cards) (unit_whole : IsCoherent U) (unit_after : IsCoherent V) (whole : IsCoherent X) (after : IsCoherent Y) (registration : Registration) (long : length registration.0 ≡ 15) (vehicle : registration ≡ (found_of f c).vehicle) (odometer now : ℕ) (few : now < 2 ^ 32) (answer : Result Entered NotEntered)
    (out : w.standing c ≡ Out) (bare : session_of cards c ≡ None) (p : DevicesPowered f w cards (arranged c U X Z)) (late : w.due ≤ now / 60) (app : Application) (measured : IsOwnValid (found_of f c).image → app ≡ own_sizes (found_of f c).image) (size : image_size_of app ≤ X.size) (told : IsEntering app registration odometer now U V X Y answer) where
  room : IsOwnValid (found_of f c).image → image_size_of (own_sizes (found_of f c).image) ≤ X.size
  room valid = subst (λ (a : Application). image_size_of a ≤ X.size) (measured valid) size

  enters : IsOwnValid (found_of f c).image → IsEntering (own_sizes (found_of f c).image) registration odometer now U V X Y answer
  enters valid = subst (λ (a : Application). IsEntering a registration odometer now U V X Y answer) (measured valid) told

  parts : AreParts f w cards c U X Z
  parts = parts-of f w cards c U X Z p

  one-before : IsOwnValid (found_of f c).image → CardLit f w.book Out (w.hands c) (w.firsts c) (w.brought c) None c U X
  one-before valid = subst (λ (o : Option Accepted). CardLit f w.book Out (w.hands c) (w.firsts c) (w.brought c) o c U X) bare (subst (λ (z : Standing). CardLit f w.book z (w.hands c) (w.firsts c) (w.brought c) (session_of cards c) c U X) out (parts.mine valid))

  one-after : IsOwnValid (found_of f c).image → CardLit f w.book (w.standing c) (w.hands c) (w.firsts c) (w.brought c) (session_of cards c) c V Y
  one-after valid = subst (λ (z : Standing). CardLit f w.book z (w.hands c) (w.firsts c) (w.brought c) (session_of cards c) c V Y) (sym out) (subst (λ (o : Option Accepted). CardLit f w.book Out (w.hands c) (w.firsts c) (w.brought c) o c V Y) (sym bare)
      (entered-lit f w c U V X Y found.two (found.sizes c valid) unit_whole unit_after whole after registration long vehicle odometer now few answer parts.unit (w.brought c) (one-before valid) late (room valid) (enters valid)))

  others-after : IsOwnValid (found_of f (other c)).image → CardLit f w.book (w.standing (other c)) (w.hands (other c)) (w.firsts (other c)) (w.brought (other c)) (session_of cards (other c)) (other c) V Z
  others-after valid =
      let was = parts.others valid in
      let rule = of-steps f found.two (other c) w.book (w.standing (other c)) [] [] V Z (unit-read (both_of f found.two) (other c) w.book (w.standing (other c)) [] [] U V Z unit_whole told.unit.leaves (as-steps f found.two (other c) w.book (w.standing (other c)) [] [] U Z was.rule)) in
      record {
        rule = rule;
        valid = was.valid;
        rises = was.rises;
        brought = λ k in_. brought-on f (other c) k w.book (w.standing (other c)) (w.standing (other c)) (once_mended f.unit) w.due w.marks U V Z unit_whole parts.unit.tells parts.unit.unit parts.unit.none was.rule.dark rule.dark (was.brought k in_);
        held = was.held;
        hands = was.hands;
        goes = was.goes;
      }

  marks-after : MarksLit f w c Y
  marks-after = by (valid-or (found_of f c).image)
    where
      by : IsOwnValid (found_of f c).image ⊎ (IsOwnValid (found_of f c).image → ⊥) → MarksLit f w c Y
      by (inl valid) = entered-marks f w c U V X Y found.two (found.sizes c valid) unit_whole unit_after whole after registration long vehicle odometer now few answer parts.unit (w.brought c) (one-before valid) late (room valid) (enters valid) parts.marks_mine
      by (inr bad) = no-marks f c w.book w.marks X Y bad parts.marks_mine

  unit-after : UnitFollowsBook (once_mended f.unit) w.due w.book w.marks V
  unit-after = holds-read (once_mended f.unit) w.due w.book w.marks parts.unit.unit unit_whole told.unit.leaves

  -- however it was answered, where the unit works
  pub entered-powered-by : V.works ≡ true → DevicesPowered f w cards (arranged c V Y Z)
  entered-powered-by works = powered-of f w cards c V Y Z found (record {
    unit = record { tells = told.unit.leaves.tells ∙ parts.unit.tells; works = works; unit = unit-after; none = parts.unit.none };
    mine = one-after;
    others = others-after;
    marks_mine = marks-after;
    marks_others = parts.marks_others;
  })

  -- or the unit failed
  pub entered-powerless-by : DevicesUnpowered f w (arranged c V Y Z)
  entered-powerless-by = powerless-of f w cards c V Y Z found (record {
    tells = told.unit.leaves.tells ∙ parts.unit.tells;
    unit = holds-dark f.unit w.due w.book w.marks V unit-after;
    none = parts.unit.none;
    mine = λ valid. off-of f w.book (w.standing c) (w.hands c) (w.firsts c) (w.brought c) (session_of cards c) c V Y (one-after valid);
    others = λ valid. off-of f w.book (w.standing (other c)) (w.hands (other c)) (w.firsts (other c)) (w.brought (other c)) (session_of cards (other c)) (other c) V Z (others-after valid);
    marks_mine = marks-after;
    marks_others = parts.marks_others;
  })

  -- a card that is accepted
  pub accepted-put-by : IsOwnValid (found_of f c).image → (e : Entered) → answer ≡ Ok e → IsPutIn (found_of f c) (w.hands c) c w.book now e.session Y
  accepted-put-by valid e ok = entered-put f w c U V X Y found.two (found.sizes c valid) unit_whole unit_after whole after registration long vehicle odometer now few answer parts.unit (w.brought c) (one-before valid) late (room valid) (enters valid) e ok

  -- and the entries that were put on it are marked, where its clock has not stopped
  pub accepted-marked-by : IsOwnValid (found_of f c).image → (e : Entered) → answer ≡ Ok e → V.works ≡ true → IsSettled Y → DevicesPowered f (with_marks (card_marks c Y.clock e.owed.items) w) cards (arranged c V Y Z)
  accepted-marked-by valid e ok works settled =
      let facts = entered-owed f w c U V X Y found.two (found.sizes c valid) unit_whole unit_after whole after registration long vehicle odometer now few answer parts.unit (w.brought c) (one-before valid) late (room valid) (enters valid) e ok in
      marked-powered f w cards c V Y Z found (entered-powered-by works) after settled valid facts.began e.owed.items facts.rises facts.sure facts.there facts.prompt (λ m in_. facts.older m (All-contains (IsCardHeld (found_of f c) c w.book X) (marks_of (device_of c) w.marks) m parts.marks_mine.held in_))

  -- the number that it told is its own
  pub accepted-number-by : IsOwnValid (found_of f c).image → (e : Entered) → answer ≡ Ok e → card_number_bytes e.look.number ≡ (found_of f c).number
  accepted-number-by valid e ok = told-own f w c U V X Y found.two (found.sizes c valid) unit_whole unit_after whole after registration long vehicle odometer now few answer parts.unit (w.brought c) (one-before valid) late (room valid) (enters valid) e ok

  -- and by some images of unit and card that a stop might leave then so many entries were owed
  pub accepted-found-by : IsOwnValid (found_of f c).image → (e : Entered) → answer ≡ Ok e → HasFoundSo f c U X now e.owed.items e.replayed
  accepted-found-by valid e ok = verdict-found f w c U V X Y found.two (found.sizes c valid) unit_whole unit_after whole after registration long vehicle odometer now few answer parts.unit (w.brought c) (one-before valid) late (room valid) (enters valid) e ok

  pub accepted-whole-by : IsOwnValid (found_of f c).image → (e : Entered) → answer ≡ Ok e → e.replayed ≡ length e.owed.items
  accepted-whole-by valid e ok = told-whole f w c U V X Y found.two (found.sizes c valid) unit_whole unit_after whole after registration long vehicle odometer now few answer parts.unit (w.brought c) (one-before valid) late (room valid) (enters valid) e ok

-- ---- by the card's own sizes

module _ (f : Found) (w : RunLedger) (cards : Cards) (c : Card) (U V X Y Z : State) (found : AreFoundCards f cards) (unit_whole : IsCoherent U) (unit_after : IsCoherent V) (whole : IsCoherent X) (after : IsCoherent Y) (registration : Registration) (long : length registration.0 ≡ 15) (vehicle : registration ≡ (found_of f c).vehicle) (odometer now : ℕ) (few : now < 2 ^ 32) (answer : Result Entered NotEntered)
    (out : w.standing c ≡ Out) (bare : session_of cards c ≡ None) (p : DevicesPowered f w cards (arranged c U X Z)) (late : w.due ≤ now / 60) (room : image_size_of (own_sizes (found_of f c).image) ≤ X.size) (enters : IsEntering (own_sizes (found_of f c).image) registration odometer now U V X Y answer) where
  pub entered-powered : V.works ≡ true → DevicesPowered f w cards (arranged c V Y Z)
  entered-powered = entered-powered-by f w cards c U V X Y Z found unit_whole unit_after whole after registration long vehicle odometer now few answer out bare p late (own_sizes (found_of f c).image) (λ valid. refl) room enters

  pub entered-powerless : DevicesUnpowered f w (arranged c V Y Z)
  entered-powerless = entered-powerless-by f w cards c U V X Y Z found unit_whole unit_after whole after registration long vehicle odometer now few answer out bare p late (own_sizes (found_of f c).image) (λ valid. refl) room enters

  pub accepted-put : IsOwnValid (found_of f c).image → (e : Entered) → answer ≡ Ok e → IsPutIn (found_of f c) (w.hands c) c w.book now e.session Y
  accepted-put = accepted-put-by f w cards c U V X Y Z found unit_whole unit_after whole after registration long vehicle odometer now few answer out bare p late (own_sizes (found_of f c).image) (λ valid. refl) room enters

  pub accepted-marked : IsOwnValid (found_of f c).image → (e : Entered) → answer ≡ Ok e → V.works ≡ true → IsSettled Y → DevicesPowered f (with_marks (card_marks c Y.clock e.owed.items) w) cards (arranged c V Y Z)
  accepted-marked = accepted-marked-by f w cards c U V X Y Z found unit_whole unit_after whole after registration long vehicle odometer now few answer out bare p late (own_sizes (found_of f c).image) (λ valid. refl) room enters

-- the sizes that it was measured by are those that it told at the start
pub measured-own : (f : Found) (w : RunLedger) (cards : Cards) (c : Card) (U X Z : State) → DevicesPowered f w cards (arranged c U X Z) → IsCoherent X → (app : Application) → IfSome X.image (λ x. own_sizes x ≡ app) → IsOwnValid (found_of f c).image → app ≡ own_sizes (found_of f c).image
measured-own f w cards c U X Z p whole app told valid =
    let one = (parts-of f w cards c U X Z p).mine valid in
    let x = told-one X.image one.held.tells in
    sym (at_image (λ x. own_sizes x ≡ app) x.1 told) ∙ (one.held.now x.0 (whole.is_left x.0 x.1)).0
