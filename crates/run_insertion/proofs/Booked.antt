-- What is carried of a card that enters: as it is revived, judged, turned away, torn out or taken in.
use Rattle.std.proofs.Common.{max, ◌++◌, append-nil, ◌≡◌, ◌≢◌, ◌⊎◌, ◌∙◌, inl, inr, ⊎_elim, ℕ, ◌^◌, ◌<◌, ◌≤◌, Bool, true, false, Option, Some, None, IfSome, List, [], length, refl, ap, sym, subst, arith}
use Rattle.std.specs.Prelude.{Result, Ok, IsOk, IfOk}
use Rattle.activity_codec.specs.declared.entries.Entry.{Entry}
use Rattle.trace_model.specs.declared.Card.{Card}
use Rattle.trace_model.specs.declared.Card.TheVariants.{A, B}
use Rattle.tach_media.specs.Medium.{State, IsCoherent, LeavesOnly, Unchanged, HasCause, last_count}
use Rattle.tacho_types.specs.declared.texts.Registration.{Registration}
use Rattle.tach_media.proofs.Runs.{at_image}
use Rattle.card_layout.specs.declared.files.Application.{Application}
use Rattle.card_layout.specs.declared.files.Fid.{Fid}
use Rattle.card_layout.specs.Application.{IsApplication}
use Rattle.card_layout.specs.Files.{image_size_of}
use Rattle.card_session.specs.Inserting.{IsCardInserting, IsCardInserted}
use Rattle.device_calls.proofs.TimedCalls.{inserting-timed}
use Rattle.card_validity.specs.card_image.Fields.{session_time}
use Rattle.card_validity.specs.card_image.Judging.{IsValid}
use Rattle.card_validity.specs.card_image.View.{CardView, card_view}
use Rattle.card_validity.specs.card_image.Own.{own_sizes, own_view, IsOwnValid}
use Rattle.card_session.specs.Sessions.{IsSession, newest_in, book_of}
use Rattle.card_session.proofs.Renewing.{closed_answered}
use Rattle.device_calls.specs.history_model.Minutes.{HistoryMinute, card_history, up_to}
use Rattle.device_calls.specs.history_model.Presence.{trimmed_by}
use Rattle.device_calls.specs.history_model.Book.{all, Ordered}
use Rattle.device_calls.proofs.history_model.Books.{all-none, up_to-whole, mark-earlier}
use Rattle.device_calls.specs.device_rule.Views.{UnitView, unit_view, row, other, owed, owed_in, newest_with}
use Rattle.device_calls.specs.device_rule.Marked.{of_card}
use Rattle.device_calls.proofs.device_rule.Owing.{owed-new}
use Rattle.device_calls.specs.device_rule.Filling.{FillsDays}
use Rattle.device_calls.proofs.OnCard.{own-is, session-is}
use Rattle.device_calls.specs.device_rule.Rules.{Out, Meets, Shows, IsEntered}
use Rattle.unit_notes.specs.Journal.{LeavesJournal}
use Rattle.device_calls.specs.declared.entering.Entered.{Entered}
use Rattle.device_calls.specs.declared.entering.NotEntered.{NotEntered}
use Rattle.device_calls.specs.Entering.{owed_on, card_failed, IsAccepted, IsEntering}
use Rattle.run_crew.specs.declared.cards.Accepted.{Accepted}
use Rattle.run_crew.specs.declared.cards.Cards.{Cards}
use Rattle.run_crew.specs.Cards.{session_of, with_session, with_sizes}
use Rattle.run_crew.specs.Cabin.{with_sizes_of}
use Rattle.run_minutes.specs.run_promise.Found.{Found, found_of, unit_seen, AnyKept}
use Rattle.run_minutes.specs.run_promise.Cards.{IsUntouched, brought_by}
use Rattle.run_minutes.specs.run_promise.Between.{RunLedger}
use Rattle.run_minutes.specs.run_devices.Told.{AreFoundCards, DevicesPowered, DevicesUnpowered, arranged, with_standing, card_marks, with_marks}
use Rattle.run_minutes.proofs.run_devices.Parts.{told-one, UnitLit, CardLit, AreParts, parts-of, powered-of}
use Rattle.run_minutes.proofs.run_devices.Known.{session-sized, found-sizes, found-session}
use Rattle.run_minutes.proofs.run_devices.Begun.{out-powered}
use Rattle.run_minutes.proofs.run_devices.Woken.{read-powered, untouched-read, untouched-entered, MayHaveWritten as MayWrite}
use Rattle.run_minutes.proofs.run_devices.Entered.{measured-own, entered-powered-by, entered-powerless-by, accepted-put-by, accepted-marked-by, accepted-number-by, accepted-found-by, accepted-whole-by}
use Rattle.run_minutes.proofs.run_devices.Putting.{out-now, put-valid}
use Rattle.run_minutes.specs.declared.keeper.Keeper.{Keeper}
use Rattle.run_insertion.specs.declared.lines.Entering.{Entering}
use Rattle.run_insertion.specs.Entering.{Ending, Unfit, Ahead, Fell, Unasked, Unnoted, Seated, Lost, taken_as, fallen, most_owed}
use Rattle.run_insertion.specs.Told.{IsCarriedOn, IsTakenOn, TimesOn, IsToldSo, IsToldOf, MayHaveWritten, IsEnteredOn, MaySeat, MayEnter, BooksTaken, carried_judged}
use Rattle.run_minutes.specs.CardDeeds.{DoesOn, OpensOn}
use Rattle.run_minutes.proofs.CardDeeds.{does-insert}
use Rattle.run_insertion.proofs.Opening.{does-read, read-alone, opens-as, opens-woken}
use Rattle.run_insertion.proofs.Carried.{noted-carried, found-fallen}

-- the cards have the sessions that they had
pub powered-as : (f : Found) (w : RunLedger) (cards after : Cards) (c : Card) (U X Y : State) → AreFoundCards f after → session_of after c ≡ session_of cards c → session_of after (other c) ≡ session_of cards (other c) → DevicesPowered f w cards (arranged c U X Y) → DevicesPowered f w after (arranged c U X Y)
powered-as f w cards after c U X Y found mine others p =
    let parts : AreParts f w cards c U X Y = parts-of f w cards c U X Y p in
    powered-of f w after c U X Y found (record {
      unit = parts.unit;
      mine = λ valid. subst (λ (o : Option Accepted). CardLit f w.book (w.standing c) (w.hands c) (w.firsts c) (w.brought c) o c U X) (sym mine) (parts.mine valid);
      others = λ valid. subst (λ (o : Option Accepted). CardLit f w.book (w.standing (other c)) (w.hands (other c)) (w.firsts (other c)) (w.brought (other c)) o (other c) U Y) (sym others) (parts.others valid);
      marks_mine = parts.marks_mine;
      marks_others = parts.marks_others;
    })

none-still : (c : Card) (cards : Cards) → session_of cards c ≡ None → session_of (with_session c None cards) c ≡ session_of cards c
none-still A cards bare = sym bare
none-still B cards bare = sym bare

others-still : (c : Card) (cards : Cards) → session_of (with_session c None cards) (other c) ≡ session_of cards (other c)
others-still A cards = refl
others-still B cards = refl

-- a card without a session is torn out, and the fault is noted
pub torn-carried : (f : Found) (w : RunLedger) (e : Entering) (k v : Keeper) (V W X Z : State) (failed : Bool) → session_of k.cabin.cards e.which ≡ None → AreFoundCards f k.cabin.cards → IsCoherent V → DevicesPowered f w k.cabin.cards (arranged e.which V X Z) → v ≡ fallen true e k → LeavesOnly V W LeavesJournal → HasCause V W failed
    → IsCarriedOn failed f w v.cabin.cards (arranged e.which W X Z)
torn-carried f w e k v V W X Z failed bare found whole p torn run cause =
    let left : Cards = with_session e.which None k.cabin.cards in
    let found_left : AreFoundCards f left = found-session f e.which None k.cabin.cards found in
    let stood : DevicesPowered f w left (arranged e.which V X Z) = powered-as f w k.cabin.cards left e.which V X Z found_left (none-still e.which k.cabin.cards bare) (others-still e.which k.cabin.cards) p in
    let booked : IsCarriedOn failed f w left (arranged e.which W X Z) = noted-carried e.which f w left V W X Z failed found_left whole stood run cause in
    subst (λ (q : Keeper). IsCarriedOn failed f w q.cabin.cards (arranged e.which W X Z)) (sym torn) booked

judged-as : (fell : Bool) (entered : Entered) (clock : ℕ) (entry : Option ℕ) (e : Entering) (w : RunLedger) → carried_judged (taken_as fell entered clock entry) e w ≡ with_marks (card_marks e.which clock entered.owed.items) w
judged-as true entered clock None e w = refl
judged-as false entered clock None e w = refl
judged-as true entered clock (Some entry) e w = refl
judged-as false entered clock (Some entry) e w = refl

told-as : (fell : Bool) (entered : Entered) (clock : ℕ) (entry : Option ℕ) (f : Found) (w : RunLedger) (e : Entering) (U X : State) → IsToldSo f w e entered U X → IsToldOf (taken_as fell entered clock entry) f w e U X
told-as true entered clock None f w e U X told = told
told-as false entered clock None f w e U X told = told
told-as true entered clock (Some entry) f w e U X told = told
told-as false entered clock (Some entry) f w e U X told = told

written-as : (fell : Bool) (entered : Entered) (clock : ℕ) (entry : Option ℕ) → MayHaveWritten (taken_as fell entered clock entry)
written-as true entered clock None = tt
written-as false entered clock None = tt
written-as true entered clock (Some entry) = tt
written-as false entered clock (Some entry) = tt

-- ---- A CARD IS JUDGED, by its sizes

module _ (app : Application) (e : Entering) (k : Keeper) (U V X M Z : State) (unit_whole : IsCoherent U) (unit_after : IsCoherent V) (whole : IsCoherent X) (after : IsCoherent M) (bare : session_of k.cabin.cards e.which ≡ None) (told : IfSome X.image (λ x. own_sizes x ≡ app)) (size : image_size_of app ≤ X.size)
    (registration : Registration) (long : length registration.0 ≡ 15) (odometer : ℕ) (few : e.at.second < 2 ^ 32) (answer : Result Entered NotEntered) (enters : IsEntering app registration odometer e.at.second U V X M answer)
    (f : Found) (w : RunLedger) (m : MayEnter f w k.cabin.cards e U X Z) (named : registration ≡ (found_of f e.which).vehicle) (out : w.standing e.which ≡ Out) where
  own : IsOwnValid (found_of f e.which).image → app ≡ own_sizes (found_of f e.which).image
  own = measured-own f w k.cabin.cards e.which U X Z m.powered whole app told

  pub judged-powered : V.works ≡ true → DevicesPowered f w k.cabin.cards (arranged e.which V M Z)
  judged-powered = entered-powered-by f w k.cabin.cards e.which U V X M Z m.found unit_whole unit_after whole after registration long named odometer e.at.second few answer out bare m.powered m.late app own size enters

  pub judged-powerless : DevicesUnpowered f w (arranged e.which V M Z)
  judged-powerless = entered-powerless-by f w k.cabin.cards e.which U V X M Z m.found unit_whole unit_after whole after registration long named odometer e.at.second few answer out bare m.powered m.late app own size enters

  -- a card that no call wrote is so still, or was valid
  untouched-by : IsUntouched (found_of f e.which) X → IsUntouched (found_of f e.which) M ⊎ (IsOwnValid (found_of f e.which).image × MayWrite answer)
  untouched-by = untouched-entered (found_of f e.which) registration odometer e.at.second U V X M answer whole m.began (parts-of f w k.cabin.cards e.which U X Z m.powered).unit.tells m.tells app (λ x is. at_image (λ (x : List ℕ). own_sizes x ≡ app) is told) enters

  -- and when it was last used
  put-timed : IsOwnValid (found_of f e.which).image → TimesOn f e.which X M
  put-timed valid timed =
      let u = told-one U.image (parts-of f w k.cabin.cards e.which U X Z m.powered).unit.tells in
      inserting-timed (found_of f e.which).image (found_of f e.which).began X M m.began whole timed app (subst IsApplication (sym (own valid)) (m.found.sizes e.which valid)) size told registration long odometer e.at.second (owed_on app u.0)
      (at_image (λ (u : List ℕ). LeavesOnly X M (λ x c. IsCardInserting app registration odometer (owed_on app u x) e.at.second x c)) u.1 enters.moments)

  -- one that no call wrote shows what it showed
  read-does : (MayWrite answer → ⊥) → DoesOn (own_sizes (found_of f e.which).image) [] X M
  read-does never = does-read (own_sizes (found_of f e.which).image) X M (read-alone app e.at.second X M answer never enters.refused)

  -- the unit failed as it was asked
  pub unasked-known : (MayWrite answer → ⊥) → IsEnteredOn Unasked e true k k U V X M Z f w
  unasked-known never = record { taken = judged-powerless; found = m.found; told = tt; timed = put-timed; untouched = λ same. ⊎_elim (λ still. inl still) (λ written. absurd (never written.1)) (untouched-by same); opens = λ valid. tt }

  -- it is turned away, which is noted
  module _ (failed : Bool) (W : State) (works : V.works ≡ true) (run : LeavesOnly V W LeavesJournal) (cause : HasCause V W failed) where
    refused-carried : IsCarriedOn failed f w k.cabin.cards (arranged e.which W M Z)
    refused-carried = noted-carried e.which f w k.cabin.cards V W M Z failed m.found unit_after (judged-powered works) run cause

    pub unfit-known : (fid : Fid) (place : ℕ) → (MayWrite answer → ⊥) → IsEnteredOn (Unfit fid place) e failed k k U W X M Z f w
    unfit-known fid place never = record { taken = refused-carried; found = m.found; told = tt; timed = put-timed; untouched = λ same. ⊎_elim (λ still. inl still) (λ written. absurd (never written.1)) (untouched-by same); opens = λ valid. read-does never }

    pub ahead-known : (stored : ℕ) → (MayWrite answer → ⊥) → IsEnteredOn (Ahead stored) e failed k k U W X M Z f w
    ahead-known stored never = record { taken = refused-carried; found = m.found; told = tt; timed = put-timed; untouched = λ same. ⊎_elim (λ still. inl still) (λ written. absurd (never written.1)) (untouched-by same); opens = λ valid. read-does never }

    -- or a call on it failed
    pub fell-known : (v : Keeper) → v ≡ fallen true e k → IsEnteredOn Fell e failed k v U W X M Z f w
    fell-known v torn = record {
      taken = torn-carried f w e k v V W M Z failed bare m.found unit_after (judged-powered works) torn run cause;
      found = found-fallen true f e k v torn m.found;
      told = tt;
      timed = put-timed;
      untouched = λ same. ⊎_elim (λ still. inl still) (λ written. inr (written.0, tt)) (untouched-by same);
      opens = λ valid. tt;
    }

  -- or it is taken in
  module _ (entered : Entered) (ok : answer ≡ Ok entered) where
    valid : IsOwnValid (found_of f e.which).image
    valid = put-valid f w k.cabin.cards e.which U V X M Z m.found unit_whole unit_after whole after registration long named odometer e.at.second few answer bare m.powered m.late app told size enters m.tells m.began m.spared entered ok

    may-seat : V.works ≡ true → M.clock < last_count → MaySeat f (with_marks (card_marks e.which M.clock entered.owed.items) w) k e entered.look entered.session V M Z
    may-seat works low = record {
      found = m.found;
      powered = accepted-marked-by f w k.cabin.cards e.which U V X M Z m.found unit_whole unit_after whole after registration long named odometer e.at.second few answer out bare m.powered m.late app own size enters valid entered ok works (enters.settled (is-ok ok) low);
      valid = valid;
      out = out;
      put = accepted-put-by f w k.cabin.cards e.which U V X M Z m.found unit_whole unit_after whole after registration long named odometer e.at.second few answer out bare m.powered m.late app own size enters valid entered ok;
      late = m.late;
      named = accepted-number-by f w k.cabin.cards e.which U V X M Z m.found unit_whole unit_after whole after registration long named odometer e.at.second few answer out bare m.powered m.late app own size enters valid entered ok;
    }
      where
        is-ok : answer ≡ Ok entered → IsOk answer
        is-ok is = subst (λ (r : Result Entered NotEntered). IsOk r) (sym is) refl

    -- the newest minute that it answered: nothing is owed to it any more
    module _ (works : V.works ≡ true) (low : M.clock < last_count) where
      put-lit : CardLit f w.book (w.standing e.which) (w.hands e.which) (w.firsts e.which) (w.brought e.which) (session_of k.cabin.cards e.which) e.which V M
      put-lit = (parts-of f w k.cabin.cards e.which V M Z (judged-powered works)).mine valid

      put-entered : IsEntered (found_of f e.which).start (found_of f e.which).began e.at.second entered.session.minute (of_card M)
      put-entered = (may-seat works low).put.entered

      unit-lit : UnitLit f w V
      unit-lit = (parts-of f w k.cabin.cards e.which V M Z (judged-powered works)).unit

      on-unit : (u : List ℕ) × (V.image ≡ Some u)
      on-unit = told-one V.image unit-lit.tells

      on-card : (x : List ℕ) × (M.image ≡ Some x)
      on-card = told-one M.image put-lit.held.tells

      abbrev u : UnitView
      u = unit_view f.card_a.number f.card_b.number on-unit.0

      abbrev x : CardView
      x = own_view on-card.0

      u-there : (unit_seen f V).may_leave u
      u-there = (on-unit.0, unit_after.is_left on-unit.0 on-unit.1, refl)

      x-there : (of_card M).may_leave x
      x-there = (on-card.0, after.is_left on-card.0 on-card.1, refl)

      meets : Meets e.which (found_of f e.which).start AnyKept (all w.book) (w.standing e.which) u x
      meets = put-lit.rule.dark.meets u x u-there x-there

      shows : Shows (FillsDays f.unit.days) f.unit.first w.book u
      shows = (unit-lit.unit.unit_holds f.card_a.number f.card_b.number).now u u-there

      order : Ordered f.unit.first w.due w.book
      order = (unit-lit.unit.unit_holds f.card_a.number f.card_b.number).order

      none-owed : owed e.which u x ≡ []
      none-owed =
          let last : u.last < w.due = mark-earlier f.unit.first w.due w.book u.last order shows.mark in
          let late = m.late in
          ap (λ (n : ℕ). owed_in (row e.which u) u.last n x.mark) (put-entered.session x x-there) ∙ owed-new (row e.which u) u.last e.at.second x.mark (omega (arith, last, late))

      all-had : meets.more ≡ brought_by e.which (found_of f e.which).start w.book
      all-had =
          sym (append-nil meets.more) ∙ ap (λ (es : List Entry). meets.more ++ es) (sym none-owed) ∙ meets.whole
          ∙ ap (λ (is : List HistoryMinute). (found_of f e.which).start.owed ++ card_history e.which is) (ap (up_to u.last) (all-none w.book unit-lit.none) ∙ up_to-whole u.last w.book.sure shows.sure ∙ sym (all-none w.book unit-lit.none))

      newest-is : x.newest ≡ trimmed_by (found_of f e.which).start ((found_of f e.which).start.entries ++ brought_by e.which (found_of f e.which).start w.book)
      newest-is =
          sym (ap (newest_with x) none-owed) ∙ meets.newest
          ∙ ap (λ (es : List Entry). trimmed_by (found_of f e.which).start ((found_of f e.which).start.entries ++ es)) (ap (λ (es : List Entry). meets.more ++ es) none-owed ∙ append-nil meets.more ∙ all-had)

      -- of a card without a session
      module _ (z : List ℕ) (is : X.image ≡ Some z) where
        took : IsAccepted app registration odometer e.at.second U.image X.image M.image entered.look entered.owed.items entered.session entered.replayed
        took = subst (λ (r : Result Entered NotEntered). IfOk r (λ e_. IsAccepted app registration odometer e.at.second U.image X.image M.image e_.look e_.owed.items e_.session e_.replayed)) ok enters.accepted

        z-own : own_sizes z ≡ app
        z-own = at_image (λ (l : List ℕ). own_sizes l ≡ app) is told

        words : (own_view z).session ≡ 0 → (own_view z).word ≤ entered.session.minute
        words shut =
            let sound = subst IsApplication (sym (own valid)) (m.found.sizes e.which valid) in
            let fits : image_size_of app ≤ length z = omega (arith, size, whole.sized z is) in
            let was = (at_image (λ (l : List ℕ). IsValid app l × ((card_view app l).stored ≤ e.at.second)) is took.valid).0 in
            let none : session_time app z ≡ 0 = sym (session-is app z) ∙ ap (λ (v : CardView). v.session) (sym (own-is app z z-own)) ∙ shut in
            let done = at_image (IsCardInserted app registration odometer entered.owed.items e.at.second z) on-card.1 (at_image (λ (l : List ℕ). IfSome M.image (IsCardInserted app registration odometer entered.owed.items e.at.second l)) is took.inserted) in
            let knows = at_image (IsSession entered.session) on-card.1 (at_image (λ (l : List ℕ). IfSome M.image (IsSession entered.session)) is took.knows) in
            let word : (own_view z).word ≡ (card_view app z).word = ap (λ (v : CardView). v.word) (own-is app z z-own) in
            let minute : entered.session.minute ≡ max (card_view app z).word (card_view app z).newest = ⊎_elim
            (λ closed. knows.minute ∙ ap (λ (p : Application). newest_in (book_of p on-card.0)) took.sizes ∙ closed_answered app sound z fits registration long e.at.second was none on-card.0 closed.1)
            (λ open_. absurd (open_.0 none)) done in
            omega (arith, word, minute)

    told-so : X.works ≡ true → V.works ≡ true → M.clock < last_count → length entered.owed.items ≤ most_owed → IsToldSo f w e entered U X
    told-so X_works works low most =
        let r = accepted-found-by f w k.cabin.cards e.which U V X M Z m.found unit_whole unit_after whole after registration long named odometer e.at.second few answer out bare m.powered m.late app own size enters valid entered ok in
        let bounds = (put-entered works low).answered (x works low) (x-there works low) in
        let same = newest-is works low in
        record {
          valid = valid;
          named = accepted-number-by f w k.cabin.cards e.which U V X M Z m.found unit_whole unit_after whole after registration long named odometer e.at.second few answer out bare m.powered m.late app own size enters valid entered ok;
          found = record { unit_image = r.unit_image; card_image = r.card_image; on = r.on; there = r.there; valid = r.valid; sizes = r.sizes; early = r.early; owes = r.owes; number = r.number };
          whole = accepted-whole-by f w k.cabin.cards e.which U V X M Z m.found unit_whole unit_after whole after registration long named odometer e.at.second few answer out bare m.powered m.late app own size enters valid entered ok;
          most = most;
          answers = record {
            least = let low_ = bounds.0 in omega (arith, low_, same);
            most = let high = bounds.1 in omega (arith, high, same);
            words = words works low r.card_image (whole.only r.card_image X_works r.there);
          };
        }

    -- a session is opened on it
    taken-opens : e.at.second ≢ 0 → OpensOn app registration e.at.second odometer entered.owed.items X M
    taken-opens some =
        let u = told-one U.image (parts-of f w k.cabin.cards e.which U X Z m.powered).unit.tells in
        let moments = at_image (λ (u : List ℕ). LeavesOnly X M (λ x c. IsCardInserting app registration odometer (owed_on app u x) e.at.second x c)) u.1 enters.moments in
        let cause = subst (λ (r : Result Entered NotEntered). HasCause X M (card_failed r)) ok enters.cause in
        let took = subst (λ (r : Result Entered NotEntered). IfOk r (λ e_. IsAccepted app registration odometer e.at.second U.image X.image M.image e_.look e_.owed.items e_.session e_.replayed)) ok enters.accepted in
        does-insert app (subst IsApplication (sym (own valid)) (m.found.sizes e.which valid)) registration long e.at.second some few odometer entered.owed.items X M whole after cause.works moments.tells size took.inserted

    pub taken-known : (fell : Bool) (entry : Option ℕ) (failed : Bool) (v : Keeper) (W Y : State) → registration ≡ k.memory.registration → odometer ≡ e.odometer.0 → e.at.second ≢ 0 → X.works ≡ true → V.works ≡ true → M.clock < last_count → length entered.owed.items ≤ most_owed → BooksTaken entered (taken_as fell entered M.clock entry) e failed k v V W M Y Z
        → IsEnteredOn (taken_as fell entered M.clock entry) e failed k v U W X Y Z f w
    taken-known fell entry failed v W Y vehicle reading some X_works works low most books =
        let behind = books f (with_marks (card_marks e.which M.clock entered.owed.items) w) (may-seat works low) in
        record {
          taken = subst (λ (x : RunLedger). IsTakenOn (taken_as fell entered M.clock entry) failed e k.journal.kept f x v.cabin.cards (arranged e.which W Y Z)) (sym (judged-as fell entered M.clock entry e w)) behind.0;
          found = behind.1;
          timed = λ valid timed. behind.2.0 (put-timed valid timed);
          told = told-as fell entered M.clock entry f w e U X (told-so X_works works low most);
          untouched = λ same. inr (valid, written-as fell entered M.clock entry);
          opens = λ valid. opens-as fell entered M.clock entry k.memory.registration e (found_of f e.which) X M Y
              (subst (λ (p : Application). OpensOn p k.memory.registration e.at.second e.odometer.0 entered.owed.items X M) (own valid)
              (subst (λ (r : Registration). OpensOn app r e.at.second e.odometer.0 entered.owed.items X M) vehicle (subst (λ (n : ℕ). OpensOn app registration e.at.second n entered.owed.items X M) reading (taken-opens some)))) behind.2.1;
        }

-- ---- A CARD ENTERS: it is revived, and its sizes are known

module _ (e : Entering) (k : Keeper) (sizes : Result Application ℕ) (U X M Z : State) (unit_whole : IsCoherent U) (whole : IsCoherent X) (run : LeavesOnly X M Unchanged) (clock : M.clock ≡ X.clock) (bare : session_of k.cabin.cards e.which ≡ None) where
  pub still-bare : session_of (with_sizes e.which sizes k.cabin.cards) e.which ≡ None
  still-bare = session-sized e.which e.which sizes k.cabin.cards ∙ bare

  pub woken-may : (f : Found) (w : RunLedger) → MayEnter f w k.cabin.cards e U X Z → MayEnter f (with_standing e.which Out w) (with_sizes e.which sizes k.cabin.cards) e U M Z
  woken-may f w m =
      let found : AreFoundCards f (with_sizes e.which sizes k.cabin.cards) = found-sizes f e.which sizes k.cabin.cards m.found in
      record {
        found = found;
        powered = read-powered f (with_standing e.which Out w) (with_sizes e.which sizes k.cabin.cards) e.which U X M Z found unit_whole whole (out-now e.which w) still-bare
            (out-powered f w k.cabin.cards (with_sizes e.which sizes k.cabin.cards) e.which U X Z found still-bare (session-sized e.which (other e.which) sizes k.cabin.cards) m.powered m.found unit_whole) run;
        late = m.late;
        tells = run.tells ∙ m.tells;
        began = let began = m.began in omega (arith, began, clock);
        spared = ⊎_elim (λ same. inl (untouched-read (found_of f e.which) X M m.began run same)) (λ valid. inr valid) m.spared;
      }

  -- a card that was only revived is as it was
  pub woken-untouched : (f : Found) (w : RunLedger) → MayEnter f w k.cabin.cards e U X Z → IsUntouched (found_of f e.which) X → IsUntouched (found_of f e.which) M
  woken-untouched f w m same = untouched-read (found_of f e.which) X M m.began run same

  pub woken-timed : (f : Found) (w : RunLedger) → MayEnter f w k.cabin.cards e U X Z → TimesOn f e.which X M
  woken-timed f w m timed c left = ⊎_elim (λ was. timed c was) (λ never. absurd never.2) (run.since (found_of f e.which).began c m.began left)

  told-before : (f : Found) (w : RunLedger) (entered : Entered) → IsToldSo f w e entered U M → IsToldSo f w e entered U X
  told-before f w entered t = record {
    valid = t.valid;
    named = t.named;
    found = record {
      unit_image = t.found.unit_image;
      card_image = t.found.card_image;
      on = t.found.on;
      there = ⊎_elim (λ was. was) (λ never. absurd never.2) (run.now t.found.card_image t.found.there);
      valid = t.found.valid;
      sizes = t.found.sizes;
      early = t.found.early;
      owes = t.found.owes;
      number = t.found.number;
    };
    whole = t.whole;
    most = t.most;
    answers = record { least = t.answers.least; most = t.answers.most; words = t.answers.words };
  }

  told-woken : (ending : Ending) (f : Found) (w : RunLedger) → IsToldOf ending f w e U M → IsToldOf ending f w e U X
  told-woken (Unfit fid place) f w t = tt
  told-woken (Ahead stored) f w t = tt
  told-woken Fell f w t = tt
  told-woken Unasked f w t = tt
  told-woken (Unnoted entered clock) f w t = told-before f w entered t
  told-woken (Seated entered clock entry) f w t = told-before f w entered t
  told-woken (Lost entered clock entry) f w t = told-before f w entered t

  -- and what was known of it behind that is so behind all
  pub woken-known : (ending : Ending) (failed : Bool) (v : Keeper) (W Y : State) (f : Found) (w : RunLedger) → MayEnter f w k.cabin.cards e U X Z
      → IsEnteredOn ending e failed (record k { cabin = with_sizes_of e.which sizes k.cabin }) v U W M Y Z f (with_standing e.which Out w) → IsEnteredOn ending e failed k v U W X Y Z f (with_standing e.which Out w)
  woken-known ending failed v W Y f w m r = record { taken = r.taken; found = r.found; told = told-woken ending f (with_standing e.which Out w) r.told; timed = λ valid timed. r.timed valid (woken-timed f w m timed); untouched = λ same. r.untouched (woken-untouched f w m same); opens = λ valid. opens-woken ending k.memory.registration e (found_of f e.which) X M Y run (r.opens valid) }
