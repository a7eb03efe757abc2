-- An insertion that a stop has broken off ends, once it is begun again, with all that it was to bring.
use Rattle.std.proofs.Common.{◌≡◌, ◌≢◌, ◌⊎◌, inl, ⊎_elim, ℕ, suc, ◌<◌, ◌≤◌, max, Bool, true, false, cond, List, [], ◌∷◌, ◌++◌, length, refl, sym, ◌∙◌, ap, subst, arith}
use Rattle.std.specs.Prelude.{nat_lt}
use Rattle.std.proofs.lemmas.Bool.Decides.{nat_tests}
use Rattle.std.proofs.lemmas.List.{append-nil}
use Rattle.activity_codec.proofs.ByTest.{by_test}
use Rattle.activity_codec.specs.declared.entries.Entry.{Entry}
use Rattle.card_layout.specs.declared.files.Application.{Application}
use Rattle.card_layout.specs.Files.{image_size_of}
use Rattle.card_retention.specs.Entries.{newest_minute}
use Rattle.card_retention.specs.Shown.{AllUpTo}
use Rattle.card_image.specs.Fields.{card_days, end_mark, session_time}
use Rattle.card_image.specs.Judging.{IsValid}
use Rattle.card_image.specs.Own.{own_sizes}
use Rattle.card_image.specs.View.{card_view}
use Rattle.card_session.specs.Inserting.{Follow, lacked, InsertingOpen, InsertingClosed, InsertsOpen, InsertsClosed}
use Rattle.card_session.specs.Repairs.{mark_behind, newest_behind, NewestSoFar, lacked_by}
use Rattle.card_session.proofs.Ends.{closed_end, open_end, inserted_moment}
use Rattle.card_session.proofs.InsertingAgain.{inserting_keeps}
use Rattle.card_session.proofs.InsertingBooks.{lacked_follow}
use Rattle.card_session.proofs.InsertingUse.{use_inside}
use Rattle.card_session.proofs.Renewing.{newest_first, newest_again}
use Rattle.card_session.proofs.Revalid.{again_valid}
use Rattle.card_session.proofs.Unclosed.{none_valid}
use Rattle.card_session.proofs.Valid.{above_zero}
use Rattle.hand_model.specs.Written.{no_hands, entries_of}
use Rattle.card_string.specs.Since.{SitsSince, HoldsSince}
use Rattle.card_string.proofs.OfCards.{open_holds, open_sits, shut_inserting}
use Rattle.card_string.proofs.Replayed.{mark_least}
use Rattle.card_string.proofs.Shutting.{up_more}
use Rattle.card_string.proofs.Since.{holds_up}
use Rattle.device_calls.proofs.Inserted.{inserting_open, inserting_shut}
use Rattle.device_calls.proofs.OnCard.{mark-is}
use Rattle.safety_laws.specs.Whole.{IsInsertable, brought_in}
use Rattle.safety_laws.specs.Again.{BringsAll, IsBrokenOff, IsBegunAgain, EndsWith}
use Rattle.safety_laws.proofs.Sitting.{sizes-told, above, brought-open, brought-shut, mark-first, mark-behind, own, holds-open, shut_bound, holds-shut}
use Rattle.safety_laws.proofs.Moments.{Stays, insert_stays, shown}

-- ---- entries that a card lacks

less : (m n : ℕ) → m < n → nat_lt m n ≡ true
less m n lt = grind (arith, nat_tests)

not_less : (m n : ℕ) → n ≤ m → nat_lt m n ≡ false
not_less m n le = grind (arith, nat_tests)

up_by_test : (m n : ℕ) → nat_lt m n ≡ false → n ≤ m
up_by_test m n late = grind (arith, nat_tests)

-- of entries up to a mark, and others behind it, these
rest_lacked : (mark : ℕ) (first rest : List Entry) → AllUpTo mark first → Follow mark rest → lacked mark (first ++ rest) ≡ rest
rest_lacked mark [] [] up follow = refl
rest_lacked mark [] (e ∷ rest) up follow = ap (λ (b : Bool). cond b (e ∷ rest) (lacked mark rest)) (less mark e.minute follow.0)
rest_lacked mark (e ∷ first) rest up follow = ap (λ (b : Bool). cond b (e ∷ (first ++ rest)) (lacked mark (first ++ rest))) (not_less mark e.minute up.0) ∙ rest_lacked mark first rest up.1 follow

none_behind : (first rest : List Entry) → [] ≡ first ++ rest → [] ≡ rest
none_behind [] rest is = is
none_behind (e ∷ first) rest is = absurd (cc)

-- behind a later mark those of them that are later
lacked_later : (mark later : ℕ) (owed first rest : List Entry) → mark ≤ later → lacked mark owed ≡ first ++ rest → AllUpTo later first → Follow later rest → lacked later owed ≡ rest
lacked_later mark later [] first rest le is up follow = none_behind first rest is
lacked_later mark later (e ∷ owed) first rest le is up follow =
    by_test (nat_lt mark e.minute)
    (λ yes.
    let whole : e ∷ owed ≡ first ++ rest = sym (ap (λ (b : Bool). cond b (e ∷ owed) (lacked mark owed)) yes) ∙ is in
    ap (lacked later) whole ∙ rest_lacked later first rest up follow)
    (λ no.
    let here : lacked mark owed ≡ first ++ rest = sym (ap (λ (b : Bool). cond b (e ∷ owed) (lacked mark owed)) no) ∙ is in
    let low : e.minute ≤ mark = up_by_test mark e.minute no in
    ap (λ (b : Bool). cond b (e ∷ owed) (lacked later owed)) (not_less later e.minute (omega (arith, le, low))) ∙ lacked_later mark later owed first rest le here up follow)

-- entries that follow a minute are up to the last of them
up_behind : (m : ℕ) (es : List Entry) → Follow m es → AllUpTo (mark_behind m es) es × (m ≤ mark_behind m es)
up_behind m [] follow = (tt, omega arith)
up_behind m (e ∷ es) follow = let more = up_behind e.minute es follow.1 in ((more.1, more.0), omega (arith, follow.0, more.1))

-- ---- what is known of the card once the other insertion has ended

record Ends (app : Application) (image : List ℕ) (brought : List Entry) (y : List ℕ) : Type 0 where
  next : ℕ
  holds : HoldsSince app image no_hands brought next y
  up : AllUpTo (end_mark app y) brought

goes_ends : (app : Application) (image : List ℕ) (brought : List Entry) (next : ℕ) (y : List ℕ) → SitsSince app image no_hands brought next y → Ends app image brought y
goes_ends app image brought next y goes =
    let all : HoldsSince app image no_hands brought next y = record { written = goes.written; rest = []; split = sym goes.has_all ∙ sym (append-nil (entries_of goes.written)); lie = goes.lie; behind = tt; stands = inl goes.goes } in
    record { next = next; holds = all; up = subst (AllUpTo (end_mark app y)) goes.has_all (holds_up app image no_hands brought next y all) }

module _ (image : List ℕ) (ready : IsInsertable image) (owed : List Entry) (left : List ℕ) (off : IsBrokenOff image owed left) where
  abbrev app : Application
  app = own_sizes image

  so : Stays app image (brought_in image owed) left
  so = insert_stays image ready off.registration off.odometer off.now owed off.may left off.moment

  fits : image_size_of app ≤ length left
  fits = omega (arith, ready.fits, so.long)

  -- ---- a session was left open

  module _ (some : session_time app image ≢ 0) (moment : InsertingOpen app off.registration off.odometer owed off.now image left) where
    open_ : 0 < session_time app image
    open_ = above (session_time app image) some

    follow : Follow (end_mark app image) (lacked_by app image owed)
    follow = lacked_follow 1439 (end_mark app image) owed off.may.are.0

    abbrev bound : ℕ
    bound = suc (newest_behind (card_view app image).newest (lacked_by app image owed))

    here : HoldsSince app image no_hands (lacked_by app image owed) bound left
    here =
        open_holds app off.registration off.odometer off.now owed image no_hands [] (suc (end_mark app image)) image ready.sizes ready.fits off.may.long off.may.are (own image ready) open_ tt (holds-open image ready owed off.now off.may.are some) bound
        (let low = mark-behind app image (lacked_by app image owed) follow in omega (arith, low)) (omega arith) left moment

    up_here : AllUpTo (end_mark app left) (entries_of here.written)
    up_here = holds_up app image no_hands (lacked_by app image owed) bound left here

    rises : end_mark app image ≤ end_mark app left
    rises = omega (
      arith,
      (inserting_open app ready.sizes image ready.fits off.registration off.may.long off.odometer off.now off.may.few owed off.may.are (own image ready) open_ left moment).mark,
      mark-is app image,
      mark-is app left,
    )

    parts : entries_of here.written ++ lacked_by app left owed ≡ lacked_by app image owed
    parts = ap (λ (l : List Entry). entries_of here.written ++ l) (lacked_later (end_mark app image) (end_mark app left) owed (entries_of here.written) here.rest rises here.split up_here here.behind) ∙ sym here.split

    first : (so_far : NewestSoFar (end_mark app image) (card_view app image).newest (lacked_by app image owed) (end_mark app left) (card_view app left).newest) × ((session_time app left ≡ session_time app image) ⊎ (so_far.rest ≡ []))
    first = newest_first app ready.sizes image ready.fits off.registration off.may.long off.odometer off.now owed off.may.are (own image ready) (above_zero (session_time app image) open_) left moment

    least : mark_behind (end_mark app image) first.0.done ≤ end_mark app left
    least = ⊎_elim (λ at. omega (arith, at))
        (λ full. omega (arith, full.1, first.0.newest, mark_least (end_mark app image) (card_view app image).newest first.0.done (mark-first app image)))
        first.0.behind

    -- it is ended, so all of them are there
    all_up : session_time app left ≡ 0 → AllUpTo (end_mark app left) (lacked_by app image owed)
    all_up none = ⊎_elim
        (λ same. absurd (some (sym same ∙ none)))
        (λ all.
        let whole : first.0.done ≡ lacked_by app image owed = sym (first.0.split ∙ ap (λ (r : List Entry). first.0.done ++ r) all ∙ append-nil first.0.done) in
        up_more (mark_behind (end_mark app image) (lacked_by app image owed)) (end_mark app left) (lacked_by app image owed)
        (omega (arith, least, ap (λ (l : List Entry). mark_behind (end_mark app image) l) whole)) (up_behind (end_mark app image) (lacked_by app image owed) follow).0)
        first.1

    module _ (ended : List ℕ) (again : IsBegunAgain image owed left ended) where
      open_again : session_time app left ≢ 0 → InsertsOpen app again.registration again.odometer owed again.now left ended → Ends app image (lacked_by app image owed) ended
      open_again some_left inserts =
          goes_ends app image (lacked_by app image owed) (suc again.session.minute) ended
          (subst (λ (l : List Entry). SitsSince app image no_hands l (suc again.session.minute) ended) parts
          (open_sits app again.registration again.odometer again.now owed image no_hands (entries_of here.written) bound left ready.sizes fits again.may.long again.may.are so.valid (above (session_time app left) some_left) up_here
          (subst (λ (l : List Entry). HoldsSince app image no_hands l bound left) (sym parts) here)
          (let same = newest_again app ready.sizes image ready.fits off.registration off.may.long off.odometer off.now owed off.may.are (own image ready) (above_zero (session_time app image) open_) left moment in omega (arith, same))
          ended again.session inserts again.same again.knows).0)

      shut_again : session_time app left ≡ 0 → InsertsClosed app again.registration again.now left ended → Ends app image (lacked_by app image owed) ended
      shut_again none inserts =
          let next = max bound (suc (newest_minute (end_mark app left) (card_days app left))) in
          let closed = closed_end app again.registration again.odometer again.now owed left ended inserts in
          record {
            next = next;
            holds = shut_inserting app again.registration again.now image no_hands (lacked_by app image owed) bound left ready.sizes fits again.may.long so.valid none (all_up none) here next (omega arith) (omega arith) ended closed;
            up = up_more (end_mark app left) (end_mark app ended) (lacked_by app image owed)
                (omega (
                  arith,
                  (inserting_shut app ready.sizes left fits again.registration again.may.long again.odometer again.now again.may.few owed again.may.are so.valid none ended closed).mark,
                  mark-is app left,
                  mark-is app ended,
                )) (all_up none);
          }

  -- ---- there was no session, and the card lacks nothing

  module _ (none : session_time app image ≡ 0) (moment : InsertingClosed app off.registration off.now image left) (nothing : lacked_by app image owed ≡ []) where
    abbrev bound_shut : ℕ
    bound_shut = max (shut_bound image ready) (suc (newest_minute (end_mark app image) (card_days app image)))

    here_shut : HoldsSince app image no_hands [] bound_shut left
    here_shut =
        shut_inserting app off.registration off.now image no_hands [] (shut_bound image ready) image ready.sizes ready.fits off.may.long (own image ready) none tt (holds-shut image ready none) bound_shut (omega arith) (omega arith) left moment

    rises_shut : end_mark app image ≤ end_mark app left
    rises_shut = omega (
      arith,
      (inserting_shut app ready.sizes image ready.fits off.registration off.may.long off.odometer off.now off.may.few owed off.may.are (own image ready) none left moment).mark,
      mark-is app image,
      mark-is app left,
    )

    nothing_left : lacked_by app left owed ≡ []
    nothing_left = lacked_later (end_mark app image) (end_mark app left) owed [] [] rises_shut nothing tt tt

    module _ (ended : List ℕ) (again : IsBegunAgain image owed left ended) where
      none_open : session_time app left ≢ 0 → InsertsOpen app again.registration again.odometer owed again.now left ended → Ends app image [] ended
      none_open some inserts =
          let next = max bound_shut (suc (newest_behind (card_view app left).newest (lacked_by app left owed))) in
          record {
            next = next;
            holds = subst (λ (l : List Entry). HoldsSince app image no_hands l next ended) nothing_left
                (open_holds app again.registration again.odometer again.now owed image no_hands [] bound_shut left ready.sizes fits again.may.long again.may.are so.valid (above (session_time app left) some) tt
                (subst (λ (l : List Entry). HoldsSince app image no_hands l bound_shut left) (sym nothing_left) here_shut) next (omega arith) (omega arith) ended (open_end app again.registration again.odometer again.now owed left ended inserts));
            up = tt;
          }

      none_shut : session_time app left ≡ 0 → InsertsClosed app again.registration again.now left ended → Ends app image [] ended
      none_shut none_left inserts =
          let next = max bound_shut (suc (newest_minute (end_mark app left) (card_days app left))) in
          record {
            next = next;
            holds = shut_inserting app again.registration again.now image no_hands [] bound_shut left ready.sizes fits again.may.long so.valid none_left tt here_shut next (omega arith) (omega arith) ended
                (closed_end app again.registration again.odometer again.now owed left ended inserts);
            up = tt;
          }

  -- ---- in any case

  module _ (asked : BringsAll image owed) (ended : List ℕ) (again : IsBegunAgain image owed left ended) where
    ends : Ends app image (brought_in image owed) ended
    ends = ⊎_elim
        (λ shut.
        let nothing : lacked_by app image owed ≡ [] = asked ∙ brought-shut image owed shut.0 in
        subst (λ (l : List Entry). Ends app image l ended) (sym (brought-shut image owed shut.0))
        (⊎_elim (λ none. none_shut shut.0 shut.1 nothing ended again none.0 none.1) (λ some. none_open shut.0 shut.1 nothing ended again some.0 some.1) again.done))
        (λ open_.
        subst (λ (l : List Entry). Ends app image l ended) (sym (brought-open image owed open_.0))
        (⊎_elim (λ none. shut_again open_.0 open_.1 ended again none.0 none.1) (λ some. open_again open_.0 open_.1 ended again some.0 some.1) again.done))
        off.moment

    keeps_sizes : own_sizes ended ≡ app
    keeps_sizes =
        sizes-told app left ended
        (inserting_keeps app again.registration again.odometer again.now owed again.may.long left ended (omega (arith, use_inside app, fits)) (inserted_moment app again.registration again.odometer again.now owed left ended again.done)).0
        ∙ so.sizes

    keeps_length : length ended ≡ length image
    keeps_length =
        (inserting_keeps app again.registration again.odometer again.now owed again.may.long left ended (omega (arith, use_inside app, fits)) (inserted_moment app again.registration again.odometer again.now owed left ended again.done)).1
        ∙ so.long

    is_valid : IsValid app ended
    is_valid = ⊎_elim
        (λ none.
        none_valid app ready.sizes left fits again.registration again.may.long again.odometer again.now owed so.valid none.0 ended (closed_end app again.registration again.odometer again.now owed left ended none.1))
        (λ some.
        again_valid app ready.sizes left fits again.registration again.may.long again.odometer again.now owed again.may.are.0 so.valid (above_zero (session_time app left) (above (session_time app left) some.0)) ended some.0
        (open_end app again.registration again.odometer again.now owed left ended some.1)) again.done

    pub ends_again : EndsWith image (brought_in image owed) ended
    ends_again = (
      shown image ready (brought_in image owed) ended (record { sizes = keeps_sizes; long = keeps_length; valid = is_valid; next = ends.next; holds = ends.holds }),
      ends.up,
    )
