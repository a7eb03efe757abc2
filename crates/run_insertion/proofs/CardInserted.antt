-- The events that a card shows behind an insertion, and at its moments: those of before, and that its session was not closed.
use Rattle.std.proofs.Common.{◌≡◌, ◌≢◌, ◌∙◌, inl, inr, ⊎_elim, ℕ, ◌+◌, ◌<◌, ◌≤◌, Bool, true, false, cond, List, [], ◌∷◌, ◌++◌, length, take, drop, refl, sym, ap, subst, arith}
use Rattle.std.specs.Prelude.{nat_eq, ◌&&◌}
use Rattle.std.proofs.lemmas.Bool.{eqb-true, eq-eqb, ne_eqb}
use Rattle.std.proofs.lemmas.List.{take-take, drop-take, take_at, length-take-le, length-append}
use Rattle.activity_codec.proofs.ByTest.{by_test}
use Rattle.activity_codec.specs.declared.values.Activity.{Activity}
use Rattle.activity_codec.specs.declared.values.Activity.TheVariants.{Rest}
use Rattle.activity_codec.specs.declared.entries.Entry.{Entry}
use Rattle.card_layout.specs.Images.{bytes_at, put}
use Rattle.card_layout.proofs.Images.{part_before}
use Rattle.tacho_types.specs.declared.texts.Registration.{Registration}
use Rattle.tacho_types.specs.Numbers.{time_bytes}
use Rattle.card_layout.specs.declared.files.Application.{Application}
use Rattle.card_layout.specs.Files.{files_of, place_of, size_of}
use Rattle.run_events.specs.gated_ring.Ring.{entry_at}
use Rattle.run_events.specs.card_files.declared.card_event.CardEvent.{CardEvent}
use Rattle.run_events.specs.card_files.declared.current_use.CurrentUse.{CurrentUse}
use Rattle.run_events.specs.card_files.Events.{event_of}
use Rattle.run_events.specs.card_files.Rings.{event_ring}
use Rattle.device_calls.specs.card_model.Days.{Day}
use Rattle.card_validity.specs.card_image.Fields.{file, current_use, session_time}
use Rattle.card_session.specs.Vehicles.{Vehicles}
use Rattle.card_session.specs.Books.{closed}
use Rattle.card_session.specs.Cards.{IsCard, IsCardKeeping, IsCardClosing, ended, grown}
use Rattle.card_session.specs.Sessions.{Session, book_of}
use Rattle.card_session.specs.Moments.{IsBook, IsKeepMoment, IsCloseMoment}
use Rattle.card_session.specs.Inserting.{repaired, IsRepairMoment, IsStill, IsRepaired, HoldsUnclosed, IsNoted, IsNoting, unclosed, IsShut, timed, registered, IsEnded, IsEnding, IsOpened, IsOpening, InsertsClosed, InsertingClosed, InsertsOpen, InsertingOpen, IsReopening, IsCardInserted, IsCardInserting}
use Rattle.card_session.proofs.Marks.{events_same}
use Rattle.card_session.proofs.InsertingCards.{use_same}
use Rattle.card_session.proofs.InsertingAgain.{noted_keeps, ended_keeps}
use Rattle.unit_notes.specs.event_model.declared.kinds.TheConstants.{SESSION_NOT_CLOSED}
use Rattle.run_insertion.specs.CardEvents.{events_in, kind_of, begin_of, is_held, is_told, AreBeingNoted, of_type, ShowsThese, ShowsMore, IsOnCards, unclosed_on}
use Rattle.run_insertion.proofs.CardTables.{one-holds, where-holds, length-events, event-at, same-file, noted-here, noted-elsewhere, being-unbegun, being-all, with-new, with-held, shows-behind, more-then, more-begun}

-- ---- of what is shown

module _ (app : Application) where
  abbrev pub SameEvents : List ℕ → List ℕ → Type 0
  SameEvents x c = (kind : ℕ) → events_in app kind c ≡ events_in app kind x

  same-then : (x y c : List ℕ) → SameEvents x y → SameEvents y c → SameEvents x c
  same-then x y c first next kind = next kind ∙ first kind

  pub same-image : (x c : List ℕ) → c ≡ x → SameEvents x c
  same-image x c is kind = ap (λ (l : List ℕ). events_in app kind l) is

  -- nothing more
  pub shows-nothing : (cut : Bool) (x c : List ℕ) → SameEvents x c → ShowsMore app [] cut x c
  shows-nothing true x c same = same
  shows-nothing false x c same = same

  -- it is not begun, or it is whole
  pub shows-unbegun : (es : List CardEvent) (x c : List ℕ) → SameEvents x c → ShowsMore app es true x c
  shows-unbegun es x c same kind = subst (λ (l : List (List ℕ)). AreBeingNoted (events_in app kind x) (of_type kind es) l) (sym (same kind)) (being-unbegun (events_in app kind x) (of_type kind es))

  pub shows-whole : (es : List CardEvent) (x c : List ℕ) → ShowsMore app es false x c → ShowsMore app es true x c
  shows-whole es x c is kind = subst (λ (l : List (List ℕ)). AreBeingNoted (events_in app kind x) (of_type kind es) l) (sym (is kind)) (being-all (events_in app kind x) (of_type kind es))

  -- and then no more
  pub shows-still : (es : List CardEvent) (cut : Bool) (x y c : List ℕ) → ShowsMore app es cut x y → SameEvents y c → ShowsMore app es cut x c
  shows-still es cut x y c is same kind = subst (λ (l : List (List ℕ)). ShowsThese cut (events_in app kind x) (of_type kind es) l) (sym (same kind)) (is kind)

  pub shows-by : (es fs : List CardEvent) (cut : Bool) (x c : List ℕ) → es ≡ fs → ShowsMore app es cut x c → ShowsMore app fs cut x c
  shows-by es fs cut x c same is = subst (λ (l : List CardEvent). ShowsMore app l cut x c) same is

-- ---- writes that leave the events

front-same : (place a n : ℕ) (x c : List ℕ) → take place c ≡ take place x → a + n ≤ place → bytes_at c a n ≡ bytes_at x a n
front-same place a n x c same le =
    let front : take (a + n) c ≡ take (a + n) x = sym (take-take (a + n) place c le) ∙ ap (λ (l : List ℕ). take (a + n) l) same ∙ take-take (a + n) place x le in
    sym (drop-take a n c) ∙ ap (λ (l : List ℕ). drop a l) front ∙ drop-take a n x

length-put : (place : ℕ) (bytes x : List ℕ) → place ≤ length x → place ≤ length (put place bytes x)
length-put place bytes x le =
    let front : length (take place x) ≡ place = length-take-le place x (omega (arith, le)) in
    omega (arith, front, length-append (take place x) (bytes ++ drop (place + length bytes) x))

module _ (app : Application) where
  pub card-same : (P : List Day → Vehicles → Type 0) (x c : List ℕ) → IsCard app P x c → SameEvents app x c
  card-same P x c is = same-file app x c (events_same app P x c is)

  events_first : place_of app (file 0x0502) + size_of app (file 0x0502) ≤ place_of app (file 0x0507)
  unfolding files_of
  events_first = omega arith

  put-same : (place : ℕ) (bytes x : List ℕ) → place_of app (file 0x0507) ≤ place → place ≤ length x → SameEvents app x (put place bytes x)
  put-same place bytes x low fits =
      let front : length (take place x) ≡ place = length-take-le place x (omega (arith, fits)) in
      same-file app x (put place bytes x)
      (front-same place (place_of app (file 0x0502)) (size_of app (file 0x0502)) x (put place bytes x)
      (take_at (take place x) (bytes ++ drop (place + length bytes) x) place front) (omega (arith, low, events_first)))

  abbrev pub Fits : List ℕ → Type 0
  Fits x = place_of app (file 0x0507) + 19 ≤ length x

  timed-same : (seconds : ℕ) (x : List ℕ) → place_of app (file 0x0507) ≤ length x → SameEvents app x (timed app seconds x)
  timed-same seconds x fits = put-same (place_of app (file 0x0507)) (time_bytes (record { 0 = seconds })) x (omega arith) fits

  ended-same : (x c : List ℕ) → Fits x → IsEnded app x c → SameEvents app x c
  ended-same x c fits is = subst (λ (l : List ℕ). SameEvents app x l) (sym is) (timed-same 0 x (omega (arith, fits)))

  ending-same : (x c : List ℕ) → Fits x → IsEnding app x c → SameEvents app x c
  ending-same x c fits is = ⊎_elim (λ same. same-image app x c same) (λ ended. ended-same x c fits ended) is

  module _ (registration : Registration) (now : ℕ) where
    registered-same : (x : List ℕ) → Fits x → SameEvents app x (registered app registration x)
    registered-same x fits = put-same (place_of app (file 0x0507) + 4) registration.0 x (omega arith) (omega (arith, fits))

    opened-same : (x c : List ℕ) → Fits x → IsOpened app registration now x c → SameEvents app x c
    opened-same x c fits is =
        let long = length-put (place_of app (file 0x0507) + 4) registration.0 x (omega (arith, fits)) in
        subst (λ (l : List ℕ). SameEvents app x l) (sym is)
        (same-then app x (registered app registration x) (timed app now (registered app registration x)) (registered-same x fits)
        (timed-same now (registered app registration x) (omega (arith, long))))

    opening-same : (x c : List ℕ) → Fits x → IsOpening app registration now x c → SameEvents app x c
    opening-same x c fits is = ⊎_elim
        (λ partly. same-file app x c (part_before (place_of app (file 0x0507) + 4) (length registration.0) (place_of app (file 0x0502)) (size_of app (file 0x0502)) x c partly.outside (omega (arith, events_first))))
        (λ done. ⊎_elim (λ registered_. subst (λ (l : List ℕ). SameEvents app x l) (sym registered_) (registered-same x fits)) (λ opened. opened-same x c fits opened) done)
        is

    reopening-same : (x c : List ℕ) → Fits x → IsReopening app registration now x c → SameEvents app x c
    reopening-same x c fits is = ⊎_elim
        (λ ending. ending-same x c fits ending)
        (λ (y, ended, opening). same-then app x y c (ended-same x y fits ended) (opening-same y c (let long = (ended_keeps app x y fits ended).1 in omega (arith, fits, long)) opening))
        is

-- ---- that a session was not closed

module _ (app : Application) (now : ℕ) (x : List ℕ) (left_open : session_time app x ≢ 0) where
  abbrev e : CardEvent
  e = unclosed (current_use app x) now

  told-held : HoldsUnclosed app x → is_told (events_in app SESSION_NOT_CLOSED x) e ≡ true
  unfolding event_of
  told-held (i, below, is) =
      let long = length-events app SESSION_NOT_CLOSED x in
      one-holds (λ entry. nat_eq (kind_of entry) SESSION_NOT_CLOSED && nat_eq (begin_of entry) (session_time app x)) [] (events_in app SESSION_NOT_CLOSED x) i (omega (arith, below, long))
      (subst (λ (l : List ℕ). (nat_eq (kind_of l) SESSION_NOT_CLOSED && nat_eq (begin_of l) (session_time app x)) ≡ true) (sym (event-at app SESSION_NOT_CLOSED x i below))
      (both (nat_eq (kind_of (entry_at (event_ring app SESSION_NOT_CLOSED) x i)) SESSION_NOT_CLOSED) (nat_eq (begin_of (entry_at (event_ring app SESSION_NOT_CLOSED) x i)) (session_time app x))
      (eq-eqb (kind_of (entry_at (event_ring app SESSION_NOT_CLOSED) x i)) SESSION_NOT_CLOSED is.kind_is)
      (eq-eqb (begin_of (entry_at (event_ring app SESSION_NOT_CLOSED) x i)) (session_time app x) is.begin_is)))
    where
      both : (a b : Bool) → a ≡ true → b ≡ true → (a && b) ≡ true
      both true b is next = next
      both false b is next = cc

  not-told : (HoldsUnclosed app x → ⊥) → is_told (events_in app SESSION_NOT_CLOSED x) e ≡ false
  unfolding event_of
  not-told free = by_test (is_held (events_in app SESSION_NOT_CLOSED x) SESSION_NOT_CLOSED (session_time app x))
      (λ held. absurd (free (found held)))
      (λ none. none)
    where
      first : (a b : Bool) → (a && b) ≡ true → a ≡ true
      first true b is = refl
      first false b is = cc

      second : (a b : Bool) → (a && b) ≡ true → b ≡ true
      second true b is = is
      second false b is = cc

      found : is_held (events_in app SESSION_NOT_CLOSED x) SESSION_NOT_CLOSED (session_time app x) ≡ true → HoldsUnclosed app x
      found held =
          let at = where-holds (λ entry. nat_eq (kind_of entry) SESSION_NOT_CLOSED && nat_eq (begin_of entry) (session_time app x)) [] (events_in app SESSION_NOT_CLOSED x) held in
          let long = length-events app SESSION_NOT_CLOSED x in
          let below : at.0 < app.events = let low = at.1 in omega (arith, low, long) in
          let is = subst (λ (l : List ℕ). (nat_eq (kind_of l) SESSION_NOT_CLOSED && nat_eq (begin_of l) (session_time app x)) ≡ true) (event-at app SESSION_NOT_CLOSED x at.0 below) at.2 in
          let entry = entry_at (event_ring app SESSION_NOT_CLOSED) x at.0 in (
            at.0,
            below,
            record {
              there = left_open;
              kind_is = eqb-true (kind_of entry) SESSION_NOT_CLOSED (first (nat_eq (kind_of entry) SESSION_NOT_CLOSED) (nat_eq (begin_of entry) (session_time app x)) is);
              begin_is = eqb-true (begin_of entry) (session_time app x) (second (nat_eq (kind_of entry) SESSION_NOT_CLOSED) (nat_eq (begin_of entry) (session_time app x)) is);
            },
          )

  on : IsOnCards SESSION_NOT_CLOSED
  on = inr (inl refl)

  noted-shows : (c : List ℕ) → IsNoted app now x c → ShowsMore app (e ∷ []) false x c
  noted-shows c (inl (held, same)) =
      more-then app e [] on x c (same-image app x c same SESSION_NOT_CLOSED ∙ sym (with-held (events_in app SESSION_NOT_CLOSED x) e (told-held held))) (λ kind ne. same-image app x c same kind)
      false c (shows-nothing app false c c (λ kind. refl))
  noted-shows c (inr (free, is)) =
      more-then app e [] on x c (noted-here app e x c is ∙ sym (with-new (events_in app SESSION_NOT_CLOSED x) e (not-told free))) (noted-elsewhere app e x c on is)
      false c (shows-nothing app false c c (λ kind. refl))

  noting-shows : (c : List ℕ) → IsNoting app now x c → ShowsMore app (e ∷ []) true x c
  noting-shows c (free, is) = more-begun app e [] on x c (not-told free) is

-- ---- an insertion

module _ (app : Application) (registration : Registration) (odometer : ℕ) (owed : List Entry) (now : ℕ) (x : List ℕ) (fits : place_of app (file 0x0507) + 19 ≤ length x) where
  still : (x1 : List ℕ) → IsStill app x x1 → SameEvents app x x1
  still x1 is = card-same app (IsBook (book_of app x)) x x1 is

  -- of a session that was closed
  closed-same : (y : List ℕ) → InsertsClosed app registration now x y → SameEvents app x y
  closed-same y (x1, first, (x2, shut, opened)) =
      let long : place_of app (file 0x0507) + 19 ≤ length x2 = omega (arith, fits, first.outside.same_length, shut.outside.same_length) in
      same-then app x x1 y (still x1 first) (same-then app x1 x2 y (card-same app (IsBook (closed app.activity Rest (book_of app x1))) x1 x2 shut) (opened-same app registration now x2 y long opened))

  closing-same : (c : List ℕ) → InsertingClosed app registration now x c → SameEvents app x c
  closing-same c (inl first) = still c first
  closing-same c (inr (x1, first, inl shutting)) = same-then app x x1 c (still x1 first) (card-same app (IsCloseMoment app.activity Rest (book_of app x1)) x1 c shutting)
  closing-same c (inr (x1, first, inr (x2, shut, opening))) =
      let long : place_of app (file 0x0507) + 19 ≤ length x2 = omega (arith, fits, first.outside.same_length, shut.outside.same_length) in
      same-then app x x1 c (still x1 first) (same-then app x1 x2 c (card-same app (IsBook (closed app.activity Rest (book_of app x1))) x1 x2 shut) (opening-same app registration now x2 c long opening))

  -- of one that was left open
  module _ (left_open : session_time app x ≢ 0) (x1 x2 : List ℕ) (first : IsStill app x x1) (mended : IsRepaired app registration odometer owed x1 x2) where
    mended-same : SameEvents app x x2
    mended-same = same-then app x x1 x2 (still x1 first) (card-same app (IsBook (repaired app.activity registration odometer owed (book_of app x1))) x1 x2 mended)

    use-still : current_use app x2 ≡ current_use app x
    use-still = use_same app (IsBook (repaired app.activity registration odometer owed (book_of app x1))) x1 x2 mended ∙ use_same app (IsBook (book_of app x)) x x1 first

    open-still : session_time app x2 ≢ 0
    open-still is = left_open (sym (ap (λ (u : CurrentUse). u.session.0) use-still) ∙ is)

    long2 : place_of app (file 0x0507) + 19 ≤ length x2
    long2 = omega (arith, fits, first.outside.same_length, mended.outside.same_length)

    -- what was shown of x2 is so of x
    from-mended : (cut : Bool) (c : List ℕ) → ShowsMore app (unclosed (current_use app x2) now ∷ []) cut x2 c → ShowsMore app (unclosed (current_use app x) now ∷ []) cut x c
    from-mended cut c is =
        shows-by app (unclosed (current_use app x2) now ∷ []) (unclosed (current_use app x) now ∷ []) cut x c (ap (λ (u : CurrentUse). unclosed u now ∷ []) use-still)
        (shows-behind app (unclosed (current_use app x2) now ∷ []) cut x x2 c mended-same is)

    noted-whole : (x3 : List ℕ) → IsNoted app now x2 x3 → ShowsMore app (unclosed (current_use app x) now ∷ []) false x x3
    noted-whole x3 noted = from-mended false x3 (noted-shows app now x2 open-still x3 noted)

    module _ (x3 x4 : List ℕ) (noted : IsNoted app now x2 x3) (shut : IsShut app x3 x4) where
      long4 : place_of app (file 0x0507) + 19 ≤ length x4
      long4 = let kept = (noted_keeps app now x2 x3 long2 noted).1 in omega (arith, long2, kept, shut.outside.same_length)

      shut-whole : ShowsMore app (unclosed (current_use app x) now ∷ []) false x x4
      shut-whole = shows-still app (unclosed (current_use app x) now ∷ []) false x x3 x4 (noted-whole x3 noted) (card-same app (IsBook (closed app.activity Rest (book_of app x3))) x3 x4 shut)

  open-shown : session_time app x ≢ 0 → (y : List ℕ) → InsertsOpen app registration odometer owed now x y → ShowsMore app (unclosed (current_use app x) now ∷ []) false x y
  open-shown left_open y (x1, first, (x2, mended, (x3, noted, (x4, shut, (x5, ended, opened))))) =
      let long = long4 left_open x1 x2 first mended x3 x4 noted shut in
      let long5 : place_of app (file 0x0507) + 19 ≤ length x5 = let kept = (ended_keeps app x4 x5 long ended).1 in omega (arith, long, kept) in
      shows-still app (unclosed (current_use app x) now ∷ []) false x x4 y (shut-whole left_open x1 x2 first mended x3 x4 noted shut)
      (same-then app x4 x5 y (ended-same app x4 x5 long ended) (opened-same app registration now x5 y long5 opened))

  open-showing : session_time app x ≢ 0 → (c : List ℕ) → InsertingOpen app registration odometer owed now x c → ShowsMore app (unclosed (current_use app x) now ∷ []) true x c
  open-showing left_open c (inl first) = shows-unbegun app (unclosed (current_use app x) now ∷ []) x c (still c first)
  open-showing left_open c (inr (x1, first, inl mending)) =
      shows-unbegun app (unclosed (current_use app x) now ∷ []) x c (same-then app x x1 c (still x1 first) (card-same app (IsRepairMoment app.activity registration odometer owed (book_of app x1)) x1 c mending))
  open-showing left_open c (inr (x1, first, inr (x2, mended, inl noting))) = from-mended left_open x1 x2 first mended true c (noting-shows app now x2 (open-still left_open x1 x2 first mended) c noting)
  open-showing left_open c (inr (x1, first, inr (x2, mended, inr (x3, noted, inl shutting)))) =
      shows-whole app (unclosed (current_use app x) now ∷ []) x c
      (shows-still app (unclosed (current_use app x) now ∷ []) false x x3 c (noted-whole left_open x1 x2 first mended x3 noted) (card-same app (IsCloseMoment app.activity Rest (book_of app x3)) x3 c shutting))
  open-showing left_open c (inr (x1, first, inr (x2, mended, inr (x3, noted, inr (x4, shut, reopening))))) =
      shows-whole app (unclosed (current_use app x) now ∷ []) x c
      (shows-still app (unclosed (current_use app x) now ∷ []) false x x4 c (shut-whole left_open x1 x2 first mended x3 x4 noted shut)
      (reopening-same app registration now x4 c (long4 left_open x1 x2 first mended x3 x4 noted shut) reopening))

  none-told : session_time app x ≡ 0 → unclosed_on app now x ≡ []
  none-told is = ap (λ (b : Bool). cond b [] (unclosed (current_use app x) now ∷ [])) (eq-eqb (session_time app x) 0 is)

  one-told : session_time app x ≢ 0 → unclosed_on app now x ≡ unclosed (current_use app x) now ∷ []
  one-told ne = ap (λ (b : Bool). cond b [] (unclosed (current_use app x) now ∷ [])) (ne_eqb (session_time app x) 0 ne)

  -- THE CARD SHOWS, behind it and at each moment, that its session was not closed, where one was left open
  pub inserted-shown : (y : List ℕ) → IsCardInserted app registration odometer owed now x y → ShowsMore app (unclosed_on app now x) false x y
  inserted-shown y (inl (was, is)) = shows-by app [] (unclosed_on app now x) false x y (sym (none-told was)) (shows-nothing app false x y (closed-same y is))
  inserted-shown y (inr (was, is)) = shows-by app (unclosed (current_use app x) now ∷ []) (unclosed_on app now x) false x y (sym (one-told was)) (open-shown was y is)

  pub inserting-shown : (c : List ℕ) → IsCardInserting app registration odometer owed now x c → ShowsMore app (unclosed_on app now x) true x c
  inserting-shown c (inl (was, is)) = shows-by app [] (unclosed_on app now x) true x c (sym (none-told was)) (shows-nothing app true x c (closing-same c is))
  inserting-shown c (inr (was, is)) = shows-by app (unclosed (current_use app x) now ∷ []) (unclosed_on app now x) true x c (sym (one-told was)) (open-showing was c is)

-- ---- a keep and a withdrawal leave the events

pub keeping-shown : (s : Session) (entry : Entry) (odometer : ℕ) (x c : List ℕ) → IsCardKeeping s entry odometer x c → ShowsMore s.application [] false x c
keeping-shown s entry odometer x c is =
    shows-nothing s.application false x c (card-same s.application (IsKeepMoment s.application.activity s.registration odometer (grown s.odometer odometer) entry (book_of s.application x)) x c is.card)

pub closing-shown : (s : Session) (act : Activity) (x c : List ℕ) → place_of s.application (file 0x0507) ≤ length x → IsCardClosing s act x c → ShowsMore s.application [] false x c
closing-shown s act x c fits is = shows-nothing s.application false x c (⊎_elim
    (λ card. card-same s.application (IsCloseMoment s.application.activity act (book_of s.application x)) x c card)
    (λ done.
    let long : place_of s.application (file 0x0507) ≤ length done.before = omega (arith, fits, done.card.outside.same_length) in
    subst (λ (l : List ℕ). SameEvents s.application x l) (sym done.session)
    (same-then s.application x done.before (ended s.application done.before) (card-same s.application (IsBook (closed s.application.activity act (book_of s.application x))) x done.before done.card)
    (put-same s.application (place_of s.application (file 0x0507)) (0 ∷ 0 ∷ 0 ∷ 0 ∷ []) done.before (omega arith) long)))
    is)
