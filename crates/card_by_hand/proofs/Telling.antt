-- At each moment of a session's first keep a card's days tell of the entries by hand so far those whose day is there.
use Rattle.std.proofs.Common.{◌≡◌, ◌∙◌, inl, inr, ℕ, ◌-◌, ◌/◌, ◌<◌, ◌≤◌, true, false, List, [], ◌∷◌, ◌++◌, sym, ap, subst, arith, append_assoc, append-nil}
use Rattle.std.specs.Prelude.{◌⊎◌}
use Rattle.activity_codec.specs.declared.entries.Entry.{Entry}
use Rattle.activity_codec.specs.declared.entries.Manual.{Manual}
use Rattle.tach_media.specs.card_layout.declared.files.Application.{Application}
use Rattle.tach_media.specs.card_layout.Application.{IsApplication}
use Rattle.card_session.specs.card_model.Days.{Day, AreDays}
use Rattle.card_session.specs.card_model.Changes.{Remain}
use Rattle.card_session.specs.card_retention.Expected.{is_newest}
use Rattle.card_session.specs.card_retention.Shown.{sizes}
use Rattle.hand_model.specs.card_image.Fields.{card_days, end_mark}
use Rattle.hand_model.specs.Manual.{manual_word}
use Rattle.hand_model.specs.ByHand.{TellsHands, HandsBefore}
use Rattle.hand_model.proofs.OfDay.{spans}
use Rattle.card_session.specs.Books.{mark_of, gap_closed}
use Rattle.card_session.specs.Cards.{IsCardKeeping, grown}
use Rattle.card_session.specs.Sessions.{Session, book_of}
use Rattle.card_session.specs.ByHand.{IsCardByHand, IsCardEntering, with_word_at, word_len}
use Rattle.card_session.proofs.Marks.{mark_told}
use Rattle.card_session.proofs.Preparing.{gap_are}
use Rattle.card_session.proofs.Stopping.{asked_at, book_days, days_there}
use Rattle.card_session.proofs.Surviving.{newest_gapped}
use Rattle.card_by_hand.specs.First.{Follows, AreEntered, IsEntering, IsFirstKeeping, MayTell, AreHandsOf}
use Rattle.card_by_hand.proofs.Along.{newest_known, rest_hands}
use Rattle.card_by_hand.proofs.Chain.{ends_on}
use Rattle.card_by_hand.proofs.FirstLaws.{entering_same, past_same}
use Rattle.card_by_hand.proofs.Staying.{late_of}
use Rattle.card_by_hand.proofs.Told.{tells_drops, tells_more, tells_still, keep_tells}

differ : true ≡ false → ⊥
differ e = cc

-- ---- ONE ENTRY BY HAND

module _ (s : Session) (e : Manual) (x : List ℕ) (all : List Manual) (m : ℕ) (may : MayTell s e.minute all x) (tells : TellsHands m all (card_days s.application x)) where
  are_x : AreDays 0 (card_days s.application x)
  are_x = subst (λ (ds : List Day). AreDays 0 ds) (book_days s.application x) (days_there s x may.knows)

  done_days : (t : Session) (z : List ℕ) → IsCardByHand s t e x z → card_days s.application z ≡ with_word_at s.application.activity e.minute (manual_word e) (card_days s.application x)
  done_days t z done = sym (book_days s.application z) ∙ done.card.told.0 ∙ ap (with_word_at s.application.activity e.minute (manual_word e)) (book_days s.application x)

  told_done : e.minute ≤ m → (t : Session) (z : List ℕ) → IsCardByHand s t e x z → TellsHands m (all ++ e ∷ []) (card_days s.application z)
  told_done low t z done =
      subst (λ (ds : List Day). TellsHands m (all ++ e ∷ []) ds) (sym (done_days t z done)) (tells_more s.application.activity may.sizes.string_least (card_days s.application x) are_x e m all may.clear tells low)

  still_done : m < e.minute → (t : Session) (z : List ℕ) → IsCardByHand s t e x z → TellsHands m all (card_days s.application z)
  still_done late t z done =
      subst (λ (ds : List Day). TellsHands m all ds) (sym (done_days t z done)) (tells_still s.application.activity may.sizes.string_least (card_days s.application x) are_x e m all may.clear tells late)

  still_moment : m < e.minute → (c : List ℕ) → IsCardEntering s e x c → TellsHands m all (card_days s.application c)
  still_moment late c now =
      subst (λ (ds : List Day). TellsHands m all ds) (book_days s.application c)
      (by (subst (λ (ds : List Day). (Remain (s.application.activity - word_len e.minute (manual_word e) ds) ds (book_of s.application c).days) ⊎ ((book_of s.application c).days ≡ with_word_at s.application.activity e.minute (manual_word e) ds)) (book_days s.application x) now.card.told.0))
    where
      by : (Remain (s.application.activity - word_len e.minute (manual_word e) (card_days s.application x)) (card_days s.application x) (book_of s.application c).days) ⊎ ((book_of s.application c).days ≡ with_word_at s.application.activity e.minute (manual_word e) (card_days s.application x))
          → TellsHands m all (book_of s.application c).days
      by (inl gone) = tells_drops s.application.activity may.sizes.string_least (card_days s.application x) are_x e m all may.clear tells (s.application.activity - word_len e.minute (manual_word e) (card_days s.application x)) (book_of s.application c).days gone
      by (inr there) =
          subst (λ (ds : List Day). TellsHands m all ds) (sym there) (tells_still s.application.activity may.sizes.string_least (card_days s.application x) are_x e m all may.clear tells late)

-- ---- ALL OF THEM

-- from the minute of the keep to that of the first
first_tells : (s : Session) (before : ℕ) (h : Manual) (hs : List Manual) (x : List ℕ) (all : List Manual) → MayTell s before all x → AreHandsOf s before (h ∷ hs) → MayTell s h.minute all x
first_tells s before h hs x all may hands = record {
  sizes = may.sizes;
  knows = may.knows;
  later = hands.lie.0;
  clear = subst (λ (k : ℕ). is_newest k (sizes (card_days s.application x)) ≡ false → HandsBefore k all) (sym hands.day.0) may.clear;
}

-- past one of them the newest day is the minute's
rest_tells : (s t : Session) (before : ℕ) (h : Manual) (hs : List Manual) (x z : List ℕ) (all next : List Manual) → MayTell s before all x → AreHandsOf s before (h ∷ hs) → Follows s t h → IsCardByHand s t h x z → MayTell t before next z
rest_tells s t before h hs x z all next may hands follows done =
    let low : h.minute < before = spans h.minute before hs hands.lie.1 in
    record {
      sizes = subst IsApplication (sym follows.application) may.sizes;
      knows = done.knows;
      later = omega (arith, follows.minute, low);
      clear = λ other. absurd (differ (sym (newest_known t before z done.knows (ends_on t h.minute before hands.day.0 follows.ends)) ∙ other));
    }

-- what is known behind them
record IsBehindAll (next : Session) (before : ℕ) (m : ℕ) (all : List Manual) (y : List ℕ) : Type 0 where
  pub may : MayTell next before all y
  pub tells : TellsHands m all (card_days next.application y)

-- by a mark that they are not behind
told_all : (m : ℕ) (hs : List Manual) (s next : Session) (before : ℕ) (x y : List ℕ) (all : List Manual) → MayTell s before all x → AreHandsOf s before hs → before ≤ m → AreEntered hs s next x y → TellsHands m all (card_days s.application x)
    → IsBehindAll next before m (all ++ hs) y
told_all m [] s next before x y all may hands low entered tells =
    subst (λ (l : List Manual). IsBehindAll next before m l y) (sym (append-nil all))
    (subst (λ (q : Session). IsBehindAll q before m all y) (sym entered.0) (subst (λ (l : List ℕ). IsBehindAll s before m all l) (sym entered.1) (record { may = may; tells = tells })))
told_all m (h ∷ hs) s next before x y all may hands low entered tells =
    let t = entered.0 in
    let z = entered.1 in
    let under : h.minute < before = spans h.minute before hs hands.lie.1 in
    let one = told_done s h x all m (first_tells s before h hs x all may hands) tells (omega (arith, low, under)) t z entered.3 in
    subst (λ (l : List Manual). IsBehindAll next before m l y) (append_assoc all (h ∷ []) hs)
    (told_all m hs entered.0 next before entered.1 y (all ++ h ∷ []) (rest_tells s t before h hs x z all (all ++ h ∷ []) may hands entered.2 entered.3) (rest_hands s t before h hs hands entered.2) low entered.4
    (subst (λ (a : Application). TellsHands m (all ++ h ∷ []) (card_days a entered.1)) (sym entered.2.application) one))

-- by one that they are behind
still_all : (m : ℕ) (hs : List Manual) (s next : Session) (before : ℕ) (x y : List ℕ) (all : List Manual) → MayTell s before all x → AreHandsOf s before hs → m ≤ s.minute → AreEntered hs s next x y → TellsHands m all (card_days s.application x)
    → IsBehindAll next before m all y
still_all m [] s next before x y all may hands low entered tells =
    subst (λ (q : Session). IsBehindAll q before m all y) (sym entered.0) (subst (λ (l : List ℕ). IsBehindAll s before m all l) (sym entered.1) (record { may = may; tells = tells }))
still_all m (h ∷ hs) s next before x y all may hands low entered tells =
    let t = entered.0 in
    let z = entered.1 in
    let one = still_done s h x all m (first_tells s before h hs x all may hands) tells (omega (arith, low, hands.lie.0)) t z entered.3 in
    still_all m hs entered.0 next before entered.1 y all (rest_tells s t before h hs x z all all may hands entered.2 entered.3) (rest_hands s t before h hs hands entered.2) (omega (arith, low, hands.lie.0, entered.2.minute)) entered.4
    (subst (λ (a : Application). TellsHands m all (card_days a entered.1)) (sym entered.2.application) one)

still_entering : (m : ℕ) (hs : List Manual) (s : Session) (before : ℕ) (x c : List ℕ) (all : List Manual) → MayTell s before all x → AreHandsOf s before hs → m ≤ s.minute → IsEntering hs s x c → TellsHands m all (card_days s.application x)
    → TellsHands m all (card_days s.application c)
still_entering m [] s before x c all may hands low entering tells = absurd entering
still_entering m (h ∷ hs) s before x c all may hands low (inl now) tells =
    still_moment s h x all m (first_tells s before h hs x all may hands) tells (omega (arith, low, hands.lie.0)) c now
still_entering m (h ∷ hs) s before x c all may hands low (inr behind) tells =
    let t = behind.0 in
    let z = behind.1 in
    let one = still_done s h x all m (first_tells s before h hs x all may hands) tells (omega (arith, low, hands.lie.0)) t z behind.3 in
    subst (λ (a : Application). TellsHands m all (card_days a c)) behind.2.application
    (still_entering m hs behind.0 before behind.1 c all (rest_tells s t before h hs x z all all may hands behind.2 behind.3) (rest_hands s t before h hs hands behind.2) (omega (arith, low, hands.lie.0, behind.2.minute)) behind.4
    (subst (λ (a : Application). TellsHands m all (card_days a behind.1)) (sym behind.2.application) one))

-- ---- THE KEEP

keep_still : (m : ℕ) (s : Session) (e : Entry) (odometer : ℕ) (x y : List ℕ) (all : List Manual) → MayTell s e.minute all x → IsCardKeeping s e odometer x y → TellsHands m all (card_days s.application x) → TellsHands m all (card_days s.application y)
keep_still m s e odometer x y all may keeping tells =
    subst (λ (ds : List Day). TellsHands m all ds) (book_days s.application y)
    (keep_tells s.application.activity m (book_of s.application x) e ordered gapped all clear (subst (λ (ds : List Day). TellsHands m all ds) (sym (book_days s.application x)) tells)
    s.registration odometer (grown s.odometer odometer) (book_of s.application y).days (book_of s.application y).vehicles keeping.card.told)
  where
    ordered : AreDays 0 (book_of s.application x).days
    ordered = days_there s x may.knows

    gapped : AreDays 0 (gap_closed s.application.activity (mark_of (book_of s.application x)) e.minute (book_of s.application x).days)
    gapped = gap_are s.application.activity may.sizes.string_least (book_of s.application x) ordered e.minute (asked_at s x e.minute may.later may.knows)

    clear : is_newest (e.minute / 1440) (sizes (gap_closed s.application.activity (mark_of (book_of s.application x)) e.minute (book_of s.application x).days)) ≡ false → HandsBefore (e.minute / 1440) all
    clear other = may.clear
        (ap (λ (ds : List Day). is_newest (e.minute / 1440) (sizes ds)) (sym (book_days s.application x))
        ∙ sym (newest_gapped s.application.activity may.sizes.string_least (book_of s.application x) ordered e.minute (e.minute / 1440)) ∙ other)

-- ---- THE FIRST KEEP

module _ (s : Session) (hs : List Manual) (e : Entry) (odometer : ℕ) (x y : List ℕ) (all : List Manual) where
  -- as long as the end mark is the old one
  pub first_old : MayTell s e.minute all x → AreHandsOf s e.minute hs → TellsHands (end_mark s.application x) all (card_days s.application x) → IsFirstKeeping s hs e odometer x y → end_mark s.application y ≡ end_mark s.application x
      → TellsHands (end_mark s.application y) all (card_days s.application y)
  first_old may hands tells keeping same = subst (λ (m : ℕ). TellsHands m all (card_days s.application y)) (sym same) (by keeping)
    where
      low : end_mark s.application x ≤ s.minute
      low = omega (arith, may.knows.minute, mark_told s.application x)

      by : IsFirstKeeping s hs e odometer x y → TellsHands (end_mark s.application x) all (card_days s.application y)
      by (inl entering) = still_entering (end_mark s.application x) hs s e.minute x y all may hands low entering tells
      by (inr behind) =
          let there = still_all (end_mark s.application x) hs s behind.between e.minute x behind.card all may hands low behind.entered tells in
          subst (λ (a : Application). TellsHands (end_mark s.application x) all (card_days a y)) (past_same s hs e odometer x y behind).1
          (keep_still (end_mark s.application x) behind.between e odometer behind.card y all there.may behind.keeping there.tells)

  -- once it is the minute's
  pub first_new : (m : ℕ) → MayTell s e.minute all x → AreHandsOf s e.minute hs → e.minute ≤ m → TellsHands m all (card_days s.application x) → IsFirstKeeping s hs e odometer x y → end_mark s.application y ≡ e.minute
      → TellsHands m (all ++ hs) (card_days s.application y)
  first_new m may hands low tells (inl entering) at =
      absurd (omega (arith, at, (entering_same hs s x y entering).mark, late_of s x e.minute may.knows may.later, mark_told s.application x))
  first_new m may hands low tells (inr behind) at =
      let there = told_all m hs s behind.between e.minute x behind.card all may hands low behind.entered tells in
      subst (λ (a : Application). TellsHands m (all ++ hs) (card_days a y)) (past_same s hs e odometer x y behind).1
      (keep_still m behind.between e odometer behind.card y (all ++ hs) there.may behind.keeping there.tells)
