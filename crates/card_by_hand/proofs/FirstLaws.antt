-- What a session's first keep leaves of a card at each of its moments.
use Rattle.std.proofs.Common.{◌≡◌, ◌∙◌, inl, inr, ⊎_elim, ℕ, suc, ◌+◌, ◌*◌, ◌/◌, ◌<◌, ◌≤◌, max, Bool, true, false, List, [], ◌∷◌, ◌++◌, length, refl, sym, ap, subst, arith, append_assoc, append-nil}
use Rattle.std.specs.Prelude.{◌⊎◌, ◌&&◌, not, nat_eq}
use Rattle.activity_codec.specs.Words.{word_absent}
use Rattle.activity_codec.specs.declared.entries.Entry.{Entry}
use Rattle.activity_codec.specs.declared.entries.Manual.{Manual}
use Rattle.tach_media.specs.card_layout.declared.files.Application.{Application}
use Rattle.tach_media.specs.card_layout.Application.{IsApplication}
use Rattle.tach_media.specs.card_layout.Files.{image_size_of}
use Rattle.card_session.specs.card_model.Days.{Day, AreDays, last_word}
use Rattle.card_session.specs.card_model.Changes.{trimmed, date_of}
use Rattle.card_session.specs.card_days.declared.head.DayHead.{DayHead}
use Rattle.card_session.specs.card_days.Held.{IsNewestHead}
use Rattle.card_session.specs.card_retention.Expected.{Counted, is_newest, with_entry}
use Rattle.card_session.specs.card_retention.Shown.{Bound, AllUpTo, is_open, sizes}
use Rattle.hand_model.specs.card_image.View.{card_view}
use Rattle.hand_model.specs.card_image.Fields.{file_bytes, card_days, card_number, end_mark, session_time}
use Rattle.hand_model.specs.card_image.Judging.{IsValid}
use Rattle.hand_model.specs.Counted.{with_by_hand}
use Rattle.hand_model.specs.Holding.{LieBetween}
use Rattle.hand_model.proofs.OfDay.{spans}
use Rattle.hand_model.specs.ByHand.{by_hand_up_to}
use Rattle.hand_model.specs.Manual.{manual_word}
use Rattle.card_session.specs.Vehicles.{Vehicles, last_use_in}
use Rattle.card_session.specs.Cards.{IsCardKept, IsCardKeeping, grown}
use Rattle.card_session.specs.Sessions.{Session, IsSession, book_of}
use Rattle.card_session.specs.Overwriting.{DaysFollowOverwriting, IsRepairable, ShowsEntries, IsSilentBehind, and_entry}
use Rattle.card_session.specs.ByHand.{IsCardByHand, IsCardEntering, EndsByHand, with_word_at}
use Rattle.card_session.proofs.Composing.{card_as}
use Rattle.card_session.proofs.Marks.{mark_told, session_same, events_same, number_still, keeping_mark}
use Rattle.card_session.proofs.Stopping.{book_days, days_there, asked_at, keep_shows, keep_leaves}
use Rattle.card_session.proofs.Valid.{keep_valid, above_zero}
use Rattle.card_session.proofs.Committed.{keep_commits}
use Rattle.card_session.proofs.Renewing.{keep_stored}
use Rattle.card_by_hand.specs.Listed.{AreLeft}
use Rattle.card_by_hand.specs.Over.{IsOver}
use Rattle.card_by_hand.specs.Wider.{with_hands}
use Rattle.card_by_hand.specs.First.{Follows, AreEntered, IsEntering, IsFirstKept, IsKeepingBehind, IsFirstKeeping, MayCome, MayFollow, AreHandsOf, ComeFrom}
use Rattle.card_by_hand.proofs.Along.{along, at_moment, behind_one, newest_known, first_follows, rest_follows, rest_hands}
use Rattle.card_by_hand.proofs.Chain.{ends_on}
use Rattle.card_by_hand.proofs.Silent.{silent_stays}
use Rattle.card_by_hand.proofs.Staying.{late_of, shows_before, valid_stays, some_open}
use Rattle.card_by_hand.proofs.Newest.{shut_stays, newest_stays, stored_stays, keep_newest}
use Rattle.card_by_hand.proofs.Card.{goes_by_hand, first_over, next_over, over_repaired, keep_repaired}
use Rattle.card_by_hand.proofs.Listed.{by_hand_more, keep_left, left_then, left_all}

-- an entry by hand is a moment of itself
pub ended : (s t : Session) (e : Manual) (x z : List ℕ) → IsCardByHand s t e x z → IsCardEntering s e x z
ended s t e x z done = record { card = card_as s.application _ _ x z (λ ds v is. (inr is.0, is.1)) done.card }

-- and a keep
pub kept_keeping : (s next : Session) (e : Entry) (odometer : ℕ) (x y : List ℕ) → IsCardKept s next e odometer x y → IsCardKeeping s e odometer x y
kept_keeping s next e odometer x y kept = record {
  card = record { outside = kept.card.outside; holds = kept.card.holds; points = kept.card.points; told = inr (kept.card.told.0, inr kept.card.told.1) };
}

-- what is said of an application is said of an equal one
pub app_of : (P : Application → List ℕ → Type 0) (a b : Application) (l : List ℕ) → b ≡ a → P b l → P a l
app_of P a b l is p = subst (λ (q : Application). P q l) is p

-- ---- the end mark, the session time, the events and the number

pub record IsSame (first : List ℕ) (app : Application) (l : List ℕ) : Type 0 where
  pub mark : end_mark app l ≡ end_mark app first
  pub session : session_time app l ≡ session_time app first
  pub events : file_bytes app 0x0502 l ≡ file_bytes app 0x0502 first
  pub number : card_number app l ≡ card_number app first

pub same_first : (app : Application) (x : List ℕ) → IsSame x app x
same_first app x = record { mark = refl; session = refl; events = refl; number = refl }

pub same_moment : (first : List ℕ) (s : Session) (e : Manual) (x c : List ℕ) → IsCardEntering s e x c → IsSame first s.application x → IsSame first s.application c
same_moment first s e x c entering was = record {
  mark = mark_told s.application c ∙ ap (λ (v : Vehicles). last_use_in v / 60) entering.card.told.1 ∙ sym (mark_told s.application x) ∙ was.mark;
  session = session_same s.application _ x c entering.card ∙ was.session;
  events = events_same s.application _ x c entering.card ∙ was.events;
  number = number_still s.application _ x c entering.card ∙ was.number;
}

pub same_step : (first : List ℕ) (s t : Session) (e : Manual) (x z : List ℕ) → MayFollow s e.minute x → IsCardByHand s t e x z → IsSame first s.application x → IsSame first s.application z
same_step first s t e x z may done was = same_moment first s e x z (ended s t e x z done) was

-- whatever stands between, each of them leaves these
pub entered_same : (first : List ℕ) (hs : List Manual) (s next : Session) (x y : List ℕ) → AreEntered hs s next x y → IsSame first s.application x → IsSame first next.application y × (next.application ≡ s.application)
entered_same first [] s next x y entered was = (
  subst (λ (q : Session). IsSame first q.application y) (sym entered.0) (subst (λ (l : List ℕ). IsSame first s.application l) (sym entered.1) was),
  ap (λ (q : Session). q.application) entered.0,
)
entered_same first (h ∷ hs) s next x y entered was =
    let one = same_moment first s h x entered.1 (ended s entered.0 h x entered.1 entered.3) was in
    let rest = entered_same first hs entered.0 next entered.1 y entered.4 (subst (λ (a : Application). IsSame first a entered.1) (sym entered.2.application) one) in
    (rest.0, rest.1 ∙ entered.2.application)

entering_still : (first : List ℕ) (hs : List Manual) (s : Session) (x c : List ℕ) → IsEntering hs s x c → IsSame first s.application x → IsSame first s.application c
entering_still first [] s x c entering was = absurd entering
entering_still first (h ∷ hs) s x c (inl now) was = same_moment first s h x c now was
entering_still first (h ∷ hs) s x c (inr behind) was =
    let one = same_moment first s h x behind.1 (ended s behind.0 h x behind.1 behind.3) was in
    subst (λ (a : Application). IsSame first a c) behind.2.application (entering_still first hs behind.0 behind.1 c behind.4 (subst (λ (a : Application). IsSame first a behind.1) (sym behind.2.application) one))

pub entering_same : (hs : List Manual) (s : Session) (x c : List ℕ) → IsEntering hs s x c → IsSame x s.application c
entering_same hs s x c entering = entering_still x hs s x c entering (same_first s.application x)

module _ (s : Session) (hs : List Manual) (e : Entry) (odometer : ℕ) (x y : List ℕ) (behind : IsKeepingBehind s hs e odometer x y) where
  pub past_same : IsSame x behind.between.application behind.card × (behind.between.application ≡ s.application)
  past_same = entered_same x hs s behind.between x behind.card behind.entered (same_first s.application x)

  there : IsSame x s.application behind.card
  there = subst (λ (a : Application). IsSame x a behind.card) past_same.1 past_same.0

  here : (P : Application → Type 0) → P behind.between.application → P s.application
  here P p = subst P past_same.1 p

  pub keeping_session : session_time s.application y ≡ session_time s.application x
  keeping_session = here (λ a. session_time a y ≡ session_time a behind.card) (session_same behind.between.application _ behind.card y behind.keeping.card) ∙ there.session

  pub keeping_events : file_bytes s.application 0x0502 y ≡ file_bytes s.application 0x0502 x
  keeping_events = here (λ a. file_bytes a 0x0502 y ≡ file_bytes a 0x0502 behind.card) (events_same behind.between.application _ behind.card y behind.keeping.card) ∙ there.events

  pub keeping_number : card_number s.application y ≡ card_number s.application x
  keeping_number = here (λ a. card_number a y ≡ card_number a behind.card) (number_still behind.between.application _ behind.card y behind.keeping.card) ∙ there.number

  pub keeping_end : (end_mark s.application y ≡ end_mark s.application x) ⊎ (end_mark s.application y ≡ e.minute)
  keeping_end =
      ⊎_elim (λ old. inl (old ∙ there.mark)) (λ new. inr new)
      (here (λ a. (end_mark a y ≡ end_mark a behind.card) ⊎ (end_mark a y ≡ e.minute)) (keeping_mark behind.between e odometer behind.card y behind.keeping))

  -- as long as the end mark is the old one, it is that of the card behind the entries by hand
  pub same_there : end_mark s.application y ≡ end_mark s.application x → end_mark behind.between.application y ≡ end_mark behind.between.application behind.card
  same_there same = subst (λ (a : Application). end_mark a y ≡ end_mark a behind.card) (sym past_same.1) (same ∙ sym there.mark)

-- AT EACH MOMENT
module _ (s : Session) (hs : List Manual) (e : Entry) (odometer : ℕ) (x y : List ℕ) (keeping : IsFirstKeeping s hs e odometer x y) where
  pub first_session : session_time s.application y ≡ session_time s.application x
  first_session = ⊎_elim (λ entering. (entering_same hs s x y entering).session) (λ behind. keeping_session s hs e odometer x y behind) keeping

  pub first_events : file_bytes s.application 0x0502 y ≡ file_bytes s.application 0x0502 x
  first_events = ⊎_elim (λ entering. (entering_same hs s x y entering).events) (λ behind. keeping_events s hs e odometer x y behind) keeping

  pub first_number : card_number s.application y ≡ card_number s.application x
  first_number = ⊎_elim (λ entering. (entering_same hs s x y entering).number) (λ behind. keeping_number s hs e odometer x y behind) keeping

  pub first_mark : (end_mark s.application y ≡ end_mark s.application x) ⊎ (end_mark s.application y ≡ e.minute)
  first_mark = ⊎_elim (λ entering. inl (entering_same hs s x y entering).mark) (λ behind. keeping_end s hs e odometer x y behind) keeping

-- where it goes on from the first of its entries by hand
pub record GoesOnBehind (s : Session) (h : Manual) (hs : List Manual) (e : Entry) (odometer : ℕ) (x y : List ℕ) : Type 0 where
  pub next : Session
  pub card : List ℕ
  pub follows : Follows s next h
  pub done : IsCardByHand s next h x card
  pub keeping : IsFirstKeeping next hs e odometer card y

pub first_or_behind : (s : Session) (h : Manual) (hs : List Manual) (e : Entry) (odometer : ℕ) (x y : List ℕ) → IsFirstKeeping s (h ∷ hs) e odometer x y → IsCardEntering s h x y ⊎ GoesOnBehind s h hs e odometer x y
first_or_behind s h hs e odometer x y (inl (inl now)) = inl now
first_or_behind s h hs e odometer x y (inl (inr behind)) = inr (record { next = behind.0; card = behind.1; follows = behind.2; done = behind.3; keeping = inl behind.4 })
first_or_behind s h hs e odometer x y (inr behind) = inr (record {
  next = behind.entered.0;
  card = behind.entered.1;
  follows = behind.entered.2;
  done = behind.entered.3;
  keeping = inr (record { between = behind.between; card = behind.card; entered = behind.entered.4; keeping = behind.keeping });
})

-- ---- the entries of before

pub record Shows (all : List Entry) (app : Application) (l : List ℕ) : Type 0 where
  pub up : AllUpTo (end_mark app l) all
  pub shown : ShowsEntries app all l

pub shows_moment : (all : List Entry) (s : Session) (e : Manual) (x c : List ℕ) → MayFollow s e.minute x → IsCardEntering s e x c → Shows all s.application x → Shows all s.application c
shows_moment all s e x c may now was =
    let same = (same_moment x s e x c now (same_first s.application x)).mark in
    record {
      up = subst (λ (n : ℕ). AllUpTo n all) (sym same) was.up;
      shown = shows_before s.application may.sizes x (days_there s x may.knows) e c (late_of s x e.minute may.knows may.later) may.clear now.card all was.up was.shown;
    }

pub first_shows : (s : Session) (hs : List Manual) (e : Entry) (odometer : ℕ) (x y : List ℕ) → MayFollow s e.minute x → AreHandsOf s e.minute hs → (all : List Entry) → AllUpTo (end_mark s.application x) all → ShowsEntries s.application all x
    → IsFirstKeeping s hs e odometer x y → end_mark s.application y ≡ end_mark s.application x → ShowsEntries s.application all y
first_shows s hs e odometer x y may are all up shown (inl entering) same =
    (at_moment (Shows all) e.minute (λ s t h x z may done was. shows_moment all s h x z may (ended s t h x z done) was) (Shows all) (shows_moment all) hs s x y may are entering (record { up = up; shown = shown })).shown
first_shows s hs e odometer x y may are all up shown (inr behind) same =
    let there = along (Shows all) e.minute (λ s t h x z may done was. shows_moment all s h x z may (ended s t h x z done) was) hs s behind.between x behind.card may are behind.entered (record { up = up; shown = shown }) in
    let t = behind.between in
    let was = subst (λ (a : Application). Shows all a behind.card) (sym there.2) there.0 in
    app_of (λ a l. ShowsEntries a all l) s.application t.application y there.2
    (keep_shows t.application there.1.sizes behind.card (days_there t behind.card there.1.knows) all was.up was.shown t.registration odometer (grown t.odometer odometer) e y
    (asked_at t behind.card e.minute there.1.later there.1.knows) there.1.clear behind.keeping.card (same_there s hs e odometer x y behind same))

-- ---- validity

pub record MayBeValid (app : Application) (l : List ℕ) : Type 0 where
  pub fits : image_size_of app ≤ length l
  pub session : 0 < session_time app l
  pub valid : IsValid app l

pub valid_moment : (s : Session) (e : Manual) (x c : List ℕ) → MayFollow s e.minute x → IsCardEntering s e x c → MayBeValid s.application x → MayBeValid s.application c
valid_moment s e x c may now was =
    let same = (same_moment x s e x c now (same_first s.application x)).session in
    record {
      fits = omega (arith, was.fits, now.card.outside.same_length);
      session = subst (λ (n : ℕ). 0 < n) (sym same) was.session;
      valid = valid_stays s.application may.sizes x (days_there s x may.knows) e c (late_of s x e.minute may.knows may.later) may.clear now.card was.fits (some_open s.application x was.session) was.valid;
    }

pub follow_valid : (s : Session) (hs : List Manual) (e : Entry) (odometer : ℕ) (x y : List ℕ) → MayFollow s e.minute x → AreHandsOf s e.minute hs → MayBeValid s.application x → IsFirstKeeping s hs e odometer x y → IsValid s.application y
follow_valid s hs e odometer x y may are was (inl entering) =
    (at_moment MayBeValid e.minute (λ s t h x z may done was. valid_moment s h x z may (ended s t h x z done) was) MayBeValid valid_moment hs s x y may are entering was).valid
follow_valid s hs e odometer x y may are was (inr behind) =
    let there = along MayBeValid e.minute (λ s t h x z may done was. valid_moment s h x z may (ended s t h x z done) was) hs s behind.between x behind.card may are behind.entered was in
    let t = behind.between in
    let v = subst (λ (a : Application). MayBeValid a behind.card) (sym there.2) there.0 in
    app_of (λ a l. IsValid a l) s.application t.application y there.2
    (keep_valid t.application there.1.sizes behind.card v.fits v.valid v.session (days_there t behind.card there.1.knows) t.registration odometer (grown t.odometer odometer) e y
    (asked_at t behind.card e.minute there.1.later there.1.knows) behind.keeping.card)

-- ---- the newest minute and the stored time

pub record IsShut (newest : ℕ) (app : Application) (l : List ℕ) : Type 0 where
  pub shut : is_open (end_mark app l) (trimmed (end_mark app l) (card_days app l)) ≡ false
  pub newest_is : (card_view app l).newest ≡ newest

pub shut_moment : (newest : ℕ) (s : Session) (e : Manual) (x c : List ℕ) → MayFollow s e.minute x → IsCardEntering s e x c → IsShut newest s.application x → IsShut newest s.application c
shut_moment newest s e x c may now was = record {
  shut = shut_stays s.application may.sizes x (days_there s x may.knows) e c (late_of s x e.minute may.knows may.later) may.clear now.card was.shut;
  newest_is = newest_stays s.application may.sizes x (days_there s x may.knows) e c (late_of s x e.minute may.knows may.later) may.clear now.card was.shut ∙ was.newest_is;
}

pub first_newest : (s : Session) (hs : List Manual) (e : Entry) (odometer : ℕ) (x y : List ℕ) → MayFollow s e.minute x → AreHandsOf s e.minute hs
    → is_open (end_mark s.application x) (trimmed (end_mark s.application x) (card_days s.application x)) ≡ false → IsFirstKeeping s hs e odometer x y → end_mark s.application y ≡ end_mark s.application x
    → (card_view s.application y).newest ≡ (card_view s.application x).newest
first_newest s hs e odometer x y may are shut (inl entering) same =
    let n = (card_view s.application x).newest in
    (at_moment (IsShut n) e.minute (λ s t h x z may done was. shut_moment n s h x z may (ended s t h x z done) was) (IsShut n) (shut_moment n) hs s x y may are entering (record { shut = shut; newest_is = refl })).newest_is
first_newest s hs e odometer x y may are shut (inr behind) same =
    let n = (card_view s.application x).newest in
    let there = along (IsShut n) e.minute (λ s t h x z may done was. shut_moment n s h x z may (ended s t h x z done) was) hs s behind.between x behind.card may are behind.entered (record { shut = shut; newest_is = refl }) in
    let t = behind.between in
    let v = subst (λ (a : Application). IsShut n a behind.card) (sym there.2) there.0 in
    app_of (λ a l. (card_view a l).newest ≡ n) s.application t.application y there.2
    (keep_newest t.application there.1.sizes behind.card (days_there t behind.card there.1.knows) e t.registration odometer (grown t.odometer odometer) y
    (asked_at t behind.card e.minute there.1.later there.1.knows) there.1.clear behind.keeping.card (same_there s hs e odometer x y behind same) v.shut ∙ v.newest_is)

pub record IsStored (stored : ℕ) (app : Application) (l : List ℕ) : Type 0 where
  pub session : 0 < session_time app l
  pub stored_is : (card_view app l).stored ≡ stored

stored_moment : (stored : ℕ) (s : Session) (e : Manual) (x c : List ℕ) → MayFollow s e.minute x → IsCardEntering s e x c → IsStored stored s.application x → IsStored stored s.application c
stored_moment stored s e x c may now was = record {
  session = subst (λ (n : ℕ). 0 < n) (sym (same_moment x s e x c now (same_first s.application x)).session) was.session;
  stored_is = stored_stays s.application may.sizes x (days_there s x may.knows) e c (late_of s x e.minute may.knows may.later) may.clear now.card (some_open s.application x was.session) ∙ was.stored_is;
}

pub first_stored : (s : Session) (hs : List Manual) (e : Entry) (odometer : ℕ) (x y : List ℕ) → MayFollow s e.minute x → AreHandsOf s e.minute hs → 0 < session_time s.application x → IsFirstKeeping s hs e odometer x y
    → end_mark s.application y ≡ end_mark s.application x → (card_view s.application y).stored ≡ (card_view s.application x).stored
first_stored s hs e odometer x y may are session (inl entering) same =
    let n = (card_view s.application x).stored in
    (at_moment (IsStored n) e.minute (λ s t h x z may done was. stored_moment n s h x z may (ended s t h x z done) was) (IsStored n) (stored_moment n) hs s x y may are entering (record { session = session; stored_is = refl })).stored_is
first_stored s hs e odometer x y may are session (inr behind) same =
    let n = (card_view s.application x).stored in
    let there = along (IsStored n) e.minute (λ s t h x z may done was. stored_moment n s h x z may (ended s t h x z done) was) hs s behind.between x behind.card may are behind.entered (record { session = session; stored_is = refl }) in
    let t = behind.between in
    let v = subst (λ (a : Application). IsStored n a behind.card) (sym there.2) there.0 in
    let old : end_mark behind.between.application y ≡ end_mark behind.between.application behind.card = same_there s hs e odometer x y behind same in
    let low = late_of t behind.card e.minute there.1.knows there.1.later in
    app_of (λ a l. (card_view a l).stored ≡ n) s.application t.application y there.2
    (⊎_elim (λ here. here.1 ∙ v.stored_is) (λ new. absurd (omega (arith, new.0, old, low, mark_told behind.between.application behind.card)))
    (keep_stored t.application behind.card t.registration odometer (grown t.odometer odometer) e y behind.keeping.card (above_zero (session_time t.application behind.card) v.session)))

-- ---- the stated overwriting

-- the latest word of the newest day tells no card: no entry is open
shut_absent : (mark : ℕ) (h : DayHead) (w : ℕ) (days : List Day) → IsNewestHead h w days → word_absent w ≡ true → is_open mark days ≡ false
shut_absent mark h w [] is absent = refl
shut_absent mark h w (d ∷ []) is absent =
    not_both (nat_eq d.date (date_of (suc mark))) (word_absent (last_word d.words)) (ap word_absent (sym is.1) ∙ absent)
  where
    not_both : (a c : Bool) → c ≡ true → (a && not c) ≡ false
    not_both true c is = ap not is
    not_both false c is = refl
shut_absent mark h w (d ∷ e ∷ ds) is absent = shut_absent mark h w (e ∷ ds) is absent

pub shut_known : (s : Session) (minute mark : ℕ) (x : List ℕ) → IsSession s x → EndsByHand s minute → is_open mark (card_days s.application x) ≡ false
shut_known s minute mark x knows ends =
    subst (λ (ds : List Day). is_open mark ds ≡ false) (book_days s.application x)
    (shut_absent mark s.days.tail.head s.days.tail.latest (book_of s.application x).days knows.card.days.newest ends.absent)

-- days above those of before by so many bytes, behind one entry by hand and more, on the day of the minute
pub record LiesOver (first : List ℕ) (bytes : ℕ) (s : Session) (before : ℕ) (l : List ℕ) : Type 0 where
  pub may : MayFollow s before l
  pub same : IsSame first s.application l
  pub newest : is_newest (before / 1440) (sizes (card_days s.application l)) ≡ true
  pub shut : is_open (end_mark s.application l) (card_days s.application l) ≡ false
  pub over : IsOver s.application.activity (end_mark s.application first) bytes (card_days s.application first) (card_days s.application l)

over_at : (first : List ℕ) (s : Session) (e : Manual) (bytes : ℕ) (x c : List ℕ) → MayFollow s e.minute x → IsSame first s.application x → is_newest (e.minute / 1440) (sizes (card_days s.application x)) ≡ true → bytes ≤ 30
    → IsOver s.application.activity (end_mark s.application first) bytes (card_days s.application first) (card_days s.application x) → IsCardEntering s e x c
    → IsOver s.application.activity (end_mark s.application first) (bytes + 2) (card_days s.application first) (card_days s.application c)
over_at first s e bytes x c may same newest few over now =
    subst (λ (m : ℕ). IsOver s.application.activity m (bytes + 2) (card_days s.application first) (card_days s.application c)) same.mark
    (next_over s.application may.sizes x (days_there s x may.knows) e c (late_of s x e.minute may.knows may.later) now.card (card_days s.application first) bytes newest few
    (subst (λ (m : ℕ). IsOver s.application.activity m bytes (card_days s.application first) (card_days s.application x)) (sym same.mark) over))

-- behind the first of them
over_one : (s t : Session) (before : ℕ) (e : Manual) (es : List Manual) (x z : List ℕ) → MayFollow s before x → AreHandsOf s before (e ∷ es) → Follows s t e → IsCardByHand s t e x z → LiesOver x 16 t before z
over_one s t before e es x z may are follows done =
    let here = first_follows s before e es x may are in
    let now = ended s t e x z done in
    let ends = ends_on t e.minute before are.day.0 follows.ends in
    record {
      may = rest_follows s t before e es x z may are follows done;
      same = subst (λ (a : Application). IsSame x a z) (sym follows.application) (same_moment x s e x z now (same_first s.application x));
      newest = newest_known t before z done.knows ends;
      shut = shut_known t before (end_mark t.application z) z done.knows ends;
      over = subst (λ (a : Application). IsOver a.activity (end_mark a x) 16 (card_days a x) (card_days a z)) (sym follows.application)
          (first_over s.application here.sizes x (days_there s x here.knows) e z (late_of s x e.minute here.knows here.later) now.card here.clear);
    }

over_step : (first : List ℕ) (bytes : ℕ) (s t : Session) (before : ℕ) (e : Manual) (es : List Manual) (x z : List ℕ) → bytes ≤ 30 → LiesOver first bytes s before x → AreHandsOf s before (e ∷ es) → Follows s t e → IsCardByHand s t e x z → LiesOver first (bytes + 2) t before z
over_step first bytes s t before e es x z few was are follows done =
    let here = first_follows s before e es x was.may are in
    let now = ended s t e x z done in
    let ends = ends_on t e.minute before are.day.0 follows.ends in
    let newest : is_newest (e.minute / 1440) (sizes (card_days s.application x)) ≡ true = subst (λ (day : ℕ). is_newest day (sizes (card_days s.application x)) ≡ true) (sym are.day.0) was.newest in
    record {
      may = rest_follows s t before e es x z was.may are follows done;
      same = subst (λ (a : Application). IsSame first a z) (sym follows.application) (same_moment first s e x z now was.same);
      newest = newest_known t before z done.knows ends;
      shut = shut_known t before (end_mark t.application z) z done.knows ends;
      over = subst (λ (a : Application). IsOver a.activity (end_mark a first) (bytes + 2) (card_days a first) (card_days a z)) (sym follows.application)
          (over_at first s e bytes x z here was.same newest few was.over now);
    }

-- at a moment of more of them, and behind them
module _ (first : List ℕ) (before : ℕ) (slack : Bound) (covered from next : ℕ) (counted : Counted) (least : 32 ≤ slack.bytes) (later : from ≤ next) where
  abbrev Repaired : Application → List ℕ → Type 0
  Repaired a l = DaysFollowOverwriting a slack covered from counted first → IsRepairable a slack covered next counted l

  repaired_by : (app : Application) → IsApplication app → (bytes : ℕ) → bytes ≤ 32 → (l : List ℕ) → end_mark app l ≡ end_mark app first
      → IsOver app.activity (end_mark app first) bytes (card_days app first) (card_days app l) → Repaired app l
  repaired_by app sizes bytes few l same over = λ goes. over_repaired app sizes first l bytes few same over slack covered from next counted least later goes

  pub more_moment : (es : List Manual) (bytes : ℕ) (s : Session) (x c : List ℕ) → bytes + 2 * length es ≤ 30 → LiesOver first bytes s before x → AreHandsOf s before es → IsEntering es s x c → Repaired s.application c
  more_moment [] bytes s x c few was are entering = absurd entering
  more_moment (e ∷ es) bytes s x c few was are (inl now) =
      let here = first_follows s before e es x was.may are in
      let newest : is_newest (e.minute / 1440) (sizes (card_days s.application x)) ≡ true = subst (λ (day : ℕ). is_newest day (sizes (card_days s.application x)) ≡ true) (sym are.day.0) was.newest in
      repaired_by s.application here.sizes (bytes + 2) (omega (arith, few)) c (same_moment first s e x c now was.same).mark (over_at first s e bytes x c here was.same newest (omega (arith, few)) was.over now)
  more_moment (e ∷ es) bytes s x c few was are (inr behind) =
      app_of Repaired s.application behind.0.application c behind.2.application
      (more_moment es (bytes + 2) behind.0 behind.1 c (omega (arith, few)) (over_step first bytes s behind.0 before e es x behind.1 (omega (arith, few)) was are behind.2 behind.3) (rest_hands s behind.0 before e es are behind.2) behind.4)

  pub more_kept : (es : List Manual) (bytes : ℕ) (s last : Session) (x y : List ℕ) (e : Entry) (odometer : ℕ) (c : List ℕ) → e.minute ≡ before → bytes + 2 * length es ≤ 30 → LiesOver first bytes s before x → AreHandsOf s before es → AreEntered es s last x y
      → IsCardKeeping last e odometer y c → end_mark last.application c ≡ end_mark last.application first → Repaired last.application c
  more_kept [] bytes s last x y e odometer c at few was are entered keeping same =
      let w = subst (λ (q : Session). LiesOver first bytes q before y) (sym entered.0) (subst (λ (l : List ℕ). LiesOver first bytes s before l) (sym entered.1) was) in
      let may = subst (λ (m : ℕ). MayFollow last m y) (sym at) w.may in
      let there : end_mark last.application c ≡ end_mark last.application y = same ∙ sym w.same.mark in
      λ goes. keep_repaired last.application may.sizes y (days_there last y may.knows) e last.registration odometer (grown last.odometer odometer) c (asked_at last y e.minute may.later may.knows) keeping.card there
      (subst (λ (m : ℕ). is_newest (m / 1440) (sizes (card_days last.application y)) ≡ true) (sym at) w.newest) w.shut (card_days last.application first) bytes (omega (arith, few))
      (subst (λ (m : ℕ). IsOver last.application.activity m bytes (card_days last.application first) (card_days last.application y)) (sym w.same.mark) w.over)
      slack covered from next counted least later first refl (sym w.same.mark) goes
  more_kept (h ∷ es) bytes s last x y e odometer c at few was are entered keeping same =
      more_kept es (bytes + 2) entered.0 last entered.1 y e odometer c at (omega (arith, few)) (over_step first bytes s entered.0 before h es x entered.1 (omega (arith, few)) was are entered.2 entered.3)
      (rest_hands s entered.0 before h es are entered.2) entered.4 keeping same

pub first_repaired : (s : Session) (h : Manual) (hs : List Manual) (e : Entry) (odometer : ℕ) (x y : List ℕ) → MayFollow s e.minute x → AreHandsOf s e.minute (h ∷ hs) → length hs < 8 → IsFirstKeeping s (h ∷ hs) e odometer x y
    → end_mark s.application y ≡ end_mark s.application x → (slack : Bound) (covered from next : ℕ) (c : Counted) → 32 ≤ slack.bytes → from ≤ next → DaysFollowOverwriting s.application slack covered from c x → IsRepairable s.application slack covered next c y
first_repaired s h hs e odometer x y may are few (inl (inl now)) same slack covered from next c least later =
    let here = first_follows s e.minute h hs x may are in
    repaired_by x e.minute slack covered from next c least later s.application here.sizes 16 (omega arith) y same
    (first_over s.application here.sizes x (days_there s x here.knows) h y (late_of s x h.minute here.knows here.later) now.card here.clear)
first_repaired s h hs e odometer x y may are few (inl (inr behind)) same slack covered from next c least later =
    app_of (Repaired x e.minute slack covered from next c least later) s.application behind.0.application y behind.2.application
    (more_moment x e.minute slack covered from next c least later hs 16 behind.0 behind.1 y (omega (arith, few)) (over_one s behind.0 e.minute h hs x behind.1 may are behind.2 behind.3) (rest_hands s behind.0 e.minute h hs are behind.2) behind.4)
first_repaired s h hs e odometer x y may are few (inr behind) same slack covered from next c least later =
    let all = past_same s (h ∷ hs) e odometer x y behind in
    let one = behind.entered in
    app_of (Repaired x e.minute slack covered from next c least later) s.application behind.between.application y all.1
    (more_kept x e.minute slack covered from next c least later hs 16 one.0 behind.between one.1 behind.card e odometer y refl (omega (arith, few)) (over_one s one.0 e.minute h hs x one.1 may are one.2 one.3) (rest_hands s one.0 e.minute h hs are one.2) one.4
    behind.keeping (subst (λ (a : Application). end_mark a y ≡ end_mark a x) (sym all.1) same))

-- ---- which entries by hand are told

-- one more behind those that are left
left_more : (told was kept : List Manual) (e : Manual) → AreLeft told was → AreLeft was kept → AreLeft (told ++ e ∷ []) (kept ++ e ∷ [])
left_more told was kept e one two =
    let both = left_then told was kept one two in
    record { gone = both.gone; is = ap (λ (l : List Manual). l ++ e ∷ []) both.is ∙ append_assoc both.gone kept (e ∷ []) }

entered_told : (s t : Session) (e : Manual) (x z : List ℕ) (mark : ℕ) (told : List Manual) → MayFollow s e.minute x → IsCardByHand s t e x z → e.minute ≤ mark → AreLeft told (by_hand_up_to mark (card_days s.application x))
    → AreLeft (told ++ e ∷ []) (by_hand_up_to mark (card_days s.application z))
entered_told s t e x z mark told may done low was =
    let a = s.application in
    let are : AreDays 0 (card_days s.application x) = subst (λ (ds : List Day). AreDays 0 ds) (book_days a x) (days_there s x may.knows) in
    let more = by_hand_more a.activity may.sizes.string_least (card_days a x) are e mark low in
    let days : card_days s.application z ≡ with_word_at s.application.activity e.minute (manual_word e) (card_days s.application x) = sym (book_days a z) ∙ done.card.told.0 ∙ ap (with_word_at a.activity e.minute (manual_word e)) (book_days a x) in
    subst (λ (l : List Manual). AreLeft (told ++ e ∷ []) l) (sym (ap (by_hand_up_to mark) days ∙ more.2)) (left_more told (by_hand_up_to mark (card_days a x)) more.0 e was more.1)

pub all_told : (hs : List Manual) (s next : Session) (before mark : ℕ) (x y : List ℕ) (told : List Manual) → MayFollow s before x → AreHandsOf s before hs → before ≤ mark → AreEntered hs s next x y → AreLeft told (by_hand_up_to mark (card_days s.application x))
    → AreLeft (told ++ hs) (by_hand_up_to mark (card_days s.application y))
all_told [] s next before mark x y told may are low entered was =
    subst (λ (l : List Manual). AreLeft l (by_hand_up_to mark (card_days s.application y))) (sym (append-nil told))
    (subst (λ (l : List ℕ). AreLeft told (by_hand_up_to mark (card_days s.application l))) (sym entered.1) was)
all_told (h ∷ hs) s next before mark x y told may are low entered was =
    let t = entered.0 in
    let z = entered.1 in
    let here = first_follows s before h hs x may are in
    let one = entered_told s t h x z mark told here entered.3 (omega (arith, low, later_than)) was in
    let rest = all_told hs t next before mark z y (told ++ h ∷ []) (rest_follows s t before h hs x z may are entered.2 entered.3) (rest_hands s t before h hs are entered.2) low entered.4
    (subst (λ (a : Application). AreLeft (told ++ h ∷ []) (by_hand_up_to mark (card_days a z))) (sym entered.2.application) one) in
    subst (λ (l : List Manual). AreLeft l (by_hand_up_to mark (card_days s.application y))) (append_assoc told (h ∷ []) hs)
    (subst (λ (a : Application). AreLeft ((told ++ h ∷ []) ++ hs) (by_hand_up_to mark (card_days a y))) entered.2.application rest)
  where
    later_than : h.minute < before
    later_than = spans h.minute before hs are.lie.1

pub first_told : (s next : Session) (hs : List Manual) (e : Entry) (odometer : ℕ) (x y : List ℕ) (mark : ℕ) → MayFollow s e.minute x → AreHandsOf s e.minute hs → e.minute ≤ mark → IsFirstKept s next hs e odometer x y
    → AreLeft (by_hand_up_to mark (card_days s.application x) ++ hs) (by_hand_up_to mark (card_days s.application y))
first_told s next hs e odometer x y mark may are low done =
    let t = done.between in
    let all = along (IsSame x) e.minute (same_step x) hs s done.between x done.card may are done.entered (same_first s.application x) in
    let there = all_told hs s done.between e.minute mark x done.card (by_hand_up_to mark (card_days s.application x)) may are low done.entered (left_all (by_hand_up_to mark (card_days s.application x))) in
    let keeping = kept_keeping done.between next e odometer done.card y done.kept in
    let left : AreLeft (by_hand_up_to mark (card_days done.between.application done.card)) (by_hand_up_to mark (card_days done.between.application y)) =
    subst (λ (ds : List Day). AreLeft (by_hand_up_to mark (card_days done.between.application done.card)) (by_hand_up_to mark ds)) (book_days done.between.application y)
    (subst (λ (ds : List Day). AreLeft (by_hand_up_to mark ds) (by_hand_up_to mark (book_of done.between.application y).days)) (book_days done.between.application done.card)
    (keep_left done.between.application.activity mark (book_of done.between.application done.card) e done.between.registration odometer (grown done.between.odometer odometer) (book_of done.between.application y).days (book_of done.between.application y).vehicles keeping.card.told)) in
    left_then (by_hand_up_to mark (card_days s.application x) ++ hs) (by_hand_up_to mark (card_days s.application done.card)) (by_hand_up_to mark (card_days s.application y)) there
    (subst (λ (a : Application). AreLeft (by_hand_up_to mark (card_days a done.card)) (by_hand_up_to mark (card_days a y))) all.2 left)

-- ---- the entries, counted

-- from which minute on an entry may come, behind entries by hand
abbrev from_behind : (from : ℕ) → List Manual → ℕ
from_behind from [] = from
from_behind from (h ∷ hs) = from_behind (max from (suc h.minute)) hs

-- the next one comes no earlier; or words of the start stood behind the mark, and none comes behind the keep's minute
abbrev ComesNext : (mark covered from before : ℕ) → List Manual → Type 0
ComesNext mark covered from before [] = from ≤ before
ComesNext mark covered from before (h ∷ hs) = (from ≤ h.minute) ⊎ ((mark < covered) × (from ≤ before))

next_comes : (mark covered from m before : ℕ) (hs : List Manual) → LieBetween m before hs → m < before → (from ≤ m) ⊎ ((mark < covered) × (from ≤ before)) → ComesNext mark covered (max from (suc m)) before hs
next_comes mark covered from m before [] lie low comes = ⊎_elim (λ le. omega (arith, low, le)) (λ cut. omega (arith, low, cut.1)) comes
next_comes mark covered from m before (h ∷ hs) lie low comes = ⊎_elim
    (λ le. inl (omega (arith, lie.0, le)))
    (λ cut. inr (cut.0, omega (arith, low, cut.1)))
    comes

low_behind : (mark covered from after before : ℕ) (hs : List Manual) → LieBetween after before hs → ComesNext mark covered from before hs → from_behind from hs ≤ before
low_behind mark covered from after before [] lie next = next
low_behind mark covered from after before (h ∷ hs) lie next =
    low_behind mark covered (max from (suc h.minute)) h.minute before hs lie.1 (next_comes mark covered from h.minute before hs lie.1 (spans h.minute before hs lie.1) next)

-- the days so far are those of the entries by hand, counted, and the end mark is this one
record Counts (slack : Bound) (covered from mark : ℕ) (c : Counted) (app : Application) (l : List ℕ) : Type 0 where
  pub at : end_mark app l ≡ mark
  pub shut : is_open (end_mark app l) (card_days app l) ≡ false
  pub goes : DaysFollowOverwriting app slack covered from c l

-- past an entry by hand
one_comes : (s : Session) (before : ℕ) (h : Manual) (hs : List Manual) (x : List ℕ) → MayCome s before x → AreHandsOf s before (h ∷ hs) → MayCome s h.minute x
one_comes s before h hs x may are = record { sizes = may.sizes; knows = may.knows; later = are.lie.0 }

pub come : (s : Session) (minute : ℕ) (x : List ℕ) → MayFollow s minute x → MayCome s minute x
come s minute x may = record { sizes = may.sizes; knows = may.knows; later = may.later }

counts_all : (slack : Bound) (covered mark : ℕ) → 16 ≤ slack.bytes → (hs : List Manual) (s next : Session) (before from : ℕ) (c : Counted) (x y : List ℕ) → MayCome s before x → AreHandsOf s before hs → ComesNext mark covered from before hs
    → AreEntered hs s next x y → Counts slack covered from mark c s.application x → Counts slack covered (from_behind from hs) mark (with_hands covered c hs) next.application y
counts_all slack covered mark least [] s next before from c x y may are comes entered was =
    subst (λ (q : Session). Counts slack covered from mark c q.application y) (sym entered.0) (subst (λ (l : List ℕ). Counts slack covered from mark c s.application l) (sym entered.1) was)
counts_all slack covered mark least (h ∷ hs) s next before from c x y may are comes entered was =
    let t = entered.0 in
    let z = entered.1 in
    let here = one_comes s before h hs x may are in
    let span : h.minute < before = spans h.minute before hs are.lie.1 in
    let past : end_mark s.application x < h.minute = omega (arith, late_of s x h.minute here.knows here.later, mark_told s.application x) in
    let early : (from ≤ h.minute) ⊎ ((end_mark s.application x < covered) × (from / 1440 ≤ h.minute / 1440)) = ⊎_elim
    (λ le. inl le)
    (λ cut. inr (omega (arith, was.at, cut.0), omega (arith, cut.1, are.day.0)))
    comes in
    let there : Counts slack covered (max from (suc h.minute)) mark (with_by_hand covered c h.minute) entered.0.application entered.1 = record {
      at = ap (λ (a : Application). end_mark a entered.1) entered.2.application ∙ (same_moment x s h x z (ended s t h x z entered.3) (same_first s.application x)).mark ∙ was.at;
      shut = shut_known t before (end_mark t.application z) z entered.3.knows (ends_on t h.minute before are.day.0 entered.2.ends);
      goes = subst (λ (a : Application). DaysFollowOverwriting a slack covered (max from (suc h.minute)) (with_by_hand covered c h.minute) entered.1) (sym entered.2.application)
          (goes_by_hand s.application here.sizes x (days_there s x here.knows) h z was.shut past slack covered from (max from (suc h.minute)) c least early (omega arith) (omega arith) was.goes entered.3.card);
    } in
    counts_all slack covered mark least hs t next before (max from (suc h.minute)) (with_by_hand covered c h.minute) z y (come t before z (behind_one s t before h hs x z may.sizes are entered.2 entered.3)) (rest_hands s t before h hs are entered.2)
    (next_comes mark covered from h.minute before hs are.lie.1 span comes) entered.4 there

-- the minute may follow where it is kept, behind an entry by hand
pub past_follows : (s : Session) (h : Manual) (hs : List Manual) (e : Entry) (odometer : ℕ) (x y : List ℕ) → IsApplication s.application → AreHandsOf s e.minute (h ∷ hs) → (behind : IsKeepingBehind s (h ∷ hs) e odometer x y) → MayFollow behind.between e.minute behind.card
past_follows s h hs e odometer x y sizes are behind =
    let one = behind.entered in
    (along (λ a l. Unit {0}) e.minute (λ s t g x z may done p. tt) hs one.0 behind.between one.1 behind.card (behind_one s one.0 e.minute h hs x one.1 sizes are one.2 one.3) (rest_hands s one.0 e.minute h hs are one.2) one.4 tt).1

pub first_entries : (s : Session) (h : Manual) (hs : List Manual) (e : Entry) (odometer : ℕ) (x y : List ℕ) → MayCome s e.minute x → AreHandsOf s e.minute (h ∷ hs) → is_open (end_mark s.application x) (card_days s.application x) ≡ false
    → (slack : Bound) (covered from : ℕ) (c : Counted) → 16 ≤ slack.bytes → ComeFrom (end_mark s.application x) covered from (h ∷ hs) e → DaysFollowOverwriting s.application slack covered from c x → IsFirstKeeping s (h ∷ hs) e odometer x y
    → end_mark s.application y ≡ e.minute
    → DaysFollowOverwriting s.application (and_entry slack e) covered (suc e.minute) (with_entry covered (with_hands covered c (h ∷ hs)) e) y
first_entries s h hs e odometer x y may are shut slack covered from c least comes goes (inl entering) at =
    let same = (entering_same (h ∷ hs) s x y entering).mark in
    absurd (omega (arith, at, same, late_of s x e.minute may.knows may.later, mark_told s.application x))
first_entries s h hs e odometer x y may are shut slack covered from c least comes goes (inr behind) at =
    let is = (past_same s (h ∷ hs) e odometer x y behind).1 in
    let t = behind.between in
    let k = past_follows s h hs e odometer x y may.sizes are behind in
    let was = counts_all slack covered (end_mark s.application x) least (h ∷ hs) s behind.between e.minute from c x behind.card may are comes behind.entered (record { at = refl; shut = shut; goes = goes }) in
    let low : end_mark behind.between.application y ≡ e.minute = subst (λ (a : Application). end_mark a y ≡ e.minute) (sym is) at in
    let old = late_of t behind.card e.minute k.knows k.later in
    app_of (λ a l. DaysFollowOverwriting a (and_entry slack e) covered (suc e.minute) (with_entry covered (with_hands covered c (h ∷ hs)) e) l) s.application t.application y is
    (⊎_elim (λ before. absurd (omega (arith, before.0, low, old, mark_told behind.between.application behind.card))) (λ after. after.1)
    (keep_leaves t.application k.sizes behind.card slack covered (from_behind from (h ∷ hs)) (with_hands covered c (h ∷ hs)) least was.goes t.registration odometer (grown t.odometer odometer) e y
    (asked_at t behind.card e.minute k.later k.knows) (low_behind (end_mark s.application x) covered from s.minute e.minute (h ∷ hs) are.lie comes) k.clear behind.keeping.card))

-- ---- the minute's own entry

pub record Tells (all : List Entry) (app : Application) (l : List ℕ) : Type 0 where
  pub shows : Shows all app l
  pub silent : IsSilentBehind (end_mark app l) (card_days app l)

pub tells_step : (all : List Entry) (s t : Session) (h : Manual) (x z : List ℕ) → MayFollow s h.minute x → IsCardByHand s t h x z → Tells all s.application x → Tells all s.application z
tells_step all s t h x z may done was =
    let now = ended s t h x z done in
    record {
      shows = shows_moment all s h x z may now was.shows;
      silent = silent_stays s h x z now (same_moment x s h x z now (same_first s.application x)).mark was.silent;
    }

pub first_entry : (s : Session) (hs : List Manual) (e : Entry) (odometer : ℕ) (x y : List ℕ) → MayFollow s e.minute x → AreHandsOf s e.minute hs → IsSilentBehind (end_mark s.application x) (card_days s.application x)
    → (all : List Entry) → AllUpTo (end_mark s.application x) all → ShowsEntries s.application all x → IsFirstKeeping s hs e odometer x y → end_mark s.application y ≡ e.minute → ShowsEntries s.application (all ++ e ∷ []) y
first_entry s hs e odometer x y may are silent all up shown (inl entering) at =
    let same = (entering_same hs s x y entering).mark in
    absurd (omega (arith, at, same, late_of s x e.minute may.knows may.later, mark_told s.application x))
first_entry s hs e odometer x y may are silent all up shown (inr behind) at =
    let there = along (Tells all) e.minute (tells_step all) hs s behind.between x behind.card may are behind.entered (record { shows = record { up = up; shown = shown }; silent = silent }) in
    let t = behind.between in
    let was = subst (λ (a : Application). Tells all a behind.card) (sym there.2) there.0 in
    let k = there.1 in
    app_of (λ a l. ShowsEntries a (all ++ e ∷ []) l) s.application t.application y there.2
    (keep_commits t.application k.sizes behind.card (days_there t behind.card k.knows) all was.shows.up was.shows.shown t.registration odometer (grown t.odometer odometer) e y
    (asked_at t behind.card e.minute k.later k.knows) k.clear (λ shut. was.silent) behind.keeping.card (subst (λ (a : Application). end_mark a y ≡ e.minute) (sym there.2) at))
