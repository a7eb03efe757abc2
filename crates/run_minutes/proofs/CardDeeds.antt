-- What calls do on a card, deed by deed: none, one after another, a keep, an insertion and a withdrawal.
use Rattle.std.proofs.Common.{◌≡◌, ◌≢◌, ◌∙◌, inl, inr, ℕ, suc, zero, ◌+◌, ◌/◌, ◌<◌, ◌≤◌, ◌^◌, Bool, true, List, [], ◌∷◌, ◌++◌, append_assoc, Option, Some, IfSome, length, refl, ap, sym, subst, arith}
use Rattle.std.specs.Prelude.{is_some, not, nat_eq}
use Rattle.std.proofs.Math.Dec.{eqb-suc-zero}
use Rattle.activity_codec.specs.declared.values.Activity.{Activity}
use Rattle.activity_codec.specs.declared.values.Activity.TheVariants.{Rest}
use Rattle.activity_codec.specs.declared.entries.Entry.{Entry}
use Rattle.activity_codec.specs.declared.entries.Manual.{Manual}
use Rattle.hand_model.specs.Holding.{of_day}
use Rattle.tach_media.specs.Medium.{State, IsCoherent}
use Rattle.tach_media.proofs.Runs.{at_image, told_too}
use Rattle.tacho_types.specs.declared.numbers.Odometer.{Odometer}
use Rattle.tacho_types.specs.declared.texts.Registration.{Registration}
use Rattle.tacho_types.specs.Numbers.{time_bytes}
use Rattle.tach_media.proofs.card_layout.Images.{put_outside}
use Rattle.tach_media.specs.card_layout.declared.files.Application.{Application}
use Rattle.tach_media.specs.card_layout.Application.{IsApplication}
use Rattle.tach_media.specs.card_layout.Files.{place_of, image_size_of}
use Rattle.run_events.specs.card_files.declared.current_use.CurrentUse.{CurrentUse}
use Rattle.hand_model.specs.card_image.Fields.{file, current_use, session_time}
use Rattle.card_session.specs.declared.session.Kept.{Kept}
use Rattle.card_session.specs.Books.{Book, mark_of, with_entry, closed}
use Rattle.card_session.specs.Sessions.{Session, IsSession, book_of}
use Rattle.card_session.specs.Moments.{IsBook}
use Rattle.card_session.specs.Cards.{IsCardClosed, ended, grown}
use Rattle.device_calls.specs.card_by_hand.First.{IsFirstKept}
use Rattle.card_session.specs.Inserting.{lacked, with_cut, with_owed, repaired, InsertsClosed, InsertsOpen, IsCardInserted}
use Rattle.card_session.proofs.Composing.{told_book}
use Rattle.card_session.proofs.InsertingCards.{noted_same, use_same}
use Rattle.card_session.proofs.InsertingUse.{use_inside}
use Rattle.card_session.proofs.InsertingOpen.{opening_same, reopening_same}
use Rattle.card_session.proofs.InsertingAgain.{noted_keeps}
use Rattle.card_session.proofs.Stopping.{ended_same}
use Rattle.device_calls.specs.card_string.Deeds.{Deed, Keep, Close, after}
use Rattle.device_calls.proofs.card_string.SameBook.{same_book}
use Rattle.run_minutes.specs.CardDeeds.{made_by, is_open_in, ShowsBook, DoesOn, enters, keeps, holds_after, last_odometer, owed_keeps, opens, begun_use, ended_use, OpensOn, ClosesOn}
use Rattle.run_devices.proofs.CardUse.{opened-use, ended-use}
use Rattle.run_minutes.proofs.FirstEnds.{first-book}

-- ---- deeds

pub made-append : (size : ℕ) (ds es : List Deed) (b : Book) → made_by size (ds ++ es) b ≡ made_by size es (made_by size ds b)
made-append size [] es b = refl
made-append size (d ∷ ds) es b = made-append size ds es (after size d b)

pub does-none : (app : Application) (X : State) → DoesOn app [] X X
does-none app X b held shows = shows

pub does-then : (app : Application) (ds es : List Deed) (X Y Z : State) → DoesOn app ds X Y → DoesOn app es Y Z → DoesOn app (ds ++ es) X Z
does-then app ds es X Y Z first next b held shows =
    subst (λ (k : Book). ShowsBook app k held Z) (sym (made-append app.activity ds es b)) (next (made_by app.activity ds b) held (first b held shows))

-- ---- keeps

abbrev one_keep : Registration → Option Odometer → Kept → Deed
one_keep vehicle before k = Keep (record { entry = k.entry; registration = vehicle; odometer = k.odometer.0; km = grown before k.odometer.0 })

-- behind keeps none is held that was not before
holds-none : (ks : List Kept) → holds_after [] ks ≡ []
holds-none [] = refl
holds-none (k ∷ ks) = refl

pub holds-append : (holds : List Manual) (ks ls : List Kept) → holds_after holds (ks ++ ls) ≡ holds_after (holds_after holds ks) ls
holds-append holds [] ls = refl
holds-append holds (k ∷ ks) ls = sym (holds-none ls)

pub keeps-append : (vehicle : Registration) (before : Option Odometer) (holds : List Manual) (ks ls : List Kept)
    → keeps vehicle before holds (ks ++ ls) ≡ keeps vehicle before holds ks ++ keeps vehicle (last_odometer before ks) (holds_after holds ks) ls
keeps-append vehicle before holds [] ls = refl
keeps-append vehicle before holds (k ∷ ks) ls =
    let hs : List Deed = enters (of_day (k.entry.minute / 1440) holds) in
    let first : List Deed = keeps vehicle (Some k.odometer) [] ks in
    let last : Option Odometer = last_odometer (Some k.odometer) ks in
    ap (λ (ds : List Deed). hs ++ one_keep vehicle before k ∷ ds) (keeps-append vehicle (Some k.odometer) [] ks ls ∙ ap (λ (h : List Manual). first ++ keeps vehicle last h ls) (holds-none ks))
    ∙ sym (append_assoc hs (one_keep vehicle before k ∷ first) (keeps vehicle last [] ls))

pub last-append : (before : Option Odometer) (ks ls : List Kept) → last_odometer before (ks ++ ls) ≡ last_odometer (last_odometer before ks) ls
last-append before [] ls = refl
last-append before (k ∷ ks) ls = last-append (Some k.odometer) ks ls

-- a keep of a card in its slot, with these entries by hand before it, which did not fail
pub does-keep : (s t : Session) (hands : List Manual) (e : Entry) (odometer : ℕ) (X Y : State) → IsCoherent X → IsCoherent Y → Y.works ≡ true → is_some Y.image ≡ is_some X.image → IfSome X.image (IsSession s)
    → IfSome X.image (λ x. IfSome Y.image (λ y. IsSession s x → IsFirstKept s t hands e odometer x y))
    → DoesOn s.application (enters hands ++ Keep (record { entry = e; registration = s.registration; odometer = odometer; km = grown s.odometer odometer }) ∷ []) X Y
does-keep s t hands e odometer X Y whole after works tells session kept b held shows y left =
    let size : ℕ = s.application.activity in
    let keep : Deed = Keep (record { entry = e; registration = s.registration; odometer = odometer; km = grown s.odometer odometer }) in
    let told : Y.image ≡ Some y = after.only y works left in
    let was = told_too Y.image X.image y tells told in
    let k : IsFirstKept s t hands e odometer was.0 y = at_image (λ (y : List ℕ). IsSession s was.0 → IsFirstKept s t hands e odometer was.0 y) told
    (at_image (λ (x : List ℕ). IfSome Y.image (λ y. IsSession s x → IsFirstKept s t hands e odometer x y)) was.1 kept) (at_image (IsSession s) was.1 session) in
    let here = shows was.0 (whole.is_left was.0 was.1) in
    let made = first-book s t hands e odometer was.0 y k in (
      made.0 ∙ ap (λ (c : Book). with_entry size s.registration odometer (grown s.odometer odometer) (made_by size (enters hands) c) e) here.0 ∙ sym (made-append size (enters hands) (keep ∷ []) b),
      made.1 ∙ here.1,
    )

-- ---- a session is opened

-- a session time that is not 0
used-some : (n : ℕ) → n ≢ 0 → not (nat_eq n 0) ≡ true
used-some zero some = absurd (some refl)
used-some (suc n) some = ap not (eqb-suc-zero n)

owed-made : (size : ℕ) (vehicle : Registration) (odometer : ℕ) (es : List Entry) (b : Book) → made_by size (owed_keeps vehicle odometer es) b ≡ with_owed size vehicle odometer es b
owed-made size vehicle odometer [] b = refl
owed-made size vehicle odometer (e ∷ es) b = owed-made size vehicle odometer es (with_entry size vehicle odometer 0 b e)

repair-made : (size : ℕ) (vehicle : Registration) (odometer : ℕ) (owed : List Entry) (b : Book) → closed size Rest (repaired size vehicle odometer owed b) ≡ made_by size (opens true vehicle odometer (lacked (mark_of b) owed)) b
repair-made size vehicle odometer owed b =
    let cut : Book = with_cut (mark_of b) b in
    let es : List Entry = lacked (mark_of b) owed in
    ap (closed size Rest) (sym (owed-made size vehicle odometer es cut)) ∙ sym (made-append size (owed_keeps vehicle odometer es) (Close Rest ∷ []) cut)

module _ (app : Application) (sound : IsApplication app) (vehicle : Registration) (long : length vehicle.0 ≡ 15) (now : ℕ) (some : now ≢ 0) (few : now < 2 ^ 32) (odometer : ℕ) (owed : List Entry) (x : List ℕ) (fits : image_size_of app ≤ length x) (y : List ℕ) where
  closed-book : InsertsClosed app vehicle now x y → book_of app y ≡ closed app.activity Rest (book_of app x)
  closed-book (x1, still, (x2, shut, opened)) =
      let room : place_of app (file 0x0507) + 19 ≤ length x2 = omega (arith, use_inside app, fits, still.outside.same_length, shut.outside.same_length) in
      let side = opening_same app vehicle now long x2 y room (inr (inr opened)) in
      same_book app sound x2 y shut.points side.0 side.1 ∙ told_book app (closed app.activity Rest (book_of app x1)) x1 x2 shut ∙ ap (closed app.activity Rest) (told_book app (book_of app x) x x1 still)

  open-book : InsertsOpen app vehicle odometer owed now x y → book_of app y ≡ closed app.activity Rest (repaired app.activity vehicle odometer owed (book_of app x))
  open-book (x1, still, (x2, mended, (x3, noted, (x4, shut, (x5, ended_, opened))))) =
      let two : image_size_of app ≤ length x2 = omega (arith, fits, still.outside.same_length, mended.outside.same_length) in
      let room : place_of app (file 0x0507) + 19 ≤ length x4 = omega (arith, use_inside app, two, (noted_keeps app now x2 x3 (omega (arith, use_inside app, two)) noted).1, shut.outside.same_length) in
      let side = reopening_same app vehicle now long x4 y room (inr (x5, ended_, inr (inr opened))) in
      let beside = noted_same app now x2 x3 noted in
      same_book app sound x4 y shut.points side.0 side.1
      ∙ told_book app (closed app.activity Rest (book_of app x3)) x3 x4 shut
      ∙ ap (closed app.activity Rest) (same_book app sound x2 x3 mended.points beside.0 beside.1
      ∙ told_book app (repaired app.activity vehicle odometer owed (book_of app x1)) x1 x2 mended
      ∙ ap (repaired app.activity vehicle odometer owed) (told_book app (book_of app x) x x1 still))

  -- what an insertion makes of a card
  pub inserted-book : IsCardInserted app vehicle odometer owed now x y → book_of app y ≡ made_by app.activity (opens (is_open_in (current_use app x)) vehicle odometer (lacked (mark_of (book_of app x)) owed)) (book_of app x)
  inserted-book (inl shut) =
      closed-book shut.1 ∙ ap (λ (n : ℕ). made_by app.activity (opens (not (nat_eq n 0)) vehicle odometer (lacked (mark_of (book_of app x)) owed)) (book_of app x)) (sym shut.0)
  inserted-book (inr left) =
      open-book left.1 ∙ repair-made app.activity vehicle odometer owed (book_of app x)
      ∙ ap (λ (u : Bool). made_by app.activity (opens u vehicle odometer (lacked (mark_of (book_of app x)) owed)) (book_of app x)) (sym (used-some (session_time app x) left.0))

  -- its session is open then
  closed-use : InsertsClosed app vehicle now x y → current_use app y ≡ begun_use vehicle now
  closed-use (x1, still, (x2, shut, opened)) =
      opened-use app vehicle now long few x2 (omega (arith, use_inside app, fits, still.outside.same_length, shut.outside.same_length)) y opened

  open-use : InsertsOpen app vehicle odometer owed now x y → current_use app y ≡ begun_use vehicle now
  open-use (x1, still, (x2, mended, (x3, noted, (x4, shut, (x5, ended_, opened))))) =
      let two : image_size_of app ≤ length x2 = omega (arith, fits, still.outside.same_length, mended.outside.same_length) in
      let room : place_of app (file 0x0507) + 19 ≤ length x4 = omega (arith, use_inside app, two, (noted_keeps app now x2 x3 (omega (arith, use_inside app, two)) noted).1, shut.outside.same_length) in
      let same = (put_outside (place_of app (file 0x0507)) (time_bytes (record { 0 = 0 })) x4 (omega (arith, room))).same_length in
      opened-use app vehicle now long few x5 (omega (arith, room, same, ap (λ (l : List ℕ). length l) ended_)) y opened

  pub inserted-use : IsCardInserted app vehicle odometer owed now x y → current_use app y ≡ begun_use vehicle now
  inserted-use (inl shut) = closed-use shut.1
  inserted-use (inr left) = open-use left.1

-- of a card that works then
pub does-insert : (app : Application) → IsApplication app → (vehicle : Registration) → length vehicle.0 ≡ 15 → (now : ℕ) → now ≢ 0 → now < 2 ^ 32 → (odometer : ℕ) (owed : List Entry) (X Y : State) → IsCoherent X → IsCoherent Y → Y.works ≡ true → is_some Y.image ≡ is_some X.image
    → image_size_of app ≤ X.size → IfSome X.image (λ x. IfSome Y.image (IsCardInserted app vehicle odometer owed now x)) → OpensOn app vehicle now odometer owed X Y
does-insert app sound vehicle long now some few odometer owed X Y whole after works tells size inserted b held shows y left =
    let told : Y.image ≡ Some y = after.only y works left in
    let was = told_too Y.image X.image y tells told in
    let x : List ℕ = was.0 in
    let done : IsCardInserted app vehicle odometer owed now x y = at_image (IsCardInserted app vehicle odometer owed now x) told (at_image (λ (z : List ℕ). IfSome Y.image (IsCardInserted app vehicle odometer owed now z)) was.1 inserted) in
    let here = shows x (whole.is_left x was.1) in
    let fits : image_size_of app ≤ length x = omega (arith, size, whole.sized x was.1) in (
      inserted-book app sound vehicle long now some few odometer owed x fits y done
          ∙ ap (λ (u : CurrentUse). made_by app.activity (opens (is_open_in u) vehicle odometer (lacked (mark_of (book_of app x)) owed)) (book_of app x)) here.1
          ∙ ap (λ (c : Book). made_by app.activity (opens (is_open_in held) vehicle odometer (lacked (mark_of c) owed)) c) here.0,
      inserted-use app sound vehicle long now some few odometer owed x fits y done,
    )

-- ---- a session is closed

module _ (s : Session) (act : Activity) (sound : IsApplication s.application) (x y : List ℕ) (fits : image_size_of s.application ≤ length x) (done : IsCardClosed s act x y) where
  shut-book : book_of s.application y ≡ closed s.application.activity act (book_of s.application x)
  shut-book =
      let k : List ℕ = done.before in
      let side = ended_same s.application sound k (omega (arith, fits, done.card.outside.same_length)) done.card.points in
      ap (book_of s.application) done.session ∙ same_book s.application sound k (ended s.application k) done.card.points side.0 side.1
      ∙ told_book s.application (closed s.application.activity act (book_of s.application x)) x k done.card

  shut-use : current_use s.application y ≡ ended_use (current_use s.application x)
  shut-use =
      let k : List ℕ = done.before in
      ap (λ (l : List ℕ). current_use s.application l) done.session
      ∙ ended-use s.application k (omega (arith, use_inside s.application, fits, done.card.outside.same_length))
      ∙ ap ended_use (use_same s.application (IsBook (closed s.application.activity act (book_of s.application x))) x k done.card)

pub does-close : (s : Session) (act : Activity) (X Y : State) → IsApplication s.application → IsCoherent X → image_size_of s.application ≤ X.size → IfSome X.image (IsSession s)
    → ((y : List ℕ) → Y.may_leave y → (x : List ℕ) × (X.image ≡ Some x) × (IsSession s x → IsCardClosed s act x y)) → ClosesOn s.application act X Y
does-close s act X Y sound whole size session shut b held shows y left =
    let was = shut y left in
    let x : List ℕ = was.0 in
    let done : IsCardClosed s act x y = was.2 (at_image (IsSession s) was.1 session) in
    let here = shows x (whole.is_left x was.1) in
    let fits : image_size_of s.application ≤ length x = omega (arith, size, whole.sized x was.1) in (
      shut-book s act sound x y fits done ∙ ap (closed s.application.activity act) here.0,
      shut-use s act sound x y fits done ∙ ap ended_use here.1,
    )

-- a call that did not fail leaves that image alone
pub closed-alone : (s : Session) (act : Activity) (X Y : State) → IsCoherent Y → Y.works ≡ true → is_some Y.image ≡ is_some X.image → IfSome X.image (λ x. IfSome Y.image (λ y. IsSession s x → IsCardClosed s act x y))
    → (y : List ℕ) → Y.may_leave y → (x : List ℕ) × (X.image ≡ Some x) × (IsSession s x → IsCardClosed s act x y)
closed-alone s act X Y after works tells shut y left =
    let told : Y.image ≡ Some y = after.only y works left in
    let was = told_too Y.image X.image y tells told in
    (was.0, was.1, at_image (λ (y : List ℕ). IsSession s was.0 → IsCardClosed s act was.0 y) told (at_image (λ (x : List ℕ). IfSome Y.image (λ y. IsSession s x → IsCardClosed s act x y)) was.1 shut))
