-- What is known of a card between two calls of its session.
use Rattle.std.proofs.Common.{◌≡◌, ◌≢◌, inl, inr, ⊎_elim, ℕ, suc, ◌<◌, ◌≤◌, max, Bool, true, false, cond, List, [], ◌∷◌, ◌++◌, length, refl, sym, ◌∙◌, ap, subst, arith}
use Rattle.std.specs.Prelude.{nat_eq}
use Rattle.activity_codec.specs.declared.entries.Entry.{Entry}
use Rattle.tacho_types.specs.declared.texts.Registration.{Registration}
use Rattle.card_layout.specs.declared.files.Application.{Application}
use Rattle.card_layout.specs.Application.{IsApplication, application_of}
use Rattle.card_layout.specs.Files.{image_size_of, files_of}
use Rattle.card_model.specs.Days.{AreDays}
use Rattle.card_model.specs.Changes.{trimmed}
use Rattle.card_retention.specs.Entries.{newest_word}
use Rattle.card_retention.specs.Shown.{is_open}
use Rattle.card_image.specs.Beside.{HaveSameSizes}
use Rattle.card_image.specs.Fields.{card_days, end_mark, session_time}
use Rattle.card_image.specs.Judging.{IsValid}
use Rattle.card_image.specs.Own.{own_sizes, own_bad_file, IsOwnValid}
use Rattle.card_image.specs.View.{card_view}
use Rattle.card_session.specs.Books.{with_entry}
use Rattle.card_session.specs.Sessions.{Session, IsSession, newest_in, book_of}
use Rattle.card_session.specs.Cards.{IsCardKept, IsCardKeeping, MayEnd, grown}
use Rattle.card_session.specs.Inserting.{AreOwed, Follow, IsCardInserted}
use Rattle.card_session.specs.Repairs.{mark_behind, newest_behind, lacked_by}
use Rattle.card_session.proofs.Ends.{closed_end, open_end, inserted_moment}
use Rattle.card_session.proofs.Ended.{keep_ends, open_ends, none_ends}
use Rattle.card_session.proofs.InsertingAgain.{inserting_keeps}
use Rattle.card_session.proofs.InsertingBooks.{lacked_follow}
use Rattle.card_session.proofs.InsertingSession.{open_begun, closed_begun}
use Rattle.card_session.proofs.InsertingUse.{use_inside}
use Rattle.card_session.proofs.Marks.{sizes_still, session_same}
use Rattle.card_session.proofs.NewestStays.{view_newest, view_word}
use Rattle.card_session.proofs.Preparing.{used_at}
use Rattle.card_session.proofs.Renewing.{keep_word, closed_answered}
use Rattle.card_session.proofs.Revalid.{again_valid}
use Rattle.card_session.proofs.Stopping.{asked_at, days_there, mark_at}
use Rattle.card_session.proofs.Unclosed.{none_valid}
use Rattle.card_session.proofs.Valid.{above_zero, keep_valid}
use Rattle.hand_model.specs.Written.{no_hands}
use Rattle.card_by_hand.specs.First.{IsFirstKeeping}
use Rattle.card_string.specs.Since.{IsReadySince, SitsSince, HoldsSince}
use Rattle.card_string.proofs.OfCards.{open_sits, shut_sits, card_kept}
use Rattle.card_string.proofs.Replayed.{mark_least}
use Rattle.card_string.proofs.Small.{card_small, trimmed_small, last_of_small}
use Rattle.card_string.proofs.Start.{starts_open, starts_shut}
use Rattle.device_calls.proofs.Passed.{valid-days}
use Rattle.safety_laws.specs.Whole.{IsInsertable, MayBegin, brought_in, IsSitting, inserted, kept}

-- ---- small things

pub sizes-told : (app : Application) (x y : List ℕ) → HaveSameSizes app x y → own_sizes y ≡ own_sizes x
unfolding own_sizes files_of
sizes-told app x y same = ap application_of same

pub valid-told : (x : List ℕ) → IsOwnValid x → IsValid (own_sizes x) x
unfolding own_bad_file
valid-told x valid = valid

pub own-valid : (app : Application) (x : List ℕ) → own_sizes x ≡ app → IsValid app x → IsOwnValid x
unfolding own_bad_file
own-valid app x same valid = subst (λ (a : Application). IsValid a x) (sym same) valid

in_told : (a : Application) (y : List ℕ) → newest_in (book_of a y) ≡ max (end_mark a y) (newest_word (card_days a y))
unfolding book_of
in_told a y = refl

-- the newest minute that a session knows
pub minute-is : (app : Application) (y : List ℕ) (t : Session) → t.application ≡ app → IsSession t y → t.minute ≡ max (end_mark app y) (newest_word (card_days app y))
minute-is app y t same knows = knows.minute ∙ in_told t.application y ∙ ap (λ (a : Application). max (end_mark a y) (newest_word (card_days a y))) same

-- the newest minute of a card is not earlier than its end mark
pub mark-first : (app : Application) (x : List ℕ) → end_mark app x ≤ (card_view app x).newest
mark-first app x = let is = view_newest app x in let low = by (is_open (end_mark app x) (trimmed (end_mark app x) (card_days app x))) (end_mark app x) (newest_word (trimmed (end_mark app x) (card_days app x))) in omega (arith, is, low)
  where
    by : (b : Bool) (m w : ℕ) → m ≤ cond b (suc m) (max m w)
    by true m w = omega arith
    by false m w = omega arith

-- nor that behind some entries that are later
follow_mark : (mark : ℕ) (es : List Entry) → Follow mark es → mark ≤ mark_behind mark es
follow_mark mark [] follow = omega arith
follow_mark mark (e ∷ es) follow = let more = follow_mark e.minute es follow.1 in let first = follow.0 in omega (arith, more, first)

pub mark-behind : (app : Application) (x : List ℕ) (es : List Entry) → Follow (end_mark app x) es → end_mark app x ≤ newest_behind (card_view app x).newest es
mark-behind app x es follow =
    let a = follow_mark (end_mark app x) es follow in let b = mark_least (end_mark app x) (card_view app x).newest es (mark-first app x) in
    omega (arith, a, b)

pub above : (n : ℕ) → n ≢ 0 → 0 < n
above n apart = omega (arith, apart)

pub brought-open : (image : List ℕ) (owed : List Entry) → session_time (own_sizes image) image ≢ 0 → brought_in image owed ≡ lacked_by (own_sizes image) image owed
brought-open image owed some =
    ap (λ (b : Bool). cond b [] (lacked_by (own_sizes image) image owed)) (above_zero (session_time (own_sizes image) image) (above (session_time (own_sizes image) image) some))

pub brought-shut : (image : List ℕ) (owed : List Entry) → session_time (own_sizes image) image ≡ 0 → brought_in image owed ≡ []
brought-shut image owed none = ap (λ (n : ℕ). cond (nat_eq n 0) [] (lacked_by (own_sizes image) image owed)) none

-- ---- BETWEEN TWO CALLS

pub record Sits (app : Application) (image : List ℕ) (brought : List Entry) (s : Session) (x : List ℕ) : Type 0 where
  pub sizes : own_sizes x ≡ app
  pub long : length x ≡ length image
  pub fits : image_size_of app ≤ length x
  pub session : 0 < session_time app x
  pub valid : IsValid app x
  pub may_end : MayEnd app x
  pub goes : SitsSince app image no_hands brought (suc s.minute) x
  pub knows : IsSession s x
  pub same : s.application ≡ app

-- a keep without an entry by hand
pub none-ready : (s : Session) (image : List ℕ) (brought : List Entry) (e : Entry) (x : List ℕ) → IsApplication s.application → IsSession s x → 0 < session_time s.application x → s.minute < e.minute → SitsSince s.application image no_hands brought (suc s.minute) x
    → IsReadySince s image no_hands brought (suc s.minute) [] e x
none-ready s image brought e x sound knows session late sits = record {
  sizes = sound;
  knows = knows;
  session = session;
  later = late;
  before = inl (omega (arith, late));
  sits = sits;
  are = record { lie = late; day = tt };
  few = omega arith;
  shut = λ some. absurd (omega (arith, some));
}

pub as-first : (s : Session) (e : Entry) (odometer : ℕ) (x y : List ℕ) → IsCardKeeping s e odometer x y → IsFirstKeeping s [] e odometer x y
as-first s e odometer x y keeping = inr (record { between = s; card = x; entered = (refl, refl); keeping = keeping })

-- a keep
module _ (s : Session) (sound : IsApplication s.application) (image : List ℕ) (brought : List Entry) (x : List ℕ) (sits : Sits s.application image brought s x) (e : Entry) (odometer : ℕ) (late : s.minute < e.minute) where
  pub kept-sits : (t : Session) (y : List ℕ) → IsCardKept s t e odometer x y → t.application ≡ s.application → Sits s.application image (brought ++ e ∷ []) t y
  kept-sits t y now same = record {
    sizes = sizes-told s.application x y (sizes_still s.application _ x y moment.card) ∙ sits.sizes;
    long = omega (arith, now.card.outside.same_length, sits.long);
    fits = omega (arith, sits.fits, now.card.outside.same_length);
    session = omega (arith, session_same s.application _ x y moment.card, sits.session);
    valid = keep_valid s.application sound x sits.fits sits.valid sits.session (days_there s x sits.knows) s.registration odometer (grown s.odometer odometer) e y (asked_at s x e.minute late sits.knows) moment.card;
    may_end = keep_ends s.application sound x sits.fits sits.valid (above_zero (session_time s.application x) sits.session) (days_there s x sits.knows) s.registration odometer (grown s.odometer odometer) e y (asked_at s x e.minute late sits.knows) moment.card at;
    goes = subst (λ (m : ℕ). SitsSince s.application image no_hands (brought ++ e ∷ []) (suc m) y) (sym minute)
        (card_kept s image no_hands brought (suc s.minute) [] e odometer x y (none-ready s image brought e x sound sits.knows sits.session late sits.goes) (as-first s e odometer x y moment) at);
    knows = now.knows;
    same = same;
  }
    where
      moment : IsCardKeeping s e odometer x y
      moment = record { card = record { outside = now.card.outside; holds = now.card.holds; points = now.card.points; told = inr (now.card.told.0, inr now.card.told.1) } }

      at : end_mark s.application y ≡ e.minute
      at = mark_at s.application (with_entry s.application.activity s.registration odometer (grown s.odometer odometer) (book_of s.application x) e) y now.card.told.1
          ∙ used_at s.registration odometer e.minute (book_of s.application x).vehicles

      minute : t.minute ≡ e.minute
      minute =
          let low = keep_word s.application x s.registration odometer (grown s.odometer odometer) e y moment.card sound (days_there s x sits.knows) (asked_at s x e.minute late sits.knows) at in
          omega (arith, minute-is s.application y t same now.knows, at, low, view_word s.application y)

-- ---- THE START

module _ (image : List ℕ) (ready : IsInsertable image) where
  abbrev pub app : Application
  app = own_sizes image

  pub own : IsValid app image
  own = valid-told image ready.valid

  pub are : AreDays 0 (card_days app image)
  are = valid-days app ready.sizes image ready.fits own

  -- a session was left open
  pub holds-open : (owed : List Entry) (now : ℕ) → AreOwed now owed → session_time app image ≢ 0 → HoldsSince app image no_hands (lacked_by app image owed) (suc (end_mark app image)) image
  holds-open owed now owes some =
      starts_open image (lacked_by app image owed) (suc (end_mark app image)) (lacked_follow 1439 (end_mark app image) owed owes.0) are (omega arith) (above (session_time app image) some)
      (last_of_small (trimmed (end_mark app image) (card_days app image)) (trimmed_small (end_mark app image) (card_days app image) (card_small app image ready.bytes)))

  abbrev pub shut_bound : ℕ
  shut_bound = suc (max (end_mark app image) (newest_word (card_days app image)))

  pub holds-shut : session_time app image ≡ 0 → HoldsSince app image no_hands [] shut_bound image
  holds-shut none = starts_shut image [] shut_bound tt are own none (omega arith) (last_of_small (card_days app image) (card_small app image ready.bytes))

  module _ (registration : Registration) (odometer now : ℕ) (owed : List Entry) (may : MayBegin registration now owed) (s : Session) (x : List ℕ) (done : IsCardInserted app registration odometer owed now image x)
      (same : s.application ≡ app) (knows : IsSession s x) where
    follow : Follow (end_mark app image) (lacked_by app image owed)
    follow = lacked_follow 1439 (end_mark app image) owed may.are.0

    pub inserted-sits : Sits app image (brought_in image owed) s x
    inserted-sits = ⊎_elim
        (λ none. record {
          sizes = sizes-told app image x (inserting_keeps app registration odometer now owed may.long image x (omega (arith, use_inside app, ready.fits)) (inserted_moment app registration odometer now owed image x done)).0;
          long = (inserting_keeps app registration odometer now owed may.long image x (omega (arith, use_inside app, ready.fits)) (inserted_moment app registration odometer now owed image x done)).1;
          fits = omega (arith, ready.fits, (inserting_keeps app registration odometer now owed may.long image x (omega (arith, use_inside app, ready.fits)) (inserted_moment app registration odometer now owed image x done)).1);
          session = omega (arith, may.some, closed_begun app image ready.fits registration may.long now may.few odometer owed x none.1);
          valid = none_valid app ready.sizes image ready.fits registration may.long odometer now owed own none.0 x (closed_end app registration odometer now owed image x none.1);
          may_end = none_ends app ready.sizes image ready.fits registration may.long odometer now owed own none.0 x none.1;
          goes = subst (λ (l : List Entry). SitsSince app image no_hands l (suc s.minute) x) (sym (brought-shut image owed none.0))
              (shut_sits app registration now image no_hands [] shut_bound image ready.sizes ready.fits may.long own none.0 tt (holds-shut none.0) x s none.1 same knows
              (omega (arith, knows.minute, ap (λ (a : Application). newest_in (book_of a x)) same, closed_answered app ready.sizes image ready.fits registration may.long now own none.0 x none.1, mark-first app image, view_word app image)));
          knows = knows;
          same = same;
        })
        (λ some. record {
          sizes = sizes-told app image x (inserting_keeps app registration odometer now owed may.long image x (omega (arith, use_inside app, ready.fits)) (inserted_moment app registration odometer now owed image x done)).0;
          long = (inserting_keeps app registration odometer now owed may.long image x (omega (arith, use_inside app, ready.fits)) (inserted_moment app registration odometer now owed image x done)).1;
          fits = omega (arith, ready.fits, (inserting_keeps app registration odometer now owed may.long image x (omega (arith, use_inside app, ready.fits)) (inserted_moment app registration odometer now owed image x done)).1);
          session = omega (arith, may.some, open_begun app image ready.fits registration may.long now may.few odometer owed x some.1);
          valid = again_valid app ready.sizes image ready.fits registration may.long odometer now owed may.are.0 own (above_zero (session_time app image) (above (session_time app image) some.0)) x some.0
              (open_end app registration odometer now owed image x some.1);
          may_end = open_ends app ready.sizes image ready.fits registration may.long odometer now owed own may.are (above_zero (session_time app image) (above (session_time app image) some.0)) some.0 x some.1;
          goes = subst (λ (l : List Entry). SitsSince app image no_hands l (suc s.minute) x) (sym (brought-open image owed some.0))
              (open_sits app registration odometer now owed image no_hands [] (suc (end_mark app image)) image ready.sizes ready.fits may.long may.are own (above (session_time app image) some.0) tt (holds-open owed now may.are some.0)
              (let low = mark-behind app image (lacked_by app image owed) follow in omega (arith, low)) x s some.1 same knows).0;
          knows = knows;
          same = same;
        }) done

-- ---- EACH SESSION SO FAR

pub sits-of : (image : List ℕ) → IsInsertable image → {brought : List Entry} {s : Session} {x : List ℕ} → IsSitting image brought s x → Sits (own_sizes image) image brought s x
sits-of image ready (inserted registration odometer now owed s x may done same knows) = inserted-sits image ready registration odometer now owed may s x done same knows
sits-of image ready (kept brought s t e odometer x y before late done same) =
    let so = sits-of image ready before in
    let here : Sits s.application image brought s x = subst (λ (a : Application). Sits a image brought s x) (sym so.same) so in
    let sound : IsApplication s.application = subst (λ (a : Application). IsApplication a) (sym so.same) ready.sizes in
    subst (λ (a : Application). Sits a image (brought ++ e ∷ []) t y) so.same (kept-sits s sound image brought x here e odometer late t y done same)
