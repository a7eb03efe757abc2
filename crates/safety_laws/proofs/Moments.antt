-- What an image shows that a stop may leave in a session.
use Rattle.std.proofs.Common.{◌≡◌, inl, inr, ⊎_elim, ℕ, suc, ◌<◌, ◌≤◌, max, List, [], ◌∷◌, ◌++◌, length, All, refl, sym, ◌∙◌, ap, subst, arith}
use Rattle.std.proofs.lemmas.List.{append-nil}
use Rattle.activity_codec.specs.declared.entries.Entry.{Entry}
use Rattle.activity_codec.specs.declared.values.Activity.{Activity}
use Rattle.tacho_types.specs.declared.texts.Registration.{Registration}
use Rattle.card_layout.specs.declared.files.Application.{Application}
use Rattle.card_layout.specs.Application.{IsApplication}
use Rattle.card_layout.specs.Files.{image_size_of}
use Rattle.card_retention.specs.Entries.{newest_minute}
use Rattle.card_retention.specs.Shown.{AllUpTo}
use Rattle.card_image.specs.Fields.{card_days, end_mark, session_time}
use Rattle.card_image.specs.Judging.{IsValid}
use Rattle.card_image.specs.Own.{own_sizes}
use Rattle.card_image.specs.View.{card_view}
use Rattle.card_session.specs.Sessions.{Session}
use Rattle.card_session.specs.Cards.{IsCardKeeping, IsCardClosing, ended, grown}
use Rattle.card_session.specs.Inserting.{IsCardInserting}
use Rattle.card_session.specs.Repairs.{newest_behind, lacked_by}
use Rattle.card_session.proofs.Ended.{closed_ends}
use Rattle.card_session.proofs.InsertingAgain.{ended_keeps, inserting_keeps}
use Rattle.card_session.proofs.InsertingUse.{use_inside}
use Rattle.card_session.proofs.Marks.{sizes_still}
use Rattle.card_session.proofs.Revalid.{again_valid}
use Rattle.card_session.proofs.Stopping.{asked_at, days_there}
use Rattle.card_session.proofs.Unclosed.{none_valid}
use Rattle.card_session.proofs.Valid.{above_zero, keep_valid, close_valid}
use Rattle.hand_model.specs.Written.{no_hands, entries_of}
use Rattle.card_string.specs.Since.{HoldsSince}
use Rattle.card_string.proofs.Kept.{holds_kept}
use Rattle.card_string.proofs.OfCards.{open_holds, shut_inserting, card_keep_holds, card_close_holds}
use Rattle.card_string.proofs.Since.{holds_up}
use Rattle.safety_laws.specs.Whole.{IsInsertable, MayBegin, brought_in, IsSitting, IsMoment, inserting, keeping, closing, IsShown}
use Rattle.safety_laws.proofs.Sitting.{sizes-told, own-valid, above, brought-open, brought-shut, Sits, none-ready, as-first, own, holds-open, shut_bound, holds-shut, sits-of}

-- a card that holds its string
pub record Stays (app : Application) (image : List ℕ) (brought : List Entry) (x : List ℕ) : Type 0 where
  pub sizes : own_sizes x ≡ app
  pub long : length x ≡ length image
  pub valid : IsValid app x
  pub next : ℕ
  pub holds : HoldsSince app image no_hands brought next x

pub shown : (image : List ℕ) → IsInsertable image → (brought : List Entry) (x : List ℕ) → Stays (own_sizes image) image brought x → IsShown image brought x
shown image ready brought x so = record {
  sizes = so.sizes;
  long = so.long;
  valid = own-valid (own_sizes image) x so.sizes so.valid;
  keeps = holds_kept (own_sizes image) ready.sizes image x refl so.sizes no_hands brought so.next so.holds;
  first = entries_of so.holds.written;
  rest = so.holds.rest;
  split = so.holds.split;
  there = holds_up (own_sizes image) image no_hands brought so.next x so.holds;
  lacked = so.holds.behind;
}

-- ---- a keep and a withdrawal

module _ (s : Session) (sound : IsApplication s.application) (image : List ℕ) (brought : List Entry) (x : List ℕ) (sits : Sits s.application image brought s x) where
  keep_stays : (e : Entry) (odometer : ℕ) (y : List ℕ) → s.minute < e.minute → IsCardKeeping s e odometer x y → Stays s.application image (brought ++ e ∷ []) y
  keep_stays e odometer y late moment = record {
    sizes = sizes-told s.application x y (sizes_still s.application _ x y moment.card) ∙ sits.sizes;
    long = omega (arith, moment.card.outside.same_length, sits.long);
    valid = keep_valid s.application sound x sits.fits sits.valid sits.session (days_there s x sits.knows) s.registration odometer (grown s.odometer odometer) e y (asked_at s x e.minute late sits.knows) moment.card;
    next = suc e.minute;
    holds = card_keep_holds s image no_hands brought (suc s.minute) [] e odometer x y (none-ready s image brought e x sound sits.knows sits.session late sits.goes) (as-first s e odometer x y moment) [] (suc e.minute) tt (omega arith);
  }

  closing_sizes : (act : Activity) (y : List ℕ) → IsCardClosing s act x y → own_sizes y ≡ own_sizes x
  closing_sizes act y (inl card) = sizes-told s.application x y (sizes_still s.application _ x y card)
  closing_sizes act y (inr done) =
      ap (λ (c : List ℕ). own_sizes c) done.session
      ∙ sizes-told s.application done.before (ended s.application done.before) (ended_keeps s.application done.before (ended s.application done.before) (omega (arith, sits.fits, use_inside s.application, done.card.outside.same_length)) refl).0
      ∙ sizes-told s.application x done.before (sizes_still s.application _ x done.before done.card)

  closing_long : (act : Activity) (y : List ℕ) → IsCardClosing s act x y → length y ≡ length image
  closing_long act y (inl card) = omega (arith, card.outside.same_length, sits.long)
  closing_long act y (inr done) =
      let last = ap (λ (c : List ℕ). length c) done.session in
      let kept = (ended_keeps s.application done.before (ended s.application done.before) (omega (arith, sits.fits, use_inside s.application, done.card.outside.same_length)) refl).1 in
      omega (arith, last, kept, done.card.outside.same_length, sits.long)

  close_valid_at : (act : Activity) (y : List ℕ) → IsCardClosing s act x y → IsValid s.application y
  close_valid_at act y (inl card) = close_valid s.application sound x sits.fits sits.valid sits.session (days_there s x sits.knows) act y sits.knows.book card
  close_valid_at act y (inr done) =
      closed_ends s.application sound x sits.fits sits.valid (above_zero (session_time s.application x) sits.session) (days_there s x sits.knows) act done.before y sits.knows.card.points sits.knows.book sits.may_end done.card done.session

  close_stays : (act : Activity) (y : List ℕ) → IsCardClosing s act x y → Stays s.application image brought y
  close_stays act y moment =
      let bound = max (suc s.minute) (suc (newest_minute (end_mark s.application x) (card_days s.application x))) in
      record {
        sizes = closing_sizes act y moment ∙ sits.sizes;
        long = closing_long act y moment;
        valid = close_valid_at act y moment;
        next = bound;
        holds = card_close_holds s act image no_hands brought (suc s.minute) bound x y sound sits.fits sits.knows sits.session (omega arith) (omega arith) sits.goes moment;
      }

-- ---- an insertion

module _ (image : List ℕ) (ready : IsInsertable image) where
  abbrev app : Application
  app = own_sizes image

  module _ (registration : Registration) (odometer now : ℕ) (owed : List Entry) (may : MayBegin registration now owed) (x : List ℕ) (moment : IsCardInserting app registration odometer owed now image x) where
    same_sizes : own_sizes x ≡ app
    same_sizes = sizes-told app image x (inserting_keeps app registration odometer now owed may.long image x (omega (arith, use_inside app, ready.fits)) moment).0

    same_long : length x ≡ length image
    same_long = (inserting_keeps app registration odometer now owed may.long image x (omega (arith, use_inside app, ready.fits)) moment).1

    pub insert_stays : Stays app image (brought_in image owed) x
    insert_stays = ⊎_elim
        (λ none.
        let bound = max (shut_bound image ready) (suc (newest_minute (end_mark app image) (card_days app image))) in
        record {
          sizes = same_sizes;
          long = same_long;
          valid = none_valid app ready.sizes image ready.fits registration may.long odometer now owed (own image ready) none.0 x none.1;
          next = bound;
          holds = subst (λ (l : List Entry). HoldsSince app image no_hands l bound x) (sym (brought-shut image owed none.0))
              (shut_inserting app registration now image no_hands [] (shut_bound image ready) image ready.sizes ready.fits may.long (own image ready) none.0 tt (holds-shut image ready none.0) bound (omega arith) (omega arith) x none.1);
        })
        (λ some.
        let bound = max (suc (end_mark app image)) (suc (newest_behind (card_view app image).newest (lacked_by app image owed))) in
        let open_ = above (session_time app image) some.0 in
        record {
          sizes = same_sizes;
          long = same_long;
          valid = again_valid app ready.sizes image ready.fits registration may.long odometer now owed may.are.0 (own image ready) (above_zero (session_time app image) open_) x some.0 some.1;
          next = bound;
          holds = subst (λ (l : List Entry). HoldsSince app image no_hands l bound x) (sym (brought-open image owed some.0))
              (open_holds app registration odometer now owed image no_hands [] (suc (end_mark app image)) image ready.sizes ready.fits may.long may.are (own image ready) open_ tt (holds-open image ready owed now may.are some.0) bound (omega arith) (omega arith) x some.1);
        }) moment

-- ---- EACH MOMENT

module _ (image : List ℕ) (ready : IsInsertable image) (brought : List Entry) (s : Session) (x : List ℕ) (sitting : IsSitting image brought s x) where
  so : Sits (own_sizes image) image brought s x
  so = sits-of image ready sitting

  here : Sits s.application image brought s x
  here = subst (λ (a : Application). Sits a image brought s x) (sym so.same) so

  sound : IsApplication s.application
  sound = subst (λ (a : Application). IsApplication a) (sym so.same) ready.sizes

  keep_shown : (e : Entry) (odometer : ℕ) (y : List ℕ) → s.minute < e.minute → IsCardKeeping s e odometer x y → IsShown image (brought ++ e ∷ []) y
  keep_shown e odometer y late moment =
      shown image ready (brought ++ e ∷ []) y (subst (λ (a : Application). Stays a image (brought ++ e ∷ []) y) so.same (keep_stays s sound image brought x here e odometer y late moment))

  close_shown : (act : Activity) (y : List ℕ) → IsCardClosing s act x y → IsShown image brought y
  close_shown act y moment = shown image ready brought y (subst (λ (a : Application). Stays a image brought y) so.same (close_stays s sound image brought x here act y moment))

  all_here : HoldsSince (own_sizes image) image no_hands brought (suc s.minute) x
  all_here = record { written = so.goes.written; rest = []; split = sym so.goes.has_all ∙ sym (append-nil (entries_of so.goes.written)); lie = so.goes.lie; behind = tt; stands = inl so.goes.goes }

  pub between-shown : IsShown image brought x × AllUpTo (end_mark (own_sizes image) x) brought
  unfolding all_here
  between-shown = (
    shown image ready brought x (record { sizes = so.sizes; long = so.long; valid = so.valid; next = suc s.minute; holds = all_here }),
    subst (AllUpTo (end_mark (own_sizes image) x)) so.goes.has_all (holds_up (own_sizes image) image no_hands brought (suc s.minute) x all_here),
  )

pub moment-shown : (image : List ℕ) → IsInsertable image → {brought : List Entry} {x : List ℕ} → IsMoment image brought x → IsShown image brought x
moment-shown image ready (inserting registration odometer now owed x may moment) = shown image ready (brought_in image owed) x (insert_stays image ready registration odometer now owed may x moment)
moment-shown image ready (keeping brought s e odometer x y sitting late moment) = keep_shown image ready brought s x sitting e odometer y late moment
moment-shown image ready (closing brought s act x y sitting moment) = close_shown image ready brought s x sitting act y moment

-- such a card may be inserted again
pub ready-again : (image : List ℕ) → IsInsertable image → {brought : List Entry} {x : List ℕ} → IsMoment image brought x → All (λ (b : ℕ). b < 256) x → IsInsertable x
ready-again image ready {x = x} moment bytes =
    let so = moment-shown image ready moment in
    record {
      bytes = bytes;
      sizes = subst (λ (a : Application). IsApplication a) (sym so.sizes) ready.sizes;
      fits = subst (λ (a : Application). image_size_of a ≤ length x) (sym so.sizes) (omega (arith, ready.fits, so.long));
      valid = so.valid;
    }
