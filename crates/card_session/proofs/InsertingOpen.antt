-- The closing word, the end of a session and the opening of another, one after the other.
use Rattle.std.proofs.Common.{◌≡◌, inl, inr, ⊎_elim, ℕ, ◌+◌, ◌≤◌, Bool, true, false, List, length, option_map, refl, sym, ◌∙◌, ap, subst, arith}
use Rattle.card_layout.proofs.Images.{put_outside}
use Rattle.activity_codec.specs.declared.values.Activity.TheVariants.{Rest}
use Rattle.tacho_types.specs.declared.texts.Registration.{Registration}
use Rattle.tacho_types.specs.Numbers.{time_bytes}
use Rattle.card_layout.specs.declared.files.Application.{Application}
use Rattle.card_layout.specs.Files.{place_of}
use Rattle.tach_media.specs.Medium.{State, IsCoherent, LeavesOnly, HasCause}
use Rattle.tach_media.proofs.Runs.{where_told, turned_into}
use Rattle.card_validity.specs.card_image.Fields.{file}
use Rattle.card_validity.specs.card_image.Beside.{HaveSameDays, HaveSameVehicles}
use Rattle.card_session.specs.Books.{closed}
use Rattle.card_session.specs.Sessions.{Session, IsValue, IsOpenBook, book_of}
use Rattle.card_session.specs.Moments.{IsBook, IsCloseMoment}
use Rattle.card_session.specs.Parts.{DoesPart, IsPartDone, IsPartMoment, AnyBook}
use Rattle.card_session.specs.Inserting.{MayInsert, MayShut, Both, During, IsShut, IsShutting, IsEnded, IsEnding, IsOpened, IsOpening, IsShutThen, IsShutThenMoment, IsReopened, IsReopening, IsStarted, IsStartMoment, timed, registered}
use Rattle.card_session.proofs.Composing.{parts_then, part_failed, told_book}
use Rattle.card_session.proofs.InsertingBooks.{closed_ready}
use Rattle.card_session.proofs.InsertingCards.{knows_beside, book_beside, behind_same, use_behind}
use Rattle.card_session.proofs.InsertingUse.{use_inside}

-- a call that turns the image into another, as a part
pub write_part : {old new : State} {failed : Bool} {R : List ℕ → List ℕ → Type 0} (f : List ℕ → List ℕ) → (failed ≡ false → new.image ≡ option_map f old.image) → LeavesOnly old new R → HasCause old new failed
    → DoesPart old new failed (λ x y. y ≡ f x) R
write_part {old} {new} f written leaves cause = record {
  done = λ fine. where_told old.image new.image (λ x y. y ≡ f x) (λ x y was is. turned_into f (written fine) was is);
  leaves = leaves;
  cause = inl cause;
}

-- ---- what the writes of the current use leave

abbrev pub Same : Application → List ℕ → List ℕ → Type 0
Same app x c = HaveSameDays app x c × HaveSameVehicles app x c

same_then : (app : Application) (x y c : List ℕ) → Same app x y → Same app y c → Same app x c
same_then app x y c first next = (next.0 ∙ first.0, next.1 ∙ first.1)

module _ (app : Application) (registration : Registration) (now : ℕ) (long : length registration.0 ≡ 15) where
  timed_same : (seconds : ℕ) (x : List ℕ) → place_of app (file 0x0507) + 19 ≤ length x → Same app x (timed app seconds x) × (length (timed app seconds x) ≡ length x)
  timed_same seconds x fits =
      let outside = put_outside (place_of app (file 0x0507)) (time_bytes (record { 0 = seconds })) x (omega (arith, fits)) in
      (behind_same app (place_of app (file 0x0507)) (length (time_bytes (record { 0 = seconds }))) x (timed app seconds x) (use_behind app) outside, outside.same_length)

  registered_same : (x : List ℕ) → place_of app (file 0x0507) + 19 ≤ length x → Same app x (registered app registration x) × (length (registered app registration x) ≡ length x)
  registered_same x fits =
      let outside = put_outside (place_of app (file 0x0507) + 4) registration.0 x (omega (arith, fits, long)) in
      (behind_same app (place_of app (file 0x0507) + 4) (length registration.0) x (registered app registration x) (omega (arith, use_behind app)) outside, outside.same_length)

  pub opened_same : (x c : List ℕ) → place_of app (file 0x0507) + 19 ≤ length x → IsOpened app registration now x c → Same app x c
  opened_same x c fits is =
      let first = registered_same x fits in
      let next = timed_same now (registered app registration x) (omega (arith, fits, first.1)) in
      subst (Same app x) (sym is) (same_then app x (registered app registration x) (timed app now (registered app registration x)) first.0 next.0)

  pub reopened_same : (x c : List ℕ) → place_of app (file 0x0507) + 19 ≤ length x → IsReopened app registration now x c → Same app x c
  reopened_same x c fits is =
      let first = timed_same 0 x fits in
      let first_same : Same app x is.0 = subst (Same app x) (sym is.1) first.0 in
      same_then app x is.0 c first_same (opened_same is.0 c (omega (arith, fits, first.1, ap length is.1)) is.2)

  -- and at the moments of these
  pub opening_same : (x c : List ℕ) → place_of app (file 0x0507) + 19 ≤ length x → IsOpening app registration now x c → Same app x c
  opening_same x c fits is = ⊎_elim
      (λ partly. behind_same app (place_of app (file 0x0507) + 4) (length registration.0) x c (omega (arith, use_behind app)) partly.outside)
      (λ whole. ⊎_elim (λ named. subst (Same app x) (sym named) (registered_same x fits).0) (λ opened. opened_same x c fits opened) whole) is

  pub reopening_same : (x c : List ℕ) → place_of app (file 0x0507) + 19 ≤ length x → IsReopening app registration now x c → Same app x c
  reopening_same x c fits (inl ending) = ⊎_elim
      (λ same. subst (Same app x) (sym same) (refl, refl))
      (λ ended. subst (Same app x) (sym ended) (timed_same 0 x fits).0) ending
  reopening_same x c fits (inr later) =
      let first = timed_same 0 x fits in
      let first_same : Same app x later.0 = subst (Same app x) (sym later.1) first.0 in
      same_then app x later.0 c first_same (opening_same later.0 c (omega (arith, fits, first.1, ap length later.1)) later.2)

pub reopened : {old mid new : State} {failed : Bool} (app : Application) (registration : Registration) (now : ℕ)
    → DoesPart old mid false (IsEnded app) (IsEnding app) → DoesPart mid new failed (IsOpened app registration now) (IsOpening app registration now)
    → DoesPart old new failed (IsReopened app registration now) (IsReopening app registration now)
reopened app registration now first next = parts_then first next (λ x y z was one two. (y, one, two)) (λ x c was is. inl is) (λ x y c was one is. inr (y, one, is))

pub ending_failed : {old new : State} {failed : Bool} (app : Application) (registration : Registration) (now : ℕ) → DoesPart old new true (IsEnded app) (IsEnding app) → failed ≡ true
    → DoesPart old new failed (IsReopened app registration now) (IsReopening app registration now)
ending_failed app registration now part is = part_failed part is (λ x c was one. inl one)

-- ---- the closing word before them

module _ (s t : Session) where
  abbrev size : ℕ
  size = s.application.activity

  abbrev Shuts : List ℕ → List ℕ → Type 0
  Shuts = IsPartDone s t MayShut (closed s.application.activity Rest)

  abbrev Shutting : List ℕ → List ℕ → Type 0
  Shutting = IsPartMoment s MayShut (IsCloseMoment s.application.activity Rest)

  pub shut_failed : {old new : State} {failed : Bool} (u : Session) (S R : List ℕ → List ℕ → Type 0) → DoesPart old new true Shuts Shutting → failed ≡ true → DoesPart old new failed (IsShutThen s u S) (IsShutThenMoment s R)
  shut_failed u S R part is = part_failed part is (λ x c was one knows ready. inl (one knows ready))

  -- where the next part failed
  pub then_failed : {old mid new : State} {failed : Bool} (u : Session) (S S' R : List ℕ → List ℕ → Type 0) → DoesPart old mid false Shuts Shutting → DoesPart mid new true S R → failed ≡ true → DoesPart old new failed (IsShutThen s u S') (IsShutThenMoment s R)
  then_failed {old} {mid} {new} {failed} u S S' R first next is =
      let both : DoesPart old new true (λ x z. Unit {0}) (IsShutThenMoment s R) = parts_then first next (λ x y z was one two. tt) (λ x c was one knows ready. inl (one knows ready)) (λ x y c was one is knows ready. inr (y, (one knows ready).0, is)) in
      part_failed both is (λ x c was one. one)

  module _ (value : IsValue s) (value_t : IsValue t) (app : t.application ≡ s.application) {old : State} (whole : IsCoherent old) (may : MayInsert s.application old)
      (S R : List ℕ → List ℕ → Type 0) (same : (x c : List ℕ) → place_of s.application (file 0x0507) + 19 ≤ length x → S x c → Same s.application x c) where
    pub shut_then : {mid new : State} {failed : Bool} → DoesPart old mid false Shuts Shutting → DoesPart mid new failed S R → DoesPart old new failed (IsShutThen s t S) (IsShutThenMoment s R)
    shut_then first next =
        parts_then first next
        (λ x y z was one two knows ready.
        let a = one knows ready in
        let fits : place_of s.application (file 0x0507) + 19 ≤ length y = omega (arith, use_inside s.application, may.keep.fits, whole.sized x was, a.0.outside.same_length) in
        let beside : Same t.application y z = subst (λ (p : Application). Same p y z) (sym app) (same y z fits two) in
        let made : book_of t.application y ≡ closed size Rest (book_of s.application x) = ap (λ (p : Application). book_of p y) app ∙ told_book s.application (closed size Rest (book_of s.application x)) x y a.0 in
        let open_is = closed_ready size value.sizes.string_least Rest (book_of s.application x) knows.days.holds.ordered ready.0 in (
          (y, a.0, two),
          knows_beside t value_t y z beside.0 beside.1 a.1,
          subst IsOpenBook (sym (book_beside t value_t y z beside.0 beside.1 a.1 ∙ made)) open_is,
        ))
        (λ x c was one knows ready. inl (one knows ready))
        (λ x y c was one is knows ready. inr (y, (one knows ready).0, is))

-- ---- a card without a session: the end of a drop before them

module _ (s t u : Session) (now : ℕ) (app : t.application ≡ s.application) (registration : t.registration ≡ s.registration) where
  pub start_failed : {old new : State} {failed : Bool} → DoesPart old new true (IsPartDone s t AnyBook (λ b. b)) (IsPartMoment s AnyBook IsBook) → failed ≡ true → DoesPart old new failed (IsStarted s u now) (IsStartMoment s now)
  start_failed part is = part_failed part is (λ x c was one knows ready. inl (one knows tt))

  pub started : {old mid new : State} {failed : Bool} → DoesPart old mid false (IsPartDone s t AnyBook (λ b. b)) (IsPartMoment s AnyBook IsBook)
      → DoesPart mid new failed (IsShutThen t u (IsOpened t.application t.registration now)) (IsShutThenMoment t (IsOpening t.application t.registration now))
      → DoesPart old new failed (IsStarted s u now) (IsStartMoment s now)
  started {old} {mid} {new} {failed} first next =
      parts_then first next
      (λ x y z was one two knows ready.
      let a = one knows tt in
      let there : book_of t.application y ≡ book_of s.application x = ap (λ (p : Application). book_of p y) app ∙ told_book s.application (book_of s.application x) x y a.0 in
      let d = two a.1 (subst MayShut (sym there) ready) in
      let sized = subst (λ (p : Application). Both (IsShut p) (IsOpened p t.registration now) y z) app d.0 in
      ((y, a.0, subst (λ (r : Registration). Both (IsShut s.application) (IsOpened s.application r now) y z) registration sized), d.1, d.2))
      (λ x c was one knows ready. inl (one knows tt))
      (λ x y c was one moment knows ready.
      let a = one knows tt in
      let there : book_of t.application y ≡ book_of s.application x = ap (λ (p : Application). book_of p y) app ∙ told_book s.application (book_of s.application x) x y a.0 in
      let sized = subst (λ (p : Application). During (IsShutting p) (IsShut p) (IsOpening p t.registration now) y c) app (moment a.1 (subst MayShut (sym there) ready)) in
      inr (y, a.0, subst (λ (r : Registration). During (IsShutting s.application) (IsShut s.application) (IsOpening s.application r now) y c) registration sized))
