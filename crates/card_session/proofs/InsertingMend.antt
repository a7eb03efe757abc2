-- The end of a drop, the repair and the event, one after the other.
use Rattle.std.proofs.Common.{◌≡◌, inl, inr, ℕ, ◌<◌, Bool, true, false, List, IfSome, sym, ◌∙◌, ap, subst}
use Rattle.activity_codec.specs.declared.entries.Entry.{Entry}
use Rattle.tacho_types.specs.declared.texts.Registration.{Registration}
use Rattle.card_layout.specs.declared.files.Application.{Application}
use Rattle.tach_media.specs.Medium.{State}
use Rattle.tach_media.proofs.Runs.{where_told, at_image}
use Rattle.card_files.specs.declared.current_use.CurrentUse.{CurrentUse}
use Rattle.card_days.specs.card_model.Days.{Day}
use Rattle.card_validity.specs.card_image.Fields.{current_use}
use Rattle.card_session.specs.declared.words.TheConstants.{LATEST_MINUTE}
use Rattle.card_session.specs.Vehicles.{Vehicles}
use Rattle.card_session.specs.Books.{Book, mark_of}
use Rattle.card_session.specs.Sessions.{Session, IsValue, IsOpenBook, KnowsCard, book_of}
use Rattle.card_session.specs.Cards.{IsCard}
use Rattle.card_session.specs.Moments.{IsBook}
use Rattle.card_session.specs.Parts.{DoesPart, IsPartDone, IsPartMoment, AnyBook}
use Rattle.card_session.specs.Inserting.{MayShut, EndsCut, repaired, IsRepairMoment, Both, IsStill, IsRepaired, IsNoted, IsNoting, Mends, IsSessionMended, IsMendMoment}
use Rattle.card_session.proofs.Composing.{parts_then, part_as, part_failed, told_book}
use Rattle.card_session.proofs.InsertingCards.{knows_beside, book_beside, noted_same, use_same}

-- what is known of the image before a part, with it
pub with_told : {old new : State} {failed : Bool} {S R : List ℕ → List ℕ → Type 0} (P : List ℕ → Type 0) → DoesPart old new failed S R → (failed ≡ false → IfSome old.image P) → DoesPart old new failed (λ x y. S x y × P x) R
with_told {old} {new} {failed} {S} {R} P part told = record {
  done = λ fine. where_told old.image new.image (λ x y. S x y × P x) (λ x y was is.
      (at_image (λ y. S x y) is (at_image (λ x. IfSome new.image (S x)) was (part.done fine)), at_image P was (told fine)));
  leaves = part.leaves;
  cause = part.cause;
}

module _ (s : Session) (current : CurrentUse) (odometer : ℕ) (owed : List Entry) (now : ℕ) where
  abbrev app : Application
  app = s.application

  abbrev size : ℕ
  size = s.application.activity

  abbrev g : Registration
  g = s.registration

  abbrev book : List ℕ → Book
  book x = book_of s.application x

  -- the drop is ended
  abbrev pub IsFirst : (t : Session) → List ℕ → List ℕ → Type 0
  IsFirst t x y = Mends s current x → IsStill app x y × KnowsCard t y

  pub first_done : {old mid : State} {failed : Bool} (t : Session) → DoesPart old mid failed (IsPartDone s t AnyBook (λ b. b)) (IsPartMoment s AnyBook IsBook)
      → DoesPart old mid failed (IsFirst t) (IsMendMoment s current odometer owed now)
  first_done t part = part_as part (λ x y was one mends. one mends.knows tt) (λ x c was one mends. inl (one mends.knows tt))

  -- and the repair is done
  abbrev pub IsSecond : (u : Session) → List ℕ → List ℕ → Type 0
  IsSecond u x z = Mends s current x → Both (IsStill app) (IsRepaired app g odometer owed) x z × KnowsCard u z × MayShut (book_of u.application z) × (current ≡ current_use app z)

  module _ (t u : Session) (same_t : t.application ≡ s.application) (same_g : t.registration ≡ s.registration) (same_u : u.application ≡ s.application)
      (marked : (b : Book) → mark_of b < LATEST_MINUTE → mark_of (repaired size g odometer owed b) < LATEST_MINUTE) where
    abbrev Opens : List ℕ → Type 0
    Opens y = KnowsCard t y → EndsCut (book_of t.application y) → IsOpenBook (repaired t.application.activity t.registration odometer owed (book_of t.application y))

    still_is : (x y : List ℕ) → IsStill app x y → book_of app y ≡ book x
    still_is x y still = told_book app (book x) x y still

    at_t : (x y : List ℕ) → IsStill app x y → book_of t.application y ≡ book x
    at_t x y still = ap (λ (p : Application). book_of p y) same_t ∙ still_is x y still

    strict_at : (x y : List ℕ) → IsStill app x y → Mends s current x → EndsCut (book_of t.application y)
    strict_at x y still mends = subst EndsCut (sym (at_t x y still)) mends.strict

    card_at : (P : (size : ℕ) → Registration → Book → List Day → Vehicles → Type 0) (y z : List ℕ) → IsCard t.application (P t.application.activity t.registration (book_of t.application y)) y z → IsCard app (P size g (book_of app y)) y z
    card_at P y z is = subst (λ (r : Registration). IsCard app (P size r (book_of app y)) y z) same_g (subst (λ (p : Application). IsCard p (P p.activity t.registration (book_of p y)) y z) same_t is)

    abbrev R : (size : ℕ) → Registration → Book → List Day → Vehicles → Type 0
    R n r b = IsBook (repaired n r odometer owed b)

    abbrev M : (size : ℕ) → Registration → Book → List Day → Vehicles → Type 0
    M n r b = IsRepairMoment n r odometer owed b

    pub second_done : {old mid new : State} {failed : Bool} → DoesPart old mid false (IsFirst t) (IsMendMoment s current odometer owed now)
        → DoesPart mid new failed (IsPartDone t u EndsCut (repaired t.application.activity t.registration odometer owed)) (IsPartMoment t EndsCut (IsRepairMoment t.application.activity t.registration odometer owed))
        → (failed ≡ false → IfSome mid.image Opens)
        → DoesPart old new failed (IsSecond u) (IsMendMoment s current odometer owed now)
    second_done first next opens =
        parts_then first (with_told Opens next opens)
        (λ x y z was one two mends.
        let a = one mends in
        let strict = strict_at x y a.0 mends in
        let d = two.0 a.1 strict in
        let card : IsRepaired app g odometer owed y z = card_at R y z d.0 in
        let made : book_of app z ≡ repaired size g odometer owed (book x) = told_book app (repaired size g odometer owed (book_of app y)) y z card ∙ ap (repaired size g odometer owed) (still_is x y a.0) in
        let there : book_of u.application z ≡ repaired size g odometer owed (book x) = ap (λ (p : Application). book_of p z) same_u ∙ made in
        let sized : IsOpenBook (repaired size t.registration odometer owed (book_of app y)) = subst (λ (p : Application). IsOpenBook (repaired p.activity t.registration odometer owed (book_of p y))) same_t (two.1 a.1 strict) in
        let open_at : IsOpenBook (repaired size g odometer owed (book_of app y)) = subst (λ (r : Registration). IsOpenBook (repaired size r odometer owed (book_of app y))) same_g sized in
        let open_is : IsOpenBook (repaired size g odometer owed (book x)) = subst (λ (k : Book). IsOpenBook (repaired size g odometer owed k)) (still_is x y a.0) open_at in (
          (y, a.0, card),
          d.1,
          subst MayShut (sym there) (open_is, marked (book x) mends.mark),
          mends.current_is ∙ sym (use_same app (IsBook (book x)) x y a.0) ∙ sym (use_same app (R size g (book_of app y)) y z card),
        ))
        (λ x c was one. one)
        (λ x y c was one moment mends.
        let a = one mends in
        inr (y, a.0, inl (card_at M y c (moment a.1 (strict_at x y a.0 mends)))))

  -- and the event
  module _ (u : Session) (value : IsValue u) (same_u : u.application ≡ s.application) where
    pub third_done : {old mid new : State} {failed : Bool} → DoesPart old mid false (IsSecond u) (IsMendMoment s current odometer owed now)
        → DoesPart mid new failed (λ y z. current ≡ current_use u.application y → IsNoted u.application now y z) (λ y c. current ≡ current_use u.application y → IsNoting u.application now y c)
        → DoesPart old new failed (IsSessionMended s u current odometer owed now) (IsMendMoment s current odometer owed now)
    third_done {old} {mid} {new} {failed} first next =
        parts_then first next
        (λ x y z was one two mends.
        let a = one mends in
        let noted : IsNoted u.application now y z = two (a.3 ∙ ap (λ (p : Application). current_use p y) (sym same_u)) in
        let same = noted_same u.application now y z noted in
        let both = a.0 in (
          (both.0, both.1, (y, both.2, subst (λ (p : Application). IsNoted p now y z) same_u noted)),
          knows_beside u value y z same.0 same.1 a.1,
          subst MayShut (sym (book_beside u value y z same.0 same.1 a.1)) a.2,
        ))
        (λ x c was one. one)
        (λ x y c was one moment mends.
        let a = one mends in
        let both = a.0 in
        let noting = subst (λ (p : Application). IsNoting p now y c) same_u (moment (a.3 ∙ ap (λ (p : Application). current_use p y) (sym same_u))) in
        inr (both.0, both.1, inr (y, both.2, noting)))

  -- one of which a part failed
  pub mend_failed : {old new : State} {failed : Bool} {S : List ℕ → List ℕ → Type 0} (t : Session) → DoesPart old new true S (IsMendMoment s current odometer owed now) → failed ≡ true
      → DoesPart old new failed (IsSessionMended s t current odometer owed now) (IsMendMoment s current odometer owed now)
  mend_failed t part is = part_failed part is (λ x c was one. one)
