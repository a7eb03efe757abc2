-- Entries that are replayed one after the other.
use Rattle.std.proofs.Common.{◌≡◌, inl, inr, ℕ, ◌+◌, ◌<◌, Bool, true, false, List, [], ◌∷◌, ◌++◌, length, take, drop, get_or, IfSome, refl, sym, ◌∙◌, ap, subst}
use Rattle.std.proofs.lemmas.List.{drop_more, take_more, take-append-drop}
use Rattle.activity_codec.specs.declared.values.Activity.TheVariants.{Rest}
use Rattle.activity_codec.specs.declared.values.Slot.TheVariants.{Driver}
use Rattle.activity_codec.specs.declared.entries.Entry.{Entry}
use Rattle.tacho_types.specs.declared.texts.Registration.{Registration}
use Rattle.card_layout.specs.declared.files.Application.{Application}
use Rattle.tach_media.specs.Medium.{State}
use Rattle.tach_media.proofs.Runs.{if_told, told_too, at_image}
use Rattle.card_days.specs.card_model.Days.{Day, AreDays}
use Rattle.card_session.specs.Vehicles.{Vehicles}
use Rattle.card_session.specs.Books.{Book, with_entry}
use Rattle.card_session.specs.Sessions.{Session, IsValue, IsOpenBook, KnowsCard, book_of}
use Rattle.card_session.specs.Moments.{IsBook, IsKeepMoment}
use Rattle.card_session.specs.Cards.{IsCard}
use Rattle.card_session.specs.Parts.{DoesPart, IsPartDone, IsPartMoment, IsBeforeGapOf, entered}
use Rattle.card_session.specs.Inserting.{Follow, with_owed, IsBeforeAll, IsReplaying}
use Rattle.card_session.proofs.Composing.{parts_then, part_as, part_failed, part_none, card_as, card_then, told_book}
use Rattle.card_session.proofs.Preparing.{entry_last}
use Rattle.card_session.proofs.InsertingDays.{still_card}

-- ---- of books

module _ (size : ℕ) (registration : Registration) (odometer : ℕ) where
  owed_more : (es : List Entry) (e : Entry) (b : Book) → with_owed size registration odometer (es ++ e ∷ []) b ≡ with_entry size registration odometer 0 (with_owed size registration odometer es b) e
  owed_more [] e b = refl
  owed_more (d ∷ es) e b = owed_more es e (with_entry size registration odometer 0 b d)

  replaying_at : (es rest : List Entry) (e : Entry) (b : Book) (ds : List Day) (v : Vehicles) → IsKeepMoment size registration odometer 0 e (with_owed size registration odometer es b) ds v
      → IsReplaying size registration odometer (es ++ e ∷ rest) b ds v
  replaying_at [] rest e b ds v is = inl is
  replaying_at (d ∷ es) rest e b ds v is = inr (replaying_at es rest e (with_entry size registration odometer 0 b d) ds v is)

-- ---- the entry that comes after so many

abbrev pub no_entry : Entry
no_entry = record { minute = 0; slot = Driver; crew = false; act = Rest }

module _ (es : List Entry) (i : ℕ) (low : i < length es) where
  abbrev pub this : Entry
  this = get_or es i no_entry

  pub rest_is : drop i es ≡ this ∷ drop (i + 1) es
  rest_is = drop_more es i no_entry low

  pub front_is : take (i + 1) es ≡ take i es ++ this ∷ []
  front_is = take_more es i no_entry low

  pub whole_is : es ≡ take i es ++ this ∷ drop (i + 1) es
  whole_is = sym (take-append-drop i es) ∙ ap (λ (zs : List Entry). take i es ++ zs) rest_is

-- ---- of cards

-- so many of all entries are on the card, and the rest may follow
abbrev pub Goes : (s t : Session) → (odometer : ℕ) → (all done rest : List Entry) → List ℕ → List ℕ → Type 0
Goes s t odometer all done rest x y = KnowsCard s x → IsBeforeAll all (book_of s.application x)
    → IsCard s.application (IsBook (with_owed s.application.activity s.registration odometer done (book_of s.application x))) x y
    × KnowsCard t y × IsBeforeAll rest (with_owed s.application.activity s.registration odometer done (book_of s.application x))

abbrev pub GoesMoment : (s : Session) → (odometer : ℕ) → (all : List Entry) → List ℕ → List ℕ → Type 0
GoesMoment s odometer all = IsPartMoment s (IsBeforeAll all) (IsReplaying s.application.activity s.registration odometer all)

module _ (s : Session) (value : IsValue s) (odometer : ℕ) (all : List Entry) where
  abbrev size : ℕ
  size = s.application.activity

  abbrev g : Registration
  g = s.registration

  pub goes_none : (state : State) → DoesPart state state false (Goes s s odometer all [] all) (GoesMoment s odometer all)
  goes_none state = part_none state (λ x was knows is. (still_card s value x knows, knows, is))

  module _ (t u : Session) (done rest : List Entry) (e : Entry) (all_is : all ≡ done ++ e ∷ rest) (app : t.application ≡ s.application) (registration : t.registration ≡ s.registration) where
    abbrev b : List ℕ → Book
    b x = with_owed size g odometer done (book_of s.application x)

    made : (x y : List ℕ) → IsCard s.application (IsBook (b x)) x y → book_of t.application y ≡ b x
    made x y is = ap (λ (p : Application). book_of p y) app ∙ told_book s.application (b x) x y is

    here : (x y : List ℕ) (R : Book → List Day → Vehicles → Type 0) → IsCard s.application (IsBook (b x)) x y → (c : List ℕ) → IsCard t.application (R (book_of t.application y)) y c → IsCard s.application (R (b x)) x c
    here x y R is c next =
        card_then s.application (IsBook (b x)) (R (b x)) x y c is
        (subst (λ (p : Application). IsCard p (R (b x)) y c) app (subst (λ (k : Book). IsCard t.application (R k) y c) (made x y is) next))

    pub goes_then : {old mid new : State} {failed : Bool}
        → DoesPart old mid false (Goes s t odometer all done (e ∷ rest)) (GoesMoment s odometer all)
        → DoesPart mid new failed (IsPartDone t u (IsBeforeGapOf e.minute) (entered t.application.activity t.registration odometer 0 e))
        (IsPartMoment t (IsBeforeGapOf e.minute) (IsKeepMoment t.application.activity t.registration odometer 0 e))
        → DoesPart old new failed (Goes s u odometer all (done ++ e ∷ []) rest) (GoesMoment s odometer all)
    goes_then {old} {mid} {new} {failed} first next =
        let sized : DoesPart mid new failed (IsPartDone t u (IsBeforeGapOf e.minute) (entered size t.registration odometer 0 e)) (IsPartMoment t (IsBeforeGapOf e.minute) (IsKeepMoment size t.registration odometer 0 e)) =
        subst (λ (p : Application). DoesPart mid new failed (IsPartDone t u (IsBeforeGapOf e.minute) (entered p.activity t.registration odometer 0 e)) (IsPartMoment t (IsBeforeGapOf e.minute) (IsKeepMoment p.activity t.registration odometer 0 e))) app next in
        let entry : DoesPart mid new failed (IsPartDone t u (IsBeforeGapOf e.minute) (entered size g odometer 0 e)) (IsPartMoment t (IsBeforeGapOf e.minute) (IsKeepMoment size g odometer 0 e)) =
        subst (λ (r : Registration). DoesPart mid new failed (IsPartDone t u (IsBeforeGapOf e.minute) (entered size r odometer 0 e)) (IsPartMoment t (IsBeforeGapOf e.minute) (IsKeepMoment size r odometer 0 e))) registration sized in
        parts_then first entry
        (λ x y z was one two knows is.
        let a = one knows is in
        let gap : IsBeforeGapOf e.minute (b x) = (a.2.0, a.2.1.0) in
        let d = two a.1 (subst (IsBeforeGapOf e.minute) (sym (made x y a.0)) gap) in
        let are : AreDays 0 (b x).days = subst (λ (k : Book). AreDays 0 k.days) (made x y a.0) a.1.days.holds.ordered in
        let last = entry_last size value.sizes.string_least g odometer 0 e (b x) are gap in
        let more = owed_more size g odometer done e (book_of s.application x) in (
          subst (λ (k : Book). IsCard s.application (IsBook k) x z) (sym more) (here x y (λ k. IsBook (entered size g odometer 0 e k)) a.0 z d.0),
          d.1,
          subst (IsBeforeAll rest) (sym more) (last.0, subst (λ (m : ℕ). Follow m rest) (sym last.1) a.2.1.1),
        ))
        (λ x c was one. one)
        (λ x y c was one moment knows is.
        let a = one knows is in
        let gap : IsBeforeGapOf e.minute (b x) = (a.2.0, a.2.1.0) in
        let m = moment a.1 (subst (IsBeforeGapOf e.minute) (sym (made x y a.0)) gap) in
        card_as s.application (IsKeepMoment size g odometer 0 e (b x)) (IsReplaying size g odometer all (book_of s.application x)) x c
        (λ ds v q. subst (λ (es : List Entry). IsReplaying size g odometer es (book_of s.application x) ds v) (sym all_is) (replaying_at size g odometer done rest e (book_of s.application x) ds v q))
        (here x y (λ k. IsKeepMoment size g odometer 0 e k) a.0 c m))

  -- by the number of those that are on it
  module _ (i : ℕ) (low : i < length all) (t u : Session) (app : t.application ≡ s.application) (registration : t.registration ≡ s.registration) where
    pub goes_more : {old mid new : State} {failed : Bool}
        → DoesPart old mid false (Goes s t odometer all (take i all) (drop i all)) (GoesMoment s odometer all)
        → DoesPart mid new failed (IsPartDone t u (IsBeforeGapOf (this all i low).minute) (entered t.application.activity t.registration odometer 0 (this all i low)))
        (IsPartMoment t (IsBeforeGapOf (this all i low).minute) (IsKeepMoment t.application.activity t.registration odometer 0 (this all i low)))
        → DoesPart old new failed (Goes s u odometer all (take (i + 1) all) (drop (i + 1) all)) (GoesMoment s odometer all)
    goes_more {old} {mid} {new} {failed} first next =
        subst (λ (es : List Entry). DoesPart old new failed (Goes s u odometer all es (drop (i + 1) all)) (GoesMoment s odometer all)) (sym (front_is all i low))
        (goes_then t u (take i all) (drop (i + 1) all) (this all i low) (whole_is all i low) app registration
        (subst (λ (es : List Entry). DoesPart old mid false (Goes s t odometer all (take i all) es) (GoesMoment s odometer all)) (rest_is all i low) first) next)

  -- one of which a keep failed
  pub goes_failed : {old new : State} {failed : Bool} (u t : Session) (done rest : List Entry) → DoesPart old new true (Goes s u odometer all done rest) (GoesMoment s odometer all) → failed ≡ true
      → DoesPart old new failed (IsPartDone s t (IsBeforeAll all) (with_owed size g odometer all)) (GoesMoment s odometer all)
  goes_failed u t done rest part is = part_failed part is (λ x c was one. one)

  -- and all of them
  pub goes_all : {old new : State} (t : Session) (done rest : List Entry) → done ≡ all → DoesPart old new false (Goes s t odometer all done rest) (GoesMoment s odometer all)
      → DoesPart old new false (IsPartDone s t (IsBeforeAll all) (with_owed size g odometer all)) (GoesMoment s odometer all)
  goes_all t done rest is part =
      part_as part
      (λ x y was one knows before. let a = one knows before in (subst (λ (es : List Entry). IsCard s.application (IsBook (with_owed size g odometer es (book_of s.application x))) x y) is a.0, a.1))
      (λ x c was one. one)

  -- a word may follow them
  pub goes_open : {old new : State} (t : Session) (done rest : List Entry) → done ≡ all → DoesPart old new false (Goes s t odometer all done rest) (GoesMoment s odometer all)
      → IfSome old.image (λ x. KnowsCard s x → IsBeforeAll all (book_of s.application x) → IsOpenBook (with_owed size g odometer all (book_of s.application x)))
  goes_open {old} {new} t done rest is part = if_told old.image _ (λ x was knows before.
      let y = told_too old.image new.image x (sym part.leaves.tells) was in
      let a = at_image (λ y. Goes s t odometer all done rest x y) y.1 (at_image (λ x. IfSome new.image (Goes s t odometer all done rest x)) was (part.done refl)) knows before in
      subst (λ (es : List Entry). IsOpenBook (with_owed size g odometer es (book_of s.application x))) is a.2.0)
