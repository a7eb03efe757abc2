-- Parts of a call, one after the other.
use Rattle.std.proofs.Common.{◌≡◌, inl, inr, ℕ, Bool, true, false, List, Some, IfSome, refl, sym, ◌∙◌, ap, subst, arith}
use Rattle.std.specs.Prelude.{◌⊎◌}
use Rattle.card_layout.proofs.Images.{outside_then}
use Rattle.card_layout.specs.declared.files.Application.{Application}
use Rattle.tach_media.specs.Medium.{State, HasCause, Unchanged}
use Rattle.tach_media.proofs.Runs.{weaken, goes_on, told_too, broken_same, broken_then, cause_after, starts, where_told, at_image}
use Rattle.card_days.specs.card_model.Days.{Day}
use Rattle.card_days.specs.Steps.{IsIdle}
use Rattle.card_validity.specs.card_image.Fields.{day_string}
use Rattle.card_session.specs.Vehicles.{Vehicles}
use Rattle.card_session.specs.Books.{Book}
use Rattle.card_session.specs.Sessions.{Session, KnowsCard, book_of}
use Rattle.card_session.specs.Moments.{IsBook}
use Rattle.card_session.specs.Cards.{IsCard, days_and_vehicles}
use Rattle.card_session.specs.Parts.{DoesPart, IsPartDone, IsPartMoment}

-- ---- causes

abbrev MayCause : State → State → Bool → Type 0
MayCause old new failed = HasCause old new failed ⊎ ((failed ≡ false) × IsIdle old new)

idle_cause : {old mid new : State} {failed : Bool} → IsIdle old mid → HasCause mid new failed → HasCause old new failed
idle_cause {old} {mid} {new} {failed} idle next = record {
  works = next.works;
  broken = λ was. next.broken (idle.works ∙ was);
  faults = omega (arith, idle.faults, next.faults);
  fault = λ f. omega (arith, idle.faults, next.fault f);
  breakdowns = omega (arith, idle.breakdowns, next.breakdowns);
  breaks = λ was f. omega (arith, idle.breakdowns, next.breaks (idle.works ∙ was) f);
  unbroken = λ f. next.unbroken f ∙ idle.breakdowns;
  already = λ was. next.already (idle.works ∙ was) ∙ idle.breakdowns;
  once = λ low. let few = next.once low in omega (arith, idle.breakdowns, few);
  tells = broken_then idle.tells next.tells;
}

cause_idle : {old mid new : State} → HasCause old mid false → IsIdle mid new → HasCause old new false
cause_idle {old} {mid} {new} first idle = record {
  works = idle.works ∙ first.works;
  broken = first.broken;
  faults = omega (arith, idle.faults, first.faults);
  fault = λ f. absurd (cc);
  breakdowns = omega (arith, idle.breakdowns, first.breakdowns);
  breaks = λ was f. absurd (cc);
  unbroken = λ f. idle.breakdowns ∙ first.unbroken f;
  already = λ was. idle.breakdowns ∙ first.already was;
  once = λ low. let same = first.unbroken refl in omega (arith, idle.breakdowns, same);
  tells = broken_then first.tells idle.tells;
}

idle_then : {old mid new : State} → IsIdle old mid → IsIdle mid new → IsIdle old new
idle_then {old} {mid} {new} first next = record {
  image = next.image ∙ first.image;
  leaves = goes_on first.leaves next.leaves (λ x y c was is none. none);
  clock = next.clock ∙ first.clock;
  works = next.works ∙ first.works;
  faults = next.faults ∙ first.faults;
  breakdowns = next.breakdowns ∙ first.breakdowns;
  tells = broken_then first.tells next.tells;
}

cause_then : {old mid new : State} {failed : Bool} → MayCause old mid false → MayCause mid new failed → MayCause old new failed
cause_then (inl first) (inl next) = inl (cause_after first next)
cause_then {old} {mid} {new} {failed} (inl first) (inr next) = inl (subst (λ (b : Bool). HasCause old new b) (sym next.0) (cause_idle first next.1))
cause_then (inr first) (inl next) = inl (idle_cause first.1 next)
cause_then (inr first) (inr next) = inr (next.0, idle_then first.1 next.1)

pub called_then : {old mid new : State} {failed : Bool} → MayCause old mid false → HasCause mid new failed → HasCause old new failed
called_then (inl first) next = cause_after first next
called_then (inr first) next = idle_cause first.1 next

-- three calls of which the last is one
pub called_last : {old mid late new : State} {failed : Bool} → MayCause old mid false → MayCause mid late false → HasCause late new failed → HasCause old new failed
called_last first next last = called_then (cause_then first next) last

pub idle : (s : State) → IsIdle s s
idle s = record { image = refl; leaves = starts s Unchanged; clock = refl; works = refl; faults = refl; breakdowns = refl; tells = broken_same s }

-- ---- parts

-- the same said more weakly
pub part_as : {old new : State} {failed : Bool} {S S' R R' : List ℕ → List ℕ → Type 0} → DoesPart old new failed S R
    → ((x y : List ℕ) → old.image ≡ Some x → S x y → S' x y) → ((x c : List ℕ) → old.image ≡ Some x → R x c → R' x c) → DoesPart old new failed S' R'
part_as {old} {new} {failed} {S} {S'} {R} {R'} part done moment = record {
  done = λ fine. where_told old.image new.image S' (λ x y was is. done x y was (at_image (λ y. S x y) is (at_image (λ x. IfSome new.image (S x)) was (part.done fine))));
  leaves = weaken part.leaves moment;
  cause = part.cause;
}

-- one of which a write failed, among more
pub part_failed : {old new : State} {failed : Bool} {S S' R R' : List ℕ → List ℕ → Type 0} → DoesPart old new true S R → failed ≡ true
    → ((x c : List ℕ) → old.image ≡ Some x → R x c → R' x c) → DoesPart old new failed S' R'
part_failed {old} {new} {failed} {S} {S'} {R} {R'} part is moment = record {
  done = λ fine. absurd (cc);
  leaves = weaken part.leaves moment;
  cause = subst (λ (b : Bool). MayCause old new b) (sym is) part.cause;
}

-- two parts
pub parts_then : {old mid new : State} {failed : Bool} {S R S' R' S'' T : List ℕ → List ℕ → Type 0} → DoesPart old mid false S R → DoesPart mid new failed S' R'
    → ((x y z : List ℕ) → old.image ≡ Some x → S x y → S' y z → S'' x z) → ((x c : List ℕ) → old.image ≡ Some x → R x c → T x c) → ((x y c : List ℕ) → old.image ≡ Some x → S x y → R' y c → T x c)
    → DoesPart old new failed S'' T
parts_then {old} {mid} {new} {failed} {S} {R} {S'} {R'} {S''} {T} first next both before behind = record {
  done = λ fine. where_told old.image new.image S'' (λ x z was is.
      let middle = told_mid x z was is in
      both x middle.0 z was (done x middle.0 was middle.1) (at_image (λ z. S' middle.0 z) is (at_image (λ y. IfSome new.image (S' y)) middle.1 (next.done fine))));
  leaves = goes_on (weaken first.leaves before) next.leaves (λ x y c was is here. behind x y c was (done x y was is) here);
  cause = cause_then first.cause next.cause;
}
  where
    done : (x y : List ℕ) → old.image ≡ Some x → mid.image ≡ Some y → S x y
    done x y was is = at_image (λ y. S x y) is (at_image (λ x. IfSome mid.image (S x)) was (first.done refl))

    told_mid : (x z : List ℕ) → old.image ≡ Some x → new.image ≡ Some z → (y : List ℕ) × (mid.image ≡ Some y)
    told_mid x z was is = told_too new.image mid.image z next.leaves.tells is

-- no call
pub part_none : (s : State) {S R : List ℕ → List ℕ → Type 0} → ((x : List ℕ) → s.image ≡ Some x → S x x) → DoesPart s s false S R
part_none s {S} {R} same = record {
  done = λ fine. where_told s.image s.image S (λ x y was is. let one : x ≡ y = cc in subst (λ (l : List ℕ). S x l) one (same x was));
  leaves = starts s R;
  cause = inr (refl, idle s);
}

-- ---- of a card

-- what is said of the days and the vehicles, and of a card that is like another
pub card_as : (app : Application) (P Q : List Day → Vehicles → Type 0) (x c : List ℕ) → ((ds : List Day) (v : Vehicles) → P ds v → Q ds v) → IsCard app P x c → IsCard app Q x c
card_as app P Q x c weaker is = record { outside = is.outside; holds = is.holds; points = is.points; told = weaker (book_of app c).days (book_of app c).vehicles is.told }

pub card_then : (app : Application) (P Q : List Day → Vehicles → Type 0) (x y c : List ℕ) → IsCard app P x y → IsCard app Q y c → IsCard app Q x c
card_then app P Q x y c first next = record {
  outside = outside_then (day_string app).base (days_and_vehicles app) x y c first.outside next.outside;
  holds = next.holds;
  points = next.points;
  told = next.told;
}

-- a book by its parts
pub book_is : (b : Book) (ds : List Day) (v : Vehicles) → ds ≡ b.days → v ≡ b.vehicles → (let c : Book = record { days = ds; vehicles = v } in c) ≡ b
book_is b ds v days vehicle = ap (λ (l : List Day). let c : Book = record { days = l; vehicles = v } in c) days ∙ ap (λ (o : Vehicles). let c : Book = record { days = b.days; vehicles = o } in c) vehicle

pub told_book : (app : Application) (b : Book) (x y : List ℕ) → IsCard app (IsBook b) x y → book_of app y ≡ b
told_book app b x y is = book_is b (book_of app y).days (book_of app y).vehicles is.told.0 is.told.1

-- Two parts of a session's call: the first makes of a book such a one as the second asks, and what the moments are is said of the
-- book before both.
pub then_part : {old mid new : State} {failed : Bool} (s t u : Session) (P P' : Book → Type 0) (f h : Book → Book) (Q Q' T : Book → List Day → Vehicles → Type 0)
    → t.application ≡ s.application
    → DoesPart old mid false (IsPartDone s t P f) (IsPartMoment s P Q) → DoesPart mid new failed (IsPartDone t u P' h) (IsPartMoment t P' Q')
    → ((x y : List ℕ) → KnowsCard s x → P (book_of s.application x) → KnowsCard t y → P' (f (book_of s.application x)))
    → ((b : Book) (ds : List Day) (v : Vehicles) → P b → Q b ds v → T b ds v) → ((b : Book) (ds : List Day) (v : Vehicles) → P b → Q' (f b) ds v → T b ds v)
    → DoesPart old new failed (IsPartDone s u P (λ b. h (f b))) (IsPartMoment s P T)
then_part s t u P P' f h Q Q' T app first next ready before behind =
    parts_then first next
    (λ x y z was one two knows is.
    let a = one knows is in
    let made : book_of s.application y ≡ f (book_of s.application x) = told_book s.application (f (book_of s.application x)) x y a.0 in
    let there : book_of t.application y ≡ f (book_of s.application x) = ap (λ (p : Application). book_of p y) app ∙ made in
    let b = two a.1 (subst P' (sym there) (ready x y knows is a.1)) in (
      card_then s.application (IsBook (f (book_of s.application x))) (IsBook (h (f (book_of s.application x)))) x y z a.0
          (subst (λ (p : Application). IsCard p (IsBook (h (f (book_of s.application x)))) y z) app (subst (λ (k : Book). IsCard t.application (IsBook (h k)) y z) there b.0)),
      b.1,
    ))
    (λ x c was one knows is. card_as s.application (Q (book_of s.application x)) (T (book_of s.application x)) x c (λ ds v q. before (book_of s.application x) ds v is q) (one knows is))
    (λ x y c was one two knows is.
    let a = one knows is in
    let made : book_of s.application y ≡ f (book_of s.application x) = told_book s.application (f (book_of s.application x)) x y a.0 in
    let there : book_of t.application y ≡ f (book_of s.application x) = ap (λ (p : Application). book_of p y) app ∙ made in
    let b = two a.1 (subst P' (sym there) (ready x y knows is a.1)) in
    card_as s.application (Q' (f (book_of s.application x))) (T (book_of s.application x)) x c (λ ds v q. behind (book_of s.application x) ds v is q)
    (card_then s.application (IsBook (f (book_of s.application x))) (Q' (f (book_of s.application x))) x y c a.0
    (subst (λ (p : Application). IsCard p (Q' (f (book_of s.application x))) y c) app (subst (λ (k : Book). IsCard t.application (Q' k) y c) there b))))

-- A part said of another book's words: what it makes and asks, by the book that is known.
pub part_of : {old new : State} {failed : Bool} (s t : Session) (P P' : Book → Type 0) (f f' : Book → Book) (Q Q' : Book → List Day → Vehicles → Type 0)
    → DoesPart old new failed (IsPartDone s t P f) (IsPartMoment s P Q)
    → ((x : List ℕ) → KnowsCard s x → P' (book_of s.application x) → P (book_of s.application x))
    → ((x : List ℕ) → KnowsCard s x → P' (book_of s.application x) → f (book_of s.application x) ≡ f' (book_of s.application x))
    → ((x : List ℕ) → KnowsCard s x → P' (book_of s.application x) → (ds : List Day) (v : Vehicles) → Q (book_of s.application x) ds v → Q' (book_of s.application x) ds v)
    → DoesPart old new failed (IsPartDone s t P' f') (IsPartMoment s P' Q')
part_of s t P P' f f' Q Q' part asks makes moments =
    part_as part
    (λ x y was one knows is. let a = one knows (asks x knows is) in (subst (λ (b : Book). IsCard s.application (IsBook b) x y) (makes x knows is) a.0, a.1))
    (λ x c was one knows is. card_as s.application (Q (book_of s.application x)) (Q' (book_of s.application x)) x c (moments x knows is) (one knows (asks x knows is)))

-- one that failed, among more
pub failed_part : {old new : State} {failed : Bool} (s t u : Session) (P : Book → Type 0) (f f' : Book → Book) (Q Q' : Book → List Day → Vehicles → Type 0)
    → DoesPart old new true (IsPartDone s t P f) (IsPartMoment s P Q) → failed ≡ true
    → ((b : Book) (ds : List Day) (v : Vehicles) → P b → Q b ds v → Q' b ds v)
    → DoesPart old new failed (IsPartDone s u P f') (IsPartMoment s P Q')
failed_part s t u P f f' Q Q' part is moments =
    part_failed part is
    (λ x c was one knows holds. card_as s.application (Q (book_of s.application x)) (Q' (book_of s.application x)) x c (λ ds v q. moments (book_of s.application x) ds v holds q) (one knows holds))
