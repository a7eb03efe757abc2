-- What the end of a drop and the cut at a minute make of a card that a session knows.
use Rattle.std.proofs.Common.{◌≡◌, inl, inr, ⊎_elim, ℕ, ◌/◌, ◌<◌, ◌≤◌, Bool, false, List, Option, IfSome, refl, sym, ◌∙◌, ap, subst}
use Rattle.std.specs.Prelude.{◌⊎◌}
use Rattle.card_layout.proofs.Images.{outside_same}
use Rattle.card_layout.specs.declared.files.Application.{Application}
use Rattle.card_layout.specs.Application.{IsApplication}
use Rattle.tach_media.specs.Medium.{State, IsCoherent, LeavesOnly, HasCause}
use Rattle.tach_media.proofs.Runs.{weaken, where_told, at_image}
use Rattle.card_files.specs.declared.vehicle.Vehicle.{Vehicle}
use Rattle.card_days.specs.card_model.Days.{Day}
use Rattle.card_days.specs.card_model.Changes.{Shorter, date_of, trimmed}
use Rattle.card_days.specs.card_model.Image.{StringShape, HoldsDays}
use Rattle.card_days.specs.Held.{Held, Knows}
use Rattle.card_days.specs.Moments.{IfKnown}
use Rattle.card_days.specs.Steps.{SameDays, IsIdle}
use Rattle.card_days.specs.Trim.{IsTrim, IsTrimMoment}
use Rattle.card_validity.specs.card_image.Fields.{day_string, vehicle_ring, last_use_of}
use Rattle.card_session.specs.declared.words.TheConstants.{LATEST_MINUTE}
use Rattle.card_session.specs.Sessions.{Session, IsValue, KnowsCard, MayKeep, book_of}
use Rattle.card_session.specs.Moments.{IsBook}
use Rattle.card_session.specs.Cards.{IsCard, days_and_vehicles}
use Rattle.card_session.specs.Parts.{DoesPart, IsPartDone, IsPartMoment, HasSame, AnyBook}
use Rattle.card_session.specs.Inserting.{with_cut, IsCutting}
use Rattle.card_session.proofs.OnDays.{written, known}

-- a card that a session knows, beside itself
pub still_card : (s : Session) → IsValue s → (x : List ℕ) → KnowsCard s x → IsCard s.application (IsBook (book_of s.application x)) x x
still_card s value x knows = record {
  outside = outside_same (day_string s.application).base (days_and_vehicles s.application) x;
  holds = subst (λ (q : StringShape). HoldsDays q x (book_of s.application x).days) value.days knows.days.holds;
  points = knows.points;
  told = (refl, refl);
}

-- by value, where beside the tail of the days nothing has changed
pub value_as : (s t : Session) → IsValue s → HasSame s t → t.days.shape ≡ s.days.shape → IsValue t
value_as s t value same shape = record {
  sizes = subst IsApplication (sym same.application) value.sizes;
  days = shape ∙ value.days ∙ ap day_string (sym same.application);
  vehicles = same.vehicles ∙ value.vehicles ∙ ap vehicle_ring (sym same.application);
  newest = subst (λ (p : Application). IfSome t.newest (λ i. i < p.vehicles)) (sym same.application) (subst (λ (o : Option ℕ). IfSome o (λ i. i < s.application.vehicles)) (sym same.newest) value.newest);
  mark = subst (λ (o : Option Vehicle). last_use_of o / 60 ≤ LATEST_MINUTE) (sym same.vehicle) value.mark;
}

-- what a moment of the cut holds
abbrev Cuts : StringShape → ℕ → List Day → List ℕ → Type 0
Cuts q minute days c = ((kept : List Day) × Shorter (date_of minute) days kept × HoldsDays q c kept) ⊎ HoldsDays q c (trimmed minute days)

module _ (s t : Session) (value : IsValue s) (same : HasSame s t) (old new : State) (failed : Bool) (card : MayKeep s.application old) (whole : IsCoherent old) where
  abbrev app : Application
  app = s.application

  abbrev r : StringShape
  r = day_string s.application

  -- THE END OF A DROP
  pub still_part : t.days ≡ s.days
      → (failed ≡ false → IfSome old.image (λ x. IfSome new.image (IfKnown s.days (SameDays s.days.shape) x)))
      → (failed ≡ false → IfSome old.image (λ x. IfSome new.image (λ y. (days : List Day) → Knows s.days x days → Knows s.days y days)))
      → LeavesOnly old new (IfKnown s.days (SameDays s.days.shape)) → HasCause old new failed ⊎ ((failed ≡ false) × IsIdle old new)
      → DoesPart old new failed (IsPartDone s t AnyBook (λ b. b)) (IsPartMoment s AnyBook IsBook)
  still_part days_are kept knowing moments cause = record {
    done = λ fine. where_told old.image new.image _ (λ x y was is knows any.
        let one = at_image (λ y. IfKnown s.days (SameDays s.days.shape) x y) is (at_image (λ x. IfSome new.image (IfKnown s.days (SameDays s.days.shape) x)) was (kept fine)) in
        let two = at_image (λ y. (days : List Day) → Knows s.days x days → Knows s.days y days) is (at_image (λ x. IfSome new.image (λ y. (days : List Day) → Knows s.days x days → Knows s.days y days)) was (knowing fine)) in
        let after : Knows t.days y (book_of app x).days = subst (λ (h : Held). Knows h y (book_of app x).days) (sym days_are) (two (book_of app x).days knows.days) in
        let k = known s t value same old new failed card whole x y was knows one.outside (book_of app x).days after (ap (λ (h : Held). h.shape) days_are) in
        (written s t value same old new failed card whole (IsBook (book_of app x)) x y was knows one.outside (book_of app x).days k.0 (refl, refl), k.1));
    leaves = weaken moments (λ x c was is knows any.
        let holds : HoldsDays r c (book_of app x).days = subst (λ (q : StringShape). HoldsDays q c (book_of app x).days) value.days ((is.told (book_of app x).days knows.days).list (book_of app x).days knows.days.holds) in
        written s t value same old new failed card whole (IsBook (book_of app x)) x c was knows is.outside (book_of app x).days holds (refl, refl));
    cause = cause;
  }

  -- THE CUT
  pub cut_part : (minute : ℕ) → t.days.shape ≡ s.days.shape
      → (failed ≡ false → IfSome old.image (λ x. IfSome new.image (IsTrim s.days.shape minute x)))
      → (failed ≡ false → IfSome old.image (λ x. IfSome new.image (λ y. (days : List Day) → HoldsDays s.days.shape x days → Knows t.days y (trimmed minute days))))
      → LeavesOnly old new (IsTrimMoment s.days.shape minute) → HasCause old new failed
      → DoesPart old new failed (IsPartDone s t AnyBook (with_cut minute)) (IsPartMoment s AnyBook (IsCutting minute))
  cut_part minute shape cut knowing moments cause = record {
    done = λ fine. where_told old.image new.image _ (λ x y was is knows any.
        let one = at_image (λ y. IsTrim s.days.shape minute x y) is (at_image (λ x. IfSome new.image (IsTrim s.days.shape minute x)) was (cut fine)) in
        let two = at_image (λ y. (days : List Day) → HoldsDays s.days.shape x days → Knows t.days y (trimmed minute days)) is (at_image (λ x. IfSome new.image (λ y. (days : List Day) → HoldsDays s.days.shape x days → Knows t.days y (trimmed minute days))) was (knowing fine)) in
        let k = known s t value same old new failed card whole x y was knows one.outside (trimmed minute (book_of app x).days) (two (book_of app x).days knows.days.holds) shape in
        (written s t value same old new failed card whole (IsBook (with_cut minute (book_of app x))) x y was knows one.outside (trimmed minute (book_of app x).days) k.0 (refl, refl), k.1));
    leaves = weaken moments (λ x c was is knows any.
        ⊎_elim
        (λ left. written s t value same old new failed card whole (IsCutting minute (book_of app x)) x c was knows is.outside left.0 left.2 (inl left.1, refl))
        (λ done. written s t value same old new failed card whole (IsCutting minute (book_of app x)) x c was knows is.outside (trimmed minute (book_of app x).days) done (inr refl, refl))
        (subst (λ (q : StringShape). Cuts q minute (book_of app x).days c) value.days (is.list (book_of app x).days knows.days.holds)));
    cause = inl cause;
  }
