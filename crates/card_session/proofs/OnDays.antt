-- What the calls on the days make of a card that a session knows.
use Rattle.std.proofs.Common.{◌≡◌, inl, inr, ⊎_elim, ℕ, ◌+◌, ◌-◌, ◌*◌, ◌≤◌, Bool, false, List, [], ◌∷◌, ◌++◌, length, Option, Some, IfSome, refl, sym, ◌∙◌, ap, subst, arith}
use Rattle.std.specs.Prelude.{◌⊎◌}
use Rattle.activity_codec.specs.declared.entries.Entry.{Entry}
use Rattle.card_layout.specs.declared.files.Application.{Application}
use Rattle.card_layout.specs.Files.{image_size_of}
use Rattle.tach_media.specs.Medium.{State, IsCoherent, LeavesOnly, HasCause, SameOutside}
use Rattle.tach_media.proofs.Runs.{weaken, where_told, at_image}
use Rattle.card_days.specs.card_model.Days.{Day}
use Rattle.card_days.specs.card_model.Changes.{Remain, fitting, with_newest, with_word, with_km, IsNext, new_day, date_of}
use Rattle.card_days.specs.card_model.Image.{StringShape, HoldsDays}
use Rattle.gated_ring.specs.Ring.{PointsInside, IsNewest}
use Rattle.card_days.specs.Held.{Knows}
use Rattle.card_days.specs.Moments.{IfKnown, IsChanging, IsChanged, KnowsChanged, IsDayBeginning, IsDayBegun, KnowsBegun}
use Rattle.card_days.specs.Steps.{IsMeasured, IsMeasuring, KnowsMeasured}
use Rattle.card_validity.specs.card_image.Fields.{day_string, vehicle_ring}
use Rattle.card_session.specs.Vehicles.{Vehicles}
use Rattle.card_session.specs.Books.{Book, with_change, with_new_day, day_words}
use Rattle.card_session.specs.Sessions.{Session, IsValue, KnowsCard, MayKeep, book_of}
use Rattle.card_session.specs.Moments.{IsBook}
use Rattle.card_session.specs.Cards.{IsCard}
use Rattle.card_session.specs.Parts.{DoesPart, IsPartDone, IsPartMoment, HasSame, TakesSome, with_some, IsAdding, BeginsDay, with_day, IsBeforeDay, HasDay}
use Rattle.card_session.proofs.OnCard.{days_told, vehicles_still, points_still, newest_still, days_written}

-- what is kept is told, where beside the days nothing that a session keeps has changed
knows_as : (s t : Session) (y : List ℕ) → HasSame s t → Knows t.days y (book_of s.application y).days → PointsInside (vehicle_ring s.application) y → IsNewest (vehicle_ring s.application) y s.newest
    → s.vehicle ≡ (book_of s.application y).vehicles.newest → KnowsCard t y
knows_as s t y same days points newest vehicle = record {
  days = subst (λ (p : Application). Knows t.days y (book_of p y).days) (sym same.application) days;
  points = subst (λ (p : Application). PointsInside (vehicle_ring p) y) (sym same.application) points;
  newest = subst (λ (p : Application). IsNewest (vehicle_ring p) y t.newest) (sym same.application) (subst (λ (o : Option ℕ). IsNewest (vehicle_ring s.application) y o) (sym same.newest) newest);
  vehicle = same.vehicle ∙ vehicle ∙ ap (λ (p : Application). (book_of p y).vehicles.newest) (sym same.application);
}

-- what a moment of the calls holds, by lists
abbrev Changes : StringShape → ℕ → List Day → List ℕ → Type 0
Changes r w days c = ((kept : List Day) × Remain (r.size - 2) days kept × HoldsDays r c kept) ⊎ HoldsDays r c (with_newest (with_word w) (fitting (r.size - 2) days))

abbrev Begins : StringShape → (date : ℕ) → (words : List ℕ) → List Day → List ℕ → Type 0
Begins r date words days c =
    ((kept : List Day) × Remain (r.size - (12 + 2 * length words)) days kept × HoldsDays r c kept)
    ⊎ HoldsDays r c (fitting (r.size - (12 + 2 * length words)) days ++ new_day days date words ∷ [])

abbrev Measures : StringShape → ℕ → List Day → List ℕ → Type 0
Measures r km days c = HoldsDays r c days ⊎ HoldsDays r c (with_newest (with_km km) days)

module _ (s t : Session) (value : IsValue s) (same : HasSame s t) (old new : State) (failed : Bool) (card : MayKeep s.application old) (whole : IsCoherent old) where
  abbrev app : Application
  app = s.application

  abbrev r : StringShape
  r = day_string s.application

  fits : (x : List ℕ) → old.image ≡ Some x → image_size_of app ≤ length x
  fits x was = omega (arith, card.fits, whole.sized x was)

  -- a moment of a call on the days, by the list that is held
  pub written : (Q : List Day → Vehicles → Type 0) (x c : List ℕ) → old.image ≡ Some x → KnowsCard s x → SameOutside s.days.shape.base (4 + s.days.shape.size) x c
      → (kept : List Day) → HoldsDays r c kept → Q kept (book_of app x).vehicles → IsCard app Q x c
  written Q x c was knows outside kept holds is =
      days_written app value.sizes x (fits x was) c knows.points (subst (λ (q : StringShape). SameOutside q.base (4 + q.size) x c) value.days outside) Q kept holds is

  -- and what is known after it
  pub known : (x y : List ℕ) → old.image ≡ Some x → KnowsCard s x → SameOutside s.days.shape.base (4 + s.days.shape.size) x y → (after : List Day) → Knows t.days y after → t.days.shape ≡ s.days.shape
      → (HoldsDays r y after) × KnowsCard t y
  known x y was knows outside after told shape =
      let beside : SameOutside r.base (4 + r.size) x y = subst (λ (q : StringShape). SameOutside q.base (4 + q.size) x y) value.days outside in
      let holds : HoldsDays r y after = subst (λ (q : StringShape). HoldsDays q y after) (shape ∙ value.days) told.holds in
      let are : (book_of app y).days ≡ after = days_told app value.sizes x (fits x was) y beside.same_length after holds in (
        holds,
        knows_as s t y same (subst (λ (ds : List Day). Knows t.days y ds) (sym are) told) (points_still app value.sizes x (fits x was) y knows.points beside)
            (newest_still app value.sizes x (fits x was) y knows.points beside s.newest knows.newest) (knows.vehicle ∙ sym (ap (λ (v : Vehicles). v.newest) (vehicles_still app value.sizes x (fits x was) y knows.points beside))),
      )

  abbrev size : ℕ
  size = s.application.activity

  -- ADD A WORD
  module _ (w : ℕ) where
    changes : (x c : List ℕ) → IfKnown s.days (IsChanging s.days.shape w) x c → KnowsCard s x → TakesSome (Some w) (book_of app x) → Changes r w (book_of app x).days c
    changes x c is knows takes = subst (λ (q : StringShape). Changes q w (book_of app x).days c) value.days ((is.told (book_of app x).days knows.days).list (book_of app x).days knows.days.holds takes)

    pub add_part : t.days.shape ≡ s.days.shape
        → (failed ≡ false → IfSome old.image (λ x. IfSome new.image (IfKnown s.days (IsChanged s.days.shape w) x)))
        → (failed ≡ false → IfSome old.image (λ x. IfSome new.image (KnowsChanged s.days t.days w x)))
        → LeavesOnly old new (IfKnown s.days (IsChanging s.days.shape w)) → HasCause old new failed
        → DoesPart old new failed (IsPartDone s t (TakesSome (Some w)) (with_some size (Some w))) (IsPartMoment s (TakesSome (Some w)) (IsAdding size (Some w)))
    add_part shape changed knowing moments cause = record {
      done = λ fine. where_told old.image new.image _ (λ x y was is knows takes.
          let one = at_image (λ y. IfKnown s.days (IsChanged s.days.shape w) x y) is (at_image (λ x. IfSome new.image (IfKnown s.days (IsChanged s.days.shape w) x)) was (changed fine)) in
          let two = at_image (λ y. KnowsChanged s.days t.days w x y) is (at_image (λ x. IfSome new.image (KnowsChanged s.days t.days w x)) was (knowing fine)) in
          let after : Knows t.days y (with_change size w (book_of app x).days) = subst (λ (q : StringShape). Knows t.days y (with_newest (with_word w) (fitting (q.size - 2) (book_of app x).days))) value.days (two (book_of app x).days knows.days takes) in
          let k = known x y was knows one.outside (with_change size w (book_of app x).days) after shape in
          (written (IsBook (with_some size (Some w) (book_of app x))) x y was knows one.outside (with_change size w (book_of app x).days) k.0 (refl, refl), k.1));
      leaves = weaken moments (λ x c was is knows takes.
          ⊎_elim
          (λ left. written (IsAdding size (Some w) (book_of app x)) x c was knows is.outside left.0 left.2 (inl left.1, refl))
          (λ done. written (IsAdding size (Some w) (book_of app x)) x c was knows is.outside (with_change size w (book_of app x).days) done (inr refl, refl))
          (changes x c is knows takes));
      cause = inl cause;
    }

  -- BEGIN A DAY
  module _ (e : Entry) (words : List ℕ) (are : words ≡ day_words e) where
    begins : (x c : List ℕ) → IfKnown s.days (IsDayBeginning s.days.shape (date_of e.minute) words) x c → KnowsCard s x → BeginsDay e (book_of app x) → Begins r (date_of e.minute) (day_words e) (book_of app x).days c
    begins x c is knows next =
        subst (λ (ws : List ℕ). Begins r (date_of e.minute) ws (book_of app x).days c) are
        (subst (λ (q : StringShape). Begins q (date_of e.minute) words (book_of app x).days c) value.days
        ((is.told (book_of app x).days knows.days).list (book_of app x).days knows.days.holds (subst (λ (ws : List ℕ). IsNext (book_of app x).days (date_of e.minute) ws) (sym are) next)))

    pub begin_part : t.days.shape ≡ s.days.shape
        → (failed ≡ false → IfSome old.image (λ x. IfSome new.image (IfKnown s.days (IsDayBegun s.days.shape (date_of e.minute) words) x)))
        → (failed ≡ false → IfSome old.image (λ x. IfSome new.image (KnowsBegun s.days t.days (date_of e.minute) words x)))
        → LeavesOnly old new (IfKnown s.days (IsDayBeginning s.days.shape (date_of e.minute) words)) → HasCause old new failed
        → DoesPart old new failed (IsPartDone s t (BeginsDay e) (with_day size e)) (IsPartMoment s (BeginsDay e) (IsBeforeDay size e))
    begin_part shape begun knowing moments cause = record {
      done = λ fine. where_told old.image new.image _ (λ x y was is knows next.
          let one = at_image (λ y. IfKnown s.days (IsDayBegun s.days.shape (date_of e.minute) words) x y) is (at_image (λ x. IfSome new.image (IfKnown s.days (IsDayBegun s.days.shape (date_of e.minute) words) x)) was (begun fine)) in
          let two = at_image (λ y. KnowsBegun s.days t.days (date_of e.minute) words x y) is (at_image (λ x. IfSome new.image (KnowsBegun s.days t.days (date_of e.minute) words x)) was (knowing fine)) in
          let after : Knows t.days y (with_new_day size e (book_of app x).days) =
          subst (λ (ws : List ℕ). Knows t.days y (fitting (size - (12 + 2 * length ws)) (book_of app x).days ++ new_day (book_of app x).days (date_of e.minute) ws ∷ [])) are
          (subst (λ (q : StringShape). Knows t.days y (fitting (q.size - (12 + 2 * length words)) (book_of app x).days ++ new_day (book_of app x).days (date_of e.minute) words ∷ [])) value.days
          (two (book_of app x).days knows.days (subst (λ (ws : List ℕ). IsNext (book_of app x).days (date_of e.minute) ws) (sym are) next))) in
          let k = known x y was knows one.outside (with_new_day size e (book_of app x).days) after shape in
          (written (IsBook (with_day size e (book_of app x))) x y was knows one.outside (with_new_day size e (book_of app x).days) k.0 (refl, refl), k.1));
      leaves = weaken moments (λ x c was is knows next.
          ⊎_elim
          (λ left. written (IsBeforeDay size e (book_of app x)) x c was knows is.outside left.0 left.2 (inl left.1, refl))
          (λ done. written (IsBeforeDay size e (book_of app x)) x c was knows is.outside (with_new_day size e (book_of app x).days) done (inr refl, refl))
          (begins x c is knows next));
      cause = inl cause;
    }

    -- the same by a date that is the entry's
    pub begin_with : (date : ℕ) → date ≡ date_of e.minute → t.days.shape ≡ s.days.shape
        → (failed ≡ false → IfSome old.image (λ x. IfSome new.image (IfKnown s.days (IsDayBegun s.days.shape date words) x)))
        → (failed ≡ false → IfSome old.image (λ x. IfSome new.image (KnowsBegun s.days t.days date words x)))
        → LeavesOnly old new (IfKnown s.days (IsDayBeginning s.days.shape date words)) → HasCause old new failed
        → DoesPart old new failed (IsPartDone s t (BeginsDay e) (with_day size e)) (IsPartMoment s (BeginsDay e) (IsBeforeDay size e))
    begin_with date is shape begun knowing moments cause =
        begin_part shape (subst (λ (d : ℕ). failed ≡ false → IfSome old.image (λ x. IfSome new.image (IfKnown s.days (IsDayBegun s.days.shape d words) x))) is begun)
        (subst (λ (d : ℕ). failed ≡ false → IfSome old.image (λ x. IfSome new.image (KnowsBegun s.days t.days d words x))) is knowing)
        (subst (λ (d : ℕ). LeavesOnly old new (IfKnown s.days (IsDayBeginning s.days.shape d words))) is moments) cause

  -- SET THE DISTANCE
  module _ (km : ℕ) where
    -- the days so measured
    abbrev with_distance : Book → Book
    with_distance b = record { days = with_newest (with_km km) b.days; vehicles = b.vehicles }

    abbrev IsSetting : Book → List Day → Vehicles → Type 0
    IsSetting b days vehicles = ((days ≡ b.days) ⊎ (days ≡ with_newest (with_km km) b.days)) × (vehicles ≡ b.vehicles)

    pub distance_part : t.days.shape ≡ s.days.shape
        → (failed ≡ false → IfSome old.image (λ x. IfSome new.image (IfKnown s.days (IsMeasured s.days.shape km) x)))
        → (failed ≡ false → IfSome old.image (λ x. IfSome new.image (KnowsMeasured s.days t.days km x)))
        → LeavesOnly old new (IfKnown s.days (IsMeasuring s.days.shape km)) → HasCause old new failed
        → DoesPart old new failed (IsPartDone s t HasDay with_distance) (IsPartMoment s HasDay IsSetting)
    distance_part shape measured knowing moments cause = record {
      done = λ fine. where_told old.image new.image _ (λ x y was is knows some.
          let one = at_image (λ y. IfKnown s.days (IsMeasured s.days.shape km) x y) is (at_image (λ x. IfSome new.image (IfKnown s.days (IsMeasured s.days.shape km) x)) was (measured fine)) in
          let two = at_image (λ y. KnowsMeasured s.days t.days km x y) is (at_image (λ x. IfSome new.image (KnowsMeasured s.days t.days km x)) was (knowing fine)) in
          let k = known x y was knows one.outside (with_newest (with_km km) (book_of app x).days) (two (book_of app x).days knows.days some) shape in
          (written (IsBook (with_distance (book_of app x))) x y was knows one.outside (with_newest (with_km km) (book_of app x).days) k.0 (refl, refl), k.1));
      leaves = weaken moments (λ x c was is knows some.
          let list : Measures r km (book_of app x).days c = subst (λ (q : StringShape). Measures q km (book_of app x).days c) value.days ((is.told (book_of app x).days knows.days).list (book_of app x).days knows.days.holds some) in
          ⊎_elim
          (λ still. written (IsSetting (book_of app x)) x c was knows is.outside (book_of app x).days still (inl refl, refl))
          (λ done. written (IsSetting (book_of app x)) x c was knows is.outside (with_newest (with_km km) (book_of app x).days) done (inr refl, refl))
          list);
      cause = inl cause;
    }
