-- How a card that was judged ended, over plain states.
use Rattle.std.proofs.Common.{◌≡◌, ◌∙◌, ⊎_elim, ℕ, ◌+◌, ◌^◌, ◌<◌, ◌≤◌, Bool, true, false, Option, Some, None, IfSome, List, [], ◌∷◌, ◌++◌, length, refl, ap, sym, subst, arith}
use Rattle.std.specs.Prelude.{Result, Ok, Err}
use Rattle.activity_codec.specs.declared.entries.Entry.{Entry}
use Rattle.tach_media.specs.Medium.{State, IsCoherent, LeavesOnly, Unchanged, HasCause, HasBroken, broken_by, revivable}
use Rattle.tach_media.proofs.Runs.{from_reads, goes_on, at_image, if_told, where_told, told_too, revived}
use Rattle.tach_media.proofs.Breakdowns.{none_broken, both_broken, fewer_broken, revive_broken}
use Rattle.tacho_types.specs.declared.texts.Registration.{Registration}
use Rattle.card_layout.specs.declared.files.Application.{Application}
use Rattle.card_layout.specs.declared.files.Fid.{Fid}
use Rattle.card_layout.specs.Application.{application_in, first_bad_field}
use Rattle.card_layout.specs.Files.{image_size_of}
use Rattle.card_validity.specs.card_image.Fields.{session_time, end_mark}
use Rattle.card_validity.specs.card_image.Own.{own_sizes}
use Rattle.card_validity.specs.card_image.Judging.{IsValid}
use Rattle.card_validity.specs.card_image.View.{card_view}
use Rattle.card_validity.specs.Judged.{IsLook}
use Rattle.card_session.specs.Inserting.{IsCardInserted, IsCardInserting, replayed_count}
use Rattle.log_model.specs.declared.lines.Break.{Break}
use Rattle.log_model.specs.declared.lines.Find.{Find}
use Rattle.device_calls.specs.declared.entering.Entered.{Entered}
use Rattle.device_calls.specs.declared.entering.NotEntered.{NotEntered}
use Rattle.device_calls.specs.declared.entering.NotEntered.TheVariants.{UnitFailed, CardFailed, NotValid, TimeOverlap}
use Rattle.device_calls.specs.Entering.{IsEntering, owed_on}
use Rattle.run_crew.specs.declared.cabin.Cabin.{Cabin}
use Rattle.run_outcome.specs.Lines.{Listed}
use Rattle.run_outcome.specs.declared.outcome.Outcome.{Outcome}
use Rattle.run_minutes.specs.declared.keeper.Keeper.{Keeper}
use Rattle.run_minutes.specs.Keeping.{with_lines, tear_of}
use Rattle.run_minutes.proofs.Fates.{no-lines}
use Rattle.run_insertion.specs.declared.lines.Entering.{Entering}
use Rattle.run_insertion.specs.Entering.{Ending, Unfit, Ahead, Fell, Unasked, Unnoted, Seated, Lost, Unread, Unsized, Judged, ending_of, measured, taken_as, falls_of, cabin_by, outcome_by}
use Rattle.run_insertion.specs.Noted.{HasNoted, IsOnUnit, IsComing, IsOnCard, IsComingOnCard, PutIn, AreOnCard, fault_of, notes_by, card_notes_by, card_notes_behind, is_cut}
use Rattle.run_insertion.specs.Entered.{IsEnding, FitsInsertion, IsNew, IsClock, IsPlace, AcceptanceIsTold, IsFound, IsEntry, IsTaken, IsJudgedSo, HasEntered}
use Rattle.run_insertion.proofs.Notes.{not_cut, one-note, notes-read, notes-then, notes-after, notes-as}
use Rattle.run_insertion.proofs.Accepted.{kept-broken, fell-broken}
use Rattle.run_insertion.proofs.CardBrought.{IsSitting, only-left, brought-by}

outcome-lines : (o : Outcome) (breaks : Listed Break) (finds : Listed Find) → record o { breaks = breaks } ≡ record o { breaks = with_lines [] breaks; finds = with_lines [] o.finds }
outcome-lines o breaks finds = ap (λ (l : Listed Break). record o { breaks = l }) (no-lines breaks) ∙ ap (λ (l : Listed Find). record o { breaks = with_lines [] breaks; finds = l }) (no-lines o.finds)

-- the same by other names of what was found
pub unfit-told : (e : Entering) (o p : Outcome) (f fid : Fid) (t place : ℕ) → p ≡ outcome_by (Unfit f t) e o → f ≡ fid → t ≡ place → p ≡ outcome_by (Unfit fid place) e o
unfit-told e o p f fid t place told one two = told ∙ ap (λ (g : Fid). outcome_by (Unfit g t) e o) one ∙ ap (λ (u : ℕ). outcome_by (Unfit fid u) e o) two

pub ahead-told : (e : Entering) (o p : Outcome) (t stored : ℕ) → p ≡ outcome_by (Ahead t) e o → t ≡ stored → p ≡ outcome_by (Ahead stored) e o
ahead-told e o p t stored told one = told ∙ ap (λ (u : ℕ). outcome_by (Ahead u) e o) one

pub ahead-noted : (e : Entering) (cabin : Cabin) (t stored : ℕ) {failed : Bool} {U V : State} → HasNoted IsOnUnit IsComing (notes_by (Ahead t) e 0 cabin) failed U V → t ≡ stored → HasNoted IsOnUnit IsComing (notes_by (Ahead stored) e 0 cabin) failed U V
ahead-noted e cabin t stored {failed} {U} {V} notes one = subst (λ (u : ℕ). HasNoted IsOnUnit IsComing (notes_by (Ahead u) e 0 cabin) failed U V) one notes

module _ (app : Application) (e : Entering) (k : Keeper) (noted : ℕ) (o : Outcome) (U V X M : State) where
  abbrev vehicle : Registration
  vehicle = k.memory.registration

  abbrev Enters : Result Entered NotEntered → Type 0
  Enters r = IsEntering app vehicle e.odometer.0 e.at.second U V X M r

  -- ---- it is accepted

  module _ (entered : Entered) (enters : Enters (Ok entered)) where
    owes : (u x : List ℕ) → U.image ≡ Some u → X.image ≡ Some x → entered.owed.items ≡ owed_on app u x
    owes u x told is =
        by M.image (card-tells is) (at_image (λ (l : List ℕ). IfSome M.image (λ y. entered.owed.items ≡ owed_on app u l)) is (at_image (λ (w : List ℕ). IfSome X.image (λ l. IfSome M.image (λ y. entered.owed.items ≡ owed_on app w l))) told enters.accepted.owes))
      where
        by : (p : Option (List ℕ)) → (y : List ℕ) × (p ≡ Some y) → IfSome p (λ y. entered.owed.items ≡ owed_on app u x) → entered.owed.items ≡ owed_on app u x
        by p here said = at_image (λ (y : List ℕ). entered.owed.items ≡ owed_on app u x) here.1 said

        card-tells : X.image ≡ Some x → (y : List ℕ) × (M.image ≡ Some y)
        card-tells is = told_too X.image M.image x (sym (at-card.tells)) is
          where
            at-card : LeavesOnly X M (λ x c. IsCardInserting app vehicle e.odometer.0 (owed_on app u x) e.at.second x c)
            at-card = at_image (λ (w : List ℕ). LeavesOnly X M (λ x c. IsCardInserting app vehicle e.odometer.0 (owed_on app w x) e.at.second x c)) told enters.moments

    told-so : (x : List ℕ) → X.image ≡ Some x → AcceptanceIsTold app e.at.second U.image entered x
    told-so x is = record {
      looked = at_image (λ (l : List ℕ). IsLook app l entered.look) is enters.accepted.looked;
      in_time = (at_image (λ (l : List ℕ). IsValid app l × ((card_view app l).stored ≤ e.at.second)) is enters.accepted.valid).1;
      owes = if_told U.image (λ u. entered.owed.items ≡ owed_on app u x) (λ u told. owes u x told is);
      lacked = at_image (λ (l : List ℕ). entered.replayed ≡ replayed_count (session_time app l) (end_mark app l) entered.owed.items) is enters.accepted.number;
    }

    new-so : entered.look.session < 2 ^ 32 → FitsInsertion entered.look → IsNew app vehicle e.at.second entered
    new-so low sized = record { low = low; sized = sized; sizes = enters.accepted.sizes; vehicle = enters.accepted.vehicle; fresh = enters.accepted.fresh; fit = enters.accepted.fit; few = enters.accepted.few }

    put-in : (u : List ℕ) → U.image ≡ Some u → HasNoted (IsOnCard app vehicle e u) (IsComingOnCard app vehicle e u) (PutIn ∷ []) false X M
    put-in u told = one-note (IsOnCard app vehicle e u) (IsComingOnCard app vehicle e u) PutIn
        (λ well. where_told X.image M.image (IsOnCard app vehicle e u PutIn) (λ x y was is. subst (λ (es : List Entry). IsCardInserted app vehicle e.odometer.0 es e.at.second x y) (owes u x told was)
        (at_image (λ (l : List ℕ). IsCardInserted app vehicle e.odometer.0 entered.owed.items e.at.second x l) is (at_image (λ (l : List ℕ). IfSome M.image (IsCardInserted app vehicle e.odometer.0 entered.owed.items e.at.second l)) was enters.accepted.inserted))))
        (at_image (λ (w : List ℕ). LeavesOnly X M (λ x c. IsCardInserting app vehicle e.odometer.0 (owed_on app w x) e.at.second x c)) told enters.moments)

    place-so : (entry : ℕ) → IsPlace entry V.image → IsPlace entry U.image
    place-so entry place = subst (λ (p : Option (List ℕ)). IsPlace entry p) (enters.unit.same refl) place

    module _ (later : X.clock ≤ M.clock) (failed : Bool) (v : Keeper) (noted_after : ℕ) (p : Outcome) (W Y : State) where
      abbrev Taken : Ending → Type 0
      Taken ending = IsTaken app e failed k v noted noted_after o p V W M Y ending

      clock-so : (ending : Ending) → Taken ending → IsClock e M.clock X Y
      clock-so ending t = record { low = later; high = t.later; near = t.near }

      judged-by : (ending : Ending) → IsEnding ending app vehicle e failed U.image X Y → ((x : List ℕ) → X.image ≡ Some x → IsFound app e.at.second U.image ending x) → (PutIn ∷ []) ++ card_notes_behind ending vehicle e ≡ card_notes_by ending vehicle e
          → Taken ending → IsJudgedSo app e failed k v noted noted_after o p U W X Y ending
      judged-by ending is found list t = record {
        is = is;
        left = t.left;
        found = if_told X.image (IsFound app e.at.second U.image ending) found;
        notes = notes-after IsOnUnit IsComing enters.unit.leaves (enters.unit.same refl) t.notes;
        on_card = if_told U.image _ (λ u told. notes-as (IsOnCard app vehicle e u) (IsComingOnCard app vehicle e u) list (notes-then (IsOnCard app vehicle e u) (IsComingOnCard app vehicle e u) (put-in u told) (t.on_card u)));
        broken = let few : falls_of ending ≤ 0 + falls_of ending = omega arith in fewer_broken few (both_broken (kept-broken enters.cause) t.broken);
      }

      pub judged-taken : entered.look.session < 2 ^ 32 → FitsInsertion entered.look → (fell : Bool) (entry : Option ℕ) → IsEntry entry failed V.image → Taken (taken_as fell entered M.clock entry) → IsJudgedSo app e failed k v noted noted_after o p U W X Y (taken_as fell entered M.clock entry)
      judged-taken low sized true None is t = judged-by (Unnoted entered M.clock) (is, new-so low sized, clock-so _ t) told-so refl t
      judged-taken low sized false None is t = judged-by (Unnoted entered M.clock) (is, new-so low sized, clock-so _ t) told-so refl t
      judged-taken low sized false (Some entry) is t = judged-by (Seated entered M.clock entry) (place-so entry is, new-so low sized, clock-so _ t) told-so refl t
      judged-taken low sized true (Some entry) is t = judged-by (Lost entered M.clock entry) (place-so entry is, new-so low sized, clock-so _ t, t.moves refl) told-so refl t

  -- ---- it is not

  pub judged-unasked : Enters (Err UnitFailed) → IsJudgedSo app e true k k noted noted o o U V X M Unasked
  judged-unasked enters = record {
    is = refl;
    left = record { keeper = refl; count = refl; outcome = outcome-lines o o.breaks o.finds };
    found = if_told X.image (IsFound app e.at.second U.image Unasked) (λ x is. tt);
    notes = notes-read IsOnUnit IsComing true enters.unit.leaves (λ well. absurd (not_cut well));
    on_card = if_told U.image _ (λ u told. notes-read (IsOnCard app vehicle e u) (IsComingOnCard app vehicle e u) false enters.refused.leaves (λ well. enters.refused.same refl));
    broken = kept-broken enters.cause;
  }

  pub judged-fell : (failed : Bool) (v : Keeper) (breaks : Listed Break) (W : State) → X.works ≡ true → Enters (Err CardFailed) → v ≡ record k { cabin = cabin_by Fell e noted k.cabin } → breaks ≡ with_lines (tear_of e.slot e.at ∷ []) o.breaks
      → HasNoted IsOnUnit IsComing (fault_of e k.cabin ∷ []) failed V W → IsJudgedSo app e failed k v noted noted o (record o { breaks = breaks }) U W X M Fell
  judged-fell failed v breaks W works enters keeper told notes = record {
    is = tt;
    left = record {
      keeper = keeper;
      count = refl;
      outcome = ap (λ (l : Listed Break). record o { breaks = l }) told ∙ ap (λ (l : Listed Find). record o { breaks = with_lines (tear_of e.slot e.at ∷ []) o.breaks; finds = l }) (no-lines o.finds);
    };
    found = if_told X.image (IsFound app e.at.second U.image Fell) (λ x is. tt);
    notes = notes-after IsOnUnit IsComing enters.unit.leaves (enters.unit.same refl) notes;
    on_card = if_told U.image _ (λ u told. one-note (IsOnCard app vehicle e u) (IsComingOnCard app vehicle e u) PutIn (λ well. absurd (not_cut well))
        (at_image (λ (w : List ℕ). LeavesOnly X M (λ x c. IsCardInserting app vehicle e.odometer.0 (owed_on app w x) e.at.second x c)) told enters.moments));
    broken = fell-broken works enters.cause;
  }

  pub judged-unfit : (failed : Bool) (fid : Fid) (place : ℕ) (p : Outcome) (W : State) → Enters (Err (NotValid fid place)) → p ≡ outcome_by (Unfit fid place) e o
      → HasNoted IsOnUnit IsComing (notes_by (Unfit fid place) e noted k.cabin) failed V W → IsJudgedSo app e failed k k noted noted o p U W X M (Unfit fid place)
  judged-unfit failed fid place p W enters told notes = record {
    is = tt;
    left = record { keeper = refl; count = refl; outcome = told };
    found = enters.refused.1;
    notes = notes-after IsOnUnit IsComing enters.unit.leaves (enters.unit.same refl) notes;
    on_card = if_told U.image _ (λ u told. notes-read (IsOnCard app vehicle e u) (IsComingOnCard app vehicle e u) false enters.refused.0.leaves (λ well. enters.refused.0.same refl));
    broken = kept-broken enters.cause;
  }

  pub judged-ahead : (failed : Bool) (stored now : ℕ) → stored < 2 ^ 32 → (p : Outcome) (W : State) → Enters (Err (TimeOverlap stored now)) → p ≡ outcome_by (Ahead stored) e o
      → HasNoted IsOnUnit IsComing (notes_by (Ahead stored) e noted k.cabin) failed V W → IsJudgedSo app e failed k k noted noted o p U W X M (Ahead stored)
  judged-ahead failed stored now low p W enters told notes = record {
    is = low;
    left = record { keeper = refl; count = refl; outcome = told };
    found = if_told X.image (IsFound app e.at.second U.image (Ahead stored)) (λ x is. let was = at_image (λ (l : List ℕ). IsValid app l × (stored ≡ (card_view app l).stored)) is enters.refused.3 in (was.0, was.1, enters.refused.2));
    notes = notes-after IsOnUnit IsComing enters.unit.leaves (enters.unit.same refl) notes;
    on_card = if_told U.image _ (λ u told. notes-read (IsOnCard app vehicle e u) (IsComingOnCard app vehicle e u) false enters.refused.0.leaves (λ well. enters.refused.0.same refl));
    broken = kept-broken enters.cause;
  }

-- ---- a card that enters: it was revived, and told its sizes

module _ (e : Entering) (k : Keeper) (noted : ℕ) (o : Outcome) (U X M : State) (whole : IsCoherent M) (leaves : LeavesOnly X M Unchanged) where
  woken : (x : List ℕ) → X.image ≡ Some x → (y : List ℕ) × (M.image ≡ Some y)
  woken x is = told_too X.image M.image x (sym leaves.tells) is

  woken-broken : (failed : Bool) → HasCause (revivable X) M failed → HasBroken X M (0 + broken_by true failed)
  woken-broken failed cause = revive_broken failed (none_broken X) cause

  -- it went by its sizes
  module _ (clock : M.clock ≡ X.clock) (cause : HasCause (revivable X) M false) (app : Application) (failed : Bool) (v : Keeper) (noted_after : ℕ) (p : Outcome) (W Y : State) where
    abbrev Ended : Ending → Type 0
    Ended ending = IsJudgedSo app e failed (measured (Judged app ending) e k) v noted noted_after o p U W M Y ending

    clock-woken : (t : ℕ) → IsClock e t M Y → IsClock e t X Y
    clock-woken t c = record { low = let low = c.low in omega (arith, low, clock); high = c.high; near = c.near }

    ending-woken : (ending : Ending) → IsEnding ending app k.memory.registration e failed U.image M Y → IsEnding ending app k.memory.registration e failed U.image X Y
    ending-woken (Unfit fid place) is = is
    ending-woken (Ahead stored) is = is
    ending-woken Fell is = is
    ending-woken Unasked is = is
    ending-woken (Unnoted entered t) is = (is.0, is.1, clock-woken t is.2)
    ending-woken (Seated entered t entry) is = (is.0, is.1, clock-woken t is.2)
    ending-woken (Lost entered t entry) is = (is.0, is.1, clock-woken t is.2, is.3)

    pub entered-judged : IfSome M.image (λ x. own_sizes x ≡ app) → image_size_of app ≤ M.size → IsCoherent Y → (ending : Ending) → (IsSitting ending → Y.works ≡ true) → Ended ending → HasEntered e failed k v noted noted_after o p U W X Y (Judged app ending)
    entered-judged sized fits after ending sits j = record {
      is = ending-woken ending j.is;
      left = j.left;
      notes = j.notes;
      found = if_told X.image _ (λ x is.
          let here = woken x is in (
            here.0,
            revived whole leaves here.0 here.1,
            (at_image (λ (l : List ℕ). own_sizes l ≡ app) here.1 sized, at_image (IsFound app e.at.second U.image ending) here.1 j.found),
            λ well. if_told U.image _ (λ u told. at_image (λ (l : List ℕ). IfSome Y.image (AreOnCard (Judged app ending) k.memory.registration e u l)) here.1 ((noted-on u told ending j).whole well)),
          ));
      moments = if_told U.image _ (λ u told. goes_on (from_reads leaves) ((noted-on u told ending j).moments) (λ x y c was is here. (y, revived whole leaves y is, here)));
      broken = let few : falls_of ending ≤ 0 + falls_of ending = omega arith in fewer_broken few (both_broken (woken-broken false cause) j.broken);
      shows = if_told U.image _ (λ u told c left.
          let noted = noted-on u told ending j in
          let here : (y : List ℕ) × (M.image ≡ Some y) = ⊎_elim (λ before. (c, whole.only c cause.works before)) (λ one. (one.0, one.1)) (noted.moments.now c left) in
          let long : image_size_of app ≤ length here.0 = let all = whole.sized here.0 here.1 in omega (arith, fits, all) in (
            here.0,
            revived whole leaves here.0 here.1,
            at_image (λ (l : List ℕ). own_sizes l ≡ app) here.1 sized,
            brought-by app k.memory.registration e failed u here.0 M Y whole after cause.works here.1 long ending sits noted c left,
          ));
    }
      where
        noted-on : (u : List ℕ) → U.image ≡ Some u → (ending : Ending) → Ended ending
            → HasNoted (IsOnCard app k.memory.registration e u) (IsComingOnCard app k.memory.registration e u) (card_notes_by ending k.memory.registration e) (is_cut ending failed) M Y
        noted-on u told ending j = at_image (λ (u : List ℕ). HasNoted (IsOnCard app k.memory.registration e u) (IsComingOnCard app k.memory.registration e u) (card_notes_by ending k.memory.registration e) (is_cut ending failed) M Y) told j.on_card

  -- a field of them is bad
  pub entered-unsized : HasCause (revivable X) M false → (field : ℕ) (failed : Bool) (p : Outcome) (W : State) → IfSome M.image (λ x. first_bad_field (application_in x) ≡ Some field)
      → p ≡ outcome_by (ending_of (Unsized field)) e o → HasNoted IsOnUnit IsComing (notes_by (ending_of (Unsized field)) e noted (measured (Unsized field) e k).cabin) failed U W
      → HasEntered e failed k (measured (Unsized field) e k) noted noted o p U W X M (Unsized field)
  entered-unsized cause field failed p W bad told notes = record {
    is = tt;
    left = record { keeper = refl; count = refl; outcome = told };
    notes = notes;
    found = if_told X.image _ (λ x is.
        let here = woken x is in (
          here.0,
          revived whole leaves here.0 here.1,
          at_image (λ (l : List ℕ). first_bad_field (application_in l) ≡ Some field) here.1 bad,
          λ well. if_told U.image _ (λ u told. if_told M.image _ (λ z is_z. same-image here.0 z here.1 is_z)),
        ));
    moments = if_told U.image _ (λ u told. from_reads leaves);
    broken = woken-broken false cause;
    shows = if_told U.image _ (λ u told c left. only-left leaves c left);
  }
    where
      same-image : (y z : List ℕ) → M.image ≡ Some y → M.image ≡ Some z → z ≡ y
      same-image y z one two = cc

  -- it failed before
  pub entered-unread : IsCoherent X → HasCause (revivable X) M true → (failed : Bool) (v : Keeper) (breaks : Listed Break) (W : State) → v ≡ record k { cabin = cabin_by Fell e noted (measured Unread e k).cabin }
      → breaks ≡ with_lines (tear_of e.slot e.at ∷ []) o.breaks → HasNoted IsOnUnit IsComing (fault_of e (measured Unread e k).cabin ∷ []) failed U W
      → HasEntered e failed k v noted noted o (record o { breaks = breaks }) U W X M Unread
  entered-unread before cause failed v breaks W keeper told notes = record {
    is = tt;
    left = record {
      keeper = keeper;
      count = refl;
      outcome = ap (λ (l : Listed Break). record o { breaks = l }) told ∙ ap (λ (l : Listed Find). record o { breaks = with_lines (tear_of e.slot e.at ∷ []) o.breaks; finds = l }) (no-lines o.finds);
    };
    notes = notes;
    found = if_told X.image _ (λ x is. (x, before.is_left x is, tt, λ well. absurd (not_cut well)));
    moments = if_told U.image _ (λ u told. from_reads leaves);
    broken = woken-broken true cause;
    shows = if_told U.image _ (λ u told c left. only-left leaves c left);
  }
