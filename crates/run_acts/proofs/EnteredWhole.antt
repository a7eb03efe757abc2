-- A CARD THAT ENTERED is recorded, whatever became of it.
use Rattle.std.proofs.Common.{◌≡◌, ◌⊎◌, inl, inr, ⊎_elim, ℕ, ◌≤◌, Bool, false, Some, None, IfSome, List, [], ◌∷◌, ◌++◌, refl, ap, sym, subst, ◌∙◌, arith, append-nil}
use Rattle.std.specs.Prelude.{Ok, Err}
use Rattle.trace_model.specs.declared.Card.{Card}
use Rattle.trace_model.specs.Trace.{TraceSecond}
use Rattle.tach_media.specs.Medium.{State}
use Rattle.tach_media.proofs.Runs.{at_image}
use Rattle.minute_rules.specs.Kept.{Kept}
use Rattle.card_files.specs.card_layout.declared.files.Application.{Application}
use Rattle.card_files.specs.card_layout.declared.files.Fid.{Fid}
use Rattle.card_files.specs.card_layout.Application.{place_of_field}
use Rattle.hand_model.specs.card_image.Own.{own_view, IsOwnValid}
use Rattle.log_model.specs.declared.lines.Verdict.TheVariants.{Accepted, NotValid, TimeOverlap}
use Rattle.log_model.specs.Log.{In}
use Rattle.log_model.specs.Causes.{device_of}
use Rattle.log_model.specs.Course.{Visit}
use Rattle.device_calls.specs.device_rule.Rules.{Out}
use Rattle.device_calls.specs.safety_model.Recording.{card_image}
use Rattle.run_crew.specs.declared.cards.Cards.{Cards}
use Rattle.run_crew.specs.Cards.{with_session}
use Rattle.run_crew.specs.Cabin.{torn_out, with_sizes_of}
use Rattle.run_minutes.specs.run_promise.Found.{Found, found_of}
use Rattle.run_minutes.specs.run_promise.Cards.{IsUntouched}
use Rattle.run_minutes.specs.run_devices.Told.{AreFoundCards, arranged, card_marks, with_marks, with_standing}
use Rattle.run_minutes.proofs.run_devices.Known.{found-still}
use Rattle.run_minutes.proofs.run_devices.Parts.{told-one}
use Rattle.run_minutes.proofs.run_devices.Woken.{untouched-read}
use Rattle.run_outcome.specs.declared.outcome.Outcome.{Outcome}
use Rattle.run_minutes.specs.run_promise.Origin.{Origin}
use Rattle.run_minutes.specs.declared.keeper.Keeper.{Keeper}
use Rattle.run_minutes.specs.Keeping.{tear_of}
use Rattle.device_calls.specs.declared.entering.Entered.{Entered}
use Rattle.run_insertion.specs.declared.lines.Entering.{Entering}
use Rattle.run_insertion.specs.declared.waking.TheConstants.{UNTOLD}
use Rattle.run_insertion.specs.Entering.{Way, Unread, Unsized, Judged, Unfit, Ahead, Fell, Unasked, Unnoted, Seated, Lost, APPLICATION_FILE, ending_of, measured, cabin_by, outcome_by, find_of, seated, and_marks, last_of}
use Rattle.run_insertion.specs.Noted.{AreOnCard, is_cut}
use Rattle.run_insertion.specs.Entered.{IsFoundIn}
use Rattle.run_insertion.specs.Told.{IsCarriedOn, IsTakenOn, IsToldSo}
use Rattle.run_insertion.proofs.Carried.{number-still}
use Rattle.run_record.specs.Within.{RecordInSecond}
use Rattle.run_acts.specs.Entered.{values_with, MayJudge, HasGone, AreSound, GoesOnOrIsCut}
use Rattle.run_acts.proofs.EnteredFacts.{before, now-is, card-tells, card-began, known, left}
use Rattle.run_acts.proofs.EnteredLines.{lined-as, marks-are, values-as}
use Rattle.run_acts.proofs.EnteredTurned.{turned-away, torn-first, unasked}
use Rattle.run_acts.proofs.EnteredTaken.{unnoted, seated-so, lost-since}
use Rattle.run_acts.proofs.EnteredNewest.{answered, not-later}
use Rattle.run_acts.proofs.EnteredVerdict.{bad-sizes, bad-file, not-valid, later-time, accepted-may}

-- the numbers that cards have told go with them
found-before : (f : Found) (c : Card) (cards : Cards) → AreFoundCards f (with_session c None cards) → AreFoundCards f cards
found-before f c cards found = found-still f (with_session c None cards) cards (λ d. sym (number-still c None cards d)) found

module _ (o : Origin) (done : List TraceSecond) (s : TraceSecond) (n : ℕ) (waits fewer : List Visit) (e : Entering) (k : Keeper) (out : Outcome) (unfound next_ begun : ℕ) (minutes : Kept) (U X Z : State) (w : RecordInSecond o done s (In n) waits None [] (values_with k out unfound next_ begun minutes) (arranged e.which U X Z)) (m : MayJudge o done s n waits fewer e k out unfound next_ begun minutes U X Z w) where
  module _ (failed : Bool) (k' : Keeper) (noted noted' : ℕ) (out' : Outcome) (W Y : State) (way : Way) (g : HasGone e failed k k' noted noted' out out' U W X Y Z way) (sound : AreSound U W X Y) where
    -- keeper and lines behind it
    pub values-behind : values_with k' out' unfound next_ begun minutes ≡ values_with (record (measured way e k) { cabin = cabin_by (ending_of way) e noted (measured way e k).cabin }) (outcome_by (ending_of way) e out) unfound next_ begun minutes
    values-behind = values-as (record (measured way e k) { cabin = cabin_by (ending_of way) e noted (measured way e k).cabin }) k' (outcome_by (ending_of way) e out) out' unfound next_ begun minutes g.entered.left.keeper g.entered.left.outcome

    pub cards-behind : (P : Cards → Type 0) → P k'.cabin.cards → P (cabin_by (ending_of way) e noted (measured way e k).cabin).cards
    cards-behind P p = subst (λ (q : Keeper). P q.cabin.cards) g.entered.left.keeper p

    -- what its image was then
    pub found-in : (y : List ℕ) × X.may_leave y × IsFoundIn e.at.second U.image way y
    found-in =
        let x = told-one X.image (card-tells o done s n waits fewer e k out unfound next_ begun minutes U X Z w m) in
        let f = at_image (λ (x : List ℕ). (y : List ℕ) × X.may_leave y × IsFoundIn e.at.second U.image way y × (is_cut (ending_of way) failed ≡ false → IfSome U.image (λ u. IfSome Y.image (AreOnCard way k.memory.registration e u y)))) x.1 g.entered.found in
        (f.0, f.1, f.2)

    -- a card whose call failed is as it was, or told of no later time
    pub fell-in_time : IsUntouched (found_of o.found e.which) X → IsUntouched (found_of o.found e.which) Y ⊎ (IsOwnValid (card_image o.recording e.which) × ((own_view (card_image o.recording e.which)).stored ≤ s.number))
    fell-in_time same = ⊎_elim
        (λ still. inl still)
        (λ wrote. ⊎_elim
        (λ read. inl (untouched-read (found_of o.found e.which) X Y (card-began o done s n waits fewer e k out unfound next_ begun minutes U X Z w m) read same))
        (λ early.
        let x = told-one X.image (card-tells o done s n waits fewer e k out unfound next_ begun minutes U X Z w m) in
        let y = at_image (λ (x : List ℕ). (y : List ℕ) × X.may_leave y × ((own_view y).stored ≤ e.at.second)) x.1 early in
        let is : y.0 ≡ card_image o.recording e.which = same y.0 (sound.card_before.counts_now (found_of o.found e.which).began y.0 (card-began o done s n waits fewer e k out unfound next_ begun minutes U X Z w m) y.1) ∙ m.origin.image e.which in
        let stored : (own_view y.0).stored ≡ (own_view (card_image o.recording e.which)).stored = ap (λ (l : List ℕ). (own_view l).stored) is in
        let le = y.2 in
        let now = now-is o done s n waits fewer e k out unfound next_ begun minutes U X Z w m in
        inr (subst IsOwnValid (m.origin.image e.which) wrote.0, omega (arith, stored, le, now)))
        g.in_time)
        ((known o done s n waits fewer e k out unfound next_ begun minutes U X Z w m failed k' noted noted' out' W Y way g sound).untouched same)

module _ (o : Origin) (done : List TraceSecond) (s : TraceSecond) (n : ℕ) (waits fewer : List Visit) (e : Entering) (k : Keeper) (out : Outcome) (unfound next_ begun : ℕ) (minutes : Kept) (U X Z : State) (w : RecordInSecond o done s (In n) waits None [] (values_with k out unfound next_ begun minutes) (arranged e.which U X Z)) (m : MayJudge o done s n waits fewer e k out unfound next_ begun minutes U X Z w) where
  module _ (failed : Bool) (k' : Keeper) (noted noted' : ℕ) (out' : Outcome) (W Y : State) (sound : AreSound U W X Y) where
    abbrev Goes : Type 0
    Goes = GoesOnOrIsCut failed o done s n waits fewer (values_with k out unfound next_ begun minutes) (values_with k' out' unfound next_ begun minutes) (arranged e.which U X Z) (arranged e.which W Y Z) w

    -- ---- turned away

    unsized : (field : ℕ) → HasGone e failed k k' noted noted' out out' U W X Y Z (Unsized field) → Goes
    unsized field g =
        let y = found-in o done s n waits fewer e k out unfound next_ begun minutes U X Z w m failed k' noted noted' out' W Y (Unsized field) g sound in
        turned-away o done s n waits fewer e k out unfound next_ begun minutes U X Z w m failed k' noted noted' out' W Y (Unsized field) g sound (NotValid APPLICATION_FILE (place_of_field field)) refl (Err field)
        (cards-behind o done s n waits fewer e k out unfound next_ begun minutes U X Z w m failed k' noted noted' out' W Y (Unsized field) g sound (λ (q : Cards). AreFoundCards o.found q) (known o done s n waits fewer e k out unfound next_ begun minutes U X Z w m failed k' noted noted' out' W Y (Unsized field) g sound).found)
        (not-valid o done s n waits fewer e k out unfound next_ begun minutes U X Z w m sound.card_before sound.unit_before W Y (left o done s n waits fewer e k out unfound next_ begun minutes U X Z w m failed k' noted noted' out' W Y (Unsized field) g sound) APPLICATION_FILE (place_of_field field) y.0 y.1 (bad-sizes y.0 field y.2)) (λ never. never)
        refl (values-behind o done s n waits fewer e k out unfound next_ begun minutes U X Z w m failed k' noted noted' out' W Y (Unsized field) g sound ∙ lined-as (out.breaks.items ++ []) out.breaks.items out.refused.items (out.finds.items ++ find_of e (NotValid APPLICATION_FILE (place_of_field field)) ∷ []) _ out.marks.items out.marks.items (with_sizes_of e.which (Err field) k.cabin) unfound next_ begun minutes k.odometer (append-nil out.breaks.items) refl refl)
        (cards-behind o done s n waits fewer e k out unfound next_ begun minutes U X Z w m failed k' noted noted' out' W Y (Unsized field) g sound (λ (q : Cards). IsCarriedOn failed o.found (with_standing e.which Out (before o done s n waits fewer e k out unfound next_ begun minutes U X Z w m)) q (arranged e.which W Y Z)) (known o done s n waits fewer e k out unfound next_ begun minutes U X Z w m failed k' noted noted' out' W Y (Unsized field) g sound).taken)

    unfit : (app : Application) (fid : Fid) (place : ℕ) → HasGone e failed k k' noted noted' out out' U W X Y Z (Judged app (Unfit fid place)) → Goes
    unfit app fid place g =
        let y = found-in o done s n waits fewer e k out unfound next_ begun minutes U X Z w m failed k' noted noted' out' W Y (Judged app (Unfit fid place)) g sound in
        turned-away o done s n waits fewer e k out unfound next_ begun minutes U X Z w m failed k' noted noted' out' W Y (Judged app (Unfit fid place)) g sound (NotValid fid place) refl (Ok app)
        (cards-behind o done s n waits fewer e k out unfound next_ begun minutes U X Z w m failed k' noted noted' out' W Y (Judged app (Unfit fid place)) g sound (λ (q : Cards). AreFoundCards o.found q) (known o done s n waits fewer e k out unfound next_ begun minutes U X Z w m failed k' noted noted' out' W Y (Judged app (Unfit fid place)) g sound).found)
        (not-valid o done s n waits fewer e k out unfound next_ begun minutes U X Z w m sound.card_before sound.unit_before W Y (left o done s n waits fewer e k out unfound next_ begun minutes U X Z w m failed k' noted noted' out' W Y (Judged app (Unfit fid place)) g sound) fid place y.0 y.1 (bad-file app y.0 (Some (fid, place)) y.2.0 y.2.1)) (λ never. never)
        refl (values-behind o done s n waits fewer e k out unfound next_ begun minutes U X Z w m failed k' noted noted' out' W Y (Judged app (Unfit fid place)) g sound ∙ lined-as (out.breaks.items ++ []) out.breaks.items out.refused.items (out.finds.items ++ find_of e (NotValid fid place) ∷ []) _ out.marks.items out.marks.items (with_sizes_of e.which (Ok app) k.cabin) unfound next_ begun minutes k.odometer (append-nil out.breaks.items) refl refl)
        (cards-behind o done s n waits fewer e k out unfound next_ begun minutes U X Z w m failed k' noted noted' out' W Y (Judged app (Unfit fid place)) g sound (λ (q : Cards). IsCarriedOn failed o.found (with_standing e.which Out (before o done s n waits fewer e k out unfound next_ begun minutes U X Z w m)) q (arranged e.which W Y Z)) (known o done s n waits fewer e k out unfound next_ begun minutes U X Z w m failed k' noted noted' out' W Y (Judged app (Unfit fid place)) g sound).taken)

    ahead : (app : Application) (stored : ℕ) → HasGone e failed k k' noted noted' out out' U W X Y Z (Judged app (Ahead stored)) → Goes
    ahead app stored g =
        let y = found-in o done s n waits fewer e k out unfound next_ begun minutes U X Z w m failed k' noted noted' out' W Y (Judged app (Ahead stored)) g sound in
        let lt = y.2.1.2 in
        let now = now-is o done s n waits fewer e k out unfound next_ begun minutes U X Z w m in
        turned-away o done s n waits fewer e k out unfound next_ begun minutes U X Z w m failed k' noted noted' out' W Y (Judged app (Ahead stored)) g sound (TimeOverlap stored e.at.second) refl (Ok app)
        (cards-behind o done s n waits fewer e k out unfound next_ begun minutes U X Z w m failed k' noted noted' out' W Y (Judged app (Ahead stored)) g sound (λ (q : Cards). AreFoundCards o.found q) (known o done s n waits fewer e k out unfound next_ begun minutes U X Z w m failed k' noted noted' out' W Y (Judged app (Ahead stored)) g sound).found)
        (later-time o done s n waits fewer e k out unfound next_ begun minutes U X Z w m sound.card_before sound.unit_before W Y (left o done s n waits fewer e k out unfound next_ begun minutes U X Z w m failed k' noted noted' out' W Y (Judged app (Ahead stored)) g sound) app stored y.0 y.1 y.2.0 y.2.1.0 y.2.1.1 (omega (arith, lt, now))) (λ never. never)
        refl (values-behind o done s n waits fewer e k out unfound next_ begun minutes U X Z w m failed k' noted noted' out' W Y (Judged app (Ahead stored)) g sound ∙ lined-as (out.breaks.items ++ []) out.breaks.items out.refused.items (out.finds.items ++ find_of e (TimeOverlap stored e.at.second) ∷ []) _ out.marks.items out.marks.items (with_sizes_of e.which (Ok app) k.cabin) unfound next_ begun minutes k.odometer (append-nil out.breaks.items) refl refl)
        (cards-behind o done s n waits fewer e k out unfound next_ begun minutes U X Z w m failed k' noted noted' out' W Y (Judged app (Ahead stored)) g sound (λ (q : Cards). IsCarriedOn failed o.found (with_standing e.which Out (before o done s n waits fewer e k out unfound next_ begun minutes U X Z w m)) q (arranged e.which W Y Z)) (known o done s n waits fewer e k out unfound next_ begun minutes U X Z w m failed k' noted noted' out' W Y (Judged app (Ahead stored)) g sound).taken)

    -- ---- torn out

    unread : HasGone e failed k k' noted noted' out out' U W X Y Z Unread → Goes
    unread g = torn-first o done s n waits fewer e k out unfound next_ begun minutes U X Z w m failed k' noted noted' out' W Y Unread g sound (Err UNTOLD)
        (cards-behind o done s n waits fewer e k out unfound next_ begun minutes U X Z w m failed k' noted noted' out' W Y Unread g sound (λ (q : Cards). AreFoundCards o.found q) (known o done s n waits fewer e k out unfound next_ begun minutes U X Z w m failed k' noted noted' out' W Y Unread g sound).found) g.entered.broken (fell-in_time o done s n waits fewer e k out unfound next_ begun minutes U X Z w m failed k' noted noted' out' W Y Unread g sound)
        (values-behind o done s n waits fewer e k out unfound next_ begun minutes U X Z w m failed k' noted noted' out' W Y Unread g sound ∙ lined-as (out.breaks.items ++ tear_of e.slot e.at ∷ []) _ out.refused.items (out.finds.items ++ []) out.finds.items out.marks.items out.marks.items (torn_out e.which e.at.second (with_sizes_of e.which (Err UNTOLD) k.cabin)) unfound next_ begun minutes k.odometer refl (append-nil out.finds.items) refl)
        (cards-behind o done s n waits fewer e k out unfound next_ begun minutes U X Z w m failed k' noted noted' out' W Y Unread g sound (λ (q : Cards). IsCarriedOn failed o.found (with_standing e.which Out (before o done s n waits fewer e k out unfound next_ begun minutes U X Z w m)) q (arranged e.which W Y Z)) (known o done s n waits fewer e k out unfound next_ begun minutes U X Z w m failed k' noted noted' out' W Y Unread g sound).taken)

    fell : (app : Application) → HasGone e failed k k' noted noted' out out' U W X Y Z (Judged app Fell) → Goes
    fell app g = torn-first o done s n waits fewer e k out unfound next_ begun minutes U X Z w m failed k' noted noted' out' W Y (Judged app Fell) g sound (Ok app)
        (cards-behind o done s n waits fewer e k out unfound next_ begun minutes U X Z w m failed k' noted noted' out' W Y (Judged app Fell) g sound (λ (q : Cards). AreFoundCards o.found q) (known o done s n waits fewer e k out unfound next_ begun minutes U X Z w m failed k' noted noted' out' W Y (Judged app Fell) g sound).found) g.entered.broken (fell-in_time o done s n waits fewer e k out unfound next_ begun minutes U X Z w m failed k' noted noted' out' W Y (Judged app Fell) g sound)
        (values-behind o done s n waits fewer e k out unfound next_ begun minutes U X Z w m failed k' noted noted' out' W Y (Judged app Fell) g sound ∙ lined-as (out.breaks.items ++ tear_of e.slot e.at ∷ []) _ out.refused.items (out.finds.items ++ []) out.finds.items out.marks.items out.marks.items (torn_out e.which e.at.second (with_sizes_of e.which (Ok app) k.cabin)) unfound next_ begun minutes k.odometer refl (append-nil out.finds.items) refl)
        (cards-behind o done s n waits fewer e k out unfound next_ begun minutes U X Z w m failed k' noted noted' out' W Y (Judged app Fell) g sound (λ (q : Cards). IsCarriedOn failed o.found (with_standing e.which Out (before o done s n waits fewer e k out unfound next_ begun minutes U X Z w m)) q (arranged e.which W Y Z)) (known o done s n waits fewer e k out unfound next_ begun minutes U X Z w m failed k' noted noted' out' W Y (Judged app Fell) g sound).taken)

    not-asked : (app : Application) → HasGone e failed k k' noted noted' out out' U W X Y Z (Judged app Unasked) → Goes
    not-asked app g = unasked o done s n waits fewer e k out unfound next_ begun minutes U X Z w m failed k' noted noted' out' W Y (Judged app Unasked) g sound refl (Ok app)
        (cards-behind o done s n waits fewer e k out unfound next_ begun minutes U X Z w m failed k' noted noted' out' W Y (Judged app Unasked) g sound (λ (q : Cards). AreFoundCards o.found q) (known o done s n waits fewer e k out unfound next_ begun minutes U X Z w m failed k' noted noted' out' W Y (Judged app Unasked) g sound).found) (λ never. never) g.entered.is
        (values-behind o done s n waits fewer e k out unfound next_ begun minutes U X Z w m failed k' noted noted' out' W Y (Judged app Unasked) g sound ∙ lined-as (out.breaks.items ++ []) out.breaks.items out.refused.items (out.finds.items ++ []) out.finds.items out.marks.items out.marks.items (with_sizes_of e.which (Ok app) k.cabin) unfound next_ begun minutes k.odometer (append-nil out.breaks.items) (append-nil out.finds.items) refl)
        (known o done s n waits fewer e k out unfound next_ begun minutes U X Z w m failed k' noted noted' out' W Y (Judged app Unasked) g sound).taken

    -- ---- accepted

    module _ (app : Application) (entered : Entered) (clock : ℕ) where
      -- the marks of all entries that were owed
      all-marked : IsToldSo o.found (with_standing e.which Out (before o done s n waits fewer e k out unfound next_ begun minutes U X Z w m)) e entered U X → (and_marks (device_of e.which) clock (last_of entered.owed.items entered.replayed) out.marks).items ≡ out.marks.items ++ card_marks e.which clock entered.owed.items
      all-marked told = let room = m.room in let most = told.most in marks-are e.which clock entered.owed.items entered.replayed out.marks told.whole (omega (arith, room, most))

      not-noted : HasGone e failed k k' noted noted' out out' U W X Y Z (Judged app (Unnoted entered clock)) → Goes
      not-noted g =
          let r = known o done s n waits fewer e k out unfound next_ begun minutes U X Z w m failed k' noted noted' out' W Y (Judged app (Unnoted entered clock)) g sound in
          unnoted o done s n waits fewer e k out unfound next_ begun minutes U X Z w m failed k' noted noted' out' W Y (Judged app (Unnoted entered clock)) g sound entered clock r.told (answered o done s n waits fewer e k out unfound next_ begun minutes U X Z w m sound.card_before entered r.told) (not-later o done s n waits fewer e k out unfound next_ begun minutes U X Z w m sound.card_before entered r.told)
          (accepted-may o done s n waits fewer e k out unfound next_ begun minutes U X Z w m sound.card_before sound.unit_before W Y (left o done s n waits fewer e k out unfound next_ begun minutes U X Z w m failed k' noted noted' out' W Y (Judged app (Unnoted entered clock)) g sound) entered clock r.told) (Ok app)
          (cards-behind o done s n waits fewer e k out unfound next_ begun minutes U X Z w m failed k' noted noted' out' W Y (Judged app (Unnoted entered clock)) g sound (λ (q : Cards). AreFoundCards o.found q) r.found) refl g.entered.is.0
          (values-behind o done s n waits fewer e k out unfound next_ begun minutes U X Z w m failed k' noted noted' out' W Y (Judged app (Unnoted entered clock)) g sound ∙ lined-as (out.breaks.items ++ []) out.breaks.items out.refused.items (out.finds.items ++ find_of e (Accepted entered.replayed) ∷ []) _ (and_marks (device_of e.which) clock (last_of entered.owed.items entered.replayed) out.marks).items (out.marks.items ++ card_marks e.which clock entered.owed.items) (with_sizes_of e.which (Ok app) k.cabin) unfound next_ begun minutes k.odometer (append-nil out.breaks.items) refl (all-marked r.told))
          r.taken

      module _ (entry : ℕ) where
        is-seated : HasGone e failed k k' noted noted' out out' U W X Y Z (Judged app (Seated entered clock entry)) → Goes
        is-seated g =
            let r = known o done s n waits fewer e k out unfound next_ begun minutes U X Z w m failed k' noted noted' out' W Y (Judged app (Seated entered clock entry)) g sound in
            seated-so o done s n waits fewer e k out unfound next_ begun minutes U X Z w m failed k' noted noted' out' W Y (Judged app (Seated entered clock entry)) g sound entered clock r.told (answered o done s n waits fewer e k out unfound next_ begun minutes U X Z w m sound.card_before entered r.told) (not-later o done s n waits fewer e k out unfound next_ begun minutes U X Z w m sound.card_before entered r.told)
            (accepted-may o done s n waits fewer e k out unfound next_ begun minutes U X Z w m sound.card_before sound.unit_before W Y (left o done s n waits fewer e k out unfound next_ begun minutes U X Z w m failed k' noted noted' out' W Y (Judged app (Seated entered clock entry)) g sound) entered clock r.told) entry (Ok app)
            (cards-behind o done s n waits fewer e k out unfound next_ begun minutes U X Z w m failed k' noted noted' out' W Y (Judged app (Seated entered clock entry)) g sound (λ (q : Cards). AreFoundCards o.found q) r.found)
            refl (values-behind o done s n waits fewer e k out unfound next_ begun minutes U X Z w m failed k' noted noted' out' W Y (Judged app (Seated entered clock entry)) g sound ∙ lined-as (out.breaks.items ++ []) out.breaks.items out.refused.items (out.finds.items ++ find_of e (Accepted entered.replayed) ∷ []) _ (and_marks (device_of e.which) clock (last_of entered.owed.items entered.replayed) out.marks).items (out.marks.items ++ card_marks e.which clock entered.owed.items) (seated entered.look entered.session entered.row entry noted e (with_sizes_of e.which (Ok app) k.cabin)) unfound next_ begun minutes k.odometer (append-nil out.breaks.items) refl (all-marked r.told))
            (cards-behind o done s n waits fewer e k out unfound next_ begun minutes U X Z w m failed k' noted noted' out' W Y (Judged app (Seated entered clock entry)) g sound (λ (q : Cards). IsTakenOn (Seated entered clock entry) failed e k.journal.kept o.found (with_marks (card_marks e.which clock entered.owed.items) (with_standing e.which Out (before o done s n waits fewer e k out unfound next_ begun minutes U X Z w m))) q (arranged e.which W Y Z)) r.taken)

        is-lost : HasGone e failed k k' noted noted' out out' U W X Y Z (Judged app (Lost entered clock entry)) → Goes
        is-lost g =
            let r = known o done s n waits fewer e k out unfound next_ begun minutes U X Z w m failed k' noted noted' out' W Y (Judged app (Lost entered clock entry)) g sound in
            let found = cards-behind o done s n waits fewer e k out unfound next_ begun minutes U X Z w m failed k' noted noted' out' W Y (Judged app (Lost entered clock entry)) g sound (λ (q : Cards). AreFoundCards o.found q) r.found in
            lost-since o done s n waits fewer e k out unfound next_ begun minutes U X Z w m failed k' noted noted' out' W Y (Judged app (Lost entered clock entry)) g sound entered clock r.told (answered o done s n waits fewer e k out unfound next_ begun minutes U X Z w m sound.card_before entered r.told) (not-later o done s n waits fewer e k out unfound next_ begun minutes U X Z w m sound.card_before entered r.told)
            (accepted-may o done s n waits fewer e k out unfound next_ begun minutes U X Z w m sound.card_before sound.unit_before W Y (left o done s n waits fewer e k out unfound next_ begun minutes U X Z w m failed k' noted noted' out' W Y (Judged app (Lost entered clock entry)) g sound) entered clock r.told) entry (Ok app)
            (found-before o.found e.which (seated entered.look entered.session entered.row entry noted e (with_sizes_of e.which (Ok app) k.cabin)).cards found) found g.entered.broken
            (values-behind o done s n waits fewer e k out unfound next_ begun minutes U X Z w m failed k' noted noted' out' W Y (Judged app (Lost entered clock entry)) g sound ∙ lined-as (out.breaks.items ++ tear_of e.slot e.at ∷ []) _ out.refused.items (out.finds.items ++ find_of e (Accepted entered.replayed) ∷ []) _ (and_marks (device_of e.which) clock (last_of entered.owed.items entered.replayed) out.marks).items (out.marks.items ++ card_marks e.which clock entered.owed.items) (torn_out e.which e.at.second (seated entered.look entered.session entered.row entry noted e (with_sizes_of e.which (Ok app) k.cabin))) unfound next_ begun minutes k.odometer refl refl (all-marked r.told))
            (cards-behind o done s n waits fewer e k out unfound next_ begun minutes U X Z w m failed k' noted noted' out' W Y (Judged app (Lost entered clock entry)) g sound (λ (q : Cards). IsTakenOn (Lost entered clock entry) failed e k.journal.kept o.found (with_marks (card_marks e.which clock entered.owed.items) (with_standing e.which Out (before o done s n waits fewer e k out unfound next_ begun minutes U X Z w m))) q (arranged e.which W Y Z)) r.taken)

    -- BY THE WAY that it entered
    pub entered-recorded : (way : Way) → HasGone e failed k k' noted noted' out out' U W X Y Z way → GoesOnOrIsCut failed o done s n waits fewer (values_with k out unfound next_ begun minutes) (values_with k' out' unfound next_ begun minutes) (arranged e.which U X Z) (arranged e.which W Y Z) w
    entered-recorded Unread g = unread g
    entered-recorded (Unsized field) g = unsized field g
    entered-recorded (Judged app (Unfit fid place)) g = unfit app fid place g
    entered-recorded (Judged app (Ahead stored)) g = ahead app stored g
    entered-recorded (Judged app Fell) g = fell app g
    entered-recorded (Judged app Unasked) g = not-asked app g
    entered-recorded (Judged app (Unnoted entered clock)) g = not-noted app entered clock g
    entered-recorded (Judged app (Seated entered clock entry)) g = is-seated app entered clock entry g
    entered-recorded (Judged app (Lost entered clock entry)) g = is-lost app entered clock entry g
