-- What is noted with an accepted card, over plain states.
use Rattle.std.proofs.Common.{◌≡◌, ◌≢◌, ◌∙◌, inl, ℕ, ◌+◌, ◌<◌, ◌≤◌, Bool, true, false, Option, Some, None, IfSome, List, [], ◌∷◌, refl, ap, sym, subst, arith}
use Rattle.std.specs.Prelude.{◌||◌, if◌then◌else◌}
use Rattle.tach_media.specs.Medium.{State, LeavesOnly, HasCause, HasBroken}
use Rattle.tach_media.proofs.Runs.{weaken}
use Rattle.tach_media.proofs.Breakdowns.{none_broken}
use Rattle.card_layout.specs.declared.files.Application.{Application}
use Rattle.log_model.specs.declared.lines.Break.{Break}
use Rattle.log_model.specs.declared.lines.Find.{Find}
use Rattle.log_model.specs.declared.lines.Mark.{Mark}
use Rattle.log_model.specs.declared.lines.Verdict.TheVariants as verdict
use Rattle.unit_notes.specs.event_model.declared.kinds.TheConstants.{INSERTION_WHILE_DRIVING, SESSION_NOT_CLOSED}
use Rattle.run_events.specs.card_files.declared.card_event.CardEvent.{CardEvent}
use Rattle.run_events.specs.card_files.Noting as card
use Rattle.unit_notes.specs.declared.unit_event.UnitEvent.{UnitEvent}
use Rattle.run_minutes.specs.unit_memory.declared.format.Identity.{Identity}
use Rattle.run_crew.specs.declared.cards.Crew.{Crew}
use Rattle.run_events.specs.Entries.{entry_of, card_entry}
use Rattle.device_calls.specs.declared.entering.Entered.{Entered}
use Rattle.run_outcome.specs.Lines.{Listed}
use Rattle.run_outcome.specs.declared.outcome.Outcome.{Outcome}
use Rattle.run_minutes.specs.declared.keeper.Keeper.{Keeper}
use Rattle.run_minutes.specs.Keeping.{with_lines}
use Rattle.run_minutes.proofs.Fates.{no-lines}
use Rattle.run_insertion.specs.declared.lines.Entering.{Entering}
use Rattle.run_insertion.specs.Entering.{and_one, seated, fallen, fallen_breaks, find_of, taken_as, replayed_marks, outcome_by}
use Rattle.run_insertion.specs.Noted.{HasNoted, IsOnUnit, IsComing, IsOnCard, IsComingOnCard, Shows, event_of, fault_of, moving_event, seat_notes, notes_with, unclosed_notes, moving_on_card}
use Rattle.run_insertion.specs.Entered.{IsMoved, IsNotedOn, IsSeated, IsEntry, IsTaken, writes_behind}
use Rattle.run_insertion.proofs.Notes.{one-note, lt_some, no-notes, notes-then, notes-cut, notes-maybe, notes-as, notes-unbegun, unclosed-none, unclosed-some, with-moved, with-rest, card-moving, card-resting}

-- ---- how often a card failed

pub kept-broken : {X Y : State} → HasCause X Y false → HasBroken X Y 0
kept-broken cause = record { faults = cause.faults; breakdowns = omega (arith, cause.breakdowns) }

pub fell-broken : {X Y : State} → X.works ≡ true → HasCause X Y true → HasBroken X Y 1
fell-broken works cause = record { faults = cause.faults; breakdowns = omega (arith, cause.breaks works refl) }

not_failed : false ≡ true → ⊥
not_failed e = cc

none-falls : ◌≡◌ {A = ℕ} 0 1 → ⊥
none-falls e = cc

or_false : (b : Bool) → (b || false) ≡ b
or_false true = refl
or_false false = refl

pub or_true : (b : Bool) → (b || true) ≡ false → ⊥
or_true true e = cc
or_true false e = cc

maybe-cut : {T : Type 0} (done moment : T → List ℕ → List ℕ → Type 0) {ns : List T} (failed cut : Bool) {X Y : State} → HasNoted done moment ns cut X Y → HasNoted done moment ns (failed || cut) X Y
maybe-cut done moment true cut run = notes-maybe done moment run
maybe-cut done moment false cut run = run

-- ---- that the vehicle moves

pub event-is : (event : CardEvent) (told : UnitEvent) (known : Identity) (identity : Identity) (e : Entering) (crew : Crew) → event ≡ card_entry told known.registration
    → told ≡ entry_of INSERTION_WHILE_DRIVING e.at.second e.at.second crew crew → known ≡ identity → event ≡ moving_event identity.registration e
event-is event told known identity e crew one two three =
    one ∙ ap (λ (u : UnitEvent). card_entry u known.registration) two ∙ ap (λ (i : Identity). card_entry (entry_of INSERTION_WHILE_DRIVING e.at.second e.at.second crew crew) i.registration) three

module _ (app : Application) (e : Entering) (k : Keeper) (breaks : Listed Break) (U V X : State) where
  -- the unit failed
  pub moved-cut : HasNoted IsOnUnit IsComing (event_of INSERTION_WHILE_DRIVING e.at.second e.at.second k.cabin ∷ []) true U V → IsMoved app e true k k breaks breaks U V X X false
  moved-cut notes = record {
    keeper = refl;
    told = no-lines breaks;
    notes = notes;
    on_card = λ u. notes-unbegun (IsOnCard app k.memory.registration e u) (IsComingOnCard app k.memory.registration e u) (Shows (moving_event k.memory.registration e) ∷ []) X;
    broken = none_broken X;
    later = omega arith;
    near = omega arith;
  }

  module _ (Y : State) (event : CardEvent) (is : event ≡ moving_event k.memory.registration e) (run : LeavesOnly X Y (card.IsNotingEvent app event)) (near : Y.clock ≤ X.clock + 4) (notes : HasNoted IsOnUnit IsComing (event_of INSERTION_WHILE_DRIVING e.at.second e.at.second k.cabin ∷ []) false U V) where
    -- both have it
    pub moved-kept : IfSome X.image (λ x. IfSome Y.image (card.IsEventNoted app event x)) → HasCause X Y false → IsMoved app e false k k breaks breaks U V X Y false
    moved-kept noted cause = record {
      keeper = refl;
      told = no-lines breaks;
      notes = notes;
      on_card = λ u. subst (λ (v : CardEvent). HasNoted (IsOnCard app k.memory.registration e u) (IsComingOnCard app k.memory.registration e u) (Shows v ∷ []) false X Y) is
          (one-note (IsOnCard app k.memory.registration e u) (IsComingOnCard app k.memory.registration e u) (Shows event) (λ well. noted) run);
      broken = kept-broken cause;
      later = run.later;
      near = near;
    }

    -- the card failed
    pub moved-torn : (failed : Bool) (v : Keeper) (breaks_after : Listed Break) (W : State) → X.works ≡ true → HasCause X Y true → v ≡ fallen true e k → breaks_after ≡ with_lines (fallen_breaks true e) breaks
        → HasNoted IsOnUnit IsComing (fault_of e k.cabin ∷ []) failed V W → IsMoved app e failed k v breaks breaks_after U W X Y true
    moved-torn failed v breaks_after W works cause keeper told next = record {
      keeper = keeper;
      told = told;
      notes = notes-then IsOnUnit IsComing notes next;
      on_card = λ u. record {
        whole = λ well. absurd (or_true failed well);
        moments = weaken run (λ x c was here. inl (subst (λ (v : CardEvent). card.IsNotingEvent app v x c) is here));
      };
      broken = fell-broken works cause;
      later = run.later;
      near = near;
    }

-- ---- what comes with it

moving-writes : (e : Entering) → 0 < e.speed → writes_behind e ≡ 4
moving-writes e some = ap (λ (b : Bool). if b then 4 else 0) (lt_some e.speed some)

module _ (app : Application) (session : ℕ) (e : Entering) (k v : Keeper) (breaks breaks_after : Listed Break) (U V X Y : State) (fell : Bool) (moves : 0 < e.speed) where
  moved-as : (failed cut : Bool) (W : State) → IsMoved app e cut k v breaks breaks_after U V X Y fell → HasNoted IsOnUnit IsComing (notes_with fell session e k.cabin) failed U W
      → ((u : List ℕ) → HasNoted (IsOnCard app k.memory.registration e u) (IsComingOnCard app k.memory.registration e u) (moving_on_card k.memory.registration e) (failed || fell) X Y)
      → IsNotedOn app session e failed k v breaks breaks_after U W X Y fell
  moved-as failed cut W m notes card = record {
    keeper = m.keeper;
    told = m.told;
    notes = notes;
    on_card = card;
    broken = m.broken;
    later = m.later;
    near = let four = moving-writes e moves in let near = m.near in omega (arith, four, near);
    moves = λ fell_. moves;
  }

  on-card : (failed : Bool) → IsMoved app e false k v breaks breaks_after U V X Y fell → (u : List ℕ) → HasNoted (IsOnCard app k.memory.registration e u) (IsComingOnCard app k.memory.registration e u) (moving_on_card k.memory.registration e) (failed || fell) X Y
  on-card failed m u = maybe-cut _ _ failed fell (notes-as _ _ (card-moving k.memory.registration e moves) (m.on_card u))

  -- the unit failed in it
  pub entered-cut : IsMoved app e true k v breaks breaks_after U V X Y fell → IsNotedOn app session e true k v breaks breaks_after U V X Y fell
  entered-cut m =
      moved-as true true V m (notes-as IsOnUnit IsComing (with-moved fell session e k.cabin moves) (notes-cut IsOnUnit IsComing (unclosed_notes session e k.cabin) m.notes))
      (λ u. notes-as _ _ (card-moving k.memory.registration e moves) (m.on_card u))

  -- or it is all
  pub entered-closed : session ≡ 0 → IsMoved app e false k v breaks breaks_after U V X Y fell → IsNotedOn app session e false k v breaks breaks_after U V X Y fell
  entered-closed none m =
      moved-as false false V m (
      notes-as IsOnUnit IsComing (with-moved fell session e k.cabin moves)
      (notes-then IsOnUnit IsComing m.notes (notes-as IsOnUnit IsComing (sym (unclosed-none session e k.cabin none)) (no-notes IsOnUnit IsComing false V)))
      ) (on-card false m)

  -- or more is noted
  pub entered-unclosed : (failed : Bool) (W : State) → session ≢ 0 → IsMoved app e false k v breaks breaks_after U V X Y fell → HasNoted IsOnUnit IsComing (event_of SESSION_NOT_CLOSED session e.at.second k.cabin ∷ []) failed V W
      → IsNotedOn app session e failed k v breaks breaks_after U W X Y fell
  entered-unclosed failed W some m next =
      moved-as failed false W m (
      notes-as IsOnUnit IsComing (with-moved fell session e k.cabin moves)
      (notes-then IsOnUnit IsComing m.notes (notes-as IsOnUnit IsComing (sym (unclosed-some session e k.cabin some)) next))
      ) (on-card failed m)

-- a vehicle that stands
module _ (app : Application) (session : ℕ) (e : Entering) (k : Keeper) (breaks : Listed Break) (U V X : State) (rests : e.speed ≤ 0) (failed : Bool) where
  rested : HasNoted IsOnUnit IsComing (unclosed_notes session e k.cabin) failed U V → IsNotedOn app session e failed k k breaks breaks U V X X false
  rested notes = record {
    keeper = refl;
    told = no-lines breaks;
    notes = notes-as IsOnUnit IsComing (with-rest session e k.cabin rests) notes;
    on_card = λ u. notes-as _ _ (card-resting k.memory.registration e rests) (no-notes (IsOnCard app k.memory.registration e u) (IsComingOnCard app k.memory.registration e u) (failed || false) X);
    broken = none_broken X;
    later = omega arith;
    near = omega arith;
    moves = λ fell_. absurd (not_failed fell_);
  }

  pub rests-unclosed : session ≢ 0 → HasNoted IsOnUnit IsComing (event_of SESSION_NOT_CLOSED session e.at.second k.cabin ∷ []) failed U V → IsNotedOn app session e failed k k breaks breaks U V X X false
  rests-unclosed some next = rested (notes-as IsOnUnit IsComing (sym (unclosed-some session e k.cabin some)) next)

pub rests-closed : (app : Application) (session : ℕ) (e : Entering) (k : Keeper) (breaks : Listed Break) (U X : State) → e.speed ≤ 0 → session ≡ 0 → IsNotedOn app session e false k k breaks breaks U U X X false
rests-closed app session e k breaks U X rests none =
    rested app session e k breaks U U X rests false (notes-as IsOnUnit IsComing (sym (unclosed-none session e k.cabin none)) (no-notes IsOnUnit IsComing false U))

-- ---- it is seated

outcome-as : (o : Outcome) (marks : Listed Mark) (breaks : Listed Break) (finds : Listed Find) (marks' : Listed Mark) (breaks' : Listed Break) (finds' : Listed Find) → marks ≡ marks' → breaks ≡ breaks' → finds ≡ finds'
    → record o { marks = marks; breaks = breaks; finds = finds } ≡ record o { marks = marks'; breaks = breaks'; finds = finds' }
outcome-as o marks breaks finds marks' breaks' finds' one two three =
    ap (λ (l : Listed Mark). record o { marks = l; breaks = breaks; finds = finds }) one
    ∙ ap (λ (l : Listed Break). record o { marks = marks'; breaks = l; finds = finds }) two
    ∙ ap (λ (l : Listed Find). record o { marks = marks'; breaks = breaks'; finds = l }) three

module _ (app : Application) (e : Entering) (entered : Entered) (clock : ℕ) (k : Keeper) (noted : ℕ) (o : Outcome) (marks : Listed Mark) (finds : Listed Find)
    (marked : marks ≡ replayed_marks entered clock e o.marks) (found : finds ≡ with_lines (find_of e (verdict.Accepted entered.replayed) ∷ []) o.finds) where
  taken-outcome : (fell : Bool) (entry : ℕ) (breaks : Listed Break) → breaks ≡ with_lines (fallen_breaks fell e) o.breaks
      → record o { marks = marks; breaks = breaks; finds = finds } ≡ outcome_by (taken_as fell entered clock (Some entry)) e o
  taken-outcome false entry breaks told = outcome-as o marks breaks finds _ _ _ marked told found
  taken-outcome true entry breaks told = outcome-as o marks breaks finds _ _ _ marked told found

  -- the unit failed as it was seated
  pub taken-cut : (v : Keeper) (noted_after : ℕ) (U V X : State) (entry : Option ℕ) → IsSeated entered.look entered.session entered.row e true k v noted noted_after U V entry
      → IsEntry entry true U.image × IsTaken app e true k v noted noted_after o (record o { marks = marks; finds = finds }) U V X X (taken_as false entered clock entry)
  taken-cut v noted_after U V X None s = (
    refl,
    record {
      left = record { keeper = s.by.1; count = s.by.2; outcome = outcome-as o marks o.breaks finds _ _ _ marked (no-lines o.breaks) found };
      notes = s.notes;
      on_card = λ u. no-notes (IsOnCard app k.memory.registration e u) (IsComingOnCard app k.memory.registration e u) false X;
      broken = none_broken X;
      later = omega arith;
      near = omega arith;
      moves = λ falls. absurd (none-falls falls);
    },
  )
  taken-cut v noted_after U V X (Some entry) s = (
    s.by.0,
    record {
      left = record { keeper = s.by.1; count = s.by.2; outcome = outcome-as o marks o.breaks finds _ _ _ marked (no-lines o.breaks) found };
      notes = notes-cut IsOnUnit IsComing (notes_with false entered.look.session e (seated entered.look entered.session entered.row entry noted e k.cabin)) s.notes;
      on_card = λ u. notes-unbegun (IsOnCard app k.memory.registration e u) (IsComingOnCard app k.memory.registration e u) (moving_on_card k.memory.registration e) X;
      broken = none_broken X;
      later = omega arith;
      near = omega arith;
      moves = λ falls. absurd (none-falls falls);
    },
  )

  -- it is seated, and more is noted
  seated-taken : (fell failed : Bool) (v : Keeper) (noted_after : ℕ) (breaks : Listed Break) (U V W X Y : State) (entry : ℕ) → noted_after ≡ and_one noted → HasNoted IsOnUnit IsComing (seat_notes entered.look e k.cabin (Some entry)) false U V
      → IsNotedOn app entered.look.session e failed (record k { cabin = seated entered.look entered.session entered.row entry noted e k.cabin }) v o.breaks breaks V W X Y fell
      → IsTaken app e failed k v noted noted_after o (record o { marks = marks; breaks = breaks; finds = finds }) U W X Y (taken_as fell entered clock (Some entry))
  seated-taken false failed v noted_after breaks U V W X Y entry counted seat m = record {
    left = record { keeper = m.keeper; count = counted; outcome = taken-outcome false entry breaks m.told };
    notes = notes-then IsOnUnit IsComing seat m.notes;
    on_card = λ u. subst (λ (b : Bool). HasNoted (IsOnCard app k.memory.registration e u) (IsComingOnCard app k.memory.registration e u) (moving_on_card k.memory.registration e) b X Y) (or_false failed) (m.on_card u);
    broken = m.broken;
    later = m.later;
    near = m.near;
    moves = λ falls. absurd (none-falls falls);
  }
  seated-taken true failed v noted_after breaks U V W X Y entry counted seat m = record {
    left = record { keeper = m.keeper; count = counted; outcome = taken-outcome true entry breaks m.told };
    notes = notes-then IsOnUnit IsComing seat m.notes;
    on_card = λ u. notes-maybe _ _ (m.on_card u);
    broken = m.broken;
    later = m.later;
    near = m.near;
    moves = λ falls. m.moves refl;
  }

  pub taken-on : (fell failed : Bool) (k1 v : Keeper) (noted_after : ℕ) (breaks : Listed Break) (U V W X Y : State) (entry : Option ℕ) → IsSeated entered.look entered.session entered.row e false k k1 noted noted_after U V entry
      → IsNotedOn app entered.look.session e failed k1 v o.breaks breaks V W X Y fell
      → IsEntry entry failed U.image × IsTaken app e failed k v noted noted_after o (record o { marks = marks; breaks = breaks; finds = finds }) U W X Y (taken_as fell entered clock entry)
  taken-on fell failed k1 v noted_after breaks U V W X Y None s m = absurd (not_failed s.by.0)
  taken-on fell failed k1 v noted_after breaks U V W X Y (Some entry) s m = (
    s.by.0,
    seated-taken fell failed v noted_after breaks U V W X Y entry s.by.2 s.notes (subst (λ (q : Keeper). IsNotedOn app entered.look.session e failed q v o.breaks breaks V W X Y fell) s.by.1 m),
  )
