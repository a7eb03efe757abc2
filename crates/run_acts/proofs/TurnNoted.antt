-- What a turn notes: the faults of its keeping, and what has ended.
use Rattle.std.proofs.Common.{◌≡◌, inl, inr, ⊎_elim, ℕ, Bool, true, false, not, Option, Some, IfSome, List, refl}
use Rattle.tach_media.specs.Medium.{State, IsCoherent, LeavesOnly}
use Rattle.tach_media.proofs.Runs.{at_image, told_too}
use Rattle.unit_model.specs.minute_model.declared.Minute.{Minute}
use Rattle.run_crew.specs.Cabin.{crew_of}
use Rattle.run_events.specs.declared.watch.Ended.{Ended}
use Rattle.run_events.specs.speed_model.declared.block.Block.{Block}
use Rattle.unit_notes.specs.declared.unit_event.UnitEvent.{UnitEvent}
use Rattle.run_events.specs.Blocks.{AreNotedBehind, AreBeingNotedBehind, IsWatchedOn}
use Rattle.run_outcome.specs.declared.outcome.Outcome.{Outcome}
use Rattle.run_minutes.specs.declared.keeper.Moment.{Moment}
use Rattle.run_minutes.specs.Minutes.{Reach, Whole, Short, IsReach}
use Rattle.run_minutes.specs.Faults.{faults_to, SaysTheSame, TellsFaults, NotesFaults}
use Rattle.run_acts.specs.declared.run.Run.{Run}
use Rattle.run_acts.specs.Faults.{EndsTo, NotesKeeping}
use Rattle.run_acts.specs.Turning.{told_of}
use Rattle.run_acts.proofs.BlockNoted.{says-itself, putting-says, put-says, faults-then}

-- behind the faults a block, and then what has ended
module _ (vs : List UnitEvent) (block : Option Block) (ended : Ended) (U V W : State) (whole : IsCoherent V) (behind : IsCoherent W) (faults : NotesFaults false vs U V) (moments : LeavesOnly V W (AreBeingNotedBehind block ended)) where
  -- an image of the unit behind the keeping, with other bytes of the ring of blocks
  said : (y c : List ℕ) → V.may_leave y → SaysTheSame y c → (x : List ℕ) × U.may_leave x × TellsFaults vs x c
  said y c at same = let x = faults y at in (x.0, x.1, faults-then vs x.0 y c x.2 same)

  pub ended-behind : (failed : Bool) → (failed ≡ false → IfSome V.image (λ x. IfSome W.image (AreNotedBehind block ended x))) → W.works ≡ not failed → (c : List ℕ) → W.may_leave c →
      (x : List ℕ) × U.may_leave x × (y : List ℕ) × TellsFaults vs x y × EndsTo failed ended y c
  ended-behind false noted works c at =
      let is : W.image ≡ Some c = behind.only c works at in
      let was = told_too W.image V.image c moments.tells is in
      let done : AreNotedBehind block ended was.0 c = at_image (AreNotedBehind block ended was.0) is (at_image (λ (y : List ℕ). IfSome W.image (AreNotedBehind block ended y)) was.1 (noted refl)) in
      let x = said was.0 done.between (whole.is_left was.0 was.1) (put-says block was.0 done.between done.put) in
      (x.0, x.1, done.between, x.2, done.noted)
  ended-behind true noted works c at = ⊎_elim
      (λ old. let x = said c c old (says-itself c) in (x.0, x.1, c, x.2, inl refl))
      (λ here. ⊎_elim
      (λ putting. let x = said here.0 c (whole.is_left here.0 here.1) (putting-says block here.0 c putting) in (x.0, x.1, c, x.2, inl refl))
      (λ on. let x = said here.0 on.between (whole.is_left here.0 here.1) (put-says block here.0 on.between on.put) in (x.0, x.1, on.between, x.2, inr on.noting))
      here.2)
      (moments.now c at)

module _ (decided : List Minute) (n speed : ℕ) (at : Moment) where
  -- the unit failed in the keeping
  pub keeping-cut : (old new : Run) (before after : Outcome) (U V : State) (reach : Reach) → IsReach decided at true (told_of old before) (told_of new after) reach → new.watch ≡ old.watch → NotesFaults true (faults_to old.keeper at reach (told_of old before)) U V →
      NotesKeeping decided n speed at true old new before after U V
  keeping-cut old new before after U V (Whole xs) is same faults = absurd is
  keeping-cut old new before after U V (Short xs m round) is same faults = (Short xs m round, is, inl (refl, same, faults))

  -- all are kept, and what has ended is noted
  pub keeping-then : (failed : Bool) (old new : Run) (before after : Outcome) (U V W : State) (reach : Reach) → IsReach decided at false (told_of old before) (told_of new after) reach → IsCoherent V → IsCoherent W →
      NotesFaults false (faults_to old.keeper at reach (told_of old before)) U V → IsWatchedOn failed old.watch new.watch old.next n speed (crew_of old.keeper.cabin) V W → W.works ≡ not failed → NotesKeeping decided n speed at failed old new before after U W
  keeping-then failed old new before after U V W (Short xs m round) is whole behind faults watched works = absurd is
  keeping-then failed old new before after U V W (Whole xs) is whole behind faults watched works = (
    Whole xs,
    is,
    inr (record {
      ended = watched.ended;
      fed = watched.fed;
      noted = ended-behind (faults_to old.keeper at (Whole xs) (told_of old before)) watched.block watched.ended U V W whole behind faults watched.moments failed watched.noted works;
    }),
  )
