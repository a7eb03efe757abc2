-- A run of a trace on a unit and a card that are made new before it (profile).
use Rattle.std.specs.Prelude.{◌≡◌, ◌≤◌, ◌+◌, ℕ, List, true, is_some, length}
use Rattle.tach_media.specs.Medium.{State, Rose}
use Rattle.trace_model.specs.declared.Item.{Item}
use Rattle.log_model.specs.Causes.{cuts}
use Rattle.card_layout.specs.declared.files.TheConstants.{LARGEST_IMAGE}
use Rattle.unit_model.specs.Image.{IsUnit}
use Rattle.unit_memory.specs.Formats.{format_most}
use Rattle.safety_model.specs.Safe.{Devices}
use Rattle.run_promise.specs.Opening.{BeginsAs}
use Rattle.run_opening.specs.Opening.{faults_of, IsAsItWas}
use Rattle.run_opening.specs.declared.fault.RunFault.TheVariants.{MediumFault, BadUnit, ClockBack, SameCard}
use Rattle.run_outcome.specs.declared.outcome.Outcome.{Outcome}
use Rattle.recorder_with_cards.specs.Words.{HaveTime, largest_number, log_of}
use Rattle.recorder_with_cards.specs.Ends.{EndsTrace, MayRecord}
use Rattle.recorder_with_cards.specs.Writes.{WritesIn, unit_writes, card_writes}
use Rattle.tacho.specs.declared.anew.AnewFault.{AnewFault}
use Rattle.tacho.specs.declared.anew.AnewFault.TheVariants.{Unmade, Kept}
use Rattle.tacho.specs.Formatting.{issue_most}

-- a device once so many writes were begun
abbrev pub at_clock : ℕ → State → State
at_clock clock s = record s { clock = clock }

-- the devices as the run began, at these clocks of the unit and of card a; as often as before each had broken down
abbrev pub began_at : (unit_clock card_clock : ℕ) → Devices → Devices
began_at unit_clock card_clock old = record {
  unit = at_clock unit_clock old.unit;
  card_a = at_clock card_clock old.card_a;
  card_b = old.card_b;
}

-- Unit and card a tell an image, which goes, and card b began with this image alone.
pub record MayBeAnew (card_b : List ℕ) (old : Devices) : Type 0 where
  pub unit_tells : is_some old.unit.image ≡ true
  pub card_tells : is_some old.card_a.image ≡ true
  pub of_b : BeginsAs card_b old.card_b

-- so a run of these items may begin: card b started with this image alone, the other two told one, no clock has come to
-- its end, and the items are no more than fit four bytes
pub record BeginsAnew (card_b : List ℕ) (items : List Item) (old now : Devices) : Type 0 where
  pub may : MayBeAnew card_b old
  pub time : HaveTime now
  pub few : length items ≤ largest_number

-- unit and card a can be made new, the card of this image: it has a card's size and nothing behind; and card b has at
-- least a card's size
pub record MayBeMade (card : List ℕ) (old : Devices) : Type 0 where
  pub unit : IsUnit old.unit
  pub image : length card ≡ LARGEST_IMAGE
  pub size_a : old.card_a.size ≡ LARGEST_IMAGE
  pub behind_a : old.card_a.behind ≡ 0
  pub size_b : LARGEST_IMAGE ≤ old.card_b.size

-- THE TRACE WAS RECORDED on a new unit, a new card a, and card b, with these images: once those were made, at these
-- clocks, all is recorded that a run promises, and so many writes began at most: to make them, and then by the
-- power-ons of the run, the turns of the trace and its actions.
pub record EndsAnew (unit card_a card_b : List ℕ) (start : ℕ) (items : List Item) (out : Outcome)
    (old now : Devices) : Type 0 where
  pub unit_clock : ℕ
  pub card_clock : ℕ
  pub unit_later : old.unit.clock ≤ unit_clock
  pub card_later : old.card_a.clock ≤ card_clock
  pub unit_before : unit_clock ≤ now.unit.clock
  pub card_before : card_clock ≤ now.card_a.clock
  pub unit_made : unit_clock ≤ old.unit.clock + format_most
  pub card_made : card_clock ≤ old.card_a.clock + issue_most
  pub ends : EndsTrace unit card_a card_b start items out (began_at unit_clock card_clock old) now
  pub writes : WritesIn start items (length (cuts true (log_of out))) (began_at unit_clock card_clock old) now

-- SO MANY WRITES BEGIN AT MOST, whatever fails: to make unit and card a new, and by the power-ons of a run, of which
-- the log tells so many cuts that a failed call made, by the turns of its trace and by its actions.
pub record WritesAnew (start : ℕ) (items : List Item) (failed : ℕ) (old now : Devices) : Type 0 where
  pub unit : now.unit.clock ≤ old.unit.clock + (format_most + unit_writes start items failed)
  pub card_a : now.card_a.clock ≤ old.card_a.clock + (issue_most + card_writes start items failed)
  pub card_b : now.card_b.clock ≤ old.card_b.clock + card_writes start items failed

-- WHATEVER FAILS: so many writes begin at most, the unit keeps its size, and no count of its faults falls
pub record GoesAnew (start : ℕ) (items : List Item) (failed : ℕ) (old now : Devices) : Type 0 where
  pub most : WritesAnew start items failed old now
  pub unit : IsUnit now.unit
  pub faults : old.unit.faults ≤ now.unit.faults

-- a device that is told to have failed has failed
abbrev pub IsFailed : AnewFault → (old now : Devices) → Type 0
IsFailed (Unmade device) old now = Rose (faults_of old device) (faults_of now device)
IsFailed (Kept (MediumFault device)) old now = Rose (faults_of old device) (faults_of now device)
IsFailed (Kept (BadUnit place)) old now = Unit {0}
IsFailed (Kept (ClockBack kept second)) old now = Unit {0}
IsFailed (Kept (SameCard number)) old now = Unit {0}

-- it is a device that failed, as it was made new or in the opening
abbrev pub IsFailure : AnewFault → Type 0
IsFailure (Unmade device) = Unit {0}
IsFailure (Kept (MediumFault device)) = Unit {0}
IsFailure (Kept (BadUnit place)) = ⊥
IsFailure (Kept (ClockBack kept second)) = ⊥
IsFailure (Kept (SameCard number)) = ⊥

-- THE TRACE WAS NOT RECORDED: nothing is put down, and card b is as it was; and where a run may begin with these
-- images, a device failed
pub record IsKeptAnew (unit card_a card_b : List ℕ) (start : ℕ) (before after : Outcome) (old_b now_b : State)
    (fault : AnewFault) : Type 0 where
  pub nothing : after ≡ before
  pub same_b : IsAsItWas old_b now_b
  pub failure : MayRecord unit card_a card_b start → IsFailure fault
