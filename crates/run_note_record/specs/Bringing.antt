-- WHAT EACH LINE of a second brings of events, of the types that are noted as they come (Annex IB, section III.12; the
-- moments: profile).
use Rattle.std.specs.Prelude.{◌≡◌, ℕ, zero, suc, true, false, List, [], ◌∷◌, ◌++◌, Contains}
use Rattle.run_events.specs.activity_codec.declared.values.Slot.{Slot}
use Rattle.run_events.specs.activity_codec.declared.values.Slot.TheVariants.{Driver, CoDriver}
use Rattle.run_devices.specs.trace_model.declared.Card.{Card}
use Rattle.run_devices.specs.trace_model.Trace.{TraceSecond}
use Rattle.run_devices.specs.run_model.declared.Device.{Device}
use Rattle.run_devices.specs.log_model.declared.lines.Break.{Break}
use Rattle.run_devices.specs.log_model.declared.lines.Refused.{Refused}
use Rattle.run_devices.specs.log_model.Log.{RunLog, Phase, In, Keeping, same_phase, is_torn_in, found_in}
use Rattle.run_devices.specs.log_model.Slots.{other_slot}
use Rattle.run_devices.specs.log_model.Course.{ToldSecond, Visit, visits, went}
use Rattle.run_devices.specs.event_model.Events.{Event, Tearing, is_first, fault_of}
use Rattle.run_devices.specs.run_unit_course.Followed.{Lit}
use Rattle.run_events.specs.unit_events.Shown.{all_kinds}
use Rattle.run_devices.specs.run_course.Moments.{and_break, and_refused}
use Rattle.run_devices.specs.run_course.Followed.{Progress, BookFollowsRun}
use Rattle.run_devices.specs.run_course.Reached.{course_at, moved_at, IsTearAt}
use Rattle.run_devices.specs.run_course.Moment.{Moment}
use Rattle.run_devices.specs.run_course.Telling.{IsOneOut}
use Rattle.run_events.specs.Shown.{by_kind}
use Rattle.run_events.specs.Seconds.{seen_next}
use Rattle.run_devices.specs.run_promise.Origin.{Origin, rule_of, start_at, first_of}
use Rattle.run_note_record.specs.Evented.{brought_now}
use Rattle.run_note_record.specs.Noting.{Stage, Acting, is_told}

-- a step brings these events, by the choices before and behind it
abbrev pub Brings : Origin → List TraceSecond → TraceSecond → Stage → (log : RunLog) → (here : Tearing)
    → (own : ℕ → Visit → ℕ) → (later : RunLog) → (here_then : Tearing) → (own_then : ℕ → Visit → ℕ) → List Event
    → Type 0
Brings o done s stage log here own later here_then own_then es = (kind : ℕ) → Contains all_kinds kind
    → is_told stage kind ≡ true →
    brought_now o later done s here_then own_then kind ≡ brought_now o log done s here own kind ++ by_kind es kind

-- two choices differ at this moment alone
pub record ChoiceBefore (t t' : Tearing) (u : ℕ) (at : Phase) : Type 0 where
  pub by_gap : same_phase at (In 0) ≡ false → (slot : Slot) → t'.by_gap u slot ≡ t.by_gap u slot
  pub driver_first : (m : ℕ) → same_phase at (In (suc m)) ≡ false → t'.driver_first u (suc m) ≡ t.driver_first u (suc m)

-- the card of this slot is torn out behind that of the other one, if that was torn out at this moment, as the choice
-- says; in the keeping the driver's comes first
abbrev pub TornSecond : Phase → Slot → RunLog → ℕ → Tearing → Type 0
TornSecond (In zero) slot log u t = ⊥
TornSecond (In (suc n)) slot log u t = is_torn_in log u (In (suc n)) (other_slot slot) ≡ true
    → is_first t u (suc n) (other_slot slot) ≡ true
TornSecond Keeping Driver log u t = is_torn_in log u Keeping CoDriver ≡ false
TornSecond Keeping CoDriver log u t = Unit {0}

-- nothing was found of the card of this slot at this moment
abbrev pub NotFound : Phase → Slot → RunLog → ℕ → Type 0
NotFound (In n) slot log u = found_in log u (In n) slot ≡ []
NotFound Keeping slot log u = Unit {0}

-- A CARD IS TORN OUT in an action or in the keeping: its fault alone.
abbrev pub ATearIsBrought : Type 0
ATearIsBrought = (o : Origin) (done : List TraceSecond) (p : Progress)
    → BookFollowsRun (rule_of o) (start_at o) o.from (first_of o) done p → (span : List ToldSecond)
    → p.supply ≡ Lit span →
    (s : TraceSecond) (at : Phase) (log : RunLog) (waits : List Visit) (mid now : Device → ℕ)
    → Moment p (went p.log done).before s at log waits mid now →
    (slot : Slot) (card : Card) (b : Break) → IsTearAt s at slot true b → is_torn_in log s.number at slot ≡ false →
    IsOneOut at slot card ((moved_at log (went p.log done).before s at).leaving slot
    ++ visits at slot (course_at log (went p.log done).before s at).slots) →
    (here here_then : Tearing) (own : ℕ → Visit → ℕ) → ChoiceBefore here here_then s.number at
    → TornSecond at slot log s.number here_then → NotFound at (other_slot slot) log s.number →
    let later : RunLog = and_break log b in
    Brings o done s Acting log here own later here_then own
    (fault_of here_then later (seen_next later done s) (record { phase = at; slot = slot; card = card }) ∷ [])

-- A REFUSAL brings nothing.
abbrev pub ARefusalBringsNothing : Type 0
ARefusalBringsNothing = (o : Origin) (done : List TraceSecond) (p : Progress)
    → BookFollowsRun (rule_of o) (start_at o) o.from (first_of o) done p
    → (s : TraceSecond) (at : Phase) (log : RunLog) (waits : List Visit) (mid now : Device → ℕ) →
    Moment p (went p.log done).before s at log waits mid now
    → (r : Refused) (here : Tearing) (own : ℕ → Visit → ℕ) (kind : ℕ)
    → brought_now o (and_refused log r) done s here own kind ≡ brought_now o log done s here own kind
