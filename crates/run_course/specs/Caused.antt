-- The causes of a run with cards: its log tells what happened, and no more, over each of its steps (profile).
use Rattle.std.specs.Prelude.{◌≡◌, ◌⊎◌, ℕ, suc, ◌-◌, false, true, List, [], ◌∷◌, ◌++◌, Contains, map, filter, flat_map}
use Rattle.std.specs.Prelude.{length}
use Rattle.std.specs.List.{AllByRecursion}
use Rattle.activity_codec.specs.declared.values.Slot.{Slot}
use Rattle.trace_model.specs.declared.Card.{Card}
use Rattle.trace_model.specs.Trace.{TraceSecond, dark}
use Rattle.run_model.specs.declared.Device.{Device}
use Rattle.run_model.specs.declared.Device.TheVariants.{Unit as Recorder}
use Rattle.minute_model.specs.declared.Rule.{Rule}
use Rattle.log_model.specs.declared.lines.Break.{Break}
use Rattle.log_model.specs.declared.lines.Find.{Find}
use Rattle.log_model.specs.declared.lines.Refused.{Refused}
use Rattle.log_model.specs.Log.{RunLog, In}
use Rattle.log_model.specs.Slots.{same_card}
use Rattle.log_model.specs.Course.{ToldSecond, Visit, went}
use Rattle.log_model.specs.Causes.{device_of, is_cut, second_of, cuts, AreInTime, tears, places, in_the_slot}
use Rattle.log_model.specs.Causes.{refusals_of, refusal_told, pulled_of, torn_of, cards_torn, finds_of, off_cuts}
use Rattle.log_model.specs.Causes.{RoseBy, IsBegun, IsAtPowerOn, HasMoment, IsJudged}
use Rattle.history_model.specs.Presence.{Start}
use Rattle.run_unit_course.specs.Caused.{IsOver}
use Rattle.run_unit_course.specs.Lines.{log_of, cut_at, found_from}
use Rattle.run_unit_course.specs.Followed.{Lit, IsDark}
use Rattle.run_course.specs.Moments.{and_break}
use Rattle.run_course.specs.Followed.{Progress, BookFollowsRun}
use Rattle.run_course.specs.Seconds.{GoesOnBy, next_told}

-- a count that did not rise by any stands where it was
abbrev pub StandsBy : ℕ → ℕ → ℕ → Type 0
StandsBy n before now = n ≡ 0 → now ≡ before

-- the seconds of the cuts that failed calls made
abbrev pub failures : RunLog → List ℕ
failures log = map second_of (cuts true log)

-- all causes of a run log so far but the verdicts, each as HasCauses of log_model has it; and a card of which no tear
-- by a failed call is told has not broken down
pub record AreCaused (before now : Device → ℕ) (ss : List TraceSecond) (log : RunLog) : Type 0 where
  pub refused : map refusal_told log.refused ≡ refusals_of (went log ss).told
  pub cut_seconds : map second_of (filter is_cut log.breaks)
      ≡ map (λ t. t.second.number) (filter (λ t. t.cut) (went log ss).told)
  pub off_lines : map second_of (cuts false log) ≡ off_cuts (failures log) (went log ss).told
  pub failed_cuts : RoseBy (length (cuts true log)) (before Recorder) (now Recorder)
  pub tear_lines : flat_map places (tears false log) ≡ pulled_of (went log ss).told
  pub failed_tears : (slot : Slot)
      → in_the_slot slot (flat_map places (tears true log)) ≡ in_the_slot slot (torn_of (went log ss).told)
  pub torn_cards : (card : Card)
      → RoseBy (length (filter (same_card card) (cards_torn (went log ss).told))) (before (device_of card))
      (now (device_of card))
  pub calm_cards : (card : Card)
      → StandsBy (length (filter (same_card card) (cards_torn (went log ss).told))) (before (device_of card))
      (now (device_of card))
  pub begun : AllByRecursion (IsBegun ss) log.breaks
  pub moments : AllByRecursion (HasMoment (went log ss).told) log.breaks
  pub order : AreInTime log.breaks
  pub finds : map (λ f. (f.second, In f.begun, f.slot, f.verdict)) log.finds ≡ finds_of (went log ss).told
  pub judged : (t : ToldSecond) (e : Visit) → Contains (went log ss).told t → Contains t.course.entered e
      → IsJudged log t e

-- What the new lines of a second have to tell: exactly what happened in it, each failed call a breakdown, and each
-- breakdown of a card told.
pub record AreNewCauses (mid now : Device → ℕ) (breaks : List Break) (finds : List Find) (refused : List Refused)
    (later : RunLog) (s : TraceSecond) (t : ToldSecond) : Type 0 where
  pub refusals : map refusal_told refused ≡ refusals_of (t ∷ [])
  pub cut_seconds : map second_of (filter is_cut breaks) ≡ map (λ t. t.second.number) (filter (λ t. t.cut) (t ∷ []))
  pub no_off : cuts false (log_of breaks) ≡ []
  pub failed_cuts : RoseBy (length (cuts true (log_of breaks))) (mid Recorder) (now Recorder)
  pub tear_lines : flat_map places (tears false (log_of breaks)) ≡ pulled_of (t ∷ [])
  pub failed_tears : (slot : Slot)
      → in_the_slot slot (flat_map places (tears true (log_of breaks))) ≡ in_the_slot slot (torn_of (t ∷ []))
  pub torn_cards : (card : Card)
      → RoseBy (length (filter (same_card card) (cards_torn (t ∷ [])))) (mid (device_of card)) (now (device_of card))
  pub calm_cards : (card : Card)
      → StandsBy (length (filter (same_card card) (cards_torn (t ∷ [])))) (mid (device_of card)) (now (device_of card))
  pub begun : AllByRecursion (IsBegun (s ∷ [])) breaks
  pub moments : AllByRecursion (IsAtPowerOn t.starts) breaks
  pub order : AreInTime breaks
  pub told_finds : map (λ f. (f.second, In f.begun, f.slot, f.verdict)) finds ≡ finds_of (t ∷ [])
  pub judged : (e : Visit) → Contains t.course.entered e → IsJudged later t e

-- without power it is over: the last second was dark, or a failed call took its power
pub record WellCaused (before now : Device → ℕ) (done : List TraceSecond) (p : Progress) : Type 0 where
  pub caused : AreCaused before now done p.log
  pub over : IsDark p.supply → IsOver (failures p.log) (went p.log done).told

-- A SECOND MORE that the trace gives power, lit or dark, whatever supply it leaves
abbrev pub ASecondIsCaused : Type 0
ASecondIsCaused = (rule : Rule) (start : Start) (from first : ℕ) (done : List TraceSecond) (p : Progress)
    → BookFollowsRun rule start from first done p →
    (s : TraceSecond) (later : RunLog) (g : GoesOnBy p later s) (refused : List Refused)
    → later.refused ≡ p.log.refused ++ refused →
    (before mid now : Device → ℕ) → AreNewCauses mid now g.breaks.0 g.finds.0 refused later s (next_told later done s)
    → WellCaused before mid done p →
    (q : Progress) → q.log ≡ later
    → (IsDark q.supply → ((next_told later done s).lit ≡ false) ⊎ ((next_told later done s).cut ≡ true)) →
    WellCaused before now (done ++ s ∷ []) q

-- A POWER-ON finds what was kept.
abbrev pub FoundStaysCaused : Type 0
FoundStaysCaused = (rule : Rule) (start : Start) (from first : ℕ) (done : List TraceSecond) (p : Progress)
    → BookFollowsRun rule start from first done p →
    (k : ℕ) (before now : Device → ℕ) → WellCaused before now done p → (q : Progress)
    → q.log ≡ record p.log { breaks = found_from p.unfound k p.log.breaks } → (IsDark q.supply → IsDark p.supply) →
    WellCaused before now done q

-- AN `off` LINE while it is over,
abbrev pub AnOffLineIsCaused : Type 0
AnOffLineIsCaused = (rule : Rule) (start : Start) (from first : ℕ) (done : List TraceSecond) (p : Progress)
    → BookFollowsRun rule start from first done p →
    IsDark p.supply → (n : ℕ) (before now : Device → ℕ) → WellCaused before now done p → (q : Progress) → q.log ≡ p.log
    →
    WellCaused before now (done ++ dark (suc n) p.next) q

-- and while there is power.
abbrev pub AnOffCutIsCaused : Type 0
AnOffCutIsCaused = (rule : Rule) (start : Start) (from first : ℕ) (done : List TraceSecond) (p : Progress)
    → BookFollowsRun rule start from first done p →
    (t : ToldSecond) (span : List ToldSecond) → p.supply ≡ Lit (t ∷ span) → p.waiting ≡ []
    → (n : ℕ) (before now : Device → ℕ) → WellCaused before now done p →
    (q : Progress) → q.log ≡ and_break p.log (cut_at (p.next - 1) false p.begun)
    → WellCaused before now (done ++ dark (suc n) p.next) q

-- AT THE START
abbrev pub ARunIsCaused : Type 0
ARunIsCaused = (now : Device → ℕ) (p : Progress) → p.log ≡ record { breaks = []; refused = []; finds = [] }
    → WellCaused now now [] p
