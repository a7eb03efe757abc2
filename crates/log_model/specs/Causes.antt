-- Each line of a run log has its cause in the run, and what happened has its line (profile).
use Rattle.std.specs.Prelude.{◌≡◌, ◌⊎◌, ℕ, ◌+◌, ◌-◌, ◌^◌, ◌<◌, ◌≤◌, Bool, true, false, not, ◌&&◌, Option, Some, None}
use Rattle.std.specs.Prelude.{List, [], ◌∷◌, ◌++◌, Contains, map, filter, flat_map, length, nat_eq, if◌then◌else◌}
use Rattle.std.specs.List.{AllByRecursion, list_any}
use Rattle.activity_codec.specs.declared.values.Slot.{Slot}
use Rattle.activity_codec.specs.Activity.{same_slot}
use Rattle.trace_model.specs.declared.Card.{Card}
use Rattle.trace_model.specs.declared.Card.TheVariants.{A, B}
use Rattle.run_model.specs.declared.Device.{Device}
use Rattle.run_model.specs.declared.Device.TheVariants.{Unit as Recorder, CardA, CardB}
use Rattle.trace_model.specs.Trace.{TraceSecond}
use Rattle.log_model.specs.declared.lines.SlotFault.{SlotFault}
use Rattle.log_model.specs.declared.lines.Verdict.{Verdict}
use Rattle.log_model.specs.declared.lines.Break.{Break}
use Rattle.log_model.specs.declared.lines.Break.TheVariants.{Cut, Tear}
use Rattle.log_model.specs.declared.lines.Refused.{Refused}
use Rattle.log_model.specs.Log.{RunLog, Phase, In, Keeping, same_phase, phase_of, cut_in, is_torn_in}
use Rattle.log_model.specs.Slots.{same_card}
use Rattle.log_model.specs.Course.{ToldSecond, Visit, went}

-- a card as a device
abbrev pub device_of : Card → Device
device_of A = CardA
device_of B = CardB

-- power was lost
abbrev pub is_cut : Break → Bool
is_cut (Cut second kept failed begun) = true
is_cut (Tear second slot failed begun late) = false

-- it was no line of the trace, but a call that failed
abbrev pub has_failed : Break → Bool
has_failed (Cut second kept failed begun) = failed
has_failed (Tear second slot failed begun late) = failed

-- the second in which it came
abbrev pub second_of : Break → ℕ
second_of (Cut second kept failed begun) = second
second_of (Tear second slot failed begun late) = second

-- the cuts that a failed call made, or those that it did not
abbrev pub cuts : Bool → RunLog → List Break
cuts failed log = filter (λ b. is_cut b && (if failed then has_failed b else not (has_failed b))) log.breaks

-- the tears that a failed call made, or those that it did not
abbrev pub tears : Bool → RunLog → List Break
tears failed log = filter (λ b. not (is_cut b) && (if failed then has_failed b else not (has_failed b))) log.breaks

-- a second in which a failed call took the power: how many of its actions had begun
abbrev pub failed_cut_in : RunLog → ℕ → Option ℕ
failed_cut_in log u = cut_in (record log { breaks = cuts true log }) u

-- a break comes behind another one: no earlier, and behind a cut in a later second
abbrev pub ComesBehind : Break → Break → Type 0
ComesBehind (Cut second kept failed begun) next = second < second_of next
ComesBehind (Tear second slot failed begun late) next = second ≤ second_of next

-- breaks in order of time
abbrev pub AreInTime : List Break → Type 0
AreInTime [] = Unit {0}
AreInTime (b ∷ breaks) = AllByRecursion (ComesBehind b) breaks × AreInTime breaks

-- where a tear stands: its second, its moment and its slot
abbrev pub places : Break → List (ℕ × Phase × Slot)
places (Cut second kept failed begun) = []
places (Tear second slot failed begun late) = (second, phase_of begun late, slot) ∷ []

-- where cards were at their moments of a second
abbrev pub visit_places : ℕ → List Visit → List (ℕ × Phase × Slot)
visit_places u vs = map (λ v. (u, v.phase, v.slot)) vs

-- of places those of one slot
abbrev pub in_the_slot : Slot → List (ℕ × Phase × Slot) → List (ℕ × Phase × Slot)
in_the_slot slot places = filter (λ p. same_slot p.2 slot) places

-- a refusal in this second: its number, how many actions had begun, and the cause
abbrev pub refusal_at : ℕ → ℕ × SlotFault → ℕ × ℕ × SlotFault
refusal_at u r = (u, r.0, r.1)

-- the refusals of this second, each with its number
abbrev pub refusals_at : ℕ → List (ℕ × SlotFault) → List (ℕ × ℕ × SlotFault)
refusals_at u refused = map (refusal_at u) refused

-- the refusals that the seconds tell
abbrev pub refusals_of : List ToldSecond → List (ℕ × ℕ × SlotFault)
refusals_of told = flat_map (λ t. refusals_at t.second.number t.course.refused) told

-- what the line of a refusal tells
abbrev pub refusal_told : Refused → ℕ × ℕ × SlotFault
refusal_told r = (r.second, r.begun, r.fault)

-- the cards that `tear` lines pulled out
abbrev pub pulled_of : List ToldSecond → List (ℕ × Phase × Slot)
pulled_of told = flat_map (λ t. visit_places t.second.number t.course.pulled) told

-- the cards that failed calls tore out
abbrev pub torn_of : List ToldSecond → List (ℕ × Phase × Slot)
torn_of told = flat_map (λ t. visit_places t.second.number t.course.torn) told

-- the cards that failed calls tore out, without second, moment or slot
abbrev pub cards_torn : List ToldSecond → List Card
cards_torn told = flat_map (λ t. map (λ v. v.card) t.course.torn) told

-- what was found of the cards that entered
abbrev pub finds_of : List ToldSecond → List (ℕ × Phase × Slot × Verdict)
finds_of told = flat_map (λ t. map (λ f. (t.second.number, f.0.phase, f.0.slot, f.1)) t.course.found) told

-- the last seconds with power before an `off` line, but those that a failed call took
abbrev pub off_cuts : List ℕ → List ToldSecond → List ℕ
off_cuts failed [] = []
off_cuts failed (t ∷ []) = []
off_cuts failed (t ∷ next ∷ told) =
    (if t.lit && not next.given && not (list_any (nat_eq t.second.number) failed) then t.second.number ∷ [] else [])
    ++ off_cuts failed (next ∷ told)

-- a count of breakdowns rose by so many, or stands at its last value
abbrev pub RoseBy : ℕ → ℕ → ℕ → Type 0
RoseBy n before now = (before + n ≤ now) ⊎ (2 ^ 64 - 1 ≤ now)

-- a break begins no more actions than its second has; all of them in the keeping, and at an `off` line
abbrev pub IsBegun : List TraceSecond → Break → Type 0
IsBegun ss (Cut second kept failed begun) =
    (s : TraceSecond) → Contains ss s → s.number ≡ second
    → (begun ≤ length s.actions) × (failed ≡ false → begun ≡ length s.actions)
IsBegun ss (Tear second slot failed begun late) =
    (s : TraceSecond) → Contains ss s → s.number ≡ second
    → (begun ≤ length s.actions) × (late ≡ true → begun ≡ length s.actions)

-- a tear before any action, and not in the keeping, is one of the power-on
abbrev pub IsAtPowerOn : (starts : Bool) → Break → Type 0
IsAtPowerOn starts (Cut second kept failed begun) = Unit {0}
IsAtPowerOn starts (Tear second slot failed begun late) = begun ≡ 0 → late ≡ false → starts ≡ true

-- a tear before any action of its second, and not in the keeping, is in one with which power began; of a cut nothing is
-- said
abbrev pub HasMoment : List ToldSecond → Break → Type 0
HasMoment told b = (t : ToldSecond) → Contains told t → t.second.number ≡ second_of b → IsAtPowerOn t.starts b

-- what was found of a card that entered
abbrev pub found_of : ToldSecond → Visit → List Verdict
found_of t e = map (λ f. f.1) (filter (λ f. same_phase f.0.phase e.phase && same_slot f.0.slot e.slot) t.course.found)

-- a cut stands at the moment, or before it
abbrev pub CutBy : Option ℕ → Phase → Type 0
CutBy None p = ⊥
CutBy (Some begun) (In n) = begun ≤ n
CutBy (Some begun) Keeping = Unit {0}

-- a card that entered was judged once, but where it was torn out at that moment, or a failed call had taken the power
-- by then
pub record IsJudged (log : RunLog) (t : ToldSecond) (e : Visit) : Type 0 where
  pub once : length (found_of t e) ≤ 1
  pub missing : found_of t e ≡ [] → (is_torn_in log t.second.number e.phase e.slot ≡ true)
      ⊎ CutBy (failed_cut_in log t.second.number) e.phase

-- the causes of a run log: `before` and `now` count the breakdowns of the devices, `IsVerdict` says what may be found
-- of a card in a second
pub record HasCauses (IsVerdict : Card → ℕ → Verdict → Type 0) (before now : Device → ℕ)
    (ss : List TraceSecond) (log : RunLog) : Type 0 where
  -- refusals are exactly those of the slots, the speed and the power, each with the number of actions that had begun
  pub refused : map refusal_told log.refused ≡ refusals_of (went log ss).told
  -- a cut stands in a second with power, one in a second, and their seconds increase
  pub cut_seconds : map second_of (filter is_cut log.breaks)
      ≡ map (λ t. t.second.number) (filter (λ t. t.cut) (went log ss).told)
  -- each `off` line that meets power is a cut
  pub off_lines : map second_of (cuts false log) ≡ off_cuts (map second_of (cuts true log)) (went log ss).told
  -- any other cut is a breakdown of the unit
  pub failed_cuts : RoseBy (length (cuts true log)) (before Recorder) (now Recorder)
  -- each `tear` line that is not refused is a tear
  pub tear_lines : flat_map places (tears false log) ≡ pulled_of (went log ss).told
  -- any other tear is of a card that sits in its slot or is taken out of it, and a breakdown of it
  pub failed_tears : (slot : Slot) → in_the_slot slot (flat_map places (tears true log))
      ≡ in_the_slot slot (torn_of (went log ss).told)
  pub torn_cards : (card : Card) →
      RoseBy (length (filter (same_card card) (cards_torn (went log ss).told))) (before (device_of card))
      (now (device_of card))
  pub begun : (b : Break) → Contains log.breaks b → IsBegun ss b
  pub moments : (b : Break) → Contains log.breaks b → HasMoment (went log ss).told b
  -- breaks are in order of time, and a cut is the last of its second
  pub order : AreInTime log.breaks
  -- finds are exactly those of the cards that entered
  pub finds : map (λ f. (f.second, In f.begun, f.slot, f.verdict)) log.finds ≡ finds_of (went log ss).told
  pub judged : (t : ToldSecond) (e : Visit) → Contains (went log ss).told t → Contains t.course.entered e
      → IsJudged log t e
  pub verdicts : (t : ToldSecond) (e : Visit) (v : Verdict) → Contains (went log ss).told t
      → Contains t.course.found (e, v) →
      IsVerdict e.card t.second.number v
