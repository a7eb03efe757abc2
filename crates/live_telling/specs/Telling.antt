-- What is told beside the devices, and when: each write of a sink, with the clocks of the devices as it began.
use Rattle.std.specs.Prelude.{◌≡◌, ◌⊎◌, ◌≤◌, ℕ, ⊤, List, [], ◌∷◌, ◌++◌, take, flat_map, map, Result, MatchResult}
use Rattle.std.specs.List.{AllByRecursion}
use Rattle.std.specs.declared.option.Option.{Option}
use Rattle.std.specs.declared.option.Option.TheVariants.{None, Some}
use Rattle.tach_media.specs.Medium.{State}
use Rattle.log_model.specs.run_model.declared.Device.{Device}
use Rattle.log_model.specs.run_model.declared.Device.TheVariants.{Unit as Recorder, CardA, CardB}
use Rattle.log_model.specs.declared.lines.Mark.{Mark}

-- the clocks of the three devices at one moment, in writes begun
pub record Clocks : Type 0 where
  pub unit : ℕ
  pub card_a : ℕ
  pub card_b : ℕ

-- those of devices that stand so
abbrev pub clocks_of : (unit card_a card_b : State) → Clocks
clocks_of unit card_a card_b = record { unit = unit.clock; card_a = card_a.clock; card_b = card_b.clock }

-- the clocks have come to these
pub record HaveComeTo (since now : Clocks) : Type 0 where
  pub unit : since.unit ≤ now.unit
  pub card_a : since.card_a ≤ now.card_a
  pub card_b : since.card_b ≤ now.card_b

-- A WRITE: the bytes that the sink took, none where it failed, and the clocks of the devices as it began
pub record Telling : Type 0 where
  pub took : List ℕ
  pub clocks : Clocks

-- the bytes that these writes took, one after the other
abbrev pub taken_by : List Telling → List ℕ
taken_by tells = flat_map (λ t. t.took) tells

-- these writes are behind those before, where they are told
abbrev pub TellsMore : (before now : Option (List Telling)) → List Telling → Type 0
TellsMore None now tells = ⊤
TellsMore (Some before) None tells = ⊥
TellsMore (Some before) (Some now) tells = now ≡ before ++ tells

-- a write of this piece, beside devices with these clocks
abbrev pub Tells : {E : Type 0} → (before now : Option (List Telling)) → Clocks → Result ℕ E → (piece : List ℕ) → Type 0
Tells before now clocks result piece = MatchResult result
    (λ n. TellsMore before now (record { took = take n piece; clocks = clocks } ∷ []))
    (λ _. TellsMore before now (record { took = []; clocks = clocks } ∷ []))

-- ---- lines, and since when they may be told

-- A LINE: its bytes, and the clocks that the devices have come to before it may be told
pub record Line : Type 0 where
  pub text : List ℕ
  pub since : Clocks

-- a line that speaks of no minute may be told at any time
abbrev pub at_any_time : Clocks
at_any_time = record { unit = 0; card_a = 0; card_b = 0 }

-- one device has come to this clock
abbrev pub once : Device → ℕ → Clocks
once Recorder clock = record { unit = clock; card_a = 0; card_b = 0 }
once CardA clock = record { unit = 0; card_a = clock; card_b = 0 }
once CardB clock = record { unit = 0; card_a = 0; card_b = clock }

-- THE LINE THAT ACKNOWLEDGES A MINUTE may be told once its device has come to the clock behind the call that kept it:
-- from that clock on each image that a stop may leave of the device has the minute.
abbrev pub mark_line : (text : Mark → List ℕ) → Mark → Line
mark_line text mark = record { text = text mark; since = once mark.device mark.clock }

-- NO BYTE WAS TOLD TOO EARLY: at each of these writes the devices had come to these clocks
abbrev pub NotBefore : Clocks → List Telling → Type 0
NotBefore since tells = AllByRecursion (λ t. HaveComeTo since t.clocks) tells

-- A LINE IS TOLD by these writes, and no byte of it too early
pub record IsTold (line : Line) (tells : List Telling) : Type 0 where
  pub text : taken_by tells ≡ line.text
  pub late : NotBefore line.since tells

-- it is begun: a front of it is told, and no byte of it too early
pub record IsBegun (line : Line) (tells : List Telling) : Type 0 where
  pub behind : List ℕ
  pub text : taken_by tells ++ behind ≡ line.text
  pub late : NotBefore line.since tells

-- LINES ARE TOLD one after another by these writes, each by its own
abbrev pub AreTold : List Line → List Telling → Type 0
AreTold [] tells = tells ≡ []
AreTold (line ∷ lines) tells =
    (own rest : List Telling) × (tells ≡ own ++ rest) × IsTold line own × AreTold lines rest

-- the first of them are told, and the next one is begun: so it is where the sink fails
abbrev pub AreToldUpTo : List Line → List Telling → Type 0
AreToldUpTo [] tells = tells ≡ []
AreToldUpTo (line ∷ lines) tells = IsBegun line tells
    ⊎ ((own rest : List Telling) × (tells ≡ own ++ rest) × IsTold line own × AreToldUpTo lines rest)

-- WHAT WHOEVER READS THE LINES MAY RELY ON: a sink took these lines, each by writes of its own, and no line too early
pub record TellsLines (lines : List Line) (before now : Option (List Telling)) : Type 0 where
  pub tells : List Telling
  pub more : TellsMore before now tells
  pub told : AreTold lines tells
