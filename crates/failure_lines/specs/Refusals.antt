-- What is told of the lines of a trace that a run refused (profile).
use Rattle.std.specs.Prelude.{◌≡◌, ℕ, List, [], ◌∷◌, ◌++◌, codes}
use Rattle.log_model.specs.declared.lines.Refused.{Refused}
use Rattle.log_model.specs.declared.lines.SlotFault.{SlotFault}
use Rattle.log_model.specs.declared.lines.SlotFault.TheVariants.{Moving, Empty, Occupied, NoCard, Elsewhere, NoPower}
use Rattle.log_model.specs.declared.lines.SlotFault.TheVariants.{Begun, NotFree, Full}
use Rattle.failure_lines.specs.Timed.{IsTimedText}

-- why a line was refused
abbrev pub refusal_reason : SlotFault → List ℕ
refusal_reason (Moving speed) = codes "the vehicle moves"
refusal_reason (Empty slot) = codes "the slot is empty"
refusal_reason (Occupied slot) = codes "the slot is taken"
refusal_reason (NoCard slot) = codes "no accepted card in the slot"
refusal_reason (Elsewhere card) = codes "the other slot has the card"
refusal_reason NoPower = codes "there is no power"
refusal_reason (Begun first) = codes "it comes too late"
refusal_reason (NotFree newest inserted) = codes "the minute is not free"
refusal_reason (Full held) = codes "eight are entered already"

-- a line: `line refused at 2010-03-01 06:12:03: the slot is empty`
abbrev pub IsRefusalLine : Refused → List ℕ → Type 0
IsRefusalLine refused text = IsTimedText (codes "line") (codes " refused at ") refused.second
    (refusal_reason refused.fault) text

-- WHAT IS TOLD of the refused lines of a run: a line for each, in their order
abbrev pub AreRefusalLines : List Refused → List ℕ → Type 0
AreRefusalLines [] text = text ≡ []
AreRefusalLines (r ∷ rs) text = (line : List ℕ) × (rest : List ℕ) × IsRefusalLine r line × (text ≡ line ++ rest)
    × AreRefusalLines rs rest
