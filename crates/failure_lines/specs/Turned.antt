-- What is told of the cards that a run turned away (profile).
use Rattle.std.specs.Prelude.{◌≡◌, ℕ, List, [], ◌∷◌, ◌++◌, codes}
use Rattle.activity_codec.specs.Names.{slot_name}
use Rattle.activity_codec.specs.declared.values.Slot.{Slot}
use Rattle.log_model.specs.declared.lines.Find.{Find}
use Rattle.log_model.specs.declared.lines.Verdict.{Verdict}
use Rattle.log_model.specs.declared.lines.Verdict.TheVariants.{Accepted, NotValid, TimeOverlap}
use Rattle.failure_lines.specs.Timed.{IsTimedText}

-- a line: `driver card turned away at 2010-03-01 06:12:03: it is not valid`
abbrev pub IsTurnedText : Slot → (second : ℕ) → (what : List ℕ) → List ℕ → Type 0
IsTurnedText slot second what text = IsTimedText (slot_name slot ++ codes " card") (codes " turned away at ") second
    what text

-- the line of a verdict on the card of a slot; nothing where the card is accepted
abbrev pub IsVerdictLine : Verdict → Slot → (second : ℕ) → List ℕ → Type 0
IsVerdictLine (Accepted replayed) slot second text = text ≡ []
IsVerdictLine (NotValid fid place) slot second text = IsTurnedText slot second (codes "it is not valid") text
IsVerdictLine (TimeOverlap stored now) slot second text = IsTurnedText slot second (codes "it tells of a later time")
    text

-- WHAT IS TOLD of the cards that a run judged: a line for each that it turned away, in their order
abbrev pub AreTurnedLines : List Find → List ℕ → Type 0
AreTurnedLines [] text = text ≡ []
AreTurnedLines (f ∷ fs) text = (line : List ℕ) × (rest : List ℕ) × IsVerdictLine f.verdict f.slot f.second line
    × (text ≡ line ++ rest) × AreTurnedLines fs rest
