-- What is told of the failed calls of a run (profile).
use Rattle.std.specs.Prelude.{◌≡◌, ℕ, ◌==◌, Bool, true, false, List, [], ◌∷◌, ◌++◌, codes, decimal}
use Rattle.std.specs.Prelude.{count_by, if◌then◌else◌}
use Rattle.activity_codec.specs.Names.{slot_name}
use Rattle.log_model.specs.declared.lines.Break.{Break}
use Rattle.log_model.specs.declared.lines.Break.TheVariants.{Cut, Tear}
use Rattle.failure_lines.specs.Timed.{IsTimedText}

-- a line: `WHO failed at 2010-03-01 06:12:03: WHAT`
abbrev pub IsFailureText : (who : List ℕ) → (second : ℕ) → (what : List ℕ) → List ℕ → Type 0
IsFailureText who second what text = IsTimedText who (codes " failed at ") second what text

-- the line of a break that a failed call made; nothing of any other
abbrev pub IsBreakLine : Break → List ℕ → Type 0
IsBreakLine (Cut second kept false begun) text = text ≡ []
IsBreakLine (Cut second kept true begun) text = IsFailureText (codes "unit") second (codes "power is cut") text
IsBreakLine (Tear second slot false begun late) text = text ≡ []
IsBreakLine (Tear second slot true begun late) text = IsFailureText (slot_name slot ++ codes " card") second
    (codes "it is torn out") text

-- and of several, in their order
abbrev pub AreTold : List Break → List ℕ → Type 0
AreTold [] text = text ≡ []
AreTold (b ∷ bs) text = (line : List ℕ) × (rest : List ℕ) × IsBreakLine b line × (text ≡ line ++ rest) × AreTold bs rest

-- a failed call made this break
abbrev pub is_failed : Break → Bool
is_failed (Cut second kept failed begun) = failed
is_failed (Tear second slot failed begun late) = failed

-- the last line: how many there are; nothing where there is none
abbrev pub last_line : ℕ → List ℕ
last_line n = if n == 0 then [] else codes "breaks by failed calls " ++ decimal n ++ codes "\n"

-- WHAT IS TOLD of a run with these breaks
abbrev pub IsFailuresText : List Break → List ℕ → Type 0
IsFailuresText breaks text = (lines : List ℕ) × AreTold breaks lines
    × (text ≡ lines ++ last_line (count_by is_failed breaks))
