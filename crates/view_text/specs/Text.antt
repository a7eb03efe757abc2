-- The text of a view (profile).
use Rattle.std.specs.Prelude.{◌≡◌, ℕ, Bool, true, false, List, [], ◌∷◌, ◌++◌, codes}
use Rattle.activity_codec.specs.Names.{slot_name, activity_name}
use Rattle.calendar_days.specs.Calendar.{IsDateText}
use Rattle.calendar_days.specs.Clock.{clock_text}
use Rattle.view_model.specs.declared.State.{State}
use Rattle.view_model.specs.declared.UnitShown.{UnitShown}
use Rattle.view_model.specs.declared.CardShown.{CardShown}
use Rattle.view_model.specs.declared.Viewed.{Viewed}
use Rattle.view_model.specs.declared.Line.{Line}
use Rattle.view_model.specs.Lines.{same_unit, same_card, day_of_minute, lines_of}

-- whether a card was present
abbrev pub presence_word : Bool → List ℕ
presence_word true = codes "in"
presence_word false = codes "out"

-- whether both slots had a present card
abbrev pub crew_word : Bool → List ℕ
crew_word true = codes "crew"
crew_word false = codes "single"

-- what is shown of a slot: `ACT,IN`
abbrev pub state_words : State → List ℕ
state_words state = activity_name state.act ++ codes "," ++ presence_word state.present

-- `driver=ACT,IN codriver=ACT,IN CREW`
abbrev pub unit_words : UnitShown → List ℕ
unit_words shown =
    codes "driver=" ++ state_words shown.driver ++ codes " codriver=" ++ state_words shown.codriver ++ codes " "
    ++ crew_word shown.crew

-- `SLOT=ACT CREW`
abbrev pub card_words : CardShown → List ℕ
card_words shown = slot_name shown.slot ++ codes "=" ++ activity_name shown.act ++ codes " " ++ crew_word shown.crew

-- a line behind its date: ` HH:MM-HH:MM WORDS`
abbrev pub line_text : {X : Type 0} → (X → List ℕ) → Line X → List ℕ
line_text words line = codes " " ++ clock_text line.first ++ codes "-" ++ clock_text line.last ++ codes " "
    ++ words line.shown ++ codes "\n"

-- the text of lines, one after another
abbrev pub IsTextOf : {X : Type 0} → (X → List ℕ) → List (Line X) → List ℕ → Type 0
IsTextOf words [] text = text ≡ []
IsTextOf words (line ∷ lines) text =
    (date : List ℕ) × (rest : List ℕ) × IsDateText (day_of_minute line.first) date
    × (text ≡ date ++ line_text words line ++ rest) × IsTextOf words lines rest

-- the view text of a unit's minutes
unfoldable pub IsUnitView : List (Viewed UnitShown) → List ℕ → Type 0
IsUnitView minutes text = IsTextOf unit_words (lines_of same_unit minutes) text

-- the view text of a card's minutes
unfoldable pub IsCardView : List (Viewed CardShown) → List ℕ → Type 0
IsCardView minutes text = IsTextOf card_words (lines_of same_card minutes) text
