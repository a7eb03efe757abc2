-- The view text of entries by hand (profile).
use Rattle.std.specs.Prelude.{◌≡◌, List, [], ◌∷◌, ◌++◌, ℕ, codes}
use Rattle.activity_codec.specs.Names.{slot_name, activity_name}
use Rattle.activity_codec.specs.declared.entries.Manual.{Manual}
use Rattle.calendar_days.specs.Calendar.{IsDateText}
use Rattle.calendar_days.specs.Clock.{clock_text}
use Rattle.view_model.specs.Lines.{day_of_minute}

-- a line behind its date: ` HH:MM SLOT=ACT by hand`
abbrev pub by_hand_words : Manual → List ℕ
by_hand_words e = codes " " ++ clock_text e.minute ++ codes " " ++ slot_name e.slot ++ codes "=" ++ activity_name e.act
    ++ codes " by hand\n"

-- a line for each, in their order
abbrev pub IsByHandView : List Manual → List ℕ → Type 0
IsByHandView [] text = text ≡ []
IsByHandView (e ∷ es) text =
    (date : List ℕ) × (rest : List ℕ) × IsDateText (day_of_minute e.minute) date
    × (text ≡ date ++ by_hand_words e ++ rest) × IsByHandView es rest

-- one more line at the end of a text
abbrev pub AddsByHand : (old new : List ℕ) → Manual → Type 0
AddsByHand old new e = (date : List ℕ) × IsDateText (day_of_minute e.minute) date
    × (new ≡ old ++ date ++ by_hand_words e)
