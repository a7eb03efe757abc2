-- What reading Application_Identification answers.
use Rattle.std.specs.Prelude.{◌≡◌, ℕ, List, Some, None, Result, MatchResult}
use Rattle.card_layout.specs.declared.files.Application.{Application}
use Rattle.card_layout.specs.Application.{first_bad_field, application_of}
use Rattle.card_files.specs.declared.application.BadApplication.{BadApplication}

-- the sizes where no field is bad, and else the first bad field
abbrev pub IsReading : List ℕ → Result Application BadApplication → Type 0
IsReading bytes answer =
    MatchResult answer (λ app. (first_bad_field bytes ≡ None) × (app ≡ application_of bytes))
    (λ bad. first_bad_field bytes ≡ Some bad.0)
