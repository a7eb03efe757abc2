-- Reading and writing Application_Identification undo each other.
use Rattle.std.proofs.Common.{◌≡◌, ℕ, ◌<◌, ◌^◌, List, length, Some, None, Result, Ok, Err, sym, ◌∙◌, ap}
use Rattle.std.specs.Prelude.{IfOk}
use Rattle.card_layout.specs.Fields.{IsBytes}
use Rattle.card_layout.specs.declared.files.Application.{Application}
use Rattle.card_layout.specs.Application.{first_bad_field, application_of, application_bytes, IsApplication}
use Rattle.card_layout.proofs.ApplicationLemmas.{kind_of_good, application_bytes-application_of, application_of-application_bytes, first_bad_field-application_bytes}
use Rattle.card_files.specs.declared.application.BadApplication.{BadApplication}
use Rattle.card_files.specs.Reading.{IsReading}

pub written_again : (bytes : List ℕ) (answer : Result Application BadApplication) → length bytes ≡ 10 → IsBytes bytes → IsReading bytes answer
    → IfOk answer (λ app. application_bytes app ≡ bytes)
written_again bytes (Ok app) len fits read =
    ap application_bytes read.1 ∙ application_bytes-application_of bytes len fits (kind_of_good bytes read.0)
written_again bytes (Err bad) len fits read = tt

pub read_again : (bytes : List ℕ) (answer : Result Application BadApplication) (app : Application) → IsReading bytes answer
    → app.structure < 2 ^ 16 → IsApplication app → bytes ≡ application_bytes app → answer ≡ Ok app
read_again bytes (Ok a) app read wide good is =
    let same : a ≡ app = read.1 ∙ ap application_of is ∙ application_of-application_bytes app wide good in
    ap (λ (x : Application). let r : Result Application BadApplication = Ok x in r) same
read_again bytes (Err bad) app read wide good is =
    let none : first_bad_field bytes ≡ None = ap first_bad_field is ∙ first_bad_field-application_bytes app wide good in
    let both : Some bad.0 ≡ None = sym read ∙ none in
    absurd cc
