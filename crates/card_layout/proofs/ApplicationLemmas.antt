-- Application_Identification as it is read and as it is written.
use Rattle.std.proofs.Common.{◌≡◌, ℕ, ◌+◌, ◌%◌, ◌≤◌, ◌<◌, ◌^◌, Bool, true, false, List, [], ◌∷◌, length, get_or, take, drop, map, Option, Some, None, refl, sym, ◌∙◌, ap, arith}
use Rattle.std.specs.Prelude.{◌==◌, if◌then◌else◌}
use Rattle.std.proofs.lemmas.Bool.{le-leb, eq-eqb, eqb-true}
use Rattle.byteorder.specs.Endian.{big_number}
use Rattle.byteorder.specs.Numbers.{big_from-take}
use Rattle.card_layout.specs.Fields.{IsBytes, FitIn, numbers_of, numbers_written}
use Rattle.card_layout.proofs.Cuts.{numbers_written-numbers_of, numbers_of-numbers_written}
use Rattle.card_layout.specs.declared.files.Application.{Application}
use Rattle.card_layout.specs.Application.{Field, IsApplication, is_between, application_of, application_bytes, application_fields, application_widths, first_bad_field, first_bad_from}

-- what is read is written so
pub application_bytes-application_of : (bytes : List ℕ) → length bytes ≡ 10 → IsBytes bytes → big_number 1 (take 1 bytes) ≡ 1 → application_bytes (application_of bytes) ≡ bytes
unfolding application_bytes application_of
application_bytes-application_of bytes len fits kind =
    let same : numbers_of application_widths bytes ≡ 1 ∷ (application_of bytes).structure ∷ (application_of bytes).events ∷ (application_of bytes).faults ∷ (application_of bytes).activity
    ∷ (application_of bytes).vehicles ∷ (application_of bytes).places ∷ [] = rw kind refl in
    ap (numbers_written application_widths) (sym same) ∙ numbers_written-numbers_of application_widths bytes (sym len) fits

-- the numbers in the fields, of a card of these sizes
abbrev values_of : Application → List ℕ
values_of app = 1 ∷ app.structure ∷ app.events ∷ app.faults ∷ app.activity ∷ app.vehicles ∷ app.places ∷ []

values_fit : (app : Application) → app.structure < 2 ^ 16 → IsApplication app → FitIn application_widths (values_of app)
values_fit app wide good = (omega arith, (omega arith, (omega arith, (omega arith, (omega arith, (omega arith, (omega arith, refl)))))))

numbers_again : (app : Application) → app.structure < 2 ^ 16 → IsApplication app → numbers_of application_widths (application_bytes app) ≡ values_of app
unfolding application_bytes
numbers_again app wide good = numbers_of-numbers_written application_widths (values_of app) (values_fit app wide good)

-- what is written is read so
pub application_of-application_bytes : (app : Application) → app.structure < 2 ^ 16 → IsApplication app → application_of (application_bytes app) ≡ app
unfolding application_of
application_of-application_bytes app wide good =
    let read : List ℕ → Application = λ numbers. record {
      structure = get_or numbers 1 0;
      events = get_or numbers 2 0;
      faults = get_or numbers 3 0;
      activity = get_or numbers 4 0;
      vehicles = get_or numbers 5 0;
      places = get_or numbers 6 0;
    } in
    ap read (numbers_again app wide good)

-- the first number out of its field's range
abbrev first_bad_number : ℕ → List Field → List ℕ → Option ℕ
first_bad_number n [] numbers = None
first_bad_number n (f ∷ fs) [] = None
first_bad_number n (f ∷ fs) (x ∷ numbers) = if f.is_good x then first_bad_number (n + 1) fs numbers else Some n

first_bad_from-numbers : (n : ℕ) (fs : List Field) (bytes : List ℕ) → first_bad_from n fs bytes ≡ first_bad_number n fs (numbers_of (map (λ f. f.width) fs) bytes)
first_bad_from-numbers n [] bytes = refl
first_bad_from-numbers n (f ∷ fs) bytes =
    let number : big_number f.width (take f.width bytes) ≡ big_number f.width bytes = big_from-take 0 f.width f.width bytes (omega arith) in
    rw (number, first_bad_from-numbers (n + 1) fs (drop f.width bytes)) refl

between : (low high n : ℕ) → low ≤ n → n ≤ high → is_between low high n ≡ true
between low high n l h = rw (le-leb low n l, le-leb n high h) refl

-- and no field is bad
pub first_bad_field-application_bytes : (app : Application) → app.structure < 2 ^ 16 → IsApplication app → first_bad_field (application_bytes app) ≡ None
unfolding first_bad_field
first_bad_field-application_bytes app wide good =
    first_bad_from-numbers 1 application_fields (application_bytes app) ∙ ap (first_bad_number 1 application_fields) (numbers_again app wide good)
    ∙ rw (
      between 6 12 app.events good.events_least good.events_most,
      between 12 24 app.faults good.faults_least good.faults_most,
      between 5544 13776 app.activity good.string_least good.string_most,
      eq-eqb (app.activity % 2) 0 good.string_even,
      between 84 200 app.vehicles good.vehicles_least good.vehicles_most,
      between 84 112 app.places good.places_least good.places_most,
    ) refl

-- the card type of a file in which no field is bad
kind_good : (bytes : List ℕ) (b : Bool) (o : Option ℕ) → (big_number 1 bytes == 1) ≡ b → (if b then o else Some 1) ≡ None → big_number 1 bytes ≡ 1
kind_good bytes true o is none = eqb-true (big_number 1 bytes) 1 is
kind_good bytes false o is none = absurd cc

pub kind_of_good : (bytes : List ℕ) → first_bad_field bytes ≡ None → big_number 1 (take 1 bytes) ≡ 1
unfolding first_bad_field
kind_of_good bytes none =
    big_from-take 0 1 1 bytes (omega arith) ∙ kind_good bytes (big_number 1 bytes == 1) _ refl none
