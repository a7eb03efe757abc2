-- What loading a string that stands alone tells of its bytes.
use Rattle.std.proofs.Common.{◌≡◌, ◌∙◌, ℕ, ◌+◌, ◌-◌, ◌&&◌, Bool, true, not, Option, Some, None, List, length, ap, sym, subst, arith}
use Rattle.std.specs.Prelude.{is_some, ◌==◌, IfSome, IfNone}
use Rattle.std.proofs.lemmas.Bool.Decides.{nat_tests}
use Rattle.card_layout.specs.declared.files.Application.{Application}
use Rattle.card_layout.specs.Application.{IsApplication}
use Rattle.card_model.specs.Checks.{first_bad}
use Rattle.card_model.specs.Image.{StringShape, IsStringShape, HoldsDays}
use Rattle.card_model.specs.Walk.{days_of}
use Rattle.card_model.proofs.Judging.{holds_passes}
use Rattle.card_image.specs.CardFile.{string_alone}
use Rattle.card_days.specs.Held.{Held, Knows}
use Rattle.file_view.specs.CardFiles.{are_days}

-- the shape of a string of so many bytes
abbrev pub shape_by : ℕ → StringShape
shape_by n = record { base = 0; size = n - 4 }

-- what was loaded, or not, is what the test says
pub days_loaded : (app : Application) (value : List ℕ) (o : Option Held) → length value ≡ 4 + app.activity → IsApplication app
    → IfSome o (λ days. (days.shape ≡ shape_by (length value)) × Knows days value (days_of (shape_by (length value)) value))
    → IfNone o (is_some (first_bad (shape_by (length value)) value) ≡ true) → is_some o ≡ are_days (Some app) value
days_loaded app value o long sound some none = by o some none
  where
    size : length value - 4 ≡ app.activity
    size = omega (arith, long)

    here : (length value == 4 + app.activity) ≡ true
    here = grind (arith, nat_tests)

    same : shape_by (length value) ≡ string_alone app
    same = ap (λ (n : ℕ). let r : StringShape = record { base = 0; size = n } in r) size

    shape : IsStringShape (string_alone app)
    shape = record { even = sound.string_even; low = sound.string_least; high = sound.string_most; short = omega (arith, sound.string_most) }

    by : (o : Option Held) → IfSome o (λ days. (days.shape ≡ shape_by (length value)) × Knows days value (days_of (shape_by (length value)) value)) → IfNone o (is_some (first_bad (shape_by (length value)) value) ≡ true) → is_some o ≡ are_days (Some app) value
    by (Some days) some none =
        let passes : first_bad (string_alone app) value ≡ None = holds_passes (string_alone app) shape value (omega (arith, long)) (days_of (shape_by (length value)) value) (subst (λ (r : StringShape). HoldsDays r value (days_of (shape_by (length value)) value)) (some.0 ∙ same) some.1.holds) in
        sym (ap (λ (b : Bool). b && not (is_some (first_bad (string_alone app) value))) here ∙ ap (λ (p : Option ℕ). not (is_some p)) passes)
    by None some none =
        sym (ap (λ (b : Bool). b && not (is_some (first_bad (string_alone app) value))) here
        ∙ ap (λ (r : StringShape). not (is_some (first_bad r value))) (sym same) ∙ ap not none)
