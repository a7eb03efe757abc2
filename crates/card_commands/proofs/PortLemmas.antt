-- A port's state from its loading on.
use Rattle.std.proofs.Common.{◌≡◌, ℕ, ◌≤◌, true, List, length, Option, Some, None, IfSome, is_none, if◌then◌else◌, refl, sym, ◌∙◌, ap, subst, arith}
use Rattle.std.specs.Prelude.{option_and_then}
use Rattle.std.specs.Option.{ForSome}
use Rattle.std.proofs.lemmas.List.{take_all}
use Rattle.card_layout.specs.declared.files.Application.{Application}
use Rattle.card_layout.specs.Application.{first_bad_field, application_of, IsApplication}
use Rattle.card_layout.specs.declared.command.CardState.{CardState}
use Rattle.card_layout.specs.declared.command.Directory.{Directory}
use Rattle.card_layout.specs.declared.command.Directory.TheVariants.{Tachograph}
use Rattle.card_layout.specs.declared.command.ElementaryFile.{ElementaryFile}
use Rattle.tach_media.specs.Medium.{State, bytes_at}
use Rattle.card_layout.specs.Outcomes.{Fixes, in_directory, is_under}
use Rattle.card_commands.specs.Ports.{IsPort, told_by, application_file}

-- what is fixed is there
fixed_some : (image before after : Option (List ℕ)) → Fixes true image before after → (bytes : List ℕ) × (after ≡ Some bytes)
fixed_some image (Some bytes) after fixes = (bytes, fixes)
fixed_some image None None fixes = absurd fixes
fixed_some image None (Some bytes) fixes = (bytes, refl)

said_of : {o : Option (List ℕ)} (P : List ℕ → Type 0) {x : List ℕ} → o ≡ Some x → IfSome o P → P x
said_of {o} P {x} is said = subst (λ (p : Option (List ℕ)). IfSome p P) is said

pub tells : (bytes : List ℕ) → first_bad_field bytes ≡ None → told_by bytes ≡ Some (application_of bytes)
tells bytes none = ap (λ (o : Option ℕ). if is_none o then Some (application_of bytes) else None) none

-- after Application_Identification was read
pub loaded : (app : Application) (out : List ℕ) (c0 c1 c2 c3 : CardState) (image : Option (List ℕ)) (s : State)
    → c1 ≡ in_directory Tachograph c0 → c2 ≡ record c1 { selected = Some application_file } → c3 ≡ record c2 { application = c3.application }
    → Fixes true image c2.application c3.application → ForSome c3.application (λ bytes. length bytes ≡ 10) → IfSome c3.application (λ bytes. out ≡ bytes_at bytes 0 10)
    → (first_bad_field out ≡ None) × (app ≡ application_of out) → IsApplication app → 24959 ≤ s.size → s.works ≡ true → IsPort app (Some application_file) c3 s
loaded app out c0 c1 c2 c3 image s e1 e2 e3 fixes ten told judged good size works =
    let there = fixed_some image c2.application c3.application fixes in
    let bytes = there.0 in
    let whole : out ≡ bytes = said_of (λ bytes. out ≡ bytes_at bytes 0 10) there.1 told ∙ take_all 10 bytes (omega (arith, ten bytes there.1)) in
    let selected : c3.selected ≡ Some application_file = ap (λ c. c.selected) e3 ∙ ap (λ c. c.selected) e2 in
    let directory : c3.directory ≡ Tachograph = ap (λ c. c.directory) e3 ∙ ap (λ c. c.directory) e2 ∙ ap (λ c. c.directory) e1 in
    record {
      good = good;
      size = size;
      sizes = ap (option_and_then told_by) there.1 ∙ ap told_by (sym whole) ∙ tells out judged.0 ∙ ap Some (sym judged.1);
      works = λ file is. works;
      chosen = λ file is. selected ∙ is;
      current = λ file is.
          let same : application_file ≡ file = cc in
          ap (λ (d : Directory). is_under d file.fid) directory ∙ ap (λ (f : ElementaryFile). is_under Tachograph f.fid) (sym same);
    }
