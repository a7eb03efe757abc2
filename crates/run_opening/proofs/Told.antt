-- What is known of a card is what its image tells.
use Rattle.std.proofs.Common.{◌≡◌, ℕ, ◌≤◌, Option, Some, None, option_map, IfSome, List, Result, Ok, Err, length, refl, ap, subst, sym, ◌∙◌, arith}
use Rattle.std.specs.Prelude.{is_ok}
use Rattle.card_layout.specs.declared.files.Application.{Application}
use Rattle.card_layout.specs.declared.files.Fid.{Fid}
use Rattle.card_layout.specs.declared.files.TheConstants.{LARGEST_IMAGE}
use Rattle.card_layout.specs.Application.{IsApplication, first_bad_field, place_of_field, application_in, application_of}
use Rattle.card_layout.specs.Files.{files_of, image_size_of}
use Rattle.card_layout.proofs.Sizes.{largest_image}
use Rattle.card_layout.specs.declared.command.CardState.{CardState}
use Rattle.tacho_types.specs.declared.card_number.FullCardNumber.{FullCardNumber}
use Rattle.tacho_types.specs.CardNumber.{card_number_of}
use Rattle.tach_media.specs.Medium.{State, IsCoherent}
use Rattle.tach_media.proofs.Runs.{both_told, from_told}
use Rattle.card_commands.specs.Ports.{IsPort, IsJudged}
use Rattle.card_model.specs.Days.{AreDays}
use Rattle.card_image.specs.Fields.{file_bytes, card_days, card_number}
use Rattle.card_image.specs.Judging.{first_bad_file}
use Rattle.card_image.specs.Own.{own_sizes, own_number, own_bad_file, IsOwnValid}
use Rattle.card_validity.specs.declared.looking.CardLook.{CardLook}
use Rattle.card_validity.specs.Judged.{TellsSizes, IsLook}
use Rattle.device_calls.proofs.Passed.{valid-passes, valid-days}
use Rattle.device_calls.proofs.PutIn.{number_told}
use Rattle.run_crew.specs.declared.cards.Known.{Known}
use Rattle.run_opening.specs.Cards.{sizes_by, number_by, told_sizes, told_number, IsKnownOfCard, IsFoundOn}

-- Application_Identification lies at one place on every card
application-at : (app : Application) (x : List ℕ) → file_bytes app 0x0501 x ≡ application_in x
unfolding files_of
application-at app x = refl

pub tells-sizes : (app : Application) (x : List ℕ) → first_bad_field (application_in x) ≡ None → TellsSizes app x
tells-sizes app x good = ap (λ (bytes : List ℕ). first_bad_field bytes) (application-at app x) ∙ good

own-judged : (x : List ℕ) → own_bad_file x ≡ first_bad_file (own_sizes x) x
unfolding own_bad_file
own-judged x = refl

own-numbered : (x : List ℕ) → own_number x ≡ card_number (own_sizes x) x
unfolding own_number
own-numbered x = refl

own-sized : (x : List ℕ) → own_sizes x ≡ application_of (application_in x)
unfolding own_sizes
own-sized x = refl

-- the sizes of a valid card pass
pub valid-sizes : (x : List ℕ) → IsOwnValid x → first_bad_field (application_in x) ≡ None
valid-sizes x valid = by (first_bad_field (application_in x)) refl
  where
    pass : option_map place_of_field (first_bad_field (file_bytes (own_sizes x) 0x0501 x)) ≡ None
    pass = (valid-passes (own_sizes x) x (sym (own-judged x) ∙ valid)).sizes

    by : (o : Option ℕ) → first_bad_field (application_in x) ≡ o → first_bad_field (application_in x) ≡ None
    by None is = is
    by (Some f) is =
        let bad : option_map place_of_field (first_bad_field (file_bytes (own_sizes x) 0x0501 x)) ≡ Some (place_of_field f) =
        ap (λ (bytes : List ℕ). option_map place_of_field (first_bad_field bytes)) (application-at (own_sizes x) x) ∙ ap (option_map place_of_field) is in
        absurd (let no = sym pass ∙ bad in cc)

-- a card with a bad field is not valid
pub told-bad : (x : List ℕ) (field : ℕ) → first_bad_field (application_in x) ≡ Some field → IsKnownOfCard x (record { sizes = Err field; number = None; row = 0; accepted = None })
told-bad x field bad = record {
  sizes = sym (ap (λ (o : Option ℕ). sizes_by o (own_sizes x)) bad);
  number = by (own_bad_file x) refl;
  bytes = tt;
}
  where
    by : (o : Option (Fid × ℕ)) → own_bad_file x ≡ o → (let none : Option FullCardNumber = None in none) ≡ told_number x
    by None valid = absurd (let no = sym (valid-sizes x valid) ∙ bad in cc)
    by (Some place) is = sym (ap (λ (o : Option (Fid × ℕ)). number_by o (card_number_of (own_number x))) is)

module _ (app : Application) (x : List ℕ) (judged : IsJudged (application_in x) (Ok app)) where
  own : app ≡ own_sizes x
  own = judged.1 ∙ sym (own-sized x)

  told-ok : (let sizes : Result Application ℕ = Ok app in sizes) ≡ told_sizes x
  told-ok = ap (λ (a : Application). let sizes : Result Application ℕ = Ok a in sizes) own ∙ sym (ap (λ (o : Option ℕ). sizes_by o (own_sizes x)) judged.0)

  number-own : card_number app x ≡ own_number x
  number-own = ap (λ (a : Application). card_number a x) own ∙ sym (own-numbered x)

  judged-own : first_bad_file app x ≡ own_bad_file x
  judged-own = ap (λ (a : Application). first_bad_file a x) own ∙ sym (own-judged x)

  pub told-valid : (l : CardLook) → image_size_of app ≤ length x → IsLook app x l → IsKnownOfCard x (record { sizes = Ok app; number = Some l.number; row = 0; accepted = None })
  told-valid l fits look = record {
    sizes = told-ok;
    number = ap Some (look.number ∙ ap card_number_of number-own) ∙ sym (ap (λ (o : Option (Fid × ℕ)). number_by o (card_number_of (own_number x))) (sym judged-own ∙ look.valid));
    bytes = number_told app x l fits look ∙ number-own;
  }

  pub told-invalid : (fid : Fid) (place : ℕ) → first_bad_file app x ≡ Some (fid, place) → IsKnownOfCard x (record { sizes = Ok app; number = None; row = 0; accepted = None })
  told-invalid fid place bad = record {
    sizes = told-ok;
    number = sym (ap (λ (o : Option (Fid × ℕ)). number_by o (card_number_of (own_number x))) (sym judged-own ∙ bad));
    bytes = tt;
  }

-- the sizes that the image of a valid card tells are those that it goes by
pub valid-known : (x : List ℕ) (known : Known) → IsKnownOfCard x known → IsOwnValid x → known.sizes ≡ Ok (own_sizes x)
valid-known x known told valid = told.sizes ∙ ap (λ (o : Option ℕ). sizes_by o (own_sizes x)) (valid-sizes x valid)

-- and it has days
pub found-days : (x : List ℕ) (known : Known) (on : CardState) (card : State) → IsFoundOn known on card → IsCoherent card → card.image ≡ Some x → IsKnownOfCard x known → IsOwnValid x → AreDays 0 (card_days (own_sizes x) x)
found-days x known on card found whole image told valid =
    let port = found.port (own_sizes x) (valid-known x known told valid) in
    let sized = whole.sized x image in
    valid-days (own_sizes x) port.good x (omega (arith, largest_image (own_sizes x) port.good, port.size, sized)) (sym (own-judged x) ∙ valid)

-- ---- a card as it is found

-- by its sizes
pub found-by : (known : Known) (app : Application) (on : CardState) (old new : State) → known.accepted ≡ None → known.sizes ≡ Ok app → IsPort app None on new → new.image ≡ old.image → IfSome old.image (λ x. IsKnownOfCard x known) → IsFoundOn known on new
found-by known app on old new none sizes port same told = record {
  none = none;
  port = λ a is. let one : app ≡ a = sized-one app a (sym sizes ∙ is) in subst (λ (b : Application). IsPort b None on new) one port;
  sized = λ some. ap (λ (s : Result Application ℕ). is_ok s) sizes;
  told = subst (λ (o : Option (List ℕ)). IfSome o (λ x. IsKnownOfCard x known)) (sym same) told;
}
  where
    sized-one : (a b : Application) → (let sizes : Result Application ℕ = Ok a in sizes) ≡ Ok b → a ≡ b
    sized-one a b is = cc

module _ (app : Application) (on : CardState) (old new : State) (whole : IsCoherent old) (good : IsApplication app) (size : LARGEST_IMAGE ≤ old.size) (port : IsPort app None on new)
    (same : new.image ≡ old.image) (judged : IfSome old.image (λ x. IsJudged (application_in x) (Ok app))) where
  pub found-valid : (l : CardLook) → IfSome old.image (λ x. IsLook app x l) → IsFoundOn (record { sizes = Ok app; number = Some l.number; row = 0; accepted = None }) on new
  found-valid l look = found-by (record { sizes = Ok app; number = Some l.number; row = 0; accepted = None }) app on old new refl refl port same
      (both_told old.image (λ x. IsKnownOfCard x (record { sizes = Ok app; number = Some l.number; row = 0; accepted = None })) judged look
      (λ x is j at. told-valid app x j l (let sized = whole.sized x is in omega (arith, largest_image app good, size, sized)) at))

  pub found-invalid : (fid : Fid) (place : ℕ) → IfSome old.image (λ x. first_bad_file app x ≡ Some (fid, place)) → IsFoundOn (record { sizes = Ok app; number = None; row = 0; accepted = None }) on new
  found-invalid fid place bad = found-by (record { sizes = Ok app; number = None; row = 0; accepted = None }) app on old new refl refl port same
      (both_told old.image (λ x. IsKnownOfCard x (record { sizes = Ok app; number = None; row = 0; accepted = None })) judged bad (λ x is j at. told-invalid app x j fid place at))

-- and one that has a bad field
pub found-bad : (field : ℕ) (on : CardState) (old new : State) → new.image ≡ old.image → IfSome old.image (λ x. first_bad_field (application_in x) ≡ Some field) → IsFoundOn (record { sizes = Err field; number = None; row = 0; accepted = None }) on new
found-bad field on old new same bad = record {
  none = refl;
  port = λ app is. absurd (let no : (let sizes : Result Application ℕ = Err field in sizes) ≡ Ok app = is in cc);
  sized = λ some. absurd (cc);
  told = subst (λ (o : Option (List ℕ)). IfSome o (λ x. IsKnownOfCard x (record { sizes = Err field; number = None; row = 0; accepted = None }))) (sym same)
      (from_told old.image (λ x. first_bad_field (application_in x) ≡ Some field) (λ x. IsKnownOfCard x (record { sizes = Err field; number = None; row = 0; accepted = None })) bad (λ x is at. told-bad x field at));
}
