-- What a card tells is what its image tells.
use Rattle.std.proofs.Common.{◌≡◌, ◌∙◌, ℕ, Some, Ok, Err, List, ap, sym}
use Rattle.card_layout.specs.declared.files.Application.{Application}
use Rattle.card_layout.specs.declared.files.Fid.{Fid}
use Rattle.card_layout.specs.Application.{application_in}
use Rattle.tacho_types.specs.declared.numbers.TimeReal.{TimeReal}
use Rattle.tacho_types.specs.declared.card_number.FullCardNumber.{FullCardNumber}
use Rattle.tacho_types.specs.CardNumber.{card_number_of}
use Rattle.tacho_types.specs.Numbers.{time_of}
use Rattle.std.specs.Prelude.{Option, max}
use Rattle.card_files.specs.declared.vehicle.Vehicle.{Vehicle}
use Rattle.card_commands.specs.Ports.{IsJudged}
use Rattle.card_retention.specs.Entries.{newest_word}
use Rattle.card_image.specs.Fields.{end_mark, session_time, card_days, card_number}
use Rattle.card_image.specs.View.{counting}
use Rattle.card_image.specs.Judging.{first_bad_file}
use Rattle.card_image.specs.Own.{own_sizes, own_bad_file}
use Rattle.card_validity.specs.declared.looking.CardLook.{CardLook}
use Rattle.card_validity.specs.Judged.{IsLook, identification_field}
use Rattle.device_state.specs.declared.card.CardFault.TheVariants.{BadFile}
use Rattle.device_state.specs.Cards.{look_by, TellsCard}

-- a look by its fields
abbrev made : FullCardNumber → (surname first : List ℕ) → TimeReal → (session newest : ℕ) → Option Vehicle → CardLook
made number surname first expiry session newest previous =
    record { number = number; surname = record { 0 = surname }; first = record { 0 = first }; expiry = expiry; session = session; newest_minute = newest; previous = previous }

-- a look at a card is what is told by its sizes
look-is : (app : Application) (x : List ℕ) (l : CardLook) → IsLook app x l → l ≡ look_by app x
look-is app x l look =
    let n : ℕ = max (end_mark app x) (newest_word (counting (session_time app x) (end_mark app x) (card_days app x))) in
    let a = ap (λ (v : FullCardNumber). made v l.surname.0 l.first.0 l.expiry l.session l.newest_minute l.previous) look.number in
    let b = ap (λ (v : List ℕ). made (card_number_of (card_number app x)) v l.first.0 l.expiry l.session l.newest_minute l.previous) look.surname in
    let c = ap (λ (v : List ℕ). made (card_number_of (card_number app x)) (identification_field app x 6) v l.expiry l.session l.newest_minute l.previous) look.first in
    let d = ap (λ (v : TimeReal). made (card_number_of (card_number app x)) (identification_field app x 6) (identification_field app x 7) v l.session l.newest_minute l.previous) look.expiry in
    let e = ap (λ (v : ℕ). made (card_number_of (card_number app x)) (identification_field app x 6) (identification_field app x 7) (time_of (identification_field app x 5)) v l.newest_minute l.previous) look.session in
    let f = ap (λ (v : ℕ). made (card_number_of (card_number app x)) (identification_field app x 6) (identification_field app x 7) (time_of (identification_field app x 5)) (session_time app x) v l.previous) look.newest_minute in
    let g = ap (λ (v : Option Vehicle). made (card_number_of (card_number app x)) (identification_field app x 6) (identification_field app x 7) (time_of (identification_field app x 5)) (session_time app x) n v) look.previous in
    a ∙ b ∙ c ∙ d ∙ e ∙ f ∙ g

own-sized : (app : Application) (x : List ℕ) → IsJudged (application_in x) (Ok app) → app ≡ own_sizes x
unfolding own_sizes
own-sized app x judged = judged.1

bad-own : (app : Application) (x : List ℕ) → app ≡ own_sizes x → first_bad_file app x ≡ own_bad_file x
unfolding own_bad_file
bad-own app x own = ap (λ (a : Application). first_bad_file a x) own

pub tells-valid : (app : Application) (x : List ℕ) (l : CardLook) → IsJudged (application_in x) (Ok app) → IsLook app x l → TellsCard (Ok l) x
tells-valid app x l judged look =
    let own = own-sized app x judged in
    (judged.0, sym (bad-own app x own) ∙ look.valid, look-is app x l look ∙ ap (λ (a : Application). look_by a x) own)

pub tells-bad : (app : Application) (x : List ℕ) (fid : Fid) (place : ℕ) → IsJudged (application_in x) (Ok app) → first_bad_file app x ≡ Some (fid, place) → TellsCard (Err (BadFile fid place)) x
tells-bad app x fid place judged bad = (judged.0, sym (bad-own app x (own-sized app x judged)) ∙ bad)
