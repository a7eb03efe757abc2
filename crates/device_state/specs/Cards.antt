-- What a card tells of itself, by its image (profile).
use Rattle.std.specs.Prelude.{◌≡◌, ℕ, max, Bool, true, false, Some, None, Result, Ok, Err, List}
use Rattle.card_layout.specs.Application.{first_bad_field, application_in}
use Rattle.card_layout.specs.declared.files.Application.{Application}
use Rattle.tacho_types.specs.Numbers.{time_of}
use Rattle.tacho_types.specs.CardNumber.{card_number_of}
use Rattle.card_retention.specs.Entries.{newest_word}
use Rattle.card_image.specs.Fields.{end_mark, session_time, card_days, card_number, newest_vehicle}
use Rattle.card_image.specs.View.{counting}
use Rattle.card_image.specs.Own.{own_sizes, own_bad_file}
use Rattle.card_validity.specs.declared.looking.CardLook.{CardLook}
use Rattle.card_validity.specs.Judged.{identification_field}
use Rattle.device_state.specs.declared.card.CardFault.{CardFault}
use Rattle.device_state.specs.declared.card.CardFault.TheVariants.{Failed, BadField, BadFile}

-- what a card of these sizes tells: its newest minute is the later of its end mark and its newest word's minute, of the
-- days that count
abbrev pub look_by : Application → List ℕ → CardLook
look_by app x =
    record {
      number = card_number_of (card_number app x);
      surname = record { 0 = identification_field app x 6 };
      first = record { 0 = identification_field app x 7 };
      expiry = time_of (identification_field app x 5);
      session = session_time app x;
      newest_minute = max (end_mark app x) (newest_word
          (counting (session_time app x) (end_mark app x) (card_days app x)));
      previous = newest_vehicle app x;
    }

-- WHAT A CARD TELLS OF ITSELF, by the sizes that it tells
abbrev pub card_told : List ℕ → CardLook
card_told x = look_by (own_sizes x) x

-- what is answered of an image: what it tells, where it is valid, or else the first field, or the first file, that
-- fails
abbrev pub TellsCard : Result CardLook CardFault → List ℕ → Type 0
TellsCard (Ok look) x = (first_bad_field (application_in x) ≡ None) × (own_bad_file x ≡ None) × (look ≡ card_told x)
TellsCard (Err Failed) x = Unit {0}
TellsCard (Err (BadField field)) x = first_bad_field (application_in x) ≡ Some field
TellsCard (Err (BadFile fid place)) x = (first_bad_field (application_in x) ≡ None)
    × (own_bad_file x ≡ Some (fid, place))

-- the answer is that the card failed
abbrev pub has_failed : {T : Type 0} → Result T CardFault → Bool
has_failed (Ok x) = false
has_failed (Err Failed) = true
has_failed (Err (BadField field)) = false
has_failed (Err (BadFile fid place)) = false
