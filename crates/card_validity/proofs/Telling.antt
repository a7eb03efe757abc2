-- The fields of Identification in a card's image, and the card's number.
use Rattle.std.proofs.Common.{◌≡◌, ℕ, ◌+◌, ◌<◌, ◌≤◌, List, [], ◌∷◌, ◌++◌, length, max, take, drop, refl, sym, ◌∙◌, ap, arith, length-take}
use Rattle.std.specs.Prelude.{slice_index}
use Rattle.byteorder.specs.Endian.{big_number}
use Rattle.card_layout.specs.Fields.{place_in}
use Rattle.card_layout.proofs.Images.{part_in}
use Rattle.card_layout.proofs.Fields.{field_part}
use Rattle.card_layout.specs.declared.files.Application.{Application}
use Rattle.card_layout.specs.Files.{files_of, place_of, size_of}
use Rattle.card_layout.proofs.ApplicationLemmas.{kind_of_good}
use Rattle.tach_media.specs.Medium.{bytes_at}
use Rattle.tacho_types.specs.Numbers.{time_of}
use Rattle.tacho_types.specs.CardNumber.{card_number_of}
use Rattle.card_files.specs.declared.current_use.CurrentUse.{CurrentUse}
use Rattle.card_image.specs.card_retention.Entries.{newest_word}
use Rattle.card_image.specs.Fields.{file, file_bytes, card_number, end_mark, session_time, card_days}
use Rattle.card_image.specs.View.{counting}
use Rattle.card_validity.specs.declared.files.Judged.{Judged}
use Rattle.card_validity.specs.declared.looking.CardLook.{CardLook}
use Rattle.card_validity.specs.Judged.{TellsSizes, IsJudged, IsLook, identification_widths, identification_field}
use Rattle.card_validity.proofs.Places.{identification_file}

-- one byte that spells 1
spells_one : (l : List ℕ) → length l ≤ 1 → big_number 1 l ≡ 1 → l ≡ 1 ∷ []
spells_one [] short is = absurd (omega (arith, is))
spells_one (b ∷ []) short is =
    let one : b ≡ 1 = omega (arith, is) in
    ap (λ (n : ℕ). n ∷ []) one
spells_one (b ∷ c ∷ l) short is = absurd (omega (arith, short))

sizes_file : (app : Application) → size_of app (file 0x0501) ≡ 10
unfolding files_of
sizes_file app = omega arith

-- the card type, where the sizes are told
kind_is : (app : Application) (x : List ℕ) → TellsSizes app x → bytes_at x (place_of app (file 0x0501)) 1 ≡ 1 ∷ []
kind_is app x told =
    let p = place_of app (file 0x0501) in
    let at : p + 0 ≡ p = omega arith in
    let same : take 1 (file_bytes app 0x0501 x) ≡ bytes_at x p 1 =
    part_in x p (size_of app (file 0x0501)) 0 1 (omega (arith, sizes_file app)) ∙ ap (λ (q : ℕ). bytes_at x q 1) at in
    let spelled : big_number 1 (bytes_at x p 1) ≡ 1 = ap (big_number 1) (sym same) ∙ kind_of_good (file_bytes app 0x0501 x) told in
    spells_one (bytes_at x p 1) (omega (arith, length-take 1 (drop p x))) spelled

module _ (app : Application) (x bytes : List ℕ) (is : bytes ≡ bytes_at x (place_of app (file 0x0520)) 143) where
  whole : bytes ≡ file_bytes app 0x0520 x
  whole = is ∙ ap (λ (n : ℕ). bytes_at x (place_of app (file 0x0520)) n) (sym (identification_file app))

  -- a field of what was read
  pub field_is : (k p n : ℕ) → k < length identification_widths → p ≡ place_in identification_widths k → n ≡ slice_index identification_widths k → bytes_at bytes p n ≡ identification_field app x k
  field_is k p n below place width =
      ap (λ (q : ℕ). bytes_at bytes q n) place ∙ ap (λ (m : ℕ). bytes_at bytes (place_in identification_widths k) m) width
      ∙ ap (λ (l : List ℕ). bytes_at l (place_in identification_widths k) (slice_index identification_widths k)) whole
      ∙ sym (field_part identification_widths k (file_bytes app 0x0520 x) below)

  -- the card's number
  pub number_told : TellsSizes app x → 1 ∷ take 17 bytes ≡ card_number app x
  unfolding card_number
  number_told told =
      let p = place_of app (file 0x0520) in
      let at : p + 0 ≡ p = omega arith in
      let front : take 17 bytes ≡ bytes_at x p 17 = ap (λ (l : List ℕ). take 17 l) is ∙ part_in x p 143 0 17 (omega arith) ∙ ap (λ (q : ℕ). bytes_at x q 17) at in
      ap (λ (l : List ℕ). 1 ∷ l) front ∙ ap (λ (l : List ℕ). l ++ bytes_at x p 17) (sym (kind_is app x told))

-- a look of these fields is what the card tells
pub look_is : (app : Application) (x bytes : List ℕ) (j : Judged) (l : CardLook) → IsJudged app x j → TellsSizes app x → bytes ≡ bytes_at x (place_of app (file 0x0520)) 143
    → l.number ≡ card_number_of (1 ∷ take 17 bytes) → l.surname.0 ≡ bytes_at bytes 65 36 → l.first.0 ≡ bytes_at bytes 101 36 → l.expiry ≡ time_of (bytes_at bytes 61 4)
    → l.session ≡ j.current.session.0 → l.newest_minute ≡ max (end_mark app x) (newest_word (counting (session_time app x) (end_mark app x) (card_days app x))) → l.previous ≡ j.vehicle
    → IsLook app x l
look_is app x bytes j l judged told is number surname first expiry session newest previous = record {
  valid = judged.valid;
  number = number ∙ ap card_number_of (number_told app x bytes is told);
  surname = surname ∙ field_is app x bytes is 6 65 36 (omega arith) refl refl;
  first = first ∙ field_is app x bytes is 7 101 36 (omega arith) refl refl;
  expiry = expiry ∙ ap time_of (field_is app x bytes is 5 61 4 (omega arith) refl refl);
  session = session ∙ ap (λ (u : CurrentUse). u.session.0) judged.known.current;
  newest_minute = newest;
  previous = previous ∙ judged.known.vehicle;
}
