-- A card file shows one list of entries, and tells one list of vehicle entries.
use Rattle.std.proofs.Common.{◌≡◌, ◌∙◌, ℕ, List, [], ◌∷◌, ap, sym}
use Rattle.activity_codec.specs.declared.entries.Entry.{Entry}
use Rattle.card_layout.specs.declared.files.Application.{Application}
use Rattle.card_layout.specs.Application.{application_of}
use Rattle.card_files.specs.declared.vehicle.Vehicle.{Vehicle}
use Rattle.card_image.specs.CardFile.{values_of, shown_entries}
use Rattle.file_view.specs.Vehicles.{vehicles_told, ShowsCard}
use Rattle.card_download.proofs.OneList.{one_list}

one_value : (a b : List ℕ) → a ∷ [] ≡ b ∷ [] → a ≡ b
one_value a b is = cc

module _ (bytes : List ℕ) (e1 e2 : List Entry) (v1 v2 : List Vehicle) (one : ShowsCard bytes e1 v1) (other : ShowsCard bytes e2 v2) where
  same_entries : one.entries ≡ other.entries
  same_entries = one_list one.entries other.entries one.file.each other.file.each (sym one.file.spelled ∙ other.file.spelled)

  same_app : one.app ≡ other.app
  same_app =
      one.file.application.1
      ∙ ap application_of (one_value one.file.sizes other.file.sizes (sym one.file.one_application ∙ ap (values_of 0x0501) same_entries ∙ other.file.one_application))
      ∙ sym other.file.application.1

  same_days : one.days ≡ other.days
  same_days = one_value one.days other.days (sym one.file.one_string ∙ ap (values_of 0x0504) same_entries ∙ other.file.one_string)

  same_ring : one.vehicles ≡ other.vehicles
  same_ring = one_value one.vehicles other.vehicles (sym one.file.one_ring ∙ ap (values_of 0x0505) same_entries ∙ other.file.one_ring)

  pub one_shown : e1 ≡ e2
  one_shown =
      one.shown_are
      ∙ ap (λ (app : Application). shown_entries app one.days one.vehicles) same_app
      ∙ ap (λ (days : List ℕ). shown_entries other.app days one.vehicles) same_days
      ∙ ap (λ (ring : List ℕ). shown_entries other.app other.days ring) same_ring
      ∙ sym other.shown_are

  pub one_told : v1 ≡ v2
  one_told =
      one.told_are ∙ ap (λ (app : Application). vehicles_told app one.vehicles) same_app ∙ ap (λ (ring : List ℕ). vehicles_told other.app ring) same_ring ∙ sym other.told_are
