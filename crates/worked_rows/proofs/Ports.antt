-- A session may write through a port all that it writes of a card, and the sizes that a port goes by are those that the card tells.
use Rattle.std.proofs.Common.{◌≡◌, ◌≤◌, ◌+◌, ◌*◌, ℕ, List, Option, Some, None, IfSome, Ok, refl, sym, subst, arith}
use Rattle.card_layout.specs.declared.files.Application.{Application}
use Rattle.card_layout.specs.Application.{application_in}
use Rattle.card_layout.specs.Files.{files_of, place_of, size_of, image_size_of}
use Rattle.card_layout.proofs.Sizes.{largest_image, events_at, days_at, vehicles_at, use_at}
use Rattle.card_layout.specs.declared.command.CardState.{CardState}
use Rattle.card_layout.specs.declared.command.ElementaryFile.{ElementaryFile}
use Rattle.tach_media.specs.Medium.{State, LiesInside}
use Rattle.card_commands.specs.Ports.{IsPort, IsJudged, port_state, writable_of}
use Rattle.card_commands.proofs.Updated.{updated_writable}
use Rattle.card_model.specs.Image.{StringShape}
use Rattle.card_days.specs.Moments.{FileFitsIn}
use Rattle.card_image.specs.Fields.{file, day_string, vehicle_ring}
use Rattle.gated_ring.specs.Ring.{size_of as ring_size}
use Rattle.card_validity.specs.Judged.{TellsSizes}
use Rattle.card_session.specs.Sessions.{MayKeep}
use Rattle.card_session.specs.Inserting.{MayInsert}

moved : (ws : List (ℕ × ℕ)) (p q n m : ℕ) → p ≡ q → n ≡ m → LiesInside ws p n → LiesInside ws q m
moved ws p q n m place len lies = subst (λ (l : ℕ). LiesInside ws q l) len (subst (λ (b : ℕ). LiesInside ws b n) place lies)

module _ (app : Application) where
  events_may : LiesInside (writable_of app) (place_of app (file 0x0502)) (size_of app (file 0x0502))
  unfolding files_of
  events_may = moved (writable_of app) 43 (place_of app (file 0x0502)) (144 * app.events) (size_of app (file 0x0502)) (omega arith) (omega arith) (updated_writable app (file 0x0502) _ (events_at app) refl)

  days_may : LiesInside (writable_of app) (day_string app).base (4 + (day_string app).size)
  unfolding files_of
  days_may = moved (writable_of app) (43 + 144 * app.events + 48 * app.faults) (day_string app).base (4 + app.activity) (4 + (day_string app).size) (omega arith) refl (updated_writable app (file 0x0504) _ (days_at app) refl)

  vehicles_may : LiesInside (writable_of app) (vehicle_ring app).base (ring_size (vehicle_ring app))
  unfolding files_of
  vehicles_may = moved (writable_of app) (place_of app (file 0x0505)) (vehicle_ring app).base (2 + 31 * app.vehicles) (ring_size (vehicle_ring app)) refl (omega arith) (updated_writable app (file 0x0505) _ (vehicles_at app) refl)

  use_may : LiesInside (writable_of app) (place_of app (file 0x0507)) 19
  unfolding files_of
  use_may = updated_writable app (file 0x0507) _ (use_at app) refl

  pub tells : (x : List ℕ) → IsJudged (application_in x) (Ok app) → TellsSizes app x
  unfolding files_of
  tells x judged = judged.0

  by_told : (o : Option (List ℕ)) → IfSome o (λ x. IsJudged (application_in x) (Ok app)) → IfSome o (TellsSizes app)
  by_told None judged = tt
  by_told (Some x) judged = tells x judged

  pub sizes_told : (o q : Option (List ℕ)) → q ≡ o → IfSome o (λ x. IsJudged (application_in x) (Ok app)) → IfSome q (TellsSizes app)
  sizes_told o q same judged = subst (λ (r : Option (List ℕ)). IfSome r (TellsSizes app)) (sym same) (by_told o judged)

  pub days_writable : (days : StringShape) → days ≡ day_string app → LiesInside (writable_of app) days.base (4 + days.size)
  days_writable days at = subst (λ (r : StringShape). LiesInside (writable_of app) r.base (4 + r.size)) (sym at) days_may

  days_inside : (day_string app).base + (4 + (day_string app).size) ≤ image_size_of app
  unfolding files_of
  days_inside = omega arith

module _ {app : Application} {selected : Option ElementaryFile} {card : CardState} {s : State} (port : IsPort app selected card s) where
  pub fits : image_size_of app ≤ (port_state app s).size
  fits = omega (arith, largest_image app port.good, port.size)

  pub may_keep : MayKeep app (port_state app s)
  may_keep = record { fits = fits; days = days_may app; vehicles = vehicles_may app }

  pub may_insert : MayInsert app (port_state app s)
  may_insert = record { keep = may_keep; events = events_may app; current = use_may app }

  pub days_fit : (days : StringShape) → days ≡ day_string app → FileFitsIn days (port_state app s)
  days_fit days at = subst (λ (r : StringShape). FileFitsIn r (port_state app s)) (sym at) (omega (arith, days_inside app, fits))
