-- The places of a card behind a port may be written.
use Rattle.std.proofs.Common.{◌≡◌, ℕ, ◌+◌, ◌*◌, refl, subst, arith}
use Rattle.card_layout.specs.declared.files.Application.{Application}
use Rattle.card_layout.specs.Files.{files_of, place_of, size_of}
use Rattle.card_layout.proofs.Sizes.{places_at}
use Rattle.tach_media.specs.Medium.{LiesInside}
use Rattle.card_commands.specs.Ports.{writable_of}
use Rattle.card_commands.proofs.Updated.{updated_writable}
use Rattle.card_validity.specs.card_image.Fields.{file}

pub places_may : (app : Application) → LiesInside (writable_of app) (place_of app (file 0x0506)) (size_of app (file 0x0506))
unfolding files_of
places_may app =
    let wide : 1 + 10 * app.places ≡ size_of app (file 0x0506) = omega arith in
    subst (λ (n : ℕ). LiesInside (writable_of app) (place_of app (file 0x0506)) n) wide (updated_writable app (file 0x0506) _ (places_at app) refl)
