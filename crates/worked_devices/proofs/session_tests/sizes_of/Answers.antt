use Rattle.std.proofs.Common.{◌≡◌, ℕ, List, None, sym, subst}
use Rattle.card_layout.specs.Application.{first_bad_field}
use Rattle.card_layout.specs.Files.{files_of}
use Rattle.tach_media.specs.Log.{History, image_of}
use Rattle.tach_media.specs.Medium.{bytes_at}
use Rattle.worked_devices.proofs.session_tests.sizes_of.Goals as goal

pub returns-in-Ok-clause-told : goal.returns-in-Ok-clause-told
unfolding files_of
returns-in-Ok-clause-told c =
    subst (λ (h : History). first_bad_field (bytes_at (image_of h) 33 10) ≡ None) (sym c.in_ok-read_at.ensures.log)
    (subst (λ (l : List ℕ). first_bad_field l ≡ None) c.in_ok-read_at.ensures.bytes c.in-Ok.ensures.value.0)
