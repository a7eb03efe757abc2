-- The sizes of a card's files, where the sizes that it tells are in their ranges.
use Rattle.std.proofs.Common.{◌≡◌, ◌∙◌, sym, subst, ℕ, ◌+◌, ◌*◌, ◌≤◌, Option, Some, IfSome, arith}
use Rattle.card_layout.specs.declared.files.Application.{Application}
use Rattle.card_layout.specs.declared.files.Fid.{Fid}
use Rattle.card_layout.specs.declared.files.Range.{Range}
use Rattle.card_layout.specs.Application.{IsApplication}
use Rattle.card_layout.specs.declared.files.TheConstants.{LARGEST_IMAGE}
use Rattle.card_layout.specs.Files.{files_of, range_of, place_of, image_size_of}

pub largest_image : (app : Application) → IsApplication app → image_size_of app ≤ LARGEST_IMAGE
unfolding files_of
largest_image app good = omega arith

pub smallest_image : (app : Application) → IsApplication app → 11411 ≤ image_size_of app
unfolding files_of
smallest_image app good = omega arith

-- ranges by their parts
ranged : {b c m n : ℕ} → b ≡ c → m ≡ n → (let o : Option Range = Some (record { base = b; len = m }) in o) ≡ Some (record { base = c; len = n })
ranged place size = (λ t. Some (record { base = place t; len = size t }))

-- the place and the size of each file that the unit updates
abbrev At : Application → ℕ → (base len : ℕ) → Type 0
At app fid base len = range_of app (record { 0 = fid }) ≡ Some (record { base = base; len = len })

pub events_at : (app : Application) → At app 0x0502 43 (144 * app.events)
unfolding files_of
events_at app = ranged (omega arith) (omega arith)

pub faults_at : (app : Application) → At app 0x0503 (43 + 144 * app.events) (48 * app.faults)
unfolding files_of
faults_at app = ranged (omega arith) (omega arith)

pub days_at : (app : Application) → At app 0x0504 (43 + 144 * app.events + 48 * app.faults) (4 + app.activity)
unfolding files_of
days_at app = ranged (omega arith) (omega arith)

pub vehicles_at : (app : Application) → At app 0x0505 (place_of app (record { 0 = 0x0505 })) (2 + 31 * app.vehicles)
unfolding files_of
vehicles_at app = ranged (omega arith) (omega arith)

pub places_at : (app : Application) → At app 0x0506 (place_of app (record { 0 = 0x0506 })) (1 + 10 * app.places)
unfolding files_of
places_at app = ranged (omega arith) (omega arith)

pub use_at : (app : Application) → At app 0x0507 (place_of app (record { 0 = 0x0507 })) 19
unfolding files_of
use_at app = ranged (omega arith) (omega arith)

-- what is so of a file's range is so of the one that a search finds
pub of_range : (P : Range → Type 0) (app : Application) (fid : Fid) (r : Range) (o : Option Range) → range_of app fid ≡ Some r → o ≡ range_of app fid → P r → IfSome o P
of_range P app fid r o at is so = subst (λ (p : Option Range). IfSome p P) (sym (is ∙ at)) so
