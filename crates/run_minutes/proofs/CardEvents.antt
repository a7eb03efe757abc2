-- Calls that leave the events of a card as they are: none, one after another, and a keep.
use Rattle.std.proofs.Common.{◌≡◌, ◌∙◌, ⊎_elim, ℕ, List, Some, IfSome, Contains, refl, subst}
use Rattle.activity_codec.specs.declared.entries.Entry.{Entry}
use Rattle.activity_codec.specs.declared.entries.Manual.{Manual}
use Rattle.tach_media.specs.Medium.{State, IsCoherent, LeavesOnly}
use Rattle.tach_media.proofs.Runs.{at_image}
use Rattle.tach_media.specs.card_layout.declared.files.Application.{Application}
use Rattle.hand_model.specs.card_image.Fields.{file_bytes}
use Rattle.hand_model.specs.card_image.Own.{own_sizes}
use Rattle.card_session.specs.Sessions.{Session, IsSession}
use Rattle.device_calls.specs.card_by_hand.First.{IsFirstKeeping}
use Rattle.run_devices.specs.run_promise.Found.{CardFound}
use Rattle.run_devices.proofs.Measured.{measures-self, measures-then, measures-more}
use Rattle.run_minutes.specs.CardEvents.{LeavesEvents}
use Rattle.run_devices.specs.Measured.{Reading}
use Rattle.run_minutes.specs.Books.{StaysOn}
use Rattle.run_minutes.proofs.FirstSame.{HasSameFiles, first-files}

pub events-none : (app : Application) (X : State) → LeavesEvents app X X
events-none app X c left = (c, left, refl, refl, refl)

pub events-then : (app : Application) (X Y Z : State) → LeavesEvents app X Y → LeavesEvents app Y Z → LeavesEvents app X Z
events-then app X Y Z first next c left =
    let behind = next c left in
    let was = first behind.0 behind.1 in
    (was.0, was.1, behind.2 ∙ was.2, behind.3 ∙ was.3, behind.4 ∙ was.4)

-- a run of calls whose moments have the events, the use and the places of the image before
pub events-run : (app : Application) (X Y : State) → IsCoherent X → (R : List ℕ → List ℕ → Type 0) → LeavesOnly X Y R → ((x c : List ℕ) → X.image ≡ Some x → R x c → (file_bytes app 0x0502 c ≡ file_bytes app 0x0502 x) × (file_bytes app 0x0507 c ≡ file_bytes app 0x0507 x) × (file_bytes app 0x0506 c ≡ file_bytes app 0x0506 x)) → LeavesEvents app X Y
events-run app X Y whole R run step c left = ⊎_elim (λ was. (c, was, refl, refl, refl)) (λ one. let all = step one.0 c one.1 one.2 in (one.0, whole.is_left one.0 one.1, all.0, all.1, all.2)) (run.now c left)

pub events-keeping : (app : Application) (X Y : State) → IsCoherent X → (s : Session) (hands : List Manual) (e : Entry) (odometer : ℕ) → s.application ≡ app → IfSome X.image (IsSession s) → LeavesOnly X Y (λ x y. IsSession s x → IsFirstKeeping s hands e odometer x y) → LeavesEvents app X Y
events-keeping app X Y whole s hands e odometer sizes session run =
    events-run app X Y whole (λ x y. IsSession s x → IsFirstKeeping s hands e odometer x y) run (λ x c is moment.
    subst (λ (a : Application). HasSameFiles a x c) sizes (first-files s hands e odometer x c (moment (at_image (IsSession s) is session))))

-- of a card as it was found
pub stays-self : (f : CardFound) (values : List Reading) (X : State) → StaysOn f values X X
stays-self f values X = ((λ timed. timed), events-none (own_sizes f.image) X, measures-self (own_sizes f.image) values X)

pub stays-then : (f : CardFound) (values : List Reading) (X Y Z : State) → StaysOn f values X Y → StaysOn f values Y Z → StaysOn f values X Z
stays-then f values X Y Z first next = ((λ timed. next.0 (first.0 timed)), events-then (own_sizes f.image) X Y Z first.1 next.1, measures-then (own_sizes f.image) values X Y Z first.2 next.2)

-- with more values
pub stays-more : (f : CardFound) (values now : List Reading) → ((r : Reading) → Contains values r → Contains now r) → (X Y : State) → StaysOn f values X Y → StaysOn f now X Y
stays-more f values now more X Y is = (is.0, is.1, measures-more (own_sizes f.image) values now more X Y is.2)
