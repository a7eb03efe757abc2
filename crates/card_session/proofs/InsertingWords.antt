-- The closing word of an insertion, which is not written where the end mark is the last minute.
use Rattle.std.proofs.Common.{◌≡◌, ℕ, ◌/◌, Bool, false, List, Option, ap, ◌∙◌, arith}
use Rattle.tach_media.specs.Medium.{State}
use Rattle.card_files.specs.declared.vehicle.Vehicle.{Vehicle}
use Rattle.card_days.specs.card_model.Days.{Day}
use Rattle.card_validity.specs.card_image.Fields.{last_use_of}
use Rattle.card_session.specs.declared.words.TheConstants.{LATEST_MINUTE}
use Rattle.card_session.specs.Vehicles.{Vehicles}
use Rattle.card_session.specs.Books.{Book, mark_of}
use Rattle.card_session.specs.Sessions.{Session, IsOpenBook, book_of}
use Rattle.card_session.specs.Parts.{DoesPart, IsPartDone, IsPartMoment}
use Rattle.card_session.specs.Inserting.{MayShut}
use Rattle.card_session.proofs.Composing.{part_as, part_none}

-- the same where the end mark is not the last minute
pub shut_as : {old new : State} {failed : Bool} (s t : Session) (f : Book → Book) (Q : Book → List Day → Vehicles → Type 0)
    → DoesPart old new failed (IsPartDone s t IsOpenBook f) (IsPartMoment s IsOpenBook Q) → DoesPart old new failed (IsPartDone s t MayShut f) (IsPartMoment s MayShut Q)
shut_as s t f Q part = part_as part (λ x y was one knows ready. one knows ready.0) (λ x c was one knows ready. one knows ready.0)

-- where it is nothing is said
pub late_shut : (s t : Session) (mark : ℕ) → mark ≡ last_use_of s.vehicle / 60 → mark ≡ LATEST_MINUTE → (f : Book → Book) (Q : Book → List Day → Vehicles → Type 0) (state : State)
    → DoesPart state state false (IsPartDone s t MayShut f) (IsPartMoment s MayShut Q)
late_shut s t mark is late f Q state = part_none state (λ x was knows ready.
    let at : mark ≡ mark_of (book_of s.application x) = is ∙ ap (λ (o : Option Vehicle). last_use_of o / 60) knows.vehicle in
    absurd (omega (arith, ready.1, late, at)))
