-- What the calls of a noisy download leave, one behind the other.
use Rattle.std.proofs.Common.{◌≡◌, ℕ, ◌≤◌, Bool, true, false, List, [], ◌∷◌, ◌++◌, Option, Some, None, IfSome, Result, Err, refl, sym, subst}
use Rattle.std.specs.Prelude.{IsErrAnd}
use Rattle.tach_media.specs.Medium.{State}
use Rattle.link_session.specs.Told.{SessionView, Knows}
use Rattle.link_loader.specs.Loading.{Load}
use Rattle.unit_download.specs.declared.wire.Passed.{Passed}
use Rattle.unit_download.specs.declared.fault.DownloadFault.{DownloadFault}
use Rattle.unit_download.specs.declared.fault.DownloadFault.TheVariants.{Memory}
use Rattle.unit_download.specs.Wires.{of_loader, of_unit}
use Rattle.noisy_model.specs.declared.event.Event.{Event}
use Rattle.noisy_model.specs.Worlds.{World}
use Rattle.noisy_link.specs.Sides.{is_over}
use Rattle.noisy_link.specs.Steps.{IsStep}
use Rattle.noisy_download.specs.Listing.{RequestIsListed, AnswerIsListed, IsListed, IsUnderway, DownloadGoesOn}
use Rattle.noisy_download.proofs.Underway.{memory_ended}
use Rattle.noisy_download.proofs.Going.{goes}
use Rattle.noisy_download.proofs.Rounds.{underway_at, goes_at, goes_passed}
use Rattle.unit_download.specs.Ending.{IsDownloaded}

-- the request is on the wire, or there is none, or it was added
pub request_there : (b : Bool) (o : Option (List ℕ)) (wire : List Passed) → b ≡ true → RequestIsListed b o wire b wire
request_there true o wire is = (refl, refl)
request_there false o wire is = absurd (cc)

pub request_none : (b : Bool) (o : Option (List ℕ)) (wire : List Passed) → b ≡ false → o ≡ None → RequestIsListed b o wire b wire
request_none true o wire is none = absurd (cc)
request_none false None wire is none = (refl, refl)
request_none false (Some x) wire is none = absurd (cc)

pub request_added : (b : Bool) (o : Option (List ℕ)) (frame : List ℕ) (wire grown : List Passed) → b ≡ false → o ≡ Some frame → grown ≡ wire ++ of_loader frame ∷ [] → RequestIsListed b o wire true grown
request_added b o frame wire grown is some more =
    subst (λ (x : Bool). RequestIsListed x o wire true grown) (sym is) (subst (λ (y : Option (List ℕ)). RequestIsListed false y wire true grown) (sym some) (refl, more))

-- an answer was brought, or none
pub answer_none : (o : Option (List ℕ)) (b : Bool) (wire : List Passed) → o ≡ None → AnswerIsListed o b wire b wire
answer_none o b wire none = subst (λ (y : Option (List ℕ)). AnswerIsListed y b wire b wire) (sym none) (refl, refl)

pub answer_added : (o : Option (List ℕ)) (b : Bool) (frame : List ℕ) (wire grown : List Passed) → o ≡ Some frame → grown ≡ wire ++ of_unit frame ∷ [] → AnswerIsListed o b wire false grown
answer_added o b frame wire grown some more = subst (λ (y : Option (List ℕ)). AnswerIsListed y b wire false grown) (sym some) (refl, more)

-- a number was drawn
pub drawn_underway : (image held : Option (List ℕ)) (w v : World SessionView Load) (listed now : Bool) (wire : List Passed) (sunk : Option (List ℕ)) → v ≡ w → now ≡ listed → IsUnderway image held w listed wire sunk → IsUnderway image held v now wire sunk
drawn_underway image held w v listed now wire sunk world same u =
    subst (λ (x : World SessionView Load). IsUnderway image held x now wire sunk) (sym world) (subst (λ (b : Bool). IsUnderway image held w b wire sunk) (sym same) u)

pub knows_at : (image : Option (List ℕ)) (w v : World SessionView Load) → v ≡ w → IfSome image (Knows w.unit.side) → IfSome image (Knows v.unit.side)
knows_at image w v world knows = subst (λ (x : World SessionView Load). IfSome image (Knows x.unit.side)) (sym world) knows

-- an event happened, of a world that was not touched before
pub happened : (s : State) (held : Option (List ℕ)) (w mid v : World SessionView Load) (listed now : Bool) (wire grown : List Passed) (sunk filled : Option (List ℕ)) (event : Event) (r : Result (Unit {0}) DownloadFault) → mid ≡ w → is_over w.loader.side ≡ false
    → IsListed w listed event wire now grown → IsStep r s.image mid event v sunk filled → IfSome s.image (Knows v.unit.side) → mid.loader.side.room ≤ v.loader.side.room → IsUnderway s.image held w listed wire sunk → DownloadGoesOn r s.image held v now grown filled
happened s held w mid v listed now wire grown sunk filled event r same over lists step knows room u =
    goes s held w listed wire sunk u event over v now grown filled lists r (subst (λ (x : World SessionView Load). IsStep r s.image x event v sunk filled) same step) knows
    (subst (λ (x : World SessionView Load). x.loader.side.room ≤ v.loader.side.room) same room)

-- memory ran out as a frame was to be listed
pub unlisted : (s : State) (held : Option (List ℕ)) (w v : World SessionView Load) (listed now : Bool) (wire grown : List Passed) (sunk : Option (List ℕ)) (r : Result (Unit {0}) DownloadFault) (fault : DownloadFault) → is_over w.loader.side ≡ false → IsErrAnd r (λ f. f ≡ fault)
    → (fault ≡ Memory) × (grown ≡ wire) → IsUnderway s.image held w listed wire sunk → DownloadGoesOn r s.image held v now grown sunk
unlisted s held w v listed now wire grown sunk r fault over is memory u =
    goes_passed held v now grown sunk r fault s.image is
    (subst (λ (f : DownloadFault). IsDownloaded (Err f) s.image grown held sunk) (sym memory.0)
    (subst (λ (l : List Passed). IsDownloaded (Err Memory) s.image l held sunk) (sym memory.1) (memory_ended s held w listed wire sunk u over)))

-- another call behind one that ended well
pub goes_then : (i j held : Option (List ℕ)) (v x : World SessionView Load) (now then_now : Bool) (grown more : List Passed) (filled full : Option (List ℕ)) (r : Result (Unit {0}) DownloadFault) → j ≡ i → IsUnderway i held v now grown filled
    → (IsUnderway j held v now grown filled → DownloadGoesOn r j held x then_now more full) → DownloadGoesOn r i held x then_now more full
goes_then i j held v x now then_now grown more filled full r same first next = goes_at held x then_now more full r i j same (next (underway_at held v now grown filled i j same first))
