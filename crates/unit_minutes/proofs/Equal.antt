-- What a call says of the medium before it, by an equal medium.
use Rattle.std.proofs.Common.{◌≡◌, Bool, ap, subst}
use Rattle.tach_media.specs.Medium.{State, Reads}

pub reads_of : {A : Type 0} (state : A → State) {a b : A} {new : State} {failed : Bool} → a ≡ b → Reads (state a) new failed → Reads (state b) new failed
reads_of {A} state {a} {b} {new} {failed} same reads = subst (λ (m : A). Reads (state m) new failed) same reads

pub image_of : {A : Type 0} (state : A → State) {a b : A} → a ≡ b → (state a).image ≡ (state b).image
image_of {A} state same = ap (λ (m : A). (state m).image) same
