-- What a stop may leave after a `trim`, which writes where there is a day.
use Rattle.std.proofs.Common.{◌≡◌, ◌≢◌, ⊎_elim, ℕ, ◌<◌, Bool, true, false, List, [], Some, IfSome, refl, ◌∙◌, subst}
use Rattle.tach_media.specs.Medium.{State, Reads, IsSettled, last_count}
use Rattle.tach_media.proofs.Runs.{at_image, reads_then, still_settled}
use Rattle.card_model.specs.Days.{Day}
use Rattle.card_model.specs.Image.{StringShape, HoldsDays}
use Rattle.card_days.specs.Steps.{SettlesIfSettled}
use Rattle.card_days.specs.Trim.{WritesOrReads, WritesWhereDays, newest_later}

-- reads leave settled what was
pub settled_reads : {old new : State} → Reads old new false → (old.clock < last_count → IsSettled old) → new.clock < last_count → IsSettled new
settled_reads reads was low = still_settled reads (was (subst (λ (k : ℕ). k < last_count) reads.clock low))

-- a call that writes or reads, and then one that writes where there is a day
pub still_after : {old mid new : State} (r : StringShape) → WritesOrReads old mid → WritesWhereDays r mid new → SettlesIfSettled old new
still_after r first next was = ⊎_elim (λ wrote. wrote) (λ reads. settled_reads reads.0 (⊎_elim (λ wrote. wrote) (λ before. settled_reads before was) first)) next

pub settled_after : {old mid new : State} (r : StringShape) → WritesOrReads old mid → WritesWhereDays r mid new
    → (x : List ℕ) → old.image ≡ Some x → (days : List Day) → HoldsDays r x days → days ≢ [] → new.clock < last_count → IsSettled new
settled_after r first next x is days h some = ⊎_elim (λ wrote. wrote)
    (λ reads. ⊎_elim (λ wrote. settled_reads reads.0 wrote)
    (λ before. absurd (some (at_image (λ x. (days : List Day) → HoldsDays r x days → days ≡ []) (before.same refl ∙ is) reads.1 days h))) first) next

-- two calls that only read where there is no day
pub reads_after : {old mid new : State} {failed : Bool} (r : StringShape) (x : List ℕ) → old.image ≡ Some x → HoldsDays r x [] → Reads old mid false
    → IfSome mid.image (λ y. HoldsDays r y [] → Reads mid new failed) → Reads old new failed
reads_after {old} {mid} {new} {failed} r x is h first next = reads_then first (at_image (λ y. HoldsDays r y [] → Reads mid new failed) (first.same refl ∙ is) next h)

-- no day is later where there is none
pub none_later : {old now : State} (r : StringShape) (date : ℕ) (later : Bool) → later ≡ true → (x : List ℕ) → old.image ≡ Some x → HoldsDays r x [] → Reads old now false
    → IfSome now.image (λ y. (days : List Day) → HoldsDays r y days → later ≡ newest_later date days) → ⊥
none_later r date later test x is h reads told =
    let none : later ≡ false = at_image (λ y. (days : List Day) → HoldsDays r y days → later ≡ newest_later date days) (reads.same refl ∙ is) told [] h in
    absurd cc
