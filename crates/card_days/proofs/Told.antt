-- What two runs make of an image that is told, and what a fault of the days tells.
use Rattle.std.proofs.Common.{Result, Ok, Err, ◌≡◌, ℕ, refl}
use Rattle.std.specs.Prelude.{IsErrAnd, true}
pub use Rattle.tach_media.proofs.Runs.{if_told, no_reads, from_told, through, through_both, ok_both, err_is}
use Rattle.card_days.specs.declared.fault.DaysFault.{DaysFault}
use Rattle.card_days.specs.declared.fault.DaysFault.TheVariants as fault
use Rattle.card_days.specs.Loading.{has_failed, IfBadDays}

-- a fault that `?` made of a failure
pub failed_is : {T : Type 0} (r : Result T DaysFault) → IsErrAnd r (λ e. e ≡ fault.Failed) → has_failed r ≡ true
failed_is (Ok v) is = absurd is
failed_is (Err fault.Failed) is = refl
failed_is (Err (fault.BadDays p)) is = cc

pub bad_weaker : (f : DaysFault) (P Q : ℕ → Type 0) → IfBadDays f P → ((p : ℕ) → P p → Q p) → IfBadDays f Q
bad_weaker fault.Failed P Q bad all = tt
bad_weaker (fault.BadDays p) P Q bad all = all p bad
