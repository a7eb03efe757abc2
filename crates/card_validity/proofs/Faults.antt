-- An answer that `?` made of a failure.
use Rattle.std.proofs.Common.{◌≡◌, ℕ, true, Result, Ok, Err, IfOk, refl, sym, subst}
use Rattle.std.specs.Prelude.{IfErr, IsErrAnd}
use Rattle.card_layout.specs.declared.files.Fid.{Fid}
use Rattle.card_validity.specs.declared.fault.InsertFault.{InsertFault}
use Rattle.card_validity.specs.declared.fault.InsertFault.TheVariants.{Failed, NotValid, TimeOverlap}
use Rattle.card_validity.specs.Faults.{IfNotValid, IfTimeOverlap, has_failed}

pub failed_ok : {T : Type 0} (r : Result T InsertFault) (P : T → Type 0) → IsErrAnd r (λ e. e ≡ Failed) → IfOk r P
failed_ok (Ok v) P is = absurd is
failed_ok (Err e) P is = tt

pub failed_valid : {T : Type 0} (r : Result T InsertFault) (P : Fid → ℕ → Type 0) → IsErrAnd r (λ e. e ≡ Failed) → IfErr r (λ fault. IfNotValid fault P)
failed_valid (Ok v) P is = absurd is
failed_valid (Err Failed) P is = tt
failed_valid (Err (NotValid fid place)) P is = absurd cc
failed_valid (Err (TimeOverlap stored now)) P is = tt

pub failed_in_time : {T : Type 0} (r : Result T InsertFault) (P : ℕ → ℕ → Type 0) → IsErrAnd r (λ e. e ≡ Failed) → IfErr r (λ fault. IfTimeOverlap fault P)
failed_in_time (Ok v) P is = absurd is
failed_in_time (Err Failed) P is = tt
failed_in_time (Err (NotValid fid place)) P is = tt
failed_in_time (Err (TimeOverlap stored now)) P is = absurd cc

pub failed_is : {T : Type 0} (r : Result T InsertFault) → IsErrAnd r (λ e. e ≡ Failed) → has_failed r ≡ true
failed_is (Ok v) is = absurd is
failed_is (Err Failed) is = refl
failed_is (Err (NotValid fid place)) is = absurd cc
failed_is (Err (TimeOverlap stored now)) is = absurd cc

-- an error that it passed on
pub passed : {T E : Type 0} (r : Result T E) (e : E) (Q : E → Type 0) → IsErrAnd r (λ v. v ≡ e) → Q e → IfErr r Q
passed (Ok v) e Q is q = absurd is
passed (Err f) e Q is q = subst Q (sym is) q

pub passed_ok : {T E : Type 0} (r : Result T E) (e : E) (P : T → Type 0) → IsErrAnd r (λ v. v ≡ e) → IfOk r P
passed_ok (Ok v) e P is = absurd is
passed_ok (Err f) e P is = tt
