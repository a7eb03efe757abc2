-- A fault that was passed on.
use Rattle.std.proofs.Common.{◌≡◌, ℕ, ◌≤◌, List, Option, Some, IfSome, Result, Ok, Err, sym, subst, arith}
use Rattle.std.specs.Prelude.{OnOk, IfErr, IsErrAnd}
use Rattle.tach_media.specs.Medium.{State, Rose}
pub use Rattle.tach_media.proofs.Runs.{err_is}
use Rattle.unit_memory.proofs.Told.{carried}
use Rattle.unit_model.specs.Decoding.{first_bad_place}
use Rattle.unit_minutes.specs.Reading.{ReadsIfAny}
use Rattle.link_session.specs.Served.{IsCaused, has_failed}
use Rattle.link_session.specs.declared.fault.ServeFault.{ServeFault}
use Rattle.link_session.specs.declared.fault.ServeFault.TheVariants.{ReadFault, WriteFault, Failed, BadUnit, TooLong}

pub passed : {T E : Type 0} (r : Result T E) (e : E) (Q : E → Type 0) → IsErrAnd r (λ v. v ≡ e) → Q e → IfErr r Q
passed (Ok x) e Q is q = absurd is
passed (Err v) e Q is q = subst Q (sym is) q

-- what it says of the unit
pub passed_reads : {T : Type 0} {old new : State} (r : Result T ServeFault) (e : ServeFault) → IsErrAnd r (λ v. v ≡ e) → ReadsIfAny old new (has_failed {T = Unit {0}} (Err e)) → ReadsIfAny old new (has_failed r)
passed_reads (Ok x) e is reads = absurd is
passed_reads {T} {old} {new} (Err v) e is reads = subst (λ (f : ServeFault). ReadsIfAny old new (has_failed {T = Unit {0}} (Err f))) (sym is) reads

-- its cause, of calls behind others
caused_on : {R S : Type 0} (fault : ServeFault) (a b n : ℕ) (o p : Option (List ℕ)) → (R → S) → a ≤ b → p ≡ o → IsCaused fault R (Rose b n) (λ q. IfSome p (λ x. first_bad_place x ≡ Some q))
    → IsCaused fault S (Rose a n) (λ q. IfSome o (λ x. first_bad_place x ≡ Some q))
caused_on ReadFault a b n o p read le same is = read is
caused_on WriteFault a b n o p read le same is = omega (arith, le, is)
caused_on Failed a b n o p read le same is = tt
caused_on (BadUnit place) a b n o p read le same is = carried (λ x. first_bad_place x ≡ Some place) same is
caused_on TooLong a b n o p read le same is = tt

pub caused_passed : {T : Type 0} (r : Result T ServeFault) (e : ServeFault) (R S : Type 0) (a b n : ℕ) (o p : Option (List ℕ)) → IsErrAnd r (λ v. v ≡ e) → (R → S) → a ≤ b → p ≡ o
    → IsCaused e R (Rose b n) (λ q. IfSome p (λ x. first_bad_place x ≡ Some q)) → IfErr r (λ fault. IsCaused fault S (Rose a n) (λ q. IfSome o (λ x. first_bad_place x ≡ Some q)))
caused_passed r e R S a b n o p is read le same caused =
    passed r e (λ fault. IsCaused fault S (Rose a n) (λ q. IfSome o (λ x. first_bad_place x ≡ Some q))) is (caused_on {R = R} {S = S} e a b n o p read le same caused)

pub on_ok : {A E P : Type 0} (r : Result A E) → P → OnOk r P
on_ok (Ok a) p = p
on_ok (Err e) p = tt
