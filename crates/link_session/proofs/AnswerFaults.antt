-- A fault that `?` made, or passed on.
use Rattle.std.proofs.Common.{◌≡◌, ℕ, Bool, true, false, Result, Ok, Err, sym, subst}
use Rattle.std.specs.Prelude.{IfErr, IsErrAnd}
use Rattle.tach_media.specs.Medium.{State}
use Rattle.unit_minutes.specs.Reading.{ReadsIfAny}
use Rattle.link_session.specs.Told.{IfBadUnit, has_failed}
use Rattle.link_session.specs.declared.asking.AnswerFault.{AnswerFault}
use Rattle.link_session.specs.declared.asking.AnswerFault.TheVariants.{Failed, BadUnit}

-- of a failure
pub failed_bad : {T : Type 0} (r : Result T AnswerFault) (P : ℕ → Type 0) → IsErrAnd r (λ v. v ≡ Failed) → IfErr r (λ fault. IfBadUnit fault P)
failed_bad (Ok v) P is = absurd is
failed_bad (Err Failed) P is = tt
failed_bad (Err (BadUnit place)) P is = absurd (cc)

pub failed_reads : {T : Type 0} {old new : State} (r : Result T AnswerFault) → IsErrAnd r (λ v. v ≡ Failed) → ReadsIfAny old new true → ReadsIfAny old new (has_failed r)
failed_reads (Ok v) is reads = absurd is
failed_reads (Err Failed) is reads = reads
failed_reads (Err (BadUnit place)) is reads = absurd (cc)

-- passed on
pub passed : {T E : Type 0} (r : Result T E) (e : E) (Q : E → Type 0) → IsErrAnd r (λ v. v ≡ e) → Q e → IfErr r Q
passed (Ok v) e Q is q = absurd is
passed (Err f) e Q is q = subst Q (sym is) q

pub passed_reads : {T : Type 0} {old new : State} (r : Result T AnswerFault) (e : AnswerFault) → IsErrAnd r (λ v. v ≡ e) → ReadsIfAny old new (has_failed {T = Unit {0}} (Err e)) → ReadsIfAny old new (has_failed r)
passed_reads (Ok v) e is reads = absurd is
passed_reads {T} {old} {new} (Err f) e is reads = subst (λ (fault : AnswerFault). ReadsIfAny old new (has_failed {T = Unit {0}} (Err fault))) (sym is) reads

weaker : (fault : AnswerFault) (judged : Bool) (P : ℕ → Type 0) → judged ≡ false → IfBadUnit fault P → IfBadUnit fault (λ p. (judged ≡ false) × P p)
weaker Failed judged P anew is = tt
weaker (BadUnit place) judged P anew is = (anew, is)

-- of a unit that was not judged before
pub bad_anew : {T : Type 0} (r : Result T AnswerFault) (judged : Bool) (P : ℕ → Type 0) → judged ≡ false → IfErr r (λ fault. IfBadUnit fault P)
    → IfErr r (λ fault. IfBadUnit fault (λ p. (judged ≡ false) × P p))
bad_anew (Ok v) judged P anew bad = tt
bad_anew (Err fault) judged P anew bad = weaker fault judged P anew bad
