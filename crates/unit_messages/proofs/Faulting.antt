-- What is said of an answer whose faults are known.
use Rattle.std.proofs.Common.{◌≡◌, ℕ, Option, Some, None, true, Result, Ok, Err, sym, subst}
use Rattle.std.specs.Prelude.{OnOk, IfOk, IfErr, IfNone, is_some}
use Rattle.unit_messages.specs.declared.sending.PieceFault.{PieceFault}
use Rattle.unit_messages.specs.declared.sending.PieceFault.TheVariants.{Failed}
use Rattle.unit_messages.specs.declared.sending.MessageFault.{MessageFault}
use Rattle.unit_messages.specs.declared.sending.MessageFault.TheVariants.{Failed as MessageFailed, Memory as MessageMemory, BadUnit as MessageBad}
use Rattle.unit_messages.specs.Faults.{IfBadPiece, IfBadMessage}

-- what holds at all, after Ok; and a fault that is not of a field
pub ok_always : {T E P : Type 0} (r : Result T E) → P → OnOk r P
ok_always (Ok x) p = p
ok_always (Err e) p = tt

pub never_bad : {T : Type 0} (r : Result T PieceFault) (P : ℕ → Type 0) → IfErr r (λ fault. fault ≡ Failed) → IfErr r (λ fault. IfBadPiece fault P)
never_bad (Ok x) P failed = tt
never_bad (Err fault) P failed = subst (λ (f : PieceFault). IfBadPiece f P) (sym failed) tt

pub never_bad_message : {T : Type 0} (r : Result T MessageFault) (P : ℕ → Type 0) → IfErr r (λ fault. IfBadMessage fault (λ p. ⊥)) → IfErr r (λ fault. IfBadMessage fault P)
never_bad_message (Ok x) P never = tt
never_bad_message (Err MessageFailed) P never = tt
never_bad_message (Err MessageMemory) P never = tt
never_bad_message (Err (MessageBad p)) P never = absurd never

-- where there always is one, nothing is said of none
pub never_none : {T E : Type 0} (P : Type 0) (r : Result (Option T) E) → IfOk r (λ found. is_some found ≡ true) → IfOk r (λ found. IfNone found P)
never_none P (Ok (Some x)) some = tt
never_none P (Ok None) some = absurd (cc)
never_none P (Err e) some = tt
