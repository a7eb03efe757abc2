-- Why no message, or no piece of one, is read.
use Rattle.std.specs.Prelude.{ℕ, Bool, true, false, Result, Ok, Err}
use Rattle.unit_memory.specs.declared.fault.UnitFault.{UnitFault}
use Rattle.unit_memory.specs.declared.fault.UnitFault.TheVariants.{Failed as UnitFailed, BadUnit as UnitBad}
use Rattle.unit_messages.specs.declared.sending.PieceFault.{PieceFault}
use Rattle.unit_messages.specs.declared.sending.PieceFault.TheVariants.{Failed, BadUnit}
use Rattle.unit_messages.specs.declared.sending.MessageFault.{MessageFault}
use Rattle.unit_messages.specs.declared.sending.MessageFault.TheVariants.{Failed as MessageFailed}
use Rattle.unit_messages.specs.declared.sending.MessageFault.TheVariants.{Memory as MessageMemory}
use Rattle.unit_messages.specs.declared.sending.MessageFault.TheVariants.{BadUnit as MessageBad}

-- a fault of the unit, as one of a piece
abbrev pub of_unit : UnitFault → PieceFault
of_unit UnitFailed = Failed
of_unit (UnitBad p) = BadUnit p

-- a fault of the unit, as one of a message
abbrev pub message_of_unit : UnitFault → MessageFault
message_of_unit UnitFailed = MessageFailed
message_of_unit (UnitBad p) = MessageBad p

-- a fact of the place of the field that fails
abbrev pub IfBadPiece : PieceFault → (ℕ → Type 0) → Type 0
IfBadPiece Failed P = Unit {0}
IfBadPiece (BadUnit p) P = P p

-- the same of a message
abbrev pub IfBadMessage : MessageFault → (ℕ → Type 0) → Type 0
IfBadMessage MessageFailed P = Unit {0}
IfBadMessage MessageMemory P = Unit {0}
IfBadMessage (MessageBad p) P = P p

-- the answer is that the medium failed
abbrev pub piece_failed : {T : Type 0} → Result T PieceFault → Bool
piece_failed (Ok x) = false
piece_failed (Err Failed) = true
piece_failed (Err (BadUnit p)) = false

-- the same of a message
abbrev pub message_failed : {T : Type 0} → Result T MessageFault → Bool
message_failed (Ok x) = false
message_failed (Err MessageFailed) = true
message_failed (Err MessageMemory) = false
message_failed (Err (MessageBad p)) = false
