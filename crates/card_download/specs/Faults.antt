-- Which fault of a card file another one is, and which of them say that the card failed.
use Rattle.std.specs.Prelude.{Bool, true, false, Result, Ok, Err}
use Rattle.card_commands.specs.declared.loading.PortFault.{PortFault}
use Rattle.card_commands.specs.declared.loading.PortFault.TheVariants as port
use Rattle.card_download.specs.declared.fault.CopyFault.{CopyFault}
use Rattle.card_download.specs.declared.fault.CopyFault.TheVariants as copy
use Rattle.card_download.specs.declared.fault.CardFileFault.{CardFileFault}
use Rattle.card_download.specs.declared.fault.CardFileFault.TheVariants.{Failed, WriteFault, BadApplication}

-- the fault of a card file for one of the port
abbrev pub of_port : PortFault → CardFileFault
of_port port.Failed = Failed
of_port (port.BadApplication field) = BadApplication field

-- the fault of a card file for one of a copy
abbrev pub of_copy : CopyFault → CardFileFault
of_copy copy.Failed = Failed
of_copy copy.WriteFault = WriteFault

-- the answer is that the card failed
abbrev pub has_failed : {T : Type 0} → Result T CardFileFault → Bool
has_failed (Ok done) = false
has_failed (Err Failed) = true
has_failed (Err WriteFault) = false
has_failed (Err (BadApplication field)) = false

-- the same of a copy
abbrev pub copy_failed : {T : Type 0} → Result T CopyFault → Bool
copy_failed (Ok done) = false
copy_failed (Err copy.Failed) = true
copy_failed (Err copy.WriteFault) = false
