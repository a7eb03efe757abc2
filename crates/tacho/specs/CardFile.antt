-- What the commands `card a` and `card b` do: the card is read by its commands, and its card file is written to the
-- sink.
use Rattle.std.specs.Prelude.{◌≡◌, ◌⊎◌, ℕ, IfSome, Result, Ok, Err}
use Rattle.tach_media.specs.Medium.{Reads, Rose}
use Rattle.run_model.specs.declared.Device.{Device}
use Rattle.card_download.specs.declared.fault.CardFileFault.{CardFileFault}
use Rattle.card_download.specs.declared.fault.CardFileFault.TheVariants as writing
use Rattle.card_download.specs.Written.{Writes}
use Rattle.tacho.specs.declared.end.Fault.{Fault}
use Rattle.tacho.specs.declared.end.Fault.TheVariants.{Done, WriteFault, MediumFault, BadCard}
use Rattle.tacho.specs.End.{is_medium_fault}
use Rattle.tacho.specs.Outside.{SinkTold, CardTold}

-- the end by what the writing of a card file answers; it takes no memory, so none ends by want of it
abbrev pub end_of_card : Device → Result (Unit {0}) CardFileFault → Fault
end_of_card device (Ok done) = Done
end_of_card device (Err writing.Failed) = MediumFault device
end_of_card device (Err writing.WriteFault) = WriteFault
end_of_card device (Err (writing.BadApplication field)) = BadCard field

-- HOW `card a` AND `card b` END.
pub record EndsCard (device : Device) (old new : CardTold) (before after : SinkTold) (fault : Fault) : Type 0 where
  -- It ends as the writing of a card file does.
  pub ended : Result (Unit {0}) CardFileFault
  pub ends : fault ≡ end_of_card device ended
  -- Of a card that tells its image, the sink gained the card file of that image, and nothing else; where the sink or
  -- the card failed a front of it; and where a field of Application_Identification is out of its range, nothing: the
  -- first such field is named.
  pub writes : IfSome old.memory.image (λ x. Writes ended x before.held after.held)
  -- The card is read, and never written.
  pub card : Reads old.memory new.memory (is_medium_fault fault)
  -- Where neither failed, all is done, or a field is named.
  pub finishes : (Rose old.memory.faults new.memory.faults → ⊥) → (Rose before.faults after.faults → ⊥)
      → (fault ≡ Done) ⊎ ((field : ℕ) × (fault ≡ BadCard field))
