-- What the commands `serve card a` and `serve card b` do: the card answers the commands that come as packets.
use Rattle.std.specs.Prelude.{◌≡◌, Result, Ok, Err}
use Rattle.std.specs.Io.KnownBytes.{IsAtEnd}
use Rattle.run_model.specs.declared.Device.{Device}
use Rattle.card_service.specs.declared.serving.CardFault.{CardFault}
use Rattle.card_service.specs.declared.serving.CardFault.TheVariants as service
use Rattle.card_service.specs.Serving.{IsCardServed}
use Rattle.tacho.specs.declared.end.Fault.{Fault}
use Rattle.tacho.specs.declared.end.Fault.TheVariants.{Done, TooLong, ReadFault, WriteFault, MediumFault, LinkEnded}
use Rattle.tacho.specs.Outside.{Outside, CardTold}

-- the end by what a service of a card answers; it takes no memory, so none ends by want of it
abbrev pub end_of_slot : Device → Result (Unit {0}) CardFault → Fault
end_of_slot device (Ok done) = Done
end_of_slot device (Err service.ReadFault) = ReadFault
end_of_slot device (Err service.WriteFault) = WriteFault
end_of_slot device (Err service.Failed) = MediumFault device
end_of_slot device (Err service.Cut) = LinkEnded
end_of_slot device (Err service.TooLong) = TooLong 0

-- HOW `serve card a` AND `serve card b` END.
pub record EndsServeCard (device : Device) (before after : CardTold) (old new : Outside) (fault : Fault) : Type
    0 where
  -- It ends as a service of a card does.
  pub ended : Result (Unit {0}) CardFault
  pub ends : fault ≡ end_of_slot device ended
  -- The sink gained the answers to the packets that came, each by the tables, from the state that the packets before it
  -- left; the card has done what they say, and a stop leaves no image but those of that run.
  pub served : IsCardServed ended before.memory after.memory before.state after.state old.source.left new.source.left
      old.sink.held new.sink.held
  -- Done: nothing of the source is left.
  pub read : fault ≡ Done → IsAtEnd new.source.left
