use Rattle.std.proofs.Common.{refl}
use Rattle.run_events.proofs.entry_laws.an_entry_tells_its_event.Goals as goal

pub returns : goal.returns
returns c = λ number kind begin end at_begin at_end first last named_first named_last.
    record {
      kind = refl;
      purpose = refl;
      begin = refl;
      end = refl;
      driver_begin = named_first.driver;
      codriver_begin = named_first.codriver;
      driver_end = named_last.driver;
      codriver_end = named_last.codriver;
      average = refl;
    }
