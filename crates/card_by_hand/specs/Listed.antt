-- Of the entries by hand of a card, what is left of them as the oldest days go.
use Rattle.std.specs.Prelude.{◌≡◌, List, ◌++◌}
use Rattle.activity_codec.specs.declared.entries.Manual.{Manual}

-- of some only those at the old end are missing
pub record AreLeft (old now : List Manual) : Type 0 where
  pub gone : List Manual
  pub is : old ≡ gone ++ now
