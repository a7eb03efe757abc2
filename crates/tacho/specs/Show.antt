-- What the command `show` leaves in the sink, which it writes piece by piece.
use Rattle.std.specs.Prelude.{ℕ, Option, Result, Ok, Err, List}
use Rattle.std.specs.Io.KnownBytes.{Appends}
use Rattle.tach_media.specs.Streams.{AppendsFront}
use Rattle.tacho.specs.declared.end.Fault.{Fault}
use Rattle.tacho.specs.declared.end.Fault.TheVariants.{WriteFault, Memory}

-- the sink failed, or memory ran out
abbrev pub IsCutOff : Fault → Type 0
IsCutOff WriteFault = Unit {0}
IsCutOff Memory = Unit {0}
IsCutOff _ = ⊥

-- all of the text went to the sink, or a front of it
abbrev pub PutsPieces : (text : List ℕ) → Result (Unit {0}) Fault → (held sunk : Option (List ℕ)) → Type 0
PutsPieces text (Ok done) held sunk = Appends held sunk text
PutsPieces text (Err fault) held sunk = AppendsFront held sunk text × IsCutOff fault
