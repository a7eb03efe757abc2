-- A trace as far as its lines were read.
use Rattle.std.specs.Prelude.{ℕ, List}
use Rattle.trace_text.specs.declared.reading.Reading.{Reading}
use Rattle.trace_text.specs.Coming.{HasCome}
pub use Rattle.trace_text.specs.Coming.{IsFaultOf}

-- these lines were read
abbrev pub HasRead : List (List ℕ) → Reading → Type 0
HasRead lines reading = HasCome lines reading.items reading.coming
