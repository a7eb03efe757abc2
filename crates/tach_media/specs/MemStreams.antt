-- What is seen of a source and of a sink in memory.
use Rattle.std.specs.Prelude.{ℕ, List}

-- the bytes that are left; the numbers of the calls that fail; how many calls there were, and how many failed
pub record SourceView : Type 0 where
  pub left : List ℕ
  pub fails : List ℕ
  pub calls : ℕ
  pub faults : ℕ

-- the bytes that are held, and for how many there is room in all
pub record SinkView : Type 0 where
  pub held : List ℕ
  pub room : ℕ
  pub fails : List ℕ
  pub calls : ℕ
  pub faults : ℕ
