-- What the program is handed, as far as it tells.
use Rattle.std.specs.Prelude.{ℕ, Option, List}
use Rattle.tach_media.specs.Medium.{State}
use Rattle.card_layout.specs.declared.command.CardState.{CardState}
use Rattle.run_model.specs.declared.Device.{Device}
use Rattle.run_model.specs.declared.Device.TheVariants.{Unit as OfUnit, CardA, CardB}

-- a source: what is left of it, and its count of faults
pub record SourceTold : Type 0 where
  pub left : Option (List ℕ)
  pub faults : ℕ

-- a sink: what it holds, and its count of faults
pub record SinkTold : Type 0 where
  pub held : Option (List ℕ)
  pub faults : ℕ

-- a card: its memory, and the state by which it answers
pub record CardTold : Type 1 where
  pub memory : State
  pub state : CardState

-- the source, the sink, the unit and both cards
pub record Outside : Type 1 where
  pub source : SourceTold
  pub sink : SinkTold
  pub unit : State
  pub card_a : CardTold
  pub card_b : CardTold

-- what five values tell, by what each kind of them tells
abbrev pub outside : {S K U C : Type 0} → (S → Option (List ℕ)) → (S → ℕ) → (K → Option (List ℕ)) → (K → ℕ)
    → (U → State) → (C → State) → (C → CardState) → S → K → U → C → C → Outside
outside left read_faults held write_faults unit_memory card_memory card_state source sink unit card_a card_b = record {
  source = record { left = left source; faults = read_faults source };
  sink = record { held = held sink; faults = write_faults sink };
  unit = unit_memory unit;
  card_a = record { memory = card_memory card_a; state = card_state card_a };
  card_b = record { memory = card_memory card_b; state = card_state card_b };
}

-- what a call is handed: a source, a sink, a unit and both cards
pub record Handed (S K U C : Type 0) : Type 0 where
  pub source : S
  pub sink : K
  pub unit : U
  pub card_a : C
  pub card_b : C

-- these five values, handed to a call
abbrev pub handed : {S K U C : Type 0} → S → K → U → C → C → Handed S K U C
handed source sink unit card_a card_b = record {
  source = source;
  sink = sink;
  unit = unit;
  card_a = card_a;
  card_b = card_b;
}

-- what each kind of them tells
pub record Tells (S K U C : Type 0) : Type 1 where
  pub left : S → Option (List ℕ)
  pub read_faults : S → ℕ
  pub held : K → Option (List ℕ)
  pub write_faults : K → ℕ
  pub unit_memory : U → State
  pub card_memory : C → State
  pub card_state : C → CardState

-- these seven ways to tell, by the kinds of what a call is handed
abbrev pub tells : {S K U C : Type 0} → (S → Option (List ℕ)) → (S → ℕ) → (K → Option (List ℕ)) → (K → ℕ) → (U → State)
    → (C → State) → (C → CardState) → Tells S K U C
tells left read_faults held write_faults unit_memory card_memory card_state = record {
  left = left;
  read_faults = read_faults;
  held = held;
  write_faults = write_faults;
  unit_memory = unit_memory;
  card_memory = card_memory;
  card_state = card_state;
}

-- what all that a call is handed tells
abbrev pub told_by : {S K U C : Type 0} → Tells S K U C → Handed S K U C → Outside
told_by t h = outside t.left t.read_faults t.held t.write_faults t.unit_memory t.card_memory t.card_state h.source
    h.sink h.unit h.card_a h.card_b

-- the memory of a device
abbrev pub memory_of : Device → Outside → State
memory_of OfUnit told = told.unit
memory_of CardA told = told.card_a.memory
memory_of CardB told = told.card_b.memory
