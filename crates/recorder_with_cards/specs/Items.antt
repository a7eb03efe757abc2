-- The items of a trace from one to another (profile).
use Rattle.std.specs.Prelude.{ℕ, ◌-◌, List, take, drop, count_by}
use Rattle.trace_model.specs.declared.Item.{Item}
use Rattle.run_outcome.specs.Room.{is_insertion}

-- the items from one index to another
abbrev pub between : (from to : ℕ) → List Item → List Item
between from to items = take (to - from) (drop from items)

-- how many of them put a card into a slot
abbrev pub insertions_in : (from to : ℕ) → List Item → ℕ
insertions_in from to items = count_by is_insertion (between from to items)
