-- A span, fed with the items of a trace.
use Rattle.std.specs.Prelude.{List, [], ◌∷◌}
use Rattle.minute_model.specs.Span.{Span, fed_many, picked}
use Rattle.trace_model.specs.declared.Action.TheVariants.{Select, Insert, Withdraw, Tear, Place, Manual}
use Rattle.trace_model.specs.declared.Item.{Item}
use Rattle.trace_model.specs.declared.Item.TheVariants.{Run, Off, Act}

-- one more item: a run or a selection
abbrev pub fed_item : Span → Item → Span
fed_item span (Act (Select slot pick)) = picked span slot pick
fed_item span (Run n speed) = fed_many span speed n
fed_item span (Off n) = span
fed_item span (Act (Insert slot card)) = span
fed_item span (Act (Withdraw slot)) = span
fed_item span (Act (Tear slot)) = span
fed_item span (Act (Place slot ending country region)) = span
fed_item span (Act (Manual slot pick minute)) = span

-- items one after another
abbrev pub fed_items : Span → List Item → Span
fed_items span [] = span
fed_items span (item ∷ items) = fed_items (fed_item span item) items
