-- The trace of a demonstration (profile): the numbers that are drawn, and the lines that they make.
use Rattle.std.specs.Prelude.{ℕ, zero, suc, ◌+◌, ◌-◌, ◌*◌, ◌/◌, ◌%◌, ◌^◌, List, [], ◌∷◌, ◌++◌, map}
use Rattle.std.specs.List.{flat_map, range_with_len}
use Rattle.activity_codec.specs.declared.values.Slot.TheVariants.{Driver}
use Rattle.activity_codec.specs.declared.values.Pick.{Pick}
use Rattle.activity_codec.specs.declared.values.Pick.TheVariants.{Rest, Available, Work}
use Rattle.trace_model.specs.declared.Card.TheVariants.{A}
use Rattle.trace_model.specs.declared.Action.TheVariants.{Select, Insert}
use Rattle.trace_model.specs.declared.Item.{Item}
use Rattle.trace_model.specs.declared.Item.TheVariants.{Run, Act}
use Rattle.trace_model.specs.Trace.{total_seconds}
use Rattle.activity_codec.specs.declared.day.TheConstants.{DAY_SECONDS}
use Rattle.trace_text.specs.declared.drawn_trace.TheConstants.{PARTS, DAYS}

-- the number that is drawn behind another
abbrev pub next_drawn : ℕ → ℕ
next_drawn x = (x * 1103515245 + 12345) % 2 ^ 31

-- the n-th number that is drawn behind x
unfoldable pub drawn : (n x : ℕ) → ℕ
drawn zero x = x
drawn (suc n) x = drawn n (next_drawn x)

-- of n groups of so many numbers that are drawn behind x, the number before each
abbrev pub starts : (size n x : ℕ) → List ℕ
starts size n x = map (λ k. drawn (size * k) x) (range_with_len 0 n)

-- rest, available or work, by the numbers 0, 1 and any other
abbrev pub pick_numbered : ℕ → Pick
pick_numbered zero = Rest
pick_numbered (suc zero) = Available
pick_numbered (suc (suc n)) = Work

-- a stop of up to an hour, a drive of up to an hour and a half at 1 to 90 km/h, and a selection, by three numbers
abbrev pub part : (stop drive pick : ℕ) → List Item
part stop drive pick =
    Run (stop / 65536 % 3600 + 1) 0
    ∷ Run (drive / 65536 % 5400 + 1) (drive / 256 % 90 + 1)
    ∷ Act (Select Driver (pick_numbered (pick / 65536 % 3)))
    ∷ []

-- the part that is drawn behind x
abbrev pub part_of : ℕ → List Item
part_of x = part (drawn 1 x) (drawn 2 x) (drawn 3 x)

-- n of them, each drawn behind the one before
unfoldable pub parts_of : (n x : ℕ) → List Item
parts_of n x = flat_map part_of (starts 3 n x)

-- a day that is drawn behind x: its parts, then standing to its end
unfoldable pub day_of : ℕ → List Item
day_of x = parts_of PARTS x ++ Run (DAY_SECONDS - total_seconds (parts_of PARTS x)) 0 ∷ []

-- n of them, each drawn behind the one before
unfoldable pub days_of : (n x : ℕ) → List Item
days_of n x = flat_map day_of (starts (3 * PARTS) n x)

-- THE TRACE: card a is put into the driver slot, and the days
abbrev pub demo_items : ℕ → List Item
demo_items x = Act (Insert Driver A) ∷ days_of DAYS x
