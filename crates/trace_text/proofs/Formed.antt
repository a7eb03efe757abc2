-- The trace of a demonstration is well formed.
use Rattle.std.proofs.Common.{ℕ, ◌+◌, ◌-◌, ◌*◌, ◌/◌, ◌%◌, ◌<◌, List, [], ◌∷◌, ◌++◌, length, sym, subst, append_assoc, lit≤, arith}
use Rattle.std.specs.List.{flat_map, AllByRecursion}
use Rattle.trace_model.specs.declared.Item.{Item}
use Rattle.trace_model.specs.declared.Item.TheVariants.{Run}
use Rattle.trace_model.specs.Trace.{total_seconds}
use Rattle.trace_text.specs.Line.{InRange}
use Rattle.trace_text.specs.Trace.{RunComes, HasRuns, IsWellFormed}
use Rattle.trace_text.specs.Demo.{drawn, starts, part_of, parts_of, day_of, days_of, demo_items}
use Rattle.activity_codec.specs.declared.day.TheConstants.{DAY_SECONDS}
use Rattle.trace_text.specs.declared.drawn_trace.TheConstants.{PARTS, DAYS, FIRST_SECOND}
use Rattle.trace_text.proofs.Groups.{parts-few, demo-whole, length-starts}

-- items that may stand behind an action
abbrev Goes : List Item → Type 0
Goes items = RunComes items × HasRuns items × AllByRecursion InRange items

all_go : (xs : List ℕ) (rest : List Item) → Goes rest → Goes (flat_map part_of xs ++ rest)
all_go [] rest goes = goes
all_go (x ∷ xs) rest goes =
    let more = all_go xs rest goes in
    let a = drawn 1 x in let b = drawn 2 x in
    let stop : InRange (Run (a / 65536 % 3600 + 1) 0) = (omega arith, omega arith, omega arith) in
    let drive : InRange (Run (b / 65536 % 5400 + 1) (b / 256 % 90 + 1)) = (omega arith, omega arith, omega arith) in
    subst Goes (sym (append_assoc (part_of x) (flat_map part_of xs) rest)) (tt, (more.0, more.1), (stop, (drive, (tt, more.2))))

parts_go : (n x : ℕ) (rest : List Item) → Goes rest → Goes (parts_of n x ++ rest)
unfolding parts_of
parts_go n x rest goes = all_go (starts 3 n x) rest goes

-- a day, with what follows it
day_goes : (x : ℕ) (rest : List Item) → HasRuns rest → AllByRecursion InRange rest → Goes (day_of x ++ rest)
unfolding day_of
day_goes x rest runs each =
    let last = Run (DAY_SECONDS - total_seconds (parts_of PARTS x)) 0 in
    let few = parts-few PARTS x in
    let here : InRange last = (omega (arith, few), omega (arith, few), omega arith) in
    subst Goes (sym (append_assoc (parts_of PARTS x) (last ∷ []) rest)) (parts_go PARTS x (last ∷ rest) (tt, runs, (here, each)))

days_go : (xs : List ℕ) → HasRuns (flat_map day_of xs) × AllByRecursion InRange (flat_map day_of xs)
days_go [] = (tt, tt)
days_go (x ∷ xs) =
    let more = days_go xs in let goes = day_goes x (flat_map day_of xs) more.0 more.1 in
    (goes.1, goes.2)

a_run_comes : (xs : List ℕ) → 0 < length xs → RunComes (flat_map day_of xs)
a_run_comes [] some = absurd (omega arith)
a_run_comes (x ∷ xs) some = let more = days_go xs in (day_goes x (flat_map day_of xs) more.0 more.1).0

all_days_go : (n x : ℕ) → 0 < n → Goes (days_of n x)
unfolding days_of
all_days_go n x some =
    let xs = starts (3 * PARTS) n x in let each = days_go xs in
    (a_run_comes xs (omega (arith, length-starts (3 * PARTS) n x)), each.0, each.1)

pub demo-formed : (x : ℕ) → IsWellFormed FIRST_SECOND (demo_items x)
demo-formed x =
    let days = all_days_go DAYS x (omega arith) in let whole = demo-whole x in
    record {
      first = (lit≤ tt, lit≤ tt);
      within = (omega (arith, whole), omega (arith, whole));
      each = (tt, days.2);
      runs = (days.0, days.1);
    }
