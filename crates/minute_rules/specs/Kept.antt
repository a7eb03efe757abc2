-- What is kept of a span, and how seconds change it.
use Rattle.std.specs.Prelude.{◌≡◌, ℕ, suc, zero, ◌+◌, ◌-◌, ◌/◌, ◌%◌, ◌==◌, max, nat_lt, nat_le, if◌then◌else◌, ◌&&◌}
use Rattle.std.specs.Prelude.{false, Option, Some, None, List, [], ◌∷◌, ◌++◌, length, drop, map, filter, slice_index_or}
use Rattle.activity_codec.specs.Activity.{activity_of, is_rest_or_available}
use Rattle.activity_codec.specs.declared.values.Activity.{Activity}
use Rattle.activity_codec.specs.declared.values.Activity.TheVariants.{Work}
use Rattle.activity_codec.specs.declared.values.Pick.{Pick}
use Rattle.activity_codec.specs.declared.values.Pick.TheVariants as pick
use Rattle.activity_codec.specs.declared.values.Slot.TheVariants.{Driver, CoDriver}
use Rattle.minute_model.specs.Second.{Second}
use Rattle.minute_model.specs.Minute.{minutes_ahead}
use Rattle.minute_model.specs.Span.{Span, count_from, end_of, ungiven_of, AreSettled, AreNumbered}
use Rattle.minute_model.specs.Stops.{waits, all_still, last_still, picks_for, driver_picks, codriver_picks}
use Rattle.minute_model.specs.declared.Minute.{Minute}
use Rattle.minute_model.specs.declared.Rule.{Rule}
use Rattle.minute_rules.specs.declared.counted.Counted.{Counted}
use Rattle.minute_rules.specs.declared.slots.CodriverSlot.{CodriverSlot}
use Rattle.minute_rules.specs.declared.slots.DriverSlot.{DriverSlot}
use Rattle.minute_rules.specs.Tally.{no_run, longest_in}
use Rattle.minute_rules.specs.Counted.{counted_of, no_second, closed, with_codriver, moved, waited, waits_on}
use Rattle.minute_rules.specs.Counted.{past_waited, class_by}

-- The rule, the number of the next second, how many minutes before its minute were not given, the minutes before it,
-- it, and what is selected for each slot.
pub record Kept : Type 0 where
  pub rule : Rule
  pub next : ℕ
  pub owing : ℕ
  pub past : List Counted
  pub here : Counted
  pub driver : DriverSlot
  pub codriver : CodriverSlot

-- the last of these selections, or else this one
abbrev pub last_in : Pick → List Pick → Pick
last_in none [] = none
last_in none (pick ∷ picks) = last_in pick picks

-- the last selection for the next second, where there is one
abbrev pub last_for : List Pick → Option Pick
last_for [] = None
last_for (pick ∷ picks) = Some (last_in pick picks)

-- and the first one
abbrev pub first_for : List Pick → Option Pick
first_for [] = None
first_for (pick ∷ picks) = Some pick

-- how long the driver has waited since the stop, if rest or availability may still be selected for it
abbrev pub waiting_of : List Second → Option ℕ
waiting_of seconds = if waits seconds then Some (length (last_still seconds)) else None

-- what is selected for the driver, by these seconds and the selections for the next one
abbrev pub driver_slot : List Second → List Pick → DriverSlot
driver_slot seconds picks = record {
  current = last_in (if all_still seconds then pick.Rest else pick.Work) (driver_picks (last_still seconds));
  waiting = waiting_of seconds;
  early = first_for (filter is_rest_or_available picks);
  picked = last_for picks;
}

-- and for the co-driver
abbrev pub codriver_slot : List Second → List Pick → CodriverSlot
codriver_slot seconds picks = record {
  current = last_in (if all_still seconds then pick.Rest else pick.Available) (codriver_picks (last_still seconds));
  picked = last_for picks;
}

-- the first of the minutes kept where m is the minute of the next second
abbrev pub oldest : Span → ℕ → ℕ
oldest span m = max (span.first / 60) (m - 5)

-- what is kept of a span so far, where m is the minute of the next second and so many before it were not given
abbrev pub kept_at : ℕ → ℕ → Span → Kept
kept_at m owing span = record {
  rule = span.rule;
  next = end_of span;
  owing = owing;
  past = map (counted_of span.seconds) (count_from (oldest span m) (m - oldest span m));
  here = counted_of span.seconds m;
  driver = driver_slot span.seconds (picks_for Driver span.pending);
  codriver = codriver_slot span.seconds (picks_for CoDriver span.pending);
}

-- so of a span, by its end and by how many minutes were not given
abbrev pub kept_of : Span → Kept
kept_of span = kept_at (end_of span / 60) (end_of span / 60 - ungiven_of span) span

-- These minutes stand for this span so far.
pub record CountsSpan (minutes : Kept) (span : Span) : Type 0 where
  pub kept : minutes ≡ kept_of span
  pub numbered : AreNumbered span.first span.seconds
  pub settled : AreSettled span

-- the open seconds get an activity
abbrev pub kept_closed : Activity → Kept → Kept
kept_closed act kept = record kept { past = map (closed act) kept.past; here = closed act kept.here }

-- the first rest or availability of one more selection
abbrev pub early_with : Option Pick → Pick → Option Pick
early_with (Some first) pick = Some first
early_with None pick = if is_rest_or_available pick then Some pick else None

-- a selection, where there is one
abbrev pub selected : Pick → Option Pick → Pick
selected now None = now
selected now (Some pick) = pick

-- what was selected for the next second holds from now on
abbrev pub driver_heard : DriverSlot → DriverSlot
driver_heard slot = record {
  current = selected slot.current slot.picked;
  waiting = slot.waiting;
  early = None;
  picked = None;
}

-- so it does for the co-driver
abbrev pub codriver_heard : CodriverSlot → CodriverSlot
codriver_heard slot = record { current = selected slot.current slot.picked; picked = None }

-- how long the driver has waited
abbrev pub waiting : Option ℕ → DriverSlot → DriverSlot
waiting count slot = record { current = slot.current; waiting = count; early = slot.early; picked = slot.picked }

-- a rest or availability in time closes the open seconds
abbrev pub ended : Option ℕ → Option Pick → Kept → Kept
ended None early kept = kept
ended (Some count) None kept = kept
ended (Some count) (Some pick) kept = record (kept_closed (activity_of pick) kept) { driver = waiting None kept.driver }

-- what was selected for a second at speed 0
abbrev pub slots_heard : Kept → Kept
slots_heard kept = record kept { driver = driver_heard kept.driver; codriver = codriver_heard kept.codriver }

-- and before it a rest or availability in time closes the open seconds
abbrev pub heard : Kept → Kept
heard kept = slots_heard (ended kept.driver.waiting kept.driver.early kept)

-- so many seconds at speed 0, for which nothing is selected any more
abbrev pub passed : ℕ → Kept → Kept
passed n kept = record kept {
  next = kept.next + n;
  past = past_waited kept.driver.waiting n kept.past;
  here = with_codriver (activity_of kept.codriver.current) n
      (waited kept.driver.waiting (activity_of kept.driver.current) n kept.here);
  driver = waiting (waits_on kept.driver.waiting n) kept.driver;
}

-- so many moving seconds
abbrev pub driven : ℕ → ℕ → Kept → Kept
driven n speed kept = record kept {
  next = kept.next + n;
  past = map (closed Work) kept.past;
  here = moved n speed (closed Work kept.here);
  driver = record { current = pick.Work; waiting = Some 0; early = None; picked = None };
  codriver = record { current = pick.Available; picked = None };
}

-- so many seconds of one minute
abbrev pub run : ℕ → ℕ → Kept → Kept
run n speed kept = if speed == 0 then passed n (heard kept) else driven n speed kept

-- the last n entries, or all where there are fewer
abbrev pub last_of : {T : Type 0} → ℕ → List T → List T
last_of n xs = drop (length xs - n) xs

-- a minute has ended
abbrev pub turned : Kept → Kept
turned kept = record kept {
  past = last_of 5 (kept.past ++ kept.here ∷ []);
  here = record {
    driver = no_run;
    open_seconds = 0;
    drives = false;
    codriver = no_run;
    travelled = kept.here.travelled;
  };
}

-- what is counted of the minute so many before that of the next second
abbrev pub minute_back : Kept → ℕ → Counted
minute_back kept back =
    if back == 0 then kept.here
    else if nat_le back (length kept.past) then slice_index_or kept.past (length kept.past - back) no_second
    else no_second

-- the class of the minute so many before that of the next second, by what is known now
abbrev pub class_kept : Kept → ℕ → Minute
class_kept kept back = record {
  minute = kept.next / 60 - back;
  driver = class_by kept.rule (minute_back kept (back + 1)) (minute_back kept back) (minute_back kept (back - 1));
  codriver = longest_in (minute_back kept back).codriver;
  travelled = (minute_back kept back).travelled;
}

-- so many were not given
abbrev pub with_owing : ℕ → Kept → Kept
with_owing owing kept = record kept { owing = owing }

-- the minute that the last second decides
abbrev pub decided_now : Kept → List Minute
decided_now kept = if kept.next % 60 == 0 && nat_lt (minutes_ahead kept.rule) (kept.owing + 1)
    then class_kept (turned kept) (kept.owing + 1) ∷ [] else []

-- if the last second ended its minute, another one begins
abbrev pub minute_ended : Kept → Kept
minute_ended kept = if kept.next % 60 == 0
    then with_owing (if nat_lt (minutes_ahead kept.rule) (kept.owing + 1) then kept.owing else kept.owing + 1)
    (turned kept) else kept

-- the last of the minutes that have ended, so many
abbrev pub owed_from : Kept → ℕ → List Minute
owed_from kept zero = []
owed_from kept (suc back) = class_kept kept (suc back) ∷ owed_from kept back

-- those that were not given
abbrev pub owed : Kept → List Minute
owed kept = owed_from kept kept.owing
