-- Minutes at one speed that go on alike.
use Rattle.std.specs.Prelude.{ℕ, suc, zero, ◌+◌, ◌*◌, List, [], ◌++◌, map}
use Rattle.minute_model.specs.declared.Minute.{Minute}
use Rattle.minute_rules.specs.declared.counted.Counted.{Counted}
use Rattle.minute_rules.specs.declared.minutes.Alike.{Alike}
use Rattle.minute_rules.specs.declared.minutes.Moment.{Moment}
use Rattle.minute_rules.specs.Kept.{Kept}

-- all that is kept but for the minutes before that of the next second
abbrev pub moment_of : Kept → Moment
moment_of kept = record {
  rule = kept.rule;
  next = kept.next;
  owing = kept.owing;
  here = kept.here;
  driver = kept.driver;
  codriver = kept.codriver;
}

-- so much further on
abbrev pub further : ℕ → Counted → Counted
further d counted = record counted { travelled = counted.travelled + d }

-- what is kept, so many minutes later and so much further on
abbrev pub later_by : ℕ → ℕ → Kept → Kept
later_by minutes d kept = record kept {
  next = kept.next + 60 * minutes;
  past = map (further d) kept.past;
  here = further d kept.here;
}

-- what is kept, so many minutes later at this speed
abbrev pub later : ℕ → ℕ → Kept → Kept
later minutes speed kept = later_by minutes (60 * minutes * speed) kept

-- a minute like this one, so many minutes later and so much further on
abbrev pub minute_by : ℕ → ℕ → Minute → Minute
minute_by minutes d m = record {
  minute = m.minute
      + minutes;
  driver = m.driver;
  codriver = m.codriver;
  travelled = m.travelled + d;
}

-- a minute like this one, so many minutes later at this speed
abbrev pub minute_later : ℕ → ℕ → Minute → Minute
minute_later minutes speed m = minute_by minutes (60 * minutes * speed) m

-- these minutes so many times, each time a minute later at this speed
abbrev pub repeated : ℕ → ℕ → List Minute → List Minute
repeated speed zero minutes = []
repeated speed (suc n) minutes = repeated speed n minutes ++ map (minute_later n speed) minutes

-- the minutes that a run of seconds decides
abbrev pub decided_alike : ℕ → Alike → List Minute
decided_alike speed a = repeated speed a.times a.decided.items
