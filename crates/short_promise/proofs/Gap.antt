-- Across a gap: the history that a real log makes of a trace, and what two images say of it, by their bytes.
use Rattle.std.proofs.Common.{◌≡◌, inl, inr, ℕ, true, false, Some, None, List, [], ◌∷◌, Contains, refl, ap, subst, sym, ◌∙◌, arith}
use Rattle.gated_ring.specs.Ring.{indices as ring_indices}
use Rattle.safety_model.specs.device_rule.activity_codec.declared.values.Activity.TheVariants.{Rest, Available, Driving}
use Rattle.safety_model.specs.device_rule.activity_codec.declared.values.Slot.TheVariants.{Driver}
use Rattle.safety_model.specs.device_rule.trace_model.declared.Card.TheVariants.{A}
use Rattle.safety_model.specs.device_rule.trace_model.declared.Item.{Item}
use Rattle.safety_model.specs.device_rule.trace_model.declared.Item.TheVariants.{Run, Off, Act}
use Rattle.safety_model.specs.device_rule.trace_model.declared.Action.TheVariants.{Insert}
use Rattle.safety_model.specs.device_rule.trace_model.Trace.{TraceSecond, seconds_of}
use Rattle.safety_model.specs.device_rule.unit_model.Days.{UnitMinute, ShownDay, unknown_minute, newest_days}
use Rattle.safety_model.specs.device_rule.unit_model.Image.{recorded, last_kept, unit_days, indices, odometer_at}
use Rattle.safety_model.specs.device_rule.unit_model.Decoding.{Decodes, checks}
use Rattle.safety_model.specs.device_rule.minute_model.declared.Rule.TheVariants.{Original}
use Rattle.safety_model.specs.device_rule.minute_model.Minute.{decided}
use Rattle.safety_model.specs.device_rule.log_model.declared.lines.Break.TheVariants.{Cut}
use Rattle.safety_model.specs.device_rule.log_model.declared.lines.Verdict.TheVariants.{Accepted}
use Rattle.safety_model.specs.device_rule.log_model.Log.{RunLog, cut_in, kept_after, is_torn_in, found_in}
use Rattle.safety_model.specs.device_rule.log_model.Course.{went}
use Rattle.safety_model.specs.device_rule.log_model.Spans.{spans_of}
use Rattle.log_model.proofs.Spanning.{seconds-order}
use Rattle.safety_model.specs.device_rule.history_model.Minutes.{HistoryMinute, card_history}
use Rattle.safety_model.specs.device_rule.history_model.Presence.{Start, CardStart, newest_minute, present_in}
use Rattle.safety_model.specs.device_rule.history_model.History.{unit_history, with_lost}
use Rattle.safety_model.specs.device_rule.Filling.{filled_with}
use Rattle.safety_model.specs.Unit.{UnitShows}
use Rattle.short_promise.specs.InShort.{said, HasAll}
use Rattle.days_told.proofs.Saying.{told}
use Rattle.short_promise.proofs.Images.{said-told}
use Rattle.short_promise.proofs.Short.{unit-has}
use Rattle.short_promise.proofs.Bytes.{image_with, empty_image, empty-last, empty-days}

-- Card A is put in on the second day of 1970 at 00:00. It stands for a minute and drives for three; a call on the unit
-- fails in the last second of these, in which 00:01 is decided. There is no power for four minutes, and then it drives
-- for four.
abbrev lines : List Item
lines = Act (Insert Driver A) ∷ Run 60 0 ∷ Run 180 50 ∷ Off 240 ∷ Run 240 50 ∷ []

abbrev seconds : List TraceSecond
seconds = seconds_of 86400 lines

-- when power is back, 00:00 is found to be kept, and no more
abbrev log : RunLog
log = record {
  breaks = Cut 86639 1440 true 0 ∷ [];
  refused = [];
  finds = record { second = 86400; slot = Driver; verdict = Accepted 0; begun = 1 } ∷ record { second = 86880; slot = Driver; verdict = Accepted 0; begun = 0 } ∷ [];
}

abbrev new_card : CardStart
new_card = record { entries = []; owed = []; mark = 0; word = 0 }

abbrev cards : Start
cards = record { card_a = new_card; card_b = new_card }

abbrev past : List HistoryMinute
past = unit_history Original cards log (went log seconds).told

abbrev lost : List (List HistoryMinute)
lost = with_lost Original cards log (went log seconds).told

-- ---- its history: 00:00, 00:08 and 00:09, by hand; with 00:01 lost
abbrev stands : HistoryMinute
stands = record { minute = 1440; driver = record { act = Rest; card = Some A }; codriver = record { act = Rest; card = None } }

abbrev drives : ℕ → HistoryMinute
drives m = record { minute = m; driver = record { act = Driving; card = Some A }; codriver = record { act = Available; card = None } }

past-by-hand : past ≡ stands ∷ drives 1448 ∷ drives 1449 ∷ []
unfolding decided seconds_of went spans_of cut_in kept_after is_torn_in found_in unit_history present_in newest_minute card_history
past-by-hand = refl

lost-by-hand : lost ≡ (stands ∷ drives 1441 ∷ []) ∷ []
unfolding decided seconds_of went spans_of cut_in kept_after is_torn_in found_in with_lost present_in newest_minute card_history
lost-by-hand = refl

-- ---- the image behind all that, by its bytes: from 00:01 to 00:07 nothing is known
abbrev image_of_gap : List ℕ
image_of_gap = image_with (0 ∷ 0 ∷ 5 ∷ 169 ∷ []) 5 (0 ∷ 0 ∷ 160 ∷ 0 ∷ 32 ∷ 1 ∷ 24 ∷ 8 ∷ 168 ∷ 8 ∷ [])

abbrev held_still : UnitMinute
held_still = record { minute = 1440; driver = record { act = Rest; present = true }; codriver = record { act = Rest; present = false }; crew = false }

abbrev held_driving : ℕ → UnitMinute
held_driving m = record { minute = m; driver = record { act = Driving; present = true }; codriver = record { act = Available; present = false }; crew = false }

abbrev days_of_gap : List ShownDay
days_of_gap = record {
  day = 1;
  minutes = held_still ∷ unknown_minute 1441 ∷ unknown_minute 1442 ∷ unknown_minute 1443 ∷ unknown_minute 1444 ∷ unknown_minute 1445 ∷ unknown_minute 1446 ∷ unknown_minute 1447 ∷ held_driving 1448 ∷ held_driving 1449 ∷ [];
} ∷ []

gap-last : last_kept image_of_gap ≡ 1449
unfolding last_kept
gap-last = refl

gap-days : recorded image_of_gap ≡ days_of_gap
unfolding recorded unit_days last_kept ring_indices
gap-days = refl

gap-decodes : Decodes image_of_gap
unfolding Decodes checks last_kept odometer_at indices ring_indices
gap-decodes = refl

-- WHAT IT SAYS: of 00:08 what the history says; of the minutes of the gap that nothing is known, and so of that which
-- the cut took
gap-said : (m : ℕ) → said image_of_gap m ≡ told days_of_gap m
gap-said m = said-told image_of_gap m ∙ ap (λ (ds : List ShownDay). told ds m) gap-days

says-behind-the-gap : said image_of_gap 1448 ≡ held_driving 1448
says-behind-the-gap = gap-said 1448 ∙ refl

says-in-the-gap : said image_of_gap 1444 ≡ record { minute = 1444; driver = record { act = Rest; present = false }; codriver = record { act = Rest; present = false }; crew = false }
says-in-the-gap = gap-said 1444 ∙ refl

says-of-the-cut : said image_of_gap 1441 ≡ unknown_minute 1441
says-of-the-cut = gap-said 1441 ∙ refl

-- ---- and the one that the cut left, with the minute that was being written
abbrev image_at_cut : List ℕ
image_at_cut = image_with (0 ∷ 0 ∷ 5 ∷ 161 ∷ []) 4 (0 ∷ 0 ∷ 160 ∷ 0 ∷ 24 ∷ 1 ∷ 168 ∷ 1 ∷ [])

abbrev days_at_cut : List ShownDay
days_at_cut = record { day = 1; minutes = held_still ∷ held_driving 1441 ∷ [] } ∷ []

cut-last : last_kept image_at_cut ≡ 1441
unfolding last_kept
cut-last = refl

cut-days : recorded image_at_cut ≡ days_at_cut
unfolding recorded unit_days last_kept ring_indices
cut-days = refl

cut-decodes : Decodes image_at_cut
unfolding Decodes checks last_kept odometer_at indices ring_indices
cut-decodes = refl

-- BOTH HAVE ALL, over a unit that had no day
empty-decodes : Decodes empty_image
unfolding Decodes checks last_kept odometer_at indices ring_indices
empty-decodes = refl

-- the newest 366 of days that these minutes fill
abbrev filled-by : List ShownDay → List HistoryMinute → List ShownDay
filled-by days is = newest_days 366 (filled_with days is)

abbrev Shows : List ℕ → Type 0
Shows x = UnitShows (recorded empty_image) past lost x

abbrev gap-shows : Shows image_of_gap
gap-shows = record {
  some = stands ∷ drives 1448 ∷ drives 1449 ∷ [];
  passed = inl ([], past-by-hand);
  next = None;
  comes = tt;
  days = inl (gap-days ∙ ap (λ (ds : List ShownDay). filled-by ds (stands ∷ drives 1448 ∷ drives 1449 ∷ [])) (sym empty-days));
}

abbrev cut-shows : Shows image_at_cut
cut-shows = record {
  some = stands ∷ drives 1441 ∷ [];
  passed = inr (subst (λ (ls : List (List HistoryMinute)). Contains ls (stands ∷ drives 1441 ∷ [])) (sym lost-by-hand) (0, omega arith, refl));
  next = None;
  comes = tt;
  days = inl (cut-days ∙ ap (λ (ds : List ShownDay). filled-by ds (stands ∷ drives 1441 ∷ [])) (sym empty-days));
}

gap-holds : HasAll empty_image past lost image_of_gap
gap-holds = unit-has empty_image Original cards log seconds 86400 empty-decodes (omega (arith, empty-last)) (seconds-order 86400 lines) image_of_gap gap-shows gap-decodes (inr (drives 1449, (2, omega arith, refl), sym gap-last))

cut-holds : HasAll empty_image past lost image_at_cut
cut-holds = unit-has empty_image Original cards log seconds 86400 empty-decodes (omega (arith, empty-last)) (seconds-order 86400 lines) image_at_cut cut-shows cut-decodes (inr (drives 1441, (1, omega arith, refl), sym cut-last))
