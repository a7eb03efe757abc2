-- Worked rows of the causes of a run log: which tears, finds and cuts a run of two cards tells, as its lines have them.
use Rattle.std.proofs.Common.{◌≡◌, ℕ, ◌+◌, true, false, Some, None, List, [], ◌∷◌, ◌++◌, map, flat_map, refl}
use Rattle.activity_codec.specs.declared.values.Slot.{Slot}
use Rattle.activity_codec.specs.declared.values.Slot.TheVariants.{Driver, CoDriver}
use Rattle.trace_model.specs.declared.Card.TheVariants.{A, B}
use Rattle.minute_model.specs.declared.Rule.TheVariants.{Original, Amended}
use Rattle.log_model.specs.declared.lines.Break.TheVariants as break
use Rattle.log_model.specs.declared.lines.SlotFault.TheVariants.{Moving, NoPower}
use Rattle.log_model.specs.declared.lines.Verdict.TheVariants.{Accepted, TimeOverlap}
use Rattle.log_model.specs.Log.{In, Keeping, cut_in, is_torn_in, found_in}
use Rattle.log_model.specs.Course.{Visit, went}
use Rattle.log_model.specs.Causes.{tears, failed_cut_in, places, visit_places, in_the_slot, refusal_told, pulled_of, torn_of, cards_torn, finds_of, off_cuts, found_of}
use Rattle.trace_model.specs.Trace.{seconds_of}
use Rattle.history_model.specs.Completeness.{deciding_of}
use Rattle.worked_promises.proofs.Scenario.{at, log, told, seconds}

-- one card was pulled out by a line, and one torn out by a call
pulled_line : tears false log ≡ break.Tear (at 150) CoDriver false 1 false ∷ []
pulled_line = refl

torn_line : tears true log ≡ break.Tear (at 270) CoDriver true 1 false ∷ []
torn_line = refl

-- a call took the power at 08:05:50; at 08:03:59 it was an `off` line
cut_by_a_call : failed_cut_in log (at 350) ≡ Some 0
unfolding cut_in
cut_by_a_call = refl

cut_by_a_line : failed_cut_in log (at 239) ≡ None
unfolding cut_in
cut_by_a_line = refl

-- where a tear stands: in its action, or behind all of them; a cut stands nowhere
place_in_an_action : places (break.Tear 7 Driver true 2 false) ≡ (7, In 2, Driver) ∷ []
place_in_an_action = refl

place_in_the_keeping : places (break.Tear 7 Driver true 2 true) ≡ (7, Keeping, Driver) ∷ []
place_in_the_keeping = refl

no_place_of_a_cut : places (break.Cut 7 0 true 2) ≡ []
no_place_of_a_cut = refl

-- a card at a moment of a second
abbrev visit : Slot → Visit
visit slot = record { phase = In 2; slot = slot; card = B }

places_of_visits : visit_places 7 (visit Driver ∷ visit CoDriver ∷ []) ≡ (7, In 2, Driver) ∷ (7, In 2, CoDriver) ∷ []
places_of_visits = refl

places_of_one_slot : in_the_slot CoDriver ((7, In 2, Driver) ∷ (8, Keeping, CoDriver) ∷ (9, In 0, Driver) ∷ []) ≡ (8, Keeping, CoDriver) ∷ []
places_of_one_slot = refl

-- the two refusals of the slots
refusals_told : map refusal_told log.refused ≡ (at 120, 1, Moving 72) ∷ (at 355, 1, NoPower) ∷ []
refusals_told = refl

-- what the seconds tell, one after another
pulled_out : pulled_of told ≡ (at 150, In 1, CoDriver) ∷ []
unfolding seconds_of went cut_in is_torn_in found_in
pulled_out = refl

torn_out : torn_of told ≡ (at 270, In 1, CoDriver) ∷ []
unfolding seconds_of went cut_in is_torn_in found_in
torn_out = refl

its_card : cards_torn told ≡ B ∷ []
unfolding seconds_of went cut_in is_torn_in found_in
its_card = refl

-- each card that entered was judged, but the one that was torn out at that moment
found : finds_of told
    ≡ (at 0, In 1, Driver, Accepted 0) ∷ (at 0, In 2, CoDriver, Accepted 0) ∷ (at 270, In 0, Driver, Accepted 0) ∷ (at 300, In 2, Driver, Accepted 0)
    ∷ (at 360, In 0, Driver, Accepted 0) ∷ (at 380, In 1, CoDriver, TimeOverlap (at 500) (at 380)) ∷ []
unfolding seconds_of went cut_in is_torn_in found_in
found = refl

found_of_each : flat_map (λ t. map (found_of t) t.course.entered) told
    ≡ (Accepted 0 ∷ []) ∷ (Accepted 0 ∷ []) ∷ (Accepted 0 ∷ []) ∷ [] ∷ (Accepted 0 ∷ []) ∷ (Accepted 0 ∷ []) ∷ (TimeOverlap (at 500) (at 380) ∷ []) ∷ []
unfolding seconds_of went cut_in is_torn_in found_in
found_of_each = refl

-- the last second before the `off` line; the one that a call took is none
off_lines : off_cuts (at 350 ∷ []) told ≡ at 239 ∷ []
unfolding seconds_of went cut_in is_torn_in found_in
off_lines = refl

-- had a call taken the power in that second, the `off` line would have met none
off_line_without_power : off_cuts (at 239 ∷ at 350 ∷ []) told ≡ []
unfolding seconds_of went cut_in is_torn_in found_in
off_line_without_power = refl

-- 08:01 is decided with the last second of 08:03, by the amended rule with that of 08:04; or by the settling at 08:03:20
-- (as a card is withdrawn then), which is a second of a later minute
decided_behind_two_minutes : deciding_of Original [] 21123841 ≡ at 239
decided_behind_two_minutes = refl

decided_behind_three_minutes : deciding_of Amended [] 21123841 ≡ at 299
decided_behind_three_minutes = refl

decided_by_a_settling : deciding_of Original (at 100 ∷ at 200 ∷ []) 21123841 ≡ at 200
decided_by_a_settling = refl

-- a settling in the first second behind them decides nothing
decided_before_a_settling : deciding_of Original (at 240 ∷ []) 21123841 ≡ at 239
decided_before_a_settling = refl
