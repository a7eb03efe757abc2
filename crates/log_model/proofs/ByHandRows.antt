-- Worked rows of the entries by hand of a run.
use Rattle.std.proofs.Common.{◌≡◌, ℕ, Some, None, List, [], ◌∷◌, refl}
use Rattle.activity_codec.specs.declared.values.Slot.TheVariants.{Driver, CoDriver}
use Rattle.activity_codec.specs.declared.values.Pick.TheVariants.{Rest, Work}
use Rattle.trace_model.specs.declared.Action.TheVariants.{Insert, Manual}
use Rattle.trace_model.specs.declared.Card.TheVariants.{A}
use Rattle.trace_model.specs.declared.Item.{Item}
use Rattle.trace_model.specs.declared.Item.TheVariants.{Run, Act}
use Rattle.trace_model.specs.Trace.{seconds_of}
use Rattle.log_model.specs.declared.lines.SlotFault.TheVariants.{Moving, NoCard, NotFree, Begun, Full}
use Rattle.log_model.specs.declared.lines.Refused.{Refused}
use Rattle.log_model.specs.declared.lines.Verdict.TheVariants.{Accepted}
use Rattle.log_model.specs.Log.{RunLog, cut_in, is_torn_in, found_in}
use Rattle.log_model.specs.Course.{went}
use Rattle.log_model.specs.Causes.{refusals_of}
use Rattle.log_model.specs.ByHand.{Asked, asked_of, done_by_hand, stopped_by}

-- 06:00 of 2010-03-01: card a is put into the driver's slot and accepted, then work is entered by hand from a minute of the day on
abbrev entering : ℕ → List Item
entering minute = Act (Insert Driver A) ∷ Act (Manual Driver Work minute) ∷ Run 240 0 ∷ []

abbrev accepted : RunLog
accepted = record { breaks = []; refused = []; finds = record { second = 1267423200; slot = Driver; verdict = Accepted 0; begun = 1 } ∷ [] }

abbrev asked : ℕ → Asked
asked minute = record { second = 1267423200; begun = 2; slot = Driver; sitting = record { card = A; accepted = Some 1267423200 }; pick = Work; minute = minute }

-- at 05:00: the slots let it pass
one_is_asked : asked_of accepted (seconds_of 1267423200 (entering 300)) ≡ asked 21123660 ∷ []
unfolding asked_of seconds_of cut_in is_torn_in found_in
one_is_asked = refl

-- and it is done
one_is_done : done_by_hand [] (asked_of accepted (seconds_of 1267423200 (entering 300))) ≡ asked 21123660 ∷ []
unfolding asked_of seconds_of cut_in is_torn_in found_in
one_is_done = refl

-- at 06:00, the minute of the insertion, the session stops it
abbrev stop : Refused
stop = record { second = 1267423200; fault = NotFree 0 21123720; begun = 2 }

at_the_insertion : stopped_by None 0 21123720 0 21123720 ≡ Some (NotFree 0 21123720)
at_the_insertion = refl

none_is_done : done_by_hand (stop ∷ []) (asked_of accepted (seconds_of 1267423200 (entering 360))) ≡ []
unfolding asked_of seconds_of cut_in is_torn_in found_in
none_is_done = refl

-- one before it passes, also where seven are held, and none where eight are; none once the session has kept a minute
passes : stopped_by None 21123600 21123720 7 21123719 ≡ None
passes = refl

full : stopped_by None 21123600 21123720 8 21123719 ≡ Some (Full 8)
full = refl

begun : stopped_by (Some 21123720) 21123600 21123720 0 21123719 ≡ Some (Begun 21123720)
begun = refl

-- without a card in the slot, or in motion, the slots refuse
no_card : refusals_of (went accepted (seconds_of 1267423200 (Act (Insert Driver A) ∷ Act (Manual CoDriver Rest 300) ∷ Run 1 0 ∷ []))).told ≡ (1267423200, 2, NoCard CoDriver) ∷ []
unfolding went seconds_of cut_in is_torn_in found_in
no_card = refl

in_motion : refusals_of (went accepted (seconds_of 1267423200 (Act (Insert Driver A) ∷ Act (Manual Driver Rest 300) ∷ Run 1 60 ∷ []))).told ≡ (1267423200, 2, Moving 60) ∷ []
unfolding went seconds_of cut_in is_torn_in found_in
in_motion = refl
