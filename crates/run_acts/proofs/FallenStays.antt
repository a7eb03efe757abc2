-- The stays of the other card where one has fallen in a call: nothing is noted of it, and it has its session and its seat.
use Rattle.std.proofs.Common.{◌≡◌, ◌≤◌, ◌<◌, ℕ, true, Some, List, [], ◌∷◌, ◌++◌}
use Rattle.activity_codec.specs.declared.values.Slot.{Slot}
use Rattle.trace_model.specs.declared.Card.{Card}
use Rattle.tach_media.specs.Medium.{State, HasBroken, last_count}
use Rattle.tacho_types.specs.declared.texts.Registration.{Registration}
use Rattle.log_model.specs.Log.{RunLog}
use Rattle.log_model.specs.Slots.{same_card}
use Rattle.log_model.specs.Causes.{device_of}
use Rattle.device_calls.specs.device_rule.Views.{other}
use Rattle.unit_notes.specs.note_model.Noted.{Note}
use Rattle.device_calls.specs.safety_model.Safe.{breakdowns_of}
use Rattle.run_crew.specs.card_slots.Calls.{seat_in, card_in}
use Rattle.run_crew.specs.declared.cabin.Cabin.{Cabin}
use Rattle.run_crew.specs.Cards.{session_of}
use Rattle.run_minutes.specs.run_devices.Told.{arranged}
use Rattle.run_minutes.specs.run_promise.Origin.{Origin}
use Rattle.run_minutes.specs.declared.keeper.Moment.{Moment}
use Rattle.run_minutes.specs.Keeping.{tear_of}
use Rattle.run_acts.specs.Closings.{spells_of}
use Rattle.run_acts.specs.Truths.{Truths}
use Rattle.run_acts.specs.Stays.{Whose, Both, Only, covers, IsUnhurt, AreKnown, AllStay, sits_in, judged_told}
use Rattle.run_acts.proofs.AllStay.{TellsAside, all-one, known-as, known-before, no-fall, no-tear, stood-broken}

-- A CARD FELL, of which a tear is told: the log may tell of it that it was judged before
module _ (o : Origin) (t : Truths) (u : ℕ) (c : Card) (log later : RunLog) (slot : Slot) (at : Moment) (breaks_are : later.breaks ≡ log.breaks ++ tear_of slot at ∷ []) (notes now : List Note) (r : Registration) (cabin after : Cabin) (U V X Y Z : State)
    (floor : (k : Card) → o.breakdowns (device_of k) < last_count → o.breakdowns (device_of k) ≤ breakdowns_of (arranged c U X Z) (device_of k)) (broken : HasBroken X Y 1) where
  -- by its breaks
  as-told : (whose : Whose) → AreKnown whose o later (arranged c V Y Z) → AreKnown whose o (record log { breaks = log.breaks ++ tear_of slot at ∷ [] }) (arranged c V Y Z)
  as-told whose known = known-as whose o (record log { breaks = log.breaks ++ tear_of slot at ∷ [] }) later (arranged c V Y Z) breaks_are known

  not-own : {T : Type 0} (whose : Whose) → AreKnown whose o later (arranged c V Y Z) → covers whose c ≡ true → T
  not-own whose known in_ = no-fall whose o log later slot at c U V X Y Z breaks_are floor broken in_ known

  -- of the other
  its-spells : ((k : Card) → same_card k (other c) ≡ true → IsUnhurt o later k (arranged c V Y Z) → spells_of (other c) now ≡ spells_of (other c) notes) → (whose : Whose) → AreKnown whose o later (arranged c V Y Z) → covers whose (other c) ≡ true → spells_of (other c) now ≡ spells_of (other c) notes
  its-spells spell Both known in_ = no-tear log slot at (as-told Both known)
  its-spells spell (Only k) known in_ = spell k in_ known

  pub all-fell : session_of after.cards (other c) ≡ session_of cabin.cards (other c) → sits_in after.slots.seats (other c) ≡ sits_in cabin.slots.seats (other c) → ((sl : Slot) → card_in (seat_in after.slots.seats sl) ≡ Some (other c) → card_in (seat_in cabin.slots.seats sl) ≡ Some (other c)) →
      ((k : Card) → same_card k (other c) ≡ true → IsUnhurt o later k (arranged c V Y Z) → spells_of (other c) now ≡ spells_of (other c) notes) → TellsAside (t.entered c) (judged_told log) (judged_told later) → AllStay o t u log notes r cabin (arranged c U X Z) → AllStay o t u later now r after (arranged c V Y Z)
  all-fell same seat beside spell aside stays =
      all-one o t u c log later notes now r cabin after U V X Y Z
      (λ whose known. known-before whose o log (tear_of slot at ∷ []) (arranged c U X Z) (arranged c V Y Z) (stood-broken o 1 c U V X Y Z floor broken) (as-told whose known))
      same seat beside (its-spells spell) (λ whose known in_ was. not-own whose known in_) (λ whose known in_ h. not-own whose known in_) (λ whose known out. aside) stays
