-- A card is pulled out: what is recorded.
use Rattle.std.proofs.Common.{◌≡◌, ◌∙◌, ℕ, suc, Bool, true, false, Option, Some, None, is_some, List, [], ◌∷◌, ◌++◌, length, refl, ap, sym, subst}
use Rattle.activity_codec.specs.declared.values.Slot.{Slot}
use Rattle.trace_model.specs.declared.Card.{Card}
use Rattle.trace_model.specs.declared.Action.{Action}
use Rattle.trace_model.specs.declared.Action.TheVariants.{Tear as Pull}
use Rattle.trace_model.specs.Trace.{TraceSecond}
use Rattle.log_model.specs.declared.lines.Break.TheVariants.{Tear}
use Rattle.log_model.specs.Log.{In}
use Rattle.log_model.specs.Slots.{same_card}
use Rattle.device_calls.specs.safety_model.Safe.{Devices}
use Rattle.run_crew.specs.card_slots.Calls.{seat_in, card_in}
use Rattle.run_crew.specs.Cabin.{CabinIsSound, torn_out}
use Rattle.run_outcome.specs.declared.outcome.Outcome.{Outcome}
use Rattle.run_minutes.specs.Keeping.{with_lines}
use Rattle.run_minutes.specs.run_promise.Origin.{Origin}
use Rattle.run_record.proofs.Pulling.{pulled-out}
use Rattle.run_acts.specs.declared.run.Run.{Run}
use Rattle.run_acts.specs.Power.{with_cabin}
use Rattle.run_acts.specs.Acting.{pulled_run, pulled_breaks}
use Rattle.run_acts.specs.Recording.{log_of, values_of, RunWithin, RunGoesOn, RecordsAction}
use Rattle.run_acts.proofs.Asked.{pulls-one}
use Rattle.run_acts.proofs.NoteRecorded.{goes-as}
use Rattle.unit_notes.specs.note_model.Noted.{Note}
use Rattle.run_crew.specs.declared.cards.Accepted.{Accepted}
use Rattle.run_crew.specs.Cards.{session_of, with_session}
use Rattle.run_acts.specs.Closings.{Spell, spells_of, last_slot, notes_within}
use Rattle.run_acts.specs.Truths.{truths_within, marked}
use Rattle.run_acts.specs.Stays.{sits_in, IsPlaced}
use Rattle.run_acts.proofs.AllStay.{Moves, moves-gone, moves-same, placed-same, placed-bare, all-moved, lines-on, stood-self, mine-left, left-same}
use Rattle.run_acts.proofs.SeatsThen.{same-as, sits-there, torn-other, torn-slot}
use Rattle.run_acts.proofs.NotesThen.{pull-now}

module _ (d : Devices) (slot : Slot) (begun speed : ℕ) (run : Run) (out : Outcome) (low : ℕ) (stands : CabinIsSound low None run.keeper.cabin) where
  -- its card sat there, and has no session any more; another one sits as it did
  gone-so : (card : Card) → card_in (seat_in run.keeper.cabin.slots.seats slot) ≡ Some card → (second : ℕ) (noted now : List Spell) (c : Card) → now ≡ noted →
      Moves second noted now (sits_in run.keeper.cabin.slots.seats c) (sits_in (torn_out card second run.keeper.cabin).slots.seats c) (session_of run.keeper.cabin.cards c) (session_of (with_session card None run.keeper.cabin.cards) c)
  gone-so card is second noted now c same = by (same_card card c) refl
    where
      by : (b : Bool) → same_card card c ≡ b → Moves second noted now (sits_in run.keeper.cabin.slots.seats c) (sits_in (torn_out card second run.keeper.cabin).slots.seats c) (session_of run.keeper.cabin.cards c) (session_of (with_session card None run.keeper.cabin.cards) c)
      by true mine =
          moves-gone second noted now (sits_in run.keeper.cabin.slots.seats c) (sits_in (torn_out card second run.keeper.cabin).slots.seats c) (session_of run.keeper.cabin.cards c) (session_of (with_session card None run.keeper.cabin.cards) c) same
          (λ some. sits-there run.keeper.cabin.slots.seats slot c (is ∙ ap (λ (k : Card). Some k) (same-as card c mine)))
          (subst (λ (k : Card). session_of (with_session card None run.keeper.cabin.cards) k ≡ None) (same-as card c mine) (mine-left card run.keeper.cabin.cards))
      by false other =
          moves-same second noted now (sits_in run.keeper.cabin.slots.seats c) (sits_in (torn_out card second run.keeper.cabin).slots.seats c) (session_of run.keeper.cabin.cards c) (session_of (with_session card None run.keeper.cabin.cards) c) same
          (torn-other card c second run.keeper.cabin other) (left-same card run.keeper.cabin.cards c other)

  -- and in the slot in which it sat
  placed-so : (card : Card) (second : ℕ) (notes after : List Note) (c : Card) → spells_of c after ≡ spells_of c notes → IsPlaced notes run.keeper.cabin c → IsPlaced after (torn_out card second run.keeper.cabin) c
  placed-so card second notes after c same was = by (same_card card c) refl
    where
      by : (b : Bool) → same_card card c ≡ b → IsPlaced after (torn_out card second run.keeper.cabin) c
      by true mine = placed-bare after (torn_out card second run.keeper.cabin) c (subst (λ (k : Card). session_of (with_session card None run.keeper.cabin.cards) k ≡ None) (same-as card c mine) (mine-left card run.keeper.cabin.cards))
      by false other =
          placed-same notes after run.keeper.cabin (torn_out card second run.keeper.cabin) c (ap last_slot same) (λ at there. torn-slot card c second run.keeper.cabin at there)
          (λ some. ap (λ (q : Option Accepted). is_some q) (sym (left-same card run.keeper.cabin.cards c other)) ∙ some) was

  out-of : (o : Origin) (done : List TraceSecond) (s : TraceSecond) (front rest : List Action) → s.actions ≡ front ++ Pull slot ∷ rest → begun ≡ suc (length front) → s.number ≡ run.next → (w : RunWithin o done s (In (length front)) [] [] run out d) →
      (card : Card) → card_in (seat_in run.keeper.cabin.slots.seats slot) ≡ Some card → RunGoesOn o done s (In begun) [] (with_cabin (torn_out card run.next run.keeper.cabin) run) (record out { breaks = with_lines (Tear run.next slot false begun false ∷ []) out.breaks }) d w.within.b
  out-of o done s front rest are n number w card is =
      subst (λ (u : ℕ). RunGoesOn o done s (In begun) [] (with_cabin (torn_out card u run.keeper.cabin) run) (record out { breaks = with_lines (Tear u slot false begun false ∷ []) out.breaks }) d w.within.b) number
      (subst (λ (k : ℕ). RunGoesOn o done s (In k) [] (with_cabin (torn_out card s.number run.keeper.cabin) run) (record out { breaks = with_lines (Tear s.number slot false k false ∷ []) out.breaks }) d w.within.b) (sym n)
      (goes-as o done s (In (length front)) (In (suc (length front))) [] [] [] run (with_cabin (torn_out card s.number run.keeper.cabin) run) out (record out { breaks = with_lines (Tear s.number slot false (suc (length front)) false ∷ []) out.breaks }) d d w.within.from w refl refl refl
      (pulled-out d o done s (values_of run out) front slot card rest are w.within is low stands)
      (all-moved o (marked out.marks.items (truths_within o w.within.b.run.log done s)) s.number (log_of out) (log_of (record out { breaks = with_lines (Tear s.number slot false (suc (length front)) false ∷ []) out.breaks }))
      (notes_within w.within.b done s (In (length front)) (log_of out)) (notes_within w.within.b done s (In (suc (length front))) (log_of (record out { breaks = with_lines (Tear s.number slot false (suc (length front)) false ∷ []) out.breaks })))
      run.keeper.memory.registration run.keeper.cabin (torn_out card s.number run.keeper.cabin) d
      (lines-on o (log_of out) (out.breaks.items ++ Tear s.number slot false (suc (length front)) false ∷ []) (Tear s.number slot false (suc (length front)) false ∷ []) d d refl (stood-self o d))
      (λ whose known c in_. gone-so card is s.number (spells_of c (notes_within w.within.b done s (In (length front)) (log_of out)))
      (spells_of c (notes_within w.within.b done s (In (suc (length front))) (log_of (record out { breaks = with_lines (Tear s.number slot false (suc (length front)) false ∷ []) out.breaks })))) c
      (pull-now o done s front rest slot are (values_of run out) d w.within c))
      (λ whose known c in_ was.
      placed-so card s.number (notes_within w.within.b done s (In (length front)) (log_of out)) (notes_within w.within.b done s (In (suc (length front))) (log_of (record out { breaks = with_lines (Tear s.number slot false (suc (length front)) false ∷ []) out.breaks }))) c
      (pull-now o done s front rest slot are (values_of run out) d w.within c) was)
      w.stay)))

  pub pulled-recorded : RecordsAction (Pull slot) begun speed false run (pulled_run (card_in (seat_in run.keeper.cabin.slots.seats slot)) run.next run) out
      (record out { breaks = with_lines (pulled_breaks (card_in (seat_in run.keeper.cabin.slots.seats slot)) slot (record { second = run.next; begun = begun; late = false })) out.breaks }) d d
  pulled-recorded = λ o done s now front rest are n allowed w time. by o done s front rest are n now.number w (card_in (seat_in run.keeper.cabin.slots.seats slot)) refl (pulls-one run.keeper.cabin.slots.seats slot speed allowed)
    where
      by : (o : Origin) (done : List TraceSecond) (s : TraceSecond) (front rest : List Action) → s.actions ≡ front ++ Pull slot ∷ rest → begun ≡ suc (length front) → s.number ≡ run.next → (w : RunWithin o done s (In (length front)) [] [] run out d) →
          (c : Option Card) → card_in (seat_in run.keeper.cabin.slots.seats slot) ≡ c → (card_in (seat_in run.keeper.cabin.slots.seats slot) ≡ None → ⊥) →
          RunGoesOn o done s (In begun) [] (pulled_run c run.next run) (record out { breaks = with_lines (pulled_breaks c slot (record { second = run.next; begun = begun; late = false })) out.breaks }) d w.within.b
      by o done s front rest are n number w None is one = absurd (one is)
      by o done s front rest are n number w (Some card) is one = out-of o done s front rest are n number w card is
