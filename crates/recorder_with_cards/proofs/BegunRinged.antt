-- A second begins behind one with power: nothing of its rings is noted yet.
use Rattle.std.proofs.Common.{◌≡◌, ◌∙◌, ℕ, ◌-◌, ◌/◌, ◌%◌, ◌≤◌, Bool, true, false, not, nat_eq, Option, List, [], ◌∷◌, refl, ap, sym, subst, arith}
use Rattle.trace_model.specs.declared.Card.{Card}
use Rattle.trace_model.specs.Trace.{TraceSecond}
use Rattle.tach_media.specs.Medium.{State}
use Rattle.tach_media.specs.card_layout.declared.command.CardState.{CardState}
use Rattle.log_model.specs.Log.{RunLog}
use Rattle.log_model.specs.Course.{ToldSecond, Before, has_power, second_told, went}
use Rattle.device_calls.specs.run_unit_course.Followed.{UnitPower, Lit as IsLitBy, Due as IsDueBy, Lost as IsLostBy}
use Rattle.device_calls.specs.safety_model.Safe.{Devices}
use Rattle.run_acts.specs.run_course.Followed.{IsSupplied, PowerGoesOn}
use Rattle.run_acts.proofs.run_course.Told.{going-power}
use Rattle.run_outcome.specs.declared.outcome.Outcome.{Outcome}
use Rattle.run_minutes.specs.run_promise.Origin.{Origin}
use Rattle.run_acts.specs.run_rings.Spans.{with_second}
use Rattle.run_acts.specs.run_note_record.Ringed.{Seating}
use Rattle.run_acts.specs.run_note_record.RingsSoFar.{RingedBehind, IsSecond, RingedIn}
use Rattle.run_acts.specs.run_note_record.Stored.{StoresOn, Stores}
use Rattle.run_acts.proofs.run_note_record.SoFar.{second-begins}
use Rattle.run_acts.proofs.run_note_record.Bases.{stored-next}
use Rattle.run_acts.specs.declared.run.Run.{Run}
use Rattle.run_acts.specs.declared.run.Power.{Power}
use Rattle.run_acts.specs.declared.run.Power.TheVariants.{Lit}
use Rattle.run_acts.specs.Power.{is_lit, over_by, minute_over}
use Rattle.run_acts.specs.Going.{first_second, RunHasPowerAllSeated}
use Rattle.run_acts.specs.Recording.{log_of, Supplies}
use Rattle.run_acts.specs.RunRinged.{seats_of, IsLastFrom, RunRinged, RingsWithin, WithinRinged}
use Rattle.run_acts.proofs.RingedSecond.{goes-last}
use Rattle.recorder_with_cards.proofs.BegunEvented.{lit-evented}

-- a second with power, as its spans have it
pub second-as : (log : RunLog) (before : Before) (s : TraceSecond) → has_power before s ≡ true → IsSecond s before (second_told log before s)
second-as log before s power = rw power (record { number = refl; speed = refl; lit = refl; starts = refl })

-- as a minute is over the cards are accepted as before, and so is the odometer
over-seats : (b : Bool) (run : Run) → seats_of (over_by b run) ≡ seats_of run
over-seats true run = refl
over-seats false run = refl

over-noted : (b : Bool) (run : Run) → (over_by b run).noted ≡ run.noted
over-noted true run = refl
over-noted false run = refl

over-unfound : (b : Bool) (run : Run) → (over_by b run).unfound ≡ run.unfound
over-unfound true run = refl
over-unfound false run = refl

over-odometer : (b : Bool) (run : Run) → (over_by b run).keeper.odometer ≡ run.keeper.odometer
over-odometer true run = refl
over-odometer false run = refl

module _ (o : Origin) (done : List TraceSecond) (s : TraceSecond) (run : Run) (out : Outcome) (d : Devices) (U : State) (chip_a chip_b : CardState) (X Y : State) (lit : run.power ≡ Lit) (number : s.number ≡ run.next) (given : s.has_power ≡ true) (low : first_second ≤ run.next)
    (going : RunHasPowerAllSeated ((run.next - 1) / 60) run U chip_a chip_b X Y) where
  runs : (supply : UnitPower) → Supplies Lit supply → IsSupplied supply (went (log_of out) done).before run.next → PowerGoesOn (went (log_of out) done).before
  runs (IsLitBy (t ∷ span)) h power = power
  runs (IsLitBy []) h power = absurd h
  runs IsDueBy h power = absurd h
  runs IsLostBy h power = absurd h

  pub lit-ringed : RunRinged o done run out d → WithinRinged o done s 0 (minute_over run) out d
  lit-ringed h =
      let log : RunLog = log_of out in
      let before : Before = (went log done).before in
      let r = h.evented.recorded in
      let goes = runs r.supply (subst (λ (p : Power). Supplies p r.supply) lit r.powers) r.recorded.recorded.followed.power in
      let t : ToldSecond = second_told log before s in
      let second : IsSecond s before t = second-as log before s (going-power before s goes given) in
      let starts : t.starts ≡ false = second.starts ∙ ap not goes.running in
      let odometer : ℕ = run.keeper.odometer in
      let over : Bool = nat_eq (run.next % 60) 0 in
      let e = lit-evented o done s run out d U chip_a chip_b X Y lit number given low going h.evented in
      let now : RingedIn o done s log [] log h.spans odometer t (seats_of run) d = second-begins d o done s log h.spans odometer t (seats_of run)
      (subst (λ (n : ℕ). RingedBehind o done log n h.spans (seats_of run) d) (sym number) h.ringed) goes.running second in
      let rings : RingsWithin o done s log [] (minute_over run) log h.spans t d = record {
        base = subst (λ (n : ℕ). IsLastFrom n (with_second h.spans n t)) (sym (over-odometer over run)) (goes-last odometer h.spans t second.lit starts (h.base lit));
        counted = let was = h.counted in let noted = over-noted over run in omega (arith, was, noted);
        ringed = subst (λ (n : ℕ). RingedIn o done s log [] log h.spans n t (seats_of (minute_over run)) d) (sym (over-odometer over run))
            (subst (λ (seats : Card → Option Seating). RingedIn o done s log [] log h.spans odometer t seats d) (sym (over-seats over run)) now);
      } in
      let was : StoresOn o log run.unfound odometer h.spans = subst (λ (p : Power). Stores (is_lit p) o log run.unfound odometer h.spans d) lit h.stored in
      let unfound : run.unfound ≡ e.0.within.within.b.run.unfound = sym (over-unfound over run) ∙ e.0.within.within.unfound in
      let next : StoresOn o log e.0.within.within.b.run.unfound odometer (with_second h.spans odometer t) =
      subst (λ (n : ℕ). StoresOn o log n odometer (with_second h.spans odometer t)) unfound (stored-next o log run.unfound odometer odometer h.spans t second.lit starts was) in
      record {
        evented = e.0;
        front = [];
        rest = s.actions;
        are = refl;
        number = refl;
        spans = h.spans;
        told = t;
        rings = subst (λ (l : RunLog). RingsWithin o done s l [] (minute_over run) log h.spans t d) (sym e.1) rings;
        stored = subst (λ (l : RunLog). StoresOn o l e.0.within.within.b.run.unfound (minute_over run).keeper.odometer (with_second h.spans (minute_over run).keeper.odometer t)) (sym e.1)
            (subst (λ (n : ℕ). StoresOn o log e.0.within.within.b.run.unfound n (with_second h.spans n t)) (sym (over-odometer over run)) next);
      }
