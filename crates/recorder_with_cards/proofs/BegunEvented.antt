-- A second begins behind one with power: nothing of its events is noted yet, and its span is watched.
use Rattle.std.proofs.Common.{◌≡◌, ◌∙◌, ◌-◌, ◌/◌, ◌%◌, ◌≤◌, Bool, true, false, cond, nat_eq, List, [], refl, ap, sym, subst}
use Rattle.trace_model.specs.Trace.{TraceSecond}
use Rattle.tach_media.specs.Medium.{State}
use Rattle.tach_media.specs.card_layout.declared.command.CardState.{CardState}
use Rattle.log_model.specs.Log.{RunLog, In}
use Rattle.log_model.specs.Course.{ToldSecond, went}
use Rattle.device_calls.specs.event_model.Events.{Seen, seen_of, seen_spans}
use Rattle.device_calls.specs.run_unit_course.Turn.{begins_with}
use Rattle.run_minutes.specs.unit_memory.declared.memory.UnitFacts.{UnitFacts}
use Rattle.device_calls.specs.safety_model.Safe.{Devices}
use Rattle.run_acts.specs.run_course.Followed.{Progress}
use Rattle.run_acts.proofs.run_course.Told.{lit-told}
use Rattle.run_acts.specs.run_events.Seconds.{last_of}
use Rattle.run_outcome.specs.declared.outcome.Outcome.{Outcome}
use Rattle.run_minutes.specs.run_promise.Origin.{Origin}
use Rattle.run_acts.specs.run_record.Recorded.{progress}
use Rattle.run_acts.specs.run_note_record.Evented.{EventedBy}
use Rattle.run_acts.specs.run_note_record.Noting.{Acting, stage_of}
use Rattle.run_acts.specs.run_note_record.EventsSoFar.{BeginsNow, EventedNow}
use Rattle.run_acts.proofs.run_note_record.Adding.{second-begins_now, power-now, starts-now}
use Rattle.run_acts.specs.run_events.declared.watch.Watch.{Watch}
use Rattle.run_acts.specs.declared.run.Run.{Run}
use Rattle.run_acts.specs.declared.run.Power.TheVariants.{Lit}
use Rattle.run_acts.specs.Power.{over_by, minute_over}
use Rattle.run_acts.specs.Going.{first_second, RunHasPowerAllSeated}
use Rattle.run_acts.specs.Recording.{log_of, values_of, RunWithin}
use Rattle.run_acts.specs.Evented.{IsWatching, span_of, span_seen, RunEvented, WithinEvented}
use Rattle.run_acts.proofs.FallEvented.{begins-now}
use Rattle.recorder_with_cards.proofs.GoingOn.{second-goes}

-- as a minute is over the unit's memory and the watch are as before
over-memory : (b : Bool) (run : Run) → (over_by b run).keeper.memory ≡ run.keeper.memory
over-memory true run = refl
over-memory false run = refl

over-watch : (b : Bool) (run : Run) → (over_by b run).watch ≡ run.watch
over-watch true run = refl
over-watch false run = refl

-- a second with power of a span that has begun comes behind all that this span had
pub span-goes : (o : Origin) (done : List TraceSecond) (p : Progress) (s : TraceSecond) {span : List ToldSecond} → BeginsNow o done p span s → begins_with span ≡ false → span_seen p done s ≡ span_of p.log done
span-goes o done p s {span} begins goes =
    ap (λ (b : Bool). cond b [] (last_of (seen_spans (seen_of p.log done)))) ((lit-told p.log (went p.log done).before s (power-now o done p span s begins)).starts ∙ starts-now o done p span s begins ∙ goes)

module _ (o : Origin) (done : List TraceSecond) (s : TraceSecond) (run : Run) (out : Outcome) (d : Devices) (U : State) (chip_a chip_b : CardState) (X Y : State) (lit : run.power ≡ Lit) (number : s.number ≡ run.next) (given : s.has_power ≡ true) (low : first_second ≤ run.next)
    (going : RunHasPowerAllSeated ((run.next - 1) / 60) run U chip_a chip_b X Y) where
  -- the second goes on by the log so far
  pub lit-evented : (h : RunEvented o done run out d) → (w : WithinEvented o done s (In 0) [] [] Acting (minute_over run) out d) × (w.within.within.b.run.log ≡ log_of out)
  lit-evented h =
      let g = second-goes o h.recorded.origin done s run h.recorded.vehicle out d U chip_a chip_b X Y lit number given low going h.recorded in
      let w : RunWithin o done s (In 0) [] [] (minute_over run) out d = g.0 in
      let p : Progress = w.within.b.run in
      let is : p ≡ progress (values_of run out) h.recorded.supply g.1 = g.2 in
      let log : p.log ≡ log_of out = ap (λ (q : Progress). q.log) is in
      let begins = begins-now o w.origin done s (In 0) (values_of (minute_over run) out) d w.within in
      let base : EventedBy o done p d = subst (λ (q : Progress). EventedBy o done q d) (sym is) h.evented in
      let now = second-begins_now d o done p w.within.b.span s begins base in (
        record {
          within = w;
          evented = subst (λ (l : RunLog). EventedNow o done s p Acting l d) log (subst (λ (b : Bool). EventedNow o done s p (stage_of b) p.log d) g.3 now);
          watches = record {
            limit = ap (λ (m : UnitFacts). m.limit) (over-memory (nat_eq (run.next % 60) 0) run) ∙ h.limit;
            watched = subst (λ (x : Watch). IsWatching o (span_seen p done s) x) (sym (over-watch (nat_eq (run.next % 60) 0) run))
                (subst (λ (xs : List Seen). IsWatching o xs run.watch) (sym (span-goes o done p s begins g.3 ∙ ap (λ (l : RunLog). span_of l done) log)) (h.watched lit));
          };
        },
        log,
      )
