-- A card is torn out in an action or in the keeping: what that adds.
use Rattle.std.proofs.Common.{◌≡◌, true, List, [], ◌∷◌, ◌++◌, Contains, is_some, refl, ap, sym, subst, ◌∙◌, arith}
use Rattle.run_devices.specs.log_model.declared.lines.Verdict.{Verdict}
use Rattle.run_devices.specs.log_model.Log.{RunLog, is_torn_in}
use Rattle.run_devices.specs.log_model.Slots.{other_slot}
use Rattle.run_devices.specs.log_model.Course.{Visit, Before, has_power, went}
use Rattle.run_devices.specs.event_model.Events.{Event, Seen, Tearing, fault_of, seen_by}
use Rattle.run_devices.specs.safety_model.Safe.{Devices}
use Rattle.run_devices.specs.run_course.Moments.{and_break}
use Rattle.run_devices.specs.run_course.Reached.{Reaches}
use Rattle.run_devices.proofs.run_course.Reached.{lines-reached}
use Rattle.run_events.specs.Shown.{by_kind}
use Rattle.run_events.specs.Seconds.{seen_next}
use Rattle.run_note_record.specs.Evented.{brought_now}
use Rattle.run_note_record.specs.Noting.{Waking, Acting}
use Rattle.run_note_record.specs.EventsSoFar.{FitsSoFar, fault_with, crew_at, ATearAdds}
use Rattle.run_note_record.specs.Bringing.{ChoiceBefore, TornSecond}
use Rattle.run_note_record.proofs.Bringing.{apart-of, fault-left, torn-first, accepted-first, found-alike, tear-brings}
use Rattle.run_note_record.proofs.Choices.{first_of_two, by-gap-kept, choice-first, torn-second, put-kept}
use Rattle.run_note_record.proofs.UsesSoFar.{tear-uses, tear-stays}
use Rattle.run_note_record.proofs.Adding.{power-now, next-as, fits-now, open-now, exact-still, added-by, aside-acting}

awake : Acting ≡ Waking → ⊥
awake is = absurd (cc)

pub tear-adds : (d : Devices) → ATearAdds d
tear-adds d o done p span s b at log r slot card line tear untorn out none follow = record {
  kinds = ((7, omega arith, refl), tt);
  on = λ more v.
      let before : Before = (went p.log done).before in
      let later : RunLog = and_break log line in
      let r_later : Reaches p s at later = (lines-reached p s at log r).0 slot true line tear in
      let here : Tearing = first_of_two at slot (is_torn_in log s.number at (other_slot slot)) s.number v.here in
      let choice : ChoiceBefore v.here here s.number at = choice-first at slot (is_torn_in log s.number at (other_slot slot)) s.number v.here in
      let second : TornSecond at slot log s.number here = torn-second at slot log s v.here follow in
      let power : has_power before s ≡ true = power-now o done p span s b in
      let apart = apart-of at slot log s.number here second in
      let visit : Visit = record { phase = at; slot = slot; card = card } in
      let fault : fault_of here later (seen_next later done s) visit ≡ fault_with s.number slot (crew_at p done s at log) =
      ap (λ (x : Seen). fault_of here later x visit) (next-as o done p span s b later r_later.goes)
      ∙ fault-left log before s at power r.is r.up_to slot card true line tear r_later.up_to untorn apart v.here here choice second none out in
      let f : FitsSoFar Acting s v.here (seen_by log before s) = fits-now o done p span s b Acting log later r.goes r_later.goes d more (fault_with s.number slot (crew_at p done s at log) ∷ []) v in
      let torn = torn-first log before s at power r.is r.up_to slot card true line tear r_later.up_to untorn apart v.here here choice second none out in
      let accepted = accepted-first log before s at power r.is r.up_to slot card true line tear r_later.up_to untorn apart v.here here choice second none out in
      let found = found-alike log before s at power r.is r.up_to slot card true line tear r_later.up_to untorn apart v.here here choice second none out in
      added-by o done p span s b Acting log later r.goes r_later.goes d more (fault_with s.number slot (crew_at p done s at log) ∷ []) v here v.own
      (λ kind there told. tear-brings o done p b.followed span b.lit s at log r slot card line tear untorn out v.here here v.own choice second none kind there told
      ∙ ap (λ (e : Event). brought_now o log done s v.here v.own kind ++ by_kind (e ∷ []) kind) fault)
      (aside-acting (fault_with s.number slot (crew_at p done s at log) ∷ []) refl refl)
      (record {
        put_in = put-kept at slot log s v.here follow f.put_in;
        still = λ sl rest is_torn is_accepted. by-gap-kept at slot (is_torn_in log s.number at (other_slot slot)) s.number v.here s.number sl
            ∙ f.still sl rest (sym (torn sl) ∙ is_torn) (sym (ap is_some (accepted sl)) ∙ is_accepted);
        before = λ sl nobody. by-gap-kept at slot (is_torn_in log s.number at (other_slot slot)) s.number v.here s.number sl ∙ f.before sl (sym (accepted sl) ∙ nobody);
        waking = λ is. absurd (awake is);
      })
      (λ e there accepts. open-now o done p span s b Acting log later r.goes r_later.goes d more (fault_with s.number slot (crew_at p done s at log) ∷ []) v e (subst (λ (fs : List (Visit × Verdict)). Contains fs e) found there) accepts)
      (exact-still o done p span s b log later r.goes v.own (line ∷ []) refl (tear-stays log before s at power r.is r.up_to slot true line tear r_later.up_to untorn)
      (tear-uses o p.log done s power log at r.is r.up_to slot true line tear r_later.up_to untorn) found v.exact_now);
}
