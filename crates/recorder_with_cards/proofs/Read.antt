-- The unit is read as power comes: what was recorded is recorded still; the image decodes, and its last-kept minute is before this one.
use Rattle.std.proofs.Common.{◌≡◌, ◌∙◌, inl, inr, ⊎_elim, ℕ, ◌/◌, ◌%◌, ◌<◌, ◌≤◌, Bool, true, false, cond, ◌&&◌, Option, Some, None, IfSome, is_some, List, [], ◌∷◌, map, length, refl, ap, sym, subst, arith, append-nil, eqb-true}
use Rattle.std.specs.List.{list_all}
use Rattle.trace_model.specs.Trace.{TraceSecond}
use Rattle.tach_media.specs.Medium.{State, IsCoherent, LeavesOnly, Unchanged}
use Rattle.log_model.specs.declared.lines.Break.{Break}
use Rattle.log_model.specs.Course.{went}
use Rattle.device_calls.specs.history_model.Book.{all, IsMark}
use Rattle.device_calls.specs.device_rule.Views.{unit_view}
use Rattle.unit_minutes.specs.unit_model.Image.{last_kept, odometer_at}
use Rattle.unit_minutes.specs.unit_model.Decoding.{Check, checks, first_failing, first_bad_place, Decodes}
use Rattle.unit_minutes.specs.unit_model.Versions.{rule_by, rule_of}
use Rattle.run_minutes.specs.unit_memory.declared.memory.UnitFacts.{UnitFacts}
use Rattle.run_minutes.specs.unit_memory.Identified.{AreFacts}
use Rattle.minute_rules.specs.minute_model.declared.Rule.{Rule}
use Rattle.device_calls.specs.run_unit_course.Followed.{UnitPower, MayPower, Lit as IsLit, Due as IsDue, Lost as IsLost}
use Rattle.device_calls.specs.safety_model.Unit.{issued_bytes}
use Rattle.device_calls.proofs.unit_rule.Moves.{shown-last}
use Rattle.device_calls.proofs.unit_rule.Travelling.{travelled-read}
use Rattle.device_calls.specs.safety_model.Safe.{Devices, breakdowns_of}
use Rattle.run_minutes.specs.run_promise.Between.{RunLedger, devices}
use Rattle.run_acts.specs.run_course.Followed.{Progress}
use Rattle.run_minutes.proofs.run_devices.Power.{unread-powerless}
use Rattle.run_outcome.specs.Lines.{Listed, found_from}
use Rattle.run_outcome.specs.declared.outcome.Outcome.{Outcome}
use Rattle.run_minutes.specs.run_promise.Origin.{Origin}
use Rattle.run_minutes.specs.run_promise.Beside.{TellsMore, cards_of, HaveLeftMore}
use Rattle.run_minutes.specs.run_promise.Ends.{AreVerdicts, AreSpared}
use Rattle.run_minutes.proofs.run_promise.Seconds.{more-recorded}
use Rattle.run_minutes.proofs.run_promise.Beside.{found-tells, idle-verdicts, idle-spared, kept-later}
use Rattle.run_acts.specs.run_record.Recorded.{Values, progress, carried, RecordUnpowered, IsHeldBy, RecordBetweenSeconds}
use Rattle.run_acts.specs.run_record.Powering.{GoOn, read_values}
use Rattle.run_acts.proofs.run_record.Powering.{off-of}
use Rattle.run_acts.proofs.run_record.Known.{before-due}
use Rattle.run_acts.proofs.run_record.Calls.{goes-on}
use Rattle.run_acts.specs.declared.run.Run.{Run}
use Rattle.run_acts.specs.declared.run.Power.{Power}
use Rattle.run_acts.specs.declared.run.Power.TheVariants.{Lit, Due, Lost}
use Rattle.run_acts.specs.Power.{is_lit, has_power}
use Rattle.run_acts.specs.Recording.{Supplies, log_of, values_of}

-- ---- where power may come

pub may-of : (power : Power) (supply : UnitPower) (next : ℕ) → Supplies power supply → is_lit power ≡ false → has_power power next ≡ true → MayPower supply next
may-of Lit supply next h dark has = absurd (cc)
may-of Due (IsLit span) next h dark has = absurd h
may-of Due IsDue next h dark has = tt
may-of Due IsLost next h dark has = absurd h
may-of Lost (IsLit span) next h dark has = absurd h
may-of Lost IsDue next h dark has = absurd h
may-of Lost IsLost next h dark has = eqb-true (next % 60) 0 has

held-of : (o : Origin) (done : List TraceSecond) (supply : UnitPower) (v : Values) (w : RunLedger) (e : Devices) → MayPower supply v.next → RecordUnpowered o done v w e → IsHeldBy o done supply v w e
held-of o done (IsLit span) v w e may off = absurd may
held-of o done IsDue v w e may off = off
held-of o done IsLost v w e may off = off

-- ---- the rule by which it goes on

-- what is known of a unit tells its rule
pub rule-known : (image : Option (List ℕ)) (facts : UnitFacts) (rule : Rule) → IfSome image (AreFacts facts) → rule ≡ rule_by facts.rule_byte → IfSome image (λ x. rule ≡ rule_of x)
unfolding rule_of
rule-known (Some x) facts rule known is = is ∙ ap rule_by known.rule_byte
rule-known None facts rule known is = tt

-- ---- an image that decodes has no bad place

none-fails : (cs : List Check) → list_all (λ c. c.passes) cs ≡ true → first_failing cs ≡ None
none-fails [] all = refl
none-fails (c ∷ cs) all = by c.passes refl (none-fails cs)
  where
    by : (b : Bool) → c.passes ≡ b → (list_all (λ c. c.passes) cs ≡ true → first_failing cs ≡ None) → first_failing (c ∷ cs) ≡ None
    by true is rest = ap (λ (b : Bool). cond b (first_failing cs) (Some c.place)) is ∙ rest (sym (ap (λ (b : Bool). b && list_all (λ c. c.passes) cs) is) ∙ all)
    by false is rest = let bad : false ≡ true = sym (ap (λ (b : Bool). b && list_all (λ c. c.passes) cs) is) ∙ all in absurd (cc)

pub not-bad : (x : List ℕ) (place : ℕ) → Decodes x → first_bad_place x ≡ Some place → ⊥
unfolding Decodes first_bad_place
not-bad x place whole is = let none : first_failing (checks x) ≡ None = none-fails (checks x) whole in let bad : None ≡ Some place = sym none ∙ is in cc

-- ---- what is told

pub image-of : (image : Option (List ℕ)) → is_some image ≡ true → (x : List ℕ) × (image ≡ Some x)
image-of None tells = absurd (cc)
image-of (Some x) tells = (x, refl)

pub at-image : (P : List ℕ → Type 0) (image : Option (List ℕ)) (x : List ℕ) → image ≡ Some x → IfSome image P → P x
at-image P image x is h = subst (λ (q : Option (List ℕ)). IfSome q P) is h

-- WHAT IS RECORDED without power
module _ (o : Origin) (done : List TraceSecond) (supply : UnitPower) (v : Values) (d : Devices) (r : RecordBetweenSeconds o done supply v d) (may : MayPower supply v.next) where
  abbrev p : Progress
  p = progress v supply r.book

  abbrev w : RunLedger
  w = carried v r.due r.book r.standing r.brought r.hands r.firsts

  off : RecordUnpowered o done v w d
  off = off-of o done supply v w d may r.held

  pub unit-tells : is_some d.unit.image ≡ true
  unit-tells = off.powerless.carried.tells

  began : o.found.unit.began ≤ d.unit.clock
  began = (off.powerless.carried.unit.unit_holds [] []).later

  -- each image that the unit may have decodes
  pub unit-decodes : IsCoherent d.unit → (x : List ℕ) → d.unit.may_leave x → Decodes x
  unit-decodes whole x there = off.powerless.carried.unit.decodes x (whole.counts_now o.found.unit.began x began there)

  -- and has what the unit was issued with
  pub unit-issued : IsCoherent d.unit → (x : List ℕ) → d.unit.may_leave x → issued_bytes x ≡ o.found.unit.issued
  unit-issued whole x there = off.powerless.carried.unit.issued x (whole.counts_now o.found.unit.began x began there)

  -- and its last-kept minute is before that of the next second
  pub kept-early : (x : List ℕ) → d.unit.may_leave x → last_kept x < v.next / 60
  kept-early x there =
      let rule = off.powerless.carried.unit.unit_holds [] [] in
      let mark = subst (IsMark o.found.unit.first (all r.book)) (shown-last [] [] x) (rule.now (unit_view [] [] x) (x, there, refl)).mark in
      let low = before-due o.found.unit.first r.due (last_kept x) r.book rule.order mark in
      let due = off.due in
      omega (arith, low, due)

  -- IT IS READ
  module _ (V : State) (whole : IsCoherent d.unit) (run : LeavesOnly d.unit V Unchanged) (rise : d.unit.breakdowns ≤ V.breakdowns) where
    abbrev e : Devices
    e = devices V d.card_a d.card_b

    goes : GoOn o d e
    goes = goes-on o d V rise run.tells (λ x left. run.keeps o.found.unit.began x began left)

    same : TellsMore (went v.log done).told (went v.log done).told [] v.next
    same = record {
      same = sym (append-nil (map cards_of (went v.log done).told));
      before = (found-tells o done p r.recorded.followed 0).before;
      behind = tt;
    }

    verdicts : AreVerdicts o done v.log v.unfound v.marks e
    verdicts = idle-verdicts o done done v.log v.log v.unfound v.unfound v.marks d e [] v.next r.beside.verdicts goes.left same tt
        (kept-later (d.unit.left_since o.found.unit.began) (e.unit.left_since o.found.unit.began) goes.left.unit v.unfound v.log.breaks r.beside.verdicts.kept)

    spared : AreSpared o done v.log e
    spared = idle-spared o done done v.log v.log d e [] v.next r.beside.spared same tt (λ c whole. inl (goes.untouched c whole))

    -- what was left might be left still
    pub left-on : HaveLeftMore o d (devices V d.card_a d.card_b)
    left-on = goes.left

    pub read-on : RecordBetweenSeconds o done supply v (devices V d.card_a d.card_b)
    read-on = record {
      book = r.book;
      travel = r.travel;
      odometer = r.odometer;
      due = r.due;
      standing = r.standing;
      brought = r.brought;
      hands = r.hands;
      firsts = r.firsts;
      handed = r.handed;
      recorded = more-recorded o done p r.travel v.marks v.marks (breakdowns_of d) (breakdowns_of e) r.brought r.recorded (λ device m marked. marked) goes.breakdowns;
      beside = record { verdicts = verdicts; spared = spared; travels = travelled-read (odometer_at o.recording.unit) r.book r.travel r.beside.travels whole run };
      few = r.few;
      written = λ c. ⊎_elim (λ whole. inl (goes.untouched c whole)) (λ written. inr written) (r.written c);
      found = r.found;
      early = r.early;
      there = goes.there r.there;
      held = held-of o done supply v w e may (record {
        powerless = unread-powerless o.found w d V r.found.two whole off.powerless run;
        due = off.due;
        tells = off.tells;
        bare = off.bare;
        driver = off.driver;
        codriver = off.codriver;
      });
    }

-- ---- what the unit's journal tells of the cuts before

pub learned : (old new : Run) (before : Outcome) (breaks : Listed Break) (kept : ℕ) → new ≡ record old { unfound = length before.breaks.items } → breaks ≡ record { items = found_from old.unfound kept before.breaks.items; room = before.breaks.room } →
    length breaks.items ≡ length before.breaks.items → values_of new (record before { breaks = breaks }) ≡ read_values kept (values_of old before)
learned old new before breaks kept run told same =
    ap (λ (r : Run). values_of r (record before { breaks = breaks })) run
    ∙ ap (λ (n : ℕ). record (values_of old (record before { breaks = breaks })) { unfound = n }) (sym same ∙ ap (λ (l : Listed Break). length l.items) told)
    ∙ ap (λ (l : Listed Break). record (values_of old before) { log = record (log_of before) { breaks = l.items }; unfound = length (found_from old.unfound kept before.breaks.items) }) told
