-- Power comes with a second, and the unit fails before its span begins: what it has stored of odometers stands, and the span is that second alone.
use Rattle.std.proofs.Common.{◌≡◌, ◌∙◌, ℕ, ◌≤◌, Bool, true, false, cond, not, Option, Some, None, is_some, List, [], ◌∷◌, ◌++◌, take, refl, ap, sym, subst, arith, append-nil}
use Rattle.std.proofs.lemmas.List.Elements.{Contains-append_left}
use Rattle.trace_model.specs.Trace.{TraceSecond}
use Rattle.minute_rules.specs.minute_model.Activity.{last}
use Rattle.unit_minutes.specs.unit_model.Image.{last_kept, odometer_at}
use Rattle.log_model.specs.Log.{cut_in}
use Rattle.log_model.specs.Course.{ToldSecond, Went, has_power, went, second_told}
use Rattle.device_calls.specs.history_model.History.{cut_second}
use Rattle.device_calls.specs.run_unit_course.Lines.{cut_at, tells_cut}
use Rattle.device_calls.specs.run_unit_course.Followed.{UnitPower, Lit, Due, Lost, cuts_from}
use Rattle.device_calls.proofs.run_unit_course.Lines.{tells-here}
use Rattle.device_calls.specs.note_model.Odometer.{SpanFrom, MayStore}
use Rattle.device_calls.specs.safety_model.Safe.{Devices}
use Rattle.run_acts.specs.run_course.Followed.{Progress, BookFollowsRun, Comes}
use Rattle.run_acts.specs.run_course.Seconds.{GoesOnBy}
use Rattle.run_acts.proofs.run_course.Logs.{tells-none, breaks-front}
use Rattle.run_acts.proofs.run_course.Steps.{went-same_}
use Rattle.run_acts.proofs.run_course.Told.{comes-power}
use Rattle.run_acts.proofs.run_events.Later.{told-number}
use Rattle.run_acts.proofs.run_course.Reached.{TellsNothing, nothing-told}
use Rattle.run_minutes.specs.run_promise.Origin.{Origin, rule_of, start_at, first_of}
use Rattle.run_acts.specs.run_note_record.Stored.{StandsOn, StoresOff}
use Rattle.run_acts.specs.run_note_record.Steps.{spans_cut}
use Rattle.run_acts.proofs.run_note_record.Stored.{may-more}
use Rattle.run_acts.proofs.run_note_record.Bases.{with-first, stored-ends, failed-here, stored-unread}
use Rattle.run_acts.specs.RunRinged.{with_cut}
use Rattle.run_acts.proofs.RingedSecond.{cut-is}

cuts-below : (supply : UnitPower) (next : ℕ) → cuts_from supply next ≤ next
cuts-below (Lit []) next = omega arith
cuts-below (Lit (t ∷ span)) next = omega arith
cuts-below Due next = omega arith
cuts-below Lost next = omega arith

module _ (o : Origin) (done : List TraceSecond) (s : TraceSecond) (p : Progress) (f : BookFollowsRun (rule_of o) (start_at o) o.from (first_of o) done p) (comes : Comes (went p.log done).before p.next) (number : s.number ≡ p.next) (given : s.has_power ≡ true)
    (spans : List SpanFrom) (e : Devices) where
  none : TellsNothing p.log s.number
  none = nothing-told (rule_of o) (start_at o) o.from (first_of o) done p f s.number (omega (arith, number))

  goes : GoesOnBy p (with_cut p.log s []) s
  goes = record { number = number; given = given; breaks = (cut_at s.number true 0 ∷ [], refl, (number, tt)); finds = ([], sym (append-nil p.log.finds), tt) }

  same : went (with_cut p.log s []) done ≡ went p.log done
  same = went-same_ (rule_of o) (start_at o) o.from (first_of o) done p f.order f.next f.unfound s (with_cut p.log s []) goes

  power : has_power (went (with_cut p.log s []) done).before s ≡ true
  power = ap (λ (g : Went). has_power g.before s) same ∙ comes-power (went p.log done).before s p.next comes number given

  -- the second as the cut leaves it
  abbrev t : ToldSecond
  t = second_told (with_cut p.log s []) (went (with_cut p.log s []) done).before s

  here : t.second.number ≡ s.number
  here = told-number (with_cut p.log s []) (went (with_cut p.log s []) done).before s

  is-lit : t.lit ≡ true
  is-lit = let is : (second_told (with_cut p.log s []) (went (with_cut p.log s []) done).before s).lit ≡ true = rw power refl in is

  begins : t.starts ≡ true
  begins =
      (let is : (second_told (with_cut p.log s []) (went (with_cut p.log s []) done).before s).starts ≡ not (went (with_cut p.log s []) done).before.running = rw power refl in is)
      ∙ ap (λ (g : Went). not g.before.running) same ∙ ap not comes.running

  is-cut : t.cut ≡ true
  is-cut =
      (let is : (second_told (with_cut p.log s []) (went (with_cut p.log s []) done).before s).cut ≡ is_some (cut_in (with_cut p.log s []) s.number) = rw power refl in is)
      ∙ ap (λ (c : Option ℕ). is_some c) (cut-is p.log s.number 0 none.cut)

  ends : cut_second (last (t ∷ [])) ≡ Some s.number
  ends = by t.cut is-cut
    where
      by : (c : Bool) → c ≡ true → cond c (Some t.second.number) None ≡ Some s.number
      by true is = ap (λ (n : ℕ). Some n) here
      by false is = absurd (cc)

  absent : tells_cut s.number (take p.unfound p.log.breaks) ≡ false
  absent =
      let low = cuts-below p.supply p.next in
      tells-none (cuts_from p.supply p.next) p.next (take p.unfound p.log.breaks) s.number (breaks-front (cuts_from p.supply p.next) p.next p.unfound p.log.breaks f.lines.breaks) (omega (arith, low, number))

  spans-are : (base : ℕ) → spans_cut spans base (with_cut p.log s []) done s ≡ spans ++ record { base = base; span = t ∷ [] } ∷ []
  spans-are base = with-first spans base t is-lit begins

  -- it was read, and its mending failed
  pub unmended-stored : (base : ℕ) → StandsOn o p.log p.unfound spans base →
      ((x : List ℕ) → e.unit.may_leave x → MayStore (rule_of o) (odometer_at o.recording.unit) (first_of o) spans (last_kept x) (odometer_at x)) → StoresOff o (with_cut p.log s []) p.unfound (spans_cut spans base (with_cut p.log s []) done s) e
  unmended-stored base stands stores =
      subst (λ (ss : List SpanFrom). StoresOff o (with_cut p.log s []) p.unfound ss e) (sym (spans-are base))
      (stored-ends o p.log (with_cut p.log s []) p.unfound spans base (t ∷ []) s.number e f.unfound (cut_at s.number true 0 ∷ [], refl) stands ends (tells-here p.log.breaks s.number true 0) absent
      (λ x on. may-more (rule_of o) (odometer_at o.recording.unit) (first_of o) spans (spans ++ record { base = base; span = t ∷ [] } ∷ []) (last_kept x) (odometer_at x)
      (λ q at. Contains-append_left spans (record { base = base; span = t ∷ [] } ∷ []) q at) (stores x on)))

  -- it was not read
  pub unread-stored : (x : List ℕ) → e.unit.may_leave x → StoresOff o p.log p.unfound spans e → StoresOff o (with_cut p.log s []) p.unfound (spans_cut spans (odometer_at x) (with_cut p.log s []) done s) e
  unread-stored x on h =
      subst (λ (ss : List SpanFrom). StoresOff o (with_cut p.log s []) p.unfound ss e) (sym (spans-are (odometer_at x)))
      (stored-unread o p.log (with_cut p.log s []) p.unfound spans e t s.number x f.unfound (cut_at s.number true 0 ∷ [], refl) here is-cut (failed-here p.log s.number 0) (tells-here p.log.breaks s.number true 0) absent on h)
