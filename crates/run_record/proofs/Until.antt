-- Up to which minute a second has decided: none that is later than its own, all before that one behind a settling, and all but a few of them.
use Rattle.std.proofs.Common.{◌≡◌, ℕ, ◌+◌, ◌/◌, ◌≤◌, None, List, [], ◌∷◌, ◌++◌, length, ap, sym, subst, ◌∙◌, arith, length-append}
use Rattle.run_devices.specs.trace_model.Trace.{TraceSecond}
use Rattle.minute_rules.specs.minute_model.declared.Rule.{Rule}
use Rattle.minute_rules.specs.minute_model.declared.Rule.TheVariants.{Original, Amended}
use Rattle.minute_rules.specs.minute_model.declared.Minute.{Minute}
use Rattle.minute_rules.specs.minute_model.Minute.{minutes_ahead}
use Rattle.minute_rules.specs.minute_model.Span.{Span, end_of, settled, decided_in, ungiven_of}
use Rattle.minute_rules.proofs.minute_model.Counted.{ungiven-most, ungiven-settled}
use Rattle.minute_rules.specs.Kept.{Kept, CountsSpan}
use Rattle.run_devices.specs.log_model.Log.{Phase}
use Rattle.run_devices.specs.log_model.Course.{ToldSecond, Visit}
use Rattle.run_devices.specs.history_model.Presence.{Start}
use Rattle.run_devices.proofs.history_model.Deciding.{counted}
use Rattle.run_devices.specs.run_unit_course.Followed.{UnitPower, Lit}
use Rattle.run_devices.specs.run_unit_course.Turn.{span_at}
use Rattle.run_devices.specs.safety_model.Safe.{Devices}
use Rattle.run_devices.specs.run_course.Followed.{Progress, BookFollowsRun}
use Rattle.run_devices.proofs.run_course.Steps.{span-end}
use Rattle.run_devices.proofs.run_course.Kept.{times-end}
use Rattle.run_devices.specs.run_promise.Origin.{Origin, rule_of, start_at, first_of}
use Rattle.run_record.specs.Recorded.{Values}
use Rattle.run_record.specs.Within.{RecordInSecond}
use Rattle.run_record.proofs.Feeding.{decided-many}

-- a span so far ends with the next second
base-end : (rule : Rule) (start : Start) (from first : ℕ) (done : List TraceSecond) (p : Progress) → BookFollowsRun rule start from first done p → (span : List ToldSecond) → p.supply ≡ Lit span → end_of (span_at rule p.next span) ≡ p.next
base-end rule start from first done p g [] is = omega arith
base-end rule start from first done p g (t ∷ span) is =
    let f = subst (λ (s : UnitPower). BookFollowsRun rule start from first done (record p { supply = s })) is g in
    let end = span-end p.log from done f.ended t span p.next f.order f.next f.power.running f.spans in
    let n = counted (t ∷ span) in
    omega (arith, end, n)

ahead-few : (rule : Rule) → minutes_ahead rule ≤ 3
ahead-few Original = omega arith
ahead-few Amended = omega arith

span-few : (span : Span) → end_of span / 60 ≤ ungiven_of span + 3
span-few span = let few = ahead-few span.rule in omega (arith, few)

module _ (o : Origin) (done : List TraceSecond) (s : TraceSecond) (at : Phase) (waits : List Visit) (rest : List Minute) (v : Values) (d : Devices) (w : RecordInSecond o done s at waits None rest v d) where
  abbrev base : Span
  base = span_at (rule_of o) w.b.run.next w.b.span

  pub now-end : end_of w.sp ≡ s.number
  now-end =
      ap end_of w.decided.span_is ∙ times-end w.decided.times base ∙ base-end (rule_of o) (start_at o) o.from (first_of o) done w.b.run w.began.followed w.b.span w.lit ∙ sym w.moment.number

  -- not later than now
  pub up-to : w.from + length rest ≤ s.number / 60
  up-to =
      subst (λ (n : ℕ). w.from + length rest ≤ n / 60) now-end
      (subst (λ (n : ℕ). n ≤ end_of w.sp / 60) (sym w.until) (ungiven-most w.sp w.minutes.settled))

  -- and few are left
  pub few-left : s.number / 60 ≤ w.from + length rest + 3
  few-left =
      subst (λ (n : ℕ). n / 60 ≤ w.from + length rest + 3) now-end
      (subst (λ (n : ℕ). end_of w.sp / 60 ≤ n + 3) (sym w.until) (span-few w.sp))

  -- what a settling decides, where nothing was left
  pub settles-to : (minutes : Kept) → CountsSpan minutes (settled w.sp) → (decided : List Minute) → decided_in (settled w.sp) ≡ decided_in w.sp ++ decided → rest ≡ [] → w.from + length decided ≡ ungiven_of (settled w.sp)
  settles-to minutes stands decided is none =
      let before = decided-many w.sp v.minutes w.minutes in
      let behind = decided-many (settled w.sp) minutes stands in
      let count = ap (λ (ds : List Minute). length ds) is in
      let parts = length-append (decided_in w.sp) decided in
      let here = w.until in
      let zero_ = ap (λ (ds : List Minute). length ds) none in
      let low : w.sp.first / 60 ≤ ungiven_of w.sp = omega arith in
      let high : w.sp.first / 60 ≤ ungiven_of (settled w.sp) = omega arith in
      omega (arith, before, behind, count, parts, here, zero_, low, high)

  pub settles-here : (minutes : Kept) → CountsSpan minutes (settled w.sp) → (decided : List Minute) → decided_in (settled w.sp) ≡ decided_in w.sp ++ decided → rest ≡ [] → w.from + length decided ≡ s.number / 60
  settles-here minutes stands decided is none = settles-to minutes stands decided is none ∙ ungiven-settled w.sp w.minutes.settled ∙ ap (λ (n : ℕ). n / 60) now-end
