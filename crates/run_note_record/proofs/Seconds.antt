-- The events that are carried between two seconds, over each kind of second.
use Rattle.std.proofs.Common.{◌≡◌, ℕ, suc, true, List, [], ◌∷◌, ◌++◌, All, Contains, take, refl, ap, sym, subst, ◌∙◌, append_assoc}
use Rattle.std.proofs.lemmas.List.Elements.{All-nil, All-cons}
use Rattle.run_devices.specs.trace_model.Trace.{TraceSecond}
use Rattle.run_devices.specs.run_model.declared.Device.{Device}
use Rattle.run_devices.specs.log_model.declared.lines.Break.{Break}
use Rattle.run_devices.specs.log_model.Log.{RunLog, Phase}
use Rattle.run_devices.specs.log_model.Causes.{second_of}
use Rattle.run_devices.specs.log_model.Same.{SameAt}
use Rattle.run_devices.specs.log_model.Course.{ToldSecond, Visit, Went, went}
use Rattle.run_devices.specs.event_model.Events.{Event, Seen, Tearing, seen_of, seen_spans}
use Rattle.run_devices.specs.note_model.Done.{has_failed_in}
use Rattle.run_devices.specs.note_model.Noted.{Note}
use Rattle.run_devices.specs.run_unit_course.Lines.{cut_at}
use Rattle.run_devices.specs.run_unit_course.Followed.{UnitPower, Lit, Due, Lost, MayPower, IsDark, cuts_from}
use Rattle.run_events.specs.unit_events.Shown.{all_kinds}
use Rattle.run_events.proofs.unit_events.Failing.{failed-found, failed-here}
use Rattle.run_devices.specs.safety_model.Safe.{Devices}
use Rattle.run_devices.specs.run_course.Moments.{and_break}
use Rattle.run_devices.specs.run_course.Followed.{Progress, BookFollowsRun}
use Rattle.run_devices.specs.run_course.Seconds.{GoesOnBy, next_told}
use Rattle.run_devices.proofs.run_course.Logs.{all-before, same-found, went-found, kept-found}
use Rattle.run_devices.specs.run_course.Moment.{Moment, goes_on}
use Rattle.run_devices.specs.run_course.Telling.{begun_by}
use Rattle.run_devices.proofs.run_course.Reached.{push-each}
use Rattle.run_devices.proofs.run_course.Telling.{second-ends_told, cut-ends_told}
use Rattle.run_events.specs.Shown.{by_kind, none_sure, all_sure, AreTheFirst}
use Rattle.run_events.specs.Seconds.{IsBehind, seen_next}
use Rattle.run_events.specs.Gaps.{IsUntold, HasGaps, TellsMore}
use Rattle.run_events.specs.Choice.{IsPlainFrom}
use Rattle.run_events.proofs.Gaps.{is-found, goes-on, breaks-off}
use Rattle.run_events.proofs.Ordered.{behind}
use Rattle.run_events.proofs.Quiet.{plain-behind}
use Rattle.run_events.proofs.Running.{lines-shown, second-shown, failed-shown}
use Rattle.run_devices.specs.run_promise.Origin.{Origin, rule_of, start_at, first_of}
use Rattle.run_devices.specs.run_promise.Beside.{HaveLeftMore}
use Rattle.run_devices.specs.run_promise.Seconds.{found_again}
use Rattle.run_note_record.specs.Opened.{AreOpenSo}
use Rattle.run_note_record.specs.Uses.{times_of, opened_on, uses_in, NoneFailedOn}
use Rattle.run_note_record.specs.Evented.{number_in, limit_in, Evented, EventedBy, NotesMore, EventsStay, EventsAreFound, tearing_now, sessions_now, brought_now, IsChosen, ASecondIsNoted, ASecondIsBroken}
use Rattle.run_note_record.proofs.Opened.{all-left}
use Rattle.run_note_record.proofs.Noted.{notes-alike}
use Rattle.run_note_record.proofs.Exact.{found-none, exact-on}
use Rattle.run_note_record.proofs.Lines.{untold-now, same-before, tells-so, front-same, early-before, number-next, sessions-on, low-cuts}

-- CALLS of which no event is told
same-tells : (log : RunLog) (unfound : ℕ) (done : List TraceSecond) → TellsMore log (take unfound log.breaks) log done
same-tells log unfound done = record { same = each done; stay = λ u is. is; known = λ u is. refl }
  where
    each : (ss : List TraceSecond) → All (λ (s : TraceSecond). SameAt log log s.number) ss
    each [] = All-nil (λ (s : TraceSecond). SameAt log log s.number)
    each (s ∷ ss) = All-cons (λ (s : TraceSecond). SameAt log log s.number) s ss (record { cut = refl; torn = λ p slot. refl; found = λ p slot. refl }) (each ss)

pub events-stay : (d e : Devices) → EventsStay d e
events-stay d e o done log unfound next supply v says left = record {
  tearing = v.tearing;
  sessions = v.sessions;
  plain = v.plain;
  events = lines-shown (number_in o) o.recording.unit (limit_in o) log log unfound supply done v.tearing v.sessions {U = d.unit} {V = e.unit} v.events v.gaps (same-tells log unfound done) says;
  gaps = v.gaps;
  found_open = all-left o (went log done).told done d e v.sessions left v.found_open;
  exact = v.exact;
}

-- POWER IS BACK
dark-by : (supply : UnitPower) (next : ℕ) → MayPower supply next → IsDark supply
dark-by (Lit span) next may = absurd may
dark-by Due next may = tt
dark-by Lost next may = tt

pub events-found : (d e : Devices) → EventsAreFound d e
events-found d e o done p f v may k says left =
    let later : RunLog = (found_again k p).log in
    let same : All (λ (s : TraceSecond). SameAt p.log later s.number) done = all-before (λ (u : ℕ). SameAt p.log later u) o.from done f.order (λ u lt. same-found p.log p.unfound k u) in
    let tells : TellsMore p.log (take p.unfound p.log.breaks) later done = record {
      same = same;
      stay = λ u is. failed-found p.unfound k p.log.breaks u ∙ is;
      known = λ u is. sym (kept-found p.log p.unfound k u is);
    } in
    record {
      tearing = v.tearing;
      sessions = v.sessions;
      plain = v.plain;
      events = lines-shown (number_in o) o.recording.unit (limit_in o) p.log later p.unfound p.supply done v.tearing v.sessions {U = d.unit} {V = e.unit} v.events v.gaps tells says;
      gaps = is-found p.log later p.unfound k p.supply done (dark-by p.supply p.next may) v.gaps same refl;
      found_open = subst (λ (ts : List ToldSecond). AreOpenSo o ts done e v.sessions) (sym (ap (λ (w : Went). w.told) (went-found p.log p.unfound k o.from done f.order))) (all-left o (went p.log done).told done d e v.sessions left v.found_open);
      exact = λ c none_failed valid.
          ap (λ (w : Went). opened_on c v.sessions w.told) (went-found p.log p.unfound k o.from done f.order)
          ∙ v.exact c (found-none o c (went p.log done).told p.unfound k p.log
          (subst (λ (w : Went). NoneFailedOn o later w.told c) (went-found p.log p.unfound k o.from done f.order) none_failed)) valid
          ∙ ap (λ (l : List Note). times_of (uses_in o c l)) (sym (notes-alike p.log later done same));
    }

-- ONE SECOND MORE
module _ (o : Origin) (done : List TraceSecond) (p : Progress) (f : BookFollowsRun (rule_of o) (start_at o) o.from (first_of o) done p) (d e : Devices) (v : EventedBy o done p d) (s : TraceSecond) (log : RunLog) (g : GoesOnBy p log s)
    (here : Tearing) (own : ℕ → Visit → ℕ) (choice : IsChosen o log done s here own e) (left : HaveLeftMore o d e) where
  abbrev x : Seen
  x = seen_next log done s

  plain-now : IsPlainFrom (suc p.next) (tearing_now s here v.tearing)
  plain-now = subst (λ (n : ℕ). IsPlainFrom (suc n) (tearing_now s here v.tearing)) g.number (plain-behind s.number here v.tearing (subst (λ (n : ℕ). IsPlainFrom n v.tearing) (sym g.number) v.plain))

  open-now : AreOpenSo o (went log (done ++ s ∷ [])).told (done ++ s ∷ []) e (sessions_now s own v.sessions)
  open-now = sessions-on o done p f s log g d e v.sessions own v.found_open left choice.found_open

  -- all that it brings was noted
  pub noted-on : (supply : UnitPower) → HasGaps log p.unfound supply (done ++ s ∷ []) → (more : List Event) → ((kind : ℕ) → Contains all_kinds kind → by_kind more kind ≡ brought_now o log done s here own kind) →
      NotesMore o all_sure (by_kind more) d e → Evented o (done ++ s ∷ []) log p.unfound (suc p.next) supply e
  noted-on supply gaps more are each = record {
    tearing = tearing_now s here v.tearing;
    sessions = sessions_now s own v.sessions;
    plain = plain-now;
    events = second-shown (number_in o) o.recording.unit (limit_in o) p.log log p.unfound p.supply done s v.tearing here v.sessions own {U = d.unit} v.events v.gaps (tells-so o done p f s log g) (early-before o done p f s log g) choice.fits {V = e.unit} more are each;
    gaps = gaps;
    found_open = open-now;
    exact = exact-on o done p f s log g v.sessions own v.exact choice.exact;
  }

  -- or a call failed in it
  behind-so : IsBehind (seen_spans (seen_of log done)) x
  behind-so = behind log o.from done s f.order (g.number ∙ f.next)

  pub broken-on : has_failed_in log s.number ≡ true → HasGaps log p.unfound Lost (done ++ s ∷ []) → (some : ℕ → List Event) → AreTheFirst some (brought_now o log done s here own) → NotesMore o none_sure some d e →
      Evented o (done ++ s ∷ []) log p.unfound (suc p.next) Lost e
  broken-on failed gaps some are each = record {
    tearing = tearing_now s here v.tearing;
    sessions = sessions_now s own v.sessions;
    plain = plain-now;
    events = failed-shown (number_in o) o.recording.unit (limit_in o) p.log log p.unfound p.supply done s v.tearing here v.sessions own {U = d.unit} v.events v.gaps (tells-so o done p f s log g) (early-before o done p f s log g) choice.fits failed behind-so {V = e.unit} some are each;
    gaps = gaps;
    found_open = open-now;
    exact = exact-on o done p f s log g v.sessions own v.exact choice.exact;
  }

pub second-noted : (d e : Devices) → ASecondIsNoted d e
second-noted d e o done p f v span is s log mid now m here own choice left more are each =
    let g : GoesOnBy p log s = goes_on m in
    let told = (second-ends_told (rule_of o) (start_at o) o.from (first_of o) done p f span is s log mid now m).0 in
    noted-on o done p f d e v s log g here own choice left (Lit (span ++ next_told log done s ∷ []))
    (goes-on p.log log p.unfound done s (same-before o done p f s log g) g.breaks.0 g.breaks.1 (front-same o done p f s log g) p.supply (Lit (span ++ next_told log done s ∷ [])) span span (next_told log done s) is refl v.gaps
    (ap (λ (t : ToldSecond). t.lit) told) (ap (λ (t : ToldSecond). t.starts) told))
    more are each

-- A CUT'S
module _ (o : Origin) (done : List TraceSecond) (p : Progress) (f : BookFollowsRun (rule_of o) (start_at o) o.from (first_of o) done p) (s : TraceSecond) (at : Phase) (log : RunLog) (waits : List Visit) (mid now : Device → ℕ)
    (m : Moment p (went p.log done).before s at log waits mid now) (k : ℕ) where
  abbrev cut : RunLog
  cut = and_break log (cut_at s.number true k)

  breaks-are : cut.breaks ≡ p.log.breaks ++ (m.breaks ++ cut_at s.number true k ∷ [])
  breaks-are = ap (λ (bs : List Break). bs ++ cut_at s.number true k ∷ []) m.breaks_are ∙ append_assoc p.log.breaks m.breaks (cut_at s.number true k ∷ [])

  pub cut-goes : GoesOnBy p cut s
  cut-goes = record {
    number = m.number;
    given = m.given;
    breaks = (m.breaks ++ cut_at s.number true k ∷ [], breaks-are, push-each (λ (b : Break). second_of b ≡ p.next) m.breaks (cut_at s.number true k) m.breaks_here m.number);
    finds = (m.finds, m.finds_are, m.finds_here);
  }

  pub cut-failed : has_failed_in cut s.number ≡ true
  cut-failed = failed-here log.breaks s.number k

  pub cut-untold : IsUntold cut (take p.unfound p.log.breaks) (seen_next cut done s ∷ [])
  cut-untold = untold-now p.log (cuts_from p.supply p.next) p.next p.unfound f.lines m.breaks m.uncut s.number (low-cuts o done p f s cut cut-goes) true k cut (seen_next cut done s) breaks-are (number-next o done p f s cut cut-goes)

pub second-broken : (d e : Devices) → ASecondIsBroken d e
second-broken d e o done p f v span is s at log waits mid now later m more broke rest is_left here own choice left some are each =
    let k : ℕ = begun_by s at in
    let cut : RunLog = and_break log (cut_at s.number true k) in
    let g : GoesOnBy p cut s = cut-goes o done p f s at log waits mid now m k in
    let told = (cut-ends_told (rule_of o) (start_at o) o.from (first_of o) done p f span is s at log waits mid now later m more broke rest is_left).0 in
    broken-on o done p f d e v s cut g here own choice left (cut-failed o done p f s at log waits mid now m k)
    (breaks-off p.log cut p.unfound done s (same-before o done p f s cut g) g.breaks.0 g.breaks.1 (front-same o done p f s cut g) p.supply span is v.gaps (ap (λ (t : ToldSecond). t.lit) told) (ap (λ (t : ToldSecond). t.starts) told)
    (cut-untold o done p f s at log waits mid now m k))
    some are each
