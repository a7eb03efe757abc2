-- Seconds with power in which nothing happens bring no event.
use Rattle.std.proofs.Common.{◌≡◌, ⊎_elim, ℕ, zero, suc, ◌+◌, ◌≤◌, Bool, true, false, cond, Option, None, List, [], ◌∷◌, ◌++◌, All, Contains, refl, ap, sym, subst, ◌∙◌, arith, append_assoc, append-nil}
use Rattle.std.specs.List.{AllByRecursion, cons_option, filter_map}
use Rattle.std.proofs.lemmas.List.{same_from_push, append_cancel_left}
use Rattle.std.proofs.lemmas.List.Sums.{fold-append}
use Rattle.std.proofs.lemmas.List.Elements.{All-nil, All-cons, Contains-push_cases, Contains-append_cases}
use Rattle.run_devices.specs.trace_model.Trace.{TraceSecond, driven}
use Rattle.run_devices.specs.log_model.declared.lines.Verdict.{Verdict}
use Rattle.run_devices.specs.log_model.Log.{RunLog}
use Rattle.run_devices.specs.log_model.Same.{SameAt}
use Rattle.run_devices.specs.log_model.Slots.{Slots}
use Rattle.run_devices.specs.log_model.Course.{ToldSecond, Visit, Went, second_told, went}
use Rattle.run_devices.proofs.log_model.Growth.{went-more}
use Rattle.run_devices.specs.event_model.Runs.{run_with, last_run, runs_behind}
use Rattle.run_devices.specs.event_model.Events.{Event, Seen, number_of, seen_of, seen_spans, is_bare, bare_event, over_event}
use Rattle.run_devices.specs.note_model.Noted.{Note}
use Rattle.run_devices.specs.run_unit_course.Followed.{UnitPower, Lit}
use Rattle.run_devices.specs.safety_model.Safe.{Devices}
use Rattle.run_devices.specs.run_course.Followed.{Progress, BookFollowsRun}
use Rattle.run_devices.specs.run_course.Quiet.{quiet_second, quiet_seconds}
use Rattle.run_devices.proofs.run_course.Quiet.{quiet-are-told}
use Rattle.run_devices.proofs.run_course.Reached.{push-each}
use Rattle.run_events.specs.Seconds.{last_of, bares_by, overs_by, is_fast, IsQuiet, seen_next}
use Rattle.run_events.specs.Gaps.{HasGaps}
use Rattle.run_events.proofs.Gaps.{goes-on}
use Rattle.run_events.proofs.Growing.{seen-more}
use Rattle.run_events.proofs.Later.{told-number}
use Rattle.run_events.proofs.Quiet.{quiet-shown}
use Rattle.run_devices.specs.run_promise.Origin.{Origin, rule_of, start_at, first_of}
use Rattle.run_devices.specs.safety_model.Recording.{card_image}
use Rattle.run_note_record.proofs.Opened.{first-more}
use Rattle.run_note_record.specs.Opened.{IsFirst}
use Rattle.run_note_record.specs.Evented.{number_in, limit_in}
use Rattle.run_note_record.specs.Going.{QuietSecondsBringNothing, SecondsAlikeEndNothing}
use Rattle.run_note_record.proofs.Dark.{says-same}
use Rattle.run_note_record.specs.Uses.{times_of, opened_on, notes_in, uses_in, NoneFailedOn}
use Rattle.run_note_record.proofs.Exact.{torn-front, failed-fewer, next-notes, idle-notes, opened-append, all-none}
use Rattle.run_note_record.proofs.Unlit.{plain-last, behind-more}

-- ---- quiet seconds

quiet-last : (n number speed : ℕ) (slots : Slots) → quiet_seconds (suc n) number speed slots ≡ quiet_seconds n number speed slots ++ quiet_second (number + n) speed slots ∷ []
quiet-last zero number speed slots = ap (λ (k : ℕ). quiet_second k speed slots ∷ []) (let e : number ≡ number + 0 = omega arith in e)
quiet-last (suc n) number speed slots =
    ap (λ (ts : List ToldSecond). quiet_second number speed slots ∷ ts)
    (quiet-last n (number + 1) speed slots ∙ ap (λ (k : ℕ). quiet_seconds n (number + 1) speed slots ++ quiet_second k speed slots ∷ []) (let e : number + 1 + n ≡ number + suc n = omega arith in e))

quiet-found : (n number speed : ℕ) (slots : Slots) (t : ToldSecond) → Contains (quiet_seconds n number speed slots) t → t.course.found ≡ []
quiet-found zero number speed slots t there = absurd (omega (arith, there.1))
quiet-found (suc n) number speed slots t there = ⊎_elim
    (λ here. ⊎_elim (λ nowhere. absurd (omega (arith, nowhere.1))) (λ (is : quiet_second number speed slots ≡ t). ap (λ (y : ToldSecond). y.course.found) (sym is)) (Contains-push_cases [] (quiet_second number speed slots) t here))
    (λ behind. quiet-found n (number + 1) speed slots t behind)
    (Contains-append_cases (quiet_second number speed slots ∷ []) (quiet_seconds n (number + 1) speed slots) t there)

all-same : (log : RunLog) (ss : List TraceSecond) → All (λ (s : TraceSecond). SameAt log log s.number) ss
all-same log [] = All-nil (λ (s : TraceSecond). SameAt log log s.number)
all-same log (s ∷ ss) = All-cons (λ (s : TraceSecond). SameAt log log s.number) s ss (record { cut = refl; torn = λ p slot. refl; found = λ p slot. refl }) (all-same log ss)

module _ (o : Origin) (done : List TraceSecond) (p : Progress) (f : BookFollowsRun (rule_of o) (start_at o) o.from (first_of o) done p) (t : ToldSecond) (span : List ToldSecond) (is : p.supply ≡ Lit (t ∷ span)) (speed : ℕ) where
  abbrev log : RunLog
  log = p.log

  abbrev slots : Slots
  slots = (went p.log done).before.slots

  abbrev plain_second : ℕ → TraceSecond
  plain_second n = record { number = p.next + n; has_power = true; speed = speed; actions = [] }

  told-all : (n : ℕ) → went log (done ++ driven n p.next speed []) ≡ record { told = (went log done).told ++ quiet_seconds n p.next speed slots; before = (went log done).before }
  told-all n = quiet-are-told (rule_of o) (start_at o) o.from (first_of o) done p f t span is n speed

  more-is : (n : ℕ) → (done ++ driven n p.next speed []) ++ plain_second n ∷ [] ≡ done ++ driven (suc n) p.next speed []
  more-is n = behind-more done (driven n p.next speed []) (driven (suc n) p.next speed []) (plain_second n) (plain-last n p.next speed)

  -- each is a quiet one
  told-is : (n : ℕ) → second_told log (went log (done ++ driven n p.next speed [])).before (plain_second n) ≡ quiet_second (p.next + n) speed slots
  told-is n =
      let y : ToldSecond = second_told log (went log (done ++ driven n p.next speed [])).before (plain_second n) in
      (same_from_push ((went log (done ++ driven n p.next speed [])).told) ((went log done).told ++ quiet_seconds n p.next speed slots) y (quiet_second (p.next + n) speed slots)
      (sym (ap (λ (w : Went). w.told) (went-more log (done ++ driven n p.next speed []) (plain_second n)))
      ∙ ap (λ (ss : List TraceSecond). (went log ss).told) (more-is n)
      ∙ ap (λ (w : Went). w.told) (told-all (suc n))
      ∙ ap (λ (ts : List ToldSecond). (went log done).told ++ ts) (quiet-last n p.next speed slots)
      ∙ sym (append_assoc (went log done).told (quiet_seconds n p.next speed slots) (quiet_second (p.next + n) speed slots ∷ [])))).1

  -- and notes nothing
  pub notes-on : (n : ℕ) → notes_in log (done ++ driven n p.next speed []) ≡ notes_in log done
  notes-on zero = ap (notes_in log) (append-nil done)
  notes-on (suc n) =
      let front : List TraceSecond = done ++ driven n p.next speed [] in
      ap (notes_in log) (sym (more-is n)) ∙ next-notes log front (plain_second n)
      ∙ (λ i. notes-on n i ++ idle-notes log (went log front).before (plain_second n) refl (ap (λ (y : ToldSecond). y.course.found) (told-is n)) i)
      ∙ append-nil (notes_in log done)

  record UpTo (n : ℕ) : Type 0 where
    seen : List Seen
    are : seen_of log (done ++ driven n p.next speed []) ≡ seen_of log done ++ seen
    quiet : AllByRecursion IsQuiet seen
    from : AllByRecursion (λ (x : Seen). p.next ≤ number_of x) seen
    gaps : HasGaps log p.unfound (Lit ((t ∷ span) ++ quiet_seconds n p.next speed slots)) (done ++ driven n p.next speed [])

  up-to : HasGaps log p.unfound p.supply done → (n : ℕ) → UpTo n
  up-to g zero = record {
    seen = [];
    are = ap (seen_of log) (append-nil done) ∙ sym (append-nil (seen_of log done));
    quiet = tt;
    from = tt;
    gaps = subst (λ (ss : List TraceSecond). HasGaps log p.unfound (Lit ((t ∷ span) ++ [])) ss) (sym (append-nil done))
        (subst (λ (ts : List ToldSecond). HasGaps log p.unfound (Lit ts) done) (sym (append-nil (t ∷ span))) (subst (λ (s : UnitPower). HasGaps log p.unfound s done) is g));
  }
  up-to g (suc n) =
      let u = up-to g n in
      let front : List TraceSecond = done ++ driven n p.next speed [] in
      let s : TraceSecond = plain_second n in
      let x : Seen = seen_next log front s in
      let told : x.told ≡ quiet_second (p.next + n) speed slots = told-is n in
      let number : number_of x ≡ p.next + n = told-number log (went log front).before s in
      record {
        seen = u.seen ++ x ∷ [];
        are = ap (seen_of log) (sym (more-is n)) ∙ seen-more log front s ∙ ap (λ (ys : List Seen). ys ++ x ∷ []) u.are ∙ append_assoc (seen_of log done) u.seen (x ∷ []);
        quiet = push-each IsQuiet u.seen x u.quiet
            (record {
              idle = record { found = ap (λ (y : ToldSecond). y.course.found) told; torn = ap (λ (y : ToldSecond). y.course.torn) told; entered = ap (λ (y : ToldSecond). y.course.entered) told };
              lit = ap (λ (y : ToldSecond). y.lit) told;
              goes_on = ap (λ (y : ToldSecond). y.starts) told;
            });
        from = push-each (λ (y : Seen). p.next ≤ number_of y) u.seen x u.from (omega (arith, number));
        gaps = subst (λ (ss : List TraceSecond). HasGaps log p.unfound (Lit ((t ∷ span) ++ quiet_seconds (suc n) p.next speed slots)) ss) (more-is n)
            (goes-on log log p.unfound front s (all-same log front) [] (sym (append-nil log.breaks)) refl (Lit ((t ∷ span) ++ quiet_seconds n p.next speed slots)) (Lit ((t ∷ span) ++ quiet_seconds (suc n) p.next speed slots))
            (t ∷ (span ++ quiet_seconds n p.next speed slots)) ((t ∷ span) ++ quiet_seconds n p.next speed slots) (quiet_second (p.next + n) speed slots) refl
            (ap (λ (ts : List ToldSecond). Lit ((t ∷ span) ++ ts)) (quiet-last n p.next speed slots) ∙ ap (λ (ts : List ToldSecond). Lit ts) (sym (append_assoc (t ∷ span) (quiet_seconds n p.next speed slots) (quiet_second (p.next + n) speed slots ∷ []))))
            u.gaps (ap (λ (y : ToldSecond). y.lit) told) (ap (λ (y : ToldSecond). y.starts) told));
      }

pub quiet-brings_nothing : (d : Devices) → QuietSecondsBringNothing d
quiet-brings_nothing d o done p f v t span is n speed seen q =
    let log : RunLog = p.log in
    let more : List TraceSecond = driven (suc n) p.next speed [] in
    let slots : Slots = (went p.log done).before.slots in
    let u = up-to o done p f t span is speed v.gaps (suc n) in
    let same : seen ≡ u.seen = append_cancel_left (seen_of log done) seen u.seen (sym q.are ∙ u.are) in
    record {
      tearing = v.tearing;
      sessions = v.sessions;
      plain = λ m le slot. v.plain m (omega (arith, le)) slot;
      events = quiet-shown (number_in o) o.recording.unit (limit_in o) log done more u.seen u.are p.next v.tearing v.sessions v.plain u.from {U = d.unit} v.events {V = d.unit} u.quiet
          (ap (bares_by (last_of (seen_spans (seen_of log done)))) (sym same) ∙ q.bares) (ap (overs_by (limit_in o) (last_of (seen_spans (seen_of log done)))) (sym same) ∙ q.overs) (λ c left. (c, left, says-same c));
      gaps = u.gaps;
      found_open = λ y x among found accepts. ⊎_elim
          (λ old.
          let was = v.found_open y x old found accepts in (
            was.0,
            was.1,
            was.2,
            subst (λ (w : Went). IsFirst (card_image o.recording) w.told (done ++ more) x.0.card y.second.number (v.sessions y.second.number x.0))
                (sym (quiet-are-told (rule_of o) (start_at o) o.from (first_of o) done p f t span is (suc n) speed))
                (first-more (card_image o.recording) (went log done).told (quiet_seconds (suc n) p.next speed slots) done more x.0.card y.second.number (v.sessions y.second.number x.0) was.3),
          ))
          (λ new.
          let gone : Contains {X = Visit × Verdict} [] x = subst (λ (fs : List (Visit × Verdict)). Contains fs x) (quiet-found (suc n) p.next speed slots y new) found in
          absurd (omega (arith, gone.1)))
          (Contains-append_cases (went log done).told (quiet_seconds (suc n) p.next speed slots) y
          (subst (λ (w : Went). Contains w.told y) (quiet-are-told (rule_of o) (start_at o) o.from (first_of o) done p f t span is (suc n) speed) among));
      exact = λ c none_failed valid.
          ap (λ (w : Went). opened_on c v.sessions w.told) (quiet-are-told (rule_of o) (start_at o) o.from (first_of o) done p f t span is (suc n) speed)
          ∙ opened-append c v.sessions (went log done).told (quiet_seconds (suc n) p.next speed slots)
          ∙ ap (λ (us : List ℕ). opened_on c v.sessions (went log done).told ++ us) (all-none c v.sessions (quiet_seconds (suc n) p.next speed slots) (λ y among. quiet-found (suc n) p.next speed slots y among))
          ∙ append-nil (opened_on c v.sessions (went log done).told)
          ∙ v.exact c (failed-fewer o c log log [] (went log done).told ((went log done).told ++ quiet_seconds (suc n) p.next speed slots) (sym (append-nil log.breaks)) (torn-front c (went log done).told (quiet_seconds (suc n) p.next speed slots))
          (subst (λ (ts : List ToldSecond). NoneFailedOn o log ts c) (ap (λ (w : Went). w.told) (quiet-are-told (rule_of o) (start_at o) o.from (first_of o) done p f t span is (suc n) speed)) none_failed)) valid
          ∙ ap (λ (l : List Note). times_of (uses_in o c l)) (sym (notes-on o done p f t span is speed (suc n)));
    }

-- ---- nothing ends

module _ (passes : Seen → Bool) (event : List Seen → Option Event) (empty : event [] ≡ None) where
  -- seconds that pass go on a run
  passing : (run xs : List Seen) → AllByRecursion (λ (x : Seen). passes x ≡ true) xs → filter_map event (runs_behind passes run xs) ≡ []
  passing run [] all = refl
  passing run (x ∷ xs) all =
      ap (λ (b : Bool). filter_map event (cond b [] (run ∷ []) ++ runs_behind passes (run_with passes run x) xs)) all.0 ∙ passing (run_with passes run x) xs all.1

  -- others end none where there is none
  failing : (xs : List Seen) → AllByRecursion (λ (x : Seen). passes x ≡ false) xs → filter_map event (runs_behind passes [] xs) ≡ []
  failing [] all = refl
  failing (x ∷ xs) all =
      ap (λ (b : Bool). filter_map event (cond b [] ([] ∷ []) ++ runs_behind passes (cond b ([] ++ x ∷ []) []) xs)) all.0
      ∙ ap (λ (e : Option Event). cons_option e (filter_map event (runs_behind passes [] xs))) empty
      ∙ failing xs all.1

  no-run : (front : List Seen) (y : Seen) → passes y ≡ false → last_run passes (front ++ y ∷ []) ≡ []
  no-run front y is = fold-append (run_with passes) [] front (y ∷ []) ∙ ap (λ (b : Bool). cond b (last_run passes front ++ y ∷ []) []) is

  alike : (front : List Seen) (y : Seen) (xs : List Seen) (b : Bool) → AllByRecursion (λ (x : Seen). passes x ≡ b) xs → (passes y ≡ true → b ≡ true) → filter_map event (runs_behind passes (last_run passes (front ++ y ∷ [])) xs) ≡ []
  alike front y xs true all goes = passing (last_run passes (front ++ y ∷ [])) xs all
  alike front y xs false all goes = ap (λ (run : List Seen). filter_map event (runs_behind passes run xs)) (no-run front y (other (passes y) goes)) ∙ failing xs all
    where
      other : (b : Bool) → (b ≡ true → false ≡ true) → b ≡ false
      other true never = absurd (let wrong : false ≡ true = never refl in cc)
      other false never = refl

pub ends-nothing : SecondsAlikeEndNothing
ends-nothing limit front y xs bare fast bares was_bare fasts was_fast = (alike is_bare bare_event refl front y xs bare bares was_bare, alike (is_fast limit) over_event refl front y xs fast fasts was_fast)
