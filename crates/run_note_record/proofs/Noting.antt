-- The events that a second has noted so far: as it begins, with each step, and as it ends.
use Rattle.std.proofs.Common.{◌≡◌, ◌⊎◌, inl, inr, ⊎_elim, ℕ, suc, Bool, true, false, cond, not, ◌&&◌, List, [], ◌∷◌, ◌++◌, Contains, nat_eq, refl, ap, sym, subst, ◌∙◌, arith}
use Rattle.std.specs.Prelude.{◌==◌, map, flat_map}
use Rattle.std.proofs.lemmas.List.Elements.{filter-append}
use Rattle.run_devices.specs.trace_model.Trace.{TraceSecond}
use Rattle.tach_media.specs.Medium.{State}
use Rattle.run_devices.specs.log_model.declared.lines.Verdict.{Verdict}
use Rattle.run_devices.specs.log_model.Log.{RunLog, In, Phase}
use Rattle.run_devices.specs.log_model.Course.{ToldSecond, Visit, Before, Course, lit_course, has_power, second_told, went}
use Rattle.run_devices.specs.event_model.declared.kinds.TheConstants.{DRIVING_WITHOUT_CARD, OVER_SPEEDING, POWER_INTERRUPTION, CARD_FAULT}
use Rattle.run_devices.specs.event_model.Events.{Event, Seen, Tearing, fault_of, torn_in_turn, found_events, number_of, seen_of, seen_spans, events_of}
use Rattle.run_devices.specs.run_unit_course.Lines.{cut_at}
use Rattle.run_devices.specs.run_unit_course.Followed.{Lit, Lost}
use Rattle.run_devices.specs.run_unit_course.Turn.{begins_with}
use Rattle.run_devices.specs.safety_model.Safe.{Devices}
use Rattle.run_events.specs.unit_events.Shown.{all_kinds}
use Rattle.run_devices.specs.run_course.Moments.{and_break}
use Rattle.run_devices.specs.run_course.Followed.{Progress, BookFollowsRun}
use Rattle.run_devices.specs.run_course.Seconds.{GoesOnBy, next_told}
use Rattle.run_devices.proofs.run_course.Steps.{with-supply}
use Rattle.run_devices.proofs.run_course.Told.{lit-power, lit-starts, lit-told}
use Rattle.run_devices.specs.run_course.Moment.{goes_on, Moment}
use Rattle.run_devices.specs.run_course.Telling.{begun_by, IsMore, IsLeft}
use Rattle.run_devices.proofs.run_course.Reached.{second-reached}
use Rattle.run_devices.proofs.run_course.Telling.{second-ends_told, cut-ends_told}
use Rattle.run_events.specs.Shown.{by_kind, none_sure, all_sure, ShowsSince, AreTheFirst}
use Rattle.run_events.specs.Seconds.{span_before, bares_by, overs_by, gap_before, gap_by, faults_by, found_by, second_events, seen_next}
use Rattle.run_events.specs.Choice.{IsPlainFrom, plain, IsTornIn}
use Rattle.run_events.specs.Running.{HasEvents}
use Rattle.run_events.proofs.Gaps.{goes-on, breaks-off}
use Rattle.run_events.proofs.Shows.{more-then, nothing-more, moment-then}
use Rattle.run_events.proofs.Running.{second-shown, failed-shown}
use Rattle.run_events.proofs.Ordered.{behind}
use Rattle.run_events.proofs.Quiet.{plain-behind}
use Rattle.run_devices.specs.run_promise.Origin.{Origin, rule_of, start_at, first_of}
use Rattle.run_devices.specs.run_promise.Beside.{HaveLeftMore}
use Rattle.run_note_record.specs.Evented.{number_in, limit_in, brought_now, tearing_now, sessions_now, NotesMore, Evented}
use Rattle.run_note_record.specs.Noting.{Stage, Ended, is_told, ShowsThese, EventedIn, NotesThese, AStepIsNoted, AStageIsDone, stage_of, TheSecondBegins, TheSecondIsNoted, TheSecondIsCut, AreOpen}
use Rattle.run_note_record.proofs.Opened.{open-left, all-left}
use Rattle.run_note_record.proofs.Exact.{no-cut, exact-on, exact-begins}
use Rattle.run_note_record.proofs.Lines.{same-before, tells-so, front-same, early-before, sessions-on}
use Rattle.run_note_record.proofs.Seconds.{cut-goes, cut-failed, cut-untold}
use Rattle.run_note_record.proofs.Whole.{whole-told}
use Rattle.run_devices.specs.trace_model.declared.Action.{Action}
use Rattle.run_devices.specs.run_model.declared.Device.{Device}
use Rattle.run_devices.specs.run_model.declared.Device.TheVariants.{Unit as Recorder}
use Rattle.run_devices.specs.log_model.Causes.{RoseBy}

-- ONE NOTE AFTER ANOTHER
pub by-more : (more es : List Event) (kind : ℕ) → by_kind (more ++ es) kind ≡ by_kind more kind ++ by_kind es kind
by-more more es kind = filter-append (λ (e : Event). nat_eq e.kind kind) more es

none-more : (more es : List Event) (kind : ℕ) → by_kind es kind ≡ [] → by_kind more kind ≡ [] → by_kind (more ++ es) kind ≡ []
none-more more es kind last first = by-more more es kind ∙ ap (λ (xs : List Event). by_kind more kind ++ xs) last ∙ ap (λ (xs : List Event). xs ++ []) first

pub noted-more : (o : Origin) (more es : List Event) (d e : Devices) (P : List ℕ → Type 0) → ((c : List ℕ) → d.unit.may_leave c → (x : List ℕ) × P x × ShowsThese o more x c) → NotesThese o es d e →
    (c : List ℕ) → e.unit.may_leave c → (x : List ℕ) × P x × ShowsThese o (more ++ es) x c
noted-more o more es d e P noted says c left =
    let at = says c left in
    let was = noted at.0 at.1 in
    (was.0, was.1, more-then (number_in o) all_sure more es was.0 at.0 c was.2 at.2)

pub step-noted : (d e : Devices) → AStepIsNoted d e
step-noted d e o done s p stage log later v here own es brings aside says left open_now exact_now = record {
  tearing = v.tearing;
  sessions = v.sessions;
  plain = v.plain;
  torn = v.torn;
  gaps = v.gaps;
  open_before = all-left o (went p.log done).told done d e v.sessions left v.open_before;
  exact_before = v.exact_before;
  here = here;
  own = own;
  more = v.more ++ es;
  noted = noted-more o v.more es d e (ShowsSince (number_in o) p.log o.recording.unit (λ kind. events_of kind (limit_in o) v.sessions v.tearing p.log done)) v.noted says;
  told = λ kind there is. by-more v.more es kind ∙ ap (λ (xs : List Event). xs ++ by_kind es kind) (v.told kind there is) ∙ sym (brings kind there is);
  untold = λ kind there not_yet. none-more v.more es kind (aside kind there not_yet) (v.untold kind there not_yet);
  open_now = open_now;
  exact_now = exact_now;
}

pub bool-or : (b : Bool) → (b ≡ true) ⊎ (b ≡ false)
bool-or true = inl refl
bool-or false = inr refl

pub stage-done : (d e : Devices) → AStageIsDone d e
stage-done d e o done s p stage next log v es goes same brings aside says left = record {
  tearing = v.tearing;
  sessions = v.sessions;
  plain = v.plain;
  torn = v.torn;
  gaps = v.gaps;
  open_before = all-left o (went p.log done).told done d e v.sessions left v.open_before;
  exact_before = v.exact_before;
  here = v.here;
  own = v.own;
  more = v.more ++ es;
  noted = noted-more o v.more es d e (ShowsSince (number_in o) p.log o.recording.unit (λ kind. events_of kind (limit_in o) v.sessions v.tearing p.log done)) v.noted says;
  told = λ kind there is. ⊎_elim
      (λ was. by-more v.more es kind ∙ ap (λ (xs : List Event). by_kind v.more kind ++ xs) (same kind there was) ∙ append-none (by_kind v.more kind) ∙ v.told kind there was)
      (λ was. by-more v.more es kind ∙ ap (λ (xs : List Event). xs ++ by_kind es kind) (v.untold kind there was) ∙ brings kind there was is)
      (bool-or (is_told stage kind));
  untold = λ kind there not_yet. none-more v.more es kind (aside kind there not_yet) (v.untold kind there (not-before stage next kind goes not_yet));
  open_now = λ f there accepts. open-left o (went log done).told (done ++ s ∷ []) d e f.0.card s.number (v.own s.number f.0) left (v.open_now f there accepts);
  exact_now = v.exact_now;
}
  where
    append-none : (xs : List Event) → xs ++ [] ≡ xs
    append-none [] = refl
    append-none (x ∷ xs) = ap (λ (ys : List Event). x ∷ ys) (append-none xs)

    not-before : (stage next : Stage) (kind : ℕ) → ((k : ℕ) → is_told stage k ≡ true → is_told next k ≡ true) → is_told next kind ≡ false → is_told stage kind ≡ false
    not-before stage next kind goes none = ⊎_elim (λ is. absurd (let both : true ≡ false = sym (goes kind is) ∙ none in cc)) (λ no. no) (bool-or (is_told stage kind))

-- A SECOND BEGINS
waking-none : (a b c d : Bool) (p q r v w : List Event) → (not a && not b && not c) ≡ true → v ≡ [] → w ≡ [] → [] ≡ cond a p (cond b q (cond c r (cond d v w)))
waking-none true b c d p q r v w is ev ew = absurd (cc)
waking-none false true c d p q r v w is ev ew = absurd (cc)
waking-none false false true d p q r v w is ev ew = absurd (cc)
waking-none false false false true p q r v w is ev ew = sym ev
waking-none false false false false p q r v w is ev ew = sym ew

acting-none : (a b c d : Bool) (p q r v w : List Event) → (not a && not b) ≡ true → r ≡ [] → v ≡ [] → w ≡ [] → [] ≡ cond a p (cond b q (cond c r (cond d v w)))
acting-none true b c d p q r v w is er ev ew = absurd (cc)
acting-none false true c d p q r v w is er ev ew = absurd (cc)
acting-none false false true d p q r v w is er ev ew = sym er
acting-none false false false true p q r v w is er ev ew = sym ev
acting-none false false false false p q r v w is er ev ew = sym ew

same-if : (b : Bool) → cond {A = List Event} b [] [] ≡ []
same-if true = refl
same-if false = refl

pub nothing-brought : (kind limit : ℕ) (sessions : ℕ → Visit → ℕ) (t : Tearing) (log : RunLog) (spans : List (List Seen)) (x : Seen) (starts : Bool) → x.told.starts ≡ starts → x.told.course.torn ≡ [] → x.told.course.found ≡ [] → is_told (stage_of starts) kind ≡ true →
    [] ≡ second_events kind limit sessions t log spans x
nothing-brought kind limit sessions t log spans x true starts torn found is =
    waking-none (kind == DRIVING_WITHOUT_CARD) (kind == OVER_SPEEDING) (kind == POWER_INTERRUPTION) (kind == CARD_FAULT)
    (cond x.told.lit (bares_by (span_before spans x) (x ∷ [])) []) (cond x.told.lit (overs_by limit (span_before spans x) (x ∷ [])) []) (gap_by t log spans x) (faults_by t log x) (found_by kind sessions t x) is
    (ap (λ (vs : List Visit). map (fault_of t log x) (torn_in_turn t x vs)) torn)
    (ap (λ (fs : List (Visit × Verdict)). flat_map (λ (f : Visit × Verdict). found_events kind (sessions (number_of x) f.0) t x f.0 f.1) fs) found)
nothing-brought kind limit sessions t log spans x false starts torn found is =
    acting-none (kind == DRIVING_WITHOUT_CARD) (kind == OVER_SPEEDING) (kind == POWER_INTERRUPTION) (kind == CARD_FAULT)
    (cond x.told.lit (bares_by (span_before spans x) (x ∷ [])) []) (cond x.told.lit (overs_by limit (span_before spans x) (x ∷ [])) []) (gap_by t log spans x) (faults_by t log x) (found_by kind sessions t x) is
    (ap (λ (b : Bool). cond x.told.lit (cond b (gap_before t log spans x) []) []) starts ∙ same-if x.told.lit)
    (ap (λ (vs : List Visit). map (fault_of t log x) (torn_in_turn t x vs)) torn)
    (ap (λ (fs : List (Visit × Verdict)). flat_map (λ (f : Visit × Verdict). found_events kind (sessions (number_of x) f.0) t x f.0 f.1) fs) found)

lit-course : (log : RunLog) (before : Before) (s : TraceSecond) → has_power before s ≡ true → (second_told log before s).course ≡ lit_course log s (not before.running) before.slots
lit-course log before s power = rw power refl

pub second-begins : (d : Devices) → TheSecondBegins d
second-begins d o done p f v span is s number power =
    let before : Before = (went p.log done).before in
    let reached = second-reached (rule_of o) (start_at o) o.from (first_of o) done p f span is s number power in
    let supplied = (with-supply (rule_of o) (start_at o) o.from (first_of o) done p (Lit span) is f).power in
    let has : has_power before s ≡ true = lit-power span before s p.next supplied number power in
    let course : (second_told p.log before s).course ≡ lit_course p.log s (not before.running) before.slots = lit-course p.log before s has in
    let whole = whole-told p.log before s (In 0) reached.0.up_to reached.0.is in
    let torn : (second_told p.log before s).course.torn ≡ [] = ap (λ (c : Course). c.torn) course ∙ whole.torn ∙ ap (λ (c : Course). c.torn) reached.1 in
    let found : (second_told p.log before s).course.found ≡ [] = ap (λ (c : Course). c.found) course ∙ whole.found ∙ ap (λ (c : Course). c.found) reached.1 in
    let starts : (second_told p.log before s).starts ≡ begins_with span = (lit-told p.log before s has).starts ∙ lit-starts span before p.next supplied in
    record {
      tearing = v.tearing;
      sessions = v.sessions;
      plain = v.plain;
      torn = v.events.torn;
      gaps = v.gaps;
      open_before = v.found_open;
      exact_before = v.exact;
      here = plain;
      own = λ u x. 0;
      more = [];
      noted = λ c left. (c, v.events.noted.shows c left, nothing-more (number_in o) all_sure c c (record { tables = λ kind there. refl; first_over = refl; over_count = refl }));
      told = λ kind there told. nothing-brought kind (limit_in o) (λ u x. 0) plain p.log (seen_spans (seen_of p.log done)) (seen_next p.log done s) (begins_with span) starts torn found told;
      untold = λ kind there untold. refl;
      open_now = λ x there accepts. absurd (none-there x (subst (λ (fs : List (Visit × Verdict)). Contains fs x) found there));
      exact_now = exact-begins o p.log done s (λ u x. 0) found;
    }
  where
    none-there : (x : Visit × Verdict) → Contains [] x → ⊥
    none-there x at = omega (arith, at.1)

-- A SECOND ENDS
abbrev pub behind-all : State → (P : List ℕ → Type 0) → State
behind-all u P = record u { may_leave = P }

all-told : (o : Origin) (done : List TraceSecond) (s : TraceSecond) (p : Progress) (log : RunLog) (d : Devices) (v : EventedIn o done s p Ended log d) (kind : ℕ) → Contains all_kinds kind → by_kind v.more kind ≡ brought_now o log done s v.here v.own kind
all-told o done s p log d v kind there = v.told kind there refl

pub same-left : (o : Origin) (d : Devices) → HaveLeftMore o d d
same-left o d = record { unit = λ x h. h; card = λ c x h. h }

pub second-is_noted : (d : Devices) → TheSecondIsNoted d
second-is_noted d o done p f span is s log mid now m v fits =
    let g : GoesOnBy p log s = goes_on m in
    let told = (second-ends_told (rule_of o) (start_at o) o.from (first_of o) done p f span is s log mid now m).0 in
    let P : List ℕ → Type 0 = ShowsSince (number_in o) p.log o.recording.unit (λ kind. events_of kind (limit_in o) v.sessions v.tearing p.log done) in
    let has : HasEvents (number_in o) o.recording.unit (limit_in o) p.log done (behind-all d.unit P) v.tearing v.sessions = record { torn = v.torn; noted = record { shows = λ x h. h } } in
    record {
      tearing = tearing_now s v.here v.tearing;
      sessions = sessions_now s v.own v.sessions;
      plain = subst (λ (n : ℕ). IsPlainFrom (suc n) (tearing_now s v.here v.tearing)) g.number (plain-behind s.number v.here v.tearing (subst (λ (n : ℕ). IsPlainFrom n v.tearing) (sym g.number) v.plain));
      events = second-shown (number_in o) o.recording.unit (limit_in o) p.log log p.unfound p.supply done s v.tearing v.here v.sessions v.own {U = behind-all d.unit P} has v.gaps (tells-so o done p f s log g) (early-before o done p f s log g) fits {V = d.unit} v.more
          (all-told o done s p log d v)
          v.noted;
      gaps = goes-on p.log log p.unfound done s (same-before o done p f s log g) g.breaks.0 g.breaks.1 (front-same o done p f s log g) p.supply (Lit (span ++ next_told log done s ∷ [])) span span (next_told log done s) is refl v.gaps
          (ap (λ (t : ToldSecond). t.lit) told) (ap (λ (t : ToldSecond). t.starts) told);
      found_open = sessions-on o done p f s log g d d v.sessions v.own v.open_before (same-left o d) v.open_now;
      exact = exact-on o done p f s log g v.sessions v.own v.exact_before v.exact_now;
    }

-- OR THE UNIT FAILS: behind what was noted before, by any log of it, a failed call has left the first of what it was to note
pub cut-by : (d e : Devices) (o : Origin) (done : List TraceSecond) (p : Progress) (f : BookFollowsRun (rule_of o) (start_at o) o.from (first_of o) done p) (span : List ToldSecond) → p.supply ≡ Lit span → (s : TraceSecond) (at : Phase) (log : RunLog) (waits : List Visit) (mid now later : Device → ℕ) →
    Moment p (went p.log done).before s at log waits mid now → IsMore now later → RoseBy 1 (mid Recorder) (later Recorder) → (rest : List Action) → IsLeft s at rest → let cut : RunLog = and_break log (cut_at s.number true (begun_by s at)) in
    (stage : Stage) (old : RunLog) (v : EventedIn o done s p stage old d) (here : Tearing) (own : ℕ → Visit → ℕ) → IsTornIn here (seen_next cut done s) → AreOpen o cut done s own e → HaveLeftMore o d e →
    (es : List Event) → AreTheFirst (by_kind (v.more ++ es)) (brought_now o cut done s here own) → NotesMore o none_sure (by_kind es) d e →
    Evented o (done ++ s ∷ []) cut p.unfound (suc p.next) Lost e
cut-by d e o done p f span is s at log waits mid now later m more broke rest is_left stage old v here own fits open_now left es are each =
    let k : ℕ = begun_by s at in
    let cut : RunLog = and_break log (cut_at s.number true k) in
    let g : GoesOnBy p cut s = cut-goes o done p f s at log waits mid now m k in
    let told = (cut-ends_told (rule_of o) (start_at o) o.from (first_of o) done p f span is s at log waits mid now later m more broke rest is_left).0 in
    let failed = cut-failed o done p f s at log waits mid now m k in
    let P : List ℕ → Type 0 = ShowsSince (number_in o) p.log o.recording.unit (λ kind. events_of kind (limit_in o) v.sessions v.tearing p.log done) in
    let has : HasEvents (number_in o) o.recording.unit (limit_in o) p.log done (behind-all d.unit P) v.tearing v.sessions = record { torn = v.torn; noted = record { shows = λ x h. h } } in
    let behind_so = behind cut o.from done s f.order (g.number ∙ f.next) in
    record {
      tearing = tearing_now s here v.tearing;
      sessions = sessions_now s own v.sessions;
      plain = subst (λ (n : ℕ). IsPlainFrom (suc n) (tearing_now s here v.tearing)) g.number (plain-behind s.number here v.tearing (subst (λ (n : ℕ). IsPlainFrom n v.tearing) (sym g.number) v.plain));
      events = failed-shown (number_in o) o.recording.unit (limit_in o) p.log cut p.unfound p.supply done s v.tearing here v.sessions own {U = behind-all d.unit P} has v.gaps (tells-so o done p f s cut g) (early-before o done p f s cut g) fits failed behind_so {V = e.unit} (by_kind (v.more ++ es)) are
          (λ c may.
          let x = each c may in
          let y = v.noted x.0 x.1 in
          (y.0, y.1, moment-then (number_in o) v.more es y.0 x.0 c y.2 x.2));
      gaps = breaks-off p.log cut p.unfound done s (same-before o done p f s cut g) g.breaks.0 g.breaks.1 (front-same o done p f s cut g) p.supply span is v.gaps (ap (λ (t : ToldSecond). t.lit) told) (ap (λ (t : ToldSecond). t.starts) told)
          (cut-untold o done p f s at log waits mid now m k);
      found_open = sessions-on o done p f s cut g d e v.sessions own v.open_before left open_now;
      exact = λ c none_failed valid. no-cut log s.number k none_failed.0;
    }

pub second-is_cut : (d e : Devices) → TheSecondIsCut d e
second-is_cut d e o done p f span is s at log waits mid now later m more broke rest is_left stage v here own fits open_now left es are each =
    cut-by d e o done p f span is s at log waits mid now later m more broke rest is_left stage log v here own fits open_now left es are each
