-- What a second has brought so far, as it begins, with each step, and as it ends.
use Rattle.std.proofs.Common.{◌≡◌, ℕ, true, false, not, ◌&&◌, List, [], ◌∷◌, ◌++◌, Contains, refl, ap, sym, subst, ◌∙◌, arith, append_assoc, append-nil}
use Rattle.std.specs.List.{AllByRecursion, list_any}
use Rattle.run_events.specs.activity_codec.declared.values.Slot.{Slot}
use Rattle.run_events.specs.activity_codec.Activity.{same_slot}
use Rattle.run_devices.specs.trace_model.declared.Card.{Card}
use Rattle.run_devices.specs.trace_model.Trace.{TraceSecond}
use Rattle.run_devices.specs.card_image.Own.{IsOwnValid}
use Rattle.run_devices.specs.log_model.declared.lines.Break.{Break}
use Rattle.run_devices.specs.log_model.declared.lines.Verdict.{Verdict}
use Rattle.run_devices.specs.log_model.Log.{RunLog, In, same_phase, is_accepting}
use Rattle.run_devices.specs.log_model.Course.{ToldSecond, Visit, Before, Course, has_power, second_told, went, Went}
use Rattle.run_devices.specs.event_model.Events.{Event, Seen, Tearing, seen_by, seen_of, seen_spans, events_of}
use Rattle.run_devices.specs.run_unit_course.Followed.{Lit}
use Rattle.run_devices.specs.run_unit_course.Turn.{begins_with}
use Rattle.run_devices.specs.note_model.Done.{done_by}
use Rattle.run_devices.specs.note_model.Noted.{Note, noted_in}
use Rattle.run_devices.specs.safety_model.Recording.{card_image}
use Rattle.run_devices.specs.safety_model.Safe.{Devices}
use Rattle.run_events.specs.unit_events.Shown.{all_kinds}
use Rattle.run_events.proofs.unit_events.Shows.{each-kind}
use Rattle.run_devices.specs.run_course.Followed.{Progress}
use Rattle.run_devices.specs.run_course.Seconds.{GoesOnBy}
use Rattle.run_devices.proofs.run_course.Steps.{with-supply, went-same_}
use Rattle.run_devices.proofs.run_course.Told.{lit-power, lit-starts, lit-told}
use Rattle.run_devices.specs.run_course.Moment.{goes_on}
use Rattle.run_devices.proofs.run_course.Reached.{second-reached}
use Rattle.run_events.specs.Shown.{by_kind, all_sure, ShowsSince}
use Rattle.run_events.specs.Seconds.{second_events, seen_next}
use Rattle.run_events.specs.Choice.{IsTornIn}
use Rattle.run_events.proofs.Later.{told-number}
use Rattle.run_events.proofs.Shows.{nothing-more}
use Rattle.run_devices.specs.run_promise.Origin.{Origin, rule_of, start_at, first_of}
use Rattle.run_devices.specs.run_promise.Beside.{HaveLeftMore}
use Rattle.run_note_record.specs.Opened.{IsOpenSo}
use Rattle.run_note_record.specs.Uses.{times_of, opened_in, notes_in, notes_now, uses_in, told_so_far, NoneFailedOn, AreExactIn}
use Rattle.run_note_record.specs.Evented.{number_in, limit_in, brought_now}
use Rattle.run_note_record.specs.Noting.{Stage, Waking, Acting, Ended, is_told, AreOpen, EventedIn}
use Rattle.run_note_record.specs.EventsSoFar.{planned, FitsSoFar, SoFar, Adds, StepsFollow, EventedNow, BeginsNow, ASecondBegins, ACallNotes, ASecondEnds}
use Rattle.run_note_record.proofs.Bringing.{brought-as}
use Rattle.run_note_record.proofs.Brought.{lit-course}
use Rattle.run_note_record.proofs.Choices.{planned-put, fits-in}
use Rattle.run_note_record.proofs.Opened.{open-left, all-left}
use Rattle.run_note_record.proofs.Exact.{TornStay, torn-next, failed-fewer, notes-before, opened-same, exact-begins}
use Rattle.run_note_record.proofs.Noting.{by-more, noted-more, nothing-brought, second-is_noted}
use Rattle.run_note_record.proofs.Whole.{whole-told}

-- STEPS FOLLOW one another
all-both : {X : Type 0} (P : X → Type 0) (xs ys : List X) → AllByRecursion P xs → AllByRecursion P ys → AllByRecursion P (xs ++ ys)
all-both P [] ys hx hy = hy
all-both P (x ∷ xs) ys hx hy = (hx.0, all-both P xs ys hx.1 hy)

pub steps-follow : (d : Devices) → StepsFollow d
steps-follow d o done s first second third log mid later es more a b = record {
  kinds = all-both (λ (e : Event). Contains all_kinds e.kind) es more a.kinds b.kinds;
  on = λ before v. subst (λ (all : List Event). SoFar o done s third later all d) (append_assoc before es more) (b.on (before ++ es) (a.on before v));
}

-- nothing is added
pub adds-nothing : (d : Devices) (o : Origin) (done : List TraceSecond) (s : TraceSecond) (stage : Stage) (log : RunLog) → Adds o done s stage log stage log [] d
adds-nothing d o done s stage log = record { kinds = tt; on = λ more v. subst (λ (all : List Event). SoFar o done s stage log all d) (sym (append-nil more)) v }

-- the same events of each type in another order
pub adds-as : (d : Devices) (o : Origin) (done : List TraceSecond) (s : TraceSecond) (stage : Stage) (log : RunLog) (next : Stage) (later : RunLog) (es fs : List Event) → ((kind : ℕ) → by_kind fs kind ≡ by_kind es kind) → AllByRecursion (λ (e : Event). Contains all_kinds e.kind) fs →
    Adds o done s stage log next later es d → Adds o done s stage log next later fs d
adds-as d o done s stage log next later es fs same kinds adds = record {
  kinds = kinds;
  on = λ more v. (let w = adds.on more v in record {
    here = w.here;
    own = w.own;
    told = λ kind there told. by-more more fs kind ∙ ap (λ (l : List Event). by_kind more kind ++ l) (same kind) ∙ sym (by-more more es kind) ∙ w.told kind there told;
    untold = λ kind there off. by-more more fs kind ∙ ap (λ (l : List Event). by_kind more kind ++ l) (same kind) ∙ sym (by-more more es kind) ∙ w.untold kind there off;
    fits = w.fits;
    open_now = w.open_now;
    exact_now = w.exact_now;
  });
}

-- what was found open was open before
pub later-images : (o : Origin) (done : List TraceSecond) (s : TraceSecond) (stage : Stage) (log : RunLog) (more : List Event) (d e : Devices) → HaveLeftMore o d e → SoFar o done s stage log more d → SoFar o done s stage log more e
later-images o done s stage log more d e left v = record {
  here = v.here;
  own = v.own;
  told = v.told;
  untold = v.untold;
  fits = v.fits;
  open_now = λ f there accepts. open-left o (went log done).told (done ++ s ∷ []) d e f.0.card s.number (v.own s.number f.0) left (v.open_now f there accepts);
  exact_now = v.exact_now;
}

-- A CALL NOTES what its lines add
pub call-notes : (d e : Devices) → ACallNotes d e
call-notes d e o done s p stage next log later es v adds says left = record {
  tearing = v.tearing;
  sessions = v.sessions;
  plain = v.plain;
  torn = v.torn;
  gaps = v.gaps;
  open_before = all-left o (went p.log done).told done d e v.sessions left v.open_before;
  exact_before = v.exact_before;
  more = v.more ++ es;
  noted = noted-more o v.more es d e (ShowsSince (number_in o) p.log o.recording.unit (λ kind. events_of kind (limit_in o) v.sessions v.tearing p.log done)) v.noted says;
  so_far = adds.on v.more (later-images o done s stage log v.more d e left v.so_far);
}

-- as the laws within a second have it
abbrev pub evented-in : (o : Origin) (done : List TraceSecond) (s : TraceSecond) (p : Progress) (stage : Stage) (log : RunLog) (d : Devices) → EventedNow o done s p stage log d → EventedIn o done s p stage log d
evented-in o done s p stage log d v = record {
  tearing = v.tearing;
  sessions = v.sessions;
  plain = v.plain;
  torn = v.torn;
  gaps = v.gaps;
  open_before = v.open_before;
  exact_before = v.exact_before;
  here = v.so_far.here;
  own = v.so_far.own;
  more = v.more;
  noted = v.noted;
  told = v.so_far.told;
  untold = v.so_far.untold;
  open_now = v.so_far.open_now;
  exact_now = v.so_far.exact_now;
}

-- ---- BY A LOG of the second
module _ (o : Origin) (done : List TraceSecond) (p : Progress) (span : List ToldSecond) (s : TraceSecond) (b : BeginsNow o done p span s) where
  abbrev pub before_it : Before
  before_it = (went p.log done).before

  pub power-now : has_power before_it s ≡ true
  power-now = lit-power span before_it s p.next (with-supply (rule_of o) (start_at o) o.from (first_of o) done p (Lit span) b.lit b.followed).power b.number b.given

  pub starts-now : not before_it.running ≡ begins_with span
  starts-now = lit-starts span before_it p.next (with-supply (rule_of o) (start_at o) o.from (first_of o) done p (Lit span) b.lit b.followed).power

  pub next-as : (log : RunLog) → GoesOnBy p log s → seen_next log done s ≡ seen_by log before_it s
  next-as log g = ap (λ (w : Went). seen_by log w.before s) (went-same_ (rule_of o) (start_at o) o.from (first_of o) done p b.followed.order b.followed.next b.followed.unfound s log g)

  abbrev pub OpenBy : (own : ℕ → Visit → ℕ) → Seen → Devices → Type 0
  OpenBy own x d = (f : Visit × Verdict) → Contains x.told.course.found f → is_accepting f.1 ≡ true → IsOpenSo o (went p.log done).told (done ++ s ∷ []) d f.0.card s.number (own s.number f.0)

  -- by a log of the second, and by that of its beginning
  abbrev OpenIn : RunLog → (own : ℕ → Visit → ℕ) → Devices → Went → Type 0
  OpenIn log own d w = (f : Visit × Verdict) → Contains (seen_by log w.before s).told.course.found f → is_accepting f.1 ≡ true → IsOpenSo o w.told (done ++ s ∷ []) d f.0.card s.number (own s.number f.0)

  pub open-by : (log : RunLog) → GoesOnBy p log s → (own : ℕ → Visit → ℕ) (d : Devices) → AreOpen o log done s own d → OpenBy own (seen_by log before_it s) d
  open-by log g own d h = subst (OpenIn log own d) (went-same_ (rule_of o) (start_at o) o.from (first_of o) done p b.followed.order b.followed.next b.followed.unfound s log g) h

  pub open-of : (log : RunLog) → GoesOnBy p log s → (own : ℕ → Visit → ℕ) (d : Devices) → OpenBy own (seen_by log before_it s) d → AreOpen o log done s own d
  open-of log g own d h = subst (OpenIn log own d) (sym (went-same_ (rule_of o) (start_at o) o.from (first_of o) done p b.followed.order b.followed.next b.followed.unfound s log g)) h

  -- the session times so far, by the log of its beginning
  abbrev pub ExactBy : RunLog → (own : ℕ → Visit → ℕ) → Type 0
  ExactBy log own = (c : Card) → NoneFailedOn o log (told_so_far p.log done log s) c → IsOwnValid (card_image o.recording c) →
      times_of (uses_in o c (notes_in p.log done)) ++ opened_in c own (seen_by log before_it s).told ≡ times_of (uses_in o c (notes_now p.log done log s))

  notes-as : (log : RunLog) → GoesOnBy p log s → notes_now log done log s ≡ notes_now p.log done log s
  notes-as log g = λ i. notes-before o done p b.followed s log g i
      ++ noted_in log (done_by log (went-same_ (rule_of o) (start_at o) o.from (first_of o) done p b.followed.order b.followed.next b.followed.unfound s log g i).before s)

  front-as : (log : RunLog) → GoesOnBy p log s → (own : ℕ → Visit → ℕ) (c : Card) → times_of (uses_in o c (notes_in log done)) ++ opened_in c own (seen_next log done s).told ≡ times_of (uses_in o c (notes_in p.log done)) ++ opened_in c own (seen_by log before_it s).told
  front-as log g own c = λ i. times_of (uses_in o c (notes-before o done p b.followed s log g i)) ++ opened_in c own (next-as log g i).told

  told-as : (log : RunLog) → GoesOnBy p log s → told_so_far log done log s ≡ told_so_far p.log done log s
  told-as log g = ap (λ (w : Went). w.told ++ second_told log w.before s ∷ []) (went-same_ (rule_of o) (start_at o) o.from (first_of o) done p b.followed.order b.followed.next b.followed.unfound s log g)

  pub exact-by : (log : RunLog) → GoesOnBy p log s → (own : ℕ → Visit → ℕ) → AreExactIn o log done s own → ExactBy log own
  exact-by log g own h c none valid =
      sym (front-as log g own c) ∙ h c (subst (λ (ts : List ToldSecond). NoneFailedOn o log ts c) (sym (told-as log g)) none) valid ∙ ap (λ (l : List Note). times_of (uses_in o c l)) (notes-as log g)

  pub exact-of : (log : RunLog) → GoesOnBy p log s → (own : ℕ → Visit → ℕ) → ExactBy log own → AreExactIn o log done s own
  exact-of log g own h c none valid =
      front-as log g own c ∙ h c (subst (λ (ts : List ToldSecond). NoneFailedOn o log ts c) (told-as log g) none) valid ∙ ap (λ (l : List Note). times_of (uses_in o c l)) (sym (notes-as log g))

  -- a line that brings no acceptance
  pub exact-still : (log later : RunLog) → GoesOnBy p log s → (own : ℕ → Visit → ℕ) → (more : List Break) → later.breaks ≡ log.breaks ++ more → TornStay (second_told log before_it s).course.torn (second_told later before_it s).course.torn →
      ((c : Card) → uses_in o c (notes_now p.log done later s) ≡ uses_in o c (notes_now p.log done log s)) →
      (seen_by later before_it s).told.course.found ≡ (seen_by log before_it s).told.course.found → AreExactIn o log done s own → ExactBy later own
  exact-still log later g own more lines stay finds found h c none valid =
      ap (λ (us : List ℕ). times_of (uses_in o c (notes_in p.log done)) ++ us)
      (opened-same c own (seen_by later before_it s).told (seen_by log before_it s).told (told-number later before_it s ∙ sym (told-number log before_it s)) found)
      ∙ exact-by log g own h c (failed-fewer o c log later more (told_so_far p.log done log s) (told_so_far p.log done later s) lines (torn-next c (went p.log done).told (second_told log before_it s) (second_told later before_it s) stay) none) valid
      ∙ sym (ap times_of (finds c))

  module _ (stage : Stage) (log later : RunLog) (g : GoesOnBy p log s) (g_later : GoesOnBy p later s) (d : Devices) (more es : List Event) (v : SoFar o done s stage log more d) where
    -- it fits as the second is seen
    pub fits-now : FitsSoFar stage s v.here (seen_by log before_it s)
    fits-now = subst (FitsSoFar stage s v.here) (next-as log g) v.fits

    pub open-now : OpenBy v.own (seen_by log before_it s) d
    open-now = open-by log g v.own d v.open_now

    abbrev pub added-by : (here : Tearing) (own : ℕ → Visit → ℕ) → ((kind : ℕ) → Contains all_kinds kind → is_told stage kind ≡ true → brought_now o later done s here own kind ≡ brought_now o log done s v.here v.own kind ++ by_kind es kind) →
        ((kind : ℕ) → Contains all_kinds kind → is_told stage kind ≡ false → by_kind es kind ≡ []) → FitsSoFar stage s here (seen_by later before_it s) → OpenBy own (seen_by later before_it s) d → ExactBy later own → SoFar o done s stage later (more ++ es) d
    added-by here own brings aside fits open_then exact_then = record {
      here = here;
      own = own;
      told = λ kind there is. by-more more es kind ∙ ap (λ (xs : List Event). xs ++ by_kind es kind) (v.told kind there is) ∙ sym (brings kind there is);
      untold = λ kind there off. by-more more es kind ∙ ap (λ (xs : List Event). xs ++ by_kind es kind) (v.untold kind there off) ∙ aside kind there off;
      fits = subst (FitsSoFar stage s here) (sym (next-as later g_later)) fits;
      open_now = open-of later g_later own d open_then;
      exact_now = exact-of later g_later own exact_then;
    }

    abbrev pub added : (here : Tearing) (own : ℕ → Visit → ℕ) → ((kind : ℕ) → Contains all_kinds kind → is_told stage kind ≡ true →
        second_events kind (limit_in o) own here later (seen_spans (seen_of p.log done)) (seen_by later before_it s) ≡ second_events kind (limit_in o) v.own v.here log (seen_spans (seen_of p.log done)) (seen_by log before_it s) ++ by_kind es kind) →
        ((kind : ℕ) → Contains all_kinds kind → is_told stage kind ≡ false → by_kind es kind ≡ []) → FitsSoFar stage s here (seen_by later before_it s) → OpenBy own (seen_by later before_it s) d → ExactBy later own → SoFar o done s stage later (more ++ es) d
    added here own brings aside fits open_then exact_then = added-by here own
        (λ kind there is. brought-as o done p b.followed s later g_later here own kind ∙ brings kind there is ∙ ap (λ (xs : List Event). xs ++ by_kind es kind) (sym (brought-as o done p b.followed s log g v.here v.own kind))) aside fits open_then exact_then

-- ---- of the types that are put off nothing is among these
pub aside-acting : (es : List Event) → by_kind es 0x04 ≡ [] → by_kind es 0x07 ≡ [] → (kind : ℕ) → Contains all_kinds kind → is_told Acting kind ≡ false → by_kind es kind ≡ []
aside-acting es bare over = each-kind (λ (kind : ℕ). is_told Acting kind ≡ false → by_kind es kind ≡ [])
    (λ is. absurd (always is)) (λ is. absurd (always is)) (λ is. bare) (λ is. absurd (always is)) (λ is. absurd (always is)) (λ is. over) (λ is. absurd (always is)) (λ is. absurd (always is))
  where
    always : true ≡ false → ⊥
    always is = absurd (cc)

pub aside-waking : (es : List Event) → by_kind es 0x04 ≡ [] → by_kind es 0x07 ≡ [] → by_kind es 0x08 ≡ [] → (kind : ℕ) → Contains all_kinds kind → is_told Waking kind ≡ false → by_kind es kind ≡ []
aside-waking es bare over gap = each-kind (λ (kind : ℕ). is_told Waking kind ≡ false → by_kind es kind ≡ [])
    (λ is. absurd (always is)) (λ is. absurd (always is)) (λ is. bare) (λ is. absurd (always is)) (λ is. absurd (always is)) (λ is. over) (λ is. gap) (λ is. absurd (always is))
  where
    always : true ≡ false → ⊥
    always is = absurd (cc)

-- ---- A SECOND BEGINS
never : false ≡ true → ⊥
never is = absurd (cc)

pub second-begins_now : (d : Devices) → ASecondBegins d
second-begins_now d o done p span s b v =
    let before : Before = (went p.log done).before in
    let reached = second-reached (rule_of o) (start_at o) o.from (first_of o) done p b.followed span b.lit s b.number b.given in
    let has : has_power before s ≡ true = power-now o done p span s b in
    let course = lit-course p.log before s has in
    let whole = whole-told p.log before s (In 0) reached.0.up_to reached.0.is in
    let torn : (second_told p.log before s).course.torn ≡ [] = ap (λ (c : Course). c.torn) course ∙ whole.torn ∙ ap (λ (c : Course). c.torn) reached.1 in
    let found : (second_told p.log before s).course.found ≡ [] = ap (λ (c : Course). c.found) course ∙ whole.found ∙ ap (λ (c : Course). c.found) reached.1 in
    let starts : (second_told p.log before s).starts ≡ begins_with span = (lit-told p.log before s has).starts ∙ starts-now o done p span s b in
    record {
      tearing = v.tearing;
      sessions = v.sessions;
      plain = v.plain;
      torn = v.events.torn;
      gaps = v.gaps;
      open_before = v.found_open;
      exact_before = v.exact;
      more = [];
      noted = λ c left. (c, v.events.noted.shows c left, nothing-more (number_in o) all_sure c c (record { tables = λ kind there. refl; first_over = refl; over_count = refl }));
      so_far = record {
        here = planned s;
        own = λ u x. 0;
        told = λ kind there told. nothing-brought kind (limit_in o) (λ u x. 0) (planned s) p.log (seen_spans (seen_of p.log done)) (seen_next p.log done s) (begins_with span) starts torn found told;
        untold = λ kind there untold. refl;
        fits = record {
          put_in = planned-put s;
          still = λ slot rest is_torn accepted. absurd (never (sym (none-torn slot (second_told p.log before s).course.torn torn) ∙ is_torn));
          before = λ slot none. refl;
          waking = λ is slot. refl;
        };
        open_now = λ x there accepts. absurd (none-there x (subst (λ (fs : List (Visit × Verdict)). Contains fs x) found there));
        exact_now = exact-begins o p.log done s (λ u x. 0) found;
      };
    }
  where
    none-there : (x : Visit × Verdict) → Contains [] x → ⊥
    none-there x at = omega (arith, at.1)

    none-torn : (slot : Slot) (vs : List Visit) → vs ≡ [] → list_any (λ (v : Visit). same_phase v.phase (In 0) && same_slot v.slot slot) vs ≡ false
    none-torn slot vs none = ap (list_any (λ (v : Visit). same_phase v.phase (In 0) && same_slot v.slot slot)) none

-- THE SECOND ENDS
pub second-ends_now : (d : Devices) → ASecondEnds d
second-ends_now d o done p span s b log mid now m v =
    let before : Before = (went p.log done).before in
    let fits = fits-in log before s (power-now o done p span s b) Ended v.so_far.here (subst (FitsSoFar Ended s v.so_far.here) (next-as o done p span s b log (goes_on m)) v.so_far.fits) in
    second-is_noted d o done p b.followed span b.lit s log mid now m (evented-in o done s p Ended log d v) (subst (IsTornIn v.so_far.here) (sym (next-as o done p span s b log (goes_on m))) fits)
