-- The unit fails in a call, and the cut that is told ends the second: its line takes nothing back.
use Rattle.std.proofs.Common.{◌≡◌, inr, ℕ, zero, suc, ◌<◌, ◌≤◌, Bool, true, false, cond, not, ◌&&◌, ◌||◌, Option, Some, None, List, [], ◌∷◌, ◌++◌, Contains, map, filter, take, nat_eq, nat_lt, is_some, refl, ap, sym, subst, ◌∙◌, arith, append-nil}
use Rattle.std.specs.Prelude.{◌==◌, flat_map, option_map, option_to_list, slice_get}
use Rattle.std.specs.List.{AllByRecursion, list_any, filter_map}
use Rattle.std.proofs.lemmas.Bool.Decides.{nat_tests}
use Rattle.run_events.specs.activity_codec.declared.values.Slot.{Slot}
use Rattle.run_events.specs.activity_codec.declared.values.Slot.TheVariants.{Driver, CoDriver}
use Rattle.run_events.specs.activity_codec.Activity.{same_slot}
use Rattle.run_devices.specs.trace_model.declared.Action.{Action}
use Rattle.run_devices.specs.trace_model.Trace.{TraceSecond}
use Rattle.run_devices.specs.run_model.declared.Device.{Device}
use Rattle.run_devices.specs.run_model.declared.Device.TheVariants.{Unit as Recorder}
use Rattle.run_devices.specs.log_model.declared.lines.Break.{Break}
use Rattle.run_devices.specs.log_model.declared.lines.Verdict.{Verdict}
use Rattle.run_devices.specs.log_model.Log.{RunLog, Phase, In, Keeping, same_phase, cut_in, kept_after, is_torn_in, is_accepting}
use Rattle.run_devices.specs.log_model.Slots.{is_accepted, refusal}
use Rattle.run_devices.specs.log_model.Causes.{RoseBy}
use Rattle.run_devices.specs.log_model.Course.{ToldSecond, Visit, Course, Before, has_power, second_told, answered, went, Went}
use Rattle.run_devices.specs.event_model.declared.kinds.TheConstants.{DRIVING_WITHOUT_CARD, OVER_SPEEDING, POWER_INTERRUPTION, CARD_FAULT}
use Rattle.run_devices.specs.event_model.declared.entries.Span.{Span}
use Rattle.run_devices.specs.event_model.Spans.{gap_of}
use Rattle.run_devices.specs.event_model.Runs.{last_run}
use Rattle.run_devices.specs.event_model.Events.{Event, Seen, Tearing, number_of, last_number, noted_with, course_by, moved_by_action, within_by, seen_by, seen_of, seen_spans, is_bare, bare_event, over_event, first_card, standing, found_events, fault_of, torn_in_turn}
use Rattle.run_devices.specs.run_unit_course.Lines.{cut_at, tells_cut}
use Rattle.run_devices.specs.run_unit_course.Followed.{UnitPower, Lit}
use Rattle.run_devices.specs.run_unit_course.Turn.{begins_with}
use Rattle.run_devices.specs.safety_model.Safe.{Devices}
use Rattle.run_events.specs.unit_events.Shown.{all_kinds}
use Rattle.run_devices.specs.run_course.Moments.{and_break}
use Rattle.run_devices.specs.run_course.Followed.{Progress}
use Rattle.run_devices.specs.run_course.Seconds.{GoesOnBy}
use Rattle.run_devices.specs.run_course.Reached.{IsMoment, course_at}
use Rattle.run_devices.proofs.run_course.Lookups.{break-more}
use Rattle.run_devices.proofs.run_course.Moments.{later-lines}
use Rattle.run_devices.proofs.run_course.Reached.{at-by}
use Rattle.run_devices.proofs.run_course.Steps.{went-same_}
use Rattle.run_devices.specs.run_course.Moment.{Moment, goes_on}
use Rattle.run_devices.specs.run_course.Telling.{IsMore, begun_by, IsLeft}
use Rattle.run_devices.proofs.run_course.Telling.{cut-ends_told}
use Rattle.run_events.specs.Shown.{by_kind, AreTheFirst}
use Rattle.run_events.specs.Seconds.{last_of, span_before, bares_by, overs_by, is_fast, gap_before, gap_by, faults_by, found_by, second_events}
use Rattle.run_events.specs.Gaps.{CutIsTold, OfLast, IsKnownLast, HasGaps}
use Rattle.run_events.specs.Choice.{IsTornIn}
use Rattle.run_events.specs.Running.{IsCutOff}
use Rattle.run_events.proofs.Later.{told-number}
use Rattle.run_events.proofs.Offs.{cut_seen, seen-off, faults-off, flat-off}
use Rattle.run_devices.specs.run_promise.Origin.{Origin, rule_of, start_at, first_of}
use Rattle.run_note_record.specs.Evented.{limit_in, brought_now}
use Rattle.run_note_record.specs.Noting.{Stage, Waking, Acting, Ended, is_told}
use Rattle.run_note_record.specs.EventsSoFar.{FitsSoFar, SoFar, BeginsNow, AFailureCuts}
use Rattle.run_note_record.proofs.Lines.{tells-so}
use Rattle.run_note_record.proofs.Seconds.{cut-goes}
use Rattle.run_note_record.proofs.Whole.{whole-told}
use Rattle.run_note_record.proofs.Parts.{by-until, formers, found-formers}
use Rattle.run_note_record.proofs.Fronts.{IsFormer, DifferAt, old-faults, old-found}
use Rattle.run_note_record.proofs.Brought.{lit-course, told-speed}
use Rattle.run_note_record.proofs.Bringing.{brought-as}
use Rattle.run_note_record.proofs.Choices.{fits-in}
use Rattle.run_note_record.proofs.Noting.{cut-by}
use Rattle.run_note_record.proofs.Adding.{power-now, starts-now, next-as, open-by, open-of, later-images, evented-in}
use Rattle.run_devices.proofs.run_course.Told.{lit-told}

-- ---- by type
kinds-as : (a b c d : Bool) (p q r v w p' q' r' v' w' : List Event) → (a ≡ true → p' ≡ p) → q' ≡ q → r' ≡ r → v' ≡ v → w' ≡ w → cond a p' (cond b q' (cond c r' (cond d v' w'))) ≡ cond a p (cond b q (cond c r (cond d v w)))
kinds-as true b c d p q r v w p' q' r' v' w' hp hq hr hv hw = hp refl
kinds-as false b c d p q r v w p' q' r' v' w' hp hq hr hv hw = λ i. cond b (hq i) (cond c (hr i) (cond d (hv i) (hw i)))

-- an interruption, by a look at its second that differs in nothing that it tells
gap-same : (t : Tearing) (log later : RunLog) (x z : Seen) (found : List Break) → number_of z ≡ number_of x → ((slot : Slot) → standing t z slot ≡ standing t x slot) → ((u : ℕ) → tells_cut u found ≡ true → kept_after later u ≡ kept_after log u) → (spans : List (List Seen)) → OfLast (CutIsTold found) spans →
    gap_before t later spans z ≡ gap_before t log spans x
gap-same t log later x z found number stands kept [] known = refl
gap-same t log later x z found number stands kept (span ∷ []) known = λ i.
    option_to_list (option_map {T = Span} {U = Event} (λ gap. noted_with POWER_INTERRUPTION gap.begin gap.end (record { driver = stands Driver i; codriver = stands CoDriver i })) (gap_of (kept (last_number span) known i) (number i)))
gap-same t log later x z found number stands kept (span ∷ next ∷ spans) known = gap-same t log later x z found number stands kept (next ∷ spans) known

no-gap : (lit starts : Bool) (gap : List Event) → starts ≡ false → cond lit (cond starts gap []) [] ≡ []
no-gap true starts gap is = ap (λ (b : Bool). cond b gap []) is
no-gap false starts gap is = refl

-- what was noted, of a type of which all or nothing was, is the first of all
first-by : (some all : List Event) (b : Bool) → (b ≡ true → some ≡ all) → (b ≡ false → some ≡ []) → (rest : List Event) × (all ≡ some ++ rest)
first-by some all true same none = ([], sym (same refl) ∙ sym (append-nil some))
first-by some all false same none = (all, ap (λ (es : List Event). es ++ all) (sym (none refl)))

-- ---- a cut's line tells nothing else
module _ (o : Origin) (done : List TraceSecond) (p : Progress) (span : List ToldSecond) (s : TraceSecond) (b : BeginsNow o done p span s) (at : Phase) (log : RunLog) (waits : List Visit) (mid now after : Device → ℕ) (m : Moment p (went p.log done).before s at log waits mid now)
    (rose : IsMore now after) (broke : RoseBy 1 (mid Recorder) (after Recorder)) (rest : List Action) (left : IsLeft s at rest) where
  abbrev k : ℕ
  k = begun_by s at

  abbrev line : Break
  line = cut_at s.number true k

  abbrev cut : RunLog
  cut = and_break log line

  abbrev before : Before
  before = (went p.log done).before

  abbrev x : Seen
  x = seen_by log before s

  abbrev z : Seen
  z = seen_by cut before s

  goes-cut : GoesOnBy p cut s
  goes-cut = cut-goes o done p b.followed s at log waits mid now m k

  has : has_power before s ≡ true
  has = power-now o done p span s b

  number-z : number_of z ≡ number_of x
  number-z = told-number cut before s ∙ sym (told-number log before s)

  speed-z : z.told.second.speed ≡ x.told.second.speed
  speed-z = told-speed cut before s has ∙ sym (told-speed log before s has)

  went-cut : (went cut done).before ≡ before
  went-cut = ap (λ (w : Went). w.before) (went-same_ (rule_of o) (start_at o) o.from (first_of o) done p b.followed.order b.followed.next b.followed.unfound s cut goes-cut)

  torn-z : z.told.course.torn ≡ x.told.course.torn
  torn-z =
      let told_cut = (cut-ends_told (rule_of o) (start_at o) o.from (first_of o) done p b.followed span b.lit s at log waits mid now after m rose broke rest left).0 in
      ap (λ (w : Before). (second_told cut w s).course.torn) (sym went-cut) ∙ ap (λ (t : ToldSecond). t.course.torn) told_cut
      ∙ sym (ap (λ (c : Course). c.torn) (lit-course log before s has) ∙ (whole-told log before s at m.up_to m.is).torn)

  pub found-z : z.told.course.found ≡ x.told.course.found
  found-z =
      let told_cut = (cut-ends_told (rule_of o) (start_at o) o.from (first_of o) done p b.followed span b.lit s at log waits mid now after m rose broke rest left).0 in
      ap (λ (w : Before). (second_told cut w s).course.found) (sym went-cut) ∙ ap (λ (t : ToldSecond). t.course.found) told_cut
      ∙ sym (ap (λ (c : Course). c.found) (lit-course log before s has) ∙ (whole-told log before s at m.up_to m.is).found)

  lit-z : z.told.lit ≡ x.told.lit
  lit-z = (lit-told cut before s has).lit ∙ sym (lit-told log before s has).lit

  starts-z : z.told.starts ≡ x.told.starts
  starts-z = (lit-told cut before s has).starts ∙ sym (lit-told log before s has).starts

  -- the choice fits
  pub fits-cut : (stage : Stage) (t : Tearing) → FitsSoFar stage s t x → IsTornIn t z
  fits-cut stage t was = fits-in cut before s has stage t (record {
    put_in = was.put_in;
    still = λ sl still torn accepted. was.still sl still (sym (ap (list_any (λ (w : Visit). same_phase w.phase (In 0) && same_slot w.slot sl)) torn-z) ∙ torn)
        (sym (ap (λ (l : List (Visit × Verdict)). is_some (first_card (filter (λ (f : Visit × Verdict). same_phase f.0.phase (In 0) && (same_slot f.0.slot sl && is_accepting f.1)) l))) found-z) ∙ accepted);
    before = λ sl nobody. was.before sl (sym (ap (λ (l : List (Visit × Verdict)). first_card (filter (λ (f : Visit × Verdict). same_phase f.0.phase (In 0) && (same_slot f.0.slot sl && is_accepting f.1)) l)) found-z) ∙ nobody);
    waking = was.waking;
  })

  or-none : (c : Bool) → (c || false) ≡ c
  or-none true = refl
  or-none false = refl

  -- the cut's line tells how many actions had begun, and no tear or find
  cut-here : cut_in cut s.number ≡ Some k
  cut-here =
      (break-more log line s.number).cut
      ∙ ap (λ (c : Bool). cond (is_some (cut_in log s.number)) (cut_in log s.number) (cond c (Some k) None)) (same-self s.number)
      ∙ first (cut_in log s.number) k m.up_to.uncut
    where
      same-self : (n : ℕ) → nat_eq n n ≡ true
      same-self n = grind (arith, nat_tests)

      first : (o : Option ℕ) (n : ℕ) → o ≡ None → cond (is_some o) o (Some n) ≡ Some n
      first o n is = ap (λ (q : Option ℕ). cond (is_some q) q (Some n)) is

  tears-cut : (u : ℕ) (q : Phase) (slot : Slot) → is_torn_in cut u q slot ≡ is_torn_in log u q slot
  tears-cut u q slot = (break-more log line u).torn q slot ∙ or-none (is_torn_in log u q slot)

  -- behind all actions it is a cut as an `off` line tells it
  off-cut : at ≡ Keeping → IsCutOff log cut s
  off-cut is = record {
    uncut = m.up_to.uncut;
    cut = cut-here ∙ ap (λ (q : Phase). Some (begun_by s q)) is;
    torn = tears-cut s.number;
    found = λ q slot. (break-more log line s.number).found q slot;
  }

  seen-cut : at ≡ Keeping → z ≡ cut_seen x
  seen-cut is = seen-off log cut s (off-cut is) before has

  itself-z : at ≡ Keeping → z.itself ≡ x.itself
  itself-z is = ap (λ (y : Seen). y.itself) (seen-cut is)

  -- or at its power-on or an action, and nothing was told of the moments behind that
  module _ (n : ℕ) (is : at ≡ In n) where
    course-at : (j : ℕ) → j ≤ n → course_by cut before s j ≡ course_by log before s j
    course-at j le = later-lines log cut before s j (record {
      none = m.up_to.uncut;
      behind = inr (k, cut-here, (let same : k ≡ n = ap (begun_by s) is in omega (arith, same, le)));
      torn = λ i slot low. tears-cut s.number (In i) slot;
      found = λ i slot low. (break-more log line s.number).found (In i) slot;
    })

    action-at : (j : ℕ) (o : Option Action) → course_by cut before s j ≡ course_by log before s j → moved_by_action cut before s j o ≡ moved_by_action log before s j o
    action-at j None same = ap (λ (c : Course). c.slots) same
    action-at j (Some a) same = ap (λ (c : Course). (answered j (refusal c.slots s.speed a) a c).slots) same

    within-at : (j : ℕ) → j < suc n → within_by cut before s j ≡ within_by log before s j
    within-at zero lt = refl
    within-at (suc j) lt = action-at j (slice_get s.actions j) (course-at j (omega (arith, lt)))

    here-by : course_by log before s n ≡ course_at log before s at
    here-by = at-by log before s m.up_to.uncut n (subst (IsMoment s) is m.is) ∙ ap (course_at log before s) (sym is)

    torn-by : x.told.course.torn ≡ (course_by log before s n).torn
    torn-by = ap (λ (c : Course). c.torn) (lit-course log before s has) ∙ (whole-told log before s at m.up_to m.is).torn ∙ ap (λ (c : Course). c.torn) (sym here-by)

    found-by_log : x.told.course.found ≡ (course_by log before s n).found
    found-by_log = ap (λ (c : Course). c.found) (lit-course log before s has) ∙ (whole-told log before s at m.up_to m.is).found ∙ ap (λ (c : Course). c.found) (sym here-by)

    abbrev torn_now : List Visit
    torn_now = x.told.course.torn

    abbrev found_now : List (Visit × Verdict)
    found_now = x.told.course.found

    torn-former : AllByRecursion (IsFormer (In (suc n))) torn_now
    torn-former = subst (AllByRecursion (IsFormer (In (suc n)))) (sym torn-by)
        (formers n (In (suc n)) (λ j le. omega (arith, le)) (course_by log before s n).torn (by-until log s m.up_to.uncut before n).torn)

    found-former : AllByRecursion (λ (f : Visit × Verdict). IsFormer (In (suc n)) f.0) found_now
    found-former = subst (AllByRecursion (λ (f : Visit × Verdict). IsFormer (In (suc n)) f.0)) (sym found-by_log)
        (found-formers n (In (suc n)) (λ j le. omega (arith, le)) (course_by log before s n).found (by-until log s m.up_to.uncut before n).found)

    differ : (t : Tearing) → DifferAt (In (suc n)) torn_now found_now [] [] [] [] t t x z
    differ t = record {
      number = number-z;
      speed = speed-z;
      torn_x = sym (append-nil torn_now);
      torn_y = torn-z ∙ sym (append-nil torn_now);
      found_x = sym (append-nil found_now);
      found_y = found-z ∙ sym (append-nil found_now);
      xs_here = tt;
      ys_here = tt;
      fs_here = tt;
      gs_here = tt;
      torn_before = torn-former;
      found_before = found-former;
      after = λ j lt. ap (λ (c : Course). c.slots) (course-at j (omega (arith, lt)));
      within = λ j lt. within-at j lt;
      by_gap = λ other slot. ap (λ (u : ℕ). t.by_gap u slot) number-z;
      driver_first = λ j other. ap (λ (u : ℕ). t.driver_first u (suc j)) number-z;
    }

    faults-in : (t : Tearing) → faults_by t cut z ≡ faults_by t log x
    faults-in t =
        ap (λ (vs : List Visit). map (fault_of t cut z) (torn_in_turn t z vs)) torn-z
        ∙ old-faults (In (suc n)) torn_now found_now [] [] [] [] t t x z (differ t) log cut

    found-in : (t : Tearing) (kind : ℕ) (own : ℕ → Visit → ℕ) → found_by kind own t z ≡ found_by kind own t x
    found-in t kind own =
        ap (flat_map (λ (f : Visit × Verdict). found_events kind (own (number_of z) f.0) t z f.0 f.1)) found-z
        ∙ old-found (In (suc n)) torn_now found_now [] [] [] [] t t x z (differ t) kind own own (λ v former. ap (λ (u : ℕ). own u v) number-z) found_now found-former

  bare-z : at ≡ Keeping → is_bare z ≡ is_bare x
  bare-z is_at = λ i. nat_lt 0 (speed-z i) && not (is_accepted (itself-z is_at i).driver)

  fast-z : (limit : ℕ) → is_fast limit z ≡ is_fast limit x
  fast-z limit = λ i. is_fast limit (record x { told = record x.told { second = record x.told.second { number = number-z i; speed = speed-z i } } })

  -- and it brings the same over speedings
  pub overs-cut : (limit : ℕ) → let spans : List (List Seen) = seen_spans (seen_of p.log done) in
      cond x.told.lit (overs_by limit (span_before spans x) (x ∷ [])) [] ≡ cond z.told.lit (overs_by limit (span_before spans z) (z ∷ [])) []
  overs-cut limit = λ i. cond (sym lit-z i) (filter_map over_event (cond (sym (fast-z limit) i) [] (last_run (is_fast limit) (cond (sym starts-z i) [] (last_of (seen_spans (seen_of p.log done)))) ∷ []) ++ [])) []

  -- and behind all actions the same driving without a card
  pub bares-cut : at ≡ Keeping → let spans : List (List Seen) = seen_spans (seen_of p.log done) in
      cond x.told.lit (bares_by (span_before spans x) (x ∷ [])) [] ≡ cond z.told.lit (bares_by (span_before spans z) (z ∷ [])) []
  bares-cut is_at = λ i. cond (sym lit-z i) (filter_map bare_event (cond (sym (bare-z is_at) i) [] (last_run is_bare (cond (sym starts-z i) [] (last_of (seen_spans (seen_of p.log done)))) ∷ []) ++ [])) []

  -- IT BRINGS THE SAME: faults, what its judged cards bring,
  faults-cut : (t : Tearing) (spans : List (List Seen)) (q : Phase) → at ≡ q → faults_by t cut z ≡ faults_by t log x
  faults-cut t spans (In n) is = faults-in n is t
  faults-cut t spans Keeping is = ap (faults_by t cut) (seen-cut is) ∙ faults-off log cut t spans x (tears-cut (number_of x) Keeping Driver)

  found-cut : (t : Tearing) (spans : List (List Seen)) (kind : ℕ) (own : ℕ → Visit → ℕ) (q : Phase) → at ≡ q → found_by kind own t z ≡ found_by kind own t x
  found-cut t spans kind own (In n) is = found-in n is t kind own
  found-cut t spans kind own Keeping is = ap (found_by kind own t) (seen-cut is) ∙ flat-off log cut t spans x (tears-cut (number_of x) Keeping Driver) kind own x.told.course.found

  -- the interruption before it,
  stands-cut : (t : Tearing) (slot : Slot) → standing t z slot ≡ standing t x slot
  stands-cut t slot = λ i.
      cond (list_any (λ (v : Visit). same_phase v.phase (In 0) && same_slot v.slot slot) (torn-z i) && not (t.by_gap (number-z i) slot)) None
      (first_card (filter (λ (f : Visit × Verdict). same_phase f.0.phase (In 0) && (same_slot f.0.slot slot && is_accepting f.1)) (found-z i)))

  module _ (gaps : HasGaps p.log p.unfound p.supply done) (t : Tearing) where
    abbrev spans : List (List Seen)
    spans = seen_spans (seen_of p.log done)

    known-cut : (u : ℕ) → tells_cut u (take p.unfound p.log.breaks) ≡ true → kept_after cut u ≡ kept_after log u
    known-cut u told = (tells-so o done p b.followed s cut goes-cut).known u told ∙ sym ((tells-so o done p b.followed s log (goes_on m)).known u told)

    starts-x : x.told.starts ≡ begins_with span
    starts-x = (lit-told log before s has).starts ∙ starts-now o done p span s b

    gaps-by : (lit_span : List ToldSecond) → p.supply ≡ Lit lit_span → x.told.starts ≡ begins_with lit_span → gap_by t cut spans z ≡ gap_by t log spans x
    gaps-by [] is starts =
        let before_it : gap_before t cut spans z ≡ gap_before t log spans x =
        gap-same t log cut x z (take p.unfound p.log.breaks) number-z (stands-cut t) known-cut spans (subst (λ (u : UnitPower). IsKnownLast u p.log (take p.unfound p.log.breaks) spans) is gaps.last) in
        λ i. cond (lit-z i) (cond (starts-z i) (before_it i) []) []
    gaps-by (u ∷ more) is starts =
        no-gap z.told.lit z.told.starts (gap_before t cut spans z) (starts-z ∙ starts) ∙ sym (no-gap x.told.lit x.told.starts (gap_before t log spans x) starts)

    not-acting : (a b : Bool) → a ≡ true → (not a && not b) ≡ false
    not-acting true b is = refl
    not-acting false b is = absurd (let wrong : false ≡ true = is in cc)

    -- and, of the types that were noted by then, all
    pub same-brought : (kind limit : ℕ) (own : ℕ → Visit → ℕ) → (is_told Acting kind ≡ false → at ≡ Keeping) → second_events kind limit own t cut spans z ≡ second_events kind limit own t log spans x
    same-brought kind limit own late = kinds-as (kind == DRIVING_WITHOUT_CARD) (kind == OVER_SPEEDING) (kind == POWER_INTERRUPTION) (kind == CARD_FAULT)
        (cond x.told.lit (bares_by (span_before spans x) (x ∷ [])) []) (cond x.told.lit (overs_by limit (span_before spans x) (x ∷ [])) []) (gap_by t log spans x) (faults_by t log x) (found_by kind own t x)
        (cond z.told.lit (bares_by (span_before spans z) (z ∷ [])) []) (cond z.told.lit (overs_by limit (span_before spans z) (z ∷ [])) []) (gap_by t cut spans z) (faults_by t cut z) (found_by kind own t z)
        (λ is. sym (bares-cut (late (not-acting (kind == DRIVING_WITHOUT_CARD) (kind == OVER_SPEEDING) is))))
        (sym (overs-cut limit))
        (gaps-by span b.lit starts-x)
        (faults-cut t spans at refl)
        (found-cut t spans kind own at refl)

-- ---- THE LAW
pub failure-cuts : (d e : Devices) → AFailureCuts d e
failure-cuts d e o done p span s b stage next log later es v adds says left at waits mid now after m rose broke rest is_left late =
    let before : Before = (went p.log done).before in
    let cut : RunLog = and_break later (cut_at s.number true (begun_by s at)) in
    let goes_later : GoesOnBy p later s = goes_on m in
    let goes : GoesOnBy p cut s = cut-goes o done p b.followed s at later waits mid now m (begun_by s at) in
    let so : SoFar o done s next later (v.more ++ es) e = adds.on v.more (later-images o done s stage log v.more d e left v.so_far) in
    let fits : FitsSoFar next s so.here (seen_by later before s) = subst (FitsSoFar next s so.here) (next-as o done p span s b later goes_later) so.fits in
    let cut_as = next-as o done p span s b cut goes in
    let same : (kind : ℕ) → Contains all_kinds kind → is_told next kind ≡ true → by_kind (v.more ++ es) kind ≡ brought_now o cut done s so.here so.own kind = λ kind there told.
    so.told kind there told ∙ brought-as o done p b.followed s later goes_later so.here so.own kind
    ∙ sym (same-brought o done p span s b at later waits mid now after m rose broke rest is_left v.gaps so.here kind (limit_in o) so.own (λ off. late (only-ended next kind told off)))
    ∙ sym (brought-as o done p b.followed s cut goes so.here so.own kind) in
    let firsts : AreTheFirst (by_kind (v.more ++ es)) (brought_now o cut done s so.here so.own) = λ kind there.
    first-by (by_kind (v.more ++ es) kind) (brought_now o cut done s so.here so.own kind) (is_told next kind) (same kind there) (so.untold kind there) in
    cut-by d e o done p b.followed span b.lit s at later waits mid now after m rose broke rest is_left stage log (evented-in o done s p stage log d v) so.here so.own
    (subst (IsTornIn so.here) (sym cut_as) (fits-cut o done p span s b at later waits mid now after m rose broke rest is_left next so.here fits))
    (open-of o done p span s b cut goes so.own e
    (λ f among accepts. open-by o done p span s b later goes_later so.own e so.open_now f
    (subst (λ (l : List (Visit × Verdict)). Contains l f) (found-z o done p span s b at later waits mid now after m rose broke rest is_left) among) accepts))
    left es firsts says
  where
    only-ended : (next : Stage) (kind : ℕ) → is_told next kind ≡ true → is_told Acting kind ≡ false → next ≡ Ended
    only-ended Ended kind told off = refl
    only-ended Acting kind told off = absurd (let wrong : true ≡ false = sym told ∙ off in cc)
    only-ended Waking kind told off = absurd (by (kind == DRIVING_WITHOUT_CARD) (kind == OVER_SPEEDING) (kind == POWER_INTERRUPTION) told off)
      where
        by : (a b c : Bool) → (not a && not b && not c) ≡ true → (not a && not b) ≡ false → ⊥
        by true b c told off = absurd (let wrong : false ≡ true = told in cc)
        by false true c told off = absurd (let wrong : false ≡ true = told in cc)
        by false false c told off = absurd (let wrong : true ≡ false = off in cc)
