-- The interruptions that a card has, by a log that tells more.
use Rattle.std.proofs.Common.{◌≡◌, ◌∙◌, ◌⊎◌, inl, inr, ⊎_elim, ℕ, ◌+◌, ◌<◌, Bool, true, false, cond, not, ◌||◌, Option, Some, None, is_some, nat_eq, option_map, List, [], ◌∷◌, ◌++◌, map, refl, sym, ap, subst, arith, append_assoc, append-nil}
use Rattle.std.specs.Prelude.{◌&&◌, filter, fold, option_to_list}
use Rattle.std.specs.List.{list_any, AllByRecursion}
use Rattle.std.proofs.lemmas.Bool.Decides.{nat_tests}
use Rattle.activity_codec.specs.declared.values.Slot.{Slot}
use Rattle.activity_codec.specs.declared.values.Slot.TheVariants.{Driver, CoDriver}
use Rattle.activity_codec.specs.Activity.{same_slot}
use Rattle.trace_model.specs.declared.Card.{Card}
use Rattle.trace_model.specs.declared.Action.{Action}
use Rattle.trace_model.specs.declared.Action.TheVariants.{Select, Insert, Withdraw, Tear as Pull, Place, Manual}
use Rattle.trace_model.specs.Trace.{TraceSecond}
use Rattle.tacho_types.specs.declared.texts.Registration.{Registration}
use Rattle.log_model.specs.declared.lines.Break.{Break}
use Rattle.log_model.specs.declared.lines.Break.TheVariants.{Cut, Tear}
use Rattle.log_model.specs.declared.lines.Verdict.{Verdict}
use Rattle.log_model.specs.Causes.{second_of}
use Rattle.log_model.specs.Log.{RunLog, Phase, In, Keeping, same_phase, cut_in, found_in, kept_by, kept_after, is_accepting}
use Rattle.log_model.specs.Slots.{Sitting, same_card, in_slot, refusal}
use Rattle.log_model.specs.Course.{Course, Visit, Before, Moved, card_in, visits, both_told, unmoved, all_acted, acted, answered, moved_by, begins, is_settling, cut_told, lit_course, slot_told, second_told, has_power, dark_course, ToldSecond, not_begun}
use Rattle.log_model.specs.declared.lines.SlotFault.{SlotFault}
use Rattle.unit_notes.specs.event_model.declared.entries.Span.{Span}
use Rattle.unit_notes.specs.event_model.declared.kinds.TheConstants.{POWER_INTERRUPTION}
use Rattle.unit_notes.specs.event_model.Spans.{gap_of}
use Rattle.unit_notes.specs.event_model.Events.{Event, Crew, Seen, Tearing, Watched, number_of, seen_of, seen_on, seen_with, seen_spans, seen_by, watched_on, noted_with, last_number, gap_event, first_card, standing}
use Rattle.unit_notes.specs.note_model.Done.{has_failed_in, course_powered}
use Rattle.device_calls.specs.run_unit_course.Lines.{tells_cut}
use Rattle.run_events.specs.Seconds.{gap_before, gap_by}
use Rattle.run_events.specs.Gaps.{IsKnownGap, AreKnownGaps}
use Rattle.run_events.proofs.Gaps.{gap-nothing, known-first}
use Rattle.run_events.proofs.Growing.{AreSome, some-spans, spans-more}
use Rattle.run_events.proofs.run_course.Lookups.{break-more}
use Rattle.run_events.proofs.run_course.Told.{lit-told}
use Rattle.run_note_record.proofs.Brought.{lit-course}
use Rattle.run_acts.specs.OnCards.{is_card, has_card, as_accepted, gaps_on, gap_entry, enters, falls, is_sure_in, met_behind}
use Rattle.run_acts.proofs.CardBrings.{all-both}
use Rattle.run_acts.proofs.CardSeconds.{GapGoes, GapsGo}
use Rattle.run_acts.proofs.CardCourse.{Finding, findings, IsPowered, sitting_at, powered-quiet, powered-as, slot-found, slot-entered}
use Rattle.run_acts.proofs.CardSecond.{any-more, accepted-others, standing-is}

-- ---- what was kept after the cuts of earlier seconds

none-of : (u n : ℕ) (b : Break) → second_of b ≡ n → nat_eq n u ≡ false → kept_by u b ≡ None
none-of u n (Cut second kept failed begun) is other = ap (λ (t : Bool). cond {A = Option ℕ} t (Some kept) None) (ap (λ (m : ℕ). nat_eq m u) is ∙ other)
none-of u n (Tear second slot failed begun late) is other = refl

abbrev log_with : List Break → RunLog
log_with bs = record { breaks = bs; refused = []; finds = [] }

lines-kept : (u n : ℕ) (bs more : List Break) → AllByRecursion (λ (b : Break). second_of b ≡ n) more → nat_eq n u ≡ false → kept_after (log_with (bs ++ more)) u ≡ kept_after (log_with bs) u
lines-kept u n bs [] h other = ap (λ (l : List Break). kept_after (log_with l) u) (append-nil bs)
lines-kept u n bs (b ∷ more) h other =
    ap (λ (l : List Break). kept_after (log_with l) u) (sym (append_assoc bs (b ∷ []) more))
    ∙ lines-kept u n (bs ++ b ∷ []) more h.1 other
    ∙ (break-more (log_with bs) b u).kept (none-of u n b h.0 other)

pub kept-before : (log later : RunLog) (more : List Break) (n : ℕ) → later.breaks ≡ log.breaks ++ more → AllByRecursion (λ (b : Break). second_of b ≡ n) more → (u : ℕ) → u < n → kept_after later u ≡ kept_after log u
unfolding kept_after
kept-before log later more n are here u lt =
    ap (λ (bs : List Break). kept_after (log_with bs) u) are ∙ lines-kept u n log.breaks more here (let off : nat_eq n u ≡ false = grind (arith, nat_tests) in off)

-- ---- power spans of seconds, of which each has this

abbrev pub AllSpans : (Seen → Type 0) → List (List Seen) → Type 0
AllSpans P spans = AllByRecursion (λ (span : List Seen). AllByRecursion P span) spans

pub all-push : {X : Type 0} (P : X → Type 0) (xs : List X) (x : X) → AllByRecursion P xs → P x → AllByRecursion P (xs ++ x ∷ [])
all-push P [] x h k = (k, tt)
all-push P (y ∷ xs) x h k = (h.0, all-push P xs x h.1 k)

module _ (P : Seen → Type 0) where
  all-on : (spans : List (List Seen)) (x : Seen) → AllSpans P spans → P x → AllSpans P (seen_on spans x)
  all-on [] x h k = ((k, tt), tt)
  all-on (span ∷ []) x h k = (all-push P span x h.0 k, tt)
  all-on (span ∷ next ∷ spans) x h k = (h.0, all-on (next ∷ spans) x h.1 k)

  all-with : (spans : List (List Seen)) (x : Seen) → AllSpans P spans → P x → AllSpans P (seen_with spans x)
  all-with spans x h k = by x.told.lit x.told.starts
    where
      by : (lit starts : Bool) → AllSpans P (cond lit (cond starts (spans ++ (x ∷ []) ∷ []) (seen_on spans x)) spans)
      by true true = all-push (λ (span : List Seen). AllByRecursion P span) spans (x ∷ []) h (k, tt)
      by true false = all-on spans x h k
      by false starts = h

  all-fold : (xs : List Seen) (spans : List (List Seen)) → AllSpans P spans → AllByRecursion P xs → AllSpans P (fold seen_with spans xs)
  all-fold [] spans h all = h
  all-fold (x ∷ xs) spans h all = all-fold xs (seen_with spans x) (all-with spans x h all.0) all.1

  pub all-spans : (xs : List Seen) → AllByRecursion P xs → AllSpans P (seen_spans xs)
  all-spans xs all = all-fold xs [] tt all

last-low : (n : ℕ) (span : List Seen) (m : ℕ) → m < n → AllByRecursion (λ (x : Seen). number_of x < n) span → fold (λ last x. number_of x) m span < n
last-low n [] m lt all = lt
last-low n (x ∷ span) m lt all = last-low n span (number_of x) all.0 all.1

lows : (n : ℕ) → 0 < n → (spans : List (List Seen)) → AllSpans (λ (x : Seen). number_of x < n) spans → AllByRecursion (λ (span : List Seen). last_number span < n) spans
lows n some [] all = tt
lows n some (span ∷ spans) all = (last-low n span 0 some all.0, lows n some spans all.1)

pub low-spans : (n : ℕ) → 0 < n → (xs : List Seen) → AllByRecursion (λ (x : Seen). number_of x < n) xs → AllByRecursion (λ (span : List Seen). last_number span < n) (seen_spans xs)
low-spans n some xs all = lows n some (seen_spans xs) (all-spans (λ (x : Seen). number_of x < n) xs all)

-- ---- the interruptions between spans, where what was kept after these is the same

gap-same : (t : Tearing) (log later : RunLog) (span next : List Seen) → kept_after later (last_number span) ≡ kept_after log (last_number span) → gap_event t later span next ≡ gap_event t log span next
gap-same t log later span [] is = refl
gap-same t log later span (x ∷ next) is =
    ap (λ (k : ℕ). option_to_list (option_map {T = Span} {U = Event} (λ gap. noted_with POWER_INTERRUPTION gap.begin gap.end (record { driver = standing t x Driver; codriver = standing t x CoDriver })) (gap_of k (number_of x)))) is

module _ (t : Tearing) (log later : RunLog) (n : ℕ) (kept : (u : ℕ) → u < n → kept_after later u ≡ kept_after log u) where
  pub before-same : (spans : List (List Seen)) (x y : Seen) → number_of y ≡ number_of x → ((slot : Slot) → standing t y slot ≡ standing t x slot) → AllByRecursion (λ (span : List Seen). last_number span < n) spans → gap_before t later spans y ≡ gap_before t log spans x
  before-same [] x y number stands low = refl
  before-same (span ∷ []) x y number stands low = λ i.
      option_to_list
      (option_map {T = Span} {U = Event} (λ gap. noted_with POWER_INTERRUPTION gap.begin gap.end (record { driver = stands Driver i; codriver = stands CoDriver i }))
      (gap_of (kept (last_number span) low.0 i) (number i)))
  before-same (span ∷ next ∷ spans) x y number stands low = before-same (next ∷ spans) x y number stands low.1

-- ---- so earlier seconds are met as they were

all-first : {X : Type 0} (P : X → Type 0) (xs ys : List X) → AllByRecursion P (xs ++ ys) → AllByRecursion P xs
all-first P [] ys h = tt
all-first P (x ∷ xs) ys h = (h.0, all-first P xs ys h.1)

module _ (log later : RunLog) (n : ℕ) (some : 0 < n) (kept : (u : ℕ) → u < n → kept_after later u ≡ kept_after log u) where
  pub met-same : (behind xs : List Seen) → AllByRecursion (λ (x : Seen). number_of x < n) (behind ++ xs) → met_behind later behind xs ≡ met_behind log behind xs
  met-same behind [] all = refl
  met-same behind (x ∷ xs) all = λ i.
      record {
        seen = x;
        gap = cond x.told.lit (cond x.told.starts (before-same as_accepted log later n kept (seen_spans behind) x x refl (λ slot. refl) (low-spans n some behind (all-first (λ (y : Seen). number_of y < n) behind (x ∷ xs) all)) i) []) [];
      }
      ∷ met-same (behind ++ x ∷ []) xs (subst (AllByRecursion (λ (y : Seen). number_of y < n)) (sym (append_assoc behind (x ∷ []) xs)) all) i

-- ---- a card that met power in a second

abbrev crew_at : Seen → Crew
crew_at x = record { driver = standing as_accepted x Driver; codriver = standing as_accepted x CoDriver }

-- WHO WAS ACCEPTED AT A POWER-ON entered then
pub record MetPower (c : Card) (x : Seen) : Type 0 where
  pub starts : x.told.starts ≡ true
  pub entered : enters c x ≡ true

abbrev is_now : Slot → Finding → Bool
is_now slot f = same_phase f.0.phase (In 0) && (same_slot f.0.slot slot && is_accepting f.1)

abbrev is_of : Card → Finding → Bool
is_of c f = same_card f.0.card c

first-among : (c : Card) (q : Finding → Bool) (fs : List Finding) → is_card (first_card (filter q fs)) c ≡ true → list_any (is_of c) fs ≡ true
first-among c q [] is = absurd (let wrong : false ≡ true = is in cc)
first-among c q (f ∷ fs) is = by (q f) is (first-among c q fs)
  where
    or-right : (b : Bool) → list_any (is_of c) fs ≡ true → (b || list_any (is_of c) fs) ≡ true
    or-right true h = refl
    or-right false h = h

    by : (b : Bool) → is_card (first_card (cond b (f ∷ filter q fs) (filter q fs))) c ≡ true → (is_card (first_card (filter q fs)) c ≡ true → list_any (is_of c) fs ≡ true) → (same_card f.0.card c || list_any (is_of c) fs) ≡ true
    by true h rest = ap (λ (t : Bool). t || list_any (is_of c) fs) h
    by false h rest = or-right (same_card f.0.card c) (rest h)

any-split : {X : Type 0} (p : X → Bool) (xs ys : List X) → list_any p (xs ++ ys) ≡ true → (list_any p xs ≡ true) ⊎ (list_any p ys ≡ true)
any-split p [] ys is = inr is
any-split p (x ∷ xs) ys is = by (p x) is (any-split p xs ys)
  where
    by : (b : Bool) → (b || list_any p (xs ++ ys)) ≡ true → (list_any p (xs ++ ys) ≡ true → (list_any p xs ≡ true) ⊎ (list_any p ys ≡ true)) → ((b || list_any p xs) ≡ true) ⊎ (list_any p ys ≡ true)
    by true is rest = inl refl
    by false is rest = rest is

any-right : {X : Type 0} (p : X → Bool) (xs ys : List X) → list_any p ys ≡ true → list_any p (xs ++ ys) ≡ true
any-right p [] ys is = is
any-right p (x ∷ xs) ys is = by (p x) (any-right p xs ys is)
  where
    by : (b : Bool) → list_any p (xs ++ ys) ≡ true → (b || list_any p (xs ++ ys)) ≡ true
    by true rest = refl
    by false rest = rest

of-visit : (c : Card) (v : Visit) (verdicts : List Verdict) → list_any (is_of c) (map (λ (w : Verdict). (v, w)) verdicts) ≡ true → same_card v.card c ≡ true
of-visit c v [] is = absurd (let wrong : false ≡ true = is in cc)
of-visit c v (w ∷ verdicts) is = by (same_card v.card c) refl (of-visit c v verdicts)
  where
    by : (b : Bool) → same_card v.card c ≡ b → (list_any (is_of c) (map (λ (x : Verdict). (v, x)) verdicts) ≡ true → same_card v.card c ≡ true) → same_card v.card c ≡ true
    by true same rest = same
    by false other rest = rest (sym (ap (λ (b : Bool). b || list_any (is_of c) (map (λ (x : Verdict). (v, x)) verdicts)) other) ∙ is)

among-sitting : (c : Card) (slot : Slot) (verdicts : List Verdict) (o : Option Sitting) → list_any (is_of c) (findings verdicts (sitting_at slot o)) ≡ true → list_any (λ (v : Visit). same_card v.card c) (sitting_at slot o) ≡ true
among-sitting c slot verdicts None is = is
among-sitting c slot verdicts (Some x) is =
    ap (λ (b : Bool). b || false) (of-visit c (record { phase = In 0; slot = slot; card = x.card }) verdicts (sym (ap (list_any (is_of c)) (append-nil (map (λ (w : Verdict). (record { phase = In 0; slot = slot; card = x.card }, w)) verdicts))) ∙ is))

-- what a course of actions finds behind a power-on is of other moments, and no fewer have entered
abbrev pub IsOther : Finding → Type 0
IsOther f = same_phase f.0.phase (In 0) ≡ false

pub record GoesBy (c d : Course) : Type 0 where
  pub finds : List Finding
  pub found : d.found ≡ c.found ++ finds
  pub others : AllByRecursion IsOther finds
  pub more : List Visit
  pub entered : d.entered ≡ c.entered ++ more

goes-none : (c d : Course) → d.found ≡ c.found → d.entered ≡ c.entered → GoesBy c d
goes-none c d found entered = record { finds = []; found = found ∙ sym (append-nil c.found); others = tt; more = []; entered = entered ∙ sym (append-nil c.entered) }

goes-then : (a b c : Course) → GoesBy a b → GoesBy b c → GoesBy a c
goes-then a b c p q = record {
  finds = p.finds ++ q.finds;
  found = q.found ∙ ap (λ (fs : List Finding). fs ++ q.finds) p.found ∙ append_assoc a.found p.finds q.finds;
  others = all-both IsOther p.finds q.finds p.others q.others;
  more = p.more ++ q.more;
  entered = q.entered ∙ ap (λ (vs : List Visit). vs ++ q.more) p.entered ∙ append_assoc a.entered p.more q.more;
}

others-of : (p : Phase) (slot : Slot) (verdicts : List Verdict) (o : Option Sitting) → same_phase p (In 0) ≡ false → AllByRecursion IsOther (findings verdicts (map (λ (card : Card). record { phase = p; slot = slot; card = card }) (card_in o)))
others-of p slot verdicts None off = tt
others-of p slot verdicts (Some x) off = all-both IsOther (map (λ (w : Verdict). (record { phase = p; slot = slot; card = x.card }, w)) verdicts) [] (each verdicts) tt
  where
    each : (ws : List Verdict) → AllByRecursion IsOther (map (λ (w : Verdict). (record { phase = p; slot = slot; card = x.card }, w)) ws)
    each [] = tt
    each (w ∷ ws) = (off, each ws)

goes-slot : (log : RunLog) (u : ℕ) (p : Phase) (moved : Moved) (slot : Slot) (c : Course) → same_phase p (In 0) ≡ false → GoesBy c (slot_told log u p moved slot c)
goes-slot log u p moved slot c off = record {
  finds = findings (cond (moved.enters slot) (found_in log u p slot) []) (visits p slot c.slots);
  found = slot-found log u p moved slot c;
  others = others-of p slot (cond (moved.enters slot) (found_in log u p slot) []) (in_slot c.slots slot) off;
  more = [];
  entered = slot-entered log u p moved slot c ∙ sym (append-nil c.entered);
}

goes-both : (log : RunLog) (u : ℕ) (p : Phase) (moved : Moved) (c : Course) → same_phase p (In 0) ≡ false → GoesBy c (both_told log u p moved c)
goes-both log u p moved c off = goes-then c (slot_told log u p moved Driver c) (both_told log u p moved c) (goes-slot log u p moved Driver c off) (goes-slot log u p moved CoDriver (slot_told log u p moved Driver c) off)

goes-answered : (n : ℕ) (r : Option SlotFault) (a : Action) (c : Course) → GoesBy c (answered n r a c)
goes-answered n (Some fault) a c = goes-none c (answered n (Some fault) a c) refl refl
goes-answered n None (Select slot pick) c = goes-none c (answered n None (Select slot pick) c) refl refl
goes-answered n None (Insert slot card) c = record { finds = []; found = sym (append-nil c.found); others = tt; more = record { phase = In (n + 1); slot = slot; card = card } ∷ []; entered = refl }
goes-answered n None (Withdraw slot) c = goes-none c (answered n None (Withdraw slot) c) refl refl
goes-answered n None (Pull slot) c = goes-none c (answered n None (Pull slot) c) refl refl
goes-answered n None (Place slot ending country region) c = goes-none c (answered n None (Place slot ending country region) c) refl refl
goes-answered n None (Manual slot pick minute) c = goes-none c (answered n None (Manual slot pick minute) c) refl refl

goes-acted : (log : RunLog) (s : TraceSecond) (n : ℕ) (a : Action) (c : Course) → GoesBy c (acted log s n a c)
goes-acted log s n a c = by (begins (cut_in log s.number) n)
  where
    by : (b : Bool) → GoesBy c (cond b (both_told log s.number (In (n + 1)) (moved_by n (refusal c.slots s.speed a) a c.slots) (answered n (refusal c.slots s.speed a) a c)) (record c { settled = c.settled || is_settling a }))
    by true =
        goes-then c (answered n (refusal c.slots s.speed a) a c) (both_told log s.number (In (n + 1)) (moved_by n (refusal c.slots s.speed a) a c.slots) (answered n (refusal c.slots s.speed a) a c)) (goes-answered n (refusal c.slots s.speed a) a c)
        (goes-both log s.number (In (n + 1)) (moved_by n (refusal c.slots s.speed a) a c.slots) (answered n (refusal c.slots s.speed a) a c) (let off : nat_eq (n + 1) 0 ≡ false = grind (arith, nat_tests) in off))
    by false = goes-none c (record c { settled = c.settled || is_settling a }) refl refl

goes-all : (log : RunLog) (s : TraceSecond) (n : ℕ) (xs : List Action) (c : Course) → GoesBy c (all_acted log s n xs c)
goes-all log s n [] c = goes-none c c refl refl
goes-all log s n (x ∷ xs) c = goes-then c (acted log s n x c) (all_acted log s (n + 1) xs (acted log s n x c)) (goes-acted log s n x c) (goes-all log s (n + 1) xs (acted log s n x c))

goes-cut : (b : Bool) (c : Course) → GoesBy c (cut_told b c)
goes-cut false c = goes-none c c refl refl
goes-cut true c = goes-none c (cut_told true c) refl refl

goes-lit : (log : RunLog) (was : Before) (s : TraceSecond) → GoesBy (course_powered log was s) (lit_course log s (not was.running) was.slots)
goes-lit log was s =
    let acts : Course = all_acted log s 0 s.actions (course_powered log was s) in
    let kept : Course = both_told log s.number Keeping (unmoved false) acts in
    goes-then (course_powered log was s) acts (cut_told (is_some (cut_in log s.number)) kept) (goes-all log s 0 s.actions (course_powered log was s))
    (goes-then acts kept (cut_told (is_some (cut_in log s.number)) kept) (goes-both log s.number Keeping (unmoved false) acts refl) (goes-cut (is_some (cut_in log s.number)) kept))

-- each second is so
crew-of-found : (c : Card) (x : Seen) → has_card (crew_at x) c ≡ true → (slot : Slot) × (is_card (first_card (filter (is_now slot) x.told.course.found)) c ≡ true)
crew-of-found c x is = by (is_card (standing as_accepted x Driver) c) refl is
  where
    by : (b : Bool) → is_card (standing as_accepted x Driver) c ≡ b → (b || is_card (standing as_accepted x CoDriver) c) ≡ true → (slot : Slot) × (is_card (first_card (filter (is_now slot) x.told.course.found)) c ≡ true)
    by true first h = (Driver, sym (ap (λ (o : Option Card). is_card o c) (standing-is x Driver)) ∙ first)
    by false first h = (CoDriver, sym (ap (λ (o : Option Card). is_card o c) (standing-is x CoDriver)) ∙ h)

pub met-power : (c : Card) (log : RunLog) (was : Before) (s : TraceSecond) → has_card (crew_at (seen_by log was s)) c ≡ true → MetPower c (seen_by log was s)
met-power c log was s is = by (has_power was s) refl
  where
    x : Seen
    x = seen_by log was s

    at : (slot : Slot) × (is_card (first_card (filter (is_now slot) (seen_by log was s).told.course.found)) c ≡ true)
    at = crew-of-found c (seen_by log was s) is

    by : (b : Bool) → has_power was s ≡ b → MetPower c (seen_by log was s)
    by false off = absurd (let none : false ≡ true = sym (ap (λ (t : ToldSecond). is_card (first_card (filter (is_now at.0) t.course.found)) c) dark) ∙ at.1 in cc)
      where
        dark : second_told log was s ≡ record { second = record { number = s.number; speed = s.speed; picks = [] }; given = s.has_power; lit = false; starts = false; cut = false; course = dark_course s was.slots }
        dark = rw off refl
    by true on = from was.running refl
      where
        course : (second_told log was s).course ≡ lit_course log s (not was.running) was.slots
        course = lit-course log was s on

        g : GoesBy (course_powered log was s) (lit_course log s (not was.running) was.slots)
        g = goes-lit log was s

        -- it was found so at the power-on
        found : is_card (first_card (filter (is_now at.0) (course_powered log was s).found)) c ≡ true
        found =
            sym (ap (λ (o : Option Card). is_card o c) (ap (λ (k : Course). first_card (filter (is_now at.0) k.found)) course ∙ ap (λ (fs : List Finding). first_card (filter (is_now at.0) fs)) g.found ∙ accepted-others at.0 (course_powered log was s).found g.finds g.others))
            ∙ at.1

        among : list_any (is_of c) (course_powered log was s).found ≡ true
        among = first-among c (is_now at.0) (course_powered log was s).found found

        from : (r : Bool) → was.running ≡ r → MetPower c (seen_by log was s)
        from true runs = absurd (let none : false ≡ true = sym (ap (list_any (is_of c)) (powered-quiet log was s runs).found) ∙ among in cc)
        from false rests = record { starts = (lit-told log was s on).starts ∙ ap not rests; entered = entered }
          where
            p : IsPowered log was s (course_powered log was s)
            p = powered-as log was s rests

            q : Visit → Bool
            q = λ (v : Visit). same_card v.card c

            sits : list_any (λ (v : Visit). same_card v.card c) (sitting_at Driver was.slots.driver ++ sitting_at CoDriver was.slots.codriver) ≡ true
            sits = ⊎_elim
                (λ driver. any-more (λ (v : Visit). same_card v.card c) (sitting_at Driver was.slots.driver) (sitting_at CoDriver was.slots.codriver) (among-sitting c Driver (found_in log s.number (In 0) Driver) was.slots.driver driver))
                (λ codriver. any-right (λ (v : Visit). same_card v.card c) (sitting_at Driver was.slots.driver) (sitting_at CoDriver was.slots.codriver) (among-sitting c CoDriver (found_in log s.number (In 0) CoDriver) was.slots.codriver codriver))
                (any-split (is_of c) (findings (found_in log s.number (In 0) Driver) (sitting_at Driver was.slots.driver)) (findings (found_in log s.number (In 0) CoDriver) (sitting_at CoDriver was.slots.codriver)) (sym (ap (list_any (is_of c)) p.found) ∙ among))

            entered : list_any (λ (v : Visit). same_card v.card c) (second_told log was s).course.entered ≡ true
            entered =
                ap (λ (k : Course). list_any (λ (v : Visit). same_card v.card c) k.entered) course ∙ ap (list_any (λ (v : Visit). same_card v.card c)) (g.entered ∙ ap (λ (vs : List Visit). vs ++ g.more) p.entered)
                ∙ any-more (λ (v : Visit). same_card v.card c) (sitting_at Driver was.slots.driver ++ sitting_at CoDriver was.slots.codriver) g.more sits

abbrev pub MayMeet : Card → Seen → Type 0
MayMeet c x = has_card (crew_at x) c ≡ true → MetPower c x

all-seen : (c : Card) (log : RunLog) (ss : List TraceSecond) (w : Watched) → AllByRecursion (MayMeet c) w.seen → AllByRecursion (MayMeet c) (fold (watched_on log) w ss).seen
all-seen c log [] w all = all
all-seen c log (s ∷ ss) w all = all-seen c log ss (watched_on log w s) (all-push (MayMeet c) w.seen (seen_by log w.before s) all (met-power c log w.before s))

pub all-meet : (c : Card) (log : RunLog) (ss : List TraceSecond) → AllByRecursion (MayMeet c) (seen_of log ss)
unfolding seen_of
all-meet c log ss = all-seen c log ss (record { seen = []; before = not_begun.before }) tt

-- ---- THE INTERRUPTIONS OF A CARD, second by second, once more is told of what was kept

-- a card that meets power in a second in which the unit failed is not sure of its interruption
unsure-met : (c : Card) (log : RunLog) (x : Seen) → MetPower c x → has_failed_in log (number_of x) ≡ true → is_sure_in c POWER_INTERRUPTION log x ≡ true → ⊥
unsure-met c log x met failed sure =
    let wrong : (not (true && (false || (false || (true && true)))) || (not true && not (falls c x))) ≡ true =
    (λ i. not (sym met.entered i && (false || (false || (true && sym met.starts i)))) || (not (sym failed i) && not (falls c x))) ∙ sure in
    absurd (cc)

-- an interruption without the card
none-with : (c : Card) (own : Registration) (log : RunLog) (span next : List Seen) (x : Seen) → (has_card (crew_at x) c ≡ true → ⊥) → gaps_on c own (gap_event as_accepted log span (x ∷ next)) ≡ []
none-with c own log span next x other = by (gap_of (kept_after log (last_number span)) (number_of x))
  where
    off : has_card (crew_at x) c ≡ false
    off = from (has_card (crew_at x) c) refl
      where
        from : (b : Bool) → has_card (crew_at x) c ≡ b → has_card (crew_at x) c ≡ false
        from true is = absurd (other is)
        from false is = is

    by : (o : Option Span) → gaps_on c own (option_to_list (option_map {T = Span} {U = Event} (λ gap. noted_with POWER_INTERRUPTION gap.begin gap.end (crew_at x)) o)) ≡ []
    by None = refl
    by (Some gap) = ap (λ (b : Bool). map (gap_entry c own) (cond b (noted_with POWER_INTERRUPTION gap.begin gap.end (crew_at x) ∷ []) [])) off

-- one second fewer
known-front : (log : RunLog) (found : List Break) (spans : List (List Seen)) (next : List Seen) → AreKnownGaps log found (spans ++ next ∷ []) → AreKnownGaps log found spans
known-front log found [] next all = tt
known-front log found (span ∷ []) next all = tt
known-front log found (span ∷ second ∷ spans) next all = (all.0, known-front log found (second ∷ spans) next all.1)

known-off : (log : RunLog) (found : List Break) (spans : List (List Seen)) (x : Seen) → AreSome spans → AreKnownGaps log found (seen_on spans x) → AreKnownGaps log found spans
known-off log found [] x some all = tt
known-off log found (span ∷ []) x some all = tt
known-off log found (span ∷ [] ∷ spans) x some all = absurd some.1.0
known-off log found (span ∷ (y ∷ next) ∷ []) x some all = (known-first log found span y (next ++ x ∷ []) next all.0, tt)
known-off log found (span ∷ (y ∷ next) ∷ third ∷ spans) x some all = (all.0, known-off log found ((y ∷ next) ∷ third ∷ spans) x some.1 all.1)

known-back : (log : RunLog) (found : List Break) (spans : List (List Seen)) (x : Seen) → AreSome spans → AreKnownGaps log found (seen_with spans x) → AreKnownGaps log found spans
known-back log found spans x some = by x.told.lit x.told.starts
  where
    by : (lit starts : Bool) → AreKnownGaps log found (cond lit (cond starts (spans ++ (x ∷ []) ∷ []) (seen_on spans x)) spans) → AreKnownGaps log found spans
    by true true all = known-front log found spans (x ∷ []) all
    by true false all = known-off log found spans x some all
    by false starts all = all

known-fewer : (log : RunLog) (found : List Break) (behind xs : List Seen) → AreKnownGaps log found (seen_spans (behind ++ xs)) → AreKnownGaps log found (seen_spans behind)
known-fewer log found behind [] all = subst (λ (ys : List Seen). AreKnownGaps log found (seen_spans ys)) (append-nil behind) all
known-fewer log found behind (x ∷ xs) all =
    known-back log found (seen_spans behind) x (some-spans behind)
    (subst (AreKnownGaps log found) (spans-more behind x) (known-fewer log found (behind ++ x ∷ []) xs (subst (λ (ys : List Seen). AreKnownGaps log found (seen_spans ys)) (sym (append_assoc behind (x ∷ []) xs)) all)))

module _ (c : Card) (own : Registration) (log later : RunLog) (found : List Break) (known : (u : ℕ) → tells_cut u found ≡ true → kept_after later u ≡ kept_after log u) (keeps : (u : ℕ) → has_failed_in log u ≡ true → has_failed_in later u ≡ true) where
  one-goes : (span : List Seen) (x : Seen) → MayMeet c x → IsKnownGap log found span (x ∷ []) → GapGoes c own later x (gap_event as_accepted log span (x ∷ [])) (gap_event as_accepted later span (x ∷ []))
  one-goes span x meet (inl told) = inl (ap (gaps_on c own) (gap-same as_accepted log later span (x ∷ []) (known (last_number span) told)))
  one-goes span x meet (inr failed) = by (has_card (crew_at x) c) refl
    where
      off : (b : Bool) → is_sure_in c POWER_INTERRUPTION later x ≡ b → has_card (crew_at x) c ≡ true → is_sure_in c POWER_INTERRUPTION later x ≡ false
      off true sure met = absurd (unsure-met c later x (meet met) (keeps (number_of x) failed.failed) sure)
      off false sure met = sure

      by : (b : Bool) → has_card (crew_at x) c ≡ b → GapGoes c own later x (gap_event as_accepted log span (x ∷ [])) (gap_event as_accepted later span (x ∷ []))
      by true met = inr (ap (gaps_on c own) (gap-nothing as_accepted log span (x ∷ []) failed.kept), off (is_sure_in c POWER_INTERRUPTION later x) refl met)
      by false other =
          let apart : has_card (crew_at x) c ≡ true → ⊥ = λ met. (let clash : true ≡ false = sym met ∙ other in cc) in
          inl (none-with c own later span [] x apart ∙ sym (none-with c own log span [] x apart))

  before-goes : (spans : List (List Seen)) (x : Seen) → MayMeet c x → AreKnownGaps log found (spans ++ (x ∷ []) ∷ []) → GapGoes c own later x (gap_before as_accepted log spans x) (gap_before as_accepted later spans x)
  before-goes [] x meet all = inl refl
  before-goes (span ∷ []) x meet all = one-goes span x meet all.0
  before-goes (span ∷ next ∷ spans) x meet all = before-goes (next ∷ spans) x meet all.1

  by-goes : (spans : List (List Seen)) (x : Seen) → MayMeet c x → AreKnownGaps log found (seen_with spans x) → GapGoes c own later x (gap_by as_accepted log spans x) (gap_by as_accepted later spans x)
  by-goes spans x meet = by x.told.lit x.told.starts
    where
      by : (lit starts : Bool) → AreKnownGaps log found (cond lit (cond starts (spans ++ (x ∷ []) ∷ []) (seen_on spans x)) spans)
          → GapGoes c own later x (cond lit (cond starts (gap_before as_accepted log spans x) []) []) (cond lit (cond starts (gap_before as_accepted later spans x) []) [])
      by true true all = before-goes spans x meet all
      by true false all = inl refl
      by false starts all = inl refl

  all-go : (behind xs : List Seen) → AllByRecursion (MayMeet c) xs → AreKnownGaps log found (seen_spans (behind ++ xs)) → GapsGo c own log later behind xs
  all-go behind [] meet all = tt
  all-go behind (x ∷ xs) meet all =
      let split : AreKnownGaps log found (seen_spans ((behind ++ x ∷ []) ++ xs)) = subst (λ (ys : List Seen). AreKnownGaps log found (seen_spans ys)) (sym (append_assoc behind (x ∷ []) xs)) all in (
        by-goes (seen_spans behind) x meet.0 (subst (AreKnownGaps log found) (spans-more behind x) (known-fewer log found (behind ++ x ∷ []) xs split)),
        all-go (behind ++ x ∷ []) xs meet.1 split,
      )

-- WHAT IS FOUND KEPT changes none of them but those that are not sure, of which none was noted
pub gaps-found : (c : Card) (own : Registration) (log later : RunLog) (found : List Break) (done : List TraceSecond) → AreKnownGaps log found (seen_spans (seen_of log done)) → ((u : ℕ) → tells_cut u found ≡ true → kept_after later u ≡ kept_after log u)
    → ((u : ℕ) → has_failed_in log u ≡ true → has_failed_in later u ≡ true) → GapsGo c own log later [] (seen_of log done)
gaps-found c own log later found done all known keeps = all-go c own log later found known keeps [] (seen_of log done) (all-meet c log done) all
