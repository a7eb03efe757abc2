-- Seconds of a run in which nothing happens.
use Rattle.std.proofs.Common.{◌≡◌, inl, ℕ, zero, suc, ◌+◌, ◌-◌, ◌/◌, ◌%◌, ◌<◌, ◌≤◌, Bool, true, false, cond, not, ◌&&◌, ◌||◌, nat_eq, Option, Some, None, List, [], ◌∷◌, ◌++◌, length, map, filter, is_some, refl, ap, sym, subst, ◌∙◌, arith, append_assoc, append-nil}
use Rattle.std.specs.Prelude.{max}
use Rattle.std.specs.List.{list_any}
use Rattle.std.proofs.lemmas.Bool.Decides.{nat_tests}
use Rattle.activity_codec.specs.declared.values.Slot.{Slot}
use Rattle.activity_codec.specs.Activity.{same_slot}
use Rattle.trace_model.specs.Trace.{TraceSecond, driven}
use Rattle.run_model.specs.declared.Device.{Device}
use Rattle.run_model.specs.declared.Device.TheVariants.{Unit as Recorder}
use Rattle.minute_model.specs.declared.Rule.{Rule}
use Rattle.minute_model.specs.declared.Minute.{Minute}
use Rattle.minute_model.specs.Second.{Second}
use Rattle.minute_model.specs.Minute.{class_of, minutes_ahead}
use Rattle.minute_model.specs.Span.{Span, end_of, fed, fed_many, decided_in, ungiven_of, latest, count_from, AreNumbered}
use Rattle.minute_model.proofs.Spans.{decided-fed_many, fed_many-first}
use Rattle.log_model.specs.declared.lines.Break.{Break}
use Rattle.log_model.specs.declared.lines.Break.TheVariants.{Cut, Tear}
use Rattle.log_model.specs.declared.lines.Find.{Find}
use Rattle.log_model.specs.declared.lines.Mark.{Mark}
use Rattle.log_model.specs.Log.{RunLog, Phase, In, Keeping, same_phase, phase_of, cut_in, tears_here, is_torn_in, found_in}
use Rattle.log_model.specs.Slots.{Slots}
use Rattle.log_model.specs.Causes.{RoseBy, device_of}
use Rattle.log_model.specs.Course.{ToldSecond, Course, Before, Went, both_told, unmoved, fresh, cut_told, lit_course, second_told, before_next, went}
use Rattle.log_model.specs.Spans.{seconds_in, first_in, end_in, AreApart}
use Rattle.log_model.proofs.Growth.{went-more}
use Rattle.log_model.proofs.Spanning.{spanned, end-on}
use Rattle.history_model.specs.Minutes.{HistoryMinute}
use Rattle.history_model.specs.Presence.{Start}
use Rattle.history_model.specs.History.{decided_of}
use Rattle.history_model.specs.Growth.{as_span}
use Rattle.history_model.specs.Completeness.{IsComplete}
use Rattle.history_model.proofs.Deciding.{counted, span-settled, span-more}
use Rattle.history_model.proofs.Growing.{apart-last}
use Rattle.run_unit_course.specs.Lines.{log_of}
use Rattle.run_unit_course.specs.Followed.{UnitPower, Lit, going_on}
use Rattle.run_unit_course.specs.Legs.{Travel}
use Rattle.run_course.specs.Followed.{Progress, BookFollowsRun, AreBefore, PowerGoesOn}
use Rattle.run_course.specs.Seconds.{GoesOnBy, next_told}
use Rattle.run_course.specs.Presence.{SlotsTell}
use Rattle.run_course.specs.Caused.{AreNewCauses, WellCaused}
use Rattle.run_course.specs.Travelled.{HasLegs}
use Rattle.run_course.specs.Quiet.{quiet_second, quiet_seconds, begun_after, quiet_on, QuietSecondsAreTold, RulesSeeQuietSeconds, QuietSecondsGoOn, QuietSecondsStayTravelled, QuietSecondsStayCaused, QuietSecondsStayComplete, QuietSecondsTell}
use Rattle.run_course.proofs.Lookups.{cut-by, torn-by, found-by, cut-first, cut-nothing}
use Rattle.run_course.proofs.Logs.{BreaksBefore, FindsBefore}
use Rattle.run_course.proofs.Moments.{both-still}
use Rattle.run_course.proofs.Presence.{goes-on, second-gone}
use Rattle.run_course.proofs.Steps.{goes_on, span-end}
use Rattle.run_course.proofs.Complete.{acknowledged}
use Rattle.run_course.proofs.Caused.{second-caused}
use Rattle.run_course.proofs.Travelled.{second-travelled}
use Rattle.run_course.proofs.Told.{going-power}

-- A SECOND OF WHICH THE LOG TELLS NOTHING
earlier-number : (n u : ℕ) → n < u → nat_eq n u ≡ false
earlier-number n u lt = grind (arith, nat_tests)

no-cut : (cuts next : ℕ) (bs : List Break) (u : ℕ) → BreaksBefore cuts next bs → cuts ≤ u → cut_in (log_of bs) u ≡ None
no-cut cuts next [] u h le = cut-nothing u
no-cut cuts next (Cut s k failed begun ∷ bs) u h le =
    let before : s < cuts = h.0 in
    let other = earlier-number s u (omega (arith, before, le)) in
    cut-first (Cut s k failed begun) bs u
    ∙ ap (λ (t : Bool). cond (is_some (cond t (Some begun) None)) (cond t (Some begun) None) (cut_in (log_of bs) u)) other
    ∙ no-cut cuts next bs u h.1 le
no-cut cuts next (Tear s slot failed begun late ∷ bs) u h le = cut-first (Tear s slot failed begun late) bs u ∙ no-cut cuts next bs u h.1 le

no-tear : (cuts next : ℕ) (bs : List Break) (u : ℕ) (p : Phase) (slot : Slot) → BreaksBefore cuts next bs → next ≤ u → list_any (tears_here u p slot) bs ≡ false
no-tear cuts next [] u p slot h le = refl
no-tear cuts next (Cut s k failed begun ∷ bs) u p slot h le = no-tear cuts next bs u p slot h.1 le
no-tear cuts next (Tear s at failed begun late ∷ bs) u p slot h le =
    let before : s < next = h.0 in
    let other = earlier-number s u (omega (arith, before, le)) in
    ap (λ (t : Bool). (t && same_phase (phase_of begun late) p && same_slot at slot) || list_any (tears_here u p slot) bs) other ∙ no-tear cuts next bs u p slot h.1 le

no-find : (next : ℕ) (fs : List Find) (u : ℕ) (p : Phase) (slot : Slot) → FindsBefore next fs → next ≤ u → filter (λ (f : Find). nat_eq f.second u && same_phase (In f.begun) p && same_slot f.slot slot) fs ≡ []
no-find next [] u p slot h le = refl
no-find next (f ∷ fs) u p slot h le =
    let before : f.second < next = h.0 in
    let other = earlier-number f.second u (omega (arith, before, le)) in
    let rest : List Find = filter (λ (f : Find). nat_eq f.second u && same_phase (In f.begun) p && same_slot f.slot slot) fs in
    ap (λ (t : Bool). cond (t && same_phase (In f.begun) p && same_slot f.slot slot) (f ∷ rest) rest) other ∙ no-find next fs u p slot h.1 le

record IsUntold (log : RunLog) (u : ℕ) : Type 0 where
  cut : cut_in log u ≡ None
  torn : (p : Phase) (slot : Slot) → is_torn_in log u p slot ≡ false
  found : (p : Phase) (slot : Slot) → found_in log u p slot ≡ []

untold : (cuts next : ℕ) (log : RunLog) (u : ℕ) → cuts ≤ next → AreBefore cuts next log → next ≤ u → IsUntold log u
untold cuts next log u low h le = record {
  cut = cut-by log u ∙ no-cut cuts next log.breaks u h.breaks (omega (arith, low, le));
  torn = λ p slot. torn-by log u p slot ∙ no-tear cuts next log.breaks u p slot h.breaks le;
  found = λ p slot. found-by log u p slot ∙ ap (map (λ (f : Find). f.verdict)) (no-find next log.finds u p slot h.finds le);
}

-- a second that the trace gives power, without actions
abbrev plain_second : (number speed : ℕ) → TraceSecond
plain_second number speed = record { number = number; has_power = true; speed = speed; actions = [] }

quiet-course : (log : RunLog) (number speed : ℕ) (slots : Slots) → IsUntold log number → lit_course log (plain_second number speed) false slots ≡ fresh false slots
quiet-course log number speed slots h =
    ap (λ (o : Option ℕ). cut_told (is_some o) (both_told log number Keeping (unmoved false) (both_told log number (In 0) (unmoved false) (fresh false slots)))) h.cut
    ∙ ap (both_told log number Keeping (unmoved false)) (both-still log number (In 0) (unmoved false) (fresh false slots) (λ slot. h.torn (In 0) slot) (λ slot. h.found (In 0) slot))
    ∙ both-still log number Keeping (unmoved false) (fresh false slots) (λ slot. h.torn Keeping slot) (λ slot. h.found Keeping slot)

abbrev lit_as : (number speed : ℕ) → (starts : Bool) → Course → (cut : Bool) → ToldSecond
lit_as number speed starts c cut = record { second = record { number = number; speed = speed; picks = c.picks }; given = true; lit = true; starts = starts; cut = cut; course = c }

quiet-told : (log : RunLog) (before : Before) (number speed : ℕ) → PowerGoesOn before → IsUntold log number → second_told log before (plain_second number speed) ≡ quiet_second number speed before.slots
quiet-told log before number speed h none =
    as_lit
    ∙ ap (λ (r : Bool). lit_as number speed (not r) (lit_course log (plain_second number speed) (not r) before.slots) (is_some (cut_in log number))) h.running
    ∙ ap (λ (c : Course). lit_as number speed false c (is_some (cut_in log number))) (quiet-course log number speed before.slots none)
    ∙ ap (λ (o : Option ℕ). lit_as number speed false (fresh false before.slots) (is_some o)) none.cut
  where
    as_lit : second_told log before (plain_second number speed) ≡ lit_as number speed (not before.running) (lit_course log (plain_second number speed) (not before.running) before.slots) (is_some (cut_in log number))
    as_lit = rw (going-power before (plain_second number speed) h refl) refl

and-false : (b : Bool) → (b && false) ≡ false
and-false true = refl
and-false false = refl

-- what comes behind it is as before
quiet-next : (before : Before) (number speed : ℕ) → PowerGoesOn before → before_next before (quiet_second number speed before.slots) ≡ before
quiet-next before number speed h =
    ap (λ (g : Bool). record { running = true; gone = g; given = true; slots = before.slots }) (and-false before.gone ∙ sym h.gone)
    ∙ ap (λ (r : Bool). record { running = r; gone = before.gone; given = true; slots = before.slots }) (sym h.running)
    ∙ ap (λ (g : Bool). record { running = before.running; gone = before.gone; given = g; slots = before.slots }) (sym h.given)

quiet-many : (log : RunLog) (cuts from : ℕ) (low : cuts ≤ from) (lines : AreBefore cuts from log) (n : ℕ) (done : List TraceSecond) (next speed : ℕ) → from ≤ next → PowerGoesOn (went log done).before →
    went log (done ++ driven n next speed []) ≡ record { told = (went log done).told ++ quiet_seconds n next speed (went log done).before.slots; before = (went log done).before }
quiet-many log cuts from low lines zero done next speed le going =
    ap (went log) (append-nil done) ∙ ap (λ (ts : List ToldSecond). record { told = ts; before = (went log done).before }) (sym (append-nil (went log done).told))
quiet-many log cuts from low lines (suc n) done next speed le going =
    let before : Before = (went log done).before in
    let told : List ToldSecond = (went log done).told in
    let q : ToldSecond = quiet_second next speed before.slots in
    let is = quiet-told log before next speed going (untold cuts from log next low lines le) in
    let one : went log (done ++ plain_second next speed ∷ []) ≡ record { told = told ++ q ∷ []; before = before } =
    went-more log done (plain_second next speed) ∙ ap (λ (t : ToldSecond). record { told = told ++ t ∷ []; before = before_next before t }) is ∙ ap (λ (b : Before). record { told = told ++ q ∷ []; before = b }) (quiet-next before next speed going) in
    ap (went log) (sym (append_assoc done (plain_second next speed ∷ []) (driven n (next + 1) speed [])))
    ∙ quiet-many log cuts from low lines n (done ++ plain_second next speed ∷ []) (next + 1) speed (omega (arith, le)) (subst (λ (w : Went). PowerGoesOn w.before) (sym one) going)
    ∙ ap (λ (w : Went). record { told = w.told ++ quiet_seconds n (next + 1) speed w.before.slots; before = w.before }) one
    ∙ ap (λ (ts : List ToldSecond). record { told = ts; before = before }) (append_assoc told (q ∷ []) (quiet_seconds n (next + 1) speed before.slots))

going-of : (rule : Rule) (start : Start) (from first : ℕ) (done : List TraceSecond) (p : Progress) → BookFollowsRun rule start from first done p → (t : ToldSecond) (span : List ToldSecond) → p.supply ≡ Lit (t ∷ span) → PowerGoesOn (went p.log done).before × AreBefore (p.next - 1) p.next p.log
going-of rule start from first done p g t span is =
    let f = subst (λ (s : UnitPower). BookFollowsRun rule start from first done (record p { supply = s })) is g in (f.power, f.lines)

pub quiet-are-told : QuietSecondsAreTold
quiet-are-told rule start from first done p g t span is n speed =
    let both = going-of rule start from first done p g t span is in
    quiet-many p.log (p.next - 1) p.next (omega arith) both.1 n done p.next speed (omega arith) both.0

-- FOR THE RULES OF MINUTES
see-quiet : (rule : Rule) (t : ToldSecond) (span : List ToldSecond) (n number speed : ℕ) (slots : Slots) → end_in (t ∷ span) ≡ number → as_span rule ((t ∷ span) ++ quiet_seconds n number speed slots) ≡ fed_many (as_span rule (t ∷ span)) speed n
see-quiet rule t span zero number speed slots end = ap (as_span rule) (append-nil (t ∷ span))
see-quiet rule t span (suc n) number speed slots end =
    let q : ToldSecond = quiet_second number speed slots in
    let later = end-on (t ∷ span) q (omega arith) in
    ap (as_span rule) (sym (append_assoc (t ∷ span) (q ∷ []) (quiet_seconds n (number + 1) speed slots)))
    ∙ see-quiet rule t (span ++ q ∷ []) n (number + 1) speed slots (later ∙ ap (λ (k : ℕ). k + 1) end)
    ∙ ap (λ (s : Span). fed_many s speed n) (span-more rule (t ∷ span) q (omega arith) (sym end))
    ∙ sym (fed_many-first (as_span rule (t ∷ span)) speed n)

end-of : (rule : Rule) (start : Start) (from first : ℕ) (done : List TraceSecond) (p : Progress) → BookFollowsRun rule start from first done p → (t : ToldSecond) (span : List ToldSecond) → p.supply ≡ Lit (t ∷ span) →
    (end_in (t ∷ span) ≡ p.next) × AreNumbered (first_in (t ∷ span)) (seconds_in (t ∷ span))
end-of rule start from first done p g t span is =
    let f = subst (λ (s : UnitPower). BookFollowsRun rule start from first done (record p { supply = s })) is g in (
      span-end p.log from done f.ended t span p.next f.order f.next f.power.running f.spans,
      (apart-last from (from + length done) f.ended (t ∷ span) (subst (λ (ss : List (List ToldSecond)). AreApart from ss (from + length done)) f.spans (spanned p.log from done f.order).apart)).1,
    )

pub rules-see-quiet : RulesSeeQuietSeconds
rules-see-quiet rule start from first done p g t span is none n speed slots = see-quiet rule t span n p.next speed slots (end-of rule start from first done p g t span is).0

itself : (n : ℕ) → n - n ≡ 0
itself n = omega arith

-- one of them decides nothing
quiet-decides : (rule : Rule) (t : ToldSecond) (span : List ToldSecond) (number speed : ℕ) (slots : Slots) → end_in (t ∷ span) ≡ number → AreNumbered (first_in (t ∷ span)) (seconds_in (t ∷ span)) → number % 60 + 1 < 60 →
    decided_of rule ((t ∷ span) ++ quiet_second number speed slots ∷ []) ≡ decided_of rule (t ∷ span) ++ []
quiet-decides rule t span number speed slots end numbered within =
    let whole = as_span rule (t ∷ span) in
    let c = counted (t ∷ span) in
    let ends : end_of whole ≡ number = omega (arith, end, c) in
    let grown = decided-fed_many whole speed 1 numbered (span-settled rule (t ∷ span) numbered) (omega arith) in
    let end_later : end_of (fed whole speed) ≡ number + 1 = end-fed whole speed ∙ ap (λ (k : ℕ). k + 1) ends in
    let minute : end_of (fed whole speed) / 60 ≡ end_of whole / 60 = omega (arith, ends, end_later, within) in
    let same : ungiven_of (fed whole speed) ≡ ungiven_of whole = ap (λ (e : ℕ). max (whole.first / 60) (max (e - minutes_ahead rule) (latest whole.settlings / 60))) minute in
    let none : ungiven_of (fed whole speed) - ungiven_of whole ≡ 0 = ap (λ (u : ℕ). u - ungiven_of whole) same ∙ itself (ungiven_of whole) in
    ap decided_in (see-quiet rule t span 1 number speed slots end) ∙ grown
    ∙ ap (λ (k : ℕ). decided_in whole ++ map (class_of rule (fed whole speed).seconds) (count_from (ungiven_of whole) k)) none
  where
    end-fed : (s : Span) (speed : ℕ) → end_of (fed s speed) ≡ end_of s + 1
    end-fed s speed = ap (λ (k : ℕ). s.first + k) (length-push s.seconds) ∙ omega arith
      where
        length-push : (xs : List Second) → length (xs ++ record { number = end_of s; speed = speed; picks = s.pending } ∷ []) ≡ length xs + 1
        length-push [] = refl
        length-push (x ∷ xs) = ap suc (length-push xs) ∙ omega arith

-- ONE QUIET SECOND MORE
abbrev quiet-goes : (p : Progress) (speed : ℕ) → GoesOnBy p p.log (plain_second p.next speed)
quiet-goes p speed = record { number = refl; given = refl; breaks = ([], sym (append-nil p.log.breaks), tt); finds = ([], sym (append-nil p.log.finds), tt) }

record QuietStep (rule : Rule) (start : Start) (from first : ℕ) (done : List TraceSecond) (p : Progress) (t : ToldSecond) (span : List ToldSecond) (speed : ℕ) : Type 0 where
  is_quiet : next_told p.log done (plain_second p.next speed) ≡ quiet_second p.next speed (went p.log done).before.slots
  uncut : cut_in p.log p.next ≡ None
  decides : decided_of rule ((t ∷ span) ++ next_told p.log done (plain_second p.next speed) ∷ []) ≡ decided_of rule (t ∷ span) ++ []

quiet-step : (rule : Rule) (start : Start) (from first : ℕ) (done : List TraceSecond) (p : Progress) → BookFollowsRun rule start from first done p → (t : ToldSecond) (span : List ToldSecond) → p.supply ≡ Lit (t ∷ span) → (speed : ℕ) → p.next % 60 + 1 < 60 → QuietStep rule start from first done p t span speed
quiet-step rule start from first done p g t span is speed within =
    let both = going-of rule start from first done p g t span is in
    let none = untold (p.next - 1) p.next p.log p.next (omega arith) both.1 (omega arith) in
    let quiet = quiet-told p.log (went p.log done).before p.next speed both.0 none in
    let end = end-of rule start from first done p g t span is in
    record {
      is_quiet = quiet;
      uncut = none.cut;
      decides = ap (λ (q : ToldSecond). decided_of rule ((t ∷ span) ++ q ∷ [])) quiet ∙ quiet-decides rule t span p.next speed (went p.log done).before.slots end.0 end.1 within;
    }

-- the run behind one of them
abbrev one_on : ℕ → List ToldSecond → List TraceSecond → Progress → Progress
one_on speed span done p = record p { next = p.next + 1; begun = 0; supply = Lit (span ++ quiet_second p.next speed (went p.log done).before.slots ∷ []) }

-- what is behind a second of the law is behind a quiet one
as-quiet : (rule : Rule) (start : Start) (from first : ℕ) (done : List TraceSecond) (p : Progress) (t : ToldSecond) (span : List ToldSecond) (speed : ℕ) → QuietStep rule start from first done p t span speed → p.waiting ≡ [] → (P : Progress → Type 0) →
    P (record { log = p.log; unfound = p.unfound; next = suc p.next; begun = 0; supply = Lit ((t ∷ span) ++ next_told p.log done (plain_second p.next speed) ∷ []); book = p.book; waiting = [] }) → P (one_on speed (t ∷ span) done p)
as-quiet rule start from first done p t span speed q none P h =
    let next : suc p.next ≡ p.next + 1 = omega arith in
    subst (λ (w : List HistoryMinute). P (record p { next = p.next + 1; begun = 0; supply = Lit ((t ∷ span) ++ quiet_second p.next speed (went p.log done).before.slots ∷ []); waiting = w })) (sym none)
    (subst (λ (x : ToldSecond). P (record p { next = p.next + 1; begun = 0; supply = Lit ((t ∷ span) ++ x ∷ []); waiting = [] })) q.is_quiet
    (subst (λ (n : ℕ). P (record p { next = n; begun = 0; supply = Lit ((t ∷ span) ++ next_told p.log done (plain_second p.next speed) ∷ []); waiting = [] })) next h))

one-followed : (rule : Rule) (start : Start) (from first : ℕ) (done : List TraceSecond) (p : Progress) → BookFollowsRun rule start from first done p → (t : ToldSecond) (span : List ToldSecond) → p.supply ≡ Lit (t ∷ span) → p.waiting ≡ [] → (speed : ℕ) → p.next % 60 + 1 < 60 →
    BookFollowsRun rule start from first (done ++ plain_second p.next speed ∷ []) (one_on speed (t ∷ span) done p)
one-followed rule start from first done p g t span is none speed within =
    let q = quiet-step rule start from first done p g t span is speed within in
    as-quiet rule start from first done p t span speed q none (λ (r : Progress). BookFollowsRun rule start from first (done ++ plain_second p.next speed ∷ []) r)
    (goes_on rule start from first done p g (t ∷ span) is none (plain_second p.next speed) p.log (quiet-goes p speed) q.uncut [] ([], q.decides, refl))

-- WHATEVER ONE OF THEM LEAVES, n leave
begun-none : (n : ℕ) → begun_after n 0 ≡ 0
begun-none zero = refl
begun-none (suc n) = refl

abbrev OneLeaves : (rule : Rule) (start : Start) (from first speed : ℕ) → (List TraceSecond → Progress → Type 0) → Type 0
OneLeaves rule start from first speed P =
    (done : List TraceSecond) (p : Progress) → BookFollowsRun rule start from first done p → (t : ToldSecond) (span : List ToldSecond) → p.supply ≡ Lit (t ∷ span) → p.waiting ≡ [] → p.next % 60 + 1 < 60 → P done p →
    P (done ++ plain_second p.next speed ∷ []) (one_on speed (t ∷ span) done p)

module _ (rule : Rule) (start : Start) (from first speed : ℕ) (P : List TraceSecond → Progress → Type 0) (one : OneLeaves rule start from first speed P) where
  all-leave : (n : ℕ) (done : List TraceSecond) (p : Progress) → BookFollowsRun rule start from first done p → (t : ToldSecond) (span : List ToldSecond) → p.supply ≡ Lit (t ∷ span) → p.waiting ≡ [] → p.next % 60 + n < 60 → P done p →
      P (done ++ driven n p.next speed []) (quiet_on n speed (t ∷ span) (went p.log done).before.slots p)
  all-leave zero done p f t span is none within h =
      let next : p.next ≡ p.next + 0 = omega arith in
      subst (λ (d : List TraceSecond). P d (record p { next = p.next + 0; supply = Lit ((t ∷ span) ++ []) })) (sym (append-nil done))
      (subst (λ (n : ℕ). P done (record p { next = n; supply = Lit ((t ∷ span) ++ []) })) next
      (subst (λ (ts : List ToldSecond). P done (record p { supply = Lit ts })) (sym (append-nil (t ∷ span)))
      (subst (λ (s : UnitPower). P done (record p { supply = s })) is h)))
  all-leave (suc n) done p f t span is none within h =
      let slots : Slots = (went p.log done).before.slots in
      let q : ToldSecond = quiet_second p.next speed slots in
      let s : TraceSecond = plain_second p.next speed in
      let later : List TraceSecond = done ++ s ∷ [] in
      let p1 : Progress = one_on speed (t ∷ span) done p in
      let here : p.next % 60 + 1 < 60 = omega (arith, within) in
      let rest = all-leave n later p1 (one-followed rule start from first done p f t span is none speed here) t (span ++ q ∷ []) refl none (omega (arith, within)) (one done p f t span is none here h) in
      let same : (went p.log later).before.slots ≡ slots = ap (λ (w : Went). w.before.slots) (quiet-are-told rule start from first done p f t span is 1 speed) in
      let next : p.next + 1 + n ≡ p.next + suc n = omega arith in
      subst (λ (d : List TraceSecond). P d (record p { next = p.next + suc n; begun = 0; supply = Lit ((t ∷ span) ++ q ∷ quiet_seconds n (p.next + 1) speed slots) })) (append_assoc done (s ∷ []) (driven n (p.next + 1) speed []))
      (subst (λ (ts : List ToldSecond). P (later ++ driven n (p.next + 1) speed []) (record p { next = p.next + suc n; begun = 0; supply = Lit ts })) (append_assoc (t ∷ span) (q ∷ []) (quiet_seconds n (p.next + 1) speed slots))
      (subst (λ (sl : Slots). P (later ++ driven n (p.next + 1) speed []) (record p { next = p.next + suc n; begun = 0; supply = Lit (((t ∷ span) ++ q ∷ []) ++ quiet_seconds n (p.next + 1) speed sl) })) same
      (subst (λ (b : ℕ). P (later ++ driven n (p.next + 1) speed []) (record p { next = p.next + suc n; begun = b; supply = Lit (((t ∷ span) ++ q ∷ []) ++ quiet_seconds n (p.next + 1) speed (went p.log later).before.slots) })) (begun-none n)
      (subst (λ (k : ℕ). P (later ++ driven n (p.next + 1) speed []) (record p { next = k; begun = begun_after n 0; supply = Lit (((t ∷ span) ++ q ∷ []) ++ quiet_seconds n (p.next + 1) speed (went p.log later).before.slots) })) next rest))))

-- THE RUN IS FOLLOWED
abbrev Decides : Rule → (start : Start) (from first : ℕ) → List Minute → List TraceSecond → Progress → Type 0
Decides rule start from first ds done p = (decided_of rule (going_on p.supply) ≡ ds) × BookFollowsRun rule start from first done p

decides-one : (rule : Rule) (start : Start) (from first speed : ℕ) (ds : List Minute) → OneLeaves rule start from first speed (Decides rule start from first ds)
decides-one rule start from first speed ds done p f t span is none within h =
    let end = end-of rule start from first done p f t span is in (
      quiet-decides rule t span p.next speed (went p.log done).before.slots end.0 end.1 within ∙ append-nil (decided_of rule (t ∷ span)) ∙ ap (λ (s : UnitPower). decided_of rule (going_on s)) (sym is) ∙ h.0,
      one-followed rule start from first done p f t span is none speed within,
    )

pub quiet-go-on : QuietSecondsGoOn
quiet-go-on rule start from first done p f t span is none n speed within =
    all-leave rule start from first speed (Decides rule start from first (decided_of rule (t ∷ span))) (decides-one rule start from first speed (decided_of rule (t ∷ span))) n done p f t span is none within
    (ap (λ (s : UnitPower). decided_of rule (going_on s)) is, f)

-- WHAT WAS TRAVELLED
travelled-one : (rule : Rule) (start : Start) (from first speed : ℕ) (g : Travel) → OneLeaves rule start from first speed (λ (done : List TraceSecond) (p : Progress). HasLegs rule first done p g)
travelled-one rule start from first speed g done p f t span is none within h =
    let q = quiet-step rule start from first done p f t span is speed within in
    as-quiet rule start from first done p t span speed q none (λ (r : Progress). HasLegs rule first (done ++ plain_second p.next speed ∷ []) r g)
    (second-travelled rule start from first done p f g h (t ∷ span) is none (plain_second p.next speed) p.log (quiet-goes p speed) [] q.decides)

pub quiet-travelled : QuietSecondsStayTravelled
quiet-travelled rule start from first done p f t span is none n speed within g h =
    all-leave rule start from first speed (λ (done : List TraceSecond) (p : Progress). HasLegs rule first done p g) (travelled-one rule start from first speed g) n done p f t span is none within h

-- THE CAUSES of the log
rose-none : (n : ℕ) → RoseBy 0 n n
rose-none n = inl (omega arith)

caused-one : (rule : Rule) (start : Start) (from first speed : ℕ) (before now : Device → ℕ) → OneLeaves rule start from first speed (WellCaused before now)
caused-one rule start from first speed before now done p f t span is none within h =
    let step = quiet-step rule start from first done p f t span is speed within in
    let s : TraceSecond = plain_second p.next speed in
    second-caused rule start from first done p f s p.log (quiet-goes p speed) [] (sym (append-nil p.log.refused)) before now now
    (subst (AreNewCauses now now [] [] [] p.log s) (sym step.is_quiet) (nothing-new p.log p.next speed (went p.log done).before.slots))
    h (one_on speed (t ∷ span) done p) refl (λ dark. absurd dark)
  where
    nothing-new : (log : RunLog) (next speed : ℕ) (slots : Slots) → AreNewCauses now now [] [] [] log (plain_second next speed) (quiet_second next speed slots)
    nothing-new log next speed slots = record {
      refusals = refl;
      cut_seconds = refl;
      no_off = refl;
      failed_cuts = rose-none (now Recorder);
      tear_lines = refl;
      failed_tears = λ slot. refl;
      torn_cards = λ card. rose-none (now (device_of card));
      calm_cards = λ card none. refl;
      begun = tt;
      moments = tt;
      order = tt;
      told_finds = refl;
      judged = λ e at. absurd (omega (arith, at.1));
    }

pub quiet-caused : QuietSecondsStayCaused
quiet-caused rule start from first done p f t span is none n speed within before now h =
    all-leave rule start from first speed (WellCaused before now) (caused-one rule start from first speed before now) n done p f t span is none within h

-- WHAT IS ACKNOWLEDGED
abbrev Acknowledges : Rule → Start → List Mark → List TraceSecond → Progress → Type 0
Acknowledges rule start marks done p = IsComplete rule start p.log (went p.log done).told marks

complete-one : (rule : Rule) (start : Start) (from first speed : ℕ) (marks : List Mark) → OneLeaves rule start from first speed (Acknowledges rule start marks)
complete-one rule start from first speed marks done p f t span is none within h =
    let step = quiet-step rule start from first done p f t span is speed within in
    acknowledged rule start from first done p f (t ∷ span) is none (plain_second p.next speed) p.log (quiet-goes p speed) [] ([], step.decides, refl) marks marks (λ device m at. at) h
    (record { unit = λ i at. absurd (omega (arith, at.1)); card = λ i card e at. absurd (omega (arith, at.1)) })
    (λ cut. absurd (let clash : false ≡ true = sym (ap (λ (t : ToldSecond). t.cut) step.is_quiet) ∙ cut in cc))

pub quiet-complete : QuietSecondsStayComplete
quiet-complete rule start from first done p f t span is none n speed within marks h =
    all-leave rule start from first speed (Acknowledges rule start marks) (complete-one rule start from first speed marks) n done p f t span is none within h

-- WHO IS PRESENT
pub quiet-tell : QuietSecondsTell
quiet-tell start told past number next from slots k zero speed h le same =
    let next_ : next + 0 ≡ next = omega arith in
    subst (λ (m : ℕ). SlotsTell start (told ++ quiet_second next speed slots ∷ []) past [] m from slots k) (sym next_)
    (second-gone start told past from (quiet_second next speed slots) k (goes-on start told past [] number next from slots k h le (omega (arith, same))))
quiet-tell start told past number next from slots k (suc n) speed h le same =
    let early : next / 60 ≡ number / 60 = omega (arith, le, same) in
    let one = second-gone start told past from (quiet_second next speed slots) k (goes-on start told past [] number next from slots k h le early) in
    let next_ : next + 1 + n ≡ next + suc n = omega arith in
    let rest = quiet-tell start (told ++ quiet_second next speed slots ∷ []) past next (next + 1) from slots k n speed one (omega arith) (omega (arith, same, early)) in
    subst (λ (m : ℕ). SlotsTell start (told ++ quiet_seconds (suc (suc n)) next speed slots) past [] m from slots k) next_
    (subst (λ (ts : List ToldSecond). SlotsTell start ts past [] (next + 1 + n) from slots k) (append_assoc told (quiet_second next speed slots ∷ []) (quiet_seconds (suc n) (next + 1) speed slots)) rest)
