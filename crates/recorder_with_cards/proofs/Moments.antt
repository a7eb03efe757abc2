-- The moments of a run go on: as a step begins it has come to one, and what is told later changes none.
use Rattle.std.proofs.Common.{◌≡◌, ◌∙◌, inl, inr, ⊎_elim, ℕ, zero, suc, ◌+◌, ◌-◌, ◌/◌, ◌%◌, ◌<◌, ◌≤◌, true, false, List, [], ◌∷◌, ◌++◌, All, length, map, filter, take, drop, refl, ap, sym, subst, arith, length-append, append-nil}
use Rattle.std.specs.List.{AllByRecursion}
use Rattle.std.proofs.lemmas.Bool.{cases_lt}
use Rattle.std.proofs.lemmas.List.{take_all, take-append-le, length-map}
use Rattle.std.proofs.lemmas.List.Elements.{All-weaker}
use Rattle.trace_model.specs.declared.Card.{Card}
use Rattle.trace_model.specs.declared.Card.TheVariants.{A, B}
use Rattle.trace_model.specs.Trace.{TraceSecond, driven, dark}
use Rattle.log_model.specs.run_model.declared.Device.{Device}
use Rattle.log_model.specs.run_model.declared.Device.TheVariants.{Unit as Recorder, CardA, CardB}
use Rattle.tach_media.specs.Medium.{State, IsCoherent, last_count}
use Rattle.log_model.specs.declared.lines.Break.{Break}
use Rattle.log_model.specs.declared.lines.Break.TheVariants.{Cut, Tear}
use Rattle.log_model.specs.declared.lines.Mark.{Mark}
use Rattle.log_model.specs.Log.{RunLog}
use Rattle.log_model.specs.Slots.{same_card}
use Rattle.log_model.specs.Course.{ToldSecond, went}
use Rattle.log_model.specs.Causes.{device_of, second_of, cuts, tears, cards_torn}
use Rattle.device_calls.specs.history_model.Completeness.{IsComplete}
use Rattle.device_calls.specs.run_unit_course.Followed.{UnitPower, Lit as IsLit, Due as IsDue, Lost as IsLost}
use Rattle.device_calls.specs.safety_model.Unit.{marks_of}
use Rattle.device_calls.specs.safety_model.Safe.{Devices, card_of, breakdowns_of}
use Rattle.device_calls.specs.unit_rule.Marks.{MarkIsKept}
use Rattle.run_minutes.specs.run_promise.Cards.{IsCardHeld}
use Rattle.run_minutes.specs.run_promise.Between.{RunLedger, LedgerStands}
use Rattle.run_minutes.specs.run_promise.Found.{found_of}
use Rattle.run_minutes.proofs.run_promise.End.{lit-carried}
use Rattle.run_minutes.specs.run_promise.Origin.{Origin, rule_of, start_at, first_of}
use Rattle.run_minutes.specs.Later.{AreAfter, AreCalm, IsLater, failed_tears}
use Rattle.run_outcome.specs.Broken.{BreaksDown, failed_cuts}
use Rattle.run_outcome.specs.declared.outcome.Outcome.{Outcome}
use Rattle.run_acts.specs.run_course.Caused.{AreCaused}
use Rattle.run_acts.specs.run_course.Followed.{IsBreakBefore}
use Rattle.run_acts.proofs.run_course.Caused.{breaks-next}
use Rattle.run_acts.specs.run_record.Recorded.{Values, IsHeldBy, carried}
use Rattle.run_acts.specs.declared.run.Run.{Run}
use Rattle.run_acts.specs.Recording.{log_of, values_of, RunRecorded}
use Rattle.recorder_with_cards.specs.Moments.{as_first_told, HadBroken, IsMoment, IsNear}
use Rattle.recorder_with_cards.specs.Carded.{HasBrokenSo, RunMoments}
use Rattle.recorder_with_cards.proofs.Breakdowns.{rose-low, tears-of}
use Rattle.recorder_with_cards.proofs.Growing.{Grows, tells-then}

-- ---- how often the devices have broken down, by what is told so far

cuts-are : (log : RunLog) → failed_cuts log.breaks ≡ length (cuts true log)
cuts-are log = length-map (cuts true log) second_of

tears-are : (log : RunLog) → failed_tears log.breaks ≡ length (tears true log)
tears-are log = refl

-- calls that tell so many more
pub counts-then : (before : Device → ℕ) (breaks later : List Break) (d e : Devices) → HasBrokenSo before breaks d → AreAfter d e → AreCalm breaks later d e → BreaksDown breaks later d.unit e.unit → HasBrokenSo before later e
counts-then before breaks later d e counts goes calm broke = record {
  unit = λ low.
      let rises = goes.unit.breakdowns in
      let was = counts.unit (omega (arith, low, rises)) in
      let now = broke.most low in
      omega (arith, was, now);
  cards = λ low_a low_b.
      let rises_a = goes.card_a.breakdowns in
      let rises_b = goes.card_b.breakdowns in
      let was = counts.cards (omega (arith, low_a, rises_a)) (omega (arith, low_b, rises_b)) in
      let now = calm.most low_a low_b in
      omega (arith, was, now);
}

-- of each card alone, where each tear is a breakdown of its card
each-card : (before : Device → ℕ) (log : RunLog) (told : List ToldSecond) (d : Devices) (ss : List TraceSecond) → AreCaused before (breakdowns_of d) ss log → told ≡ (went log ss).told → HasBrokenSo before log.breaks d
    → d.card_a.breakdowns < last_count → d.card_b.breakdowns < last_count → (c : Card) → (card_of d c).breakdowns ≤ before (device_of c) + length (filter (same_card c) (cards_torn told))
each-card before log told d ss caused is counts low_a low_b c =
    let all = tears-of log (went log ss).told caused.failed_tears in
    let few = counts.cards low_a low_b in
    let many_a = rose-low (length (filter (same_card A) (cards_torn (went log ss).told))) (before CardA) d.card_a.breakdowns (caused.torn_cards A) low_a in
    let many_b = rose-low (length (filter (same_card B) (cards_torn (went log ss).told))) (before CardB) d.card_b.breakdowns (caused.torn_cards B) low_b in
    let tears_ = tears-are log in
    subst (λ (ts : List ToldSecond). (card_of d c).breakdowns ≤ before (device_of c) + length (filter (same_card c) (cards_torn ts))) (sym is)
    (by c (omega (arith, few, all, many_a, many_b, tears_)) (omega (arith, few, all, many_a, many_b, tears_)))
  where
    by : (k : Card) → d.card_a.breakdowns ≤ before CardA + length (filter (same_card A) (cards_torn (went log ss).told)) → d.card_b.breakdowns ≤ before CardB + length (filter (same_card B) (cards_torn (went log ss).told))
        → (card_of d k).breakdowns ≤ before (device_of k) + length (filter (same_card k) (cards_torn (went log ss).told))
    by A a b = a
    by B a b = b

-- ---- the marks so far were told at clocks that have come

stands : (o : Origin) (done : List TraceSecond) (supply : UnitPower) (v : Values) (w : RunLedger) (d : Devices) → IsHeldBy o done supply v w d → LedgerStands o.found w d
stands o done (IsLit span) v w d held = lit-carried o.found w d held.powered.lit
stands o done IsDue v w d held = held.powerless.carried
stands o done IsLost v w d held = held.powerless.carried

-- what a device tells of the writes before, by what it tells of now
had-now : (s : State) (writes most : ℕ) → IsCoherent s → writes ≤ s.clock → s.breakdowns ≤ most → HadBroken s writes most
had-now s writes most whole begun few = record { begun = begun; told = λ t n low says. let least = whole.broken t n says in omega (arith, least, few) }

had-later : (old new : State) (writes most : ℕ) → IsLater old new → HadBroken old writes most → HadBroken new writes most
had-later old new writes most later had = record {
  begun = let on = later.clock in let was = had.begun in omega (arith, on, was);
  told = λ t n low says. had.told t n low (later.tells.told t n (let was = had.begun in omega (arith, low, was)) says);
}

-- ---- what is told so far is of earlier seconds

seconds-before : (n : ℕ) (bs : List Break) → AllByRecursion (IsBreakBefore n n) bs → AllByRecursion (λ (b : Break). second_of b < n) bs
seconds-before n [] here = tt
seconds-before n (Cut second kept failed begun ∷ bs) here = (here.0, seconds-before n bs here.1)
seconds-before n (Tear second slot failed begun late ∷ bs) here = (here.0, seconds-before n bs here.1)

breaks-so-far : (o : Origin) (done : List TraceSecond) (run : Run) (out : Outcome) (d : Devices) → RunRecorded o done run out d → AllByRecursion (λ (b : Break). second_of b < o.from + length done) (log_of out).breaks
breaks-so-far o done run out d r =
    let next : run.next ≡ o.from + length done = r.recorded.recorded.followed.next in
    subst (λ (n : ℕ). AllByRecursion (λ (b : Break). second_of b < n) (log_of out).breaks) next
    (seconds-before run.next (log_of out).breaks (breaks-next (rule_of o) (start_at o) o.from (first_of o) done _ r.recorded.recorded.followed))

-- ---- A MOMENT, as the run has come to it

pub moment-now : (o : Origin) (done : List TraceSecond) (run : Run) (out : Outcome) (d : Devices) → RunRecorded o done run out d → HasBrokenSo o.breakdowns out.breaks.items d → IsCoherent d.unit → ((c : Card) → IsCoherent (card_of d c))
    → (number : ℕ) → AllByRecursion (λ (b : Break). second_of b < number) (log_of out).breaks → IsMoment (rule_of o) (start_at o) o.breakdowns done number (log_of out) out.marks.items d
moment-now o done run out d r counts unit_whole card_whole number early =
    let h = r.recorded in
    let w = stands o done r.supply (values_of run out) (carried (values_of run out) h.due h.book h.standing h.brought h.hands h.firsts) d h.held in
    let all : take (length out.marks.items) out.marks.items ≡ out.marks.items = take_all (length out.marks.items) out.marks.items (omega arith) in
    record {
      by_then = log_of out;
      told = record { breaks = []; finds = []; breaks_are = ap (map as_first_told) (sym (append-nil (log_of out).breaks)); finds_are = sym (append-nil (log_of out).finds); no_earlier = tt; found_since = tt };
      earlier = early;
      count = length out.marks.items;
      few = omega arith;
      complete = subst (λ (ms : List Mark). IsComplete (rule_of o) (start_at o) (log_of out) (went (log_of out) done).told ms) (sym all) h.recorded.complete;
      unit = λ low. subst (λ (ms : List Mark). All (λ (m : Mark). HadBroken d.unit m.clock (o.breakdowns Recorder + length (cuts true (log_of out)))) (marks_of Recorder ms)) (sym all)
          (All-weaker (MarkIsKept _ _ d.unit) (λ (m : Mark). HadBroken d.unit m.clock (o.breakdowns Recorder + length (cuts true (log_of out))))
          (λ m kept. had-now d.unit m.clock (o.breakdowns Recorder + length (cuts true (log_of out))) unit_whole (kept.holds [] []).0 (let few = counts.unit low in let are = cuts-are (log_of out) in omega (arith, few, are)))
          (marks_of Recorder out.marks.items) w.unit.marks_hold);
      cards = λ low_a low_b c.
          let most : ℕ = o.breakdowns (device_of c) + length (filter (same_card c) (cards_torn (went (log_of out) done).told)) in
          subst (λ (ms : List Mark). All (λ (m : Mark). HadBroken (card_of d c) m.clock most) (marks_of (device_of c) ms)) (sym all)
          (All-weaker (IsCardHeld (found_of o.found c) c h.book (card_of d c)) (λ (m : Mark). HadBroken (card_of d c) m.clock most)
          (λ m held. had-now (card_of d c) m.clock most (card_whole c) held.holds.0 (each-card o.breakdowns (log_of out) (went (log_of out) done).told d done h.recorded.caused.caused refl counts low_a low_b c))
          (marks_of (device_of c) out.marks.items) (w.marks c).held);
    }

-- WHAT IS TOLD LATER changes none: of seconds no earlier than this
pub moment-later : (o : Origin) (done : List TraceSecond) (number next : ℕ) (before after : Outcome) (d e : Devices) → number ≤ next → Grows next before after → AreAfter d e
    → IsMoment (rule_of o) (start_at o) o.breakdowns done number (log_of before) before.marks.items d → IsMoment (rule_of o) (start_at o) o.breakdowns done number (log_of after) after.marks.items e
moment-later o done number next before after d e le grows later m =
    let front : take m.count after.marks.items ≡ take m.count before.marks.items = ap (take m.count) grows.marks.1 ∙ take-append-le m.count before.marks.items grows.marks.0 m.few in
    record {
      by_then = m.by_then;
      told = tells-then number next m.by_then (log_of before) (log_of after) le m.told grows.told;
      earlier = m.earlier;
      count = m.count;
      few = let few = m.few in let more = ap (λ (ms : List Mark). length ms) grows.marks.1 ∙ length-append before.marks.items grows.marks.0 in omega (arith, few, more);
      complete = subst (λ (ms : List Mark). IsComplete (rule_of o) (start_at o) m.by_then (went m.by_then done).told ms) (sym front) m.complete;
      unit = λ low.
          let most : ℕ = o.breakdowns Recorder + length (cuts true m.by_then) in
          subst (λ (ms : List Mark). All (λ (x : Mark). HadBroken e.unit x.clock most) (marks_of Recorder ms)) (sym front)
          (All-weaker (λ (x : Mark). HadBroken d.unit x.clock most) (λ (x : Mark). HadBroken e.unit x.clock most) (λ x had. had-later d.unit e.unit x.clock most later.unit had) (marks_of Recorder (take m.count before.marks.items))
          (m.unit (let rises = later.unit.breakdowns in omega (arith, low, rises))));
      cards = λ low_a low_b c.
          let most : ℕ = o.breakdowns (device_of c) + length (filter (same_card c) (cards_torn (went m.by_then done).told)) in
          subst (λ (ms : List Mark). All (λ (x : Mark). HadBroken (card_of e c) x.clock most) (marks_of (device_of c) ms)) (sym front)
          (All-weaker (λ (x : Mark). HadBroken (card_of d c) x.clock most) (λ (x : Mark). HadBroken (card_of e c) x.clock most) (λ x had. had-later (card_of d c) (card_of e c) x.clock most (card-later c) had) (marks_of (device_of c) (take m.count before.marks.items))
          (m.cards (let rises = later.card_a.breakdowns in omega (arith, low_a, rises)) (let rises = later.card_b.breakdowns in omega (arith, low_b, rises)) c));
    }
  where
    card-later : (k : Card) → IsLater (card_of d k) (card_of e k)
    card-later A = later.card_a
    card-later B = later.card_b

-- ---- A STEP

-- the front of a trace that goes on
front-same : (k : ℕ) (done more : List TraceSecond) → k ≤ length done → take k (done ++ more) ≡ take k done
front-same k done more le = take-append-le k done more le

near-more : (from k n : ℕ) (done more : List TraceSecond) → n < length done → IsNear from done k n → IsNear from (done ++ more) k n
near-more from k n done more low near = ⊎_elim (λ here. inl here) (λ other. inr (⊎_elim
    (λ idle. inl (idle.0, subst (λ (ss : List TraceSecond). AllByRecursion (λ (s : TraceSecond). s.actions ≡ []) (drop k ss)) (sym (front-same (suc n) done more (omega (arith, low)))) idle.1))
    (λ off. inr (subst (λ (ss : List TraceSecond). AllByRecursion (λ (s : TraceSecond). s.has_power ≡ false) (drop k ss)) (sym (front-same n done more (omega (arith, low)))) off)) other)) near

-- the front of what comes behind these
take-behind : (done more : List TraceSecond) (j : ℕ) → drop (length done) (take (length done + j) (done ++ more)) ≡ take j more
take-behind [] more j = ap (λ (n : ℕ). take n more) (let e : zero + j ≡ j = omega arith in e)
take-behind (s ∷ done) more j =
    ap (λ (n : ℕ). drop (suc (length done)) (take n ((s ∷ done) ++ more))) (let e : suc (length done) + j ≡ suc (length done + j) = omega arith in e) ∙ take-behind done more j

-- the seconds of a step are near its begin
abbrev pub StaysNear : (from : ℕ) → (done more : List TraceSecond) → Type 0
StaysNear from done more = (j : ℕ) → j < length more → IsNear from (done ++ more) (length done) (length done + j)

-- where it is one alone
pub near-one : (from : ℕ) (done more : List TraceSecond) → length more ≡ 1 → StaysNear from done more
near-one from done more one = λ j low. inl (let here : length done ≡ length done + j = omega (arith, one, low) in here)

-- of the same minute, without actions
idle-front : (j n number speed : ℕ) → AllByRecursion (λ (s : TraceSecond). s.actions ≡ []) (take j (driven n number speed []))
idle-front zero n number speed = tt
idle-front (suc j) zero number speed = tt
idle-front (suc j) (suc n) number speed = (refl, idle-front j n (number + 1) speed)

pub near-minute : (from : ℕ) (done : List TraceSecond) (n number speed : ℕ) → (from + length done) % 60 + length (driven n number speed []) ≤ 60 → StaysNear from done (driven n number speed [])
near-minute from done n number speed fits = λ j low.
    let more : List TraceSecond = driven n number speed [] in
    let same : (from + length done) / 60 ≡ (from + (length done + j)) / 60 = omega (arith, fits, low) in
    let behind : drop (length done) (take (suc (length done + j)) (done ++ more)) ≡ take (suc j) more =
    ap (λ (k : ℕ). drop (length done) (take k (done ++ more))) (let e : suc (length done + j) ≡ length done + suc j = omega arith in e) ∙ take-behind done more (suc j) in
    inr (inl (same, subst (AllByRecursion (λ (s : TraceSecond). s.actions ≡ [])) (sym behind) (idle-front (suc j) n number speed)))

-- or without power
dark-front : (j n number : ℕ) → AllByRecursion (λ (s : TraceSecond). s.has_power ≡ false) (take j (dark n number))
dark-front zero n number = tt
dark-front (suc j) zero number = tt
dark-front (suc j) (suc n) number = (refl, dark-front j n (number + 1))

pub near-dark : (from : ℕ) (done : List TraceSecond) (n number : ℕ) → StaysNear from done (dark n number)
near-dark from done n number = λ j low. inr (inr (subst (AllByRecursion (λ (s : TraceSecond). s.has_power ≡ false)) (sym (take-behind done (dark n number) j)) (dark-front j n number)))

-- SO IT GOES ON over a step
pub moments-on : (o : Origin) (done more : List TraceSecond) (run : Run) (before after : Outcome) (d e : Devices) → RunRecorded o done run before d → RunMoments o done before d → IsCoherent d.unit → ((c : Card) → IsCoherent (card_of d c))
    → run.next ≡ o.from + length done → Grows run.next before after → AreAfter d e → AreCalm before.breaks.items after.breaks.items d e → BreaksDown before.breaks.items after.breaks.items d.unit e.unit → StaysNear o.from done more
    → RunMoments o (done ++ more) after e
moments-on o done more run before after d e r m unit_whole card_whole next grows later calm broke near = record {
  counts = counts-then o.breakdowns before.breaks.items after.breaks.items d e m.counts later calm broke;
  moments = λ n low. ⊎_elim (λ old. older n old) (λ new. newer n new low) (cases_lt n (length done));
}
  where
    on : (k : ℕ) → k ≤ length done → IsMoment (rule_of o) (start_at o) o.breakdowns (take k done) (o.from + k) (log_of before) before.marks.items d
        → IsMoment (rule_of o) (start_at o) o.breakdowns (take k (done ++ more)) (o.from + k) (log_of after) after.marks.items e
    on k le was = subst (λ (ss : List TraceSecond). IsMoment (rule_of o) (start_at o) o.breakdowns ss (o.from + k) (log_of after) after.marks.items e) (sym (front-same k done more le))
        (moment-later o (take k done) (o.from + k) run.next before after d e (omega (arith, le, next)) grows later was)

    older : (n : ℕ) → n < length done → (k : ℕ) × (k ≤ n) × IsNear o.from (done ++ more) k n × IsMoment (rule_of o) (start_at o) o.breakdowns (take k (done ++ more)) (o.from + k) (log_of after) after.marks.items e
    older n low =
        let was = m.moments n low in
        let few = was.1 in
        (was.0, was.1, near-more o.from was.0 n done more low was.2, on was.0 (omega (arith, few, low)) was.3)

    newer : (n : ℕ) → length done ≤ n → n < length (done ++ more) → (k : ℕ) × (k ≤ n) × IsNear o.from (done ++ more) k n × IsMoment (rule_of o) (start_at o) o.breakdowns (take k (done ++ more)) (o.from + k) (log_of after) after.marks.items e
    newer n least low =
        let len = length-append done more in
        let whole : take (length done) done ≡ done = take_all (length done) done (omega arith) in
        let at : length done + (n - length done) ≡ n = omega (arith, least) in (
          length done,
          least,
          subst (λ (x : ℕ). IsNear o.from (done ++ more) (length done) x) at (near (n - length done) (omega (arith, least, low, len))),
          on (length done) (omega arith) (subst (λ (ss : List TraceSecond). IsMoment (rule_of o) (start_at o) o.breakdowns ss (o.from + length done) (log_of before) before.marks.items d) (sym whole)
              (moment-now o done run before d r m.counts unit_whole card_whole (o.from + length done) (breaks-so-far o done run before d r))),
        )

-- before its first second
pub moments-none : (o : Origin) (out : Outcome) (d : Devices) → HasBrokenSo o.breakdowns out.breaks.items d → RunMoments o [] out d
moments-none o out d counts = record { counts = counts; moments = λ n low. absurd (omega (arith, low)) }
