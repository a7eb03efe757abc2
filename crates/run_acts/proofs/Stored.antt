-- What a run has stored of odometers, over its record: while there is power, as power is lost, and as it is back.
use Rattle.std.proofs.Common.{◌≡◌, ◌⊎◌, ⊎_elim, ℕ, zero, suc, ◌+◌, ◌-◌, ◌<◌, ◌≤◌, Bool, true, false, cond, not, Option, Some, None, List, [], ◌∷◌, ◌++◌, All, Contains, length, map, take, refl, ap, sym, subst, ◌∙◌, arith, append-nil, append_assoc}
use Rattle.std.specs.Prelude.{option_map, option_to_list}
use Rattle.std.specs.List.{AllByRecursion}
use Rattle.std.proofs.lemmas.List.{map-append, same_from_push, length-append}
use Rattle.std.proofs.lemmas.List.Elements.{All-nil, All-cons, Contains-append_left, Contains-append_right, Contains-append_cases, Contains-push, Contains-push_cases}
use Rattle.std.proofs.lemmas.List.Sums.{fold-append}
use Rattle.tach_media.specs.Medium.{State}
use Rattle.trace_model.specs.declared.Action.{Action}
use Rattle.trace_model.specs.Trace.{TraceSecond}
use Rattle.unit_model.specs.minute_model.Activity.{last}
use Rattle.unit_model.specs.minute_model.declared.Minute.{Minute}
use Rattle.unit_model.specs.minute_model.Span.{AreNumbered, count_from, ungiven_of}
use Rattle.unit_model.proofs.minute_model.Numbered.{numbered-parts}
use Rattle.unit_model.proofs.minute_model.Ranges.{last-push}
use Rattle.log_model.specs.declared.lines.Break.{Break}
use Rattle.log_model.specs.declared.lines.Break.TheVariants.{Cut, Tear}
use Rattle.log_model.specs.declared.lines.Mark.{Mark}
use Rattle.log_model.specs.Causes.{second_of}
use Rattle.log_model.specs.Course.{ToldSecond, Visit, Went, went}
use Rattle.log_model.specs.Log.{RunLog, Phase}
use Rattle.log_model.specs.Spans.{seconds_in, first_in, end_in, spans_with, spans_of, AreApart}
use Rattle.log_model.proofs.Spanning.{spans-more, spanned}
use Rattle.device_calls.specs.history_model.Minutes.{HistoryMinute}
use Rattle.device_calls.specs.history_model.Presence.{Start}
use Rattle.device_calls.specs.history_model.History.{seated, decided_of, cut_second}
use Rattle.device_calls.specs.history_model.Book.{Book, all, found, Rising, IsMark}
use Rattle.device_calls.proofs.history_model.Growing.{apart-last}
use Rattle.device_calls.proofs.history_model.Deciding.{counted}
use Rattle.device_calls.specs.device_rule.Views.{unit_view}
use Rattle.unit_model.specs.declared.layout.TheConstants.{HIGHEST_ODOMETER}
use Rattle.unit_model.specs.Image.{last_kept, odometer_at}
use Rattle.device_calls.specs.run_unit_course.Lines.{cut_at, found_from, tells_cut}
use Rattle.device_calls.specs.run_unit_course.Followed.{UnitPower, Lit, MayPower, as_spans, cuts_from}
use Rattle.device_calls.specs.run_unit_course.Legs.{Travel, stranded_at, all_travelled}
use Rattle.device_calls.specs.run_unit_course.Travelled.{MayShow}
use Rattle.device_calls.specs.run_unit_course.Turn.{span_at, begins_with, cut_at_end, cut_last}
use Rattle.device_calls.proofs.run_unit_course.Legs.{travelled-all, travelled-none, travelled-earlier}
use Rattle.device_calls.proofs.run_unit_course.Lines.{tells-here}
use Rattle.device_calls.proofs.run_unit_course.Alike.{decided-empty}
use Rattle.device_calls.proofs.run_unit_course.Spans.{decided-cut}
use Rattle.device_calls.proofs.unit_rule.Marking.{holds-dark}
use Rattle.device_calls.specs.unit_rule.Marks.{UnitFollowsBook}
use Rattle.device_calls.specs.unit_rule.Odometer.{odometer_by, odometer_after, ShowsOdometer, HasTravelled}
use Rattle.device_calls.proofs.unit_rule.Moves.{shown-last}
use Rattle.device_calls.proofs.unit_rule.Travelling.{odometer-sum}
use Rattle.unit_notes.specs.note_model.Odometer.{SpanFrom, IsBeingKept, MayStore}
use Rattle.device_calls.specs.safety_model.Safe.{Devices, breakdowns_of}
use Rattle.run_events.specs.run_course.Moments.{and_break}
use Rattle.run_events.specs.run_course.Followed.{Progress, BookFollowsRun, IsBreakBefore}
use Rattle.run_events.specs.run_course.Seconds.{next_told, kept_all, broken_at}
use Rattle.run_events.specs.run_course.Travelled.{AreLegsOf, AreShutLegs}
use Rattle.run_events.proofs.run_course.Logs.{found_log, went-found, tells-none, breaks-front}
use Rattle.run_events.proofs.run_course.New.{are-new}
use Rattle.run_events.proofs.run_course.Steps.{lit-parts, now-told, span-end}
use Rattle.run_minutes.proofs.run_promise.Going.{sure-kept}
use Rattle.run_events.specs.run_course.Telling.{IsLeft, begun_by}
use Rattle.run_minutes.specs.run_promise.Origin.{Origin, rule_of, start_at, first_of}
use Rattle.run_minutes.specs.run_promise.Seconds.{found_again}
use Rattle.run_minutes.proofs.run_promise.Seconds.{found-recorded}
use Rattle.run_events.specs.run_rings.Spans.{with_second}
use Rattle.run_events.proofs.run_rings.Spans.{are-spans}
use Rattle.run_note_record.specs.RingsSoFar.{HasMoreBreaks}
use Rattle.run_note_record.specs.Steps.{spans_cut}
use Rattle.run_note_record.specs.Stored.{minutes_kept, IsNewest, StandsOn, StoresOn, StoresOff}
use Rattle.run_note_record.proofs.Stored.{AtEnd, nothing, push, at-end, mapped, numbers, may-store}
use Rattle.run_note_record.proofs.Bases.{with-first, next-are, stored-later, stored-ends, stored-found}
use Rattle.run_note_record.proofs.Booked.{after-numbers, book-numbers, book-none, span-ends, found-newest, deciding-now, in-second}
use Rattle.run_record.specs.Recorded.{Values, progress, carried, RecordPowered, RecordBetweenSeconds}
use Rattle.run_record.specs.Within.{lost_minute, told_before, RecordAtFailure}
use Rattle.run_record.proofs.Cutting.{ends, goes, number, decides, cut-recorded}

-- ---- odometers

odometer-low : (start : ℕ) (legs : List ℕ) → start ≤ HIGHEST_ODOMETER → odometer_after start legs ≤ HIGHEST_ODOMETER
odometer-low start legs le = let e = odometer-sum start legs le in omega (arith, e)

odometer-leg : (start : ℕ) (before : List ℕ) (leg : ℕ) → odometer_after start (before ++ leg ∷ []) ≡ odometer_by (odometer_after start before) leg
odometer-leg start before leg = fold-append odometer_by start before (leg ∷ [])

rising-front : (first : ℕ) (xs ys : List HistoryMinute) → Rising first (xs ++ ys) → Rising first xs
rising-front first [] ys h = tt
rising-front first (x ∷ xs) ys h = (h.0, rising-front x.minute xs ys h.1)

-- ---- what an image may show, by the rules of the unit

module _ (o : Origin) (first : o.found.unit.first ≡ first_of o) (due : ℕ) (b : Book) (marks : List Mark) (unit : State) (holds : UnitFollowsBook o.found.unit due b marks unit) (g : Travel) where
  rises : Rising (first_of o) b.sure
  rises = rising-front (first_of o) b.sure (option_to_list b.maybe) (subst (λ (n : ℕ). Rising n (all b)) first (holds.unit_holds [] []).order.now.rising)

  rises-all : Rising (first_of o) (all b)
  rises-all = subst (λ (n : ℕ). Rising n (all b)) first (holds.unit_holds [] []).order.now.rising

  shows : (x : List ℕ) → unit.may_leave x → (shown : ShowsOdometer (odometer_at o.recording.unit) b g x) → MayShow (first_of o) b g (last_kept x) shown.leg
  shows x on shown =
      let held = (holds.unit_holds [] []).now (unit_view [] [] x) (x, on, refl) in
      record {
        mark = subst (λ (n : ℕ). IsMark n (all b) (last_kept x)) first (subst (IsMark o.found.unit.first (all b)) (shown-last [] [] x) held.mark);
        low = subst (λ (n : ℕ). All (λ (i : HistoryMinute). i.minute ≤ n) b.sure) (shown-last [] [] x) held.sure;
        side = shown.side;
        behind = shown.behind;
      }

-- where that is stored which these may show, each image has stored so
image-stores : (o : Origin) (first : o.found.unit.first ≡ first_of o) (due : ℕ) (b : Book) (marks : List Mark) (unit : State) → UnitFollowsBook o.found.unit due b marks unit → (g : Travel) → HasTravelled (odometer_at o.recording.unit) b g unit → (base : ℕ) →
    base ≡ odometer_after (odometer_at o.recording.unit) g.before → (spans : List SpanFrom) →
    ((kept leg : ℕ) → MayShow (first_of o) b g kept leg → MayStore (rule_of o) (odometer_at o.recording.unit) (first_of o) spans kept (odometer_by base leg)) →
    (x : List ℕ) → unit.may_leave x → MayStore (rule_of o) (odometer_at o.recording.unit) (first_of o) spans (last_kept x) (odometer_at x)
image-stores o first due b marks unit holds g travels base is spans stores x on =
    let shown = travels.now x on in
    subst (λ (q : ℕ). MayStore (rule_of o) (odometer_at o.recording.unit) (first_of o) spans (last_kept x) q)
    (sym (shown.is ∙ odometer-leg (odometer_at o.recording.unit) g.before shown.leg ∙ ap (λ (n : ℕ). odometer_by n shown.leg) (sym is)))
    (stores (last_kept x) shown.leg (shows o first due b marks unit holds g x on shown))

-- ---- WHILE THERE IS POWER, between two seconds

module _ (o : Origin) (first : o.found.unit.first ≡ first_of o) (done : List TraceSecond) (v : Values) (d : Devices) (t : ToldSecond) (span : List ToldSecond) (r : RecordBetweenSeconds o done (Lit (t ∷ span)) v d) (earlier : List SpanFrom)
    (are : spans_of (went v.log done).told ≡ map (λ (s : SpanFrom). s.span) earlier ++ (t ∷ span) ∷ []) (stands : StandsOn o v.log v.unfound earlier v.odometer) where
  abbrev so_far : Progress
  so_far = progress v (Lit (t ∷ span)) r.book

  abbrev on : RecordPowered o done (t ∷ span) v (carried v r.due r.book r.standing r.brought r.hands r.firsts) d
  on = r.held

  abbrev legs : AreShutLegs (rule_of o) (first_of o) v.log (take v.unfound v.log.breaks) r.recorded.legs.ended (t ∷ span) r.book r.travel
  legs = r.recorded.legs.legs

  counted-from : v.odometer ≡ odometer_after (odometer_at o.recording.unit) r.travel.before
  counted-from = r.odometer

  none-left : {X P : Type 0} (x : X) → None ≡ Some x → P
  none-left x is = absurd (cc)

  -- whatever of its last second is told, if it has decided the same
  pub lit-stores : (other : List ToldSecond) → decided_of (rule_of o) other ≡ decided_of (rule_of o) (t ∷ span) → (x : List ℕ) → d.unit.may_leave x →
      MayStore (rule_of o) (odometer_at o.recording.unit) (first_of o) (earlier ++ record { base = v.odometer; span = other } ∷ []) (last_kept x) (odometer_at x)
  lit-stores other same x left =
      image-stores o first r.due r.book v.marks d.unit (holds-dark o.found.unit r.due r.book v.marks d.unit on.powered.lit.unit) r.travel r.beside.travels v.odometer counted-from (earlier ++ record { base = v.odometer; span = other } ∷ [])
      (may-store (rule_of o) (odometer_at o.recording.unit) (first_of o) earlier v.odometer other
      (subst (λ (n : ℕ). n ≤ HIGHEST_ODOMETER) (sym counted-from) (odometer-low (odometer_at o.recording.unit) r.travel.before r.beside.travels.begins))
      (decided_of (rule_of o) (t ∷ span)) None [] (same ∙ sym (append-nil (decided_of (rule_of o) (t ∷ span)))) (λ m is. none-left m is)
      (minutes_kept (rule_of o) v.log earlier) stands.kept stands.newest stands.stored r.book r.travel
      (book-numbers (rule_of o) (start_at o) o.from (first_of o) done so_far r.recorded.followed (t ∷ span) refl refl earlier are)
      (rises o first r.due r.book v.marks d.unit (holds-dark o.found.unit r.due r.book v.marks d.unit on.powered.lit.unit) r.travel) (λ m is. none-left m is)
      (λ i is. none-left i (sym (book-none (rule_of o) (start_at o) o.from (first_of o) done so_far r.recorded.followed (t ∷ span) refl refl earlier are) ∙ is))
      legs.sure
      (λ leg is. none-left leg (sym legs.none ∙ is)))
      x left

  -- AN `off` LINE takes the power: the last second turns out to be a cut's.
  last-cut : (xs : List ToldSecond) (x : ToldSecond) → cut_last (xs ++ x ∷ []) ≡ xs ++ cut_at_end x ∷ []
  last-cut [] x = refl
  last-cut (y ∷ []) x = refl
  last-cut (y ∷ z ∷ xs) x = ap (λ (l : List ToldSecond). y ∷ l) (last-cut (z ∷ xs) x)

  -- the number of a span's last second
  ends-at : (ss : List ToldSecond) → AtEnd ss → 0 < length ss → AreNumbered (first_in ss) (seconds_in ss) → end_in ss ≡ v.next → cut_second (last (cut_last ss)) ≡ Some (v.next - 1)
  ends-at _ nothing some numbered end = absurd (omega (arith, some))
  ends-at _ (push xs x) some numbered end =
      let parts = numbered-parts (first_in (xs ++ x ∷ [])) (seconds_in xs) (x.second ∷ []) (subst (AreNumbered (first_in (xs ++ x ∷ []))) (map-append (λ (y : ToldSecond). y.second) xs (x ∷ [])) numbered) in
      let is : x.second.number ≡ first_in (xs ++ x ∷ []) + length (seconds_in xs) = parts.1.0 in
      let c = counted xs in
      let l = length-append xs (x ∷ []) in
      let last_number : x.second.number ≡ v.next - 1 = omega (arith, is, c, l, end) in
      ap (λ (l : List ToldSecond). cut_second (last l)) (last-cut xs x) ∙ ap cut_second (last-push xs (cut_at_end x)) ∙ ap (λ (n : ℕ). Some n) last_number

  pub lit-off : StoresOff o (and_break v.log (cut_at (v.next - 1) false v.begun)) v.unfound (earlier ++ record { base = v.odometer; span = cut_last (t ∷ span) } ∷ []) d
  lit-off =
      let f = r.recorded.followed in
      let apart = apart-last o.from (o.from + length done) (map (λ (s : SpanFrom). s.span) earlier) (t ∷ span) (subst (λ (ss : List (List ToldSecond)). AreApart o.from ss (o.from + length done)) are (spanned v.log o.from done f.order).apart) in
      stored-ends o v.log (and_break v.log (cut_at (v.next - 1) false v.begun)) v.unfound earlier v.odometer (cut_last (t ∷ span)) (v.next - 1) d f.unfound (cut_at (v.next - 1) false v.begun ∷ [], refl) stands
      (ends-at (t ∷ span) (at-end (t ∷ span)) apart.0 apart.1 (span-end v.log o.from done (map (λ (s : SpanFrom). s.span) earlier) t span v.next f.order f.next f.power.running are))
      (tells-here v.log.breaks (v.next - 1) false v.begun)
      (tells-none (v.next - 1) v.next (take v.unfound v.log.breaks) (v.next - 1) (breaks-front (v.next - 1) v.next v.unfound v.log.breaks f.lines.breaks) (omega arith))
      (lit-stores (cut_last (t ∷ span)) (decided-cut (rule_of o) (t ∷ span)))

-- ---- POWER IS CUT within a second

no-maybe : {X P : Type 0} (x : X) → None ≡ Some x → P
no-maybe x is = absurd (cc)

kept-none : (is : List HistoryMinute) (b : Book) → b.maybe ≡ None → (kept_all is b).maybe ≡ None
kept-none [] b none = none
kept-none (i ∷ is) b none = kept-none is (record b { sure = b.sure ++ i ∷ []; maybe = None }) refl

maybe-of : (start : Start) (told : List ToldSecond) (past : List HistoryMinute) (l : Option Minute) (b : Book) → b.maybe ≡ None → (i : HistoryMinute) → (broken_at (option_map {T = Minute} (seated start told past) l) b).maybe ≡ Some i → (d : Minute) × (l ≡ Some d) × (d.minute ≡ i.minute)
maybe-of start told past None b none i is = no-maybe i (sym none ∙ is)
maybe-of start told past (Some d) b none i is = let same : seated start told past d ≡ i = cc in (d, refl, ap (λ (x : HistoryMinute). x.minute) same)

-- the last of minutes that rise is later than the others
rising-last : (first : ℕ) (xs : List HistoryMinute) (i : HistoryMinute) → Rising first (xs ++ i ∷ []) → (first < i.minute) × All (λ (j : HistoryMinute). j.minute < i.minute) xs
rising-last first [] i h = (h.0, All-nil (λ (j : HistoryMinute). j.minute < i.minute))
rising-last first (x ∷ xs) i h =
    let rest = rising-last x.minute xs i h.1 in
    let low = h.0 in
    let high = rest.0 in
    (omega (arith, low, high), All-cons (λ (j : HistoryMinute). j.minute < i.minute) x xs rest.0 rest.1)

-- so is the one of which the keeping was broken off
later-of : (first : ℕ) (start : Start) (told : List ToldSecond) (past : List HistoryMinute) (l : Option Minute) (b : Book) → Rising first (all (broken_at (option_map {T = Minute} (seated start told past) l) b)) → (d : Minute) → l ≡ Some d →
    (first < d.minute) × All (λ (i : HistoryMinute). i.minute < d.minute) (broken_at (option_map {T = Minute} (seated start told past) l) b).sure
later-of first start told past None b rises d is = no-maybe d is
later-of first start told past (Some x) b rises d is =
    let same : x ≡ d = cc in
    subst (λ (y : Minute). (first < y.minute) × All (λ (i : HistoryMinute). i.minute < y.minute) b.sure) same (rising-last first b.sure (seated start told past x) rises)

stranded-sure : (l : Option Minute) (g : Travel) → (stranded_at l g).sure ≡ g.sure
stranded-sure None g = refl
stranded-sure (Some d) g = refl

stranded-before : (l : Option Minute) (g : Travel) → (stranded_at l g).before ≡ g.before
stranded-before None g = refl
stranded-before (Some d) g = refl

stranded-maybe : (l : Option Minute) (g : Travel) → g.maybe ≡ None → (leg : ℕ) → (stranded_at l g).maybe ≡ Some leg → (d : Minute) × (l ≡ Some d) × (leg ≡ d.travelled)
stranded-maybe None g none leg is = no-maybe leg (sym none ∙ is)
stranded-maybe (Some d) g none leg is = let same : d.travelled ≡ leg = cc in (d, refl, sym same)

count-from_low : (a n m : ℕ) → Contains (count_from a n) m → a ≤ m
count-from_low a zero m at = absurd (omega (arith, at.1))
count-from_low a (suc n) m at = ⊎_elim
    (λ (here : Contains (a ∷ []) m). ⊎_elim (λ (none : Contains [] m). absurd (omega (arith, none.1))) (λ (same : a ≡ m). omega (arith, same)) (Contains-push_cases [] a m here))
    (λ (there : Contains (count_from (a + 1) n) m). let rest = count-from_low (a + 1) n m there in omega (arith, rest))
    (Contains-append_cases (a ∷ []) (count_from (a + 1) n) m at)

cuts-low : (span : List ToldSecond) (n : ℕ) → cuts_from (Lit span) n ≤ n
cuts-low [] n = omega arith
cuts-low (t ∷ span) n = omega arith

no-spans : (xs : List (List ToldSecond)) (x : List ToldSecond) {P : Type 0} → [] ≡ xs ++ x ∷ [] → P
no-spans xs x is = absurd (let l = length-append xs (x ∷ []) in omega (arith, ap (λ (ss : List (List ToldSecond)). length ss) is, l))

-- lines of before a second stand in front of those of that second
in-front : (n : ℕ) (xs ys zs ws : List Break) → AllByRecursion (λ (b : Break). second_of b < n) xs → AllByRecursion (λ (b : Break). second_of b ≡ n) ws → xs ++ ys ≡ zs ++ ws → (more : List Break) × (zs ≡ xs ++ more)
in-front n [] ys zs ws early here same = (zs, refl)
in-front n (x ∷ xs) ys [] [] early here same = absurd (cc)
in-front n (x ∷ xs) ys [] (w ∷ ws) early here same =
    let first_ : x ≡ w = cc in
    let lt : second_of x < n = early.0 in
    let is : second_of w ≡ n = here.0 in
    absurd (omega (arith, lt, is, ap second_of first_))
in-front n (x ∷ xs) ys (z ∷ zs) ws early here same =
    let first_ : x ≡ z = cc in
    let rest : xs ++ ys ≡ zs ++ ws = cc in
    let more = in-front n xs ys zs ws early.1 here rest in
    (more.0, ap (λ (l : List Break). z ∷ l) more.1 ∙ ap (λ (b : Break). b ∷ (xs ++ more.0)) (sym first_))

all-before : (cuts next n : ℕ) (bs : List Break) → cuts ≤ n → next ≤ n → AllByRecursion (IsBreakBefore cuts next) bs → AllByRecursion (λ (b : Break). second_of b < n) bs
all-before cuts next n [] a b h = tt
all-before cuts next n (Cut second kept failed begun ∷ bs) a b h = (let lt : second < cuts = h.0 in omega (arith, lt, a), all-before cuts next n bs a b h.1)
all-before cuts next n (Tear second slot failed begun late ∷ bs) a b h = (let lt : second < next = h.0 in omega (arith, lt, b), all-before cuts next n bs a b h.1)

-- the lines as a second began were of before it
pub lines-early : (o : Origin) (done : List TraceSecond) (p : Progress) → BookFollowsRun (rule_of o) (start_at o) o.from (first_of o) done p → (span : List ToldSecond) → p.supply ≡ Lit span → AllByRecursion (λ (b : Break). second_of b < p.next) p.log.breaks
lines-early o done p f span lit =
    all-before (cuts_from (Lit span) p.next) p.next p.next p.log.breaks (cuts-low span p.next) (omega arith)
    (subst (λ (sup : UnitPower). AllByRecursion (IsBreakBefore (cuts_from sup p.next) p.next) p.log.breaks) lit f.lines.breaks)

module _ (o : Origin) (first : o.found.unit.first ≡ first_of o) (done : List TraceSecond) (s : TraceSecond) (at : Phase) (waits : List Visit) (speed : Option ℕ) (v : Values) (d : Devices) (w : RecordAtFailure o done s at waits speed v d) (left_actions : List Action) (left : IsLeft s at left_actions)
    (spans : List SpanFrom) (are : map (λ (x : SpanFrom). x.span) spans ≡ spans_of (went w.b.run.log done).told) (t0 : ToldSecond) (lit0 : t0.lit ≡ true) (starts0 : t0.starts ≡ not (went w.b.run.log done).before.running)
    (was : RunLog) (was_unfound : ℕ) (early : AllByRecursion (λ (b : Break). second_of b < s.number) was.breaks) (within_ : was_unfound ≤ length was.breaks) (goes-further : HasMoreBreaks was v.log) (same-unfound : v.unfound ≡ was_unfound)
    (before : StoresOn o was was_unfound v.odometer (with_second spans v.odometer t0)) where
  abbrev p : Progress
  p = w.b.run

  -- by the log as the second began
  as-begun : HasMoreBreaks was p.log
  as-begun = in-front s.number was.breaks goes-further.0 p.log.breaks w.moment.breaks early
      (subst (λ (n : ℕ). AllByRecursion (λ (b : Break). second_of b ≡ n) w.moment.breaks) (sym w.moment.number) w.moment.breaks_here) (sym goes-further.1 ∙ w.moment.breaks_are)

  h : StoresOn o p.log p.unfound v.odometer (with_second spans v.odometer t0)
  h = subst (λ (n : ℕ). StoresOn o p.log n v.odometer (with_second spans v.odometer t0)) (sym same-unfound ∙ w.unfound) (stored-later o was p.log was_unfound v.odometer (with_second spans v.odometer t0) within_ as-begun before)

  abbrev log : RunLog
  log = and_break v.log (cut_at s.number true (begun_by s at))

  abbrev t : ToldSecond
  t = next_told log done s

  abbrev f : BookFollowsRun (rule_of o) (start_at o) o.from (first_of o) done p
  f = w.began.followed

  is-lit : t.lit ≡ true
  is-lit = ap (λ (x : ToldSecond). x.lit) (ends o done s at waits speed v d w left_actions left)

  is-cut : t.cut ≡ true
  is-cut = ap (λ (x : ToldSecond). x.cut) (ends o done s at waits speed v d w left_actions left)

  begins-so : t.starts ≡ begins_with w.b.span
  begins-so = ap (λ (x : ToldSecond). x.starts) (ends o done s at waits speed v d w left_actions left)

  -- the spans before the one that is cut
  record Going (span : List ToldSecond) : Type 0 where
    earlier : List SpanFrom
    stands : StandsOn o p.log p.unfound earlier v.odometer
    were : spans_of (went p.log done).told ≡ map (λ (x : SpanFrom). x.span) earlier ++ as_spans span
    now : with_second spans v.odometer t ≡ earlier ++ record { base = v.odometer; span = span ++ t ∷ [] } ∷ []

  going : (span : List ToldSecond) → p.supply ≡ Lit span → t.lit ≡ true → t.starts ≡ begins_with span → Going span
  going [] lit is_lit begins =
      let g = lit-parts (rule_of o) (start_at o) o.from (first_of o) done p f [] lit w.began.waiting in
      let on : t0.starts ≡ true = starts0 ∙ ap not g.power.running in
      ⊎_elim
      (λ (so : (t0.starts ≡ true) × StandsOn o p.log p.unfound spans v.odometer). record { earlier = spans; stands = so.1; were = sym are ∙ sym (append-nil (map (λ (x : SpanFrom). x.span) spans)); now = with-first spans v.odometer t is_lit begins })
      (λ (so : (t0.starts ≡ false) × ((spans ≡ []) ⊎ StoresOn o p.log p.unfound v.odometer spans)). absurd (let bad : true ≡ false = sym on ∙ so.0 in cc))
      (in-second o p.log p.unfound v.odometer spans t0 lit0 h)
  going (x ∷ xs) lit is_lit begins =
      let g = lit-parts (rule_of o) (start_at o) o.from (first_of o) done p f (x ∷ xs) lit w.began.waiting in
      let off : t0.starts ≡ false = starts0 ∙ ap not g.power.running in
      ⊎_elim
      (λ (so : (t0.starts ≡ true) × StandsOn o p.log p.unfound spans v.odometer). absurd (let bad : true ≡ false = sym so.0 ∙ off in cc))
      (λ (so : (t0.starts ≡ false) × ((spans ≡ []) ⊎ StoresOn o p.log p.unfound v.odometer spans)). ⊎_elim
      (λ (none : spans ≡ []). no-spans g.ended (x ∷ xs) (ap (map (λ (y : SpanFrom). y.span)) (sym none) ∙ are ∙ g.spans))
      (λ (on : StoresOn o p.log p.unfound v.odometer spans).
      let mapped_ : map (λ (y : SpanFrom). y.span) spans ≡ map (λ (y : SpanFrom). y.span) on.earlier ++ on.span ∷ [] = ap (map (λ (y : SpanFrom). y.span)) on.are ∙ map-append (λ (y : SpanFrom). y.span) on.earlier (record { base = v.odometer; span = on.span } ∷ []) in
      let same = same_from_push (map (λ (y : SpanFrom). y.span) on.earlier) g.ended on.span (x ∷ xs) (sym mapped_ ∙ are ∙ g.spans) in
      record {
        earlier = on.earlier;
        stands = on.stands;
        were = sym are ∙ mapped_ ∙ ap (λ (sp : List ToldSecond). map (λ (y : SpanFrom). y.span) on.earlier ++ sp ∷ []) same.1;
        now = next-are on.earlier v.odometer on.span spans v.odometer t on.are is_lit begins ∙ ap (λ (sp : List ToldSecond). on.earlier ++ record { base = v.odometer; span = sp ++ t ∷ [] } ∷ []) same.1;
      })
      so.1)
      (in-second o p.log p.unfound v.odometer spans t0 lit0 h)

  gone : Going w.b.span
  gone = going w.b.span w.lit is-lit begins-so

  abbrev span : List ToldSecond
  span = w.b.span ++ t ∷ []

  abbrev spans-now : List SpanFrom
  spans-now = gone.earlier ++ record { base = v.odometer; span = span } ∷ []

  here : t.second.number ≡ p.next
  here = number o done s at waits speed v d w left_actions left

  cut-is : cut_second (last span) ≡ Some p.next
  cut-is = ap cut_second (last-push w.b.span t) ∙ by t.cut is-cut ∙ ap (λ (n : ℕ). Some n) here
    where
      by : (c : Bool) → c ≡ true → cond c (Some t.second.number) None ≡ Some t.second.number
      by true is = refl
      by false is = absurd (cc)

  numbered : AreNumbered (first_in span) (seconds_in span)
  numbered =
      let after = cut-recorded o done s at waits speed v d w left_actions left in
      let by = goes o done s at waits speed v d w left_actions left in
      let told : (went log (done ++ s ∷ [])).told ≡ (went p.log done).told ++ t ∷ [] = now-told (rule_of o) (start_at o) o.from (first_of o) done p f.order f.next f.unfound s log by in
      let are_now : spans_of (went log (done ++ s ∷ [])).told ≡ map (λ (x : SpanFrom). x.span) gone.earlier ++ span ∷ [] =
      ap spans_of told ∙ spans-more (went p.log done).told t ∙ ap (λ (ss : List (List ToldSecond)). spans_with ss t) (sym are) ∙ sym (are-spans spans v.odometer t) ∙ ap (map (λ (x : SpanFrom). x.span)) gone.now
      ∙ map-append (λ (x : SpanFrom). x.span) gone.earlier (record { base = v.odometer; span = span } ∷ []) in
      (apart-last o.from (o.from + length (done ++ s ∷ [])) (map (λ (x : SpanFrom). x.span) gone.earlier) span
      (subst (λ (ss : List (List ToldSecond)). AreApart o.from ss (o.from + length (done ++ s ∷ []))) are_now (spanned log o.from (done ++ s ∷ []) after.recorded.followed.order).apart)).1

  abbrev more : List Minute
  more = w.rest ++ (decides o done s at waits speed v d w left_actions left).0

  abbrev parts : List Minute
  parts = decided_of (rule_of o) w.b.span ++ w.ds

  decided-so : decided_of (rule_of o) span ≡ decided_of (rule_of o) w.b.span ++ (w.ds ++ (option_to_list w.lost ++ more))
  decided-so = (decides o done s at waits speed v d w left_actions left).1

  -- the minute of which the keeping was broken off was decided by this second
  lost-now : (m : Minute) → w.lost ≡ Some m → IsBeingKept (rule_of o) span m.minute
  lost-now m is =
      let new_in : Contains (w.ds ++ (option_to_list w.lost ++ more)) m =
      Contains-append_right w.ds (option_to_list w.lost ++ more) m (Contains-append_left (option_to_list w.lost) more m (subst (λ (l : Option Minute). Contains (option_to_list l) m) (sym is) (Contains-push [] m))) in
      let due = (are-new (rule_of o) (start_at o) o.from (first_of o) done p f w.b.span w.lit w.began.waiting s log (goes o done s at waits speed v d w left_actions left) (w.ds ++ (option_to_list w.lost ++ more)) decided-so).due in
      let low = count-from_low (ungiven_of (span_at (rule_of o) p.next w.b.span)) (length (w.ds ++ (option_to_list w.lost ++ more))) m.minute
      (subst (λ (ms : List ℕ). Contains ms m.minute) due (mapped (λ (x : Minute). x.minute) (w.ds ++ (option_to_list w.lost ++ more)) m new_in)) in
      cut-is ∙ ap (λ (n : ℕ). Some n) (sym (deciding-now (rule_of o) p.next w.b.span t m here (span-ends (rule_of o) (start_at o) o.from (first_of o) done p f w.b.span w.lit w.began.waiting gone.earlier gone.were) numbered
      (subst (λ (ms : List Minute). Contains ms m) (sym decided-so) (Contains-append_right (decided_of (rule_of o) w.b.span) (w.ds ++ (option_to_list w.lost ++ more)) m new_in)) low))

  abbrev book : Book
  book = broken_at (lost_minute o w.b done w.new w.lost) (kept_all w.new p.book)

  abbrev travel : Travel
  travel = stranded_at w.lost (all_travelled w.ds w.b.travel)

  was-shut : AreShutLegs (rule_of o) (first_of o) p.log (take p.unfound p.log.breaks) w.began.legs.ended w.b.span p.book w.b.travel
  was-shut = subst (λ (sup : UnitPower). AreLegsOf (rule_of o) (first_of o) p.log (take p.unfound p.log.breaks) w.began.legs.ended sup p.book w.b.travel) w.lit w.began.legs.legs

  same-before : travel.before ≡ w.b.travel.before
  same-before = stranded-before w.lost (all_travelled w.ds w.b.travel) ∙ travelled-earlier w.ds w.b.travel

  book-are : numbers book.sure ≡ minutes_kept (rule_of o) p.log gone.earlier ++ map (λ (m : Minute). m.minute) parts
  book-are =
      ap numbers (sure-kept w.new (lost_minute o w.b done w.new w.lost) p.book)
      ∙ map-append (λ (i : HistoryMinute). i.minute) p.book.sure w.new
      ∙ ap (λ (ms : List ℕ). ms ++ numbers w.new) (book-numbers (rule_of o) (start_at o) o.from (first_of o) done p f w.b.span w.lit w.began.waiting gone.earlier gone.were)
      ∙ ap (λ (ms : List ℕ). (minutes_kept (rule_of o) p.log gone.earlier ++ map (λ (m : Minute). m.minute) (decided_of (rule_of o) w.b.span)) ++ ms) (ap numbers w.decided.seated_ ∙ after-numbers (start_at o) (went p.log done).told p.book.sure w.ds)
      ∙ append_assoc (minutes_kept (rule_of o) p.log gone.earlier) (map (λ (m : Minute). m.minute) (decided_of (rule_of o) w.b.span)) (map (λ (m : Minute). m.minute) w.ds)
      ∙ ap (λ (ms : List ℕ). minutes_kept (rule_of o) p.log gone.earlier ++ ms) (sym (map-append (λ (m : Minute). m.minute) (decided_of (rule_of o) w.b.span) w.ds))

  none-before : p.book.maybe ≡ None
  none-before = book-none (rule_of o) (start_at o) o.from (first_of o) done p f w.b.span w.lit w.began.waiting gone.earlier gone.were

  stores-now : (x : List ℕ) → d.unit.may_leave x → MayStore (rule_of o) (odometer_at o.recording.unit) (first_of o) spans-now (last_kept x) (odometer_at x)
  stores-now =
      image-stores o first w.due book v.marks d.unit w.powerless.carried.unit travel w.travels v.odometer (w.odometer ∙ ap (odometer_after (odometer_at o.recording.unit)) (sym same-before)) spans-now
      (may-store (rule_of o) (odometer_at o.recording.unit) (first_of o) gone.earlier v.odometer span
      (subst (λ (n : ℕ). n ≤ HIGHEST_ODOMETER) (sym w.odometer) (odometer-low (odometer_at o.recording.unit) w.b.travel.before w.travels.begins))
      parts w.lost more (decided-so ∙ sym (append_assoc (decided_of (rule_of o) w.b.span) w.ds (option_to_list w.lost ++ more))) lost-now
      (minutes_kept (rule_of o) p.log gone.earlier) gone.stands.kept gone.stands.newest gone.stands.stored book travel book-are
      (rises o first w.due book v.marks d.unit w.powerless.carried.unit travel)
      (later-of (first_of o) (start_at o) (told_before w.b done) (p.book.sure ++ w.new) w.lost (kept_all w.new p.book) (rises-all o first w.due book v.marks d.unit w.powerless.carried.unit travel))
      (maybe-of (start_at o) (told_before w.b done) (p.book.sure ++ w.new) w.lost (kept_all w.new p.book) (kept-none w.new p.book none-before))
      (stranded-sure w.lost (all_travelled w.ds w.b.travel) ∙ travelled-all (decided_of (rule_of o) w.b.span) w.ds w.b.travel was-shut.sure)
      (stranded-maybe w.lost (all_travelled w.ds w.b.travel) (travelled-none w.ds w.b.travel was-shut.none)))

  pub stored-cut : StoresOff o log v.unfound (spans_cut spans v.odometer log done s) d
  stored-cut =
      let by = goes o done s at waits speed v d w left_actions left in
      let lines = subst (λ (sup : UnitPower). AllByRecursion (IsBreakBefore (cuts_from sup p.next) p.next) p.log.breaks) w.lit f.lines.breaks in
      let low = cuts-low w.b.span p.next in
      let is : s.number ≡ p.next = w.moment.number in
      subst (λ (ss : List SpanFrom). StoresOff o log v.unfound ss d) (sym gone.now)
      (subst (λ (n : ℕ). StoresOff o log n spans-now d) (sym w.unfound)
      (stored-ends o p.log log p.unfound gone.earlier v.odometer span p.next d f.unfound (by.breaks.0, by.breaks.1) gone.stands cut-is
      (subst (λ (n : ℕ). tells_cut n log.breaks ≡ true) is (tells-here v.log.breaks s.number true (begun_by s at)))
      (tells-none (cuts_from (Lit w.b.span) p.next) p.next (take p.unfound p.log.breaks) p.next (breaks-front (cuts_from (Lit w.b.span) p.next) p.next p.unfound p.log.breaks lines) low) stores-now))

-- ---- POWER IS BACK: the unit was read

module _ (o : Origin) (done : List TraceSecond) (supply : UnitPower) (v : Values) (d : Devices) (r : RecordBetweenSeconds o done supply v d) (may : MayPower supply v.next) (k leg : ℕ) (shown : MayShow (first_of o) r.book r.travel k leg)
    (spans : List SpanFrom) (are : map (λ (x : SpanFrom). x.span) spans ≡ spans_of (went v.log done).told) where
  abbrev p-read : Progress
  p-read = found_again k (progress v supply r.book)

  read-followed : BookFollowsRun (rule_of o) (start_at o) o.from (first_of o) done p-read
  read-followed = (found-recorded o done (progress v supply r.book) r.travel v.marks (breakdowns_of d) r.brought r.recorded may k leg shown).followed

  -- an image of the unit has this last-kept minute, which was found
  pub stored-back : (e : Devices) (y : List ℕ) → e.unit.may_leave y → last_kept y ≡ k → StoresOff o v.log v.unfound spans e → StandsOn o (found_log v.unfound k v.log) (length (found_from v.unfound k v.log.breaks)) spans (odometer_at y)
  stored-back e y on is h =
      let told : spans_of (went (found_log v.unfound k v.log) done).told ≡ map (λ (x : SpanFrom). x.span) spans ++ as_spans [] =
      ap (λ (g : Went). spans_of g.told) (went-found v.log v.unfound k o.from done r.recorded.followed.order) ∙ sym are ∙ sym (append-nil (map (λ (x : SpanFrom). x.span) spans)) in
      let same : numbers (found k r.book).sure ≡ minutes_kept (rule_of o) (found_log v.unfound k v.log) spans =
      book-numbers (rule_of o) (start_at o) o.from (first_of o) done p-read read-followed [] refl refl spans told
      ∙ ap (λ (ms : List Minute). minutes_kept (rule_of o) (found_log v.unfound k v.log) spans ++ map (λ (m : Minute). m.minute) ms) (decided-empty (rule_of o)) ∙ append-nil (minutes_kept (rule_of o) (found_log v.unfound k v.log) spans) in
      stored-found o v.log v.unfound k spans e y on is (subst (λ (ms : List ℕ). IsNewest (first_of o) ms k) same (found-newest (first_of o) k r.book shown.mark)) h
