-- THE STEPS of a run with cards, each from what is followed before it to what is followed behind it.
use Rattle.std.proofs.Common.{◌≡◌, ◌⊎◌, inl, inr, ⊎_elim, ℕ, zero, suc, ◌+◌, ◌-◌, ◌%◌, ◌/◌, ◌<◌, ◌≤◌, Bool, true, false, cond, not, ◌&&◌, ◌||◌, nat_lt, Option, Some, None, List, [], ◌∷◌, ◌++◌, length, map, filter, take, nat_eq, is_some, refl, ap, sym, subst, ◌∙◌, arith, append_assoc, append-nil, length-append}
use Rattle.std.specs.Prelude.{option_to_list, if◌then◌else◌}
use Rattle.std.specs.List.{AllByRecursion}
use Rattle.std.proofs.lemmas.Bool.Decides.{nat_tests}
use Rattle.trace_model.specs.declared.Action.{Action}
use Rattle.trace_model.specs.Trace.{TraceSecond, driven, dark}
use Rattle.minute_model.specs.declared.Rule.{Rule}
use Rattle.minute_model.specs.declared.Minute.{Minute}
use Rattle.minute_model.specs.Activity.{last}
use Rattle.minute_model.specs.Span.{begin, fed, AreNumbered}
use Rattle.minute_model.proofs.Ranges.{last-push}
use Rattle.log_model.specs.declared.lines.Break.{Break}
use Rattle.log_model.specs.declared.lines.Refused.{Refused}
use Rattle.log_model.specs.Log.{RunLog, cut_in, kept_after, is_torn_in}
use Rattle.log_model.specs.Course.{ToldSecond, Went, Before, has_power, second_told, before_next, went_on, went}
use Rattle.log_model.specs.Spans.{spans_with, spans_of, seconds_in, first_in, end_in, AreInOrder, AreApart}
use Rattle.log_model.proofs.Growth.{went-more}
use Rattle.log_model.proofs.Spanning.{EndsAt, spanned, spans-more, spans-new, spans-dark, order-parts}
use Rattle.history_model.specs.Minutes.{HistoryMinute}
use Rattle.history_model.specs.Presence.{Start}
use Rattle.history_model.specs.History.{decided_of, minutes_after, span_minutes, cut_second, any_long, unit_history, with_lost}
use Rattle.history_model.specs.Growth.{as_span, settled_where, picking, closed_history}
use Rattle.history_model.specs.Book.{Book, found}
use Rattle.history_model.proofs.Closing.{minutes-parts}
use Rattle.history_model.proofs.Deciding.{apart-ended, short-none, span-more}
use Rattle.history_model.proofs.Growing.{apart-last}
use Rattle.run_unit_course.specs.Turn.{cut_at_end, cut_last, begins_with, span_at}
use Rattle.run_unit_course.specs.Lines.{cut_at, found_from, tells_cut}
use Rattle.run_unit_course.specs.Followed.{UnitPower, Lit, Due, Lost, MayPower, MayFail, IsDark, as_spans, cuts_from}
use Rattle.run_unit_course.proofs.Lines.{tells-here}
use Rattle.run_unit_course.proofs.Alike.{decided-empty}
use Rattle.run_unit_course.proofs.Parts.{order-behind}
use Rattle.run_unit_course.proofs.Spans.{cut_spans, cut-spans-last, decided-cut, length-cut, cut-number, ends-last}
use Rattle.run_course.specs.Moments.{and_break}
use Rattle.run_course.specs.Followed.{Progress, Comes, PowerGoesOn, IsLost, IsSupplied, IsLastOf, HadActions, AreBefore, BookFollowsRun}
use Rattle.run_course.specs.Seconds.{kept_all, broken_at, GoesOnBy, next_told, DecidedBy, ARunBegins, APowerOnFinds, APowerOnFails, ASecondGoesOn, ASecondBreaksOff, RulesSeeTheSecond, AMinuteStaysDark, AnOffLineIsDark, AnOffLineCuts}
use Rattle.run_course.proofs.Lookups.{cut-by, kept-by, break-more}
use Rattle.run_course.proofs.Logs.{same-number, went-later, kept-later, tells-later, front-later, within-later, went-refused, tells-none, breaks-front, tells-cut, lines-more, lines-on, lines-later, lines-found, breaks-push, found_log}
use Rattle.run_course.proofs.Alike.{Stays, stays-same, stays-more, stays-instead, span-before}
use Rattle.run_course.proofs.Core.{Core, IsShort, shifted, shifted-short, waits, keeps-all, ends, lit-due, lost-due, due-lost, rests, rests-minutes, found-told, rest-found}
use Rattle.run_course.proofs.Told.{IsLitAs, lit-told, dark-told, told-lit, comes-power, lit-power, lit-starts, lost-comes, lost-dark, next-going, next-lost, next-dark, IsOff, next-off, off-comes, spans-lit, solid-push, solid-cut, cut-with, second-cut}

-- WHAT IS FOLLOWED, and its core
abbrev pub core-of : (rule : Rule) (start : Start) (from first : ℕ) (done : List TraceSecond) (p : Progress) → BookFollowsRun rule start from first done p → Core rule start from first done p.log p.unfound p.next p.supply p.book p.waiting
core-of rule start from first done p f =
    record { early = f.early; order = f.order; number = f.next; within = f.unfound; ended = f.ended; spans = f.spans; tied = f.tied; follows = f.follows }

pub followed-by : (rule : Rule) (start : Start) (from first : ℕ) (done : List TraceSecond) (log : RunLog) (unfound next begun : ℕ) (s : UnitPower) (b : Book) (w : List HistoryMinute) → Core rule start from first done log unfound next s b w →
    AreBefore (cuts_from s next) next log → IsSupplied s (went log done).before next → IsLastOf s done begun →
    BookFollowsRun rule start from first done (record { log = log; unfound = unfound; next = next; begun = begun; supply = s; book = b; waiting = w })
followed-by rule start from first done log unfound next begun s b w c lines power last_ =
    record { early = c.early; order = c.order; next = c.number; lines = lines; unfound = c.within; power = power; last = last_; ended = c.ended; spans = c.spans; tied = c.tied; follows = c.follows }

pub with-supply : (rule : Rule) (start : Start) (from first : ℕ) (done : List TraceSecond) (p : Progress) (s : UnitPower) → p.supply ≡ s → BookFollowsRun rule start from first done p → BookFollowsRun rule start from first done (record p { supply = s })
with-supply rule start from first done p s is f = subst (λ (s : UnitPower). BookFollowsRun rule start from first done (record p { supply = s })) is f

pub with-waiting : (rule : Rule) (start : Start) (from first : ℕ) (done : List TraceSecond) (p : Progress) (w : List HistoryMinute) → p.waiting ≡ w → BookFollowsRun rule start from first done p → BookFollowsRun rule start from first done (record p { waiting = w })
with-waiting rule start from first done p w is f = subst (λ (w : List HistoryMinute). BookFollowsRun rule start from first done (record p { waiting = w })) is f

pub cuts-bound : (s : UnitPower) (next : ℕ) → cuts_from s next ≤ next
cuts-bound (Lit []) next = omega arith
cuts-bound (Lit (t ∷ span)) next = omega arith
cuts-bound Due next = omega arith
cuts-bound Lost next = omega arith

-- a span with a second more
going-push : (span : List ToldSecond) (t : ToldSecond) (before : Before) (next : ℕ) → PowerGoesOn before → IsSupplied (Lit (span ++ t ∷ [])) before next
going-push [] t before next h = h
going-push (x ∷ span) t before next h = h

last-of_push : (span : List ToldSecond) (t : ToldSecond) (done : List TraceSecond) (begun : ℕ) → HadActions done begun → IsLastOf (Lit (span ++ t ∷ [])) done begun
last-of_push [] t done begun h = h
last-of_push (x ∷ span) t done begun h = h

cuts-push : (span : List ToldSecond) (t : ToldSecond) (next : ℕ) → cuts_from (Lit (span ++ t ∷ [])) (suc next) ≡ next
cuts-push [] t next = omega arith
cuts-push (x ∷ span) t next = omega arith

-- PARTS OF SPANS
abbrev AreEarly : Rule → ℕ → List (List ToldSecond) → Type 0
AreEarly rule n spans = AllByRecursion (λ (span : List ToldSecond). AllByRecursion (λ (d : Minute). d.minute < n) (decided_of rule span)) spans

early-first : (rule : Rule) (n : ℕ) (xs ys : List (List ToldSecond)) → AreEarly rule n (xs ++ ys) → AreEarly rule n xs
early-first rule n [] ys h = tt
early-first rule n (x ∷ xs) ys h = (h.0, early-first rule n xs ys h.1)

early-second : (rule : Rule) (n : ℕ) (xs ys : List (List ToldSecond)) → AreEarly rule n (xs ++ ys) → AreEarly rule n ys
early-second rule n [] ys h = h
early-second rule n (x ∷ xs) ys h = early-second rule n xs ys h.1

pub apart-front : (from until : ℕ) (spans : List (List ToldSecond)) (span : List ToldSecond) → AreApart from (spans ++ span ∷ []) until → AreApart from spans (first_in span)
apart-front from until [] span h = h.1
apart-front from until (x ∷ spans) span h = (h.0, h.1, h.2, apart-front (end_in x) until spans span h.3)

two : (k : ℕ) → nat_lt 1 (suc (suc k)) ≡ true
two k = grind (arith, nat_tests)

-- whether a span has two seconds
long-or_one : (t : ToldSecond) (span : List ToldSecond) → (nat_lt 1 (length (t ∷ span)) ≡ true) ⊎ (span ≡ [])
long-or_one t [] = inr refl
long-or_one t (u ∷ span) = inl (two (length span))

long-push : (x : ToldSecond) (span : List ToldSecond) (t : ToldSecond) → nat_lt 1 (length ((x ∷ span) ++ t ∷ [])) ≡ true
long-push x [] t = refl
long-push x (y ∷ span) t = two (length (span ++ t ∷ []))

-- A SECOND MORE of the trace
module _ (rule : Rule) (start : Start) (from first : ℕ) (done : List TraceSecond) (p : Progress) (order : AreInOrder from done) (next : p.next ≡ from + length done) (within : p.unfound ≤ length p.log.breaks)
    (s : TraceSecond) (later : RunLog) (g : GoesOnBy p later s) where
  abbrev t : ToldSecond
  t = next_told later done s

  abbrev now : List ToldSecond
  now = (went later (done ++ s ∷ [])).told

  pub went-same_ : went later done ≡ went p.log done
  went-same_ =
      went-later p.log later p.next g.breaks.0 g.breaks.1 g.breaks.2 g.finds.0 g.finds.1 g.finds.2 from done order (omega (arith, next))

  pub now-is : went later (done ++ s ∷ []) ≡ record { told = (went p.log done).told ++ t ∷ []; before = before_next (went p.log done).before t }
  now-is = went-more later done s ∙ ap (λ (w : Went). record { told = w.told ++ t ∷ []; before = before_next w.before t }) went-same_

  pub now-told : now ≡ (went p.log done).told ++ t ∷ []
  now-told = ap (λ (w : Went). w.told) now-is

  pub order-now : AreInOrder from (done ++ s ∷ [])
  order-now = let is = g.number in order-behind from done (s ∷ []) order (omega (arith, is, next), tt)

  pub number-now : suc p.next ≡ from + length (done ++ s ∷ [])
  number-now = let n = length-append done (s ∷ []) in omega (arith, n, next)

  pub front-now : take p.unfound later.breaks ≡ take p.unfound p.log.breaks
  front-now = front-later p.log later p.next g.breaks.0 g.breaks.1 g.breaks.2 g.finds.0 g.finds.1 g.finds.2 p.unfound within

  pub within-now : p.unfound ≤ length later.breaks
  within-now = within-later p.log later p.next g.breaks.0 g.breaks.1 g.breaks.2 g.finds.0 g.finds.1 g.finds.2 p.unfound within

  pub kept-now : (u : ℕ) → tells_cut u (take p.unfound p.log.breaks) ≡ true → kept_after p.log u ≡ kept_after later u
  kept-now = kept-later p.log later p.next g.breaks.0 g.breaks.1 g.breaks.2 g.finds.0 g.finds.1 g.finds.2 p.unfound

  pub tells-now : (u : ℕ) → tells_cut u p.log.breaks ≡ true → tells_cut u later.breaks ≡ true
  tells-now = tells-later p.log later p.next g.breaks.0 g.breaks.1 g.breaks.2 g.finds.0 g.finds.1 g.finds.2

  pub cut-lines : (cuts : ℕ) → cuts ≤ p.next → AreBefore cuts p.next p.log → AreBefore (suc p.next) (suc p.next) later
  cut-lines cuts le h = lines-more p.log later cuts p.next le h g.breaks.0 g.breaks.1 g.breaks.2 g.finds.0 g.finds.1 g.finds.2

  pub on-lines : (cuts : ℕ) → cuts ≤ p.next → AreBefore cuts p.next p.log → cut_in later s.number ≡ None → AreBefore p.next (suc p.next) later
  on-lines cuts le h none =
      lines-on p.log later cuts p.next le h g.breaks.0 g.breaks.1 g.breaks.2 g.finds.0 g.finds.1 g.finds.2 (subst (λ (n : ℕ). cut_in later n ≡ None) g.number none)

  -- the seconds so far tell the same of each span so far
  early-now : AreEarly rule ((from + length done) / 60) (spans_of (went p.log done).told)
  early-now = apart-ended rule from (from + length done) (spans_of (went p.log done).told) (spanned p.log from done order).apart

  pub stays-now : (spans : List (List ToldSecond)) → t.second.number ≡ s.number → AreEarly rule ((from + length done) / 60) spans → Stays rule start (went p.log done).told now spans
  stays-now spans is h =
      let number = g.number in
      subst (λ (ts : List ToldSecond). Stays rule start (went p.log done).told ts spans) (sym now-told)
      (stays-more rule start (went p.log done).told t ((from + length done) / 60) spans (omega (arith, is, number, next)) h)

  pub early-spans : (ended : List (List ToldSecond)) (behind : List (List ToldSecond)) → spans_of (went p.log done).told ≡ ended ++ behind → AreEarly rule ((from + length done) / 60) (ended ++ behind)
  early-spans ended behind are = subst (AreEarly rule ((from + length done) / 60)) are early-now

  -- what the last second had
  pub had-now : HadActions (done ++ s ∷ []) (length s.actions)
  had-now = record {
    before = done;
    number = s.number;
    speed = s.speed;
    actions = s.actions;
    are = ap (λ (b : Bool). done ++ record { number = s.number; has_power = b; speed = s.speed; actions = s.actions } ∷ []) g.given;
    count = refl;
  }

  -- WITH POWER, in a span that goes on or begins
  module _ (span : List ToldSecond) (c : Core rule start from first done p.log p.unfound p.next (Lit span) p.book []) (supplied : IsSupplied (Lit span) (went p.log done).before p.next) where
    power : has_power (went later done).before s ≡ true
    power = subst (λ (w : Went). has_power w.before s ≡ true) (sym went-same_) (lit-power span (went p.log done).before s p.next supplied g.number g.given)

    pub lit : IsLitAs later (went later done).before s t
    lit = lit-told later (went later done).before s power

    starts : t.starts ≡ begins_with span
    starts = lit.starts ∙ ap (λ (w : Went). not w.before.running) went-same_ ∙ lit-starts span (went p.log done).before p.next supplied

    pub spans-now : spans_of now ≡ c.ended ++ (span ++ t ∷ []) ∷ []
    spans-now =
        ap spans_of now-told ∙ spans-more (went p.log done).told t ∙ ap (λ (ss : List (List ToldSecond)). spans_with ss t) c.spans ∙ spans-lit c.ended span t lit.lit starts

    early-ended : AreEarly rule ((from + length done) / 60) (c.ended ++ as_spans span)
    early-ended = early-spans c.ended (as_spans span) c.spans

    span-stays : (sp : List ToldSecond) → AreEarly rule ((from + length done) / 60) (as_spans sp) → (past : List HistoryMinute) → span_minutes rule start now past sp ≡ span_minutes rule start (went p.log done).told past sp
    span-stays [] h past = ap (minutes_after start now past) (decided-empty rule) ∙ sym (ap (minutes_after start (went p.log done).told past) (decided-empty rule))
    span-stays (x ∷ xs) h past = sym ((stays-now ((x ∷ xs) ∷ []) lit.number h).0 past)

    nothing-more : (xs ys : List Minute) → xs ++ ys ≡ [] → ys ≡ []
    nothing-more [] ys h = h
    nothing-more (x ∷ xs) ys h = absurd (cc)

    module _ (new : List HistoryMinute) (decides : DecidedBy rule start later done s span p.book new) where
      on : span_minutes rule start now (closed_history rule start p.log (went p.log done).told c.ended) (span ++ t ∷ []) ≡ span_minutes rule start (went p.log done).told (closed_history rule start p.log (went p.log done).told c.ended) span ++ new
      on =
          let closed : List HistoryMinute = closed_history rule start p.log (went p.log done).told c.ended in
          let mine : List HistoryMinute = span_minutes rule start (went p.log done).told closed span in
          ap (minutes_after start now closed) decides.1
          ∙ minutes-parts rule start now closed (decided_of rule span) decides.0
          ∙ ap (λ (is : List HistoryMinute). is ++ minutes_after start now (closed ++ is) decides.0) (span-stays span (early-second rule ((from + length done) / 60) c.ended (as_spans span) early-ended) closed)
          ∙ ap (λ (is : List HistoryMinute). mine ++ minutes_after start now is decides.0) (c.tied.minutes ∙ append-nil p.book.sure)
          ∙ ap (λ (ts : List ToldSecond). mine ++ minutes_after start ts p.book.sure decides.0) (ap (λ (w : Went). w.told) (went-more later done s))
          ∙ ap (λ (is : List HistoryMinute). mine ++ is) (sym decides.2)

      pub which : (nat_lt 1 (length (span ++ t ∷ [])) ≡ true) ⊎ IsShort rule span (span ++ t ∷ []) new
      which = go span refl
        where
          go : (sp : List ToldSecond) → span ≡ sp → (nat_lt 1 (length (span ++ t ∷ [])) ≡ true) ⊎ IsShort rule span (span ++ t ∷ []) new
          go (x ∷ xs) e = inl (ap (λ (sp : List ToldSecond). nat_lt 1 (length (sp ++ t ∷ []))) e ∙ long-push x xs t)
          go [] e =
              let one : decided_of rule (span ++ t ∷ []) ≡ [] = ap (λ (sp : List ToldSecond). decided_of rule (sp ++ t ∷ [])) e ∙ short-none rule t in
              let none : decides.0 ≡ [] = nothing-more (decided_of rule span) decides.0 (sym decides.1 ∙ one) in
              inr (record {
                before = subst (λ (sp : List ToldSecond). AllByRecursion (λ (span : List ToldSecond). decided_of rule span ≡ []) (as_spans sp)) (sym e) tt;
                was = ap (λ (sp : List ToldSecond). any_long (as_spans sp)) e;
                after = one;
                is = ap (λ (sp : List ToldSecond). any_long ((sp ++ t ∷ []) ∷ [])) e;
                none = decides.2 ∙ ap (minutes_after start ((went later done).told ++ t ∷ []) p.book.sure) none;
              })

      -- where it is the first of its span the history is as it was
      pub fed-short : IsShort rule span (span ++ t ∷ []) new → unit_history rule start later now ≡ unit_history rule start p.log (went p.log done).told
      fed-short short = (shifted-short rule start from first done p.log p.unfound p.next span p.book c (done ++ s ∷ []) later (suc p.next) (span ++ t ∷ []) new order-now number-now front-now within-now kept-now spans-now (solid-push span t)
          (stays-now c.ended lit.number (early-first rule ((from + length done) / 60) c.ended (as_spans span) early-ended)) on which short).0

      -- its minutes wait for their keeping
      pub feeds : Core rule start from first (done ++ s ∷ []) later p.unfound (suc p.next) (Lit (span ++ t ∷ [])) p.book new
      feeds = shifted rule start from first done p.log p.unfound p.next span p.book c (done ++ s ∷ []) later (suc p.next) (span ++ t ∷ []) new order-now number-now front-now within-now kept-now spans-now (solid-push span t)
          (stays-now c.ended lit.number (early-first rule ((from + length done) / 60) c.ended (as_spans span) early-ended)) on which

-- a second with power
pub lit-parts : (rule : Rule) (start : Start) (from first : ℕ) (done : List TraceSecond) (p : Progress) → BookFollowsRun rule start from first done p → (span : List ToldSecond) → p.supply ≡ Lit span → p.waiting ≡ [] →
    BookFollowsRun rule start from first done (record p { supply = Lit span; waiting = [] })
lit-parts rule start from first done p g span is none = with-waiting rule start from first done (record p { supply = Lit span }) [] none (with-supply rule start from first done p (Lit span) is g)

pub goes_on : ASecondGoesOn
goes_on rule start from first done p g span is none s later by uncut new decides =
    let f = lit-parts rule start from first done p g span is none in
    let q : Progress = record p { supply = Lit span; waiting = [] } in
    let c = core-of rule start from first done q f in
    let lit_ = lit rule start from first done p f.order f.next f.unfound s later by span c f.power in
    let t : ToldSecond = next_told later done s in
    let fed_ = feeds rule start from first done p f.order f.next f.unfound s later by span c f.power new decides in
    let kept = keeps-all rule start from first (done ++ s ∷ []) later p.unfound (suc p.next) (span ++ t ∷ []) (solid-push span t) p.book new []
    (subst (λ (w : List HistoryMinute). Core rule start from first (done ++ s ∷ []) later p.unfound (suc p.next) (Lit (span ++ t ∷ [])) p.book w) (sym (append-nil new)) fed_) in
    followed-by rule start from first (done ++ s ∷ []) later p.unfound (suc p.next) (length s.actions) (Lit (span ++ t ∷ [])) (kept_all new p.book) [] kept
    (subst (λ (n : ℕ). AreBefore n (suc p.next) later) (sym (cuts-push span t p.next))
    (on-lines rule start from first done p f.order f.next f.unfound s later by (cuts_from (Lit span) p.next) (cuts-bound (Lit span) p.next) f.lines uncut))
    (subst (λ (w : Went). IsSupplied (Lit (span ++ t ∷ [])) w.before (suc p.next)) (sym (now-is rule start from first done p f.order f.next f.unfound s later by))
    (going-push span t (before_next (went p.log done).before t) (suc p.next)
    (next-going (went p.log done).before t lit_.lit (lit_.cut ∙ ap (λ (o : Option ℕ). is_some o) uncut) (lit_.given ∙ by.given))))
    (last-of_push span t (done ++ s ∷ []) (length s.actions) (had-now rule start from first done p f.order f.next f.unfound s later by))

-- the second of a cut
cut-second : (span : List ToldSecond) (t : ToldSecond) (n : ℕ) → t.cut ≡ true → t.second.number ≡ n → cut_second (last (span ++ t ∷ [])) ≡ Some n
cut-second span t n cut is =
    ap cut_second (last-push span t) ∙ ap (λ (b : Bool). if b then Some t.second.number else None) cut ∙ ap (λ (k : ℕ). Some k) is

-- where it is, and that nothing is known of it
pub break-facts : (rule : Rule) (start : Start) (from first : ℕ) (done : List TraceSecond) (p : Progress) (s : TraceSecond) (later : RunLog) (by : GoesOnBy p later s) (span : List ToldSecond) →
    BookFollowsRun rule start from first done (record p { supply = Lit span; waiting = [] }) → (begun : ℕ) → cut_in later s.number ≡ Some begun →
    (cut_second (last (span ++ next_told later done s ∷ [])) ≡ Some s.number) × (tells_cut s.number later.breaks ≡ true) × (tells_cut s.number (take p.unfound later.breaks) ≡ false)
break-facts rule start from first done p s later by span f begun cut =
    let c = core-of rule start from first done (record p { supply = Lit span; waiting = [] }) f in
    let lit_ = lit rule start from first done p f.order f.next f.unfound s later by span c f.power in
    let lines = f.lines in
    let number = by.number in (
      cut-second span (next_told later done s) s.number (lit_.cut ∙ ap (λ (o : Option ℕ). is_some o) cut) lit_.number,
      tells-cut later.breaks s.number begun (sym (cut-by later s.number) ∙ cut),
      ap (tells_cut s.number) (front-now rule start from first done p f.order f.next f.unfound s later by)
          ∙ tells-none (cuts_from (Lit span) p.next) p.next (take p.unfound p.log.breaks) s.number (breaks-front (cuts_from (Lit span) p.next) p.next p.unfound p.log.breaks lines.breaks)
          (let le = cuts-bound (Lit span) p.next in omega (arith, le, number)),
    )

pub breaks_off : ASecondBreaksOff
breaks_off rule start from first done p g span is none s later by begun cut new front rest i decides are =
    let f = lit-parts rule start from first done p g span is none in
    let q : Progress = record p { supply = Lit span; waiting = [] } in
    let c = core-of rule start from first done q f in
    let lit_ = lit rule start from first done p f.order f.next f.unfound s later by span c f.power in
    let t : ToldSecond = next_told later done s in
    let is_cut : t.cut ≡ true = lit_.cut ∙ ap (λ (o : Option ℕ). is_some o) cut in
    let fed_ = feeds rule start from first done p f.order f.next f.unfound s later by span c f.power new decides in
    let kept = keeps-all rule start from first (done ++ s ∷ []) later p.unfound (suc p.next) (span ++ t ∷ []) (solid-push span t) p.book front (option_to_list i ++ rest)
    (subst (λ (w : List HistoryMinute). Core rule start from first (done ++ s ∷ []) later p.unfound (suc p.next) (Lit (span ++ t ∷ [])) p.book w) are fed_) in
    let short = ⊎_elim (λ long. inl long) (λ (short : IsShort rule span (span ++ t ∷ []) new). inr short.after) (which rule start from first done p f.order f.next f.unfound s later by span c f.power new decides) in
    let lines = f.lines in
    let number = by.number in
    let ended = ends rule start from first (done ++ s ∷ []) later p.unfound (suc p.next) (span ++ t ∷ []) (solid-push span t) s.number (cut-second span t s.number is_cut lit_.number)
    (tells-cut later.breaks s.number begun (sym (cut-by later s.number) ∙ cut))
    (ap (tells_cut s.number) (front-now rule start from first done p f.order f.next f.unfound s later by)
    ∙ tells-none (cuts_from (Lit span) p.next) p.next (take p.unfound p.log.breaks) s.number (breaks-front (cuts_from (Lit span) p.next) p.next p.unfound p.log.breaks lines.breaks)
    (let le = cuts-bound (Lit span) p.next in omega (arith, le, number)))
    (kept_all front p.book) i rest kept short in
    followed-by rule start from first (done ++ s ∷ []) later p.unfound (suc p.next) (length s.actions) Lost (broken_at i (kept_all front p.book)) []
    (due-lost rule start from first (done ++ s ∷ []) later p.unfound (suc p.next) (broken_at i (kept_all front p.book)) [] ended)
    (cut-lines rule start from first done p f.order f.next f.unfound s later by (cuts_from (Lit span) p.next) (cuts-bound (Lit span) p.next) f.lines)
    (subst (λ (w : Went). IsLost w.before) (sym (now-is rule start from first done p f.order f.next f.unfound s later by)) (next-lost (went p.log done).before t is_cut (lit_.given ∙ by.given)))
    tt

-- FOR THE RULES OF MINUTES
-- the span that goes on ends with the number of the next second
pub span-end : (log : RunLog) (from : ℕ) (done : List TraceSecond) (ended : List (List ToldSecond)) (t : ToldSecond) (span : List ToldSecond) (next : ℕ) → AreInOrder from done → next ≡ from + length done →
    (went log done).before.running ≡ true → spans_of (went log done).told ≡ ended ++ (t ∷ span) ∷ [] → end_in (t ∷ span) ≡ next
span-end log from done ended t span next order number going are =
    let whole = spanned log from done order in
    ends-last ended (t ∷ span) next (subst (λ (ss : List (List ToldSecond)). EndsAt ss next) are
    (subst (λ (u : ℕ). EndsAt (spans_of (went log done).told) u) (sym number) (whole.running going)))

begun-seen : (rule : Rule) (t : ToldSecond) (next : ℕ) → t.second.number ≡ next → as_span rule (t ∷ []) ≡ fed (picking t.second.picks (settled_where t.course.settled (begin rule next))) t.second.speed
begun-seen rule t next is =
    let plus : next ≡ next + 0 = omega arith in
    ap (λ (n : ℕ). record { rule = rule; first = n; seconds = t.second ∷ []; pending = []; settlings = map (λ (t : ToldSecond). t.second.number) (filter (λ (t : ToldSecond). t.course.settled) (t ∷ [])) }) is
    ∙ ap (λ (n : ℕ). record { rule = rule; first = next; seconds = record { number = n; speed = t.second.speed; picks = t.second.picks } ∷ []; pending = []; settlings = map (λ (t : ToldSecond). t.second.number) (filter (λ (t : ToldSecond). t.course.settled) (t ∷ [])) }) (is ∙ plus)
    ∙ by t.course.settled
  where
    by : (b : Bool) →
        record { rule = rule; first = next; seconds = record { number = next + 0; speed = t.second.speed; picks = t.second.picks } ∷ []; pending = []; settlings = map (λ (t : ToldSecond). t.second.number) (cond b (t ∷ []) []) }
        ≡ fed (picking t.second.picks (settled_where b (begin rule next))) t.second.speed
    by true =
        let plus : next ≡ next + 0 = omega arith in
        ap (λ (n : ℕ). record { rule = rule; first = next; seconds = record { number = next + 0; speed = t.second.speed; picks = t.second.picks } ∷ []; pending = []; settlings = n ∷ [] }) (is ∙ plus)
    by false = refl

pub rules_see : RulesSeeTheSecond
rules_see rule start from first done p g span is s later by =
    go span (with-supply rule start from first done p (Lit span) is g)
  where
    go : (span : List ToldSecond) → BookFollowsRun rule start from first done (record p { supply = Lit span }) →
        span_at rule (suc p.next) (span ++ next_told later done s ∷ []) ≡ fed (picking (next_told later done s).second.picks (settled_where (next_told later done s).course.settled (span_at rule p.next span))) (next_told later done s).second.speed
    go [] f =
        let same = went-same_ rule start from first done p f.order f.next f.unfound s later by in
        let power = subst (λ (w : Went). has_power w.before s ≡ true) (sym same) (lit-power [] (went p.log done).before s p.next f.power by.number by.given) in
        begun-seen rule (next_told later done s) p.next ((lit-told later (went later done).before s power).number ∙ by.number)
    go (x ∷ xs) f =
        let same = went-same_ rule start from first done p f.order f.next f.unfound s later by in
        let power = subst (λ (w : Went). has_power w.before s ≡ true) (sym same) (lit-power (x ∷ xs) (went p.log done).before s p.next f.power by.number by.given) in
        let end = span-end p.log from done f.ended x xs p.next f.order f.next f.power.running f.spans in
        span-more rule (x ∷ xs) (next_told later done s) (omega arith) ((lit-told later (went later done).before s power).number ∙ by.number ∙ sym end)

-- POWER IS BACK
pub due-core : (rule : Rule) (start : Start) (from first : ℕ) (done : List TraceSecond) (p : Progress) → BookFollowsRun rule start from first done (record p { supply = Due }) → Core rule start from first done p.log p.unfound p.next Due p.book p.waiting
due-core rule start from first done p f = core-of rule start from first done (record p { supply = Due }) f

pub lost-core : (rule : Rule) (start : Start) (from first : ℕ) (done : List TraceSecond) (p : Progress) → BookFollowsRun rule start from first done (record p { supply = Lost }) → Core rule start from first done p.log p.unfound p.next Due p.book p.waiting
lost-core rule start from first done p f = lost-due rule start from first done p.log p.unfound p.next p.book p.waiting (core-of rule start from first done (record p { supply = Lost }) f)

pub power_finds : APowerOnFinds
power_finds rule start from first done p g may k mark low = by p.supply may g
  where
    at : Core rule start from first done p.log p.unfound p.next Due p.book p.waiting → AreBefore p.next p.next p.log → Comes (went p.log done).before p.next →
        BookFollowsRun rule start from first done (record p { log = record p.log { breaks = found_from p.unfound k p.log.breaks }; unfound = length (found_from p.unfound k p.log.breaks); supply = Lit []; book = found k p.book; waiting = [] })
    at c lines comes =
        followed-by rule start from first done (found_log p.unfound k p.log) (length (found_from p.unfound k p.log.breaks)) p.next p.begun (Lit []) (found k p.book) []
        (rest-found rule start from first done p.log p.unfound p.next p.book p.waiting c k mark low)
        (lines-found p.next p.next p.unfound k p.log lines)
        (subst (λ (w : Went). Comes w.before p.next) (sym (found-told rule start from first done p.log p.unfound p.next p.book p.waiting c k mark low)) comes)
        tt

    by : (s : UnitPower) → MayPower s p.next → BookFollowsRun rule start from first done (record p { supply = s }) →
        BookFollowsRun rule start from first done (record p { log = record p.log { breaks = found_from p.unfound k p.log.breaks }; unfound = length (found_from p.unfound k p.log.breaks); supply = Lit []; book = found k p.book; waiting = [] })
    by (Lit span) may f = absurd may
    by Due may f = at (due-core rule start from first done p f) f.lines (f.power p.next)
    by Lost may f = at (lost-core rule start from first done p f) f.lines (lost-comes (went p.log done).before p.next f.power may)

-- A POWER-ON FAILS
-- what the second with which power came adds
pub comes-adds : (rule : Rule) (start : Start) (from first : ℕ) (done : List TraceSecond) (p : Progress) (order : AreInOrder from done) (next : p.next ≡ from + length done) (within : p.unfound ≤ length p.log.breaks) (s : TraceSecond) (later : RunLog) (by : GoesOnBy p later s)
    (c : Core rule start from first done p.log p.unfound p.next Due p.book []) → Comes (went p.log done).before p.next →
    (spans_of (went later (done ++ s ∷ [])).told ≡ spans_of (went p.log done).told ++ (next_told later done s ∷ []) ∷ [])
    × (unit_history rule start later (went later (done ++ s ∷ [])).told ≡ unit_history rule start p.log (went p.log done).told)
comes-adds rule start from first done p order next within s later by c comes =
    let t : ToldSecond = next_told later done s in
    let same = went-same_ rule start from first done p order next within s later by in
    let power = subst (λ (w : Went). has_power w.before s ≡ true) (sym same) (comes-power (went p.log done).before s p.next comes by.number by.given) in
    let lit_ = lit-told later (went later done).before s power in
    let starts : t.starts ≡ true = lit_.starts ∙ ap (λ (w : Went). not w.before.running) same ∙ ap not comes.running in
    let spans = ap spans_of (now-told rule start from first done p order next within s later by) ∙ spans-more (went p.log done).told t ∙ spans-new (spans_of (went p.log done).told) t lit_.lit starts in
    let early = early-first rule ((from + length done) / 60) c.ended [] (early-spans rule start from first done p order next within s later by c.ended [] c.spans) in (
      spans,
      rests-minutes rule start from first done p.log p.unfound p.next p.book [] c (done ++ s ∷ []) later ((t ∷ []) ∷ []) (kept-now rule start from first done p order next within s later by)
          (spans ∙ ap (λ (ss : List (List ToldSecond)). ss ++ (t ∷ []) ∷ []) (c.spans ∙ append-nil c.ended))
          (stays-now rule start from first done p order next within s later by c.ended lit_.number early) (short-none rule t, tt) refl,
    )

pub power_fails : APowerOnFails
power_fails rule start from first done p g may none s later by begun cut = at_supply p.supply may (with-waiting rule start from first done p [] none g)
  where
    at : AreInOrder from done → p.next ≡ from + length done → p.unfound ≤ length p.log.breaks → (c : Core rule start from first done p.log p.unfound p.next Due p.book []) → AreBefore p.next p.next p.log → Comes (went p.log done).before p.next →
        BookFollowsRun rule start from first (done ++ s ∷ []) (record { log = later; unfound = p.unfound; next = suc p.next; begun = length s.actions; supply = Lost; book = p.book; waiting = [] })
    at order next within c lines comes =
        let t : ToldSecond = next_told later done s in
        let same = went-same_ rule start from first done p order next within s later by in
        let power = subst (λ (w : Went). has_power w.before s ≡ true) (sym same) (comes-power (went p.log done).before s p.next comes by.number by.given) in
        let lit_ = lit-told later (went later done).before s power in
        let starts : t.starts ≡ true = lit_.starts ∙ ap (λ (w : Went). not w.before.running) same ∙ ap not comes.running in
        let is_cut : t.cut ≡ true = lit_.cut ∙ ap (λ (o : Option ℕ). is_some o) cut in
        let spans = ap spans_of (now-told rule start from first done p order next within s later by) ∙ spans-more (went p.log done).told t ∙ spans-new (spans_of (went p.log done).told) t lit_.lit starts
        ∙ ap (λ (ss : List (List ToldSecond)). ss ++ (t ∷ []) ∷ []) (c.spans ∙ append-nil c.ended) in
        let early = early-first rule ((from + length done) / 60) c.ended [] (early-spans rule start from first done p order next within s later by c.ended [] c.spans) in
        followed-by rule start from first (done ++ s ∷ []) later p.unfound (suc p.next) (length s.actions) Lost p.book []
        (due-lost rule start from first (done ++ s ∷ []) later p.unfound (suc p.next) p.book []
        (rests rule start from first done p.log p.unfound p.next p.book [] c (done ++ s ∷ []) later (suc p.next) ((t ∷ []) ∷ [])
        (order-now rule start from first done p order next within s later by) (number-now rule start from first done p order next within s later by)
        (front-now rule start from first done p order next within s later by) (within-now rule start from first done p order next within s later by)
        (tells-now rule start from first done p order next within s later by) (kept-now rule start from first done p order next within s later by) spans
        (stays-now rule start from first done p order next within s later by c.ended lit_.number early) (short-none rule t, tt) refl))
        (cut-lines rule start from first done p order next within s later by p.next (omega arith) lines)
        (subst (λ (w : Went). IsLost w.before) (sym (now-is rule start from first done p order next within s later by)) (next-lost (went p.log done).before t is_cut (lit_.given ∙ by.given)))
        tt

    at_supply : (sp : UnitPower) → MayFail sp p.next → BookFollowsRun rule start from first done (record p { supply = sp; waiting = [] }) →
        BookFollowsRun rule start from first (done ++ s ∷ []) (record { log = later; unfound = p.unfound; next = suc p.next; begun = length s.actions; supply = Lost; book = p.book; waiting = [] })
    at_supply (Lit []) may f =
        at f.order f.next f.unfound (lit-due rule start from first done p.log p.unfound p.next p.book (core-of rule start from first done (record p { supply = Lit []; waiting = [] }) f)) f.lines f.power
    at_supply (Lit (x ∷ xs)) may f = absurd may
    at_supply Due may f = at f.order f.next f.unfound (due-core rule start from first done (record p { waiting = [] }) f) f.lines (f.power p.next)
    at_supply Lost may f = at f.order f.next f.unfound (lost-core rule start from first done (record p { waiting = [] }) f) f.lines (lost-comes (went p.log done).before p.next f.power may)

-- SECONDS WITHOUT POWER
module _ (rule : Rule) (start : Start) (from first : ℕ) (log : RunLog) (unfound : ℕ) (b : Book) (w : List HistoryMinute) where
  -- one of them
  pub dark-second : (done : List TraceSecond) (next : ℕ) (c : Core rule start from first done log unfound next Due b w) (s : TraceSecond) → s.number ≡ next → has_power (went log done).before s ≡ false →
      Core rule start from first (done ++ s ∷ []) log unfound (next + 1) Due b w
  dark-second done next c s is none =
      let t : ToldSecond = second_told log (went log done).before s in
      let dark_ = dark-told log (went log done).before s none in
      let told = ap (λ (w : Went). w.told) (went-more log done s) in
      let number = c.number in
      let count = length-append done (s ∷ []) in
      let spans = ap spans_of told ∙ spans-more (went log done).told t ∙ spans-dark (spans_of (went log done).told) t dark_.lit ∙ c.spans in
      let here = dark_.number in
      let early = early-first rule ((from + length done) / 60) c.ended [] (subst (AreEarly rule ((from + length done) / 60)) c.spans (apart-ended rule from (from + length done) (spans_of (went log done).told) (spanned log from done c.order).apart)) in
      rests rule start from first done log unfound next b w c (done ++ s ∷ []) log (next + 1) []
      (order-behind from done (s ∷ []) c.order (omega (arith, is, number), tt)) (omega (arith, count, number)) refl c.within (λ u tells. tells) (λ u tells. refl) spans
      (subst (λ (ts : List ToldSecond). Stays rule start (went log done).told ts c.ended) (sym told) (stays-more rule start (went log done).told t ((from + length done) / 60) c.ended (omega (arith, here, is, number)) early))
      tt refl

  -- what comes behind it
  behind : (done : List TraceSecond) (s : TraceSecond) → (went log (done ++ s ∷ [])).before ≡ before_next (went log done).before (second_told log (went log done).before s)
  behind done s = ap (λ (w : Went). w.before) (went-more log done s)

  -- those up to a minute's end
  pub dark-minute : (n : ℕ) (done : List TraceSecond) (next speed : ℕ) (actions : List Action) → Core rule start from first done log unfound next Due b w → IsLost (went log done).before → 0 < next % 60 → next % 60 + n ≤ 60 →
      Core rule start from first (done ++ driven n next speed actions) log unfound (next + n) Due b w × IsLost (went log (done ++ driven n next speed actions)).before
  dark-minute zero done next speed actions c lost some within =
      subst (λ (ss : List TraceSecond). Core rule start from first ss log unfound (next + 0) Due b w × IsLost (went log ss).before) (sym (append-nil done))
      (subst (λ (n : ℕ). Core rule start from first done log unfound n Due b w × IsLost (went log done).before) (omega arith) (c, lost))
  dark-minute (suc zero) done next speed actions c lost some within =
      let s : TraceSecond = record { number = next; has_power = true; speed = speed; actions = actions } in
      let none = lost-dark (went log done).before s lost some in
      let dark_ = dark-told log (went log done).before s none in (
        dark-second done next c s refl none,
        subst (λ (b : Before). IsLost b) (sym (behind done s)) (next-dark (went log done).before (second_told log (went log done).before s) lost dark_.lit dark_.cut dark_.given),
      )
  dark-minute (suc (suc n)) done next speed actions c lost some within =
      let s : TraceSecond = record { number = next; has_power = true; speed = speed; actions = actions } in
      let none = lost-dark (went log done).before s lost some in
      let dark_ = dark-told log (went log done).before s none in
      let step : (next + 1) % 60 ≡ next % 60 + 1 = omega (arith, within) in
      let rest = dark-minute (suc n) (done ++ s ∷ []) (next + 1) speed [] (dark-second done next c s refl none)
      (subst (λ (b : Before). IsLost b) (sym (behind done s)) (next-dark (went log done).before (second_told log (went log done).before s) lost dark_.lit dark_.cut dark_.given))
      (omega (arith, step)) (omega (arith, step, within)) in
      subst (λ (ss : List TraceSecond). Core rule start from first ss log unfound (next + suc (suc n)) Due b w × IsLost (went log ss).before) (append_assoc done (s ∷ []) (driven (suc n) (next + 1) speed []))
      (subst (λ (m : ℕ). Core rule start from first ((done ++ s ∷ []) ++ driven (suc n) (next + 1) speed []) log unfound m Due b w × IsLost (went log ((done ++ s ∷ []) ++ driven (suc n) (next + 1) speed [])).before) (omega arith) rest)

  -- those of an `off` line
  abbrev off_second : ℕ → TraceSecond
  off_second next = record { number = next; has_power = false; speed = 0; actions = [] }

  off-one : (done : List TraceSecond) (next : ℕ) → Core rule start from first done log unfound next Due b w →
      Core rule start from first (done ++ off_second next ∷ []) log unfound (next + 1) Due b w × IsOff (went log (done ++ off_second next ∷ [])).before
  off-one done next c =
      let dark_ = dark-told log (went log done).before (off_second next) refl in (
        dark-second done next c (off_second next) refl refl,
        subst (λ (b : Before). IsOff b) (sym (behind done (off_second next))) (next-off (went log done).before (second_told log (went log done).before (off_second next)) dark_.lit dark_.given),
      )

  pub off-seconds : (n : ℕ) (done : List TraceSecond) (next : ℕ) → Core rule start from first done log unfound next Due b w →
      Core rule start from first (done ++ dark (suc n) next) log unfound (next + suc n) Due b w × IsOff (went log (done ++ dark (suc n) next)).before
  off-seconds zero done next c = off-one done next c
  off-seconds (suc n) done next c =
      let rest = off-seconds n (done ++ off_second next ∷ []) (next + 1) (off-one done next c).0 in
      subst (λ (ss : List TraceSecond). Core rule start from first ss log unfound (next + suc (suc n)) Due b w × IsOff (went log ss).before) (append_assoc done (off_second next ∷ []) (dark (suc n) (next + 1)))
      (subst (λ (m : ℕ). Core rule start from first ((done ++ off_second next ∷ []) ++ dark (suc n) (next + 1)) log unfound m Due b w × IsOff (went log ((done ++ off_second next ∷ []) ++ dark (suc n) (next + 1))).before) (omega arith) rest)

-- THE SPANS over seconds without power
dark-span : (log : RunLog) (done : List TraceSecond) (s : TraceSecond) → has_power (went log done).before s ≡ false → spans_of (went log (done ++ s ∷ [])).told ≡ spans_of (went log done).told
dark-span log done s none =
    ap (λ (w : Went). spans_of w.told) (went-more log done s) ∙ spans-more (went log done).told (second_told log (went log done).before s)
    ∙ spans-dark (spans_of (went log done).told) (second_told log (went log done).before s) (dark-told log (went log done).before s none).lit

pub dark-spans : (log : RunLog) (n : ℕ) (done : List TraceSecond) (next speed : ℕ) (actions : List Action) → IsLost (went log done).before → 0 < next % 60 → next % 60 + n ≤ 60 →
    spans_of (went log (done ++ driven n next speed actions)).told ≡ spans_of (went log done).told
dark-spans log zero done next speed actions lost some within = ap (λ (ss : List TraceSecond). spans_of (went log ss).told) (append-nil done)
dark-spans log (suc zero) done next speed actions lost some within =
    let s : TraceSecond = record { number = next; has_power = true; speed = speed; actions = actions } in
    dark-span log done s (lost-dark (went log done).before s lost some)
dark-spans log (suc (suc n)) done next speed actions lost some within =
    let s : TraceSecond = record { number = next; has_power = true; speed = speed; actions = actions } in
    let none = lost-dark (went log done).before s lost some in
    let dark_ = dark-told log (went log done).before s none in
    let step : (next + 1) % 60 ≡ next % 60 + 1 = omega (arith, within) in
    ap (λ (ss : List TraceSecond). spans_of (went log ss).told) (sym (append_assoc done (s ∷ []) (driven (suc n) (next + 1) speed [])))
    ∙ dark-spans log (suc n) (done ++ s ∷ []) (next + 1) speed []
    (subst (λ (w : Went). IsLost w.before) (sym (went-more log done s)) (next-dark (went log done).before (second_told log (went log done).before s) lost dark_.lit dark_.cut dark_.given))
    (omega (arith, step)) (omega (arith, step, within))
    ∙ dark-span log done s none

pub off-spans : (log : RunLog) (n : ℕ) (done : List TraceSecond) (next : ℕ) → spans_of (went log (done ++ dark n next)).told ≡ spans_of (went log done).told
off-spans log zero done next = ap (λ (ss : List TraceSecond). spans_of (went log ss).told) (append-nil done)
off-spans log (suc n) done next =
    let s : TraceSecond = record { number = next; has_power = false; speed = 0; actions = [] } in
    ap (λ (ss : List TraceSecond). spans_of (went log ss).told) (sym (append_assoc done (s ∷ []) (dark n (next + 1))))
    ∙ off-spans log n (done ++ s ∷ []) (next + 1)
    ∙ dark-span log done s refl

-- refusals alone
refused-core : (rule : Rule) (start : Start) (from first : ℕ) (done : List TraceSecond) (log : RunLog) (unfound next : ℕ) (b : Book) (w : List HistoryMinute) (refused : List Refused) →
    Core rule start from first done log unfound next Due b w → Core rule start from first done (record log { refused = refused }) unfound next Due b w
refused-core rule start from first done log unfound next b w refused c =
    let later : RunLog = record log { refused = refused } in
    let same = ap (λ (w : Went). w.told) (went-refused log later refl refl done) in
    rests rule start from first done log unfound next b w c done later next [] c.order c.number refl c.within (λ u tells. tells) (λ u tells. kept-by log u ∙ sym (kept-by later u))
    (ap spans_of same ∙ c.spans) (subst (λ (ts : List ToldSecond). Stays rule start (went log done).told ts c.ended) (sym same) (stays-same rule start (went log done).told c.ended)) tt refl

pub stays_dark : AMinuteStaysDark
stays_dark rule start from first done p g is n speed actions refused begun some within =
    let f = with-supply rule start from first done p Lost is g in
    let later : RunLog = record p.log { refused = refused } in
    let c = refused-core rule start from first done p.log p.unfound p.next p.book p.waiting refused (lost-core rule start from first done p f) in
    let lost = subst (λ (w : Went). IsLost w.before) (sym (went-refused p.log later refl refl done)) f.power in
    let on = dark-minute rule start from first later p.unfound p.book p.waiting n done p.next speed actions c lost some within in
    let lines = lines-later p.next p.next (p.next + n) (p.next + n) p.log (omega arith) (omega arith) f.lines in
    subst (λ (sp : UnitPower). BookFollowsRun rule start from first (done ++ driven n p.next speed actions) (record p { log = later; next = p.next + n; begun = begun; supply = sp })) (sym is)
    (followed-by rule start from first (done ++ driven n p.next speed actions) later p.unfound (p.next + n) begun Lost p.book p.waiting
    (due-lost rule start from first (done ++ driven n p.next speed actions) later p.unfound (p.next + n) p.book p.waiting on.0)
    (record { breaks = lines.breaks; finds = lines.finds }) on.1 tt)

off-from : (rule : Rule) (start : Start) (from first : ℕ) (done : List TraceSecond) (log : RunLog) (unfound next : ℕ) (b : Book) (w : List HistoryMinute) (n : ℕ) → Core rule start from first done log unfound next Due b w → AreBefore next next log →
    BookFollowsRun rule start from first (done ++ dark (suc n) next) (record { log = log; unfound = unfound; next = next + suc n; begun = 0; supply = Due; book = b; waiting = w })
off-from rule start from first done log unfound next b w n c lines =
    let on = off-seconds rule start from first log unfound b w n done next c in
    followed-by rule start from first (done ++ dark (suc n) next) log unfound (next + suc n) 0 Due b w on.0
    (lines-later next next (next + suc n) (next + suc n) log (omega arith) (omega arith) lines) (λ m. off-comes (went log (done ++ dark (suc n) next)).before on.1 m) tt

pub off_dark : AnOffLineIsDark
off_dark rule start from first done p g is n = by p.supply is g
  where
    by : (s : UnitPower) → IsDark s → BookFollowsRun rule start from first done (record p { supply = s }) → BookFollowsRun rule start from first (done ++ dark (suc n) p.next) (record p { next = p.next + suc n; begun = 0; supply = Due })
    by (Lit span) is f = absurd is
    by Due is f = off-from rule start from first done p.log p.unfound p.next p.book p.waiting n (due-core rule start from first done p f) f.lines
    by Lost is f = off-from rule start from first done p.log p.unfound p.next p.book p.waiting n (lost-core rule start from first done p f) f.lines

-- THE LAST SECOND TURNS OUT TO BE A CUT'S
and-both : (a b : Bool) → (a && not b) ≡ true → (a ≡ true) × (b ≡ false)
and-both true true is = absurd (cc)
and-both true false is = (refl, refl)
and-both false b is = absurd (cc)

none-is : (o : Option ℕ) → is_some o ≡ false → o ≡ None
none-is None is = refl
none-is (Some n) is = absurd (cc)

or-nothing : (b : Bool) → (b || false) ≡ b
or-nothing true = refl
or-nothing false = refl

module _ (rule : Rule) (start : Start) (from first : ℕ) (done : List TraceSecond) (p : Progress) (t : ToldSecond) (span : List ToldSecond) (f : BookFollowsRun rule start from first done (record p { supply = Lit (t ∷ span); waiting = [] })) where
  abbrev cut : Break
  cut = cut_at (p.next - 1) false p.begun

  abbrev cut_log : RunLog
  cut_log = and_break p.log cut

  abbrev h : HadActions done p.begun
  h = f.last

  abbrev s : TraceSecond
  s = record { number = h.number; has_power = true; speed = h.speed; actions = h.actions }

  order-front : AreInOrder from h.before × (s.number ≡ from + length h.before)
  order-front = order-parts from h.before s (subst (AreInOrder from) h.are f.order)

  length-done : length done ≡ length h.before + 1
  length-done = ap (λ (ss : List TraceSecond). length ss) h.are ∙ length-append h.before (s ∷ [])

  number : h.number ≡ p.next - 1
  number = let o = order-front.1 in let n = f.next in let l = length-done in omega (arith, o, n, l)

  some-next : p.next - 1 < p.next
  some-next = let n = f.next in let l = length-done in omega (arith, n, l)

  abbrev front : Went
  front = went p.log h.before

  abbrev x : ToldSecond
  x = second_told p.log front.before s

  told-is : went p.log done ≡ record { told = front.told ++ x ∷ []; before = before_next front.before x }
  told-is = ap (went p.log) h.are ∙ went-more p.log h.before s

  going : PowerGoesOn (before_next front.before x)
  going = subst (λ (w : Went). PowerGoesOn w.before) told-is f.power

  lit-uncut : (x.lit ≡ true) × (x.cut ≡ false)
  lit-uncut = and-both x.lit x.cut going.running

  power_ : has_power front.before s ≡ true
  power_ = sym (told-lit p.log front.before s) ∙ lit-uncut.0

  x-lit : IsLitAs p.log front.before s x
  x-lit = lit-told p.log front.before s power_

  uncut : cut_in p.log s.number ≡ None
  uncut = none-is (cut_in p.log s.number) (sym x-lit.cut ∙ lit-uncut.1)

  now-cut : cut_in cut_log s.number ≡ Some (length s.actions)
  now-cut =
      (break-more p.log cut s.number).cut
      ∙ ap (λ (o : Option ℕ). if is_some o then o else (if nat_eq (p.next - 1) s.number then Some p.begun else None)) uncut
      ∙ ap (λ (b : Bool). if b then Some p.begun else None) (ap (nat_eq (p.next - 1)) number ∙ same-number (p.next - 1))
      ∙ ap (λ (k : ℕ). Some k) (sym h.count)

  x-cut : second_told cut_log front.before s ≡ cut_at_end x
  x-cut = second-cut p.log cut_log s
      (λ phase slot. (break-more p.log cut s.number).torn phase slot ∙ or-nothing (is_torn_in p.log s.number phase slot))
      (λ phase slot. (break-more p.log cut s.number).found phase slot) uncut now-cut front.before power_

  finds-same : cut_log.finds ≡ p.log.finds ++ []
  finds-same = sym (append-nil p.log.finds)

  front-same : went cut_log h.before ≡ front
  front-same =
      let o = order-front.1 in
      let n = number in
      went-later p.log cut_log (p.next - 1) (cut ∷ []) refl (refl, tt) [] finds-same tt from h.before order-front.0 (omega (arith, o, n))

  cut-is : went cut_log done ≡ record { told = front.told ++ cut_at_end x ∷ []; before = before_next front.before (cut_at_end x) }
  cut-is =
      ap (went cut_log) h.are ∙ went-more cut_log h.before s ∙ ap (λ (w : Went). went_on cut_log w s) front-same
      ∙ ap (λ (y : ToldSecond). record { told = front.told ++ y ∷ []; before = before_next front.before y }) x-cut

  pub spans-cut : spans_of (went cut_log done).told ≡ f.ended ++ cut_last (t ∷ span) ∷ []
  spans-cut =
      ap (λ (w : Went). spans_of w.told) cut-is ∙ spans-more front.told (cut_at_end x) ∙ cut-with (spans_of front.told) x lit-uncut.0
      ∙ ap cut_spans (sym (spans-more front.told x) ∙ sym (ap (λ (w : Went). spans_of w.told) told-is) ∙ f.spans)
      ∙ cut-spans-last f.ended (t ∷ span)

  end : end_in (t ∷ span) ≡ p.next
  end = span-end p.log from done f.ended t span p.next f.order f.next f.power.running f.spans

  apart : AreApart from (f.ended ++ (t ∷ span) ∷ []) (from + length done)
  apart = subst (λ (ss : List (List ToldSecond)). AreApart from ss (from + length done)) f.spans (spanned p.log from done f.order).apart

  numbered : AreNumbered (first_in (t ∷ span)) (seconds_in (t ∷ span))
  numbered = (apart-last from (from + length done) f.ended (t ∷ span) apart).1

  stays-cut : (n : ℕ) (spans : List (List ToldSecond)) → n ≤ (p.next - 1) / 60 → AreEarly rule n spans → Stays rule start (went p.log done).told (went cut_log done).told spans
  stays-cut n spans le early =
      let is = x-lit.number in
      let here = number in
      subst (λ (ts : List ToldSecond). Stays rule start ts (went cut_log done).told spans) (sym (ap (λ (w : Went). w.told) told-is))
      (subst (λ (ts : List ToldSecond). Stays rule start (front.told ++ x ∷ []) ts spans) (sym (ap (λ (w : Went). w.told) cut-is))
      (stays-instead rule start front.told x (cut_at_end x) n spans (omega (arith, is, here, le)) (omega (arith, is, here, le)) early))

  stays-ended : Stays rule start (went p.log done).told (went cut_log done).told f.ended
  stays-ended =
      let e = end in
      stays-cut (first_in (t ∷ span) / 60) f.ended (omega (arith, e)) (apart-ended rule from (first_in (t ∷ span)) f.ended (apart-front from (from + length done) f.ended (t ∷ span) apart))

  on-cut : (past : List HistoryMinute) → span_minutes rule start (went cut_log done).told past (cut_last (t ∷ span)) ≡ span_minutes rule start (went p.log done).told past (t ∷ span) ++ []
  on-cut past =
      let e = end in
      ap (minutes_after start (went cut_log done).told past) (decided-cut rule (t ∷ span))
      ∙ sym ((stays-cut ((end_in (t ∷ span) - 1) / 60) ((t ∷ span) ∷ []) (omega (arith, e)) (span-before rule t span numbered, tt)).0 past)
      ∙ sym (append-nil (span_minutes rule start (went p.log done).told past (t ∷ span)))

  which-cut : (nat_lt 1 (length (cut_last (t ∷ span))) ≡ true) ⊎ IsShort rule (t ∷ span) (cut_last (t ∷ span)) []
  which-cut = ⊎_elim
      (λ long. inl (ap (λ (k : ℕ). nat_lt 1 k) (length-cut (t ∷ span)) ∙ long))
      (λ (nil : span ≡ []).
      let none = ap (λ (sp : List ToldSecond). decided_of rule (t ∷ sp)) nil ∙ short-none rule t in
      let short : any_long ((t ∷ span) ∷ []) ≡ false = ap (λ (sp : List ToldSecond). any_long ((t ∷ sp) ∷ [])) nil in
      inr (record { before = (none, tt); was = short; after = decided-cut rule (t ∷ span) ∙ none; is = ap (λ (k : ℕ). nat_lt 1 k || false) (length-cut (t ∷ span)) ∙ short; none = refl }))
      (long-or_one t span)

  front-cut : take p.unfound cut_log.breaks ≡ take p.unfound p.log.breaks
  front-cut = front-later p.log cut_log (p.next - 1) (cut ∷ []) refl (refl, tt) [] finds-same tt p.unfound f.unfound

  within-cut : p.unfound ≤ length cut_log.breaks
  within-cut = within-later p.log cut_log (p.next - 1) (cut ∷ []) refl (refl, tt) [] finds-same tt p.unfound f.unfound

  pub cut-core : Core rule start from first done cut_log p.unfound p.next (Lit (cut_last (t ∷ span))) p.book []
  cut-core =
      shifted rule start from first done p.log p.unfound p.next (t ∷ span) p.book (core-of rule start from first done (record p { supply = Lit (t ∷ span); waiting = [] }) f) done cut_log p.next (cut_last (t ∷ span)) []
      f.order f.next front-cut within-cut (kept-later p.log cut_log (p.next - 1) (cut ∷ []) refl (refl, tt) [] finds-same tt p.unfound)
      spans-cut (solid-cut t span) stays-ended (on-cut (closed_history rule start p.log (went p.log done).told f.ended)) which-cut

  -- the history is as it was
  pub cut-history : unit_history rule start cut_log (went cut_log done).told ≡ unit_history rule start p.log (went p.log done).told
  cut-history = ⊎_elim
      (λ long.
      waits rule start from first done cut_log p.unfound p.next (cut_last (t ∷ span)) (solid-cut t span) p.book [] cut-core long
      ∙ sym (waits rule start from first done p.log p.unfound p.next (t ∷ span) refl p.book [] (core-of rule start from first done (record p { supply = Lit (t ∷ span); waiting = [] }) f) (sym (ap (λ (k : ℕ). nat_lt 1 k) (length-cut (t ∷ span))) ∙ long)))
      (λ short. (shifted-short rule start from first done p.log p.unfound p.next (t ∷ span) p.book (core-of rule start from first done (record p { supply = Lit (t ∷ span); waiting = [] }) f) done cut_log p.next (cut_last (t ∷ span)) []
      f.order f.next front-cut within-cut (kept-later p.log cut_log (p.next - 1) (cut ∷ []) refl (refl, tt) [] finds-same tt p.unfound)
      spans-cut (solid-cut t span) stays-ended (on-cut (closed_history rule start p.log (went p.log done).told f.ended)) which-cut short).0)
      which-cut

  -- the seconds so far but the last, and that
  pub cut-parts : (front_ : List ToldSecond) × (x_ : ToldSecond) × ((went p.log done).told ≡ front_ ++ x_ ∷ []) × ((went cut_log done).told ≡ front_ ++ cut_at_end x_ ∷ [])
      × (x_.lit ≡ true) × (x_.cut ≡ false) × (x_.second.number ≡ p.next - 1) × (cut_in p.log x_.second.number ≡ None)
  cut-parts = (
    front.told,
    x,
    ap (λ (w : Went). w.told) told-is,
    ap (λ (w : Went). w.told) cut-is,
    lit-uncut.0,
    lit-uncut.1,
    x-lit.number ∙ number,
    ap (cut_in p.log) x-lit.number ∙ uncut,
  )

  pub cut-facts : (cut_second (last (cut_last (t ∷ span))) ≡ Some (p.next - 1)) × (tells_cut (p.next - 1) cut_log.breaks ≡ true) × (tells_cut (p.next - 1) (take p.unfound cut_log.breaks) ≡ false)
      × (take p.unfound cut_log.breaks ≡ take p.unfound p.log.breaks) × ((u : ℕ) → tells_cut u (take p.unfound p.log.breaks) ≡ true → kept_after p.log u ≡ kept_after cut_log u)
  cut-facts = (
    cut-number t span numbered ∙ ap (λ (k : ℕ). Some (k - 1)) end,
    tells-here p.log.breaks (p.next - 1) false p.begun,
    ap (tells_cut (p.next - 1)) front-cut ∙ tells-none (p.next - 1) p.next (take p.unfound p.log.breaks) (p.next - 1) (breaks-front (p.next - 1) p.next p.unfound p.log.breaks f.lines.breaks) (omega arith),
    front-cut,
    kept-later p.log cut_log (p.next - 1) (cut ∷ []) refl (refl, tt) [] finds-same tt p.unfound,
  )

  pub cut-ends : Core rule start from first done cut_log p.unfound p.next Due p.book []
  cut-ends =
      ends rule start from first done cut_log p.unfound p.next (cut_last (t ∷ span)) (solid-cut t span) (p.next - 1)
      (cut-number t span numbered ∙ ap (λ (k : ℕ). Some (k - 1)) end) (tells-here p.log.breaks (p.next - 1) false p.begun)
      (ap (tells_cut (p.next - 1)) front-cut ∙ tells-none (p.next - 1) p.next (take p.unfound p.log.breaks) (p.next - 1) (breaks-front (p.next - 1) p.next p.unfound p.log.breaks f.lines.breaks) (omega arith))
      p.book None [] cut-core
      (⊎_elim (λ long. inl long) (λ (short : IsShort rule (t ∷ span) (cut_last (t ∷ span)) []). inr short.after) which-cut)

  pub cut-before : AreBefore p.next p.next cut_log
  cut-before = record { breaks = breaks-push (p.next - 1) p.next p.log.breaks (p.next - 1) false p.begun some-next (omega arith) f.lines.breaks; finds = f.lines.finds }

pub off_cuts : AnOffLineCuts
off_cuts rule start from first done p g t span is none n =
    let f = lit-parts rule start from first done p g (t ∷ span) is none in
    subst (λ (w : List HistoryMinute). BookFollowsRun rule start from first (done ++ dark (suc n) p.next)
    (record p { log = and_break p.log (cut_at (p.next - 1) false p.begun); next = p.next + suc n; begun = 0; supply = Due; waiting = w })) (sym none)
    (off-from rule start from first done (and_break p.log (cut_at (p.next - 1) false p.begun)) p.unfound p.next p.book [] n (cut-ends rule start from first done p t span f) (cut-before rule start from first done p t span f))

-- AT THE START
pub begins_run : ARunBegins
unfolding went spans_of unit_history with_lost
begins_run rule start from first early = record {
  early = early;
  order = tt;
  next = omega arith;
  lines = record { breaks = tt; finds = tt };
  unfound = omega arith;
  power = λ n. record { running = refl; comes = refl };
  last = tt;
  ended = [];
  spans = refl;
  tied = (
    refl,
    inl (record {
      known = tt;
      none = refl;
      minutes = ap (minutes_after start [] []) (decided-empty rule);
      begins = ([], refl);
      whole = inl refl;
      lost = λ past at. absurd (omega (arith, at.1));
    }),
  );
  follows = record { front = ([], refl); each = λ past at. absurd (omega (arith, at.1)) };
}
