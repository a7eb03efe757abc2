-- How far a run with cards has travelled, over its steps.
use Rattle.std.proofs.Common.{◌≡◌, inl, inr, ⊎_elim, ℕ, suc, ◌+◌, ◌-◌, ◌/◌, ◌<◌, ◌≤◌, Bool, true, false, ◌||◌, nat_lt, Option, Some, None, List, [], ◌∷◌, ◌++◌, All, Contains, length, map, take, drop, refl, ap, sym, subst, ◌∙◌, arith, append_assoc, append-nil, is_some}
use Rattle.std.specs.Prelude.{option_to_list, option_map, unwrap_or}
use Rattle.std.specs.List.{AllByRecursion}
use Rattle.std.proofs.lemmas.List.{map-append, append_cancel_right}
use Rattle.std.proofs.lemmas.List.Folds.{list_any-append}
use Rattle.std.proofs.lemmas.List.Elements.{All-nil, All-cons, All-head, All-tail, All-weaker, All-append, Contains-append_left, Contains-append_right, Contains-push_cases}
use Rattle.trace_model.specs.Trace.{TraceSecond, driven, dark}
use Rattle.minute_model.specs.declared.Rule.{Rule}
use Rattle.minute_model.specs.declared.Minute.{Minute}
use Rattle.minute_model.specs.Activity.{last}
use Rattle.log_model.specs.declared.lines.Break.{Break}
use Rattle.log_model.specs.declared.lines.Refused.{Refused}
use Rattle.log_model.specs.Log.{RunLog, cut_in, kept_after}
use Rattle.log_model.specs.Course.{ToldSecond, Went, went}
use Rattle.log_model.specs.Spans.{spans_of, AreInOrder}
use Rattle.history_model.specs.Minutes.{HistoryMinute}
use Rattle.history_model.specs.Presence.{Start}
use Rattle.history_model.specs.History.{seated, minutes_after, decided_of, span_minutes, cut_second, limit_by, limit_of, any_long}
use Rattle.history_model.specs.Growth.{closed_limit, closed_history, Rises}
use Rattle.history_model.specs.Book.{Book, all, found, IsMark}
use Rattle.history_model.proofs.Books.{all-none, all-found}
use Rattle.history_model.proofs.Closing.{agree-open, minutes-parts}
use Rattle.history_model.proofs.Deciding.{short-none}
use Rattle.history_model.proofs.Filters.{all-front, all-back}
use Rattle.history_model.proofs.Told.{rises}
use Rattle.run_unit_course.specs.Turn.{cut_last}
use Rattle.run_unit_course.specs.Lines.{cut_at, found_from, tells_cut}
use Rattle.run_unit_course.specs.Followed.{UnitPower, Lit, Due, Lost, IsKnown, MayPower, MayFail, IsDark, as_spans}
use Rattle.run_unit_course.specs.Legs.{Reckoned, Travel, reckoned, not_travelled, stranded_at, resumed, all_travelled, kilometres_of, travelled_by, IsLeg, AreLegs}
use Rattle.run_unit_course.specs.Travelled.{MayShow}
use Rattle.run_unit_course.proofs.Lines.{kept-now, tells-front, tells-behind, tells-found, take-all}
use Rattle.run_unit_course.proofs.Alike.{decided-empty}
use Rattle.run_unit_course.proofs.Spans.{decided-cut, length-cut}
use Rattle.run_unit_course.proofs.Parts.{known-append, known-nothing, known-more, beyond-mark, rising-all}
use Rattle.run_unit_course.proofs.Legs.{travelled_by-push, travelled-all, travelled-none, travelled-earlier, travelled-begun, stranded-begun, nothing_of, kilometres-more, kilometres-leg, kilometres-none, legs-nothing, legs-alike, legs-agree, legs-parts, short-decides, short-shorter, found-again, leg-kept, leg-begun}
use Rattle.run_unit_course.proofs.Travelled.{whole-legs}
use Rattle.run_course.specs.Moments.{and_break}
use Rattle.run_course.specs.Followed.{Progress, BookFollowsRun, Comes, IsLost}
use Rattle.run_course.specs.Seconds.{GoesOnBy, next_told, kept_all, broken_at}
use Rattle.run_course.specs.Travelled.{AreClosedLegs, AreShutLegs, AreOpenLegs, AreEndedLegs, IsReckoned, HasLegs, NothingIsTravelled, FoundIsTravelled, AFailureIsTravelled, ASecondIsTravelled, ABrokenSecondIsTravelled, ADarkMinuteIsTravelled, AnOffLineIsTravelled, AnOffCutIsTravelled, ShownLegsAreThose}
use Rattle.run_course.proofs.Lookups.{kept-by}
use Rattle.run_course.proofs.Logs.{found_log, went-found, kept-found, went-refused}
use Rattle.run_course.proofs.Alike.{known-closed, known-open}
use Rattle.run_course.proofs.Reckoned.{same-on, more-on, last-on, second-more, reckoned-on, reckoned-now}
use Rattle.run_course.proofs.Core.{Core, lit-due, keeps-all, waits}
use Rattle.run_course.proofs.Steps.{core-of, with-waiting, with-supply, due-core, lost-core, lit-parts, spans-now, front-now, kept-now as kept-same, tells-now, feeds, break-facts, comes-adds, cut-core, spans-cut, cut-facts, dark-spans, off-spans}
use Rattle.run_course.proofs.Told.{lost-comes, solid-push, solid-cut}

-- MINUTES OF THE HISTORY, as they were decided
abbrev AreAs : List HistoryMinute → List Minute → Type 0
AreAs is ds = map (λ (i : HistoryMinute). i.minute) is ≡ map (λ (d : Minute). d.minute) ds

as-after : (start : Start) (told : List ToldSecond) (past : List HistoryMinute) (ds : List Minute) → AreAs (minutes_after start told past ds) ds
as-after start told past [] = refl
as-after start told past (d ∷ ds) = ap (λ (ns : List ℕ). d.minute ∷ ns) (as-after start told (past ++ seated start told past d ∷ []) ds)

as-all : (P : ℕ → Type 0) (is : List HistoryMinute) (ds : List Minute) → AreAs is ds → All (λ i. P i.minute) is → All (λ d. P d.minute) ds
as-all P [] [] same h = All-nil (λ (d : Minute). P d.minute)
as-all P [] (d ∷ ds) same h = absurd (cc)
as-all P (i ∷ is) [] same h = absurd (cc)
as-all P (i ∷ is) (d ∷ ds) same h =
    let first : i.minute ≡ d.minute = cc in
    let rest : AreAs is ds = cc in
    All-cons (λ (d : Minute). P d.minute) d ds (subst P first (All-head (λ (i : HistoryMinute). P i.minute) i is h)) (as-all P is ds rest (All-tail (λ (i : HistoryMinute). P i.minute) i is h))

as-append : (is js : List HistoryMinute) (ds es : List Minute) → AreAs is ds → AreAs js es → AreAs (is ++ js) (ds ++ es)
as-append is js ds es one other =
    map-append (λ (i : HistoryMinute). i.minute) is js ∙ ap (λ (ns : List ℕ). ns ++ map (λ (i : HistoryMinute). i.minute) js) one ∙ ap (λ (ns : List ℕ). map (λ (d : Minute). d.minute) ds ++ ns) other
    ∙ sym (map-append (λ (d : Minute). d.minute) ds es)

-- LINES AND SPANS MORE
nothing-append : (rule : Rule) (xs ys : List (List ToldSecond)) → AllByRecursion (λ (span : List ToldSecond). decided_of rule span ≡ []) xs → AllByRecursion (λ (span : List ToldSecond). decided_of rule span ≡ []) ys → AllByRecursion (λ (span : List ToldSecond). decided_of rule span ≡ []) (xs ++ ys)
nothing-append rule [] ys h k = k
nothing-append rule (x ∷ xs) ys h k = (h.0, nothing-append rule xs ys h.1 k)

module _ (rule : Rule) (first : ℕ) (log later : RunLog) (known_ : List Break) (same : (u : ℕ) → tells_cut u known_ ≡ true → kept_after log u ≡ kept_after later u) where
  -- the span goes on, and minutes are kept
  closed-on : (later_known : List Break) (ended : List (List ToldSecond)) (span longer : List ToldSecond) (b c : Book) (before : List ℕ) → ((u : ℕ) → tells_cut u known_ ≡ true → tells_cut u later_known ≡ true) →
      (nat_lt 1 (length longer) ≡ false → (nat_lt 1 (length span) ≡ false) × (c ≡ b)) → AreClosedLegs rule first log known_ ended span b before → AreClosedLegs rule first later later_known ended longer c before
  closed-on later_known ended span longer b c before goes still h = record {
    known = known-more rule known_ later_known ended goes h.known;
    legs = h.legs;
    closed = legs-alike rule (closed_limit log) (closed_limit later) 0 ended h.legs (known-closed rule known_ log later same ended h.known) h.closed;
    so_far = λ one kept mark low.
        legs-alike rule (limit_of log) (limit_of later) kept ended h.legs (known-open rule known_ log later same ended h.known)
        (h.so_far (still one).0 kept (subst (λ (b : Book). IsMark first (all b) kept) (still one).1 mark) (subst (λ (b : Book). All (λ i. i.minute ≤ kept) b.sure) (still one).1 low));
    sums = h.sums;
  }

  -- spans are added that decided nothing
  closed-off : (later_known : List Break) (ended behind : List (List ToldSecond)) (span : List ToldSecond) (b : Book) (before : List ℕ) → ((u : ℕ) → tells_cut u known_ ≡ true → tells_cut u later_known ≡ true) → nat_lt 1 (length span) ≡ false →
      AllByRecursion (λ (span : List ToldSecond). decided_of rule span ≡ []) behind → any_long behind ≡ false → AreClosedLegs rule first log known_ ended span b before → AreClosedLegs rule first later later_known (ended ++ behind) [] b before
  closed-off later_known ended behind span b before goes one none short c = record {
    known = known-append rule later_known ended behind (known-more rule known_ later_known ended goes c.known) (known-nothing rule later_known behind none);
    legs = c.legs ++ nothing_of behind;
    closed = legs-parts rule (closed_limit later) 0 ended behind c.legs (nothing_of behind)
        (legs-alike rule (closed_limit log) (closed_limit later) 0 ended c.legs (known-closed rule known_ log later same ended c.known) c.closed)
        (legs-nothing rule (closed_limit later) 0 behind none);
    so_far = λ e kept mark low. legs-parts rule (limit_of later) kept ended behind c.legs (nothing_of behind)
        (legs-agree rule (λ s more. limit_of later s (more ++ behind)) (limit_of later) kept ended c.legs (agree-open later behind short ended)
        (legs-alike rule (limit_of log) (limit_of later) kept ended c.legs (known-open rule known_ log later same ended c.known) (c.so_far one kept mark low)))
        (legs-nothing rule (limit_of later) kept behind none);
    sums = kilometres-more c.legs behind ∙ c.sums;
  }

  open-off : (later_known : List Break) (ended behind : List (List ToldSecond)) (b : Book) (g : Travel) → ((u : ℕ) → tells_cut u known_ ≡ tells_cut u later_known) → ((u : ℕ) → tells_cut u log.breaks ≡ true → tells_cut u later.breaks ≡ true) →
      AllByRecursion (λ (span : List ToldSecond). decided_of rule span ≡ []) behind → any_long behind ≡ false → AreOpenLegs rule first log known_ ended b g → AreOpenLegs rule first later later_known (ended ++ behind) b g
  open-off later_known ended behind b g goes tells nothing short o = record {
    front = o.front;
    span = o.span;
    short = o.short ++ behind;
    are = ap (λ (ss : List (List ToldSecond)). ss ++ behind) o.are ∙ append_assoc o.front (o.span ∷ o.short) behind;
    known = known-more rule known_ later_known o.front (λ u is. sym (goes u) ∙ is) o.known;
    long = o.long;
    none = list_any-append (λ (s : List ToldSecond). nat_lt 1 (length s)) o.short behind ∙ ap (λ (b : Bool). b || any_long behind) o.none ∙ short;
    nothing = nothing-append rule o.short behind o.nothing nothing;
    second = o.second;
    cut = o.cut;
    told_cut = tells o.second o.told_cut;
    unfound = sym (goes o.second) ∙ o.unfound;
    legs = o.legs;
    closed = legs-alike rule (closed_limit log) (closed_limit later) 0 o.front o.legs (known-closed rule known_ log later same o.front o.known) o.closed;
    sums = o.sums;
    leg = o.leg;
  }

ended-off : (rule : Rule) (first : ℕ) (log later : RunLog) (i : ℕ) (ended behind : List (List ToldSecond)) (b : Book) (g : Travel) → take i later.breaks ≡ take i log.breaks → ((u : ℕ) → tells_cut u (take i log.breaks) ≡ true → kept_after log u ≡ kept_after later u) →
    ((u : ℕ) → tells_cut u log.breaks ≡ true → tells_cut u later.breaks ≡ true) → AllByRecursion (λ (span : List ToldSecond). decided_of rule span ≡ []) behind → any_long behind ≡ false →
    AreEndedLegs rule first log (take i log.breaks) ended b g → AreEndedLegs rule first later (take i later.breaks) (ended ++ behind) b g
ended-off rule first log later i ended behind b g front same tells nothing short (inl s) = inl (record {
  earlier = closed-off rule first log later (take i log.breaks) same (take i later.breaks) ended behind [] b g.before (λ u is. ap (tells_cut u) front ∙ is) refl nothing short s.earlier;
  sure = s.sure;
  none = s.none;
})
ended-off rule first log later i ended behind b g front same tells nothing short (inr o) =
    inr (open-off rule first log later (take i log.breaks) same (take i later.breaks) ended behind b g (λ u. sym (ap (tells_cut u) front)) tells nothing short o)

-- POWER IS BACK: the legs by what is found
module _ (rule : Rule) (first : ℕ) (log : RunLog) (unfound k leg : ℕ) (b : Book) (g : Travel) (shown : MayShow first b g k leg) (early : All (λ i. first < i.minute) (all b)) where
  abbrev found_ : RunLog
  found_ = found_log unfound k log

  abbrev all_known : List Break
  all_known = take (length found_.breaks) found_.breaks

  goes : (u : ℕ) → tells_cut u log.breaks ≡ true → tells_cut u all_known ≡ true
  goes u is = ap (tells_cut u) (take-all found_.breaks) ∙ tells-found u unfound k log.breaks ∙ is

  again : (kept : ℕ) → IsMark first (all (found k b)) kept → All (λ i. i.minute ≤ kept) (found k b).sure → kept ≡ k
  again kept mark low = found-again first k kept (all b) early shown.mark (subst (λ (is : List HistoryMinute). IsMark first is kept) (all-found k b) mark) low

  found-shut : (ended : List (List ToldSecond)) → AreShutLegs rule first log (take unfound log.breaks) ended [] b g → AreShutLegs rule first found_ all_known ended [] (found k b) (resumed leg g)
  found-shut ended s = record {
    earlier = record {
      known = known-more rule (take unfound log.breaks) all_known ended (λ u is. goes u (tells-front u unfound log.breaks is)) s.earlier.known;
      legs = s.earlier.legs;
      closed = legs-alike rule (closed_limit log) (closed_limit found_) 0 ended s.earlier.legs (known-closed rule (take unfound log.breaks) log found_ (kept-found log unfound k) ended s.earlier.known) s.earlier.closed;
      so_far = λ one kept mark low. subst (λ (j : ℕ). AreLegs rule (limit_of found_) j ended s.earlier.legs) (sym (again kept mark low))
          (legs-alike rule (limit_of log) (limit_of found_) k ended s.earlier.legs (known-open rule (take unfound log.breaks) log found_ (kept-found log unfound k) ended s.earlier.known) (s.earlier.so_far refl k shown.mark shown.low));
      sums = s.earlier.sums ∙ sym (kilometres-none g.before leg nothing);
    };
    sure = ap travelled_by (sym (decided-empty rule));
    none = refl;
  }
    where
      nothing : leg ≡ 0
      nothing = ⊎_elim (λ (is : leg ≡ g.sure). is ∙ s.sure ∙ ap travelled_by (decided-empty rule)) (λ (is : g.maybe ≡ Some leg). absurd (let other : None ≡ Some leg = sym s.none ∙ is in cc)) shown.side

  found-open : (ended : List (List ToldSecond)) → AreOpenLegs rule first log (take unfound log.breaks) ended b g → AreShutLegs rule first found_ all_known ended [] (found k b) (resumed leg g)
  found-open ended o = record {
    earlier = record {
      known = subst (AllByRecursion (IsKnown rule all_known)) (sym o.are)
          (known-append rule all_known o.front (o.span ∷ o.short) (known-more rule (take unfound log.breaks) all_known o.front (λ u is. goes u (tells-front u unfound log.breaks is)) o.known)
          (inr (o.second, o.cut, goes o.second o.told_cut), known-nothing rule all_known o.short o.nothing));
      legs = o.legs ++ leg ∷ nothing_of o.short;
      closed = subst (λ (ss : List (List ToldSecond)). AreLegs rule (closed_limit found_) 0 ss (o.legs ++ leg ∷ nothing_of o.short)) (sym o.are)
          (legs-parts rule (closed_limit found_) 0 o.front (o.span ∷ o.short) o.legs (leg ∷ nothing_of o.short) front
          (subst (λ (l : Option ℕ). IsLeg (unwrap_or l 0) (decided_of rule o.span) leg) (sym limit) (o.leg k leg shown), legs-nothing rule (closed_limit found_) 0 o.short o.nothing));
      so_far = λ one kept mark low. subst (λ (j : ℕ). AreLegs rule (limit_of found_) j ended (o.legs ++ leg ∷ nothing_of o.short)) (sym (again kept mark low))
          (subst (λ (ss : List (List ToldSecond)). AreLegs rule (limit_of found_) k ss (o.legs ++ leg ∷ nothing_of o.short)) (sym o.are)
          (whole-legs rule found_ (take unfound log.breaks) o.front o.span o.short o.legs k leg o.known o.long o.none o.nothing front (o.leg k leg shown)));
      sums = kilometres-leg o.legs g.before leg o.short o.sums;
    };
    sure = ap travelled_by (sym (decided-empty rule));
    none = refl;
  }
    where
      front : AreLegs rule (closed_limit found_) 0 o.front o.legs
      front = legs-alike rule (closed_limit log) (closed_limit found_) 0 o.front o.legs (known-closed rule (take unfound log.breaks) log found_ (kept-found log unfound k) o.front o.known) o.closed

      limit : limit_by found_ (cut_second (last o.span)) ≡ Some k
      limit = ap (limit_by found_) o.cut ∙ ap (λ (m : ℕ). Some m) (kept-by found_ o.second ∙ kept-now k (take unfound log.breaks) (drop unfound log.breaks) o.second o.unfound (tells-behind o.second unfound log.breaks o.unfound o.told_cut))

-- THE SPAN ENDS WITH A CUT: whatever the unit may show then is its leg
leg-shown : (first from until : ℕ) → first < from → (b : Book) (earlier ps rs : List HistoryMinute) (i : Option HistoryMinute) (parts : List Minute) (d : Option Minute) (rest : List Minute) → AreAs ps parts → AreAs (option_to_list i ++ rs) (option_to_list d ++ rest) →
    b.maybe ≡ None → b.sure ≡ earlier ++ ps → Rises from (b.sure ++ (option_to_list i ++ rs)) until → (g : Travel) → g.sure ≡ travelled_by parts → g.maybe ≡ None → (is_some i ≡ is_some d) → (kept leg : ℕ) →
    MayShow first (broken_at i b) (stranded_at d g) kept leg → IsLeg kept (parts ++ (option_to_list d ++ rest)) leg
leg-shown first from until early b earlier ps rs None parts None rest as_ behind nobody is rises g sure none alike kept leg shown =
    let mark = subst (λ (is : List HistoryMinute). IsMark first is kept) (all-none b nobody) shown.mark in
    let low = as-all (λ m. m ≤ kept) ps parts as_ (all-back (λ (i : HistoryMinute). i.minute ≤ kept) earlier ps (subst (All (λ (i : HistoryMinute). i.minute ≤ kept)) is shown.low)) in
    let high = as-all (λ m. kept < m) rs rest behind (beyond-mark first from until kept b.sure rs early rises mark) in
    leg-kept kept parts rest leg low high (⊎_elim (λ (here : leg ≡ g.sure). here ∙ sure) (λ (there : g.maybe ≡ Some leg). absurd (let other : None ≡ Some leg = sym none ∙ there in cc)) shown.side)
leg-shown first from until early b earlier ps rs (Some i) parts None rest as_ behind nobody is rises g sure none alike kept leg shown = absurd (cc)
leg-shown first from until early b earlier ps rs None parts (Some d) rest as_ behind nobody is rises g sure none alike kept leg shown = absurd (cc)
leg-shown first from until early b earlier ps rs (Some i) parts (Some d) rest as_ behind nobody is rises g sure none alike kept leg shown =
    ⊎_elim (λ (start : kept ≡ first). kept_before (inl start))
    (λ m. ⊎_elim (λ at. kept_before (inr (m.0, at, m.2))) (λ (one : i ≡ m.0). begun (sym m.2 ∙ ap (λ (j : HistoryMinute). j.minute) (sym one) ∙ same)) (Contains-push_cases b.sure i m.0 m.1))
    shown.mark
  where
    same : i.minute ≡ d.minute
    same = cc

    others : AreAs rs rest
    others = cc

    low : All (λ (d : Minute). d.minute ≤ kept) parts
    low = as-all (λ m. m ≤ kept) ps parts as_ (all-back (λ (i : HistoryMinute). i.minute ≤ kept) earlier ps (subst (All (λ (i : HistoryMinute). i.minute ≤ kept)) is shown.low))

    -- the minute of which the keeping was broken off is not there
    kept_before : IsMark first b.sure kept → IsLeg kept (parts ++ d ∷ rest) leg
    kept_before mark =
        let high = as-all (λ m. kept < m) (i ∷ rs) (d ∷ rest) behind (beyond-mark first from until kept b.sure (i ∷ rs) early rises mark) in
        ⊎_elim (λ (here : leg ≡ g.sure). leg-kept kept parts (d ∷ rest) leg low high (here ∙ sure))
        (λ (there : Some d.travelled ≡ Some leg). leg-begun kept parts rest d leg low (All-head (λ (d : Minute). kept < d.minute) d rest high) (let one : leg ≡ d.travelled = cc in one))
        shown.side

    -- it is
    begun : kept ≡ d.minute → IsLeg kept (parts ++ d ∷ rest) leg
    begun at =
        let there : Some d.travelled ≡ Some leg = shown.behind i refl (at ∙ sym same) in
        let one : leg ≡ d.travelled = cc in
        let more = subst (λ (is : List HistoryMinute). Rises from is until) (sym (append_assoc b.sure (i ∷ []) rs)) rises in
        let high = as-all (λ m. kept < m) rs rest others (beyond-mark first from until kept (b.sure ++ i ∷ []) rs early more shown.mark) in
        subst (λ (ds : List Minute). IsLeg kept ds leg) (append_assoc parts (d ∷ []) rest)
        (leg-kept kept (parts ++ d ∷ []) rest leg
        (All-append (λ (d : Minute). d.minute ≤ kept) parts (d ∷ []) low (All-cons (λ (d : Minute). d.minute ≤ kept) d [] (omega (arith, at)) (All-nil (λ (d : Minute). d.minute ≤ kept))))
        high (one ∙ sym (travelled_by-push parts d)))

stranded-earlier : (d : Option Minute) (g : Travel) → (stranded_at d g).before ≡ g.before
stranded-earlier None g = refl
stranded-earlier (Some d) g = refl

nothing-parts : (parts : List Minute) (d : Option Minute) (rest : List Minute) → parts ++ (option_to_list d ++ rest) ≡ [] → (parts ≡ []) × (d ≡ None)
nothing-parts [] None rest e = (refl, refl)
nothing-parts [] (Some d) rest e = absurd (cc)
nothing-parts (x ∷ parts) d rest e = absurd (cc)

none-alike : (i : Option HistoryMinute) → is_some i ≡ false → i ≡ None
none-alike None is = refl
none-alike (Some i) is = absurd (cc)

-- a span that ends with a cut, some of whose minutes are kept
module _ (rule : Rule) (start : Start) (from first : ℕ) (done : List TraceSecond) (log : RunLog) (unfound next : ℕ) (span : List ToldSecond) (solid : as_spans span ≡ span ∷ []) (b : Book) (i : Option HistoryMinute) (rs : List HistoryMinute)
    (c : Core rule start from first done log unfound next (Lit span) b (option_to_list i ++ rs)) (second : ℕ) (is : cut_second (last span) ≡ Some second) (tells : tells_cut second log.breaks ≡ true) (absent : tells_cut second (take unfound log.breaks) ≡ false)
    (g : Travel) (legs : AreClosedLegs rule first log (take unfound log.breaks) c.ended span b g.before) (parts : List Minute) (d : Option Minute) (rest : List Minute) (are : decided_of rule span ≡ parts ++ (option_to_list d ++ rest))
    (earlier ps : List HistoryMinute) (sure_is : b.sure ≡ earlier ++ ps) (as_ : AreAs ps parts) (behind : AreAs (option_to_list i ++ rs) (option_to_list d ++ rest)) (alike : is_some i ≡ is_some d)
    (sure : g.sure ≡ travelled_by parts) (none : g.maybe ≡ None) where
  rising : nat_lt 1 (length span) ≡ true → Rises (from / 60) (b.sure ++ (option_to_list i ++ rs)) ((from + length done) / 60)
  rising long = subst (λ (is : List HistoryMinute). Rises (from / 60) is ((from + length done) / 60))
      (waits rule start from first done log unfound next span solid b (option_to_list i ++ rs) c long ∙ ap (λ (is : List HistoryMinute). is ++ (option_to_list i ++ rs)) (all-none b c.tied.none))
      (rises from rule start log done c.order)

  pub cut-legs : AreEndedLegs rule first log (take unfound log.breaks) (c.ended ++ span ∷ []) (broken_at i b) (stranded_at d g)
  cut-legs = which (nat_lt 1 (length span)) refl
    where
      which : (long : Bool) → nat_lt 1 (length span) ≡ long → AreEndedLegs rule first log (take unfound log.breaks) (c.ended ++ span ∷ []) (broken_at i b) (stranded_at d g)
      which true long = inr (record {
        front = c.ended;
        span = span;
        short = [];
        are = refl;
        known = legs.known;
        long = long;
        none = refl;
        nothing = tt;
        second = second;
        cut = is;
        told_cut = tells;
        unfound = absent;
        legs = legs.legs;
        closed = legs.closed;
        sums = legs.sums ∙ ap kilometres_of (sym (stranded-earlier d g));
        leg = λ kept leg shown. subst (λ (ds : List Minute). IsLeg kept ds leg) (sym are)
            (leg-shown first (from / 60) ((from + length done) / 60) c.early b earlier ps rs i parts d rest as_ behind c.tied.none sure_is (rising long) g sure none alike kept leg shown);
      })
      which false one =
          let decides = short-decides rule span one in
          let nothing = nothing-parts parts d rest (sym are ∙ decides) in
          let nobody : i ≡ None = none-alike i (alike ∙ ap (λ (o : Option Minute). is_some o) nothing.1) in
          subst (λ (o : Option Minute). AreEndedLegs rule first log (take unfound log.breaks) (c.ended ++ span ∷ []) (broken_at i b) (stranded_at o g)) (sym nothing.1)
          (subst (λ (o : Option HistoryMinute). AreEndedLegs rule first log (take unfound log.breaks) (c.ended ++ span ∷ []) (broken_at o b) g) (sym nobody)
          (inl (record {
            earlier = closed-off rule first log log (take unfound log.breaks) (λ u t. refl) (take unfound log.breaks) c.ended (span ∷ []) span b g.before (λ u t. t) one (decides, tt) (ap (λ (b : Bool). b || false) one) legs;
            sure = sure ∙ ap travelled_by (nothing.0 ∙ sym (decided-empty rule));
            none = none;
          })))

-- THE STEPS
pub nothing-travelled : NothingIsTravelled
unfolding went spans_of
nothing-travelled rule first image p is = subst (λ (s : UnitPower). HasLegs rule first [] (record p { supply = s }) (not_travelled image)) (sym is) (record {
  ended = [];
  spans = refl;
  legs = inl (record {
    earlier = record { known = tt; legs = []; closed = refl; so_far = λ one kept mark low. refl; sums = refl };
    sure = ap travelled_by (sym (decided-empty rule));
    none = refl;
  });
  begun = λ e at. absurd (omega (arith, at.1));
})

legs-by : (rule : Rule) (first : ℕ) (done : List TraceSecond) (p : Progress) (g : Travel) → HasLegs rule first done p g → (s : UnitPower) → p.supply ≡ s → HasLegs rule first done (record p { supply = s }) g
legs-by rule first done p g h s is = subst (λ (s : UnitPower). HasLegs rule first done (record p { supply = s }) g) is h

-- the minutes of the book are later than the last-kept one at the start
after-first : (rule : Rule) (start : Start) (from first : ℕ) (done : List TraceSecond) (p : Progress) → BookFollowsRun rule start from first done p → All (λ i. first < i.minute) (all p.book)
after-first rule start from first done p f =
    let front = f.follows.front in
    let later = rising-all (from / 60) ((from + length done) / 60) (all p.book ++ front.0)
    (subst (λ (is : List HistoryMinute). Rises (from / 60) is ((from + length done) / 60)) front.1 (rises from rule start p.log done f.order)) in
    let lt = f.early in
    All-weaker (λ (i : HistoryMinute). from / 60 ≤ i.minute) (λ i. first < i.minute) (λ i le. omega (arith, le, lt)) (all p.book) (all-front (λ (i : HistoryMinute). from / 60 ≤ i.minute) (all p.book) front.0 later)

pub found-travelled : FoundIsTravelled
found-travelled rule start from first done p f g h may k leg shown = by p.supply may h
  where
    at : (ended : List (List ToldSecond)) → spans_of (went p.log done).told ≡ ended ++ [] → AreEndedLegs rule first p.log (take p.unfound p.log.breaks) ended p.book g →
        HasLegs rule first done (record p { log = found_log p.unfound k p.log; unfound = length (found_from p.unfound k p.log.breaks); supply = Lit []; book = found k p.book; waiting = [] }) (resumed leg g)
    at ended spans legs = record {
      ended = ended;
      spans = ap (λ (w : Went). spans_of w.told) (went-found p.log p.unfound k from done f.order) ∙ spans;
      legs = ⊎_elim
          (λ s. found-shut rule first p.log p.unfound k leg p.book g shown (after-first rule start from first done p f) ended s)
          (λ o. found-open rule first p.log p.unfound k leg p.book g shown (after-first rule start from first done p f) ended o) legs;
      begun = λ e at. reckoned-on rule p.log (found_log p.unfound k p.log) (take p.unfound p.log.breaks) (take (length (found_from p.unfound k p.log.breaks)) (found_from p.unfound k p.log.breaks))
          (spans_of (went p.log done).told) (spans_of (went (found_log p.unfound k p.log) done).told) (kept-found p.log p.unfound k)
          (λ u is. goes rule first p.log p.unfound k leg p.book g shown (after-first rule start from first done p f) u (tells-front u p.unfound p.log.breaks is))
          (same-on rule (spans_of (went p.log done).told) (spans_of (went (found_log p.unfound k p.log) done).told) (ap (λ (w : Went). spans_of w.told) (went-found p.log p.unfound k from done f.order))) e (h.begun e at);
    }

    by : (s : UnitPower) → MayPower s p.next → HasLegs rule first done (record p { supply = s }) g →
        HasLegs rule first done (record p { log = found_log p.unfound k p.log; unfound = length (found_from p.unfound k p.log.breaks); supply = Lit []; book = found k p.book; waiting = [] }) (resumed leg g)
    by (Lit span) may h = absurd may
    by Due may h = at h.ended h.spans h.legs
    by Lost may h = at h.ended h.spans h.legs

pub failure-travelled : AFailureIsTravelled
failure-travelled rule start from first done p f g h may none s later by = at_supply p.supply may (with-waiting rule start from first done p [] none f) h
  where
    at : (order : AreInOrder from done) (next : p.next ≡ from + length done) (within : p.unfound ≤ length p.log.breaks) → Core rule start from first done p.log p.unfound p.next Due p.book [] → Comes (went p.log done).before p.next →
        (ended : List (List ToldSecond)) → spans_of (went p.log done).told ≡ ended ++ [] → AreEndedLegs rule first p.log (take p.unfound p.log.breaks) ended p.book g →
        HasLegs rule first (done ++ s ∷ []) (record { log = later; unfound = p.unfound; next = suc p.next; begun = length s.actions; supply = Lost; book = p.book; waiting = [] }) g
    at order next within core comes ended spans legs =
        let t : ToldSecond = next_told later done s in
        let adds = comes-adds rule start from first done p order next within s later by core comes in
        record {
          ended = ended ++ (t ∷ []) ∷ [];
          spans = adds.0 ∙ ap (λ (ss : List (List ToldSecond)). ss ++ (t ∷ []) ∷ []) (spans ∙ append-nil ended) ∙ sym (append-nil (ended ++ (t ∷ []) ∷ []));
          legs = ended-off rule first p.log later p.unfound ended ((t ∷ []) ∷ []) p.book g (front-now rule start from first done p order next within s later by)
              (kept-same rule start from first done p order next within s later by) (tells-now rule start from first done p order next within s later by) (short-none rule t, tt) refl legs;
          begun = λ e at. reckoned-on rule p.log later (take p.unfound p.log.breaks) (take p.unfound later.breaks) (spans_of (went p.log done).told) (spans_of (went later (done ++ s ∷ [])).told)
              (kept-same rule start from first done p order next within s later by) (λ u tells. ap (tells_cut u) (front-now rule start from first done p order next within s later by) ∙ tells)
              (more-on rule (spans_of (went p.log done).told) (spans_of (went later (done ++ s ∷ [])).told) ((t ∷ []) ∷ []) adds.0) e (h.begun e at);
        }

    at_supply : (sp : UnitPower) → MayFail sp p.next → BookFollowsRun rule start from first done (record p { supply = sp; waiting = [] }) → HasLegs rule first done (record p { supply = sp }) g →
        HasLegs rule first (done ++ s ∷ []) (record { log = later; unfound = p.unfound; next = suc p.next; begun = length s.actions; supply = Lost; book = p.book; waiting = [] }) g
    at_supply (Lit []) may k l =
        at k.order k.next k.unfound (lit-due rule start from first done p.log p.unfound p.next p.book (core-of rule start from first done (record p { supply = Lit []; waiting = [] }) k)) k.power l.ended l.spans (inl l.legs)
    at_supply (Lit (x ∷ xs)) may k l = absurd may
    at_supply Due may k l = at k.order k.next k.unfound (due-core rule start from first done (record p { waiting = [] }) k) (k.power p.next) l.ended l.spans l.legs
    at_supply Lost may k l = at k.order k.next k.unfound (lost-core rule start from first done (record p { waiting = [] }) k) (lost-comes (went p.log done).before p.next k.power may) l.ended l.spans l.legs

nothing-more : (xs ys : List Minute) → xs ++ ys ≡ [] → ys ≡ []
nothing-more [] ys e = e
nothing-more (x ∷ xs) ys e = absurd (cc)

nothing-first : (xs ys : List Minute) → xs ++ ys ≡ [] → xs ≡ []
nothing-first [] ys e = refl
nothing-first (x ∷ xs) ys e = absurd (cc)

kept-sure : (is : List HistoryMinute) (b : Book) → (kept_all is b).sure ≡ b.sure ++ is
kept-sure [] b = sym (append-nil b.sure)
kept-sure (i ∷ is) b = kept-sure is (record b { sure = b.sure ++ i ∷ []; maybe = None }) ∙ append_assoc b.sure (i ∷ []) is

-- ONE SECOND MORE with power
module _ (rule : Rule) (start : Start) (from first : ℕ) (done : List TraceSecond) (p : Progress) (f0 : BookFollowsRun rule start from first done p) (g : Travel) (h0 : HasLegs rule first done p g) (span : List ToldSecond) (is : p.supply ≡ Lit span) (none_waits : p.waiting ≡ [])
    (s : TraceSecond) (later : RunLog) (by : GoesOnBy p later s) where
  abbrev f : BookFollowsRun rule start from first done (record p { supply = Lit span; waiting = [] })
  f = lit-parts rule start from first done p f0 span is none_waits

  abbrev l : HasLegs rule first done (record p { supply = Lit span }) g
  l = legs-by rule first done p g h0 (Lit span) is

  abbrev t : ToldSecond
  t = next_told later done s

  abbrev c : Core rule start from first done p.log p.unfound p.next (Lit span) p.book []
  c = core-of rule start from first done (record p { supply = Lit span; waiting = [] }) f

  same-ended : l.ended ≡ f.ended
  same-ended = append_cancel_right l.ended f.ended (as_spans span) (sym l.spans ∙ f.spans)

  now-spans : spans_of (went later (done ++ s ∷ [])).told ≡ f.ended ++ (span ++ t ∷ []) ∷ []
  now-spans = spans-now rule start from first done p f.order f.next f.unfound s later by span c f.power

  -- the legs before, where these minutes are kept
  closed-now : (ds : List Minute) → decided_of rule (span ++ t ∷ []) ≡ decided_of rule span ++ ds → (b : Book) → (ds ≡ [] → b ≡ p.book) → AreClosedLegs rule first later (take p.unfound later.breaks) f.ended (span ++ t ∷ []) b g.before
  closed-now ds decides b same =
      closed-on rule first p.log later (take p.unfound p.log.breaks) (kept-same rule start from first done p f.order f.next f.unfound s later by) (take p.unfound later.breaks) f.ended span (span ++ t ∷ []) p.book b g.before
      (λ u tells. ap (tells_cut u) (front-now rule start from first done p f.order f.next f.unfound s later by) ∙ tells)
      (λ one. (short-shorter span t [] one, same (nothing-more (decided_of rule span) ds (sym decides ∙ short-decides rule (span ++ t ∷ []) one))))
      (subst (λ (es : List (List ToldSecond)). AreClosedLegs rule first p.log (take p.unfound p.log.breaks) es span p.book g.before) same-ended l.legs.earlier)

  -- what was reckoned before, and these minutes
  abbrev IsNow : Reckoned → Type 0
  IsNow e = IsReckoned rule later (take p.unfound later.breaks) (spans_of (went later (done ++ s ∷ [])).told) e

  reckoned-still : (ds : List Minute) → decided_of rule (span ++ t ∷ []) ≡ decided_of rule span ++ ds → (e : Reckoned) → Contains g.begun e → IsNow e
  reckoned-still ds decides e at =
      reckoned-on rule p.log later (take p.unfound p.log.breaks) (take p.unfound later.breaks) (spans_of (went p.log done).told) (spans_of (went later (done ++ s ∷ [])).told)
      (kept-same rule start from first done p f.order f.next f.unfound s later by) (λ u tells. ap (tells_cut u) (front-now rule start from first done p f.order f.next f.unfound s later by) ∙ tells)
      (second-more rule f.ended span t (spans_of (went p.log done).told) (spans_of (went later (done ++ s ∷ [])).told) f.spans now-spans
      (λ m there. subst (λ (ms : List Minute). Contains ms m) (sym decides) (Contains-append_left (decided_of rule span) ds m there))) e (l.begun e at)

  reckoned-here : (ds : List Minute) → decided_of rule (span ++ t ∷ []) ≡ decided_of rule span ++ ds → (d : Minute) → Contains ds d → IsNow (reckoned d.minute d.travelled g)
  reckoned-here ds decides d at =
      reckoned-now rule first later (take p.unfound later.breaks) f.ended (span ++ t ∷ []) p.book g.before (closed-now ds decides p.book (λ nil. refl)) (spans_of (went later (done ++ s ∷ [])).told) now-spans d
      (subst (λ (ms : List Minute). Contains ms d) (sym decides) (Contains-append_right (decided_of rule span) ds d at))

  pub second-on : (ds : List Minute) → decided_of rule (span ++ t ∷ []) ≡ decided_of rule span ++ ds → HasLegs rule first (done ++ s ∷ []) (record {
    log = later;
    unfound = p.unfound;
    next = suc p.next;
    begun = length s.actions;
    supply = Lit (span ++ t ∷ []);
    book = kept_all (minutes_after start ((went later done).told ++ t ∷ []) p.book.sure ds) p.book;
    waiting = [];
  }) (all_travelled ds g)
  second-on ds decides =
      let new : List HistoryMinute = minutes_after start ((went later done).told ++ t ∷ []) p.book.sure ds in
      record {
        ended = f.ended;
        spans = now-spans ∙ ap (λ (ss : List (List ToldSecond)). f.ended ++ ss) (sym (solid-push span t));
        legs = record {
          earlier = subst (AreClosedLegs rule first later (take p.unfound later.breaks) f.ended (span ++ t ∷ []) (kept_all new p.book)) (sym (travelled-earlier ds g))
              (closed-now ds decides (kept_all new p.book) (λ nil. ap (λ (es : List Minute). kept_all (minutes_after start ((went later done).told ++ t ∷ []) p.book.sure es) p.book) nil));
          sure = travelled-all (decided_of rule span) ds g l.legs.sure ∙ ap travelled_by (sym decides);
          none = travelled-none ds g l.legs.none;
        };
        begun = λ e at. ⊎_elim
            (λ old. reckoned-still ds decides e old)
            (λ new. subst IsNow (sym new.2) (reckoned-here ds decides new.0 new.1))
            (travelled-begun ds g e at);
      }

  tail-as : (past : List HistoryMinute) (d : Option Minute) (rest : List Minute) →
      (rs : List HistoryMinute) × (minutes_after start ((went later done).told ++ t ∷ []) past (option_to_list d ++ rest) ≡ option_to_list (option_map {T = Minute} (seated start ((went later done).told ++ t ∷ []) past) d) ++ rs)
  tail-as past None rest = (minutes_after start ((went later done).told ++ t ∷ []) past rest, refl)
  tail-as past (Some d) rest = (minutes_after start ((went later done).told ++ t ∷ []) (past ++ seated start ((went later done).told ++ t ∷ []) past d ∷ []) rest, refl)

  some-as : (past : List HistoryMinute) (d : Option Minute) → is_some (option_map {T = Minute} (seated start ((went later done).told ++ t ∷ []) past) d) ≡ is_some d
  some-as past None = refl
  some-as past (Some d) = refl

  pub second-off : (begun : ℕ) → cut_in later s.number ≡ Some begun → (front : List Minute) (d : Option Minute) (rest : List Minute) → decided_of rule (span ++ t ∷ []) ≡ decided_of rule span ++ (front ++ (option_to_list d ++ rest)) →
      let now : List ToldSecond = (went later done).told ++ t ∷ [] in
      let kept : List HistoryMinute = minutes_after start now p.book.sure front in
      HasLegs rule first (done ++ s ∷ []) (record {
        log = later;
        unfound = p.unfound;
        next = suc p.next;
        begun = length s.actions;
        supply = Lost;
        book = broken_at (option_map {T = Minute} (seated start now (p.book.sure ++ kept)) d) (kept_all kept p.book);
        waiting = [];
      }) (stranded_at d (all_travelled front g))
  second-off begun cut front d rest decides =
      let now : List ToldSecond = (went later done).told ++ t ∷ [] in
      let kept : List HistoryMinute = minutes_after start now p.book.sure front in
      let tail : List Minute = option_to_list d ++ rest in
      let after = tail-as (p.book.sure ++ kept) d rest in
      let i : Option HistoryMinute = option_map {T = Minute} (seated start now (p.book.sure ++ kept)) d in
      let new : List HistoryMinute = minutes_after start now p.book.sure (front ++ tail) in
      let split : new ≡ kept ++ (option_to_list i ++ after.0) = minutes-parts rule start now p.book.sure front tail ∙ ap (λ (js : List HistoryMinute). kept ++ js) after.1 in
      let fed_ = feeds rule start from first done p f.order f.next f.unfound s later by span c f.power new (front ++ tail, decides, refl) in
      let core = keeps-all rule start from first (done ++ s ∷ []) later p.unfound (suc p.next) (span ++ t ∷ []) (solid-push span t) p.book kept (option_to_list i ++ after.0)
      (subst (λ (w : List HistoryMinute). Core rule start from first (done ++ s ∷ []) later p.unfound (suc p.next) (Lit (span ++ t ∷ [])) p.book w) split fed_) in
      let facts = break-facts rule start from first done p s later by span f begun cut in
      let ended_now : f.ended ≡ core.ended = append_cancel_right f.ended core.ended ((span ++ t ∷ []) ∷ []) (sym now-spans ∙ core.spans ∙ ap (λ (ss : List (List ToldSecond)). core.ended ++ ss) (solid-push span t)) in
      let closed : List HistoryMinute = closed_history rule start p.log (went p.log done).told f.ended in
      let mine : List HistoryMinute = span_minutes rule start (went p.log done).told closed span in
      record {
        ended = core.ended ++ (span ++ t ∷ []) ∷ [];
        spans = now-spans ∙ ap (λ (es : List (List ToldSecond)). es ++ (span ++ t ∷ []) ∷ []) ended_now ∙ sym (append-nil (core.ended ++ (span ++ t ∷ []) ∷ []));
        legs = cut-legs rule start from first (done ++ s ∷ []) later p.unfound (suc p.next) (span ++ t ∷ []) (solid-push span t) (kept_all kept p.book) i after.0 core s.number facts.0 facts.1 facts.2 (all_travelled front g)
            (subst (λ (es : List (List ToldSecond)). AreClosedLegs rule first later (take p.unfound later.breaks) es (span ++ t ∷ []) (kept_all kept p.book) (all_travelled front g).before) ended_now
            (subst (AreClosedLegs rule first later (take p.unfound later.breaks) f.ended (span ++ t ∷ []) (kept_all kept p.book)) (sym (travelled-earlier front g))
            (closed-now (front ++ tail) decides (kept_all kept p.book) (λ nil. ap (λ (es : List Minute). kept_all (minutes_after start now p.book.sure es) p.book) (nothing-first front tail nil)))))
            (decided_of rule span ++ front) d rest (decides ∙ sym (append_assoc (decided_of rule span) front tail))
            closed (mine ++ kept) (kept-sure kept p.book ∙ ap (λ (js : List HistoryMinute). js ++ kept) (sym (f.tied.minutes ∙ append-nil p.book.sure)) ∙ append_assoc closed mine kept)
            (as-append mine kept (decided_of rule span) front (as-after start (went p.log done).told closed (decided_of rule span)) (as-after start now p.book.sure front))
            (subst (λ (js : List HistoryMinute). AreAs js tail) after.1 (as-after start now (p.book.sure ++ kept) tail))
            (some-as (p.book.sure ++ kept) d) (travelled-all (decided_of rule span) front g l.legs.sure) (travelled-none front g l.legs.none);
        begun = λ e at. ⊎_elim
            (λ there. ⊎_elim
            (λ old. reckoned-still (front ++ tail) decides e old)
            (λ new. subst IsNow (sym new.2) (reckoned-here (front ++ tail) decides new.0 (Contains-append_left front tail new.0 new.1)))
            (travelled-begun front g e there))
            (λ last. subst IsNow (sym last.2)
            (subst (λ (legs : List ℕ). IsNow (record { minute = last.0.minute; before = legs; leg = last.0.travelled })) (sym (travelled-earlier front g))
            (reckoned-here (front ++ tail) decides last.0 (Contains-append_right front tail last.0 (among last.0 d last.1)))))
            (stranded-begun d (all_travelled front g) e at);
      }
    where
      among : (m : Minute) (o : Option Minute) → o ≡ Some m → Contains (option_to_list o ++ rest) m
      among m o is = subst (λ (q : Option Minute). Contains (option_to_list q ++ rest) m) (sym is) (Contains-append_left (m ∷ []) rest m (0, omega arith, refl))

pub second-travelled : ASecondIsTravelled
second-travelled rule start from first done p f g h span is none s later by ds decides = second-on rule start from first done p f g h span is none s later by ds decides

pub broken-travelled : ABrokenSecondIsTravelled
broken-travelled rule start from first done p f g h span is none s later by begun cut front d rest decides = second-off rule start from first done p f g h span is none s later by begun cut front d rest decides

-- WITHOUT POWER
ended-refused : (rule : Rule) (first : ℕ) (log : RunLog) (refused : List Refused) (i : ℕ) (ended : List (List ToldSecond)) (b : Book) (g : Travel) → AreEndedLegs rule first log (take i log.breaks) ended b g → AreEndedLegs rule first (record log { refused = refused }) (take i log.breaks) ended b g
ended-refused rule first log refused i ended b g legs =
    subst (λ (es : List (List ToldSecond)). AreEndedLegs rule first (record log { refused = refused }) (take i log.breaks) es b g) (append-nil ended)
    (ended-off rule first log (record log { refused = refused }) i ended [] b g refl (λ u tells. kept-by log u ∙ sym (kept-by (record log { refused = refused }) u)) (λ u tells. tells) tt refl legs)

pub dark-travelled : ADarkMinuteIsTravelled
dark-travelled rule start from first done p f g h is n speed actions refused begun some within =
    let k = with-supply rule start from first done p Lost is f in
    let l = legs-by rule first done p g h Lost is in
    let later : RunLog = record p.log { refused = refused } in
    let same = went-refused p.log later refl refl done in
    subst (λ (sp : UnitPower). HasLegs rule first (done ++ driven n p.next speed actions) (record p { log = later; next = p.next + n; begun = begun; supply = sp }) g) (sym is) (record {
      ended = l.ended;
      spans = dark-spans later n done p.next speed actions (subst (λ (w : Went). IsLost w.before) (sym same) k.power) some within ∙ ap (λ (w : Went). spans_of w.told) same ∙ l.spans;
      legs = ended-refused rule first p.log refused p.unfound l.ended p.book g l.legs;
      begun = λ e at. reckoned-on rule p.log later (take p.unfound p.log.breaks) (take p.unfound p.log.breaks) (spans_of (went p.log done).told) (spans_of (went later (done ++ driven n p.next speed actions)).told)
          (λ u tells. kept-by p.log u ∙ sym (kept-by later u)) (λ u tells. tells)
          (same-on rule (spans_of (went p.log done).told) (spans_of (went later (done ++ driven n p.next speed actions)).told)
          (dark-spans later n done p.next speed actions (subst (λ (w : Went). IsLost w.before) (sym same) k.power) some within ∙ ap (λ (w : Went). spans_of w.told) same)) e (l.begun e at);
    })

pub off-travelled : AnOffLineIsTravelled
off-travelled rule start from first done p f g h is n = by p.supply is h
  where
    still : (e : Reckoned) → Contains g.begun e → IsReckoned rule p.log (take p.unfound p.log.breaks) (spans_of (went p.log (done ++ dark (suc n) p.next)).told) e
    still e at = reckoned-on rule p.log p.log (take p.unfound p.log.breaks) (take p.unfound p.log.breaks) (spans_of (went p.log done).told) (spans_of (went p.log (done ++ dark (suc n) p.next)).told) (λ u tells. refl) (λ u tells. tells)
        (same-on rule (spans_of (went p.log done).told) (spans_of (went p.log (done ++ dark (suc n) p.next)).told) (off-spans p.log (suc n) done p.next)) e (h.begun e at)

    by : (s : UnitPower) → IsDark s → HasLegs rule first done (record p { supply = s }) g → HasLegs rule first (done ++ dark (suc n) p.next) (record p { next = p.next + suc n; begun = 0; supply = Due }) g
    by (Lit span) is l = absurd is
    by Due is l = record { ended = l.ended; spans = off-spans p.log (suc n) done p.next ∙ l.spans; legs = l.legs; begun = still }
    by Lost is l = record { ended = l.ended; spans = off-spans p.log (suc n) done p.next ∙ l.spans; legs = l.legs; begun = still }

pub off-cut-travelled : AnOffCutIsTravelled
off-cut-travelled rule start from first done p f0 g h t span is none n =
    let f = lit-parts rule start from first done p f0 (t ∷ span) is none in
    let l = legs-by rule first done p g h (Lit (t ∷ span)) is in
    let later : RunLog = and_break p.log (cut_at (p.next - 1) false p.begun) in
    let core = cut-core rule start from first done p t span f in
    let facts = cut-facts rule start from first done p t span f in
    let spans = spans-cut rule start from first done p t span f in
    let same : l.ended ≡ f.ended = append_cancel_right l.ended f.ended ((t ∷ span) ∷ []) (sym l.spans ∙ f.spans) in
    let now : f.ended ≡ core.ended = append_cancel_right f.ended core.ended (cut_last (t ∷ span) ∷ []) (sym spans ∙ core.spans ∙ ap (λ (ss : List (List ToldSecond)). core.ended ++ ss) (solid-cut t span)) in
    let closed : List HistoryMinute = closed_history rule start p.log (went p.log done).told f.ended in
    let mine : List HistoryMinute = span_minutes rule start (went p.log done).told closed (t ∷ span) in
    let legs = closed-on rule first p.log later (take p.unfound p.log.breaks) facts.4 (take p.unfound later.breaks) f.ended (t ∷ span) (cut_last (t ∷ span)) p.book p.book g.before (λ u tells. ap (tells_cut u) facts.3 ∙ tells)
    (λ one. (sym (ap (λ (k : ℕ). nat_lt 1 k) (length-cut (t ∷ span))) ∙ one, refl))
    (subst (λ (es : List (List ToldSecond)). AreClosedLegs rule first p.log (take p.unfound p.log.breaks) es (t ∷ span) p.book g.before) same l.legs.earlier) in
    let ended = cut-legs rule start from first done later p.unfound p.next (cut_last (t ∷ span)) (solid-cut t span) p.book None [] core (p.next - 1) facts.0 facts.1 facts.2 g
    (subst (λ (es : List (List ToldSecond)). AreClosedLegs rule first later (take p.unfound later.breaks) es (cut_last (t ∷ span)) p.book g.before) now legs)
    (decided_of rule (cut_last (t ∷ span))) None [] (sym (append-nil (decided_of rule (cut_last (t ∷ span)))))
    closed mine (sym (f.tied.minutes ∙ append-nil p.book.sure))
    (subst (λ (ds : List Minute). AreAs mine ds) (sym (decided-cut rule (t ∷ span))) (as-after start (went p.log done).told closed (decided_of rule (t ∷ span))))
    refl refl (l.legs.sure ∙ ap travelled_by (sym (decided-cut rule (t ∷ span)))) l.legs.none in
    record {
      ended = core.ended ++ cut_last (t ∷ span) ∷ [];
      spans = off-spans later (suc n) done p.next ∙ spans ∙ ap (λ (es : List (List ToldSecond)). es ++ cut_last (t ∷ span) ∷ []) now ∙ sym (append-nil (core.ended ++ cut_last (t ∷ span) ∷ []));
      legs = ended;
      begun = λ e at. reckoned-on rule p.log later (take p.unfound p.log.breaks) (take p.unfound later.breaks) (spans_of (went p.log done).told) (spans_of (went later (done ++ dark (suc n) p.next)).told) facts.4
          (λ u tells. ap (tells_cut u) facts.3 ∙ tells)
          (last-on rule f.ended (t ∷ span) (cut_last (t ∷ span)) (spans_of (went p.log done).told) (spans_of (went later (done ++ dark (suc n) p.next)).told) f.spans (off-spans later (suc n) done p.next ∙ spans)
          (λ m there. subst (λ (ms : List Minute). Contains ms m) (sym (decided-cut rule (t ∷ span))) there)) e (l.begun e at);
    }

-- AT ANY MOMENT: whatever the unit may show, these are the legs of its spans
module _ (rule : Rule) (start : Start) (from first : ℕ) (done : List TraceSecond) (p : Progress) (nothing_waits : p.waiting ≡ []) (g : Travel) (k leg : ℕ) (shown : MayShow first p.book g k leg) where
  abbrev seconds : List ToldSecond
  seconds = (went p.log done).told

  abbrev AreShown : List (List ToldSecond) → Type 0
  AreShown spans = (legs : List ℕ) × AreLegs rule (limit_of p.log) k spans legs × (kilometres_of legs ≡ kilometres_of (g.before ++ leg ∷ []))

  sure-leg : (ds : List Minute) → g.sure ≡ travelled_by ds → g.maybe ≡ None → leg ≡ travelled_by ds
  sure-leg ds sure none = ⊎_elim (λ (is : leg ≡ g.sure). is ∙ sure) (λ (is : g.maybe ≡ Some leg). absurd (let other : None ≡ Some leg = sym none ∙ is in cc)) shown.side

  none-on : (ended : List (List ToldSecond)) → AreShutLegs rule first p.log (take p.unfound p.log.breaks) ended [] p.book g → AreShown ended
  none-on ended s =
      let zero_ = sure-leg (decided_of rule []) s.sure s.none ∙ ap travelled_by (decided-empty rule) in
      (s.earlier.legs, s.earlier.so_far refl k shown.mark shown.low, s.earlier.sums ∙ sym (kilometres-none g.before leg zero_))

  ended-shown : (ended : List (List ToldSecond)) → AreEndedLegs rule first p.log (take p.unfound p.log.breaks) ended p.book g → AreShown ended
  ended-shown ended (inl s) = none-on ended s
  ended-shown ended (inr o) = (
    o.legs ++ leg ∷ nothing_of o.short,
    subst (λ (ss : List (List ToldSecond)). AreLegs rule (limit_of p.log) k ss (o.legs ++ leg ∷ nothing_of o.short)) (sym o.are)
        (whole-legs rule p.log (take p.unfound p.log.breaks) o.front o.span o.short o.legs k leg o.known o.long o.none o.nothing o.closed (o.leg k leg shown)),
    kilometres-leg o.legs g.before leg o.short o.sums,
  )

  at-spans : (spans : List (List ToldSecond)) → spans_of seconds ≡ spans → AreShown spans → AreShown (spans_of seconds)
  at-spans spans are s = subst AreShown (sym are) s

  -- the span that goes on: its minutes are all kept
  module _ (t : ToldSecond) (span : List ToldSecond) (f : BookFollowsRun rule start from first done (record p { supply = Lit (t ∷ span) })) (h : HasLegs rule first done (record p { supply = Lit (t ∷ span) }) g) where
    all-low : All (λ (d : Minute). d.minute ≤ k) (decided_of rule (t ∷ span))
    all-low =
        let closed : List HistoryMinute = closed_history rule start p.log seconds f.ended in
        let sure = f.tied.minutes ∙ ap (λ (w : List HistoryMinute). p.book.sure ++ w) nothing_waits ∙ append-nil p.book.sure in
        as-all (λ m. m ≤ k) (span_minutes rule start seconds closed (t ∷ span)) (decided_of rule (t ∷ span)) (as-after start seconds closed (decided_of rule (t ∷ span)))
        (all-back (λ (i : HistoryMinute). i.minute ≤ k) closed (span_minutes rule start seconds closed (t ∷ span)) (subst (All (λ (i : HistoryMinute). i.minute ≤ k)) (sym sure) shown.low))

    own-leg : IsLeg k (decided_of rule (t ∷ span)) leg
    own-leg =
        subst (λ (ds : List Minute). IsLeg k ds leg) (append-nil (decided_of rule (t ∷ span)))
        (leg-kept k (decided_of rule (t ∷ span)) [] leg all-low (All-nil (λ (d : Minute). k < d.minute)) (sure-leg (decided_of rule (t ∷ span)) h.legs.sure h.legs.none))

    lit-legs : (b : Bool) → nat_lt 1 (length (t ∷ span)) ≡ b → AreLegs rule (limit_of p.log) k (h.ended ++ (t ∷ span) ∷ []) (h.legs.earlier.legs ++ leg ∷ [])
    lit-legs true long = whole-legs rule p.log (take p.unfound p.log.breaks) h.ended (t ∷ span) [] h.legs.earlier.legs k leg h.legs.earlier.known long refl tt h.legs.earlier.closed own-leg
    lit-legs false one =
        legs-parts rule (limit_of p.log) k h.ended ((t ∷ span) ∷ []) h.legs.earlier.legs (leg ∷ [])
        (legs-agree rule (λ s later. limit_of p.log s (later ++ (t ∷ span) ∷ [])) (limit_of p.log) k h.ended h.legs.earlier.legs
        (agree-open p.log ((t ∷ span) ∷ []) (ap (λ (b : Bool). b || false) one) h.ended) (h.legs.earlier.so_far one k shown.mark shown.low))
        (own-leg, refl)

    lit-shown : AreShown (spans_of seconds)
    lit-shown = at-spans (h.ended ++ (t ∷ span) ∷ []) h.spans (h.legs.earlier.legs ++ leg ∷ [], lit-legs (nat_lt 1 (length (t ∷ span))) refl, kilometres-leg h.legs.earlier.legs g.before leg [] h.legs.earlier.sums)

  pub shown-by : (s : UnitPower) → BookFollowsRun rule start from first done (record p { supply = s }) → HasLegs rule first done (record p { supply = s }) g → AreShown (spans_of seconds)
  shown-by (Lit []) f h = at-spans h.ended (h.spans ∙ append-nil h.ended) (none-on h.ended h.legs)
  shown-by (Lit (t ∷ span)) f h = lit-shown t span f h
  shown-by Due f h = at-spans h.ended (h.spans ∙ append-nil h.ended) (ended-shown h.ended h.legs)
  shown-by Lost f h = at-spans h.ended (h.spans ∙ append-nil h.ended) (ended-shown h.ended h.legs)

pub legs-shown : ShownLegsAreThose
legs-shown rule start from first done p f none g h k leg shown = shown-by rule start from first done p none g k leg shown p.supply f h
