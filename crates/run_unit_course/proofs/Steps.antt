-- THE STEPS of a run of a unit alone, each from what is followed before it to what is followed behind it.
use Rattle.std.proofs.Common.{◌≡◌, inl, ⊎_elim, ℕ, suc, ◌+◌, ◌-◌, ◌%◌, ◌/◌, ◌<◌, ◌≤◌, Bool, true, false, nat_eq, Option, Some, None, List, [], ◌∷◌, ◌++◌, All, length, map, take, fold, refl, ap, sym, subst, ◌∙◌, arith, append-nil}
use Rattle.std.specs.Prelude.{option_to_list, option_map}
use Rattle.std.specs.List.{AllByRecursion}
use Rattle.std.proofs.lemmas.Bool.Decides.{nat_tests}
use Rattle.std.proofs.lemmas.List.{map-append}
use Rattle.activity_codec.specs.declared.values.Slot.{Slot}
use Rattle.activity_codec.specs.declared.values.Pick.{Pick}
use Rattle.trace_model.specs.declared.Action.{Action}
use Rattle.trace_model.specs.Trace.{TraceSecond, driven, dark}
use Rattle.minute_model.specs.declared.Rule.{Rule}
use Rattle.minute_model.specs.declared.Minute.{Minute}
use Rattle.minute_model.specs.Span.{fed_many, decided_in}
use Rattle.run_model.specs.Span.{picks_of}
use Rattle.log_model.specs.declared.lines.Break.{Break}
use Rattle.log_model.specs.declared.lines.Refused.{Refused}
use Rattle.log_model.specs.Log.{RunLog, Phase, cut_in, kept_after, is_torn_in, found_in}
use Rattle.log_model.specs.Same.{SameAt}
use Rattle.log_model.proofs.Growth.{went-same}
use Rattle.log_model.specs.Course.{ToldSecond, Went, Before, has_power, went_on, went}
use Rattle.log_model.specs.Spans.{spans_of, AreInOrder}
use Rattle.history_model.specs.Minutes.{HistoryMinute}
use Rattle.history_model.specs.Presence.{Start}
use Rattle.history_model.specs.History.{cut_second, limit_by, unit_history, with_lost}
use Rattle.history_model.specs.Growth.{picking, SameLimits}
use Rattle.history_model.proofs.BySeconds.{same-history, same-lost}
use Rattle.minute_model.specs.Activity.{last}
use Rattle.history_model.specs.Book.{Book, all, not_begun, kept, found, Follows, IsMark}
use Rattle.run_unit_course.specs.Turn.{IsSelection, empty_slots, lit_seconds, span_at, begins_with, actions_of_last}
use Rattle.run_unit_course.specs.Lines.{log_of, cut_at, found_from}
use Rattle.run_unit_course.specs.Keeping.{plain, kept_all, broken_at}
use Rattle.run_unit_course.specs.Followed.{UnitPower, Lit, Due, Lost, Progress, Comes, lost_before, IsShut, BookFollowsUnitRun, MayPower, MayFail, IsDark}
use Rattle.run_unit_course.proofs.Lines.{all-numbered}
use Rattle.run_unit_course.proofs.Turns.{given_second, off_before, lost-goes, off-goes, went-parts}
use Rattle.run_unit_course.proofs.Alike.{decided-empty}
use Rattle.run_unit_course.proofs.Parts.{follows-same, driven-order, driven-length, dark-order, dark-length}
use Rattle.run_unit_course.proofs.Resting.{Resting, rest-dark, rest-failed, rest-found, found-now, found-told}
use Rattle.run_unit_course.proofs.Lighted.{span-end, seen, feeds, keeps}
use Rattle.run_unit_course.proofs.Cutting.{ends}

-- WITHOUT POWER
as-lost : (rule : Rule) (start : Start) (from first : ℕ) (done : List TraceSecond) (breaks : List Break) (unfound next begun : ℕ) (b : Book) → Resting rule start from first done breaks unfound next b → (went (log_of breaks) done).before ≡ lost_before →
    BookFollowsUnitRun rule start from first done (record { breaks = breaks; unfound = unfound; next = next; begun = begun; supply = Lost; book = b; waiting = [] })
as-lost rule start from first done breaks unfound next begun b r is = record {
  early = r.early;
  order = r.order;
  next = r.number;
  breaks = r.cuts;
  unfound = r.within;
  plain = r.plain;
  power = is;
  last = tt;
  ended = r.ended;
  spans = r.spans;
  tied = (refl, r.tied);
  follows = r.follows;
}

as-due : (rule : Rule) (start : Start) (from first : ℕ) (done : List TraceSecond) (breaks : List Break) (unfound next begun : ℕ) (b : Book) → Resting rule start from first done breaks unfound next b → ((n : ℕ) → Comes (went (log_of breaks) done).before n) →
    BookFollowsUnitRun rule start from first done (record { breaks = breaks; unfound = unfound; next = next; begun = begun; supply = Due; book = b; waiting = [] })
as-due rule start from first done breaks unfound next begun b r comes = record {
  early = r.early;
  order = r.order;
  next = r.number;
  breaks = r.cuts;
  unfound = r.within;
  plain = r.plain;
  power = comes;
  last = tt;
  ended = r.ended;
  spans = r.spans;
  tied = (refl, r.tied);
  follows = r.follows;
}

module _ (rule : Rule) (start : Start) (from first : ℕ) (done : List TraceSecond) (p : Progress) where
  pub rests-due : BookFollowsUnitRun rule start from first done (record p { supply = Due }) → Resting rule start from first done p.breaks p.unfound p.next p.book
  rests-due f = record { early = f.early; order = f.order; number = f.next; cuts = f.breaks; within = f.unfound; plain = f.plain; ended = f.ended; spans = f.spans; tied = f.tied.1; follows = f.follows }

  pub rests-lost : BookFollowsUnitRun rule start from first done (record p { supply = Lost }) → Resting rule start from first done p.breaks p.unfound p.next p.book
  rests-lost f = record { early = f.early; order = f.order; number = f.next; cuts = f.breaks; within = f.unfound; plain = f.plain; ended = f.ended; spans = f.spans; tied = f.tied.1; follows = f.follows }

  pub rests-lit : BookFollowsUnitRun rule start from first done (record p { supply = Lit [] }) → Resting rule start from first done p.breaks p.unfound p.next p.book
  rests-lit f =
      let wait = ⊎_elim (λ (e : p.waiting ≡ []). e) (λ long. absurd (let no : false ≡ true = long in cc)) f.tied.whole in
      record {
        early = f.early;
        order = f.order;
        number = f.next;
        cuts = f.breaks;
        within = f.unfound;
        plain = f.plain;
        ended = f.ended;
        spans = f.spans;
        tied = inl (subst (λ (w : List HistoryMinute). IsShut rule start p.breaks (take p.unfound p.breaks) (went (log_of p.breaks) done).told f.ended [] p.book w) wait f.tied);
        follows = f.follows;
      }

  pub lost-comes : (before : Before) → before ≡ lost_before → p.next % 60 ≡ 0 → Comes before p.next
  lost-comes before is minute = record {
    running = ap (λ (b : Before). b.running) is;
    comes = ap (λ (b : Before). has_power b (given_second p.next 0 [])) is ∙ now;
    slots = ap (λ (b : Before). b.slots) is;
  }
    where
      now : has_power lost_before (given_second p.next 0 []) ≡ true
      now = let e : nat_eq (p.next % 60) 0 ≡ true = grind (arith, nat_tests) in rw e refl

  powered-at : (k : ℕ) → IsMark first (all p.book) k → All (λ i. i.minute ≤ k) p.book.sure → Resting rule start from first done p.breaks p.unfound p.next p.book → Comes (went (log_of p.breaks) done).before p.next →
      BookFollowsUnitRun rule start from first done (record {
        breaks = found_from p.unfound k p.breaks;
        unfound = length (found_from p.unfound k p.breaks);
        next = p.next;
        begun = p.begun;
        supply = Lit [];
        book = found k p.book;
        waiting = [];
      })
  powered-at k mark low r comes =
      let f = rest-found rule start from first done p.breaks p.unfound p.next p.book r k mark low in
      let now = found-now rule start from first done p.breaks p.unfound p.next p.book r k mark low in
      record {
        early = f.early;
        order = f.order;
        next = f.number;
        breaks = f.cuts;
        unfound = f.within;
        plain = f.plain;
        power = subst (λ (w : Went). Comes w.before p.next) (sym (found-told rule start from first done p.breaks p.unfound p.next p.book r k mark low)) comes;
        last = tt;
        ended = now.0;
        spans = now.1;
        tied = now.2;
        follows = f.follows;
      }

  powered-by : (s : UnitPower) → MayPower s p.next → BookFollowsUnitRun rule start from first done (record p { supply = s }) → (k : ℕ) → IsMark first (all p.book) k → All (λ i. i.minute ≤ k) p.book.sure →
      BookFollowsUnitRun rule start from first done (record {
        breaks = found_from p.unfound k p.breaks;
        unfound = length (found_from p.unfound k p.breaks);
        next = p.next;
        begun = p.begun;
        supply = Lit [];
        book = found k p.book;
        waiting = [];
      })
  powered-by (Lit span) may f k mark low = absurd may
  powered-by Due may f k mark low = powered-at k mark low (rests-due f) (f.power p.next)
  powered-by Lost may f k mark low = powered-at k mark low (rests-lost f) (lost-comes (went (log_of p.breaks) done).before f.power may)

  -- power is back, and it is found what was kept: the span begins with the next second
  pub powered : BookFollowsUnitRun rule start from first done p → MayPower p.supply p.next → (k : ℕ) → IsMark first (all p.book) k → All (λ i. i.minute ≤ k) p.book.sure →
      BookFollowsUnitRun rule start from first done (record {
        breaks = found_from p.unfound k p.breaks;
        unfound = length (found_from p.unfound k p.breaks);
        next = p.next;
        begun = p.begun;
        supply = Lit [];
        book = found k p.book;
        waiting = [];
      })
  powered f may k mark low = powered-by p.supply may f k mark low

  fails-at : Resting rule start from first done p.breaks p.unfound p.next p.book → Comes (went (log_of p.breaks) done).before p.next → (n speed : ℕ) (actions : List Action) (begun : ℕ) → p.next % 60 + suc n ≤ 60 → AllByRecursion IsSelection actions →
      BookFollowsUnitRun rule start from first (done ++ driven (suc n) p.next speed actions)
      (record { breaks = p.breaks ++ cut_at p.next true 0 ∷ []; unfound = p.unfound; next = p.next + suc n; begun = begun; supply = Lost; book = p.book; waiting = [] })
  fails-at r comes n speed actions begun within each =
      let on = rest-failed rule start from first done p.breaks p.unfound p.next p.book r comes n speed actions within each in
      as-lost rule start from first (done ++ driven (suc n) p.next speed actions) (p.breaks ++ cut_at p.next true 0 ∷ []) p.unfound (p.next + suc n) begun p.book on.0 on.1

  powers-by : (s : UnitPower) → MayFail s p.next → BookFollowsUnitRun rule start from first done (record p { supply = s }) → (n speed : ℕ) (actions : List Action) (begun : ℕ) → p.next % 60 + suc n ≤ 60 → AllByRecursion IsSelection actions →
      BookFollowsUnitRun rule start from first (done ++ driven (suc n) p.next speed actions)
      (record { breaks = p.breaks ++ cut_at p.next true 0 ∷ []; unfound = p.unfound; next = p.next + suc n; begun = begun; supply = Lost; book = p.book; waiting = [] })
  powers-by (Lit []) may f = fails-at (rests-lit f) f.power
  powers-by (Lit (t ∷ span)) may f = absurd may
  powers-by Due may f = fails-at (rests-due f) (f.power p.next)
  powers-by Lost may f = fails-at (rests-lost f) (lost-comes (went (log_of p.breaks) done).before f.power may)

  -- a call of the power-on fails, in the first of these seconds of a minute: none of its actions is carried out, and the others are dark
  pub powers_not : BookFollowsUnitRun rule start from first done p → MayFail p.supply p.next → (n speed : ℕ) (actions : List Action) (begun : ℕ) → p.next % 60 + suc n ≤ 60 → AllByRecursion IsSelection actions →
      BookFollowsUnitRun rule start from first (done ++ driven (suc n) p.next speed actions)
      (record { breaks = p.breaks ++ cut_at p.next true 0 ∷ []; unfound = p.unfound; next = p.next + suc n; begun = begun; supply = Lost; book = p.book; waiting = [] })
  powers_not f may = powers-by p.supply may f

  -- after a failed call, within a minute that has begun: no power
  pub stays_dark : BookFollowsUnitRun rule start from first done p → p.supply ≡ Lost → (n speed : ℕ) (actions : List Action) (begun : ℕ) → 0 < p.next % 60 → p.next % 60 + n ≤ 60 →
      BookFollowsUnitRun rule start from first (done ++ driven n p.next speed actions) (record { breaks = p.breaks; unfound = p.unfound; next = p.next + n; begun = begun; supply = Lost; book = p.book; waiting = [] })
  stays_dark g is n speed actions begun some within =
      let f = subst (λ (s : UnitPower). BookFollowsUnitRun rule start from first done (record p { supply = s })) is g in
      let r = rests-lost f in
      let goes = ap (λ (b : Before). fold (went_on (log_of p.breaks)) (record { told = (went (log_of p.breaks) done).told; before = b }) (driven n p.next speed actions)) f.power
      ∙ lost-goes (log_of p.breaks) (went (log_of p.breaks) done).told n p.next speed actions some within in
      as-lost rule start from first (done ++ driven n p.next speed actions) p.breaks p.unfound (p.next + n) begun p.book
      (rest-dark rule start from first done p.breaks p.unfound p.next p.book r (driven n p.next speed actions) lost_before n speed true actions goes
      (subst (λ (m : ℕ). AreInOrder m (driven n p.next speed actions)) r.number (driven-order n p.next speed actions)) (driven-length n p.next speed actions))
      (ap (λ (w : Went). w.before) (went-parts (log_of p.breaks) done (driven n p.next speed actions) ∙ goes))

  off-at : Resting rule start from first done p.breaks p.unfound p.next p.book → (went (log_of p.breaks) done).before.slots ≡ empty_slots → (n : ℕ) →
      BookFollowsUnitRun rule start from first (done ++ dark (suc n) p.next) (record { breaks = p.breaks; unfound = p.unfound; next = p.next + suc n; begun = 0; supply = Due; book = p.book; waiting = [] })
  off-at r slots n =
      let goes = off-goes (log_of p.breaks) (went (log_of p.breaks) done).told (went (log_of p.breaks) done).before n p.next slots in
      as-due rule start from first (done ++ dark (suc n) p.next) p.breaks p.unfound (p.next + suc n) 0 p.book
      (rest-dark rule start from first done p.breaks p.unfound p.next p.book r (dark (suc n) p.next) (off_before (went (log_of p.breaks) done).before.gone) (suc n) 0 false [] goes
      (subst (λ (m : ℕ). AreInOrder m (dark (suc n) p.next)) r.number (dark-order (suc n) p.next)) (dark-length (suc n) p.next))
      (λ m. subst (λ (w : Went). Comes w.before m) (sym (went-parts (log_of p.breaks) done (dark (suc n) p.next) ∙ goes)) (record { running = refl; comes = again (went (log_of p.breaks) done).before.gone m; slots = refl }))
    where
      again : (gone : Bool) (m : ℕ) → has_power (off_before gone) (record { number = m; has_power = true; speed = 0; actions = [] }) ≡ true
      again false m = refl
      again true m = go (nat_eq (m % 60) 0) refl
        where
          go : (b : Bool) → nat_eq (m % 60) 0 ≡ b → has_power (off_before true) (record { number = m; has_power = true; speed = 0; actions = [] }) ≡ true
          go true e = rw e refl
          go false e = rw e refl

  off-by : (s : UnitPower) → IsDark s → BookFollowsUnitRun rule start from first done (record p { supply = s }) → (n : ℕ) →
      BookFollowsUnitRun rule start from first (done ++ dark (suc n) p.next) (record { breaks = p.breaks; unfound = p.unfound; next = p.next + suc n; begun = 0; supply = Due; book = p.book; waiting = [] })
  off-by (Lit span) is f = absurd is
  off-by Due is f = off-at (rests-due f) (f.power 0).slots
  off-by Lost is f = off-at (rests-lost f) (ap (λ (b : Before). b.slots) f.power)

  -- an `off` line of a second at least, while there is no power
  pub goes_off : BookFollowsUnitRun rule start from first done p → IsDark p.supply → (n : ℕ) →
      BookFollowsUnitRun rule start from first (done ++ dark (suc n) p.next) (record { breaks = p.breaks; unfound = p.unfound; next = p.next + suc n; begun = 0; supply = Due; book = p.book; waiting = [] })
  goes_off f is = off-by p.supply is f

-- WITH POWER
pub keeps-all : (rule : Rule) (start : Start) (from first : ℕ) (done : List TraceSecond) (p : Progress) (t : ToldSecond) (span : List ToldSecond) (front : List Minute) (rest : List HistoryMinute) →
    BookFollowsUnitRun rule start from first done (record p { supply = Lit (t ∷ span); waiting = map plain front ++ rest }) → BookFollowsUnitRun rule start from first done (record p { supply = Lit (t ∷ span); book = kept_all front p.book; waiting = rest })
keeps-all rule start from first done p t span [] rest f = f
keeps-all rule start from first done p t span (d ∷ front) rest f =
    keeps-all rule start from first done (record p { book = kept (plain d) p.book }) t span front rest (keeps rule start from first done p t span (plain d) (map plain front ++ rest) f)

module _ (rule : Rule) (start : Start) (from first : ℕ) (done : List TraceSecond) (p : Progress) (n speed : ℕ) (actions : List Action) (each : AllByRecursion IsSelection actions) (new : List Minute) where
  abbrev ss : List TraceSecond
  ss = driven (suc n) p.next speed actions

  -- what is fed of a turn
  pub feeds-by : (span : List ToldSecond) → BookFollowsUnitRun rule start from first done (record p { supply = Lit span }) → p.waiting ≡ [] →
      decided_in (fed_many (picking (picks_of actions) (span_at rule p.next span)) speed (suc n)) ≡ decided_in (span_at rule p.next span) ++ new →
      (t : ToldSecond) × (longer : List ToldSecond) × (span ++ lit_seconds (suc n) p.next speed (picks_of actions) (begins_with span) ≡ t ∷ longer)
      × BookFollowsUnitRun rule start from first (done ++ ss) (record p { next = p.next + suc n; begun = length (actions_of_last (suc n) actions); supply = Lit (t ∷ longer); waiting = map plain new })
  feeds-by [] f none decides = (_, _, refl, feeds rule start from first done p [] f n speed actions each _ _ refl none new decides (λ e. absurd (cc)))
  feeds-by (t ∷ span) f none decides = (
    t,
    span ++ lit_seconds (suc n) p.next speed (picks_of actions) false,
    refl,
    feeds rule start from first done p (t ∷ span) f n speed actions each t (span ++ lit_seconds (suc n) p.next speed (picks_of actions) false) refl none new decides
        (λ e. span-end (log_of p.breaks) from done f.ended t span p.next f.order f.next f.power f.spans),
  )

  -- a turn of seconds with power, of which all decided minutes are kept
  pub turned : BookFollowsUnitRun rule start from first done p → (span : List ToldSecond) → p.supply ≡ Lit span → p.waiting ≡ [] →
      decided_in (fed_many (picking (picks_of actions) (span_at rule p.next span)) speed (suc n)) ≡ decided_in (span_at rule p.next span) ++ new →
      BookFollowsUnitRun rule start from first (done ++ ss) (record {
        breaks = p.breaks;
        unfound = p.unfound;
        next = p.next + suc n;
        begun = length (actions_of_last (suc n) actions);
        supply = Lit (span ++ lit_seconds (suc n) p.next speed (picks_of actions) (begins_with span));
        book = kept_all new p.book;
        waiting = [];
      })
  turned g span is none decides =
      let f = subst (λ (s : UnitPower). BookFollowsUnitRun rule start from first done (record p { supply = s })) is g in
      let on = feeds-by span f none decides in
      let q : Progress = record p { next = p.next + suc n; begun = length (actions_of_last (suc n) actions) } in
      subst (λ (s : List ToldSecond). BookFollowsUnitRun rule start from first (done ++ ss) (record { breaks = p.breaks; unfound = p.unfound; next = p.next + suc n; begun = length (actions_of_last (suc n) actions); supply = Lit s; book = kept_all new p.book; waiting = [] })) (sym on.2)
      (keeps-all rule start from first (done ++ ss) q on.0 on.1 new [] (subst (λ (w : List HistoryMinute). BookFollowsUnitRun rule start from first (done ++ ss) (record q { supply = Lit (on.0 ∷ on.1); waiting = w })) (sym (append-nil (map plain new))) on.3))

  -- a turn of seconds with power, in whose last one a call fails: these minutes are kept, one may be, or none was begun
  pub breaks_off : BookFollowsUnitRun rule start from first done p → (span : List ToldSecond) → p.supply ≡ Lit span → p.waiting ≡ [] →
      decided_in (fed_many (picking (picks_of actions) (span_at rule p.next span)) speed (suc n)) ≡ decided_in (span_at rule p.next span) ++ new →
      (front : List Minute) (d : Option Minute) (rest : List Minute) → new ≡ front ++ (option_to_list d ++ rest) → (failed : Bool) →
      BookFollowsUnitRun rule start from first (done ++ ss) (record {
        breaks = p.breaks ++ cut_at (p.next + suc n - 1) failed (length (actions_of_last (suc n) actions)) ∷ [];
        unfound = p.unfound;
        next = p.next + suc n;
        begun = length (actions_of_last (suc n) actions);
        supply = Lost;
        book = broken_at (option_map {T = Minute} plain d) (kept_all front p.book);
        waiting = [];
      })
  breaks_off g span is none decides front d rest are failed =
      let f = subst (λ (s : UnitPower). BookFollowsUnitRun rule start from first done (record p { supply = s })) is g in
      let on = feeds-by span f none decides in
      let q : Progress = record p { next = p.next + suc n; begun = length (actions_of_last (suc n) actions) } in
      let waits = ap (map plain) are ∙ map-append plain front (option_to_list d ++ rest) ∙ ap (λ (w : List HistoryMinute). map plain front ++ w) (map-append plain (option_to_list d) rest ∙ ap (λ (w : List HistoryMinute). w ++ map plain rest) (one d)) in
      let kept_front = keeps-all rule start from first (done ++ ss) q on.0 on.1 front (option_to_list (option_map {T = Minute} plain d) ++ map plain rest) (subst (λ (w : List HistoryMinute). BookFollowsUnitRun rule start from first (done ++ ss) (record q { supply = Lit (on.0 ∷ on.1); waiting = w })) waits on.3) in
      let cut = ends rule start from first (done ++ ss) (record q { book = kept_all front p.book; waiting = option_to_list (option_map {T = Minute} plain d) ++ map plain rest }) on.0 on.1 kept_front failed (option_map {T = Minute} plain d) (map plain rest) refl in
      as-lost rule start from first (done ++ ss) (p.breaks ++ cut_at (p.next + suc n - 1) failed (length (actions_of_last (suc n) actions)) ∷ []) p.unfound (p.next + suc n) (length (actions_of_last (suc n) actions)) (broken_at (option_map {T = Minute} plain d) (kept_all front p.book)) cut.0 cut.1
    where
      one : (o : Option Minute) → map plain (option_to_list o) ≡ option_to_list (option_map {T = Minute} plain o)
      one None = refl
      one (Some d) = refl

-- power is lost in the last second so far, behind all of its actions, and no minute waits
pub cut_now : (rule : Rule) (start : Start) (from first : ℕ) (done : List TraceSecond) (p : Progress) → BookFollowsUnitRun rule start from first done p → (t : ToldSecond) (span : List ToldSecond) → p.supply ≡ Lit (t ∷ span) → p.waiting ≡ [] → (failed : Bool) →
    BookFollowsUnitRun rule start from first done
    (record { breaks = p.breaks ++ cut_at (p.next - 1) failed p.begun ∷ []; unfound = p.unfound; next = p.next; begun = p.begun; supply = Lost; book = p.book; waiting = [] })
cut_now rule start from first done p g t span is none failed =
    let f = subst (λ (s : UnitPower). BookFollowsUnitRun rule start from first done (record p { supply = s })) is g in
    let cut = ends rule start from first done p t span f failed None [] none in
    as-lost rule start from first done (p.breaks ++ cut_at (p.next - 1) failed p.begun ∷ []) p.unfound p.next p.begun p.book cut.0 cut.1

-- an `off` line of a second at least, while there is power: its last second turns out to be a cut's
pub cut_off : (rule : Rule) (start : Start) (from first : ℕ) (done : List TraceSecond) (p : Progress) → BookFollowsUnitRun rule start from first done p → (t : ToldSecond) (span : List ToldSecond) → p.supply ≡ Lit (t ∷ span) → p.waiting ≡ [] → (n : ℕ) →
    BookFollowsUnitRun rule start from first (done ++ dark (suc n) p.next)
    (record { breaks = p.breaks ++ cut_at (p.next - 1) false p.begun ∷ []; unfound = p.unfound; next = p.next + suc n; begun = 0; supply = Due; book = p.book; waiting = [] })
cut_off rule start from first done p g t span is none n =
    goes_off rule start from first done (record { breaks = p.breaks ++ cut_at (p.next - 1) false p.begun ∷ []; unfound = p.unfound; next = p.next; begun = p.begun; supply = Lost; book = p.book; waiting = [] })
    (cut_now rule start from first done p g t span is none false) tt n

-- AT THE START
pub begins : (rule : Rule) (start : Start) (from first : ℕ) → first < from / 60 →
    BookFollowsUnitRun rule start from first [] (record { breaks = []; unfound = 0; next = from; begun = 0; supply = Due; book = not_begun; waiting = [] })
unfolding went spans_of unit_history with_lost
begins rule start from first early = record {
  early = early;
  order = tt;
  next = omega arith;
  breaks = tt;
  unfound = omega arith;
  plain = tt;
  power = λ n. record { running = refl; comes = refl; slots = refl };
  last = tt;
  ended = [];
  spans = refl;
  tied = (
    refl,
    inl (record {
      known = tt;
      none = refl;
      minutes = ap (map plain) (decided-empty rule);
      begins = ([], refl);
      whole = inl refl;
      lost = λ past at. absurd (omega (arith, at.1));
    }),
  );
  follows = record { front = ([], refl); each = λ past at. absurd (omega (arith, at.1)) };
}

-- AT ANY MOMENT
pub rules_see_the_turn : (rule : Rule) (start : Start) (from first : ℕ) (done : List TraceSecond) (p : Progress) → BookFollowsUnitRun rule start from first done p → (span : List ToldSecond) → p.supply ≡ Lit span → (n speed : ℕ) (picks : List (Slot × Pick)) →
    span_at rule (p.next + suc n) (span ++ lit_seconds (suc n) p.next speed picks (begins_with span)) ≡ fed_many (picking picks (span_at rule p.next span)) speed (suc n)
rules_see_the_turn rule start from first done p g span is n speed picks =
    go span (subst (λ (s : UnitPower). BookFollowsUnitRun rule start from first done (record p { supply = s })) is g)
  where
    go : (span : List ToldSecond) → BookFollowsUnitRun rule start from first done (record p { supply = Lit span }) →
        span_at rule (p.next + suc n) (span ++ lit_seconds (suc n) p.next speed picks (begins_with span)) ≡ fed_many (picking picks (span_at rule p.next span)) speed (suc n)
    go [] f = seen rule p.next [] n speed picks (λ e. absurd (cc))
    go (t ∷ span) f = seen rule p.next (t ∷ span) n speed picks (λ e. span-end (log_of p.breaks) from done f.ended t span p.next f.order f.next f.power f.spans)

-- refused actions change nothing of how the seconds went, nor of what was kept
abbrev refusing : List Break → List Refused → RunLog
refusing breaks refused = record { breaks = breaks; refused = refused; finds = [] }

cut-refusing : (breaks : List Break) (refused : List Refused) (u : ℕ) → cut_in (refusing breaks refused) u ≡ cut_in (log_of breaks) u
unfolding cut_in
cut-refusing breaks refused u = refl

torn-refusing : (breaks : List Break) (refused : List Refused) (u : ℕ) (p : Phase) (slot : Slot) → is_torn_in (refusing breaks refused) u p slot ≡ is_torn_in (log_of breaks) u p slot
unfolding is_torn_in
torn-refusing breaks refused u p slot = refl

found-refusing : (breaks : List Break) (refused : List Refused) (u : ℕ) (p : Phase) (slot : Slot) → found_in (refusing breaks refused) u p slot ≡ found_in (log_of breaks) u p slot
unfolding found_in
found-refusing breaks refused u p slot = refl

kept-refusing : (breaks : List Break) (refused : List Refused) (u : ℕ) → kept_after (refusing breaks refused) u ≡ kept_after (log_of breaks) u
unfolding kept_after
kept-refusing breaks refused u = refl

pub went-refusing : (breaks : List Break) (refused : List Refused) (ss : List TraceSecond) → went (refusing breaks refused) ss ≡ went (log_of breaks) ss
went-refusing breaks refused ss =
    went-same (log_of breaks) (refusing breaks refused) ss
    (all-numbered (λ (u : ℕ). SameAt (log_of breaks) (refusing breaks refused) u) ss (λ u. record { cut = cut-refusing breaks refused u; torn = torn-refusing breaks refused u; found = found-refusing breaks refused u }))

pub limits-refusing : (breaks : List Break) (refused : List Refused) (spans : List (List ToldSecond)) → SameLimits (log_of breaks) (refusing breaks refused) spans
limits-refusing breaks refused [] = tt
limits-refusing breaks refused (span ∷ spans) = (λ long. by (cut_second (last span)), limits-refusing breaks refused spans)
  where
    by : (o : Option ℕ) → limit_by (refusing breaks refused) o ≡ limit_by (log_of breaks) o
    by None = refl
    by (Some u) = ap (λ (k : ℕ). Some k) (kept-refusing breaks refused u)

-- the book follows the history of the run so far, whatever was refused
pub is_followed : (rule : Rule) (start : Start) (from first : ℕ) (done : List TraceSecond) (p : Progress) → BookFollowsUnitRun rule start from first done p → (refused : List Refused) →
    let log : RunLog = record { breaks = p.breaks; refused = refused; finds = [] } in
    Follows (unit_history rule start log (went log done).told) (with_lost rule start log (went log done).told) p.book
is_followed rule start from first done p f refused =
    let told = (went (log_of p.breaks) done).told in
    let same = ap (λ (w : Went). w.told) (went-refusing p.breaks refused done) in
    subst (λ (ts : List ToldSecond). Follows (unit_history rule start (refusing p.breaks refused) ts) (with_lost rule start (refusing p.breaks refused) ts) p.book) (sym same)
    (follows-same (unit_history rule start (log_of p.breaks) told) (unit_history rule start (refusing p.breaks refused) told) (with_lost rule start (log_of p.breaks) told) (with_lost rule start (refusing p.breaks refused) told) p.book
    (same-history rule start (log_of p.breaks) (refusing p.breaks refused) told (limits-refusing p.breaks refused (spans_of told)))
    (same-lost rule start (log_of p.breaks) (refusing p.breaks refused) told (limits-refusing p.breaks refused (spans_of told)))
    f.follows)
