-- A span goes on: a turn with power is added to it, its minutes are kept, and it ends with a cut.
use Rattle.std.proofs.Common.{◌≡◌, ◌⊎◌, inl, inr, ⊎_elim, ℕ, zero, suc, ◌+◌, ◌-◌, ◌≤◌, Bool, true, false, not, nat_lt, List, [], ◌∷◌, ◌++◌, length, map, take, fold, refl, ap, sym, subst, ◌∙◌, arith, append_assoc, append-nil, length-append}
use Rattle.std.specs.List.{AllByRecursion}
use Rattle.std.proofs.lemmas.Bool.Decides.{nat_tests}
use Rattle.activity_codec.specs.declared.values.Slot.{Slot}
use Rattle.activity_codec.specs.declared.values.Pick.{Pick}
use Rattle.trace_model.specs.declared.Action.{Action}
use Rattle.trace_model.specs.Trace.{TraceSecond, driven}
use Rattle.minute_model.specs.declared.Rule.{Rule}
use Rattle.minute_model.specs.declared.Minute.{Minute}
use Rattle.minute_model.specs.Span.{fed_many, decided_in}
use Rattle.run_model.specs.Span.{picks_of}
use Rattle.log_model.specs.Log.{RunLog}
use Rattle.log_model.specs.Course.{ToldSecond, Went, Before, has_power, went}
use Rattle.log_model.specs.Spans.{spans_with, spans_of, end_in, AreInOrder}
use Rattle.log_model.proofs.Spanning.{EndsAt, spanned}
use Rattle.history_model.specs.Minutes.{HistoryMinute}
use Rattle.history_model.specs.Presence.{Start}
use Rattle.history_model.specs.History.{decided_of, unit_history, with_lost}
use Rattle.history_model.specs.Growth.{as_span, picking}
use Rattle.history_model.specs.Book.{kept, Follows, AreLost}
use Rattle.history_model.proofs.Books.{all-none}
use Rattle.history_model.proofs.Deciding.{short-none}
use Rattle.history_model.proofs.Following.{follows-kept}
use Rattle.run_unit_course.specs.Turn.{IsSelection, empty_slots, ArePlain, lit_second, lit_seconds, span_at, begins_with, actions_of_last}
use Rattle.run_unit_course.specs.Lines.{log_of, IsCutBefore}
use Rattle.run_unit_course.specs.Keeping.{plain}
use Rattle.run_unit_course.specs.Followed.{Lit, Progress, going_before, HadPower, IsSupplied, IsShut, cuts_from, BookFollowsUnitRun, as_spans}
use Rattle.run_unit_course.proofs.Lines.{cut-none, torn-none, found-none, cuts-later}
use Rattle.run_unit_course.proofs.Turns.{IsQuiet, given_second, went-parts, turn-goes}
use Rattle.run_unit_course.proofs.Spans.{spans-parts, spans-lit, ends-last, turn-seen, begun-turn-seen, decided-at}
use Rattle.run_unit_course.proofs.Parts.{order-behind, driven-order, driven-length, driven-last, plain-append, plain-lit, follows-whole, follows-same, whole-history, whole-lost, short-history, short-lost}
use Rattle.run_unit_course.proofs.Ties.{shut-on, shut-kept, same-minutes, same-losses}
use Rattle.run_unit_course.proofs.Alike.{known-open}

-- WHAT A TURN STANDS ON: the power of its first second
record HasPower (before : Before) (next : ℕ) (starts : Bool) : Type 0 where
  power : (speed : ℕ) (actions : List Action) → has_power before (given_second next speed actions) ≡ true
  slots : before.slots ≡ empty_slots
  starting : not before.running ≡ starts

lit-power : (span : List ToldSecond) (before : Before) (next : ℕ) → IsSupplied (Lit span) before next → HasPower before next (begins_with span)
lit-power [] before next h = record { power = λ speed actions. h.comes; slots = h.slots; starting = ap not h.running }
lit-power (t ∷ span) before next h = record {
  power = λ speed actions. ap (λ (b : Before). has_power b (given_second next speed actions)) h;
  slots = ap (λ (b : Before). b.slots) h;
  starting = ap (λ (b : Before). not b.running) h;
}

cuts-bound : (span : List ToldSecond) (next : ℕ) → cuts_from (Lit span) next ≤ next
cuts-bound [] next = omega arith
cuts-bound (t ∷ span) next = omega arith

-- the span that goes on ends with the number of the next second
pub span-end : (log : RunLog) (from : ℕ) (done : List TraceSecond) (ended : List (List ToldSecond)) (t : ToldSecond) (span : List ToldSecond) (next : ℕ) → AreInOrder from done → next ≡ from + length done →
    (went log done).before ≡ going_before → spans_of (went log done).told ≡ ended ++ (t ∷ span) ∷ [] → end_in (t ∷ span) ≡ next
span-end log from done ended t span next order number going are =
    let whole = spanned log from done order in
    ends-last ended (t ∷ span) next (subst (λ (ss : List (List ToldSecond)). EndsAt ss next) are
    (subst (λ (u : ℕ). EndsAt (spans_of (went log done).told) u) (sym number) (whole.running (ap (λ (b : Before). b.running) going))))

-- the rules of minutes see a turn
pub seen : (rule : Rule) (next : ℕ) (span : List ToldSecond) (n speed : ℕ) (picks : List (Slot × Pick)) → (begins_with span ≡ false → end_in span ≡ next) →
    as_span rule (span ++ lit_seconds (suc n) next speed picks (begins_with span)) ≡ fed_many (picking picks (span_at rule next span)) speed (suc n)
seen rule next [] n speed picks end = begun-turn-seen rule next n speed picks
seen rule next (t ∷ span) n speed picks end = turn-seen rule next (t ∷ span) n speed picks refl (end refl)

-- A TURN WITH POWER
module _ (rule : Rule) (start : Start) (from first : ℕ) (done : List TraceSecond) (p : Progress) (span : List ToldSecond) (f : BookFollowsUnitRun rule start from first done (record p { supply = Lit span }))
    (n speed : ℕ) (actions : List Action) (each : AllByRecursion IsSelection actions) where
  abbrev log : RunLog
  log = log_of p.breaks

  abbrev told : List ToldSecond
  told = (went log done).told

  abbrev more : List ToldSecond
  more = lit_seconds (suc n) p.next speed (picks_of actions) (begins_with span)

  abbrev ss : List TraceSecond
  ss = driven (suc n) p.next speed actions

  lit : HasPower (went log done).before p.next (begins_with span)
  lit = lit-power span (went log done).before p.next f.power

  early-cuts : AllByRecursion (IsCutBefore p.next) p.breaks
  early-cuts = cuts-later (cuts_from (Lit span) p.next) p.next p.breaks (cuts-bound span p.next) f.breaks

  quiet : (u : ℕ) → IsQuiet log u
  quiet u = record { torn = λ phase slot. torn-none p.next p.breaks u phase slot early-cuts; found = λ phase slot. found-none p.breaks u phase slot }

  many : (m : ℕ) → went log (done ++ driven (suc m) p.next speed actions) ≡ record { told = told ++ lit_seconds (suc m) p.next speed (picks_of actions) (begins_with span); before = going_before }
  many m =
      went-parts log done (driven (suc m) p.next speed actions)
      ∙ turn-goes log told (went log done).before m p.next speed actions (lit.power speed actions) lit.slots quiet (λ u le. cut-none p.next p.breaks u early-cuts le) each
      ∙ ap (λ (b : Bool). record { told = told ++ lit_seconds (suc m) p.next speed (picks_of actions) b; before = going_before }) lit.starting

  pub turn-told : went log (done ++ ss) ≡ record { told = told ++ more; before = going_before }
  turn-told = many n

  -- the last of its seconds had power
  had : HadPower p.breaks (done ++ ss) (length (actions_of_last (suc n) actions))
  had = record {
    had = record {
      before = done ++ driven n p.next speed actions;
      number = p.next + n;
      speed = speed;
      actions = actions_of_last (suc n) actions;
      are = ap (λ (zs : List TraceSecond). done ++ zs) (driven-last n p.next speed actions) ∙ sym (append_assoc done (driven n p.next speed actions) (given_second (p.next + n) speed (actions_of_last (suc n) actions) ∷ []));
      selections = chosen n;
      count = refl;
    };
    power = powered n;
    slots = empty n;
  }
    where
      chosen : (m : ℕ) → AllByRecursion IsSelection (actions_of_last (suc m) actions)
      chosen zero = each
      chosen (suc m) = tt

      powered : (m : ℕ) → has_power (went log (done ++ driven m p.next speed actions)).before (given_second (p.next + m) speed (actions_of_last (suc m) actions)) ≡ true
      powered zero =
          let e : p.next + zero ≡ p.next = omega arith in
          ap (λ (ss : List TraceSecond). has_power (went log ss).before (given_second (p.next + zero) speed actions)) (append-nil done)
          ∙ ap (λ (u : ℕ). has_power (went log done).before (given_second u speed actions)) e ∙ lit.power speed actions
      powered (suc m) = ap (λ (w : Went). has_power w.before (given_second (p.next + suc m) speed [])) (many m)

      empty : (m : ℕ) → (went log (done ++ driven m p.next speed actions)).before.slots ≡ empty_slots
      empty zero = ap (λ (ss : List TraceSecond). (went log ss).before.slots) (append-nil done) ∙ lit.slots
      empty (suc m) = ap (λ (w : Went). w.before.slots) (many m)

  -- the minutes that it decides wait for their keeping
  module _ (x : ToldSecond) (xs : List ToldSecond) (is : span ++ more ≡ x ∷ xs) (none : p.waiting ≡ []) (new : List Minute)
      (decides : decided_in (fed_many (picking (picks_of actions) (span_at rule p.next span)) speed (suc n)) ≡ decided_in (span_at rule p.next span) ++ new) (end : begins_with span ≡ false → end_in span ≡ p.next) where
    pub decided-on : decided_of rule (x ∷ xs) ≡ decided_of rule span ++ new
    decided-on =
        ap (decided_of rule) (sym is) ∙ ap decided_in (seen rule p.next span n speed (picks_of actions) end) ∙ decides
        ∙ ap (λ (ds : List Minute). ds ++ new) (decided-at rule p.next span)

    abbrev now : List ToldSecond
    now = (went log (done ++ ss)).told

    pub told-now : now ≡ told ++ more
    told-now = ap (λ (w : Went). w.told) turn-told

    plain-now : ArePlain now
    plain-now = subst ArePlain (sym told-now) (plain-append told more f.plain (plain-lit (suc n) p.next speed (picks_of actions) (begins_with span)))

    pub spans-now : spans_of now ≡ f.ended ++ (x ∷ xs) ∷ []
    spans-now =
        ap spans_of told-now ∙ spans-parts told more ∙ ap (λ (ss : List (List ToldSecond)). fold spans_with ss more) f.spans
        ∙ spans-lit f.ended span (suc n) p.next speed (picks_of actions) ∙ ap (λ (s : List ToldSecond). f.ended ++ as_spans s) is

    -- whether it has two seconds
    which : (nat_lt 1 (length (x ∷ xs)) ≡ true) ⊎ ((xs ≡ []) × (new ≡ []))
    which = go xs refl
      where
        go : (ys : List ToldSecond) → xs ≡ ys → (nat_lt 1 (length (x ∷ xs)) ≡ true) ⊎ ((xs ≡ []) × (new ≡ []))
        go [] e = inr (e, gone (decided_of rule span) new (sym (sym (short-none rule x) ∙ ap (λ (ys : List ToldSecond). decided_of rule (x ∷ ys)) (sym e) ∙ decided-on)))
          where
            gone : (xs ys : List Minute) → xs ++ ys ≡ [] → ys ≡ []
            gone [] ys h = h
            gone (x ∷ xs) ys h = absurd (cc)
        go (y ∷ ys) e = inl (ap (λ (zs : List ToldSecond). nat_lt 1 (length (x ∷ zs))) e ∙ two (length ys))
          where
            two : (k : ℕ) → nat_lt 1 (suc (suc k)) ≡ true
            two k = grind (arith, nat_tests)

    shut-now : IsShut rule start p.breaks (take p.unfound p.breaks) now f.ended (x ∷ xs) p.book (map plain new)
    shut-now =
        shut-on rule start p.breaks p.breaks (take p.unfound p.breaks) (λ u t. refl) told now f.plain plain-now (take p.unfound p.breaks) f.ended span (x ∷ xs) p.book p.waiting new (λ u t. t) decided-on none
        (⊎_elim (λ long. inr long) (λ short. inl short.1) which) f.tied

    follows-now : Follows (unit_history rule start log now) (with_lost rule start log now) p.book
    follows-now = ⊎_elim
        (λ long. follows-whole (unit_history rule start log now) (map plain new) (with_lost rule start log now) p.book
        (whole-history rule start log now f.ended (x ∷ xs) spans-now long plain-now ∙ shut-now.minutes ∙ ap (λ (is : List HistoryMinute). is ++ map plain new) (sym (all-none p.book shut-now.none)))
        (subst (λ (ls : List (List HistoryMinute)). AreLost ls p.book) (sym (whole-lost rule start log now f.ended (x ∷ xs) spans-now long)) shut-now.lost))
        (λ short. short-follows span short.0 is f.spans)
        which
      where
        -- one second only: power began with it
        short-follows : (s : List ToldSecond) → xs ≡ [] → s ++ lit_seconds (suc n) p.next speed (picks_of actions) (begins_with span) ≡ x ∷ xs → spans_of told ≡ f.ended ++ as_spans s → Follows (unit_history rule start log now) (with_lost rule start log now) p.book
        short-follows (t ∷ s) nil e are = absurd (two-more s (cc))
          where
            two-more : (s : List ToldSecond) → s ++ lit_second p.next speed (picks_of actions) (begins_with span) false ∷ lit_seconds n (p.next + 1) speed [] false ≡ [] → ⊥
            two-more [] e = cc
            two-more (y ∷ s) e = cc
        short-follows [] nil e are =
            let spans = spans-now ∙ ap (λ (ys : List ToldSecond). f.ended ++ (x ∷ ys) ∷ []) nil in
            let alike = known-open rule (take p.unfound p.breaks) p.breaks p.breaks (λ u t. refl) f.ended shut-now.known in
            follows-same (unit_history rule start log told) (unit_history rule start log now) (with_lost rule start log told) (with_lost rule start log now) p.book
            (short-history rule start log now f.ended ((x ∷ []) ∷ []) spans refl (short-none rule x, tt)
            ∙ same-minutes rule start p.breaks p.breaks (take p.unfound p.breaks) (λ u t. refl) told now f.plain plain-now f.ended alike
            ∙ sym (short-history rule start log told f.ended [] are refl tt))
            (short-lost rule start log now f.ended ((x ∷ []) ∷ []) spans refl (short-none rule x, tt)
            ∙ same-losses rule start p.breaks p.breaks (take p.unfound p.breaks) (λ u t. refl) told now f.plain plain-now f.ended alike
            ∙ sym (short-lost rule start log told f.ended [] are refl tt))
            f.follows

    pub feeds : BookFollowsUnitRun rule start from first (done ++ ss) (record p { next = p.next + suc n; begun = length (actions_of_last (suc n) actions); supply = Lit (x ∷ xs); waiting = map plain new })
    feeds =
        let number = f.next in
        let count = length-append done ss in
        let len = driven-length (suc n) p.next speed actions in
        record {
          early = f.early;
          order = order-behind from done ss f.order (subst (λ (m : ℕ). AreInOrder m ss) f.next (driven-order (suc n) p.next speed actions));
          next = omega (arith, number, count, len);
          breaks = cuts-later p.next (p.next + suc n - 1) p.breaks (omega arith) early-cuts;
          unfound = f.unfound;
          plain = plain-now;
          power = ap (λ (w : Went). w.before) turn-told;
          last = had;
          ended = f.ended;
          spans = spans-now;
          tied = shut-now;
          follows = follows-now;
        }

-- A MINUTE IS KEPT
pub keeps : (rule : Rule) (start : Start) (from first : ℕ) (done : List TraceSecond) (p : Progress) (t : ToldSecond) (span : List ToldSecond) (i : HistoryMinute) (rest : List HistoryMinute) →
    BookFollowsUnitRun rule start from first done (record p { supply = Lit (t ∷ span); waiting = i ∷ rest }) → BookFollowsUnitRun rule start from first done (record p { supply = Lit (t ∷ span); book = kept i p.book; waiting = rest })
keeps rule start from first done p t span i rest f = record {
  early = f.early;
  order = f.order;
  next = f.next;
  breaks = f.breaks;
  unfound = f.unfound;
  plain = f.plain;
  power = f.power;
  last = f.last;
  ended = f.ended;
  spans = f.spans;
  tied = shut-kept rule start p.breaks (take p.unfound p.breaks) (went (log_of p.breaks) done).told f.ended (t ∷ span) p.book i rest f.tied;
  follows =
      let sh = f.tied in
      let long = ⊎_elim (λ (e : i ∷ rest ≡ []). absurd (cc)) (λ long. long) sh.whole in
      follows-kept (unit_history rule start (log_of p.breaks) (went (log_of p.breaks) done).told) rest (with_lost rule start (log_of p.breaks) (went (log_of p.breaks) done).told) p.book i sh.none
      (whole-history rule start (log_of p.breaks) (went (log_of p.breaks) done).told f.ended (t ∷ span) f.spans long f.plain ∙ sh.minutes ∙ ap (λ (is : List HistoryMinute). is ++ i ∷ rest) (sym (all-none p.book sh.none)))
      f.follows;
}
