-- Accounts of acceptances over the steps that accept no card.
use Rattle.std.proofs.Common.{◌≡◌, ◌⊎◌, inl, inr, ⊎_elim, ℕ, zero, suc, ◌+◌, ◌-◌, ◌%◌, ◌/◌, ◌<◌, ◌≤◌, true, false, Option, Some, None, List, [], ◌∷◌, ◌++◌, All, Contains, length, drop, refl, ap, sym, subst, ◌∙◌, arith, append-nil, append_assoc, length-append}
use Rattle.std.specs.Prelude.{flat_map, option_to_list, nat_le}
use Rattle.std.specs.List.{AllByRecursion, list_any}
use Rattle.std.proofs.lemmas.List.{drop-append-le}
use Rattle.std.proofs.lemmas.List.Elements.{All-weaker, All-filter, All-contains, All-contains_itself, Contains-append_left}
use Rattle.run_course.specs.trace_model.declared.Card.{Card}
use Rattle.run_course.specs.trace_model.declared.Action.{Action}
use Rattle.run_course.specs.trace_model.Trace.{TraceSecond, driven, dark}
use Rattle.run_course.specs.minute_model.declared.Rule.{Rule}
use Rattle.run_course.specs.minute_model.Activity.{last}
use Rattle.run_course.specs.minute_model.Span.{ungiven_of}
use Rattle.run_course.specs.log_model.declared.lines.Break.{Break}
use Rattle.run_course.specs.log_model.Log.{RunLog, kept_after}
use Rattle.run_course.specs.log_model.Causes.{is_cut}
use Rattle.run_course.specs.log_model.Course.{ToldSecond, Went, Before, has_power, second_told, went}
use Rattle.run_course.specs.log_model.Spans.{spans_of, AreInOrder}
use Rattle.run_course.proofs.log_model.Growth.{went-more}
use Rattle.run_course.specs.history_model.Minutes.{HistoryMinute, up_to}
use Rattle.run_course.specs.history_model.History.{limit_by, cut_second, unit_history}
use Rattle.run_course.specs.history_model.Growth.{SameLimits}
use Rattle.run_course.specs.history_model.Book.{Book, all, found, IsMark}
use Rattle.run_course.proofs.history_model.Books.{contains-up_to, all-found}
use Rattle.run_course.proofs.history_model.BySeconds.{same-history}
use Rattle.run_course.proofs.history_model.Growing.{dark-history}
use Rattle.run_course.proofs.history_model.Told.{more-told, spanned-so_far, told-next}
use Rattle.unit_rule.specs.run_unit_course.Lines.{log_of, cut_at, found_from}
use Rattle.unit_rule.specs.run_unit_course.Followed.{UnitPower, Lit, Due, Lost, MayPower, MayFail}
use Rattle.unit_rule.specs.run_unit_course.Turn.{cut_at_end, span_at}
use Rattle.unit_rule.proofs.run_unit_course.Parts.{order-behind}
use Rattle.run_course.specs.Moments.{and_break}
use Rattle.run_course.specs.Followed.{Progress, BookFollowsRun, Comes, IsLost}
use Rattle.run_course.specs.Seconds.{next_told}
use Rattle.run_course.proofs.Lookups.{kept-by}
use Rattle.run_course.proofs.Logs.{went-refused, found_log}
use Rattle.run_course.proofs.Core.{Core, lit-due, found-told, found-minutes}
use Rattle.run_course.proofs.Steps.{core-of, with-waiting, due-core, lost-core, lit-parts, now-told, comes-adds, cut-history, cut-parts}
use Rattle.run_course.proofs.Told.{dark-told, lost-comes, lost-dark, next-dark}
use Rattle.unit_rule.specs.safety_model.Recording.{Recording, start_of, history_of}
use Rattle.unit_rule.specs.safety_model.Cards.{shows_lost}
use Rattle.run_promise.specs.Accounts.{so_far}
use Rattle.run_promise.specs.Going.{acceptances_in, IsCutFrom, AreAccounted, FoundStaysAccounted, AFailureStaysAccounted, ADarkMinuteStaysAccounted, AnOffLineStaysAccounted, AnOffCutStaysAccounted}
use Rattle.run_promise.proofs.Accounts.{account-on}
use Rattle.run_promise.proofs.Lines.{accepts-none, accepts-same, accepts-instead, lost-tail, found-lost, both-parts, here-from, drop-whole}

-- the history is as it was
as-it_was : (u : ℕ) (old now : List HistoryMinute) → now ≡ old → All (λ (i : HistoryMinute). Contains old i ⊎ (u / 60 ≤ i.minute)) now
as-it_was u old now is = subst (All (λ (i : HistoryMinute). Contains old i ⊎ (u / 60 ≤ i.minute))) (sym is)
    (All-weaker (Contains old) (λ i. Contains old i ⊎ (u / 60 ≤ i.minute)) (λ i at. inl at) old (All-contains_itself old))

-- A QUIET STEP: it accepts nothing and decides nothing; its breaks come later; and behind it there is no power
record IsQuiet (r : Recording) (c : Card) (done now : List TraceSecond) (p q : Progress) : Type 0 where
  accepts : flat_map (acceptances_in c) (went q.log now).told ≡ flat_map (acceptances_in c) (went p.log done).told
  history : history_of (so_far r now q.log) ≡ history_of (so_far r done p.log)
  breaks : List Break
  more : q.log.breaks ≡ p.log.breaks ++ breaks
  behind : (u : ℕ) → u < p.next → AllByRecursion (IsCutFrom u) breaks
  within : p.unfound ≤ length p.log.breaks
  unfound : q.unfound ≡ p.unfound
  next : p.next ≤ q.next
  book : q.book ≡ p.book
  dark_ : (span : List ToldSecond) → q.supply ≡ Lit span → ⊥

quiet : (r : Recording) (c : Card) (first : ℕ) (done now : List TraceSecond) (p q : Progress) (ks : List ℕ) → IsQuiet r c done now p q → AreAccounted r c first done p ks → AreAccounted r c first now q ks
quiet r c first done now p q ks n a = record {
  each = λ u at.
      let k = a.each u (subst (λ (zs : List ℕ). Contains zs u) n.accepts at) in
      let before = k.2.before in
      let next = n.next in (
        k.0,
        k.1,
        record {
          account = account-on (so_far r done p.log) (so_far r now q.log) c first p.book q.book u k.0
              (λ m. ap (list_any (shows_lost u m)) n.more ∙ lost-tail u m p.log.breaks n.breaks (n.behind u before))
              (as-it_was u (history_of (so_far r done p.log)) (history_of (so_far r now q.log)) n.history)
              (λ mark. subst (λ (b : Book). IsMark first b.sure k.0) (sym n.book) mark) k.2.account;
          before = omega (arith, before, next);
          due = λ span is. absurd (n.dark_ span is);
          cuts = subst (AllByRecursion (IsCutFrom u))
              (sym (ap (λ (m : ℕ). drop m q.log.breaks) n.unfound ∙ ap (λ (bs : List Break). drop p.unfound bs) n.more ∙ drop-append-le p.unfound p.log.breaks n.breaks n.within))
              (both-parts (IsCutFrom u) (drop p.unfound p.log.breaks) n.breaks k.2.cuts (n.behind u before));
          later = subst (λ (b : Book). All (λ (i : HistoryMinute). (i.minute ≤ k.0) ⊎ (u / 60 ≤ i.minute)) (all b)) (sym n.book) k.2.later;
        },
      );
  waits = λ span is. absurd (n.dark_ span is);
}

due-lit : (span : List ToldSecond) → Due ≡ Lit span → ⊥
due-lit span is = absurd (cc)

lost-lit : (span : List ToldSecond) → Lost ≡ Lit span → ⊥
lost-lit span is = absurd (cc)

-- IT FAILS
pub failure-accounted : AFailureStaysAccounted
failure-accounted r c from first done p g may none s later by begun nothing ks a = at_supply p.supply may (with-waiting r.rule (start_of r) from first done p [] none g)
  where
    at : AreInOrder from done → p.next ≡ from + length done → p.unfound ≤ length p.log.breaks → Core r.rule (start_of r) from first done p.log p.unfound p.next Due p.book [] → Comes (went p.log done).before p.next →
        AreAccounted r c first (done ++ s ∷ []) (record { log = later; unfound = p.unfound; next = suc p.next; begun = begun; supply = Lost; book = p.book; waiting = [] }) ks
    at order next within core comes =
        quiet r c first done (done ++ s ∷ []) p (record { log = later; unfound = p.unfound; next = suc p.next; begun = begun; supply = Lost; book = p.book; waiting = [] }) ks (record {
          accepts = ap (flat_map (acceptances_in c)) (now-told r.rule (start_of r) from first done p order next within s later by) ∙ accepts-same c (went p.log done).told (next_told later done s) nothing;
          history = (comes-adds r.rule (start_of r) from first done p order next within s later by core comes).1;
          breaks = by.breaks.0;
          more = by.breaks.1;
          behind = λ u lt. here-from u p.next by.breaks.0 (omega (arith, lt)) by.breaks.2;
          within = within;
          unfound = refl;
          next = omega arith;
          book = refl;
          dark_ = lost-lit;
        }) a

    at_supply : (sp : UnitPower) → MayFail sp p.next → BookFollowsRun r.rule (start_of r) from first done (record p { supply = sp; waiting = [] }) →
        AreAccounted r c first (done ++ s ∷ []) (record { log = later; unfound = p.unfound; next = suc p.next; begun = begun; supply = Lost; book = p.book; waiting = [] }) ks
    at_supply (Lit []) may f =
        at f.order f.next f.unfound (lit-due r.rule (start_of r) from first done p.log p.unfound p.next p.book (core-of r.rule (start_of r) from first done (record p { supply = Lit []; waiting = [] }) f)) f.power
    at_supply (Lit (x ∷ xs)) may f = absurd may
    at_supply Due may f = at f.order f.next f.unfound (due-core r.rule (start_of r) from first done (record p { waiting = [] }) f) (f.power p.next)
    at_supply Lost may f = at f.order f.next f.unfound (lost-core r.rule (start_of r) from first done (record p { waiting = [] }) f) (lost-comes (went p.log done).before p.next f.power may)

-- POWER IS BACK
mark-found : (first k n : ℕ) (b : Book) → All (λ i. i.minute ≤ n) b.sure → IsMark first b.sure k → IsMark first (up_to n (all b)) k
mark-found first k n b low mark = ⊎_elim
    (λ is. inl is)
    (λ here. inr (here.0, contains-up_to n (all b) here.0 (All-contains (λ (i : HistoryMinute). i.minute ≤ n) b.sure here.0 low here.1) (Contains-append_left b.sure (option_to_list b.maybe) here.0 here.1), here.2))
    mark

begun-due : (rule : Rule) (u next : ℕ) (span : List ToldSecond) → u < next → Lit [] ≡ Lit span → u / 60 ≤ ungiven_of (span_at rule next span)
begun-due rule u next [] lt is = omega (arith, lt)
begun-due rule u next (x ∷ xs) lt is = absurd (cc)

pub found-accounted : FoundStaysAccounted
found-accounted r c from first done p g may n mark low ks a = by p.supply may g
  where
    at : Core r.rule (start_of r) from first done p.log p.unfound p.next Due p.book p.waiting →
        AreAccounted r c first done (record p { log = found_log p.unfound n p.log; unfound = length (found_from p.unfound n p.log.breaks); supply = Lit []; book = found n p.book; waiting = [] }) ks
    at core =
        let seconds : (went (found_log p.unfound n p.log) done).told ≡ (went p.log done).told = ap (λ (w : Went). w.told) (found-told r.rule (start_of r) from first done p.log p.unfound p.next p.book p.waiting core n mark low) in
        let minutes = found-minutes r.rule (start_of r) from first done p.log p.unfound p.next p.book p.waiting core n mark low in
        record {
          each = λ u at_.
              let k = a.each u (subst (λ (ts : List ToldSecond). Contains (flat_map (acceptances_in c) ts) u) seconds at_) in
              let before = k.2.before in (
                k.0,
                k.1,
                record {
                  account = account-on (so_far r done p.log) (so_far r done (found_log p.unfound n p.log)) c first p.book (found n p.book) u k.0
                      (λ m. found-lost u m p.unfound n p.log.breaks k.2.cuts)
                      (as-it_was u (history_of (so_far r done p.log)) (history_of (so_far r done (found_log p.unfound n p.log))) minutes)
                      (mark-found first k.0 n p.book low) k.2.account;
                  before = before;
                  due = λ span is. begun-due r.rule u p.next span before is;
                  cuts = subst (AllByRecursion (IsCutFrom u)) (sym (drop-whole (found_from p.unfound n p.log.breaks))) tt;
                  later = subst (All (λ (i : HistoryMinute). (i.minute ≤ k.0) ⊎ (u / 60 ≤ i.minute))) (sym (all-found n p.book))
                      (All-filter (λ (i : HistoryMinute). nat_le i.minute n) (λ (i : HistoryMinute). (i.minute ≤ k.0) ⊎ (u / 60 ≤ i.minute)) (all p.book) k.2.later);
                },
              );
          waits = λ span is. subst (AllByRecursion (λ (b : Break). is_cut b ≡ false)) (sym (drop-whole (found_from p.unfound n p.log.breaks))) tt;
        }

    by : (s : UnitPower) → MayPower s p.next → BookFollowsRun r.rule (start_of r) from first done (record p { supply = s }) →
        AreAccounted r c first done (record p { log = found_log p.unfound n p.log; unfound = length (found_from p.unfound n p.log.breaks); supply = Lit []; book = found n p.book; waiting = [] }) ks
    by (Lit span) may f = absurd may
    by Due may f = at (due-core r.rule (start_of r) from first done p f)
    by Lost may f = at (lost-core r.rule (start_of r) from first done p f)

-- REFUSALS change no minute
kept-same : (log later : RunLog) (u : ℕ) → later.breaks ≡ log.breaks → kept_after later u ≡ kept_after log u
kept-same log later u is = kept-by later u ∙ ap (λ (bs : List Break). kept_after (log_of bs) u) is ∙ sym (kept-by log u)

limit-same : (log later : RunLog) → later.breaks ≡ log.breaks → (o : Option ℕ) → limit_by later o ≡ limit_by log o
limit-same log later is None = refl
limit-same log later is (Some u) = ap (λ (k : ℕ). Some k) (kept-same log later u is)

same-limits : (log later : RunLog) (spans : List (List ToldSecond)) → later.breaks ≡ log.breaks → SameLimits log later spans
same-limits log later [] is = tt
same-limits log later (span ∷ spans) is = (λ long. limit-same log later is (cut_second (last span)), same-limits log later spans is)

refused-minutes : (r : Recording) (log later : RunLog) (told : List ToldSecond) → later.breaks ≡ log.breaks → unit_history r.rule (start_of r) later told ≡ unit_history r.rule (start_of r) log told
refused-minutes r log later told is = same-history r.rule (start_of r) log later told (same-limits log later (spans_of told) is)

-- SECONDS WITHOUT POWER
dark-found : (log : RunLog) (before : Before) (s : TraceSecond) → has_power before s ≡ false → (second_told log before s).course.found ≡ []
dark-found log before s none = rw none refl

module _ (r : Recording) (c : Card) (from : ℕ) (log : RunLog) where
  -- these seconds more accept nothing, and decide nothing
  record AreStill (done now : List TraceSecond) : Type 0 where
    accepts : flat_map (acceptances_in c) (went log now).told ≡ flat_map (acceptances_in c) (went log done).told
    history : unit_history r.rule (start_of r) log (went log now).told ≡ unit_history r.rule (start_of r) log (went log done).told

  still-none : (done : List TraceSecond) → AreStill done (done ++ [])
  still-none done = subst (AreStill done) (sym (append-nil done)) (record { accepts = refl; history = refl })

  still-one : (done : List TraceSecond) (s : TraceSecond) → AreInOrder from (done ++ s ∷ []) → has_power (went log done).before s ≡ false → AreStill done (done ++ s ∷ [])
  still-one done s order none =
      let t : ToldSecond = second_told log (went log done).before s in
      let is = more-told log done s in
      record {
        accepts = ap (flat_map (acceptances_in c)) is ∙ accepts-same c (went log done).told t (accepts-none c t (dark-found log (went log done).before s none));
        history = ap (unit_history r.rule (start_of r) log) is
            ∙ dark-history r.rule (start_of r) log from (from + length done) (went log done) t (spanned-so_far from log done s order) (told-next from log done s order) (dark-told log (went log done).before s none).lit;
      }

  still-both : (done mid now : List TraceSecond) → AreStill done mid → AreStill mid now → AreStill done now
  still-both done mid now a b = record { accepts = b.accepts ∙ a.accepts; history = b.history ∙ a.history }

  order-one : (done : List TraceSecond) (s : TraceSecond) (next : ℕ) → AreInOrder from done → next ≡ from + length done → s.number ≡ next → AreInOrder from (done ++ s ∷ [])
  order-one done s next order number is = order-behind from done (s ∷ []) order (omega (arith, is, number), tt)

  number-one : (done : List TraceSecond) (s : TraceSecond) (next : ℕ) → next ≡ from + length done → next + 1 ≡ from + length (done ++ s ∷ [])
  number-one done s next number = let n = length-append done (s ∷ []) in omega (arith, n, number)

  still-minute : (n : ℕ) (done : List TraceSecond) (next speed : ℕ) (actions : List Action) → AreInOrder from done → next ≡ from + length done → IsLost (went log done).before → 0 < next % 60 → next % 60 + n ≤ 60 → AreStill done (done ++ driven n next speed actions)
  still-minute zero done next speed actions order number lost some within = still-none done
  still-minute (suc zero) done next speed actions order number lost some within =
      let s : TraceSecond = record { number = next; has_power = true; speed = speed; actions = actions } in
      still-one done s (order-one done s next order number refl) (lost-dark (went log done).before s lost some)
  still-minute (suc (suc n)) done next speed actions order number lost some within =
      let s : TraceSecond = record { number = next; has_power = true; speed = speed; actions = actions } in
      let none = lost-dark (went log done).before s lost some in
      let dark_ = dark-told log (went log done).before s none in
      let step : (next + 1) % 60 ≡ next % 60 + 1 = omega (arith, within) in
      subst (AreStill done) (append_assoc done (s ∷ []) (driven (suc n) (next + 1) speed []))
      (still-both done (done ++ s ∷ []) ((done ++ s ∷ []) ++ driven (suc n) (next + 1) speed []) (still-one done s (order-one done s next order number refl) none)
      (still-minute (suc n) (done ++ s ∷ []) (next + 1) speed [] (order-one done s next order number refl) (number-one done s next number)
      (subst (λ (b : Before). IsLost b) (sym (ap (λ (w : Went). w.before) (went-more log done s))) (next-dark (went log done).before (second_told log (went log done).before s) lost dark_.lit dark_.cut dark_.given))
      (omega (arith, step)) (omega (arith, step, within))))

  abbrev off_second : ℕ → TraceSecond
  off_second next = record { number = next; has_power = false; speed = 0; actions = [] }

  still-off : (n : ℕ) (done : List TraceSecond) (next : ℕ) → AreInOrder from done → next ≡ from + length done → AreStill done (done ++ dark n next)
  still-off zero done next order number = still-none done
  still-off (suc n) done next order number =
      subst (AreStill done) (append_assoc done (off_second next ∷ []) (dark n (next + 1)))
      (still-both done (done ++ off_second next ∷ []) ((done ++ off_second next ∷ []) ++ dark n (next + 1)) (still-one done (off_second next) (order-one done (off_second next) next order number refl) refl)
      (still-off n (done ++ off_second next ∷ []) (next + 1) (order-one done (off_second next) next order number refl) (number-one done (off_second next) next number)))

pub dark-accounted : ADarkMinuteStaysAccounted
dark-accounted r c from first done p g is n speed actions refused begun some within ks a =
    let f = subst (λ (sp : UnitPower). BookFollowsRun r.rule (start_of r) from first done (record p { supply = sp })) is g in
    let later : RunLog = record p.log { refused = refused } in
    let same = went-refused p.log later refl refl done in
    let seconds = ap (λ (w : Went). w.told) same in
    let still = still-minute r c from later n done p.next speed actions f.order f.next (subst (λ (w : Went). IsLost w.before) (sym same) f.power) some within in
    quiet r c first done (done ++ driven n p.next speed actions) p (record p { log = later; next = p.next + n; begun = begun }) ks (record {
      accepts = still.accepts ∙ ap (flat_map (acceptances_in c)) seconds;
      history = still.history ∙ ap (unit_history r.rule (start_of r) later) seconds ∙ refused-minutes r p.log later (went p.log done).told refl;
      breaks = [];
      more = sym (append-nil p.log.breaks);
      behind = λ u lt. tt;
      within = f.unfound;
      unfound = refl;
      next = omega arith;
      book = refl;
      dark_ = λ span lit_. lost-lit span (sym is ∙ lit_);
    }) a

pub off-accounted : AnOffLineStaysAccounted
off-accounted r c from first done p g is n ks a =
    let still = still-off r c from p.log (suc n) done p.next g.order g.next in
    quiet r c first done (done ++ dark (suc n) p.next) p (record p { next = p.next + suc n; begun = 0; supply = Due }) ks (record {
      accepts = still.accepts;
      history = still.history;
      breaks = [];
      more = sym (append-nil p.log.breaks);
      behind = λ u lt. tt;
      within = g.unfound;
      unfound = refl;
      next = omega arith;
      book = refl;
      dark_ = due-lit;
    }) a

pub off-cut-accounted : AnOffCutStaysAccounted
off-cut-accounted r c from first done p g t span is none n ks a =
    let f = lit-parts r.rule (start_of r) from first done p g (t ∷ span) is none in
    let later : RunLog = and_break p.log (cut_at (p.next - 1) false p.begun) in
    let parts = cut-parts r.rule (start_of r) from first done p t span f in
    let still = still-off r c from later (suc n) done p.next f.order f.next in
    quiet r c first done (done ++ dark (suc n) p.next) p (record p { log = later; next = p.next + suc n; begun = 0; supply = Due }) ks (record {
      accepts = still.accepts ∙ ap (flat_map (acceptances_in c)) parts.3 ∙ accepts-instead c parts.0 parts.1 (cut_at_end parts.1) refl ∙ sym (ap (flat_map (acceptances_in c)) parts.2);
      history = still.history ∙ cut-history r.rule (start_of r) from first done p t span f;
      breaks = cut_at (p.next - 1) false p.begun ∷ [];
      more = refl;
      behind = λ u lt. ((λ cut. omega (arith, lt)), tt);
      within = f.unfound;
      unfound = refl;
      next = omega arith;
      book = refl;
      dark_ = due-lit;
    }) a
