-- Decided minutes are kept one after another in the keeping of a second: how far log, slots, standings, marks and book have gone.
use Rattle.std.proofs.Common.{◌≡◌, ⊎_elim, ℕ, suc, ◌+◌, ◌/◌, ◌≤◌, ◌<◌, Bool, true, false, List, [], ◌∷◌, ◌++◌, length, map, refl, ap, sym, subst, ◌∙◌, arith, append_assoc, length-append}
use Rattle.std.proofs.lemmas.List.Elements.{All-head, All-tail}
use Rattle.activity_codec.specs.declared.values.Slot.TheVariants.{CoDriver}
use Rattle.trace_model.specs.declared.Card.{Card}
use Rattle.trace_model.specs.Trace.{TraceSecond}
use Rattle.log_model.specs.run_model.declared.Device.{Device}
use Rattle.unit_model.specs.minute_model.declared.Minute.{Minute}
use Rattle.unit_model.specs.minute_model.Span.{Span, count_from}
use Rattle.log_model.specs.declared.lines.Mark.{Mark}
use Rattle.log_model.specs.Log.{RunLog}
use Rattle.log_model.specs.Course.{Course}
use Rattle.device_calls.specs.history_model.Minutes.{HistoryMinute}
use Rattle.device_calls.specs.history_model.History.{seated}
use Rattle.device_calls.specs.history_model.Book.{Book, kept}
use Rattle.device_calls.specs.run_unit_course.Legs.{all_travelled}
use Rattle.run_crew.specs.card_slots.declared.seats.Present.{Present}
use Rattle.run_crew.specs.Cabin.{AreTwo}
use Rattle.run_minutes.specs.run_promise.Between.{RunLedger}
use Rattle.run_events.specs.run_course.Seconds.{kept_all}
use Rattle.run_events.specs.run_course.Kept.{HasDecided, AreMarkedSoFar}
use Rattle.run_events.proofs.run_course.Kept.{minute-kept, nothing-else, one-travelled}
use Rattle.run_minutes.specs.run_promise.Origin.{Origin, rule_of, start_at}
use Rattle.run_minutes.specs.declared.keeper.Keeper.{Keeper}
use Rattle.run_minutes.specs.Keeping.{cabin_by, session_at, kept_in, IsFateOf}
use Rattle.run_minutes.specs.Minutes.{Round, IsRound, KeepingState, Done, AreRounds, told_after, told_by, present_at, minute_of}
use Rattle.run_minutes.specs.Books.{carried_after}
use Rattle.run_minutes.specs.Decided.{decided_minute, carried_by}
use Rattle.run_record.specs.Recorded.{Values}
use Rattle.run_record.specs.Within.{Beginning, told_before, course_in}
use Rattle.run_acts.specs.Rounds.{Point, Outset, told_values, moment_of, Slate, OnlyTears, HasBrokenDown, HaveBroken, SoFar}
use Rattle.run_acts.proofs.RoundFound.{found-after}
use Rattle.run_acts.proofs.Round.{minute-is, round-slate, round-same, round-past, round-marked, marks-on, tears-on}

-- one minute more in the book
kept-more : (new : List HistoryMinute) (i : HistoryMinute) (b : Book) → kept_all (new ++ i ∷ []) b ≡ kept i (kept_all new b)
kept-more [] i b = refl
kept-more (j ∷ new) i b = kept-more new i (kept j b)

-- minutes that follow one another
pub first-number : (m : Minute) (rest : List Minute) (from : ℕ) → map (λ (d : Minute). d.minute) (m ∷ rest) ≡ count_from from (suc (length rest)) → (m.minute ≡ from) × (map (λ (d : Minute). d.minute) rest ≡ count_from (suc from) (length rest))
first-number m rest from is =
    let head : m.minute ≡ from = cc in
    let tail : map (λ (d : Minute). d.minute) rest ≡ count_from (from + 1) (length rest) = cc in
    let next : from + 1 ≡ suc from = omega arith in
    (head, tail ∙ ap (λ (n : ℕ). count_from n (length rest)) next)

module _ (o : Origin) (done : List TraceSecond) (s : TraceSecond) (q : Point) (b : Beginning) (os : Outset) (first last : Device → ℕ) (k : Keeper) (sp : Span) (v : Values) (marks0 : List Mark) (c0 : Course) (brought : Card → List ℕ)
    (few : s.number / 60 ≤ os.low + 4) (two : (m : ℕ) → AreTwo (present_at k.cabin m).driver (present_at k.cabin m).codriver) where
  -- ONE ROUND
  module _ (m : Minute) (rest : List Minute) (round : Round) (failed : Bool) (t : KeepingState) (w : RunLedger) (ds : List Minute) (new : List HistoryMinute) (from : ℕ)
      (h : SoFar o done s q b os first last k sp v marks0 c0 brought t w ds (m ∷ rest) new from) (is : IsRound (present_at k.cabin m.minute) (minute_of m k) (moment_of s q) failed t.keeper round)
      (broken : HasBrokenDown round.driver (present_at k.cabin m.minute).driver first last) (more : HasBrokenDown round.codriver (present_at k.cabin m.minute).codriver first last) where
    abbrev p : Present
    p = present_at k.cabin m.minute

    abbrev log : RunLog
    log = (told_values t v).log

    abbrev c : Course
    c = course_in b done s q.at log

    abbrev i : HistoryMinute
    i = seated (start_at o) (told_before b done) (b.run.book.sure ++ new) m

    abbrev u : KeepingState
    u = told_after p m.minute (moment_of s q) round t

    abbrev d : Course
    d = course_in b done s q.at (told_values u v).log

    abbrev x : RunLedger
    x = carried_after p (decided_minute k m) round w

    here : m.minute ≡ from
    here = (first-number m rest from h.numbers).0

    over : m.minute < s.number / 60
    over = All-head (λ (e : Minute). e.minute < s.number / 60) m rest h.over

    slate : Slate o done s q b os m.minute (b.run.book.sure ++ new) log w.standing t.keeper.cabin first last
    slate = subst (λ (n : ℕ). Slate o done s q b os n (b.run.book.sure ++ new) log w.standing t.keeper.cabin first last) (sym here) h.slate

    low-here : os.low ≤ m.minute
    low-here = let high = h.high in omega (arith, high, here)

    few-here : s.number / 60 ≤ m.minute + 4
    few-here = let high = h.high in omega (arith, high, here, few)

    i-is : i ≡ decided_minute k m
    i-is = minute-is o done s q b os first last k m t log w.standing new slate h.past over

    same : OnlyTears c d
    same = round-same o done s q b os first last k m t log w.standing new slate h.past over round failed low-here few-here is (two m.minute) broken more

    slate-after : Slate o done s q b os (suc from) (b.run.book.sure ++ (new ++ decided_minute k m ∷ [])) (told_values u v).log x.standing u.keeper.cabin first last
    slate-after =
        let one = round-slate o done s q b os first last k m t log w.standing new slate h.past over round failed low-here few-here is (two m.minute) broken more in
        subst (λ (n : ℕ). Slate o done s q b os (suc n) (b.run.book.sure ++ (new ++ decided_minute k m ∷ [])) (told_values u v).log x.standing u.keeper.cabin first last) here
        (subst (λ (j : HistoryMinute). Slate o done s q b os (suc m.minute) (b.run.book.sure ++ (new ++ j ∷ [])) (told_values u v).log x.standing u.keeper.cabin first last) i-is
        (subst (λ (js : List HistoryMinute). Slate o done s q b os (suc m.minute) js (told_values u v).log x.standing u.keeper.cabin first last) (append_assoc b.run.book.sure new (i ∷ [])) one))

    decided-after : HasDecided (rule_of o) (start_at o) (told_before b done) b.run b.span d q.speed sp (ds ++ m ∷ []) rest (new ++ decided_minute k m ∷ [])
    decided-after = nothing-else (rule_of o) (start_at o) (told_before b done) b.run b.span c d q.speed sp (ds ++ m ∷ []) rest (new ++ decided_minute k m ∷ [])
        (subst (λ (j : HistoryMinute). HasDecided (rule_of o) (start_at o) (told_before b done) b.run b.span c q.speed sp (ds ++ m ∷ []) rest (new ++ j ∷ [])) i-is
        (minute-kept (rule_of o) (start_at o) (told_before b done) b.run b.span c q.speed sp ds m rest new h.decided)) same.picks same.settled

    pub one-on : SoFar o done s q b os first last k sp v marks0 c0 brought u x (ds ++ m ∷ []) rest (new ++ decided_minute k m ∷ []) (suc from)
    one-on = record {
      slate = slate-after;
      past = round-past o done s q b os first last k m t log w.standing new slate h.past over round failed low-here few-here is (two m.minute) broken more;
      decided = decided-after;
      numbers = (first-number m rest from h.numbers).1;
      over = All-tail (λ (e : Minute). e.minute < s.number / 60) m rest h.over;
      high = let high = h.high in omega (arith, high);
      to = let to = h.to in let len = length-append ds (m ∷ []) in omega (arith, to, len);
      until = let until = h.until in omega (arith, until);
      ends = let ends = h.ends in omega (arith, ends);
      stay = λ mark at. marks-on o done s q b os first last k m t log w.standing new slate h.past over round failed low-here few-here is (two m.minute) broken more mark (h.stay mark at);
      same = tears-on c0 c d h.same same;
      due = omega (arith, here);
      book = ap (kept (decided_minute k m)) h.book ∙ sym (kept-more new (decided_minute k m) b.run.book);
      brought_is = h.brought_is;
      early = λ card n at. let lt = h.early card n at in let due = h.due in omega (arith, lt, due, here);
      found = found-after o.found p s.number round t.keeper.cabin h.found;
    }

    pub marked-on : IsFateOf (session_at (cabin_by round.driver p.driver s.number t.keeper.cabin).cards p.codriver) (kept_in (minute_of m k) CoDriver) round.codriver → AreMarkedSoFar t.marks.items (told_before b done) c s.number new →
        AreMarkedSoFar u.marks.items (told_before b done) d s.number (new ++ decided_minute k m ∷ [])
    marked-on asked old = subst (λ (j : HistoryMinute). AreMarkedSoFar u.marks.items (told_before b done) d s.number (new ++ j ∷ [])) i-is
        (round-marked o done s q b os first last k m t log w.standing new slate h.past over round failed low-here few-here is (two m.minute) broken more asked old)

  -- SOME ROUNDS, in none of which the unit failed
  pub record Through (xs : List Done) (tail : List Minute) (t : KeepingState) (w : RunLedger) (ds : List Minute) (new : List HistoryMinute) (from : ℕ) : Type 0 where
    pub ds_now : List Minute
    pub new_now : List HistoryMinute
    pub from_now : ℕ
    pub so : SoFar o done s q b os first last k sp v marks0 c0 brought (told_by k (moment_of s q) xs t) (carried_by k xs w) ds_now tail new_now from_now
    pub marked : AreMarkedSoFar (told_by k (moment_of s q) xs t).marks.items (told_before b done) (course_in b done s q.at (told_values (told_by k (moment_of s q) xs t) v).log) s.number new_now
    pub travel : all_travelled ds_now b.travel ≡ all_travelled (map (λ (x : Done). x.minute) xs) (all_travelled ds b.travel)
    pub none : s.number / 60 ≤ from → (new_now ≡ new) × (from_now ≡ from)
    pub count : from_now ≡ from + length xs

  asked-by : (m : Minute) (round : Round) (t : KeepingState) → IsRound (present_at k.cabin m.minute) (minute_of m k) (moment_of s q) false t.keeper round →
      IsFateOf (session_at (cabin_by round.driver (present_at k.cabin m.minute).driver s.number t.keeper.cabin).cards (present_at k.cabin m.minute).codriver) (kept_in (minute_of m k) CoDriver) round.codriver
  asked-by m round t is = ⊎_elim (λ off. let clash : false ≡ true = off.unit_failed in absurd (cc)) (λ f. f) is.codriver

  pub all-on : (xs : List Done) (tail : List Minute) (t : KeepingState) (w : RunLedger) (ds : List Minute) (new : List HistoryMinute) (from : ℕ) → SoFar o done s q b os first last k sp v marks0 c0 brought t w ds (map (λ (x : Done). x.minute) xs ++ tail) new from →
      AreMarkedSoFar t.marks.items (told_before b done) (course_in b done s q.at (told_values t v).log) s.number new → AreRounds k (moment_of s q) xs t → HaveBroken k xs first last → Through xs tail t w ds new from
  all-on [] tail t w ds new from h marked rounds broken = record { ds_now = ds; new_now = new; from_now = from; so = h; marked = marked; travel = refl; none = λ late. (refl, refl); count = omega arith }
  all-on (x ∷ xs) tail t w ds new from h marked rounds broken =
      let m = x.minute in
      let rest : List Minute = map (λ (y : Done). y.minute) xs ++ tail in
      let one = one-on m rest x.round false t w ds new from h rounds.0 broken.0 broken.1 in
      let marked_one = marked-on m rest x.round false t w ds new from h rounds.0 broken.0 broken.1 (asked-by m x.round t rounds.0) marked in
      let end = all-on xs tail (told_after (present_at k.cabin m.minute) m.minute (moment_of s q) x.round t) (carried_after (present_at k.cabin m.minute) (decided_minute k m) x.round w) (ds ++ m ∷ []) (new ++ decided_minute k m ∷ []) (suc from) one marked_one rounds.1 broken.2 in
      record {
        ds_now = end.ds_now;
        new_now = end.new_now;
        from_now = end.from_now;
        so = end.so;
        marked = end.marked;
        travel = end.travel ∙ ap (all_travelled (map (λ (y : Done). y.minute) xs)) (one-travelled ds m b.travel);
        none = λ late. absurd (let lt = All-head (λ (e : Minute). e.minute < s.number / 60) m rest h.over in let at = (first-number m rest from h.numbers).0 in omega (arith, late, lt, at));
        count = let count = end.count in omega (arith, count);
      }
