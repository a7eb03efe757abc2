-- What is followed of a run, but for the lines of its log and its power: over seconds, minutes that are kept, cuts, and what is found.
use Rattle.std.proofs.Common.{◌≡◌, ◌⊎◌, inl, inr, ⊎_elim, ℕ, ◌+◌, ◌/◌, ◌<◌, ◌≤◌, Bool, true, false, ◌||◌, nat_lt, Option, Some, None, List, [], ◌∷◌, ◌++◌, All, length, take, refl, ap, sym, subst, ◌∙◌, append-nil, arith}
use Rattle.std.specs.Prelude.{option_to_list}
use Rattle.std.specs.List.{AllByRecursion}
use Rattle.trace_model.specs.Trace.{TraceSecond}
use Rattle.minute_model.specs.declared.Rule.{Rule}
use Rattle.minute_model.specs.Activity.{last}
use Rattle.log_model.specs.declared.lines.Break.{Break}
use Rattle.log_model.specs.Log.{RunLog, kept_after}
use Rattle.log_model.specs.Course.{ToldSecond, Went, went}
use Rattle.log_model.specs.Spans.{spans_of, AreInOrder, AreApart}
use Rattle.log_model.proofs.Spanning.{spanned}
use Rattle.history_model.specs.Minutes.{HistoryMinute}
use Rattle.history_model.specs.Presence.{Start}
use Rattle.history_model.specs.History.{minutes_after, decided_of, span_minutes, cut_second, any_long, limit_of, history_by, unit_history, with_lost}
use Rattle.history_model.specs.Growth.{closed_history, Rises}
use Rattle.history_model.specs.Book.{Book, all, kept, found, Follows, AreLost, IsMark}
use Rattle.history_model.proofs.Books.{all-none}
use Rattle.history_model.proofs.Closing.{history-long}
use Rattle.history_model.proofs.Following.{follows-kept, follows-broken, follows-found}
use Rattle.history_model.proofs.Told.{rises}
use Rattle.run_unit_course.specs.Lines.{found_from, tells_cut}
use Rattle.run_unit_course.specs.Followed.{UnitPower, Lit, Due, Lost, going_on, as_spans}
use Rattle.run_unit_course.proofs.Lines.{take-all, tells-found, tells-front}
use Rattle.run_unit_course.proofs.Parts.{beyond-mark, follows-whole, follows-same, whole-lost, short-history, short-lost}
use Rattle.run_course.specs.Followed.{IsShut, IsTied}
use Rattle.run_course.specs.Seconds.{kept_all, broken_at}
use Rattle.run_course.proofs.Logs.{found_log, went-found, kept-found}
use Rattle.run_course.proofs.Alike.{Stays, stays-same, empty-minutes, known-open}
use Rattle.run_course.proofs.Ties.{shut-on, shut-off, open-off, ended-alike, same-minutes, same-losses, shut-kept, cut-long, found-shut, found-open}

pub record Core (rule : Rule) (start : Start) (from first : ℕ) (done : List TraceSecond) (log : RunLog) (unfound next : ℕ) (supply : UnitPower) (b : Book) (waiting : List HistoryMinute) : Type 0 where
  pub early : first < from / 60
  pub order : AreInOrder from done
  pub number : next ≡ from + length done
  pub within : unfound ≤ length log.breaks
  pub ended : List (List ToldSecond)
  pub spans : spans_of (went log done).told ≡ ended ++ as_spans (going_on supply)
  pub tied : IsTied rule start log (take unfound log.breaks) (went log done).told ended supply b waiting
  pub follows : Follows (unit_history rule start log (went log done).told) (with_lost rule start log (went log done).told) b

-- the history where the newest span has two seconds
pub whole-history : (rule : Rule) (start : Start) (log : RunLog) (told : List ToldSecond) (ended : List (List ToldSecond)) (span : List ToldSecond) → spans_of told ≡ ended ++ span ∷ [] → nat_lt 1 (length span) ≡ true →
    unit_history rule start log told ≡ closed_history rule start log told ended ++ span_minutes rule start told (closed_history rule start log told ended) span
unfolding unit_history
whole-history rule start log told ended span are long =
    ap (history_by rule start (limit_of log) told []) are ∙ history-long rule start told log ended span (ap (λ (b : Bool). b || false) long)

-- a span of one second, or none, that decided nothing
pub record IsShort (rule : Rule) (span longer : List ToldSecond) (new : List HistoryMinute) : Type 0 where
  pub before : AllByRecursion (λ (span : List ToldSecond). decided_of rule span ≡ []) (as_spans span)
  pub was : any_long (as_spans span) ≡ false
  pub after : decided_of rule longer ≡ []
  pub is : any_long (longer ∷ []) ≡ false
  pub none : new ≡ []

-- THE SPAN GOES ON, or its last second turns out to be a cut's
module _ (rule : Rule) (start : Start) (from first : ℕ) (done : List TraceSecond) (log : RunLog) (unfound next : ℕ) (span : List ToldSecond) (b : Book) (c : Core rule start from first done log unfound next (Lit span) b []) where
  abbrev told : List ToldSecond
  told = (went log done).told

  abbrev known : List Break
  known = take unfound log.breaks

  module _ (now_done : List TraceSecond) (later : RunLog) (now_next : ℕ) (longer : List ToldSecond) (new : List HistoryMinute) (order : AreInOrder from now_done) (number : now_next ≡ from + length now_done)
      (front : take unfound later.breaks ≡ known) (within : unfound ≤ length later.breaks) (same : (u : ℕ) → tells_cut u known ≡ true → kept_after log u ≡ kept_after later u)
      (spans : spans_of (went later now_done).told ≡ c.ended ++ longer ∷ []) (solid : as_spans longer ≡ longer ∷ []) (stays : Stays rule start told (went later now_done).told c.ended)
      (on : span_minutes rule start (went later now_done).told (closed_history rule start log told c.ended) longer ≡ span_minutes rule start told (closed_history rule start log told c.ended) span ++ new)
      (which : (nat_lt 1 (length longer) ≡ true) ⊎ IsShort rule span longer new) where
    abbrev now : List ToldSecond
    now = (went later now_done).told

    shut-now : IsShut rule start later known now c.ended longer b new
    shut-now = shut-on rule start log later known same told now known c.ended span longer b new stays (λ u t. t) on (⊎_elim (λ long. inr long) (λ short. inl short.none) which) c.tied

    -- of a span of one second the history is as it was
    pub shifted-short : IsShort rule span longer new → (unit_history rule start later now ≡ unit_history rule start log told) × (with_lost rule start later now ≡ with_lost rule start log told)
    shifted-short short =
        let alike = known-open rule known log later same c.ended c.tied.known in (
          short-history rule start later now c.ended (longer ∷ []) spans short.is (short.after, tt)
              ∙ same-minutes rule start log later known same told now c.ended stays alike
              ∙ sym (short-history rule start log told c.ended (as_spans span) c.spans short.was short.before),
          short-lost rule start later now c.ended (longer ∷ []) spans short.is (short.after, tt)
              ∙ same-losses rule start log later known same told now c.ended stays alike
              ∙ sym (short-lost rule start log told c.ended (as_spans span) c.spans short.was short.before),
        )

    follows-now : Follows (unit_history rule start later now) (with_lost rule start later now) b
    follows-now = ⊎_elim
        (λ long. follows-whole (unit_history rule start later now) new (with_lost rule start later now) b
        (whole-history rule start later now c.ended longer spans long ∙ shut-now.minutes ∙ ap (λ (is : List HistoryMinute). is ++ new) (sym (all-none b shut-now.none)))
        (subst (λ (ls : List (List HistoryMinute)). AreLost ls b) (sym (whole-lost rule start later now c.ended longer spans long)) shut-now.lost))
        (λ short. follows-same (unit_history rule start log told) (unit_history rule start later now) (with_lost rule start log told) (with_lost rule start later now) b (shifted-short short).0 (shifted-short short).1 c.follows)
        which

    pub shifted : Core rule start from first now_done later unfound now_next (Lit longer) b new
    shifted = record {
      early = c.early;
      order = order;
      number = number;
      within = within;
      ended = c.ended;
      spans = spans ∙ ap (λ (ss : List (List ToldSecond)). c.ended ++ ss) (sym solid);
      tied = subst (λ (bs : List Break). IsShut rule start later bs now c.ended longer b new) (sym front) shut-now;
      follows = follows-now;
    }

-- A MINUTE IS KEPT
module _ (rule : Rule) (start : Start) (from first : ℕ) (done : List TraceSecond) (log : RunLog) (unfound next : ℕ) (span : List ToldSecond) (solid : as_spans span ≡ span ∷ []) where
  abbrev seconds : List ToldSecond
  seconds = (went log done).told

  -- the history, with the minutes that wait
  pub waits : (b : Book) (waiting : List HistoryMinute) (c : Core rule start from first done log unfound next (Lit span) b waiting) → nat_lt 1 (length span) ≡ true → unit_history rule start log seconds ≡ all b ++ waiting
  waits b waiting c long =
      whole-history rule start log seconds c.ended span (c.spans ∙ ap (λ (ss : List (List ToldSecond)). c.ended ++ ss) solid) long
      ∙ c.tied.minutes ∙ ap (λ (is : List HistoryMinute). is ++ waiting) (sym (all-none b c.tied.none))

  pub keeps : (b : Book) (i : HistoryMinute) (rest : List HistoryMinute) → Core rule start from first done log unfound next (Lit span) b (i ∷ rest) → Core rule start from first done log unfound next (Lit span) (kept i b) rest
  keeps b i rest c = record {
    early = c.early;
    order = c.order;
    number = c.number;
    within = c.within;
    ended = c.ended;
    spans = c.spans;
    tied = shut-kept rule start log (take unfound log.breaks) seconds c.ended span b i rest c.tied;
    follows =
        let long = ⊎_elim (λ (e : i ∷ rest ≡ []). absurd (cc)) (λ long. long) c.tied.whole in
        follows-kept (unit_history rule start log seconds) rest (with_lost rule start log seconds) b i c.tied.none (waits b (i ∷ rest) c long) c.follows;
  }

  pub keeps-all : (b : Book) (front rest : List HistoryMinute) → Core rule start from first done log unfound next (Lit span) b (front ++ rest) → Core rule start from first done log unfound next (Lit span) (kept_all front b) rest
  keeps-all b [] rest c = c
  keeps-all b (i ∷ front) rest c = keeps-all (kept i b) front rest (keeps b i (front ++ rest) c)

  -- THE SPAN ENDS WITH A CUT
  module _ (second : ℕ) (is : cut_second (last span) ≡ Some second) (tells : tells_cut second log.breaks ≡ true) (absent : tells_cut second (take unfound log.breaks) ≡ false) where
    abbrev known_ : List Break
    known_ = take unfound log.breaks

    follows-cut : (b : Book) (i : Option HistoryMinute) (rest : List HistoryMinute) (c : Core rule start from first done log unfound next (Lit span) b (option_to_list i ++ rest)) → nat_lt 1 (length span) ≡ true →
        Follows (unit_history rule start log seconds) (with_lost rule start log seconds) (broken_at i b)
    follows-cut b None rest c long = c.follows
    follows-cut b (Some i) rest c long = follows-broken (unit_history rule start log seconds) rest (with_lost rule start log seconds) b i c.tied.none (waits b (i ∷ rest) c long) c.follows

    ends-long : (b : Book) (i : Option HistoryMinute) (rest : List HistoryMinute) (c : Core rule start from first done log unfound next (Lit span) b (option_to_list i ++ rest)) → nat_lt 1 (length span) ≡ true → Core rule start from first done log unfound next Due (broken_at i b) []
    ends-long b i rest c long = record {
      early = c.early;
      order = c.order;
      number = c.number;
      within = c.within;
      ended = c.ended ++ span ∷ [];
      spans = c.spans ∙ ap (λ (ss : List (List ToldSecond)). c.ended ++ ss) solid ∙ sym (append-nil (c.ended ++ span ∷ []));
      tied = (refl, inr (cut-long rule start log known_ seconds c.ended span b i (option_to_list i ++ rest) second long is tells absent c.tied));
      follows = follows-cut b i rest c long;
    }

    ends-short : (b : Book) (c : Core rule start from first done log unfound next (Lit span) b []) → decided_of rule span ≡ [] → Core rule start from first done log unfound next Due b []
    ends-short b c none = record {
      early = c.early;
      order = c.order;
      number = c.number;
      within = c.within;
      ended = c.ended ++ span ∷ [];
      spans = c.spans ∙ ap (λ (ss : List (List ToldSecond)). c.ended ++ ss) solid ∙ sym (append-nil (c.ended ++ span ∷ []));
      tied = (refl, inl (shut-off rule start log log known_ (λ u t. refl) seconds seconds known_ c.ended (span ∷ []) b (stays-same rule start seconds c.ended) (λ u t. t) (none, tt) (shut c.tied)));
      follows = c.follows;
    }
      where
        -- a span that decided nothing
        shut : IsShut rule start log known_ seconds c.ended span b [] → IsShut rule start log known_ seconds c.ended [] b []
        shut sh = record {
          known = sh.known;
          none = sh.none;
          minutes =
              ap (λ (is : List HistoryMinute). closed_history rule start log seconds c.ended ++ is)
              (empty-minutes rule start seconds (closed_history rule start log seconds c.ended) ∙ sym (ap (minutes_after start seconds (closed_history rule start log seconds c.ended)) none))
              ∙ sh.minutes;
          begins = sh.begins;
          whole = inl refl;
          lost = sh.lost;
        }

    nothing-broken : (o : Option HistoryMinute) (rest : List HistoryMinute) → option_to_list o ++ rest ≡ [] → (o ≡ None) × (rest ≡ [])
    nothing-broken None rest e = (refl, e)
    nothing-broken (Some i) rest e = absurd (cc)

    pub ends : (b : Book) (i : Option HistoryMinute) (rest : List HistoryMinute) → Core rule start from first done log unfound next (Lit span) b (option_to_list i ++ rest) → (nat_lt 1 (length span) ≡ true) ⊎ (decided_of rule span ≡ []) →
        Core rule start from first done log unfound next Due (broken_at i b) []
    ends b i rest c which = ⊎_elim
        (λ long. ends-long b i rest c long)
        (λ short. ⊎_elim
        (λ (e : option_to_list i ++ rest ≡ []).
        let none = nothing-broken i rest e in
        subst (λ (o : Option HistoryMinute). Core rule start from first done log unfound next Due (broken_at o b) []) (sym none.0)
        (ends-short b (subst (λ (w : List HistoryMinute). Core rule start from first done log unfound next (Lit span) b w) e c) short))
        (λ long. ends-long b i rest c long)
        c.tied.whole)
        which

-- WITHOUT POWER
pub lit-due : (rule : Rule) (start : Start) (from first : ℕ) (done : List TraceSecond) (log : RunLog) (unfound next : ℕ) (b : Book) → Core rule start from first done log unfound next (Lit []) b [] → Core rule start from first done log unfound next Due b []
lit-due rule start from first done log unfound next b c =
    record { early = c.early; order = c.order; number = c.number; within = c.within; ended = c.ended; spans = c.spans; tied = (refl, inl c.tied); follows = c.follows }

pub lost-due : (rule : Rule) (start : Start) (from first : ℕ) (done : List TraceSecond) (log : RunLog) (unfound next : ℕ) (b : Book) (w : List HistoryMinute) → Core rule start from first done log unfound next Lost b w → Core rule start from first done log unfound next Due b w
lost-due rule start from first done log unfound next b w c =
    record { early = c.early; order = c.order; number = c.number; within = c.within; ended = c.ended; spans = c.spans; tied = c.tied; follows = c.follows }

pub due-lost : (rule : Rule) (start : Start) (from first : ℕ) (done : List TraceSecond) (log : RunLog) (unfound next : ℕ) (b : Book) (w : List HistoryMinute) → Core rule start from first done log unfound next Due b w → Core rule start from first done log unfound next Lost b w
due-lost rule start from first done log unfound next b w c =
    record { early = c.early; order = c.order; number = c.number; within = c.within; ended = c.ended; spans = c.spans; tied = c.tied; follows = c.follows }

module _ (rule : Rule) (start : Start) (from first : ℕ) (done : List TraceSecond) (log : RunLog) (unfound next : ℕ) (b : Book) (w : List HistoryMinute) (c : Core rule start from first done log unfound next Due b w) where
  abbrev before : List ToldSecond
  before = (went log done).told

  abbrev sure : List Break
  sure = take unfound log.breaks

  -- seconds and lines are added that decide nothing: without power, or a span of one second
  pub rests : (now_done : List TraceSecond) (later : RunLog) (now_next : ℕ) (behind : List (List ToldSecond)) → AreInOrder from now_done → now_next ≡ from + length now_done →
      take unfound later.breaks ≡ sure → unfound ≤ length later.breaks → ((u : ℕ) → tells_cut u log.breaks ≡ true → tells_cut u later.breaks ≡ true) →
      ((u : ℕ) → tells_cut u sure ≡ true → kept_after log u ≡ kept_after later u) → spans_of (went later now_done).told ≡ c.ended ++ behind → Stays rule start before (went later now_done).told c.ended →
      AllByRecursion (λ (span : List ToldSecond). decided_of rule span ≡ []) behind → any_long behind ≡ false → Core rule start from first now_done later unfound now_next Due b w
  rests now_done later now_next behind order number front within tells same spans stays none short =
      let now : List ToldSecond = (went later now_done).told in
      let alike = ended-alike rule start log later sure same before now c.ended b c.tied.1 in
      let was = c.spans in
      record {
        early = c.early;
        order = order;
        number = number;
        within = within;
        ended = c.ended ++ behind;
        spans = spans ∙ sym (append-nil (c.ended ++ behind));
        tied = (
          c.tied.0,
          ⊎_elim
              (λ sh. inl (shut-off rule start log later sure same before now (take unfound later.breaks) c.ended behind b stays (λ u is. subst (λ (bs : List Break). tells_cut u bs ≡ true) (sym front) is) none sh))
              (λ o. inr (open-off rule start log later sure same before now (take unfound later.breaks) c.ended behind b stays (λ u. ap (tells_cut u) (sym front)) tells none short o)) c.tied.1,
        );
        follows = follows-same (unit_history rule start log before) (unit_history rule start later now) (with_lost rule start log before) (with_lost rule start later now) b
            (short-history rule start later now c.ended behind spans short none
            ∙ same-minutes rule start log later sure same before now c.ended stays alike
            ∙ sym (short-history rule start log before c.ended [] was refl tt))
            (short-lost rule start later now c.ended behind spans short none
            ∙ same-losses rule start log later sure same before now c.ended stays alike
            ∙ sym (short-lost rule start log before c.ended [] was refl tt))
            c.follows;
      }

  -- and the history is as it was
  pub rests-minutes : (now_done : List TraceSecond) (later : RunLog) (behind : List (List ToldSecond)) → ((u : ℕ) → tells_cut u sure ≡ true → kept_after log u ≡ kept_after later u) → spans_of (went later now_done).told ≡ c.ended ++ behind →
      Stays rule start before (went later now_done).told c.ended → AllByRecursion (λ (span : List ToldSecond). decided_of rule span ≡ []) behind → any_long behind ≡ false →
      unit_history rule start later (went later now_done).told ≡ unit_history rule start log before
  rests-minutes now_done later behind same spans stays none short =
      short-history rule start later (went later now_done).told c.ended behind spans short none
      ∙ same-minutes rule start log later sure same before (went later now_done).told c.ended stays (ended-alike rule start log later sure same before (went later now_done).told c.ended b c.tied.1)
      ∙ sym (short-history rule start log before c.ended [] c.spans refl tt)

  -- it is found what was kept
  module _ (k : ℕ) (mark : IsMark first (all b) k) (low : All (λ i. i.minute ≤ k) b.sure) where
    abbrev found_later : RunLog
    found_later = found_log unfound k log

    abbrev count : ℕ
    count = length (found_from unfound k log.breaks)

    pub found-told : went found_later done ≡ went log done
    found-told = went-found log unfound k from done c.order

    seconds-same : (went found_later done).told ≡ before
    seconds-same = ap (λ (w : Went). w.told) found-told

    minutes-now : unit_history rule start log before ≡ history_by rule start (limit_of log) before [] c.ended
    minutes-now = short-history rule start log before c.ended [] c.spans refl tt

    goes : (u : ℕ) → tells_cut u log.breaks ≡ true → tells_cut u (take count found_later.breaks) ≡ true
    goes u is = ap (tells_cut u) (take-all found_later.breaks) ∙ tells-found u unfound k log.breaks ∙ is

    found-tied : IsShut rule start found_later (take count found_later.breaks) before c.ended [] (found k b) []
    found-tied = ⊎_elim
        (λ sh. found-shut rule start log found_later sure (take count found_later.breaks) (kept-found log unfound k) before c.ended b k (λ u is. goes u (tells-front u unfound log.breaks is)) low sh)
        (λ o. let f = c.follows.front in
        let whole = spanned log from done c.order in
        found-open rule start log unfound k before from (from + length done) c.ended (subst (λ (ss : List (List ToldSecond)). AreApart from ss (from + length done)) (c.spans ∙ append-nil c.ended) whole.apart) b low o
        (take count found_later.breaks) goes f.0 (sym minutes-now ∙ f.1)
        (beyond-mark first (from / 60) ((from + length done) / 60) k (all b) f.0 c.early (subst (λ (is : List HistoryMinute). Rises (from / 60) is ((from + length done) / 60)) f.1 (rises from rule start log done c.order)) mark))
        c.tied.1

    -- the history is as it was
    pub found-minutes : unit_history rule start found_later (went found_later done).told ≡ unit_history rule start log before
    found-minutes =
        let stays = subst (λ (ts : List ToldSecond). Stays rule start before ts c.ended) (sym seconds-same) (stays-same rule start before c.ended) in
        rests-minutes done found_later [] (kept-found log unfound k) (ap spans_of seconds-same ∙ c.spans) stays tt refl

    pub rest-found : Core rule start from first done found_later count next (Lit []) (found k b) []
    rest-found =
        let alike = ended-alike rule start log found_later sure (kept-found log unfound k) before (went found_later done).told c.ended b c.tied.1 in
        let stays = subst (λ (ts : List ToldSecond). Stays rule start before ts c.ended) (sym seconds-same) (stays-same rule start before c.ended) in
        let spans = ap spans_of seconds-same ∙ c.spans in
        record {
          early = c.early;
          order = c.order;
          number = c.number;
          within = omega arith;
          ended = c.ended;
          spans = spans;
          tied = subst (λ (ts : List ToldSecond). IsShut rule start found_later (take count found_later.breaks) ts c.ended [] (found k b) []) (sym seconds-same) found-tied;
          follows = follows-found k b low (unit_history rule start found_later (went found_later done).told) (with_lost rule start found_later (went found_later done).told)
              (follows-same (unit_history rule start log before) (unit_history rule start found_later (went found_later done).told) (with_lost rule start log before) (with_lost rule start found_later (went found_later done).told) b
              (short-history rule start found_later (went found_later done).told c.ended [] spans refl tt
              ∙ same-minutes rule start log found_later sure (kept-found log unfound k) before (went found_later done).told c.ended stays alike ∙ sym minutes-now)
              (short-lost rule start found_later (went found_later done).told c.ended [] spans refl tt
              ∙ same-losses rule start log found_later sure (kept-found log unfound k) before (went found_later done).told c.ended stays alike
              ∙ sym (short-lost rule start log before c.ended [] c.spans refl tt))
              c.follows);
        }
