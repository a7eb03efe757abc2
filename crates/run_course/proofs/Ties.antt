-- How the spans that have ended and the book stay tied: over seconds, minutes that are kept, cuts, and what is found.
use Rattle.std.proofs.Common.{◌≡◌, ◌⊎◌, inl, inr, ⊎_elim, ℕ, ◌<◌, ◌≤◌, Bool, true, false, cond, ◌||◌, nat_lt, Option, Some, None, List, [], ◌∷◌, ◌++◌, All, Contains, length, map, take, drop, refl, ap, sym, subst, ◌∙◌, append_assoc, append-nil}
use Rattle.std.specs.Prelude.{option_to_list}
use Rattle.std.specs.List.{AllByRecursion}
use Rattle.std.proofs.lemmas.List.Elements.{Contains-push, Contains-append_left}
use Rattle.minute_model.specs.declared.Rule.{Rule}
use Rattle.minute_model.specs.Activity.{last}
use Rattle.log_model.specs.declared.lines.Break.{Break}
use Rattle.log_model.specs.Log.{RunLog, kept_after}
use Rattle.log_model.specs.Course.{ToldSecond}
use Rattle.log_model.specs.Spans.{AreApart}
use Rattle.history_model.specs.Minutes.{HistoryMinute, up_to}
use Rattle.history_model.specs.Presence.{Start}
use Rattle.history_model.specs.History.{decided_of, span_minutes, limited_to, lost_minute, limit_by, cut_second, limit_of, any_long, history_by, lost_by}
use Rattle.history_model.specs.Growth.{closed_limit, closed_history, EndsAtLimit}
use Rattle.history_model.specs.Book.{Book, all, kept, found, AreLost}
use Rattle.history_model.proofs.Books.{all-none, up_to-whole}
use Rattle.history_model.proofs.Filters.{all-front}
use Rattle.history_model.proofs.BySeconds.{open-history, closed-history, closed-lost}
use Rattle.history_model.proofs.Following.{follows-limit}
use Rattle.run_unit_course.specs.Lines.{tells_cut}
use Rattle.run_unit_course.specs.Followed.{IsKnown, closed_lost}
use Rattle.run_unit_course.proofs.Lines.{kept-now, tells-front, tells-behind}
use Rattle.run_unit_course.proofs.Alike.{Alike, nothing-alike}
use Rattle.run_unit_course.proofs.Parts.{either-lost, closed-behind, lost-behind, known-append, known-nothing, known-more}
use Rattle.run_course.specs.Followed.{IsShut, IsOpen}
use Rattle.run_course.specs.Seconds.{broken_at}
use Rattle.run_course.proofs.Lookups.{kept-by}
use Rattle.run_course.proofs.Logs.{found_log, kept-found}
use Rattle.run_course.proofs.Alike.{Stays, stays-same, stays-front, empty-minutes, histories-alike, losses-alike, known-closed, known-open, known-parts}

-- SECONDS AND LINES MORE: two logs that tell the same of what was kept after the cuts that are known, and two lists of seconds
module _ (rule : Rule) (start : Start) (log later : RunLog) (found : List Break) (same : (u : ℕ) → tells_cut u found ≡ true → kept_after log u ≡ kept_after later u) (told more : List ToldSecond) where
  pub closed-same : (spans : List (List ToldSecond)) → AllByRecursion (IsKnown rule found) spans → Stays rule start told more spans → closed_history rule start later more spans ≡ closed_history rule start log told spans
  closed-same spans known stays = sym (histories-alike rule start told more (closed_limit log) (closed_limit later) [] spans (known-closed rule found log later same spans known) stays)

  pub lost-same : (spans : List (List ToldSecond)) → AllByRecursion (IsKnown rule found) spans → Stays rule start told more spans → closed_lost rule start later more spans ≡ closed_lost rule start log told spans
  lost-same spans known stays = sym (losses-alike rule start told more (closed_limit log) (closed_limit later) [] spans (known-closed rule found log later same spans known) stays)

  -- power is kept: the span goes on, and these minutes are decided
  pub shut-on : (later_found : List Break) (ended : List (List ToldSecond)) (span longer : List ToldSecond) (b : Book) (new : List HistoryMinute) → Stays rule start told more ended →
      ((u : ℕ) → tells_cut u found ≡ true → tells_cut u later_found ≡ true) →
      span_minutes rule start more (closed_history rule start log told ended) longer ≡ span_minutes rule start told (closed_history rule start log told ended) span ++ new → (new ≡ []) ⊎ (nat_lt 1 (length longer) ≡ true) →
      IsShut rule start log found told ended span b [] → IsShut rule start later later_found more ended longer b new
  shut-on later_found ended span longer b new stays goes on which sh = record {
    known = known-more rule found later_found ended goes sh.known;
    none = sh.none;
    minutes =
        ap (λ (is : List HistoryMinute). is ++ span_minutes rule start more is longer) (closed-same ended sh.known stays)
        ∙ ap (λ (is : List HistoryMinute). closed_history rule start log told ended ++ is) on
        ∙ sym (append_assoc (closed_history rule start log told ended) (span_minutes rule start told (closed_history rule start log told ended) span) new)
        ∙ ap (λ (is : List HistoryMinute). is ++ new) (sh.minutes ∙ append-nil b.sure);
    begins = (sh.begins.0, sh.begins.1 ∙ ap (λ (is : List HistoryMinute). is ++ sh.begins.0) (sym (closed-same ended sh.known stays)));
    whole = which;
    lost = subst (λ (ls : List (List HistoryMinute)). AreLost ls b) (sym (lost-same ended sh.known stays)) sh.lost;
  }

  -- no power: spans that decided nothing are added
  pub shut-off : (later_found : List Break) (ended behind : List (List ToldSecond)) (b : Book) → Stays rule start told more ended → ((u : ℕ) → tells_cut u found ≡ true → tells_cut u later_found ≡ true) →
      AllByRecursion (λ (span : List ToldSecond). decided_of rule span ≡ []) behind → IsShut rule start log found told ended [] b [] → IsShut rule start later later_found more (ended ++ behind) [] b []
  shut-off later_found ended behind b stays goes none sh =
      let closes = closed-behind rule start later more ended behind none ∙ closed-same ended sh.known stays in record {
        known = known-append rule later_found ended behind (known-more rule found later_found ended goes sh.known) (known-nothing rule later_found behind none);
        none = sh.none;
        minutes =
            ap (λ (is : List HistoryMinute). is ++ span_minutes rule start more is []) closes
            ∙ ap (λ (is : List HistoryMinute). closed_history rule start log told ended ++ is) (empty-minutes rule start more (closed_history rule start log told ended) ∙ sym (empty-minutes rule start told (closed_history rule start log told ended)))
            ∙ sh.minutes;
        begins = (sh.begins.0, sh.begins.1 ∙ ap (λ (is : List HistoryMinute). is ++ sh.begins.0) (sym closes));
        whole = inl refl;
        lost = subst (λ (ls : List (List HistoryMinute)). AreLost ls b) (sym (lost-behind rule start later more ended behind none ∙ lost-same ended sh.known stays)) sh.lost;
      }

  pub open-off : (later_found : List Break) (ended behind : List (List ToldSecond)) (b : Book) → Stays rule start told more ended → ((u : ℕ) → tells_cut u found ≡ tells_cut u later_found) → ((u : ℕ) → tells_cut u log.breaks ≡ true → tells_cut u later.breaks ≡ true) →
      AllByRecursion (λ (span : List ToldSecond). decided_of rule span ≡ []) behind → any_long behind ≡ false → IsOpen rule start log found told ended b → IsOpen rule start later later_found more (ended ++ behind) b
  open-off later_found ended behind b stays goes tells none short o =
      let front_stays = stays-front rule start told more o.front (o.span ∷ o.short) (subst (Stays rule start told more) o.are stays) in record {
        front = o.front;
        span = o.span;
        short = o.short ++ behind;
        are = ap (λ (ss : List (List ToldSecond)). ss ++ behind) o.are ∙ append_assoc o.front (o.span ∷ o.short) behind;
        known = known-more rule found later_found o.front (λ u is. sym (goes u) ∙ is) o.known;
        long = o.long;
        none = short-append o.short behind o.none short;
        nothing = all-append o.short behind o.nothing none;
        second = o.second;
        cut = o.cut;
        told_cut = tells o.second o.told_cut;
        unfound = sym (goes o.second) ∙ o.unfound;
        begins = (o.begins.0, o.begins.1 ∙ ap (λ (is : List HistoryMinute). is ++ o.begins.0) (sym (closed-same o.front o.known front_stays)));
        lost = subst (λ (ls : List (List HistoryMinute)). AreLost ls b) (sym (lost-same o.front o.known front_stays)) o.lost;
      }
    where
      all-append : (xs ys : List (List ToldSecond)) → AllByRecursion (λ (span : List ToldSecond). decided_of rule span ≡ []) xs → AllByRecursion (λ (span : List ToldSecond). decided_of rule span ≡ []) ys → AllByRecursion (λ (span : List ToldSecond). decided_of rule span ≡ []) (xs ++ ys)
      all-append [] ys h k = k
      all-append (x ∷ xs) ys h k = (h.0, all-append xs ys h.1 k)

      short-append : (xs ys : List (List ToldSecond)) → any_long xs ≡ false → any_long ys ≡ false → any_long (xs ++ ys) ≡ false
      short-append [] ys h k = k
      short-append (x ∷ xs) ys h k = go (nat_lt 1 (length x)) h (λ rest. short-append xs ys rest k)
        where
          go : (t : Bool) → (t || any_long xs) ≡ false → (any_long xs ≡ false → any_long (xs ++ ys) ≡ false) → (t || any_long (xs ++ ys)) ≡ false
          go true h rest = h
          go false h rest = rest h

  -- the history of the spans that have ended is the same
  pub ended-alike : (ended : List (List ToldSecond)) (b : Book) → IsShut rule start log found told ended [] b [] ⊎ IsOpen rule start log found told ended b → Alike rule (limit_of log) (limit_of later) ended
  ended-alike ended b (inl sh) = known-open rule found log later same ended sh.known
  ended-alike ended b (inr o) =
      subst (Alike rule (limit_of log) (limit_of later)) (sym o.are)
      (known-parts rule found log later same o.front (o.span ∷ o.short) o.known (
        inr (ap (λ (t : Bool). cond t (limit_by log (cut_second (last o.span))) None) o.none ∙ sym (ap (λ (t : Bool). cond t (limit_by later (cut_second (last o.span))) None) o.none)),
        nothing-alike rule (limit_of log) (limit_of later) o.short o.nothing,
      ))

  pub same-minutes : (ended : List (List ToldSecond)) → Stays rule start told more ended → Alike rule (limit_of log) (limit_of later) ended → history_by rule start (limit_of later) more [] ended ≡ history_by rule start (limit_of log) told [] ended
  same-minutes ended stays alike = sym (histories-alike rule start told more (limit_of log) (limit_of later) [] ended alike stays)

  pub same-losses : (ended : List (List ToldSecond)) → Stays rule start told more ended → Alike rule (limit_of log) (limit_of later) ended → lost_by rule start (limit_of later) more [] ended ≡ lost_by rule start (limit_of log) told [] ended
  same-losses ended stays alike = sym (losses-alike rule start told more (limit_of log) (limit_of later) [] ended alike stays)

-- A MINUTE IS KEPT
pub shut-kept : (rule : Rule) (start : Start) (log : RunLog) (found : List Break) (told : List ToldSecond) (ended : List (List ToldSecond)) (span : List ToldSecond) (b : Book) (i : HistoryMinute) (rest : List HistoryMinute) →
    IsShut rule start log found told ended span b (i ∷ rest) → IsShut rule start log found told ended span (kept i b) rest
shut-kept rule start log found told ended span b i rest sh = record {
  known = sh.known;
  none = refl;
  minutes = sh.minutes ∙ sym (append_assoc b.sure (i ∷ []) rest);
  begins = (sh.begins.0 ++ i ∷ [], ap (λ (is : List HistoryMinute). is ++ i ∷ []) sh.begins.1 ∙ append_assoc (closed_history rule start log told ended) sh.begins.0 (i ∷ []));
  whole = ⊎_elim (λ (e : i ∷ rest ≡ []). absurd (cc)) (λ long. inr long) sh.whole;
  lost = λ past at. ⊎_elim (λ f. inl (f.0 ++ i ∷ [], ap (λ (is : List HistoryMinute). is ++ i ∷ []) f.1 ∙ append_assoc past f.0 (i ∷ []))) (λ l. inr l) (sh.lost past at);
}

-- THE SPAN ENDS WITH A CUT
sure-broken : (o : Option HistoryMinute) (b : Book) → (broken_at o b).sure ≡ b.sure
sure-broken None b = refl
sure-broken (Some i) b = refl

lost-broken : (ls : List (List HistoryMinute)) (o : Option HistoryMinute) (b : Book) → AreLost ls b → AreLost ls (broken_at o b)
lost-broken ls None b h = h
lost-broken ls (Some i) b h = h

pub cut-long : (rule : Rule) (start : Start) (log : RunLog) (found : List Break) (told : List ToldSecond) (ended : List (List ToldSecond)) (span : List ToldSecond) (b : Book) (maybe : Option HistoryMinute) (waiting : List HistoryMinute) (second : ℕ) →
    nat_lt 1 (length span) ≡ true → cut_second (last span) ≡ Some second → tells_cut second log.breaks ≡ true → tells_cut second found ≡ false →
    IsShut rule start log found told ended span b waiting → IsOpen rule start log found told (ended ++ span ∷ []) (broken_at maybe b)
cut-long rule start log found told ended span b maybe waiting second long is tells absent sh = record {
  front = ended;
  span = span;
  short = [];
  are = refl;
  known = sh.known;
  long = long;
  none = refl;
  nothing = tt;
  second = second;
  cut = is;
  told_cut = tells;
  unfound = absent;
  begins = (sh.begins.0, sure-broken maybe b ∙ sh.begins.1);
  lost = lost-broken (closed_lost rule start log told ended) maybe b sh.lost;
}

-- WHAT WAS KEPT IS FOUND, where it was known already
pub found-shut : (rule : Rule) (start : Start) (log later : RunLog) (known_breaks later_known : List Break) (same : (u : ℕ) → tells_cut u known_breaks ≡ true → kept_after log u ≡ kept_after later u)
    (told : List ToldSecond) (ended : List (List ToldSecond)) (b : Book) (m : ℕ) → ((u : ℕ) → tells_cut u known_breaks ≡ true → tells_cut u later_known ≡ true) → All (λ i. i.minute ≤ m) b.sure →
    IsShut rule start log known_breaks told ended [] b [] → IsShut rule start later later_known told ended [] (found m b) []
found-shut rule start log later known_breaks later_known same told ended b m goes low sh = record {
  known = known-more rule known_breaks later_known ended goes sh.known;
  none = refl;
  minutes = ap (λ (is : List HistoryMinute). is ++ span_minutes rule start told is []) closes ∙ sh.minutes ∙ ap (λ (is : List HistoryMinute). is ++ []) (sym sure);
  begins = (sh.begins.0, sure ∙ sh.begins.1 ∙ ap (λ (is : List HistoryMinute). is ++ sh.begins.0) (sym closes));
  whole = inl refl;
  lost = subst (λ (ls : List (List HistoryMinute)). AreLost ls (found m b)) (sym (lost-same rule start log later known_breaks same told told ended sh.known (stays-same rule start told ended)))
      (λ past at. ⊎_elim (λ first. inl ([], sure ∙ sym (all-none b sh.none) ∙ first ∙ sym (append-nil past))) (λ old. ⊎_elim (λ f. inl (f.0, sure ∙ f.1)) (λ l. inr l) (sh.lost past old)) (either-lost (all b) b.lost past at));
}
  where
    closes : closed_history rule start later told ended ≡ closed_history rule start log told ended
    closes = closed-same rule start log later known_breaks same told told ended sh.known (stays-same rule start told ended)

    sure : up_to m (all b) ≡ b.sure
    sure = ap (up_to m) (all-none b sh.none) ∙ up_to-whole m b.sure low

-- where it was not
module _ (rule : Rule) (start : Start) (log : RunLog) (i m : ℕ) (told : List ToldSecond) (from until : ℕ) (ended : List (List ToldSecond)) (apart : AreApart from ended until)
    (b : Book) (low : All (λ j. j.minute ≤ m) b.sure) (o : IsOpen rule start log (take i log.breaks) told ended b) where
  abbrev later : RunLog
  later = found_log i m log

  abbrev limit : EndsAtLimit later m ended
  limit = record {
    before = o.front;
    span = o.span;
    short = o.short;
    long = o.long;
    are = o.are;
    limit = ap (limit_by later) o.cut ∙ ap (λ (k : ℕ). Some k) (kept-by later o.second ∙ kept-now m (take i log.breaks) (drop i log.breaks) o.second o.unfound (tells-behind o.second i log.breaks o.unfound o.told_cut));
    none = o.none;
  }

  abbrev shut : List HistoryMinute
  shut = closed_history rule start later told o.front

  abbrev own : List HistoryMinute
  own = span_minutes rule start told shut o.span

  low-shut : All (λ j. j.minute ≤ m) shut
  low-shut =
      subst (All (λ (j : HistoryMinute). j.minute ≤ m)) (sym (closed-same rule start log later (take i log.breaks) (kept-found log i m) told told o.front o.known (stays-same rule start told o.front)))
      (all-front (λ (j : HistoryMinute). j.minute ≤ m) (closed_history rule start log told o.front) o.begins.0 (subst (All (λ (j : HistoryMinute). j.minute ≤ m)) o.begins.1 low))

  lost-parts : closed_lost rule start later told ended
      ≡ closed_lost rule start later told o.front ++ map (λ j. shut ++ (limited_to (Some m) own ++ j ∷ [])) (option_to_list (lost_minute (Some m) own))
  lost-parts = closed-lost rule start later told m ended limit from until apart

  goes-on : (rest : List HistoryMinute) → history_by rule start (limit_of log) told [] ended ≡ all b ++ rest → All (λ j. m < j.minute) rest →
      AreLost (closed_lost rule start later told ended) (found m b) × (closed_history rule start later told ended ≡ all (found m b))
  goes-on rest is high =
      let alike = ended-alike rule start log later (take i log.breaks) (kept-found log i m) told told ended b (inr o) in
      let whole = sym (open-history rule start later told m ended limit from until apart) ∙ same-minutes rule start log later (take i log.breaks) (kept-found log i m) told told ended (stays-same rule start told ended) alike ∙ is in
      let old_lost : List (List HistoryMinute) = closed_lost rule start later told o.front in
      let on = follows-limit m b low shut own rest [] (closed_lost rule start later told ended) whole low-shut high
      (λ j lost. subst (λ (ls : List (List HistoryMinute)). Contains ls (shut ++ (limited_to (Some m) own ++ j ∷ []))) (sym (lost-parts ∙ ap (λ (p : Option HistoryMinute). old_lost ++ map (λ j. shut ++ (limited_to (Some m) own ++ j ∷ [])) (option_to_list p)) lost)) (Contains-push old_lost (shut ++ (limited_to (Some m) own ++ j ∷ []))))
      (λ past at. ⊎_elim (λ f. inl f) (λ old. inr (subst (λ (ls : List (List HistoryMinute)). Contains ls past) (sym lost-parts) (Contains-append_left old_lost (map (λ j. shut ++ (limited_to (Some m) own ++ j ∷ [])) (option_to_list (lost_minute (Some m) own))) past (subst (λ (ls : List (List HistoryMinute)). Contains ls past) (sym (lost-same rule start log later (take i log.breaks) (kept-found log i m) told told o.front o.known (stays-same rule start told o.front))) old)))) (o.lost past at)) in
      (on.0.1, closed-history rule start later told m ended limit from until apart ∙ on.1)

  pub found-open : (later_known : List Break) → ((u : ℕ) → tells_cut u log.breaks ≡ true → tells_cut u later_known ≡ true) → (rest : List HistoryMinute) →
      history_by rule start (limit_of log) told [] ended ≡ all b ++ rest → All (λ j. m < j.minute) rest → IsShut rule start (found_log i m log) later_known told ended [] (found m b) []
  found-open later_known goes rest is high =
      let on = goes-on rest is high in
      let sure = on.1 ∙ all-none (found m b) refl in record {
        known = subst (AllByRecursion (IsKnown rule later_known)) (sym o.are)
            (known-append rule later_known o.front (o.span ∷ o.short) (known-more rule (take i log.breaks) later_known o.front (λ u tells. goes u (tells-front u i log.breaks tells)) o.known)
            (inr (o.second, o.cut, goes o.second o.told_cut), known-nothing rule later_known o.short o.nothing));
        none = refl;
        minutes = ap (λ (is : List HistoryMinute). is ++ span_minutes rule start told is []) sure ∙ ap (λ (is : List HistoryMinute). up_to m (all b) ++ is) (empty-minutes rule start told (up_to m (all b)));
        begins = ([], sym sure ∙ sym (append-nil (closed_history rule start later told ended)));
        whole = inl refl;
        lost = on.0;
      }
