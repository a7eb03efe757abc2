-- How the spans that have ended and the book stay tied: over seconds, minutes that are kept, cuts, and what is found.
use Rattle.std.proofs.Common.{◌≡◌, ◌⊎◌, inl, inr, ⊎_elim, ℕ, ◌<◌, ◌≤◌, Bool, true, false, cond, ◌||◌, nat_lt, Option, Some, None, List, [], ◌∷◌, ◌++◌, All, Contains, length, map, take, drop, refl, ap, sym, subst, ◌∙◌, append_assoc, append-nil}
use Rattle.std.specs.Prelude.{option_to_list}
use Rattle.std.specs.List.{AllByRecursion}
use Rattle.std.proofs.lemmas.List.{map-append}
use Rattle.std.proofs.lemmas.List.Elements.{Contains-push, Contains-append_left}
use Rattle.minute_model.specs.declared.Rule.{Rule}
use Rattle.minute_model.specs.declared.Minute.{Minute}
use Rattle.minute_model.specs.Activity.{last}
use Rattle.log_model.specs.declared.lines.Break.{Break}
use Rattle.log_model.specs.Log.{kept_after}
use Rattle.log_model.specs.Course.{ToldSecond}
use Rattle.log_model.specs.Spans.{AreApart}
use Rattle.history_model.specs.Minutes.{HistoryMinute, up_to}
use Rattle.history_model.specs.Presence.{Start}
use Rattle.history_model.specs.History.{decided_of, span_minutes, limited_to, lost_minute, limit_by, cut_second, limit_of, any_long, history_by, lost_by}
use Rattle.history_model.specs.Growth.{closed_limit, closed_history, EndsAtLimit}
use Rattle.history_model.specs.Book.{Book, all, kept, found, AreLost}
use Rattle.history_model.proofs.Books.{all-none, up_to-whole}
use Rattle.history_model.proofs.Filters.{all-front, take-drop}
use Rattle.history_model.proofs.BySeconds.{open-history, closed-history, closed-lost}
use Rattle.history_model.proofs.Following.{follows-limit}
use Rattle.run_unit_course.specs.Turn.{ArePlain}
use Rattle.run_unit_course.specs.Lines.{log_of, tells_cut, found_from, with_kept}
use Rattle.run_unit_course.specs.Keeping.{plain, broken_at}
use Rattle.run_unit_course.specs.Followed.{IsKnown, IsShut, IsOpen, closed_lost}
use Rattle.run_unit_course.proofs.Lines.{kept-now, kept-known, tells-front, tells-behind}
use Rattle.run_unit_course.proofs.Alike.{Alike, histories-alike, losses-alike, known-closed, known-open, known-parts, nothing-alike, decided-empty}
use Rattle.run_unit_course.proofs.Parts.{either-lost, closed-behind, lost-behind, known-append, known-nothing, known-more}

-- SECONDS AND LINES MORE: two logs that tell the same of what was kept after the cuts that are known, and two lists of seconds
-- without cards
module _ (rule : Rule) (start : Start) (breaks later found : List Break) (same : (u : ℕ) → tells_cut u found ≡ true → kept_after (log_of breaks) u ≡ kept_after (log_of later) u)
    (told more : List ToldSecond) (h : ArePlain told) (k : ArePlain more) where
  pub closed-same : (spans : List (List ToldSecond)) → AllByRecursion (IsKnown rule found) spans → closed_history rule start (log_of later) more spans ≡ closed_history rule start (log_of breaks) told spans
  closed-same spans known = sym (histories-alike rule start told more h k (closed_limit (log_of breaks)) (closed_limit (log_of later)) [] spans (known-closed rule found breaks later same spans known))

  pub lost-same : (spans : List (List ToldSecond)) → AllByRecursion (IsKnown rule found) spans → closed_lost rule start (log_of later) more spans ≡ closed_lost rule start (log_of breaks) told spans
  lost-same spans known = sym (losses-alike rule start told more h k (closed_limit (log_of breaks)) (closed_limit (log_of later)) [] spans (known-closed rule found breaks later same spans known))

  -- power is kept: the span goes on, and these minutes are decided
  pub shut-on : (later_found : List Break) (ended : List (List ToldSecond)) (span longer : List ToldSecond) (b : Book) (waiting : List HistoryMinute) (new : List Minute) →
      ((u : ℕ) → tells_cut u found ≡ true → tells_cut u later_found ≡ true) → decided_of rule longer ≡ decided_of rule span ++ new → waiting ≡ [] → (new ≡ []) ⊎ (nat_lt 1 (length longer) ≡ true) →
      IsShut rule start breaks found told ended span b waiting → IsShut rule start later later_found more ended longer b (map plain new)
  shut-on later_found ended span longer b waiting new goes decides none which sh = record {
    known = known-more rule found later_found ended goes sh.known;
    none = sh.none;
    minutes =
        ap (λ (is : List HistoryMinute). is ++ map plain (decided_of rule longer)) (closed-same ended sh.known)
        ∙ ap (λ (ds : List Minute). closed_history rule start (log_of breaks) told ended ++ map plain ds) decides
        ∙ ap (λ (is : List HistoryMinute). closed_history rule start (log_of breaks) told ended ++ is) (map-append plain (decided_of rule span) new)
        ∙ sym (append_assoc (closed_history rule start (log_of breaks) told ended) (map plain (decided_of rule span)) (map plain new))
        ∙ ap (λ (is : List HistoryMinute). is ++ map plain new) (sh.minutes ∙ ap (λ (w : List HistoryMinute). b.sure ++ w) none ∙ append-nil b.sure);
    begins = (sh.begins.0, sh.begins.1 ∙ ap (λ (is : List HistoryMinute). is ++ sh.begins.0) (sym (closed-same ended sh.known)));
    whole = ⊎_elim (λ (e : new ≡ []). inl (ap (map plain) e)) (λ long. inr long) which;
    lost = subst (λ (ls : List (List HistoryMinute)). AreLost ls b) (sym (lost-same ended sh.known)) sh.lost;
  }

  -- no power: spans that decided nothing are added
  pub shut-off : (later_found : List Break) (ended behind : List (List ToldSecond)) (b : Book) → ((u : ℕ) → tells_cut u found ≡ true → tells_cut u later_found ≡ true) →
      AllByRecursion (λ (span : List ToldSecond). decided_of rule span ≡ []) behind → IsShut rule start breaks found told ended [] b [] → IsShut rule start later later_found more (ended ++ behind) [] b []
  shut-off later_found ended behind b goes none sh = record {
    known = known-append rule later_found ended behind (known-more rule found later_found ended goes sh.known) (known-nothing rule later_found behind none);
    none = sh.none;
    minutes = ap (λ (is : List HistoryMinute). is ++ map plain (decided_of rule [])) (closed-behind rule start (log_of later) more ended behind none ∙ closed-same ended sh.known) ∙ sh.minutes;
    begins = (sh.begins.0, sh.begins.1 ∙ ap (λ (is : List HistoryMinute). is ++ sh.begins.0) (sym (closed-behind rule start (log_of later) more ended behind none ∙ closed-same ended sh.known)));
    whole = inl refl;
    lost = subst (λ (ls : List (List HistoryMinute)). AreLost ls b) (sym (lost-behind rule start (log_of later) more ended behind none ∙ lost-same ended sh.known)) sh.lost;
  }

  pub open-off : (later_found : List Break) (ended behind : List (List ToldSecond)) (b : Book) → ((u : ℕ) → tells_cut u found ≡ tells_cut u later_found) → ((u : ℕ) → tells_cut u breaks ≡ true → tells_cut u later ≡ true) →
      AllByRecursion (λ (span : List ToldSecond). decided_of rule span ≡ []) behind → any_long behind ≡ false → IsOpen rule start breaks found told ended b → IsOpen rule start later later_found more (ended ++ behind) b
  open-off later_found ended behind b goes tells none short o = record {
    front = o.front;
    span = o.span;
    short = o.short ++ behind;
    are = ap (λ (ss : List (List ToldSecond)). ss ++ behind) o.are ∙ append_assoc o.front (o.span ∷ o.short) behind;
    known = known-more rule found later_found o.front (λ u is. sym (goes u) ∙ is) o.known;
    long = o.long;
    none = short-append o.short behind o.none short;
    nothing = all-append o.short behind o.nothing none;
    second = o.second;
    cut = o.cut;
    told_cut = tells o.second o.told_cut;
    unfound = sym (goes o.second) ∙ o.unfound;
    begins = (o.begins.0, o.begins.1 ∙ ap (λ (is : List HistoryMinute). is ++ o.begins.0) (sym (closed-same o.front o.known)));
    lost = subst (λ (ls : List (List HistoryMinute)). AreLost ls b) (sym (lost-same o.front o.known)) o.lost;
  }
    where
      all-append : (xs ys : List (List ToldSecond)) → AllByRecursion (λ (span : List ToldSecond). decided_of rule span ≡ []) xs → AllByRecursion (λ (span : List ToldSecond). decided_of rule span ≡ []) ys → AllByRecursion (λ (span : List ToldSecond). decided_of rule span ≡ []) (xs ++ ys)
      all-append [] ys h k = k
      all-append (x ∷ xs) ys h k = (h.0, all-append xs ys h.1 k)

      short-append : (xs ys : List (List ToldSecond)) → any_long xs ≡ false → any_long ys ≡ false → any_long (xs ++ ys) ≡ false
      short-append [] ys h k = k
      short-append (x ∷ xs) ys h k = go (nat_lt 1 (length x)) h (λ rest. short-append xs ys rest k)
        where
          go : (t : Bool) → (t || any_long xs) ≡ false → (any_long xs ≡ false → any_long (xs ++ ys) ≡ false) → (t || any_long (xs ++ ys)) ≡ false
          go true h rest = h
          go false h rest = rest h

  -- the history of the spans that have ended is the same
  pub ended-alike : (ended : List (List ToldSecond)) (b : Book) → IsShut rule start breaks found told ended [] b [] ⊎ IsOpen rule start breaks found told ended b → Alike rule (limit_of (log_of breaks)) (limit_of (log_of later)) ended
  ended-alike ended b (inl sh) = known-open rule found breaks later same ended sh.known
  ended-alike ended b (inr o) =
      subst (Alike rule (limit_of (log_of breaks)) (limit_of (log_of later))) (sym o.are)
      (known-parts rule found breaks later same o.front (o.span ∷ o.short) o.known (
        inr (ap (λ (t : Bool). cond t (limit_by (log_of breaks) (cut_second (last o.span))) None) o.none ∙ sym (ap (λ (t : Bool). cond t (limit_by (log_of later) (cut_second (last o.span))) None) o.none)),
        nothing-alike rule (limit_of (log_of breaks)) (limit_of (log_of later)) o.short o.nothing,
      ))

  pub same-minutes : (ended : List (List ToldSecond)) → Alike rule (limit_of (log_of breaks)) (limit_of (log_of later)) ended → history_by rule start (limit_of (log_of later)) more [] ended ≡ history_by rule start (limit_of (log_of breaks)) told [] ended
  same-minutes ended alike = sym (histories-alike rule start told more h k (limit_of (log_of breaks)) (limit_of (log_of later)) [] ended alike)

  pub same-losses : (ended : List (List ToldSecond)) → Alike rule (limit_of (log_of breaks)) (limit_of (log_of later)) ended → lost_by rule start (limit_of (log_of later)) more [] ended ≡ lost_by rule start (limit_of (log_of breaks)) told [] ended
  same-losses ended alike = sym (losses-alike rule start told more h k (limit_of (log_of breaks)) (limit_of (log_of later)) [] ended alike)

-- A MINUTE IS KEPT
pub shut-kept : (rule : Rule) (start : Start) (breaks found : List Break) (told : List ToldSecond) (ended : List (List ToldSecond)) (span : List ToldSecond) (b : Book) (i : HistoryMinute) (rest : List HistoryMinute) →
    IsShut rule start breaks found told ended span b (i ∷ rest) → IsShut rule start breaks found told ended span (kept i b) rest
shut-kept rule start breaks found told ended span b i rest sh = record {
  known = sh.known;
  none = refl;
  minutes = sh.minutes ∙ sym (append_assoc b.sure (i ∷ []) rest);
  begins = (sh.begins.0 ++ i ∷ [], ap (λ (is : List HistoryMinute). is ++ i ∷ []) sh.begins.1 ∙ append_assoc (closed_history rule start (log_of breaks) told ended) sh.begins.0 (i ∷ []));
  whole = ⊎_elim (λ (e : i ∷ rest ≡ []). absurd (cc)) (λ long. inr long) sh.whole;
  lost = λ past at. ⊎_elim (λ f. inl (f.0 ++ i ∷ [], ap (λ (is : List HistoryMinute). is ++ i ∷ []) f.1 ∙ append_assoc past f.0 (i ∷ []))) (λ l. inr l) (sh.lost past at);
}

-- THE SPAN ENDS WITH A CUT
pub cut-lost : (rule : Rule) (start : Start) (breaks later known_breaks : List Break) (same : (u : ℕ) → tells_cut u known_breaks ≡ true → kept_after (log_of breaks) u ≡ kept_after (log_of later) u)
    (told more : List ToldSecond) (h : ArePlain told) (k : ArePlain more) (ended : List (List ToldSecond)) (span : List ToldSecond) (b : Book) (maybe : Option HistoryMinute) (waiting : List HistoryMinute) →
    IsShut rule start breaks known_breaks told ended span b waiting → AreLost (closed_lost rule start (log_of later) more ended) (broken_at maybe b)
cut-lost rule start breaks later known_breaks same told more h k ended span b maybe waiting sh =
    subst (λ (ls : List (List HistoryMinute)). AreLost ls (broken_at maybe b)) (sym (lost-same rule start breaks later known_breaks same told more h k ended sh.known)) (gone maybe)
  where
    gone : (o : Option HistoryMinute) → AreLost (closed_lost rule start (log_of breaks) told ended) (broken_at o b)
    gone None = sh.lost
    gone (Some i) = sh.lost

pub cut-long : (rule : Rule) (start : Start) (breaks later found : List Break) (same : (u : ℕ) → tells_cut u found ≡ true → kept_after (log_of breaks) u ≡ kept_after (log_of later) u)
    (told more : List ToldSecond) (h : ArePlain told) (k : ArePlain more) (ended : List (List ToldSecond)) (span cut : List ToldSecond) (b : Book) (broken : Option HistoryMinute) (waiting : List HistoryMinute) (second : ℕ) →
    nat_lt 1 (length cut) ≡ true → cut_second (last cut) ≡ Some second → tells_cut second later ≡ true → tells_cut second found ≡ false →
    IsShut rule start breaks found told ended span b waiting → IsOpen rule start later found more (ended ++ cut ∷ []) (broken_at broken b)
cut-long rule start breaks later known_breaks same told more h k ended span cut b maybe waiting second long is tells absent sh = record {
  front = ended;
  span = cut;
  short = [];
  are = refl;
  known = sh.known;
  long = long;
  none = refl;
  nothing = tt;
  second = second;
  cut = is;
  told_cut = tells;
  unfound = absent;
  begins = (sh.begins.0, sure maybe ∙ sh.begins.1 ∙ ap (λ (is : List HistoryMinute). is ++ sh.begins.0) (sym (closed-same rule start breaks later known_breaks same told more h k ended sh.known)));
  lost = cut-lost rule start breaks later known_breaks same told more h k ended span b maybe waiting sh;
}
  where
    sure : (o : Option HistoryMinute) → (broken_at o b).sure ≡ b.sure
    sure None = refl
    sure (Some i) = refl

-- WHAT WAS KEPT IS FOUND, where it was known already
pub found-shut : (rule : Rule) (start : Start) (breaks later known_breaks later_known : List Break) (same : (u : ℕ) → tells_cut u known_breaks ≡ true → kept_after (log_of breaks) u ≡ kept_after (log_of later) u)
    (told : List ToldSecond) (h : ArePlain told) (ended : List (List ToldSecond)) (b : Book) (m : ℕ) → ((u : ℕ) → tells_cut u known_breaks ≡ true → tells_cut u later_known ≡ true) → All (λ i. i.minute ≤ m) b.sure →
    IsShut rule start breaks known_breaks told ended [] b [] → IsShut rule start later later_known told ended [] (found m b) []
found-shut rule start breaks later known_breaks later_known same told h ended b m goes low sh = record {
  known = known-more rule known_breaks later_known ended goes sh.known;
  none = refl;
  minutes = ap (λ (is : List HistoryMinute). is ++ map plain (decided_of rule [])) closes ∙ sh.minutes ∙ ap (λ (is : List HistoryMinute). is ++ []) (sym sure);
  begins = (sh.begins.0, sure ∙ sh.begins.1 ∙ ap (λ (is : List HistoryMinute). is ++ sh.begins.0) (sym closes));
  whole = inl refl;
  lost = subst (λ (ls : List (List HistoryMinute)). AreLost ls (found m b)) (sym (lost-same rule start breaks later known_breaks same told told h h ended sh.known))
      (λ past at. ⊎_elim (λ first. inl ([], sure ∙ sym (all-none b sh.none) ∙ first ∙ sym (append-nil past))) (λ old. ⊎_elim (λ f. inl (f.0, sure ∙ f.1)) (λ l. inr l) (sh.lost past old)) (either-lost (all b) b.lost past at));
}
  where
    closes : closed_history rule start (log_of later) told ended ≡ closed_history rule start (log_of breaks) told ended
    closes = closed-same rule start breaks later known_breaks same told told h h ended sh.known

    sure : up_to m (all b) ≡ b.sure
    sure = ap (up_to m) (all-none b sh.none) ∙ up_to-whole m b.sure low

-- what was kept after the cuts that were known is told as before
pub found-same : (breaks : List Break) (i m : ℕ) (u : ℕ) → tells_cut u (take i breaks) ≡ true → kept_after (log_of breaks) u ≡ kept_after (log_of (found_from i m breaks)) u
found-same breaks i m u tells =
    ap (λ (bs : List Break). kept_after (log_of bs) u) (sym (take-drop i breaks))
    ∙ kept-known (take i breaks) (drop i breaks) u tells
    ∙ sym (kept-known (take i breaks) (map (with_kept m) (drop i breaks)) u tells)

-- where it was not
module _ (rule : Rule) (start : Start) (breaks : List Break) (i m : ℕ) (told : List ToldSecond) (h : ArePlain told) (from until : ℕ) (ended : List (List ToldSecond)) (apart : AreApart from ended until)
    (b : Book) (low : All (λ j. j.minute ≤ m) b.sure) (o : IsOpen rule start breaks (take i breaks) told ended b) where
  abbrev later : List Break
  later = found_from i m breaks

  abbrev limit : EndsAtLimit (log_of later) m ended
  limit = record {
    before = o.front;
    span = o.span;
    short = o.short;
    long = o.long;
    are = o.are;
    limit = ap (limit_by (log_of later)) o.cut ∙ ap (λ (k : ℕ). Some k) (kept-now m (take i breaks) (drop i breaks) o.second o.unfound (tells-behind o.second i breaks o.unfound o.told_cut));
    none = o.none;
  }

  abbrev shut : List HistoryMinute
  shut = closed_history rule start (log_of later) told o.front

  abbrev own : List HistoryMinute
  own = span_minutes rule start told shut o.span

  low-shut : All (λ j. j.minute ≤ m) shut
  low-shut =
      subst (All (λ (j : HistoryMinute). j.minute ≤ m)) (sym (closed-same rule start breaks later (take i breaks) (found-same breaks i m) told told h h o.front o.known))
      (all-front (λ (j : HistoryMinute). j.minute ≤ m) (closed_history rule start (log_of breaks) told o.front) o.begins.0 (subst (All (λ (j : HistoryMinute). j.minute ≤ m)) o.begins.1 low))

  lost-parts : closed_lost rule start (log_of later) told ended
      ≡ closed_lost rule start (log_of later) told o.front ++ map (λ j. shut ++ (limited_to (Some m) own ++ j ∷ [])) (option_to_list (lost_minute (Some m) own))
  lost-parts = closed-lost rule start (log_of later) told m ended limit from until apart

  goes-on : (rest : List HistoryMinute) → history_by rule start (limit_of (log_of breaks)) told [] ended ≡ all b ++ rest → All (λ j. m < j.minute) rest →
      AreLost (closed_lost rule start (log_of later) told ended) (found m b) × (closed_history rule start (log_of later) told ended ≡ all (found m b))
  goes-on rest is high =
      let alike = ended-alike rule start breaks later (take i breaks) (found-same breaks i m) told told h h ended b (inr o) in
      let whole = sym (open-history rule start (log_of later) told m ended limit from until apart) ∙ same-minutes rule start breaks later (take i breaks) (found-same breaks i m) told told h h ended alike ∙ is in
      let old_lost : List (List HistoryMinute) = closed_lost rule start (log_of later) told o.front in
      let on = follows-limit m b low shut own rest [] (closed_lost rule start (log_of later) told ended) whole low-shut high
      (λ j lost. subst (λ (ls : List (List HistoryMinute)). Contains ls (shut ++ (limited_to (Some m) own ++ j ∷ []))) (sym (lost-parts ∙ ap (λ (p : Option HistoryMinute). old_lost ++ map (λ j. shut ++ (limited_to (Some m) own ++ j ∷ [])) (option_to_list p)) lost)) (Contains-push old_lost (shut ++ (limited_to (Some m) own ++ j ∷ []))))
      (λ past at. ⊎_elim (λ f. inl f) (λ old. inr (subst (λ (ls : List (List HistoryMinute)). Contains ls past) (sym lost-parts) (Contains-append_left old_lost (map (λ j. shut ++ (limited_to (Some m) own ++ j ∷ [])) (option_to_list (lost_minute (Some m) own))) past (subst (λ (ls : List (List HistoryMinute)). Contains ls past) (sym (lost-same rule start breaks later (take i breaks) (found-same breaks i m) told told h h o.front o.known)) old)))) (o.lost past at)) in
      (on.0.1, closed-history rule start (log_of later) told m ended limit from until apart ∙ on.1)

  pub found-open : (later_known : List Break) → ((u : ℕ) → tells_cut u breaks ≡ true → tells_cut u later_known ≡ true) → (rest : List HistoryMinute) →
      history_by rule start (limit_of (log_of breaks)) told [] ended ≡ all b ++ rest → All (λ j. m < j.minute) rest → IsShut rule start (found_from i m breaks) later_known told ended [] (found m b) []
  found-open later_known goes rest is high =
      let on = goes-on rest is high in
      let sure = on.1 ∙ all-none (found m b) refl in record {
        known = subst (AllByRecursion (IsKnown rule later_known)) (sym o.are)
            (known-append rule later_known o.front (o.span ∷ o.short) (known-more rule (take i breaks) later_known o.front (λ u tells. goes u (tells-front u i breaks tells)) o.known)
            (inr (o.second, o.cut, goes o.second o.told_cut), known-nothing rule later_known o.short o.nothing));
        none = refl;
        minutes = ap (λ (is : List HistoryMinute). is ++ map plain (decided_of rule [])) sure ∙ ap (λ (ds : List Minute). up_to m (all b) ++ map plain ds) (decided-empty rule);
        begins = ([], sym sure ∙ sym (append-nil (closed_history rule start (log_of later) told ended)));
        whole = inl refl;
        lost = on.0;
      }
