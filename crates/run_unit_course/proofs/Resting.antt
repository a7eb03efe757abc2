-- A run whose unit has no power, or has it from the next second on: seconds without power, spans of one second, what is found.
use Rattle.std.proofs.Common.{◌≡◌, ◌⊎◌, inl, inr, ⊎_elim, ℕ, zero, suc, ◌+◌, ◌%◌, ◌/◌, ◌<◌, ◌≤◌, Bool, true, false, not, List, [], ◌∷◌, ◌++◌, All, length, take, fold, refl, ap, sym, subst, ◌∙◌, arith, append_assoc, append-nil, length-append}
use Rattle.std.specs.List.{AllByRecursion}
use Rattle.trace_model.specs.declared.Action.{Action}
use Rattle.trace_model.specs.Trace.{TraceSecond, driven}
use Rattle.minute_model.specs.declared.Rule.{Rule}
use Rattle.log_model.specs.declared.lines.Break.{Break}
use Rattle.log_model.specs.Log.{kept_after}
use Rattle.log_model.specs.Course.{ToldSecond, Went, Before, before_next, went_on, went}
use Rattle.log_model.specs.Spans.{spans_with, spans_of, AreInOrder, AreApart}
use Rattle.log_model.proofs.Spanning.{spanned}
use Rattle.history_model.specs.Minutes.{HistoryMinute}
use Rattle.history_model.specs.Presence.{Start}
use Rattle.history_model.specs.History.{decided_of, any_long, limit_of, history_by, unit_history, with_lost}
use Rattle.history_model.specs.Growth.{Rises}
use Rattle.history_model.specs.Book.{Book, all, found, Follows, IsMark}
use Rattle.history_model.proofs.Following.{follows-found}
use Rattle.history_model.proofs.Told.{rises}
use Rattle.history_model.proofs.Deciding.{short-none}
use Rattle.run_unit_course.specs.Turn.{IsSelection, ArePlain, lit_second, dark_seconds}
use Rattle.run_unit_course.specs.Lines.{log_of, cut_at, found_from, IsCutBefore, tells_cut}
use Rattle.run_unit_course.specs.Followed.{Comes, lost_before, IsShut, IsOpen}
use Rattle.run_unit_course.proofs.Lines.{cut-here, torn-none, found-none, cuts-later, cuts-push, cuts-found, went-cut, went-found, kept-known, tells-append, tells-found, take-front, take-all, tells-front}
use Rattle.run_unit_course.proofs.Turns.{IsQuiet, given_second, went-parts, failed-told, lost-goes}
use Rattle.run_unit_course.proofs.Spans.{spans-parts, spans-dark}
use Rattle.run_unit_course.proofs.Parts.{order-behind, driven-order, driven-length, plain-append, plain-dark, beyond-mark, follows-same, short-history, short-lost}
use Rattle.run_unit_course.proofs.Ties.{shut-off, open-off, ended-alike, same-minutes, same-losses, found-shut, found-open, found-same}

-- a run without a span that goes on
pub record Resting (rule : Rule) (start : Start) (from first : ℕ) (done : List TraceSecond) (breaks : List Break) (unfound next : ℕ) (b : Book) : Type 0 where
  pub early : first < from / 60
  pub order : AreInOrder from done
  pub number : next ≡ from + length done
  pub cuts : AllByRecursion (IsCutBefore next) breaks
  pub within : unfound ≤ length breaks
  pub plain : ArePlain (went (log_of breaks) done).told
  pub ended : List (List ToldSecond)
  pub spans : spans_of (went (log_of breaks) done).told ≡ ended ++ []
  pub tied : IsShut rule start breaks (take unfound breaks) (went (log_of breaks) done).told ended [] b []
      ⊎ IsOpen rule start breaks (take unfound breaks) (went (log_of breaks) done).told ended b
  pub follows : Follows (unit_history rule start (log_of breaks) (went (log_of breaks) done).told)
      (with_lost rule start (log_of breaks) (went (log_of breaks) done).told) b

-- a cut that is told behind the others changes nothing of those before
pub added-same : (breaks : List Break) (i : ℕ) (c : Break) → i ≤ length breaks → (u : ℕ) → tells_cut u (take i breaks) ≡ true → kept_after (log_of breaks) u ≡ kept_after (log_of (breaks ++ c ∷ [])) u
added-same breaks i c le u tells = sym (kept-known breaks (c ∷ []) u (tells-front u i breaks tells))

pub added-tells : (breaks : List Break) (c : Break) (u : ℕ) → tells_cut u breaks ≡ true → tells_cut u (breaks ++ c ∷ []) ≡ true
added-tells breaks c u tells = tells-append u breaks (c ∷ []) ∙ rw tells refl

module _ (rule : Rule) (start : Start) (from first : ℕ) (done : List TraceSecond) (breaks : List Break) (unfound next : ℕ) (b : Book) where
  abbrev told : List ToldSecond
  told = (went (log_of breaks) done).told

  -- seconds are added that decide nothing: without power, or a span of one second
  pub rest-more : (r : Resting rule start from first done breaks unfound next b) (later : List Break) (ss : List TraceSecond) (more : List ToldSecond) (before : Before) (n : ℕ) (behind : List (List ToldSecond)) →
      went (log_of later) (done ++ ss) ≡ record { told = told ++ more; before = before } → AreInOrder (from + length done) ss → length ss ≡ n → AllByRecursion (IsCutBefore (next + n)) later →
      take unfound later ≡ take unfound breaks → unfound ≤ length later → ((u : ℕ) → tells_cut u breaks ≡ true → tells_cut u later ≡ true) →
      ((u : ℕ) → tells_cut u (take unfound breaks) ≡ true → kept_after (log_of breaks) u ≡ kept_after (log_of later) u) → ArePlain more →
      fold spans_with (r.ended ++ []) more ≡ (r.ended ++ []) ++ behind → AllByRecursion (λ (span : List ToldSecond). decided_of rule span ≡ []) behind → any_long behind ≡ false →
      Resting rule start from first (done ++ ss) later unfound (next + n) b
  rest-more r later ss more before n behind goes order len cuts front within tells same plain grows none short =
      let t = ap (λ (w : Went). w.told) goes in
      let k : ArePlain (went (log_of later) (done ++ ss)).told = subst ArePlain (sym t) (plain-append told more r.plain plain) in
      let spans = ap spans_of t ∙ spans-parts told more ∙ ap (λ (ss : List (List ToldSecond)). fold spans_with ss more) r.spans ∙ grows ∙ ap (λ (ss : List (List ToldSecond)). ss ++ behind) (append-nil r.ended) in
      let alike = ended-alike rule start breaks later (take unfound breaks) same told (went (log_of later) (done ++ ss)).told r.plain k r.ended b r.tied in
      let count = length-append done ss in
      let number = r.number in
      record {
        early = r.early;
        order = order-behind from done ss r.order order;
        number = omega (arith, count, number, len);
        cuts = cuts;
        within = within;
        plain = k;
        ended = r.ended ++ behind;
        spans = spans ∙ sym (append-nil (r.ended ++ behind));
        tied = ⊎_elim
            (λ sh. inl (shut-off rule start breaks later (take unfound breaks) same told (went (log_of later) (done ++ ss)).told r.plain k (take unfound later) r.ended behind b (λ u is. subst (λ (bs : List Break). tells_cut u bs ≡ true) (sym front) is) none sh))
            (λ o. inr (open-off rule start breaks later (take unfound breaks) same told (went (log_of later) (done ++ ss)).told r.plain k (take unfound later) r.ended behind b (λ u. ap (tells_cut u) (sym front)) tells none short o)) r.tied;
        follows = follows-same (unit_history rule start (log_of breaks) told) (unit_history rule start (log_of later) (went (log_of later) (done ++ ss)).told) (with_lost rule start (log_of breaks) told) (with_lost rule start (log_of later) (went (log_of later) (done ++ ss)).told) b
            (short-history rule start (log_of later) (went (log_of later) (done ++ ss)).told r.ended behind spans short none
            ∙ same-minutes rule start breaks later (take unfound breaks) same told (went (log_of later) (done ++ ss)).told r.plain k r.ended alike
            ∙ sym (short-history rule start (log_of breaks) told r.ended [] r.spans refl tt))
            (short-lost rule start (log_of later) (went (log_of later) (done ++ ss)).told r.ended behind spans short none
            ∙ same-losses rule start breaks later (take unfound breaks) same told (went (log_of later) (done ++ ss)).told r.plain k r.ended alike
            ∙ sym (short-lost rule start (log_of breaks) told r.ended [] r.spans refl tt))
            r.follows;
      }

  -- seconds without power
  pub rest-dark : (r : Resting rule start from first done breaks unfound next b) (ss : List TraceSecond) (before : Before) (n speed : ℕ) (given : Bool) (actions : List Action) →
      fold (went_on (log_of breaks)) (went (log_of breaks) done) ss ≡ record { told = told ++ dark_seconds n next speed given actions; before = before } → AreInOrder (from + length done) ss → length ss ≡ n →
      Resting rule start from first (done ++ ss) breaks unfound (next + n) b
  rest-dark r ss before n speed given actions goes order len =
      rest-more r breaks ss (dark_seconds n next speed given actions) before n [] (went-parts (log_of breaks) done ss ∙ goes) order len
      (cuts-later next (next + n) breaks (omega arith) r.cuts) refl r.within (λ u is. is) (λ u is. refl) (plain-dark n next speed given actions)
      (spans-dark (r.ended ++ []) n next speed given actions ∙ sym (append-nil (r.ended ++ []))) tt refl

  pub quiet-of : AllByRecursion (IsCutBefore next) breaks → (u : ℕ) → IsQuiet (log_of breaks) u
  quiet-of cuts u = record { torn = λ p slot. torn-none next breaks u p slot cuts; found = λ p slot. found-none breaks u p slot }

-- the power-on fails in the first of these seconds
module _ (rule : Rule) (start : Start) (from first : ℕ) (done : List TraceSecond) (breaks : List Break) (unfound next : ℕ) (b : Book)
    (r : Resting rule start from first done breaks unfound next b) (comes : Comes (went (log_of breaks) done).before next) where
  abbrev failed : List Break
  failed = breaks ++ cut_at next true 0 ∷ []

  failed-cuts : (n : ℕ) → AllByRecursion (IsCutBefore (next + suc n)) failed
  failed-cuts n = cuts-push (next + suc n) breaks next true 0 (omega arith) (cuts-later next (next + suc n) breaks (omega arith) r.cuts)

  so-far : went (log_of failed) done ≡ went (log_of breaks) done
  so-far = went-cut from next done breaks next true 0 r.order (let n = r.number in omega (arith, n)) r.cuts

  failed-first : (speed : ℕ) (actions : List Action) → AllByRecursion IsSelection actions →
      went_on (log_of failed) (went (log_of breaks) done) (given_second next speed actions) ≡ record { told = (went (log_of breaks) done).told ++ lit_second next speed [] true true ∷ []; before = lost_before }
  failed-first speed actions each =
      let is = failed-told (log_of failed) (went (log_of breaks) done).before next speed actions comes.comes comes.slots (quiet-of rule start from first done failed unfound (next + 1) b (failed-cuts 0) next) (cut-here breaks next true 0 r.cuts) each
      ∙ ap (λ (running : Bool). lit_second next speed [] (not running) true) comes.running in
      ap (λ (t : ToldSecond). record { told = (went (log_of breaks) done).told ++ t ∷ []; before = before_next (went (log_of breaks) done).before t }) is

  begun-failed : (speed : ℕ) (actions : List Action) → AllByRecursion IsSelection actions → (n : ℕ) → went (log_of failed) (done ++ driven (suc n) next speed actions)
      ≡ fold (went_on (log_of failed)) (record { told = (went (log_of breaks) done).told ++ lit_second next speed [] true true ∷ []; before = lost_before }) (driven n (next + 1) speed [])
  begun-failed speed actions each n =
      went-parts (log_of failed) done (driven (suc n) next speed actions)
      ∙ ap (λ (w : Went). fold (went_on (log_of failed)) w (driven (suc n) next speed actions)) so-far
      ∙ ap (λ (w : Went). fold (went_on (log_of failed)) w (driven n (next + 1) speed [])) (failed-first speed actions each)

  -- how these seconds went
  pub failed-goes : (speed : ℕ) (actions : List Action) → AllByRecursion IsSelection actions → (n : ℕ) → next % 60 + suc n ≤ 60 → went (log_of failed) (done ++ driven (suc n) next speed actions)
      ≡ record { told = (went (log_of breaks) done).told ++ lit_second next speed [] true true ∷ dark_seconds n (next + 1) speed true []; before = lost_before }
  failed-goes speed actions each zero within = begun-failed speed actions each zero
  failed-goes speed actions each (suc n) within =
      let step : (next + 1) % 60 ≡ next % 60 + 1 = omega (arith, within) in
      begun-failed speed actions each (suc n)
      ∙ lost-goes (log_of failed) ((went (log_of breaks) done).told ++ lit_second next speed [] true true ∷ []) (suc n) (next + 1) speed [] (omega (arith, step)) (omega (arith, step, within))
      ∙ ap (λ (ts : List ToldSecond). record { told = ts; before = lost_before }) (append_assoc (went (log_of breaks) done).told (lit_second next speed [] true true ∷ []) (dark_seconds (suc n) (next + 1) speed true []))

  pub rest-failed : (n speed : ℕ) (actions : List Action) → next % 60 + suc n ≤ 60 → AllByRecursion IsSelection actions →
      Resting rule start from first (done ++ driven (suc n) next speed actions) failed unfound (next + suc n) b × (went (log_of failed) (done ++ driven (suc n) next speed actions)).before ≡ lost_before
  rest-failed n speed actions within each = (
    rest-more rule start from first done breaks unfound next b r failed (driven (suc n) next speed actions) (lit_second next speed [] true true ∷ dark_seconds n (next + 1) speed true []) lost_before (suc n) ((lit_second next speed [] true true ∷ []) ∷ [])
        (failed-goes speed actions each n within) (subst (λ (m : ℕ). AreInOrder m (driven (suc n) next speed actions)) r.number (driven-order (suc n) next speed actions)) (driven-length (suc n) next speed actions)
        (failed-cuts n) (take-front unfound breaks (cut_at next true 0 ∷ []) r.within) (let le = r.within in let m = length-append breaks (cut_at next true 0 ∷ []) in omega (arith, le, m))
        (added-tells breaks (cut_at next true 0)) (added-same breaks unfound (cut_at next true 0) r.within) ((refl, refl), plain-dark n (next + 1) speed true [])
        (spans-dark ((r.ended ++ []) ++ (lit_second next speed [] true true ∷ []) ∷ []) n (next + 1) speed true []) (short-none rule (lit_second next speed [] true true), tt) refl,
    ap (λ (w : Went). w.before) (failed-goes speed actions each n within),
  )

-- it is found what was kept
module _ (rule : Rule) (start : Start) (from first : ℕ) (done : List TraceSecond) (breaks : List Break) (unfound next : ℕ) (b : Book)
    (r : Resting rule start from first done breaks unfound next b) (k : ℕ) (mark : IsMark first (all b) k) (low : All (λ i. i.minute ≤ k) b.sure) where
  abbrev later : List Break
  later = found_from unfound k breaks

  pub found-told : went (log_of later) done ≡ went (log_of breaks) done
  found-told = went-found from next done breaks unfound k r.order r.cuts

  abbrev seconds : List ToldSecond
  seconds = (went (log_of breaks) done).told

  seconds-same : (went (log_of later) done).told ≡ seconds
  seconds-same = ap (λ (w : Went). w.told) found-told

  minutes-now : unit_history rule start (log_of breaks) seconds ≡ history_by rule start (limit_of (log_of breaks)) seconds [] r.ended
  minutes-now = short-history rule start (log_of breaks) seconds r.ended [] r.spans refl tt

  goes : (u : ℕ) → tells_cut u breaks ≡ true → tells_cut u (take (length later) later) ≡ true
  goes u is = ap (tells_cut u) (take-all later) ∙ tells-found u unfound k breaks ∙ is

  pub found-tied : IsShut rule start later (take (length later) later) seconds r.ended [] (found k b) []
  found-tied = ⊎_elim
      (λ sh. found-shut rule start breaks later (take unfound breaks) (take (length later) later) (found-same breaks unfound k) seconds r.plain r.ended b k (λ u is. goes u (tells-front u unfound breaks is)) low sh)
      (λ o. let f = r.follows.front in
      let whole = spanned (log_of breaks) from done r.order in
      found-open rule start breaks unfound k seconds r.plain from (from + length done) r.ended (subst (λ (ss : List (List ToldSecond)). AreApart from ss (from + length done)) (r.spans ∙ append-nil r.ended) whole.apart) b low o
      (take (length later) later) goes f.0 (sym minutes-now ∙ f.1)
      (beyond-mark first (from / 60) ((from + length done) / 60) k (all b) f.0 r.early (subst (λ (is : List HistoryMinute). Rises (from / 60) is ((from + length done) / 60)) f.1 (rises from rule start (log_of breaks) done r.order)) mark))
      r.tied

  pub rest-found : Resting rule start from first done later (length later) next (found k b)
  rest-found =
      let alike = ended-alike rule start breaks later (take unfound breaks) (found-same breaks unfound k) seconds (went (log_of later) done).told r.plain plain r.ended b r.tied in
      record {
        early = r.early;
        order = r.order;
        number = r.number;
        cuts = cuts-found next unfound k breaks r.cuts;
        within = omega arith;
        plain = plain;
        ended = r.ended;
        spans = spans;
        tied = inl (subst (λ (ts : List ToldSecond). IsShut rule start later (take (length later) later) ts r.ended [] (found k b) []) (sym seconds-same) found-tied);
        follows = follows-found k b low (unit_history rule start (log_of later) (went (log_of later) done).told) (with_lost rule start (log_of later) (went (log_of later) done).told)
            (follows-same (unit_history rule start (log_of breaks) seconds) (unit_history rule start (log_of later) (went (log_of later) done).told) (with_lost rule start (log_of breaks) seconds) (with_lost rule start (log_of later) (went (log_of later) done).told) b
            (short-history rule start (log_of later) (went (log_of later) done).told r.ended [] spans refl tt
            ∙ same-minutes rule start breaks later (take unfound breaks) (found-same breaks unfound k) seconds (went (log_of later) done).told r.plain plain r.ended alike ∙ sym minutes-now)
            (short-lost rule start (log_of later) (went (log_of later) done).told r.ended [] spans refl tt
            ∙ same-losses rule start breaks later (take unfound breaks) (found-same breaks unfound k) seconds (went (log_of later) done).told r.plain plain r.ended alike
            ∙ sym (short-lost rule start (log_of breaks) seconds r.ended [] r.spans refl tt))
            r.follows);
      }
    where
      plain : ArePlain (went (log_of later) done).told
      plain = subst ArePlain (sym seconds-same) r.plain

      spans : spans_of (went (log_of later) done).told ≡ r.ended ++ []
      spans = ap spans_of seconds-same ∙ r.spans

  -- the spans that have ended, all of them known
  pub found-now : (e : List (List ToldSecond)) × (spans_of (went (log_of later) done).told ≡ e ++ []) × IsShut rule start later (take (length later) later) (went (log_of later) done).told e [] (found k b) []
  found-now = (r.ended, ap spans_of seconds-same ∙ r.spans, subst (λ (ts : List ToldSecond). IsShut rule start later (take (length later) later) ts r.ended [] (found k b) []) (sym seconds-same) found-tied)
