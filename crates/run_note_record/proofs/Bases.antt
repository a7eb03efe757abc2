-- With which odometer the spans of a run began, as its log goes on and spans are added.
use Rattle.std.proofs.Common.{◌≡◌, ◌⊎◌, inl, inr, ⊎_elim, ℕ, zero, suc, ◌≤◌, Bool, true, false, cond, ◌||◌, ◌&&◌, nat_eq, Option, Some, None, List, [], ◌∷◌, ◌++◌, length, map, filter, take, drop, refl, ap, sym, subst, ◌∙◌, arith, append-nil, append_assoc}
use Rattle.std.specs.List.{AllByRecursion, list_any}
use Rattle.std.proofs.lemmas.List.{same_from_push}
use Rattle.std.proofs.lemmas.List.Elements.{Contains-append_left, filter-append}
use Rattle.std.proofs.lemmas.Bool.Decides.{nat_tests}
use Rattle.run_devices.specs.minute_model.Activity.{last}
use Rattle.run_devices.specs.minute_model.declared.Minute.{Minute}
use Rattle.run_devices.specs.minute_model.declared.Rule.{Rule}
use Rattle.run_devices.specs.unit_model.Image.{last_kept, odometer_at}
use Rattle.run_devices.specs.log_model.declared.lines.Break.{Break}
use Rattle.run_devices.specs.log_model.declared.lines.Break.TheVariants.{Cut, Tear}
use Rattle.run_devices.specs.log_model.Causes.{is_cut, has_failed, second_of}
use Rattle.run_devices.specs.log_model.Course.{ToldSecond}
use Rattle.run_devices.specs.log_model.Log.{RunLog, kept_after}
use Rattle.run_devices.specs.log_model.Spans.{first_in}
use Rattle.run_devices.specs.history_model.History.{decided_of, cut_second, limit_by}
use Rattle.run_devices.specs.run_unit_course.Lines.{log_of, cut_at, with_kept, found_from, tells_cut}
use Rattle.run_devices.proofs.run_unit_course.Lines.{kept-known, kept-now, tells-append, tells-found, tells-front, tells-behind, take-front, take-all}
use Rattle.run_devices.specs.note_model.Done.{has_failed_in}
use Rattle.run_devices.specs.note_model.Odometer.{SpanFrom, MayStore, OfStart, OfKept, OfCut, found_kept, last_second, BeginsFrom, HaveBases}
use Rattle.run_devices.specs.safety_model.Safe.{Devices}
use Rattle.run_devices.specs.run_course.Moments.{and_break}
use Rattle.run_devices.proofs.run_course.Lookups.{kept-by}
use Rattle.run_devices.proofs.run_course.Logs.{found_log, kept-found}
use Rattle.run_note_record.specs.Origin.{Origin, rule_of, first_of}
use Rattle.run_events.specs.run_rings.Spans.{go_on_from, with_second}
use Rattle.run_note_record.specs.RingsSoFar.{HasMoreBreaks}
use Rattle.run_note_record.specs.Stored.{IsFoundEnd, IsOpenEnd, limited, minutes_kept, IsNewest, StandsOn, StoresOn, SinceRead, StoresOff}
use Rattle.run_note_record.proofs.SoFar.{failed-more}
use Rattle.run_note_record.proofs.Stored.{AtEnd, nothing, push, at-end, may-more}

-- ---- lists

all-append : {X : Type 0} (P : X → Type 0) (xs ys : List X) → AllByRecursion P xs → AllByRecursion P ys → AllByRecursion P (xs ++ ys)
all-append P [] ys h k = k
all-append P (x ∷ xs) ys h k = (h.0, all-append P xs ys h.1 k)

all-then : {X : Type 0} (P Q : X → Type 0) → ((x : X) → P x → Q x) → (xs : List X) → AllByRecursion P xs → AllByRecursion Q xs
all-then P Q goes [] h = tt
all-then P Q goes (x ∷ xs) h = (goes x h.0, all-then P Q goes xs h.1)

-- ---- the last second of some spans

last-of : (pre : List SpanFrom) (s : SpanFrom) → last_second (pre ++ s ∷ []) ≡ last s.span
last-of [] s = refl
last-of (x ∷ []) s = refl
last-of (x ∷ y ∷ pre) s = last-of (y ∷ pre) s

pub record CutTold (o : Option ToldSecond) (u : ℕ) : Type 0 where
  pub t : ToldSecond
  pub is : o ≡ Some t
  pub number : t.second.number ≡ u

cut-told : (o : Option ToldSecond) (u : ℕ) → cut_second o ≡ Some u → CutTold o u
cut-told None u is = absurd (cc)
cut-told (Some t) u is = by t.cut is
  where
    by : (c : Bool) → cond c (Some t.second.number) None ≡ Some u → CutTold (Some t) u
    by true same = record { t = t; is = refl; number = let e : t.second.number ≡ u = cc in e }
    by false same = absurd (cc)

-- what was found kept behind them is told of its cut
pub kept-behind : (log : RunLog) (first : ℕ) (pre : List SpanFrom) (s : SpanFrom) (u : ℕ) → cut_second (last s.span) ≡ Some u → found_kept log first (last_second (pre ++ s ∷ [])) ≡ kept_after log u
kept-behind log first pre s u is =
    let c = cut-told (last s.span) u is in
    ap (found_kept log first) (last-of pre s ∙ c.is) ∙ ap (kept_after log) c.number

-- ---- logs

-- what is known stays so
pub record GoesOnTo (log : RunLog) (unfound : ℕ) (later : RunLog) (unfound_later : ℕ) : Type 0 where
  pub kept : (u : ℕ) → tells_cut u (take unfound log.breaks) ≡ true → kept_after later u ≡ kept_after log u
  pub known : (u : ℕ) → tells_cut u (take unfound log.breaks) ≡ true → tells_cut u (take unfound_later later.breaks) ≡ true
  pub failed : (u : ℕ) → has_failed_in log u ≡ true → has_failed_in later u ≡ true

front-same : (log later : RunLog) (unfound : ℕ) → unfound ≤ length log.breaks → HasMoreBreaks log later → take unfound later.breaks ≡ take unfound log.breaks
front-same log later unfound le more = ap (take unfound) more.1 ∙ take-front unfound log.breaks more.0 le

pub more-breaks : (log later : RunLog) (unfound : ℕ) → unfound ≤ length log.breaks → HasMoreBreaks log later → GoesOnTo log unfound later unfound
more-breaks log later unfound le more = record {
  kept = λ u tells.
      kept-by later u ∙ ap (λ (bs : List Break). kept_after (log_of bs) u) more.1 ∙ kept-known log.breaks more.0 u (tells-front u unfound log.breaks tells) ∙ sym (kept-by log u);
  known = λ u tells. ap (tells_cut u) (front-same log later unfound le more) ∙ tells;
  failed = failed-more log later more;
}

-- of a cut that is found it is told as before whether a call had failed
abbrev Fails : List Break → ℕ → Bool
Fails bs u = list_any (λ (b : Break). nat_eq (second_of b) u) (filter (λ (b : Break). is_cut b && has_failed b) bs)

-- with one line more in front
fails-first : (b c : Break) (xs ys : List Break) (u : ℕ) → is_cut b ≡ is_cut c → has_failed b ≡ has_failed c → second_of b ≡ second_of c → Fails xs u ≡ Fails ys u → Fails (b ∷ xs) u ≡ Fails (c ∷ ys) u
fails-first b c xs ys u cut failed second rest =
    ap (λ (t : Bool). list_any (λ (x : Break). nat_eq (second_of x) u) (cond t (b ∷ filter (λ (x : Break). is_cut x && has_failed x) xs) (filter (λ (x : Break). is_cut x && has_failed x) xs))) (λ i. cut i && failed i)
    ∙ by (is_cut c && has_failed c)
  where
    by : (t : Bool) → list_any (λ (x : Break). nat_eq (second_of x) u) (cond t (b ∷ filter (λ (x : Break). is_cut x && has_failed x) xs) (filter (λ (x : Break). is_cut x && has_failed x) xs))
        ≡ list_any (λ (x : Break). nat_eq (second_of x) u) (cond t (c ∷ filter (λ (x : Break). is_cut x && has_failed x) ys) (filter (λ (x : Break). is_cut x && has_failed x) ys))
    by true = λ i. nat_eq (second i) u || rest i
    by false = rest

fails-map : (k : ℕ) (bs : List Break) (u : ℕ) → Fails (map (with_kept k) bs) u ≡ Fails bs u
fails-map k [] u = refl
fails-map k (Cut s old failed begun ∷ bs) u = fails-first (Cut s k failed begun) (Cut s old failed begun) (map (with_kept k) bs) bs u refl refl refl (fails-map k bs u)
fails-map k (Tear s at failed begun late ∷ bs) u = fails-map k bs u

fails-found : (i k : ℕ) (bs : List Break) (u : ℕ) → Fails (found_from i k bs) u ≡ Fails bs u
fails-found zero k bs u = fails-map k bs u
fails-found (suc i) k [] u = refl
fails-found (suc i) k (b ∷ bs) u = fails-first b b (found_from i k bs) bs u refl refl refl (fails-found i k bs u)

pub was-found : (log : RunLog) (unfound k : ℕ) → GoesOnTo log unfound (found_log unfound k log) (length (found_from unfound k log.breaks))
was-found log unfound k = record {
  kept = λ u tells. sym (kept-found log unfound k u tells);
  known = λ u tells. ap (tells_cut u) (take-all (found_from unfound k log.breaks)) ∙ tells-found u unfound k log.breaks ∙ tells-front u unfound log.breaks tells;
  failed = λ u has. fails-found unfound k log.breaks u ∙ has;
}

-- ---- what stands, as the log goes on

module _ (log : RunLog) (unfound : ℕ) (later : RunLog) (unfound_later : ℕ) (goes : GoesOnTo log unfound later unfound_later) where
  end-on : (s : SpanFrom) → IsFoundEnd log unfound s → IsFoundEnd later unfound_later s
  end-on s h = record { second = h.second; cut = h.cut; known = goes.known h.second h.known }

  pub ends-on : (xs : List SpanFrom) → AllByRecursion (IsFoundEnd log unfound) xs → AllByRecursion (IsFoundEnd later unfound_later) xs
  ends-on xs h = all-then (IsFoundEnd log unfound) (IsFoundEnd later unfound_later) end-on xs h

  limit-on : (s : SpanFrom) → IsFoundEnd log unfound s → limit_by later (cut_second (last s.span)) ≡ limit_by log (cut_second (last s.span))
  limit-on s h = ap (limit_by later) h.cut ∙ ap (λ (k : ℕ). Some k) (goes.kept h.second h.known) ∙ sym (ap (limit_by log) h.cut)

  pub minutes-on : (rule : Rule) (xs : List SpanFrom) → AllByRecursion (IsFoundEnd log unfound) xs → minutes_kept rule later xs ≡ minutes_kept rule log xs
  minutes-on rule [] h = refl
  minutes-on rule (s ∷ xs) h =
      ap (λ (l : Option ℕ). limited l (map (λ (d : Minute). d.minute) (decided_of rule s.span)) ++ minutes_kept rule later xs) (limit-on s h.0)
      ∙ ap (λ (ms : List ℕ). limited (limit_by log (cut_second (last s.span))) (map (λ (d : Minute). d.minute) (decided_of rule s.span)) ++ ms) (minutes-on rule xs h.1)

  -- what was found kept behind these is the same
  abbrev FoundSame : ℕ → List SpanFrom → Type 0
  FoundSame first pre = found_kept later first (last_second pre) ≡ found_kept log first (last_second pre)

  same-behind : (first : ℕ) (pre : List SpanFrom) (s : SpanFrom) → IsFoundEnd log unfound s → FoundSame first (pre ++ s ∷ [])
  same-behind first pre s h = kept-behind later first pre s h.second h.cut ∙ goes.kept h.second h.known ∙ sym (kept-behind log first pre s h.second h.cut)

  pub found-on : (first : ℕ) (pre xs : List SpanFrom) → FoundSame first pre → AllByRecursion (IsFoundEnd log unfound) xs → FoundSame first (pre ++ xs)
  found-on first pre [] same h = subst (FoundSame first) (sym (append-nil pre)) same
  found-on first pre (s ∷ xs) same h = subst (FoundSame first) (append_assoc pre (s ∷ []) xs) (found-on first (pre ++ s ∷ []) xs (same-behind first pre s h.0) h.1)

  not-failed : (u : ℕ) → has_failed_in later u ≡ false → has_failed_in log u ≡ false
  not-failed u none = by (has_failed_in log u) refl
    where
      by : (b : Bool) → has_failed_in log u ≡ b → has_failed_in log u ≡ false
      by false is = is
      by true is = absurd (let bad : true ≡ false = sym (goes.failed u is) ∙ none in cc)

  -- a span began so, still
  begins-on : (rule : Rule) (start first : ℕ) (pre : List SpanFrom) (s : SpanFrom) → FoundSame first pre → AllByRecursion (IsFoundEnd log unfound) pre → BeginsFrom rule log start first pre s → BeginsFrom rule later start first pre s
  begins-on rule start first pre s same before h = record {
    kept = h.kept;
    found = λ none. h.found (not-failed (first_in s.span) none) ∙ sym same;
    newest = λ none. subst (λ (ms : List ℕ). IsNewest first ms h.kept) (sym (minutes-on rule pre before)) (h.newest (not-failed (first_in s.span) none));
    stored = h.stored;
  }

  -- in its first second a call failed: nothing is said of what was kept
  begins-failed : (rule : Rule) (start first : ℕ) (pre : List SpanFrom) (s : SpanFrom) → has_failed_in log (first_in s.span) ≡ true → BeginsFrom rule log start first pre s → BeginsFrom rule later start first pre s
  begins-failed rule start first pre s failed h = record { kept = h.kept; found = λ none. absurd (let bad : true ≡ false = sym (goes.failed (first_in s.span) failed) ∙ none in cc); newest = λ none. absurd (let bad : true ≡ false = sym (goes.failed (first_in s.span) failed) ∙ none in cc); stored = h.stored }

  all-failed : (rule : Rule) (start first : ℕ) (pre xs : List SpanFrom) → AllByRecursion (λ (s : SpanFrom). has_failed_in log (first_in s.span) ≡ true) xs → HaveBases rule log start first pre xs → HaveBases rule later start first pre xs
  all-failed rule start first pre [] failed h = tt
  all-failed rule start first pre (s ∷ xs) failed h = (begins-failed rule start first pre s failed.0 h.0, all-failed rule start first (pre ++ s ∷ []) xs failed.1 h.1)

  -- these may be added to those that have ended so
  ended-more : (pre : List SpanFrom) (s : SpanFrom) → AllByRecursion (IsFoundEnd log unfound) pre → IsFoundEnd log unfound s → AllByRecursion (IsFoundEnd log unfound) (pre ++ s ∷ [])
  ended-more pre s before end = all-append (IsFoundEnd log unfound) pre (s ∷ []) before (end, tt)

  pub bases-on : (rule : Rule) (start first : ℕ) (pre xs : List SpanFrom) → FoundSame first pre → AllByRecursion (IsFoundEnd log unfound) pre → AllByRecursion (IsFoundEnd log unfound) xs → HaveBases rule log start first pre xs → HaveBases rule later start first pre xs
  bases-on rule start first pre [] same before ends h = tt
  bases-on rule start first pre (s ∷ xs) same before ends h = (begins-on rule start first pre s same before h.0, bases-on rule start first (pre ++ s ∷ []) xs (same-behind first pre s ends.0) (ended-more pre s before ends.0) ends.1 h.1)

  -- and those since the unit was read
  bases-since : (rule : Rule) (start first : ℕ) (pre xs : List SpanFrom) (span : SpanFrom) (unread : List SpanFrom) → FoundSame first pre → AllByRecursion (IsFoundEnd log unfound) pre → AllByRecursion (IsFoundEnd log unfound) xs → AllByRecursion (λ (s : SpanFrom). has_failed_in log (first_in s.span) ≡ true) unread →
      HaveBases rule log start first pre (xs ++ span ∷ unread) → HaveBases rule later start first pre (xs ++ span ∷ unread)
  bases-since rule start first pre [] span unread same before ends failed h = (begins-on rule start first pre span same before h.0, all-failed rule start first (pre ++ span ∷ []) unread failed h.1)
  bases-since rule start first pre (s ∷ xs) span unread same before ends failed h = (begins-on rule start first pre s same before h.0, bases-since rule start first (pre ++ s ∷ []) xs span unread (same-behind first pre s ends.0) (ended-more pre s before ends.0) ends.1 failed h.1)

  pub bases-off : (rule : Rule) (start first : ℕ) (spans : List SpanFrom) → (spans ≡ []) ⊎ SinceRead log unfound spans → HaveBases rule log start first [] spans → HaveBases rule later start first [] spans
  bases-off rule start first spans since h = ⊎_elim
      (λ (none : spans ≡ []). subst (HaveBases rule later start first []) (sym none) tt)
      (λ (r : SinceRead log unfound spans). subst (HaveBases rule later start first []) (sym r.are)
      (bases-since rule start first [] r.earlier r.span r.unread refl tt r.ends r.failed (subst (HaveBases rule log start first []) r.are h)))
      since

  pub stands-on : (o : Origin) (earlier : List SpanFrom) (base : ℕ) → StandsOn o log unfound earlier base → StandsOn o later unfound_later earlier base
  stands-on o earlier base h = record {
    ends = ends-on earlier h.ends;
    bases = bases-on (rule_of o) (odometer_at o.recording.unit) (first_of o) [] earlier refl tt h.ends h.bases;
    kept = h.kept;
    found = h.found ∙ sym (found-on (first_of o) [] earlier refl h.ends);
    stored = h.stored;
    newest = subst (λ (ms : List ℕ). IsNewest (first_of o) ms h.kept) (sym (minutes-on (rule_of o) earlier h.ends)) h.newest;
  }

-- one span more
pub bases-push : (rule : Rule) (log : RunLog) (start first : ℕ) (pre xs : List SpanFrom) (s : SpanFrom) → HaveBases rule log start first pre xs → BeginsFrom rule log start first (pre ++ xs) s → HaveBases rule log start first pre (xs ++ s ∷ [])
bases-push rule log start first pre [] s h begins = (subst (λ (ys : List SpanFrom). BeginsFrom rule log start first ys s) (append-nil pre) begins, tt)
bases-push rule log start first pre (x ∷ xs) s h begins = (h.0, bases-push rule log start first (pre ++ x ∷ []) xs s h.1 (subst (λ (ys : List SpanFrom). BeginsFrom rule log start first ys s) (sym (append_assoc pre (x ∷ []) xs)) begins))

-- ---- WITH POWER

-- it goes on to a later log
pub stored-later : (o : Origin) (log later : RunLog) (unfound base : ℕ) (spans : List SpanFrom) → unfound ≤ length log.breaks → HasMoreBreaks log later → StoresOn o log unfound base spans → StoresOn o later unfound base spans
stored-later o log later unfound base spans le more h = record { earlier = h.earlier; span = h.span; are = h.are; stands = stands-on log unfound later unfound (more-breaks log later unfound le more) o h.earlier base h.stands }

-- a second more, in the span that goes on
pub goes-on : (earlier : List SpanFrom) (s : SpanFrom) (base : ℕ) (t : ToldSecond) → go_on_from (earlier ++ s ∷ []) base t ≡ earlier ++ record { base = s.base; span = s.span ++ t ∷ [] } ∷ []
goes-on [] s base t = refl
goes-on (x ∷ []) s base t = refl
goes-on (x ∷ y ∷ earlier) s base t = ap (λ (l : List SpanFrom). x ∷ l) (goes-on (y ∷ earlier) s base t)

pub with-next : (spans : List SpanFrom) (base : ℕ) (t : ToldSecond) → t.lit ≡ true → t.starts ≡ false → with_second spans base t ≡ go_on_from spans base t
with-next spans base t lit off = λ i. cond (lit i) (cond (off i) (spans ++ record { base = base; span = t ∷ [] } ∷ []) (go_on_from spans base t)) spans

pub with-first : (spans : List SpanFrom) (base : ℕ) (t : ToldSecond) → t.lit ≡ true → t.starts ≡ true → with_second spans base t ≡ spans ++ record { base = base; span = t ∷ [] } ∷ []
with-first spans base t lit on = λ i. cond (lit i) (cond (on i) (spans ++ record { base = base; span = t ∷ [] } ∷ []) (go_on_from spans base t)) spans

pub next-are : (earlier : List SpanFrom) (base : ℕ) (span : List ToldSecond) (spans : List SpanFrom) (other : ℕ) (t : ToldSecond) → spans ≡ earlier ++ record { base = base; span = span } ∷ [] → t.lit ≡ true → t.starts ≡ false →
    with_second spans other t ≡ earlier ++ record { base = base; span = span ++ t ∷ [] } ∷ []
next-are earlier base span spans other t are lit off =
    with-next spans other t lit off ∙ ap (λ (l : List SpanFrom). go_on_from l other t) are ∙ goes-on earlier (record { base = base; span = span }) other t

pub stored-next : (o : Origin) (log : RunLog) (unfound base other : ℕ) (spans : List SpanFrom) (t : ToldSecond) → t.lit ≡ true → t.starts ≡ false → StoresOn o log unfound base spans → StoresOn o log unfound base (with_second spans other t)
stored-next o log unfound base other spans t lit off h = record { earlier = h.earlier; span = h.span ++ t ∷ []; are = next-are h.earlier base h.span spans other t h.are lit off; stands = h.stands }

-- whatever is told of that second, and with which odometer it goes on
pub stored-alike : (o : Origin) (log : RunLog) (unfound base : ℕ) (spans : List SpanFrom) (t x : ToldSecond) → t.lit ≡ true → x.lit ≡ true → x.starts ≡ t.starts → StoresOn o log unfound base (with_second spans base t) → StoresOn o log unfound base (with_second spans base x)
stored-alike o log unfound base spans t x lit also same h = by t.starts refl
  where
    by : (b : Bool) → t.starts ≡ b → StoresOn o log unfound base (with_second spans base x)
    by true on =
        let parts = same_from_push spans h.earlier (record { base = base; span = t ∷ [] }) (record { base = base; span = h.span }) (sym (with-first spans base t lit on) ∙ h.are) in
        record { earlier = spans; span = x ∷ []; are = with-first spans base x also (same ∙ on); stands = subst (λ (e : List SpanFrom). StandsOn o log unfound e base) (sym parts.0) h.stands }
    by false off = at_last spans (sym (with-next spans base t lit off) ∙ h.are) (with-next spans base x also (same ∙ off)) (at-end spans)
      where
        at_last : (ss : List SpanFrom) → go_on_from ss base t ≡ h.earlier ++ record { base = base; span = h.span } ∷ [] → with_second spans base x ≡ go_on_from ss base x → AtEnd ss → StoresOn o log unfound base (with_second spans base x)
        at_last _ are now nothing =
            let parts = same_from_push [] h.earlier (record { base = base; span = t ∷ [] }) (record { base = base; span = h.span }) are in
            record { earlier = []; span = x ∷ []; are = now; stands = subst (λ (e : List SpanFrom). StandsOn o log unfound e base) (sym parts.0) h.stands }
        at_last _ are now (push e s) =
            let parts = same_from_push e h.earlier (record { base = s.base; span = s.span ++ t ∷ [] }) (record { base = base; span = h.span }) (sym (goes-on e s base t) ∙ are) in
            let from : s.base ≡ base = ap (λ (y : SpanFrom). y.base) parts.1 in
            record {
              earlier = e;
              span = s.span ++ x ∷ [];
              are = now ∙ goes-on e s base x ∙ ap (λ (n : ℕ). e ++ record { base = n; span = s.span ++ x ∷ [] } ∷ []) from;
              stands = subst (λ (l : List SpanFrom). StandsOn o log unfound l base) (sym parts.0) h.stands;
            }

-- or with which a span begins
pub stored-first : (o : Origin) (log : RunLog) (unfound base : ℕ) (spans : List SpanFrom) (t : ToldSecond) → t.lit ≡ true → t.starts ≡ true → StandsOn o log unfound spans base → StoresOn o log unfound base (with_second spans base t)
stored-first o log unfound base spans t lit on h = record { earlier = spans; span = t ∷ []; are = with-first spans base t lit on; stands = h }

-- THE BASES of all of them
pub stored-bases : (o : Origin) (log : RunLog) (unfound base : ℕ) (spans : List SpanFrom) → StoresOn o log unfound base spans → HaveBases (rule_of o) log (odometer_at o.recording.unit) (first_of o) [] spans
stored-bases o log unfound base spans h =
    subst (HaveBases (rule_of o) log (odometer_at o.recording.unit) (first_of o) []) (sym h.are)
    (bases-push (rule_of o) log (odometer_at o.recording.unit) (first_of o) [] h.earlier (record { base = base; span = h.span }) h.stands.bases (record { kept = h.stands.kept; found = λ none. h.stands.found; newest = λ none. h.stands.newest; stored = h.stands.stored }))

-- ---- POWER IS LOST

-- the span that went on ends with a cut, and each image has stored so
pub stored-ends : (o : Origin) (log later : RunLog) (unfound : ℕ) (earlier : List SpanFrom) (base : ℕ) (span : List ToldSecond) (u : ℕ) (d : Devices) → unfound ≤ length log.breaks → HasMoreBreaks log later → StandsOn o log unfound earlier base →
    cut_second (last span) ≡ Some u → tells_cut u later.breaks ≡ true → tells_cut u (take unfound log.breaks) ≡ false →
    ((x : List ℕ) → d.unit.may_leave x → MayStore (rule_of o) (odometer_at o.recording.unit) (first_of o) (earlier ++ record { base = base; span = span } ∷ []) (last_kept x) (odometer_at x)) →
    StoresOff o later unfound (earlier ++ record { base = base; span = span } ∷ []) d
stored-ends o log later unfound earlier base span u d le more h cut tells absent stores =
    let goes = more-breaks log later unfound le more in
    let now = stands-on log unfound later unfound goes o earlier base h in
    record {
      bases = bases-push (rule_of o) later (odometer_at o.recording.unit) (first_of o) [] earlier (record { base = base; span = span }) now.bases (record { kept = now.kept; found = λ none. now.found; newest = λ none. now.newest; stored = now.stored });
      since = inr (record {
        earlier = earlier;
        span = record { base = base; span = span };
        unread = [];
        are = refl;
        ends = now.ends;
        unknown = (record { second = u; cut = cut; told = tells; unknown = ap (tells_cut u) (front-same log later unfound le more) ∙ absent }, tt);
        failed = tt;
      });
      stores = stores;
    }

-- ---- WITHOUT POWER

-- further lines are told
open-on : (log later : RunLog) (unfound : ℕ) → unfound ≤ length log.breaks → HasMoreBreaks log later → (s : SpanFrom) → IsOpenEnd log unfound s → IsOpenEnd later unfound s
open-on log later unfound le more s h = record {
  second = h.second;
  cut = h.cut;
  told = ap (tells_cut h.second) more.1 ∙ tells-append h.second log.breaks more.0 ∙ ap (λ (b : Bool). b || tells_cut h.second more.0) h.told;
  unknown = ap (tells_cut h.second) (front-same log later unfound le more) ∙ h.unknown;
}

since-on : (log later : RunLog) (unfound : ℕ) (spans : List SpanFrom) → unfound ≤ length log.breaks → HasMoreBreaks log later → SinceRead log unfound spans → SinceRead later unfound spans
since-on log later unfound spans le more r = record {
  earlier = r.earlier;
  span = r.span;
  unread = r.unread;
  are = r.are;
  ends = ends-on log unfound later unfound (more-breaks log later unfound le more) r.earlier r.ends;
  unknown = all-then (IsOpenEnd log unfound) (IsOpenEnd later unfound) (open-on log later unfound le more) (r.span ∷ r.unread) r.unknown;
  failed = all-then (λ (s : SpanFrom). has_failed_in log (first_in s.span) ≡ true) (λ (s : SpanFrom). has_failed_in later (first_in s.span) ≡ true) (λ s. failed-more log later more (first_in s.span)) r.unread r.failed;
}

pub stored-dark : (o : Origin) (log later : RunLog) (unfound : ℕ) (spans : List SpanFrom) (d : Devices) → unfound ≤ length log.breaks → HasMoreBreaks log later → StoresOff o log unfound spans d → StoresOff o later unfound spans d
stored-dark o log later unfound spans d le more h = record {
  bases = bases-off log unfound later unfound (more-breaks log later unfound le more) (rule_of o) (odometer_at o.recording.unit) (first_of o) spans h.since h.bases;
  since = ⊎_elim (λ none. inl none) (λ r. inr (since-on log later unfound spans le more r)) h.since;
  stores = h.stores;
}

-- THE UNIT WAS NOT READ: the power-on failed at once; its second is a span, with what the unit has stored.
pub record StaysStored (d e : Devices) : Type 0 where
  pub each : (x : List ℕ) → e.unit.may_leave x → (y : List ℕ) × d.unit.may_leave y × (last_kept x ≡ last_kept y) × (odometer_at x ≡ odometer_at y)

pub stays-stored : (o : Origin) (log : RunLog) (unfound : ℕ) (spans : List SpanFrom) (d e : Devices) → StaysStored d e → StoresOff o log unfound spans d → StoresOff o log unfound spans e
stays-stored o log unfound spans d e stays h = record {
  bases = h.bases;
  since = h.since;
  stores = λ x on.
      let y = stays.each x on in
      subst (λ (k : ℕ). MayStore (rule_of o) (odometer_at o.recording.unit) (first_of o) spans k (odometer_at x)) (sym y.2)
      (subst (λ (q : ℕ). MayStore (rule_of o) (odometer_at o.recording.unit) (first_of o) spans (last_kept y.0) q) (sym y.3) (h.stores y.0 y.1));
}

same-itself : (u : ℕ) → nat_eq u u ≡ true
same-itself u = grind (arith, nat_tests)

any-last : {X : Type 0} (p : X → Bool) (xs : List X) (x : X) → p x ≡ true → list_any p (xs ++ x ∷ []) ≡ true
any-last p [] x is = ap (λ (b : Bool). b || false) is
any-last p (y ∷ xs) x is = by (p y) (any-last p xs x is)
  where
    by : (b : Bool) → list_any p (xs ++ x ∷ []) ≡ true → (b || list_any p (xs ++ x ∷ [])) ≡ true
    by true rest = refl
    by false rest = rest

-- a cut that is told of a failed call
pub failed-here : (log : RunLog) (u begun : ℕ) → has_failed_in (and_break log (cut_at u true begun)) u ≡ true
failed-here log u begun =
    ap (list_any (λ (b : Break). nat_eq (second_of b) u)) (filter-append (λ (b : Break). is_cut b && has_failed b) log.breaks (cut_at u true begun ∷ []))
    ∙ any-last (λ (b : Break). nat_eq (second_of b) u) (filter (λ (b : Break). is_cut b && has_failed b) log.breaks) (cut_at u true begun) (same-itself u)

module _ (o : Origin) (log later : RunLog) (unfound : ℕ) (spans : List SpanFrom) (d : Devices) (t : ToldSecond) (u : ℕ) (x : List ℕ) (le : unfound ≤ length log.breaks) (more : HasMoreBreaks log later) (number : t.second.number ≡ u) (ends : t.cut ≡ true)
    (failed : has_failed_in later u ≡ true) (tells : tells_cut u later.breaks ≡ true) (absent : tells_cut u (take unfound log.breaks) ≡ false) (on : d.unit.may_leave x) (h : StoresOff o log unfound spans d) where
  abbrev new : SpanFrom
  new = record { base = odometer_at x; span = t ∷ [] }

  now : StoresOff o later unfound spans d
  now = stored-dark o log later unfound spans d le more h

  has : has_failed_in later (first_in new.span) ≡ true
  has = ap (has_failed_in later) number ∙ failed

  ends-so : (c : Bool) → c ≡ true → cond c (Some t.second.number) None ≡ Some u
  ends-so true is = ap (λ (n : ℕ). Some n) number
  ends-so false is = absurd (cc)

  new-end : IsOpenEnd later unfound new
  new-end = record { second = u; cut = ends-so t.cut ends; told = tells; unknown = ap (tells_cut u) (front-same log later unfound le more) ∙ absent }

  pub stored-unread : StoresOff o later unfound (spans ++ record { base = odometer_at x; span = t ∷ [] } ∷ []) d
  stored-unread = record {
    bases = bases-push (rule_of o) later (odometer_at o.recording.unit) (first_of o) [] spans new now.bases (record { kept = last_kept x; found = λ none. absurd (let bad : true ≡ false = sym has ∙ none in cc); newest = λ none. absurd (let bad : true ≡ false = sym has ∙ none in cc); stored = now.stores x on });
    since = inr (⊎_elim
        (λ (none : spans ≡ []). record { earlier = []; span = new; unread = []; are = ap (λ (l : List SpanFrom). l ++ new ∷ []) none; ends = tt; unknown = (new-end, tt); failed = tt })
        (λ (r : SinceRead later unfound spans). record {
          earlier = r.earlier;
          span = r.span;
          unread = r.unread ++ new ∷ [];
          are = ap (λ (l : List SpanFrom). l ++ new ∷ []) r.are ∙ append_assoc r.earlier (r.span ∷ r.unread) (new ∷ []);
          ends = r.ends;
          unknown = all-append (IsOpenEnd later unfound) (r.span ∷ r.unread) (new ∷ []) r.unknown (new-end, tt);
          failed = all-append (λ (s : SpanFrom). has_failed_in later (first_in s.span) ≡ true) r.unread (new ∷ []) r.failed (has, tt);
        })
        now.since);
    stores = λ y left. may-more (rule_of o) (odometer_at o.recording.unit) (first_of o) spans (spans ++ new ∷ []) (last_kept y) (odometer_at y) (λ s at. Contains-append_left spans (new ∷ []) s at) (now.stores y left);
  }

-- ---- POWER IS BACK: what was kept is found

may-none : (rule : Rule) (start first kept odometer : ℕ) → MayStore rule start first [] kept odometer → kept ≡ first
may-none rule start first kept _ (OfStart is) = is
may-none rule start first kept _ (OfKept s d at among is) = absurd (omega (arith, at.1))
may-none rule start first kept _ (OfCut s d at among cut late) = absurd (omega (arith, at.1))

module _ (o : Origin) (log : RunLog) (unfound k : ℕ) where
  abbrev found_ : RunLog
  found_ = found_log unfound k log

  abbrev known_ : ℕ
  known_ = length (found_from unfound k log.breaks)

  open-found : (s : SpanFrom) → IsOpenEnd log unfound s → IsFoundEnd found_ known_ s
  open-found s h = record { second = h.second; cut = h.cut; known = ap (tells_cut h.second) (take-all (found_from unfound k log.breaks)) ∙ tells-found h.second unfound k log.breaks ∙ h.told }

  ends-found : (spans : List SpanFrom) → SinceRead log unfound spans → AllByRecursion (IsFoundEnd found_ known_) spans
  ends-found spans r =
      subst (AllByRecursion (IsFoundEnd found_ known_)) (sym r.are)
      (all-append (IsFoundEnd found_ known_) r.earlier (r.span ∷ r.unread) (ends-on log unfound found_ known_ (was-found log unfound k) r.earlier r.ends)
      (all-then (IsOpenEnd log unfound) (IsFoundEnd found_ known_) open-found (r.span ∷ r.unread) r.unknown))

  found-last : (pre : List SpanFrom) (x : SpanFrom) (xs : List SpanFrom) → AllByRecursion (IsOpenEnd log unfound) (x ∷ xs) → found_kept found_ (first_of o) (last_second (pre ++ x ∷ xs)) ≡ k
  found-last pre x [] h =
      kept-behind found_ (first_of o) pre x h.0.second h.0.cut
      ∙ kept-by found_ h.0.second ∙ kept-now k (take unfound log.breaks) (drop unfound log.breaks) h.0.second h.0.unknown (tells-behind h.0.second unfound log.breaks h.0.unknown h.0.told)
  found-last pre x (y ∷ xs) h =
      subst (λ (l : List SpanFrom). found_kept found_ (first_of o) (last_second l) ≡ k) (append_assoc pre (x ∷ []) (y ∷ xs)) (found-last (pre ++ x ∷ []) y xs h.1)

  pub stored-found : (spans : List SpanFrom) (d : Devices) (x : List ℕ) → d.unit.may_leave x → last_kept x ≡ k → IsNewest (first_of o) (minutes_kept (rule_of o) found_ spans) k → StoresOff o log unfound spans d → StandsOn o found_ known_ spans (odometer_at x)
  stored-found spans d x on is newest h =
      let stored : MayStore (rule_of o) (odometer_at o.recording.unit) (first_of o) spans k (odometer_at x) =
      subst (λ (n : ℕ). MayStore (rule_of o) (odometer_at o.recording.unit) (first_of o) spans n (odometer_at x)) is (h.stores x on) in
      record {
        ends = ⊎_elim (λ (none : spans ≡ []). subst (AllByRecursion (IsFoundEnd found_ known_)) (sym none) tt) (λ (r : SinceRead log unfound spans). ends-found spans r) h.since;
        bases = bases-off log unfound found_ known_ (was-found log unfound k) (rule_of o) (odometer_at o.recording.unit) (first_of o) spans h.since h.bases;
        kept = k;
        found = ⊎_elim
            (λ (none : spans ≡ []).
            may-none (rule_of o) (odometer_at o.recording.unit) (first_of o) k (odometer_at x) (subst (λ (l : List SpanFrom). MayStore (rule_of o) (odometer_at o.recording.unit) (first_of o) l k (odometer_at x)) none stored)
            ∙ sym (ap (λ (l : List SpanFrom). found_kept found_ (first_of o) (last_second l)) none))
            (λ (r : SinceRead log unfound spans). sym (found-last r.earlier r.span r.unread r.unknown) ∙ sym (ap (λ (l : List SpanFrom). found_kept found_ (first_of o) (last_second l)) r.are))
            h.since;
        stored = stored;
        newest = newest;
      }

-- AT THE START there is no span
pub stored-start : (o : Origin) (log : RunLog) (d : Devices) → ((x : List ℕ) → d.unit.may_leave x → x ≡ o.recording.unit) → StoresOff o log 0 [] d
stored-start o log d one = record {
  bases = tt;
  since = inl refl;
  stores = λ x on. subst (λ (y : List ℕ). MayStore (rule_of o) (odometer_at o.recording.unit) (first_of o) [] (last_kept y) (odometer_at y)) (sym (one x on)) (OfStart refl);
}
