-- One second more by a log: what its lines leave of the seconds before, and how it went.
use Rattle.std.proofs.Common.{◌≡◌, ⊎_elim, ℕ, ◌+◌, ◌<◌, ◌≤◌, Bool, true, false, cond, ◌||◌, nat_eq, Option, Some, None, is_some, List, [], ◌∷◌, ◌++◌, All, Contains, length, take, fold, refl, ap, sym, subst, ◌∙◌, arith, append_assoc}
use Rattle.std.specs.Prelude.{unwrap_or}
use Rattle.std.specs.List.{AllByRecursion}
use Rattle.std.proofs.lemmas.Bool.Decides.{nat_tests}
use Rattle.std.proofs.lemmas.List.Folds.{list_any-append}
use Rattle.std.proofs.lemmas.List.Elements.{Contains-push_cases}
use Rattle.run_devices.specs.trace_model.Trace.{TraceSecond}
use Rattle.run_devices.specs.log_model.declared.lines.Break.{Break}
use Rattle.run_devices.specs.log_model.declared.lines.Break.TheVariants.{Cut, Tear}
use Rattle.run_devices.specs.log_model.declared.lines.Verdict.{Verdict}
use Rattle.run_devices.specs.log_model.Log.{RunLog, cut_of, kept_by, kept_after, is_accepting}
use Rattle.run_devices.specs.log_model.Causes.{is_cut}
use Rattle.run_devices.specs.log_model.Same.{SameAt}
use Rattle.run_devices.specs.log_model.Spans.{AreInOrder}
use Rattle.run_devices.specs.log_model.Course.{ToldSecond, Visit, Went, not_begun, went}
use Rattle.run_devices.proofs.log_model.Growth.{went-more}
use Rattle.run_devices.specs.event_model.Events.{Seen, Watched, number_of, seen_by, watched_on, seen_of}
use Rattle.run_devices.specs.run_unit_course.Lines.{log_of, cut_at, tells_cut}
use Rattle.run_devices.specs.run_unit_course.Followed.{cuts_from}
use Rattle.run_events.specs.unit_events.Noted.{StayFailed}
use Rattle.run_events.proofs.unit_events.Failing.{kept-added}
use Rattle.run_devices.specs.safety_model.Recording.{card_image}
use Rattle.run_devices.specs.safety_model.Safe.{Devices}
use Rattle.run_devices.specs.run_course.Followed.{Progress, BookFollowsRun, IsBreakBefore, AreBefore}
use Rattle.run_devices.specs.run_course.Seconds.{GoesOnBy, next_told}
use Rattle.run_devices.proofs.run_course.Logs.{other-number, all-before, same-at, kept-later, front-later, tells-none, breaks-front}
use Rattle.run_devices.proofs.run_course.Steps.{cuts-bound, now-told}
use Rattle.run_devices.proofs.run_course.Reached.{push-each}
use Rattle.run_events.specs.Seconds.{seen_next}
use Rattle.run_events.specs.Gaps.{IsUntold, TellsMore}
use Rattle.run_events.specs.Choice.{AreEarlier}
use Rattle.run_events.proofs.Gaps.{stay-later}
use Rattle.run_events.proofs.Later.{told-number}
use Rattle.run_devices.specs.run_promise.Origin.{Origin, rule_of, start_at, first_of}
use Rattle.run_devices.specs.run_promise.Beside.{HaveLeftMore}
use Rattle.run_devices.proofs.run_promise.Beside.{second-tells}
use Rattle.run_note_record.specs.Opened.{IsFirst, IsOpenSo, AreOpenSo}
use Rattle.run_note_record.specs.Evented.{sessions_now}
use Rattle.run_note_record.proofs.Opened.{first-more, first-told}

-- SECONDS IN ORDER come before the next
early-all : (log : RunLog) (n from : ℕ) (ss : List TraceSecond) (w : Watched) → AreInOrder from ss → from + length ss ≤ n → AreEarlier n w.seen → AreEarlier n (fold (watched_on log) w ss).seen
early-all log n from [] w order le all = all
early-all log n from (s ∷ ss) w order le all =
    let is : s.number ≡ from = order.0 in
    early-all log n (from + 1) ss (watched_on log w s) order.1 (omega (arith, le))
    (push-each (λ (x : Seen). number_of x < n) w.seen (seen_by log w.before s) all (let number = told-number log w.before s in omega (arith, number, is, le)))

pub early : (log : RunLog) (n from : ℕ) (done : List TraceSecond) → AreInOrder from done → from + length done ≤ n → AreEarlier n (seen_of log done)
unfolding seen_of
early log n from done order le = early-all log n from done (record { seen = []; before = not_begun.before }) order le tt

-- ---- what was kept after a cut that is told now

pick : (o rest : Option ℕ) → unwrap_or (cond (is_some o) o rest) 0 ≡ cond (is_some o) (unwrap_or o 0) (unwrap_or rest 0)
pick None rest = refl
pick (Some k) rest = refl

kept-by_first : (b : Break) (bs : List Break) (u : ℕ) → kept_after (log_of (b ∷ bs)) u ≡ cond (is_some (kept_by u b)) (unwrap_or (kept_by u b) 0) (kept_after (log_of bs) u)
unfolding kept_after
kept-by_first b bs u = pick (kept_by u b) _

kept-first : (b : Break) (bs : List Break) (u : ℕ) → kept_by u b ≡ None → kept_after (log_of (b ∷ bs)) u ≡ kept_after (log_of bs) u
kept-first b bs u none = kept-by_first b bs u ∙ ap (λ (o : Option ℕ). cond (is_some o) (unwrap_or o 0) (kept_after (log_of bs) u)) none

pub kept-none : (bs : List Break) (u : ℕ) → AllByRecursion (λ (b : Break). kept_by u b ≡ None) bs → kept_after (log_of bs) u ≡ 0
unfolding kept_after
kept-none [] u h = refl
kept-none (b ∷ bs) u h = kept-first b bs u h.0 ∙ kept-none bs u h.1

both-all : (P : Break → Type 0) (xs ys : List Break) → AllByRecursion P xs → AllByRecursion P ys → AllByRecursion P (xs ++ ys)
both-all P [] ys hx hy = hy
both-all P (x ∷ xs) ys hx hy = (hx.0, both-all P xs ys hx.1 hy)

before-none : (cuts next u : ℕ) → cuts ≤ u → (bs : List Break) → AllByRecursion (IsBreakBefore cuts next) bs → AllByRecursion (λ (b : Break). kept_by u b ≡ None) bs
before-none cuts next u le [] h = tt
before-none cuts next u le (Cut second kept failed begun ∷ bs) h =
    (let lt : second < cuts = h.0 in let other : nat_eq second u ≡ false = grind (arith, nat_tests) in ap (λ (b : Bool). cond b (Some kept) None) other, before-none cuts next u le bs h.1)
before-none cuts next u le (Tear second slot failed begun late ∷ bs) h = (refl, before-none cuts next u le bs h.1)

uncut-none : (u : ℕ) (bs : List Break) → AllByRecursion (λ (b : Break). is_cut b ≡ false) bs → AllByRecursion (λ (b : Break). kept_by u b ≡ None) bs
uncut-none u [] h = tt
uncut-none u (Cut second kept failed begun ∷ bs) h = absurd (let wrong : true ≡ false = h.0 in cc)
uncut-none u (Tear second slot failed begun late ∷ bs) h = (refl, uncut-none u bs h.1)

same-here : (u : ℕ) → nat_eq u u ≡ true
same-here u = grind (arith, nat_tests)

or-true : (b : Bool) → (b || true) ≡ true
or-true true = refl
or-true false = refl

module _ (log : RunLog) (cuts next unfound : ℕ) (lines : AreBefore cuts next log) (rest : List Break) (uncut : AllByRecursion (λ (b : Break). is_cut b ≡ false) rest) (u : ℕ) (low : cuts ≤ u) (failed : Bool) (begun : ℕ) where
  abbrev cut : Break
  cut = cut_at u failed begun

  abbrev breaks : List Break
  breaks = log.breaks ++ (rest ++ cut ∷ [])

  told-now : tells_cut u breaks ≡ true
  told-now =
      list_any-append (λ (b : Break). is_some (cut_of u b)) log.breaks (rest ++ cut ∷ [])
      ∙ ap (λ (t : Bool). tells_cut u log.breaks || t)
      (list_any-append (λ (b : Break). is_some (cut_of u b)) rest (cut ∷ []) ∙ ap (λ (t : Bool). tells_cut u rest || (is_some (cond {A = Option ℕ} t (Some begun) None) || false)) (same-here u) ∙ or-true (tells_cut u rest))
      ∙ or-true (tells_cut u log.breaks)

  kept-now : kept_after (log_of breaks) u ≡ 0
  kept-now =
      ap (λ (bs : List Break). kept_after (log_of bs) u) (sym (append_assoc log.breaks rest (cut ∷ [])))
      ∙ kept-added (log.breaks ++ rest) u failed begun u
      ∙ kept-none (log.breaks ++ rest) u (both-all (λ (b : Break). kept_by u b ≡ None) log.breaks rest (before-none cuts next u low log.breaks lines.breaks) (uncut-none u rest uncut))

  pub untold-now : (later : RunLog) (x : Seen) → later.breaks ≡ breaks → number_of x ≡ u → IsUntold later (take unfound log.breaks) (x ∷ [])
  unfolding kept_after
  untold-now later x are number = record {
    told = ap (λ (n : ℕ). tells_cut n later.breaks) number ∙ ap (tells_cut u) are ∙ told-now;
    unfound = ap (λ (n : ℕ). tells_cut n (take unfound log.breaks)) number ∙ tells-none cuts next (take unfound log.breaks) u (breaks-front cuts next unfound log.breaks lines.breaks) low;
    kept = ap (kept_after later) number ∙ ap (λ (bs : List Break). kept_after (log_of bs) u) are ∙ kept-now;
  }

-- ---- a second more

module _ (o : Origin) (done : List TraceSecond) (p : Progress) (f : BookFollowsRun (rule_of o) (start_at o) o.from (first_of o) done p) (s : TraceSecond) (log : RunLog) (g : GoesOnBy p log s) where
  pub same-before : All (λ (r : TraceSecond). SameAt p.log log r.number) done
  same-before = all-before (λ (u : ℕ). SameAt p.log log u) o.from done f.order
      (λ u lt. same-at p.log log p.next g.breaks.0 g.breaks.1 g.breaks.2 g.finds.0 g.finds.1 g.finds.2 u (other-number p.next u (let next = f.next in omega (arith, lt, next))))

  pub stay-failed : StayFailed p.log log
  stay-failed = stay-later p.log log (take p.unfound p.log.breaks) g.breaks.0 g.breaks.1

  pub tells-so : TellsMore p.log (take p.unfound p.log.breaks) log done
  tells-so = record {
    same = same-before;
    stay = stay-failed;
    known = λ u is. sym (kept-later p.log log p.next g.breaks.0 g.breaks.1 g.breaks.2 g.finds.0 g.finds.1 g.finds.2 p.unfound u is);
  }

  pub front-same : take p.unfound log.breaks ≡ take p.unfound p.log.breaks
  front-same = front-later p.log log p.next g.breaks.0 g.breaks.1 g.breaks.2 g.finds.0 g.finds.1 g.finds.2 p.unfound f.unfound

  pub early-before : AreEarlier s.number (seen_of p.log done)
  early-before = early p.log s.number o.from done f.order (let next = f.next in let number = g.number in omega (arith, next, number))

  pub number-next : number_of (seen_next log done s) ≡ s.number
  number-next = told-number log (went log done).before s

  -- the sessions of the cards that were accepted so far, and of those accepted in it
  pub sessions-on : (d e : Devices) (sessions own : ℕ → Visit → ℕ) → AreOpenSo o (went p.log done).told done d sessions → HaveLeftMore o d e →
      ((x : Visit × Verdict) → Contains (seen_next log done s).told.course.found x → is_accepting x.1 ≡ true → IsOpenSo o (went log done).told (done ++ s ∷ []) e x.0.card s.number (own s.number x.0)) →
      AreOpenSo o (went log (done ++ s ∷ [])).told (done ++ s ∷ []) e (sessions_now s own sessions)
  sessions-on d e sessions own h left now t x among found accepts = ⊎_elim
      (λ old.
      let was = h t x old found accepts in
      let lt = (second-tells o done p f s log g (number-next ∙ g.number)).before t old in
      let number = g.number in
      let other : nat_eq t.second.number s.number ≡ false = (let ne : t.second.number < s.number = omega (arith, lt, number) in grind (arith, nat_tests)) in
      let same : sessions t.second.number x.0 ≡ sessions_now s own sessions t.second.number x.0 = sym (ap (λ (b : Bool). cond b (own t.second.number x.0) (sessions t.second.number x.0)) other) in
      let first : IsFirst (card_image o.recording) (went log (done ++ s ∷ [])).told (done ++ s ∷ []) x.0.card t.second.number (sessions t.second.number x.0) =
      subst (λ (ts : List ToldSecond). IsFirst (card_image o.recording) ts (done ++ s ∷ []) x.0.card t.second.number (sessions t.second.number x.0))
      (sym (now-told (rule_of o) (start_at o) o.from (first_of o) done p f.order f.next f.unfound s log g))
      (first-more (card_image o.recording) (went p.log done).told (next_told log done s ∷ []) done (s ∷ []) x.0.card t.second.number (sessions t.second.number x.0) was.3) in (
        was.0,
        left.card x.0.card was.0 was.1,
        was.2 ∙ same,
        subst (λ (n : ℕ). IsFirst (card_image o.recording) (went log (done ++ s ∷ [])).told (done ++ s ∷ []) x.0.card t.second.number n) same first,
      ))
      (λ (is : next_told log done s ≡ t).
      let one : t.second.number ≡ s.number = ap (λ (y : ToldSecond). y.second.number) (sym is) ∙ number-next in
      let here = now x (subst (λ (y : ToldSecond). Contains y.course.found x) (sym is) found) accepts in
      let same : own s.number x.0 ≡ sessions_now s own sessions t.second.number x.0 =
      sym (ap (λ (n : ℕ). cond (nat_eq n s.number) (own n x.0) (sessions n x.0)) one ∙ ap (λ (b : Bool). cond b (own s.number x.0) (sessions s.number x.0)) (same-here s.number)) in
      let first : IsFirst (card_image o.recording) (went log (done ++ s ∷ [])).told (done ++ s ∷ []) x.0.card s.number (own s.number x.0) =
      subst (λ (w : Went). IsFirst (card_image o.recording) w.told (done ++ s ∷ []) x.0.card s.number (own s.number x.0)) (sym (went-more log done s))
      (first-told (card_image o.recording) (went log done).told (next_told log done s ∷ []) (done ++ s ∷ []) x.0.card s.number (own s.number x.0) here.3) in (
        here.0,
        here.1,
        here.2 ∙ same,
        subst (λ (u : ℕ). IsFirst (card_image o.recording) (went log (done ++ s ∷ [])).told (done ++ s ∷ []) x.0.card u (sessions_now s own sessions t.second.number x.0)) (sym one)
            (subst (λ (n : ℕ). IsFirst (card_image o.recording) (went log (done ++ s ∷ [])).told (done ++ s ∷ []) x.0.card s.number n) same first),
      ))
      (Contains-push_cases (went p.log done).told (next_told log done s) t (subst (λ (ts : List ToldSecond). Contains ts t) (now-told (rule_of o) (start_at o) o.from (first_of o) done p f.order f.next f.unfound s log g) among))

  pub low-cuts : cuts_from p.supply p.next ≤ s.number
  low-cuts = let le = cuts-bound p.supply p.next in let number = g.number in omega (arith, le, number)
