-- Accounts of acceptances over a second with power, at the start and at the end.
use Rattle.std.proofs.Common.{◌≡◌, ◌⊎◌, inl, inr, ⊎_elim, ℕ, suc, ◌/◌, ◌≤◌, true, false, nat_lt, Option, Some, None, List, [], ◌∷◌, ◌++◌, All, Contains, length, drop, refl, ap, sym, subst, ◌∙◌, arith, append-nil, append_assoc}
use Rattle.std.specs.Prelude.{flat_map, option_to_list}
use Rattle.std.specs.List.{AllByRecursion, list_any}
use Rattle.std.proofs.lemmas.Bool.Decides.{nat_tests}
use Rattle.std.proofs.lemmas.List.{drop-append-le}
use Rattle.std.proofs.lemmas.List.Elements.{All-weaker, All-contains, All-contains_itself, Contains-append_left, Contains-append_right, Contains-append_cases}
use Rattle.run_course.specs.trace_model.declared.Card.{Card}
use Rattle.run_course.specs.trace_model.Trace.{TraceSecond}
use Rattle.run_course.specs.minute_model.Span.{ungiven_of}
use Rattle.run_course.specs.log_model.declared.lines.Break.{Break}
use Rattle.run_course.specs.log_model.Log.{RunLog}
use Rattle.run_course.specs.log_model.Causes.{is_cut}
use Rattle.run_course.specs.log_model.Course.{ToldSecond, Went, has_power, went}
use Rattle.run_course.specs.history_model.Minutes.{HistoryMinute}
use Rattle.run_course.specs.history_model.History.{unit_history}
use Rattle.run_course.specs.history_model.Book.{Book, all, kept, IsMark}
use Rattle.run_course.proofs.history_model.Books.{all-none, all-kept, mark-more}
use Rattle.unit_rule.specs.run_unit_course.Followed.{UnitPower, Lit, Due, Lost, going_on, cuts_from}
use Rattle.unit_rule.specs.run_unit_course.Turn.{span_at}
use Rattle.run_course.specs.Followed.{Progress, BookFollowsRun, PowerGoesOn, IsSupplied, IsBreakBefore}
use Rattle.run_course.specs.Seconds.{GoesOnBy, next_told, DecidedBy, kept_all, broken_at}
use Rattle.run_course.proofs.Core.{Core, IsShort, waits}
use Rattle.run_course.proofs.New.{are-new}
use Rattle.run_course.proofs.Steps.{core-of, lit, lit-parts, now-told, on-lines, went-same_, feeds, fed-short, which}
use Rattle.run_course.proofs.Told.{lit-power, solid-push}
use Rattle.unit_rule.specs.safety_model.Recording.{Recording, start_of}
use Rattle.unit_rule.specs.safety_model.Cards.{shows_lost, acceptances}
use Rattle.run_promise.specs.Accounts.{so_far, IsAccount, IsShownLost}
use Rattle.run_promise.specs.Going.{acceptances_in, IsCutFrom, AccountGoesOn, AreAccounted, IsTakenAt, IsBehind, ASecondIsAccounted, KeptMinutesAreSure, NothingIsAccountedYet, TheEndIsAccounted}
use Rattle.run_promise.proofs.Accounts.{account-on, account-new}
use Rattle.run_promise.proofs.Shown.{lost-is_shown}
use Rattle.run_promise.proofs.Settled.{found-settled}
use Rattle.run_promise.proofs.Lines.{accepts-more, accepts-one, accepts-none, accepts-number, lost-tail, both-parts, back-part, here-from, uncut-from, uncut-here, ungiven-grows, ungiven-now, counted-from, seated-from}

two : (k : ℕ) → nat_lt 1 (suc (suc k)) ≡ true
two k = grind (arith, nat_tests)

two-seconds : (x : ToldSecond) (xs : List ToldSecond) (t : ToldSecond) → nat_lt 1 (length ((x ∷ xs) ++ t ∷ [])) ≡ true
two-seconds x [] t = refl
two-seconds x (y ∷ xs) t = two (length (xs ++ t ∷ []))

-- the span of a supply
lit-as : (sp : UnitPower) (xs ys : List ToldSecond) → sp ≡ Lit xs → sp ≡ Lit ys → xs ≡ ys
lit-as sp xs ys a b = ap going_on (sym a ∙ b)

cuts-low : (xs : List ToldSecond) (next : ℕ) → cuts_from (Lit xs) next ≤ next
cuts-low [] next = omega arith
cuts-low (x ∷ xs) next = omega arith

lost-lit : (sp : UnitPower) (xs : List ToldSecond) → sp ≡ Lost → sp ≡ Lit xs → ⊥
lost-lit sp xs a b = let e : Lost ≡ Lit xs = sym a ∙ b in absurd (cc)

module _ (r : Recording) (c : Card) (from first : ℕ) (done : List TraceSecond) (p : Progress) (span : List ToldSecond) (f : BookFollowsRun r.rule (start_of r) from first done (record p { supply = Lit span; waiting = [] }))
    (s : TraceSecond) (later : RunLog) (g : GoesOnBy p later s) (new : List HistoryMinute) (decides : DecidedBy r.rule (start_of r) later done s span p.book new) where
  abbrev t : ToldSecond
  t = next_told later done s

  abbrev told : List ToldSecond
  told = (went p.log done).told

  abbrev now : List ToldSecond
  now = (went later (done ++ s ∷ [])).told

  abbrev old_minutes : List HistoryMinute
  old_minutes = unit_history r.rule (start_of r) p.log told

  abbrev now_minutes : List HistoryMinute
  now_minutes = unit_history r.rule (start_of r) later now

  abbrev ungiven : ℕ
  ungiven = ungiven_of (span_at r.rule p.next span)

  abbrev core : Core r.rule (start_of r) from first done p.log p.unfound p.next (Lit span) p.book []
  core = core-of r.rule (start_of r) from first done (record p { supply = Lit span; waiting = [] }) f

  here : t.second.number ≡ p.next
  here = (lit r.rule (start_of r) from first done p f.order f.next f.unfound s later g span core f.power).number ∙ g.number

  seconds-now : now ≡ told ++ t ∷ []
  seconds-now = now-told r.rule (start_of r) from first done p f.order f.next f.unfound s later g

  breaks-from : (u : ℕ) → u ≤ p.next → AllByRecursion (IsCutFrom u) g.breaks.0
  breaks-from u le = here-from u p.next g.breaks.0 le g.breaks.2

  -- the log shows the same lost before
  lost-same : (u m : ℕ) → u ≤ p.next → list_any (shows_lost u m) later.breaks ≡ list_any (shows_lost u m) p.log.breaks
  lost-same u m le = ap (list_any (shows_lost u m)) g.breaks.1 ∙ lost-tail u m p.log.breaks g.breaks.0 (breaks-from u le)

  -- a card is judged where power comes, or where there is a settling
  found-where : (t.course.found ≡ []) ⊎ ((t.course.settled ≡ true) ⊎ (span ≡ []))
  found-where = by span refl
    where
      same : went later done ≡ went p.log done
      same = went-same_ r.rule (start_of r) from first done p f.order f.next f.unfound s later g

      power : has_power (went later done).before s ≡ true
      power = subst (λ (w : Went). has_power w.before s ≡ true) (sym same) (lit-power span (went p.log done).before s p.next f.power g.number g.given)

      going : PowerGoesOn (went p.log done).before → (went later done).before.running ≡ true
      going h = ap (λ (w : Went). w.before.running) same ∙ h.running

      by : (sp : List ToldSecond) → span ≡ sp → (t.course.found ≡ []) ⊎ ((t.course.settled ≡ true) ⊎ (span ≡ []))
      by [] e = inr (inr e)
      by (x ∷ xs) e = ⊎_elim (λ none. inl none) (λ is. inr (inl is))
          (found-settled later (went later done).before s power (going (subst (λ (sp : List ToldSecond). IsSupplied (Lit sp) (went p.log done).before p.next) e f.power)))

  -- what is decided now is not earlier than the first minute that was not
  fresh : All (λ (i : HistoryMinute). ungiven ≤ i.minute) new
  fresh = subst (All (λ (i : HistoryMinute). ungiven ≤ i.minute)) (sym decides.2)
      (seated-from (start_of r) ((went later done).told ++ t ∷ []) ungiven p.book.sure decides.0
      (counted-from ungiven ungiven (length decides.0) decides.0 (omega arith)
      (are-new r.rule (start_of r) from first done (record p { supply = Lit span; waiting = [] }) f span refl refl s later (record { number = g.number; given = g.given; breaks = g.breaks; finds = g.finds }) decides.0 decides.1).due))

  long-minutes : nat_lt 1 (length (span ++ t ∷ [])) ≡ true → now_minutes ≡ all p.book ++ new
  long-minutes long = waits r.rule (start_of r) from first (done ++ s ∷ []) later p.unfound (suc p.next) (span ++ t ∷ []) (solid-push span t) p.book new
      (feeds r.rule (start_of r) from first done p f.order f.next f.unfound s later g span core f.power new decides) long

  short-minutes : IsShort r.rule span (span ++ t ∷ []) new → now_minutes ≡ old_minutes
  short-minutes short = fed-short r.rule (start_of r) from first done p f.order f.next f.unfound s later g span core f.power new decides short

  either : (nat_lt 1 (length (span ++ t ∷ [])) ≡ true) ⊎ IsShort r.rule span (span ++ t ∷ []) new
  either = which r.rule (start_of r) from first done p f.order f.next f.unfound s later g span core f.power new decides

  -- a minute of the history now was there before, or is decided now
  minute-cases : (i : HistoryMinute) → Contains now_minutes i → Contains old_minutes i ⊎ Contains new i
  minute-cases i at = ⊎_elim
      (λ long. ⊎_elim
      (λ old. inl (subst (λ (is : List HistoryMinute). Contains is i) (sym f.follows.front.1) (Contains-append_left (all p.book) f.follows.front.0 i old)))
      (λ fresh_. inr fresh_)
      (Contains-append_cases (all p.book) new i (subst (λ (is : List HistoryMinute). Contains is i) (long-minutes long) at)))
      (λ short. inl (subst (λ (is : List HistoryMinute). Contains is i) (short-minutes short) at))
      either

  -- so it is not earlier than an acceptance, or was there
  minutes-from : (u : ℕ) → u / 60 ≤ ungiven → All (λ (i : HistoryMinute). Contains old_minutes i ⊎ (u / 60 ≤ i.minute)) now_minutes
  minutes-from u le = All-weaker (Contains now_minutes) (λ i. Contains old_minutes i ⊎ (u / 60 ≤ i.minute))
      (λ i at. ⊎_elim
      (λ old. inl old)
      (λ new_. inr (let low : ungiven ≤ i.minute = All-contains (λ (j : HistoryMinute). ungiven ≤ j.minute) new i fresh new_ in omega (arith, le, low)))
      (minute-cases i at))
      now_minutes (All-contains_itself now_minutes)

  -- AN OLD ACCOUNT goes on
  module _ (q : Progress) (b : IsBehind p q later span s t new) where
    sure-on : (k : ℕ) → IsMark first p.book.sure k → IsMark first q.book.sure k
    sure-on k mark = subst (λ (is : List HistoryMinute). IsMark first is k) (sym b.sure.1) (mark-more first p.book.sure b.sure.0 k mark)

    unknown-on : drop q.unfound q.log.breaks ≡ drop p.unfound p.log.breaks ++ g.breaks.0
    unknown-on =
        ap (λ (n : ℕ). drop n q.log.breaks) b.unfound
        ∙ ap (λ (l : RunLog). drop p.unfound l.breaks) b.log
        ∙ ap (λ (bs : List Break). drop p.unfound bs) g.breaks.1
        ∙ drop-append-le p.unfound p.log.breaks g.breaks.0 f.unfound

    cuts-on : (u : ℕ) → u ≤ p.next → AllByRecursion (IsCutFrom u) (drop p.unfound p.log.breaks) → AllByRecursion (IsCutFrom u) (drop q.unfound q.log.breaks)
    cuts-on u le h = subst (AllByRecursion (IsCutFrom u)) (sym unknown-on) (both-parts (IsCutFrom u) (drop p.unfound p.log.breaks) g.breaks.0 h (breaks-from u le))

    -- while there is power no cut waits
    waits-on : AllByRecursion (λ (b : Break). is_cut b ≡ false) (drop p.unfound p.log.breaks) → (longer : List ToldSecond) → q.supply ≡ Lit longer → AllByRecursion (λ (b : Break). is_cut b ≡ false) (drop q.unfound q.log.breaks)
    waits-on h longer is = ⊎_elim
        (λ on. subst (AllByRecursion (λ (b : Break). is_cut b ≡ false)) (sym unknown-on)
        (both-parts (λ (b : Break). is_cut b ≡ false) (drop p.unfound p.log.breaks) g.breaks.0 h
        (uncut-here p.next g.breaks.0 g.breaks.2
        (back-part (IsBreakBefore p.next (suc p.next)) p.log.breaks g.breaks.0
        (subst (AllByRecursion (IsBreakBefore p.next (suc p.next))) g.breaks.1
        (on-lines r.rule (start_of r) from first done p f.order f.next f.unfound s later g (cuts_from (Lit span) p.next) (cuts-low span p.next) f.lines on.1).breaks)))))
        (λ off. absurd (lost-lit q.supply longer off is))
        b.supply

    due-on : (u : ℕ) → u / 60 ≤ ungiven_of (span_at r.rule (suc p.next) (span ++ t ∷ [])) → (longer : List ToldSecond) → q.supply ≡ Lit longer → u / 60 ≤ ungiven_of (span_at r.rule q.next longer)
    due-on u le longer is = ⊎_elim
        (λ on. subst (λ (n : ℕ). u / 60 ≤ ungiven_of (span_at r.rule n longer)) (sym b.next)
        (subst (λ (xs : List ToldSecond). u / 60 ≤ ungiven_of (span_at r.rule (suc p.next) xs)) (lit-as q.supply (span ++ t ∷ []) longer on.0 is) le))
        (λ off. absurd (lost-lit q.supply longer off is))
        b.supply

    -- of the minutes of the book none is earlier than an acceptance that was not there then
    later-on : (u k : ℕ) → u / 60 ≤ ungiven → All (λ (i : HistoryMinute). (i.minute ≤ k) ⊎ (u / 60 ≤ i.minute)) (all p.book) → All (λ (i : HistoryMinute). (i.minute ≤ k) ⊎ (u / 60 ≤ i.minute)) (all q.book)
    later-on u k le h = All-weaker (Contains (all q.book)) (λ (i : HistoryMinute). (i.minute ≤ k) ⊎ (u / 60 ≤ i.minute))
        (λ i at. ⊎_elim
        (λ old. All-contains (λ (j : HistoryMinute). (j.minute ≤ k) ⊎ (u / 60 ≤ j.minute)) (all p.book) i h old)
        (λ new_. inr (let low : ungiven ≤ i.minute = All-contains (λ (j : HistoryMinute). ungiven ≤ j.minute) new i fresh new_ in omega (arith, le, low)))
        (b.books i at))
        (all q.book) (All-contains_itself (all q.book))

    later-new : (k : ℕ) → All (λ (i : HistoryMinute). i.minute ≤ k) (p.book.sure ++ new) → All (λ (i : HistoryMinute). (i.minute ≤ k) ⊎ (p.next / 60 ≤ i.minute)) (all q.book)
    later-new k newest = All-weaker (Contains (all q.book)) (λ (i : HistoryMinute). (i.minute ≤ k) ⊎ (p.next / 60 ≤ i.minute))
        (λ i at. inl (All-contains (λ (j : HistoryMinute). j.minute ≤ k) (p.book.sure ++ new) i newest (⊎_elim
        (λ old. Contains-append_left p.book.sure new i (subst (λ (is : List HistoryMinute). Contains is i) (all-none p.book f.tied.none) old))
        (λ new_. Contains-append_right p.book.sure new i new_)
        (b.books i at))))
        (all q.book) (All-contains_itself (all q.book))

    old-stands : p.supply ≡ Lit span → (u k : ℕ) → AccountGoesOn r c first done p u k → AccountGoesOn r c first (done ++ s ∷ []) q u k
    old-stands is u k a =
        let before = a.before in
        let due = a.due span is in
        let next = b.next in
        let grows = ungiven-grows r.rule p.next span t here in record {
          account = subst (λ (l : RunLog). IsAccount (so_far r (done ++ s ∷ []) l) c first q.book u k) (sym b.log)
              (account-on (so_far r done p.log) (so_far r (done ++ s ∷ []) later) c first p.book q.book u k (λ m. lost-same u m (omega (arith, before))) (minutes-from u due) (sure-on k) a.account);
          before = omega (arith, before, next);
          due = due-on u (omega (arith, due, grows));
          cuts = cuts-on u (omega (arith, before)) a.cuts;
          later = later-on u k due a.later;
        }

    -- A NEW ONE
    newest-or_lost : (k : ℕ) → All (λ (i : HistoryMinute). i.minute ≤ k) (p.book.sure ++ new) → (i : HistoryMinute) → Contains now_minutes i →
        (i.minute ≤ k) ⊎ ((p.next / 60 ≤ i.minute) ⊎ (list_any (shows_lost p.next i.minute) later.breaks ≡ true))
    newest-or_lost k newest i at = by span refl
      where
        -- the book has all of them
        whole : now_minutes ≡ all p.book ++ new → i.minute ≤ k
        whole is = All-contains (λ (j : HistoryMinute). j.minute ≤ k) (p.book.sure ++ new) i newest
            (subst (λ (is : List HistoryMinute). Contains (is ++ new) i) (all-none p.book f.tied.none) (subst (λ (is : List HistoryMinute). Contains is i) is at))

        by : (sp : List ToldSecond) → span ≡ sp → (i.minute ≤ k) ⊎ ((p.next / 60 ≤ i.minute) ⊎ (list_any (shows_lost p.next i.minute) later.breaks ≡ true))
        by (x ∷ xs) e = inl (whole (long-minutes (ap (λ (sp : List ToldSecond). nat_lt 1 (length (sp ++ t ∷ []))) e ∙ two-seconds x xs t)))
        by [] e = ⊎_elim
            (λ long. inl (whole (long-minutes long)))
            (λ short. ⊎_elim
            (λ sure. inl (All-contains (λ (j : HistoryMinute). j.minute ≤ k) (p.book.sure ++ new) i newest (Contains-append_left p.book.sure new i sure)))
            (λ lost. inr (inr (lost-same p.next i.minute (omega arith) ∙ lost p.next (omega arith))))
            (All-contains (λ (j : HistoryMinute). Contains p.book.sure j ⊎ IsShownLost p.log p.next j) old_minutes i
            (lost-is_shown r.rule (start_of r) from first done p (subst (λ (sp : List ToldSecond). BookFollowsRun r.rule (start_of r) from first done (record p { supply = Lit sp; waiting = [] })) e f))
            (subst (λ (is : List HistoryMinute). Contains is i) (short-minutes short) at)))
            either

    new-stands : (k : ℕ) → IsTakenAt first p.book q.book new k → (t.course.settled ≡ true) ⊎ (span ≡ []) → (u : ℕ) → u ≡ p.next → AllByRecursion (λ (b : Break). is_cut b ≡ false) (drop p.unfound p.log.breaks) → AccountGoesOn r c first (done ++ s ∷ []) q u k
    new-stands k taken settled u is uncut = subst (λ (n : ℕ). AccountGoesOn r c first (done ++ s ∷ []) q n k) (sym is) (record {
      account = subst (λ (l : RunLog). IsAccount (so_far r (done ++ s ∷ []) l) c first q.book p.next k) (sym b.log)
          (account-new (so_far r (done ++ s ∷ []) later) c first q.book p.next k taken.mark
          (All-weaker (Contains now_minutes) (λ i. (i.minute ≤ k) ⊎ ((p.next / 60 ≤ i.minute) ⊎ (list_any (shows_lost p.next i.minute) later.breaks ≡ true))) (newest-or_lost k taken.newest) now_minutes (All-contains_itself now_minutes)));
      before = let next = b.next in omega (arith, next);
      due = due-on p.next (ungiven-now r.rule p.next span t here settled);
      cuts = cuts-on p.next (omega arith) (uncut-from p.next (drop p.unfound p.log.breaks) uncut);
      later = later-new k taken.newest;
    })

    -- ALL ACCOUNTS
    pub second-accounts : p.supply ≡ Lit span → (ks more : List ℕ) → ((k : ℕ) → Contains ks k → Contains more k) →
        (acceptances_in c t ≡ []) ⊎ ((k : ℕ) × Contains more k × IsTakenAt first p.book q.book new k) → AreAccounted r c first done p ks → AreAccounted r c first (done ++ s ∷ []) q more
    second-accounts is ks more within taken a = record {
      each = λ u at. ⊎_elim
          (λ old. let k = a.each u old in (k.0, within k.0 k.1, old-stands is u k.0 k.2))
          (λ one.
          let mine = accepts-one c t u one in ⊎_elim
          (λ none. absurd (let at_none = subst (λ (zs : List ℕ). Contains zs u) none mine in omega (arith, at_none.1)))
          (λ k. ⊎_elim
          (λ nothing. absurd (let at_none = subst (λ (zs : List ℕ). Contains zs u) (accepts-none c t nothing) mine in omega (arith, at_none.1)))
          (λ settled. (k.0, k.1, new-stands k.0 k.2 settled u (sym (accepts-number c t u mine) ∙ here) (a.waits span is)))
          found-where)
          taken)
          (accepts-more c told (t ∷ []) u
          (subst (λ (ts : List ToldSecond). Contains (flat_map (acceptances_in c) ts) u) seconds-now
          (subst (λ (l : RunLog). Contains (flat_map (acceptances_in c) (went l (done ++ s ∷ [])).told) u) b.log at)));
      waits = waits-on (a.waits span is);
    }

pub second-accounted : ASecondIsAccounted
second-accounted r c from first done p g span is none s later by new decides q behind ks more within taken a =
    second-accounts r c from first done p span (lit-parts r.rule (start_of r) from first done p g span is none) s later by new decides q behind is ks more within taken a

-- WHAT IS SURE
kept-sure : (front : List HistoryMinute) (b : Book) → (kept_all front b).sure ≡ b.sure ++ front
kept-sure [] b = sym (append-nil b.sure)
kept-sure (i ∷ front) b = kept-sure front (kept i b) ∙ append_assoc b.sure (i ∷ []) front

pub sure-kept : KeptMinutesAreSure
sure-kept front None b = kept-sure front b
sure-kept front (Some i) b = kept-sure front b

-- WHAT THE BOOK HAS then
pub books-kept : (front : List HistoryMinute) (b : Book) (i : HistoryMinute) → Contains (all (kept_all front b)) i → Contains (all b) i ⊎ Contains front i
books-kept [] b i at = inl at
books-kept (j ∷ front) b i at = ⊎_elim
    (λ old. ⊎_elim
    (λ was. inl (Contains-append_left b.sure (option_to_list b.maybe) i was))
    (λ one. inr (Contains-append_left (j ∷ []) front i one))
    (Contains-append_cases b.sure (j ∷ []) i (subst (λ (is : List HistoryMinute). Contains is i) (all-kept j b) old)))
    (λ rest. inr (Contains-append_right (j ∷ []) front i rest))
    (books-kept front (kept j b) i at)

pub books-broken : (front : List HistoryMinute) (o : Option HistoryMinute) (b : Book) (i : HistoryMinute) → Contains (all (broken_at o (kept_all front b))) i → Contains (all b) i ⊎ Contains (front ++ option_to_list o) i
books-broken front None b i at = ⊎_elim (λ old. inl old) (λ new. inr (Contains-append_left front [] i new)) (books-kept front b i at)
books-broken front (Some j) b i at = ⊎_elim
    (λ sure. ⊎_elim
    (λ old. inl (Contains-append_left b.sure (option_to_list b.maybe) i old))
    (λ new. inr (Contains-append_left front (j ∷ []) i new))
    (Contains-append_cases b.sure front i (subst (λ (is : List HistoryMinute). Contains is i) (kept-sure front b) sure)))
    (λ one. inr (Contains-append_right front (j ∷ []) i one))
    (Contains-append_cases (kept_all front b).sure (j ∷ []) i at)

-- AT THE START AND AT THE END
pub nothing-accounted : NothingIsAccountedYet
unfolding went
nothing-accounted r c first p is = record {
  each = λ u at. absurd (omega (arith, at.1));
  waits = λ span lit_. let e : Due ≡ Lit span = sym is ∙ lit_ in absurd (cc);
}

pub end-accounted : TheEndIsAccounted
end-accounted r c first p ks is a u at =
    let k = a.each u (subst (λ (l : RunLog). Contains (acceptances (so_far r r.trace l) c) u) (sym is) at) in
    let mine : IsAccount (so_far r r.trace r.log) c first p.book u k.0 = subst (λ (l : RunLog). IsAccount (so_far r r.trace l) c first p.book u k.0) is k.2.account in
    (k.0, k.1, record { mark = mine.mark; kept = mine.kept })
