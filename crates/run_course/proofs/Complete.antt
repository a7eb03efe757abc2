-- What is acknowledged, over the steps of a run with cards.
use Rattle.std.proofs.Common.{◌≡◌, ◌⊎◌, inl, inr, ⊎_elim, ℕ, zero, suc, ◌+◌, ◌-◌, ◌*◌, ◌/◌, ◌<◌, ◌≤◌, Bool, true, false, cond, ◌&&◌, List, [], ◌∷◌, ◌++◌, Contains, length, map, filter, refl, ap, sym, subst, ◌∙◌, arith, append-nil}
use Rattle.std.specs.List.{AllByRecursion}
use Rattle.std.proofs.lemmas.List.{map-append}
use Rattle.std.proofs.lemmas.List.Elements.{filter-append, Contains-append_left, Contains-append_right, Contains-append_cases, Contains-push, Contains-push_cases}
use Rattle.activity_codec.specs.declared.entries.Entry.{Entry}
use Rattle.trace_model.specs.declared.Card.{Card}
use Rattle.trace_model.specs.Trace.{TraceSecond}
use Rattle.run_model.specs.declared.Device.TheVariants.{Unit as Recorder}
use Rattle.minute_model.specs.declared.Rule.{Rule}
use Rattle.minute_model.specs.declared.Minute.{Minute}
use Rattle.minute_model.specs.Minute.{minutes_ahead}
use Rattle.minute_model.specs.Span.{count_from, ungiven_of, latest, AreNumbered}
use Rattle.minute_model.proofs.Counted.{decided-minutes}
use Rattle.log_model.specs.declared.lines.Break.{Break}
use Rattle.log_model.specs.declared.lines.Mark.{Mark}
use Rattle.log_model.specs.Log.{RunLog}
use Rattle.log_model.specs.Causes.{device_of, is_cut, has_failed, second_of, cuts}
use Rattle.log_model.specs.Course.{ToldSecond, went, second_told}
use Rattle.log_model.specs.Spans.{spans_of, seconds_in, first_in, end_in, AreApart}
use Rattle.log_model.proofs.Spanning.{spanned, spans-more, spans-new, spans-dark, end-on}
use Rattle.history_model.specs.Minutes.{HistoryMinute, on_card}
use Rattle.history_model.specs.Presence.{Start}
use Rattle.history_model.specs.History.{settlings_of, decided_of, unit_history}
use Rattle.history_model.specs.Growth.{as_span}
use Rattle.history_model.specs.Book.{all}
use Rattle.history_model.specs.Completeness.{deciding_of, IsMarked, FailedCutIn, TornBetween, BrokenIn, IsComplete}
use Rattle.history_model.proofs.Deciding.{counted, span-settled, short-none, apart-ended}
use Rattle.history_model.proofs.Decided.{after-decided, decided-after, unit-decided}
use Rattle.history_model.proofs.Growing.{apart-last, dark-history, begun-history}
use Rattle.history_model.proofs.Told.{more-told, spanned-so_far, told-next}
use Rattle.run_unit_course.specs.Followed.{Lit, as_spans}
use Rattle.run_unit_course.specs.Lines.{log_of}
use Rattle.run_unit_course.specs.Turn.{span_at}
use Rattle.run_unit_course.proofs.Alike.{decided-empty}
use Rattle.run_course.specs.Followed.{Progress, BookFollowsRun, PowerGoesOn, IsSupplied}
use Rattle.run_course.specs.Seconds.{GoesOnBy, next_told, DecidedBy}
use Rattle.run_course.specs.Complete.{AllMarked, AreAcknowledged, NothingIsDecidedYet, ASecondIsAcknowledged, PowerAloneDecidesNothing, MoreMarksStay}
use Rattle.run_course.proofs.Core.{Core, waits}
use Rattle.run_course.proofs.Deciding.{added, decides-now, decides-still}
use Rattle.run_course.proofs.New.{are-new}
use Rattle.run_course.proofs.Steps.{core-of, lit-parts, lit, spans-now, now-told, order-now, feeds, fed-short, which, apart-front, span-end}
use Rattle.run_course.proofs.Told.{solid-push}

-- LINES AND SECONDS MORE: what failed has failed still, and who was torn out was
pub fails-still : (log later : RunLog) (more : List Break) → later.breaks ≡ log.breaks ++ more → (u : ℕ) → FailedCutIn log u → FailedCutIn later u
fails-still log later more are u c =
    subst (λ (us : List ℕ). Contains us u) (sym failures_are) (Contains-append_left (map second_of (cuts true log)) (map second_of (cuts true (log_of more))) u c)
  where
    failures_are : map second_of (cuts true later) ≡ map second_of (cuts true log) ++ map second_of (cuts true (log_of more))
    failures_are =
        ap (map second_of) (ap (filter (λ (b : Break). is_cut b && has_failed b)) are ∙ filter-append (λ (b : Break). is_cut b && has_failed b) log.breaks more)
        ∙ map-append second_of (cuts true log) (cuts true (log_of more))

pub torn-stays : (told more : List ToldSecond) (card : Card) (from to : ℕ) → TornBetween told card from to → TornBetween (told ++ more) card from to
torn-stays told more card from to b = (b.0, Contains-append_left told more b.0 b.1, b.2, b.3, b.4)

pub broken-stays : (log later : RunLog) (told more : List ToldSecond) (card : Card) (from to : ℕ) → ((u : ℕ) → FailedCutIn log u → FailedCutIn later u) → BrokenIn log told card from to → BrokenIn later (told ++ more) card from to
broken-stays log later told more card from to still b = ⊎_elim (λ failed. inl (still to failed)) (λ torn. inr (torn-stays told more card from to torn)) b

-- MORE MARKS
pub more-marks : MoreMarksStay
more-marks rule start log told marks more all_ c = record {
  unit = λ span d at in_decided. ⊎_elim (λ m. inl (all_ Recorder d.minute m)) (λ cut. inr cut) (c.unit span d at in_decided);
  card = λ span d i card e at in_decided there same on. ⊎_elim (λ m. inl (all_ (device_of card) i.minute m)) (λ broken. inr broken) (c.card span d i card e at in_decided there same on);
}

pub nothing-yet : NothingIsDecidedYet
unfolding went spans_of
nothing-yet rule start log marks = record {
  unit = λ span d at in_decided. absurd (omega (arith, at.1));
  card = λ span d i card e at in_decided there same on. absurd (omega (arith, at.1));
}

-- POWER ALONE
pub power-alone : PowerAloneDecidesNothing
power-alone rule start from log done s marks order which_ c =
    let t : ToldSecond = second_told log (went log done).before s in
    let told : List ToldSecond = (went log done).told in
    let so_far = spanned-so_far from log done s order in
    let next = told-next from log done s order in
    subst (λ (now : List ToldSecond). IsComplete rule start log now marks) (sym (more-told log done s))
    (⊎_elim
    (λ dark. carried (told ++ t ∷ []) t [] (spans-more told t ∙ spans-dark (spans_of told) t dark ∙ sym (append-nil (spans_of told)))
    (λ span at. absurd (omega (arith, at.1))) refl (dark-history rule start log from (from + length done) (went log done) t so_far next dark))
    (λ starts. lit_or t.lit refl starts) which_)
  where
    -- spans that decide nothing are added
    carried : (now : List ToldSecond) (t : ToldSecond) (behind : List (List ToldSecond)) → spans_of now ≡ spans_of (went log done).told ++ behind → ((span : List ToldSecond) → Contains behind span → decided_of rule span ≡ []) → now ≡ (went log done).told ++ t ∷ [] →
        unit_history rule start log now ≡ unit_history rule start log (went log done).told → IsComplete rule start log now marks
    carried now t behind spans none is history = record {
      unit = λ span d at in_decided. ⊎_elim
          (λ old. c.unit span d old in_decided)
          (λ new. absurd (let at_none = subst (λ (ds : List Minute). Contains ds d) (none span new) in_decided in omega (arith, at_none.1)))
          (Contains-append_cases (spans_of (went log done).told) behind span (subst (λ (ss : List (List ToldSecond)). Contains ss span) spans at));
      card = λ span d i card e at in_decided there same on. ⊎_elim
          (λ old. ⊎_elim (λ m. inl m) (λ broken. inr (subst (λ (ts : List ToldSecond). BrokenIn log ts card (60 * (i.minute + 1)) (deciding_of rule (settlings_of span) i.minute)) (sym is) (broken-stays log log (went log done).told (t ∷ []) card (60 * (i.minute + 1)) (deciding_of rule (settlings_of span) i.minute) (λ u failed. failed) broken)))
          (c.card span d i card e old in_decided (subst (λ (is_ : List HistoryMinute). Contains is_ i) history there) same on))
          (λ new. absurd (let at_none = subst (λ (ds : List Minute). Contains ds d) (none span new) in_decided in omega (arith, at_none.1)))
          (Contains-append_cases (spans_of (went log done).told) behind span (subst (λ (ss : List (List ToldSecond)). Contains ss span) spans at));
    }

    lit_or : (b : Bool) → (second_told log (went log done).before s).lit ≡ b → (second_told log (went log done).before s).starts ≡ true → IsComplete rule start log ((went log done).told ++ second_told log (went log done).before s ∷ []) marks
    lit_or false dark starts =
        let t : ToldSecond = second_told log (went log done).before s in
        carried ((went log done).told ++ t ∷ []) t [] (spans-more (went log done).told t ∙ spans-dark (spans_of (went log done).told) t dark ∙ sym (append-nil (spans_of (went log done).told)))
        (λ span at. absurd (omega (arith, at.1))) refl
        (dark-history rule start log from (from + length done) (went log done) t (spanned-so_far from log done s order) (told-next from log done s order) dark)
    lit_or true lit_ starts =
        let t : ToldSecond = second_told log (went log done).before s in
        carried ((went log done).told ++ t ∷ []) t ((t ∷ []) ∷ []) (spans-more (went log done).told t ∙ spans-new (spans_of (went log done).told) t lit_ starts)
        (λ span at. ⊎_elim (λ none. absurd (omega (arith, none.1))) (λ is. ap (decided_of rule) (sym is) ∙ short-none rule t) (Contains-push_cases [] (t ∷ []) span at)) refl
        (begun-history rule start log from (from + length done) (went log done) t (spanned-so_far from log done s order) (told-next from log done s order) lit_ starts)

-- A SECOND WITH POWER
-- a minute among those of a count
in-count : (a n : ℕ) (ds : List Minute) (d : Minute) → map (λ (d : Minute). d.minute) ds ≡ count_from a n → Contains ds d → (a ≤ d.minute) × (d.minute < a + n)
in-count a n [] d is at = absurd (omega (arith, at.1))
in-count a zero (x ∷ ds) d is at = absurd (cc)
in-count a (suc n) (x ∷ ds) d is at =
    let first : x.minute ≡ a = cc in
    let rest : map (λ (d : Minute). d.minute) ds ≡ count_from (a + 1) n = cc in
    ⊎_elim
    (λ here. ⊎_elim (λ none. absurd (omega (arith, none.1))) (λ (same : x ≡ d). let e : d.minute ≡ a = ap (λ (y : Minute). y.minute) (sym same) ∙ first in (omega (arith, e), omega (arith, e))) (Contains-push_cases [] x d here))
    (λ there. let w = in-count (a + 1) n ds d rest there in let low = w.0 in let high = w.1 in (omega (arith, low), omega (arith, high)))
    (Contains-append_cases (x ∷ []) ds d at)

decided-within : (rule : Rule) (sp : List ToldSecond) (d : Minute) → AreNumbered (first_in sp) (seconds_in sp) → Contains (decided_of rule sp) d → (first_in sp / 60 ≤ d.minute) × (d.minute < ungiven_of (as_span rule sp))
decided-within rule sp d numbered at =
    let whole = as_span rule sp in
    let w = in-count (first_in sp / 60) (ungiven_of whole - first_in sp / 60) (decided_of rule sp) d (decided-minutes whole numbered (span-settled rule sp numbered)) at in
    let low = w.0 in
    let high = w.1 in
    (low, omega (arith, low, high))

early-at : (rule : Rule) (n : ℕ) (spans : List (List ToldSecond)) (sp : List ToldSecond) (d : Minute) → AllByRecursion (λ (span : List ToldSecond). AllByRecursion (λ (d : Minute). d.minute < n) (decided_of rule span)) spans → Contains spans sp → Contains (decided_of rule sp) d → d.minute < n
early-at rule n [] sp d h at in_decided = absurd (omega (arith, at.1))
early-at rule n (x ∷ spans) sp d h at in_decided =
    ⊎_elim
    (λ here. ⊎_elim (λ none. absurd (omega (arith, none.1))) (λ (is : x ≡ sp). each (decided_of rule x) h.0 (subst (λ (y : List ToldSecond). Contains (decided_of rule y) d) (sym is) in_decided)) (Contains-push_cases [] x sp here))
    (λ there. early-at rule n spans sp d h.1 there in_decided)
    (Contains-append_cases (x ∷ []) spans sp at)
  where
    each : (ds : List Minute) → AllByRecursion (λ (d : Minute). d.minute < n) ds → Contains ds d → d.minute < n
    each [] h at = absurd (omega (arith, at.1))
    each (y ∷ ds) h at = ⊎_elim
        (λ here. ⊎_elim (λ none. absurd (omega (arith, none.1))) (λ (is : y ≡ d). subst (λ (z : Minute). z.minute < n) is h.0) (Contains-push_cases [] y d here))
        (λ there. each ds h.1 there)
        (Contains-append_cases (y ∷ []) ds d at)

settlings-push : (span : List ToldSecond) (t : ToldSecond) (n : ℕ) → t.second.number ≡ n → settlings_of (span ++ t ∷ []) ≡ added t.course.settled n (settlings_of span)
settlings-push span t n is =
    ap (map (λ (t : ToldSecond). t.second.number)) (filter-append (λ (t : ToldSecond). t.course.settled) span (t ∷ []))
    ∙ map-append (λ (t : ToldSecond). t.second.number) (filter (λ (t : ToldSecond). t.course.settled) span) (filter (λ (t : ToldSecond). t.course.settled) (t ∷ []))
    ∙ by t.course.settled
  where
    by : (b : Bool) → settlings_of span ++ map (λ (t : ToldSecond). t.second.number) (cond b (t ∷ []) []) ≡ added b n (settlings_of span)
    by true = ap (λ (k : ℕ). settlings_of span ++ k ∷ []) is
    by false = refl

-- the first minute that was not decided before
record IsFirst (rule : Rule) (next : ℕ) (span : List ToldSecond) (t : ToldSecond) : Type 0 where
  late : latest (settlings_of span) / 60 ≤ ungiven_of (span_at rule next span)
  ahead : next / 60 - minutes_ahead rule ≤ ungiven_of (span_at rule next span)
  begins : first_in (span ++ t ∷ []) / 60 ≤ ungiven_of (span_at rule next span)

first-of : (rule : Rule) (next : ℕ) (span : List ToldSecond) (t : ToldSecond) → t.second.number ≡ next → ((x : ToldSecond) (xs : List ToldSecond) → span ≡ x ∷ xs → end_in (x ∷ xs) ≡ next) → IsFirst rule next span t
first-of rule next [] t is end = record { late = omega arith; ahead = omega arith; begins = omega (arith, is) }
first-of rule next (x ∷ xs) t is end =
    let e = end x xs refl in
    let n = counted (x ∷ xs) in
    record { late = omega arith; ahead = omega (arith, e, n); begins = omega arith }

-- a minute that was decided before is earlier
old-earlier : (rule : Rule) (next : ℕ) (span : List ToldSecond) (d : Minute) → ((x : ToldSecond) (xs : List ToldSecond) → span ≡ x ∷ xs → AreNumbered (first_in (x ∷ xs)) (seconds_in (x ∷ xs))) → Contains (decided_of rule span) d →
    (x : ToldSecond) × (xs : List ToldSecond) × (span ≡ x ∷ xs) × (d.minute < ungiven_of (span_at rule next span))
old-earlier rule next [] d numbered at = absurd (let e = subst (λ (ds : List Minute). Contains ds d) (decided-empty rule) at in omega (arith, e.1))
old-earlier rule next (x ∷ xs) d numbered at = (x, xs, refl, (decided-within rule (x ∷ xs) d (numbered x xs refl) at).1)

-- and keeps its deciding second
old-deciding : (rule : Rule) (next : ℕ) (x : ToldSecond) (xs : List ToldSecond) (t : ToldSecond) (d : Minute) → t.second.number ≡ next → end_in (x ∷ xs) ≡ next → AreNumbered (first_in (x ∷ xs)) (seconds_in (x ∷ xs)) → Contains (decided_of rule (x ∷ xs)) d →
    deciding_of rule (settlings_of ((x ∷ xs) ++ t ∷ [])) d.minute ≡ deciding_of rule (settlings_of (x ∷ xs)) d.minute
old-deciding rule next x xs t d is end numbered at =
    let w = decided-within rule (x ∷ xs) d numbered at in
    let low = w.0 in
    let high = w.1 in
    let n = counted (x ∷ xs) in
    ap (λ (us : List ℕ). deciding_of rule us d.minute) (settlings-push (x ∷ xs) t next is)
    ∙ decides-still rule (settlings_of (x ∷ xs)) t.course.settled next d.minute (omega (arith, low, high, n, end))

new-deciding : (rule : Rule) (next : ℕ) (span : List ToldSecond) (t : ToldSecond) (d : Minute) → t.second.number ≡ next → IsFirst rule next span t → AreNumbered (first_in (span ++ t ∷ [])) (seconds_in (span ++ t ∷ [])) → end_in (span ++ t ∷ []) ≡ next + 1 →
    Contains (decided_of rule (span ++ t ∷ [])) d → ungiven_of (span_at rule next span) ≤ d.minute → deciding_of rule (settlings_of (span ++ t ∷ [])) d.minute ≡ next
new-deciding rule next span t d is first numbered end at from =
    let w = decided-within rule (span ++ t ∷ []) d numbered at in
    let high = w.1 in
    let late = first.late in
    let ahead = first.ahead in
    let begins = first.begins in
    let n = counted (span ++ t ∷ []) in
    let same = ap latest (settlings-push span t next is) in
    ap (λ (us : List ℕ). deciding_of rule us d.minute) (settlings-push span t next is)
    ∙ decides-now rule (settlings_of span) t.course.settled next d.minute (omega (arith, late, from)) (omega (arith, ahead, from)) (omega (arith, high, begins, from, n, end, same))

end-push : (span : List ToldSecond) (t : ToldSecond) (next : ℕ) → t.second.number ≡ next → ((x : ToldSecond) (xs : List ToldSecond) → span ≡ x ∷ xs → end_in (x ∷ xs) ≡ next) → end_in (span ++ t ∷ []) ≡ next + 1
end-push [] t next is end = omega (arith, is)
end-push (x ∷ xs) t next is end = end-on (x ∷ xs) t (omega arith) ∙ ap (λ (n : ℕ). n + 1) (end x xs refl)

module _ (rule : Rule) (start : Start) (from first : ℕ) (done : List TraceSecond) (p : Progress) (span : List ToldSecond) (f : BookFollowsRun rule start from first done (record p { supply = Lit span; waiting = [] })) (s : TraceSecond) (later : RunLog) (g : GoesOnBy p later s)
    (new : List HistoryMinute) (decides : DecidedBy rule start later done s span p.book new) where
  abbrev t : ToldSecond
  t = next_told later done s

  abbrev told : List ToldSecond
  told = (went p.log done).told

  abbrev now : List ToldSecond
  now = (went later (done ++ s ∷ [])).told

  abbrev c : Core rule start from first done p.log p.unfound p.next (Lit span) p.book []
  c = core-of rule start from first done (record p { supply = Lit span; waiting = [] }) f

  here : t.second.number ≡ p.next
  here = (lit rule start from first done p f.order f.next f.unfound s later g span c f.power).number ∙ g.number

  spans_ : spans_of now ≡ f.ended ++ (span ++ t ∷ []) ∷ []
  spans_ = spans-now rule start from first done p f.order f.next f.unfound s later g span c f.power

  now_ : now ≡ told ++ t ∷ []
  now_ = now-told rule start from first done p f.order f.next f.unfound s later g

  apart_now : AreApart from (f.ended ++ (span ++ t ∷ []) ∷ []) (from + length (done ++ s ∷ []))
  apart_now = subst (λ (ss : List (List ToldSecond)). AreApart from ss (from + length (done ++ s ∷ []))) spans_ (spanned later from (done ++ s ∷ []) (order-now rule start from first done p f.order f.next f.unfound s later g)).apart

  numbered_now : AreNumbered (first_in (span ++ t ∷ [])) (seconds_in (span ++ t ∷ []))
  numbered_now = (apart-last from (from + length (done ++ s ∷ [])) f.ended (span ++ t ∷ []) apart_now).1

  numbered_old : (x : ToldSecond) (xs : List ToldSecond) → span ≡ x ∷ xs → AreNumbered (first_in (x ∷ xs)) (seconds_in (x ∷ xs))
  numbered_old x xs is =
      (apart-last from (from + length done) f.ended (x ∷ xs)
      (subst (λ (ss : List (List ToldSecond)). AreApart from ss (from + length done)) (f.spans ∙ ap (λ (sp : List ToldSecond). f.ended ++ as_spans sp) is) (spanned p.log from done f.order).apart)).1

  end_old : (x : ToldSecond) (xs : List ToldSecond) → span ≡ x ∷ xs → end_in (x ∷ xs) ≡ p.next
  end_old x xs is =
      span-end p.log from done f.ended x xs p.next f.order f.next
      (going (subst (λ (sp : List ToldSecond). IsSupplied (Lit sp) (went p.log done).before p.next) is f.power)) (f.spans ∙ ap (λ (sp : List ToldSecond). f.ended ++ as_spans sp) is)
    where
      going : PowerGoesOn (went p.log done).before → (went p.log done).before.running ≡ true
      going h = h.running

  first_ : IsFirst rule p.next span t
  first_ = first-of rule p.next span t here end_old

  end_now : end_in (span ++ t ∷ []) ≡ p.next + 1
  end_now = end-push span t p.next here end_old

  -- decided in a span that has ended
  in-ended : (sp : List ToldSecond) (d : Minute) → Contains f.ended sp → Contains (decided_of rule sp) d → d.minute < ungiven_of (span_at rule p.next span)
  in-ended sp d at in_decided =
      let lt = early-at rule (first_in (span ++ t ∷ []) / 60) f.ended sp d
      (apart-ended rule from (first_in (span ++ t ∷ [])) f.ended (apart-front from (from + length (done ++ s ∷ [])) f.ended (span ++ t ∷ []) apart_now)) at in_decided in
      let begins = first_.begins in
      omega (arith, lt, begins)

  -- decided by this second
  abbrev ds : List Minute
  ds = decides.0

  fresh_ : (d : Minute) → Contains ds d → ungiven_of (span_at rule p.next span) ≤ d.minute
  fresh_ d at = (in-count (ungiven_of (span_at rule p.next span)) (length ds) ds d (are-new rule start from first done (record p { supply = Lit span; waiting = [] }) f span refl refl s later (record { number = g.number; given = g.given; breaks = g.breaks; finds = g.finds }) ds decides.1).due at).0

  deciding_new : (d : Minute) → Contains ds d → deciding_of rule (settlings_of (span ++ t ∷ [])) d.minute ≡ p.next
  deciding_new d at =
      new-deciding rule p.next span t d here first_ numbered_now end_now
      (subst (λ (xs : List Minute). Contains xs d) (sym decides.1) (Contains-append_right (decided_of rule span) ds d at)) (fresh_ d at)

  -- decided before in the span that goes on
  record WasDecided (d : Minute) : Type 0 where
    among : Contains (spans_of told) span
    deciding : deciding_of rule (settlings_of (span ++ t ∷ [])) d.minute ≡ deciding_of rule (settlings_of span) d.minute
    earlier : d.minute < ungiven_of (span_at rule p.next span)

  was : (d : Minute) → Contains (decided_of rule span) d → WasDecided d
  was d at =
      let old = old-earlier rule p.next span d numbered_old at in record {
        among = subst (λ (ss : List (List ToldSecond)). Contains ss span) (sym (f.spans ∙ ap (λ (sp : List ToldSecond). f.ended ++ as_spans sp) old.2))
            (subst (λ (sp : List ToldSecond). Contains (f.ended ++ sp ∷ []) span) old.2 (Contains-push f.ended span));
        deciding = subst (λ (sp : List ToldSecond). deciding_of rule (settlings_of (sp ++ t ∷ [])) d.minute ≡ deciding_of rule (settlings_of sp) d.minute) (sym old.2)
            (old-deciding rule p.next old.0 old.1 t d here (end_old old.0 old.1 old.2) (numbered_old old.0 old.1 old.2) (subst (λ (sp : List ToldSecond). Contains (decided_of rule sp) d) old.2 at));
        earlier = old.3;
      }

  -- a minute of the history so far is earlier than those that are decided now
  history-earlier : (i : HistoryMinute) → Contains (unit_history rule start p.log told) i → i.minute < ungiven_of (span_at rule p.next span)
  history-earlier i at =
      let from_ = unit-decided rule start p.log told i at in
      let same = from_.same in
      let lt = ⊎_elim
      (λ ended. in-ended from_.span from_.decided ended from_.within)
      (λ last_. in-last span (λ x xs e. numbered_old x xs e) last_)
      (Contains-append_cases f.ended (as_spans span) from_.span (subst (λ (ss : List (List ToldSecond)). Contains ss from_.span) f.spans from_.among)) in
      omega (arith, lt, same)
    where
      in-last : (sp : List ToldSecond) → ((x : ToldSecond) (xs : List ToldSecond) → sp ≡ x ∷ xs → AreNumbered (first_in (x ∷ xs)) (seconds_in (x ∷ xs))) → Contains (as_spans sp) (unit-decided rule start p.log told i at).span →
          (unit-decided rule start p.log told i at).decided.minute < ungiven_of (span_at rule p.next sp)
      in-last [] numbered last_ = absurd (omega (arith, last_.1))
      in-last (x ∷ xs) numbered last_ =
          let from_ = unit-decided rule start p.log told i at in
          ⊎_elim
          (λ none. absurd (omega (arith, none.1)))
          (λ (is : x ∷ xs ≡ from_.span). (decided-within rule (x ∷ xs) from_.decided (numbered x xs refl) (subst (λ (y : List ToldSecond). Contains (decided_of rule y) from_.decided) (sym is) from_.within)).1)
          (Contains-push_cases [] (x ∷ xs) from_.span last_)

  -- a minute of the history now was there before, or is decided now
  history-cases : (i : HistoryMinute) → Contains (unit_history rule start later now) i → Contains (unit_history rule start p.log told) i ⊎ Contains new i
  history-cases i at = ⊎_elim
      (λ long.
      let whole = waits rule start from first (done ++ s ∷ []) later p.unfound (suc p.next) (span ++ t ∷ []) (solid-push span t) p.book new
      (feeds rule start from first done p f.order f.next f.unfound s later g span c f.power new decides) long in
      ⊎_elim
      (λ old. inl (subst (λ (is : List HistoryMinute). Contains is i) (sym f.follows.front.1) (Contains-append_left (all p.book) f.follows.front.0 i old)))
      (λ fresh. inr fresh)
      (Contains-append_cases (all p.book) new i (subst (λ (is : List HistoryMinute). Contains is i) whole at)))
      (λ short. inl (subst (λ (is : List HistoryMinute). Contains is i) (fed-short rule start from first done p f.order f.next f.unfound s later g span c f.power new decides short) at))
      (which rule start from first done p f.order f.next f.unfound s later g span c f.power new decides)

  module _ (marks more : List Mark) (all_ : AllMarked marks more) (old : IsComplete rule start p.log told marks) (ack : AreAcknowledged more now p.next t new) (cut-here : t.cut ≡ true → FailedCutIn later p.next) where
    cut-on : (u : ℕ) → FailedCutIn p.log u → FailedCutIn later u
    cut-on u cut = fails-still p.log later g.breaks.0 g.breaks.1 u cut

    broken-on : (card : Card) (a b : ℕ) → BrokenIn p.log told card a b → BrokenIn later now card a b
    broken-on card a b broken = subst (λ (ts : List ToldSecond). BrokenIn later ts card a b) (sym now_) (broken-stays p.log later told (t ∷ []) card a b cut-on broken)

    -- a span now
    span-cases : (sp : List ToldSecond) → Contains (spans_of now) sp → Contains f.ended sp ⊎ (span ++ t ∷ [] ≡ sp)
    span-cases sp at = Contains-push_cases f.ended (span ++ t ∷ []) sp (subst (λ (ss : List (List ToldSecond)). Contains ss sp) spans_ at)

    in-told : (sp : List ToldSecond) → Contains f.ended sp → Contains (spans_of told) sp
    in-told sp at = subst (λ (ss : List (List ToldSecond)). Contains ss sp) (sym f.spans) (Contains-append_left f.ended (as_spans span) sp at)

    unit-now : (sp : List ToldSecond) (d : Minute) → Contains (spans_of now) sp → Contains (decided_of rule sp) d → IsMarked more Recorder d.minute ⊎ FailedCutIn later (deciding_of rule (settlings_of sp) d.minute)
    unit-now sp d at in_decided = ⊎_elim
        (λ ended. ⊎_elim (λ m. inl (all_ Recorder d.minute m)) (λ cut. inr (cut-on (deciding_of rule (settlings_of sp) d.minute) cut)) (old.unit sp d (in-told sp ended) in_decided))
        (λ is. subst (λ (y : List ToldSecond). IsMarked more Recorder d.minute ⊎ FailedCutIn later (deciding_of rule (settlings_of y) d.minute)) is
        (newest (subst (λ (y : List ToldSecond). Contains (decided_of rule y) d) (sym is) in_decided)))
        (span-cases sp at)
      where
        newest : Contains (decided_of rule (span ++ t ∷ [])) d → IsMarked more Recorder d.minute ⊎ FailedCutIn later (deciding_of rule (settlings_of (span ++ t ∷ [])) d.minute)
        newest at = ⊎_elim
            (λ before.
            let w = was d before in
            ⊎_elim (λ m. inl (all_ Recorder d.minute m)) (λ cut. inr (subst (FailedCutIn later) (sym w.deciding) (cut-on (deciding_of rule (settlings_of span) d.minute) cut))) (old.unit span d w.among before))
            (λ fresh.
            let i = decided-after start ((went later done).told ++ t ∷ []) p.book.sure ds d fresh in
            ⊎_elim
            (λ m. inl (subst (λ (n : ℕ). IsMarked more Recorder n) i.2 m))
            (λ cut. inr (subst (FailedCutIn later) (sym (deciding_new d fresh)) (cut-here cut)))
            (ack.unit i.0 (subst (λ (is : List HistoryMinute). Contains is i.0) (sym decides.2) i.1)))
            (Contains-append_cases (decided_of rule span) ds d (subst (λ (xs : List Minute). Contains xs d) decides.1 at))

    card-now : (sp : List ToldSecond) (d : Minute) (i : HistoryMinute) (card : Card) (e : Entry) → Contains (spans_of now) sp → Contains (decided_of rule sp) d → Contains (unit_history rule start later now) i → i.minute ≡ d.minute → Contains (on_card card i) e →
        IsMarked more (device_of card) i.minute ⊎ BrokenIn later now card (60 * (i.minute + 1)) (deciding_of rule (settlings_of sp) i.minute)
    card-now sp d i card e at in_decided there same on = ⊎_elim
        (λ ended. ⊎_elim
        (λ before. ⊎_elim (λ m. inl (all_ (device_of card) i.minute m)) (λ broken. inr (broken-on card (60 * (i.minute + 1)) (deciding_of rule (settlings_of sp) i.minute) broken)) (old.card sp d i card e (in-told sp ended) in_decided before same on))
        (λ fresh. absurd (let lt = in-ended sp d ended in_decided in let w = fresh-minute fresh in omega (arith, lt, w, same)))
        (history-cases i there))
        (λ is. subst (λ (y : List ToldSecond). IsMarked more (device_of card) i.minute ⊎ BrokenIn later now card (60 * (i.minute + 1)) (deciding_of rule (settlings_of y) i.minute)) is
        (newest (subst (λ (y : List ToldSecond). Contains (decided_of rule y) d) (sym is) in_decided)))
        (span-cases sp at)
      where
        -- of one that is decided now
        fresh-minute : Contains new i → ungiven_of (span_at rule p.next span) ≤ i.minute
        fresh-minute fresh =
            let d0 = after-decided start ((went later done).told ++ t ∷ []) p.book.sure ds i (subst (λ (is : List HistoryMinute). Contains is i) decides.2 fresh) in
            let low = fresh_ d0.0 d0.1 in
            let is = d0.2 in
            omega (arith, low, is)

        newest : Contains (decided_of rule (span ++ t ∷ [])) d → IsMarked more (device_of card) i.minute ⊎ BrokenIn later now card (60 * (i.minute + 1)) (deciding_of rule (settlings_of (span ++ t ∷ [])) i.minute)
        newest at = ⊎_elim
            (λ before.
            let w = was d before in
            let lt = w.earlier in
            ⊎_elim
            (λ kept. ⊎_elim
            (λ m. inl (all_ (device_of card) i.minute m))
            (λ broken. inr (subst (λ (n : ℕ). BrokenIn later now card (60 * (i.minute + 1)) n) (ap (deciding_of rule (settlings_of span)) same ∙ sym w.deciding ∙ ap (deciding_of rule (settlings_of (span ++ t ∷ []))) (sym same))
            (broken-on card (60 * (i.minute + 1)) (deciding_of rule (settlings_of span) i.minute) broken)))
            (old.card span d i card e w.among before kept same on))
            (λ fresh. absurd (let low = fresh-minute fresh in omega (arith, lt, low, same)))
            (history-cases i there))
            (λ now_decided.
            let low = fresh_ d now_decided in
            ⊎_elim
            (λ kept. absurd (let lt = history-earlier i kept in omega (arith, lt, low, same)))
            (λ fresh. ⊎_elim
            (λ m. inl m)
            (λ broken. inr (subst (λ (n : ℕ). BrokenIn later now card (60 * (i.minute + 1)) n) (sym (ap (deciding_of rule (settlings_of (span ++ t ∷ []))) same ∙ deciding_new d now_decided)) (⊎_elim (λ cut. inl (cut-here cut)) (λ torn. inr torn) broken)))
            (ack.card i card e fresh on))
            (history-cases i there))
            (Contains-append_cases (decided_of rule span) ds d (subst (λ (xs : List Minute). Contains xs d) decides.1 at))

    pub complete-now : IsComplete rule start later now more
    complete-now = record { unit = unit-now; card = card-now }

pub acknowledged : ASecondIsAcknowledged
acknowledged rule start from first done p g span is none s later by new decides marks more all_ old ack cut =
    complete-now rule start from first done p span (lit-parts rule start from first done p g span is none) s later by new decides marks more all_ old ack cut
