-- What is acknowledged stays so where nothing is decided: power-ons, refusals, and the cut of an `off` line.
use Rattle.std.proofs.Common.{◌≡◌, ◌⊎◌, inl, inr, ⊎_elim, ℕ, ◌+◌, ◌-◌, ◌*◌, ◌≤◌, true, false, Option, Some, None, List, [], ◌∷◌, ◌++◌, Contains, length, refl, ap, sym, subst, ◌∙◌, arith}
use Rattle.std.proofs.lemmas.List.Elements.{Contains-append_left, Contains-push, Contains-push_cases}
use Rattle.trace_model.specs.declared.Card.{Card}
use Rattle.minute_model.specs.declared.Rule.{Rule}
use Rattle.minute_model.specs.declared.Minute.{Minute}
use Rattle.minute_model.specs.Activity.{last}
use Rattle.log_model.specs.declared.lines.Mark.{Mark}
use Rattle.log_model.specs.declared.lines.Break.{Break}
use Rattle.log_model.specs.Log.{RunLog, kept_after}
use Rattle.log_model.specs.Course.{ToldSecond, Went, went}
use Rattle.log_model.specs.Spans.{spans_of, AreInOrder}
use Rattle.history_model.specs.Minutes.{HistoryMinute}
use Rattle.history_model.specs.Presence.{Start}
use Rattle.history_model.specs.History.{settlings_of, decided_of, limit_by, cut_second, unit_history}
use Rattle.history_model.specs.Growth.{SameLimits}
use Rattle.history_model.specs.Completeness.{deciding_of, FailedCutIn, TornIn, TornBetween, BrokenIn, IsComplete}
use Rattle.history_model.proofs.BySeconds.{same-history}
use Rattle.history_model.proofs.Deciding.{short-none}
use Rattle.run_unit_course.specs.Turn.{cut_at_end, cut_last}
use Rattle.run_unit_course.specs.Lines.{log_of, cut_at}
use Rattle.run_unit_course.specs.Followed.{UnitPower, Lit, Due, Lost, MayPower, MayFail}
use Rattle.run_unit_course.proofs.Offs.{by-other, by-found}
use Rattle.run_unit_course.proofs.Spans.{decided-cut, settlings-cut}
use Rattle.run_course.specs.Moments.{and_break}
use Rattle.run_course.specs.Followed.{BookFollowsRun, Comes}
use Rattle.run_course.specs.Seconds.{next_told}
use Rattle.run_course.specs.Complete.{FoundStaysComplete, AFailureStaysComplete, RefusalsStayComplete, ACutStaysComplete}
use Rattle.run_course.proofs.Lookups.{kept-by}
use Rattle.run_course.proofs.Logs.{went-refused, found_log}
use Rattle.run_course.proofs.Core.{Core, lit-due, found-told, found-minutes}
use Rattle.run_course.proofs.Complete.{fails-still, broken-stays}
use Rattle.run_course.proofs.Steps.{core-of, with-waiting, due-core, lost-core, lit-parts, now-told, comes-adds, spans-cut, cut-history, cut-parts}
use Rattle.run_course.proofs.Told.{lost-comes}

-- a span that decided what another did, by the same settlings
record IsAs (rule : Rule) (told : List ToldSecond) (sp : List ToldSecond) : Type 0 where
  old : List ToldSecond
  among : Contains (spans_of told) old
  decides : decided_of rule sp ≡ decided_of rule old
  settles : settlings_of sp ≡ settlings_of old

carried : (rule : Rule) (start : Start) (log later : RunLog) (told now : List ToldSecond) (marks : List Mark) → ((sp : List ToldSecond) → Contains (spans_of now) sp → IsAs rule told sp ⊎ (decided_of rule sp ≡ [])) →
    unit_history rule start later now ≡ unit_history rule start log told → ((u : ℕ) → FailedCutIn log u → FailedCutIn later u) → ((card : Card) (a b : ℕ) → BrokenIn log told card a b → BrokenIn later now card a b) →
    IsComplete rule start log told marks → IsComplete rule start later now marks
carried rule start log later told now marks spans history cuts breaks c = record {
  unit = λ sp d at in_decided. ⊎_elim
      (λ (as_ : IsAs rule told sp).
      ⊎_elim (λ m. inl m) (λ cut. inr (cuts (deciding_of rule (settlings_of sp) d.minute) (subst (λ (us : List ℕ). FailedCutIn log (deciding_of rule us d.minute)) (sym as_.settles) cut)))
      (c.unit as_.old d as_.among (subst (λ (ds : List Minute). Contains ds d) as_.decides in_decided)))
      (λ none. absurd (let at_none = subst (λ (ds : List Minute). Contains ds d) none in_decided in omega (arith, at_none.1)))
      (spans sp at);
  card = λ sp d i card e at in_decided there same on. ⊎_elim
      (λ (as_ : IsAs rule told sp).
      ⊎_elim (λ m. inl m) (λ broken. inr (breaks card (60 * (i.minute + 1)) (deciding_of rule (settlings_of sp) i.minute) (subst (λ (us : List ℕ). BrokenIn log told card (60 * (i.minute + 1)) (deciding_of rule us i.minute)) (sym as_.settles) broken)))
      (c.card as_.old d i card e as_.among (subst (λ (ds : List Minute). Contains ds d) as_.decides in_decided) (subst (λ (is : List HistoryMinute). Contains is i) history there) same on))
      (λ none. absurd (let at_none = subst (λ (ds : List Minute). Contains ds d) none in_decided in omega (arith, at_none.1)))
      (spans sp at);
}

-- the same seconds
same-seconds : (rule : Rule) (start : Start) (log later : RunLog) (told now : List ToldSecond) (marks : List Mark) → now ≡ told → unit_history rule start later now ≡ unit_history rule start log told → ((u : ℕ) → FailedCutIn log u → FailedCutIn later u) →
    IsComplete rule start log told marks → IsComplete rule start later now marks
same-seconds rule start log later told now marks is history still c =
    carried rule start log later told now marks
    (λ sp at. inl (record { old = sp; among = subst (λ (ts : List ToldSecond). Contains (spans_of ts) sp) is at; decides = refl; settles = refl })) history
    still (λ card a b broken. subst (λ (ts : List ToldSecond). BrokenIn later ts card a b) (sym is) (⊎_elim (λ failed. inl (still b failed)) (λ torn. inr torn) broken)) c

-- REFUSALS
kept-same : (log later : RunLog) (u : ℕ) → later.breaks ≡ log.breaks → kept_after later u ≡ kept_after log u
kept-same log later u is = kept-by later u ∙ ap (λ (bs : List Break). kept_after (log_of bs) u) is ∙ sym (kept-by log u)

limit-same : (log later : RunLog) → later.breaks ≡ log.breaks → (o : Option ℕ) → limit_by later o ≡ limit_by log o
limit-same log later is None = refl
limit-same log later is (Some u) = ap (λ (k : ℕ). Some k) (kept-same log later u is)

same-limits : (log later : RunLog) (spans : List (List ToldSecond)) → later.breaks ≡ log.breaks → SameLimits log later spans
same-limits log later [] is = tt
same-limits log later (span ∷ spans) is = (λ long. limit-same log later is (cut_second (last span)), same-limits log later spans is)

pub refused-stays : RefusalsStayComplete
refused-stays rule start log refused done marks c =
    let later : RunLog = record log { refused = refused } in
    let is = ap (λ (w : Went). w.told) (went-refused log later refl refl done) in
    same-seconds rule start log later (went log done).told (went later done).told marks is
    (ap (unit_history rule start later) is ∙ same-history rule start log later (went log done).told (same-limits log later (spans_of (went log done).told) refl)) (λ u failed. failed) c

-- POWER IS BACK
pub found-stays : FoundStaysComplete
found-stays rule start from first done p g may k mark low marks c = by p.supply may g
  where
    at : Core rule start from first done p.log p.unfound p.next Due p.book p.waiting → IsComplete rule start (found_log p.unfound k p.log) (went (found_log p.unfound k p.log) done).told marks
    at core =
        same-seconds rule start p.log (found_log p.unfound k p.log) (went p.log done).told (went (found_log p.unfound k p.log) done).told marks
        (ap (λ (w : Went). w.told) (found-told rule start from first done p.log p.unfound p.next p.book p.waiting core k mark low))
        (found-minutes rule start from first done p.log p.unfound p.next p.book p.waiting core k mark low)
        (λ u failed. subst (λ (us : List ℕ). Contains us u) (sym (by-found true p.unfound k p.log.breaks)) failed) c

    by : (s : UnitPower) → MayPower s p.next → BookFollowsRun rule start from first done (record p { supply = s }) → IsComplete rule start (found_log p.unfound k p.log) (went (found_log p.unfound k p.log) done).told marks
    by (Lit span) may f = absurd may
    by Due may f = at (due-core rule start from first done p f)
    by Lost may f = at (lost-core rule start from first done p f)

-- it fails
pub failure-stays : AFailureStaysComplete
failure-stays rule start from first done p g may none s later by marks c = at_supply p.supply may (with-waiting rule start from first done p [] none g)
  where
    still : (u : ℕ) → FailedCutIn p.log u → FailedCutIn later u
    still = fails-still p.log later by.breaks.0 by.breaks.1

    at : AreInOrder from done → p.next ≡ from + length done → p.unfound ≤ length p.log.breaks → Core rule start from first done p.log p.unfound p.next Due p.book [] → Comes (went p.log done).before p.next →
        IsComplete rule start later (went later (done ++ s ∷ [])).told marks
    at order next within core comes =
        let t : ToldSecond = next_told later done s in
        let adds = comes-adds rule start from first done p order next within s later by core comes in
        let is = now-told rule start from first done p order next within s later by in
        carried rule start p.log later (went p.log done).told (went later (done ++ s ∷ [])).told marks
        (λ sp at_. ⊎_elim
        (λ old. inl (record { old = sp; among = old; decides = refl; settles = refl }))
        (λ (here : t ∷ [] ≡ sp). inr (ap (decided_of rule) (sym here) ∙ short-none rule t))
        (Contains-push_cases (spans_of (went p.log done).told) (t ∷ []) sp (subst (λ (ss : List (List ToldSecond)). Contains ss sp) adds.0 at_)))
        adds.1
        still
        (λ card a b broken. subst (λ (ts : List ToldSecond). BrokenIn later ts card a b) (sym is) (broken-stays p.log later (went p.log done).told (t ∷ []) card a b still broken)) c

    at_supply : (sp : UnitPower) → MayFail sp p.next → BookFollowsRun rule start from first done (record p { supply = sp; waiting = [] }) → IsComplete rule start later (went later (done ++ s ∷ [])).told marks
    at_supply (Lit []) may f =
        at f.order f.next f.unfound (lit-due rule start from first done p.log p.unfound p.next p.book (core-of rule start from first done (record p { supply = Lit []; waiting = [] }) f)) f.power
    at_supply (Lit (x ∷ xs)) may f = absurd may
    at_supply Due may f = at f.order f.next f.unfound (due-core rule start from first done (record p { waiting = [] }) f) (f.power p.next)
    at_supply Lost may f = at f.order f.next f.unfound (lost-core rule start from first done (record p { waiting = [] }) f) (lost-comes (went p.log done).before p.next f.power may)

-- THE LAST SECOND
pub cut-stays_ : ACutStaysComplete
cut-stays_ rule start from first done p g t span is none marks c =
    let f = lit-parts rule start from first done p g (t ∷ span) is none in
    let later : RunLog = and_break p.log (cut_at (p.next - 1) false p.begun) in
    let parts = cut-parts rule start from first done p t span f in
    let spans = spans-cut rule start from first done p t span f in
    carried rule start p.log later (went p.log done).told (went later done).told marks
    (λ sp at. inl (⊎_elim
    (λ ended. record {
      old = sp;
      among = subst (λ (ss : List (List ToldSecond)). Contains ss sp) (sym f.spans) (Contains-append_left f.ended ((t ∷ span) ∷ []) sp ended);
      decides = refl;
      settles = refl;
    })
    (λ (here : cut_last (t ∷ span) ≡ sp). record {
      old = t ∷ span;
      among = subst (λ (ss : List (List ToldSecond)). Contains ss (t ∷ span)) (sym f.spans) (Contains-push f.ended (t ∷ span));
      decides = ap (decided_of rule) (sym here) ∙ decided-cut rule (t ∷ span);
      settles = ap settlings_of (sym here) ∙ settlings-cut (t ∷ span);
    })
    (Contains-push_cases f.ended (cut_last (t ∷ span)) sp (subst (λ (ss : List (List ToldSecond)). Contains ss sp) spans at))))
    (cut-history rule start from first done p t span f)
    (λ u failed. still u failed)
    (λ card a b broken. ⊎_elim (λ failed. inl (still b failed))
    (λ torn. inr (subst (λ (ts : List ToldSecond). TornBetween ts card a b) (sym parts.3) (torn-instead parts.0 parts.1 card a b (subst (λ (ts : List ToldSecond). TornBetween ts card a b) parts.2 torn))))
    broken) c
  where
    still : (u : ℕ) → FailedCutIn p.log u → FailedCutIn (and_break p.log (cut_at (p.next - 1) false p.begun)) u
    still u failed = subst (λ (us : List ℕ). Contains us u) (sym (by-other p.log.breaks (p.next - 1) false p.begun)) failed

    torn-instead : (front : List ToldSecond) (x : ToldSecond) (card : Card) (a b : ℕ) → TornBetween (front ++ x ∷ []) card a b → TornBetween (front ++ cut_at_end x ∷ []) card a b
    torn-instead front x card a b torn = ⊎_elim
        (λ old. (torn.0, Contains-append_left front (cut_at_end x ∷ []) torn.0 old, torn.2, torn.3, torn.4))
        (λ (here : x ≡ torn.0). (
          cut_at_end x,
          Contains-push front (cut_at_end x),
          subst (λ (y : ToldSecond). a ≤ y.second.number) (sym here) torn.2,
          subst (λ (y : ToldSecond). y.second.number ≤ b) (sym here) torn.3,
          subst (λ (y : ToldSecond). TornIn card y) (sym here) torn.4,
        ))
        (Contains-push_cases front x torn.0 torn.1)
