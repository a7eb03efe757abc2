-- How the seconds of each step went: the seconds so far, and then exactly these.
use Rattle.std.proofs.Common.{◌≡◌, ℕ, suc, ◌+◌, ◌%◌, ◌<◌, ◌≤◌, true, List, [], ◌∷◌, ◌++◌, fold, ap, subst, ◌∙◌}
use Rattle.std.specs.List.{AllByRecursion}
use Rattle.trace_model.specs.declared.Action.{Action}
use Rattle.trace_model.specs.Trace.{TraceSecond, driven}
use Rattle.minute_model.specs.declared.Rule.{Rule}
use Rattle.run_model.specs.Span.{picks_of}
use Rattle.log_model.specs.Course.{ToldSecond, Before, went_on, went}
use Rattle.history_model.specs.Presence.{Start}
use Rattle.run_unit_course.specs.Turn.{IsSelection, lit_second, lit_seconds, dark_seconds, begins_with}
use Rattle.run_unit_course.specs.Lines.{log_of, cut_at, found_from, IsCutBefore}
use Rattle.run_unit_course.specs.Followed.{UnitPower, Lit, Due, Lost, Progress, going_before, lost_before, BookFollowsUnitRun, MayPower, MayFail}
use Rattle.run_unit_course.proofs.Lines.{went-found}
use Rattle.run_unit_course.proofs.Turns.{lost-goes, went-parts}
use Rattle.run_unit_course.proofs.Resting.{failed-goes}
use Rattle.run_unit_course.proofs.Lighted.{turn-told}
use Rattle.run_unit_course.proofs.Steps.{rests-due, rests-lost, rests-lit, lost-comes}

module _ (rule : Rule) (start : Start) (from first : ℕ) (done : List TraceSecond) (p : Progress) where
  pub by-supply : BookFollowsUnitRun rule start from first done p → (s : UnitPower) → p.supply ≡ s → BookFollowsUnitRun rule start from first done (record p { supply = s })
  by-supply g s is = subst (λ (s : UnitPower). BookFollowsUnitRun rule start from first done (record p { supply = s })) is g

  -- it is found what was kept: nothing changes
  pub powered_seconds : BookFollowsUnitRun rule start from first done p → MayPower p.supply p.next → (k : ℕ) → went (log_of (found_from p.unfound k p.breaks)) done ≡ went (log_of p.breaks) done
  powered_seconds g may k = went-found from p.next done p.breaks p.unfound k g.order (cuts p.supply may g)
    where
      cuts : (s : UnitPower) → MayPower s p.next → BookFollowsUnitRun rule start from first done (record p { supply = s }) → AllByRecursion (IsCutBefore p.next) p.breaks
      cuts (Lit span) may f = absurd may
      cuts Due may f = f.breaks
      cuts Lost may f = f.breaks

  -- a turn with power
  pub turned_seconds : BookFollowsUnitRun rule start from first done p → (span : List ToldSecond) → p.supply ≡ Lit span → (n speed : ℕ) (actions : List Action) → AllByRecursion IsSelection actions →
      went (log_of p.breaks) (done ++ driven (suc n) p.next speed actions)
      ≡ record { told = (went (log_of p.breaks) done).told ++ lit_seconds (suc n) p.next speed (picks_of actions) (begins_with span); before = going_before }
  turned_seconds g span is n speed actions each = turn-told rule start from first done p span (by-supply g (Lit span) is) n speed actions each

  -- the power-on fails in the first of these seconds, and the others are dark
  pub failed_seconds : BookFollowsUnitRun rule start from first done p → MayFail p.supply p.next → (n speed : ℕ) (actions : List Action) → p.next % 60 + suc n ≤ 60 → AllByRecursion IsSelection actions →
      went (log_of (p.breaks ++ cut_at p.next true 0 ∷ [])) (done ++ driven (suc n) p.next speed actions)
      ≡ record { told = (went (log_of p.breaks) done).told ++ lit_second p.next speed [] true true ∷ dark_seconds n (p.next + 1) speed true []; before = lost_before }
  failed_seconds g may n speed actions within each = go p.supply may g
    where
      go : (s : UnitPower) → MayFail s p.next → BookFollowsUnitRun rule start from first done (record p { supply = s }) → went (log_of (p.breaks ++ cut_at p.next true 0 ∷ [])) (done ++ driven (suc n) p.next speed actions)
          ≡ record { told = (went (log_of p.breaks) done).told ++ lit_second p.next speed [] true true ∷ dark_seconds n (p.next + 1) speed true []; before = lost_before }
      go (Lit []) may f = failed-goes rule start from first done p.breaks p.unfound p.next p.book (rests-lit rule start from first done p f) f.power speed actions each n within
      go (Lit (t ∷ span)) may f = absurd may
      go Due may f = failed-goes rule start from first done p.breaks p.unfound p.next p.book (rests-due rule start from first done p f) (f.power p.next) speed actions each n within
      go Lost may f = failed-goes rule start from first done p.breaks p.unfound p.next p.book (rests-lost rule start from first done p f) (lost-comes rule start from first done p (went (log_of p.breaks) done).before f.power may) speed actions each n within

  -- after a failed call: without power
  pub dark_minute : BookFollowsUnitRun rule start from first done p → p.supply ≡ Lost → (n speed : ℕ) (actions : List Action) → 0 < p.next % 60 → p.next % 60 + n ≤ 60 →
      went (log_of p.breaks) (done ++ driven n p.next speed actions) ≡ record { told = (went (log_of p.breaks) done).told ++ dark_seconds n p.next speed true actions; before = lost_before }
  dark_minute g is n speed actions some within =
      went-parts (log_of p.breaks) done (driven n p.next speed actions)
      ∙ ap (λ (b : Before). fold (went_on (log_of p.breaks)) (record { told = (went (log_of p.breaks) done).told; before = b }) (driven n p.next speed actions)) (by-supply g Lost is).power
      ∙ lost-goes (log_of p.breaks) (went (log_of p.breaks) done).told n p.next speed actions some within
