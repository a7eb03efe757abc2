-- Which session a card that is judged may tell, by what the rings note of it.
use Rattle.std.proofs.Common.{◌≡◌, ◌⊎◌, inl, inr, ⊎_elim, ℕ, Bool, true, List, [], Contains, filter}
use Rattle.log_model.specs.declared.lines.Verdict.{Verdict}
use Rattle.log_model.specs.Log.{RunLog, is_accepting}
use Rattle.device_calls.specs.note_model.Odometer.{SpanFrom}
use Rattle.device_calls.specs.note_model.Noted.{Acceptance}
use Rattle.device_calls.specs.safety_model.Safe.{Devices}
use Rattle.run_minutes.specs.run_promise.Origin.{Origin}
use Rattle.run_acts.specs.run_note_record.OnCards.{has_call_failed_in, CardsGo}
use Rattle.run_acts.specs.run_note_record.RingsSoFar.{HasMoreBreaks}
use Rattle.run_acts.specs.run_note_record.Moved.{Move, goes_in}
use Rattle.run_acts.specs.run_note_record.Sessions.{FailsIn, OpensIn}
use Rattle.run_acts.proofs.run_note_record.OnCards.{call-failed-more}
use Rattle.run_acts.proofs.run_note_record.Sessions.{go-more, fails-in}
use Rattle.recorder_with_cards.specs.JudgedRings.{JudgesIn}

module _ (o : Origin) (spans : List SpanFrom) (d e : Devices) (failed : Bool) (log later : RunLog) (more : HasMoreBreaks log later) (a : Acceptance) (vs : List Verdict) (cards : CardsGo o spans (JudgesIn failed log a vs) d e) (unit : failed ≡ true → has_call_failed_in later a.second ≡ true) where
  -- a later log knows of the failure
  fails-later : (t : ℕ) → ((failed ≡ true) × (t ≡ 0)) ⊎ (((t ≡ 0) ⊎ (t ≡ a.second)) × (has_call_failed_in log a.second ≡ true)) → ((t ≡ 0) ⊎ (t ≡ a.second)) × (has_call_failed_in later a.second ≡ true)
  fails-later t failing = ⊎_elim (λ none. (inl none.1, unit none.0)) (λ fails. (fails.0, call-failed-more log later more a.second fails.1)) failing

  -- it was not accepted: it was put in then
  pub cards-fail : (moves : List Move) → Contains moves (goes_in a.second a.card) → filter is_accepting vs ≡ [] → CardsGo o spans (FailsIn later moves a.second) d e
  cards-fail moves at none = go-more o spans (JudgesIn failed log a vs) (FailsIn later moves a.second) d e
      (λ c t may. ⊎_elim
      (λ own. absurd (own.0 none))
      (λ failing. let so = fails-later t failing in fails-in later moves a.second a.card c t at may.0 so.0 so.1)
      may.1) cards

  -- it was
  pub cards-open : CardsGo o spans (OpensIn later a) d e
  cards-open = go-more o spans (JudgesIn failed log a vs) (OpensIn later a) d e
      (λ c t may. (may.0, ⊎_elim (λ own. inl own.1) (λ failing. opens-so t (fails-later t failing)) may.1)) cards
    where
      opens-so : (t : ℕ) → ((t ≡ 0) ⊎ (t ≡ a.second)) × (has_call_failed_in later a.second ≡ true) → (t ≡ a.second) ⊎ ((t ≡ 0) × (has_call_failed_in later a.second ≡ true))
      opens-so t so = ⊎_elim (λ none. inr (none, so.1)) (λ now. inl now) so.0
