-- The lines of a settling in an action: they are told at the moment behind so many actions of a second.
use Rattle.std.proofs.Common.{◌≡◌, ◌∙◌, ℕ, suc, ◌≤◌, false, Option, None, List, ◌++◌, [], ap, sym, arith, append-nil}
use Rattle.std.proofs.lemmas.Bool.Decides.{nat_tests}
use Rattle.log_model.specs.Course.{begins}
use Rattle.log_model.specs.Log.{RunLog, In, same_phase, cut_in}
use Rattle.log_model.specs.declared.lines.Break.{Break}
use Rattle.run_acts.specs.run_rings.Notes.{TellSameTo}
use Rattle.run_acts.specs.run_note_record.RingsSoFar.{HasMoreBreaks}
use Rattle.run_acts.proofs.RingedLines.{AreTears, TellsBeside, tears-beside}
use Rattle.run_acts.proofs.RingedSecond.{tears-here_}
use Rattle.recorder_with_cards.specs.JudgedRings.{TellsHere}
use Rattle.recorder_with_cards.proofs.RingsHere.{here-more}

-- behind an action is no moment up to it
behind-apart : (n k : ℕ) → k ≤ n → same_phase (In (suc n)) (In k) ≡ false
behind-apart n k le = grind (arith, nat_tests)

-- what a log tells behind them
pub record TellsOn (log told : RunLog) (u n : ℕ) : Type 0 where
  pub beside : TellsBeside log told u (In (suc n))
  pub uncut : cut_in told u ≡ None
  pub same : TellSameTo log told u n
  pub here : TellsHere log told u
  pub more : HasMoreBreaks log told

pub tears-on : (log told : RunLog) (u n : ℕ) (lines : List Break) → told ≡ record log { breaks = log.breaks ++ lines } → AreTears (record { second = u; begun = suc n; late = false }) lines → cut_in log u ≡ None → TellsOn log told u n
tears-on log told u n lines is tears uncut =
    let beside : TellsBeside log told u (In (suc n)) = tears-beside (record { second = u; begun = suc n; late = false }) lines log told is tears in
    let none : cut_in told u ≡ None = beside.cut ∙ uncut in
    let here : TellsHere log told u = record {
      breaks = (lines, ap (λ (l : RunLog). l.breaks) is, tears-here_ u (suc n) false lines tears);
      finds = ([], ap (λ (l : RunLog). l.finds) is ∙ sym (append-nil log.finds), tt);
    } in
    record {
      beside = beside;
      uncut = none;
      same = record {
        begun = λ k lt. ap (λ (c : Option ℕ). begins c k) uncut;
        begun_later = λ k lt. ap (λ (c : Option ℕ). begins c k) none;
        torn = λ k x le. beside.torn (In k) x (behind-apart n k le);
        found = λ k x le. beside.found (In k) x;
      };
      here = here;
      more = here-more log told u here;
    }
