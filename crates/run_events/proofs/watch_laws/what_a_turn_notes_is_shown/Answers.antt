use Rattle.run_events.proofs.Turned.{turn-shown, turn-coming}
use Rattle.run_events.proofs.watch_laws.what_a_turn_notes_is_shown.Goals as goal

pub returns : goal.returns
returns c = record {
  noted = λ number long limit span new ended are low lows x c sized noted. turn-shown number long limit span new ended are low lows x c sized noted;
  moment = λ number long limit span new ended are low lows x c sized moment. turn-coming number long limit span new ended are low lows x c sized moment;
}
