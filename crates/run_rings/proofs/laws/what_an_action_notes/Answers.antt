use Rattle.run_rings.proofs.Actions.{selections, pulls, entries, refusals, places, withdrawals, insertions, power-notes}
use Rattle.run_rings.proofs.laws.what_an_action_notes.Goals as goal

pub returns : goal.returns
returns c = record { selection = selections; pull = pulls; by_hand = entries; refusal = refusals; place = places; withdrawal = withdrawals; insertion = insertions; power_on = power-notes }
