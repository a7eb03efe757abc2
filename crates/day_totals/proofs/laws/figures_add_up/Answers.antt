use Rattle.day_totals.proofs.AddUp.{with_card, all_minutes, are_seen}
use Rattle.day_totals.proofs.laws.figures_add_up.Goals as goal

pub returns : goal.returns
returns c = record { with_card = with_card; all = all_minutes; seen = are_seen }
