use Rattle.std.proofs.lemmas.Result.{on_ok_weaker}
use Rattle.card_commands.proofs.Selecting.{selects}
use Rattle.card_commands.proofs.sending.select.Goals as goal

pub returns-clause-card : goal.returns-clause-card
returns-clause-card g c = on_ok_weaker c.send.result (λ sent. selects _ _ _ _ c.args.file.fid c.args.file sent c.requires) c.send.ensures.sent
