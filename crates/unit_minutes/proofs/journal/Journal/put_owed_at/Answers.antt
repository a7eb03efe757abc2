use Rattle.tach_media.proofs.Runs.{on_ok, ok_gives}
use Rattle.unit_minutes.proofs.OwedBeside.{still_agrees}
use Rattle.unit_minutes.proofs.journal.Journal.put_owed_at.Goals as goal

pub returns-clause-agrees : goal.returns-clause-agrees
returns-clause-agrees g c = on_ok c.put_owed_at.result (λ fine. still_agrees c.args.self.now (g.M.Medium.state c.args.unit.now).image (g.M.Medium.state c.put_owed_at.new.unit).image _ _
    (c.put_owed_at.ensures.puts.written fine) c.requires.agrees (ok_gives c.put_owed_at.result (c.put_owed_at.ensures.put c.requires.own.0 c.requires.own.1) fine) (λ x y is. is.putting.outside))
