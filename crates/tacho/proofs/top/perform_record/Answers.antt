use Rattle.std.proofs.Common.{rules}
use Rattle.tacho.proofs.Recordings.{record-ends}
use Rattle.tacho.proofs.top.perform_record.Goals as goal

pub returns : goal.returns
returns g c = record {
  does = record {
    ends =
        let e = c.record-done.ensures in
        rw c.after.ensures (record-ends _ _ c.record-done.new.outcome c.record-done.result e.ends e.causes);
    spares = search rules;
  };
}
