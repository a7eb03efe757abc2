use Rattle.std.proofs.Common.{[], refl, sym, append-nil, arith}
use Rattle.log_model.specs.run_model.declared.Device.TheVariants.{Unit as Recorder}
use Rattle.live_telling.specs.Telling.{once}
use Rattle.live_telling.proofs.keeping.keep_and_tell.Goals as goal

pub returns : goal.returns
returns g c =
    let t = c.in_ok-put_line.ensures.told (once Recorder (g.U.Medium.state c.write_at.new.self).clock) (record { unit = omega arith; card_a = omega arith; card_b = omega arith }) in
    record { told = record { tells = t.0; more = t.1; told = (t.0, [], sym (append-nil t.0), t.2, refl) } }
