use Rattle.device_calls.proofs.SizesRead.{sizes-read}
use Rattle.std.proofs.Common.{refl}
use Rattle.run_insertion.proofs.Seats.{own-read}
use Rattle.run_insertion.proofs.waking.wake.Goals as goal

pub returns-in-Ok-clause-measured : goal.returns-in-Ok-clause-measured
returns-in-Ok-clause-measured g c =
    let l = c.in-Ok.ensures.loaded in
    (record { good = l.good; size = l.size; sizes = l.sizes; works = λ file is. absurd cc; chosen = λ file is. absurd cc; current = λ file is. absurd cc }, sizes-read c.in-Ok.app _ _ (c.in-Ok.ensures.reads.same refl) c.in-Ok.ensures.judged, own-read c.in-Ok.app _ _ (c.in-Ok.ensures.reads.same refl) c.in-Ok.ensures.judged)
