use Rattle.std.proofs.Common.{◌≡◌, take, ⊎_elim}
use Rattle.tach_media.proofs.Runs.{if_told}
use Rattle.sector_medium.specs.Redo.{recovered, IsShut, IsOpen}
use Rattle.sector_medium.proofs.Redos.{shut_front}
use Rattle.sector_medium.proofs.steps.settle.Goals as goal

pub shut-requires-clause-done : goal.shut-requires-clause-done
shut-requires-clause-done g c =
    let size = c.args.size in
    if_told (g.D.Disk.state c.args.disk.now).image (λ d. recovered size d ≡ take size d) (λ d is. shut_front size d ((c.requires.known.seen d is).stale c.in-Stale.is))

pub finish-requires-clause-open : goal.finish-requires-clause-open
finish-requires-clause-open g c =
    if_told (g.D.Disk.state c.args.disk.now).image (IsOpen c.args.size c.in-Open.redo.place c.in-Open.redo.bytes) (λ d is. (c.requires.known.seen d is).opened c.in-Open.redo c.in-Open.is)

pub finish-requires-clause-around : goal.finish-requires-clause-around
finish-requires-clause-around g c = c.requires.known.around c.in-Open.redo c.in-Open.is

pub returns-in-Unknown-2-clause-shut : goal.returns-in-Unknown-2-clause-shut
returns-in-Unknown-2-clause-shut g c =
    if_told (g.D.Disk.state c.args.disk.now).image (IsShut c.args.size) (λ d is. ⊎_elim (λ none. absurd (c.requires.seen none)) (λ same. (c.requires.known.seen d is).closed same) c.in-Unknown.is)
