use Rattle.std.proofs.Common.{◌≡◌, ◌∙◌, ap, ℕ}
use Rattle.card_layout.specs.Images.{number_at}
use Rattle.tach_media.proofs.Runs.{from_told}
use Rattle.sector_medium.specs.Redo.{gate_of}
use Rattle.sector_medium.proofs.Known.{told_still}
use Rattle.sector_medium.proofs.record.look.Goals as goal

pub look_around-requires-clause-gate : goal.look_around-requires-clause-gate
look_around-requires-clause-gate g c =
    let e = c.in_ok-gate.ensures in
    let n = c.in_ok-gate.gate in
    told_still (λ x. n ≡ gate_of c.args.size x) e.reads (from_told (g.D.Disk.state c.args.disk.now).image _ (λ x. n ≡ gate_of c.args.size x) e.value (λ x is v. v ∙ ap (λ (p : ℕ). number_at x p 4) c.place_behind.ensures))
