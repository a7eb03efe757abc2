use Rattle.std.proofs.Common.{◌≡◌, ◌∙◌, ap}
use Rattle.tach_media.proofs.Runs.{from_told}
use Rattle.gated_ring.specs.Ring.{pointer}
use Rattle.speed_model.specs.Stored.{speed_ring}
use Rattle.speed_store.specs.Finding.{after}
use Rattle.speed_store.proofs.finding.oldest.Goals as goal

pub returns-clause-index : goal.returns-clause-index
returns-clause-index g c =
    from_told (g.M.Medium.state c.args.unit.now).image (λ x. c.in_ok-pointer.pointer ≡ pointer speed_ring x) (λ x. c.after.result ≡ after (pointer speed_ring x)) c.in_ok-pointer.ensures.value (λ x told is.
    c.after.ensures.next ∙ ap after is)
