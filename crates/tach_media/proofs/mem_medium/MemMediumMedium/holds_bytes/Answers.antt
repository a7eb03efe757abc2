use Rattle.std.proofs.Common.{subst, ap}
use Rattle.card_layout.specs.Fields.{IsBytes}
use Rattle.tach_media.specs.Log.{History, image_of}
use Rattle.tach_media.specs.MemMedium.{MemView}
use Rattle.tach_media.proofs.MemoryLaws.{holds_bytes}
use Rattle.tach_media.proofs.mem_medium.MemMediumMedium.holds_bytes.Goals as goal

pub returns : goal.returns
returns c =
    holds_bytes c.args.self.now.log c.args.self.now.counts
    (subst (λ (h : History). IsBytes (image_of h)) (ap (λ (m : MemView). m.log) c.self.view_is) c.holds_bytes.ensures)
