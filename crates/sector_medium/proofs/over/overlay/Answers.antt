use Rattle.std.proofs.Common.{◌≡◌, ℕ, ◌+◌, ◌≤◌, List, length, sym, ◌∙◌, arith, refl}
use Rattle.tach_media.specs.Medium.{bytes_at}
use Rattle.sector_medium.specs.Redo.{recovered}
use Rattle.sector_medium.specs.Recovered.{IsSeen}
use Rattle.sector_medium.specs.declared.found.Redo.{Redo}
use Rattle.sector_medium.specs.declared.found.Found.{Found}
use Rattle.sector_medium.specs.declared.found.Found.TheVariants.{Unknown, Closed, Stale, Open}
use Rattle.sector_medium.specs.RedoLaws.{record_behind}
use Rattle.sector_medium.proofs.Redos.{open_around}
use Rattle.sector_medium.proofs.Known.{part_open, part_closed, part_stale}
use Rattle.sector_medium.proofs.over.overlay.Goals as goal

pub returns-in-Open : goal.returns-in-Open
returns-in-Open c = λ d seen room read.
    let redo = c.in-Open.redo in
    let opened = seen.opened c.in-Open.redo c.in-Open.is in
    let around = open_around c.args.size redo.place redo.bytes d opened in
    c.lay.ensures d (omega (arith, around.inside, room)) (omega (arith, c.requires.inside, room, record_behind c.args.size)) read
    ∙ sym (part_open c.args.size c.args.place (length c.args.out.now) redo.place redo.bytes d opened c.requires.inside)

-- what a part of the memory is by what was seen: the disk's, unless a record is to be done
part_seen : (size place n : ℕ) (found : Found) (d : List ℕ) → (found ≡ Unknown → ⊥) → ((p : Redo) → found ≡ Open p → ⊥) → IsSeen size found d → place + n ≤ size → bytes_at (recovered size d) place n ≡ bytes_at d place n
part_seen size place n Unknown d some none seen inside = absurd (some refl)
part_seen size place n Closed d some none seen inside = part_closed size place n d (seen.closed refl) inside
part_seen size place n Stale d some none seen inside = part_stale size place n d (seen.stale refl) inside
part_seen size place n (Open p) d some none seen inside = absurd (none p refl)

pub returns-in_default : goal.returns-in_default
returns-in_default c = λ d seen room read. read ∙ sym (part_seen c.args.size c.args.place (length c.args.out.now) c.args.found.now d c.requires.seen c.in_default.not-Open seen c.requires.inside)
