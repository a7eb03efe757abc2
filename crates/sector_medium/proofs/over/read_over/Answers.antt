use Rattle.std.proofs.Common.{rules, ◌≡◌, true, is_err, length, ◌∙◌, ap, sym, arith, refl}
use Rattle.tach_media.specs.Medium.{bytes_at}
use Rattle.sector_medium.specs.Redo.{recovered}
use Rattle.sector_medium.specs.RedoLaws.{record_behind}
use Rattle.sector_medium.proofs.Lifts.{lift_reads, reads_as, room_stays}
use Rattle.sector_medium.proofs.Moves.{told_at}
use Rattle.sector_medium.proofs.Known.{if_recovered, known_still}
use Rattle.sector_medium.proofs.over.read_over.Goals as goal

pub read_at-requires : goal.read_at-requires
read_at-requires g c = omega (arith, c.requires.inside, c.requires.room.room, record_behind c.args.size)

pub returns-in_err-read_at-clause-reads : goal.returns-in_err-read_at-clause-reads
returns-in_err-read_at-clause-reads g c =
    let failed : is_err c.from_residual.result ≡ true = search rules in
    reads_as failed (lift_reads c.args.size (g.met.D.Disk.coherent c.args.disk.now) c.in_err-read_at.ensures.reads)

pub returns-in_err-read_at-clause-room : goal.returns-in_err-read_at-clause-room
returns-in_err-read_at-clause-room g c = room_stays c.requires.room c.in_err-read_at.ensures.reads.leaves

pub returns-clause-bytes : goal.returns-clause-bytes
returns-clause-bytes g c =
    let size = c.args.size in
    let place = c.args.place in
    let s = g.D.Disk.state c.args.disk.now in
    let same : length c.read_at.new.out ≡ length c.args.out.now = c.read_at.auto.out in
    if_recovered size (g.D.Disk.state c.args.disk.now).image (λ x. c.overlay.new.out ≡ bytes_at x c.args.place (length c.args.out.now)) (λ d is.
    let whole = (g.met.D.Disk.coherent c.args.disk.now).sized d is in
    let read = told_at (g.D.Disk.state c.args.disk.now).image (λ x. c.read_at.new.out ≡ bytes_at x c.args.place (length c.args.out.now)) d c.in_ok-read_at.ensures.bytes is in
    c.overlay.ensures d (c.requires.known.seen d is) (omega (arith, whole, c.requires.room.room)) (read ∙ ap (bytes_at d c.args.place) (sym same)) ∙ ap (bytes_at (recovered c.args.size d) c.args.place) same)

pub returns-clause-reads : goal.returns-clause-reads
returns-clause-reads g c = lift_reads c.args.size (g.met.D.Disk.coherent c.args.disk.now) c.in_ok-read_at.ensures.reads

pub returns-clause-known : goal.returns-clause-known
returns-clause-known g c = let e = c.in_ok-read_at.ensures.reads in known_still c.args.size c.args.found.now (g.D.Disk.state c.args.disk.now) (g.D.Disk.state c.read_at.new.self) e.cause.works (e.same refl) c.requires.known

pub returns-clause-room : goal.returns-clause-room
returns-clause-room g c = room_stays c.requires.room c.in_ok-read_at.ensures.reads.leaves
