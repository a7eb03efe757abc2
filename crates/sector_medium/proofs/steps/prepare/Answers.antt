use Rattle.std.proofs.Common.{rules, ◌≡◌, true, false, is_err, refl, ℕ, ◌+◌, ◌-◌, List, ◌++◌, length, ap, ◌∙◌, arith, length-append}
use Rattle.card_layout.proofs.Images.{put_outside}
use Rattle.tach_media.specs.Medium.{bytes_at}
use Rattle.tach_media.proofs.Runs.{reads_then}
use Rattle.sector_medium.specs.Redo.{record_place, IsShut}
use Rattle.sector_medium.proofs.Lifts.{Wrote, reads_as, lift_reads, room_stays}
use Rattle.sector_medium.proofs.Moves.{wrote_at, wrote_not, wrote_done, record_reads, record_is_ready}
use Rattle.sector_medium.proofs.Known.{told_still}
use Rattle.sector_medium.proofs.steps.prepare.Goals as goal

pub returns-in_err-write_at-clause-reads : goal.returns-in_err-write_at-clause-reads
returns-in_err-write_at-clause-reads g c =
    let size = c.args.size in
    let r = c.requires in
    let read = c.in_ok-read_at.ensures in
    let e = c.in_err-write_at.ensures in
    let earlier : List ℕ = c.read_at.new.out in
    let after : List ℕ = c.changed-new.result in
    let six : length c.read_at.new.out ≡ 6 = c.read_at.auto.out in
    let long : length c.changed-new.result ≡ 6 =
    ap length c.changed-new.ensures ∙ (put_outside (c.args.place - c.args.at) c.args.bytes.now c.read_at.new.out (omega (arith, six, r.short, r.behind))).same_length ∙ six in
    let run : Wrote (g.D.Disk.state c.read_at.new.self) (g.D.Disk.state c.write_at.new.self) true (record_place c.args.size + 4) (c.read_at.new.out ++ c.changed-new.result) =
    wrote_at (ap (λ (n : ℕ). n + 4) c.place_behind.ensures) c.record_of.ensures (wrote_not e.moments e.clock e.cause) in
    let room = room_stays r.room read.reads.leaves in
    let shut = told_still (IsShut size) read.reads r.shut in
    let failed : is_err c.from_residual-in_err-write_at.result ≡ true = search rules in
    reads_as failed (reads_then (lift_reads size (g.met.D.Disk.coherent c.args.disk.now) read.reads)
    (record_reads size room (g.met.D.Disk.coherent c.read_at.new.self) (earlier ++ after) (length-append earlier after ∙ omega (arith, six, long)) run shut))

pub returns-clause-reads : goal.returns-clause-reads
returns-clause-reads g c =
    let size = c.args.size in
    let r = c.requires in
    let read = c.in_ok-read_at.ensures in
    let e = c.in_ok-write_at.ensures in
    let earlier : List ℕ = c.read_at.new.out in
    let after : List ℕ = c.changed-new.result in
    let six : length c.read_at.new.out ≡ 6 = c.read_at.auto.out in
    let long : length c.changed-new.result ≡ 6 =
    ap length c.changed-new.ensures ∙ (put_outside (c.args.place - c.args.at) c.args.bytes.now c.read_at.new.out (omega (arith, six, r.short, r.behind))).same_length ∙ six in
    let run : Wrote (g.D.Disk.state c.read_at.new.self) (g.D.Disk.state c.write_at.new.self) false (record_place c.args.size + 4) (c.read_at.new.out ++ c.changed-new.result) =
    wrote_at (ap (λ (n : ℕ). n + 4) c.place_behind.ensures) c.record_of.ensures (wrote_done e.written e.moments e.clock e.cause) in
    let room = room_stays r.room read.reads.leaves in
    let shut = told_still (IsShut size) read.reads r.shut in
    reads_then (lift_reads size (g.met.D.Disk.coherent c.args.disk.now) read.reads)
    (record_reads size room (g.met.D.Disk.coherent c.read_at.new.self) (earlier ++ after) (length-append earlier after ∙ omega (arith, six, long)) run shut)

pub returns-clause-ready : goal.returns-clause-ready
returns-clause-ready g c =
    let size = c.args.size in
    let r = c.requires in
    let read = c.in_ok-read_at.ensures in
    let e = c.in_ok-write_at.ensures in
    let earlier : List ℕ = c.read_at.new.out in
    let after : List ℕ = c.changed-new.result in
    let six : length c.read_at.new.out ≡ 6 = c.read_at.auto.out in
    let long : length c.changed-new.result ≡ 6 =
    ap length c.changed-new.ensures ∙ (put_outside (c.args.place - c.args.at) c.args.bytes.now c.read_at.new.out (omega (arith, six, r.short, r.behind))).same_length ∙ six in
    let run : Wrote (g.D.Disk.state c.read_at.new.self) (g.D.Disk.state c.write_at.new.self) false (record_place c.args.size + 4) (c.read_at.new.out ++ c.changed-new.result) =
    wrote_at (ap (λ (n : ℕ). n + 4) c.place_behind.ensures) c.record_of.ensures (wrote_done e.written e.moments e.clock e.cause) in
    let room = room_stays r.room read.reads.leaves in
    let shut = told_still (IsShut size) read.reads r.shut in
    record_is_ready size room (g.met.D.Disk.coherent c.read_at.new.self) c.args.at c.args.place c.args.bytes.now earlier after six long r.inside c.changed-new.ensures run shut
    (told_still (λ x. earlier ≡ bytes_at x c.args.at 6) read.reads read.bytes) refl
