use Rattle.std.proofs.Common.{◌≡◌, ◌+◌, ◌-◌, ◌*◌, true, false, arith, refl, sym, ◌∙◌, ap, ℕ}
use Rattle.std.proofs.lemmas.Bool.Decides.{nat_tests}
use Rattle.tach_media.specs.Medium.{bytes_at}
use Rattle.tach_media.proofs.Runs.{from_told, reads_then}
use Rattle.sector_medium.specs.Redo.{gate_of, is_matched, window, new_bytes}
use Rattle.sector_medium.specs.RedoLaws.{gate_fits}
use Rattle.sector_medium.proofs.Known.{known_stale, known_open, told_still}
use Rattle.sector_medium.proofs.record.look_around.Goals as goal

pub overflow_mul-place : goal.overflow_mul-place
overflow_mul-place g c = let f = gate_fits c.args.size c.args.gate c.requires.names in omega (arith, f.1, c.requires.fits)

pub overflow_sub-place : goal.overflow_sub-place
overflow_sub-place g c = (gate_fits c.args.size c.args.gate c.requires.names).0

pub matched-requires-clause-place : goal.matched-requires-clause-place
matched-requires-clause-place g c = let f = gate_fits c.args.size c.args.gate c.requires.names in omega (arith, f.0, f.1)

pub returns-then-not-same-clause-known : goal.returns-then-not-same-clause-known
returns-then-not-same-clause-known g c =
    let size = c.args.size in
    let n = c.args.gate in
    let e = c.in_ok-same.ensures in
    let unlike : c.in_ok-same.same ≡ false = grind (arith, nat_tests) in
    known_stale size n (g.D.Disk.state c.matched.new.disk) e.reads.cause.works
    (told_still (λ x. n ≡ gate_of size x) e.reads c.requires.gate)
    (told_still (λ x. is_matched size x (window n) ≡ false) e.reads (from_told (g.D.Disk.state c.args.disk.now).image _ (λ x. is_matched size x (window n) ≡ false) e.value (λ x is v. sym v ∙ unlike)))

pub returns-clause-known : goal.returns-clause-known
returns-clause-known g c =
    let size = c.args.size in
    let n = c.args.gate in
    let e = c.in_ok-same.ensures in
    let f = c.in_ok-read_at.ensures in
    let alike : c.in_ok-same.same ≡ true = grind (arith, nat_tests) in
    let both = reads_then e.reads f.reads in
    known_open size n (g.D.Disk.state c.read_at.new.self) (record { place = n * 512 - 3; bytes = c.read_at.new.out }) f.reads.cause.works c.requires.names refl
    (told_still (λ x. n ≡ gate_of size x) both c.requires.gate)
    (told_still (λ x. is_matched size x (window n) ≡ true) both (from_told (g.D.Disk.state c.args.disk.now).image _ (λ x. is_matched size x (window n) ≡ true) e.value (λ x is v. sym v ∙ alike)))
    (told_still (λ x. c.read_at.new.out ≡ new_bytes size x) f.reads (from_told (g.D.Disk.state c.matched.new.disk).image _ (λ x. c.read_at.new.out ≡ new_bytes size x) f.bytes (λ x is v. v ∙ ap (λ (p : ℕ). bytes_at x (p + 10) 6) c.place_behind.ensures)))
