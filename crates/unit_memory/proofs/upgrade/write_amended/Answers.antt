use Rattle.std.proofs.Common.{◌≡◌, ◌≤◌, ◌+◌, arith}
use Rattle.tach_media.proofs.Ranges.{lies_part, lies_still}
use Rattle.tach_media.proofs.Runs.{weaken, goes_by, at_image}
use Rattle.unit_model.specs.declared.layout.TheConstants.{IMAGE_SIZE}
use Rattle.unit_model.specs.Decoding.{Decodes}
use Rattle.unit_model.specs.Versions.{version_of, ruled}
use Rattle.unit_model.proofs.Sized.{unit_sized}
use Rattle.unit_memory.proofs.Upgrading.{first_moment, next_moment}
use Rattle.unit_memory.proofs.upgrade.write_amended.Goals as goal

pub write_at-requires-clause-writable : goal.write_at-requires-clause-writable
write_at-requires-clause-writable g c = lies_part _ 0 IMAGE_SIZE _ _ (omega arith) (omega arith) c.requires.unit.writable

pub write_at-requires-2-clause-writable : goal.write_at-requires-2-clause-writable
write_at-requires-2-clause-writable g c = lies_still _ _ 0 IMAGE_SIZE _ _ c.write_at.ensures.moments.writable (omega arith) (omega arith) c.requires.unit.writable

pub returns-in_err-write_at-clause-moments : goal.returns-in_err-write_at-clause-moments
returns-in_err-write_at-clause-moments g c =
    weaken c.write_at.ensures.moments (λ x d is part.
    first_moment x (unit_sized (g.met.M.Medium.coherent c.args.unit.now) c.requires.unit x is) (at_image (λ y. version_of y ≡ 1) is c.requires.version) (at_image Decodes is c.requires.decodes) d part)

pub returns-in_err-write_at-2-clause-moments : goal.returns-in_err-write_at-2-clause-moments
returns-in_err-write_at-2-clause-moments g c =
    goes_by ruled
    (weaken c.write_at.ensures.moments (λ x d is part.
    first_moment x (unit_sized (g.met.M.Medium.coherent c.args.unit.now) c.requires.unit x is) (at_image (λ y. version_of y ≡ 1) is c.requires.version) (at_image Decodes is c.requires.decodes) d part))
    c.in_ok-write_at.ensures.written c.write_at-2.ensures.moments (λ x d is part.
    next_moment x (unit_sized (g.met.M.Medium.coherent c.args.unit.now) c.requires.unit x is) (at_image (λ y. version_of y ≡ 1) is c.requires.version) (at_image Decodes is c.requires.decodes) d part)

pub returns-clause-moments : goal.returns-clause-moments
returns-clause-moments g c =
    goes_by ruled
    (weaken c.write_at.ensures.moments (λ x d is part.
    first_moment x (unit_sized (g.met.M.Medium.coherent c.args.unit.now) c.requires.unit x is) (at_image (λ y. version_of y ≡ 1) is c.requires.version) (at_image Decodes is c.requires.decodes) d part))
    c.in_ok-write_at.ensures.written c.write_at-2.ensures.moments (λ x d is part.
    next_moment x (unit_sized (g.met.M.Medium.coherent c.args.unit.now) c.requires.unit x is) (at_image (λ y. version_of y ≡ 1) is c.requires.version) (at_image Decodes is c.requires.decodes) d part)

-- ---- its writes

pub returns-in_err-write_at-clause-most : goal.returns-in_err-write_at-clause-most
returns-in_err-write_at-clause-most g c =
    let one : (g.M.Medium.state c.write_at.new.self).clock ≤ (g.M.Medium.state c.args.unit.now).clock + 1 = c.write_at.ensures.few in
    omega (arith, one)

pub returns-in_err-write_at-2-clause-most : goal.returns-in_err-write_at-2-clause-most
returns-in_err-write_at-2-clause-most g c =
    let one : (g.M.Medium.state c.write_at.new.self).clock ≤ (g.M.Medium.state c.args.unit.now).clock + 1 = c.write_at.ensures.few in
    let two : (g.M.Medium.state c.write_at-2.new.self).clock ≤ (g.M.Medium.state c.write_at.new.self).clock + 1 = c.write_at-2.ensures.few in
    omega (arith, one, two)

pub returns-clause-most : goal.returns-clause-most
returns-clause-most g c =
    let one : (g.M.Medium.state c.write_at.new.self).clock ≤ (g.M.Medium.state c.args.unit.now).clock + 1 = c.write_at.ensures.few in
    let two : (g.M.Medium.state c.write_at-2.new.self).clock ≤ (g.M.Medium.state c.write_at.new.self).clock + 1 = c.write_at-2.ensures.few in
    omega (arith, one, two)
