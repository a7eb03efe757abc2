use Rattle.std.proofs.Common.{◌≡◌, ◌≤◌, ◌+◌, ℕ, ◌-◌, List, ◌∙◌, arith, Some}
use Rattle.std.specs.Int.{to_be_bytes, w32}
use Rattle.tach_media.specs.Medium.{put}
use Rattle.tach_media.proofs.Ranges.{lies_part, lies_still}
use Rattle.tach_media.proofs.Runs.{weaken, goes_by, image_then, image_both}
use Rattle.unit_model.specs.declared.layout.TheConstants.{IDENTIFICATION, IMAGE_SIZE}
use Rattle.unit_model.proofs.Sized.{unit_sized}
use Rattle.unit_model.specs.NewImage.{zeros, new_image}
use Rattle.unit_memory.specs.Formats.{identified}
use Rattle.unit_memory.proofs.Formatting.{moment_1, moment_2, moment_3, moment_4, all_written}
use Rattle.unit_memory.proofs.format.format_unit.Goals as goal

pub write_at-requires-clause-writable : goal.write_at-requires-clause-writable
write_at-requires-clause-writable g c = lies_part _ 0 IMAGE_SIZE _ _ (omega arith) (omega arith) c.requires.unit.writable

pub write_at-requires-2-clause-writable : goal.write_at-requires-2-clause-writable
write_at-requires-2-clause-writable g c =
    lies_still _ _ 0 IMAGE_SIZE _ _ (c.clear.ensures.moments.writable ∙ c.identify.ensures.moments.writable ∙ c.write_at.ensures.moments.writable) (omega arith) (omega arith) c.requires.unit.writable

pub returns-in_err-identify-clause-moments : goal.returns-in_err-identify-clause-moments
returns-in_err-identify-clause-moments g c =
    let v = c.args.identity.now.vin in
    let r = c.args.identity.now.registration.0 in
    let l = c.args.identity.now.limit in
    let sized = λ (x : List ℕ) (is : (g.M.Medium.state c.args.unit.now).image ≡ Some x). unit_sized (g.met.M.Medium.coherent c.args.unit.now) c.requires.unit x is in
    goes_by (put 0 (to_be_bytes w32 0)) (weaken c.write_at.ensures.moments (λ x d is part. moment_1 (new_image v r l) x (sized x is) d part)) c.in_ok-write_at.ensures.written c.identify.ensures.moments (λ x d is same.
    moment_2 (new_image v r l) x (sized x is) d same)

pub returns-in_err-clear-clause-moments : goal.returns-in_err-clear-clause-moments
returns-in_err-clear-clause-moments g c =
    let v = c.args.identity.now.vin in
    let r = c.args.identity.now.registration.0 in
    let l = c.args.identity.now.limit in
    let e = c.in_ok-identify.ensures in
    let sized = λ (x : List ℕ) (is : (g.M.Medium.state c.args.unit.now).image ≡ Some x). unit_sized (g.met.M.Medium.coherent c.args.unit.now) c.requires.unit x is in
    let first = put 0 (to_be_bytes w32 0) in
    goes_by (λ x. identified v r l (first x))
    (goes_by first (weaken c.write_at.ensures.moments (λ x d is part. moment_1 (new_image v r l) x (sized x is) d part)) c.in_ok-write_at.ensures.written c.identify.ensures.moments (λ x d is same.
    moment_2 (new_image v r l) x (sized x is) d same))
    (image_then (g.M.Medium.state c.args.unit.now).image _ _ first (identified v r l) c.in_ok-write_at.ensures.written c.in_ok-identify.ensures.identified)
    c.clear.ensures.moments (λ x d is part. moment_3 v r l e.vin e.registration x (sized x is) d part)

pub returns-in_err-write_at-2-clause-moments : goal.returns-in_err-write_at-2-clause-moments
returns-in_err-write_at-2-clause-moments g c =
    let v = c.args.identity.now.vin in
    let r = c.args.identity.now.registration.0 in
    let l = c.args.identity.now.limit in
    let e = c.in_ok-identify.ensures in
    let sized = λ (x : List ℕ) (is : (g.M.Medium.state c.args.unit.now).image ≡ Some x). unit_sized (g.met.M.Medium.coherent c.args.unit.now) c.requires.unit x is in
    let first = put 0 (to_be_bytes w32 0) in
    let o = (g.M.Medium.state c.args.unit.now).image in
    let named = image_then o _ _ first (identified v r l) c.in_ok-write_at.ensures.written c.in_ok-identify.ensures.identified in
    goes_by (λ x. put 37 (zeros (IMAGE_SIZE - IDENTIFICATION.place)) (identified v r l (first x)))
    (goes_by (λ x. identified v r l (first x))
    (goes_by first (weaken c.write_at.ensures.moments (λ x d is part. moment_1 (new_image v r l) x (sized x is) d part)) c.in_ok-write_at.ensures.written c.identify.ensures.moments (λ x d is same.
    moment_2 (new_image v r l) x (sized x is) d same))
    named c.clear.ensures.moments (λ x d is part. moment_3 v r l e.vin e.registration x (sized x is) d part))
    (image_then o _ _ (λ x. identified v r l (first x)) (put 37 (zeros (IMAGE_SIZE - IDENTIFICATION.place))) named c.in_ok-clear.ensures.cleared)
    c.write_at-2.ensures.moments (λ x d is part. moment_4 v r l e.vin e.registration x (sized x is) d part)

pub returns-clause-formatted : goal.returns-clause-formatted
returns-clause-formatted g c =
    let v = c.args.identity.now.vin in
    let r = c.args.identity.now.registration.0 in
    let l = c.args.identity.now.limit in
    let e = c.in_ok-identify.ensures in
    let sized = λ (x : List ℕ) (is : (g.M.Medium.state c.args.unit.now).image ≡ Some x). unit_sized (g.met.M.Medium.coherent c.args.unit.now) c.requires.unit x is in
    let first = put 0 (to_be_bytes w32 0) in
    let o = (g.M.Medium.state c.args.unit.now).image in
    let named = image_then o _ _ first (identified v r l) c.in_ok-write_at.ensures.written c.in_ok-identify.ensures.identified in
    image_both o _ _ (λ x. put 37 (zeros (IMAGE_SIZE - IDENTIFICATION.place)) (identified v r l (first x))) (put 0 (to_be_bytes w32 1)) (λ x. new_image v r l)
    (image_then o _ _ (λ x. identified v r l (first x)) (put 37 (zeros (IMAGE_SIZE - IDENTIFICATION.place))) named c.in_ok-clear.ensures.cleared)
    c.in_ok-write_at-2.ensures.written (λ x is. all_written x (sized x is) v r l e.vin e.registration)

pub returns-clause-moments : goal.returns-clause-moments
returns-clause-moments g c =
    let v = c.args.identity.now.vin in
    let r = c.args.identity.now.registration.0 in
    let l = c.args.identity.now.limit in
    let e = c.in_ok-identify.ensures in
    let sized = λ (x : List ℕ) (is : (g.M.Medium.state c.args.unit.now).image ≡ Some x). unit_sized (g.met.M.Medium.coherent c.args.unit.now) c.requires.unit x is in
    let first = put 0 (to_be_bytes w32 0) in
    let o = (g.M.Medium.state c.args.unit.now).image in
    let named = image_then o _ _ first (identified v r l) c.in_ok-write_at.ensures.written c.in_ok-identify.ensures.identified in
    goes_by (λ x. put 37 (zeros (IMAGE_SIZE - IDENTIFICATION.place)) (identified v r l (first x)))
    (goes_by (λ x. identified v r l (first x))
    (goes_by first (weaken c.write_at.ensures.moments (λ x d is part. moment_1 (new_image v r l) x (sized x is) d part)) c.in_ok-write_at.ensures.written c.identify.ensures.moments (λ x d is same.
    moment_2 (new_image v r l) x (sized x is) d same))
    named c.clear.ensures.moments (λ x d is part. moment_3 v r l e.vin e.registration x (sized x is) d part))
    (image_then o _ _ (λ x. identified v r l (first x)) (put 37 (zeros (IMAGE_SIZE - IDENTIFICATION.place))) named c.in_ok-clear.ensures.cleared)
    c.write_at-2.ensures.moments (λ x d is part. moment_4 v r l e.vin e.registration x (sized x is) d part)

-- ---- its writes: 607 chunks of zeros, and five small ones

pub returns-in_err-write_at-clause-most : goal.returns-in_err-write_at-clause-most
returns-in_err-write_at-clause-most g c =
    let first : (g.M.Medium.state c.write_at.new.self).clock ≤ (g.M.Medium.state c.args.unit.now).clock + 1 = c.write_at.ensures.few in
    omega (arith, first)

pub returns-in_err-identify-clause-most : goal.returns-in_err-identify-clause-most
returns-in_err-identify-clause-most g c =
    let first : (g.M.Medium.state c.write_at.new.self).clock ≤ (g.M.Medium.state c.args.unit.now).clock + 1 = c.write_at.ensures.few in
    let named = c.identify.ensures.most in
    omega (arith, first, named)

pub returns-in_err-clear-clause-most : goal.returns-in_err-clear-clause-most
returns-in_err-clear-clause-most g c =
    let first : (g.M.Medium.state c.write_at.new.self).clock ≤ (g.M.Medium.state c.args.unit.now).clock + 1 = c.write_at.ensures.few in
    let named = c.identify.ensures.most in
    let cleared : (g.M.Medium.state c.clear.new.unit).clock ≤ (g.M.Medium.state c.identify.new.unit).clock + 10319 = c.clear.ensures.most in
    omega (arith, first, named, cleared)

pub returns-in_err-write_at-2-clause-most : goal.returns-in_err-write_at-2-clause-most
returns-in_err-write_at-2-clause-most g c =
    let first : (g.M.Medium.state c.write_at.new.self).clock ≤ (g.M.Medium.state c.args.unit.now).clock + 1 = c.write_at.ensures.few in
    let named = c.identify.ensures.most in
    let cleared : (g.M.Medium.state c.clear.new.unit).clock ≤ (g.M.Medium.state c.identify.new.unit).clock + 10319 = c.clear.ensures.most in
    let last : (g.M.Medium.state c.write_at-2.new.self).clock ≤ (g.M.Medium.state c.clear.new.unit).clock + 1 = c.write_at-2.ensures.few in
    omega (arith, first, named, cleared, last)

pub returns-clause-most : goal.returns-clause-most
returns-clause-most g c =
    let first : (g.M.Medium.state c.write_at.new.self).clock ≤ (g.M.Medium.state c.args.unit.now).clock + 1 = c.write_at.ensures.few in
    let named = c.identify.ensures.most in
    let cleared : (g.M.Medium.state c.clear.new.unit).clock ≤ (g.M.Medium.state c.identify.new.unit).clock + 10319 = c.clear.ensures.most in
    let last : (g.M.Medium.state c.write_at-2.new.self).clock ≤ (g.M.Medium.state c.clear.new.unit).clock + 1 = c.write_at-2.ensures.few in
    omega (arith, first, named, cleared, last)
