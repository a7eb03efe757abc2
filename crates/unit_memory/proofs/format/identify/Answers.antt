use Rattle.std.proofs.Common.{◌≡◌, ◌≤◌, ◌+◌, ℕ, [], ◌∷◌, List, length, ◌∙◌, subst, arith}
use Rattle.tach_media.specs.Medium.{put, most_writes}
use Rattle.tach_media.proofs.Ranges.{lies_part, lies_still}
use Rattle.tach_media.proofs.Runs.{weaken, goes_by, image_then}
use Rattle.unit_model.specs.declared.layout.TheConstants.{IMAGE_SIZE}
use Rattle.unit_model.proofs.Sized.{unit_sized}
use Rattle.unit_memory.proofs.Formatting.{part_1, part_2, part_3}
use Rattle.unit_memory.proofs.format.identify.Goals as goal

pub write_at-requires-clause-writable : goal.write_at-requires-clause-writable
write_at-requires-clause-writable g c = lies_part _ 0 IMAGE_SIZE _ _ (omega arith) (omega arith) c.requires.unit.writable

pub write_at-requires-2-clause-writable : goal.write_at-requires-2-clause-writable
write_at-requires-2-clause-writable g c = lies_still _ _ 0 IMAGE_SIZE _ _ c.write_at.ensures.moments.writable (omega arith) (omega arith) c.requires.unit.writable

pub write_at-requires-3-clause-writable : goal.write_at-requires-3-clause-writable
write_at-requires-3-clause-writable g c =
    lies_still _ _ 0 IMAGE_SIZE _ _ (c.write_at-2.ensures.moments.writable ∙ c.write_at.ensures.moments.writable) (omega arith) (omega arith) c.requires.unit.writable

pub returns-in_err-write_at-clause-moments : goal.returns-in_err-write_at-clause-moments
returns-in_err-write_at-clause-moments g c =
    let v = c.args.identity.now.vin in
    let v_length : length v ≡ 17 = omega arith in
    weaken c.write_at.ensures.moments (λ x d is part. part_1 v v_length x d part)

pub returns-in_err-write_at-2-clause-moments : goal.returns-in_err-write_at-2-clause-moments
returns-in_err-write_at-2-clause-moments g c =
    let v = c.args.identity.now.vin in
    let r = c.args.identity.now.registration.0 in
    let v_length : length v ≡ 17 = omega arith in
    let r_length : length r ≡ 15 = omega arith in
    let sized = λ (x : List ℕ) (is : (g.M.Medium.state c.args.unit.now).image ≡ Rattle.std.proofs.Common.Some x). unit_sized (g.met.M.Medium.coherent c.args.unit.now) c.requires.unit x is in
    goes_by (put 4 v) (weaken c.write_at.ensures.moments (λ x d is part. part_1 v v_length x d part)) c.in_ok-write_at.ensures.written c.write_at-2.ensures.moments (λ x d is part.
    part_2 v r c.args.identity.now.limit v_length r_length x (sized x is) d part)

pub returns-in_err-write_at-3-clause-moments : goal.returns-in_err-write_at-3-clause-moments
returns-in_err-write_at-3-clause-moments g c =
    let v = c.args.identity.now.vin in
    let r = c.args.identity.now.registration.0 in
    let l = c.args.identity.now.limit in
    let v_length : length v ≡ 17 = omega arith in
    let r_length : length r ≡ 15 = omega arith in
    let sized = λ (x : List ℕ) (is : (g.M.Medium.state c.args.unit.now).image ≡ Rattle.std.proofs.Common.Some x). unit_sized (g.met.M.Medium.coherent c.args.unit.now) c.requires.unit x is in
    goes_by (λ x. put 21 r (put 4 v x))
    (goes_by (put 4 v) (weaken c.write_at.ensures.moments (λ x d is part. part_1 v v_length x d part)) c.in_ok-write_at.ensures.written c.write_at-2.ensures.moments (λ x d is part.
    part_2 v r l v_length r_length x (sized x is) d part))
    (image_then (g.M.Medium.state c.args.unit.now).image _ _ (put 4 v) (put 21 r) c.in_ok-write_at.ensures.written c.in_ok-write_at-2.ensures.written) c.write_at-3.ensures.moments (λ x d is part.
    part_3 v r l v_length r_length x (sized x is) d part)

pub returns-clause-moments : goal.returns-clause-moments
returns-clause-moments g c =
    let v = c.args.identity.now.vin in
    let r = c.args.identity.now.registration.0 in
    let l = c.args.identity.now.limit in
    let v_length : length v ≡ 17 = omega arith in
    let r_length : length r ≡ 15 = omega arith in
    let sized = λ (x : List ℕ) (is : (g.M.Medium.state c.args.unit.now).image ≡ Rattle.std.proofs.Common.Some x). unit_sized (g.met.M.Medium.coherent c.args.unit.now) c.requires.unit x is in
    goes_by (λ x. put 21 r (put 4 v x))
    (goes_by (put 4 v) (weaken c.write_at.ensures.moments (λ x d is part. part_1 v v_length x d part)) c.in_ok-write_at.ensures.written c.write_at-2.ensures.moments (λ x d is part.
    part_2 v r l v_length r_length x (sized x is) d part))
    (image_then (g.M.Medium.state c.args.unit.now).image _ _ (put 4 v) (put 21 r) c.in_ok-write_at.ensures.written c.in_ok-write_at-2.ensures.written) c.write_at-3.ensures.moments (λ x d is part.
    part_3 v r l v_length r_length x (sized x is) d part)

pub returns-clause-identified : goal.returns-clause-identified
returns-clause-identified g c =
    let v = c.args.identity.now.vin in
    let r = c.args.identity.now.registration.0 in
    let l = c.args.identity.now.limit in
    image_then (g.M.Medium.state c.args.unit.now).image _ _ (λ x. put 21 r (put 4 v x)) (put 36 (l ∷ []))
    (image_then (g.M.Medium.state c.args.unit.now).image _ _ (put 4 v) (put 21 r) c.in_ok-write_at.ensures.written c.in_ok-write_at-2.ensures.written) c.in_ok-write_at-3.ensures.written

-- ---- its writes

pub returns-in_err-write_at-clause-most : goal.returns-in_err-write_at-clause-most
returns-in_err-write_at-clause-most g c =
    let vin : length c.args.identity.now.vin ≡ 17 = omega arith in
    let one : (g.M.Medium.state c.write_at.new.self).clock ≤ (g.M.Medium.state c.args.unit.now).clock + 1 = subst (λ (n : ℕ). (g.M.Medium.state c.write_at.new.self).clock ≤ (g.M.Medium.state c.args.unit.now).clock + most_writes n) vin c.write_at.ensures.few in
    omega (arith, one)

pub returns-in_err-write_at-2-clause-most : goal.returns-in_err-write_at-2-clause-most
returns-in_err-write_at-2-clause-most g c =
    let vin : length c.args.identity.now.vin ≡ 17 = omega arith in
    let one : (g.M.Medium.state c.write_at.new.self).clock ≤ (g.M.Medium.state c.args.unit.now).clock + 1 = subst (λ (n : ℕ). (g.M.Medium.state c.write_at.new.self).clock ≤ (g.M.Medium.state c.args.unit.now).clock + most_writes n) vin c.write_at.ensures.few in
    let registration : length c.args.identity.now.registration.0 ≡ 15 = omega arith in
    let two : (g.M.Medium.state c.write_at-2.new.self).clock ≤ (g.M.Medium.state c.write_at.new.self).clock + 1 = subst (λ (n : ℕ). (g.M.Medium.state c.write_at-2.new.self).clock ≤ (g.M.Medium.state c.write_at.new.self).clock + most_writes n) registration c.write_at-2.ensures.few in
    omega (arith, one, two)

pub returns-in_err-write_at-3-clause-most : goal.returns-in_err-write_at-3-clause-most
returns-in_err-write_at-3-clause-most g c =
    let vin : length c.args.identity.now.vin ≡ 17 = omega arith in
    let one : (g.M.Medium.state c.write_at.new.self).clock ≤ (g.M.Medium.state c.args.unit.now).clock + 1 = subst (λ (n : ℕ). (g.M.Medium.state c.write_at.new.self).clock ≤ (g.M.Medium.state c.args.unit.now).clock + most_writes n) vin c.write_at.ensures.few in
    let registration : length c.args.identity.now.registration.0 ≡ 15 = omega arith in
    let two : (g.M.Medium.state c.write_at-2.new.self).clock ≤ (g.M.Medium.state c.write_at.new.self).clock + 1 = subst (λ (n : ℕ). (g.M.Medium.state c.write_at-2.new.self).clock ≤ (g.M.Medium.state c.write_at.new.self).clock + most_writes n) registration c.write_at-2.ensures.few in
    let three : (g.M.Medium.state c.write_at-3.new.self).clock ≤ (g.M.Medium.state c.write_at-2.new.self).clock + 1 = c.write_at-3.ensures.few in
    omega (arith, one, two, three)

pub returns-clause-most : goal.returns-clause-most
returns-clause-most g c =
    let vin : length c.args.identity.now.vin ≡ 17 = omega arith in
    let one : (g.M.Medium.state c.write_at.new.self).clock ≤ (g.M.Medium.state c.args.unit.now).clock + 1 = subst (λ (n : ℕ). (g.M.Medium.state c.write_at.new.self).clock ≤ (g.M.Medium.state c.args.unit.now).clock + most_writes n) vin c.write_at.ensures.few in
    let registration : length c.args.identity.now.registration.0 ≡ 15 = omega arith in
    let two : (g.M.Medium.state c.write_at-2.new.self).clock ≤ (g.M.Medium.state c.write_at.new.self).clock + 1 = subst (λ (n : ℕ). (g.M.Medium.state c.write_at-2.new.self).clock ≤ (g.M.Medium.state c.write_at.new.self).clock + most_writes n) registration c.write_at-2.ensures.few in
    let three : (g.M.Medium.state c.write_at-3.new.self).clock ≤ (g.M.Medium.state c.write_at-2.new.self).clock + 1 = c.write_at-3.ensures.few in
    omega (arith, one, two, three)
