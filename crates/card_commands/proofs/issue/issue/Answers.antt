use Rattle.std.proofs.Common.{◌≡◌, inr, ℕ, ◌+◌, ◌-◌, ◌≤◌, List, length, drop, ◌∙◌, subst, arith, length-drop}
use Rattle.std.proofs.lemmas.List.{length-take-le}
use Rattle.std.proofs.lemmas.Result.{on_ok_weaker}
use Rattle.tach_media.specs.Medium.{put, most_writes}
use Rattle.tach_media.proofs.Ranges.{lies_part, lies_still}
use Rattle.tach_media.proofs.Runs.{weaken, goes_by, image_then, image_both}
use Rattle.card_commands.proofs.Issuing.{front_of, back_of, type_of, typeless, with_front, with_back, issued, first_write, second_write, third_write, fourth_write, old_aside}
use Rattle.card_commands.proofs.issue.issue.Goals as goal

-- the parts of an image of at least 34 bytes
module _ (image : List ℕ) (least : 34 ≤ length image) where
  length_front : length (front_of image) ≡ 33
  length_front = length-take-le 33 image (omega (arith, least))

  length_type : length (type_of image) ≡ 1
  length_type = length-take-le 1 (drop 33 image) (omega (arith, least, length-drop 33 image))

  length_back : length (back_of image) ≡ length image - 34
  length_back = length-take-le (length image - 34) (drop 34 image) (omega (arith, length-drop 34 image))

pub slice_bounds-front-end : goal.slice_bounds-front-end
slice_bounds-front-end g c = omega (arith, c.requires.least, length_front c.args.image.now c.requires.least)

pub write_at-requires-clause-writable : goal.write_at-requires-clause-writable
write_at-requires-clause-writable g c =
    let s = g.M.Medium.state c.args.medium.now in
    lies_part s.writable 0 s.size 33 1 (omega arith) (omega (arith, c.requires.least, c.requires.most)) c.requires.writable

pub returns-in_err-write_at-clause-moments : goal.returns-in_err-write_at-clause-moments
returns-in_err-write_at-clause-moments g c =
    let image = c.args.image.now in
    let whole = g.met.M.Medium.coherent c.args.medium.now in
    old_aside whole (weaken c.write_at.ensures.moments (λ x d told part. first_write image x c.requires.least (omega (arith, c.requires.most, whole.sized x told)) d part))

pub write_at-requires-2-clause-inside : goal.write_at-requires-2-clause-inside
write_at-requires-2-clause-inside g c = omega (arith, length_front c.args.image.now c.requires.least, c.requires.least, c.requires.most, c.write_at.ensures.moments.size)

pub write_at-requires-2-clause-writable : goal.write_at-requires-2-clause-writable
write_at-requires-2-clause-writable g c =
    let s = g.M.Medium.state c.args.medium.now in
    let image = c.args.image.now in
    lies_still s.writable (g.M.Medium.state c.write_at.new.self).writable 0 s.size 0 (length (front_of image)) c.write_at.ensures.moments.writable
    (omega arith) (omega (arith, length_front image c.requires.least, c.requires.least, c.requires.most)) c.requires.writable

pub returns-in_err-write_at-2-clause-moments : goal.returns-in_err-write_at-2-clause-moments
returns-in_err-write_at-2-clause-moments g c =
    let image = c.args.image.now in
    let whole = g.met.M.Medium.coherent c.args.medium.now in
    old_aside whole (goes_by typeless
    (weaken c.write_at.ensures.moments (λ x d told part. first_write image x c.requires.least (omega (arith, c.requires.most, whole.sized x told)) d part))
    c.in_ok-write_at.ensures.written c.write_at-2.ensures.moments
    (λ x d told part. inr (second_write image x c.requires.least (omega (arith, c.requires.most, whole.sized x told)) d part)))

pub write_at-requires-3-clause-writable : goal.write_at-requires-3-clause-writable
write_at-requires-3-clause-writable g c =
    let s = g.M.Medium.state c.args.medium.now in
    let image = c.args.image.now in
    lies_still s.writable (g.M.Medium.state c.write_at-2.new.self).writable 0 s.size 34 (length (back_of image)) (c.write_at-2.ensures.moments.writable ∙ c.write_at.ensures.moments.writable)
    (omega arith) (omega (arith, length_back image c.requires.least, c.requires.least, c.requires.most)) c.requires.writable

pub returns-in_err-write_at-3-clause-moments : goal.returns-in_err-write_at-3-clause-moments
returns-in_err-write_at-3-clause-moments g c =
    let image = c.args.image.now in
    let old = (g.M.Medium.state c.args.medium.now).image in
    let whole = g.met.M.Medium.coherent c.args.medium.now in
    let two = image_then old _ _ typeless (put 0 (front_of image)) c.in_ok-write_at.ensures.written c.in_ok-write_at-2.ensures.written in
    old_aside whole (goes_by (with_front image)
    (goes_by typeless
    (weaken c.write_at.ensures.moments (λ x d told part. first_write image x c.requires.least (omega (arith, c.requires.most, whole.sized x told)) d part))
    c.in_ok-write_at.ensures.written c.write_at-2.ensures.moments
    (λ x d told part. inr (second_write image x c.requires.least (omega (arith, c.requires.most, whole.sized x told)) d part)))
    two c.write_at-3.ensures.moments
    (λ x d told part. inr (third_write image x c.requires.least (omega (arith, c.requires.most, whole.sized x told)) d part)))

pub write_at-requires-4-clause-writable : goal.write_at-requires-4-clause-writable
write_at-requires-4-clause-writable g c =
    let s = g.M.Medium.state c.args.medium.now in
    let image = c.args.image.now in
    lies_still s.writable (g.M.Medium.state c.write_at-3.new.self).writable 0 s.size 33 (length (type_of image))
    (c.write_at-3.ensures.moments.writable ∙ c.write_at-2.ensures.moments.writable ∙ c.write_at.ensures.moments.writable)
    (omega arith) (omega (arith, length_type image c.requires.least, c.requires.least, c.requires.most)) c.requires.writable

pub returns-clause-moments : goal.returns-clause-moments
returns-clause-moments g c =
    let image = c.args.image.now in
    let old = (g.M.Medium.state c.args.medium.now).image in
    let whole = g.met.M.Medium.coherent c.args.medium.now in
    let two = image_then old _ _ typeless (put 0 (front_of image)) c.in_ok-write_at.ensures.written c.in_ok-write_at-2.ensures.written in
    let three = image_then old _ _ (with_front image) (put 34 (back_of image)) two c.in_ok-write_at-3.ensures.written in
    old_aside whole (goes_by (with_back image)
    (goes_by (with_front image)
    (goes_by typeless
    (weaken c.write_at.ensures.moments (λ x d told part. first_write image x c.requires.least (omega (arith, c.requires.most, whole.sized x told)) d part))
    c.in_ok-write_at.ensures.written c.write_at-2.ensures.moments
    (λ x d told part. inr (second_write image x c.requires.least (omega (arith, c.requires.most, whole.sized x told)) d part)))
    two c.write_at-3.ensures.moments
    (λ x d told part. inr (third_write image x c.requires.least (omega (arith, c.requires.most, whole.sized x told)) d part)))
    three c.write_at-4.ensures.moments
    (λ x d told part. inr (fourth_write image x c.requires.least (omega (arith, c.requires.most, whole.sized x told)) d part)))

pub returns-clause-written : goal.returns-clause-written
returns-clause-written g c =
    let image = c.args.image.now in
    let old = (g.M.Medium.state c.args.medium.now).image in
    let whole = g.met.M.Medium.coherent c.args.medium.now in
    let two = image_then old _ _ typeless (put 0 (front_of image)) c.in_ok-write_at.ensures.written c.in_ok-write_at-2.ensures.written in
    let three = image_then old _ _ (with_front image) (put 34 (back_of image)) two c.in_ok-write_at-3.ensures.written in
    on_ok_weaker c.write_at-4.result (λ last. image_both old _ _ (with_back image) (put 33 (type_of image)) (put 0 image) three last
    (λ x told. issued image x c.requires.least (omega (arith, c.requires.most, whole.sized x told)))) c.write_at-4.ensures.written

pub returns-clause-clock : goal.returns-clause-clock
returns-clause-clock g c = on_ok_weaker c.write_at-4.result (λ rose. omega (
  arith,
  rose (omega (arith, length_type c.args.image.now c.requires.least)),
  c.write_at.ensures.moments.later,
  c.write_at-2.ensures.moments.later,
  c.write_at-3.ensures.moments.later,
)) c.write_at-4.ensures.clock

pub returns-clause-settled : goal.returns-clause-settled
returns-clause-settled g c = on_ok_weaker c.write_at-4.result (λ settled. settled (omega (arith, length_type c.args.image.now c.requires.least))) c.write_at-4.ensures.settled

-- ---- its writes

pub returns-in_err-write_at-clause-few : goal.returns-in_err-write_at-clause-few
returns-in_err-write_at-clause-few g c =
    let one : (g.M.Medium.state c.write_at.new.self).clock ≤ (g.M.Medium.state c.args.medium.now).clock + 1 = c.write_at.ensures.few in
    omega (arith, one)

pub returns-in_err-write_at-2-clause-few : goal.returns-in_err-write_at-2-clause-few
returns-in_err-write_at-2-clause-few g c =
    let image = c.args.image.now in
    let least = c.requires.least in
    let one : (g.M.Medium.state c.write_at.new.self).clock ≤ (g.M.Medium.state c.args.medium.now).clock + 1 = c.write_at.ensures.few in
    let two : (g.M.Medium.state c.write_at-2.new.self).clock ≤ (g.M.Medium.state c.write_at.new.self).clock + 1 = subst (λ (n : ℕ). (g.M.Medium.state c.write_at-2.new.self).clock ≤ (g.M.Medium.state c.write_at.new.self).clock + most_writes n) (length_front image least) c.write_at-2.ensures.few in
    omega (arith, one, two)

pub returns-in_err-write_at-3-clause-few : goal.returns-in_err-write_at-3-clause-few
returns-in_err-write_at-3-clause-few g c =
    let image = c.args.image.now in
    let least = c.requires.least in
    let one : (g.M.Medium.state c.write_at.new.self).clock ≤ (g.M.Medium.state c.args.medium.now).clock + 1 = c.write_at.ensures.few in
    let two : (g.M.Medium.state c.write_at-2.new.self).clock ≤ (g.M.Medium.state c.write_at.new.self).clock + 1 = subst (λ (n : ℕ). (g.M.Medium.state c.write_at-2.new.self).clock ≤ (g.M.Medium.state c.write_at.new.self).clock + most_writes n) (length_front image least) c.write_at-2.ensures.few in
    let three : (g.M.Medium.state c.write_at-3.new.self).clock ≤ (g.M.Medium.state c.write_at-2.new.self).clock + most_writes (length image - 34) = subst (λ (n : ℕ). (g.M.Medium.state c.write_at-3.new.self).clock ≤ (g.M.Medium.state c.write_at-2.new.self).clock + most_writes n) (length_back image least) c.write_at-3.ensures.few in
    omega (arith, least, one, two, three)

pub returns-clause-few : goal.returns-clause-few
returns-clause-few g c =
    let image = c.args.image.now in
    let least = c.requires.least in
    let one : (g.M.Medium.state c.write_at.new.self).clock ≤ (g.M.Medium.state c.args.medium.now).clock + 1 = c.write_at.ensures.few in
    let two : (g.M.Medium.state c.write_at-2.new.self).clock ≤ (g.M.Medium.state c.write_at.new.self).clock + 1 = subst (λ (n : ℕ). (g.M.Medium.state c.write_at-2.new.self).clock ≤ (g.M.Medium.state c.write_at.new.self).clock + most_writes n) (length_front image least) c.write_at-2.ensures.few in
    let three : (g.M.Medium.state c.write_at-3.new.self).clock ≤ (g.M.Medium.state c.write_at-2.new.self).clock + most_writes (length image - 34) = subst (λ (n : ℕ). (g.M.Medium.state c.write_at-3.new.self).clock ≤ (g.M.Medium.state c.write_at-2.new.self).clock + most_writes n) (length_back image least) c.write_at-3.ensures.few in
    let four : (g.M.Medium.state c.write_at-4.new.self).clock ≤ (g.M.Medium.state c.write_at-3.new.self).clock + 1 = subst (λ (n : ℕ). (g.M.Medium.state c.write_at-4.new.self).clock ≤ (g.M.Medium.state c.write_at-3.new.self).clock + most_writes n) (length_type image least) c.write_at-4.ensures.few in
    omega (arith, least, one, two, three, four)
