use Rattle.std.proofs.Common.{◌+◌, ◌≤◌, ⊎_elim, inl, inr, List, ℕ, length, refl, sym, subst, arith}
use Rattle.tach_media.specs.Medium.{IsPartlyWritten, put}
use Rattle.tach_media.proofs.Images.{put_outside}
use Rattle.tach_media.proofs.Ranges.{lies_part, lies_still}
use Rattle.tach_media.proofs.Runs.{weaken, goes_by}
use Rattle.worked_devices.proofs.media_tests.put_marked.Goals as goal

pub write_at-requires-clause-writable : goal.write_at-requires-clause-writable
write_at-requires-clause-writable g c = lies_part _ c.args.place (4 + length c.args.value.now) _ _ (omega arith) (omega arith) c.requires.writable

pub write_at-requires-2-clause-writable : goal.write_at-requires-2-clause-writable
write_at-requires-2-clause-writable g c =
    lies_still _ _ c.args.place (4 + length c.args.value.now) _ _ c.in_ok-write_at.ensures.moments.writable (omega arith) (omega (arith, c.fits-mark)) c.requires.writable

pub returns-clause-moments : goal.returns-clause-moments
returns-clause-moments g c =
    let place = c.args.place in
    let mark = c.args.mark.now in
    let value = c.args.value.now in
    let few : length mark ≤ 4 = omega (arith, c.fits-mark) in
    goes_by (put (place + 4) value) (weaken c.write_at.ensures.moments (λ x d was part. inl part)) c.in_ok-write_at.ensures.written c.write_at-2.ensures.moments (λ x d was part.
    ⊎_elim (λ same. inl (subst (λ (l : List ℕ). IsPartlyWritten (place + 4) value x l) (sym same)
    (record { outside = put_outside (place + 4) value x (omega (arith, c.requires.inside, (g.met.M.Medium.coherent c.args.medium.now).sized x was)); whole = λ small. inr refl })))
    inr (part.whole few))
