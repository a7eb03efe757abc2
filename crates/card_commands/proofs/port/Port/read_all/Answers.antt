use Rattle.std.proofs.Common.{◌≡◌, ℕ, ◌+◌, ◌-◌, ◌≤◌, List, Option, length, take, drop, arith, ◌∙◌, subst, refl, length-drop}
use Rattle.std.specs.Prelude.{IfSome}
use Rattle.std.proofs.lemmas.List.{length-take-le}
use borrow.Rule.Slice.PartMut.{put_mid}
use Rattle.tach_media.specs.Medium.{bytes_at}
use Rattle.tach_media.proofs.Runs.{reads_then, both_told}
use Rattle.card_commands.proofs.Pieces.{read_more}
use Rattle.card_commands.proofs.port.Port.read_all.Goals as goal

pub loop-done-preserved : goal.loop-done-preserved
loop-done-preserved g c =
    let was = c.loop-done.invariant in
    let k = c.loop-done.done in
    let n = c.in_ok-done-2.field-0 in
    let place = c.args.place in
    let out = c.loop-done.out in
    let chunk = c.read_part-in-loop-done.new.out in
    let before = (g.C.Chip.state c.args.self.now.chip).image in
    let whole : length out ≡ length c.args.out.now = c.loop-done.auto.out ∙ c.read_part.auto.out in
    let inside : k ≤ length out = omega (arith, whole, was.within) in
    let chunk_length : length chunk ≡ length out - k = c.read_part-in-loop-done.auto.out ∙ length-take-le (length out - k) (drop k out) (omega (arith, length-drop k out)) in
    let many = c.in_ok-done-2.ensures.many in
    let few : n ≤ length chunk = omega (arith, many.1, c.read_part-in-loop-done.auto.out) in
    let came = subst (λ (o : Option (List ℕ)). IfSome o (λ x. take n chunk ≡ bytes_at x (place + k) n)) (was.reads.same refl) c.in_ok-done-2.ensures.bytes in
    record {
      within = omega (arith, few, chunk_length, inside, whole);
      read = both_told before (λ x. take (k + n) (put_mid k (length out - k) out chunk) ≡ bytes_at x place (k + n)) was.read came (λ x told front next. read_more x out chunk place k n inside chunk_length few front next);
      reads = reads_then was.reads c.in_ok-done-2.ensures.reads;
      application = c.read_part-in-loop-done.ensures.application ∙ was.application;
    }
