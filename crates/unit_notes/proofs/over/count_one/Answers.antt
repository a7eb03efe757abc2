use Rattle.std.proofs.Common.{◌≡◌, refl, sym, ◌∙◌, arith}
use Rattle.tach_media.proofs.Runs.{after_reads, weaken, at_image}
use Rattle.card_layout.specs.Images.{number_at}
use Rattle.unit_notes.specs.Noting.{with_one_more}
use Rattle.unit_notes.proofs.Counting.{count_turned, four_bytes, four_writable, turned_whole, image_as}
use Rattle.unit_notes.proofs.over.count_one.Goals as goal

pub write_at-requires-clause-writable : goal.write_at-requires-clause-writable
write_at-requires-clause-writable g c = four_writable (g.M.Medium.state c.args.unit.now).writable _ 576 _ c.to_be_bytes.result c.to_be_bytes.ensures c.in_ok-count.ensures.reads.leaves.writable (omega arith) c.requires.unit.writable

pub returns-in_err-write_at-clause-moments : goal.returns-in_err-write_at-clause-moments
returns-in_err-write_at-clause-moments g c =
    let reads = c.in_ok-count.ensures.reads in
    let n = c.in_ok-count.count in
    after_reads reads.leaves (reads.same refl) (weaken c.write_at.ensures.moments (λ x d is partly.
    turned_whole with_one_more 576 c.to_be_bytes.result x d (omega (arith, four_bytes _ c.to_be_bytes.result c.to_be_bytes.ensures))
    (count_turned n c.to_be_bytes.result x c.to_be_bytes.ensures (at_image (λ z. n ≡ number_at z 576 4) (sym (reads.same refl) ∙ is) c.in_ok-count.ensures.value) c.if-count-lt-MOST_OVERS.true) partly))

pub returns-in_ok-write_at-clause-moments : goal.returns-in_ok-write_at-clause-moments
returns-in_ok-write_at-clause-moments g c =
    let reads = c.in_ok-count.ensures.reads in
    let n = c.in_ok-count.count in
    after_reads reads.leaves (reads.same refl) (weaken c.write_at.ensures.moments (λ x d is partly.
    turned_whole with_one_more 576 c.to_be_bytes.result x d (omega (arith, four_bytes _ c.to_be_bytes.result c.to_be_bytes.ensures))
    (count_turned n c.to_be_bytes.result x c.to_be_bytes.ensures (at_image (λ z. n ≡ number_at z 576 4) (sym (reads.same refl) ∙ is) c.in_ok-count.ensures.value) c.if-count-lt-MOST_OVERS.true) partly))

pub returns-in_ok-write_at-clause-written : goal.returns-in_ok-write_at-clause-written
returns-in_ok-write_at-clause-written g c =
    let reads = c.in_ok-count.ensures.reads in
    let n = c.in_ok-count.count in
    image_as (g.M.Medium.state c.args.unit.now).image _ _ _ with_one_more (reads.same refl) c.in_ok-write_at.ensures.written
    (λ x was. count_turned n c.to_be_bytes.result x c.to_be_bytes.ensures (at_image (λ z. n ≡ number_at z 576 4) was c.in_ok-count.ensures.value) c.if-count-lt-MOST_OVERS.true)
