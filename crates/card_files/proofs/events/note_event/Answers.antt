use Rattle.std.proofs.lemmas.Grind.{common_steps}
use Rattle.std.proofs.Common.{◌≡◌, ◌≢◌, ◌≤◌, length, rules, refl, ◌∙◌, sym, arith, subst}
use Rattle.tach_media.proofs.Runs.{after_reads, weaken, at_image}
use Rattle.gated_ring.specs.Ring.{Shape, gate_number}
use Rattle.card_files.specs.Rings.{event_ring}
use Rattle.card_files.specs.Noting.{TakesPlace}
use Rattle.card_files.proofs.Sets.{set_fits, set_writable, event_opens, as_event}
use Rattle.card_files.proofs.events.note_event.Goals as goal

pub put_at-requires-clause-fits : goal.put_at-requires-clause-fits
put_at-requires-clause-fits g c = set_fits c.args.app.now c.args.event.now.kind c.event_ring.result c.event_ring.ensures _ (omega (arith, c.requires.fits, c.in_ok-index.ensures.reads.leaves.size))

pub put_at-requires-clause-writable : goal.put_at-requires-clause-writable
put_at-requires-clause-writable g c =
    let len : length c.write_event.new.out ≡ 24 = search rules in
    let few : length c.write_event.new.out ≤ 24 = omega (arith, len) in
    set_writable c.args.app.now c.args.event.now.kind c.event_ring.result c.event_ring.ensures _ _ c.in_ok-index.index _ c.in_ok-index.ensures.reads.leaves.writable c.in_ok-index.ensures.below few c.requires.writable

pub put_at-requires-clause-head : goal.put_at-requires-clause-head
put_at-requires-clause-head g c = record {
  gate = first_of (search rules, grind (arith, common_steps));
  width = first_of (search rules, grind (arith, common_steps));
  short = first_of (search rules, grind (arith, common_steps));
  opens =
      let is = event_opens c.args.event.now c.write_event.new.out c.write_event.ensures.reads_back in
      subst (λ (s : Shape). gate_number s c.write_event.new.out ≢ 0) (sym c.event_ring.ensures) (λ zero. c.requires.begin (sym is ∙ zero));
}

pub returns-clause-moments : goal.returns-clause-moments
returns-clause-moments g c =
    let reads = c.in_ok-index.ensures.reads in
    let app = c.args.app.now in
    let e = c.args.event.now in
    weaken (after_reads reads.leaves (reads.same refl) c.put_at.ensures.alters.moments) (λ x y was entry.
    record {
      place = c.in_ok-index.index;
      takes = at_image (λ x. TakesPlace (event_ring app e.kind) x c.in_ok-index.index) was c.in_ok-index.ensures.takes;
      entry = as_event app e c.event_ring.result c.write_event.new.out c.in_ok-index.index x y c.event_ring.ensures c.write_event.ensures.bytes entry;
    })
