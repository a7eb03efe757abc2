use Rattle.std.proofs.Common.{◌≡◌, ◌+◌, ◌≤◌, length, Some, sym, ◌∙◌, subst, ap, rules, arith}
use Rattle.std.proofs.lemmas.Grind.{common_steps}
use Rattle.tach_media.specs.Medium.{put, KeepsBroken}
use Rattle.tach_media.specs.Log.{History, image_of, image_left, add}
use Rattle.tach_media.specs.MemMedium.{MemView, memory_state}
use Rattle.tach_media.specs.declared.log.Left.{Left}
use Rattle.tach_media.specs.declared.log.Left.TheVariants.{After}
use Rattle.tach_media.proofs.MemoryLaws.{writes_seen, image_added, settles, write_stays, write_counted}
use Rattle.tach_media.proofs.mem_medium.MemMediumMedium.write_at.Goals as goal

pub returns-then-is_some-clause-moments : goal.returns-then-is_some-clause-moments
returns-then-is_some-clause-moments c =
    let begun = c.write-begun.ensures in
    writes_seen c.args.self.now.log c.self.inside.log c.write-begun.new.self c.args.place c.unwrap_or-left.result c.self.inside.counts.breakdowns c.args.bytes.now c.write-begun.result (ap (λ (m : MemView). m.log) c.self.view_is)
    begun.whole begun.bytes c.requires.inside begun.begun begun.full c.args.self.now.counts c.fail-then-is_some.new.self

pub returns-clause-moments : goal.returns-clause-moments
returns-clause-moments c =
    let begun = c.write-begun.ensures in
    writes_seen c.args.self.now.log c.self.inside.log c.write-begun.new.self c.args.place c.unwrap_or-left.result c.self.inside.counts.breakdowns c.args.bytes.now c.write-begun.result (ap (λ (m : MemView). m.log) c.self.view_is)
    begun.whole begun.bytes c.requires.inside begun.begun begun.full c.args.self.now.counts c.self.inside.counts

pub returns-clause-written : goal.returns-clause-written
returns-clause-written c =
    let left : c.unwrap_or-left.result ≡ After = search rules in
    let same = ap (λ (m : MemView). m.log) c.self.view_is in
    let h = c.self.inside.log in
    let inside : c.args.place + length c.args.bytes.now ≤ length (image_of h) = subst (λ (x : History). c.args.place + length c.args.bytes.now ≤ length (image_of x)) (sym same) c.requires.inside in
    let begun : c.write-begun.new.self ≡ add h c.args.place c.unwrap_or-left.result c.self.inside.counts.breakdowns c.args.bytes.now = search rules in
    let added = image_added h c.args.place c.unwrap_or-left.result c.self.inside.counts.breakdowns c.args.bytes.now c.write-begun.ensures.whole inside in
    ap Some (ap image_of begun ∙ added ∙ ap (λ (l : Left). image_left l c.args.place c.args.bytes.now (image_of h)) left ∙ ap (λ (x : History). put c.args.place c.args.bytes.now (image_of x)) same)

pub returns-clause-settled : goal.returns-clause-settled
returns-clause-settled c some small = settles c.write-begun.new.self c.self.inside.counts

pub invariant_of-self-else-not-begun : goal.invariant_of-self-else-not-begun
invariant_of-self-else-not-begun c =
    let begun = c.write-begun.ensures in
    write_counted c.self.inside.log c.write-begun.new.self c.args.place c.unwrap_or-left.result c.args.bytes.now c.write-begun.result c.self.inside.counts c.self.inside.counts c.self.invariant begun.begun begun.full (omega arith)

pub invariant_of-self-then-is_some : goal.invariant_of-self-then-is_some
invariant_of-self-then-is_some c =
    let begun = c.write-begun.ensures in
    write_counted c.self.inside.log c.write-begun.new.self c.args.place c.unwrap_or-left.result c.args.bytes.now c.write-begun.result c.self.inside.counts c.fail-then-is_some.new.self c.self.invariant begun.begun begun.full (c.fail-then-is_some.ensures.later_breakdowns)

pub returns-then-is_some-clause-cause : goal.returns-then-is_some-clause-cause
returns-then-is_some-clause-cause c =
    let begun = c.write-begun.ensures in
    record {
      works = first_of (search rules, grind (arith, common_steps));
      broken = first_of (search rules, grind (arith, common_steps));
      faults = first_of (search rules, grind (arith, common_steps));
      fault = first_of (search rules, grind (arith, common_steps));
      breakdowns = first_of (search rules, grind (arith, common_steps));
      breaks = first_of (search rules, grind (arith, common_steps));
      unbroken = first_of (search rules, grind (arith, common_steps));
      already = first_of (search rules, grind (arith, common_steps));
      once = first_of (search rules, grind (arith, common_steps));
      tells = subst (λ (m : MemView). KeepsBroken (memory_state m.log m.counts) (memory_state c.write-begun.new.self c.fail-then-is_some.new.self)) c.self.view_is
          (write_stays c.self.inside.log c.write-begun.new.self c.args.place c.unwrap_or-left.result c.args.bytes.now c.write-begun.result c.self.inside.counts c.fail-then-is_some.new.self c.self.invariant begun.begun begun.full);
    }

pub returns-clause-cause : goal.returns-clause-cause
returns-clause-cause c =
    let begun = c.write-begun.ensures in
    record {
      works = first_of (search rules, grind (arith, common_steps));
      broken = first_of (search rules, grind (arith, common_steps));
      faults = first_of (search rules, grind (arith, common_steps));
      fault = first_of (search rules, grind (arith, common_steps));
      breakdowns = first_of (search rules, grind (arith, common_steps));
      breaks = first_of (search rules, grind (arith, common_steps));
      unbroken = first_of (search rules, grind (arith, common_steps));
      already = first_of (search rules, grind (arith, common_steps));
      once = first_of (search rules, grind (arith, common_steps));
      tells = subst (λ (m : MemView). KeepsBroken (memory_state m.log m.counts) (memory_state c.write-begun.new.self c.self.inside.counts)) c.self.view_is
          (write_stays c.self.inside.log c.write-begun.new.self c.args.place c.unwrap_or-left.result c.args.bytes.now c.write-begun.result c.self.inside.counts c.self.inside.counts c.self.invariant begun.begun begun.full);
    }
