use Rattle.std.proofs.Common.{◌≡◌, ℕ, List, ◌++◌, length, drop, arith, sym, ◌∙◌, ap, length-append, refl}
use Rattle.std.proofs.lemmas.List.{length-take}
use Rattle.tach_media.specs.Log.{image_left, image_after, bytes_of}
use Rattle.tach_media.specs.LogLaws.{image_kept, bytes_more}
use Rattle.tach_media.specs.declared.log.Entry.{Entry}
use Rattle.tach_media.proofs.log.Log.write.Goals as goal

pub invariant_of-self : goal.invariant_of-self
invariant_of-self c =
    let before = c.self.inside in
    let entry : Entry = record { place = c.args.place; len = length c.args.bytes.now; left = c.args.left; broken = c.args.broken } in
    let same_len : before.image.len ≡ length c.apply.new.image = omega (arith, c.apply.auto.image, c.deref_mut.ensures.len) in
    let applied : c.apply.new.image ≡ image_left c.args.left c.args.place c.args.bytes.now before.image.items = c.apply.ensures ∙ ap (λ (l : List ℕ). image_left c.args.left c.args.place c.args.bytes.now l) c.deref_mut.ensures.value in
    let kept = image_kept before.entries.items entry c.args.bytes.now before.written.items before.start.items before.image.items c.apply.new.image before.image.len same_len applied c.self.invariant.now c.self.invariant.whole refl in
    record {
      now = kept ∙ ap (λ (l : List Entry). image_after l (before.written.items ++ c.args.bytes.now) before.start.items) (sym c.append.ensures.entry)
          ∙ ap (λ (l : List ℕ). image_after c.append.new.log.items l before.start.items) (sym c.append.ensures.bytes);
      whole = ap bytes_of c.append.ensures.entry ∙ bytes_more before.entries.items entry ∙ omega (arith, c.self.invariant.whole, ap length c.append.ensures.bytes, length-append before.written.items c.args.bytes.now);
      short = omega (arith, length-take before.image.len (c.apply.new.image ++ drop (length c.apply.new.image) before.image.items), c.self.invariant.short, c.deref_mut.ensures.len, ap length c.deref_mut.ensures.value);
      entries_fit = omega (arith, c.self.invariant.entries_fit, c.append.ensures.capacity);
      bytes_fit = omega (arith, c.self.invariant.bytes_fit, c.append.ensures.byte_capacity);
    }
