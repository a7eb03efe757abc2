use Rattle.std.proofs.Common.{rules, ◌≡◌, ℕ, ◌+◌, ◌-◌, ◌≤◌, true, is_err, length, take, drop, arith, ◌∙◌, ap, refl}
use Rattle.std.proofs.lemmas.List.{length-take-le}
use Rattle.tach_media.specs.Medium.{put}
use Rattle.tach_media.proofs.Runs.{weaken, goes_by, cause_after, image_both}
use Rattle.tach_media.proofs.Chunks.{chunk_first, chunk_more, chunk_next}
use Rattle.card_commands.proofs.Pieces.{fails}
use Rattle.card_commands.proofs.port.Port.write_all.Goals as goal

pub returns-in_err-write_part-clause-writes : goal.returns-in_err-write_part-clause-writes
returns-in_err-write_part-clause-writes g c =
    let failed : true ≡ is_err c.from_residual.result = search rules in
    let bytes = c.args.bytes.now in
    let place = c.args.place in
    let first = c.min-first.result in
    let part = c.in_err-write_part.ensures.writes in
    fails place bytes _ _ _ failed
    (weaken part.leaves (λ x d was cut. chunk_first place bytes x first d (omega (arith, c.min-first.ensures)) (λ few. omega (arith, c.min-first.ensures, few)) cut)) (omega (arith, part.few, c.min-first.ensures, length-take-le first bytes (omega (arith, c.min-first.ensures)))) part.cause

pub loop-done-init : goal.loop-done-init
loop-done-init g c =
    let bytes = c.args.bytes.now in
    let place = c.args.place in
    let first = c.min-first.result in
    let part = c.in_ok-write_part.ensures.writes in
    record {
      within = omega (arith, c.min-first.ensures);
      long = λ more. omega (arith, c.min-first.ensures, more);
      written = part.written refl;
      moments = weaken part.leaves (λ x d was cut. chunk_first place bytes x first d (omega (arith, c.min-first.ensures)) (λ few. omega (arith, c.min-first.ensures, few)) cut);
      settled = part.settled refl;
      clock = part.clock refl;
      whole = λ more. omega (arith, c.min-first.ensures, more);
      few = omega (arith, part.few, c.min-first.ensures, length-take-le first bytes (omega (arith, c.min-first.ensures)));
      cause = part.cause;
      selected = c.in_ok-write_part.ensures.selected;
      application = c.write_part.ensures.application;
    }

pub returns-in_err-write_part-2-clause-writes : goal.returns-in_err-write_part-2-clause-writes
returns-in_err-write_part-2-clause-writes g c =
    let failed : true ≡ is_err c.from_residual-in_err-write_part-2.result = search rules in
    let bytes = c.args.bytes.now in
    let place = c.args.place in
    let k = c.loop-done.done in
    let m = c.min-next.result - k in
    let was = c.loop-done.invariant in
    let more = c.loop-done-test.true in
    let part = c.in_err-write_part-2.ensures.writes in
    let size = c.args.self.now.sound.size in
    fails place bytes _ _ _ failed
    (goes_by (put place (take k bytes)) was.moments was.written part.leaves (λ x d told cut.
    chunk_next place bytes x k m d (omega (arith, c.min-next.ensures, more)) (omega (arith, was.long more, more)) (omega (arith, c.requires.inside, c.requires.file, size, (g.met.C.Chip.coherent c.args.self.now.chip).sized x told)) cut))
    (omega (arith, part.few, was.few, was.whole more, c.min-next.ensures, more))
    (cause_after was.cause part.cause)

pub loop-done-preserved : goal.loop-done-preserved
loop-done-preserved g c =
    let bytes = c.args.bytes.now in
    let place = c.args.place in
    let k = c.loop-done.done in
    let m = c.min-next.result - k in
    let was = c.loop-done.invariant in
    let more = c.loop-done-test.true in
    let part = c.in_ok-write_part-2.ensures.writes in
    let size = c.args.self.now.sound.size in
    let within : k + m ≤ length bytes = omega (arith, c.min-next.ensures, more) in
    record {
      within = omega (arith, c.min-next.ensures);
      long = λ rest. omega (arith, c.min-next.ensures, rest, more);
      written = image_both _ _ _ (put place (take k bytes)) (put (place + k) (take m (drop k bytes))) (put place (take c.min-next.result bytes)) was.written (part.written refl)
          (λ x told. chunk_more place bytes x k m within (omega (arith, c.requires.inside, c.requires.file, size, (g.met.C.Chip.coherent c.args.self.now.chip).sized x told)) ∙ ap (λ (n : ℕ). put place (take n bytes) x) (omega (arith, c.min-next.ensures, more)));
      moments = goes_by (put place (take k bytes)) was.moments was.written part.leaves (λ x d told cut.
          chunk_next place bytes x k m d within (omega (arith, was.long more, more)) (omega (arith, c.requires.inside, c.requires.file, size, (g.met.C.Chip.coherent c.args.self.now.chip).sized x told)) cut);
      settled = part.settled refl;
      clock = omega (arith, was.clock, part.clock refl);
      whole = λ rest. omega (arith, c.min-next.ensures, rest, more, was.whole more);
      few = omega (arith, part.few, was.few, was.whole more, c.min-next.ensures, more);
      cause = cause_after was.cause part.cause;
      selected = c.in_ok-write_part-2.ensures.selected;
      application = c.write_part-in-loop-done.ensures.application ∙ was.application;
    }
