use Rattle.std.proofs.Common.{◌≡◌, ◌≤◌, ◌∙◌, ℕ, ◌+◌, List, [], ◌∷◌, ◌++◌, true, false, Some, take, refl, ap, sym, subst, arith}
use Rattle.std.specs.Prelude.{slice_get, count_by}
use Rattle.std.specs.Io.KnownBytes.{Appends}
use Rattle.std.proofs.KnownBytes.{Appends-nil, Appends-trans}
use Rattle.std.proofs.lemmas.List.{take_more, take_all}
use Rattle.std.proofs.lemmas.List.Sums.{count_by_more_yes, count_by_more_no}
use Rattle.std.proofs.lemmas.Option.{slice_get_within, get_or_from_slice_get}
use Rattle.log_model.specs.declared.lines.Break.{Break}
use Rattle.failure_lines.specs.Failures.{IsBreakLine, AreTold, is_failed}
use Rattle.failure_lines.proofs.More.{told_more}
use Rattle.failure_lines.proofs.lines.put_lines.Goals.{then-is_failed, else-is_failed}
use Rattle.failure_lines.proofs.lines.put_lines.Goals as goal

-- one break more
one_more : (breaks : List Break) (i : ℕ) (b : Break) (text line : List ℕ) → slice_get breaks i ≡ Some b → AreTold (take i breaks) text → IsBreakLine b line → AreTold (take (i + 1) breaks) (text ++ line)
one_more breaks i b text line here is told =
    subst (λ (bs : List Break). AreTold bs (text ++ line)) (sym (take_more breaks i b (slice_get_within breaks i b here)))
    (subst (λ (x : Break). AreTold (take i breaks ++ x ∷ []) (text ++ line)) (sym (get_or_from_slice_get breaks i b b here)) (told_more (take i breaks) b text line is told))

yes_more : (breaks : List Break) (i : ℕ) (b : Break) → slice_get breaks i ≡ Some b → is_failed b ≡ true → count_by is_failed (take (i + 1) breaks) ≡ count_by is_failed (take i breaks) + 1
yes_more breaks i b here is = count_by_more_yes is_failed breaks i b (slice_get_within breaks i b here) (ap is_failed (get_or_from_slice_get breaks i b b here) ∙ is)

no_more : (breaks : List Break) (i : ℕ) (b : Break) → slice_get breaks i ≡ Some b → is_failed b ≡ false → count_by is_failed (take (i + 1) breaks) ≡ count_by is_failed (take i breaks)
no_more breaks i b here is = count_by_more_no is_failed breaks i b (slice_get_within breaks i b here) (ap is_failed (get_or_from_slice_get breaks i b b here) ∙ is)

pub loop-i-init : goal.loop-i-init
loop-i-init g c = record { few = omega arith; counted = refl; told = ([], refl, Appends-nil (g.K.Sink.held c.args.sink.now)); later = omega arith }

pub loop-i-preserved : goal.loop-i-preserved
loop-i-preserved g c =
    let v = c.loop-i.invariant in
    let told : (text : List ℕ) × AreTold (take (c.loop-i.i + 1) c.args.breaks.now.items) text × Appends (g.K.Sink.held c.args.sink.now) (g.K.Sink.held c.put_all.new.sink) text = (
      v.told.0 ++ c.failure_line.result.items,
      one_more c.args.breaks.now.items c.loop-i.i c.get-line.result.now v.told.0 c.failure_line.result.items c.get-line.ensures v.told.1 c.failure_line.ensures,
      Appends-trans (g.K.Sink.held c.args.sink.now) (g.K.Sink.held c.loop-i.sink) (g.K.Sink.held c.put_all.new.sink) v.told.0 c.failure_line.result.items v.told.2
          (subst (λ (l : List ℕ). Appends (g.K.Sink.held c.loop-i.sink) (g.K.Sink.held c.put_all.new.sink) l) c.as_slice.ensures.value c.in_ok-put_all.ensures.ok),
    ) in
    let later : g.K.Sink.faults c.args.sink.now ≤ g.K.Sink.faults c.put_all.new.sink = omega (arith, v.later, c.in_ok-put_all.ensures.cause.later) in
    elim c.if-is_failed.branch [
      | then-is_failed w ↦
          let more = yes_more c.args.breaks.now.items c.loop-i.i c.get-line.result.now c.get-line.ensures (sym c.is_failed.ensures ∙ w.if-is_failed.true) in
          record { few = omega (arith, w.failed-is, v.few); counted = omega (arith, w.failed-is, v.counted, more); told = told; later = later }
      | else-is_failed w ↦
          let more = no_more c.args.breaks.now.items c.loop-i.i c.get-line.result.now c.get-line.ensures (sym c.is_failed.ensures ∙ w.if-is_failed.false) in
          record { few = omega (arith, w.failed-is, v.few); counted = omega (arith, w.failed-is, v.counted, more); told = told; later = later }
    ]

pub returns-clause-told : goal.returns-clause-told
returns-clause-told g c =
    let v = c.loop-i.invariant in
    let all : take c.loop-i.i c.args.breaks.now.items ≡ c.args.breaks.now.items = take_all c.loop-i.i c.args.breaks.now.items (omega arith) in
    (v.counted ∙ ap (λ (bs : List Break). count_by is_failed bs) all, (v.told.0, subst (λ (bs : List Break). AreTold bs v.told.0) all v.told.1, v.told.2))
