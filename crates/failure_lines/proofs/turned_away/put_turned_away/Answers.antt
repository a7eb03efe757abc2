use Rattle.std.proofs.Common.{◌≡◌, ℕ, ◌+◌, List, [], ◌∷◌, ◌++◌, Some, take, refl, sym, subst, arith}
use Rattle.std.specs.Prelude.{slice_get}
use Rattle.std.specs.Io.KnownBytes.{Appends}
use Rattle.std.proofs.KnownBytes.{Appends-nil, Appends-trans}
use Rattle.std.proofs.lemmas.List.{take_more, take_all}
use Rattle.std.proofs.lemmas.Option.{slice_get_within, get_or_from_slice_get}
use Rattle.log_model.specs.declared.lines.Find.{Find}
use Rattle.failure_lines.specs.Turned.{IsVerdictLine, AreTurnedLines}
use Rattle.failure_lines.proofs.More.{turned_more}
use Rattle.failure_lines.proofs.turned_away.put_turned_away.Goals as goal

-- one line more
one_more : (all : List Find) (i : ℕ) (x : Find) (text line : List ℕ) → slice_get all i ≡ Some x → AreTurnedLines (take i all) text → IsVerdictLine x.verdict x.slot x.second line → AreTurnedLines (take (i + 1) all) (text ++ line)
one_more all i x text line here is told =
    subst (λ (xs : List Find). AreTurnedLines xs (text ++ line)) (sym (take_more all i x (slice_get_within all i x here)))
    (subst (λ (y : Find). AreTurnedLines (take i all ++ y ∷ []) (text ++ line)) (sym (get_or_from_slice_get all i x x here)) (turned_more (take i all) x text line is told))

pub loop-i-init : goal.loop-i-init
loop-i-init g c = record { told = ([], refl, Appends-nil (g.K.Sink.held c.args.sink.now)); later = omega arith }

pub loop-i-preserved : goal.loop-i-preserved
loop-i-preserved g c =
    let v = c.loop-i.invariant in
    record {
      told = (
        v.told.0 ++ c.verdict_line.result.items,
        one_more c.args.finds.now.items c.loop-i.i c.get-find.result.now v.told.0 c.verdict_line.result.items c.get-find.ensures v.told.1 c.verdict_line.ensures,
        Appends-trans (g.K.Sink.held c.args.sink.now) (g.K.Sink.held c.loop-i.sink) (g.K.Sink.held c.put_all.new.sink) v.told.0 c.verdict_line.result.items v.told.2
            (subst (λ (l : List ℕ). Appends (g.K.Sink.held c.loop-i.sink) (g.K.Sink.held c.put_all.new.sink) l) c.as_slice.ensures.value c.in_ok-put_all.ensures.ok),
      );
      later = omega (arith, v.later, c.in_ok-put_all.ensures.cause.later);
    }

pub returns-clause-told : goal.returns-clause-told
returns-clause-told g c =
    let v = c.loop-i.invariant.told in
    let all : take c.loop-i.i c.args.finds.now.items ≡ c.args.finds.now.items = take_all c.loop-i.i c.args.finds.now.items (omega arith) in
    (v.0, subst (λ (xs : List Find). AreTurnedLines xs v.0) all v.1, v.2)
