use Rattle.std.proofs.Common.{◌≡◌, ◌∙◌, ℕ, ◌+◌, List, [], ◌∷◌, ◌++◌, length, ap, sym, append_assoc, length-append}
use Rattle.std.specs.Prelude.{map, slice_index_or, slice_set}
use Rattle.std.proofs.lemmas.List.{map-append, length-map}
use Rattle.log_model.specs.declared.lines.Break.{Break}
use Rattle.run_outcome.specs.Lines.{with_kept}
use Rattle.run_outcome.proofs.Seams.{at-seam, set-seam, first-left}
use Rattle.run_outcome.proofs.lines.find_kept.Goals as goal

pub loop-i-preserved : goal.loop-i-preserved
loop-i-preserved c =
    let v = c.loop-i.invariant in
    let front = v.0 in
    let f = first-left v.0 v.1 c.args.breaks.now c.loop-i.i v.2 v.3 c.loop-i-test.true in
    let done : List Break = map (with_kept c.args.kept) front in
    let here : c.loop-i.breaks ≡ done ++ f.0 ∷ f.1 = v.4 ∙ ap (λ (ys : List Break). done ++ ys) f.2 in
    let long : length done ≡ c.loop-i.i = length-map front (with_kept c.args.kept) ∙ v.3 in
    let now = c.found_kept.ensures ∙ ap (with_kept c.args.kept) (ap (λ (ys : List Break). slice_index_or ys c.loop-i.i _) here ∙ at-seam done f.1 f.0 _ c.loop-i.i long) in
    let set : slice_set c.loop-i.breaks c.loop-i.i c.found_kept.result ≡ map (with_kept c.args.kept) (front ++ f.0 ∷ []) ++ f.1 =
    ap (λ (ys : List Break). slice_set ys c.loop-i.i c.found_kept.result) here
    ∙ set-seam done f.1 f.0 c.found_kept.result c.loop-i.i long
    ∙ ap (λ (x : Break). done ++ x ∷ f.1) now
    ∙ sym (append_assoc done (with_kept c.args.kept f.0 ∷ []) f.1)
    ∙ ap (λ (ys : List Break). ys ++ f.1) (sym (map-append (with_kept c.args.kept) front (f.0 ∷ []))) in
    (front ++ f.0 ∷ [], f.1, v.2 ∙ ap (λ (ys : List Break). front ++ ys) f.2 ∙ sym (append_assoc front (f.0 ∷ []) f.1), length-append front (f.0 ∷ []) ∙ ap (λ (k : ℕ). k + 1) v.3, set)
