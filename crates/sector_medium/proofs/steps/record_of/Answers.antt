use Rattle.std.proofs.Common.{◌≡◌, ℕ, List, [], ◌∷◌, ◌++◌, length, drop, ◌∙◌, ap}
use Rattle.std.proofs.lemmas.List.{take_at, drop_at, append-nil}
use borrow.Rule.Slice.PartMut.{put_mid}
use Rattle.sector_medium.proofs.steps.record_of.Goals as goal

made : (a b old new : List ℕ) → a ≡ old → b ≡ new → length a ≡ 6 → put_mid 6 6 (a ++ (0 ∷ 0 ∷ 0 ∷ 0 ∷ 0 ∷ 0 ∷ [])) b ≡ old ++ new
made a b old new is_a is_b six =
    ap (λ (l : List ℕ). l ++ (b ++ drop 6 (drop 6 (a ++ (0 ∷ 0 ∷ 0 ∷ 0 ∷ 0 ∷ 0 ∷ []))))) (take_at a (0 ∷ 0 ∷ 0 ∷ 0 ∷ 0 ∷ 0 ∷ []) 6 six)
    ∙ ap (λ (l : List ℕ). a ++ (b ++ drop 6 l)) (drop_at a (0 ∷ 0 ∷ 0 ∷ 0 ∷ 0 ∷ 0 ∷ []) 6 six)
    ∙ ap (λ (l : List ℕ). a ++ l) (append-nil b) ∙ ap (λ (l : List ℕ). l ++ b) is_a ∙ ap (λ (l : List ℕ). old ++ l) is_b

pub returns : goal.returns
returns c = made c.copy_from_slice.new.self c.copy_from_slice-2.new.self c.args.old.now c.args.new.now c.copy_from_slice.ensures.after c.copy_from_slice-2.ensures.after c.copy_from_slice.ensures.len
