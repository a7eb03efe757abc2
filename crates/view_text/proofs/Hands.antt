-- The text of entries by hand and of one more, and their days.
use Rattle.std.proofs.Common.{◌≡◌, ◌∙◌, ℕ, suc, zero, ◌<◌, List, [], ◌∷◌, ◌++◌, length, get_or, refl, ap, sym, arith, append_assoc, append-nil}
use Rattle.std.specs.List.{AllByRecursion}
use Rattle.activity_codec.specs.declared.entries.Manual.{Manual}
use Rattle.view_model.specs.Lines.{day_of_minute}
use Rattle.view_text.specs.ByHand.{by_hand_words, IsByHandView, AddsByHand}

-- one more line
pub hands-more : (es : List Manual) (e : Manual) (text new : List ℕ) → IsByHandView es text → AddsByHand text new e → IsByHandView (es ++ e ∷ []) new
hands-more [] e text new is more =
    (more.0, [], more.1, more.2 ∙ ap (λ (t : List ℕ). t ++ more.0 ++ by_hand_words e) is ∙ sym (append-nil (more.0 ++ by_hand_words e)), refl)
hands-more (first ∷ es) e text new is more =
    let joined : new ≡ is.0 ++ by_hand_words first ++ (is.1 ++ more.0 ++ by_hand_words e) = more.2 ∙ ap (λ (t : List ℕ). t ++ more.0 ++ by_hand_words e) is.3 ∙ simp append_assoc in
    (is.0, is.1 ++ more.0 ++ by_hand_words e, is.2, joined, hands-more es e is.1 (is.1 ++ more.0 ++ by_hand_words e) is.4 (more.0, more.1, refl))

-- an entry at an index
pub hand-at : (bound : ℕ) (es : List Manual) (i : ℕ) (d : Manual) → i < length es → AllByRecursion (λ (e : Manual). day_of_minute e.minute < bound) es → day_of_minute (get_or es i d).minute < bound
hand-at bound [] i d lt all = absurd (omega (arith, lt))
hand-at bound (x ∷ es) zero d lt all = all.0
hand-at bound (x ∷ es) (suc i) d lt all = hand-at bound es i d (omega (arith, lt)) all.1
