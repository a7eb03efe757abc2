-- A unit file does not fail: its messages stand in one way.
use Rattle.std.proofs.Common.{◌≡◌, ◌∙◌, ℕ, suc, List, [], ◌∷◌, ◌++◌, length, map, refl, ap, sym, subst, arith, All, append_assoc, append-nil}
use Rattle.card_layout.specs.Fields.{joined}
use Rattle.message_model.specs.Messages.{Message, message_bytes, IsMessage, IsUnitFile}
use Rattle.message_model.proofs.Reading.{one_way}
use Rattle.file_view.specs.UnitFiles.{IsBadUnitFile}

all_rest : (m : Message) (ms : List Message) → All IsMessage (m ∷ ms) → All IsMessage ms
all_rest m ms all = λ k d low. all (suc k) d (omega (arith, low))

-- what follows some messages that the same bytes begin with
record Goes (E F : List Message) (rest : List ℕ) : Type 0 where
  more : List Message
  split : E ≡ F ++ more
  spelled : joined (map message_bytes more) ≡ rest

goes : (E F : List Message) (rest : List ℕ) → All IsMessage E → All IsMessage F → joined (map message_bytes E) ≡ joined (map message_bytes F) ++ rest → Goes E F rest
goes E [] rest ie if_ is = record { more = E; split = refl; spelled = is }
goes [] (f ∷ fs) rest ie if_ is = absurd (cc)
goes (e ∷ es) (f ∷ fs) rest ie if_ is =
    let same = one_way e f (joined (map message_bytes es)) (joined (map message_bytes fs) ++ rest) (ie 0 e (omega arith)) (if_ 0 f (omega arith)) (is ∙ append_assoc (message_bytes f) (joined (map message_bytes fs)) rest) in
    let g = goes es fs rest (all_rest e es ie) (all_rest f fs if_) same.1 in
    record { more = g.more; split = (λ t. same.0 t ∷ g.split t); spelled = g.spelled }

pub unit_does_not_fail : (messages : List Message) (bytes : List ℕ) (place : ℕ) → IsUnitFile messages bytes → IsBadUnitFile place bytes → ⊥
unit_does_not_fail E bytes place file bad =
    let g = goes E bad.messages bad.rest file.each bad.each (sym file.spelled ∙ bad.spelled) in
    by g.more g.split g.spelled
  where
    by : (more : List Message) → E ≡ bad.messages ++ more → joined (map message_bytes more) ≡ bad.rest → ⊥
    by [] split spelled =
        let none : E ≡ [] = split ∙ append-nil bad.messages ∙ bad.stands (sym spelled) in
        absurd (omega (arith, file.some, ap (λ (l : List Message). length l) none))
    by (x ∷ xs) split spelled = bad.stuck x (joined (map message_bytes xs)) (middle bad.messages (subst (All IsMessage) split file.each)) (sym spelled)
      where
        middle : (F : List Message) → All IsMessage (F ++ x ∷ xs) → IsMessage x
        middle [] all = all 0 x (omega arith)
        middle (f ∷ F) all = middle F (all_rest f (F ++ x ∷ xs) all)
