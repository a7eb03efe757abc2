-- Notes that entries stand for, in order; and the note of a withdrawal.
use Rattle.std.proofs.Common.{◌≡◌, inl, inr, ℕ, Bool, true, false, cond, not, ◌&&◌, ◌||◌, Some, List, [], ◌∷◌, ◌++◌, refl, ap, sym, subst, ◌∙◌, append-nil}
use Rattle.std.specs.List.{list_any}
use Rattle.gated_ring.specs.Ring.{Shape}
use Rattle.log_model.specs.Slots.{same_card}
use Rattle.note_model.specs.Noted.{InsertionNote, Withdrawal, with_withdrawal}
use Rattle.note_model.specs.Rings.{Stand, AreNoFewer, RingShows}
use Rattle.run_rings.specs.Carried.{RingKeeps}

module _ {N : Type 0} (is_sure : N → Bool) (Is : N → List ℕ → Type 0) where
  -- some notes, and then some
  pub stand-append : (notes more : List N) (entries others : List (List ℕ)) → Stand is_sure Is notes entries → Stand is_sure Is more others → Stand is_sure Is (notes ++ more) (entries ++ others)
  stand-append [] more entries others none h = subst (λ (l : List (List ℕ)). Stand is_sure Is more (l ++ others)) (sym none) h
  stand-append (n ∷ notes) more entries others (inl (e, rest, are, is, stand)) h = inl (e, rest ++ others, ap (λ (l : List (List ℕ)). l ++ others) are, is, stand-append notes more rest others stand h)
  stand-append (n ∷ notes) more entries others (inr (unsure, stand)) h = inr (unsure, stand-append notes more entries others stand h)

  -- one more, for which an entry stands, or which is not sure
  pub stand-one : (notes : List N) (entries : List (List ℕ)) (n : N) (e : List ℕ) → Stand is_sure Is notes entries → Is n e → Stand is_sure Is (notes ++ n ∷ []) (entries ++ e ∷ [])
  stand-one notes entries n e h is = stand-append notes (n ∷ []) entries (e ∷ []) h (inl (e, [], refl, is, refl))

  pub stand-unsure : (notes : List N) (entries : List (List ℕ)) (n : N) → Stand is_sure Is notes entries → is_sure n ≡ false → Stand is_sure Is (notes ++ n ∷ []) entries
  stand-unsure notes entries n h unsure = subst (Stand is_sure Is (notes ++ n ∷ [])) (append-nil entries) (stand-append notes (n ∷ []) entries [] h (inr (unsure, refl)))

  -- so the ring shows them
  pub ring-shows : (r : Shape) (notes : List N) (start x : List ℕ) (more : List (List ℕ)) → RingKeeps r start x more → Stand is_sure Is notes more → AreNoFewer r is_sure notes start x → RingShows r is_sure Is notes start x
  ring-shows r notes start x more h stand few = record { more = more; stand = stand; gone = h.gone; shown = h.shown; full = h.full; few = few }

-- THE LAST INSERTION of a card gets its withdrawal
same-any : (w : Withdrawal) (older : List InsertionNote) (i : InsertionNote) (newer : List InsertionNote) → same_card i.accepted.card w.card ≡ true → list_any (λ (j : InsertionNote). same_card j.accepted.card w.card) (older ++ i ∷ newer) ≡ true
same-any w [] i newer is = ap (λ (b : Bool). b || list_any (λ (j : InsertionNote). same_card j.accepted.card w.card) newer) is
same-any w (j ∷ older) i newer is = by (same_card j.accepted.card w.card) (same-any w older i newer is)
  where
    by : (b : Bool) → list_any (λ (j : InsertionNote). same_card j.accepted.card w.card) (older ++ i ∷ newer) ≡ true → (b || list_any (λ (j : InsertionNote). same_card j.accepted.card w.card) (older ++ i ∷ newer)) ≡ true
    by true rest = refl
    by false rest = rest

pub withdrawal-of-last : (w : Withdrawal) (older : List InsertionNote) (i : InsertionNote) (newer : List InsertionNote) → same_card i.accepted.card w.card ≡ true →
    list_any (λ (j : InsertionNote). same_card j.accepted.card w.card) newer ≡ false → with_withdrawal w (older ++ i ∷ newer) ≡ older ++ record i { withdrawn = Some w.second } ∷ newer
withdrawal-of-last w [] i newer is none = rw is (rw none refl)
withdrawal-of-last w (j ∷ older) i newer is none = by (same_card j.accepted.card w.card) (withdrawal-of-last w older i newer is none)
  where
    by : (b : Bool) → with_withdrawal w (older ++ i ∷ newer) ≡ older ++ record i { withdrawn = Some w.second } ∷ newer → cond (b && not (list_any (λ (k : InsertionNote). same_card k.accepted.card w.card) (older ++ i ∷ newer))) (record j { withdrawn = Some w.second } ∷ (older ++ i ∷ newer)) (j ∷ with_withdrawal w (older ++ i ∷ newer))
        ≡ j ∷ (older ++ record i { withdrawn = Some w.second } ∷ newer)
    by true rest =
        ap (λ (b : Bool). cond (not b) (record j { withdrawn = Some w.second } ∷ (older ++ i ∷ newer)) (j ∷ with_withdrawal w (older ++ i ∷ newer))) (same-any w older i newer is)
        ∙ ap (λ (l : List InsertionNote). j ∷ l) rest
    by false rest = ap (λ (l : List InsertionNote). j ∷ l) rest
