-- Entries by hand one after the other, and a keep behind them.
use Rattle.std.proofs.Common.{◌≡◌, ◌∙◌, inl, inr, ⊎_elim, ℕ, ◌+◌, ◌/◌, ◌*◌, ◌<◌, Bool, true, false, List, [], ◌∷◌, ◌++◌, length, take, drop, get_or, refl, sym, ap, subst}
use Rattle.std.proofs.lemmas.List.{drop_more, take_more, take-append-drop}
use Rattle.activity_codec.specs.declared.entries.Entry.{Entry}
use Rattle.activity_codec.specs.declared.entries.Manual.{Manual}
use Rattle.tach_media.specs.Medium.{State, HasCause}
use Rattle.hand_model.proofs.OfDay.{none}
use Rattle.card_session.specs.Sessions.{Session, IsSession}
use Rattle.card_session.specs.Cards.{IsCardKept, IsCardKeeping}
use Rattle.card_session.specs.Parts.{DoesPart}
use Rattle.card_session.specs.ByHand.{IsCardByHand, IsCardEntering, EndsByHand}
use Rattle.card_session.proofs.Composing.{parts_then, part_as, part_none}
use Rattle.card_by_hand.specs.First.{Follows, AreEntered, IsEntering, IsFirstKept, IsFirstKeeping, HasEntered, MayBeEntering}

-- one more behind them
pub entered_more : (es : List Manual) (e : Manual) (s t u : Session) (x z y : List ℕ) → AreEntered es s t x z → Follows t u e → IsCardByHand t u e z y → AreEntered (es ++ e ∷ []) s u x y
entered_more [] e s t u x z y are follows next = (u, y, subst (λ (q : Session). Follows q u e) are.0 follows, subst (λ (q : Session). IsCardByHand q u e x y) are.0 (subst (λ (l : List ℕ). IsCardByHand t u e l y) are.1 next), (refl, refl))
entered_more (d ∷ es) e s t u x z y are follows next = (are.0, are.1, are.2, are.3, entered_more es e are.0 t u are.1 z y are.4 follows next)

-- a moment of the one behind them
pub entering_at : (es rest : List Manual) (e : Manual) (s t : Session) (x z c : List ℕ) → AreEntered es s t x z → IsCardEntering t e z c → IsEntering (es ++ e ∷ rest) s x c
entering_at [] rest e s t x z c are now = inl (subst (λ (q : Session). IsCardEntering q e x c) are.0 (subst (λ (l : List ℕ). IsCardEntering t e l c) are.1 now))
entering_at (d ∷ es) rest e s t x z c are now = inr (are.0, are.1, are.2, are.3, entering_at es rest e are.0 t are.1 z c are.4 now)

-- ---- in a loop over entries

module _ (es : List Manual) (i : ℕ) (low : i < length es) where
  pub front_is : take (i + 1) es ≡ take i es ++ get_or es i none ∷ []
  front_is = take_more es i none low

  pub rest_is : drop i es ≡ get_or es i none ∷ drop (i + 1) es
  rest_is = drop_more es i none low

  whole_is : take i es ++ get_or es i none ∷ drop (i + 1) es ≡ es
  whole_is = ap (λ (l : List Manual). take i es ++ l) (sym rest_is) ∙ take-append-drop i es

  pub entries_then : {old mid new : State} {failed : Bool} (s t u : Session) → DoesPart old mid false (HasEntered (take i es) s t) (MayBeEntering es s)
      → DoesPart mid new failed (λ z y. Follows t u (get_or es i none) × (IsSession t z → IsCardByHand t u (get_or es i none) z y)) (λ z c. IsSession t z → IsCardEntering t (get_or es i none) z c)
      → DoesPart old new failed (HasEntered (take (i + 1) es) s u) (MayBeEntering es s)
  entries_then {old} {mid} {new} {failed} s t u first next =
      parts_then first next
      (λ x z y was one two knows.
      let a = one knows in
      let b = two.1 a.1 in
      (subst (λ (l : List Manual). AreEntered l s u x y) (sym front_is) (entered_more (take i es) (get_or es i none) s t u x z y a.0 two.0 b), b.knows))
      (λ x c was one. one)
      (λ x z c was one two knows.
      let a = one knows in
      subst (λ (l : List Manual). IsEntering l s x c) whole_is (entering_at (take i es) (drop (i + 1) es) (get_or es i none) s t x z c a.0 (two a.1)))

-- no entry yet
pub entries_none : (es : List Manual) (s : Session) (old : State) → DoesPart old old false (HasEntered [] s s) (MayBeEntering es s)
entries_none es s old = part_none old (λ x was knows. ((refl, refl), knows))

-- ---- the keep behind them

pub keep_then : {old mid new : State} {failed : Bool} (es : List Manual) (e : Entry) (odometer : ℕ) (s t u : Session) → DoesPart old mid false (HasEntered es s t) (MayBeEntering es s)
    → DoesPart mid new failed (λ z y. IsSession t z → IsCardKept t u e odometer z y) (λ z c. IsSession t z → IsCardKeeping t e odometer z c)
    → DoesPart old new failed (λ x y. IsSession s x → IsFirstKept s u es e odometer x y) (λ x c. IsSession s x → IsFirstKeeping s es e odometer x c)
keep_then es e odometer s t u first next =
    parts_then first next
    (λ x z y was one two knows. let a = one knows in record { between = t; card = z; entered = a.0; kept = two a.1 })
    (λ x c was one knows. inl (one knows))
    (λ x z c was one two knows. let a = one knows in inr (record { between = t; card = z; entered = a.0; keeping = two a.1 }))

-- a part that failed has a cause
pub failed_cause : {old new : State} {failed : Bool} {S R : List ℕ → List ℕ → Type 0} → DoesPart old new true S R → failed ≡ true → HasCause old new failed
failed_cause {old} {new} {failed} part is = subst (λ (b : Bool). HasCause old new b) (sym is) (⊎_elim (λ h. h) (λ n. absurd (differ n.0)) part.cause)
  where
    differ : true ≡ false → ⊥
    differ e = cc

-- what is known of the newest day by a minute of the same day
pub ends_on : (s : Session) (minute before : ℕ) → minute / 1440 ≡ before / 1440 → EndsByHand s minute → EndsByHand s before
ends_on s minute before same e = record { some = e.some; day = e.day ∙ ap (λ (n : ℕ). n * 86400) same; absent = e.absent }

-- one call of them, with what it leaves by value
pub with_value : {old new : State} (t u : Session) (e : Manual) → Follows t u e → DoesPart old new false (λ z y. IsSession t z → IsCardByHand t u e z y) (λ z c. IsSession t z → IsCardEntering t e z c)
    → DoesPart old new false (λ z y. Follows t u e × (IsSession t z → IsCardByHand t u e z y)) (λ z c. IsSession t z → IsCardEntering t e z c)
with_value t u e follows part = part_as part (λ x y was one. (follows, one)) (λ x c was one. one)
