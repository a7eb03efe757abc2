-- A device of bytes, seen by what its images show: what is proved of views holds of it.
use Rattle.std.proofs.Common.{◌≡◌, inl, inr, ⊎_elim, ℕ, List, Some, refl, ap, subst, ◌∙◌, sym}
use Rattle.tach_media.specs.Medium.{State, IsCoherent, LeavesOnly}
use Rattle.device_rule.specs.Device.{seen, CoherentViews, LeavesViews}

some-one : {X : Type 0} (x y : X) → Some x ≡ Some y → x ≡ y
some-one x y is = cc

pub seen-coherent : {V : Type 0} (view : List ℕ → V) (s : State) → IsCoherent s → CoherentViews (seen view s)
seen-coherent view s whole = record {
  one = λ v w works a b. sym a.2 ∙ ap view (some-one a.0 b.0 (sym (whole.only a.0 works a.1) ∙ whole.only b.0 works b.1)) ∙ b.2;
  counts_now = λ t v le a. (a.0, whole.counts_now t a.0 le a.1, a.2);
  earlier = λ t u v le within a. (a.0, whole.earlier t u a.0 le within a.1, a.2);
}

-- a call that leaves only images so related shows so related views
pub seen-run : {V : Type 0} (view : List ℕ → V) (R : List ℕ → List ℕ → Type 0) (S : V → V → Type 0) (old new : State) → IsCoherent old → LeavesOnly old new R →
    ((x y : List ℕ) → R x y → S (view x) (view y)) → LeavesViews (seen view old) (seen view new) S
seen-run view R S old new whole run shows = record {
  later = run.later;
  since = λ t w le a. ⊎_elim (λ was. inl (a.0, was, a.2)) (λ r. inr (view r.0, (r.0, whole.is_left r.0 r.1, refl), subst (S (view r.0)) a.2 (shows r.0 a.0 r.2))) (run.since t a.0 le a.1);
  now = λ w a. ⊎_elim (λ was. inl (a.0, was, a.2)) (λ r. inr (view r.0, (r.0, whole.is_left r.0 r.1, refl), subst (S (view r.0)) a.2 (shows r.0 a.0 r.2))) (run.now a.0 a.1);
}
