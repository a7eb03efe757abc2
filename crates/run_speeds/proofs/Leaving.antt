-- Calls that leave the ring of detailed speed.
use Rattle.std.proofs.Common.{◌≡◌, inl, inr, ⊎_elim, ℕ, ◌+◌, ◌≤◌, List, take, drop, refl, sym, ◌∙◌, ap, arith}
use Rattle.std.proofs.lemmas.List.{drop-drop}
use Rattle.tach_media.specs.card_layout.Images.{SameOutside}
use Rattle.tach_media.specs.Medium.{State, IsCoherent, LeavesOnly}
use Rattle.speed_store.proofs.gated_ring.Elsewhere.{ring_outside}
use Rattle.speed_store.specs.speed_model.Stored.{speed_ring}
use Rattle.run_speeds.specs.Speeds.{HasSameSpeeds, LeavesSpeeds}

pub leaves-none : (unit : State) → LeavesSpeeds unit unit
leaves-none unit = record { later = omega arith; now = λ c at. (c, at, refl); since = λ t c le at. inl at }

pub leaves-then : (first mid last : State) → LeavesSpeeds first mid → LeavesSpeeds mid last → LeavesSpeeds first last
leaves-then first mid last one two = record {
  later = let a = one.later in let b = two.later in omega (arith, a, b);
  now = before;
  since = λ t c le at. ⊎_elim
      (λ was. one.since t c le was)
      (λ here. inr (let x = one.now here.0 here.1 in (x.0, x.1, here.2 ∙ x.2)))
      (two.since t c (let a = one.later in omega (arith, le, a)) at);
}
  where
    before : (c : List ℕ) → last.may_leave c → (x : List ℕ) × first.may_leave x × HasSameSpeeds x c
    before c at =
        let y = two.now c at in
        let x = one.now y.0 y.1 in
        (x.0, x.1, y.2 ∙ x.2)

pub leaves-moments : (old new : State) (R : List ℕ → List ℕ → Type 0) → IsCoherent old → LeavesOnly old new R → ((x c : List ℕ) → R x c → HasSameSpeeds x c) → LeavesSpeeds old new
leaves-moments old new R whole run same = record {
  later = run.later;
  now = λ c at. ⊎_elim (λ was. (c, was, refl)) (λ here. (here.0, whole.is_left here.0 here.1, same here.0 c here.2)) (run.now c at);
  since = λ t c le at. ⊎_elim inl (λ here. inr (here.0, whole.is_left here.0 here.1, same here.0 c here.2)) (run.since t c le at);
}

pub same-before : (x c : List ℕ) (place len : ℕ) → place + len ≤ 2393644 → SameOutside place len x c → HasSameSpeeds x c
same-before x c place len before same = ring_outside speed_ring place len x c (inl before) same

pub same-behind : (x c : List ℕ) → drop 2393642 c ≡ drop 2393642 x → HasSameSpeeds x c
same-behind x c same = ap (take 92164) (sym (drop-drop 2 2393642 c) ∙ ap (drop 2) same ∙ drop-drop 2 2393642 x)
