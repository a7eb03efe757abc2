-- A card stays sound over the calls of its medium.
use Rattle.std.proofs.Common.{◌≡◌, inl, inr, ⊎_elim, ℕ, ◌+◌, ◌≤◌, Bool, true, false, ◌&&◌, nat_le, is_ok, is_err, List, [], ◌∷◌, Some, Result, Ok, Err, ◌∙◌, ap, arith}
use Rattle.std.proofs.lemmas.Bool.{or_cases}
use Rattle.std.proofs.lemmas.Bool.Decides.{nat_tests}
use Rattle.std.proofs.lemmas.Grind.{common_steps}
use Rattle.card_layout.specs.declared.command.CardState.{CardState}
use Rattle.tach_media.specs.Medium.{State, IsCoherent, LiesInside, LeavesOnly, Unchanged, HasCause, bytes_at}
use Rattle.card_layout.specs.Outcomes.{just_issued}
use Rattle.card_commands.specs.Performing.{IsSound, covers}

-- the test of a range, and what it says
pub covers_true : (ranges : List (ℕ × ℕ)) (place len : ℕ) → LiesInside ranges place len → covers ranges place len ≡ true
covers_true [] place len lies = absurd lies
covers_true (r ∷ rs) place len lies = ⊎_elim (λ here. grind (arith, common_steps, here.0, here.1)) (λ there. grind (arith, common_steps, covers_true rs place len there)) lies

covered : (a b c d : ℕ) → (nat_le a b && nat_le c d) ≡ true → (a ≤ b) × (c ≤ d)
covered a b c d test = (grind (arith, nat_tests), grind (arith, nat_tests))

pub covers_says : (ranges : List (ℕ × ℕ)) (place len : ℕ) → covers ranges place len ≡ true → LiesInside ranges place len
covers_says [] place len test = absurd (cc)
covers_says (r ∷ rs) place len test = ⊎_elim (λ here. inl (covered r.0 place (place + len) (r.0 + r.1) here)) (λ there. inr (covers_says rs place len there)) (or_cases (nat_le r.0 place && nat_le (place + len) (r.0 + r.1)) (covers rs place len) test)

pub sound_new : (s : State) → 24959 ≤ s.size → LiesInside s.writable 0 s.size → IsSound just_issued false s
sound_new s size lies = record { size = size; writable = covers_true s.writable 0 s.size lies; known = λ no. absurd (cc); selected = λ f is. absurd (cc); ten = λ bytes is. absurd (cc); agrees = λ bytes is. absurd (cc) }

-- after calls that leave the bytes of Application_Identification
pub sound_after : {R : List ℕ → List ℕ → Type 0} (card : CardState) (works works' : Bool) (s s' : State) → IsCoherent s → IsSound card works s → LeavesOnly s s' R
    → ((x c : List ℕ) → s.image ≡ Some x → R x c → bytes_at c 33 10 ≡ bytes_at x 33 10) → (works' ≡ true → s'.works ≡ true) → IsSound card works' s'
sound_after {R} card works works' s s' whole sound run same known = record {
  size = omega (arith, sound.size, run.size);
  writable = ap (λ (l : List (ℕ × ℕ)). covers l 0 s'.size) run.writable ∙ ap (λ (n : ℕ). covers s.writable 0 n) run.size ∙ sound.writable;
  known = known;
  selected = sound.selected;
  ten = sound.ten;
  agrees = λ bytes is c left. ⊎_elim (λ was. sound.agrees bytes is c was) (λ here. same here.0 c here.1 here.2 ∙ sound.agrees bytes is here.0 (whole.is_left here.0 here.1)) (run.now c left);
}

pub sound_reads : (card : CardState) (works works' : Bool) (s s' : State) → IsCoherent s → IsSound card works s → LeavesOnly s s' Unchanged → (works' ≡ true → s'.works ≡ true) → IsSound card works' s'
sound_reads card works works' s s' whole sound run known = sound_after card works works' s s' whole sound run (λ x c is none. absurd none) known

-- an answer Ok says that the medium works
pub ok_works : {A E : Type 0} {s s' : State} (r : Result A E) → HasCause s s' (is_err r) → is_ok r ≡ true → s'.works ≡ true
ok_works (Ok a) cause ok = cause.works
ok_works (Err e) cause ok = absurd (cc)

-- a card that was issued goes by no bytes yet
pub sound_issued : {R : List ℕ → List ℕ → Type 0} (card : CardState) (works works' : Bool) (s s' : State) → IsSound card works s → LeavesOnly s s' R → (works' ≡ true → s'.works ≡ true) → IsSound just_issued works' s'
sound_issued {R} card works works' s s' sound run known = record {
  size = omega (arith, sound.size, run.size);
  writable = ap (λ (l : List (ℕ × ℕ)). covers l 0 s'.size) run.writable ∙ ap (λ (n : ℕ). covers s.writable 0 n) run.size ∙ sound.writable;
  known = known;
  selected = λ f is. absurd (cc);
  ten = λ bytes is. absurd (cc);
  agrees = λ bytes is. absurd (cc);
}
