-- What is found of a card where its time at the start decides.
use Rattle.std.proofs.Common.{◌≡◌, ◌⊎◌, inl, inr, ℕ, ◌<◌, ◌≤◌, true, List, refl, arith}
use Rattle.std.specs.Prelude.{suc, ◌*◌, ◌/◌, None}
use Rattle.device_rule.specs.trace_model.declared.Card.{Card}
use Rattle.device_rule.specs.log_model.declared.lines.Verdict.{Verdict}
use Rattle.device_rule.specs.log_model.declared.lines.Verdict.TheVariants.{Accepted, NotValid, TimeOverlap}
use Rattle.device_rule.specs.log_model.Log.{is_accepting}
use Rattle.device_rule.specs.Own.{own_view, own_bad_file, IsOwnValid}
use Rattle.safety_model.specs.Recording.{Recording, card_image}
use Rattle.safety_model.specs.Safe.{entered_by, IsVerdict}

module _ (r : Recording) (unit card : List ℕ → Type 0) (c : Card) (u : ℕ) (valid : IsOwnValid (card_image r c)) where
  -- the time at the start
  abbrev at_start : ℕ
  at_start = (own_view (card_image r c)).stored

  -- a later one than it is told in no second before it
  same-time : (stored now : ℕ) → u < at_start → now ≡ u →
      (stored ≡ at_start) ⊎ ((at_start ≤ u) × (1 < entered_by r c u) × (stored ≡ 60 * suc (u / 60)) × ((x : List ℕ) × card x × ((own_view x).stored ≡ stored))) →
      TimeOverlap stored now ≡ TimeOverlap at_start u
  same-time stored now late same (inl is) = cc
  same-time stored now late same (inr behind) = let h : at_start ≤ u = behind.0 in absurd (omega arith)

  pub turned-away : (v : Verdict) → IsVerdict r unit card c u v → u < at_start → v ≡ TimeOverlap at_start u
  turned-away (Accepted replayed) says late = let h : at_start ≤ u = says.1 in absurd (omega arith)
  turned-away (NotValid fid place) says late = let none : own_bad_file (card_image r c) ≡ None = valid in cc
  turned-away (TimeOverlap stored now) says late = same-time stored now late says.1 says.2.1

  -- no later one is told, but behind an earlier entering in the minute
  none-later : (stored : ℕ) → at_start ≤ u → entered_by r c u ≤ 1 → u < stored →
      (stored ≡ at_start) ⊎ ((at_start ≤ u) × (1 < entered_by r c u) × (stored ≡ 60 * suc (u / 60)) × ((x : List ℕ) × card x × ((own_view x).stored ≡ stored))) → ⊥
  none-later stored early once late (inl is) = omega arith
  none-later stored early once late (inr behind) = let h : 1 < entered_by r c u = behind.1 in omega arith

  pub accepted : (v : Verdict) → IsVerdict r unit card c u v → at_start ≤ u → entered_by r c u ≤ 1 → is_accepting v ≡ true
  accepted (Accepted replayed) says early once = refl
  accepted (NotValid fid place) says early once = let none : own_bad_file (card_image r c) ≡ None = valid in cc
  accepted (TimeOverlap stored now) says early once = absurd (none-later stored early once says.2.0 says.2.1)
