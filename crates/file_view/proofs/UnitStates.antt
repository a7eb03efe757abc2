-- The states of a slot, by the change of the last of its words that is not later.
use Rattle.std.proofs.Common.{◌≡◌, ◌∙◌, ℕ, zero, suc, ◌/◌, ◌%◌, ◌<◌, Bool, true, false, not, cond, Option, Some, None, option_map, List, [], ◌∷◌, refl, ap, arith}
use Rattle.std.specs.Prelude.{◌==◌, nat_le}
use Rattle.activity_codec.proofs.ByTest.{by_test}
use Rattle.activity_codec.specs.declared.values.Activity.{Activity}
use Rattle.activity_codec.specs.Words.{change_of, activity_numbered}
use Rattle.card_retention.specs.Entries.{latest}
use Rattle.unit_model.specs.Days.{slot_bit, word_state, word_minute, bare, state_by as state_with, state_after, state_at, state_in, is_crew_in}
use Rattle.view_model.specs.declared.State.{State}
use Rattle.file_view.specs.UnitShowing.{slot_words, state_by, crew_by}

-- the bits of a state, by a word that decides
abbrev bits_by : ℕ → Option ℕ → ℕ
bits_by state None = state
bits_by state (Some w) = word_state w

front_bits : (state w : ℕ) (late : Bool) (o : Option ℕ) → bits_by (cond late (word_state w) state) o ≡ bits_by state (elim o as (λ _. Option ℕ) [ Some v ↦ Some v | None ↦ cond late (Some w) None ])
front_bits state w late (Some v) = refl
front_bits state w true None = refl
front_bits state w false None = refl

state_is : (slot minute state : ℕ) (words : List ℕ) → state_after slot minute state words ≡ bits_by state (latest (slot_words slot words) minute)
state_is slot minute state [] = refl
state_is slot minute state (w ∷ ws) =
    state_is slot minute (state_with slot minute state w) ws
    ∙ by_test (slot_bit w == slot)
    (λ own. rw own (front_bits state w (nat_le (word_minute w) minute) (latest (slot_words slot ws) minute)))
    (λ other. rw other refl)

-- what its bits say
bit_is : (b : ℕ) → b < 2 → (b == 0) ≡ not (b == 1)
bit_is zero low = refl
bit_is (suc zero) low = refl
bit_is (suc (suc b)) low = absurd (omega (arith, low))

shown_by : (o : Option ℕ) → state_in (bits_by bare o) ≡ state_by (option_map change_of o)
shown_by None = refl
shown_by (Some w) =
    let act : w / 2048 % 16 % 4 ≡ w / 2048 % 4 = omega arith in
    let present : w / 2048 % 16 / 4 % 2 ≡ w / 8192 % 2 = omega arith in
    let of : Activity → Bool → State = λ a p. record { act = a; present = p } in
    ap (λ (n : ℕ). of (activity_numbered n) (w / 2048 % 16 / 4 % 2 == 0)) act
    ∙ ap (λ (b : Bool). of (activity_numbered (w / 2048 % 4)) b) (ap (λ (n : ℕ). n == 0) present ∙ bit_is (w / 8192 % 2) (omega arith))

crew_shown : (o : Option ℕ) → is_crew_in (bits_by bare o) ≡ crew_by (option_map change_of o)
crew_shown None = refl
crew_shown (Some w) = let bit : w / 2048 % 16 / 8 % 2 ≡ w / 16384 % 2 = omega arith in ap (λ (n : ℕ). n == 1) bit

pub state_shown : (slot minute : ℕ) (words : List ℕ) → state_in (state_at slot minute words) ≡ state_by (option_map change_of (latest (slot_words slot words) minute))
state_shown slot minute words = ap state_in (state_is slot minute bare words) ∙ shown_by (latest (slot_words slot words) minute)

pub crew_is : (minute : ℕ) (words : List ℕ) → is_crew_in (state_at 0 minute words) ≡ crew_by (option_map change_of (latest (slot_words 0 words) minute))
crew_is minute words = ap is_crew_in (state_is 0 minute bare words) ∙ crew_shown (latest (slot_words 0 words) minute)
