-- A minute of a unit's day by the bits of its words is the one that the codec's words tell.
use Rattle.std.proofs.Common.{◌≡◌, ℕ, zero, suc, ◌+◌, ◌*◌, ◌/◌, ◌%◌, ◌<◌, Bool, true, false, not, cond, List, [], ◌∷◌, Option, Some, None, refl, sym, ◌∙◌, ap, arith}
use Rattle.std.specs.Prelude.{◌==◌, ◌&&◌, nat_le, find, reverse, option_map}
use Rattle.std.specs.Option.{option_or}
use Rattle.std.proofs.lemmas.List.{reverse-append}
use Rattle.std.proofs.lemmas.List.Folds.{find-append}
use Rattle.activity_codec.specs.declared.values.Activity.TheVariants as activity
use Rattle.activity_codec.specs.declared.values.Slot.{Slot}
use Rattle.activity_codec.specs.declared.values.Slot.TheVariants.{Driver, CoDriver}
use Rattle.activity_codec.specs.declared.words.Change.{Change}
use Rattle.activity_codec.specs.Activity.{same_slot}
use Rattle.activity_codec.specs.Words.{slot_number, slot_numbered, bit, activity_number, activity_numbered, change_of}
use Rattle.activity_codec.specs.States.{is_by, latest_word, state_of}
use Rattle.view_model.specs.declared.State.{State}
use Rattle.unit_model.specs.Days.{slot_bit, word_state, word_minute, bare, state_by, state_after, state_at, state_in, is_crew_in, StoredDay, day_of, minute_at, Each}
use Rattle.unit_minutes.specs.Kept.{bits_by}
use Rattle.unit_minutes.proofs.KeptBits.{state_back, crew_back}

-- what a change tells of its slot: no card, rest and single where there is none
abbrev pub told_state : Option Change → State
told_state None = record { act = activity.Rest; present = false }
told_state (Some c) = record { act = c.act; present = not c.absent }

abbrev pub told_crew : Option Change → Bool
told_crew None = false
told_crew (Some c) = c.crew_or_known

-- the same as bits
abbrev pub told_bits : Option Change → ℕ
told_bits None = bare
told_bits (Some c) = bits_by c.act (not c.absent) c.crew_or_known

pub state_told : (o : Option Change) → state_in (told_bits o) ≡ told_state o
state_told None = refl
state_told (Some c) = state_back c.act (not c.absent) c.crew_or_known

pub crew_told : (o : Option Change) → is_crew_in (told_bits o) ≡ told_crew o
crew_told None = refl
crew_told (Some c) = crew_back c.act (not c.absent) c.crew_or_known

bit_again : (n : ℕ) → n < 2 → bit (n == 1) ≡ n
bit_again zero small = refl
bit_again (suc zero) small = refl
bit_again (suc (suc n)) small = absurd (omega (arith, small))

twice_not : (b : Bool) → not (not b) ≡ b
twice_not true = refl
twice_not false = refl

number_again : (n : ℕ) → n < 4 → activity_number (activity_numbered n) ≡ n
number_again zero small = refl
number_again (suc zero) small = refl
number_again (suc (suc zero)) small = refl
number_again (suc (suc (suc zero))) small = refl
number_again (suc (suc (suc (suc n)))) small = absurd (omega (arith, small))

slot_again : (s : Slot) (q : ℕ) → q < 2 → same_slot (slot_numbered q) s ≡ (q % 2 == slot_number s)
slot_again Driver zero small = refl
slot_again CoDriver zero small = refl
slot_again Driver (suc zero) small = refl
slot_again CoDriver (suc zero) small = refl
slot_again s (suc (suc q)) small = absurd (omega (arith, small))

-- the bits of a word's state are those of its change
bits_told : (w : ℕ) → told_bits (Some (change_of w)) ≡ word_state w
bits_told w = omega (
  arith,
  ap bit (twice_not (w / 8192 % 2 == 1)),
  bit_again (w / 8192 % 2) (omega arith),
  bit_again (w / 16384 % 2) (omega arith),
  number_again (w / 2048 % 4) (omega arith),
)

module _ (s : Slot) (t : ℕ) where
  -- a word counts by one as by the other
  counts_same : (w : ℕ) → w < 65536 → is_by s t w ≡ ((slot_bit w == slot_number s) && nat_le (word_minute w) t)
  counts_same w small = ap (λ (b : Bool). b && nat_le (word_minute w) t) (slot_again s (w / 32768) (omega (arith, small)))

  -- the state of the latest word, or the one before all of them
  abbrev latest : ℕ → Option ℕ → ℕ
  latest c None = c
  latest c (Some w) = word_state w

  after_is : (ws : List ℕ) → Each (λ w. w < 65536) ws → (c : ℕ) → state_after (slot_number s) t c ws ≡ latest c (find (is_by s t) (reverse ws))
  after_is [] small c = refl
  after_is (w ∷ ws) small c =
      after_is ws small.1 (state_by (slot_number s) t c w) ∙ join (find (is_by s t) (reverse ws))
      ∙ sym (ap (λ (l : List ℕ). latest c (find (is_by s t) l)) (reverse-append (w ∷ []) ws) ∙ ap (latest c) (find-append (is_by s t) (reverse ws) (w ∷ [])))
    where
      one : (b : Bool) → cond b (word_state w) c ≡ latest c (cond b (Some w) None)
      one true = refl
      one false = refl

      join : (o : Option ℕ) → latest (state_by (slot_number s) t c w) o ≡ latest c (option_or o (find (is_by s t) (w ∷ [])))
      join None = ap (λ (b : Bool). cond b (word_state w) c) (sym (counts_same w small.0)) ∙ one (is_by s t w)
      join (Some v) = refl

  told_latest : (o : Option ℕ) → latest bare o ≡ told_bits (option_map change_of o)
  told_latest None = refl
  told_latest (Some w) = sym (bits_told w)

  -- a slot's bits in a minute are those of the change that the codec decodes there
  pub bits_decoded : (ws : List ℕ) → Each (λ w. w < 65536) ws → state_at (slot_number s) t ws ≡ told_bits (state_of ws s t)
  bits_decoded ws small = after_is ws small bare ∙ told_latest (latest_word ws s t)

-- a minute of a day by these changes
pub minute_decoded : (d : StoredDay) → Each (λ w. w < 65536) d.words → (t : ℕ)
    → minute_at d t ≡ record { minute = 1440 * day_of d + t; driver = told_state (state_of d.words Driver t); codriver = told_state (state_of d.words CoDriver t); crew = told_crew (state_of d.words Driver t) }
minute_decoded d small t =
    let driver_is = bits_decoded Driver t d.words small in
    let codriver_is = bits_decoded CoDriver t d.words small in
    λ i. record {
      minute = 1440 * day_of d + t;
      driver = (ap state_in driver_is ∙ state_told (state_of d.words Driver t)) i;
      codriver = (ap state_in codriver_is ∙ state_told (state_of d.words CoDriver t)) i;
      crew = (ap is_crew_in driver_is ∙ crew_told (state_of d.words Driver t)) i;
    }
