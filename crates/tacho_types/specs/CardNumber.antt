-- FullCardNumber in bytes (Appendix 1): card type, issuing state, number.
use Rattle.std.specs.Prelude.{ℕ, List, [], ◌∷◌}
use Rattle.card_layout.specs.Fields.{joined, field_at, number_in}
use Rattle.tacho_types.specs.declared.card_number.FullCardNumber.{FullCardNumber}

-- the widths of its fields
abbrev pub card_number_widths : List ℕ
card_number_widths = 1 ∷ 1 ∷ 16 ∷ []

-- a card number in bytes
abbrev pub card_number_bytes : FullCardNumber → List ℕ
card_number_bytes v = joined ((v.kind ∷ []) ∷ (v.state.0 ∷ []) ∷ v.number ∷ [])

-- the card number that bytes tell
abbrev pub card_number_of : List ℕ → FullCardNumber
card_number_of bytes =
    record {
      kind = number_in card_number_widths 0 bytes;
      state = record { 0 = number_in card_number_widths 1 bytes };
      number = field_at card_number_widths 2 bytes;
    }
