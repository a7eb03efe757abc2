-- CardCurrentUse in bytes (Appendix 1): time of the session's opening, registration.
use Rattle.std.specs.Prelude.{ℕ, List, [], ◌∷◌}
use Rattle.card_layout.specs.Fields.{joined, field_at}
use Rattle.tacho_types.specs.Numbers.{time_bytes, time_of}
use Rattle.card_files.specs.declared.current_use.CurrentUse.{CurrentUse}

-- the widths of its fields
abbrev pub current_use_widths : List ℕ
current_use_widths = 4 ∷ 15 ∷ []

-- a current use in bytes
unfoldable pub current_use_bytes : CurrentUse → List ℕ
current_use_bytes v = joined (time_bytes v.session ∷ v.registration.0 ∷ [])

-- the current use that bytes tell
unfoldable pub current_use_of : List ℕ → CurrentUse
current_use_of bytes =
    record {
      session = time_of (field_at current_use_widths 0 bytes);
      registration = record { 0 = field_at current_use_widths 1 bytes };
    }
