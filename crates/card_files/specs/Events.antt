-- CardEventRecord in bytes (Appendix 1): type, begin, end, registration.
use Rattle.std.specs.Prelude.{ℕ, List, [], ◌∷◌}
use Rattle.card_layout.specs.Fields.{joined, field_at, number_in}
use Rattle.tacho_types.specs.Numbers.{time_bytes, time_of}
use Rattle.card_files.specs.declared.card_event.CardEvent.{CardEvent}

-- the widths of its fields
abbrev pub event_widths : List ℕ
event_widths = 1 ∷ 4 ∷ 4 ∷ 15 ∷ []

-- an event in bytes
unfoldable pub event_bytes : CardEvent → List ℕ
event_bytes v = joined ((v.kind ∷ []) ∷ time_bytes v.begin ∷ time_bytes v.end ∷ v.registration.0 ∷ [])

-- the event that bytes tell
unfoldable pub event_of : List ℕ → CardEvent
event_of bytes =
    record {
      kind = number_in event_widths 0 bytes;
      begin = time_of (field_at event_widths 1 bytes);
      end = time_of (field_at event_widths 2 bytes);
      registration = record { 0 = field_at event_widths 3 bytes };
    }
