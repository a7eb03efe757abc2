-- Worked rows: places of the layout, the entries of an over speeding and of driving without a card, and the places of equals.
use Rattle.std.proofs.Common.{◌≡◌, [], ◌∷◌, ◌++◌, refl}
use Rattle.std.specs.Prelude.{replicate}
use Rattle.card_layout.specs.Fields.{total_width, place_in}
use Rattle.tacho_types.specs.declared.card_number.FullCardNumber.{FullCardNumber}
use Rattle.event_model.specs.declared.entries.Over.{Over}
use Rattle.message_model.specs.Records.{insertion_widths, place_widths}
use Rattle.note_model.specs.Tables.{event_widths, fault_widths, over_widths, base_of, held_in}
use Rattle.unit_notes.specs.declared.unit_event.UnitEvent.{UnitEvent}
use Rattle.unit_notes.specs.Entries.{over_bytes, fault_bytes}
use Rattle.unit_notes.specs.Tables.{with_similar, similar_place}
use Rattle.unit_notes.specs.Noting.{out_place, out_odometer_place}

-- ---- the layout

insertion_size : total_width insertion_widths ≡ 129
insertion_size = refl

insertion_gate : place_in insertion_widths 4 ≡ 94
insertion_gate = refl

withdrawal_places : (out_place ∷ out_odometer_place ∷ []) ≡ (102 ∷ 106 ∷ [])
withdrawal_places = refl

place_size : total_width place_widths ≡ 28
place_size = refl

entry_sizes : (total_width event_widths ∷ total_width fault_widths ∷ total_width over_widths ∷ []) ≡ (83 ∷ 82 ∷ 31 ∷ [])
entry_sizes = refl

-- the types 01, 03, 04, 05, 06, 08, over speedings and faults
bases : (base_of 1 ∷ base_of 3 ∷ base_of 4 ∷ base_of 5 ∷ base_of 6 ∷ base_of 8 ∷ base_of 7 ∷ base_of 64 ∷ [])
    ≡ (2386384 ∷ 2387214 ∷ 2388044 ∷ 2388874 ∷ 2389704 ∷ 2390534 ∷ 2391364 ∷ 2391674 ∷ [])
bases = refl

similar_places : (similar_place 4 ∷ similar_place 7 ∷ []) ≡ (82 ∷ 30 ∷ [])
similar_places = refl

-- ---- entries: 61 seconds at 100 km/h, where the limit is 90, without a card

abbrev no_card : FullCardNumber
no_card = record { kind = 0; state = record { 0 = 0 }; number = replicate 16 0 }

abbrev over : Over
over = record { begin = 1267401600; end = 1267401660; most = 100; average = 100 }

over_entry : with_similar 7 1 (over_bytes over no_card)
    ≡ (0x07 ∷ 0x04 ∷ 0x4B ∷ 0x8B ∷ 0x03 ∷ 0x80 ∷ 0x4B ∷ 0x8B ∷ 0x03 ∷ 0xBC ∷ 0x64 ∷ 0x64 ∷ []) ++ (replicate 18 0 ++ 1 ∷ [])
unfolding over_bytes
over_entry = refl

abbrev without_card : UnitEvent
without_card = record {
  kind = 4;
  purpose = 1;
  begin = record { 0 = 1267401600 };
  end = record { 0 = 1267401660 };
  driver_begin = no_card;
  codriver_begin = no_card;
  driver_end = no_card;
  codriver_end = no_card;
  similar = 0;
}

without_card_entry : with_similar 4 1 (fault_bytes without_card)
    ≡ (0x04 ∷ 0x01 ∷ 0x4B ∷ 0x8B ∷ 0x03 ∷ 0x80 ∷ 0x4B ∷ 0x8B ∷ 0x03 ∷ 0xBC ∷ []) ++ (replicate 72 0 ++ 1 ∷ [])
unfolding fault_bytes
without_card_entry = refl

-- what decides on its place
over_held : held_in 7 (over_bytes over no_card) ≡ record { begin = 1267401600; end = 1267401660; weight = 100 }
unfolding over_bytes
over_held = refl
