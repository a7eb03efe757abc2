-- The rings of a card's files (Appendix 1 and Appendix 2, section 4): vehicle entries, place entries, and of each type
-- the events.
use Rattle.std.specs.Prelude.{ℕ, ◌+◌, ◌*◌, ◌==◌, if◌then◌else◌, take}
use Rattle.card_layout.specs.Fields.{total_width}
use Rattle.card_layout.specs.declared.files.Application.{Application}
use Rattle.card_layout.specs.declared.files.Fid.{Fid}
use Rattle.card_layout.specs.Files.{place_of}
use Rattle.tacho_types.specs.Places.{place_widths}
use Rattle.gated_ring.specs.Ring.{Shape}
use Rattle.card_files.specs.Vehicles.{vehicle_widths}
use Rattle.card_files.specs.Events.{event_widths}

-- a file of the card by its identifier
abbrev pub file : ℕ → Fid
file n = record { 0 = n }

-- the vehicle entries, in Vehicles_Used: an entry's gate is its first use
abbrev pub vehicle_ring : Application → Shape
vehicle_ring app =
    record {
      base = place_of app (file 0x0505);
      width = total_width vehicle_widths;
      count = app.vehicles;
      pointer_width = 2;
      gate = total_width (take 2 vehicle_widths);
    }

-- the place entries, in Places: an entry's gate is its time, its first field
abbrev pub place_ring : Application → Shape
place_ring app = record {
  base = place_of app (file 0x0506);
  width = total_width place_widths;
  count = app.places;
  pointer_width = 1;
  gate = 0;
}

-- The sets of Events_Data in their order: time overlap 03, insertion while driving 05, last session not correctly
-- closed 06, power supply interruption 08, motion data error 09, and behind them the security breach attempts.
abbrev pub set_of : ℕ → ℕ
set_of kind =
    if kind == 3 then 0
    else (if kind == 5 then 1 else (if kind == 6 then 2 else (if kind == 8 then 3 else (if kind == 9 then 4 else 5))))

-- the bytes of a set
abbrev pub set_size : Application → ℕ
set_size app = app.events * total_width event_widths

-- the events of a type, which have no pointer: an event's gate is its begin
abbrev pub event_ring : Application → ℕ → Shape
event_ring app kind =
    record {
      base = place_of app (file 0x0502) + set_of kind * set_size app;
      width = total_width event_widths;
      count = app.events;
      pointer_width = 0;
      gate = total_width (take 1 event_widths);
    }
