-- The lines of what devices tell (profile).
use Rattle.std.specs.Prelude.{Option, Some, None, Result, Ok, Err, List, [], ◌∷◌, ◌++◌}
use Rattle.std.specs.List.{flat_map}
use Rattle.run_model.specs.declared.Device.{Device}
use Rattle.run_model.specs.declared.Device.TheVariants.{Unit as OfUnit, CardA, CardB}
use Rattle.card_validity.specs.declared.looking.CardLook.{CardLook}
use Rattle.unit_memory.specs.declared.fault.UnitFault.{UnitFault}
use Rattle.unit_memory.specs.declared.fault.UnitFault.TheVariants as unit
use Rattle.state_text.specs.declared.line.Line.{Line}
use Rattle.state_text.specs.declared.line.Name.{Name}
use Rattle.state_text.specs.declared.line.Name.TheVariants as name
use Rattle.state_text.specs.declared.line.OwedTo.{OwedTo}
use Rattle.state_text.specs.declared.line.Value.{Value}
use Rattle.state_text.specs.declared.line.Value.TheVariants as value
use Rattle.device_state.specs.declared.card.CardFault.{CardFault}
use Rattle.device_state.specs.declared.card.CardFault.TheVariants as card
use Rattle.device_state.specs.declared.devices.DevicesTold.{DevicesTold}
use Rattle.device_state.specs.declared.unit.UnitTold.{UnitTold}
use Rattle.device_state.specs.Values.{minute_value, second_value, day_value, start_value, use_value, vehicle_value}

-- a line of a device: its name, and the value
abbrev pub line : Device → Name → Value → Line
line device name value = record { device = device; name = name; value = value }

-- the line of a whole device
abbrev pub whole : Device → Value → List Line
whole device value = line device name.Whole value ∷ []

-- a unit and its vehicle
abbrev pub vehicle_lines : UnitTold → List Line
vehicle_lines told =
    line OfUnit name.Whole value.Valid
    ∷ line OfUnit name.Version (value.Count told.version)
    ∷ line OfUnit name.RuleOfMinutes (value.ByRule told.rule)
    ∷ line OfUnit name.VehicleNumber (value.Vin told.identity.vin)
    ∷ line OfUnit name.Plate (value.Plate told.identity.registration)
    ∷ line OfUnit name.Limit (value.Count told.identity.limit)
    ∷ line OfUnit name.Odometer (value.Count told.odometer)
    ∷ []

-- its minutes and days
abbrev pub time_lines : UnitTold → List Line
time_lines told =
    line OfUnit name.LastKept (minute_value told.kept)
    ∷ line OfUnit name.NextStart (start_value told.kept)
    ∷ line OfUnit name.FirstDay (day_value told.days.first)
    ∷ line OfUnit name.LastDay (day_value told.days.last)
    ∷ line OfUnit name.Days (value.Count told.days.count)
    ∷ []

-- what it owes to a card
abbrev pub owed_line : Option OwedTo → List Line
owed_line None = []
owed_line (Some owed) = line OfUnit name.Owed (value.Owed owed) ∷ []

-- THE LINES OF A UNIT
abbrev pub unit_lines : UnitTold → List Line
unit_lines told = vehicle_lines told ++ time_lines told ++ flat_map owed_line told.owed

-- THE LINES OF A CARD
abbrev pub card_lines : Device → CardLook → List Line
card_lines device look =
    line device name.Whole value.Valid
    ∷ line device name.Number (value.Card look.number)
    ∷ line device name.Surname (value.Holder look.surname)
    ∷ line device name.FirstNames (value.Holder look.first)
    ∷ line device name.LastUse (use_value look.previous)
    ∷ line device name.Vehicle (vehicle_value look.previous)
    ∷ line device name.Session (second_value look.session)
    ∷ line device name.Newest (minute_value look.newest_minute)
    ∷ []

-- what is said of a unit, also of one that tells nothing: it is bad, or it was not read
abbrev pub lines_of_unit : Result UnitTold UnitFault → List Line
lines_of_unit (Ok told) = unit_lines told
lines_of_unit (Err unit.Failed) = whole OfUnit value.Unread
lines_of_unit (Err (unit.BadUnit place)) = whole OfUnit (value.BadAt place)

-- the same of a card: a field of Application_Identification may be bad, or a file
abbrev pub lines_of_card : Device → Result CardLook CardFault → List Line
lines_of_card device (Ok look) = card_lines device look
lines_of_card device (Err card.Failed) = whole device value.Unread
lines_of_card device (Err (card.BadField field)) = whole device (value.BadField field)
lines_of_card device (Err (card.BadFile fid place)) = whole device (value.BadFile fid.0 place)

-- THE LINES OF THE THREE DEVICES
abbrev pub state_lines : DevicesTold → List Line
state_lines told = lines_of_unit told.unit ++ lines_of_card CardA told.card_a ++ lines_of_card CardB told.card_b
