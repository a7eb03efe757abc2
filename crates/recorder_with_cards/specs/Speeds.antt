-- What a run with cards promises of detailed speed (profile).
use Rattle.device_calls.specs.safety_model.Recording.{Recording}
use Rattle.device_calls.specs.safety_model.Safe.{Devices}
use Rattle.run_acts.specs.run_speeds.Speeds.{HasSpeedRing, HasSpeeds}
use Rattle.run_acts.specs.run_speeds.Spans.{blocks_by, is_sure_block}

-- A UNIT CARRIES THE BLOCKS of the run, as its log tells them, where its ring's pointer was an index as it began.
abbrev pub CarriesItsSpeeds : Recording → (began now : Devices) → Type 0
CarriesItsSpeeds r began now = HasSpeedRing r.unit
    → HasSpeeds (is_sure_block r.log) r.unit began.unit.clock (blocks_by r.log r.trace) now.unit
