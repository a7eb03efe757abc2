-- What the devices of a run are called (profile).
use Rattle.std.specs.Prelude.{ℕ, List, codes}
use Rattle.run_model.specs.declared.Device.{Device}
use Rattle.run_model.specs.declared.Device.TheVariants as device

-- what a device is called
abbrev pub device_name : Device → List ℕ
device_name device.Unit = codes "unit"
device_name device.CardA = codes "card-a"
device_name device.CardB = codes "card-b"
