-- The words of text for slots and activities (profile): those of a trace's lines and of a view's.
use Rattle.std.specs.Prelude.{ℕ, List, codes}
use Rattle.activity_codec.specs.declared.values.Activity.{Activity}
use Rattle.activity_codec.specs.declared.values.Activity.TheVariants.{Rest, Available, Work, Driving}
use Rattle.activity_codec.specs.declared.values.Pick.{Pick}
use Rattle.activity_codec.specs.declared.values.Slot.{Slot}
use Rattle.activity_codec.specs.declared.values.Slot.TheVariants.{Driver, CoDriver}
use Rattle.activity_codec.specs.Activity.{activity_of}

-- the name of a slot
abbrev pub slot_name : Slot → List ℕ
slot_name Driver = codes "driver"
slot_name CoDriver = codes "codriver"

-- the name of an activity
abbrev pub activity_name : Activity → List ℕ
activity_name Rest = codes "rest"
activity_name Available = codes "available"
activity_name Work = codes "work"
activity_name Driving = codes "drive"

-- what is selected has the name of its activity
abbrev pub pick_name : Pick → List ℕ
pick_name pick = activity_name (activity_of pick)
