-- A minute as it is handed in, and its bits.
use Rattle.std.proofs.Common.{◌≡◌, ℕ, Bool, true, false, refl}
use Rattle.activity_codec.specs.declared.values.Activity.{Activity}
use Rattle.activity_codec.specs.declared.values.Activity.TheVariants.{Rest, Available, Work, Driving}
use Rattle.view_model.specs.declared.State.{State}
use Rattle.unit_model.specs.Days.{state_in, is_crew_in, minute_by}
use Rattle.unit_minutes.specs.Kept.{bits_by, bits_of}

pub state_back : (act : Activity) (present crew : Bool) → state_in (bits_by act present crew) ≡ record { act = act; present = present }
state_back Rest true true = refl
state_back Rest true false = refl
state_back Rest false true = refl
state_back Rest false false = refl
state_back Available true true = refl
state_back Available true false = refl
state_back Available false true = refl
state_back Available false false = refl
state_back Work true true = refl
state_back Work true false = refl
state_back Work false true = refl
state_back Work false false = refl
state_back Driving true true = refl
state_back Driving true false = refl
state_back Driving false true = refl
state_back Driving false false = refl

pub crew_back : (act : Activity) (present crew : Bool) → is_crew_in (bits_by act present crew) ≡ crew
crew_back Rest true true = refl
crew_back Rest true false = refl
crew_back Rest false true = refl
crew_back Rest false false = refl
crew_back Available true true = refl
crew_back Available true false = refl
crew_back Available false true = refl
crew_back Available false false = refl
crew_back Work true true = refl
crew_back Work true false = refl
crew_back Work false true = refl
crew_back Work false false = refl
crew_back Driving true true = refl
crew_back Driving true false = refl
crew_back Driving false true = refl
crew_back Driving false false = refl

-- the minute by these bits is the minute
pub kept_by : (m : ℕ) (driver codriver : State) (crew : Bool) → minute_by m (bits_of driver crew) (bits_of codriver crew) ≡ record { minute = m; driver = driver; codriver = codriver; crew = crew }
kept_by m driver codriver crew = λ i. record {
  minute = m;
  driver = state_back driver.act driver.present crew i;
  codriver = state_back codriver.act codriver.present crew i;
  crew = crew_back driver.act driver.present crew i;
}
