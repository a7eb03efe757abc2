-- The same is seen in equal minutes alone.
use Rattle.std.specs.Prelude.{◌≡◌, Bool, true, false, ◌&&◌, refl}
use Rattle.std.proofs.Common.{ap}
use Rattle.view_model.specs.declared.UnitShown.{UnitShown}
use Rattle.view_model.specs.Lines.{same_bool}
use Rattle.view_text.specs.Exact.{unit_exact}
use Rattle.activity_codec.specs.Activity.{same_activity}
use Rattle.slot_bars.specs.declared.seen.Seen.{Seen}
use Rattle.slot_bars.specs.Seeing.{same_seen}

-- what is seen as a unit would show it, where the co-driver's card stands for a minute that was recorded
as_shown : Seen → UnitShown
as_shown s = record {
  driver = record { act = s.act; present = s.present };
  codriver = record { act = s.act; present = s.known };
  crew = s.crew;
}

seen_back : UnitShown → Seen
seen_back u = record { act = u.driver.act; present = u.driver.present; crew = u.crew; known = u.codriver.present }

all_pass : (a p c k : Bool) → (a && p && c && k) ≡ true → (a && p && (a && k) && c) ≡ true
all_pass true true true true is = refl
all_pass true true true false is = is
all_pass true true false k is = absurd (cc)
all_pass true false c k is = absurd (cc)
all_pass false p c k is = absurd (cc)

-- the same is seen of two minutes alone where equal values are
pub seen_exact : (one other : Seen) → same_seen one other ≡ true → one ≡ other
unfolding as_shown seen_back
seen_exact one other is =
    ap seen_back
    (unit_exact (as_shown one) (as_shown other)
    (all_pass (same_activity one.act other.act) (same_bool one.present other.present) (same_bool one.crew other.crew)
    (same_bool one.known other.known) is))
