-- The same is written of a day where the same is told of it.
use Rattle.std.proofs.Common.{◌≡◌, ◌∙◌, ℕ, List, ◌++◌, map, ap}
use Rattle.std.specs.Prelude.{Option, codes}
use Rattle.activity_codec.specs.declared.values.Slot.TheVariants.{Driver, CoDriver}
use Rattle.view_model.specs.declared.UnitShown.{UnitShown}
use Rattle.view_model.specs.declared.CardShown.{CardShown}
use Rattle.view_model.specs.declared.Viewed.{Viewed}
use Rattle.view_model.specs.declared.marks.Gap.{Gap}
use Rattle.view_model.specs.declared.marks.Distance.{Distance}
use Rattle.slot_bars.specs.declared.seen.Seen.{Seen}
use Rattle.slot_bars.specs.Seeing.{slot_seen, card_seen}
use Rattle.slot_bars.specs.DaysOf.{day_of}
use Rattle.slot_bars.specs.Gaps.{AreSameGaps}
use Rattle.slot_bars.proofs.Runs.{seen_same}
use Rattle.day_totals.specs.Figures.{distance_on, AreSameDistances}
use Rattle.day_totals.specs.Text.{totals_text, unit_day_text, card_day_text}

pub unit_same : (gaps gaps' : List Gap) (told told' : List Distance) → AreSameGaps gaps gaps' → AreSameDistances told told' → (date : List ℕ) (minutes : List (Viewed UnitShown))
    → unit_day_text gaps told date minutes ≡ unit_day_text gaps' told' date minutes
unit_same gaps gaps' told told' same_gaps same date minutes =
    let text : List (Viewed Seen) → List (Viewed Seen) → Option ℕ → List ℕ = λ driver codriver km. date ++ totals_text (codes "driver") driver km ++ date ++ totals_text (codes "codriver") codriver km in
    let driver = seen_same gaps gaps' same_gaps Driver minutes in
    let codriver = seen_same gaps gaps' same_gaps CoDriver minutes in
    ap (λ (l : List (Viewed Seen)). text l (map (slot_seen gaps CoDriver) minutes) (distance_on told (day_of minutes))) driver
    ∙ ap (λ (l : List (Viewed Seen)). text (map (slot_seen gaps' Driver) minutes) l (distance_on told (day_of minutes))) codriver
    ∙ ap (λ (km : Option ℕ). text (map (slot_seen gaps' Driver) minutes) (map (slot_seen gaps' CoDriver) minutes) km) (same (day_of minutes))

pub card_same : (told told' : List Distance) → AreSameDistances told told' → (date : List ℕ) (minutes : List (Viewed CardShown)) → card_day_text told date minutes ≡ card_day_text told' date minutes
card_same told told' same date minutes =
    ap (λ (km : Option ℕ). date ++ totals_text (codes "holder") (map card_seen minutes) km) (same (day_of minutes))
