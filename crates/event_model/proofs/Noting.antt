-- One event more, by how its type is kept.
use Rattle.std.proofs.Common.{◌≡◌, ℕ, ◌/◌, ◌<◌, true, false, cond, Option, None, List, [], ◌∷◌, ◌++◌, length}
use Rattle.std.specs.Prelude.{position}
use Rattle.event_model.specs.declared.kinds.Purpose.{Purpose}
use Rattle.event_model.specs.declared.entries.Held.{Held}
use Rattle.event_model.specs.Kinds.{is_by_day}
use Rattle.event_model.specs.Places.{is_of_day, place_beside, placed}
use Rattle.event_model.specs.Kept.{stored, KeepsRecent, KeepsDays}
use Rattle.event_model.proofs.Retaining.{recent-kept}
use Rattle.event_model.proofs.Daily.{day-kept}

-- the place of the event of the same day, where the purpose keeps one a day
abbrev beside : Purpose → List Held → Held → Option ℕ
beside p held event = cond (is_by_day p) (position (is_of_day (event.begin / 86400)) held) None

pub recently : (p : Purpose) (held all : List Held) (event : Held) → is_by_day p ≡ false → 0 < event.begin → KeepsRecent (length held) all (stored held) →
    KeepsRecent (length held) (all ++ event ∷ []) (stored (placed held event (place_beside p held event (beside p held event))))
recently p held all event other some keeps = rw other (recent-kept held all event some keeps)

pub daily : (p : Purpose) (held all : List Held) (event : Held) → is_by_day p ≡ true → 0 < event.begin → KeepsDays p (length held) all (stored held) →
    KeepsDays p (length held) (all ++ event ∷ []) (stored (placed held event (place_beside p held event (beside p held event))))
daily p held all event by_day some keeps = rw by_day (day-kept p held all event some keeps)
