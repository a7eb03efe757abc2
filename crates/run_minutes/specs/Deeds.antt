-- What the keeping of minutes makes of the cards, by value (profile).
use Rattle.std.specs.Prelude.{◌≡◌, ◌++◌, Option, Some, None, List, [], ◌∷◌, if◌then◌else◌}
use Rattle.activity_codec.specs.declared.values.Slot.TheVariants.{Driver, CoDriver}
use Rattle.trace_model.specs.declared.Card.{Card}
use Rattle.tach_media.specs.Medium.{State}
use Rattle.unit_model.specs.minute_model.declared.Minute.{Minute}
use Rattle.hand_model.specs.card_image.Own.{own_sizes, IsOwnValid}
use Rattle.card_session.specs.declared.session.Kept.{Kept}
use Rattle.unit_minutes.specs.declared.kept.KeptMinute.{KeptMinute}
use Rattle.run_devices.specs.safety_model.Safe.{Devices, card_of}
use Rattle.card_slots.specs.declared.seats.Present.{Present}
use Rattle.run_crew.specs.declared.cards.Accepted.{Accepted}
use Rattle.run_crew.specs.declared.cards.Cards.{Cards}
use Rattle.run_crew.specs.Cards.{session_of}
use Rattle.run_devices.specs.run_promise.Found.{CardFound, Found, found_of}
use Rattle.run_minutes.specs.declared.keeper.Keeper.{Keeper}
use Rattle.run_minutes.specs.CardDeeds.{DoesOn, keeps, holds_after, last_odometer}
use Rattle.run_minutes.specs.Keeping.{kept_in, is_this}
use Rattle.run_minutes.specs.Minutes.{present_at, minute_of}

-- A CARD KEEPS THESE, by the session that it has: that goes on with them, has kept none only where it had kept none and
-- there are none, and they are done on the card. Without one it shows what it showed; and nothing is said of one that
-- was torn out.
abbrev pub KeepsOn : CardFound → List Kept → (before after : Option Accepted) → (old new : State) → Type 0
KeepsOn f ks None None old new = DoesOn (own_sizes f.image) [] old new
KeepsOn f ks None (Some b) old new = ⊥
KeepsOn f ks (Some a) None old new = Unit {0}
KeepsOn f ks (Some a) (Some b) old new =
    (b.session.registration ≡ a.session.registration) × (b.session.odometer ≡ last_odometer a.session.odometer ks)
    × (b.held.entries ≡ holds_after a.held.entries ks)
    × (b.held.begun ≡ None → (a.held.begun ≡ None) × (ks ≡ []))
    × DoesOn (own_sizes f.image) (keeps a.session.registration a.session.odometer a.held.entries ks) old new

-- so does each card that was valid
abbrev pub AllKeep : Found → (Card → List Kept) → (cards after : Cards) → (d e : Devices) → Type 0
AllKeep f ks cards after d e = (c : Card) → IsOwnValid (found_of f c).image
    → KeepsOn (found_of f c) (ks c) (session_of cards c) (session_of after c) (card_of d c) (card_of e c)

-- ---- which minutes

-- one for the card that was present
abbrev pub kept_for : Option Card → Kept → Card → List Kept
kept_for present k c = if is_this present c then k ∷ [] else []

-- what a minute says on a card
abbrev pub kept_on : Present → KeptMinute → Card → List Kept
kept_on present m c = if is_this present.driver c then kept_in m Driver ∷ []
    else kept_for present.codriver (kept_in m CoDriver) c

-- what some decided minutes say on it
abbrev pub kepts_on : Keeper → List Minute → Card → List Kept
kepts_on k [] c = []
kepts_on k (m ∷ ms) c = kept_on (present_at k.cabin m.minute) (minute_of m k) c ++ kepts_on k ms c
