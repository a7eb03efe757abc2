-- The events that an insertion brings on the card, by the way that it entered (profile).
use Rattle.std.specs.Prelude.{◌≡◌, ℕ, Bool, true, false, List, [], ◌∷◌, ◌++◌, nat_lt, if◌then◌else◌}
use Rattle.tach_media.specs.Medium.{State}
use Rattle.tacho_types.specs.declared.texts.Registration.{Registration}
use Rattle.card_layout.specs.declared.files.Application.{Application}
use Rattle.run_events.specs.card_files.declared.card_event.CardEvent.{CardEvent}
use Rattle.card_validity.specs.card_image.Own.{own_sizes}
use Rattle.run_insertion.specs.declared.lines.Entering.{Entering}
use Rattle.run_insertion.specs.Entering.{Ending, Unfit, Ahead, Fell, Unasked, Unnoted, Seated, Lost, Way, Unread}
use Rattle.run_insertion.specs.Entering.{Unsized, Judged}
use Rattle.run_insertion.specs.Noted.{moving_event}
use Rattle.run_insertion.specs.CardEvents.{ShowsMore, unclosed_on}

-- that the vehicle moves
abbrev pub moving_on : Registration → Entering → List CardEvent
moving_on registration e = if nat_lt 0 e.speed then moving_event registration e ∷ [] else []

-- THE EVENTS OF AN ENDING, by the image that was judged: that its session was not closed, and, once it is accepted,
-- that the vehicle moves
abbrev pub brought_on : Ending → Application → Registration → Entering → List ℕ → List CardEvent
brought_on (Unfit fid place) app registration e x = []
brought_on (Ahead stored) app registration e x = []
brought_on Fell app registration e x = unclosed_on app e.at.second x
brought_on Unasked app registration e x = []
brought_on (Unnoted entered clock) app registration e x = unclosed_on app e.at.second x
brought_on (Seated entered clock entry) app registration e x = unclosed_on app e.at.second x ++ moving_on registration e
brought_on (Lost entered clock entry) app registration e x = unclosed_on app e.at.second x ++ moving_on registration e

-- they may have been cut short: the card failed, or the unit did behind its insertion
abbrev pub is_cut_short : Ending → (failed : Bool) → Bool
is_cut_short (Unfit fid place) failed = false
is_cut_short (Ahead stored) failed = false
is_cut_short Fell failed = true
is_cut_short Unasked failed = false
is_cut_short (Unnoted entered clock) failed = true
is_cut_short (Seated entered clock entry) failed = failed
is_cut_short (Lost entered clock entry) failed = true

-- EACH IMAGE THAT THE CARD MAY LEAVE behind it shows these events more than one that it might have left before, type by
-- type; of a card that was not judged it is one of those.
abbrev pub BringsOnCard : Way → Registration → Entering → (failed : Bool) → (card card_after : State) → Type 0
BringsOnCard Unread registration e failed card card_after = (c : List ℕ) → card_after.may_leave c → card.may_leave c
BringsOnCard (Unsized field) registration e failed card card_after = (c : List ℕ) → card_after.may_leave c
    → card.may_leave c
BringsOnCard (Judged app ending) registration e failed card card_after = (c : List ℕ) → card_after.may_leave c
    → (x : List ℕ) × card.may_leave x × (own_sizes x ≡ app)
    × ShowsMore app (brought_on ending app registration e x) (is_cut_short ending failed) x c
