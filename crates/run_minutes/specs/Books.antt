-- What the keeping of a minute leaves of unit and cards, and of what was travelled, over devices that tell their images
-- (profile).
use Rattle.std.specs.Prelude.{◌≡◌, ◌⊎◌, ℕ, suc, ◌≤◌, ◌<◌, Bool, true, false, Option, Some, None, List, []}
use Rattle.std.specs.Prelude.{◌∷◌, if◌then◌else◌}
use Rattle.trace_model.specs.declared.Card.{Card}
use Rattle.tach_media.specs.Medium.{State, last_count}
use Rattle.log_model.specs.declared.lines.Mark.{Mark}
use Rattle.hand_model.specs.card_image.Own.{own_sizes, IsOwnValid}
use Rattle.device_calls.specs.Times.{AreTimedSince}
use Rattle.unit_minutes.specs.declared.kept.KeptMinute.{KeptMinute}
use Rattle.run_devices.specs.history_model.Minutes.{HistoryMinute, on_card}
use Rattle.run_devices.specs.history_model.Book.{kept, broken}
use Rattle.run_devices.specs.device_rule.Rules.{Standing, Out, In, Torn, IsPresent}
use Rattle.hand_model.specs.Holding.{Holding, none_held}
use Rattle.hand_model.specs.Written.{Hands, and_sure, and_given}
use Rattle.log_model.specs.Causes.{device_of}
use Rattle.device_calls.specs.OnCard.{hands_for}
use Rattle.run_devices.specs.safety_model.Safe.{Devices, card_of}
use Rattle.run_devices.specs.run_unit_course.Legs.{Travel, travelled, stranded}
use Rattle.device_calls.specs.unit_rule.Odometer.{HasTravelled, odometer_by, odometer_after}
use Rattle.card_slots.specs.declared.seats.Present.{Present}
use Rattle.run_crew.specs.declared.cards.Cards.{Cards}
use Rattle.run_devices.specs.run_promise.Found.{CardFound, Found, found_of}
use Rattle.run_devices.specs.run_promise.Cards.{FirstKeep, and_first}
use Rattle.run_devices.specs.run_promise.Between.{RunLedger}
use Rattle.run_devices.specs.Measured.{Reading, reading_at, MeasuresOn}
use Rattle.run_devices.specs.Told.{AreFoundCards, DevicesPowered, DevicesUnpowered, AreEarly}
use Rattle.run_minutes.specs.CardEvents.{LeavesEvents}
use Rattle.run_minutes.specs.Deeds.{AllKeep, kept_on}
use Rattle.run_minutes.specs.Keeping.{Fate, Still, Has, Fell, is_this}
use Rattle.run_minutes.specs.Minutes.{Round, KeepingState, marks_after}

-- ---- before

-- the minute of the history that is kept
abbrev pub history_minute : Present → KeptMinute → HistoryMinute
history_minute present m = record {
  minute = m.minute;
  driver = record { act = m.driver.act; card = present.driver };
  codriver = record { act = m.codriver.act; card = present.codriver };
}

-- UNIT AND CARDS ARE AS THE BOOK SAYS, between two calls while the unit has power: all that is carried stands, with the
-- marks that are told, and the cards go with their sessions.
pub record AreBooked (f : Found) (w : RunLedger) (cards : Cards) (marks : List Mark) (d : Devices) : Type 0 where
  pub found : AreFoundCards f cards
  pub powered : DevicesPowered f w cards d
  pub told : w.marks ≡ marks
  pub early : AreEarly w

-- A minute may come: it is not earlier than it may, and says something on a card only where that is valid and present.
pub record MayCome (f : Found) (w : RunLedger) (i : HistoryMinute) : Type 0 where
  pub day : 1440 ≤ i.minute
  pub late : w.due ≤ i.minute
  pub fits : (c : Card) → (on_card c i ≡ [])
      ⊎ (IsOwnValid (found_of f c).image × IsPresent (found_of f c).start (w.standing c) i.minute)

-- ---- behind

-- how a card stands behind what became of its entry
abbrev pub standing_by : Fate → (minute : ℕ) → Standing → Standing
standing_by Still minute z = z
standing_by (Has accepted clock) minute Out = Out
standing_by (Has accepted clock) minute (In time newest) = In time minute
standing_by (Has accepted clock) minute (Torn time newest floor) = Torn time newest floor
standing_by Fell minute Out = Out
standing_by Fell minute (In time newest) = Torn time minute minute
standing_by Fell minute (Torn time newest floor) = Torn time newest floor

-- what a card has of entries by hand behind a keep of a minute, before which its session held these: those of the
-- minute's day were written, or may have been
abbrev pub hands_by : Fate → Holding → (minute : ℕ) → Hands → Hands
hands_by Still held minute h = h
hands_by (Has accepted clock) held minute h = and_sure (hands_for held minute) h
hands_by Fell held minute h = and_given (hands_for held minute) h

-- and its sessions' first keeps, where it was acknowledged
abbrev pub firsts_by : Fate → Card → Holding → (minute : ℕ) → List FirstKeep → List FirstKeep
firsts_by Still c held minute firsts = firsts
firsts_by (Has accepted clock) c held minute firsts = and_first held.begun
    (record {
      mark = record { device = device_of c; minute = minute; clock = clock };
      hands = hands_for held minute;
    }) firsts
firsts_by Fell c held minute firsts = firsts

-- what became of that of a card
abbrev pub fate_of : Present → Round → Card → Fate
fate_of present round c = if is_this present.driver c then round.driver
    else (if is_this present.codriver c then round.codriver else Still)

-- what its session held before
abbrev pub held_of : Present → Round → Card → Holding
held_of present round c = if is_this present.driver c then round.driver_held
    else (if is_this present.codriver c then round.codriver_held else none_held 0)

-- what is carried behind a minute that is kept
abbrev pub carried_after : Present → HistoryMinute → Round → RunLedger → RunLedger
carried_after present i round w = record {
  due = suc i.minute;
  book = kept i w.book;
  marks = (marks_after present i.minute round (record { items = w.marks; room = 0 })).items;
  standing = λ c. standing_by (fate_of present round c) i.minute (w.standing c);
  brought = w.brought;
  hands = λ c. hands_by (fate_of present round c) (held_of present round c) i.minute (w.hands c);
  firsts = λ c. firsts_by (fate_of present round c) c (held_of present round c) i.minute (w.firsts c);
}

-- and behind one that was begun
abbrev pub carried_broken : HistoryMinute → RunLedger → RunLedger
carried_broken i w = record w { due = suc i.minute; book = broken i w.book }

-- the unit failed before it had a minute, up to which this was travelled: that was not begun, or was
abbrev pub IsLeftOff : Found → (start : ℕ) → RunLedger → HistoryMinute → Travel → (leg : ℕ) → Devices → Type 0
IsLeftOff f start w i g leg d = (DevicesUnpowered f w d × HasTravelled start w.book g d.unit)
    ⊎ (DevicesUnpowered f (carried_broken i w) d
    × HasTravelled start (broken i w.book) (stranded i.minute leg g) d.unit)

-- HOW IT FAILED in a minute: before it had it; or it has it, and a card was torn out
abbrev pub IsCutIn : Found → (start : ℕ) → RunLedger → Present → HistoryMinute → Travel → (leg : ℕ) → Option Round
    → Devices → Type 0
IsCutIn f start w present i g leg None d = IsLeftOff f start w i g leg d
IsCutIn f start w present i g leg (Some round) d = DevicesUnpowered f (carried_after present i round w) d
    × HasTravelled start (kept i w.book) (travelled i.minute leg g) d.unit

-- THE BOOK BEHIND A MINUTE that was to be kept: it is kept, all that is carried stands, and the cards go with their
-- sessions; or the unit failed in it.
abbrev pub IsBooked : Found → (start : ℕ) → RunLedger → Present → HistoryMinute → Travel → (leg : ℕ) → (failed : Bool)
    → Option Round → Cards → Devices → Type 0
IsBooked f start w present i g leg true round cards d = IsCutIn f start w present i g leg round d
IsBooked f start w present i g leg false None cards d = ⊥
IsBooked f start w present i g leg false (Some round) cards d = DevicesPowered f (carried_after present i round w) cards
    d × HasTravelled start (kept i w.book) (travelled i.minute leg g) d.unit

-- WHAT IS ASKED: unit and cards are as the book says, and the minute may come.
pub record MayBook (f : Found) (w : RunLedger) (present : Present) (m : KeptMinute) (cards : Cards) (marks : List Mark)
    (d : Devices) : Type 0 where
  pub booked : AreBooked f w cards marks d
  pub comes : MayCome f w (history_minute present m)

-- no clock stands at its last value
pub record HaveTime (d : Devices) : Type 0 where
  pub unit : d.unit.clock < last_count
  pub card_a : d.card_a.clock < last_count
  pub card_b : d.card_b.clock < last_count

-- In each image that a card might have left since the start its last use is that at the start, or a whole minute: so it
-- is behind a call where it was before,
abbrev pub IsTimedOn : CardFound → (old new : State) → Type 0
IsTimedOn f old new = AreTimedSince f.image f.began old → AreTimedSince f.image f.began new

-- its events are those of before, and its vehicle entries were measured with no other readings than these
abbrev pub StaysOn : CardFound → (values : List Reading) → (old new : State) → Type 0
StaysOn f values old new = IsTimedOn f old new × LeavesEvents (own_sizes f.image) old new
    × MeasuresOn (own_sizes f.image) values old new

-- so it is of each card that was valid
abbrev pub AreTimedOn : Found → (values : List Reading) → (d e : Devices) → Type 0
AreTimedOn f values d e = (c : Card) → IsOwnValid (found_of f c).image
    → StaysOn (found_of f c) values (card_of d c) (card_of e c)

-- A MINUTE WAS TO BE KEPT, whose odometer is that of the start and of what was travelled up to it, and this came of it:
-- so it is booked, and the cards keep it.
abbrev pub BooksMinute : Present → KeptMinute → (failed : Bool) → Option Round → (t u : KeepingState) → (d e : Devices)
    → Type 0
BooksMinute present m failed round t u d e = (f : Found) (w : RunLedger) (start : ℕ) (g : Travel) (leg : ℕ)
    → MayBook f w present m t.keeper.cabin.cards t.marks.items d → HasTravelled start w.book g d.unit
    → m.odometer.0 ≡ odometer_by (odometer_after start g.before) leg → HaveTime e
    → IsBooked f start w present (history_minute present m) g leg failed round u.keeper.cabin.cards e
    × AreTimedOn f (reading_at m.minute m.odometer.0 ∷ []) d e
    × (failed ≡ false → AllKeep f (kept_on present m) t.keeper.cabin.cards u.keeper.cabin.cards d e)
