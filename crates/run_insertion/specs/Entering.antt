-- What becomes of a card that was put into a slot, or meets power there, by value (profile).
use Rattle.std.specs.Prelude.{ℕ, ◌+◌, ◌-◌, ◌/◌, ◌^◌, min, Bool, true, false, Option, Some, None, Result, Ok, Err, List}
use Rattle.std.specs.Prelude.{[]}
use Rattle.std.specs.Prelude.{◌∷◌, length, drop, nat_lt, replicate, if◌then◌else◌}
use Rattle.activity_codec.specs.declared.entries.Entry.{Entry}
use Rattle.activity_codec.specs.declared.values.Slot.{Slot}
use Rattle.activity_codec.specs.declared.values.Slot.TheVariants.{Driver, CoDriver}
use Rattle.tacho_types.specs.declared.texts.Registration.{Registration}
use Rattle.card_layout.specs.declared.files.Application.{Application}
use Rattle.card_layout.specs.declared.files.Fid.{Fid}
use Rattle.run_events.specs.card_files.declared.vehicle.Vehicle.{Vehicle}
use Rattle.card_session.specs.Sessions.{Session}
use Rattle.card_layout.specs.Application.{place_of_field}
use Rattle.card_validity.specs.declared.looking.CardLook.{CardLook}
use Rattle.unit_notes.specs.declared.insertion.Insertion.{Insertion}
use Rattle.log_model.specs.run_model.declared.Device.{Device}
use Rattle.log_model.specs.declared.lines.Break.{Break}
use Rattle.log_model.specs.declared.lines.Find.{Find}
use Rattle.log_model.specs.declared.lines.Mark.{Mark}
use Rattle.log_model.specs.declared.lines.Verdict.{Verdict}
use Rattle.log_model.specs.declared.lines.Verdict.TheVariants as verdict
use Rattle.log_model.specs.Causes.{device_of}
use Rattle.device_calls.specs.declared.entering.Entered.{Entered}
use Rattle.hand_model.specs.Holding.{none_held}
use Rattle.run_crew.specs.declared.cabin.Cabin.{Cabin}
use Rattle.run_crew.specs.Cabin.{torn_out, with_sizes_of, with_accepted}
use Rattle.run_outcome.specs.Lines.{Listed}
use Rattle.run_outcome.specs.declared.outcome.Outcome.{Outcome}
use Rattle.run_minutes.specs.declared.keeper.Keeper.{Keeper}
use Rattle.run_minutes.specs.Keeping.{tear_of, with_lines}
use Rattle.run_insertion.specs.declared.lines.Entering.{Entering}
use Rattle.run_insertion.specs.declared.waking.TheConstants.{UNTOLD}

-- ---- what becomes of a card

-- A card that goes by its sizes is judged: a file of it fails at a place; or it tells of a later time; or a call on it
-- failed; or the unit failed as it was asked what it owes. Or it is found to be accepted, with the entries that were
-- owed, the clock after these, and the unit failed as its insertion was noted; or it is accepted by the insertion with
-- this index; or it is so, and a call on it failed since.
pub data Ending : Type 0 where
  Unfit : (fid : Fid) (place : ℕ) → Ending
  Ahead : (stored : ℕ) → Ending
  Fell : Ending
  Unasked : Ending
  Unnoted : (entered : Entered) (clock : ℕ) → Ending
  Seated : (entered : Entered) (clock entry : ℕ) → Ending
  Lost : (entered : Entered) (clock entry : ℕ) → Ending

-- A card that enters: it failed before it told its sizes; or a field of these is bad; or it went by these, and ended
-- so.
pub data Way : Type 0 where
  Unread : Way
  Unsized : (field : ℕ) → Way
  Judged : (app : Application) → Ending → Way

-- ---- the lines

-- the line that tells what was found of the card
abbrev pub find_of : Entering → Verdict → Find
find_of e verdict = record { second = e.at.second; slot = e.slot; verdict = verdict; begun = e.at.begun }

-- what is told of it by each ending: one find, or none
abbrev pub finds_by : Ending → Entering → List Find
finds_by (Unfit fid place) e = find_of e (verdict.NotValid fid place) ∷ []
finds_by (Ahead stored) e = find_of e (verdict.TimeOverlap stored e.at.second) ∷ []
finds_by Fell e = []
finds_by Unasked e = []
finds_by (Unnoted entered clock) e = find_of e (verdict.Accepted entered.replayed) ∷ []
finds_by (Seated entered clock entry) e = find_of e (verdict.Accepted entered.replayed) ∷ []
finds_by (Lost entered clock entry) e = find_of e (verdict.Accepted entered.replayed) ∷ []

-- and the line of its tear, where it is torn out
abbrev pub breaks_by : Ending → Entering → List Break
breaks_by (Unfit fid place) e = []
breaks_by (Ahead stored) e = []
breaks_by Fell e = tear_of e.slot e.at ∷ []
breaks_by Unasked e = []
breaks_by (Unnoted entered clock) e = []
breaks_by (Seated entered clock entry) e = []
breaks_by (Lost entered clock entry) e = tear_of e.slot e.at ∷ []

-- a line more, where there is room
abbrev pub and_mark : Mark → Listed Mark → Listed Mark
and_mark mark marks = if nat_lt (length marks.items) marks.room then with_lines (mark ∷ []) marks else marks

-- the marks of entries that a device has, all at this clock
abbrev pub and_marks : Device → (clock : ℕ) → List Entry → Listed Mark → Listed Mark
and_marks device clock [] marks = marks
and_marks device clock (e ∷ es) marks = and_marks device clock es
    (and_mark (record { device = device; minute = e.minute; clock = clock }) marks)

-- the last ones of these entries, so many
abbrev pub last_of : List Entry → (many : ℕ) → List Entry
last_of es many = drop (length es - many) es

-- so many entries are owed to a card at most
abbrev pub most_owed : ℕ
most_owed = 4

-- the marks of the entries that were put on a card that is accepted
abbrev pub replayed_marks : Entered → (clock : ℕ) → Entering → Listed Mark → Listed Mark
replayed_marks entered clock e marks = and_marks (device_of e.which) clock (last_of entered.owed.items entered.replayed)
    marks

-- the marks behind each ending
abbrev pub marks_by : Ending → Entering → Listed Mark → Listed Mark
marks_by (Unfit fid place) e marks = marks
marks_by (Ahead stored) e marks = marks
marks_by Fell e marks = marks
marks_by Unasked e marks = marks
marks_by (Unnoted entered clock) e marks = replayed_marks entered clock e marks
marks_by (Seated entered clock entry) e marks = replayed_marks entered clock e marks
marks_by (Lost entered clock entry) e marks = replayed_marks entered clock e marks

-- the outcome behind it
abbrev pub outcome_by : Ending → Entering → Outcome → Outcome
outcome_by ending e o = record {
  marks = marks_by ending e o.marks;
  breaks = with_lines (breaks_by ending e) o.breaks;
  refused = o.refused;
  finds = with_lines (finds_by ending e) o.finds;
}

-- ---- slots, sessions and insertions

-- so many insertions were noted, with one more
abbrev pub and_one : ℕ → ℕ
and_one noted = min (noted + 1) (2 ^ 64 - 1)

-- how many insertions were noted behind each
abbrev pub noted_by : Ending → ℕ → ℕ
noted_by (Unfit fid place) noted = noted
noted_by (Ahead stored) noted = noted
noted_by Fell noted = noted
noted_by Unasked noted = noted
noted_by (Unnoted entered clock) noted = noted
noted_by (Seated entered clock entry) noted = and_one noted
noted_by (Lost entered clock entry) noted = and_one noted

-- the card is accepted in its slot
abbrev pub seated : CardLook → Session → (row entry noted : ℕ) → Entering → Cabin → Cabin
seated look session row entry noted e cabin =
    with_accepted e.slot e.which look.number row
    (record { session = session; held = none_held (e.at.second / 60); entry = entry; noted = and_one noted }) cabin

-- slots and sessions behind each
abbrev pub cabin_by : Ending → Entering → (noted : ℕ) → Cabin → Cabin
cabin_by (Unfit fid place) e noted cabin = cabin
cabin_by (Ahead stored) e noted cabin = cabin
cabin_by Fell e noted cabin = torn_out e.which e.at.second cabin
cabin_by Unasked e noted cabin = cabin
cabin_by (Unnoted entered clock) e noted cabin = cabin
cabin_by (Seated entered clock entry) e noted cabin = seated entered.look entered.session entered.row entry noted e
    cabin
cabin_by (Lost entered clock entry) e noted cabin = torn_out e.which e.at.second
    (seated entered.look entered.session entered.row entry noted e cabin)

-- ---- how it ends

-- a card is torn out, or is not
abbrev pub fallen : Bool → Entering → Keeper → Keeper
fallen false e k = k
fallen true e k = record k { cabin = torn_out e.which e.at.second k.cabin }

-- the line of its tear, if it is torn out
abbrev pub fallen_breaks : Bool → Entering → List Break
fallen_breaks false e = []
fallen_breaks true e = tear_of e.slot e.at ∷ []

-- an accepted card ended so
abbrev pub taken_as : (fell : Bool) → Entered → (clock : ℕ) → Option ℕ → Ending
taken_as fell entered clock None = Unnoted entered clock
taken_as false entered clock (Some entry) = Seated entered clock entry
taken_as true entered clock (Some entry) = Lost entered clock entry

-- so often the card has failed
abbrev pub falls_of : Ending → ℕ
falls_of (Unfit fid place) = 0
falls_of (Ahead stored) = 0
falls_of Fell = 1
falls_of Unasked = 0
falls_of (Unnoted entered clock) = 0
falls_of (Seated entered clock entry) = 0
falls_of (Lost entered clock entry) = 1

-- how often a card was torn out: once, or not at all
abbrev pub count_of : Bool → ℕ
count_of false = 0
count_of true = 1

-- the file that tells the sizes of a card, Application_Identification
abbrev pub APPLICATION_FILE : Fid
APPLICATION_FILE = record { 0 = 0x0501 }

-- the ending of each way: a card that could not be read fell, and one of bad sizes is not valid
abbrev pub ending_of : Way → Ending
ending_of Unread = Fell
ending_of (Unsized field) = Unfit APPLICATION_FILE (place_of_field field)
ending_of (Judged app ending) = ending

-- what it told of its sizes
abbrev pub sizes_by : Way → Result Application ℕ
sizes_by Unread = Err UNTOLD
sizes_by (Unsized field) = Err field
sizes_by (Judged app ending) = Ok app

-- the keeper that knows these sizes
abbrev pub measured : Way → Entering → Keeper → Keeper
measured way e k = record k { cabin = with_sizes_of e.which (sizes_by way) k.cabin }

-- ---- the insertion's entry

-- a slot as the entry has it
abbrev pub slot_number : Slot → ℕ
slot_number Driver = 0
slot_number CoDriver = 1

-- the registration of the card's newest vehicle, or zeros
abbrev pub previous_of : Option Vehicle → Registration
previous_of None = record { 0 = replicate 15 0 }
previous_of (Some vehicle) = vehicle.registration

-- and when it last used that, or 0
abbrev pub previous_time_of : Option Vehicle → ℕ
previous_time_of None = 0
previous_time_of (Some vehicle) = vehicle.last_use.0

-- THE ENTRY OF AN INSERTION: what the card told, the time, the odometer and the slot; it is not withdrawn yet
abbrev pub insertion_of : CardLook → Entering → Insertion
insertion_of look e = record {
  surname = look.surname;
  first = look.first;
  number = look.number;
  expiry = look.expiry;
  time = record { 0 = e.at.second };
  odometer = e.odometer;
  slot = slot_number e.slot;
  out_time = record { 0 = 0 };
  out_odometer = record { 0 = 0 };
  previous = previous_of look.previous;
  previous_time = record { 0 = previous_time_of look.previous };
  manual = 0;
}
