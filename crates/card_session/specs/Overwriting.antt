-- What a card shows of all the entries that it has had, by the stated overwriting.
use Rattle.std.specs.Prelude.{◌≡◌, ℕ, ◌+◌, ◌/◌, ◌<◌, false, None, List, ◌∷◌, [], ◌++◌}
use Rattle.activity_codec.specs.declared.entries.Entry.{Entry}
use Rattle.card_layout.specs.declared.files.Application.{Application}
use Rattle.card_days.specs.card_model.Days.{Day}
use Rattle.card_days.specs.card_model.Changes.{trimmed}
use Rattle.card_validity.specs.card_retention.Expected.{Counted, is_newest}
use Rattle.card_validity.specs.card_retention.Shown.{Bound, Rests, Lives, sizes, is_open}
use Rattle.card_validity.specs.card_retention.Entries.{latest, told_by, entries_up_to}
use Rattle.card_validity.specs.card_retention.Retains.{entries_in}
use Rattle.card_validity.specs.card_image.Fields.{card_days, end_mark}

-- Between two calls of a session the days are those that the overwriting leaves of all that the entries brought, where
-- the next entry is not earlier than a minute.
abbrev pub DaysFollowOverwriting : Application → (slack : Bound) → (covered from : ℕ) → Counted → List ℕ → Type 0
DaysFollowOverwriting app slack covered from c x = Lives app.activity slack covered from (end_mark app x) c
    (card_days app x)

-- And so they are once a repair has cut them to the end mark.
abbrev pub IsRepairable : Application → (slack : Bound) → (covered from : ℕ) → Counted → List ℕ → Type 0
IsRepairable app slack covered from c x = Rests app.activity slack covered from (end_mark app x) c
    (trimmed (end_mark app x) (card_days app x))

-- the entries up to the end mark are those of all whose day is there
abbrev pub ShowsEntries : Application → List Entry → List ℕ → Type 0
ShowsEntries app all x = entries_up_to (end_mark app x) (card_days app x) ≡ entries_in (sizes (card_days app x)) all

-- no minute behind a mark tells an entry
abbrev pub IsSilentBehind : (mark : ℕ) → List Day → Type 0
IsSilentBehind mark [] = Unit {0}
IsSilentBehind mark (d ∷ ds) =
    ((t : ℕ) → t < 1440 → mark < d.date / 60 + t → told_by (d.date / 60 + t) (latest d.words t) ≡ None)
    × IsSilentBehind mark ds

-- Behind the end mark no minute tells an entry, but where the closing word behind the last one is still to come.
abbrev pub TellsNoLater : Application → List ℕ → Type 0
TellsNoLater app x = is_open (end_mark app x) (card_days app x) ≡ false
    → IsSilentBehind (end_mark app x) (card_days app x)

-- with one entry more
abbrev pub and_entry : Bound → Entry → Bound
and_entry slack e = record { bytes = slack.bytes; all = slack.all ++ e ∷ [] }

-- An entry's day, where it is new, is later than that of the end mark: so it is on each card whose end mark a session
-- has moved.
abbrev pub BeginsBehind : Application → Entry → List ℕ → Type 0
BeginsBehind app e x = is_newest (e.minute / 1440) (sizes (card_days app x)) ≡ false
    → end_mark app x / 1440 < e.minute / 1440
