-- What a card's image shows: its entries, its end mark, its session, and its newest minute.
use Rattle.std.specs.Prelude.{ℕ, ◌*◌, max, min, List, nat_eq, if◌then◌else◌}
use Rattle.card_retention.specs.activity_codec.declared.entries.Entry.{Entry}
use Rattle.card_files.specs.card_layout.declared.files.Application.{Application}
use Rattle.card_retention.specs.card_model.Days.{Day}
use Rattle.card_retention.specs.card_model.Changes.{trimmed}
use Rattle.card_retention.specs.Expected.{WordDay}
use Rattle.card_retention.specs.Shown.{sizes}
use Rattle.card_retention.specs.Entries.{entries_up_to, newest_word, newest_minute}
use Rattle.card_image.specs.Fields.{card_days, end_mark, session_time, last_use}

-- the days that count: while a session is open, those up to the end mark
abbrev pub counting : (session mark : ℕ) → List Day → List Day
counting session mark days = if nat_eq session 0 then days else trimmed mark days

-- the stored time of a card with this last use, session and days: no earlier second may be recorded on it
abbrev pub stored_of : (last_use session : ℕ) → List Day → ℕ
stored_of used session days = if nat_eq session 0 then max used (min 4294967295 (60 * newest_word days)) else used

-- what a string holds: the days that count, each with the number of its words, and the minutes that are on the card
pub record Held : Type 0 where
  pub days : List WordDay
  pub entries : List Entry

-- what the days of a string, its end mark and its session time show
pub record CardView : Type 0 where
  pub held : Held
  -- up to this minute they count
  pub mark : ℕ
  -- the second in which the open session began, 0 where none is open
  pub session : ℕ
  -- the newest minute of the card as its end mark trims it: the mark, its newest word's, or, where the latest word up
  -- to the mark is an entry's and the minute after it lies in its day, that minute, at which a closing word is still to
  -- come
  pub newest : ℕ
  -- the minute of the newest word that stands there, up to the mark or beyond it
  pub word : ℕ
  -- no second before this one may be recorded
  pub stored : ℕ

-- what days show, by the last use, the end mark and the session time
abbrev pub view_of : (last_use mark session : ℕ) → List Day → CardView
view_of used mark session days =
    record {
      held = record { days = sizes (counting session mark days); entries = entries_up_to mark days };
      mark = mark;
      session = session;
      newest = newest_minute mark (trimmed mark days);
      word = newest_word days;
      stored = stored_of used session days;
    }

-- WHAT A CARD OF THESE SIZES SHOWS
unfoldable pub card_view : Application → List ℕ → CardView
card_view app x = view_of (last_use app x) (end_mark app x) (session_time app x) (card_days app x)
