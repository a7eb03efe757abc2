-- A card's image read by the sizes that it tells itself, and what the stated overwriting leaves of a card's entries.
use Rattle.std.specs.Prelude.{◌≡◌, ℕ, ◌/◌, ◌≤◌, Option, None, List, ◌++◌, Contains}
use Rattle.card_retention.specs.activity_codec.declared.entries.Entry.{Entry}
use Rattle.card_retention.specs.activity_codec.declared.entries.Manual.{Manual}
use Rattle.card_files.specs.card_layout.declared.files.Application.{Application}
use Rattle.card_files.specs.card_layout.declared.files.Fid.{Fid}
use Rattle.card_files.specs.card_layout.Application.{application_in, application_of}
use Rattle.card_retention.specs.Expected.{WordDay, Counted, counted, expected_days}
use Rattle.card_retention.specs.ByHand.{and_by_hand}
use Rattle.card_retention.specs.Entries.{last_entry, newest_word}
use Rattle.card_retention.specs.Shown.{InDays}
use Rattle.card_retention.specs.Retains.{CardRetains}
use Rattle.card_image.specs.Fields.{card_days, card_number, end_mark, session_time}
use Rattle.card_image.specs.View.{Held, CardView, card_view, counting}
use Rattle.card_image.specs.Judging.{first_bad_file}

-- the sizes that a card's image tells, in Application_Identification
unfoldable pub own_sizes : List ℕ → Application
own_sizes x = application_of (application_in x)

-- what it shows
unfoldable pub own_view : List ℕ → CardView
own_view x = card_view (own_sizes x) x

-- its number
unfoldable pub own_number : List ℕ → List ℕ
own_number x = card_number (own_sizes x) x

-- the file of it that first fails, and the place in it, if one does
unfoldable pub own_bad_file : List ℕ → Option (Fid × ℕ)
own_bad_file x = first_bad_file (own_sizes x) x

-- the card may be inserted
abbrev pub IsOwnValid : List ℕ → Type 0
IsOwnValid x = own_bad_file x ≡ None

-- the minute up to which the days that count have words
abbrev pub own_covered : List ℕ → ℕ
own_covered x =
    newest_word (counting (session_time (own_sizes x) x) (end_mark (own_sizes x) x) (card_days (own_sizes x) x))

-- the days that count on a card, and its last entry
abbrev pub counted_view : CardView → Counted
counted_view v = record { days = v.held.days; before = last_entry v.held.entries }

-- The days that the entries of a card have, whose image was this at the start: the days that count there, and those
-- that further entries bring, where the next one is not earlier than a minute.
unfoldable pub expected_with : (start : List ℕ) → (next : ℕ) → List Entry → List WordDay
expected_with start next more =
    expected_days (own_covered start) next (counted (own_covered start) (counted_view (own_view start)) more)

-- Each day at the start up to that of the end mark, from this one on, is one of these: a repair cuts later days only.
abbrev pub StandsFrom : (start : List ℕ) → (oldest : ℕ) → List WordDay → Type 0
StandsFrom start oldest days = (d : WordDay) → Contains (own_view start).held.days d →
    d.day ≤ (own_view start).mark / 1440 → oldest ≤ d.day → InDays d.day days

-- how many bytes the days that count as there may lack of the string, at most: those of a new day of ten words, eight
-- of them by hand, which the first keep of a session may write and a repair cuts again
abbrev pub most_slack : ℕ
most_slack = 32

-- Of these entries, which begin with its own, a card whose image was this at the start keeps all but those of whole
-- days at the old end, where the next one is not earlier than a minute; the newest of these days, those that are there
-- and 32 bytes together exceed its string. Each entry by hand is a word more of its day, also one that is lost. A day
-- that was begun on that of its end mark, and has no entry yet, may be there with its first word.
pub record KeepsFrom (start : List ℕ) (hands : List Manual) (from : ℕ) (all : List Entry) (held : Held) : Type 0 where
  pub more : List Entry
  pub begins : all ≡ (own_view start).held.entries ++ more
  pub keeps : (next : ℕ) → from ≤ next →
      (r : CardRetains (own_sizes start).activity most_slack ((own_view start).mark / 1440)
      (and_by_hand hands (expected_with start next more)) all
      held.days held.entries)
      × StandsFrom start r.oldest held.days

-- And where it is late enough, so that behind the last entry its closing word counts.
abbrev pub KeepsOf : (start : List ℕ) → (hands : List Manual) → List Entry → Held → Type 0
KeepsOf start hands all held = (from : ℕ) × KeepsFrom start hands from all held
