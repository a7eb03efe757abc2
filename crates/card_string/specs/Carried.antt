-- What is carried of a card's string of days (profile): in a session, and where one was broken off.
use Rattle.std.specs.Prelude.{◌≡◌, ℕ, ◌/◌, List, [], ◌∷◌, ◌++◌}
use Rattle.card_by_hand.specs.activity_codec.declared.entries.Entry.{Entry}
use Rattle.tach_media.specs.card_layout.declared.files.Application.{Application}
use Rattle.card_by_hand.specs.card_model.Days.{Day}
use Rattle.card_by_hand.specs.card_model.Changes.{date_of, trimmed}
use Rattle.card_by_hand.specs.card_retention.Expected.{Counted, expected_days}
use Rattle.card_by_hand.specs.card_retention.Entries.{entries_up_to}
use Rattle.card_by_hand.specs.card_retention.Retains.{entries_in, begun_on, CardRetains}
use Rattle.card_by_hand.specs.card_retention.Shown.{Bound, AllBefore, AllUpTo, AllIn, Rests, sizes}
use Rattle.card_by_hand.specs.card_image.Fields.{card_days, end_mark}
use Rattle.card_by_hand.specs.card_image.View.{card_view}
use Rattle.card_by_hand.specs.card_session.Books.{bare_word}
use Rattle.card_by_hand.specs.card_session.Overwriting.{DaysFollowOverwriting, ShowsEntries, TellsNoLater}

-- In a session: of all entries so far the card shows those whose days it has, and keeps the rule of overwriting where
-- the next one is not earlier than `from`; behind the end mark no minute tells one, but where the closing word is still
-- to come.
pub record StringFollowsEntries (app : Application) (slack : Bound) (covered from : ℕ) (c : Counted) (all : List Entry)
    (x : List ℕ) : Type 0 where
  pub lives : DaysFollowOverwriting app slack covered from c x
  pub until : AllUpTo (end_mark app x) all
  pub lists : ShowsEntries app all x
  pub silent : TellsNoLater app x

-- Of days that were broken off at an end mark: the same of what a repair leaves.
pub record BrokeOf (size : ℕ) (slack : Bound) (covered from mark : ℕ) (c : Counted) (all : List Entry)
    (days : List Day) : Type 0 where
  pub rests : Rests size slack covered from mark c (trimmed mark days)
  pub until : AllUpTo mark all
  pub lists : entries_up_to mark days ≡ entries_in (sizes (trimmed mark days)) all

-- Or the first entry's keep was broken off on the day of the end mark, where that is later than each day that the
-- string had: a repair leaves these, and that day with its first word. No expected day is as late, and no entry is on
-- it.
pub record BegunOf (size : ℕ) (slack : Bound) (covered from mark : ℕ) (c : Counted) (all : List Entry)
    (days : List Day) : Type 0 where
  pub older : List Day
  pub young : Day
  pub is : trimmed mark days ≡ older ++ young ∷ []
  pub date : young.date ≡ date_of mark
  pub first : young.words ≡ bare_word ∷ []
  pub rests : Rests size slack covered from mark c older
  pub before : AllBefore (mark / 1440) (sizes older)
  pub fresh : AllBefore (mark / 1440) c.days
  pub until : AllUpTo mark all
  pub lists : entries_up_to mark days ≡ entries_in (sizes older) all
  pub empty : entries_in (begun_on (mark / 1440) ∷ []) all ≡ []

-- the same of a card by its image, where a keep was broken off
abbrev pub Broke : Application → (slack : Bound) → (covered from : ℕ) → Counted → (all : List Entry) → List ℕ → Type 0
Broke app slack covered from c all x = BrokeOf app.activity slack covered from (end_mark app x) c all (card_days app x)

-- and where that of the first entry was, on the day of the end mark
abbrev pub Begun : Application → (slack : Bound) → (covered from : ℕ) → Counted → (all : List Entry) → List ℕ → Type 0
Begun app slack covered from c all x = BegunOf app.activity slack covered from (end_mark app x) c all (card_days app x)

-- No expected day reaches that of the end mark, and no entry is on it: so it is at the start of a card whose newest day
-- is earlier.
abbrev pub IsFresh : Application → Counted → (all : List Entry) → List ℕ → Type 0
IsFresh app c all x =
    AllBefore (end_mark app x / 1440) c.days × (entries_in (begun_on (end_mark app x / 1440) ∷ []) all ≡ [])

-- What is stated of it: the days that count on the card keep the rule, where the next entry is not earlier than `n`;
-- and the day of each of these first ones, from the oldest on, is there.
abbrev pub IsStated : Application → (slack : Bound) → (covered marked : ℕ) → Counted → (first all : List Entry)
    → (n : ℕ) → List ℕ → Type 0
IsStated app slack covered marked c first all n x =
    (r : CardRetains app.activity slack.bytes marked (expected_days covered n c) all (card_view app x).held.days
    (card_view app x).held.entries)
    × AllIn r.oldest first (card_view app x).held.days
