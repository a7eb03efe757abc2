-- What a card shows, by the stated overwriting, of the entries that an insertion replays, and its newest minute with
-- them.
use Rattle.std.specs.Prelude.{◌≡◌, ◌⊎◌, ℕ, ◌/◌, ◌<◌, false, Some, List, [], ◌∷◌, ◌++◌}
use Rattle.activity_codec.specs.declared.entries.Entry.{Entry}
use Rattle.card_layout.specs.declared.files.Application.{Application}
use Rattle.card_days.specs.card_model.Days.{Day}
use Rattle.card_days.specs.card_model.Changes.{trimmed}
use Rattle.card_validity.specs.card_retention.Expected.{Counted, is_newest, with_entry}
use Rattle.card_validity.specs.card_retention.Shown.{Bound, Rests, sizes}
use Rattle.card_validity.specs.card_retention.Entries.{entries_up_to, closed_at}
use Rattle.card_validity.specs.card_retention.Retains.{entries_in}
use Rattle.card_validity.specs.card_image.Fields.{card_days, end_mark}
use Rattle.card_session.specs.Inserting.{lacked}
use Rattle.card_session.specs.Overwriting.{DaysFollowOverwriting, and_entry}

-- the minute of the first of some entries, or this one where there is none
abbrev pub first_minute : (minute : ℕ) → List Entry → ℕ
first_minute minute [] = minute
first_minute minute (e ∷ es) = e.minute

-- the end mark behind some entries
abbrev pub mark_behind : (mark : ℕ) → List Entry → ℕ
mark_behind mark [] = mark
mark_behind mark (e ∷ es) = mark_behind e.minute es

-- the bound with some entries more
abbrev pub and_entries : Bound → List Entry → Bound
and_entries slack [] = slack
and_entries slack (e ∷ es) = and_entries (and_entry slack e) es

-- the count with some entries more
abbrev pub with_entries : (covered : ℕ) → Counted → List Entry → Counted
with_entries covered c [] = c
with_entries covered c (e ∷ es) = with_entries covered (with_entry covered c e) es

-- Days with an end mark, of entries that were lacked behind another: the first of them are there, the mark is that of
-- the last of these, and once a repair has cut the days to it they are those that the overwriting leaves of all so far.
pub record HasFirst (size : ℕ) (slack : Bound) (covered next mark : ℕ) (c : Counted) (es : List Entry) (now : ℕ)
    (days : List Day) : Type 0 where
  pub done : List Entry
  pub rest : List Entry
  pub split : es ≡ done ++ rest
  pub behind : now ≡ mark_behind mark done
  pub shows : Rests size (and_entries slack done) covered (first_minute next rest) now (with_entries covered c done)
      (trimmed now days)

-- the first entry's day, where the days that a cut leaves do not have it, is later than that of the end mark
abbrev pub BeginsLater : (mark : ℕ) → List Entry → List Day → Type 0
BeginsLater mark [] days = Unit {0}
BeginsLater mark (e ∷ es) days = is_newest (e.minute / 1440) (sizes days) ≡ false → mark / 1440 < e.minute / 1440

-- the owed entries that a card lacks
abbrev pub lacked_by : Application → List ℕ → List Entry → List Entry
lacked_by app x owed = lacked (end_mark app x) owed

-- a card shows the first of those that another lacked
abbrev pub ShowsFirst : Application → (slack : Bound) → (covered next : ℕ) → Counted → (owed : List Entry) → List ℕ
    → List ℕ → Type 0
ShowsFirst app slack covered next c owed x y = HasFirst app.activity slack covered next (end_mark app x) c
    (lacked_by app x owed) (end_mark app y) (card_days app y)

-- or all of them, whatever is kept next
abbrev pub ShowsOwed : Application → (slack : Bound) → (covered next : ℕ) → Counted → (owed : List Entry) → List ℕ
    → List ℕ → Type 0
ShowsOwed app slack covered next c owed x y = DaysFollowOverwriting app (and_entries slack (lacked_by app x owed))
    covered next (with_entries covered c (lacked_by app x owed)) y

-- Days with an end mark show, behind the entries of before, the first of those that were lacked behind another, and the
-- mark is that of the last of these.
pub record HasShown (mark : ℕ) (all es : List Entry) (now : ℕ) (days : List Day) : Type 0 where
  pub done : List Entry
  pub rest : List Entry
  pub split : es ≡ done ++ rest
  pub behind : now ≡ mark_behind mark done
  pub shows : entries_up_to now days ≡ entries_in (sizes days) (all ++ done)

-- a card shows, behind the entries of before, the first of those that another lacked
abbrev pub ShowsMore : Application → (all owed : List Entry) → List ℕ → List ℕ → Type 0
ShowsMore app all owed x y = HasShown (end_mark app x) all (lacked_by app x owed) (end_mark app y) (card_days app y)

-- the newest minute once some entries more are on the card: that of the closing word behind the last of them
abbrev pub newest_behind : (newest : ℕ) → List Entry → ℕ
newest_behind newest [] = newest
newest_behind newest (e ∷ es) = newest_behind (closed_at (Some e)) es

-- With the first of the entries that were lacked behind an end mark the newest minute is the one behind the last of
-- these. The end mark is that of the last of these, or, once all are there, the newest minute.
pub record NewestSoFar (mark was : ℕ) (es : List Entry) (now is : ℕ) : Type 0 where
  pub done : List Entry
  pub rest : List Entry
  pub split : es ≡ done ++ rest
  pub behind : (now ≡ mark_behind mark done) ⊎ ((rest ≡ []) × (now ≡ is))
  pub newest : is ≡ newest_behind was done
