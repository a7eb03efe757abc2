-- The entries of a card's days, and the newest minute that an insertion ends with.
use Rattle.std.specs.Prelude.{◌≡◌, ◌⊎◌, length, ℕ, zero, suc, ◌+◌, ◌/◌, ◌%◌, ◌<◌, ◌≤◌, max, false, Option, Some, None}
use Rattle.std.specs.Prelude.{List, [], ◌∷◌, ◌++◌, nat_eq, nat_le, if◌then◌else◌}
use Rattle.activity_codec.specs.declared.entries.Entry.{Entry}
use Rattle.activity_codec.specs.Words.{word_slot, word_crew, word_act, word_absent, word_minute}
use Rattle.card_model.specs.Days.{Day, last_word}
use Rattle.card_model.specs.Changes.{date_of, early}
use Rattle.card_retention.specs.Shown.{is_open}

-- the last word in list order that is not after a minute of the day
abbrev pub latest : List ℕ → ℕ → Option ℕ
latest [] t = None
latest (w ∷ ws) t = elim (latest ws t) as (λ _. Option ℕ)
    [ Some v ↦ Some v | None ↦ if nat_le (word_minute w) t then Some w else None ]

-- the entry that a word tells of a minute, where it is not absent
abbrev pub told_by : ℕ → Option ℕ → Option Entry
told_by m None = None
told_by m (Some w) = if word_absent w then None
    else Some (record { minute = m; slot = word_slot w; crew = word_crew w; act = word_act w })

-- the entry of a minute of a day, up to the mark
abbrev pub entry_at : (mark : ℕ) → Day → ℕ → Option Entry
entry_at mark d t = if nat_le (d.date / 60 + t) mark then told_by (d.date / 60 + t) (latest d.words t) else None

-- what so many minutes from one on tell
abbrev pub minutes_from : (ℕ → Option Entry) → (count t : ℕ) → List Entry
minutes_from f zero t = []
minutes_from f (suc n) t = elim (f t) as (λ _. List Entry)
    [ Some e ↦ e ∷ minutes_from f n (t + 1) | None ↦ minutes_from f n (t + 1) ]

-- the entries that a day tells, up to the mark
unfoldable pub day_entries : (mark : ℕ) → Day → List Entry
day_entries mark d = minutes_from (entry_at mark d) 1440 0

-- the entries that days tell, up to the mark
abbrev pub entries_up_to : (mark : ℕ) → List Day → List Entry
entries_up_to mark [] = []
entries_up_to mark (d ∷ ds) = day_entries mark d ++ entries_up_to mark ds

-- the last of some entries, if there is one
abbrev pub last_entry : List Entry → Option Entry
last_entry [] = None
last_entry (e ∷ []) = Some e
last_entry (e ∷ f ∷ es) = last_entry (f ∷ es)

-- the minute of the newest word, 0 without one
abbrev pub newest_word : List Day → ℕ
newest_word [] = 0
newest_word (d ∷ []) = d.date / 60 + word_minute (last_word d.words)
newest_word (d ∷ e ∷ ds) = newest_word (e ∷ ds)

-- the minute of the closing word behind an entry, where its day has room for one
abbrev pub closed_at : Option Entry → ℕ
closed_at None = 0
closed_at (Some e) = if nat_eq (suc e.minute % 1440) 0 then e.minute else suc e.minute

-- the newest minute of a card once an insertion that is given nothing has ended
abbrev pub newest_minute : (mark : ℕ) → List Day → ℕ
newest_minute mark days = if is_open mark days then suc mark else max mark (newest_word days)

-- an entry's word that is the latest is not behind the mark
abbrev pub EndsBy : (mark : ℕ) → List Day → Type 0
EndsBy mark [] = Unit {0}
EndsBy mark (d ∷ []) = word_absent (last_word d.words) ≡ false → d.date / 60 + word_minute (last_word d.words) ≤ mark
EndsBy mark (d ∷ e ∷ ds) = EndsBy mark (e ∷ ds)

-- Behind an entry's word, the latest up to the mark in the mark's day, nothing follows at all, or a word of that day
-- does, or the mark is a day's last minute. (So it is where the first word behind the mark stands at the minute after
-- it.)
abbrev pub IsChecked : (mark : ℕ) → List Day → Type 0
IsChecked mark [] = Unit {0}
IsChecked mark (d ∷ ds) =
    (d.date ≡ date_of mark → word_absent (last_word (early (mark % 1440) d.words)) ≡ false
    → (ds ≡ [] × (early (mark % 1440) d.words ≡ d.words))
    ⊎ ((length (early (mark % 1440) d.words) < length d.words) ⊎ (suc mark % 1440 ≡ 0)))
    × IsChecked mark ds
