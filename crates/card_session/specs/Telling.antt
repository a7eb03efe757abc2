-- What a session writes, by the end of the string as it is kept.
use Rattle.std.specs.Prelude.{ℕ, suc, ◌+◌, ◌/◌, Bool, false, not, ◌&&◌, Option, Some, None, nat_eq, nat_lt}
use Rattle.std.specs.Prelude.{if◌then◌else◌}
use Rattle.activity_codec.specs.declared.values.Activity.{Activity}
use Rattle.activity_codec.specs.declared.values.Activity.TheVariants.{Rest}
use Rattle.activity_codec.specs.declared.entries.Entry.{Entry}
use Rattle.activity_codec.specs.Words.{word_minute, word_absent}
use Rattle.card_days.specs.card_model.Changes.{date_of}
use Rattle.card_days.specs.declared.head.Tail.{Tail}
use Rattle.card_session.specs.Books.{closing_word, entry_word}

-- The word that closes at the minute after the mark, where the latest word is an entry's and that minute lies in the
-- newest day.
abbrev pub closing_at : (mark : ℕ) → Activity → Option Tail → Option ℕ
closing_at mark act None = None
closing_at mark act (Some t) =
    if nat_lt (word_minute t.latest) 1440 && (nat_eq t.head.date.0 (date_of (suc mark)) && not (word_absent t.latest))
    then Some (closing_word (suc mark) act t.latest)
    else None

-- before an entry, only where it does not come at once
abbrev pub gap_word : (mark next : ℕ) → Option Tail → Option ℕ
gap_word mark next tail = if nat_eq next (suc mark) then None else closing_at mark Rest tail

-- the minute lies in the newest day
abbrev pub is_newest_day : (minute : ℕ) → Option Tail → Bool
is_newest_day minute None = false
is_newest_day minute (Some t) = nat_eq t.head.date.0 (date_of minute)

-- the word of an entry, where the latest word does not tell its state
abbrev pub entry_change : Entry → Option Tail → Option ℕ
entry_change e None = Some (entry_word e)
entry_change e (Some t) = if nat_eq (t.latest / 2048) (entry_word e / 2048) then None else Some (entry_word e)

-- the distance of the newest day, 0 without one
abbrev pub km_told : Option Tail → ℕ
km_told None = 0
km_told (Some t) = t.head.km.0

-- the minute of the newest word, 0 without a day
abbrev pub minute_told : Option Tail → ℕ
minute_told None = 0
minute_told (Some t) = t.head.date.0 / 60 + word_minute t.latest
