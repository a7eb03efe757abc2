-- Whether a card is valid: the checks of an insertion in their order, each with its file and its place in the file.
use Rattle.std.specs.Prelude.{◌≡◌, ℕ, suc, ◌+◌, ◌/◌, Bool, false, not, ◌&&◌, Option, Some, None, option_map, List, []}
use Rattle.std.specs.Prelude.{◌∷◌, ◌++◌, map, filter, nat_eq, nat_lt, nat_le, if◌then◌else◌}
use Rattle.card_retention.specs.activity_codec.Words.{word_absent, word_minute}
use Rattle.card_files.specs.card_layout.declared.files.Application.{Application}
use Rattle.card_files.specs.card_layout.declared.files.Fid.{Fid}
use Rattle.card_files.specs.card_layout.Application.{first_bad_field, place_of_field}
use Rattle.card_retention.specs.card_model.Days.{Day, len_of}
use Rattle.card_retention.specs.card_model.Changes.{date_of, trimmed}
use Rattle.card_retention.specs.card_model.Image.{oldest_pointer}
use Rattle.card_retention.specs.card_model.Checks.{Check, check, first_failing, file_place, first_bad}
use Rattle.card_files.specs.gated_ring.Ring.{Shape as RingShape, pointer}
use Rattle.card_image.specs.Fields.{file, file_bytes, day_string, vehicle_ring, place_ring, last_of, card_days}
use Rattle.card_image.specs.Fields.{end_mark, session_time}

-- a word of the string: the date of its day, the word, and its place in the file of days
pub record PlacedWord : Type 0 where
  pub date : ℕ
  pub word : ℕ
  pub place : ℕ

-- the minute at which it stands
abbrev pub minute_at : PlacedWord → ℕ
minute_at w = w.date / 60 + word_minute w.word

-- the words of a day from this one on, the first of them so far behind the oldest day
abbrev pub words_placed : (size oldest so_far date : ℕ) → List ℕ → List PlacedWord
words_placed size oldest so_far date [] = []
words_placed size oldest so_far date (w ∷ ws) =
    record { date = date; word = w; place = file_place size oldest so_far }
    ∷ words_placed size oldest (so_far + 2) date ws

-- the words of days that begin so far behind the oldest day: of each behind its fields
abbrev pub days_placed : (size oldest so_far : ℕ) → List Day → List PlacedWord
days_placed size oldest so_far [] = []
days_placed size oldest so_far (d ∷ ds) =
    words_placed size oldest (so_far + 12) d.date d.words ++ days_placed size oldest (so_far + len_of d) ds

-- the word tells that no card was there
abbrev pub tells_none : PlacedWord → Bool
tells_none w = word_absent w.word

-- the latest word up to the mark lies in the mark's day and is an entry's, and this one does not stand at the minute
-- after the mark
abbrev pub leaves_gap : (mark : ℕ) → Option PlacedWord → PlacedWord → Bool
leaves_gap mark None w = false
leaves_gap mark (Some latest) w = nat_eq latest.date (date_of mark)
    && (not (tells_none latest) && not (nat_eq (minute_at w) (suc mark)))

-- No word behind the mark is an entry's, and the first of them closes what is open at the mark.
abbrev pub closing_checks : (mark : ℕ) → Option PlacedWord → List PlacedWord → List Check
closing_checks mark latest [] = []
closing_checks mark latest (w ∷ ws) = check (tells_none w && not (leaves_gap mark latest w)) w.place
    ∷ map (λ v. check (tells_none v) v.place) ws

-- these checks of the words behind the mark, by the latest word up to it
abbrev pub words_behind_mark : (mark : ℕ) → List PlacedWord → List Check
words_behind_mark mark ws =
    closing_checks mark (last_of (filter (λ w. nat_le (minute_at w) mark) ws))
    (filter (λ w. nat_lt mark (minute_at w)) ws)

-- each word is later than the one before it
abbrev pub rising_checks : List PlacedWord → List Check
rising_checks [] = []
rising_checks (w ∷ []) = []
rising_checks (w ∷ v ∷ ws) = check (nat_lt (word_minute w.word) (word_minute v.word)) v.place ∷ rising_checks (v ∷ ws)

-- those of the newest of these days
abbrev pub newest_rises : (size oldest so_far : ℕ) → List Day → List Check
newest_rises size oldest so_far [] = []
newest_rises size oldest so_far (d ∷ []) = rising_checks (words_placed size oldest (so_far + 12) d.date d.words)
newest_rises size oldest so_far (d ∷ e ∷ ds) = newest_rises size oldest (so_far + len_of d) (e ∷ ds)

-- What an insertion asks of the words, beyond what any reader asks: where no session is open, that what stands behind
-- the end mark closes it; that the words of the newest day up to the mark rise; and, where no session is open, those of
-- the newest day too.
abbrev pub word_checks : (size oldest mark session : ℕ) → List Day → List Check
word_checks size oldest mark session days =
    (if nat_eq session 0 then words_behind_mark mark (days_placed size oldest 0 days) else [])
    ++ (newest_rises size oldest 0 (trimmed mark days)
    ++ (if nat_eq session 0 then newest_rises size oldest 0 days else []))

-- a file, and the place in it where it first fails
pub record FileCheck : Type 0 where
  pub fid : Fid
  pub bad : Option ℕ

-- the check of the file with this identifier, and the place where it fails
abbrev pub file_check : ℕ → Option ℕ → FileCheck
file_check fid bad = record { fid = file fid; bad = bad }

-- the first file that fails, with the place
abbrev pub first_bad_of : List FileCheck → Option (Fid × ℕ)
first_bad_of [] = None
first_bad_of (c ∷ cs) = elim c.bad as (λ _. Option (Fid × ℕ))
    [ Some place ↦ Some (c.fid, place) | None ↦ first_bad_of cs ]

-- a ring's pointer is an index; else its file fails at its front
abbrev pub pointer_bad : RingShape → List ℕ → Option ℕ
pointer_bad r x = if nat_lt (pointer r x) r.count then None else Some 0

-- the files in the order of judging: the sizes, the days, the two rings; then the words of the days
abbrev pub file_checks : Application → List ℕ → List FileCheck
file_checks app x =
    file_check 0x0501 (option_map place_of_field (first_bad_field (file_bytes app 0x0501 x)))
    ∷ file_check 0x0504 (first_bad (day_string app) x)
    ∷ file_check 0x0505 (pointer_bad (vehicle_ring app) x)
    ∷ file_check 0x0506 (pointer_bad (place_ring app) x)
    ∷ file_check 0x0504 (first_failing (word_checks app.activity (oldest_pointer (day_string app) x) (end_mark app x)
    (session_time app x) (card_days app x)))
    ∷ []

-- the file of a card's image that first fails, and the place in it, if one does
unfoldable pub first_bad_file : Application → List ℕ → Option (Fid × ℕ)
first_bad_file app x = first_bad_of (file_checks app x)

-- the card may be inserted
abbrev pub IsValid : Application → List ℕ → Type 0
IsValid app x = first_bad_file app x ≡ None
