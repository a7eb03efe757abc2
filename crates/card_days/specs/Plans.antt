-- The writes of the calls on a string, in their order, by what is kept of it.
use Rattle.std.specs.Prelude.{ℕ, ◌+◌, ◌-◌, ◌*◌, ◌%◌, ◌&&◌, List, [], ◌∷◌, ◌++◌, length, take, drop, nat_eq, nat_le}
use Rattle.std.specs.Prelude.{nat_lt, if◌then◌else◌, ◌==◌}
use Rattle.card_model.specs.declared.lengths.TheConstants.{DAY_LEAST, DAY_MOST}
use Rattle.tach_media.specs.Medium.{bytes_at}
use Rattle.tach_media.specs.Plan.{Piece, piece}
use Rattle.card_model.specs.Bytes.{number, two_bytes}
use Rattle.card_model.specs.Days.{Day, body, last_word}
use Rattle.card_model.specs.Changes.{counter_after}
use Rattle.card_model.specs.Image.{StringShape, at, spot}
use Rattle.card_days.specs.declared.head.Tail.{Tail}
use Rattle.card_days.specs.Heads.{day_head}
use Rattle.card_days.specs.Held.{Held, newest_len, end_of, oldest_at}

-- a number as the length of a day that goes, which counts the least of a day where it is none
abbrev pub dropped_len : ℕ → ℕ
dropped_len n = if nat_eq (n % 2) 0 && (nat_le DAY_LEAST n && nat_le n DAY_MOST) then n else DAY_LEAST

-- how many bytes are in use without the oldest day, where so many bytes more do not fit
abbrev pub left_in : Held → (new : ℕ) → List ℕ → (used : ℕ) → ℕ
left_in v new x used =
    if nat_le (used + new) v.shape.size then used
    else used - dropped_len (number (bytes_at x (at v.shape (spot v.shape.size (oldest_at v used) 2)) 2))

-- how many days go at most for so many bytes more
abbrev pub most_drops : (size used new : ℕ) → ℕ
most_drops size used new = if nat_le (used + new) size then 0
    else (if nat_le (used + new) (size + DAY_LEAST) then 1 else 2)

-- a drop: the oldest pointer, and the length before the day that is the oldest then
abbrev pub drop_pieces : Held → (used left : ℕ) → List Piece
drop_pieces v used left =
    if used == left then [] else piece v.shape.base (two_bytes (oldest_at v left))
    ∷ piece (at v.shape (oldest_at v left)) (two_bytes 0) ∷ []

-- a word behind the newest day, and the length that counts it
abbrev pub word_pieces : Held → (w : ℕ) → List Piece
word_pieces v w =
    piece (at v.shape (end_of v)) (two_bytes w)
    ∷ piece (at v.shape (spot v.shape.size v.tail.head.place 2)) (two_bytes (newest_len v + 2)) ∷ []

-- a change of the newest day's state: a drop if it must be, and the word
abbrev pub change_pieces : Held → (w : ℕ) → List ℕ → List Piece
change_pieces v w x = drop_pieces v v.tail.used (left_in v 2 x v.tail.used) ++ word_pieces v w

-- how many words the newest day has with one more
abbrev pub more_words : ℕ → ℕ
more_words n = if nat_lt n 1440 then n + 1 else n

-- the tail with a word more
abbrev pub tail_more : Tail → (w used : ℕ) → Tail
tail_more t w used = record { head = record t.head { words = more_words t.head.words }; latest = w; used = used }

-- bytes on the string, round its end
abbrev pub round_pieces : StringShape → ℕ → List ℕ → List Piece
round_pieces r p bytes =
    if nat_le (length bytes) (r.size - p) then piece (at r p) bytes ∷ [] else piece (at r p) (take (r.size - p) bytes)
    ∷ piece (at r 0) (drop (r.size - p) bytes) ∷ []

-- the newest pointer, where it differs
abbrev pub pointer_pieces : StringShape → (newest p : ℕ) → List Piece
pointer_pieces r newest p = if newest == p then [] else piece (r.base + 2) (two_bytes p) ∷ []

-- a day behind the newest: the length before it, its body, its length, and the newest pointer
abbrev pub day_pieces : Held → (bytes : List ℕ) → List Piece
day_pieces v bytes =
    let r : StringShape = v.shape in
    piece (at r (end_of v)) (two_bytes (newest_len v)) ∷ (round_pieces r (spot r.size (end_of v) 4) bytes
    ++ (piece (at r (spot r.size (end_of v) 2)) (two_bytes (4 + length bytes))
    ∷ pointer_pieces r v.tail.head.place (end_of v)))

-- the counter of the next day
abbrev pub count_of : Held → ℕ
count_of v = if v.tail.used == 0 then 1 else counter_after v.tail.head.counter.0

-- the day that is begun
abbrev pub day_by : Held → (date : ℕ) → (words : List ℕ) → Day
day_by v date words = record { date = date; counter = count_of v; km = 0; words = words }

-- a new day: two drops at most if they must be, and the day
abbrev pub beginning_pieces : Held → (date : ℕ) → (words : List ℕ) → List ℕ → List Piece
beginning_pieces v date words x =
    let new : ℕ = 12 + 2 * length words in
    let once : ℕ = left_in v new x v.tail.used in
    let twice : ℕ = left_in v new x once in
    drop_pieces v v.tail.used once ++ (drop_pieces v once twice ++ day_pieces v (body (day_by v date words)))

-- the tail with that day
abbrev pub tail_begun : Held → (date : ℕ) → (words : List ℕ) → (used : ℕ) → Tail
tail_begun v date words used = record {
  head = day_head (end_of v) (day_by v date words);
  latest = last_word words;
  used = used;
}

-- the length before the oldest day, which there is, is cleared
abbrev pub mend_pieces : Held → List Piece
mend_pieces v = piece (at v.shape (oldest_at v v.tail.used)) (two_bytes 0) ∷ []

-- the write of the distance of the newest day
abbrev pub km_pieces : Held → ℕ → List Piece
km_pieces v km = piece (at v.shape (spot v.shape.size v.tail.head.place 10)) (two_bytes km) ∷ []

-- the tail with another distance of the newest day
abbrev pub tail_km : Tail → ℕ → Tail
tail_km t km = record { head = record t.head { km = record { 0 = km } }; latest = t.latest; used = t.used }
