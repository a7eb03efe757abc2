-- What the writes of words and their count leave on the way.
use Rattle.std.proofs.Common.{◌≡◌, ◌⊎◌, inl, inr, ℕ, ◌+◌, ◌-◌, ◌*◌, ◌<◌, ◌≤◌, List, [], ◌∷◌, length, refl, ◌∙◌, ap, subst, arith}
use Rattle.std.specs.Int.{to_be_bytes, w16}
use Rattle.std.specs.List.{AllByRecursion}
use Rattle.tach_media.specs.Medium.{put, IsPartlyWritten}
use Rattle.tach_media.specs.Plan.{Piece, piece, IsInside, put_all, IsPartway}
use Rattle.tach_media.proofs.Plans.{put_all-append, partway_either, partway_outside}
use Rattle.unit_model.specs.declared.layout.TheConstants.{DAY_COUNT, DAY_SLOTS, DAY_WORDS, DAY_WORD_LIMIT, IMAGE_SIZE}
use Rattle.unit_model.specs.Image.{slot_place}
use Rattle.unit_model.specs.Writing.{free_place, written, with_count, with_words, with_kept, DiffersBehind}
use Rattle.unit_minutes.specs.Coming.{Coming}
use Rattle.unit_minutes.specs.Minute.{further}
use Rattle.unit_minutes.specs.Plans.{word_pieces, counted, mark, beginning}

pub words_put : (place : ℕ) (ws x : List ℕ) → put_all (word_pieces place ws) x ≡ written place ws x
words_put place [] x = refl
words_put place (w ∷ ws) x = words_put (place + 2) ws (put place (to_be_bytes w16 w) x)

pub counted_put : (i n : ℕ) (ws x : List ℕ) → put_all (counted i n ws) x ≡ with_words i n ws x
counted_put i n ws x = put_all-append (word_pieces (free_place i n) ws) (piece (slot_place i + DAY_COUNT.place) (to_be_bytes w16 (n + length ws)) ∷ []) x ∙ ap (with_count i (n + length ws)) (words_put (free_place i n) ws x)

pub begun_put : (i : ℕ) (coming : Coming) (x : List ℕ) → put_all (beginning i coming) x ≡ with_kept coming.minute (with_words i 2 (further coming) x)
begun_put i coming x = put_all-append (counted i 2 (further coming)) (mark coming.minute) x ∙ ap (with_kept coming.minute) (counted_put i 2 (further coming) x)

words_inside : (from end place : ℕ) (ws : List ℕ) → from ≤ place → place + 2 * length ws ≤ end → AllByRecursion (IsInside from end) (word_pieces place ws)
words_inside from end place [] low high = tt
words_inside from end place (w ∷ ws) low high =
    (record { some = omega arith; short = omega arith; behind = low; inside = omega (arith, high) }, words_inside from end (place + 2) ws (omega (arith, low)) (omega (arith, high)))

module _ (i n : ℕ) (ws x c : List ℕ) (below : i < DAY_SLOTS) (fits : n + length ws ≤ DAY_WORD_LIMIT) (sized : length x ≡ IMAGE_SIZE) where
  abbrev words : List Piece
  words = word_pieces (free_place i n) ws

  abbrev count : List Piece
  count = piece (slot_place i + DAY_COUNT.place) (to_be_bytes w16 (n + length ws)) ∷ []

  abbrev Moment : Type 0
  Moment = DiffersBehind i n x c ⊎ IsPartlyWritten (slot_place i + DAY_COUNT.place) (to_be_bytes w16 (n + length ws)) (written (free_place i n) ws x) c

  either : IsPartway words x c ⊎ IsPartway count (put_all words x) c → Moment
  either (inl part) = inl (partway_outside (free_place i n) (DAY_WORDS.size - 2 * n) words (words_inside (free_place i n) (free_place i n + (DAY_WORDS.size - 2 * n)) (free_place i n) ws (omega arith) (omega (arith, fits))) x c (omega (arith, sized, below, fits)) part)
  either (inr (inl part)) = inr (subst (λ (y : List ℕ). IsPartlyWritten (slot_place i + DAY_COUNT.place) (to_be_bytes w16 (n + length ws)) y c) (words_put (free_place i n) ws x) part)
  either (inr (inr none)) = absurd none

  pub counted_moment : IsPartway (counted i n ws) x c → Moment
  counted_moment here = either (partway_either words count x c here)
