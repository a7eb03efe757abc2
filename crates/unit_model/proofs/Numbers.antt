-- Numbers in images that are written.
use Rattle.std.proofs.Common.{◌≡◌, ℕ, suc, ◌+◌, ◌-◌, ◌*◌, ◌<◌, ◌≤◌, List, [], ◌∷◌, length, refl, ◌∙◌, ap, arith}
use Rattle.std.specs.Int.{to_be_bytes, w16, w32}
use Rattle.gated_ring.proofs.card_layout.Spelled.{number_put}
pub use Rattle.gated_ring.proofs.card_layout.Spelled.{number_same, number_before, number_after, number_within as number_in}
pub use Rattle.gated_ring.proofs.card_layout.Images.{part_in}
use Rattle.gated_ring.specs.tach_media.Medium.{put, bytes_at, SameOutside}
use Rattle.gated_ring.proofs.tach_media.Images.{put_outside, outside_same, outside_wider, outside_then}
use Rattle.gated_ring.specs.Ring.{number_at}
use Rattle.unit_model.specs.Image.{words_at}
use Rattle.unit_model.specs.Writing.{written}
use Rattle.unit_model.proofs.Words.{words_split}
use Rattle.unit_model.proofs.Growth.{map_range_same}

pub number_put4 : (p n : ℕ) (x : List ℕ) → p + 4 ≤ length x → n < 4294967296 → number_at (put p (to_be_bytes w32 n) x) p 4 ≡ n
number_put4 p n x le small = number_put p 4 n x le (omega (arith, small))

pub number_put2 : (p n : ℕ) (x : List ℕ) → p + 2 ≤ length x → n < 65536 → number_at (put p (to_be_bytes w16 n) x) p 2 ≡ n
number_put2 p n x le small = number_put p 2 n x le (omega (arith, small))

-- the words of images that are the same up to a place
pub words_before : (p len a n : ℕ) (x c : List ℕ) → SameOutside p len x c → a + 2 * n ≤ p → words_at c a n ≡ words_at x a n
words_before p len a n x c same le = map_range_same (λ j. number_at c (a + 2 * j) 2) (λ j. number_at x (a + 2 * j) 2) 0 n (λ j low high. number_before p len (a + 2 * j) 2 x c same (omega (arith, le)))

pub words_after : (p len a n : ℕ) (x c : List ℕ) → SameOutside p len x c → p + len ≤ a → words_at c a n ≡ words_at x a n
words_after p len a n x c same le = map_range_same (λ j. number_at c (a + 2 * j) 2) (λ j. number_at x (a + 2 * j) 2) 0 n (λ j low high. number_after p len (a + 2 * j) 2 x c same (omega (arith, le)))

-- the words of a part
pub words_in : (x : List ℕ) (p w a n : ℕ) → a + 2 * n ≤ w → words_at (bytes_at x p w) a n ≡ words_at x (p + a) n
words_in x p w a n le = map_range_same (λ j. number_at (bytes_at x p w) (a + 2 * j) 2) (λ j. number_at x (p + a + 2 * j) 2) 0 n
    (λ j low high. number_in x p w (a + 2 * j) 2 (omega (arith, le)) ∙ ap (λ (q : ℕ). number_at x q 2) (omega arith))

-- words that were written
pub written_outside : (p room : ℕ) (ws x : List ℕ) → 2 * length ws ≤ room → p + room ≤ length x → SameOutside p room x (written p ws x)
written_outside p room [] x fits inside = outside_same p room x
written_outside p room (w ∷ ws) x fits inside =
    let y = put p (to_be_bytes w16 w) x in
    let first : SameOutside p 2 x y = put_outside p (to_be_bytes w16 w) x (omega (arith, fits, inside)) in
    outside_then p room x y (written (p + 2) ws y) (outside_wider p room p 2 x y first (omega arith) (omega (arith, fits)))
    (outside_wider p room (p + 2) (room - 2) y (written (p + 2) ws y) (written_outside (p + 2) (room - 2) ws y (omega (arith, fits)) (omega (arith, fits, inside, first.same_length))) (omega arith) (omega (arith, fits)))

abbrev pub AreShort : List ℕ → Type 0
AreShort [] = Unit {0}
AreShort (w ∷ ws) = (w < 65536) × AreShort ws

pub written_words : (p : ℕ) (ws x : List ℕ) → p + 2 * length ws ≤ length x → AreShort ws → words_at (written p ws x) p (length ws) ≡ ws
written_words p [] x inside short = refl
written_words p (w ∷ ws) x inside short =
    let y = put p (to_be_bytes w16 w) x in
    let z = written (p + 2) ws y in
    let first : SameOutside p 2 x y = put_outside p (to_be_bytes w16 w) x (omega (arith, inside)) in
    let rest : SameOutside (p + 2) (2 * length ws) y z = written_outside (p + 2) (2 * length ws) ws y (omega arith) (omega (arith, inside, first.same_length)) in
    let one : suc (length ws) ≡ 1 + length ws = omega arith in
    ap (words_at z p) one ∙ words_split z p 1 (length ws)
    ∙ ap (λ (q : ℕ). number_at z q 2 ∷ words_at z (p + 2 * 1) (length ws)) (omega arith)
    ∙ ap (λ (n : ℕ). n ∷ words_at z (p + 2) (length ws)) (number_before (p + 2) (2 * length ws) p 2 y z rest (omega arith) ∙ number_put2 p w x (omega (arith, inside)) short.0)
    ∙ ap (λ (l : List ℕ). w ∷ l) (written_words (p + 2) ws y (omega (arith, inside, first.same_length)) short.1)
