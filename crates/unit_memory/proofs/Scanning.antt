-- Scans of more words.
use Rattle.std.proofs.Common.{◌≡◌, ℕ, ◌+◌, ◌*◌, List, [], ◌∷◌, ◌++◌, length, Option, Some, None, Result, Ok, Err, refl, sym, ◌∙◌, ap, arith, append_assoc}
use Rattle.std.proofs.lemmas.List.FromFn.{map-range_with_len_more, length-map-range_with_len}
use Rattle.unit_model.specs.gated_ring.Ring.{number_at}
use Rattle.unit_model.specs.Image.{words_at}
use Rattle.unit_memory.specs.Scans.{next_scan, or_place, scan_from}
use Rattle.unit_memory.specs.declared.words.Scan.{Scan}

-- what follows a scan that went well
abbrev pub if_ok : Result Scan ℕ → (Scan → Result Scan ℕ) → Result Scan ℕ
if_ok (Ok s) go = go s
if_ok (Err p) go = Err p

pub scan_append : (kept base n : ℕ) (s : Scan) (a b : List ℕ) → scan_from kept base n s (a ++ b) ≡ if_ok (scan_from kept base n s a) (λ t. scan_from kept base (n + length a) t b)
scan_append kept base n s [] b = ap (λ (m : ℕ). scan_from kept base m s b) (let e : n ≡ n + 0 = omega arith in e)
scan_append kept base n s (w ∷ ws) b = by (next_scan kept s n w) (λ t. scan_append kept base (n + 1) t ws b ∙ ap (λ (m : ℕ). if_ok (scan_from kept base (n + 1) t ws) (λ u. scan_from kept base m u b)) (let e : n + 1 + length ws ≡ n + length (w ∷ ws) = omega arith in e))
  where
    by : (o : Option Scan) → ((t : Scan) → scan_from kept base (n + 1) t (ws ++ b) ≡ if_ok (scan_from kept base (n + 1) t ws) (λ u. scan_from kept base (n + length (w ∷ ws)) u b))
        → or_place (base + 2 * n) o (λ t. scan_from kept base (n + 1) t (ws ++ b)) ≡ if_ok (or_place (base + 2 * n) o (λ t. scan_from kept base (n + 1) t ws)) (λ u. scan_from kept base (n + length (w ∷ ws)) u b)
    by None more = refl
    by (Some t) more = more t

-- with one word more
pub scan_more : (kept base from : ℕ) (first : Scan) (n : ℕ) (a b : List ℕ) (w : ℕ) (s t : Scan) → length a ≡ n → b ≡ a ++ w ∷ [] → scan_from kept base from first a ≡ Ok s → next_scan kept s (from + n) w ≡ Some t
    → scan_from kept base from first b ≡ Ok t
scan_more kept base from first n a b w s t len is was next =
    ap (scan_from kept base from first) is ∙ scan_append kept base from first a (w ∷ [])
    ∙ ap (λ (r : Result Scan ℕ). if_ok r (λ u. scan_from kept base (from + length a) u (w ∷ []))) was
    ∙ ap (λ (m : ℕ). scan_from kept base m s (w ∷ [])) (let e : from + length a ≡ from + n = omega (arith, len) in e)
    ∙ ap (λ (o : Option Scan). or_place (base + 2 * (from + n)) o (λ u. scan_from kept base (from + n + 1) u [])) next

-- and where a word may not stand there
pub scan_fails : (kept base from : ℕ) (first : Scan) (n : ℕ) (a all rest : List ℕ) (w : ℕ) (s : Scan) → length a ≡ n → all ≡ (a ++ w ∷ []) ++ rest → scan_from kept base from first a ≡ Ok s → next_scan kept s (from + n) w ≡ None
    → scan_from kept base from first all ≡ Err (base + 2 * (from + n))
scan_fails kept base from first n a all rest w s len is was none =
    ap (scan_from kept base from first) (is ∙ append_assoc a (w ∷ []) rest) ∙ scan_append kept base from first a (w ∷ rest)
    ∙ ap (λ (r : Result Scan ℕ). if_ok r (λ u. scan_from kept base (from + length a) u (w ∷ rest))) was
    ∙ ap (λ (m : ℕ). scan_from kept base m s (w ∷ rest)) (let e : from + length a ≡ from + n = omega (arith, len) in e)
    ∙ ap (λ (o : Option Scan). or_place (base + 2 * (from + n)) o (λ u. scan_from kept base (from + n + 1) u rest)) none

-- with a block of words more
pub scan_then : (kept base n : ℕ) (first s : Scan) (a b all : List ℕ) (r : Result Scan ℕ) → length a ≡ n → all ≡ a ++ b → scan_from kept base 0 first a ≡ Ok s → r ≡ scan_from kept base n s b
    → scan_from kept base 0 first all ≡ r
scan_then kept base n first s a b all r len is was more =
    ap (scan_from kept base 0 first) is ∙ scan_append kept base 0 first a b ∙ ap (λ (r : Result Scan ℕ). if_ok r (λ t. scan_from kept base (0 + length a) t b)) was
    ∙ ap (λ (m : ℕ). scan_from kept base m s b) (let e : 0 + length a ≡ n = omega (arith, len) in e) ∙ sym more

-- and where one of them may not stand there
pub scan_stops : (kept base p : ℕ) (first : Scan) (a rest all : List ℕ) → all ≡ a ++ rest → scan_from kept base 0 first a ≡ Err p → scan_from kept base 0 first all ≡ Err p
scan_stops kept base p first a rest all is bad =
    ap (scan_from kept base 0 first) is ∙ scan_append kept base 0 first a rest ∙ ap (λ (r : Result Scan ℕ). if_ok r (λ t. scan_from kept base (0 + length a) t rest)) bad

-- words with one more, and how many there are
pub words_more : (x : List ℕ) (p n w : ℕ) → w ≡ number_at x (p + 2 * n) 2 → words_at x p (n + 1) ≡ words_at x p n ++ w ∷ []
words_more x p n w is = map-range_with_len_more (λ j. number_at x (p + 2 * j) 2) 0 n n (omega arith) ∙ ap (λ (v : ℕ). words_at x p n ++ v ∷ []) (sym is)

pub words_length : (x : List ℕ) (p n : ℕ) → length (words_at x p n) ≡ n
words_length x p n = length-map-range_with_len (λ j. number_at x (p + 2 * j) 2) 0 n
