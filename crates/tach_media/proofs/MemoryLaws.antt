-- What a call of a medium in memory does to what it tells.
use Rattle.std.proofs.Common.{◌≡◌, inl, inr, ⊎_elim, ℕ, ◌+◌, ◌≤◌, List, [], ◌∷◌, length, Bool, true, false, Some, refl, sym, ap, subst, arith, length-append}
use Rattle.std.specs.Bool.{OnTrue, OnFalse}
use Rattle.card_layout.specs.Fields.{IsBytes}
use Rattle.tach_media.specs.Medium.{LeavesOnly, KeepsBroken, IsPartlyWritten, IsSettled, HoldsBytes}
use Rattle.tach_media.specs.Log.{History, image_of, image_left, bytes_of, add}
use Rattle.tach_media.specs.LogLaws.{left_partly, image_more, broken_more, might_more, might_keep, might_bytes, settled}
use Rattle.tach_media.specs.MemMedium.{memory_state, AreCounted}
use Rattle.tach_media.specs.declared.log.Entry.{Entry}
use Rattle.tach_media.specs.declared.log.Left.{Left}
use Rattle.tach_media.specs.declared.counts.Counts.{Counts}

module _ (h : History) (place : ℕ) (left : Left) (broken : ℕ) (bytes : List ℕ) (whole : bytes_of h.entries ≡ length h.written) (inside : place + length bytes ≤ length (image_of h)) where
  abbrev entry : Entry
  entry = record { place = place; len = length bytes; left = left; broken = broken }

  pub image_added : image_of (add h place left broken bytes) ≡ image_left left place bytes (image_of h)
  image_added = image_more entry bytes refl h.entries h.written h.start whole

  partly : IsPartlyWritten place bytes (image_of h) (image_of (add h place left broken bytes))
  partly = subst (λ (x : List ℕ). IsPartlyWritten place bytes (image_of h) x) (sym image_added) (left_partly left place bytes (image_of h) inside)

  pub adds : IsBytes (image_of h) → (k k' : Counts) → LeavesOnly (memory_state h k) (memory_state (add h place left broken bytes) k') (IsPartlyWritten place bytes)
  adds fit k k' = record {
    size = partly.outside.same_length;
    behind = refl;
    writable = ap (λ (n : ℕ). (0, n) ∷ []) (partly.outside.same_length);
    layers = refl;
    tells = refl;
    later = omega (arith, length-append h.entries (entry ∷ []));
    since = λ t c le was. ⊎_elim inl (λ part. inr (image_of h, refl, part))
        (might_more entry bytes refl h.entries h.written h.start t c whole le (λ x is. left_partly left place bytes x (omega (arith, inside, ap length is))) was);
    keeps = λ t c le was. might_keep entry bytes h.entries h.written h.start t c whole le fit was;
    now = λ c is. inr (image_of h, refl, subst (λ (x : List ℕ). IsPartlyWritten place bytes (image_of h) x) (sym is) partly);
  }

-- where its image is of bytes, so are all that it tells
pub holds_bytes : (h : History) (k : Counts) → IsBytes (image_of h) → HoldsBytes (memory_state h k)
holds_bytes h k fit = record {
  told = λ x is. let same : x ≡ image_of h = cc in subst IsBytes (sym same) fit;
  now = λ c is. subst IsBytes (sym is) fit;
  since = λ t c left. might_bytes h.entries h.written h.start t c fit left;
}

pub settles : (h : History) (k : Counts) → IsSettled (memory_state h k)
settles h k c left = ap Some (sym (settled h.entries h.written h.start c left))

pub nothing_added : (h : History) (k k' : Counts) (R : List ℕ → List ℕ → Type 0) → LeavesOnly (memory_state h k) (memory_state h k') R
nothing_added h k k' R = record { size = refl; behind = refl; writable = refl; layers = refl; tells = refl; later = omega arith; since = λ t c le left. inl left; now = λ c left. inl left; keeps = λ t c le left. left }

-- a write, whether or not it was begun
writes_or_not : (h h' : History) (place : ℕ) (left : Left) (broken : ℕ) (bytes : List ℕ) (begun : Bool) → bytes_of h.entries ≡ length h.written → IsBytes (image_of h) → place + length bytes ≤ length (image_of h)
    → OnTrue begun (h' ≡ add h place left broken bytes) → OnFalse begun (h' ≡ h) → (k k' : Counts) → LeavesOnly (memory_state h k) (memory_state h' k') (IsPartlyWritten place bytes)
writes_or_not h h' place left broken bytes true whole fit inside is_added is_same k k' =
    subst (λ (x : History). LeavesOnly (memory_state h k) (memory_state x k') (IsPartlyWritten place bytes)) (sym is_added) (adds h place left broken bytes whole inside fit k k')
writes_or_not h h' place left broken bytes false whole fit inside is_added is_same k k' =
    subst (λ (x : History). LeavesOnly (memory_state h k) (memory_state x k') (IsPartlyWritten place bytes)) (sym is_same) (nothing_added h k k' (IsPartlyWritten place bytes))

-- the same of a log under another name
pub writes_seen : (h g h' : History) (place : ℕ) (left : Left) (broken : ℕ) (bytes : List ℕ) (begun : Bool) → g ≡ h → bytes_of g.entries ≡ length g.written → IsBytes (image_of g) → place + length bytes ≤ length (image_of h)
    → OnTrue begun (h' ≡ add g place left broken bytes) → OnFalse begun (h' ≡ g) → (k k' : Counts) → LeavesOnly (memory_state h k) (memory_state h' k') (IsPartlyWritten place bytes)
writes_seen h g h' place left broken bytes begun same whole fit inside is_added is_same k k' =
    subst (λ (x : History). LeavesOnly (memory_state x k) (memory_state h' k') (IsPartlyWritten place bytes)) same
    (writes_or_not g h' place left broken bytes begun whole fit (subst (λ (x : History). place + length bytes ≤ length (image_of x)) (sym same) inside) is_added is_same k k')

-- whatever the counts become, what was told of each write stays
pub counts_stay : (h : History) (k k' : Counts) → AreCounted h k → KeepsBroken (memory_state h k) (memory_state h k')
counts_stay h k k' counted = record { later = omega arith; told = λ t n low had. (counted t n had.1, had.1) }

-- as more are counted, none was begun after more
pub counted_still : (h : History) (k k' : Counts) → AreCounted h k → k.breakdowns ≤ k'.breakdowns → AreCounted h k'
counted_still h k k' counted later t n had = omega (arith, counted t n had, later)

-- a write, whether or not it was begun, which has the count of before
module _ (h h' : History) (place : ℕ) (left : Left) (bytes : List ℕ) (begun : Bool) (k k' : Counts) (counted : AreCounted h k) (added : OnTrue begun (h' ≡ add h place left k.breakdowns bytes)) (same : OnFalse begun (h' ≡ h)) where
  abbrev counted-entry : Entry
  counted-entry = record { place = place; len = length bytes; left = left; broken = k.breakdowns }

  pub write_stays : KeepsBroken (memory_state h k) (memory_state h' k')
  write_stays = by begun added same
    where
      by : (b : Bool) → OnTrue b (h' ≡ add h place left k.breakdowns bytes) → OnFalse b (h' ≡ h) → KeepsBroken (memory_state h k) (memory_state h' k')
      by true is other = subst (λ (x : History). KeepsBroken (memory_state h k) (memory_state x k')) (sym is) (record {
        later = omega (arith, length-append h.entries (counted-entry ∷ []));
        told = λ t n low had. ⊎_elim (λ was. (counted t n was, was)) (λ last. absurd (omega (arith, low, last.0))) (broken_more counted-entry h.entries t n had.1);
      })
      by false other is = subst (λ (x : History). KeepsBroken (memory_state h k) (memory_state x k')) (sym is) (counts_stay h k k' counted)

  pub write_counted : k.breakdowns ≤ k'.breakdowns → AreCounted h' k'
  write_counted later = by begun added same
    where
      by : (b : Bool) → OnTrue b (h' ≡ add h place left k.breakdowns bytes) → OnFalse b (h' ≡ h) → AreCounted h' k'
      by true is other = subst (λ (x : History). AreCounted x k') (sym is) (λ t n had. ⊎_elim (λ was. omega (arith, counted t n was, later)) (λ last. omega (arith, last.1, later)) (broken_more counted-entry h.entries t n had))
      by false other is = subst (λ (x : History). AreCounted x k') (sym is) (counted_still h k k' counted later)
