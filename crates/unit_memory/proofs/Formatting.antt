-- The images while a unit is made new.
use Rattle.std.proofs.Common.{◌≡◌, inl, inr, ⊎_elim, ℕ, ◌+◌, ◌-◌, ◌/◌, ◌<◌, ◌≤◌, min, true, false, List, [], ◌∷◌, ◌++◌, length, take, drop, refl, sym, ◌∙◌, ap, subst, arith, append_assoc, length-append, lit≤, Option, Some, None, option_map}
use Rattle.std.specs.Int.{to_be_bytes, w32}
use Rattle.tach_media.specs.card_layout.Images.{big_number}
use Rattle.std.proofs.lemmas.List.{append-nil, length-replicate, take-replicate, drop-replicate, drop_all}
use Rattle.tach_media.specs.Medium.{State, put, SameOutside, IsPartlyWritten, HasCause, most_writes}
use Rattle.tach_media.proofs.Runs.{broken_same}
use Rattle.tach_media.proofs.Images.{put_outside, part_before, part_put, outside_wider, outside_then}
use Rattle.tach_media.proofs.Chunks.{put_behind, chunk_more, chunk_next}
use Rattle.unit_model.specs.declared.layout.TheConstants.{IDENTIFICATION, IMAGE_SIZE}
use Rattle.unit_model.specs.NewImage.{zeros, new_image}
use Rattle.unit_memory.specs.Formats.{IsBlank, IsFormatting, identified}

-- no call on a medium that works
pub idle : (s : State) → s.works ≡ true → HasCause s s false
idle s works = record {
  works = works;
  broken = λ broken. absurd (cc);
  faults = omega arith;
  fault = λ failed. absurd (cc);
  breakdowns = omega arith;
  breaks = λ was failed. absurd (cc);
  unbroken = λ fine. refl;
  already = λ was. refl;
  once = λ low. omega arith;
  tells = broken_same s;
}

-- a chunk of zeros takes so many writes at most
pub chunk_writes : (size : ℕ) → size ≤ 4096 → most_writes size ≤ 17
chunk_writes size few = omega (arith, few)

-- and behind it there is one less
pub chunks_left : (to at size : ℕ) → at < to → size ≡ min 4096 (to - at) → (to - (at + size) + 4095) / 4096 + 1 ≤ (to - at + 4095) / 4096
chunks_left to at size some is = omega (arith, some, is)

pub zeros_length : (n : ℕ) → length (zeros n) ≡ n
unfolding zeros
zeros_length n = length-replicate n 0

pub zeros_take : (m n : ℕ) → m ≤ n → take m (zeros n) ≡ zeros m
unfolding zeros
zeros_take m n le = take-replicate m n 0 le

zeros_part : (k m n : ℕ) → k + m ≤ n → take m (drop k (zeros n)) ≡ zeros m
unfolding zeros
zeros_part k m n le = ap (take m) (drop-replicate k n 0) ∙ take-replicate m (n - k) 0 (omega (arith, le))

put_nothing : (p : ℕ) (x : List ℕ) → put p (zeros 0) x ≡ x
unfolding zeros
put_nothing p x = ap (λ (n : ℕ). take p x ++ drop n x) (omega arith) ∙ Rattle.std.proofs.lemmas.List.take-append-drop p x

pub nothing_written : (p n : ℕ) (o : Option (List ℕ)) → n ≡ 0 → o ≡ option_map (put p (zeros n)) o
nothing_written p n None none = refl
nothing_written p n (Some x) none = ap Some (sym (ap (λ (m : ℕ). put p (zeros m) x) none ∙ put_nothing p x))

-- one chunk of zeros more
module _ (from total k m at : ℕ) (x : List ℕ) (at_is : at ≡ from + k) (within : k + m ≤ total) (few : m ≤ 4096) (long : 4 < total) (fits : from + total ≤ length x) where
  chunk_is : take m (zeros 4096) ≡ take m (drop k (zeros total))
  chunk_is = zeros_take m 4096 few ∙ sym (zeros_part k m total within)

  front_is : zeros k ≡ take k (zeros total)
  front_is = sym (zeros_take k total (omega (arith, within)))

  len : length (zeros total) ≡ total
  len = zeros_length total

  pub chunk_put : put at (take m (zeros 4096)) (put from (zeros k) x) ≡ put from (zeros (k + m)) x
  chunk_put =
      (λ i. put (at_is i) (chunk_is i) (put from (front_is i) x)) ∙ chunk_more from (zeros total) x k m (omega (arith, len, within)) (omega (arith, len, fits))
      ∙ ap (λ (l : List ℕ). put from l x) (zeros_take (k + m) total within)

  pub chunk_part : (c : List ℕ) → IsPartlyWritten at (take m (zeros 4096)) (put from (zeros k) x) c → IsPartlyWritten from (zeros total) x c
  chunk_part c part =
      chunk_next from (zeros total) x k m c (omega (arith, len, within)) (omega (arith, len, long)) (omega (arith, len, fits))
      (subst (λ (p : ℕ). IsPartlyWritten p (take m (drop k (zeros total))) (put from (take k (zeros total)) x) c) at_is
      (subst (λ (l : List ℕ). IsPartlyWritten at (take m (drop k (zeros total))) (put from l x) c) front_is
      (subst (λ (l : List ℕ). IsPartlyWritten at l (put from (zeros k) x) c) chunk_is part)))

pub chunk_length : (m : ℕ) → m ≤ 4096 → length (take m (zeros 4096)) ≡ m
chunk_length m few = ap length (zeros_take m 4096 few) ∙ zeros_length m

-- a version of 0 stays while the bytes behind it are written
pub still_blank : (p n : ℕ) (x y c : List ℕ) → IsBlank x y → 4 ≤ p → SameOutside p n y c → IsBlank x c
still_blank p n x y c blank low same = record {
  same_length = same.same_length ∙ blank.same_length;
  version = ap (λ (b : List ℕ). big_number 4 b) (part_before p n 0 4 y c same low) ∙ blank.version;
}

module _ (x : List ℕ) (sized : length x ≡ IMAGE_SIZE) where
  abbrev pub unversioned : List ℕ
  unversioned = put 0 (to_be_bytes w32 0) x

  pub version_blank : IsBlank x unversioned
  version_blank = record {
    same_length = (put_outside 0 (to_be_bytes w32 0) x (omega (arith, sized))).same_length;
    version = ap (λ (b : List ℕ). big_number 4 b) (part_put 0 (to_be_bytes w32 0) x (omega (arith, sized)));
  }

  module _ (v r : List ℕ) (l : ℕ) (v_length : length v ≡ 17) (r_length : length r ≡ 15) where
    abbrev pub named : List ℕ → List ℕ
    named y = identified v r l y

    named_is : (y : List ℕ) → length y ≡ IMAGE_SIZE → named y ≡ put 4 ((v ++ r) ++ l ∷ []) y
    named_is y len =
        let vr : length (v ++ r) ≡ 32 = omega (arith, length-append v r, v_length, r_length) in
        let first : put 21 r (put 4 v y) ≡ put 4 (v ++ r) y = ap (λ (p : ℕ). put p r (put 4 v y)) (let e : 21 ≡ 4 + length v = omega (arith, v_length) in e) ∙ put_behind 4 v r y (omega (arith, v_length, r_length, len)) in
        ap (put 36 (l ∷ [])) first
        ∙ ap (λ (p : ℕ). put p (l ∷ []) (put 4 (v ++ r) y)) (let e : 36 ≡ 4 + length (v ++ r) = omega (arith, vr) in e)
        ∙ put_behind 4 (v ++ r) (l ∷ []) y (omega (arith, vr, len))

    pub named_outside : (y : List ℕ) → length y ≡ IMAGE_SIZE → SameOutside 4 33 y (named y)
    named_outside y len =
        let all : length ((v ++ r) ++ l ∷ []) ≡ 33 = omega (arith, length-append (v ++ r) (l ∷ []), length-append v r, v_length, r_length) in
        subst (λ (z : List ℕ). SameOutside 4 33 y z) (sym (named_is y len))
        (subst (λ (n : ℕ). SameOutside 4 n y (put 4 ((v ++ r) ++ l ∷ []) y)) all (put_outside 4 ((v ++ r) ++ l ∷ []) y (omega (arith, all, len))))

    abbrev pub cleared : List ℕ
    cleared = put 37 (zeros (IMAGE_SIZE - IDENTIFICATION.place)) (named unversioned)

    pub all_written : put 0 (to_be_bytes w32 1) cleared ≡ new_image v r l
    unfolding new_image
    all_written =
        let y = unversioned in
        let y_length : length y ≡ IMAGE_SIZE = version_blank.same_length ∙ sized in
        let name = (v ++ r) ++ l ∷ [] in
        let name_length : length name ≡ 33 = omega (arith, length-append (v ++ r) (l ∷ []), length-append v r, v_length, r_length) in
        let z_length : length (zeros (IMAGE_SIZE - IDENTIFICATION.place)) ≡ (IMAGE_SIZE - IDENTIFICATION.place) = zeros_length (IMAGE_SIZE - IDENTIFICATION.place) in
        let rest = name ++ zeros (IMAGE_SIZE - IDENTIFICATION.place) in
        let rest_length : length rest ≡ 2485804 = omega (arith, length-append name (zeros (IMAGE_SIZE - IDENTIFICATION.place)), name_length, z_length) in
        let at_4 : cleared ≡ put 4 rest y =
        ap (put 37 (zeros (IMAGE_SIZE - IDENTIFICATION.place))) (named_is y y_length) ∙ ap (λ (p : ℕ). put p (zeros (IMAGE_SIZE - IDENTIFICATION.place)) (put 4 name y)) (let e : 37 ≡ 4 + length name = omega (arith, name_length) in e)
        ∙ put_behind 4 name (zeros (IMAGE_SIZE - IDENTIFICATION.place)) y (omega (arith, name_length, z_length, y_length)) in
        let at_0 : put 4 rest y ≡ put 0 (to_be_bytes w32 0 ++ rest) x = put_behind 0 (to_be_bytes w32 0) rest x (omega (arith, rest_length, sized)) in
        let whole_length : length (to_be_bytes w32 0 ++ rest) ≡ IMAGE_SIZE = omega (arith, length-append (to_be_bytes w32 0) rest, rest_length) in
        let nothing : drop (0 + length (to_be_bytes w32 0 ++ rest)) x ≡ [] = drop_all (0 + length (to_be_bytes w32 0 ++ rest)) x (omega (arith, whole_length, sized)) in
        let whole : cleared ≡ to_be_bytes w32 0 ++ rest = at_4 ∙ at_0 ∙ ap (λ (t : List ℕ). (to_be_bytes w32 0 ++ rest) ++ t) nothing ∙ append-nil (to_be_bytes w32 0 ++ rest) in
        ap (put 0 (to_be_bytes w32 1)) whole
        ∙ ap (λ (t : List ℕ). to_be_bytes w32 1 ++ t) (append_assoc (v ++ r) (l ∷ []) (zeros (IMAGE_SIZE - IDENTIFICATION.place)) ∙ append_assoc v r (l ∷ zeros (IMAGE_SIZE - IDENTIFICATION.place)))

-- the writes of the identity, one after the other
pub part_1 : (v : List ℕ) → length v ≡ 17 → (x c : List ℕ) → IsPartlyWritten 4 v x c → SameOutside 4 33 x c
part_1 v v_length x c part = outside_wider 4 33 4 (length v) x c part.outside (omega arith) (omega (arith, v_length))

module _ (v r : List ℕ) (l : ℕ) (v_length : length v ≡ 17) (r_length : length r ≡ 15) (x : List ℕ) (sized : length x ≡ IMAGE_SIZE) where
  name_1 : SameOutside 4 33 x (put 4 v x)
  name_1 = outside_wider 4 33 4 (length v) x (put 4 v x) (put_outside 4 v x (omega (arith, v_length, sized))) (omega arith) (omega (arith, v_length))

  name_2 : SameOutside 4 33 x (put 21 r (put 4 v x))
  name_2 = outside_then 4 33 x (put 4 v x) (put 21 r (put 4 v x)) name_1
      (outside_wider 4 33 21 (length r) (put 4 v x) (put 21 r (put 4 v x)) (put_outside 21 r (put 4 v x) (omega (arith, r_length, sized, name_1.same_length))) (omega arith) (omega (arith, r_length)))

  pub part_2 : (c : List ℕ) → IsPartlyWritten 21 r (put 4 v x) c → SameOutside 4 33 x c
  part_2 c part = outside_then 4 33 x (put 4 v x) c name_1 (outside_wider 4 33 21 (length r) (put 4 v x) c part.outside (omega arith) (omega (arith, r_length)))

  pub part_3 : (c : List ℕ) → IsPartlyWritten 36 (l ∷ []) (put 21 r (put 4 v x)) c → SameOutside 4 33 x c
  part_3 c part = outside_then 4 33 x (put 21 r (put 4 v x)) c name_2 (outside_wider 4 33 36 1 (put 21 r (put 4 v x)) c part.outside (omega arith) (omega arith))

-- the moments of the first writes
module _ (new x : List ℕ) (sized : length x ≡ IMAGE_SIZE) where
  pub moment_1 : (c : List ℕ) → IsPartlyWritten 0 (to_be_bytes w32 0) x c → IsFormatting new x c
  moment_1 c part = ⊎_elim (λ same. inl same) (λ put. inr (inl (subst (IsBlank x) (sym put) (version_blank x sized)))) (part.whole (lit≤ tt))

  pub moment_2 : (c : List ℕ) → SameOutside 4 33 (unversioned x sized) c → IsFormatting new x c
  moment_2 c same = inr (inl (still_blank 4 33 x (unversioned x sized) c (version_blank x sized) (lit≤ tt) same))

-- the moments of the whole
module _ (v r : List ℕ) (l : ℕ) (v_length : length v ≡ 17) (r_length : length r ≡ 15) (x : List ℕ) (sized : length x ≡ IMAGE_SIZE) where
  abbrev new : List ℕ
  new = new_image v r l

  abbrev y1 : List ℕ
  y1 = put 0 (to_be_bytes w32 0) x

  abbrev y2 : List ℕ
  y2 = identified v r l y1

  abbrev y3 : List ℕ
  y3 = put 37 (zeros (IMAGE_SIZE - IDENTIFICATION.place)) y2

  y2_outside : SameOutside 4 33 y1 y2
  y2_outside = named_outside x sized v r l v_length r_length y1 ((version_blank x sized).same_length ∙ sized)

  y2_blank : IsBlank x y2
  y2_blank = still_blank 4 33 x y1 y2 (version_blank x sized) (lit≤ tt) y2_outside

  y3_blank : IsBlank x y3
  y3_blank = still_blank 37 (length (zeros (IMAGE_SIZE - IDENTIFICATION.place))) x y2 y3 y2_blank (lit≤ tt) (put_outside 37 (zeros (IMAGE_SIZE - IDENTIFICATION.place)) y2 (omega (arith, zeros_length (IMAGE_SIZE - IDENTIFICATION.place), y2_blank.same_length, sized)))

  pub moment_3 : (c : List ℕ) → IsPartlyWritten 37 (zeros (IMAGE_SIZE - IDENTIFICATION.place)) y2 c → IsFormatting new x c
  moment_3 c part = inr (inl (still_blank 37 (length (zeros (IMAGE_SIZE - IDENTIFICATION.place))) x y2 c y2_blank (lit≤ tt) part.outside))

  pub moment_4 : (c : List ℕ) → IsPartlyWritten 0 (to_be_bytes w32 1) y3 c → IsFormatting new x c
  moment_4 c part = ⊎_elim (λ same. inr (inl (subst (IsBlank x) (sym same) y3_blank))) (λ put. inr (inr (put ∙ all_written x sized v r l v_length r_length))) (part.whole (lit≤ tt))
