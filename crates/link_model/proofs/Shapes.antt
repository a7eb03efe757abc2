-- The grammar of frames: how the test of a beginning stands to it, and that a stream is read in one way.
use Rattle.std.proofs.Common.{◌≡◌, ℕ, ◌<◌, ◌==◌, ◌&&◌, ◌||◌, not, Bool, true, false, List, [], ◌∷◌, ◌++◌, length, drop, slice_index, refl, sym, ◌∙◌, ap, subst, append_assoc, append-nil, arith}
use Rattle.std.proofs.lemmas.Bool.Decides.{nat_tests}
use Rattle.std.proofs.lemmas.Grind.{common_steps}
use Rattle.link_model.specs.declared.side.End.{End}
use Rattle.link_model.specs.declared.side.End.TheVariants as side
use Rattle.link_model.specs.Frames.{Heard, Shape, Long, Short, Part, Framed, Passed, second, third, spelled, IsShape, heard_of, BeginsFrame, IsUnfinished, IsRead, heard_in_parts, Stream}
use Rattle.link_model.specs.Hearing.{starts, looks_right}

pub first_part : (a b : Bool) → (a && b) ≡ true → a ≡ true
first_part true b h = refl
first_part false b h = h

-- what looks right does so from its first byte on
pub beginning : (end : End) (a b : List ℕ) → looks_right end (a ++ b) ≡ true → looks_right end a ≡ true
beginning end [] b h = refl
beginning end (x ∷ []) [] h = h
beginning end (x ∷ []) (p ∷ []) h = first_part (starts end x) (p == second end) h
beginning end (x ∷ []) (p ∷ q ∷ []) h =
    first_part (starts end x) (p == second end) (first_part (starts end x && p == second end) (q == third end) h)
beginning end (x ∷ []) (p ∷ q ∷ r ∷ b) h =
    first_part (starts end x) (p == second end) (first_part (starts end x && p == second end) (q == third end)
    (first_part (starts end x && p == second end && q == third end) (x == 0x81 || not (r == 0)) h))
beginning end (x ∷ p ∷ []) [] h = h
beginning end (x ∷ p ∷ []) (q ∷ []) h = first_part (starts end x && p == second end) (q == third end) h
beginning end (x ∷ p ∷ []) (q ∷ r ∷ b) h =
    first_part (starts end x && p == second end) (q == third end)
    (first_part (starts end x && p == second end && q == third end) (x == 0x81 || not (r == 0)) h)
beginning end (x ∷ p ∷ q ∷ []) [] h = h
beginning end (x ∷ p ∷ q ∷ []) (r ∷ b) h = first_part (starts end x && p == second end && q == third end) (x == 0x81 || not (r == 0)) h
beginning end (x ∷ p ∷ q ∷ r ∷ a) b h = h

-- a frame looks right, whatever follows
pub shape_looks_right : (end : End) (shape : Shape) (more : List ℕ) → IsShape end shape → looks_right end (spelled end shape ++ more) ≡ true
shape_looks_right end (Long [] last) more h = absurd (omega arith)
shape_looks_right side.Unit (Long (x ∷ xs) last) more h = grind (arith, nat_tests)
shape_looks_right side.Loader (Long (x ∷ xs) last) more h = grind (arith, nat_tests)
shape_looks_right side.Unit (Short byte last) more h = refl
shape_looks_right side.Loader (Short byte last) more h = absurd h

pub begins_looks_right : (end : End) (bytes : List ℕ) → BeginsFrame end bytes → looks_right end bytes ≡ true
begins_looks_right end bytes f = ap (λ (l : List ℕ). looks_right end l) f.bytes_are ∙ shape_looks_right end f.shape f.more f.is_shape

pub unfinished_looks_right : (end : End) (bytes : List ℕ) → IsUnfinished end bytes → looks_right end bytes ≡ true
unfinished_looks_right end bytes u =
    beginning end bytes u.more (ap (λ (l : List ℕ). looks_right end l) (sym u.whole ∙ sym (append-nil (spelled end u.shape))) ∙ shape_looks_right end u.shape [] u.is_shape)

-- two lists of one length, each with a byte and more behind it
pub same_front : (a b : List ℕ) (i j : ℕ) (x y : List ℕ) → length a ≡ length b → (a ++ i ∷ []) ++ x ≡ (b ++ j ∷ []) ++ y → (a ≡ b) × (i ≡ j) × (x ≡ y)
same_front [] [] i j x y len e = (refl, (cc), (cc))
same_front [] (q ∷ b) i j x y len e = absurd (omega arith)
same_front (p ∷ a) [] i j x y len e = absurd (omega arith)
same_front (p ∷ a) (q ∷ b) i j x y len e =
    let here : p ≡ q = cc in
    let rest : (a ++ i ∷ []) ++ x ≡ (b ++ j ∷ []) ++ y = cc in
    let more = same_front a b i j x y (omega arith) rest in
    (ap (λ (n : ℕ). n ∷ a) here ∙ ap (λ (l : List ℕ). q ∷ l) more.0, more.1, more.2)

first_bytes_differ : (n : ℕ) → 0x80 ≡ n → 0x81 ≡ n → ⊥
first_bytes_differ n h k = omega arith

-- no frame begins another
pub one_shape : (end : End) (s t : Shape) (x y : List ℕ) → IsShape end s → IsShape end t → spelled end s ++ x ≡ spelled end t ++ y → (s ≡ t) × (x ≡ y)
one_shape end (Long a i) (Long b j) x y p q e =
    let r = same_front a b i j x y (ap (λ (l : List ℕ). slice_index l 3) e) (ap (λ (l : List ℕ). drop 4 l) e) in
    (ap (λ (l : List ℕ). Long l i) r.0 ∙ ap (λ (n : ℕ). Long b n) r.1, r.2)
one_shape end (Long a i) (Short b j) x y p q e = absurd (first_bytes_differ 0x81 (ap (λ (l : List ℕ). slice_index l 0) e) refl)
one_shape end (Short a i) (Long b j) x y p q e = absurd (first_bytes_differ 0x80 refl (ap (λ (l : List ℕ). slice_index l 0) e))
one_shape end (Short a i) (Short b j) x y p q e =
    (ap (λ (n : ℕ). Short n i) (ap (λ (l : List ℕ). slice_index l 3) e) ∙ ap (λ (n : ℕ). Short b n) (ap (λ (l : List ℕ). slice_index l 4) e), ap (λ (l : List ℕ). drop 5 l) e)

-- the beginning of a frame begins with none
pub no_frame_inside : (end : End) (bytes : List ℕ) (s : Shape) (more : List ℕ) → IsShape end s → bytes ≡ spelled end s ++ more → IsUnfinished end bytes → ⊥
no_frame_inside end bytes s more p e u =
    let joined : spelled end s ++ (more ++ u.more) ≡ spelled end u.shape ++ [] =
    sym (append_assoc (spelled end s) more u.more) ∙ ap (λ (l : List ℕ). l ++ u.more) (sym e) ∙ sym u.whole ∙ sym (append-nil (spelled end u.shape)) in
    let r = one_shape end s u.shape (more ++ u.more) [] p u.is_shape joined in
    let none : length (more ++ u.more) ≡ 0 = ap (λ (l : List ℕ). length l) r.1 in
    let some : 0 < length u.more = u.some in
    absurd (grind (arith, common_steps, none, some))

-- a stream that is cut into parts in two ways
pub same_parts : (end : End) (parts others : List Part) (bytes rest more : List ℕ) → IsRead end parts bytes rest → IsRead end others bytes more
    → (heard_in_parts end parts ≡ heard_in_parts end others) × (rest ≡ more)
same_parts end [] [] bytes rest more p q = (refl, sym p.0 ∙ q.0)
same_parts end [] (Framed s ∷ others) bytes rest more p q = absurd (no_frame_inside end bytes s q.0 q.1 q.2 p.1)
same_parts end [] (Passed b ∷ others) bytes rest more p q = absurd (q.3 p.1)
same_parts end (Framed s ∷ parts) [] bytes rest more p q = absurd (no_frame_inside end bytes s p.0 p.1 p.2 q.1)
same_parts end (Framed s ∷ parts) (Framed t ∷ others) bytes rest more p q =
    let one = one_shape end s t p.0 q.0 p.1 q.1 (sym p.2 ∙ q.2) in
    let read : IsRead end others p.0 more = subst (λ (l : List ℕ). IsRead end others l more) (sym one.1) q.3 in
    let r = same_parts end parts others p.0 rest more p.3 read in
    (ap (λ (w : Shape). heard_of end w ∷ heard_in_parts end parts) one.0 ∙ ap (λ (l : List Heard). heard_of end t ∷ l) r.0, r.1)
same_parts end (Framed s ∷ parts) (Passed b ∷ others) bytes rest more p q = absurd (q.2 (record { shape = s; more = p.0; is_shape = p.1; bytes_are = p.2 }))
same_parts end (Passed a ∷ parts) [] bytes rest more p q = absurd (p.3 q.1)
same_parts end (Passed a ∷ parts) (Framed t ∷ others) bytes rest more p q = absurd (p.2 (record { shape = t; more = q.0; is_shape = q.1; bytes_are = q.2 }))
same_parts end (Passed a ∷ parts) (Passed b ∷ others) bytes rest more p q =
    let same : a ∷ p.0 ≡ b ∷ q.0 = sym p.1 ∙ q.1 in
    let tails : p.0 ≡ q.0 = ap (λ (l : List ℕ). drop 1 l) same in
    same_parts end parts others p.0 rest more p.4 (subst (λ (l : List ℕ). IsRead end others l more) (sym tails) q.4)

pub same_stream : (end : End) (bytes : List ℕ) (seen others : List Heard) (rest more : List ℕ) → Stream end bytes seen rest → Stream end bytes others more → (seen ≡ others) × (rest ≡ more)
same_stream end bytes seen others rest more p q =
    let r = same_parts end p.0 q.0 bytes rest more p.1 q.1 in (sym p.2 ∙ r.0 ∙ q.2, r.1)
