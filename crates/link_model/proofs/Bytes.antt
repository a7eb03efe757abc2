-- Hearing byte after byte gives the frames of the grammar.
use Rattle.std.proofs.Common.{◌≡◌, ◌⊎◌, inl, inr, replicate, ℕ, ◌+◌, ◌-◌, ◌<◌, ◌≤◌, ◌==◌, ◌&&◌, ◌||◌, not, nat_lt, Bool, true, false, List, [], ◌∷◌, ◌++◌, length, Some, None, option_to_list, refl, sym, ◌∙◌, ap, subst, append_assoc, append-nil, length-append, ⊎_elim, arith}
use Rattle.std.proofs.lemmas.Bool.{both_ways, cases_Bool, cases_order, cond_both, eq-eqb, eqb-true, eqb-false, ltb-true, lt-ltb, and_from, and_left, and_parts}
use Rattle.std.proofs.lemmas.Bool.Decides.{nat_tests}
use Rattle.std.proofs.lemmas.List.{length-replicate}
use Rattle.link_model.specs.declared.side.End.{End}
use Rattle.link_model.specs.declared.side.End.TheVariants as side
use Rattle.link_model.specs.Frames.{Heard, Shape, Long, Short, Framed, Passed, second, third, spelled, IsShape, heard_of, IsUnfinished, Stream}
use Rattle.link_model.specs.Hearing.{starts, looks_right, size_of, is_kept, Ear, anew, heard_at_last, after_byte, heard_in, kept_after}
use Rattle.link_model.proofs.Shapes.{beginning, begins_looks_right, unfinished_looks_right}

-- a byte is passed over
pub passed : (end : End) (byte : ℕ) (more : List ℕ) (seen : List Heard) (rest : List ℕ) → looks_right end (byte ∷ more) ≡ false → Stream end more seen rest → Stream end (byte ∷ more) seen rest
passed end byte more seen rest h s =
    (Passed byte ∷ s.0, (more, refl, (λ f. both_ways (looks_right end (byte ∷ more)) h (begins_looks_right end (byte ∷ more) f)), (λ u. both_ways (looks_right end (byte ∷ more)) h (unfinished_looks_right end (byte ∷ more) u)), s.1), s.2)

-- a frame is heard
pub framed : (end : End) (shape : Shape) (bytes more : List ℕ) (seen : List Heard) (rest : List ℕ) → IsShape end shape → bytes ≡ spelled end shape ++ more → Stream end more seen rest → Stream end bytes (heard_of end shape ∷ seen) rest
framed end shape bytes more seen rest p e s = (Framed shape ∷ s.0, (more, p, e, s.1), ap (λ (l : List Heard). heard_of end shape ∷ l) s.2)

not_start : (end : End) (b : ℕ) (more : List ℕ) → starts end b ≡ false → looks_right end (b ∷ more) ≡ false
not_start end b [] h = h
not_start end b (p ∷ []) h = and_left (starts end b) (p == second end) h
not_start end b (p ∷ q ∷ []) h = and_left (starts end b && p == second end) (q == third end) (and_left (starts end b) (p == second end) h)
not_start end b (p ∷ q ∷ r ∷ more) h =
    and_left (starts end b && p == second end && q == third end) (b == 0x81 || not (r == 0))
    (and_left (starts end b && p == second end) (q == third end) (and_left (starts end b) (p == second end) h))

inside_no_start : (end : End) (b : ℕ) → (b ≡ second end) ⊎ (b ≡ third end) → starts end b ≡ false
inside_no_start side.Unit b h = ⊎_elim (λ e. ap (λ (n : ℕ). starts side.Unit n) e) (λ e. ap (λ (n : ℕ). starts side.Unit n) e) h
inside_no_start side.Loader b h = ⊎_elim (λ e. ap (λ (n : ℕ). starts side.Loader n) e) (λ e. ap (λ (n : ℕ). starts side.Loader n) e) h

-- what does not look right does not with more behind it
still_wrong : (end : End) (a b : List ℕ) → looks_right end a ≡ false → looks_right end (a ++ b) ≡ false
still_wrong end a b h = ⊎_elim (λ yes. absurd (both_ways (looks_right end a) h (beginning end a b yes))) (λ no. no) (cases_Bool (looks_right end (a ++ b)))

starts_anew : (end : End) (byte : ℕ) → starts end byte ≡ true → anew end byte ≡ byte ∷ []
starts_anew end byte h = rw h refl

none_anew : (end : End) (byte : ℕ) → starts end byte ≡ false → anew end byte ≡ []
none_anew end byte h = rw h refl

-- the byte itself, with which a beginning does not go on
anew_passed : (end : End) (byte : ℕ) (more : List ℕ) (seen : List Heard) (rest : List ℕ) → Stream end (anew end byte ++ more) seen rest → Stream end (byte ∷ more) seen rest
anew_passed end byte more seen rest s = ⊎_elim
    (λ yes. subst (λ (l : List ℕ). Stream end (l ++ more) seen rest) (starts_anew end byte yes) s)
    (λ no. passed end byte more seen rest (not_start end byte more no) (subst (λ (l : List ℕ). Stream end (l ++ more) seen rest) (none_anew end byte no) s))
    (cases_Bool (starts end byte))

kept_looks_right : (end : End) (kept : List ℕ) → is_kept end kept ≡ true → looks_right end kept ≡ true
kept_looks_right end kept h = (and_parts (looks_right end kept) (nat_lt (length kept) (size_of kept)) h).0

second_is : (end : End) (a b : ℕ) → looks_right end (a ∷ b ∷ []) ≡ true → b ≡ second end
second_is end a b h = eqb-true b (second end) ((and_parts (starts end a) (b == second end) h).1)

third_is : (end : End) (a b c : ℕ) → looks_right end (a ∷ b ∷ c ∷ []) ≡ true → c ≡ third end
third_is end a b c h = eqb-true c (third end) ((and_parts (starts end a && b == second end) (c == third end) h).1)

-- a beginning that does not go on is passed over, up to the byte that came
wrong_passed : (end : End) (kept : List ℕ) (byte : ℕ) (more : List ℕ) (seen : List Heard) (rest : List ℕ) → is_kept end kept ≡ true → looks_right end (kept ++ byte ∷ []) ≡ false
    → Stream end (anew end byte ++ more) seen rest → Stream end (kept ++ byte ∷ more) seen rest
wrong_passed end [] byte more seen rest kept wrong s = anew_passed end byte more seen rest s
wrong_passed end (a ∷ []) byte more seen rest kept wrong s =
    passed end a (byte ∷ more) seen rest (still_wrong end (a ∷ byte ∷ []) more wrong) (anew_passed end byte more seen rest s)
wrong_passed end (a ∷ b ∷ []) byte more seen rest kept wrong s =
    let right = kept_looks_right end (a ∷ b ∷ []) kept in
    passed end a (b ∷ byte ∷ more) seen rest (still_wrong end (a ∷ b ∷ byte ∷ []) more wrong)
    (passed end b (byte ∷ more) seen rest (not_start end b (byte ∷ more) (inside_no_start end b (inl (second_is end a b right))))
    (anew_passed end byte more seen rest s))
wrong_passed end (a ∷ b ∷ c ∷ []) byte more seen rest kept wrong s =
    let right = kept_looks_right end (a ∷ b ∷ c ∷ []) kept in
    passed end a (b ∷ c ∷ byte ∷ more) seen rest (still_wrong end (a ∷ b ∷ c ∷ byte ∷ []) more wrong)
    (passed end b (c ∷ byte ∷ more) seen rest (not_start end b (c ∷ byte ∷ more) (inside_no_start end b (inl (second_is end a b (beginning end (a ∷ b ∷ []) (c ∷ []) right)))))
    (passed end c (byte ∷ more) seen rest (not_start end c (byte ∷ more) (inside_no_start end c (inr (third_is end a b c right))))
    (anew_passed end byte more seen rest s)))
wrong_passed end (a ∷ b ∷ c ∷ d ∷ body) byte more seen rest kept wrong s =
    absurd (both_ways (looks_right end (a ∷ b ∷ c ∷ d ∷ body)) wrong (kept_looks_right end (a ∷ b ∷ c ∷ d ∷ body) kept))

-- the last byte of a frame
long_heard : (end : End) (body : List ℕ) (byte : ℕ) (more : List ℕ) (seen : List Heard) (rest : List ℕ) → 0 < length body → Stream end more seen rest
    → Stream end ((0x80 ∷ second end ∷ third end ∷ length body ∷ body) ++ byte ∷ more) (heard_at_last (0x80 ∷ second end ∷ third end ∷ length body ∷ body) byte ∷ seen) rest
long_heard end body byte more seen rest some s =
    framed end (Long body byte) (0x80 ∷ second end ∷ third end ∷ length body ∷ (body ++ byte ∷ more)) more seen rest some
    (ap (λ (l : List ℕ). 0x80 ∷ second end ∷ third end ∷ length body ∷ l) (sym (append_assoc body (byte ∷ []) more))) s

short_heard : (end : End) (a byte : ℕ) (more : List ℕ) (seen : List Heard) (rest : List ℕ) → IsShape end (Short a byte) → Stream end more seen rest
    → Stream end ((0x81 ∷ second end ∷ third end ∷ a ∷ []) ++ byte ∷ more) (heard_at_last (0x81 ∷ second end ∷ third end ∷ a ∷ []) byte ∷ seen) rest
short_heard end a byte more seen rest some s = framed end (Short a byte) (0x81 ∷ second end ∷ third end ∷ a ∷ byte ∷ more) more seen rest some refl s

-- what a beginning with a length is: the first byte, and in the long form a length that is not 0
pub record Begun (end : End) (a b c d : ℕ) : Type 0 where
  pub first : starts end a ≡ true
  pub second_is : b ≡ second end
  pub third_is : c ≡ third end
  pub length_is : (a == 0x81 || not (d == 0)) ≡ true

begun : (end : End) (a b c d : ℕ) (body : List ℕ) → looks_right end (a ∷ b ∷ c ∷ d ∷ body) ≡ true → Begun end a b c d
begun end a b c d body h =
    let p = and_parts (starts end a && b == second end && c == third end) (a == 0x81 || not (d == 0)) h in
    let q = and_parts (starts end a && b == second end) (c == third end) p.0 in
    let r = and_parts (starts end a) (b == second end) q.0 in
    record { first = r.0; second_is = eqb-true b (second end) r.1; third_is = eqb-true c (third end) q.1; length_is = p.1 }

is_short : (end : End) (a d byte : ℕ) → a ≡ 0x81 → starts end a ≡ true → IsShape end (Short d byte)
is_short side.Unit a d byte e h = tt
is_short side.Loader a d byte e h = both_ways (starts side.Loader a) (ap (λ (n : ℕ). starts side.Loader n) e) h

is_long : (end : End) (a : ℕ) → (a == 0x81) ≡ false → starts end a ≡ true → a ≡ 0x80
is_long side.Unit a e h = grind (arith, nat_tests)
is_long side.Loader a e h = grind (arith, nat_tests)

short_size : (a b c d : ℕ) (body : List ℕ) → (a == 0x81) ≡ true → size_of (a ∷ b ∷ c ∷ d ∷ body) ≡ 5
short_size a b c d body h = rw h refl

long_size : (a b c d : ℕ) (body : List ℕ) → (a == 0x81) ≡ false → size_of (a ∷ b ∷ c ∷ d ∷ body) ≡ d + 5
long_size a b c d body h = rw h refl

empty : (l : List ℕ) → length l ≡ 0 → l ≡ []
empty [] h = refl
empty (x ∷ xs) h = absurd (omega arith)

five : (bytes : List ℕ) → 5 ≤ size_of bytes
five [] = omega arith
five (a ∷ []) = omega arith
five (a ∷ b ∷ []) = omega arith
five (a ∷ b ∷ c ∷ []) = omega arith
five (a ∷ b ∷ c ∷ d ∷ more) = cond_both (a == 0x81) 5 (d + 5) (λ n. 5 ≤ n) (λ e. omega arith) (λ e. omega arith)

whole_heard : (end : End) (kept : List ℕ) (byte : ℕ) (more : List ℕ) (seen : List Heard) (rest : List ℕ) → looks_right end (kept ++ byte ∷ []) ≡ true
    → length (kept ++ byte ∷ []) ≡ size_of (kept ++ byte ∷ []) → Stream end more seen rest → Stream end (kept ++ byte ∷ more) (heard_at_last kept byte ∷ seen) rest
whole_heard end [] byte more seen rest right len s = absurd (omega arith)
whole_heard end (a ∷ []) byte more seen rest right len s = absurd (omega arith)
whole_heard end (a ∷ b ∷ []) byte more seen rest right len s = absurd (omega arith)
whole_heard end (a ∷ b ∷ c ∷ []) byte more seen rest right len s = absurd (omega (arith, five (a ∷ b ∷ c ∷ byte ∷ [])))
whole_heard end (a ∷ b ∷ c ∷ d ∷ body) byte more seen rest right len s =
    let g = begun end a b c d (body ++ byte ∷ []) right in
    let count : length (body ++ byte ∷ []) ≡ length body + 1 = simp length-append (omega arith) in
    ⊎_elim
    (λ is. let size = short_size a b c d (body ++ byte ∷ []) is in
    let none : body ≡ [] = empty body (omega (arith, size, len, count)) in
    let e : 0x81 ∷ second end ∷ third end ∷ d ∷ [] ≡ a ∷ b ∷ c ∷ d ∷ body =
    ap (λ (n : ℕ). n ∷ second end ∷ third end ∷ d ∷ []) (sym (eqb-true a 0x81 is)) ∙ ap (λ (n : ℕ). a ∷ n ∷ third end ∷ d ∷ []) (sym g.second_is)
    ∙ ap (λ (n : ℕ). a ∷ b ∷ n ∷ d ∷ []) (sym g.third_is) ∙ ap (λ (l : List ℕ). a ∷ b ∷ c ∷ d ∷ l) (sym none) in
    subst (λ (k : List ℕ). Stream end (k ++ byte ∷ more) (heard_at_last k byte ∷ seen) rest) e
    (short_heard end d byte more seen rest (is_short end a d byte (eqb-true a 0x81 is) g.first) s))
    (λ isnt. let size = long_size a b c d (body ++ byte ∷ []) isnt in
    let n : length body ≡ d = omega (arith, size, len, count) in
    let some : 0 < d = grind (arith, nat_tests, isnt, g.length_is) in
    let e : 0x80 ∷ second end ∷ third end ∷ length body ∷ body ≡ a ∷ b ∷ c ∷ d ∷ body =
    ap (λ (n : ℕ). n ∷ second end ∷ third end ∷ length body ∷ body) (sym (is_long end a isnt g.first)) ∙ ap (λ (n : ℕ). a ∷ n ∷ third end ∷ length body ∷ body) (sym g.second_is)
    ∙ ap (λ (n : ℕ). a ∷ b ∷ n ∷ length body ∷ body) (sym g.third_is) ∙ ap (λ (m : ℕ). a ∷ b ∷ c ∷ m ∷ body) n in
    subst (λ (k : List ℕ). Stream end (k ++ byte ∷ more) (heard_at_last k byte ∷ seen) rest) e
    (long_heard end body byte more seen rest (omega arith) s))
    (cases_Bool (a == 0x81))

-- the three things that a byte may do
if_wrong : (end : End) (kept : List ℕ) (byte : ℕ) → looks_right end (kept ++ byte ∷ []) ≡ false → after_byte end kept byte ≡ record { kept = anew end byte; heard = None }
if_wrong end kept byte h = rw h refl

if_last : (end : End) (kept : List ℕ) (byte : ℕ) → looks_right end (kept ++ byte ∷ []) ≡ true → (length (kept ++ byte ∷ []) == size_of (kept ++ byte ∷ [])) ≡ true
    → after_byte end kept byte ≡ record { kept = []; heard = Some (heard_at_last kept byte) }
if_last end kept byte h e = rw (h, e) refl

if_within : (end : End) (kept : List ℕ) (byte : ℕ) → looks_right end (kept ++ byte ∷ []) ≡ true → (length (kept ++ byte ∷ []) == size_of (kept ++ byte ∷ [])) ≡ false
    → after_byte end kept byte ≡ record { kept = kept ++ byte ∷ []; heard = None }
if_within end kept byte h e = rw (h, e) refl

-- what holds of what a byte leaves: by its three cases
pub by_cases : (P : Ear → Type 0) (end : End) (kept : List ℕ) (byte : ℕ)
    → (looks_right end (kept ++ byte ∷ []) ≡ false → P (record { kept = anew end byte; heard = None }))
    → (looks_right end (kept ++ byte ∷ []) ≡ true → (length (kept ++ byte ∷ []) == size_of (kept ++ byte ∷ [])) ≡ true → P (record { kept = []; heard = Some (heard_at_last kept byte) }))
    → (looks_right end (kept ++ byte ∷ []) ≡ true → (length (kept ++ byte ∷ []) == size_of (kept ++ byte ∷ [])) ≡ false → P (record { kept = kept ++ byte ∷ []; heard = None }))
    → P (after_byte end kept byte)
by_cases P end kept byte wrong last within = ⊎_elim
    (λ right. ⊎_elim (λ e. subst P (sym (if_last end kept byte right e)) (last right e)) (λ e. subst P (sym (if_within end kept byte right e)) (within right e)) (cases_Bool (length (kept ++ byte ∷ []) == size_of (kept ++ byte ∷ []))))
    (λ no. subst P (sym (if_wrong end kept byte no)) (wrong no))
    (cases_Bool (looks_right end (kept ++ byte ∷ [])))

-- a byte more of the stream
pub byte_read : (end : End) (kept : List ℕ) (byte : ℕ) (more : List ℕ) (seen : List Heard) (rest : List ℕ) → is_kept end kept ≡ true
    → Stream end ((after_byte end kept byte).kept ++ more) seen rest → Stream end (kept ++ byte ∷ more) (option_to_list (after_byte end kept byte).heard ++ seen) rest
byte_read end kept byte more seen rest is =
    by_cases (λ (ear : Ear). Stream end (ear.kept ++ more) seen rest → Stream end (kept ++ byte ∷ more) (option_to_list ear.heard ++ seen) rest) end kept byte
    (λ no s. wrong_passed end kept byte more seen rest is no s)
    (λ right e s. whole_heard end kept byte more seen rest right (eqb-true (length (kept ++ byte ∷ [])) (size_of (kept ++ byte ∷ [])) e) s)
    (λ right e s. subst (λ (l : List ℕ). Stream end l seen rest) (append_assoc kept (byte ∷ []) more) s)

anew_is_kept : (end : End) (byte : ℕ) → is_kept end (anew end byte) ≡ true
anew_is_kept end byte = ⊎_elim (λ yes. rw (starts_anew end byte yes) (and_from (starts end byte) true yes refl)) (λ no. rw (none_anew end byte no) refl) (cases_Bool (starts end byte))

not_past : (end : End) (kept : List ℕ) (byte : ℕ) → length kept < size_of kept → length (kept ++ byte ∷ []) ≤ size_of (kept ++ byte ∷ [])
not_past end [] byte h = omega arith
not_past end (a ∷ []) byte h = omega arith
not_past end (a ∷ b ∷ []) byte h = omega arith
not_past end (a ∷ b ∷ c ∷ []) byte h = omega (arith, five (a ∷ b ∷ c ∷ byte ∷ []))
not_past end (a ∷ b ∷ c ∷ d ∷ body) byte h = omega (arith, length-append body (byte ∷ []))

below : (a b : ℕ) → a ≤ b → (a ≡ b → ⊥) → a < b
below a b h differ = ⊎_elim (λ e. absurd (differ e)) (λ other. ⊎_elim (λ lt. lt) (λ gt. absurd (omega arith)) other) (cases_order a b)

pub stays_kept : (end : End) (kept : List ℕ) (byte : ℕ) → is_kept end kept ≡ true → is_kept end (after_byte end kept byte).kept ≡ true
stays_kept end kept byte is =
    let short : length kept < size_of kept = ltb-true (length kept) (size_of kept) ((and_parts (looks_right end kept) (nat_lt (length kept) (size_of kept)) is).1) in
    by_cases (λ (ear : Ear). is_kept end ear.kept ≡ true) end kept byte (λ no. anew_is_kept end byte) (λ right e. refl)
    (λ right e. and_from (looks_right end (kept ++ byte ∷ [])) (nat_lt (length (kept ++ byte ∷ [])) (size_of (kept ++ byte ∷ []))) right
    (lt-ltb (length (kept ++ byte ∷ [])) (size_of (kept ++ byte ∷ [])) (below (length (kept ++ byte ∷ [])) (size_of (kept ++ byte ∷ [])) (not_past end kept byte short) (eqb-false (length (kept ++ byte ∷ [])) (size_of (kept ++ byte ∷ [])) e))))

rest_some : (a b : List ℕ) → 0 < length b → 0 < length (a ++ b)
rest_some a b h = omega (arith, length-append a b)

long_unfinished : (end : End) (d : ℕ) (body : List ℕ) → length body ≤ d → 0 < d → IsUnfinished end (0x80 ∷ second end ∷ third end ∷ d ∷ body)
long_unfinished end d body room some =
    let zeros : List ℕ = replicate (d - length body) 0 in
    let count : length (body ++ zeros) ≡ d = length-append body zeros ∙ ap (λ (n : ℕ). length body + n) (length-replicate (d - length body) 0) ∙ omega arith in
    subst (λ (n : ℕ). IsUnfinished end (0x80 ∷ second end ∷ third end ∷ n ∷ body)) count
    (record {
      shape = Long (body ++ zeros) 0;
      more = zeros ++ 0 ∷ [];
      is_shape = omega arith;
      some = rest_some zeros (0 ∷ []) (omega arith);
      whole = ap (λ (l : List ℕ). 0x80 ∷ second end ∷ third end ∷ length (body ++ zeros) ∷ l) (append_assoc body zeros (0 ∷ []));
    })

-- what stands before a beginning is one
front_unfinished : (end : End) (a b : List ℕ) → IsUnfinished end (a ++ b) → IsUnfinished end a
front_unfinished end a b u = record { shape = u.shape; more = b ++ u.more; is_shape = u.is_shape; some = rest_some b u.more u.some; whole = u.whole ∙ append_assoc a b u.more }

-- a header, and a part of the data: zeros make it a whole frame
header_unfinished : (end : End) (a b c d : ℕ) (body : List ℕ) → looks_right end (a ∷ b ∷ c ∷ d ∷ body) ≡ true → length (a ∷ b ∷ c ∷ d ∷ body) < size_of (a ∷ b ∷ c ∷ d ∷ body)
    → IsUnfinished end (a ∷ b ∷ c ∷ d ∷ body)
header_unfinished end a b c d body right short =
    let g = begun end a b c d body right in
    subst (λ (n : ℕ). IsUnfinished end (a ∷ n ∷ c ∷ d ∷ body)) (sym g.second_is) (subst (λ (n : ℕ). IsUnfinished end (a ∷ second end ∷ n ∷ d ∷ body)) (sym g.third_is)
    (⊎_elim
    (λ e. let none : body ≡ [] = empty body (omega (arith, short, short_size a b c d body e)) in
    subst (λ (n : ℕ). IsUnfinished end (n ∷ second end ∷ third end ∷ d ∷ body)) (sym (eqb-true a 0x81 e))
    (subst (λ (l : List ℕ). IsUnfinished end (0x81 ∷ second end ∷ third end ∷ d ∷ l)) (sym none)
    (record { shape = Short d 0; more = 0 ∷ []; is_shape = is_short end a d 0 (eqb-true a 0x81 e) g.first; some = omega arith; whole = refl })))
    (λ e. subst (λ (n : ℕ). IsUnfinished end (n ∷ second end ∷ third end ∷ d ∷ body)) (sym (is_long end a e g.first))
    (long_unfinished end d body (omega (arith, short, long_size a b c d body e)) (grind (arith, nat_tests, e, g.length_is))))
    (cases_Bool (a == 0x81))))

byte_is : (n : ℕ) → (n == n) ≡ true
byte_is n = eq-eqb n n refl

or_true : (x : Bool) → (x || true) ≡ true
or_true true = refl
or_true false = refl

three_unfinished : (end : End) (a b c : ℕ) → looks_right end (a ∷ b ∷ c ∷ []) ≡ true → IsUnfinished end (a ∷ b ∷ c ∷ [])
three_unfinished end a b c right = front_unfinished end (a ∷ b ∷ c ∷ []) (1 ∷ [])
    (header_unfinished end a b c 1 [] (and_from (starts end a && b == second end && c == third end) (a == 0x81 || true) right (or_true (a == 0x81)))
    (cond_both (a == 0x81) 5 6 (λ n. 4 < n) (λ e. omega arith) (λ e. omega arith)))

two_unfinished : (end : End) (a b : ℕ) → looks_right end (a ∷ b ∷ []) ≡ true → IsUnfinished end (a ∷ b ∷ [])
two_unfinished end a b right = front_unfinished end (a ∷ b ∷ []) (third end ∷ [])
    (three_unfinished end a b (third end) (and_from (starts end a && b == second end) (third end == third end) right (byte_is (third end))))

one_unfinished : (end : End) (a : ℕ) → starts end a ≡ true → IsUnfinished end (a ∷ [])
one_unfinished end a right = front_unfinished end (a ∷ []) (second end ∷ []) (two_unfinished end a (second end) (and_from (starts end a) (second end == second end) right (byte_is (second end))))

long_starts : (end : End) → starts end 0x80 ≡ true
long_starts side.Unit = refl
long_starts side.Loader = refl

-- a beginning is one of the grammar: some bytes make it a whole frame
pub kept_unfinished : (end : End) (kept : List ℕ) → is_kept end kept ≡ true → IsUnfinished end kept
kept_unfinished end [] is = front_unfinished end [] (0x80 ∷ []) (one_unfinished end 0x80 (long_starts end))
kept_unfinished end (a ∷ []) is = one_unfinished end a (kept_looks_right end (a ∷ []) is)
kept_unfinished end (a ∷ b ∷ []) is = two_unfinished end a b (kept_looks_right end (a ∷ b ∷ []) is)
kept_unfinished end (a ∷ b ∷ c ∷ []) is = three_unfinished end a b c (kept_looks_right end (a ∷ b ∷ c ∷ []) is)
kept_unfinished end (a ∷ b ∷ c ∷ d ∷ body) is =
    header_unfinished end a b c d body (kept_looks_right end (a ∷ b ∷ c ∷ d ∷ body) is)
    (ltb-true (length (a ∷ b ∷ c ∷ d ∷ body)) (size_of (a ∷ b ∷ c ∷ d ∷ body)) ((and_parts (looks_right end (a ∷ b ∷ c ∷ d ∷ body)) (nat_lt (length (a ∷ b ∷ c ∷ d ∷ body)) (size_of (a ∷ b ∷ c ∷ d ∷ body))) is).1))

pub rest_read : (end : End) (kept : List ℕ) → is_kept end kept ≡ true → Stream end kept [] kept
rest_read end kept is = ([], (refl, kept_unfinished end kept is), refl)

pub bytes_read : (end : End) (kept bytes : List ℕ) → is_kept end kept ≡ true → Stream end (kept ++ bytes) (heard_in end kept bytes) (kept_after end kept bytes)
bytes_read end kept [] is = subst (λ (l : List ℕ). Stream end l [] kept) (sym (append-nil kept)) (rest_read end kept is)
bytes_read end kept (byte ∷ bytes) is =
    byte_read end kept byte bytes (heard_in end (after_byte end kept byte).kept bytes) (kept_after end (after_byte end kept byte).kept bytes) is
    (bytes_read end (after_byte end kept byte).kept bytes (stays_kept end kept byte is))
