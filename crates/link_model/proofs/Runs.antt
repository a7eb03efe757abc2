-- Hearing in pieces, and hearing what is written.
use Rattle.std.proofs.Common.{◌≡◌, ◌⊎◌, inl, inr, ℕ, ◌<◌, ◌%◌, ◌==◌, ◌&&◌, true, List, [], ◌∷◌, ◌++◌, length, sum, slice_index, option_to_list, refl, sym, ◌∙◌, ap, subst, append_assoc, append-nil, ⊎_elim, arith}
use Rattle.std.specs.List.{concat}
use Rattle.std.proofs.lemmas.Bool.{cases_Bool, and_parts, eqb-true, eq-eqb}
use Rattle.link_model.specs.declared.side.End.{End}
use Rattle.link_model.specs.declared.side.End.TheVariants as side
use Rattle.link_model.specs.Frames.{Heard, Right, Wrong, Shape, Long, Short, second, third, header, body_of, spelled, IsShape, judged, heard_of, Stream}
use Rattle.link_model.specs.Hearing.{is_kept, after_byte, heard_in, kept_after, heard_in_pieces}
use Rattle.link_model.specs.Writing.{with_sum, written_long, written_to}
use Rattle.link_model.proofs.Shapes.{same_stream}
use Rattle.link_model.proofs.Bytes.{byte_read, stays_kept, rest_read, bytes_read, framed}

-- bytes, and then more bytes
pub heard_append : (end : End) (kept a b : List ℕ) → heard_in end kept (a ++ b) ≡ heard_in end kept a ++ heard_in end (kept_after end kept a) b
heard_append end kept [] b = refl
heard_append end kept (x ∷ a) b =
    ap (λ (l : List Heard). option_to_list (after_byte end kept x).heard ++ l) (heard_append end (after_byte end kept x).kept a b)
    ∙ sym (append_assoc (option_to_list (after_byte end kept x).heard) (heard_in end (after_byte end kept x).kept a) (heard_in end (kept_after end (after_byte end kept x).kept a) b))

pub kept_append : (end : End) (kept a b : List ℕ) → kept_after end kept (a ++ b) ≡ kept_after end (kept_after end kept a) b
kept_append end kept [] b = refl
kept_append end kept (x ∷ a) b = kept_append end (after_byte end kept x).kept a b

pub pieces_heard : (end : End) (kept : List ℕ) (pieces : List (List ℕ)) → heard_in_pieces end kept pieces ≡ heard_in end kept (concat pieces)
pieces_heard end kept [] = refl
pieces_heard end kept (piece ∷ pieces) =
    ap (λ (l : List Heard). heard_in end kept piece ++ l) (pieces_heard end (kept_after end kept piece) pieces) ∙ sym (heard_append end kept piece (concat pieces))

-- of a stream whose first bytes were heard
pub bytes_and_more : (end : End) (kept bytes more : List ℕ) (seen : List Heard) (rest : List ℕ) → is_kept end kept ≡ true
    → Stream end (kept_after end kept bytes ++ more) seen rest → Stream end (kept ++ (bytes ++ more)) (heard_in end kept bytes ++ seen) rest
bytes_and_more end kept [] more seen rest is s = s
bytes_and_more end kept (x ∷ bytes) more seen rest is s =
    let ear = after_byte end kept x in
    subst (λ (l : List Heard). Stream end (kept ++ x ∷ (bytes ++ more)) l rest)
    (sym (append_assoc (option_to_list (after_byte end kept x).heard) (heard_in end (after_byte end kept x).kept bytes) seen))
    (byte_read end kept x (bytes ++ more) (heard_in end (after_byte end kept x).kept bytes ++ seen) rest is
    (bytes_and_more end (after_byte end kept x).kept bytes more seen rest (stays_kept end kept x is) s))

-- a frame alone
pub alone : (end : End) (shape : Shape) → IsShape end shape → (heard_in end [] (spelled end shape) ≡ heard_of end shape ∷ []) × (kept_after end [] (spelled end shape) ≡ [])
alone end shape is =
    same_stream end (spelled end shape) (heard_in end [] (spelled end shape)) (heard_of end shape ∷ []) (kept_after end [] (spelled end shape)) []
    (bytes_read end [] (spelled end shape) refl)
    (framed end shape (spelled end shape) [] [] [] is (sym (append-nil (spelled end shape))) (rest_read end [] refl))

-- what is heard of a frame with its right sum
pub right_sum : (byte : ℕ) (front body : List ℕ) → judged byte front body (sum front % 256) ≡ Right body
right_sum byte front body = rw (eq-eqb (sum front % 256) (sum front % 256) refl) refl

pub long_is_heard : (end : End) (body : List ℕ) → 0 < length body → (heard_in end [] (written_long end body) ≡ Right body ∷ []) × (kept_after end [] (written_long end body) ≡ [])
long_is_heard end body some =
    let s : ℕ = sum (0x80 ∷ second end ∷ third end ∷ length body ∷ body) % 256 in
    let r = alone end (Long body s) some in
    (r.0 ∙ ap (λ (h : Heard). h ∷ []) (right_sum (slice_index body 0) (0x80 ∷ second end ∷ third end ∷ length body ∷ body) body), r.1)

one_byte : (body : List ℕ) → length body ≡ 1 → slice_index body 0 ≡ 0x81 → body ≡ 0x81 ∷ []
one_byte [] h e = absurd (omega arith)
one_byte (a ∷ []) h e = ap (λ (n : ℕ). n ∷ []) e
one_byte (a ∷ b ∷ body) h e = absurd (omega arith)

pub written_is_heard : (end : End) (body : List ℕ) → 0 < length body → (heard_in end [] (written_to end body) ≡ Right body ∷ []) × (kept_after end [] (written_to end body) ≡ [])
written_is_heard side.Loader body some = long_is_heard side.Loader body some
written_is_heard side.Unit body some = ⊎_elim
    (λ yes. let both = and_parts (length body == 1) (slice_index body 0 == 0x81) yes in
    let e : body ≡ 0x81 ∷ [] = one_byte body (eqb-true (length body) 1 both.0) (eqb-true (slice_index body 0) 0x81 both.1) in
    subst (λ (l : List ℕ). (heard_in side.Unit [] (written_to side.Unit l) ≡ Right l ∷ []) × (kept_after side.Unit [] (written_to side.Unit l) ≡ [])) (sym e) (refl, refl))
    (λ isnt. rw isnt (long_is_heard side.Unit body some))
    (cases_Bool (length body == 1 && slice_index body 0 == 0x81))

-- Of a frame that is heard with its right sum the sum is the one that is written.
sum_is : (byte : ℕ) (front body content : List ℕ) (last : ℕ) → judged byte front body last ≡ Right content → last ≡ sum front % 256
sum_is byte front body content last h = ⊎_elim
    (λ yes. eqb-true last (sum front % 256) yes)
    (λ isnt. let e : Wrong byte ≡ Right content = (rw isnt at h) in absurd (cc))
    (cases_Bool (last == sum front % 256))

-- a frame that is heard is the one that is written, or the start of communication, whose two forms say the same
pub heard_is_written : (end : End) (shape : Shape) (body : List ℕ) → IsShape end shape → heard_of end shape ≡ Right body
    → (spelled end shape ≡ written_long end (body_of shape)) ⊎ (spelled end shape ≡ with_sum (0x81 ∷ second end ∷ third end ∷ body_of shape))
heard_is_written end (Long content last) body is h =
    inl (ap (λ (n : ℕ). 0x80 ∷ second end ∷ third end ∷ length content ∷ (content ++ n ∷ [])) (sum_is (slice_index content 0) (header end (Long content last) ++ content) content body last h))
heard_is_written end (Short byte last) body is h =
    inr (ap (λ (n : ℕ). 0x81 ∷ second end ∷ third end ∷ byte ∷ n ∷ []) (sum_is byte (header end (Short byte last) ++ byte ∷ []) (byte ∷ []) body last h))
