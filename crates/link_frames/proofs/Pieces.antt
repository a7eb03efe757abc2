-- What is sent of a message, of which a part was read.
use Rattle.std.proofs.Common.{◌≡◌, ℕ, ◌+◌, ◌-◌, ◌*◌, ◌≤◌, ◌<◌, ◌==◌, ◌⊎◌, inl, inr, true, List, ◌∷◌, length, take, drop, Option, Some, None, refl, sym, ◌∙◌, ap, eq-eqb, arith}
use Rattle.std.proofs.lemmas.Bool.{cond_both, eqb-true, le-leb, lt-leb}
use Rattle.std.proofs.lemmas.List.{take-take, take_all}
use Rattle.link_model.specs.declared.request.Request.{Request}
use Rattle.link_model.specs.Answers.{LinkState, Upload, Sending, Reply, answers, number_of, cut, piece, has_piece, sends_on}
use Rattle.link_frames.specs.Steps.{begins}
use Rattle.link_frames.specs.Sending.{IsPart, sends_piece}

-- a message that goes in one frame
pub begun_whole : (request : Request) (state : LinkState) (told : Option ℕ) (len : ℕ) (bytes : List ℕ) (content : Option (List ℕ)) → told ≡ Some len → IsPart content 2 told bytes → len ≤ 254
    → begins state request content ≡ answers (0x76 ∷ number_of request ∷ bytes) Upload
begun_whole request state told len bytes None is part few = absurd (cc (sym is ∙ part.len))
begun_whole request state told len bytes (Some content) is part few =
    let same : Some len ≡ Some (2 + length content) = sym is ∙ part.len in
    let long : len ≡ 2 + length content = cc in
    let short : length content ≤ 252 = omega arith in
    let all : bytes ≡ content = part.bytes_are ∙ take_all 252 content short in
    rw (le-leb (length content) 252 short) (ap (λ (c : List ℕ). answers (0x76 ∷ number_of request ∷ c) Upload) (sym all))

-- the bytes of a piece are the first of those that were read
piece_read : (content bytes : List ℕ) (counter : ℕ) → bytes ≡ take 252 (drop (2 + 251 * (counter - 1) - 2) content) → cut content counter ≡ take 251 bytes
piece_read content bytes counter is =
    let at : 251 * (counter - 1) ≡ 2 + 251 * (counter - 1) - 2 = omega arith in
    ap (λ (n : ℕ). take 251 (drop n content)) at ∙ sym (take-take 251 252 (drop (2 + 251 * (counter - 1) - 2) content) (omega arith)) ∙ ap (λ (l : List ℕ). take 251 l) (sym is)

sends_these : (request : Request) (counter : ℕ) (content bytes : List ℕ) → cut content counter ≡ take 251 bytes → answers (piece request content counter) (Sending request counter) ≡ sends_piece request counter (take 251 bytes)
sends_these request counter content bytes is = ap (λ (l : List ℕ). sends_piece request counter l) is

-- the first piece of a longer one
pub begun_in_pieces : (request : Request) (state : LinkState) (told : Option ℕ) (len : ℕ) (bytes : List ℕ) (content : Option (List ℕ)) → told ≡ Some len → IsPart content 2 told bytes → 254 < len
    → begins state request content ≡ sends_piece request 1 (take 251 bytes)
begun_in_pieces request state told len bytes None is part many = absurd (cc (sym is ∙ part.len))
begun_in_pieces request state told len bytes (Some content) is part many =
    let same : Some len ≡ Some (2 + length content) = sym is ∙ part.len in
    let long : len ≡ 2 + length content = cc in
    let more : 252 < length content = omega arith in
    rw (lt-leb (length content) 252 more) (sends_these request 1 content bytes (piece_read content bytes 1 part.bytes_are))

-- a piece that is asked for again, or the next one, where there is one
next_piece : (request : Request) (counter code : ℕ) (content : List ℕ) → (code ≡ counter) ⊎ (has_piece content code ≡ true)
    → sends_on request counter (Some content) code ≡ answers (piece request content code) (Sending request code)
next_piece request counter code content (inl same) =
    rw (eq-eqb code counter same) (ap (λ (n : ℕ). answers (piece request content n) (Sending request n)) (sym same))
next_piece request counter code content (inr has) =
    let P : Reply → Type 0 = λ r. r ≡ answers (piece request content code) (Sending request code) in
    rw has (cond_both (code == counter) (answers (piece request content counter) (Sending request counter)) (answers (piece request content code) (Sending request code)) P
    (λ e. ap (λ (n : ℕ). answers (piece request content n) (Sending request n)) (sym (eqb-true code counter e))) (λ e. refl))

pub piece_sent : (request : Request) (counter code : ℕ) (told : Option ℕ) (len : ℕ) (bytes : List ℕ) (content : Option (List ℕ)) → told ≡ Some len → IsPart content (2 + 251 * (code - 1)) told bytes
    → (code ≡ counter) ⊎ (2 + 251 * (code - 1) ≤ len) → sends_on request counter content code ≡ sends_piece request code (take 251 bytes)
piece_sent request counter code told len bytes None is part asked = absurd (cc (sym is ∙ part.len))
piece_sent request counter code told len bytes (Some content) is part asked =
    next_piece request counter code content (found asked) ∙ sends_these request code content bytes (piece_read content bytes code part.bytes_are)
  where
    found : (code ≡ counter) ⊎ (2 + 251 * (code - 1) ≤ len) → (code ≡ counter) ⊎ (has_piece content code ≡ true)
    found (inl same) = inl same
    found (inr inside) =
        let same : Some len ≡ Some (2 + length content) = sym is ∙ part.len in
        let long : len ≡ 2 + length content = cc in
        inr (le-leb (251 * (code - 1)) (length content) (omega arith))
