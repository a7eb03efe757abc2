-- A turn of the loop over the bytes that come.
use Rattle.std.proofs.Common.{◌≡◌, ℕ, ◌+◌, ◌<◌, ◌≤◌, true, List, [], ◌∷◌, ◌++◌, length, take, drop, slice_index, option_to_list, refl, sym, ◌∙◌, ap, subst, append_assoc, append-nil, add-one}
use Rattle.std.proofs.Math.Seq.{take-suc}
use Rattle.std.proofs.lemmas.List.{take_all, take-append-drop}
use Rattle.link_model.specs.declared.side.End.{End}
use Rattle.link_model.specs.Frames.{Heard, Stream}
use Rattle.link_model.specs.Hearing.{is_kept, after_byte, heard_in, kept_after}
use Rattle.link_model.proofs.Runs.{heard_append, kept_append, bytes_and_more}

one_more : (bytes : List ℕ) (i : ℕ) → i < length bytes → take (i + 1) bytes ≡ take i bytes ++ slice_index bytes i ∷ []
one_more bytes i h = ap (λ (n : ℕ). take n bytes) (add-one i) ∙ take-suc bytes i 0 h

-- where nothing was heard in the bytes before, the next byte tells all
pub heard_more : (end : End) (start kept bytes : List ℕ) (i : ℕ) → i < length bytes → heard_in end start (take i bytes) ≡ [] → kept ≡ kept_after end start (take i bytes)
    → heard_in end start (take (i + 1) bytes) ≡ option_to_list (after_byte end kept (slice_index bytes i)).heard
heard_more end start kept bytes i h quiet same =
    ap (λ (l : List ℕ). heard_in end start l) (one_more bytes i h) ∙ heard_append end start (take i bytes) (slice_index bytes i ∷ [])
    ∙ ap (λ (l : List Heard). l ++ heard_in end (kept_after end start (take i bytes)) (slice_index bytes i ∷ [])) quiet
    ∙ append-nil (option_to_list (after_byte end (kept_after end start (take i bytes)) (slice_index bytes i)).heard)
    ∙ ap (λ (k : List ℕ). option_to_list (after_byte end k (slice_index bytes i)).heard) (sym same)

pub kept_more : (end : End) (start kept bytes : List ℕ) (i : ℕ) → i < length bytes → kept ≡ kept_after end start (take i bytes)
    → (after_byte end kept (slice_index bytes i)).kept ≡ kept_after end start (take (i + 1) bytes)
kept_more end start kept bytes i h same =
    ap (λ (k : List ℕ). (after_byte end k (slice_index bytes i)).kept) same
    ∙ sym (ap (λ (l : List ℕ). kept_after end start l) (one_more bytes i h) ∙ kept_append end start (take i bytes) (slice_index bytes i ∷ []))

-- however the stream goes on behind the bytes that came
pub fed : (end : End) (start kept bytes : List ℕ) (n : ℕ) (heard : List Heard) → is_kept end start ≡ true → heard_in end start (take n bytes) ≡ heard → kept ≡ kept_after end start (take n bytes)
    → (more : List ℕ) (seen : List Heard) (rest : List ℕ) → Stream end (kept ++ (drop n bytes ++ more)) seen rest → Stream end (start ++ (bytes ++ more)) (heard ++ seen) rest
fed end start kept bytes n heard is told same more seen rest s =
    let whole : take n bytes ++ (drop n bytes ++ more) ≡ bytes ++ more = sym (append_assoc (take n bytes) (drop n bytes) more) ∙ ap (λ (l : List ℕ). l ++ more) (take-append-drop n bytes) in
    subst (λ (l : List ℕ). Stream end (start ++ l) (heard ++ seen) rest) whole
    (subst (λ (l : List Heard). Stream end (start ++ (take n bytes ++ (drop n bytes ++ more))) (l ++ seen) rest) told
    (bytes_and_more end start (take n bytes) (drop n bytes ++ more) seen rest is
    (subst (λ (k : List ℕ). Stream end (k ++ (drop n bytes ++ more)) seen rest) same s)))

no_front : (a b : List Heard) → a ++ b ≡ [] → a ≡ []
no_front [] b h = refl
no_front (x ∷ a) b h = absurd (cc)

-- where nothing is heard in all of the bytes, nothing is in the first
pub quiet_front : (end : End) (start bytes : List ℕ) (i m : ℕ) → length bytes ≤ i → heard_in end start (take i bytes) ≡ [] → heard_in end start (take m bytes) ≡ []
quiet_front end start bytes i m h quiet =
    let whole : take i bytes ≡ bytes = take_all i bytes h in
    no_front (heard_in end start (take m bytes)) (heard_in end (kept_after end start (take m bytes)) (drop m bytes))
    (sym (heard_append end start (take m bytes) (drop m bytes)) ∙ ap (λ (l : List ℕ). heard_in end start l) (take-append-drop m bytes ∙ sym whole) ∙ quiet)
