-- The same bytes are the entries of one list alone.
use Rattle.std.proofs.Common.{◌≡◌, ◌∙◌, ℕ, suc, List, [], ◌∷◌, ◌++◌, length, map, drop, refl, ap, sym, arith, All, append-nil}
use Rattle.std.specs.Prelude.{slice_index}
use Rattle.byteorder.specs.Endian.{big_number}
use Rattle.card_layout.specs.Fields.{joined}
use Rattle.card_layout.proofs.Numbers.{big_number-big_bytes}
use Rattle.tach_media.specs.Medium.{bytes_at}
use Rattle.card_image.specs.CardFile.{FileEntry, entry_bytes, IsFileEntry}

-- two fronts of one length
fronts : (a b r s : List ℕ) → length a ≡ length b → a ++ r ≡ b ++ s → (a ≡ b) × (r ≡ s)
fronts [] [] r s len is = (refl, is)
fronts [] (y ∷ b) r s len is = absurd (omega (arith, len))
fronts (x ∷ a) [] r s len is = absurd (omega (arith, len))
fronts (x ∷ a) (y ∷ b) r s len is =
    let tails : a ++ r ≡ b ++ s = cc in
    let first : x ≡ y = cc in
    let rest = fronts a b r s (omega (arith, len)) tails in
    ((λ t. first t ∷ rest.0 t), rest.1)

-- an entry at the front, and what follows it
entry_same : (e f : FileEntry) (r s : List ℕ) → IsFileEntry e → IsFileEntry f → entry_bytes e ++ r ≡ entry_bytes f ++ s → (e ≡ f) × (r ≡ s)
entry_same e f r s ie if_ is =
    let fid : e.fid ≡ f.fid = sym (big_number-big_bytes 2 e.fid ie.fid) ∙ ap (λ (l : List ℕ). big_number 2 (bytes_at l 0 2)) is ∙ big_number-big_bytes 2 f.fid if_.fid in
    let kind : e.kind ≡ f.kind = omega (arith, ap (λ (l : List ℕ). slice_index l 2) is, ie.kind, if_.kind) in
    let len : length e.value ≡ length f.value = sym (big_number-big_bytes 2 (length e.value) ie.short) ∙ ap (λ (l : List ℕ). big_number 2 (bytes_at l 3 2)) is ∙ big_number-big_bytes 2 (length f.value) if_.short in
    let behind : (e.value ++ []) ++ r ≡ (f.value ++ []) ++ s = ap (λ (l : List ℕ). drop 5 l) is in
    let rest = fronts e.value f.value r s len (ap (λ (l : List ℕ). l ++ r) (sym (append-nil e.value)) ∙ behind ∙ ap (λ (l : List ℕ). l ++ s) (append-nil f.value)) in
    ((λ t. record { fid = fid t; kind = kind t; value = rest.0 t }), rest.1)

all_rest : (e : FileEntry) (es : List FileEntry) → All IsFileEntry (e ∷ es) → All IsFileEntry es
all_rest e es all = λ k d low. all (suc k) d (omega (arith, low))

pub one_list : (es fs : List FileEntry) → All IsFileEntry es → All IsFileEntry fs → joined (map entry_bytes es) ≡ joined (map entry_bytes fs) → es ≡ fs
one_list [] [] ie if_ is = refl
one_list [] (f ∷ fs) ie if_ is = absurd (cc)
one_list (e ∷ es) [] ie if_ is = absurd (cc)
one_list (e ∷ es) (f ∷ fs) ie if_ is =
    let same = entry_same e f (joined (map entry_bytes es)) (joined (map entry_bytes fs)) (ie 0 e (omega arith)) (if_ 0 f (omega arith)) is in
    let rest = one_list es fs (all_rest e es ie) (all_rest f fs if_) same.1 in
    (λ t. same.0 t ∷ rest t)
