-- The bytes of an entry of a download tell it in one way.
use Rattle.std.proofs.Common.{◌≡◌, ◌∙◌, ℕ, ◌+◌, ◌<◌, ◌≤◌, ◌^◌, List, [], ◌∷◌, ◌++◌, length, take, drop, refl, ap, sym, arith, length-append, append-nil}
use Rattle.std.specs.Prelude.{slice_index}
use Rattle.std.proofs.lemmas.List.{length-take-le, take-append-drop, length-drop, drop-drop}
use Rattle.byteorder.specs.Endian.{big_number, big_bytes}
use Rattle.card_layout.specs.Fields.{joined, IsBytes}
use Rattle.card_layout.specs.Images.{bytes_at}
use Rattle.card_layout.proofs.Cuts.{IsBytes-drop, IsBytes-take}
use Rattle.card_layout.proofs.Numbers.{big_number-big_bytes, big_bytes-big_number}
use Rattle.card_image.specs.CardFile.{FileEntry, entry_bytes}
use Rattle.file_extract.specs.declared.entries.DownloadEntry.{DownloadEntry}
use Rattle.file_extract.specs.Cards.{IsDownloadEntry, HasNoDownloadEntry}
use Rattle.file_extract.specs.Reading.{told_at, IsEntryAt, end_of}

-- the entry at the front of these bytes
abbrev pub entry_in : List ℕ → FileEntry
entry_in bytes = record { fid = big_number 2 (bytes_at bytes 0 2); kind = slice_index bytes 2; value = take (big_number 2 (bytes_at bytes 3 2)) (drop 5 bytes) }

-- bytes that spell an entry
pub spelled_entry : (bytes : List ℕ) → IsBytes bytes → 5 ≤ length bytes → big_number 2 (bytes_at bytes 3 2) + 5 ≤ length bytes
    → bytes ≡ entry_bytes (entry_in bytes) ++ drop (big_number 2 (bytes_at bytes 3 2)) (drop 5 bytes)
spelled_entry [] are long fits = absurd (omega (arith, long))
spelled_entry (a ∷ []) are long fits = absurd (omega (arith, long))
spelled_entry (a ∷ b ∷ []) are long fits = absurd (omega (arith, long))
spelled_entry (a ∷ b ∷ c ∷ []) are long fits = absurd (omega (arith, long))
spelled_entry (a ∷ b ∷ c ∷ d ∷ []) are long fits = absurd (omega (arith, long))
spelled_entry (a ∷ b ∷ c ∷ d ∷ e ∷ tl) are long fits =
    let fid : big_bytes 2 (big_number 2 (a ∷ b ∷ [])) ≡ a ∷ b ∷ [] = big_bytes-big_number 2 (a ∷ b ∷ []) refl (IsBytes-take 2 (a ∷ b ∷ c ∷ d ∷ e ∷ tl) are) in
    let alone : c ≡ big_number 1 (c ∷ []) = omega arith in
    let kind : big_bytes 1 c ≡ c ∷ [] = ap (big_bytes 1) alone ∙ big_bytes-big_number 1 (c ∷ []) refl (IsBytes-take 1 (c ∷ d ∷ e ∷ tl) (IsBytes-drop 2 (a ∷ b ∷ c ∷ d ∷ e ∷ tl) are)) in
    let len : big_bytes 2 (big_number 2 (d ∷ e ∷ [])) ≡ d ∷ e ∷ [] = big_bytes-big_number 2 (d ∷ e ∷ []) refl (IsBytes-take 2 (d ∷ e ∷ tl) (IsBytes-drop 3 (a ∷ b ∷ c ∷ d ∷ e ∷ tl) are)) in
    let short : length (take (big_number 2 (d ∷ e ∷ [])) tl) ≡ big_number 2 (d ∷ e ∷ []) = length-take-le (big_number 2 (d ∷ e ∷ [])) tl (omega (arith, fits)) in
    let value : List ℕ = take (big_number 2 (d ∷ e ∷ [])) tl in
    let rest : List ℕ = drop (big_number 2 (d ∷ e ∷ [])) tl in
    sym
    (ap (λ (x : List ℕ). joined (x ∷ big_bytes 1 c ∷ big_bytes 2 (length value) ∷ value ∷ []) ++ rest) fid
    ∙ ap (λ (x : List ℕ). joined ((a ∷ b ∷ []) ∷ x ∷ big_bytes 2 (length value) ∷ value ∷ []) ++ rest) kind
    ∙ ap (λ (m : ℕ). joined ((a ∷ b ∷ []) ∷ (c ∷ []) ∷ big_bytes 2 m ∷ value ∷ []) ++ rest) short
    ∙ ap (λ (x : List ℕ). joined ((a ∷ b ∷ []) ∷ (c ∷ []) ∷ x ∷ value ∷ []) ++ rest) len
    ∙ ap (λ (l : List ℕ). a ∷ b ∷ c ∷ d ∷ e ∷ l) (ap (λ (l : List ℕ). l ++ rest) (append-nil value) ∙ take-append-drop (big_number 2 (d ∷ e ∷ [])) tl))

-- what an entry's bytes tell
pub entry_told : (bytes : List ℕ) (e : FileEntry) (more : List ℕ) → IsDownloadEntry e → bytes ≡ entry_bytes e ++ more
    → (5 ≤ length bytes) × (slice_index bytes 2 ≡ e.kind) × (big_number 2 (bytes_at bytes 3 2) ≡ length e.value) × (length e.value + 5 ≤ length bytes)
entry_told bytes e more is spelled =
    let long : length bytes ≡ 5 + length ((e.value ++ []) ++ more) = ap length spelled ∙ omega arith in
    let parts : length ((e.value ++ []) ++ more) ≡ length e.value + length more = length-append (e.value ++ []) more ∙ ap (λ (l : List ℕ). length l + length more) (append-nil e.value) in (
      omega (arith, long),
      ap (λ (l : List ℕ). slice_index l 2) spelled ∙ omega (arith, is.kind),
      ap (λ (l : List ℕ). big_number 2 (bytes_at l 3 2)) spelled ∙ big_number-big_bytes 2 (length e.value) is.short,
      omega (arith, long, parts),
    )

-- where none stands
pub few_none : (bytes : List ℕ) → length bytes < 5 → HasNoDownloadEntry bytes
few_none bytes few = λ e more is spelled. absurd (omega (arith, (entry_told bytes e more is spelled).0, few))

pub kind_none : (bytes : List ℕ) → 3 < slice_index bytes 2 → HasNoDownloadEntry bytes
kind_none bytes high = λ e more is spelled. absurd (omega (arith, (entry_told bytes e more is spelled).1, is.kind, high))

pub long_none : (bytes : List ℕ) → length bytes < big_number 2 (bytes_at bytes 3 2) + 5 → HasNoDownloadEntry bytes
long_none bytes long = λ e more is spelled. absurd (omega (arith, (entry_told bytes e more is spelled).2, (entry_told bytes e more is spelled).3, long))

-- and where one does
pub entry_here : (bytes : List ℕ) (at : DownloadEntry) → IsBytes bytes → at.place ≤ length bytes → 5 ≤ length (drop at.place bytes) → at.len + 5 ≤ length (drop at.place bytes) → at.kind ≤ 3
    → at.fid < 2 ^ 16 → at.len < 2 ^ 16
    → at.fid ≡ big_number 2 (bytes_at (drop at.place bytes) 0 2) → at.kind ≡ slice_index (drop at.place bytes) 2 → at.len ≡ big_number 2 (bytes_at (drop at.place bytes) 3 2)
    → IsEntryAt bytes at
entry_here bytes at are within long fits low fid_low len_low fid kind len =
    let rest : List ℕ = drop at.place bytes in
    let whole : drop at.place bytes ≡ entry_bytes (entry_in (drop at.place bytes)) ++ drop (big_number 2 (bytes_at (drop at.place bytes) 3 2)) (drop 5 (drop at.place bytes)) =
    spelled_entry (drop at.place bytes) (IsBytes-drop at.place bytes are) long (omega (arith, len, fits)) in
    let value_is : bytes_at bytes (at.place + 5) at.len ≡ take (big_number 2 (bytes_at (drop at.place bytes) 3 2)) (drop 5 (drop at.place bytes)) =
    ap (λ (l : List ℕ). take at.len l) (sym (drop-drop 5 at.place bytes)) ∙ ap (λ (n : ℕ). take n (drop 5 (drop at.place bytes))) len in
    let told : told_at bytes at ≡ entry_in (drop at.place bytes) = λ t. record { fid = fid t; kind = kind t; value = value_is t } in
    let behind : drop (big_number 2 (bytes_at (drop at.place bytes) 3 2)) (drop 5 (drop at.place bytes)) ≡ drop (end_of at) bytes =
    ap (λ (n : ℕ). drop n (drop 5 (drop at.place bytes))) (sym len) ∙ ap (λ (l : List ℕ). drop at.len l) (drop-drop 5 at.place bytes) ∙ drop-drop at.len (at.place + 5) bytes in
    let length_is : length (bytes_at bytes (at.place + 5) at.len) ≡ at.len = length-take-le at.len (drop (at.place + 5) bytes) (omega (arith, length-drop (at.place + 5) bytes, length-drop at.place bytes, fits, within)) in
    record {
      is = record { fid = fid_low; kind = low; short = omega (arith, length_is, len_low) };
      spelled = whole ∙ ap (λ (e : FileEntry). entry_bytes e ++ drop (big_number 2 (bytes_at (drop at.place bytes) 3 2)) (drop 5 (drop at.place bytes))) (sym told) ∙ ap (λ (l : List ℕ). entry_bytes (told_at bytes at) ++ l) behind;
      inside = omega (arith, length-drop at.place bytes, fits, within);
    }
