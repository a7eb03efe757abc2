-- The files of a card that are left: what stands at the front of their bytes.
use Rattle.std.proofs.Common.{◌≡◌, ◌≢◌, ◌∙◌, ℕ, zero, suc, ◌+◌, ◌*◌, ◌≤◌, List, [], ◌∷◌, ◌++◌, length, take, drop, map, refl, ap, sym, subst, arith, append-nil, length-append}
use Rattle.std.specs.Prelude.{slice_index}
use Rattle.std.proofs.Math.Nat.{suc-mul}
use Rattle.std.proofs.lemmas.List.{take_at, drop_at}
use Rattle.std.proofs.lemmas.List.Elements.{All-head}
use Rattle.byteorder.specs.Endian.{big_number}
use Rattle.card_layout.specs.Fields.{joined}
use Rattle.card_layout.proofs.Numbers.{big_number-big_bytes}
use Rattle.card_image.specs.CardFile.{FileEntry, IsFileEntry, entry_bytes}
use Rattle.file_view.specs.Files.{AreFiles}

-- what stands at the front of a file's bytes
pub record IsHead (e : FileEntry) (more rest : List ℕ) : Type 0 where
  pub fid : big_number 2 rest ≡ e.fid
  pub kind : slice_index rest 2 ≡ e.kind
  pub len : big_number 2 (drop 3 rest) ≡ length e.value
  pub value : take (length e.value) (drop 5 rest) ≡ e.value
  pub behind : drop (length e.value) (drop 5 rest) ≡ more
  pub there : 5 + length e.value + length more ≡ length rest

is_head : (e : FileEntry) (more : List ℕ) → IsFileEntry e → IsHead e more (entry_bytes e ++ more)
is_head e more is =
    let value : (e.value ++ []) ++ more ≡ e.value ++ more = ap (λ (l : List ℕ). l ++ more) (append-nil e.value) in
    record {
      fid = big_number-big_bytes 2 e.fid is.fid;
      kind = omega (arith, is.kind);
      len = big_number-big_bytes 2 (length e.value) is.short;
      value = ap (λ (l : List ℕ). take (length e.value) l) value ∙ take_at e.value more (length e.value) refl;
      behind = ap (λ (l : List ℕ). drop (length e.value) l) value ∙ drop_at e.value more (length e.value) refl;
      there = omega (arith, ap length value ∙ length-append e.value more);
    }

pub head_of : (e : FileEntry) (es : List FileEntry) (rest : List ℕ) → AreFiles (e ∷ es) rest → IsHead e (joined (map entry_bytes es)) rest
head_of e es rest are = subst (λ (l : List ℕ). IsHead e (joined (map entry_bytes es)) l) (sym are.spelled) (is_head e (joined (map entry_bytes es)) (All-head IsFileEntry e es are.each))

-- where bytes are left, a head stands there, and as many bytes as it says
pub head_there : (left : List FileEntry) (rest : List ℕ) → AreFiles left rest → length rest ≢ 0 → (5 ≤ length rest) × (5 + big_number 2 (drop 3 rest) ≤ length rest)
head_there [] rest are some = absurd (some (ap length are.spelled))
head_there (e ∷ es) rest are some =
    let head = head_of e es rest are in
    (omega (arith, head.there), omega (arith, head.there, head.len))

-- the bytes of one list or one record more are there
pub list_there : (n len : ℕ) (rest : List ℕ) → n ≢ 0 → n * len ≤ length rest → len ≤ length rest
list_there zero len rest some sized = absurd (some refl)
list_there (suc n) len rest some sized = omega (arith, sized, suc-mul n len)
