-- What is copied behind what was copied before.
use Rattle.std.proofs.Common.{◌≡◌, ◌≢◌, ℕ, ◌≤◌, ◌+◌, ◌-◌, min, List, [], ◌∷◌, ◌++◌, length, take, map, Option, Some, IfSome, Result, Ok, Err, refl, sym, ◌∙◌, ap, subst, append_assoc, append-nil, arith, length-take, length-drop}
use Rattle.std.specs.Prelude.{IsErrAnd, false, nat_eq}
use Rattle.std.proofs.lemmas.Bool.Decides.{nat_tests}
use Rattle.std.proofs.lemmas.List.{take-append-le, take_min}
use Rattle.std.proofs.Math.Seq.{take-append-add}
use Rattle.std.specs.Io.KnownBytes.{Appends}
use Rattle.std.proofs.KnownBytes.{Appends-nil, Appends-trans}
use Rattle.card_layout.specs.Fields.{joined}
use Rattle.tach_media.specs.Medium.{bytes_at}
use Rattle.tach_media.specs.Streams.{AppendsFront}
use Rattle.tach_media.proofs.Images.{part_split}
use Rattle.tach_media.proofs.Runs.{at_image, if_told}
use Rattle.card_layout.specs.declared.files.Application.{Application}
use Rattle.card_layout.specs.declared.files.CardFile.{CardFile}
use Rattle.card_layout.specs.Files.{files_of, place_of, size_of}
use Rattle.card_image.specs.CardFile.{card_file, entry_bytes}
use Rattle.card_download.specs.declared.fault.CopyFault.{CopyFault}
use Rattle.card_download.specs.Copied.{Copies, head_bytes, file_part}

-- a front of bytes is a front of more
pub front_more : (h k : Option (List ℕ)) (xs ys : List ℕ) → AppendsFront h k xs → AppendsFront h k (xs ++ ys)
front_more h k xs ys f =
    let le : min f.0 (length xs) ≤ length xs = omega arith in
    (min f.0 (length xs), subst (λ (o : List ℕ). Appends h k o) (sym (take-append-le (min f.0 (length xs)) xs ys le ∙ take_min f.0 xs)) f.1)

-- bytes and a front of more
front_behind : (h k l : Option (List ℕ)) (xs ys : List ℕ) → Appends h k xs → AppendsFront k l ys → AppendsFront h l (xs ++ ys)
front_behind h k l xs ys a f =
    (length xs + f.0, subst (λ (o : List ℕ). Appends h l o) (sym (take-append-add xs ys f.0)) (Appends-trans h k l xs (take f.0 ys) a f.1))

copies_behind : {T : Type 0} (r : Result T CopyFault) (xs ys : List ℕ) (h k l : Option (List ℕ)) → Appends h k xs → Copies r ys k l → Copies r (xs ++ ys) h l
copies_behind (Ok done) xs ys h k l a c = Appends-trans h k l xs ys a c
copies_behind (Err fault) xs ys h k l a c = front_behind h k l xs ys a c

-- a fault that is passed on
pub err_copies : {T : Type 0} (r : Result T CopyFault) (e : CopyFault) (bytes : List ℕ) (h k : Option (List ℕ)) → IsErrAnd r (λ v. v ≡ e) → AppendsFront h k bytes → Copies r bytes h k
err_copies (Ok done) e bytes h k is front = absurd is
err_copies (Err fault) e bytes h k is front = front

-- of a range, so many bytes and then some more
module _ (x : List ℕ) (base k n : ℕ) (h m l : Option (List ℕ)) where
  pub range_on : Appends h m (bytes_at x base k) → Appends m l (bytes_at x (base + k) n) → Appends h l (bytes_at x base (k + n))
  range_on first next = subst (λ (b : List ℕ). Appends h l b) (sym (part_split x base k n)) (Appends-trans h m l (bytes_at x base k) (bytes_at x (base + k) n) first next)

  pub range_cut : (len : ℕ) → k + n ≤ len → Appends h m (bytes_at x base k) → AppendsFront m l (bytes_at x (base + k) n) → AppendsFront h l (bytes_at x base len)
  range_cut len le first next =
      let rest = len - (k + n) in
      let whole : len ≡ (k + n) + rest = omega (arith, le) in
      let front : AppendsFront h l (bytes_at x base (k + n)) =
      subst (λ (b : List ℕ). AppendsFront h l b) (sym (part_split x base k n)) (front_behind h m l (bytes_at x base k) (bytes_at x (base + k) n) first next) in
      subst (λ (b : List ℕ). AppendsFront h l b) (sym (part_split x base (k + n) rest) ∙ ap (λ (q : ℕ). bytes_at x base q) (sym whole))
      (front_more h l (bytes_at x base (k + n)) (bytes_at x (base + (k + n)) rest) front)

-- THE PARTS OF FILES
no_download : (n : ℕ) → n ≢ 0x050E → nat_eq n 0x050E ≡ false
no_download n other = grind (arith, nat_tests)

part_whole : (x : List ℕ) (p n : ℕ) → p + n ≤ length x → length (bytes_at x p n) ≡ n
part_whole x p n fits = grind (arith, length-take, length-drop)

-- the head of a file's entry, and its bytes
part_is : (app : Application) (x : List ℕ) (f : CardFile) (p n : ℕ) → f.fid.0 ≢ 0x050E → p ≡ place_of app f.fid → n ≡ size_of app f.fid → p + n ≤ length x
    → head_bytes f.fid.0 n ++ bytes_at x p n ≡ file_part app x f
part_is app x f p n other place size fits =
    let v : List ℕ = bytes_at x p n in
    let len : length v ≡ n = part_whole x p n fits in
    let here : head_bytes f.fid.0 n ++ v ≡ entry_bytes (record { fid = f.fid.0; kind = 0; value = v }) =
    ap (λ (l : List ℕ). head_bytes f.fid.0 n ++ l) (sym (append-nil v)) ∙ ap (λ (m : ℕ). head_bytes f.fid.0 m ++ (v ++ [])) (sym len) in
    let there : v ≡ bytes_at x (place_of app f.fid) (size_of app f.fid) = ap (λ (q : ℕ). bytes_at x q n) place ∙ ap (λ (q : ℕ). bytes_at x (place_of app f.fid) q) size in
    let tested : nat_eq f.fid.0 0x050E ≡ false = no_download f.fid.0 other in
    rw tested (here ∙ ap (λ (b : List ℕ). entry_bytes (record { fid = f.fid.0; kind = 0; value = b })) there)

module _ (app : Application) (x : List ℕ) (f : CardFile) (p n : ℕ) (other : f.fid.0 ≢ 0x050E) (place : p ≡ place_of app f.fid) (size : n ≡ size_of app f.fid) (fits : p + n ≤ length x) where
  pub head_cut : (h k : Option (List ℕ)) → AppendsFront h k (head_bytes f.fid.0 n) → AppendsFront h k (file_part app x f)
  head_cut h k front = subst (λ (b : List ℕ). AppendsFront h k b) (part_is app x f p n other place size fits) (front_more h k (head_bytes f.fid.0 n) (bytes_at x p n) front)

  pub head_then : {T : Type 0} (r : Result T CopyFault) (h k l : Option (List ℕ)) → Appends h k (head_bytes f.fid.0 n) → Copies r (bytes_at x p n) k l → Copies r (file_part app x f) h l
  head_then r h k l head value = subst (λ (b : List ℕ). Copies r b h l) (part_is app x f p n other place size fits) (copies_behind r (head_bytes f.fid.0 n) (bytes_at x p n) h k l head value)

-- ALL FILES
parts_are : (app : Application) (x : List ℕ) → joined (map (file_part app x) (files_of app)) ≡ card_file app x
unfolding files_of card_file
parts_are app x = refl

-- Of files one after the other some bytes were copied, and the parts of these are left.
abbrev pub IsOnTheWay : Application → (rest : List CardFile) → (h k : Option (List ℕ)) → List ℕ → Type 0
IsOnTheWay app rest h k x = (sent : List ℕ) × Appends h k sent × (sent ++ joined (map (file_part app x) rest) ≡ card_file app x)

pub begins : (app : Application) (o h : Option (List ℕ)) (fs : List CardFile) → fs ≡ files_of app → IfSome o (IsOnTheWay app fs h h)
begins app o h fs is = if_told o (IsOnTheWay app fs h h) (λ x told. ([], Appends-nil h, ap (λ (gs : List CardFile). joined (map (file_part app x) gs)) is ∙ parts_are app x))

module _ (app : Application) (o p : Option (List ℕ)) (same : p ≡ o) (file : CardFile) (rest more : List CardFile) (is : rest ≡ file ∷ more) (h k l : Option (List ℕ)) (sent : IfSome o (IsOnTheWay app rest h k)) where
  moved : (x : List ℕ) (s : List ℕ) → s ++ joined (map (file_part app x) rest) ≡ card_file app x → (s ++ file_part app x file) ++ joined (map (file_part app x) more) ≡ card_file app x
  moved x s left = append_assoc s (file_part app x file) (joined (map (file_part app x) more)) ∙ ap (λ (fs : List CardFile). s ++ joined (map (file_part app x) fs)) (sym is) ∙ left

  -- one file more
  pub goes_on : IfSome p (λ x. Appends k l (file_part app x file)) → IfSome o (IsOnTheWay app more h l)
  goes_on next = if_told o (IsOnTheWay app more h l) (λ x told.
      let s = at_image (IsOnTheWay app rest h k) told sent in
      let added = at_image (λ y. Appends k l (file_part app y file)) (same ∙ told) next in
      (s.0 ++ file_part app x file, Appends-trans h k l s.0 (file_part app x file) s.1 added, moved x s.0 s.2))

  -- one file was cut short
  pub ends_in : IfSome p (λ x. AppendsFront k l (file_part app x file)) → (x : List ℕ) → o ≡ Some x → AppendsFront h l (card_file app x)
  ends_in next x told =
      let s = at_image (IsOnTheWay app rest h k) told sent in
      let cut = at_image (λ y. AppendsFront k l (file_part app y file)) (same ∙ told) next in
      subst (λ (b : List ℕ). AppendsFront h l b) (moved x s.0 s.2)
      (front_more h l (s.0 ++ file_part app x file) (joined (map (file_part app x) more)) (front_behind h k l s.0 (file_part app x file) s.1 cut))
