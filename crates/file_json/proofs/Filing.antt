-- The files of a card whose pieces are still to be made.
use Rattle.std.proofs.Common.{◌≡◌, ◌≢◌, ◌∙◌, ℕ, ◌+◌, ◌≤◌, List, [], ◌∷◌, ◌++◌, length, take, drop, map, All, ap, sym, subst, arith, append-nil, length-drop}
use Rattle.std.specs.Prelude.{Option, Bool, true, slice_index}
use Rattle.std.proofs.lemmas.List.{take_at, drop_at}
use Rattle.std.proofs.lemmas.List.Elements.{All-head, All-tail}
use Rattle.byteorder.specs.Endian.{big_number}
use Rattle.card_layout.specs.Fields.{joined}
use Rattle.card_layout.specs.Images.{bytes_at}
use Rattle.card_layout.proofs.Numbers.{big_number-big_bytes}
use Rattle.card_image.specs.CardFile.{FileEntry, IsFileEntry, entry_bytes}
use Rattle.json.specs.Print.{print}
use Rattle.json.specs.Tree.{json_tokens}
use Rattle.file_view.specs.Files.{AreFiles}
use Rattle.file_view.proofs.Filing.{head_of}
use Rattle.file_json.specs.declared.pieces.Piece.{Piece}
use Rattle.file_json.specs.declared.pieces.Piece.TheVariants.{File, End}
use Rattle.file_json.specs.Pieces.{IsPiece, entry_in, item_pieces, pieces_text}
use Rattle.file_json.specs.Cards.{entry_shown, entries_shown}
use Rattle.file_json.proofs.Making.{AreMade, one_item_made, all_made}

-- a file is read back of what spells it
entry_is : (e : FileEntry) → IsFileEntry e → entry_in (entry_bytes e) ≡ e
entry_is e is =
    let kind : slice_index (entry_bytes e) 2 ≡ e.kind = omega (arith, is.kind) in
    let fid : big_number 2 (entry_bytes e) ≡ e.fid = big_number-big_bytes 2 e.fid is.fid in
    let value : drop 5 (entry_bytes e) ≡ e.value = append-nil e.value in
    λ t. record { fid = fid t; kind = kind t; value = value t }

-- these files make the rest, and their pieces are still to be made
pub record AreToCome (last : Option ℕ) (left : List FileEntry) (b : List ℕ) (after : Bool) (place : ℕ) (rest : List ℕ) (pieces : List Piece) (whole : List ℕ) : Type 0 where
  pub files : AreFiles left rest
  pub made : AreMade b (entries_shown last place left) after place rest pieces whole

-- one file more
pub one_file_made : (last : Option ℕ) (left : List FileEntry) (b : List ℕ) (after : Bool) (place len : ℕ) (rest behind : List ℕ) (pieces made : List Piece) (whole : List ℕ)
    → AreToCome last left b after place rest pieces whole → length rest ≢ 0 → len ≡ 5 + big_number 2 (drop 3 rest) → behind ≡ drop len rest → made ≡ pieces ++ item_pieces after (File place len last)
    → (es : List FileEntry) × AreToCome last es b true (place + len) behind made whole
one_file_made last [] b after place len rest behind pieces made whole come some long behind_is made_is = absurd (some (ap length come.files.spelled))
one_file_made last (e ∷ es) b after place len rest behind pieces made whole come some long behind_is made_is =
    let head = head_of e es rest come.files in
    let own_long : length (entry_bytes e) ≡ len = omega (arith, ap (λ (l : List ℕ). length l) (append-nil e.value), long, head.len) in
    let spelled : rest ≡ entry_bytes e ++ joined (map entry_bytes es) = come.files.spelled in
    let there : len ≤ length rest = omega (arith, head.there, long, head.len) in
    let own : bytes_at b place len ≡ entry_bytes e =
    ap (λ (l : List ℕ). take len l) (sym come.made.rest_is ∙ spelled) ∙ take_at (entry_bytes e) (joined (map entry_bytes es)) len own_long in
    let others : behind ≡ joined (map entry_bytes es) = behind_is ∙ ap (λ (l : List ℕ). drop len l) spelled ∙ drop_at (entry_bytes e) (joined (map entry_bytes es)) len own_long in
    let inside : place + len ≤ length b = omega (arith, come.made.within, there, ap (λ (l : List ℕ). length l) come.made.rest_is, length-drop place b) in
    let told : entry_in (bytes_at b place len) ≡ e = ap (λ (l : List ℕ). entry_in l) own ∙ entry_is e (All-head IsFileEntry e es come.files.each) in
    let next : AreMade b (entries_shown last (place + length (entry_bytes e)) es) true (place + len) behind made whole =
    one_item_made _ (entries_shown last (place + length (entry_bytes e)) es) b after place len rest behind pieces made (File place len last) whole come.made there behind_is
    (inside, omega (arith, long)) (ap (λ (x : FileEntry). print (json_tokens (entry_shown last place x))) told) made_is in (
      es,
      record {
        files = record { each = All-tail IsFileEntry e es come.files.each; spelled = others };
        made = subst (λ (n : ℕ). AreMade b (entries_shown last (place + n) es) true (place + len) behind made whole) own_long next;
      },
    )

-- all are made
pub all_files_made : (last : Option ℕ) (left : List FileEntry) (b : List ℕ) (after : Bool) (place : ℕ) (rest : List ℕ) (pieces made : List Piece) (whole : List ℕ) → length rest ≡ 0 → AreToCome last left b after place rest pieces whole
    → made ≡ pieces ++ End ∷ [] → (pieces_text b made ≡ whole) × All (IsPiece b) made
all_files_made last [] b after place rest pieces made whole none come made_is = all_made b after place rest pieces made whole come.made made_is
all_files_made last (e ∷ es) b after place rest pieces made whole none come made_is = absurd (omega (arith, (head_of e es rest come.files).there, none))
