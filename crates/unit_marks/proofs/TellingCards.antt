-- The marks of files and of records that are still to be told.
use Rattle.std.proofs.Common.{◌≡◌, ◌≢◌, ◌∙◌, ℕ, zero, suc, ◌-◌, ◌*◌, ◌/◌, ◌≤◌, List, [], ◌∷◌, ◌++◌, length, take, drop, map, refl, ap, sym, arith, append_assoc, append-nil, length-drop}
use Rattle.std.specs.Prelude.{Option, slice_index}
use Rattle.std.proofs.Math.Nat.{div-mul-le_self, suc-mul}
use Rattle.std.proofs.lemmas.List.Elements.{All-tail}
use Rattle.byteorder.specs.Endian.{big_number}
use Rattle.card_layout.specs.Fields.{joined}
use Rattle.card_image.specs.CardFile.{FileEntry, IsFileEntry, entry_bytes}
use Rattle.view_model.specs.declared.marks.Mark.{Mark}
use Rattle.unit_marks.specs.declared.entries.Kind.{Kind}
use Rattle.file_view.specs.Files.{AreFiles}
use Rattle.unit_marks.specs.Cards.{card_width, card_mark, if_written, records_marks, list_marks, kind_told, value_marks, file_marks, files_marks}
use Rattle.file_view.proofs.Filing.{head_of}

-- these files make the rest, and their marks with those that were told are the whole
pub record AreFilesLeft (left : List FileEntry) (rest : List ℕ) (told whole : List Mark) : Type 0 where
  pub files : AreFiles left rest
  pub marks : told ++ files_marks left ≡ whole

-- one file more is told
pub one_file_told : (left : List FileEntry) (rest value behind : List ℕ) (len : ℕ) (kind : Option Kind) (told after whole : List Mark)
    → AreFilesLeft left rest told whole → length rest ≢ 0
    → kind ≡ kind_told (big_number 2 rest) (slice_index rest 2) → len ≡ big_number 2 (drop 3 rest) → value ≡ take len (drop 5 rest) → behind ≡ drop len (drop 5 rest)
    → after ≡ told ++ value_marks kind value
    → (es : List FileEntry) × AreFilesLeft es behind after whole
one_file_told [] rest value behind len kind told after whole left some k l v b is = absurd (some (ap length left.files.spelled))
one_file_told (e ∷ es) rest value behind len kind told after whole left some k l v b is =
    let head = head_of e es rest left.files in
    let long : len ≡ length e.value = l ∙ head.len in
    let value_is : value ≡ e.value = v ∙ ap (λ (n : ℕ). take n (drop 5 rest)) long ∙ head.value in
    let behind_is : behind ≡ joined (map entry_bytes es) = b ∙ ap (λ (n : ℕ). drop n (drop 5 rest)) long ∙ head.behind in
    let kind_is : kind ≡ kind_told e.fid e.kind = k ∙ ap (λ (n : ℕ). kind_told n (slice_index rest 2)) head.fid ∙ ap (λ (n : ℕ). kind_told e.fid n) head.kind in
    let own : value_marks kind value ≡ file_marks e = ap (λ (o : Option Kind). value_marks o value) kind_is ∙ ap (λ (v : List ℕ). value_marks (kind_told e.fid e.kind) v) value_is in (
      es,
      record {
        files = record { each = All-tail IsFileEntry e es left.files.each; spelled = behind_is };
        marks = ap (λ (ms : List Mark). ms ++ files_marks es) (is ∙ ap (λ (ms : List Mark). told ++ ms) own) ∙ append_assoc told (file_marks e) (files_marks es) ∙ left.marks;
      },
    )

-- all are told
pub all_files_told : (left : List FileEntry) (rest : List ℕ) (told whole : List Mark) → length rest ≡ 0 → AreFilesLeft left rest told whole → told ≡ whole
all_files_told [] rest told whole none left = sym (append-nil told) ∙ left.marks
all_files_told (e ∷ es) rest told whole none left = absurd (omega (arith, (head_of e es rest left.files).there, none))

-- so many records are left, and their marks with those that were told are the whole
pub record AreRecords (n width : ℕ) (kind : Kind) (rest : List ℕ) (told whole : List Mark) : Type 0 where
  pub sized : n * width ≤ length rest
  pub marks : told ++ records_marks n width kind rest ≡ whole

-- none is told
pub no_record_told : (width : ℕ) (kind : Kind) (bytes : List ℕ) (told : List Mark) → width ≡ card_width kind → AreRecords (length bytes / width) width kind bytes told (told ++ list_marks kind bytes)
no_record_told width kind bytes told is = record {
  sized = div-mul-le_self (length bytes) width;
  marks = ap (λ (w : ℕ). told ++ records_marks (length bytes / w) w kind bytes) is;
}

one_record : (n width : ℕ) (kind : Kind) (rest : List ℕ) (told after whole : List Mark) → AreRecords (suc n) width kind rest told whole → after ≡ told ++ if_written (card_mark kind (take width rest))
    → AreRecords n width kind (drop width rest) after whole
unfolding records_marks
one_record n width kind rest told after whole left is =
    let own : List Mark = if_written (card_mark kind (take width rest)) in
    let others : List Mark = records_marks n width kind (drop width rest) in
    record {
      sized = omega (arith, length-drop width rest, left.sized, suc-mul n width);
      marks = ap (λ (ms : List Mark). ms ++ records_marks n width kind (drop width rest)) is ∙ append_assoc told own others ∙ left.marks;
    }

-- one record more is told
pub one_record_told : (n width : ℕ) (kind : Kind) (rest front behind : List ℕ) (told after whole : List Mark) → n ≢ 0 → front ≡ take width rest → behind ≡ drop width rest
    → AreRecords n width kind rest told whole → after ≡ told ++ if_written (card_mark kind front) → AreRecords (n - 1) width kind behind after whole
one_record_told zero width kind rest front behind told after whole some f b left is = absurd (some refl)
one_record_told (suc n) width kind rest front behind told after whole some f b left is =
    let e : suc n - 1 ≡ n = omega arith in
    rw (e, b) (one_record n width kind rest told after whole left (rw f at is))

-- all are told
pub all_records_told : (n width : ℕ) (kind : Kind) (rest : List ℕ) (told whole : List Mark) → n ≡ 0 → AreRecords n width kind rest told whole → told ≡ whole
unfolding records_marks
all_records_told zero width kind rest told whole none left = sym (append-nil told) ∙ left.marks
all_records_told (suc n) width kind rest told whole none left = absurd (omega (arith, none))
