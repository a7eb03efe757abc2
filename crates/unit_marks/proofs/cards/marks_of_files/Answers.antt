use Rattle.std.proofs.Common.{◌≢◌, List, ◌++◌, length, ap, rules}
use Rattle.card_image.specs.CardFile.{FileEntry}
use Rattle.view_model.specs.declared.marks.Mark.{Mark}
use Rattle.file_view.specs.Files.{AreFiles}
use Rattle.unit_marks.specs.Cards.{files_marks}
use Rattle.file_view.proofs.Filing.{head_there}
use Rattle.unit_marks.proofs.TellingCards.{AreFilesLeft, one_file_told, all_files_told}
use Rattle.unit_marks.proofs.cards.marks_of_files.Goals as goal

pub loop-rest-init : goal.loop-rest-init
loop-rest-init c = (
  λ some. head_there c.requires.0 c.args.b.now c.requires.1 some,
  λ entries are. (entries, record { files = are; marks = ap (λ (l : List Mark). l ++ files_marks entries) c.new-marks.ensures.items }),
)

pub loop-rest-preserved : goal.loop-rest-preserved
loop-rest-preserved c =
    let some : length c.loop-rest.rest.now ≢ 0 = search rules in
    let more : (entries : List FileEntry) → AreFiles entries c.args.b.now
    → (es : List FileEntry) × AreFilesLeft es c.file_behind-behind.result.now c.add_file.new.marks.items (files_marks entries) =
    λ entries are.
    let left = c.loop-rest.invariant.1 entries are in
    one_file_told left.0 c.loop-rest.rest.now c.file_value-value.result.now c.file_behind-behind.result.now c.file_len-len.result c.kind_at_front-told.result c.loop-rest.marks.items c.add_file.new.marks.items
    (files_marks entries) left.1 some c.kind_at_front-told.ensures c.file_len-len.ensures c.file_value-value.ensures c.file_behind-behind.ensures c.in_ok-add_file.ensures in (
      λ others. let next = more c.requires.0 c.requires.1 in head_there next.0 c.file_behind-behind.result.now next.1.files others,
      more,
    )

pub returns : goal.returns
returns c = λ entries are.
    let left = c.loop-rest.invariant.1 entries are in
    all_files_told left.0 c.loop-rest.rest.now c.loop-rest.marks.items (files_marks entries) (search rules) left.1
