use Rattle.std.proofs.Common.{◌∙◌, ◌++◌, ℕ, List, length, ap}
use Rattle.std.specs.Prelude.{codes}
use Rattle.std.specs.Fmt.{decimal}
use Rattle.byteorder.specs.Endian.{big_bytes}
use Rattle.hex.specs.Hex.{encode_lower}
use Rattle.json.specs.Json.{number, string}
use Rattle.json.specs.Tree.{json_tokens}
use Rattle.file_json.specs.Cards.{content_then, file_name, kind_name, shape_of}
use Rattle.file_json.proofs.Left.{five_then}
use Rattle.file_json.proofs.card.write_file.Goals as goal

pub returns : goal.returns
returns c =
    five_then c.args.writer.now c.begin_object.new.self c.key.new.self c.u64.new.self c.key-2.new.self c.write_digits.new.writer c.key-3.new.self c.string.new.self c.key-4.new.self c.string-2.new.self c.key-5.new.self c.u64-2.new.self
    c.write_content.new.writer c.end_object.new.self
    (codes "place") (codes "fileId") (codes "name") (codes "kind") (codes "length")
    (number (decimal c.args.head.place)) (string (encode_lower (big_bytes 2 c.args.head.fid))) (string (file_name c.args.head.fid)) (string (kind_name c.args.head.kind)) (number (decimal (length c.args.value.now)))
    (content_then c.args.last (shape_of c.args.head.fid c.args.head.kind) c.args.value.now)
    c.in_ok-begin_object.ensures c.in_ok-key.ensures c.in_ok-u64.ensures c.in_ok-key-2.ensures
    (c.in_ok-write_digits.ensures ∙ ap (λ (l : List ℕ). c.key-2.new.self ++ json_tokens (string (encode_lower l))) c.to_be_bytes.ensures)
    c.in_ok-key-3.ensures (rw c.file_name.ensures at c.in_ok-string.ensures) c.in_ok-key-4.ensures (rw c.kind_name.ensures at c.in_ok-string-2.ensures) c.in_ok-key-5.ensures c.in_ok-u64-2.ensures
    (rw c.shape_of.ensures at c.in_ok-write_content.ensures) c.in_ok-end_object.ensures
