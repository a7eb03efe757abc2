use Rattle.std.proofs.Common.{◌≡◌, ◌≢◌, ◌∙◌, ◌+◌, ◌-◌, ℕ, List, length, ap, arith, rules, length-drop, zero-add}
use Rattle.std.specs.Prelude.{true}
use Rattle.card_image.specs.CardFile.{FileEntry}
use Rattle.file_view.specs.Files.{AreFiles}
use Rattle.file_view.proofs.Filing.{head_there}
use Rattle.file_json.proofs.Making.{card_begun, card_whole}
use Rattle.file_json.proofs.Filing.{AreToCome, one_file_made, all_files_made}
use Rattle.file_json.proofs.pieces.pieces_of_files.Goals as goal

pub loop-rest-init : goal.loop-rest-init
loop-rest-init c = (
  zero-add (length c.args.b.now),
  λ some. head_there c.requires.0 c.args.b.now c.requires.1 some,
  λ entries are. (entries, record { files = are; made = card_begun c.args.b.now c.args.last entries c.in_ok-pieces.pieces.items c.in_ok-pieces.ensures }),
)

pub split_at-requires : goal.split_at-requires
split_at-requires c =
    let some : length c.loop-rest.rest.now ≢ 0 = search rules in
    omega (arith, (c.loop-rest.invariant.1 some).1, c.file_len-len.ensures)

pub loop-rest-preserved : goal.loop-rest-preserved
loop-rest-preserved c =
    let some : length c.loop-rest.rest.now ≢ 0 = search rules in
    let there = c.loop-rest.invariant.1 some in
    let len : ℕ = 5 + c.file_len-len.result in
    let more : (entries : List FileEntry) → AreFiles entries c.args.b.now
    → (es : List FileEntry) × AreToCome c.args.last es c.args.b.now true (c.loop-rest.place + (5 + c.file_len-len.result)) c.split_at.result.1.now c.add_item.new.pieces.items (card_whole c.args.last entries) =
    λ entries are.
    let come = c.loop-rest.invariant.2 entries are in
    one_file_made c.args.last come.0 c.args.b.now c.loop-rest.after c.loop-rest.place len c.loop-rest.rest.now c.split_at.result.1.now c.loop-rest.pieces.items c.add_item.new.pieces.items (card_whole c.args.last entries)
    come.1 some (ap (λ (n : ℕ). 5 + n) c.file_len-len.ensures) c.split_at.ensures.back c.in_ok-add_item.ensures in
    let long : length c.split_at.result.1.now ≡ length c.loop-rest.rest.now - (5 + c.file_len-len.result) = ap (λ (l : List ℕ). length l) c.split_at.ensures.back ∙ length-drop len c.loop-rest.rest.now in (
      omega (arith, c.loop-rest.invariant.0, there.1, c.file_len-len.ensures, long),
      λ others. let next = more c.requires.0 c.requires.1 in head_there next.0 c.split_at.result.1.now next.1.files others,
      more,
    )

pub returns-clause-text : goal.returns-clause-text
returns-clause-text c = λ entries are.
    let come = c.loop-rest.invariant.2 entries are in
    (all_files_made c.args.last come.0 c.args.b.now c.loop-rest.after c.loop-rest.place c.loop-rest.rest.now c.loop-rest.pieces.items c.push.new.self.items (card_whole c.args.last entries) (search rules) come.1 c.in_ok-push.ensures.items).0

pub returns-clause-each : goal.returns-clause-each
returns-clause-each c =
    let come = c.loop-rest.invariant.2 c.requires.0 c.requires.1 in
    (all_files_made c.args.last come.0 c.args.b.now c.loop-rest.after c.loop-rest.place c.loop-rest.rest.now c.loop-rest.pieces.items c.push.new.self.items (card_whole c.args.last c.requires.0) (search rules) come.1 c.in_ok-push.ensures.items).1
