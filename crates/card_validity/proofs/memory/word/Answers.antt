use Rattle.std.proofs.Common.{◌≡◌, ◌<◌, ℕ, List, length, subst}
use Rattle.std.specs.Prelude.{slice_index}
use Rattle.card_image.specs.card_model.Days.{Day}
use Rattle.card_image.specs.card_model.Image.{IsAt}
use Rattle.card_validity.proofs.Slices.{never_fails, ok_told}
use Rattle.card_validity.proofs.memory.word.Goals as goal

pub unwrap-requires : goal.unwrap-requires
unwrap-requires c = never_fails _ _ c.word.result c.word.ensures.reads

pub returns : goal.returns
returns c =
    let r = c.args.days.now.shape in
    let p = c.args.head.now.place in
    let i = c.args.index in
    let told = ok_told c.word.result c.unwrap.result (λ (w : ℕ). (d : Day) → IsAt r c.new-slice.result p d → i < length d.words → w ≡ slice_index d.words i) c.unwrap.ensures c.word.ensures.word in
    subst (λ (y : List ℕ). (d : Day) → IsAt r y p d → i < length d.words → c.unwrap.result ≡ slice_index d.words i) c.new-slice.ensures told
