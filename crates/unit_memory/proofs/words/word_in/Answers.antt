use Rattle.std.proofs.Common.{◌∙◌, sym}
use Rattle.tach_media.proofs.card_layout.Spelled.{number_two_bytes}
use Rattle.unit_memory.proofs.words.word_in.Goals as goal

pub returns : goal.returns
returns c = record { word = c.from.ensures ∙ c.from_be_bytes.ensures ∙ sym (number_two_bytes c.args.bytes.now c.args.place) }
