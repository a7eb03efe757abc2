-- The letters of the two driver cards in text (profile): in a trace's lines and in the words of the command line.
use Rattle.std.specs.Prelude.{ℕ, if◌then◌else◌, Option, Some, None, List, codes, bytes_eq}
use Rattle.trace_model.specs.declared.Card.{Card}
use Rattle.trace_model.specs.declared.Card.TheVariants.{A, B}

-- what a card is called: `a` or `b`
abbrev pub card_name : Card → List ℕ
card_name A = codes "a"
card_name B = codes "b"

-- the card that a word names
abbrev pub card_named : List ℕ → Option Card
card_named word = if bytes_eq word (card_name A) then Some A else if bytes_eq word (card_name B) then Some B else None
