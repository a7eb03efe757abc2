-- Through what a memory is reached.
use Rattle.std.specs.Prelude.{ℕ, List}
use Rattle.std.specs.Borrow.{GName}
use Rattle.card_layout.specs.declared.files.Application.{Application}

-- Through what a memory is reached: a reference, or a card's commands by these sizes, where the card has this size, and
-- these of its ranges may be written.
pub data Layer : Type 0 where
  Reference : GName → Layer
  Commands : Application → (size : ℕ) → (writable : List (ℕ × ℕ)) → Layer
