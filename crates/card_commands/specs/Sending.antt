-- What a command brings that was sent to a card.
use Rattle.std.specs.Prelude.{◌≡◌, ℕ, ◌/◌, ◌%◌, Option, Ok, List, [], ◌∷◌, ◌++◌}
use Rattle.card_layout.specs.declared.command.Command.{Command}
use Rattle.card_layout.specs.declared.command.CardState.{CardState}
use Rattle.card_commands.specs.Performing.{IsPerformed}

-- its data and its status word
pub record IsSent (command : Command) (image : Option (List ℕ)) (before after : CardState) (answer : List ℕ) : Type
    0 where
  pub given : List ℕ
  pub status : ℕ
  pub performed : IsPerformed (Ok command) image before after given status
  pub whole : answer ≡ given ++ (status / 256 ∷ status % 256 ∷ [])
