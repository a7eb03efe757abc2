use Rattle.std.proofs.Common.{ℕ, List, ◌∷◌, ap}
use Rattle.link_model.proofs.Cutting.{cuts_join}
use Rattle.message_model.specs.Messages.{number_of, content_of}
use Rattle.message_model.proofs.laws.pieces_are_the_message.Goals as goal

pub returns : goal.returns
returns c = λ m last none. ap (λ (l : List ℕ). 0x76 ∷ number_of m ∷ l) (cuts_join (content_of m) last none)
