-- What is sent of a message, of which a part was read.
use Rattle.std.specs.Prelude.{◌≡◌, ℕ, ◌+◌, ◌-◌, ◌/◌, ◌%◌, Option, Some, None, option_map, List, [], ◌∷◌, length, take}
use Rattle.std.specs.Prelude.{drop}
use Rattle.link_model.specs.declared.request.Request.{Request}
use Rattle.link_model.specs.declared.lengths.TheConstants.{WHOLE_MOST}
use Rattle.link_model.specs.declared.services.TheConstants.{MESSAGE}
use Rattle.link_model.specs.Answers.{Sending, Reply, answers, number_of}
use Rattle.link_frames.specs.declared.sending.Reply.{Reply as CodeReply}
use Rattle.link_frames.specs.Steps.{state_of}

-- an answer of the code, as the table says it
abbrev pub reply_of : CodeReply → Reply
reply_of r = record { answer = r.answer; state = state_of r.standing }

-- the bytes of a message behind 76 and its number, as many as go in one frame, from a place on, which counts these two
abbrev pub part_of : Option (List ℕ) → (from : ℕ) → List ℕ
part_of None from = []
part_of (Some content) from = take WHOLE_MOST (drop (from - 2) content)

-- What is read of a message: its length, with 76 and its number, where there is such a message; and a part of it.
pub record IsPart (content : Option (List ℕ)) (from : ℕ) (told : Option ℕ) (bytes : List ℕ) : Type 0 where
  pub len : told ≡ option_map (λ c. 2 + length c) content
  pub bytes_are : bytes ≡ part_of content from

-- an answer with a piece of a message, with these bytes of it
abbrev pub sends_piece : Request → (counter : ℕ) → List ℕ → Reply
sends_piece request counter bytes = answers (MESSAGE ∷ number_of request ∷ counter / 256 ∷ counter % 256 ∷ bytes)
    (Sending request counter)
