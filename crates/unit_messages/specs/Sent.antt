-- What is sent of a unit's image.
use Rattle.std.specs.Prelude.{◌≡◌, ℕ, List, length, take, drop, Option, Some, None}
use Rattle.link_model.specs.declared.request.Request.{Request}
use Rattle.link_model.specs.declared.lengths.TheConstants.{WHOLE_MOST}
use Rattle.message_model.specs.Sending.{message_of}
use Rattle.unit_messages.specs.Outlines.{bytes_sent}

-- at most 252 bytes of the message that answers a request, from a place on, and the message's length
abbrev pub IsPiece : List ℕ → Request → (from : ℕ) → Option ℕ → (items : List ℕ) → Type 0
IsPiece x request from None items = message_of x request ≡ None
IsPiece x request from (Some len) items = (bytes : List ℕ) × (bytes_sent x request ≡ Some bytes) × (len ≡ length bytes)
    × (items ≡ take WHOLE_MOST (drop from bytes))
