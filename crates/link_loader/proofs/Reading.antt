-- Whether bytes are a message that answers a request.
use Rattle.std.proofs.Common.{◌≡◌, ◌∙◌, ℕ, List, [], length, ap, sym, append-nil}
use Rattle.link_model.specs.declared.request.Request.{Request}
use Rattle.message_model.specs.Messages.{Message, message_bytes}
use Rattle.message_model.proofs.Reading.{one_way}
use Rattle.unit_messages.specs.declared.reading.MessageRead.{MessageRead}
use Rattle.unit_messages.specs.Reading.{IsReadAs, BeginsNoMessage, request_of}
use Rattle.link_loader.specs.Loading.{IsAnswer, AnswersNone}

-- the message at the front is the one that answers
pub answer_is_read : (bytes : List ℕ) (read : MessageRead) (request : Request) → IsReadAs bytes read → (m : Message) → IsAnswer request bytes m → (read.request ≡ request) × (read.len ≡ length bytes)
answer_is_read bytes read request is m answer =
    let same = one_way is.message m is.begins.rest [] is.begins.is_message answer.is_message (sym is.begins.spelled ∙ answer.spelled ∙ sym (append-nil (message_bytes m))) in
    (is.request ∙ ap request_of same.0 ∙ sym answer.asked, is.len ∙ ap (λ (n : Message). length (message_bytes n)) same.0 ∙ ap (λ (l : List ℕ). length l) (sym answer.spelled))

pub none_read : (bytes : List ℕ) (request : Request) → BeginsNoMessage bytes → AnswersNone request bytes
none_read bytes request lacks = λ m answer. lacks m (record { is_message = answer.is_message; rest = []; spelled = answer.spelled ∙ sym (append-nil (message_bytes m)) })

-- more bytes follow the message
pub longer_read : (bytes : List ℕ) (read : MessageRead) (request : Request) → IsReadAs bytes read → (read.len ≡ length bytes → ⊥) → AnswersNone request bytes
longer_read bytes read request is longer = λ m answer. longer (answer_is_read bytes read request is m answer).1
