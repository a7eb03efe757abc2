-- A unit file, read message by message.
use Rattle.std.proofs.Common.{◌≡◌, ◌∙◌, ℕ, suc, ◌+◌, ◌-◌, ◌≤◌, ◌<◌, List, [], ◌∷◌, ◌++◌, length, map, take, drop, refl, ap, sym, arith, All}
use Rattle.std.proofs.Math.Seq.{take-length}
use Rattle.std.proofs.lemmas.List.{length-drop, drop-drop}
use Rattle.card_layout.specs.Fields.{joined}
use Rattle.link_model.specs.declared.request.Request.{Request}
use Rattle.link_model.specs.declared.request.Request.TheVariants.{Overview as AskOverview, Day as AskDay, Events as AskEvents, Speed as AskSpeed, Technical as AskTechnical}
use Rattle.message_model.specs.Messages.{Message, message_bytes, IsMessage, IsUnitFile}
use Rattle.message_model.proofs.Reading.{one_way}
use Rattle.unit_messages.specs.declared.reading.MessageRead.{MessageRead}
use Rattle.unit_messages.specs.Reading.{IsReadAs, BeginsNoMessage, request_of}
use Rattle.unit_download.specs.Measures.{days_in, day_count}

-- all of what stands behind a place
pub rest-is : (bytes : List ℕ) (place : ℕ) → take (length bytes - place) (drop place bytes) ≡ drop place bytes
rest-is bytes place = ap (λ (n : ℕ). take n (drop place bytes)) (sym (length-drop place bytes)) ∙ take-length (drop place bytes)

-- from a place on these messages are left of a file, and those before it have so many days
pub record IsAt (messages : List Message) (bytes : List ℕ) (place days : ℕ) : Type 0 where
  pub rest : List Message
  pub each : All IsMessage rest
  pub left : drop place bytes ≡ joined (map message_bytes rest)
  pub counted : days + day_count rest ≡ day_count messages

-- before the first
pub at-first : (messages : List Message) (bytes : List ℕ) → IsUnitFile messages bytes → IsAt messages bytes 0 0
at-first messages bytes file = record { rest = messages; each = file.each; left = file.spelled; counted = omega arith }

behind : (front rest : List ℕ) → drop (length front) (front ++ rest) ≡ rest
behind [] rest = refl
behind (x ∷ front) rest = behind front rest

-- one message more
next-by : (messages : List Message) (bytes : List ℕ) (place days : ℕ) (m n : Message) (ns : List Message) (behind_it : List ℕ) → All IsMessage (n ∷ ns) → drop place bytes ≡ joined (map message_bytes (n ∷ ns)) → days + day_count (n ∷ ns) ≡ day_count messages
    → IsMessage m → drop place bytes ≡ message_bytes m ++ behind_it → IsAt messages bytes (place + length (message_bytes m)) (days + days_in (request_of m))
next-by messages bytes place days m n ns behind_it each left counted is spelled =
    let same = one_way m n behind_it (joined (map message_bytes ns)) is (each 0 n (omega arith)) (sym spelled ∙ left) in
    record {
      rest = ns;
      each = λ k d low. each (suc k) d (omega (arith, low));
      left = sym (drop-drop (length (message_bytes m)) place bytes) ∙ ap (λ (l : List ℕ). drop (length (message_bytes m)) l) spelled ∙ behind (message_bytes m) behind_it ∙ same.1;
      counted = ap (λ (k : Message). days + days_in (request_of k) + day_count ns) same.0 ∙ omega (arith, counted);
    }

pub at-next : (messages : List Message) (bytes : List ℕ) (place days : ℕ) (read : MessageRead) → IsAt messages bytes place days → place < length bytes → IsReadAs (drop place bytes) read → IsAt messages bytes (place + read.len) (days + days_in read.request)
at-next messages bytes place days read v low is = rw is.len (rw is.request (by v.rest v.each v.left v.counted))
  where
    by : (rest : List Message) → All IsMessage rest → drop place bytes ≡ joined (map message_bytes rest) → days + day_count rest ≡ day_count messages → IsAt messages bytes (place + length (message_bytes is.message)) (days + days_in (request_of is.message))
    by [] each left counted = absurd (omega (arith, low, length-drop place bytes, ap (λ (l : List ℕ). length l) left))
    by (n ∷ ns) each left counted = next-by messages bytes place days is.message n ns is.begins.rest each left counted is.begins.is_message is.begins.spelled

-- some message stands where bytes are left
pub at-some : {P : Type 0} (messages : List Message) (bytes : List ℕ) (place days : ℕ) → IsAt messages bytes place days → place < length bytes → BeginsNoMessage (drop place bytes) → P
at-some messages bytes place days v low none = by v.rest v.each v.left
  where
    by : {P : Type 0} (rest : List Message) → All IsMessage rest → drop place bytes ≡ joined (map message_bytes rest) → P
    by [] each left = absurd (omega (arith, low, length-drop place bytes, ap (λ (l : List ℕ). length l) left))
    by (m ∷ rest) each left = absurd (none m (record { is_message = each 0 m (omega arith); rest = joined (map message_bytes rest); spelled = left }))

-- and at the end none is left
pub at-end : (messages : List Message) (bytes : List ℕ) (place days : ℕ) → IsAt messages bytes place days → length bytes ≤ place → days ≡ day_count messages
at-end messages bytes place days v high = by v.rest v.left v.counted
  where
    by : (rest : List Message) → drop place bytes ≡ joined (map message_bytes rest) → days + day_count rest ≡ day_count messages → days ≡ day_count messages
    by [] left counted = omega (arith, counted)
    by (m ∷ rest) left counted = absurd (omega (arith, high, length-drop place bytes, ap (λ (l : List ℕ). length l) left))

-- one message is of one day at most
pub one-most : (request : Request) → days_in request ≤ 1
one-most (AskDay date) = omega arith
one-most AskOverview = omega arith
one-most AskEvents = omega arith
one-most AskSpeed = omega arith
one-most AskTechnical = omega arith
