-- The messages at the front of a unit's download, one more, and where they end.
use Rattle.std.proofs.Common.{◌≡◌, ◌∙◌, ℕ, zero, suc, ◌+◌, ◌-◌, ◌<◌, ◌≤◌, List, [], ◌∷◌, ◌++◌, length, map, take, drop, refl, ap, sym, subst, arith, All, append_assoc, append-nil, length-append}
use Rattle.std.proofs.lemmas.List.{length-drop, take_at, drop_at}
use Rattle.std.proofs.lemmas.List.Elements.{All-append, All-nil}
use Rattle.card_layout.specs.Fields.{joined}
use Rattle.message_model.specs.Messages.{Message, message_bytes, IsMessage, IsUnitFile}
use Rattle.unit_messages.specs.declared.reading.MessageRead.{MessageRead}
use Rattle.unit_messages.specs.Reading.{IsReadAs, BeginsNoMessage}
use Rattle.file_view.specs.UnitFiles.{HasNoMessage}
use Rattle.file_view.proofs.Telling.{rest_is}
use Rattle.file_view.proofs.UnitFronts.{no_message}
use Rattle.file_view.proofs.UnitOneWay.{unit_does_not_fail}
use Rattle.file_extract.specs.Units.{IsUnitFront, IsUnitPart}

-- some messages stand up to a place
pub record UpToMessage (bytes : List ℕ) (place : ℕ) : Type 0 where
  pub messages : List Message
  pub each : All IsMessage messages
  pub spelled : bytes ≡ joined (map message_bytes messages) ++ drop place bytes
  pub place_is : place ≡ length (joined (map message_bytes messages))
  pub inside : place ≤ length bytes

pub none_read : (bytes : List ℕ) → UpToMessage bytes 0
none_read bytes = record { messages = []; each = All-nil IsMessage; spelled = refl; place_is = refl; inside = omega arith }

messages_more : (ms : List Message) (m : Message) → joined (map message_bytes (ms ++ m ∷ [])) ≡ joined (map message_bytes ms) ++ message_bytes m
messages_more [] m = append-nil (message_bytes m)
messages_more (x ∷ ms) m = ap (λ (l : List ℕ). message_bytes x ++ l) (messages_more ms m) ∙ sym (append_assoc (message_bytes x) (joined (map message_bytes ms)) (message_bytes m))

-- one message more
pub one_read : (bytes : List ℕ) (place : ℕ) (read : MessageRead) → UpToMessage bytes place → IsReadAs (take (length bytes - place) (drop place bytes)) read → read.len ≤ length (take (length bytes - place) (drop place bytes)) → UpToMessage bytes (place + read.len)
one_read bytes place read front is fits = record {
  messages = front.messages ++ is.message ∷ [];
  each = All-append IsMessage front.messages (is.message ∷ []) front.each one;
  spelled = whole ∙ ap (λ (l : List ℕ). joined (map message_bytes (front.messages ++ is.message ∷ [])) ++ l) (sym left);
  place_is = count;
  inside = omega (arith, fits, ap (λ (l : List ℕ). length l) (rest_is bytes place), length-drop place bytes, front.inside);
}
  where
    one : All IsMessage (is.message ∷ [])
    one zero d low = is.begins.is_message
    one (suc k) d low = absurd (omega (arith, low))

    whole : bytes ≡ joined (map message_bytes (front.messages ++ is.message ∷ [])) ++ is.begins.rest
    whole =
        front.spelled ∙ ap (λ (l : List ℕ). joined (map message_bytes front.messages) ++ l) (sym (rest_is bytes place) ∙ is.begins.spelled)
        ∙ sym (append_assoc (joined (map message_bytes front.messages)) (message_bytes is.message) is.begins.rest)
        ∙ ap (λ (l : List ℕ). l ++ is.begins.rest) (sym (messages_more front.messages is.message))

    count : place + read.len ≡ length (joined (map message_bytes (front.messages ++ is.message ∷ [])))
    count = omega (arith, front.place_is, is.len, ap (λ (l : List ℕ). length l) (messages_more front.messages is.message), length-append (joined (map message_bytes front.messages)) (message_bytes is.message))

    left : drop (place + read.len) bytes ≡ is.begins.rest
    left = ap (λ (l : List ℕ). drop (place + read.len) l) whole ∙ drop_at (joined (map message_bytes (front.messages ++ is.message ∷ []))) is.begins.rest (place + read.len) (sym count)

module _ (bytes : List ℕ) (place : ℕ) (front : UpToMessage bytes place) where
  -- no message comes next
  pub ends_none : HasNoMessage (drop place bytes) → (messages : List Message) × IsUnitFront bytes place messages
  ends_none none = (front.messages, record { each = front.each; spelled = front.spelled; end_is = front.place_is; inside = front.inside; ends = none })

  pub ends_bad : BeginsNoMessage (take (length bytes - place) (drop place bytes)) → (messages : List Message) × IsUnitFront bytes place messages
  ends_bad none = ends_none (no_message (drop place bytes) (subst BeginsNoMessage (rest_is bytes place) none))

  -- the bytes end
  pub ends_whole : length bytes ≤ place → (messages : List Message) × IsUnitFront bytes place messages
  ends_whole high = ends_none (λ m more is spelled. absurd (omega (arith, ap (λ (l : List ℕ). length l) spelled, length-drop place bytes, high)))

-- what stands in front is a unit file, unless nothing does
pub is_part : (bytes : List ℕ) (end : ℕ) (messages : List Message) → IsUnitFront bytes end messages → 0 < end → IsUnitPart bytes end
is_part bytes end messages front some = record {
  messages = messages;
  front = front;
  file = record { some = there messages front.end_is; each = front.each; spelled = cut };
}
  where
    there : (ms : List Message) → end ≡ length (joined (map message_bytes ms)) → 0 < length ms
    there [] is = absurd (omega (arith, some, is))
    there (m ∷ ms) is = omega arith

    cut : take end bytes ≡ joined (map message_bytes messages)
    cut = ap (λ (l : List ℕ). take end l) front.spelled ∙ take_at (joined (map message_bytes messages)) (drop end bytes) end (sym front.end_is)

pub no_part : (bytes : List ℕ) (end : ℕ) (messages : List Message) → IsUnitFront bytes end messages → end ≡ 0 → HasNoMessage bytes
no_part bytes end messages front none = subst HasNoMessage (ap (λ (p : ℕ). drop p bytes) none) front.ends

-- of a unit file all stands in front
pub unit_whole : (messages : List Message) (bytes : List ℕ) (end : ℕ) → IsUnitFile messages bytes → IsUnitPart bytes end → end ≡ length bytes
unit_whole messages bytes end file part = by (drop end bytes) refl
  where
    by : (rest : List ℕ) → drop end bytes ≡ rest → end ≡ length bytes
    by [] is = omega (arith, ap (λ (l : List ℕ). length l) is, length-drop end bytes, part.front.inside)
    by (x ∷ xs) is = absurd
        (unit_does_not_fail messages bytes end file
        (record {
          messages = part.messages;
          rest = drop end bytes;
          each = part.front.each;
          spelled = part.front.spelled;
          place_is = part.front.end_is;
          stuck = part.front.ends;
          stands = λ none. let clash : x ∷ xs ≡ [] = sym is ∙ none in absurd (cc);
        }))
