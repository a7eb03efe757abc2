-- Messages that stand one after the other, and one more.
use Rattle.std.proofs.Common.{◌≡◌, ◌∙◌, ℕ, zero, suc, ◌-◌, ◌<◌, ◌≤◌, List, [], ◌∷◌, ◌++◌, length, get_or, map, drop, refl, ap, sym, subst, arith, All, append_assoc, append-nil, length-append, length-drop}
use Rattle.std.proofs.lemmas.List.{drop_at}
use Rattle.std.proofs.lemmas.List.Elements.{All-append, All-nil}
use Rattle.card_layout.specs.Fields.{joined}
use Rattle.link_model.specs.declared.request.Request.TheVariants.{Overview as AskOverview}
use Rattle.message_model.specs.Messages.{Message, ASpeedList, message_bytes, IsMessage, IsUnitFile}
use Rattle.unit_messages.specs.Reading.{request_of}
use Rattle.file_view.specs.declared.fault.ViewFault.{ViewFault}
use Rattle.file_view.specs.declared.fault.ViewFault.TheVariants.{BadFile, Memory}
use Rattle.file_view.specs.Faults.{IfBadFile}
use Rattle.file_view.specs.UnitFiles.{IsBadUnitFile, HasNoMessage}
use Rattle.file_view.specs.declared.places.MessageAt.{MessageAt}
use Rattle.file_view.specs.Places.{IsNext, IsPlaced, ArePlaced}

-- what stands for a message past the end: where it is, and what it tells
abbrev pub no_message_at : MessageAt
no_message_at = record { place = 0; len = 0; request = AskOverview }

abbrev pub no_told : Message
no_told = ASpeedList (record { blocks = []; signature = [] })

-- some messages stand up to a place
pub record AreUpTo (bytes : List ℕ) (place : ℕ) (all : List MessageAt) : Type 0 where
  pub messages : List Message
  pub each : All IsMessage messages
  pub spelled : bytes ≡ joined (map message_bytes messages) ++ drop place bytes
  pub place_is : place ≡ length (joined (map message_bytes messages))
  pub placed : ArePlaced bytes all messages

pub none_yet : (bytes : List ℕ) (all : List MessageAt) → all ≡ [] → AreUpTo bytes 0 all
none_yet bytes all none = record {
  messages = [];
  each = All-nil IsMessage;
  spelled = refl;
  place_is = refl;
  placed = subst (λ (l : List MessageAt). ArePlaced bytes l []) (sym none) refl;
}

bytes_more : (ms : List Message) (m : Message) → joined (map message_bytes (ms ++ m ∷ [])) ≡ joined (map message_bytes ms) ++ message_bytes m
bytes_more [] m = append-nil (message_bytes m)
bytes_more (x ∷ ms) m = ap (λ (l : List ℕ). message_bytes x ++ l) (bytes_more ms m) ∙ sym (append_assoc (message_bytes x) (joined (map message_bytes ms)) (message_bytes m))

placed_more : (bytes : List ℕ) (all : List MessageAt) (ms : List Message) (at : MessageAt) (m : Message) → ArePlaced bytes all ms → IsPlaced bytes at m → ArePlaced bytes (all ++ at ∷ []) (ms ++ m ∷ [])
placed_more bytes [] ms at m are is = subst (λ (l : List Message). ArePlaced bytes (at ∷ []) (l ++ m ∷ [])) (sym are) (is, refl)
placed_more bytes (x ∷ all) [] at m are is = absurd are
placed_more bytes (x ∷ all) (y ∷ ms) at m are is = (are.0, placed_more bytes all ms at m are.1 is)

-- a message that stands next
pub is_placed : (bytes : List ℕ) (place end : ℕ) (m : Message) → IsNext bytes place end m → IsPlaced bytes (record { place = place; len = end - place; request = request_of m }) m
is_placed bytes place end m next =
    let long : end - place ≡ length (message_bytes m) = omega (arith, next.end_is) in
    record { begins = next.begins; inside = omega (arith, next.inside, next.end_is, long); len = long; request = refl }

pub one_more : (bytes : List ℕ) (place end : ℕ) (all new : List MessageAt) (m : Message) → AreUpTo bytes place all → IsNext bytes place end m
    → new ≡ all ++ record { place = place; len = end - place; request = request_of m } ∷ [] → AreUpTo bytes end new
one_more bytes place end all new m front next is = record {
  messages = front.messages ++ m ∷ [];
  each = All-append IsMessage front.messages (m ∷ []) front.each one;
  spelled = whole ∙ ap (λ (l : List ℕ). joined (map message_bytes (front.messages ++ m ∷ [])) ++ l) (sym left);
  place_is = count;
  placed = subst (λ (l : List MessageAt). ArePlaced bytes l (front.messages ++ m ∷ [])) (sym is) (placed_more bytes all front.messages (record { place = place; len = end - place; request = request_of m }) m front.placed (is_placed bytes place end m next));
}
  where
    one : All IsMessage (m ∷ [])
    one zero d low = next.begins.is_message
    one (suc k) d low = absurd (omega (arith, low))

    whole : bytes ≡ joined (map message_bytes (front.messages ++ m ∷ [])) ++ next.begins.rest
    whole =
        front.spelled ∙ ap (λ (l : List ℕ). joined (map message_bytes front.messages) ++ l) next.begins.spelled
        ∙ sym (append_assoc (joined (map message_bytes front.messages)) (message_bytes m) next.begins.rest)
        ∙ ap (λ (l : List ℕ). l ++ next.begins.rest) (sym (bytes_more front.messages m))

    count : end ≡ length (joined (map message_bytes (front.messages ++ m ∷ [])))
    count = omega (arith, front.place_is, next.end_is, ap (λ (l : List ℕ). length l) (bytes_more front.messages m), length-append (joined (map message_bytes front.messages)) (message_bytes m))

    left : drop end bytes ≡ next.begins.rest
    left = ap (λ (l : List ℕ). drop end l) whole ∙ drop_at (joined (map message_bytes (front.messages ++ m ∷ []))) next.begins.rest end (sym count)

-- where nothing is left they are the file
pub all_read : (bytes : List ℕ) (place : ℕ) (all : List MessageAt) → AreUpTo bytes place all → 0 < place → length bytes ≤ place
    → (messages : List Message) × IsUnitFile messages bytes × ArePlaced bytes all messages
all_read bytes place all front some long = (front.messages, record { some = begun front.messages front.place_is; each = front.each; spelled = whole }, front.placed)
  where
    begun : (ms : List Message) → place ≡ length (joined (map message_bytes ms)) → 0 < length ms
    begun [] is = absurd (omega (arith, some, is))
    begun (m ∷ ms) is = omega arith

    rest : (l : List ℕ) (n : ℕ) → length l ≤ n → drop n l ≡ []
    rest [] zero low = refl
    rest [] (suc n) low = refl
    rest (x ∷ l) zero low = absurd (omega (arith, low))
    rest (x ∷ l) (suc n) low = rest l n (omega (arith, low))

    whole : bytes ≡ joined (map message_bytes front.messages)
    whole = front.spelled ∙ ap (λ (l : List ℕ). joined (map message_bytes front.messages) ++ l) (rest bytes place long) ∙ append-nil (joined (map message_bytes front.messages))

-- a fault of the message behind some
pub bad_behind : (bytes : List ℕ) (place : ℕ) (all : List MessageAt) → AreUpTo bytes place all → (place < length bytes) → HasNoMessage (drop place bytes) → IsBadUnitFile place bytes
bad_behind bytes place all front more none = record {
  messages = front.messages;
  rest = drop place bytes;
  each = front.each;
  spelled = front.spelled;
  place_is = front.place_is;
  stuck = none;
  stands = λ is. absurd (omega (arith, more, length-drop place bytes, ap (λ (l : List ℕ). length l) is));
}

pub bad_first : (bytes : List ℕ) → HasNoMessage bytes → IsBadUnitFile 0 bytes
bad_first bytes none = record { messages = []; rest = bytes; each = All-nil IsMessage; spelled = refl; place_is = refl; stuck = none; stands = λ is. refl }

-- a fault where no message stands, if the bytes are bad there
pub faulty_at : (fault : ViewFault) (place : ℕ) (bytes : List ℕ) → (HasNoMessage (drop place bytes) → IsBadUnitFile place bytes)
    → IfBadFile fault (λ at. (at ≡ place) × HasNoMessage (drop place bytes)) → IfBadFile fault (λ at. IsBadUnitFile at bytes)
faulty_at (BadFile at) place bytes bad is = subst (λ (p : ℕ). IsBadUnitFile p bytes) (sym is.0) (bad is.1)
faulty_at Memory place bytes bad is = tt

-- the message at an index
pub placed_at : (bytes : List ℕ) (all : List MessageAt) (ms : List Message) → ArePlaced bytes all ms → (i : ℕ) → i < length all → (d : MessageAt) (m : Message) → IsPlaced bytes (get_or all i d) (get_or ms i m)
placed_at bytes [] ms are i low d m = absurd (omega (arith, low))
placed_at bytes (x ∷ all) [] are i low d m = absurd are
placed_at bytes (x ∷ all) (y ∷ ms) are zero low d m = are.0
placed_at bytes (x ∷ all) (y ∷ ms) are (suc i) low d m = placed_at bytes all ms are.1 i (omega (arith, low)) d m

pub placed_count : (bytes : List ℕ) (all : List MessageAt) (ms : List Message) → ArePlaced bytes all ms → length all ≡ length ms
placed_count bytes [] ms are = sym (ap (λ (l : List Message). length l) are)
placed_count bytes (x ∷ all) [] are = absurd are
placed_count bytes (x ∷ all) (y ∷ ms) are = ap suc (placed_count bytes all ms are.1)
