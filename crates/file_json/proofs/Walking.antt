-- The messages of a unit file whose pieces are still to be made.
use Rattle.std.proofs.Common.{◌≡◌, ◌∙◌, ℕ, ◌+◌, ◌-◌, ◌<◌, ◌≤◌, List, [], ◌∷◌, ◌++◌, length, take, drop, map, get_or, All, refl, ap, sym, subst, arith, length-append, length-drop, drop-cons, add-one}
use Rattle.std.specs.Prelude.{Option, Bool, true, false, ◌==◌, ◌&&◌, not, if◌then◌else◌}
use Rattle.std.proofs.lemmas.List.{take_at, drop_at, drop_all}
use Rattle.card_layout.specs.Fields.{joined}
use Rattle.card_layout.specs.Images.{bytes_at}
use Rattle.link_model.specs.declared.request.Request.{Request}
use Rattle.json.specs.Json.{Items, item}
use Rattle.json.specs.Print.{print}
use Rattle.json.specs.Tree.{json_tokens}
use Rattle.file_view.specs.Showing.{before_last}
use Rattle.file_view.specs.UnitFiles.{days_told}
use Rattle.message_model.specs.Messages.{Message as FileMessage, AnOverview, ADay, AnEventList, ASpeedList, ATechnical, message_bytes, IsMessage, IsUnitFile}
use Rattle.unit_messages.specs.Reading.{request_of}
use Rattle.file_view.specs.declared.places.MessageAt.{MessageAt}
use Rattle.file_view.specs.Places.{ArePlaced}
use Rattle.file_view.proofs.Placing.{no_message_at, no_told}
use Rattle.file_view.proofs.Placing.{placed_at, placed_count}
use Rattle.json_fields.proofs.Cutting.{by_test}
use Rattle.file_json.specs.declared.pieces.Piece.{Piece}
use Rattle.file_json.specs.declared.pieces.Piece.TheVariants.{UnitBegin, Message, End}
use Rattle.file_json.specs.Pieces.{IsPiece, asks_day, day_in, days_asked, item_pieces, pieces_text}
use Rattle.file_json.specs.Units.{is_day_message, is_left_out, message_shown, messages_told}
use Rattle.file_json.proofs.LastDays.{messages_behind, first_out, first_kept, told_are}
use Rattle.file_json.proofs.Making.{AreMade, one_item_made, one_left_out, all_made, unit_begun, unit_whole}

-- the first of them stands at the front
front_is : (m : FileMessage) (ms : List FileMessage) (rest : List ℕ) (len : ℕ) → rest ≡ joined (map message_bytes (m ∷ ms)) → len ≡ length (message_bytes m)
    → (take len rest ≡ message_bytes m) × (drop len rest ≡ joined (map message_bytes ms)) × (len ≤ length rest)
front_is m ms rest len spelled long =
    let rest_is : rest ≡ message_bytes m ++ joined (map message_bytes ms) = spelled in (
      ap (λ (l : List ℕ). take len l) rest_is ∙ take_at (message_bytes m) (joined (map message_bytes ms)) len (sym long),
      ap (λ (l : List ℕ). drop len l) rest_is ∙ drop_at (message_bytes m) (joined (map message_bytes ms)) len (sym long),
      omega (arith, ap length rest_is ∙ length-append (message_bytes m) (joined (map message_bytes ms)), long),
    )

-- a message that answers a day's request is one of a day
asked_is : (m : FileMessage) → asks_day (request_of m) ≡ is_day_message m
asked_is (AnOverview m) = refl
asked_is (ADay m) = refl
asked_is (AnEventList m) = refl
asked_is (ASpeedList m) = refl
asked_is (ATechnical m) = refl

day_count : (m : FileMessage) (ms : List FileMessage) → length (days_told (m ∷ ms)) ≡ day_in (request_of m) + length (days_told ms)
day_count (AnOverview m) ms = omega arith
day_count (ADay m) ms = omega arith
day_count (AnEventList m) ms = omega arith
day_count (ASpeedList m) ms = omega arith
day_count (ATechnical m) ms = omega arith

-- as many of them are of days as were asked for
asked_are : (b : List ℕ) (all : List MessageAt) (messages : List FileMessage) → ArePlaced b all messages → days_asked all ≡ length (days_told messages)
asked_are b [] messages are = sym (ap (λ (l : List FileMessage). length (days_told l)) are)
asked_are b (at ∷ all) [] are = absurd are
asked_are b (at ∷ all) (m ∷ ms) are =
    let own : day_in at.request ≡ day_in (request_of m) = ap day_in are.0.request in
    omega (arith, own, asked_are b all ms are.1, day_count m ms)

-- so many messages have their pieces, and so many of days are still to be left out
pub record AreFrom (messages : List FileMessage) (b : List ℕ) (i skip : ℕ) (after : Bool) (place : ℕ) (rest : List ℕ) (pieces : List Piece) (whole : List ℕ) : Type 0 where
  pub spelled : rest ≡ joined (map message_bytes (drop i messages))
  pub made : AreMade b (messages_behind skip place (drop i messages)) after place rest pieces whole

pub none_made : (last : Option ℕ) (messages : List FileMessage) (b : List ℕ) (all : List MessageAt) (count skip : ℕ) (pieces : List Piece) → IsUnitFile messages b → ArePlaced b all messages
    → count ≡ days_asked all → skip ≡ before_last last count → pieces ≡ UnitBegin ∷ []
    → AreFrom messages b 0 skip false 0 b pieces (unit_whole (messages_told last messages))
none_made last messages b all count skip pieces file are count_is skip_is is =
    let days : skip ≡ before_last last (length (days_told messages)) = skip_is ∙ ap (λ (n : ℕ). before_last last n) (count_is ∙ asked_are b all messages are) in
    let told : messages_behind skip 0 messages ≡ messages_told last messages = ap (λ (n : ℕ). messages_behind n 0 messages) days ∙ sym (told_are last messages) in
    record {
      spelled = file.spelled;
      made = subst (λ (js : Items). AreMade b (messages_behind skip 0 messages) false 0 b pieces (unit_whole js)) told (unit_begun b (messages_behind skip 0 messages) pieces is);
    }

-- one of them
record IsFirst (messages : List FileMessage) (i : ℕ) (all : List MessageAt) (rest : List ℕ) : Type 0 where
  is : IsMessage (get_or messages i no_told)
  laid : rest ≡ joined (map message_bytes (get_or messages i no_told ∷ drop (i + 1) messages))
  long : (get_or all i no_message_at).len ≡ length (message_bytes (get_or messages i no_told))
  cut : drop i messages ≡ get_or messages i no_told ∷ drop (i + 1) messages
  asked : asks_day (get_or all i no_message_at).request ≡ is_day_message (get_or messages i no_told)

first : (messages : List FileMessage) (i : ℕ) (all : List MessageAt) (b rest : List ℕ) → IsUnitFile messages b → ArePlaced b all messages → i < length all → rest ≡ joined (map message_bytes (drop i messages)) → IsFirst messages i all rest
first messages i all b rest file are low spelled =
    let few : i < length messages = omega (arith, low, placed_count b all messages are) in
    let cut : drop i messages ≡ get_or messages i no_told ∷ drop (i + 1) messages = rw add-one (drop-cons messages i no_told few) in
    record {
      is = file.each i no_told few;
      laid = spelled ∙ ap (λ (l : List FileMessage). joined (map message_bytes l)) cut;
      long = (placed_at b all messages are i low no_message_at no_told).len;
      cut = cut;
      asked = ap asks_day (placed_at b all messages are i low no_message_at no_told).request ∙ asked_is (get_or messages i no_told);
    }

pub message_there : (messages : List FileMessage) (i : ℕ) (all : List MessageAt) (b rest : List ℕ) → IsUnitFile messages b → ArePlaced b all messages → i < length all → rest ≡ joined (map message_bytes (drop i messages))
    → (get_or all i no_message_at).len ≤ length rest
message_there messages i all b rest file are low spelled =
    let is = first messages i all b rest file are low spelled in
    (front_is (get_or messages i no_told) (drop (i + 1) messages) rest (get_or all i no_message_at).len is.laid is.long).2

-- one message more, or one that is left out
one_message : (m : FileMessage) (ms : List FileMessage) (b : List ℕ) (skip : ℕ) (after out : Bool) (place len : ℕ) (rest behind : List ℕ) (pieces made : List Piece) (whole : List ℕ)
    → IsMessage m → rest ≡ joined (map message_bytes (m ∷ ms)) → len ≡ length (message_bytes m) → is_left_out skip m ≡ out
    → AreMade b (messages_behind skip place (m ∷ ms)) after place rest pieces whole → behind ≡ drop len rest
    → made ≡ (if out then pieces else pieces ++ item_pieces after (Message place len))
    → AreMade b (messages_behind (if out then skip - 1 else skip) (place + len) ms) (if out then after else true) (place + len) behind made whole
one_message m ms b skip after true place len rest behind pieces made whole is laid long out are behind_is made_is =
    let parts = front_is m ms rest len laid long in
    let next : messages_behind skip place (m ∷ ms) ≡ messages_behind (skip - 1) (place + len) ms =
    first_out skip place m ms out ∙ ap (λ (n : ℕ). messages_behind (skip - 1) (place + n) ms) (sym long) in
    subst (λ (l : List Piece). AreMade b (messages_behind (skip - 1) (place + len) ms) after (place + len) behind l whole) (sym made_is)
    (one_left_out (messages_behind skip place (m ∷ ms)) (messages_behind (skip - 1) (place + len) ms) b after place len rest behind pieces whole are next parts.2 behind_is)
one_message m ms b skip after false place len rest behind pieces made whole is laid long out are behind_is made_is =
    let parts = front_is m ms rest len laid long in
    let own : bytes_at b place len ≡ message_bytes m = ap (λ (l : List ℕ). take len l) (sym are.rest_is) ∙ parts.0 in
    let inside : place + len ≤ length b = omega (arith, are.within, parts.2, ap (λ (l : List ℕ). length l) are.rest_is, length-drop place b) in
    let left : AreMade b (item (message_shown place (message_bytes m)) (messages_behind skip (place + length (message_bytes m)) ms)) after place rest pieces whole =
    subst (λ (js : Items). AreMade b js after place rest pieces whole) (first_kept skip place m ms out) are in
    let next : AreMade b (messages_behind skip (place + length (message_bytes m)) ms) true (place + len) behind made whole =
    one_item_made _ (messages_behind skip (place + length (message_bytes m)) ms) b after place len rest behind pieces made (Message place len) whole left parts.2 behind_is
    (inside, (m, is, own)) (ap (λ (l : List ℕ). print (json_tokens (message_shown place l))) own) made_is in
    subst (λ (n : ℕ). AreMade b (messages_behind skip (place + n) ms) true (place + len) behind made whole) (sym long) next

pub one_message_made : (messages : List FileMessage) (i : ℕ) (all : List MessageAt) (b : List ℕ) (skip fewer : ℕ) (after later out : Bool) (place : ℕ) (rest behind : List ℕ) (pieces made : List Piece) (whole : List ℕ)
    → IsUnitFile messages b → ArePlaced b all messages → i < length all → AreFrom messages b i skip after place rest pieces whole
    → out ≡ (not (skip == 0) && asks_day (get_or all i no_message_at).request)
    → made ≡ (if out then pieces else pieces ++ item_pieces after (Message place (get_or all i no_message_at).len))
    → later ≡ (if out then after else true) → fewer ≡ (if out then skip - 1 else skip)
    → behind ≡ drop (get_or all i no_message_at).len rest
    → AreFrom messages b (i + 1) fewer later (place + (get_or all i no_message_at).len) behind made whole
one_message_made messages i all b skip fewer after later out place rest behind pieces made whole file are low from out_is made_is later_is fewer_is behind_is =
    let own = first messages i all b rest file are low from.spelled in
    let m : FileMessage = get_or messages i no_told in
    let ms : List FileMessage = drop (i + 1) messages in
    let len : ℕ = (get_or all i no_message_at).len in
    let left : AreMade b (messages_behind skip place (get_or messages i no_told ∷ drop (i + 1) messages)) after place rest pieces whole =
    subst (λ (l : List FileMessage). AreMade b (messages_behind skip place l) after place rest pieces whole) own.cut from.made in
    let told : is_left_out skip (get_or messages i no_told) ≡ out = sym (out_is ∙ ap (λ (t : Bool). not (skip == 0) && t) own.asked) in
    let next : AreMade b (messages_behind (if out then skip - 1 else skip) (place + (get_or all i no_message_at).len) (drop (i + 1) messages)) (if out then after else true) (place + (get_or all i no_message_at).len) behind made whole =
    one_message m ms b skip after out place len rest behind pieces made whole own.is own.laid own.long told left behind_is made_is in
    let counted : AreMade b (messages_behind fewer (place + (get_or all i no_message_at).len) (drop (i + 1) messages)) (if out then after else true) (place + (get_or all i no_message_at).len) behind made whole =
    subst (λ (n : ℕ). AreMade b (messages_behind n (place + (get_or all i no_message_at).len) (drop (i + 1) messages)) (if out then after else true) (place + (get_or all i no_message_at).len) behind made whole) (sym fewer_is) next in
    record {
      spelled = behind_is ∙ (front_is m ms rest len own.laid own.long).1;
      made = subst (λ (t : Bool). AreMade b (messages_behind fewer (place + (get_or all i no_message_at).len) (drop (i + 1) messages)) t (place + (get_or all i no_message_at).len) behind made whole) (sym later_is) counted;
    }

-- all are made
pub all_messages : (messages : List FileMessage) (b : List ℕ) (i skip : ℕ) (after : Bool) (place : ℕ) (rest : List ℕ) (pieces made : List Piece) (whole : List ℕ) → length messages ≤ i → AreFrom messages b i skip after place rest pieces whole
    → made ≡ pieces ++ End ∷ [] → (pieces_text b made ≡ whole) × All (IsPiece b) made
all_messages messages b i skip after place rest pieces made whole past from made_is =
    let none : drop i messages ≡ [] = drop_all i messages past in
    let left : AreMade b (messages_behind skip place []) after place rest pieces whole = subst (λ (l : List FileMessage). AreMade b (messages_behind skip place l) after place rest pieces whole) none from.made in
    all_made b after place rest pieces made whole left made_is

-- ---- how many of them are of days

pub asked_more : (all : List MessageAt) (i : ℕ) → i < length all → days_asked (drop i all) ≡ day_in (get_or all i no_message_at).request + days_asked (drop (i + 1) all)
asked_more all i low =
    let cut : drop i all ≡ get_or all i no_message_at ∷ drop (i + 1) all = rw add-one (drop-cons all i no_message_at low) in
    ap days_asked cut

pub none_asked : (all : List MessageAt) (i : ℕ) → length all ≤ i → days_asked (drop i all) ≡ 0
none_asked all i past = ap days_asked (drop_all i all past)

pub one_day : (request : Request) → day_in request ≤ 1
one_day request = by_test (asks_day request) (λ is. rw is (omega arith)) (λ is. rw is (omega arith))
