-- What the loader does about the answers that a unit's table gives.
use Rattle.std.proofs.Common.{◌≡◌, ◌∙◌, ℕ, ◌+◌, ◌-◌, ◌*◌, ◌/◌, ◌%◌, ◌<◌, ◌≤◌, Bool, true, false, List, [], ◌∷◌, ◌++◌, length, take, drop, Option, Some, option_map, refl, ap, sym, inl, inr, arith, length-take, length-drop}
use Rattle.std.specs.Prelude.{◌⊎◌, ◌==◌, ◌&&◌, nat_le, nat_lt, slice_index, if◌then◌else◌}
use Rattle.std.proofs.lemmas.Bool.Decides.{nat_tests}
use Rattle.std.proofs.lemmas.List.{take-append-drop, take-take, take_all, drop-take}
use Rattle.link_model.specs.declared.request.Request.{Request}
use Rattle.link_model.specs.Answers.{number_of, cut, piece}
use Rattle.message_model.specs.Messages.{Message, AnOverview, ADay, AnEventList, ASpeedList, ATechnical, IsMessage, message_bytes, content_of}
use Rattle.unit_messages.specs.Reading.{request_of}
use Rattle.unit_messages.specs.Joining.{counter_in}
use Rattle.link_loader.specs.declared.stage.Stage.{Stage}
use Rattle.link_loader.specs.declared.stage.Stage.TheVariants.{Asked, Acknowledged}
use Rattle.link_loader.specs.declared.kind.Kind.TheVariants.{Negative, Broken, Piece, Single, Other}
use Rattle.link_loader.specs.Stages.{behind_lack}
use Rattle.link_loader.specs.Coming.{begins_as, piece_kind, kind_at, kind_of}
use Rattle.link_loader.specs.Loading.{Loading, at_stage, after_message, closed, Takes}
use Rattle.link_loader.proofs.FrameKinds.{single_closes}
use Rattle.link_loader.proofs.Closing.{finishes}

never_both : (b : Bool) → (b && false) ≡ false
never_both true = refl
never_both false = refl

same_number : (m n : ℕ) → m ≡ n → (m == n) ≡ true
same_number m n e = grind (arith, nat_tests)

less_number : (m n : ℕ) → m < n → (m == n) ≡ false
less_number m n lt = grind (arith, nat_tests)

is_less : (m n : ℕ) → m < n → nat_lt m n ≡ true
is_less m n lt = grind (arith, nat_tests)

at_most : (m n : ℕ) → m ≤ n → nat_le m n ≡ true
at_most m n le = grind (arith, nat_tests)

own_number : (request : Request) → (number_of request == number_of request) ≡ true
own_number request = same_number (number_of request) (number_of request) refl

-- a frame with a message's first byte is no negative answer
no_refusal : (stage : Stage) (rest : List ℕ) → kind_of stage (0x76 ∷ rest) ≡ kind_at stage (0x76 ∷ rest)
no_refusal stage rest =
    ap (λ (b : Bool). if b then Negative (slice_index (0x76 ∷ rest) 1) (slice_index (0x76 ∷ rest) 2) else kind_at stage (0x76 ∷ rest)) (never_both (length (0x76 ∷ rest) == 3))

-- a message in one frame
pub single_kind : (request : Request) (content : List ℕ) → length content ≤ 252 → kind_of (Asked request) (0x76 ∷ number_of request ∷ content) ≡ Single request
single_kind request content short =
    let frame : List ℕ = 0x76 ∷ number_of request ∷ content in
    let low : length frame < 255 = omega (arith, short) in
    no_refusal (Asked request) (number_of request ∷ content)
    ∙ ap (λ (b : Bool). if b && begins_as request frame then piece_kind request 1 (counter_in frame) else if nat_lt (length frame) 255 then Single request else Other) (less_number (length frame) 255 low)
    ∙ ap (λ (b : Bool). if b then Single request else Other) (is_less (length frame) 255 low)

-- a piece of the wanted counter, which a frame of two bytes tells
counter_told : (request : Request) (content : List ℕ) (counter : ℕ) → counter < 65536 → counter_in (piece request content counter) ≡ counter
counter_told request content counter low = omega arith

begins : (request : Request) (content : List ℕ) (counter : ℕ) → begins_as request (piece request content counter) ≡ true
begins request content counter = own_number request

right_piece : (request : Request) (content : List ℕ) (counter : ℕ) → counter < 65536 → piece_kind request counter (counter_in (piece request content counter)) ≡ Piece request
right_piece request content counter low = ap (λ (b : Bool). if b then Piece request else Broken counter (counter_in (piece request content counter))) (same_number (counter_in (piece request content counter)) counter (counter_told request content counter low))

pub first_kind : (request : Request) (content : List ℕ) → length (piece request content 1) ≡ 255 → kind_of (Asked request) (piece request content 1) ≡ Piece request
first_kind request content full =
    let frame : List ℕ = piece request content 1 in
    no_refusal (Asked request) (number_of request ∷ 1 / 256 ∷ 1 % 256 ∷ cut content 1)
    ∙ ap (λ (b : Bool). if b && begins_as request frame then piece_kind request 1 (counter_in frame) else if nat_lt (length frame) 255 then Single request else Other) (same_number (length frame) 255 full)
    ∙ ap (λ (b : Bool). if b then piece_kind request 1 (counter_in frame) else if nat_lt (length frame) 255 then Single request else Other) (begins request content 1)
    ∙ right_piece request content 1 (omega arith)

pub next_kind : (request : Request) (content : List ℕ) (counter : ℕ) → counter < 65536 → kind_of (Acknowledged request counter) (piece request content counter) ≡ Piece request
next_kind request content counter low =
    let frame : List ℕ = piece request content counter in
    let four : 4 ≤ length frame = omega arith in
    no_refusal (Acknowledged request counter) (number_of request ∷ counter / 256 ∷ counter % 256 ∷ cut content counter)
    ∙ ap (λ (b : Bool). if b && begins_as request frame then piece_kind request counter (counter_in frame) else Other) (at_most 4 (length frame) four)
    ∙ ap (λ (b : Bool). if b then piece_kind request counter (counter_in frame) else Other) (begins request content counter)
    ∙ right_piece request content counter low

-- that there is no such message is passed over
pub lack_taken : (end : ℕ) (request : Request) (stage : Stage) → behind_lack end request ≡ Some stage → Takes (at_stage end (Asked request)) (0x7F ∷ 0x36 ∷ 0xFA ∷ []) (at_stage end stage) []
lack_taken end request stage lack = inl (ap (λ (o : Option Stage). option_map (at_stage end) o) lack, refl)

-- a message's bytes, by the request that it answers
pub spelled_by : (request : Request) (m : Message) → request ≡ request_of m → 0x76 ∷ number_of request ∷ content_of m ≡ message_bytes m
spelled_by request (AnOverview m) asked = ap (λ (r : Request). 0x76 ∷ number_of r ∷ content_of (AnOverview m)) asked
spelled_by request (ADay m) asked = ap (λ (r : Request). 0x76 ∷ number_of r ∷ content_of (ADay m)) asked
spelled_by request (AnEventList m) asked = ap (λ (r : Request). 0x76 ∷ number_of r ∷ content_of (AnEventList m)) asked
spelled_by request (ASpeedList m) asked = ap (λ (r : Request). 0x76 ∷ number_of r ∷ content_of (ASpeedList m)) asked
spelled_by request (ATechnical m) asked = ap (λ (r : Request). 0x76 ∷ number_of r ∷ content_of (ATechnical m)) asked

-- a message that is closed goes out
pub closed_taken : (now : Loading) (frame : List ℕ) (request : Request) (bytes : List ℕ) (m : Message) → closed now frame ≡ Some (request, bytes) → IsMessage m → bytes ≡ message_bytes m → request ≡ request_of m
    → Takes now frame (after_message now m) (message_bytes m)
closed_taken now frame request bytes m closes is spelled asked =
    inr (m, finishes now frame request bytes closes m (record { is_message = is; spelled = spelled; asked = asked }), refl, refl)

pub whole_taken : (end : ℕ) (request : Request) (m : Message) → IsMessage m → request ≡ request_of m → length (content_of m) ≤ 252
    → Takes (at_stage end (Asked request)) (0x76 ∷ number_of request ∷ content_of m) (after_message (at_stage end (Asked request)) m) (message_bytes m)
whole_taken end request m is asked short =
    let now = at_stage end (Asked request) in
    let frame : List ℕ = 0x76 ∷ number_of request ∷ content_of m in
    closed_taken now frame request frame m (single_closes now frame request (single_kind request (content_of m) short)) is (spelled_by request m asked) asked

-- the bytes of a message that have come with so many pieces
abbrev pub came : Request → List ℕ → ℕ → List ℕ
came request content n = 0x76 ∷ number_of request ∷ take (251 * n) content

-- how long the piece behind so many is
pub piece_length : (request : Request) (content : List ℕ) (n : ℕ) → 251 * n ≤ length content
    → ((length (piece request content (n + 1)) ≡ 255) × (251 * (n + 1) ≤ length content)) ⊎ ((length (piece request content (n + 1)) < 255) × (length content ≤ 251 * (n + 1)))
piece_length request content n more = by (nat_le (251 * (n + 1)) (length content)) refl
  where
    cut_long : length (cut content (n + 1)) ≡ length (take 251 (drop (251 * n) content))
    cut_long = ap (λ (k : ℕ). length (take 251 (drop (251 * k) content))) (let e : n + 1 - 1 ≡ n = omega arith in e)

    yes_le : (a b : ℕ) → nat_le a b ≡ true → a ≤ b
    yes_le a b e = grind (arith, nat_tests)

    no_le : (a b : ℕ) → nat_le a b ≡ false → b < a
    no_le a b e = grind (arith, nat_tests)

    by : (b : Bool) → nat_le (251 * (n + 1)) (length content) ≡ b → ((length (piece request content (n + 1)) ≡ 255) × (251 * (n + 1) ≤ length content)) ⊎ ((length (piece request content (n + 1)) < 255) × (length content ≤ 251 * (n + 1)))
    by true e =
        let le = yes_le (251 * (n + 1)) (length content) e in
        inl (omega (arith, cut_long, le, length-take 251 (drop (251 * n) content), length-drop (251 * n) content), le)
    by false e =
        let lt = no_le (251 * (n + 1)) (length content) e in
        inr (omega (arith, cut_long, lt, length-take 251 (drop (251 * n) content), length-drop (251 * n) content), omega (arith, lt))

take_more : (n m : ℕ) (l : List ℕ) → take n l ++ take m (drop n l) ≡ take (n + m) l
take_more n m l =
    ap (λ (x : List ℕ). x ++ take m (drop n l)) (sym (take-take n (n + m) l (omega arith))) ∙ ap (λ (x : List ℕ). take n (take (n + m) l) ++ x) (sym (drop-take n m l))
    ∙ take-append-drop n (take (n + m) l)

-- one piece more
pub came_more : (request : Request) (content : List ℕ) (n : ℕ) → came request content n ++ cut content (n + 1) ≡ came request content (n + 1)
came_more request content n =
    let place : n + 1 - 1 ≡ n = omega arith in
    let end : 251 * n + 251 ≡ 251 * (n + 1) = omega arith in
    ap (λ (l : List ℕ). 0x76 ∷ number_of request ∷ l)
    (ap (λ (k : ℕ). take (251 * n) content ++ take 251 (drop (251 * k) content)) place ∙ take_more (251 * n) 251 content ∙ ap (λ (k : ℕ). take k content) end)

-- all pieces
pub came_all : (request : Request) (content : List ℕ) (n : ℕ) → length content ≤ 251 * n → came request content n ≡ 0x76 ∷ number_of request ∷ content
came_all request content n few = ap (λ (l : List ℕ). 0x76 ∷ number_of request ∷ l) (take_all (251 * n) content few)
