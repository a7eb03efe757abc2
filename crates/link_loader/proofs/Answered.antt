-- What a unit answers to the frames of a loader, by its table.
use Rattle.std.proofs.Common.{◌≡◌, ◌∙◌, ℕ, ◌+◌, ◌%◌, ◌^◌, ◌<◌, Bool, true, false, List, [], ◌∷◌, Option, Some, None, refl, ap, sym, arith}
use Rattle.std.specs.Prelude.{◌==◌, ◌||◌, is_some, if◌then◌else◌}
use Rattle.std.proofs.lemmas.Bool.Decides.{nat_tests}
use Rattle.byteorder.specs.Endian.{big_number, big_bytes}
use Rattle.card_layout.proofs.Numbers.{big_number-big_bytes}
use Rattle.link_model.specs.declared.request.Request.{Request}
use Rattle.link_model.specs.declared.request.Request.TheVariants.{Overview, Day, Events, Speed, Technical}
use Rattle.link_model.specs.Frames.{Right}
use Rattle.link_model.specs.Answers.{LinkState, Idle, Started, Diagnostic, Upload, Sending, Reply, answers, silent, refuses, check, checked, is_upload, day_in, piece, has_piece, begins_to_send, begins_if_any, transfer, sends_on, after_piece, code_in, answered}
use Rattle.link_loader.specs.Stages.{request_bytes, acknowledgement}

-- tests by their numbers
same_number : (m n : ℕ) → m ≡ n → (m == n) ≡ true
same_number m n e = grind (arith, nat_tests)

less_number : (m n : ℕ) → m < n → (m == n) ≡ false
less_number m n lt = grind (arith, nat_tests)

more_number : (m n : ℕ) → n < m → (m == n) ≡ false
more_number m n lt = grind (arith, nat_tests)

-- a day is a day's first second, in four bytes
abbrev pub IsDay : Request → Type 0
IsDay (Day second) = (second % 86400 ≡ 0) × (second < 2 ^ 32)
IsDay request = Unit {0}

-- the day that a request names
day_named : (second : ℕ) → second < 2 ^ 32 → day_in (request_bytes (Day second)) ≡ second
day_named second low = let read : big_number 4 (big_bytes 4 second) ≡ second = big_number-big_bytes 4 second low in omega (arith, read)

-- the answer to a request, by the message
abbrev pub request_reply : LinkState → Request → Option (List ℕ) → Reply
request_reply state request None = refuses state 0x36 0xFA
request_reply state request (Some content) = begins_to_send request content

module _ (messages : Request → Option (List ℕ)) where
  abbrev by_message : LinkState → Request → Reply
  by_message state request = if is_some (messages request) then begins_if_any request (messages request) state else refuses state 0x36 0xFA

  by_content : (state : LinkState) (request : Request) (content : Option (List ℕ)) → (if is_some content then begins_if_any request content state else refuses state 0x36 0xFA) ≡ request_reply state request content
  by_content state request None = refl
  by_content state request (Some content) = refl

  -- once an upload was requested, a request goes through its checks
  to_transfer : (state : LinkState) (rest : List ℕ) → is_upload state ≡ true → answered messages state (Right (0x36 ∷ rest)) ≡ transfer messages state (0x36 ∷ rest)
  to_transfer Idle rest up = absurd (cc)
  to_transfer Started rest up = absurd (cc)
  to_transfer Diagnostic rest up = absurd (cc)
  to_transfer Upload rest up = refl
  to_transfer (Sending request counter) rest up = refl

  abbrev if_up : LinkState → Request → Bool → Reply
  if_up state request up = if up then by_message state request else refuses state 0x36 0x22

  abbrev if_first : LinkState → ℕ → Bool → Reply
  if_first state second first = if first then by_message state (Day second) else refuses state 0x36 0x31

  transferred : (state : LinkState) (request : Request) → is_upload state ≡ true → IsDay request → transfer messages state (request_bytes request) ≡ by_message state request
  transferred state Overview up day = ap (if_up state Overview) up
  transferred state Events up day = ap (if_up state Events) up
  transferred state Speed up day = ap (if_up state Speed) up
  transferred state Technical up day = ap (if_up state Technical) up
  transferred state (Day second) up day =
      let named : ℕ = day_in (request_bytes (Day second)) in
      ap (λ (b : Bool). if b then if_first state named (named % 86400 == 0) else refuses state 0x36 0x22) up
      ∙ ap (λ (n : ℕ). if_first state n (n % 86400 == 0)) (day_named second day.1)
      ∙ ap (if_first state second) (ap (λ (n : ℕ). n == 0) day.0)

  starts : (request : Request) → (rest : List ℕ) × (request_bytes request ≡ 0x36 ∷ rest)
  starts Overview = (1 ∷ [], refl)
  starts (Day second) = (2 ∷ big_bytes 4 second, refl)
  starts Events = (3 ∷ [], refl)
  starts Speed = (4 ∷ [], refl)
  starts Technical = (5 ∷ [], refl)

  -- a request is answered by its message
  pub request_answered : (state : LinkState) (request : Request) → is_upload state ≡ true → IsDay request → answered messages state (Right (request_bytes request)) ≡ request_reply state request (messages request)
  request_answered state request up day =
      let begin = starts request in
      ap (λ (l : List ℕ). answered messages state (Right l)) begin.1 ∙ to_transfer state begin.0 up ∙ ap (λ (l : List ℕ). transfer messages state l) (sym begin.1)
      ∙ transferred state request up day ∙ by_content state request (messages request)

  -- an acknowledged piece is answered by the next one
  pub piece_answered : (request : Request) (n : ℕ) (content : List ℕ) → messages request ≡ Some content → n + 1 < 65535 → has_piece content (n + 1) ≡ true
      → answered messages (Sending request n) (Right (acknowledgement (n + 1))) ≡ answers (piece request content (n + 1)) (Sending request (n + 1))
  piece_answered request n content is low more =
      let code : code_in (acknowledgement (n + 1)) ≡ n + 1 = omega arith in
      ap (λ (k : ℕ). after_piece messages (Sending request n) k) code
      ∙ ap (λ (b : Bool). if b then silent Upload else checked (Sending request n) 0x83 (check (n + 1 == n + 1 || n + 1 == n) 0x31 ∷ []) (sends_on request n (messages request) (n + 1))) (less_number (n + 1) 0xFFFF low)
      ∙ ap (λ (b : Bool). checked (Sending request n) 0x83 (check (b || n + 1 == n) 0x31 ∷ []) (sends_on request n (messages request) (n + 1))) (same_number (n + 1) (n + 1) refl)
      ∙ ap (λ (o : Option (List ℕ)). sends_on request n o (n + 1)) is
      ∙ ap (λ (b : Bool). if b then answers (piece request content n) (Sending request n) else if has_piece content (n + 1) then answers (piece request content (n + 1)) (Sending request (n + 1)) else silent Upload) (more_number (n + 1) n (omega arith))
      ∙ ap (λ (b : Bool). if b then answers (piece request content (n + 1)) (Sending request (n + 1)) else silent Upload) more

  -- the exit from the transfer
  pub exit_answered : (state : LinkState) → is_upload state ≡ true → answered messages state (Right (0x37 ∷ [])) ≡ answers (0x77 ∷ []) Diagnostic
  exit_answered Idle up = absurd (cc)
  exit_answered Started up = absurd (cc)
  exit_answered Diagnostic up = absurd (cc)
  exit_answered Upload up = refl
  exit_answered (Sending request counter) up = refl
