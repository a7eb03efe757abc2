-- Each answer fits into a frame.
use Rattle.std.proofs.Common.{ℕ, ◌+◌, ◌-◌, ◌*◌, ◌≤◌, ◌==◌, ◌||◌, nat_le, Bool, if◌then◌else◌, List, [], ◌∷◌, length, drop, slice_index, bytes_eq, Option, Some, None, arith}
use Rattle.std.proofs.lemmas.Bool.{cond_both, leb-true}
use Rattle.std.proofs.lemmas.List.{length-take}
use Rattle.link_model.specs.declared.request.Request.{Request}
use Rattle.link_model.specs.declared.services.TheConstants.{UPLOAD_REQUEST}
use Rattle.link_model.specs.Frames.{Heard, Right, Wrong}
use Rattle.link_model.specs.Answers.{LinkState, Idle, Started, Diagnostic, Upload, Sending, Reply, answers, silent, refuses, Check, check, checked, number_of, piece, has_piece, begins_to_send, begins_if_any, request_in, transfer_checks, acknowledge_checks, is_diagnostic, is_upload, sends_on, code_in, after_piece, served, idle, active, answered, Fits}

refused_fits : (state : LinkState) (service code : ℕ) → Fits (refuses state service code)
refused_fits state service code = (omega arith, omega arith)

checked_fits : (state : LinkState) (service : ℕ) (checks : List Check) (reply : Reply) → Fits reply → Fits (checked state service checks reply)
checked_fits state service [] reply h = h
checked_fits state service (c ∷ checks) reply h =
    cond_both c.holds (checked state service checks reply) (refuses state service c.code) Fits (λ e. checked_fits state service checks reply h) (λ e. refused_fits state service c.code)

piece_fits : (request : Request) (content : List ℕ) (counter : ℕ) (state : LinkState) → Fits (answers (piece request content counter) state)
piece_fits request content counter state = (omega arith, omega (arith, length-take 251 (drop (251 * (counter - 1)) content)))

begun_fits : (request : Request) (content : List ℕ) → Fits (begins_to_send request content)
begun_fits request content = cond_both (nat_le (length content) 252) (answers (0x76 ∷ number_of request ∷ content) Upload) (answers (piece request content 1) (Sending request 1)) Fits
    (λ e. let short : length content ≤ 252 = leb-true (length content) 252 e in (omega arith, omega arith)) (λ e. piece_fits request content 1 (Sending request 1))

begins_fits : (request : Request) (content : Option (List ℕ)) (state : LinkState) → Fits (begins_if_any request content state)
begins_fits request None state = tt
begins_fits request (Some content) state = begun_fits request content

sent_on_fits : (request : Request) (counter : ℕ) (content : Option (List ℕ)) (code : ℕ) → Fits (sends_on request counter content code)
sent_on_fits request counter None code = refused_fits (Sending request counter) 0x83 0xFA
sent_on_fits request counter (Some content) code =
    cond_both (code == counter) (answers (piece request content counter) (Sending request counter)) (if has_piece content code then answers (piece request content code) (Sending request code) else silent Upload) Fits
    (λ e. piece_fits request content counter (Sending request counter))
    (λ e. cond_both (has_piece content code) (answers (piece request content code) (Sending request code)) (silent Upload) Fits (λ e. piece_fits request content code (Sending request code)) (λ e. tt))

after_fits : (messages : Request → Option (List ℕ)) (state : LinkState) (code : ℕ) → Fits (after_piece messages state code)
after_fits messages Idle code = tt
after_fits messages Started code = tt
after_fits messages Diagnostic code = tt
after_fits messages Upload code = tt
after_fits messages (Sending request counter) code =
    cond_both (code == 0xFFFF) (silent Upload) (checked (Sending request counter) 0x83 (check (code == counter + 1 || code == counter) 0x31 ∷ []) (sends_on request counter (messages request) code)) Fits
    (λ e. tt) (λ e. checked_fits (Sending request counter) 0x83 (check (code == counter + 1 || code == counter) 0x31 ∷ []) (sends_on request counter (messages request) code) (sent_on_fits request counter (messages request) code))

-- one more service of the table
or_else : (b : Bool) (x y : Reply) → Fits x → Fits y → Fits (if b then x else y)
or_else b x y h k = cond_both b x y Fits (λ e. h) (λ e. k)

served_fits : (messages : Request → Option (List ℕ)) (state : LinkState) (bytes : List ℕ) → Fits (served messages state bytes)
served_fits messages state bytes =
    or_else (slice_index bytes 0 == 0x81) _ _ (checked_fits state 0x81 (check (length bytes == 1) 0x13 ∷ []) (answers (0xC1 ∷ 0xEA ∷ 0x8F ∷ []) Started) (omega arith, omega arith))
    (or_else (slice_index bytes 0 == 0x82) _ _ (checked_fits state 0x82 (check (length bytes == 1) 0x13 ∷ []) (answers (0xC2 ∷ []) Idle) (omega arith, omega arith))
    (or_else (slice_index bytes 0 == 0x10) _ _ (checked_fits state 0x10 (check (length bytes == 2) 0x13 ∷ check (slice_index bytes 1 == 0x81) 0x12 ∷ []) (answers (0x50 ∷ 0x81 ∷ []) Diagnostic) (omega arith, omega arith))
    (or_else (slice_index bytes 0 == 0x35) _ _ (checked_fits state 0x35 (check (length bytes == 10) 0x13 ∷ check (is_diagnostic state) 0x22 ∷ check (bytes_eq bytes UPLOAD_REQUEST) 0x50 ∷ []) (answers (0x75 ∷ 0x00 ∷ 0xFF ∷ []) Upload) (omega arith, omega arith))
    (or_else (slice_index bytes 0 == 0x36) _ _ (checked_fits state 0x36 (transfer_checks messages state bytes) (begins_if_any (request_in bytes) (messages (request_in bytes)) state) (begins_fits (request_in bytes) (messages (request_in bytes)) state))
    (or_else (slice_index bytes 0 == 0x37) _ _ (checked_fits state 0x37 (check (length bytes == 1) 0x13 ∷ check (is_upload state) 0x22 ∷ []) (answers (0x77 ∷ []) Diagnostic) (omega arith, omega arith))
    (or_else (slice_index bytes 0 == 0x83) _ _ (checked_fits state 0x83 (acknowledge_checks state bytes) (after_piece messages state (code_in bytes)) (after_fits messages state (code_in bytes)))
    (refused_fits state (slice_index bytes 0) 0x11)))))))

active_fits : (messages : Request → Option (List ℕ)) (state : LinkState) (heard : Heard) → Fits (active messages state heard)
active_fits messages state (Right bytes) = served_fits messages state bytes
active_fits messages state (Wrong byte) = refused_fits state byte 0x10

idle_fits : (heard : Heard) → Fits (idle heard)
idle_fits (Right bytes) = or_else (bytes_eq bytes (0x81 ∷ [])) (answers (0xC1 ∷ 0xEA ∷ 0x8F ∷ []) Started) (silent Idle) (omega arith, omega arith) tt
idle_fits (Wrong byte) = tt

pub answered_fits : (messages : Request → Option (List ℕ)) (state : LinkState) (heard : Heard) → Fits (answered messages state heard)
answered_fits messages Idle heard = idle_fits heard
answered_fits messages Started heard = active_fits messages Started heard
answered_fits messages Diagnostic heard = active_fits messages Diagnostic heard
answered_fits messages Upload heard = active_fits messages Upload heard
answered_fits messages (Sending request counter) heard = active_fits messages (Sending request counter) heard
