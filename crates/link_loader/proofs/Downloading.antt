-- A download against a unit that answers by the table.
use Rattle.std.proofs.Common.{◌≡◌, ◌≢◌, ◌∙◌, ℕ, suc, ◌+◌, ◌-◌, ◌*◌, ◌<◌, ◌≤◌, ◌==◌, Bool, true, false, List, [], ◌∷◌, ◌++◌, length, take, drop, length-append, length-take, length-drop, Option, Some, None, IfSome, option_map, refl, ap, sym, subst, inl, inr, arith, append_assoc, append-nil}
use Rattle.std.specs.Prelude.{◌⊎◌, nat_le, if◌then◌else◌}
use Rattle.std.proofs.lemmas.Bool.Decides.{nat_tests}
use Rattle.link_model.specs.declared.request.Request.{Request}
use Rattle.link_model.specs.declared.request.Request.TheVariants.{Overview as AskOverview, Day as AskDay, Events as AskEvents, Speed as AskSpeed, Technical as AskTechnical}
use Rattle.link_model.specs.Frames.{Right}
use Rattle.link_model.specs.declared.services.TheConstants.{UPLOAD_REQUEST}
use Rattle.link_model.specs.Answers.{LinkState, Reply, answers, is_upload, piece, begins_to_send, answered, cut}
use Rattle.link_model.specs.Answers as states
use Rattle.message_model.specs.Messages.{Message, IsMessage, message_bytes, content_of}
use Rattle.message_model.specs.Sending.{message_of, content_sent, unit_file}
use Rattle.link_loader.specs.declared.stage.Stage.{Stage}
use Rattle.link_loader.specs.declared.stage.Stage.TheVariants.{Start, Diagnostic, Upload, Asked, Acknowledged, Exit, Stop, Finished}
use Rattle.link_loader.specs.Stages.{sent_at, request_bytes, acknowledgement, next_counter, next_day}
use Rattle.link_loader.specs.Loading.{Loading, at_stage, after_message, continued, with_piece, Takes}
use Rattle.link_loader.specs.Talking.{Talk, fresh_talk, Exchanges, Talks, CanBeLoaded}
use Rattle.link_loader.proofs.Rest.{left, left_at}
use Rattle.link_loader.proofs.FrameKinds.{more_goes_on, last_closes}
use Rattle.link_loader.proofs.OneWay.{taken_in_one_way}
use Rattle.link_loader.proofs.Short.{message_short}
use Rattle.link_loader.proofs.Answered.{IsDay, request_reply, request_answered, piece_answered, exit_answered}
use Rattle.link_loader.proofs.Transfers.{came, came_more, came_all, piece_length, first_kind, next_kind, lack_taken, whole_taken, closed_taken, spelled_by}
use Rattle.link_loader.proofs.Together.{IsAsked, Together, behind_no_day, sent_behind}

at_most : (m n : ℕ) → m ≤ n → nat_le m n ≡ true
at_most m n le = grind (arith, nat_tests)

same_number : (m n : ℕ) → m ≡ n → (m == n) ≡ true
same_number m n e = grind (arith, nat_tests)

less_number : (m n : ℕ) → m < n → (m == n) ≡ false
less_number m n lt = grind (arith, nat_tests)

-- a message in one frame, or in pieces
in_frame : (n : ℕ) → ((nat_le n 252 ≡ true) × (n ≤ 252)) ⊎ ((nat_le n 252 ≡ false) × (252 < n))
in_frame n = by (nat_le n 252) refl
  where
    yes_le : (a b : ℕ) → nat_le a b ≡ true → a ≤ b
    yes_le a b e = grind (arith, nat_tests)

    no_le : (a b : ℕ) → nat_le a b ≡ false → b < a
    no_le a b e = grind (arith, nat_tests)

    by : (b : Bool) → nat_le n 252 ≡ b → ((nat_le n 252 ≡ true) × (n ≤ 252)) ⊎ ((nat_le n 252 ≡ false) × (252 < n))
    by true e = inl (e, yes_le n 252 e)
    by false e = inr (e, no_le n 252 e)

-- the first piece of a long message has all its bytes
full_piece : (request : Request) (content : List ℕ) → 252 < length content → length (piece request content 1) ≡ 255
full_piece request content low = by (piece_length request content 0 (omega arith))
  where
    by : ((length (piece request content 1) ≡ 255) × (251 * (0 + 1) ≤ length content)) ⊎ ((length (piece request content 1) < 255) × (length content ≤ 251 * (0 + 1))) → length (piece request content 1) ≡ 255
    by (inl both) = both.0
    by (inr both) = let few : length content ≤ 251 * (0 + 1) = both.1 in absurd (omega (arith, few, low))

-- a frame that begins a message, or is none
begun_few : (bytes frame : List ℕ) → bytes ≡ [] → length frame ≤ 255 → length (with_piece bytes frame) ≤ 277236
begun_few bytes frame none few =
    let begun : length (take 2 frame ++ drop 4 frame) ≤ 277236 = omega (arith, few, length-append (take 2 frame) (drop 4 frame), length-take 2 frame, length-drop 4 frame) in
    subst (λ (b : List ℕ). length (with_piece b frame) ≤ 277236) (sym none) begun

module _ (x : List ℕ) (can : CanBeLoaded x) where
  abbrev messages : Request → Option (List ℕ)
  messages = content_sent x

  -- unit and loader stand together, and what is out and what is left are the file
  record Agree (talk : Talk) : Type 0 where
    whole : talk.out ++ left x talk.loader.stage ≡ unit_file x
    stands : Together x talk.unit talk.loader.end talk.loader.bytes talk.loader.stage

  -- the next exchange
  record Step (talk : Talk) : Type 0 where
    frame : List ℕ
    new : Talk
    exchange : Exchanges messages talk frame new
    agrees : Agree new
    room : length (with_piece talk.loader.bytes frame) ≤ 277236

  abbrev talk_of : LinkState → Loading → List ℕ → Talk
  talk_of unit loader out = record { unit = unit; loader = loader; out = out }

  -- an exchange, by what is sent, answered and taken
  step_by : (unit next : LinkState) (now new : Loading) (out sent frame put : List ℕ) → sent_at now.stage ≡ Some sent → answered messages unit (Right sent) ≡ answers frame next → Takes now frame new put
      → left x now.stage ≡ put ++ left x new.stage → out ++ left x now.stage ≡ unit_file x → Together x next new.end new.bytes new.stage → length (with_piece now.bytes frame) ≤ 277236
      → Step (talk_of unit now out)
  step_by unit next now new out sent frame put sends answer takes rest whole stands room =
      record {
        frame = frame;
        new = talk_of next new (out ++ put);
        exchange = record { sent = sent; sends = sends; answers = answer; put = put; takes = takes; puts = refl };
        agrees = record { whole = append_assoc out put (left x new.stage) ∙ ap (λ (l : List ℕ). out ++ l) (sym rest) ∙ whole; stands = stands };
        room = room;
      }

  -- the message of a request is of the grammar, and its pieces can be counted
  in_grammar : (request : Request) (m : Message) → message_of x request ≡ Some m → IsMessage m
  in_grammar request m is = subst (λ (o : Option Message). IfSome o IsMessage) is (can.grammar request)

  sent_content : (request : Request) (m : Message) → message_of x request ≡ Some m → messages request ≡ Some (content_of m)
  unfolding content_sent
  sent_content request m is = ap (λ (o : Option Message). option_map content_of o) is

  sent_none : (request : Request) → message_of x request ≡ None → messages request ≡ None
  unfolding content_sent
  sent_none request is = ap (λ (o : Option Message). option_map content_of o) is

  few : (request : Request) (m : Message) → message_of x request ≡ Some m → length (content_of m) < 251 * 65534
  few request m is = message_short m (in_grammar request m is)

  -- a piece more of a message that has room
  piece_few : (request : Request) (m : Message) (n : ℕ) → message_of x request ≡ Some m → length (came request (content_of m) n ++ cut (content_of m) (n + 1)) ≤ 277236
  piece_few request m n is =
      let room : suc (suc (length (content_of m))) ≤ 277236 = subst (λ (o : Option Message). IfSome o (λ m. length (message_bytes m) ≤ 277236)) is (can.room request) in
      let all = ap length (came_more request (content_of m) n) in
      let long : length (came request (content_of m) (n + 1)) ≡ suc (suc (length (take (251 * (n + 1)) (content_of m)))) = refl in
      omega (arith, room, all, long, length-take (251 * (n + 1)) (content_of m))

  named : (end : ℕ) (request : Request) → IsAsked x end request → IsDay request
  named end AskOverview asked = tt
  named end (AskDay second) asked = let time = can.time in (asked.0, omega (arith, asked.1, asked.2, time))
  named end AskEvents asked = tt
  named end AskSpeed asked = tt
  named end AskTechnical asked = tt

  -- a message that is asked for comes in one frame, or its first piece does
  ask_step : (unit : LinkState) (request : Request) (end : ℕ) (out : List ℕ) (m : Message) → is_upload unit ≡ true → IsAsked x end request → message_of x request ≡ Some m
      → out ++ left_at x request ≡ unit_file x → Step (talk_of unit (at_stage end (Asked request)) out)
  ask_step unit request end out m up asked is whole = by (in_frame (length (content_of m)))
    where
      answer : answered messages unit (Right (request_bytes request)) ≡ begins_to_send request (content_of m)
      answer = request_answered messages unit request up (named end request asked) ∙ ap (request_reply unit request) (sent_content request m is)

      by : ((nat_le (length (content_of m)) 252 ≡ true) × (length (content_of m) ≤ 252)) ⊎ ((nat_le (length (content_of m)) 252 ≡ false) × (252 < length (content_of m))) → Step (talk_of unit (at_stage end (Asked request)) out)
      by (inl short) =
          let now = at_stage end (Asked request) in
          let sent = sent_behind x can states.Upload refl request end m asked is in
          step_by unit states.Upload now (after_message now m) out (request_bytes request) (0x76 ∷ states.number_of request ∷ content_of m) (message_bytes m) refl
          (answer ∙ ap (λ (b : Bool). if b then answers (0x76 ∷ states.number_of request ∷ content_of m) states.Upload else answers (piece request (content_of m) 1) (states.Sending request 1)) short.0)
          (whole_taken end request m (in_grammar request m is) sent.asked short.1)
          (sent.spelled ∙ ap (λ (l : List ℕ). message_bytes m ++ l) sent.goes.left_is) whole sent.goes.together
          (begun_few [] (0x76 ∷ states.number_of request ∷ content_of m) refl (omega (arith, short.1)))
      by (inr long) =
          let now = at_stage end (Asked request) in
          let content : List ℕ = content_of m in
          let frame : List ℕ = piece request content 1 in
          let full = full_piece request content long.1 in
          step_by unit (states.Sending request 1) now (continued now request frame) out (request_bytes request) frame [] refl
          (answer ∙ ap (λ (b : Bool). if b then answers (0x76 ∷ states.number_of request ∷ content) states.Upload else answers frame (states.Sending request 1)) long.0)
          (inl (more_goes_on now frame request (first_kind request content full) (same_number (length frame) 255 full), refl)) refl whole
          (record { n = 1; m = m; counted = refl; sends = refl; is = is; more = omega (arith, long.1); joined = refl; asked = asked })
          (begun_few [] frame refl (omega (arith, full)))

  -- the next piece, behind which another one follows, or the last
  piece_step : (request : Request) (end : ℕ) (out : List ℕ) (n : ℕ) (m : Message) → IsAsked x end request → message_of x request ≡ Some m → 251 * n ≤ length (content_of m)
      → out ++ left_at x request ≡ unit_file x → Step (talk_of (states.Sending request n) (record { stage = Acknowledged request (n + 1); end = end; bytes = came request (content_of m) n }) out)
  piece_step request end out n m asked is more whole = by (piece_length request (content_of m) n more)
    where
      low : n + 1 < 65535
      low = let all = few request m is in omega (arith, all, more)

      answer : answered messages (states.Sending request n) (Right (acknowledgement (n + 1))) ≡ answers (piece request (content_of m) (n + 1)) (states.Sending request (n + 1))
      answer =
          let place : n + 1 - 1 ≡ n = omega arith in
          piece_answered messages request n (content_of m) (sent_content request m is) low (at_most (251 * (n + 1 - 1)) (length (content_of m)) (omega (arith, more, place)))

      counter : next_counter (n + 1) ≡ n + 1 + 1
      counter = omega (arith, low)

      by : ((length (piece request (content_of m) (n + 1)) ≡ 255) × (251 * (n + 1) ≤ length (content_of m))) ⊎ ((length (piece request (content_of m) (n + 1)) < 255) × (length (content_of m) ≤ 251 * (n + 1)))
          → Step (talk_of (states.Sending request n) (record { stage = Acknowledged request (n + 1); end = end; bytes = came request (content_of m) n }) out)
      by (inl full) =
          let frame : List ℕ = piece request (content_of m) (n + 1) in
          let here : Loading = record { stage = Acknowledged request (n + 1); end = end; bytes = came request (content_of m) n } in
          step_by (states.Sending request n) (states.Sending request (n + 1)) here (continued here request frame) out (acknowledgement (n + 1)) frame [] refl answer
          (inl (more_goes_on here frame request (next_kind request (content_of m) (n + 1) (omega (arith, low))) (same_number (length frame) 255 full.0), refl)) refl whole
          (record { n = n + 1; m = m; counted = counter; sends = refl; is = is; more = full.1; joined = came_more request (content_of m) n; asked = asked })
          (piece_few request m n is)
      by (inr last) =
          let frame : List ℕ = piece request (content_of m) (n + 1) in
          let here : Loading = record { stage = Acknowledged request (n + 1); end = end; bytes = came request (content_of m) n } in
          let sent = sent_behind x can (states.Sending request (n + 1)) refl request end m asked is in
          let spelled : with_piece here.bytes frame ≡ message_bytes m = came_more request (content_of m) n ∙ came_all request (content_of m) (n + 1) last.1 ∙ spelled_by request m sent.asked in
          step_by (states.Sending request n) (states.Sending request (n + 1)) here (after_message here m) out (acknowledgement (n + 1)) frame (message_bytes m) refl answer
          (closed_taken here frame request (with_piece here.bytes frame) m (last_closes here frame request (next_kind request (content_of m) (n + 1) (omega (arith, low))) (less_number (length frame) 255 last.0)) (in_grammar request m is) spelled sent.asked)
          (sent.spelled ∙ ap (λ (l : List ℕ). message_bytes m ++ l) sent.goes.left_is) whole sent.goes.together (piece_few request m n is)

  -- which messages there are
  has_overview : message_of x AskOverview ≡ None → ⊥
  unfolding message_of
  has_overview is = absurd (cc)

  has_events : message_of x AskEvents ≡ None → ⊥
  unfolding message_of
  has_events is = absurd (cc)

  has_speed : message_of x AskSpeed ≡ None → ⊥
  unfolding message_of
  has_speed is = absurd (cc)

  has_technical : message_of x AskTechnical ≡ None → ⊥
  unfolding message_of
  has_technical is = absurd (cc)

  -- a request is answered, or passed over
  request_step : (unit : LinkState) (request : Request) (end : ℕ) (out : List ℕ) (o : Option Message) → is_upload unit ≡ true → IsAsked x end request → message_of x request ≡ o
      → out ++ left_at x request ≡ unit_file x → Step (talk_of unit (at_stage end (Asked request)) out)
  request_step unit request end out (Some m) up asked is whole = ask_step unit request end out m up asked is whole
  request_step unit request end out None up asked is whole = by request asked is whole
    where
      refusal : (request : Request) → IsAsked x end request → message_of x request ≡ None → answered messages unit (Right (request_bytes request)) ≡ answers (0x7F ∷ 0x36 ∷ 0xFA ∷ []) unit
      refusal request asked is = request_answered messages unit request up (named end request asked) ∙ ap (request_reply unit request) (sent_none request is)

      by : (request : Request) → IsAsked x end request → message_of x request ≡ None → out ++ left_at x request ≡ unit_file x → Step (talk_of unit (at_stage end (Asked request)) out)
      by AskOverview asked is whole = absurd (has_overview is)
      by (AskDay second) asked is whole =
          let goes = behind_no_day x can unit up second end asked is in
          step_by unit unit (at_stage end (Asked (AskDay second))) (at_stage end (next_day second end)) out (request_bytes (AskDay second)) (0x7F ∷ 0x36 ∷ 0xFA ∷ []) [] refl
          (refusal (AskDay second) asked is) (lack_taken end (AskDay second) (next_day second end) refl) goes.left_is whole goes.together
          (begun_few [] (0x7F ∷ 0x36 ∷ 0xFA ∷ []) refl (omega arith))
      by AskEvents asked is whole = absurd (has_events is)
      by AskSpeed asked is whole = absurd (has_speed is)
      by AskTechnical asked is whole = absurd (has_technical is)

  -- what the unit answers, and the loader does about it
  step : (unit : LinkState) (stage : Stage) (end : ℕ) (bytes out : List ℕ) → stage ≢ Finished → out ++ left x stage ≡ unit_file x → Together x unit end bytes stage
      → Step (talk_of unit (record { stage = stage; end = end; bytes = bytes }) out)
  step unit Start end bytes out open_ whole together =
      step_by unit states.Started (record { stage = Start; end = end; bytes = bytes }) (at_stage end Diagnostic) out (0x81 ∷ []) (0xC1 ∷ 0xEA ∷ 0x8F ∷ []) [] refl
      (ap (λ (u : LinkState). answered messages u (Right (0x81 ∷ []))) together.0) (inl (refl, refl)) refl whole (refl, refl) (begun_few bytes (0xC1 ∷ 0xEA ∷ 0x8F ∷ []) together.1 (omega arith))
  step unit Diagnostic end bytes out open_ whole together =
      step_by unit states.Diagnostic (record { stage = Diagnostic; end = end; bytes = bytes }) (at_stage end Upload) out (0x10 ∷ 0x81 ∷ []) (0x50 ∷ 0x81 ∷ []) [] refl
      (ap (λ (u : LinkState). answered messages u (Right (0x10 ∷ 0x81 ∷ []))) together.0) (inl (refl, refl)) refl whole (refl, refl) (begun_few bytes (0x50 ∷ 0x81 ∷ []) together.1 (omega arith))
  step unit Upload end bytes out open_ whole together =
      step_by unit states.Upload (record { stage = Upload; end = end; bytes = bytes }) (at_stage end (Asked AskOverview)) out UPLOAD_REQUEST (0x75 ∷ 0x00 ∷ 0xFF ∷ []) [] refl
      (ap (λ (u : LinkState). answered messages u (Right UPLOAD_REQUEST)) together.0) (inl (refl, refl)) refl whole (refl, tt, refl) (begun_few bytes (0x75 ∷ 0x00 ∷ 0xFF ∷ []) together.1 (omega arith))
  step unit (Asked request) end bytes out open_ whole together =
      subst (λ (b : List ℕ). Step (talk_of unit (record { stage = Asked request; end = end; bytes = b }) out)) (sym together.2)
      (request_step unit request end out (message_of x request) together.0 together.1 refl whole)
  step unit (Acknowledged request counter) end bytes out open_ whole together =
      subst (λ (c : ℕ). Step (talk_of unit (record { stage = Acknowledged request c; end = end; bytes = bytes }) out)) (sym together.counted)
      (subst (λ (u : LinkState). Step (talk_of u (record { stage = Acknowledged request (together.n + 1); end = end; bytes = bytes }) out)) (sym together.sends)
      (subst (λ (b : List ℕ). Step (talk_of (states.Sending request together.n) (record { stage = Acknowledged request (together.n + 1); end = end; bytes = b }) out)) (sym together.joined)
      (piece_step request end out together.n together.m together.asked together.is together.more whole)))
  step unit Exit end bytes out open_ whole together =
      step_by unit states.Diagnostic (record { stage = Exit; end = end; bytes = bytes }) (at_stage end Stop) out (0x37 ∷ []) (0x77 ∷ []) [] refl (exit_answered messages unit together.0) (inl (refl, refl)) refl whole (refl, refl)
      (begun_few bytes (0x77 ∷ []) together.1 (omega arith))
  step unit Stop end bytes out open_ whole together =
      step_by unit states.Idle (record { stage = Stop; end = end; bytes = bytes }) (at_stage end Finished) out (0x82 ∷ []) (0xC2 ∷ []) [] refl
      (ap (λ (u : LinkState). answered messages u (Right (0x82 ∷ []))) together.0) (inl (refl, refl)) refl whole tt (begun_few bytes (0xC2 ∷ []) together.1 (omega arith))
  step unit Finished end bytes out open_ whole together = absurd (open_ refl)

  next_step : (talk : Talk) → talk.loader.stage ≢ Finished → Agree talk → Step talk
  next_step talk open_ agree = step talk.unit talk.loader.stage talk.loader.end talk.loader.bytes talk.out open_ agree.whole agree.stands

  -- who sends is not finished
  not_over : (old : Talk) (frame : List ℕ) (new : Talk) → Exchanges messages old frame new → old.loader.stage ≢ Finished
  not_over old frame new exchange = λ e. let sends = exchange.sends in let over : sent_at old.loader.stage ≡ None = ap sent_at e in absurd (cc)

  one_sent : (a b : List ℕ) → Some a ≡ Some b → a ≡ b
  one_sent a b e = cc

  -- the unit answers as it is known
  one_reply : (old : Talk) (frame : List ℕ) (new : Talk) (s : Step old) → Exchanges messages old frame new → answers frame new.unit ≡ answers s.frame s.new.unit
  one_reply old frame new s exchange =
      let sent : s.exchange.sent ≡ exchange.sent = one_sent s.exchange.sent exchange.sent (sym s.exchange.sends ∙ exchange.sends) in
      sym exchange.answers ∙ ap (λ (l : List ℕ). answered messages old.unit (Right l)) (sym sent) ∙ s.exchange.answers

  one_frame : (old : Talk) (frame : List ℕ) (new : Talk) (s : Step old) → Exchanges messages old frame new → frame ≡ s.frame
  one_frame old frame new s exchange = one_sent frame s.frame (ap (λ (r : Reply). r.answer) (one_reply old frame new s exchange))

  -- an exchange is the one that is known
  agree_next : (old : Talk) (frame : List ℕ) (new : Talk) → Agree old → Exchanges messages old frame new → Agree new
  agree_next old frame new agree exchange =
      let s = next_step old (not_over old frame new exchange) agree in
      let replies = one_reply old frame new s exchange in
      let frames = one_frame old frame new s exchange in
      let taken = taken_in_one_way old.loader new.loader s.new.loader frame exchange.put s.exchange.put exchange.takes (subst (λ (f : List ℕ). Takes old.loader f s.new.loader s.exchange.put) (sym frames) s.exchange.takes) in
      let outs : new.out ≡ s.new.out = exchange.puts ∙ ap (λ (l : List ℕ). old.out ++ l) taken.1 ∙ sym s.exchange.puts in
      subst (λ (u : LinkState). Agree (talk_of u new.loader new.out)) (sym (ap (λ (r : Reply). r.state) replies))
      (subst (λ (l : Loading). Agree (talk_of s.new.unit l new.out)) (sym taken.0)
      (subst (λ (l : List ℕ). Agree (talk_of s.new.unit s.new.loader l)) (sym outs) s.agrees))

  agree_all : (frames : List (List ℕ)) (old new : Talk) → Agree old → Talks messages frames old new → Agree new
  agree_all [] old new agree talks = subst Agree (sym talks) agree
  agree_all (frame ∷ frames) old new agree talks = agree_all frames talks.0 new (agree_next old frame talks.0 agree talks.1) talks.2

  begins_right : Agree fresh_talk
  begins_right = record { whole = refl; stands = (refl, refl) }

  reached : (frames : List (List ℕ)) (talk : Talk) → Talks messages frames fresh_talk talk → Agree talk
  reached frames talk talks = agree_all frames fresh_talk talk begins_right talks

  pub whole_file : (frames : List (List ℕ)) (talk : Talk) → Talks messages frames fresh_talk talk → talk.loader.stage ≡ Finished → talk.out ≡ unit_file x
  whole_file frames talk talks finished =
      let agree = reached frames talk talks in
      sym (append-nil talk.out) ∙ ap (λ (s : Stage). talk.out ++ left x s) (sym finished) ∙ agree.whole

  pub front_of_file : (frames : List (List ℕ)) (talk : Talk) → Talks messages frames fresh_talk talk → (rest : List ℕ) × (talk.out ++ rest ≡ unit_file x)
  front_of_file frames talk talks = let agree = reached frames talk talks in (left x talk.loader.stage, agree.whole)

  pub talk_goes_on : (frames : List (List ℕ)) (talk : Talk) → Talks messages frames fresh_talk talk → talk.loader.stage ≢ Finished → (frame : List ℕ) × (new : Talk) × Exchanges messages talk frame new
  talk_goes_on frames talk talks open_ = let s = next_step talk open_ (reached frames talk talks) in (s.frame, s.new, s.exchange)

  pub talk_has_room : (frames : List (List ℕ)) (talk : Talk) (frame : List ℕ) (new : Talk) → Talks messages frames fresh_talk talk → Exchanges messages talk frame new → length (with_piece talk.loader.bytes frame) ≤ 277236
  talk_has_room frames talk frame new talks exchange =
      let s = next_step talk (not_over talk frame new exchange) (reached frames talk talks) in
      subst (λ (f : List ℕ). length (with_piece talk.loader.bytes f) ≤ 277236) (sym (one_frame talk frame new s exchange)) s.room
