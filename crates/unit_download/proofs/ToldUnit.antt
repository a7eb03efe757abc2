-- A download of a unit that tells its image.
use Rattle.std.proofs.Common.{◌≡◌, ◌≢◌, ◌∙◌, ℕ, ◌≤◌, ◌<◌, List, [], ◌∷◌, ◌++◌, length, Option, Some, None, IfSome, refl, ap, sym, subst, inl, inr, arith}
use Rattle.std.specs.Prelude.{◌⊎◌}
use Rattle.std.specs.Io.KnownBytes.{Appends, Keeps}
use Rattle.tach_media.specs.Streams.{AppendsFront}
use Rattle.card_layout.specs.Fields.{IsBytes}
use Rattle.unit_model.specs.declared.layout.TheConstants.{IMAGE_SIZE}
use Rattle.unit_messages.specs.declared.joining.TheConstants.{LONGEST}
use Rattle.link_model.specs.Frames.{Right}
use Rattle.link_model.specs.Answers.{LinkState, Reply, answers, answered}
use Rattle.message_model.specs.Messages.{Message, message_bytes}
use Rattle.message_model.specs.Sending.{content_sent, unit_file}
use Rattle.unit_model.specs.Decoding.{Decodes}
use Rattle.link_loader.specs.declared.stage.Stage.{Stage}
use Rattle.link_loader.specs.declared.stage.Stage.TheVariants.{Finished}
use Rattle.link_loader.specs.Stages.{sent_at}
use Rattle.link_loader.specs.Loading.{Loading, Takes, Finishes, after_message, with_piece}
use Rattle.link_loader.specs.Talking.{Talk, fresh_talk, Exchanges, CanBeLoaded}
use Rattle.link_loader.specs.declared.kind.Kind.TheVariants.{Piece}
use Rattle.link_loader.specs.Coming.{kind_of}
use Rattle.link_model.specs.declared.request.Request.{Request}
use Rattle.link_loader.proofs.Downloading.{whole_file, front_of_file, talk_goes_on, talk_has_room}
use Rattle.link_loader.proofs.ImageMessages.{can_be_loaded}
use Rattle.unit_download.specs.declared.wire.Passed.{Passed}
use Rattle.unit_download.specs.declared.fault.DownloadFault.{DownloadFault}
use Rattle.unit_download.specs.declared.fault.DownloadFault.TheVariants.{Failed, BadUnit, Changed, WriteFault, Memory}
use Rattle.unit_download.specs.Wires.{of_loader, of_unit, talk_of, Replies, Exchanged, Runs}
use Rattle.unit_download.specs.Ending.{IsUnanswered, IsUntaken, Answers, StopsAt}
use Rattle.unit_download.proofs.Linked.{runs_on, answers_in, talks}
use Rattle.unit_download.proofs.Refused.{going_finishes_none, taken_not_refused}
use Rattle.unit_download.proofs.Opening.{Opens, Begins, nothing_out, not_finished, opened}
use Rattle.unit_download.proofs.Fronts.{Appends-kept, front_of, front_cut}

one_sent : (a b : List ℕ) → Some a ≡ Some b → a ≡ b
one_sent a b e = cc

-- who sends is not finished
sends_on : (stage : Stage) (sent : List ℕ) → sent_at stage ≡ Some sent → stage ≢ Finished
sends_on stage sent sends = λ e. let over : sent_at stage ≡ None = ap sent_at e in absurd (cc)

module _ (x : List ℕ) (wire : List Passed) (talk : Talk) (runs : Runs (Some x) wire fresh_talk talk) (sized : length x ≡ IMAGE_SIZE) (bytes : IsBytes x) where
  can : Decodes x → CanBeLoaded x
  can decodes = can_be_loaded x (record { sized = sized; bytes = bytes; decodes = decodes })

  -- the unit answers, and the loader takes the answer
  record Goes (reply : Reply) : Type 0 where
    frame : List ℕ
    next : LinkState
    loader : Loading
    put : List ℕ
    reply_is : reply ≡ answers frame next
    takes : Takes talk.loader frame loader put

  goes : (sent : List ℕ) (reply : Reply) → (Decodes x ⊎ Opens talk) → sent_at talk.loader.stage ≡ Some sent → Replies (Some x) talk.unit sent reply → Goes reply
  goes sent reply (inl decodes) sends replies =
      let s = talk_goes_on x (can decodes) (answers_in wire) talk (talks x wire fresh_talk talk runs) (sends_on talk.loader.stage sent sends) in
      let same : sent ≡ s.2.sent = one_sent sent s.2.sent (sym sends ∙ s.2.sends) in
      record {
        frame = s.0;
        next = s.1.unit;
        loader = s.1.loader;
        put = s.2.put;
        reply_is = replies ∙ ap (λ (l : List ℕ). answered (content_sent x) talk.unit (Right l)) same ∙ s.2.answers;
        takes = s.2.takes;
      }
  goes sent reply (inr opens) sends replies =
      let o = opened (Some x) sent reply talk opens sends replies in
      record { frame = o.frame; next = o.next; loader = o.loader; put = []; reply_is = o.reply_is; takes = inl (o.goes, refl) }

  -- there is an answer
  no_silence : (sent : List ℕ) (after : LinkState) → (Decodes x ⊎ Opens talk) → sent_at talk.loader.stage ≡ Some sent → Replies (Some x) talk.unit sent (record { answer = None; state = after }) → ⊥
  no_silence sent after known sends replies =
      let g = goes sent (record { answer = None; state = after }) known sends replies in
      let none : None ≡ Some g.frame = ap (λ (r : Reply). r.answer) g.reply_is in absurd (cc)

  -- which is taken
  answer_taken : (sent frame : List ℕ) (after : LinkState) → (Decodes x ⊎ Opens talk) → sent_at talk.loader.stage ≡ Some sent → Replies (Some x) talk.unit sent (record { answer = Some frame; state = after })
      → (loader : Loading) × (put : List ℕ) × Takes talk.loader frame loader put
  answer_taken sent frame after known sends replies =
      let g = goes sent (record { answer = Some frame; state = after }) known sends replies in
      let same : frame ≡ g.frame = one_sent frame g.frame (ap (λ (r : Reply). r.answer) g.reply_is) in
      (g.loader, g.put, subst (λ (f : List ℕ). Takes talk.loader f g.loader g.put) (sym same) g.takes)

  not_changed : {behind : List Passed} {held sunk : Option (List ℕ)} → (Decodes x ⊎ Opens talk) → StopsAt (Some x) Changed talk behind held sunk → ⊥
  not_changed {behind} {held} {sunk} known stops = by stops.stops
    where
      by : (IsUnanswered (Some x) Changed talk.unit stops.sent behind × Keeps held sunk) ⊎ Answers (Some x) Changed talk stops.sent behind held sunk → ⊥
      by (inl silent) = no_silence stops.sent silent.0.1.0 known stops.sends silent.0.1.1
      by (inr answer) =
          let taken = answer_taken stops.sent answer.frame answer.after known stops.sends answer.answers in
          let refused = answer.untaken.0 in
          taken_not_refused talk.loader answer.frame taken.0 taken.1 refused.0 refused.1 taken.2 refused.2

  -- what is out is a front of the file
  front : (Decodes x ⊎ Begins talk) → (rest : List ℕ) × (talk.out ++ rest ≡ unit_file x)
  front (inl decodes) = front_of_file x (can decodes) (answers_in wire) talk (talks x wire fresh_talk talk runs)
  front (inr begins) = (unit_file x, ap (λ (l : List ℕ). l ++ unit_file x) (nothing_out talk begins))

  whole : Decodes x → talk.loader.stage ≡ Finished → talk.out ≡ unit_file x
  whole decodes over = whole_file x (can decodes) (answers_in wire) talk (talks x wire fresh_talk talk runs) over

  -- with the message that is finished next
  front_next : (sent frame : List ℕ) (after : LinkState) (m : Message) → (Decodes x ⊎ Opens talk) → sent_at talk.loader.stage ≡ Some sent → Replies (Some x) talk.unit sent (record { answer = Some frame; state = after })
      → Finishes talk.loader frame m → (rest : List ℕ) × ((talk.out ++ message_bytes m) ++ rest ≡ unit_file x)
  front_next sent frame after m (inl decodes) sends replies fin =
      let new : Talk = talk_of after (after_message talk.loader m) (talk.out ++ message_bytes m) in
      let exchange : Exchanged (Some x) talk (of_loader sent) (of_unit frame) new =
      record { by_loader = refl; sends = sends; by_unit = refl; answers = replies; put = message_bytes m; takes = inr (m, fin, refl, refl); puts = refl } in
      let more = wire ++ of_loader sent ∷ of_unit frame ∷ [] in
      front_of_file x (can decodes) (answers_in more) new (talks x more fresh_talk new (runs_on (Some x) wire fresh_talk talk (of_loader sent) (of_unit frame) new runs exchange))
  front_next sent frame after m (inr opens) sends replies fin =
      let o = opened (Some x) sent (record { answer = Some frame; state = after }) talk opens sends replies in
      let same : o.frame ≡ frame = sym (one_sent frame o.frame (ap (λ (r : Reply). r.answer) o.reply_is)) in
      absurd (going_finishes_none talk.loader o.frame o.loader m o.goes (subst (λ (f : List ℕ). Finishes talk.loader f m) (sym same) fin))

  -- an answer that is a piece is not too long
  not_long : (sent frame : List ℕ) (after : LinkState) → (Decodes x ⊎ Opens talk) → sent_at talk.loader.stage ≡ Some sent → Replies (Some x) talk.unit sent (record { answer = Some frame; state = after })
      → {request : Request} → kind_of talk.loader.stage frame ≡ Piece request → LONGEST < length (with_piece talk.loader.bytes frame) → ⊥
  not_long sent frame after (inl decodes) sends replies {request} is long =
      let t = answer_taken sent frame after (inl decodes) sends replies in
      let new : Talk = talk_of after t.0 (talk.out ++ t.1) in
      let exchange : Exchanges (content_sent x) talk frame new =
      record { sent = sent; sends = sends; answers = sym replies; put = t.1; takes = t.2; puts = refl } in
      let room : length (with_piece talk.loader.bytes frame) ≤ LONGEST = talk_has_room x (can decodes) (answers_in wire) talk frame new (talks x wire fresh_talk talk runs) exchange in
      omega (arith, room, long)
  not_long sent frame after (inr opens) sends replies {request} is long =
      let o = opened (Some x) sent (record { answer = Some frame; state = after }) talk opens sends replies in
      let same : frame ≡ o.frame = one_sent frame o.frame (ap (λ (r : Reply). r.answer) o.reply_is) in
      let piece : kind_of talk.loader.stage o.frame ≡ Piece request = subst (λ (f : List ℕ). kind_of talk.loader.stage f ≡ Piece request) same is in
      let agreed = o.agreed in absurd (cc)

-- The same of a unit that may tell its image.
abbrev pub Sized : Option (List ℕ) → Type 0
Sized o = (x : List ℕ) → o ≡ Some x → length x ≡ IMAGE_SIZE

-- only a unit that tells none of bytes gives no answer, or one that the loader refuses
pub untold : (o : Option (List ℕ)) (wire : List Passed) (talk : Talk) {behind : List Passed} {held sunk : Option (List ℕ)} → Sized o → Runs o wire fresh_talk talk → (IfSome o Decodes ⊎ Opens talk) → StopsAt o Changed talk behind held sunk
    → IfSome o (λ x. IsBytes x → ⊥)
untold None wire talk {behind} {held} {sunk} sized runs known stops = tt
untold (Some x) wire talk {behind} {held} {sunk} sized runs known stops = λ bytes. not_changed x wire talk runs (sized x refl) bytes {behind = behind} {held = held} {sunk = sunk} known stops

-- the whole file
pub whole_told : (o : Option (List ℕ)) (wire : List Passed) (talk : Talk) (held sunk : Option (List ℕ)) → Sized o → Runs o wire fresh_talk talk → (IfSome o Decodes ⊎ Begins talk) → talk.loader.stage ≡ Finished → Appends held sunk talk.out
    → IfSome o (λ x. Decodes x × (IsBytes x → Appends held sunk (unit_file x)))
whole_told None wire talk held sunk sized runs known over put = tt
whole_told (Some x) wire talk held sunk sized runs (inl decodes) over put = (decodes, λ bytes. subst (λ (l : List ℕ). Appends held sunk l) (whole x wire talk runs (sized x refl) bytes decodes over) put)
whole_told (Some x) wire talk held sunk sized runs (inr begins) over put = absurd (not_finished talk begins over)

-- a front of it where no answer came
pub front_told : (o : Option (List ℕ)) (wire : List Passed) (talk : Talk) (held sunk : Option (List ℕ)) → Sized o → Runs o wire fresh_talk talk → (IfSome o Decodes ⊎ Begins talk) → Appends held sunk talk.out
    → IfSome o (λ x. IsBytes x → AppendsFront held sunk (unit_file x))
front_told None wire talk held sunk sized runs known put = tt
front_told (Some x) wire talk held sunk sized runs known put = λ bytes. let f = front x wire talk runs (sized x refl) bytes known in front_of held sunk talk.out f.0 (unit_file x) put f.1

-- and where an answer was not taken
pub front_untaken : (o : Option (List ℕ)) (wire : List Passed) (talk : Talk) (held mid sunk : Option (List ℕ)) (sent frame : List ℕ) (after : LinkState) (fault : DownloadFault) → Sized o → Runs o wire fresh_talk talk
    → (IfSome o Decodes ⊎ Begins talk) → (IfSome o Decodes ⊎ Opens talk) → sent_at talk.loader.stage ≡ Some sent → Replies o talk.unit sent (record { answer = Some frame; state = after })
    → Appends held mid talk.out → IsUntaken fault talk.loader frame mid sunk → IfSome o (λ x. IsBytes x → AppendsFront held sunk (unit_file x))
front_untaken None wire talk held mid sunk sent frame after fault sized runs known opens sends replies put untaken = tt
front_untaken (Some x) wire talk held mid sunk sent frame after fault sized runs known opens sends replies put untaken = λ bytes. by bytes fault untaken
  where
    by : IsBytes x → (fault : DownloadFault) → IsUntaken fault talk.loader frame mid sunk → AppendsFront held sunk (unit_file x)
    by bytes Failed not = absurd not
    by bytes (BadUnit place) not = absurd not
    by bytes Changed not = let f = front x wire talk runs (sized x refl) bytes known in front_of held sunk talk.out f.0 (unit_file x) (Appends-kept held mid sunk talk.out put not.1) f.1
    by bytes WriteFault not = let f = front_next x wire talk runs (sized x refl) bytes sent frame after not.0 opens sends replies not.1 in front_cut held mid sunk talk.out (message_bytes not.0) f.0 (unit_file x) put not.2 f.1
    by bytes Memory not = let f = front x wire talk runs (sized x refl) bytes known in front_of held sunk talk.out f.0 (unit_file x) (Appends-kept held mid sunk talk.out put not.2) f.1

-- and a piece of a unit that tells its image has room
pub long_told : (o : Option (List ℕ)) (wire : List Passed) (talk : Talk) (held sunk : Option (List ℕ)) (sent frame : List ℕ) (after : LinkState) (fault : DownloadFault) → Sized o → Runs o wire fresh_talk talk
    → (IfSome o Decodes ⊎ Opens talk) → sent_at talk.loader.stage ≡ Some sent → Replies o talk.unit sent (record { answer = Some frame; state = after }) → IsUntaken fault talk.loader frame held sunk
    → fault ≡ Memory → IfSome o (λ x. IsBytes x → ⊥)
long_told None wire talk held sunk sent frame after fault sized runs opens sends replies untaken is = tt
long_told (Some x) wire talk held sunk sent frame after fault sized runs opens sends replies untaken is =
    λ bytes.
    let not : IsUntaken Memory talk.loader frame held sunk = subst (λ (f : DownloadFault). IsUntaken f talk.loader frame held sunk) is untaken in
    not_long x wire talk runs (sized x refl) bytes sent frame after opens sends replies {request = not.0.0} not.0.1 not.1
