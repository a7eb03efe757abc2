-- What a noisy link gives of a unit that tells its image.
use Rattle.std.proofs.Common.{◌≡◌, ◌≢◌, ◌∙◌, ℕ, suc, ◌+◌, Bool, true, false, List, [], ◌∷◌, ◌++◌, length, take, map, Option, Some, None, refl, sym, ap, subst, inl, inr, arith, append_assoc}
use Rattle.std.specs.Prelude.{◌⊎◌, ◌==◌, ◌&&◌, slice_get, nat_lt, if◌then◌else◌}
use Rattle.std.proofs.lemmas.Bool.Decides.{nat_tests}
use Rattle.std.specs.List.{AllByRecursion}
use Rattle.std.proofs.lemmas.List.Elements.{recursion_from_All}
use Rattle.card_layout.specs.Fields.{joined}
use Rattle.link_model.specs.Frames.{Right}
use Rattle.link_model.specs.Answers.{Idle, LinkState, Reply, answered}
use Rattle.message_model.specs.Messages.{Message, IsMessage, message_bytes}
use Rattle.message_model.specs.Sending.{content_sent, messages_of, unit_file}
use Rattle.message_model.proofs.Reading.{one_way}
use Rattle.link_session.specs.Told.{SessionView, fresh}
use Rattle.link_loader.specs.declared.stage.Stage.TheVariants.{Finished}
use Rattle.link_loader.specs.Stages.{sent_at}
use Rattle.link_loader.specs.declared.fault.LoadFault.{LoadFault}
use Rattle.link_loader.specs.Loading.{Loading, Load, begun, Takes, IsRefused}
use Rattle.link_loader.specs.Talking.{fresh_talk, Talks as FrameTalks, IsUnitImage}
use Rattle.link_loader.proofs.Downloading.{whole_file, front_of_file, talk_goes_on}
use Rattle.link_loader.proofs.ImageMessages.{can_be_loaded, file_good}
use Rattle.unit_download.specs.Wires.{talk_of}
use Rattle.unit_download.specs.Ending.{IsOfFrame}
use Rattle.unit_download.proofs.Linked.{answers_in, talks}
use Rattle.unit_download.proofs.Refused.{taken_not_refused}
use Rattle.noisy_model.specs.declared.packet.Packet.{Packet}
use Rattle.noisy_model.specs.declared.event.Event.{Event}
use Rattle.noisy_model.specs.Ends.{Taken, New, Again, Passed, arrival_by, brought}
use Rattle.noisy_model.specs.Worlds.{World, Passes, Talks, Waits, HasAnswered}
use Rattle.noisy_model.proofs.Lists.{each_at}
use Rattle.noisy_model.proofs.Arriving.{IsRequest, brought_is}
use Rattle.noisy_model.proofs.Leading.{IsSent, IsGiven, Holds, holds, is_it}
use Rattle.noisy_link.specs.Sides.{asked, download_sides, fresh_download, puts_of, one_if_any, messages_out}
use Rattle.noisy_link.proofs.Talking.{from_fresh}

-- a new request has a frame, and the number behind the last one
pub new_is : (last number : ℕ) (o : Option (List ℕ)) (request : List ℕ) → arrival_by last number o ≡ New request → (o ≡ Some request) × (number ≡ last + 1)
new_is last number None request is = absurd (cc)
new_is last number (Some frame) request is = by (number == last + 1) refl (number == last && nat_lt 0 last) is
  where
    same : (m n : ℕ) → (m == n) ≡ true → m ≡ n
    same m n e = grind (arith, nat_tests)

    by : (b : Bool) → (number == last + 1) ≡ b → (c : Bool) → (if b then New frame else if c then Again else Passed) ≡ New request → (Some frame ≡ Some request) × (number ≡ last + 1)
    by true test c new = let one : frame ≡ request = cc in (ap Some one, same number (last + 1) test)
    by false test true new = absurd (cc)
    by false test false new = absurd (cc)

-- Whole messages, one behind the other, at the front of others: they are the first ones.
first_ones : (ms all : List Message) (rest : List ℕ) → AllByRecursion IsMessage ms → AllByRecursion IsMessage all → joined (map message_bytes ms) ++ rest ≡ joined (map message_bytes all) → ms ≡ take (length ms) all
first_ones [] all rest each every is = refl
first_ones (m ∷ ms) [] rest each every is = absurd (cc)
first_ones (m ∷ ms) (a ∷ all) rest each every is =
    let both = one_way m a (joined (map message_bytes ms) ++ rest) (joined (map message_bytes all)) each.0 every.0 (sym (append_assoc (message_bytes m) (joined (map message_bytes ms)) rest) ∙ is) in
    ap (λ (n : Message). n ∷ ms) both.0 ∙ ap (λ (l : List Message). a ∷ l) (first_ones ms all rest each.1 every.1 both.1)

-- what was put out is whole messages, so many
record ArePut (took : List Taken) : Type 0 where
  messages : List Message
  each : AllByRecursion IsMessage messages
  put : puts_of took ≡ joined (map message_bytes messages)
  count : messages_out took ≡ length messages

are_put : (image : Option (List ℕ)) (u : SessionView) (l : Load) (took : List Taken) (v : SessionView) (m : Load) → Talks (download_sides image) u l took v m → ArePut took
are_put image u l [] v m t = record { messages = []; each = tt; put = refl; count = refl }
are_put image u l (t ∷ took) v m is = by is.5 (are_put image is.1 is.2 took v m is.6)
  where
    one_more : (m : Message) (n k : ℕ) → n ≡ k → one_if_any (message_bytes m) + n ≡ suc k
    one_more m n k same = omega arith

    by : Takes l.loading t.frame is.2.loading t.put → ArePut took → ArePut (t ∷ took)
    by (inl on) next = record {
      messages = next.messages;
      each = next.each;
      put = ap (λ (p : List ℕ). p ++ puts_of took) on.1 ∙ next.put;
      count = ap (λ (p : List ℕ). one_if_any p + messages_out took) on.1 ∙ (let none : 0 + messages_out took ≡ messages_out took = omega arith in none) ∙ next.count;
    }
    by (inr put) next = record {
      messages = put.0 ∷ next.messages;
      each = (put.1.answer.is_message, next.each);
      put = ap (λ (p : List ℕ). p ++ puts_of took) put.3 ∙ ap (λ (p : List ℕ). message_bytes put.0 ++ p) next.put;
      count = ap (λ (p : List ℕ). one_if_any p + messages_out took) put.3 ∙ one_more put.0 (messages_out took) (length next.messages) next.count;
    }

module _ (x : List ℕ) (image : IsUnitImage x) (load : Load) (begins : load.loading ≡ begun) where
  -- a talk of frames, as the downloader's laws know it
  frames_talk : (took : List Taken) (v : SessionView) (m : Load) → Talks (download_sides (Some x)) (fresh Idle) load took v m → (frames : List (List ℕ)) × FrameTalks (content_sent x) frames fresh_talk (talk_of v.state m.loading (puts_of took))
  frames_talk took v m is = let run = from_fresh (Some x) load took v m begins is in (answers_in run.wire, talks x run.wire fresh_talk (talk_of v.state m.loading (puts_of took)) run.runs)

  whole_talk : (took : List Taken) (v : SessionView) (m : Load) → Talks (download_sides (Some x)) (fresh Idle) load took v m → m.loading.stage ≡ Finished → puts_of took ≡ unit_file x
  whole_talk took v m is over = let t = frames_talk took v m is in whole_file x (can_be_loaded x image) t.0 (talk_of v.state m.loading (puts_of took)) t.1 over

  first_talk : (took : List Taken) (v : SessionView) (m : Load) → Talks (download_sides (Some x)) (fresh Idle) load took v m → puts_of took ≡ joined (map message_bytes (take (messages_out took) (messages_of x)))
  first_talk took v m is =
      let t = frames_talk took v m is in
      let front = front_of_file x (can_be_loaded x image) t.0 (talk_of v.state m.loading (puts_of took)) t.1 in
      let put = are_put (Some x) (fresh Idle) load took v m is in
      let good = file_good x image in
      let same = first_ones put.messages (messages_of x) front.0 put.each (recursion_from_All IsMessage (messages_of x) good.each) (ap (λ (l : List ℕ). l ++ front.0) (sym put.put) ∙ front.1 ∙ good.spelled) in
      put.put ∙ ap (λ (ms : List Message). joined (map message_bytes ms)) same ∙ ap (λ (n : ℕ). joined (map message_bytes (take n (messages_of x)))) (sym put.count)

  -- the unit answers what is asked there, and the loader takes it
  record Goes (mid : SessionView) (m : Load) (request : List ℕ) : Type 0 where
    frame : List ℕ
    next : LinkState
    new : Loading
    put : List ℕ
    answer : answered (content_sent x) mid.state (Right request) ≡ record { answer = Some frame; state = next }
    takes : Takes m.loading frame new put

  one_sent : (a b : List ℕ) → Some a ≡ Some b → a ≡ b
  one_sent a b e = cc

  not_over : (m : Load) (request : List ℕ) → asked m ≡ Some request → m.loading.stage ≢ Finished
  not_over m request asks = λ e. let none : sent_at m.loading.stage ≡ None = ap sent_at e in absurd (cc)

  goes : (took : List Taken) (mid : SessionView) (m : Load) (request : List ℕ) → Talks (download_sides (Some x)) (fresh Idle) load took mid m → asked m ≡ Some request → Goes mid m request
  goes took mid m request is asks =
      let t = frames_talk took mid m is in
      let s = talk_goes_on x (can_be_loaded x image) t.0 (talk_of mid.state m.loading (puts_of took)) t.1 (not_over m request asks) in
      let same : request ≡ s.2.sent = one_sent request s.2.sent (sym asks ∙ s.2.sends) in
      record {
        frame = s.0;
        next = s.1.unit;
        new = s.1.loader;
        put = s.2.put;
        answer = ap (λ (l : List ℕ). answered (content_sent x) mid.state (Right l)) same ∙ s.2.answers;
        takes = s.2.takes;
      }

  -- of any events
  module _ (events : List Event) (w : World SessionView Load) (took : List Taken) (passes : Passes (download_sides (Some x)) (fresh_download load) events w took) where
    here : Holds (download_sides (Some x)) (fresh Idle) load w took
    here = holds (download_sides (Some x)) (fresh Idle) load w took events passes

    pub first_messages : puts_of took ≡ joined (map message_bytes (take (messages_out took) (messages_of x)))
    first_messages = first_talk took here.talk.mid w.loader.side here.talk.talks

    pub whole_file_out : w.loader.side.loading.stage ≡ Finished → puts_of took ≡ unit_file x
    whole_file_out over = whole_talk took here.talk.mid w.loader.side here.talk.talks over

    -- what is brought is taken
    pub is_taken : (place : ℕ) (p : Packet) (frame : List ℕ) → slice_get w.answers place ≡ Some p → brought asked w.loader p ≡ Some frame → (new : Loading) × (put : List ℕ) × Takes w.loader.side.loading frame new put
    is_taken place p frame is brings =
        let b = brought_is asked w.loader p frame brings in
        let it = is_it (download_sides (Some x)) (fresh Idle) load w w took here p (each_at (IsGiven (download_sides (Some x)) w.unit) w.answers place p here.given is) frame b.0 b.1 in
        let g = goes took here.talk.mid w.loader.side it.request here.talk.talks it.asked in
        let reply : record { answer = Some frame; state = w.unit.side.state } ≡ record { answer = Some g.frame; state = g.next } = it.answered.replies ∙ g.answer in
        let same : frame ≡ g.frame = one_sent frame g.frame (ap (λ (r : Reply). r.answer) reply) in
        (g.new, g.put, subst (λ (f : List ℕ). Takes w.loader.side.loading f g.new g.put) (sym same) g.takes)

    -- so it is never refused
    pub never_refused : (place : ℕ) (p : Packet) (frame : List ℕ) (fault : LoadFault) → slice_get w.answers place ≡ Some p → brought asked w.loader p ≡ Some frame → IsOfFrame fault → IsRefused w.loader.side.loading frame fault → ⊥
    never_refused place p frame fault is brings of refused = let t = is_taken place p frame is brings in taken_not_refused w.loader.side.loading frame t.0 t.1 fault of t.2 refused

    -- a new request is the one that is asked
    wanted : (p : Packet) → IsSent (download_sides (Some x)) w.loader p → p.number ≡ w.unit.last + 1 → Waits here.talk.mid w.loader.number w.unit × IsRequest asked w.loader p
    wanted p sent number = by here.talk.unit sent
      where
        by : Waits here.talk.mid w.loader.number w.unit ⊎ HasAnswered (download_sides (Some x)) here.talk.mid w.loader.side w.loader.number w.unit → IsSent (download_sides (Some x)) w.loader p → Waits here.talk.mid w.loader.number w.unit × IsRequest asked w.loader p
        by (inl waits) (inl low) = let last = waits.last in absurd (omega arith)
        by (inl waits) (inr r) = (waits, r)
        by (inr a) (inl low) = let last = a.last in absurd (omega arith)
        by (inr a) (inr r) = let last = a.last in let equal = r.number in absurd (omega arith)

    -- and gets an answer
    pub is_answered : (place : ℕ) (p : Packet) (request : List ℕ) → slice_get w.sent place ≡ Some p → arrival_by w.unit.last p.number p.frame ≡ New request
        → (frame : List ℕ) × (next : LinkState) × (answered (content_sent x) w.unit.side.state (Right request) ≡ record { answer = Some frame; state = next })
    is_answered place p request is new =
        let n = new_is w.unit.last p.number p.frame request new in
        let both = wanted p (each_at (IsSent (download_sides (Some x)) w.loader) w.sent place p here.sent is) n.1 in
        let g = goes took here.talk.mid w.loader.side request here.talk.talks (sym both.1.frame ∙ n.0) in
        (g.frame, g.next, ap (λ (u : SessionView). answered (content_sent x) u.state (Right request)) both.0.side ∙ g.answer)
