-- A download, exchange after exchange.
use Rattle.std.proofs.Common.{◌≡◌, ◌∙◌, ℕ, ◌≤◌, true, false, List, [], ◌∷◌, ◌++◌, Option, Some, IfSome, Result, Ok, refl, ap, sym, subst, inl, inr, arith, append-nil}
use Rattle.std.specs.Prelude.{◌⊎◌, ◌||◌, IsErrAnd}
use Rattle.std.specs.Io.KnownBytes.{Appends}
use Rattle.std.proofs.KnownBytes.{Appends-nil, Appends-trans, Keeps-refl}
use Rattle.tach_media.specs.Medium.{State}
use Rattle.tach_media.specs.Streams.{AppendsFront}
use Rattle.card_layout.specs.Fields.{IsBytes}
use Rattle.unit_memory.proofs.Told.{carried, one_told, told_all}
use Rattle.unit_model.specs.Decoding.{Decodes}
use Rattle.unit_minutes.specs.Reading.{ReadsIfAny}
use Rattle.unit_minutes.proofs.IfAny.{read_same}
use Rattle.unit_messages.specs.declared.joining.TheConstants.{LONGEST}
use Rattle.unit_messages.proofs.Calls.{no_call, any_then}
use Rattle.link_model.specs.Frames.{Right}
use Rattle.link_model.specs.Answers.{LinkState, Idle, Reply}
use Rattle.message_model.specs.Sending.{unit_file}
use Rattle.link_frames.specs.Asking.{asks_unit}
use Rattle.link_session.specs.Told.{SessionView, Knows, is_judged, fresh}
use Rattle.link_loader.specs.declared.stage.Stage.TheVariants.{Finished}
use Rattle.link_loader.specs.Stages.{sent_at}
use Rattle.link_loader.specs.Loading.{Loading, Load, begun, Takes}
use Rattle.link_loader.specs.Talking.{Talk, fresh_talk}
use Rattle.unit_download.specs.declared.wire.Passed.{Passed}
use Rattle.unit_download.specs.declared.fault.DownloadFault.{DownloadFault}
use Rattle.unit_download.specs.declared.fault.DownloadFault.TheVariants.{Changed, Memory}
use Rattle.unit_download.specs.Wires.{of_loader, of_unit, talk_of, Replies, Exchanged, Runs}
use Rattle.unit_download.specs.Tapes.{HasFrames}
use Rattle.unit_download.specs.Ending.{IsUnanswered, IsUntaken, StopsAt, IsDownload, IsDownloaded}
use Rattle.unit_download.proofs.Linked.{runs_on}
use Rattle.unit_download.proofs.Opening.{Opens, Begins, begins_next, asks_there, judged_next}
use Rattle.unit_download.proofs.ToldUnit.{Sized, untold, whole_told, front_told, front_untaken, long_told}
use Rattle.unit_download.proofs.Faults.{err_is}

-- Exchanges have passed, and what they put out has gone to the sink; nothing was asked of the unit, or it was judged.
pub record IsTalking (loader : Load) (session : SessionView) (wire : List Passed) (old new : State) (held sunk : Option (List ℕ)) : Type 0 where
  pub out : List ℕ
  pub runs : Runs old.image wire fresh_talk (talk_of session.state loader.loading out)
  pub put : Appends held sunk out
  pub knows : IfSome old.image (Knows session)
  pub judged : (is_judged session ≡ true) ⊎ Begins (talk_of session.state loader.loading out)
  pub reads : ReadsIfAny old new false
  pub room : LONGEST ≤ loader.room
  pub sized : Sized old.image

-- The same where the frames go to a tape: these have passed, which it has where it tells them.
pub record IsUnderway (tape : Option (List Passed)) (loader : Load) (session : SessionView) (old new : State) (held sunk : Option (List ℕ)) : Type 0 where
  pub wire : List Passed
  pub has : HasFrames tape wire
  pub talking : IsTalking loader session wire old new held sunk

pub fresh_knows : (state : LinkState) (x : List ℕ) → Knows (fresh state) x
fresh_knows state x = record { decodes = λ is. absurd (cc); notes = tt; outlines = tt }

pub talking_none : (loader : Load) (session : SessionView) (wire : List Passed) (s : State) (held : Option (List ℕ)) → loader.loading ≡ begun → LONGEST ≤ loader.room → session ≡ fresh Idle → wire ≡ [] → Sized s.image
    → IsTalking loader session wire s s held held
talking_none loader session wire s held begins room is none sized =
    let begin : talk_of session.state loader.loading [] ≡ fresh_talk =
    ap (λ (v : SessionView). talk_of v.state loader.loading []) is ∙ ap (λ (l : Loading). talk_of Idle l []) begins in
    record {
      out = [];
      runs = subst (λ (w : List Passed). Runs s.image w fresh_talk (talk_of session.state loader.loading [])) (sym none) begin;
      put = Appends-nil held;
      knows = told_all s.image _ (λ x told. subst (λ (v : SessionView). Knows v x) (sym is) (fresh_knows Idle x));
      judged = inr (inl (inl begin));
      reads = no_call s;
      room = room;
      sized = sized;
    }

-- what the unit replies, said of the image at the beginning
replied_before : (old mid : State) (state : LinkState) (sent : List ℕ) (reply : Reply) → ReadsIfAny old mid false → Replies mid.image state sent reply → Replies old.image state sent reply
replied_before old mid state sent reply reads replies = subst (λ (o : Option (List ℕ)). Replies o state sent reply) (read_same reads) replies

-- whether a session that is judged tells that the image decodes
decoded : (o : Option (List ℕ)) (s : SessionView) → IfSome o (Knows s) → is_judged s ≡ true → IfSome o Decodes
decoded o s knows is = one_told o Decodes knows (λ x k. k.decodes is)

pub known_by : (o : Option (List ℕ)) (s : SessionView) (talk : Talk) → IfSome o (Knows s) → (is_judged s ≡ true) ⊎ Begins talk → IfSome o Decodes ⊎ Begins talk
known_by o s talk knows (inl is) = inl (decoded o s knows is)
known_by o s talk knows (inr begins) = inr begins

opens_by : (o : Option (List ℕ)) (s : SessionView) (talk : Talk) → IfSome o (Knows s) → (is_judged s ≡ true) ⊎ Opens talk → IfSome o Decodes ⊎ Opens talk
opens_by o s talk knows (inl is) = inl (decoded o s knows is)
opens_by o s talk knows (inr opens) = inr opens

-- An exchange more.
module _ {loader : Load} {session : SessionView} {wire : List Passed} {old mid : State} {held sunk : Option (List ℕ)} (s : IsTalking loader session wire old mid held sunk) (sent : List ℕ) (sends : sent_at loader.loading.stage ≡ Some sent) where
  abbrev here : Talk
  here = talk_of session.state loader.loading s.out

  -- the unit answered
  pub record IsAnswered (next : SessionView) (new : State) (frame : List ℕ) : Type 0 where
    pub answers : Replies mid.image session.state sent (record { answer = Some frame; state = next.state })
    pub knows : IfSome mid.image (Knows next)
    pub judged : is_judged next ≡ (is_judged session || asks_unit session.state (Right sent))
    pub reads : ReadsIfAny mid new false

  opens_next : (next : SessionView) (new : State) (frame : List ℕ) → IsAnswered next new frame → (is_judged next ≡ true) ⊎ Opens here
  opens_next next new frame a = judged_next (is_judged session) (is_judged next) here sent s.judged sends a.judged

  judged_on : (next : SessionView) (after : Talk) (frame : List ℕ) → (is_judged next ≡ true) ⊎ Opens here → Exchanged old.image here (of_loader sent) (of_unit frame) after → (is_judged next ≡ true) ⊎ Begins after
  judged_on next after frame (inl is) exchange = inl is
  judged_on next after frame (inr opens) exchange = inr (begins_next old.image here after (of_loader sent) (of_unit frame) opens exchange)

  pub talking_on : (more : Load) (next : SessionView) (grown : List Passed) (new : State) (filled : Option (List ℕ)) (frame : List ℕ) → IsAnswered next new frame → grown ≡ wire ++ of_loader sent ∷ of_unit frame ∷ []
      → (put : List ℕ) × Takes loader.loading frame more.loading put × Appends sunk filled put → loader.room ≤ more.room → IsTalking more next grown old new held filled
  talking_on more next grown new filled frame a grows taken room =
      let after : Talk = talk_of next.state more.loading (s.out ++ taken.0) in
      let exchange : Exchanged old.image here (of_loader sent) (of_unit frame) after =
      record {
        by_loader = refl;
        sends = sends;
        by_unit = refl;
        answers = replied_before old mid session.state sent (record { answer = Some frame; state = next.state }) s.reads a.answers;
        put = taken.0;
        takes = taken.1;
        puts = refl;
      } in
      let full = s.room in
      record {
        out = s.out ++ taken.0;
        runs = subst (λ (w : List Passed). Runs old.image w fresh_talk after) (sym grows) (runs_on old.image wire fresh_talk here (of_loader sent) (of_unit frame) after s.runs exchange);
        put = Appends-trans held sunk filled s.out taken.0 s.put taken.2;
        knows = carried (Knows next) (read_same s.reads) a.knows;
        judged = judged_on next after frame (opens_next next new frame a) exchange;
        reads = any_then s.reads a.reads;
        room = omega (arith, full, room);
        sized = s.sized;
      }

  -- No answer came.
  module _ (fault : DownloadFault) (behind : List Passed) (unanswered : IsUnanswered mid.image fault session.state sent behind) where
    unanswered_before : IsUnanswered old.image fault session.state sent behind
    unanswered_before = subst (λ (o : Option (List ℕ)). IsUnanswered o fault session.state sent behind) (read_same s.reads) unanswered

    stops_unanswered : StopsAt old.image fault here behind sunk sunk
    stops_unanswered = record { sent = sent; sends = sends; stops = inl (unanswered_before, Keeps-refl sunk) }

    pub unanswered_ends : {T : Type 0} (r : Result T DownloadFault) (grown : List Passed) → IsErrAnd r (λ v. v ≡ fault) → grown ≡ wire ++ behind → IsDownload r old.image grown held sunk
    unanswered_ends {T} r grown is grows =
        subst (λ (q : Result T DownloadFault). IsDownload q old.image grown held sunk) (sym (err_is r fault is))
        (record { exchanges = wire; behind = behind; wire_is = grows; talk = here; runs = s.runs; mid = sunk; put = s.put; ends = stops_unanswered })

    -- over a unit that tells its image, there is an answer
    pub unanswered_untold : (fault ≡ Changed → asks_unit session.state (Right sent) ≡ true → IfSome mid.image Decodes) → fault ≡ Changed → IfSome old.image (λ x. IsBytes x → ⊥)
    unanswered_untold found is =
        untold old.image wire here {behind = behind} {held = sunk} {sunk = sunk} s.sized s.runs (by s.judged)
        (subst (λ (f : DownloadFault). StopsAt old.image f here behind sunk sunk) is stops_unanswered)
      where
        by : (is_judged session ≡ true) ⊎ Begins here → IfSome old.image Decodes ⊎ Opens here
        by (inl was) = inl (decoded old.image session s.knows was)
        by (inr (inl opens)) = inr opens
        by (inr (inr at)) = inl (carried Decodes (read_same s.reads) (found is (asks_there here sent at sends)))

  pub unanswered_front : IfSome old.image (λ x. IsBytes x → AppendsFront held sunk (unit_file x))
  unanswered_front = front_told old.image wire here held sunk s.sized s.runs (known_by old.image session here s.knows s.judged) s.put

  -- The answer was not taken.
  module _ (fault : DownloadFault) (next : SessionView) (new : State) (filled : Option (List ℕ)) (frame : List ℕ) (a : IsAnswered next new frame) (untaken : IsUntaken fault loader.loading frame sunk filled) where
    answers_before : Replies old.image session.state sent (record { answer = Some frame; state = next.state })
    answers_before = replied_before old mid session.state sent (record { answer = Some frame; state = next.state }) s.reads a.answers

    opens_now : IfSome old.image Decodes ⊎ Opens here
    opens_now = opens_by old.image next here (carried (Knows next) (read_same s.reads) a.knows) (opens_next next new frame a)

    stops_untaken : StopsAt old.image fault here (of_loader sent ∷ of_unit frame ∷ []) sunk filled
    stops_untaken = record {
      sent = sent;
      sends = sends;
      stops = inr (record {
        frame = frame;
        after = next.state;
        answers = answers_before;
        behind_is = refl;
        untaken = untaken;
        long = long_told old.image wire here sunk filled sent frame next.state fault s.sized s.runs opens_now sends answers_before untaken;
      });
    }

    pub untaken_ends : {T : Type 0} (r : Result T DownloadFault) (grown : List Passed) → IsErrAnd r (λ v. v ≡ fault) → grown ≡ wire ++ of_loader sent ∷ of_unit frame ∷ [] → IsDownload r old.image grown held filled
    untaken_ends {T} r grown is grows =
        subst (λ (q : Result T DownloadFault). IsDownload q old.image grown held filled) (sym (err_is r fault is))
        (record { exchanges = wire; behind = of_loader sent ∷ of_unit frame ∷ []; wire_is = grows; talk = here; runs = s.runs; mid = sunk; put = s.put; ends = stops_untaken })

    pub untaken_untold : fault ≡ Changed → IfSome old.image (λ x. IsBytes x → ⊥)
    untaken_untold is =
        untold old.image wire here {behind = of_loader sent ∷ of_unit frame ∷ []} {held = sunk} {sunk = filled} s.sized s.runs opens_now
        (subst (λ (f : DownloadFault). StopsAt old.image f here (of_loader sent ∷ of_unit frame ∷ []) sunk filled) is stops_untaken)

    pub untaken_front : IfSome old.image (λ x. IsBytes x → AppendsFront held filled (unit_file x))
    untaken_front =
        front_untaken old.image wire here held sunk filled sent frame next.state fault s.sized s.runs (known_by old.image session here s.knows s.judged) opens_now sends answers_before s.put untaken

-- The download is finished.
pub talking_done : {T : Type 0} (done : T) {loader : Load} {session : SessionView} {wire : List Passed} {old mid : State} {held sunk : Option (List ℕ)} → IsTalking loader session wire old mid held sunk → loader.loading.stage ≡ Finished
    → IsDownload {T = T} (Ok done) old.image wire held sunk
talking_done {T} done {loader} {session} {wire} {old} {mid} {held} {sunk} s over =
    record { exchanges = wire; behind = []; wire_is = sym (append-nil wire); talk = talk_of session.state loader.loading s.out; runs = s.runs; mid = sunk; put = s.put; ends = (over, refl, Keeps-refl sunk) }

pub talking_file : {loader : Load} {session : SessionView} {wire : List Passed} {old mid : State} {held sunk : Option (List ℕ)} → IsTalking loader session wire old mid held sunk → loader.loading.stage ≡ Finished
    → IfSome old.image (λ x. Decodes x × (IsBytes x → Appends held sunk (unit_file x)))
talking_file {loader} {session} {wire} {old} {mid} {held} {sunk} s over =
    let talk : Talk = talk_of session.state loader.loading s.out in
    whole_told old.image wire talk held sunk s.sized s.runs (known_by old.image session talk s.knows s.judged) over s.put

-- Memory ran out before the first frame.
pub nothing_began : {T : Type 0} (r : Result T DownloadFault) (image held : Option (List ℕ)) (wire : List Passed) → IsErrAnd r (λ v. v ≡ Memory) → wire ≡ [] → IsDownload r image wire held held
nothing_began {T} r image held wire is none =
    subst (λ (q : Result T DownloadFault). IsDownload q image wire held held) (sym (err_is r Memory is))
    (record {
      exchanges = [];
      behind = [];
      wire_is = none;
      talk = fresh_talk;
      runs = refl;
      mid = held;
      put = Appends-nil held;
      ends = record { sent = 0x81 ∷ []; sends = refl; stops = inl (inl refl, Keeps-refl held) };
    })

-- A tape that tells its frames has those of the download.
pub told_download : (r : Result (Unit {0}) DownloadFault) (image : Option (List ℕ)) (wire passed : List Passed) (held sunk : Option (List ℕ)) → HasFrames (Some wire) passed → IsDownloaded r image passed held sunk → IsDownloaded r image wire held sunk
told_download r image wire passed held sunk has is = subst (λ (l : List Passed). IsDownloaded r image l held sunk) (sym has) is
