-- What is known of a download over a noisy link that is underway, and how it ends.
use Rattle.std.proofs.Common.{◌≡◌, ◌∙◌, ℕ, ◌+◌, ◌<◌, Bool, true, false, List, [], ◌∷◌, ◌++◌, Option, Some, None, IfSome, Result, Ok, Err, refl, sym, ap, subst, inl, inr, arith, append_assoc, append-nil}
use Rattle.std.specs.Prelude.{◌⊎◌, ◌||◌, is_none, slice_get}
use Rattle.std.specs.Io.KnownBytes.{Appends, Keeps}
use Rattle.std.proofs.KnownBytes.{Appends-kept}
use Rattle.tach_media.specs.Medium.{State}
use Rattle.tach_media.specs.Streams.{AppendsFront}
use Rattle.tach_media.proofs.Runs.{both_told}
use Rattle.message_model.specs.Sending.{unit_file}
use Rattle.unit_model.specs.Decoding.{Decodes, first_bad_place}
use Rattle.unit_memory.proofs.Told.{one_told, told_all}
use Rattle.unit_messages.proofs.Calls.{no_call}
use Rattle.link_model.specs.Frames.{Right}
use Rattle.link_model.specs.Answers.{Idle}
use Rattle.link_frames.specs.Asking.{asks_unit}
use Rattle.link_session.specs.Told.{SessionView, Knows, is_judged, fresh}
use Rattle.link_loader.specs.declared.stage.Stage.{Stage}
use Rattle.link_loader.specs.declared.stage.Stage.TheVariants.{Start, Diagnostic, Upload, Asked, Acknowledged, Exit, Stop, Finished}
use Rattle.link_loader.specs.Stages.{sent_at}
use Rattle.link_loader.specs.Loading.{Loading, Load}
use Rattle.unit_download.specs.declared.wire.Passed.{Passed}
use Rattle.unit_download.specs.declared.fault.DownloadFault.{DownloadFault}
use Rattle.unit_download.specs.declared.fault.DownloadFault.TheVariants.{Failed, BadUnit, Changed, WriteFault, Memory}
use Rattle.unit_download.specs.Wires.{of_loader, of_unit, talk_of}
use Rattle.unit_download.specs.Ending.{IfBad, IsDownload, IsUnanswered, IsDownloaded}
use Rattle.unit_download.specs.Ending as ending
use Rattle.unit_download.proofs.Opening.{Begins, nothing_out}
use Rattle.unit_download.proofs.Talking.{IsTalking, IsAnswered, fresh_knows, unanswered_ends, unanswered_untold, unanswered_front, untaken_ends, untaken_untold, untaken_front, talking_done, talking_file}
use Rattle.noisy_model.specs.declared.packet.Packet.{Packet}
use Rattle.noisy_model.specs.declared.event.Event.TheVariants.{ToUnit}
use Rattle.noisy_model.specs.Ends.{Arrival, New, HearsBy, arrival_by, brought}
use Rattle.noisy_model.specs.Worlds.{World, Happens, ComesToUnit, Waits, HasAnswered}
use Rattle.noisy_model.proofs.Lists.{each_at}
use Rattle.noisy_model.proofs.Arriving.{brought_is}
use Rattle.noisy_model.proofs.Leading.{IsSent, IsGiven, Holds, holds, is_it}
use Rattle.noisy_link.specs.Sides.{IsReply, asked, is_over, download_sides, puts_of}
use Rattle.noisy_link.specs.Steps.{told_as, IsRefusal, LacksRoom, Requests, AsksUnit, IsSilence, IsUntaken, to_unit}
use Rattle.noisy_link.specs.Steps as step
use Rattle.noisy_link.proofs.Talking.{at}
use Rattle.noisy_link.proofs.Told.{IsKnown, known}
use Rattle.noisy_link.proofs.Whole.{new_is}
use Rattle.noisy_download.specs.Listing.{listing_sides, listing, with_list, IsUnsent, Lists, IsUnderway}
use Rattle.noisy_download.proofs.Listed.{listed_run, unlisted}

pub some_of : (o : Option (List ℕ)) → is_none o ≡ false → (x : List ℕ) × (o ≡ Some x)
some_of None is = absurd (cc)
some_of (Some x) is = (x, refl)

pub one_frame : (a b : List ℕ) → Some a ≡ Some b → a ≡ b
one_frame a b e = cc

-- nothing is sent where the download is finished
pub finished_so : (stage : Stage) → is_none (sent_at stage) ≡ true → stage ≡ Finished
finished_so Start is = absurd (cc)
finished_so Diagnostic is = absurd (cc)
finished_so Upload is = absurd (cc)
finished_so (Asked request) is = absurd (cc)
finished_so (Acknowledged request counter) is = absurd (cc)
finished_so Exit is = absurd (cc)
finished_so Stop is = absurd (cc)
finished_so Finished is = refl

none_asked : (o : Option (List ℕ)) (x : List ℕ) → is_none o ≡ true → o ≡ Some x → ⊥
none_asked None x is asks = cc
none_asked (Some y) x is asks = cc

pub nothing_put : (held sunk : Option (List ℕ)) (put : List ℕ) → put ≡ [] → Appends held sunk put → Keeps held sunk
nothing_put None sunk put none p = tt
nothing_put (Some x) None put none p = absurd p
nothing_put (Some x) (Some y) put none p = p ∙ ap (λ (l : List ℕ). x ++ l) none ∙ append-nil x

-- the same, where what the sink holds has stayed
pub kept_underway : (image held : Option (List ℕ)) (w : World SessionView Load) (listed : Bool) (wire : List Passed) (sunk now : Option (List ℕ)) → IsUnderway image held w listed wire sunk → Keeps sunk now → IsUnderway image held w listed wire now
kept_underway image held w listed wire sunk now u keeps = record {
  load = u.load;
  begins = u.begins;
  events = u.events;
  took = u.took;
  exchanges = u.exchanges;
  passes = u.passes;
  put = Appends-kept held sunk now (puts_of u.took) u.put keeps;
  lists = u.lists;
  knows = u.knows;
  room = u.room;
  sized = u.sized;
  bytes = u.bytes;
}

module _ (s : State) (held : Option (List ℕ)) (w : World SessionView Load) (listed : Bool) (wire : List Passed) (sunk : Option (List ℕ)) (u : IsUnderway s.image held w listed wire sunk) where
  pub here : Holds (listing_sides s.image) (fresh Idle) (listing u.load []) (with_list w u.exchanges) u.took
  here = holds (listing_sides s.image) (fresh Idle) (listing u.load []) (with_list w u.exchanges) u.took u.events u.passes

  -- where the talk has led the unit's side
  abbrev pub mid : SessionView
  mid = here.talk.mid

  first : IsKnown s.image (fresh Idle) (at (fresh Idle) u.load [])
  first = (told_all s.image _ (λ x told. fresh_knows Idle x), inr (inl (inl (ap (λ (l : Loading). talk_of Idle l []) u.begins))))

  -- it is a talk over a link that keeps all
  pub talking : IsTalking w.loader.side mid u.exchanges s s held sunk
  talking =
      let know = known s.image (fresh Idle) u.load u.took mid w.loader.side [] (unlisted s.image (fresh Idle) (listing u.load []) u.took mid (listing w.loader.side u.exchanges) here.talk.talks) first in
      record {
        out = puts_of u.took;
        runs = listed_run s.image (fresh Idle) (listing u.load []) u.took mid (listing w.loader.side u.exchanges) [] here.talk.talks (ap (λ (l : Loading). talk_of Idle l []) u.begins);
        put = u.put;
        knows = know.0;
        judged = know.1;
        reads = no_call s;
        room = u.room;
        sized = u.sized;
      }

  -- the wire has the request that is asked now, if that was sent
  on_wire_by : (b : Bool) (request : List ℕ) → Lists b u.exchanges w wire → (IsUnsent w → ⊥) → asked w.loader.side ≡ Some request → wire ≡ u.exchanges ++ of_loader request ∷ []
  on_wire_by true request lists sent asks =
      lists.2 ∙ ap (λ (l : List ℕ). u.exchanges ++ of_loader l ∷ []) (one_frame lists.0 request (sym lists.1 ∙ asks))
  on_wire_by false request lists sent asks = absurd (sent lists.1)

  pub on_wire : (request : List ℕ) → (IsUnsent w → ⊥) → asked w.loader.side ≡ Some request → wire ≡ u.exchanges ++ of_loader request ∷ []
  on_wire request sent asks = on_wire_by listed request u.lists sent asks

  -- A new request that came is the one that is asked.
  pub record IsWanted (request : List ℕ) : Type 0 where
    pub asks : asked w.loader.side ≡ Some request
    pub side : w.unit.side ≡ mid
    pub wire_is : wire ≡ u.exchanges ++ of_loader request ∷ []

  pub wanted : (request : List ℕ) (place : ℕ) (p : Packet) → slice_get w.sent place ≡ Some p → arrival_by w.unit.last p.number p.frame ≡ New request → IsWanted request
  wanted request place p is new = by here.talk.unit (each_at (IsSent (listing_sides s.image) (with_list w u.exchanges).loader) w.sent place p here.sent is)
    where
      n : (p.frame ≡ Some request) × (p.number ≡ w.unit.last + 1)
      n = new_is w.unit.last p.number p.frame request new

      unsent : IsUnsent w → ⊥
      unsent none =
          let low : p.number < w.loader.number = each_at (λ (q : Packet). q.number < w.loader.number) w.sent place p none.none is in
          let number = n.1 in let last = none.waits in omega arith

      by : Waits mid w.loader.number w.unit ⊎ HasAnswered (listing_sides s.image) mid (listing w.loader.side u.exchanges) w.loader.number w.unit → IsSent (listing_sides s.image) (with_list w u.exchanges).loader p → IsWanted request
      by (inl waits) (inl low) = let last = waits.last in let number = n.1 in absurd (omega arith)
      by (inl waits) (inr r) = let asks : asked w.loader.side ≡ Some request = sym r.frame ∙ n.0 in record { asks = asks; side = waits.side; wire_is = on_wire request unsent asks }
      by (inr a) (inl low) = let last = a.last in let number = n.1 in absurd (omega arith)
      by (inr a) (inr r) = let last = a.last in let number = n.1 in let equal = r.number in absurd (omega arith)

  -- AN END AT THE REQUEST THAT IS ASKED NOW.
  pub ended : (fault : DownloadFault) (sent : List ℕ) (behind grown : List Passed) → asked w.loader.side ≡ Some sent → IsUnanswered s.image fault mid.state sent behind → grown ≡ u.exchanges ++ behind
      → (fault ≡ Changed → IfSome s.image (λ x. ⊥)) → IfBad fault (λ p. IfSome s.image (λ x. first_bad_place x ≡ Some p)) → IfBad fault (λ p. Keeps held sunk) → IsDownloaded (Err fault) s.image grown held sunk
  ended fault sent behind grown asks unanswered grown_is changed bad nothing = record {
    downloaded = unanswered_ends talking sent asks fault behind unanswered (Err fault) grown refl grown_is;
    file = tt;
    front = both_told s.image (λ x. AppendsFront held sunk (unit_file x)) u.bytes (unanswered_front talking sent asks) (λ x told fit front. front fit);
    changed = λ is. changed (same_fault is);
    bad = bad;
    nothing = nothing;
  }
    where
      same_fault : {f : DownloadFault} → ◌≡◌ {A = Result (Unit {0}) DownloadFault} (Err fault) (Err f) → fault ≡ f
      same_fault {f} is = cc

  -- memory ran out
  memory_by : (b : Bool) (sent : List ℕ) → Lists b u.exchanges w wire → asked w.loader.side ≡ Some sent → IsDownloaded (Err Memory) s.image wire held sunk
  memory_by true sent lists asks =
      ended Memory sent (of_loader sent ∷ []) wire asks (inr refl) (lists.2 ∙ ap (λ (l : List ℕ). u.exchanges ++ of_loader l ∷ []) (one_frame lists.0 sent (sym lists.1 ∙ asks))) (λ is. absurd (cc)) tt tt
  memory_by false sent lists asks = ended Memory sent [] wire asks (inl refl) (lists.0 ∙ sym (append-nil u.exchanges)) (λ is. absurd (cc)) tt tt

  pub memory_ended : is_over w.loader.side ≡ false → IsDownloaded (Err Memory) s.image wire held sunk
  memory_ended on = let o = some_of (asked w.loader.side) on in memory_by listed o.0 u.lists o.1

  -- the unit was asked, and has not answered
  asked_unit : (request : List ℕ) → IsWanted request → asks_unit w.unit.side.state (Right request) ≡ true → asks_unit mid.state (Right request) ≡ true
  asked_unit request i asks = subst (λ (v : SessionView). asks_unit v.state (Right request) ≡ true) i.side asks

  pub failed_ended : (place : ℕ) (a : AsksUnit w.unit (slice_get w.sent place)) → IsDownloaded (Err Failed) s.image wire held sunk
  failed_ended place a =
      let i = wanted a.request place a.requests.packet a.requests.is a.requests.new_one in
      ended Failed a.request (of_loader a.request ∷ []) wire i.asks (refl, asked_unit a.request i a.asks) i.wire_is (λ is. absurd (cc)) tt tt

  -- nothing has gone to the sink where the unit was not judged
  nothing_yet : w.unit.side ≡ mid → is_judged w.unit.side ≡ false → Keeps held sunk
  unfolding talking
  nothing_yet side not_judged = by talking.judged
    where
      by : (is_judged mid ≡ true) ⊎ Begins (talk_of mid.state w.loader.side.loading (puts_of u.took)) → Keeps held sunk
      by (inl judged) = let was : is_judged w.unit.side ≡ true = ap is_judged side ∙ judged in absurd (cc)
      by (inr begins) = nothing_put held sunk (puts_of u.took) (nothing_out (talk_of mid.state w.loader.side.loading (puts_of u.took)) begins) u.put

  pub bad_ended : (place bad : ℕ) (a : AsksUnit w.unit (slice_get w.sent place)) → is_judged w.unit.side ≡ false → IfSome s.image (λ x. first_bad_place x ≡ Some bad) → IsDownloaded (Err (BadUnit bad)) s.image wire held sunk
  bad_ended place bad a judged is_bad =
      let i = wanted a.request place a.requests.packet a.requests.is a.requests.new_one in
      ended (BadUnit bad) a.request (of_loader a.request ∷ []) wire i.asks (refl, asked_unit a.request i a.asks) i.wire_is (λ is. absurd (cc)) is_bad (nothing_yet i.side judged)

  -- the session has no answer
  silent_reply : (v : World SessionView Load) (place : ℕ) (p : Packet) (request : List ℕ) → slice_get w.sent place ≡ Some p → arrival_by w.unit.last p.number p.frame ≡ New request → Happens (download_sides s.image) w (ToUnit place) v []
      → IsReply s.image w.unit.side request v.unit.kept v.unit.side
  silent_reply v place p request is new happens =
      let comes : ComesToUnit (download_sides s.image) w (Some p) v = subst (λ (o : Option Packet). ComesToUnit (download_sides s.image) w o v) is happens.0 in
      let hears : HearsBy (IsReply s.image) w.unit (New request) v.unit comes.0 = subst (λ (a : Arrival). HearsBy (IsReply s.image) w.unit a v.unit comes.0) new comes.1 in
      hears.0

  pub silent_ended : (v : World SessionView Load) (place : ℕ) → Happens (download_sides s.image) w (ToUnit place) v [] → step.IsSilent w.unit (slice_get w.sent place) v.unit → IsDownloaded (Err Changed) s.image wire held sunk
  silent_ended v place happens silent =
      let r = silent.requests in
      let request = silent.request in
      let i = wanted request place r.packet r.is r.new_one in
      let reply = subst (λ (x : SessionView). IsReply s.image x request v.unit.kept v.unit.side) i.side (silent_reply v place r.packet request r.is r.new_one happens) in
      let none : IsReply s.image mid request None v.unit.side = subst (λ (o : Option (List ℕ)). IsReply s.image mid request o v.unit.side) silent.none reply in
      let unanswered : IsUnanswered s.image Changed mid.state request (of_loader request ∷ []) = (refl, (v.unit.side.state, none.replies)) in
      ended Changed request (of_loader request ∷ []) wire i.asks unanswered i.wire_is (λ is.
      both_told s.image (λ x. ⊥) u.bytes
      (unanswered_untold talking request i.asks Changed (of_loader request ∷ []) unanswered (λ f asks. judged_decodes v.unit.side none.knows (none.judged ∙ by_asking (is_judged mid) (asks_unit mid.state (Right request)) asks)) refl)
      (λ x told fit none. none fit)) tt tt
    where
      by_asking : (a b : Bool) → b ≡ true → (a || b) ≡ true
      by_asking true b is = refl
      by_asking false b is = is

      judged_decodes : (v : SessionView) → IfSome s.image (Knows v) → is_judged v ≡ true → IfSome s.image Decodes
      judged_decodes v knows judged = one_told s.image Decodes knows (λ x k. k.decodes judged)

  -- AN END AT AN ANSWER, which was brought, listed, and not taken.
  pub refused_ended : (fault : DownloadFault) (place : ℕ) (p : Packet) (frame : List ℕ) (grown : List Passed) (filled : Option (List ℕ)) → slice_get w.answers place ≡ Some p → brought asked w.loader p ≡ Some frame → grown ≡ wire ++ of_unit frame ∷ []
      → ending.IsUntaken fault w.loader.side.loading frame sunk filled → IfBad fault (λ x. ⊥) → IsDownloaded (Err fault) s.image grown held filled
  refused_ended fault place p frame grown filled is brings grows untaken not_bad =
      let b = brought_is asked w.loader p frame brings in
      let it = is_it (listing_sides s.image) (fresh Idle) (listing u.load []) (with_list w u.exchanges) (with_list w u.exchanges) u.took here p (each_at (IsGiven (listing_sides s.image) w.unit) w.answers place p here.given is) frame b.0 b.1 in
      let answered : IsReply s.image mid it.request (Some frame) w.unit.side = it.answered in
      let asks : asked w.loader.side ≡ Some it.request = it.asked in
      let listed_there = on_wire it.request (λ none. let last : w.unit.last ≡ w.loader.number = it.last in let waits = none.waits in omega arith) asks in
      let a : IsAnswered talking it.request asks w.unit.side s frame = record { answers = answered.replies; knows = answered.knows; judged = answered.judged; reads = no_call s } in
      let whole : grown ≡ u.exchanges ++ of_loader it.request ∷ of_unit frame ∷ [] = grows ∙ ap (λ (l : List Passed). l ++ of_unit frame ∷ []) listed_there ∙ append_assoc u.exchanges (of_loader it.request ∷ []) (of_unit frame ∷ []) in
      record {
        downloaded = untaken_ends talking it.request asks fault w.unit.side s filled frame a untaken (Err fault) grown refl whole;
        file = tt;
        front = both_told s.image (λ x. AppendsFront held filled (unit_file x)) u.bytes (untaken_front talking it.request asks fault w.unit.side s filled frame a untaken) (λ x told fit front. front fit);
        changed = λ is. both_told s.image (λ x. ⊥) u.bytes (untaken_untold talking it.request asks fault w.unit.side s filled frame a untaken (same_fault is)) (λ x told fit none. none fit);
        bad = not_so (λ p. IfSome s.image (λ x. first_bad_place x ≡ Some p)) fault not_bad;
        nothing = not_so (λ p. Keeps held filled) fault not_bad;
      }
    where
      same_fault : {f : DownloadFault} → ◌≡◌ {A = Result (Unit {0}) DownloadFault} (Err fault) (Err f) → fault ≡ f
      same_fault {f} is = cc

      not_so : (P : ℕ → Type 0) (f : DownloadFault) → IfBad f (λ x. ⊥) → IfBad f P
      not_so P Failed none = tt
      not_so P (BadUnit bad_place) none = absurd none
      not_so P Changed none = tt
      not_so P WriteFault none = tt
      not_so P Memory none = tt

  -- THE DOWNLOAD IS FINISHED.
  done_by : (b : Bool) → Lists b u.exchanges w wire → is_over w.loader.side ≡ true → wire ≡ u.exchanges
  done_by true lists over = absurd (none_asked (asked w.loader.side) lists.0 over lists.1)
  done_by false lists over = lists.0

  pub done : is_over w.loader.side ≡ true → IsDownloaded (Ok tt) s.image wire held sunk
  done over =
      let stage : w.loader.side.loading.stage ≡ Finished = finished_so w.loader.side.loading.stage over in
      record {
        downloaded = subst (λ (l : List Passed). IsDownload {T = Unit {0}} (Ok tt) s.image l held sunk) (sym (done_by listed u.lists over)) (talking_done tt talking stage);
        file = both_told s.image (λ x. Decodes x × Appends held sunk (unit_file x)) u.bytes (talking_file talking stage) (λ x told fit file. (file.0, file.1 fit));
        front = tt;
        changed = λ is. absurd (cc);
        bad = tt;
        nothing = tt;
      }
