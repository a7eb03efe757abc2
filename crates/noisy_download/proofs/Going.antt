-- A download over a noisy link goes on: what each event leaves.
use Rattle.std.proofs.Common.{◌≡◌, ◌∙◌, ℕ, ◌+◌, ◌<◌, ◌≤◌, Bool, true, false, List, [], ◌∷◌, ◌++◌, Option, Some, None, IfSome, Result, Ok, Err, refl, sym, ap, subst, inl, inr, arith, append_assoc, append-nil}
use Rattle.std.specs.Prelude.{◌⊎◌, slice_get, option_to_list}
use Rattle.std.specs.Io.KnownBytes.{Appends, Keeps}
use Rattle.std.proofs.KnownBytes.{Appends-trans, Keeps-refl}
use Rattle.tach_media.specs.Medium.{State}
use Rattle.link_model.specs.Answers.{Idle}
use Rattle.unit_model.specs.Decoding.{first_bad_place}
use Rattle.link_session.specs.Told.{SessionView, Knows, is_judged, fresh}
use Rattle.link_loader.specs.declared.fault.LoadFault.{LoadFault}
use Rattle.link_loader.specs.declared.fault.LoadFault.TheVariants as load
use Rattle.link_loader.specs.Loading.{Load, IsRefused, LeavesSink}
use Rattle.unit_download.specs.declared.wire.Passed.{Passed}
use Rattle.unit_download.specs.declared.fault.DownloadFault.{DownloadFault}
use Rattle.unit_download.specs.declared.fault.DownloadFault.TheVariants.{Failed, BadUnit, Changed, WriteFault, Memory}
use Rattle.unit_download.specs.Wires.{of_loader, of_unit}
use Rattle.unit_download.specs.Ending.{IfBad, IsDownloaded}
use Rattle.unit_download.specs.Ending as ending
use Rattle.noisy_model.specs.declared.packet.Packet.{Packet}
use Rattle.noisy_model.specs.declared.event.Event.{Event}
use Rattle.noisy_model.specs.declared.event.Event.TheVariants.{Send, ToUnit, ToLoader}
use Rattle.noisy_model.specs.Ends.{UnitEnd, LoaderEnd, Taken, Hears, TakesBy, request_of, brought}
use Rattle.noisy_model.specs.Worlds.{World, Happens, ComesToUnit, ComesToLoader, fresh_world}
use Rattle.noisy_model.proofs.Lists.{each_at, each_weaker}
use Rattle.noisy_model.proofs.Arriving.{Cases, cases, sent_is, brought_is}
use Rattle.noisy_model.proofs.Leading.{IsSent, IsGiven, is_it}
use Rattle.noisy_link.specs.Sides.{IsReply, Loads, asked, is_over, download_sides, puts_of}
use Rattle.noisy_link.specs.Steps.{told_as, frame_of, brought_by, IsRefusal, LacksRoom, AsksUnit, IsSilent, IsSilence, IsUntaken, IsStep, to_unit, to_loader}
use Rattle.noisy_download.specs.Listing.{ListTakes, listing_sides, listing, with_list, IsUnsent, Lists, RequestIsListed, AnswerIsListed, IsListed, IsUnderway, DownloadGoesOn}
use Rattle.noisy_download.proofs.Listed.{passes_on, puts_on}
use Rattle.noisy_download.proofs.Underway.{some_of, kept_underway, here, on_wire, ended, memory_ended, failed_ended, bad_ended, silent_ended, refused_ended}

-- the request that is asked now is still unsent
unsent_still : (w v : World SessionView Load) → IsUnsent w → v.sent ≡ w.sent → v.unit.last ≡ w.unit.last → v.loader ≡ w.loader → IsUnsent v
unsent_still w v n sent last loader = record {
  none = rw (sent, loader) n.none;
  waits = let waits = n.waits in let number : v.loader.number ≡ w.loader.number = ap (λ (e : LoaderEnd Load). e.number) loader in omega arith;
}

-- the wire stays as it is
lists_still : (b : Bool) (e wire grown : List Passed) (w v : World SessionView Load) → Lists b e w wire → v.sent ≡ w.sent → (IsUnsent w → v.unit.last ≡ w.unit.last) → v.loader ≡ w.loader → grown ≡ wire → Lists b e v grown
lists_still true e wire grown w v lists sent last loader same = (lists.0, ap (λ (l : LoaderEnd Load). asked l.side) loader ∙ lists.1, same ∙ lists.2)
lists_still false e wire grown w v lists sent last loader same = (same ∙ lists.0, unsent_still w v lists.1 sent (last lists.1) loader)

-- the loader's end sends
lists_sent : (b : Bool) (o : Option Packet) (e wire grown : List Passed) (now : Bool) (sent : List ℕ) (w v : World SessionView Load) → request_of asked w.loader ≡ o → Lists b e w wire → asked w.loader.side ≡ Some sent
    → v.sent ≡ w.sent ++ option_to_list o → v.unit ≡ w.unit → v.loader ≡ w.loader → RequestIsListed b (frame_of o) wire now grown → Lists now e v grown
lists_sent true o e wire grown now sent w v is lists asks sends unit loader l =
    subst (λ (b : Bool). Lists b e v grown) (sym l.0) (lists.0, ap (λ (k : LoaderEnd Load). asked k.side) loader ∙ lists.1, l.1 ∙ lists.2)
lists_sent false None e wire grown now sent w v is lists asks sends unit loader l =
    subst (λ (b : Bool). Lists b e v grown) (sym l.0)
    (l.1 ∙ lists.0, unsent_still w v lists.1 (sends ∙ append-nil w.sent) (ap (λ (k : UnitEnd SessionView). k.last) unit) loader)
lists_sent false (Some p) e wire grown now sent w v is lists asks sends unit loader l =
    let frame : p.frame ≡ Some sent = (sent_is asked w.loader p is).frame ∙ asks in
    let there : RequestIsListed false (Some sent) wire now grown = subst (λ (f : Option (List ℕ)). RequestIsListed false f wire now grown) frame l in
    subst (λ (b : Bool). Lists b e v grown) (sym there.0) (sent, ap (λ (k : LoaderEnd Load). asked k.side) loader ∙ asks, there.1 ∙ ap (λ (k : List Passed). k ++ of_loader sent ∷ []) lists_wire)
  where
    lists_wire : wire ≡ e
    lists_wire = lists.0

module _ (s : State) (held : Option (List ℕ)) (w : World SessionView Load) (listed : Bool) (wire : List Passed) (sunk : Option (List ℕ)) (u : IsUnderway s.image held w listed wire sunk) where
  -- an event more
  on : (event : Event) (more : List Taken) (e grown : List Passed) (now : Bool) (v : World SessionView Load) (filled : Option (List ℕ)) → Happens (listing_sides s.image) (with_list w u.exchanges) event (with_list v e) more → Appends sunk filled (puts_of more)
      → Lists now e v grown → IfSome s.image (Knows v.unit.side) → w.loader.side.room ≤ v.loader.side.room → IsUnderway s.image held v now grown filled
  on event more e grown now v filled happens put lists knows room =
      let had = u.room in
      record {
        load = u.load;
        begins = u.begins;
        events = u.events ++ event ∷ [];
        took = u.took ++ more;
        exchanges = e;
        passes = passes_on (listing_sides s.image) (fresh_world (fresh Idle) (listing u.load [])) u.events (with_list w u.exchanges) u.took event (with_list v e) more u.passes happens;
        put = subst (λ (l : List ℕ). Appends held filled l) (sym (puts_on u.took more)) (Appends-trans held sunk filled (puts_of u.took) (puts_of more) u.put put);
        lists = lists;
        knows = knows;
        room = omega arith;
        sized = u.sized;
        bytes = u.bytes;
      }

  loader_still : (v : World SessionView Load) → v.loader ≡ w.loader → (with_list v u.exchanges).loader ≡ (with_list w u.exchanges).loader
  loader_still v same = ap (λ (l : LoaderEnd Load). record { number = l.number; side = listing l.side u.exchanges }) same

  -- The loader's end sends.
  on_sent : (more : List Taken) (grown : List Passed) (now : Bool) (v : World SessionView Load) (filled : Option (List ℕ)) → is_over w.loader.side ≡ false → IsListed w listed Send wire now grown → Happens (download_sides s.image) w Send v more
      → Appends sunk filled (puts_of more) → IfSome s.image (Knows v.unit.side) → w.loader.side.room ≤ v.loader.side.room → IsUnderway s.image held v now grown filled
  on_sent more grown now v filled over lists happens put knows room =
      let a = some_of (asked w.loader.side) over in
      on Send more u.exchanges grown now v filled (happens.0, happens.1, happens.2, loader_still v happens.3, happens.4) put
      (lists_sent listed (request_of asked w.loader) u.exchanges wire grown now a.0 w v refl u.lists a.1 happens.0 happens.2 happens.3 lists) knows room

  -- A packet comes to the unit's end.
  heard_lifted : (o : Option Packet) (v : World SessionView Load) → ComesToUnit (download_sides s.image) w o v → ComesToUnit (listing_sides s.image) (with_list w u.exchanges) o (with_list v u.exchanges)
  heard_lifted None v comes = ap (λ (x : World SessionView Load). with_list x u.exchanges) comes
  heard_lifted (Some p) v comes = (comes.0, comes.1, comes.2, comes.3, loader_still v comes.4)

  -- one that was sent before is not new where the request that is asked now is unsent
  last_still : (p : Packet) (place : ℕ) (v : World SessionView Load) (answer : Option Packet) → slice_get w.sent place ≡ Some p → IsUnsent w → Hears (IsReply s.image) w.unit p v.unit answer → v.unit.last ≡ w.unit.last
  last_still p place v answer is none hears = by (cases (IsReply s.image) w.unit p v.unit answer hears)
    where
      by : Cases (IsReply s.image) w.unit p v.unit answer → v.unit.last ≡ w.unit.last
      by (inl n) =
          let low : p.number < w.loader.number = each_at (λ (q : Packet). q.number < w.loader.number) w.sent place p none.none is in
          let number = n.number in let waits = none.waits in absurd (omega arith)
      by (inr (inl a)) = ap (λ (k : UnitEnd SessionView). k.last) a.same
      by (inr (inr o)) = ap (λ (k : UnitEnd SessionView). k.last) o.same

  heard_lists : (o : Option Packet) (place : ℕ) (grown : List Passed) (v : World SessionView Load) → slice_get w.sent place ≡ o → ComesToUnit (download_sides s.image) w o v → grown ≡ wire → Lists listed u.exchanges v grown
  heard_lists None place grown v is comes same =
      lists_still listed u.exchanges wire grown w v u.lists (ap (λ (x : World SessionView Load). x.sent) comes) (λ none. ap (λ (x : World SessionView Load). x.unit.last) comes) (ap (λ (x : World SessionView Load). x.loader) comes) same
  heard_lists (Some p) place grown v is comes same =
      lists_still listed u.exchanges wire grown w v u.lists comes.2 (λ none. last_still p place v comes.0 is none comes.1) comes.4 same

  on_heard : (place : ℕ) (more : List Taken) (grown : List Passed) (now : Bool) (v : World SessionView Load) (filled : Option (List ℕ)) → IsListed w listed (ToUnit place) wire now grown → Happens (download_sides s.image) w (ToUnit place) v more
      → Appends sunk filled (puts_of more) → IfSome s.image (Knows v.unit.side) → w.loader.side.room ≤ v.loader.side.room → IsUnderway s.image held v now grown filled
  on_heard place more grown now v filled lists happens put knows room =
      on (ToUnit place) more u.exchanges grown now v filled (heard_lifted (slice_get w.sent place) v happens.0, happens.1) put
      (subst (λ (b : Bool). Lists b u.exchanges v grown) (sym lists.0) (heard_lists (slice_get w.sent place) place grown v refl happens.0 lists.1)) knows room

  -- An answer comes to the loader's end: none of that place, one that brings nothing, or one that is taken.
  took_none : (place : ℕ) (more : List Taken) (grown : List Passed) (now : Bool) (v : World SessionView Load) (filled : Option (List ℕ)) → slice_get w.answers place ≡ None → AnswerIsListed (brought_by w None) listed wire now grown → ComesToLoader (download_sides s.image) w None v more
      → Appends sunk filled (puts_of more) → IfSome s.image (Knows v.unit.side) → w.loader.side.room ≤ v.loader.side.room → IsUnderway s.image held v now grown filled
  took_none place more grown now v filled is lists comes put knows room =
      on (ToLoader place) more u.exchanges grown now v filled
      (subst (λ (o : Option Packet). ComesToLoader (listing_sides s.image) (with_list w u.exchanges) o (with_list v u.exchanges) more) (sym is) (ap (λ (x : World SessionView Load). with_list x u.exchanges) comes.0, comes.1)) put
      (subst (λ (b : Bool). Lists b u.exchanges v grown) (sym lists.0)
      (lists_still listed u.exchanges wire grown w v u.lists (ap (λ (x : World SessionView Load). x.sent) comes.0) (λ none. ap (λ (x : World SessionView Load). x.unit.last) comes.0) (ap (λ (x : World SessionView Load). x.loader) comes.0) lists.1))
      knows room

  took_nothing : (place : ℕ) (p : Packet) (more : List Taken) (grown : List Passed) (now : Bool) (v : World SessionView Load) (filled : Option (List ℕ)) → slice_get w.answers place ≡ Some p → brought asked w.loader p ≡ None → AnswerIsListed None listed wire now grown
      → TakesBy Loads w.loader None v.loader more → v.sent ≡ w.sent → v.answers ≡ w.answers → v.unit ≡ w.unit → Appends sunk filled (puts_of more) → IfSome s.image (Knows v.unit.side) → w.loader.side.room ≤ v.loader.side.room → IsUnderway s.image held v now grown filled
  took_nothing place p more grown now v filled is brings lists takes sent answers unit put knows room =
      let lifted : TakesBy ListTakes (with_list w u.exchanges).loader (brought asked w.loader p) (with_list v u.exchanges).loader more =
      subst (λ (o : Option (List ℕ)). TakesBy ListTakes (with_list w u.exchanges).loader o (with_list v u.exchanges).loader more) (sym brings) (loader_still v takes.0, takes.1) in
      on (ToLoader place) more u.exchanges grown now v filled
      (subst (λ (o : Option Packet). ComesToLoader (listing_sides s.image) (with_list w u.exchanges) o (with_list v u.exchanges) more) (sym is) (lifted, sent, answers, unit)) put
      (subst (λ (b : Bool). Lists b u.exchanges v grown) (sym lists.0) (lists_still listed u.exchanges wire grown w v u.lists sent (λ none. ap (λ (k : UnitEnd SessionView). k.last) unit) takes.0 lists.1)) knows room

  took_one : (place : ℕ) (p : Packet) (frame : List ℕ) (more : List Taken) (grown : List Passed) (now : Bool) (v : World SessionView Load) (filled : Option (List ℕ)) → slice_get w.answers place ≡ Some p → brought asked w.loader p ≡ Some frame
      → AnswerIsListed (Some frame) listed wire now grown → TakesBy Loads w.loader (Some frame) v.loader more → v.sent ≡ w.sent → v.answers ≡ w.answers → v.unit ≡ w.unit → Appends sunk filled (puts_of more) → IfSome s.image (Knows v.unit.side)
      → w.loader.side.room ≤ v.loader.side.room → IsUnderway s.image held v now grown filled
  took_one place p frame more grown now v filled is brings lists takes sent answers unit put knows room =
      let b = brought_is asked w.loader p frame brings in
      let it = is_it (listing_sides s.image) (fresh Idle) (listing u.load []) (with_list w u.exchanges) (with_list w u.exchanges) u.took (here s held w listed wire sunk u) p
      (each_at (IsGiven (listing_sides s.image) w.unit) w.answers place p (here s held w listed wire sunk u).given is) frame b.0 b.1 in
      let request : List ℕ = it.request in
      let asks : asked w.loader.side ≡ Some request = it.asked in
      let last : w.unit.last ≡ w.loader.number = it.last in
      let there = on_wire s held w listed wire sunk u request (λ none. let waits = none.waits in omega arith) asks in
      let e : List Passed = u.exchanges ++ of_loader request ∷ of_unit frame ∷ [] in
      let list_takes : ListTakes (listing w.loader.side u.exchanges) frame (listing v.loader.side e) takes.0 = record { takes = takes.1; request = request; asks = asks; lists = refl } in
      let lifted : TakesBy ListTakes (with_list w u.exchanges).loader (brought asked w.loader p) (with_list v e).loader more =
      subst (λ (o : Option (List ℕ)). TakesBy ListTakes (with_list w u.exchanges).loader o (with_list v e).loader more) (sym brings) (takes.0, list_takes, takes.2, takes.3) in
      let grows : grown ≡ e = lists.1 ∙ ap (λ (l : List Passed). l ++ of_unit frame ∷ []) there ∙ append_assoc u.exchanges (of_loader request ∷ []) (of_unit frame ∷ []) in
      let number = takes.2 in
      let heard : v.unit.last ≡ w.unit.last = ap (λ (k : UnitEnd SessionView). k.last) unit in
      on (ToLoader place) more e grown now v filled (subst (λ (o : Option Packet). ComesToLoader (listing_sides s.image) (with_list w u.exchanges) o (with_list v e) more) (sym is) (lifted, sent, answers, unit)) put
      (subst (λ (b : Bool). Lists b e v grown) (sym lists.0)
      (grows, record { none = rw sent (each_weaker (IsSent (listing_sides s.image) (with_list w u.exchanges).loader) (λ q. q.number < v.loader.number) w.sent (lower number) (here s held w listed wire sunk u).sent); waits = omega arith })) knows room
    where
      lower : v.loader.number ≡ w.loader.number + 1 → (q : Packet) → IsSent (listing_sides s.image) (with_list w u.exchanges).loader q → q.number < v.loader.number
      lower number q (inl low) = let below : q.number < w.loader.number = low in omega arith
      lower number q (inr r) = let equal : q.number ≡ w.loader.number = r.number in omega arith

  took_by : (place : ℕ) (p : Packet) (o : Option (List ℕ)) (more : List Taken) (grown : List Passed) (now : Bool) (v : World SessionView Load) (filled : Option (List ℕ)) → slice_get w.answers place ≡ Some p → brought asked w.loader p ≡ o → AnswerIsListed o listed wire now grown
      → TakesBy Loads w.loader o v.loader more → v.sent ≡ w.sent → v.answers ≡ w.answers → v.unit ≡ w.unit → Appends sunk filled (puts_of more) → IfSome s.image (Knows v.unit.side) → w.loader.side.room ≤ v.loader.side.room → IsUnderway s.image held v now grown filled
  took_by place p None more grown now v filled is brings lists takes sent answers unit put knows room = took_nothing place p more grown now v filled is brings lists takes sent answers unit put knows room
  took_by place p (Some frame) more grown now v filled is brings lists takes sent answers unit put knows room = took_one place p frame more grown now v filled is brings lists takes sent answers unit put knows room

  on_taken_by : (place : ℕ) (o : Option Packet) (more : List Taken) (grown : List Passed) (now : Bool) (v : World SessionView Load) (filled : Option (List ℕ)) → slice_get w.answers place ≡ o → AnswerIsListed (brought_by w o) listed wire now grown
      → ComesToLoader (download_sides s.image) w o v more → Appends sunk filled (puts_of more) → IfSome s.image (Knows v.unit.side) → w.loader.side.room ≤ v.loader.side.room → IsUnderway s.image held v now grown filled
  on_taken_by place None more grown now v filled is lists comes put knows room = took_none place more grown now v filled is lists comes put knows room
  on_taken_by place (Some p) more grown now v filled is lists comes put knows room =
      took_by place p (brought asked w.loader p) more grown now v filled is refl lists comes.0 comes.1 comes.2 comes.3 put knows room

  -- WHERE AN EVENT HAS HAPPENED the download goes on.
  goes_on : (event : Event) (more : List Taken) (grown : List Passed) (now : Bool) (v : World SessionView Load) (filled : Option (List ℕ)) → is_over w.loader.side ≡ false → IsListed w listed event wire now grown → Happens (download_sides s.image) w event v more
      → Appends sunk filled (puts_of more) → IfSome s.image (Knows v.unit.side) → w.loader.side.room ≤ v.loader.side.room → IsUnderway s.image held v now grown filled
  goes_on Send more grown now v filled over lists happens put knows room = on_sent more grown now v filled over lists happens put knows room
  goes_on (ToUnit place) more grown now v filled over lists happens put knows room = on_heard place more grown now v filled lists happens put knows room
  goes_on (ToLoader place) more grown now v filled over lists happens put knows room = on_taken_by place (slice_get w.answers place) more grown now v filled refl lists happens put knows room

  -- an answer that the loader refused, or did not put out
  untaken_so : (told : DownloadFault) (fault : LoadFault) (frame : List ℕ) (filled : Option (List ℕ)) → told ≡ told_as fault → (fault ≡ load.Memory → ⊥) → IsRefused w.loader.side.loading frame fault → LeavesSink w.loader.side.loading frame fault sunk filled
      → ending.IsUntaken told w.loader.side.loading frame sunk filled
  untaken_so told (load.Negative service code) frame filled is some refused leaves =
      subst (λ (f : DownloadFault). ending.IsUntaken f w.loader.side.loading frame sunk filled) (sym is) ((load.Negative service code, tt, refused), leaves)
  untaken_so told load.Unexpected frame filled is some refused leaves = subst (λ (f : DownloadFault). ending.IsUntaken f w.loader.side.loading frame sunk filled) (sym is) ((load.Unexpected, tt, refused), leaves)
  untaken_so told (load.Broken wanted counter) frame filled is some refused leaves =
      subst (λ (f : DownloadFault). ending.IsUntaken f w.loader.side.loading frame sunk filled) (sym is) ((load.Broken wanted counter, tt, refused), leaves)
  untaken_so told load.WriteFault frame filled is some refused leaves = subst (λ (f : DownloadFault). ending.IsUntaken f w.loader.side.loading frame sunk filled) (sym is) leaves
  untaken_so told load.Memory frame filled is some refused leaves = absurd (some refl)

  no_memory : (told : DownloadFault) (fault : LoadFault) → told ≡ told_as fault → (told ≡ Memory → ⊥) → fault ≡ load.Memory → ⊥
  no_memory told fault is some same = some (is ∙ ap told_as same)

  refused_there : (told : DownloadFault) (place : ℕ) (p : Packet) (v : World SessionView Load) (grown : List Passed) (now : Bool) (filled : Option (List ℕ)) → (told ≡ Memory → ⊥) → IfBad told (λ x. ⊥) → slice_get w.answers place ≡ Some p → IsRefusal told w.loader p v.loader sunk filled
      → AnswerIsListed (brought_by w (slice_get w.answers place)) listed wire now grown → IsDownloaded (Err told) s.image grown held filled
  refused_there told place p v grown now filled some good is r lists =
      let there : AnswerIsListed (brought asked w.loader p) listed wire now grown = subst (λ (o : Option Packet). AnswerIsListed (brought_by w o) listed wire now grown) is lists in
      let one : AnswerIsListed (Some r.frame) listed wire now grown = subst (λ (o : Option (List ℕ)). AnswerIsListed o listed wire now grown) r.brings there in
      refused_ended s held w listed wire sunk u told place p r.frame grown filled is r.brings one.1 (untaken_so told r.fault r.frame filled r.told_is (no_memory told r.fault r.told_is some) r.refused r.sink) good

  refused_by : (told : DownloadFault) (event : Event) (v : World SessionView Load) (grown : List Passed) (now : Bool) (filled : Option (List ℕ)) → (told ≡ Memory → ⊥) → IfBad told (λ x. ⊥) → IsUntaken told w event v sunk filled → IsListed w listed event wire now grown
      → IsDownloaded (Err told) s.image grown held filled
  refused_by told Send v grown now filled some good r lists = let comes = r.comes in absurd (cc)
  refused_by told (ToUnit place) v grown now filled some good r lists = let comes = r.comes in absurd (cc)
  refused_by told (ToLoader place) v grown now filled some good r lists = refused_there told place r.packet v grown now filled some good r.comes r.refusal lists

  same_wire : {r : Result (Unit {0}) DownloadFault} {sink : Option (List ℕ)} (grown : List Passed) → grown ≡ wire → IsDownloaded r s.image wire held sink → IsDownloaded r s.image grown held sink
  same_wire {r} {sink} grown same d = subst (λ (l : List Passed). IsDownloaded r s.image l held sink) (sym same) d

  -- Memory ran out: no piece lacks room but one that is longer than the longest message.
  lacking : (place : ℕ) (p : Packet) (grown : List Passed) (now : Bool) → slice_get w.answers place ≡ Some p → LacksRoom w.loader p → AnswerIsListed (brought asked w.loader p) listed wire now grown → IsDownloaded (Err Memory) s.image grown held sunk
  lacking place p grown now is lacks lists =
      let one : AnswerIsListed (Some lacks.frame) listed wire now grown = subst (λ (o : Option (List ℕ)). AnswerIsListed o listed wire now grown) lacks.brings lists in
      let room = u.room in
      let long = lacks.long in
      refused_ended s held w listed wire sunk u Memory place p lacks.frame grown sunk is lacks.brings one.1 ((lacks.request, lacks.piece), omega arith, Keeps-refl sunk) tt

  memory_taking : (place : ℕ) (o : Option Packet) (grown : List Passed) (now : Bool) → is_over w.loader.side ≡ false → slice_get w.answers place ≡ o → IfSome o (LacksRoom w.loader) → AnswerIsListed (brought_by w o) listed wire now grown → IsDownloaded (Err Memory) s.image grown held sunk
  memory_taking place None grown now over is lacks lists = same_wire {r = Err Memory} {sink = sunk} grown lists.1 (memory_ended s held w listed wire sunk u over)
  memory_taking place (Some p) grown now over is lacks lists = lacking place p grown now is lacks lists

  memory_sending : (b : Bool) (o : Option Packet) (grown : List Passed) (now : Bool) → is_over w.loader.side ≡ false → request_of asked w.loader ≡ o → Lists b u.exchanges w wire → RequestIsListed b (frame_of o) wire now grown → IsDownloaded (Err Memory) s.image grown held sunk
  memory_sending true o grown now over is has lists = same_wire {r = Err Memory} {sink = sunk} grown lists.1 (memory_ended s held w listed wire sunk u over)
  memory_sending false None grown now over is has lists = same_wire {r = Err Memory} {sink = sunk} grown lists.1 (memory_ended s held w listed wire sunk u over)
  memory_sending false (Some p) grown now over is has lists =
      let a = some_of (asked w.loader.side) over in
      let frame : p.frame ≡ Some a.0 = (sent_is asked w.loader p is).frame ∙ a.1 in
      let there : RequestIsListed false (Some a.0) wire now grown = subst (λ (f : Option (List ℕ)). RequestIsListed false f wire now grown) frame lists in
      ended s held w listed wire sunk u Memory a.0 (of_loader a.0 ∷ []) grown a.1 (inr refl) (there.1 ∙ ap (λ (l : List Passed). l ++ of_loader a.0 ∷ []) has.0) (λ same. absurd (cc)) tt tt

  out_of_memory : (event : Event) (grown : List Passed) (now : Bool) → is_over w.loader.side ≡ false → IsListed w listed event wire now grown → IfSome (to_loader w event) (LacksRoom w.loader) → IsDownloaded (Err Memory) s.image grown held sunk
  out_of_memory Send grown now over lists lacks = memory_sending listed (request_of asked w.loader) grown now over refl u.lists lists
  out_of_memory (ToUnit place) grown now over lists lacks = same_wire {r = Err Memory} {sink = sunk} grown lists.1 (memory_ended s held w listed wire sunk u over)
  out_of_memory (ToLoader place) grown now over lists lacks = memory_taking place (slice_get w.answers place) grown now over refl lacks lists

  -- the unit did not answer
  unit_failed : (event : Event) (grown : List Passed) (now : Bool) → IsListed w listed event wire now grown → AsksUnit w.unit (to_unit w event) → IsDownloaded (Err Failed) s.image grown held sunk
  unit_failed Send grown now lists a = let is = a.requests.is in absurd (cc)
  unit_failed (ToUnit place) grown now lists a = same_wire {r = Err Failed} {sink = sunk} grown lists.1 (failed_ended s held w listed wire sunk u place a)
  unit_failed (ToLoader place) grown now lists a = let is = a.requests.is in absurd (cc)

  unit_bad : (bad : ℕ) (event : Event) (grown : List Passed) (now : Bool) → IsListed w listed event wire now grown → AsksUnit w.unit (to_unit w event) → is_judged w.unit.side ≡ false → IfSome s.image (λ x. first_bad_place x ≡ Some bad)
      → IsDownloaded (Err (BadUnit bad)) s.image grown held sunk
  unit_bad bad Send grown now lists a judged is_bad = let is = a.requests.is in absurd (cc)
  unit_bad bad (ToUnit place) grown now lists a judged is_bad = same_wire {r = Err (BadUnit bad)} {sink = sunk} grown lists.1 (bad_ended s held w listed wire sunk u place bad a judged is_bad)
  unit_bad bad (ToLoader place) grown now lists a judged is_bad = let is = a.requests.is in absurd (cc)

  unit_silent : (event : Event) (v : World SessionView Load) (grown : List Passed) (now : Bool) → IsListed w listed event wire now grown → Happens (download_sides s.image) w event v [] → IsSilent w.unit (to_unit w event) v.unit → IsDownloaded (Err Changed) s.image grown held sunk
  unit_silent Send v grown now lists happens silent = let is = silent.requests.is in absurd (cc)
  unit_silent (ToUnit place) v grown now lists happens silent = same_wire {r = Err Changed} {sink = sunk} grown lists.1 (silent_ended s held w listed wire sunk u v place happens silent)
  unit_silent (ToLoader place) v grown now lists happens silent = let is = silent.requests.is in absurd (cc)

-- WHAT AN EVENT LEAVES of a download that is underway.
module _ (s : State) (held : Option (List ℕ)) (w : World SessionView Load) (listed : Bool) (wire : List Passed) (sunk : Option (List ℕ)) (u : IsUnderway s.image held w listed wire sunk) (event : Event) (over : is_over w.loader.side ≡ false) (v : World SessionView Load) (now : Bool) (grown : List Passed) (filled : Option (List ℕ)) (lists : IsListed w listed event wire now grown) where
  still : Keeps sunk filled → IsUnderway s.image held w listed wire filled
  still keeps = kept_underway s.image held w listed wire sunk filled u keeps

  changed : IsSilence s.image w event v sunk filled ⊎ IsUntaken Changed w event v sunk filled → IsDownloaded (Err Changed) s.image grown held filled
  changed (inl silence) = unit_silent s held w listed wire filled (still silence.kept) event v grown now lists silence.happens silence.silent
  changed (inr untaken) = refused_by s held w listed wire sunk u Changed event v grown now filled (λ is. absurd (cc)) tt untaken lists

  pub goes : (r : Result (Unit {0}) DownloadFault) → IsStep r s.image w event v sunk filled → IfSome s.image (Knows v.unit.side) → w.loader.side.room ≤ v.loader.side.room → DownloadGoesOn r s.image held v now grown filled
  goes (Ok done) step knows room = goes_on s held w listed wire sunk u event step.0 grown now v filled over lists step.1 step.2 knows room
  goes (Err Failed) step knows room = unit_failed s held w listed wire filled (still step.kept) event grown now lists step.asks
  goes (Err (BadUnit place)) step knows room = unit_bad s held w listed wire filled (still step.0.kept) place event grown now lists step.0.asks step.1 step.2
  goes (Err Changed) step knows room = changed step
  goes (Err WriteFault) step knows room = refused_by s held w listed wire sunk u WriteFault event v grown now filled (λ is. absurd (cc)) tt step lists
  goes (Err Memory) step knows room = out_of_memory s held w listed wire filled (still step.1) event grown now over lists step.2
