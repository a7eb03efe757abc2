-- What the ends do about the packet of a place, and what that is of a world.
use Rattle.std.proofs.Common.{◌≡◌, ◌∙◌, ℕ, ◌+◌, ◌≤◌, ◌<◌, Bool, true, false, List, [], ◌∷◌, ◌++◌, length, Option, Some, None, Result, Ok, Err, refl, sym, ap, subst, inl, inr, arith}
use Rattle.std.specs.Prelude.{◌==◌, ◌&&◌, not, is_none, nat_lt, slice_get, option_to_list, is_ok, is_err, OnOk, OnErr, IfErr, IfSome, if◌then◌else◌}
use Rattle.std.specs.Io.KnownBytes.{Appends, Keeps}
use Rattle.std.proofs.KnownBytes.{Appends-nil, Appends-kept, Keeps-refl}
use Rattle.std.proofs.lemmas.Bool.Decides.{nat_tests}
use Rattle.link_model.specs.declared.request.Request.{Request}
use Rattle.link_model.specs.Frames.{Right}
use Rattle.link_frames.specs.Asking.{asks_unit}
use Rattle.link_session.specs.Told.{SessionView}
use Rattle.link_loader.specs.declared.kind.Kind.TheVariants.{Piece}
use Rattle.link_loader.specs.declared.fault.LoadFault.{LoadFault}
use Rattle.link_loader.specs.declared.fault.LoadFault.TheVariants as load
use Rattle.link_loader.specs.Coming.{kind_of}
use Rattle.link_loader.specs.Loading.{Load, IsRefused, LeavesSink, with_piece}
use Rattle.unit_download.specs.declared.fault.DownloadFault.{DownloadFault}
use Rattle.unit_download.specs.declared.fault.DownloadFault.TheVariants.{Failed, BadUnit, Changed, WriteFault, Memory}
use Rattle.noisy_model.specs.declared.packet.Packet.{Packet}
use Rattle.noisy_model.specs.declared.event.Event.TheVariants.{Send, ToUnit, ToLoader}
use Rattle.noisy_model.specs.Ends.{UnitEnd, LoaderEnd, Taken, Arrival, New, Again, Passed, Hears, HearsBy, packet, request_of, arrival_by, brought}
use Rattle.noisy_model.specs.Worlds.{World, ComesToUnit, ComesToLoader}
use Rattle.noisy_model.proofs.Arriving.{Cases, cases}
use Rattle.noisy_link.specs.Sides.{IsReply, TakesPacket, LeavesEnd, asked, download_sides, puts_of}
use Rattle.noisy_link.specs.Steps.{told_as, IsRefusal, LacksRoom, EndHears, AsksUnit, IsSilent, IsHearing, EndTakes, IsTaking, IsUntaken, IsStep}

pub hears_there : (image : Option (List ℕ)) (old : UnitEnd SessionView) (sent : List Packet) (place : ℕ) (p : Packet) (new : UnitEnd SessionView) (given now : List Packet) (answer : Option Packet) → slice_get sent place ≡ Some p
    → Hears (IsReply image) old p new answer → now ≡ given ++ option_to_list answer → EndHears image old (slice_get sent place) new given now
hears_there image old sent place p new given now answer is hears grown = subst (λ (o : Option Packet). EndHears image old o new given now) (sym is) (answer, hears, grown)

-- a push into room that was made
pub pushed : {E : Type 0} (r : Result (Unit {0}) E) (old mid new : List Packet) (x : Packet) (cap len : ℕ) → mid ≡ old → new ≡ (if is_ok r then mid ++ x ∷ [] else mid) → OnErr r (cap ≤ len) → len + 1 ≤ cap → new ≡ old ++ x ∷ []
pushed (Ok u) old mid new x cap len same items full room = items ∙ ap (λ (l : List Packet). l ++ x ∷ []) same
pushed (Err e) old mid new x cap len same items full room = absurd (omega arith)

pub ok_so : {T E P : Type 0} (r : Result T E) → is_err r ≡ false → OnOk r P → P
ok_so (Ok x) is p = p
ok_so (Err e) is p = absurd (cc)

-- a request that the unit did not answer asks it
pub asks_there : (e : UnitEnd SessionView) (sent : List Packet) (place : ℕ) (p : Packet) → slice_get sent place ≡ Some p → (request : List ℕ) × (arrival_by e.last p.number p.frame ≡ New request) × (asks_unit e.side.state (Right request) ≡ true)
    → AsksUnit e (slice_get sent place)
asks_there e sent place p is t = record { request = t.0; requests = record { packet = p; is = is; new_one = t.1 }; asks = t.2 }

same_number : (m n : ℕ) → m ≡ n → (m == n) ≡ true
same_number m n same = grind (arith, nat_tests)

-- by its frame and its number it is new
arrives_new : (last number : ℕ) (o : Option (List ℕ)) (request : List ℕ) → o ≡ Some request → number ≡ last + 1 → arrival_by last number o ≡ New request
arrives_new last number o request is same =
    ap (arrival_by last number) is ∙ ap (λ (b : Bool). if b then New request else if number == last && nat_lt 0 last then Again else Passed) (same_number number (last + 1) same)

both_so : (a b : Bool) → (a && b) ≡ true → (a ≡ true) × (b ≡ true)
both_so true b is = (refl, is)
both_so false b is = absurd (cc)

none_so : (o : Option (List ℕ)) → is_none o ≡ true → o ≡ None
none_so None is = refl
none_so (Some x) is = absurd (cc)

one_packet : (p q : Packet) → Some p ≡ Some q → p ≡ q
one_packet p q e = cc

-- a packet without a frame, of another number than the last one before, answers a new request
pub silent_there : (image : Option (List ℕ)) (old : UnitEnd SessionView) (p : Packet) (new : UnitEnd SessionView) (answer : Packet) (o : Option Packet) → o ≡ Some p → Hears (IsReply image) old p new (Some answer)
    → (is_none answer.frame && not (answer.number == old.last)) ≡ true → IsSilent old o new
silent_there image old p new answer o is hears test = by (cases (IsReply image) old p new (Some answer) hears)
  where
    both : (is_none answer.frame ≡ true) × (not (answer.number == old.last) ≡ true)
    both = both_so (is_none answer.frame) (not (answer.number == old.last)) test

    other : (b : Bool) → b ≡ true → not b ≡ true → ⊥
    other true is off = cc
    other false is off = cc

    by : Cases (IsReply image) old p new (Some answer) → IsSilent old o new
    by (inl n) =
        let same = one_packet answer (packet new.last new.kept) n.answer_is in
        record {
          request = n.request;
          requests = record { packet = p; is = is; new_one = arrives_new old.last p.number p.frame n.request n.frame n.number };
          none = sym (ap (λ (q : Packet). q.frame) same) ∙ none_so answer.frame both.0;
        }
    by (inr (inl a)) =
        let same = one_packet answer (packet old.last old.kept) a.answer_is in
        absurd (other (answer.number == old.last) (same_number answer.number old.last (ap (λ (q : Packet). q.number) same)) both.1)
    by (inr (inr passed)) = let e = passed.answer_is in absurd (cc)

-- what the code tests
abbrev pub is_silence_of : Option Packet → (last : ℕ) → Bool
is_silence_of None last = false
is_silence_of (Some answer) last = is_none answer.frame && not (answer.number == last)

-- where that is not so there is an answer
pub spoken_there : (image : Option (List ℕ)) (old : UnitEnd SessionView) (p : Packet) (new : UnitEnd SessionView) (answer o : Option Packet) → o ≡ Some p → Hears (IsReply image) old p new answer → is_silence_of answer old.last ≡ false → IsSilent old o new → ⊥
spoken_there image old p new answer o is hears test silent =
    let r = silent.requests in
    let same : p ≡ r.packet = one_packet p r.packet (sym is ∙ r.is) in
    let new_one : arrival_by old.last p.number p.frame ≡ New silent.request = ap (λ (q : Packet). arrival_by old.last q.number q.frame) same ∙ r.new_one in
    let told : HearsBy (IsReply image) old (New silent.request) new answer = subst (λ (a : Arrival). HearsBy (IsReply image) old a new answer) new_one hears in
    let back : is_silence_of answer old.last ≡ not (new.last == old.last) = ap (λ (q : Option Packet). is_silence_of q old.last) told.2 ∙ ap (λ (k : Option (List ℕ)). is_silence_of (Some (packet new.last k)) old.last) silent.none in
    other (new.last == old.last) (further new.last old.last told.1) (sym back ∙ test)
  where
    further : (m n : ℕ) → m ≡ n + 1 → (m == n) ≡ false
    further m n is = grind (arith, nat_tests)

    other : (b : Bool) → b ≡ false → not b ≡ false → ⊥
    other true off on = cc
    other false off on = cc

pub none_spoken : (old new : UnitEnd SessionView) (o : Option Packet) → o ≡ None → IsSilent old o new → ⊥
none_spoken old new o is silent = let some = silent.requests.is in cc

same_frame : (o : Option (List ℕ)) (one two : List ℕ) → o ≡ Some one → o ≡ Some two → two ≡ one
same_frame o one two is other = cc

-- a piece for which there is no room
pub lacks_room : (e : LoaderEnd Load) (p : Packet) (one two : List ℕ) → brought asked e p ≡ Some one → brought asked e p ≡ Some two → (request : Request) × (kind_of e.side.loading.stage one ≡ Piece request)
    → e.side.room < length (with_piece e.side.loading.bytes two) → LacksRoom e p
lacks_room e p one two is other piece long =
    let same = same_frame (brought asked e p) one two is other in
    record { frame = one; brings = is; request = piece.0; piece = piece.1; long = subst (λ (f : List ℕ). e.side.room < length (with_piece e.side.loading.bytes f)) same long }

-- the answer of a place is taken
pub takes_there : (old : LoaderEnd Load) (answers : List Packet) (place : ℕ) (p : Packet) (new : LoaderEnd Load) (any : Bool) (held sunk : Option (List ℕ)) → slice_get answers place ≡ Some p → TakesPacket old p new any held sunk → EndTakes old (slice_get answers place) new held sunk
takes_there old answers place p new any held sunk is takes = subst (λ (o : Option Packet). EndTakes old o new held sunk) (sym is) (any, takes)

-- it is refused, or not put out
pub refusal_there : (told : DownloadFault) (fault : LoadFault) (old : LoaderEnd Load) (answers : List Packet) (place : ℕ) (p : Packet) (new : LoaderEnd Load) (held sunk : Option (List ℕ)) → slice_get answers place ≡ Some p → told ≡ told_as fault
    → (frame : List ℕ) × (brought asked old p ≡ Some frame) × IsRefused old.side.loading frame fault × LeavesSink old.side.loading frame fault held sunk → LeavesEnd fault old new
    → (q : Packet) × (slice_get answers place ≡ Some q) × IsRefusal told old q new held sunk
refusal_there told fault old answers place p new held sunk is told_is r leaves = (p, is, record { frame = r.0; brings = r.1; fault = fault; told_is = told_is; refused = r.2; sink = r.3; leaves = leaves })

-- there is no room for it
pub memory_there : (fault : LoadFault) (old : LoaderEnd Load) (answers : List Packet) (place : ℕ) (p : Packet) (new : LoaderEnd Load) (held sunk : Option (List ℕ)) → slice_get answers place ≡ Some p → fault ≡ load.Memory
    → (frame : List ℕ) × (brought asked old p ≡ Some frame) × IsRefused old.side.loading frame fault × LeavesSink old.side.loading frame fault held sunk
    → (frame : List ℕ) × (brought asked old p ≡ Some frame) × (old.side.room < length (with_piece old.side.loading.bytes frame)) → new ≡ old
    → (q : Packet) × (slice_get answers place ≡ Some q) × LacksRoom old q × (new ≡ old) × Keeps held sunk
memory_there fault old answers place p new held sunk is none r enough same = (
  p,
  is,
  lacks_room old p r.0 enough.0 r.1 enough.1 (subst (λ (f : LoadFault). IsRefused old.side.loading r.0 f) none r.2) enough.2,
  same,
  subst (λ (f : LoadFault). LeavesSink old.side.loading r.0 f held sunk) none r.3,
)

abbrev pub world : List Packet → List Packet → UnitEnd SessionView → LoaderEnd Load → World SessionView Load
world sent answers unit loader = record { sent = sent; answers = answers; unit = unit; loader = loader }

world_is : (old new : World SessionView Load) → new.sent ≡ old.sent → new.answers ≡ old.answers → new.unit ≡ old.unit → new.loader ≡ old.loader → new ≡ old
world_is old new sent answers unit loader =
    ap (λ (l : List Packet). world l new.answers new.unit new.loader) sent ∙ ap (λ (l : List Packet). world old.sent l new.unit new.loader) answers
    ∙ ap (λ (e : UnitEnd SessionView). world old.sent old.answers e new.loader) unit ∙ ap (λ (e : LoaderEnd Load). world old.sent old.answers old.unit e) loader

module _ (image : Option (List ℕ)) (old new : World SessionView Load) where
  -- the loader's end sent
  pub sent_step : (r : Result (Unit {0}) DownloadFault) (held : Option (List ℕ)) → OnOk r (new.sent ≡ old.sent ++ option_to_list (request_of asked old.loader)) → IfErr r (λ fault. (fault ≡ Memory) × (new.sent ≡ old.sent))
      → new.answers ≡ old.answers → new.unit ≡ old.unit → new.loader ≡ old.loader → IsStep r image old Send new held held
  sent_step (Ok done) held sent memory answers unit loader = ([], (sent, answers, unit, loader, refl), Appends-nil held, none_spoken old.unit new.unit None refl)
  sent_step (Err fault) held sent memory answers unit loader =
      subst (λ (f : DownloadFault). IsStep (Err f) image old Send new held held) (sym memory.0) (world_is old new memory.1 answers unit loader, Keeps-refl held, tt)

  -- a packet came to the unit's end
  heard_so : (o : Option Packet) → EndHears image old.unit o new.unit old.answers new.answers → new.sent ≡ old.sent → new.loader ≡ old.loader → ComesToUnit (download_sides image) old o new
  heard_so None ends sent loader = world_is old new sent ends.1 ends.0 loader
  heard_so (Some p) ends sent loader = (ends.0, ends.1, sent, ends.2, loader)

  pub heard_step : (r : Result (Unit {0}) DownloadFault) (place : ℕ) (held : Option (List ℕ)) → IsHearing r image old.unit (slice_get old.sent place) new.unit old.answers new.answers → new.sent ≡ old.sent → new.loader ≡ old.loader
      → IsStep r image old (ToUnit place) new held held
  heard_step (Ok done) place held hearing sent loader = ([], (heard_so (slice_get old.sent place) hearing.0 sent loader, refl), Appends-nil held, hearing.1)
  heard_step (Err Failed) place held hearing sent loader = record { asks = hearing.0; same = world_is old new sent hearing.2 hearing.1 loader; kept = Keeps-refl held }
  heard_step (Err (BadUnit bad)) place held hearing sent loader =
      (record { asks = hearing.0; same = world_is old new sent hearing.2 hearing.1 loader; kept = Keeps-refl held }, hearing.3, hearing.4)
  heard_step (Err Changed) place held hearing sent loader = inl (record { happens = (heard_so (slice_get old.sent place) hearing.0 sent loader, refl); silent = hearing.1; kept = Keeps-refl held })
  heard_step (Err WriteFault) place held hearing sent loader = absurd hearing
  heard_step (Err Memory) place held hearing sent loader = (world_is old new sent hearing.1 hearing.0 loader, Keeps-refl held, tt)

  -- an answer came to the loader's end
  took_so : (o : Option Packet) (held sunk : Option (List ℕ)) → EndTakes old.loader o new.loader held sunk → new.sent ≡ old.sent → new.answers ≡ old.answers → new.unit ≡ old.unit
      → (took : List Taken) × ComesToLoader (download_sides image) old o new took × Appends held sunk (puts_of took)
  took_so None held sunk ends sent answers unit = ([], (world_is old new sent answers unit ends.0, refl), Appends-kept held held sunk [] (Appends-nil held) ends.1)
  took_so (Some p) held sunk ends sent answers unit = (ends.1.took, (ends.1.takes, sent, answers, unit), ends.1.puts)

  refused_so : (told : DownloadFault) (place : ℕ) (held sunk : Option (List ℕ)) → (p : Packet) × (slice_get old.answers place ≡ Some p) × IsRefusal told old.loader p new.loader held sunk → new.sent ≡ old.sent → new.answers ≡ old.answers → new.unit ≡ old.unit
      → IsUntaken told old (ToLoader place) new held sunk
  refused_so told place held sunk r sent answers unit = record { packet = r.0; comes = r.1; refusal = r.2; sent = sent; answers = answers; unit = unit }

  -- a loader tells neither that a unit failed nor that it is bad
  none_failed : (fault : LoadFault) → Failed ≡ told_as fault → ⊥
  none_failed (load.Negative service code) is = cc
  none_failed load.Unexpected is = cc
  none_failed (load.Broken wanted counter) is = cc
  none_failed load.WriteFault is = cc
  none_failed load.Memory is = cc

  none_bad : (place : ℕ) (fault : LoadFault) → BadUnit place ≡ told_as fault → ⊥
  none_bad place (load.Negative service code) is = cc
  none_bad place load.Unexpected is = cc
  none_bad place (load.Broken wanted counter) is = cc
  none_bad place load.WriteFault is = cc
  none_bad place load.Memory is = cc

  pub took_step : (r : Result (Unit {0}) DownloadFault) (place : ℕ) (held sunk : Option (List ℕ)) → IsTaking r old.loader (slice_get old.answers place) new.loader held sunk → new.sent ≡ old.sent → new.answers ≡ old.answers → new.unit ≡ old.unit
      → IsStep r image old (ToLoader place) new held sunk
  took_step (Ok done) place held sunk taking sent answers unit =
      let t = took_so (slice_get old.answers place) held sunk taking sent answers unit in (t.0, t.1, t.2, none_spoken old.unit new.unit None refl)
  took_step (Err Failed) place held sunk taking sent answers unit = absurd (none_failed taking.2.fault taking.2.told_is)
  took_step (Err (BadUnit bad)) place held sunk taking sent answers unit = absurd (none_bad bad taking.2.fault taking.2.told_is)
  took_step (Err Changed) place held sunk taking sent answers unit = inr (refused_so Changed place held sunk taking sent answers unit)
  took_step (Err WriteFault) place held sunk taking sent answers unit = refused_so WriteFault place held sunk taking sent answers unit
  took_step (Err Memory) place held sunk taking sent answers unit =
      (world_is old new sent answers unit taking.3, taking.4, subst (λ (o : Option Packet). IfSome o (LacksRoom old.loader)) (sym taking.1) taking.2)
