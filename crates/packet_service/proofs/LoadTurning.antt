-- A download by packets, read after read.
use Rattle.std.proofs.Common.{◌≡◌, ◌∙◌, ℕ, ◌+◌, ◌<◌, ◌≤◌, List, [], ◌∷◌, ◌++◌, length, take, Option, Some, true, Result, Ok, Err, refl, sym, ap, subst, inl, inr, arith, append-nil, length-append}
use Rattle.std.specs.Prelude.{IsErrAnd}
use Rattle.std.specs.Io.KnownBytes.{Consumes, IsAtEnd, Keeps}
use Rattle.std.proofs.KnownBytes.{Consumes-nil, Consumes-trans, Consumes-kept}
use Rattle.tach_media.proofs.Runs.{err_is}
use Rattle.noisy_model.specs.Ends.{LoaderEnd}
use Rattle.link_loader.specs.Loading.{Load, begun}
use Rattle.tach_media.specs.Streams.{AppendsFront}
use Rattle.packet_service.specs.Serving.{stream_of_packets}
use Rattle.noisy_link.specs.Sides.{is_over}
use Rattle.link_session.specs.Asked.{Asking, TellsMore, AnswersInTime}
use Rattle.link_session.proofs.Asked.{IsTimely, timely_none, timely_on, timely_told}
use Rattle.packet_service.specs.declared.loading.LoaderLine.{LoaderLine}
use Rattle.packet_service.specs.declared.loading.PacketsFault.{PacketsFault}
use Rattle.packet_service.specs.declared.loading.PacketsFault.TheVariants.{ReadFault, WriteFault, FileFault, Changed, TooLong, Ended, Memory}
use Rattle.packet_service.specs.declared.serving.TheConstants.{MOST_TURNS}
use Rattle.packet_service.specs.Datagrams.{IsPart}
use Rattle.packet_service.specs.Loading.{Sinks, sent_by, IsLoading, LoadStopsAt, AllTaken, LinkInTime, PacketsLoad, ArePacketsLoaded}

-- what is told of each read: all that had come was taken, and what is sent behind it was sent
abbrev pub Taken : (none came : List ℕ) → (held sunk : Option (List ℕ)) → Type 0
Taken none came held sunk = LinkInTime came held sunk

-- reads were made, and all that they gave was taken
pub record IsLoadTurning (turn : ℕ) (left unread : Option (List ℕ)) (line : LoaderLine) (held sunk : Sinks) (before asked : Option (List Asking)) : Type 0 where
  pub came : List ℕ
  pub loading : IsLoading came line.gathering line.end held sunk
  pub timely : IsTimely Taken came (Some []) held.link before asked
  pub consumed : Consumes left unread came
  pub turns : turn ≤ length came

pub all_taken : {came part : List ℕ} {end : LoaderEnd Load} {held sunk : Sinks} → IsLoading came part end held sunk → AllTaken came held sunk
all_taken {came} {part} {end} {held} {sunk} s = record { part = part; end = end; loading = s }

in_time_so : {came part : List ℕ} {end : LoaderEnd Load} {held sunk : Sinks} → IsLoading came part end held sunk → LinkInTime came held.link sunk.link
in_time_so {came} {part} {end} {held} {sunk} s = record { file_held = held.file; file_sunk = sunk.file; all = all_taken s }

pub part_loading : {came part : List ℕ} {end : LoaderEnd Load} {held sunk : Sinks} → IsLoading came part end held sunk → IsPart part
part_loading {came} {part} {end} {held} {sunk} s = s.cut.is_part

pub load_turning_none : (left : Option (List ℕ)) (line : LoaderLine) (held sunk : Sinks) (before : Option (List Asking)) → IsLoading [] line.gathering line.end held sunk → IsLoadTurning 0 left left line held sunk before before
load_turning_none left line held sunk before loading = record {
  came = [];
  loading = loading;
  timely = timely_none Taken (Some []) held.link before;
  consumed = Consumes-nil left;
  turns = omega arith;
}

module _ {turn : ℕ} {left unread : Option (List ℕ)} {line : LoaderLine} {held sunk : Sinks} {before asked : Option (List Asking)} (t : IsLoadTurning turn left unread line held sunk before asked) where
  read_on : (next : Option (List Asking)) (bytes : List ℕ) → TellsMore asked next (record { held = sunk.link; came = bytes } ∷ []) → IsTimely Taken (t.came ++ bytes) (Some []) held.link before next
  read_on next bytes told = timely_on Taken next sunk.link bytes (in_time_so t.loading) t.timely told

  pub load_turning_on : (next : Option (List Asking)) (c : Option (List ℕ)) (line2 : LoaderLine) (filled : Sinks) (bytes : List ℕ) → TellsMore asked next (record { held = sunk.link; came = bytes } ∷ []) → Consumes unread c bytes → 0 < length bytes
      → IsLoading (t.came ++ bytes) line2.gathering line2.end held filled → IsLoadTurning (turn + 1) left c line2 held filled before next
  load_turning_on next c line2 filled bytes told consumed some loading = record {
    came = t.came ++ bytes;
    loading = loading;
    timely = read_on next bytes told;
    consumed = Consumes-trans left unread c t.came bytes t.consumed consumed;
    turns = let had = t.turns in omega (arith, length-append t.came bytes);
  }

  pub link_told : (next : Option (List Asking)) (c : Option (List ℕ)) (bytes : List ℕ) → TellsMore asked next (record { held = sunk.link; came = bytes } ∷ []) → Consumes unread c bytes → AnswersInTime LinkInTime left c held.link before next
  link_told next c bytes told consumed = timely_told Taken left c (read_on next bytes told) (Consumes-trans left unread c t.came bytes t.consumed consumed)

  pub link_told_now : AnswersInTime LinkInTime left unread held.link before asked
  link_told_now = timely_told Taken left unread t.timely t.consumed

  -- the source failed
  pub load_broken : (c : Option (List ℕ)) → Keeps unread c → ArePacketsLoaded (Err ReadFault) left c held sunk
  load_broken c keeps = record { came = t.came; consumed = Consumes-kept left unread c t.came t.consumed keeps; sends = all_taken t.loading; ended = λ is. absurd (cc) }

  -- the source ended
  pub load_ended : (c : Option (List ℕ)) (bytes : List ℕ) → bytes ≡ [] → Consumes unread c bytes → IsAtEnd c → ArePacketsLoaded (Err Ended) left c held sunk
  load_ended c bytes none consumed end = record {
    came = t.came ++ bytes;
    consumed = Consumes-trans left unread c t.came bytes t.consumed consumed;
    sends = subst (λ (l : List ℕ). AllTaken l held sunk) (sym (append-nil t.came) ∙ ap (λ (l : List ℕ). t.came ++ l) (sym none)) (all_taken t.loading);
    ended = λ is. end;
  }

  pub load_long : MOST_TURNS ≤ turn → ArePacketsLoaded (Err TooLong) left unread held sunk
  load_long many = record { came = t.came; consumed = t.consumed; sends = inl (all_taken t.loading, let had = t.turns in omega arith); ended = λ is. absurd (cc) }

  -- the download is finished
  pub load_done : is_over line.end.side ≡ true → ArePacketsLoaded (Ok tt) left unread held sunk
  unfolding all_taken
  load_done over = record { came = t.came; consumed = t.consumed; sends = (all_taken t.loading, over); ended = λ is. absurd (cc) }

  -- it ended at a byte
  stopped_so : (fault : PacketsFault) (came : List ℕ) (filled : Sinks) → (n : ℕ) × LoadStopsAt fault (take n came) held filled → PacketsLoad (Err fault) came held filled
  stopped_so ReadFault came filled stops = absurd stops.1.fails
  stopped_so Ended came filled stops = absurd stops.1.fails
  stopped_so TooLong came filled stops = inr stops
  stopped_so WriteFault came filled stops = inr stops
  stopped_so FileFault came filled stops = stops
  stopped_so Changed came filled stops = stops
  stopped_so Memory came filled stops = inr stops

  never_ended : (fault : PacketsFault) (came : List ℕ) (filled : Sinks) → (n : ℕ) × LoadStopsAt fault (take n came) held filled → ◌≡◌ {A = Result (Unit {0}) PacketsFault} (Err fault) (Err Ended) → ⊥
  never_ended Ended came filled stops is = absurd stops.1.fails
  never_ended ReadFault came filled stops is = cc
  never_ended TooLong came filled stops is = cc
  never_ended WriteFault came filled stops is = cc
  never_ended FileFault came filled stops is = cc
  never_ended Changed came filled stops is = cc
  never_ended Memory came filled stops is = cc

  pub load_stopped : (r : Result (Unit {0}) PacketsFault) (fault : PacketsFault) (c : Option (List ℕ)) (filled : Sinks) (bytes : List ℕ) → IsErrAnd r (λ v. v ≡ fault) → Consumes unread c bytes → (n : ℕ) × LoadStopsAt fault (take n (t.came ++ bytes)) held filled
      → ArePacketsLoaded r left c held filled
  load_stopped r fault c filled bytes is consumed stops =
      subst (λ (q : Result (Unit {0}) PacketsFault). ArePacketsLoaded q left c held filled) (sym (err_is r fault is))
      (record { came = t.came ++ bytes; consumed = Consumes-trans left unread c t.came bytes t.consumed consumed; sends = stopped_so fault (t.came ++ bytes) filled stops; ended = λ same. absurd (never_ended fault (t.came ++ bytes) filled stops same) })

-- before the first datagram: there was no room for messages, or the link failed at the first request
pub load_unbegun : (r : Result (Unit {0}) PacketsFault) (fault : PacketsFault) (end : LoaderEnd Load) (left : Option (List ℕ)) (held sunk : Sinks) (R : Type 0) → IsErrAnd r (λ v. v ≡ fault) → end.number ≡ 1 → end.side.loading ≡ begun → sunk.file ≡ held.file
    → (fault ≡ WriteFault) × AppendsFront held.link sunk.link (stream_of_packets (sent_by end)) × R → ArePacketsLoaded r left left held sunk
load_unbegun r fault end left held sunk R is number begins filed err =
    subst (λ (q : Result (Unit {0}) PacketsFault). ArePacketsLoaded q left left held sunk) (sym (err_is r fault is ∙ ap Err err.0))
    (record { came = []; consumed = Consumes-nil left; sends = inl (record { first = end; number = number; begins = begins; linked = err.1; filed = filed }); ended = λ same. absurd (cc) })

pub load_roomless : (left : Option (List ℕ)) (held : Sinks) → ArePacketsLoaded (Err Memory) left left held held
load_roomless left held = record { came = []; consumed = Consumes-nil left; sends = inl refl; ended = λ is. absurd (cc) }

-- no read was made
pub none_asked : (left held : Option (List ℕ)) (asked : Option (List Asking)) → AnswersInTime LinkInTime left left held asked asked
none_asked left held asked = timely_told Taken left left (timely_none Taken (Some []) held asked) (Consumes-nil left)
