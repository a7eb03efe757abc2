-- A download by packets, byte after byte.
use Rattle.std.proofs.Common.{◌≡◌, ◌∙◌, ℕ, ◌+◌, ◌<◌, ◌≤◌, List, [], ◌∷◌, ◌++◌, length, get_or, take, drop, Option, Result, Ok, Err, refl, sym, ap, subst, arith, append_assoc, append-nil}
use Rattle.std.specs.Io.KnownBytes.{Appends}
use Rattle.std.proofs.KnownBytes.{Appends-nil, Appends-trans}
use Rattle.link_loader.specs.Loading.{Load, begun}
use Rattle.unit_messages.specs.declared.joining.TheConstants.{LONGEST as LONGEST_MESSAGE}
use Rattle.noisy_model.specs.declared.packet.Packet.{Packet}
use Rattle.noisy_model.specs.Ends.{LoaderEnd, Taken}
use Rattle.noisy_link.specs.Sides.{puts_of}
use Rattle.packet_service.specs.declared.datagrams.Gathered.TheVariants as gathering
use Rattle.packet_service.specs.declared.loading.PacketsFault.{PacketsFault}
use Rattle.packet_service.specs.declared.loading.PacketsFault.TheVariants.{ReadFault, WriteFault, FileFault, Changed, TooLong, Ended, Memory}
use Rattle.packet_service.specs.Datagrams.{stream_of, gathered}
use Rattle.packet_service.specs.Serving.{stream_of_packets}
use Rattle.packet_service.specs.Loading.{Sinks, sent_by, TakesDatagram, TakesAll, IsLoading, FailsAt, IsTaken, LoadStopsAt, Loading, LoadingAll}
use Rattle.packet_service.proofs.Parts.{part_more, part_whole, part_long, stream_on}
use Rattle.std.specs.Prelude.{IsErrAnd}
use Rattle.tach_media.proofs.Runs.{err_is}
use Rattle.packet_service.proofs.Answering.{each_on, packets_on, front_is}

puts_on : (took more : List Taken) → puts_of (took ++ more) ≡ puts_of took ++ puts_of more
puts_on [] more = refl
puts_on (t ∷ took) more = ap (λ (l : List ℕ). t.put ++ l) (puts_on took more) ∙ sym (append_assoc t.put (puts_of took) (puts_of more))

-- one datagram more
takes_on : (old : LoaderEnd Load) (datagrams : List (List ℕ)) (mid : LoaderEnd Load) (took : List Taken) (out : List Packet) (d : List ℕ) (new : LoaderEnd Load) (more : List Taken) (sent : List Packet) → TakesAll old datagrams mid took out
    → TakesDatagram mid d new more sent → TakesAll old (datagrams ++ d ∷ []) new (took ++ more) (out ++ sent)
takes_on old [] mid took out d new more sent takes one = (
  new,
  more,
  [],
  sent,
  [],
  subst (λ (e : LoaderEnd Load). TakesDatagram e d new more sent) takes.0 one,
  (refl, refl, refl),
  ap (λ (l : List Taken). l ++ more) takes.1 ∙ sym (append-nil more),
  ap (λ (l : List Packet). l ++ sent) takes.2 ∙ sym (append-nil sent),
)
takes_on old (first ∷ datagrams) mid took out d new more sent takes one = (
  takes.0,
  takes.1,
  takes.2 ++ more,
  takes.3,
  takes.4 ++ sent,
  takes.5,
  takes_on takes.0 datagrams mid takes.2 takes.4 d new more sent takes.6 one,
  ap (λ (l : List Taken). l ++ more) takes.7 ∙ append_assoc takes.1 takes.2 more,
  ap (λ (l : List Packet). l ++ sent) takes.8 ∙ append_assoc takes.3 takes.4 sent,
)

-- the first request went out
pub loading_none : (part : List ℕ) (end : LoaderEnd Load) (held sunk : Sinks) → part ≡ [] → end.number ≡ 1 → end.side.loading ≡ begun → LONGEST_MESSAGE ≤ end.side.room
    → Appends held.link sunk.link (stream_of_packets (sent_by end)) → sunk.file ≡ held.file → IsLoading [] part end held sunk
loading_none part end held sunk none number begins room linked filed =
    subst (λ (l : List ℕ). IsLoading [] l end held sunk) (sym none)
    (record {
      datagrams = [];
      cut = record { spelled = refl; short = tt; is_part = tt };
      taken = record {
        first = end;
        number = number;
        begins = begins;
        took = [];
        out = [];
        takes = (refl, refl, refl);
        linked = subst (λ (l : List Packet). Appends held.link sunk.link (stream_of_packets l)) (sym (append-nil (sent_by end))) linked;
        filed = subst (λ (o : Option (List ℕ)). Appends held.file o []) (sym filed) (Appends-nil held.file);
        room = room;
      };
    })

module _ (held : Sinks) (came part : List ℕ) (byte : ℕ) (low : byte < 256) (end : LoaderEnd Load) (sunk : Sinks) (s : IsLoading came part end held sunk) where
  longer : came ++ byte ∷ [] ≡ stream_of s.datagrams ++ (part ++ byte ∷ [])
  longer = ap (λ (l : List ℕ). l ++ byte ∷ []) s.cut.spelled ∙ append_assoc (stream_of s.datagrams) part (byte ∷ [])

  -- the byte is one of a part
  pub loads_more : gathered (part ++ byte ∷ []) ≡ gathering.More → IsLoading (came ++ byte ∷ []) (part ++ byte ∷ []) end held sunk
  loads_more is = record { datagrams = s.datagrams; cut = record { spelled = longer; short = s.cut.short; is_part = part_more part byte low s.cut.is_part is }; taken = s.taken }

  -- it ends a length that is too long
  pub stops_long : gathered (part ++ byte ∷ []) ≡ gathering.TooLong → LoadStopsAt TooLong (came ++ byte ∷ []) held sunk
  stops_long is = record { datagrams = s.datagrams; part = part ++ byte ∷ []; spelled = longer; long = part_long part byte low s.cut.is_part is; end = end; taken = s.taken }

  -- it ends a datagram
  module _ (is : gathered (part ++ byte ∷ []) ≡ gathering.Whole) where
    abbrev whole : List ℕ
    whole = drop 2 (part ++ byte ∷ [])

    spelled : came ++ byte ∷ [] ≡ stream_of (s.datagrams ++ whole ∷ [])
    spelled = longer ∙ ap (λ (l : List ℕ). stream_of s.datagrams ++ l) (part_whole part byte low s.cut.is_part is).spelled ∙ sym (stream_on s.datagrams whole)

    taken_so : (new : LoaderEnd Load) (filled : Sinks) (took : List Taken) (out : List Packet) → end.side.room ≤ new.side.room → TakesDatagram end whole new took out → Appends sunk.link filled.link (stream_of_packets out) → Appends sunk.file filled.file (puts_of took)
        → IsLoading (came ++ byte ∷ []) [] new held filled
    taken_so new filled took out more takes linked filed =
        let t = s.taken in
        let had = t.room in
        record {
          datagrams = s.datagrams ++ whole ∷ [];
          cut = record {
            spelled = spelled ∙ sym (append-nil (stream_of (s.datagrams ++ whole ∷ [])));
            short = each_on s.datagrams whole s.cut.short (part_whole part byte low s.cut.is_part is).short;
            is_part = tt;
          };
          taken = record {
            first = t.first;
            number = t.number;
            begins = t.begins;
            took = t.took ++ took;
            out = t.out ++ out;
            takes = takes_on t.first s.datagrams end t.took t.out whole new took out t.takes takes;
            linked = subst (λ (l : List ℕ). Appends held.link filled.link l) (sym (packets_on (sent_by t.first ++ t.out) out) ∙ ap (λ (l : List Packet). stream_of_packets l) (append_assoc (sent_by t.first) t.out out))
                (Appends-trans held.link sunk.link filled.link (stream_of_packets (sent_by t.first ++ t.out)) (stream_of_packets out) t.linked linked);
            filed = subst (λ (l : List ℕ). Appends held.file filled.file l) (sym (puts_on t.took took)) (Appends-trans held.file sunk.file filled.file (puts_of t.took) (puts_of took) t.filed filed);
            room = omega arith;
          };
        }

    stops_so : (fault : PacketsFault) (filled : Sinks) → FailsAt fault end whole sunk filled → LoadStopsAt fault (came ++ byte ∷ []) held filled
    stops_so ReadFault filled fails = absurd fails
    stops_so TooLong filled fails = absurd fails
    stops_so Ended filled fails = absurd fails
    stops_so WriteFault filled fails = record { before = s.datagrams; last = whole; spelled = spelled; end = end; mid = sunk; taken = s.taken; fails = fails }
    stops_so FileFault filled fails = record { before = s.datagrams; last = whole; spelled = spelled; end = end; mid = sunk; taken = s.taken; fails = fails }
    stops_so Changed filled fails = record { before = s.datagrams; last = whole; spelled = spelled; end = end; mid = sunk; taken = s.taken; fails = fails }
    stops_so Memory filled fails = record { before = s.datagrams; last = whole; spelled = spelled; end = end; mid = sunk; taken = s.taken; fails = fails }

    pub loads_whole : (r : Result (Unit {0}) PacketsFault) (new : LoaderEnd Load) (filled : Sinks) (left : List ℕ) → left ≡ [] → end.side.room ≤ new.side.room → IsTaken r end whole new sunk filled → Loading r (came ++ byte ∷ []) left new held filled
    loads_whole (Ok done) new filled left none more taken = subst (λ (l : List ℕ). IsLoading (came ++ byte ∷ []) l new held filled) (sym none) (taken_so new filled taken.0 taken.1 more taken.2 taken.3 taken.4)
    loads_whole (Err fault) new filled left none more taken = stops_so fault filled taken

-- it ended at one of these bytes
pub all_refused : (r : Result (Unit {0}) PacketsFault) (fault : PacketsFault) (came bytes : List ℕ) (i : ℕ) (part : List ℕ) (end : LoaderEnd Load) (held sunk : Sinks) → IsErrAnd r (λ v. v ≡ fault) → i < length bytes
    → LoadStopsAt fault ((came ++ take i bytes) ++ get_or bytes i 0 ∷ []) held sunk → LoadingAll r came bytes part end held sunk
all_refused r fault came bytes i part end held sunk is under stops =
    subst (λ (q : Result (Unit {0}) PacketsFault). LoadingAll q came bytes part end held sunk) (sym (err_is r fault is))
    (length came + (i + 1), subst (λ (l : List ℕ). LoadStopsAt fault l held sunk) (front_is came bytes i under) stops)
