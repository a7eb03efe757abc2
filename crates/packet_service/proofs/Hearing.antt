-- What a datagram leaves, by what an end does about its packet.
use Rattle.std.proofs.Common.{◌≡◌, ◌∙◌, ℕ, ◌<◌, ◌≤◌, true, false, List, [], ◌∷◌, length, Option, Some, None, Result, Ok, Err, refl, sym, ap, subst, arith, append-nil}
use Rattle.std.specs.Prelude.{◌==◌, OnOk, IfErr, IsErrAnd, option_to_list}
use Rattle.std.proofs.lemmas.Bool.Decides.{nat_tests}
use Rattle.std.specs.Io.KnownBytes.{Appends}
use Rattle.std.proofs.KnownBytes.{Appends-nil}
use Rattle.tach_media.specs.Streams.{AppendsFront}
use Rattle.tach_media.specs.Medium.{State, Rose}
use Rattle.unit_minutes.specs.Reading.{ReadsIfAny}
use Rattle.link_model.specs.Frames.{Right}
use Rattle.link_frames.specs.Asking.{asks_unit}
use Rattle.link_session.specs.Told.{SessionView}
use Rattle.link_loader.specs.declared.fault.LoadFault.{LoadFault}
use Rattle.link_loader.specs.declared.fault.LoadFault.TheVariants as load
use Rattle.link_loader.specs.Loading.{Load, IsRefused, LeavesSink, with_piece}
use Rattle.noisy_model.specs.declared.packet.Packet.{Packet}
use Rattle.noisy_model.specs.Ends.{UnitEnd, LoaderEnd, Taken, New, Hears, arrival_by, request_of, brought}
use Rattle.noisy_model.specs.Packets.{packet_bytes, packet_in}
use Rattle.noisy_link.specs.Sides.{IsReply, TakesPacket, asked, took_any}
use Rattle.noisy_link.specs.Steps.{AsksUnit}
use Rattle.noisy_link.proofs.Stepping.{lacks_room}
use Rattle.link_session.specs.Served.{IsCaused, has_failed}
use Rattle.link_session.proofs.ServeFaults.{passed}
use Rattle.link_session.specs.declared.fault.ServeFault.{ServeFault}
use Rattle.link_session.specs.declared.fault.ServeFault.TheVariants.{WriteFault}
use Rattle.packet_service.specs.declared.loading.PacketsFault.{PacketsFault}
use Rattle.packet_service.specs.declared.loading.PacketsFault.TheVariants as packets
use Rattle.packet_service.specs.Datagrams.{datagram}
use Rattle.packet_service.specs.Serving.{stream_of_packets, IsHeard}
use Rattle.packet_service.specs.Loading.{Sinks, sent_by, sent_behind, TakesAny, TakesDatagram, RefusesLast, FailsAt, IsTaken}
use Rattle.packet_service.specs.Loading as loading

pub one_packet_stream : (a : Packet) → stream_of_packets (a ∷ []) ≡ datagram (packet_bytes a)
one_packet_stream a = append-nil (datagram (packet_bytes a))

-- THE UNIT'S END: no packet, one that is passed over, or one to which an answer goes back
module _ (image : Option (List ℕ)) (old : UnitEnd SessionView) where
  pub heard_none : (o : Option Packet) (held : Option (List ℕ)) → o ≡ None → IsHeard (Ok tt) image old o old held held
  heard_none o held none = subst (λ (q : Option Packet). IsHeard (Ok tt) image old q old held held) (sym none) ([], (refl, refl), Appends-nil held)

  pub heard_silent : (o : Option Packet) (p : Packet) (new : UnitEnd SessionView) (held : Option (List ℕ)) → o ≡ Some p → Hears (IsReply image) old p new None → IsHeard (Ok tt) image old o new held held
  heard_silent o p new held is hears = subst (λ (q : Option Packet). IsHeard (Ok tt) image old q new held held) (sym is) ([], (None, hears, refl), Appends-nil held)

  pub heard_back : (r : Result (Unit {0}) ServeFault) (o : Option Packet) (p : Packet) (new : UnitEnd SessionView) (a : Packet) (held sunk : Option (List ℕ)) (R : Type 0) → o ≡ Some p → Hears (IsReply image) old p new (Some a)
      → OnOk r (Appends held sunk (datagram (packet_bytes a))) → IfErr r (λ fault. (fault ≡ WriteFault) × AppendsFront held sunk (datagram (packet_bytes a)) × R) → IsHeard r image old o new held sunk
  heard_back (Ok done) o p new a held sunk R is hears ok err =
      subst (λ (q : Option Packet). IsHeard (Ok done) image old q new held sunk) (sym is)
      (a ∷ [], (Some a, hears, refl), subst (λ (l : List ℕ). Appends held sunk l) (sym (one_packet_stream a)) ok)
  heard_back (Err fault) o p new a held sunk R is hears ok err =
      subst (λ (f : ServeFault). IsHeard (Err f) image old o new held sunk) (sym err.0)
      (subst (λ (q : Option Packet). IsHeard (Err WriteFault) image old q new held sunk) (sym is)
      (a ∷ [], (Some a, hears, refl), subst (λ (l : List ℕ). AppendsFront held sunk l) (sym (one_packet_stream a)) err.1))

  -- the unit was asked, and has not answered
  pub asks_there : (o : Option Packet) (p : Packet) → o ≡ Some p → (request : List ℕ) × (arrival_by old.last p.number p.frame ≡ New request) × (asks_unit old.side.state (Right request) ≡ true) → AsksUnit old o
  asks_there o p is t = record { request = t.0; requests = record { packet = p; is = is; new_one = t.1 }; asks = t.2 }

-- its cause, and what it says of the unit
pub caused_back : (r : Result (Unit {0}) ServeFault) (A R : Type 0) (Q : ℕ → Type 0) → IfErr r (λ fault. (fault ≡ WriteFault) × A × R) → IfErr r (λ fault. IsCaused fault ⊥ R Q)
caused_back (Ok done) A R Q err = tt
caused_back (Err fault) A R Q err = subst (λ (f : ServeFault). IsCaused f ⊥ R Q) (sym err.0) err.2

pub back_reads : (r : Result (Unit {0}) ServeFault) (A R : Type 0) (s t : State) → IfErr r (λ fault. (fault ≡ WriteFault) × A × R) → ReadsIfAny s t false → ReadsIfAny s t (has_failed r)
back_reads (Ok done) A R s t err reads = reads
back_reads (Err fault) A R s t err reads = subst (λ (f : ServeFault). ReadsIfAny s t (has_failed {T = Unit {0}} (Err f))) (sym err.0) reads

-- THE LOADER'S END: a datagram with something in it
any_datagram : (old : LoaderEnd Load) (bytes : List ℕ) (new : LoaderEnd Load) (took : List Taken) (out : List Packet) → (bytes ≡ [] → ⊥) → TakesAny old (packet_in bytes) new took out → TakesDatagram old bytes new took out
any_datagram old [] new took out some takes = absurd (some refl)
any_datagram old (byte ∷ bytes) new took out some takes = takes

nothing_behind : (took : List Taken) (e : LoaderEnd Load) → false ≡ took_any took → [] ≡ sent_behind took e
nothing_behind [] e is = refl
nothing_behind (t ∷ took) e is = absurd (cc)

next_behind : (took : List Taken) (e : LoaderEnd Load) → true ≡ took_any took → sent_by e ≡ sent_behind took e
next_behind [] e is = absurd (cc)
next_behind (t ∷ took) e is = refl

kept_nothing : (held sunk : Option (List ℕ)) → sunk ≡ held → Appends held sunk []
kept_nothing held sunk same = subst (λ (o : Option (List ℕ)). Appends held o []) (sym same) (Appends-nil held)

module _ (old : LoaderEnd Load) (bytes : List ℕ) (held sunk : Sinks) where
  -- an empty one: it sends again
  pub taken_again : (r : Result (Unit {0}) PacketsFault) (R : Type 0) → bytes ≡ [] → OnOk r (Appends held.link sunk.link (stream_of_packets (sent_by old)))
      → IfErr r (λ fault. (fault ≡ packets.WriteFault) × AppendsFront held.link sunk.link (stream_of_packets (sent_by old)) × R) → sunk.file ≡ held.file → IsTaken r old bytes old held sunk
  taken_again (Ok done) R none ok err filed =
      subst (λ (l : List ℕ). IsTaken (Ok done) old l old held sunk) (sym none) ([], sent_by old, (refl, refl, refl), ok, kept_nothing held.file sunk.file filed)
  taken_again (Err fault) R none ok err filed =
      subst (λ (f : PacketsFault). FailsAt f old bytes held sunk) (sym err.0)
      (subst (λ (l : List ℕ). FailsAt packets.WriteFault old l held sunk) (sym none) (old, [], sent_by old, (refl, refl, refl), kept_nothing held.file sunk.file filed, err.1))

  -- one that is no packet
  pub taken_none : (bytes ≡ [] → ⊥) → packet_in bytes ≡ None → sunk.link ≡ held.link → sunk.file ≡ held.file → IsTaken (Ok tt) old bytes old held sunk
  taken_none some none linked filed = (
    [],
    [],
    any_datagram old bytes old [] [] some (subst (λ (o : Option Packet). TakesAny old o old [] []) (sym none) (refl, refl, refl)),
    kept_nothing held.link sunk.link linked,
    kept_nothing held.file sunk.file filed,
  )

  module _ (p : Packet) (some : bytes ≡ [] → ⊥) (is : packet_in bytes ≡ Some p) (new : LoaderEnd Load) where
    -- a packet that is not taken
    pub taken_not : TakesPacket old p new false held.file sunk.file → sunk.link ≡ held.link → IsTaken (Ok tt) old bytes new held sunk
    taken_not t linked = (
      t.took,
      [],
      any_datagram old bytes new t.took [] some (subst (λ (o : Option Packet). TakesAny old o new t.took []) (sym is) (t.takes, nothing_behind t.took new t.yes_is)),
      kept_nothing held.link sunk.link linked,
      t.puts,
    )

    -- one that is taken: the next request goes out
    pub taken_next : (r : Result (Unit {0}) PacketsFault) (R : Type 0) → TakesPacket old p new true held.file sunk.file → OnOk r (Appends held.link sunk.link (stream_of_packets (sent_by new)))
        → IfErr r (λ fault. (fault ≡ packets.WriteFault) × AppendsFront held.link sunk.link (stream_of_packets (sent_by new)) × R) → IsTaken r old bytes new held sunk
    taken_next (Ok done) R t ok err = (
      t.took,
      sent_by new,
      any_datagram old bytes new t.took (sent_by new) some (subst (λ (o : Option Packet). TakesAny old o new t.took (sent_by new)) (sym is) (t.takes, next_behind t.took new t.yes_is)),
      ok,
      t.puts,
    )
    taken_next (Err fault) R t ok err =
        subst (λ (f : PacketsFault). FailsAt f old bytes held sunk) (sym err.0) (
          new,
          t.took,
          sent_by new,
          any_datagram old bytes new t.took (sent_by new) some (subst (λ (o : Option Packet). TakesAny old o new t.took (sent_by new)) (sym is) (t.takes, next_behind t.took new t.yes_is)),
          t.puts,
          err.1,
        )

  -- one that is refused, or not put out
  module _ (p : Packet) (is : packet_in bytes ≡ Some p) (fault : LoadFault) (r : (frame : List ℕ) × (brought asked old p ≡ Some frame) × IsRefused old.side.loading frame fault × LeavesSink old.side.loading frame fault held.file sunk.file) where
    pub refused_last : (other : LoadFault) → fault ≡ other → sunk.link ≡ held.link → RefusesLast other old bytes held sunk
    refused_last other same linked =
        subst (λ (f : LoadFault). RefusesLast f old bytes held sunk) same (record { packet = p; is = is; frame = r.0; brings = r.1; refused = r.2; file = r.3; link = linked })

    pub lacks_last : fault ≡ load.Memory → (frame : List ℕ) × (brought asked old p ≡ Some frame) × (old.side.room < length (with_piece old.side.loading.bytes frame)) → sunk.link ≡ held.link → FailsAt packets.Memory old bytes held sunk
    lacks_last same enough linked = (
      p,
      is,
      lacks_room old p r.0 enough.0 r.1 enough.1 (subst (λ (f : LoadFault). IsRefused old.side.loading r.0 f) same r.2) enough.2,
      linked,
      subst (λ (f : LoadFault). LeavesSink old.side.loading r.0 f held.file sunk.file) same r.3,
    )

-- whether a datagram has anything in it
pub empty_so : (l : List ℕ) → (length l == 0) ≡ true → l ≡ []
empty_so [] is = refl
empty_so (x ∷ l) is = absurd (grind (arith, nat_tests))

pub filled_so : (l : List ℕ) → (length l == 0) ≡ false → l ≡ [] → ⊥
filled_so l is none = let size : length l ≡ 0 = ap length none in grind (arith, nat_tests)

-- what is sent by the packet that is sent
pub sent_one : (e : LoaderEnd Load) (p : Packet) → request_of asked e ≡ Some p → stream_of_packets (sent_by e) ≡ datagram (packet_bytes p)
sent_one e p is = ap (λ (o : Option Packet). stream_of_packets (option_to_list o)) is ∙ one_packet_stream p

pub sent_none : (e : LoaderEnd Load) → request_of asked e ≡ None → stream_of_packets (sent_by e) ≡ []
sent_none e is = ap (λ (o : Option Packet). stream_of_packets (option_to_list o)) is

-- a fault of the link alone
pub caused_sending : (r : Result (Unit {0}) PacketsFault) (A R F : Type 0) → IfErr r (λ fault. (fault ≡ packets.WriteFault) × A × R) → IfErr r (λ fault. loading.IsCaused fault ⊥ R F)
caused_sending (Ok done) A R F err = tt
caused_sending (Err fault) A R F err = subst (λ (f : PacketsFault). loading.IsCaused f ⊥ R F) (sym err.0) err.2

-- a fault that was passed on, of calls behind others
caused_later : {R S : Type 0} (fault : PacketsFault) (a b n x y m : ℕ) → (R → S) → a ≤ b → x ≤ y → loading.IsCaused fault R (Rose b n) (Rose y m) → loading.IsCaused fault S (Rose a n) (Rose x m)
caused_later packets.ReadFault a b n x y m read link file is = read is
caused_later packets.WriteFault a b n x y m read link file is = omega (arith, link, is)
caused_later packets.FileFault a b n x y m read link file is = omega (arith, file, is)
caused_later packets.Changed a b n x y m read link file is = tt
caused_later packets.TooLong a b n x y m read link file is = tt
caused_later packets.Ended a b n x y m read link file is = tt
caused_later packets.Memory a b n x y m read link file is = tt

pub caused_passed : (r : Result (Unit {0}) PacketsFault) (fault : PacketsFault) (R S : Type 0) (a b n x y m : ℕ) → IsErrAnd r (λ v. v ≡ fault) → (R → S) → a ≤ b → x ≤ y → loading.IsCaused fault R (Rose b n) (Rose y m)
    → IfErr r (λ f. loading.IsCaused f S (Rose a n) (Rose x m))
caused_passed r fault R S a b n x y m is read link file caused = passed r fault (λ f. loading.IsCaused f S (Rose a n) (Rose x m)) is (caused_later {R = R} {S = S} fault a b n x y m read link file caused)

-- the first request was not sent
pub caused_first : (r : Result (Unit {0}) PacketsFault) (fault : PacketsFault) (A R S F : Type 0) → IsErrAnd r (λ v. v ≡ fault) → (fault ≡ packets.WriteFault) × A × R → IfErr r (λ f. loading.IsCaused f S R F)
caused_first r fault A R S F is err = passed r fault (λ f. loading.IsCaused f S R F) is (subst (λ (f : PacketsFault). loading.IsCaused f S R F) (sym err.0) err.2)
