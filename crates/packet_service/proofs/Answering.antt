-- A service of packets, byte after byte.
use Rattle.std.proofs.Common.{◌≡◌, ◌∙◌, ℕ, ◌+◌, ◌<◌, ◌≤◌, List, [], ◌∷◌, ◌++◌, length, get_or, take, drop, Option, Result, Ok, Err, refl, sym, ap, subst, append_assoc, append-nil}
use Rattle.std.specs.List.{AllByRecursion}
use Rattle.std.specs.Io.KnownBytes.{Appends}
use Rattle.std.proofs.KnownBytes.{Appends-nil, Appends-trans}
use Rattle.std.proofs.Math.Seq.{take-append-add}
use Rattle.std.proofs.lemmas.List.{take_more}
use Rattle.std.specs.Prelude.{IsErrAnd}
use Rattle.tach_media.proofs.Runs.{err_is}
use Rattle.tach_media.specs.Streams.{AppendsFront}
use Rattle.link_session.specs.Told.{SessionView}
use Rattle.noisy_model.specs.declared.packet.Packet.{Packet}
use Rattle.noisy_model.specs.Ends.{UnitEnd}
use Rattle.noisy_model.specs.Packets.{packet_bytes, packet_in}
use Rattle.link_session.specs.declared.fault.ServeFault.{ServeFault}
use Rattle.link_session.specs.declared.fault.ServeFault.TheVariants.{ReadFault, WriteFault, Failed, BadUnit, TooLong}
use Rattle.packet_service.specs.declared.datagrams.Gathered.TheVariants as gathering
use Rattle.packet_service.specs.declared.datagrams.TheConstants.{LONGEST}
use Rattle.packet_service.specs.Datagrams.{datagram, stream_of, gathered}
use Rattle.packet_service.specs.Serving.{stream_of_packets, fresh_end, HearsAny, Serves, AreAnswered, IsServing, StopsAt, Serving, ServingAll, IsHeard}
use Rattle.packet_service.proofs.Parts.{part_more, part_whole, part_long, stream_on}

pub each_on : (datagrams : List (List ℕ)) (d : List ℕ) → AllByRecursion (λ e. length e ≤ LONGEST) datagrams → length d ≤ LONGEST → AllByRecursion (λ e. length e ≤ LONGEST) (datagrams ++ d ∷ [])
each_on [] d all one = (one, tt)
each_on (first ∷ datagrams) d all one = (all.0, each_on datagrams d all.1 one)

pub packets_on : (a b : List Packet) → stream_of_packets (a ++ b) ≡ stream_of_packets a ++ stream_of_packets b
packets_on [] b = refl
packets_on (p ∷ a) b = ap (λ (l : List ℕ). datagram (packet_bytes p) ++ l) (packets_on a b) ∙ sym (append_assoc (datagram (packet_bytes p)) (stream_of_packets a) (stream_of_packets b))

-- one datagram more
serves_on : (image : Option (List ℕ)) (old : UnitEnd SessionView) (datagrams : List (List ℕ)) (mid : UnitEnd SessionView) (answers : List Packet) (d : List ℕ) (new : UnitEnd SessionView) (more : List Packet) → Serves image old datagrams mid answers
    → HearsAny image mid (packet_in d) new more → Serves image old (datagrams ++ d ∷ []) new (answers ++ more)
serves_on image old [] mid answers d new more serves hears = (
  new,
  more,
  [],
  subst (λ (e : UnitEnd SessionView). HearsAny image e (packet_in d) new more) serves.0 hears,
  (refl, refl),
  ap (λ (l : List Packet). l ++ more) serves.1 ∙ sym (append-nil more),
)
serves_on image old (first ∷ datagrams) mid answers d new more serves hears = (
  serves.0,
  serves.1,
  serves.2 ++ more,
  serves.3,
  serves_on image serves.0 datagrams mid serves.2 d new more serves.4 hears,
  ap (λ (l : List Packet). l ++ more) serves.5 ∙ append_assoc serves.1 serves.2 more,
)

-- nothing has come
pub serving_none : (image : Option (List ℕ)) (part : List ℕ) (end : UnitEnd SessionView) (held : Option (List ℕ)) → part ≡ [] → end ≡ fresh_end → IsServing image [] part end held held
serving_none image part end held none fresh =
    subst (λ (l : List ℕ). IsServing image [] l end held held) (sym none)
    (record {
      datagrams = [];
      cut = record { spelled = refl; short = tt; is_part = tt };
      answered = record { answers = []; serves = (fresh, refl); sent = Appends-nil held };
    })

module _ (image held : Option (List ℕ)) (came part : List ℕ) (byte : ℕ) (low : byte < 256) (end : UnitEnd SessionView) (sunk : Option (List ℕ)) (s : IsServing image came part end held sunk) where
  longer : came ++ byte ∷ [] ≡ stream_of s.datagrams ++ (part ++ byte ∷ [])
  longer = ap (λ (l : List ℕ). l ++ byte ∷ []) s.cut.spelled ∙ append_assoc (stream_of s.datagrams) part (byte ∷ [])

  -- the byte is one of a part
  pub goes_more : gathered (part ++ byte ∷ []) ≡ gathering.More → IsServing image (came ++ byte ∷ []) (part ++ byte ∷ []) end held sunk
  goes_more is = record { datagrams = s.datagrams; cut = record { spelled = longer; short = s.cut.short; is_part = part_more part byte low s.cut.is_part is }; answered = s.answered }

  -- it ends a length that is too long
  pub stops_long : gathered (part ++ byte ∷ []) ≡ gathering.TooLong → StopsAt TooLong image (came ++ byte ∷ []) held sunk
  stops_long is = record { datagrams = s.datagrams; part = part ++ byte ∷ []; spelled = longer; long = part_long part byte low s.cut.is_part is; end = end; answered = s.answered }

  -- it ends a datagram
  module _ (is : gathered (part ++ byte ∷ []) ≡ gathering.Whole) where
    abbrev whole : List ℕ
    whole = drop 2 (part ++ byte ∷ [])

    spelled : came ++ byte ∷ [] ≡ stream_of (s.datagrams ++ whole ∷ [])
    spelled = longer ∙ ap (λ (l : List ℕ). stream_of s.datagrams ++ l) (part_whole part byte low s.cut.is_part is).spelled ∙ sym (stream_on s.datagrams whole)

    answered_so : (new : UnitEnd SessionView) (filled : Option (List ℕ)) (answers : List Packet) → HearsAny image end (packet_in whole) new answers → Appends sunk filled (stream_of_packets answers) → IsServing image (came ++ byte ∷ []) [] new held filled
    answered_so new filled answers hears put = record {
      datagrams = s.datagrams ++ whole ∷ [];
      cut = record {
        spelled = spelled ∙ sym (append-nil (stream_of (s.datagrams ++ whole ∷ [])));
        short = each_on s.datagrams whole s.cut.short (part_whole part byte low s.cut.is_part is).short;
        is_part = tt;
      };
      answered = record {
        answers = s.answered.answers ++ answers;
        serves = serves_on image fresh_end s.datagrams end s.answered.answers whole new answers s.answered.serves hears;
        sent = subst (λ (l : List ℕ). Appends held filled l) (sym (packets_on s.answered.answers answers)) (Appends-trans held sunk filled (stream_of_packets s.answered.answers) (stream_of_packets answers) s.answered.sent put);
      };
    }

    pub goes_whole : (r : Result (Unit {0}) ServeFault) (new : UnitEnd SessionView) (filled : Option (List ℕ)) (left : List ℕ) → left ≡ [] → IsHeard r image end (packet_in whole) new sunk filled → Serving r image (came ++ byte ∷ []) left new held filled
    goes_whole (Ok done) new filled left none heard = subst (λ (l : List ℕ). IsServing image (came ++ byte ∷ []) l new held filled) (sym none) (answered_so new filled heard.0 heard.1 heard.2)
    goes_whole (Err WriteFault) new filled left none heard = record {
      datagrams = s.datagrams ++ whole ∷ [];
      spelled = spelled;
      end = new;
      answers = s.answered.answers ++ heard.0;
      serves = serves_on image fresh_end s.datagrams end s.answered.answers whole new heard.0 s.answered.serves heard.1;
      sent = front_on s.answered.answers heard.0 s.answered.sent heard.2;
    }
      where
        front_on : (a b : List Packet) → Appends held sunk (stream_of_packets a) → AppendsFront sunk filled (stream_of_packets b) → AppendsFront held filled (stream_of_packets (a ++ b))
        front_on a b put front =
            let first = stream_of_packets a in
            let next = stream_of_packets b in
            let n = front.0 in (
              length first + n,
              subst (λ (l : List ℕ). Appends held filled l) (sym (take-append-add first next n) ∙ ap (take (length first + n)) (sym (packets_on a b))) (Appends-trans held sunk filled first (take n next) put front.1),
            )
    goes_whole (Err Failed) new filled left none heard = record {
      before = s.datagrams;
      asking = whole;
      spelled = spelled;
      end = end;
      answered = subst (λ (k : Option (List ℕ)). AreAnswered image s.datagrams end held k) (sym heard.1) s.answered;
      asks = heard.0;
    }
    goes_whole (Err (BadUnit place)) new filled left none heard = record {
      before = s.datagrams;
      asking = whole;
      spelled = spelled;
      end = end;
      answered = subst (λ (k : Option (List ℕ)). AreAnswered image s.datagrams end held k) (sym heard.1) s.answered;
      asks = heard.0;
    }
    goes_whole (Err ReadFault) new filled left none heard = absurd heard
    goes_whole (Err TooLong) new filled left none heard = absurd heard

-- the bytes so far, and one more
pub one_more : (came bytes : List ℕ) (i : ℕ) → i < length bytes → (came ++ take i bytes) ++ get_or bytes i 0 ∷ [] ≡ came ++ take (i + 1) bytes
one_more came bytes i under = append_assoc came (take i bytes) (get_or bytes i 0 ∷ []) ∙ ap (λ (l : List ℕ). came ++ l) (sym (take_more bytes i 0 under))

-- as a front of all
pub front_is : (came bytes : List ℕ) (i : ℕ) → i < length bytes → (came ++ take i bytes) ++ get_or bytes i 0 ∷ [] ≡ take (length came + (i + 1)) (came ++ bytes)
front_is came bytes i under = one_more came bytes i under ∙ sym (take-append-add came bytes (i + 1))

-- a byte more, while the unit tells the same image
pub serving_one : (i j held : Option (List ℕ)) (came : List ℕ) (byte : ℕ) (part part2 : List ℕ) (end end2 : UnitEnd SessionView) (sunk filled : Option (List ℕ)) (r : Result (Unit {0}) ServeFault) → j ≡ i → IsServing i came part end held sunk
    → (IsServing j came part end held sunk → Serving r j (came ++ byte ∷ []) part2 end2 held filled) → Serving r i (came ++ byte ∷ []) part2 end2 held filled
serving_one i j held came byte part part2 end end2 sunk filled r same first next =
    subst (λ (o : Option (List ℕ)). Serving r o (came ++ byte ∷ []) part2 end2 held filled) same (next (subst (λ (o : Option (List ℕ)). IsServing o came part end held sunk) (sym same) first))

-- it ended at one of these bytes
pub all_stopped : (r : Result (Unit {0}) ServeFault) (fault : ServeFault) (image : Option (List ℕ)) (came bytes : List ℕ) (i : ℕ) (part : List ℕ) (end : UnitEnd SessionView) (held sunk : Option (List ℕ)) → IsErrAnd r (λ v. v ≡ fault) → i < length bytes
    → StopsAt fault image ((came ++ take i bytes) ++ get_or bytes i 0 ∷ []) held sunk → ServingAll r image came bytes part end held sunk
all_stopped r fault image came bytes i part end held sunk is under stops =
    subst (λ (q : Result (Unit {0}) ServeFault). ServingAll q image came bytes part end held sunk) (sym (err_is r fault is))
    (length came + (i + 1), subst (λ (l : List ℕ). StopsAt fault image l held sunk) (front_is came bytes i under) stops)
