-- A service of a card, byte after byte.
use Rattle.std.proofs.Common.{◌≡◌, ◌∙◌, ℕ, ◌+◌, ◌<◌, ◌≤◌, true, false, List, [], ◌∷◌, ◌++◌, length, get_or, take, drop, Option, Result, Ok, Err, refl, sym, ap, subst, append_assoc, append-nil}
use Rattle.std.specs.List.{AllByRecursion}
use Rattle.std.specs.Io.KnownBytes.{Appends}
use Rattle.std.proofs.KnownBytes.{Appends-nil, Appends-trans}
use Rattle.std.proofs.Math.Seq.{take-append-add}
use Rattle.std.proofs.lemmas.List.{take_more, take-append-drop}
use Rattle.std.specs.Prelude.{IsErrAnd}
use Rattle.tach_media.proofs.Runs.{err_is}
use Rattle.card_service.specs.declared.serving.CardFault.{CardFault}
use Rattle.card_service.specs.declared.packets.TheConstants.{LONGEST}
use Rattle.card_service.specs.Packets.{stream_of, is_whole}
use Rattle.card_service.specs.Answering.{Card, Hears, Serves, LeavesAt}
use Rattle.card_service.specs.Serving.{IsServing, StopsAt, Serving, ServingAll, IsHeard, Leaves}
use Rattle.card_service.proofs.Parts.{part_more, part_whole, stream_on, streams_on}

each_on : (packets : List (List ℕ)) (p : List ℕ) → AllByRecursion (λ e. length e ≤ LONGEST) packets → length p ≤ LONGEST → AllByRecursion (λ e. length e ≤ LONGEST) (packets ++ p ∷ [])
each_on [] p all one = (one, tt)
each_on (first ∷ packets) p all one = (all.0, each_on packets p all.1 one)

-- one packet more
serves_on : (old : Card) (packets : List (List ℕ)) (mid : Card) (answers : List (List ℕ)) (p : List ℕ) (new : Card) (more : List (List ℕ)) → Serves old packets mid answers
    → Hears mid p new more → Serves old (packets ++ p ∷ []) new (answers ++ more)
serves_on old [] mid answers p new more serves hears = (
  new,
  more,
  [],
  subst (λ (c : Card). Hears c p new more) serves.0 hears,
  (refl, refl),
  ap (λ (l : List (List ℕ)). l ++ more) serves.1 ∙ sym (append-nil more),
)
serves_on old (first ∷ packets) mid answers p new more serves hears = (
  serves.0,
  serves.1,
  serves.2 ++ more,
  serves.3,
  serves_on serves.0 packets mid serves.2 p new more serves.4 hears,
  ap (λ (l : List (List ℕ)). l ++ more) serves.5 ∙ append_assoc serves.1 serves.2 more,
)

-- nothing has come
pub serving_none : (part : List ℕ) (card : Card) (held : Option (List ℕ)) → part ≡ [] → IsServing card [] part card held held
serving_none part card held none =
    subst (λ (l : List ℕ). IsServing card [] l card held held) (sym none)
    (record {
      packets = [];
      cut = record { spelled = refl; short = tt; is_part = tt };
      answered = record { answers = []; serves = (refl, refl); sent = Appends-nil held };
    })

module _ (begun : Card) (held : Option (List ℕ)) (came part : List ℕ) (byte : ℕ) (low : byte < 256) (card : Card) (sunk : Option (List ℕ)) (s : IsServing begun came part card held sunk) where
  longer : came ++ byte ∷ [] ≡ stream_of s.packets ++ (part ++ byte ∷ [])
  longer = ap (λ (l : List ℕ). l ++ byte ∷ []) s.cut.spelled ∙ append_assoc (stream_of s.packets) part (byte ∷ [])

  -- the byte is one of a part
  pub goes_more : is_whole (part ++ byte ∷ []) ≡ false → IsServing begun (came ++ byte ∷ []) (part ++ byte ∷ []) card held sunk
  goes_more is = record { packets = s.packets; cut = record { spelled = longer; short = s.cut.short; is_part = part_more part byte low s.cut.is_part is }; answered = s.answered }

  -- it ends a packet
  module _ (is : is_whole (part ++ byte ∷ []) ≡ true) where
    abbrev whole : List ℕ
    whole = drop 2 (part ++ byte ∷ [])

    spelled : came ++ byte ∷ [] ≡ stream_of (s.packets ++ whole ∷ [])
    spelled = longer ∙ ap (λ (l : List ℕ). stream_of s.packets ++ l) (part_whole part byte low s.cut.is_part is).spelled ∙ sym (stream_on s.packets whole)

    -- what a stop inside it leaves
    pub leaves_so : (c : List ℕ) → LeavesAt card whole c → Leaves begun (came ++ byte ∷ []) c
    leaves_so c left = record {
      before = s.packets;
      stopped = whole;
      rest = [];
      spelled = spelled ∙ sym (append-nil (stream_of (s.packets ++ whole ∷ [])));
      card = card;
      answers = s.answered.answers;
      serves = s.answered.serves;
      leaves = left;
    }

    answered_so : (new : Card) (filled : Option (List ℕ)) (answers : List (List ℕ)) → Hears card whole new answers → Appends sunk filled (stream_of answers) → IsServing begun (came ++ byte ∷ []) [] new held filled
    answered_so new filled answers hears put = record {
      packets = s.packets ++ whole ∷ [];
      cut = record {
        spelled = spelled ∙ sym (append-nil (stream_of (s.packets ++ whole ∷ [])));
        short = each_on s.packets whole s.cut.short (part_whole part byte low s.cut.is_part is).short;
        is_part = tt;
      };
      answered = record {
        answers = s.answered.answers ++ answers;
        serves = serves_on begun s.packets card s.answered.answers whole new answers s.answered.serves hears;
        sent = subst (λ (l : List ℕ). Appends held filled l) (sym (streams_on s.answered.answers answers)) (Appends-trans held sunk filled (stream_of s.answered.answers) (stream_of answers) s.answered.sent put);
      };
    }

    pub goes_whole : (r : Result (Unit {0}) CardFault) (new : Card) (filled : Option (List ℕ)) (left : List ℕ) → left ≡ [] → IsHeard r card whole new sunk filled → Serving r begun (came ++ byte ∷ []) left new held filled
    goes_whole (Ok done) new filled left none heard = subst (λ (l : List ℕ). IsServing begun (came ++ byte ∷ []) l new held filled) (sym none) (answered_so new filled heard.0 heard.1 heard.2)
    goes_whole (Err fault) new filled left none heard = record { before = s.packets; last = whole; spelled = spelled; card = card; mid = sunk; answered = s.answered; stops = heard }

-- the bytes so far, and one more
pub one_more : (came bytes : List ℕ) (i : ℕ) → i < length bytes → (came ++ take i bytes) ++ get_or bytes i 0 ∷ [] ≡ came ++ take (i + 1) bytes
one_more came bytes i under = append_assoc came (take i bytes) (get_or bytes i 0 ∷ []) ∙ ap (λ (l : List ℕ). came ++ l) (sym (take_more bytes i 0 under))

-- what a stop leaves while bytes are answered it leaves while these and more are
pub leaves_more : (begun : Card) (came more c : List ℕ) → Leaves begun came c → Leaves begun (came ++ more) c
leaves_more begun came more c l = record {
  before = l.before;
  stopped = l.stopped;
  rest = l.rest ++ more;
  spelled = ap (λ (a : List ℕ). a ++ more) l.spelled ∙ append_assoc (stream_of (l.before ++ l.stopped ∷ [])) l.rest more;
  card = l.card;
  answers = l.answers;
  serves = l.serves;
  leaves = l.leaves;
}

-- and while one more of these bytes is answered
pub leaves_next : (begun : Card) (came bytes : List ℕ) (i : ℕ) (c : List ℕ) → i < length bytes → Leaves begun (came ++ take i bytes) c → Leaves begun (came ++ take (i + 1) bytes) c
leaves_next begun came bytes i c under l = subst (λ (a : List ℕ). Leaves begun a c) (one_more came bytes i under) (leaves_more begun (came ++ take i bytes) (get_or bytes i 0 ∷ []) c l)

pub leaves_last : (begun : Card) (came bytes : List ℕ) (i : ℕ) (c : List ℕ) → i < length bytes → Leaves begun ((came ++ take i bytes) ++ get_or bytes i 0 ∷ []) c → Leaves begun (came ++ take (i + 1) bytes) c
leaves_last begun came bytes i c under l = subst (λ (a : List ℕ). Leaves begun a c) (one_more came bytes i under) l

pub leaves_all : (begun : Card) (came bytes : List ℕ) (n : ℕ) (c : List ℕ) → Leaves begun (came ++ take n bytes) c → Leaves begun (came ++ bytes) c
leaves_all begun came bytes n c l =
    subst (λ (a : List ℕ). Leaves begun a c) (append_assoc came (take n bytes) (drop n bytes) ∙ ap (λ (a : List ℕ). came ++ a) (take-append-drop n bytes))
    (leaves_more begun (came ++ take n bytes) (drop n bytes) c l)

-- as a front of all
front_is : (came bytes : List ℕ) (i : ℕ) → i < length bytes → (came ++ take i bytes) ++ get_or bytes i 0 ∷ [] ≡ take (length came + (i + 1)) (came ++ bytes)
front_is came bytes i under = one_more came bytes i under ∙ sym (take-append-add came bytes (i + 1))

-- it ended at one of these bytes
pub all_stopped : (r : Result (Unit {0}) CardFault) (fault : CardFault) (begun : Card) (came bytes : List ℕ) (i : ℕ) (part : List ℕ) (now : Card) (held sunk : Option (List ℕ)) → IsErrAnd r (λ v. v ≡ fault) → i < length bytes
    → StopsAt fault begun ((came ++ take i bytes) ++ get_or bytes i 0 ∷ []) now held sunk → ServingAll r begun came bytes part now held sunk
all_stopped r fault begun came bytes i part now held sunk is under stops =
    subst (λ (q : Result (Unit {0}) CardFault). ServingAll q begun came bytes part now held sunk) (sym (err_is r fault is))
    (length came + (i + 1), subst (λ (l : List ℕ). StopsAt fault begun l now held sunk) (front_is came bytes i under) stops)
