-- A service of a card, read after read.
use Rattle.std.proofs.Common.{◌≡◌, ◌∙◌, ℕ, ◌+◌, ◌<◌, ◌≤◌, List, [], ◌∷◌, ◌++◌, length, take, Option, Some, Result, Ok, Err, refl, sym, ap, subst, inl, inr, arith, append-nil, length-append}
use Rattle.std.specs.Prelude.{OnOk, IfErr, IsErrAnd}
use Rattle.std.specs.Io.KnownBytes.{Consumes, Keeps}
use Rattle.std.proofs.KnownBytes.{Consumes-nil, Consumes-trans, Consumes-kept}
use Rattle.tach_media.specs.Medium.{State, LeavesOnly, Unchanged}
use Rattle.tach_media.proofs.Runs.{err_is, weaken, goes_on, from_reads}
use Rattle.card_layout.specs.declared.command.CardState.{CardState}
use Rattle.card_layout.specs.Outcomes.{after_reset}
use Rattle.link_session.specs.Asked.{Asking, TellsMore, AnswersInTime}
use Rattle.link_session.proofs.Asked.{IsTimely, timely_none, timely_on, timely_told}
use Rattle.card_service.specs.declared.serving.CardFault.{CardFault}
use Rattle.card_service.specs.declared.serving.CardFault.TheVariants.{ReadFault, WriteFault, Failed, Cut, TooLong}
use Rattle.card_service.specs.declared.serving.TheConstants.{MOST_TURNS}
use Rattle.card_service.specs.Packets.{IsPart}
use Rattle.card_service.specs.Answering.{Card, card_told, IsRevived}
use Rattle.card_service.specs.Serving.{IsServing, StopsAt, AllAnswered, Ends, Leaves, IsBegun, IsCardServed, CardInTime}
use Rattle.card_service.proofs.Answering.{serving_none, leaves_more}

-- a chip and by what its card answers, before a service
pub record Before : Type 1 where
  pub chip : State
  pub card : CardState

-- what is told of each read: all that had come was answered
abbrev pub Answered : Before → (none : List ℕ) → (came : List ℕ) → (held sunk : Option (List ℕ)) → Type 0
Answered old none came held sunk = CardInTime old.chip old.card came held sunk

-- what is told of the source and the sink, before the service and now
pub record Streams : Type 0 where
  pub left : Option (List ℕ)
  pub held : Option (List ℕ)
  pub asked : Option (List Asking)

-- reads were made, and all that they gave was answered
pub record IsTurning (turn : ℕ) (old : Before) (begun : Card) (part : List ℕ) (chip : State) (card : CardState) (before now : Streams) : Type 0 where
  pub begins : IsBegun old.chip old.card begun
  pub came : List ℕ
  pub serving : IsServing begun came part (card_told chip card) before.held now.held
  pub moments : LeavesOnly old.chip chip (λ x c. Leaves begun came c)
  pub timely : IsTimely (Answered old) came (Some []) before.held before.asked now.asked
  pub consumed : Consumes before.left now.left came
  pub turns : turn ≤ length came

-- the card was reset
pub begun_so : (old : Before) (new : State) (after : CardState) → IsRevived old.chip new.image → new.clock ≡ old.chip.clock → after ≡ after_reset old.card → IsBegun old.chip old.card (card_told new after)
begun_so old new after image clock state = record { image = image; clock = clock; state = state }

pub turning_none : (old : Before) (part : List ℕ) (new : State) (after : CardState) (before : Streams) → part ≡ [] → IsBegun old.chip old.card (card_told new after) → LeavesOnly old.chip new Unchanged
    → IsTurning 0 old (card_told new after) part new after before before
turning_none old part new after before none begins moments = record {
  begins = begins;
  came = [];
  serving = serving_none part (card_told new after) before.held none;
  moments = from_reads moments;
  timely = timely_none (Answered old) (Some []) before.held before.asked;
  consumed = Consumes-nil before.left;
  turns = omega arith;
}

-- that failed
pub unbegun : (r : Result (Unit {0}) CardFault) (fault : CardFault) (old : Before) (new : State) (after : CardState) (left held : Option (List ℕ)) → IsErrAnd r (λ v. v ≡ fault) → fault ≡ Failed
    → IsBegun old.chip old.card (card_told new after) → LeavesOnly old.chip new Unchanged → IsCardServed r old.chip new old.card after left left held held
unbegun r fault old new after left held is failed begins moments =
    let now : Card = card_told new after in
    let is_failed : r ≡ Err Failed = subst (λ (e : CardFault). r ≡ Err e) failed (err_is r fault is) in
    record {
      begun = now;
      begins = begins;
      came = [];
      consumed = Consumes-nil left;
      ends = subst (λ (q : Result (Unit {0}) CardFault). Ends q now [] now held held) (sym is_failed) (inl (record { none = refl; kept = refl }));
      moments = from_reads moments;
    }

pub none_asked : (old : Before) (left held : Option (List ℕ)) (asked : Option (List Asking)) → AnswersInTime (CardInTime old.chip old.card) left left held asked asked
none_asked old left held asked = timely_told (Answered old) left left (timely_none (Answered old) (Some []) held asked) (Consumes-nil left)

module _ {turn : ℕ} {old : Before} {begun : Card} {part : List ℕ} {chip : State} {card : CardState} {before now : Streams} (t : IsTurning turn old begun part chip card before now) where
  -- all that came was answered
  in_time_so : CardInTime old.chip old.card t.came before.held now.held
  in_time_so = record { begun = begun; begins = t.begins; all = record { part = part; now = card_told chip card; serving = t.serving } }

  pub part_so : IsPart part
  part_so = t.serving.cut.is_part

  -- a read was made, of these bytes
  read_on : (next : Option (List Asking)) (bytes : List ℕ) → TellsMore now.asked next (record { held = now.held; came = bytes } ∷ []) → IsTimely (Answered old) (t.came ++ bytes) (Some []) before.held before.asked next
  read_on next bytes told = timely_on (Answered old) next now.held bytes in_time_so t.timely told

  pub told_on : (next : Option (List Asking)) (c : Option (List ℕ)) (bytes : List ℕ) → TellsMore now.asked next (record { held = now.held; came = bytes } ∷ []) → Consumes now.left c bytes
      → AnswersInTime (CardInTime old.chip old.card) before.left c before.held before.asked next
  told_on next c bytes told consumed = timely_told (Answered old) before.left c (read_on next bytes told) (Consumes-trans before.left now.left c t.came bytes t.consumed consumed)

  pub told_now : AnswersInTime (CardInTime old.chip old.card) before.left now.left before.held before.asked now.asked
  told_now = timely_told (Answered old) before.left now.left t.timely t.consumed

  -- a stop leaves what it leaves while more is answered
  left_so : (bytes : List ℕ) → LeavesOnly old.chip chip (λ x c. Leaves begun (t.came ++ bytes) c)
  left_so bytes = weaken t.moments (λ x c was here. leaves_more begun t.came bytes c here)

  left_on : (new : State) (bytes : List ℕ) → LeavesOnly chip new (λ x c. Leaves begun (t.came ++ bytes) c) → LeavesOnly old.chip new (λ x c. Leaves begun (t.came ++ bytes) c)
  left_on new bytes moments = goes_on (left_so bytes) moments (λ x y c was is here. here)

  -- they were answered
  pub turning_on : (next : Streams) (part2 : List ℕ) (new : State) (after : CardState) (bytes : List ℕ) → TellsMore now.asked next.asked (record { held = now.held; came = bytes } ∷ []) → Consumes now.left next.left bytes → 0 < length bytes
      → IsServing begun (t.came ++ bytes) part2 (card_told new after) before.held next.held → LeavesOnly chip new (λ x c. Leaves begun (t.came ++ bytes) c) → IsTurning (turn + 1) old begun part2 new after before next
  turning_on next part2 new after bytes told consumed some serving moments = record {
    begins = t.begins;
    came = t.came ++ bytes;
    serving = serving;
    moments = left_on new bytes moments;
    timely = read_on next.asked bytes told;
    consumed = Consumes-trans before.left now.left next.left t.came bytes t.consumed consumed;
    turns = let had = t.turns in omega (arith, length-append t.came bytes);
  }

  -- a service that ended so, behind one read more
  served_so : (r : Result (Unit {0}) CardFault) (new : State) (after : CardState) (c filled : Option (List ℕ)) (bytes : List ℕ) → Consumes before.left c (t.came ++ bytes) → Ends r begun (t.came ++ bytes) (card_told new after) before.held filled
      → LeavesOnly old.chip new (λ x d. Leaves begun (t.came ++ bytes) d) → IsCardServed r old.chip new old.card after before.left c before.held filled
  served_so r new after c filled bytes consumed ends moments = record { begun = begun; begins = t.begins; came = t.came ++ bytes; consumed = consumed; ends = ends; moments = moments }

  nothing_more : (bytes : List ℕ) → bytes ≡ [] → t.came ≡ t.came ++ bytes
  nothing_more bytes none = sym (append-nil t.came) ∙ ap (λ (l : List ℕ). t.came ++ l) (sym none)

  -- the source ended
  ends_done : (r : Result (Unit {0}) CardFault) → OnOk r (part ≡ []) → IfErr r (λ f. (f ≡ Cut) × (0 < length part)) → Ends r begun t.came (card_told chip card) before.held now.held
  ends_done (Ok done) ok err = subst (λ (l : List ℕ). IsServing begun t.came l (card_told chip card) before.held now.held) ok t.serving
  ends_done (Err f) ok err = subst (λ (e : CardFault). Ends (Err e) begun t.came (card_told chip card) before.held now.held) (sym err.0) (part, err.1, t.serving)

  pub served_done : (r : Result (Unit {0}) CardFault) (c : Option (List ℕ)) (bytes : List ℕ) → bytes ≡ [] → Consumes now.left c bytes → OnOk r (part ≡ []) → IfErr r (λ f. (f ≡ Cut) × (0 < length part))
      → IsCardServed r old.chip chip old.card card before.left c before.held now.held
  served_done r c bytes none consumed ok err =
      served_so r chip card c now.held bytes (Consumes-trans before.left now.left c t.came bytes t.consumed consumed)
      (subst (λ (l : List ℕ). Ends r begun l (card_told chip card) before.held now.held) (nothing_more bytes none) (ends_done r ok err)) (left_so bytes)

  -- it failed
  pub served_broken : (c : Option (List ℕ)) → Keeps now.left c → IsCardServed (Err ReadFault) old.chip chip old.card card before.left c before.held now.held
  served_broken c keeps =
      let all : Ends (Err ReadFault) begun t.came (card_told chip card) before.held now.held = (part, t.serving) in
      served_so (Err ReadFault) chip card c now.held [] (subst (λ (l : List ℕ). Consumes before.left c l) (sym (append-nil t.came)) (Consumes-kept before.left now.left c t.came t.consumed keeps))
      (subst (λ (l : List ℕ). Ends (Err ReadFault) begun l (card_told chip card) before.held now.held) (sym (append-nil t.came)) all) (left_so [])

  -- so many reads were made
  pub served_long : MOST_TURNS ≤ turn → IsCardServed (Err TooLong) old.chip chip old.card card before.left now.left before.held now.held
  served_long many = record { begun = begun; begins = t.begins; came = t.came; consumed = t.consumed; ends = (part, t.serving, let had = t.turns in omega arith); moments = t.moments }

  -- it ended at a byte
  stops_so : (fault : CardFault) (came : List ℕ) (behind : Card) (filled : Option (List ℕ)) → (n : ℕ) × StopsAt fault begun (take n came) behind before.held filled → Ends (Err fault) begun came behind before.held filled
  stops_so ReadFault came behind filled stops = absurd (stops.1).stops
  stops_so WriteFault came behind filled stops = stops
  stops_so Failed came behind filled stops = inr stops
  stops_so Cut came behind filled stops = absurd (stops.1).stops
  stops_so TooLong came behind filled stops = absurd (stops.1).stops

  pub served_stopped : (r : Result (Unit {0}) CardFault) (fault : CardFault) (new : State) (after : CardState) (c filled : Option (List ℕ)) (bytes : List ℕ) → IsErrAnd r (λ v. v ≡ fault) → Consumes now.left c bytes
      → (n : ℕ) × StopsAt fault begun (take n (t.came ++ bytes)) (card_told new after) before.held filled → LeavesOnly chip new (λ x d. Leaves begun (t.came ++ bytes) d)
      → IsCardServed r old.chip new old.card after before.left c before.held filled
  served_stopped r fault new after c filled bytes is consumed stops moments =
      subst (λ (q : Result (Unit {0}) CardFault). IsCardServed q old.chip new old.card after before.left c before.held filled) (sym (err_is r fault is))
      (served_so (Err fault) new after c filled bytes (Consumes-trans before.left now.left c t.came bytes t.consumed consumed) (stops_so fault (t.came ++ bytes) (card_told new after) filled stops) (left_on new bytes moments))
