-- A run's promise goes by the clocks and the breakdowns of the devices as it began, and by nothing else of them.
use Rattle.std.proofs.Common.{◌≡◌, ◌∙◌, inl, inr, ⊎_elim, ℕ, ◌<◌, List, sym, subst, ◌⊎◌}
use Rattle.tach_media.specs.Medium.{last_count}
use Rattle.event_model.specs.Events.{seen_of}
use Rattle.trace_model.specs.declared.Card.{Card}
use Rattle.trace_model.specs.declared.Card.TheVariants.{A, B}
use Rattle.trace_model.specs.declared.Item.{Item}
use Rattle.run_model.specs.declared.Device.{Device}
use Rattle.log_model.specs.Causes.{HasCauses, device_of}
use Rattle.message_model.specs.Records.{insertion_ring}
use Rattle.note_model.specs.Noted.{insertions_of}
use Rattle.note_model.specs.Rings.{RingShows, IsInsertion, is_sure_insertion}
use Rattle.safety_model.specs.Recording.{Recording, start_of, history_of, lost_of, told_of, card_image}
use Rattle.safety_model.specs.Unit.{UnitSafe, issued_bytes, marks_of}
use Rattle.unit_rule.specs.OtherRows.{KeepsRows}
use Rattle.safety_model.specs.Cards.{CardSafe}
use Rattle.safety_model.specs.ByHand.{HandsSafe}
use Rattle.safety_model.specs.Safe.{Devices, card_of, breakdowns_of, IsVerdict, WasFound}
use Rattle.safety_model.specs.Side.{holder_of, notes_in, IsPrevious}
use Rattle.unit_model.specs.Image.{recorded, last_kept}
use Rattle.run_outcome.specs.declared.outcome.Outcome.{Outcome}
use Rattle.recorder_with_cards.specs.Ends.{recording_of, AreSince, EndsTrace}
use Rattle.run_speeds.specs.Speeds.{HasSpeeds}
use Rattle.run_speeds.specs.Spans.{blocks_by, is_sure_block}
use Rattle.recorder_with_cards.specs.Still.{KeepsHolder, KeepsVehicles}
use Rattle.recorder_with_cards.specs.Side.{ShowsSide, HasComeBefore, TellsAtStart}
use Rattle.recorder_with_cards.specs.KeptAfter.{TellsKept}
use Rattle.recorder_with_cards.specs.LastKept.{TellsLast}
use Rattle.recorder_with_cards.specs.CardEvents.{ShowsItsEvents}
use Rattle.recorder_with_cards.specs.Moments.{HasMoments}
use Rattle.recorder_with_cards.specs.Stays.{NothingFailedOn}
use Rattle.recorder_with_cards.specs.Words.{vehicle_of, accepted_on, met_seconds, ShowsOn, AreUses, StoodExactly}

module _ (x a b : List ℕ) (start : ℕ) (items : List Item) (out : Outcome) (p q now : Devices) (unit : p.unit.clock ≡ q.unit.clock) (cards : (c : Card) → (card_of p c).clock ≡ (card_of q c).clock) (broken : (device : Device) → breakdowns_of p device ≡ breakdowns_of q device) where
  abbrev r : Recording
  r = recording_of x a b start items out

  abbrev Caused : ℕ → (Card → ℕ) → (Device → ℕ) → Type 0
  Caused n k m = HasCauses (λ c u v. IsVerdict r (now.unit.left_since n) ((card_of now c).left_since (k c)) c u v) m (breakdowns_of now) r.trace r.log

  -- no call has failed on a card, by either
  none-failed : (c : Card) → NothingFailedOn r c q → NothingFailedOn r c p
  none-failed c on = record {
    uncut = on.uncut;
    untorn = on.untorn;
    low = ⊎_elim (λ none. inl none) (λ below. inr (subst (λ (n : ℕ). n < last_count) (sym (broken (device_of c))) below)) on.low;
  }

  side-by : (y : List ℕ) → ShowsSide r p now y → ShowsSide r q now y
  side-by y h = record {
    spans = h.spans;
    are_spans = h.are_spans;
    odometer = h.odometer;
    insertions = subst (λ (k : Card → ℕ). RingShows insertion_ring (is_sure_insertion r.log h.spans (holder_of r)) (λ n e. IsInsertion r.log h.spans (holder_of r)
        (λ c registration time. IsPrevious r (k c) (card_of now c) registration time × (TellsAtStart r c registration time ⊎ HasComeBefore (told_of r) r.trace c n.accepted.second)) n e) (insertions_of (notes_in r)) r.unit y)
        (λ i c. cards c i) h.insertions;
    places = h.places;
    events =
        let was = h.events in
        record {
          sessions = was.sessions;
          are_sessions = λ t f among found accepts. let one = was.are_sessions t f among found accepts in (one.0, subst (λ (n : ℕ). (card_of now f.0.card).left_since n one.0) (cards f.0.card) one.1, one.2);
          are_first = was.are_first;
          exact = λ c on. was.exact c (none-failed c on);
          tearing = was.tearing;
          are_torn = was.are_torn;
          events = was.events;
        };
  }

  events-by : (c : Card) → ShowsItsEvents r c p (card_of now c) → ShowsItsEvents r c q (card_of now c)
  events-by c h valid =
      let s = h valid in
      record {
        uses = s.uses;
        are = subst (λ (n : ℕ). AreUses ((card_of now c).left_since n) s.uses (accepted_on c (seen_of r.log r.trace))) (cards c) s.are;
        exact = λ on. s.exact (none-failed c on);
        left = λ on. s.left (none-failed c on);
        shows = subst (λ (n : ℕ). ShowsOn c (vehicle_of r.unit) ((card_of now c).left_since n) s.uses (card_image r c) r.log (met_seconds r.log r.trace) (card_of now c)) (cards c) s.shows;
      }

  -- the unit's part of the theorem, with the last-kept minutes
  safe-by : (s : UnitSafe (recorded r.unit) (history_of r) (lost_of r) out.marks.items p.unit.clock now.unit) → TellsLast (last_kept r.unit) s →
      (t : UnitSafe (recorded r.unit) (history_of r) (lost_of r) out.marks.items q.unit.clock now.unit) × TellsLast (last_kept r.unit) t
  safe-by s last = subst (λ (n : ℕ). (t : UnitSafe (recorded r.unit) (history_of r) (lost_of r) out.marks.items n now.unit) × TellsLast (last_kept r.unit) t) unit (s, last)

  pub ends-by : EndsTrace x a b start items out p now → EndsTrace x a b start items out q now
  ends-by h = record {
    may = h.may;
    ends = record {
      safe = record {
        unit = (safe-by h.ends.safe.unit h.last).0;
        issued = subst (λ (n : ℕ). (y : List ℕ) → now.unit.left_since n y → issued_bytes y ≡ issued_bytes r.unit) unit h.ends.safe.issued;
        card = λ c. subst (λ (n : ℕ). CardSafe r c out.marks.items n (card_of now c)) (cards c) (h.ends.safe.card c);
        both = h.ends.safe.both;
        hands = λ c. subst (λ (n : ℕ). HandsSafe r c out.marks.items n (card_of now c)) (cards c) (h.ends.safe.hands c);
      };
      caused = record {
        causes = subst (λ (m : Device → ℕ). Caused q.unit.clock (λ c. (card_of q c).clock) m) (λ i device. broken device i)
            (subst (λ (k : Card → ℕ). Caused q.unit.clock k (breakdowns_of p)) (λ i c. cards c i)
            (subst (λ (n : ℕ). Caused n (λ c. (card_of p c).clock) (breakdowns_of p)) unit h.ends.caused.causes));
        kept = λ br at. ⊎_elim (λ was_found. inl (subst (λ (n : ℕ). WasFound (now.unit.left_since n) br) unit was_found)) (λ none. inr none) (h.ends.caused.kept br at);
        complete = h.ends.caused.complete;
        stops = h.ends.caused.stops;
        each_stop = h.ends.caused.each_stop;
      };
      still = λ c none. h.ends.still c none ∙ broken (device_of c);
      brings = h.ends.brings;
      odometer = h.ends.odometer;
      days = h.ends.days;
      words = h.ends.words;
      whole = h.ends.whole;
    };
    side = λ y left. side-by y (h.side y left);
    written = h.written;
    stays = λ c on. h.stays c (none-failed c on);
    both = h.both;
    stood = λ c valid. subst (λ (n : ℕ). StoodExactly r c (card_of q c).clock n (card_of now c)) (broken (device_of c))
        (subst (λ (n : ℕ). StoodExactly r c n (breakdowns_of p (device_of c)) (card_of now c)) (cards c) (h.stood c valid));
    kept = subst (λ (n : ℕ). TellsKept r n now.unit) unit h.kept;
    last = (safe-by h.ends.safe.unit h.last).1;
    dense = h.dense;
    holders = λ c. subst (λ (n : ℕ). KeepsHolder r c n (card_of now c)) (cards c) (h.holders c);
    vehicles = λ c. subst (λ (n : ℕ). KeepsVehicles r c n (card_of now c)) (cards c) (h.vehicles c);
    measures = h.measures;
    sessions = h.sessions;
    places = h.places;
    cards = λ c. events-by c (h.cards c);
    rows = subst (λ (n : ℕ). (y : List ℕ) → now.unit.left_since n y → KeepsRows r.unit r.card_a r.card_b y) unit h.rows;
    again = λ u ca cb left left_a left_b.
        h.again u ca cb (subst (λ (n : ℕ). now.unit.left_since n u) (sym unit) left) (subst (λ (n : ℕ). now.card_a.left_since n ca) (sym (cards A)) left_a) (subst (λ (n : ℕ). now.card_b.left_since n cb) (sym (cards B)) left_b);
    speeds = λ ring. subst (λ (n : ℕ). HasSpeeds (is_sure_block r.log) r.unit n (blocks_by r.log r.trace) now.unit) unit (h.speeds ring);
    since = λ c. subst (λ (n : ℕ). AreSince n (marks_of (device_of c) out.marks.items)) (cards c) (h.since c);
    timely = subst (λ (m : Device → ℕ). HasMoments r.rule (start_of r) m start r.trace r.log out.marks.items now) (λ i device. broken device i) h.timely;
  }
