-- WHAT A RUN WITH CARDS PROMISES is what a run on the unit alone promises, where its trace has no card's line.
use Rattle.std.proofs.Common.{◌≡◌, ◌∙◌, ℕ, ◌+◌, List, take, ap, sym, subst}
use Rattle.trace_model.specs.declared.Card.{Card}
use Rattle.trace_model.specs.declared.Card.TheVariants.{A as OfA, B as OfB}
use Rattle.trace_model.specs.declared.Item.{Item}
use Rattle.trace_model.specs.Trace.{TraceSecond, seconds_of}
use Rattle.run_model.specs.declared.Device.{Device}
use Rattle.run_model.specs.declared.Device.TheVariants.{Unit as OfUnit}
use Rattle.tach_media.specs.Medium.{State}
use Rattle.log_model.specs.Log.{RunLog}
use Rattle.log_model.specs.Course.{ToldSecond, Visit, went}
use Rattle.log_model.specs.Spans.{spans_of}
use Rattle.log_model.specs.Causes.{HasCauses, device_of}
use Rattle.event_model.specs.Events.{Event, Tearing, events_of}
use Rattle.history_model.specs.Minutes.{HistoryMinute}
use Rattle.history_model.specs.Presence.{Start}
use Rattle.message_model.specs.Records.{insertion_ring, unit_place_ring}
use Rattle.unit_model.specs.declared.layout.TheConstants.{SPEED_LIMIT}
use Rattle.unit_model.specs.Image.{recorded, last_kept, number_of}
use Rattle.unit_model.specs.Versions.{rule_of}
use Rattle.card_image.specs.Own.{own_number, IsOwnValid}
use Rattle.safety_model.specs.Recording.{Recording, card_image, start_of, history_of as history_in, lost_of as lost_in}
use Rattle.safety_model.specs.Safe.{breakdowns_of}
use Rattle.safety_model.specs.Unit.{UnitSafe, HasEachDecided, IsFilled}
use Rattle.note_model.specs.Noted.{insertions_of, places_of}
use Rattle.note_model.specs.Tables.{table_in}
use Rattle.unit_events.specs.Plain.{IsWithoutCards, OnlySelect}
use Rattle.unit_events.proofs.Bridge.{events-plain}
use Rattle.run_events.specs.Shown.{is_sure_by, ShowsSince}
use Rattle.run_events.proofs.Shows.{shown-as}
use Rattle.unit_rule.proofs.OtherRows.{owes-still}
use Rattle.run_promise.specs.Between.{devices}
use Rattle.run_outcome.specs.declared.outcome.Outcome.{Outcome}
use Rattle.recorder_with_cards.specs.Words.{log_of}
use Rattle.recorder_with_cards.specs.Ends.{recording_of, EndsTrace}
use Rattle.recorder_with_cards.specs.LastKept.{TellsLast}
use Rattle.recorder_with_cards.specs.Moments.{IsMoment}
use Rattle.tacho.specs.Blank.{no_image}
use Rattle.tacho.specs.Alone.{IsForUnit, NoVerdict, history_of, lost_of, IsUnitMoment, IsAlone}
use Rattle.tacho.proofs.Cardless.{AreCardless, cardless, plain-told}
use Rattle.tacho.proofs.AloneLog.{trace-selects, without-cards, caused-alone, unit-history-any, with-lost-any}
use Rattle.tacho.proofs.NoCard.{no-valid}
use Rattle.tacho.proofs.AloneNoted.{notes-nothing, shows-old, AreNobodys, nobodys-events, but-any}

module _ (x : List ℕ) (start : ℕ) (items : List Item) (out : Outcome) (U V A B C D : State) (for_unit : IsForUnit items)
    (h : EndsTrace x no_image no_image start items out (devices U A B) (devices V C D)) where
  abbrev r : Recording
  r = recording_of x no_image no_image start items out

  abbrev log : RunLog
  log = log_of out

  abbrev ss : List TraceSecond
  ss = seconds_of start items

  abbrev told : List ToldSecond
  told = (went log ss).told

  selects : OnlySelect ss
  selects = trace-selects start items for_unit

  none-in : AreCardless told
  none-in = cardless log ss selects

  bare : IsWithoutCards log
  bare = without-cards _ _ _ ss log selects h.ends.caused.causes

  -- no card is valid
  none-valid : (c : Card) → IsOwnValid (card_image r c) → ⊥
  none-valid OfA valid = no-valid valid
  none-valid OfB valid = no-valid valid

  -- the events are those of nobody, whatever was found open and torn
  module _ (sessions : ℕ → Visit → ℕ) (t : Tearing) (number : Card → List ℕ) (y : List ℕ) (left : V.may_leave y) where
    abbrev s-events : (kind : ℕ) → List Event
    s-events kind = events_of kind (number_of x SPEED_LIMIT) (h.side y left).events.sessions (h.side y left).events.tearing log ss

    same : (kind : ℕ) → s-events kind ≡ events_of kind (number_of x SPEED_LIMIT) sessions t log ss
    same kind = events-plain log bare ss selects kind (number_of x SPEED_LIMIT) (h.side y left).events.sessions (h.side y left).events.tearing
        ∙ sym (events-plain log bare ss selects kind (number_of x SPEED_LIMIT) sessions t)

    nobodys : (kind : ℕ) → AreNobodys (s-events kind)
    nobodys kind = subst AreNobodys (sym (events-plain log bare ss selects kind (number_of x SPEED_LIMIT) (h.side y left).events.sessions (h.side y left).events.tearing)) (nobodys-events kind (number_of x SPEED_LIMIT) log (spans_of told))

    events-alone : ShowsSince number log x (λ kind. events_of kind (number_of x SPEED_LIMIT) sessions t log ss) y
    events-alone =
        let s = (h.side y left).events.events in
        record {
          events = shown-as number (is_sure_by log) s-events (λ kind. events_of kind (number_of x SPEED_LIMIT) sessions t log ss) x y (λ kind there. same kind) (record {
            tables = λ kind there. but-any (λ c. own_number (card_image r c)) number (is_sure_by log) (table_in kind x) (table_in kind y) (s-events kind) (nobodys kind) (s.events.tables kind there);
            first = s.events.first;
            count = s.events.count;
          });
          few = s.few;
        }

  -- a moment of it is one of the unit
  moment-alone : (k : ℕ) → IsMoment r.rule (start_of r) (breakdowns_of (devices U A B)) (take k ss) (start + k) log out.marks.items (devices V C D)
      → IsUnitMoment (rule_of x) U.breakdowns (take k ss) (start + k) log out.marks.items V
  moment-alone k m = record { by_then = m.by_then; told = m.told; earlier = m.earlier; count = m.count; few = m.few; complete = m.complete.unit; broken = m.unit }

  module _ (cards : Start) where
    history-same : history_in r ≡ history_of (rule_of x) cards out start items
    history-same = unit-history-any (rule_of x) (start_of r) cards log told (plain-told told none-in)

    lost-same : lost_in r ≡ lost_of (rule_of x) cards out start items
    lost-same = with-lost-any (rule_of x) (start_of r) cards log told (plain-told told none-in)

    -- its part of the theorem, with the last-kept minutes
    safe-same : (s : UnitSafe (recorded x) (history_of (rule_of x) cards out start items) (lost_of (rule_of x) cards out start items) out.marks.items U.clock V) × TellsLast (last_kept x) s
    safe-same = subst (λ (is : List HistoryMinute). (s : UnitSafe (recorded x) is (lost_of (rule_of x) cards out start items) out.marks.items U.clock V) × TellsLast (last_kept x) s) history-same
        (subst (λ (ls : List (List HistoryMinute)). (s : UnitSafe (recorded x) (history_in r) ls out.marks.items U.clock V) × TellsLast (last_kept x) s) lost-same (h.ends.safe.unit, h.last))

    -- THE RUN ON THE UNIT ALONE
    pub is-alone : IsAlone cards x start items out U V
    is-alone = record {
      safe = safe-same.0;
      none = λ c. (h.ends.safe.card c).unmarked (none-valid c);
      issued = h.ends.safe.issued;
      owed = λ y left. owes-still x no_image no_image y no-valid no-valid (h.rows y left);
      odometer = h.ends.odometer;
      days = h.ends.days;
      words = h.ends.words;
      stored = λ y left. let s = h.side y left in record { spans = s.spans; are_spans = s.are_spans; odometer = s.odometer };
      events = λ number sessions t y left. events-alone sessions t number y left;
      insertions = λ y left. shows-old insertion_ring _ _ _ x y (ap insertions_of (notes-nothing log ss selects)) (h.side y left).insertions (λ dense. h.dense.insertions dense y left);
      places = λ y left. shows-old unit_place_ring _ _ _ x y (ap places_of (notes-nothing log ss selects)) (h.side y left).places (λ dense. h.dense.places dense y left);
      speeds = h.speeds;
      kept = h.kept;
      last = safe-same.1;
      complete = h.ends.caused.complete.unit;
      timely = λ n low. let m = h.timely n low in (m.0, m.1, m.2, moment-alone m.0 m.3);
      whole = λ none.
          let w = h.ends.whole none in (
            subst (HasEachDecided (rule_of x) told) history-same w.decided,
            λ y left. subst (λ (is : List HistoryMinute). IsFilled (recorded x) is y) history-same (w.unit y left),
          );
    }

  -- and its causes
  pub is-caused : (b n : Device → ℕ) → b OfUnit ≡ U.breakdowns → n OfUnit ≡ V.breakdowns → ((card : Card) → n (device_of card) ≡ b (device_of card)) → HasCauses NoVerdict b n ss log
  is-caused b n was is same = caused-alone _ _ _ ss log selects h.ends.caused.causes b n was is same
