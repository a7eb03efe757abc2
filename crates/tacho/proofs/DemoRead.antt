-- What was recorded stands where the unit is only read behind the run.
use Rattle.std.proofs.Common.{◌≡◌, ◌≤◌, ◌+◌, true, All, length, filter, take, ℕ, List, inl, inr, ⊎_elim, ◌⊎◌, arith, Bool, refl, sym, ◌∙◌, subst}
use Rattle.trace_model.specs.declared.Card.{Card}
use Rattle.trace_model.specs.declared.Card.TheVariants.{A, B}
use Rattle.trace_model.specs.declared.Item.{Item}
use Rattle.run_model.specs.declared.Device.TheVariants.{Unit as Recorder}
use Rattle.log_model.specs.declared.lines.Mark.{Mark}
use Rattle.log_model.specs.declared.lines.Verdict.{Verdict}
use Rattle.log_model.specs.declared.lines.Verdict.TheVariants.{Accepted, NotValid, TimeOverlap}
use Rattle.log_model.specs.Slots.{same_card}
use Rattle.log_model.specs.Course.{went}
use Rattle.log_model.specs.Causes.{RoseBy, device_of, cuts, cards_torn}
use Rattle.history_model.specs.Minutes.{HistoryMinute}
use Rattle.tach_media.specs.Medium.{State, LeavesOnly, Unchanged, KeepsBroken}
use Rattle.unit_minutes.specs.Reading.{ReadsIfAny}
use Rattle.unit_model.specs.Days.{ShownDay}
use Rattle.unit_model.specs.Image.{recorded, last_kept}
use Rattle.message_model.specs.Records.{insertion_ring}
use Rattle.note_model.specs.Noted.{insertions_of}
use Rattle.note_model.specs.Rings.{RingShows, IsInsertion, is_sure_insertion}
use Rattle.log_model.specs.Spans.{spans_of}
use Rattle.safety_model.specs.Recording.{Recording, start_of, told_of, history_of, lost_of}
use Rattle.safety_model.specs.Unit.{UnitSafe, UnitMarkHolds, marks_of}
use Rattle.safety_model.specs.Cards.{CardSafe, Agree}
use Rattle.safety_model.specs.ByHand.{HandsSafe}
use Rattle.safety_model.specs.Safe.{Devices, card_of, breakdowns_of, IsVerdict, WasFound}
use Rattle.safety_model.specs.Side.{holder_of, notes_in, IsPrevious}
use Rattle.run_promise.specs.Between.{devices}
use Rattle.run_promise.specs.Whole.{IsFull}
use Rattle.log_model.specs.declared.lines.Break.{Break}
use Rattle.log_model.specs.declared.lines.Break.TheVariants.{Cut, Tear}
use Rattle.run_outcome.specs.declared.outcome.Outcome.{Outcome}
use Rattle.recorder_with_cards.specs.Words.{StoodExactly}
use Rattle.recorder_with_cards.specs.Ends.{recording_of, EndsTrace}
use Rattle.run_speeds.specs.Speeds.{LeavesSpeeds}
use Rattle.run_speeds.specs.Spans.{blocks_by, is_sure_block}
use Rattle.run_speeds.proofs.Speeds.{speeds-on}
use Rattle.recorder_with_cards.specs.Side.{ShowsSide, HasComeBefore, TellsAtStart}
use Rattle.recorder_with_cards.specs.CardEvents.{ShowsItsEvents}
use Rattle.recorder_with_cards.specs.Moments.{HadBroken, IsMoment}
use Rattle.std.proofs.lemmas.List.Elements.{All-weaker}
use Rattle.recorder_with_cards.specs.LastKept.{TellsLast}
use Rattle.recorder_with_cards.proofs.KeptAfter.{more-found}
use Rattle.tacho.specs.Anew.{EndsAnew, began_at}

-- a device was read, if at all
pub record IsRead (old new : State) : Type 0 where
  pub leaves : LeavesOnly old new Unchanged
  pub clock : new.clock ≡ old.clock
  pub breakdowns : old.breakdowns ≤ new.breakdowns
  pub tells : KeepsBroken old new

pub is-read : (old new : State) (failed : Bool) → ReadsIfAny old new failed → IsRead old new
is-read old new failed reads = ⊎_elim
    (λ none. record { leaves = none.1.leaves; clock = none.1.clock; breakdowns = omega (arith, none.1.breakdowns); tells = none.1.tells })
    (λ some. record { leaves = some.leaves; clock = some.clock; breakdowns = some.cause.breakdowns; tells = some.cause.tells }) reads

module _ (U V : State) (is : IsRead U V) where
  back : (t : ℕ) (c : List ℕ) → t ≤ U.clock → V.left_since t c → U.left_since t c
  back t c low left = ⊎_elim (λ was. was) (λ new. absurd new.2) (is.leaves.since t c low left)

  broken-read : (writes most : ℕ) → HadBroken U writes most → HadBroken V writes most
  broken-read writes most had = record { begun = omega (arith, had.begun, is.clock); told = λ t n low says. had.told t n low (is.tells.told t n (omega (arith, low, had.begun)) says) }

  now-back : (c : List ℕ) → V.may_leave c → U.may_leave c
  now-back c left = ⊎_elim (λ was. was) (λ new. absurd new.2) (is.leaves.now c left)

  speeds-read : LeavesSpeeds U V
  speeds-read = record { later = omega (arith, is.clock); now = λ c left. (c, now-back c left, refl); since = λ t c low left. inl (back t c low left) }

  mark-read : (start : List ShownDay) (past : List HistoryMinute) (lost : List (List HistoryMinute)) (m : Mark) → UnitMarkHolds start past lost U m → UnitMarkHolds start past lost V m
  mark-read start past lost m h = record {
    i = h.i;
    minute = h.minute;
    stands = h.stands;
    clock = omega (arith, h.clock, is.clock);
    prompt = λ told. let x = h.prompt (sym is.leaves.tells ∙ told) in (x.0, is.leaves.keeps _ x.0 (omega (arith, h.clock)) x.1, x.2);
    shown = λ x left. h.shown x (back m.clock x h.clock left);
  }

  unit-read : (start : List ShownDay) (past : List HistoryMinute) (lost : List (List HistoryMinute)) (marks : List Mark) (since : ℕ) → since ≤ U.clock → UnitSafe start past lost marks since U → UnitSafe start past lost marks since V
  unit-read start past lost marks since low h = record {
    minutes = λ x left. h.minutes x (back since x low left);
    decodes = λ x left. h.decodes x (back since x low left);
    in_order = h.in_order;
    marked = λ m there. mark-read start past lost m (h.marked m there);
  }

  last-read : (start : List ShownDay) (past : List HistoryMinute) (lost : List (List HistoryMinute)) (marks : List Mark) (since first : ℕ) (low : since ≤ U.clock) (s : UnitSafe start past lost marks since U) → TellsLast first s → TellsLast first (unit-read start past lost marks since low s)
  unfolding unit-read
  last-read start past lost marks since first low s h = record {
    last = λ x left. h.last x (back since x low left);
    until = λ x left. h.until x (back since x low left);
    began = h.began;
    held = λ m at x left. h.held m at x (back m.clock x (s.marked m at).clock left);
  }

  module _ (x a b : List ℕ) (start : ℕ) (items : List Item) (out : Outcome) (p : Devices) (Y Z : State) (before : p.unit.clock ≤ U.clock) where
    abbrev r : Recording
    r = recording_of x a b start items out

    cards : (c : Card) → CardSafe r c out.marks.items (card_of p c).clock (card_of (devices U Y Z) c) → CardSafe r c out.marks.items (card_of p c).clock (card_of (devices V Y Z) c)
    cards A h = h
    cards B h = h

    both-read : (c : Card) (u y : List ℕ) → (U.may_leave u → (card_of (devices U Y Z) c).may_leave y → Agree r c u y) → V.may_leave u → (card_of (devices V Y Z) c).may_leave y → Agree r c u y
    both-read A u y h unit card = h (now-back u unit) card
    both-read B u y h unit card = h (now-back u unit) card

    found-read : (br : Break) → WasFound (U.left_since p.unit.clock) br → WasFound (V.left_since p.unit.clock) br
    found-read (Cut second kept failed begun) h = (h.0, is.leaves.keeps p.unit.clock h.0 before h.1, h.2)
    found-read (Tear second slot failed begun late) h = tt

    full-read : (c : Card) (y : List ℕ) → ((card_of (devices U Y Z) c).may_leave y → IsFull r c y) → (card_of (devices V Y Z) c).may_leave y → IsFull r c y
    full-read A y h left = h left
    full-read B y h left = h left

    rose-read : (n : ℕ) → RoseBy n (breakdowns_of p Recorder) U.breakdowns → RoseBy n (breakdowns_of p Recorder) V.breakdowns
    rose-read n h = ⊎_elim (λ low. inl (omega (arith, low, is.breakdowns))) (λ top. inr (omega (arith, top, is.breakdowns))) h

    torn-read : (c : Card) (n : ℕ) → RoseBy n (breakdowns_of p (device_of c)) (breakdowns_of (devices U Y Z) (device_of c)) → RoseBy n (breakdowns_of p (device_of c)) (breakdowns_of (devices V Y Z) (device_of c))
    torn-read A n h = h
    torn-read B n h = h

    still-read : (c : Card) → breakdowns_of (devices U Y Z) (device_of c) ≡ breakdowns_of p (device_of c) → breakdowns_of (devices V Y Z) (device_of c) ≡ breakdowns_of p (device_of c)
    still-read A h = h
    still-read B h = h

    verdict-read : (c : Card) (u : ℕ) (v : Verdict) → IsVerdict r (U.left_since p.unit.clock) ((card_of (devices U Y Z) c).left_since (card_of p c).clock) c u v → IsVerdict r (V.left_since p.unit.clock) ((card_of (devices V Y Z) c).left_since (card_of p c).clock) c u v
    verdict-read A u (Accepted n) h = (h.0, h.1, (h.2.0, h.2.1, is.leaves.keeps p.unit.clock h.2.0 before h.2.2, h.2.3, h.2.4, h.2.5))
    verdict-read B u (Accepted n) h = (h.0, h.1, (h.2.0, h.2.1, is.leaves.keeps p.unit.clock h.2.0 before h.2.2, h.2.3, h.2.4, h.2.5))
    verdict-read A u (NotValid fid place) h = h
    verdict-read B u (NotValid fid place) h = h
    verdict-read A u (TimeOverlap stored now) h = h
    verdict-read B u (TimeOverlap stored now) h = h

    -- a card's image that told a session is there still
    told-read : (c : Card) (y : List ℕ) → (card_of (devices U Y Z) c).left_since (card_of p c).clock y → (card_of (devices V Y Z) c).left_since (card_of p c).clock y
    told-read A y h = h
    told-read B y h = h

    told-back : (c : Card) (y : List ℕ) → (card_of (devices V Y Z) c).left_since (card_of p c).clock y → (card_of (devices U Y Z) c).left_since (card_of p c).clock y
    told-back A y h = h
    told-back B y h = h

    card-back : (c : Card) (y : List ℕ) → (card_of (devices V Y Z) c).may_leave y → (card_of (devices U Y Z) c).may_leave y
    card-back A y h = h
    card-back B y h = h

    same-card : (c : Card) → card_of (devices U Y Z) c ≡ card_of (devices V Y Z) c
    same-card A = refl
    same-card B = refl

    side-read : (y : List ℕ) → ShowsSide r p (devices U Y Z) y → ShowsSide r p (devices V Y Z) y
    side-read y h = record {
      spans = h.spans;
      are_spans = h.are_spans;
      odometer = h.odometer;
      insertions = subst (λ (k : Card → State). RingShows insertion_ring (is_sure_insertion r.log h.spans (holder_of r)) (λ n e. IsInsertion r.log h.spans (holder_of r)
          (λ c registration time. IsPrevious r (card_of p c).clock (k c) registration time × (TellsAtStart r c registration time ⊎ HasComeBefore (told_of r) r.trace c n.accepted.second)) n e) (insertions_of (notes_in r)) r.unit y)
          (λ i c. same-card c i) h.insertions;
      places = h.places;
      events =
          let was = h.events in
          record {
            sessions = was.sessions;
            are_sessions = λ t f among found accepts. let one = was.are_sessions t f among found accepts in (one.0, told-read f.0.card one.0 one.1, one.2);
            are_first = was.are_first;
            exact = was.exact;
            tearing = was.tearing;
            are_torn = was.are_torn;
            events = was.events;
          };
    }

    -- what was told by a moment
    moment-read : (k : ℕ) → IsMoment r.rule (start_of r) (breakdowns_of p) (take k r.trace) (start + k) r.log out.marks.items (devices U Y Z) → IsMoment r.rule (start_of r) (breakdowns_of p) (take k r.trace) (start + k) r.log out.marks.items (devices V Y Z)
    moment-read k m = record {
      by_then = m.by_then;
      told = m.told;
      earlier = m.earlier;
      count = m.count;
      few = m.few;
      complete = m.complete;
      unit = λ low.
          let most : ℕ = breakdowns_of p Recorder + length (cuts true m.by_then) in
          All-weaker (λ (x : Mark). HadBroken U x.clock most) (λ (x : Mark). HadBroken V x.clock most) (λ x had. broken-read x.clock most had) (marks_of Recorder (take m.count out.marks.items)) (m.unit (omega (arith, low, is.breakdowns)));
      cards = λ low_a low_b c.
          let most : ℕ = breakdowns_of p (device_of c) + length (filter (same_card c) (cards_torn (went m.by_then (take k r.trace)).told)) in
          subst (λ (s : State). All (λ (x : Mark). HadBroken s x.clock most) (marks_of (device_of c) (take m.count out.marks.items))) (same-card c) (m.cards low_a low_b c);
    }

    pub ends-read : EndsTrace x a b start items out p (devices U Y Z) → EndsTrace x a b start items out p (devices V Y Z)
    ends-read h =
        let was = h.ends.caused.causes in
        record {
          may = h.may;
          ends = record {
            safe = record {
              unit = unit-read (recorded r.unit) (history_of r) (lost_of r) out.marks.items p.unit.clock before h.ends.safe.unit;
              issued = λ y left. h.ends.safe.issued y (back p.unit.clock y before left);
              card = λ c. cards c (h.ends.safe.card c);
              both = λ c u y valid. both-read c u y (h.ends.safe.both c u y valid);
              hands = λ c. subst (λ (s : State). HandsSafe r c out.marks.items (card_of p c).clock s) (same-card c) (h.ends.safe.hands c);
            };
            caused = record {
              causes = record {
                refused = was.refused;
                cut_seconds = was.cut_seconds;
                off_lines = was.off_lines;
                failed_cuts = rose-read _ was.failed_cuts;
                tear_lines = was.tear_lines;
                failed_tears = was.failed_tears;
                torn_cards = λ c. torn-read c _ (was.torn_cards c);
                begun = was.begun;
                order = was.order;
                moments = was.moments;
                finds = was.finds;
                judged = was.judged;
                verdicts = λ t e v told found. verdict-read e.card t.second.number v (was.verdicts t e v told found);
              };
              kept = λ br at. ⊎_elim (λ was_found. inl (found-read br was_found)) (λ none. inr none) (h.ends.caused.kept br at);
              complete = h.ends.caused.complete;
              stops = h.ends.caused.stops;
              each_stop = h.ends.caused.each_stop;
            };
            still = λ c none. still-read c (h.ends.still c none);
            brings = h.ends.brings;
            odometer = λ y left. h.ends.odometer y (now-back y left);
            days = λ y left. h.ends.days y (now-back y left);
            words = λ y left. h.ends.words y (now-back y left);
            whole = λ uncut. let w = h.ends.whole uncut in
                record { decided = w.decided; unit = λ y left. w.unit y (now-back y left); card = λ c u untorn valid accepted y left. full-read c y (λ on. w.card c u untorn valid accepted y on) left };
          };
          side = λ y left. side-read y (h.side y (now-back y left));
          written = λ c valid y left. h.written c valid y (card-back c y left);
          stays = λ c on.
              let s = h.stays c on in
              record {
                exact = record {
                  stays = s.exact.stays;
                  since = s.exact.since;
                  others = s.exact.others;
                  only = s.exact.only;
                  judged = s.exact.judged;
                  entered = s.exact.entered;
                  theirs = s.exact.theirs;
                  verdicts = s.exact.verdicts;
                  shows = λ valid y left. s.exact.shows valid y (card-back c y left);
                  closed = s.exact.closed;
                  words = s.exact.words;
                  odometers = s.exact.odometers;
                };
                acknowledged = s.acknowledged;
              };
          both = λ none.
              let s = h.both none in
              record {
                own = λ c. record {
                  exact = record {
                    stays = (s.own c).exact.stays;
                    since = (s.own c).exact.since;
                    others = (s.own c).exact.others;
                    only = (s.own c).exact.only;
                    judged = (s.own c).exact.judged;
                    entered = (s.own c).exact.entered;
                    theirs = (s.own c).exact.theirs;
                    verdicts = (s.own c).exact.verdicts;
                    shows = λ valid y left. (s.own c).exact.shows valid y (card-back c y left);
                    closed = (s.own c).exact.closed;
                    words = (s.own c).exact.words;
                    odometers = (s.own c).exact.odometers;
                  };
                  acknowledged = (s.own c).acknowledged;
                };
                judged = s.judged;
                owes = s.owes;
                befores = record { comings = s.befores.comings; lines = s.befores.lines; merged = s.befores.merged; tells = λ dense y left. s.befores.tells dense y (now-back y left) };
              };
          stood = λ c valid. subst (λ (k : State). StoodExactly r c (card_of p c).clock (breakdowns_of p (device_of c)) k) (same-card c) (h.stood c valid);
          rows = λ y left. h.rows y (back p.unit.clock y before left);
          again = λ u ca cb left left_a left_b. h.again u ca cb (back p.unit.clock u before left) left_a left_b;
          speeds = λ ring. speeds-on (is_sure_block r.log) r.unit p.unit.clock (blocks_by r.log r.trace) U V (h.speeds ring) speeds-read;
          kept = more-found (U.left_since p.unit.clock) (V.left_since p.unit.clock) (λ y left. is.leaves.keeps p.unit.clock y before left) r.log (spans_of (told_of r)) h.kept;
          last = last-read (recorded r.unit) (history_of r) (lost_of r) out.marks.items p.unit.clock (last_kept r.unit) before h.ends.safe.unit h.last;
          dense = record { insertions = λ dense y left. h.dense.insertions dense y (now-back y left); places = λ dense y left. h.dense.places dense y (now-back y left) };
          holders = λ c valid y left. h.holders c valid y (told-back c y left);
          vehicles = λ c valid y left. h.vehicles c valid y (told-back c y left);
          measures = record { spans = h.measures.spans; are_spans = h.measures.are_spans; measures = λ c valid y left. h.measures.measures c valid y (card-back c y left) };
          sessions = λ c valid y left. h.sessions c valid y (card-back c y left);
          since = h.since;
          timely = λ n low. let m = h.timely n low in (m.0, m.1, m.2, moment-read m.0 m.3);
          places = record { spans = h.places.spans; are_spans = h.places.are_spans; shows = λ c valid y left. h.places.shows c valid y (card-back c y left) };
          cards = λ c. subst (λ (s : State). ShowsItsEvents r c p s) (same-card c) (h.cards c);
        }

-- and so it is of what was recorded on new devices
pub anew-read : (x a b : List ℕ) (start : ℕ) (items : List Item) (out : Outcome) (old : Devices) (U V Y Z : State) → IsRead U V → EndsAnew x a b start items out old (devices U Y Z) → EndsAnew x a b start items out old (devices V Y Z)
anew-read x a b start items out old U V Y Z is h = record {
  unit_clock = h.unit_clock;
  card_clock = h.card_clock;
  unit_later = h.unit_later;
  card_later = h.card_later;
  unit_before = omega (arith, h.unit_before, is.clock);
  card_before = h.card_before;
  unit_made = h.unit_made;
  card_made = h.card_made;
  ends = ends-read U V is x a b start items out (began_at h.unit_clock h.card_clock old) Y Z h.unit_before h.ends;
  writes = record { unit = (let most = h.writes.unit in omega (arith, most, is.clock)); card_a = h.writes.card_a; card_b = h.writes.card_b };
}
