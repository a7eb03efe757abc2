-- A second goes on behind a step in which nothing was found and no minute was kept; or the unit failed in that step.
use Rattle.std.proofs.Common.{◌≡◌, inl, inr, ⊎_elim, ◌+◌, ◌≤◌, None, List, [], ◌++◌, Contains, length, refl, ap, sym, subst, ◌∙◌, arith, Option}
use Rattle.run_devices.specs.trace_model.declared.Card.{Card}
use Rattle.run_devices.specs.trace_model.Trace.{TraceSecond}
use Rattle.run_devices.specs.run_model.declared.Device.TheVariants.{Unit as Recorder}
use Rattle.minute_rules.specs.minute_model.declared.Minute.{Minute}
use Rattle.minute_rules.specs.minute_model.Span.{Span, ungiven_of}
use Rattle.minute_rules.specs.Kept.{CountsSpan}
use Rattle.run_devices.specs.log_model.declared.lines.Mark.{Mark}
use Rattle.run_devices.specs.log_model.declared.lines.Verdict.{Verdict}
use Rattle.run_devices.specs.log_model.Log.{Phase, Keeping}
use Rattle.run_devices.specs.log_model.Causes.{RoseBy}
use Rattle.run_devices.specs.log_model.Course.{ToldSecond, Course, Visit, went}
use Rattle.run_devices.specs.device_rule.Rules.{Standing}
use Rattle.run_devices.specs.run_unit_course.Legs.{all_travelled}
use Rattle.run_devices.specs.unit_model.Image.{odometer_at}
use Rattle.run_devices.specs.unit_rule.Odometer.{HasTravelled}
use Rattle.run_devices.specs.safety_model.Safe.{Devices, card_of, breakdowns_of}
use Rattle.run_devices.specs.run_promise.Found.{found_of}
use Rattle.run_devices.specs.run_course.Presence.{SlotsTell}
use Rattle.run_devices.specs.run_course.Seconds.{kept_all}
use Rattle.run_devices.specs.run_course.Lines.{times_of}
use Rattle.run_devices.specs.run_course.Moment.{Moment}
use Rattle.run_devices.specs.run_course.Kept.{HasDecided, AreMarkedSoFar, StaysOut}
use Rattle.run_devices.proofs.run_course.Kept.{marks-stay}
use Rattle.run_devices.specs.Told.{AreFoundCards, DevicesPowered, DevicesUnpowered}
use Rattle.run_devices.specs.run_promise.Origin.{Origin, rule_of, start_at}
use Rattle.run_devices.specs.Presence.{PresentStand}
use Rattle.run_record.specs.Recorded.{Values, carried, GoesOnIn}
use Rattle.run_record.specs.Within.{told_before, course_in, overlaps_by, IsFoundSo, MayBeWrittenSo, IsSparedSo, AreBackAt, AreOld, GoesOnSo, RecordInSecond, SecondGoesOn, RecordAtFailure}
use Rattle.run_record.proofs.Left.{verdict-left}
use Rattle.run_record.proofs.Sitting.{verdicts-later}
use Rattle.run_record.proofs.Stays.{since-on}
use Rattle.run_record.proofs.Until.{up-to}
use Rattle.run_devices.specs.log_model.declared.lines.Refused.{Refused}
use Rattle.run_devices.specs.run_crew.declared.cards.Accepted.{Accepted}
use Rattle.run_devices.specs.run_crew.Cards.{session_of}
use Rattle.run_record.specs.Handed.{actions_to, asked_so_far, StayOrEnd, AreHandedIn}
use Rattle.run_record.proofs.HandedSteps.{handed-fewer}

module _ (o : Origin) (done : List TraceSecond) (s : TraceSecond) (at next : Phase) (before waits : List Visit) (rest : List Minute) (v later : Values) (d e : Devices) (w : RecordInSecond o done s at before None [] v d) where
  abbrev told0 : List ToldSecond
  told0 = told_before w.b done

  abbrev c : Course
  c = course_in w.b done s at v.log

  abbrev now : Course
  now = course_in w.b done s next later.log

  -- THE STEP: marks stay; the log tells of what happened; nothing was found; whom the log has waiting has entered; these minutes are to be kept
  pub record IsStep (sp : Span) : Type 0 where
    pub unfound_same : later.unfound ≡ v.unfound
    pub next_same : later.next ≡ v.next
    pub odometer_same : later.odometer ≡ v.odometer
    pub marks_same : later.marks ≡ v.marks
    pub moment : Moment w.b.run (went w.b.run.log done).before s next later.log waits w.b.broken (breakdowns_of e)
    pub out : StaysOut c now
    pub found_same : now.found ≡ c.found
    pub asked_same : asked_so_far w.b.run.log done later.log s (actions_to next s.actions) ≡ asked_so_far w.b.run.log done v.log s (actions_to at s.actions)
    pub stops_same : later.stops ≡ v.stops
    pub sessions : StayOrEnd (session_of v.cabin.cards) (session_of later.cabin.cards)
    pub enter : (x : Card) → times_of x c.entered ≤ times_of x now.entered
    pub wait : (x : Card) → times_of x waits + times_of x c.entered ≤ times_of x before + times_of x now.entered
    pub decided : HasDecided (rule_of o) (start_at o) told0 w.b.run w.b.span now None sp w.ds rest w.new
    pub found : AreFoundCards o.found later.cabin.cards
    pub tells : SlotsTell (start_at o) told0 (w.b.run.book.sure ++ w.new) now.left s.number w.from now.slots later.cabin.slots
    pub stays : (x : Card) → GoesOnIn s.number v.cabin.slots later.cabin.slots x
    pub goes : GoesOnSo o v.cabin.cards d e
    pub travels : HasTravelled (odometer_at o.recording.unit) (kept_all w.new w.b.run.book) (all_travelled w.ds w.b.travel) e.unit

  -- unit and cards behind it, with power
  pub record Powers (sp : Span) : Type 0 where
    pub minutes : CountsSpan later.minutes sp
    pub until : w.from + length rest ≡ ungiven_of sp
    pub standing : Card → Standing
    pub powered : DevicesPowered o.found (carried later w.due (kept_all w.new w.b.run.book) standing w.brought w.hands w.firsts) later.cabin.cards e
    pub present : PresentStand o.found standing told0 now s.number w.from later.cabin
    pub back : AreBackAt later.log (went w.b.run.log done).before s next w.from (w.from + length rest) later.cabin
    pub old : AreOld v.cabin.cards later.cabin.cards

  module _ (sp : Span) (k : IsStep sp) where
    same-found : (x : Visit) (verdict : Verdict) → Contains now.found (x, verdict) → Contains c.found (x, verdict)
    same-found x verdict there = subst (λ (fs : List (Visit × Verdict)). Contains fs (x, verdict)) k.found_same there

    -- what is acknowledged is so still
    still : (mark : Mark) → Contains v.marks mark → Contains later.marks mark
    still mark there = subst (λ (ms : List Mark). Contains ms mark) (sym k.marks_same) there

    finds : IsFoundSo o w.b done now s.number w.from w.new later.marks w.brought e
    finds = record {
      may = λ x verdict there.
          let was = w.finds.may x verdict (same-found x verdict there) in (
            was.0,
            (let a = was.1 in let b = k.enter x.card in omega (arith, a, b)),
            verdict-left o w.b done was.0 v.marks later.marks (d.unit.left_since o.found.unit.began) ((card_of d x.card).left_since (found_of o.found x.card).began) (e.unit.left_since o.found.unit.began) ((card_of e x.card).left_since (found_of o.found x.card).began)
                still k.goes.left.unit (k.goes.left.card x.card) x.card s.number verdict was.2,
          );
      taken = λ x verdict there accepts. w.finds.taken x verdict (same-found x verdict there) accepts;
      late = λ x verdict there accepts. w.finds.late x verdict (same-found x verdict there) accepts;
    }

    written-on : (x : Card) → MayBeWrittenSo o w.b done c before s.number v.cabin.slots x → MayBeWrittenSo o w.b done now waits s.number later.cabin.slots x
    written-on x h = record {
      valid = h.valid;
      fewer = (let lt = h.fewer in let f = ap (λ (fs : List (Visit × Verdict)). length (overlaps_by o x fs)) k.found_same in let more = k.wait x in omega (arith, lt, f, more));
      time = h.time;
      since = since-on o s.number v.cabin.slots later.cabin.slots x h.time (k.stays x) h.since;
      entered_then = ⊎_elim (λ early. inl early) (λ now_. inr (now_.0, (let lt = now_.1 in let more = k.wait x in omega (arith, lt, more)))) h.entered_then;
    }

    spared-on : (x : Card) → IsSparedSo o w.b done now waits s.number later.cabin.slots e x
    spared-on x = ⊎_elim
        (λ whole. ⊎_elim (λ still. inl still) (λ some. inr (written-on x (w.written x some))) (k.goes.untouched x whole))
        (λ may. inr (written-on x may))
        (w.spared x)

    marked : AreMarkedSoFar later.marks told0 now s.number w.new
    marked = marks-stay v.marks later.marks told0 c now s.number w.new w.marked still k.out

    stay : (mark : Mark) → Contains w.b.marks mark → Contains later.marks mark
    stay mark there = still mark (w.stay mark there)

    -- the entries by hand so far, with these sessions
    handed-then : (after : Card → Option Accepted) → StayOrEnd (session_of v.cabin.cards) after → AreHandedIn (start_at o) (kept_all w.new w.b.run.book).sure o.found w.b.run.log done s next later.log now later.stops later.marks w.hands w.firsts after
    handed-then after fewer =
        subst (λ (ms : List Mark). AreHandedIn (start_at o) (kept_all w.new w.b.run.book).sure o.found w.b.run.log done s next later.log now later.stops ms w.hands w.firsts after) (sym k.marks_same)
        (subst (λ (l : List Refused). AreHandedIn (start_at o) (kept_all w.new w.b.run.book).sure o.found w.b.run.log done s next later.log now l v.marks w.hands w.firsts after) (sym k.stops_same)
        (handed-fewer o.found w.b.run.log done s at next v.log later.log c now v.stops v.marks w.hands w.firsts (session_of v.cabin.cards) after k.found_same k.asked_same fewer w.handed))

    pub steps-on : Powers sp → SecondGoesOn o done s next waits None rest later e w.b w.from
    steps-on p = record {
      began = refl;
      from = refl;
      within = record {
        b = w.b;
        lit = w.lit;
        began = w.began;
        unfound = k.unfound_same ∙ w.unfound;
        next = k.next_same ∙ w.next;
        odometer = k.odometer_same ∙ w.odometer;
        moment = k.moment;
        sp = sp;
        minutes = p.minutes;
        ds = w.ds;
        new = w.new;
        decided = k.decided;
        from = w.from;
        kept_to = w.kept_to;
        until = p.until;
        stay = stay;
        marked = marked;
        due = w.due;
        standing = p.standing;
        brought = w.brought;
        hands = w.hands;
        firsts = w.firsts;
        handed = handed-then (session_of later.cabin.cards) k.sessions;
        powered = p.powered;
        found = k.found;
        early = w.early;
        late = w.late;
        more = w.more;
        tells = k.tells;
        present = p.present;
        back = p.back;
        verdicts = verdicts-later o done w.b d e k.goes.left w.verdicts;
        finds = finds;
        there = k.goes.there w.there;
        few = w.few;
        spared = spared-on;
        written = λ x some. written-on x (w.written x (p.old x some));
        travels = k.travels;
      };
    }

    -- or the unit failed, and the power is about to be cut
    pub step-fails : (standing : Card → Standing) → DevicesUnpowered o.found (carried later w.due (kept_all w.new w.b.run.book) standing w.brought w.hands w.firsts) e → RoseBy 1 (w.b.broken Recorder) (breakdowns_of e Recorder) → (next ≡ Keeping → ⊥) → rest ≡ [] →
        RecordAtFailure o done s next waits None later e
    step-fails standing powerless broke no_keeping none = record {
      b = w.b;
      lit = w.lit;
      began = w.began;
      unfound = k.unfound_same ∙ w.unfound;
      next = k.next_same ∙ w.next;
      odometer = k.odometer_same ∙ w.odometer;
      counted = breakdowns_of e;
      moment = k.moment;
      rise = record { unit = omega arith; cards = λ card. refl };
      broke = broke;
      sp = sp;
      ds = w.ds;
      lost = None;
      rest = [];
      new = w.new;
      decided = subst (λ (ms : List Minute). HasDecided (rule_of o) (start_at o) told0 w.b.run w.b.span now None sp w.ds ms w.new) none k.decided;
      fed = λ other. refl;
      kept = λ keeping. absurd (no_keeping keeping);
      from = w.from;
      kept_to = w.kept_to;
      stay = stay;
      due = w.due;
      standing = standing;
      brought = w.brought;
      hands = w.hands;
      firsts = w.firsts;
      handed = handed-then (λ card. None) (λ card. inr refl);
      powerless = powerless;
      found = k.found;
      early = w.early;
      late = let low = up-to o done s at before [] v d w in let due = w.late in omega (arith, low, due);
      low = let low = up-to o done s at before [] v d w in omega (arith, low);
      more = w.more;
      tells = k.tells;
      verdicts = verdicts-later o done w.b d e k.goes.left w.verdicts;
      finds = finds;
      there = k.goes.there w.there;
      few = w.few;
      spared = spared-on;
      travels = k.travels;
    }
