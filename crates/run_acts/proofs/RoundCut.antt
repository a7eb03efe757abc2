-- The unit fails in the keeping of minutes: the record where the power is about to be cut.
use Rattle.std.proofs.Common.{◌≡◌, inl, inr, ℕ, suc, ◌+◌, ◌/◌, ◌≤◌, ◌<◌, true, Some, None, List, [], ◌∷◌, ◌++◌, Contains, length, map, refl, ap, sym, subst, ◌∙◌, arith, Option}
use Rattle.std.proofs.lemmas.List.Elements.{All-head}
use Rattle.trace_model.specs.declared.Card.{Card}
use Rattle.trace_model.specs.Trace.{TraceSecond}
use Rattle.log_model.specs.run_model.declared.Device.TheVariants.{Unit as Recorder}
use Rattle.unit_model.specs.minute_model.declared.Minute.{Minute}
use Rattle.log_model.specs.declared.lines.Mark.{Mark}
use Rattle.log_model.specs.Causes.{RoseBy, device_of}
use Rattle.log_model.specs.Course.{Course}
use Rattle.device_calls.specs.history_model.Minutes.{HistoryMinute}
use Rattle.device_calls.specs.history_model.History.{seated}
use Rattle.device_calls.specs.history_model.Book.{Book, kept, broken}
use Rattle.device_calls.specs.run_unit_course.Legs.{Travel, travelled, stranded, all_travelled, stranded_at}
use Rattle.unit_model.specs.Image.{odometer_at}
use Rattle.device_calls.specs.unit_rule.Odometer.{HasTravelled}
use Rattle.device_calls.specs.safety_model.Safe.{Devices, breakdowns_of}
use Rattle.run_minutes.specs.run_promise.Between.{RunLedger}
use Rattle.run_events.specs.run_course.Seconds.{kept_all, broken_at}
use Rattle.run_events.proofs.run_course.Kept.{one-travelled}
use Rattle.run_minutes.specs.run_devices.Told.{DevicesUnpowered, AreEarly}
use Rattle.run_minutes.specs.run_promise.Origin.{Origin, start_at}
use Rattle.run_minutes.specs.Minutes.{Round, KeepingState, Done, AreRounds, IsLast, told_by, told_after, present_at}
use Rattle.run_minutes.specs.Books.{carried_after, carried_broken}
use Rattle.run_minutes.specs.Decided.{carried_by, decided_minute}
use Rattle.run_minutes.proofs.MarksBooked.{marks-by, marks-one}
use Rattle.run_record.specs.Recorded.{Values, carried}
use Rattle.run_record.specs.Within.{told_before, course_in, RecordAtFailure, lost_minute}
use Rattle.run_acts.specs.Rounds.{Point, told_values, moment_of, HaveBroken, Slate, SoFar}
use Rattle.run_acts.specs.RoundLaws.{InRounds, carried_at, KeepsSo, travelled_at, HasBrokenLast, TheKeepingFails}
use Rattle.run_minutes.specs.Later.{RestBy}
use Rattle.run_acts.proofs.Rising.{fell-more}
use Rattle.run_acts.proofs.RoundReached.{Through, one-on, first-number}
use Rattle.run_acts.proofs.Round.{minute-is}
use Rattle.run_acts.proofs.RoundBegun.{outset}
use Rattle.run_acts.proofs.RoundWhole.{through, verdicts-so, finds-so, spared-so, handed_so}
use Rattle.std.specs.Prelude.{option_to_list}
use Rattle.run_record.proofs.Opened.{sessions-since, seconds-before}
use Rattle.run_record.proofs.HandedSteps.{handed-gone}
use Rattle.run_acts.proofs.RoundHanded.{HandedAt, HandedBy, one-handed, increased}
use Rattle.device_calls.specs.safety_model.Unit.{marks_of, Increase}
use Rattle.run_crew.specs.Cards.{session_of}

rose-since : (before mid now : ℕ) → before ≤ mid → RoseBy 1 mid now → RoseBy 1 before now
rose-since before mid now le (inl low) = inl (omega (arith, le, low))
rose-since before mid now le (inr top) = inr top

-- where power is cut behind what was kept so far, and a minute may be lost with it
module _ (o : Origin) (done : List TraceSecond) (s : TraceSecond) (q : Point) (all : List Minute) (t : KeepingState) (v : Values) (d e : Devices) (w : InRounds o done s q all t v d) (k : KeepsSo o done s q all t v d e w)
    (x : KeepingState) (behind : RunLedger) (ds : List Minute) (lost : Option Minute) (rest : List Minute) (new : List HistoryMinute) (from : ℕ)
    (so : SoFar o done s q w.b (outset o done s q all t v d w) (breakdowns_of d) (breakdowns_of e) t.keeper w.sp v t.marks.items (course_in w.b done s q.at (told_values t v).log) w.brought x behind ds (option_to_list lost ++ rest) new from)
    (rose : RoseBy 1 (breakdowns_of d Recorder) (breakdowns_of e Recorder)) (rests : RestBy t.keeper.cabin.cards x.keeper.cabin.cards d e) (none : s.number / 60 ≤ w.from → (new ≡ w.new) × (w.from ≤ from)) (low : from ≤ s.number / 60)
    (handed : ((y : Card) → Increase (marks_of (device_of y) x.marks.items)) → HandedAt o done s q w.b v x behind)
    (due : ℕ) (late : due ≤ s.number / 60) where
  abbrev book_then : Book
  book_then = broken_at (lost_minute o w.b done new lost) (kept_all new w.b.run.book)

  abbrev carried_then : RunLedger
  carried_then = carried (told_values x v) due book_then behind.standing behind.brought behind.hands behind.firsts

  cut-so : AreEarly carried_then → DevicesUnpowered o.found carried_then e → HasTravelled (odometer_at o.recording.unit) book_then (stranded_at lost (all_travelled ds w.b.travel)) e.unit → RecordAtFailure o done s q.at q.waits q.speed (told_values x v) e
  cut-so early powerless travels = record {
    b = w.b;
    lit = w.lit;
    began = w.began;
    unfound = w.unfound;
    next = w.next;
    odometer = w.odometer;
    counted = so.slate.now;
    moment = so.slate.moment;
    rise = fell-more t.keeper.cabin.cards x.keeper.cabin.cards d e so.slate.now so.slate.rise so.slate.fell rests;
    broke = rose-since (w.b.broken Recorder) (breakdowns_of d Recorder) (breakdowns_of e Recorder) w.moment.unit rose;
    sp = w.sp;
    ds = ds;
    lost = lost;
    rest = rest;
    new = new;
    decided = so.decided;
    fed = k.point.unfed;
    kept = k.point.feeds;
    from = from;
    kept_to = so.to;
    stay = λ mark at. so.stay mark (w.stay mark at);
    due = due;
    standing = behind.standing;
    brought = behind.brought;
    hands = behind.hands;
    firsts = behind.firsts;
    powerless = powerless;
    handed = handed-gone o.found w.b.run.log done s q.at (told_values x v).log (course_in w.b done s q.at (told_values x v).log) v.stops x.marks.items behind.hands behind.firsts (session_of x.keeper.cabin.cards)
        (subst (λ (bk : Book). HandedBy o done s q w.b v x behind bk) so.book (handed (λ y. (powerless.carried.marks y).rise)));
    found = so.found;
    early = early;
    late = late;
    low = low;
    more = λ card n at. subst (λ (br : Card → List ℕ). Contains (br card) n) (sym so.brought_is) (w.more card n at);
    tells = so.slate.tells;
    verdicts = verdicts-so o done s q all t v d e w k;
    there = k.goes.there w.there;
    few = w.few;
    finds = finds-so o done s q all t v d e w k (course_in w.b done s q.at (told_values x v).log) from new (told_values x v).marks behind.brought so.same so.stay so.brought_is none;
    spared = spared-so o done s q all t v d e w k (course_in w.b done s q.at (told_values x v).log) x.keeper.cabin.slots so.same so.slate.stays;
    travels = travels;
  }

module _ (o : Origin) (done : List TraceSecond) (s : TraceSecond) (q : Point) (all : List Minute) (t : KeepingState) (v : Values) (d e : Devices) (w : InRounds o done s q all t v d) (k : KeepsSo o done s q all t v d e w)
    (xs : List Done) (m : Minute) (rest : List Minute) (split : all ≡ map (λ (x : Done). x.minute) xs ++ m ∷ rest) (rounds : AreRounds t.keeper (moment_of s q) xs t) (broken_ : HaveBroken t.keeper xs (breakdowns_of d) (breakdowns_of e))
    (rose : RoseBy 1 (breakdowns_of d Recorder) (breakdowns_of e Recorder)) where
  abbrev before : RunLedger
  before = carried_by t.keeper xs (carried_at o done s q all t v d w)

  abbrev u : KeepingState
  u = told_by t.keeper (moment_of s q) xs t

  abbrev c : Course
  c = course_in w.b done s q.at (told_values t v).log

  abbrev i : HistoryMinute
  i = decided_minute t.keeper m

  th : Through o done s q w.b (outset o done s q all t v d w) (breakdowns_of d) (breakdowns_of e) t.keeper w.sp v t.marks.items c w.brought k.few k.two xs (m ∷ rest) t (carried_at o done s q all t v d w) w.ds w.new w.from
  th = through o done s q all t v d e w k xs (m ∷ rest) split rounds broken_

  here : m.minute ≡ th.from_now
  here = (first-number m rest th.from_now th.so.numbers).0

  over : m.minute < s.number / 60
  over = All-head (λ (x : Minute). x.minute < s.number / 60) m rest th.so.over

  marks-are : before.marks ≡ u.marks.items
  marks-are = marks-by t.keeper (moment_of s q) xs t (carried_at o done s q all t v d w) refl

  i-is : seated (start_at o) (told_before w.b done) (w.b.run.book.sure ++ th.new_now) m ≡ i
  i-is = minute-is o done s q w.b (outset o done s q all t v d w) (breakdowns_of d) (breakdowns_of e) t.keeper m u (told_values u v).log before.standing th.new_now
      (subst (λ (n : ℕ). Slate o done s q w.b (outset o done s q all t v d w) n (w.b.run.book.sure ++ th.new_now) (told_values u v).log before.standing u.keeper.cabin (breakdowns_of d) (breakdowns_of e)) (sym here) th.so.slate) th.so.past over

  abbrev g : Travel
  g = travelled_at o done s q all t v d w xs

  -- the entries by hand of those that are kept
  handed-so : ((y : Card) → Increase (marks_of (device_of y) u.marks.items)) → HandedAt o done s q w.b v u before
  handed-so = handed_so o done s q all t v d e w k xs (m ∷ rest) split rounds broken_

  -- not begun
  pub cut-none : RestBy t.keeper.cabin.cards u.keeper.cabin.cards d e → DevicesUnpowered o.found before e → HasTravelled (odometer_at o.recording.unit) before.book g e.unit → RecordAtFailure o done s q.at q.waits q.speed (told_values u v) e
  cut-none rests powerless travels =
      cut-so o done s q all t v d e w k u before th.ds_now None (m ∷ rest) th.new_now th.from_now th.so rose rests (λ late. let n = th.none late in let is = n.1 in (n.0, omega (arith, is))) (omega (arith, over, here)) handed-so before.due (let due = th.so.due in omega (arith, due, over, here)) th.so.early
      (subst (λ (bk : Book). DevicesUnpowered o.found (carried (told_values u v) before.due bk before.standing before.brought before.hands before.firsts) e) th.so.book
      (subst (λ (ms : List Mark). DevicesUnpowered o.found (record before { marks = ms }) e) marks-are powerless))
      (subst (λ (bk : Book). HasTravelled (odometer_at o.recording.unit) bk (all_travelled th.ds_now w.b.travel) e.unit) th.so.book
      (subst (λ (h : Travel). HasTravelled (odometer_at o.recording.unit) before.book h e.unit) (sym th.travel) travels))

  -- begun
  pub cut-begun : RestBy t.keeper.cabin.cards u.keeper.cabin.cards d e → DevicesUnpowered o.found (carried_broken i before) e → HasTravelled (odometer_at o.recording.unit) (broken i before.book) (stranded m.minute m.travelled g) e.unit → RecordAtFailure o done s q.at q.waits q.speed (told_values u v) e
  cut-begun rests powerless travels =
      cut-so o done s q all t v d e w k u before th.ds_now (Some m) rest th.new_now th.from_now th.so rose rests (λ late. let n = th.none late in let is = n.1 in (n.0, omega (arith, is))) (omega (arith, over, here)) handed-so (suc m.minute) (omega (arith, over)) (λ card n at. let lt = th.so.early card n at in let due = th.so.due in omega (arith, lt, due, here))
      (subst (λ (j : HistoryMinute). DevicesUnpowered o.found (carried (told_values u v) (suc m.minute) (broken j (kept_all th.new_now w.b.run.book)) before.standing before.brought before.hands before.firsts) e) (sym i-is)
      (subst (λ (bk : Book). DevicesUnpowered o.found (carried (told_values u v) (suc m.minute) (broken i bk) before.standing before.brought before.hands before.firsts) e) th.so.book
      (subst (λ (ms : List Mark). DevicesUnpowered o.found (record (carried_broken i before) { marks = ms }) e) marks-are powerless)))
      (subst (λ (j : HistoryMinute). HasTravelled (odometer_at o.recording.unit) (broken j (kept_all th.new_now w.b.run.book)) (stranded m.minute m.travelled (all_travelled th.ds_now w.b.travel)) e.unit) (sym i-is)
      (subst (λ (bk : Book). HasTravelled (odometer_at o.recording.unit) (broken i bk) (stranded m.minute m.travelled (all_travelled th.ds_now w.b.travel)) e.unit) th.so.book
      (subst (λ (h : Travel). HasTravelled (odometer_at o.recording.unit) (broken i before.book) (stranded m.minute m.travelled h) e.unit) (sym th.travel) travels)))

  -- it is kept, and the unit failed as it noted the fault of a card
  module _ (round : Round) (last_one : IsLast t.keeper m (moment_of s q) u (told_after (present_at t.keeper.cabin m.minute) m.minute (moment_of s q) round u) (Some round))
      (more_broken : HasBrokenLast t.keeper m (Some round) (breakdowns_of d) (breakdowns_of e)) where
    abbrev x : KeepingState
    x = told_after (present_at t.keeper.cabin m.minute) m.minute (moment_of s q) round u

    abbrev behind : RunLedger
    behind = carried_after (present_at t.keeper.cabin m.minute) i round before

    so : SoFar o done s q w.b (outset o done s q all t v d w) (breakdowns_of d) (breakdowns_of e) t.keeper w.sp v t.marks.items c w.brought x behind (th.ds_now ++ m ∷ []) rest (th.new_now ++ i ∷ []) (suc th.from_now)
    so = one-on o done s q w.b (outset o done s q all t v d w) (breakdowns_of d) (breakdowns_of e) t.keeper w.sp v t.marks.items c w.brought k.few k.two m rest round true u before th.ds_now th.new_now th.from_now th.so last_one.0 more_broken.0 more_broken.1

    -- and the entries by hand of this one
    handed-one : ((y : Card) → Increase (marks_of (device_of y) x.marks.items)) → HandedAt o done s q w.b v x behind
    handed-one rise = one-handed o done s q w.b (outset o done s q all t v d w) (breakdowns_of d) (breakdowns_of e) t.keeper w.sp v t.marks.items c w.brought k.few k.two
        (sessions-since o done s q.at q.waits q.speed all (told_values t v) d w) (seconds-before o done s q.at q.waits q.speed all (told_values t v) d w) m rest round true u before th.ds_now th.new_now th.from_now th.so last_one.0 more_broken.0 more_broken.1 rise
        (handed-so (λ y. increased (device_of y) (present_at t.keeper.cabin m.minute) m.minute round u.marks.items (rise y)))

    pub cut-kept : RestBy t.keeper.cabin.cards x.keeper.cabin.cards d e → DevicesUnpowered o.found behind e → HasTravelled (odometer_at o.recording.unit) (kept i before.book) (travelled m.minute m.travelled g) e.unit → RecordAtFailure o done s q.at q.waits q.speed (told_values x v) e
    cut-kept rests powerless travels =
        cut-so o done s q all t v d e w k x behind (th.ds_now ++ m ∷ []) None rest (th.new_now ++ i ∷ []) (suc th.from_now) so rose rests (λ late. let n = th.none late in let is = n.1 in absurd (omega (arith, late, is, over, here))) (omega (arith, over, here)) handed-one behind.due (omega (arith, over)) so.early
        (subst (λ (bk : Book). DevicesUnpowered o.found (carried (told_values x v) behind.due bk behind.standing behind.brought behind.hands behind.firsts) e) so.book
        (subst (λ (ms : List Mark). DevicesUnpowered o.found (record behind { marks = ms }) e) (marks-one t.keeper (moment_of s q) m round u before marks-are) powerless))
        (subst (λ (bk : Book). HasTravelled (odometer_at o.recording.unit) bk (all_travelled (th.ds_now ++ m ∷ []) w.b.travel) e.unit) so.book
        (subst (λ (h : Travel). HasTravelled (odometer_at o.recording.unit) behind.book h e.unit) (sym (one-travelled th.ds_now m w.b.travel ∙ ap (travelled m.minute m.travelled) th.travel)) travels))

-- behind all of them, as in the note of an event
module _ (o : Origin) (done : List TraceSecond) (s : TraceSecond) (q : Point) (all : List Minute) (t : KeepingState) (v : Values) (d e : Devices) (w : InRounds o done s q all t v d) (k : KeepsSo o done s q all t v d e w)
    (xs : List Done) (split : all ≡ map (λ (x : Done). x.minute) xs ++ []) (rounds : AreRounds t.keeper (moment_of s q) xs t) (broken_ : HaveBroken t.keeper xs (breakdowns_of d) (breakdowns_of e))
    (rose : RoseBy 1 (breakdowns_of d Recorder) (breakdowns_of e Recorder)) (low : w.from + length all ≤ s.number / 60) where
  abbrev all_ : RunLedger
  all_ = carried_by t.keeper xs (carried_at o done s q all t v d w)

  abbrev end : KeepingState
  end = told_by t.keeper (moment_of s q) xs t

  thr : Through o done s q w.b (outset o done s q all t v d w) (breakdowns_of d) (breakdowns_of e) t.keeper w.sp v t.marks.items (course_in w.b done s q.at (told_values t v).log) w.brought k.few k.two xs [] t (carried_at o done s q all t v d w) w.ds w.new w.from
  thr = through o done s q all t v d e w k xs [] split rounds broken_

  low-now : thr.from_now ≤ s.number / 60
  low-now = let to = thr.so.ends in omega (arith, to, low)

  pub cut-behind : RestBy t.keeper.cabin.cards end.keeper.cabin.cards d e → DevicesUnpowered o.found all_ e → HasTravelled (odometer_at o.recording.unit) all_.book (travelled_at o done s q all t v d w xs) e.unit → RecordAtFailure o done s q.at q.waits q.speed (told_values end v) e
  cut-behind rests powerless travels =
      cut-so o done s q all t v d e w k end all_ thr.ds_now None [] thr.new_now thr.from_now thr.so rose rests (λ late. let n = thr.none late in let is = n.1 in (n.0, omega (arith, is))) low-now (handed_so o done s q all t v d e w k xs [] split rounds broken_) all_.due (let due = thr.so.due in let le = low-now in omega (arith, due, le)) thr.so.early
      (subst (λ (bk : Book). DevicesUnpowered o.found (carried (told_values end v) all_.due bk all_.standing all_.brought all_.hands all_.firsts) e) thr.so.book
      (subst (λ (ms : List Mark). DevicesUnpowered o.found (record all_ { marks = ms }) e) (marks-by t.keeper (moment_of s q) xs t (carried_at o done s q all t v d w) refl) powerless))
      (subst (λ (bk : Book). HasTravelled (odometer_at o.recording.unit) bk (all_travelled thr.ds_now w.b.travel) e.unit) thr.so.book
      (subst (λ (h : Travel). HasTravelled (odometer_at o.recording.unit) all_.book h e.unit) (sym thr.travel) travels))

-- ALL OF IT
pub keeping-fails : (d e : Devices) → TheKeepingFails d e
keeping-fails d e o done s q all t u v w k xs m rest None split rounds broken_ last_one more rose rests (inl cut) =
    subst (λ (y : KeepingState). RecordAtFailure o done s q.at q.waits q.speed (told_values y v) e) (sym last_one) (cut-none o done s q all t v d e w k xs m rest split rounds broken_ rose
    (subst (λ (y : KeepingState). RestBy t.keeper.cabin.cards y.keeper.cabin.cards d e) last_one rests) cut.0 cut.1)
keeping-fails d e o done s q all t u v w k xs m rest None split rounds broken_ last_one more rose rests (inr cut) =
    subst (λ (y : KeepingState). RecordAtFailure o done s q.at q.waits q.speed (told_values y v) e) (sym last_one) (cut-begun o done s q all t v d e w k xs m rest split rounds broken_ rose
    (subst (λ (y : KeepingState). RestBy t.keeper.cabin.cards y.keeper.cabin.cards d e) last_one rests) cut.0 cut.1)
keeping-fails d e o done s q all t u v w k xs m rest (Some round) split rounds broken_ last_one more rose rests cut =
    subst (λ (y : KeepingState). RecordAtFailure o done s q.at q.waits q.speed (told_values y v) e) (sym last_one.1)
    (cut-kept o done s q all t v d e w k xs m rest split rounds broken_ rose round (last_one.0, refl) more
    (subst (λ (y : KeepingState). RestBy t.keeper.cabin.cards y.keeper.cabin.cards d e) last_one.1 rests) cut.0 cut.1)
