-- The record over seconds that are taken at once: without power, of an `off` line, and with power where nothing happens; and at the start.
use Rattle.std.proofs.Common.{◌≡◌, inl, inr, ⊎_elim, ℕ, zero, suc, ◌+◌, ◌-◌, ◌/◌, ◌%◌, ◌<◌, ◌≤◌, true, false, None, List, [], ◌∷◌, ◌++◌, Contains, length, map, refl, ap, sym, subst, ◌∙◌, arith, append_assoc}
use Rattle.std.specs.Prelude.{max}
use Rattle.std.proofs.lemmas.List.{same_from_push}
use Rattle.run_devices.specs.trace_model.declared.Card.{Card}
use Rattle.run_devices.specs.trace_model.declared.Action.{Action}
use Rattle.run_devices.specs.trace_model.Trace.{TraceSecond, driven, dark}
use Rattle.minute_rules.specs.minute_model.declared.Rule.{Rule}
use Rattle.minute_rules.specs.minute_model.Minute.{minutes_ahead}
use Rattle.minute_rules.specs.minute_model.Span.{Span, end_of, fed_many, ungiven_of, latest}
use Rattle.minute_rules.proofs.minute_model.Counted.{ungiven-most}
use Rattle.minute_rules.proofs.minute_model.Spans.{fed_many-end, fed_many-rule, fed_many-first_number, fed_many-settlings}
use Rattle.minute_rules.specs.Kept.{Kept, CountsSpan}
use Rattle.run_devices.specs.log_model.declared.lines.Mark.{Mark}
use Rattle.run_devices.specs.log_model.declared.lines.Refused.{Refused}
use Rattle.run_devices.specs.log_model.Log.{RunLog}
use Rattle.run_devices.specs.log_model.Slots.{Slots, is_accepted}
use Rattle.run_devices.specs.log_model.Causes.{refusals_at, refusal_told}
use Rattle.run_devices.specs.log_model.Course.{ToldSecond, Went, fresh, went, without_power, has_power}
use Rattle.run_devices.specs.log_model.ByHand.{asked_of, is_stop}
use Rattle.run_devices.specs.history_model.Growth.{as_span}
use Rattle.run_devices.specs.history_model.Minutes.{HistoryMinute}
use Rattle.run_devices.specs.history_model.Presence.{Start}
use Rattle.run_devices.specs.history_model.Book.{not_begun}
use Rattle.run_devices.proofs.history_model.Deciding.{counted}
use Rattle.run_devices.specs.device_rule.Rules.{Standing, Out}
use Rattle.run_devices.specs.run_unit_course.Followed.{UnitPower, Lit, Due, Lost, IsDark}
use Rattle.run_devices.specs.run_unit_course.Legs.{not_travelled}
use Rattle.run_devices.specs.run_unit_course.Lines.{cut_at}
use Rattle.run_devices.specs.run_unit_course.Turn.{span_at, cut_at_end}
use Rattle.run_devices.proofs.run_unit_course.Parts.{driven-order, driven-length, dark-order, dark-length}
use Rattle.run_devices.specs.safety_model.Safe.{Devices, card_of, breakdowns_of, entered_by}
use Rattle.run_devices.specs.safety_model.Hands.{sessions_in}
use Rattle.run_devices.specs.card_slots.Kept.{Kept as SlotsKept, nothing_yet}
use Rattle.run_devices.specs.run_crew.declared.cards.Cards.{Cards}
use Rattle.run_devices.specs.run_crew.declared.cabin.Cabin.{Cabin}
use Rattle.run_devices.specs.run_crew.Cabin.{with_power_lost}
use Rattle.run_devices.proofs.run_crew.Sessions.{all_gone}
use Rattle.run_devices.specs.run_crew.Cards.{session_of}
use Rattle.run_devices.specs.run_promise.Found.{Found, found_of}
use Rattle.run_devices.specs.run_promise.Between.{RunLedger}
use Rattle.run_devices.proofs.run_promise.End.{lit-carried}
use Rattle.run_devices.specs.run_course.Followed.{Progress, BookFollowsRun}
use Rattle.run_devices.specs.run_course.Moments.{and_break}
use Rattle.run_devices.specs.run_course.Presence.{SlotsTell}
use Rattle.run_devices.specs.run_course.Quiet.{quiet_second, quiet_seconds}
use Rattle.run_devices.specs.run_course.Dark.{all_dark}
use Rattle.run_devices.proofs.run_course.Dark.{lost-are-told, off-are-told, dark-tell}
use Rattle.run_devices.proofs.run_course.Logs.{went-refused}
use Rattle.run_devices.proofs.run_course.Presence.{nobody-sits, last-cut}
use Rattle.run_devices.proofs.run_course.Quiet.{quiet-are-told, rules-see-quiet, quiet-tell}
use Rattle.run_devices.proofs.run_course.Steps.{span-end, lit-parts, cut-parts}
use Rattle.run_devices.specs.Presence.{PresentStand}
use Rattle.run_devices.proofs.Presence.{next-begins}
use Rattle.run_devices.specs.Told.{DevicesPowered, DevicesUnpowered}
use Rattle.run_devices.proofs.Parts.{held-dark}
use Rattle.run_devices.specs.run_promise.Origin.{Origin, rule_of, start_at, first_of}
use Rattle.run_devices.specs.run_promise.Ends.{recording_by, AreFound, AreVerdicts, AreSpared, MayBeWritten}
use Rattle.run_devices.specs.run_promise.Beside.{TellsMore, AreIdle, AreFewFound}
use Rattle.run_devices.specs.run_promise.Seconds.{empty_log, at_start}
use Rattle.run_devices.proofs.run_promise.Beside.{dark-tells, off-tells, off-cut-tells, quiet-tells, idle-verdicts, idle-spared, idle-few, few-on, written-on, entered-same, kept-cut}
use Rattle.run_devices.proofs.run_promise.Seconds as seconds
use Rattle.run_record.specs.Recorded.{Values, progress, carried, slots_of, AreBack, IsWrittenSince, IsWritten, RecordPowered, RecordUnpowered, RecordBetweenSeconds}
use Rattle.run_record.specs.Within.{RecordedFrom}
use Rattle.run_record.specs.Going.{dark_values, DarkSecondsStayRecorded, off_values, AnOffLineStaysRecorded, off_cut_values, AnOffCutStaysRecorded, quiet_values, quiet_span, QuietSecondsStayRecorded, MayStart, ARunBegins}
use Rattle.run_record.proofs.Beginning.{ends-with, present-later}
use Rattle.run_record.proofs.Cutting.{found-cut, dark-seat}
use Rattle.run_record.proofs.Stays.{since-later, since-cut}
use Rattle.run_record.specs.Handed.{done_for, AreToldOf, asked_for}
use Rattle.run_record.proofs.HandedSteps.{go-as, known-none, hands-none, handed-idle, none-less}
use Rattle.run_devices.specs.hand_model.Written.{no_hands}
use Rattle.run_record.proofs.Asked.{asked-unlit, asked-refused, asked-off, asked-cut_off, asked-driven}
use Rattle.run_devices.proofs.run_course.Told.{lost-dark}
use Rattle.std.proofs.lemmas.List.Elements.{All-nil}
use Rattle.run_record.proofs.Stopped.{stopped-as}
use Rattle.run_devices.specs.safety_model.ByHand.{IsStoppedBy}
use Rattle.run_record.specs.HeldHands.{IsKnown}

-- ---- no card enters in some seconds more

module _ (o : Origin) (done now : List TraceSecond) (log later : RunLog) (d : Devices) (more : List ToldSecond) (from : ℕ) (tells : TellsMore (went log done).told (went later now).told more from) (idle : AreIdle more) where
  verdicts-go : (unfound : ℕ) (marks : List Mark) → AreVerdicts o done log unfound marks d → AreFound (d.unit.left_since o.found.unit.began) unfound later.breaks → AreVerdicts o now later unfound marks d
  verdicts-go unfound marks old kept = idle-verdicts o done now log later unfound unfound marks d d more from old (record { unit = λ x h. h; card = λ c x h. h }) tells idle kept

  spared-go : AreSpared o done log d → AreSpared o now later d
  spared-go old = idle-spared o done now log later d d more from old tells idle (λ c whole. inl whole)

  few-go : AreFewFound (recording_by o done log) → AreFewFound (recording_by o now later)
  few-go old = few-on o done now log later more from old tells (idle-few o.recording more idle)

  may-go : (card : Card) → MayBeWritten (recording_by o done log) card → MayBeWritten (recording_by o now later) card
  may-go card may = written-on o done now log later more from tells (idle-few o.recording more idle) card may

  entered-go : (card : Card) (u : ℕ) → u < from → 0 < entered_by (recording_by o done log) card u → 0 < entered_by (recording_by o now later) card u
  entered-go card u early some = let same = entered-same o done now log later more from tells card u early in omega (arith, same, some)

-- seconds have numbers
after-first : (rule : Rule) (start : Start) (from first : ℕ) (done : List TraceSecond) (p : Progress) → BookFollowsRun rule start from first done p → 0 < p.next
after-first rule start from first done p f = let early = f.early in let next = f.next in omega (arith, early, next)

-- ---- without power

module _ (o : Origin) (done : List TraceSecond) (v : Values) (d : Devices) (supply : UnitPower) (r : RecordBetweenSeconds o done supply v d) where
  abbrev f : BookFollowsRun (rule_of o) (start_at o) o.from (first_of o) done (progress v supply r.book)
  f = r.recorded.followed

  -- what may be written goes on
  written-go : (now : List TraceSecond) (w : Values) (more : List ToldSecond) → TellsMore (went v.log done).told (went w.log now).told more v.next → AreIdle more → w.cabin.slots ≡ v.cabin.slots → v.next ≤ w.next →
      (card : Card) → IsWritten o done v card → IsWritten o now w card
  written-go now w more tells idle same le card h = record {
    may = may-go o done now v.log w.log d more v.next tells idle card h.may;
    time = h.time;
    since = subst (λ (k : SlotsKept). IsWrittenSince o k (w.next - 1) card h.time) (sym same) (since-later o (v.next - 1) (w.next - 1) v.cabin.slots card h.time (omega (arith, le)) h.since);
    entered_then = entered-go o done now v.log w.log d more v.next tells idle card h.time (let past = h.since.past in let some = after-first (rule_of o) (start_at o) o.from (first_of o) done (progress v supply r.book) f in omega (arith, past, some)) h.entered_then;
  }

module _ (o : Origin) (done : List TraceSecond) (v : Values) (d : Devices) (r : RecordBetweenSeconds o done Lost v d) (n speed : ℕ) (actions : List Action) (refused : List Refused) (begun : ℕ)
    (low : 0 < v.next % 60) (high : v.next % 60 + suc n ≤ 60) (told : map refusal_told refused ≡ refusals_at v.next (without_power 0 actions)) where
  abbrev p : Progress
  p = progress v Lost r.book

  abbrev now : List TraceSecond
  now = done ++ driven (suc n) v.next speed actions

  abbrev w : Values
  w = dark_values (suc n) begun refused v

  abbrev off : RecordUnpowered o done v (carried v r.due r.book r.standing r.brought r.hands r.firsts) d
  off = r.held

  further : (more : List ToldSecond) × TellsMore (went v.log done).told (went w.log now).told more v.next × AreIdle more
  further = dark-tells o done p r.recorded.followed refl (suc n) speed actions (v.log.refused ++ refused) low high

  was : Went
  was = went v.log done

  went-now : went w.log now ≡ record { told = (went v.log done).told ++ all_dark (driven (suc n) v.next speed actions) (went v.log done).before.slots; before = (went v.log done).before }
  went-now = went-refused v.log w.log refl refl now ∙ lost-are-told (rule_of o) (start_at o) o.from (first_of o) done p r.recorded.followed refl (suc n) speed actions low high

  dark-tells_slots : SlotsTell (start_at o) (went w.log now).told r.book.sure [] (w.next - 1) (w.next / 60) (slots_of w now) v.cabin.slots
  dark-tells_slots =
      let first : TraceSecond = record { number = v.next; has_power = true; speed = speed; actions = actions } in
      let rest : List TraceSecond = driven n (v.next + 1) speed [] in
      let slots : Slots = (went v.log done).before.slots in
      let long = driven-length n (v.next + 1) speed [] in
      let on = dark-tell (start_at o) (went v.log done).told r.book.sure (v.next - 1) v.next (v.next / 60) (w.next / 60) slots v.cabin.slots off.tells first rest (omega arith) (driven-order (suc n) v.next speed actions) (omega arith) (omega (arith, long)) in
      subst (λ (x : Went). SlotsTell (start_at o) x.told r.book.sure [] (w.next - 1) (w.next / 60) x.before.slots v.cabin.slots) (sym went-now)
      (subst (λ (m : ℕ). SlotsTell (start_at o) ((went v.log done).told ++ all_dark (first ∷ rest) slots) r.book.sure [] m (w.next / 60) slots v.cabin.slots) (let e : v.next + length rest ≡ w.next - 1 = omega (arith, long) in e) on)

  -- the entries by hand so far
  asked-dark_on : asked_of w.log now ≡ asked_of v.log done
  unfolding was went
  asked-dark_on =
      let first : TraceSecond = record { number = v.next; has_power = true; speed = speed; actions = actions } in
      asked-unlit w.log done n v.next speed actions
      (subst (λ (x : Went). has_power x.before first ≡ false) (sym (went-refused v.log w.log refl refl done)) (lost-dark was.before first r.recorded.followed.power low))
      ∙ asked-refused v.log w.log o.from done r.recorded.followed.order refl refl

  dark-on : RecordBetweenSeconds o now Lost w d
  dark-on = record {
    book = r.book;
    travel = r.travel;
    odometer = tt;
    due = r.due;
    standing = r.standing;
    brought = r.brought;
    hands = r.hands;
    firsts = r.firsts;
    handed = handed-idle o.found v.log w.log done now further.0 v.next v.stops v.marks r.hands r.firsts (session_of v.cabin.cards) (session_of v.cabin.cards) further.1 further.2 asked-dark_on (none-less (session_of v.cabin.cards)) r.handed;
    recorded = seconds.dark-recorded o done p r.travel v.marks (breakdowns_of d) r.brought r.recorded refl n speed actions refused begun low high told;
    beside = record {
      verdicts = verdicts-go o done now v.log w.log d further.0 v.next further.1 further.2 v.unfound v.marks r.beside.verdicts r.beside.verdicts.kept;
      spared = spared-go o done now v.log w.log d further.0 v.next further.1 further.2 r.beside.spared;
      travels = r.beside.travels;
    };
    there = r.there;
    few = few-go o done now v.log w.log d further.0 v.next further.1 further.2 r.few;
    written = λ card. ⊎_elim (λ whole. inl whole) (λ h. inr (written-go o done v d Lost r now w further.0 further.1 further.2 refl (omega arith) card h)) (r.written card);
    found = r.found;
    early = r.early;
    held = record {
      powerless = off.powerless;
      due = let due = off.due in omega (arith, due);
      tells = dark-tells_slots;
      bare = off.bare;
      driver = ap (λ (x : Went). is_accepted x.before.slots.driver) went-now ∙ off.driver;
      codriver = ap (λ (x : Went). is_accepted x.before.slots.codriver) went-now ∙ off.codriver;
    };
  }

pub dark-recorded : (d : Devices) → DarkSecondsStayRecorded d
dark-recorded d o done v r n speed actions refused begun low high told = dark-on o done v d r n speed actions refused begun low high told

-- ---- an `off` line

off-held : (o : Origin) (done : List TraceSecond) (supply : UnitPower) (v : Values) (d : Devices) (r : RecordBetweenSeconds o done supply v d) → IsDark supply → RecordUnpowered o done v (carried v r.due r.book r.standing r.brought r.hands r.firsts) d
off-held o done (Lit span) v d r dark_ = absurd dark_
off-held o done Due v d r dark_ = r.held
off-held o done Lost v d r dark_ = r.held

-- the seconds of the line tell who is present as before it
module _ (start : Start) (log : RunLog) (done : List TraceSecond) (n next from : ℕ) (k : SlotsKept) (sure : List HistoryMinute) where
  abbrev off-slots : Slots
  off-slots = (went log done).before.slots

  off-tell : (number : ℕ) → number ≤ next → from ≤ (next + suc n) / 60 → SlotsTell start (went log done).told sure [] number from off-slots k →
      SlotsTell start (went log (done ++ dark (suc n) next)).told sure [] (next + suc n - 1) ((next + suc n) / 60) (went log (done ++ dark (suc n) next)).before.slots k
  off-tell number le raised h =
      let is = off-are-told log done (suc n) next in
      let first : TraceSecond = record { number = next; has_power = false; speed = 0; actions = [] } in
      let rest : List TraceSecond = dark n (next + 1) in
      let long = dark-length n (next + 1) in
      let on = dark-tell start (went log done).told sure number next from ((next + suc n) / 60) off-slots k h first rest le (dark-order (suc n) next) raised (omega (arith, long)) in
      subst (λ (ts : List ToldSecond). SlotsTell start ts sure [] (next + suc n - 1) ((next + suc n) / 60) (went log (done ++ dark (suc n) next)).before.slots k) (sym is.0)
      (subst (λ (sl : Slots). SlotsTell start ((went log done).told ++ all_dark (dark (suc n) next) off-slots) sure [] (next + suc n - 1) ((next + suc n) / 60) sl k) (sym is.1)
      (subst (λ (m : ℕ). SlotsTell start ((went log done).told ++ all_dark (first ∷ rest) off-slots) sure [] m ((next + suc n) / 60) off-slots k) (let e : next + length rest ≡ next + suc n - 1 = omega (arith, long) in e) on))

pub off-recorded : (d : Devices) → AnOffLineStaysRecorded d
off-recorded d o done supply v r dark_ n =
    let p : Progress = progress v supply r.book in
    let now : List TraceSecond = done ++ dark (suc n) v.next in
    let w : Values = off_values (suc n) v in
    let off = off-held o done supply v d r dark_ in
    let further = off-tells o done p r.recorded.followed (suc n) in
    let is = off-are-told v.log done (suc n) v.next in
    record {
      book = r.book;
      travel = r.travel;
      odometer = tt;
      due = r.due;
      standing = r.standing;
      brought = r.brought;
      hands = r.hands;
      firsts = r.firsts;
      handed = handed-idle o.found v.log v.log done now further.0 v.next v.stops v.marks r.hands r.firsts (session_of v.cabin.cards) (session_of v.cabin.cards) further.1 further.2 (asked-off v.log done (suc n) v.next) (none-less (session_of v.cabin.cards)) r.handed;
      recorded = seconds.off-recorded o done p r.travel v.marks (breakdowns_of d) r.brought r.recorded dark_ n;
      beside = record {
        verdicts = verdicts-go o done now v.log v.log d further.0 v.next further.1 further.2 v.unfound v.marks r.beside.verdicts r.beside.verdicts.kept;
        spared = spared-go o done now v.log v.log d further.0 v.next further.1 further.2 r.beside.spared;
        travels = r.beside.travels;
      };
      there = r.there;
      few = few-go o done now v.log v.log d further.0 v.next further.1 further.2 r.few;
      written = λ card. ⊎_elim (λ whole. inl whole) (λ h. inr (written-go o done v d supply r now w further.0 further.1 further.2 refl (omega arith) card h)) (r.written card);
      found = r.found;
      early = r.early;
      held = record {
        powerless = off.powerless;
        due = let due = off.due in omega (arith, due);
        tells = off-tell (start_at o) v.log done n v.next (v.next / 60) v.cabin.slots r.book.sure (v.next - 1) (omega arith) (omega arith) off.tells;
        bare = off.bare;
        driver = ap (λ (sl : Slots). is_accepted sl.driver) is.1 ∙ off.driver;
        codriver = ap (λ (sl : Slots). is_accepted sl.codriver) is.1 ∙ off.codriver;
      };
    }

-- ---- an `off` line that takes the power

-- unit and cards wait once there is no power
powered-waits : (f : Found) (w : RunLedger) (cards : Cards) (d : Devices) → DevicesPowered f w cards d → DevicesUnpowered f w d
powered-waits f w cards d h = record { carried = lit-carried f w d h.lit; wait = λ c valid. held-dark (found_of f c) (w.hands c) c w.book (w.standing c) (card_of d c) h.lit.none (h.go.held c valid) }

-- no minute before the next second's is undecided any more behind it
ungiven-by : (v : Values) (span : Span) → CountsSpan v.minutes span → end_of span ≡ v.next → ungiven_of span ≤ v.next / 60
ungiven-by v span h end = let most = ungiven-most span h.settled in subst (λ (e : ℕ). ungiven_of span ≤ e / 60) end most

module _ (o : Origin) (done : List TraceSecond) (t : ToldSecond) (span : List ToldSecond) (v : Values) (d : Devices) (r : RecordBetweenSeconds o done (Lit (t ∷ span)) v d) where
  abbrev lit-progress : Progress
  lit-progress = progress v (Lit (t ∷ span)) r.book

  abbrev on : RecordPowered o done (t ∷ span) v (carried v r.due r.book r.standing r.brought r.hands r.firsts) d
  on = r.held

  abbrev whole : Span
  whole = span_at (rule_of o) v.next (t ∷ span)

  span-ends : end_of (span_at (rule_of o) v.next (t ∷ span)) ≡ v.next
  span-ends =
      let g = r.recorded.followed in
      let end = span-end v.log o.from done g.ended t span v.next g.order g.next g.power.running g.spans in
      let c = counted (t ∷ span) in
      omega (arith, end, c)

  undecided : ungiven_of whole ≤ v.next / 60
  undecided = ungiven-by v whole on.minutes span-ends

  module _ (n : ℕ) where
    abbrev cut-log : RunLog
    cut-log = and_break v.log (cut_at (v.next - 1) false v.begun)

    abbrev now-off : List TraceSecond
    now-off = done ++ dark (suc n) v.next

    abbrev cut-values : Values
    cut-values = off_cut_values (suc n) v

    further-off : (more : List ToldSecond) × TellsMore (went v.log done).told (went cut-log now-off).told more v.next × AreIdle more
    further-off = off-cut-tells o done lit-progress r.recorded.followed t span refl refl (suc n)

    -- the last second, as it went and as a cut's
    record LastCut : Type 0 where
      front : List ToldSecond
      last : ToldSecond
      told_is : (went v.log done).told ≡ front ++ last ∷ []
      cut_is : (went cut-log done).told ≡ front ++ cut_at_end last ∷ []
      number_is : last.second.number ≡ v.next - 1
      slots_are : last.course.slots ≡ slots_of v done
      cut_slots : (went cut-log done).before.slots ≡ (cut_at_end last).course.slots

    last-second : LastCut
    last-second =
        let g = r.recorded.followed in
        let parts = cut-parts (rule_of o) (start_at o) o.from (first_of o) done lit-progress t span (lit-parts (rule_of o) (start_at o) o.from (first_of o) done lit-progress g (t ∷ span) refl refl) in
        let one = ends-with v.log o.from done v.begun v.next g.last g.order g.next in
        let two = ends-with cut-log o.from done v.begun v.next g.last g.order g.next in
        let same = same_from_push parts.0 one.front parts.1 one.last (sym parts.2 ∙ one.are) in
        let same_cut = same_from_push parts.0 two.front (cut_at_end parts.1) two.last (sym parts.3 ∙ two.are) in
        record {
          front = parts.0;
          last = parts.1;
          told_is = parts.2;
          cut_is = parts.3;
          number_is = parts.6;
          slots_are = ap (λ (x : ToldSecond). x.course.slots) same.1 ∙ one.slots_are;
          cut_slots = sym two.slots_are ∙ ap (λ (x : ToldSecond). x.course.slots) (sym same_cut.1);
        }

    cut-tells : SlotsTell (start_at o) (went cut-log done).told r.book.sure [] (v.next - 1) (ungiven_of whole) (went cut-log done).before.slots (with_power_lost (v.next - 1) v.cabin).slots
    cut-tells =
        let l = last-second in
        let U : ℕ = ungiven_of whole in
        let was = subst (λ (m : ℕ). SlotsTell (start_at o) (l.front ++ l.last ∷ []) r.book.sure [] m U l.last.course.slots v.cabin.slots) (sym l.number_is)
        (subst (λ (sl : Slots). SlotsTell (start_at o) (l.front ++ l.last ∷ []) r.book.sure [] (v.next - 1) U sl v.cabin.slots) (sym l.slots_are)
        (subst (λ (ts : List ToldSecond). SlotsTell (start_at o) ts r.book.sure [] (v.next - 1) U (slots_of v done) v.cabin.slots) l.told_is on.tells)) in
        let cut = last-cut (start_at o) l.front r.book.sure U l.last v.cabin.slots was in
        subst (λ (ts : List ToldSecond). SlotsTell (start_at o) ts r.book.sure [] (v.next - 1) U (went cut-log done).before.slots (with_power_lost (v.next - 1) v.cabin).slots) (sym l.cut_is)
        (subst (λ (sl : Slots). SlotsTell (start_at o) (l.front ++ cut_at_end l.last ∷ []) r.book.sure [] (v.next - 1) U sl (with_power_lost (v.next - 1) v.cabin).slots) (sym l.cut_slots)
        (subst (λ (m : ℕ). SlotsTell (start_at o) (l.front ++ cut_at_end l.last ∷ []) r.book.sure [] m U (cut_at_end l.last).course.slots (with_power_lost m v.cabin).slots) l.number_is cut))

    written-cut : (card : Card) → IsWritten o done v card → IsWritten o now-off cut-values card
    written-cut card h = record {
      may = may-go o done now-off v.log cut-log d further-off.0 v.next further-off.1 further-off.2 card h.may;
      time = h.time;
      since = since-later o (v.next - 1) (v.next + suc n - 1) (with_power_lost (v.next - 1) v.cabin).slots card h.time (omega arith) (since-cut o (v.next - 1) v.cabin.slots card h.time h.since);
      entered_then = entered-go o done now-off v.log cut-log d further-off.0 v.next further-off.1 further-off.2 card h.time
          (let past = h.since.past in let some = after-first (rule_of o) (start_at o) o.from (first_of o) done lit-progress r.recorded.followed in omega (arith, past, some)) h.entered_then;
    }

    off-cut-on : RecordBetweenSeconds o now-off Due cut-values d
    off-cut-on =
        let is = off-are-told cut-log done (suc n) v.next in
        let dark_slots : (went cut-log now-off).before.slots ≡ (cut_at_end last-second.last).course.slots = is.1 ∙ last-second.cut_slots in
        let low = undecided in
        record {
          book = r.book;
          travel = r.travel;
          odometer = tt;
          due = r.due;
          standing = r.standing;
          brought = r.brought;
          hands = r.hands;
          firsts = r.firsts;
          handed = handed-idle o.found v.log cut-log done now-off further-off.0 v.next v.stops v.marks r.hands r.firsts (session_of v.cabin.cards) (session_of (with_power_lost (v.next - 1) v.cabin).cards) further-off.1 further-off.2
              (asked-off cut-log done (suc n) v.next ∙ asked-cut_off v.log o.from done v.begun v.next r.recorded.followed.last r.recorded.followed.order r.recorded.followed.next r.recorded.followed.lines.breaks)
              (λ c. inr (all_gone v.cabin.cards c)) r.handed;
          recorded = seconds.off-cut-recorded o done lit-progress r.travel v.marks (breakdowns_of d) r.brought r.recorded t span refl n;
          beside = record {
            verdicts = verdicts-go o done now-off v.log cut-log d further-off.0 v.next further-off.1 further-off.2 v.unfound v.marks r.beside.verdicts (kept-cut (d.unit.left_since o.found.unit.began) v.unfound v.log.breaks (v.next - 1) false v.begun r.recorded.followed.unfound r.beside.verdicts.kept);
            spared = spared-go o done now-off v.log cut-log d further-off.0 v.next further-off.1 further-off.2 r.beside.spared;
            travels = r.beside.travels;
          };
          there = r.there;
          few = few-go o done now-off v.log cut-log d further-off.0 v.next further-off.1 further-off.2 r.few;
          written = λ card. ⊎_elim (λ as_it_was. inl as_it_was) (λ h. inr (written-cut card h)) (r.written card);
          found = found-cut o.found v.cabin.cards (v.next - 1) r.found;
          early = r.early;
          held = record {
            powerless = powered-waits o.found (carried v r.due r.book r.standing r.brought r.hands r.firsts) v.cabin.cards d on.powered;
            due = let due = on.due in omega (arith, due, low);
            tells = off-tell (start_at o) cut-log done n v.next (ungiven_of whole) (with_power_lost (v.next - 1) v.cabin).slots r.book.sure (v.next - 1) (omega arith) (omega (arith, low)) cut-tells;
            bare = λ c. all_gone v.cabin.cards c;
            driver = ap (λ (sl : Slots). is_accepted sl.driver) dark_slots ∙ dark-seat last-second.last.course.slots.driver;
            codriver = ap (λ (sl : Slots). is_accepted sl.codriver) dark_slots ∙ dark-seat last-second.last.course.slots.codriver;
          };
        }

pub off-cut-recorded : (d : Devices) → AnOffCutStaysRecorded d
off-cut-recorded d o done t span v r n = off-cut-on o done t span v d r n

-- ---- with power, where nothing happens

-- who is present stands so
quiet-stand : (f : Found) (standing : Card → Standing) (slots : Slots) (speed from : ℕ) (cabin : Cabin) (n next number : ℕ) (told : List ToldSecond) → number ≤ next → PresentStand f standing told (fresh false slots) number from cabin →
    PresentStand f standing (told ++ quiet_seconds (suc n) next speed slots) (fresh false slots) (next + n) from cabin
quiet-stand f standing slots speed from cabin zero next number told le h =
    let here = present-later f standing told (fresh false slots) number next from cabin le h in
    subst (λ (m : ℕ). PresentStand f standing (told ++ quiet_second next speed slots ∷ []) (fresh false slots) m from cabin) (let e : next ≡ next + 0 = omega arith in e)
    (next-begins f standing told (quiet_second next speed slots) next next from cabin refl (omega arith) here)
quiet-stand f standing slots speed from cabin (suc n) next number told le h =
    let q : ToldSecond = quiet_second next speed slots in
    let one = next-begins f standing told q next (next + 1) from cabin refl (omega arith) (present-later f standing told (fresh false slots) number next from cabin le h) in
    let rest = quiet-stand f standing slots speed from cabin n (next + 1) (next + 1) (told ++ q ∷ []) (omega arith) one in
    subst (λ (m : ℕ). PresentStand f standing (told ++ quiet_seconds (suc (suc n)) next speed slots) (fresh false slots) m from cabin) (let e : next + 1 + n ≡ next + suc n = omega arith in e)
    (subst (λ (ts : List ToldSecond). PresentStand f standing ts (fresh false slots) (next + 1 + n) from cabin) (append_assoc told (q ∷ []) (quiet_seconds (suc n) (next + 1) speed slots)) rest)

-- within a minute nothing more is decided
ungiven-still : (span : Span) (speed n : ℕ) → (end_of span + n) / 60 ≡ end_of span / 60 → ungiven_of (fed_many span speed n) ≡ ungiven_of span
ungiven-still span speed n minute =
    let new : Span = fed_many span speed n in
    let end : end_of new / 60 ≡ end_of span / 60 = ap (λ (e : ℕ). e / 60) (fed_many-end span speed n) ∙ minute in
    ap (λ (k : ℕ). max (k / 60) (max (end_of new / 60 - minutes_ahead new.rule) (latest new.settlings / 60))) (fed_many-first_number span speed n)
    ∙ ap (λ (e : ℕ). max (span.first / 60) (max (e - minutes_ahead new.rule) (latest new.settlings / 60))) end
    ∙ ap (λ (q : Rule). max (span.first / 60) (max (end_of span / 60 - minutes_ahead q) (latest new.settlings / 60))) (fed_many-rule span speed n)
    ∙ ap (λ (ts : List ℕ). max (span.first / 60) (max (end_of span / 60 - minutes_ahead span.rule) (latest ts / 60))) (fed_many-settlings span speed n)

module _ (o : Origin) (done : List TraceSecond) (t : ToldSecond) (span : List ToldSecond) (v : Values) (d : Devices) (r : RecordBetweenSeconds o done (Lit (t ∷ span)) v d) (n speed : ℕ) (low : 0 < v.next % 60) (high : v.next % 60 + suc n < 60) (minutes : Kept)
    (stands : CountsSpan minutes (span_at (rule_of o) (v.next + suc n) (quiet_span o done (suc n) speed (t ∷ span) v))) where
  abbrev quiet-p : Progress
  quiet-p = progress v (Lit (t ∷ span)) r.book

  abbrev quiet-held : RecordPowered o done (t ∷ span) v (carried v r.due r.book r.standing r.brought r.hands r.firsts) d
  quiet-held = r.held

  abbrev quiet-now : List TraceSecond
  quiet-now = done ++ driven (suc n) v.next speed []

  abbrev quiet-w : Values
  quiet-w = quiet_values (suc n) minutes v

  abbrev later-span : List ToldSecond
  later-span = quiet_span o done (suc n) speed (t ∷ span) v

  abbrev quiet-slots : Slots
  quiet-slots = slots_of v done

  quiet-further : (more : List ToldSecond) × TellsMore (went v.log done).told (went v.log quiet-now).told more v.next × AreIdle more
  quiet-further = quiet-tells o done quiet-p r.recorded.followed t span refl (suc n) speed

  quiet-went : went v.log quiet-now ≡ record { told = (went v.log done).told ++ quiet_seconds (suc n) v.next speed quiet-slots; before = (went v.log done).before }
  quiet-went = quiet-are-told (rule_of o) (start_at o) o.from (first_of o) done quiet-p r.recorded.followed t span refl (suc n) speed

  same-ungiven : ungiven_of (span_at (rule_of o) v.next (t ∷ span)) ≡ ungiven_of (span_at (rule_of o) (v.next + suc n) later-span)
  same-ungiven =
      let ends = span-ends o done t span v d r in
      sym (ap ungiven_of (rules-see-quiet (rule_of o) (start_at o) o.from (first_of o) done quiet-p r.recorded.followed t span refl refl (suc n) speed quiet-slots)
      ∙ ungiven-still (as_span (rule_of o) (t ∷ span)) speed (suc n) (omega (arith, ends, low, high)))

  quiet-tell_slots : SlotsTell (start_at o) (went v.log quiet-now).told r.book.sure [] (v.next + suc n - 1) (ungiven_of (span_at (rule_of o) (v.next + suc n) later-span)) (slots_of quiet-w quiet-now) v.cabin.slots
  quiet-tell_slots =
      let U : ℕ = ungiven_of (span_at (rule_of o) v.next (t ∷ span)) in
      let on = quiet-tell (start_at o) (went v.log done).told r.book.sure (v.next - 1) v.next U quiet-slots v.cabin.slots n speed quiet-held.tells (omega arith) (omega (arith, low, high)) in
      subst (λ (x : Went). SlotsTell (start_at o) x.told r.book.sure [] (v.next + suc n - 1) (ungiven_of (span_at (rule_of o) (v.next + suc n) later-span)) x.before.slots v.cabin.slots) (sym quiet-went)
      (subst (λ (u : ℕ). SlotsTell (start_at o) ((went v.log done).told ++ quiet_seconds (suc n) v.next speed quiet-slots) r.book.sure [] (v.next + suc n - 1) u quiet-slots v.cabin.slots) same-ungiven
      (subst (λ (m : ℕ). SlotsTell (start_at o) ((went v.log done).told ++ quiet_seconds (suc n) v.next speed quiet-slots) r.book.sure [] m U quiet-slots v.cabin.slots) (let e : v.next + n ≡ v.next + suc n - 1 = omega arith in e) on))

  quiet-present : PresentStand o.found r.standing (went v.log quiet-now).told (fresh false (slots_of quiet-w quiet-now)) (v.next + suc n - 1) (ungiven_of (span_at (rule_of o) (v.next + suc n) later-span)) v.cabin
  quiet-present =
      let U : ℕ = ungiven_of (span_at (rule_of o) v.next (t ∷ span)) in
      let on = quiet-stand o.found r.standing quiet-slots speed U v.cabin n v.next (v.next - 1) (went v.log done).told (omega arith) quiet-held.present in
      subst (λ (x : Went). PresentStand o.found r.standing x.told (fresh false x.before.slots) (v.next + suc n - 1) (ungiven_of (span_at (rule_of o) (v.next + suc n) later-span)) v.cabin) (sym quiet-went)
      (subst (λ (u : ℕ). PresentStand o.found r.standing ((went v.log done).told ++ quiet_seconds (suc n) v.next speed quiet-slots) (fresh false quiet-slots) (v.next + suc n - 1) u v.cabin) same-ungiven
      (subst (λ (m : ℕ). PresentStand o.found r.standing ((went v.log done).told ++ quiet_seconds (suc n) v.next speed quiet-slots) (fresh false quiet-slots) m U v.cabin) (let e : v.next + n ≡ v.next + suc n - 1 = omega arith in e) on))

  quiet-from : RecordedFrom o quiet-now (Lit later-span) quiet-w d r.travel.before
  quiet-from = record {
    travelled_before = refl;
    recorded = record {
      book = r.book;
      travel = r.travel;
      odometer = r.odometer;
      due = r.due;
      standing = r.standing;
      brought = r.brought;
      hands = r.hands;
      firsts = r.firsts;
      handed = handed-idle o.found v.log v.log done quiet-now quiet-further.0 v.next v.stops v.marks r.hands r.firsts (session_of v.cabin.cards) (session_of v.cabin.cards) quiet-further.1 quiet-further.2 (asked-driven v.log done (suc n) v.next speed)
          (none-less (session_of v.cabin.cards)) r.handed;
      recorded = seconds.quiet-recorded o done quiet-p r.travel v.marks (breakdowns_of d) r.brought r.recorded t span refl (suc n) speed high;
      beside = record {
        verdicts = verdicts-go o done quiet-now v.log v.log d quiet-further.0 v.next quiet-further.1 quiet-further.2 v.unfound v.marks r.beside.verdicts r.beside.verdicts.kept;
        spared = spared-go o done quiet-now v.log v.log d quiet-further.0 v.next quiet-further.1 quiet-further.2 r.beside.spared;
        travels = r.beside.travels;
      };
      there = r.there;
      few = few-go o done quiet-now v.log v.log d quiet-further.0 v.next quiet-further.1 quiet-further.2 r.few;
      written = λ card. ⊎_elim (λ as_it_was. inl as_it_was) (λ h. inr (written-go o done v d (Lit (t ∷ span)) r quiet-now quiet-w quiet-further.0 quiet-further.1 quiet-further.2 refl (omega arith) card h)) (r.written card);
      found = r.found;
      early = r.early;
      held = record {
        powered = quiet-held.powered;
        due = let due = quiet-held.due in let same = same-ungiven in omega (arith, due, same);
        minutes = stands;
        tells = quiet-tell_slots;
        present = quiet-present;
        back = subst (λ (u : ℕ). AreBack u v.cabin) same-ungiven quiet-held.back;
        written = λ card some. written-go o done v d (Lit (t ∷ span)) r quiet-now quiet-w quiet-further.0 quiet-further.1 quiet-further.2 refl (omega arith) card (quiet-held.written card some);
      };
    };
  }

pub quiet-recorded : (d : Devices) → QuietSecondsStayRecorded d
quiet-recorded d o done t span v r n speed low high minutes stands = quiet-from o done t span v d r n speed low high minutes stands

-- ---- at the start

none-found : (o : Origin) → AreFewFound (recording_by o [] empty_log)
unfolding went
none-found o c = omega arith

-- no second is told of
none-told : (went empty_log []).told ≡ []
unfolding went
none-told = refl

none-sits : (went empty_log []).before.slots ≡ record { driver = None; codriver = None }
unfolding went
none-sits = refl

nowhere : (o : Origin) (t : ToldSecond) → Contains (went empty_log []).told t → ⊥
nowhere o t at = let gone = subst (λ (ts : List ToldSecond). Contains ts t) none-told at in omega (arith, gone.1)

module _ (o : Origin) (v : Values) (d : Devices) (h : MayStart o v d) where
  abbrev first-values : Values
  first-values = record v { log = empty_log; marks = []; cabin = record v.cabin { slots = nothing_yet }; unfound = 0; next = o.from; begun = 0 }

  first-is : v ≡ first-values
  first-is =
      ap (λ (l : RunLog). record v { log = l }) h.log
      ∙ ap (λ (ms : List Mark). record v { log = empty_log; marks = ms }) h.marks
      ∙ ap (λ (k : SlotsKept). record v { log = empty_log; marks = []; cabin = record v.cabin { slots = k } }) h.slots
      ∙ ap (λ (n : ℕ). record v { log = empty_log; marks = []; cabin = record v.cabin { slots = nothing_yet }; unfound = n }) h.unfound
      ∙ ap (λ (n : ℕ). record v { log = empty_log; marks = []; cabin = record v.cabin { slots = nothing_yet }; unfound = 0; next = n }) h.next
      ∙ ap (λ (n : ℕ). record v { log = empty_log; marks = []; cabin = record v.cabin { slots = nothing_yet }; unfound = 0; next = o.from; begun = n }) h.begun

  -- nor is anything asked
  none-asked : asked_of empty_log [] ≡ []
  unfolding asked_of
  none-asked = refl

  begins-so : RecordBetweenSeconds o [] Due first-values d
  begins-so = record {
    book = not_begun;
    travel = not_travelled o.recording.unit;
    odometer = tt;
    due = o.from / 60;
    standing = λ c. Out;
    brought = λ c. [];
    hands = λ c. no_hands;
    firsts = λ c. [];
    handed = record {
      each = λ c valid. go-as [] (sessions_in c (went empty_log []).told) [] (done_for c v.stops (asked_of empty_log [])) [] [] no_hands [] None (session_of v.cabin.cards c) (ap (sessions_in c) (sym none-told)) (ap (done_for c v.stops) (sym none-asked)) refl (sym (h.bare c)) hands-none;
      known = λ c valid. known-none (start_at o) [] c [] (sessions_in c (went empty_log []).told) (session_of v.cabin.cards c) (h.bare c);
      stopped = λ c valid. stopped-as (start_at o) [] c [] (sessions_in c (went empty_log []).told) [] (done_for c v.stops (asked_of empty_log [])) [] [] [] v.stops [] (asked_for c (asked_of empty_log [])) (ap (sessions_in c) (sym none-told)) (ap (done_for c v.stops) (sym none-asked)) refl (sym h.stops) (ap (asked_for c) (sym none-asked)) (All-nil (IsStoppedBy (IsKnown (start_at o) [] c) [] [] [] []));
      told = subst (AreToldOf v.stops) (sym none-asked) (subst (λ (l : List Refused). AreToldOf l []) (sym h.stops) (record { all = All-nil (λ (l : Refused). is_stop l.fault ≡ true); each = refl }));
    };
    recorded = seconds.more-recorded o [] (at_start o) (not_travelled o.recording.unit) [] [] o.breakdowns (breakdowns_of d) (λ c. []) (seconds.nothing-recorded o h.early) (λ device m at. at) h.breakdowns;
    beside = record {
      verdicts = record { each = λ t e verdict at seen. absurd (nowhere o t at); kept = tt };
      spared = λ c. inl (h.untouched c);
      travels = h.travels;
    };
    there = h.there;
    few = λ c. none-found o c;
    written = λ c. inl (h.untouched c);
    found = h.found;
    early = λ c k at. absurd (omega (arith, at.1));
    held = record {
      powerless = h.powerless;
      due = omega arith;
      tells = subst (λ (ts : List ToldSecond). SlotsTell (start_at o) ts [] [] (o.from - 1) (o.from / 60) (went empty_log []).before.slots nothing_yet) (sym none-told)
          (subst (λ (sl : Slots). SlotsTell (start_at o) [] [] [] (o.from - 1) (o.from / 60) sl nothing_yet) (sym none-sits) (nobody-sits (start_at o) [] (o.from - 1) (o.from / 60) (omega arith)));
      bare = h.bare;
      driver = ap (λ (sl : Slots). is_accepted sl.driver) none-sits;
      codriver = ap (λ (sl : Slots). is_accepted sl.codriver) none-sits;
    };
  }

pub begun-recorded : (d : Devices) → ARunBegins d
begun-recorded d o v h = subst (λ (x : Values). RecordBetweenSeconds o [] Due x d) (sym (first-is o v d h)) (begins-so o v d h)
