-- The odometer that a power span began with, in a run in which no call has failed: the start's, and the whole kilometres of each span before it. So an
-- acceptance tells the odometer of its second, and a minute that is kept that of its end.
use Rattle.std.proofs.Common.{◌≡◌, ◌∙◌, inl, inr, ⊎_elim, ℕ, ◌+◌, ◌*◌, ◌/◌, ◌<◌, ◌≤◌, min, Bool, true, false, cond, Option, None, List, [], ◌∷◌, ◌++◌, All, Contains, take, refl, ap, sym, subst, arith, append-nil, append_assoc}
use Rattle.std.specs.Prelude.{unwrap_or}
use Rattle.std.specs.List.{AllByRecursion}
use Rattle.std.proofs.lemmas.List.{append_cancel_right}
use Rattle.std.proofs.lemmas.List.Elements.{All-nil, All-contains, Contains-append_left, Contains-append_right, Contains-append_cases, Contains-push}
use Rattle.std.proofs.lemmas.List.Sums.{fold-append}
use Rattle.activity_codec.specs.declared.entries.Entry.{Entry}
use Rattle.trace_model.specs.declared.Card.{Card}
use Rattle.trace_model.specs.Trace.{TraceSecond}
use Rattle.log_model.specs.run_model.declared.Device.TheVariants.{Unit as Recorder}
use Rattle.unit_model.specs.minute_model.declared.Minute.{Minute}
use Rattle.unit_model.specs.minute_model.declared.Rule.{Rule}
use Rattle.unit_model.specs.minute_model.Span.{travelled_of}
use Rattle.unit_model.proofs.minute_model.Ranges.{each-more}
use Rattle.log_model.specs.declared.lines.Break.{Break}
use Rattle.log_model.specs.Log.{RunLog, Phase, kept_after}
use Rattle.log_model.specs.Course.{ToldSecond, Visit, went}
use Rattle.log_model.specs.Spans.{spans_of, first_in, end_in, AreApart}
use Rattle.log_model.specs.Causes.{cuts}
use Rattle.log_model.proofs.Spanning.{spanned}
use Rattle.device_calls.specs.history_model.Minutes.{HistoryMinute, up_to}
use Rattle.device_calls.specs.history_model.Presence.{Start}
use Rattle.device_calls.specs.history_model.History.{decided_of, span_minutes, limited_to, limit_by, history_by, settlings_of, minutes_after}
use Rattle.device_calls.specs.history_model.Completeness.{IsMarked, deciding_of}
use Rattle.device_calls.specs.history_model.Growth.{closed_limit, closed_history}
use Rattle.device_calls.proofs.history_model.Books.{up_to-within}
use Rattle.device_calls.proofs.history_model.Deciding.{apart-ended}
use Rattle.device_calls.proofs.history_model.Decided.{after-decided, limited-among, rises-within}
use Rattle.device_calls.proofs.history_model.Rising.{rises-span, rises-spans}
use Rattle.device_calls.specs.card_session.declared.session.Kept.{Kept}
use Rattle.unit_model.specs.declared.layout.TheConstants.{HIGHEST_ODOMETER}
use Rattle.unit_model.specs.Image.{odometer_at}
use Rattle.device_calls.specs.run_unit_course.Followed.{UnitPower, Lit as IsLit, as_spans, IsKnown}
use Rattle.device_calls.specs.run_unit_course.Legs.{kilometres_of, AreLegs, AreWhole, whole_legs}
use Rattle.device_calls.specs.run_unit_course.Turn.{span_at}
use Rattle.device_calls.proofs.run_unit_course.Alike.{decided-empty}
use Rattle.device_calls.proofs.run_unit_course.Legs.{legs-whole}
use Rattle.device_calls.specs.unit_rule.Rule.{once_mended}
use Rattle.device_calls.specs.unit_rule.Marks.{MarkIsKept}
use Rattle.device_calls.specs.unit_rule.Odometer.{odometer_by, odometer_after}
use Rattle.device_calls.proofs.unit_rule.Travelling.{odometer-sum}
use Rattle.device_calls.specs.safety_model.Safe.{Devices}
use Rattle.device_calls.specs.safety_model.Unit.{marks_of}
use Rattle.device_calls.proofs.safety_model.Whole.{mark-of, no-failure}
use Rattle.run_crew.specs.card_slots.declared.seats.Present.{Present}
use Rattle.run_events.specs.run_course.Seconds.{next_told, kept_all}
use Rattle.run_events.specs.run_course.Travelled.{HasLegs}
use Rattle.run_minutes.proofs.run_promise.Going.{sure-kept}
use Rattle.run_events.proofs.run_course.Telling.{each-of}
use Rattle.run_minutes.proofs.run_promise.Entries.{all-by}
use Rattle.run_minutes.specs.run_promise.Origin.{Origin, rule_of, start_at, first_of}
use Rattle.run_minutes.specs.declared.keeper.Keeper.{Keeper}
use Rattle.run_minutes.specs.Keeping.{is_this, kept_in}
use Rattle.run_minutes.specs.Minutes.{minute_of, present_at}
use Rattle.run_minutes.specs.Deeds.{kept_on, kepts_on}
use Rattle.activity_codec.specs.declared.values.Slot.TheVariants.{Driver, CoDriver}
use Rattle.run_record.specs.Recorded.{Values}
use Rattle.run_record.specs.Within.{RecordInSecond}
use Rattle.run_acts.specs.Truths.{driven_in, IsOdometerBefore, IsOdometerBehind, past_of, truths_of}
use Rattle.run_acts.proofs.RingedSecond.{travelled-is}
use Rattle.run_acts.proofs.MinuteEnds.{decided-within, decided-late, followed-lit, minute-range, minute-ends, this-lit, spans-now}

-- ---- spans, and those behind them

-- some spans end no later than the others begin
pub apart-front : (from until : ℕ) (xs ys : List (List ToldSecond)) → AreApart from (xs ++ ys) until → (mid : ℕ) × AreApart from xs mid × AreApart mid ys until
apart-front from until [] ys h = (from, (let le : from ≤ from = omega arith in le), h)
apart-front from until (x ∷ xs) ys h = let rest = apart-front (end_in x) until xs ys h.3 in (rest.0, (h.0, h.1, h.2, rest.1), rest.2)

-- the span that goes on begins no earlier, and its minutes are no earlier
pub begins-late : (rule : Rule) (mid until : ℕ) (span : List ToldSecond) → AreApart mid (as_spans span) until → mid ≤ (span_at rule until span).first
begins-late rule mid until [] h = h
begins-late rule mid until (t ∷ span) h = h.1

pub span-late : (rule : Rule) (start : Start) (told : List ToldSecond) (past : List HistoryMinute) (mid until : ℕ) (span : List ToldSecond) → AreApart mid (as_spans span) until → (i : HistoryMinute) → Contains (span_minutes rule start told past span) i → mid / 60 ≤ i.minute
span-late rule start told past mid until [] h i at =
    absurd (let none : Contains {X = HistoryMinute} [] i = subst (λ (ds : List Minute). Contains (minutes_after start told past ds) i) (decided-empty rule) at in omega (arith, none.1))
span-late rule start told past mid until (t ∷ span) h i at =
    let w = rises-within (first_in (t ∷ span) / 60) (end_in (t ∷ span) / 60) (span_minutes rule start told past (t ∷ span)) i (rises-span rule start told past (t ∷ span) h.2) at in
    let low : first_in (t ∷ span) / 60 ≤ i.minute = w.0 in
    let begins : mid ≤ first_in (t ∷ span) = h.1 in
    omega (arith, low, begins)

-- ---- WHERE EACH MINUTE that some spans have decided stands in what the limits of their cuts leave, it is within the limit of its span's cut
module _ (rule : Rule) (start : Start) (log : RunLog) (found : List Break) (told : List ToldSecond) where
  whole-by : (past : List HistoryMinute) (from until : ℕ) (spans : List (List ToldSecond)) → AreApart from spans until → AllByRecursion (IsKnown rule found) spans →
      ((span : List ToldSecond) (d : Minute) → Contains spans span → Contains (decided_of rule span) d → (i : HistoryMinute) × Contains (history_by rule start (closed_limit log) told past spans) i × (i.minute ≡ d.minute)) →
      AreWhole rule (closed_limit log) 0 spans
  whole-by past from until [] apart known each = tt
  whole-by past from until (span ∷ later) apart known each = (
    within known.0,
    whole-by (past ++ limited_to (closed_limit log span later) (span_minutes rule start told past span)) (end_in span) until later apart.3 known.1 others,
  )
    where
      -- of this span, and of those behind it
      mine : (d : Minute) → Contains (decided_of rule span) d → d.minute < end_in span / 60
      mine d at = (decided-within rule span apart.2 d at).1

      theirs : (i : HistoryMinute) → Contains (history_by rule start (closed_limit log) told (past ++ limited_to (closed_limit log span later) (span_minutes rule start told past span)) later) i → end_in span / 60 ≤ i.minute
      theirs i at =
          (rises-within (end_in span / 60) (until / 60) (history_by rule start (closed_limit log) told (past ++ limited_to (closed_limit log span later) (span_minutes rule start told past span)) later) i
          (rises-spans rule start told (closed_limit log) (past ++ limited_to (closed_limit log span later) (span_minutes rule start told past span)) (end_in span) until later apart.3) at).0

      own : (i : HistoryMinute) → Contains (limited_to (closed_limit log span later) (span_minutes rule start told past span)) i → i.minute < end_in span / 60
      own i at =
          (rises-within (first_in span / 60) (end_in span / 60) (span_minutes rule start told past span) i (rises-span rule start told past span apart.2)
          (limited-among (closed_limit log span later) (span_minutes rule start told past span) i at)).1

      -- where a minute of this span stands
      stands : (d : Minute) → Contains (decided_of rule span) d → (i : HistoryMinute) × Contains (limited_to (closed_limit log span later) (span_minutes rule start told past span)) i × (i.minute ≡ d.minute)
      stands d at =
          let i = each span d (Contains-append_left (span ∷ []) later span (Contains-push [] span)) at in
          ⊎_elim
          (λ here. (i.0, here, i.2))
          (λ there. absurd (let low = theirs i.0 there in let high = mine d at in let same = i.2 in omega (arith, low, high, same)))
          (Contains-append_cases (limited_to (closed_limit log span later) (span_minutes rule start told past span))
          (history_by rule start (closed_limit log) told (past ++ limited_to (closed_limit log span later) (span_minutes rule start told past span)) later) i.0 i.1)

      within : IsKnown rule found span → All (λ (d : Minute). d.minute ≤ unwrap_or (closed_limit log span later) 0) (decided_of rule span)
      within (inl none) = subst (All (λ (d : Minute). d.minute ≤ unwrap_or (closed_limit log span later) 0)) (sym none) (All-nil (λ (d : Minute). d.minute ≤ unwrap_or (closed_limit log span later) 0))
      within (inr cut) =
          subst (λ (c : Option ℕ). All (λ (d : Minute). d.minute ≤ unwrap_or (limit_by log c) 0) (decided_of rule span)) (sym cut.1)
          (all-by (λ (d : Minute). d.minute ≤ kept_after log cut.0) (decided_of rule span) (λ d at.
          let i = stands d at in
          let there : Contains (up_to (kept_after log cut.0) (span_minutes rule start told past span)) i.0 = subst (λ (c : Option ℕ). Contains (limited_to (limit_by log c) (span_minutes rule start told past span)) i.0) cut.1 i.1 in
          let le = All-contains (λ (x : HistoryMinute). x.minute ≤ kept_after log cut.0) (up_to (kept_after log cut.0) (span_minutes rule start told past span)) i.0 (up_to-within (kept_after log cut.0) (span_minutes rule start told past span)) there in
          let same = i.2 in
          (let low : d.minute ≤ kept_after log cut.0 = omega (arith, le, same) in low)))

      others : (s : List ToldSecond) (d : Minute) → Contains later s → Contains (decided_of rule s) d →
          (i : HistoryMinute) × Contains (history_by rule start (closed_limit log) told (past ++ limited_to (closed_limit log span later) (span_minutes rule start told past span)) later) i × (i.minute ≡ d.minute)
      others s d at in_ =
          let i = each s d (Contains-append_right (span ∷ []) later s at) in_ in
          ⊎_elim
          (λ here. absurd (
          let high = own i.0 here in
          let low = decided-late rule (end_in span) until later apart.3 s d at in_ in
          let same = i.2 in
          omega (arith, high, low, same)))
          (λ there. (i.0, there, i.2))
          (Contains-append_cases (limited_to (closed_limit log span later) (span_minutes rule start told past span))
          (history_by rule start (closed_limit log) told (past ++ limited_to (closed_limit log span later) (span_minutes rule start told past span)) later) i.0 i.1)

-- ---- NO MINUTE OF SOME SPANS IS LOST, where each is acknowledged, and what is acknowledged is in the book or newer: that has what the limits of their
-- cuts leave, and then minutes of the spans behind them
module _ (rule : Rule) (start : Start) (log : RunLog) (found : List Break) (told : List ToldSecond) (ended behind : List (List ToldSecond)) (from until : ℕ) (apart : AreApart from (ended ++ behind) until) (known : AllByRecursion (IsKnown rule found) ended)
    (sure going new : List HistoryMinute) (are : closed_history rule start log told ended ++ going ≡ sure)
    (held : (e : List ToldSecond) (d : Minute) → Contains ended e → Contains (decided_of rule e) d → (i : HistoryMinute) × Contains (sure ++ new) i × (i.minute ≡ d.minute))
    (late : (mid : ℕ) → AreApart mid behind until → (i : HistoryMinute) → Contains (going ++ new) i → mid / 60 ≤ i.minute) where
  parts : (mid : ℕ) × AreApart from ended mid × AreApart mid behind until
  parts = apart-front from until ended behind apart

  each : (e : List ToldSecond) (d : Minute) → Contains ended e → Contains (decided_of rule e) d → (i : HistoryMinute) × Contains (closed_history rule start log told ended) i × (i.minute ≡ d.minute)
  each e d at in_ =
      let i = held e d at in_ in
      let early : d.minute < parts.0 / 60 =
      each-of (λ (x : Minute). x.minute < parts.0 / 60) (decided_of rule e) d (each-of (λ (s : List ToldSecond). AllByRecursion (λ (x : Minute). x.minute < parts.0 / 60) (decided_of rule s)) ended e (apart-ended rule from parts.0 ended parts.1) at) in_ in
      let same = i.2 in
      ⊎_elim
      (λ old. ⊎_elim
      (λ here. (i.0, here, i.2))
      (λ later. absurd (let low = late parts.0 parts.2 i.0 (Contains-append_left going new i.0 later) in omega (arith, early, low, same)))
      (Contains-append_cases (closed_history rule start log told ended) going i.0 (subst (λ (is : List HistoryMinute). Contains is i.0) (sym are) old)))
      (λ newer. absurd (let low = late parts.0 parts.2 i.0 (Contains-append_right going new i.0 newer) in omega (arith, early, low, same)))
      (Contains-append_cases sure new i.0 i.1)

  pub whole-ended : AreWhole rule (closed_limit log) 0 ended
  whole-ended = whole-by rule start log found told [] from parts.0 ended parts.1 known each

-- the same kilometres make the same odometer
pub same-odometer : (start : ℕ) (xs ys : List ℕ) → start ≤ HIGHEST_ODOMETER → kilometres_of xs ≡ kilometres_of ys → odometer_after start xs ≡ odometer_after start ys
same-odometer start xs ys low same = odometer-sum start xs low ∙ ap (λ (k : ℕ). min (start + k) HIGHEST_ODOMETER) same ∙ sym (odometer-sum start ys low)

pub one-leg : (start : ℕ) (xs : List ℕ) (leg : ℕ) → odometer_after start (xs ++ leg ∷ []) ≡ odometer_by (odometer_after start xs) leg
one-leg start xs leg = fold-append odometer_by start xs (leg ∷ [])

-- ---- WITHIN A SECOND
module _ (o : Origin) (done : List TraceSecond) (s : TraceSecond) (at : Phase) (waits : List Visit) (speed : Option ℕ) (rest : List Minute) (v : Values) (d : Devices) (w : RecordInSecond o done s at waits speed rest v d) (none : cuts true w.b.run.log ≡ []) where
  abbrev told_so_far : List ToldSecond
  told_so_far = (went w.b.run.log done).told

  abbrev ended_so_far : List (List ToldSecond)
  ended_so_far = (followed-lit o done s at waits speed rest v d w).ended

  abbrev odometer_first : ℕ
  odometer_first = odometer_at o.recording.unit

  legs-lit : HasLegs (rule_of o) (first_of o) done (record w.b.run { supply = IsLit w.b.span }) w.b.travel
  legs-lit = subst (λ (p : UnitPower). HasLegs (rule_of o) (first_of o) done (record w.b.run { supply = p }) w.b.travel) w.lit w.began.legs

  same-ended : legs-lit.ended ≡ (followed-lit o done s at waits speed rest v d w).ended
  same-ended = append_cancel_right legs-lit.ended ended_so_far (as_spans w.b.span) (sym legs-lit.spans ∙ (followed-lit o done s at waits speed rest v d w).spans)

  all-apart : AreApart o.from (ended_so_far ++ as_spans w.b.span) w.b.run.next
  all-apart =
      let f = followed-lit o done s at waits speed rest v d w in
      subst (λ (ss : List (List ToldSecond)). AreApart o.from ss w.b.run.next) f.spans (subst (λ (n : ℕ). AreApart o.from (spans_of told_so_far) n) (sym f.next) (spanned w.b.run.log o.from done f.order).apart)

  -- what is acknowledged is in the book, or is kept in this second
  held-minute : (m : ℕ) → IsMarked w.b.marks Recorder m → (i : HistoryMinute) × Contains (w.b.run.book.sure ++ w.new) i × (i.minute ≡ m)
  held-minute m k =
      let mark = mark-of Recorder v.marks m (k.0, w.stay k.0 k.1, k.2, k.3) in
      let h = All-contains (MarkIsKept (once_mended o.found.unit) (kept_all w.new w.b.run.book) d.unit) (marks_of Recorder v.marks) mark.0 w.powered.lit.unit.marks_hold mark.1 in
      (h.sure.0, subst (λ (is : List HistoryMinute). Contains is h.sure.0) (sure-kept w.new None w.b.run.book) h.sure.1, h.sure.2 ∙ mark.2)

  held-ended : (e : List ToldSecond) (m : Minute) → Contains ended_so_far e → Contains (decided_of (rule_of o) e) m → (i : HistoryMinute) × Contains (w.b.run.book.sure ++ w.new) i × (i.minute ≡ m.minute)
  held-ended e m among in_ =
      held-minute m.minute
      (⊎_elim (λ marked. marked) (λ failed. absurd (no-failure w.b.run.log none (deciding_of (rule_of o) (settlings_of e) m.minute) failed))
      (w.began.complete.unit e m (subst (λ (ss : List (List ToldSecond)). Contains ss e) (sym (followed-lit o done s at waits speed rest v d w).spans) (Contains-append_left ended_so_far (as_spans w.b.span) e among)) in_))

  new-late : (i : HistoryMinute) → Contains w.new i → (span_at (rule_of o) w.b.run.next w.b.span).first / 60 ≤ i.minute
  new-late i among =
      let m = after-decided (start_at o) told_so_far w.b.run.book.sure w.ds i (subst (λ (is : List HistoryMinute). Contains is i) w.decided.seated_ among) in
      let low = (minute-range o done s at waits speed rest v d w m.0 (Contains-append_left w.ds rest m.0 m.1)).0 in
      subst (λ (n : ℕ). (span_at (rule_of o) w.b.run.next w.b.span).first / 60 ≤ n) m.2 low

  pub book-is : closed_history (rule_of o) (start_at o) w.b.run.log told_so_far ended_so_far ++ span_minutes (rule_of o) (start_at o) told_so_far (closed_history (rule_of o) (start_at o) w.b.run.log told_so_far ended_so_far) w.b.span ≡ w.b.run.book.sure
  book-is = (followed-lit o done s at waits speed rest v d w).tied.minutes ∙ ap (λ (is : List HistoryMinute). w.b.run.book.sure ++ is) w.began.waiting ∙ append-nil w.b.run.book.sure

  going-late : (mid : ℕ) → AreApart mid (as_spans w.b.span) w.b.run.next → (i : HistoryMinute) → Contains (span_minutes (rule_of o) (start_at o) told_so_far (closed_history (rule_of o) (start_at o) w.b.run.log told_so_far ended_so_far) w.b.span ++ w.new) i →
      mid / 60 ≤ i.minute
  going-late mid h i among = ⊎_elim
      (λ here. span-late (rule_of o) (start_at o) told_so_far (closed_history (rule_of o) (start_at o) w.b.run.log told_so_far ended_so_far) mid w.b.run.next w.b.span h i here)
      (λ newer. let low = new-late i newer in let begins = begins-late (rule_of o) mid w.b.run.next w.b.span h in above mid (span_at (rule_of o) w.b.run.next w.b.span).first i.minute begins low)
      (Contains-append_cases (span_minutes (rule_of o) (start_at o) told_so_far (closed_history (rule_of o) (start_at o) w.b.run.log told_so_far ended_so_far) w.b.span) w.new i among)
    where
      above : (a b m : ℕ) → a ≤ b → b / 60 ≤ m → a / 60 ≤ m
      above a b m le low = omega (arith, le, low)

  pub whole-before : AreWhole (rule_of o) (closed_limit w.b.run.log) 0 (followed-lit o done s at waits speed rest v d w).ended
  whole-before =
      whole-ended (rule_of o) (start_at o) w.b.run.log (take w.b.run.unfound w.b.run.log.breaks) told_so_far ended_so_far (as_spans w.b.span) o.from w.b.run.next all-apart (followed-lit o done s at waits speed rest v d w).tied.known
      w.b.run.book.sure (span_minutes (rule_of o) (start_at o) told_so_far (closed_history (rule_of o) (start_at o) w.b.run.log told_so_far ended_so_far) w.b.span) w.new book-is held-ended going-late

  -- THE ODOMETER that power began with
  base-is : v.odometer ≡ odometer_after (odometer_at o.recording.unit) (whole_legs (rule_of o) (followed-lit o done s at waits speed rest v d w).ended)
  base-is =
      let e = legs-lit.legs.earlier in
      let closed : AreLegs (rule_of o) (closed_limit w.b.run.log) 0 ended_so_far e.legs = subst (λ (ss : List (List ToldSecond)). AreLegs (rule_of o) (closed_limit w.b.run.log) 0 ss e.legs) same-ended e.closed in
      let are = legs-whole (rule_of o) (closed_limit w.b.run.log) 0 ended_so_far e.legs whole-before closed in
      w.odometer ∙ same-odometer odometer_first w.b.travel.before (whole_legs (rule_of o) ended_so_far) w.travels.begins (sym e.sums ∙ ap kilometres_of are)

  -- ---- with this second

  abbrev this : ToldSecond
  this = next_told w.b.run.log done s

  -- behind some seconds of the span
  odometer-behind : (odometer driven : ℕ) → odometer ≡ odometer_by v.odometer driven → odometer ≡ odometer_after (odometer_at o.recording.unit) (whole_legs (rule_of o) ended_so_far ++ driven ∷ [])
  odometer-behind odometer driven is = is ∙ ap (λ (n : ℕ). odometer_by n driven) base-is ∙ sym (one-leg odometer_first (whole_legs (rule_of o) ended_so_far) driven)

  -- A MINUTE THAT IS KEPT has the odometer of its end
  pub kept-now : (m : Minute) → Contains (w.ds ++ rest) m → IsOdometerBehind (rule_of o) (odometer_at o.recording.unit) (past_of w.b.run.log (done ++ s ∷ [])).spans (60 * m.minute + 59) (odometer_by v.odometer m.travelled)
  kept-now m among =
      let e = minute-ends o done s at waits speed rest v d w m among in
      record {
        at = record {
          earlier = ended_so_far;
          span = e.0;
          t = e.1;
          behind = e.2 ++ this ∷ [];
          later = [];
          are = spans-now o done s at waits speed rest v d w ∙ ap (λ (l : List ToldSecond). ended_so_far ++ (l ++ this ∷ []) ∷ []) e.3 ∙ ap (λ (l : List ToldSecond). ended_so_far ++ l ∷ []) (append_assoc e.0 (e.1 ∷ e.2) (this ∷ []));
          number = e.4;
        };
        is = odometer-behind (odometer_by v.odometer m.travelled) (driven_in (e.0 ++ e.1 ∷ [])) (ap (λ (n : ℕ). odometer_by v.odometer n) e.5);
      }

  -- so has each that a card keeps of them
  pub kepts-now : (k : Keeper) → k.odometer ≡ v.odometer → (c : Card) → AllByRecursion (truths_of o w.b.run.log (done ++ s ∷ [])).kept (kepts_on k rest c)
  kepts-now k same c = some rest (λ m among. Contains-append_right w.ds rest m among)
    where
      one : (m : Minute) → Contains (w.ds ++ rest) m → (e : Entry) → e.minute ≡ m.minute →
          IsOdometerBehind (rule_of o) (odometer_at o.recording.unit) (past_of w.b.run.log (done ++ s ∷ [])).spans (60 * e.minute + 59) (odometer_by k.odometer m.travelled)
      one m among e is =
          subst (λ (n : ℕ). IsOdometerBehind (rule_of o) (odometer_at o.recording.unit) (past_of w.b.run.log (done ++ s ∷ [])).spans (60 * e.minute + 59) (odometer_by n m.travelled)) (sym same)
          (subst (λ (n : ℕ). IsOdometerBehind (rule_of o) (odometer_at o.recording.unit) (past_of w.b.run.log (done ++ s ∷ [])).spans (60 * n + 59) (odometer_by v.odometer m.travelled)) (sym is) (kept-now m among))

      on : (m : Minute) → Contains (w.ds ++ rest) m → (present : Present) → AllByRecursion (truths_of o w.b.run.log (done ++ s ∷ [])).kept (kept_on present (minute_of m k) c)
      on m among present = by (is_this present.driver c) (is_this present.codriver c)
        where
          by : (driver codriver : Bool) → AllByRecursion (truths_of o w.b.run.log (done ++ s ∷ [])).kept (cond {A = List Kept} driver (kept_in (minute_of m k) Driver ∷ []) (cond {A = List Kept} codriver (kept_in (minute_of m k) CoDriver ∷ []) []))
          by true codriver = (one m among (kept_in (minute_of m k) Driver).entry refl, tt)
          by false true = (one m among (kept_in (minute_of m k) CoDriver).entry refl, tt)
          by false false = tt

      some : (ms : List Minute) → ((m : Minute) → Contains ms m → Contains (w.ds ++ rest) m) → AllByRecursion (truths_of o w.b.run.log (done ++ s ∷ [])).kept (kepts_on k ms c)
      some [] goes = tt
      some (m ∷ ms) goes =
          each-more (truths_of o w.b.run.log (done ++ s ∷ [])).kept (kept_on (present_at k.cabin m.minute) (minute_of m k) c) (kepts_on k ms c)
          (on m (goes m (Contains-append_left (m ∷ []) ms m (Contains-push [] m))) (present_at k.cabin m.minute)) (some ms (λ x there. goes x (Contains-append_right (m ∷ []) ms x there)))

-- AN ACCEPTANCE TELLS THE ODOMETER of its second, before that is fed
pub accepted-now : (o : Origin) (done : List TraceSecond) (s : TraceSecond) (at : Phase) (waits : List Visit) (rest : List Minute) (v : Values) (d : Devices) (w : RecordInSecond o done s at waits None rest v d) → cuts true w.b.run.log ≡ [] → (odometer : ℕ) →
    odometer ≡ odometer_by v.odometer (travelled_of w.sp) → IsOdometerBefore (rule_of o) (odometer_at o.recording.unit) (past_of w.b.run.log (done ++ s ∷ [])).spans s.number odometer
accepted-now o done s at waits rest v d w none odometer is = record {
  at = record {
    earlier = (followed-lit o done s at waits None rest v d w).ended;
    span = w.b.span;
    t = next_told w.b.run.log done s;
    behind = [];
    later = [];
    are = spans-now o done s at waits None rest v d w;
    number = (this-lit o done s at waits None rest v d w).number;
  };
  is = odometer-behind o done s at waits None rest v d w none odometer (driven_in w.b.span) (is ∙ ap (λ (n : ℕ). odometer_by v.odometer n) (travelled-is o done s at waits rest v d w));
}
