-- Seconds of one minute turn over: behind them the cards show their events.
use Rattle.std.proofs.Common.{◌≡◌, ◌∙◌, inl, inr, ⊎_elim, ℕ, zero, suc, ◌+◌, ◌-◌, ◌/◌, ◌%◌, ◌<◌, ◌≤◌, Bool, true, false, Option, Some, None, List, [], ◌∷◌, ◌++◌, length, refl, sym, ap, subst, arith, append_assoc, append-nil}
use Rattle.std.specs.List.{AllByRecursion}
use Rattle.std.proofs.lemmas.Bool.{lt-ltb}
use Rattle.trace_model.specs.declared.Card.{Card}
use Rattle.trace_model.specs.Trace.{TraceSecond, driven}
use Rattle.tach_media.specs.Medium.{State}
use Rattle.card_files.specs.card_layout.declared.command.CardState.{CardState}
use Rattle.unit_model.specs.minute_model.declared.Minute.{Minute}
use Rattle.log_model.specs.declared.lines.Break.{Break}
use Rattle.log_model.specs.Causes.{second_of}
use Rattle.log_model.specs.Log.{RunLog, Phase, In, Keeping, cut_in}
use Rattle.log_model.specs.Course.{Visit, Before, Went, begins, has_power, went, second_told}
use Rattle.log_model.proofs.Growth.{went-more}
use Rattle.device_calls.specs.safety_model.Safe.{Devices, card_of}
use Rattle.device_calls.specs.run_unit_course.Lines.{cut_at}
use Rattle.device_calls.specs.run_unit_course.Followed.{Lit as IsLit}
use Rattle.run_events.specs.run_course.Moments.{and_break}
use Rattle.run_events.specs.run_course.Followed.{Progress, PowerGoesOn, IsLost as HasLost}
use Rattle.run_events.proofs.run_course.Told.{lit-power, lost-dark, next-dark, dark-told}
use Rattle.run_events.proofs.run_course.Quiet.{quiet-are-told}
use Rattle.run_outcome.specs.declared.outcome.Outcome.{Outcome}
use Rattle.run_minutes.specs.declared.keeper.Moment.{Moment}
use Rattle.run_minutes.specs.run_devices.Measured.{Reading}
use Rattle.run_minutes.specs.Books.{HaveTime, AreTimedOn}
use Rattle.run_minutes.specs.Decided.{readings_of}
use Rattle.run_events.specs.run_rings.Notes.{TellSameTo}
use Rattle.run_minutes.specs.run_promise.Origin.{Origin, rule_of, start_at, first_of}
use Rattle.run_minutes.specs.run_promise.Beside.{HaveLeftMore}
use Rattle.run_note_record.proofs.Lines.{early-before}
use Rattle.run_note_record.proofs.SoFar.{failed-more, left-itself}
use Rattle.run_record.specs.Recorded.{Values, progress}
use Rattle.run_record.specs.Within.{Beginning, RecordInSecond}
use Rattle.run_record.specs.Turning.{last_of, before_last, BehindFirst, IsTurned}
use Rattle.run_record.proofs.Turning.{turn-ends}
use Rattle.run_acts.specs.declared.run.Run.{Run}
use Rattle.run_acts.specs.declared.run.Power.TheVariants.{Lit}
use Rattle.run_acts.specs.Booked.{IsBookedTurn}
use Rattle.run_acts.specs.Going.{end_of_seconds, RunHasPower}
use Rattle.run_acts.specs.Recording.{log_of, values_of, IsOrigin, IsNow, RunWithin, RunCut}
use Rattle.run_acts.specs.Turning.{late_moment, told_of, cut_breaks, IsLitTurn}
use Rattle.run_acts.specs.RunCards.{sizes_in, CardsBehind, CardsIn, StillShow}
use Rattle.run_acts.proofs.OnCards.{still-same}
use Rattle.run_acts.proofs.TurnRecorded.{last-actions, last-number, turned, timed-last}
use Rattle.run_acts.proofs.RingedLines.{AreTears, TellsBeside, TellsTears, tears-beside, kept-tells, up-to-tells}
use Rattle.run_acts.proofs.RingedSecond.{cut-is, cut-torn, cut-found, here-append, tears-here_, goes-by, goes-behind, power-here, more-left}
use Rattle.run_acts.proofs.CardEnds.{IsLater, second-begins, ends-shown, whole-quiet, plain-same}
use Rattle.run_acts.proofs.CardStays.{timed-still}
use Rattle.run_acts.proofs.AllStay.{StoodBefore}
use Rattle.run_acts.proofs.KeptSeats.{floor-in, stood-kept}
use Rattle.run_note_record.specs.Uses.{notes_now, uses_in}
use Rattle.run_acts.proofs.CardShown.{FindsStill}
use Rattle.run_note_record.proofs.UsesSoFar.{FoundTo}
use Rattle.run_acts.proofs.CardUses.{lines-still, cut-still, untold-to}

-- lines of a second more
pub lines-later : (o : Origin) (done : List TraceSecond) (s : TraceSecond) (at : Phase) (waits : List Visit) (speed : Option ℕ) (rest : List Minute) (v : Values) (d : Devices) (w : RecordInSecond o done s at waits speed rest v d) (lines : List Break) (later : RunLog) → later ≡ record v.log { breaks = v.log.breaks ++ lines } →
    AllByRecursion (λ (b : Break). second_of b ≡ s.number) lines → 0 < s.number → IsLater w.b.run.log later done s.number
lines-later o done s at waits speed rest v d w lines later is here some =
    let g = goes-by o done s at waits speed rest v d w lines later is here in
    record {
      behind = goes-behind o done s at waits speed rest v d w lines later is here;
      more = g.breaks.0;
      breaks = g.breaks.1;
      here = subst (λ (u : ℕ). AllByRecursion (λ (b : Break). second_of b ≡ u) g.breaks.0) (sym g.number) g.breaks.2;
      early = early-before o done w.b.run w.began.followed s later g;
      some = some;
    }

stay-self : (o : Origin) (d : Devices) → StillShow o d d
stay-self o d c valid = still-same (sizes_in o c) (card_of d c)

abbrev quiet : (number speed : ℕ) → TraceSecond
quiet number speed = record { number = number; has_power = true; speed = speed; actions = [] }

-- ---- quiet seconds, and dark ones behind a cut

many-quiet : (j : ℕ) (o : Origin) (done : List TraceSecond) (log : RunLog) (u speed : ℕ) (d : Devices) → ((i : ℕ) → PowerGoesOn (went log (done ++ driven i u speed [])).before) → CardsBehind o done log d → CardsBehind o (done ++ driven j u speed []) log d
many-quiet zero o done log u speed d goes h = subst (λ (ss : List TraceSecond). CardsBehind o ss log d) (sym (append-nil done)) h
many-quiet (suc j) o done log u speed d goes h =
    let x : TraceSecond = quiet u speed in
    let before : Before = (went log done).before in
    let now : PowerGoesOn (went log done).before = subst (λ (ss : List TraceSecond). PowerGoesOn (went log ss).before) (append-nil done) (goes zero) in
    let power : has_power before x ≡ true = lit-power (second_told log before x ∷ []) before x u now refl refl in
    let first : CardsBehind o (done ++ x ∷ []) log d = plain-same o done x log d (inr (power, now.running, refl)) h in
    subst (λ (ss : List TraceSecond). CardsBehind o ss log d) (append_assoc done (x ∷ []) (driven j (u + 1) speed []))
    (many-quiet j o (done ++ x ∷ []) log (u + 1) speed d (λ i. subst (λ (ss : List TraceSecond). PowerGoesOn (went log ss).before) (sym (append_assoc done (x ∷ []) (driven i (u + 1) speed []))) (goes (suc i))) first)

one-dark : (o : Origin) (done : List TraceSecond) (log : RunLog) (u speed : ℕ) (d : Devices) → HasLost (went log done).before → 0 < u % 60 → CardsBehind o done log d → HasLost (went log (done ++ quiet u speed ∷ [])).before × CardsBehind o (done ++ quiet u speed ∷ []) log d
one-dark o done log u speed d lost some h =
    let x : TraceSecond = quiet u speed in
    let before : Before = (went log done).before in
    let off : has_power before x ≡ false = lost-dark before x lost some in
    let t = dark-told log before x off in (
      subst (λ (g : Went). HasLost g.before) (sym (went-more log done x)) (next-dark before (second_told log before x) lost t.lit t.cut t.given),
      plain-same o done x log d (inl off) h,
    )

many-dark : (j : ℕ) (o : Origin) (done : List TraceSecond) (log : RunLog) (u speed : ℕ) (d : Devices) → HasLost (went log done).before → 0 < u % 60 → u % 60 + j ≤ 60 → CardsBehind o done log d → CardsBehind o (done ++ driven j u speed []) log d
many-dark zero o done log u speed d lost some few h = subst (λ (ss : List TraceSecond). CardsBehind o ss log d) (sym (append-nil done)) h
many-dark (suc zero) o done log u speed d lost some few h = (one-dark o done log u speed d lost some h).1
many-dark (suc (suc j)) o done log u speed d lost some few h =
    let x : TraceSecond = quiet u speed in
    let one = one-dark o done log u speed d lost some h in
    subst (λ (ss : List TraceSecond). CardsBehind o ss log d) (append_assoc done (x ∷ []) (driven (suc j) (u + 1) speed []))
    (many-dark (suc j) o (done ++ x ∷ []) log (u + 1) speed d one.0 (omega (arith, some, few)) (omega (arith, some, few)) one.1)

-- THE SECOND WAS CUT
pub dark-cards : (n speed : ℕ) (old : Run) (before : Outcome) (d : Devices) → 0 < n → old.next % 60 + n ≤ 60 → (o : Origin) (done : List TraceSecond) (s : TraceSecond) → IsNow s speed old → RunCut o done s old before d → CardsBehind o (done ++ s ∷ []) (log_of before) d →
    CardsBehind o (done ++ s ∷ driven (n - 1) (s.number + 1) speed []) (log_of before) d
dark-cards n speed old before d some minute o done s now cut h =
    subst (λ (ss : List TraceSecond). CardsBehind o ss (log_of before) d) (append_assoc done (s ∷ []) (driven (n - 1) (s.number + 1) speed [])) (all (n - 1) refl)
  where
    number : s.number ≡ old.next
    number = now.number

    lost : HasLost (went (log_of before) (done ++ s ∷ [])).before
    lost = cut.recorded.recorded.followed.power

    all : (j : ℕ) → n - 1 ≡ j → CardsBehind o ((done ++ s ∷ []) ++ driven j (s.number + 1) speed []) (log_of before) d
    all zero none = subst (λ (ss : List TraceSecond). CardsBehind o ss (log_of before) d) (sym (append-nil (done ++ s ∷ []))) h
    all (suc j) more = many-dark (suc j) o (done ++ s ∷ []) (log_of before) (s.number + 1) speed d lost (omega (arith, number, minute, more)) (omega (arith, number, minute, more)) h

-- ---- WITH POWER
module _ {U A0 B0 : State} {chip_a chip_b : CardState} (n speed begun : ℕ) (old new : Run) (before after : Outcome) (d e : Devices) (g : RunHasPower None (old.next / 60) old U chip_a chip_b A0 B0) (lit : old.power ≡ Lit) (some : 0 < n)
    (minute : old.next % 60 + n ≤ 60) (small : old.next + n ≤ end_of_seconds) (low : 0 < old.next) (h : IsBookedTurn n speed begun old new before after d e) where
  abbrev T : IsLitTurn n speed begun old new before after
  T = h.0

  abbrev at : Moment
  at = late_moment old.next n begun

  pub told-tears : TellsTears at (told_of T.fed before) (told_of T.between T.told)
  told-tears = ⊎_elim
      (λ short. up-to-tells at T.decided true (told_of T.fed before) (told_of T.between T.told) short.1)
      (λ whole. kept-tells at T.decided (told_of T.fed before) (told_of T.between T.told) whole.0)
      T.kept.how

  pub told-is : log_of T.told ≡ record (log_of before) { breaks = (log_of before).breaks ++ told-tears.lines }
  told-is = ap log_of T.kept.outcome ∙ ap (λ (bs : List Break). record (log_of before) { breaks = bs }) told-tears.are

  -- THE LAST SECOND, once its actions are noted
  module _ (o : Origin) (origin : IsOrigin o) (D : List TraceSecond) (L : TraceSecond) (rest : List Minute) (next_ gone : ℕ) (w : RecordInSecond o D L Keeping [] (Some L.speed) rest (record (values_of old before) { minutes = T.fed.minutes; next = next_; begun = gone }) d)
      (number : L.number ≡ old.next + n - 1) (acts : length L.actions ≡ begun) (values : List Reading) (timed : AreTimedOn o.found values d e) (r : CardsIn o D L w.b.run.log L.actions (log_of before) d) (to : FoundTo (log_of before) L.number (length L.actions)) where
    abbrev log : RunLog
    log = log_of before

    abbrev v : Values
    v = record (values_of old before) { minutes = T.fed.minutes; next = next_; begun = gone }

    abbrev kept_log : RunLog
    kept_log = log_of T.told

    at-is : at ≡ record { second = L.number; begun = length L.actions; late = true }
    at-is = ap (λ (u : ℕ). record { second = u; begun = begun; late = true }) (sym number) ∙ ap (λ (k : ℕ). record { second = L.number; begun = k; late = true }) (sym acts)

    tears : AreTears (record { second = L.number; begun = length L.actions; late = true }) told-tears.lines
    tears = subst (λ (m : Moment). AreTears m told-tears.lines) at-is told-tears.tears

    told : TellsBeside log kept_log L.number Keeping
    told = tears-beside (record { second = L.number; begun = length L.actions; late = true }) told-tears.lines log kept_log told-is tears

    uncut : cut_in log L.number ≡ None
    uncut = w.moment.up_to.uncut

    kept-uncut : cut_in kept_log L.number ≡ None
    kept-uncut = told.cut ∙ uncut

    lines-here : AllByRecursion (λ (b : Break). second_of b ≡ L.number) told-tears.lines
    lines-here = tears-here_ L.number (length L.actions) true told-tears.lines tears

    left : HaveLeftMore o d e
    left = more-left o d e (w.powered.lit.unit.unit_holds [] []).later w.there.clocks (record { unit = h.4.keeps; card_a = h.4.card_a.keeps; card_b = h.4.card_b.keeps })

    -- no card's count has fallen
    stood : StoodBefore o d e
    stood = stood-kept o T.failed old.keeper.cabin.cards T.between.keeper.cabin.cards d e h.4 (floor-in o D L Keeping [] (Some L.speed) rest v d w)

    -- by a log behind it
    ended : (later : RunLog) (lines : List Break) → later ≡ record log { breaks = log.breaks ++ lines } → ((c : Card) → FindsStill o c log later d e (uses_in o c (notes_now w.b.run.log D log L)) (uses_in o c (notes_now w.b.run.log D later L))) → AllByRecursion (λ (b : Break). second_of b ≡ L.number) lines → TellSameTo log later L.number (length L.actions) → CardsBehind o (D ++ L ∷ []) later e
    ended later lines is finds here same =
        let l = lines-later o D L Keeping [] (Some L.speed) rest v d w lines later is here (omega (arith, number, low, some)) in
        let power = power-here o D L Keeping [] (Some L.speed) rest v d w in
        ends-shown o D L w.b.run.log later l power L.actions log d e r finds (failed-more log later (lines, ap (λ (x : RunLog). x.breaks) is)) (whole-quiet o D L w.b.run.log later l power log same) left (timed-still o origin values d e timed)

    same-kept : TellSameTo log kept_log L.number (length L.actions)
    same-kept = record {
      begun = λ k lt. ap (λ (q : Option ℕ). begins q k) uncut;
      begun_later = λ k lt. ap (λ (q : Option ℕ). begins q k) kept-uncut;
      torn = λ k slot le. told.torn (In k) slot refl;
      found = λ k slot le. told.found (In k) slot;
    }

    same-cut : TellSameTo log (and_break kept_log (cut_at L.number true (length L.actions))) L.number (length L.actions)
    same-cut = record {
      begun = λ k lt. ap (λ (q : Option ℕ). begins q k) uncut;
      begun_later = λ k lt. ap (λ (q : Option ℕ). begins q k) (cut-is kept_log L.number (length L.actions) kept-uncut) ∙ lt-ltb k (length L.actions) lt;
      torn = λ k slot le. cut-torn kept_log L.number (length L.actions) kept-uncut (In k) slot ∙ told.torn (In k) slot refl;
      found = λ k slot le. cut-found kept_log L.number (length L.actions) kept-uncut (In k) slot ∙ told.found (In k) slot;
    }

    cut-lines : and_break kept_log (cut_at L.number true (length L.actions)) ≡ record log { breaks = log.breaks ++ (told-tears.lines ++ cut_at L.number true (length L.actions) ∷ []) }
    cut-lines =
        ap (λ (l : RunLog). and_break l (cut_at L.number true (length L.actions))) told-is
        ∙ ap (λ (bs : List Break). record log { breaks = bs }) (append_assoc log.breaks told-tears.lines (cut_at L.number true (length L.actions) ∷ []))

    pub last-shown : CardsBehind o (D ++ L ∷ []) (log_of after) e
    last-shown = by T.failed refl
      where
        by : (f : Bool) → T.failed ≡ f → CardsBehind o (D ++ L ∷ []) (log_of after) e
        by false fine =
            let after_is : after ≡ T.told = T.outcome ∙ ap (λ (b : Bool). cut_breaks b (old.next + n - 1) begun T.told) fine in
            subst (λ (out : Outcome). CardsBehind o (D ++ L ∷ []) (log_of out) e) (sym after_is) (ended kept_log told-tears.lines told-is
            (lines-still o w.b.run.log D L (power-here o D L Keeping [] (Some L.speed) rest v d w) log kept_log L.actions [] (sym (append-nil L.actions)) same-kept to (λ k x lt. told.found (In k) x ∙ to k x lt) told-tears.lines (ap (λ (l : RunLog). l.breaks) told-is) d e stood) lines-here same-kept)
        by true broke =
            let after_is : after ≡ cut_breaks true (old.next + n - 1) begun T.told = T.outcome ∙ ap (λ (b : Bool). cut_breaks b (old.next + n - 1) begun T.told) broke in
            let log_is : and_break kept_log (cut_at L.number true (length L.actions)) ≡ log_of after = (λ i. and_break kept_log (cut_at (number i) true (acts i))) ∙ sym (ap log_of after_is) in
            subst (λ (l : RunLog). CardsBehind o (D ++ L ∷ []) l e) log_is
            (ended (and_break kept_log (cut_at L.number true (length L.actions))) (told-tears.lines ++ cut_at L.number true (length L.actions) ∷ []) cut-lines
            (λ c. cut-still o c kept_log log L.number (length L.actions) d e (uses_in o c (notes_now w.b.run.log D log L)) (uses_in o c (notes_now w.b.run.log D (and_break kept_log (cut_at L.number true (length L.actions))) L))) (here-append L.number told-tears.lines (cut_at L.number true (length L.actions) ∷ []) lines-here (refl, tt)) same-cut)

  -- ---- ONE SECOND, OR SEVERAL
  module _ (o : Origin) (done : List TraceSecond) (s : TraceSecond) (now : IsNow s speed old) (actions : length s.actions ≡ begun) (none : 0 < n - 1 → s.actions ≡ []) (r : RunWithin o done s (In (length s.actions)) [] [] old before d) (time : HaveTime e)
      (cards : CardsIn o done s r.within.b.run.log s.actions (log_of before) d) where
    abbrev log_ : RunLog
    log_ = log_of before

    -- the first of several has ended
    first-behind : CardsBehind o (done ++ s ∷ []) log_ d
    first-behind =
        let v : Values = values_of old before in
        let at_ = now.number in
        let l = lines-later o done s (In (length s.actions)) [] None [] v d r.within [] log_ (ap (λ (bs : List Break). record log_ { breaks = bs }) (sym (append-nil log_.breaks))) tt (omega (arith, at_, low)) in
        let power = power-here o done s (In (length s.actions)) [] None [] v d r.within in
        let uncut = r.within.moment.up_to.uncut in
        ends-shown o done s r.within.b.run.log log_ l power s.actions log_ d d cards (λ c whose in_ known. (known, refl)) (λ u is. is)
        (whole-quiet o done s r.within.b.run.log log_ l power log_ (record { begun = λ k lt. ap (λ (q : Option ℕ). begins q k) uncut; begun_later = λ k lt. ap (λ (q : Option ℕ). begins q k) uncut; torn = λ k slot le. refl; found = λ k slot le. refl }))
        (left-itself o d) (stay-self o d)

    acts-of : (c : ℕ) → c ≡ n - 1 → length (last_of c s).actions ≡ begun
    acts-of c is = last-actions c begun s actions (λ lt. none (omega (arith, lt, is)))

    number-of : (c : ℕ) → c ≡ n - 1 → (last_of c s).number ≡ old.next + n - 1
    number-of c is = last-number c s ∙ (let at_ = now.number in let same : s.number + c ≡ old.next + n - 1 = omega (arith, at_, is, some) in same)

    module _ (c : ℕ) (x : IsTurned o done s (suc c) T.decided T.fed.minutes (values_of old before) d r.within) where
      after_one : BehindFirst o done s (values_of old before) d
      after_one = x.behind (omega arith)

      next-one : after_one.values.next ≡ s.number + 1
      next-one = let at_ = after_one.next in let number = now.number in omega (arith, at_, number)

      goes : (i : ℕ) → PowerGoesOn (went log_ ((done ++ s ∷ []) ++ driven i (s.number + 1) s.speed [])).before
      goes i =
          let followed = after_one.recorded.recorded.followed in
          let p : Progress = progress after_one.values (IsLit (after_one.told ∷ after_one.span)) after_one.recorded.book in
          let told = quiet-are-told (rule_of o) (start_at o) o.from (first_of o) (done ++ s ∷ []) p followed after_one.told after_one.span refl i s.speed in
          subst (λ (l : RunLog). PowerGoesOn (went l ((done ++ s ∷ []) ++ driven i (s.number + 1) s.speed [])).before) after_one.log
          (subst (λ (u : ℕ). PowerGoesOn (went after_one.values.log ((done ++ s ∷ []) ++ driven i u s.speed [])).before) next-one
          (subst (λ (g_ : Went). PowerGoesOn g_.before) (sym told) followed.power))

      done-is : (done ++ s ∷ []) ++ driven c (s.number + 1) s.speed [] ≡ done ++ s ∷ driven c (s.number + 1) s.speed []
      done-is = append_assoc done (s ∷ []) (driven c (s.number + 1) s.speed [])

      behind-all : CardsBehind o (done ++ s ∷ driven c (s.number + 1) s.speed []) log_ d
      behind-all = subst (λ (ss : List TraceSecond). CardsBehind o ss log_ d) done-is (many-quiet c o (done ++ s ∷ []) log_ (s.number + 1) s.speed d goes first-behind)

      goes-l : PowerGoesOn (went log_ (done ++ s ∷ driven c (s.number + 1) s.speed [])).before
      goes-l = subst (λ (ss : List TraceSecond). PowerGoesOn (went log_ ss).before) done-is (goes c)

      -- the log tells of no find in a later second
      untold_ : FoundTo log_ (last_of (suc c) s).number 0
      untold_ =
          let p : Progress = progress after_one.values (IsLit (after_one.told ∷ after_one.span)) after_one.recorded.book in
          let number = last-number (suc c) s in
          let first = next-one in
          subst (λ (l : RunLog). FoundTo l (last_of (suc c) s).number 0) after_one.log (untold-to o (done ++ s ∷ []) p after_one.recorded.recorded.followed (last_of (suc c) s).number (omega (arith, number, first)) 0)

      several-shown : suc c ≡ n - 1 → CardsBehind o (before_last (suc c) s done ++ last_of (suc c) s ∷ []) (log_of after) e
      several-shown is =
          let D : List TraceSecond = done ++ s ∷ driven c (s.number + 1) s.speed [] in
          let L : TraceSecond = last_of (suc c) s in
          let power = lit-power (second_told log_ (went log_ D).before L ∷ []) (went log_ D).before L L.number goes-l refl refl in
          let begun_ : CardsIn o D L log_ [] log_ d = second-begins o D L log_ d behind-all goes-l.running power untold_ in
          let log_is = (x.goes_on (omega arith)).0 in
          last-shown o r.origin D L T.decided (old.next + suc c) x.begun x.fed (number-of (suc c) is) (acts-of (suc c) is) (readings_of old.keeper T.decided)
          (timed-last n speed begun old new before after d e g lit some minute small h o done s now actions none r time (suc c) is D L (old.next + suc c) x.begun (last-number (suc c) s) refl (acts-of (suc c) is) x.fed x.travelled_before x.from)
          (subst (λ (l : RunLog). CardsIn o D L l [] log_ d) (sym log_is) begun_) untold_

    by-count : (c : ℕ) → c ≡ n - 1 → IsTurned o done s c T.decided T.fed.minutes (values_of old before) d r.within → CardsBehind o (before_last c s done ++ last_of c s ∷ []) (log_of after) e
    by-count zero is x =
        last-shown o r.origin done s T.decided (old.next + 0) x.begun x.fed (number-of zero is) (acts-of zero is) (readings_of old.keeper T.decided)
        (timed-last n speed begun old new before after d e g lit some minute small h o done s now actions none r time zero is done s (old.next + 0) x.begun (last-number zero s) refl (acts-of zero is) x.fed x.travelled_before x.from)
        (subst (λ (b : Beginning). CardsIn o done s b.run.log s.actions log_ d) (sym (x.first refl)) cards) (λ k slot lt. r.within.moment.up_to.found (In k) slot lt)
    by-count (suc c) is x = several-shown c x is

    pub seconds-shown : CardsBehind o (done ++ s ∷ driven (n - 1) (s.number + 1) speed []) (log_of after) e
    seconds-shown =
        subst (λ (k : ℕ). CardsBehind o (done ++ s ∷ driven (n - 1) (s.number + 1) k []) (log_of after) e) now.speed_is
        (subst (λ (ss : List TraceSecond). CardsBehind o ss (log_of after) e) (turn-ends done s (n - 1))
        (by-count (n - 1) refl (turned n speed begun old new before after d e g lit some minute small h o done s now actions none r time)))
