-- Seconds of a run without power, at once.
use Rattle.std.proofs.Common.{◌≡◌, inl, ⊎_elim, ℕ, zero, suc, ◌+◌, ◌%◌, ◌<◌, ◌≤◌, Bool, true, false, ◌&&◌, List, [], ◌∷◌, ◌++◌, Contains, length, map, filter, refl, ap, sym, subst, ◌∙◌, arith, append_assoc, append-nil, length-append}
use Rattle.std.specs.List.{AllByRecursion}
use Rattle.std.proofs.lemmas.List.{map-append}
use Rattle.std.proofs.lemmas.List.Elements.{Contains-push_cases}
use Rattle.activity_codec.specs.declared.values.Slot.{Slot}
use Rattle.trace_model.specs.declared.Action.{Action}
use Rattle.trace_model.specs.declared.Card.{Card}
use Rattle.trace_model.specs.Trace.{TraceSecond, driven, dark}
use Rattle.run_model.specs.declared.Device.{Device}
use Rattle.minute_model.specs.declared.Rule.{Rule}
use Rattle.log_model.specs.declared.lines.Mark.{Mark}
use Rattle.log_model.specs.declared.lines.Refused.{Refused}
use Rattle.log_model.specs.declared.lines.SlotFault.{SlotFault}
use Rattle.log_model.specs.Log.{RunLog, Phase}
use Rattle.log_model.specs.Slots.{same_card}
use Rattle.log_model.specs.Course.{ToldSecond, Before, Went, went, has_power, second_told, before_next, without_power}
use Rattle.log_model.specs.Causes.{device_of, HasMoment, in_the_slot, refusals_at, refusals_of, refusal_told, pulled_of, torn_of, cards_torn, finds_of, off_cuts, RoseBy}
use Rattle.log_model.specs.Spans.{AreInOrder}
use Rattle.log_model.proofs.Growth.{went-more}
use Rattle.history_model.specs.Presence.{Start}
use Rattle.history_model.specs.Completeness.{IsComplete}
use Rattle.run_unit_course.specs.Caused.{IsOver}
use Rattle.run_unit_course.specs.Followed.{Lost, IsDark}
use Rattle.run_unit_course.proofs.Parts.{order-behind}
use Rattle.run_unit_course.proofs.Spans.{cuts_of, cuts-append}
use Rattle.run_course.specs.Followed.{IsLost}
use Rattle.run_course.specs.Presence.{SlotsTell}
use Rattle.run_course.specs.Caused.{StandsBy, failures, AreCaused}
use Rattle.run_course.specs.Dark.{dark_told, all_dark, LostSecondsAreTold, OffSecondsAreTold, ADarkMinuteIsCaused, ADarkMinuteStaysComplete, OffSecondsStayComplete, DarkSecondsTell}
use Rattle.run_course.proofs.Logs.{BreaksBefore, breaks-later, went-refused, refused-at}
use Rattle.run_course.proofs.Presence.{time-passes, second-gone}
use Rattle.run_course.proofs.Complete.{power-alone}
use Rattle.run_course.proofs.Staying.{refused-stays}
use Rattle.run_course.proofs.Caused.{refusals-more, pulled-more, torn-more, cards-more, finds-more, begun-old, moments-old, over-last, off-behind, failed-same, judged-same, breaks-next}
use Rattle.run_course.proofs.Steps.{with-supply}
use Rattle.run_course.proofs.Told.{lost-dark, told-lit}

-- AFTER A FAILED CALL
abbrev lost_second : (number speed : ℕ) → List Action → TraceSecond
lost_second number speed actions = record { number = number; has_power = true; speed = speed; actions = actions }

is-dark : (log : RunLog) (before : Before) (s : TraceSecond) → has_power before s ≡ false → second_told log before s ≡ dark_told s before.slots
is-dark log before s none = rw none refl

and-true : (b : Bool) → (b && true) ≡ b
and-true true = refl
and-true false = refl

-- what comes behind it is as before
lost-next : (before : Before) (s : TraceSecond) → IsLost before → s.has_power ≡ true → before_next before (dark_told s before.slots) ≡ before
lost-next before s h given =
    ap (λ (g : Bool). record { running = false; gone = g; given = s.has_power; slots = before.slots }) (and-true before.gone)
    ∙ ap (λ (r : Bool). record { running = r; gone = before.gone; given = s.has_power; slots = before.slots }) (sym h.running)
    ∙ ap (λ (g : Bool). record { running = before.running; gone = before.gone; given = g; slots = before.slots }) (given ∙ sym h.given)

lost-one : (log : RunLog) (done : List TraceSecond) (s : TraceSecond) → IsLost (went log done).before → 0 < s.number % 60 → s.has_power ≡ true →
    went log (done ++ s ∷ []) ≡ record { told = (went log done).told ++ dark_told s (went log done).before.slots ∷ []; before = (went log done).before }
lost-one log done s lost some given =
    let before : Before = (went log done).before in
    let told : List ToldSecond = (went log done).told in
    went-more log done s
    ∙ ap (λ (t : ToldSecond). record { told = told ++ t ∷ []; before = before_next before t }) (is-dark log before s (lost-dark before s lost some))
    ∙ ap (λ (b : Before). record { told = told ++ dark_told s before.slots ∷ []; before = b }) (lost-next before s lost given)

lost-many : (log : RunLog) (n : ℕ) (done : List TraceSecond) (next speed : ℕ) (actions : List Action) → IsLost (went log done).before → 0 < next % 60 → next % 60 + n ≤ 60 →
    went log (done ++ driven n next speed actions) ≡ record { told = (went log done).told ++ all_dark (driven n next speed actions) (went log done).before.slots; before = (went log done).before }
lost-many log zero done next speed actions lost some within =
    ap (went log) (append-nil done) ∙ ap (λ (ts : List ToldSecond). record { told = ts; before = (went log done).before }) (sym (append-nil (went log done).told))
lost-many log (suc zero) done next speed actions lost some within = lost-one log done (lost_second next speed actions) lost some refl
lost-many log (suc (suc n)) done next speed actions lost some within =
    let before : Before = (went log done).before in
    let told : List ToldSecond = (went log done).told in
    let s : TraceSecond = lost_second next speed actions in
    let one = lost-one log done s lost some refl in
    let step : (next + 1) % 60 ≡ next % 60 + 1 = omega (arith, within) in
    ap (went log) (sym (append_assoc done (s ∷ []) (driven (suc n) (next + 1) speed [])))
    ∙ lost-many log (suc n) (done ++ s ∷ []) (next + 1) speed [] (subst (λ (w : Went). IsLost w.before) (sym one) lost) (omega (arith, step)) (omega (arith, step, within))
    ∙ ap (λ (w : Went). record { told = w.told ++ all_dark (driven (suc n) (next + 1) speed []) w.before.slots; before = w.before }) one
    ∙ ap (λ (ts : List ToldSecond). record { told = ts; before = before }) (append_assoc told (dark_told s before.slots ∷ []) (all_dark (driven (suc n) (next + 1) speed []) before.slots))

pub lost-are-told : LostSecondsAreTold
lost-are-told rule start from first done p g is n speed actions some within =
    let f = with-supply rule start from first done p Lost is g in
    lost-many p.log n done p.next speed actions f.power some within

-- WHERE THE TRACE GIVES NO POWER
abbrev off_second : ℕ → TraceSecond
off_second next = record { number = next; has_power = false; speed = 0; actions = [] }

pub off-are-told : OffSecondsAreTold
off-are-told log done zero next = (ap (λ (ss : List TraceSecond). (went log ss).told) (append-nil done) ∙ sym (append-nil (went log done).told), ap (λ (ss : List TraceSecond). (went log ss).before.slots) (append-nil done))
off-are-told log done (suc n) next =
    let s : TraceSecond = off_second next in
    let before : Before = (went log done).before in
    let one = went-more log done s in
    let same = append_assoc done (s ∷ []) (dark n (next + 1)) in
    let rest = off-are-told log (done ++ s ∷ []) n (next + 1) in (
      ap (λ (ss : List TraceSecond). (went log ss).told) (sym same) ∙ rest.0
          ∙ ap (λ (w : Went). w.told ++ all_dark (dark n (next + 1)) w.before.slots) one
          ∙ append_assoc (went log done).told (dark_told s before.slots ∷ []) (all_dark (dark n (next + 1)) before.slots),
      ap (λ (ss : List TraceSecond). (went log ss).before.slots) (sym same) ∙ rest.1 ∙ ap (λ (w : Went). w.before.slots) one,
    )

-- EACH LINE HAS ITS CAUSE
-- one of them, where the log has these refusals behind it
dark-one : (before now : Device → ℕ) (log : RunLog) (xs : List Refused) (done : List TraceSecond) (s : TraceSecond) → IsLost (went log done).before → 0 < s.number % 60 → s.has_power ≡ true → BreaksBefore s.number s.number log.breaks →
    map refusal_told xs ≡ map refusal_told log.refused ++ refusals_of (dark_told s (went log done).before.slots ∷ []) → AreCaused before now done log → IsOver (failures log) (went log done).told →
    let later : RunLog = record log { refused = xs } in
    AreCaused before now (done ++ s ∷ []) later × IsOver (failures later) (went later (done ++ s ∷ [])).told
dark-one before now log xs done s lost some given lines are c over =
    let later : RunLog = record log { refused = xs } in
    let told : List ToldSecond = (went log done).told in
    let t : ToldSecond = dark_told s (went log done).before.slots in
    let now_ : (went later (done ++ s ∷ [])).told ≡ told ++ t ∷ [] =
    ap (λ (w : Went). w.told) (went-refused log later refl refl (done ++ s ∷ []) ∙ lost-one log done s lost some given) in (
      record {
        refused = are ∙ ap (λ (ys : List (ℕ × ℕ × SlotFault)). ys ++ refusals_of (t ∷ [])) c.refused ∙ sym (ap refusals_of now_ ∙ refusals-more told (t ∷ []));
        cut_seconds = c.cut_seconds ∙ sym (ap cuts_of now_ ∙ cuts-append told (t ∷ []) ∙ append-nil (cuts_of told));
        off_lines = c.off_lines ∙ sym (ap (off_cuts (failures log)) now_ ∙ off-behind (failures log) told t over);
        failed_cuts = c.failed_cuts;
        tear_lines = c.tear_lines ∙ sym (ap pulled_of now_ ∙ pulled-more told (t ∷ []) ∙ append-nil (pulled_of told));
        failed_tears = λ slot. c.failed_tears slot ∙ sym (ap (λ (ts : List ToldSecond). in_the_slot slot (torn_of ts)) now_ ∙ ap (λ (ys : List (ℕ × Phase × Slot)). in_the_slot slot ys) (torn-more told (t ∷ []) ∙ append-nil (torn_of told)));
        torn_cards = λ card. subst (λ (cs : List Card). RoseBy (length (filter (same_card card) cs)) (before (device_of card)) (now (device_of card)))
            (sym (ap cards_torn now_ ∙ cards-more told (t ∷ []) ∙ append-nil (cards_torn told))) (c.torn_cards card);
        calm_cards = λ card. subst (λ (cs : List Card). StandsBy (length (filter (same_card card) cs)) (before (device_of card)) (now (device_of card)))
            (sym (ap cards_torn now_ ∙ cards-more told (t ∷ []) ∙ append-nil (cards_torn told))) (c.calm_cards card);
        begun = begun-old s.number done (s ∷ []) log.breaks
            (λ x at. ⊎_elim (λ none. absurd (omega (arith, none.1))) (λ (same : s ≡ x). let e : s.number ≡ x.number = ap (λ (y : TraceSecond). y.number) same in omega (arith, e)) (Contains-push_cases [] s x at)) lines c.begun;
        moments = subst (λ (ts : List ToldSecond). AllByRecursion (HasMoment ts) log.breaks) (sym now_)
            (moments-old s.number told (t ∷ []) log.breaks (λ x at. ⊎_elim (λ none. absurd (omega (arith, none.1))) (λ (same : t ≡ x). let e : s.number ≡ x.second.number = ap (λ (y : ToldSecond). y.second.number) same in omega (arith, e)) (Contains-push_cases [] t x at)) lines c.moments);
        order = c.order;
        finds = c.finds ∙ sym (ap finds_of now_ ∙ finds-more told (t ∷ []) ∙ append-nil (finds_of told));
        judged = λ x e at entered. ⊎_elim
            (λ old. judged-same log later x e (refused-at log later refl refl x.second.number) (failed-same log later x.second.number refl) (c.judged x e old entered))
            (λ (here : t ≡ x). absurd (let nobody = subst (λ (y : ToldSecond). Contains y.course.entered e) (sym here) entered in omega (arith, nobody.1)))
            (Contains-push_cases told t x (subst (λ (ts : List ToldSecond). Contains ts x) now_ at));
      },
      subst (IsOver (failures log)) (sym now_) (over-last (failures log) told t refl),
    )

-- several, without actions
dark-many : (before now : Device → ℕ) (log : RunLog) (n : ℕ) (done : List TraceSecond) (next speed : ℕ) → IsLost (went log done).before → 0 < next % 60 → next % 60 + n ≤ 60 → BreaksBefore next next log.breaks →
    AreCaused before now done log × IsOver (failures log) (went log done).told → AreCaused before now (done ++ driven n next speed []) log × IsOver (failures log) (went log (done ++ driven n next speed [])).told
dark-many before now log zero done next speed lost some within lines both =
    subst (λ (ss : List TraceSecond). AreCaused before now ss log × IsOver (failures log) (went log ss).told) (sym (append-nil done)) both
dark-many before now log (suc zero) done next speed lost some within lines both =
    dark-one before now log log.refused done (lost_second next speed []) lost some refl lines (sym (append-nil (map refusal_told log.refused))) both.0 both.1
dark-many before now log (suc (suc n)) done next speed lost some within lines both =
    let s : TraceSecond = lost_second next speed [] in
    let one = dark-one before now log log.refused done s lost some refl lines (sym (append-nil (map refusal_told log.refused))) both.0 both.1 in
    let step : (next + 1) % 60 ≡ next % 60 + 1 = omega (arith, within) in
    subst (λ (ss : List TraceSecond). AreCaused before now ss log × IsOver (failures log) (went log ss).told) (append_assoc done (s ∷ []) (driven (suc n) (next + 1) speed []))
    (dark-many before now log (suc n) (done ++ s ∷ []) (next + 1) speed (subst (λ (w : Went). IsLost w.before) (sym (lost-one log done s lost some refl)) lost) (omega (arith, step)) (omega (arith, step, within))
    (breaks-later next next (next + 1) (next + 1) log.breaks (omega arith) (omega arith) lines) one)

dark-all : (before now : Device → ℕ) (log : RunLog) (n : ℕ) (done : List TraceSecond) (next speed : ℕ) (actions : List Action) (refused : List Refused) → IsLost (went log done).before → 0 < next % 60 → next % 60 + suc n ≤ 60 → BreaksBefore next next log.breaks →
    map refusal_told refused ≡ refusals_at next (without_power 0 actions) → AreCaused before now done log → IsOver (failures log) (went log done).told →
    let later : RunLog = record log { refused = log.refused ++ refused } in
    AreCaused before now (done ++ driven (suc n) next speed actions) later × IsOver (failures later) (went later (done ++ driven (suc n) next speed actions)).told
dark-all before now log n done next speed actions refused lost some within lines are c over =
    let later : RunLog = record log { refused = log.refused ++ refused } in
    let s : TraceSecond = lost_second next speed actions in
    let one = dark-one before now log (log.refused ++ refused) done s lost some refl lines
    (map-append refusal_told log.refused refused ∙ ap (λ (ys : List (ℕ × ℕ × SlotFault)). map refusal_told log.refused ++ ys) (are ∙ sym (append-nil (refusals_at next (without_power 0 actions))))) c over in
    let here : IsLost (went later (done ++ s ∷ [])).before = subst (λ (w : Went). IsLost w.before) (sym (went-refused log later refl refl (done ++ s ∷ []) ∙ lost-one log done s lost some refl)) lost in
    go n within later one here lines
  where
    go : (n : ℕ) → next % 60 + suc n ≤ 60 → (later : RunLog) →
        AreCaused before now (done ++ lost_second next speed actions ∷ []) later × IsOver (failures later) (went later (done ++ lost_second next speed actions ∷ [])).told → IsLost (went later (done ++ lost_second next speed actions ∷ [])).before →
        BreaksBefore next next later.breaks → AreCaused before now (done ++ driven (suc n) next speed actions) later × IsOver (failures later) (went later (done ++ driven (suc n) next speed actions)).told
    go zero within later one here lines = one
    go (suc n) within later one here lines =
        let s : TraceSecond = lost_second next speed actions in
        let step : (next + 1) % 60 ≡ next % 60 + 1 = omega (arith, within) in
        subst (λ (ss : List TraceSecond). AreCaused before now ss later × IsOver (failures later) (went later ss).told) (append_assoc done (s ∷ []) (driven (suc n) (next + 1) speed []))
        (dark-many before now later (suc n) (done ++ s ∷ []) (next + 1) speed here (omega (arith, step)) (omega (arith, step, within)) (breaks-later next next (next + 1) (next + 1) later.breaks (omega arith) (omega arith) lines) one)

pub dark-caused : ADarkMinuteIsCaused
dark-caused rule start from first done p g is n speed actions refused some within are before now w q log_is =
    let f = with-supply rule start from first done p Lost is g in
    let later : RunLog = record p.log { refused = p.log.refused ++ refused } in
    let over = w.over (subst IsDark (sym is) tt) in
    let both = dark-all before now p.log n done p.next speed actions refused f.power some within (breaks-next rule start from first done p g) are w.caused over in
    record {
      caused = subst (λ (l : RunLog). AreCaused before now (done ++ driven (suc n) p.next speed actions) l) (sym log_is) both.0;
      over = λ dark_. subst (λ (l : RunLog). IsOver (failures l) (went l (done ++ driven (suc n) p.next speed actions)).told) (sym log_is) both.1;
    }

-- WHAT IS DECIDED
order-more : (from : ℕ) (done : List TraceSecond) (s : TraceSecond) (next : ℕ) → AreInOrder from done → next ≡ from + length done → s.number ≡ next → AreInOrder from (done ++ s ∷ [])
order-more from done s next order is number = order-behind from done (s ∷ []) order (omega (arith, is, number), tt)

number-more : (from : ℕ) (done : List TraceSecond) (s : TraceSecond) (next : ℕ) → next ≡ from + length done → next + 1 ≡ from + length (done ++ s ∷ [])
number-more from done s next is = let parts = length-append done (s ∷ []) in omega (arith, parts, is)

lost-complete : (rule : Rule) (start : Start) (from : ℕ) (log : RunLog) (marks : List Mark) (n : ℕ) (done : List TraceSecond) (next speed : ℕ) (actions : List Action) → AreInOrder from done → next ≡ from + length done → IsLost (went log done).before → 0 < next % 60 → next % 60 + n ≤ 60 →
    IsComplete rule start log (went log done).told marks → IsComplete rule start log (went log (done ++ driven n next speed actions)).told marks
lost-complete rule start from log marks zero done next speed actions order is lost some within c = subst (λ (ss : List TraceSecond). IsComplete rule start log (went log ss).told marks) (sym (append-nil done)) c
lost-complete rule start from log marks (suc zero) done next speed actions order is lost some within c =
    let s : TraceSecond = lost_second next speed actions in
    power-alone rule start from log done s marks (order-more from done s next order is refl) (inl (told-lit log (went log done).before s ∙ lost-dark (went log done).before s lost some)) c
lost-complete rule start from log marks (suc (suc n)) done next speed actions order is lost some within c =
    let s : TraceSecond = lost_second next speed actions in
    let later = order-more from done s next order is refl in
    let one = power-alone rule start from log done s marks later (inl (told-lit log (went log done).before s ∙ lost-dark (went log done).before s lost some)) c in
    let step : (next + 1) % 60 ≡ next % 60 + 1 = omega (arith, within) in
    subst (λ (ss : List TraceSecond). IsComplete rule start log (went log ss).told marks) (append_assoc done (s ∷ []) (driven (suc n) (next + 1) speed []))
    (lost-complete rule start from log marks (suc n) (done ++ s ∷ []) (next + 1) speed [] later (number-more from done s next is)
    (subst (λ (w : Went). IsLost w.before) (sym (lost-one log done s lost some refl)) lost) (omega (arith, step)) (omega (arith, step, within)) one)

pub dark-complete : ADarkMinuteStaysComplete
dark-complete rule start from first done p g is n speed actions refused some within marks c =
    let f = with-supply rule start from first done p Lost is g in
    let later : RunLog = record p.log { refused = refused } in
    lost-complete rule start from later marks n done p.next speed actions f.order f.next (subst (λ (w : Went). IsLost w.before) (sym (went-refused p.log later refl refl done)) f.power) some within
    (refused-stays rule start p.log refused done marks c)

pub off-complete : OffSecondsStayComplete
off-complete rule start from log done zero next marks order is c = subst (λ (ss : List TraceSecond). IsComplete rule start log (went log ss).told marks) (sym (append-nil done)) c
off-complete rule start from log done (suc n) next marks order is c =
    let s : TraceSecond = off_second next in
    let later = order-more from done s next order is refl in
    subst (λ (ss : List TraceSecond). IsComplete rule start log (went log ss).told marks) (append_assoc done (s ∷ []) (dark n (next + 1)))
    (off-complete rule start from log (done ++ s ∷ []) n (next + 1) marks later (number-more from done s next is) (power-alone rule start from log done s marks later (inl refl) c))

-- WHO IS PRESENT
pub dark-tell : DarkSecondsTell
dark-tell start told past number next from later slots k h s [] le order raised empty =
    let next_ : s.number ≡ next + 0 = omega (arith, order.0) in
    subst (λ (m : ℕ). SlotsTell start (told ++ dark_told s slots ∷ []) past [] m later slots k) next_
    (second-gone start told past later (dark_told s slots) k (time-passes start told past number s.number from later slots k h (omega (arith, le, next_)) raised (omega (arith, empty, next_))))
dark-tell start told past number next from later slots k h s (x ∷ ss) le order raised empty =
    let is : s.number ≡ next = order.0 in
    let one = second-gone start told past later (dark_told s slots) k (time-passes start told past number s.number from later slots k h (omega (arith, le, is)) raised (omega (arith, empty, is))) in
    let rest = dark-tell start (told ++ dark_told s slots ∷ []) past s.number (next + 1) later later slots k one x ss (omega (arith, is)) order.1 (omega arith) (omega (arith, empty)) in
    let next_ : next + 1 + length ss ≡ next + suc (length ss) = omega arith in
    subst (λ (m : ℕ). SlotsTell start (told ++ all_dark (s ∷ x ∷ ss) slots) past [] m later slots k) next_
    (subst (λ (ts : List ToldSecond). SlotsTell start ts past [] (next + 1 + length ss) later slots k) (append_assoc told (dark_told s slots ∷ []) (all_dark (x ∷ ss) slots)) rest)
