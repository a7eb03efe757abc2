-- Power comes with a second: what each call of that leaves of the events of the cards.
use Rattle.std.proofs.Common.{◌≡◌, ◌∙◌, ℕ, ◌<◌, Bool, true, false, not, Option, Some, None, List, [], ◌∷◌, ◌++◌, take, refl, ap, sym, subst}
use Rattle.std.specs.List.{AllByRecursion}
use Rattle.activity_codec.specs.declared.values.Slot.{Slot}
use Rattle.activity_codec.specs.declared.values.Slot.TheVariants.{Driver, CoDriver}
use Rattle.trace_model.specs.declared.Card.{Card}
use Rattle.trace_model.specs.declared.Card.TheVariants.{A, B}
use Rattle.trace_model.specs.Trace.{TraceSecond}
use Rattle.tach_media.specs.Medium.{State}
use Rattle.minute_rules.specs.minute_model.declared.Minute.{Minute}
use Rattle.device_calls.specs.event_model.Events.{Seen, seen_of, seen_spans}
use Rattle.log_model.specs.declared.lines.Break.{Break}
use Rattle.log_model.specs.Causes.{second_of}
use Rattle.log_model.specs.Log.{RunLog, Phase, In, cut_in, is_torn_in, found_in}
use Rattle.log_model.specs.Same.{SameAt}
use Rattle.log_model.specs.Spans.{AreInOrder}
use Rattle.log_model.specs.Slots.{in_slot}
use Rattle.log_model.specs.Course.{Visit, has_power, fresh, unmoved, went}
use Rattle.run_minutes.specs.card_slots.Calls.{card_in}
use Rattle.device_calls.specs.run_unit_course.Lines.{cut_at}
use Rattle.device_calls.specs.safety_model.Safe.{Devices}
use Rattle.run_acts.specs.run_course.Followed.{Progress, BookFollowsRun, Comes}
use Rattle.run_acts.specs.run_course.Seconds.{GoesOnBy}
use Rattle.run_acts.proofs.run_course.Logs.{all-before, found_log, same-found, kept-found}
use Rattle.run_acts.specs.run_events.Gaps.{AreKnownGaps}
use Rattle.run_acts.proofs.run_events.Later.{seen-same}
use Rattle.run_acts.specs.run_note_record.Uses.{notes_in, notes_now, uses_in}
use Rattle.run_acts.proofs.run_note_record.Lines.{early-before}
use Rattle.run_acts.proofs.run_note_record.Noted.{notes-alike}
use Rattle.run_acts.proofs.AllStay.{stood-unit, known-still, known-found}
use Rattle.run_acts.proofs.CardUses.{cut-still}
use Rattle.run_outcome.specs.declared.outcome.Outcome.{Outcome}
use Rattle.run_minutes.specs.declared.keeper.Moment.{Moment}
use Rattle.run_minutes.specs.Books.{HaveTime}
use Rattle.run_minutes.specs.run_promise.Origin.{Origin, rule_of, start_at, first_of}
use Rattle.run_minutes.specs.run_promise.Between.{devices}
use Rattle.run_acts.proofs.run_note_record.SoFar.{failed-more, left-itself}
use Rattle.run_acts.proofs.run_note_record.RingsWaking.{still-failed}
use Rattle.run_acts.specs.run_record.Recorded.{Values}
use Rattle.run_acts.specs.run_record.Within.{Beginning, RecordInSecond}
use Rattle.run_acts.specs.run_record.Waking.{both_slots}
use Rattle.run_acts.specs.declared.run.Run.{Run}
use Rattle.run_acts.specs.Recording.{log_of, values_of}
use Rattle.run_acts.specs.RunRinged.{with_cut}
use Rattle.run_acts.specs.OnCards.{met_behind}
use Rattle.run_acts.specs.RunCards.{vehicle_in, CardShown, CardsBehind, CardsWaking}
use Rattle.run_acts.proofs.CardShown.{card-told}
use Rattle.run_acts.proofs.CardGaps.{gaps-found}
use Rattle.run_acts.proofs.CardEnds.{IsLater, waking-begins}
use Rattle.run_acts.proofs.CardStays.{shows-self}
use Rattle.run_acts.proofs.CardWaking.{found-same, waking-passed}
use Rattle.run_acts.proofs.RingedSecond.{cut-is, cut-torn, cut-found, cut-failed, power-here}
use Rattle.recorder_with_cards.specs.Accepting.{IsBare, IsAnew}
use Rattle.recorder_with_cards.specs.Judged.{moment_in, RunNext, JudgesAnew}
use Rattle.recorder_with_cards.specs.JudgedRings.{TellsHere}
use Rattle.recorder_with_cards.specs.JudgedCards.{IsJudgedOnCards, CardsJudged, CardsAnew}
use Rattle.recorder_with_cards.proofs.Resumed.{RunWaking, waiting_in, driver-next, codriver-next, codriver-began}
use Rattle.recorder_with_cards.proofs.RingsHere.{here-then, here-cut, goes-by, goes-behind}
use Rattle.recorder_with_cards.proofs.WokenRinged.{IsCutAtOnce, cut-at_once, SatThere, sat-both, whole-there, in-both, driver-first}
use Rattle.recorder_with_cards.proofs.WokenCards.{slot-cards, slot-cut, cut-waking}

-- ---- calls of the unit leave the cards
pub unit-alone : (o : Origin) (done : List TraceSecond) (log : RunLog) (U W X Y : State) → CardsBehind o done log (devices U X Y) → CardsBehind o done log (devices W X Y)
unit-alone o done log U W X Y h A valid = let one = h A valid in record { uses = one.uses; are = one.are; exact = λ whose in_ known. one.exact whose in_ (known-still whose o log (devices U X Y) (devices W X Y) (stood-unit o U W X Y) known); shows = one.shows }
unit-alone o done log U W X Y h B valid = let one = h B valid in record { uses = one.uses; are = one.are; exact = λ whose in_ known. one.exact whose in_ (known-still whose o log (devices U X Y) (devices W X Y) (stood-unit o U W X Y) known); shows = one.shows }

-- ---- WHAT WAS KEPT is found, and changes no event but those that are not sure, of which none was noted
pub learned-cards : (o : Origin) (done : List TraceSecond) (log : RunLog) (i k : ℕ) (d : Devices) → AreInOrder o.from done → AreKnownGaps log (take i log.breaks) (seen_spans (seen_of log done)) → CardsBehind o done log d → CardsBehind o done (found_log i k log) d
learned-cards o done log i k d order known h c valid =
    let later : RunLog = found_log i k log in
    let alike = all-before (λ (u : ℕ). SameAt log later u) o.from done order (λ u lt. same-found log i k u) in
    subst (λ (xs : List Seen). CardShown o c later (met_behind later [] xs) (uses_in o c (notes_in later done)) d) (sym (seen-same log later done alike))
    (card-told o c log later (seen_of log done) (uses_in o c (notes_in log done)) (uses_in o c (notes_in later done)) d (h c valid)
    (λ whose in_ known. (known-found whose o i k log d known, ap (uses_in o c) (notes-alike log later done alike))) (still-failed log i k)
    (gaps-found c (vehicle_in o) log later (take i log.breaks) done known (λ u told. sym (kept-found log i k u told)) (still-failed log i k)))

-- ---- lines that a second told
pub waking-later : (o : Origin) (done : List TraceSecond) (s : TraceSecond) (at : Phase) (waits : List Visit) (speed : Option ℕ) (rest : List Minute) (v : Values) (d : Devices) (w : RecordInSecond o done s at waits speed rest v d) (later : RunLog) → TellsHere v.log later s.number → 0 < s.number →
    IsLater w.b.run.log later done s.number
waking-later o done s at waits speed rest v d w later h some =
    let g : GoesOnBy w.b.run later s = goes-by o done s at waits speed rest v d w later h in
    record {
      behind = goes-behind o done s at waits speed rest v d w later h;
      more = g.breaks.0;
      breaks = g.breaks.1;
      here = subst (λ (u : ℕ). AllByRecursion (λ (b : Break). second_of b ≡ u) g.breaks.0) (sym g.number) g.breaks.2;
      early = early-before o done w.b.run w.began.followed s later g;
      some = some;
    }

-- ---- THE UNIT FAILED before a span began: power comes with a second, and is cut at once
module _ (o : Origin) (done : List TraceSecond) (s : TraceSecond) (p : Progress) (f : BookFollowsRun (rule_of o) (start_at o) o.from (first_of o) done p) (comes : Comes (went p.log done).before p.next) (number : s.number ≡ p.next) (given : s.has_power ≡ true) (some : 0 < s.number)
    (d : Devices) (h : CardsBehind o done p.log d) where
  abbrev cut : RunLog
  cut = with_cut p.log s []

  at_once : IsCutAtOnce done s p
  at_once = cut-at_once o done s p f comes number given

  later : IsLater p.log (with_cut p.log s []) done s.number
  later = record { behind = at_once.behind; more = cut_at s.number true 0 ∷ []; breaks = refl; here = (refl, tt); early = early-before o done p f s (with_cut p.log s []) at_once.goes; some = some }

  waking : CardsWaking o done s p.log (with_cut p.log s []) d
  waking =
      waking-passed o done s p.log p.log (with_cut p.log s []) d d comes.running (λ slot is. cut-torn p.log s.number 0 at_once.none.cut (In 0) slot ∙ is) (failed-more p.log (with_cut p.log s []) (cut_at s.number true 0 ∷ [], refl)) (left-itself o d)
      (waking-begins o done s p.log d h comes.running (λ slot. at_once.none.found (In 0) slot) at_once.power (λ k slot lt. at_once.none.found (In k) slot))
      (found-same p.log (with_cut p.log s []) (went p.log done).before s comes.running (λ slot is. cut-torn p.log s.number 0 at_once.none.cut (In 0) slot ∙ is) (λ slot. cut-found p.log s.number 0 at_once.none.cut (In 0) slot)) (λ c. cut-still o c p.log p.log s.number 0 d d (uses_in o c (notes_now p.log done p.log s)) (uses_in o c (notes_now p.log done (with_cut p.log s []) s))) (shows-self o d)

  pub unpowered-cards : CardsBehind o (done ++ s ∷ []) (with_cut p.log s []) d
  unpowered-cards = cut-waking o done s p.log (with_cut p.log s []) d later at_once.power comes.running (cut-is p.log s.number 0 at_once.none.cut) (cut-failed p.log s.number 0 at_once.none.cut) waking

-- ---- A SPAN BEGINS, and no card was looked at yet
pub wakes-cards : (o : Origin) (done : List TraceSecond) (s : TraceSecond) (b : Beginning) (waits : List Visit) (run : Run) (out : Outcome) (d : Devices) → RunWaking o done s b waits both_slots run out d → log_of out ≡ b.run.log → CardsBehind o done (log_of out) d →
    CardsWaking o done s b.run.log (log_of out) d
wakes-cards o done s b waits run out d waking log h =
    let off : (went (log_of out) done).before.running ≡ false = ap (λ (l : RunLog). (went l done).before.running) log ∙ waking.waking.starts in
    let lit : has_power (went (log_of out) done).before s ≡ true =
    ap (λ (l : RunLog). has_power (went l done).before s) log ∙ ap (λ (x : Beginning). has_power (went x.run.log done).before s) (sym waking.waking.began)
    ∙ power-here o done s (In 0) waits None [] (values_of run out) d waking.waking.within in
    subst (λ (l : RunLog). CardsWaking o done s l (log_of out) d) log
    (waking-begins o done s (log_of out) d h off (λ slot. waking.waking.none slot (in-both slot)) lit (λ k slot lt. waking.waking.within.moment.up_to.found (In k) slot lt))

-- ---- THE CARD OF A SLOT IS JUDGED: its events go on; or the unit failed in that, and they are as the cut leaves them that is told next
abbrev pub WakesOn : (failed : Bool) → Origin → List TraceSecond → TraceSecond → (began log : RunLog) → Devices → Type 0
WakesOn false o done s began log d = CardsWaking o done s began log d
WakesOn true o done s began log d = CardsBehind o (done ++ s ∷ []) (with_cut log s []) d

module _ (o : Origin) (done : List TraceSecond) (s : TraceSecond) (waits fewer : List Visit) (slot : Slot) (card : Card) (old : Run) (before after : Outcome) (d e : Devices) (next : RunNext o done s 0 waits fewer old before d slot card)
    (off : (went next.goes.within.b.run.log done).before.running ≡ false) (first : slot ≡ Driver → found_in (log_of before) s.number (In 0) CoDriver ≡ []) (some : 0 < s.number) (cards : CardsWaking o done s next.goes.within.b.run.log (log_of before) d)
    (failed : Bool) (j : IsJudgedOnCards failed o next.goes.within.b.run.log done s 0 slot card before after d e) where
  abbrev began : RunLog
  began = next.goes.within.b.run.log

  sat : SatThere (record { card = card; accepted = None }) (in_slot (went next.goes.within.b.run.log done).before.slots slot)
  sat = sat-both (log_of before) s.number (In 0) (unmoved (not (went next.goes.within.b.run.log done).before.running)) slot (fresh (not (went next.goes.within.b.run.log done).before.running) (went next.goes.within.b.run.log done).before.slots) (record { card = card; accepted = None }) next.next.sits_

  whole : is_torn_in (log_of before) s.number (In 0) slot ≡ false
  whole = whole-there (log_of before) s.number (In 0) (unmoved (not (went next.goes.within.b.run.log done).before.running)) slot (fresh (not (went next.goes.within.b.run.log done).before.running) (went next.goes.within.b.run.log done).before.slots) (record { card = card; accepted = None }) next.next.sits_

  uncut : cut_in (log_of after) s.number ≡ None
  uncut = j.cut ∙ next.goes.within.moment.up_to.uncut

  power_ : has_power (went next.goes.within.b.run.log done).before s ≡ true
  power_ = power-here o done s (In 0) waits None [] (values_of old before) d next.goes.within

  lines : IsLater next.goes.within.b.run.log (with_cut (log_of after) s []) done s.number
  lines = waking-later o done s (In 0) waits None [] (values_of old before) d next.goes.within (with_cut (log_of after) s []) (here-then (log_of before) (log_of after) (with_cut (log_of after) s []) s.number j.here (here-cut (log_of after) s [])) some

  slot-by : (b : Bool) → failed ≡ b → WakesOn b o done s next.goes.within.b.run.log (log_of after) e
  slot-by false well = slot-cards o done s slot card before after d e next.goes.within.b.run.log off sat.0 sat.1 sat.2 next.none whole first next.goes.within.moment.up_to.uncut cards failed j well
  slot-by true fails =
      cut-waking o done s next.goes.within.b.run.log (with_cut (log_of after) s []) e lines power_ off (cut-is (log_of after) s.number 0 uncut) (cut-failed (log_of after) s.number 0 uncut)
      (slot-cut o done s slot card before after d e next.goes.within.b.run.log off sat.0 sat.1 sat.2 next.none whole first next.goes.within.moment.up_to.uncut cards failed j)

-- by the call
card-woken : (o : Origin) (done : List TraceSecond) (s : TraceSecond) (b : Beginning) (waits fewer : List Visit) (slot : Slot) (card : Card) (old : Run) (before after : Outcome) (d e : Devices) (next : RunNext o done s 0 waits fewer old before d slot card) → next.goes.within.b ≡ b → (went b.run.log done).before.running ≡ false →
    (slot ≡ Driver → found_in (log_of before) s.number (In 0) CoDriver ≡ []) → 0 < s.number → old.keeper.memory.registration ≡ vehicle_in o → CardsWaking o done s b.run.log (log_of before) d → (at : Moment) → at ≡ moment_in s 0 → (speed : ℕ) → s.speed ≡ speed → (failed : Bool) →
    CardsJudged slot card at speed failed old before after d e → HaveTime e → WakesOn failed o done s b.run.log (log_of after) e
card-woken o done s b waits fewer slot card old before after d e next is off first some vehicle cards at at_is speed speed_is failed judges time =
    subst (λ (y : Beginning). WakesOn failed o done s y.run.log (log_of after) e) is
    (slot-by o done s waits fewer slot card old before after d e next (subst (λ (y : Beginning). (went y.run.log done).before.running ≡ false) (sym is) off) first some (subst (λ (y : Beginning). CardsWaking o done s y.run.log (log_of before) d) (sym is) cards)
    failed (judges o done s 0 waits fewer at_is speed_is next vehicle time) failed refl)

-- nobody sits there
bare-woken : (o : Origin) (done : List TraceSecond) (s : TraceSecond) (b : Beginning) (before after : Outcome) (d e : Devices) (failed : Bool) → failed ≡ false → after ≡ before → ((P : Devices → Type 0) → P d → P e) → CardsWaking o done s b.run.log (log_of before) d → WakesOn failed o done s b.run.log (log_of after) e
bare-woken o done s b before after d e failed well same still cards =
    subst (λ (f : Bool). WakesOn f o done s b.run.log (log_of after) e) (sym well)
    (still (λ (x : Devices). CardsWaking o done s b.run.log (log_of after) x) (subst (λ (q : Outcome). CardsWaking o done s b.run.log (log_of q) d) (sym same) cards))

-- THE DRIVER SLOT'S CARD
pub driver-woken : (o : Origin) (done : List TraceSecond) (s : TraceSecond) (b : Beginning) (card : Option Card) (rest : List Visit) (old : Run) (before : Outcome) (d : Devices) → RunWaking o done s b (waiting_in Driver card ++ rest) both_slots old before d → AllByRecursion (λ (x : Visit). x.phase ≡ In 0) rest →
    card_in old.keeper.cabin.slots.seats.driver ≡ card → IsBare old.keeper.cabin.slots.seats.driver → 0 < s.number → old.keeper.memory.registration ≡ vehicle_in o → CardsWaking o done s b.run.log (log_of before) d → (at : Moment) → at ≡ moment_in s 0 → (speed : ℕ) → s.speed ≡ speed → (failed : Bool) (new : Run) (after : Outcome) →
    IsAnew card Driver at speed old new before after → (e : Devices) → (card ≡ None → (P : Devices → Type 0) → P d → P e) → HaveTime e → JudgesAnew card Driver at failed old new before after d e → CardsAnew card Driver at speed failed old before after d e → WakesOn failed o done s b.run.log (log_of after) e
driver-woken o done s b None rest old before d w once is bare some vehicle cards at at_is speed speed_is failed new after anew e still time judges shows = bare-woken o done s b before after d e failed judges anew.1 (still refl) cards
driver-woken o done s b (Some card) rest old before d w once is bare some vehicle cards at at_is speed speed_is failed new after anew e still time judges shows =
    let next = driver-next o done s b card rest old before d w once is bare in
    card-woken o done s b (waiting_in Driver (Some card) ++ rest) rest Driver card old before after d e next.0 next.1 w.waking.starts (λ is_driver. w.waking.none CoDriver (in-both CoDriver)) some vehicle cards at at_is speed speed_is failed shows time

-- THE CO-DRIVER SLOT'S CARD
pub codriver-woken : (o : Origin) (done : List TraceSecond) (s : TraceSecond) (b : Beginning) (card : Option Card) (old : Run) (before : Outcome) (d : Devices) → RunWaking o done s b (waiting_in CoDriver card) (CoDriver ∷ []) old before d →
    card_in old.keeper.cabin.slots.seats.codriver ≡ card → IsBare old.keeper.cabin.slots.seats.codriver → 0 < s.number → old.keeper.memory.registration ≡ vehicle_in o → CardsWaking o done s b.run.log (log_of before) d → (at : Moment) → at ≡ moment_in s 0 → (speed : ℕ) → s.speed ≡ speed → (failed : Bool) (new : Run) (after : Outcome) →
    IsAnew card CoDriver at speed old new before after → (e : Devices) → (card ≡ None → (P : Devices → Type 0) → P d → P e) → HaveTime e → JudgesAnew card CoDriver at failed old new before after d e → CardsAnew card CoDriver at speed failed old before after d e → WakesOn failed o done s b.run.log (log_of after) e
codriver-woken o done s b None old before d w is bare some vehicle cards at at_is speed speed_is failed new after anew e still time judges shows = bare-woken o done s b before after d e failed judges anew.1 (still refl) cards
codriver-woken o done s b (Some card) old before d w is bare some vehicle cards at at_is speed speed_is failed new after anew e still time judges shows =
    card-woken o done s b (waiting_in CoDriver (Some card)) [] CoDriver card old before after d e (codriver-next o done s b card old before d w is bare) (codriver-began o done s b card old before d w is bare) w.waking.starts
    (λ is_driver. driver-first is_driver) some vehicle cards at at_is speed speed_is failed shows time
