-- What a card that enters leaves of the devices, whatever becomes of it.
use Rattle.std.proofs.Common.{◌≡◌, ◌⊎◌, inl, inr, ⊎_elim, ℕ, ◌+◌, ◌/◌, ◌≤◌, ◌<◌, Bool, true, false, Some, None, is_some, List, [], refl, ap, sym, subst, ◌∙◌, arith}
use Rattle.std.specs.Prelude.{nat_le}
use Rattle.std.proofs.lemmas.Bool.Decides.{nat_tests}
use Rattle.trace_model.specs.declared.Card.{Card}
use Rattle.trace_model.specs.declared.Card.TheVariants.{A, B}
use Rattle.trace_model.specs.Trace.{TraceSecond}
use Rattle.tach_media.specs.Medium.{State, LeavesOnly, Rose, HasBroken, last_count}
use Rattle.tach_media.proofs.Runs.{at_image}
use Rattle.log_model.specs.run_model.declared.Device.TheVariants.{Unit as Recorder}
use Rattle.minute_rules.specs.Kept.{Kept}
use Rattle.hand_model.specs.card_image.Own.{IsOwnValid}
use Rattle.device_calls.specs.Times.{AreTimedSince}
use Rattle.log_model.specs.Log.{In}
use Rattle.log_model.specs.Causes.{RoseBy}
use Rattle.log_model.specs.Course.{Visit}
use Rattle.device_calls.specs.device_rule.Rules.{Out}
use Rattle.device_calls.specs.device_rule.Views.{other}
use Rattle.device_calls.specs.run_unit_course.Legs.{all_travelled}
use Rattle.unit_model.specs.Image.{last_kept, odometer_at}
use Rattle.device_calls.specs.unit_rule.Odometer.{HasTravelled}
use Rattle.device_calls.specs.unit_rule.Rule.{once_mended}
use Rattle.device_calls.specs.safety_model.Safe.{card_of, breakdowns_of}
use Rattle.run_minutes.specs.run_promise.Found.{found_of}
use Rattle.run_minutes.specs.run_promise.Cards.{IsUntouched}
use Rattle.run_minutes.specs.run_promise.Between.{RunLedger}
use Rattle.run_events.specs.run_course.Seconds.{kept_all}
use Rattle.run_events.specs.run_course.Telling.{IsMore, BrokeDown}
use Rattle.run_minutes.specs.run_devices.Told.{arranged, for_card, with_standing}
use Rattle.run_minutes.proofs.run_devices.Parts.{told-one, AreParts, parts-of}
use Rattle.run_minutes.proofs.run_devices.Accounted.{last-early}
use Rattle.run_outcome.specs.declared.outcome.Outcome.{Outcome}
use Rattle.run_minutes.specs.run_promise.Origin.{Origin}
use Rattle.run_minutes.specs.run_promise.Beside.{HaveLeftMore}
use Rattle.run_minutes.specs.declared.keeper.Keeper.{Keeper}
use Rattle.run_minutes.specs.declared.keeper.Moment.{Moment as KeepingAt}
use Rattle.run_insertion.specs.declared.lines.Entering.{Entering}
use Rattle.run_insertion.specs.Entering.{Ending, Unfit, Ahead, Fell, Unasked, Unnoted, Seated, Lost, Way, ending_of, breaks_by, falls_of}
use Rattle.run_insertion.specs.Noted.{AreComingOnCard}
use Rattle.run_insertion.specs.Told.{MayEnter, IsEnteredOn, MayHaveWritten}
use Rattle.run_record.specs.Recorded.{carried, AreThere}
use Rattle.run_record.specs.Within.{RecordInSecond}
use Rattle.run_acts.specs.Entered.{values_with, MayJudge, HasGone, AreSound}
use Rattle.run_acts.proofs.EnteredTravelled.{travelled-entered}
use Rattle.run_minutes.specs.Later.{failed_tears}
use Rattle.run_minutes.proofs.Calm.{none-told}
use Rattle.run_acts.proofs.Rising.{card-more, card-fell}

-- ---- three devices, by the card that a call is about

pub mine : (c : Card) (U X Z : State) (P : State → Type 0) → P (card_of (arranged c U X Z) c) → P X
mine A U X Z P p = p
mine B U X Z P p = p

pub mine-back : (c : Card) (U X Z : State) (P : State → Type 0) → P X → P (card_of (arranged c U X Z) c)
mine-back A U X Z P p = p
mine-back B U X Z P p = p

pub unit-one : (c : Card) (U X Z : State) (P : State → Type 0) → P (arranged c U X Z).unit → P U
unit-one A U X Z P p = p
unit-one B U X Z P p = p

pub unit-back : (c : Card) (U X Z : State) (P : State → Type 0) → P U → P (arranged c U X Z).unit
unit-back A U X Z P p = p
unit-back B U X Z P p = p

pub units : (c : Card) (U V X Y Z : State) (P : State → State → Type 0) → P U V → P (arranged c U X Z).unit (arranged c V Y Z).unit
units A U V X Y Z P p = p
units B U V X Y Z P p = p

pub each : (c : Card) (U V X Y Z : State) (P : Card → State → State → Type 0) → P c X Y → P (other c) Z Z → (x : Card) → P x (card_of (arranged c U X Z) x) (card_of (arranged c V Y Z) x)
each A U V X Y Z P own others A = own
each A U V X Y Z P own others B = others
each B U V X Y Z P own others A = others
each B U V X Y Z P own others B = own

pub for-own : {T : Type 0} (c : Card) (t : T) (had : Card → T) → for_card c t had c ≡ t
for-own A t had = refl
for-own B t had = refl

pub for-other : {T : Type 0} (c x : Card) (t : T) (had : Card → T) → (x ≡ c → ⊥) → for_card c t had x ≡ had x
for-other A A t had apart = absurd (apart refl)
for-other A B t had apart = refl
for-other B A t had apart = refl
for-other B B t had apart = absurd (apart refl)

-- ---- breakdowns

rose-from : (low a b : ℕ) → low ≤ a → Rose a b → RoseBy 1 low b
rose-from low a b le h = by (nat_le (a + 1) last_count) refl
  where
    by : (t : Bool) → nat_le (a + 1) last_count ≡ t → RoseBy 1 low b
    by true is = let few : a + 1 ≤ last_count = grind (arith, nat_tests) in inl (omega (arith, few, h, le))
    by false is = let many : last_count < a + 1 = grind (arith, nat_tests) in inr (omega (arith, many, h))

broken-by : (X Y : State) → HasBroken X Y 1 → RoseBy 1 X.breakdowns Y.breakdowns
broken-by X Y h = rose-from X.breakdowns X.breakdowns Y.breakdowns (omega arith) h.breakdowns

-- which endings tell no tear
untorn : (ending : Ending) (e : Entering) → falls_of ending ≡ 0 → failed_tears (breaks_by ending e) ≡ 0
untorn (Unfit fid place) e none = refl
untorn (Ahead stored) e none = refl
untorn Fell e none = absurd (let one : 1 ≡ 0 = none in omega (arith, one))
untorn Unasked e none = refl
untorn (Unnoted entered clock) e none = refl
untorn (Seated entered clock entry) e none = refl
untorn (Lost entered clock entry) e none = absurd (let one : 1 ≡ 0 = none in omega (arith, one))

-- ---- the call

module _ (o : Origin) (done : List TraceSecond) (s : TraceSecond) (n : ℕ) (waits fewer : List Visit) (e : Entering) (k : Keeper) (out : Outcome) (unfound next_ begun : ℕ) (minutes : Kept) (U X Z : State) (w : RecordInSecond o done s (In n) waits None [] (values_with k out unfound next_ begun minutes) (arranged e.which U X Z)) (m : MayJudge o done s n waits fewer e k out unfound next_ begun minutes U X Z w) where
  abbrev pub before : RunLedger
  before = carried (values_with k out unfound next_ begun minutes) w.due (kept_all w.new w.b.run.book) w.standing w.brought w.hands w.firsts

  pub was : AreParts o.found (carried (values_with k out unfound next_ begun minutes) w.due (kept_all w.new w.b.run.book) w.standing w.brought w.hands w.firsts) k.cabin.cards e.which U X Z
  was = parts-of o.found before k.cabin.cards e.which U X Z w.powered

  pub unit-began : o.found.unit.began ≤ U.clock
  unit-began = (was.unit.unit.unit_holds [] []).later

  pub card-tells : is_some X.image ≡ true
  card-tells = mine e.which U X Z (λ (a : State). is_some a.image ≡ true) (w.there.cards e.which)

  pub card-began : (found_of o.found e.which).began ≤ X.clock
  card-began = mine e.which U X Z (λ (a : State). (found_of o.found e.which).began ≤ a.clock) (w.there.clocks e.which)

  pub now-is : e.at.second ≡ s.number
  now-is = ap (λ (a : KeepingAt). a.second) m.moment

  pub unit-told : (u : List ℕ) × (U.image ≡ Some u)
  unit-told = told-one U.image was.unit.tells

  may-enter : MayEnter o.found (carried (values_with k out unfound next_ begun minutes) w.due (kept_all w.new w.b.run.book) w.standing w.brought w.hands w.firsts) k.cabin.cards e U X Z
  may-enter = record {
    found = w.found;
    powered = w.powered;
    late = let late = w.late in let here = m.next_.is_now in let now = now-is in omega (arith, late, here, now);
    tells = card-tells;
    began = card-began;
    spared = ⊎_elim
        (λ whole. inl (mine e.which U X Z (λ (a : State). IsUntouched (found_of o.found e.which) a) whole))
        (λ may. inr (subst IsOwnValid (sym (m.origin.image e.which)) may.valid))
        (w.spared e.which);
  }

  module _ (failed : Bool) (k' : Keeper) (noted noted' : ℕ) (out' : Outcome) (W Y : State) (way : Way) (g : HasGone e failed k k' noted noted' out out' U W X Y Z way) (sound : AreSound U W X Y) where
    pub known : IsEnteredOn (ending_of way) e failed k k' U W X Y Z o.found (with_standing e.which Out (carried (values_with k out unfound next_ begun minutes) w.due (kept_all w.new w.b.run.book) w.standing w.brought w.hands w.firsts))
    known = g.books o.found before may-enter m.vehicle sound.time

    pub card-run : (u : List ℕ) × LeavesOnly X Y (λ x c. (y : List ℕ) × X.may_leave y × AreComingOnCard way k.memory.registration e u y c)
    card-run = (unit-told.0, at_image (λ (u : List ℕ). LeavesOnly X Y (λ x c. (y : List ℕ) × X.may_leave y × AreComingOnCard way k.memory.registration e u y c)) unit-told.1 g.entered.moments)

    -- by an image of the unit that has kept no minute which has not ended
    pub early-run : (u : List ℕ) × (last_kept u < e.at.second / 60) × LeavesOnly X Y (λ x c. (y : List ℕ) × X.may_leave y × AreComingOnCard way k.memory.registration e u y c)
    early-run =
        let kept : last_kept unit-told.0 < w.due = last-early (once_mended o.found.unit) before.due before.book before.marks U was.unit.unit unit-told.0 (sound.unit_before.is_left unit-told.0 unit-told.1) in
        let late : w.due ≤ e.at.second / 60 = may-enter.late in
        (unit-told.0, omega (arith, kept, late), at_image (λ (u : List ℕ). LeavesOnly X Y (λ x c. (y : List ℕ) × X.may_leave y × AreComingOnCard way k.memory.registration e u y c)) unit-told.1 g.entered.moments)

    pub left : HaveLeftMore o (arranged e.which U X Z) (arranged e.which W Y Z)
    left = record {
      unit = units e.which U W X Y Z (λ (a b : State). (x : List ℕ) → a.left_since o.found.unit.began x → b.left_since o.found.unit.began x) (λ x had. g.entered.notes.moments.keeps o.found.unit.began x unit-began had);
      card = each e.which U W X Y Z (λ (c : Card) (a b : State). (x : List ℕ) → a.left_since (found_of o.found c).began x → b.left_since (found_of o.found c).began x)
          (λ x had. card-run.1.keeps (found_of o.found e.which).began x card-began had) (λ x had. had);
    }

    pub there : AreThere o.found (arranged e.which U X Z) → AreThere o.found (arranged e.which W Y Z)
    there t = record {
      unit = units e.which U W X Y Z (λ (a b : State). is_some a.image ≡ true → is_some b.image ≡ true) (λ tells. g.entered.notes.moments.tells ∙ tells) t.unit;
      cards = λ c. each e.which U W X Y Z (λ (c : Card) (a b : State). is_some a.image ≡ true → is_some b.image ≡ true) (λ tells. card-run.1.tells ∙ tells) (λ tells. tells) c (t.cards c);
      clocks = λ c. each e.which U W X Y Z (λ (c : Card) (a b : State). (found_of o.found c).began ≤ a.clock → (found_of o.found c).began ≤ b.clock) (λ le. let later = card-run.1.later in omega (arith, le, later)) (λ le. le) c (t.clocks c);
      timed = λ c valid. each e.which U W X Y Z
          (λ (c : Card) (a b : State). IsOwnValid (found_of o.found c).image → AreTimedSince (found_of o.found c).image (found_of o.found c).began a → AreTimedSince (found_of o.found c).image (found_of o.found c).began b)
          (λ valid timed. known.timed valid timed) (λ valid timed. timed) c valid (t.timed c valid);
    }

    rests : falls_of (ending_of way) ≡ 0 → Y.breakdowns ≡ X.breakdowns
    rests none = g.calm.calm (none-told out.breaks.items out'.breaks.items (breaks_by (ending_of way) e) (ap (λ (p : Outcome). p.breaks.items) g.entered.left.outcome) (untorn (ending_of way) e none))

    pub breakdowns : falls_of (ending_of way) ≡ 0 → IsMore (breakdowns_of (arranged e.which U X Z)) (breakdowns_of (arranged e.which W Y Z))
    breakdowns none = card-more e.which U W X Y Z g.cause.breakdowns (rests none)

    pub broke-once : HasBroken X Y 1 → BrokeDown e.which (breakdowns_of (arranged e.which U X Z)) (breakdowns_of (arranged e.which W Y Z))
    broke-once broken = card-fell e.which U W X Y Z g.cause.breakdowns (broken-by X Y broken)

    -- the unit has failed
    pub unit-broke : failed ≡ true → RoseBy 1 (w.b.broken Recorder) (breakdowns_of (arranged e.which W Y Z) Recorder)
    unit-broke fails =
        let low : w.b.broken Recorder ≤ U.breakdowns = unit-one e.which U X Z (λ (a : State). w.b.broken Recorder ≤ a.breakdowns) w.moment.unit in
        units e.which U W X Y Z (λ (a b : State). RoseBy 1 (w.b.broken Recorder) b.breakdowns) (rose-from (w.b.broken Recorder) U.breakdowns W.breakdowns low (g.cause.breaks m.ready.works fails))

    pub travels : HasTravelled (odometer_at o.recording.unit) (kept_all w.new w.b.run.book) (all_travelled w.ds w.b.travel) (arranged e.which W Y Z).unit
    travels = units e.which U W X Y Z (λ (a b : State). HasTravelled (odometer_at o.recording.unit) (kept_all w.new w.b.run.book) (all_travelled w.ds w.b.travel) a → HasTravelled (odometer_at o.recording.unit) (kept_all w.new w.b.run.book) (all_travelled w.ds w.b.travel) b)
        (λ had. travelled-entered (odometer_at o.recording.unit) (kept_all w.new w.b.run.book) (all_travelled w.ds w.b.travel) had sound.unit_before _ g.entered.notes.moments) w.travels

    -- no card was written but this one, and it where it was valid
    pub untouched : (x : Card) → IsUntouched (found_of o.found x) (card_of (arranged e.which U X Z) x) → IsUntouched (found_of o.found x) (card_of (arranged e.which W Y Z) x) ⊎ ((x ≡ e.which) × IsOwnValid (found_of o.found x).image × MayHaveWritten (ending_of way))
    untouched = each e.which U W X Y Z (λ (c : Card) (a b : State). IsUntouched (found_of o.found c) a → IsUntouched (found_of o.found c) b ⊎ ((c ≡ e.which) × IsOwnValid (found_of o.found c).image × MayHaveWritten (ending_of way)))
        (λ same. ⊎_elim (λ still. inl still) (λ written. inr (refl, written.0, written.1)) (known.untouched same)) (λ same. inl same)
