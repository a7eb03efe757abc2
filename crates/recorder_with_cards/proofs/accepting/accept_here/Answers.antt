use Rattle.std.proofs.lemmas.Grind.{common_steps}
use Rattle.std.proofs.Common.{rules, ◌≡◌, ◌∙◌, ⊎_elim, ℕ, ◌+◌, ◌/◌, ◌^◌, ◌<◌, ◌≤◌, Bool, true, Option, Some, None, IfSome, is_some, List, [], ◌∷◌, ◌++◌, Contains, length, refl, ap, sym, subst, arith, length-append, false}
use Rattle.tach_media.proofs.Runs.{on_ok, ok_gives}
use Rattle.trace_model.specs.declared.Card.{Card}
use Rattle.device_calls.specs.device_rule.Views.{other}
use Rattle.minute_rules.specs.minute_model.Span.{ungiven_of}
use Rattle.run_minutes.specs.card_slots.Calls.{present_in, is_card, seat_in}
use Rattle.run_minutes.specs.card_slots.declared.seats.Ended.{Ended}
use Rattle.run_acts.specs.run_crew.declared.cards.Known.{Known}
use Rattle.run_acts.specs.run_crew.declared.cards.Accepted.{Accepted}
use Rattle.run_acts.specs.run_crew.Cards.{known_of, session_of}
use Rattle.run_minutes.specs.declared.keeper.Keeper.{Keeper}
use Rattle.run_minutes.specs.Keeping.{CardMayBeCalled, HasItsRow, HaveRows}
use Rattle.run_minutes.proofs.Units.{unit-stays}
use Rattle.run_outcome.specs.declared.outcome.Outcome.{Outcome}
use Rattle.run_acts.proofs.run_events.Newest.{knows-left}
use Rattle.run_insertion.specs.Entering.{ending_of, measured, breaks_by, finds_by, Way}
use Rattle.run_acts.specs.Going.{CardAt}
use Rattle.run_acts.proofs.Kept.{owing-sum}
use Rattle.recorder_with_cards.specs.Accepting.{HasEntry, IsAccepted}
use Rattle.recorder_with_cards.proofs.Comes.{Comes, comes-of}
use Rattle.recorder_with_cards.proofs.Goes.{card-or-other, others-session, both-at, other-at, mine-at, both-ready, other-ready, some-gives, entry-more, rows-went, ended-went, few-finds}
use Rattle.std.specs.Prelude.{is_err}
use Rattle.tach_media.specs.Medium.{State}
use Rattle.log_model.specs.Log.{In}
use Rattle.run_acts.specs.Recording.{log_of, values_of}
use Rattle.run_minutes.specs.run_devices.Told.{arranged}
use Rattle.run_acts.specs.Entered.{MayJudge, HasGone, AreSound}
use Rattle.run_acts.proofs.EnteredWhole.{entered-recorded, found-in}
use Rattle.run_acts.specs.declared.run.Run.{Run}
use Rattle.run_minutes.specs.declared.keeper.Moment.{Moment}
use Rattle.recorder_with_cards.proofs.Judged.{mine-time, found-by, judged-by, judged-notes, judged-noting}
use Rattle.recorder_with_cards.proofs.EnteredEvented.{judged-evented}
use Rattle.recorder_with_cards.proofs.NoSession.{seat-answers}
use Rattle.run_insertion.specs.Noted.{notes_by}
use Rattle.recorder_with_cards.proofs.EnteredSpeeds.{entered-leaves}
use Rattle.recorder_with_cards.proofs.EnteredRings.{accept-writes}
use Rattle.recorder_with_cards.proofs.EnteredRinged.{judged-ringed}
use Rattle.run_acts.proofs.EnteredFacts.{known, unit-told, mine-back}
use Rattle.run_minutes.specs.run_promise.Found.{found_of}
use Rattle.recorder_with_cards.proofs.EnteredBefore.{way-tells}
use Rattle.unit_minutes.specs.unit_model.Image.{odometer_at}
use Rattle.run_minutes.specs.run_promise.Origin.{rule_of, Origin}
use Rattle.run_acts.specs.Closings.{notes_within}
use Rattle.run_acts.specs.Truths.{past_of, IsOdometerBefore, truths_within, marked}
use Rattle.run_acts.proofs.WholeLegs.{accepted-now}
use Rattle.run_acts.proofs.LastLine.{entered-now}
use Rattle.run_acts.proofs.TruthsThen.{began-uncut}
use Rattle.run_acts.proofs.KeptSeats.{floor-in}
use Rattle.run_acts.proofs.EnteredStays.{finds-noted, falls-noted, entered-stays}
use Rattle.run_acts.proofs.EnteredLines.{marks-behind}
use Rattle.run_acts.proofs.AllStay.{all-true}
use Rattle.run_acts.proofs.Truths.{grow-self, marked-grow}
use Rattle.run_insertion.proofs.CardBrought.{sits-works}
use Rattle.recorder_with_cards.proofs.EnteredCards.{judged-cards}
use Rattle.device_calls.specs.card_image.Own.{IsOwnValid}
use Rattle.run_acts.proofs.EnteredNewest.{was-valid}
use Rattle.run_acts.proofs.OwedNow.{owed-told}
use Rattle.run_minutes.specs.Books.{HaveTime}
use Rattle.run_outcome.specs.declared.outcome.TheConstants.{MOST_OWED}
use Rattle.recorder_with_cards.specs.Judged.{RunNext, moment_in}
use Rattle.trace_model.specs.Trace.{TraceSecond}
use Rattle.log_model.specs.Course.{Visit}
use Rattle.log_model.specs.Slots.{other_slot}
use Rattle.run_acts.specs.run_speeds.Speeds.{LeavesSpeeds}
use Rattle.recorder_with_cards.proofs.accepting.accept_here.Given.{Over}
use Rattle.recorder_with_cards.proofs.accepting.accept_here.Goals.{After-len-most}
use Rattle.device_calls.specs.card_model.declared.lengths.TheConstants.{DAYS_MOST}
use Rattle.recorder_with_cards.proofs.accepting.accept_here.Goals as goal

-- ---- WHAT THE CALL LEAVES

module _ (g : Over) (c : After-len-most g) where
  abbrev run : Run
  run = c.args.run.now

  abbrev unit0 : State
  unit0 = g.M.Medium.state c.args.unit.now

  abbrev unit1 : State
  unit1 = g.M.Medium.state c.accept-answer.new.unit

  abbrev card0 : State
  card0 = g.C.Chip.state c.args.card.now

  abbrev card1 : State
  card1 = g.C.Chip.state c.accept-answer.new.card

  abbrev beside : State
  beside = g.D.Chip.state c.args.others.now

  abbrev way : Way
  way = c.accept-answer.ensures.entered.0

  comes : Comes c.args.entering.slot c.args.entering.which c.args.entering.at.second run.noted c.accept-answer.new.noted run.keeper.cabin c.accept-answer.new.keeper.cabin (length (breaks_by (ending_of way) c.args.entering))
  comes =
      let w = c.accept-answer.ensures.entered in
      let h = c.requires.acting.going in
      comes-of c.args.entering run.keeper c.accept-answer.new.keeper run.noted c.accept-answer.new.noted c.args.outcome.now c.accept-answer.new.outcome _ _ _ _ _ (ungiven_of h.span) h.cabin c.requires.may.seat (omega arith) w.0 w.1.is w.1.left

  seated : (is_card (seat_in run.keeper.cabin.slots.seats (other_slot c.args.entering.slot)) c.args.entering.which ≡ false) × (session_of run.keeper.cabin.cards c.args.entering.which ≡ None)
  seated = seat-answers (ungiven_of c.requires.acting.going.span) run.keeper.cabin c.args.entering.slot c.args.entering.which c.requires.acting.going.cabin c.requires.may.seat

  gone : HasGone c.args.entering (is_err c.accept-answer.result) run.keeper c.accept-answer.new.keeper run.noted c.accept-answer.new.noted c.args.outcome.now c.accept-answer.new.outcome unit0 unit1 card0 card1 beside way
  gone = record {
    entered = c.accept-answer.ensures.entered.1;
    books = c.accept-answer.ensures.entered.2;
    cause = c.accept-answer.ensures.behind.entered.cause;
    calm = c.accept-answer.ensures.goes.card.calm;
    in_time = c.accept-answer.ensures.in_time;
  }

  sound : HaveTime (arranged c.args.entering.which unit1 card1 beside) → AreSound unit0 unit1 card0 card1
  sound time = record {
    time = mine-time c.args.entering.which unit1 card1 beside time;
    unit_before = g.met.M.Medium.coherent c.args.unit.now;
    unit_behind = g.met.M.Medium.coherent c.accept-answer.new.unit;
    card_before = g.met.C.Chip.coherent c.args.card.now;
    card_behind = g.met.C.Chip.coherent c.accept-answer.new.card;
  }

  second-small : (s : TraceSecond) (n : ℕ) → c.args.entering.at ≡ moment_in s n → s.number < 2 ^ 32
  second-small s n at = let second = c.requires.may.at in let here = ap (λ (m : Moment). m.second) at in let most = c.requires.acting.small in omega (arith, second, here, most)

  -- the card is judged now
  may-judge : length c.args.outcome.now.marks.items + MOST_OWED ≤ c.args.outcome.now.marks.room → (o : Origin) (done : List TraceSecond) (s : TraceSecond) (n : ℕ) (waits fewer : List Visit) → c.args.entering.at ≡ moment_in s n →
      (next : RunNext o done s n waits fewer run c.args.outcome.now (arranged c.args.entering.which unit0 card0 beside) c.args.entering.slot c.args.entering.which) →
      MayJudge o done s n waits fewer c.args.entering run.keeper c.args.outcome.now run.unfound run.next run.begun run.minutes unit0 card0 beside next.goes.within
  may-judge room o done s n waits fewer at next = record {
    origin = found-by o next.goes.origin;
    moment = at;
    last = let second = c.requires.may.at in let most = c.requires.acting.small in omega (arith, second, most);
    next_ = next.next;
    none = next.none;
    order = next.order;
    ready = c.requires.acting.going.ready.unit_ready;
    seat = c.requires.may.seat;
    elsewhere = seated.0;
    bare = seated.1;
    vehicle = next.goes.vehicle ∙ sym (next.goes.origin.vehicle c.args.entering.which);
    room = room;
  }

-- it leaves the blocks of detailed speed
speeds-left : (g : Over) (c : After-len-most g) → LeavesSpeeds (g.M.Medium.state c.args.unit.now) (g.M.Medium.state c.accept-answer.new.unit)
speeds-left g c =
    let w = c.accept-answer.ensures.entered in
    entered-leaves (notes_by (ending_of w.0) c.args.entering c.args.run.now.noted (measured w.0 c.args.entering c.args.run.now.keeper).cabin) (is_err c.accept-answer.result) (g.M.Medium.state c.args.unit.now) (g.M.Medium.state c.accept-answer.new.unit)
    (g.met.M.Medium.coherent c.args.unit.now) w.1.notes

pub returns-clause-behind : goal.returns-clause-behind
returns-clause-behind g c = record {
  held = record {
    held =
        let w = c.accept-answer.ensures.entered in let h = c.requires.acting.going in let held = c.requires.acting.held in
        let e = c.args.entering in
        let old = c.args.run.now.keeper.cabin.cards in let new = c.accept-answer.new.keeper.cabin.cards in
        let k = comes g c in
        let sum = owing-sum c.args.run.now.minutes h.span h.stands in
        let end = h.next in let none = c.requires.may.none in let minute = held.minute in let at = c.requires.may.at in
        let mine = mine-at old (g.C.Chip.card c.args.card.now) (g.D.Chip.card c.args.others.now) (g.C.Chip.state c.args.card.now) (g.D.Chip.state c.args.others.now) e.which held.card_a held.card_b in
        let others = other-at old (g.C.Chip.card c.args.card.now) (g.D.Chip.card c.args.others.now) (g.C.Chip.state c.args.card.now) (g.D.Chip.state c.args.others.now) e.which held.card_a held.card_b in
        let now : CardAt (known_of new e.which) (g.C.Chip.card c.accept-answer.new.card) (g.C.Chip.state c.accept-answer.new.card) =
        record { port = c.accept-answer.ensures.behind.entered.card.port; size = let was = mine.size in let same = c.accept-answer.ensures.behind.entered.size in omega (arith, was, same) } in
        let still : CardAt (known_of new (other e.which)) (g.D.Chip.card c.args.others.now) (g.D.Chip.state c.args.others.now) =
        subst (λ (q : Known). CardAt q (g.D.Chip.card c.args.others.now) (g.D.Chip.state c.args.others.now)) (sym k.others) others in
        let both = both-at new (g.C.Chip.card c.accept-answer.new.card) (g.D.Chip.card c.args.others.now) (g.C.Chip.state c.accept-answer.new.card) (g.D.Chip.state c.args.others.now) e.which now still in
        record {
          is_unit = unit-stays w.1.notes.moments held.is_unit;
          odometer = let same = ap (λ (q : Keeper). q.odometer) w.1.left.keeper in let most = held.odometer in omega (arith, same, most);
          minute = k.minute (c.args.run.now.next / 60) minute (let is = ap (λ (n : ℕ). n / 60) at in omega (arith, is));
          card_a = both.0;
          card_b = both.1;
          stand = (ungiven_of h.span, None, c.accept-answer.ensures.behind.entered.stands (ungiven_of h.span) (let here = ap (λ (n : ℕ). n / 60) at in omega (arith, sum, end, none, here)) h.cabin);
        };
    cause = c.accept-answer.ensures.behind.entered.cause;
  };
  going =
      on_ok c.accept-answer.result (λ well.
      let w = c.accept-answer.ensures.entered in let h = c.requires.acting.going in let held = c.requires.acting.held in
      let e = c.args.entering in
      let U = g.M.Medium.state c.args.unit.now in let V = g.M.Medium.state c.accept-answer.new.unit in
      let old = c.args.run.now.keeper.cabin.cards in let new = c.accept-answer.new.keeper.cabin.cards in
      let k = comes g c in
      let sum = owing-sum c.args.run.now.minutes h.span h.stands in
      let end = h.next in let none = c.requires.may.none in let at = c.requires.may.at in
      let same = others-session e.which old new k.others in
      let rows : (card : Card) → HasItsRow old U card → HasItsRow new V card = λ card had. ok_gives c.accept-answer.result (c.accept-answer.ensures.behind.entered.rows card had) well in
      let others = other-ready old (g.C.Chip.card c.args.card.now) (g.D.Chip.card c.args.others.now) (g.C.Chip.state c.args.card.now) (g.D.Chip.state c.args.others.now) e.which h.ready.card_a h.ready.card_b in
      let still : CardMayBeCalled (known_of new (other e.which)) (g.D.Chip.card c.args.others.now) (g.D.Chip.state c.args.others.now) =
      subst (λ (q : Known). CardMayBeCalled q (g.D.Chip.card c.args.others.now) (g.D.Chip.state c.args.others.now)) (sym k.others) others in
      let both = both-ready new (g.C.Chip.card c.accept-answer.new.card) (g.D.Chip.card c.args.others.now) (g.C.Chip.state c.accept-answer.new.card) (g.D.Chip.state c.args.others.now) e.which c.accept-answer.ensures.behind.entered.card still in
      record {
        ready = record { unit_ready = ok_gives c.accept-answer.result c.accept-answer.ensures.behind.entered.ready well; card_a = both.0; card_b = both.1 };
        span = h.span;
        stands = h.stands;
        next = h.next;
        low = h.low;
        due = h.due;
        later = let is = ap (λ (q : Keeper). q.journal.kept) w.1.left.keeper in let less = h.later in omega (arith, is, less);
        cabin = c.accept-answer.ensures.behind.entered.stands (ungiven_of h.span) (let here = ap (λ (n : ℕ). n / 60) at in omega (arith, sum, end, none, here)) h.cabin;
        ended = ended-went (ungiven_of h.span) (c.args.run.now.next / 60) c.args.run.now.keeper.cabin.slots c.accept-answer.new.keeper.cabin.slots k.past h.ended;
        rows = λ card some.
            ⊎_elim
            (λ is. subst (λ (d : Card). HasItsRow new V d) (sym is)
            (ok_gives c.accept-answer.result (some-gives (session_of new e.which) c.accept-answer.ensures.behind.row (subst (λ (d : Card). is_some (session_of new d) ≡ true) is some)) well))
            (λ is. rows card (h.rows card
            (subst (λ (d : Card). is_some (session_of old d) ≡ true) (sym is) (ap (λ (o : Option Accepted). is_some o) (sym same) ∙ subst (λ (d : Card). is_some (session_of new d) ≡ true) is some)))) (card-or-other e.which card);
        present = λ m le. subst (λ (l : List Ended). IfSome (present_in l m) (HaveRows new V)) (sym k.past) (rows-went old new U V rows (present_in c.args.run.now.keeper.cabin.slots.past m) (h.present m le));
        entries = λ card.
            ⊎_elim (λ is. subst (λ (d : Card). IfSome (session_of new d) (HasEntry c.accept-answer.new.noted)) (sym is) k.entry)
            (λ is. subst (λ (d : Card). IfSome (session_of new d) (HasEntry c.accept-answer.new.noted)) (sym is)
            (subst (λ (o : Option Accepted). IfSome o (HasEntry c.accept-answer.new.noted)) (sym same) (entry-more c.args.run.now.noted c.accept-answer.new.noted (session_of old (other e.which)) k.count (h.entries (other e.which))))) (card-or-other e.which card);
        watches = h.watches;
        limit = h.limit;
        newest = knows-left c.args.run.now.watch.newest (g.M.Medium.state c.args.unit.now) (g.M.Medium.state c.accept-answer.new.unit) (g.met.M.Medium.coherent c.args.unit.now) (g.met.M.Medium.coherent c.accept-answer.new.unit) h.ready.unit_ready.works (speeds-left g c) h.newest;
      });
}

pub returns-clause-takes : goal.returns-clause-takes
returns-clause-takes g c =
    let w = c.accept-answer.ensures.entered in let h = c.requires.acting.going in
    let e = c.args.entering in let o = c.args.outcome.now in
    let k = comes g c in
    let is = w.1.left.outcome in
    let few = c.accept-answer.ensures.marks.1 in
    let falls = k.falls in
    let breaks = ap (λ (p : Outcome). length p.breaks.items) is ∙ length-append o.breaks.items (breaks_by (ending_of w.0) e) in
    let finds = ap (λ (p : Outcome). length p.finds.items) is ∙ length-append o.finds.items (finds_by (ending_of w.0) e) in
    let one = few-finds (ending_of w.0) e in
    record {
      rooms = (c.accept-answer.ensures.marks.0, ap (λ (p : Outcome). p.breaks.room) is, ap (λ (p : Outcome). p.finds.room) is, ap (λ (p : Outcome). p.refused.room) is);
      marks = omega (arith, few);
      breaks = omega (arith, falls, breaks);
      finds = omega (arith, finds, one);
      refused = let same = ap (λ (p : Outcome). length p.refused.items) is in omega (arith, same);
    }

-- ---- the rings

-- where its insertion stands, in the rings of the run
entry-noted : (n : ℕ) (q : Option Accepted) → IfSome q (HasEntry n) → IfSome q (λ b. b.noted ≤ n)
entry-noted n None h = tt
entry-noted n (Some b) h = h.1

-- ---- where no tear of a failed call is told no card has broken down

pub returns-clause-accepted : goal.returns-clause-accepted
returns-clause-accepted g c = record {
  enters = first_of (search rules, grind (arith, common_steps));
  run = first_of (search rules, grind (arith, common_steps));
  refused = ap (λ (p : Outcome). p.refused) c.accept-answer.ensures.entered.1.left.outcome;
  beside = (comes g c).seat;
}

pub returns-clause-promises : goal.returns-clause-promises
returns-clause-promises g c = λ room. record {
  recorded =
      λ odometer o done s n waits fewer at next time.
      let run = c.args.run.now in
      let e = c.args.entering in
      let h = c.requires.acting.going in
      let w = c.accept-answer.ensures.entered in
      let U : State = g.M.Medium.state c.args.unit.now in
      let V : State = g.M.Medium.state c.accept-answer.new.unit in
      let X : State = g.C.Chip.state c.args.card.now in
      let Z : State = g.C.Chip.state c.accept-answer.new.card in
      let Y : State = g.D.Chip.state c.args.others.now in
      let new : Run = record run { keeper = c.accept-answer.new.keeper; noted = c.accept-answer.new.noted } in
      let failed : Bool = is_err c.accept-answer.result in
      let may = may-judge g c room o done s n waits fewer at next in
      let sits = seated g c in
      let sound = sound g c time in
      let gone = gone g c in
      let seen = found-in o done s n waits fewer e run.keeper c.args.outcome.now run.unfound run.next run.begun run.minutes U X Y next.goes.within may failed c.accept-answer.new.keeper run.noted c.accept-answer.new.noted c.accept-answer.new.outcome V Z w.0 gone sound in
      let there = unit-told o done s n waits fewer e run.keeper c.args.outcome.now run.unfound run.next run.begun run.minutes U X Y next.goes.within may in
      let writes = accept-writes U V X Z sound.unit_before sound.unit_behind e failed run.keeper c.accept-answer.new.keeper run.noted c.accept-answer.new.noted c.args.outcome.now c.accept-answer.new.outcome w.0 (ap (λ (q : Option (List ℕ)). is_some q) there.1) gone.cause w.1 in
      let low : e.at.second < 2 ^ 32 = let second = c.requires.may.at in let small = c.requires.acting.small in omega (arith, second, small) in
      judged-by failed o done s n waits fewer run new c.args.outcome.now c.accept-answer.new.outcome (arranged e.which U X Y) (arranged e.which V Z Y) next.goes c.requires.acting.lit (ap (λ (q : Keeper). q.odometer) w.1.left.keeper) (ap (λ (q : Keeper). q.memory) w.1.left.keeper)
      (entered-recorded o done s n waits fewer e run.keeper c.args.outcome.now run.unfound run.next run.begun run.minutes U X Y next.goes.within may failed c.accept-answer.new.keeper run.noted c.accept-answer.new.noted c.accept-answer.new.outcome V Z sound w.0 gone)
      (λ well. entered-stays o e failed well run.keeper c.accept-answer.new.keeper run.noted c.accept-answer.new.noted c.args.outcome.now c.accept-answer.new.outcome U V X Z Y (λ log. notes_within next.goes.within.b done s (In n) log)
      (finds-noted o done s n waits fewer (values_of run c.args.outcome.now) (arranged e.which U X Y) next.goes.within e at next.next next.none next.order) c.requires.may.seat sits.0 (marked c.accept-answer.new.outcome.marks.items (truths_within o next.goes.within.b.run.log done s)) s.number room
      (λ y at_ valid. subst IsOwnValid (sym (may.origin.image e.which)) (was-valid o done s n waits fewer e run.keeper c.args.outcome.now run.unfound run.next run.begun run.minutes U X Y next.goes.within may sound.card_before y at_ valid))
      (λ none_ verdict. (
        subst (λ (k : ℕ). IsOdometerBefore (rule_of o) (odometer_at o.recording.unit) (past_of next.goes.within.b.run.log (done ++ s ∷ [])).spans k e.odometer.0) (sym (ap (λ (m : Moment). m.second) at))
            (accepted-now o done s (In n) waits [] (values_of run c.args.outcome.now) (arranged e.which U X Y) next.goes.within (began-uncut o done s (In n) waits None [] (values_of run c.args.outcome.now) (arranged e.which U X Y) next.goes.within none_)
            e.odometer.0 (odometer next.goes.within.sp next.goes.within.minutes)),
        entered-now o done s n waits fewer (values_of run c.args.outcome.now) (arranged e.which U X Y) next.goes.within e at next.next verdict,
      ))
      (λ es marked_. marked_)
      (λ k low_. floor-in o done s (In n) waits None [] (values_of run c.args.outcome.now) (arranged e.which U X Y) next.goes.within k low_)
      (falls-noted o done s n waits fewer (values_of run c.args.outcome.now) (arranged e.which U X Y) next.goes.within e at next.next) w.0 _ w.1
      (known o done s n waits fewer e run.keeper c.args.outcome.now run.unfound run.next run.begun run.minutes U X Y next.goes.within may failed c.accept-answer.new.keeper run.noted c.accept-answer.new.noted c.accept-answer.new.outcome V Z w.0 gone sound)
      (λ none_ entered told marks.
      let x =
      owed-told o done s n waits fewer e run.keeper c.args.outcome.now run.unfound run.next run.begun run.minutes U X Y next.goes.within may sound.card_before none_ entered told in
      (x.0, x.1, (x.2, marks)))
      (way-tells (found_of o.found e.which) run.keeper.memory.registration e failed U.image U V X Z well low c.requires.fits seen.0 seen.1
      (λ valid. ((next.goes.within.powered.go.held e.which valid).now seen.0 (mine-back e.which U X Y (λ (q : State). q.may_leave seen.0) seen.1)).0) w.0 w.1.is seen.2 writes) sits.1
      (others-session e.which run.keeper.cabin.cards c.accept-answer.new.keeper.cabin.cards
      (comes g c).others)
      (all-true o (marked c.args.outcome.now.marks.items (truths_within o next.goes.within.b.run.log done s)) (marked c.accept-answer.new.outcome.marks.items (truths_within o next.goes.within.b.run.log done s)) s.number (log_of c.args.outcome.now) (notes_within next.goes.within.b done s (In n) (log_of c.args.outcome.now)) run.keeper.memory.registration run.keeper.cabin (arranged e.which U X Y)
      (λ whose known_.
      marked-grow c.args.outcome.now.marks.items c.accept-answer.new.outcome.marks.items (truths_within o next.goes.within.b.run.log done s) (truths_within o next.goes.within.b.run.log done s)
      (λ mark among. subst (λ (p : Outcome). Contains p.marks.items mark) (sym w.1.left.outcome) (marks-behind (ending_of w.0) e c.args.outcome.now mark among)) (grow-self (truths_within o next.goes.within.b.run.log done s)))
      next.goes.stay));
  evented =
      λ o done s n waits fewer at speed next turn events time.
      let run = c.args.run.now in
      let e = c.args.entering in
      let may = may-judge g c room o done s n waits fewer at next in
      judged-evented o done s n waits fewer e run.keeper c.args.outcome.now run.unfound run.next run.begun run.minutes (unit0 g c) (card0 g c) (beside g c) next.goes.within may next.goes.origin turn speed (second-small g c s n at) (ungiven_of c.requires.acting.going.span) c.requires.acting.going.cabin
      (is_err c.accept-answer.result) c.accept-answer.new.keeper run.noted c.accept-answer.new.noted c.accept-answer.new.outcome (unit1 g c) (card1 g c) (way g c) (gone g c) (sound g c time) next.goes.stay events
      (judged-notes e (is_err c.accept-answer.result) (way g c) run.keeper run.noted (unit0 g c) (unit1 g c) (card0 g c) (card1 g c) (beside g c) (g.met.M.Medium.coherent c.args.unit.now) (g.met.M.Medium.coherent c.accept-answer.new.unit) c.requires.acting.held.is_unit c.accept-answer.ensures.behind.entered.cause.works c.accept-answer.ensures.entered.1.notes);
  ringed =
      λ o done s n waits fewer at next spans odometer counted time.
      let run = c.args.run.now in
      let e = c.args.entering in
      let may = may-judge g c room o done s n waits fewer at next in
      let others : (card : Card) → IfSome (session_of run.keeper.cabin.cards card) (λ b. b.noted ≤ run.noted) = λ card. entry-noted run.noted (session_of run.keeper.cabin.cards card) (c.requires.acting.going.entries card) in
      let few : length c.accept-answer.new.outcome.finds.items < 2 ^ 64 = search rules in
      let v = judged-ringed o done s n waits fewer e run.keeper c.args.outcome.now run.unfound run.next run.begun run.minutes (unit0 g c) (card0 g c) (beside g c) next.goes.within may next.goes.origin (second-small g c s n at) c.requires.fits spans odometer run.noted counted others
      (is_err c.accept-answer.result) c.accept-answer.new.keeper c.accept-answer.new.noted c.accept-answer.new.outcome (unit1 g c) (card1 g c) (way g c) (gone g c) (sound g c time) few
      (mine-at run.keeper.cabin.cards (g.C.Chip.card c.args.card.now) (g.D.Chip.card c.args.others.now) (card0 g c) (beside g c) e.which c.requires.acting.held.card_a c.requires.acting.held.card_b).size
      (sits-works e (measured (way g c) e run.keeper) c.accept-answer.new.keeper run.noted (ending_of (way g c)) (g.C.Chip.card c.accept-answer.new.card) (card1 g c) c.accept-answer.ensures.entered.1.left.keeper c.accept-answer.ensures.behind.entered.card) in
      record { rings = v.rings; others = v.others; here = v.here; cut = v.cut; same = v.same; left = v.left; places = v.places; opens = v.opens; odometer = ap (λ (q : Keeper). q.odometer) c.accept-answer.ensures.entered.1.left.keeper; counted = v.counted };
  cards =
      λ o done s n waits fewer at speed next vehicle time.
      let run = c.args.run.now in
      let e = c.args.entering in
      let may = may-judge g c room o done s n waits fewer at next in
      judged-cards o done s n waits fewer e run.keeper c.args.outcome.now run.unfound run.next run.begun run.minutes (unit0 g c) (card0 g c) (beside g c) next.goes.within may next.goes.origin vehicle speed
      (is_err c.accept-answer.result) c.accept-answer.new.keeper run.noted c.accept-answer.new.noted c.accept-answer.new.outcome (unit1 g c) (card1 g c) (way g c) (gone g c) (sound g c time)
      (sits-works e (measured (way g c) e run.keeper) c.accept-answer.new.keeper run.noted (ending_of (way g c)) (g.C.Chip.card c.accept-answer.new.card) (card1 g c) c.accept-answer.ensures.entered.1.left.keeper c.accept-answer.ensures.behind.entered.card)
      next.goes.stay
      (mine-at run.keeper.cabin.cards (g.C.Chip.card c.args.card.now) (g.D.Chip.card c.args.others.now) (card0 g c) (beside g c) e.which c.requires.acting.held.card_a c.requires.acting.held.card_b).size;
}

pub returns-clause-leaves : goal.returns-clause-leaves
returns-clause-leaves g c = record {
  rings =
      let run = c.args.run.now in
      let w = c.accept-answer.ensures.entered in
      record {
        accepted = record { way = w.0; only = refl; left = w.1.left };
        writes = λ tells. accept-writes (g.M.Medium.state c.args.unit.now) (g.M.Medium.state c.accept-answer.new.unit) (g.C.Chip.state c.args.card.now) (g.C.Chip.state c.accept-answer.new.card)
            (g.met.M.Medium.coherent c.args.unit.now) (g.met.M.Medium.coherent c.accept-answer.new.unit) c.args.entering (is_err c.accept-answer.result) run.keeper c.accept-answer.new.keeper run.noted c.accept-answer.new.noted c.args.outcome.now c.accept-answer.new.outcome w.0 tells c.accept-answer.ensures.behind.entered.cause w.1;
      };
  noted =
      let run = c.args.run.now in
      let w = c.accept-answer.ensures.entered in
      let new : Run = record run { keeper = c.accept-answer.new.keeper; noted = c.accept-answer.new.noted } in
      let a : IsAccepted c.args.entering run new c.args.outcome.now c.accept-answer.new.outcome = record { way = w.0; only = refl; left = w.1.left } in
      judged-noting c.args.entering (is_err c.accept-answer.result) run new c.args.outcome.now c.accept-answer.new.outcome a (g.M.Medium.state c.args.unit.now) (g.M.Medium.state c.accept-answer.new.unit) (g.C.Chip.state c.args.card.now) (g.C.Chip.state c.accept-answer.new.card) (g.D.Chip.state c.args.others.now)
      (g.met.M.Medium.coherent c.args.unit.now) (g.met.M.Medium.coherent c.accept-answer.new.unit) c.requires.acting.held.is_unit c.accept-answer.ensures.behind.entered.cause.works w.1.notes;
}

pub returns-clause-goes : goal.returns-clause-goes
returns-clause-goes g c = record {
  clock = c.accept-answer.ensures.clock;
  later = c.accept-answer.ensures.goes.card.later;
  speeds = speeds-left g c;
  calm = c.accept-answer.ensures.goes.card.calm;
  most =
      let most = c.accept-answer.ensures.goes.most.1 in
      let days : DAYS_MOST ≡ 984 = refl in
      (c.accept-answer.ensures.goes.most.0, omega (arith, most, days));
}

-- ---- what is asked of the card that enters

pub accept-answer-requires-clause-may : goal.accept-answer-requires-clause-may
accept-answer-requires-clause-may g c =
    let alone = seat-answers (ungiven_of c.requires.acting.going.span) c.args.run.now.keeper.cabin c.args.entering.slot c.args.entering.which c.requires.acting.going.cabin c.requires.may.seat in
    record {
      come = record {
        seat = c.requires.may.seat;
        elsewhere = alone.0;
        minute = first_of (search rules, grind (arith, common_steps));
        second = first_of (search rules, grind (arith, common_steps));
        fits = c.requires.fits;
        bare = alone.1;
        break_room = first_of (search rules, grind (arith, common_steps));
        find_room = c.requires.may.finds;
      };
      late = first_of (search rules, grind (arith, common_steps));
      last = first_of (search rules, grind (arith, common_steps));
    }
