use Rattle.std.proofs.Common.{rules, ◌≡◌, ◌∙◌, ℕ, ◌/◌, ◌<◌, ◌∷◌, [], ◌++◌, List, Bool, true, false, Option, None, length, take, refl, ap, sym, subst, arith, append_assoc, length-append}
use Rattle.std.proofs.lemmas.Grind.{common_steps}
use Rattle.std.specs.Prelude.{is_err, suc}
use Rattle.tach_media.proofs.Runs.{ok_gives}
use Rattle.trace_model.specs.declared.Action.{Action}
use Rattle.log_model.specs.Log.{RunLog, In}
use Rattle.log_model.specs.declared.lines.Break.{Break}
use Rattle.log_model.specs.declared.lines.Refused.{Refused}
use Rattle.log_model.specs.declared.lines.SlotFault.{SlotFault}
use Rattle.log_model.specs.Slots.{refusal}
use Rattle.run_minutes.specs.card_slots.Calls.{logged}
use Rattle.run_outcome.specs.declared.outcome.Outcome.{Outcome}
use Rattle.run_outcome.specs.Lines.{Listed, cut_at}
use Rattle.run_minutes.proofs.Counts.{lines-length}
use Rattle.run_minutes.specs.run_promise.Between.{devices}
use Rattle.device_calls.specs.safety_model.Safe.{Devices}
use Rattle.run_acts.specs.declared.run.Run.{Run}
use Rattle.run_acts.specs.Power.{is_lit, cut_run}
use Rattle.run_acts.specs.Recording.{GoesOnOrFails, log_of, IsNow, RunFails, RunWithin}
use Rattle.run_acts.specs.Going.{IsAt}
use Rattle.run_acts.specs.Room.{falls_of, cuts_within}
use Rattle.run_acts.proofs.Standing.{cut-at}
use Rattle.run_acts.proofs.Torn.{cut-falls}
use Rattle.recorder_with_cards.specs.Acting.{put_count, moment_of, IsDone, IsActedBy, CallsNone, refusal_lines}
use Rattle.recorder_with_cards.proofs.ActsRecorded.{cut, left, refused}
use Rattle.recorder_with_cards.proofs.Allowed.{fine-selected, refused-selected}
use Rattle.recorder_with_cards.proofs.Rooms.{few-wait, room-cut, room-less}
use Rattle.run_acts.specs.run_note_record.Noting.{Acting}
use Rattle.run_acts.specs.Evented.{EventsGoOn, WithinEvented}
use Rattle.run_acts.specs.RunRinged.{WithinRinged, RingsGoOn, with_cut, InSecondRinged, RingsCut}
use Rattle.recorder_with_cards.proofs.ActsEvented.{evented-cuts}
use Rattle.recorder_with_cards.proofs.RingsHeld.{ringed-lit, in-ringed_lit, in-ringed_cut, at-front, ringed-cut}
use Rattle.recorder_with_cards.proofs.ActsRinged.{ringed-on, ringed-cuts, cut-stores, refused-ringed}
use Rattle.run_minutes.specs.Keeping.{with_lines}
use Rattle.recorder_with_cards.proofs.Staying.{done-watched}
use Rattle.run_minutes.proofs.Later.{later-same}
use Rattle.run_outcome.proofs.Broken.{broke-none}
use Rattle.run_acts.proofs.Uncut.{uncut-broke, cut-broke}
use Rattle.recorder_with_cards.proofs.Uncut.{done-uncut}
use Rattle.run_acts.specs.run_course.Moments.{and_break}
use Rattle.run_acts.specs.Stood.{LetStand, TellsOn}
use Rattle.run_acts.proofs.Stood.{stood-on, stood-told, tells-same}
use Rattle.recorder_with_cards.proofs.StoodSeconds.{goes-tells, cut-tells, cut-ends}
use Rattle.recorder_with_cards.proofs.SecondsRinged.{refused-all}
use Rattle.run_acts.specs.RunCards.{CardsBehind, CardsIn, CardsGoOn}
use Rattle.run_acts.specs.ByHand.{stopped_in}
use Rattle.recorder_with_cards.proofs.HereDone.{TellsMoreOf, done-of}
use Rattle.recorder_with_cards.proofs.CardsHeld.{carded-lit, in-carded_lit, in-carded_cut}
use Rattle.recorder_with_cards.proofs.ActsCards.{refused-cards, cards-on, cards-now, cut-later, cut-cards}
use Rattle.run_minutes.proofs.Calm.{calm-more, calm-same}
use Rattle.run_minutes.specs.Books.{HaveTime}
use Rattle.recorder_with_cards.specs.Carded.{InSecondCarded, WithinCarded}
use Rattle.run_minutes.specs.run_promise.Origin.{Origin}
use Rattle.trace_model.specs.Trace.{TraceSecond}
use Rattle.std.proofs.lemmas.List.{append-nil}
use Rattle.recorder_with_cards.proofs.acts.act_lit.Given.{Over}
use Rattle.recorder_with_cards.proofs.acts.act_lit.Goals.{After-carry_out}
use Rattle.recorder_with_cards.proofs.Writes.{writes-none}
use Rattle.recorder_with_cards.proofs.acts.act_lit.Goals as goal
use Rattle.recorder_with_cards.proofs.SlotLines.{none-of-both}

-- ---- WHAT THE ACTION LEAVES

module _ (g : Over) (c : After-carry_out g) where
  abbrev run : Run
  run = c.args.run.now

  abbrev out : Outcome
  out = c.args.outcome.now

  abbrev mid : Run
  mid = c.carry_out.new.run

  abbrev told : Outcome
  told = c.carry_out.new.outcome

  abbrev before : Devices
  before = devices (g.M.Medium.state c.args.unit.now) (g.C.Chip.state c.args.card_a.now) (g.D.Chip.state c.args.card_b.now)

  abbrev behind : Devices
  behind = devices (g.M.Medium.state c.carry_out.new.unit) (g.C.Chip.state c.carry_out.new.card_a) (g.D.Chip.state c.carry_out.new.card_b)

  unstopped : stopped_in run c.args.deed.speed c.args.deed.action ≡ None
  unstopped = first_of (search rules, grind (arith, common_steps))

  allowed : refusal (logged run.keeper.cabin.slots.seats) c.args.deed.speed c.args.deed.action ≡ None
  allowed = (none-of-both run c.args.deed.speed c.args.deed.action unstopped).0

  -- it is the next one of this second
  module _ (o : Origin) (done : List TraceSecond) (s : TraceSecond) (now : IsNow s c.args.deed.speed run) (front rest : List Action) (are : s.actions ≡ front ++ c.args.deed.action ∷ rest) (here : c.args.deed.begun ≡ suc (length front)) (time : HaveTime behind) where
    abbrev more : List Action
    more = front ++ c.args.deed.action ∷ []

    many : length more ≡ c.args.deed.begun
    many = let long = length-append front (c.args.deed.action ∷ []) in omega (arith, long, here)

    some : 0 < s.number
    some = let low = c.requires.may.going.low in let number = now.number in omega (arith, low, number)

    still_next : s.number ≡ mid.next
    still_next = now.number ∙ sym c.carry_out.ensures.done.stays.next

    all-so : s.actions ≡ more ++ rest
    all-so = are ∙ sym (append_assoc front (c.args.deed.action ∷ []) rest)

    goes : (w : RunWithin o done s (In (length front)) [] [] run out before) → GoesOnOrFails (is_err c.carry_out.result) o done s (In c.args.deed.begun) [] mid told behind w.within.b
    goes w = c.carry_out.ensures.promises.recorded o done s now front rest are here allowed w time

    noted : (h : WithinEvented o done s (In (length front)) [] [] Acting run out before) → EventsGoOn (is_err c.carry_out.result) o done s h.within.within.b.run (In c.args.deed.begun) Acting (log_of told) behind
    noted h = c.carry_out.ensures.promises.evented o done s now front rest are here allowed h.within h.evented time

    rung : (h : WithinRinged o done s (length front) run out before) → RingsGoOn (is_err c.carry_out.result) o done s h.evented.within.within.b more mid (log_of told) h.spans h.told behind
    rung h = c.carry_out.ensures.promises.ringed o done s now front rest are here allowed h.evented.within h.spans h.told (at-front o done s run out before front (c.args.deed.action ∷ rest) are h) time

    carded : (h : WithinCarded o done s (length front) run out before) → CardsGoOn (is_err c.carry_out.result) o done s h.ringed.evented.within.within.b.run.log more (log_of told) behind
    carded h = c.carry_out.ensures.promises.cards o done s now front rest are here allowed h.vehicle h.ringed.evented.within (cards-now o done s run out before front (c.args.deed.action ∷ rest) are some h.ringed.evented.within h.cards) time

    -- what stood on the cards stands
    stood : (h : WithinCarded o done s (length front) run out before) → LetStand o before behind
    stood h = c.carry_out.ensures.promises.stands o done s now front rest are here allowed h.ringed.evented.within time

    told-lines : TellsMoreOf s.number out.breaks.items told.breaks.items
    told-lines = subst (λ (u : ℕ). TellsMoreOf u out.breaks.items told.breaks.items) (sym now.number) (done-of c.args.deed.action (moment_of c.args.deed.begun run) c.args.deed.speed (is_err c.carry_out.result) run mid out told c.carry_out.ensures.done.action_done)

    -- it goes on
    ringed-goes : is_err c.carry_out.result ≡ false → WithinRinged o done s (length front) run out before → InSecondRinged o done s c.args.deed.begun mid told behind
    ringed-goes well h =
        let w = h.evented.within in
        in-ringed_lit o done s mid told behind c.args.deed.begun
        (ringed-on o done s (length front) c.args.deed.begun run mid out told before behind h more rest all-so many (subst (λ (b : Bool). GoesOnOrFails b o done s (In c.args.deed.begun) [] mid told behind w.within.b) well (goes w))
        (subst (λ (b : Bool). EventsGoOn b o done s w.within.b.run (In c.args.deed.begun) Acting (log_of told) behind) well (noted h.evented))
        (done-watched c.args.deed.action (moment_of c.args.deed.begun run) c.args.deed.speed (is_err c.carry_out.result) run mid out told c.carry_out.ensures.done.action_done)
        (subst (λ (b : Bool). RingsGoOn b o done s w.within.b more mid (log_of told) h.spans h.told behind) well (rung h)))

    carded-goes : is_err c.carry_out.result ≡ false → WithinCarded o done s (length front) run out before → InSecondCarded o done s c.args.deed.begun mid told behind
    carded-goes well h =
        let w = h.ringed.evented.within in
        let watched = done-watched c.args.deed.action (moment_of c.args.deed.begun run) c.args.deed.speed (is_err c.carry_out.result) run mid out told c.carry_out.ensures.done.action_done in
        in-carded_lit o done s mid told behind c.args.deed.begun (record {
          ringed = ringed-lit o done s mid told behind c.args.deed.begun (ap is_lit (c.carry_out.ensures.done.stays.power ∙ c.requires.may.lit)) (ringed-goes well h.ringed);
          vehicle = ap (λ m. m.registration) watched.memory ∙ h.vehicle;
          cards = cards-on o done s c.args.deed.begun mid told behind more rest w.within.b all-so many some (subst (λ (b : Bool). GoesOnOrFails b o done s (In c.args.deed.begun) [] mid told behind w.within.b) well (goes w))
              (subst (λ (b : Bool). CardsGoOn b o done s w.within.b.run.log more (log_of told) behind) well (carded h));
          past = stood-told o done (log_of out) (log_of told) behind
              (goes-tells o done s (In (length front)) (In c.args.deed.begun) run mid out told before behind w (subst (λ (b : Bool). GoesOnOrFails b o done s (In c.args.deed.begun) [] mid told behind w.within.b) well (goes w)) some told-lines)
              (stood-on o done (log_of out) before behind h.past (stood h));
        })

    -- or the unit failed, and power is lost
    module _ (failed : is_err c.carry_out.result ≡ true) (new : Run) (after : Outcome) (cut_so : new ≡ cut_run mid.next mid) (told_so : after ≡ record told { breaks = with_lines (cut_at mid.next true c.args.deed.begun ∷ []) told.breaks }) where
      fails : (w : RunWithin o done s (In (length front)) [] [] run out before) → RunFails o done s (In c.args.deed.begun) mid told behind
      fails w = subst (λ (b : Bool). GoesOnOrFails b o done s (In c.args.deed.begun) [] mid told behind w.within.b) failed (goes w)

      rings-cut : (h : WithinRinged o done s (length front) run out before) → RingsCut o done s h.evented.within.within.b more mid (log_of told) h.spans h.told behind
      rings-cut h = subst (λ (b : Bool). RingsGoOn b o done s h.evented.within.within.b more mid (log_of told) h.spans h.told behind) failed (rung h)

      ringed-lost : WithinRinged o done s (length front) run out before → InSecondRinged o done s c.args.deed.begun new after behind
      ringed-lost h =
          let w = h.evented.within in
          let stays = c.carry_out.ensures.done.stays in
          in-ringed_cut o done s new after behind c.args.deed.begun
          (ringed-cuts o done s w.within.b c.args.deed.begun mid new told after behind h.spans h.told still_next
          (evented-cuts o done s (length front) c.args.deed.begun run mid new out told after before behind now.number h.evented
          (cut o done s c.args.deed.begun rest mid new told after behind w.origin still_next (left front rest c.args.deed.action s here are) (fails w) cut_so told_so)
          (subst (λ (b : Bool). EventsGoOn b o done s w.within.b.run (In c.args.deed.begun) Acting (log_of told) behind) failed (noted h.evented))
          (done-watched c.args.deed.action (moment_of c.args.deed.begun run) c.args.deed.speed (is_err c.carry_out.result) run mid out told c.carry_out.ensures.done.action_done) stays.next stays.unfound cut_so told_so)
          more many (rings-cut h)
          (cut-stores o done s (length front) c.args.deed.begun run mid out told before behind h more rest many (fails w) (stays.power ∙ c.requires.may.lit) (left front rest c.args.deed.action s here are) stays.unfound (rings-cut h))
          cut_so told_so)

      carded-lost : WithinCarded o done s (length front) run out before → InSecondCarded o done s c.args.deed.begun new after behind
      carded-lost h =
          let w = h.ringed.evented.within in
          let log : with_cut (log_of told) s more ≡ log_of after =
          ap (λ (n : ℕ). and_break (log_of told) (cut_at s.number true n)) many ∙ ap (λ (u : ℕ). and_break (log_of told) (cut_at u true c.args.deed.begun)) still_next ∙ sym (ap log_of told_so) in
          let lines = subst (λ (u : ℕ). TellsMoreOf u out.breaks.items told.breaks.items) (sym now.number) (done-of c.args.deed.action (moment_of c.args.deed.begun run) c.args.deed.speed (is_err c.carry_out.result) run mid out told c.carry_out.ensures.done.action_done) in
          let watched = done-watched c.args.deed.action (moment_of c.args.deed.begun run) c.args.deed.speed (is_err c.carry_out.result) run mid out told c.carry_out.ensures.done.action_done in
          let later = cut-later o done s (length front) run out before w told more lines (rings-cut h.ringed).behind some in
          let rung_ = ringed-cut o done s new after behind c.args.deed.begun (ap (λ (q : Run). is_lit q.power) cut_so) (ringed-lost h.ringed) in
          let shown = cut-cards o done s (length front) run out before behind w told more rest all-so later (fails w).within.moment.up_to.uncut
          (subst (λ (b : Bool). CardsGoOn b o done s w.within.b.run.log more (log_of told) behind) failed (carded h)) in
          in-carded_cut o done s new after behind c.args.deed.begun (record {
            ringed = rung_;
            vehicle = ap (λ (q : Run). q.keeper.memory.registration) cut_so ∙ ap (λ m. m.registration) watched.memory ∙ h.vehicle;
            cards = subst (λ (l : RunLog). CardsBehind o (done ++ s ∷ []) l behind) log shown;
            past = cut-ends o done s (log_of out) new after behind rung_.evented.cut (still_next ∙ sym (ap (λ (q : Run). q.next) cut_so)) (subst (λ (l : RunLog). TellsOn (log_of out) l done) log (cut-tells o done s (length front) run out before w told more lines some later))
                (stood-on o done (log_of out) before behind h.past (stood h));
          })

-- ---- what is asked as it is carried out

pub carry_out-requires-clause-acting : goal.carry_out-requires-clause-acting
carry_out-requires-clause-acting g c = record {
  lit = c.requires.may.lit;
  low = c.requires.may.going.low;
  small = c.requires.may.going.small;
  held = c.requires.may.going.held;
  going = c.requires.may.going.lit (ap is_lit c.requires.may.lit);
}

pub carry_out-requires-clause-room : goal.carry_out-requires-clause-room
carry_out-requires-clause-room g c =
    room-less cuts_within c.args.run.now c.args.outcome.now 1 1 0 0 (put_count c.args.deed.action) (put_count c.args.deed.action) 1 0 (omega arith) (omega arith) (omega arith) (omega arith) c.requires.may.room

-- ---- the unit failed: power is lost

pub returns-then-is_err-clause-behind : goal.returns-then-is_err-clause-behind
returns-then-is_err-clause-behind g c = record {
  going =
      let new : Run = c.carry_out.new.run in
      let held = c.carry_out.ensures.behind.held.held in
      let same = c.carry_out.ensures.done.stays.next in
      let low = c.requires.may.going.low in
      let small = c.requires.may.going.small in
      subst (λ (r : Run). IsAt (r.next / 60) r (g.M.Medium.state c.carry_out.new.unit) (g.C.Chip.card c.carry_out.new.card_a) (g.D.Chip.card c.carry_out.new.card_b) (g.C.Chip.state c.carry_out.new.card_a) (g.D.Chip.state c.carry_out.new.card_b)) (sym c.cut.ensures.run)
      (cut-at new (new.next / 60) (new.next / 60) new.next (omega (arith, low, same)) (omega (arith, small, same)) held held.minute (omega arith));
  room =
      λ left offs insertions actions h.
      let run = c.args.run.now in
      let new : Run = c.carry_out.new.run in
      let stand = c.carry_out.ensures.behind.held.held.stand in
      let dark = ap (λ (r : Run). falls_of r.keeper.cabin) c.cut.ensures.run in
      let less = cut-falls new.next stand.0 stand.1 new.keeper.cabin stand.2 in
      room-cut run new c.args.outcome.now c.carry_out.new.outcome (put_count c.args.deed.action) c.carry_out.ensures.done.stays.next c.requires.may.lit c.carry_out.ensures.takes c.cut.new.self (record c.carry_out.new.outcome { breaks = c.cut.new.breaks })
      (ap (λ (r : Run). r.power) c.cut.ensures.run) (ap (λ (r : Run). r.next) c.cut.ensures.run) (few-wait (run.next / 60) run (c.requires.may.going.lit (ap is_lit c.requires.may.lit))) (omega (arith, dark, less))
      (ap (λ (l : Listed Break). length l.items) c.cut.ensures.breaks ∙ lines-length (cut_at new.next true c.args.deed.begun ∷ []) c.carry_out.new.outcome.breaks) (ap (λ (l : Listed Break). l.room) c.cut.ensures.breaks) refl refl refl
      left offs insertions actions h;
}

-- ---- it goes on

pub returns-else-is_err-clause-behind : goal.returns-else-is_err-clause-behind
returns-else-is_err-clause-behind g c = record {
  going =
      let same = c.carry_out.ensures.done.stays.next in
      let low = c.requires.may.going.low in
      let small = c.requires.may.going.small in
      let lit : is_lit c.carry_out.new.run.power ≡ true = ap is_lit (c.carry_out.ensures.done.stays.power ∙ c.requires.may.lit) in
      record {
        low = omega (arith, low, same);
        small = omega (arith, small, same);
        held = c.carry_out.ensures.behind.held.held;
        dark = λ no. absurd (let bad : true ≡ false = sym lit ∙ no in cc);
        lit = λ yes. ok_gives c.carry_out.result c.carry_out.ensures.behind.going (let well : is_err c.carry_out.result ≡ false = sym c.is_err.ensures.value ∙ c.if-is_err.false in well);
      };
  room = first_of (search rules, grind (arith, common_steps));
}

pub returns-in-Err-clause-behind : goal.returns-in-Err-clause-behind
returns-in-Err-clause-behind g c = record {
  going = c.requires.may.going;
  room = first_of (search rules, grind (arith, common_steps));
}

-- a line more tells of a refusal, with which so many actions have begun
abbrev told_refused : Run → Outcome → SlotFault → (begun : ℕ) → Outcome
told_refused run out fault begun = record out { refused = with_lines (record { second = run.next; fault = fault; begun = begun } ∷ []) out.refused }

-- ---- which devices are called

pub returns-in-Err-clause-still : goal.returns-in-Err-clause-still
returns-in-Err-clause-still g c = λ none. (refl, refl, refl)

pub returns-then-is_err-clause-still : goal.returns-then-is_err-clause-still
returns-then-is_err-clause-still g c = λ none. c.carry_out.ensures.still (subst (λ (r : Option SlotFault). CallsNone r c.args.deed.action) (allowed g (goal.at.returns-then-is_err-clause-still g c).After-carry_out) none)

pub returns-else-is_err-clause-still : goal.returns-else-is_err-clause-still
returns-else-is_err-clause-still g c = λ none. c.carry_out.ensures.still (subst (λ (r : Option SlotFault). CallsNone r c.args.deed.action) (allowed g (goal.at.returns-else-is_err-clause-still g c).After-carry_out) none)

-- ---- where no tear of a failed call is told no card has broken down

pub returns-in-Err-clause-acted : goal.returns-in-Err-clause-acted
returns-in-Err-clause-acted g c = record {
  done =
      let run = c.args.run.now in
      let o = c.args.outcome.now in
      subst (λ (r : Option SlotFault). IsActedBy r c.args.deed.action c.args.deed.begun c.args.deed.speed run run o (record o { refused = c.refuse.new.refused })) c.in-Err.ensures (refl, ap (λ (l : Listed Refused). record o { refused = l }) c.refuse.ensures);
  refused = c.refuse.ensures ∙ ap (λ (r : Option SlotFault). with_lines (refusal_lines r c.args.run.now.next c.args.deed.begun) c.args.outcome.now.refused) c.in-Err.ensures;
  none = λ no. refl;
  selected = refused-selected c.args.run.now c.args.deed.speed c.args.deed.action _ (sym c.in-Err.ensures);
  next = refl;
  unfound = refl;
}

pub returns-in-Err-clause-promises : goal.returns-in-Err-clause-promises
returns-in-Err-clause-promises g c = record {
  ringed =
      λ o done s now front rest are begun in_ time.
      let here : suc (length front) ≡ c.args.deed.begun = omega (arith, begun) in
      let run = c.args.run.now in
      let out = c.args.outcome.now in
      let d : Devices = devices (g.M.Medium.state c.args.unit.now) (g.C.Chip.state c.args.card_a.now) (g.D.Chip.state c.args.card_b.now) in
      let told : Outcome = record out { refused = c.refuse.new.refused } in
      let h = ringed-lit o done s run out d (length front) (ap is_lit c.requires.may.lit) in_ in
      in-ringed_lit o done s run told d c.args.deed.begun
      (subst (λ (n : ℕ). WithinRinged o done s n run told d) here
      (refused-ringed o done s c.args.deed.speed run out d now front c.args.deed.action rest are h c.in-Err.fault (sym c.in-Err.ensures) told (ap (λ (l : Listed Refused). record out { refused = l }) c.refuse.ensures ∙ ap (λ (n : ℕ). told_refused run out c.in-Err.fault n) (sym here))));
  cards =
      λ o done s now front rest are begun in_ time.
      let here : suc (length front) ≡ c.args.deed.begun = omega (arith, begun) in
      let run = c.args.run.now in
      let out = c.args.outcome.now in
      let d : Devices = devices (g.M.Medium.state c.args.unit.now) (g.C.Chip.state c.args.card_a.now) (g.D.Chip.state c.args.card_b.now) in
      let told : Outcome = record out { refused = c.refuse.new.refused } in
      let told_is : told ≡ told_refused run out c.in-Err.fault (suc (length front)) = ap (λ (l : Listed Refused). record out { refused = l }) c.refuse.ensures ∙ ap (λ (n : ℕ). told_refused run out c.in-Err.fault n) (sym here) in
      let h = carded-lit o done s run out d (length front) (ap is_lit c.requires.may.lit) in_ in
      let w = h.ringed.evented.within in
      let low = c.requires.may.going.low in
      let number = now.number in
      let some : 0 < s.number = omega (arith, low, number) in
      let more : List Action = front ++ c.args.deed.action ∷ [] in
      let many : length more ≡ suc (length front) = let long = length-append front (c.args.deed.action ∷ []) in omega (arith, long) in
      let cards = refused-cards o done s c.args.deed.speed run out d now front c.args.deed.action rest are w (cards-now o done s run out d front (c.args.deed.action ∷ rest) are some w h.cards) c.in-Err.fault (sym c.in-Err.ensures) told told_is in
      in-carded_lit o done s run told d c.args.deed.begun (record {
        ringed = subst (λ (n : ℕ). WithinRinged o done s n run told d) here (refused-ringed o done s c.args.deed.speed run out d now front c.args.deed.action rest are h.ringed c.in-Err.fault (sym c.in-Err.ensures) told (ap (λ (l : Listed Refused). record out { refused = l }) c.refuse.ensures ∙ ap (λ (n : ℕ). told_refused run out c.in-Err.fault n) (sym here)));
        vehicle = h.vehicle;
        cards = subst (λ (n : ℕ). CardsIn o done s (log_of told) (take n s.actions) (log_of told) d) here
            (cards-on o done s (suc (length front)) run told d more rest w.within.b (are ∙ sym (append_assoc front (c.args.deed.action ∷ []) rest)) many some
            (refused o done s c.args.deed.speed run out d now front c.args.deed.action rest are w c.in-Err.fault (sym c.in-Err.ensures) told told_is) cards);
        past = stood-told o done (log_of out) (log_of told) d (tells-same (log_of out) (log_of told) done (refused-all (log_of out) (log_of told) refl refl done) refl) h.past;
      });
}

pub returns-in-Err-clause-goes : goal.returns-in-Err-clause-goes
returns-in-Err-clause-goes g c = record {
  later = later-same (devices (g.M.Medium.state c.args.unit.now) (g.C.Chip.state c.args.card_a.now) (g.D.Chip.state c.args.card_b.now));
  calm = calm-same (devices (g.M.Medium.state c.args.unit.now) (g.C.Chip.state c.args.card_a.now) (g.D.Chip.state c.args.card_b.now));
  more = omega arith;
  broke = broke-none c.args.outcome.now.breaks.items {old = (g.M.Medium.state c.args.unit.now)} {new = (g.M.Medium.state c.args.unit.now)} (omega arith);
  most = writes-none 0 1 (devices (g.M.Medium.state c.args.unit.now) (g.C.Chip.state c.args.card_a.now) (g.D.Chip.state c.args.card_b.now));
}

pub returns-then-is_err-clause-acted : goal.returns-then-is_err-clause-acted
returns-then-is_err-clause-acted g c = record {
  done =
      let run = c.args.run.now in
      let o = c.args.outcome.now in
      let failed : is_err c.carry_out.result ≡ true = sym c.is_err.ensures.value ∙ c.if-is_err.true in
      let told : Outcome = c.carry_out.new.outcome in
      subst (λ (r : Option SlotFault). IsActedBy r c.args.deed.action c.args.deed.begun c.args.deed.speed run c.cut.new.self o (record told { breaks = c.cut.new.breaks })) (sym (unstopped g (goal.at.returns-then-is_err-clause-acted g c).After-carry_out))
      (record {
        failed = true;
        between = c.carry_out.new.run;
        told = told;
        done = subst (λ (b : Bool). IsDone c.args.deed.action (moment_of c.args.deed.begun run) c.args.deed.speed b run c.carry_out.new.run o told) failed c.carry_out.ensures.done.action_done;
        run = c.cut.ensures.run;
        outcome = ap (λ (l : Listed Break). record told { breaks = l }) c.cut.ensures.breaks;
      });
  refused = c.carry_out.ensures.done.refused ∙ ap (λ (xs : List Refused). record c.args.outcome.now.refused { items = xs }) (sym (append-nil c.args.outcome.now.refused.items)) ∙ ap (λ (r : Option SlotFault). with_lines (refusal_lines r c.args.run.now.next c.args.deed.begun) c.args.outcome.now.refused) (sym (unstopped g (goal.at.returns-then-is_err-clause-acted g c).After-carry_out));
  none = λ no. absurd (no (unstopped g (goal.at.returns-then-is_err-clause-acted g c).After-carry_out));
  selected = fine-selected c.args.deed.action (is_err c.carry_out.result) c.args.run.now c.cut.new.self (let failed : is_err c.carry_out.result ≡ true = sym c.is_err.ensures.value ∙ c.if-is_err.true in failed) c.carry_out.ensures.done.fine;
  next = ap (λ (r : Run). r.next) c.cut.ensures.run ∙ c.carry_out.ensures.done.stays.next;
  unfound = ap (λ (r : Run). r.unfound) c.cut.ensures.run ∙ c.carry_out.ensures.done.stays.unfound;
}

pub returns-then-is_err-clause-promises : goal.returns-then-is_err-clause-promises
returns-then-is_err-clause-promises g c = record {
  ringed =
      λ o done s now front rest are begun in_ time.
      let at = (goal.at.returns-then-is_err-clause-promises g c).After-carry_out in
      ringed-lost g at o done s now front rest are (omega (arith, begun)) time (sym c.is_err.ensures.value ∙ c.if-is_err.true) c.cut.new.self (record c.carry_out.new.outcome { breaks = c.cut.new.breaks }) c.cut.ensures.run (ap (λ (l : Listed Break). record c.carry_out.new.outcome { breaks = l }) c.cut.ensures.breaks)
      (ringed-lit o done s (run g at) (out g at) (before g at) (length front) (ap is_lit c.requires.may.lit) in_);
  cards =
      λ o done s now front rest are begun in_ time.
      let at = (goal.at.returns-then-is_err-clause-promises g c).After-carry_out in
      carded-lost g at o done s now front rest are (omega (arith, begun)) time (sym c.is_err.ensures.value ∙ c.if-is_err.true) c.cut.new.self (record c.carry_out.new.outcome { breaks = c.cut.new.breaks }) c.cut.ensures.run (ap (λ (l : Listed Break). record c.carry_out.new.outcome { breaks = l }) c.cut.ensures.breaks)
      (carded-lit o done s (run g at) (out g at) (before g at) (length front) (ap is_lit c.requires.may.lit) in_);
}

pub returns-then-is_err-clause-goes : goal.returns-then-is_err-clause-goes
returns-then-is_err-clause-goes g c = record {
  later = c.carry_out.ensures.goes.later;
  calm = calm-more (devices (g.M.Medium.state c.args.unit.now) (g.C.Chip.state c.args.card_a.now) (g.D.Chip.state c.args.card_b.now)) (devices (g.M.Medium.state c.carry_out.new.unit) (g.C.Chip.state c.carry_out.new.card_a) (g.D.Chip.state c.carry_out.new.card_b)) _ c.carry_out.ensures.goes.calm (ap (λ (l : Listed Break). l.items) c.cut.ensures.breaks) refl;
  more =
      let more = c.carry_out.ensures.goes.more in
      let told = ap (λ (l : Listed Break). length l.items) c.cut.ensures.breaks ∙ lines-length (cut_at c.carry_out.new.run.next true c.args.deed.begun ∷ []) c.carry_out.new.outcome.breaks in
      omega (arith, more, told);
  broke = cut-broke _ _ _ _ _ (g.M.Medium.state c.args.unit.now) (g.M.Medium.state c.carry_out.new.unit) (is_err c.carry_out.result) (c.requires.may.going.lit (ap is_lit c.requires.may.lit)).ready.unit_ready.works c.carry_out.ensures.behind.held.cause (sym c.is_err.ensures.value ∙ c.if-is_err.true) (done-uncut c.args.deed.action _ c.args.deed.speed _ _ _ _ _ c.carry_out.ensures.done.action_done) (ap (λ (l : Listed Break). l.items) c.cut.ensures.breaks);
  most = c.carry_out.ensures.goes.most;
}

pub returns-else-is_err-clause-acted : goal.returns-else-is_err-clause-acted
returns-else-is_err-clause-acted g c = record {
  done =
      let run = c.args.run.now in
      let o = c.args.outcome.now in
      let well : is_err c.carry_out.result ≡ false = sym c.is_err.ensures.value ∙ c.if-is_err.false in
      let told : Outcome = c.carry_out.new.outcome in
      subst (λ (r : Option SlotFault). IsActedBy r c.args.deed.action c.args.deed.begun c.args.deed.speed run c.carry_out.new.run o told) (sym (unstopped g (goal.at.returns-else-is_err-clause-acted g c).After-carry_out))
      (record {
        failed = false;
        between = c.carry_out.new.run;
        told = told;
        done = subst (λ (b : Bool). IsDone c.args.deed.action (moment_of c.args.deed.begun run) c.args.deed.speed b run c.carry_out.new.run o told) well c.carry_out.ensures.done.action_done;
        run = refl;
        outcome = refl;
      });
  refused = c.carry_out.ensures.done.refused ∙ ap (λ (xs : List Refused). record c.args.outcome.now.refused { items = xs }) (sym (append-nil c.args.outcome.now.refused.items)) ∙ ap (λ (r : Option SlotFault). with_lines (refusal_lines r c.args.run.now.next c.args.deed.begun) c.args.outcome.now.refused) (sym (unstopped g (goal.at.returns-else-is_err-clause-acted g c).After-carry_out));
  none = λ no. absurd (no (unstopped g (goal.at.returns-else-is_err-clause-acted g c).After-carry_out));
  selected = c.carry_out.ensures.done.selected;
  next = c.carry_out.ensures.done.stays.next;
  unfound = c.carry_out.ensures.done.stays.unfound;
}

pub returns-else-is_err-clause-promises : goal.returns-else-is_err-clause-promises
returns-else-is_err-clause-promises g c = record {
  ringed =
      λ o done s now front rest are begun in_ time.
      let at = (goal.at.returns-else-is_err-clause-promises g c).After-carry_out in
      ringed-goes g at o done s now front rest are (omega (arith, begun)) time (sym c.is_err.ensures.value ∙ c.if-is_err.false) (ringed-lit o done s (run g at) (out g at) (before g at) (length front) (ap is_lit c.requires.may.lit) in_);
  cards =
      λ o done s now front rest are begun in_ time.
      let at = (goal.at.returns-else-is_err-clause-promises g c).After-carry_out in
      carded-goes g at o done s now front rest are (omega (arith, begun)) time (sym c.is_err.ensures.value ∙ c.if-is_err.false) (carded-lit o done s (run g at) (out g at) (before g at) (length front) (ap is_lit c.requires.may.lit) in_);
}

pub returns-else-is_err-clause-goes : goal.returns-else-is_err-clause-goes
returns-else-is_err-clause-goes g c = record {
  later = c.carry_out.ensures.goes.later;
  calm = c.carry_out.ensures.goes.calm;
  more = c.carry_out.ensures.goes.more;
  broke = uncut-broke _ _ (g.M.Medium.state c.args.unit.now) (g.M.Medium.state c.carry_out.new.unit) (is_err c.carry_out.result) c.carry_out.ensures.behind.held.cause (sym c.is_err.ensures.value ∙ c.if-is_err.false) (done-uncut c.args.deed.action _ c.args.deed.speed _ _ _ _ _ c.carry_out.ensures.done.action_done);
  most = c.carry_out.ensures.goes.most;
}
