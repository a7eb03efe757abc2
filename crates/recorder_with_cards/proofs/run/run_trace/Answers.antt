use Rattle.std.proofs.Common.{rules, ◌≡◌, ◌∙◌, inl, inr, ℕ, ◌+◌, ◌-◌, ◌<◌, ◌≤◌, true, false, None, List, [], length, take, drop, refl, ap, sym, subst, arith, All}
use Rattle.std.proofs.lemmas.List.{take_all}
use Rattle.trace_model.specs.declared.Item.{Item}
use Rattle.trace_model.specs.Trace.{TraceSecond, seconds_of, number_after, item_seconds, total_seconds}
use Rattle.run_acts.specs.Going.{largest_number, CardAt, IsFoundLater}
use Rattle.tach_media.specs.Medium.{IsCoherent}
use Rattle.tach_media.proofs.Runs.{on_ok}
use Rattle.log_model.specs.declared.lines.Mark.{Mark}
use Rattle.log_model.specs.declared.lines.Break.{Break}
use Rattle.log_model.specs.declared.lines.Find.{Find}
use Rattle.log_model.specs.declared.lines.Refused.{Refused}
use Rattle.run_outcome.specs.Lines.{Listed}
use Rattle.device_calls.specs.safety_model.Safe.{Devices, card_of}
use Rattle.device_calls.specs.safety_model.Recording.{card_image}
use Rattle.run_acts.specs.run_crew.Cards.{known_of as known_in}
use Rattle.run_opening.specs.Begun.{known_of, RunIsOpened, IsRefusedBy as IsRefusedAs}
use Rattle.run_opening.specs.Cards.{IsFoundOn}
use Rattle.recorder_with_cards.specs.Carded.{RunTimely}
use Rattle.recorder_with_cards.specs.Ends.{EndsTrace, opened_with, origin_of, recording_of}
use Rattle.recorder_with_cards.proofs.Breakdowns.{are-counted}
use Rattle.recorder_with_cards.specs.Recorded.{actions_in}
use Rattle.recorder_with_cards.specs.Items.{between, insertions_in}
use Rattle.recorder_with_cards.proofs.Waiting.{Waits, waits-none, waits-more, seconds-none, seconds-more, total-parts}
use Rattle.recorder_with_cards.proofs.Again.{all-bytes}
use Rattle.recorder_with_cards.proofs.Moments.{moments-none}
use Rattle.recorder_with_cards.proofs.Promised.{both, more-devices, chip_of, begins-with, promised, may-record, is-found, starts-carded}
use Rattle.std.specs.Prelude.{IfErr, is_err}
use Rattle.std.proofs.lemmas.Grind.{common_steps}
use Rattle.run_opening.specs.Opening.{IsRefused}
use Rattle.run_minutes.specs.run_promise.Between.{devices}
use Rattle.run_minutes.specs.declared.keeper.Keeper.{Keeper}
use Rattle.run_outcome.specs.Room.{offs, off_count, insertions}
use Rattle.run_outcome.proofs.Items.{seconds-here, offs-here}
use Rattle.run_acts.specs.Power.{is_lit}
use Rattle.minute_rules.specs.minute_model.Span.{ungiven_of}
use Rattle.run_acts.specs.Room.{cuts_from, HasRoom}
use Rattle.recorder_with_cards.proofs.Rooms.{room-less}
use Rattle.recorder_with_cards.proofs.Items.{each-at, insertions-left, waiting-most, room-behind}
use Rattle.recorder_with_cards.proofs.Start.{if-err, none-yet, no-falls, no-seats, room-start}
use Rattle.run_minutes.proofs.Later.{after-then}
use Rattle.recorder_with_cards.proofs.Later.{state-as-it-was}
use Rattle.run_acts.specs.Recording.{log_of}
use Rattle.run_outcome.proofs.Broken.{broke-none, broke-then, broke-all, broke-nothing, calm-all, most-all}
use Rattle.run_minutes.proofs.Calm.{calm-rests, calm-then, still-all, most-still}
use Rattle.recorder_with_cards.proofs.Time.{after-time}
use Rattle.recorder_with_cards.proofs.PowerOns.{told-most}
use Rattle.recorder_with_cards.proofs.Writes.{between-item, between-within}
use Rattle.recorder_with_cards.specs.Gone.{first_waiting}
use Rattle.recorder_with_cards.specs.Writes.{WritesBetween, power_ons_told, powered, turns_of}
use Rattle.recorder_with_cards.proofs.InShort.{recorded-keeps}
use Rattle.recorder_with_cards.proofs.run.run_trace.Goals as goal

-- ---- the opening

pub returns-in_err-opened-clause-refused : goal.returns-in_err-opened-clause-refused
returns-in_err-opened-clause-refused g c =
    let h : IfErr c.from_residual.result
    (IsRefused c.args.trace.now.start (devices (g.U.Medium.state c.args.unit.now) (g.C.Chip.state c.args.card_a.now) (g.C.Chip.state c.args.card_b.now)) (devices (g.U.Medium.state c.judge.new.unit) (g.C.Chip.state c.judge.new.card_a) (g.C.Chip.state c.judge.new.card_b)))
    = first_of (search rules, grind (arith, common_steps)) in
    if-err c.from_residual.result (λ fault is. inl (is, c.judge.ensures.same.unit, c.judge.ensures.same.card_a, c.judge.ensures.same.card_b, refl)) h

pub loop-i-init : goal.loop-i-init
loop-i-init g c =
    let q = c.requires in
    let e = c.in_ok-opened.ensures in
    let run = c.new-run.result in
    let keeper = c.new-run.ensures.keeper in
    let next = c.new-run.ensures.starts.next in
    let dark : is_lit run.power ≡ false = ap is_lit c.new-run.ensures.starts.power in
    let a_none : run.keeper.cabin.cards.a.accepted ≡ None = ap (λ (k : Keeper). k.cabin.cards.a.accepted) keeper ∙ e.found.card_a.none in
    let b_none : run.keeper.cabin.cards.b.accepted ≡ None = ap (λ (k : Keeper). k.cabin.cards.b.accepted) keeper ∙ e.found.card_b.none in
    let slots = ap (λ (k : Keeper). k.cabin.slots) keeper in
    record {
      first = omega arith;
      going = record {
        low = let low = q.well.first.0 in omega (arith, low, next);
        small = let last = q.well.within.1 in omega (arith, last, next);
        held = record {
          is_unit = c.judge.ensures.same.is_unit q.unit;
          odometer = c.new-run.ensures.odometer;
          minute = let none = ap (λ (k : Keeper). k.cabin.slots.minute) keeper in omega (arith, none);
          card_a = subst (λ (k : Keeper). CardAt k.cabin.cards.a (g.C.Chip.card c.judge.new.card_a) (g.C.Chip.state c.judge.new.card_a)) (sym keeper)
              (record { port = e.found.card_a.port; size = let same = c.judge.ensures.same.card_a.leaves.size in let size = q.card_a in omega (arith, same, size) });
          card_b = subst (λ (k : Keeper). CardAt k.cabin.cards.b (g.C.Chip.card c.judge.new.card_b) (g.C.Chip.state c.judge.new.card_b)) (sym keeper)
              (record { port = e.found.card_b.port; size = let same = c.judge.ensures.same.card_b.leaves.size in let size = q.card_b in omega (arith, same, size) });
          stand = (0, None, c.new-run.ensures.stands 0);
        };
        dark = λ no. record { stands = c.new-run.ensures.stands; bare = none-yet run.keeper.cabin.cards a_none b_none };
        lit = λ yes. absurd (let bad : false ≡ true = sym dark ∙ yes in cc);
      };
      next = ap (λ (n : ℕ). n + total_seconds c.args.trace.now.items) next;
      room = subst (λ (n : ℕ). HasRoom run c.args.outcome.now (total_seconds c.args.trace.now.items) (offs c.args.trace.now.items) (insertions c.args.trace.now.items) n) (let whole : length c.args.trace.now.items ≡ length c.args.trace.now.items - 0 = omega arith in whole)
          (room-start run c.args.outcome.now c.args.trace.now.items c.new-run.ensures.starts.power (no-falls run.keeper.cabin slots a_none b_none) (no-seats run.keeper.cabin slots) q.reserved);
      unfound = let none = c.new-run.ensures.starts.unfound in omega (arith, none);
      waits = waits-none c.args.trace.now.items;
      later = record { unit = state-as-it-was (g.U.Medium.state c.args.unit.now) (g.U.Medium.state c.judge.new.unit) c.judge.ensures.same.unit; card_a = state-as-it-was (g.C.Chip.state c.args.card_a.now) (g.C.Chip.state c.judge.new.card_a) c.judge.ensures.same.card_a; card_b = state-as-it-was (g.C.Chip.state c.args.card_b.now) (g.C.Chip.state c.judge.new.card_b) c.judge.ensures.same.card_b };
      calm = calm-rests (devices (g.U.Medium.state c.args.unit.now) (g.C.Chip.state c.args.card_a.now) (g.C.Chip.state c.args.card_b.now)) (devices (g.U.Medium.state c.judge.new.unit) (g.C.Chip.state c.judge.new.card_a) (g.C.Chip.state c.judge.new.card_b)) refl (e.works.card_a.unbroken refl) (e.works.card_b.unbroken refl);
      broke = broke-none c.args.outcome.now.breaks.items {old = (g.U.Medium.state c.args.unit.now)} {new = (g.U.Medium.state c.judge.new.unit)} (e.works.unit.unbroken refl);
      most =
          let u = c.judge.ensures.same.unit.clock in
          let p = c.judge.ensures.same.card_a.clock in
          let q = c.judge.ensures.same.card_b.clock in
          record { power_ons = 0; one_each = omega arith; told = omega arith; most = record { unit = omega (arith, u); card_a = omega (arith, p); card_b = omega (arith, q) } };
      time = λ h.
          let u = c.judge.ensures.same.unit.clock in
          let p = c.judge.ensures.same.card_a.clock in
          let q = c.judge.ensures.same.card_b.clock in
          record { unit = omega (arith, h.unit, u); card_a = omega (arith, h.card_a, p); card_b = omega (arith, h.card_b, q) };
      told = λ x a b h.
          let began : Devices = devices (g.U.Medium.state c.args.unit.now) (g.C.Chip.state c.args.card_a.now) (g.C.Chip.state c.args.card_b.now) in
          let now : Devices = devices (g.U.Medium.state c.judge.new.unit) (g.C.Chip.state c.judge.new.card_a) (g.C.Chip.state c.judge.new.card_b) in
          let ready : RunIsOpened (opened_with x a b) c.args.trace.now.start c.in_ok-opened.opened began now = e.begins (opened_with x a b) (begins-with x a b [] (record { breaks = []; refused = []; finds = [] }) [] began h) in
          (may-record x a b c.args.trace.now.start began now c.in_ok-opened.opened ready, is-found x a b c.args.trace.now.start began now c.in_ok-opened.opened ready);
      cards = λ x a b h time few.
          let began : Devices = devices (g.U.Medium.state c.args.unit.now) (g.C.Chip.state c.args.card_a.now) (g.C.Chip.state c.args.card_b.now) in
          let now : Devices = devices (g.U.Medium.state c.judge.new.unit) (g.C.Chip.state c.judge.new.card_a) (g.C.Chip.state c.judge.new.card_b) in
          let start : ℕ = c.args.trace.now.start in
          let opened = c.in_ok-opened.opened in
          let ready : RunIsOpened (opened_with x a b) start opened began now = e.begins (opened_with x a b) (begins-with x a b [] (record { breaks = []; refused = []; finds = [] }) [] began h) in
          let chips = chip_of (g.C.Chip.card c.judge.new.card_a) (g.C.Chip.card c.judge.new.card_b) in
          let low = c.new-run.ensures.odometer in
          let same_odometer = ap (λ (k : Keeper). k.odometer) keeper in
          subst (λ (ss : List TraceSecond). RunTimely (origin_of x a b start began) ss run c.args.outcome.now now) (sym (seconds-none start))
          (record {
            carded = starts-carded x a b start began now opened ready
                (both (λ k. IsCoherent (card_of now k)) (g.met.C.Chip.coherent c.judge.new.card_a) (g.met.C.Chip.coherent c.judge.new.card_b))
                (g.met.U.Medium.coherent c.judge.new.unit)
                chips
                (both (λ k. IsFoundOn (known_of opened k) (chips k) (card_of now k)) e.found.card_a e.found.card_b)
                (both (λ k. All (λ n. n < 256) (card_image (opened_with x a b) k)) (all-bytes a (c.holds_bytes.ensures.told a h.of_a.tells)) (all-bytes b (c.holds_bytes-2.ensures.told b h.of_b.tells)))
                (both (λ k. (card_of now k).clock ≡ (card_of began k).clock) c.judge.ensures.same.card_a.clock c.judge.ensures.same.card_b.clock)
                (more-devices (g.U.Medium.state c.args.unit.now) (g.U.Medium.state c.judge.new.unit) (g.C.Chip.state c.args.card_a.now) (g.C.Chip.state c.judge.new.card_a) (g.C.Chip.state c.args.card_b.now) (g.C.Chip.state c.judge.new.card_b)
                c.judge.ensures.same.unit.breakdowns (e.works.card_a.unbroken refl) (e.works.card_b.unbroken refl))
                (omega (arith, low, same_odometer)) (c.judge.ensures.same.is_unit c.requires.unit)
                run c.args.outcome.now c.new-run.ensures.starts.power next c.new-run.ensures.starts.begun c.new-run.ensures.starts.unfound (ap (λ (k : Keeper). k.memory) keeper) slots
                (both (λ k. known_in run.keeper.cabin.cards k ≡ known_of opened k) (ap (λ (k : Keeper). k.cabin.cards.a) keeper) (ap (λ (k : Keeper). k.cabin.cards.b) keeper))
                (none-yet run.keeper.cabin.cards a_none b_none)
                (ap (λ (l : Listed Break). l.items) q.reserved.breaks) (ap (λ (l : Listed Refused). l.items) q.reserved.refused) (ap (λ (l : Listed Find). l.items) q.reserved.finds) (ap (λ (l : Listed Mark). l.items) q.reserved.marks) c.new-run.ensures.starts.noted c.judge.ensures.same.unit.clock;
            timely = moments-none (origin_of x a b start began) c.args.outcome.now now (record {
              unit = λ small. let same = e.works.unit.unbroken refl in omega (arith, same);
              cards = λ small_a small_b. let same_a = e.works.card_a.unbroken refl in let same_b = e.works.card_b.unbroken refl in omega (arith, same_a, same_b);
            });
          });
    }

-- ---- an item

pub go_on-requires-clause-item : goal.go_on-requires-clause-item
go_on-requires-clause-item g c = each-at c.args.trace.now.items c.loop-i.i c.get-item.result.now c.get-item.ensures c.requires.well.each

pub go_on-requires-clause-may : goal.go_on-requires-clause-may
go_on-requires-clause-may g c = record {
  small =
      let s = seconds-here c.args.trace.now.items c.loop-i.i c.get-item.result.now c.get-item.ensures in
      let next = c.loop-i.invariant.next in
      let last = c.requires.well.within.1 in
      omega (arith, s, next, last);
  room =
      let v = c.loop-i.invariant in
      let items = c.args.trace.now.items in
      let i : ℕ = c.loop-i.i in
      let s = seconds-here items i c.get-item.result.now c.get-item.ensures in
      let o = offs-here items i c.get-item.result.now c.get-item.ensures in
      let k = insertions-left items c.loop-i.first i v.first in
      room-less cuts_from c.loop-i.run c.loop-i.outcome (total_seconds (drop i items)) (item_seconds c.get-item.result.now) (offs (drop i items)) (off_count c.get-item.result.now) (insertions (drop c.loop-i.first items)) (insertions_in c.loop-i.first i items)
      (length items - c.loop-i.first) (i - c.loop-i.first) (omega (arith, s)) (omega (arith, o)) (omega (arith, k)) (omega (arith, c.loop-i-test.true, c.len-i-end.ensures)) v.room;
  unfound = first_of (search rules, grind (arith, common_steps));
}

pub loop-i-preserved : goal.loop-i-preserved
loop-i-preserved g c =
    let v = c.loop-i.invariant in
    let e = c.in_ok-go_on.ensures.gone in
    let f = c.in_ok-go_on.ensures in
    let items = c.args.trace.now.items in
    let i : ℕ = c.loop-i.i in
    let item = c.get-item.result.now in
    let s = seconds-here items i item c.get-item.ensures in
    let o = offs-here items i item c.get-item.ensures in
    let waits = c.first_waiting-first.ensures in
    let low : i < length items = omega (arith, c.loop-i-test.true, c.len-i-end.ensures) in
    record {
      first = let most = waiting-most item c.loop-i.first i v.first in omega (arith, most, waits);
      going = e.going;
      next = let was = v.next in let next = e.next in omega (arith, was, next, s);
      room = subst (λ (n : ℕ). HasRoom c.go_on.new.run c.go_on.new.outcome (total_seconds (drop (i + 1) items)) (offs (drop (i + 1) items)) (insertions (drop n items)) (length items - n)) (sym waits)
          (room-behind items item c.loop-i.run c.go_on.new.run c.loop-i.outcome c.go_on.new.outcome (total_seconds (drop (i + 1) items)) (offs (drop (i + 1) items)) c.loop-i.first i c.get-item.ensures v.first low
          (subst (λ (n : ℕ). HasRoom c.loop-i.run c.loop-i.outcome n (off_count item + offs (drop (i + 1) items)) (insertions (drop c.loop-i.first items)) (length items - c.loop-i.first)) s
          (subst (λ (n : ℕ). HasRoom c.loop-i.run c.loop-i.outcome (total_seconds (drop i items)) n (insertions (drop c.loop-i.first items)) (length items - c.loop-i.first)) o v.room))
          f.idle f.room);
      unfound = e.unfound;
      waits = subst (λ (n : ℕ). Waits items n (i + 1)) (sym waits) (waits-more items i c.loop-i.first item c.get-item.ensures v.first c.requires.well.runs v.waits);
      time = λ h. v.time (after-time f.goes.later h);
      later = after-then (devices (g.U.Medium.state c.args.unit.now) (g.C.Chip.state c.args.card_a.now) (g.C.Chip.state c.args.card_b.now)) (devices (g.U.Medium.state c.loop-i.unit) (g.C.Chip.state c.loop-i.card_a) (g.C.Chip.state c.loop-i.card_b)) (devices (g.U.Medium.state c.go_on.new.unit) (g.C.Chip.state c.go_on.new.card_a) (g.C.Chip.state c.go_on.new.card_b)) v.later f.goes.later;
      calm = calm-then (devices (g.U.Medium.state c.args.unit.now) (g.C.Chip.state c.args.card_a.now) (g.C.Chip.state c.args.card_b.now)) (devices (g.U.Medium.state c.loop-i.unit) (g.C.Chip.state c.loop-i.card_a) (g.C.Chip.state c.loop-i.card_b)) (devices (g.U.Medium.state c.go_on.new.unit) (g.C.Chip.state c.go_on.new.card_a) (g.C.Chip.state c.go_on.new.card_b)) v.calm f.goes.calm;
      most =
          let start : ℕ = c.args.trace.now.start in
          let parts = total-parts items i in
          let at = v.next in
          let here : number_after start (take i items) ≡ c.loop-i.run.next = omega (arith, parts, at) in
          let here_on : ℕ = powered c.loop-i.run c.loop-i.outcome in
          let then_on : ℕ = powered c.go_on.new.run c.go_on.new.outcome in
          let d : Devices = devices (g.U.Medium.state c.args.unit.now) (g.C.Chip.state c.args.card_a.now) (g.C.Chip.state c.args.card_b.now) in
          let l : Devices = devices (g.U.Medium.state c.loop-i.unit) (g.C.Chip.state c.loop-i.card_a) (g.C.Chip.state c.loop-i.card_b) in
          let e : Devices = devices (g.U.Medium.state c.go_on.new.unit) (g.C.Chip.state c.go_on.new.card_a) (g.C.Chip.state c.go_on.new.card_b) in
          subst (λ (n : ℕ). WritesBetween (turns_of start (take (i + 1) items)) (length (actions_in (take n items))) 0 (offs (take (i + 1) items) + then_on) d e) (sym waits)
          (between-item start items i c.loop-i.first c.loop-i.run.next item here_on then_on d l e c.get-item.ensures here v.first v.waits v.most f.goes.most);
      broke = broke-then v.broke f.goes.broke;
      told = v.told;
      cards = λ x a b h time few.
          let began : Devices = devices (g.U.Medium.state c.args.unit.now) (g.C.Chip.state c.args.card_a.now) (g.C.Chip.state c.args.card_b.now) in
          let now : Devices = devices (g.U.Medium.state c.go_on.new.unit) (g.C.Chip.state c.go_on.new.card_a) (g.C.Chip.state c.go_on.new.card_b) in
          let start : ℕ = c.args.trace.now.start in
          let o = origin_of x a b start began in
          let many = v.waits.count in
          let first = v.first in
          let little : length (actions_in (between c.loop-i.first i items)) ≤ largest_number = omega (arith, many, few, low, first) in
          let parts = total-parts items i in
          let at = v.next in
          let here : number_after start (take i items) ≡ c.loop-i.run.next = omega (arith, parts, at) in
          let was = v.cards x a b h (after-time f.goes.later time) few in
          subst (λ (ss : List TraceSecond). RunTimely o ss c.go_on.new.run c.go_on.new.outcome now)
          (sym (seconds-more start items i c.loop-i.first item c.loop-i.run.next c.get-item.ensures here v.waits))
          (f.promises.cards many o (seconds_of start (take i items)) little was time);
    }

-- ---- a unit that is read anew

pub returns-in_err-go_on-clause-refused : goal.returns-in_err-go_on-clause-refused
returns-in_err-go_on-clause-refused g c =
    let late : IfErr c.from_residual-in_err-go_on.result IsFoundLater = first_of (search rules, grind (arith, common_steps)) in
    if-err c.from_residual-in_err-go_on.result (λ fault is. inr is) late

pub returns-in_err-go_on-clause-unit : goal.returns-in_err-go_on-clause-unit
returns-in_err-go_on-clause-unit g c = c.in_err-go_on.ensures.gone.is_unit

pub returns-clause-unit : goal.returns-clause-unit
returns-clause-unit g c = c.loop-i.invariant.going.held.is_unit

-- ---- what is promised

pub returns-clause-begun : goal.returns-clause-begun
returns-clause-begun g c = λ x a b h. (c.loop-i.invariant.told x a b h).0

-- ---- or what kept it from being recorded

pub returns-in_err-opened-clause-fault : goal.returns-in_err-opened-clause-fault
returns-in_err-opened-clause-fault g c = λ x a b told.
    let began : Devices = devices (g.U.Medium.state c.args.unit.now) (g.C.Chip.state c.args.card_a.now) (g.C.Chip.state c.args.card_b.now) in
    let why = c.in_err-opened.ensures.begins (opened_with x a b) (begins-with x a b [] (record { breaks = []; refused = []; finds = [] }) [] began told.begins) in
    let cause : IfErr c.from_residual.result (IsRefusedAs (opened_with x a b) c.args.trace.now.start began (devices (g.U.Medium.state c.judge.new.unit) (g.C.Chip.state c.judge.new.card_a) (g.C.Chip.state c.judge.new.card_b))) = first_of (search rules, grind (arith, common_steps)) in
    if-err c.from_residual.result (λ fault is. (record { cause = is; same_unit = c.judge.ensures.same.unit; same_a = c.judge.ensures.same.card_a; same_b = c.judge.ensures.same.card_b }, refl)) cause

pub returns-in_err-go_on-clause-fault : goal.returns-in_err-go_on-clause-fault
returns-in_err-go_on-clause-fault g c = λ x a b told.
    let h = told.begins in
    let time = told.time in
    let few = told.few in
    let v = c.loop-i.invariant in
    let items = c.args.trace.now.items in
    let f = c.in_err-go_on.ensures in
    let many = v.waits.count in
    let first = v.first in
    let low : c.loop-i.i < length items = omega (arith, c.loop-i-test.true, c.len-i-end.ensures) in
    absurd (f.promises.cards many (origin_of x a b c.args.trace.now.start (devices (g.U.Medium.state c.args.unit.now) (g.C.Chip.state c.args.card_a.now) (g.C.Chip.state c.args.card_b.now))) (seconds_of c.args.trace.now.start (take c.loop-i.i items)) (omega (arith, many, few, low, first)) (v.cards x a b h (after-time f.goes.later time) few) time)

pub returns-clause-goes : goal.returns-clause-goes
returns-clause-goes g c = record {
  later = c.loop-i.invariant.later;
  most =
      let items = c.args.trace.now.items in
      let on = told-most (is_lit c.loop-i.run.power) c.loop-i.outcome.breaks.items in
      between-within c.args.trace.now.start items c.loop-i.i c.loop-i.first (offs (take c.loop-i.i items) + powered c.loop-i.run c.loop-i.outcome) c.loop-i.outcome (devices (g.U.Medium.state c.args.unit.now) (g.C.Chip.state c.args.card_a.now) (g.C.Chip.state c.args.card_b.now)) (devices (g.U.Medium.state c.loop-i.unit) (g.C.Chip.state c.loop-i.card_a) (g.C.Chip.state c.loop-i.card_b)) (omega (arith, on)) c.loop-i.invariant.most;
}

pub returns-in_err-go_on-clause-goes : goal.returns-in_err-go_on-clause-goes
returns-in_err-go_on-clause-goes g c = record {
  later = after-then (devices (g.U.Medium.state c.args.unit.now) (g.C.Chip.state c.args.card_a.now) (g.C.Chip.state c.args.card_b.now)) (devices (g.U.Medium.state c.loop-i.unit) (g.C.Chip.state c.loop-i.card_a) (g.C.Chip.state c.loop-i.card_b)) (devices (g.U.Medium.state c.go_on.new.unit) (g.C.Chip.state c.go_on.new.card_a) (g.C.Chip.state c.go_on.new.card_b)) c.loop-i.invariant.later c.in_err-go_on.ensures.goes.later;
  most =
      let start : ℕ = c.args.trace.now.start in
      let items = c.args.trace.now.items in
      let i : ℕ = c.loop-i.i in
      let item = c.get-item.result.now in
      let v = c.loop-i.invariant in
      let parts = total-parts items i in
      let at = v.next in
      let here : number_after start (take i items) ≡ c.loop-i.run.next = omega (arith, parts, at) in
      let out = c.go_on.new.outcome in
      let here_on : ℕ = powered c.loop-i.run c.loop-i.outcome in
      let refused_on : ℕ = power_ons_told true out.breaks.items in
      let d : Devices = devices (g.U.Medium.state c.args.unit.now) (g.C.Chip.state c.args.card_a.now) (g.C.Chip.state c.args.card_b.now) in
      let l : Devices = devices (g.U.Medium.state c.loop-i.unit) (g.C.Chip.state c.loop-i.card_a) (g.C.Chip.state c.loop-i.card_b) in
      let e : Devices = devices (g.U.Medium.state c.go_on.new.unit) (g.C.Chip.state c.go_on.new.card_a) (g.C.Chip.state c.go_on.new.card_b) in
      between-within start items (i + 1) (first_waiting item c.loop-i.first i) (offs (take (i + 1) items) + refused_on) out d e (omega arith)
      (between-item start items i c.loop-i.first c.loop-i.run.next item here_on refused_on d l e c.get-item.ensures here v.first v.waits v.most c.in_err-go_on.ensures.goes.most);
}

pub returns-in_err-opened-clause-goes : goal.returns-in_err-opened-clause-goes
returns-in_err-opened-clause-goes g c = record {
  later = record { unit = state-as-it-was (g.U.Medium.state c.args.unit.now) (g.U.Medium.state c.judge.new.unit) c.judge.ensures.same.unit; card_a = state-as-it-was (g.C.Chip.state c.args.card_a.now) (g.C.Chip.state c.judge.new.card_a) c.judge.ensures.same.card_a; card_b = state-as-it-was (g.C.Chip.state c.args.card_b.now) (g.C.Chip.state c.judge.new.card_b) c.judge.ensures.same.card_b };
  most =
      let u = c.judge.ensures.same.unit.clock in
      let p = c.judge.ensures.same.card_a.clock in
      let q = c.judge.ensures.same.card_b.clock in
      record { unit = omega (arith, u); card_a = omega (arith, p); card_b = omega (arith, q) };
}

-- ---- how often the unit broke down

pub returns-clause-breakdowns : goal.returns-clause-breakdowns
returns-clause-breakdowns g c = record {
  broke = broke-all (log_of c.loop-i.outcome) (ap (λ (l : Listed Break). l.items) c.requires.reserved.breaks) c.loop-i.invariant.later.unit.faults c.loop-i.invariant.broke;
  calm = calm-all (log_of c.loop-i.outcome) (ap (λ (l : Listed Break). l.items) c.requires.reserved.breaks) c.loop-i.invariant.broke;
  still = still-all (log_of c.loop-i.outcome) (ap (λ (l : Listed Break). l.items) c.requires.reserved.breaks) c.loop-i.invariant.calm;
  told =
      let none = ap (λ (l : Listed Break). l.items) c.requires.reserved.breaks in
      record {
        unit = λ low. most-all (log_of c.loop-i.outcome) none c.loop-i.invariant.broke low;
        cards = λ low_a low_b. most-still (log_of c.loop-i.outcome) (devices (g.U.Medium.state c.args.unit.now) (g.C.Chip.state c.args.card_a.now) (g.C.Chip.state c.args.card_b.now)) (devices (g.U.Medium.state c.loop-i.unit) (g.C.Chip.state c.loop-i.card_a) (g.C.Chip.state c.loop-i.card_b)) none c.loop-i.invariant.calm low_a low_b;
      };
}

pub returns-in_err-go_on-clause-breakdowns : goal.returns-in_err-go_on-clause-breakdowns
returns-in_err-go_on-clause-breakdowns g c =
    let failed : true ≡ is_err c.from_residual-in_err-go_on.result = search rules in
    record {
      broke =
          let was = c.loop-i.invariant.later.unit.faults in
          let more = c.in_err-go_on.ensures.goes.later.unit.faults in
          broke-all (log_of c.go_on.new.outcome) (ap (λ (l : Listed Break). l.items) c.requires.reserved.breaks) (omega (arith, was, more)) (broke-then c.loop-i.invariant.broke c.in_err-go_on.ensures.goes.broke);
      calm = on_ok c.from_residual-in_err-go_on.result (λ well. absurd (cc));
      still = on_ok c.from_residual-in_err-go_on.result (λ well. absurd (cc));
      told = on_ok c.from_residual-in_err-go_on.result (λ well. absurd (cc));
    }

pub returns-in_err-opened-clause-breakdowns : goal.returns-in_err-opened-clause-breakdowns
returns-in_err-opened-clause-breakdowns g c =
    let failed : true ≡ is_err c.from_residual.result = search rules in
    record {
      broke = broke-nothing (log_of c.args.outcome.now) (ap (λ (l : Listed Break). l.items) c.requires.reserved.breaks) c.judge.ensures.same.unit.faults c.judge.ensures.same.unit.breakdowns;
      calm = on_ok c.from_residual.result (λ well. absurd (cc));
      still = on_ok c.from_residual.result (λ well. absurd (cc));
      told = on_ok c.from_residual.result (λ well. absurd (cc));
    }

pub returns-clause-recorded : goal.returns-clause-recorded
returns-clause-recorded g c = λ x a b is.
    let h = is.begins in
    let v = c.loop-i.invariant in
    let items = c.args.trace.now.items in
    let began : Devices = devices (g.U.Medium.state c.args.unit.now) (g.C.Chip.state c.args.card_a.now) (g.C.Chip.state c.args.card_b.now) in
    let now : Devices = devices (g.U.Medium.state c.loop-i.unit) (g.C.Chip.state c.loop-i.card_a) (g.C.Chip.state c.loop-i.card_b) in
    let start : ℕ = c.args.trace.now.start in
    let whole = take_all c.loop-i.i items (omega (arith, c.loop-i-test.false, c.len-i-end.ensures)) in
    let told = v.told x a b h in
    let timely : RunTimely (origin_of x a b start began) (seconds_of start items) c.loop-i.run c.loop-i.outcome now = subst (λ (is : List Item). RunTimely (origin_of x a b start began) (seconds_of start is) c.loop-i.run c.loop-i.outcome now) whole (v.cards x a b h is.time is.few) in
    let all : EndsTrace x a b start items c.loop-i.outcome began now =
    promised x a b start items began now c.loop-i.run c.loop-i.outcome timely.carded timely.timely
    (λ lit. let on = v.going.lit (ap is_lit lit) in (ungiven_of on.span, on.cabin))
    (g.met.U.Medium.coherent c.loop-i.unit) (both (λ k. IsCoherent (card_of now k)) (g.met.C.Chip.coherent c.loop-i.card_a) (g.met.C.Chip.coherent c.loop-i.card_b)) told.0 told.1 in
    record { ends = all; counted = are-counted _ (recording_of x a b start items c.loop-i.outcome) began now all.ends.caused.causes (returns-clause-breakdowns g c).told }

pub returns-clause-short : goal.returns-clause-short
returns-clause-short g c = λ x a b is. recorded-keeps x a b c.args.trace.now.start c.args.trace.now.items c.loop-i.outcome
    (devices (g.U.Medium.state c.args.unit.now) (g.C.Chip.state c.args.card_a.now) (g.C.Chip.state c.args.card_b.now))
    (devices (g.U.Medium.state c.loop-i.unit) (g.C.Chip.state c.loop-i.card_a) (g.C.Chip.state c.loop-i.card_b))
    (g.met.U.Medium.coherent c.loop-i.unit) c.loop-i.invariant.later.unit.clock (returns-clause-recorded g c x a b is)

-- ---- its writes

pub go_on-requires-clause-among : goal.go_on-requires-clause-among
go_on-requires-clause-among g c = record {
  first = first_of (search rules, grind (arith, common_steps));
  last = first_of (search rules, grind (arith, common_steps));
}
