-- The room of an action, and behind it.
use Rattle.std.proofs.Common.{◌≡◌, ℕ, ◌+◌, ◌*◌, ◌/◌, ◌≤◌, length, ap, arith}
use Rattle.run_outcome.specs.declared.outcome.TheConstants.{MOST_OWED}
use Rattle.run_outcome.specs.declared.outcome.Outcome.{Outcome}
use Rattle.run_acts.specs.declared.run.Run.{Run}
use Rattle.run_acts.specs.declared.run.Power.{Power}
use Rattle.run_acts.specs.declared.run.Power.TheVariants.{Lit, Lost}
use Rattle.run_acts.specs.Power.{is_lit}
use Rattle.run_acts.specs.Room.{waiting, falls_of, finds_due, cuts_within, HasRoomFrom, HasRoomWithin, Takes}
use Rattle.tach_media.specs.Medium.{State}
use Rattle.tach_media.specs.card_layout.declared.command.CardState.{CardState}
use Rattle.run_acts.specs.Going.{RunHasPowerAllSeated}
use Rattle.run_acts.proofs.Kept.{owing-sum}
use Rattle.run_acts.proofs.Torn.{bare-two}

-- no more minutes wait than there are
pub few-wait : {U A0 B0 : State} {chip_a chip_b : CardState} (to : ℕ) (run : Run) → RunHasPowerAllSeated to run U chip_a chip_b A0 B0 → run.minutes.owing ≤ run.next / 60
few-wait to run g = let sum = owing-sum run.minutes g.span g.stands in let end = ap (λ (n : ℕ). n / 60) g.next in omega (arith, sum, end)

-- room for more is room for less
pub room-less : (from : Power → ℕ → ℕ) (run : Run) (o : Outcome) (left less offs fewer insertions least actions few : ℕ) → less ≤ left → fewer ≤ offs → least ≤ insertions → few ≤ actions
    → HasRoomFrom from run o left offs insertions actions → HasRoomFrom from run o less fewer least few
room-less from run o left less offs fewer insertions least actions few a b c d h =
    let p = h.breaks in
    let q = h.finds in
    let r = h.marks in
    let s = h.refused in
    record { breaks = omega (arith, a, b, c, p); finds = omega (arith, a, b, c, q); marks = omega (arith, a, b, c, r); refused = omega (arith, d, s) }

-- and for the marks of what a card that is put in was owed
pub put-room : (run : Run) (o : Outcome) (k actions : ℕ) → run.power ≡ Lit → run.minutes.owing ≤ run.next / 60 → HasRoomWithin run o 1 0 k actions → length o.marks.items + 3 * run.minutes.owing + MOST_OWED ≤ o.marks.room
put-room run o k actions lit few h =
    let w = ap (λ (q : Power). waiting q run.minutes.owing) lit in
    let f = ap (λ (q : Power). cuts_within q run.next) lit in
    let d = ap (λ (q : Power). finds_due (is_lit q) run.keeper.cabin) lit in
    let m = h.marks in
    omega (arith, f, w, d, m, few)

module _ (old new : Run) (before after : Outcome) (k : ℕ) (next : new.next ≡ old.next) (lit : old.power ≡ Lit) (takes : Takes k k 0 old new before after) where
  -- power was lost behind it, in the same second
  pub room-cut : (cut : Run) (told : Outcome) → cut.power ≡ Lost → cut.next ≡ new.next → old.minutes.owing ≤ old.next / 60 → falls_of cut.keeper.cabin ≤ falls_of new.keeper.cabin → length told.breaks.items ≡ length after.breaks.items + 1 → told.breaks.room ≡ after.breaks.room
      → told.marks ≡ after.marks → told.finds ≡ after.finds → told.refused ≡ after.refused
      → (left offs insertions actions : ℕ) → HasRoomWithin old before (1 + left) offs (k + insertions) (1 + actions) → HasRoomWithin cut told (1 + left) offs insertions actions
  room-cut cut told lost same few falls one room marks finds refused left offs insertions actions h =
      let f = ap (λ (q : Power). cuts_within q old.next) lit in
      let t = ap (λ (q : Power). cuts_within q cut.next) lost in
      let w = ap (λ (q : Power). waiting q old.minutes.owing) lit in
      let v = ap (λ (q : Power). waiting q cut.minutes.owing) lost in
      let d = ap (λ (q : Power). finds_due (is_lit q) old.keeper.cabin) lit in
      let e = ap (λ (q : Power). finds_due (is_lit q) cut.keeper.cabin) lost in
      let two = bare-two cut.keeper.cabin.slots.seats in
      let r0 = takes.rooms.0 in
      let r1 = takes.rooms.1 in
      let r2 = takes.rooms.2 in
      let r3 = takes.rooms.3 in
      let tm = takes.marks in
      let tb = takes.breaks in
      let tf = takes.finds in
      let tr = takes.refused in
      let m1 = ap (λ l. length l.items) marks in
      let m2 = ap (λ l. l.room) marks in
      let f1 = ap (λ l. length l.items) finds in
      let f2 = ap (λ l. l.room) finds in
      let q1 = ap (λ l. length l.items) refused in
      let q2 = ap (λ l. l.room) refused in
      let b = h.breaks in
      let fi = h.finds in
      let m = h.marks in
      let r = h.refused in
      record {
        breaks = omega (arith, next, same, f, t, r1, tb, b, falls, one, room);
        finds = omega (arith, next, same, f, t, d, e, two, r2, tf, fi, f1, f2);
        marks = omega (arith, next, same, f, t, w, v, d, e, two, r0, tm, few, m, m1, m2);
        refused = omega (arith, r3, tr, r, q1, q2);
      }
