-- What the steps of a power-on take of the room.
use Rattle.std.proofs.Common.{◌≡◌, ◌∙◌, inl, inr, ℕ, ◌+◌, ◌<◌, ◌≤◌, Option, Some, None, [], ◌∷◌, length, refl, ap, arith, length-append}
use Rattle.activity_codec.specs.declared.values.Slot.{Slot}
use Rattle.trace_model.specs.declared.Card.{Card}
use Rattle.run_acts.specs.run_crew.Cabin.{CabinIsSound}
use Rattle.run_minutes.specs.declared.keeper.Moment.{Moment}
use Rattle.run_minutes.specs.Keeping.{with_lines}
use Rattle.run_minutes.proofs.Counts.{lines-length}
use Rattle.run_insertion.specs.declared.lines.Entering.{Entering}
use Rattle.run_insertion.specs.Entering.{ending_of, breaks_by}
use Rattle.run_acts.specs.Power.{cut_run}
use Rattle.run_acts.proofs.Torn.{cut-falls}
use Rattle.recorder_with_cards.specs.Accepting.{IsAccepted, IsAnew}
use Rattle.run_outcome.specs.declared.outcome.Outcome.{Outcome}
use Rattle.log_model.specs.declared.lines.Break.{Break}
use Rattle.run_outcome.specs.Lines.{Listed}
use Rattle.run_minutes.specs.declared.keeper.Keeper.{Keeper}
use Rattle.run_acts.specs.declared.run.Run.{Run}
use Rattle.run_acts.specs.declared.run.Power.{Power}
use Rattle.run_acts.specs.declared.run.Power.TheVariants.{Lit}
use Rattle.run_acts.specs.Room.{waiting, waiting_of, falls_of, bare_seats, Takes}
use Rattle.recorder_with_cards.specs.Waking.{TakesUp, TakesAwake}

-- one call, and another
pub takes-then : (f g : ℕ) (a b c : Run) (o p q : Outcome) → Takes f 0 0 a b o p → Takes g 0 0 b c p q → Takes (f + g) 0 0 a c o q
takes-then f g a b c o p q first next =
    let m = first.marks in
    let n = next.marks in
    let b1 = first.breaks in
    let b2 = next.breaks in
    let f1 = first.finds in
    let f2 = next.finds in
    let r1 = first.refused in
    let r2 = next.refused in
    record {
      rooms = (next.rooms.0 ∙ first.rooms.0, next.rooms.1 ∙ first.rooms.1, next.rooms.2 ∙ first.rooms.2, next.rooms.3 ∙ first.rooms.3);
      marks = omega (arith, m, n);
      breaks = omega (arith, b1, b2);
      finds = omega (arith, f1, f2);
      refused = omega (arith, r1, r2);
    }

-- breaks alone
pub takes-breaks : (old new : Run) (o : Outcome) (breaks : Listed Break) → new ≡ record old { keeper = new.keeper } → breaks.room ≡ o.breaks.room → length breaks.items + falls_of new.keeper.cabin ≤ length o.breaks.items + falls_of old.keeper.cabin
    → Takes 0 0 0 old new o (record o { breaks = breaks })
takes-breaks old new o breaks only room less =
    let w = ap waiting_of only in
    record { rooms = (refl, room, refl, refl); marks = omega (arith, w); breaks = omega (arith, less); finds = omega arith; refused = omega arith }

-- all of them, from the begin of a span on
pub awake-takes : (f : ℕ) (old mid new : Run) (o q : Outcome) → falls_of mid.keeper.cabin ≡ falls_of old.keeper.cabin → mid.power ≡ Lit → mid.minutes.owing ≡ 0 → f ≤ bare_seats old.keeper.cabin.slots.seats → Takes f 0 0 mid new o q → TakesUp old new o q
awake-takes f old mid new o q falls lit none few t =
    let w = ap (λ (p : Power). waiting p mid.minutes.owing) lit in
    let m = t.marks in
    let b = t.breaks in
    let fi = t.finds in
    record {
      rooms = (t.rooms.0, t.rooms.1, t.rooms.2);
      marks = omega (arith, m, w, none, few);
      breaks = omega (arith, b, falls);
      finds = omega (arith, fi, few);
    }

-- nothing yet
pub takes-nothing : (run : Run) (o : Outcome) → TakesUp run run o o
takes-nothing run o = record { rooms = (refl, refl, refl); marks = omega arith; breaks = omega arith; finds = omega arith }

-- behind what the unit's journal tells of the cuts before
module _ (old mid new : Run) (o : Outcome) (learned : Listed Break) (q : Outcome) (keeper : mid.keeper ≡ old.keeper) (same : length learned.items ≡ length o.breaks.items) (room : learned.room ≡ o.breaks.room)
    (t : TakesUp mid new (record o { breaks = learned }) q) where
  falls : falls_of mid.keeper.cabin ≡ falls_of old.keeper.cabin
  falls = ap (λ (k : Keeper). falls_of k.cabin) keeper

  bare : bare_seats mid.keeper.cabin.slots.seats ≡ bare_seats old.keeper.cabin.slots.seats
  bare = ap (λ (k : Keeper). bare_seats k.cabin.slots.seats) keeper

  pub up-room : length o.breaks.items + falls_of old.keeper.cabin < o.breaks.room → length q.breaks.items < q.breaks.room
  up-room less =
      let f = falls in
      let b = t.breaks in
      let r = t.rooms.1 in
      omega (arith, less, f, b, r, same, room)

  pub up-awake : TakesAwake old new o q
  up-awake =
      let f = falls in
      let d = bare in
      let m = t.marks in
      let b = t.breaks in
      let fi = t.finds in
      record {
        rooms = (t.rooms.0, t.rooms.1 ∙ room, t.rooms.2);
        marks = omega (arith, m, d);
        breaks = inl (omega (arith, b, f, same));
        finds = omega (arith, fi, d);
      }

  -- and power was lost behind it
  pub up-lost : (second from : ℕ) (leaving : Option Card) (line : Break) (cut : Run) (told : Listed Break) → CabinIsSound from leaving new.keeper.cabin → cut ≡ cut_run second new → told ≡ with_lines (line ∷ []) q.breaks
      → TakesAwake old cut o (record q { breaks = told })
  up-lost second from leaving line cut told stands is behind =
      let f = falls in
      let d = bare in
      let m = t.marks in
      let b = t.breaks in
      let fi = t.finds in
      let less = cut-falls second from leaving new.keeper.cabin stands in
      let dark = ap (λ (r : Run). falls_of r.keeper.cabin) is in
      let one = ap (λ (l : Listed Break). length l.items) behind ∙ lines-length (line ∷ []) q.breaks in
      record {
        rooms = (t.rooms.0, ap (λ (l : Listed Break). l.room) behind ∙ t.rooms.1 ∙ room, t.rooms.2);
        marks = omega (arith, m, d);
        breaks = inr (ap (λ (r : Run). r.power) is, omega (arith, b, f, same, less, dark, one));
        finds = omega (arith, fi, d);
      }

-- ---- breaks

pub accepted-more : (e : Entering) (old new : Run) (o p : Outcome) → IsAccepted e old new o p → length o.breaks.items ≤ length p.breaks.items
accepted-more e old new o p h =
    let more = ap (λ (q : Outcome). length q.breaks.items) h.left.outcome in
    let sum = length-append o.breaks.items (breaks_by (ending_of h.way) e) in
    omega (arith, more, sum)

pub anew-more : (card : Option Card) (slot : Slot) (at : Moment) (speed : ℕ) (old new : Run) (o p : Outcome) → IsAnew card slot at speed old new o p → length o.breaks.items ≤ length p.breaks.items
anew-more None slot at speed old new o p h = let same = ap (λ (q : Outcome). length q.breaks.items) h.1 in omega (arith, same)
anew-more (Some card) slot at speed old new o p h = accepted-more h.0 old new o p h.2
