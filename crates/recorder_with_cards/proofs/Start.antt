-- A run as the opening leaves it.
use Rattle.std.proofs.Common.{◌≡◌, None, List, length, ap, arith}
use Rattle.std.specs.Prelude.{Result, Ok, Err, IfErr}
use Rattle.trace_model.specs.declared.Card.{Card}
use Rattle.trace_model.specs.declared.Card.TheVariants.{A, B}
use Rattle.trace_model.specs.declared.Item.{Item}
use Rattle.trace_model.specs.Trace.{total_seconds}
use Rattle.log_model.specs.declared.lines.Mark.{Mark}
use Rattle.log_model.specs.declared.lines.Break.{Break}
use Rattle.log_model.specs.declared.lines.Find.{Find}
use Rattle.log_model.specs.declared.lines.Refused.{Refused}
use Rattle.run_minutes.specs.card_slots.Kept.{nothing_yet}
use Rattle.run_acts.specs.run_crew.declared.cards.Cards.{Cards}
use Rattle.run_acts.specs.run_crew.declared.cabin.Cabin.{Cabin}
use Rattle.run_acts.specs.run_crew.Cards.{session_of}
use Rattle.run_minutes.specs.Keeping.{tears_of}
use Rattle.run_outcome.specs.Lines.{Listed}
use Rattle.run_outcome.specs.declared.outcome.Outcome.{Outcome}
use Rattle.run_outcome.specs.Room.{offs, insertions, IsReserved}
use Rattle.run_acts.specs.declared.run.Run.{Run}
use Rattle.run_acts.specs.declared.run.Power.{Power}
use Rattle.run_acts.specs.declared.run.Power.TheVariants.{Due}
use Rattle.run_acts.specs.Power.{is_lit}
use Rattle.run_acts.specs.Room.{waiting, falls_of, bare_seats, finds_due, cuts_from, HasRoom}

-- what holds of each error
pub if-err : {A E : Type 0} {P Q : E → Type 0} (r : Result A E) → ((e : E) → P e → Q e) → IfErr r P → IfErr r Q
if-err (Ok a) all h = tt
if-err (Err e) all h = all e h

-- no card is accepted yet
pub none-yet : (cards : Cards) → cards.a.accepted ≡ None → cards.b.accepted ≡ None → (card : Card) → session_of cards card ≡ None
none-yet cards a b A = a
none-yet cards a b B = b

-- and none sits in a slot
pub no-falls : (cabin : Cabin) → cabin.slots ≡ nothing_yet → cabin.cards.a.accepted ≡ None → cabin.cards.b.accepted ≡ None → falls_of cabin ≡ 0
no-falls cabin slots a b =
    let s = ap (λ k. bare_seats k.seats) slots in
    let x = ap tears_of a in
    let y = ap tears_of b in
    omega (arith, s, x, y)

pub no-seats : (cabin : Cabin) → cabin.slots ≡ nothing_yet → bare_seats cabin.slots.seats ≡ 0
no-seats cabin slots = ap (λ k. bare_seats k.seats) slots

-- what was reserved is room for the whole trace
pub room-start : (run : Run) (o : Outcome) (items : List Item) → run.power ≡ Due → falls_of run.keeper.cabin ≡ 0 → bare_seats run.keeper.cabin.slots.seats ≡ 0 → IsReserved items o
    → HasRoom run o (total_seconds items) (offs items) (insertions items) (length items)
room-start run o items due falls seats r =
    let f = ap (λ (q : Power). cuts_from q run.next) due in
    let w = ap (λ (q : Power). waiting q run.minutes.owing) due in
    let d = ap (λ (q : Power). finds_due (is_lit q) run.keeper.cabin) due in
    let m1 = ap (λ (l : Listed Mark). length l.items) r.marks in
    let m2 = ap (λ (l : Listed Mark). l.room) r.marks in
    let b1 = ap (λ (l : Listed Break). length l.items) r.breaks in
    let b2 = ap (λ (l : Listed Break). l.room) r.breaks in
    let f1 = ap (λ (l : Listed Find). length l.items) r.finds in
    let f2 = ap (λ (l : Listed Find). l.room) r.finds in
    let q1 = ap (λ (l : Listed Refused). length l.items) r.refused in
    let q2 = ap (λ (l : Listed Refused). l.room) r.refused in
    record {
      breaks = omega (arith, f, falls, b1, b2);
      finds = omega (arith, f, d, seats, f1, f2);
      marks = omega (arith, f, w, d, seats, m1, m2);
      refused = omega (arith, q1, q2);
    }
