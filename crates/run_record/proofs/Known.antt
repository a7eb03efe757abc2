-- What the record itself knows of a card that is judged: where it sits, and the minute that the unit had kept last.
use Rattle.std.proofs.Common.{◌≡◌, ⊎_elim, ℕ, ◌<◌, ◌≤◌, Option, Some, None, List, [], ◌++◌, All, Contains, refl, ap, sym, subst, ◌∙◌, arith, append-nil}
use Rattle.std.specs.Prelude.{option_to_list}
use Rattle.std.proofs.lemmas.List.Elements.{All-contains}
use Rattle.minute_rules.specs.activity_codec.declared.values.Slot.{Slot}
use Rattle.minute_rules.specs.activity_codec.declared.values.Slot.TheVariants.{Driver, CoDriver}
use Rattle.run_devices.specs.trace_model.declared.Card.{Card}
use Rattle.run_devices.specs.trace_model.Trace.{TraceSecond}
use Rattle.run_devices.specs.log_model.Log.{Phase}
use Rattle.run_devices.specs.log_model.Slots.{Slots, Sitting, in_slot}
use Rattle.run_devices.specs.log_model.Course.{ToldSecond, Visit}
use Rattle.run_devices.specs.history_model.Minutes.{HistoryMinute}
use Rattle.run_devices.specs.history_model.Presence.{Start}
use Rattle.run_devices.specs.history_model.Book.{Book, all, IsMark, Ordered}
use Rattle.run_devices.specs.device_rule.Views.{unit_view}
use Rattle.minute_rules.specs.minute_model.declared.Minute.{Minute}
use Rattle.run_devices.specs.unit_model.Image.{last_kept}
use Rattle.run_devices.specs.unit_rule.Rule.{once_mended}
use Rattle.run_devices.specs.unit_rule.Marks.{UnitFollowsBook}
use Rattle.run_devices.proofs.unit_rule.Moves.{shown-last}
use Rattle.run_devices.specs.safety_model.Safe.{Devices}
use Rattle.run_devices.specs.card_slots.declared.seats.Seat.{Seat}
use Rattle.run_devices.specs.card_slots.Calls.{seat_in}
use Rattle.run_devices.specs.card_slots.Kept.{Kept, put_in, cut_off}
use Rattle.run_devices.specs.run_course.Presence.{IsNewest, SitsAs, SlotsTell}
use Rattle.run_devices.specs.run_course.Seconds.{kept_all}
use Rattle.run_devices.specs.run_promise.Going.{IsTakenAt}
use Rattle.run_devices.proofs.run_promise.Going.{sure-kept}
use Rattle.run_devices.specs.run_promise.Origin.{Origin, first_of}
use Rattle.run_record.specs.Recorded.{Values}
use Rattle.run_record.specs.Within.{RecordInSecond}

-- ---- a card that is not accepted by its seat is not accepted by the log

bare-of : (start : Start) (past : List HistoryMinute) (from : ℕ) (k : Kept) (card : Card) (n a : Option ℕ) → n ≡ None → IsNewest start past from k card n a → a ≡ None
bare-of start past from k card None None none h = refl
bare-of start past from k card None (Some u) none h = absurd h
bare-of start past from k card (Some newest) a none h = absurd (cc)

sits-bare : (start : Start) (past : List HistoryMinute) (from : ℕ) (k : Kept) (seat : Option Seat) (x : Option Sitting) (card : Card) → SitsAs start past from k seat x → seat ≡ Some (record { card = card; newest = None }) →
    x ≡ Some (record { card = card; accepted = None })
sits-bare start past from k None x card h is = absurd (cc)
sits-bare start past from k (Some seat) None card h is = absurd h
sits-bare start past from k (Some seat) (Some y) card h is =
    let bare : Seat = record { card = card; newest = None } in
    let same : seat ≡ bare = cc in
    let own : y.card ≡ card = sym h.0 ∙ ap (λ (z : Seat). z.card) same in
    let none : y.accepted ≡ None = bare-of start past from k seat.card seat.newest y.accepted (ap (λ (z : Seat). z.newest) same) h.1 in
    ap (λ (c : Card). Some (record { card = c; accepted = y.accepted })) own ∙ ap (λ (a : Option ℕ). Some (record { card = card; accepted = a })) none

pub waits-there : (start : Start) (told : List ToldSecond) (past : List HistoryMinute) (left : List Card) (number from : ℕ) (slots : Slots) (k : Kept) → SlotsTell start told past left number from slots k →
    (slot : Slot) (card : Card) → seat_in k.seats slot ≡ Some (record { card = card; newest = None }) → in_slot slots slot ≡ Some (record { card = card; accepted = None })
waits-there start told past left number from slots k h Driver card is = sits-bare start past from k k.seats.driver slots.driver card h.driver is
waits-there start told past left number from slots k h CoDriver card is = sits-bare start past from k k.seats.codriver slots.codriver card h.codriver is

-- a cut takes an acceptance back: slots in which a card of one of them is accepted are cut off as they are without that
pub cut-same : (k : Kept) (slot : Slot) (card : Card) (newest : Option ℕ) (second : ℕ) → seat_in k.seats slot ≡ Some (record { card = card; newest = None }) → cut_off second (put_in slot card newest k) ≡ cut_off second k
cut-same k Driver card newest second is = ap (λ (seat : Option Seat). cut_off second (record k { seats = record k.seats { driver = seat } })) (sym is)
cut-same k CoDriver card newest second is = ap (λ (seat : Option Seat). cut_off second (record k { seats = record k.seats { codriver = seat } })) (sym is)

-- ---- the minute that the unit had kept last

sure-of : (first n : ℕ) (b : Book) → b.maybe ≡ None → IsMark first (all b) n → IsMark first b.sure n
sure-of first n b none h = subst (λ (is : List HistoryMinute). IsMark first is n) (ap (λ (i : Option HistoryMinute). b.sure ++ option_to_list i) none ∙ append-nil b.sure) h

-- it is before what is decided next
pub before-due : (first due n : ℕ) (b : Book) → Ordered first due b → IsMark first (all b) n → n < due
before-due first due n b order mark = ⊎_elim
    (λ (is : n ≡ first). let low = order.begins in omega (arith, is, low))
    (λ one. let at = late one.0 one.1 in let is = one.2 in omega (arith, at, is))
    mark
  where
    late : (i : HistoryMinute) → Contains (all b) i → i.minute < due
    late i there = All-contains (λ (j : HistoryMinute). j.minute < due) (all b) i order.now.until there

module _ (o : Origin) (done : List TraceSecond) (s : TraceSecond) (at : Phase) (waits : List Visit) (speed : Option ℕ) (rest : List Minute) (v : Values) (d : Devices) (w : RecordInSecond o done s at waits speed rest v d) (first : o.found.unit.first ≡ first_of o) (y : List ℕ) (there : d.unit.may_leave y) where
  abbrev book : Book
  book = kept_all w.new w.b.run.book

  unit : UnitFollowsBook (once_mended o.found.unit) w.due book v.marks d.unit
  unit = w.powered.lit.unit

  marks : IsMark o.found.unit.first (all book) (last_kept y)
  marks = subst (IsMark o.found.unit.first (all book)) (shown-last [] [] y) ((unit.unit_holds [] []).now (unit_view [] [] y) (y, there, refl)).mark

  -- an acceptance now is taken at it
  pub taken-now : IsTakenAt (first_of o) w.b.run.book book w.new (last_kept y)
  taken-now = record {
    mark = subst (λ (n : ℕ). IsMark n book.sure (last_kept y)) first (sure-of o.found.unit.first (last_kept y) book w.powered.lit.none marks);
    newest = subst (λ (is : List HistoryMinute). All (λ (i : HistoryMinute). i.minute ≤ last_kept y) is) (sure-kept w.new None w.b.run.book)
        (subst (λ (n : ℕ). All (λ (i : HistoryMinute). i.minute ≤ n) book.sure) (shown-last [] [] y) ((unit.unit_holds [] []).now (unit_view [] [] y) (y, there, refl)).sure);
  }

  pub kept-before : last_kept y < w.due
  kept-before = before-due o.found.unit.first w.due (last_kept y) book (unit.unit_holds [] []).order marks
