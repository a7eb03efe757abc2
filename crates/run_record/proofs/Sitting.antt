-- Who sits in the slots as one card of them is accepted or leaves.
use Rattle.std.proofs.Common.{◌≡◌, ◌⊎◌, inl, inr, ℕ, true, false, Option, Some, None, List, refl, ap, sym, ◌∙◌}
use Rattle.minute_rules.specs.activity_codec.declared.values.Slot.{Slot}
use Rattle.minute_rules.specs.activity_codec.declared.values.Slot.TheVariants.{Driver, CoDriver}
use Rattle.run_devices.specs.trace_model.declared.Card.{Card}
use Rattle.run_devices.specs.trace_model.declared.Card.TheVariants.{A, B}
use Rattle.run_devices.specs.trace_model.Trace.{TraceSecond}
use Rattle.run_devices.specs.log_model.Slots.{Slots, Sitting, same_card, in_slot}
use Rattle.run_devices.specs.log_model.Course.{ToldSecond, with_slot}
use Rattle.run_devices.specs.history_model.Minutes.{HistoryMinute}
use Rattle.run_devices.specs.history_model.Presence.{Start}
use Rattle.run_devices.specs.card_slots.declared.seats.Seat.{Seat}
use Rattle.run_devices.specs.card_slots.Calls.{seat_in, is_card}
use Rattle.run_devices.specs.card_slots.Kept.{Kept}
use Rattle.run_devices.specs.device_rule.Rules.{Standing}
use Rattle.run_devices.specs.safety_model.Safe.{Devices, card_of}
use Rattle.run_devices.specs.run_promise.Found.{Found, found_of}
use Rattle.run_devices.specs.run_course.Presence.{SitsAs, SlotsTell}
use Rattle.run_devices.specs.Presence.{IsSeated, sits}
use Rattle.run_devices.specs.run_promise.Origin.{Origin}
use Rattle.run_devices.specs.run_promise.Ends.{AreVerdicts}
use Rattle.run_devices.specs.run_promise.Beside.{HaveLeftMore}
use Rattle.run_devices.proofs.run_promise.Beside.{kept-later}
use Rattle.run_record.specs.Within.{Beginning}
use Rattle.run_record.proofs.Left.{seen-left}

itself : (c : Card) → same_card c c ≡ true
itself A = refl
itself B = refl

sits-there : (start : Start) (past : List HistoryMinute) (from : ℕ) (k : Kept) (seat : Option Seat) (x : Option Sitting) (m : Sitting) → SitsAs start past from k seat x → x ≡ Some m → is_card seat m.card ≡ true
sits-there start past from k None None m h is = absurd (cc)
sits-there start past from k None (Some y) m h is = absurd h
sits-there start past from k (Some seat) None m h is = absurd h
sits-there start past from k (Some seat) (Some y) m h is =
    let e : y ≡ m = cc in
    ap (λ (c : Card). same_card c m.card) (h.0 ∙ ap (λ (z : Sitting). z.card) e) ∙ itself m.card

-- a card sits in one slot
module _ (start : Start) (told : List ToldSecond) (past : List HistoryMinute) (left : List Card) (number from : ℕ) (slots : Slots) (k : Kept) (h : SlotsTell start told past left number from slots k) where
  across : (m n : Sitting) → slots.driver ≡ Some m → slots.codriver ≡ Some n → m.card ≡ n.card → ⊥
  across m n driver codriver same =
      let a = sits-there start past from k k.seats.driver slots.driver m h.driver driver in
      let b = sits-there start past from k k.seats.codriver slots.codriver n h.codriver codriver in
      let there : is_card k.seats.codriver m.card ≡ true = ap (is_card k.seats.codriver) same ∙ b in
      let clash : true ≡ false = sym there ∙ h.apart m.card a in
      cc

  pub no-twice : (a b : Slot) (m n : Sitting) → in_slot slots a ≡ Some m → in_slot slots b ≡ Some n → m.card ≡ n.card → m ≡ n
  no-twice Driver Driver m n p q same = let e : Some m ≡ Some n = sym p ∙ q in cc
  no-twice CoDriver CoDriver m n p q same = let e : Some m ≡ Some n = sym p ∙ q in cc
  no-twice Driver CoDriver m n p q same = absurd (across m n p q same)
  no-twice CoDriver Driver m n p q same = absurd (across n m q p (sym same))

  -- so who sits accepted is another card than one that waits
  pub another : (a b : Slot) (card x : Card) (u : ℕ) → in_slot slots a ≡ Some (record { card = card; accepted = None }) → in_slot slots b ≡ sits x u → x ≡ card → ⊥
  another a b card x u waits is same =
      let m : Sitting = record { card = card; accepted = None } in
      let n : Sitting = record { card = x; accepted = Some u } in
      let e : m ≡ n = no-twice a b m n waits is (sym same) in
      let clash : None ≡ Some u = ap (λ (z : Sitting). z.accepted) e in
      cc

-- the seat of a card that sits there by the log
seat-of : (start : Start) (past : List HistoryMinute) (from : ℕ) (k : Kept) (seat : Option Seat) (x : Option Sitting) (m : Sitting) → SitsAs start past from k seat x → x ≡ Some m → (y : Seat) × (seat ≡ Some y) × (y.card ≡ m.card)
seat-of start past from k None None m h is = absurd (cc)
seat-of start past from k None (Some y) m h is = absurd h
seat-of start past from k (Some seat) None m h is = absurd h
seat-of start past from k (Some seat) (Some y) m h is = let e : y ≡ m = cc in (seat, refl, h.0 ∙ ap (λ (z : Sitting). z.card) e)

pub seat-there : (start : Start) (told : List ToldSecond) (past : List HistoryMinute) (left : List Card) (number from : ℕ) (slots : Slots) (k : Kept) → SlotsTell start told past left number from slots k →
    (slot : Slot) (m : Sitting) → in_slot slots slot ≡ Some m → (y : Seat) × (seat_in k.seats slot ≡ Some y) × (y.card ≡ m.card)
seat-there start told past left number from slots k h Driver m is = seat-of start past from k k.seats.driver slots.driver m h.driver is
seat-there start told past left number from slots k h CoDriver m is = seat-of start past from k k.seats.codriver slots.codriver m h.codriver is

-- WHO SITS with this in a slot
pub sits-with : (slots : Slots) (a : Slot) (z : Option Sitting) (b : Slot) (x : Card) (u : ℕ) → in_slot (with_slot slots a z) b ≡ sits x u → (z ≡ sits x u) ⊎ (in_slot slots b ≡ sits x u)
sits-with slots Driver z Driver x u is = inl is
sits-with slots CoDriver z CoDriver x u is = inl is
sits-with slots Driver z CoDriver x u is = inr is
sits-with slots CoDriver z Driver x u is = inr is

-- who is seated is so still where it stands as it did
pub seated-still : (f : Found) (old new : Card → Standing) (x : Card) (u : ℕ) → new x ≡ old x → IsSeated f old x u → IsSeated f new x u
seated-still f old new x u same h = (h.0, (h.1.0, same ∙ h.1.1))

-- and what was found so far may be found as more was left
pub verdicts-later : (o : Origin) (done : List TraceSecond) (b : Beginning) (d e : Devices) → HaveLeftMore o d e → AreVerdicts o done b.run.log b.run.unfound b.marks d → AreVerdicts o done b.run.log b.run.unfound b.marks e
verdicts-later o done b d e left h = record {
  kept = kept-later (d.unit.left_since o.found.unit.began) (e.unit.left_since o.found.unit.began) left.unit b.run.unfound b.run.log.breaks h.kept;
  each = λ t x verdict among seen.
      seen-left o done b.run.log b.marks (d.unit.left_since o.found.unit.began) ((card_of d x.card).left_since (found_of o.found x.card).began) (e.unit.left_since o.found.unit.began) ((card_of e x.card).left_since (found_of o.found x.card).began)
      left.unit (left.card x.card) x.card t.second.number verdict (h.each t x verdict among seen);
}
