-- The cards with sessions left a slot last no later than in the first minute that is still to be kept.
use Rattle.std.proofs.Common.{◌≡◌, inl, ⊎_elim, ℕ, ◌/◌, ◌≤◌, true, Option, Some, None, IfSome, nat_eq, List, [], ◌++◌, refl, ap, subst, ◌∙◌, arith}
use Rattle.std.proofs.lemmas.Bool.Decides.{nat_tests}
use Rattle.run_devices.specs.trace_model.declared.Card.{Card}
use Rattle.run_devices.specs.trace_model.declared.Card.TheVariants.{A, B}
use Rattle.run_devices.specs.trace_model.Trace.{TraceSecond}
use Rattle.run_devices.specs.log_model.Log.{RunLog, Phase}
use Rattle.run_devices.specs.log_model.Slots.{Slots}
use Rattle.run_devices.specs.log_model.Course.{ToldSecond, Before, Visit}
use Rattle.run_devices.specs.history_model.Minutes.{HistoryMinute}
use Rattle.run_devices.specs.history_model.Presence.{Start}
use Rattle.run_devices.specs.safety_model.Safe.{Devices}
use Rattle.run_devices.specs.card_slots.declared.seats.Lefts.{Lefts}
use Rattle.run_devices.specs.card_slots.Kept.{Kept, is_minute, left_in, left_of}
use Rattle.run_devices.specs.run_crew.declared.cabin.Cabin.{Cabin}
use Rattle.run_devices.specs.run_course.Presence.{SlotsTell}
use Rattle.run_devices.specs.run_promise.Origin.{Origin, start_at}
use Rattle.run_record.specs.Recorded.{Values, AreBack}
use Rattle.run_record.specs.Within.{told_before, course_in, AreBackAt, RecordInSecond}

same-number : (u : ℕ) → nat_eq u u ≡ true
same-number u = grind (arith, nat_tests)

left-then : (left : Lefts) (card : Card) (n : ℕ) → left_of left card ≡ Some n → left_in left card n ≡ true
left-then left A n is = ap (λ (o : Option ℕ). is_minute o n) is ∙ same-number n
left-then left B n is = ap (λ (o : Option ℕ). is_minute o n) is ∙ same-number n

-- none left later than now
pub left-by_now : (start : Start) (told : List ToldSecond) (past : List HistoryMinute) (left : List Card) (number from : ℕ) (slots : Slots) (k : Kept) → SlotsTell start told past left number from slots k →
    (card : Card) → IfSome (left_of k.left card) (λ n. n ≤ number / 60)
left-by_now start told past left number from slots k h = λ card. by (left_of k.left card) card refl
  where
    by : (o : Option ℕ) (card : Card) → left_of k.left card ≡ o → IfSome o (λ n. n ≤ number / 60)
    by None card is = tt
    by (Some n) card is = h.latest card n (left-then k.left card n is)

pub back-by_now : (start : Start) (told : List ToldSecond) (past : List HistoryMinute) (left : List Card) (number from : ℕ) (slots : Slots) (cabin : Cabin) → SlotsTell start told past left number from slots cabin.slots → AreBack (number / 60) cabin
back-by_now start told past left number from slots cabin h = λ card some. left-by_now start told past left number from slots cabin.slots h card

pub low-too : (low m : ℕ) (o : Option ℕ) → low ≤ m → IfSome o (λ left. left ≤ low) → IfSome o (λ left. left ≤ m)
low-too low m None le h = tt
low-too low m (Some left) le h = omega (arith, le, h)

-- nobody is leaving
pub back-at : (log : RunLog) (before : Before) (s : TraceSecond) (at : Phase) (low high : ℕ) (cabin : Cabin) → AreBack low cabin → AreBackAt log before s at low high cabin
back-at log before s at low high cabin h = λ card some. inl (h card some)

-- once all minutes that a second has decided are kept, a card that is leaving is back too
module _ (o : Origin) (done : List TraceSecond) (s : TraceSecond) (at : Phase) (waits : List Visit) (speed : Option ℕ) (v : Values) (d : Devices) (w : RecordInSecond o done s at waits speed [] v d) where
  pub back-plain : AreBack w.from v.cabin
  back-plain = λ card some. ⊎_elim
      (λ plain. plain)
      (λ leaving.
      let to = leaving.1.to in
      subst (λ (n : ℕ). IfSome (left_of v.cabin.slots.left card) (λ left. left ≤ n)) (let e : s.number / 60 ≡ w.from = omega (arith, to) in e)
      (left-by_now (start_at o) (told_before w.b done) (w.b.run.book.sure ++ w.new) (course_in w.b done s at v.log).left s.number w.from (course_in w.b done s at v.log).slots v.cabin.slots w.tells card))
      (w.back card some)
