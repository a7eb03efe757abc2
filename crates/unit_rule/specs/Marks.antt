-- The unit and the minutes that it has acknowledged, between two calls (profile).
use Rattle.std.specs.Prelude.{◌≡◌, ℕ, ◌<◌, ◌≤◌, true, List, All, Contains}
use Rattle.run_unit_course.specs.run_model.declared.Device.TheVariants.{Unit as Recorder}
use Rattle.tach_media.specs.Medium.{State}
use Rattle.unit_minutes.specs.unit_model.Decoding.{Decodes}
use Rattle.run_unit_course.specs.log_model.declared.lines.Mark.{Mark}
use Rattle.run_unit_course.specs.history_model.Minutes.{HistoryMinute}
use Rattle.run_unit_course.specs.history_model.Book.{Book}
use Rattle.safety_model.specs.device_rule.Rules.{Acknowledges}
use Rattle.safety_model.specs.Unit.{marks_of, IsPrompt, Increase, issued_bytes}
use Rattle.unit_rule.specs.Rule.{Started, seen_unit, IsRuled, HasRowsOn, HasRowsMended}

-- a mark's minute is a sure one, it is told at once, and every image since its clock is not behind it
pub record MarkIsKept (s : Started) (b : Book) (unit : State) (m : Mark) : Type 0 where
  pub began : s.began ≤ m.clock
  pub prompt : IsPrompt unit m
  pub holds : (number_a number_b : List ℕ)
      → Acknowledges (λ u. u.last) m.minute m.clock (seen_unit number_a number_b unit)
  pub sure : (i : HistoryMinute) × Contains b.sure i × (i.minute ≡ m.minute)

-- Between two calls: the unit's rule, whatever numbers the cards have; every image that a stop might have left since
-- the start decodes, has what the unit was issued with, and owed rows that go on from the start's; once the unit was
-- mended, each that it may leave now has no later cell in the rows that stand; and of the marks those of the unit are
-- held, increase, and are earlier than what is decided next.
pub record UnitFollowsBook (s : Started) (due : ℕ) (b : Book) (marks : List Mark) (unit : State) : Type 0 where
  pub unit_holds : (number_a number_b : List ℕ) → IsRuled s due b (seen_unit number_a number_b unit)
  pub decodes : (x : List ℕ) → unit.left_since s.began x → Decodes x
  pub issued : (x : List ℕ) → unit.left_since s.began x → issued_bytes x ≡ s.issued
  pub rows : (x : List ℕ) → unit.left_since s.began x → HasRowsOn s x
  pub low : s.mended ≡ true → (x : List ℕ) → unit.may_leave x → HasRowsMended s x
  pub marks_hold : All (MarkIsKept s b unit) (marks_of Recorder marks)
  pub marks_rise : Increase (marks_of Recorder marks)
  pub marks_until : All (λ m. m.minute < due) (marks_of Recorder marks)
