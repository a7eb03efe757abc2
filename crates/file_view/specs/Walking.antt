-- A day of a string, by its head.
use Rattle.std.specs.Prelude.{◌≡◌, ℕ, List}
use Rattle.card_model.specs.Days.{Day, IsDay}
use Rattle.card_model.specs.Image.{StringShape, IsAt}
use Rattle.card_days.specs.declared.head.DayHead.{DayHead}
use Rattle.card_days.specs.Heads.{day_head}

-- the day stands there, and this is its head
pub record IsDayAt (r : StringShape) (x : List ℕ) (head : DayHead) (d : Day) : Type 0 where
  pub here : IsAt r x head.place d
  pub head_is : head ≡ day_head head.place d
  pub day : IsDay d
