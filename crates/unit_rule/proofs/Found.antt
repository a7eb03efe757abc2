-- Power is back: what the power-on finds.
use Rattle.std.proofs.Common.{◌≡◌, ℕ, ◌<◌, true, Some, List, [], refl, sym, ◌∙◌, arith}
use Rattle.tach_media.specs.Medium.{State, IsCoherent}
use Rattle.unit_minutes.specs.unit_model.Image.{last_kept}
use Rattle.unit_minutes.specs.unit_model.Decoding.{Decodes}
use Rattle.run_unit_course.specs.log_model.declared.lines.Mark.{Mark}
use Rattle.run_unit_course.specs.history_model.Book.{Book}
use Rattle.run_unit_course.proofs.history_model.Books.{mark-earlier}
use Rattle.safety_model.specs.device_rule.Views.{unit_view}
use Rattle.unit_rule.specs.Rule.{Started}
use Rattle.unit_rule.specs.Marks.{UnitFollowsBook}
use Rattle.unit_rule.proofs.Moves.{shown-last}

-- a unit that works and tells an image leaves that alone
pub one-image : (unit : State) (x : List ℕ) → IsCoherent unit → unit.works ≡ true → unit.image ≡ Some x → (c : List ℕ) → unit.may_leave c → c ≡ x
one-image unit x whole works is c left = let told = whole.only c works left in let same : Some c ≡ Some x = sym told ∙ is in cc

-- an image that a stop may leave now has an earlier last-kept minute than may be decided next
pub left-earlier : (s : Started) (due : ℕ) (b : Book) (marks : List Mark) (unit : State) → UnitFollowsBook s due b marks unit → (x : List ℕ) → unit.may_leave x → last_kept x < due
left-earlier s due b marks unit h x left =
    let rule = h.unit_holds [] [] in
    let early = mark-earlier s.first due b (unit_view [] [] x).last rule.order (rule.now (unit_view [] [] x) (x, left, refl)).mark in
    omega (arith, early, shown-last [] [] x)

-- and decodes
pub left-decodes : (s : Started) (due : ℕ) (b : Book) (marks : List Mark) (unit : State) → IsCoherent unit → UnitFollowsBook s due b marks unit → (x : List ℕ) → unit.may_leave x → Decodes x
left-decodes s due b marks unit whole h x left = h.decodes x (whole.counts_now s.began x (h.unit_holds [] []).later left)
