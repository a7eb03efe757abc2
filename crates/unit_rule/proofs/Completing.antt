-- Where each sure minute is marked the marks are those of a front of the history, and what is left where nothing was lost.
use Rattle.std.proofs.Common.{◌≡◌, inl, inr, ⊎_elim, ℕ, ◌+◌, true, false, Option, Some, None, List, [], ◌∷◌, ◌++◌, refl, ap, sym, subst, ◌∙◌, arith, map, length, length-append}
use Rattle.std.proofs.lemmas.List.{map-append}
use Rattle.run_unit_course.specs.run_model.declared.Device.TheVariants.{Unit as Recorder}
use Rattle.tach_media.specs.Medium.{State}
use Rattle.unit_minutes.specs.unit_model.Days.{newest_days}
use Rattle.unit_minutes.specs.unit_model.Image.{recorded}
use Rattle.run_unit_course.specs.log_model.declared.lines.Mark.{Mark}
use Rattle.run_unit_course.specs.history_model.Minutes.{HistoryMinute, up_to}
use Rattle.run_unit_course.specs.history_model.Book.{Book, all, IsNext, Follows, AreLost}
use Rattle.run_unit_course.proofs.history_model.Books.{all-none, up_to-whole}
use Rattle.safety_model.specs.device_rule.Views.{unit_view}
use Rattle.safety_model.specs.device_rule.Filling.{FillsDays, filled_with}
use Rattle.safety_model.specs.device_rule.Rules.{Shows}
use Rattle.safety_model.specs.Unit.{marks_of}
use Rattle.unit_rule.specs.Rule.{Started}
use Rattle.unit_rule.specs.Marks.{UnitFollowsBook}
use Rattle.unit_rule.specs.Complete.{AreMarksOf}
use Rattle.unit_rule.proofs.Moves.{shown-days}

abbrev minutes_of : List Mark → List ℕ
minutes_of marks = map (λ m. m.minute) marks

-- the marks are the minutes of a front of the history
pub marks-front : (past : List HistoryMinute) (lost : List (List HistoryMinute)) (b : Book) (marks : List Mark) → AreMarksOf b marks → b.maybe ≡ None → Follows past lost b →
    (rest : List HistoryMinute) × (map (λ i. i.minute) past ≡ minutes_of (marks_of Recorder marks) ++ map (λ i. i.minute) rest)
marks-front past lost b marks are none follows = (
  follows.front.0,
  ap numbers (follows.front.1 ∙ ap (λ (is : List HistoryMinute). is ++ follows.front.0) (all-none b none)) ∙ map-append (λ (i : HistoryMinute). i.minute) b.sure follows.front.0
      ∙ ap (λ (ns : List ℕ). ns ++ numbers follows.front.0) (sym are),
)
  where
    numbers : List HistoryMinute → List ℕ
    numbers is = map (λ (i : HistoryMinute). i.minute) is

-- no list that goes on is a front
no-front : (sure past rest : List HistoryMinute) (i : HistoryMinute) → past ≡ sure ++ i ∷ [] → sure ≡ past ++ rest → {P : Type 0} → P
no-front sure past rest i is front = absurd (
    let long : length sure ≡ length past + length rest = ap length front ∙ length-append past rest in
    let longer : length past ≡ length sure + 1 = ap length is ∙ length-append sure (i ∷ []) in omega (arith, long, longer))

-- WHAT IS LEFT: where nothing was lost, each image that a stop may leave has all sure minutes, of which the newest 366 days are retained
pub left-whole : (s : Started) (due : ℕ) (b : Book) (marks : List Mark) (unit : State) → UnitFollowsBook s due b marks unit → b.maybe ≡ None → AreLost [] b → (x : List ℕ) → unit.may_leave x → recorded x ≡ newest_days 366 (filled_with s.days b.sure)
left-whole s due b marks unit h none lost x left = go shown.next comes days
  where
    shown : Shows (FillsDays s.days) s.first b (unit_view [] [] x)
    shown = (h.unit_holds [] []).now (unit_view [] [] x) (x, left, refl)

    same : up_to (unit_view [] [] x).last (all b) ≡ b.sure
    same = ap (up_to (unit_view [] [] x).last) (all-none b none) ∙ up_to-whole (unit_view [] [] x).last b.sure shown.sure

    comes : IsNext b b.sure shown.next
    comes = subst (λ (zs : List HistoryMinute). IsNext b zs shown.next) same shown.comes

    days : FillsDays s.days shown.next b.sure (recorded x)
    days = subst (λ (zs : List HistoryMinute). FillsDays s.days shown.next zs (recorded x)) same (subst (FillsDays s.days shown.next (up_to (unit_view [] [] x).last (all b))) (shown-days [] [] x) shown.days)

    go : (next : Option HistoryMinute) → IsNext b b.sure next → FillsDays s.days next b.sure (recorded x) → recorded x ≡ newest_days 366 (filled_with s.days b.sure)
    go None comes (inl whole) = whole
    go None comes (inr less) = absurd (let no : false ≡ true = less.0 in cc)
    go (Some i) (inl front) days = no-front b.sure (b.sure ++ i ∷ []) front.0 i refl (sym (all-none b none) ∙ front.1)
    go (Some i) (inr gone) days = ⊎_elim (λ front. no-front b.sure (b.sure ++ i ∷ []) front.0 i refl front.1) (λ never. absurd (omega (arith, never.1))) (lost (b.sure ++ i ∷ []) gone)
