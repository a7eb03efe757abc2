use Rattle.std.proofs.Common.{◌≡◌, ◌∙◌, ℕ, ◌+◌, ◌≤◌, List, [], ◌∷◌, ◌++◌, map, get_or, ap, sym, subst, arith}
use Rattle.std.specs.Prelude.{OnOk}
use Rattle.std.specs.List.{AllByRecursion}
use Rattle.std.proofs.lemmas.List.{map-append}
use Rattle.minute_model.specs.declared.Minute.{Minute}
use Rattle.minute_rules.specs.Alike.{repeated}
use Rattle.view_model.specs.declared.Line.{Line}
use Rattle.view_model.specs.declared.UnitShown.{UnitShown}
use Rattle.view_model.specs.declared.Viewed.{Viewed}
use Rattle.view_model.specs.Lines.{lines_of, same_unit}
use Rattle.tacho.specs.Minutes.{without_card, lines_shown}
use Rattle.tacho.specs.LineRuns.{shown_run}
use Rattle.tacho.specs.declared.minutes.TheConstants.{LAST_TIME}
use Rattle.tacho.proofs.LineRuns.{no_minute, shown_alike, one_of}
use Rattle.tacho.proofs.minutes.show.Goals as goal

-- one minute is decided, so many times
pub with_no_card-requires : goal.with_no_card-requires
with_no_card-requires c =
    let decided : List Minute = c.as_slice-decided.result.now in
    let one : c.args.alike.now.decided.items ≡ get_or decided 0 no_minute ∷ [] = sym c.as_slice-decided.ensures.value ∙ one_of decided no_minute (omega arith) in
    let first = subst (AllByRecursion (λ (m : Minute). m.minute + c.args.alike.now.times ≤ LAST_TIME)) one c.requires in
    omega (arith, first.0)

pub show_run-requires : goal.show_run-requires
show_run-requires c =
    let decided : List Minute = c.as_slice-decided.result.now in
    let one : c.args.alike.now.decided.items ≡ get_or decided 0 no_minute ∷ [] = sym c.as_slice-decided.ensures.value ∙ one_of decided no_minute (omega arith) in
    let first = subst (AllByRecursion (λ (m : Minute). m.minute + c.args.alike.now.times ≤ LAST_TIME)) one c.requires in
    let is : c.with_no_card.result.minute ≡ (get_or decided 0 no_minute).minute + 0 = ap (λ (v : Viewed UnitShown). v.minute) (c.with_no_card.ensures 0) in
    omega (arith, first.0, is)

pub returns-then-count-eq1 : goal.returns-then-count-eq1
returns-then-count-eq1 c = λ speed before is.
    let decided : List Minute = c.as_slice-decided.result.now in
    let ms : List Minute = c.args.alike.now.decided.items in
    let times : ℕ = c.args.alike.now.times in
    let m : Minute = get_or decided 0 no_minute in
    let one : ms ≡ m ∷ [] = sym c.as_slice-decided.ensures.value ∙ one_of decided no_minute (omega arith) in
    let zero_later : m.minute + 0 ≡ m.minute = omega arith in
    let shown : c.with_no_card.result ≡ without_card m = c.with_no_card.ensures speed ∙ ap (λ (k : ℕ). record (without_card m) { minute = k }) zero_later in
    let all : lines_of same_unit (map without_card before ++ shown_run c.with_no_card.result times) ≡ lines_shown (before ++ repeated speed times ms) =
    ap (λ (v : Viewed UnitShown). lines_of same_unit (map without_card before ++ shown_run v times)) shown
    ∙ ap (λ (vs : List (Viewed UnitShown)). lines_of same_unit (map without_card before ++ vs)) (sym (shown_alike speed m times) ∙ ap (λ (xs : List Minute). map without_card (repeated speed times xs)) (sym one))
    ∙ ap (lines_of same_unit) (sym (map-append without_card before (repeated speed times ms))) in
    subst (λ (ls : List (Line UnitShown)). OnOk c.show_run.result (c.show_run.new.lines.items ≡ ls)) all (c.show_run.ensures (map without_card before) is)

-- or some are
pub show_each-requires : goal.show_each-requires
show_each-requires c = subst (AllByRecursion (λ (m : Minute). m.minute + c.args.alike.now.times ≤ LAST_TIME)) (sym c.as_slice-decided.ensures.value) c.requires

pub returns : goal.returns
returns c = λ speed before is.
    subst (λ (xs : List Minute). OnOk c.show_each.result (c.show_each.new.lines.items ≡ lines_shown (before ++ repeated speed c.args.alike.now.times xs))) c.as_slice-decided.ensures.value (c.show_each.ensures speed before is)
