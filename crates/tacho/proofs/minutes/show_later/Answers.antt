use Rattle.std.proofs.Common.{◌≡◌, ◌∙◌, ℕ, suc, zero, ◌+◌, ◌<◌, ◌≤◌, List, [], ◌∷◌, ◌++◌, sym, ap, map, take, length, get_or, arith, append_assoc}
use Rattle.std.specs.List.{AllByRecursion}
use Rattle.std.proofs.lemmas.List.{take_more, map-append}
use Rattle.minute_model.specs.declared.Minute.{Minute}
use Rattle.minute_rules.specs.Alike.{minute_later}
use Rattle.view_model.specs.declared.UnitShown.{UnitShown}
use Rattle.view_model.specs.declared.Viewed.{Viewed}
use Rattle.view_model.specs.Lines.{lines_of, same_unit}
use Rattle.tacho.specs.Minutes.{without_card}
use Rattle.tacho.specs.declared.minutes.TheConstants.{LAST_TIME}
use Rattle.tacho.proofs.minutes.show_later.Goals as goal

-- one of minutes that are all early enough
early-at : (later : ℕ) (minutes : List Minute) (i : ℕ) (d : Minute) → AllByRecursion (λ (m : Minute). m.minute + later ≤ LAST_TIME) minutes → i < length minutes → (get_or minutes i d).minute + later ≤ LAST_TIME
early-at later [] i d all lt = absurd (omega (arith, lt))
early-at later (m ∷ minutes) zero d all lt = all.0
early-at later (m ∷ minutes) (suc i) d all lt = early-at later minutes i d all.1 (omega (arith, lt))

pub with_no_card-requires : goal.with_no_card-requires
with_no_card-requires c = early-at c.args.later c.args.minutes.now c.loop-minute.minute-index _ c.requires (omega arith)

-- one minute more of some behind others, each so much later
shown-more : (f : Minute → Minute) (before minutes : List Minute) (i : ℕ) (d : Minute) → i < length minutes → map without_card (before ++ map f (take i minutes)) ++ without_card (f (get_or minutes i d)) ∷ [] ≡ map without_card (before ++ map f (take (i + 1) minutes))
shown-more f before minutes i d lt =
    sym (map-append without_card (before ++ map f (take i minutes)) (f (get_or minutes i d) ∷ []))
    ∙ ap (map without_card) (append_assoc before (map f (take i minutes)) (f (get_or minutes i d) ∷ [])
    ∙ ap (λ (ms : List Minute). before ++ ms) (sym (ap (map f) (take_more minutes i d lt) ∙ map-append f (take i minutes) (get_or minutes i d ∷ []))))

pub loop-minute-preserved : goal.loop-minute-preserved
loop-minute-preserved c = λ speed before is.
    let f : Minute → Minute = minute_later c.args.later speed in
    let shown = map without_card (before ++ map f (take c.loop-minute.minute-index c.args.minutes.now)) in
    c.in_ok-add_minute.ensures shown (c.loop-minute.invariant speed before is)
    ∙ ap (λ (v : Viewed UnitShown). lines_of same_unit (shown ++ v ∷ [])) (c.with_no_card.ensures speed)
    ∙ ap (lines_of same_unit) (shown-more f before c.args.minutes.now c.loop-minute.minute-index _ (omega arith))
