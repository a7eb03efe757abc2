-- The seconds with power of a trace that goes on.
use Rattle.std.proofs.Common.{◌≡◌, ◌∙◌, List, [], ◌∷◌, ◌++◌, refl, ap}
use Rattle.std.specs.Prelude.{map, filter}
use Rattle.std.proofs.lemmas.List.{map-append}
use Rattle.std.proofs.lemmas.List.Elements.{filter-append}
use Rattle.activity_codec.specs.declared.values.Slot.{Slot}
use Rattle.activity_codec.specs.declared.values.Pick.{Pick}
use Rattle.minute_model.specs.Second.{Second}
use Rattle.trace_model.specs.declared.Action.{Action}
use Rattle.trace_model.specs.declared.Action.TheVariants.{Select, Insert, Withdraw, Tear, Place, Manual}
use Rattle.trace_model.specs.Trace.{TraceSecond}
use Rattle.run_model.specs.Span.{picks_of, span_of}

-- the selections among some actions and one more
pub picks_of-more : (actions : List Action) (slot : Slot) (pick : Pick) → picks_of (actions ++ Select slot pick ∷ []) ≡ picks_of actions ++ (slot, pick) ∷ []
picks_of-more [] slot pick = refl
picks_of-more (Select s p ∷ actions) slot pick = ap (λ (ps : List (Slot × Pick)). (s, p) ∷ ps) (picks_of-more actions slot pick)
picks_of-more (Insert s card ∷ actions) slot pick = picks_of-more actions slot pick
picks_of-more (Withdraw s ∷ actions) slot pick = picks_of-more actions slot pick
picks_of-more (Tear s ∷ actions) slot pick = picks_of-more actions slot pick
picks_of-more (Place s ending country region ∷ actions) slot pick = picks_of-more actions slot pick
picks_of-more (Manual s p minute ∷ actions) slot pick = picks_of-more actions slot pick

-- the seconds with power of some seconds and of others
pub span_of-append : (xs ys : List TraceSecond) → span_of (xs ++ ys) ≡ span_of xs ++ span_of ys
span_of-append xs ys =
    let f : TraceSecond → Second = λ s. record { number = s.number; speed = s.speed; picks = picks_of s.actions } in
    ap (map f) (filter-append (λ (s : TraceSecond). s.has_power) xs ys) ∙ map-append f (filter (λ (s : TraceSecond). s.has_power) xs) (filter (λ (s : TraceSecond). s.has_power) ys)
