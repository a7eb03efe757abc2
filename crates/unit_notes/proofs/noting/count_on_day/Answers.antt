use Rattle.std.proofs.Common.{◌≡◌, ◌<◌, ℕ, Option, Some, None, IfSome, [], ◌∷◌, refl, sym, ◌∙◌, subst}
use Rattle.tach_media.proofs.Runs.{starts, weaken, at_image, on_ok, ok_gives, settled_none}
use Rattle.gated_ring.specs.Change.{IsSet}
use Rattle.event_model.specs.Kinds.{places_of}
use Rattle.note_model.specs.Tables.{table_of}
use Rattle.unit_notes.specs.Tables.{place_taken, place_of_day, similar_next, similar_place}
use Rattle.unit_notes.specs.Noting.{IsEventNoted, IsNotingEvent}
use Rattle.unit_notes.proofs.Noted.{noting_day, noted_day, noted_none, told_both, told_same}
use Rattle.unit_notes.proofs.noting.count_on_day.Goals as goal

pub returns-in-Some-clause-moments : goal.returns-in-Some-clause-moments
returns-in-Some-clause-moments g c =
    let kind = c.args.kind in
    let front = c.args.front.now in
    let choice = c.args.choice in
    let below = subst (λ (o : Option ℕ). IfSome o (λ i. i < places_of kind)) c.in-Some.is c.requires.day_below in
    weaken c.count_similar.ensures.moments (λ x d was entry.
    let counted : choice.similar ≡ similar_next kind x (Some c.in-Some.day) = subst (λ (o : Option ℕ). choice.similar ≡ similar_next kind x o) c.in-Some.is (at_image (λ x. choice.similar ≡ similar_next kind x choice.day) was c.requires.similar) in
    noting_day kind front x d c.in-Some.day choice.similar (similar_place kind) below
    (at_image (λ x. None ≡ place_taken kind front x) was c.requires.place)
    (sym c.in-Some.is ∙ at_image (λ x. choice.day ≡ place_of_day kind front x) was c.requires.day)
    counted refl entry)

pub returns-in-Some-clause-noted : goal.returns-in-Some-clause-noted
returns-in-Some-clause-noted g c =
    let kind = c.args.kind in
    let front = c.args.front.now in
    let choice = c.args.choice in
    let below = subst (λ (o : Option ℕ). IfSome o (λ i. i < places_of kind)) c.in-Some.is c.requires.day_below in
    let image = (g.M.Medium.state c.args.unit.now).image in
    on_ok c.count_similar.result (λ fine.
    told_both image image (g.M.Medium.state c.count_similar.new.unit).image
    (IsSet (table_of kind) c.in-Some.day (similar_place kind) (choice.similar ∷ [])) (IsEventNoted kind front) refl (ok_gives c.count_similar.result c.count_similar.ensures.set fine)
    (λ x y was entry.
    let counted : choice.similar ≡ similar_next kind x (Some c.in-Some.day) = subst (λ (o : Option ℕ). choice.similar ≡ similar_next kind x o) c.in-Some.is (at_image (λ x. choice.similar ≡ similar_next kind x choice.day) was c.requires.similar) in
    noted_day kind front x y c.in-Some.day choice.similar (similar_place kind) below
    (at_image (λ x. None ≡ place_taken kind front x) was c.requires.place)
    (sym c.in-Some.is ∙ at_image (λ x. choice.day ≡ place_of_day kind front x) was c.requires.day)
    counted refl entry))

pub returns-in-Some-clause-settled : goal.returns-in-Some-clause-settled
returns-in-Some-clause-settled g c = on_ok c.count_similar.result (λ fine was known. ok_gives c.count_similar.result c.count_similar.ensures.settled fine known)

pub returns-in-None-clause-moments : goal.returns-in-None-clause-moments
returns-in-None-clause-moments g c = starts (g.M.Medium.state c.args.unit.now) (IsNotingEvent c.args.kind c.args.front.now)

pub returns-in-None-clause-noted : goal.returns-in-None-clause-noted
returns-in-None-clause-noted g c =
    let kind = c.args.kind in
    let front = c.args.front.now in
    told_same (g.M.Medium.state c.args.unit.now).image (IsEventNoted kind front) (λ x was.
    noted_none kind front x x (at_image (λ x. None ≡ place_taken kind front x) was c.requires.place)
    (sym c.in-None.is ∙ at_image (λ x. c.args.choice.day ≡ place_of_day kind front x) was c.requires.day) refl)

pub returns-in-None-clause-settled : goal.returns-in-None-clause-settled
returns-in-None-clause-settled g c = settled_none (g.M.Medium.state c.args.unit.now)
