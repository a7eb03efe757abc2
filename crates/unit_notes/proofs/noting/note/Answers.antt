use Rattle.std.proofs.Common.{◌≡◌, ◌<◌, ℕ, Option, Some, None, IfSome, List, refl, sym, ◌∙◌, subst}
use Rattle.tach_media.proofs.Runs.{after_reads, weaken, at_image, on_ok, ok_gives, settled_then, if_told}
use Rattle.gated_ring.specs.Change.{IsReplaced}
use Rattle.event_model.specs.Kinds.{places_of}
use Rattle.note_model.specs.Tables.{table_of}
use Rattle.unit_notes.specs.Tables.{place_taken, place_of_day, similar_next, with_similar}
use Rattle.unit_notes.specs.Noting.{IsEventNoted}
use Rattle.unit_notes.proofs.Noted.{noting_place, noted_place, told_both, settled_reads}
use Rattle.unit_notes.proofs.noting.note.Goals as goal

pub returns-in-Some-clause-moments : goal.returns-in-Some-clause-moments
returns-in-Some-clause-moments g c =
    let kind = c.args.kind in
    let front = c.args.front.now in
    let choice = c.in_ok-choice.choice in
    let found = c.in_ok-choice.ensures in
    let below = subst (λ (o : Option ℕ). IfSome o (λ i. i < places_of kind)) c.in-Some.is found.place_below in
    after_reads found.reads.leaves (found.reads.same refl) (weaken c.put_entry.ensures.moments (λ x d is entry.
    let was : (g.M.Medium.state c.args.unit.now).image ≡ Some x = sym (found.reads.same refl) ∙ is in
    noting_place kind front x d c.in-Some.place choice.similar choice.day _ below
    (sym c.in-Some.is ∙ at_image (λ x. choice.place ≡ place_taken kind front x) was found.place)
    (at_image (λ x. choice.day ≡ place_of_day kind front x) was found.day)
    (at_image (λ x. choice.similar ≡ similar_next kind x choice.day) was found.similar)
    refl entry))

pub returns-in-Some-clause-noted : goal.returns-in-Some-clause-noted
returns-in-Some-clause-noted g c =
    let kind = c.args.kind in
    let front = c.args.front.now in
    let choice = c.in_ok-choice.choice in
    let found = c.in_ok-choice.ensures in
    let below = subst (λ (o : Option ℕ). IfSome o (λ i. i < places_of kind)) c.in-Some.is found.place_below in
    on_ok c.put_entry.result (λ fine.
    told_both (g.M.Medium.state c.args.unit.now).image _ (g.M.Medium.state c.put_entry.new.unit).image
    (IsReplaced (table_of kind) c.in-Some.place (with_similar kind choice.similar front)) (IsEventNoted kind front) (found.reads.same refl) (ok_gives c.put_entry.result c.put_entry.ensures.replaced fine)
    (λ x y was entry.
    noted_place kind front x y c.in-Some.place choice.similar choice.day _ below
    (sym c.in-Some.is ∙ at_image (λ x. choice.place ≡ place_taken kind front x) was found.place)
    (at_image (λ x. choice.day ≡ place_of_day kind front x) was found.day)
    (at_image (λ x. choice.similar ≡ similar_next kind x choice.day) was found.similar)
    refl entry))

pub returns-in-Some-clause-settled : goal.returns-in-Some-clause-settled
returns-in-Some-clause-settled g c = on_ok c.put_entry.result (λ fine was known. ok_gives c.put_entry.result c.put_entry.ensures.settled fine known)

pub count_on_day-requires-clause-place : goal.count_on_day-requires-clause-place
count_on_day-requires-clause-place g c =
    let found = c.in_ok-choice.ensures in
    let none : Option ℕ = None in
    if_told _ _ (λ x is. sym c.in-None.is ∙ at_image (λ x. c.in_ok-choice.choice.place ≡ place_taken c.args.kind c.args.front.now x) (sym (found.reads.same refl) ∙ is) found.place)

pub count_on_day-requires-clause-day : goal.count_on_day-requires-clause-day
count_on_day-requires-clause-day g c =
    let found = c.in_ok-choice.ensures in
    subst (λ (o : Option (List ℕ)). IfSome o (λ x. c.in_ok-choice.choice.day ≡ place_of_day c.args.kind c.args.front.now x)) (sym (found.reads.same refl)) found.day

pub count_on_day-requires-clause-similar : goal.count_on_day-requires-clause-similar
count_on_day-requires-clause-similar g c =
    let found = c.in_ok-choice.ensures in
    subst (λ (o : Option (List ℕ)). IfSome o (λ x. c.in_ok-choice.choice.similar ≡ similar_next c.args.kind x c.in_ok-choice.choice.day)) (sym (found.reads.same refl)) found.similar

pub returns-in-None-clause-moments : goal.returns-in-None-clause-moments
returns-in-None-clause-moments g c =
    let found = c.in_ok-choice.ensures in
    after_reads found.reads.leaves (found.reads.same refl) c.count_on_day.ensures.moments

pub returns-in-None-clause-noted : goal.returns-in-None-clause-noted
returns-in-None-clause-noted g c =
    let found = c.in_ok-choice.ensures in
    on_ok c.count_on_day.result (λ fine.
    told_both (g.M.Medium.state c.args.unit.now).image _ (g.M.Medium.state c.count_on_day.new.unit).image
    (IsEventNoted c.args.kind c.args.front.now) (IsEventNoted c.args.kind c.args.front.now) (found.reads.same refl) (ok_gives c.count_on_day.result c.count_on_day.ensures.noted fine) (λ x y was here. here))

pub returns-in-None-clause-settled : goal.returns-in-None-clause-settled
returns-in-None-clause-settled g c =
    let found = c.in_ok-choice.ensures in
    on_ok c.count_on_day.result (λ fine. settled_then (g.M.Medium.state c.args.unit.now) (g.M.Medium.state c.choose.new.unit) (g.M.Medium.state c.count_on_day.new.unit) c.count_on_day.ensures.moments.later
    (settled_reads {old = g.M.Medium.state c.args.unit.now} {new = g.M.Medium.state c.choose.new.unit} found.reads) (ok_gives c.count_on_day.result c.count_on_day.ensures.settled fine))
