use Rattle.std.proofs.Common.{◌≡◌, ◌∙◌, ◌+◌, ◌*◌, ℕ, length, filter, ap, sym, arith}
use Rattle.gated_ring.specs.Ring.{ring_list}
use Rattle.message_model.specs.Records.{insertion_ring, unit_place_ring}
use Rattle.message_model.specs.Sending.{touches_day, place_in_day}
use Rattle.unit_memory.proofs.Told.{told_all}
use Rattle.unit_messages.proofs.Dating.{few_at}
use Rattle.unit_messages.proofs.Joints.{at_told}
use Rattle.unit_messages.proofs.Outlining.{pointers_inside}
use Rattle.unit_messages.proofs.outline.finding.day_outline.Goals as goal

pub overflow_add-words_place : goal.overflow_add-words_place
overflow_add-words_place g c = omega (arith, c.requires.place.1, c.requires.place.2)

pub returns-clause-range : goal.returns-clause-range
returns-clause-range g c =
    let d = c.in_ok-dated.dated in
    record {
      odometer = c.requires.odometer;
      words = c.requires.words;
      place = omega (arith, c.requires.place.1, c.requires.place.2);
      insertions = rw c.count_at-insertions.ensures (few_at 2048 d.counts.insertions d.index c.in_ok-dated.ensures.range.insertions);
      places = rw c.count_at-places.ensures (few_at 255 d.counts.places d.index c.in_ok-dated.ensures.range.places);
      counts = c.in_ok-dated.ensures.range;
    }

pub returns-clause-pointers : goal.returns-clause-pointers
returns-clause-pointers g c = told_all (g.M.Medium.state c.args.unit.now).image _ (λ x told. pointers_inside x (at_told _ x told c.requires.decodes))

-- the counts of the day are those of its date among the counts that were found
pub returns-clause-counts : goal.returns-clause-counts
returns-clause-counts g c =
    let d = c.in_ok-dated.dated in
    let date = c.args.day.now.date.0 in
    let at : d.counts.first + 86400 * d.index ≡ date = sym c.in_ok-dated.ensures.index.1 in
    told_all (g.M.Medium.state c.args.unit.now).image _ (λ x told.
    let counted = at_told _ x told c.in_ok-dated.ensures.counted in (
      c.count_at-insertions.ensures ∙ counted.insertions d.index c.in_ok-dated.ensures.index.0 ∙ ap (λ (n : ℕ). length (filter (touches_day n) (ring_list insertion_ring x))) at,
      c.count_at-places.ensures ∙ counted.places d.index c.in_ok-dated.ensures.index.0 ∙ ap (λ (n : ℕ). length (filter (place_in_day n) (ring_list unit_place_ring x))) at,
    ))
