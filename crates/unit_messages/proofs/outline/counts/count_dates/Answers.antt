use Rattle.std.proofs.Common.{◌∙◌, rules}
use Rattle.std.specs.Prelude.{is_err}
use Rattle.unit_memory.proofs.Told.{told_all}
use Rattle.unit_minutes.proofs.IfAny.{read_same}
use Rattle.unit_messages.proofs.Calls.{any_then, any_failed}
use Rattle.unit_messages.proofs.Dating.{insertions_all, places_all}
use Rattle.unit_messages.proofs.Joints.{at_told}
use Rattle.unit_messages.proofs.Outlining.{pointers_inside}
use Rattle.unit_messages.proofs.outline.counts.count_dates.Goals as goal

pub returns-clause-counted : goal.returns-clause-counted
returns-clause-counted g c =
    told_all (g.M.Medium.state c.args.unit.now).image _ (λ x told.
    let inside = pointers_inside x (at_told _ x told c.requires.decodes) in
    record {
      insertions = insertions_all c.args.first x c.in_ok-insertions.insertions inside.0 (at_told _ x told c.in_ok-insertions.ensures.counted);
      places = places_all c.args.first x c.in_ok-places.places inside.1 (at_told _ x (read_same c.in_ok-insertions.ensures.reads ∙ told) c.in_ok-places.ensures.counted);
    })

pub returns-in_err-places-clause-reads : goal.returns-in_err-places-clause-reads
returns-in_err-places-clause-reads g c =
    any_failed (is_err c.from_residual-in_err-places.result) (search rules) (any_then c.in_ok-insertions.ensures.reads c.in_err-places.ensures.reads)

pub returns-clause-reads : goal.returns-clause-reads
returns-clause-reads g c = any_then c.in_ok-insertions.ensures.reads c.in_ok-places.ensures.reads
