use Rattle.std.proofs.Common.{ap}
use Rattle.link_model.specs.declared.request.Request.TheVariants.{Day as AskDay}
use Rattle.unit_memory.proofs.Told.{told_all}
use Rattle.unit_messages.proofs.Joints.{at_told}
use Rattle.unit_messages.proofs.Outlining.{day_outlined}
use Rattle.unit_messages.proofs.outline.finding.found_outline.Goals as goal

pub returns-clause-outlined : goal.returns-clause-outlined
returns-clause-outlined g c =
    let d = c.args.day in
    told_all (g.M.Medium.state c.args.unit.now).image _ (λ x told. (
      ap AskDay c.in_ok-outline.ensures.day.0,
      day_outlined c.args.journal.now c.last_kept-kept.ensures.shape x d.date.0 d c.in_ok-outline.outline (at_told _ x told c.requires.decodes) (at_told _ x told c.requires.right) (at_told _ x told c.requires.found)
          c.in_ok-outline.ensures.day (at_told _ x told c.in_ok-outline.ensures.pointers) (at_told _ x told c.in_ok-outline.ensures.counts) (at_told _ x told c.in_ok-outline.ensures.counted),
    ))

pub returns-clause-request : goal.returns-clause-request
returns-clause-request g c = ap AskDay c.in_ok-outline.ensures.day.0
