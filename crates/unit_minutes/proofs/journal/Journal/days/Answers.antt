use Rattle.std.proofs.Common.{◌≡◌, ◌≤◌, arith, ap, subst}
use Rattle.unit_minutes.specs.Image.{Notes, IsNotes}
use Rattle.unit_minutes.proofs.Minutes.{days_are}
use Rattle.unit_model.specs.declared.layout.TheConstants.{DAY_SLOTS}
use Rattle.unit_minutes.proofs.journal.Journal.days.Goals as goal

pub returns-clause-recorded : goal.returns-clause-recorded
returns-clause-recorded c x right =
    let ok : IsNotes c.args.self.now = subst IsNotes c.self.view_is c.self.invariant.notes in
    let few : c.self.inside.notes.day_count ≤ DAY_SLOTS = c.self.invariant.notes.day_count in
    let count_is : c.self.inside.notes.day_count ≡ c.args.self.now.day_count = ap (λ (n : Notes). n.day_count) c.self.view_is in
    let days = days_are c.args.self.now ok x right in
    omega (arith, days, few, count_is)
