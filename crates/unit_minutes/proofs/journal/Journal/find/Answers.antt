use Rattle.std.proofs.Common.{◌≡◌, ◌-◌, ◌∙◌, ap, sym, arith}
use Rattle.unit_memory.proofs.Told.{one_told, told_all}
use Rattle.unit_minutes.specs.Image.{Notes}
use Rattle.unit_minutes.proofs.Shown.{shown, no_such_date, no_later_date}
use Rattle.unit_minutes.proofs.journal.Journal.find.Goals as goal

pub returns-then-self-eq0-clause-found : goal.returns-then-self-eq0-clause-found
returns-then-self-eq0-clause-found g c =
    let j = c.args.self.now in
    let count_is : c.self.inside.notes.day_count ≡ j.day_count = ap (λ (n : Notes). n.day_count) c.self.view_is in
    told_all (g.M.Medium.state c.args.unit.now).image _ (λ x is right.
    no_such_date j x c.args.date.0 (shown j c.last_date-last_date.ensures.shape x right) (λ n less. absurd (omega (arith, less, count_is, c.if-self-eq0.true))))

pub returns-then-date-last_date-clause-found : goal.returns-then-date-last_date-clause-found
returns-then-date-last_date-clause-found g c =
    let j = c.args.self.now in
    told_all (g.M.Medium.state c.args.unit.now).image _ (λ x is right.
    no_later_date j x c.args.date.0 (shown j c.last_date-last_date.ensures.shape x right) (omega (arith, c.last_date-last_date.ensures.date, c.if-date-last_date.true)))

pub returns-then-date-last_date-2-clause-found : goal.returns-then-date-last_date-2-clause-found
returns-then-date-last_date-2-clause-found g c =
    let j = c.args.self.now in
    one_told (g.M.Medium.state c.args.unit.now).image _ c.in_ok-day.ensures.day (λ x is right.
    (c.in_ok-day.ensures.date ∙ sym (c.if-date-last_date-2.true ∙ c.last_date-last_date.ensures.date), (j.day_count - 1, j.index, is right)))
