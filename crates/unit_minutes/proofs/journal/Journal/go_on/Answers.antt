use Rattle.std.proofs.Common.{◌≡◌, ◌+◌, ◌%◌, ◌≤◌, sym, ap, subst, arith}
use Rattle.unit_minutes.specs.Image.{Notes, IsNotes}
use Rattle.unit_minutes.proofs.Keeping.{new_few}
use Rattle.unit_minutes.proofs.journal.Journal.go_on.Goals as goal

pub invariant_of-self : goal.invariant_of-self
invariant_of-self g c =
    let j = c.self.inside.notes in
    let was = c.self.invariant.notes in
    let new = c.args.coming in
    let fits = c.requires.coming in
    let kept_is : j.kept ≡ c.args.self.now.kept = ap (λ (n : Notes). n.kept) c.self.view_is in
    let next : j.kept % 1440 + 1 ≤ new.minute % 1440 = omega (arith, kept_is, c.requires.same, c.requires.later) in
    record {
      days_are = c.self.invariant.days_are;
      notes = subst IsNotes (sym c.on_day-self-inside.ensures) (record {
        kept = fits.small;
        odometer = fits.odometer;
        index = was.index;
        count = omega (arith, c.add_new-count.ensures.count, new_few j.count (j.kept % 1440 + 1) (new.minute % 1440) j.bits.driver j.bits.codriver new.bits.driver new.bits.codriver was.count next);
        driver = fits.driver;
        codriver = fits.codriver;
        stray = λ s is. absurd (cc);
        day_count = was.day_count;
        no_day = λ none. absurd (omega (arith, fits.low, none));
      });
    }
