use Rattle.std.proofs.Common.{◌≡◌, ◌∙◌, length, ap}
use Rattle.std.specs.Prelude.{map}
use Rattle.minute_rules.specs.Counted.{Fits, closed}
use Rattle.minute_rules.proofs.Fitting.{all-closed, all-taken, all-dropped, closed-fits}
use Rattle.minute_model.proofs.Ranges.{each-more}
use Rattle.minute_rules.proofs.minutes.Minutes.close.Goals as goal

pub invariant_of-self : goal.invariant_of-self
invariant_of-self g c =
    let e : c.close_all.new.minutes ≡ map (closed c.args.act) c.self.inside.past.items = c.close_all.ensures.closed ∙ ap (map (closed c.args.act)) c.as_mut_slice.ensures.value in
    (rw e (all-taken (Fits c.self.inside.next) (length c.self.inside.past.items) _ (each-more (Fits c.self.inside.next) (map (closed c.args.act) c.self.inside.past.items) _ (all-closed c.self.inside.next c.args.act c.self.inside.past.items c.self.invariant.0) (all-dropped (Fits c.self.inside.next) _ c.self.inside.past.items c.self.invariant.0))), rw c.close.ensures (closed-fits c.self.inside.next c.args.act c.self.inside.here c.self.invariant.1), c.self.invariant.2)
