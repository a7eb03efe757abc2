use Rattle.std.proofs.Common.{◌≡◌, ◌∙◌, ◌+◌, ◌/◌, min, sym, ap}
use Rattle.tach_media.proofs.Runs.{if_told, on_ok, ok_gives}
use Rattle.gated_ring.specs.Ring.{taken}
use Rattle.unit_model.specs.declared.layout.TheConstants.{DAY_SLOTS}
use Rattle.unit_model.specs.Image.{day_ring}
use Rattle.unit_minutes.specs.Image.{Notes}
use Rattle.unit_minutes.specs.Minute.{notes_begun}
use Rattle.unit_minutes.proofs.KeepPlan.{going_puts, renewing_puts, notes_same, notes_other}
use Rattle.unit_minutes.proofs.Told.{told}
use Rattle.unit_minutes.proofs.journal.Journal.write_minute.Goals as goal

pub returns-then-coming-self-clause-puts : goal.returns-then-coming-self-clause-puts
returns-then-coming-self-clause-puts g c =
    going_puts c.args.self.now c.args.coming (c.if-coming-self.true ∙ ap (λ (n : Notes). n.kept / 1440) c.self.view_is) c.go_on.ensures.puts

pub returns-then-coming-self-clause-notes : goal.returns-then-coming-self-clause-notes
returns-then-coming-self-clause-notes g c =
    on_ok c.go_on.result (λ fine. if_told (g.M.Medium.state c.args.unit.now).image _ (λ x was. ok_gives c.go_on.result c.go_on.ensures.notes fine
    ∙ notes_same c.args.self.now c.args.coming x (c.if-coming-self.true ∙ ap (λ (n : Notes). n.kept / 1440) c.self.view_is)))

pub returns-clause-puts : goal.returns-clause-puts
returns-clause-puts g c =
    renewing_puts c.args.self.now c.args.coming (λ same. c.if-coming-self.false (same ∙ sym (ap (λ (n : Notes). n.kept / 1440) c.self.view_is))) c.renew.ensures.puts

pub returns-clause-notes : goal.returns-clause-notes
returns-clause-notes g c =
    let j = c.args.self.now in
    on_ok c.renew.result (λ fine. told (g.M.Medium.state c.args.unit.now).image (λ x. c.renew.new.self ≡ notes_begun (taken day_ring x) (min (j.day_count + 1) DAY_SLOTS) c.args.coming) _
    (ok_gives c.renew.result c.renew.ensures.notes fine) (λ x was is. is
    ∙ notes_other j c.args.coming x (λ same. c.if-coming-self.false (same ∙ sym (ap (λ (n : Notes). n.kept / 1440) c.self.view_is)))))
