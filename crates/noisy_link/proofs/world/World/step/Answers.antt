use Rattle.std.proofs.Common.{List, refl, subst}
use Rattle.std.specs.Prelude.{slice_get}
use Rattle.link_session.specs.Told.{SessionView}
use Rattle.link_loader.specs.Loading.{Load}
use Rattle.noisy_model.specs.declared.packet.Packet.{Packet}
use Rattle.noisy_model.specs.declared.event.Event.TheVariants.{Send, ToUnit, ToLoader}
use Rattle.noisy_model.specs.Worlds.{World}
use Rattle.noisy_link.specs.Steps.{IsHearing, IsTaking, IsStep}
use Rattle.noisy_link.proofs.Stepping.{world, sent_step, heard_step, took_step}
use Rattle.noisy_link.proofs.world.World.step.Goals as goal

pub returns-in-Send-clause-stepped : goal.returns-in-Send-clause-stepped
returns-in-Send-clause-stepped g c =
    let image = (g.M.Medium.state c.args.unit.now).image in
    let held = g.K.Sink.held c.args.sink.now in
    let i = c.self.inside in
    let old = world i.sent.items i.answers.items i.unit i.loader in
    let new = world c.send.new.sent.items i.answers.items i.unit i.loader in
    rw c.in-Send.is
    (subst (λ (w : World SessionView Load). IsStep c.send.result image w Send new held held) c.self.view_is
    (sent_step image old new c.send.result held c.send.ensures.sent c.send.ensures.memory refl refl refl))

pub returns-in-ToUnit-clause-stepped : goal.returns-in-ToUnit-clause-stepped
returns-in-ToUnit-clause-stepped g c =
    let image = (g.M.Medium.state c.args.unit.now).image in
    let held = g.K.Sink.held c.args.sink.now in
    let place = c.in-ToUnit.place in
    let i = c.self.inside in
    let r = c.come_to_unit.result in
    let old = world i.sent.items i.answers.items i.unit i.loader in
    let new = world i.sent.items c.come_to_unit.new.answers.items c.come_to_unit.new.end i.loader in
    let heard = subst (λ (l : List Packet). IsHearing r image i.unit (slice_get l place) c.come_to_unit.new.end i.answers.items c.come_to_unit.new.answers.items) c.as_slice.ensures.value c.come_to_unit.ensures.heard in
    rw c.in-ToUnit.is
    (subst (λ (w : World SessionView Load). IsStep r image w (ToUnit place) new held held) c.self.view_is
    (heard_step image old new r place held heard refl refl))

pub returns-in-ToLoader-clause-stepped : goal.returns-in-ToLoader-clause-stepped
returns-in-ToLoader-clause-stepped g c =
    let image = (g.M.Medium.state c.args.unit.now).image in
    let held = g.K.Sink.held c.args.sink.now in
    let sunk = g.K.Sink.held c.come_to_loader.new.sink in
    let place = c.in-ToLoader.place in
    let i = c.self.inside in
    let r = c.come_to_loader.result in
    let old = world i.sent.items i.answers.items i.unit i.loader in
    let new = world i.sent.items i.answers.items i.unit c.come_to_loader.new.end in
    let taken = subst (λ (l : List Packet). IsTaking r i.loader (slice_get l place) c.come_to_loader.new.end held sunk) c.as_slice-in-ToLoader.ensures.value c.come_to_loader.ensures.taken in
    rw c.in-ToLoader.is
    (subst (λ (w : World SessionView Load). IsStep r image w (ToLoader place) new held sunk) c.self.view_is
    (took_step image old new r place held sunk taken refl refl refl))
