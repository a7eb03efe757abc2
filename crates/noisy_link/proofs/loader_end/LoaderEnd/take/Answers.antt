use Rattle.std.proofs.Common.{◌≡◌, ◌∙◌, ℕ, ◌<◌, ◌+◌, true, List, Some, Err, length, ap, subst, arith}
use Rattle.link_loader.specs.declared.fault.LoadFault.{LoadFault}
use Rattle.link_loader.specs.declared.fault.LoadFault.TheVariants.{WriteFault, Memory}
use Rattle.link_loader.specs.Loading.{Load, with_piece, IsRefused, LeavesSink}
use Rattle.noisy_model.specs.Ends.{LoaderEnd, brought}
use Rattle.noisy_link.specs.Sides.{asked, TakesPacket, number_left}
use Rattle.noisy_link.proofs.Bringing.{end_of, is_brought, takes_packet, err_fault}
use Rattle.noisy_link.proofs.loader_end.LoaderEnd.take.Goals as goal

pub returns-in-Ok-clause-taken : goal.returns-in-Ok-clause-taken
returns-in-Ok-clause-taken g c =
    let low : c.self.inside.number < 18446744073709551615 = omega arith in
    let it = is_brought c.self.inside.number c.self.inside.loader c.args.packet.now c.in-Some.frame c.next.result c.is_none.result low c.if-packet-self.false c.is_none.ensures c.if-is_none.false c.next.ensures.sent c.in-Some.is in
    let held = g.K.Sink.held c.args.sink.now in
    let sunk = g.K.Sink.held c.take.new.sink in
    subst (λ (e : LoaderEnd Load). TakesPacket e c.args.packet.now (end_of (c.self.inside.number + 1) c.take.new.self) true held sunk) c.self.view_is
    (takes_packet c.self.inside.number c.self.inside.loader c.take.new.self c.args.packet.now c.in-Some.frame held sunk it c.in-Ok.ensures.taken)

pub returns-in-Err-clause-refused : goal.returns-in-Err-clause-refused
returns-in-Err-clause-refused g c =
    let low : c.self.inside.number < 18446744073709551615 = omega arith in
    let it = is_brought c.self.inside.number c.self.inside.loader c.args.packet.now c.in-Some.frame c.next.result c.is_none.result low c.if-packet-self.false c.is_none.ensures c.if-is_none.false c.next.ensures.sent c.in-Some.is in
    subst (λ (e : LoaderEnd Load). (x : List ℕ) × (brought asked e c.args.packet.now ≡ Some x) × IsRefused e.side.loading x c.in-Err.fault × LeavesSink e.side.loading x c.in-Err.fault (g.K.Sink.held c.args.sink.now) (g.K.Sink.held c.take.new.sink)) c.self.view_is
    (c.in-Some.frame, it, c.in-Err.ensures.refused, c.in-Err.ensures.sink)

pub returns-in-Err-clause-enough : goal.returns-in-Err-clause-enough
returns-in-Err-clause-enough g c =
    let low : c.self.inside.number < 18446744073709551615 = omega arith in
    let it = is_brought c.self.inside.number c.self.inside.loader c.args.packet.now c.in-Some.frame c.next.result c.is_none.result low c.if-packet-self.false c.is_none.ensures c.if-is_none.false c.next.ensures.sent c.in-Some.is in
    λ is.
    subst (λ (e : LoaderEnd Load). (x : List ℕ) × (brought asked e c.args.packet.now ≡ Some x) × (e.side.room < length (with_piece e.side.loading.bytes x))) c.self.view_is
    (c.in-Some.frame, it, c.in-Err.ensures.memory.enough (ap Err (err_fault c.in-Err.fault Memory is)))

pub returns-in-Err-clause-cause : goal.returns-in-Err-clause-cause
returns-in-Err-clause-cause g c = λ is. c.in-Err.ensures.faults.cause (ap Err (err_fault c.in-Err.fault WriteFault is))

pub returns-in-Err-clause-same : goal.returns-in-Err-clause-same
returns-in-Err-clause-same g c = λ is.
    let fault = err_fault c.in-Err.fault Memory is in
    ap (λ (k : ℕ). end_of k c.take.new.self) (c.number_left-self-inside.ensures ∙ ap (λ (f : LoadFault). number_left f c.self.inside.number) fault)
    ∙ ap (end_of c.self.inside.number) (c.in-Err.ensures.same (ap Err fault)) ∙ c.self.view_is
