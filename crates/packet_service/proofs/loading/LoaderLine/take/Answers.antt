use Rattle.std.proofs.Common.{◌∙◌, ◌<◌, ◌++◌, [], ◌∷◌, ℕ, List, drop, sym, ap, subst, arith}
use Rattle.link_session.proofs.ServeFaults.{on_ok}
use Rattle.packet_service.specs.Datagrams.{IsPart, gathered}
use Rattle.packet_service.specs.Loading.{Sinks, IsLoading, IsTaken}
use Rattle.packet_service.proofs.Parts.{short_part, part_more}
use Rattle.packet_service.proofs.Taking.{loads_more, stops_long, loads_whole}
use Rattle.packet_service.proofs.loading.LoaderLine.take.Goals as goal

pub take-requires : goal.take-requires
take-requires g c = short_part c.args.self.now.gathering c.requires.part

pub returns-in-More-clause-goes : goal.returns-in-More-clause-goes
returns-in-More-clause-goes g c = λ held came s.
    let low : c.args.byte < 256 = omega arith in
    let line = c.args.self.now in
    let sunk : Sinks = record { link = g.K.Sink.held c.args.link.now; file = g.F.Sink.held c.args.file.now } in
    let is = ap gathered (sym c.take.ensures.grown) ∙ sym c.take.ensures.gathered ∙ c.in-More.is in
    subst (λ (l : List ℕ). IsLoading (came ++ c.args.byte ∷ []) l line.end held sunk) (sym c.take.ensures.grown) (loads_more held came line.gathering c.args.byte low line.end sunk s is)

pub returns-in-More-clause-part : goal.returns-in-More-clause-part
returns-in-More-clause-part g c =
    let low : c.args.byte < 256 = omega arith in
    let is = ap gathered (sym c.take.ensures.grown) ∙ sym c.take.ensures.gathered ∙ c.in-More.is in
    subst IsPart (sym c.take.ensures.grown) (part_more c.args.self.now.gathering c.args.byte low c.requires.part is)

pub returns-in-TooLong-clause-goes : goal.returns-in-TooLong-clause-goes
returns-in-TooLong-clause-goes g c = λ held came s.
    let low : c.args.byte < 256 = omega arith in
    let line = c.args.self.now in
    let sunk : Sinks = record { link = g.K.Sink.held c.args.link.now; file = g.F.Sink.held c.args.file.now } in
    let is = ap gathered (sym c.take.ensures.grown) ∙ sym c.take.ensures.gathered ∙ c.in-TooLong.is in
    stops_long held came line.gathering c.args.byte low line.end sunk s is

pub returns-in-Whole-clause-goes : goal.returns-in-Whole-clause-goes
returns-in-Whole-clause-goes g c = λ held came s.
    let low : c.args.byte < 256 = omega arith in
    let line = c.args.self.now in
    let sunk : Sinks = record { link = g.K.Sink.held c.args.link.now; file = g.F.Sink.held c.args.file.now } in
    let filled : Sinks = record { link = g.K.Sink.held c.hear-taken.new.link; file = g.F.Sink.held c.hear-taken.new.file } in
    let r = c.hear-taken.result in
    let new = c.hear-taken.new.end in
    let is = ap gathered (sym c.take.ensures.grown) ∙ sym c.take.ensures.gathered ∙ c.in-Whole.is in
    let taken = subst (λ (l : List ℕ). IsTaken r line.end l new sunk filled) (c.bytes.ensures ∙ ap (λ (l : List ℕ). drop 2 l) c.take.ensures.grown) c.hear-taken.ensures.taken in
    loads_whole held came line.gathering c.args.byte low line.end sunk s is r new filled c.clear.new.self c.clear.ensures c.hear-taken.ensures.room taken

pub returns-in-Whole-clause-part : goal.returns-in-Whole-clause-part
returns-in-Whole-clause-part g c = on_ok c.hear-taken.result (subst IsPart (sym c.clear.ensures) tt)
