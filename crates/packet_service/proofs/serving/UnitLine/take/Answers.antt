use Rattle.std.proofs.Common.{◌∙◌, ◌<◌, ◌++◌, [], ◌∷◌, ℕ, List, drop, sym, ap, subst, arith}
use Rattle.noisy_model.specs.Packets.{packet_in}
use Rattle.link_session.proofs.ServeFaults.{on_ok}
use Rattle.packet_service.specs.Datagrams.{IsPart, gathered}
use Rattle.packet_service.specs.Serving.{IsServing, IsHeard}
use Rattle.packet_service.proofs.Parts.{short_part, part_more}
use Rattle.packet_service.proofs.Answering.{goes_more, stops_long, goes_whole}
use Rattle.packet_service.proofs.serving.UnitLine.take.Goals as goal

pub take-requires : goal.take-requires
take-requires g c = short_part c.args.self.now.gathering c.requires.part

pub returns-in-More-clause-goes : goal.returns-in-More-clause-goes
returns-in-More-clause-goes g c = λ held came s.
    let low : c.args.byte < 256 = omega arith in
    let line = c.args.self.now in
    let image = (g.U.Medium.state c.args.unit.now).image in
    let sunk = g.K.Sink.held c.args.sink.now in
    let is = ap gathered (sym c.take.ensures.grown) ∙ sym c.take.ensures.gathered ∙ c.in-More.is in
    subst (λ (l : List ℕ). IsServing image (came ++ c.args.byte ∷ []) l line.end held sunk) (sym c.take.ensures.grown) (goes_more image held came line.gathering c.args.byte low line.end sunk s is)

pub returns-in-More-clause-part : goal.returns-in-More-clause-part
returns-in-More-clause-part g c =
    let low : c.args.byte < 256 = omega arith in
    let is = ap gathered (sym c.take.ensures.grown) ∙ sym c.take.ensures.gathered ∙ c.in-More.is in
    subst IsPart (sym c.take.ensures.grown) (part_more c.args.self.now.gathering c.args.byte low c.requires.part is)

pub returns-in-TooLong-clause-goes : goal.returns-in-TooLong-clause-goes
returns-in-TooLong-clause-goes g c = λ held came s.
    let low : c.args.byte < 256 = omega arith in
    let line = c.args.self.now in
    let is = ap gathered (sym c.take.ensures.grown) ∙ sym c.take.ensures.gathered ∙ c.in-TooLong.is in
    stops_long (g.U.Medium.state c.args.unit.now).image held came line.gathering c.args.byte low line.end (g.K.Sink.held c.args.sink.now) s is

pub returns-in-Whole-clause-goes : goal.returns-in-Whole-clause-goes
returns-in-Whole-clause-goes g c = λ held came s.
    let low : c.args.byte < 256 = omega arith in
    let line = c.args.self.now in
    let image = (g.U.Medium.state c.args.unit.now).image in
    let sunk = g.K.Sink.held c.args.sink.now in
    let filled = g.K.Sink.held c.hear-heard.new.sink in
    let r = c.hear-heard.result in
    let new = c.hear-heard.new.end in
    let is = ap gathered (sym c.take.ensures.grown) ∙ sym c.take.ensures.gathered ∙ c.in-Whole.is in
    let heard = subst (λ (l : List ℕ). IsHeard r image line.end (packet_in l) new sunk filled) (c.bytes.ensures ∙ ap (λ (l : List ℕ). drop 2 l) c.take.ensures.grown) c.hear-heard.ensures.heard in
    goes_whole image held came line.gathering c.args.byte low line.end sunk s is r new filled c.clear.new.self c.clear.ensures heard

pub returns-in-Whole-clause-part : goal.returns-in-Whole-clause-part
returns-in-Whole-clause-part g c = on_ok c.hear-heard.result (subst IsPart (sym c.clear.ensures) tt)
