use Rattle.std.proofs.Common.{◌≡◌, ◌∙◌, ◌<◌, ◌++◌, [], ◌∷◌, ℕ, List, true, false, drop, sym, ap, subst, arith}
use Rattle.card_service.specs.Packets.{IsPart, is_whole}
use Rattle.tach_media.specs.Medium.{LeavesOnly}
use Rattle.tach_media.proofs.Runs.{starts, weaken}
use Rattle.card_service.specs.Answering.{card_told, LeavesAt}
use Rattle.card_service.specs.Serving.{IsServing, IsHeard}
use Rattle.card_service.proofs.Parts.{short_part, part_more}
use Rattle.card_service.proofs.Cards.{on_ok}
use Rattle.card_service.proofs.Answering.{goes_more, goes_whole, leaves_so}
use Rattle.card_service.proofs.serving.take.Goals as goal

pub take-requires : goal.take-requires
take-requires g c = short_part c.args.gathering.now c.requires.part

pub returns-then-not-take-clause-goes : goal.returns-then-not-take-clause-goes
returns-then-not-take-clause-goes g c = λ begun held came s.
    let low : c.args.byte < 256 = omega arith in
    let part = c.args.gathering.now in
    let card = card_told (g.C.Chip.state c.args.chip.now) (g.C.Chip.card c.args.chip.now) in
    let sunk = g.K.Sink.held c.args.sink.now in
    let told : c.take.result ≡ false = grind (arith, c.if-not-take.true) in
    let is = ap is_whole (sym c.take.ensures.grown) ∙ sym c.take.ensures.whole ∙ told in
    subst (λ (l : List ℕ). IsServing begun (came ++ c.args.byte ∷ []) l card held sunk) (sym c.take.ensures.grown) (goes_more begun held came part c.args.byte low card sunk s is)

pub returns-then-not-take-clause-part : goal.returns-then-not-take-clause-part
returns-then-not-take-clause-part g c =
    let low : c.args.byte < 256 = omega arith in
    let told : c.take.result ≡ false = grind (arith, c.if-not-take.true) in
    let is = ap is_whole (sym c.take.ensures.grown) ∙ sym c.take.ensures.whole ∙ told in
    subst IsPart (sym c.take.ensures.grown) (part_more c.args.gathering.now c.args.byte low c.requires.part is)

pub returns-then-not-take-clause-moments : goal.returns-then-not-take-clause-moments
returns-then-not-take-clause-moments g c = λ begun held came s. starts (g.C.Chip.state c.args.chip.now) _

pub returns-clause-moments : goal.returns-clause-moments
returns-clause-moments g c = λ begun held came s.
    let low : c.args.byte < 256 = omega arith in
    let part = c.args.gathering.now in
    let old = g.C.Chip.state c.args.chip.now in
    let new = g.C.Chip.state c.hear-heard.new.chip in
    let card = card_told old (g.C.Chip.card c.args.chip.now) in
    let sunk = g.K.Sink.held c.args.sink.now in
    let told : c.take.result ≡ true = grind (arith, c.if-not-take.false) in
    let is = ap is_whole (sym c.take.ensures.grown) ∙ sym c.take.ensures.whole ∙ told in
    let heard = subst (λ (l : List ℕ). LeavesOnly old new (λ x d. LeavesAt card l d)) (c.bytes.ensures ∙ ap (λ (l : List ℕ). drop 2 l) c.take.ensures.grown) c.hear-heard.ensures.moments in
    weaken heard (λ x d was left. leaves_so begun held came part c.args.byte low card sunk s is d left)

pub returns-clause-goes : goal.returns-clause-goes
returns-clause-goes g c = λ begun held came s.
    let low : c.args.byte < 256 = omega arith in
    let part = c.args.gathering.now in
    let card = card_told (g.C.Chip.state c.args.chip.now) (g.C.Chip.card c.args.chip.now) in
    let new = card_told (g.C.Chip.state c.hear-heard.new.chip) (g.C.Chip.card c.hear-heard.new.chip) in
    let sunk = g.K.Sink.held c.args.sink.now in
    let filled = g.K.Sink.held c.hear-heard.new.sink in
    let r = c.hear-heard.result in
    let told : c.take.result ≡ true = grind (arith, c.if-not-take.false) in
    let is = ap is_whole (sym c.take.ensures.grown) ∙ sym c.take.ensures.whole ∙ told in
    let heard = subst (λ (l : List ℕ). IsHeard r card l new sunk filled) (c.bytes.ensures ∙ ap (λ (l : List ℕ). drop 2 l) c.take.ensures.grown) c.hear-heard.ensures.heard in
    goes_whole begun held came part c.args.byte low card sunk s is r new filled c.clear.new.self c.clear.ensures heard

pub returns-clause-part : goal.returns-clause-part
returns-clause-part g c = on_ok c.hear-heard.result (subst IsPart (sym c.clear.ensures) tt)
