use Rattle.std.proofs.Common.{rules, ◌≡◌, ◌∙◌, true, false, is_err, refl, ap}
use Rattle.card_layout.specs.Commands.{command_of}
use Rattle.card_layout.specs.Outcomes.{outcome_of}
use Rattle.card_commands.specs.Written.{read_with}
use Rattle.card_commands.proofs.Waking.{fails_at_once, goes_on_with, answered, does_same, performed_same}
use Rattle.card_commands.proofs.sim_card.SimCardChip.transmit.Goals as goal

pub returns-in_err-wake-clause-image : goal.returns-in_err-wake-clause-image
returns-in_err-wake-clause-image g c =
    let failed : true ≡ is_err c.from_residual.result = search rules in
    let old = g.M.Medium.state c.args.self.now.medium in
    let new = g.M.Medium.state c.wake.new.self.medium in
    let card = c.args.self.now.card in
    does_same card card (command_of c.args.command.now) (command_of c.args.command.now) old new true _ refl refl failed
    (fails_at_once (outcome_of card c.args.command.now).effect old new c.in_err-wake.ensures.reads)

pub returns-in_err-status-clause-image : goal.returns-in_err-status-clause-image
returns-in_err-status-clause-image g c =
    let failed : true ≡ is_err c.from_residual-in_err-status.result = search rules in
    let old = g.M.Medium.state c.args.self.now.medium in
    let mid = g.M.Medium.state c.wake.new.self.medium in
    let new = g.M.Medium.state c.perform.new.self.medium in
    let card = c.args.self.now.card in
    let value : read_with c.read_header-read.result c.behind_header-behind.result.now ≡ command_of c.args.command.now = ap (read_with c.read_header-read.result) c.behind_header-behind.ensures ∙ c.read_header-read.ensures.value in
    goes_on_with (outcome_of card c.args.command.now).effect old mid new _ c.in_ok-wake.ensures.reads
    (does_same card c.wake.new.self.card (command_of c.args.command.now) (read_with c.read_header-read.result c.behind_header-behind.result.now) mid new true _ c.wake.ensures.card value failed c.in_err-status.ensures.image)

pub returns-clause-image : goal.returns-clause-image
returns-clause-image g c =
    let old = g.M.Medium.state c.args.self.now.medium in
    let mid = g.M.Medium.state c.wake.new.self.medium in
    let new = g.M.Medium.state c.perform.new.self.medium in
    let card = c.args.self.now.card in
    let value : read_with c.read_header-read.result c.behind_header-behind.result.now ≡ command_of c.args.command.now = ap (read_with c.read_header-read.result) c.behind_header-behind.ensures ∙ c.read_header-read.ensures.value in
    goes_on_with (outcome_of card c.args.command.now).effect old mid new false c.in_ok-wake.ensures.reads
    (does_same card c.wake.new.self.card (command_of c.args.command.now) (read_with c.read_header-read.result c.behind_header-behind.result.now) mid new false false c.wake.ensures.card value refl c.in_ok-status.ensures.image)

pub returns-clause-answered : goal.returns-clause-answered
returns-clause-answered g c =
    let old = g.M.Medium.state c.args.self.now.medium in
    let mid = g.M.Medium.state c.wake.new.self.medium in
    let given = c.perform.new.answer.items in
    let status = c.in_ok-status.status in
    let value : read_with c.read_header-read.result c.behind_header-behind.result.now ≡ command_of c.args.command.now = ap (read_with c.read_header-read.result) c.behind_header-behind.ensures ∙ c.read_header-read.ensures.value in
    answered c.args.command.now old.image c.args.self.now.card c.perform.new.self.card given _ status
    (performed_same c.args.self.now.card c.wake.new.self.card c.perform.new.self.card (command_of c.args.command.now) (read_with c.read_header-read.result c.behind_header-behind.result.now) old.image mid.image given status c.wake.ensures.card value (c.in_ok-wake.ensures.reads.same refl) c.in_ok-status.ensures.performed)
    c.conclude.ensures
