use Rattle.std.proofs.Common.{◌≡◌, refl, ◌∙◌, IfSome}
use Rattle.unit_model.specs.gated_ring.Ring.{number_at}
use Rattle.unit_model.specs.declared.layout.TheConstants.{ODOMETER, OVER_COUNT, RULE_BYTE}
use Rattle.unit_model.specs.Image.{odometer_at}
use Rattle.unit_model.specs.Decoding.{first_failing}
use Rattle.unit_memory.specs.Judging.{front_of}
use Rattle.unit_memory.proofs.Told.{carried, four_told}
use Rattle.unit_memory.proofs.judge.bad_front.Goals as goal

pub returns-clause-found : goal.returns-clause-found
unfolding odometer_at
returns-clause-found g c =
    let image = (g.M.Medium.state c.args.unit.now).image in
    let v = c.in_ok-version.version in
    let r = c.in_ok-rule.rule in
    let o = c.in_ok-odometer.odometer in
    let n = c.in_ok-overs.overs in
    let same_1 = c.in_ok-version.ensures.reads.same refl in
    let same_2 = c.in_ok-rule.ensures.reads.same refl ∙ same_1 in
    let same_3 = c.in_ok-odometer.ensures.reads.same refl ∙ same_2 in
    let version : IfSome image (λ x. v ≡ number_at x 0 4) = c.in_ok-version.ensures.value in
    let rule : IfSome image (λ x. r ≡ number_at x RULE_BYTE.place RULE_BYTE.size) = carried (λ x. r ≡ number_at x RULE_BYTE.place RULE_BYTE.size) same_1 c.in_ok-rule.ensures.value in
    let odometer : IfSome image (λ x. o ≡ number_at x ODOMETER.place ODOMETER.size) = carried (λ x. o ≡ number_at x ODOMETER.place ODOMETER.size) same_2 c.in_ok-odometer.ensures.value in
    let overs : IfSome image (λ x. n ≡ number_at x OVER_COUNT.place OVER_COUNT.size) = carried (λ x. n ≡ number_at x OVER_COUNT.place OVER_COUNT.size) same_3 c.in_ok-overs.ensures.value in
    four_told image _ version rule odometer overs
    (λ x version rule odometer overs. c.front_place.ensures ∙ (λ i. first_failing (front_of (version i) (rule i) c.args.kept c.args.has_today (odometer i) (overs i))))
