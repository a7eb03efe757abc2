use Rattle.std.proofs.Common.{◌≡◌, Some, None, IfSome, option_map, sym, ◌∙◌}
use Rattle.std.specs.Prelude.{IfOk}
use Rattle.tacho_types.specs.CardNumber.{card_number_bytes}
use Rattle.unit_owed.specs.Rows.{IsRowFor}
use Rattle.unit_minutes.proofs.OwedBeside.{as_both}
use Rattle.unit_minutes.proofs.journal.Journal.ask.Goals as goal

pub returns-in-None-clause-row : goal.returns-in-None-clause-row
returns-in-None-clause-row g c =
    let other : None ≡ option_map (λ s. card_number_bytes s.now) c.args.spared = sym (λ i. option_map (λ s. card_number_bytes s.now) (c.in-None.is i)) in
    as_both (λ n s. IfOk c.ask.result (λ a. IfSome (g.M.Medium.state c.args.unit.now).image (IsRowFor a.row n s))) c.write_card_number.ensures.bytes other c.ask.ensures.row

pub returns-clause-row : goal.returns-clause-row
returns-clause-row g c =
    let other : Some c.write_card_number-2.new.out ≡ option_map (λ s. card_number_bytes s.now) c.args.spared = (λ i. Some (c.write_card_number-2.ensures.bytes i)) ∙ sym (λ i. option_map (λ s. card_number_bytes s.now) (c.in-Some.is i)) in
    as_both (λ n s. IfOk c.ask-2.result (λ a. IfSome (g.M.Medium.state c.args.unit.now).image (IsRowFor a.row n s))) c.write_card_number.ensures.bytes other c.ask-2.ensures.row
