use Rattle.std.proofs.Common.{◌≡◌, Some, None, IfSome, OnOk, option_map, sym, ◌∙◌}
use Rattle.tacho_types.specs.CardNumber.{card_number_bytes}
use Rattle.tach_media.specs.Medium.{LeavesOnly}
use Rattle.tach_media.proofs.Runs.{on_ok, ok_gives}
use Rattle.std.specs.Prelude.{is_err}
use Rattle.tach_media.specs.Plan.{PutsBy}
use Rattle.unit_owed.specs.Owed.{rows_in}
use Rattle.unit_owed.specs.Rows.{beginning, HasRow, IsRowBegun, IsRowBeginning}
use Rattle.unit_minutes.specs.Image.{Agrees}
use Rattle.unit_minutes.proofs.OwedBeside.{still_agrees, told_after, begun_there, as_both}
use Rattle.unit_minutes.proofs.journal.Journal.begin_owed.Goals as goal

pub returns-in-None-clause-agrees : goal.returns-in-None-clause-agrees
returns-in-None-clause-agrees g c = on_ok c.begin_owed.result (λ fine. still_agrees c.args.self.now (g.M.Medium.state c.args.unit.now).image (g.M.Medium.state c.begin_owed.new.unit).image _ _
    (c.begin_owed.ensures.puts.written fine) c.requires.agrees (ok_gives c.begin_owed.result c.begin_owed.ensures.begun fine) (λ x y is. is.beginning.outside))

pub returns-in-None-clause-begun : goal.returns-in-None-clause-begun
returns-in-None-clause-begun g c =
    let old = (g.M.Medium.state c.args.unit.now).image in
    let new = (g.M.Medium.state c.begin_owed.new.unit).image in
    let other : None ≡ option_map (λ s. card_number_bytes s.now) c.args.spared = sym (λ i. option_map (λ s. card_number_bytes s.now) (c.in-None.is i)) in
    as_both (λ n s. OnOk c.begin_owed.result (IfSome old (λ x. IfSome new (IsRowBegun n c.args.session s x)))) c.write_card_number.ensures.bytes other c.begin_owed.ensures.begun

pub returns-in-None-clause-moments : goal.returns-in-None-clause-moments
returns-in-None-clause-moments g c =
    let old = g.M.Medium.state c.args.unit.now in
    let new = g.M.Medium.state c.begin_owed.new.unit in
    let other : None ≡ option_map (λ s. card_number_bytes s.now) c.args.spared = sym (λ i. option_map (λ s. card_number_bytes s.now) (c.in-None.is i)) in
    as_both (λ n s. LeavesOnly old new (IsRowBeginning n c.args.session s)) c.write_card_number.ensures.bytes other c.begin_owed.ensures.moments

pub returns-in-None-clause-row : goal.returns-in-None-clause-row
returns-in-None-clause-row g c =
    let old = (g.M.Medium.state c.args.unit.now).image in
    let new = (g.M.Medium.state c.begin_owed.new.unit).image in
    let number = card_number_bytes c.args.number.now in
    let spared = option_map (λ s. card_number_bytes s.now) c.args.spared in
    let other : None ≡ spared = sym (λ i. option_map (λ s. card_number_bytes s.now) (c.in-None.is i)) in
    let begun : OnOk c.begin_owed.result (IfSome old (λ x. IfSome new (IsRowBegun number c.args.session spared x))) =
    as_both (λ n s. OnOk c.begin_owed.result (IfSome old (λ x. IfSome new (IsRowBegun n c.args.session s x)))) c.write_card_number.ensures.bytes other c.begin_owed.ensures.begun in
    on_ok c.begin_owed.result (λ fine. told_after old new (Agrees c.args.self.now) (IsRowBegun number c.args.session spared) (HasRow number) c.begin_owed.ensures.moments.tells c.requires.agrees (ok_gives c.begin_owed.result begun fine)
    (λ x y agrees is. begun_there number c.args.session spared x y is))

pub returns-clause-agrees : goal.returns-clause-agrees
returns-clause-agrees g c = on_ok c.begin_owed-2.result (λ fine. still_agrees c.args.self.now (g.M.Medium.state c.args.unit.now).image (g.M.Medium.state c.begin_owed-2.new.unit).image _ _
    (c.begin_owed-2.ensures.puts.written fine) c.requires.agrees (ok_gives c.begin_owed-2.result c.begin_owed-2.ensures.begun fine) (λ x y is. is.beginning.outside))

pub returns-clause-begun : goal.returns-clause-begun
returns-clause-begun g c =
    let old = (g.M.Medium.state c.args.unit.now).image in
    let new = (g.M.Medium.state c.begin_owed-2.new.unit).image in
    let other : Some c.write_card_number-2.new.out ≡ option_map (λ s. card_number_bytes s.now) c.args.spared = (λ i. Some (c.write_card_number-2.ensures.bytes i)) ∙ sym (λ i. option_map (λ s. card_number_bytes s.now) (c.in-Some.is i)) in
    as_both (λ n s. OnOk c.begin_owed-2.result (IfSome old (λ x. IfSome new (IsRowBegun n c.args.session s x)))) c.write_card_number.ensures.bytes other c.begin_owed-2.ensures.begun

pub returns-clause-moments : goal.returns-clause-moments
returns-clause-moments g c =
    let old = g.M.Medium.state c.args.unit.now in
    let new = g.M.Medium.state c.begin_owed-2.new.unit in
    let other : Some c.write_card_number-2.new.out ≡ option_map (λ s. card_number_bytes s.now) c.args.spared = (λ i. Some (c.write_card_number-2.ensures.bytes i)) ∙ sym (λ i. option_map (λ s. card_number_bytes s.now) (c.in-Some.is i)) in
    as_both (λ n s. LeavesOnly old new (IsRowBeginning n c.args.session s)) c.write_card_number.ensures.bytes other c.begin_owed-2.ensures.moments

pub returns-clause-row : goal.returns-clause-row
returns-clause-row g c =
    let old = (g.M.Medium.state c.args.unit.now).image in
    let new = (g.M.Medium.state c.begin_owed-2.new.unit).image in
    let number = card_number_bytes c.args.number.now in
    let spared = option_map (λ s. card_number_bytes s.now) c.args.spared in
    let other : Some c.write_card_number-2.new.out ≡ spared = (λ i. Some (c.write_card_number-2.ensures.bytes i)) ∙ sym (λ i. option_map (λ s. card_number_bytes s.now) (c.in-Some.is i)) in
    let begun : OnOk c.begin_owed-2.result (IfSome old (λ x. IfSome new (IsRowBegun number c.args.session spared x))) =
    as_both (λ n s. OnOk c.begin_owed-2.result (IfSome old (λ x. IfSome new (IsRowBegun n c.args.session s x)))) c.write_card_number.ensures.bytes other c.begin_owed-2.ensures.begun in
    on_ok c.begin_owed-2.result (λ fine. told_after old new (Agrees c.args.self.now) (IsRowBegun number c.args.session spared) (HasRow number) c.begin_owed-2.ensures.moments.tells c.requires.agrees (ok_gives c.begin_owed-2.result begun fine)
    (λ x y agrees is. begun_there number c.args.session spared x y is))

pub returns-in-None-clause-puts : goal.returns-in-None-clause-puts
returns-in-None-clause-puts g c =
    let old = g.M.Medium.state c.args.unit.now in
    let new = g.M.Medium.state c.begin_owed.new.unit in
    let other : None ≡ option_map (λ s. card_number_bytes s.now) c.args.spared = sym (λ i. option_map (λ s. card_number_bytes s.now) (c.in-None.is i)) in
    as_both (λ n s. PutsBy old new (is_err c.begin_owed.result) 7 7 (λ x. beginning n c.args.session s (rows_in x))) c.write_card_number.ensures.bytes other c.begin_owed.ensures.puts

pub returns-clause-puts : goal.returns-clause-puts
returns-clause-puts g c =
    let old = g.M.Medium.state c.args.unit.now in
    let new = g.M.Medium.state c.begin_owed-2.new.unit in
    let other : Some c.write_card_number-2.new.out ≡ option_map (λ s. card_number_bytes s.now) c.args.spared = (λ i. Some (c.write_card_number-2.ensures.bytes i)) ∙ sym (λ i. option_map (λ s. card_number_bytes s.now) (c.in-Some.is i)) in
    as_both (λ n s. PutsBy old new (is_err c.begin_owed-2.result) 7 7 (λ x. beginning n c.args.session s (rows_in x))) c.write_card_number.ensures.bytes other c.begin_owed-2.ensures.puts
