use Rattle.std.proofs.Common.{List, IfSome, OnOk, ◌∙◌, subst, ℕ}
use Rattle.std.specs.Prelude.{is_err}
use Rattle.tacho_types.specs.CardNumber.{card_number_bytes}
use Rattle.tach_media.specs.Medium.{LeavesOnly}
use Rattle.tach_media.proofs.Runs.{on_ok, ok_gives}
use Rattle.tach_media.specs.Plan.{PutsAll}
use Rattle.unit_owed.specs.Rows.{row_pieces, IsRowAt, IsRowFor, IsRowBegun, IsRowBeginning}
use Rattle.unit_minutes.proofs.OwedBeside.{still_agrees, told_after, by_number}
use Rattle.unit_minutes.proofs.journal.Journal.begin_owed_at.Goals as goal

pub returns-clause-puts : goal.returns-clause-puts
returns-clause-puts g c =
    subst (λ (n : List ℕ). PutsAll (g.M.Medium.state c.args.unit.now) (g.M.Medium.state c.begin_owed_at.new.unit) (is_err c.begin_owed_at.result) (row_pieces c.args.row n c.args.session)) c.write_card_number.ensures.bytes c.begin_owed_at.ensures.puts

pub returns-clause-begun : goal.returns-clause-begun
returns-clause-begun g c = λ spared.
    let old = (g.M.Medium.state c.args.unit.now).image in
    let new = (g.M.Medium.state c.begin_owed_at.new.unit).image in
    by_number (λ n. IfSome old (IsRowFor c.args.row n spared)) (λ n. OnOk c.begin_owed_at.result (IfSome old (λ x. IfSome new (IsRowBegun n c.args.session spared x)))) c.write_card_number.ensures.bytes (c.begin_owed_at.ensures.begun spared)

pub returns-clause-moments : goal.returns-clause-moments
returns-clause-moments g c = λ spared.
    let old = g.M.Medium.state c.args.unit.now in
    let new = g.M.Medium.state c.begin_owed_at.new.unit in
    by_number (λ n. IfSome old.image (IsRowFor c.args.row n spared)) (λ n. LeavesOnly old new (IsRowBeginning n c.args.session spared)) c.write_card_number.ensures.bytes (c.begin_owed_at.ensures.moments spared)

pub returns-clause-agrees : goal.returns-clause-agrees
returns-clause-agrees g c = on_ok c.begin_owed_at.result (λ fine. still_agrees c.args.self.now (g.M.Medium.state c.args.unit.now).image (g.M.Medium.state c.begin_owed_at.new.unit).image _ _
    (c.begin_owed_at.ensures.puts.written fine) c.requires.agrees (ok_gives c.begin_owed_at.result (returns-clause-begun g c c.requires.own.0 c.requires.own.1) fine) (λ x y is. is.beginning.outside))

pub returns-clause-row : goal.returns-clause-row
returns-clause-row g c =
    let number = card_number_bytes c.args.number.now in
    let spared = c.requires.own.0 in
    on_ok c.begin_owed_at.result (λ fine. told_after (g.M.Medium.state c.args.unit.now).image (g.M.Medium.state c.begin_owed_at.new.unit).image (IsRowFor c.args.row number spared) (IsRowBegun number c.args.session spared) (IsRowAt c.args.row number)
    c.begin_owed_at.ensures.puts.leaves.tells c.requires.own.1 (ok_gives c.begin_owed_at.result (returns-clause-begun g c spared c.requires.own.1) fine) (λ x y at is. is.index ∙ at))
