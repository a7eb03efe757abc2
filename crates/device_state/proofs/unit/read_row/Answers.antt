use Rattle.std.proofs.Common.{◌≡◌, ◌∙◌, ℕ, List, Option, IfSome, subst, sym, refl}
use Rattle.tach_media.proofs.Runs.{reads_then}
use Rattle.unit_model.specs.Image.{last_kept}
use Rattle.unit_owed.specs.Owed.{owed_to}
use Rattle.unit_memory.proofs.Told.{carried, three_told}
use Rattle.device_calls.proofs.Enters.{unit-still}
use Rattle.device_state.specs.Units.{row_number}
use Rattle.device_state.proofs.ToldUnits.{row-told}
use Rattle.device_state.proofs.unit.read_row.Goals as goal

pub owed-requires-clause-unit : goal.owed-requires-clause-unit
owed-requires-clause-unit g c = unit-still _ _ (reads_then c.in_ok-session.ensures.reads c.in_ok-read_at.ensures.reads).leaves c.requires.unit

pub owed-requires-clause-kept : goal.owed-requires-clause-kept
owed-requires-clause-kept g c =
    subst (λ (o : Option (List ℕ)). IfSome o (λ x. c.args.kept ≡ last_kept x)) (sym (c.in_ok-read_at.ensures.reads.same refl ∙ c.in_ok-session.ensures.reads.same refl)) c.requires.kept

pub returns-clause-owed : goal.returns-clause-owed
returns-clause-owed g c =
    let image = (g.M.Medium.state c.args.unit.now).image in
    let number = c.read_at.new.out in
    let same_1 = c.in_ok-session.ensures.reads.same refl in
    let same_2 = c.in_ok-read_at.ensures.reads.same refl ∙ same_1 in
    let named : IfSome image (λ x. number ≡ row_number x c.args.row) = carried (λ x. number ≡ row_number x c.args.row) same_1 c.in_ok-read_at.ensures.bytes in
    let owed : IfSome image (λ x. c.in_ok-entries.entries.items ≡ owed_to x number c.asked-question.result.session c.asked-question.result.after) = carried (λ x. c.in_ok-entries.entries.items ≡ owed_to x number c.asked-question.result.session c.asked-question.result.after) same_2 c.in_ok-entries.ensures.owed in
    three_told image _ c.in_ok-session.ensures.value named owed (λ x session named owed.
    c.owed_by.ensures ∙ row-told c.args.seen.now x c.args.row c.in_ok-session.session c.len.result number c.asked-question.result c.in_ok-entries.entries.items session named c.asked-question.ensures owed c.len.ensures.value)
