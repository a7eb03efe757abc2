use Rattle.std.proofs.Common.{◌≡◌, ◌+◌, ◌-◌, ◌≤◌, ℕ, ap, subst, arith}
use Rattle.unit_notes.specs.Noting.{IsWithdrawing}
use Rattle.tacho_types.specs.declared.numbers.TimeReal.{TimeReal}
use Rattle.run_acts.proofs.ActsNoted.{says-of, says-still, withdrawing-nothing}
use Rattle.std.specs.Prelude.{is_err}
use Rattle.tach_media.proofs.Runs.{ok_gives}
use Rattle.tacho_types.specs.declared.numbers.Odometer.{Odometer}
use Rattle.run_events.specs.message_model.Records.{insertion_ring}
use Rattle.run_note_record.specs.Ringed.{Seating}
use Rattle.run_acts.specs.Ringing.{odometer_of, WithdrawalStands}
use Rattle.run_acts.proofs.Ringing.{withdrawal-gone, withdrawal-noted}
use Rattle.run_events.proofs.run_speeds.Leaving.{leaves-none}
use Rattle.run_events.proofs.NoteSpeeds.{withdrawal-leaves}
use Rattle.run_acts.proofs.withdrawing.note_withdrawal.Goals as goal

pub returns-then-run-noted-ge-INSERTIONS-clause-quiet : goal.returns-then-run-noted-ge-INSERTIONS-clause-quiet
returns-then-run-noted-ge-INSERTIONS-clause-quiet g c = says-still (g.M.Medium.state c.args.unit.now)

pub returns-clause-quiet : goal.returns-clause-quiet
returns-clause-quiet g c =
    let time : TimeReal = record { 0 = c.args.at.second } in
    says-of (g.M.Medium.state c.args.unit.now) (g.M.Medium.state c.note_withdrawal.new.unit) (g.met.M.Medium.coherent c.args.unit.now) (IsWithdrawing c.args.entry time c.odometer_now-odometer.result)
    (withdrawing-nothing c.args.entry time c.odometer_now-odometer.result c.requires.entry) c.note_withdrawal.ensures.moments

-- ---- the detailed speed

pub returns-then-run-noted-ge-INSERTIONS-clause-speeds : goal.returns-then-run-noted-ge-INSERTIONS-clause-speeds
returns-then-run-noted-ge-INSERTIONS-clause-speeds g c = leaves-none (g.M.Medium.state c.args.unit.now)

pub returns-clause-speeds : goal.returns-clause-speeds
returns-clause-speeds g c =
    withdrawal-leaves c.args.entry (record { 0 = c.args.at.second }) c.odometer_now-odometer.result (g.M.Medium.state c.args.unit.now) (g.M.Medium.state c.note_withdrawal.new.unit) c.requires.entry (g.met.M.Medium.coherent c.args.unit.now)
    c.note_withdrawal.ensures.moments

-- ---- the rings

pub returns-then-run-noted-ge-INSERTIONS-clause-rings : goal.returns-then-run-noted-ge-INSERTIONS-clause-rings
returns-then-run-noted-ge-INSERTIONS-clause-rings g c = λ tells span stands.
    let s : Seating = record { index = c.args.entry; behind = c.args.run.now.noted - c.args.noted } in
    let most : insertion_ring.count ≤ c.args.run.now.noted - c.args.noted = omega arith in
    withdrawal-gone s c.args.at.second (odometer_of c.args.run.now span) (g.M.Medium.state c.args.unit.now) most

pub returns-clause-rings : goal.returns-clause-rings
returns-clause-rings g c = λ tells span stands.
    let s : Seating = record { index = c.args.entry; behind = c.args.run.now.noted - c.args.noted } in
    let few : c.args.run.now.noted - c.args.noted + 1 ≤ insertion_ring.count = omega arith in
    let U = g.M.Medium.state c.args.unit.now in
    let V = g.M.Medium.state c.note_withdrawal.new.unit in
    let o : Odometer = c.odometer_now-odometer.result in
    let make : ℕ → Odometer = λ (n : ℕ). record { 0 = n } in
    let is : o ≡ odometer_of c.args.run.now span = ap make (c.odometer_now-odometer.ensures.value span stands) in
    subst (λ (q : Odometer). WithdrawalStands (is_err c.note_withdrawal.result) s c.args.at.second q U V) is
    (withdrawal-noted s c.args.at.second o (is_err c.note_withdrawal.result) U V (g.met.M.Medium.coherent c.args.unit.now) (g.met.M.Medium.coherent c.note_withdrawal.new.unit) tells few
    (λ fine. ok_gives c.note_withdrawal.result c.note_withdrawal.ensures.noted fine) c.note_withdrawal.ensures.moments c.note_withdrawal.ensures.cause.works)

-- ---- its writes

pub returns-then-run-noted-ge-INSERTIONS-clause-most : goal.returns-then-run-noted-ge-INSERTIONS-clause-most
returns-then-run-noted-ge-INSERTIONS-clause-most g c = omega arith

pub returns-clause-most : goal.returns-clause-most
returns-clause-most g c = c.note_withdrawal.ensures.most
