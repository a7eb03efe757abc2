use Rattle.std.proofs.Common.{◌≡◌, ◌∙◌, ◌-◌, ℕ, length, min, rules, subst, sym}
use Rattle.unit_memory.proofs.Told.{one_told}
use Rattle.unit_messages.specs.Faults.{piece_failed}
use Rattle.unit_messages.proofs.Calls.{any_failed}
use Rattle.unit_messages.proofs.sending.piece_of.Goals as goal

pub returns-clause-piece : goal.returns-clause-piece
returns-clause-piece g c =
    one_told (g.M.Medium.state c.args.unit.now).image _ c.in_ok-read.ensures.piece (λ x it.
    (it.0, it.1, c.len-len.ensures.len ∙ it.2, it.3))

pub returns-in_err-read-clause-reads : goal.returns-in_err-read-clause-reads
returns-in_err-read-clause-reads g c = any_failed (piece_failed c.from_residual.result) (search rules) c.in_err-read.ensures.reads

pub returns-clause-fits : goal.returns-clause-fits
returns-clause-fits g c = subst (λ (len : ℕ). length c.read.new.out.items ≡ min 252 (len - c.args.from)) (sym c.len-len.ensures.len) c.in_ok-read.ensures.fits
