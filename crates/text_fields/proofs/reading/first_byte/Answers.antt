use Rattle.std.proofs.Common.{◌∙◌, ℕ, List, drop, sym, ap, arith}
use Rattle.std.specs.Prelude.{Option, Some}
use Rattle.text_fields.specs.Lines.{behind_byte, in_front}
use Rattle.text_fields.proofs.Spelling.{two_first, one_alone, all_behind}
use Rattle.text_fields.proofs.reading.first_byte.Goals as goal

pub returns-then-text-lt2-clause-none : goal.returns-then-text-lt2-clause-none
returns-then-text-lt2-clause-none c = one_alone c.args.text.now c.requires.some (omega (arith, c.if-text-lt2.true))

pub returns-in_err-byte-clause-none : goal.returns-in_err-byte-clause-none
returns-in_err-byte-clause-none c =
    rw c.from_residual.ensures
    (two_first c.args.text.now (omega (arith, c.if-text-lt2.false))
    ∙ ap (λ (b : Option ℕ). in_front b (behind_byte (drop 2 c.args.text.now))) (sym c.in_err-byte.ensures))

pub returns-in_err-behind-clause-none : goal.returns-in_err-behind-clause-none
returns-in_err-behind-clause-none c =
    rw c.from_residual-in_err-behind.ensures
    (two_first c.args.text.now (omega (arith, c.if-text-lt2.false))
    ∙ ap (λ (b : Option ℕ). in_front b (behind_byte (drop 2 c.args.text.now))) (sym c.in_ok-byte.ensures)
    ∙ ap (λ (r : Option (List ℕ)). in_front (Some c.in_ok-byte.byte) r) (sym (ap behind_byte (all_behind c.args.text.now)) ∙ c.in_err-behind.ensures.none))

pub returns-clause-found : goal.returns-clause-found
returns-clause-found c =
    two_first c.args.text.now (omega (arith, c.if-text-lt2.false))
    ∙ ap (λ (b : Option ℕ). in_front b (behind_byte (drop 2 c.args.text.now))) (sym c.in_ok-byte.ensures)
    ∙ ap (λ (r : Option (List ℕ)). in_front (Some c.in_ok-byte.byte) r) (sym (ap behind_byte (all_behind c.args.text.now)) ∙ c.in_ok-behind.ensures.found)
