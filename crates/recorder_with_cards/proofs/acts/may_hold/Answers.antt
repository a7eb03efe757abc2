use Rattle.std.proofs.Common.{◌∙◌, Option, ap}
use Rattle.std.proofs.lemmas.Result.{err_from_is_err_and}
use Rattle.log_model.specs.declared.lines.SlotFault.{SlotFault}
use Rattle.run_acts.specs.ByHand.{or_else, stop_of}
use Rattle.recorder_with_cards.proofs.acts.may_hold.Goals as goal

-- slots or speed refuse it
pub returns-in_err-may_enter : goal.returns-in_err-may_enter
returns-in_err-may_enter c = record {
  answer = λ pick.
      let p = err_from_is_err_and c.from_residual.result c.from_residual.ensures.1 in
      rw (p.1, p.2) (ap (λ (r : Option SlotFault). or_else r (stop_of c.args.slot c.args.minute c.args.run.now)) (c.in_err-may_enter.ensures.answer pick c.args.minute));
}

-- or the session of the slot's card is asked
pub returns : goal.returns
returns c = record {
  answer = λ pick.
      c.may_enter-2.ensures
      ∙ ap (λ (r : Option SlotFault). or_else r (stop_of c.args.slot c.args.minute c.args.run.now)) (c.in_ok-may_enter.ensures.answer pick c.args.minute);
}
