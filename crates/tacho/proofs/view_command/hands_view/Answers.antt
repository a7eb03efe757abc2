use Rattle.std.proofs.lemmas.Result.{err_from_is_err_and}
use Rattle.std.proofs.Common.{◌<◌, List, subst, sym}
use Rattle.std.specs.List.{AllByRecursion}
use Rattle.activity_codec.specs.declared.entries.Manual.{Manual}
use Rattle.view_model.specs.Lines.{day_of_minute}
use Rattle.view_text.specs.ByHand.{IsByHandView}
use Rattle.tacho_types.specs.declared.calendar.TheConstants.{DAYS}
use Rattle.file_view.specs.CardFiles.{IsBadCardFile}
use Rattle.tacho.proofs.Views.{refused-by}
use Rattle.tacho.proofs.view_command.hands_view.Goals as goal

pub by_hand_text-requires : goal.by_hand_text-requires
by_hand_text-requires c =
    subst (λ (l : List Manual). AllByRecursion (λ (e : Manual). day_of_minute e.minute < DAYS) l) (sym c.as_slice.ensures.value) c.in_ok-entries.ensures.low

pub returns-clause-text : goal.returns-clause-text
returns-clause-text c = record {
  entries = c.in_ok-entries.entries.items;
  shows = c.in_ok-entries.ensures.told;
  view = subst (λ (l : List Manual). IsByHandView l c.in_ok-by_hand_text.field-0.items) c.as_slice.ensures.value c.in_ok-by_hand_text.ensures;
}

pub returns-in_err-entries-clause-err : goal.returns-in_err-entries-clause-err
returns-in_err-entries-clause-err c =
    let p = err_from_is_err_and c.from_residual.result c.from_residual.ensures.1 in
    rw (p.1, p.2) (refused-by (λ place. IsBadCardFile place c.args.b.now) c.in_err-entries.field-0.0 c.in_err-entries.ensures.bad)

pub returns-in_err-by_hand_text-clause-err : goal.returns-in_err-by_hand_text-clause-err
returns-in_err-by_hand_text-clause-err c =
    let p = err_from_is_err_and c.from_residual-in_err-by_hand_text.result c.from_residual-in_err-by_hand_text.ensures.1 in
    rw (p.1, p.2) tt
