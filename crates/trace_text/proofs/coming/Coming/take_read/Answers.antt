use Rattle.std.proofs.Common.{Option, Some, List, ℕ, ◌+◌, sym, subst}
use Rattle.std.specs.List.{AllByRecursion}
use Rattle.std.proofs.lemmas.Result.{err_from_is_err_and}
use Rattle.trace_model.specs.declared.Item.{Item}
use Rattle.trace_text.specs.Coming.{StartsBy, told}
use Rattle.trace_text.specs.Line.{IsKnown}
use Rattle.trace_text.proofs.LinesRead.{item-long, read-item, added-known}
use Rattle.trace_text.proofs.coming.Coming.take_read.Goals as goal

pub returns-in_err-total-clause-fault : goal.returns-in_err-total-clause-fault
returns-in_err-total-clause-fault c = λ lines behind items line counts_it reads is.
    let p = err_from_is_err_and c.from_residual.result c.from_residual.ensures.1 in
    rw (p.1, p.2) (item-long lines behind items line c.args.self.now c.args.start c.args.item c.in_err-total.field-0.0 is c.requires.later counts_it reads c.in_err-total.ensures.fault)

pub returns-clause-ok : goal.returns-clause-ok
returns-clause-ok c = λ lines items line counts_it reads is.
    rw c.waits_behind-self.ensures (read-item lines items line c.args.self.now c.args.start c.in_ok-total.total c.args.item (told c.came_of-came.result) is c.requires.later counts_it reads (c.came_of-came.ensures.items (c.args.self.now.lines + 1)) c.in_ok-total.ensures.ok)

pub returns-clause-starts : goal.returns-clause-starts
returns-clause-starts c =
    let P : Option ℕ → Type 0 = λ at. StartsBy c.came_of-came.result at at in subst P (sym c.requires.later) (c.came_of-came.ensures.some c.args.start)

pub returns-clause-known : goal.returns-clause-known
returns-clause-known c =
    let P : List Item → Type 0 = λ items. AllByRecursion (IsKnown c.args.self.now.form) items in
    subst P (sym (c.came_of-came.ensures.items 0)) (added-known c.args.self.now.form c.args.self.now.waiting 0 c.args.item c.requires.known)
