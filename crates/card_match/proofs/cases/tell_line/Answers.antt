use Rattle.std.proofs.Common.{inl, inr, arith, get_or}
use Rattle.std.proofs.lemmas.List.{get_or_default}
use Rattle.std.proofs.lemmas.List.Edits.{map_over_more}
use Rattle.card_match.specs.declared.cases.Case.{Case}
use Rattle.card_match.specs.Cases.{with_line}
use Rattle.card_match.proofs.Empty.{no_case}
use Rattle.card_match.proofs.Marking.{changed_none, changed_all}
use Rattle.card_match.proofs.Telling.{line_outside}
use Rattle.card_match.proofs.cases.tell_line.Goals as goal

pub loop-i-init : goal.loop-i-init
loop-i-init c = changed_none (with_line c.args.line) c.earlier-from.result c.args.cases.now (λ k d low inside. line_outside c.args.line (get_or c.args.cases.now k d) (inl (c.earlier-from.ensures.front k d low)))

pub loop-i-preserved : goal.loop-i-preserved
loop-i-preserved c =
    let old : Case = get_or c.loop-i.cases c.loop-i.i no_case in
    rw c.with_line.ensures (map_over_more (with_line c.args.line) c.args.cases.now c.loop-i.cases c.loop-i.i (get_or c.loop-i.cases c.loop-i.i no_case) (omega (arith, c.loop-i-test.true, c.not_later-to.ensures.most)) c.loop-i.invariant (get_or_default c.loop-i.cases c.loop-i.i no_case (get_or c.loop-i.cases c.loop-i.i no_case) (omega (arith, c.loop-i-test.true, c.not_later-to.ensures.most, c.loop-i.auto.cases))))

pub returns : goal.returns
returns c =
    record {
      told =
          changed_all (with_line c.args.line) c.loop-i.i c.args.cases.now c.loop-i.cases c.loop-i.invariant
          (λ k d low inside. line_outside c.args.line (get_or c.args.cases.now k d) (inr (c.not_later-to.ensures.behind k d (omega (arith, c.loop-i-test.false, low)) inside)));
    }
