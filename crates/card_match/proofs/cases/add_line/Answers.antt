use Rattle.std.proofs.Common.{◌≡◌, ◌∙◌, ℕ, ◌+◌, ◌-◌, List, [], ◌∷◌, ◌++◌, map, ap, sym, arith, append_assoc}
use Rattle.std.specs.List.{range_with_len}
use Rattle.file_view.specs.Histories.{entry_told}
use Rattle.card_match.specs.Cases.{fresh}
use Rattle.card_match.specs.declared.cases.Case.{Case}
use Rattle.card_match.proofs.Lines.{viewed, cases_on, range_more}
use Rattle.card_match.proofs.cases.add_line.Goals as goal

pub loop-minute-preserved : goal.loop-minute-preserved
loop-minute-preserved c =
    let more : c.loop-minute.minute - c.args.line.first + 1 ≡ c.loop-minute.minute + 1 - c.args.line.first = omega (arith, c.loop-minute.auto.minute) in
    let place : c.args.line.first + (c.loop-minute.minute - c.args.line.first) ≡ c.loop-minute.minute = omega (arith, c.loop-minute.auto.minute) in
    record {
      few = omega (arith, c.loop-minute.auto.minute, c.loop-minute-test.true);
      told =
          c.in_ok-push.ensures.items
          ∙ ap (λ (x : Case). c.loop-minute.cases.items ++ x ∷ []) c.fresh.ensures
          ∙ ap (λ (l : List Case). l ++ fresh (entry_told (viewed c.args.line.shown c.loop-minute.minute)) ∷ []) c.loop-minute.invariant.told
          ∙ append_assoc c.args.cases.now.items (cases_on (map (viewed c.args.line.shown) (range_with_len c.args.line.first (c.loop-minute.minute - c.args.line.first)))) (fresh (entry_told (viewed c.args.line.shown c.loop-minute.minute)) ∷ [])
          ∙ ap (λ (l : List Case). c.args.cases.now.items ++ l) (sym (range_more c.args.line.shown c.args.line.first (c.loop-minute.minute - c.args.line.first) c.loop-minute.minute place)
          ∙ ap (λ (n : ℕ). cases_on (map (viewed c.args.line.shown) (range_with_len c.args.line.first n))) more);
    }

pub returns : goal.returns
returns c =
    let all : c.loop-minute.minute - c.args.line.first ≡ c.args.line.last + 1 - c.args.line.first = omega (arith, c.loop-minute.auto.minute, c.loop-minute.invariant.few, c.loop-minute-test.false) in
    c.loop-minute.invariant.told ∙ ap (λ (n : ℕ). c.args.cases.now.items ++ cases_on (map (viewed c.args.line.shown) (range_with_len c.args.line.first n))) all
