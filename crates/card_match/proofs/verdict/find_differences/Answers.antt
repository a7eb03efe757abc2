use Rattle.std.proofs.Common.{◌≡◌, ◌∙◌, ℕ, ◌<◌, ◌≤◌, List, [], ◌∷◌, ◌++◌, length, get_or, take, map, ap, sym, subst, arith}
use Rattle.std.proofs.Math.ListN.{length-map}
use Rattle.std.proofs.lemmas.List.{take_more, take_all, get_or-map}
use Rattle.activity_codec.specs.declared.entries.Entry.{Entry}
use Rattle.view_model.specs.declared.Viewed.{Viewed}
use Rattle.view_model.specs.Lines.{lines_of}
use Rattle.card_match.specs.declared.cases.Case.{Case}
use Rattle.card_match.specs.declared.difference.Difference.{Difference}
use Rattle.card_match.specs.declared.verdict.Counts.{Counts}
use Rattle.card_match.specs.Matching.{Against}
use Rattle.card_match.specs.Differences.{same_difference, differences, AreCounted}
use Rattle.card_match.specs.Cases.{case_of}
use Rattle.card_match.proofs.Empty.{no_entry, no_case}
use Rattle.card_match.proofs.Counting.{one_more, none_counted, total_more}
use Rattle.card_match.proofs.Seeing.{one_differs}
use Rattle.card_match.proofs.verdict.find_differences.Goals as goal

-- the case at an index is that of the entry there
at_index : (a : Against) (cases : List Case) (entries : List Entry) (i : ℕ) → cases ≡ map (case_of a) entries → i < length cases → (get_or cases i no_case ≡ case_of a (get_or entries i no_entry)) × (i < length entries)
at_index a cases entries i is low =
    let inside : i < length entries = omega (arith, low, ap (λ (l : List Case). length l) is, length-map entries (case_of a)) in
    (ap (λ (l : List Case). get_or l i no_case) is ∙ get_or-map (case_of a) entries i no_entry no_case inside, inside)

pub loop-case-init : goal.loop-case-init
loop-case-init c = record {
  few = omega arith;
  counted = λ a entries is first. none_counted a;
  listed = λ a entries is first. c.new-runs.ensures.items;
}

pub loop-case-preserved : goal.loop-case-preserved
loop-case-preserved c = record {
  few = rw c.with-counts.ensures (omega (arith, total_more c.loop-case.counts c.sort_of-sort.result, c.loop-case.invariant.few));
  counted = λ a entries is first.
      let at = at_index a c.args.cases.now entries c.loop-case.case-index is c.loop-case-test.true in
      let sort = c.sort_of-sort.ensures a (get_or entries c.loop-case.case-index no_entry) at.0 first in
      subst (λ (l : List Entry). AreCounted a l c.with-counts.result) (sym (take_more entries c.loop-case.case-index no_entry at.1))
      (subst (λ (k : Counts). AreCounted a (take c.loop-case.case-index entries ++ get_or entries c.loop-case.case-index no_entry ∷ []) k) (sym c.with-counts.ensures)
      (one_more a (take c.loop-case.case-index entries) (get_or entries c.loop-case.case-index no_entry) c.loop-case.counts c.sort_of-sort.result (c.loop-case.invariant.counted a entries is first) sort));
  listed = λ a entries is first.
      let at = at_index a c.args.cases.now entries c.loop-case.case-index is c.loop-case-test.true in
      let sort = c.sort_of-sort.ensures a (get_or entries c.loop-case.case-index no_entry) at.0 first in
      c.in_ok-add_difference.ensures (differences a (take c.loop-case.case-index entries)) (c.loop-case.invariant.listed a entries is first)
      ∙ ap (λ (l : List (Viewed Difference)). lines_of same_difference l) (one_differs a (take c.loop-case.case-index entries) (get_or entries c.loop-case.case-index no_entry) (get_or c.args.cases.now c.loop-case.case-index no_case) c.sort_of-sort.result at.0 sort
      ∙ ap (differences a) (sym (take_more entries c.loop-case.case-index no_entry at.1)));
}

-- all of them
all_of : (a : Against) (cases : List Case) (entries : List Entry) (i : ℕ) → cases ≡ map (case_of a) entries → length cases ≤ i → take i entries ≡ entries
all_of a cases entries i is all = take_all i entries (omega (arith, all, ap (λ (l : List Case). length l) is, length-map entries (case_of a)))

pub returns : goal.returns
returns c = λ a entries is first.
    let all = all_of a c.args.cases.now entries c.loop-case.case-index is c.loop-case-test.false in
    record {
      runs_are = c.loop-case.invariant.listed a entries is first ∙ ap (λ (l : List Entry). lines_of same_difference (differences a l)) all;
      counts_are = subst (λ (l : List Entry). AreCounted a l c.loop-case.counts) all (c.loop-case.invariant.counted a entries is first);
    }
