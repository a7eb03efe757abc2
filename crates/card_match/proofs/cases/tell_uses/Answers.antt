use Rattle.std.proofs.Common.{◌∙◌, ◌+◌, List, [], ◌∷◌, ◌++◌, get_or, take, map, ap, sym, subst, append_assoc}
use Rattle.std.proofs.lemmas.List.{take_more}
use Rattle.card_match.specs.declared.cases.Use.{Use}
use Rattle.card_match.specs.declared.cases.Case.{Case}
use Rattle.card_match.specs.Matching.{Against}
use Rattle.card_match.specs.Cases.{case_of, with_use, AreRising, minute_of_case}
use Rattle.card_match.proofs.Empty.{no_use}
use Rattle.card_match.proofs.Marking.{map_twice}
use Rattle.card_match.proofs.Rising.{rising_map}
use Rattle.card_match.proofs.Telling.{use_keeps, one_use}
use Rattle.card_match.proofs.cases.tell_uses.Goals as goal

pub loop-u-preserved : goal.loop-u-preserved
loop-u-preserved c =
    let u : Use = get_or c.args.uses.now c.loop-u.u-index no_use in
    record {
      rising = subst AreRising (sym c.tell_use.ensures.told) (rising_map minute_of_case minute_of_case (with_use (get_or c.args.uses.now c.loop-u.u-index no_use)) c.loop-u.cases (use_keeps u) c.loop-u.invariant.rising);
      told = λ a entries is.
          let before : Against = record { uses = a.uses ++ take c.loop-u.u-index c.args.uses.now; minutes = a.minutes } in
          let by : List Use → Against = λ us. record { uses = us; minutes = a.minutes } in
          c.tell_use.ensures.told
          ∙ ap (λ (l : List Case). map (with_use (get_or c.args.uses.now c.loop-u.u-index no_use)) l) (c.loop-u.invariant.told a entries is)
          ∙ map_twice (case_of (by (a.uses ++ take c.loop-u.u-index c.args.uses.now))) (with_use (get_or c.args.uses.now c.loop-u.u-index no_use)) (case_of (by (a.uses ++ take (c.loop-u.u-index + 1) c.args.uses.now))) entries
          (λ e.
          one_use (by (a.uses ++ take c.loop-u.u-index c.args.uses.now)) (get_or c.args.uses.now c.loop-u.u-index no_use) e
          ∙ ap (λ (us : List Use). case_of (by us) e) (append_assoc a.uses (take c.loop-u.u-index c.args.uses.now) (get_or c.args.uses.now c.loop-u.u-index no_use ∷ [])
          ∙ ap (λ (l : List Use). a.uses ++ l) (sym (take_more c.args.uses.now c.loop-u.u-index no_use c.loop-u-test.true))));
    }
