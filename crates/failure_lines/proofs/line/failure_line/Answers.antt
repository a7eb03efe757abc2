use Rattle.std.proofs.Common.{◌≡◌, ◌∙◌, ℕ, ◌++◌, Bool, true, List, ap, sym, subst, arith}
use Rattle.std.specs.Prelude.{codes}
use Rattle.activity_codec.specs.Names.{slot_name}
use Rattle.activity_codec.specs.declared.values.Slot.{Slot}
use Rattle.log_model.specs.declared.lines.Break.{Break}
use Rattle.log_model.specs.declared.lines.Break.TheVariants.{Cut, Tear}
use Rattle.failure_lines.specs.Failures.{IsBreakLine, IsFailureText}
use Rattle.failure_lines.proofs.line.failure_line.Goals as goal

cut_told : (b : Break) (second kept : ℕ) (failed : Bool) (begun : ℕ) (text : List ℕ) → b ≡ Cut second kept failed begun → failed ≡ true → IsFailureText (codes "unit") second (codes "power is cut") text → IsBreakLine b text
cut_told b second kept failed begun text is yes_failed told = subst (λ (x : Break). IsBreakLine x text) (sym (is ∙ ap (λ (f : Bool). Cut second kept f begun) yes_failed)) told

tear_told : (b : Break) (second : ℕ) (slot : Slot) (failed : Bool) (begun : ℕ) (late : Bool) (who text : List ℕ) → b ≡ Tear second slot failed begun late → failed ≡ true → who ≡ slot_name slot ++ codes " card"
    → IsFailureText who second (codes "it is torn out") text → IsBreakLine b text
tear_told b second slot failed begun late who text is yes_failed name told =
    subst (λ (x : Break). IsBreakLine x text) (sym (is ∙ ap (λ (f : Bool). Tear second slot f begun late) yes_failed))
    (subst (λ (w : List ℕ). IsFailureText w second (codes "it is torn out") text) name told)

pub returns-else-not-failed : goal.returns-else-not-failed
returns-else-not-failed c =
    let failed : c.in-Cut.failed ≡ true = grind (arith, c.if-not-failed.false) in
    cut_told c.args.line.now c.in-Cut.second c.in-Cut.kept c.in-Cut.failed c.in-Cut.begun c.failure_text.result.items c.in-Cut.is failed c.failure_text.ensures

pub returns-else-not-failed-2 : goal.returns-else-not-failed-2
returns-else-not-failed-2 c =
    let failed : c.in-Tear.failed ≡ true = grind (arith, c.if-not-failed-2.false) in
    tear_told c.args.line.now c.in-Tear.second c.in-Tear.slot c.in-Tear.failed c.in-Tear.begun c.in-Tear.late c.card_of.result.now c.failure_text-in-Tear.result.items c.in-Tear.is failed c.card_of.ensures.name c.failure_text-in-Tear.ensures
