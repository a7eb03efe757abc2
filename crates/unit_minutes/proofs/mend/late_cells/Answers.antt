use Rattle.std.proofs.Common.{rules, ◌≡◌, ℕ, true, ⊎_elim, refl, sym, ◌∙◌, ap, subst, arith}
use Rattle.std.specs.Prelude.{is_err}
use Rattle.std.proofs.lemmas.Bool.{cases_lt}
use Rattle.gated_ring.specs.Ring.{number_at}
use Rattle.tach_media.specs.Medium.{Reads}
use Rattle.tach_media.proofs.Runs.{reads_then, at_image}
use Rattle.tach_media.specs.Plan.{Pieces, more, none}
use Rattle.unit_model.specs.declared.layout.TheConstants.{IMAGE_SIZE}
use Rattle.unit_model.specs.Decoding.{cell_place}
use Rattle.unit_memory.proofs.Told.{told_all, one_told}
use Rattle.unit_minutes.specs.Mends.{emptied_at, late_cells}
use Rattle.unit_minutes.proofs.MendPlan.{no_cells, cells_more}
use Rattle.unit_minutes.proofs.Equal.{image_of, reads_of}
use Rattle.unit_minutes.proofs.mend.late_cells.Goals as goal

pub loop-nth-init : goal.loop-nth-init
loop-nth-init g c = record {
  plan = told_all (g.M.Medium.state c.args.unit.now).image _ (λ x is. c.new-plan.ensures ∙ ap (more (none 0 IMAGE_SIZE)) (sym (no_cells c.args.kept x)));
  front = ap (λ (p : Pieces). p.from) c.new-plan.ensures;
  end = ap (λ (p : Pieces). p.end) c.new-plan.ensures;
  few = omega (arith, ap (λ (p : Pieces). Rattle.std.proofs.Common.length p.pieces) c.new-plan.ensures);
  first = λ start. refl;
  reads = λ some. absurd (omega (arith, some));
}

pub loop-nth-preserved : goal.loop-nth-preserved
loop-nth-preserved g c =
    let old = g.M.Medium.state c.args.unit.now in
    let mid = g.M.Medium.state c.loop-nth.unit in
    let n = c.loop-nth.nth in
    let kept = c.args.kept in
    let was = c.loop-nth.invariant in
    let e = c.in_ok-minute.ensures in
    let m = c.in_ok-minute.minute in
    let place_is : c.cell_place-place.result ≡ cell_place n = c.cell_place-place.ensures.place in
    let same : mid.image ≡ old.image = ⊎_elim (λ some. (was.reads some).same refl) (λ none. image_of g.M.Medium.state (was.first (omega (arith, none)))) (cases_lt 0 n) in
    record {
      plan = told_all old.image _ (λ x is.
          let read : m ≡ number_at x (cell_place n) 4 = at_image (λ x. m ≡ number_at x c.cell_place-place.result 4) (same ∙ is) e.value ∙ ap (λ (q : ℕ). number_at x q 4) place_is in
          let before : c.loop-nth.plan ≡ more (none 0 IMAGE_SIZE) (late_cells kept n x) = at_image (λ x. c.loop-nth.plan ≡ more (none 0 IMAGE_SIZE) (late_cells kept n x)) is was.plan in
          c.add_emptied.ensures.plan ∙ (λ t. more (before t) (emptied_at (place_is t) kept (read t))) ∙ ap (more (none 0 IMAGE_SIZE)) (sym (cells_more kept n x)));
      front = ap (λ (p : Pieces). p.from) c.add_emptied.ensures.plan ∙ was.front;
      end = ap (λ (p : Pieces). p.end) c.add_emptied.ensures.plan ∙ was.end;
      few = omega (arith, c.add_emptied.ensures.length, was.few);
      first = λ none. absurd (omega (arith, none));
      reads = λ some. ⊎_elim
          (λ more. reads_then (was.reads more) e.reads)
          (λ none. reads_of g.M.Medium.state (was.first (omega (arith, none))) e.reads)
          (cases_lt 0 n);
    }

pub returns-clause-plan : goal.returns-clause-plan
returns-clause-plan g c =
    let n = c.loop-nth.nth in
    let end : n ≡ 32 = omega (arith, c.loop-nth-test.false, c.loop-nth.auto.nth-end) in
    one_told (g.M.Medium.state c.args.unit.now).image _ c.loop-nth.invariant.plan (λ x plan. plan ∙ ap (λ (k : ℕ). more (none 0 IMAGE_SIZE) (late_cells c.args.kept k x)) end)

pub returns-clause-reads : goal.returns-clause-reads
returns-clause-reads g c = c.loop-nth.invariant.reads (omega (arith, c.loop-nth-test.false, c.loop-nth.auto.nth-end))

pub returns-in_err-minute-clause-reads : goal.returns-in_err-minute-clause-reads
returns-in_err-minute-clause-reads g c =
    let was = c.loop-nth.invariant in
    let failed : is_err c.from_residual.result ≡ true = search rules in
    subst (Reads (g.M.Medium.state c.args.unit.now) (g.M.Medium.state c.read_number.new.medium)) (sym failed) (⊎_elim
    (λ more. reads_then (was.reads more) c.in_err-minute.ensures.reads)
    (λ none. reads_of g.M.Medium.state (was.first (omega (arith, none))) c.in_err-minute.ensures.reads)
    (cases_lt 0 c.loop-nth.nth))
