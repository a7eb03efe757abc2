use Rattle.std.proofs.lemmas.Grind.{common_steps}
use Rattle.std.proofs.Common.{◌≡◌, ⊎_elim, false, refl, ◌∙◌, arith, rules}
use Rattle.std.proofs.lemmas.Bool.Decides.{nat_tests}
use Rattle.tach_media.proofs.Runs.{both_told, after_reads}
use Rattle.unit_model.specs.Versions.{version_of}
use Rattle.unit_memory.specs.Upgrades.{version_before}
use Rattle.unit_memory.proofs.Upgrading.{two_versions}
use Rattle.unit_memory.proofs.memory.UnitMemory.upgrade.Goals as goal

pub returns-then-version-ne1-clause-upgraded : goal.returns-then-version-ne1-clause-upgraded
returns-then-version-ne1-clause-upgraded g c = record {
  version =
      both_told (g.M.Medium.state c.args.unit.now).image (λ x. version_of x ≡ version_before false) c.in_ok-memory.ensures.facts c.in_ok-memory.ensures.decodes
      (λ x is facts decodes.
      let same : c.version.result ≡ version_of x = c.version.ensures ∙ facts.version in
      let other = c.if-version-ne1.true in
      ⊎_elim (λ one. absurd (let first : c.version.result ≡ 1 = same ∙ one in grind (arith, nat_tests, other, first))) (λ two. two) (two_versions x decodes));
  image = first_of (search rules, grind (arith, common_steps));
  decodes = first_of (search rules, grind (arith, common_steps));
}

pub returns-clause-moments : goal.returns-clause-moments
returns-clause-moments g c = after_reads c.in_ok-memory.ensures.reads.leaves (c.in_ok-memory.ensures.reads.same refl) c.write_amended.ensures.moments

-- ---- its writes

pub returns-in_err-memory-clause-most : goal.returns-in_err-memory-clause-most
returns-in_err-memory-clause-most g c = let read = c.in_err-memory.ensures.reads.clock in omega (arith, read)

pub returns-then-version-ne1-clause-most : goal.returns-then-version-ne1-clause-most
returns-then-version-ne1-clause-most g c = let read = c.in_ok-memory.ensures.reads.clock in omega (arith, read)

pub returns-in_err-write_amended-clause-most : goal.returns-in_err-write_amended-clause-most
returns-in_err-write_amended-clause-most g c = let read = c.in_ok-memory.ensures.reads.clock in let few = c.write_amended.ensures.most in omega (arith, read, few)

pub returns-clause-most : goal.returns-clause-most
returns-clause-most g c = let read = c.in_ok-memory.ensures.reads.clock in let few = c.write_amended.ensures.most in omega (arith, read, few)
