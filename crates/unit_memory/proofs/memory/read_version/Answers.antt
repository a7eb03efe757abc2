use Rattle.std.proofs.Common.{◌≡◌, ◌∙◌}
use Rattle.tach_media.proofs.Runs.{both_told}
use Rattle.unit_model.specs.Versions.{version_of}
use Rattle.unit_memory.proofs.Upgrading.{known_version}
use Rattle.unit_memory.proofs.memory.read_version.Goals as goal

pub returns-clause-version : goal.returns-clause-version
returns-clause-version g c =
    both_told (g.M.Medium.state c.args.unit.now).image (λ x. c.version_known.result ≡ version_of x) c.in_ok-version.ensures.value c.requires.decodes
    (λ x is value decodes. c.version_known.ensures ∙ known_version x c.in_ok-version.version decodes value)
