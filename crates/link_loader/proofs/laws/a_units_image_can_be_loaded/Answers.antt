use Rattle.link_loader.proofs.ImageMessages.{can_be_loaded, file_good}
use Rattle.link_loader.proofs.laws.a_units_image_can_be_loaded.Goals as goal

pub returns-clause-can : goal.returns-clause-can
returns-clause-can c = can_be_loaded

pub returns-clause-file : goal.returns-clause-file
returns-clause-file c = file_good
