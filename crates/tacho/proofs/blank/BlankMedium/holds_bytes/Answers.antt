use Rattle.tacho.specs.Blank.{blank_bytes}
use Rattle.tacho.proofs.blank.BlankMedium.holds_bytes.Goals as goal

pub returns : goal.returns
returns c = blank_bytes c.args.self.now.broken
