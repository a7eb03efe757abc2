use Rattle.tacho.proofs.Puts.{whole-of}
use Rattle.tacho.proofs.reading_command.put_reading.Goals as goal

pub put_text-requires-clause-whole : goal.put_text-requires-clause-whole
put_text-requires-clause-whole g c = whole-of c.args.reading c.in_default.not-Show

pub returns-in-Show-clause-ends : goal.returns-in-Show-clause-ends
returns-in-Show-clause-ends g c = rw c.in-Show.is c.put_json.ensures.ends
