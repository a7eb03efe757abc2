use Rattle.tacho_types.proofs.DecimalLemmas.{bcd2_of-bytes}
use Rattle.tacho_types.proofs.decimal.write_bcd2.Goals as goal

pub returns-clause-reads_back : goal.returns-clause-reads_back
returns-clause-reads_back c = rw (c.copy_from_slice.ensures.after, c.digits_byte.ensures, c.digits_byte-2.ensures) (bcd2_of-bytes c.args.v c.requires.digits)
