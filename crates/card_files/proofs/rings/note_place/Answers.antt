use Rattle.std.proofs.Common.{refl, arith}
use Rattle.tach_media.proofs.Runs.{after_reads, if_told}
use Rattle.card_files.proofs.Sets.{places_fit, places_writable, as_place}
use Rattle.card_files.proofs.rings.note_place.Goals as goal

pub add-requires-clause-fits : goal.add-requires-clause-fits
add-requires-clause-fits g c = places_fit c.args.app.now c.in-Ok.ring c.in-Ok.ensures.ring _ (omega (arith, c.requires.fits, c.in-Ok.ensures.reads.leaves.size))

pub add-requires-clause-writable : goal.add-requires-clause-writable
add-requires-clause-writable g c = places_writable c.args.app.now c.in-Ok.ring c.in-Ok.ensures.ring _ _ c.in-Ok.ensures.reads.leaves.writable c.requires.writable

pub returns-in_err-add-clause-moments : goal.returns-in_err-add-clause-moments
returns-in_err-add-clause-moments g c = after_reads c.in-Ok.ensures.reads.leaves (c.in-Ok.ensures.reads.same refl) (as_place c.args.app.now c.args.entry.now c.in-Ok.ring _ c.in-Ok.ensures.ring c.write_place.ensures.bytes c.in_err-add.ensures.alters.moments)

pub returns-clause-moments : goal.returns-clause-moments
returns-clause-moments g c = after_reads c.in-Ok.ensures.reads.leaves (c.in-Ok.ensures.reads.same refl) (as_place c.args.app.now c.args.entry.now c.in-Ok.ring _ c.in-Ok.ensures.ring c.write_place.ensures.bytes c.in_ok-add.ensures.alters.moments)

pub returns-clause-settled : goal.returns-clause-settled
returns-clause-settled g c = if_told (g.M.Medium.state c.args.medium.now).image _ (λ x was points. c.in_ok-add.ensures.alters.settled)
