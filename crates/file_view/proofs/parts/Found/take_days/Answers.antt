use Rattle.file_view.proofs.parts.Found.take_days.Goals as goal

pub are_days-requires-clause-sound : goal.are_days-requires-clause-sound
are_days-requires-clause-sound c = c.requires.sound c.in-Some.app c.in-Some.is
