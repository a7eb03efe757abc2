use Rattle.std.proofs.Common.{inl, inr, refl, rules}
use Rattle.unit_messages.proofs.window.Window.words_taken.Goals as goal

pub returns-then-full : goal.returns-then-full
returns-then-full c = inl (c.is_full-full.ensures.0 (search rules), refl)

pub returns : goal.returns
returns c = inr c.min.ensures
