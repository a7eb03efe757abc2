-- What a session knows of its unit.
use Rattle.std.proofs.Common.{◌≡◌, ℕ, List, Option, Some, None, IfSome, sym, ap, subst}
use Rattle.std.specs.Prelude.{is_some}
use Rattle.tach_media.proofs.Runs.{both_told}
use Rattle.unit_memory.proofs.Told.{one_told}
use Rattle.unit_model.specs.Decoding.{Decodes}
use Rattle.unit_minutes.specs.declared.notes.Notes.{Notes}
use Rattle.unit_minutes.specs.Reading.{AreRight}
use Rattle.unit_messages.specs.declared.outline.Plan.{Plan}
use Rattle.unit_messages.specs.Outlines.{Outlines}
use Rattle.link_session.specs.Told.{SessionView, KnowsUnit}

-- a unit that was judged decodes, and the journal's notes are right
pub decodes_of : (journal : Option Notes) (outline : Option Plan) (j : Notes) (o : Option (List ℕ)) → journal ≡ Some j → IfSome o (KnowsUnit journal outline) → IfSome o Decodes
decodes_of journal outline j o is known = one_told o Decodes known (λ x k. k.decodes (ap is_some is))

pub right_of : (journal : Option Notes) (outline : Option Plan) (j : Notes) (o : Option (List ℕ)) → journal ≡ Some j → IfSome o (KnowsUnit journal outline) → IfSome o (AreRight j)
right_of journal outline j o is known = one_told o (AreRight j) known (λ x k. subst (λ (n : Option Notes). IfSome n (λ i. AreRight i x)) is k.notes)

pub outlines_of : (journal : Option Notes) (outline : Option Plan) (o : Option (List ℕ)) → IfSome o (KnowsUnit journal outline) → IfSome o (λ x. IfSome outline (λ p. Outlines p x))
outlines_of journal outline o known = one_told o (λ x. IfSome outline (λ p. Outlines p x)) known (λ x k. k.outlines)

-- another outline was found
pub other_outline : (journal : Option Notes) (was outline : Option Plan) (o : Option (List ℕ)) → IfSome o (KnowsUnit journal was) → IfSome o (λ x. IfSome outline (λ p. Outlines p x))
    → IfSome o (KnowsUnit journal outline)
other_outline journal was outline o known found =
    both_told o (KnowsUnit journal outline) known found (λ x is k f. record { decodes = k.decodes; notes = k.notes; outlines = f })

-- the unit was judged, and an outline was found
pub judged_now : (j : Notes) (outline : Option Plan) (o : Option (List ℕ)) → IfSome o Decodes → IfSome o (AreRight j) → IfSome o (λ x. IfSome outline (λ p. Outlines p x)) → IfSome o (KnowsUnit (Some j) outline)
judged_now j outline None decodes right found = tt
judged_now j outline (Some x) decodes right found = record { decodes = λ is. decodes; notes = right; outlines = found }

-- what is known, by another name of the session
pub as_found : (s t : SessionView) (o : Option (List ℕ)) → s ≡ t → IfSome o (KnowsUnit t.journal t.outline) → IfSome o (KnowsUnit s.journal s.outline)
as_found s t o is known = subst (λ (v : SessionView). IfSome o (KnowsUnit v.journal v.outline)) (sym is) known
