-- A session as its callers see it, and why it does not answer.
use Rattle.std.specs.Prelude.{◌≡◌, ◌||◌, ℕ, Bool, true, false, Result, Ok, Err, Option, Some, None, IfSome, IfErr}
use Rattle.std.specs.Prelude.{OnOk, OnErr, is_some, List}
use Rattle.tach_media.specs.Medium.{State}
use Rattle.link_model.specs.Answers.{LinkState}
use Rattle.unit_model.specs.Decoding.{Decodes, first_bad_place}
use Rattle.unit_minutes.specs.declared.notes.Notes.{Notes}
use Rattle.unit_minutes.specs.Reading.{AreRight, ReadsIfAny}
use Rattle.unit_messages.specs.declared.outline.Plan.{Plan}
use Rattle.unit_messages.specs.Outlines.{Outlines}
use Rattle.link_session.specs.declared.asking.AnswerFault.{AnswerFault}
use Rattle.link_session.specs.declared.asking.AnswerFault.TheVariants.{Failed, BadUnit}

-- where the session stands; the notes of its unit's journal, from when it was judged on; and the outline of the message
-- that was asked for last
pub record SessionView : Type 0 where
  pub state : LinkState
  pub journal : Option Notes
  pub outline : Option Plan

-- a session that stands so, and has found nothing yet
abbrev pub fresh : LinkState → SessionView
fresh state = record { state = state; journal = None; outline = None }

-- the unit was judged
abbrev pub is_judged : SessionView → Bool
is_judged s = is_some s.journal

-- What a session has found of its unit is still so: an image that it was judged by, or any that these notes and this
-- outline fit. Whoever writes nothing to the unit keeps it.
pub record KnowsUnit (journal : Option Notes) (outline : Option Plan) (x : List ℕ) : Type 0 where
  pub decodes : is_some journal ≡ true → Decodes x
  pub notes : IfSome journal (λ j. AreRight j x)
  pub outlines : IfSome outline (λ o. Outlines o x)

-- what a session has found of its unit is so of this image
abbrev pub Knows : SessionView → List ℕ → Type 0
Knows s x = KnowsUnit s.journal s.outline x

-- a fact of the place of the field that fails
abbrev pub IfBadUnit : AnswerFault → (ℕ → Type 0) → Type 0
IfBadUnit Failed P = Unit {0}
IfBadUnit (BadUnit p) P = P p

-- the answer is that the medium failed
abbrev pub has_failed : {T : Type 0} → Result T AnswerFault → Bool
has_failed (Ok x) = false
has_failed (Err Failed) = true
has_failed (Err (BadUnit p)) = false

-- WHAT A SESSION HAS FOUND behind an answer: the unit is judged where it was, or where the answer asks it; and what was
-- found of it is so
pub record HasFound {T : Type 0} (result : Result T AnswerFault) (asks : Bool) (old new : SessionView)
    (image : Option (List ℕ)) : Type 0 where
  pub judged : OnOk result (is_judged new ≡ (is_judged old || asks))
  pub knows : OnOk result (IfSome image (Knows new))

-- NO ANSWER comes only where the unit is asked; and a bad unit is bad at this place, and was not judged before
pub record AnswersNot {T : Type 0} (result : Result T AnswerFault) (asks : Bool) (old : SessionView)
    (image : Option (List ℕ)) : Type 0 where
  pub silent : IfErr result (λ fault. asks ≡ true)
  pub bad : IfErr result (λ fault. IfBadUnit fault (λ p. (is_judged old ≡ false)
      × IfSome image (λ x. first_bad_place x ≡ Some p)))

-- WHAT A SESSION LEAVES that asks its unit: after an answer it stands where it stood, the unit is judged, and what was
-- found of it is so; else the session is as it was, and only a unit that was not judged before is bad, at this place.
-- The unit is read, if at all, and never written.
pub record AsksUnit {T : Type 0} (result : Result T AnswerFault) (old new : SessionView) (unit now : State) : Type 0
  where
    pub stays : OnOk result (new.state ≡ old.state)
    pub judged : OnOk result (is_judged new ≡ true)
    pub knows : OnOk result (IfSome unit.image (Knows new))
    pub same : OnErr result (new ≡ old)
    pub bad : IfErr result (λ fault. IfBadUnit fault (λ p. (is_judged old ≡ false)
        × IfSome unit.image (λ x. first_bad_place x ≡ Some p)))
    pub reads : ReadsIfAny unit now (has_failed result)
