-- What is known of the cuts between the power spans of a run with cards (profile).
use Rattle.std.specs.Prelude.{◌≡◌, ◌⊎◌, ℕ, true, false, List, [], ◌∷◌, All, take}
use Rattle.trace_model.specs.Trace.{TraceSecond}
use Rattle.log_model.specs.declared.lines.Break.{Break}
use Rattle.log_model.specs.Log.{RunLog, kept_after}
use Rattle.log_model.specs.Same.{SameAt}
use Rattle.event_model.specs.Events.{Seen, number_of, last_number, seen_of, seen_spans}
use Rattle.note_model.specs.Done.{has_failed_in}
use Rattle.run_unit_course.specs.Lines.{tells_cut}
use Rattle.run_unit_course.specs.Followed.{UnitPower, Lit, Due, Lost}
use Rattle.unit_events.specs.Noted.{StayFailed}

-- the number of the first of these seconds, 0 without one
abbrev pub first_number : List Seen → ℕ
first_number [] = 0
first_number (x ∷ span) = number_of x

-- the cut that ended a span is told
abbrev pub CutIsTold : List Break → List Seen → Type 0
CutIsTold breaks span = tells_cut (last_number span) breaks ≡ true

-- the cut that ended a span is told, and not yet what was kept after it, which a break says by 0
pub record IsUntold (log : RunLog) (found : List Break) (span : List Seen) : Type 0 where
  pub told : CutIsTold log.breaks span
  pub unfound : tells_cut (last_number span) found ≡ false
  pub kept : kept_after log (last_number span) ≡ 0

-- a power-on that failed, behind such a span
pub record IsFailedOn (log : RunLog) (span next : List Seen) : Type 0 where
  pub told : CutIsTold log.breaks span
  pub failed : has_failed_in log (first_number next) ≡ true
  pub kept : kept_after log (last_number span) ≡ 0

-- between two spans it is known what was kept; or it is not yet, and the power-on failed
abbrev pub IsKnownGap : RunLog → (found : List Break) → List Seen → List Seen → Type 0
IsKnownGap log found span next = CutIsTold found span ⊎ IsFailedOn log span next

-- so it is between each two of these spans
abbrev pub AreKnownGaps : RunLog → (found : List Break) → List (List Seen) → Type 0
AreKnownGaps log found [] = Unit {0}
AreKnownGaps log found (span ∷ []) = Unit {0}
AreKnownGaps log found (span ∷ next ∷ spans) = IsKnownGap log found span next × AreKnownGaps log found (next ∷ spans)

-- the last of these spans, if there is one
abbrev pub OfLast : (List Seen → Type 0) → List (List Seen) → Type 0
OfLast P [] = Unit {0}
OfLast P (span ∷ []) = P span
OfLast P (span ∷ next ∷ spans) = OfLast P (next ∷ spans)

-- of the last span, by the power now: it is known what was kept after it; it goes on; or that is not known
abbrev pub IsKnownLast : UnitPower → RunLog → (found : List Break) → List (List Seen) → Type 0
IsKnownLast (Lit []) log found spans = OfLast (CutIsTold found) spans
IsKnownLast (Lit (t ∷ span)) log found spans = Unit {0}
IsKnownLast Due log found spans = OfLast (IsUntold log found) spans
IsKnownLast Lost log found spans = OfLast (IsUntold log found) spans

-- BEHIND THESE SECONDS it is known what was kept between the spans, or the power-on failed; `unfound` is the first
-- break of which it is not known.
pub record HasGaps (log : RunLog) (unfound : ℕ) (supply : UnitPower) (done : List TraceSecond) : Type 0 where
  pub known : AreKnownGaps log (take unfound log.breaks) (seen_spans (seen_of log done))
  pub last : IsKnownLast supply log (take unfound log.breaks) (seen_spans (seen_of log done))

-- A LOG tells more than one before it, and the same of these seconds: of the breaks of which it was known what was
-- kept, too.
pub record TellsMore (log : RunLog) (found : List Break) (later : RunLog) (done : List TraceSecond) : Type 0 where
  pub same : All (λ s. SameAt log later s.number) done
  pub stay : StayFailed log later
  pub known : (u : ℕ) → tells_cut u found ≡ true → kept_after later u ≡ kept_after log u
