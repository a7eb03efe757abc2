-- WHICH SESSION A CARD TELLS in Current_Usage behind what a run has noted, whatever calls failed (profile).
use Rattle.std.specs.Prelude.{◌≡◌, ◌⊎◌, ◌≤◌, ℕ, ◌&&◌, Bool, true, false, not, List, [], ◌∷◌, ◌++◌, Contains, fold}
use Rattle.std.specs.List.{AllByRecursion}
use Rattle.run_devices.specs.trace_model.declared.Card.{Card}
use Rattle.run_devices.specs.card_image.Fields.{session_time}
use Rattle.run_devices.specs.card_image.Own.{own_sizes, IsOwnValid}
use Rattle.run_devices.specs.log_model.Log.{RunLog}
use Rattle.run_devices.specs.log_model.Slots.{same_card}
use Rattle.run_devices.specs.note_model.Done.{has_failed_in}
use Rattle.run_devices.specs.note_model.Noted.{Acceptance, Withdrawal, Note, Accepts, Withdraws, Enters}
use Rattle.run_devices.specs.safety_model.Recording.{card_image}
use Rattle.run_devices.specs.safety_model.Safe.{Devices, card_of}
use Rattle.run_note_record.specs.Origin.{Origin}
use Rattle.run_note_record.specs.Moved.{Move, goes_in, goes_out}
use Rattle.run_note_record.specs.OnCards.{has_call_failed_in}

-- ---- what is sure of it

-- a card was accepted, and no call failed in that second
abbrev pub is_opened_by : RunLog → Card → Acceptance → Bool
is_opened_by log c a = same_card a.card c && not (has_call_failed_in log a.second)

-- a card was withdrawn, and no call on the unit failed in that second
abbrev pub is_shut_by : RunLog → Card → Withdrawal → Bool
is_shut_by log c w = same_card w.card c && not (has_failed_in log w.second)

-- ---- which it may tell

-- behind an acceptance a card tells of that one alone; where a call failed, or of none, or of one that it may have told
abbrev pub accepted_then : (mine failed : Bool) → List ℕ → (second : ℕ) → List ℕ
accepted_then false failed was u = was
accepted_then true false was u = u ∷ []
accepted_then true true was u = was ++ 0 ∷ [] ++ u ∷ []

-- behind its own withdrawal a card tells of none; where a call failed, or of one that it may have told; another's
-- withdrawal leaves what it may tell
abbrev pub withdrawn_then : (mine failed : Bool) → List ℕ → List ℕ
withdrawn_then false failed was = was
withdrawn_then true false was = 0 ∷ []
withdrawn_then true true was = was ++ 0 ∷ []

-- the sessions that a card may tell behind one note more
abbrev pub told_with : RunLog → Card → List ℕ → Note → List ℕ
told_with log c was (Accepts a) = accepted_then (same_card a.card c) (has_call_failed_in log a.second) was a.second
told_with log c was (Withdraws w) = withdrawn_then (same_card w.card c) (has_failed_in log w.second) was
told_with log c was (Enters p) = was

-- THE SESSIONS THAT A CARD MAY TELL behind these notes, of which its image at the start told one: 0 is none
abbrev pub told_on : RunLog → Card → (start : ℕ) → List Note → List ℕ
told_on log c start notes = fold (told_with log c) (start ∷ []) notes

-- a second is no earlier than an acceptance or a withdrawal of which that is sure
abbrev pub IsNotBefore : RunLog → Card → (second : ℕ) → Note → Type 0
IsNotBefore log c u (Accepts a) = is_opened_by log c a ≡ true → a.second ≤ u
IsNotBefore log c u (Withdraws w) = is_shut_by log c w ≡ true → w.second ≤ u
IsNotBefore log c u (Enters p) = Unit {0}

-- a second in which a call failed, no earlier than each of them
abbrev pub HasFailedSince : RunLog → Card → List Note → (second : ℕ) → Type 0
HasFailedSince log c notes u = (has_call_failed_in log u ≡ true) × AllByRecursion (IsNotBefore log c u) notes

-- A CALL THAT FAILS IN A SECOND may have left of a card no session, or that of the second, where it was being put in
-- then; none, where it was being withdrawn; and else what it told before
abbrev pub MayLeave : List Move → Card → (second session : ℕ) → Type 0
MayLeave moves c u t = (Contains moves (goes_in u c) × ((t ≡ 0) ⊎ (t ≡ u))) ⊎ (Contains moves (goes_out u c) × (t ≡ 0))

-- so it may tell of one that a call has left which failed since
abbrev pub IsBrokenSince : List Move → RunLog → Card → List Note → (session : ℕ) → Type 0
IsBrokenSince moves log c notes t = (u : ℕ) × HasFailedSince log c notes u × MayLeave moves c u t

-- SO THE SESSION THAT IT TELLS is one of these, where the run has moved the cards so.
abbrev pub MayTell : List Move → RunLog → Card → (start : ℕ) → List Note → (session : ℕ) → Type 0
MayTell moves log c start notes t = Contains (told_on log c start notes) t ⊎ IsBrokenSince moves log c notes t

-- the session that the image of a card tells, by the sizes of its image at the start
abbrev pub session_told : (start x : List ℕ) → ℕ
session_told start x = session_time (own_sizes start) x

-- EACH IMAGE that a stop may leave of a card that was valid tells of one of these
abbrev pub SessionsOnCards : Origin → List Move → RunLog → List Note → Devices → Type 0
SessionsOnCards o moves log notes d = (c : Card) → IsOwnValid (card_image o.recording c) → (x : List ℕ)
    → (card_of d c).may_leave x →
    MayTell moves log c (session_told (card_image o.recording c) (card_image o.recording c)) notes
    (session_told (card_image o.recording c) x)

-- ---- calls

-- a call fails in a second, of which these are the moves so far
abbrev pub FailsIn : RunLog → List Move → (second : ℕ) → Card → ℕ → Type 0
FailsIn log moves u c t = MayLeave moves c u t × (has_call_failed_in log u ≡ true)

-- a card is accepted in a second: it tells of that one; where a call fails in it, maybe of none
abbrev pub OpensIn : RunLog → Acceptance → Card → ℕ → Type 0
OpensIn log a c t = (same_card a.card c ≡ true)
    × ((t ≡ a.second) ⊎ ((t ≡ 0) × (has_call_failed_in log a.second ≡ true)))

-- the session of a card is ended
abbrev pub Ends : Card → Card → ℕ → Type 0
Ends card c t = (same_card card c ≡ true) × (t ≡ 0)

-- it is ended where the card had one
abbrev pub EndsIf : (had : Bool) → Card → Card → ℕ → Type 0
EndsIf had card c t = (had ≡ true) × Ends card c t

-- a card that was accepted, in a second in which no call failed, tells of that one
abbrev pub Opens : Origin → RunLog → Acceptance → Devices → Type 0
Opens o log a e = (c : Card) → IsOwnValid (card_image o.recording c) → is_opened_by log c a ≡ true → (y : List ℕ)
    → (card_of e c).may_leave y → session_told (card_image o.recording c) y ≡ a.second

-- a card that was withdrawn, in a second in which no call on the unit failed, tells of none
abbrev pub Shuts : Origin → RunLog → Withdrawal → Devices → Type 0
Shuts o log w e = (c : Card) → IsOwnValid (card_image o.recording c) → is_shut_by log c w ≡ true → (y : List ℕ)
    → (card_of e c).may_leave y → session_told (card_image o.recording c) y ≡ 0
