-- What a second has decided so far, and which of it is kept and acknowledged (profile).
use Rattle.std.specs.Prelude.{◌≡◌, ◌⊎◌, ℕ, zero, suc, ◌+◌, ◌*◌, ◌≤◌, ◌||◌, Bool, true, false, nat_lt, Option, Some}
use Rattle.std.specs.Prelude.{None, List, [], ◌∷◌, ◌++◌, Contains}
use Rattle.activity_codec.specs.declared.entries.Entry.{Entry}
use Rattle.activity_codec.specs.declared.values.Slot.{Slot}
use Rattle.activity_codec.specs.declared.values.Pick.{Pick}
use Rattle.trace_model.specs.declared.Card.{Card}
use Rattle.trace_model.specs.Trace.{TraceSecond}
use Rattle.run_model.specs.declared.Device.TheVariants.{Unit as Recorder}
use Rattle.minute_model.specs.declared.Rule.{Rule}
use Rattle.minute_model.specs.declared.Minute.{Minute}
use Rattle.minute_model.specs.Span.{Span, fed, picked, settled, decided_in}
use Rattle.log_model.specs.declared.lines.Mark.{Mark}
use Rattle.log_model.specs.Log.{RunLog}
use Rattle.log_model.specs.Causes.{device_of}
use Rattle.log_model.specs.Course.{ToldSecond, Course, Visit, went}
use Rattle.history_model.specs.Minutes.{HistoryMinute, on_card}
use Rattle.history_model.specs.Presence.{Start}
use Rattle.history_model.specs.History.{seated, minutes_after, decided_of}
use Rattle.history_model.specs.Growth.{picking}
use Rattle.history_model.specs.Completeness.{IsMarked, TornBetween}
use Rattle.run_unit_course.specs.Followed.{Lit}
use Rattle.run_unit_course.specs.Legs.{Travel, travelled, all_travelled}
use Rattle.run_unit_course.specs.Turn.{span_at}
use Rattle.run_course.specs.Followed.{Progress, BookFollowsRun}
use Rattle.run_course.specs.Seconds.{GoesOnBy, next_told}
use Rattle.run_course.specs.Complete.{AreAcknowledged}

-- a span with so many settlings at its next second
abbrev pub settled_times : ℕ → Span → Span
settled_times zero span = span
settled_times (suc k) span = settled (settled_times k span)

-- a span that is fed with a second at this speed, or not yet
abbrev pub fed_where : Option ℕ → Span → Span
fed_where None span = span
fed_where (Some speed) span = fed span speed

-- WHAT A SECOND HAS DECIDED so far, behind this span and with this course, and whether it is fed: these minutes are
-- kept, with their cards, and these are to be kept.
pub record HasDecided (rule : Rule) (start : Start) (told : List ToldSecond) (p : Progress) (span : List ToldSecond)
    (c : Course) (speed : Option ℕ) (sp : Span) (ds rest : List Minute) (new : List HistoryMinute) : Type 0 where
  pub times : ℕ
  pub settles : nat_lt 0 times ≡ c.settled
  pub span_is : sp ≡ fed_where speed (picking c.picks (settled_times times (span_at rule p.next span)))
  pub decided : decided_in sp ≡ decided_of rule span ++ (ds ++ rest)
  pub seated_ : new ≡ minutes_after start told p.book.sure ds

-- NOTHING is decided as the second begins.
abbrev pub NothingIsDecidedYet : Type 0
NothingIsDecidedYet = (rule : Rule) (start : Start) (told : List ToldSecond) (p : Progress) (span : List ToldSecond)
    (c : Course) → c.picks ≡ [] → c.settled ≡ false →
    HasDecided rule start told p span c None (span_at rule p.next span) [] [] []

-- A SELECTION is heard.
abbrev pub ASelectionIsHeard : Type 0
ASelectionIsHeard = (rule : Rule) (start : Start) (told : List ToldSecond) (p : Progress) (span : List ToldSecond)
    (c d : Course) (sp : Span) (ds rest : List Minute) (new : List HistoryMinute) →
    HasDecided rule start told p span c None sp ds rest new → (slot : Slot) (pick : Pick)
    → d.picks ≡ c.picks ++ (slot, pick) ∷ [] → d.settled ≡ c.settled →
    HasDecided rule start told p span d None (picked sp slot pick) ds rest new

-- A SETTLING decides the minutes before this one.
abbrev pub ASettlingDecides : Type 0
ASettlingDecides = (rule : Rule) (start : Start) (told : List ToldSecond) (p : Progress) (span : List ToldSecond)
    (c d : Course) (sp : Span) (ds more : List Minute) (new : List HistoryMinute) →
    HasDecided rule start told p span c None sp ds [] new → d.picks ≡ c.picks → d.settled ≡ true
    → decided_in (settled sp) ≡ decided_in sp ++ more →
    HasDecided rule start told p span d None (settled sp) ds more new

-- WHATEVER ELSE happens decides nothing.
abbrev pub NothingElseDecides : Type 0
NothingElseDecides = (rule : Rule) (start : Start) (told : List ToldSecond) (p : Progress) (span : List ToldSecond)
    (c d : Course) (speed : Option ℕ) (sp : Span) (ds rest : List Minute) (new : List HistoryMinute) →
    HasDecided rule start told p span c speed sp ds rest new → d.picks ≡ c.picks → d.settled ≡ c.settled
    → HasDecided rule start told p span d speed sp ds rest new

-- A MINUTE IS KEPT with its cards.
abbrev pub AMinuteIsKept : Type 0
AMinuteIsKept = (rule : Rule) (start : Start) (told : List ToldSecond) (p : Progress) (span : List ToldSecond)
    (c : Course) (speed : Option ℕ) (sp : Span) (ds : List Minute) (d : Minute) (rest : List Minute)
    (new : List HistoryMinute) →
    HasDecided rule start told p span c speed sp ds (d ∷ rest) new →
    HasDecided rule start told p span c speed sp (ds ++ d ∷ []) rest
    (new ++ seated start told (p.book.sure ++ new) d ∷ [])

-- THE SECOND IS FED behind all of its actions.
abbrev pub TheSecondIsFed : Type 0
TheSecondIsFed = (rule : Rule) (start : Start) (told : List ToldSecond) (p : Progress) (span : List ToldSecond)
    (c : Course) (sp : Span) (speed : ℕ) (ds more : List Minute) (new : List HistoryMinute) →
    HasDecided rule start told p span c None sp ds [] new → decided_in (fed sp speed) ≡ decided_in sp ++ more
    → HasDecided rule start told p span c (Some speed) (fed sp speed) ds more new

-- THE SECOND HAS DECIDED these minutes, as it went.
abbrev pub TheSecondHasDecided : Type 0
TheSecondHasDecided = (rule : Rule) (start : Start) (from first : ℕ) (done : List TraceSecond) (p : Progress)
    → BookFollowsRun rule start from first done p →
    (span : List ToldSecond) → p.supply ≡ Lit span → (s : TraceSecond) (log : RunLog) → GoesOnBy p log s
    → (c : Course) (sp : Span) (ds rest : List Minute) (new : List HistoryMinute) →
    HasDecided rule start (went p.log done).told p span c (Some s.speed) sp ds rest new →
    let t : ToldSecond = next_told log done s in
    t.second.picks ≡ c.picks → t.course.settled ≡ c.settled → t.second.speed ≡ s.speed →
    decided_of rule (span ++ t ∷ []) ≡ decided_of rule span ++ (ds ++ rest)

-- OR A CUT ENDS IT before it is fed: these, and perhaps more.
abbrev pub TheCutHasDecided : Type 0
TheCutHasDecided = (rule : Rule) (start : Start) (from first : ℕ) (done : List TraceSecond) (p : Progress)
    → BookFollowsRun rule start from first done p →
    (span : List ToldSecond) → p.supply ≡ Lit span → (s : TraceSecond) (log : RunLog) → GoesOnBy p log s
    → (c : Course) (sp : Span) (ds rest : List Minute) (new : List HistoryMinute) →
    HasDecided rule start (went p.log done).told p span c None sp ds rest new →
    let t : ToldSecond = next_told log done s in
    (later : Bool) → t.second.picks ≡ c.picks → t.course.settled ≡ (c.settled || later) → t.second.speed ≡ s.speed →
    (more : List Minute) × (decided_of rule (span ++ t ∷ []) ≡ decided_of rule span ++ ((ds ++ rest) ++ more))

-- what was travelled up to the minutes that are kept
abbrev pub OneMoreIsTravelled : Type 0
OneMoreIsTravelled = (ds : List Minute) (d : Minute) (g : Travel)
    → all_travelled (ds ++ d ∷ []) g ≡ travelled d.minute d.travelled (all_travelled ds g)

-- ---- what is acknowledged

-- A card was torn out or pulled out since a second: before this second, or in it.
abbrev pub BrokenSince : List ToldSecond → Course → (card : Card) → (from number : ℕ) → Type 0
BrokenSince told c card from number = TornBetween told card from number
    ⊎ ((from ≤ number) × ((v : Visit) × (v.card ≡ card) × (Contains c.torn v ⊎ Contains c.pulled v)))

-- Of the minutes that were kept so far each is acknowledged by the unit, and each entry by its card, but where that was
-- torn out since.
pub record AreMarkedSoFar (marks : List Mark) (told : List ToldSecond) (c : Course) (number : ℕ)
    (new : List HistoryMinute) : Type 0 where
  pub unit : (i : HistoryMinute) → Contains new i → IsMarked marks Recorder i.minute
  pub card : (i : HistoryMinute) (card : Card) (e : Entry) → Contains new i → Contains (on_card card i) e →
      IsMarked marks (device_of card) i.minute ⊎ BrokenSince told c card (60 * (i.minute + 1)) number

-- who is torn out or pulled out stays so
pub record StaysOut (old new : Course) : Type 0 where
  pub torn : (v : Visit) → Contains old.torn v → Contains new.torn v
  pub pulled : (v : Visit) → Contains old.pulled v → Contains new.pulled v

-- WHERE NO MINUTE IS KEPT YET all kept ones are acknowledged;
abbrev pub NothingIsMarkedYet : Type 0
NothingIsMarkedYet = (marks : List Mark) (told : List ToldSecond) (c : Course) (number : ℕ)
    → AreMarkedSoFar marks told c number []

-- they stay so behind further marks, and while no card comes back that was torn out or pulled out.
abbrev pub MarksStay : Type 0
MarksStay = (marks more : List Mark) (told : List ToldSecond) (c d : Course) (number : ℕ) (new : List HistoryMinute)
    → AreMarkedSoFar marks told c number new →
    ((mark : Mark) → Contains marks mark → Contains more mark) → StaysOut c d → AreMarkedSoFar more told d number new

-- ONE MINUTE MORE
abbrev pub OneMoreIsMarked : Type 0
OneMoreIsMarked = (marks : List Mark) (told : List ToldSecond) (c : Course) (number : ℕ) (new : List HistoryMinute)
    (i : HistoryMinute) → AreMarkedSoFar marks told c number new → IsMarked marks Recorder i.minute →
    ((card : Card) (e : Entry) → Contains (on_card card i) e
    → IsMarked marks (device_of card) i.minute ⊎ BrokenSince told c card (60 * (i.minute + 1)) number) →
    AreMarkedSoFar marks told c number (new ++ i ∷ [])

-- AT THE SECOND'S END, where all that it decided is kept, nothing else is asked of acknowledgements.
abbrev pub AllAreAcknowledged : Type 0
AllAreAcknowledged = (marks : List Mark) (told : List ToldSecond) (t : ToldSecond) (number : ℕ)
    (new : List HistoryMinute) → t.second.number ≡ number → AreMarkedSoFar marks told t.course number new →
    AreAcknowledged marks (told ++ t ∷ []) number t new
