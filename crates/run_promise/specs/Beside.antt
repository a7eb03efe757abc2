-- What was found of cards, and which cards may be written, as the seconds of a run go on (profile).
use Rattle.std.specs.Prelude.{◌≡◌, ◌⊎◌, false, ℕ, ◌+◌, ◌-◌, ◌%◌, ◌<◌, ◌≤◌, ◌&&◌, List, [], ◌∷◌, ◌++◌, Contains, length}
use Rattle.std.specs.Prelude.{map, filter}
use Rattle.std.specs.List.{AllByRecursion}
use Rattle.run_course.specs.trace_model.declared.Card.{Card}
use Rattle.run_course.specs.trace_model.declared.Action.{Action}
use Rattle.run_course.specs.trace_model.Trace.{TraceSecond, driven, dark}
use Rattle.run_course.specs.log_model.declared.lines.Mark.{Mark}
use Rattle.run_course.specs.log_model.declared.lines.Refused.{Refused}
use Rattle.run_course.specs.log_model.declared.lines.Verdict.{Verdict}
use Rattle.run_course.specs.log_model.Log.{RunLog}
use Rattle.run_course.specs.log_model.Slots.{same_card}
use Rattle.run_course.specs.log_model.Course.{ToldSecond, Visit, went}
use Rattle.unit_rule.specs.run_unit_course.Lines.{cut_at, found_from}
use Rattle.unit_rule.specs.run_unit_course.Followed.{Lit, Lost}
use Rattle.unit_rule.specs.safety_model.Recording.{Recording}
use Rattle.unit_rule.specs.safety_model.Cards.{is_overlap, entered, overlaps}
use Rattle.unit_rule.specs.safety_model.Safe.{Devices, card_of, IsVerdict}
use Rattle.run_promise.specs.Found.{found_of}
use Rattle.run_promise.specs.Cards.{IsUntouched}
use Rattle.run_course.specs.Moments.{and_break}
use Rattle.run_course.specs.Followed.{Progress, BookFollowsRun}
use Rattle.run_course.specs.Seconds.{GoesOnBy, next_told}
use Rattle.run_course.specs.Lines.{times_of}
use Rattle.run_course.specs.Moment.{finds_by}
use Rattle.run_promise.specs.Origin.{Origin, rule_of, start_at, first_of}
use Rattle.run_promise.specs.Ends.{recording_by, BringsAll, AreFound, AreVerdicts, MayBeWritten, AreSpared}

-- what a second tells of cards: who entered, and what was found
pub record CardsTold : Type 0 where
  pub number : ℕ
  pub entered : List Visit
  pub found : List (Visit × Verdict)

-- of all that a second tells what it tells of cards
abbrev pub cards_of : ToldSecond → CardsTold
cards_of t = record { number = t.second.number; entered = t.course.entered; found = t.course.found }

-- THE SECONDS GO ON: of cards they tell the same as before, and then these, none of which is earlier than a second.
pub record TellsMore (old new more : List ToldSecond) (from : ℕ) : Type 0 where
  pub same : map cards_of new ≡ map cards_of old ++ map cards_of more
  pub before : (t : ToldSecond) → Contains old t → t.second.number < from
  pub behind : AllByRecursion (λ (t : ToldSecond). from ≤ t.second.number) more

-- what a device might have left since the start it might have left still
pub record HaveLeftMore (o : Origin) (d e : Devices) : Type 0 where
  pub unit : (x : List ℕ) → d.unit.left_since o.found.unit.began x → e.unit.left_since o.found.unit.began x
  pub card : (c : Card) (x : List ℕ) → (card_of d c).left_since (found_of o.found c).began x
      → (card_of e c).left_since (found_of o.found c).began x

-- a find is one that may be made, by the images left since the start, and so many were brought
abbrev pub MayBeFound : Origin → List TraceSecond → RunLog → List Mark → Devices → ToldSecond → Visit → Verdict → Type 0
MayBeFound o done log marks d t e v =
    IsVerdict (recording_by o done log) (d.unit.left_since o.found.unit.began)
    ((card_of d e.card).left_since (found_of o.found e.card).began) e.card t.second.number v
    × BringsAll (recording_by o done log) marks e.card t.second.number v

-- the times that a card entered a slot in a second, or met power there
abbrev pub entered_in : Card → ToldSecond → List Visit
entered_in c t = filter (λ e. same_card c e.card) t.course.entered

-- the times that it was found to tell of a later time in that second
abbrev pub overlaps_in : Recording → Card → ToldSecond → List (Visit × Verdict)
overlaps_in r c t = filter (λ f. same_card c f.0.card && is_overlap r c f.1) t.course.found

-- in each of these seconds a card is found to tell of a later time no more often than it entered
abbrev pub AreFewer : Recording → List ToldSecond → Type 0
AreFewer r more = AllByRecursion (λ (t : ToldSecond). (c : Card) → length (overlaps_in r c t) ≤ length (entered_in c t))
    more

-- no card enters in these seconds, and nothing is found of one
abbrev pub AreIdle : List ToldSecond → Type 0
AreIdle more = AllByRecursion (λ (t : ToldSecond). (t.course.entered ≡ []) × (t.course.found ≡ [])) more

-- WHICH SECONDS go on so: one more that the trace gives power, whole or a cut's;
abbrev pub ASecondTellsMore : Type 0
ASecondTellsMore = (o : Origin) (done : List TraceSecond) (p : Progress)
    → BookFollowsRun (rule_of o) (start_at o) o.from (first_of o) done p → (s : TraceSecond) (log : RunLog)
    → GoesOnBy p log s →
    (next_told log done s).second.number ≡ p.next →
    TellsMore (went p.log done).told (went log (done ++ s ∷ [])).told (next_told log done s ∷ []) p.next

-- a power-on that finds what was kept: none;
abbrev pub FoundTellsNoMore : Type 0
FoundTellsNoMore = (o : Origin) (done : List TraceSecond) (p : Progress)
    → BookFollowsRun (rule_of o) (start_at o) o.from (first_of o) done p → (k : ℕ) →
    TellsMore (went p.log done).told (went (record p.log { breaks = found_from p.unfound k p.log.breaks }) done).told []
    p.next

-- quiet seconds, in which no card enters,
abbrev pub QuietSecondsTellMore : Type 0
QuietSecondsTellMore = (o : Origin) (done : List TraceSecond) (p : Progress)
    → BookFollowsRun (rule_of o) (start_at o) o.from (first_of o) done p → (t : ToldSecond) (span : List ToldSecond)
    → p.supply ≡ Lit (t ∷ span) → (n speed : ℕ) →
    (more : List ToldSecond) × TellsMore (went p.log done).told (went p.log (done ++ driven n p.next speed [])).told
    more p.next × AreIdle more

-- seconds without power up to a minute's end,
abbrev pub DarkSecondsTellMore : Type 0
DarkSecondsTellMore = (o : Origin) (done : List TraceSecond) (p : Progress)
    → BookFollowsRun (rule_of o) (start_at o) o.from (first_of o) done p → p.supply ≡ Lost
    → (n speed : ℕ) (actions : List Action) (refused : List Refused) →
    0 < p.next % 60 → p.next % 60 + n ≤ 60 →
    (more : List ToldSecond) × TellsMore (went p.log done).told
    (went (record p.log { refused = refused }) (done ++ driven n p.next speed actions)).told more p.next
    × AreIdle more

-- an `off` line,
abbrev pub AnOffLineTellsMore : Type 0
AnOffLineTellsMore = (o : Origin) (done : List TraceSecond) (p : Progress)
    → BookFollowsRun (rule_of o) (start_at o) o.from (first_of o) done p → (n : ℕ) →
    (more : List ToldSecond) × TellsMore (went p.log done).told (went p.log (done ++ dark n p.next)).told more p.next
    × AreIdle more

-- and one that cuts the power.
abbrev pub AnOffCutTellsMore : Type 0
AnOffCutTellsMore = (o : Origin) (done : List TraceSecond) (p : Progress)
    → BookFollowsRun (rule_of o) (start_at o) o.from (first_of o) done p → (t : ToldSecond) (span : List ToldSecond)
    → p.supply ≡ Lit (t ∷ span) → p.waiting ≡ [] → (n : ℕ) →
    (more : List ToldSecond) × TellsMore (went p.log done).told
    (went (and_break p.log (cut_at (p.next - 1) false p.begun)) (done ++ dark n p.next)).told more p.next
    × AreIdle more

-- ---- over seconds

-- WHAT WAS FOUND stays found, and further finds may be made as they were, where what was found kept after cuts was so;
abbrev pub FindsGoOn : (d e : Devices) → Type 0
FindsGoOn d e = (o : Origin) (done now : List TraceSecond) (log later : RunLog) (unfound found : ℕ)
    (marks acknowledged : List Mark) (more : List ToldSecond) (from : ℕ) → AreVerdicts o done log unfound marks d
    → HaveLeftMore o d e →
    ((mark : Mark) → Contains marks mark → Contains acknowledged mark)
    → TellsMore (went log done).told (went later now).told more from →
    ((t : ToldSecond) (x : Visit) (v : Verdict) → Contains more t → Contains t.course.found (x, v)
    → MayBeFound o now later acknowledged e t x v) →
    AreFound (e.unit.left_since o.found.unit.began) found later.breaks → AreVerdicts o now later found acknowledged e

-- and where no card enters nothing is found.
abbrev pub NothingIsFound : (d e : Devices) → Type 0
NothingIsFound d e = (o : Origin) (done now : List TraceSecond) (log later : RunLog) (unfound found : ℕ)
    (marks : List Mark) (more : List ToldSecond) (from : ℕ) → AreVerdicts o done log unfound marks d
    → HaveLeftMore o d e → TellsMore (went log done).told (went later now).told more from →
    AreIdle more → AreFound (e.unit.left_since o.found.unit.began) found later.breaks
    → AreVerdicts o now later found marks e

-- a card that is as it was stays so, or may be written by then
abbrev pub IsSparedOn : Origin → List TraceSecond → RunLog → (d e : Devices) → Type 0
IsSparedOn o now later d e = (c : Card) → IsUntouched (found_of o.found c) (card_of d c)
    → IsUntouched (found_of o.found c) (card_of e c) ⊎ MayBeWritten (recording_by o now later) c

-- WHICH CARDS MAY BE WRITTEN may be written still, and no other is written, behind seconds in which cards are found to
-- tell of a later time no more often than they enter,
abbrev pub CardsAreSpared : (d e : Devices) → Type 0
CardsAreSpared d e = (o : Origin) (done now : List TraceSecond) (log later : RunLog) (more : List ToldSecond) (from : ℕ)
    → AreSpared o done log d → TellsMore (went log done).told (went later now).told more from
    → AreFewer o.recording more →
    IsSparedOn o now later d e → AreSpared o now later e

-- and behind seconds in which no card enters.
abbrev pub IdleCardsAreSpared : (d e : Devices) → Type 0
IdleCardsAreSpared d e = (o : Origin) (done now : List TraceSecond) (log later : RunLog) (more : List ToldSecond)
    (from : ℕ) → AreSpared o done log d → TellsMore (went log done).told (went later now).told more from → AreIdle more
    →
    IsSparedOn o now later d e → AreSpared o now later e

-- a card that enters at a moment is found to tell of a later time no more often than it enters
abbrev pub FewerAreFound : Type 0
FewerAreFound = (r : Recording) (t : ToldSecond)
    → ((c : Card) → finds_by c t.course.found ≤ times_of c t.course.entered) → AreFewer r (t ∷ [])

-- no card was found to tell of a later time more often than it entered
abbrev pub AreFewFound : Recording → Type 0
AreFewFound r = (c : Card) → overlaps r c ≤ entered r c

-- AND SO IT IS behind further seconds of which that is so.
abbrev pub FewAreFoundOn : Type 0
FewAreFoundOn = (o : Origin) (done now : List TraceSecond) (log later : RunLog) (more : List ToldSecond) (from : ℕ)
    → AreFewFound (recording_by o done log) → TellsMore (went log done).told (went later now).told more from
    → AreFewer o.recording more →
    AreFewFound (recording_by o now later)
