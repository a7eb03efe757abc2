-- What is left behind a card that was put into a slot, or met power there, by value (profile).
use Rattle.std.specs.Prelude.{◌≡◌, ℕ, ◌+◌, ◌^◌, ◌<◌, ◌≤◌, Bool, true, false, ◌||◌, Option, Some, None, Result, Ok, Err}
use Rattle.std.specs.Prelude.{IfSome, List, [], ◌∷◌, length, nat_lt, if◌then◌else◌}
use Rattle.tach_media.specs.Medium.{State, LeavesOnly, HasBroken}
use Rattle.tacho_types.specs.CardNumber.{card_number_bytes}
use Rattle.tacho_types.specs.declared.texts.Registration.{Registration}
use Rattle.card_layout.specs.declared.files.Application.{Application}
use Rattle.card_layout.specs.Application.{application_in, first_bad_field}
use Rattle.card_layout.specs.declared.command.CardState.{CardState}
use Rattle.card_commands.specs.Ports.{IsPort}
use Rattle.card_validity.specs.card_image.Own.{own_sizes}
use Rattle.card_validity.specs.card_image.Fields.{session_time, end_mark}
use Rattle.card_validity.specs.card_image.Judging.{first_bad_file, IsValid}
use Rattle.card_validity.specs.card_image.View.{card_view}
use Rattle.card_validity.specs.declared.looking.CardLook.{CardLook}
use Rattle.card_validity.specs.Judged.{TellsSizes, IsLook}
use Rattle.card_session.specs.Sessions.{Session}
use Rattle.card_session.specs.Inserting.{AreOwed, replayed_count}
use Rattle.run_events.specs.gated_ring.Ring.{PointsInside, taken}
use Rattle.run_events.specs.message_model.Records.{insertion_ring}
use Rattle.log_model.specs.declared.lines.Break.{Break}
use Rattle.device_calls.specs.declared.entering.Entered.{Entered}
use Rattle.device_calls.specs.Entering.{owed_on}
use Rattle.run_outcome.specs.Lines.{Listed}
use Rattle.run_outcome.specs.declared.outcome.Outcome.{Outcome}
use Rattle.run_minutes.specs.declared.keeper.Keeper.{Keeper}
use Rattle.run_minutes.specs.Keeping.{with_lines}
use Rattle.run_insertion.specs.declared.lines.Entering.{Entering}
use Rattle.run_insertion.specs.Entering.{Ending, Unfit, Ahead, Fell, Unasked, Unnoted, Seated, Lost, Way, Unread}
use Rattle.run_insertion.specs.Entering.{Unsized, Judged, ending_of, measured, seated, fallen, fallen_breaks, falls_of}
use Rattle.run_insertion.specs.Entering.{count_of, cabin_by, outcome_by, noted_by, and_one}
use Rattle.run_insertion.specs.CardBrought.{BringsOnCard}
use Rattle.run_insertion.specs.Noted.{HasNoted, IsOnUnit, IsComing, IsOnCard, IsComingOnCard, AreOnCard}
use Rattle.run_insertion.specs.Noted.{AreComingOnCard, Shows, moving_event, moving_on_card, moved_notes, seat_notes}
use Rattle.run_insertion.specs.Noted.{notes_with, notes_by, card_notes_by, card_notes_behind, is_cut}

-- a card that told these sizes goes by them; of another the field is the first bad one
abbrev pub IsMeasured : Result Application ℕ → CardState → State → Type 0
IsMeasured (Ok app) chip card = IsPort app None chip card × IfSome card.image (TellsSizes app)
    × IfSome card.image (λ x. own_sizes x ≡ app)
IsMeasured (Err field) chip card = IfSome card.image (λ x. first_bad_field (application_in x) ≡ Some field)

-- ---- what is said of an accepted card, whatever the devices tell

-- what it told fills the fields of its insertion, and the numbers fit them
pub record FitsInsertion (look : CardLook) : Type 0 where
  pub surname : length look.surname.0 ≡ 36
  pub first : length look.first.0 ≡ 36
  pub number : length (card_number_bytes look.number) ≡ 18
  pub expiry : look.expiry.0 < 2 ^ 32
  pub previous : IfSome look.previous (λ v. (length v.registration.0 ≡ 15) × (v.last_use.0 < 2 ^ 32))

-- its session is a new one, of this vehicle and these sizes; and what was owed to it is of earlier minutes
pub record IsNew (app : Application) (registration : Registration) (second : ℕ) (entered : Entered) : Type 0 where
  pub sizes : entered.session.application ≡ app
  pub vehicle : entered.session.registration ≡ registration
  pub fresh : entered.session.odometer ≡ None
  pub fit : AreOwed second entered.owed.items
  pub few : entered.replayed ≤ length entered.owed.items
  -- the time of the last one, which it told, fits its field
  pub low : entered.look.session < 2 ^ 32
  pub sized : FitsInsertion entered.look

-- the marks have the clock behind its insertion: the event of a moving vehicle is noted on the card since, with four
-- writes at most
abbrev pub writes_behind : Entering → ℕ
writes_behind e = if nat_lt 0 e.speed then 4 else 0

-- the clock of the marks is one of the card in this call, and no more writes were begun on it since than those
pub record IsClock (e : Entering) (clock : ℕ) (card card_after : State) : Type 0 where
  pub low : card.clock ≤ clock
  pub high : clock ≤ card_after.clock
  pub near : card_after.clock ≤ clock + writes_behind e

-- the insertion takes the next place of its ring
abbrev pub IsPlace : (entry : ℕ) → (unit : Option (List ℕ)) → Type 0
IsPlace entry unit = (entry < insertion_ring.count)
    × IfSome unit (λ x. PointsInside insertion_ring x → entry ≡ taken insertion_ring x)

-- so it is with an ending: the unit failed, where that decides it; a card that was accepted is torn out where the
-- vehicle moves alone
abbrev pub IsEnding : Ending → Application → Registration → Entering → (failed : Bool) → (unit : Option (List ℕ))
    → (card card_after : State) → Type 0
IsEnding (Unfit fid place) app registration e failed unit card card_after = Unit {0}
IsEnding (Ahead stored) app registration e failed unit card card_after = stored < 2 ^ 32
IsEnding Fell app registration e failed unit card card_after = Unit {0}
IsEnding Unasked app registration e failed unit card card_after = failed ≡ true
IsEnding (Unnoted entered clock) app registration e failed unit card card_after =
    (failed ≡ true) × IsNew app registration e.at.second entered × IsClock e clock card card_after
IsEnding (Seated entered clock entry) app registration e failed unit card card_after =
    IsPlace entry unit × IsNew app registration e.at.second entered × IsClock e clock card card_after
IsEnding (Lost entered clock entry) app registration e failed unit card card_after =
    IsPlace entry unit × IsNew app registration e.at.second entered × IsClock e clock card card_after × (0 < e.speed)

-- ---- what the image of a card was

-- only a valid card of no later time gets a session: it has told so, the entries are those that the unit owes to it,
-- and so many it lacked
pub record AcceptanceIsTold (app : Application) (second : ℕ) (unit : Option (List ℕ)) (entered : Entered)
    (x : List ℕ) : Type 0 where
  pub looked : IsLook app x entered.look
  pub in_time : (card_view app x).stored ≤ second
  pub owes : IfSome unit (λ u. entered.owed.items ≡ owed_on app u x)
  pub lacked : entered.replayed ≡ replayed_count (session_time app x) (end_mark app x) entered.owed.items

-- what it was where it ended so
abbrev pub IsFound : Application → (second : ℕ) → (unit : Option (List ℕ)) → Ending → List ℕ → Type 0
IsFound app second unit (Unfit fid place) x = first_bad_file app x ≡ Some (fid, place)
IsFound app second unit (Ahead stored) x = IsValid app x × (stored ≡ (card_view app x).stored) × (second < stored)
IsFound app second unit Fell x = Unit {0}
IsFound app second unit Unasked x = Unit {0}
IsFound app second unit (Unnoted entered clock) x = AcceptanceIsTold app second unit entered x
IsFound app second unit (Seated entered clock entry) x = AcceptanceIsTold app second unit entered x
IsFound app second unit (Lost entered clock entry) x = AcceptanceIsTold app second unit entered x

-- ---- parts of it

-- keeper, number of insertions and outcome behind an ending
pub record IsLeft (ending : Ending) (e : Entering) (k v : Keeper) (noted noted_after : ℕ) (o p : Outcome) : Type 0 where
  pub keeper : v ≡ record k { cabin = cabin_by ending e noted k.cabin }
  pub count : noted_after ≡ noted_by ending noted
  pub outcome : p ≡ outcome_by ending e o

-- a card is accepted by the insertion with this index; where there is none the unit failed as it noted it, and nothing
-- else has changed
abbrev pub IsSeatedBy : CardLook → Session → (row : ℕ) → Entering → (failed : Bool) → (k v : Keeper)
    → (noted noted_after : ℕ) → (unit : Option (List ℕ)) → Option ℕ → Type 0
IsSeatedBy look session row e failed k v noted noted_after unit None = (failed ≡ true) × (v ≡ k) × (noted_after ≡ noted)
IsSeatedBy look session row e failed k v noted noted_after unit (Some entry) =
    IsPlace entry unit × (v ≡ record k { cabin = seated look session row entry noted e k.cabin })
    × (noted_after ≡ and_one noted)

-- it is seated so, and that is noted
pub record IsSeated (look : CardLook) (session : Session) (row : ℕ) (e : Entering) (failed : Bool) (k v : Keeper)
    (noted noted_after : ℕ) (unit unit_after : State)
    (entry : Option ℕ) : Type 0 where
  pub by : IsSeatedBy look session row e failed k v noted noted_after unit.image entry
  pub notes : HasNoted IsOnUnit IsComing (seat_notes look e k.cabin entry) failed unit unit_after

-- That the vehicle moves was noted: on the unit, and on the card, which was torn out, or was not.
pub record IsMoved (app : Application) (e : Entering) (failed : Bool) (k v : Keeper)
    (breaks breaks_after : Listed Break)
    (unit unit_after card card_after : State) (fell : Bool) : Type 0 where
  pub keeper : v ≡ fallen fell e k
  pub told : breaks_after ≡ with_lines (fallen_breaks fell e) breaks
  pub notes : HasNoted IsOnUnit IsComing (moved_notes fell e k.cabin) failed unit unit_after
  pub on_card : (u : List ℕ) → let vehicle = k.memory.registration in
      HasNoted (IsOnCard app vehicle e u) (IsComingOnCard app vehicle e u) (Shows (moving_event vehicle e) ∷ [])
      (failed || fell) card card_after
  pub broken : HasBroken card card_after (count_of fell)
  pub later : card.clock ≤ card_after.clock
  pub near : card_after.clock ≤ card.clock + 4

-- What comes with an accepted card was noted: on the unit, and on the card, which was torn out, or was not.
pub record IsNotedOn (app : Application) (session : ℕ) (e : Entering) (failed : Bool) (k v : Keeper)
    (breaks breaks_after : Listed Break)
    (unit unit_after card card_after : State) (fell : Bool) : Type 0 where
  pub keeper : v ≡ fallen fell e k
  pub told : breaks_after ≡ with_lines (fallen_breaks fell e) breaks
  pub notes : HasNoted IsOnUnit IsComing (notes_with fell session e k.cabin) failed unit unit_after
  pub on_card : (u : List ℕ) → let vehicle = k.memory.registration in
      HasNoted (IsOnCard app vehicle e u) (IsComingOnCard app vehicle e u) (moving_on_card vehicle e) (failed || fell)
      card card_after
  pub broken : HasBroken card card_after (count_of fell)
  pub later : card.clock ≤ card_after.clock
  pub near : card_after.clock ≤ card.clock + writes_behind e
  pub moves : fell ≡ true → 0 < e.speed

-- A card that is found to be accepted ended so.
pub record IsTaken (app : Application) (e : Entering) (failed : Bool) (k v : Keeper) (noted noted_after : ℕ)
    (o p : Outcome)
    (unit unit_after card card_after : State) (ending : Ending) : Type 0 where
  pub left : IsLeft ending e k v noted noted_after o p
  pub notes : HasNoted IsOnUnit IsComing (notes_by ending e noted k.cabin) failed unit unit_after
  pub on_card : (u : List ℕ) → let vehicle = k.memory.registration in
      HasNoted (IsOnCard app vehicle e u) (IsComingOnCard app vehicle e u) (card_notes_behind ending vehicle e)
      (is_cut ending failed) card card_after
  pub broken : HasBroken card card_after (falls_of ending)
  pub later : card.clock ≤ card_after.clock
  pub near : card_after.clock ≤ card.clock + writes_behind e
  pub moves : falls_of ending ≡ 1 → 0 < e.speed

-- with this entry, or none
abbrev pub IsEntry : Option ℕ → (failed : Bool) → (unit : Option (List ℕ)) → Type 0
IsEntry None failed unit = failed ≡ true
IsEntry (Some entry) failed unit = IsPlace entry unit

-- A CARD THAT GOES BY ITS SIZES was judged, and ended so.
pub record IsJudgedSo (app : Application) (e : Entering) (failed : Bool) (k v : Keeper) (noted noted_after : ℕ)
    (o p : Outcome)
    (unit unit_after card card_after : State) (ending : Ending) : Type 0 where
  pub is : IsEnding ending app k.memory.registration e failed unit.image card card_after
  pub left : IsLeft ending e k v noted noted_after o p
  pub found : IfSome card.image (IsFound app e.at.second unit.image ending)
  pub notes : HasNoted IsOnUnit IsComing (notes_by ending e noted k.cabin) failed unit unit_after
  pub on_card : IfSome unit.image (λ u. let vehicle = k.memory.registration in
      HasNoted (IsOnCard app vehicle e u) (IsComingOnCard app vehicle e u) (card_notes_by ending vehicle e)
      (is_cut ending failed) card card_after)
  pub broken : HasBroken card card_after (falls_of ending)

-- ---- a card that enters

-- so it is with a way
abbrev pub IsWay : Way → Registration → Entering → (failed : Bool) → (unit : Option (List ℕ))
    → (card card_after : State) → Type 0
IsWay Unread registration e failed unit card card_after = Unit {0}
IsWay (Unsized field) registration e failed unit card card_after = Unit {0}
IsWay (Judged app ending) registration e failed unit card card_after = IsEnding ending app registration e failed unit
    card card_after

-- what its image was then: it goes by these sizes
abbrev pub IsFoundIn : (second : ℕ) → (unit : Option (List ℕ)) → Way → List ℕ → Type 0
IsFoundIn second unit Unread x = Unit {0}
IsFoundIn second unit (Unsized field) x = first_bad_field (application_in x) ≡ Some field
IsFoundIn second unit (Judged app ending) x = (own_sizes x ≡ app) × IsFound app second unit ending x

-- A CARD ENTERED in this way: what is left behind it, and what was noted on the unit and on the card. Of a card that
-- tells its image it was so of one that a stop might leave.
pub record HasEntered (e : Entering) (failed : Bool) (k v : Keeper) (noted noted_after : ℕ) (o p : Outcome)
    (unit unit_after card card_after : State) (way : Way) : Type 0 where
  pub is : IsWay way k.memory.registration e failed unit.image card card_after
  pub left : IsLeft (ending_of way) e (measured way e k) v noted noted_after o p
  pub notes : HasNoted IsOnUnit IsComing (notes_by (ending_of way) e noted (measured way e k).cabin) failed unit
      unit_after
  pub found : IfSome card.image (λ x. (y : List ℕ) × card.may_leave y × IsFoundIn e.at.second unit.image way y
      × (is_cut (ending_of way) failed ≡ false
      → IfSome unit.image (λ u. IfSome card_after.image (AreOnCard way k.memory.registration e u y))))
  pub moments : IfSome unit.image (λ u. LeavesOnly card card_after
      (λ x c. (y : List ℕ) × card.may_leave y × AreComingOnCard way k.memory.registration e u y c))
  pub broken : HasBroken card card_after (falls_of (ending_of way))
  -- and which events the card shows
  pub shows : IfSome unit.image (λ u. BringsOnCard way k.memory.registration e failed card card_after)
