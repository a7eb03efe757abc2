-- WHICH USE IS FOUND on a card as it is accepted (profile): at first that of its image at the start, then that which
-- the insertion before has left. The unit tells by it the session that was left open, and the card's own events do.
use Rattle.std.specs.Prelude.{◌≡◌, ◌⊎◌, ℕ, ◌<◌, ◌&&◌, true, Option, Some, None, List, [], ◌∷◌, ◌++◌, map, filter}
use Rattle.std.specs.Prelude.{flat_map, if◌then◌else◌}
use Rattle.run_events.specs.activity_codec.declared.values.Slot.{Slot}
use Rattle.run_devices.specs.trace_model.declared.Card.{Card}
use Rattle.run_devices.specs.trace_model.Trace.{TraceSecond}
use Rattle.run_devices.specs.tacho_types.declared.texts.Registration.{Registration}
use Rattle.tach_media.specs.Medium.{bytes_at, last_count}
use Rattle.run_events.specs.card_files.declared.current_use.CurrentUse.{CurrentUse}
use Rattle.run_devices.specs.card_image.Fields.{current_use}
use Rattle.run_devices.specs.card_image.Own.{own_sizes, IsOwnValid}
use Rattle.run_devices.specs.log_model.declared.lines.Verdict.{Verdict}
use Rattle.run_devices.specs.log_model.Log.{RunLog, is_accepting}
use Rattle.run_devices.specs.log_model.Slots.{same_card}
use Rattle.run_devices.specs.log_model.Causes.{cuts, tears, cards_torn, device_of}
use Rattle.run_devices.specs.log_model.Course.{ToldSecond, Visit, second_told, went}
use Rattle.run_devices.specs.note_model.Done.{done_by, done_of}
use Rattle.run_devices.specs.note_model.Noted.{InsertionNote, Note, noted_in, notes_of, insertions_of}
use Rattle.run_devices.specs.unit_model.declared.layout.TheConstants.{REGISTRATION}
use Rattle.run_devices.specs.safety_model.Recording.{Recording, card_image, told_of}
use Rattle.run_devices.specs.safety_model.Safe.{Devices, breakdowns_of}
use Rattle.run_events.specs.Seconds.{seen_next}
use Rattle.run_devices.specs.run_promise.Origin.{Origin}
use Rattle.run_devices.specs.run_promise.Whole.{IsUntorn}

-- ---- the uses that insertions leave

-- the session time that an insertion leaves: its second; 0 where the card was withdrawn
abbrev pub left_open : (second : ℕ) → (withdrawn : Option ℕ) → ℕ
left_open u None = u
left_open u (Some w) = 0

module _ (own : Registration) where
  -- the use that an insertion leaves, in its vehicle
  abbrev pub left_by : InsertionNote → CurrentUse
  left_by i = record { session = record { 0 = left_open i.accepted.second i.withdrawn }; registration = own }

  -- the use that these insertions leave one after another, where the first of them found this one
  abbrev pub use_behind : CurrentUse → List InsertionNote → CurrentUse
  use_behind held [] = held
  use_behind held (i ∷ is) = use_behind (left_by i) is

  -- the uses that these insertions found, one each
  abbrev pub uses_from : CurrentUse → List InsertionNote → List CurrentUse
  uses_from held [] = []
  uses_from held (i ∷ is) = held ∷ uses_from (left_by i) is

-- the vehicle of a unit, by its image
abbrev pub vehicle_of : List ℕ → Registration
vehicle_of x = record { 0 = bytes_at x REGISTRATION.place REGISTRATION.size }

-- the current use of a card, by its image
abbrev pub use_in : List ℕ → CurrentUse
use_in x = current_use (own_sizes x) x

-- of these notes the insertions of a card
abbrev pub insertions_on : Card → List Note → List InsertionNote
insertions_on c notes = filter (λ (i : InsertionNote). same_card c i.accepted.card) (insertions_of notes)

-- an insertion that goes on: it is not withdrawn
abbrev pub inserted : (second : ℕ) → Slot → Card → InsertionNote
inserted u slot card = record { accepted = record { second = u; slot = slot; card = card }; withdrawn = None }

-- the insertions of a card of which this was found in a second, in this order: one for each acceptance
abbrev pub insertions_at : (second : ℕ) → Slot → Card → List Verdict → List InsertionNote
insertions_at u slot card verdicts = map (λ (v : Verdict). inserted u slot card) (filter is_accepting verdicts)

-- ALL USES THAT WERE FOUND on a card in a run, one for each of its insertions,
abbrev pub uses_on : Recording → Card → List CurrentUse
uses_on r c = uses_from (vehicle_of r.unit) (use_in (card_image r c))
    (insertions_on c (notes_of r.log (done_of r.log r.trace)))

-- and the use that the last of them has left
abbrev pub use_left : Recording → Card → CurrentUse
use_left r c = use_behind (vehicle_of r.unit) (use_in (card_image r c))
    (insertions_on c (notes_of r.log (done_of r.log r.trace)))

-- ---- the sessions that a unit has told

-- the session times of uses
abbrev pub times_of : List CurrentUse → List ℕ
times_of uses = map (λ (held : CurrentUse). held.session.0) uses

-- the session times that were found on a card in a second, one for each acceptance
abbrev pub opened_in : Card → (ℕ → Visit → ℕ) → ToldSecond → List ℕ
opened_in c sessions t = flat_map (λ (f : Visit × Verdict). if same_card c f.0.card && is_accepting f.1 then sessions
    t.second.number f.0 ∷ [] else []) t.course.found

-- and in several seconds
abbrev pub opened_on : Card → (ℕ → Visit → ℕ) → List ToldSecond → List ℕ
opened_on c sessions told = flat_map (opened_in c sessions) told

-- NO CALL HAS FAILED ON A CARD, nor on the unit, by the log: none has cut the power, and none has torn the card out;
-- and where one has torn out the other, the card's count of breakdowns was below its last value as the run began.
pub record NothingFailedOn (r : Recording) (c : Card) (began : Devices) : Type 0 where
  pub uncut : cuts true r.log ≡ []
  pub untorn : IsUntorn r c
  pub low : (tears true r.log ≡ []) ⊎ (breakdowns_of began (device_of c) < last_count)

-- OF EACH CARD ON WHICH NO CALL FAILED the session times that a run told are those of its uses, whatever the other did.
abbrev pub TellExactly : Recording → (began : Devices) → (ℕ → Visit → ℕ) → Type 0
TellExactly r began sessions = (c : Card) → NothingFailedOn r c began → IsOwnValid (card_image r c)
    → opened_on c sessions (told_of r) ≡ times_of (uses_on r c)

-- ---- as a run carries them

-- what a run has noted behind these seconds
abbrev pub notes_in : RunLog → List TraceSecond → List Note
notes_in log ss = notes_of log (done_of log ss)

-- what one second more notes
abbrev pub noted_next : RunLog → List TraceSecond → TraceSecond → List Note
noted_next log ss s = noted_in log (done_by log (went log ss).before s)

-- within a second, by its log so far: where the log was `began` as it began
abbrev pub notes_now : (began : RunLog) → List TraceSecond → (log : RunLog) → TraceSecond → List Note
notes_now began done log s = notes_in began done ++ noted_in log (done_by log (went began done).before s)

-- the vehicle of the run
abbrev pub vehicle_in : Origin → Registration
vehicle_in o = vehicle_of o.recording.unit

-- the uses that these notes found on a card, one for each of its insertions
abbrev pub uses_in : Origin → Card → List Note → List CurrentUse
uses_in o c notes = uses_from (vehicle_in o) (use_in (card_image o.recording c)) (insertions_on c notes)

-- the use that these notes left on a card
abbrev pub use_now : Origin → Card → List Note → CurrentUse
use_now o c notes = use_behind (vehicle_in o) (use_in (card_image o.recording c)) (insertions_on c notes)

-- what a log tells of a second so far, behind those before it
abbrev pub told_so_far : (began : RunLog) → List TraceSecond → (log : RunLog) → TraceSecond → List ToldSecond
told_so_far began done log s = (went began done).told ++ second_told log (went began done).before s ∷ []

-- NONE HAS FAILED ON A CARD, nor on the unit, by a log that tells so of some seconds: none has at all; or of the cards
-- that were torn out none is this one, and its count of breakdowns was below its last value as the run began.
abbrev pub NoneFailedOn : Origin → RunLog → (told : List ToldSecond) → Card → Type 0
NoneFailedOn o log told c = (cuts true log ≡ []) × ((tears true log ≡ [])
    ⊎ ((filter (same_card c) (cards_torn told) ≡ []) × (o.breakdowns (device_of c) < last_count)))

-- THE SESSION TIMES so far are exact behind these seconds;
abbrev pub AreExact : Origin → RunLog → List TraceSecond → (ℕ → Visit → ℕ) → Type 0
AreExact o log done sessions = (c : Card) → NoneFailedOn o log (went log done).told c
    → IsOwnValid (card_image o.recording c)
    → opened_on c sessions (went log done).told ≡ times_of (uses_in o c (notes_in log done))

-- and within a second, with those that were found in it so far.
abbrev pub AreExactIn : Origin → RunLog → List TraceSecond → TraceSecond → (own : ℕ → Visit → ℕ) → Type 0
AreExactIn o log done s own = (c : Card) → NoneFailedOn o log (told_so_far log done log s) c
    → IsOwnValid (card_image o.recording c) →
    times_of (uses_in o c (notes_in log done))
    ++ opened_in c own (seen_next log done s).told ≡ times_of (uses_in o c (notes_now log done log s))

-- A card is judged in a second, of which a log has told so far, and another then: this use was found at each acceptance
-- more.
abbrev pub FindsMore : Origin → (began : RunLog) → List TraceSecond → TraceSecond → (log later : RunLog) → Card
    → (accepted : List ℕ) → Type 0
FindsMore o began done s log later card more = (c : Card) → NoneFailedOn o log (told_so_far began done log s) c
    → IsOwnValid (card_image o.recording c) →
    times_of (uses_in o c (notes_now began done later s)) ≡ times_of (uses_in o c (notes_now began done log s))
    ++ (if same_card c card then more else [])
