-- WHICH SESSION a run finds open on a card that is accepted (profile): one that an image of it told; where the card
-- comes for the first time, that of its image at the start.
use Rattle.std.specs.Prelude.{◌≡◌, ◌⊎◌, ◌<◌, ℕ, Bool, true, false, List, Contains, filter, length}
use Rattle.std.specs.List.{list_any}
use Rattle.run_devices.specs.trace_model.declared.Card.{Card}
use Rattle.run_devices.specs.trace_model.declared.Action.{Action}
use Rattle.run_devices.specs.trace_model.declared.Action.TheVariants.{Insert}
use Rattle.run_devices.specs.trace_model.Trace.{TraceSecond}
use Rattle.run_devices.specs.card_image.Fields.{session_time}
use Rattle.run_devices.specs.card_image.Own.{own_sizes}
use Rattle.run_devices.specs.log_model.declared.lines.Verdict.{Verdict}
use Rattle.run_devices.specs.log_model.Log.{is_accepting}
use Rattle.run_devices.specs.log_model.Slots.{same_card}
use Rattle.run_devices.specs.log_model.Course.{ToldSecond, Visit}
use Rattle.run_devices.specs.safety_model.Recording.{card_image}
use Rattle.run_devices.specs.safety_model.Safe.{Devices, card_of}
use Rattle.run_devices.specs.run_promise.Found.{found_of}
use Rattle.run_devices.specs.run_promise.Origin.{Origin}

-- the session time that an image of a card tells, 0 where none is open
abbrev pub session_in : List ℕ → ℕ
session_in y = session_time (own_sizes y) y

-- the images that a stop might have left of a card since the start
abbrev pub images_in : Origin → Devices → Card → List ℕ → Type 0
images_in o d c = (card_of d c).left_since (found_of o.found c).began

-- a card entered a slot in a second
abbrev pub came_in : Card → ToldSecond → Bool
came_in c t = list_any (λ v. same_card c v.card) t.course.entered

-- an action puts this card into a slot
abbrev pub puts_in : Card → Action → Bool
puts_in c (Insert slot card) = same_card c card
puts_in c _ = false

-- how often the actions of a second put this card into a slot
abbrev pub times_put : Card → TraceSecond → ℕ
times_put c s = length (filter (puts_in c) s.actions)

-- A CARD HAS COME BEFORE: it entered a slot in an earlier second than this; or this one puts it in more than once.
abbrev pub HasComeBefore : List ToldSecond → List TraceSecond → Card → (second : ℕ) → Type 0
HasComeBefore told trace c u =
    ((t : ToldSecond) × Contains told t × (t.second.number < u) × (came_in c t ≡ true))
    ⊎ ((s : TraceSecond) × Contains trace s × (s.number ≡ u) × (1 < times_put c s))

-- A SESSION TIME that was found on a card in a second is that of its image at the start, or it has come before.
abbrev pub IsFirst : (start : Card → List ℕ) → List ToldSecond → List TraceSecond → Card → (second : ℕ) → (session : ℕ)
    → Type 0
IsFirst start told trace c u session = (session_in (start c) ≡ session) ⊎ HasComeBefore told trace c u

-- so is each that was found as a card was accepted in these seconds
abbrev pub AreFirst : (start : Card → List ℕ) → List ToldSecond → List TraceSecond → (ℕ → Visit → ℕ) → Type 0
AreFirst start told trace sessions =
    (t : ToldSecond) (f : Visit × Verdict) → Contains told t → Contains t.course.found f → is_accepting f.1 ≡ true →
    IsFirst start told trace f.0.card t.second.number (sessions t.second.number f.0)

-- IT WAS FOUND SO: an image of the card told it
abbrev pub IsOpenSo : Origin → List ToldSecond → List TraceSecond → Devices → Card → (second : ℕ) → (session : ℕ)
    → Type 0
IsOpenSo o told trace d c u session = (x : List ℕ) × images_in o d c x × (session_in x ≡ session)
    × IsFirst (card_image o.recording) told trace c u session

-- so it was at each acceptance of these seconds
abbrev pub AreOpenSo : Origin → List ToldSecond → List TraceSecond → Devices → (ℕ → Visit → ℕ) → Type 0
AreOpenSo o told trace d sessions =
    (t : ToldSecond) (f : Visit × Verdict) → Contains told t → Contains t.course.found f → is_accepting f.1 ≡ true →
    IsOpenSo o told trace d f.0.card t.second.number (sessions t.second.number f.0)
