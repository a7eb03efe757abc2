-- The crash-safety theorem (profile): what a run promises of its unit, of each card, and of both together.
use Rattle.std.specs.Prelude.{◌≡◌, ◌≢◌, ◌⊎◌, ℕ, suc, ◌*◌, ◌/◌, ◌<◌, ◌≤◌, ◌&&◌, Option, Some, None, List, [], ◌∷◌}
use Rattle.std.specs.Prelude.{Contains, length, filter, flat_map, nat_eq, nat_le, if◌then◌else◌}
use Rattle.device_rule.specs.trace_model.declared.Card.{Card}
use Rattle.device_rule.specs.trace_model.declared.Card.TheVariants.{A, B}
use Rattle.device_rule.specs.trace_model.Trace.{TraceSecond}
use Rattle.device_rule.specs.run_model.declared.Device.{Device}
use Rattle.device_rule.specs.run_model.declared.Device.TheVariants.{Unit as Recorder, CardA, CardB}
use Rattle.tach_media.specs.Medium.{State}
use Rattle.device_rule.specs.unit_model.Image.{recorded, last_kept}
use Rattle.device_rule.specs.unit_model.Decoding.{Decodes}
use Rattle.device_rule.specs.log_model.declared.lines.Break.{Break}
use Rattle.device_rule.specs.log_model.declared.lines.Break.TheVariants.{Cut, Tear}
use Rattle.device_rule.specs.log_model.declared.lines.Mark.{Mark}
use Rattle.device_rule.specs.log_model.declared.lines.Verdict.{Verdict}
use Rattle.device_rule.specs.log_model.declared.lines.Verdict.TheVariants.{Accepted, NotValid, TimeOverlap}
use Rattle.device_rule.specs.log_model.Slots.{same_card}
use Rattle.device_rule.specs.log_model.Causes.{second_of, HasCauses}
use Rattle.device_rule.specs.history_model.Completeness.{IsComplete}
use Rattle.device_rule.specs.Own.{own_view, own_number, own_bad_file, IsOwnValid}
use Rattle.device_rule.specs.Views.{owed}
use Rattle.safety_model.specs.Recording.{Recording, card_image, told_of, start_of, history_of, lost_of, unit_seen}
use Rattle.safety_model.specs.Unit.{UnitSafe, issued_bytes}
use Rattle.safety_model.specs.Cards.{acceptances, CardSafe, Agree}
use Rattle.safety_model.specs.ByHand.{HandsSafe, StopsHands}
use Rattle.safety_model.specs.Stops.{TellsEachStop}

-- the three devices of a run at one moment
pub record Devices : Type 1 where
  pub unit : State
  pub card_a : State
  pub card_b : State

-- one of the two cards
abbrev pub card_of : Devices → Card → State
card_of d A = d.card_a
card_of d B = d.card_b

-- the breakdowns of a device so far
abbrev pub breakdowns_of : Devices → Device → ℕ
breakdowns_of d Recorder = d.unit.breakdowns
breakdowns_of d CardA = d.card_a.breakdowns
breakdowns_of d CardB = d.card_b.breakdowns

-- what was found kept after a cut is the last-kept minute of an image of the unit
abbrev pub WasFound : (unit : List ℕ → Type 0) → Break → Type 0
WasFound unit (Cut second kept failed begun) = (x : List ℕ) × unit x × (last_kept x ≡ kept)
WasFound unit (Tear second slot failed begun late) = Unit {0}

-- nothing was found after a break: where it is a cut, it tells 0
abbrev pub IsUnfound : Break → Type 0
IsUnfound (Cut second kept failed begun) = kept ≡ 0
IsUnfound (Tear second slot failed begun late) = Unit {0}

-- the first of a list
abbrev pub first_of : {X : Type 0} → List X → Option X
first_of [] = None
first_of (x ∷ xs) = Some x

module _ (r : Recording) where
  -- how often a card entered a slot, or met power there, in the minute of a second, up to that second
  abbrev pub entered_by : Card → ℕ → ℕ
  entered_by c u = length (flat_map
      (λ t. if nat_le t.second.number u && nat_eq (t.second.number / 60) (u / 60)
      then filter (λ e. same_card c e.card) t.course.entered else [])
      (told_of r))

  -- The later time that a valid card is found to store: that at the start; or, where that is not later than this second
  -- and the card entered in its minute before, the minute behind, where its closing word stands then, by an image that
  -- it might have left.
  abbrev pub IsLater : (card : List ℕ → Type 0) → Card → (second stored : ℕ) → Type 0
  IsLater card c u stored = (u < stored)
      × ((stored ≡ (own_view (card_image r c)).stored)
      ⊎ (((own_view (card_image r c)).stored ≤ u) × (1 < entered_by c u) × (stored ≡ 60 * suc (u / 60))
      × ((x : List ℕ) × card x × ((own_view x).stored ≡ stored))))

  -- What may be found of a card in a second. By its image at the start it is not valid, and that is the first file that
  -- fails. Or it stores a later time than the second. Or else it is accepted: neither at the start nor by an image that
  -- it might have left it stores a later one, and so many entries are brought as that image lacks and some image of the
  -- unit owes to it.
  abbrev pub IsVerdict : (unit card : List ℕ → Type 0) → Card → ℕ → Verdict → Type 0
  IsVerdict unit card c u (Accepted replayed) =
      IsOwnValid (card_image r c) × ((own_view (card_image r c)).stored ≤ u)
      × ((i x : List ℕ) × unit i × card x × ((own_view x).stored ≤ u)
      × (length (owed c (unit_seen r i) (own_view x)) ≡ replayed))
  IsVerdict unit card c u (NotValid fid place) = own_bad_file (card_image r c) ≡ Some (fid, place)
  IsVerdict unit card c u (TimeOverlap stored now) = IsOwnValid (card_image r c) × (now ≡ u) × IsLater card c u stored

  -- THE CRASH-SAFETY THEOREM: `began` are the devices at the end of the opening, `now` those at the end of the run
  pub record IsSafe (marks : List Mark) (began now : Devices) : Type 0 where
    pub unit : UnitSafe (recorded r.unit) (history_of r) (lost_of r) marks began.unit.clock now.unit
    -- what the unit was issued with stays, in every image that a stop might have left since
    pub issued : (x : List ℕ) → now.unit.left_since began.unit.clock x → issued_bytes x ≡ issued_bytes r.unit
    pub card : (c : Card) → CardSafe r c marks (card_of began c).clock (card_of now c)
    pub both : (c : Card) (u x : List ℕ) → IsOwnValid (card_image r c) → now.unit.may_leave u →
        (card_of now c).may_leave x → Agree r c u x
    pub hands : (c : Card) → HandsSafe r c marks (card_of began c).clock (card_of now c)

  -- CAUSES: each line of the log has its cause, and what happened has its line
  pub record IsCaused (marks : List Mark) (began now : Devices) : Type 0 where
    pub causes : HasCauses
        (λ c u v. IsVerdict (now.unit.left_since began.unit.clock) ((card_of now c).left_since (card_of began c).clock)
        c u v)
        (breakdowns_of began) (breakdowns_of now) r.trace r.log
    -- it was found what was kept after a cut, but where no card was accepted behind it
    pub kept : (b : Break) → Contains r.log.breaks b → WasFound (now.unit.left_since began.unit.clock) b
        ⊎ (IsUnfound b × ((c : Card) (u : ℕ) → IsOwnValid (card_image r c) → Contains (acceptances r c) u
        → u ≤ second_of b))
    pub complete : IsComplete r.rule (start_of r) r.log (told_of r) marks
    -- and so has each refusal of an entry by hand by a session
    pub stops : (c : Card) → IsOwnValid (card_image r c) → StopsHands r c marks
    pub each_stop : TellsEachStop r

  -- a run begins where the unit's image decodes, the trace's first second lies in a later minute than the last-kept
  -- one, and the cards that are valid have two numbers
  pub record MayBegin : Type 0 where
    pub decodes : Decodes r.unit
    pub clock : (s : TraceSecond) → first_of r.trace ≡ Some s → last_kept r.unit < s.number / 60
    pub numbers : IsOwnValid r.card_a → IsOwnValid r.card_b → own_number r.card_a ≢ own_number r.card_b
