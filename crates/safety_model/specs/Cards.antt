-- What a run promises of its cards, and of a unit and a card together (profile).
use Rattle.std.specs.Prelude.{◌≡◌, ◌⊎◌, ℕ, ◌+◌, ◌-◌, ◌/◌, ◌<◌, ◌≤◌, Bool, true, false, ◌&&◌, List, [], ◌++◌, All}
use Rattle.std.specs.Prelude.{Contains, length, filter, map, flat_map, nat_lt, nat_le, not}
use Rattle.std.specs.List.{list_any}
use Rattle.device_rule.specs.activity_codec.declared.entries.Entry.{Entry}
use Rattle.device_rule.specs.activity_codec.declared.values.Slot.{Slot}
use Rattle.device_rule.specs.activity_codec.declared.values.Slot.TheVariants.{Driver, CoDriver}
use Rattle.device_rule.specs.trace_model.declared.Card.{Card}
use Rattle.tach_media.specs.Medium.{State}
use Rattle.device_rule.specs.card_model.declared.lengths.TheConstants.{DAYS_MOST}
use Rattle.device_rule.specs.view_model.declared.State.{State as SlotState}
use Rattle.device_rule.specs.unit_model.Days.{ShownDay, UnitMinute}
use Rattle.device_rule.specs.unit_model.Image.{recorded, unit_minutes, last_kept}
use Rattle.device_rule.specs.log_model.declared.lines.Break.{Break}
use Rattle.device_rule.specs.log_model.declared.lines.Break.TheVariants.{Cut, Tear}
use Rattle.device_rule.specs.log_model.declared.lines.Mark.{Mark}
use Rattle.device_rule.specs.log_model.declared.lines.Verdict.{Verdict}
use Rattle.device_rule.specs.log_model.declared.lines.Verdict.TheVariants.{Accepted, NotValid, TimeOverlap}
use Rattle.device_rule.specs.log_model.Log.{is_accepting}
use Rattle.device_rule.specs.log_model.Slots.{same_card}
use Rattle.device_rule.specs.log_model.Causes.{device_of}
use Rattle.device_rule.specs.history_model.Minutes.{card_history, up_to}
use Rattle.tach_media.specs.card_layout.declared.files.Application.{Application}
use Rattle.card_string.specs.Deeds.{IsMadeSince}
use Rattle.device_rule.specs.Own.{own_view, own_sizes, own_number, IsOwnValid, KeepsOf}
use Rattle.device_rule.specs.Views.{owed}
use Rattle.safety_model.specs.Recording.{Recording, card_image, told_of, brought, history_of, expected_of, unit_seen}
use Rattle.safety_model.specs.Unit.{marks_of, Increase}
use Rattle.safety_model.specs.Hands.{hands_done}

-- a cut before a second, after which the unit was found not to have kept this minute
abbrev pub shows_lost : (second minute : ℕ) → Break → Bool
shows_lost u minute (Cut second kept failed begun) = nat_lt second u && nat_lt kept minute
    && nat_le minute (second / 60)
shows_lost u minute (Tear second slot failed begun late) = false

-- as many writes as an insertion begins at most on a card; a keep begins fewer
abbrev pub mark_writes : ℕ
mark_writes = DAYS_MOST + 84

-- A mark is told at once: so many writes before its clock a stop might have left an image whose end mark had not come
-- to its minute yet.
abbrev pub IsPromptOn : State → Mark → Type 0
IsPromptOn card m = (x : List ℕ) × card.left_since (m.clock - mark_writes) x × ((own_view x).mark < m.minute)

-- WHAT STOOD AT A MARK STANDS, whatever follows: each image that the card might have left since is made of one that it
-- might have left then, by keeps of later minutes, entries by hand, closings and cuts.
abbrev pub HasStood : Application → State → Mark → Type 0
HasStood app card m = (z : List ℕ) × card.left_since m.clock z
    × ((x : List ℕ) → card.left_since m.clock x → IsMadeSince app m.minute z x)

module _ (r : Recording) (c : Card) where
  -- An image shows the card's entries at the start and some of the others that are expected, from their front, but for
  -- the days that overwriting took.
  pub record CardShows (x : List ℕ) : Type 0 where
    pub more : List Entry
    pub rest : List Entry
    pub whole : expected_of r c ≡ (brought r c).entries ++ (more ++ rest)
    pub kept : KeepsOf (card_image r c) (hands_done r c) ((brought r c).entries ++ more) (own_view x).held

  -- it was found to tell of a later time
  abbrev pub is_overlap : Verdict → Bool
  is_overlap (Accepted replayed) = false
  is_overlap (NotValid fid place) = false
  is_overlap (TimeOverlap stored now) = true

  -- how often it entered a slot, or met power there
  abbrev pub entered : ℕ
  entered = length (flat_map (λ t. filter (λ e. same_card c e.card) t.course.entered) (told_of r))

  -- how often it was found to tell of a later time
  abbrev pub overlaps : ℕ
  overlaps = length (flat_map (λ t. filter (λ f. same_card c f.0.card && is_overlap f.1) t.course.found) (told_of r))

  -- a run may not write it: it was not valid, or each time that it entered it was found to tell of a later time
  abbrev pub MayNotWrite : Type 0
  MayNotWrite = (IsOwnValid (card_image r c) → ⊥) ⊎ (entered ≡ overlaps)

  -- an acknowledged minute is that of an entry that the card is to have beside those at the start, told at once; what
  -- stood then stands, and every image since shows that very one, unless overwriting took its day
  pub record CardMarkHolds (card : State) (m : Mark) : Type 0 where
    pub e : Entry
    pub minute : e.minute ≡ m.minute
    pub stands : Contains ((brought r c).owed ++ card_history c (history_of r)) e
    pub clock : m.clock ≤ card.clock
    pub prompt : IsPromptOn card m
    pub stood : HasStood (own_sizes (card_image r c)) card m
    pub shown : (x : List ℕ) → card.left_since m.clock x
        → (s : CardShows x) × Contains ((brought r c).entries ++ s.more) e

  -- the seconds in which it was accepted
  abbrev pub acceptances : List ℕ
  acceptances = flat_map
      (λ t. map (λ f. t.second.number) (filter (λ f. same_card c f.0.card && is_accepting f.1) t.course.found))
      (told_of r)

  -- the unit had kept a minute before a second: it is earlier, and no cut before that second shows that it was not
  abbrev pub was_kept : ℕ → ℕ → Bool
  was_kept u minute = nat_lt minute (u / 60) && not (list_any (shows_lost u minute) r.log.breaks)

  -- after each acceptance every image at the end shows the expected entries up to the minute that the unit had kept
  -- last at that time, and all that was owed at the start; with them it shows all that was acknowledged
  pub record IsRepaired (marks : List Mark) (x : List ℕ) : Type 0 where
    pub shows : CardShows x
    pub brought : (u : ℕ) → Contains acceptances u → All (λ e. was_kept u e.minute ≡ false) shows.rest
    pub owes_none : (u : ℕ) → Contains acceptances u → All (λ e. last_kept r.unit < e.minute) shows.rest
    pub acknowledged : (m : Mark) → Contains (marks_of (device_of c) marks) m
        → All (λ e. m.minute < e.minute) shows.rest

  -- A CARD: what every image that a stop might have left since a clock shows, where it was valid: it is valid, and has
  -- its number still; one that may not be written is as it was; the acknowledged minutes increase, and hold, and one
  -- that was not valid has none; and at the end it is repaired
  pub record CardSafe (marks : List Mark) (since : ℕ) (card : State) : Type 0 where
    pub entries : IsOwnValid (card_image r c) → (x : List ℕ) → card.left_since since x → CardShows x
    pub valid : IsOwnValid (card_image r c) → (x : List ℕ) → card.left_since since x → IsOwnValid x
    pub number : IsOwnValid (card_image r c) → (x : List ℕ) → card.left_since since x
        → own_number x ≡ own_number (card_image r c)
    pub untouched : MayNotWrite → (x : List ℕ) → card.left_since since x → x ≡ card_image r c
    pub in_order : Increase (marks_of (device_of c) marks)
    pub marked : (m : Mark) → Contains (marks_of (device_of c) marks) m → CardMarkHolds card m
    pub unmarked : (IsOwnValid (card_image r c) → ⊥) → marks_of (device_of c) marks ≡ []
    pub repaired : IsOwnValid (card_image r c) → (x : List ℕ) → card.may_leave x → IsRepaired marks x

  -- a slot in a minute of the unit
  abbrev pub slot_state : Slot → UnitMinute → SlotState
  slot_state Driver m = m.driver
  slot_state CoDriver m = m.codriver

  -- an entry stands in the unit's minutes as present
  abbrev pub StandsInUnit : List UnitMinute → Entry → Type 0
  StandsInUnit known e =
      (m : UnitMinute) × Contains known m × (m.minute ≡ e.minute)
      × (slot_state e.slot m ≡ record { act = e.act; present = true })

  -- one of these days
  abbrev pub HasDay : List ShownDay → ℕ → Type 0
  HasDay days day = (d : ShownDay) × Contains days d × (d.day ≡ day)

  -- the expected entries that are not later than a minute, where they are of the run
  abbrev pub expected_to : ℕ → List Entry
  expected_to k = (brought r c).entries ++ ((brought r c).owed ++ card_history c (up_to k (history_of r)))

  -- A UNIT AND A CARD: a card never runs ahead of the unit, and what it lacks is owed to it
  pub record Agree (u x : List ℕ) : Type 0 where
    pub behind : (e : Entry) → Contains (card_history c (history_of r)) e → Contains (own_view x).held.entries e →
        HasDay (recorded u) (e.minute / 1440) → StandsInUnit (unit_minutes u) e
    pub rest : KeepsOf (card_image r c) (hands_done r c)
        (expected_to (last_kept u))
        (record (own_view x).held { entries = (own_view x).held.entries ++ owed c (unit_seen r u) (own_view x) })
