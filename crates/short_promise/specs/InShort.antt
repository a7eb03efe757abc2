-- THE CRASH-SAFETY THEOREM IN SHORT (profile): what a run leaves of the unit and of the cards.
use Rattle.std.specs.Prelude.{◌≡◌, ◌⊎◌, ℕ, ◌+◌, ◌-◌, ◌*◌, ◌/◌, ◌<◌, ◌≤◌, true, List, ◌++◌, All, Contains, find, length}
use Rattle.std.specs.Prelude.{nat_eq, option_map, unwrap_or, filter}
use Rattle.safety_model.specs.device_rule.activity_codec.declared.entries.Entry.{Entry}
use Rattle.safety_model.specs.device_rule.trace_model.declared.Card.{Card}
use Rattle.safety_model.specs.device_rule.run_model.declared.Device.TheVariants.{Unit as Recorder}
use Rattle.tach_media.specs.Medium.{State, last_count}
use Rattle.safety_model.specs.device_rule.unit_model.declared.layout.TheConstants.{DAY_SLOTS}
use Rattle.safety_model.specs.device_rule.unit_model.Days.{UnitMinute, unknown_minute}
use Rattle.safety_model.specs.device_rule.unit_model.Image.{recorded, unit_minutes, last_kept}
use Rattle.safety_model.specs.device_rule.unit_model.Decoding.{Decodes}
use Rattle.safety_model.specs.device_rule.log_model.declared.lines.Mark.{Mark}
use Rattle.safety_model.specs.device_rule.log_model.Causes.{device_of, cuts, cards_torn}
use Rattle.safety_model.specs.device_rule.log_model.Log.{RunLog}
use Rattle.safety_model.specs.device_rule.log_model.Slots.{same_card}
use Rattle.safety_model.specs.device_rule.log_model.Course.{ToldSecond}
use Rattle.safety_model.specs.device_rule.log_model.Spans.{spans_of}
use Rattle.safety_model.specs.device_rule.minute_model.declared.Rule.{Rule}
use Rattle.safety_model.specs.device_rule.minute_model.declared.Minute.{Minute}
use Rattle.safety_model.specs.device_rule.history_model.Minutes.{HistoryMinute, card_history, on_card}
use Rattle.safety_model.specs.device_rule.history_model.Book.{IsMark}
use Rattle.safety_model.specs.device_rule.history_model.History.{decided_of, settlings_of}
use Rattle.safety_model.specs.device_rule.history_model.Completeness.{IsMarked, FailedCutIn, BrokenIn, deciding_of}
use Rattle.safety_model.specs.device_rule.Filling.{seen_by_unit}
use Rattle.safety_model.specs.device_rule.Own.{own_view, own_number, IsOwnValid, KeepsOf}
use Rattle.safety_model.specs.device_rule.Views.{owed}
use Rattle.safety_model.specs.card_retention.Retains.{entries_from}
use Rattle.safety_model.specs.Recording.{Recording, card_image, told_of, unit_seen, brought, history_of}
use Rattle.safety_model.specs.Recording.{lost_of, expected_of}
use Rattle.safety_model.specs.Unit.{marks_of, IsPrompt}
use Rattle.safety_model.specs.Hands.{hands_done}
use Rattle.safety_model.specs.Cards.{IsPromptOn, slot_state, expected_to}
use Rattle.safety_model.specs.Safe.{Devices, card_of}

-- ---- what an image of the unit says

-- WHAT AN IMAGE SAYS OF A MINUTE: what its days tell of it; where none of them has it, that nothing is known, and so
-- behind its last-kept minute
abbrev pub said : (x : List ℕ) → (minute : ℕ) → UnitMinute
said x m = unwrap_or (find (λ k. nat_eq k.minute m) (unit_minutes x)) (unknown_minute m)

-- WHAT IS DUE of a minute: what the history says of it, else what the image at the start said
abbrev pub due : (start : List ℕ) → List HistoryMinute → (minute : ℕ) → UnitMinute
due start past m = unwrap_or (option_map seen_by_unit (find (λ i. nat_eq i.minute m) past)) (said start m)

-- a minute's day was OVERWRITTEN: each day that is there is later, and there are at least 365 of them
pub record IsOverwritten (x : List ℕ) (minute : ℕ) : Type 0 where
  pub later : All (λ d. minute / 1440 < d.day) (recorded x)
  pub many : DAY_SLOTS - 1 ≤ length (recorded x)

-- 1. UNIT. An image decodes. Its last-kept minute is the one of the start or one of the history. Of each minute up to
-- that it says what is due, unless the day was overwritten. The history is the run's; or as much of it as a cut left,
-- with the minute that was being written as power went.
pub record HasAll (start : List ℕ) (past : List HistoryMinute) (lost : List (List HistoryMinute)) (x : List ℕ) : Type
    0 where
  pub history : List HistoryMinute
  pub is : (history ≡ past) ⊎ Contains lost history
  pub decodes : Decodes x
  pub last : IsMark (last_kept start) history (last_kept x)
  pub says : (m : ℕ) → m ≤ last_kept x → (said x m ≡ due start history m) ⊎ IsOverwritten x m

-- 2. ACKNOWLEDGED. A minute that the unit has acknowledged is one of the history, and was told in the run, at once.
-- Each image since goes as far and says that minute, unless the day was overwritten.
pub record Stands (past : List HistoryMinute) (since : ℕ) (unit : State) (m : Mark) : Type 0 where
  pub i : HistoryMinute
  pub of : Contains past i
  pub minute : i.minute ≡ m.minute
  pub began : since ≤ m.clock
  pub clock : m.clock ≤ unit.clock
  pub prompt : IsPrompt unit m
  pub far : (x : List ℕ) → unit.left_since m.clock x → m.minute ≤ last_kept x
  pub says : (x : List ℕ) → unit.left_since m.clock x → (said x m.minute ≡ seen_by_unit i) ⊎ IsOverwritten x m.minute

-- ---- a card

module _ (r : Recording) (c : Card) where
  -- An image of a card SHOWS THE FIRST OF WHAT IT IS TO HAVE: the entries of the start, and behind them the first of
  -- those that were owed to it and of those of the run, in their order; but for days at the old end, which go only
  -- where the string is full (`KeepsOf`).
  pub record ShowsFirst (x : List ℕ) : Type 0 where
    pub more : List Entry
    pub rest : List Entry
    pub whole : expected_of r c ≡ (brought r c).entries ++ (more ++ rest)
    pub oldest : ℕ
    pub says : (own_view x).held.entries ≡ entries_from oldest ((brought r c).entries ++ more)
    pub full : KeepsOf (card_image r c) (hands_done r c) ((brought r c).entries ++ more) (own_view x).held

  -- an entry that an image was to have is of a day that was given up
  pub record IsGivenUp (x : List ℕ) (e : Entry) : Type 0 where
    pub first : ShowsFirst x
    pub among : Contains ((brought r c).entries ++ first.more) e
    pub older : e.minute / 1440 < first.oldest

  -- A minute that the card has acknowledged is that of an entry which was owed to it or is of the run, and was told in
  -- the run, at once. Each image since has that entry, unless its day was given up.
  pub record StandsOn (since : ℕ) (card : State) (m : Mark) : Type 0 where
    pub e : Entry
    pub of : Contains ((brought r c).owed ++ card_history c (history_of r)) e
    pub minute : e.minute ≡ m.minute
    pub began : since ≤ m.clock
    pub clock : m.clock ≤ card.clock
    pub prompt : IsPromptOn card m
    pub says : (x : List ℕ) → card.left_since m.clock x → Contains (own_view x).held.entries e ⊎ IsGivenUp x e

  -- 3. CARD. Where it was valid each image is valid, has its number, and shows the first of what it is to have. What it
  -- has acknowledged stands; and it has acknowledged each entry that the run says on it, but where a call on the unit
  -- failed in the second that decided the minute, or the card was torn or pulled out between the minute's end and that
  -- second. The log tells of just as many tears by failed calls as it broke down. A card that was not valid is as it
  -- was.
  pub record CardKeeps (marks : List Mark) (began now : Devices) : Type 0 where
    pub valid : IsOwnValid (card_image r c) → (x : List ℕ) → (card_of now c).left_since (card_of began c).clock x
        → IsOwnValid x × (own_number x ≡ own_number (card_image r c))
    pub first : IsOwnValid (card_image r c) → (x : List ℕ) → (card_of now c).left_since (card_of began c).clock x
        → ShowsFirst x
    pub acknowledged : (m : Mark) → Contains (marks_of (device_of c) marks) m
        → StandsOn (card_of began c).clock (card_of now c) m
    pub complete : (span : List ToldSecond) (d : Minute) (i : HistoryMinute) (e : Entry)
        → Contains (spans_of (told_of r)) span → Contains (decided_of r.rule span) d
        → Contains (history_of r) i → i.minute ≡ d.minute → Contains (on_card c i) e
        → IsMarked marks (device_of c) i.minute
        ⊎ BrokenIn r.log (told_of r) c (60 * (i.minute + 1)) (deciding_of r.rule (settlings_of span) i.minute)
    pub counted : now.card_a.breakdowns < last_count → now.card_b.breakdowns < last_count
        → (card_of now c).breakdowns
        ≡ (card_of began c).breakdowns + length (filter (same_card c) (cards_torn (told_of r)))
    pub spared : (IsOwnValid (card_image r c) → ⊥) → (x : List ℕ)
        → (card_of now c).left_since (card_of began c).clock x → x ≡ card_image r c

  -- the unit says the same as an entry: in its slot the activity, with a card present, and CREW as the entry has it
  abbrev pub Tells : UnitMinute → Entry → Type 0
  Tells k e = (slot_state r c e.slot k ≡ record { act = e.act; present = true }) × (k.crew ≡ e.crew)

  -- 4. TOGETHER. What an image of the card has of the run the unit's says too, unless the day was overwritten. And what
  -- it lacks, up to the unit's last-kept minute, the unit owes to it, but for days that were given up.
  pub record AreTogether (u x : List ℕ) : Type 0 where
    pub far : (e : Entry) → Contains (card_history c (history_of r)) e → Contains (own_view x).held.entries e
        → e.minute ≤ last_kept u
    pub says : (e : Entry) → Contains (card_history c (history_of r)) e → Contains (own_view x).held.entries e
        → Tells (said u e.minute) e ⊎ IsOverwritten u e.minute
    pub owes : KeepsOf (card_image r c) (hands_done r c) (expected_to r c (last_kept u))
        (record (own_view x).held { entries = (own_view x).held.entries ++ owed c (unit_seen r u) (own_view x) })

-- 5. COMPLETE. The unit has acknowledged each decided minute, but where a call on it failed in the second that decided
-- the minute. And the log tells of just as many cuts by failed calls as the unit broke down.
pub record MissesNone (rule : Rule) (log : RunLog) (told : List ToldSecond) (marks : List Mark)
    (began now : State) : Type 0 where
  pub acknowledged : (span : List ToldSecond) (d : Minute) → Contains (spans_of told) span
      → Contains (decided_of rule span) d
      → IsMarked marks Recorder d.minute ⊎ FailedCutIn log (deciding_of rule (settlings_of span) d.minute)
  pub counted : now.breakdowns < last_count → now.breakdowns ≡ began.breakdowns + length (cuts true log)

-- ---- THE THEOREM IN SHORT: `began` are the devices as the run began, `now` as it has ended

pub record KeepsInShort (r : Recording) (marks : List Mark) (began now : Devices) : Type 0 where
  pub unit : (x : List ℕ) → now.unit.left_since began.unit.clock x → HasAll r.unit (history_of r) (lost_of r) x
  pub acknowledged : (m : Mark) → Contains (marks_of Recorder marks) m
      → Stands (history_of r) began.unit.clock now.unit m
  pub card : (c : Card) → CardKeeps r c marks began now
  pub together : (c : Card) (u x : List ℕ) → IsOwnValid (card_image r c) → now.unit.may_leave u
      → (card_of now c).may_leave x → AreTogether r c u x
  pub complete : MissesNone r.rule r.log (told_of r) marks began.unit now.unit

-- and the same of a unit alone, where the trace has no card's line
pub record KeepsAlone (start : List ℕ) (past : List HistoryMinute) (lost : List (List HistoryMinute))
    (rule : Rule) (log : RunLog) (told : List ToldSecond) (marks : List Mark) (began now : State) : Type 0 where
  pub unit : (x : List ℕ) → now.left_since began.clock x → HasAll start past lost x
  pub acknowledged : (m : Mark) → Contains (marks_of Recorder marks) m → Stands past began.clock now m
  pub complete : MissesNone rule log told marks began now
