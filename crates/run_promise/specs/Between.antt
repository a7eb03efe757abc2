-- Between two steps of a run, over devices that tell their images: the unit, the cards and what they have acknowledged,
-- as the book says (profile).
use Rattle.std.specs.Prelude.{◌≡◌, ℕ, ◌/◌, ◌<◌, ◌≤◌, true, false, Option, None, List, ◌++◌, All, Contains, is_some}
use Rattle.run_course.specs.trace_model.declared.Card.{Card}
use Rattle.tach_media.specs.Medium.{State}
use Rattle.run_course.specs.log_model.declared.lines.Mark.{Mark}
use Rattle.unit_rule.specs.unit_model.Image.{last_kept}
use Rattle.unit_rule.specs.card_model.Days.{AreDays}
use Rattle.unit_rule.specs.device_rule.Fields.{card_days}
use Rattle.unit_rule.specs.device_rule.Own.{own_number, own_sizes, IsOwnValid}
use Rattle.run_course.specs.history_model.Minutes.{HistoryMinute, card_history}
use Rattle.run_course.specs.history_model.Book.{Book, Follows}
use Rattle.unit_rule.specs.device_rule.Rules.{Standing}
use Rattle.unit_rule.specs.Recording.{Recording, card_image, brought, history_of, lost_of}
use Rattle.unit_rule.specs.Cards.{acceptances, was_kept, MayNotWrite}
use Rattle.unit_rule.specs.Safe.{Devices, card_of}
use Rattle.unit_rule.specs.Rule.{started, once_mended}
use Rattle.unit_rule.specs.Marks.{UnitFollowsBook}
use Rattle.unit_rule.specs.OtherRows.{valid_number}
use Rattle.run_promise.specs.Found.{Found, found_of, registration_of}
use Rattle.run_course.specs.activity_codec.declared.entries.Manual.{Manual}
use Rattle.unit_rule.specs.hand_model.Written.{Hands, IsPartOf}
use Rattle.unit_rule.specs.safety_model.Hands.{Session, of_session, done, hands_done}
use Rattle.unit_rule.specs.safety_model.ByHand.{IsFirstMark}
use Rattle.run_promise.specs.Cards.{FirstKeep, HandMarksHold, CardStands, CardWaits, CardMarksHold, IsUntouched}

-- what is carried from step to step: from where on a minute may come, the book, the marks, how each card stands, and
-- the minutes that the unit had kept last, each time that it was accepted
pub record RunLedger : Type 0 where
  pub due : ℕ
  pub book : Book
  pub marks : List Mark
  pub standing : Card → Standing
  pub brought : Card → List ℕ
  pub hands : Card → Hands
  pub firsts : Card → List FirstKeep

-- WHILE THE UNIT HAS POWER: it was mended, no minute is begun that may not be there, and each card that was valid
-- stands
pub record LedgerStandsPowered (f : Found) (w : RunLedger) (d : Devices) : Type 0 where
  pub tells : is_some d.unit.image ≡ true
  pub works : d.unit.works ≡ true
  pub unit : UnitFollowsBook (once_mended f.unit) w.due w.book w.marks d.unit
  pub none : w.book.maybe ≡ None
  pub cards : (c : Card) → IsOwnValid (found_of f c).image
      → CardStands f (w.hands c) c w.book (w.standing c) (w.brought c) d.unit (card_of d c)
  pub marks : (c : Card) → CardMarksHold (found_of f c) c w.book w.marks (card_of d c)
  pub hands : (c : Card) → IsOwnValid (found_of f c).image
      → HandMarksHold (found_of f c) (w.hands c) (w.firsts c) (card_of d c)

-- WITH POWER OR WITHOUT: a minute may be begun
pub record LedgerStands (f : Found) (w : RunLedger) (d : Devices) : Type 0 where
  pub tells : is_some d.unit.image ≡ true
  pub unit : UnitFollowsBook f.unit w.due w.book w.marks d.unit
  pub cards : (c : Card) → IsOwnValid (found_of f c).image
      → CardWaits f (w.hands c) c w.book (w.standing c) (w.brought c) d.unit (card_of d c)
  pub marks : (c : Card) → CardMarksHold (found_of f c) c w.book w.marks (card_of d c)
  pub hands : (c : Card) → IsOwnValid (found_of f c).image
      → HandMarksHold (found_of f c) (w.hands c) (w.firsts c) (card_of d c)

-- what the opening found is the run's
pub record IsFound (r : Recording) (f : Found) (began : Devices) : Type 0 where
  pub unit : f.unit ≡ started r.unit (valid_number r.card_a) (valid_number r.card_b) began.unit.clock
  pub image : (c : Card) → (found_of f c).image ≡ card_image r c
  pub start : (c : Card) → (found_of f c).start ≡ brought r c
  pub clock : (c : Card) → (found_of f c).began ≡ (card_of began c).clock
  pub number : (c : Card) → IsOwnValid (card_image r c) → (found_of f c).number ≡ own_number (card_image r c)
  pub vehicle : (c : Card) → (found_of f c).vehicle ≡ registration_of r.unit
  -- the days of a card that is valid are days
  pub days : (c : Card) → IsOwnValid (card_image r c)
      → AreDays 0 (card_days (own_sizes (card_image r c)) (card_image r c))

-- THE HISTORY as the book follows it: what it has beyond the book is later than the last-kept minute of each image of
-- the unit
pub record IsFollowed (r : Recording) (b : Book) (unit : State) : Type 0 where
  pub follows : Follows (history_of r) (lost_of r) b
  pub later : (u : List ℕ) → unit.may_leave u → All (λ i. last_kept u < i.minute) follows.front.0

-- Each acceptance of a card has its last-kept minute among these: it is no earlier than the start's; of the entries
-- that the book is sure of, those that the unit had kept by then are not later; and it had kept no others.
abbrev pub AreBrought : Recording → Card → Book → List ℕ → Type 0
AreBrought r c b ks = (u : ℕ) → Contains (acceptances r c) u →
    ((k : ℕ) × Contains ks k × All (λ e. was_kept r c u e.minute ≡ true → e.minute ≤ k)
    ((brought r c).owed ++ card_history c b.sure) × (last_kept r.unit ≤ k))
    × ((rest : List HistoryMinute) → history_of r ≡ b.sure ++ rest
    → All (λ e. was_kept r c u e.minute ≡ false) (card_history c rest))

-- THE ENTRIES BY HAND as the run's record has them: those that were given to keeps are among those that were done, in
-- their order; and each first mark of a session is that of a first keep, which wrote the entries by hand of that
-- session and of its day
pub record HandsFollowed (r : Recording) (c : Card) (h : Hands) (keeps : List FirstKeep) (marks : List Mark) : Type
    0 where
  pub given : IsPartOf h.given (hands_done r c)
  pub firsts : (s : Session) (next : Option Session) (m : Mark) → IsFirstMark r c marks s next m
      → (k : FirstKeep) × Contains keeps k × (k.mark ≡ m)
      × ((e : Manual) → Contains (of_session (done r c) s next) e → e.minute / 1440 ≡ m.minute / 1440
      → Contains k.hands e)

-- a card that the run may not write is as it was
abbrev pub AreUntouched : Recording → Found → Devices → Type 0
AreUntouched r f d = (c : Card) → MayNotWrite r c → IsUntouched (found_of f c) (card_of d c)

-- three devices
abbrev pub devices : (unit card_a card_b : State) → Devices
devices unit card_a card_b = record { unit = unit; card_a = card_a; card_b = card_b }
