-- What a card that a session knows must be for a keep, and how it stands after it (profile).
use Rattle.std.specs.Prelude.{◌≡◌, ◌⊎◌, ℕ, ◌+◌, ◌*◌, ◌/◌, ◌<◌, ◌≤◌, Bool, false, true, List, [], length}
use Rattle.activity_codec.specs.declared.entries.Entry.{Entry}
use Rattle.activity_codec.specs.declared.entries.Manual.{Manual}
use Rattle.trace_model.specs.declared.Card.{Card}
use Rattle.tach_media.specs.Medium.{State}
use Rattle.card_layout.specs.Application.{IsApplication}
use Rattle.unit_rule.specs.card_retention.Expected.{Counted}
use Rattle.unit_rule.specs.card_retention.Shown.{Bound}
use Rattle.card_validity.specs.card_image.Fields.{end_mark}
use Rattle.card_validity.specs.card_image.Own.{own_sizes, own_covered, most_slack}
use Rattle.hand_model.specs.Holding.{Holding, of_day}
use Rattle.card_by_hand.specs.First.{IsShutAt, ComeFrom}
use Rattle.card_session.specs.Sessions.{Session, IsSession}
use Rattle.card_session.specs.Overwriting.{BeginsBehind}
use Rattle.hand_model.specs.Written.{Hands}
use Rattle.unit_rule.specs.card_string.Carried.{StringFollowsEntries, IsFresh}
use Rattle.unit_rule.specs.card_string.Since.{SitsSince}
use Rattle.unit_rule.specs.history_model.Book.{Book}
use Rattle.unit_rule.specs.device_rule.Rules.{In, Torn}
use Rattle.device_calls.specs.Rule.{Both, CardHolds}

-- The card goes by the session's sizes, and by what it keeps; and its string is carried so.
pub record SessionKnowsCard (s : Session) (slack : Bound) (covered from : ℕ) (c : Counted) (all : List Entry)
    (x : List ℕ) : Type 0 where
  pub application : own_sizes x ≡ s.application
  pub sizes : IsApplication s.application
  pub session : IsSession s x
  pub bytes : most_slack ≤ slack.bytes
  pub goes : StringFollowsEntries s.application slack covered from c all x

-- And the entry that comes, with these entries by hand before it, may come then; its day, if it is new, is later than
-- the end mark's, or none so far is as late. The entries by hand are at most eight, and no entry is open at the end
-- mark where there is one.
pub record CardMayTake (s : Session) (slack : Bound) (covered from : ℕ) (c : Counted) (all : List Entry)
    (hands : List Manual) (e : Entry)
    (x : List ℕ) : Type 0 where
  pub carried : SessionKnowsCard s slack covered from c all x
  pub clear : BeginsBehind s.application e x ⊎ IsFresh s.application c all x
  pub before : ComeFrom (end_mark s.application x) covered from hands e
  pub few : length hands ≤ 8
  pub shut : 0 < length hands → IsShutAt s.application x

-- In its slot since the start of a run: it goes by the session's sizes, the session knows it, its string goes on, this
-- entry and these entries by hand before it may come, and no entry is open at its end mark where there is one by hand.
pub record IsSittingSince (s : Session) (image : List ℕ) (h : Hands) (has : List Entry) (next : ℕ) (hands : List Manual)
    (e : Entry) (x : List ℕ) : Type 0 where
  pub application : own_sizes x ≡ s.application
  pub knows : IsSession s x
  pub sits : SitsSince s.application image h has next x
  pub before : ComeFrom (end_mark s.application x) (own_covered image) next hands e
  pub shut : 0 < length hands → IsShutAt s.application x

-- the entries by hand that a session's keep of a minute writes
abbrev pub hands_for : Holding → (minute : ℕ) → List Manual
hands_for held minute = of_day (minute / 1440) held.entries

-- A KEEP BEGINS so many writes on its card at most: 17, and 4 for each entry by hand before it
abbrev pub keep_writes : List Manual → ℕ
keep_writes hands = 17 + 4 * length hands

-- After a minute's entry was kept on the card nothing is owed to it; where that failed it is torn out, and what it has
-- or has not of the minute is owed to it.
pub record IsOnItsCard (r : Both) (which : Card) (b : Book) (session : ℕ) (e : Entry) (failed : Bool)
    (unit card : State) : Type 0 where
  pub kept : failed ≡ false → CardHolds r which b (In session e.minute) [] [] unit card
  pub torn : failed ≡ true → CardHolds r which b (Torn session e.minute e.minute) [] [] unit card

-- a call says nothing of the images that it leaves
abbrev pub Anything : List ℕ → List ℕ → Type 0
Anything x y = Unit {0}
