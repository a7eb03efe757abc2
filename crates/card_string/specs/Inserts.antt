-- What an image shows at a moment of an insertion of its card, and at its end (profile).
use Rattle.std.specs.Prelude.{◌≡◌, ◌⊎◌, ℕ, ◌/◌, ◌≤◌, false, List, [], ◌∷◌, ◌++◌}
use Rattle.card_by_hand.specs.activity_codec.declared.entries.Entry.{Entry}
use Rattle.tach_media.specs.card_layout.declared.files.Application.{Application}
use Rattle.card_by_hand.specs.card_model.Days.{Day}
use Rattle.card_by_hand.specs.card_model.Changes.{trimmed}
use Rattle.card_by_hand.specs.card_retention.Expected.{Counted}
use Rattle.card_by_hand.specs.card_retention.Shown.{Bound, AllBefore, is_open}
use Rattle.card_by_hand.specs.card_retention.Retains.{entries_in, begun_on}
use Rattle.card_by_hand.specs.card_image.Fields.{card_days, end_mark, session_time}
use Rattle.card_by_hand.specs.card_image.View.{card_view}
use Rattle.card_by_hand.specs.card_session.Repairs.{first_minute, mark_behind, newest_behind, and_entries, with_entries}
use Rattle.card_by_hand.specs.card_session.Repairs.{BeginsLater}
use Rattle.card_string.specs.Carried.{StringFollowsEntries, BrokeOf, BegunOf}

-- the first of some entries lies on the day of an end mark
abbrev pub IsOnDay : (mark : ℕ) → List Entry → Type 0
IsOnDay mark [] = ⊥
IsOnDay mark (e ∷ es) = e.minute / 1440 ≡ mark / 1440

-- Days were broken off at an end mark, and the first of these entries may come: its day, where it is new, is later than
-- the mark's, or no day so far is as late, or that day was begun for it.
abbrev pub MayReplayOf : (size : ℕ) → (slack : Bound) → (covered from mark : ℕ) → Counted → (all es : List Entry)
    → List Day → Type 0
MayReplayOf size slack covered from mark c all es days =
    (BrokeOf size slack covered from mark c all days
    × (BeginsLater mark es (trimmed mark days)
    ⊎ (AllBefore (mark / 1440) c.days × (entries_in (begun_on (mark / 1440) ∷ []) all ≡ []))))
    ⊎ (BegunOf size slack covered from mark c all days × IsOnDay mark es)

-- A session was left open, and the entries that its card lacks may come so.
abbrev pub MayReplay : Application → (slack : Bound) → (covered from : ℕ) → Counted → (all es : List Entry) → List ℕ
    → Type 0
MayReplay app slack covered from c all es x = MayReplayOf app.activity slack covered from (end_mark app x) c all es
    (card_days app x)

-- Days with an end mark: of the entries that were lacked behind another the first are there, and the mark is that of
-- the last of these. What a repair leaves keeps the rule with them, or the day of the next is begun.
pub record ReplaysOf (size : ℕ) (slack : Bound) (covered next mark : ℕ) (c : Counted) (all es : List Entry) (now : ℕ)
    (days : List Day) : Type 0 where
  pub done : List Entry
  pub rest : List Entry
  pub split : es ≡ done ++ rest
  pub behind : now ≡ mark_behind mark done
  pub left : BrokeOf size (and_entries slack done) covered (first_minute next rest) now (with_entries covered c done)
      (all ++ done) days
      ⊎ (BegunOf size (and_entries slack done) covered (first_minute next rest) now (with_entries covered c done)
      (all ++ done) days × IsOnDay now rest)

-- in the same session
pub record IsReplayShown (app : Application) (slack : Bound) (covered next : ℕ) (c : Counted) (all es : List Entry)
    (x y : List ℕ) : Type 0 where
  pub session : session_time app y ≡ session_time app x
  pub first : ReplaysOf app.activity slack covered next (end_mark app x) c all es (end_mark app y) (card_days app y)

-- ALL OF THEM ARE THERE: the days go on with them, the end mark is the newest minute behind the last of them, with its
-- closing word, and no word stands behind it.
pub record IsAllShown (app : Application) (slack : Bound) (covered next : ℕ) (c : Counted) (all es : List Entry)
    (x y : List ℕ) : Type 0 where
  pub goes : StringFollowsEntries app (and_entries slack es) covered next (with_entries covered c es) (all ++ es) y
  pub mark : end_mark app y ≡ newest_behind (card_view app x).newest es
  pub word : (card_view app y).word ≤ end_mark app y
  pub shut : is_open (end_mark app y) (card_days app y) ≡ false

-- one or the other, at each moment
abbrev pub IsInsertionShown : Application → (slack : Bound) → (covered next : ℕ) → Counted → (all es : List Entry)
    → (x y : List ℕ) → Type 0
IsInsertionShown app slack covered next c all es x y =
    IsReplayShown app slack covered next c all es x y ⊎ IsAllShown app slack covered next c all es x y

-- Of a card without a session, whose words are closed: the days and the end mark stay, and the days go on.
pub record IsStillShown (app : Application) (slack : Bound) (covered from : ℕ) (c : Counted) (all : List Entry)
    (x y : List ℕ) : Type 0 where
  pub days : card_days app y ≡ card_days app x
  pub mark : end_mark app y ≡ end_mark app x
  pub goes : StringFollowsEntries app slack covered from c all y
