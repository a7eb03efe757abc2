-- What an image shows at a moment of a keep on its card (profile).
use Rattle.std.specs.Prelude.{◌≡◌, ◌⊎◌, ℕ, suc, ◌/◌, ◌<◌, ◌≤◌, max, Some, List, [], ◌∷◌, ◌++◌, length}
use Rattle.card_by_hand.specs.activity_codec.declared.entries.Entry.{Entry}
use Rattle.card_by_hand.specs.activity_codec.declared.entries.Manual.{Manual}
use Rattle.tach_media.specs.card_layout.declared.files.Application.{Application}
use Rattle.card_by_hand.specs.card_retention.Expected.{Counted, with_entry}
use Rattle.card_by_hand.specs.card_retention.Entries.{closed_at}
use Rattle.card_by_hand.specs.card_retention.Shown.{Bound}
use Rattle.tach_media.specs.card_layout.Application.{IsApplication}
use Rattle.card_by_hand.specs.card_image.Fields.{end_mark, session_time}
use Rattle.card_by_hand.specs.card_image.Own.{most_slack}
use Rattle.card_by_hand.specs.card_image.View.{card_view}
use Rattle.card_by_hand.specs.card_session.Overwriting.{BeginsBehind, and_entry}
use Rattle.card_by_hand.specs.card_session.Sessions.{Session, IsSession}
use Rattle.card_by_hand.specs.First.{AreHandsOf, IsShutAt, ComeFrom}
use Rattle.card_by_hand.specs.Wider.{with_hands}
use Rattle.card_string.specs.Carried.{StringFollowsEntries, Broke, Begun, IsFresh}

module _ (app : Application) (slack : Bound) (covered : ℕ) (c : Counted) (all : List Entry) (e : Entry)
    (x y : List ℕ) where
  -- The end mark is the old one: what a repair leaves keeps the rule, where the entry comes next, or its day is begun,
  -- which is the end mark's; and the newest minute is the old one, but where words stand behind it.
  pub record IsStopped : Type 0 where
    pub mark : end_mark app y ≡ end_mark app x
    pub left : Broke app slack covered e.minute c all y
        ⊎ (Begun app slack covered e.minute c all y × (e.minute / 1440 ≡ end_mark app y / 1440))
    pub newest : max (card_view app x).word (card_view app y).newest
        ≡ max (card_view app x).word (card_view app x).newest

  -- The end mark is the entry's minute: the session goes on with it, the newest minute is that of the closing word
  -- behind it, and the day of each later entry, where it is new, is later than the end mark's.
  pub record IsDone : Type 0 where
    pub mark : end_mark app y ≡ e.minute
    pub goes : StringFollowsEntries app (and_entry slack e) covered (suc e.minute) (with_entry covered c e)
        (all ++ e ∷ []) y
    pub newest : (card_view app y).newest ≡ closed_at (Some e)
    pub clear : (f : Entry) → e.minute < f.minute → BeginsBehind app f y

  -- one or the other, in the same session
  pub record IsKeepShown : Type 0 where
    pub session : session_time app y ≡ session_time app x
    pub side : IsStopped ⊎ IsDone
    pub bound : (card_view app y).mark ≤ (card_view app y).newest

-- A CARD IS READY FOR A KEEP with these entries by hand before its minute's entry, of which a session holds at most
-- eight: a session knows it, its string is carried so, the minute is later than the newest one, they may come, and its
-- day, where it is new, later than the end mark's, or none so far is as late. Where there is an entry by
-- hand no entry is open at the end mark.
pub record IsFirstReady (s : Session) (slack : Bound) (covered from : ℕ) (c : Counted) (all : List Entry)
    (hands : List Manual) (e : Entry) (x : List ℕ) : Type 0 where
  pub sizes : IsApplication s.application
  pub session : IsSession s x
  pub goes : StringFollowsEntries s.application slack covered from c all x
  pub bytes : most_slack ≤ slack.bytes
  pub later : s.minute < e.minute
  pub before : ComeFrom (end_mark s.application x) covered from hands e
  pub clear : BeginsBehind s.application e x ⊎ IsFresh s.application c all x
  pub are : AreHandsOf s e.minute hands
  pub few : length hands ≤ 8
  pub shut : 0 < length hands → IsShutAt s.application x

-- A SESSION'S FIRST KEEP with these entries by hand: with the old end mark what a repair leaves is that of before,
-- which the repair cuts them from; with the new one each of them is a word of its day. Where there is none this is a
-- keep.
pub record IsFirstShown (app : Application) (slack : Bound) (covered : ℕ) (c : Counted) (all : List Entry)
    (hands : List Manual) (e : Entry) (x y : List ℕ) : Type 0 where
  pub session : session_time app y ≡ session_time app x
  pub side : IsStopped app slack covered c all e x y ⊎ IsDone app slack covered (with_hands covered c hands) all e x y
  pub bound : (card_view app y).mark ≤ (card_view app y).newest
