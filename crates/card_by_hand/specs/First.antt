-- A session's first keep: its entries by hand, and the minute's entry behind them (profile).
use Rattle.std.specs.Prelude.{◌≡◌, ◌⊎◌, ℕ, ◌/◌, ◌<◌, ◌≤◌, false, List, [], ◌∷◌}
use Rattle.activity_codec.specs.declared.entries.Entry.{Entry}
use Rattle.activity_codec.specs.declared.entries.Manual.{Manual}
use Rattle.tach_media.specs.card_layout.declared.files.Application.{Application}
use Rattle.tach_media.specs.card_layout.Application.{IsApplication}
use Rattle.card_session.specs.card_retention.Expected.{is_newest}
use Rattle.card_session.specs.card_retention.Shown.{sizes as sizes_of, is_open}
use Rattle.hand_model.specs.card_image.Fields.{card_days, end_mark}
use Rattle.hand_model.specs.Holding.{LieBetween, AreOfDay}
use Rattle.hand_model.specs.ByHand.{HandsBefore}
use Rattle.card_session.specs.Sessions.{Session, IsSession}
use Rattle.card_session.specs.Cards.{IsCardKept, IsCardKeeping}
use Rattle.card_session.specs.ByHand.{IsCardByHand, IsCardEntering, EndsByHand}
use Rattle.card_by_hand.specs.Clear.{BeginsLater}

-- the session behind an entry by hand, by value: that of before, whose newest minute is the entry's, which ends the
-- newest day
pub record Follows (s next : Session) (e : Manual) : Type 0 where
  pub application : next.application ≡ s.application
  pub registration : next.registration ≡ s.registration
  pub odometer : next.odometer ≡ s.odometer
  pub minute : next.minute ≡ e.minute
  pub ends : EndsByHand next e.minute

-- ENTRIES BY HAND, one after the other: from a session and its card to those behind them
abbrev pub AreEntered : List Manual → (s next : Session) → (x y : List ℕ) → Type 0
AreEntered [] s next x y = (next ≡ s) × (y ≡ x)
AreEntered (e ∷ es) s next x y = (between : Session) × (z : List ℕ) × Follows s between e × IsCardByHand s between e x z
    × AreEntered es between next z y

-- a moment of them: one of the first, or of those behind it
abbrev pub IsEntering : List Manual → Session → (x c : List ℕ) → Type 0
IsEntering [] s x c = ⊥
IsEntering (e ∷ es) s x c = IsCardEntering s e x c
    ⊎ ((between : Session) × (z : List ℕ) × Follows s between e × IsCardByHand s between e x z
    × IsEntering es between z c)

-- AFTER A FIRST KEEP: its entries by hand are on the card, and behind them the minute's entry
pub record IsFirstKept (s next : Session) (by_hand : List Manual) (e : Entry) (odometer : ℕ) (x y : List ℕ) : Type
    0 where
  pub between : Session
  pub card : List ℕ
  pub entered : AreEntered by_hand s between x card
  pub kept : IsCardKept between next e odometer card y

-- the keep of the minute's entry has begun, behind all of them
pub record IsKeepingBehind (s : Session) (by_hand : List Manual) (e : Entry) (odometer : ℕ) (x c : List ℕ) : Type
    0 where
  pub between : Session
  pub card : List ℕ
  pub entered : AreEntered by_hand s between x card
  pub keeping : IsCardKeeping between e odometer card c

-- A MOMENT OF IT
abbrev pub IsFirstKeeping : Session → List Manual → Entry → (odometer : ℕ) → (x c : List ℕ) → Type 0
IsFirstKeeping s by_hand e odometer x c = IsEntering by_hand s x c ⊎ IsKeepingBehind s by_hand e odometer x c

-- ---- parts of the call

-- on a card that the session knows they were entered, and the next session knows it
abbrev pub HasEntered : List Manual → (s next : Session) → (x y : List ℕ) → Type 0
HasEntered es s next x y = IsSession s x → AreEntered es s next x y × IsSession next y

-- a moment at which they are entered, on a card that the session knows
abbrev pub MayBeEntering : List Manual → Session → (x c : List ℕ) → Type 0
MayBeEntering es s x c = IsSession s x → IsEntering es s x c

-- ---- what the laws of a first keep ask of a card

-- a session knows the card, and a minute may be kept: it is later than the newest one
pub record MayCome (s : Session) (minute : ℕ) (x : List ℕ) : Type 0 where
  pub sizes : IsApplication s.application
  pub knows : IsSession s x
  pub later : s.minute < minute

-- and its day, where it is new, is later than that of the end mark
pub record MayFollow (s : Session) (minute : ℕ) (x : List ℕ) : Type 0 where
  pub sizes : IsApplication s.application
  pub knows : IsSession s x
  pub later : s.minute < minute
  pub clear : BeginsLater s.application minute x

-- or, where its day is new, none of these entries by hand is of that day or a later one
pub record MayTell (s : Session) (minute : ℕ) (all : List Manual) (x : List ℕ) : Type 0 where
  pub sizes : IsApplication s.application
  pub knows : IsSession s x
  pub later : s.minute < minute
  pub clear : is_newest (minute / 1440) (sizes_of (card_days s.application x)) ≡ false → HandsBefore (minute / 1440) all

-- ITS ENTRIES BY HAND: they are of its day, and come behind the newest minute and before it
pub record AreHandsOf (s : Session) (minute : ℕ) (by_hand : List Manual) : Type 0 where
  pub lie : LieBetween s.minute minute by_hand
  pub day : AreOfDay (minute / 1440) by_hand

-- no entry is open at the end mark of a card: so it is behind each insertion
abbrev pub IsShutAt : Application → (x : List ℕ) → Type 0
IsShutAt app x = is_open (end_mark app x) (card_days app x) ≡ false

-- the minute of the first of them, or else that of the keep
abbrev pub first_written : List Manual → Entry → ℕ
first_written [] e = e.minute
first_written (h ∷ hs) e = h.minute

-- THEY MAY COME, where an entry comes no earlier than `from`: the first of them does not, or, where a repair has cut
-- words of the start behind the end mark, the keep's minute does not
abbrev pub ComeFrom : (mark covered from : ℕ) → List Manual → Entry → Type 0
ComeFrom mark covered from hands e = (from ≤ first_written hands e) ⊎ ((mark < covered) × (from ≤ e.minute))

-- ---- a card whose end mark lies in a later day than its newest day, as another unit may leave it

-- a session knows it, and the minute that may be kept lies on the day of the end mark
pub record IsFreshFor (s : Session) (minute : ℕ) (x : List ℕ) : Type 0 where
  pub sizes : IsApplication s.application
  pub knows : IsSession s x
  pub later : s.minute < minute
  pub new : is_newest (minute / 1440) (sizes_of (card_days s.application x)) ≡ false
  pub day : minute / 1440 ≡ end_mark s.application x / 1440
