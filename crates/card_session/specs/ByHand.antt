-- What an entry by hand makes of a card, and what is left of it at each moment (profile): one word behind all words of
-- the card.
use Rattle.std.specs.Prelude.{◌≡◌, ◌⊎◌, ℕ, ◌+◌, ◌-◌, ◌*◌, ◌/◌, ◌%◌, ◌<◌, true, List, [], ◌∷◌, ◌++◌, length, nat_eq}
use Rattle.std.specs.Prelude.{if◌then◌else◌, ◌≤◌, Result, OnOk}
use Rattle.activity_codec.specs.Words.{word_absent}
use Rattle.card_days.specs.card_model.Days.{Day}
use Rattle.card_days.specs.card_model.Changes.{Remain, IsNext, date_of, fitting, new_day}
use Rattle.card_validity.specs.card_retention.Expected.{is_newest}
use Rattle.card_validity.specs.card_retention.Shown.{sizes}
use Rattle.card_validity.specs.card_retention.Entries.{newest_word}
use Rattle.activity_codec.specs.declared.entries.Manual.{Manual}
use Rattle.hand_model.specs.Manual.{manual_word}
use Rattle.card_session.specs.Vehicles.{Vehicles}
use Rattle.card_session.specs.Books.{Book, with_change, bare_word}
use Rattle.card_session.specs.Sessions.{Session, IsSession, EndsStrictly, book_of}
use Rattle.card_session.specs.Moments.{IsBook}
use Rattle.card_session.specs.Cards.{IsCard}
use Rattle.tach_media.specs.Medium.{State}
use Rattle.tach_media.specs.declared.fault.Failed.{Failed}

-- the words that begin the day of a minute with this word, which stands at the minute
abbrev pub words_from : (minute w : ℕ) → List ℕ
words_from minute w = if nat_eq (minute % 1440) 0 then w ∷ [] else bare_word ∷ w ∷ []

-- the days with the day of a minute, for which the oldest go as they must
abbrev pub with_day_from : (size minute w : ℕ) → List Day → List Day
with_day_from size minute w days =
    fitting (size - (12 + 2 * length (words_from minute w))) days ++ new_day days (date_of minute) (words_from minute w)
    ∷ []

-- THE DAYS WITH A WORD AT A MINUTE: on the newest day, where it is the minute's; else with that day
abbrev pub with_word_at : (size minute w : ℕ) → List Day → List Day
with_word_at size minute w days = if is_newest (minute / 1440) (sizes days) then with_change size w days
    else with_day_from size minute w days

-- how many bytes it adds
abbrev pub word_len : (minute w : ℕ) → List Day → ℕ
word_len minute w days = if is_newest (minute / 1440) (sizes days) then 2 else 12 + 2 * length (words_from minute w)

-- A card with an entry by hand: the vehicle entries, and so the end mark, stay.
abbrev pub by_hand : (size : ℕ) → Manual → Book → Book
by_hand size e b = record { days = with_word_at size e.minute (manual_word e) b.days; vehicles = b.vehicles }

-- A moment of it: no more of the oldest days are gone than must be for the word; or it stands there.
abbrev pub IsByHandMoment : (size : ℕ) → Manual → Book → List Day → Vehicles → Type 0
IsByHandMoment size e b days vehicles =
    (Remain (size - word_len e.minute (manual_word e) b.days) b.days days
    ⊎ (days ≡ with_word_at size e.minute (manual_word e) b.days)) × (vehicles ≡ b.vehicles)

-- after an entry by hand: its word is on the card, and nothing else has changed
pub record IsCardByHand (s next : Session) (e : Manual) (x y : List ℕ) : Type 0 where
  pub card : IsCard s.application (IsBook (by_hand s.application.activity e (book_of s.application x))) x y
  pub knows : IsSession next y

-- a moment of it
pub record IsCardEntering (s : Session) (e : Manual) (x c : List ℕ) : Type 0 where
  pub card : IsCard s.application (IsByHandMoment s.application.activity e (book_of s.application x)) x c

-- BY VALUE: the newest day is that of a minute, and its latest word tells no card, as behind an entry by hand.
pub record EndsByHand (s : Session) (minute : ℕ) : Type 0 where
  pub some : 0 < s.days.tail.used
  pub day : s.days.tail.head.date.0 ≡ date_of minute
  pub absent : word_absent s.days.tail.latest ≡ true

-- ---- parts of the call

-- A WORD AT A MINUTE: no word reaches it
abbrev pub IsBeforeWordAt : (minute : ℕ) → Book → Type 0
IsBeforeWordAt minute b = EndsStrictly b.days × (newest_word b.days < minute)

-- THE DAY OF A MINUTE is begun
abbrev pub BeginsFrom : (minute w : ℕ) → Book → Type 0
BeginsFrom minute w b = IsNext b.days (date_of minute) (words_from minute w)

-- the book with that day
abbrev pub with_day_in : (size minute w : ℕ) → Book → Book
with_day_in size minute w b = record { days = with_day_from size minute w b.days; vehicles = b.vehicles }

-- a moment of it: the oldest days go as they must, or it is there
abbrev pub IsBeforeDayFrom : (size minute w : ℕ) → Book → List Day → Vehicles → Type 0
IsBeforeDayFrom size minute w b days vehicles =
    (Remain (size - (12 + 2 * length (words_from minute w))) b.days days ⊎ (days ≡ with_day_from size minute w b.days))
    × (vehicles ≡ b.vehicles)

-- THE SESSION BEHIND AN ENTRY BY HAND: of the same card, vehicle and odometer; and where it was written, of its minute,
-- on whose day the card ends
pub record EntersSession (result : Result (Unit {0}) Failed) (old new : Session) (minute : ℕ) : Type 0 where
  pub same : (new.application ≡ old.application) × (new.registration ≡ old.registration)
      × (new.odometer ≡ old.odometer)
  pub last : OnOk result (new.minute ≡ minute)
  pub ends : OnOk result (EndsByHand new minute)

-- SO MANY WRITES BEGIN AT MOST for an entry by hand, and fewer where the card ends on its day
pub record WritesByHand (s : Session) (minute : ℕ) (old new : State) : Type 0 where
  pub most : new.clock ≤ old.clock + 9
  pub few : EndsByHand s minute → new.clock ≤ old.clock + 4
