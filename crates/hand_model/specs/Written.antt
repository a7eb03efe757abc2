-- What the sessions of a run have written on a card, as far as it counts: minutes' entries, and before the first one of
-- a session its entries by hand (profile).
use Rattle.std.specs.Prelude.{◌≡◌, ◌⊎◌, ℕ, ◌/◌, ◌<◌, ◌≤◌, List, [], ◌∷◌, ◌++◌, map, fold}
use Rattle.activity_codec.specs.declared.entries.Entry.{Entry}
use Rattle.activity_codec.specs.declared.entries.Manual.{Manual}
use Rattle.card_image.specs.card_retention.Expected.{Counted, with_entry}
use Rattle.card_image.specs.card_retention.ByHand.{with_by_hand}

-- ONE OF THEM
pub data Written : Type 0 where
  Minute : Entry → Written
  ByHand : Manual → Written

-- the entries of minutes among them
abbrev pub entries_of : List Written → List Entry
entries_of [] = []
entries_of (Minute e ∷ ws) = e ∷ entries_of ws
entries_of (ByHand h ∷ ws) = entries_of ws

-- and those by hand
abbrev pub hands_of : List Written → List Manual
hands_of [] = []
hands_of (Minute e ∷ ws) = hands_of ws
hands_of (ByHand h ∷ ws) = h ∷ hands_of ws

-- WHAT A KEEP WRITES: before a session's first minute its entries by hand, else none
abbrev pub written_by : List Manual → Entry → List Written
written_by hands e = map (λ h. ByHand h) hands ++ Minute e ∷ []

-- minutes alone
abbrev pub minutes_alone : List Entry → List Written
minutes_alone es = map (λ e. Minute e) es

-- the words of a card's days with one more
abbrev pub with_written : (covered : ℕ) → Counted → Written → Counted
with_written covered c (Minute e) = with_entry covered c e
with_written covered c (ByHand h) = with_by_hand covered c h.minute

-- with all of them
unfoldable pub counted_by : (covered : ℕ) → Counted → List Written → Counted
counted_by covered start ws = fold (with_written covered) start ws

-- the next one is of this day
abbrev pub GoesOnIn : (day : ℕ) → List Written → Type 0
GoesOnIn day [] = ⊥
GoesOnIn day (Minute e ∷ ws) = e.minute / 1440 ≡ day
GoesOnIn day (ByHand h ∷ ws) = h.minute / 1440 ≡ day

-- THEIR ORDER: each is later than the one before it, the first one than a minute; and behind an entry by hand comes
-- another one of its day
abbrev pub Rises : (after : ℕ) → List Written → Type 0
Rises after [] = Unit {0}
Rises after (Minute e ∷ ws) = (after < e.minute) × Rises e.minute ws
Rises after (ByHand h ∷ ws) = (after < h.minute) × GoesOnIn (h.minute / 1440) ws × Rises h.minute ws

-- none is later than a minute
abbrev pub IsUpTo : (last : ℕ) → List Written → Type 0
IsUpTo last [] = Unit {0}
IsUpTo last (Minute e ∷ ws) = (e.minute ≤ last) × IsUpTo last ws
IsUpTo last (ByHand h ∷ ws) = (h.minute ≤ last) × IsUpTo last ws

-- some of a list, in its order, each once
abbrev pub IsPartOf : (some all : List Manual) → Type 0
IsPartOf [] all = Unit {0}
IsPartOf (x ∷ some) [] = ⊥
IsPartOf (x ∷ some) (y ∷ all) = ((x ≡ y) × IsPartOf some all) ⊎ IsPartOf (x ∷ some) all

-- ENTRIES BY HAND OF A CARD in a run: `sure` are those of keeps that were acknowledged, `given` all that were given to
-- keeps. A keep that was broken off may have written its own or not.
pub record Hands : Type 0 where
  pub sure : List Manual
  pub given : List Manual

-- none so far
abbrev pub no_hands : Hands
no_hands = record { sure = []; given = [] }

-- with those of a keep that was acknowledged
abbrev pub and_sure : List Manual → Hands → Hands
and_sure hs h = record { sure = h.sure ++ hs; given = h.given ++ hs }

-- with those of a keep that was broken off
abbrev pub and_given : List Manual → Hands → Hands
and_given hs h = record { sure = h.sure; given = h.given ++ hs }

-- these are between the ones and the others
pub record Lie (h : Hands) (hs : List Manual) : Type 0 where
  pub all : IsPartOf h.sure hs
  pub only : IsPartOf hs h.given
