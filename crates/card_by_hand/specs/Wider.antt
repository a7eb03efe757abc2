-- Expected days with more words, and what entries by hand make of them.
use Rattle.std.specs.Prelude.{◌≡◌, ℕ, ◌/◌, ◌<◌, ◌≤◌, List, [], ◌∷◌}
use Rattle.card_session.specs.card_retention.Expected.{WordDay, Counted}
use Rattle.activity_codec.specs.declared.entries.Manual.{Manual}
use Rattle.hand_model.specs.Counted.{with_by_hand}

-- the same days, each with at least its words
abbrev pub Wider : List WordDay → List WordDay → Type 0
Wider [] [] = Unit {0}
Wider [] (v ∷ vs) = ⊥
Wider (w ∷ ws) [] = ⊥
Wider (w ∷ ws) (v ∷ vs) = (v.day ≡ w.day) × (w.words ≤ v.words) × Wider ws vs

-- entries by hand, one after the other
abbrev pub with_hands : (covered : ℕ) → Counted → List Manual → Counted
with_hands covered c [] = c
with_hands covered c (h ∷ hs) = with_hands covered (with_by_hand covered c h.minute) hs

-- they are of a day, and before a minute of it
abbrev pub AreOnDay : (day before : ℕ) → List Manual → Type 0
AreOnDay day before [] = Unit {0}
AreOnDay day before (h ∷ hs) = (h.minute / 1440 ≡ day) × (h.minute < before) × AreOnDay day before hs
