-- The entries by hand up to a mark are not behind it, so they lie on days that a time of four bytes can name.
use Rattle.std.proofs.Common.{ℕ, ◌+◌, ◌/◌, ◌<◌, ◌≤◌, List, [], ◌∷◌, ◌++◌, arith}
use Rattle.std.specs.Prelude.{◌&&◌, nat_le}
use Rattle.std.specs.List.{AllByRecursion}
use Rattle.std.proofs.lemmas.Bool.{leb-true}
use Rattle.activity_codec.specs.Words.{word_minute}
use Rattle.activity_codec.specs.declared.entries.Manual.{Manual}
use Rattle.activity_codec.proofs.ByTest.{by_test}
use Rattle.card_model.specs.Days.{Day}
use Rattle.hand_model.specs.Manual.{is_by_hand}
use Rattle.hand_model.specs.ByHand.{words_by_hand, by_hand_up_to}
use Rattle.tacho_types.specs.declared.calendar.TheConstants.{DAYS}
use Rattle.view_model.specs.Lines.{day_of_minute}
use Rattle.view_text.specs.Exact.{both}

-- none is behind the mark
abbrev pub AreEarly : ℕ → List Manual → Type 0
AreEarly mark es = AllByRecursion (λ (e : Manual). e.minute ≤ mark) es

early_append : (mark : ℕ) (es fs : List Manual) → AreEarly mark es → AreEarly mark fs → AreEarly mark (es ++ fs)
early_append mark [] fs early more = more
early_append mark (e ∷ es) fs early more = (early.0, early_append mark es fs early.1 more)

words_early : (mark date : ℕ) (ws : List ℕ) → AreEarly mark (words_by_hand mark date ws)
words_early mark date [] = tt
words_early mark date (w ∷ ws) =
    by_test (is_by_hand w && nat_le (date / 60 + word_minute w) mark)
    (λ yes. rw yes (leb-true (date / 60 + word_minute w) mark (both (is_by_hand w) (nat_le (date / 60 + word_minute w) mark) yes).1, words_early mark date ws))
    (λ no. rw no (words_early mark date ws))

pub hands_early : (mark : ℕ) (ds : List Day) → AreEarly mark (by_hand_up_to mark ds)
hands_early mark [] = tt
hands_early mark (d ∷ ds) = early_append mark (words_by_hand mark d.date d.words) (by_hand_up_to mark ds) (words_early mark d.date d.words) (hands_early mark ds)

pub hands_low : (mark : ℕ) (es : List Manual) → mark < 71582789 → AreEarly mark es → AllByRecursion (λ (e : Manual). day_of_minute e.minute < DAYS) es
hands_low mark [] high early = tt
hands_low mark (e ∷ es) high early = (omega (arith, early.0, high), hands_low mark es high early.1)
