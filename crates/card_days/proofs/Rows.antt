-- What the writes make of the worked strings of card_model, by computation.
use Rattle.std.proofs.Common.{◌≡◌, [], ◌∷◌, refl}
use Rattle.tach_media.specs.Plan.{put_all}
use Rattle.card_model.specs.Days.{body}
use Rattle.card_model.specs.Walk.{days_of}
use Rattle.card_model.proofs.Rows.{small, whole, across, first_day, empty_at_end, three_days, two_days}
use Rattle.card_days.specs.Held.{Held}
use Rattle.card_days.specs.Plans.{change_pieces}
use Rattle.card_days.specs.Steps.{preceded, day_filled, measured, begun}

-- the writes of `begin_day` on an empty string leave it, and before the length stands there is no day
begun_across : begun whole 5538 5538 0 (body first_day) empty_at_end ≡ across
begun_across = refl

before_body : days_of whole (preceded whole 5538 0 empty_at_end) ≡ []
unfolding days_of
before_body = refl

before_length : days_of whole (day_filled whole 5538 0 (body first_day) empty_at_end) ≡ []
unfolding days_of
before_length = refl

after_length : days_of whole (measured whole 5538 0 (body first_day) empty_at_end) ≡ first_day ∷ []
unfolding days_of
after_length = refl

-- a string full of days of 14 bytes, here three in 42 bytes, takes a word: the oldest is dropped, and the word stands at places 0 and 1
full : Held
full = record { shape = small; tail = record { head = record { place = 28; date = record { 0 = 259200 }; counter = record { 0 = 3 }; km = record { 0 = 0 }; words = 1 }; latest = 0; used = 42 } }

changed : put_all (change_pieces full 0x1805 three_days) three_days ≡ two_days
unfolding full
changed = refl
