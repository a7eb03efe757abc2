-- The entries by hand of a card as a run finds it, and which of them an image may tell later (profile).
use Rattle.std.specs.Prelude.{◌≡◌, ◌⊎◌, ℕ, ◌/◌, max, true, List, Contains, nat_eq, if◌then◌else◌}
use Rattle.activity_codec.specs.declared.entries.Manual.{Manual}
use Rattle.card_image.specs.card_layout.declared.files.Application.{Application}
use Rattle.card_image.specs.card_retention.Entries.{newest_word}
use Rattle.card_image.specs.card_retention.Shown.{sizes}
use Rattle.card_image.specs.card_retention.Retains.{is_day}
use Rattle.card_image.specs.Fields.{card_days}
use Rattle.card_image.specs.Own.{own_sizes, own_view}
use Rattle.hand_model.specs.ByHand.{by_hand_up_to, by_hand_in}

-- the entries by hand up to its end mark
abbrev pub marked_at : List ℕ → List Manual
marked_at image = by_hand_up_to (own_view image).mark (card_days (own_sizes image) image)

-- all entries by hand that its words tell
abbrev pub all_at : List ℕ → List Manual
all_at image = by_hand_up_to (max (own_view image).mark (newest_word (card_days (own_sizes image) image)))
    (card_days (own_sizes image) image)

-- THOSE THAT MAY BE TOLD LATER: where no session was open also those behind the end mark, which no repair need cut
abbrev pub hands_at : List ℕ → List Manual
hands_at image = if nat_eq (own_view image).session 0 then all_at image else marked_at image

-- the ones or the others
abbrev pub AreFirst : (image : List ℕ) → List Manual → Type 0
AreFirst image first = (first ≡ marked_at image) ⊎ (((own_view image).session ≡ 0) × (first ≡ all_at image))

-- the days of an image have that of a minute
abbrev pub HasDayOf : (minute : ℕ) → Application → List ℕ → Type 0
HasDayOf minute app x = is_day (minute / 1440) (sizes (card_days app x)) ≡ true

-- AN IMAGE TELLS THOSE OF THE START, up to its end mark, of each day that it has
abbrev pub StaysTold : (image : List ℕ) → Application → List ℕ → Type 0
StaysTold image app x = (e : Manual) → Contains (marked_at image) e → HasDayOf e.minute app x
    → Contains (by_hand_in app x) e
