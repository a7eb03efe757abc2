-- How many insertions and places lie on each of many dates.
use Rattle.std.specs.Prelude.{◌≡◌, ℕ, ◌+◌, ◌*◌, ◌<◌, ◌≤◌, List, length, filter, slice_index_or}
use Rattle.std.specs.List.{AllByRecursion}
use Rattle.gated_ring.specs.Ring.{ring_list}
use Rattle.message_model.specs.Records.{insertion_ring, unit_place_ring}
use Rattle.message_model.specs.Sending.{touches_day, place_in_day}
use Rattle.activity_codec.specs.declared.day.TheConstants.{DAY_SECONDS}
use Rattle.unit_model.specs.declared.layout.TheConstants.{INSERTION_SLOTS, PLACE_SLOTS}
use Rattle.unit_messages.specs.declared.entries.Entries.{Entries}
use Rattle.unit_messages.specs.declared.outline.counts.TheConstants.{DATES}
use Rattle.unit_messages.specs.declared.outline.counts.Counts.{Counts}
use Rattle.unit_messages.specs.declared.outline.counts.Dated.{Dated}
use Rattle.unit_messages.specs.declared.outline.counts.Dated.TheVariants.{Insertions, Places}
use Rattle.unit_messages.specs.Chosen.{chosen_at, shape_of, insertions_on, places_on}

-- the insertions that touch a date, or its places
abbrev pub entries_on : Dated → ℕ → Entries
entries_on Insertions date = insertions_on date
entries_on Places date = places_on date

-- each count is at most so many
abbrev pub AreFew : ℕ → List ℕ → Type 0
AreFew most counts = AllByRecursion (λ n. n ≤ most) counts

-- how many of the entries at these indices are there and chosen
abbrev pub counted_on : Entries → (x js : List ℕ) → ℕ
counted_on e x js = length (chosen_at (shape_of e) e.choice x js)

-- each count of this kind is that of its date, from this first second on, of the entries at these indices
abbrev pub CountsEach : Dated → (first : ℕ) → (x js counts : List ℕ) → Type 0
CountsEach kind first x js counts = (i : ℕ) → i < DATES
    → slice_index_or counts i 0 ≡ counted_on (entries_on kind (first + DAY_SECONDS * i)) x js

-- the counts are those of the unit's image, each of its date
pub record AreCounted (c : Counts) (x : List ℕ) : Type 0 where
  pub insertions : (i : ℕ) → i < DATES
      → slice_index_or c.insertions i 0
      ≡ length (filter (touches_day (c.first + DAY_SECONDS * i)) (ring_list insertion_ring x))
  pub places : (i : ℕ) → i < DATES
      → slice_index_or c.places i 0
      ≡ length (filter (place_in_day (c.first + DAY_SECONDS * i)) (ring_list unit_place_ring x))

-- they have their ranges, also of a unit that tells nothing
pub record AreInRange (c : Counts) : Type 0 where
  pub insertions : AreFew INSERTION_SLOTS c.insertions
  pub places : AreFew PLACE_SLOTS c.places
