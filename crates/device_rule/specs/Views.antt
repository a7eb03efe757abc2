-- What the images of a unit show, and what both devices' images say of the other (profile).
use Rattle.std.specs.Prelude.{ℕ, ◌/◌, Bool, ◌&&◌, List, [], ◌∷◌, filter, nat_eq, nat_lt, nat_le, if◌then◌else◌}
use Rattle.activity_codec.specs.declared.entries.Entry.{Entry}
use Rattle.trace_model.specs.declared.Card.{Card}
use Rattle.trace_model.specs.declared.Card.TheVariants.{A, B}
use Rattle.minute_model.specs.Activity.{last}
use Rattle.unit_model.specs.Days.{ShownDay}
use Rattle.unit_model.specs.Image.{recorded, last_kept}
use Rattle.unit_owed.specs.Owed.{Row, row_view}
use Rattle.card_image.specs.View.{CardView}
use Rattle.history_model.specs.Presence.{closed_at}

-- what a unit's image shows: its recorded days, its last-kept minute, and the rows of both cards; session 0 and no
-- cells where a number has no row
pub record UnitView : Type 0 where
  pub days : List ShownDay
  pub last : ℕ
  pub row_a : Row
  pub row_b : Row

-- the same of an image, where the cards have these numbers
unfoldable pub unit_view : (number_a number_b image : List ℕ) → UnitView
unit_view number_a number_b x =
    record { days = recorded x; last = last_kept x; row_a = row_view number_a x; row_b = row_view number_b x }

-- the newest word counts where no session is open
abbrev pub beyond : CardView → ℕ
beyond x = if nat_lt 0 x.session then 0 else x.word

-- the other card
abbrev pub other : Card → Card
other A = B
other B = A

-- the row of a card
abbrev pub row : Card → UnitView → Row
row A u = u.row_a
row B u = u.row_b

-- with another row of a card
abbrev pub with_row : Card → Row → UnitView → UnitView
with_row A r u = record u { row_a = r }
with_row B r u = record u { row_b = r }

-- a minute counts that is not one of the first day, not earlier than the session's, later than the card's end mark, and
-- not later than the last-kept one
abbrev pub counts : (from mark last : ℕ) → ℕ → Bool
counts from mark last m = nat_le 1440 m && (nat_le from m && (nat_lt mark m && nat_le m last))

-- the row's session is the card's
abbrev pub is_session : (row session : ℕ) → Bool
is_session s t = nat_lt 0 s && nat_eq s t

-- what is owed of a row
abbrev pub owed_in : Row → (last session mark : ℕ) → List Entry
owed_in r last session mark =
    if is_session r.session session then filter (λ e. counts (session / 60) mark last e.minute) r.cells else []

-- the entries owed to a card
abbrev pub owed : Card → UnitView → CardView → List Entry
owed c u x = owed_in (row c u) u.last x.session x.mark

-- the minute from which on the next entry may come: that of the first that is owed, or else this one
abbrev pub next_of : ℕ → List Entry → ℕ
next_of minute [] = minute
next_of minute (e ∷ es) = e.minute

-- the newest minute of the card, as its end mark trims it, once what is owed is on it
abbrev pub newest_with : CardView → List Entry → ℕ
newest_with x [] = x.newest
newest_with x (e ∷ es) = closed_at (last (e ∷ es))
