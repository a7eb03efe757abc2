-- What a run has travelled, in km/h times seconds: of each time that there was power, and of each power span (profile).
use Rattle.std.specs.Prelude.{◌≡◌, ◌⊎◌, ℕ, ◌/◌, ◌≤◌, Option, Some, None, List, [], ◌∷◌, ◌++◌, All, sum_by, map, filter}
use Rattle.std.specs.Prelude.{find, nat_le, nat_lt, unwrap_or}
use Rattle.minute_model.specs.declared.Rule.{Rule}
use Rattle.minute_model.specs.declared.Minute.{Minute}
use Rattle.log_model.specs.Course.{ToldSecond}
use Rattle.history_model.specs.History.{decided_of}

-- a minute of which a keeping was begun, and what was travelled up to it: each time before power came last, and since
pub record Reckoned : Type 0 where
  pub minute : ℕ
  pub before : List ℕ
  pub leg : ℕ

-- What was travelled, in km/h times seconds: each time before power came last, up to the minute of which the odometer
-- was found then; since, up to the last-kept minute; and up to the one of which the keeping was broken off. And what
-- the unit had at the start, and up to which minutes it was reckoned since.
pub record Travel : Type 0 where
  pub image : List ℕ
  pub begun : List Reckoned
  pub before : List ℕ
  pub sure : ℕ
  pub maybe : Option ℕ

-- at the start, with this image of the unit
abbrev pub not_travelled : (image : List ℕ) → Travel
not_travelled image = record { image = image; begun = []; before = []; sure = 0; maybe = None }

-- a minute up to which this was travelled
abbrev pub reckoned : (minute leg : ℕ) → Travel → Reckoned
reckoned m t g = record { minute = m; before = g.before; leg = t }

-- it is kept
abbrev pub travelled : (minute leg : ℕ) → Travel → Travel
travelled m t g = record g { begun = g.begun ++ reckoned m t g ∷ []; sure = t; maybe = None }

-- the keeping of such a minute was broken off
abbrev pub stranded : (minute leg : ℕ) → Travel → Travel
stranded m t g = record g { begun = g.begun ++ reckoned m t g ∷ []; maybe = Some t }

-- power is back, and the odometer of this is found
abbrev pub resumed : ℕ → Travel → Travel
resumed t g = record g { before = g.before ++ t ∷ []; sure = 0; maybe = None }

-- these minutes were kept, one after another
abbrev pub all_travelled : List Minute → Travel → Travel
all_travelled [] g = g
all_travelled (d ∷ ds) g = all_travelled ds (travelled d.minute d.travelled g)

-- the keeping of a minute was broken off, or none was begun
abbrev pub stranded_at : Option Minute → Travel → Travel
stranded_at None g = g
stranded_at (Some d) g = stranded d.minute d.travelled g

-- the whole kilometres of these, each for itself
abbrev pub kilometres_of : List ℕ → ℕ
kilometres_of legs = sum_by (λ t. t / 3600) legs

-- what was travelled up to the last of these minutes, 0 where there is none
abbrev pub travelled_by : List Minute → ℕ
travelled_by [] = 0
travelled_by (d ∷ []) = d.travelled
travelled_by (d ∷ e ∷ ds) = travelled_by (e ∷ ds)

-- a leg: what was travelled up to the last of these minutes that is not later than the last-kept one, or up to the
-- first later one, of which the keeping was broken off
abbrev pub IsLeg : (kept : ℕ) → List Minute → ℕ → Type 0
IsLeg k ds leg = (leg ≡ travelled_by (filter (λ d. nat_le d.minute k) ds))
    ⊎ ((d : Minute) × (find (λ d. nat_lt k d.minute) ds ≡ Some d) × (leg ≡ d.travelled))

-- the legs of the spans, each by the limit of its cut, or where it has none by the last-kept minute
abbrev pub AreLegs : Rule → (limit : List ToldSecond → List (List ToldSecond) → Option ℕ) → (kept : ℕ)
    → List (List ToldSecond) → List ℕ → Type 0
AreLegs rule limit k [] legs = legs ≡ []
AreLegs rule limit k (span ∷ later) [] = ⊥
AreLegs rule limit k (span ∷ later) (leg ∷ legs) = IsLeg (unwrap_or (limit span later) k) (decided_of rule span) leg
    × AreLegs rule limit k later legs

-- each minute that these spans have decided is no later than the limit of its span's cut, or where it has none than the
-- last-kept one
abbrev pub AreWhole : Rule → (limit : List ToldSecond → List (List ToldSecond) → Option ℕ) → (kept : ℕ)
    → List (List ToldSecond) → Type 0
AreWhole rule limit k [] = Unit {0}
AreWhole rule limit k (span ∷ later) = All (λ d. d.minute ≤ unwrap_or (limit span later) k) (decided_of rule span)
    × AreWhole rule limit k later

-- what was travelled in each span, up to the last minute that it has decided
abbrev pub whole_legs : Rule → List (List ToldSecond) → List ℕ
whole_legs rule spans = map (λ span. travelled_by (decided_of rule span)) spans
