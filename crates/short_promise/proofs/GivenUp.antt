-- What overwriting excuses, and what it does not: a day that is there is never one that was given up.
use Rattle.std.proofs.Common.{◌≡◌, ℕ, ◌*◌, ◌/◌, ◌<◌, ◌≤◌, Bool, true, false, cond, List, [], ◌∷◌, All, Contains, map, length, nat_le, ◌++◌, refl, ap, subst, sym, ◌∙◌, arith}
use Rattle.std.specs.List.{range_with_len}
use Rattle.std.proofs.lemmas.Bool.Decides.{nat_tests}
use Rattle.std.proofs.lemmas.List.Elements.{All-nil, All-cons, All-map, All-contains}
use Rattle.safety_model.specs.device_rule.activity_codec.declared.entries.Entry.{Entry}
use Rattle.safety_model.specs.device_rule.trace_model.declared.Card.{Card}
use Rattle.safety_model.specs.device_rule.unit_model.Days.{ShownDay, unknown_minute}
use Rattle.safety_model.specs.device_rule.unit_model.Image.{recorded}
use Rattle.safety_model.specs.device_rule.Own.{own_view}
use Rattle.safety_model.specs.card_retention.Retains.{entries_from}
use Rattle.safety_model.specs.Recording.{Recording, brought}
use Rattle.gated_ring.proofs.Orders.{range_each}
use Rattle.days_told.proofs.Turning.{each-all}
use Rattle.days_told.proofs.Year.{year, year-days, year-later}
use Rattle.short_promise.specs.InShort.{IsOverwritten, ShowsFirst, IsGivenUp}

-- so many days, from the third day of 1970 on, each with its first minute
abbrev days_of : ℕ → List ShownDay
days_of n = map (λ (day : ℕ). record { day = day; minutes = unknown_minute (1440 * day) ∷ [] }) (range_with_len 2 n)

-- OVERWRITTEN, of an image with 365 days: a minute of the day before the first of them
overwritten : (x : List ℕ) → recorded x ≡ days_of 365 → IsOverwritten x 2000
overwritten x is = record {
  later = subst (λ (ds : List ShownDay). All (λ (d : ShownDay). 1 < d.day) ds) (sym is)
      (All-map (λ (d : ShownDay). 1 < d.day) (λ (day : ℕ). record { day = day; minutes = unknown_minute (1440 * day) ∷ [] }) (range_with_len 2 365)
      (each-all (λ (day : ℕ). 1 < day) (range_with_len 2 365) (range_each (λ (day : ℕ). 1 < day) 2 365 (λ day low high. omega (arith, low)))));
  many = let n : length (recorded x) ≡ 365 = ap length is ∙ refl in omega (arith, n);
}

-- and so of one by its bytes
overwritten-in-year : IsOverwritten year 2000
overwritten-in-year = record { later = year-later; many = let n = year-days in omega (arith, n) }

-- NOT with 364 of them: there was room
room-left : (x : List ℕ) → recorded x ≡ days_of 364 → IsOverwritten x 2000 → ⊥
room-left x is older = let many = older.many in let n : length (recorded x) ≡ 364 = ap length is ∙ refl in omega (arith, many, n)

-- NOT A MINUTE OF A DAY THAT IS THERE, however many there are
still-there : (x : List ℕ) (d : ShownDay) (m : ℕ) → Contains (recorded x) d → d.day ≡ m / 1440 → IsOverwritten x m → ⊥
still-there x d m at is older = let late : m / 1440 < d.day = All-contains (λ (d : ShownDay). m / 1440 < d.day) (recorded x) d older.later at in omega (arith, late, is)

-- ---- of a card
tells-less : (a b : ℕ) → nat_le a b ≡ true → a ≤ b
tells-less a b is = grind (arith, nat_tests)

from-late : (day : ℕ) (es : List Entry) → All (λ (e : Entry). day ≤ e.minute / 1440) (entries_from day es)
from-late day [] = All-nil (λ (e : Entry). day ≤ e.minute / 1440)
from-late day (e ∷ es) = go (nat_le day (e.minute / 1440)) refl (from-late day es)
  where
    go : (b : Bool) → nat_le day (e.minute / 1440) ≡ b → All (λ (e : Entry). day ≤ e.minute / 1440) (entries_from day es) → All (λ (e : Entry). day ≤ e.minute / 1440) (cond b (e ∷ entries_from day es) (entries_from day es))
    go true is rest = All-cons (λ (e : Entry). day ≤ e.minute / 1440) e (entries_from day es) (tells-less day (e.minute / 1440) is) rest
    go false is rest = rest

module _ (r : Recording) (c : Card) (x : List ℕ) where
  -- GIVEN UP: an entry of the second day, where the card shows those from the third on
  given-up : (f : ShowsFirst r c x) (e : Entry) → Contains ((brought r c).entries ++ f.more) e → f.oldest ≡ 2 → e.minute ≡ 2000 → IsGivenUp r c x e
  given-up f e among oldest minute = record { first = f; among = among; older = omega (arith, oldest, minute) }

  -- NOT ONE THAT THE CARD SHOWS
  still-shown : (e : Entry) → Contains (own_view x).held.entries e → IsGivenUp r c x e → ⊥
  still-shown e at gone =
      let late : gone.first.oldest ≤ e.minute / 1440 = All-contains (λ (e : Entry). gone.first.oldest ≤ e.minute / 1440) (entries_from gone.first.oldest ((brought r c).entries ++ gone.first.more)) e (from-late gone.first.oldest ((brought r c).entries ++ gone.first.more))
      (subst (λ (es : List Entry). Contains es e) gone.first.says at) in
      let old = gone.older in omega (arith, late, old)

  -- NOT ONE THAT WAS NOT OWED TO IT, and is none of the start or of the run
  never-there : (e : Entry) → ((f : ShowsFirst r c x) → Contains ((brought r c).entries ++ f.more) e → ⊥) → IsGivenUp r c x e → ⊥
  never-there e none gone = none gone.first gone.among
