-- A worked row: what three entries and a withdrawal make of a new card.
use Rattle.std.proofs.Common.{◌≡◌, ℕ, List, [], ◌∷◌, None, refl, ap, arith}
use Rattle.activity_codec.specs.declared.values.Activity.TheVariants.{Work}
use Rattle.activity_codec.specs.declared.entries.Entry.{Entry}
use Rattle.device_calls.specs.card_session.Vehicles.{Vehicles}
use Rattle.device_calls.specs.card_session.Books.{Book}
use Rattle.device_calls.proofs.card_session.Rows.{day, this_vehicle, using, work}
use Rattle.device_calls.specs.card_string.Deeds.{Keep, Close, Step, Done, Broken, MadeBy, kept_in, AreNext}

-- the keep of a minute of the day, with this odometer and so many km behind the one before
abbrev keep : (odometer km minute : ℕ) → Step
keep odometer km minute = Done (Keep (record { entry = work minute; registration = this_vehicle; odometer = odometer; km = km }))

-- 10:00, 10:01 and, behind a gap, 10:03; then the card is withdrawn with work selected
abbrev steps : List Step
steps = keep 100 0 600 ∷ keep 101 1 601 ∷ keep 103 2 603 ∷ Done (Close Work) ∷ []

abbrev written : (km : ℕ) → List ℕ → Vehicles → Book
written km words vehicles = record { days = day km words ∷ []; vehicles = vehicles }

entries : kept_in steps ≡ work 600 ∷ work 601 ∷ work 603 ∷ []
entries = refl

-- each of the next, whatever else is to come
next : AreNext steps (work 600 ∷ work 601 ∷ work 603 ∷ work 604 ∷ [])
next = (refl, (refl, (refl, tt)))

-- a keep of 10:03 that was broken off before 10:01 was kept is none of the next
broken : AreNext (keep 100 0 600 ∷ Broken (Keep (record { entry = work 603; registration = this_vehicle; odometer = 103; km = 2 })) ∷ []) (work 600 ∷ work 601 ∷ work 603 ∷ []) → ⊥
broken h = let same : (work 603).minute ≡ (work 601).minute = ap (λ (e : Entry). e.minute) h.1.0 in absurd (omega (arith, same))

-- the day has 3 km and five words, the last of which closes; the vehicle was used from 10:00 to 10:04, over 3 km, in one entry (of a ring of two)
made : MadeBy 5544 steps (record { days = []; vehicles = record { newest = None; ring = None ∷ None ∷ [] } }) (written 3 (0x2000 ∷ 0x1258 ∷ 0x225A ∷ 0x125B ∷ 0x325C ∷ []) (using 103 604))
made = (
  written 0 (0x2000 ∷ 0x1258 ∷ []) (using 100 600),
  refl,
  (written 1 (0x2000 ∷ 0x1258 ∷ []) (using 101 601), refl, (written 3 (0x2000 ∷ 0x1258 ∷ 0x225A ∷ 0x125B ∷ []) (using 103 603), refl, (written 3 (0x2000 ∷ 0x1258 ∷ 0x225A ∷ 0x125B ∷ 0x325C ∷ []) (using 103 604), refl, refl))),
)
