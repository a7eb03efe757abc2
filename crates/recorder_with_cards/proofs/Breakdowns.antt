-- Each device of a run has broken down just as often as the log tells, where no count stands at its last value.
use Rattle.std.proofs.Common.{◌≡◌, inl, inr, ℕ, suc, ◌+◌, ◌<◌, ◌≤◌, ◌^◌, ◌-◌, true, false, List, [], ◌∷◌, length, filter, map, refl, ap, arith, length-append}
use Rattle.std.specs.Prelude.{flat_map}
use Rattle.std.proofs.lemmas.List.{length-map}
use Rattle.tach_media.specs.Medium.{last_count}
use Rattle.activity_codec.specs.declared.values.Slot.{Slot}
use Rattle.activity_codec.specs.declared.values.Slot.TheVariants.{Driver, CoDriver}
use Rattle.trace_model.specs.declared.Card.{Card}
use Rattle.trace_model.specs.declared.Card.TheVariants.{A, B}
use Rattle.log_model.specs.declared.lines.Break.{Break}
use Rattle.log_model.specs.declared.lines.Break.TheVariants.{Cut, Tear}
use Rattle.log_model.specs.declared.lines.Verdict.{Verdict}
use Rattle.log_model.specs.Log.{RunLog, Phase}
use Rattle.log_model.specs.Slots.{same_card}
use Rattle.log_model.specs.Course.{ToldSecond, Visit}
use Rattle.log_model.specs.Causes.{HasCauses, RoseBy, cuts, tears, places, visit_places, in_the_slot, torn_of, cards_torn}
use Rattle.device_calls.specs.safety_model.Recording.{Recording, told_of}
use Rattle.device_calls.specs.safety_model.Safe.{Devices, card_of, breakdowns_of}
use Rattle.recorder_with_cards.specs.Breakdowns.{BreakdownsAreTold, BreakdownsAreCounted}

-- a count below its last value rose by so many at least
pub rose-low : (n before now : ℕ) → RoseBy n before now → now < 2 ^ 64 - 1 → before + n ≤ now
rose-low n before now (inl rose) low = rose
rose-low n before now (inr last) low = absurd (omega (arith, low, last))

-- each tear has a place
tear-places : (log : RunLog) (bs : List Break) → length (flat_map places (tears true (record log { breaks = bs }))) ≡ length (tears true (record log { breaks = bs }))
tear-places log [] = refl
tear-places log (Cut second kept failed begun ∷ bs) = tear-places log bs
tear-places log (Tear second slot true begun late ∷ bs) = ap (λ (n : ℕ). suc n) (tear-places log bs)
tear-places log (Tear second slot false begun late ∷ bs) = tear-places log bs

-- each place is in one of the slots
slot-places : (ps : List (ℕ × Phase × Slot)) → length ps ≡ length (in_the_slot Driver ps) + length (in_the_slot CoDriver ps)
slot-places [] = refl
slot-places ((u, p, Driver) ∷ ps) =
    let rest = slot-places ps in
    let first : length (in_the_slot Driver ((u, p, Driver) ∷ ps)) ≡ length ((u, p, Driver) ∷ in_the_slot Driver ps) = refl in
    let other : length (in_the_slot CoDriver ((u, p, Driver) ∷ ps)) ≡ length (in_the_slot CoDriver ps) = refl in
    omega (arith, rest, first, other)
slot-places ((u, p, CoDriver) ∷ ps) =
    let rest = slot-places ps in
    let first : length (in_the_slot Driver ((u, p, CoDriver) ∷ ps)) ≡ length (in_the_slot Driver ps) = refl in
    let other : length (in_the_slot CoDriver ((u, p, CoDriver) ∷ ps)) ≡ length ((u, p, CoDriver) ∷ in_the_slot CoDriver ps) = refl in
    omega (arith, rest, first, other)

-- each card that was torn out had one
card-places : (told : List ToldSecond) → length (torn_of told) ≡ length (cards_torn told)
card-places [] = refl
card-places (t ∷ told) =
    let here : length (visit_places t.second.number t.course.torn) ≡ length t.course.torn = length-map t.course.torn (λ (v : Visit). (t.second.number, v.phase, v.slot)) in
    let card : length (map (λ (v : Visit). v.card) t.course.torn) ≡ length t.course.torn = length-map t.course.torn (λ (v : Visit). v.card) in
    let rest = card-places told in
    let one : length (torn_of (t ∷ told)) ≡ length (visit_places t.second.number t.course.torn) + length (torn_of told) = length-append (visit_places t.second.number t.course.torn) (torn_of told) in
    let two : length (cards_torn (t ∷ told)) ≡ length (map (λ (v : Visit). v.card) t.course.torn) + length (cards_torn told) = length-append (map (λ (v : Visit). v.card) t.course.torn) (cards_torn told) in
    omega (arith, here, card, rest, one, two)

-- and is the one card or the other
both-cards : (cs : List Card) → length cs ≡ length (filter (same_card A) cs) + length (filter (same_card B) cs)
both-cards [] = refl
both-cards (A ∷ cs) =
    let rest = both-cards cs in
    let first : length (filter (same_card A) (A ∷ cs)) ≡ length (A ∷ filter (same_card A) cs) = refl in
    let other : length (filter (same_card B) (A ∷ cs)) ≡ length (filter (same_card B) cs) = refl in
    omega (arith, rest, first, other)
both-cards (B ∷ cs) =
    let rest = both-cards cs in
    let first : length (filter (same_card A) (B ∷ cs)) ≡ length (filter (same_card A) cs) = refl in
    let other : length (filter (same_card B) (B ∷ cs)) ≡ length (B ∷ filter (same_card B) cs) = refl in
    omega (arith, rest, first, other)

-- so the tears that failed calls made are those of the one card and of the other
pub tears-of : (log : RunLog) (told : List ToldSecond) → ((slot : Slot) → in_the_slot slot (flat_map places (tears true log)) ≡ in_the_slot slot (torn_of told))
    → length (tears true log) ≡ length (filter (same_card A) (cards_torn told)) + length (filter (same_card B) (cards_torn told))
tears-of log told same =
    let lines = tear-places log log.breaks in
    let slots = slot-places (flat_map places (tears true log)) in
    let driver = ap (λ (ps : List (ℕ × Phase × Slot)). length ps) (same Driver) in
    let codriver = ap (λ (ps : List (ℕ × Phase × Slot)). length ps) (same CoDriver) in
    let torn = slot-places (torn_of told) in
    let cards = card-places told in
    let both = both-cards (cards_torn told) in
    omega (arith, lines, slots, driver, codriver, torn, cards, both)

-- EACH BREAKDOWN IS A BREAK THAT IS TOLD of its device
pub are-counted : (IsVerdict : Card → ℕ → Verdict → Type 0) (r : Recording) (old new : Devices) → HasCauses IsVerdict (breakdowns_of old) (breakdowns_of new) r.trace r.log → BreakdownsAreTold r.log old new → BreakdownsAreCounted r old new
are-counted IsVerdict r old new causes told = record {
  unit = λ low.
      let few = told.unit low in
      let many = rose-low (length (cuts true r.log)) old.unit.breakdowns new.unit.breakdowns causes.failed_cuts low in
      omega (arith, few, many);
  card = λ low_a low_b c. by low_a low_b c;
}
  where
    one : (c : Card) → new.card_a.breakdowns ≡ old.card_a.breakdowns + length (filter (same_card A) (cards_torn (told_of r))) → new.card_b.breakdowns ≡ old.card_b.breakdowns + length (filter (same_card B) (cards_torn (told_of r)))
        → (card_of new c).breakdowns ≡ (card_of old c).breakdowns + length (filter (same_card c) (cards_torn (told_of r)))
    one A a b = a
    one B a b = b

    by : new.card_a.breakdowns < last_count → new.card_b.breakdowns < last_count → (c : Card) → (card_of new c).breakdowns ≡ (card_of old c).breakdowns + length (filter (same_card c) (cards_torn (told_of r)))
    by low_a low_b c =
        let few = told.cards low_a low_b in
        let all = tears-of r.log (told_of r) causes.failed_tears in
        let many_a = rose-low (length (filter (same_card A) (cards_torn (told_of r)))) old.card_a.breakdowns new.card_a.breakdowns (causes.torn_cards A) low_a in
        let many_b = rose-low (length (filter (same_card B) (cards_torn (told_of r)))) old.card_b.breakdowns new.card_b.breakdowns (causes.torn_cards B) low_b in
        one c (omega (arith, few, all, many_a, many_b)) (omega (arith, few, all, many_a, many_b))
