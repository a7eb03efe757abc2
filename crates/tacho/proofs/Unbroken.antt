-- Where no device broke down, the log has no failed cut and no failed tear.
use Rattle.std.proofs.Common.{◌≡◌, ◌∙◌, ◌⊎◌, ⊎_elim, ◌<◌, ◌^◌, ◌-◌, ◌++◌, ℕ, true, false, List, [], ◌∷◌, length, filter, map, flat_map, refl, ap, arith, inl, inr}
use Rattle.activity_codec.specs.declared.values.Slot.{Slot}
use Rattle.activity_codec.specs.declared.values.Slot.TheVariants.{Driver, CoDriver}
use Rattle.trace_model.specs.declared.Card.{Card}
use Rattle.trace_model.specs.declared.Card.TheVariants.{A, B}
use Rattle.trace_model.specs.Trace.{TraceSecond}
use Rattle.tach_media.specs.Medium.{State, Rose, HasBroken, last_count}
use Rattle.run_model.specs.declared.Device.{Device}
use Rattle.run_model.specs.declared.Device.TheVariants.{Unit as Recorder}
use Rattle.log_model.specs.declared.lines.Break.{Break}
use Rattle.log_model.specs.declared.lines.Break.TheVariants.{Cut, Tear}
use Rattle.log_model.specs.declared.lines.Verdict.{Verdict}
use Rattle.log_model.specs.Log.{RunLog, Phase}
use Rattle.log_model.specs.Slots.{same_card}
use Rattle.log_model.specs.Course.{ToldSecond, Visit, went}
use Rattle.log_model.specs.Causes.{HasCauses, RoseBy, cuts, tears, places, visit_places, in_the_slot, torn_of, cards_torn, device_of}

-- a count that did not rise rose by none
risen-none : (n before now : ℕ) → before < 2 ^ 64 - 1 → now ≡ before → RoseBy n before now → n ≡ 0
risen-none n before now low same (inl rose) = omega (arith, low, same, rose)
risen-none n before now low same (inr last) = absurd (omega (arith, low, same, last))

none-long : {X : Type 0} (xs : List X) → length xs ≡ 0 → xs ≡ []
none-long [] none = refl
none-long (x ∷ xs) none = absurd (let e : length (x ∷ xs) ≡ 0 = none in omega (arith, e))

-- none of card a and none of card b is none
no-cards : (cards : List Card) → filter (same_card A) cards ≡ [] → filter (same_card B) cards ≡ [] → cards ≡ []
no-cards [] a b = refl
no-cards (A ∷ cards) a b = absurd (cc)
no-cards (B ∷ cards) a b = absurd (cc)

both-empty : {X : Type 0} (xs ys : List X) → xs ++ ys ≡ [] → (xs ≡ []) × (ys ≡ [])
both-empty [] ys is = (refl, is)
both-empty (x ∷ xs) ys is = absurd (let e : x ∷ (xs ++ ys) ≡ [] = is in cc)

no-visits : (vs : List Visit) → map (λ v. v.card) vs ≡ [] → vs ≡ []
no-visits [] is = refl
no-visits (v ∷ vs) is = absurd (let e : v.card ∷ map (λ w. w.card) vs ≡ [] = is in cc)

-- so no place is told of a card that was torn out
none-torn : (told : List ToldSecond) → cards_torn told ≡ [] → torn_of told ≡ []
none-torn [] is = refl
none-torn (t ∷ told) is =
    let parts = both-empty (map (λ v. v.card) t.course.torn) (cards_torn told) is in
    let here = ap (visit_places t.second.number) (no-visits t.course.torn parts.0) in
    ap (λ (xs : List (ℕ × Phase × Slot)). xs ++ torn_of told) here ∙ none-torn told parts.1

-- what stands in no slot is nothing
pub no-places : (ps : List (ℕ × Phase × Slot)) → in_the_slot Driver ps ≡ [] → in_the_slot CoDriver ps ≡ [] → ps ≡ []
no-places [] driver codriver = refl
no-places ((u, p, Driver) ∷ ps) driver codriver = absurd (let e : (u, p, Driver) ∷ in_the_slot Driver ps ≡ [] = driver in cc)
no-places ((u, p, CoDriver) ∷ ps) driver codriver = absurd (let e : (u, p, CoDriver) ∷ in_the_slot CoDriver ps ≡ [] = codriver in cc)

-- and a failed tear has a place
pub no-tears : (log : RunLog) (bs : List Break) → flat_map places (tears true (record log { breaks = bs })) ≡ [] → tears true (record log { breaks = bs }) ≡ []
no-tears log [] none = refl
no-tears log (Cut second kept failed begun ∷ bs) none = no-tears log bs none
no-tears log (Tear second slot true begun late ∷ bs) none = absurd (let e : places (Tear second slot true begun late) ++ flat_map places (tears true (record log { breaks = bs })) ≡ [] = none in let f = (both-empty (places (Tear second slot true begun late)) (flat_map places (tears true (record log { breaks = bs }))) e).0 in cc)
no-tears log (Tear second slot false begun late ∷ bs) none = no-tears log bs none

-- a unit on which no call failed told no failed cut
pub cut-none : (old new : State) (log : RunLog) → Rose old.faults new.faults ⊎ (new.breakdowns ≡ old.breakdowns) → HasBroken old new (length (cuts true log)) → (Rose old.faults new.faults → ⊥) → old.breakdowns < last_count → cuts true log ≡ []
cut-none old new log unbroken broke sound low =
    let same : new.breakdowns ≡ old.breakdowns = ⊎_elim (λ rose. absurd (sound rose)) (λ is. is) unbroken in
    let few = broke.breakdowns in
    none-long (cuts true log) (omega (arith, same, few, low))

-- and a card that has not broken down was not torn out
pub torn-none : (IsVerdict : Card → ℕ → Verdict → Type 0) (before now : Device → ℕ) (ss : List TraceSecond) (log : RunLog) (card : Card) → before (device_of card) < 2 ^ 64 - 1 → now (device_of card) ≡ before (device_of card)
    → HasCauses IsVerdict before now ss log → filter (same_card card) (cards_torn (went log ss).told) ≡ []
torn-none IsVerdict before now ss log card low same c =
    none-long (filter (same_card card) (cards_torn (went log ss).told)) (risen-none (length (filter (same_card card) (cards_torn (went log ss).told))) (before (device_of card)) (now (device_of card)) low same (c.torn_cards card))

-- NO BREAKDOWN, SO NO FAILED BREAK
pub none-failed : (IsVerdict : Card → ℕ → Verdict → Type 0) (before now : Device → ℕ) (ss : List TraceSecond) (log : RunLog) → ((device : Device) → before device < 2 ^ 64 - 1) → ((device : Device) → now device ≡ before device)
    → HasCauses IsVerdict before now ss log → (cuts true log ≡ []) × (tears true log ≡ [])
none-failed IsVerdict before now ss log low same c = (
  none-long (cuts true log) (risen-none (length (cuts true log)) (before Recorder) (now Recorder) (low Recorder) (same Recorder) c.failed_cuts),
  no-tears log log.breaks (no-places (flat_map places (tears true log)) (c.failed_tears Driver ∙ ap (in_the_slot Driver) none) (c.failed_tears CoDriver ∙ ap (in_the_slot CoDriver) none)),
)
  where
    of : (card : Card) → filter (same_card card) (cards_torn (went log ss).told) ≡ []
    of card = torn-none IsVerdict before now ss log card (low (device_of card)) (same (device_of card)) c

    none : torn_of (went log ss).told ≡ []
    none = none-torn (went log ss).told (no-cards (cards_torn (went log ss).told) (of A) (of B))

-- a log without breaks has none
pub unbroken-log : (log : RunLog) → log.breaks ≡ [] → (cuts true log ≡ []) × (tears true log ≡ [])
unbroken-log log none = (ap (λ (bs : List Break). cuts true (record log { breaks = bs })) none, ap (λ (bs : List Break). tears true (record log { breaks = bs })) none)
