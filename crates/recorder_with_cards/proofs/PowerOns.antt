-- The power-ons of a run: a second begins with one at most, and no call makes fewer of those that are told.
use Rattle.std.proofs.Common.{◌≡◌, ◌∙◌, ⊎_elim, ℕ, ◌+◌, ◌-◌, ◌≤◌, Bool, true, false, Option, Some, None, List, [], ◌∷◌, ◌++◌, length, refl, ap, sym, subst, arith}
use Rattle.std.specs.Prelude.{◌==◌, ◌%◌, min}
use Rattle.trace_model.specs.declared.Action.{Action}
use Rattle.trace_model.specs.declared.Item.{Item}
use Rattle.trace_model.specs.declared.Item.TheVariants.{Run as Driven, Off, Act}
use Rattle.log_model.specs.declared.lines.Break.{Break}
use Rattle.log_model.specs.declared.lines.SlotFault.{SlotFault}
use Rattle.log_model.specs.declared.lines.SlotFault.TheVariants.{NoPower}
use Rattle.device_calls.specs.run_unit_course.Lines.{found_from}
use Rattle.device_calls.proofs.run_unit_course.Offs.{by-found}
use Rattle.device_calls.specs.safety_model.Safe.{Devices}
use Rattle.run_outcome.specs.Broken.{failed_cuts}
use Rattle.run_outcome.specs.Lines.{Listed, cut_at}
use Rattle.run_outcome.specs.declared.outcome.Outcome.{Outcome}
use Rattle.run_outcome.proofs.Broken.{cuts-behind}
use Rattle.run_minutes.specs.Keeping.{with_lines}
use Rattle.run_minutes.specs.Writes.{WroteAtMost}
use Rattle.run_acts.specs.declared.run.Run.{Run}
use Rattle.run_acts.specs.Going.{largest_number}
use Rattle.run_acts.specs.Power.{is_lit, minute_over, off_cut}
use Rattle.run_acts.specs.Turning as turning
use Rattle.run_acts.specs.ByHand.{stopped_in}
use Rattle.run_acts.proofs.Uncut.{more-uncut, turn-uncut}
use Rattle.recorder_with_cards.specs.Acting.{moment_of, cut_where, cut_breaks, IsCarriedOut, IsActedBy, IsActed, IsItemActed, AreActed}
use Rattle.recorder_with_cards.specs.Noting.{EndsWaking, read_run, read_outcome, NotesPowerOn}
use Rattle.recorder_with_cards.specs.Writes.{power_ons_told, powered}
use Rattle.recorder_with_cards.proofs.SecondsCards.{over-lit}
use Rattle.recorder_with_cards.proofs.SpeedsSoFar.{GoesAwake, goes-awake}
use Rattle.recorder_with_cards.proofs.Staying.{StaysWatched, done-watched}
use Rattle.recorder_with_cards.proofs.Uncut.{done-uncut, off-uncut}
use Rattle.recorder_with_cards.proofs.Writes.{BeginsOnce}

-- ---- by the cuts that are told

-- they are as many as the cuts that failed calls made, or one more
pub told-least : (on : Bool) (breaks : List Break) → failed_cuts breaks ≤ power_ons_told on breaks
told-least true breaks = omega arith
told-least false breaks = omega arith

pub told-most : (on : Bool) (breaks : List Break) → power_ons_told on breaks ≤ failed_cuts breaks + 1
told-most true breaks = omega arith
told-most false breaks = omega arith

told-more : (on : Bool) (breaks later : List Break) → failed_cuts breaks ≤ failed_cuts later → power_ons_told on breaks ≤ power_ons_told on later
told-more true breaks later few = omega (arith, few)
told-more false breaks later few = omega (arith, few)

-- where the power is as it was, and no cut less is told, no power-on less is
same-power : (old new : Run) (before after : Outcome) → is_lit new.power ≡ is_lit old.power → failed_cuts before.breaks.items ≤ failed_cuts after.breaks.items → powered old before ≤ powered new after
same-power old new before after same few =
    subst (λ (on : Bool). powered old before ≤ power_ons_told on after.breaks.items) (sym same) (told-more (is_lit old.power) before.breaks.items after.breaks.items few)

same-run : (old new : Run) (before after : Outcome) → new ≡ old → after.breaks.items ≡ before.breaks.items → powered old before ≤ powered new after
same-run old new before after is same = same-power old new before after (ap (λ (r : Run). is_lit r.power) is) (let all = ap failed_cuts same in omega (arith, all))

-- a cut that a failed call made is one more, and so is told the power-on before it
one-cut : (second begun : ℕ) (breaks after : List Break) → after ≡ breaks ++ cut_at second true begun ∷ [] → failed_cuts after ≡ failed_cuts breaks + 1
one-cut second begun breaks after is =
    let one : failed_cuts (cut_at second true begun ∷ []) ≡ 1 = refl in
    let all = ap failed_cuts is ∙ cuts-behind breaks (cut_at second true begun ∷ []) in
    omega (arith, one, all)

power-cut : (old new : Run) (before after : Outcome) (second begun : ℕ) (breaks : List Break) → failed_cuts before.breaks.items ≤ failed_cuts breaks → after.breaks.items ≡ breaks ++ cut_at second true begun ∷ [] → powered old before ≤ powered new after
power-cut old new before after second begun breaks few is =
    let one = one-cut second begun breaks after.breaks.items is in
    let most = told-most (is_lit old.power) before.breaks.items in
    let least = told-least (is_lit new.power) after.breaks.items in
    omega (arith, few, one, most, least)

-- ---- A SECOND BEGINS

-- power comes: it goes on, or was lost at once
comes-lit : (old new : Run) (before out after : Outcome) → failed_cuts before.breaks.items ≤ failed_cuts out.breaks.items → is_lit new.power ≡ true → after ≡ out → failed_cuts before.breaks.items + 1 ≤ powered new after
comes-lit old new before out after few on is =
    let all = ap (λ (o : Outcome). failed_cuts o.breaks.items) is in
    let one = ap (λ (b : Bool). power_ons_told b after.breaks.items) on in
    omega (arith, few, all, one)

comes-cut : (woken new : Run) (before out after : Outcome) → failed_cuts before.breaks.items ≤ failed_cuts out.breaks.items → EndsWaking true woken new out after → failed_cuts before.breaks.items + 1 ≤ powered new after
comes-cut woken new before out after few ends =
    let one = one-cut woken.next 0 out.breaks.items after.breaks.items (ap (λ (o : Outcome). o.breaks.items) ends.1) in
    let least = told-least (is_lit new.power) after.breaks.items in
    omega (arith, few, one, least)

comes-found : (kept : ℕ) (failed : Bool) (old woken new : Run) (before out after : Outcome) → GoesAwake failed old.next woken (read_outcome kept old before) out → EndsWaking failed woken new out after → failed_cuts before.breaks.items + 1 ≤ powered new after
comes-found kept failed old woken new before out after goes ends = by failed goes ends
  where
    few : failed_cuts before.breaks.items ≤ failed_cuts out.breaks.items
    few =
        let found : List Break = found_from old.unfound kept before.breaks.items in
        let same : failed_cuts found ≡ failed_cuts before.breaks.items = ap (λ (us : List ℕ). length us) (by-found true old.unfound kept before.breaks.items) in
        let all = ap failed_cuts goes.more.1 ∙ cuts-behind found goes.more.0 in
        omega (arith, same, all)

    by : (f : Bool) → GoesAwake f old.next woken (read_outcome kept old before) out → EndsWaking f woken new out after → failed_cuts before.breaks.items + 1 ≤ powered new after
    by true g e = comes-cut woken new before out after few e
    by false g e = comes-lit old new before out after few (ap (λ (r : Run). is_lit r.power) e.0 ∙ ap is_lit (g.lit refl)) e.1

comes : (speed : ℕ) (old new : Run) (before after : Outcome) (d e : Devices) → NotesPowerOn speed old new before after d e → failed_cuts before.breaks.items + 1 ≤ powered new after
comes speed old new before after d e notes = ⊎_elim
    (λ found. let n = found.1 in comes-found found.0 n.failed old n.woken new before n.out after (goes-awake n.waking.reach found.0 speed n.failed (read_run old before) n.woken (read_outcome found.0 old before) n.out n.waking.events n.waking.are) n.ends)
    (λ unread. comes-cut old new before before after (omega arith) unread.ends)
    notes

-- none comes
begins-none : (was is : ℕ) (d e : Devices) → was ≤ is → WroteAtMost 0 0 d e → BeginsOnce was is d e
begins-none was is d e few none = record {
  times = 0;
  once = omega arith;
  told = omega (arith, few);
  most = record { unit = (let p = none.unit in omega (arith, p)); card_a = (let p = none.card_a in omega (arith, p)); card_b = (let p = none.card_b in omega (arith, p)) };
}

-- without power, with power that goes on, or with power that comes
pub begins-once : (speed : ℕ) (given : Bool) (old new : Run) (before after : Outcome) (d e : Devices) → WroteAtMost 94 2152 d e → (given ≡ false → (new ≡ old) × (after ≡ before) × WroteAtMost 0 0 d e)
    → (is_lit old.power ≡ true → (new ≡ minute_over old) × (after ≡ before) × WroteAtMost 0 0 d e) → (is_lit old.power ≡ false → given ≡ true → NotesPowerOn speed old new before after d e) → BeginsOnce (powered old before) (powered new after) d e
begins-once speed false old new before after d e most away lit dark =
    let is = away refl in
    begins-none (powered old before) (powered new after) d e (same-run old new before after is.0 (ap (λ (o : Outcome). o.breaks.items) is.1)) is.2
begins-once speed true old new before after d e most away lit dark = by (is_lit old.power) refl
  where
    by : (b : Bool) → is_lit old.power ≡ b → BeginsOnce (powered old before) (powered new after) d e
    by true on =
        let is = lit on in
        begins-none (powered old before) (powered new after) d e
        (same-power old new before after (ap (λ (r : Run). is_lit r.power) is.0 ∙ over-lit (old.next % 60 == 0) old) (let all = ap (λ (o : Outcome). failed_cuts o.breaks.items) is.1 in omega (arith, all)))
        is.2
    by false off = record {
      times = 1;
      once = omega arith;
      told =
          let none = ap (λ (b : Bool). power_ons_told b before.breaks.items) off in
          let one = comes speed old new before after d e (dark off refl) in
          omega (arith, none, one);
      most = record { unit = (let p = most.unit in omega (arith, p)); card_a = (let p = most.card_a in omega (arith, p)); card_b = (let p = most.card_b in omega (arith, p)) };
    }

-- a unit that was refused was refused at a power-on
pub refused-on : (old : Run) (before after : Outcome) → (is_lit old.power ≡ true → ⊥) → failed_cuts before.breaks.items ≤ failed_cuts after.breaks.items → powered old before + 1 ≤ power_ons_told true after.breaks.items
refused-on old before after off few = by (is_lit old.power) refl
  where
    by : (b : Bool) → is_lit old.power ≡ b → powered old before + 1 ≤ power_ons_told true after.breaks.items
    by true on = absurd (off on)
    by false none = let same = ap (λ (b : Bool). power_ons_told b before.breaks.items) none in omega (arith, same, few)

-- ---- ITS ACTIONS

carried-on : (action : Action) (begun speed : ℕ) (old new : Run) (before after : Outcome) → IsCarriedOut action begun speed old new before after → powered old before ≤ powered new after
carried-on action begun speed old new before after c = by c.failed c.run c.outcome
  where
    uncut : failed_cuts c.told.breaks.items ≡ failed_cuts before.breaks.items
    uncut = done-uncut action (moment_of begun old) speed c.failed old c.between before c.told c.done

    stays : StaysWatched old c.between
    stays = done-watched action (moment_of begun old) speed c.failed old c.between before c.told c.done

    by : (f : Bool) → new ≡ cut_where f c.between → after ≡ cut_breaks f c.between.next begun c.told → powered old before ≤ powered new after
    by false is told =
        same-power old new before after (ap (λ (r : Run). is_lit r.power) is ∙ ap is_lit stays.power) (let all = ap (λ (o : Outcome). failed_cuts o.breaks.items) told in omega (arith, all, uncut))
    by true is told = power-cut old new before after c.between.next begun c.told.breaks.items (omega (arith, uncut)) (ap (λ (o : Outcome). o.breaks.items) told)

by-on : (refusal : Option SlotFault) (action : Action) (begun speed : ℕ) (old new : Run) (before after : Outcome) → IsActedBy refusal action begun speed old new before after → powered old before ≤ powered new after
by-on None action begun speed old new before after is = carried-on action begun speed old new before after is
by-on (Some fault) action begun speed old new before after is = same-run old new before after is.0 (ap (λ (o : Outcome). o.breaks.items) is.1)

action-on : (has_power lit : Bool) (action : Action) (begun speed : ℕ) (old new : Run) (before after : Outcome) → IsActed has_power lit action begun speed old new before after → powered old before ≤ powered new after
action-on false lit action begun speed old new before after is = by-on (Some NoPower) action begun speed old new before after is
action-on true false action begun speed old new before after is = same-run old new before after is.0 (ap (λ (o : Outcome). o.breaks.items) is.1)
action-on true true action begun speed old new before after is = by-on (stopped_in old speed action) action begun speed old new before after is

item-on : (item : Item) (has_power lit : Bool) (begun speed : ℕ) (old new : Run) (before after : Outcome) → IsItemActed item has_power lit begun speed old new before after → powered old before ≤ powered new after
item-on (Driven seconds driven) has_power lit begun speed old new before after is = same-run old new before after is.0 (ap (λ (o : Outcome). o.breaks.items) is.1)
item-on (Off seconds) has_power lit begun speed old new before after is = same-run old new before after is.0 (ap (λ (o : Outcome). o.breaks.items) is.1)
item-on (Act action) has_power lit begun speed old new before after is = action-on has_power lit action begun speed old new before after is

pub acted-on : (has_power : Bool) (speed number : ℕ) (items : List Item) (old new : Run) (before after : Outcome) → AreActed has_power speed number items old new before after → powered old before ≤ powered new after
acted-on has_power speed number [] old new before after is = same-run old new before after is.0 (ap (λ (o : Outcome). o.breaks.items) is.1)
acted-on has_power speed number (item ∷ items) old new before after is =
    let first = item-on item has_power (is_lit old.power) (min (number + 1) largest_number) speed old is.0 before is.1 is.2 in
    let rest = acted-on has_power speed (number + 1) items is.0 new is.1 after is.3 in
    omega (arith, first, rest)

-- ---- SECONDS TURN OVER

pub turned-on : (lit : Bool) (n speed begun : ℕ) (old new : Run) (before after : Outcome) → turning.IsTurnOf lit n speed begun old new before after → powered old before ≤ powered new after
turned-on false n speed begun old new before after is = same-power old new before after (ap (λ (r : Run). is_lit r.power) is.0) (let all = ap (λ (o : Outcome). failed_cuts o.breaks.items) is.1 in omega (arith, all))
turned-on true n speed begun old new before after is = by is.1.failed is.1.run is.1.outcome
  where
    uncut : failed_cuts is.1.told.breaks.items ≡ failed_cuts before.breaks.items
    uncut = turn-uncut is.1.decided n speed (turning.late_moment old.next n begun) is.1.failed is.1.fed is.1.between before is.1.told is.1.kept

    power : is_lit is.1.between.power ≡ is_lit old.power
    power = ap (λ (r : Run). is_lit r.power) is.1.kept.only ∙ ap (λ (r : Run). is_lit r.power) is.1.only

    by : (f : Bool) → is.0 ≡ turning.cut_where f (old.next + n - 1) is.1.between → after ≡ turning.cut_breaks f (old.next + n - 1) begun is.1.told → powered old before ≤ powered new after
    by false run told =
        same-power old new before after (ap (λ (r : Run). is_lit r.power) is.2 ∙ ap (λ (r : Run). is_lit r.power) run ∙ power) (let all = ap (λ (o : Outcome). failed_cuts o.breaks.items) told in omega (arith, all, uncut))
    by true run told = power-cut old new before after (old.next + n - 1) begun is.1.told.breaks.items (omega (arith, uncut)) (ap (λ (o : Outcome). o.breaks.items) told)

-- ---- AN `off` LINE ends one

pub off-on : (old new : Run) (before : Outcome) (breaks : Listed Break) → breaks ≡ with_lines (off_cut (is_lit old.power) (old.next - 1) old.begun) before.breaks → powered old before ≤ 1 + powered new (record before { breaks = breaks })
off-on old new before breaks is =
    let lines : List Break = off_cut (is_lit old.power) (old.next - 1) old.begun in
    let same = ap (λ (l : Listed Break). failed_cuts l.items) is ∙ more-uncut before.breaks.items lines (off-uncut (is_lit old.power) (old.next - 1) old.begun) in
    let most = told-most (is_lit old.power) before.breaks.items in
    let least = told-least (is_lit new.power) breaks.items in
    omega (arith, same, most, least)
