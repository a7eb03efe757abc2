-- Writes of power-ons, turns and actions, one after another, and those of a whole trace.
use Rattle.std.proofs.Common.{◌≡◌, ◌∙◌, ℕ, ◌+◌, ◌-◌, ◌*◌, ◌≤◌, true, Some, List, length, take, drop, ap, arith}
use Rattle.std.specs.List.{slice_get}
use Rattle.std.proofs.lemmas.List.{length-map}
use Rattle.std.proofs.lemmas.List.Sums.{sum_by_push, sum_by-take-drop}
use Rattle.trace_model.specs.declared.Item.{Item}
use Rattle.trace_model.specs.Trace.{total_seconds, number_after}
use Rattle.device_calls.specs.safety_model.Safe.{Devices}
use Rattle.log_model.specs.Causes.{cuts, second_of}
use Rattle.run_outcome.specs.Broken.{failed_cuts}
use Rattle.run_outcome.specs.Room.{offs, off_count}
use Rattle.run_outcome.specs.declared.outcome.Outcome.{Outcome}
use Rattle.run_minutes.specs.Writes.{WroteAtMost}
use Rattle.run_acts.specs.Recording.{log_of}
use Rattle.recorder_with_cards.specs.Gone.{first_waiting}
use Rattle.recorder_with_cards.specs.Recorded.{actions_in}
use Rattle.recorder_with_cards.specs.Writes.{WritesFor, WritesBetween, WritesIn, turns_of, turns_at, acts_at, power_ons, unit_writes, card_writes}
use Rattle.recorder_with_cards.proofs.Turns.{turns-more, turns-within, turns-few}
use Rattle.recorder_with_cards.proofs.Waiting.{Waits, acts-more, acts-within, most-actions, taken-more}

pub writes-none : (s n : ℕ) (d : Devices) → WritesFor s n d d
writes-none s n d = record { unit = omega arith; card_a = omega arith; card_b = omega arith }

pub writes-then : (s t m n : ℕ) (d e f : Devices) → WritesFor s m d e → WritesFor t n e f → WritesFor (s + t) (m + n) d f
writes-then s t m n d e f first next = record {
  unit = (let a = first.unit in let b = next.unit in omega (arith, a, b));
  card_a = (let a = first.card_a in let b = next.card_a in omega (arith, a, b));
  card_b = (let a = first.card_b in let b = next.card_b in omega (arith, a, b));
}

pub writes-more : (s t m n : ℕ) (d e : Devices) → s ≤ t → m ≤ n → WritesFor s m d e → WritesFor t n d e
writes-more s t m n d e seconds actions h = record {
  unit = (let a = h.unit in omega (arith, a, seconds, actions));
  card_a = (let a = h.card_a in omega (arith, a, seconds, actions));
  card_b = (let a = h.card_b in omega (arith, a, seconds, actions));
}

-- an action
pub writes-act : (d e : Devices) → WroteAtMost 102 1366 d e → WritesFor 0 1 d e
writes-act d e h = record {
  unit = (let a = h.unit in omega (arith, a));
  card_a = (let a = h.card_a in omega (arith, a));
  card_b = (let a = h.card_b in omega (arith, a));
}

-- ---- with power-ons, between two moments

pub between-none : (t n was is : ℕ) (d : Devices) → was ≤ is → WritesBetween t n was is d d
between-none t n was is d le = record { power_ons = 0; one_each = omega arith; told = omega (arith, le); most = record { unit = omega arith; card_a = omega arith; card_b = omega arith } }

pub between-then : (s t m n a b x c : ℕ) (d e f : Devices) → b ≤ x → WritesBetween s m a b d e → WritesBetween t n x c e f → WritesBetween (s + t) (m + n) a c d f
between-then s t m n a b x c d e f on first next = record {
  power_ons = first.power_ons + next.power_ons;
  one_each = (let p = first.one_each in let q = next.one_each in omega (arith, p, q));
  told = (let p = first.told in let q = next.told in omega (arith, p, q, on));
  most = record {
    unit = (let p = first.most.unit in let q = next.most.unit in omega (arith, p, q));
    card_a = (let p = first.most.card_a in let q = next.most.card_a in omega (arith, p, q));
    card_b = (let p = first.most.card_b in let q = next.most.card_b in omega (arith, p, q));
  };
}

-- so it is of more turns and actions, and between other counts of power-ons that are as far from each other
pub between-more : (s t m n a b c z : ℕ) (d e : Devices) → s ≤ t → m ≤ n → a + c ≤ b + z → WritesBetween s m b c d e → WritesBetween t n a z d e
between-more s t m n a b c z d e turns actions far h = record {
  power_ons = h.power_ons;
  one_each = (let p = h.one_each in omega (arith, p, turns));
  told = (let p = h.told in omega (arith, p, far));
  most = record {
    unit = (let p = h.most.unit in omega (arith, p, turns, actions));
    card_a = (let p = h.most.card_a in omega (arith, p, turns, actions));
    card_b = (let p = h.most.card_b in omega (arith, p, turns, actions));
  };
}

-- a second begins, with a power-on or with none
pub record BeginsOnce (was is : ℕ) (old new : Devices) : Type 0 where
  pub times : ℕ
  pub once : times ≤ 1
  pub told : was + times ≤ is
  pub most : WroteAtMost (94 * times) (2152 * times) old new

-- the unit was refused at its power-on
pub between-refused : (t n was is : ℕ) (d e : Devices) → 1 ≤ t → was + 1 ≤ is → WroteAtMost 94 2152 d e → WritesBetween t n was is d e
between-refused t n was is d e some told h = record {
  power_ons = 1;
  one_each = omega (arith, some);
  told = omega (arith, told);
  most = record {
    unit = (let p = h.unit in omega (arith, p));
    card_a = (let p = h.card_a in omega (arith, p));
    card_b = (let p = h.card_b in omega (arith, p));
  };
}

-- or turns over, without actions
pub between-turn : (a b c z : ℕ) (d e f : Devices) → b ≤ c → c ≤ z → BeginsOnce a b d e → WroteAtMost 93 294 e f → WritesBetween 1 0 a z d f
between-turn a b c z d e f on last begun turned = record {
  power_ons = begun.times;
  one_each = (let p = begun.once in omega (arith, p));
  told = (let p = begun.told in omega (arith, p, on, last));
  most = record {
    unit = (let p = begun.most.unit in let q = turned.unit in omega (arith, p, q));
    card_a = (let p = begun.most.card_a in let q = turned.card_a in omega (arith, p, q));
    card_b = (let p = begun.most.card_b in let q = turned.card_b in omega (arith, p, q));
  };
}

-- with actions between, and more turns behind them
pub between-driven : (s t n a b x z : ℕ) (d e f g h : Devices) → s ≡ 1 + t → b ≤ x → BeginsOnce a b d e → WritesFor 0 n e f → WroteAtMost 93 294 f g → WritesBetween t 0 x z g h → WritesBetween s n a z d h
between-driven s t n a b x z d e f g h all on begun acts turned rest = record {
  power_ons = begun.times + rest.power_ons;
  one_each = (let p = begun.once in let q = rest.one_each in omega (arith, p, q, all));
  told = (let p = begun.told in let q = rest.told in omega (arith, p, q, on));
  most = record {
    unit = (let p = begun.most.unit in let q = acts.unit in let k = turned.unit in let l = rest.most.unit in omega (arith, p, q, k, l, all));
    card_a = (let p = begun.most.card_a in let q = acts.card_a in let k = turned.card_a in let l = rest.most.card_a in omega (arith, p, q, k, l, all));
    card_b = (let p = begun.most.card_b in let q = acts.card_b in let k = turned.card_b in let l = rest.most.card_b in omega (arith, p, q, k, l, all));
  };
}

-- ---- the writes of a trace, item by item

offs-more : (items : List Item) (i : ℕ) (item : Item) → slice_get items i ≡ Some item → offs (take (i + 1) items) ≡ offs (take i items) + off_count item
offs-more items i item here = ap offs (taken-more items i item here) ∙ sum_by_push off_count (take i items) item

-- one item more: its turns, its `off` line, and the actions that waited for its first second
pub between-item : (start : ℕ) (items : List Item) (i first next : ℕ) (item : Item) (w z : ℕ) (d e f : Devices) → slice_get items i ≡ Some item → number_after start (take i items) ≡ next → first ≤ i → Waits items first i
    → WritesBetween (turns_of start (take i items)) (length (actions_in (take first items))) 0 (offs (take i items) + w) d e → WritesBetween (turns_at next item) (acts_at (i - first) item) w (off_count item + z) e f
    → WritesBetween (turns_of start (take (i + 1) items)) (length (actions_in (take (first_waiting item first i) items))) 0 (offs (take (i + 1) items) + z) d f
between-item start items i first next item w z d e f here at le waits was more =
    let turns = turns-more start items i item next here at in
    let acts = acts-more items i first item here le waits in
    let lines = offs-more items i item here in
    let o : ℕ = offs (take i items) in
    between-more (turns_of start (take i items) + turns_at next item) (turns_of start (take (i + 1) items)) (length (actions_in (take first items)) + acts_at (i - first) item) (length (actions_in (take (first_waiting item first i) items))) 0 0 (o + (off_count item + z)) (offs (take (i + 1) items) + z) d f
    (omega (arith, turns)) acts (omega (arith, lines))
    (between-then (turns_of start (take i items)) (turns_at next item) (length (actions_in (take first items))) (acts_at (i - first) item) 0 (o + w) (o + w) (o + (off_count item + z)) d e f (omega arith) was
    (between-more (turns_at next item) (turns_at next item) (acts_at (i - first) item) (acts_at (i - first) item) (o + w) w (off_count item + z) (o + (off_count item + z)) e f (omega arith) (omega arith) (omega arith) more))

-- what is no more than either is no more than the power-ons of a trace
few-power_ons : (start : ℕ) (items : List Item) (failed n : ℕ) → n ≤ turns_of start items → n ≤ 1 + offs items + failed → n ≤ power_ons start items failed
unfolding power_ons
few-power_ons start items failed n turns told = omega (arith, turns, told)

-- those of the items so far are of all
pub between-within : (start : ℕ) (items : List Item) (i first z : ℕ) (out : Outcome) (d e : Devices) → z ≤ offs (take i items) + (failed_cuts out.breaks.items + 1) → WritesBetween (turns_of start (take i items)) (length (actions_in (take first items))) 0 z d e
    → WritesIn start items (length (cuts true (log_of out))) d e
between-within start items i first z out d e few h =
    let failed : ℕ = length (cuts true (log_of out)) in
    let turns = turns-within start items i in
    let acts = acts-within items first in
    let lines : offs (take i items) + offs (drop i items) ≡ offs items = sum_by-take-drop off_count items i in
    let told : failed_cuts out.breaks.items ≡ failed = length-map (cuts true (log_of out)) second_of in
    let each = h.one_each in
    let by_log = h.told in
    let on : h.power_ons ≤ power_ons start items failed = few-power_ons start items failed h.power_ons (omega (arith, each, turns)) (omega (arith, by_log, few, lines, told)) in
    record {
      unit = (let p = h.most.unit in omega (arith, p, turns, acts, on));
      card_a = (let p = h.most.card_a in omega (arith, p, turns, acts, on));
      card_b = (let p = h.most.card_b in omega (arith, p, turns, acts, on));
    }

-- ---- no more power-ons than turns, no more turns than seconds, and no more actions than items

pub power_ons-few : (start : ℕ) (items : List Item) (failed : ℕ) → power_ons start items failed ≤ turns_of start items
unfolding power_ons
power_ons-few start items failed = omega arith

pub writes-few : (start : ℕ) (items : List Item) (failed : ℕ) → (unit_writes start items failed ≤ 187 * total_seconds items + 102 * length items) × (card_writes start items failed ≤ 2446 * total_seconds items + 1366 * length items)
writes-few start items failed =
    let on = power_ons-few start items failed in
    let turns = turns-few start items in
    let acts = most-actions items in (omega (arith, on, turns, acts), omega (arith, on, turns, acts))
