use Rattle.std.proofs.Common.{◌≡◌, ◌∙◌, ◌+◌, ◌*◌, ℕ, List, cond, get_or, sym, ap, subst, arith}
use Rattle.std.specs.List.{range_with_len}
use Rattle.gated_ring.specs.Ring.{Shape, entry_at}
use Rattle.unit_messages.specs.Chosen.{shape_of, is_meant}
use Rattle.unit_messages.specs.declared.entries.Entries.{Entries}
use Rattle.unit_messages.specs.Counts.{entries_on, AreFew, CountsEach}
use Rattle.unit_messages.proofs.Dating.{each_more, entry_there, few_less, shape_same}
use Rattle.unit_messages.proofs.Passing.{entry_inside}
use Rattle.unit_messages.proofs.outline.counts.add_block.Goals as goal

pub loop-turn-init : goal.loop-turn-init
loop-turn-init c = record {
  whole = c.requires.whole;
  few = λ n few. few_less n (n + 0) c.args.counts.now (omega arith) few;
  added = λ x index read was.
      let none : index ≡ index + 0 = omega arith in
      subst (λ (n : ℕ). CountsEach c.args.kind c.args.first x (range_with_len 0 n) c.args.counts.now) none was;
}

pub entry_in-entry-requires-clause-inside : goal.entry_in-entry-requires-clause-inside
entry_in-entry-requires-clause-inside c =
    let width = ap (λ (e : Entries). e.width) c.entries_on-entries.ensures.is in
    let inside = entry_inside (entries_on c.args.kind 0).width c.loop-turn.turn c.args.count (omega arith) in
    rw width (omega (arith, inside, c.requires.block))

pub add_entry-requires-clause-wide : goal.add_entry-requires-clause-wide
add_entry-requires-clause-wide c = c.entry_in-entry.ensures.whole ∙ ap (λ (e : Entries). e.width) c.entries_on-entries.ensures.is

pub add_entry-requires-clause-few : goal.add_entry-requires-clause-few
add_entry-requires-clause-few c =
    let n = c.requires.few.0 in
    few_less (n + c.loop-turn.turn) 2048 c.loop-turn.counts (omega (arith, c.requires.few.2)) (c.loop-turn.invariant.few n c.requires.few.1)

pub loop-turn-preserved : goal.loop-turn-preserved
loop-turn-preserved c =
    let v = c.loop-turn.invariant in
    let t : ℕ = c.loop-turn.turn in
    let e = entries_on c.args.kind 0 in
    let entry = c.entry_in-entry.result.now in
    record {
      whole = c.add_entry.auto.counts ∙ v.whole;
      few = λ n few.
          let more : n + t + 1 ≡ n + (t + 1) = omega arith in
          subst (λ (m : ℕ). AreFew m c.add_entry.new.counts) more (c.add_entry.ensures.few (n + t) (v.few n few));
      added = λ x index read was.
          let there : entry ≡ entry_at (shape_of e) x (index + t) = entry_there e x c.args.block.now entry index t c.args.count (omega arith) read (rw c.entries_on-entries.ensures.is at c.entry_in-entry.ensures.bytes) in
          let more : index + t + 1 ≡ index + (t + 1) = omega arith in
          subst (λ (n : ℕ). CountsEach c.args.kind c.args.first x (range_with_len 0 n) c.add_entry.new.counts) more
          (each_more c.args.kind c.args.first x c.loop-turn.counts c.add_entry.new.counts (index + t) (v.added x index read was) (λ i lt.
          let f = entries_on c.args.kind (c.args.first + 86400 * i) in
          let here : entry ≡ entry_at (shape_of f) x (index + t) = there ∙ ap (λ (r : Shape). entry_at r x (index + t)) (sym (shape_same c.args.kind (c.args.first + 86400 * i))) in
          c.add_entry.ensures.added i lt ∙ ap (λ (l : List ℕ). get_or c.loop-turn.counts i 0 + cond (is_meant f l) 1 0) here));
    }

-- all of them are counted
pub returns-clause-added : goal.returns-clause-added
returns-clause-added c = λ x index read was.
    let end : c.loop-turn.turn ≡ c.args.count = omega arith in
    subst (λ (n : ℕ). CountsEach c.args.kind c.args.first x (range_with_len 0 (index + n)) c.loop-turn.counts) end (c.loop-turn.invariant.added x index read was)

pub returns-clause-few : goal.returns-clause-few
returns-clause-few c = λ n few.
    let end : c.loop-turn.turn ≡ c.args.count = omega arith in
    subst (λ (t : ℕ). AreFew (n + t) c.loop-turn.counts) end (c.loop-turn.invariant.few n few)
