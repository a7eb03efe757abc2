use Rattle.std.proofs.lemmas.Grind.{common_steps}
use Rattle.std.proofs.Common.{◌≡◌, ◌∙◌, ℕ, ◌+◌, ◌≤◌, false, true, not, Some, IfSome, List, length, refl, sym, ap, arith, rules}
use Rattle.std.specs.Prelude.{◌==◌}
use Rattle.tach_media.specs.Medium.{State}
use Rattle.tach_media.specs.Plan.{put_all}
use Rattle.tach_media.proofs.Runs.{at_image, if_told, told_too, where_told, turned_into, settled_now, alters_failed, cause_after, from_reads}
use Rattle.std.specs.Prelude.{is_err}
use Rattle.gated_ring.specs.declared.room.Room.{Room}
use Rattle.gated_ring.specs.Ring.{Shape, PointsInside, IsAtPointer, pointer, is_there, gate_of, number_at, taken, size_of}
use Rattle.gated_ring.specs.Change.{IsAdded}
use Rattle.gated_ring.specs.Plans.{placing_pieces}
use Rattle.gated_ring.proofs.Behind.{behind-points, behind-taken, behind-at}
use Rattle.gated_ring.proofs.Planned.{placing_some, add_writes, add_moments, add_end}
use Rattle.gated_ring.proofs.ring.Ring.add_behind.Given.{Over}
use Rattle.gated_ring.proofs.ring.Ring.add_behind.Goals.{In_ok-gate}
use Rattle.gated_ring.proofs.ring.Ring.add_behind.Goals as goal

-- ---- the room that is known

module _ (g : Over) (c : In_ok-gate g) where
  abbrev old : State
  old = g.M.Medium.state c.args.medium.now

  abbrev r : Shape
  r = c.args.self.now

  abbrev room : Room
  room = record { last = c.args.last; index = c.next-index.result; used = not (c.in_ok-gate.gate == 0) }

  known : (x : List ℕ) → old.image ≡ Some x → IsAtPointer r c.args.last x
  known x was = at_image (IsAtPointer r c.args.last) was c.requires.known

  points : (x : List ℕ) → old.image ≡ Some x → PointsInside r x
  points x was = behind-points r c.args.last x c.requires.last (known x was)

  last : IfSome old.image (λ x. PointsInside r x → room.last ≡ pointer r x)
  last = if_told old.image (λ x. PointsInside r x → room.last ≡ pointer r x) (λ x was inside. sym (known x was).pointer_is)

  index : IfSome old.image (λ x. PointsInside r x → room.index ≡ taken r x)
  index = if_told old.image (λ x. PointsInside r x → room.index ≡ taken r x) (λ x was inside. c.next-index.ensures.next ∙ sym (behind-taken r c.args.last x (known x was)))

  used : IfSome old.image (λ x. room.used ≡ is_there r x room.index)
  used = if_told old.image (λ x. room.used ≡ is_there r x room.index) (λ x was. ap (λ (n : ℕ). not (n == 0)) (at_image (λ x. c.in_ok-gate.gate ≡ number_at x (gate_of r room.index) 4) was c.in_ok-gate.ensures.value))

  sized : (x : List ℕ) → old.image ≡ Some x → r.base + size_of r ≤ length x
  sized x was = let q = c.requires in omega (arith, q.fits, (g.met.M.Medium.coherent c.args.medium.now).sized x was)

-- ---- the writes failed

pub returns-in_err-place-clause-alters : goal.returns-in_err-place-clause-alters
returns-in_err-place-clause-alters g c =
    let failed : is_err c.from_residual-in_err-place.result ≡ true = search rules in
    alters_failed c.from_residual-in_err-place.result failed
    (let i = (goal.at.returns-in_err-place-clause-alters g c).In_ok-gate in
    let q = c.requires in
    add_moments c.args.self.now c.args.head.now (room g i) _ _ _ c.in_ok-gate.ensures.reads (last g i) (index g i) (used g i) true c.in_err-place.ensures.puts
    c.in_ok-gate.ensures.shape q.pointer (sized g i) c.next-index.ensures.below q.head.gate q.head.width q.head.opens)
    (cause_after c.in_ok-gate.ensures.reads.cause c.in_err-place.ensures.puts.cause)
    (let i = (goal.at.returns-in_err-place-clause-alters g c).In_ok-gate in
    omega (arith, c.in_err-place.ensures.puts.clock, c.in_ok-gate.ensures.reads.clock, (placing_some c.args.self.now (room g i) c.args.head.now).1))

pub returns-in_err-place-clause-writes : goal.returns-in_err-place-clause-writes
returns-in_err-place-clause-writes g c =
    let i = (goal.at.returns-in_err-place-clause-writes g c).In_ok-gate in
    if_told (g.M.Medium.state c.args.medium.now).image _ (λ x was.
    add_writes c.args.self.now c.args.head.now (room g i) _ _ _ c.in_ok-gate.ensures.reads (last g i) (index g i) (used g i) true c.in_err-place.ensures.puts x was (points g i x was))

-- ---- they did not

pub returns-clause-alters : goal.returns-clause-alters
returns-clause-alters g c = record {
  done =
      let i = (goal.at.returns-clause-alters g c).In_ok-gate in
      let q = c.requires in
      let e = c.in_ok-gate.ensures in
      let r = c.args.self.now in
      let head = c.args.head.now in
      let old = g.M.Medium.state c.args.medium.now in
      let new = g.M.Medium.state c.place.new.medium in
      where_told old.image new.image (IsAdded r head) (λ x y was is.
      add_end r head (room g i) old (g.M.Medium.state c.gate.new.medium) new e.reads (last g i) (index g i) (used g i) false c.in_ok-place.ensures.puts
      e.shape q.pointer (sized g i) c.next-index.ensures.below q.head.gate q.head.width q.head.opens x y was
      (turned_into (put_all (placing_pieces r (room g i) head)) (c.in_ok-place.ensures.puts.written refl) (e.reads.same refl ∙ was) is));
  moments =
      let i = (goal.at.returns-clause-alters g c).In_ok-gate in
      let q = c.requires in
      add_moments c.args.self.now c.args.head.now (room g i) _ _ _ c.in_ok-gate.ensures.reads (last g i) (index g i) (used g i) false c.in_ok-place.ensures.puts
      c.in_ok-gate.ensures.shape q.pointer (sized g i) c.next-index.ensures.below q.head.gate q.head.width q.head.opens;
  settled =
      let i = (goal.at.returns-clause-alters g c).In_ok-gate in
      settled_now c.in_ok-place.ensures.puts refl (placing_some c.args.self.now (room g i) c.args.head.now).0;
  cause = first_of (search rules, grind (arith, common_steps));
  most =
      let i = (goal.at.returns-clause-alters g c).In_ok-gate in
      omega (arith, c.in_ok-place.ensures.puts.clock, c.in_ok-gate.ensures.reads.clock, (placing_some c.args.self.now (room g i) c.args.head.now).1);
}

pub returns-clause-took : goal.returns-clause-took
returns-clause-took g c = record {
  is = first_of (search rules, grind (arith, common_steps));
  below = first_of (search rules, grind (arith, common_steps));
  newest =
      let i = (goal.at.returns-clause-took g c).In_ok-gate in
      let q = c.requires in
      let e = c.in_ok-gate.ensures in
      let r = c.args.self.now in
      let head = c.args.head.now in
      let old = g.M.Medium.state c.args.medium.now in
      let new = g.M.Medium.state c.place.new.medium in
      if_told new.image (IsAtPointer r c.next-index.result) (λ y is.
      let m = told_too new.image (g.M.Medium.state c.gate.new.medium).image y c.in_ok-place.ensures.puts.leaves.tells is in
      let was : old.image ≡ Some m.0 = sym (e.reads.same refl) ∙ m.1 in
      behind-at r head c.args.last c.next-index.result m.0 y (points g i m.0 was) c.next-index.ensures.next (known g i m.0 was)
      (add_end r head (room g i) old (g.M.Medium.state c.gate.new.medium) new e.reads (last g i) (index g i) (used g i) false c.in_ok-place.ensures.puts
      e.shape q.pointer (sized g i) c.next-index.ensures.below q.head.gate q.head.width q.head.opens m.0 y was
      (turned_into (put_all (placing_pieces r (room g i) head)) (c.in_ok-place.ensures.puts.written refl) m.1 is)));
}

pub returns-clause-clock : goal.returns-clause-clock
returns-clause-clock g c =
    let i = (goal.at.returns-clause-clock g c).In_ok-gate in
    omega (arith, c.in_ok-place.ensures.puts.begun refl, c.in_ok-gate.ensures.reads.clock, (placing_some c.args.self.now (room g i) c.args.head.now).0)

pub returns-clause-writes : goal.returns-clause-writes
returns-clause-writes g c =
    let i = (goal.at.returns-clause-writes g c).In_ok-gate in
    if_told (g.M.Medium.state c.args.medium.now).image _ (λ x was.
    add_writes c.args.self.now c.args.head.now (room g i) _ _ _ c.in_ok-gate.ensures.reads (last g i) (index g i) (used g i) false c.in_ok-place.ensures.puts x was (points g i x was))

pub returns-in_err-gate-clause-alters : goal.returns-in_err-gate-clause-alters
returns-in_err-gate-clause-alters g c =
    let failed : is_err c.from_residual.result ≡ true = search rules in
    alters_failed c.from_residual.result failed (from_reads c.in_err-gate.ensures.reads.leaves) c.in_err-gate.ensures.reads.cause (omega (arith, c.in_err-gate.ensures.reads.clock))
