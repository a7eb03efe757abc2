use Rattle.std.proofs.lemmas.Grind.{common_steps}
use Rattle.std.proofs.Common.{rules, ◌≡◌, Bool, true, false, refl, sym, ◌∙◌, subst, arith}
use Rattle.std.specs.Prelude.{is_err}
use Rattle.tach_media.proofs.Runs.{if_told, where_told, turned_into, settled_now, alters_failed, cause_after, from_reads}
use Rattle.tach_media.specs.Plan.{PutsBy, put_all}
use Rattle.tach_media.proofs.Plans.{puts_by_unread}
use Rattle.gated_ring.specs.Change.{IsAdded}
use Rattle.gated_ring.specs.Plans.{placing_pieces, adding_pieces}
use Rattle.gated_ring.proofs.Planned.{placing_some, add_puts, add_writes, add_moments, add_end}
use Rattle.gated_ring.proofs.ring.Ring.add.Goals as goal

pub returns-in_err-room-clause-puts : goal.returns-in_err-room-clause-puts
returns-in_err-room-clause-puts g c =
    let failed : is_err c.from_residual.result ≡ true = search rules in
    λ known. subst (λ (b : Bool). PutsBy (g.M.Medium.state c.args.medium.now) (g.M.Medium.state c.room.new.medium) b 1 5 (adding_pieces c.args.self.now c.args.head.now)) (sym failed)
    (puts_by_unread 1 5 (adding_pieces c.args.self.now c.args.head.now) c.in_err-room.ensures.reads)

pub returns-in_err-place-clause-puts : goal.returns-in_err-place-clause-puts
returns-in_err-place-clause-puts g c =
    let e = c.in_ok-room.ensures in
    let old = g.M.Medium.state c.args.medium.now in
    let mid = g.M.Medium.state c.room.new.medium in
    let new = g.M.Medium.state c.place.new.medium in
    let failed : is_err c.from_residual-in_err-place.result ≡ true = search rules in
    λ known. subst (λ (b : Bool). PutsBy old new b 1 5 (adding_pieces c.args.self.now c.args.head.now)) (sym failed)
    (add_puts c.args.self.now c.args.head.now c.in_ok-room.room old mid new e.reads e.last e.index e.used true c.in_err-place.ensures.puts known)

pub returns-in_err-place-clause-alters : goal.returns-in_err-place-clause-alters
returns-in_err-place-clause-alters g c =
    let failed : is_err c.from_residual-in_err-place.result ≡ true = search rules in
    alters_failed c.from_residual-in_err-place.result failed
    (let e = c.in_ok-room.ensures in
    let q = c.requires in
    add_moments c.args.self.now c.args.head.now c.in_ok-room.room _ _ _ e.reads e.last e.index e.used true c.in_err-place.ensures.puts
    e.shape q.pointer (λ x was. omega (arith, q.fits, (g.met.M.Medium.coherent c.args.medium.now).sized x was)) e.below q.head.gate q.head.width q.head.opens)
    (cause_after c.in_ok-room.ensures.reads.cause c.in_err-place.ensures.puts.cause)
    (omega (arith, c.in_err-place.ensures.puts.clock, c.in_ok-room.ensures.reads.clock, (placing_some c.args.self.now c.in_ok-room.room c.args.head.now).1))

pub returns-in_err-place-clause-writes : goal.returns-in_err-place-clause-writes
returns-in_err-place-clause-writes g c =
    let e = c.in_ok-room.ensures in
    if_told (g.M.Medium.state c.args.medium.now).image _ (λ x was known. add_writes c.args.self.now c.args.head.now c.in_ok-room.room _ _ _ e.reads e.last e.index e.used true c.in_err-place.ensures.puts x was known)

pub returns-clause-puts : goal.returns-clause-puts
returns-clause-puts g c =
    let e = c.in_ok-room.ensures in
    λ known. add_puts c.args.self.now c.args.head.now c.in_ok-room.room _ _ _ e.reads e.last e.index e.used false c.in_ok-place.ensures.puts known

pub returns-clause-alters : goal.returns-clause-alters
returns-clause-alters g c = record {
  done =
      let e = c.in_ok-room.ensures in
      let q = c.requires in
      let r = c.args.self.now in
      let head = c.args.head.now in
      let old = g.M.Medium.state c.args.medium.now in
      let new = g.M.Medium.state c.place.new.medium in
      where_told old.image new.image (IsAdded r head) (λ x y was is.
      add_end r head c.in_ok-room.room old (g.M.Medium.state c.room.new.medium) new e.reads e.last e.index e.used false c.in_ok-place.ensures.puts
      e.shape q.pointer (λ x was. omega (arith, q.fits, (g.met.M.Medium.coherent c.args.medium.now).sized x was)) e.below q.head.gate q.head.width q.head.opens x y was
      (turned_into (put_all (placing_pieces r c.in_ok-room.room head)) (c.in_ok-place.ensures.puts.written refl) (e.reads.same refl ∙ was) is));
  moments =
      let e = c.in_ok-room.ensures in
      let q = c.requires in
      add_moments c.args.self.now c.args.head.now c.in_ok-room.room _ _ _ e.reads e.last e.index e.used false c.in_ok-place.ensures.puts
      e.shape q.pointer (λ x was. omega (arith, q.fits, (g.met.M.Medium.coherent c.args.medium.now).sized x was)) e.below q.head.gate q.head.width q.head.opens;
  settled = settled_now c.in_ok-place.ensures.puts refl (placing_some c.args.self.now c.in_ok-room.room c.args.head.now).0;
  cause = first_of (search rules, grind (arith, common_steps));
  most = omega (arith, c.in_ok-place.ensures.puts.clock, c.in_ok-room.ensures.reads.clock, (placing_some c.args.self.now c.in_ok-room.room c.args.head.now).1);
}

pub returns-clause-clock : goal.returns-clause-clock
returns-clause-clock g c = omega (arith, c.in_ok-place.ensures.puts.begun refl, c.in_ok-room.ensures.reads.clock, (placing_some c.args.self.now c.in_ok-room.room c.args.head.now).0)

pub returns-clause-writes : goal.returns-clause-writes
returns-clause-writes g c =
    let e = c.in_ok-room.ensures in
    if_told (g.M.Medium.state c.args.medium.now).image _ (λ x was known. add_writes c.args.self.now c.args.head.now c.in_ok-room.room _ _ _ e.reads e.last e.index e.used false c.in_ok-place.ensures.puts x was known)

pub returns-in_err-room-clause-alters : goal.returns-in_err-room-clause-alters
returns-in_err-room-clause-alters g c =
    let failed : is_err c.from_residual.result ≡ true = search rules in
    alters_failed c.from_residual.result failed (from_reads c.in_err-room.ensures.reads.leaves) c.in_err-room.ensures.reads.cause (omega (arith, c.in_err-room.ensures.reads.clock))
