use Rattle.std.proofs.Common.{rules, is_err, ◌≡◌, ℕ, ◌+◌, ◌-◌, ◌∙◌, ap, sym, subst, arith, length, map, take, List, Bool, true, false}
use Rattle.std.proofs.lemmas.List.{length-map}
use Rattle.tach_media.specs.Medium.{Writes, put, IsPartlyWritten}
use Rattle.tach_media.proofs.Ranges.{lies_still}
use Rattle.tach_media.proofs.Runs.{one_written, one_failed}
use Rattle.tach_media.specs.Plan.{Pieces, IsPlan, PutsAll}
use Rattle.tach_media.specs.Held.{piece_of}
use Rattle.tach_media.proofs.Looping.{this_piece, still, puts_next, puts_failed, puts_ended, puts_whole}
use Rattle.tach_media.proofs.plan.put_pieces.Goals as goal

pub write_at-requires-clause-inside : goal.write_at-requires-clause-inside
write_at-requires-clause-inside g c =
    let v = c.loop-held.invariant in
    let plan = c.args.plan.now in
    let k = c.loop-held.held-index in
    let held : map piece_of c.as_slice-held-items.result.now ≡ plan.pieces = ap (map piece_of) c.as_slice-held-items.ensures.value ∙ ap (λ (w : Pieces). w.pieces) c.plan.view_is in
    let this = this_piece c.as_slice-held-items.result.now k c.held-item.result plan held (subst IsPlan c.plan.view_is c.plan.invariant) c.loop-held-test.true c.held-item.is in
    let same = still k (take k plan.pieces) (λ none. ap g.M.Medium.state (v.first none)) v.puts in
    omega (arith, this.2.inside, same.1, c.requires.inside, ap length c.as_slice.ensures.value)

pub write_at-requires-clause-writable : goal.write_at-requires-clause-writable
write_at-requires-clause-writable g c =
    let v = c.loop-held.invariant in
    let plan = c.args.plan.now in
    let k = c.loop-held.held-index in
    let held : map piece_of c.as_slice-held-items.result.now ≡ plan.pieces = ap (map piece_of) c.as_slice-held-items.ensures.value ∙ ap (λ (w : Pieces). w.pieces) c.plan.view_is in
    let this = this_piece c.as_slice-held-items.result.now k c.held-item.result plan held (subst IsPlan c.plan.view_is c.plan.invariant) c.loop-held-test.true c.held-item.is in
    let same = still k (take k plan.pieces) (λ none. ap g.M.Medium.state (v.first none)) v.puts in
    let len = ap length c.as_slice.ensures.value in
    lies_still _ _ plan.from (plan.end - plan.from) _ _ same.0 this.2.behind (omega (arith, this.2.inside, this.2.behind, len)) c.requires.writable

pub returns-in_err-write_at-clause-puts : goal.returns-in_err-write_at-clause-puts
returns-in_err-write_at-clause-puts g c =
    let v = c.loop-held.invariant in
    let plan = c.args.plan.now in
    let k = c.loop-held.held-index in
    let h = c.held-item.result in
    let held : map piece_of c.as_slice-held-items.result.now ≡ plan.pieces = ap (map piece_of) c.as_slice-held-items.ensures.value ∙ ap (λ (w : Pieces). w.pieces) c.plan.view_is in
    let this = this_piece c.as_slice-held-items.result.now k h plan held (subst IsPlan c.plan.view_is c.plan.invariant) c.loop-held-test.true c.held-item.is in
    let e = c.in_err-write_at.ensures in
    let one = one_failed {place = h.place} {bytes = c.as_slice.result.now} (omega (arith, this.2.short, ap length c.as_slice.ensures.value)) e.moments e.few e.cause in
    let next = subst (λ (b : List ℕ). Writes (g.M.Medium.state c.loop-held.medium) (g.M.Medium.state c.write_at.new.self) true 1 1 (put h.place b) (IsPartlyWritten h.place b)) c.as_slice.ensures.value one in
    let failed : is_err c.from_residual.result ≡ true = search rules in
    subst (λ (b : Bool). PutsAll (g.M.Medium.state c.args.medium.now) (g.M.Medium.state c.write_at.new.self) b plan.pieces) (sym failed) (puts_failed plan.pieces (k + 1) (puts_next plan.pieces k (piece_of h) this.0 this.1 (λ none. ap g.M.Medium.state (v.first none)) v.puts next))

pub returns-in_err-write_at-clause-whole : goal.returns-in_err-write_at-clause-whole
returns-in_err-write_at-clause-whole g c = puts_whole c.args.plan.now.pieces (returns-in_err-write_at-clause-puts g c)

pub loop-held-preserved : goal.loop-held-preserved
loop-held-preserved g c =
    let v = c.loop-held.invariant in
    let plan = c.args.plan.now in
    let k = c.loop-held.held-index in
    let h = c.held-item.result in
    let held : map piece_of c.as_slice-held-items.result.now ≡ plan.pieces = ap (map piece_of) c.as_slice-held-items.ensures.value ∙ ap (λ (w : Pieces). w.pieces) c.plan.view_is in
    let this = this_piece c.as_slice-held-items.result.now k h plan held (subst IsPlan c.plan.view_is c.plan.invariant) c.loop-held-test.true c.held-item.is in
    let e = c.in_ok-write_at.ensures in
    let len = ap length c.as_slice.ensures.value in
    let one = one_written {place = h.place} {bytes = c.as_slice.result.now} (omega (arith, this.2.some, len)) (omega (arith, this.2.short, len)) e.written e.moments e.settled e.clock e.few e.cause in
    let next = subst (λ (b : List ℕ). Writes (g.M.Medium.state c.loop-held.medium) (g.M.Medium.state c.write_at.new.self) false 1 1 (put h.place b) (IsPartlyWritten h.place b)) c.as_slice.ensures.value one in
    record {
      first = λ none. absurd (omega (arith, none));
      puts = λ some. puts_next plan.pieces k (piece_of h) this.0 this.1 (λ none. ap g.M.Medium.state (v.first none)) v.puts next;
    }

pub returns-clause-puts : goal.returns-clause-puts
returns-clause-puts g c =
    let v = c.loop-held.invariant in
    let plan = c.args.plan.now in
    let k = c.loop-held.held-index in
    let hs = c.as_slice-held-items.result.now in
    let held : map piece_of hs ≡ plan.pieces = ap (map piece_of) c.as_slice-held-items.ensures.value ∙ ap (λ (w : Pieces). w.pieces) c.plan.view_is in
    let size = ap length held in
    puts_ended plan.pieces k (omega (arith, c.loop-held-test.false, size, length-map hs piece_of)) (λ none. ap g.M.Medium.state (v.first none)) c.requires.works (omega (arith, c.loop-held.auto.held-index-end, size, length-map hs piece_of)) v.puts

pub returns-clause-whole : goal.returns-clause-whole
returns-clause-whole g c = puts_whole c.args.plan.now.pieces (returns-clause-puts g c)
