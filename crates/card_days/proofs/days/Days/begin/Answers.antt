use Rattle.std.proofs.Common.{rules, ◌≡◌, ℕ, ◌+◌, ◌*◌, List, ◌++◌, length, take, Bool, true, ap, sym, ◌∙◌, subst, IfSome, Option, ◌≤◌}
use Rattle.std.specs.Prelude.{is_err}
use Rattle.tach_media.proofs.Runs.{both_told}
use Rattle.tach_media.specs.Plan.{Pieces, PutsAll, PutsBy, more}
use Rattle.card_model.specs.Days.{body}
use Rattle.card_days.specs.Held.{Held}
use Rattle.card_days.specs.Plans.{most_drops, left_in, drop_pieces, day_pieces, day_by, beginning_pieces}
use Rattle.card_days.proofs.Putting.{looks_same, looks_then}
use Rattle.card_days.proofs.Starting.{begun_puts, begun_exact}
use Rattle.card_days.proofs.days.Days.begin.Given.{Over}
use Rattle.card_days.proofs.days.Days.begin.Goals.{After-put_pieces}
use Rattle.card_days.proofs.days.Days.begin.Goals as goal

-- what was put, whether or not all of it
module _ (g : Over) (c : After-put_pieces g) where
  used-is : c.self.inside.tail.used ≡ c.args.self.now.tail.used
  used-is = ap (λ (h : Held). h.tail.used) c.self.view_is

  two-left : IfSome (g.M.Medium.state c.args.medium.now).image (λ x. c.in_ok-twice.twice ≡ left_in c.args.self.now (12 + 2 * length c.args.words.now) x c.in_ok-once.once)
  two-left = subst (λ (o : Option (List ℕ)). IfSome o (λ x. c.in_ok-twice.twice ≡ left_in c.args.self.now (12 + 2 * length c.args.words.now) x c.in_ok-once.once)) (looks_same c.in_ok-once.ensures.looks) c.in_ok-twice.ensures.left

  bytes-is : (take (8 + 2 * length c.args.words.now) c.body_of-bytes.result) ≡ body (day_by c.args.self.now c.args.date c.args.words.now)
  bytes-is = c.body_of-bytes.ensures.bytes ∙ ap (λ (n : ℕ). body (record { date = c.args.date; counter = n; km = 0; words = c.args.words.now })) c.next_counter.ensures.counter

  puts : PutsAll (g.M.Medium.state c.make_room-2.new.medium) (g.M.Medium.state c.put_pieces.new.medium) (is_err c.put_pieces.result) ((drop_pieces c.args.self.now c.self.inside.tail.used c.in_ok-once.once ++ drop_pieces c.args.self.now c.in_ok-once.once c.in_ok-twice.twice) ++ day_pieces c.args.self.now (take (8 + 2 * length c.args.words.now) c.body_of-bytes.result))
  puts = subst (λ (p : Pieces). PutsAll (g.M.Medium.state c.make_room-2.new.medium) (g.M.Medium.state c.put_pieces.new.medium) (is_err c.put_pieces.result) p.pieces)
      (c.plan_day.ensures ∙ ap (λ (p : Pieces). more p (day_pieces c.args.self.now (take (8 + 2 * length c.args.words.now) c.body_of-bytes.result))) (c.in_ok-twice.ensures.plan ∙ ap (λ (p : Pieces). more p (drop_pieces c.args.self.now c.in_ok-once.once c.in_ok-twice.twice)) (c.in_ok-once.ensures.plan ∙ ap (λ (p : Pieces). more p (drop_pieces c.args.self.now c.self.inside.tail.used c.in_ok-once.once)) c.writing-plan.ensures)))
      c.put_pieces.ensures.puts

  puts-by : PutsBy (g.M.Medium.state c.args.medium.now) (g.M.Medium.state c.put_pieces.new.medium) (is_err c.put_pieces.result) 3 (5 + 2 * most_drops c.args.self.now.shape.size c.args.self.now.tail.used (12 + 2 * length c.args.words.now)) (beginning_pieces c.args.self.now c.args.date c.args.words.now)
  puts-by =
      let one = c.in_ok-once in
      let two = c.in_ok-twice in
      begun_puts c.args.self.now c.args.date c.args.words.now c.self.inside.tail.used one.once two.twice (take (8 + 2 * length c.args.words.now) c.body_of-bytes.result) used-is bytes-is (looks_then one.ensures.looks two.ensures.looks) one.ensures.left two-left puts one.ensures.kept one.ensures.gone two.ensures.kept

  exact : IfSome (g.M.Medium.state c.args.medium.now).image (λ x. (g.M.Medium.state c.put_pieces.new.medium).clock ≤ (g.M.Medium.state c.args.medium.now).clock + length (beginning_pieces c.args.self.now c.args.date c.args.words.now x))
  exact =
      let one = c.in_ok-once in
      let two = c.in_ok-twice in
      begun_exact c.args.self.now c.args.date c.args.words.now c.self.inside.tail.used one.once two.twice (take (8 + 2 * length c.args.words.now) c.body_of-bytes.result) used-is bytes-is (looks_then one.ensures.looks two.ensures.looks) one.ensures.left two-left puts

pub returns-in_err-put_pieces-clause-puts : goal.returns-in_err-put_pieces-clause-puts
returns-in_err-put_pieces-clause-puts g c =
    let v = c.args.self.now in
    let failed : is_err c.from_residual-in_err-put_pieces.result ≡ true = search rules in
    subst (λ (b : Bool). PutsBy (g.M.Medium.state c.args.medium.now) (g.M.Medium.state c.put_pieces.new.medium) b 3 (5 + 2 * most_drops v.shape.size v.tail.used (12 + 2 * length c.args.words.now)) (beginning_pieces v c.args.date c.args.words.now)) (ap is_err c.in_err-put_pieces.was ∙ sym failed)
    (puts-by g (goal.at.returns-in_err-put_pieces-clause-puts g c).After-put_pieces)

pub returns-in_err-put_pieces-clause-exact : goal.returns-in_err-put_pieces-clause-exact
returns-in_err-put_pieces-clause-exact g c = exact g (goal.at.returns-in_err-put_pieces-clause-exact g c).After-put_pieces

pub returns-clause-puts : goal.returns-clause-puts
returns-clause-puts g c =
    let v = c.args.self.now in
    subst (λ (b : Bool). PutsBy (g.M.Medium.state c.args.medium.now) (g.M.Medium.state c.put_pieces.new.medium) b 3 (5 + 2 * most_drops v.shape.size v.tail.used (12 + 2 * length c.args.words.now)) (beginning_pieces v c.args.date c.args.words.now)) (ap is_err c.in_ok-put_pieces.was)
    (puts-by g (goal.at.returns-clause-puts g c).After-put_pieces)

pub returns-clause-exact : goal.returns-clause-exact
returns-clause-exact g c = exact g (goal.at.returns-clause-exact g c).After-put_pieces

pub returns-clause-used : goal.returns-clause-used
returns-clause-used g c =
    let v = c.args.self.now in
    let new = (12 + 2 * length c.args.words.now) in
    let p = (goal.at.returns-clause-used g c).After-put_pieces in
    both_told (g.M.Medium.state c.args.medium.now).image _ c.in_ok-once.ensures.left (two-left g p) (λ x was a b.
    ap (λ (n : ℕ). n + new) (b ∙ ap (λ (n : ℕ). left_in v new x n) (a ∙ ap (λ (n : ℕ). left_in v new x n) (used-is g p))))
