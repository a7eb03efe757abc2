use Rattle.std.proofs.Common.{rules, ◌≡◌, ◌+◌, ◌*◌, ◌++◌, Bool, true, false, ap, sym, ◌∙◌, subst}
use Rattle.std.specs.Prelude.{is_err}
use Rattle.tach_media.specs.Plan.{Pieces, PutsAll, PutsBy, more}
use Rattle.card_days.specs.Held.{Held, IsInBounds}
use Rattle.card_days.specs.Plans.{most_drops, drop_pieces, word_pieces, change_pieces}
use Rattle.card_days.proofs.Changing.{change_puts}
use Rattle.card_days.proofs.days.Days.change.Goals as goal

pub returns-in_err-put_pieces-clause-puts : goal.returns-in_err-put_pieces-clause-puts
returns-in_err-put_pieces-clause-puts g c =
    let v = c.args.self.now in
    let w = c.args.word in
    let is : IsInBounds v = subst (λ (h : Held). IsInBounds h) c.self.view_is c.self.invariant in
    let room = c.in_ok-left in
    let mid = g.M.Medium.state c.make_room.new.medium in
    let new = g.M.Medium.state c.put_pieces.new.medium in
    let used : c.self.inside.tail.used ≡ v.tail.used = ap (λ (h : Held). h.tail.used) c.self.view_is in
    let failed : is_err c.from_residual-in_err-put_pieces.result ≡ true = search rules in
    let puts : PutsAll mid new true (drop_pieces v c.self.inside.tail.used room.left ++ word_pieces v w) =
    subst (λ (p : Pieces). PutsAll mid new true p.pieces)
    (c.plan_word.ensures ∙ ap (λ (p : Pieces). more p (word_pieces v w)) (room.ensures.plan ∙ ap (λ (p : Pieces). more p (drop_pieces v c.self.inside.tail.used room.left)) c.writing-plan.ensures)) c.in_err-put_pieces.ensures.puts in
    subst (λ (b : Bool). PutsBy (g.M.Medium.state c.args.medium.now) new b 2 (2 + 2 * most_drops v.shape.size v.tail.used 2) (change_pieces v w)) (sym failed)
    (change_puts v w c.self.inside.tail.used room.left used is.most room.ensures.looks room.ensures.left room.ensures.kept puts)

pub returns-clause-puts : goal.returns-clause-puts
returns-clause-puts g c =
    let v = c.args.self.now in
    let w = c.args.word in
    let is : IsInBounds v = subst (λ (h : Held). IsInBounds h) c.self.view_is c.self.invariant in
    let room = c.in_ok-left in
    let mid = g.M.Medium.state c.make_room.new.medium in
    let new = g.M.Medium.state c.put_pieces.new.medium in
    let used : c.self.inside.tail.used ≡ v.tail.used = ap (λ (h : Held). h.tail.used) c.self.view_is in
    let puts : PutsAll mid new false (drop_pieces v c.self.inside.tail.used room.left ++ word_pieces v w) =
    subst (λ (p : Pieces). PutsAll mid new false p.pieces)
    (c.plan_word.ensures ∙ ap (λ (p : Pieces). more p (word_pieces v w)) (room.ensures.plan ∙ ap (λ (p : Pieces). more p (drop_pieces v c.self.inside.tail.used room.left)) c.writing-plan.ensures)) c.in_ok-put_pieces.ensures.puts in
    change_puts v w c.self.inside.tail.used room.left used is.most room.ensures.looks room.ensures.left room.ensures.kept puts
