use Rattle.std.proofs.Common.{◌<◌, Option, List, [], ◌∷◌, ◌++◌, length, length-append, ap, sym, subst, arith}
use Rattle.card_model.specs.Walk.{days_of}
use Rattle.card_days.specs.declared.head.DayHead.{DayHead}
use Rattle.card_days.specs.Heads.{heads_of, IsAfter, IsWalk}
use Rattle.card_days.proofs.WalkOrder.{walk_after}
use Rattle.file_view.proofs.Walks.{Walked, walked_more, walked_less, walked_end}
use Rattle.file_view.proofs.string.heads.Goals as goal

pub loop-next-init : goal.loop-next-init
loop-next-init c =
    let r = c.args.string.now.shape in
    let x = c.args.file.now in
    let all = heads_of c.args.string.now.shape c.args.file.now (days_of c.args.string.now.shape c.args.file.now) in
    record {
      place = c.first_head-next.ensures.place;
      walked = record {
        rest = all;
        split = ap (λ (l : List DayHead). l ++ heads_of c.args.string.now.shape c.args.file.now (days_of c.args.string.now.shape c.args.file.now)) (sym c.new-heads.ensures.items);
        walk = subst (λ (o : Option DayHead). IsWalk (IsAfter c.args.string.now.shape c.args.file.now) o (heads_of c.args.string.now.shape c.args.file.now (days_of c.args.string.now.shape c.args.file.now)))
            (sym (c.first_head-next.ensures.first (days_of c.args.string.now.shape c.args.file.now) c.requires.holds))
            (walk_after r c.requires.shape x (omega (arith, c.requires.fits, c.requires.alone)) (days_of c.args.string.now.shape c.args.file.now) c.requires.holds);
      };
    }

pub loop-next-preserved : goal.loop-next-preserved
loop-next-preserved c =
    let next = IsAfter c.args.string.now.shape c.args.file.now in
    let all = heads_of c.args.string.now.shape c.args.file.now (days_of c.args.string.now.shape c.args.file.now) in
    record {
      place = c.head_after-next.ensures.place;
      walked = subst (λ (l : List DayHead). Walked (IsAfter c.args.string.now.shape c.args.file.now) l (heads_of c.args.string.now.shape c.args.file.now (days_of c.args.string.now.shape c.args.file.now)) c.head_after-next.result)
          (sym c.in_ok-push.ensures.items)
          (walked_more next c.loop-next.heads.items all c.in-Some.head c.head_after-next.result (subst (λ (o : Option DayHead). Walked (IsAfter c.args.string.now.shape c.args.file.now) c.loop-next.heads.items (heads_of c.args.string.now.shape c.args.file.now (days_of c.args.string.now.shape c.args.file.now)) o) c.in-Some.is c.loop-next.invariant.walked) c.head_after-next.ensures.after);
    }

pub loop-next-smaller : goal.loop-next-smaller
loop-next-smaller c =
    let less : length c.loop-next.heads.items < length (heads_of c.args.string.now.shape c.args.file.now (days_of c.args.string.now.shape c.args.file.now)) =
    walked_less (IsAfter c.args.string.now.shape c.args.file.now) c.loop-next.heads.items (heads_of c.args.string.now.shape c.args.file.now (days_of c.args.string.now.shape c.args.file.now)) c.in-Some.head
    (subst (λ (o : Option DayHead). Walked (IsAfter c.args.string.now.shape c.args.file.now) c.loop-next.heads.items (heads_of c.args.string.now.shape c.args.file.now (days_of c.args.string.now.shape c.args.file.now)) o) c.in-Some.is c.loop-next.invariant.walked) in
    omega (arith, less, ap (λ (l : List DayHead). length l) c.in_ok-push.ensures.items, length-append c.loop-next.heads.items (c.in-Some.head ∷ []))

pub returns : goal.returns
returns c = walked_end (IsAfter c.args.string.now.shape c.args.file.now) c.loop-next.heads.items (heads_of c.args.string.now.shape c.args.file.now (days_of c.args.string.now.shape c.args.file.now)) c.loop-next.next c.loop-next.invariant.walked c.in_default.not-Some
