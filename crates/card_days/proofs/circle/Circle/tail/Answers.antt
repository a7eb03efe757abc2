use Rattle.std.proofs.Common.{◌≡◌, ◌-◌, ◌<◌, length, take, get_or, arith, ap, sym, subst, refl, ◌∙◌}
use Rattle.tach_media.proofs.Runs.{at_image, reads_then}
use Rattle.card_model.specs.Days.{Day}
use Rattle.card_model.specs.Image.{IsAt, IsPointer, turned, string_of, oldest_pointer, newest_pointer}
use Rattle.card_days.specs.Held.{Knows}
use Rattle.card_days.specs.declared.head.Tail.{Tail}
use Rattle.card_days.specs.Heads.{head_bytes, day_head_of}
use Rattle.card_days.specs.declared.head.DayHead.{DayHead}
use Rattle.card_days.proofs.Tails.{knows_none, knows_some}
use Rattle.card_days.proofs.Told.{if_told}
use Rattle.card_days.proofs.circle.Circle.tail.Goals as goal

pub returns-then-len-lt-DAY_LEAST-clause-knows : goal.returns-then-len-lt-DAY_LEAST-clause-knows
returns-then-len-lt-DAY_LEAST-clause-knows g c =
    let r = c.args.self.now in
    let o = c.in_ok-oldest in
    let n = c.in_ok-newest in
    let h = c.in_ok-record.record in
    let two = reads_then o.ensures.reads n.ensures.reads in
    if_told (g.M.Medium.state c.args.medium.now).image _ (λ x was.
    knows_none r n.ensures.shape x (omega (arith, c.requires, (g.met.M.Medium.coherent c.args.medium.now).sized x was)) n.newest
    (at_image (λ x. IsPointer r.size (newest_pointer r x) → n.newest ≡ newest_pointer r x) (o.ensures.reads.same refl ∙ was) n.ensures.newest) h
    (at_image (λ x. head_bytes h ≡ take 12 (turned n.newest (string_of r x))) (two.same refl ∙ was) c.in_ok-record.ensures.head) c.day_len-len.result
    c.day_len-len.ensures.same c.if-len-lt-DAY_LEAST.true c.no_day.result c.no_day.ensures.used c.no_day.ensures.place)

pub returns-clause-knows : goal.returns-clause-knows
returns-clause-knows g c =
    let r = c.args.self.now in
    let o = c.in_ok-oldest in
    let n = c.in_ok-newest in
    let h = c.in_ok-record.record in
    let two = reads_then o.ensures.reads n.ensures.reads in
    let three = reads_then two c.in_ok-record.ensures.reads in
    let head : c.at-head.result ≡ day_head_of h n.newest = c.at-head.ensures in
    if_told (g.M.Medium.state c.args.medium.now).image _ (λ x was days held.
    subst (λ (t : Tail). Knows (record { shape = r; tail = t }) x days) (sym (c.tail_of.ensures ∙ ap (λ (d : DayHead). record { head = d; latest = c.in_ok-latest.latest; used = c.at_most-used.result }) head))
    (knows_some r n.ensures.shape x (omega (arith, c.requires, (g.met.M.Medium.coherent c.args.medium.now).sized x was)) n.newest
    (at_image (λ x. IsPointer r.size (newest_pointer r x) → n.newest ≡ newest_pointer r x) (o.ensures.reads.same refl ∙ was) n.ensures.newest) h
    (at_image (λ x. head_bytes h ≡ take 12 (turned n.newest (string_of r x))) (two.same refl ∙ was) c.in_ok-record.ensures.head) c.day_len-len.result
    c.day_len-len.ensures.same (omega (arith, c.if-len-lt-DAY_LEAST.false)) o.oldest c.distance.result c.in_ok-latest.latest c.at_most-used.result
    (at_image (λ x. IsPointer r.size (oldest_pointer r x) → o.oldest ≡ oldest_pointer r x) was o.ensures.oldest) c.distance.ensures.place c.distance.ensures.below (λ le. c.at_most-used.ensures.same (omega (arith, le, c.size.ensures.size)))
    (λ d here lt. at_image (λ x. (d : Day) → IsAt r x n.newest d → c.at-head.result.words - 1 < length d.words → c.in_ok-latest.latest ≡ get_or d.words (c.at-head.result.words - 1) 0) (three.same refl ∙ was) c.in_ok-latest.ensures.word d here
    (subst (λ (e : DayHead). e.words - 1 < length d.words) (sym head) lt) ∙ ap (λ (e : DayHead). get_or d.words (e.words - 1) 0) head) days held))
