use Rattle.std.proofs.lemmas.Grind.{common_steps}
use Rattle.std.proofs.Common.{◌≡◌, ◌+◌, ◌%◌, ◌≤◌, List, ℕ, length, arith, sym, ap, ◌∙◌, subst, rules}
use Rattle.tach_media.specs.Medium.{put, bytes_at}
use Rattle.tach_media.proofs.Runs.{weaken, goes_same, at_image, where_told, turned_into, on_ok}
use Rattle.card_model.specs.Bytes.{number, two_bytes}
use Rattle.card_model.specs.Image.{IsPointer, oldest_pointer, newest_pointer, at}
use Rattle.card_days.specs.Rears.{IsBlock, IsRear}
use Rattle.card_days.specs.Trim.{IsWithoutLast}
use Rattle.card_days.proofs.Rears.{told_put, previous_at, oldest_then, newest_then, block_then}
use Rattle.card_days.proofs.Trimming.{only_gone, while_only, one_gone, while_one}
use Rattle.card_days.proofs.circle.Circle.drop_newest.Goals as goal

pub returns-in_err-put_two-clause-moments : goal.returns-in_err-put_two-clause-moments
returns-in_err-put_two-clause-moments g c =
    let r = c.args.self.now in
    let v = c.args.rear in
    weaken c.put_two.ensures.moments (λ x d was part.
    let known : IsRear r v x = at_image (IsRear r v) was c.requires.known in
    while_only r c.requires.shape x (omega (arith, c.requires.fits, (g.met.M.Medium.coherent c.args.medium.now).sized x was)) v.newest known.newest c.requires.lies.newest
    (λ pointer. sym c.if-rear.true ∙ known.oldest pointer) c.spot.result c.spot.ensures.place c.spot.ensures.pointer d part)

pub returns-then-rear-clause-moments : goal.returns-then-rear-clause-moments
returns-then-rear-clause-moments g c =
    let r = c.args.self.now in
    let v = c.args.rear in
    goes_same (weaken c.put_two.ensures.moments (λ x d was part.
    let known : IsRear r v x = at_image (IsRear r v) was c.requires.known in
    while_only r c.requires.shape x (omega (arith, c.requires.fits, (g.met.M.Medium.coherent c.args.medium.now).sized x was)) v.newest known.newest c.requires.lies.newest
    (λ pointer. sym c.if-rear.true ∙ known.oldest pointer) c.spot.result c.spot.ensures.place c.spot.ensures.pointer d part)) c.rear.ensures.reads.leaves

pub returns-then-rear-clause-shortened : goal.returns-then-rear-clause-shortened
returns-then-rear-clause-shortened g c =
    let r = c.args.self.now in
    let v = c.args.rear in
    let f = put (at r c.spot.result) (two_bytes 0) in
    on_ok c.rear.result (λ fine. where_told (g.M.Medium.state c.args.medium.now).image _ (IsWithoutLast r) (λ x z was is.
    let known : IsRear r v x = at_image (IsRear r v) was c.requires.known in
    subst (λ (l : List ℕ). IsWithoutLast r x l) (sym (turned_into f (c.rear.ensures.reads.same fine ∙ c.in_ok-put_two.ensures.written) was is))
    (only_gone r c.requires.shape x (omega (arith, c.requires.fits, (g.met.M.Medium.coherent c.args.medium.now).sized x was)) v.newest known.newest c.requires.lies.newest
    (λ pointer. sym c.if-rear.true ∙ known.oldest pointer) c.spot.result c.spot.ensures.place c.spot.ensures.pointer)))

pub returns-in_err-put_newest-clause-moments : goal.returns-in_err-put_newest-clause-moments
returns-in_err-put_newest-clause-moments g c =
    let r = c.args.self.now in
    let v = c.args.rear in
    weaken c.put_newest.ensures.moments (λ x d was part.
    let known : IsRear r v x = at_image (IsRear r v) was c.requires.known in
    let inside : r.base + (4 + r.size) ≤ length x = omega (arith, c.requires.fits, (g.met.M.Medium.coherent c.args.medium.now).sized x was) in
    let before : v.head.previous ≡ number (bytes_at x (at r v.newest) 2) = previous_at r c.requires.shape x inside v known c.requires.lies.newest in
    while_one r c.requires.shape x inside v.newest known.newest c.requires.lies.newest (λ pointer same. c.if-rear.false (known.oldest pointer ∙ sym same))
    c.day_len-len.result c.back-newest.result (λ even most. c.day_len-len.ensures.same (ap (λ (k : ℕ). k % 2) before ∙ even) (omega (arith, before, most)) ∙ before) c.back-newest.ensures.place c.back-newest.ensures.pointer d part)

pub rear_at-requires-clause-ends : goal.rear_at-requires-clause-ends
rear_at-requires-clause-ends g c = record {
  start = first_of (search rules, grind (arith, common_steps));
  end = first_of (search rules, grind (arith, common_steps));
  oldest_is =
      let r = c.args.self.now in
      let v = c.args.rear in
      told_put (g.M.Medium.state c.args.medium.now).image _ (put (r.base + 2) (two_bytes c.back-newest.result)) (IsRear r v) (λ x. IsPointer r.size (oldest_pointer r x) → v.oldest ≡ oldest_pointer r x) c.in_ok-put_newest.ensures.written c.requires.known (λ x was known.
      oldest_then r c.requires.shape x (omega (arith, c.requires.fits, (g.met.M.Medium.coherent c.args.medium.now).sized x was)) v known c.back-newest.result);
  newest_is =
      let r = c.args.self.now in
      let v = c.args.rear in
      told_put (g.M.Medium.state c.args.medium.now).image _ (put (r.base + 2) (two_bytes c.back-newest.result)) (IsRear r v) (λ x. IsPointer r.size (newest_pointer r x) → c.back-newest.result ≡ newest_pointer r x) c.in_ok-put_newest.ensures.written c.requires.known (λ x was known pointer.
      newest_then r c.requires.shape x (omega (arith, c.requires.fits, (g.met.M.Medium.coherent c.args.medium.now).sized x was)) v known c.back-newest.result);
}

pub rear_at-requires-clause-block : goal.rear_at-requires-clause-block
rear_at-requires-clause-block g c = record {
  inside = first_of (search rules, grind (arith, common_steps));
  bytes =
      let r = c.args.self.now in
      let v = c.args.rear in
      told_put (g.M.Medium.state c.args.medium.now).image _ (put (r.base + 2) (two_bytes c.back-newest.result)) (IsRear r v) (IsBlock r v.block) c.in_ok-put_newest.ensures.written c.requires.known (λ x was known.
      block_then r c.requires.shape x (omega (arith, c.requires.fits, (g.met.M.Medium.coherent c.args.medium.now).sized x was)) v known c.back-newest.result);
}

pub returns-clause-shortened : goal.returns-clause-shortened
returns-clause-shortened g c =
    let r = c.args.self.now in
    let v = c.args.rear in
    let f = put (r.base + 2) (two_bytes c.back-newest.result) in
    on_ok c.rear_at.result (λ fine. where_told (g.M.Medium.state c.args.medium.now).image _ (IsWithoutLast r) (λ x z was is.
    let known : IsRear r v x = at_image (IsRear r v) was c.requires.known in
    let inside : r.base + (4 + r.size) ≤ length x = omega (arith, c.requires.fits, (g.met.M.Medium.coherent c.args.medium.now).sized x was) in
    let before : v.head.previous ≡ number (bytes_at x (at r v.newest) 2) = previous_at r c.requires.shape x inside v known c.requires.lies.newest in
    subst (λ (l : List ℕ). IsWithoutLast r x l) (sym (turned_into f (c.rear_at.ensures.reads.same fine ∙ c.in_ok-put_newest.ensures.written) was is))
    (one_gone r c.requires.shape x inside v.newest known.newest c.requires.lies.newest (λ pointer same. c.if-rear.false (known.oldest pointer ∙ sym same))
    c.day_len-len.result c.back-newest.result (λ even most. c.day_len-len.ensures.same (ap (λ (k : ℕ). k % 2) before ∙ even) (omega (arith, before, most)) ∙ before) c.back-newest.ensures.place c.back-newest.ensures.pointer)))

pub returns-clause-moments : goal.returns-clause-moments
returns-clause-moments g c =
    let r = c.args.self.now in
    let v = c.args.rear in
    goes_same (weaken c.put_newest.ensures.moments (λ x d was part.
    let known : IsRear r v x = at_image (IsRear r v) was c.requires.known in
    let inside : r.base + (4 + r.size) ≤ length x = omega (arith, c.requires.fits, (g.met.M.Medium.coherent c.args.medium.now).sized x was) in
    let before : v.head.previous ≡ number (bytes_at x (at r v.newest) 2) = previous_at r c.requires.shape x inside v known c.requires.lies.newest in
    while_one r c.requires.shape x inside v.newest known.newest c.requires.lies.newest (λ pointer same. c.if-rear.false (known.oldest pointer ∙ sym same))
    c.day_len-len.result c.back-newest.result (λ even most. c.day_len-len.ensures.same (ap (λ (k : ℕ). k % 2) before ∙ even) (omega (arith, before, most)) ∙ before) c.back-newest.ensures.place c.back-newest.ensures.pointer d part)) c.rear_at.ensures.reads.leaves
