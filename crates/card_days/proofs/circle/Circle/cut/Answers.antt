use Rattle.std.proofs.Common.{◌≡◌, inl, inr, ◌+◌, ◌-◌, ◌*◌, ◌/◌, ℕ, List, Some, option_map, length, take, arith, refl, sym, ◌∙◌, ap, subst}
use Rattle.std.proofs.lemmas.Result.{on_ok_weaker}
use Rattle.tach_media.specs.Medium.{put}
use Rattle.tach_media.proofs.Runs.{weaken, after_reads, reads_then, at_image, where_told, turned_into}
use Rattle.card_model.specs.Bytes.{two_bytes}
use Rattle.card_model.specs.Days.{Day}
use Rattle.card_model.specs.Image.{IsAt, IsPointer, turned, string_of, newest_pointer, at}
use Rattle.card_model.specs.Changes.{cut}
use Rattle.card_days.specs.Heads.{head_bytes}
use Rattle.card_days.specs.Trim.{IsCutLast}
use Rattle.card_days.proofs.CutLast.{cut_none, cut_made, none_there, none_where_short, while_cut}
use Rattle.card_days.proofs.Told.{if_told}
use Rattle.card_days.proofs.circle.Circle.cut.Goals as goal

pub returns-then-len-lt-DAY_LEAST-clause-cut : goal.returns-then-len-lt-DAY_LEAST-clause-cut
returns-then-len-lt-DAY_LEAST-clause-cut g c =
    let r = c.args.self.now in
    let n = c.in_ok-newest in
    let h = c.in_ok-head.head in
    let m = c.args.minute in
    let both = reads_then n.ensures.reads c.in_ok-head.ensures.reads in
    where_told (g.M.Medium.state c.args.medium.now).image _ (IsCutLast r m) (λ x y was is.
    let same : y ≡ x = let here : (g.M.Medium.state c.args.medium.now).image ≡ Some y = sym (both.same refl) ∙ is in cc in
    subst (λ (l : List ℕ). IsCutLast r m x l) (sym same)
    (cut_none r n.ensures.shape x (omega (arith, c.requires.fits, (g.met.M.Medium.coherent c.args.medium.now).sized x was)) m n.newest
    (at_image (λ x. IsPointer r.size (newest_pointer r x) → n.newest ≡ newest_pointer r x) was n.ensures.newest) h
    (at_image (λ x. head_bytes h ≡ take 12 (turned n.newest (string_of r x))) (n.ensures.reads.same refl ∙ was) c.in_ok-head.ensures.head)
    c.day_len-len.result c.day_len-len.ensures.same c.if-len-lt-DAY_LEAST.true))

pub returns-clause-cut : goal.returns-clause-cut
returns-clause-cut g c =
    let r = c.args.self.now in
    let n = c.in_ok-newest in
    let h = c.in_ok-head.head in
    let m = c.args.minute in
    let len = c.day_len-len.result in
    let k = c.in_ok-kept.kept in
    let both = reads_then n.ensures.reads c.in_ok-head.ensures.reads in
    let all = reads_then both c.in_ok-kept.ensures.reads in
    let f = put (at r c.spot.result) (two_bytes (12 + 2 * k)) in
    on_ok_weaker c.put_two.result (λ made. where_told (g.M.Medium.state c.args.medium.now).image _ (IsCutLast r m) (λ x z was is.
    let z_is : z ≡ f x = turned_into f (made ∙ ap (option_map f) (all.same refl)) was is in
    subst (λ (l : List ℕ). IsCutLast r m x l) (sym z_is)
    (cut_made r n.ensures.shape x (omega (arith, c.requires.fits, (g.met.M.Medium.coherent c.args.medium.now).sized x was)) m n.newest
    (at_image (λ x. IsPointer r.size (newest_pointer r x) → n.newest ≡ newest_pointer r x) was n.ensures.newest) h
    (at_image (λ x. head_bytes h ≡ take 12 (turned n.newest (string_of r x))) (n.ensures.reads.same refl ∙ was) c.in_ok-head.ensures.head)
    len c.day_len-len.ensures.same (omega (arith, c.if-len-lt-DAY_LEAST.false)) n.ensures.pointer c.spot.result c.spot.ensures.place c.spot.ensures.pointer k
    (at_image (λ x. (d : Day) → IsAt r x n.newest d → (len - 12) / 2 ≡ length d.words → h.date ≡ d.date → k ≡ length (cut m d).words) (both.same refl ∙ was) c.in_ok-kept.ensures.kept)))) c.put_two.ensures.written

pub returns-clause-moments : goal.returns-clause-moments
returns-clause-moments g c =
    let r = c.args.self.now in
    let n = c.in_ok-newest in
    let h = c.in_ok-head.head in
    let m = c.args.minute in
    let len = c.day_len-len.result in
    let k = c.in_ok-kept.kept in
    let both = reads_then n.ensures.reads c.in_ok-head.ensures.reads in
    let all = reads_then both c.in_ok-kept.ensures.reads in
    after_reads all.leaves (all.same refl) (weaken c.put_two.ensures.moments (λ x d is part.
    let was : (g.M.Medium.state c.args.medium.now).image ≡ Some x = sym (all.same refl) ∙ is in
    while_cut r n.ensures.shape x (omega (arith, c.requires.fits, (g.met.M.Medium.coherent c.args.medium.now).sized x was)) m n.newest
    (at_image (λ x. IsPointer r.size (newest_pointer r x) → n.newest ≡ newest_pointer r x) was n.ensures.newest) h
    (at_image (λ x. head_bytes h ≡ take 12 (turned n.newest (string_of r x))) (n.ensures.reads.same refl ∙ was) c.in_ok-head.ensures.head)
    len c.day_len-len.ensures.same (omega (arith, c.if-len-lt-DAY_LEAST.false)) n.ensures.pointer c.spot.result c.spot.ensures.place c.spot.ensures.pointer k
    (at_image (λ x. (d : Day) → IsAt r x n.newest d → (len - 12) / 2 ≡ length d.words → h.date ≡ d.date → k ≡ length (cut m d).words) (both.same refl ∙ was) c.in_ok-kept.ensures.kept) d part))

pub returns-then-len-lt-DAY_LEAST-clause-settled : goal.returns-then-len-lt-DAY_LEAST-clause-settled
returns-then-len-lt-DAY_LEAST-clause-settled g c =
    let r = c.args.self.now in
    let n = c.in_ok-newest in
    let h = c.in_ok-head.head in
    inr (
      reads_then n.ensures.reads c.in_ok-head.ensures.reads,
      if_told (g.M.Medium.state c.args.medium.now).image _ (λ x was.
          none_where_short r n.ensures.shape x (omega (arith, c.requires.fits, (g.met.M.Medium.coherent c.args.medium.now).sized x was)) c.args.minute n.newest
          (at_image (λ x. IsPointer r.size (newest_pointer r x) → n.newest ≡ newest_pointer r x) was n.ensures.newest) h
          (at_image (λ x. head_bytes h ≡ take 12 (turned n.newest (string_of r x))) (n.ensures.reads.same refl ∙ was) c.in_ok-head.ensures.head)
          c.day_len-len.result c.day_len-len.ensures.same c.if-len-lt-DAY_LEAST.true),
    )

pub returns-then-len-lt-DAY_LEAST-clause-empty : goal.returns-then-len-lt-DAY_LEAST-clause-empty
returns-then-len-lt-DAY_LEAST-clause-empty g c = if_told (g.M.Medium.state c.args.medium.now).image _ (λ x was h. reads_then c.in_ok-newest.ensures.reads c.in_ok-head.ensures.reads)

pub returns-clause-settled : goal.returns-clause-settled
returns-clause-settled g c = on_ok_weaker c.put_two.result (λ settled. inl settled) c.put_two.ensures.settled

pub returns-clause-empty : goal.returns-clause-empty
returns-clause-empty g c =
    let r = c.args.self.now in
    let n = c.in_ok-newest in
    let h = c.in_ok-head.head in
    if_told (g.M.Medium.state c.args.medium.now).image _ (λ x was empty. absurd (omega (
      arith,
      c.if-len-lt-DAY_LEAST.false,
      none_there r n.ensures.shape x (omega (arith, c.requires.fits, (g.met.M.Medium.coherent c.args.medium.now).sized x was)) c.args.minute n.newest
          (at_image (λ x. IsPointer r.size (newest_pointer r x) → n.newest ≡ newest_pointer r x) was n.ensures.newest) h
          (at_image (λ x. head_bytes h ≡ take 12 (turned n.newest (string_of r x))) (n.ensures.reads.same refl ∙ was) c.in_ok-head.ensures.head)
          c.day_len-len.result c.day_len-len.ensures.same empty,
    )))
