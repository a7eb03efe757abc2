use Rattle.std.proofs.Common.{◌≡◌, inl, ℕ, List, arith, sym, ap, subst}
use Rattle.tach_media.proofs.Runs.{weaken, where_told, turned_into, on_ok}
use Rattle.tach_media.specs.Plan.{put_all}
use Rattle.card_model.specs.Days.{Day}
use Rattle.card_days.specs.Held.{Held, Knows}
use Rattle.card_days.specs.Moments.{IfKnown}
use Rattle.card_days.specs.Plans.{mend_pieces}
use Rattle.card_days.specs.Steps.{SameDays, IsDropMended}
use Rattle.card_days.proofs.OneWrite.{same_known, none_mended, mended_same, mending_same, mended_is, mended_knows}
use Rattle.card_days.proofs.days.Days.finish_drop.Goals as goal

pub returns-then-self-eq0-clause-puts : goal.returns-then-self-eq0-clause-puts
returns-then-self-eq0-clause-puts g c = λ some. absurd (omega (arith, some, ap (λ (h : Held). h.tail.used) c.self.view_is, c.if-self-eq0.true))

pub returns-then-self-eq0-clause-ended : goal.returns-then-self-eq0-clause-ended
returns-then-self-eq0-clause-ended g c = record {
  same =
      let v = c.args.self.now in
      where_told (g.M.Medium.state c.args.medium.now).image _ (IfKnown v (SameDays v.shape)) (λ x y was now.
      let same : x ≡ y = cc in
      subst (λ (l : List ℕ). IfKnown v (SameDays v.shape) x l) same (same_known v x));
  mended =
      let v = c.args.self.now in
      where_told (g.M.Medium.state c.args.medium.now).image _ (λ x y. (days : List Day) → Knows v x days → IsDropMended v.shape days x y) (λ x y was now.
      let same : x ≡ y = cc in
      subst (λ (l : List ℕ). (days : List Day) → Knows v x days → IsDropMended v.shape days x l) same
      (none_mended v x (omega (arith, ap (λ (h : Held). h.tail.used) c.self.view_is, c.if-self-eq0.true))));
  knows =
      let v = c.args.self.now in
      where_told (g.M.Medium.state c.args.medium.now).image _ (λ x y. (days : List Day) → Knows v x days → Knows v y days) (λ x y was now.
      let same : x ≡ y = cc in
      subst (λ (l : List ℕ). (days : List Day) → Knows v x days → Knows v l days) same (λ days k. k));
  settled = λ some. absurd (omega (arith, some, ap (λ (h : Held). h.tail.used) c.self.view_is, c.if-self-eq0.true));
}

pub returns-clause-ended : goal.returns-clause-ended
returns-clause-ended g c = on_ok c.clear_oldest.result (λ fine. record {
  same =
      let v = c.args.self.now in
      where_told (g.M.Medium.state c.args.medium.now).image _ (IfKnown v (SameDays v.shape)) (λ x y was now.
      let y_is : y ≡ put_all (mend_pieces v) x = turned_into (put_all (mend_pieces v)) (c.clear_oldest.ensures.puts.written fine) was now in
      subst (λ (l : List ℕ). IfKnown v (SameDays v.shape) x l) (sym y_is)
      (mended_same v c.clear_oldest.ensures.held x (omega (arith, c.requires.fits, (g.met.M.Medium.coherent c.args.medium.now).sized x was))));
  mended =
      let v = c.args.self.now in
      where_told (g.M.Medium.state c.args.medium.now).image _ (λ x y. (days : List Day) → Knows v x days → IsDropMended v.shape days x y) (λ x y was now.
      let y_is : y ≡ put_all (mend_pieces v) x = turned_into (put_all (mend_pieces v)) (c.clear_oldest.ensures.puts.written fine) was now in
      subst (λ (l : List ℕ). (days : List Day) → Knows v x days → IsDropMended v.shape days x l) (sym y_is)
      (mended_is v c.clear_oldest.ensures.held x (omega (arith, c.requires.fits, (g.met.M.Medium.coherent c.args.medium.now).sized x was))
      (omega (arith, ap (λ (h : Held). h.tail.used) c.self.view_is, c.if-self-eq0.false))));
  knows =
      let v = c.args.self.now in
      where_told (g.M.Medium.state c.args.medium.now).image _ (λ x y. (days : List Day) → Knows v x days → Knows v y days) (λ x y was now.
      let y_is : y ≡ put_all (mend_pieces v) x = turned_into (put_all (mend_pieces v)) (c.clear_oldest.ensures.puts.written fine) was now in
      subst (λ (l : List ℕ). (days : List Day) → Knows v x days → Knows v l days) (sym y_is)
      (mended_knows v c.clear_oldest.ensures.held x (omega (arith, c.requires.fits, (g.met.M.Medium.coherent c.args.medium.now).sized x was))));
  settled = λ some low.
      let puts = c.clear_oldest.ensures.puts in
      puts.settled fine (inl (omega (arith, low, puts.begun fine))) low;
})

pub returns-clause-empty : goal.returns-clause-empty
returns-clause-empty g c = λ none. absurd (omega (arith, none, ap (λ (h : Held). h.tail.used) c.self.view_is, c.if-self-eq0.false))

pub returns-clause-moments : goal.returns-clause-moments
returns-clause-moments g c = weaken c.clear_oldest.ensures.puts.leaves (λ x d was part.
    mending_same c.args.self.now c.clear_oldest.ensures.held x (omega (arith, c.requires.fits, (g.met.M.Medium.coherent c.args.medium.now).sized x was)) d part)
