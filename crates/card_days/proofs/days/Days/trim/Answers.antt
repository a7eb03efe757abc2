use Rattle.std.proofs.Common.{rules, ◌≡◌, ℕ, Bool, true, List, [], Option, Some, IfSome, refl, sym, ◌∙◌, subst, ap, arith}
use Rattle.std.specs.Prelude.{is_err}
use Rattle.tach_media.specs.Medium.{Reads}
use Rattle.tach_media.proofs.Runs.{at_image, where_told, reads_then}
use Rattle.card_model.specs.Days.{Day}
use Rattle.card_model.specs.Changes.{trimmed}
use Rattle.card_model.specs.Image.{StringShape, HoldsDays}
use Rattle.card_days.specs.declared.head.Tail.{Tail}
use Rattle.card_days.specs.Held.{Held, Knows}
use Rattle.card_days.specs.Trim.{IsTrim}
use Rattle.card_days.proofs.Settling.{settled_reads}
use Rattle.card_days.proofs.Told.{from_told}
use Rattle.card_days.proofs.days.Days.trim.Goals as goal

abbrev hold : StringShape → Tail → Held
hold r t = record { shape = r; tail = t }

pub returns-in_err-self-inside-clause-empty : goal.returns-in_err-self-inside-clause-empty
returns-in_err-self-inside-clause-empty g c =
    let old = g.M.Medium.state c.args.medium.now in
    let mid = g.M.Medium.state c.trim.new.medium in
    let new = g.M.Medium.state c.tail.new.medium in
    let r = c.args.self.now.shape in
    let same : c.self.inside.circle ≡ r = ap (λ (h : Held). h.shape) c.self.view_is in
    let failed : is_err c.from_residual-in_err-self-inside.result ≡ true = search rules in
    from_told old.image _ _ c.in_ok-trim.ensures.empty (λ x was empty none.
    subst (λ (b : Bool). Reads old new b) (sym failed) (reads_then (empty (subst (λ (s : StringShape). HoldsDays s x []) (sym same) none)) c.in_err-self-inside.ensures.reads))

pub returns-clause-empty : goal.returns-clause-empty
returns-clause-empty g c =
    let old = g.M.Medium.state c.args.medium.now in
    let r = c.args.self.now.shape in
    let same : c.self.inside.circle ≡ r = ap (λ (h : Held). h.shape) c.self.view_is in
    from_told old.image _ _ c.in_ok-trim.ensures.empty (λ x was empty none. reads_then (empty (subst (λ (s : StringShape). HoldsDays s x []) (sym same) none)) c.in_ok-self-inside.ensures.reads)

pub returns-clause-cut : goal.returns-clause-cut
returns-clause-cut g c = record {
  is =
      let old = g.M.Medium.state c.args.medium.now in
      let new = g.M.Medium.state c.tail.new.medium in
      let m = c.args.minute in
      let same : c.self.inside.circle ≡ c.args.self.now.shape = ap (λ (h : Held). h.shape) c.self.view_is in
      subst (λ (s : StringShape). IfSome old.image (λ x. IfSome new.image (IsTrim s m x))) same
      (subst (λ (o : Option (List ℕ)). IfSome old.image (λ x. IfSome o (IsTrim c.self.inside.circle m x))) (sym (c.in_ok-self-inside.ensures.reads.same refl)) c.in_ok-trim.ensures.trimmed.is);
  knows =
      let old = g.M.Medium.state c.args.medium.now in
      let mid = g.M.Medium.state c.trim.new.medium in
      let r = c.args.self.now.shape in
      let m = c.args.minute in
      let same : c.self.inside.circle ≡ r = ap (λ (h : Held). h.shape) c.self.view_is in
      let next = hold c.self.inside.circle c.in_ok-self-inside.field-0 in
      where_told old.image _ (λ x y. (days : List Day) → HoldsDays r x days → Knows (hold c.self.inside.circle c.in_ok-self-inside.field-0) y (trimmed m days)) (λ x y was now days h.
      let there : mid.image ≡ Some y = sym (c.in_ok-self-inside.ensures.reads.same refl) ∙ now in
      let step = at_image (IsTrim c.self.inside.circle m x) there (at_image (λ x. IfSome mid.image (IsTrim c.self.inside.circle m x)) was c.in_ok-trim.ensures.trimmed.is) in
      at_image (λ y. (days : List Day) → HoldsDays c.self.inside.circle y days → Knows (hold c.self.inside.circle c.in_ok-self-inside.field-0) y days) there c.in_ok-self-inside.ensures.knows (trimmed m days)
      (step.list days (subst (λ (s : StringShape). HoldsDays s x days) (sym same) h)));
  settled =
      let old = g.M.Medium.state c.args.medium.now in
      let r = c.args.self.now.shape in
      let same : c.self.inside.circle ≡ r = ap (λ (h : Held). h.shape) c.self.view_is in
      from_told old.image _ _ c.in_ok-trim.ensures.trimmed.settled (λ x was settled days h some.
      settled_reads c.in_ok-self-inside.ensures.reads (settled days (subst (λ (s : StringShape). HoldsDays s x days) (sym same) h) some));
  still = λ was. settled_reads c.in_ok-self-inside.ensures.reads (c.in_ok-trim.ensures.trimmed.still was);
}

pub returns-in_err-trim-clause-writes : goal.returns-in_err-trim-clause-writes
returns-in_err-trim-clause-writes g c =
    let same : c.self.inside.circle ≡ c.args.self.now.shape = ap (λ (h : Held). h.shape) c.self.view_is in
    from_told (g.M.Medium.state c.args.medium.now).image _ _ c.trim.ensures.writes (λ x was few days h. few days (subst (λ (s : StringShape). HoldsDays s x days) (sym same) h))

pub returns-in_err-self-inside-clause-writes : goal.returns-in_err-self-inside-clause-writes
returns-in_err-self-inside-clause-writes g c =
    let same : c.self.inside.circle ≡ c.args.self.now.shape = ap (λ (h : Held). h.shape) c.self.view_is in
    from_told (g.M.Medium.state c.args.medium.now).image _ _ c.trim.ensures.writes (λ x was few days h.
    omega (arith, few days (subst (λ (s : StringShape). HoldsDays s x days) (sym same) h), c.in_err-self-inside.ensures.reads.clock))

pub returns-clause-writes : goal.returns-clause-writes
returns-clause-writes g c =
    let same : c.self.inside.circle ≡ c.args.self.now.shape = ap (λ (h : Held). h.shape) c.self.view_is in
    from_told (g.M.Medium.state c.args.medium.now).image _ _ c.trim.ensures.writes (λ x was few days h.
    omega (arith, few days (subst (λ (s : StringShape). HoldsDays s x days) (sym same) h), c.in_ok-self-inside.ensures.reads.clock))
