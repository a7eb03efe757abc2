use Rattle.std.proofs.lemmas.Grind.{common_steps}
use Rattle.std.proofs.Common.{rules, ◌≡◌, ℕ, List, arith, sym, subst, ap, refl, ◌∙◌}
use Rattle.tach_media.proofs.Runs.{weaken, where_told, turned_into}
use Rattle.tach_media.specs.Plan.{put_all}
use Rattle.card_model.specs.Image.{StringShape}
use Rattle.card_days.specs.declared.head.Tail.{Tail}
use Rattle.card_days.specs.Held.{Held, IsInBounds}
use Rattle.card_days.specs.Moments.{IfKnown}
use Rattle.card_days.specs.Plans.{km_pieces, tail_km}
use Rattle.card_days.specs.Steps.{IsMeasured, KnowsMeasured}
use Rattle.card_days.proofs.OneWrite.{measured_known, measuring_known, measured_knows}
use Rattle.card_days.proofs.days.Days.set_distance.Goals as goal

abbrev hold : StringShape → Tail → Held
hold r t = record { shape = r; tail = t }

pub returns-in_err-write_km-clause-alters : goal.returns-in_err-write_km-clause-alters
returns-in_err-write_km-clause-alters g c = record {
  done = first_of (search rules, grind (arith, common_steps));
  moments =
      let is : IsInBounds c.args.self.now = subst (λ (h : Held). IsInBounds h) c.self.view_is c.self.invariant in
      weaken c.in_err-write_km.ensures.puts.leaves (λ x d was part.
      measuring_known c.args.self.now is x (omega (arith, c.requires.fits, (g.met.M.Medium.coherent c.args.medium.now).sized x was)) c.args.km.0 d part);
  settled = first_of (search rules, grind (arith, common_steps));
  cause = first_of (search rules, grind (arith, common_steps));
  most = first_of (search rules, grind (arith, common_steps));
}

pub returns-clause-alters : goal.returns-clause-alters
returns-clause-alters g c = record {
  done =
      let v = c.args.self.now in
      let km = c.args.km.0 in
      let is : IsInBounds c.args.self.now = subst (λ (h : Held). IsInBounds h) c.self.view_is c.self.invariant in
      where_told (g.M.Medium.state c.args.medium.now).image _ (IfKnown v (IsMeasured v.shape km)) (λ x y was now.
      let y_is : y ≡ put_all (km_pieces v km) x = turned_into (put_all (km_pieces v km)) (c.in_ok-write_km.ensures.puts.written refl) was now in
      subst (λ (l : List ℕ). IfKnown v (IsMeasured v.shape km) x l) (sym y_is)
      (measured_known v is x (omega (arith, c.requires.fits, (g.met.M.Medium.coherent c.args.medium.now).sized x was)) km));
  moments =
      let is : IsInBounds c.args.self.now = subst (λ (h : Held). IsInBounds h) c.self.view_is c.self.invariant in
      weaken c.in_ok-write_km.ensures.puts.leaves (λ x d was part.
      measuring_known c.args.self.now is x (omega (arith, c.requires.fits, (g.met.M.Medium.coherent c.args.medium.now).sized x was)) c.args.km.0 d part);
  settled = first_of (search rules, grind (arith, common_steps));
  cause = first_of (search rules, grind (arith, common_steps));
  most = first_of (search rules, grind (arith, common_steps));
}

pub returns-clause-knows : goal.returns-clause-knows
returns-clause-knows g c =
    let v = c.args.self.now in
    let km = c.args.km.0 in
    let is : IsInBounds c.args.self.now = subst (λ (h : Held). IsInBounds h) c.self.view_is c.self.invariant in
    let next_is : hold c.self.inside.circle c.with_km-self-inside.result ≡ hold v.shape (tail_km v.tail km) =
    ap (λ (t : Tail). hold c.self.inside.circle t) c.with_km-self-inside.ensures.tail ∙ ap (λ (h : Held). hold h.shape (tail_km h.tail km)) c.self.view_is in
    where_told (g.M.Medium.state c.args.medium.now).image _ (KnowsMeasured v (hold c.self.inside.circle c.with_km-self-inside.result) km) (λ x y was now.
    let y_is : y ≡ put_all (km_pieces v km) x = turned_into (put_all (km_pieces v km)) (c.in_ok-write_km.ensures.puts.written refl) was now in
    subst (λ (l : List ℕ). KnowsMeasured v (hold c.self.inside.circle c.with_km-self-inside.result) km x l) (sym y_is)
    (measured_knows v is x (omega (arith, c.requires.fits, (g.met.M.Medium.coherent c.args.medium.now).sized x was)) km (hold c.self.inside.circle c.with_km-self-inside.result) next_is))
