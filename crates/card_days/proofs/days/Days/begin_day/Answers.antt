use Rattle.std.proofs.lemmas.Grind.{common_steps}
use Rattle.std.proofs.Common.{◌≡◌, ℕ, ◌+◌, ◌*◌, ◌<◌, List, length, arith, ap, sym, refl, ◌∙◌, subst, rules, true}
use Rattle.tach_media.proofs.Runs.{weaken, at_image, where_told, turned_into, alters_failed}
use Rattle.std.specs.Prelude.{is_err}
use Rattle.tach_media.specs.Plan.{put_all}
use Rattle.card_model.specs.Image.{StringShape}
use Rattle.card_days.specs.declared.head.Tail.{Tail}
use Rattle.card_days.specs.Held.{Held, IsInBounds}
use Rattle.card_days.specs.Moments.{IfKnown, IsDayBegun, KnowsBegun, ClearsBegun, BeginsAgain}
use Rattle.card_days.specs.Plans.{left_in, beginning_pieces, tail_begun}
use Rattle.card_days.proofs.Starting.{beginning_known, begun_told, begun_knows, begun_clears, begins_again, beginning_count}
use Rattle.card_days.proofs.Told.{from_told}
use Rattle.card_days.proofs.days.Days.begin_day.Goals as goal

abbrev hold : StringShape → Tail → Held
hold r t = record { shape = r; tail = t }

pub returns-in_err-used-clause-alters : goal.returns-in_err-used-clause-alters
returns-in_err-used-clause-alters g c =
    let failed : is_err c.from_residual.result ≡ true = search rules in
    alters_failed c.from_residual.result failed
    (let is : IsInBounds c.args.self.now = subst (λ (h : Held). IsInBounds h) c.self.view_is c.self.invariant in
    weaken c.in_err-used.ensures.puts.leaves (λ x d was part.
    beginning_known c.args.self.now is c.args.date.0 c.args.words.now c.requires.some c.requires.few x (omega (arith, c.requires.fits, (g.met.M.Medium.coherent c.args.medium.now).sized x was)) d part))
    c.in_err-used.ensures.puts.cause
    (omega (arith, c.in_err-used.ensures.puts.clock))

pub returns-in_err-used-clause-writes : goal.returns-in_err-used-clause-writes
returns-in_err-used-clause-writes g c =
    let is : IsInBounds c.args.self.now = subst (λ (h : Held). IsInBounds h) c.self.view_is c.self.invariant in
    from_told (g.M.Medium.state c.args.medium.now).image _ _ c.in_err-used.ensures.exact (λ x was exact days k.
    omega (arith, exact, beginning_count c.args.self.now is c.args.date.0 c.args.words.now c.requires.some c.requires.few x (omega (arith, c.requires.fits, (g.met.M.Medium.coherent c.args.medium.now).sized x was)) days k))

pub returns-clause-alters : goal.returns-clause-alters
returns-clause-alters g c = record {
  done =
      let v = c.args.self.now in
      let is : IsInBounds c.args.self.now = subst (λ (h : Held). IsInBounds h) c.self.view_is c.self.invariant in
      where_told (g.M.Medium.state c.args.medium.now).image _ (IfKnown v (IsDayBegun v.shape c.args.date.0 c.args.words.now)) (λ x y was now.
      let y_is : y ≡ put_all (beginning_pieces v c.args.date.0 c.args.words.now x) x = turned_into (λ x. put_all (beginning_pieces v c.args.date.0 c.args.words.now x) x) (c.in_ok-used.ensures.puts.written refl) was now in
      subst (λ (l : List ℕ). IfKnown v (IsDayBegun v.shape c.args.date.0 c.args.words.now) x l) (sym y_is)
      (begun_told v is c.args.date.0 c.args.words.now c.requires.some c.requires.few x (omega (arith, c.requires.fits, (g.met.M.Medium.coherent c.args.medium.now).sized x was))));
  moments =
      let is : IsInBounds c.args.self.now = subst (λ (h : Held). IsInBounds h) c.self.view_is c.self.invariant in
      weaken c.in_ok-used.ensures.puts.leaves (λ x d was part.
      beginning_known c.args.self.now is c.args.date.0 c.args.words.now c.requires.some c.requires.few x (omega (arith, c.requires.fits, (g.met.M.Medium.coherent c.args.medium.now).sized x was)) d part);
  settled = first_of (search rules, grind (arith, common_steps));
  cause = first_of (search rules, grind (arith, common_steps));
  most = first_of (search rules, grind (arith, common_steps));
}

pub returns-clause-writes : goal.returns-clause-writes
returns-clause-writes g c =
    let is : IsInBounds c.args.self.now = subst (λ (h : Held). IsInBounds h) c.self.view_is c.self.invariant in
    from_told (g.M.Medium.state c.args.medium.now).image _ _ c.in_ok-used.ensures.exact (λ x was exact days k.
    omega (arith, exact, beginning_count c.args.self.now is c.args.date.0 c.args.words.now c.requires.some c.requires.few x (omega (arith, c.requires.fits, (g.met.M.Medium.coherent c.args.medium.now).sized x was)) days k))

pub returns-clause-began : goal.returns-clause-began
returns-clause-began g c = record {
  knows =
      let v = c.args.self.now in
      let w = c.args.words.now in
      let is : IsInBounds c.args.self.now = subst (λ (h : Held). IsInBounds h) c.self.view_is c.self.invariant in
      let used = c.in_ok-used.used in
      let next_is : hold c.self.inside.circle c.new_tail-self-inside.result ≡ hold v.shape (tail_begun v c.args.date.0 w used) =
      ap (λ (t : Tail). hold c.self.inside.circle t) c.new_tail-self-inside.ensures.tail ∙ ap (λ (h : Held). hold h.shape (tail_begun v c.args.date.0 w used)) c.self.view_is in
      where_told (g.M.Medium.state c.args.medium.now).image _ (KnowsBegun v (hold c.self.inside.circle c.new_tail-self-inside.result) c.args.date.0 w) (λ x y was now.
      let y_is : y ≡ put_all (beginning_pieces v c.args.date.0 w x) x = turned_into (λ x. put_all (beginning_pieces v c.args.date.0 w x) x) (c.in_ok-used.ensures.puts.written refl) was now in
      subst (λ (l : List ℕ). KnowsBegun v (hold c.self.inside.circle c.new_tail-self-inside.result) c.args.date.0 w x l) (sym y_is)
      (begun_knows v is c.args.date.0 w c.requires.some c.requires.few x (omega (arith, c.requires.fits, (g.met.M.Medium.coherent c.args.medium.now).sized x was)) (hold c.self.inside.circle c.new_tail-self-inside.result) used next_is
      (at_image (λ x. used ≡ left_in v (12 + 2 * length w) x (left_in v (12 + 2 * length w) x v.tail.used) + (12 + 2 * length w)) was c.in_ok-used.ensures.used)));
  cleared =
      let v = c.args.self.now in
      let is : IsInBounds c.args.self.now = subst (λ (h : Held). IsInBounds h) c.self.view_is c.self.invariant in
      where_told (g.M.Medium.state c.args.medium.now).image _ (ClearsBegun v c.args.date.0 c.args.words.now) (λ x y was now.
      let y_is : y ≡ put_all (beginning_pieces v c.args.date.0 c.args.words.now x) x = turned_into (λ x. put_all (beginning_pieces v c.args.date.0 c.args.words.now x) x) (c.in_ok-used.ensures.puts.written refl) was now in
      subst (λ (l : List ℕ). ClearsBegun v c.args.date.0 c.args.words.now x l) (sym y_is)
      (begun_clears v is c.args.date.0 c.args.words.now c.requires.some c.requires.few x (omega (arith, c.requires.fits, (g.met.M.Medium.coherent c.args.medium.now).sized x was))));
  again =
      let v = c.args.self.now in
      let is : IsInBounds c.args.self.now = subst (λ (h : Held). IsInBounds h) c.self.view_is c.self.invariant in
      where_told (g.M.Medium.state c.args.medium.now).image _ (BeginsAgain v c.args.date.0 c.args.words.now) (λ x y was now.
      let y_is : y ≡ put_all (beginning_pieces v c.args.date.0 c.args.words.now x) x = turned_into (λ x. put_all (beginning_pieces v c.args.date.0 c.args.words.now x) x) (c.in_ok-used.ensures.puts.written refl) was now in
      subst (λ (l : List ℕ). BeginsAgain v c.args.date.0 c.args.words.now x l) (sym y_is)
      (begins_again v is c.args.date.0 c.args.words.now c.requires.some c.requires.few x (omega (arith, c.requires.fits, (g.met.M.Medium.coherent c.args.medium.now).sized x was))));
}

pub returns-clause-ends : goal.returns-clause-ends
returns-clause-ends g c =
    let told = c.new_tail-self-inside.ensures.tail in
    record {
      some = subst (λ (n : ℕ). 0 < n) (sym (ap (λ (t : Tail). t.used) told)) c.in_ok-used.ensures.some;
      date_is = ap (λ (t : Tail). t.head.date.0) told;
      word_is = ap (λ (t : Tail). t.latest) told;
    }
