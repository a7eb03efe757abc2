use Rattle.std.proofs.lemmas.Grind.{common_steps}
use Rattle.std.proofs.Common.{Some, refl, ◌∙◌, ap, rules, arith}
use Rattle.tach_media.proofs.Runs.{weaken}
use Rattle.card_session.specs.Sessions.{Session}
use Rattle.card_session.specs.Cards.{grown}
use Rattle.card_session.proofs.Told.{session}
use Rattle.card_session.proofs.Keeping.{kept_moment, kept_told}
use Rattle.card_session.proofs.session.CardSession.keep.Goals as goal

pub returns-in_err-enter-clause-alters : goal.returns-in_err-enter-clause-alters
returns-in_err-enter-clause-alters g c = record {
  done = first_of (search rules, grind (arith, common_steps));
  moments =
      let s = c.args.self.now in
      let k = c.args.kept.now in
      let e = c.in_err-enter.ensures in
      let more = c.grown-km.ensures.km ∙ ap (λ (t : Session). grown t.odometer k.odometer.0) c.self.view_is in
      weaken e.part.leaves (λ x d was part knows. kept_moment s e.value k.odometer.0 c.grown-km.result k.entry x d c.requires.later more part knows);
  settled = first_of (search rules, grind (arith, common_steps));
  cause = first_of (search rules, grind (arith, common_steps));
  most = first_of (search rules, grind (arith, common_steps));
}

pub returns-clause-alters : goal.returns-clause-alters
returns-clause-alters g c = record {
  done =
      let s = c.args.self.now in
      let k = c.args.kept.now in
      let e = c.in_ok-enter.ensures in
      let more = c.grown-km.ensures.km ∙ ap (λ (t : Session). grown t.odometer k.odometer.0) c.self.view_is in
      let view = c.self-2.view_is in
      let i = c.self-2.inside in
      let u : Session = session i.application i.days i.vehicles i.newest i.vehicle i.registration k.entry.minute (Some k.odometer) in
      kept_told s e.value k.odometer.0 c.grown-km.result k.entry c.enter.new.self u c.requires.later more e.same.0 e.part
      (ap (λ (t : Session). t.application) view) (ap (λ (t : Session). t.days) view) (ap (λ (t : Session). t.newest) view) (ap (λ (t : Session). t.vehicle) view) refl;
  moments =
      let s = c.args.self.now in
      let k = c.args.kept.now in
      let e = c.in_ok-enter.ensures in
      let more = c.grown-km.ensures.km ∙ ap (λ (t : Session). grown t.odometer k.odometer.0) c.self.view_is in
      weaken e.part.leaves (λ x d was part knows. kept_moment s e.value k.odometer.0 c.grown-km.result k.entry x d c.requires.later more part knows);
  settled = first_of (search rules, grind (arith, common_steps));
  cause = first_of (search rules, grind (arith, common_steps));
  most = first_of (search rules, grind (arith, common_steps));
}

pub returns-in_err-enter-clause-few : goal.returns-in_err-enter-clause-few
returns-in_err-enter-clause-few g c = λ ends. c.in_err-enter.ensures.few ends

pub returns-clause-few : goal.returns-clause-few
returns-clause-few g c = λ ends. c.in_ok-enter.ensures.few ends
