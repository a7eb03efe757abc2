use Rattle.std.proofs.lemmas.Grind.{common_steps}
use Rattle.std.proofs.Common.{◌≡◌, ◌∙◌, ℕ, List, [], Some, refl, ap, sym, subst, inl, rules, arith}
use Rattle.std.proofs.KnownBytes.{Appends-nil, Keeps-refl}
use Rattle.std.proofs.lemmas.Result.{on_ok_weaker, IfErr-weaker}
use Rattle.link_loader.specs.declared.fault.LoadFault.{LoadFault}
use Rattle.link_loader.specs.declared.fault.LoadFault.TheVariants as faults
use Rattle.link_loader.specs.Loading.{Loading, Load, closed, IsRefused, LeavesSink, left_by}
use Rattle.link_loader.proofs.FrameKinds.{passed_goes_on, agreed_goes_on, single_closes}
use Rattle.link_loader.proofs.Taking.{put_taken, put_refused, put_sink, put_left, negative_not}
use Rattle.link_loader.proofs.Closing.{not_put_not_memory}
use Rattle.link_loader.proofs.downloader.Downloader.take_kind.Goals as goal

pub returns-in-Negative-clause-taken : goal.returns-in-Negative-clause-taken
returns-in-Negative-clause-taken g c =
    let now = c.args.self.now.loading in
    on_ok_weaker c.pass_over.result (λ p. ([], inl (passed_goes_on now c.args.frame.now c.in-Negative.service c.in-Negative.code p.0 (sym c.requires.kind ∙ c.in-Negative.is) p.1 ∙ ap (λ (l : Loading). Some l) (sym p.2), refl), Appends-nil (g.K.Sink.held c.args.sink.now))) c.pass_over.ensures.passed

pub returns-in-Negative-clause-refused : goal.returns-in-Negative-clause-refused
returns-in-Negative-clause-refused g c =
    let now = c.args.self.now.loading in
    IfErr-weaker c.pass_over.result _ (IsRefused now c.args.frame.now) (λ fault p. subst (λ (f : LoadFault). IsRefused now c.args.frame.now f) (sym p.0) ((sym c.requires.kind ∙ c.in-Negative.is), p.1)) c.pass_over.ensures.refused

pub returns-in-Negative-clause-left : goal.returns-in-Negative-clause-left
returns-in-Negative-clause-left g c =
    let now = c.args.self.now.loading in
    IfErr-weaker c.pass_over.result _ (λ fault. c.pass_over.new.self.loading ≡ left_by fault now) (λ fault p. p.2 ∙ ap (λ (f : LoadFault). left_by f now) (sym p.0)) c.pass_over.ensures.refused

pub returns-in-Negative-clause-same : goal.returns-in-Negative-clause-same
returns-in-Negative-clause-same g c =
    let known = IfErr-weaker c.pass_over.result _ (λ fault. fault ≡ faults.Negative c.in-Negative.service c.in-Negative.code) (λ fault p. p.0) c.pass_over.ensures.refused in
    λ is. negative_not c.pass_over.result c.in-Negative.service c.in-Negative.code faults.Memory known (λ e. absurd (cc)) is

pub returns-in-Negative-clause-faults : goal.returns-in-Negative-clause-faults
returns-in-Negative-clause-faults g c = record {
  later = first_of (search rules, grind (arith, common_steps));
  cause =
      let known = IfErr-weaker c.pass_over.result _ (λ fault. fault ≡ faults.Negative c.in-Negative.service c.in-Negative.code) (λ fault p. p.0) c.pass_over.ensures.refused in
      λ is. negative_not c.pass_over.result c.in-Negative.service c.in-Negative.code faults.WriteFault known (λ e. absurd (cc)) is;
}

pub returns-in-Negative-clause-memory : goal.returns-in-Negative-clause-memory
returns-in-Negative-clause-memory g c = record {
  room = first_of (search rules, grind (arith, common_steps));
  enough =
      let known = IfErr-weaker c.pass_over.result _ (λ fault. fault ≡ faults.Negative c.in-Negative.service c.in-Negative.code) (λ fault p. p.0) c.pass_over.ensures.refused in
      λ is. negative_not c.pass_over.result c.in-Negative.service c.in-Negative.code faults.Memory known (λ e. absurd (cc)) is;
}

pub returns-in-Negative-clause-sink : goal.returns-in-Negative-clause-sink
returns-in-Negative-clause-sink g c =
    let now = c.args.self.now.loading in
    IfErr-weaker c.pass_over.result _ (λ fault. LeavesSink now c.args.frame.now fault (g.K.Sink.held c.args.sink.now) (g.K.Sink.held c.args.sink.now)) (λ fault p. subst (λ (f : LoadFault). LeavesSink now c.args.frame.now f (g.K.Sink.held c.args.sink.now) (g.K.Sink.held c.args.sink.now)) (sym p.0) (Keeps-refl (g.K.Sink.held c.args.sink.now))) c.pass_over.ensures.refused

pub returns-in-Broken-clause-refused : goal.returns-in-Broken-clause-refused
returns-in-Broken-clause-refused g c =
    sym c.requires.kind ∙ c.in-Broken.is

pub returns-in-Broken-clause-sink : goal.returns-in-Broken-clause-sink
returns-in-Broken-clause-sink g c =
    Keeps-refl (g.K.Sink.held c.args.sink.now)

pub returns-in-Broken-clause-same : goal.returns-in-Broken-clause-same
returns-in-Broken-clause-same g c =
    λ is. absurd (cc)

pub returns-in-Broken-clause-faults : goal.returns-in-Broken-clause-faults
returns-in-Broken-clause-faults g c = record {
  later = first_of (search rules, grind (arith, common_steps));
  cause = λ is. absurd (cc);
}

pub returns-in-Broken-clause-memory : goal.returns-in-Broken-clause-memory
returns-in-Broken-clause-memory g c = record {
  room = first_of (search rules, grind (arith, common_steps));
  enough = λ is. absurd (cc);
}

pub returns-in-Other-clause-refused : goal.returns-in-Other-clause-refused
returns-in-Other-clause-refused g c =
    inl (sym c.requires.kind ∙ c.in-Other.is)

pub returns-in-Other-clause-sink : goal.returns-in-Other-clause-sink
returns-in-Other-clause-sink g c =
    Keeps-refl (g.K.Sink.held c.args.sink.now)

pub returns-in-Other-clause-same : goal.returns-in-Other-clause-same
returns-in-Other-clause-same g c =
    λ is. absurd (cc)

pub returns-in-Other-clause-faults : goal.returns-in-Other-clause-faults
returns-in-Other-clause-faults g c = record {
  later = first_of (search rules, grind (arith, common_steps));
  cause = λ is. absurd (cc);
}

pub returns-in-Other-clause-memory : goal.returns-in-Other-clause-memory
returns-in-Other-clause-memory g c = record {
  room = first_of (search rules, grind (arith, common_steps));
  enough = λ is. absurd (cc);
}

pub returns-in-Agreed-clause-taken : goal.returns-in-Agreed-clause-taken
returns-in-Agreed-clause-taken g c =
    let now = c.args.self.now.loading in
    ([], inl (agreed_goes_on now c.args.frame.now (sym c.requires.kind ∙ c.in-Agreed.is) ∙ ap (λ (l : Load). Some l.loading) (sym c.agree.ensures), refl), Appends-nil (g.K.Sink.held c.args.sink.now))

pub returns-in-Agreed-clause-same : goal.returns-in-Agreed-clause-same
returns-in-Agreed-clause-same g c =
    λ is. absurd (cc)

pub returns-in-Agreed-clause-faults : goal.returns-in-Agreed-clause-faults
returns-in-Agreed-clause-faults g c = record {
  later = first_of (search rules, grind (arith, common_steps));
  cause = λ is. absurd (cc);
}

pub returns-in-Agreed-clause-memory : goal.returns-in-Agreed-clause-memory
returns-in-Agreed-clause-memory g c = record {
  room = first_of (search rules, grind (arith, common_steps));
  enough = λ is. absurd (cc);
}

pub returns-in-Single-clause-taken : goal.returns-in-Single-clause-taken
returns-in-Single-clause-taken g c =
    let now = c.args.self.now.loading in
    let closes : closed now c.args.frame.now ≡ Some (c.in-Single.request, c.bytes.result.now) = single_closes now c.args.frame.now c.in-Single.request (sym c.requires.kind ∙ c.in-Single.is) ∙ ap (λ (b : List ℕ). Some (c.in-Single.request, b)) (sym c.bytes.ensures.value) in
    put_taken now c.finish.new.self.loading c.args.frame.now c.in-Single.request c.bytes.result.now closes (g.K.Sink.held c.args.sink.now) (g.K.Sink.held c.finish.new.sink) c.finish.result c.finish.ensures.put

pub returns-in-Single-clause-refused : goal.returns-in-Single-clause-refused
returns-in-Single-clause-refused g c =
    let now = c.args.self.now.loading in
    let closes : closed now c.args.frame.now ≡ Some (c.in-Single.request, c.bytes.result.now) = single_closes now c.args.frame.now c.in-Single.request (sym c.requires.kind ∙ c.in-Single.is) ∙ ap (λ (b : List ℕ). Some (c.in-Single.request, b)) (sym c.bytes.ensures.value) in
    put_refused now c.finish.new.self.loading c.args.frame.now c.in-Single.request c.bytes.result.now closes (g.K.Sink.held c.args.sink.now) (g.K.Sink.held c.finish.new.sink) c.finish.result c.finish.ensures.not

pub returns-in-Single-clause-left : goal.returns-in-Single-clause-left
returns-in-Single-clause-left g c =
    let now = c.args.self.now.loading in
    put_left now c.finish.new.self.loading c.in-Single.request c.bytes.result.now (g.K.Sink.held c.args.sink.now) (g.K.Sink.held c.finish.new.sink) c.finish.result c.finish.ensures.not c.finish.ensures.over

pub returns-in-Single-clause-same : goal.returns-in-Single-clause-same
returns-in-Single-clause-same g c =
    λ is. not_put_not_memory c.finish.result c.in-Single.request c.bytes.result.now (g.K.Sink.held c.args.sink.now) (g.K.Sink.held c.finish.new.sink) c.finish.ensures.not is

pub returns-in-Single-clause-memory : goal.returns-in-Single-clause-memory
returns-in-Single-clause-memory g c = record {
  room = first_of (search rules, grind (arith, common_steps));
  enough = λ is. not_put_not_memory c.finish.result c.in-Single.request c.bytes.result.now (g.K.Sink.held c.args.sink.now) (g.K.Sink.held c.finish.new.sink) c.finish.ensures.not is;
}

pub returns-in-Single-clause-sink : goal.returns-in-Single-clause-sink
returns-in-Single-clause-sink g c =
    let now = c.args.self.now.loading in
    let closes : closed now c.args.frame.now ≡ Some (c.in-Single.request, c.bytes.result.now) = single_closes now c.args.frame.now c.in-Single.request (sym c.requires.kind ∙ c.in-Single.is) ∙ ap (λ (b : List ℕ). Some (c.in-Single.request, b)) (sym c.bytes.ensures.value) in
    put_sink now c.finish.new.self.loading c.args.frame.now c.in-Single.request c.bytes.result.now closes (g.K.Sink.held c.args.sink.now) (g.K.Sink.held c.finish.new.sink) c.finish.result c.finish.ensures.not

pub returns-in-Single-clause-faults : goal.returns-in-Single-clause-faults
returns-in-Single-clause-faults g c = record {
  later = first_of (search rules, grind (arith, common_steps));
  cause = first_of (search rules, grind (arith, common_steps));
}

pub returns-in-Piece-clause-faults : goal.returns-in-Piece-clause-faults
returns-in-Piece-clause-faults g c = c.join.ensures.faults

pub returns-in-Piece-clause-memory : goal.returns-in-Piece-clause-memory
returns-in-Piece-clause-memory g c = c.join.ensures.memory
