use Rattle.std.proofs.lemmas.Grind.{common_steps}
use Rattle.std.proofs.Common.{◌∙◌, ℕ, List, [], ◌∷◌, ◌++◌, refl, sym, ap, Err, arith, rules}
use Rattle.tach_media.proofs.Runs.{bytes_told}
use Rattle.unit_messages.proofs.Calls.{any_then}
use Rattle.unit_download.specs.declared.fault.DownloadFault.TheVariants.{Changed}
use Rattle.unit_download.specs.Wires.{of_loader, of_unit}
use Rattle.unit_download.proofs.Faults.{on_err, fault_is, passed_reads, failed_reads, untaken_reads}
use Rattle.unit_download.proofs.Talking.{talking_none, talking_on, unanswered_ends, unanswered_untold, unanswered_front, untaken_ends, untaken_untold, untaken_front, talking_done, talking_file}
use Rattle.unit_download.proofs.loading.exchange_all.Goals as goal

pub returns-in_err-frame-clause-downloaded : goal.returns-in_err-frame-clause-downloaded
returns-in_err-frame-clause-downloaded g c =
    let stops = c.in_err-frame.ensures.stops in
    let v = c.loop-sent.invariant.0 in (
      v.wire ++ stops.0,
      stops.1 v.wire v.has,
      record {
        downloaded =
            unanswered_ends v.talking c.in-Some.sent (sym c.next.ensures.sent ∙ c.in-Some.is) c.in_err-frame.field-0.0 stops.0 stops.2
            c.from_residual.result (v.wire ++ stops.0) c.from_residual.ensures.1 refl;
        file = first_of (search rules, grind (arith, common_steps));
        front =
            on_err c.from_residual.result (bytes_told (g.U.Medium.state c.args.unit.now) _ _ c.holds_bytes.ensures (λ x fit front. front fit) (unanswered_front c.loop-sent.invariant.0.talking c.in-Some.sent (sym c.next.ensures.sent ∙ c.in-Some.is)));
        changed =
            λ is.
            let e = c.in_err-frame.ensures in
            bytes_told (g.U.Medium.state c.args.unit.now) _ _ c.holds_bytes.ensures (λ x fit none. none fit)
            (unanswered_untold c.loop-sent.invariant.0.talking c.in-Some.sent (sym c.next.ensures.sent ∙ c.in-Some.is) c.in_err-frame.field-0.0 e.stops.0 e.stops.2 (λ f. e.unit_judged.found (ap Err f))
            (fault_is c.from_residual.result c.in_err-frame.field-0.0 Changed c.from_residual.ensures.1 is));
        bad = first_of (search rules, grind (arith, common_steps));
        nothing = first_of (search rules, grind (arith, common_steps));
      },
    )

pub returns-in_err-frame-clause-unit : goal.returns-in_err-frame-clause-unit
returns-in_err-frame-clause-unit g c =
    passed_reads c.from_residual.result c.in_err-frame.field-0.0 c.from_residual.ensures.1
    (any_then c.loop-sent.invariant.0.talking.reads (failed_reads (List ℕ) c.in_err-frame.field-0.0 c.in_err-frame.ensures.unit))

pub loop-sent-preserved : goal.loop-sent-preserved
loop-sent-preserved g c =
    let f = c.in_ok-frame.ensures in
    let e = c.in_ok-take.ensures in
    let v = c.loop-sent.invariant.0 in
    let grown = v.wire ++ of_loader c.in-Some.sent ∷ of_unit c.in_ok-frame.frame ∷ [] in (
      record {
        wire = grown;
        has = f.passed v.wire v.has;
        talking = talking_on v.talking c.in-Some.sent (sym c.next.ensures.sent ∙ c.in-Some.is) c.take.new.loader c.answer_to.new.session grown (g.U.Medium.state c.answer_to.new.unit) (g.K.Sink.held c.take.new.sink)
            c.in_ok-frame.frame (record { answers = f.answered; knows = f.knows; judged = f.judged; reads = f.unit }) refl e.taken e.room;
      },
      omega (arith, c.loop-sent.invariant.1, e.counts),
    )

pub returns-in_err-take-clause-downloaded : goal.returns-in_err-take-clause-downloaded
returns-in_err-take-clause-downloaded g c =
    let f = c.in_ok-frame.ensures in
    let v = c.loop-sent.invariant.0 in
    let grown = v.wire ++ of_loader c.in-Some.sent ∷ of_unit c.in_ok-frame.frame ∷ [] in (
      grown,
      f.passed v.wire v.has,
      record {
        downloaded =
            untaken_ends v.talking c.in-Some.sent (sym c.next.ensures.sent ∙ c.in-Some.is) c.in_err-take.field-0.0 c.answer_to.new.session (g.U.Medium.state c.answer_to.new.unit) (g.K.Sink.held c.take.new.sink) c.in_ok-frame.frame
            (record { answers = f.answered; knows = f.knows; judged = f.judged; reads = f.unit }) c.in_err-take.ensures.stops c.from_residual-in_err-take.result grown c.from_residual-in_err-take.ensures.1 refl;
        file = first_of (search rules, grind (arith, common_steps));
        front =
            let f = c.in_ok-frame.ensures in
            on_err c.from_residual-in_err-take.result (bytes_told (g.U.Medium.state c.args.unit.now) _ _ c.holds_bytes.ensures (λ x fit front. front fit)
            (untaken_front c.loop-sent.invariant.0.talking c.in-Some.sent (sym c.next.ensures.sent ∙ c.in-Some.is) c.in_err-take.field-0.0 c.answer_to.new.session (g.U.Medium.state c.answer_to.new.unit) (g.K.Sink.held c.take.new.sink) c.in_ok-frame.frame
            (record { answers = f.answered; knows = f.knows; judged = f.judged; reads = f.unit }) c.in_err-take.ensures.stops));
        changed =
            λ is.
            let f = c.in_ok-frame.ensures in
            bytes_told (g.U.Medium.state c.args.unit.now) _ _ c.holds_bytes.ensures (λ x fit none. none fit)
            (untaken_untold c.loop-sent.invariant.0.talking c.in-Some.sent (sym c.next.ensures.sent ∙ c.in-Some.is) c.in_err-take.field-0.0 c.answer_to.new.session (g.U.Medium.state c.answer_to.new.unit) (g.K.Sink.held c.take.new.sink) c.in_ok-frame.frame
            (record { answers = f.answered; knows = f.knows; judged = f.judged; reads = f.unit }) c.in_err-take.ensures.stops
            (fault_is c.from_residual-in_err-take.result c.in_err-take.field-0.0 Changed c.from_residual-in_err-take.ensures.1 is));
        bad = first_of (search rules, grind (arith, common_steps));
        nothing = first_of (search rules, grind (arith, common_steps));
      },
    )

pub returns-in_err-take-clause-unit : goal.returns-in_err-take-clause-unit
returns-in_err-take-clause-unit g c =
    untaken_reads c.from_residual-in_err-take.result c.in_err-take.field-0.0 _ _ _ _ c.from_residual-in_err-take.ensures.1 c.in_err-take.ensures.stops
    (any_then c.loop-sent.invariant.0.talking.reads c.in_ok-frame.ensures.unit)

pub returns-clause-downloaded : goal.returns-clause-downloaded
returns-clause-downloaded g c =
    let v = c.loop-sent.invariant.0 in (
      v.wire,
      v.has,
      record {
        downloaded = talking_done tt v.talking c.in_default.ensures.none;
        file = bytes_told (g.U.Medium.state c.args.unit.now) _ _ c.holds_bytes.ensures (λ x fit file. (file.0, file.1 fit)) (talking_file c.loop-sent.invariant.0.talking c.in_default.ensures.none);
        front = tt;
        changed = first_of (search rules, grind (arith, common_steps));
        bad = tt;
        nothing = tt;
      },
    )

pub loop-sent-init : goal.loop-sent-init
loop-sent-init g c =
    let s = g.U.Medium.state c.args.unit.now in
    let whole = g.met.U.Medium.coherent c.args.unit.now in (
      record {
        wire = [];
        has = c.requires.fresh;
        talking = talking_none c.args.loader.now c.new-session.result [] s (g.K.Sink.held c.args.sink.now) c.requires.begun c.requires.room c.new-session.ensures refl
            (λ x told. omega (arith, whole.sized x told, c.requires.unit.sized, c.requires.unit.behind));
      },
      omega arith,
    )

pub returns-in_err-frame-clause-faults : goal.returns-in_err-frame-clause-faults
returns-in_err-frame-clause-faults g c = record {
  cause = first_of (search rules, grind (arith, common_steps));
  counts = first_of (search rules, grind (arith, common_steps));
}

pub returns-in_err-take-clause-faults : goal.returns-in_err-take-clause-faults
returns-in_err-take-clause-faults g c = record {
  cause = first_of (search rules, grind (arith, common_steps));
  counts = first_of (search rules, grind (arith, common_steps));
}

pub returns-clause-faults : goal.returns-clause-faults
returns-clause-faults g c = record {
  cause = first_of (search rules, grind (arith, common_steps));
  counts = first_of (search rules, grind (arith, common_steps));
}
