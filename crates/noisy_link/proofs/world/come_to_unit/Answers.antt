use Rattle.std.proofs.Common.{◌≡◌, ◌∙◌, ◌++◌, ℕ, length, Option, Some, IfSome, refl, sym, ap, subst, arith, append-nil}
use Rattle.std.specs.Prelude.{◌==◌, ◌&&◌, not, is_none, false, option_to_list}
use Rattle.std.proofs.lemmas.Option.{slice_get_read}
use Rattle.unit_model.specs.Decoding.{first_bad_place}
use Rattle.link_session.specs.Told.{is_judged, IfBadUnit}
use Rattle.link_session.specs.declared.asking.AnswerFault.{AnswerFault}
use Rattle.noisy_model.specs.declared.packet.Packet.{Packet}
use Rattle.noisy_model.specs.Ends.{Hears}
use Rattle.noisy_link.specs.Sides.{IsReply}
use Rattle.noisy_link.proofs.Stepping.{hears_there, pushed, ok_so, asks_there, silent_there, spoken_there, is_silence_of}
use Rattle.noisy_link.proofs.world.come_to_unit.Goals as goal

pub returns-in-Ok-None-clause-heard : goal.returns-in-Ok-None-clause-heard
returns-in-Ok-None-clause-heard g c =
    let p = c.index-sent-place.result in
    let image = (g.M.Medium.state c.args.unit.now).image in
    let old = c.args.end.now in
    let a = c.in-Ok-None.field-0 in
    let at = slice_get_read c.args.sent.now (length c.args.sent.now) c.args.place p refl (omega arith) c.index-sent-place.is in (
      hears_there image old c.args.sent.now c.args.place p c.take.new.self c.args.answers.now.items c.reserve.new.self.items a at c.in-Ok-None.ensures.heard
          (c.reserve.ensures.items ∙ sym (append-nil c.args.answers.now.items) ∙ ap (λ (o : Option Packet). c.args.answers.now.items ++ option_to_list o) (sym c.in-Ok-None.field-0-is)),
      spoken_there image old p c.take.new.self a _ at c.in-Ok-None.ensures.heard (ap (λ (o : Option Packet). is_silence_of o old.last) c.in-Ok-None.field-0-is),
    )

pub returns-else-silent-clause-heard : goal.returns-else-silent-clause-heard
returns-else-silent-clause-heard g c =
    let p = c.index-sent-place.result in
    let image = (g.M.Medium.state c.args.unit.now).image in
    let old = c.args.end.now in
    let a = c.in-Ok-Some.field-0 in
    let at = slice_get_read c.args.sent.now (length c.args.sent.now) c.args.place p refl (omega arith) c.index-sent-place.is in
    let room = ok_so c.reserve.result (sym c.is_err.ensures.value ∙ c.if-is_err.false) c.reserve.ensures.ok in
    let grown = pushed c.push.result c.args.answers.now.items c.reserve.new.self.items c.push.new.self.items c.in-Ok-Some.answer _ _ c.reserve.ensures.items c.push.ensures.items c.push.ensures.full room in
    let test = ap (λ (n : ℕ). is_none c.in-Ok-Some.answer.frame && not (c.in-Ok-Some.answer.number == n)) (sym c.last-last.ensures) ∙ sym c.is_silence-silent.ensures ∙ c.if-silent.false in (
      hears_there image old c.args.sent.now c.args.place p c.take.new.self c.args.answers.now.items c.push.new.self.items a at c.in-Ok-Some.ensures.heard
          (grown ∙ ap (λ (o : Option Packet). c.args.answers.now.items ++ option_to_list o) (sym c.in-Ok-Some.field-0-is)),
      spoken_there image old p c.take.new.self a _ at c.in-Ok-Some.ensures.heard (ap (λ (o : Option Packet). is_silence_of o old.last) c.in-Ok-Some.field-0-is ∙ test),
    )

pub returns-then-silent-clause-heard : goal.returns-then-silent-clause-heard
returns-then-silent-clause-heard g c =
    let p = c.index-sent-place.result in
    let image = (g.M.Medium.state c.args.unit.now).image in
    let old = c.args.end.now in
    let a = c.in-Ok-Some.field-0 in
    let at = slice_get_read c.args.sent.now (length c.args.sent.now) c.args.place p refl (omega arith) c.index-sent-place.is in
    let room = ok_so c.reserve.result (sym c.is_err.ensures.value ∙ c.if-is_err.false) c.reserve.ensures.ok in
    let grown = pushed c.push.result c.args.answers.now.items c.reserve.new.self.items c.push.new.self.items c.in-Ok-Some.answer _ _ c.reserve.ensures.items c.push.ensures.items c.push.ensures.full room in
    let test = ap (λ (n : ℕ). is_none c.in-Ok-Some.answer.frame && not (c.in-Ok-Some.answer.number == n)) (sym c.last-last.ensures) ∙ sym c.is_silence-silent.ensures ∙ c.if-silent.true in (
      hears_there image old c.args.sent.now c.args.place p c.take.new.self c.args.answers.now.items c.push.new.self.items a at c.in-Ok-Some.ensures.heard
          (grown ∙ ap (λ (o : Option Packet). c.args.answers.now.items ++ option_to_list o) (sym c.in-Ok-Some.field-0-is)),
      silent_there image old p c.take.new.self c.in-Ok-Some.answer _ at (subst (λ (o : Option Packet). Hears (IsReply image) old p c.take.new.self o) c.in-Ok-Some.field-0-is c.in-Ok-Some.ensures.heard) test,
    )

pub returns-in-Err-Failed-clause-heard : goal.returns-in-Err-Failed-clause-heard
returns-in-Err-Failed-clause-heard g c =
    let at = slice_get_read c.args.sent.now (length c.args.sent.now) c.args.place c.index-sent-place.result refl (omega arith) c.index-sent-place.is in
    (asks_there c.args.end.now c.args.sent.now c.args.place c.index-sent-place.result at c.in-Err-Failed.ensures.new, c.in-Err-Failed.ensures.same, c.reserve.ensures.items)

pub returns-in-Err-BadUnit-clause-heard : goal.returns-in-Err-BadUnit-clause-heard
returns-in-Err-BadUnit-clause-heard g c =
    let at = slice_get_read c.args.sent.now (length c.args.sent.now) c.args.place c.index-sent-place.result refl (omega arith) c.index-sent-place.is in
    let bad = subst (λ (f : AnswerFault). IfBadUnit f (λ p. (is_judged c.args.end.now.side ≡ false) × IfSome (g.M.Medium.state c.args.unit.now).image (λ x. first_bad_place x ≡ Some p))) c.in-Err-BadUnit.field-0-is c.in-Err-BadUnit.ensures.bad in
    (asks_there c.args.end.now c.args.sent.now c.args.place c.index-sent-place.result at c.in-Err-BadUnit.ensures.new, c.in-Err-BadUnit.ensures.same, c.reserve.ensures.items, bad.0, bad.1)
