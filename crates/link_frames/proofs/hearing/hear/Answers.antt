use Rattle.std.proofs.Common.{◌-◌, Option, length, option_map, option_to_list, ap, sym, ◌∙◌, arith}
use Rattle.link_model.specs.Frames.{Heard}
use Rattle.link_frames.specs.Seen.{meant}
use Rattle.link_frames.proofs.Turns.{heard_more, kept_more, quiet_front}
use Rattle.link_frames.proofs.hearing.hear.Goals as goal

pub returns-in-Some-clause-heard : goal.returns-in-Some-clause-heard
returns-in-Some-clause-heard c =
    heard_more c.args.end c.args.kept.now.items c.loop-i.kept.items c.args.bytes.now c.loop-i.i c.loop-i-test.true c.loop-i.invariant.quiet c.loop-i.invariant.same
    ∙ ap (λ (o : Option Heard). option_to_list o) (sym c.hear_byte.ensures.heard ∙ ap (λ o. option_map meant o) c.in-Some.is)

pub returns-in-Some-clause-kept : goal.returns-in-Some-clause-kept
returns-in-Some-clause-kept c =
    c.hear_byte.ensures.kept ∙ kept_more c.args.end c.args.kept.now.items c.loop-i.kept.items c.args.bytes.now c.loop-i.i c.loop-i-test.true c.loop-i.invariant.same

pub loop-i-preserved : goal.loop-i-preserved
loop-i-preserved c = record {
  quiet = heard_more c.args.end c.args.kept.now.items c.loop-i.kept.items c.args.bytes.now c.loop-i.i c.loop-i-test.true c.loop-i.invariant.quiet c.loop-i.invariant.same
      ∙ ap (λ (o : Option Heard). option_to_list o) (sym c.hear_byte.ensures.heard ∙ ap (λ o. option_map meant o) c.in_default.is);
  same = c.hear_byte.ensures.kept ∙ kept_more c.args.end c.args.kept.now.items c.loop-i.kept.items c.args.bytes.now c.loop-i.i c.loop-i-test.true c.loop-i.invariant.same;
  stays = c.hear_byte.ensures.stays;
}

pub returns-clause-first : goal.returns-clause-first
returns-clause-first c = quiet_front c.args.end c.args.kept.now.items c.args.bytes.now c.loop-i.i (length c.args.bytes.now - 1) (omega arith) c.loop-i.invariant.quiet
