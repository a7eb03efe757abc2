use Rattle.std.proofs.Common.{rules}
use Rattle.unit_notes.proofs.Choosing.{told_place, told_day, told_similar}
use Rattle.unit_notes.proofs.noting.choose.Goals as goal

pub returns-clause-place : goal.returns-clause-place
returns-clause-place g c = told_place c.args.kind c.args.front.now (g.M.Medium.state c.args.unit.now).image c.read_at.new.out c.base_of.result _ c.base_of.ensures.base (search rules) c.in_ok-read_at.ensures.bytes c.held_in-event.result c.held_in-event.ensures c.choice_in.result.place c.choice_in.ensures.place

pub returns-clause-day : goal.returns-clause-day
returns-clause-day g c = told_day c.args.kind c.args.front.now (g.M.Medium.state c.args.unit.now).image c.read_at.new.out c.base_of.result _ c.base_of.ensures.base (search rules) c.in_ok-read_at.ensures.bytes c.held_in-event.result c.held_in-event.ensures c.choice_in.result.day c.choice_in.ensures.day

pub returns-clause-similar : goal.returns-clause-similar
returns-clause-similar g c = told_similar c.args.kind c.args.front.now (g.M.Medium.state c.args.unit.now).image c.read_at.new.out c.base_of.result _ c.base_of.ensures.base (search rules) c.in_ok-read_at.ensures.bytes c.held_in-event.result c.held_in-event.ensures c.choice_in.result.day c.choice_in.result.similar c.choice_in.ensures.similar
