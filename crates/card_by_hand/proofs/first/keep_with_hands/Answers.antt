use Rattle.std.proofs.lemmas.Grind.{common_steps}
use Rattle.std.proofs.Common.{◌≡◌, ◌∙◌, ◌/◌, List, subst, sym, ap, rules, arith}
use Rattle.activity_codec.specs.declared.entries.Manual.{Manual}
use Rattle.hand_model.specs.Holding.{of_day, LieBetween, AreOfDay}
use Rattle.hand_model.proofs.OfDay.{day_lies, day_all}
use Rattle.card_by_hand.proofs.first.keep_with_hands.Goals as goal

pub keep_first-requires-clause-lie : goal.keep_first-requires-clause-lie
keep_first-requires-clause-lie g c =
    let m = c.args.kept.now.entry.minute in
    subst (λ (l : List Manual). LieBetween c.args.session.now.minute m l) (sym (c.of_day-by_hand.ensures ∙ ap (of_day (m / 1440)) c.entries.ensures))
    (day_lies (m / 1440) c.args.session.now.minute m c.args.held.now.entries c.requires.lie)

pub keep_first-requires-clause-day : goal.keep_first-requires-clause-day
keep_first-requires-clause-day g c =
    let m = c.args.kept.now.entry.minute in
    subst (λ (l : List Manual). AreOfDay (m / 1440) l) (sym (c.of_day-by_hand.ensures ∙ ap (of_day (m / 1440)) c.entries.ensures))
    (day_all c.args.session.now.minute m c.args.held.now.entries c.requires.lie)

-- the entries by hand that were handed on are those of the minute's day
pub returns-in_err-keep_first-clause-alters : goal.returns-in_err-keep_first-clause-alters
returns-in_err-keep_first-clause-alters g c = record {
  done = first_of (search rules, grind (arith, common_steps));
  moments =
      let m = c.args.kept.now.entry.minute in
      let is : c.of_day-by_hand.result.now ≡ of_day (c.args.kept.now.entry.minute / 1440) c.args.held.now.entries = c.of_day-by_hand.ensures ∙ ap (of_day (m / 1440)) c.entries.ensures in
      rw (sym is) c.in_err-keep_first.ensures.alters.moments;
  settled = first_of (search rules, grind (arith, common_steps));
  cause = first_of (search rules, grind (arith, common_steps));
  most =
      let m = c.args.kept.now.entry.minute in
      let is : c.of_day-by_hand.result.now ≡ of_day (c.args.kept.now.entry.minute / 1440) c.args.held.now.entries = c.of_day-by_hand.ensures ∙ ap (of_day (m / 1440)) c.entries.ensures in
      rw (sym is) c.in_err-keep_first.ensures.alters.most;
}

pub returns-clause-alters : goal.returns-clause-alters
returns-clause-alters g c = record {
  done =
      let m = c.args.kept.now.entry.minute in
      let is : c.of_day-by_hand.result.now ≡ of_day (c.args.kept.now.entry.minute / 1440) c.args.held.now.entries = c.of_day-by_hand.ensures ∙ ap (of_day (m / 1440)) c.entries.ensures in
      rw (sym is) c.in_ok-keep_first.ensures.alters.done;
  moments =
      let m = c.args.kept.now.entry.minute in
      let is : c.of_day-by_hand.result.now ≡ of_day (c.args.kept.now.entry.minute / 1440) c.args.held.now.entries = c.of_day-by_hand.ensures ∙ ap (of_day (m / 1440)) c.entries.ensures in
      rw (sym is) c.in_ok-keep_first.ensures.alters.moments;
  settled = first_of (search rules, grind (arith, common_steps));
  cause = first_of (search rules, grind (arith, common_steps));
  most =
      let m = c.args.kept.now.entry.minute in
      let is : c.of_day-by_hand.result.now ≡ of_day (c.args.kept.now.entry.minute / 1440) c.args.held.now.entries = c.of_day-by_hand.ensures ∙ ap (of_day (m / 1440)) c.entries.ensures in
      rw (sym is) c.in_ok-keep_first.ensures.alters.most;
}
