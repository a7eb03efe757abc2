use Rattle.std.proofs.Common.{◌≡◌, ◌∙◌, ℕ, ◌∷◌, ◌++◌, [], List, drop, refl, sym, subst}
use Rattle.std.specs.Prelude.{OnOk}
use Rattle.message_model.specs.Messages.{Message, AnOverview}
use Rattle.unit_messages.specs.Reading.{BeginsWith}
use Rattle.file_view.specs.UnitShowing.{AreTold}
use Rattle.file_view.proofs.Telling.{rest_is}
use Rattle.file_view.proofs.UnitFronts.{overview_asked, day_asked, events_asked, speed_asked, technical_asked, told_same, told_day_more, told_other, on_ok_by}
use Rattle.file_view.proofs.unit.Told.take.Goals as goal

pub returns-in-Overview : goal.returns-in-Overview
returns-in-Overview c = λ m before begins request are.
    let asked = overview_asked m (sym c.in-Overview.is ∙ request) in
    let here = subst (λ (x : Message). BeginsWith x (drop c.args.place c.args.b.now)) asked.1 begins in
    let items : c.take_time.new.self.days.items ≡ c.args.self.now.days.items = rw c.take_time.ensures.days refl in
    subst (λ (x : Message). AreTold c.args.b.now (before ++ x ∷ []) c.take_time.new.self) (sym asked.1)
    (told_same c.args.b.now before c.args.self.now c.take_time.new.self (AnOverview asked.0) are refl
    (c.take_time.ensures.time asked.0 (subst (λ (l : List ℕ). BeginsWith (AnOverview asked.0) l) (sym (rest_is c.args.b.now c.args.place)) here))
    items)

pub returns-in-Day : goal.returns-in-Day
returns-in-Day c = λ m before begins request are.
    let asked = day_asked m c.in-Day.date (sym c.in-Day.is ∙ request) in
    let here = subst (λ (x : Message). BeginsWith x (drop c.args.place c.args.b.now)) asked.1 begins in
    subst (λ (x : Message). OnOk c.take_day.result (AreTold c.args.b.now (before ++ x ∷ []) c.take_day.new.self)) (sym asked.1)
    (on_ok_by c.take_day.result (λ day. told_day_more c.args.b.now before c.args.self.now c.take_day.new.self day.0 asked.0 are day.1 c.take_day.ensures.time day.2) (c.take_day.ensures.day asked.0 here asked.2))

pub returns-in-Events : goal.returns-in-Events
returns-in-Events c = λ m before begins request are. let none = events_asked m (sym c.in-Events.is ∙ request) in told_other c.args.b.now before c.args.self.now m are none.0 none.1

pub returns-in-Speed : goal.returns-in-Speed
returns-in-Speed c = λ m before begins request are. let none = speed_asked m (sym c.in-Speed.is ∙ request) in told_other c.args.b.now before c.args.self.now m are none.0 none.1

pub returns-in-Technical : goal.returns-in-Technical
returns-in-Technical c = λ m before begins request are. let none = technical_asked m (sym c.in-Technical.is ∙ request) in told_other c.args.b.now before c.args.self.now m are none.0 none.1
