use Rattle.std.proofs.Common.{◌∙◌, List, ℕ, [], ◌∷◌, ◌++◌, drop, ap, sym, subst, append-nil}
use Rattle.message_model.specs.Messages.{Message, ADay}
use Rattle.unit_messages.specs.Reading.{BeginsWith}
use Rattle.file_view.proofs.Telling.{rest_is}
use Rattle.file_view.proofs.UnitFronts.{day_asked}
use Rattle.unit_marks.specs.declared.marks.Midnight.{Midnight}
use Rattle.unit_marks.proofs.Telling.{midnights_told, no_day_asked}
use Rattle.unit_marks.proofs.marks.add_midnight.Goals as goal

pub odometer_in-odometer-requires : goal.odometer_in-odometer-requires
odometer_in-odometer-requires c =
    let m = c.requires.0 in
    let is = c.requires.1 in
    let asked = day_asked m c.in-Day.date (sym c.in-Day.is ∙ is.request) in (
      asked.0,
      subst (λ (l : List ℕ). BeginsWith (ADay asked.0) l) (sym (rest_is c.args.b.now c.args.at.place))
          (subst (λ (x : Message). BeginsWith x (drop c.args.at.place c.args.b.now)) asked.1 is.begins),
    )

pub returns-in_ok-push-in-Day : goal.returns-in_ok-push-in-Day
returns-in_ok-push-in-Day c = λ m is.
    let asked = day_asked m c.in-Day.date (sym c.in-Day.is ∙ is.request) in
    let begins = subst (λ (l : List ℕ). BeginsWith (ADay asked.0) l) (sym (rest_is c.args.b.now c.args.at.place))
    (subst (λ (x : Message). BeginsWith x (drop c.args.at.place c.args.b.now)) asked.1 is.begins) in
    let told : ℕ → ℕ → Midnight = λ date odometer. record { date = date; odometer = odometer } in
    c.in_ok-push-in-Day.ensures.items
    ∙ ap (λ (date : ℕ). c.args.midnights.now.items ++ told date c.odometer_in-odometer.result ∷ []) asked.2
    ∙ ap (λ (odometer : ℕ). c.args.midnights.now.items ++ told asked.0.date odometer ∷ []) (c.odometer_in-odometer.ensures asked.0 begins)
    ∙ ap (λ (x : Message). c.args.midnights.now.items ++ midnights_told (x ∷ [])) (sym asked.1)

pub returns-in_default : goal.returns-in_default
returns-in_default c = λ m is.
    sym (append-nil c.args.midnights.now.items)
    ∙ ap (λ (l : List Midnight). c.args.midnights.now.items ++ l) (sym (no_day_asked m (λ date day. c.in_default.not-Day date (is.request ∙ sym day))))
