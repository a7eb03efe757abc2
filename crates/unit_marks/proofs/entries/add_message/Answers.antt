use Rattle.std.proofs.Common.{◌∙◌, List, ℕ, [], ◌∷◌, ◌++◌, drop, ap, sym, subst, append-nil}
use Rattle.message_model.specs.Messages.{Message, ADay, AnEventList}
use Rattle.unit_messages.specs.Reading.{BeginsWith}
use Rattle.file_view.proofs.Telling.{rest_is}
use Rattle.file_view.proofs.UnitFronts.{day_asked}
use Rattle.view_model.specs.declared.marks.Mark.{Mark}
use Rattle.unit_marks.specs.Entries.{place_marks, event_marks, marks_told}
use Rattle.unit_marks.proofs.Telling.{events_asked}
use Rattle.unit_marks.proofs.TellingMarks.{none_asked}
use Rattle.unit_marks.proofs.entries.add_message.Goals as goal

pub add_places-requires : goal.add_places-requires
add_places-requires c =
    let m = c.requires.0 in
    let is = c.requires.1 in
    let asked = day_asked m c.in-Day._date (sym c.in-Day.is ∙ is.request) in (
      asked.0,
      subst (λ (l : List ℕ). BeginsWith (ADay asked.0) l) (sym (rest_is c.args.b.now c.args.at.place))
          (subst (λ (x : Message). BeginsWith x (drop c.args.at.place c.args.b.now)) asked.1 is.begins),
    )

pub add_events-requires : goal.add_events-requires
add_events-requires c =
    let m = c.requires.0 in
    let is = c.requires.1 in
    let asked = events_asked m (sym c.in-Events.is ∙ is.request) in (
      asked.0,
      subst (λ (l : List ℕ). BeginsWith (AnEventList asked.0) l) (sym (rest_is c.args.b.now c.args.at.place))
          (subst (λ (x : Message). BeginsWith x (drop c.args.at.place c.args.b.now)) asked.1 is.begins),
    )

pub returns-in_ok-add_places-in-Day : goal.returns-in_ok-add_places-in-Day
returns-in_ok-add_places-in-Day c = λ m is.
    let asked = day_asked m c.in-Day._date (sym c.in-Day.is ∙ is.request) in
    let begins = subst (λ (l : List ℕ). BeginsWith (ADay asked.0) l) (sym (rest_is c.args.b.now c.args.at.place))
    (subst (λ (x : Message). BeginsWith x (drop c.args.at.place c.args.b.now)) asked.1 is.begins) in
    c.in_ok-add_places-in-Day.ensures asked.0 begins
    ∙ ap (λ (l : List Mark). c.args.marks.now.items ++ l) (sym (append-nil (place_marks asked.0)) ∙ ap (λ (x : Message). marks_told (x ∷ [])) (sym asked.1))

pub returns-in_ok-add_events-in-Events : goal.returns-in_ok-add_events-in-Events
returns-in_ok-add_events-in-Events c = λ m is.
    let asked = events_asked m (sym c.in-Events.is ∙ is.request) in
    let begins = subst (λ (l : List ℕ). BeginsWith (AnEventList asked.0) l) (sym (rest_is c.args.b.now c.args.at.place))
    (subst (λ (x : Message). BeginsWith x (drop c.args.at.place c.args.b.now)) asked.1 is.begins) in
    c.in_ok-add_events-in-Events.ensures asked.0 begins
    ∙ ap (λ (l : List Mark). c.args.marks.now.items ++ l) (sym (append-nil (event_marks asked.0)) ∙ ap (λ (x : Message). marks_told (x ∷ [])) (sym asked.1))

pub returns-in_default : goal.returns-in_default
returns-in_default c = λ m is.
    sym (append-nil c.args.marks.now.items)
    ∙ ap (λ (l : List Mark). c.args.marks.now.items ++ l)
    (sym (none_asked m (λ date day. c.in_default.not-Day date (is.request ∙ sym day)) (λ events. c.in_default.not-Events (is.request ∙ sym events))))
