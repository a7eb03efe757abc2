use Rattle.std.proofs.Common.{◌∙◌, List, ℕ, [], ◌∷◌, ◌++◌, drop, ap, sym, subst, append-nil}
use Rattle.message_model.specs.Messages.{Message, AnEventList}
use Rattle.unit_messages.specs.Reading.{BeginsWith}
use Rattle.view_model.specs.declared.marks.Gap.{Gap}
use Rattle.file_view.proofs.Telling.{rest_is}
use Rattle.unit_marks.specs.Marks.{gaps_told, gaps_of}
use Rattle.unit_marks.proofs.Telling.{events_asked, others_asked}
use Rattle.unit_marks.proofs.marks.add_message_gaps.Goals as goal

pub add_gaps-requires : goal.add_gaps-requires
add_gaps-requires c =
    let m = c.requires.0 in
    let is = c.requires.1 in
    let asked = events_asked m (sym c.in-Events.is ∙ is.request) in (
      asked.0,
      subst (λ (l : List ℕ). BeginsWith (AnEventList asked.0) l) (sym (rest_is c.args.b.now c.args.at.place))
          (subst (λ (x : Message). BeginsWith x (drop c.args.at.place c.args.b.now)) asked.1 is.begins),
    )

pub returns-in_ok-add_gaps-in-Events : goal.returns-in_ok-add_gaps-in-Events
returns-in_ok-add_gaps-in-Events c = λ m is.
    let asked = events_asked m (sym c.in-Events.is ∙ is.request) in
    let begins = subst (λ (l : List ℕ). BeginsWith (AnEventList asked.0) l) (sym (rest_is c.args.b.now c.args.at.place))
    (subst (λ (x : Message). BeginsWith x (drop c.args.at.place c.args.b.now)) asked.1 is.begins) in
    c.in_ok-add_gaps-in-Events.ensures asked.0 begins
    ∙ ap (λ (l : List Gap). c.args.gaps.now.items ++ l) (sym (append-nil (gaps_of asked.0.events)) ∙ ap (λ (x : Message). gaps_told (x ∷ [])) (sym asked.1))

pub returns-in_default : goal.returns-in_default
returns-in_default c = λ m is.
    sym (append-nil c.args.gaps.now.items)
    ∙ ap (λ (l : List Gap). c.args.gaps.now.items ++ l) (sym (others_asked m (λ events. c.in_default.not-Events (is.request ∙ sym events))))
