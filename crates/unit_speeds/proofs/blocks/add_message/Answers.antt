use Rattle.std.proofs.Common.{◌∙◌, List, ℕ, [], ◌∷◌, ◌++◌, drop, map, ap, sym, subst, append-nil}
use Rattle.message_model.specs.Messages.{Message, ASpeedList}
use Rattle.unit_messages.specs.Reading.{BeginsWith}
use Rattle.file_view.proofs.Telling.{rest_is}
use Rattle.unit_speeds.specs.declared.line.SpeedLine.{SpeedLine}
use Rattle.unit_speeds.specs.Speeds.{line_of, speeds_told}
use Rattle.unit_speeds.proofs.Telling.{speeds_asked, others_asked}
use Rattle.unit_speeds.proofs.blocks.add_message.Goals as goal

pub add_blocks-requires : goal.add_blocks-requires
add_blocks-requires c =
    let m = c.requires.0 in
    let is = c.requires.1 in
    let asked = speeds_asked m (sym c.in-Speed.is ∙ is.request) in (
      asked.0,
      subst (λ (l : List ℕ). BeginsWith (ASpeedList asked.0) l) (sym (rest_is c.args.b.now c.args.at.place))
          (subst (λ (x : Message). BeginsWith x (drop c.args.at.place c.args.b.now)) asked.1 is.begins),
    )

pub returns-in_ok-add_blocks-in-Speed : goal.returns-in_ok-add_blocks-in-Speed
returns-in_ok-add_blocks-in-Speed c = λ m is.
    let asked = speeds_asked m (sym c.in-Speed.is ∙ is.request) in
    let begins = subst (λ (l : List ℕ). BeginsWith (ASpeedList asked.0) l) (sym (rest_is c.args.b.now c.args.at.place))
    (subst (λ (x : Message). BeginsWith x (drop c.args.at.place c.args.b.now)) asked.1 is.begins) in
    c.in_ok-add_blocks-in-Speed.ensures asked.0 begins
    ∙ ap (λ (l : List SpeedLine). c.args.lines.now.items ++ l) (sym (append-nil (map line_of asked.0.blocks)) ∙ ap (λ (x : Message). speeds_told (x ∷ [])) (sym asked.1))

pub returns-in_default : goal.returns-in_default
returns-in_default c = λ m is.
    sym (append-nil c.args.lines.now.items)
    ∙ ap (λ (l : List SpeedLine). c.args.lines.now.items ++ l) (sym (others_asked m (λ speeds. c.in_default.not-Speed (is.request ∙ sym speeds))))
