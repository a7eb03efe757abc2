use Rattle.std.proofs.Common.{◌≡◌, is_some, true, rules, sym, ◌∙◌, ap}
use Rattle.card_layout.specs.declared.files.CardFile.{CardFile}
use Rattle.std.proofs.Common.{List}
use Rattle.card_commands.specs.Ports.{file_at, file_from}
use Rattle.card_commands.proofs.FileLemmas.{at_some, at_within}
use Rattle.card_commands.proofs.place.file_at.Goals as goal

pub unwrap-requires : goal.unwrap-requires
unfolding file_at
unwrap-requires c =
    let same : c.file_in.result ≡ file_at c.args.app.now c.args.place = c.file_in.ensures ∙ ap (λ (fs : List CardFile). file_from 0 fs c.args.place) c.files.ensures.table in
    let there : is_some c.file_in.result ≡ true = ap is_some same ∙ at_some c.args.app.now c.args.place c.requires in
    search rules

pub returns-clause-value : goal.returns-clause-value
unfolding file_at
returns-clause-value c = ap (λ (fs : List CardFile). file_from 0 fs c.args.place) (sym c.files.ensures.table) ∙ sym c.file_in.ensures ∙ c.unwrap.ensures

pub returns-clause-before : goal.returns-clause-before
unfolding file_at
returns-clause-before c = (at_within c.args.app.now c.args.place c.unwrap.result (ap (λ (fs : List CardFile). file_from 0 fs c.args.place) (sym c.files.ensures.table) ∙ sym c.file_in.ensures ∙ c.unwrap.ensures)).0

pub returns-clause-behind : goal.returns-clause-behind
unfolding file_at
returns-clause-behind c = (at_within c.args.app.now c.args.place c.unwrap.result (ap (λ (fs : List CardFile). file_from 0 fs c.args.place) (sym c.files.ensures.table) ∙ sym c.file_in.ensures ∙ c.unwrap.ensures)).1

pub returns-clause-inside : goal.returns-clause-inside
unfolding file_at
returns-clause-inside c = (at_within c.args.app.now c.args.place c.unwrap.result (ap (λ (fs : List CardFile). file_from 0 fs c.args.place) (sym c.files.ensures.table) ∙ sym c.file_in.ensures ∙ c.unwrap.ensures)).2
