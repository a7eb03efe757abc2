use Rattle.std.proofs.Common.{◌≡◌, ◌∙◌, Some, List, map, ap, subst, rules}
use Rattle.card_retention.specs.Retains.{Rise}
use Rattle.message_model.specs.Messages.{Message}
use Rattle.message_model.specs.Showing.{minutes_in}
use Rattle.card_files.specs.declared.vehicle.Vehicle.{Vehicle}
use Rattle.file_view.specs.Fronts.{registration_in}
use Rattle.file_view.specs.Histories.{entry_told, minute_told, minutes_on}
use Rattle.card_match.specs.Files.{uses_of}
use Rattle.card_match.specs.Matching.{Against}
use Rattle.card_match.specs.Differences.{AreDifferences}
use Rattle.card_match.proofs.Answering.{same_answer}
use Rattle.card_match.proofs.Few.{few_minutes, lines_dated}
use Rattle.card_match.proofs.Firsts.{runs_dated}
use Rattle.card_match.proofs.Sources.{one_file}
use Rattle.card_match.proofs.files.compare_files.Goals as goal

pub compare_entries-requires-clause-few : goal.compare_entries-requires-clause-few
compare_entries-requires-clause-few c =
    let rise : Rise (map entry_told (minutes_on c.lines-2.result.now)) = search rules in
    few_minutes c.lines-2.result.now c.lines-2.ensures.lines rise

pub returns-clause-compared : goal.returns-clause-compared
returns-clause-compared c =
    let told = c.in-Ok.ensures.told in
    let shown = c.in-Ok-read_download.ensures.minutes in
    let card = c.in-Ok-read_card.ensures.shown in
    record {
      messages = shown.messages;
      file = shown.file;
      registration = c.in-Ok.registration.0;
      registered = subst (λ (ms : List Message). registration_in ms ≡ Some c.in-Ok.registration.0) (one_file told.0 shown.messages c.args.unit.now told.1 shown.file) told.2;
      entries = c.in-Ok-read_card.read.history;
      vehicles = c.in-Ok-read_card.read.vehicles.items;
      shows = card;
      answer =
          same_answer AreDifferences c.as_slice-2.result.now (uses_of c.in-Ok.registration.0 c.in-Ok-read_card.read.vehicles.items) (map minute_told (minutes_on c.lines.result.now)) (minutes_in shown.messages)
          (map entry_told (minutes_on c.lines-2.result.now)) c.in-Ok-read_card.read.history c.in_ok-all.all
          (c.as_slice-2.ensures.value ∙ c.in_ok-uses.ensures ∙ ap (λ (vs : List Vehicle). uses_of c.in-Ok.registration.0 vs) c.as_slice.ensures.value)
          (c.lines.ensures.minutes ∙ shown.shown_are)
          c.lines-2.ensures.entries
          c.in_ok-all.ensures;
    }

pub returns-clause-dated : goal.returns-clause-dated
returns-clause-dated c =
    let a : Against = record { uses = c.as_slice-2.result.now; minutes = map minute_told (minutes_on c.lines.result.now) } in
    runs_dated a (map entry_told (minutes_on c.lines-2.result.now)) c.in_ok-all.all (lines_dated c.lines-2.result.now c.lines-2.ensures.lines) c.in_ok-all.ensures
