use Rattle.std.proofs.Common.{◌∙◌, List, map, ap}
use Rattle.card_days.specs.declared.head.DayHead.{DayHead}
use Rattle.card_image.specs.CardFile.{string_alone}
use Rattle.card_model.specs.Walk.{days_of}
use Rattle.day_reports.specs.Heads.{distance_by}
use Rattle.day_reports.proofs.Told.{heads_tell}
use Rattle.day_reports.proofs.distances.card_distances.Goals as goal

pub returns-clause-distances : goal.returns-clause-distances
returns-clause-distances c =
    let told = c.in_ok-heads.ensures.heads in
    record {
      app = told.app;
      days = told.days;
      vehicles = told.vehicles;
      entries = told.entries;
      file = told.file;
      distances_are = c.in_ok-distances.ensures
          ∙ ap (λ (l : List DayHead). map distance_by l) c.as_slice.ensures.value
          ∙ ap (λ (l : List DayHead). map distance_by l) told.heads_are
          ∙ heads_tell (string_alone told.app) told.days 0 (days_of (string_alone told.app) told.days);
    }
