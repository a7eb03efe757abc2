use Rattle.json_fields.proofs.Days.{is_date_text}
use Rattle.json_fields.proofs.laws.a_time_has_the_date_of_its_day.Goals as goal

pub returns : goal.returns
returns c = is_date_text
