use Rattle.unit_rule.proofs.New.{new_seen, new_owes}
use Rattle.unit_rule.proofs.seen.a_new_unit_owes_nothing.Goals as goal

pub returns : goal.returns
returns c = record {
  seen = λ vin registration limit vin_long registration_long a b. new_seen vin registration limit vin_long registration_long a b;
  owed = λ vin registration limit vin_long registration_long number session after. new_owes vin registration limit vin_long registration_long number session after;
}
