use Rattle.std.proofs.lemmas.Grind.{common_steps}
use Rattle.std.proofs.Common.{◌≡◌, ℕ, List, Option, IfSome, inl, option_map, subst, rules, arith}
use Rattle.tacho_types.specs.CardNumber.{card_number_bytes}
use Rattle.tacho_types.specs.declared.card_number.FullCardNumber.{FullCardNumber}
use Rattle.unit_minutes.specs.unit_owed.Rows.{IsRowFor}
use Rattle.device_calls.proofs.PutIn.{owed_fit, enters_inserted, enters_cut, row-entered, row-low}
use Rattle.tach_media.specs.Medium.{Unchanged}
use Rattle.tach_media.proofs.Runs.{starts}
use Rattle.device_calls.specs.OnCard.{Anything}
use Rattle.device_calls.proofs.entering.enter_as.Goals as goal

pub insert_by-requires-clause-may : goal.insert_by-requires-clause-may
insert_by-requires-clause-may g c = record {
  some = omega (arith, c.requires.may.late);
  last = c.requires.may.last;
  fits = c.requires.may.fits;
  owed = owed_fit _ _ c.args.insertion.time.0 c.in-Ok.asked.owed.items c.requires.may.late c.in-Ok.ensures.sane;
}

pub returns-in-Ok-clause-enters : goal.returns-in-Ok-clause-enters
returns-in-Ok-clause-enters g c =
    enters_inserted c.args.insertion.app c.args.insertion.registration c.args.insertion.odometer.0 c.args.insertion.time.0 (g.M.Medium.state c.args.unit.now) (g.M.Medium.state c.ask.new.unit) (g.C.Medium.state c.args.card.now) (g.C.Medium.state c.insert_by.new.card)
    c.args.look c.in-Ok.asked.owed.items c.insert_by.result c.requires.card.sizes (g.met.C.Medium.coherent c.args.card.now) c.requires.works c.requires.card.card.keep.fits c.in-Ok.ensures.reads c.requires.looked c.in-Ok.ensures.owed
    (owed_fit _ _ c.args.insertion.time.0 c.in-Ok.asked.owed.items c.requires.may.late c.in-Ok.ensures.sane) c.insert_by.ensures.inserted c.insert_by.ensures.put.most

pub returns-in-Err-clause-enters : goal.returns-in-Err-clause-enters
returns-in-Err-clause-enters g c =
    enters_cut c.args.insertion.app c.args.insertion.registration c.args.insertion.odometer.0 c.args.insertion.time.0 (g.M.Medium.state c.args.unit.now) (g.M.Medium.state c.ask.new.unit) (g.C.Medium.state c.args.card.now) c.requires.works c.in-Err.ensures.reads

pub returns-in-Err-clause-put : goal.returns-in-Err-clause-put
returns-in-Err-clause-put g c = record {
  leaves = starts (g.C.Medium.state c.args.card.now) Anything;
  in_time = inl (starts (g.C.Medium.state c.args.card.now) Unchanged);
  most = first_of (search rules, grind (arith, common_steps));
}

pub returns-in-Ok-clause-row : goal.returns-in-Ok-clause-row
returns-in-Ok-clause-row g c = record {
  own =
      let number = card_number_bytes c.args.look.number in
      let told = option_map (λ (s : FullCardNumber). card_number_bytes s) c.args.insertion.spared in
      let spared : option_map (λ s. card_number_bytes s.now) c.as_ref.result ≡ told = search rules in
      row-entered c.insert_by.result c.args.look c.in-Ok.asked.row c.in-Ok.asked.owed.items (g.M.Medium.state c.args.unit.now).image told c.insert_by.ensures.row c.insert_by.ensures.inserted.looked
      (subst (λ (o : Option (List ℕ)). IfSome (g.M.Medium.state c.args.unit.now).image (IsRowFor c.in-Ok.asked.row number o)) spared c.in-Ok.ensures.row);
  low = row-low c.insert_by.result c.in-Ok.asked.row c.insert_by.ensures.row c.in-Ok.ensures.low;
}

pub returns-in-Err-clause-row : goal.returns-in-Err-clause-row
returns-in-Err-clause-row g c = record { own = tt; low = tt }

pub insert_by-requires-clause-card : goal.insert_by-requires-clause-card
insert_by-requires-clause-card g c = c.requires.card

pub returns-in-Ok-clause-put : goal.returns-in-Ok-clause-put
returns-in-Ok-clause-put g c = c.insert_by.ensures.put
