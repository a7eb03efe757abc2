use Rattle.std.proofs.lemmas.Grind.{common_steps}
use Rattle.std.proofs.Common.{◌≡◌, ℕ, Bool, true, rules, inl, arith, Option, Some, None, List, IfSome, option_map, refl, sym, subst}
use Rattle.std.specs.Prelude.{is_err}
use Rattle.tacho_types.specs.declared.card_number.FullCardNumber.{FullCardNumber}
use Rattle.device_calls.specs.unit_owed.Rows.{IsRowFor}
use Rattle.device_calls.specs.device_rule.Views.{other}
use Rattle.run_crew.specs.Cards.{known_of}
use Rattle.tacho_types.specs.CardNumber.{card_number_bytes}
use Rattle.tach_media.proofs.Runs.{on_ok, ok_gives}
use Rattle.run_crew.specs.declared.cabin.Cabin.{Cabin}
use Rattle.run_minutes.specs.Keeping.{HasItsRow}
use Rattle.run_minutes.proofs.Units.{unit-stays, agrees-noted, has-row, row-noted, row-for-noted}
use Rattle.run_minutes.specs.run_devices.Told.{arranged}
use Rattle.run_insertion.specs.Entering.{insertion_of, seated}
use Rattle.run_insertion.specs.Told.{IsCarriedOn, with_brought, carried_row}
use Rattle.run_insertion.proofs.Carried.{brought-powered, seat-carried, noted-carried}
use Rattle.run_insertion.specs.Noted.{IsOnUnit, IsComing}
use Rattle.run_insertion.specs.Entered.{IsSeated}
use Rattle.run_insertion.proofs.Notes.{not_cut, notes-then, insertion-noted, row-noted-so}
use Rattle.run_insertion.proofs.Seats.{row-seated, rows-seated}
use Rattle.run_insertion.proofs.seating.seat.Goals as goal

pub begin-requires-clause-ready : goal.begin-requires-clause-ready
begin-requires-clause-ready g c = record {
  unit = unit-stays c.note_insertion.ensures.journal c.requires.ready.is_unit;
  agrees = agrees-noted (g.met.M.Medium.coherent c.args.unit.now) (g.met.M.Medium.coherent c.note_insertion.new.unit) c.requires.ready.works c.note_insertion.ensures.journal c.args.keeper.now.journal c.requires.ready.agrees;
}

pub returns-clause-seated : goal.returns-clause-seated
returns-clause-seated g c =
    let k = c.args.keeper.now in
    let e = c.args.seating.entering in
    let insertion = insertion_of c.args.seating.look e in (
      Some c.in_ok-entry.entry,
      record {
        by = ((c.in_ok-entry.ensures.took.below, c.in_ok-entry.ensures.took.is), search rules, search rules);
        notes = notes-then IsOnUnit IsComing (insertion-noted c.insertion_of.result insertion c.insertion_of.ensures (λ well. c.in_ok-entry.ensures.alters.done) c.note_insertion.ensures.alters.moments)
            (row-noted-so c.args.seating.look.number e.at.second (known_of k.cabin.cards (other e.which)).number _ c.begin.result c.begin.ensures.leaves.begun c.begin.ensures.leaves.moments (search rules));
      },
    )

pub returns-in_err-entry-clause-seated : goal.returns-in_err-entry-clause-seated
returns-in_err-entry-clause-seated g c =
    let k = c.args.keeper.now in
    let e = c.args.seating.entering in
    let insertion = insertion_of c.args.seating.look e in
    let failed : true ≡ is_err c.from_residual.result = search rules in
    subst (λ (b : Bool). (entry : Option ℕ) × IsSeated c.args.seating.look c.args.seating.session c.args.seating.row e b k k c.args.noted.now c.args.noted.now (g.M.Medium.state c.args.unit.now) (g.M.Medium.state c.note_insertion.new.unit) entry) failed (
      None,
      record { by = (refl, refl, refl); notes = insertion-noted c.insertion_of.result insertion c.insertion_of.ensures (λ well. absurd (not_cut well)) c.note_insertion.ensures.alters.moments },
    )

pub begin-requires-clause-row : goal.begin-requires-clause-row
begin-requires-clause-row g c = record {
  low = first_of (search rules, grind (arith, common_steps));
  row =
      let number = card_number_bytes c.args.seating.look.number in
      let told = option_map (λ (s : FullCardNumber). card_number_bytes s) (known_of c.args.keeper.now.cabin.cards (other c.args.seating.entering.which)).number in
      let spared : told ≡ option_map (λ (s : FullCardNumber). card_number_bytes s) c.of.result.now.number = first_of (search rules, cc) in
      subst (λ (o : Option (List ℕ)). IfSome (g.M.Medium.state c.note_insertion.new.unit).image (IsRowFor c.args.seating.row number o)) spared
      (row-for-noted (g.met.M.Medium.coherent c.args.unit.now) (g.met.M.Medium.coherent c.note_insertion.new.unit) c.requires.ready.works c.note_insertion.ensures.journal c.args.seating.row number told c.requires.row.row);
}

pub returns-clause-booked : goal.returns-clause-booked
returns-clause-booked g c = λ f w m.
    let k = c.args.keeper.now in
    let e = c.args.seating.entering in
    let U = g.M.Medium.state c.args.unit.now in
    let V = g.M.Medium.state c.note_insertion.new.unit in
    let W = g.M.Medium.state c.begin.new.unit in
    let X = g.C.Chip.state c.args.card.now in
    let Z = g.D.Chip.state c.args.others.now in
    let failed = is_err c.begin.result in
    let booked = seat-carried f w k e c.args.seating.look c.args.seating.session c.args.seating.row c.in_ok-entry.entry c.args.noted.now U V W X Z m (g.met.M.Medium.coherent c.args.unit.now) (g.met.M.Medium.coherent c.note_insertion.new.unit) c.note_insertion.ensures.journal c.in_ok-entry.ensures.alters.cause
    _ (search rules) failed c.begin.ensures.answers.goes.cause c.begin.ensures.answers.goes.tells c.begin.ensures.rules.holds c.begin.ensures.rules.mine c.begin.ensures.rules.others k.journal.kept in
    let kept : c.accept.new.self ≡ seated c.args.seating.look c.args.seating.session c.args.seating.row c.in_ok-entry.entry c.args.noted.now e k.cabin = search rules in
    subst (λ (b : Cabin). IsCarriedOn failed f (carried_row failed c.args.seating.session e k.journal.kept w) b.cards (arranged e.which W X Z)) (sym kept) booked

pub returns-in_err-entry-clause-booked : goal.returns-in_err-entry-clause-booked
returns-in_err-entry-clause-booked g c = λ f w m.
    let k = c.args.keeper.now in
    let e = c.args.seating.entering in
    let U = g.M.Medium.state c.args.unit.now in
    let V = g.M.Medium.state c.note_insertion.new.unit in
    let X = g.C.Chip.state c.args.card.now in
    let Z = g.D.Chip.state c.args.others.now in
    let failed : true ≡ is_err c.from_residual.result = search rules in
    subst (λ (b : Bool). IsCarriedOn b f (carried_row b c.args.seating.session e k.journal.kept w) k.cabin.cards (arranged e.which V X Z)) failed
    (noted-carried e.which f (with_brought e.which k.journal.kept w) k.cabin.cards U V X Z true m.found (g.met.M.Medium.coherent c.args.unit.now)
    (brought-powered f w k.cabin.cards e.which U X Z m.found e.at.second c.args.seating.session.minute m.put.entered m.late m.powered k.journal.kept) c.note_insertion.ensures.journal c.in_err-entry.ensures.alters.cause)

pub returns-clause-behind : goal.returns-clause-behind
returns-clause-behind g c = record {
  ready = first_of (search rules, grind (arith, common_steps));
  rows =
      λ card h.
      let cards = c.args.keeper.now.cabin.cards in
      let U = g.M.Medium.state c.args.unit.now in
      let M = g.M.Medium.state c.note_insertion.new.unit in
      let V = g.M.Medium.state c.begin.new.unit in
      on_ok c.begin.result (λ well.
      subst (λ (b : Cabin). HasItsRow b.cards V card) (sym c.accept.ensures.kept)
      (rows-seated c.args.seating.entering.slot c.args.seating.entering.which card c.args.seating.look.number c.args.seating.row _ c.args.keeper.now.cabin M V c.requires.row.low
      (ok_gives c.begin.result c.begin.ensures.stands.row well)
      (λ r n told had. ok_gives c.begin.result (c.begin.ensures.stands.spares r n (search (rules, told)) had) well)
      (has-row cards cards U M card refl refl (row-noted (g.met.M.Medium.coherent c.args.unit.now) (g.met.M.Medium.coherent c.note_insertion.new.unit) c.requires.ready.works c.note_insertion.ensures.journal) h)));
  row =
      let V = g.M.Medium.state c.begin.new.unit in
      on_ok c.begin.result (λ well.
      subst (λ (b : Cabin). HasItsRow b.cards V c.args.seating.entering.which) (sym c.accept.ensures.kept)
      (row-seated c.args.seating.entering.slot c.args.seating.entering.which c.args.seating.look.number c.args.seating.row _ c.args.keeper.now.cabin V c.requires.row.low (ok_gives c.begin.result c.begin.ensures.stands.row well)));
  -- its session was opened in this second's minute, and holds no entry by hand yet
  stands = λ from le late s. c.accept.ensures.stands from le (rw c.new.ensures (late, omega arith, inl refl)) s;
  cause = first_of (search rules, grind (arith, common_steps));
}

pub returns-in_err-entry-clause-behind : goal.returns-in_err-entry-clause-behind
returns-in_err-entry-clause-behind g c = record {
  ready = first_of (search rules, grind (arith, common_steps));
  rows = first_of (search rules, grind (arith, common_steps));
  row = first_of (search rules, grind (arith, common_steps));
  stands = first_of (search rules, grind (arith, common_steps));
  cause = first_of (search rules, grind (arith, common_steps));
}

-- ---- its writes

pub returns-in_err-entry-clause-most : goal.returns-in_err-entry-clause-most
returns-in_err-entry-clause-most g c = let one = c.in_err-entry.ensures.alters.most in omega (arith, one)

pub returns-clause-most : goal.returns-clause-most
returns-clause-most g c = let one = c.in_ok-entry.ensures.alters.most in let last = c.begin.ensures.answers.most in omega (arith, one, last)
