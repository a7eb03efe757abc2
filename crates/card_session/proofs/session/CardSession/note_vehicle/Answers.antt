use Rattle.std.proofs.Common.{◌≡◌, ℕ, false, Option, None, subst}
use Rattle.std.specs.Prelude.{◌⊎◌, IfNone}
use Rattle.card_files.specs.declared.vehicle.Vehicle.{Vehicle}
use Rattle.card_session.specs.Books.{goes_on_with}
use Rattle.card_session.proofs.Keeping.{new_use_part}
use Rattle.card_session.proofs.Told.{not_going}
use Rattle.card_session.proofs.session.CardSession.note_vehicle.Goals as goal

pub returns-in-None-clause-part : goal.returns-in-None-clause-part
returns-in-None-clause-part g c =
    let s = c.args.self.now in
    let k = c.args.kept.now in
    let none : (s.newest ≡ None) ⊎ (goes_on_with s.registration k.entry.minute s.vehicle ≡ false) = subst (λ (o : Option (ℕ × Vehicle)). IfNone o ((s.newest ≡ None) ⊎ (goes_on_with s.registration k.entry.minute s.vehicle ≡ false))) c.in-None.is c.going_on.ensures.none in
    new_use_part s k.odometer.0 k.entry.minute (not_going s k.entry.minute none) _ c.use_new.ensures.part
