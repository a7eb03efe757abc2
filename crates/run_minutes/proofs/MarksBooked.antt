-- The marks that are carried behind decided minutes are those that are told, also where the unit failed in one of them.
use Rattle.std.proofs.Common.{◌≡◌, List, [], ◌∷◌, ap}
use Rattle.log_model.specs.declared.lines.Mark.{Mark}
use Rattle.unit_model.specs.minute_model.declared.Minute.{Minute}
use Rattle.run_devices.specs.run_promise.Between.{RunLedger}
use Rattle.run_minutes.specs.declared.keeper.Keeper.{Keeper}
use Rattle.run_minutes.specs.declared.keeper.Moment.{Moment}
use Rattle.run_minutes.specs.Minutes.{Round, KeepingState, Done, told_after, told_by, marks_after, present_at}
use Rattle.run_minutes.specs.Books.{carried_after}
use Rattle.run_minutes.specs.Decided.{carried_by, decided_minute}

-- behind one
pub marks-one : (k : Keeper) (at : Moment) (m : Minute) (round : Round) (t : KeepingState) (w : RunLedger) → w.marks ≡ t.marks.items
    → (carried_after (present_at k.cabin m.minute) (decided_minute k m) round w).marks ≡ (told_after (present_at k.cabin m.minute) m.minute at round t).marks.items
marks-one k at m round t w same = ap (λ (ms : List Mark). (marks_after (present_at k.cabin m.minute) m.minute round (record { items = ms; room = 0 })).items) same

-- behind some
pub marks-by : (k : Keeper) (at : Moment) (xs : List Done) (t : KeepingState) (w : RunLedger) → w.marks ≡ t.marks.items → (carried_by k xs w).marks ≡ (told_by k at xs t).marks.items
marks-by k at [] t w same = same
marks-by k at (x ∷ xs) t w same = marks-by k at xs (told_after (present_at k.cabin x.minute.minute) x.minute.minute at x.round t) (carried_after (present_at k.cabin x.minute.minute) (decided_minute k x.minute) x.round w) (marks-one k at x.minute x.round t w same)
