use Rattle.std.proofs.Common.{inl, ◌<◌, suc, arith}
use Rattle.hand_model.specs.card_image.Fields.{end_mark}
use Rattle.card_session.proofs.Marks.{mark_told}
use Rattle.card_session.proofs.Stopping.{days_there}
use Rattle.card_by_hand.proofs.Staying.{late_of}
use Rattle.card_by_hand.proofs.Card.{goes_by_hand}
use Rattle.card_by_hand.proofs.laws.an_entry_by_hand_counts_in_its_day.Goals as goal

pub returns : goal.returns
returns c = λ s next e x y sound knows now clear shut slack covered from counted least later goes done.
    let past : end_mark s.application x < e.minute = omega (arith, late_of s x e.minute knows now, mark_told s.application x) in
    goes_by_hand s.application sound x (days_there s x knows) e y shut past slack covered from (suc e.minute) counted least (inl later) (omega (arith, later)) (omega arith) goes done.card
