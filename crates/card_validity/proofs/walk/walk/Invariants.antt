use Rattle.std.proofs.Common.{◌≡◌, ◌<◌, ◌-◌, List, ◌++◌}
use Rattle.std.specs.Prelude.{slice_get, IfSome}
use Rattle.card_image.specs.card_model.Days.{Day, total}
use Rattle.card_image.specs.card_model.Walk.{days_of}
use Rattle.card_days.specs.Heads.{heads_from}
use Rattle.card_validity.specs.Words.{HasMet}
use Rattle.card_validity.proofs.walk.walk.Given as goal

-- these days were met, and those are still to come
abbrev pub invariant-loop-next : goal.invariant-loop-next
invariant-loop-next l = record {
  older : List Day;
  later : List Day;
  are : days_of l.days.shape l.image ≡ older ++ later;
  so_far : l.so_far ≡ total older;
  next : l.next ≡ slice_get (heads_from l.days.shape l.image (total older) later) 0;
  place : IfSome l.next (λ h. h.place < l.days.shape.size);
  met : HasMet l.days.shape l.image l.mark older l.walked;
}

abbrev pub decreases-loop-next : goal.decreases-loop-next
decreases-loop-next l = 13789 - l.so_far
