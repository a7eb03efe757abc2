-- The first day of two demonstrations, computed by hand from the row of numbers.
use Rattle.std.proofs.Common.{◌≡◌, [], ◌∷◌, refl}
use Rattle.activity_codec.specs.declared.values.Slot.TheVariants.{Driver}
use Rattle.activity_codec.specs.declared.values.Pick.TheVariants.{Rest, Available, Work}
use Rattle.trace_model.specs.declared.Action.TheVariants.{Select}
use Rattle.trace_model.specs.declared.Item.TheVariants.{Run, Act}
use Rattle.trace_text.specs.Demo.{drawn, parts_of, day_of}

first_of_zero : day_of 0 ≡
    Run 1 0 ∷ Run 5269 71 ∷ Act (Select Driver Available) ∷
    Run 518 0 ∷ Run 3499 49 ∷ Act (Select Driver Available) ∷
    Run 1646 0 ∷ Run 3542 44 ∷ Act (Select Driver Work) ∷
    Run 1211 0 ∷ Run 1462 28 ∷ Act (Select Driver Available) ∷
    Run 2060 0 ∷ Run 4359 7 ∷ Act (Select Driver Rest) ∷
    Run 676 0 ∷ Run 5369 62 ∷ Act (Select Driver Available) ∷
    Run 813 0 ∷ Run 1462 29 ∷ Act (Select Driver Rest) ∷
    Run 992 0 ∷ Run 1466 11 ∷ Act (Select Driver Work) ∷
    Run 52055 0 ∷ []
unfolding drawn parts_of day_of
first_of_zero = refl

first_of_one : day_of 1 ≡
    Run 2439 0 ∷ Run 359 25 ∷ Act (Select Driver Rest) ∷
    Run 3116 0 ∷ Run 4052 30 ∷ Act (Select Driver Work) ∷
    Run 1411 0 ∷ Run 2020 79 ∷ Act (Select Driver Rest) ∷
    Run 487 0 ∷ Run 2750 85 ∷ Act (Select Driver Work) ∷
    Run 1885 0 ∷ Run 1261 61 ∷ Act (Select Driver Work) ∷
    Run 3144 0 ∷ Run 3490 66 ∷ Act (Select Driver Rest) ∷
    Run 3538 0 ∷ Run 3967 32 ∷ Act (Select Driver Work) ∷
    Run 1379 0 ∷ Run 4296 60 ∷ Act (Select Driver Rest) ∷
    Run 46806 0 ∷ []
unfolding drawn parts_of day_of
first_of_one = refl
