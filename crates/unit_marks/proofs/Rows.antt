-- Worked rows, computed by the checker: minutes that lie whole in an interruption, what an odometer gained, and the marks of a card's files.
use Rattle.std.proofs.Common.{◌≡◌, [], ◌∷◌, refl}
use Rattle.view_model.specs.declared.marks.Sign.TheVariants.{Begin, Fault}
use Rattle.unit_marks.specs.Cards.{records_marks, file_marks}
use Rattle.unit_marks.specs.Marks.{whole_minutes, gap_of, distances_of}

-- from 00:01:01 to 00:04:30 the minutes 2 and 3 are whole
whole : whole_minutes 61 270 ≡ record { first = 2; behind = 4 }
whole = refl

-- from a minute's first second it counts, to a minute's first second the one before is the last
sharp : whole_minutes 120 240 ≡ record { first = 2; behind = 4 }
sharp = refl

-- type 08, longest of its day; type 07 is no interruption
interruption : gap_of (8 ∷ 1 ∷ 0 ∷ 0 ∷ 0 ∷ 120 ∷ 0 ∷ 0 ∷ 0 ∷ 240 ∷ []) ≡ record { first = 2; behind = 4 } ∷ []
interruption = refl

over_speeding : gap_of (7 ∷ 1 ∷ 0 ∷ 0 ∷ 0 ∷ 120 ∷ 0 ∷ 0 ∷ 0 ∷ 240 ∷ []) ≡ []
over_speeding = refl

-- 412 km until the next day that is told; of the last day, and where the odometer is less, nothing
gained : distances_of (record { date = 86400; odometer = 1000 } ∷ record { date = 259200; odometer = 1412 } ∷ record { date = 345600; odometer = 5 } ∷ []) ≡ record { day = 1; km = 412 } ∷ []
gained = refl

-- wherever the next day stands, and of a date that is told twice by its first telling
newest_first : distances_of (record { date = 259200; odometer = 1412 } ∷ record { date = 86400; odometer = 1000 } ∷ []) ≡ record { day = 1; km = 412 } ∷ []
newest_first = refl

told_twice : distances_of (record { date = 86400; odometer = 1000 } ∷ record { date = 172800; odometer = 1100 } ∷ record { date = 86400; odometer = 1050 } ∷ record { date = 172800; odometer = 1300 } ∷ [])
    ≡ record { day = 1; km = 100 } ∷ []
told_twice = refl

-- places behind their pointer: the work period begins at 07:00 of 2010-03-01, in the country 13; the second place was never written
places : file_marks (record { fid = 0x0506; kind = 0; value = 0 ∷ 0x4b ∷ 0x8b ∷ 0x65 ∷ 0xf0 ∷ 0 ∷ 13 ∷ 2 ∷ 0 ∷ 0 ∷ 0 ∷ 0 ∷ 0 ∷ 0 ∷ 0 ∷ 0 ∷ 0 ∷ 0 ∷ 0 ∷ 0 ∷ 0 ∷ [] })
    ≡ record { sign = Begin; code = 13; second = 1267426800 } ∷ []
unfolding records_marks
places = refl

-- a fault of type 35, and three bytes behind the last whole record
faults : file_marks (record { fid = 0x0503; kind = 0; value = 0x35 ∷ 0x4b ∷ 0x8b ∷ 0x65 ∷ 0xf0 ∷ 0 ∷ 0 ∷ 0 ∷ 0 ∷ 0 ∷ 0 ∷ 0 ∷ 0 ∷ 0 ∷ 0 ∷ 0 ∷ 0 ∷ 0 ∷ 0 ∷ 0 ∷ 0 ∷ 0 ∷ 0 ∷ 0 ∷ 1 ∷ 1 ∷ 1 ∷ [] })
    ≡ record { sign = Fault; code = 0x35; second = 1267426800 } ∷ []
unfolding records_marks
faults = refl

-- the signature of a file tells none
signature : file_marks (record { fid = 0x0503; kind = 1; value = 0x35 ∷ 0x4b ∷ 0x8b ∷ 0x65 ∷ 0xf0 ∷ 0 ∷ 0 ∷ 0 ∷ 0 ∷ 0 ∷ 0 ∷ 0 ∷ 0 ∷ 0 ∷ 0 ∷ 0 ∷ 0 ∷ 0 ∷ 0 ∷ 0 ∷ 0 ∷ 0 ∷ 0 ∷ 0 ∷ [] }) ≡ []
signature = refl
