-- Rows of the crash model, computed from its definitions.
use Rattle.std.proofs.Common.{◌≡◌, refl, List, ℕ, zero, suc, [], ◌∷◌, true, false, inl, arith}
use Rattle.card_layout.specs.Fields.{IsBytes}
use Rattle.tach_media.specs.Medium.{put}
use Rattle.tach_media.specs.Counting.{failed_once}
use Rattle.tach_media.specs.Log.{image_left, image_after, MightLeave, BrokenAsBegun}
use Rattle.tach_media.specs.declared.log.Entry.{Entry}
use Rattle.tach_media.specs.declared.log.Left.TheVariants.{Before, After, Torn}

abbrev six : List ℕ
six = 0 ∷ 1 ∷ 2 ∷ 3 ∷ 4 ∷ 5 ∷ []

-- a write of two bytes at place 3
put_two : put 3 (8 ∷ 9 ∷ []) six ≡ 0 ∷ 1 ∷ 2 ∷ 8 ∷ 9 ∷ 5 ∷ []
put_two = refl

-- what a stop leaves of a write of four bytes, and of five
before_four : image_left Before 1 (9 ∷ 9 ∷ 9 ∷ 9 ∷ []) six ≡ six
before_four = refl

after_four : image_left After 1 (9 ∷ 9 ∷ 9 ∷ 9 ∷ []) six ≡ 0 ∷ 9 ∷ 9 ∷ 9 ∷ 9 ∷ 5 ∷ []
after_four = refl

torn_four : image_left (Torn 7) 1 (9 ∷ 9 ∷ 9 ∷ 9 ∷ []) six ≡ six
torn_four = refl

torn_five : image_left (Torn 7) 1 (9 ∷ 9 ∷ 9 ∷ 9 ∷ 9 ∷ []) six ≡ 0 ∷ 7 ∷ 7 ∷ 7 ∷ 7 ∷ 7 ∷ []
torn_five = refl

-- two writes, whose bytes stand one after the other
abbrev two_writes : List Entry
two_writes = record { place = 0; len = 1; left = After; broken = 0 } ∷ record { place = 4; len = 2; left = After; broken = 1 } ∷ []

after_two : image_after two_writes (7 ∷ 8 ∷ 9 ∷ []) six ≡ 7 ∷ 1 ∷ 2 ∷ 3 ∷ 8 ∷ 9 ∷ []
after_two = refl

-- since both had ended a stop leaves the new image alone
since_both : (c : List ℕ) → MightLeave two_writes (7 ∷ 8 ∷ 9 ∷ []) six 2 c → c ≡ 7 ∷ 1 ∷ 2 ∷ 3 ∷ 8 ∷ 9 ∷ []
since_both c left = left

are_bytes : IsBytes (7 ∷ 1 ∷ 2 ∷ 3 ∷ 4 ∷ 5 ∷ [])
are_bytes zero = omega arith
are_bytes (suc zero) = omega arith
are_bytes (suc (suc zero)) = omega arith
are_bytes (suc (suc (suc zero))) = omega arith
are_bytes (suc (suc (suc (suc zero)))) = omega arith
are_bytes (suc (suc (suc (suc (suc zero))))) = omega arith
are_bytes (suc (suc (suc (suc (suc (suc i)))))) = omega arith

-- since the first had ended it might have left the image between them
since_first : MightLeave two_writes (7 ∷ 8 ∷ 9 ∷ []) six 1 (7 ∷ 1 ∷ 2 ∷ 3 ∷ 4 ∷ 5 ∷ [])
since_first = inl (record { outside = record { before = refl; after = refl; same_length = refl }; whole = λ short. inl refl }, are_bytes)

-- a failure breaks what works, and only that
first_failure : failed_once (record { works = true; faults = 2; breakdowns = 0 }) ≡ record { works = false; faults = 3; breakdowns = 1 }
first_failure = refl

next_failure : failed_once (record { works = false; faults = 3; breakdowns = 1 }) ≡ record { works = false; faults = 4; breakdowns = 1 }
next_failure = refl

last_failure : failed_once (record { works = false; faults = 18446744073709551615; breakdowns = 1 }) ≡ record { works = false; faults = 18446744073709551615; breakdowns = 1 }
last_failure = refl

-- the first was begun on a medium that had not broken down yet, the second on one that had once
broken_at_second : (n : ℕ) → BrokenAsBegun two_writes 1 n → n ≡ 1
broken_at_second n had = had

never_at_first : BrokenAsBegun two_writes 0 0
never_at_first = refl
