-- The entries that are passed on stand where they did, and how many they are.
use Rattle.std.proofs.Common.{◌≡◌, ◌∙◌, ℕ, ◌+◌, ◌≤◌, ◌&&◌, Bool, true, false, not, cond, List, [], ◌∷◌, ◌++◌, length, map, filter, refl, ap, sym, arith, length-append}
use Rattle.std.specs.Prelude.{◌||◌}
use Rattle.std.proofs.lemmas.List.{map-append, length-map}
use Rattle.card_layout.specs.Fields.{joined}
use Rattle.card_image.specs.CardFile.{FileEntry, entry_bytes, is_value}
use Rattle.file_extract.specs.declared.entries.DownloadEntry.{DownloadEntry}
use Rattle.file_extract.specs.declared.passing.Pick.{Pick}
use Rattle.file_extract.specs.declared.passing.Pick.TheVariants.{All, Sizes, Others}
use Rattle.file_extract.specs.Cards.{is_first, is_of_sizes, is_first_of_sizes, is_first_of_others, are_sizes_late, passed_on}
use Rattle.file_extract.specs.Reading.{told_at, told, StandThere}
use Rattle.file_extract.specs.Passing.{picks, picks_at, passed_at}
use Rattle.file_extract.specs.Part.{is_second}

-- a pick looks at no value
pick_same : (bytes : List ℕ) (pick : Pick) (at : DownloadEntry) → picks_at pick at ≡ picks pick (told_at bytes at)
pick_same bytes All at = refl
pick_same bytes Sizes at = refl
pick_same bytes Others at = refl

-- what is picked of entries that stand somewhere
told_picked : (bytes : List ℕ) (pick : Pick) (all : List DownloadEntry) → told bytes (filter (picks_at pick) all) ≡ filter (picks pick) (told bytes all)
told_picked bytes pick [] = refl
told_picked bytes pick (x ∷ all) = by (picks_at pick x) refl (told_picked bytes pick all)
  where
    by : (b : Bool) → b ≡ picks_at pick x → told bytes (filter (picks_at pick) all) ≡ filter (picks pick) (told bytes all) → told bytes (filter (picks_at pick) (x ∷ all)) ≡ filter (picks pick) (told bytes (x ∷ all))
    by true is others =
        ap (λ (p : Bool). told bytes (cond p (x ∷ filter (picks_at pick) all) (filter (picks_at pick) all))) (sym is)
        ∙ ap (λ (l : List FileEntry). told_at bytes x ∷ l) others
        ∙ ap (λ (p : Bool). cond p (told_at bytes x ∷ filter (picks pick) (told bytes all)) (filter (picks pick) (told bytes all))) (is ∙ pick_same bytes pick x)
    by false is others =
        ap (λ (p : Bool). told bytes (cond p (x ∷ filter (picks_at pick) all) (filter (picks_at pick) all))) (sym is)
        ∙ others
        ∙ ap (λ (p : Bool). cond p (told_at bytes x ∷ filter (picks pick) (told bytes all)) (filter (picks pick) (told bytes all))) (is ∙ pick_same bytes pick x)

-- the test of the order looks at no value
late_same : (bytes : List ℕ) (all : List DownloadEntry) → are_sizes_late (told [] all) ≡ are_sizes_late (told bytes all)
late_same bytes [] = refl
late_same bytes (x ∷ all) = ap (λ (b : Bool). not (is_value 0x0501 (told_at bytes x)) && (is_value 0x0504 (told_at bytes x) || (is_value 0x0505 (told_at bytes x) || b))) (late_same bytes all)

pub told_passed : (bytes : List ℕ) (all : List DownloadEntry) → told bytes (passed_at all) ≡ passed_on (told bytes all)
told_passed bytes all = by (are_sizes_late (told bytes all)) refl
  where
    by : (b : Bool) → b ≡ are_sizes_late (told bytes all) → told bytes (passed_at all) ≡ passed_on (told bytes all)
    by true is =
        ap (λ (p : Bool). told bytes (cond p (filter (picks_at Sizes) all ++ filter (picks_at Others) all) (filter (picks_at All) all))) (late_same bytes all ∙ sym is)
        ∙ map-append (told_at bytes) (filter (picks_at Sizes) all) (filter (picks_at Others) all)
        ∙ ap (λ (l : List FileEntry). l ++ told bytes (filter (picks_at Others) all)) (told_picked bytes Sizes all)
        ∙ ap (λ (l : List FileEntry). filter is_first_of_sizes (told bytes all) ++ l) (told_picked bytes Others all)
        ∙ ap (λ (p : Bool). cond p (filter is_first_of_sizes (told bytes all) ++ filter is_first_of_others (told bytes all)) (filter is_first (told bytes all))) is
    by false is =
        ap (λ (p : Bool). told bytes (cond p (filter (picks_at Sizes) all ++ filter (picks_at Others) all) (filter (picks_at All) all))) (late_same bytes all ∙ sym is)
        ∙ told_picked bytes All all
        ∙ ap (λ (p : Bool). cond p (filter is_first_of_sizes (told bytes all) ++ filter is_first_of_others (told bytes all)) (filter is_first (told bytes all))) is

-- entries that are picked stand where they did
stand_picked : (bytes : List ℕ) (pick : Pick) (all : List DownloadEntry) → StandThere bytes all → StandThere bytes (filter (picks_at pick) all)
stand_picked bytes pick [] stand = tt
stand_picked bytes pick (x ∷ all) stand = by (picks_at pick x) (stand_picked bytes pick all stand.1)
  where
    by : (b : Bool) → StandThere bytes (filter (picks_at pick) all) → StandThere bytes (cond b (x ∷ filter (picks_at pick) all) (filter (picks_at pick) all))
    by true others = (stand.0, others)
    by false others = others

stand_both : (bytes : List ℕ) (xs ys : List DownloadEntry) → StandThere bytes xs → StandThere bytes ys → StandThere bytes (xs ++ ys)
stand_both bytes [] ys one two = two
stand_both bytes (x ∷ xs) ys one two = (one.0, stand_both bytes xs ys one.1 two)

pub stand_passed : (bytes : List ℕ) (all : List DownloadEntry) → StandThere bytes all → StandThere bytes (passed_at all)
stand_passed bytes all stand = by (are_sizes_late (told [] all))
  where
    by : (b : Bool) → StandThere bytes (cond b (filter (picks_at Sizes) all ++ filter (picks_at Others) all) (filter (picks_at All) all))
    by true = stand_both bytes (filter (picks_at Sizes) all) (filter (picks_at Others) all) (stand_picked bytes Sizes all stand) (stand_picked bytes Others all stand)
    by false = stand_picked bytes All all stand

-- of two tests one picks what the other leaves
halves : {X : Type 0} (p q : X → Bool) (xs : List X) → length (filter (λ x. p x && q x) xs) + length (filter (λ x. p x && not (q x)) xs) ≡ length (filter p xs)
halves p q [] = omega arith
halves p q (x ∷ xs) = by (p x) (q x) (halves p q xs)
  where
    by : (b c : Bool) → length (filter (λ x. p x && q x) xs) + length (filter (λ x. p x && not (q x)) xs) ≡ length (filter p xs)
        → length (cond (b && c) (x ∷ filter (λ x. p x && q x) xs) (filter (λ x. p x && q x) xs)) + length (cond (b && not c) (x ∷ filter (λ x. p x && not (q x)) xs) (filter (λ x. p x && not (q x)) xs)) ≡ length (cond b (x ∷ filter p xs) (filter p xs))
    by true true others = omega (arith, others)
    by true false others = omega (arith, others)
    by false c others = others

both_kinds : (xs : List FileEntry) → length (filter is_first xs) + length (filter is_second xs) ≡ length xs
both_kinds [] = omega arith
both_kinds (x ∷ xs) = by (is_first x) (both_kinds xs)
  where
    by : (b : Bool) → length (filter is_first xs) + length (filter is_second xs) ≡ length xs
        → length (cond b (x ∷ filter is_first xs) (filter is_first xs)) + length (cond (not b) (x ∷ filter is_second xs) (filter is_second xs)) ≡ length (x ∷ xs)
    by true others = omega (arith, others)
    by false others = omega (arith, others)

passed_count : (xs : List FileEntry) → length (passed_on xs) ≡ length (filter is_first xs)
passed_count xs = by (are_sizes_late xs)
  where
    by : (b : Bool) → length (cond b (filter is_first_of_sizes xs ++ filter is_first_of_others xs) (filter is_first xs)) ≡ length (filter is_first xs)
    by true = length-append (filter is_first_of_sizes xs) (filter is_first_of_others xs) ∙ halves is_first is_of_sizes xs
    by false = refl

-- those that are left out and those that are passed on are all
pub left_count : (xs : List FileEntry) → length (passed_on xs) + length (filter is_second xs) ≡ length xs
left_count xs = omega (arith, passed_count xs, both_kinds xs)

same_length : (bytes : List ℕ) (all : List DownloadEntry) → length (told bytes all) ≡ length all
same_length bytes all = length-map all (told_at bytes)

pub counted : (bytes : List ℕ) (all passed : List DownloadEntry) → passed ≡ passed_at all → length passed + length (filter is_second (told bytes all)) ≡ length all
counted bytes all passed is =
    omega
    (arith, ap (λ (l : List DownloadEntry). length l) is, left_count (told bytes all), ap (λ (l : List FileEntry). length l) (told_passed bytes all), same_length bytes (passed_at all), same_length bytes all)

-- how many bytes entries have
abbrev pub bytes_in : List FileEntry → ℕ
bytes_in xs = length (joined (map entry_bytes xs))

size_both : (before behind : List FileEntry) → bytes_in (before ++ behind) ≡ bytes_in before + bytes_in behind
size_both [] behind = omega arith
size_both (x ∷ xs) behind = omega (arith, size_both xs behind, length-append (entry_bytes x) (joined (map entry_bytes (xs ++ behind))), length-append (entry_bytes x) (joined (map entry_bytes xs)))

size_parts : (p q : FileEntry → Bool) (xs : List FileEntry) → bytes_in (filter (λ x. p x && q x) xs) + bytes_in (filter (λ x. p x && not (q x)) xs) ≡ bytes_in (filter p xs)
size_parts p q [] = omega arith
size_parts p q (x ∷ xs) = by (p x) (q x) (size_parts p q xs)
  where
    by : (b c : Bool) → bytes_in (filter (λ x. p x && q x) xs) + bytes_in (filter (λ x. p x && not (q x)) xs) ≡ bytes_in (filter p xs)
        → bytes_in (cond (b && c) (x ∷ filter (λ x. p x && q x) xs) (filter (λ x. p x && q x) xs)) + bytes_in (cond (b && not c) (x ∷ filter (λ x. p x && not (q x)) xs) (filter (λ x. p x && not (q x)) xs)) ≡ bytes_in (cond b (x ∷ filter p xs) (filter p xs))
    by true true others = omega (arith, others, length-append (entry_bytes x) (joined (map entry_bytes (filter (λ x. p x && q x) xs))), length-append (entry_bytes x) (joined (map entry_bytes (filter p xs))))
    by true false others = omega (arith, others, length-append (entry_bytes x) (joined (map entry_bytes (filter (λ x. p x && not (q x)) xs))), length-append (entry_bytes x) (joined (map entry_bytes (filter p xs))))
    by false c others = others

size_halves : (p q : FileEntry → Bool) (xs : List FileEntry) → bytes_in (filter (λ x. p x && q x) xs ++ filter (λ x. p x && not (q x)) xs) ≡ bytes_in (filter p xs)
size_halves p q xs = size_both (filter (λ x. p x && q x) xs) (filter (λ x. p x && not (q x)) xs) ∙ size_parts p q xs

size_less : (p : FileEntry → Bool) (xs : List FileEntry) → bytes_in (filter p xs) ≤ bytes_in xs
size_less p [] = omega arith
size_less p (x ∷ xs) = by (p x) (size_less p xs)
  where
    by : (b : Bool) → bytes_in (filter p xs) ≤ bytes_in xs → bytes_in (cond b (x ∷ filter p xs) (filter p xs)) ≤ bytes_in (x ∷ xs)
    by true others = omega (arith, others, length-append (entry_bytes x) (joined (map entry_bytes (filter p xs))), length-append (entry_bytes x) (joined (map entry_bytes xs)))
    by false others = omega (arith, others, length-append (entry_bytes x) (joined (map entry_bytes xs)))

-- no more bytes are passed on than came
pub passed_size : (xs : List FileEntry) → bytes_in (passed_on xs) ≤ bytes_in xs
passed_size xs = by (are_sizes_late xs)
  where
    by : (b : Bool) → bytes_in (cond b (filter is_first_of_sizes xs ++ filter is_first_of_others xs) (filter is_first xs)) ≤ bytes_in xs
    by true = omega (arith, size_halves is_first is_of_sizes xs, size_less is_first xs)
    by false = size_less is_first xs
