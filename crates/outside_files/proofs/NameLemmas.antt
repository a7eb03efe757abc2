-- Names of files among the words that were looked at so far.
use Rattle.std.proofs.Common.{◌≡◌, ◌+◌, ◌<◌, ◌≤◌, ◌∙◌, ℕ, Bool, true, false, List, Some, String, Global, length, map, string_bytes, get_or, refl, ap, arith, slice_get}
use Rattle.std.specs.Prelude.{option_map}
use Rattle.std.proofs.lemmas.Option.{slice_get-map, slice_get_read, slice_get_within}
use Rattle.outside_files.specs.Names.{is_name, EndsInNames}

-- what is said of all words, of the first so many
pub record SoFar (words : List (List ℕ)) (before count : ℕ) : Type 0 where
  pub there : before ≤ count
  pub names : (k : ℕ) (word : List ℕ) → before ≤ k → k < count → slice_get words k ≡ Some word → is_name word ≡ true
  pub other : (k : ℕ) (word : List ℕ) → before ≡ k + 1 → slice_get words k ≡ Some word → is_name word ≡ false

-- the text of a word that was read
pub text_there : (words : List (String Global)) (i : ℕ) (word : String Global) → i < length words →
    word ≡ get_or words i word → slice_get (map string_bytes words) i ≡ Some (string_bytes word)
text_there words i word lt is =
    slice_get-map string_bytes words i ∙ ap (option_map string_bytes) (slice_get_read words (length words) i word refl lt is)

-- no word before the first
pub none_yet : (words : List (List ℕ)) → SoFar words 0 0
none_yet words = record { there = omega arith; names = λ k word low high at. grind arith; other = λ k word is at. grind arith }

-- one word more, which is no name
pub one_other : (words : List (List ℕ)) (before i : ℕ) (here : List ℕ) → slice_get words i ≡ Some here →
    is_name here ≡ false → SoFar words before i → SoFar words (i + 1) (i + 1)
one_other words before i here read told far = record {
  there = omega arith;
  names = λ k word low high at. grind arith;
  other = λ k word is at. grind (arith, read, told, is, at);
}

-- one word more, which is a name
pub one_name : (words : List (List ℕ)) (before i : ℕ) (here : List ℕ) → slice_get words i ≡ Some here →
    is_name here ≡ true → SoFar words before i → SoFar words before (i + 1)
one_name words before i here read told far = record {
  there = omega (arith, far.there);
  names = λ k word low high at. grind (arith, read, told, far.names k word low, at);
  other = far.other;
}

-- all words
pub all_words : (words : List (List ℕ)) (before count : ℕ) → length words ≤ count → count ≤ length words →
    SoFar words before count → EndsInNames words before
all_words words before count le ge far = record {
  there = omega (arith, far.there, ge);
  names = λ k word low at. far.names k word low (omega (arith, le, slice_get_within words k word at)) at;
  other = far.other;
}
