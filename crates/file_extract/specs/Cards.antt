-- What of a card's download is whole and of the first generation (Annex IB, Appendix 7, 3.4; Annex IC, Appendix 7).
use Rattle.std.specs.Prelude.{◌≡◌, ◌≢◌, ◌⊎◌, ℕ, ◌<◌, ◌≤◌, ◌^◌, nat_le, nat_eq, Bool, true, false, not, ◌&&◌, ◌||◌}
use Rattle.std.specs.Prelude.{if◌then◌else◌, List, [], ◌∷◌, ◌++◌, length, map, filter, All}
use Rattle.std.specs.List.{list_any}
use Rattle.card_layout.specs.Fields.{joined}
use Rattle.card_image.specs.CardFile.{FileEntry, entry_bytes, is_value}

-- an entry of a download: a value (kind 0) or a signature (1) of the first generation, a value (2) or a signature (3)
-- of the second
pub record IsDownloadEntry (e : FileEntry) : Type 0 where
  pub fid : e.fid < 2 ^ 16
  pub kind : e.kind ≤ 3
  pub short : length e.value < 2 ^ 16

-- it is of the first generation
abbrev pub is_first : FileEntry → Bool
is_first e = nat_le e.kind 1

-- it is the value of a file that a card's file has once: sizes, days or vehicles
abbrev pub is_single : FileEntry → Bool
is_single e = is_value 0x0501 e || (is_value 0x0504 e || is_value 0x0505 e)

-- and was there already, so another card's file has begun
abbrev pub comes_again : (before : List FileEntry) → FileEntry → Bool
comes_again before e = is_single e && list_any (is_value e.fid) before

-- none of some entries comes again
abbrev pub none_again : (before : List FileEntry) → List FileEntry → Bool
none_again before [] = true
none_again before (e ∷ es) = not (comes_again before e) && none_again (before ++ e ∷ []) es

-- no entry of a download stands at the front of these bytes
abbrev pub HasNoDownloadEntry : List ℕ → Type 0
HasNoDownloadEntry bytes = (e : FileEntry) (more : List ℕ) → IsDownloadEntry e → bytes ≢ entry_bytes e ++ more

-- one stands there that comes again
pub record BeginsAnother (entries : List FileEntry) (rest : List ℕ) : Type 0 where
  pub entry : FileEntry
  pub more : List ℕ
  pub is : IsDownloadEntry entry
  pub spelled : rest ≡ entry_bytes entry ++ more
  pub again : comes_again entries entry ≡ true

-- these entries of one card stand at the front of the bytes, as long as they are whole, and behind them this rest
pub record IsDownload (entries : List FileEntry) (rest bytes : List ℕ) : Type 0 where
  pub each : All IsDownloadEntry entries
  pub once : none_again [] entries ≡ true
  pub spelled : bytes ≡ joined (map entry_bytes entries) ++ rest
  pub ends : HasNoDownloadEntry rest ⊎ BeginsAnother entries rest

-- the sizes stand behind the days or the vehicles
abbrev pub are_sizes_late : List FileEntry → Bool
are_sizes_late [] = false
are_sizes_late (e ∷ es) = not (is_value 0x0501 e)
    && (is_value 0x0504 e || (is_value 0x0505 e || are_sizes_late es))

-- it is the value or the signature of the sizes
abbrev pub is_of_sizes : FileEntry → Bool
is_of_sizes e = nat_eq e.fid 0x0501

-- an entry of the first generation that is of the sizes, and one that is of another file
abbrev pub is_first_of_sizes : FileEntry → Bool
is_first_of_sizes e = is_first e && is_of_sizes e

abbrev pub is_first_of_others : FileEntry → Bool
is_first_of_others e = is_first e && not (is_of_sizes e)

-- what is passed on: the entries of the first generation in their order, but those of the sizes first where these come
-- late
abbrev pub passed_on : List FileEntry → List FileEntry
passed_on entries = if are_sizes_late entries then filter is_first_of_sizes entries ++ filter is_first_of_others entries
    else filter is_first entries
